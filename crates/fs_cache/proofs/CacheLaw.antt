-- From a step of the cache to what it keeps and what it tells: each call has done to what is seen of the pages what its place asks, by the
-- laws of its kind; behind it the cache stands where its words say, and each block holds what it held.
use Rattle.std.proofs.Common.{◌≡◌, ◌≢◌, ◌∙◌, ◌<◌, ◌-◌, ◌/◌, ◌==◌, ◌⊎◌, inl, inr, ℕ, Bool, true, false, is_some, List, length, Option, Some, None}
use Rattle.std.proofs.Common.{Ok, Err, refl, sym, ap, subst, mod-eq_of_lt, if◌then◌else◌}
use Rattle.std.proofs.lemmas.Bool.{cases_lt}
use Rattle.jos_host.specs.Files.{Files}
use Rattle.jos_host.specs.Frames.{Around, from_to}
use Rattle.jos_base.specs.declared.numbers.TheConstants.{NPTENTRIES}
use Rattle.jos_base.specs.declared.environment.EnvType.{EnvType}
use Rattle.jos_base.specs.Environments.{Slot, is_live}
use Rattle.jos_base.specs.KernelState.{KernelState, slot_at}
use Rattle.jos_base.specs.Reach.{Entry}
use Rattle.jos_base.proofs.Maps.{upd-at}
use Rattle.lib_os.specs.declared.numbers.TheConstants.{CACHE_BLOCKS}
use Rattle.lib_os.specs.declared.user_os.Stop.{Stop}
use Rattle.lib_os.specs.declared.user_os.Stop.TheVariants as stop
use Rattle.lib_os.specs.BlockCache.{CachedBlocks, KeepsValues, is_dirty}
use Rattle.lib_os.specs.Disk.{Disk, HasBlocks, disk_in}
use Rattle.lib_os.specs.InOrder.{IsInOrder}
use Rattle.lib_os.specs.UserCalls.{Output, is_file_server}
use Rattle.fs_blocks.specs.declared.place.CachePlace.{CachePlace}
use Rattle.fs_blocks.specs.declared.place.CachePlace.TheVariants as at
use Rattle.fs_blocks.specs.declared.place.CacheState.{CacheState}
use Rattle.fs_blocks.specs.declared.plan.CacheAsk.TheVariants as ask
use Rattle.fs_blocks.specs.declared.plan.Told.{Told}
use Rattle.fs_blocks.specs.declared.plan.Told.TheVariants as told
use Rattle.fs_cache.specs.declared.steps.Cached.TheVariants as cached
use Rattle.fs_cache.specs.declared.steps.Flushed.TheVariants as flushed
use Rattle.fs_blocks.specs.CachePlaces.{state_in, with_state}
use Rattle.fs_blocks.specs.CachePlans.{ask_by, block_of, fetching, flushing, next_by}
use Rattle.fs_cache.specs.CacheStands.{CacheAt, CacheStands, CacheView, HoldsBlock, cache_view, cached_at, cached_in, was_used}
use Rattle.fs_cache.specs.CacheSteps.{Caller, FilesAfter, HasGone, by_word, stopped, IsReply, KeepsCache}
use Rattle.fs_cache.specs.CacheSteps.{ComesOn, FetchTells, FetchTold, FlushTells, FlushTold, IsBlockStep, IsReady, WasRefused, as_cached, as_flushed}
use Rattle.fs_cache.specs.CacheSteps.{block_calls, fetch_calls, flush_calls, is_fetching}
use Rattle.fs_cache.specs.CacheSteps.{cache_state, fetch_left, fetch_state, flush_left, flush_state, gone_on, is_found, left_in, row_in, wait_left}
use Rattle.fs_cache.proofs.CacheBegins.{IsUnderWay, fetch_caches, fetch_fetches, fetch_goes, fetch_stands}
use Rattle.fs_cache.proofs.CacheBegins.{fetch_tells, FetchEnds, goes_on, gives_up}
use Rattle.fs_cache.proofs.CacheBegins.{flush_caches, flush_goes, flush_stands, own_ask, rests_clean, rests_without}
use Rattle.fs_blocks.proofs.CacheWords.{length_with, state_back}
use Rattle.fs_cache.proofs.Interfaces.{BlockIsRead, BlockIsWritten, CallerStays, EntryIsRead, IsServer}
use Rattle.fs_cache.proofs.Interfaces.{LoadsGive, PageIsMapped, PageIsTaken, PageIsUnmapped}
use Rattle.fs_cache.proofs.Interfaces.{RegionIsRead, view_in}
use Rattle.fs_cache.proofs.Loads.{row_past}
use Rattle.fs_cache.proofs.FallsCalls.{flush_calls_fall, flushing_fetches_none}
use Rattle.fs_cache.proofs.FallsHeld.{held_falls}
use Rattle.fs_cache.proofs.NearFalls.{NearFollows, begins, comes, lacks, near-falls}
use Rattle.fs_cache.proofs.Waits.{found_by, wait_falls}
use Rattle.fs_cache.proofs.Views.{DoneAt, EndsRightly, FetchFalls, FlushFalls, StandsBehind, left_by}

-- what is shown of the calls, kind by kind, and of what they do to what is seen
pub record Pieces : Type 0 where
  pub stands_behind : StandsBehind
  pub ends_rightly : EndsRightly
  pub fetch_falls : FetchFalls
  pub flush_falls : FlushFalls
  pub caller_stays : CallerStays
  pub region_is_read : RegionIsRead
  pub entry_is_read : EntryIsRead
  pub loads_give : LoadsGive
  pub page_is_taken : PageIsTaken
  pub page_is_mapped : PageIsMapped
  pub page_is_unmapped : PageIsUnmapped
  pub block_is_read : BlockIsRead
  pub block_is_written : BlockIsWritten

there : (d : Disk) (v : CacheView) (n : ℕ) → HoldsBlock d v n → is_some (v.row n) ≡ true
there d v n h = ap (λ (o : Option Entry). is_some o) h.stands

used_there : (o : Option Entry) → was_used o ≡ true → is_some o ≡ true
used_there None used = used
used_there (Some e) used = refl

abbrev IsGoing : Told → Type 0
IsGoing told.Going = Unit {0}
IsGoing _ = ⊥

abbrev IsNoPage : Told → Type 0
IsNoPage told.NoPage = Unit {0}
IsNoPage _ = ⊥

-- ---- one call

module _ (p : Pieces) (c : Caller) (files : Files) (behind : Option Files) (mid : KernelState) (output : Output)
    (server : IsServer c.state c.slot) (whole : HasBlocks (Some files) c.disk) where
  -- what the call at a place has done, and to which disk
  abbrev HasDone : CachePlace → ℕ → ℕ → Type 0
  HasDone place hand word =
      (after : Files) × (behind ≡ Some after)
      × DoneAt place hand (disk_in files c.disk) (disk_in after c.disk) (view_in c.state c.slot) (view_in mid c.slot) word

  plain : {X : Type 0} → behind ≡ Some files → X →
      (after : Files) × (behind ≡ Some after) × (X × (disk_in after c.disk ≡ disk_in files c.disk))
  plain is x = (files, is, (x, refl))

  read : (b : ℕ) → b < CACHE_BLOCKS → (word : ℕ) → IsReply (ask.ReadBlock (block_of b)) c (Some files) (Ok word) mid output →
      IsReply (ask.ReadBlock b) c (Some files) (Ok word) mid output
  read b below word reply = subst (λ (k : ℕ). IsReply (ask.ReadBlock k) c (Some files) (Ok word) mid output) (mod-eq_of_lt below) reply

  sent : (b : ℕ) → b < CACHE_BLOCKS → (word : ℕ) → IsReply (ask.WriteBlock (block_of b)) c (Some files) (Ok word) mid output →
      IsReply (ask.WriteBlock b) c (Some files) (Ok word) mid output
  sent b below word reply = subst (λ (k : ℕ). IsReply (ask.WriteBlock k) c (Some files) (Ok word) mid output) (mod-eq_of_lt below) reply

  sent_files : (b : ℕ) → b < CACHE_BLOCKS → (word : ℕ) → FilesAfter (ask.WriteBlock (block_of b)) c (Ok word) (from_to (Some files) behind) →
      FilesAfter (ask.WriteBlock b) c (Ok word) (from_to (Some files) behind)
  sent_files b below word told = subst (λ (k : ℕ). FilesAfter (ask.WriteBlock k) c (Ok word) (from_to (Some files) behind)) (mod-eq_of_lt below) told

  has_done : (place : CachePlace) (hand word : ℕ) → CacheStands (disk_in files c.disk) (view_in c.state c.slot) place hand → IsUnderWay place →
      IsReply (ask_by place hand) c (Some files) (Ok word) mid output →
      FilesAfter (ask_by place hand) c (Ok word) (from_to (Some files) behind) → HasDone place hand word
  has_done at.Resting hand word s goes reply told = absurd goes
  has_done (at.Found b) hand word s goes reply told = absurd goes
  has_done (at.LookingRegion b) hand word s goes reply told =
      plain told (p.region_is_read c (Some files) b word mid output server s.block_below reply)
  has_done (at.LookingPage b) hand word s goes reply told =
      plain told (p.entry_is_read (disk_in files c.disk) c (Some files) b word (at.LookingPage b) hand mid output server s s.block_below reply)
  has_done (at.Taking b) hand word s goes reply told =
      plain told (p.page_is_taken c (Some files) b word mid output server s.block_below s.at reply).0
  has_done (at.Filling b) hand word s goes reply told =
      plain told (p.block_is_read c files b word (at.Filling b) hand mid output server s s.block_below s.at (read b s.block_below word reply))
  has_done (at.Settling b) hand word s goes reply told =
      let d = disk_in files c.disk in
      plain told
      (p.page_is_mapped d c (Some files) b b word (at.Settling b) hand mid output server s s.block_below s.block_below
      (there d (view_in c.state c.slot) b s.at) (inl refl) reply)
  has_done (at.HandRegion b left) hand word s goes reply told =
      plain told (p.region_is_read c (Some files) hand word mid output server s.hand_below reply)
  has_done (at.HandPage b left) hand word s goes reply told =
      plain told (p.entry_is_read (disk_in files c.disk) c (Some files) hand word (at.HandPage b left) hand mid output server s s.hand_below reply)
  has_done (at.WritingBack b) hand word s goes reply told =
      p.block_is_written c files behind hand word (at.WritingBack b) hand mid output server s whole s.hand_below
      (used_there ((view_in c.state c.slot).row hand) s.at.1) (sent hand s.hand_below word reply) (sent_files hand s.hand_below word told)
  has_done (at.Passing b) hand word s goes reply told =
      let d = disk_in files c.disk in
      plain told
      (p.page_is_mapped d c (Some files) hand hand word (at.Passing b) hand mid output server s s.hand_below s.hand_below
      (there d (view_in c.state c.slot) hand s.at.0.at_hand) (inl refl) reply)
  has_done (at.Moving b) hand word s goes reply told =
      let d = disk_in files c.disk in
      plain told
      (p.page_is_mapped d c (Some files) hand b word (at.Moving b) hand mid output server s s.hand_below s.block_below
      (there d (view_in c.state c.slot) hand s.at.at_hand) (inr s.at.wanted) reply)
  has_done (at.Leaving b) hand word s goes reply told = plain told (p.page_is_unmapped c (Some files) hand word mid output server s.hand_below reply)
  has_done (at.Freeing b) hand word s goes reply told = plain told (p.page_is_unmapped c (Some files) hand word mid output server s.hand_below reply)
  has_done (at.TakingLast b) hand word s goes reply told =
      plain told (p.page_is_taken c (Some files) b word mid output server s.block_below (s.at b s.block_below) reply).0
  has_done (at.FlushRegion b) hand word s goes reply told =
      plain told (p.region_is_read c (Some files) b word mid output server s.block_below reply)
  has_done (at.FlushPage b) hand word s goes reply told =
      plain told (p.entry_is_read (disk_in files c.disk) c (Some files) b word (at.FlushPage b) hand mid output server s s.block_below reply)
  has_done (at.FlushWriting b) hand word s goes reply told =
      p.block_is_written c files behind b word (at.FlushWriting b) hand mid output server s whole s.block_below
      s.at.1 (sent b s.block_below word reply) (sent_files b s.block_below word told)
  has_done (at.FlushSettling b) hand word s goes reply told =
      let d = disk_in files c.disk in
      plain told
      (p.page_is_mapped d c (Some files) b b word (at.FlushSettling b) hand mid output server s s.block_below s.block_below
      (there d (view_in c.state c.slot) b s.at.1) (inl refl) reply)

  -- No call is stopped.
  no_block : (why : Stop) → why ≢ stop.Failed → (b : ℕ) → IsReply (ask.ReadBlock b) c (Some files) (Err why) mid output → ⊥
  no_block stop.Failed other b reply = other refl
  no_block stop.Upcall other b reply = reply
  no_block stop.Ended other b reply = reply

  no_sent : (why : Stop) → why ≢ stop.Failed → (b : ℕ) → IsReply (ask.WriteBlock b) c (Some files) (Err why) mid output → ⊥
  no_sent stop.Failed other b reply = other refl
  no_sent stop.Upcall other b reply = reply
  no_sent stop.Ended other b reply = reply

  no_region : (b : ℕ) → b < CACHE_BLOCKS → (why : Stop) → IsReply (ask_by (at.LookingRegion b) 0) c (Some files) (Err why) mid output → ⊥
  no_region b below why reply = (p.loads_give c (Some files) b mid output why server below).0 reply

  no_entry : (b : ℕ) → b < CACHE_BLOCKS → (view_in c.state c.slot).tables (b / NPTENTRIES) ≡ true → (why : Stop) →
      IsReply (ask_by (at.LookingPage b) 0) c (Some files) (Err why) mid output → ⊥
  no_entry b below table why reply = (p.loads_give c (Some files) b mid output why server below).1 table reply

  not_stopped : (place : CachePlace) (hand : ℕ) (why : Stop) → CacheStands (disk_in files c.disk) (view_in c.state c.slot) place hand →
      IsUnderWay place → why ≢ stop.Failed → IsReply (ask_by place hand) c (Some files) (Err why) mid output → ⊥
  not_stopped at.Resting hand why s goes other reply = goes
  not_stopped (at.Found b) hand why s goes other reply = goes
  not_stopped (at.LookingRegion b) hand why s goes other reply = no_region b s.block_below why reply
  not_stopped (at.LookingPage b) hand why s goes other reply = no_entry b s.block_below s.at why reply
  not_stopped (at.Taking b) hand why s goes other reply = reply
  not_stopped (at.Filling b) hand why s goes other reply = no_block why other (block_of b) reply
  not_stopped (at.Settling b) hand why s goes other reply = reply
  not_stopped (at.HandRegion b left) hand why s goes other reply = no_region hand s.hand_below why reply
  not_stopped (at.HandPage b left) hand why s goes other reply = no_entry hand s.hand_below s.at.1 why reply
  not_stopped (at.WritingBack b) hand why s goes other reply = no_sent why other (block_of hand) reply
  not_stopped (at.Passing b) hand why s goes other reply = reply
  not_stopped (at.Moving b) hand why s goes other reply = reply
  not_stopped (at.Leaving b) hand why s goes other reply = reply
  not_stopped (at.Freeing b) hand why s goes other reply = reply
  not_stopped (at.TakingLast b) hand why s goes other reply = reply
  not_stopped (at.FlushRegion b) hand why s goes other reply = no_region b s.block_below why reply
  not_stopped (at.FlushPage b) hand why s goes other reply = no_entry b s.block_below s.at.1 why reply
  not_stopped (at.FlushWriting b) hand why s goes other reply = no_sent why other (block_of b) reply
  not_stopped (at.FlushSettling b) hand why s goes other reply = reply

-- ---- the words that are set behind it

module _ (mid : KernelState) (n : ℕ) (next : CacheState) where
  slot_behind : slot_at (gone_on mid n next) n ≡ record (slot_at mid n) { extra = with_state (slot_at mid n).extra next }
  slot_behind = upd-at mid.environments.slots n (record (slot_at mid n) { extra = with_state (slot_at mid n).extra next })

  view_behind : view_in (gone_on mid n next) n ≡ view_in mid n
  view_behind = ap (λ (x : Slot). cache_view mid.spaces x.directory) slot_behind

  state_behind : length (slot_at mid n).extra ≡ 12 → (e : Disk) → CacheStands e (view_in mid n) next.place next.hand →
      cache_state (gone_on mid n next) n ≡ next
  state_behind twelve e stands =
      ap (λ (x : Slot). state_in x.extra) slot_behind ∙ state_back (slot_at mid n).extra twelve next stands.block_below stands.hand_below

  at_behind : length (slot_at mid n).extra ≡ 12 → is_live (slot_at mid n) ≡ true → is_file_server (slot_at mid n).env_type ≡ true →
      (e : Disk) → CacheStands e (view_in mid n) next.place next.hand → IsInOrder (gone_on mid n next) → CacheAt e (gone_on mid n next) n
  at_behind twelve live server e stands in_order = record {
    in_order = in_order;
    live = ap (λ (x : Slot). is_live x) slot_behind ∙ live;
    server = ap (λ (x : Slot). is_file_server x.env_type) slot_behind ∙ server;
    words = ap (λ (x : Slot). length x.extra) slot_behind ∙ length_with (slot_at mid n).extra twelve next;
    stands =
        subst (λ (x : CacheState). CacheStands e (view_in (gone_on mid n next) n) x.place x.hand) (sym (state_behind twelve e stands))
        (subst (λ (v : CacheView). CacheStands e v next.place next.hand) (sym view_behind) stands);
  }

-- ---- one step

-- a step that the cache has made where it stands over a disk that the host tells
pub record Stepped (c : Caller) (before : Files) (place : CachePlace) (hand : ℕ) (behind : Option Files) (tells : Told) (after : KernelState)
    : Type 0 where
  pub word : ℕ
  pub files : Files
  pub told_files : behind ≡ Some files
  pub tells_is : tells ≡ (next_by place hand word).told
  pub view : CacheView
  pub done : DoneAt place hand (disk_in before c.disk) (disk_in files c.disk) (view_in c.state c.slot) view word
  pub view_is : view_in after c.slot ≡ view
  pub state_is : cache_state after c.slot ≡ (next_by place hand word).state
  pub cache : CacheAt (disk_in files c.disk) after c.slot
  pub values : KeepsValues (disk_in before c.disk) (cached_at (view_in c.state c.slot) place) (disk_in files c.disk) (cached_in after c.slot)
  -- where a page was asked for last, and refused
  pub refused : (b : ℕ) → place ≡ at.TakingLast b → (word == 0) ≡ false → WasRefused c.state after
  -- and where it was asked for first
  pub refused_first : (b : ℕ) → place ≡ at.Taking b → (word == 0) ≡ false → WasRefused c.state after

module _ (p : Pieces) (c : Caller) (before : Files) (behind : Option Files) (place : CachePlace) (hand : ℕ) (tells : Told) (output : Output)
    (server : IsServer c.state c.slot) (whole : HasBlocks (Some before) c.disk) (twelve : length (slot_at c.state c.slot).extra ≡ 12)
    (stands : CacheStands (disk_in before c.disk) (view_in c.state c.slot) place hand) (goes : IsUnderWay place) where
  refused_last : (word : ℕ) (mid : KernelState) → IsReply (ask_by place hand) c (Some before) (Ok word) mid output →
      (b : ℕ) → place ≡ at.TakingLast b → (word == 0) ≡ false → WasRefused c.state mid
  refused_last word mid reply b is refused few =
      let last : CacheStands (disk_in before c.disk) (view_in c.state c.slot) (at.TakingLast b) hand =
      subst (λ (x : CachePlace). CacheStands (disk_in before c.disk) (view_in c.state c.slot) x hand) is stands in
      let asked = subst (λ (x : CachePlace). IsReply (ask_by x hand) c (Some before) (Ok word) mid output) is reply in
      (p.page_is_taken c (Some before) b word mid output server last.block_below (last.at b last.block_below) asked).1 refused few

  refused_at_first : (word : ℕ) (mid : KernelState) → IsReply (ask_by place hand) c (Some before) (Ok word) mid output →
      (b : ℕ) → place ≡ at.Taking b → (word == 0) ≡ false → WasRefused c.state mid
  refused_at_first word mid reply b is refused few =
      let first : CacheStands (disk_in before c.disk) (view_in c.state c.slot) (at.Taking b) hand =
      subst (λ (x : CachePlace). CacheStands (disk_in before c.disk) (view_in c.state c.slot) x hand) is stands in
      let asked = subst (λ (x : CachePlace). IsReply (ask_by x hand) c (Some before) (Ok word) mid output) is reply in
      (p.page_is_taken c (Some before) b word mid output server first.block_below first.at asked).1 refused few

  by_its_word : (word : ℕ) (mid : KernelState) → IsReply (ask_by place hand) c (Some before) (Ok word) mid output →
      FilesAfter (ask_by place hand) c (Ok word) (from_to (Some before) behind) → tells ≡ (next_by place hand word).told →
      IsInOrder (gone_on mid c.slot (next_by place hand word).state) →
      Stepped c before place hand behind tells (gone_on mid c.slot (next_by place hand word).state)
  by_its_word word mid reply files tells_is in_order =
      let n = c.slot in
      let next = (next_by place hand word).state in
      let d = disk_in before c.disk in
      let v = view_in c.state n in
      let stays = p.caller_stays (ask_by place hand) c (Some before) word mid output (own_ask place hand) server.live reply in
      let done = has_done p c before behind mid output server whole place hand word stands goes reply files in
      let e = disk_in done.0 c.disk in
      let after = p.stands_behind d e v (view_in mid n) place hand word stands done.2 in
      let long = ap (λ (w : List ℕ). length w) stays.extra ∙ twelve in
      let serves = ap (λ (t : EnvType). is_file_server t) stays.env_type ∙ server.server in
      record {
        word = word;
        files = done.0;
        told_files = done.1;
        tells_is = tells_is;
        view = view_in mid n;
        done = done.2;
        view_is = view_behind mid n next;
        state_is = state_behind mid n next long e after.0;
        cache = at_behind mid n next long stays.live serves e after.0 in_order;
        values =
            subst (λ (k : CachedBlocks). KeepsValues d (cached_at v place) e k)
            (sym (λ i. cached_at (view_behind mid n next i) (state_behind mid n next long e after.0 i).place)) after.1;
        refused = refused_last word mid reply;
        refused_first = refused_at_first word mid reply;
      }

  pub stepped : (after : KernelState) → IsInOrder after →
      HasGone (record { place = place; hand = hand }) c (from_to (Some before) behind) tells after output →
      Stepped c before place hand behind tells after
  stepped after in_order (by_word word mid reply files tells_is is) =
      subst (λ (x : KernelState). Stepped c before place hand behind tells x) (sym is)
      (by_its_word word mid reply files tells_is (subst (λ (x : KernelState). IsInOrder x) is in_order))
  stepped after in_order (stopped why other reply files tells_is) =
      absurd (not_stopped p c before behind after output server whole place hand why stands goes other reply)

-- ---- what a step has kept

pub server_of : (d : Disk) (s : KernelState) (n : ℕ) → CacheAt d s n → IsServer s n
server_of d s n cache = record { in_order = cache.in_order; live = cache.live; server = cache.server }

-- the numbers before and behind a step, as they are seen
left_behind : (number : CachePlace → ℕ → ℕ → ℕ) (c : Caller) (before : Files) (place : CachePlace) (hand : ℕ) (behind : Option Files) (tells : Told)
    (after : KernelState) (x : Stepped c before place hand behind tells after) →
    left_in number (cache_state after c.slot).place after c.slot ≡ left_by number (next_by place hand x.word).state.place x.view
left_behind number c before place hand behind tells after x = λ i. left_by number (x.state_is i).place (x.view_is i)

-- where the cache stands behind a step, and the row of its pages
place_behind : (c : Caller) (before : Files) (place : CachePlace) (hand : ℕ) (behind : Option Files) (tells : Told)
    (after : KernelState) (x : Stepped c before place hand behind tells after) →
    (cache_state after c.slot).place ≡ (next_by place hand x.word).state.place
place_behind c before place hand behind tells after x = λ i. (x.state_is i).place

-- the rows of all numbers
all_rows : (P : Option Entry → Type 0) → P None → (s : KernelState) (n : ℕ) (v : CacheView) → view_in s n ≡ v →
    ((m : ℕ) → m < CACHE_BLOCKS → P (v.row m)) → (m : ℕ) → P (row_in s n m)
all_rows P none s n v is rows m = elim (cases_lt m CACHE_BLOCKS) [
  | inl less ↦ subst P (sym (ap (λ (w : CacheView). w.row m) is)) (rows m less)
  | inr past ↦ subst P (sym (row_past s.spaces (slot_at s n).directory m past)) none
]

-- where a fetch begins, and a flush, by what the code has found
pub fetch_from : (s : KernelState) (n block : ℕ) (place : CachePlace) (state : CacheState) (words : List ℕ) →
    place ≡ fetching state.place block → state ≡ state_in words → words ≡ (slot_at s n).extra →
    record { place = place; hand = state.hand } ≡ fetch_state s n block
fetch_from s n block place state words place_is state_is words_is =
    let known : state ≡ cache_state s n = state_is ∙ ap (λ (w : List ℕ). state_in w) words_is in
    λ i. record { place = (place_is ∙ ap (λ (x : CacheState). fetching x.place block) known) i; hand = (known i).hand }

pub flush_from : (s : KernelState) (n : ℕ) (place : CachePlace) (state : CacheState) (words : List ℕ) →
    place ≡ flushing state.place → state ≡ state_in words → words ≡ (slot_at s n).extra →
    record { place = place; hand = state.hand } ≡ flush_state s n
flush_from s n place state words place_is state_is words_is =
    let known : state ≡ cache_state s n = state_is ∙ ap (λ (w : List ℕ). state_in w) words_is in
    λ i. record { place = (place_is ∙ ap (λ (x : CacheState). flushing x.place) known) i; hand = (known i).hand }

-- whether a block was found, by what the code has found
pub not_found_there : (s : KernelState) (n block : ℕ) (state : CacheState) (words : List ℕ) → state ≡ state_in words → words ≡ (slot_at s n).extra →
    is_found block state.place ≡ false → is_found block (cache_state s n).place ≡ false
not_found_there s n block state words state_is words_are off =
    sym (ap (λ (x : CacheState). is_found block x.place) (state_is ∙ ap (λ (w : List ℕ). state_in w) words_are)) ∙ off

pub found_there : (s : KernelState) (n block : ℕ) (state : CacheState) (words : List ℕ) → state ≡ state_in words → words ≡ (slot_at s n).extra →
    is_found block state.place ≡ true → (cache_state s n).place ≡ at.Found block
found_there s n block state words state_is words_are on =
    found_by (cache_state s n).place block
    (sym (ap (λ (x : CacheState). is_found block x.place) (state_is ∙ ap (λ (w : List ℕ). state_in w) words_are)) ∙ on)

-- ---- a step towards a block

module _ (p : Pieces) (block : ℕ) (c : Caller) (tells : Told) (output : Output) (below : block < CACHE_BLOCKS) where
  abbrev fetch_place : CachePlace
  fetch_place = fetching (cache_state c.state c.slot).place block

  abbrev fetch_hand : ℕ
  fetch_hand = (cache_state c.state c.slot).hand

  fetch_stepped : (before : Files) (behind : Option Files) (after : KernelState) → HasBlocks (Some before) c.disk → IsInOrder after →
      CacheAt (disk_in before c.disk) c.state c.slot →
      HasGone (fetch_state c.state c.slot block) c (from_to (Some before) behind) tells after output →
      Stepped c before fetch_place fetch_hand behind tells after
  fetch_stepped before behind after whole in_order cache gone =
      let state = cache_state c.state c.slot in
      let d = disk_in before c.disk in
      stepped p c before behind fetch_place fetch_hand tells output (server_of d c.state c.slot cache) whole cache.words
      (fetch_stands d (view_in c.state c.slot) state.place state.hand block below cache.stands) (fetch_goes state.place block) after in_order gone

  pub fetch_keeps : (files : Around (Option Files)) (after : KernelState) → HasBlocks files.before c.disk → IsInOrder after →
      HasGone (fetch_state c.state c.slot block) c files tells after output → KeepsCache c.disk c.slot (from_to c.state after) files
  fetch_keeps files after whole in_order gone before is cache =
      let state = cache_state c.state c.slot in
      let x = fetch_stepped before files.after after (subst (λ (f : Option Files). HasBlocks f c.disk) is whole) in_order cache
      (subst (λ (f : Option Files). HasGone (fetch_state c.state c.slot block) c (from_to f files.after) tells after output) is gone) in (
        x.files,
        x.told_files,
        x.cache,
        subst (λ (k : CachedBlocks). KeepsValues (disk_in before c.disk) k (disk_in x.files c.disk) (cached_in after c.slot))
            (fetch_caches (view_in c.state c.slot) state.place block) x.values,
      )

  fetch_at : (before : Files) → CacheAt (disk_in before c.disk) c.state c.slot →
      CacheStands (disk_in before c.disk) (view_in c.state c.slot) fetch_place fetch_hand
  fetch_at before cache =
      let state = cache_state c.state c.slot in
      fetch_stands (disk_in before c.disk) (view_in c.state c.slot) state.place state.hand block below cache.stands

  module _ (before : Files) (behind : Option Files) (after : KernelState) (cache : CacheAt (disk_in before c.disk) c.state c.slot)
      (x : Stepped c before fetch_place fetch_hand behind tells after) where
    fetch_ends : FetchEnds fetch_place x.word (next_by fetch_place fetch_hand x.word).told
    fetch_ends = fetch_tells fetch_place fetch_hand x.word (fetch_fetches (cache_state c.state c.slot).place block)

    fetch_gave_up : FetchEnds fetch_place x.word (next_by fetch_place fetch_hand x.word).told → tells ≡ told.NoPage →
        FetchTells block cached.NoPage c.slot (from_to c.state after)
    fetch_gave_up (goes_on going) is = absurd (subst IsGoing (sym going ∙ sym x.tells_is ∙ is) tt)
    fetch_gave_up (gives_up b place_is refused told_is) is =
        let d = disk_in before c.disk in
        let e = disk_in x.files c.disk in
        let v = view_in c.state c.slot in (
          x.refused b place_is refused,
          all_rows (λ o. o ≡ None) refl after c.slot x.view x.view_is
              ((p.ends_rightly d e v x.view fetch_place fetch_hand x.word (fetch_at before cache) x.done).0 (sym x.tells_is ∙ is)),
          place_behind c before fetch_place fetch_hand behind tells after x
              ∙ rests_without fetch_place fetch_hand x.word b place_is refused,
        )

    -- where no page is refused, there is one call fewer
    fetch_came : is_found block (cache_state c.state c.slot).place ≡ false →
        NearFollows block fetch_place x.word (next_by fetch_place fetch_hand x.word) →
        ComesOn block (cache_state c.state c.slot).place (cache_state after c.slot).place ⊎ WasRefused c.state after
    fetch_came not_found (comes going ready fewer) =
        let now = sym (place_behind c before fetch_place fetch_hand behind tells after x) in
        inl (
          subst (λ (p : CachePlace). IsReady block p) now ready,
          subst (λ (p : CachePlace). block_calls block p < block_calls block (cache_state c.state c.slot).place) now
              (subst (λ (k : ℕ). block_calls block (next_by fetch_place fetch_hand x.word).state.place < k)
              (sym (ap (λ (t : Bool). if t then 0 else fetch_calls fetch_place) not_found)) fewer),
        )
    fetch_came not_found (lacks is off) = inr (x.refused_first block is off)

    fetch_fell : is_found block (cache_state c.state c.slot).place ≡ false → tells ≡ told.Going →
        FetchTells block cached.Going c.slot (from_to c.state after)
    fetch_fell not_found is =
        let d = disk_in before c.disk in
        let e = disk_in x.files c.disk in
        let v = view_in c.state c.slot in
        let fell = p.fetch_falls d e v x.view fetch_place fetch_hand x.word (fetch_at before cache) x.done
        (fetch_fetches (cache_state c.state c.slot).place block) (sym x.tells_is ∙ is) in (
          subst (λ (k : ℕ). k < left_in fetch_left fetch_place c.state c.slot)
              (sym (left_behind fetch_left c before fetch_place fetch_hand behind tells after x)) fell,
          subst (λ (k : ℕ). k < left_in (wait_left block) (cache_state c.state c.slot).place c.state c.slot)
              (sym (left_behind (wait_left block) c before fetch_place fetch_hand behind tells after x))
              (wait_falls (cache_state c.state c.slot).place fetch_hand x.word block v x.view not_found (sym x.tells_is ∙ is)
              (held_falls d e v x.view fetch_place fetch_hand x.word (fetch_at before cache) x.done
              (fetch_fetches (cache_state c.state c.slot).place block))),
          λ ready. fetch_came not_found
              (near-falls block fetch_hand x.word (begins block (cache_state c.state c.slot).place ready)),
        )

    fetch_not_clean : FetchEnds fetch_place x.word (next_by fetch_place fetch_hand x.word).told → tells ≡ told.Clean → ⊥
    fetch_not_clean (goes_on going) is = subst IsGoing (sym going ∙ sym x.tells_is ∙ is) tt
    fetch_not_clean (gives_up b place_is refused told_is) is = subst IsNoPage (sym told_is ∙ sym x.tells_is ∙ is) tt

    fetch_is : is_found block (cache_state c.state c.slot).place ≡ false → (t : Told) → tells ≡ t →
        FetchTells block (as_cached t) c.slot (from_to c.state after)
    fetch_is not_found told.NoPage is = fetch_gave_up fetch_ends is
    fetch_is not_found told.Going is = fetch_fell not_found is
    fetch_is not_found told.Clean is = absurd (fetch_not_clean fetch_ends is)

  pub fetch_is_told : (files : Around (Option Files)) (after : KernelState) → HasBlocks files.before c.disk → IsInOrder after →
      HasGone (fetch_state c.state c.slot block) c files tells after output → is_found block (cache_state c.state c.slot).place ≡ false →
      FetchTold block (Ok (as_cached tells)) c.disk c.slot (from_to c.state after) files.before
  fetch_is_told files after whole in_order gone not_found before is cache =
      let x = fetch_stepped before files.after after (subst (λ (f : Option Files). HasBlocks f c.disk) is whole) in_order cache
      (subst (λ (f : Option Files). HasGone (fetch_state c.state c.slot block) c (from_to f files.after) tells after output) is gone) in
      fetch_is before files.after after cache x not_found tells refl

pub fetch_made : (block : ℕ) (c : Caller) (output : Output) (files : Around (Option Files)) (after : KernelState) (t : Told) →
    HasGone (fetch_state c.state c.slot block) c files t after output → IsBlockStep block c (Ok (as_cached t)) files after output
fetch_made block c output files after told.NoPage gone = (told.NoPage, refl, gone)
fetch_made block c output files after told.Going gone = (told.Going, refl, gone)
fetch_made block c output files after told.Clean gone = (told.Clean, refl, gone)

-- ---- a step of a flush

module _ (p : Pieces) (c : Caller) (tells : Told) (output : Output) where
  abbrev flush_place : CachePlace
  flush_place = flushing (cache_state c.state c.slot).place

  abbrev flush_hand : ℕ
  flush_hand = (cache_state c.state c.slot).hand

  flush_at : (before : Files) → CacheAt (disk_in before c.disk) c.state c.slot →
      CacheStands (disk_in before c.disk) (view_in c.state c.slot) flush_place flush_hand
  flush_at before cache =
      let state = cache_state c.state c.slot in
      flush_stands (disk_in before c.disk) (view_in c.state c.slot) state.place state.hand cache.stands

  flush_stepped : (before : Files) (behind : Option Files) (after : KernelState) → HasBlocks (Some before) c.disk → IsInOrder after →
      CacheAt (disk_in before c.disk) c.state c.slot →
      HasGone (flush_state c.state c.slot) c (from_to (Some before) behind) tells after output →
      Stepped c before flush_place flush_hand behind tells after
  flush_stepped before behind after whole in_order cache gone =
      stepped p c before behind flush_place flush_hand tells output (server_of (disk_in before c.disk) c.state c.slot cache) whole cache.words
      (flush_at before cache) (flush_goes (cache_state c.state c.slot).place) after in_order gone

  pub flush_keeps : (files : Around (Option Files)) (after : KernelState) → HasBlocks files.before c.disk → IsInOrder after →
      HasGone (flush_state c.state c.slot) c files tells after output → KeepsCache c.disk c.slot (from_to c.state after) files
  flush_keeps files after whole in_order gone before is cache =
      let state = cache_state c.state c.slot in
      let x = flush_stepped before files.after after (subst (λ (f : Option Files). HasBlocks f c.disk) is whole) in_order cache
      (subst (λ (f : Option Files). HasGone (flush_state c.state c.slot) c (from_to f files.after) tells after output) is gone) in (
        x.files,
        x.told_files,
        x.cache,
        subst (λ (k : CachedBlocks). KeepsValues (disk_in before c.disk) k (disk_in x.files c.disk) (cached_in after c.slot))
            (flush_caches (view_in c.state c.slot) state.place) x.values,
      )

  module _ (before : Files) (behind : Option Files) (after : KernelState) (cache : CacheAt (disk_in before c.disk) c.state c.slot)
      (x : Stepped c before flush_place flush_hand behind tells after) where
    flush_ended : tells ≡ told.Clean → FlushTells flushed.Clean c.slot (from_to c.state after)
    flush_ended is =
        let d = disk_in before c.disk in
        let e = disk_in x.files c.disk in
        let v = view_in c.state c.slot in (
          all_rows (λ o. is_dirty o ≡ false) refl after c.slot x.view x.view_is
              ((p.ends_rightly d e v x.view flush_place flush_hand x.word (flush_at before cache) x.done).1 (sym x.tells_is ∙ is)),
          place_behind c before flush_place flush_hand behind tells after x
              ∙ rests_clean flush_place flush_hand x.word (sym x.tells_is ∙ is),
        )

    -- where no fetch was under way, there is one call fewer
    flush_came : (tells ≡ told.Clean → ⊥) → is_fetching (cache_state c.state c.slot).place ≡ false →
        (is_fetching (cache_state after c.slot).place ≡ false)
        × (flush_calls (flushing (cache_state after c.slot).place) (row_in after c.slot) < flush_calls flush_place (row_in c.state c.slot))
    flush_came other off =
        let d = disk_in before c.disk in
        let e = disk_in x.files c.disk in
        let v = view_in c.state c.slot in
        let fell = flush_calls_fall d e v x.view flush_place flush_hand x.word (flush_at before cache) x.done
        (flushing_fetches_none (cache_state c.state c.slot).place off) (λ is. other (x.tells_is ∙ is)) in (
          (λ i. is_fetching (x.state_is i).place) ∙ fell.0,
          subst (λ (k : ℕ). k < flush_calls flush_place (row_in c.state c.slot))
              (sym (λ i. flush_calls (flushing (x.state_is i).place) (x.view_is i).row)) fell.1,
        )

    flush_fell : (tells ≡ told.Clean → ⊥) → FlushTells flushed.Going c.slot (from_to c.state after)
    flush_fell other =
        let d = disk_in before c.disk in
        let e = disk_in x.files c.disk in
        let v = view_in c.state c.slot in (
          subst (λ (k : ℕ). k < left_in flush_left flush_place c.state c.slot)
              (sym (left_behind flush_left c before flush_place flush_hand behind tells after x))
              (p.flush_falls d e v x.view flush_place flush_hand x.word (flush_at before cache) x.done (λ is. other (x.tells_is ∙ is))),
          flush_came other,
        )

    flush_is : (t : Told) → tells ≡ t → FlushTells (as_flushed t) c.slot (from_to c.state after)
    flush_is told.NoPage is = flush_fell (λ clean. subst IsNoPage (sym is ∙ clean) tt)
    flush_is told.Going is = flush_fell (λ clean. subst IsGoing (sym is ∙ clean) tt)
    flush_is told.Clean is = flush_ended is

  pub flush_is_told : (files : Around (Option Files)) (after : KernelState) → HasBlocks files.before c.disk → IsInOrder after →
      HasGone (flush_state c.state c.slot) c files tells after output →
      FlushTold (Ok (as_flushed tells)) c.disk c.slot (from_to c.state after) files.before
  flush_is_told files after whole in_order gone before is cache =
      let x = flush_stepped before files.after after (subst (λ (f : Option Files). HasBlocks f c.disk) is whole) in_order cache
      (subst (λ (f : Option Files). HasGone (flush_state c.state c.slot) c (from_to f files.after) tells after output) is gone) in
      flush_is before files.after after cache x tells refl
