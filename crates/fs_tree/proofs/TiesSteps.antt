-- A step of the cache towards a block, as a job sees it: its memory, and where it stands, are as before. Nothing is printed, and the rest of the slots stays.
use Rattle.std.proofs.Common.{◌≡◌, ◌≢◌, ◌∙◌, ◌/◌, ◌%◌, ◌<◌, ℕ, Bool, true, false, List, [], length, Option, Some, None, Ok, Err}
use Rattle.std.proofs.Common.{refl, sym, ap, subst, arith, if◌then◌else◌}
use Rattle.std.proofs.lemmas.Bool.Decides.{nat_tests}
use Rattle.std.specs.Prelude.{is_some, nat_lt, slice_index}
use Rattle.jos_host.specs.Files.{Files}
use Rattle.jos_host.specs.Frames.{Around, from_to}
use Rattle.jos_base.specs.Environments.{Environments, Slot}
use Rattle.jos_base.specs.KernelState.{KernelState, slot_at}
use Rattle.jos_base.specs.Reach.{Entry}
use Rattle.jos_base.proofs.Options.{some_is}
use Rattle.fs_layout.specs.declared.numbers.TheConstants.{BLKSIZE}
use Rattle.lib_os.specs.declared.numbers.TheConstants.{CACHE_BLOCKS}
use Rattle.lib_os.specs.declared.user_os.Stop.{Stop}
use Rattle.lib_os.specs.declared.user_os.Stop.TheVariants as stop
use Rattle.lib_os.specs.BlockCache.{CachedBlocks, KeepsValues, block_value}
use Rattle.lib_os.specs.Disk.{Disk, disk_in}
use Rattle.lib_os.specs.UserCalls.{Output, Prints}
use Rattle.lib_os.proofs.Slots.{slot_put}
use Rattle.fs_blocks.specs.declared.place.CachePlace.{CachePlace}
use Rattle.fs_blocks.specs.declared.place.CachePlace.TheVariants as at
use Rattle.fs_blocks.specs.declared.place.CacheState.{CacheState}
use Rattle.fs_blocks.specs.declared.plan.CacheAsk.TheVariants as asked
use Rattle.fs_blocks.specs.declared.plan.Told.{Told}
use Rattle.fs_blocks.specs.CachePlaces.{with_state}
use Rattle.fs_blocks.specs.CachePlans.{ask_at, ask_by, ask_map, block_of, fetching, next_by}
use Rattle.fs_cache.specs.CacheStands.{CacheStands, HoldsBlock, cached_in, was_used}
use Rattle.fs_cache.specs.CacheSteps.{Caller, HasGone, IsReply, KeepsCache, by_word, stopped, cache_state, fetch_state, gone_on}
use Rattle.fs_cache.proofs.CacheBegins.{fetch_fetches, fetch_stands}
use Rattle.fs_cache.proofs.CacheLaw.{server_of}
use Rattle.fs_blocks.proofs.CacheWords.{first_eight}
use Rattle.fs_cache.proofs.Interfaces.{IsServer, view_in}
use Rattle.fs_cache.proofs.Loads.{loads_give}
use Rattle.fs_cache.proofs.Views.{IsFetching}
use Rattle.fs_places.specs.TreePlaces.{state_in}
use Rattle.fs_tree.specs.TreeSteps.{HasRequest, IsWaiting, KeepsRest, TreeAt, disk_bytes, job_in, request_bytes}
use Rattle.fs_tree.proofs.TiesCalls.{IsKeptQuietly, RequestKept, entry_asked, map_asked, page_asked_of, read_asked, region_asked, sent_asked, unmap_asked}
use Rattle.fs_tree.proofs.TiesWords.{request_bytes_set, request_set, rest_same, rest_words}
use Rattle.fs_places.proofs.TreeWords.{state_alike}

-- ---- the call

used_there : (o : Option Entry) → was_used o ≡ true → is_some o ≡ true
used_there None used = used
used_there (Some e) used = refl

module _ (d : Disk) (c : Caller) (server : IsServer c.state c.slot) (files : Option Files) (mid : KernelState) (output : Output) where
  -- no call is stopped
  no_block : (why : Stop) → why ≢ stop.Failed → (b : ℕ) → IsReply (asked.ReadBlock b) c files (Err why) mid output → ⊥
  no_block stop.Failed other b reply = other refl
  no_block stop.Upcall other b reply = reply
  no_block stop.Ended other b reply = reply

  no_sent : (why : Stop) → why ≢ stop.Failed → (b : ℕ) → IsReply (asked.WriteBlock b) c files (Err why) mid output → ⊥
  no_sent stop.Failed other b reply = other refl
  no_sent stop.Upcall other b reply = reply
  no_sent stop.Ended other b reply = reply

  not_stopped : (place : CachePlace) (hand : ℕ) (why : Stop) → CacheStands d (view_in c.state c.slot) place hand → IsFetching place →
      why ≢ stop.Failed → IsReply (ask_by place hand) c files (Err why) mid output → ⊥
  not_stopped at.Resting hand why s goes other reply = goes
  not_stopped (at.Found b) hand why s goes other reply = goes
  not_stopped (at.LookingRegion b) hand why s goes other reply = (loads_give c files b mid output why server s.block_below).0 reply
  not_stopped (at.LookingPage b) hand why s goes other reply = (loads_give c files b mid output why server s.block_below).1 s.at reply
  not_stopped (at.Taking b) hand why s goes other reply = reply
  not_stopped (at.Filling b) hand why s goes other reply = no_block why other (block_of b) reply
  not_stopped (at.Settling b) hand why s goes other reply = reply
  not_stopped (at.HandRegion b left) hand why s goes other reply = (loads_give c files hand mid output why server s.hand_below).0 reply
  not_stopped (at.HandPage b left) hand why s goes other reply = (loads_give c files hand mid output why server s.hand_below).1 s.at.1 reply
  not_stopped (at.WritingBack b) hand why s goes other reply = no_sent why other (block_of hand) reply
  not_stopped (at.Passing b) hand why s goes other reply = reply
  not_stopped (at.Moving b) hand why s goes other reply = reply
  not_stopped (at.Leaving b) hand why s goes other reply = reply
  not_stopped (at.Freeing b) hand why s goes other reply = reply
  not_stopped (at.TakingLast b) hand why s goes other reply = reply
  not_stopped (at.FlushRegion b) hand why s goes other reply = goes
  not_stopped (at.FlushPage b) hand why s goes other reply = goes
  not_stopped (at.FlushWriting b) hand why s goes other reply = goes
  not_stopped (at.FlushSettling b) hand why s goes other reply = goes

  -- and where the host fails in one, nothing is printed
  failed_quietly : (place : CachePlace) (hand : ℕ) → CacheStands d (view_in c.state c.slot) place hand → IsFetching place →
      IsReply (ask_by place hand) c files (Err stop.Failed) mid output → Prints output []
  failed_quietly at.Resting hand s goes reply = absurd goes
  failed_quietly (at.Found b) hand s goes reply = absurd goes
  failed_quietly (at.LookingRegion b) hand s goes reply = absurd ((loads_give c files b mid output stop.Failed server s.block_below).0 reply)
  failed_quietly (at.LookingPage b) hand s goes reply = absurd ((loads_give c files b mid output stop.Failed server s.block_below).1 s.at reply)
  failed_quietly (at.Taking b) hand s goes reply = absurd reply
  failed_quietly (at.Filling b) hand s goes reply = reply.1
  failed_quietly (at.Settling b) hand s goes reply = absurd reply
  failed_quietly (at.HandRegion b left) hand s goes reply = absurd ((loads_give c files hand mid output stop.Failed server s.hand_below).0 reply)
  failed_quietly (at.HandPage b left) hand s goes reply = absurd ((loads_give c files hand mid output stop.Failed server s.hand_below).1 s.at.1 reply)
  failed_quietly (at.WritingBack b) hand s goes reply = reply.1
  failed_quietly (at.Passing b) hand s goes reply = absurd reply
  failed_quietly (at.Moving b) hand s goes reply = absurd reply
  failed_quietly (at.Leaving b) hand s goes reply = absurd reply
  failed_quietly (at.Freeing b) hand s goes reply = absurd reply
  failed_quietly (at.TakingLast b) hand s goes reply = absurd reply
  failed_quietly (at.FlushRegion b) hand s goes reply = absurd goes
  failed_quietly (at.FlushPage b) hand s goes reply = absurd goes
  failed_quietly (at.FlushWriting b) hand s goes reply = absurd goes
  failed_quietly (at.FlushSettling b) hand s goes reply = absurd goes

  module _ (h : HasRequest c.state c.slot) (word : ℕ) where
    abbrev Kept : Type 0
    Kept = IsKeptQuietly c.state mid c.slot output

    -- the page of a block is read from the disk, or sent there
    read_kept : (place : CachePlace) (hand b : ℕ) → CacheStands d (view_in c.state c.slot) place hand → b < CACHE_BLOCKS →
        is_some ((view_in c.state c.slot).row b) ≡ true → IsReply (asked.ReadBlock (block_of b)) c files (Ok word) mid output → Kept
    read_kept place hand b s below there reply =
        let found = some_is ((view_in c.state c.slot).row b) there in
        read_asked c server h files word mid output b below found.0 found.1 (s.entries b found.0 found.1) reply

    sent_kept : (place : CachePlace) (hand b : ℕ) → CacheStands d (view_in c.state c.slot) place hand → b < CACHE_BLOCKS →
        is_some ((view_in c.state c.slot).row b) ≡ true → IsReply (asked.WriteBlock (block_of b)) c files (Ok word) mid output → Kept
    sent_kept place hand b s below there reply =
        let found = some_is ((view_in c.state c.slot).row b) there in
        sent_asked c server h files word mid output b below found.0 found.1 (s.entries b found.0 found.1) reply

    map_kept : (place : CachePlace) (hand from to : ℕ) → CacheStands d (view_in c.state c.slot) place hand → from < CACHE_BLOCKS → to < CACHE_BLOCKS →
        HoldsBlock d (view_in c.state c.slot) from → IsReply (ask_map from to) c files (Ok word) mid output → Kept
    map_kept place hand from to s from_below to_below holds reply =
        map_asked c server h files word mid output from to holds.entry holds.stands (s.entries from holds.entry holds.stands) from_below to_below reply

    call_kept : (place : CachePlace) (hand : ℕ) → CacheStands d (view_in c.state c.slot) place hand → IsFetching place →
        IsReply (ask_by place hand) c files (Ok word) mid output → Kept
    call_kept at.Resting hand s goes reply = absurd goes
    call_kept (at.Found b) hand s goes reply = absurd goes
    call_kept (at.LookingRegion b) hand s goes reply = region_asked c server h files word mid output b reply
    call_kept (at.LookingPage b) hand s goes reply = entry_asked c server h files word mid output b reply
    call_kept (at.Taking b) hand s goes reply = page_asked_of c server h files word mid output b s.block_below reply
    call_kept (at.Filling b) hand s goes reply = read_kept (at.Filling b) hand b s s.block_below s.at reply
    call_kept (at.Settling b) hand s goes reply = map_kept (at.Settling b) hand b b s s.block_below s.block_below s.at reply
    call_kept (at.HandRegion b left) hand s goes reply = region_asked c server h files word mid output hand reply
    call_kept (at.HandPage b left) hand s goes reply = entry_asked c server h files word mid output hand reply
    call_kept (at.WritingBack b) hand s goes reply =
        sent_kept (at.WritingBack b) hand hand s s.hand_below (used_there ((view_in c.state c.slot).row hand) s.at.1) reply
    call_kept (at.Passing b) hand s goes reply = map_kept (at.Passing b) hand hand hand s s.hand_below s.hand_below s.at.0.at_hand reply
    call_kept (at.Moving b) hand s goes reply = map_kept (at.Moving b) hand hand b s s.hand_below s.block_below s.at.at_hand reply
    call_kept (at.Leaving b) hand s goes reply = unmap_asked c server h files word mid output hand s.hand_below reply
    call_kept (at.Freeing b) hand s goes reply = unmap_asked c server h files word mid output hand s.hand_below reply
    call_kept (at.TakingLast b) hand s goes reply = page_asked_of c server h files word mid output b s.block_below reply
    call_kept (at.FlushRegion b) hand s goes reply = absurd goes
    call_kept (at.FlushPage b) hand s goes reply = absurd goes
    call_kept (at.FlushWriting b) hand s goes reply = absurd goes
    call_kept (at.FlushSettling b) hand s goes reply = absurd goes

-- ---- the words that are set behind it

-- the page of the request and the job are as before, and the rest of the slots
record JobKept (s after : KernelState) (n : ℕ) : Type 0 where
  request : HasRequest after n
  bytes : request_bytes after n ≡ request_bytes s n
  job : job_in after n ≡ job_in s n
  rest : KeepsRest s after n

words_behind : (s mid : KernelState) (n : ℕ) (next : CacheState) → length (slot_at s n).extra ≡ 12 → RequestKept s mid n →
    JobKept s (gone_on mid n next) n
words_behind s mid n next twelve kept =
    let words : List ℕ = with_state (slot_at mid n).extra next in
    let slot : Slot = record (slot_at mid n) { extra = words } in
    let there : slot_at mid n ≡ slot_at s n = ap (λ (e : Environments). e.slots n) kept.environments in
    let long : length (slot_at mid n).extra ≡ 12 = ap (λ (x : Slot). length x.extra) there ∙ twelve in
    record {
      request = request_set mid n slot refl kept.request;
      bytes = request_bytes_set mid n slot refl kept.request ∙ kept.bytes;
      job =
          ap (λ (x : Slot). state_in x.registers x.extra) (slot_put mid n slot)
          ∙ state_alike (slot_at mid n).registers (slot_at mid n).registers words (slot_at mid n).extra
          (record { first = first_eight (slot_at mid n).extra long next; eax = refl; ebx = refl; ecx = refl; edx = refl; ebp = refl; edi = refl })
          ∙ ap (λ (x : Slot). state_in x.registers x.extra) there;
      rest = rest_words s mid n (rest_same s mid n kept.environments) words;
    }

-- ---- the step

-- what each block holds, the disk does
values_same : (d e : Disk) (c k : CachedBlocks) → e.count ≡ d.count → KeepsValues d c e k → disk_bytes e k ≡ disk_bytes d c
values_same d e c k count keeps =
    (λ i q. if nat_lt (q / BLKSIZE) (count i) then slice_index (block_value e k (q / BLKSIZE)) (q % BLKSIZE) else 0)
    ∙ (λ i q. by_test q (nat_lt (q / BLKSIZE) d.count) refl i)
  where
    by_test : (q : ℕ) (t : Bool) → nat_lt (q / BLKSIZE) d.count ≡ t →
        (if t then slice_index (block_value e k (q / BLKSIZE)) (q % BLKSIZE) else 0)
        ≡ (if t then slice_index (block_value d c (q / BLKSIZE)) (q % BLKSIZE) else 0)
    by_test q false off = refl
    by_test q true on =
        let below : q / BLKSIZE < d.count = grind (arith, nat_tests) in
        ap (λ (page : List ℕ). slice_index page (q % BLKSIZE)) (keeps (q / BLKSIZE) below)

module _ (c : Caller) (block : ℕ) (below : block < CACHE_BLOCKS) (before : Files) (h : TreeAt (disk_in before c.disk) c.state c.slot)
    (output : Output) where
  -- where the host failed in it
  pub step_failed : (files : Around (Option Files)) (after : KernelState) → files.before ≡ Some before →
      IsReply (ask_at (fetch_state c.state c.slot block)) c files.before (Err stop.Failed) after output → Prints output []
  step_failed files after is reply =
      let place : CachePlace = fetching (cache_state c.state c.slot).place block in
      let hand : ℕ = (cache_state c.state c.slot).hand in
      failed_quietly (disk_in before c.disk) c (server_of (disk_in before c.disk) c.state c.slot h.cache) files.before after output place hand
      (fetch_stands (disk_in before c.disk) (view_in c.state c.slot) (cache_state c.state c.slot).place hand block below h.cache.stands)
      (fetch_fetches (cache_state c.state c.slot).place block) reply

module _ (c : Caller) (block : ℕ) (below : block < CACHE_BLOCKS) (before : Files) (h : TreeAt (disk_in before c.disk) c.state c.slot) (tells : Told)
    (output : Output) where
  abbrev d : Disk
  d = disk_in before c.disk

  abbrev place : CachePlace
  place = fetching (cache_state c.state c.slot).place block

  abbrev hand : ℕ
  hand = (cache_state c.state c.slot).hand

  stands : CacheStands d (view_in c.state c.slot) place hand
  stands = fetch_stands d (view_in c.state c.slot) (cache_state c.state c.slot).place hand block below h.cache.stands

  goes : IsFetching place
  goes = fetch_fetches (cache_state c.state c.slot).place block

  server : IsServer c.state c.slot
  server = server_of d c.state c.slot h.cache

  job_kept : (behind : Option Files) (after : KernelState) →
      HasGone (fetch_state c.state c.slot block) c (from_to (Some before) behind) tells after output →
      JobKept c.state after c.slot × Prints output []
  job_kept behind after (by_word word mid reply files tells_is is) =
      let kept = call_kept d c server (Some before) mid output h.request word place hand stands goes reply in (
        subst (λ (k : KernelState). JobKept c.state k c.slot) (sym is)
            (words_behind c.state mid c.slot (next_by place hand word).state h.cache.words kept.0),
        kept.1,
      )
  job_kept behind after (stopped why other reply files tells_is) =
      absurd (not_stopped d c server (Some before) after output place hand why stands goes other reply)

  job_told : (files : Around (Option Files)) (after : KernelState) → files.before ≡ Some before →
      HasGone (fetch_state c.state c.slot block) c files tells after output → JobKept c.state after c.slot × Prints output []
  job_told files after is gone =
      job_kept files.after after
      (subst (λ (f : Option Files). HasGone (fetch_state c.state c.slot block) c (from_to f files.after) tells after output) is gone)

  pub step_leaves : (files : Around (Option Files)) (after : KernelState) → files.before ≡ Some before →
      HasGone (fetch_state c.state c.slot block) c files tells after output → Prints output [] × KeepsRest c.state after c.slot
  step_leaves files after is gone = let job = job_told files after is gone in (job.1, job.0.rest)

  pub step_waits : (files : Around (Option Files)) (after : KernelState) → files.before ≡ Some before →
      HasGone (fetch_state c.state c.slot block) c files tells after output → KeepsCache c.disk c.slot (from_to c.state after) files →
      (now : Files) × (files.after ≡ Some now) × IsWaiting d (disk_in now c.disk) c.state after c.slot
  step_waits files after is gone keeps =
      let kept = keeps before is h.cache in
      let job = (job_told files after is gone).0 in
      let e = disk_in kept.0 c.disk in
      let same = values_same d e (cached_in c.state c.slot) (cached_in after c.slot) refl kept.3 in (
        kept.0,
        kept.1,
        record {
          stands = record { cache = kept.2; request = job.request; count = h.count };
          job = job.job;
          memory = λ i. record { disk = same i; page = job.bytes i };
        },
      )
