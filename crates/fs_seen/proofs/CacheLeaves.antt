-- A step of the cache, wherever it stands, leaves the table of open files, the page of the request, and where the server stands.
use Rattle.std.proofs.Common.{◌≡◌, ◌≢◌, ◌∙◌, ◌<◌, ℕ, true, List, length, take, get_or, Option, Some, None, Ok, Err, refl, sym, ap}
use Rattle.std.proofs.Common.{subst, arith}
use Rattle.std.proofs.lemmas.List.{get_or-take}
use Rattle.std.specs.Prelude.{is_some}
use Rattle.jos_host.specs.Files.{Files}
use Rattle.jos_host.specs.Frames.{from_to}
use Rattle.jos_base.specs.declared.registers.Regs.{Regs}
use Rattle.jos_base.specs.Environments.{Environments, Slot}
use Rattle.jos_base.specs.KernelState.{KernelState, slot_at, with_slot_at}
use Rattle.jos_base.specs.Reach.{Entry}
use Rattle.jos_base.proofs.Options.{some_is}
use Rattle.lib_os.specs.declared.numbers.TheConstants.{CACHE_BLOCKS}
use Rattle.lib_os.specs.declared.user_os.Stop.{Stop}
use Rattle.lib_os.specs.declared.user_os.Stop.TheVariants as stop
use Rattle.lib_os.specs.Disk.{Disk}
use Rattle.lib_os.specs.UserCalls.{Output}
use Rattle.lib_os.proofs.Slots.{slot_put}
use Rattle.fs_blocks.specs.declared.place.CachePlace.{CachePlace}
use Rattle.fs_blocks.specs.declared.place.CachePlace.TheVariants as at
use Rattle.fs_blocks.specs.declared.place.CacheState.{CacheState}
use Rattle.fs_blocks.specs.declared.plan.CacheAsk.TheVariants as asked
use Rattle.fs_blocks.specs.declared.plan.Told.{Told}
use Rattle.fs_blocks.specs.CachePlaces.{with_state}
use Rattle.fs_blocks.specs.CachePlans.{ask_by, ask_entry, ask_map, ask_page, ask_region, ask_unmap, block_of}
use Rattle.fs_blocks.proofs.CacheWords.{first_eight}
use Rattle.fs_cache.specs.CacheStands.{CacheStands, HoldsBlock, was_used}
use Rattle.fs_cache.specs.CacheSteps.{Caller, HasGone, IsReply, by_word, gone_on, stopped}
use Rattle.fs_cache.proofs.CacheBegins.{IsUnderWay}
use Rattle.fs_cache.proofs.Interfaces.{IsServer, view_in}
use Rattle.fs_cache.proofs.Loads.{loads_give}
use Rattle.fs_requests.specs.ServerWords.{server_in}
use Rattle.fs_server.specs.ServerSteps.{server_at}
use Rattle.fs_tree.specs.TreeSteps.{HasRequest, request_bytes}
use Rattle.fs_tree.proofs.TiesCalls.{RequestKept, entry_asked, map_asked, page_asked_of, read_asked, region_asked, sent_asked, unmap_asked}
use Rattle.fs_tree.proofs.TiesWords.{request_bytes_set, request_set}
use Rattle.fs_seen.specs.ServerMemory.{HasFileTable, request_page}
use Rattle.fs_seen.proofs.CallsLeave.{LeavesCall, entry_left, map_left, page_left, read_left, region_left, sent_left, unmap_left}
use Rattle.fs_seen.proofs.TableLeft.{LeavesTable}

-- ---- the call

used_there : (o : Option Entry) → was_used o ≡ true → is_some o ≡ true
used_there None used = used
used_there (Some e) used = refl

-- what a call leaves: the page of a request, where there is one
record CallLeaves (s mid : KernelState) (n : ℕ) : Type 0 where
  kept : HasRequest s n → RequestKept s mid n
  left : LeavesCall s mid n

module _ (d : Disk) (c : Caller) (server : IsServer c.state c.slot) (files : Option Files) (mid : KernelState) (output : Output) where
  -- no call is stopped
  no_block : (why : Stop) → why ≢ stop.Failed → (b : ℕ) → IsReply (asked.ReadBlock b) c files (Err why) mid output → ⊥
  no_block stop.Failed other b reply = other refl
  no_block stop.Upcall other b reply = reply
  no_block stop.Ended other b reply = reply

  no_sent : (why : Stop) → why ≢ stop.Failed → (b : ℕ) → IsReply (asked.WriteBlock b) c files (Err why) mid output → ⊥
  no_sent stop.Failed other b reply = other refl
  no_sent stop.Upcall other b reply = reply
  no_sent stop.Ended other b reply = reply

  no_region : (why : Stop) (b : ℕ) → b < CACHE_BLOCKS → IsReply (ask_region b) c files (Err why) mid output → ⊥
  no_region why b below reply = (loads_give c files b mid output why server below).0 reply

  never_stopped : (place : CachePlace) (hand : ℕ) (why : Stop) → CacheStands d (view_in c.state c.slot) place hand → IsUnderWay place →
      why ≢ stop.Failed → IsReply (ask_by place hand) c files (Err why) mid output → ⊥
  never_stopped at.Resting hand why s goes other reply = goes
  never_stopped (at.Found b) hand why s goes other reply = goes
  never_stopped (at.LookingRegion b) hand why s goes other reply = no_region why b s.block_below reply
  never_stopped (at.LookingPage b) hand why s goes other reply = (loads_give c files b mid output why server s.block_below).1 s.at reply
  never_stopped (at.Taking b) hand why s goes other reply = reply
  never_stopped (at.Filling b) hand why s goes other reply = no_block why other (block_of b) reply
  never_stopped (at.Settling b) hand why s goes other reply = reply
  never_stopped (at.HandRegion b left) hand why s goes other reply = no_region why hand s.hand_below reply
  never_stopped (at.HandPage b left) hand why s goes other reply = (loads_give c files hand mid output why server s.hand_below).1 s.at.1 reply
  never_stopped (at.WritingBack b) hand why s goes other reply = no_sent why other (block_of hand) reply
  never_stopped (at.Passing b) hand why s goes other reply = reply
  never_stopped (at.Moving b) hand why s goes other reply = reply
  never_stopped (at.Leaving b) hand why s goes other reply = reply
  never_stopped (at.Freeing b) hand why s goes other reply = reply
  never_stopped (at.TakingLast b) hand why s goes other reply = reply
  never_stopped (at.FlushRegion b) hand why s goes other reply = no_region why b s.block_below reply
  never_stopped (at.FlushPage b) hand why s goes other reply = (loads_give c files b mid output why server s.block_below).1 s.at.1 reply
  never_stopped (at.FlushWriting b) hand why s goes other reply = no_sent why other (block_of b) reply
  never_stopped (at.FlushSettling b) hand why s goes other reply = reply

  module _ (k : HasFileTable c.state c.slot) (word : ℕ) where
    abbrev Leaves : Type 0
    Leaves = CallLeaves c.state mid c.slot

    region : (b : ℕ) → IsReply (ask_region b) c files (Ok word) mid output → Leaves
    region b reply = record {
      kept = λ h. (region_asked c server h files word mid output b reply).0;
      left = region_left c server k files word mid output b reply;
    }

    entry : (b : ℕ) → IsReply (ask_entry b) c files (Ok word) mid output → Leaves
    entry b reply = record {
      kept = λ h. (entry_asked c server h files word mid output b reply).0;
      left = entry_left c server k files word mid output b reply;
    }

    page : (b : ℕ) → b < CACHE_BLOCKS → IsReply (ask_page b) c files (Ok word) mid output → Leaves
    page b below reply = record {
      kept = λ h. (page_asked_of c server h files word mid output b below reply).0;
      left = page_left c server k files word mid output b below reply;
    }

    unmap : (b : ℕ) → b < CACHE_BLOCKS → IsReply (ask_unmap b) c files (Ok word) mid output → Leaves
    unmap b below reply = record {
      kept = λ h. (unmap_asked c server h files word mid output b below reply).0;
      left = unmap_left c server k files word mid output b below reply;
    }

    module _ (place : CachePlace) (hand : ℕ) (s : CacheStands d (view_in c.state c.slot) place hand) where
      read : (b : ℕ) → b < CACHE_BLOCKS → is_some ((view_in c.state c.slot).row b) ≡ true →
          IsReply (asked.ReadBlock (block_of b)) c files (Ok word) mid output → Leaves
      read b below there reply =
          let found = some_is ((view_in c.state c.slot).row b) there in
          let is = s.entries b found.0 found.1 in
          record {
            kept = λ h. (read_asked c server h files word mid output b below found.0 found.1 is reply).0;
            left = read_left c server k files word mid output b below found.0 found.1 is reply;
          }

      sent : (b : ℕ) → b < CACHE_BLOCKS → is_some ((view_in c.state c.slot).row b) ≡ true →
          IsReply (asked.WriteBlock (block_of b)) c files (Ok word) mid output → Leaves
      sent b below there reply =
          let found = some_is ((view_in c.state c.slot).row b) there in
          let is = s.entries b found.0 found.1 in
          record {
            kept = λ h. (sent_asked c server h files word mid output b below found.0 found.1 is reply).0;
            left = sent_left c server k files word mid output b below found.0 found.1 is reply;
          }

      map : (from to : ℕ) → from < CACHE_BLOCKS → to < CACHE_BLOCKS → HoldsBlock d (view_in c.state c.slot) from →
          IsReply (ask_map from to) c files (Ok word) mid output → Leaves
      map from to from_below to_below holds reply =
          let is = s.entries from holds.entry holds.stands in
          record {
            kept = λ h. (map_asked c server h files word mid output from to holds.entry holds.stands is from_below to_below reply).0;
            left = map_left c server k files word mid output from to holds.entry holds.stands is from_below to_below reply;
          }

    call_leaves : (place : CachePlace) (hand : ℕ) → CacheStands d (view_in c.state c.slot) place hand → IsUnderWay place →
        IsReply (ask_by place hand) c files (Ok word) mid output → Leaves
    call_leaves at.Resting hand s goes reply = absurd goes
    call_leaves (at.Found b) hand s goes reply = absurd goes
    call_leaves (at.LookingRegion b) hand s goes reply = region b reply
    call_leaves (at.LookingPage b) hand s goes reply = entry b reply
    call_leaves (at.Taking b) hand s goes reply = page b s.block_below reply
    call_leaves (at.Filling b) hand s goes reply = read (at.Filling b) hand s b s.block_below s.at reply
    call_leaves (at.Settling b) hand s goes reply = map (at.Settling b) hand s b b s.block_below s.block_below s.at reply
    call_leaves (at.HandRegion b left) hand s goes reply = region hand reply
    call_leaves (at.HandPage b left) hand s goes reply = entry hand reply
    call_leaves (at.WritingBack b) hand s goes reply =
        sent (at.WritingBack b) hand s hand s.hand_below (used_there ((view_in c.state c.slot).row hand) s.at.1) reply
    call_leaves (at.Passing b) hand s goes reply = map (at.Passing b) hand s hand hand s.hand_below s.hand_below s.at.0.at_hand reply
    call_leaves (at.Moving b) hand s goes reply = map (at.Moving b) hand s hand b s.hand_below s.block_below s.at.at_hand reply
    call_leaves (at.Leaving b) hand s goes reply = unmap hand s.hand_below reply
    call_leaves (at.Freeing b) hand s goes reply = unmap hand s.hand_below reply
    call_leaves (at.TakingLast b) hand s goes reply = page b s.block_below reply
    call_leaves (at.FlushRegion b) hand s goes reply = region b reply
    call_leaves (at.FlushPage b) hand s goes reply = entry b reply
    call_leaves (at.FlushWriting b) hand s goes reply = sent (at.FlushWriting b) hand s b s.block_below s.at.1 reply
    call_leaves (at.FlushSettling b) hand s goes reply = map (at.FlushSettling b) hand s b b s.block_below s.block_below s.at.1 reply

-- ---- the step

-- the page of a request stays
pub record RequestLeft (s after : KernelState) (n : ℕ) : Type 0 where
  pub request : HasRequest after n
  pub bytes : request_bytes after n ≡ request_bytes s n

-- all that it leaves
pub record CacheLeaves (s after : KernelState) (n : ℕ) : Type 0 where
  pub kept : HasRequest s n → RequestLeft s after n
  pub table : LeavesTable s after n
  pub server : server_at after n ≡ server_at s n
  pub rendezvous : (slot_at after n).rendezvous ≡ (slot_at s n).rendezvous
  pub directory : (slot_at after n).directory ≡ (slot_at s n).directory

-- the server's words are among the first eight
server_alike : (regs : Regs) (words more : List ℕ) → take 8 words ≡ take 8 more → server_in regs words ≡ server_in regs more
unfolding server_in
server_alike regs words more same = λ i. record {
  step = (server_in regs words).step;
  kind = (server_in regs words).kind;
  client = (server_in regs words).client;
  number = (server_in regs words).number;
  home = each 1 (omega arith) i;
  at = each 2 (omega arith) i;
  count = each 3 (omega arith) i;
}
  where
    each : (j : ℕ) → j < 8 → get_or words j 0 ≡ get_or more j 0
    each j below = sym (get_or-take 8 words j 0 below) ∙ ap (λ (w : List ℕ). get_or w j 0) same ∙ get_or-take 8 more j 0 below

words_behind : (s mid : KernelState) (n : ℕ) (next : CacheState) → length (slot_at s n).extra ≡ 12 → CallLeaves s mid n →
    CacheLeaves s (gone_on mid n next) n
words_behind s mid n next twelve left =
    let words : List ℕ = with_state (slot_at mid n).extra next in
    let slot : Slot = record (slot_at mid n) { extra = words } in
    let there : slot_at mid n ≡ slot_at s n = ap (λ (e : Environments). e.slots n) left.left.environments in
    let long : length (slot_at mid n).extra ≡ 12 = ap (λ (x : Slot). length x.extra) there ∙ twelve in
    record {
      kept = λ h.
          (let kept = left.kept h in record {
            request = request_set mid n slot refl kept.request;
            bytes = request_bytes_set mid n slot refl kept.request ∙ kept.bytes;
          });
      table = table_set slot refl;
      server =
          ap (λ (x : Slot). server_in x.registers x.extra) (slot_put mid n slot)
          ∙ server_alike (slot_at mid n).registers words (slot_at mid n).extra (first_eight (slot_at mid n).extra long next)
          ∙ ap (λ (x : Slot). server_in x.registers x.extra) there;
      rendezvous = ap (λ (x : Slot). x.rendezvous) (slot_put mid n slot) ∙ ap (λ (x : Slot). x.rendezvous) there;
      directory = ap (λ (x : Slot). x.directory) (slot_put mid n slot) ∙ ap (λ (x : Slot). x.directory) there;
    }
  where
    table_set : (slot : Slot) → slot.directory ≡ (slot_at mid n).directory → LeavesTable s (with_slot_at mid n slot) n
    table_set slot directory =
        let same : (slot_at (with_slot_at mid n slot) n).directory ≡ (slot_at mid n).directory =
        ap (λ (x : Slot). x.directory) (slot_put mid n slot) ∙ directory in
        record {
          entries = λ p is. ap (λ (q : ℕ). mid.spaces.entries q p) same ∙ left.left.table.entries p is;
          bytes = left.left.table.bytes;
          counts = left.left.table.counts;
          apart = λ p q x y is own x_is y_is. left.left.table.apart p q x y is own x_is (ap (λ (r : ℕ). mid.spaces.entries r q) (sym same) ∙ y_is);
          lacks = λ none. ap (λ (q : ℕ). mid.spaces.entries q request_page) same ∙ left.left.table.lacks none;
        }

pub step_leaves : (d : Disk) (c : Caller) (server : IsServer c.state c.slot) (state : CacheState) (before : Files) (behind : Option Files)
    (tells : Told) (after : KernelState) (output : Output) → HasFileTable c.state c.slot →
    length (slot_at c.state c.slot).extra ≡ 12 → CacheStands d (view_in c.state c.slot) state.place state.hand → IsUnderWay state.place →
    HasGone state c (from_to (Some before) behind) tells after output → CacheLeaves c.state after c.slot
step_leaves d c server state before behind tells after output k twelve stands goes (by_word word mid reply files tells_is is) =
    subst (λ (m : KernelState). CacheLeaves c.state m c.slot) (sym is)
    (words_behind c.state mid c.slot _ twelve
    (call_leaves d c server (Some before) mid output k word state.place state.hand stands goes reply))
step_leaves d c server state before behind tells after output k twelve stands goes (stopped why other reply files tells_is) =
    absurd (never_stopped d c server (Some before) after output state.place state.hand why stands goes other reply)
