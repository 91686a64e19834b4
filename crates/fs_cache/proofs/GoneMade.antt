-- A step of the cache is one call of the file server's, behind which it sets its words.
use Rattle.std.proofs.Common.{◌≡◌, ◌≢◌, ◌<◌, inl, inr, ℕ, Bool, true, false, List, [], ◌∷◌, length, Option, Some, None, Ok, Err, refl, arith}
use Rattle.std.specs.Prelude.{get_or}
use Rattle.jos_host.specs.declared.host.Failed.{Failed}
use Rattle.jos_host.specs.Files.{Files}
use Rattle.jos_host.specs.Frames.{Around, from_to}
use Rattle.jos_base.specs.KernelState.{KernelState, slot_at}
use Rattle.lib_os.specs.declared.numbers.TheConstants.{CACHE_BLOCKS}
use Rattle.lib_os.specs.declared.user_os.Stop.{Stop}
use Rattle.lib_os.specs.declared.user_os.Stop.TheVariants as stop
use Rattle.lib_os.specs.BlockCache.{block_address}
use Rattle.lib_os.specs.MadeCalls.{IsMade, IsServersCall, MakesServersCall, SetsWords, UserCall, calls, faulted, gave, loads, maps_block, reads_block}
use Rattle.lib_os.specs.MadeCalls.{takes_block, unmaps_block, writes_block}
use Rattle.lib_os.specs.UserCalls.{BlockCall, FilesBehindBy, Output, may_write_block}
use Rattle.lib_os.proofs.CallsMade.{sets_extra}
use Rattle.fs_blocks.specs.declared.place.CachePlace.{CachePlace}
use Rattle.fs_blocks.specs.declared.place.CachePlace.TheVariants as at
use Rattle.fs_blocks.specs.declared.place.CacheState.{CacheState}
use Rattle.fs_blocks.specs.declared.plan.CacheAsk.{CacheAsk}
use Rattle.fs_blocks.specs.declared.plan.CacheAsk.TheVariants as ask
use Rattle.fs_blocks.specs.declared.plan.Told.{Told}
use Rattle.fs_blocks.specs.CachePlaces.{with_state}
use Rattle.fs_blocks.specs.CachePlans.{ask_at, ask_by, ask_entry, ask_region, block_of, next_at}
use Rattle.fs_blocks.proofs.CacheWords.{length_with}
use Rattle.fs_cache.specs.CacheSteps.{Caller, FilesAfter, HasGone, IsReply, by_word, gone_on, of_block, stopped}

-- ---- which call it is

abbrev pub call_of : CacheAsk → UserCall
call_of (ask.Load va) = loads va
call_of (ask.System number args) = calls number args
call_of (ask.ReadBlock block) = reads_block block (block_address block)
call_of (ask.WriteBlock block) = writes_block block (block_address block)

of_region : (b : ℕ) → IsServersCall (call_of (ask_region b))
of_region b = omega arith

of_entry : (b : ℕ) → IsServersCall (call_of (ask_entry b))
of_entry b = omega arith

within : (b : ℕ) → block_of b < CACHE_BLOCKS
within b = omega arith

servers : (p : CachePlace) (hand : ℕ) → IsServersCall (call_of (ask_by p hand))
servers at.Resting hand = of_region 0
servers (at.Found b) hand = of_region b
servers (at.LookingRegion b) hand = of_region b
servers (at.LookingPage b) hand = of_entry b
servers (at.Taking b) hand = takes_block (block_of b) (within b)
servers (at.Filling b) hand = (within b, refl)
servers (at.Settling b) hand = maps_block (block_of b) (block_of b) (within b) (within b)
servers (at.HandRegion b left) hand = of_region hand
servers (at.HandPage b left) hand = of_entry hand
servers (at.WritingBack b) hand = (within hand, refl)
servers (at.Passing b) hand = maps_block (block_of hand) (block_of hand) (within hand) (within hand)
servers (at.Moving b) hand = maps_block (block_of hand) (block_of b) (within hand) (within b)
servers (at.Leaving b) hand = unmaps_block (block_of hand) (within hand)
servers (at.Freeing b) hand = unmaps_block (block_of hand) (within hand)
servers (at.TakingLast b) hand = takes_block (block_of b) (within b)
servers (at.FlushRegion b) hand = of_region b
servers (at.FlushPage b) hand = of_entry b
servers (at.FlushWriting b) hand = (within b, refl)
servers (at.FlushSettling b) hand = maps_block (block_of b) (block_of b) (within b) (within b)

-- ---- what came of it

module _ (c : Caller) (files : Around (Option Files)) (after : KernelState) (output : Output) where
  abbrev Made : CacheAsk → Type 0
  Made a = IsMade (call_of a) c.state c.slot c.disk files after output

  -- whether the host failed is told alike of a call that was not stopped
  behind : (old : Option Files) (t : Bool) (call : BlockCall) (word : ℕ) → FilesBehindBy {E = Stop} t call (Ok word) (from_to old files.after) →
      FilesBehindBy {E = Failed} t call (Ok word) (from_to old files.after)
  behind None true call word told = told
  behind (Some old) true call word told = told
  behind old false call word told = told

  replied : (a : CacheAsk) (word : ℕ) → IsReply a c files.before (Ok word) after output → FilesAfter a c (Ok word) files → Made a
  replied (ask.Load va) word reply same = (gave word reply, same)
  replied (ask.System number args) word reply same = (reply.0, reply.2, same)
  replied (ask.ReadBlock block) word reply same = (word, reply.0, reply.1, same)
  replied (ask.WriteBlock block) word reply told =
      (word, reply.0, reply.1, behind files.before (may_write_block (of_block c block)) (of_block c block) word told)

  halted : (a : CacheAsk) (why : Stop) → why ≢ stop.Failed → IsReply a c files.before (Err why) after output → FilesAfter a c (Err why) files → Made a
  halted (ask.Load va) why other reply same = (faulted why other reply, same)
  halted (ask.System number args) why other reply same = absurd reply
  halted (ask.ReadBlock block) stop.Failed other reply same = absurd (other refl)
  halted (ask.ReadBlock block) stop.Upcall other reply same = absurd reply
  halted (ask.ReadBlock block) stop.Ended other reply same = absurd reply
  halted (ask.WriteBlock block) stop.Failed other reply told = absurd (other refl)
  halted (ask.WriteBlock block) stop.Upcall other reply told = absurd reply
  halted (ask.WriteBlock block) stop.Ended other reply told = absurd reply

-- ---- the words behind it

first_word : (words : List ℕ) (state : CacheState) → length words ≡ 12 → get_or (with_state words state) 0 0 ≡ get_or words 0 0
first_word [] state twelve = absurd (omega (arith, twelve))
first_word (w ∷ rest) state twelve = refl

goes_on_sets : (mid after : KernelState) (n : ℕ) (state : CacheState) → after ≡ gone_on mid n state → SetsWords mid after n
goes_on_sets mid after n state is =
    let words : List ℕ = (slot_at mid n).extra in
    sets_extra mid after n (with_state words state) is (λ twelve. length_with words twelve state) (λ twelve. first_word words state twelve)

-- ---- the step

pub gone_makes : (state : CacheState) (c : Caller) (files : Around (Option Files)) (tells : Told) (after : KernelState) (output : Output) →
    HasGone state c files tells after output → MakesServersCall (from_to c.state after) c.slot c.disk files output
gone_makes state c files tells after output (by_word word mid reply told tells_is is) = record {
  call = call_of (ask_at state);
  own = servers state.place state.hand;
  makes = record {
    mid = mid;
    made = replied c files mid output (ask_at state) word reply told;
    left = inr (goes_on_sets mid after c.slot (next_at state word).state is);
  };
}
gone_makes state c files tells after output (stopped why other reply told tells_is) = record {
  call = call_of (ask_at state);
  own = servers state.place state.hand;
  makes = record { mid = after; made = halted c files after output (ask_at state) why other reply told; left = inl refl };
}
