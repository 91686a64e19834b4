-- A step of the file server's cache is a call that it may make, behind which it sets its words: its turn is kept, nothing is printed, and it goes on
-- bringing blocks of the disk. No fault stops it; and where the host fails in it, nothing is printed either.
use Rattle.std.proofs.Common.{◌≡◌, ◌∙◌, ◌⊎◌, inl, inr, ◌≤◌, ℕ, List, [], ◌∷◌, length, get_or, Option, Err, refl, sym, ap, subst, arith}
use Rattle.jos_host.specs.Files.{Files}
use Rattle.jos_host.specs.Frames.{Around}
use Rattle.jos_base.specs.Environments.{Environments, Slot}
use Rattle.jos_base.specs.KernelState.{KernelState, slot_at}
use Rattle.fs_layout.specs.declared.numbers.TheConstants.{MAXBLOCKS}
use Rattle.fs_layout.specs.DiskFiles.{file_system_of}
use Rattle.fs_layout.specs.FileTree.{FileSystem}
use Rattle.fs_runs.specs.TreeRuns.{Memory}
use Rattle.lib_os.specs.declared.user_os.Stop.{Stop}
use Rattle.lib_os.specs.declared.user_os.Stop.TheVariants as stop
use Rattle.lib_os.specs.AbstractState.{AbstractState}
use Rattle.lib_os.specs.Disk.{Disk, DiskFile}
use Rattle.lib_os.specs.MadeCalls.{IsServersCall, MakesCall, SetsWords, UserCall}
use Rattle.lib_os.specs.Rows.{Names}
use Rattle.lib_os.specs.StandsFor.{StandsFor}
use Rattle.lib_os.specs.UserCalls.{Output, Prints}
use Rattle.lib_os.proofs.CallsMade.{sets_extra, sets_twice}
use Rattle.lib_os.proofs.ServersCalls.{MayCall}
use Rattle.lib_os.proofs.Slots.{slot_put}
use Rattle.fs_blocks.specs.declared.place.CachePlace.{CachePlace}
use Rattle.fs_blocks.specs.declared.place.CachePlace.TheVariants as at
use Rattle.fs_blocks.specs.declared.place.CacheState.{CacheState}
use Rattle.fs_blocks.specs.declared.plan.CacheAsk.TheVariants as ask
use Rattle.fs_blocks.specs.declared.plan.CacheNext.{CacheNext}
use Rattle.fs_blocks.specs.declared.plan.Told.{Told}
use Rattle.fs_blocks.specs.CachePlaces.{state_in, with_state}
use Rattle.fs_blocks.specs.CachePlans.{ask_at, ask_by, block_of, next_at}
use Rattle.fs_blocks.proofs.CacheWords.{length_with, state_back}
use Rattle.fs_cache.specs.CacheStands.{CacheAt, CacheStands}
use Rattle.fs_cache.specs.CacheSteps.{Caller, HasGone, IsReply, by_word, cache_state, caller, gone_on, stopped}
use Rattle.fs_cache.proofs.CacheBegins.{IsUnderWay}
use Rattle.fs_cache.proofs.CacheLaw.{server_of}
use Rattle.fs_cache.proofs.Interfaces.{IsServer, view_in}
use Rattle.fs_cache.proofs.Loads.{loads_give}
use Rattle.fs_serving.specs.ServerRuns.{HasFiles}
use Rattle.jos_run.specs.ServerStands.{BringsOwn}
use Rattle.jos_run.proofs.CacheCalls.{GoesOnBringing, WellMade, cache_made, goes_on_bringing}
use Rattle.jos_run.proofs.ServerRows.{LeavesRequestBy, made_quietly, status_stays}

-- the files have as many blocks as the disk
pub blocks_are : (count : ℕ) (m : Memory) (files : FileSystem) → HasFiles count m files → files.blocks ≡ count
unfolding file_system_of
blocks_are count m files h = ap (λ (f : FileSystem). f.blocks) (sym h.are) ∙ h.count_is

-- a call behind which words are set once more
pub makes_then_sets : {call : UserCall} {s mid after : KernelState} {disk : DiskFile} {files : Around (Option Files)} {output : Output} →
    MakesCall call s mid 0 disk files output → SetsWords mid after 0 → MakesCall call s after 0 disk files output
makes_then_sets {mid = mid} {after = after} makes sets = record { mid = makes.mid; made = makes.made; left = inr (by makes.left) }
  where
    by : (mid ≡ makes.mid) ⊎ SetsWords makes.mid mid 0 → SetsWords makes.mid after 0
    by (inl same) = subst (λ (x : KernelState). SetsWords x after 0) same sets
    by (inr before) = sets_twice makes.mid mid after 0 before sets

-- ---- what stops it

module _ (d : Disk) (c : Caller) (server : IsServer c.state c.slot) (files : Option Files) (mid : KernelState) (output : Output) where
  -- the host alone, and then nothing is printed
  abbrev Halts : Stop → Type 0
  Halts why = (why ≡ stop.Failed) × Prints output []

  read_halts : (why : Stop) (b : ℕ) → IsReply (ask.ReadBlock b) c files (Err why) mid output → Halts why
  read_halts stop.Failed b reply = (refl, reply.1)
  read_halts stop.Upcall b reply = absurd reply
  read_halts stop.Ended b reply = absurd reply

  sent_halts : (why : Stop) (b : ℕ) → IsReply (ask.WriteBlock b) c files (Err why) mid output → Halts why
  sent_halts stop.Failed b reply = (refl, reply.1)
  sent_halts stop.Upcall b reply = absurd reply
  sent_halts stop.Ended b reply = absurd reply

  halts : (place : CachePlace) (hand : ℕ) (why : Stop) → CacheStands d (view_in c.state c.slot) place hand → IsUnderWay place →
      IsReply (ask_by place hand) c files (Err why) mid output → Halts why
  halts at.Resting hand why s goes reply = absurd goes
  halts (at.Found b) hand why s goes reply = absurd goes
  halts (at.LookingRegion b) hand why s goes reply = absurd ((loads_give c files b mid output why server s.block_below).0 reply)
  halts (at.LookingPage b) hand why s goes reply = absurd ((loads_give c files b mid output why server s.block_below).1 s.at reply)
  halts (at.Taking b) hand why s goes reply = absurd reply
  halts (at.Filling b) hand why s goes reply = read_halts why (block_of b) reply
  halts (at.Settling b) hand why s goes reply = absurd reply
  halts (at.HandRegion b left) hand why s goes reply = absurd ((loads_give c files hand mid output why server s.hand_below).0 reply)
  halts (at.HandPage b left) hand why s goes reply = absurd ((loads_give c files hand mid output why server s.hand_below).1 s.at.1 reply)
  halts (at.WritingBack b) hand why s goes reply = sent_halts why (block_of hand) reply
  halts (at.Passing b) hand why s goes reply = absurd reply
  halts (at.Moving b) hand why s goes reply = absurd reply
  halts (at.Leaving b) hand why s goes reply = absurd reply
  halts (at.Freeing b) hand why s goes reply = absurd reply
  halts (at.TakingLast b) hand why s goes reply = absurd reply
  halts (at.FlushRegion b) hand why s goes reply = absurd ((loads_give c files b mid output why server s.block_below).0 reply)
  halts (at.FlushPage b) hand why s goes reply = absurd ((loads_give c files b mid output why server s.block_below).1 s.at.1 reply)
  halts (at.FlushWriting b) hand why s goes reply = sent_halts why (block_of b) reply
  halts (at.FlushSettling b) hand why s goes reply = absurd reply

-- ---- its step

first_word : (words : List ℕ) (state : CacheState) → length words ≡ 12 → get_or (with_state words state) 0 0 ≡ get_or words 0 0
first_word [] state twelve = absurd (omega (arith, twelve))
first_word (_ ∷ rest) state twelve = refl

goes_on_sets : (mid after : KernelState) (state : CacheState) → after ≡ gone_on mid 0 state → SetsWords mid after 0
goes_on_sets mid after state is =
    let words : List ℕ = (slot_at mid 0).extra in
    sets_extra mid after 0 (with_state words state) is (λ twelve. length_with words twelve state) (λ twelve. first_word words state twelve)

module _ {names : Names} {s : KernelState} {a : AbstractState} (h : StandsFor names s a) (few : a.files.blocks ≤ MAXBLOCKS) (d : Disk)
    (count : a.files.blocks ≡ d.count) (disk : DiskFile) (files : Around (Option Files)) (cache : CacheAt d s 0) (state : CacheState)
    (stands : CacheStands d (view_in s 0) state.place state.hand) (goes : IsUnderWay state.place) (brings : BringsOwn d state.place) where
  pub record CacheStep (after : KernelState) (output : Output) : Type 0 where
    pub call : UserCall
    pub own : IsServersCall call
    pub leaves : LeavesRequestBy call own
    pub makes : MakesCall call s after 0 disk files output
    pub may : MayCall call own s a
    pub brings_on : BringsOwn d (cache_state after 0).place
    pub twelve : length (slot_at after 0).extra ≡ 12
    pub status : (slot_at after 0).status ≡ (slot_at s 0).status
    pub quiet : Prints output []

  pub cache_step : (tells : Told) (after : KernelState) (output : Output) → HasGone state (caller s 0 disk) files tells after output →
      CacheStep after output
  cache_step tells after output (by_word word mid reply told tells_is is) = record {
    call = it.call;
    own = it.own;
    leaves = it.leaves;
    makes = record { mid = mid; made = it.made; left = inr sets };
    may = it.may;
    brings_on = subst (λ (x : CacheState). BringsOwn d x.place) (sym state_is) next_well.brings;
    twelve = ap (λ (x : Slot). length x.extra) slot_is ∙ length_with extra long next.state;
    status = status_stays h mid after quiet.0 (inr sets);
    quiet = quiet.1;
  }
    where
      it : WellMade s a disk files mid output
      it = cache_made h few disk files mid output word d count state.place state.hand stands goes brings reply told

      quiet : (mid.environments ≡ s.environments) × Prints output []
      quiet = made_quietly h it.call it.own it.leaves it.may mid disk files output it.made

      next : CacheNext
      next = next_at state word

      sets : SetsWords mid after 0
      sets = goes_on_sets mid after next.state is

      next_well : GoesOnBringing d next
      next_well = goes_on_bringing d state.place state.hand word stands.block_below stands.hand_below goes brings

      extra : List ℕ
      extra = (slot_at mid 0).extra

      long : length extra ≡ 12
      long = ap (λ (e : Environments). length (e.slots 0).extra) quiet.0 ∙ cache.words

      slot_is : slot_at after 0 ≡ record (slot_at mid 0) { extra = with_state extra next.state }
      slot_is = ap (λ (z : KernelState). slot_at z 0) is ∙ slot_put mid 0 (record (slot_at mid 0) { extra = with_state extra next.state })

      state_is : cache_state after 0 ≡ next.state
      state_is =
          ap (λ (x : Slot). state_in x.extra) slot_is ∙ state_back extra long next.state next_well.block_below next_well.hand_below
  cache_step tells after output (stopped why other reply told tells_is) =
      absurd (other (halts d (caller s 0 disk) (server_of d s 0 cache) files.before after output state.place state.hand why stands goes reply).0)

  -- where the host failed in it
  pub cache_failed : (after : KernelState) (output : Output) → IsReply (ask_at state) (caller s 0 disk) files.before (Err stop.Failed) after output →
      Prints output []
  cache_failed after output reply =
      (halts d (caller s 0 disk) (server_of d s 0 cache) files.before after output state.place state.hand stop.Failed stands goes reply).1
