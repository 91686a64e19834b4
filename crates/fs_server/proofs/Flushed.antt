-- A step of a flush is one of the server.
use Rattle.std.proofs.Common.{◌≡◌, ◌∙◌, ℕ, true, List, Option, Ok, ap}
use Rattle.jos_host.specs.Files.{Files}
use Rattle.jos_host.specs.Frames.{Around, from_to}
use Rattle.jos_base.specs.Environments.{Slot, is_live}
use Rattle.jos_base.specs.KernelState.{KernelState, slot_at}
use Rattle.lib_os.specs.declared.progress.Progress.TheVariants as progress
use Rattle.lib_os.specs.Disk.{DiskFile}
use Rattle.lib_os.specs.UserCalls.{Output}
use Rattle.lib_os.proofs.Slots.{slot_put}
use Rattle.fs_blocks.specs.declared.place.CacheState.{CacheState}
use Rattle.fs_blocks.specs.declared.plan.Told.{Told}
use Rattle.fs_blocks.specs.declared.plan.Told.TheVariants as told
use Rattle.fs_cache.specs.declared.steps.Flushed.TheVariants as flushed
use Rattle.fs_blocks.specs.CachePlaces.{with_state}
use Rattle.fs_blocks.specs.CachePlans as plans
use Rattle.fs_blocks.specs.CachePlans.{ask_at}
use Rattle.fs_cache.specs.CacheSteps.{FlushTold, HasGone, IsFlushStep, KeepsCacheWhereDone, as_flushed, by_word, caller, flush_state, stopped}
use Rattle.fs_cache.proofs.CacheBegins.{own_ask}
use Rattle.fs_cache.proofs.Callers.{caller_stays}
use Rattle.fs_requests.specs.declared.state.ServerState.{ServerState}
use Rattle.fs_requests.specs.ServerPlans.{next_at}
use Rattle.fs_server.specs.ServerSteps.{IsFlushed, ends, goes, gone_on}

pub flush_going : (state : ServerState) (disk : DiskFile) (n : ℕ) (s after : KernelState) (files : Around (Option Files)) (output : Output) →
    IsFlushStep (caller s n disk) (Ok flushed.Going) files after output → KeepsCacheWhereDone (Ok flushed.Going) disk n (from_to s after) files →
    FlushTold (Ok flushed.Going) disk n (from_to s after) files.before →
    IsFlushed state (Ok progress.Hidden) disk n (from_to s after) files output
flush_going state disk n s after files output made cache tells = goes (record { made = made; cache = cache; tells = tells })

pub flush_ends : (state : ServerState) (disk : DiskFile) (n : ℕ) (s mid after : KernelState) (files : Around (Option Files)) (output : Output) →
    IsFlushStep (caller s n disk) (Ok flushed.Clean) files mid output → KeepsCacheWhereDone (Ok flushed.Clean) disk n (from_to s mid) files →
    FlushTold (Ok flushed.Clean) disk n (from_to s mid) files.before → after ≡ gone_on mid n (next_at state 0) →
    IsFlushed state (Ok (next_at state 0).seen) disk n (from_to s after) files output
flush_ends state disk n s mid after files output made cache tells is = ends mid (record { made = made; cache = cache; tells = tells }) is

-- Behind the last step the environment is live.
pub clean_live : (disk : DiskFile) (n : ℕ) (s after : KernelState) (files : Around (Option Files)) (output : Output) → is_live (slot_at s n) ≡ true →
    IsFlushStep (caller s n disk) (Ok flushed.Clean) files after output → is_live (slot_at after n) ≡ true
clean_live disk n s after files output live (step, is, gone) = by step is gone
  where
    state : CacheState
    state = flush_state s n

    by : (step : Told) → flushed.Clean ≡ as_flushed step → HasGone state (caller s n disk) files step after output → is_live (slot_at after n) ≡ true
    by told.Going is gone = absurd (let contradiction : flushed.Clean ≡ flushed.Going = is in cc)
    by told.NoPage is gone = absurd (let contradiction : flushed.Clean ≡ flushed.Going = is in cc)
    by told.Clean is (by_word word mid reply files_are tells after_is) =
        let words : List ℕ = with_state (slot_at mid n).extra (plans.next_at state word).state in
        ap (λ (k : KernelState). is_live (slot_at k n)) after_is
        ∙ ap (λ (x : Slot). is_live x) (slot_put mid n (record (slot_at mid n) { extra = words }))
        ∙ (caller_stays (ask_at state) (caller s n disk) files.before word mid output (own_ask state.place state.hand) live reply).live
    by told.Clean is (stopped why not_failed reply files_are tells) = absurd (let contradiction : told.Clean ≡ told.Going = tells in cc)
