-- An access that is served is one step, over states alone.
use Rattle.std.proofs.Common.{◌≡◌, ◌∙◌, ◌+◌, ℕ, true, false, List, [], Option, None, Result, Ok, Err}
use Rattle.std.proofs.Common.{refl, sym, ap, subst}
use Rattle.std.specs.Prelude.{◌-◌, ◌^◌, min, is_ok}
use Rattle.std.proofs.lemmas.Bool.{false≢true}
use Rattle.jos_host.specs.declared.host.Failed.{Failed}
use Rattle.jos_host.specs.Frames.{Around}
use Rattle.jos_base.specs.declared.line.Line.{Line}
use Rattle.jos_base.specs.declared.line.Line.TheVariants as line
use Rattle.jos_base.specs.declared.memory.Access.{Access}
use Rattle.jos_base.specs.declared.memory.PageFault.{PageFault}
use Rattle.jos_base.specs.KernelState.{KernelState, slot_at, with_spaces}
use Rattle.jos_base.specs.Reach.{FrameOffset}
use Rattle.jos_base.specs.SystemCalls.{handled, killed}
use Rattle.jos_base.specs.SpacesState.{SpacesState}
use Rattle.jos_base.specs.UserMemory.{reach_in, is_allowed, fault_at, fault_or, touched, touched_by}
use Rattle.jos_sys.specs.declared.system.CallAnswer.{CallAnswer}
use Rattle.jos_sys.specs.System.{Does}
use Rattle.lib_os.specs.declared.user_os.Stop.{Stop}
use Rattle.lib_os.specs.declared.user_os.Stop.TheVariants.{Upcall, Ended, Failed as HostFailed}
use Rattle.lib_os.specs.UserCalls.{CallStep, IsStep, Output, Prints, got, giving, accessing, by_access, faulting}
use Rattle.jos_kernel.specs.MemoryProofs.{reach_touched}
use Rattle.jos_run.specs.Served.{IsRaised}
use Rattle.jos_run.proofs.Printed.{printed, prints}

-- ---- an environment that a fault ends

module _ (s now : KernelState) (n : ℕ) (fault : PageFault) (console : Around (Option (List ℕ))) (counted after : ℕ) (none : handled s n fault ≡ None)
    (before : KernelState) (told : Line) (same : before ≡ s) (line_is : told ≡ line.UserFault fault.va (slot_at s n).registers.eip) where
  -- its end is raised
  pub ended_raised : (answer : CallAnswer) → Does (Ok answer) (killed before n told) now console →
      after ≡ min (counted + answer.written) (2 ^ 64 - 1) → IsRaised s n fault Ended now (printed console counted after)
  ended_raised answer =
      rw (same, line_is) (λ did more. (none, did.0, prints console counted after answer.written _ did.2 more did.3))

  -- its end that the host did not see written
  pub failed_raised : (failed : Failed) → Does (Err failed) (killed before n told) now console →
      IsRaised s n fault HostFailed now (printed console counted after)
  failed_raised failed = rw (same, line_is) (λ did. (none, did))

-- ---- steps

module _ (X : Type 0) (s after : KernelState) (n : ℕ) (output : Output) where
  -- a call that faults
  pub faulted_step : (fault : PageFault) (why : Stop) → IsRaised s n fault why after output →
      IsStep {X = X} (faulting s n fault (handled s n fault)) (Err why) after output
  faulted_step fault Upcall raised = rw raised.0 (refl, refl, raised.1)
  faulted_step fault Ended raised = rw raised.0 (refl, raised.1, raised.2)
  faulted_step fault HostFailed raised = rw raised.0 (refl, raised.1)

  module _ (va : ℕ) (access : Access) (done : KernelState → CallStep X) where
    -- an access that is refused
    pub refused_step : (why : Stop) → is_allowed s.spaces (slot_at s n).directory va access ≡ false →
        IsRaised s n (fault_at s.spaces (slot_at s n).directory va access) why after output →
        IsStep (by_access s n va access done) (Err why) after output
    refused_step why refused raised = by_reach (reach_in s.spaces (slot_at s n).directory va access) refused raised
      where
        by_reach : (r : Result FrameOffset PageFault) → is_ok r ≡ false → IsRaised s n (fault_or (record { va = va; error = 0 }) r) why after output →
            IsStep (accessing s n va access done r) (Err why) after output
        by_reach (Ok location) refused raised = absurd (false≢true (sym refused))
        by_reach (Err fault) refused raised = faulted_step fault why raised

    -- an access that is allowed
    allowed_step : (x : X) (reached : KernelState) → is_allowed s.spaces (slot_at s n).directory va access ≡ true →
        reached ≡ with_spaces s (touched s.spaces (slot_at s n).directory va access) →
        IsStep (done reached) (Ok x) after output → IsStep (by_access s n va access done) (Ok x) after output
    allowed_step x reached allowed same = by_reach (reach_in s.spaces (slot_at s n).directory va access) allowed
      where
        by_reach : (r : Result FrameOffset PageFault) → is_ok r ≡ true → IsStep (done reached) (Ok x) after output →
            IsStep (accessing s n va access done r) (Ok x) after output
        by_reach (Ok location) allowed step = subst (λ (k : KernelState). IsStep (done k) (Ok x) after output) same step
        by_reach (Err fault) allowed step = absurd (false≢true allowed)

-- ---- calls

-- the access is reached, and nothing is printed
module _ (s reached : KernelState) (n m va : ℕ) (access : Access) (output : Output)
    (allowed : is_allowed s.spaces (slot_at s n).directory va access ≡ true)
    (reached_is : reached ≡ with_spaces s (touched s.spaces (slot_at s n).directory va access)) (same : m ≡ n) (quiet : Prints output []) where
  -- what is read is given
  pub read_step : (read : KernelState → ℕ → ℕ) (x : ℕ) → x ≡ read reached m →
      IsStep (by_access s n va access (λ after. giving after (read after n))) (Ok x) reached output
  read_step read x is =
      allowed_step ℕ s reached n output va access (λ after. giving after (read after n)) x reached allowed reached_is
      (ap got (sym (is ∙ ap (read reached) same)), refl, quiet)

  -- what is put is put there
  pub put_step : (with_put : KernelState → ℕ → KernelState) (after : KernelState) → after ≡ with_put reached m →
      IsStep (by_access s n va access (λ mid. giving (with_put mid n) (tt {0}))) (Ok (tt {0})) after output
  put_step with_put after is =
      allowed_step (Unit {0}) s after n output va access (λ mid. giving (with_put mid n) (tt {0})) (tt {0}) reached allowed reached_is
      (refl, is ∙ ap (with_put reached) same, quiet)

  -- what is read is given, and something else put there
  pub exchange_step : (read : KernelState → ℕ → ℕ) (with_put : KernelState → ℕ → KernelState) (x : ℕ) (after : KernelState) →
      x ≡ read reached m → after ≡ with_put reached m →
      IsStep (by_access s n va access (λ mid. record { state = with_put mid n; gives = got (read mid n); written = [] })) (Ok x) after output
  exchange_step read with_put x after is now_is =
      allowed_step ℕ s after n output va access (λ mid. record { state = with_put mid n; gives = got (read mid n); written = [] }) x reached allowed reached_is
      (ap got (sym (is ∙ ap (read reached) same)), now_is ∙ ap (with_put reached) same, quiet)

-- what was allowed is allowed still
pub still_allowed : (s reached : KernelState) (n m va : ℕ) (access : Access) → is_allowed s.spaces (slot_at s n).directory va access ≡ true →
    reached ≡ with_spaces s (touched s.spaces (slot_at s n).directory va access) → m ≡ n →
    is_allowed reached.spaces (slot_at reached m).directory va access ≡ true
still_allowed s reached n m va access allowed reached_is same =
    rw (reached_is, same) (ap is_ok (reach_touched s.spaces (slot_at s n).directory va access va access) ∙ allowed)

-- an access that is refused sets no bit
untouched : (s : SpacesState) (d va : ℕ) (access : Access) → is_allowed s d va access ≡ false → touched s d va access ≡ s
unfolding touched
untouched s d va access refused = by_reach (reach_in s d va access) refused
  where
    by_reach : (r : Result FrameOffset PageFault) → is_ok r ≡ false → touched_by s d va access r ≡ s
    by_reach (Ok location) refused = absurd (false≢true (sym refused))
    by_reach (Err fault) refused = refl

-- nor does it change the state
pub refused_state : (s t : KernelState) (d va : ℕ) (access : Access) → is_allowed s.spaces d va access ≡ false →
    t ≡ with_spaces s (touched s.spaces d va access) → t ≡ s
refused_state s t d va access refused reached = reached ∙ ap (with_spaces s) (untouched s.spaces d va access refused)
