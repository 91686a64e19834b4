-- What a call has done is what was asked for.
use Rattle.std.proofs.Common.{◌≡◌, ℕ, Ok, Err, sym, ap, subst}
use Rattle.jos_base.specs.declared.called.Called.{Called}
use Rattle.jos_base.specs.declared.called.Called.TheVariants.{Answered}
use Rattle.jos_base.specs.KernelState.{KernelState}
use Rattle.lib_os.specs.declared.user_os.Stop.{Stop}
use Rattle.lib_os.specs.declared.user_os.Stop.TheVariants as stop
use Rattle.lib_os.specs.UserCalls.{CallStep, Got, gone, IsStep, Output}
use Rattle.lib_stage.specs.declared.ask.Ask.{Ask}
use Rattle.lib_stage.specs.Asks.{performed, got_as, told_as, MayFail, IsPerformed}

-- of a call that gives a word
pub told : {X : Type 0} (a : Ask) → ((g : Got Called) → g ≡ gone → MayFail a g) → (word : X → ℕ) (step : CallStep X) (x : X) (state : KernelState)
    (output : Output) → IsStep step (Ok x) state output → IsPerformed a (told_as word step) (Ok (Answered (word x))) state output
told a fails word step x state output h = (ap (got_as word) h.0, h.1, h.2)

pub told_not : {X : Type 0} (a : Ask) → ((g : Got Called) → g ≡ gone → MayFail a g) → (word : X → ℕ) (step : CallStep X) (e : Stop) (state : KernelState)
    (output : Output) → IsStep step (Err e) state output → IsPerformed a (told_as word step) (Err e) state output
told_not a fails word step stop.Upcall state output h = (ap (got_as word) h.0, h.1, h.2)
told_not a fails word step stop.Ended state output h = (ap (got_as word) h.0, h.1, h.2)
told_not a fails word step stop.Failed state output h = (fails _ (ap (got_as word) h.0), h.1)

-- what was asked for is such a call
pub asked_not : {X : Type 0} (s : KernelState) (n : ℕ) (asked a : Ask) (word : X → ℕ) (step : CallStep X) (e : Stop) (state : KernelState) (output : Output) →
    asked ≡ a → performed s n a ≡ told_as word step → ((g : Got Called) → g ≡ gone → MayFail a g) → IsStep step (Err e) state output →
    IsPerformed asked (performed s n asked) (Err e) state output
asked_not s n asked a word step e state output same is fails h =
    subst (λ (x : Ask). IsPerformed x (performed s n x) (Err e) state output) (sym same)
    (subst (λ (z : CallStep Called). IsPerformed a z (Err e) state output) (sym is) (told_not a fails word step e state output h))
