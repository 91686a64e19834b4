-- What is known of the kind of a request at a step: a job of a file that is open is no open, and what is looked for in the table is to be removed.
use Rattle.std.proofs.Common.{◌≡◌, ◌∙◌, ℕ, true, false, Option, Some, refl, ap}
use Rattle.std.proofs.lemmas.Bool.{false≢true}
use Rattle.lib_os.specs.declared.request.RequestKind.{RequestKind}
use Rattle.lib_os.specs.declared.request.RequestKind.TheVariants as kind
use Rattle.lib_os.specs.AbstractState.{AbstractState}
use Rattle.fs_runs.specs.TreeRuns.{Memory}
use Rattle.fs_requests.specs.declared.state.ServerStep.{ServerStep}
use Rattle.fs_requests.specs.declared.state.ServerStep.TheVariants as step
use Rattle.fs_requests.specs.ServerPlans.{opens}
use Rattle.fs_serving.specs.ServerRuns.{StandsAtStep, is_of_file}
use Rattle.fs_serving.specs.ServerViews.{Serving}

abbrev pub KindFits : ServerStep → Option RequestKind → Type 0
KindFits step.ReadingRecord k = opens k ≡ false
KindFits step.CheckingRecord k = k ≡ Some kind.Remove
KindFits step.CheckingEntry k = k ≡ Some kind.Remove
KindFits step.CheckingHolders k = k ≡ Some kind.Remove
KindFits _ k = Unit {0}

of_file_opens : (k : RequestKind) → is_of_file k ≡ true → opens (Some k) ≡ false
of_file_opens kind.Open of = absurd (false≢true of)
of_file_opens _ of = refl

pub kind_fits : (count : ℕ) (a : AbstractState) (it : Serving) (before : Memory) (at : ServerStep) → StandsAtStep at count a it before →
    KindFits at it.state.kind
kind_fits count a it before step.ReadingRecord h =
    ap (λ (k : Option RequestKind). opens k) h.0.is_busy.kind_is ∙ of_file_opens h.0.k h.0.of_file
kind_fits count a it before step.CheckingRecord h = h.is_busy.kind_is
kind_fits count a it before step.CheckingEntry h = h.0.is_busy.kind_is
kind_fits count a it before step.CheckingHolders h = h.0.is_busy.kind_is
kind_fits count a it before _ h = tt
