-- All steps together: each is as its piece says.
use Rattle.std.proofs.Common.{◌≡◌, ◌∙◌, ℕ, true, refl, sym, ap, subst}
use Rattle.std.proofs.lemmas.Bool.{false≢true}
use Rattle.fs_runs.specs.TreeRuns.{AreSmall}
use Rattle.lib_os.specs.AbstractState.{AbstractState}
use Rattle.fs_requests.specs.declared.plan.ServerNext.{ServerNext}
use Rattle.fs_requests.specs.declared.state.ServerStep.{ServerStep}
use Rattle.fs_requests.specs.declared.state.ServerStep.TheVariants as step
use Rattle.fs_requests.specs.ServerPlans.{ask_for, next_for}
use Rattle.fs_serving.specs.ServerRuns.{Follows, GoesOnBy, ServersServe, StandsAtStep, StandsServing, is_serving}
use Rattle.fs_serving.specs.ServerViews.{Calls, IsReplyFor, IsSeenBehind, Serving, called, gone_on}
use Rattle.fs_serving.proofs.Pieces.{FlushFollows, JobFollows, StepFollows}

pub record Pieces : Type 0 where
  pub reading_kind : StepFollows step.ReadingKind
  pub reading_client : StepFollows step.ReadingClient
  pub reading_file : StepFollows step.ReadingFile
  pub reading_offset : StepFollows step.ReadingOffset
  pub reading_count : StepFollows step.ReadingCount
  pub reading_record : StepFollows step.ReadingRecord
  pub looking_record : StepFollows step.LookingRecord
  pub looking_entry : StepFollows step.LookingEntry
  pub looking_holders : StepFollows step.LookingHolders
  pub taking_page : StepFollows step.TakingPage
  pub reading_mode : StepFollows step.ReadingMode
  pub storing_record : StepFollows step.StoringRecord
  pub storing_device : StepFollows step.StoringDevice
  pub reading_mode_again : StepFollows step.ReadingModeAgain
  pub storing_mode : StepFollows step.StoringMode
  pub storing_file : StepFollows step.StoringFile
  pub reading_record_again : StepFollows step.ReadingRecordAgain
  pub storing_size : StepFollows step.StoringSize
  pub advancing : StepFollows step.Advancing
  pub storing_offset : StepFollows step.StoringOffset
  pub checking_record : StepFollows step.CheckingRecord
  pub checking_entry : StepFollows step.CheckingEntry
  pub checking_holders : StepFollows step.CheckingHolders
  pub acting : StepFollows step.Acting
  pub working : JobFollows step.Working
  pub finding : JobFollows step.Finding
  pub sizing : JobFollows step.Sizing
  pub flushing : FlushFollows

-- a call of a step, told by the step
by-call : (at : ServerStep) → StepFollows at → (count : ℕ) (a : AbstractState) (it : Serving) → it.state.step ≡ at → AreSmall it.view.memory →
    (stands : StandsServing count a it) → (next : ServerNext) (behind : Serving) → Calls it next behind → Follows count a next.seen behind
by-call at piece count a it is small stands next behind (called word v reply seen next_is) =
    subst (λ (n : ServerNext). Follows count a n.seen (gone_on it n v)) (sym (next_is ∙ ap (λ (x : ServerStep). next_for it.state x word) is))
    (piece count a it stands.before small stands.files stands.table (subst (λ (x : ServerStep). StandsAtStep x count a it stands.before) is stands.at) word v
    (subst (λ (x : ServerStep). IsReplyFor x it.state it.view word) is reply) (subst (λ (x : ServerStep). IsSeenBehind x it.state it.view v) is seen))

module _ (pieces : Pieces) (count : ℕ) (a : AbstractState) (it : Serving) (small : AreSmall it.view.memory) (stands : StandsServing count a it) where
  by-step : (at : ServerStep) → it.state.step ≡ at → is_serving at ≡ true → GoesOnBy (ask_for it.state at) count a it
  by-step step.ReadingKind is serves = by-call step.ReadingKind pieces.reading_kind count a it is small stands
  by-step step.ReadingClient is serves = by-call step.ReadingClient pieces.reading_client count a it is small stands
  by-step step.ReadingFile is serves = by-call step.ReadingFile pieces.reading_file count a it is small stands
  by-step step.ReadingOffset is serves = by-call step.ReadingOffset pieces.reading_offset count a it is small stands
  by-step step.ReadingCount is serves = by-call step.ReadingCount pieces.reading_count count a it is small stands
  by-step step.ReadingRecord is serves = by-call step.ReadingRecord pieces.reading_record count a it is small stands
  by-step step.LookingRecord is serves = by-call step.LookingRecord pieces.looking_record count a it is small stands
  by-step step.LookingEntry is serves = by-call step.LookingEntry pieces.looking_entry count a it is small stands
  by-step step.LookingHolders is serves = by-call step.LookingHolders pieces.looking_holders count a it is small stands
  by-step step.TakingPage is serves = by-call step.TakingPage pieces.taking_page count a it is small stands
  by-step step.ReadingMode is serves = by-call step.ReadingMode pieces.reading_mode count a it is small stands
  by-step step.StoringRecord is serves = by-call step.StoringRecord pieces.storing_record count a it is small stands
  by-step step.StoringDevice is serves = by-call step.StoringDevice pieces.storing_device count a it is small stands
  by-step step.ReadingModeAgain is serves = by-call step.ReadingModeAgain pieces.reading_mode_again count a it is small stands
  by-step step.StoringMode is serves = by-call step.StoringMode pieces.storing_mode count a it is small stands
  by-step step.StoringFile is serves = by-call step.StoringFile pieces.storing_file count a it is small stands
  by-step step.ReadingRecordAgain is serves = by-call step.ReadingRecordAgain pieces.reading_record_again count a it is small stands
  by-step step.Sizing is serves =
      pieces.sizing count a it stands.before is stands.files stands.table
      (subst (λ (x : ServerStep). StandsAtStep x count a it stands.before) is stands.at)
  by-step step.StoringSize is serves = by-call step.StoringSize pieces.storing_size count a it is small stands
  by-step step.Advancing is serves = by-call step.Advancing pieces.advancing count a it is small stands
  by-step step.StoringOffset is serves = by-call step.StoringOffset pieces.storing_offset count a it is small stands
  by-step step.CheckingRecord is serves = by-call step.CheckingRecord pieces.checking_record count a it is small stands
  by-step step.CheckingEntry is serves = by-call step.CheckingEntry pieces.checking_entry count a it is small stands
  by-step step.CheckingHolders is serves = by-call step.CheckingHolders pieces.checking_holders count a it is small stands
  by-step step.Acting is serves = by-call step.Acting pieces.acting count a it is small stands
  by-step step.Working is serves =
      pieces.working count a it stands.before is stands.files stands.table
      (subst (λ (x : ServerStep). StandsAtStep x count a it stands.before) is stands.at)
  by-step step.Finding is serves =
      pieces.finding count a it stands.before is stands.files stands.table
      (subst (λ (x : ServerStep). StandsAtStep x count a it stands.before) is stands.at)
  by-step step.Flushing is serves =
      subst (λ (x : ServerStep). let next = next_for it.state x 0 in Follows count a next.seen (gone_on it next it.view)) (sym is)
      (pieces.flushing count a it stands.before stands.files stands.table
      (subst (λ (x : ServerStep). StandsAtStep x count a it stands.before) is stands.at))
  by-step step.Releasing is serves = absurd (false≢true serves)
  by-step step.Receiving is serves = absurd (false≢true serves)
  by-step step.Replying is serves = absurd (false≢true serves)
  by-step step.Pausing is serves = absurd (false≢true serves)

pub servers_serve : Pieces → ServersServe
servers_serve pieces count a it serves small stands = by-step pieces count a it small stands it.state.step refl serves
