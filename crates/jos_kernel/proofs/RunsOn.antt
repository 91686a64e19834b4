-- What a run writes begins with what was written before it.
use Rattle.std.proofs.Common.{◌≡◌, ℕ, zero, suc, false, List, [], ◌++◌, Option, None, Some, refl, sym, subst, ◌∙◌, append_assoc}
use Rattle.std.proofs.lemmas.List.{append-nil}
use Rattle.jos_kernel.specs.declared.report.End.{End}
use Rattle.jos_kernel.specs.ExoRun.{RunProgress, Ran, current, turn_entered, end_of, progressed, one_step, after_test, run_from}
use Rattle.jos_kernel.specs.Steps.{env_step}

-- the console of the run goes on from this one
abbrev pub GoesOnFrom : List ℕ → Ran → Type 0
GoesOnFrom console ran = (more : List ℕ) × (ran.progress.console ≡ console ++ more)

goes_on_further : (console more : List ℕ) (ran : Ran) → GoesOnFrom (console ++ more) ran → GoesOnFrom console ran
goes_on_further console more ran h = (more ++ h.0, h.1 ∙ append_assoc console more h.0)

one_step-console : (schedule : List ℕ) (p : RunProgress) → (more : List ℕ) × ((one_step schedule p).console ≡ p.console ++ more)
unfolding one_step progressed
one_step-console schedule p = ((env_step (turn_entered p.state p.made) (current (turn_entered p.state p.made))).written, refl)

after_test-console : (p : RunProgress) (o : Option End) (rest : Ran) → GoesOnFrom p.console rest → GoesOnFrom p.console (after_test p o rest)
after_test-console p (Some end) rest h = ([], sym (append-nil p.console))
after_test-console p None rest h = h

pub run_from-console : (schedule : List ℕ) (left : ℕ) (p : RunProgress) → GoesOnFrom p.console (run_from schedule left p)
unfolding run_from
run_from-console schedule zero p = ([], sym (append-nil p.console))
run_from-console schedule (suc left) p =
    let step = one_step-console schedule p in
    after_test-console p (end_of p false) (run_from schedule left (one_step schedule p))
    (goes_on_further p.console step.0 (run_from schedule left (one_step schedule p))
    (subst (λ (c : List ℕ). GoesOnFrom c (run_from schedule left (one_step schedule p))) step.1
    (run_from-console schedule left (one_step schedule p))))
