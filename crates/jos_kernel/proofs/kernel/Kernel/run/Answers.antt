use Rattle.std.proofs.Common.{◌≡◌, ℕ, ◌+◌, ◌-◌, refl, subst, ◌∙◌, arith}
use Rattle.jos_host.specs.Frames.{from_to}
use Rattle.jos_kernel.specs.Kernel.{Went, FailsIn}
use Rattle.jos_kernel.proofs.Runs.{none_yet, went_further, fails_further, on_end, on_budget}
use Rattle.jos_kernel.proofs.kernel.Kernel.run.Goals as goal
use Rattle.jos_host.proofs.Frames.{still}

pub loop-left-init : goal.loop-left-init
loop-left-init g c =
    let none : 0 ≡ c.args.budget - c.args.budget = omega arith in
    record {
      went = subst (λ (n : ℕ). Went n (from_to c.args.self.now c.args.self.now) (from_to (g.H.Host.console c.args.host.now) (g.H.Host.console c.args.host.now)))
          none (none_yet c.args.self.now (g.H.Host.console c.args.host.now));
      within = omega arith;
      holds = c.requires.holds;
      rest = record { first = refl; second = refl; third = refl; fourth = refl };
      faults = refl;
    }

pub returns-in-Err-clause-told : goal.returns-in-Err-clause-told
returns-in-Err-clause-told g c =
    on_end c.loop-left.invariant.went (c.loop-left.left - 1) c.in-Err.end
    (omega (arith, c.loop-left.invariant.within, c.loop-left-test.true)) c.in-Err.ensures.end

pub loop-left-preserved : goal.loop-left-preserved
loop-left-preserved g c =
    let e : (c.args.budget - c.loop-left.left) + c.in-Ok-go_on.steps ≡ c.args.budget - (c.loop-left.left - c.in-Ok-go_on.steps) =
    omega (arith, c.loop-left.invariant.within, c.in-Ok-go_on.ensures.told.1) in
    record {
      went = subst (λ (n : ℕ). Went n (from_to c.args.self.now c.go_on.new.self) (from_to (g.H.Host.console c.args.host.now) (g.H.Host.console c.go_on.new.host)))
          e (went_further c.loop-left.invariant.went c.in-Ok-go_on.ensures.told.2);
      within = omega (arith, c.loop-left.invariant.within);
      holds = c.in-Ok-go_on.ensures.holds;
      rest = still c.loop-left.invariant.rest c.in-Ok-go_on.ensures.rest;
      faults = c.in-Ok-go_on.ensures.cause.stayed ∙ c.loop-left.invariant.faults;
    }

pub returns-in-Err-go_on-clause-told : goal.returns-in-Err-go_on-clause-told
returns-in-Err-go_on-clause-told g c =
    let e : c.loop-left.left ≡ c.args.budget - (c.args.budget - c.loop-left.left) = omega (arith, c.loop-left.invariant.within) in
    fails_further c.loop-left.invariant.went (omega (arith, c.loop-left.invariant.within))
    (subst (λ (n : ℕ). FailsIn n c.loop-left.self (from_to (g.H.Host.console c.loop-left.host) (g.H.Host.console c.go_on.new.host))) e c.in-Err-go_on.ensures.told)

pub returns-clause-told : goal.returns-clause-told
returns-clause-told g c =
    on_budget c.loop-left.invariant.went c.end_of_budget.result (omega (arith, c.loop-left-test.false)) c.end_of_budget.ensures
