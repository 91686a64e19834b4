use Rattle.std.proofs.Common.{◌≡◌, ◌∙◌, refl, sym, ap, arith}
use Rattle.std.proofs.lemmas.Bool.{false≢true}
use Rattle.jos_base.specs.declared.registers.Regs.{Regs}
use Rattle.jos_cpu.specs.declared.events.Event.TheVariants.{Next}
use Rattle.jos_cpu.specs.Bursts.{StepsTo}
use Rattle.jos_cpu.proofs.GoingOn.{step_of-known, on_step, on_end, at_limit}
use Rattle.jos_cpu.proofs.bursts.make_burst.Given as given
use Rattle.jos_cpu.proofs.bursts.make_burst.Goals as goal
use Rattle.jos_cpu.proofs.bursts.make_burst.Goals.{After-may_stand, in-Some+then-not-execute_quickly+in-Next, in-Some+else-not-execute_quickly, in-None+in-Next-step_and_learn}

-- the step that goes on
went : (g : given.Over) (c : After-may_stand g) →
    StepsTo g.M.Mem.table c.args.gates (record { regs = c.loop-before.regs; memory = g.M.Mem.seen c.loop-before.mem }) Next
    (record { regs = c.match-find.regs; memory = g.M.Mem.seen c.match-find.mem })
went g c = elim c.match-find.branch [
  | in-Some+then-not-execute_quickly+in-Next w ↦ rw (w.regs-is, w.mem-is)
      (step_of-known _ _ _ _ _ _ _ c.window.ensures w.in-Some.ensures.right
      (rw (w.if-not-execute_quickly.ensures.0, w.if-not-execute_quickly.ensures.1) at w.in-Next.ensures.done))
  | in-Some+else-not-execute_quickly w ↦ rw (w.regs-is, w.mem-is)
      (step_of-known _ _ _ _ _ _ _ c.window.ensures w.in-Some.ensures.right w.if-not-execute_quickly.ensures)
  | in-None+in-Next-step_and_learn w ↦ rw (w.regs-is, w.mem-is) w.in-Next-step_and_learn.ensures.done
]

pub loop-before-preserved : goal.loop-before-preserved
loop-before-preserved g c =
    on_step _ _ _ _ _ _ _ c.loop-before.invariant (went g (goal.at.loop-before-preserved g c).After-may_stand)
    (sym c.may_stand.ensures ∙ c.if-not-may_stand.false)

pub returns-then-not-may_stand : goal.returns-then-not-may_stand
returns-then-not-may_stand g c =
    on_end _ _ _ _ _ _ _ _ _ _ c.loop-before.invariant c.loop-before-test.true
    (went g (goal.at.returns-then-not-may_stand g c).After-may_stand) tt
    (λ e stand. false≢true (sym c.if-not-may_stand.true ∙ c.may_stand.ensures ∙ stand)) refl

pub returns-in_default : goal.returns-in_default
returns-in_default g c =
    on_end _ _ _ _ _ _ _ _ _ _ c.loop-before.invariant c.loop-before-test.true
    (step_of-known _ _ _ _ _ _ _ c.window.ensures c.in-Some.ensures.right
    (rw (c.if-not-execute_quickly.ensures.0, c.if-not-execute_quickly.ensures.1) at c.execute_known.ensures.done))
    (rw c.if-not-execute_quickly.ensures.0 at c.execute_known.ensures.kept) (λ e stand. c.in_default.not-Next e)
    (ap (λ (regs : Regs). regs.eip) c.if-not-execute_quickly.ensures.0)

pub returns-in_default-step_and_learn : goal.returns-in_default-step_and_learn
returns-in_default-step_and_learn g c =
    on_end _ _ _ _ _ _ _ _ _ _ c.loop-before.invariant c.loop-before-test.true c.step_and_learn.ensures.done c.step_and_learn.ensures.kept
    (λ e stand. c.in_default-step_and_learn.not-Next e) refl

pub returns : goal.returns
returns g c =
    let all : c.loop-before.before ≡ c.args.limit = omega (arith, c.loop-before-test.false, c.loop-before.auto.before-end) in
    at_limit g.M.Mem.table g.M.Mem.stands c.args.gates c.args.limit c.loop-before.regs.eip (record { regs = c.args.regs.now; memory = g.M.Mem.seen c.args.mem.now })
    (record { regs = c.loop-before.regs; memory = g.M.Mem.seen c.loop-before.mem }) c.requires (rw all at c.loop-before.invariant)
