use Rattle.std.proofs.Common.{ap, sym, ◌∙◌, ◌+◌, ◌-◌, arith, ℕ, Bool}
use Rattle.jos_sys.specs.System.{left_of}
use Rattle.jos_cpu.proofs.Probing.{at_end}
use Rattle.jos_kernel.proofs.UserBytes.{on_reached, on_fault, on_fence, none_allowed, none_readable}
use Rattle.jos_kernel.proofs.machine.MachineMem.probe.Goals as goal

pub returns-in-None-clause-exact : goal.returns-in-None-clause-exact
returns-in-None-clause-exact g c = rw (← c.self.view_is, c.in-None.is) (c.probe_nothing.ensures.none ∙ none_allowed g.F.Fence.inside _ _ _ _)

pub returns-in-None-clause-readable : goal.returns-in-None-clause-readable
returns-in-None-clause-readable g c =
    rw (← c.self.view_is, c.in-None.is) (none_readable g.F.Fence.inside _ _ _ c.args.access c.probe_nothing.result c.probe_nothing.ensures.none)

pub invariant_of-self-then-not-is_inside : goal.invariant_of-self-then-not-is_inside
invariant_of-self-then-not-is_inside g c = record {
  system = c.loop.invariant.system;
  space = rw c.loop.invariant.space c.loop.invariant.in_use;
  code = rw c.loop.invariant.code tt;
}

pub returns-then-not-is_inside-clause-after : goal.returns-then-not-is_inside-clause-after
returns-then-not-is_inside-clause-after g c =
    rw c.loop.invariant.space
    (on_fence g.F.Fence.inside c.loop.invariant.probing (c.args.len - (c.loop.counter + 1)) (omega (arith, c.loop-test.true))
    (sym c.is_inside.ensures ∙ c.if-not-is_inside.true)).0

pub returns-then-not-is_inside-clause-exact : goal.returns-then-not-is_inside-clause-exact
returns-then-not-is_inside-clause-exact g c =
    (on_fence g.F.Fence.inside c.loop.invariant.probing (c.args.len - (c.loop.counter + 1)) (omega (arith, c.loop-test.true))
    (sym c.is_inside.ensures ∙ c.if-not-is_inside.true)).1

pub returns-then-not-is_inside-clause-stays : goal.returns-then-not-is_inside-clause-stays
returns-then-not-is_inside-clause-stays g c =
    rw c.loop.invariant.space
    (on_fence g.F.Fence.inside c.loop.invariant.probing (c.args.len - (c.loop.counter + 1)) (omega (arith, c.loop-test.true))
    (sym c.is_inside.ensures ∙ c.if-not-is_inside.true)).2

pub invariant_of-self-in-Err : goal.invariant_of-self-in-Err
invariant_of-self-in-Err g c = record {
  system = c.reach.ensures.spaces c.loop.invariant.system;
  space = rw c.loop.invariant.space
      (ap (λ (used : ℕ → Bool). used c.in-Some.space.directory.0) c.reach.ensures.in_use ∙ c.loop.invariant.in_use);
  code = rw c.loop.invariant.code tt;
}

pub returns-in-Err-clause-after : goal.returns-in-Err-clause-after
returns-in-Err-clause-after g c =
    rw c.loop.invariant.space
    (on_fault g.F.Fence.inside c.loop.invariant.probing (c.args.len - (c.loop.counter + 1)) _ (omega (arith, c.loop-test.true))
    (sym c.is_inside.ensures ∙ c.if-not-is_inside.false) c.in-Err.ensures.allowed c.in-Err.ensures.fault (c.in-Err.ensures.state (left_of c.loop.self-inside.input))).0

pub returns-in-Err-clause-exact : goal.returns-in-Err-clause-exact
returns-in-Err-clause-exact g c =
    (on_fault g.F.Fence.inside c.loop.invariant.probing (c.args.len - (c.loop.counter + 1)) _ (omega (arith, c.loop-test.true))
    (sym c.is_inside.ensures ∙ c.if-not-is_inside.false) c.in-Err.ensures.allowed c.in-Err.ensures.fault (c.in-Err.ensures.state (left_of c.loop.self-inside.input))).1

pub returns-in-Err-clause-stays : goal.returns-in-Err-clause-stays
returns-in-Err-clause-stays g c =
    rw c.loop.invariant.space
    (on_fault g.F.Fence.inside c.loop.invariant.probing (c.args.len - (c.loop.counter + 1)) _ (omega (arith, c.loop-test.true))
    (sym c.is_inside.ensures ∙ c.if-not-is_inside.false) c.in-Err.ensures.allowed c.in-Err.ensures.fault (c.in-Err.ensures.state (left_of c.loop.self-inside.input))).2

pub loop-preserved : goal.loop-preserved
loop-preserved g c = record {
  probing =
      on_reached g.F.Fence.inside c.loop.invariant.probing (c.args.len - (c.loop.counter + 1)) _ (omega (arith, c.loop-test.true))
      (sym c.is_inside.ensures ∙ c.if-not-is_inside.false) c.in-Ok.ensures.allowed (c.in-Ok.ensures.state (left_of c.loop.self-inside.input));
  system = c.reach.ensures.spaces c.loop.invariant.system;
  in_use = ap (λ (used : ℕ → Bool). used c.in-Some.space.directory.0) c.reach.ensures.in_use ∙ c.loop.invariant.in_use;
  space = c.loop.invariant.space;
  code = c.loop.invariant.code;
}

pub returns-clause-after : goal.returns-clause-after
returns-clause-after g c = rw c.loop.invariant.space (at_end c.loop.invariant.probing (omega (arith, c.loop-test.false))).0

pub returns-clause-exact : goal.returns-clause-exact
returns-clause-exact g c = (at_end c.loop.invariant.probing (omega (arith, c.loop-test.false))).1

pub returns-clause-readable : goal.returns-clause-readable
returns-clause-readable g c = (at_end c.loop.invariant.probing (omega (arith, c.loop-test.false))).2
