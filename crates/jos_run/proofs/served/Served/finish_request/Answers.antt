use Rattle.std.proofs.Common.{◌≡◌, ◌∙◌, ◌+◌, ◌==◌, ℕ, Option, inl, inr, refl, sym, subst, arith}
use Rattle.std.specs.Prelude.{not}
use Rattle.jos_host.specs.Frames.{from_to}
use Rattle.jos_kernel.specs.declared.report.Refusal.{Refusal}
use Rattle.jos_kernel.specs.Books.{noted}
use Rattle.lib_os.specs.Disk.{DiskFile, HasBlocks}
use Rattle.jos_run.specs.Closing.{HasClosedSo}
use Rattle.jos_run.specs.DiskTouches.{TouchesDiskOnly}
use Rattle.jos_run.specs.Worlds.{told_disk}
use Rattle.jos_run.proofs.ClosingSteps.{closed_further, closed_none, closing_failed}
use Rattle.jos_run.proofs.DiskKept.{only_nothing, only_step, only_whole, touched_further}
use Rattle.jos_run.proofs.served.Served.finish_request.Given as given
use Rattle.jos_run.proofs.served.Served.finish_request.Goals as goal
use Rattle.jos_run.proofs.served.Served.finish_request.Goals.{After-make_server_step}

pub loop-steps-init : goal.loop-steps-init
loop-steps-init g c =
    let files = g.H.Host.files c.args.host.now in
    let console = g.H.Host.console c.args.host.now in record {
      closed = subst (λ (d : DiskFile). HasClosedSo 0 c.args.turn c.args.first_refused c.args.first_refused (from_to c.args.self.now c.serve.new.self)
          (from_to (told_disk files c.args.self.now.disk) (told_disk files d)) (from_to console console)) (sym c.serve.ensures.disk)
          (closed_none c.args.turn c.args.first_refused c.args.self.now c.serve.new.self (told_disk files c.args.self.now.disk) console
          c.serve.ensures.state c.serve.ensures.written);
      slot = c.serve.ensures.slot;
      disk = c.serve.ensures.disk;
      disk_only = only_nothing c.args.self.now.disk files (g.H.Host.asked c.args.host.now);
      input = refl;
      notes = refl;
      faults = refl;
    }

pub is_acting-requires : goal.is_acting-requires
is_acting-requires g c = c.loop-steps.invariant.slot

-- it acts no more
pub returns-then-not-is_acting-clause-told : goal.returns-then-not-is_acting-clause-told
returns-then-not-is_acting-clause-told g c =
    ((c.loop-steps.invariant.closed, inl (sym c.is_acting.ensures ∙ c.if-not-is_acting.true)), omega (arith, c.loop-steps-test.true))

pub returns-then-not-is_acting-clause-disk : goal.returns-then-not-is_acting-clause-disk
returns-then-not-is_acting-clause-disk g c = c.loop-steps.invariant.disk

pub returns-then-not-is_acting-clause-disk_only : goal.returns-then-not-is_acting-clause-disk_only
returns-then-not-is_acting-clause-disk_only g c = c.loop-steps.invariant.disk_only

pub returns-then-not-is_acting-clause-input : goal.returns-then-not-is_acting-clause-input
returns-then-not-is_acting-clause-input g c = c.loop-steps.invariant.input

pub returns-then-not-is_acting-clause-notes : goal.returns-then-not-is_acting-clause-notes
returns-then-not-is_acting-clause-notes g c = c.loop-steps.invariant.notes

pub make_server_step-requires-clause-slot : goal.make_server_step-requires-clause-slot
make_server_step-requires-clause-slot g c = c.loop-steps.invariant.slot

pub make_server_step-requires-clause-whole : goal.make_server_step-requires-clause-whole
make_server_step-requires-clause-whole g c =
    let whole = only_whole c.args.self.now.disk (from_to (g.H.Host.files c.args.host.now) (g.H.Host.files c.loop-steps.host))
    (from_to (g.H.Host.asked c.args.host.now) (g.H.Host.asked c.loop-steps.host)) c.loop-steps.invariant.disk_only c.requires.whole in
    subst (λ (d : DiskFile). HasBlocks (g.H.Host.files c.loop-steps.host) d) (sym c.loop-steps.invariant.disk) whole

-- ---- one more step

module _ (g : given.Over) (c : goal.After-make_server_step g) where
  touched : TouchesDiskOnly c.args.self.now.disk (from_to (g.H.Host.files c.args.host.now) (g.H.Host.files c.make_server_step.new.host))
      (from_to (g.H.Host.asked c.args.host.now) (g.H.Host.asked c.make_server_step.new.host))
  touched =
      let inv = c.loop-steps.invariant in
      let whole = only_whole c.args.self.now.disk (from_to (g.H.Host.files c.args.host.now) (g.H.Host.files c.loop-steps.host))
      (from_to (g.H.Host.asked c.args.host.now) (g.H.Host.asked c.loop-steps.host)) inv.disk_only c.requires.whole in
      touched_further inv.disk inv.disk_only
      (only_step c.loop-steps.self.disk (from_to (g.H.Host.files c.loop-steps.host) (g.H.Host.files c.make_server_step.new.host))
      (from_to (g.H.Host.asked c.loop-steps.host) (g.H.Host.asked c.make_server_step.new.host))
      (subst (λ (d : DiskFile). HasBlocks (g.H.Host.files c.loop-steps.host) d) (sym inv.disk) whole) c.make_server_step.ensures.disk_only)

pub returns-in-Err-clause-told : goal.returns-in-Err-clause-told
returns-in-Err-clause-told g c = (
  closing_failed c.loop-steps.steps c.args.turn c.args.first_refused c.loop-steps.first_refused c.args.self.now c.loop-steps.self
      c.make_server_step.new.self _ _ _ _ _ _ c.loop-steps.invariant.closed c.in-Err.failed c.in-Err.ensures.step,
  omega (arith, c.loop-steps-test.true),
)

pub returns-in-Err-clause-disk : goal.returns-in-Err-clause-disk
returns-in-Err-clause-disk g c = c.in-Err.ensures.disk ∙ c.loop-steps.invariant.disk

pub returns-in-Err-clause-disk_only : goal.returns-in-Err-clause-disk_only
returns-in-Err-clause-disk_only g c = touched g (goal.at.returns-in-Err-clause-disk_only g c).After-make_server_step

pub returns-in-Err-clause-input : goal.returns-in-Err-clause-input
returns-in-Err-clause-input g c = c.in-Err.ensures.input ∙ c.loop-steps.invariant.input

pub returns-in-Err-clause-notes : goal.returns-in-Err-clause-notes
returns-in-Err-clause-notes g c = c.in-Err.ensures.notes ∙ c.loop-steps.invariant.notes

pub loop-steps-preserved : goal.loop-steps-preserved
loop-steps-preserved g c =
    let inv = c.loop-steps.invariant in
    let step = c.in-Ok.ensures in
    let small = step.small in
    let before = c.refused-refusals.ensures in
    let now = c.refused.ensures in
    let printed = c.written-printed.ensures in
    let acts = sym c.is_acting.ensures ∙ c.if-not-is_acting.false in
    let closed = closed_further c.loop-steps.steps c.args.turn c.args.first_refused c.loop-steps.first_refused c.args.self.now c.loop-steps.self
    c.make_server_step.new.self _ _ _ _ _ _ inv.closed acts c.in-Ok.field-0 step.step step.rest step.leaves step.soon small in
    record {
      closed = subst (λ (o : Option Refusal). HasClosedSo (c.loop-steps.steps + 1) c.args.turn c.args.first_refused o
          (from_to c.args.self.now c.make_server_step.new.self)
          (from_to (told_disk (g.H.Host.files c.args.host.now) c.args.self.now.disk)
          (told_disk (g.H.Host.files c.make_server_step.new.host) c.make_server_step.new.self.disk))
          (from_to (g.H.Host.console c.args.host.now) (g.H.Host.console c.make_server_step.new.host)))
          (sym (c.noted-first_refused.ensures
          ∙ (λ i. noted c.loop-steps.first_refused (not (now i == before i)) c.args.turn (printed i)))) closed;
      slot = step.slot;
      disk = step.disk ∙ inv.disk;
      disk_only = touched g (goal.at.loop-steps-preserved g c).After-make_server_step;
      input = step.input ∙ inv.input;
      notes = step.notes ∙ inv.notes;
      faults = step.cause.stayed ∙ inv.faults;
    }

-- ---- it has made all that it may make

pub returns-clause-told : goal.returns-clause-told
returns-clause-told g c =
    let all : c.loop-steps.steps ≡ 9007199254740992 = omega (arith, c.loop-steps-test.false, c.loop-steps.auto.steps-end) in (
      (
        subst (λ (n : ℕ). HasClosedSo n c.args.turn c.args.first_refused c.loop-steps.first_refused (from_to c.args.self.now c.loop-steps.self)
            (from_to (told_disk (g.H.Host.files c.args.host.now) c.args.self.now.disk) (told_disk (g.H.Host.files c.loop-steps.host) c.loop-steps.self.disk))
            (from_to (g.H.Host.console c.args.host.now) (g.H.Host.console c.loop-steps.host))) all c.loop-steps.invariant.closed,
        inr refl,
      ),
      omega arith,
    )

pub returns-clause-disk : goal.returns-clause-disk
returns-clause-disk g c = c.loop-steps.invariant.disk

pub returns-clause-disk_only : goal.returns-clause-disk_only
returns-clause-disk_only g c = c.loop-steps.invariant.disk_only

pub returns-clause-input : goal.returns-clause-input
returns-clause-input g c = c.loop-steps.invariant.input

pub returns-clause-notes : goal.returns-clause-notes
returns-clause-notes g c = c.loop-steps.invariant.notes
