use Rattle.std.proofs.Common.{◌≡◌, ◌∙◌, ◌≤◌, ℕ, ◌+◌, ◌-◌, refl, subst, sym, arith}
use Rattle.jos_host.specs.Frames.{from_to}
use Rattle.lib_os.specs.Disk.{DiskFile, HasBlocks}
use Rattle.jos_run.specs.Running.{Went, disks_of}
use Rattle.jos_run.specs.Worlds.{told_disk}
use Rattle.jos_run.proofs.DiskKept.{only_nothing, only_whole, touched_further}
use Rattle.jos_run.proofs.RunEnds.{none_yet, went_further, fails_further, on_end, on_budget}
use Rattle.jos_run.proofs.library_run.LibraryRun.go.Goals as goal

pub loop-left-init : goal.loop-left-init
loop-left-init g c =
    let none : 0 ≡ c.args.budget - c.args.budget = omega arith in
    record {
      went = subst (λ (n : ℕ). Went n (from_to c.args.self.now c.args.self.now)
          (from_to (told_disk (g.H.Host.files c.args.host.now) c.args.self.now.served.disk) (told_disk (g.H.Host.files c.args.host.now) c.args.self.now.served.disk))
          (from_to (g.H.Host.console c.args.host.now) (g.H.Host.console c.args.host.now))) none
          (none_yet c.args.self.now (told_disk (g.H.Host.files c.args.host.now) c.args.self.now.served.disk) (g.H.Host.console c.args.host.now));
      within = omega arith;
      holds = c.requires.holds;
      disk = refl;
      disk_only = only_nothing c.args.self.now.served.disk (g.H.Host.files c.args.host.now) (g.H.Host.asked c.args.host.now);
      input = refl;
      notes = refl;
      faults = refl;
    }

pub loop-left-preserved : goal.loop-left-preserved
loop-left-preserved g c =
    let told = c.in-Ok-advance.ensures.told in
    let more : c.in-Ok-advance.steps ≤ c.loop-left.left = told.1 in
    let e : (c.args.budget - c.loop-left.left) + c.in-Ok-advance.steps ≡ c.args.budget - (c.loop-left.left - c.in-Ok-advance.steps) =
    omega (arith, c.loop-left.invariant.within, more) in
    record {
      went = subst (λ (n : ℕ). Went n (from_to c.args.self.now c.advance.new.self)
          (disks_of (from_to (g.H.Host.files c.args.host.now) (g.H.Host.files c.advance.new.host)) (from_to c.args.self.now c.advance.new.self))
          (from_to (g.H.Host.console c.args.host.now) (g.H.Host.console c.advance.new.host)))
          e (went_further c.loop-left.invariant.went told.2);
      within = omega (arith, c.loop-left.invariant.within);
      holds = c.in-Ok-advance.ensures.holds;
      disk = c.in-Ok-advance.ensures.disk ∙ c.loop-left.invariant.disk;
      disk_only = touched_further c.loop-left.invariant.disk c.loop-left.invariant.disk_only c.in-Ok-advance.ensures.disk_only;
      input = c.in-Ok-advance.ensures.input ∙ c.loop-left.invariant.input;
      notes = c.in-Ok-advance.ensures.notes ∙ c.loop-left.invariant.notes;
      faults = c.in-Ok-advance.ensures.cause.stayed ∙ c.loop-left.invariant.faults;
    }

pub advance-requires-clause-whole : goal.advance-requires-clause-whole
advance-requires-clause-whole g c =
    let whole = only_whole c.args.self.now.served.disk (from_to (g.H.Host.files c.args.host.now) (g.H.Host.files c.loop-left.host))
    (from_to (g.H.Host.asked c.args.host.now) (g.H.Host.asked c.loop-left.host)) c.loop-left.invariant.disk_only c.requires.whole in
    subst (λ (d : DiskFile). HasBlocks (g.H.Host.files c.loop-left.host) d) (sym c.loop-left.invariant.disk) whole

pub returns-in-Err-clause-told : goal.returns-in-Err-clause-told
returns-in-Err-clause-told g c =
    on_end c.loop-left.invariant.went c.loop-left-test.true c.loop-left.invariant.within c.loop-left.invariant.holds c.in-Err.end c.in-Err.ensures.over
    c.in-Err.ensures.end

pub returns-in-Err-advance-clause-told : goal.returns-in-Err-advance-clause-told
returns-in-Err-advance-clause-told g c = fails_further c.loop-left.invariant.went c.in-Err-advance.ensures.told

pub returns-in-Err-advance-clause-disk : goal.returns-in-Err-advance-clause-disk
returns-in-Err-advance-clause-disk g c = c.in-Err-advance.ensures.disk ∙ c.loop-left.invariant.disk

pub returns-in-Err-advance-clause-disk_only : goal.returns-in-Err-advance-clause-disk_only
returns-in-Err-advance-clause-disk_only g c =
    touched_further c.loop-left.invariant.disk c.loop-left.invariant.disk_only c.in-Err-advance.ensures.disk_only

pub returns-in-Err-advance-clause-input : goal.returns-in-Err-advance-clause-input
returns-in-Err-advance-clause-input g c = c.in-Err-advance.ensures.input ∙ c.loop-left.invariant.input

pub returns-in-Err-advance-clause-notes : goal.returns-in-Err-advance-clause-notes
returns-in-Err-advance-clause-notes g c = c.in-Err-advance.ensures.notes ∙ c.loop-left.invariant.notes

pub returns-clause-told : goal.returns-clause-told
returns-clause-told g c =
    on_budget c.loop-left.invariant.went (omega (arith, c.loop-left-test.false)) c.loop-left.invariant.holds c.end_of_steps.result
    c.end_of_steps.ensures.between c.end_of_steps.ensures.in_turn
