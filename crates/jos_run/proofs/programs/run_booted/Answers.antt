use Rattle.std.proofs.Common.{◌≡◌, ◌∙◌, ◌≤◌, [], length, Option, refl, sym, ap, subst}
use Rattle.jos_host.specs.Frames.{around, from_to}
use Rattle.jos_base.specs.KernelState.{KernelState}
use Rattle.jos_base.specs.declared.numbers.TheConstants.{TURN_MAX}
use Rattle.jos_kernel.specs.Reports.{Reported}
use Rattle.jos_sys.specs.System.{state_of}
use Rattle.lib_os.specs.AbstractState.{AbstractState}
use Rattle.lib_os.specs.Disk.{Disk, DiskFile, HasBlocks}
use Rattle.jos_run.specs.Begun.{IsNew}
use Rattle.jos_run.specs.DiskTouches.{TouchesDiskOnly}
use Rattle.jos_run.specs.Running as running
use Rattle.jos_run.specs.Running.{Runs}
use Rattle.jos_run.specs.declared.programs.RunEnd.TheVariants.{HostFault}
use Rattle.jos_run.specs.RunEnds.{RunsFrom}
use Rattle.jos_run.specs.Closing.{IsClosedSo}
use Rattle.jos_run.specs.Served.{Parts, kernel_state}
use Rattle.jos_run.specs.ServerStands.{StandsWhole}
use Rattle.jos_run.specs.Worlds.{beside, told_disk}
use Rattle.jos_run.proofs.DiskKept.{only_whole, touched_further}
use Rattle.jos_run.proofs.RunEnds.{turns_within}
use Rattle.jos_run.proofs.ProgramsRun.{ended_told, failed_told}
use Rattle.jos_run.proofs.programs.run_booted.Given as given
use Rattle.jos_run.proofs.programs.run_booted.Goals as goal
use Rattle.jos_run.proofs.programs.run_booted.Goals.{After-begin-run}

-- ---- the run that begins

module _ (g : given.Over) (c : goal.After-begin-run g) where
  disk_is : c.begin-run.result.served.disk ≡ c.args.disk
  disk_is = c.begin-run.ensures.disk ∙ (λ i. (c.with_disk-served.ensures i).disk)

  state_is : kernel_state c.with_disk-served.result ≡ state_of c.args.system c.args.setup.input.items
  state_is = (λ i. kernel_state (c.with_disk-served.ensures i)) ∙ c.new-2.ensures.state ∙ ap (state_of c.args.system) c.new.ensures

  run_is : running.state_of c.begin-run.result ≡ state_of c.args.system c.args.setup.input.items
  run_is = c.begin-run.ensures.state ∙ state_is

  is_new : IsNew (kernel_state c.with_disk-served.result) c.args.setup.frames
  is_new = subst (λ (k : KernelState). IsNew k c.args.setup.frames) (sym state_is) c.requires.new

  whole : HasBlocks (g.H.Host.files c.args.host.now) c.begin-run.result.served.disk
  whole = subst (λ (d : DiskFile). HasBlocks (g.H.Host.files c.args.host.now) d) (sym disk_is) c.requires.whole

  begun : (first : AbstractState) (disk : Option Disk) → StandsWhole (beside (running.state_of c.begin-run.result) disk) first →
      Runs first c.args.setup.frames disk c.begin-run.result []
  begun first disk stands =
      c.begin-run.ensures.runs first c.args.setup.frames disk
      (subst (λ (k : KernelState). StandsWhole (beside k disk) first) c.begin-run.ensures.state stands) is_new

pub go-requires-clause-whole : goal.go-requires-clause-whole
go-requires-clause-whole g c = whole g (goal.at.go-requires-clause-whole g c).After-begin-run

-- ---- it has run

pub close_run-requires-clause-most : goal.close_run-requires-clause-most
close_run-requires-clause-most g c =
    subst (λ (report : Reported). length report.turns ≤ TURN_MAX) (sym c.finish-report.ensures.report)
    (turns_within c.go.new.self c.in-Ok.ensures.holds.has_room)

pub close_run-requires-clause-whole : goal.close_run-requires-clause-whole
close_run-requires-clause-whole g c =
    let at = (goal.at.close_run-requires-clause-whole g c).After-begin-run in
    let still = only_whole c.begin-run.result.served.disk (from_to (g.H.Host.files c.args.host.now) (g.H.Host.files c.go.new.host))
    (from_to (g.H.Host.asked c.args.host.now) (g.H.Host.asked c.go.new.host)) c.in-Ok.ensures.disk_only (whole g at) in
    subst (λ (d : DiskFile). HasBlocks (g.H.Host.files c.go.new.host) d)
    (sym (ap (λ (served : Parts). served.disk) c.finish-report.ensures.served ∙ c.in-Ok.ensures.disk)) still

pub returns-in-Ok-clause-runs : goal.returns-in-Ok-clause-runs
returns-in-Ok-clause-runs g c =
    let at = (goal.at.returns-in-Ok-clause-runs g c).After-begin-run in
    let before = g.H.Host.files c.args.host.now in
    let mid = g.H.Host.files c.go.new.host in
    let after = g.H.Host.files c.close_run.new.host in
    let console = around g.H.Host.console c.args.host.now c.close_run.new.host in
    let s = state_of c.args.system c.args.setup.input.items in
    let report = c.finish-report.result.0 in
    let traps = c.finish-report.result.1.items in
    let closed = subst (λ (x : Parts). IsClosedSo report traps c.close_run.result x (from_to (told_disk mid x.disk) (told_disk after x.disk))
    (around g.H.Host.console c.go.new.host c.close_run.new.host)) c.finish-report.ensures.served c.close_run.ensures.closed in
    let told = ended_told (told_disk after c.go.new.self.served.disk) (g.H.Host.console c.close_run.new.host) c.in-Ok.end report c.args.setup s traps c.close_run.result c.in-Ok.ensures.told refl
    c.begin-run.ensures.steps (c.begin-run.ensures.trace ∙ c.requires.trace) c.begin-run.ensures.told c.in-Ok.ensures.holds c.begin-run.ensures.schedule
    c.finish-report.ensures.report (λ i. (c.finish-report.ensures.trace i).items) (run_is g at)
    (λ first stands. begun g at first (told_disk before c.begin-run.result.served.disk) stands) closed in
    subst (λ (d : DiskFile). RunsFrom s c.args.setup c.close_run.result (from_to (told_disk before c.args.disk) (told_disk after d)) console)
    (c.in-Ok.ensures.disk ∙ disk_is g at)
    (subst (λ (d : DiskFile). RunsFrom s c.args.setup c.close_run.result (from_to (told_disk before d) (told_disk after c.go.new.self.served.disk)) console)
    (disk_is g at) told)

pub returns-in-Ok-clause-disk_only : goal.returns-in-Ok-clause-disk_only
returns-in-Ok-clause-disk_only g c =
    subst (λ (d : DiskFile). TouchesDiskOnly d (around g.H.Host.files c.args.host.now c.close_run.new.host)
    (around g.H.Host.asked c.args.host.now c.close_run.new.host)) (disk_is g (goal.at.returns-in-Ok-clause-disk_only g c).After-begin-run)
    (touched_further (ap (λ (served : Parts). served.disk) c.finish-report.ensures.served ∙ c.in-Ok.ensures.disk) c.in-Ok.ensures.disk_only
    c.close_run.ensures.disk_only)

-- ---- or the host failed

pub returns-in-Err-clause-runs : goal.returns-in-Err-clause-runs
returns-in-Err-clause-runs g c =
    let at = (goal.at.returns-in-Err-clause-runs g c).After-begin-run in
    let before = g.H.Host.files c.args.host.now in
    let after = g.H.Host.files c.go.new.host in
    let console = around g.H.Host.console c.args.host.now c.go.new.host in
    let s = state_of c.args.system c.args.setup.input.items in
    let told = failed_told c.args.setup.budget c.in-Err.field-0 c.cut_off.result c.args.setup.schedule s c.in-Err.ensures.told c.in-Err.ensures.room
    c.begin-run.ensures.schedule c.cut_off.ensures (run_is g at) c.args.setup.frames
    (λ first stands. begun g at first (told_disk before c.begin-run.result.served.disk) stands) in
    subst (λ (d : DiskFile). RunsFrom s c.args.setup (HostFault c.cut_off.result) (from_to (told_disk before c.args.disk) (told_disk after d)) console)
    (c.in-Err.ensures.disk ∙ disk_is g at)
    (subst (λ (d : DiskFile). RunsFrom s c.args.setup (HostFault c.cut_off.result) (from_to (told_disk before d)
    (told_disk after c.go.new.self.served.disk)) console) (disk_is g at) told)

pub returns-in-Err-clause-disk_only : goal.returns-in-Err-clause-disk_only
returns-in-Err-clause-disk_only g c =
    subst (λ (d : DiskFile). TouchesDiskOnly d (around g.H.Host.files c.args.host.now c.go.new.host) (around g.H.Host.asked c.args.host.now c.go.new.host))
    (disk_is g (goal.at.returns-in-Err-clause-disk_only g c).After-begin-run) c.in-Err.ensures.disk_only
