use Rattle.std.proofs.Common.{◌≡◌, ◌∙◌, ℕ, refl, subst, sym}
use Rattle.std.specs.Prelude.{OnOk}
use Rattle.jos_host.specs.Frames.{around, from_to}
use Rattle.jos_base.specs.KernelState.{KernelState, slot_at}
use Rattle.lib_os.specs.Disk.{DiskFile}
use Rattle.lib_os.specs.InOrder.{IsInOrder}
use Rattle.lib_os.specs.MadeCalls.{MakesServersCall, TouchesDisk}
use Rattle.lib_os.specs.UserCalls.{Output}
use Rattle.fs_seen.specs.ServerMemory.{HasWords}
use Rattle.fs_server.specs.ServerSteps.{Serves}
use Rattle.jos_run.specs.Closing.{ActsSooner}
use Rattle.jos_run.specs.Served.{kernel_state}
use Rattle.jos_run.specs.ServerStands.{IsWholeStep}
use Rattle.jos_run.specs.Worlds.{told_disk, world_of}
use Rattle.jos_run.proofs.ClosingSteps.{acts_awake, acts_server, acts_serving}
use Rattle.jos_run.proofs.LibraryMade.{server_rest}
use Rattle.jos_run.proofs.Printed.{printed}
use Rattle.jos_run.proofs.ServerNow.{awake_so}
use Rattle.jos_run.proofs.ServerSooner.{server_sooner}
use Rattle.jos_run.proofs.ServerSteps.{server_keeps, server_leaves}
use Rattle.jos_run.proofs.served.Served.make_server_step.Given as given
use Rattle.jos_run.proofs.served.Served.make_server_step.Goals as goal

module _ (g : given.Over) (c : goal.After-server_step g) where
  abbrev before : KernelState
  before = kernel_state c.args.self.now

  abbrev disk : DiskFile
  disk = c.args.self.now.disk

  abbrev after : KernelState
  after = kernel_state c.server_step.new.os

  abbrev output_made : Output
  output_made = printed (around g.H.Host.console c.args.host.now c.server_step.new.host) c.args.self.now.written c.server_step.new.os.written

  -- the slot that is served is the first
  words : HasWords before 0
  words =
      subst (λ (n : ℕ). HasWords before n) c.serve.ensures.slot
      (subst (λ (s : KernelState). HasWords s c.serve.new.self.slot) c.serve.ensures.state c.keep_words.ensures)

  step : Serves c.server_step.result disk 0 (from_to before after) (around g.H.Host.files c.args.host.now c.server_step.new.host) output_made
  step =
      subst (λ (w : ℕ). Serves c.server_step.result disk 0 (from_to before after) (around g.H.Host.files c.args.host.now c.server_step.new.host)
      (printed (around g.H.Host.console c.args.host.now c.server_step.new.host) w c.server_step.new.os.written)) c.serve.ensures.written
      (subst (λ (d : DiskFile). Serves c.server_step.result d 0 (from_to before after) (around g.H.Host.files c.args.host.now c.server_step.new.host)
      (printed (around g.H.Host.console c.args.host.now c.server_step.new.host) c.serve.new.self.written c.server_step.new.os.written)) c.serve.ensures.disk
      (subst (λ (n : ℕ). Serves c.server_step.result c.serve.new.self.disk n (from_to before after)
      (around g.H.Host.files c.args.host.now c.server_step.new.host)
      (printed (around g.H.Host.console c.args.host.now c.server_step.new.host) c.serve.new.self.written c.server_step.new.os.written)) c.serve.ensures.slot
      (subst (λ (s : KernelState). Serves c.server_step.result c.serve.new.self.disk c.serve.new.self.slot (from_to s after)
      (around g.H.Host.files c.args.host.now c.server_step.new.host)
      (printed (around g.H.Host.console c.args.host.now c.server_step.new.host) c.serve.new.self.written c.server_step.new.os.written)) c.serve.ensures.state
      c.server_step.ensures.step)))

  made : OnOk c.server_step.result (MakesServersCall (from_to before after) 0 disk (around g.H.Host.files c.args.host.now c.server_step.new.host) output_made)
  made =
      subst (λ (w : ℕ). OnOk c.server_step.result (MakesServersCall (from_to before after) 0 disk
      (around g.H.Host.files c.args.host.now c.server_step.new.host)
      (printed (around g.H.Host.console c.args.host.now c.server_step.new.host) w c.server_step.new.os.written))) c.serve.ensures.written
      (subst (λ (d : DiskFile). OnOk c.server_step.result (MakesServersCall (from_to before after) 0 d
      (around g.H.Host.files c.args.host.now c.server_step.new.host)
      (printed (around g.H.Host.console c.args.host.now c.server_step.new.host) c.serve.new.self.written c.server_step.new.os.written)))
      c.serve.ensures.disk
      (subst (λ (n : ℕ). OnOk c.server_step.result (MakesServersCall (from_to before after) n c.serve.new.self.disk
      (around g.H.Host.files c.args.host.now c.server_step.new.host)
      (printed (around g.H.Host.console c.args.host.now c.server_step.new.host) c.serve.new.self.written c.server_step.new.os.written)))
      c.serve.ensures.slot
      (subst (λ (s : KernelState). OnOk c.server_step.result (MakesServersCall (from_to s after) c.serve.new.self.slot c.serve.new.self.disk
      (around g.H.Host.files c.args.host.now c.server_step.new.host)
      (printed (around g.H.Host.console c.args.host.now c.server_step.new.host) c.serve.new.self.written c.server_step.new.os.written)))
      c.serve.ensures.state c.server_step.ensures.made)))

  in_order : IsInOrder before → IsInOrder after
  in_order h = c.server_step.ensures.in_order (subst IsInOrder (sym c.serve.ensures.state) h)

  disk_still : c.server_step.new.os.disk ≡ disk
  disk_still = c.server_step.ensures.disk ∙ c.serve.ensures.disk

pub returns-clause-step : goal.returns-clause-step
returns-clause-step g c =
    let files = around g.H.Host.files c.args.host.now c.server_step.new.host in
    subst (λ (d : DiskFile). IsWholeStep c.server_step.result 0 (world_of (before g c) (g.H.Host.files c.args.host.now) (disk g c))
    (world_of (after g c) (g.H.Host.files c.server_step.new.host) d) (output_made g c)) (sym (disk_still g c))
    (server_keeps c.server_step.result (disk g c) 0 (before g c) (after g c) files (output_made g c) (words g c) (step g c) (made g c)
    (acts_server (before g c) c.requires.acts) (acts_awake (before g c) c.requires.acts) (in_order g c) c.server_step.ensures.failed)

pub returns-clause-rest : goal.returns-clause-rest
returns-clause-rest g c =
    let files = around g.H.Host.files c.args.host.now c.server_step.new.host in
    server_rest (told_disk (g.H.Host.files c.args.host.now) (disk g c)) (told_disk (g.H.Host.files c.server_step.new.host) (disk g c)) (before g c) (after g c)
    0 (output_made g c) (acts_server (before g c) c.requires.acts) c.server_step.result (disk g c) files (made g c)

pub returns-clause-soon : goal.returns-clause-soon
returns-clause-soon g c =
    let files = around g.H.Host.files c.args.host.now c.server_step.new.host in
    subst (λ (d : DiskFile). ActsSooner c.server_step.result (world_of (before g c) (g.H.Host.files c.args.host.now) (disk g c))
    (world_of (after g c) (g.H.Host.files c.server_step.new.host) d)) (sym (disk_still g c))
    (server_sooner (disk g c) (before g c) (after g c) files (output_made g c) c.server_step.result (words g c) (in_order g c)
    (awake_so (slot_at (before g c) 0).status (acts_awake (before g c) c.requires.acts)) (acts_serving (before g c) c.requires.acts) (step g c) (made g c))

pub returns-clause-leaves : goal.returns-clause-leaves
returns-clause-leaves g c =
    let files = around g.H.Host.files c.args.host.now c.server_step.new.host in
    server_leaves c.server_step.result (disk g c) 0 (before g c) (after g c) files (output_made g c) (words g c) (step g c) (made g c) refl

pub returns-clause-disk_only : goal.returns-clause-disk_only
returns-clause-disk_only g c =
    subst (λ (d : DiskFile). TouchesDisk d (around g.H.Host.files c.args.host.now c.server_step.new.host)
    (around g.H.Host.asked c.args.host.now c.server_step.new.host)) c.serve.ensures.disk c.server_step.ensures.disk_only
