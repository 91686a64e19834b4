use Rattle.std.proofs.Common.{◌≡◌, Ok, Err}
use Rattle.jos_base.specs.SystemCalls.{user_bytes, with_bytes_reached}
use Rattle.jos_sys.specs.System.{state_of, left_of}
use Rattle.jos_kernel.proofs.Machines.{ok_at, done_at, err_at}
use Rattle.jos_kernel.proofs.machine.Machine.read_user.Goals as goal

pub returns-clause-ok : goal.returns-clause-ok
returns-clause-ok g c =
    rw (← c.self.view_is)
    (ok_at c.read_user.result (λ input bytes. user_bytes (state_of c.self.inside.system input) c.args.slot c.args.va c.args.len ≡ Ok bytes.items)
    (left_of c.self.inside.input) c.read_user.ensures.ok)

pub returns-clause-reached : goal.returns-clause-reached
returns-clause-reached g c =
    rw (← c.self.view_is)
    (done_at c.read_user.result
    (λ input. state_of c.read_user.new.self input ≡ with_bytes_reached (state_of c.self.inside.system input) c.args.slot c.args.va c.args.len)
    (left_of c.self.inside.input) c.read_user.ensures.reached)

pub returns-clause-err : goal.returns-clause-err
returns-clause-err g c =
    rw (← c.self.view_is)
    (err_at c.read_user.result (λ input fault. user_bytes (state_of c.self.inside.system input) c.args.slot c.args.va c.args.len ≡ Err fault)
    (left_of c.self.inside.input) c.read_user.ensures.err)
