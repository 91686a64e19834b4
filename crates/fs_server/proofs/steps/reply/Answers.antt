use Rattle.std.proofs.Common.{◌≡◌, ℕ, true, subst, sym, refl}
use Rattle.jos_host.specs.Frames.{from_to}
use Rattle.jos_base.specs.Environments.{is_live}
use Rattle.jos_base.specs.KernelState.{slot_at}
use Rattle.lib_os.specs.UserCalls.{output}
use Rattle.fs_requests.specs.declared.plan.ServerCall.{ServerCall}
use Rattle.fs_requests.specs.declared.plan.ServerCall.TheVariants as call
use Rattle.fs_requests.specs.ServerPlans.{IsOwnCall}
use Rattle.fs_server.proofs.CallsLive.{live_behind}
use Rattle.fs_server.proofs.steps.reply.Goals as goal

pub returns-in-Ok-clause-lives : goal.returns-in-Ok-clause-lives
returns-in-Ok-clause-lives g c =
    let mid = g.O.UserOs.state c.load.new.self in
    let printed = output g.H.Host.console g.O.UserOs.written (from_to c.args.host.now c.load.new.host) (from_to c.args.os.now c.load.new.self) in
    subst (λ (m : ℕ). is_live (slot_at mid m) ≡ true) (sym c.load.ensures.slot)
    (live_behind (call.Load c.in-Load.va) (g.O.UserOs.state c.args.os.now) (g.O.UserOs.slot c.args.os.now) c.in-Ok.word mid printed
    (subst (λ (x : ServerCall). IsOwnCall x) c.in-Load.is c.requires.own) c.requires.live c.in-Ok.ensures.step)

pub returns-in-Ok-store-clause-lives : goal.returns-in-Ok-store-clause-lives
returns-in-Ok-store-clause-lives g c =
    let mid = g.O.UserOs.state c.store.new.self in
    let printed = output g.H.Host.console g.O.UserOs.written (from_to c.args.host.now c.store.new.host) (from_to c.args.os.now c.store.new.self) in
    subst (λ (m : ℕ). is_live (slot_at mid m) ≡ true) (sym c.store.ensures.slot)
    (live_behind (call.Store c.in-Store.va c.in-Store.word) (g.O.UserOs.state c.args.os.now) (g.O.UserOs.slot c.args.os.now) 0 mid printed
    (subst (λ (x : ServerCall). IsOwnCall x) c.in-Store.is c.requires.own) c.requires.live (refl, c.in-Ok-store.ensures.step))

pub returns-in-Ok-system-clause-lives : goal.returns-in-Ok-system-clause-lives
returns-in-Ok-system-clause-lives g c =
    let mid = g.O.UserOs.state c.system.new.self in
    let printed = output g.H.Host.console g.O.UserOs.written (from_to c.args.host.now c.system.new.host) (from_to c.args.os.now c.system.new.self) in
    subst (λ (m : ℕ). is_live (slot_at mid m) ≡ true) (sym c.system.ensures.slot)
    (live_behind (call.System c.in-System.number c.in-System.args) (g.O.UserOs.state c.args.os.now) (g.O.UserOs.slot c.args.os.now) c.answer_of.result mid printed
    (subst (λ (x : ServerCall). IsOwnCall x) c.in-System.is c.requires.own) c.requires.live (c.in-Ok-system.called, c.answer_of.ensures, c.in-Ok-system.ensures.step))
