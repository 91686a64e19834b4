use Rattle.std.proofs.Common.{[], ap, ◌∙◌}
use Rattle.jos_base.specs.Environments.{is_live}
use Rattle.jos_base.specs.KernelState.{KernelState, slot_at}
use Rattle.jos_sys.specs.System.{state_of}
use Rattle.jos_run.proofs.StackLoaded.{server-made, server-none}
use Rattle.jos_run.proofs.boot.make_server.Goals as goal

pub returns-then-not-load_records-clause-full : goal.returns-then-not-load_records-clause-full
returns-then-not-load_records-clause-full c = λ full input.
    server-none (state_of c.args.system.now input) (state_of c.make_environment.new.self input) (state_of c.load_records.new.system input)
    c.in-Ok.slot (c.in-Ok.ensures.ok input) (c.if-not-load_records.ensures.loads input)

pub set_env_type-requires : goal.set_env_type-requires
set_env_type-requires c =
    ap (λ (s : KernelState). is_live (slot_at s c.in-Ok.slot)) (c.if-not-load_records.ensures.loads []).1 ∙ c.in-Ok.ensures.is_live

pub set_status-requires-clause-live : goal.set_status-requires-clause-live
set_status-requires-clause-live c = c.set_env_type.ensures.live c.in-Ok.slot
    (ap (λ (s : KernelState). is_live (slot_at s c.in-Ok.slot)) (c.if-not-load_records.ensures.loads []).1 ∙ c.in-Ok.ensures.is_live)

pub returns-clause-made : goal.returns-clause-made
returns-clause-made c = λ done input.
    server-made (state_of c.args.system.now input) (state_of c.make_environment.new.self input) (state_of c.load_records.new.system input)
    c.in-Ok.slot (c.in-Ok.ensures.ok input) (state_of c.set_env_type.new.self input) (state_of c.set_status.new.self input)
    (c.if-not-load_records.ensures.loads input) (c.set_env_type.ensures.state input) (c.set_status.ensures.state input)
