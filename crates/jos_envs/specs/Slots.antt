-- What an environment is in the table of environments.
use Rattle.jos_base.specs.Environments.{Slot}
use Rattle.jos_ipc.specs.Messages.{rendezvous_of}
use Rattle.jos_envs.specs.declared.environment.Environment.{Environment}

abbrev pub slot_of : Environment → Slot
slot_of environment = record {
  id = environment.id.0;
  parent = environment.parent.0;
  env_type = environment.env_type;
  status = environment.status;
  runs = environment.runs;
  registers = environment.registers;
  extra = environment.extra.0;
  directory = environment.directory.0;
  upcall = environment.upcall;
  rendezvous = rendezvous_of environment.rendezvous;
}
