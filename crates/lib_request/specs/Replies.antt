-- The reply of the file server, as its client reads it.
use Rattle.std.specs.Prelude.{ℕ, ◌+◌, ◌*◌, ◌%◌}
use Rattle.jos_base.specs.declared.numbers.TheConstants.{ENV_IPC_VALUE, ENV_SIZE, NENV, UENVS}

-- the address of the word that came, in the record of an environment's slot
abbrev pub reply_place : ℕ → ℕ
reply_place id = UENVS + ENV_SIZE * (id % NENV) + 4 * ENV_IPC_VALUE
