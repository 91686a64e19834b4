-- The table of environments: its slots, the ids that they get, and who may change whom.
-- (MIT 6.828, inc/env.h, and env_alloc, env_free and envid2env of kern/env.c.)
use Rattle.std.specs.Prelude.{ℕ, ◌+◌, ◌-◌, ◌%◌, ◌^◌, ◌==◌, ◌&&◌, ◌||◌, nat_lt, not, Bool, true, false, List, [], ◌∷◌}
use Rattle.std.specs.Prelude.{Option, Some, None, replicate, if◌then◌else◌}
use Rattle.jos_base.specs.declared.registers.Regs.{Regs}
use Rattle.jos_base.specs.declared.environment.EnvType.{EnvType}
use Rattle.jos_base.specs.declared.environment.EnvType.TheVariants.{User, FileServer}
use Rattle.jos_base.specs.declared.environment.Status.{Status}
use Rattle.jos_base.specs.declared.environment.Status.TheVariants.{Free, Dying, NotRunnable, Runnable, Running}
use Rattle.jos_base.specs.declared.numbers.TheConstants.{NENV, ENV_GENERATION, FIRST_ENV_ID}
use Rattle.jos_base.specs.declared.numbers.TheConstants.{ENV_TYPE_USER, ENV_TYPE_FS, EXTRA_WORDS}
use Rattle.jos_base.specs.declared.numbers.TheConstants.{ENV_FREE, ENV_DYING, ENV_RUNNABLE, ENV_RUNNING, ENV_NOT_RUNNABLE}
use Rattle.jos_base.specs.Words.{upd}
use Rattle.jos_base.specs.Messages.{Rendezvous, no_rendezvous}
use Rattle.jos_base.specs.SpacesState.{rising}

pub record Slot : Type 0 where
  -- the id of its environment, or the last that it had; 0 where it never had one
  pub id : ℕ
  pub parent : ℕ
  pub env_type : EnvType
  pub status : Status
  -- how many turns it has had, as a word
  pub runs : ℕ
  pub registers : Regs
  -- the words that it keeps for a library outside of the kernel
  pub extra : List ℕ
  -- the frame of its directory
  pub directory : ℕ
  -- where it handles its page faults; 0 where it does not
  pub upcall : ℕ
  pub rendezvous : Rendezvous

pub record Environments : Type 0 where
  -- from the numbers of the table's slots
  pub slots : ℕ → Slot
  -- the next to be given first
  pub free_slots : List ℕ

abbrev pub is_free : Status → Bool
is_free Free = true
is_free _ = false

abbrev pub is_live : Slot → Bool
is_live slot = not (is_free slot.status)

abbrev pub is_runnable : Status → Bool
is_runnable Runnable = true
is_runnable _ = false

abbrev pub is_running : Status → Bool
is_running Running = true
is_running _ = false

abbrev pub zero_registers : Regs
zero_registers = record {
  eax = 0;
  ecx = 0;
  edx = 0;
  ebx = 0;
  esp = 0;
  ebp = 0;
  esi = 0;
  edi = 0;
  eip = 0;
  eflags = 0;
}

-- no library has words in them
abbrev pub no_extra : List ℕ
no_extra = replicate EXTRA_WORDS 0

-- a slot without an environment keeps the last id alone
abbrev pub free_slot : ℕ → Slot
free_slot id = record {
  id = id;
  parent = 0;
  env_type = User;
  status = Free;
  runs = 0;
  registers = zero_registers;
  extra = no_extra;
  directory = 0;
  upcall = 0;
  rendezvous = no_rendezvous;
}

abbrev pub with_slot : Environments → ℕ → Slot → Environments
with_slot e n slot = record e { slots = upd e.slots n slot }

-- ---- ids

-- a slot's old id raised by a generation, without the slot's number
abbrev pub next_generation : ℕ → ℕ
next_generation id = (id + ENV_GENERATION) % 2 ^ 32 - (id + ENV_GENERATION) % NENV

-- is the word positive as a signed number?
abbrev pub is_positive : ℕ → Bool
is_positive word = nat_lt 0 word && nat_lt word (2 ^ 31)

-- the id that comes after an id in its slot: the next generation's, or the first's where that is not positive
unfoldable pub next_id : ℕ → ℕ → ℕ
next_id id n = (if is_positive (next_generation id) then next_generation id else FIRST_ENV_ID) + n

-- a new environment may not run yet; its registers and its directory are set by whoever makes it
abbrev pub new_slot : ℕ → ℕ → Slot
new_slot id parent = record (free_slot id) { parent = parent; status = NotRunnable }

abbrev pub allotted_from : Environments → ℕ → List ℕ → Option (ℕ × Environments)
allotted_from e parent [] = None
allotted_from e parent (n ∷ rest) =
    Some (n, record { slots = upd e.slots n (new_slot (next_id (e.slots n).id n) parent); free_slots = rest })

-- the first free slot gets an environment of this parent; None where no slot is free
unfoldable pub allotted : Environments → ℕ → Option (ℕ × Environments)
allotted e parent = allotted_from e parent e.free_slots

-- the slot's environment is gone; the slot is the next to be given, and keeps this id as its last
abbrev pub slot_freed : Environments → ℕ → ℕ → Environments
slot_freed e n id = record { slots = upd e.slots n (free_slot id); free_slots = n ∷ e.free_slots }

-- an answer stands in EAX
abbrev pub with_answer : Slot → ℕ → Slot
with_answer slot answer = record slot { registers = record slot.registers { eax = answer } }

-- ---- names

-- may the caller change the environment of a slot? It may if that is its own, or that of a child of its own
abbrev pub may_change : Environments → ℕ → ℕ → Bool
may_change e caller n = (n == caller) || ((e.slots n).parent == (e.slots caller).id)

abbrev pub found_at : Environments → ℕ → ℕ → ℕ → Bool → Option ℕ
found_at e id n caller control =
    if not (is_live (e.slots n) && ((e.slots n).id == id)) then None
    else if control && not (may_change e caller n) then None
    else Some n

-- the slot of the live environment that an id names, 0 being the caller's own name; where control is wanted, the
-- caller must be allowed to change it
unfoldable pub found : Environments → ℕ → ℕ → Bool → Option ℕ
found e id caller control = if id == 0 then Some caller else found_at e id (id % NENV) caller control

-- ---- what a user reads of them

abbrev pub status_number : Status → ℕ
status_number Free = ENV_FREE
status_number Dying = ENV_DYING
status_number Runnable = ENV_RUNNABLE
status_number Running = ENV_RUNNING
status_number NotRunnable = ENV_NOT_RUNNABLE

abbrev pub env_type_number : EnvType → ℕ
env_type_number User = ENV_TYPE_USER
env_type_number FileServer = ENV_TYPE_FS

abbrev pub bit_of : Bool → ℕ
bit_of true = 1
bit_of false = 0

-- The words of a slot's record. The last three are empty. (The form is this system's own.)
unfoldable pub record_words : Slot → List ℕ
record_words slot =
    slot.id ∷ slot.parent ∷ env_type_number slot.env_type ∷ status_number slot.status ∷ slot.runs ∷ slot.directory ∷ slot.upcall
    ∷ bit_of slot.rendezvous.receiving ∷ slot.rendezvous.wanted ∷ slot.rendezvous.destination
    ∷ slot.rendezvous.value ∷ slot.rendezvous.sender ∷ slot.rendezvous.perm ∷ 0 ∷ 0 ∷ 0 ∷ []

-- the records of all slots
unfoldable pub records_of : Environments → ℕ → List ℕ
records_of e n = if nat_lt n NENV then record_words (e.slots n) else []

-- ---- the beginning

-- no slot was ever used, and they are given in rising order
unfoldable pub first_environments : Environments
first_environments = record { slots = λ n. free_slot 0; free_slots = rising 0 NENV }
