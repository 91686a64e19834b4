-- Fork: one step takes a slot for the child, and a later one makes it a copy of its parent, all at once.
-- (MIT 6.828, lab 4 and lib/fork.c, as what comes of it.)
use Rattle.std.specs.Prelude.{ℕ, false, List, [], ◌∷◌, None}
use Rattle.jos_base.specs.declared.registers.Regs.{Regs}
use Rattle.jos_base.specs.declared.numbers.TheConstants.{E_NO_FREE_ENV}
use Rattle.jos_base.specs.Environments.{next_id}
use Rattle.lib_os.specs.declared.service.Service.TheVariants as service
use Rattle.lib_os.specs.AbstractState.{AbstractState, Born, unborn, guest, at_guest, bearing, slot_id, with_born, with_slot}
use Rattle.lib_os.specs.AbstractMemory.{has_page_in}
use Rattle.lib_os.specs.Answers.{answered, refused, at_stage}

-- The first free slot is the child's, with its next id.
abbrev pub begun_in : AbstractState → ℕ → Born → Regs → List ℕ → AbstractState
begun_in a n b regs [] = refused a n b regs E_NO_FREE_ENV
begun_in a n b regs (child ∷ rest) =
    at_stage (record (with_slot a child (unborn (next_id (slot_id (a.slots child)) child) b.id)) { free_slots = rest })
    n b service.Fork (bearing child)

abbrev pub fork : AbstractState → ℕ → Born → Regs → AbstractState
fork a n b regs = begun_in a n b regs a.free_slots

-- The child as it is born: its pages are those of the parent, of which the parent's own are copied and the shared
-- ones keep their names; its descriptors name the same objects; its registers are the parent's, but for EAX, which is
-- 0.
abbrev pub child_of : Born → Regs → ℕ → Born
child_of b regs id = record b {
  id = id;
  parent = b.id;
  program = guest (record regs { eax = 0 });
  regions = has_page_in b.memory;
  phase = at_guest;
  spawning = None;
  blocked = false;
}

-- the last step
abbrev pub bear : AbstractState → ℕ → Born → Regs → ℕ → AbstractState
bear a n b regs child =
    let id = slot_id (a.slots child) in answered (with_born a child (child_of b regs id)) n b regs id
