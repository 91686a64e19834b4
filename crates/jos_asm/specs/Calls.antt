-- What a call of the builder has done.
use Rattle.std.specs.Prelude.{◌≡◌, ℕ, ◌≤◌, ◌<◌, ◌%◌, ◌∷◌, [], ◌++◌, List, length, All, Option, Some, Result, Ok}
use Rattle.std.specs.Prelude.{Err}
use Rattle.jos_asm.specs.declared.limits.TheConstants.{BLOCK, NAME_MAX}
use Rattle.jos_asm.specs.declared.item.Item.{Item}
use Rattle.jos_asm.specs.declared.fault.AsmFault.{AsmFault}
use Rattle.jos_asm.specs.declared.fault.AsmFault.TheVariants.{TooLong, Twice, Unknown, Far, NoMemory}
use Rattle.jos_asm.specs.Program.{Program}

-- ASCII bytes, one at least
pub record IsName (name : List ℕ) : Type 0 where
  pub some : 1 ≤ length name
  pub short : length name ≤ NAME_MAX
  pub ascii : All (λ byte. byte < 128) name

-- what a call that adds an item has done: where there was no memory, nothing
abbrev pub Adds : {E : Type 0} → Program → Item → Result (Unit {0}) E → Program → Type 0
Adds old i (Ok _) new = new ≡ record old { items = old.items ++ i ∷ [] }
Adds old i (Err _) new = new ≡ old

-- each block of items is full, so that the next item wants memory
abbrev pub IsFull : Program → Type 0
IsFull p = length p.items % BLOCK ≡ 0

-- the fault is this one, unless there was no memory
abbrev pub IsFault : AsmFault → Option AsmFault → Type 0
IsFault NoMemory first = Unit {0}
IsFault TooLong first = first ≡ Some TooLong
IsFault (Twice name) first = first ≡ Some (Twice name)
IsFault (Unknown name) first = first ≡ Some (Unknown name)
IsFault (Far name) first = first ≡ Some (Far name)
