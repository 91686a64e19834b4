-- An environment in a service, and its descriptors.
use Rattle.std.specs.Prelude.{◌≡◌, ◌≢◌, ◌<◌, ℕ, true, false, is_some, None}
use Rattle.jos_base.specs.declared.numbers.TheConstants.{FDTABLE}
use Rattle.jos_base.specs.Environments.{Slot}
use Rattle.lib_os.specs.declared.numbers.TheConstants.{DESCRIPTORS}
use Rattle.lib_os.specs.declared.service.Service.{Service}
use Rattle.lib_os.specs.declared.service.Service.TheVariants as service
use Rattle.lib_os.specs.AbstractState.{Born, Stage, entered, guest, in_service}
use Rattle.lib_os.specs.LibraryPages.{View, region_index}
use Rattle.lib_os.specs.Rows.{EntryRow, descriptor_page}

-- it is in a service, at a stage, and its registers are those of the program
pub record IsIn (k : Slot) (b : Born) (s : Service) (stage : Stage) : Type 0 where
  pub program : b.program ≡ guest k.registers
  pub phase : b.phase ≡ in_service s stage
  pub silent : k.rendezvous.receiving ≡ false
  pub awake : b.blocked ≡ false

-- ---- descriptors

-- a descriptor is open
abbrev pub IsOpen : EntryRow → ℕ → Type 0
IsOpen row fd = is_some (row (descriptor_page fd)) ≡ true

-- none below this one is
abbrev pub NoneIsOpenBelow : EntryRow → ℕ → Type 0
NoneIsOpenBelow row n = (fd : ℕ) → fd < n → row (descriptor_page fd) ≡ None

-- each below this one is
abbrev pub EachIsOpenBelow : EntryRow → ℕ → Type 0
EachIsOpenBelow row n = (fd : ℕ) → fd < n → IsOpen row fd

-- this one is the lowest that is not
pub record IsLowestFree (row : EntryRow) (fd : ℕ) : Type 0 where
  pub below : fd < DESCRIPTORS
  pub vacant : row (descriptor_page fd) ≡ None
  pub lower : EachIsOpenBelow row fd

-- the region of the descriptors' pages has a table
abbrev pub HasTable : View → Type 0
HasTable v = v.tables (region_index FDTABLE) ≡ true

-- dup: the old descriptor is open, the new one is another
pub record IsDuplicating (row : EntryRow) (old new : ℕ) : Type 0 where
  pub old_below : old < DESCRIPTORS
  pub new_below : new < DESCRIPTORS
  pub other : old ≢ new
  pub stands : IsOpen row old

-- exit has dropped all descriptors below this one
pub record IsExiting (v : View) (k : Slot) (b : Born) (fd : ℕ) : Type 0 where
  pub is_in : IsIn k b service.Exit entered
  pub below : fd < DESCRIPTORS
  pub lower : NoneIsOpenBelow v.row fd
  pub table : HasTable v

-- dup is about to make the new descriptor name what the old one names
pub record IsDupping (v : View) (k : Slot) (b : Born) (old new : ℕ) : Type 0 where
  pub is_in : IsIn k b (service.Dup old new) entered
  pub duplicating : IsDuplicating v.row old new
  pub table : HasTable v
