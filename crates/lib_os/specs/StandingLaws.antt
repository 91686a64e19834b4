-- What standing for means: there are states that do, and an environment of them may have a turn; and places can be told.
use Rattle.std.specs.Prelude.{◌≡◌, ◌≢◌, ◌<◌, ℕ, ◌*◌, true, false, List, Option, Some, None, slice_index}
use Rattle.jos_base.specs.declared.registers.Regs.{Regs}
use Rattle.jos_base.specs.Reach.{Entry}
use Rattle.jos_base.specs.Words.{page_number}
use Rattle.lib_os.specs.declared.numbers.TheConstants.{PAGE_WORDS, PFTEMP}
use Rattle.lib_os.specs.declared.place.HandlerStep.{HandlerStep}
use Rattle.lib_os.specs.declared.place.HandlerStep.TheVariants as handler
use Rattle.lib_os.specs.declared.place.Place.TheVariants as place
use Rattle.lib_os.specs.declared.place.Step.{Step}
use Rattle.lib_os.specs.declared.place.Step.TheVariants as step
use Rattle.lib_os.specs.declared.service.Service.TheVariants as service
use Rattle.lib_os.specs.Places.{place_of, place_in_words, words_at, is_handlers, handler_registers}
use Rattle.lib_os.specs.Services.{service_of}
use Rattle.jos_base.specs.KernelState.{KernelState, slot_at}
use Rattle.lib_os.specs.AbstractState.{AbstractState, Page, own, AbstractSlot, unborn, born, can_run}
use Rattle.lib_os.specs.LibrarySteps.{Stands}
use Rattle.lib_os.specs.Rows.{rows_of, is_cow}

-- Some state of the kernel, with an environment that has a page, stands for an abstract one in which that may run.
abbrev pub SomeStateStands : Type 0
SomeStateStands = (s : KernelState) × (a : AbstractState) × Stands s a × (can_run a 1 ≡ true)

-- the page of a slot's environment
abbrev pub page_at : AbstractSlot → ℕ → Option Page
page_at (born b) p = b.memory p
page_at _ p = None

-- The environments in slots 1 and 2 have one frame between them, which is copied when it is written. Each sees a page of its own
-- there, which it may write. The second has done so, and its handler of page faults has copied some words, and not yet all. The first
-- is in the middle of fork, and its child in slot 3, which is not born, has the page already.
pub record IsHalfCopied (s : KernelState) (a : AbstractState) : Type 0 where
  pub va : ℕ
  pub index : ℕ
  pub entry : Entry
  pub copy : Entry
  pub copied : is_cow entry.perm ≡ true
  pub first_has : rows_of s.spaces (slot_at s 1).directory (page_number va) ≡ Some entry
  pub second_has : rows_of s.spaces (slot_at s 2).directory (page_number va) ≡ Some entry
  pub first_sees : page_at (a.slots 1) (page_number va) ≡ Some (own (s.spaces.pages entry.frame) true)
  pub second_sees : page_at (a.slots 2) (page_number va) ≡ Some (own (s.spaces.pages entry.frame) true)
  pub stands_at : place_of (slot_at s 2) ≡ place.InHandler (handler.Loading va index)
  pub begun : 0 < index
  pub second_copies : rows_of s.spaces (slot_at s 2).directory (page_number PFTEMP) ≡ Some copy
  pub unfinished : slice_index (s.spaces.pages copy.frame) (4 * index) ≢ slice_index (s.spaces.pages entry.frame) (4 * index)
  pub id : ℕ
  pub parent : ℕ
  pub region : ℕ
  pub forks : place_of (slot_at s 1) ≡ place.InService service.Fork (step.ForkRegion id region)
  pub child : a.slots 3 ≡ unborn id parent
  pub child_has : rows_of s.spaces (slot_at s 3).directory (page_number va) ≡ Some entry

-- Such a state stands for an abstract one too, in which both may run.
abbrev pub SomeCopyStands : Type 0
SomeCopyStands =
    (s : KernelState) × (a : AbstractState) × Stands s a × IsHalfCopied s a × (can_run a 1 ≡ true) × (can_run a 2 ≡ true)

-- The words that a service keeps at a step tell its number and that step, where the handler of page faults does not run.
abbrev pub WordsTellThePlace : Type 0
WordsTellThePlace = (regs : Regs) (number : ℕ) (at : Step) → is_handlers regs.esp ≡ false →
    place_in_words regs (words_at number at) ≡ place.InService (service_of (record regs { eax = number })) at

-- a step of the handler that there is: a page has so many words
abbrev pub IsHandlerStep : HandlerStep → Type 0
IsHandlerStep (handler.Loading va index) = index < PAGE_WORDS
IsHandlerStep (handler.Storing va index word) = index < PAGE_WORDS
IsHandlerStep _ = Unit {0}

-- The registers with which the handler of page faults stands at a step tell that step.
abbrev pub RegistersTellThePlace : Type 0
RegistersTellThePlace = (regs : Regs) (words : List ℕ) (at : HandlerStep) → is_handlers regs.esp ≡ true → IsHandlerStep at →
    place_in_words (handler_registers regs at) words ≡ place.InHandler at
