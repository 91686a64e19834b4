-- Bytes at hand: those of a page that is reached with no bit left to set, so that reaching them changes nothing.
-- (Intel 80386 Programmer's Reference Manual, 1986, section 5.2.4.2: the processor sets the accessed bits of both
-- levels, and the dirty bit of the second on a write.)
use Rattle.std.specs.Prelude.{◌≡◌, ℕ, ◌+◌, ◌/◌, ◌%◌, ◌==◌, true, List, [], drop, slice_set, bit_and, Option, Some}
use Rattle.std.specs.Prelude.{None, if◌then◌else◌}
use Rattle.jos_base.specs.declared.memory.Access.{Access}
use Rattle.jos_base.specs.declared.memory.Access.TheVariants.{Read, Write}
use Rattle.jos_base.specs.declared.numbers.TheConstants.{NPTENTRIES, PTE_P, PTE_W, PTE_U, PTE_A, PTE_D}
use Rattle.jos_base.specs.Words.{page_number, page_offset}
use Rattle.jos_base.specs.Reach.{Entry}
use Rattle.jos_base.specs.SpacesState.{SpacesState, Region}
use Rattle.jos_base.specs.UserMemory.{is_allowed, touched, stored_byte}
use Rattle.jos_space.specs.declared.spaces.PageAtHand.{PageAtHand}

-- the bits that an access asks for and those that it sets
abbrev pub bits_at_hand : Access → ℕ
bits_at_hand Read = PTE_P + PTE_U + PTE_A
bits_at_hand Write = PTE_P + PTE_W + PTE_U + PTE_A + PTE_D

abbrev pub frame_by_entry : ℕ → Option Entry → Option ℕ
frame_by_entry bits None = None
frame_by_entry bits (Some entry) = if bit_and entry.perm bits == bits then Some entry.frame else None

abbrev pub frame_by : ℕ → Option Region → Option Entry → Option ℕ
frame_by bits None entry = None
frame_by bits (Some region) entry = if region.accessed then frame_by_entry bits entry else None

-- the frame of a page where all of these bits stand in its entry, and A in that of its region
unfoldable pub frame_with : SpacesState → ℕ → ℕ → ℕ → Option ℕ
frame_with s space number bits = frame_by bits (s.regions space (number / NPTENTRIES)) (s.entries space number)

abbrev pub rest_of_page : SpacesState → ℕ → Option ℕ → List ℕ
rest_of_page s offset None = []
rest_of_page s offset (Some frame) = drop offset (s.pages frame)

-- the bytes at hand for a read, from an address on to the end of its page
abbrev pub bytes_at_hand : SpacesState → ℕ → ℕ → List ℕ
bytes_at_hand s space va = rest_of_page s (page_offset va) (frame_with s space (page_number va) (bits_at_hand Read))

-- what was found of a page still holds
abbrev pub IsPageAtHand : SpacesState → PageAtHand → Type 0
IsPageAtHand s page = frame_with s page.space.directory.0 page.number (bits_at_hand Read) ≡ Some page.frame.0

-- ---- what it is sound for

-- a byte that may be reached, and that reaching changes nothing
pub record IsStill (s : SpacesState) (space va : ℕ) (access : Access) : Type 0 where
  pub allowed : is_allowed s space va access ≡ true
  pub touched_is : touched s space va access ≡ s

-- a word is written at an address, the lowest byte first
unfoldable pub stored_word : SpacesState → ℕ → ℕ → ℕ → SpacesState
stored_word s space va word =
    stored_byte (stored_byte (stored_byte (stored_byte s space va (word % 256)) space (va + 1) (word / 256 % 256))
    space (va + 2) (word / 65536 % 256)) space (va + 3) (word / 16777216 % 256)

-- a word is laid into a page, the lowest byte first
unfoldable pub word_laid : List ℕ → ℕ → ℕ → List ℕ
word_laid page offset word =
    slice_set (slice_set (slice_set (slice_set page offset (word % 256)) (offset + 1) (word / 256 % 256))
    (offset + 2) (word / 65536 % 256)) (offset + 3) (word / 16777216 % 256)
