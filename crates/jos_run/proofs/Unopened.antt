-- The file server's pages at the start.
use Rattle.std.proofs.Common.{◌≡◌, ◌≢◌, ◌+◌, ℕ, None, Some}
use Rattle.jos_base.specs.declared.numbers.TheConstants.{PTE_P, PTE_U, PTE_W}
use Rattle.jos_base.specs.KernelState.{KernelState, slot_at}
use Rattle.jos_base.specs.Reach.{Entry}
use Rattle.jos_base.specs.SpacesState.{zero_page}
use Rattle.lib_os.specs.declared.numbers.TheConstants.{OPEN_RECORDS}
use Rattle.lib_os.specs.LibraryPages.{region_index}
use Rattle.fs_seen.specs.ServerMemory.{records_page}

-- Of pages it has that of the records of open files alone, which holds zeros.
pub record HasRecordsAlone (s : KernelState) : Type 0 where
  pub entry : Entry
  pub stands : s.spaces.entries (slot_at s 0).directory records_page ≡ Some entry
  pub bits : entry.perm ≡ PTE_P + PTE_U + PTE_W
  pub zeros : s.spaces.pages entry.frame ≡ zero_page
  pub alone : (p : ℕ) → p ≢ records_page → s.spaces.entries (slot_at s 0).directory p ≡ None
  pub tables : (r : ℕ) → r ≢ region_index OPEN_RECORDS → s.spaces.regions (slot_at s 0).directory r ≡ None
