-- What a program of `run` may touch, and where its stack pointer may not go. (The ranges are MIT 6.828's of
-- inc/memlayout.h: symbol tables, programs with their data, and pages that a program maps, up to the top of its
-- stack. Between them lie the pages that the library keeps for itself.)
use Rattle.std.specs.Prelude.{ℕ, ◌+◌, ◌%◌, ◌==◌, ◌&&◌, ◌||◌, nat_lt, nat_le, Bool}
use Rattle.jos_base.specs.declared.numbers.TheConstants.{PGSIZE, USTABDATA, UTEMP, UTEXT, FDTABLE, USTACKTOP, UTOP}
use Rattle.lib_os.specs.declared.numbers.TheConstants.{FDTABLE_END, RESIDENT}

-- n bytes from an address on lie between two addresses
abbrev pub lies_within : ℕ → ℕ → ℕ → ℕ → Bool
lies_within va n from end = nat_le from va && nat_le (va + n) end

-- n bytes from an address on lie in one of the three ranges
unfoldable pub in_fence : ℕ → ℕ → Bool
in_fence va n =
    lies_within va n USTABDATA UTEMP || lies_within va n UTEXT FDTABLE || lies_within va n FDTABLE_END USTACKTOP

-- a byte that a program may touch at all
abbrev pub is_inside : ℕ → Bool
is_inside va = in_fence va 1

-- A buffer that a service is given: one of no bytes may lie anywhere.
abbrev pub is_buffer : ℕ → ℕ → Bool
is_buffer va n = (n == 0) || in_fence va n

-- the address of a page that a program may have
abbrev pub is_page_inside : ℕ → Bool
is_page_inside va = (va % PGSIZE == 0) && in_fence va PGSIZE

-- where a stack pointer belongs to the library's own parts
abbrev pub is_resident : ℕ → Bool
is_resident esp = nat_le RESIDENT esp && nat_lt esp UTOP
