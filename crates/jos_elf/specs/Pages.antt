-- The pages of an image: those that a segment touches, which of them may be written, and what bytes they have.
-- (MIT 6.828, load_icode of kern/env.c, and inc/memlayout.h.)
use Rattle.std.specs.Prelude.{ℕ, ◌+◌, ◌-◌, ◌*◌, ◌/◌, ◌&&◌, nat_lt, Bool, List, [], ◌∷◌, take, drop, max, min, if◌then◌else◌}
use Rattle.std.specs.List.{list_any}
use Rattle.jos_base.specs.declared.numbers.TheConstants.{PGSIZE, USTACKTOP}
use Rattle.jos_base.specs.SpacesState.{overlaid, zero_page}
use Rattle.jos_elf.specs.declared.image.Segment.{Segment}

-- does the segment's memory touch the page of this number?
abbrev pub touches : ℕ → Segment → Bool
touches number segment =
    nat_lt segment.va ((number + 1) * PGSIZE) && nat_lt (number * PGSIZE) (segment.va + segment.mem_len)

abbrev pub any_touches : ℕ → List Segment → Bool
any_touches number segments = list_any (touches number) segments

-- a page is writable where a segment that touches it is
abbrev pub any_writes : ℕ → List Segment → Bool
any_writes number segments = list_any (λ segment. touches number segment && segment.writable) segments

-- the bytes of the segment's file part from one address up to another
abbrev pub file_part : Segment → List ℕ → ℕ → ℕ → List ℕ
file_part segment file from to = take (to - from) (drop (segment.file_at + (from - segment.va)) file)

-- the page with what of the segment's file part lies in it
abbrev pub laid_between : Segment → List ℕ → List ℕ → ℕ → ℕ → ℕ → List ℕ
laid_between segment file bytes begin from to =
    if nat_lt from to then overlaid bytes (from - begin) (file_part segment file from to) else bytes

abbrev pub laid : Segment → List ℕ → ℕ → List ℕ → List ℕ
laid segment file number bytes =
    laid_between segment file bytes (number * PGSIZE) (max segment.va (number * PGSIZE))
    (min (segment.va + segment.file_len) ((number + 1) * PGSIZE))

-- the page's bytes: those of the file parts in it, and zeros
unfoldable pub laid_all : List Segment → List ℕ → ℕ → List ℕ → List ℕ
laid_all [] file number bytes = bytes
laid_all (segment ∷ rest) file number bytes = laid_all rest file number (laid segment file number bytes)

abbrev pub page_bytes : List Segment → List ℕ → ℕ → List ℕ
page_bytes segments file number = laid_all segments file number zero_page

-- the page below USTACKTOP
abbrev pub stack_page : ℕ
stack_page = USTACKTOP / PGSIZE - 1
