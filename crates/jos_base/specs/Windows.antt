-- The windows: what stands at UTOP and above, where a user reads the kernel's records of environments and frames, the
-- tables and the directory. All of it is computed when it is read.
-- (Intel 80386 Programmer's Reference Manual, 1986, section 5.2; MIT 6.828, inc/memlayout.h, mem_init of kern/pmap.c.
-- Two tables are every space's: that of UENVS and that of UPAGES. For the region of UVPT the directory is the table.)
use Rattle.std.specs.Prelude.{ℕ, ◌+◌, ◌*◌, ◌/◌, ◌%◌, ◌^◌, ◌==◌, nat_lt, zero, suc, List, get_or, Option, Some, None}
use Rattle.std.specs.Prelude.{if◌then◌else◌}
use Rattle.std.specs.Option.{option_map}
use Rattle.jos_base.specs.declared.numbers.TheConstants.{PGSIZE, NPTENTRIES, PTE_P, PTE_W, PTE_U, PTE_A, ENV_WORDS}
use Rattle.jos_base.specs.Reach.{Entry}
use Rattle.jos_base.specs.Counting.{page_limit}
use Rattle.jos_base.specs.SpacesState.{SpacesState, Region, count_frames, reference_count, region_limit}

-- ---- the directory

-- directory indices of the windows
abbrev pub envs_index : ℕ
envs_index = 0x3bb

abbrev pub pages_index : ℕ
pages_index = 0x3bc

abbrev pub table_index : ℕ
table_index = 0x3bd

-- frames that are reserved for them: from a first one upwards the records of the environments and those of the frames, and
-- the tables of both windows
abbrev pub envs_frame : ℕ
envs_frame = 1

abbrev pub envs_frames : ℕ
envs_frames = 16

abbrev pub pages_frame : ℕ
pages_frame = 17

abbrev pub envs_table : ℕ → ℕ
envs_table frames = count_frames frames + 17

abbrev pub pages_table : ℕ → ℕ
pages_table frames = count_frames frames + 18

-- the entry of what a user may read and never write; A is set from the beginning
abbrev pub window_entry : ℕ → Entry
window_entry frame = record { frame = frame; perm = PTE_P + PTE_U + PTE_A }

abbrev pub region_entry : Region → Entry
region_entry region = record {
  frame = region.table;
  perm = if region.accessed then PTE_P + PTE_W + PTE_U + PTE_A else PTE_P + PTE_W + PTE_U;
}

-- the directory's entry of this index
abbrev pub directory_entry : SpacesState → ℕ → ℕ → Option Entry
directory_entry s space index =
    if nat_lt index region_limit then option_map region_entry (s.regions space index)
    else if index == envs_index then Some (window_entry (envs_table s.frames))
    else if index == pages_index then Some (window_entry (pages_table s.frames))
    else if index == table_index then Some (window_entry space)
    else None

-- ---- the tables

-- one of so many frames from a first one upwards
abbrev pub window_page : ℕ → ℕ → ℕ → Option Entry
window_page first frames index = if nat_lt index frames then Some (window_entry (first + index)) else None

-- of the region of this directory index the entry at this index of its table
abbrev pub entry_above : SpacesState → ℕ → ℕ → ℕ → Option Entry
entry_above s space region index =
    if region == envs_index then window_page envs_frame envs_frames index
    else if region == pages_index then window_page pages_frame (count_frames s.frames) index
    else if region == table_index then directory_entry s space index
    else None

-- the entry of the page of this number
abbrev pub page_entry : SpacesState → ℕ → ℕ → Option Entry
page_entry s space number =
    if nat_lt number page_limit then s.entries space number
    else entry_above s space (number / NPTENTRIES) (number % NPTENTRIES)

-- what an access to a window finds: the directory's entry of a window has no W, whatever the table's has
abbrev pub read_only : Entry → Entry
read_only entry = window_entry entry.frame

-- what both levels together allow for the page of this number
unfoldable pub walked : SpacesState → ℕ → ℕ → Option Entry
walked s space number =
    if nat_lt number page_limit then s.entries space number
    else option_map read_only (entry_above s space (number / NPTENTRIES) (number % NPTENTRIES))

-- ---- their words

abbrev pub entry_word : Option Entry → ℕ
entry_word None = 0
entry_word (Some entry) = entry.frame * PGSIZE + entry.perm

-- the record of a frame has two words, and the second is its count; behind the last frame's there are zeros
abbrev pub count_word : SpacesState → ℕ → ℕ → ℕ
count_word s frame zero = 0
count_word s frame (suc n) = if nat_lt frame s.frames then reference_count s frame else 0

-- the word of this number in the region of this directory index; `records` has the words of each slot's record
abbrev pub word_above : (ℕ → List ℕ) → SpacesState → ℕ → ℕ → ℕ → ℕ
word_above records s space region n =
    if region == envs_index then get_or (records (n / ENV_WORDS)) (n % ENV_WORDS) 0
    else if region == pages_index then count_word s (n / 2) (n % 2)
    else if region == table_index then entry_word (page_entry s space n)
    else 0

-- the bytes of a region
abbrev pub region_size : ℕ
region_size = NPTENTRIES * PGSIZE

abbrev pub window_word : (ℕ → List ℕ) → SpacesState → ℕ → ℕ → ℕ
window_word records s space va = word_above records s space (va / region_size) (va % region_size / 4)

-- the byte of a window at an address: its word's lowest byte comes first
unfoldable pub window_byte : (ℕ → List ℕ) → SpacesState → ℕ → ℕ → ℕ
window_byte records s space va = window_word records s space va / 256 ^ (va % 4) % 256
