-- What the words of a program header say of its segment, as spawn finds them in the table; and what its tests say of one that is loaded.
use Rattle.std.proofs.Common.{◌≡◌, ◌≢◌, ◌∙◌, ◌+◌, ◌*◌, ◌^◌, ◌<◌, ◌≤◌, ◌==◌, ◌&&◌, ◌⊎◌, inl, inr, ℕ, zero, suc, Bool, true, false, List, [], ◌∷◌, None, refl}
use Rattle.std.proofs.Common.{sym, ap, subst, arith, if◌then◌else◌}
use Rattle.std.specs.Int.{w32, from_le_bytes}
use Rattle.std.specs.Prelude.{nat_lt, slice_index}
use Rattle.std.proofs.lemmas.Bool.Decides.{nat_tests}
use Rattle.jos_base.specs.declared.numbers.TheConstants.{FDTABLE, USTABDATA, UTEMP, UTEXT}
use Rattle.jos_base.specs.Words.{word_at}
use Rattle.jos_elf.specs.declared.header.ProgramHeader.{ProgramHeader}
use Rattle.jos_elf.specs.declared.numbers.TheConstants.{P_FILESZ, P_MEMSZ, P_OFFSET, P_TYPE, P_VADDR, PHDR_LEN, PT_LOAD}
use Rattle.jos_elf.specs.Headers.{program_header_at}
use Rattle.jos_elf.specs.Parsed.{Lies, segment_of}
use Rattle.jos_elf.specs.Tests.{first_failed, is_loaded, segment_tests, table_tests}
use Rattle.jos_elf.proofs.Parsed.{tests-lie}
use Rattle.jos_elf.proofs.Tests.{append-passed}
use Rattle.lib_os.specs.AbstractSpawn.{headers_in}
use Rattle.lib_os.specs.AbstractState.{ImageRead}
use Rattle.lib_os.specs.LibraryPages.{View}
use Rattle.lib_os.specs.Rows.{AreBytes}
use Rattle.lib_os.specs.StandsAtSpawn.{HasImage}

-- ---- its words

module _ (table : List ℕ) (header : ℕ) where
  pub says_kind : word_at (slice_index table) (PHDR_LEN * header + P_TYPE) ≡ (headers_in table header).kind
  unfolding program_header_at
  says_kind = refl

  pub says_file_at : word_at (slice_index table) (PHDR_LEN * header + P_OFFSET) ≡ (headers_in table header).file_at
  unfolding program_header_at
  says_file_at = refl

  pub says_va : word_at (slice_index table) (PHDR_LEN * header + P_VADDR) ≡ (headers_in table header).va
  unfolding program_header_at
  says_va = refl

  pub says_file_len : word_at (slice_index table) (PHDR_LEN * header + P_FILESZ) ≡ (headers_in table header).file_len
  unfolding program_header_at
  says_file_len = refl

  pub says_mem_len : word_at (slice_index table) (PHDR_LEN * header + P_MEMSZ) ≡ (headers_in table header).mem_len
  unfolding program_header_at
  says_mem_len = refl

-- of words of four bytes

four_below : (a b c d : ℕ) → a < 256 → b < 256 → c < 256 → d < 256 → from_le_bytes w32 (a ∷ b ∷ c ∷ d ∷ []) < 2 ^ 32
four_below a b c d first second third fourth = omega (arith, first, second, third, fourth)

pub word_below : (bytes : List ℕ) (at : ℕ) → AreBytes bytes → word_at (slice_index bytes) at < 2 ^ 32
word_below bytes at small =
    four_below (slice_index bytes at) (slice_index bytes (at + 1)) (slice_index bytes (at + 2)) (slice_index bytes (at + 3)) (small at) (small (at + 1))
    (small (at + 2)) (small (at + 3))

pub file_len_below : (table : List ℕ) (header : ℕ) → AreBytes table → (headers_in table header).file_len < 2 ^ 32
file_len_below table header small = subst (λ (m : ℕ). m < 2 ^ 32) (says_file_len table header) (word_below table (PHDR_LEN * header + P_FILESZ) small)

pub file_at_below : (table : List ℕ) (header : ℕ) → AreBytes table → (headers_in table header).file_at < 2 ^ 32
file_at_below table header small = subst (λ (m : ℕ). m < 2 ^ 32) (says_file_at table header) (word_below table (PHDR_LEN * header + P_OFFSET) small)

-- ---- it is loaded, or not

pub other_kind : (header : ProgramHeader) → (header.kind == PT_LOAD) ≡ false → is_loaded header ≡ false
unfolding is_loaded
other_kind header other = ap (λ (c : Bool). c && nat_lt 0 header.mem_len) other

pub no_memory : (header : ProgramHeader) → header.mem_len ≡ 0 → is_loaded header ≡ false
unfolding is_loaded
no_memory header none = ap (λ (m : ℕ). (header.kind == PT_LOAD) && nat_lt 0 m) none ∙ by_test (header.kind == PT_LOAD)
  where
    by_test : (c : Bool) → (c && false) ≡ false
    by_test true = refl
    by_test false = refl

pub has_memory : (header : ProgramHeader) → header.kind ≡ PT_LOAD → header.mem_len ≢ 0 → is_loaded header ≡ true
unfolding is_loaded
has_memory header kind some =
    let first : (header.kind == PT_LOAD) ≡ true = grind (arith, nat_tests, kind) in
    let second : nat_lt 0 header.mem_len ≡ true = grind (arith, nat_tests, some) in
    (λ i. first i && second i)

-- ---- its tests

-- each of the first so many passes
pub loaded_lies : (total : ℕ) (headers : ℕ → ProgramHeader) (n : ℕ) → first_failed (table_tests total headers n) ≡ None → (m : ℕ) → m < n →
    is_loaded (headers m) ≡ true → Lies total (segment_of (headers m))
unfolding table_tests
loaded_lies total headers zero passed m below loaded = absurd (omega (arith, below))
loaded_lies total headers (suc n) passed m below loaded =
    let parts = append-passed (table_tests total headers n) (if is_loaded (headers n) then segment_tests total headers n else []) passed in
    by_last (m == n) refl parts.1 (λ less. loaded_lies total headers n parts.0 m less loaded)
  where
    by_last : (c : Bool) → (m == n) ≡ c → first_failed (if is_loaded (headers n) then segment_tests total headers n else []) ≡ None →
        (m < n → Lies total (segment_of (headers m))) → Lies total (segment_of (headers m))
    by_last true test last before =
        let here : n ≡ m = grind (arith, nat_tests, test) in
        let loaded_here : is_loaded (headers n) ≡ true = ap (λ (q : ℕ). is_loaded (headers q)) here ∙ loaded in
        subst (λ (q : ℕ). Lies total (segment_of (headers q))) here
        (tests-lie total headers n loaded_here
        (ap (λ (c : Bool). first_failed (if c then segment_tests total headers n else [])) (sym loaded_here) ∙ last))
    by_last false test last before = before (let other : m ≢ n = grind (arith, nat_tests, test) in omega (arith, below, other))

-- what its tests say of a segment that is loaded
pub image_lies : {v : View} {image : ImageRead} {headers : ℕ} (whole : HasImage v image headers) (header : ℕ) → header < headers →
    is_loaded (headers_in image.table header) ≡ true → Lies whole.size (segment_of (headers_in image.table header))
image_lies {image = image} {headers = headers} whole header below loaded =
    loaded_lies whole.size (headers_in image.table) headers whole.passed header below loaded

-- it ends where addresses do not wrap
pub lies_low : {total : ℕ} (header : ProgramHeader) → Lies total (segment_of header) → header.va + header.mem_len ≤ FDTABLE
lies_low header lies = by_range lies.range
  where
    by_range : ((USTABDATA ≤ header.va) × (header.va + header.mem_len ≤ UTEMP)) ⊎ ((UTEXT ≤ header.va) × (header.va + header.mem_len ≤ FDTABLE)) →
        header.va + header.mem_len ≤ FDTABLE
    by_range (inl low) = let end = low.1 in omega (arith, end)
    by_range (inr high) = high.1
