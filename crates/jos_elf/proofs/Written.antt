-- What is written is read again.
use Rattle.std.proofs.Common.{◌≡◌, ℕ, zero, suc, ◌+◌, ◌*◌, ◌-◌, ◌^◌, ◌<◌, ◌≤◌, Bool, true, false, List, [], ◌∷◌, ◌++◌}
use Rattle.std.proofs.Common.{length, get_or, take, drop, flat_map, All, AllPairs, Ok, Option, None, refl, ap, ◌∙◌}
use Rattle.std.proofs.Common.{sym, arith, append_assoc, length-append, inl, inr}
use Rattle.std.specs.Prelude.{◌⊎◌, slice_index, slice_range, nat_le, ◌&&◌, ◌==◌, not, bit_and}
use Rattle.std.specs.Int.{w32, from_le_bytes}
use Rattle.std.proofs.lemmas.Bool.{le-leb}
use Rattle.std.proofs.lemmas.Nat.{from_le_bytes-to_le_bytes_2, from_le_bytes-to_le_bytes_4}
use Rattle.std.proofs.lemmas.List.{get_or-drop, drop_all, append-nil, length-map, get_or-map, take_all}
use Rattle.std.proofs.lemmas.List.Elements.{All-map}
use Rattle.std.proofs.lemmas.List.Folds.{flat_map-map}
use Rattle.std.proofs.Math.Seq.{take-suc, drop-append-add}
use Rattle.jos_elf.specs.declared.fault.ElfFault.{ElfFault}
use Rattle.jos_elf.specs.declared.fault.ElfFault.TheVariants.{Truncated, Magic, Class, Kind, Machine, EntrySize}
use Rattle.jos_elf.specs.declared.fault.ElfFault.TheVariants.{TooMany, SegmentRange}
use Rattle.jos_elf.specs.declared.header.ProgramHeader.{ProgramHeader}
use Rattle.jos_elf.specs.declared.image.Segment.{Segment}
use Rattle.jos_elf.specs.declared.writer.Part.{Part}
use Rattle.jos_base.specs.declared.numbers.TheConstants.{USTABDATA, UTEMP, UTEXT, FDTABLE, SEGMENT_MAX}
use Rattle.jos_base.specs.Words.{word_at}
use Rattle.jos_elf.specs.declared.numbers.TheConstants.{ELFCLASS32, ELFDATA2LSB, ET_EXEC, EM_386, EHDR_LEN}
use Rattle.jos_elf.specs.declared.numbers.TheConstants.{P_TYPE, P_OFFSET, P_VADDR, P_FILESZ, P_MEMSZ, P_FLAGS}
use Rattle.jos_elf.specs.declared.numbers.TheConstants.{PT_LOAD, PF_W, PHDR_LEN}
use Rattle.jos_elf.specs.Headers.{class_of, byte_order_of, file_type_of, machine_of, entry_point_of, table_of}
use Rattle.jos_elf.specs.Headers.{entry_size_of, entry_count_of, program_header_at, header_of}
use Rattle.jos_elf.specs.Tests.{first_failed, has_magic, is_loaded, is_placed, leaves_free, header_tests}
use Rattle.jos_elf.specs.Tests.{overlap_tests, segment_tests, table_tests}
use Rattle.jos_elf.specs.Parsed.{segment_of, segments_of, parsed, Lies, Apart}
use Rattle.jos_elf.specs.Written.{elf_header, flags_of, program_header, headers_len, part_segment, part_segments}
use Rattle.jos_elf.specs.Written.{written, AreParts}
use Rattle.jos_elf.proofs.Tests.{passed-cons, overlap-none, overlap-passed, table-none, table-passed}
use Rattle.jos_elf.proofs.Facts.{loaded, placed, free_from}
use Rattle.jos_elf.proofs.Parsed.{parsed-passed, segments-none, segments-more}

abbrev none : Option ElfFault
none = None

-- ---- the ELF header

length-elf_header : (entry count : ℕ) → length (elf_header entry count) ≡ EHDR_LEN
unfolding elf_header
length-elf_header entry count = refl

length-program_header : (s : Segment) → length (program_header s) ≡ PHDR_LEN
unfolding program_header
length-program_header s = refl

elf-magic : (entry count : ℕ) (rest : List ℕ) → has_magic (slice_index (elf_header entry count ++ rest)) ≡ true
unfolding elf_header
elf-magic entry count rest = refl

elf-class : (entry count : ℕ) (rest : List ℕ) → ((class_of (slice_index (elf_header entry count ++ rest)) == 1) && (byte_order_of (slice_index (elf_header entry count ++ rest)) == 1)) ≡ true
unfolding elf_header
elf-class entry count rest = refl

elf-kind : (entry count : ℕ) (rest : List ℕ) → file_type_of (slice_index (elf_header entry count ++ rest)) ≡ ET_EXEC
unfolding elf_header
elf-kind entry count rest = refl

elf-machine : (entry count : ℕ) (rest : List ℕ) → machine_of (slice_index (elf_header entry count ++ rest)) ≡ EM_386
unfolding elf_header
elf-machine entry count rest = refl

elf-entry_size : (entry count : ℕ) (rest : List ℕ) → entry_size_of (slice_index (elf_header entry count ++ rest)) ≡ PHDR_LEN
unfolding elf_header
elf-entry_size entry count rest = refl

elf-table : (entry count : ℕ) (rest : List ℕ) → table_of (slice_index (elf_header entry count ++ rest)) ≡ EHDR_LEN
unfolding elf_header
elf-table entry count rest = refl

elf-count : (entry count : ℕ) (rest : List ℕ) → count < 2 ^ 16 → entry_count_of (slice_index (elf_header entry count ++ rest)) ≡ count
unfolding elf_header
elf-count entry count rest h = from_le_bytes-to_le_bytes_2 count h

elf-entry : (entry count : ℕ) (rest : List ℕ) → entry < 2 ^ 32 → entry_point_of (slice_index (elf_header entry count ++ rest)) ≡ entry
unfolding elf_header
elf-entry entry count rest h = from_le_bytes-to_le_bytes_4 entry h

passed-8 : (a b c d e f g h : Bool) (i j k l m n o p : ElfFault) → a ≡ true → b ≡ true → c ≡ true → d ≡ true → e ≡ true → f ≡ true → g ≡ true → h ≡ true
    → first_failed ((a, i) ∷ (b, j) ∷ (c, k) ∷ (d, l) ∷ (e, m) ∷ (f, n) ∷ (g, o) ∷ (h, p) ∷ []) ≡ none
passed-8 a b c d e f g h i j k l m n o p qa qb qc qd qe qf qg qh = rw (qa, qb, qc, qd, qe, qf, qg, qh) refl

-- the tests of the ELF header
pub elf-passes : (entry count : ℕ) (rest : List ℕ) → count ≤ SEGMENT_MAX → PHDR_LEN * count ≤ length rest → first_failed (header_tests (length (elf_header entry count ++ rest)) (slice_index (elf_header entry count ++ rest))) ≡ none
unfolding header_tests
elf-passes entry count rest few long =
    let file = elf_header entry count ++ rest in
    let sized : length file ≡ EHDR_LEN + length rest = length-append (elf_header entry count) rest ∙ ap (λ (n : ℕ). n + length rest) (length-elf_header entry count) in
    let counted : entry_count_of (slice_index file) ≡ count = elf-count entry count rest (omega arith) in
    let table : table_of (slice_index file) ≡ EHDR_LEN = elf-table entry count rest in
    passed-8 (nat_le EHDR_LEN (length file)) (has_magic (slice_index file)) ((class_of (slice_index file) == ELFCLASS32) && (byte_order_of (slice_index file) == ELFDATA2LSB)) (file_type_of (slice_index file) == ET_EXEC) (machine_of (slice_index file) == EM_386) (entry_size_of (slice_index file) == PHDR_LEN)
    (nat_le (entry_count_of (slice_index file)) SEGMENT_MAX) (nat_le (table_of (slice_index file) + PHDR_LEN * entry_count_of (slice_index file)) (length file))
    (Truncated (length file)) Magic Class Kind Machine EntrySize TooMany (Truncated (length file))
    (le-leb EHDR_LEN (length file) (omega arith)) (elf-magic entry count rest) (elf-class entry count rest)
    (ap (λ (n : ℕ). n == ET_EXEC) (elf-kind entry count rest)) (ap (λ (n : ℕ). n == EM_386) (elf-machine entry count rest)) (ap (λ (n : ℕ). n == PHDR_LEN) (elf-entry_size entry count rest))
    (rw counted (le-leb count SEGMENT_MAX few)) (rw (counted, table) (le-leb (EHDR_LEN + PHDR_LEN * count) (length file) (omega arith)))

-- ---- a program header

-- what the header of a segment says
abbrev pub saying : Segment → ProgramHeader
saying s = record { kind = PT_LOAD; file_at = s.file_at; va = s.va; file_len = s.file_len; mem_len = s.mem_len; flags = flags_of s.writable }

pub record Small (s : Segment) : Type 0 where
  pub file_at : s.file_at < 2 ^ 32
  pub va : s.va < 2 ^ 32
  pub file_len : s.file_len < 2 ^ 32
  pub mem_len : s.mem_len < 2 ^ 32

flags-small : (b : Bool) → flags_of b < 2 ^ 32
flags-small true = omega arith
flags-small false = omega arith

-- a word of the file at a place is a word of what stands from there
byte-behind : (file front : List ℕ) (at k : ℕ) → drop at file ≡ front → slice_index file (at + k) ≡ slice_index front k
byte-behind file front at k e = sym (get_or-drop at file k 0) ∙ ap (λ (t : List ℕ). slice_index t k) e

byte-further : (file front : List ℕ) (at k n : ℕ) → drop at file ≡ front → slice_index file (at + k + n) ≡ slice_index front (k + n)
byte-further file front at k n e =
    let q : at + k + n ≡ at + (k + n) = omega arith in
    rw q (byte-behind file front at (k + n) e)

word-behind : (file front : List ℕ) (at k : ℕ) → drop at file ≡ front → word_at (slice_index file) (at + k) ≡ word_at (slice_index front) k
word-behind file front at k e =
    let a = byte-behind file front at k e in
    let b = byte-further file front at k 1 e in
    let c = byte-further file front at k 2 e in
    let d = byte-further file front at k 3 e in
    λ i. from_le_bytes w32 (a i ∷ b i ∷ c i ∷ d i ∷ [])

headers-same : (a b : ProgramHeader) → a.kind ≡ b.kind → a.file_at ≡ b.file_at → a.va ≡ b.va → a.file_len ≡ b.file_len → a.mem_len ≡ b.mem_len → a.flags ≡ b.flags → a ≡ b
headers-same a b k f v l m g = λ i. record { kind = k i; file_at = f i; va = v i; file_len = l i; mem_len = m i; flags = g i }

says : (s : Segment) (rest : List ℕ) → Small s → program_header_at (slice_index (program_header s ++ rest)) 0 ≡ saying s
unfolding program_header_at program_header
says s rest small =
    headers-same (program_header_at (slice_index (program_header s ++ rest)) 0) (saying s) refl
    (from_le_bytes-to_le_bytes_4 s.file_at small.file_at)
    (from_le_bytes-to_le_bytes_4 s.va small.va)
    (from_le_bytes-to_le_bytes_4 s.file_len small.file_len)
    (from_le_bytes-to_le_bytes_4 s.mem_len small.mem_len)
    (from_le_bytes-to_le_bytes_4 (flags_of s.writable) (flags-small s.writable))

header-behind : (file front : List ℕ) (at : ℕ) → drop at file ≡ front → program_header_at (slice_index file) at ≡ program_header_at (slice_index front) 0
unfolding program_header_at
header-behind file front at e =
    headers-same (program_header_at (slice_index file) at) (program_header_at (slice_index front) 0)
    (word-behind file front at P_TYPE e)
    (word-behind file front at P_OFFSET e)
    (word-behind file front at P_VADDR e)
    (word-behind file front at P_FILESZ e)
    (word-behind file front at P_MEMSZ e)
    (word-behind file front at P_FLAGS e)

length-headers : (segments : List Segment) → length (flat_map program_header segments) ≡ PHDR_LEN * length segments
length-headers [] = refl
length-headers (s ∷ ss) =
    let rest = length-headers ss in
    let both = length-append (program_header s) (flat_map program_header ss) in
    let one = length-program_header s in
    omega (arith, rest, both, one)

-- what stands from a place of the table on
table-from : (segments : List Segment) (bytes : List ℕ) (place : ℕ) (d : Segment) → place < length segments
    → drop (PHDR_LEN * place) (flat_map program_header segments ++ bytes) ≡ program_header (get_or segments place d) ++ (flat_map program_header (drop (suc place) segments) ++ bytes)
table-from [] bytes place d within = absurd (omega arith)
table-from (s ∷ ss) bytes zero d within = append_assoc (program_header s) (flat_map program_header ss) bytes
table-from (s ∷ ss) bytes (suc place) d within =
    let q : PHDR_LEN * suc place ≡ length (program_header s) + PHDR_LEN * place = omega (arith, length-program_header s) in
    rw (q, append_assoc (program_header s) (flat_map program_header ss) bytes)
    (drop-append-add (program_header s) (flat_map program_header ss ++ bytes) (PHDR_LEN * place) ∙ table-from ss bytes place d (omega arith))

-- the program header at a place of the table is that of the segment at this place
header-written : (entry count : ℕ) (segments : List Segment) (bytes : List ℕ) (place : ℕ) (d : Segment) → place < length segments → Small (get_or segments place d)
    → header_of (slice_index (elf_header entry count ++ (flat_map program_header segments ++ bytes))) place ≡ saying (get_or segments place d)
header-written entry count segments bytes place d within small =
    let table = flat_map program_header segments ++ bytes in
    let file = elf_header entry count ++ table in
    let after = flat_map program_header (drop (suc place) segments) ++ bytes in
    let q : EHDR_LEN + PHDR_LEN * place ≡ length (elf_header entry count) + PHDR_LEN * place = omega (arith, length-elf_header entry count) in
    let from : drop (EHDR_LEN + PHDR_LEN * place) file ≡ program_header (get_or segments place d) ++ after =
    rw q (drop-append-add (elf_header entry count) table (PHDR_LEN * place) ∙ table-from segments bytes place d within) in
    ap (λ (n : ℕ). program_header_at (slice_index file) (n + PHDR_LEN * place)) (elf-table entry count table)
    ∙ header-behind file (program_header (get_or segments place d) ++ after) (EHDR_LEN + PHDR_LEN * place) from
    ∙ says (get_or segments place d) after small

-- ---- the segments

flag-said : (b : Bool) → not (bit_and (flags_of b) PF_W == 0) ≡ b
flag-said true = refl
flag-said false = refl

segment-said : (s : Segment) → segment_of (saying s) ≡ s
segment-said s = λ i. record { va = s.va; mem_len = s.mem_len; file_at = s.file_at; file_len = s.file_len; writable = flag-said s.writable i }

blank : Segment
blank = record { va = 0; mem_len = 0; file_at = 0; file_len = 0; writable = false }

-- a file whose table says of these segments, which lie in it and apart
pub record Says (file : List ℕ) (segments : List Segment) : Type 0 where
  pub headers : (i : ℕ) (d : Segment) → i < length segments → header_of (slice_index file) i ≡ saying (get_or segments i d)
  pub lie : All (Lies (length file)) segments
  pub apart : AllPairs Apart segments

said-loaded : (file : List ℕ) (segments : List Segment) (n : ℕ) → n < length segments → Says file segments → is_loaded (header_of (slice_index file) n) ≡ true
said-loaded file segments n within h =
    let lies = h.lie n blank within in
    rw (h.headers n blank within) ((loaded (saying (get_or segments n blank))).1 (refl, lies.some))

said-overlaps : (file : List ℕ) (segments : List Segment) (place n : ℕ) → place < length segments → n ≤ place → Says file segments → first_failed (overlap_tests (header_of (slice_index file)) place n) ≡ none
said-overlaps file segments place zero within le h = overlap-none (header_of (slice_index file)) place
said-overlaps file segments place (suc n) within le h =
    let a = get_or segments n blank in
    let b = get_or segments place blank in
    let lt : n < length segments = omega arith in
    let free : leaves_free (header_of (slice_index file) n) (header_of (slice_index file) place) ≡ true =
    rw (h.headers n blank lt, h.headers place blank within) (free_from (saying a) (saying b) (h.apart n place blank (omega arith) within)) in
    let q : n + 1 ≡ suc n = omega arith in
    let next = overlap-passed (header_of (slice_index file)) place n (said-overlaps file segments place n within (omega arith) h) free in
    rw q at next

said-tests : (file : List ℕ) (segments : List Segment) (n : ℕ) → n < length segments → Says file segments → first_failed (segment_tests (length file) (header_of (slice_index file)) n) ≡ none
unfolding segment_tests
said-tests file segments n within h =
    let s = get_or segments n blank in
    let lies = h.lie n blank within in
    let header = header_of (slice_index file) n in
    let is : header ≡ saying s = h.headers n blank within in
    passed-cons (nat_le (header.file_at + header.file_len) (length file)) (Truncated (length file)) ((is_placed header, SegmentRange n) ∷ overlap_tests (header_of (slice_index file)) n n)
    (ap (λ (p : ProgramHeader). nat_le (p.file_at + p.file_len) (length file)) is ∙ le-leb (s.file_at + s.file_len) (length file) lies.file)
    (passed-cons (is_placed header) (SegmentRange n) (overlap_tests (header_of (slice_index file)) n n)
    (ap (λ (p : ProgramHeader). is_placed p) is ∙ (placed (saying s)).1 (lies.room, lies.range))
    (said-overlaps file segments n n within (omega arith) h))

pub passes : (file : List ℕ) (segments : List Segment) (n : ℕ) → n ≤ length segments → Says file segments → first_failed (table_tests (length file) (header_of (slice_index file)) n) ≡ none
passes file segments zero le h = table-none (length file) (header_of (slice_index file))
passes file segments (suc n) le h =
    let q : n + 1 ≡ suc n = omega arith in
    let lt : n < length segments = omega arith in
    let next = table-passed (length file) (header_of (slice_index file)) n (passes file segments n (omega arith) h) (said-loaded file segments n lt h) (said-tests file segments n lt h) in
    rw q at next

pub segments-said : (file : List ℕ) (segments : List Segment) (n : ℕ) → n ≤ length segments → Says file segments → take n segments ≡ segments_of (header_of (slice_index file)) n
segments-said file segments zero le h = sym (segments-none (header_of (slice_index file)))
segments-said file segments (suc n) le h =
    let q : n + 1 ≡ suc n = omega arith in
    let lt : n < length segments = omega arith in
    let same : segment_of (header_of (slice_index file) n) ≡ get_or segments n blank = ap (λ (p : ProgramHeader). segment_of p) (h.headers n blank lt) ∙ segment-said (get_or segments n blank) in
    let next = segments-more (header_of (slice_index file)) n (take n segments) (segments-said file segments n (omega arith) h) (said-loaded file segments n lt h) in
    take-suc segments n blank lt ∙ ap (λ (s : Segment). take n segments ++ s ∷ []) (sym same) ∙ rw q at next

-- ---- the whole

blank_part : Part
blank_part = record { va = 0; at = 0; len = 0; mem_len = 0; writable = false }

below : (va end : ℕ) → ((USTABDATA ≤ va) × (end ≤ UTEMP)) ⊎ ((UTEXT ≤ va) × (end ≤ FDTABLE)) → end ≤ FDTABLE
below va end (inl h) = omega (arith, h.1)
below va end (inr h) = h.1

small-lies : (total : ℕ) (s : Segment) → total < 2 ^ 32 → Lies total s → Small s
small-lies total s lt lies =
    let end = below s.va (s.va + s.mem_len) lies.range in
    record { file_at = omega (arith, lies.file); va = omega (arith, end); file_len = omega (arith, lies.file); mem_len = omega (arith, end) }

part-lies : (before total : ℕ) (part : Part) → Lies total (part_segment 0 part) → Lies (before + total) (part_segment before part)
part-lies before total part lies = record { file = omega (arith, lies.file); room = lies.room; some = lies.some; range = lies.range }

pub length-written : (entry : ℕ) (parts : List Part) (bytes : List ℕ) → length (written entry parts bytes) ≡ headers_len parts + length bytes
unfolding written
length-written entry parts bytes =
    let segments = part_segments parts in
    let rest = flat_map program_header segments ++ bytes in
    omega (arith, length-append (elf_header entry (length parts)) rest, length-elf_header entry (length parts), length-append (flat_map program_header segments) bytes, length-headers segments, length-map parts (part_segment (headers_len parts)))

written-says : (entry : ℕ) (parts : List Part) (bytes : List ℕ) → AreParts parts bytes → headers_len parts + length bytes < 2 ^ 32 → Says (written entry parts bytes) (part_segments parts)
unfolding written
written-says entry parts bytes fit small =
    let before = headers_len parts in
    let total = before + length bytes in
    let long = length-written entry parts bytes in
    let lie-parts : All (λ part. Lies total (part_segment before part)) parts = λ k d within. part-lies before (length bytes) (get_or parts k d) (fit.lie k d within) in
    let lie : All (Lies total) (part_segments parts) = All-map (Lies total) (part_segment before) parts lie-parts in
    record {
      headers = λ i d within. header-written entry (length parts) (part_segments parts) bytes i d within (small-lies total (get_or (part_segments parts) i d) small (lie i d within));
      lie = rw long lie;
      apart = λ i j d lt within.
          let lt_j : j < length parts = omega (arith, length-map parts (part_segment before)) in
          let lt_i : i < length parts = omega arith in
          rw (get_or-map (part_segment before) parts i blank_part d lt_i, get_or-map (part_segment before) parts j blank_part d lt_j) (fit.apart i j blank_part lt lt_j);
    }

pub reads-back : (entry : ℕ) (parts : List Part) (bytes : List ℕ) → entry < 2 ^ 32 → AreParts parts bytes → headers_len parts + length bytes < 2 ^ 32
    → parsed (written entry parts bytes) ≡ Ok (record { entry = entry; segments = part_segments parts })
unfolding written parsed
reads-back entry parts bytes lt fit small =
    let segments = part_segments parts in
    let count = length parts in
    let rest = flat_map program_header segments ++ bytes in
    let file = elf_header entry count ++ rest in
    let said = written-says entry parts bytes fit small in
    let few = fit.few in
    let long : length segments ≡ count = length-map parts (part_segment (headers_len parts)) in
    let table : PHDR_LEN * count ≤ length rest = omega (arith, length-append (flat_map program_header segments) bytes, length-headers segments) in
    let counted : entry_count_of (slice_index file) ≡ count = elf-count entry count rest (omega arith) in
    let whole : segments ≡ segments_of (header_of (slice_index file)) count = sym (take_all count segments (omega arith)) ∙ segments-said file segments count (omega arith) said in
    let answer : Ok (record { entry = entry; segments = segments }) ≡ parsed file =
    parsed-passed (length file) (slice_index file) entry segments (elf-passes entry count rest few table) (rw counted (passes file segments count (omega arith) said))
    (sym (elf-entry entry count rest lt)) (rw counted whole) in
    sym answer

-- behind the headers stand the bytes
pub written-drop : (entry : ℕ) (parts : List Part) (bytes : List ℕ) (n : ℕ) → drop (headers_len parts + n) (written entry parts bytes) ≡ drop n bytes
unfolding written
written-drop entry parts bytes n =
    let segments = part_segments parts in
    let head = elf_header entry (length parts) in
    let table = flat_map program_header segments in
    let q : headers_len parts + n ≡ length (head ++ table) + n =
    omega (arith, length-append head table, length-elf_header entry (length parts), length-headers segments, length-map parts (part_segment (headers_len parts))) in
    rw (q, ← append_assoc head table bytes) (drop-append-add (head ++ table) bytes n)

pub written-slice : (entry : ℕ) (parts : List Part) (bytes : List ℕ) (at len : ℕ)
    → slice_range (written entry parts bytes) (headers_len parts + at) (headers_len parts + at + len) ≡ slice_range bytes at (at + len)
written-slice entry parts bytes at len =
    let q : headers_len parts + at + len - (headers_len parts + at) ≡ at + len - at = omega arith in
    rw (q, written-drop entry parts bytes at) refl

-- with no program header left to come, the headers and the bytes are the whole file
pub written-is : (entry : ℕ) (parts : List Part) (bytes : List ℕ) (n : ℕ) (front : List ℕ) → length parts ≤ n
    → front ++ flat_map (λ part. program_header (part_segment (headers_len parts) part)) (drop n parts)
    ≡ elf_header entry (length parts) ++ flat_map (λ part. program_header (part_segment (headers_len parts) part)) parts
    → front ++ bytes ≡ written entry parts bytes
unfolding written
written-is entry parts bytes n front le h =
    let before = headers_len parts in
    let done = rw (drop_all n parts le, append-nil front) at h in
    rw (done, flat_map-map program_header (part_segment before) parts) (append_assoc (elf_header entry (length parts)) (flat_map (λ part. program_header (part_segment before part)) parts) bytes)
