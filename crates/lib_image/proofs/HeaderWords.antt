-- The words of a header tell what its bytes tell.
use Rattle.std.proofs.Common.{◌≡◌, ◌∙◌, ◌+◌, ◌*◌, ◌/◌, ◌%◌, ◌^◌, ◌<◌, ◌≤◌, ◌==◌, ◌&&◌, ℕ, Bool, true, false, List, [], ◌∷◌, refl, sym, ap, subst, arith, w16, w32}
use Rattle.std.specs.Prelude.{nat_le}
use Rattle.std.specs.Int.{from_le_bytes}
use Rattle.std.proofs.lemmas.Bool.{and_from, and_parts, eq-eqb, eqb-true, le-leb, lt-leb}
use Rattle.jos_base.specs.declared.numbers.TheConstants.{SEGMENT_MAX, UTEMP}
use Rattle.jos_base.specs.Words.{word_at}
use Rattle.jos_elf.specs.declared.fault.ElfFault.{ElfFault}
use Rattle.jos_elf.specs.declared.fault.ElfFault.TheVariants.{Truncated, Magic, Class, Kind, Machine, EntrySize, TooMany}
use Rattle.jos_elf.specs.declared.numbers.TheConstants.{E_ENTRY, E_PHNUM, E_PHOFF, E_TYPE, EHDR_LEN, EI_CLASS, EM_386, ET_EXEC}
use Rattle.jos_elf.specs.declared.numbers.TheConstants.{ELFCLASS32, ELFDATA2LSB, PHDR_LEN}
use Rattle.jos_elf.specs.Headers.{byte_order_of, class_of, entry_count_of, entry_size_of, file_type_of, machine_of, table_of}
use Rattle.jos_elf.specs.Tests.{FaultTest, has_magic, header_tests}
use Rattle.lib_os.specs.declared.spawn_steps.FilePart.TheVariants as part
use Rattle.lib_os.specs.declared.spawn_steps.ReadStep.TheVariants as read
use Rattle.lib_os.specs.declared.spawn_steps.SpawnStep.{SpawnStep}
use Rattle.lib_os.specs.declared.spawn_steps.SpawnStep.TheVariants as spawn
use Rattle.lib_os.specs.declared.spawn_steps.TestingStep.TheVariants as testing
use Rattle.lib_image.specs.TestingStages.{where_holds}
use Rattle.lib_image.specs.WordTests.{count_in, is_class, is_kind, is_length, is_magic, table_fits}
use Rattle.lib_image.specs.WordLaws.{all_pass, behind, Comes, HeaderWordsTell, ShortFilesFail, there}
use Rattle.lib_image.proofs.Passing.{fails-cons, first-of}

same_tests : (x y : Bool) → (x ≡ true → y ≡ true) → (y ≡ true → x ≡ true) → x ≡ y
same_tests true true f g = refl
same_tests true false f g = sym (f refl)
same_tests false true f g = g refl
same_tests false false f g = refl

-- ---- words and bytes

low-half : (a b c d : ℕ) → a < 256 → b < 256 → from_le_bytes w32 (a ∷ b ∷ c ∷ d ∷ []) % 2 ^ 16 ≡ from_le_bytes w16 (a ∷ b ∷ [])
low-half a b c d la lb = omega (arith, la, lb)

high-half : (a b c d : ℕ) → a < 256 → b < 256 → from_le_bytes w32 (a ∷ b ∷ c ∷ d ∷ []) / 2 ^ 16 ≡ from_le_bytes w16 (c ∷ d ∷ [])
high-half a b c d la lb = omega (arith, la, lb)

two : (a b : ℕ) → a < 256 → b < 256 → (from_le_bytes w16 (a ∷ b ∷ []) == 0x0101) ≡ ((a == 1) && (b == 1))
two a b la lb = same_tests _ _
    (λ e. let n = eqb-true (from_le_bytes w16 (a ∷ b ∷ [])) 0x0101 e in
    and_from _ _ (eq-eqb a 1 (omega (arith, n, la, lb))) (eq-eqb b 1 (omega (arith, n, la, lb))))
    (λ e. let p = and_parts _ _ e in let x = eqb-true a 1 p.0 in let y = eqb-true b 1 p.1 in
    eq-eqb (from_le_bytes w16 (a ∷ b ∷ [])) 0x0101 (omega (arith, x, y)))

halves : (a b c d : ℕ) → a < 256 → b < 256 → c < 256 → d < 256 →
    (from_le_bytes w32 (a ∷ b ∷ c ∷ d ∷ []) == 0x30002) ≡ ((from_le_bytes w16 (a ∷ b ∷ []) == 2) && (from_le_bytes w16 (c ∷ d ∷ []) == 3))
halves a b c d la lb lc ld = same_tests _ _
    (λ e. let n = eqb-true (from_le_bytes w32 (a ∷ b ∷ c ∷ d ∷ [])) 0x30002 e in
    and_from _ _ (eq-eqb (from_le_bytes w16 (a ∷ b ∷ [])) 2 (omega (arith, n, la, lb, lc, ld)))
    (eq-eqb (from_le_bytes w16 (c ∷ d ∷ [])) 3 (omega (arith, n, la, lb, lc, ld))))
    (λ e. let p = and_parts _ _ e in
    let x = eqb-true (from_le_bytes w16 (a ∷ b ∷ [])) 2 p.0 in let y = eqb-true (from_le_bytes w16 (c ∷ d ∷ [])) 3 p.1 in
    eq-eqb (from_le_bytes w32 (a ∷ b ∷ c ∷ d ∷ [])) 0x30002 (omega (arith, x, y)))

four : (a b c d : ℕ) → a < 256 → b < 256 → c < 256 → d < 256 →
    (from_le_bytes w32 (a ∷ b ∷ c ∷ d ∷ []) == 0x464c457f) ≡ ((a == 0x7f) && (b == 0x45) && (c == 0x4c) && (d == 0x46))
four a b c d la lb lc ld = same_tests _ _
    (λ e. let n = eqb-true (from_le_bytes w32 (a ∷ b ∷ c ∷ d ∷ [])) 0x464c457f e in
    and_from _ _ (and_from _ _ (and_from _ _ (eq-eqb a 0x7f (omega (arith, n, la, lb, lc, ld))) (eq-eqb b 0x45 (omega (arith, n, la, lb, lc, ld))))
    (eq-eqb c 0x4c (omega (arith, n, la, lb, lc, ld)))) (eq-eqb d 0x46 (omega (arith, n, la, lb, lc, ld))))
    (λ e. let p = and_parts _ _ e in let q = and_parts _ _ p.0 in let r = and_parts _ _ q.0 in
    let x = eqb-true a 0x7f r.0 in let y = eqb-true b 0x45 r.1 in let z = eqb-true c 0x4c q.1 in let w = eqb-true d 0x46 p.1 in
    eq-eqb (from_le_bytes w32 (a ∷ b ∷ c ∷ d ∷ [])) 0x464c457f (omega (arith, x, y, z, w)))

-- ---- the tests in their order

-- those behind the first
listed : (m c k h l n t : Bool) (f g i j r s u : ElfFault) →
    (m && (c && ((k && h) && (l && (n && t)))))
    ≡ all_pass ((m, f) ∷ (c, g) ∷ (k, i) ∷ (h, j) ∷ (l, r) ∷ (n, s) ∷ (t, u) ∷ [])
listed false c k h l n t f g i j r s u = refl
listed true false k h l n t f g i j r s u = refl
listed true true false h l n t f g i j r s u = refl
listed true true true false l n t f g i j r s u = refl
listed true true true true false n t f g i j r s u = refl
listed true true true true true false t f g i j r s u = refl
listed true true true true true true false f g i j r s u = refl
listed true true true true true true true f g i j r s u = refl

-- the tests of a header but the first
abbrev pub later_tests : ℕ → (ℕ → ℕ) → List FaultTest
later_tests size byte =
    (has_magic byte, Magic)
    ∷ ((class_of byte == ELFCLASS32) && (byte_order_of byte == ELFDATA2LSB), Class)
    ∷ (file_type_of byte == ET_EXEC, Kind)
    ∷ (machine_of byte == EM_386, Machine)
    ∷ (entry_size_of byte == PHDR_LEN, EntrySize)
    ∷ (nat_le (entry_count_of byte) SEGMENT_MAX, TooMany)
    ∷ (nat_le (table_of byte + PHDR_LEN * entry_count_of byte) size, Truncated size)
    ∷ []

-- what the words of a header tell, all in all
abbrev words_pass : ℕ → ℕ → ℕ → ℕ → ℕ → ℕ → ℕ → Bool
words_pass size magic class kind table length count =
    is_magic magic && (is_class class && (is_kind kind && (is_length length && table_fits size table (count_in count))))

module _ (byte : ℕ → ℕ) (size : ℕ) (small : (at : ℕ) → byte at < 2 ^ 8) where
  below : (at : ℕ) → byte at < 256
  below at = small at

  pub magic-tells : is_magic (word_at byte 0) ≡ has_magic byte
  magic-tells = four (byte 0) (byte 1) (byte 2) (byte 3) (below 0) (below 1) (below 2) (below 3)

  pub class-tells : is_class (word_at byte EI_CLASS) ≡ ((class_of byte == ELFCLASS32) && (byte_order_of byte == ELFDATA2LSB))
  class-tells =
      ap (λ (n : ℕ). n == 0x0101) (low-half (byte 4) (byte 5) (byte 6) (byte 7) (below 4) (below 5))
      ∙ two (byte 4) (byte 5) (below 4) (below 5)

  pub kind-tells : is_kind (word_at byte E_TYPE) ≡ ((file_type_of byte == ET_EXEC) && (machine_of byte == EM_386))
  kind-tells = halves (byte 16) (byte 17) (byte 18) (byte 19) (below 16) (below 17) (below 18) (below 19)

  pub length-tells : is_length (word_at byte 40) ≡ (entry_size_of byte == PHDR_LEN)
  length-tells = ap (λ (n : ℕ). n == PHDR_LEN) (high-half (byte 40) (byte 41) (byte 42) (byte 43) (below 40) (below 41))

  pub count-tells : count_in (word_at byte E_PHNUM) ≡ entry_count_of byte
  count-tells = low-half (byte 44) (byte 45) (byte 46) (byte 47) (below 44) (below 45)

  -- the first test is that of a file with room for a header
  roomy : EHDR_LEN ≤ size → words_pass size (word_at byte 0) (word_at byte EI_CLASS) (word_at byte E_TYPE) (word_at byte E_PHOFF) (word_at byte 40) (word_at byte E_PHNUM)
      ≡ all_pass (header_tests size byte)
  unfolding header_tests
  roomy room =
      (λ i. magic-tells i && (class-tells i && (kind-tells i && (length-tells i && table_fits size (table_of byte) (count-tells i)))))
      ∙ listed (has_magic byte) ((class_of byte == ELFCLASS32) && (byte_order_of byte == ELFDATA2LSB)) (file_type_of byte == ET_EXEC)
      (machine_of byte == EM_386) (entry_size_of byte == PHDR_LEN) (nat_le (entry_count_of byte) SEGMENT_MAX)
      (nat_le (table_of byte + PHDR_LEN * entry_count_of byte) size) Magic Class Kind Machine EntrySize TooMany (Truncated size)
      ∙ sym (ap (λ (b : Bool). all_pass ((b, Truncated size) ∷ later_tests size byte)) (le-leb EHDR_LEN size room))

pub short_files_fail : ShortFilesFail
unfolding header_tests
short_files_fail byte size short = fails-cons (nat_le EHDR_LEN size) (Truncated size) (later_tests size byte) (lt-leb EHDR_LEN size short)

-- ---- going through them

walk : (words : ℕ → ℕ) (esp fd size : ℕ) →
    Comes words
    (where_holds (words_pass size (words UTEMP) (words (UTEMP + EI_CLASS)) (words (UTEMP + E_TYPE)) (words (UTEMP + E_PHOFF)) (words (UTEMP + 40)) (words (UTEMP + E_PHNUM))) fd
    (spawn.Reading (part.Table esp fd size (words (UTEMP + E_ENTRY)) (count_in (words (UTEMP + E_PHNUM))) (words (UTEMP + E_PHOFF))) read.LoadingNumber))
    (spawn.Testing (testing.HeaderMagic esp fd size))
walk words esp fd size =
    behind _ (first-of words _ _ fd _ _ (behind _ (first-of words _ _ fd _ _ (behind _ (first-of words _ _ fd _ _
    (behind _ (behind _ (behind _ (first-of words _ _ fd _ _ (behind _ there))))))))))

pub header_words_tell : HeaderWordsTell
header_words_tell words byte esp fd size small has room =
    let magic : words UTEMP ≡ word_at byte 0 = has 0 (omega arith) in
    let class : words (UTEMP + EI_CLASS) ≡ word_at byte EI_CLASS = has EI_CLASS (omega arith) in
    let kind : words (UTEMP + E_TYPE) ≡ word_at byte E_TYPE = has E_TYPE (omega arith) in
    let entry : words (UTEMP + E_ENTRY) ≡ word_at byte E_ENTRY = has E_ENTRY (omega arith) in
    let table : words (UTEMP + E_PHOFF) ≡ word_at byte E_PHOFF = has E_PHOFF (omega arith) in
    let length : words (UTEMP + 40) ≡ word_at byte 40 = has 40 (omega arith) in
    let count : words (UTEMP + E_PHNUM) ≡ word_at byte E_PHNUM = has E_PHNUM (omega arith) in
    let all : words_pass size (words UTEMP) (words (UTEMP + EI_CLASS)) (words (UTEMP + E_TYPE)) (words (UTEMP + E_PHOFF)) (words (UTEMP + 40)) (words (UTEMP + E_PHNUM))
    ≡ all_pass (header_tests size byte) = (λ i. words_pass size (magic i) (class i) (kind i) (table i) (length i) (count i)) ∙ roomy byte size small room in
    let counted : count_in (words (UTEMP + E_PHNUM)) ≡ entry_count_of byte = ap count_in count ∙ count-tells byte size small in
    subst (λ (end : SpawnStep). Comes words end (spawn.Testing (testing.HeaderMagic esp fd size)))
    (λ i. where_holds (all i) fd (spawn.Reading (part.Table esp fd size (entry i) (counted i) (table i)) read.LoadingNumber))
    (walk words esp fd size)
