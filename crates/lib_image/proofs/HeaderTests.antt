-- The tests of a header, word by word: where the first so many pass and a word is as it should be, more pass; and where it is not, not all do.
use Rattle.std.proofs.Common.{◌≡◌, ◌∙◌, ◌+◌, ◌*◌, ◌^◌, ◌<◌, ◌≤◌, ◌==◌, ◌&&◌, ℕ, Bool, true, false, List, [], ◌∷◌, ◌++◌, take, drop, None, refl, sym, ap}
use Rattle.std.specs.Prelude.{nat_le}
use Rattle.std.proofs.lemmas.Bool.{and_parts, and_right, le-leb}
use Rattle.jos_base.specs.declared.numbers.TheConstants.{SEGMENT_MAX}
use Rattle.jos_base.specs.Words.{word_at}
use Rattle.jos_elf.specs.declared.fault.ElfFault.{ElfFault}
use Rattle.jos_elf.specs.declared.fault.ElfFault.TheVariants.{Truncated, Magic, Class, Kind, Machine, EntrySize, TooMany}
use Rattle.jos_elf.specs.declared.numbers.TheConstants.{E_PHNUM, E_TYPE, EHDR_LEN, EI_CLASS, ELFCLASS32, ELFDATA2LSB, EM_386, ET_EXEC, PHDR_LEN}
use Rattle.jos_elf.specs.Headers.{byte_order_of, class_of, entry_count_of, entry_size_of, file_type_of, machine_of, table_of}
use Rattle.jos_elf.specs.Tests.{FaultTest, first_failed, has_magic, header_tests}
use Rattle.jos_elf.proofs.Tests.{passed-append, passed-cons}
use Rattle.lib_image.specs.WordTests.{count_in, is_class, is_kind, is_length, is_magic, table_fits}
use Rattle.lib_image.specs.WordLaws.{all_pass}
use Rattle.lib_image.proofs.HeaderWords.{class-tells, count-tells, kind-tells, later_tests, length-tells, magic-tells}
use Rattle.lib_image.proofs.Passing.{fails-cons, passes-append}

fails-behind : (tests rest : List FaultTest) → all_pass rest ≡ false → all_pass (tests ++ rest) ≡ false
fails-behind tests rest e = passes-append tests rest ∙ and_right (all_pass tests) (all_pass rest) e

fails-two : (one other : Bool) (f g : ElfFault) (rest : List FaultTest) → (one && other) ≡ false → all_pass ((one, f) ∷ (other, g) ∷ rest) ≡ false
fails-two true other f g rest e = fails-cons other g rest e
fails-two false other f g rest e = refl

module _ (byte : ℕ → ℕ) (size : ℕ) (small : (at : ℕ) → byte at < 2 ^ 8) where
  abbrev all : List FaultTest
  all = (nat_le EHDR_LEN size, Truncated size) ∷ later_tests size byte

  abbrev class_is : Bool
  class_is = (class_of byte == ELFCLASS32) && (byte_order_of byte == ELFDATA2LSB)

  -- the first so many pass
  abbrev pub Pass : ℕ → Type 0
  Pass count = first_failed (take count (header_tests size byte)) ≡ None

  pub room-passes : EHDR_LEN ≤ size → Pass 1
  unfolding header_tests
  room-passes room = passed-cons (nat_le EHDR_LEN size) (Truncated size) [] (le-leb EHDR_LEN size room) refl

  pub magic-passes : Pass 1 → is_magic (word_at byte 0) ≡ true → Pass 2
  unfolding header_tests
  magic-passes e m = passed-append (take 1 all) (take 1 (drop 1 all)) e ∙ passed-cons (has_magic byte) Magic [] (sym (magic-tells byte size small) ∙ m) refl

  pub magic-fails : is_magic (word_at byte 0) ≡ false → all_pass (header_tests size byte) ≡ false
  unfolding header_tests
  magic-fails m = fails-behind (take 1 all) (drop 1 all) (fails-cons (has_magic byte) Magic (drop 2 all) (sym (magic-tells byte size small) ∙ m))

  pub class-passes : Pass 2 → is_class (word_at byte EI_CLASS) ≡ true → Pass 3
  unfolding header_tests
  class-passes e m = passed-append (take 2 all) (take 1 (drop 2 all)) e ∙ passed-cons class_is Class [] (sym (class-tells byte size small) ∙ m) refl

  pub class-fails : is_class (word_at byte EI_CLASS) ≡ false → all_pass (header_tests size byte) ≡ false
  unfolding header_tests
  class-fails m = fails-behind (take 2 all) (drop 2 all) (fails-cons class_is Class (drop 3 all) (sym (class-tells byte size small) ∙ m))

  pub kind-passes : Pass 3 → is_kind (word_at byte E_TYPE) ≡ true → Pass 5
  unfolding header_tests
  kind-passes e m =
      let both = and_parts (file_type_of byte == ET_EXEC) (machine_of byte == EM_386) (sym (kind-tells byte size small) ∙ m) in
      passed-append (take 3 all) (take 2 (drop 3 all)) e
      ∙ passed-cons (file_type_of byte == ET_EXEC) Kind (take 1 (drop 4 all)) both.0 (passed-cons (machine_of byte == EM_386) Machine [] both.1 refl)

  pub kind-fails : is_kind (word_at byte E_TYPE) ≡ false → all_pass (header_tests size byte) ≡ false
  unfolding header_tests
  kind-fails m =
      fails-behind (take 3 all) (drop 3 all)
      (fails-two (file_type_of byte == ET_EXEC) (machine_of byte == EM_386) Kind Machine (drop 5 all) (sym (kind-tells byte size small) ∙ m))

  pub length-passes : Pass 5 → is_length (word_at byte 40) ≡ true → Pass 6
  unfolding header_tests
  length-passes e m =
      passed-append (take 5 all) (take 1 (drop 5 all)) e
      ∙ passed-cons (entry_size_of byte == PHDR_LEN) EntrySize [] (sym (length-tells byte size small) ∙ m) refl

  pub length-fails : is_length (word_at byte 40) ≡ false → all_pass (header_tests size byte) ≡ false
  unfolding header_tests
  length-fails m =
      fails-behind (take 5 all) (drop 5 all)
      (fails-cons (entry_size_of byte == PHDR_LEN) EntrySize (drop 6 all) (sym (length-tells byte size small) ∙ m))

  -- by the word that tells how many program headers there are
  same-count : table_fits size (table_of byte) (count_in (word_at byte E_PHNUM)) ≡ table_fits size (table_of byte) (entry_count_of byte)
  same-count = ap (λ (count : ℕ). table_fits size (table_of byte) count) (count-tells byte size small)

  pub count-passes : Pass 6 → table_fits size (table_of byte) (count_in (word_at byte E_PHNUM)) ≡ true → first_failed (header_tests size byte) ≡ None
  unfolding header_tests
  count-passes e m =
      let both = and_parts (nat_le (entry_count_of byte) SEGMENT_MAX) (nat_le (table_of byte + PHDR_LEN * entry_count_of byte) size) (sym same-count ∙ m) in
      passed-append (take 6 all) (drop 6 all) e
      ∙ passed-cons (nat_le (entry_count_of byte) SEGMENT_MAX) TooMany (drop 7 all) both.0
      (passed-cons (nat_le (table_of byte + PHDR_LEN * entry_count_of byte) size) (Truncated size) [] both.1 refl)

  pub count-fails : table_fits size (table_of byte) (count_in (word_at byte E_PHNUM)) ≡ false → all_pass (header_tests size byte) ≡ false
  unfolding header_tests
  count-fails m =
      fails-behind (take 6 all) (drop 6 all)
      (fails-two (nat_le (entry_count_of byte) SEGMENT_MAX) (nat_le (table_of byte + PHDR_LEN * entry_count_of byte) size) TooMany (Truncated size) []
      (sym same-count ∙ m))
