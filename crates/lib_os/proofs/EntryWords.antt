-- What the word of an entry tells: its lowest bit says that there is one, and the bits that last are the entry's.
use Rattle.std.proofs.Common.{◌≡◌, ◌==◌, ◌∙◌, ◌+◌, ◌*◌, ◌%◌, ◌<◌, ℕ, Bool, true, false, refl, ap, arith, if◌then◌else◌}
use Rattle.std.proofs.lemmas.Bool.Decides.{nat_tests}
use Rattle.std.proofs.lemmas.Nat.{and_mod, and_mask, and_le_r}
use Rattle.std.specs.Prelude.{bit_and, is_some, Option, Some, None}
use Rattle.std.specs.Option.{option_map}
use Rattle.jos_base.specs.declared.numbers.TheConstants.{PTE_P, PTE_SYSCALL}
use Rattle.jos_base.specs.Reach.{Entry}
use Rattle.jos_base.specs.SpacesState.{SpacesState, Region}
use Rattle.jos_base.specs.SystemCalls.{is_page_perm}
use Rattle.jos_base.specs.Windows.{entry_word, region_entry}
use Rattle.lib_os.specs.InOrder.{HasOneUse}
use Rattle.lib_os.specs.Rows.{lasting, rows_of, IsUsers}
use Rattle.lib_os.proofs.BytesRead.{reading_bits, lasting_reads}

-- ---- the words

pub entry_present : (e : Entry) → bit_and e.perm 5 ≡ 5 → bit_and (entry_word (Some e)) PTE_P ≡ PTE_P
entry_present e reads =
    let two = reading_bits e.perm in
    let one = and_mask (e.frame * 4096 + e.perm) 1 in
    omega (arith, two, one)

pub entry_lasting : (e : Entry) → e.perm < 4096 → bit_and (entry_word (Some e)) PTE_SYSCALL ≡ bit_and e.perm PTE_SYSCALL
entry_lasting e small =
    let low = and_mod (e.frame * 4096 + e.perm) PTE_SYSCALL 12 in
    let same : (e.frame * 4096 + e.perm) % 4096 ≡ e.perm = omega arith in
    let part = ap (λ (w : ℕ). bit_and w PTE_SYSCALL) same in
    let most = and_le_r (e.frame * 4096 + e.perm) PTE_SYSCALL in
    omega (arith, low, part, most)

pub region_present : (region : Region) → bit_and (entry_word (Some (region_entry region))) PTE_P ≡ PTE_P
region_present region = by_bit region.accessed
  where
    by_bit : (t : Bool) → bit_and (region.table * 4096 + (if t then 39 else 7)) PTE_P ≡ PTE_P
    by_bit true = let one = and_mask (region.table * 4096 + 39) 1 in omega (arith, one)
    by_bit false = let one = and_mask (region.table * 4096 + 7) 1 in omega (arith, one)

-- whether a region has a table
pub region_told : (o : Option Region) → (bit_and (entry_word (option_map region_entry o)) PTE_P == PTE_P) ≡ is_some o
region_told None = refl
region_told (Some region) = let present = region_present region in grind (arith, nat_tests)

-- ---- as rows of pages tell

module _ (s : SpacesState) (d p : ℕ) where
  -- the entry that a row stands for
  pub row_entry : (row : Entry) → rows_of s d p ≡ Some row → (e : Entry) × (s.entries d p ≡ Some e) × (lasting e ≡ row)
  unfolding rows_of
  row_entry row is = by_entry (s.entries d p) is
    where
      by_entry : (o : Option Entry) → option_map lasting o ≡ Some row → (e : Entry) × (o ≡ Some e) × (lasting e ≡ row)
      by_entry (Some e) is = (e, refl, cc)
      by_entry None is = cc

  pub row_missing : rows_of s d p ≡ None → s.entries d p ≡ None
  unfolding rows_of
  row_missing is = by_entry (s.entries d p) is
    where
      by_entry : (o : Option Entry) → option_map lasting o ≡ None → o ≡ None
      by_entry (Some e) is = cc
      by_entry None is = refl

  pub row_word_none : rows_of s d p ≡ None → entry_word (s.entries d p) ≡ 0
  row_word_none is = ap entry_word (row_missing is)

  pub row_word_present : (row : Entry) → IsUsers row.perm → rows_of s d p ≡ Some row → bit_and (entry_word (s.entries d p)) PTE_P ≡ PTE_P
  row_word_present row user is =
      let found = row_entry row is in
      let page : is_page_perm (lasting found.0).perm ≡ true = ap (λ (e : Entry). is_page_perm e.perm) found.2 ∙ user.page in
      ap (λ (o : Option Entry). bit_and (entry_word o) PTE_P) found.1 ∙ entry_present found.0 (lasting_reads found.0.perm page)

  pub row_word_bits : HasOneUse s → (row : Entry) → rows_of s d p ≡ Some row →
      bit_and (entry_word (s.entries d p)) PTE_SYSCALL ≡ row.perm
  row_word_bits uses row is =
      let found = row_entry row is in
      ap (λ (o : Option Entry). bit_and (entry_word o) PTE_SYSCALL) found.1
      ∙ entry_lasting found.0 ((uses.small d p found.0 found.1).1)
      ∙ ap (λ (e : Entry). e.perm) found.2

  -- whether a page is there
  pub row_told : ((row : Entry) → rows_of s d p ≡ Some row → IsUsers row.perm) →
      (bit_and (entry_word (s.entries d p)) PTE_P == PTE_P) ≡ is_some (rows_of s d p)
  row_told users = by_row (rows_of s d p) refl
    where
      by_row : (o : Option Entry) → rows_of s d p ≡ o → (bit_and (entry_word (s.entries d p)) PTE_P == PTE_P) ≡ is_some o
      by_row (Some row) is = let present = row_word_present row (users row is) is in grind (arith, nat_tests)
      by_row None is = let none = row_word_none is in rw none refl
