-- Directories stay directories.
use Rattle.std.proofs.Common.{◌≡◌, ◌∙◌, ◌+◌, ◌/◌, ◌%◌, inl, inr, ℕ, Bool, true, false, cond, Result, Ok, Err, refl, sym, ap}
use Rattle.jos_base.specs.declared.memory.Access.{Access}
use Rattle.jos_base.specs.declared.memory.Access.TheVariants.{Write}
use Rattle.jos_base.specs.declared.memory.PageFault.{PageFault}
use Rattle.jos_base.specs.Words.{upd}
use Rattle.jos_base.specs.Reach.{FrameOffset}
use Rattle.jos_base.specs.SpacesState.{Use, fresh, page, free, table, directory, SpacesState}
use Rattle.jos_base.specs.UserMemory.{reach_in, stored_byte, with_byte_at, with_bits, with_page_bits}
use Rattle.jos_base.specs.UserMemory.{with_region_bit}
use Rattle.jos_base.specs.Counting.{page_limit}
use Rattle.jos_base.specs.Windows.{table_index}
use Rattle.std.specs.Prelude.{nat_lt, ◌==◌}
use Rattle.jos_space.specs.AtHand.{stored_word}
use Rattle.jos_space.specs.Calls.{has_bytes, KeepsDirectories}
use Rattle.std.proofs.lemmas.Bool.{cases_eq}
use Rattle.jos_base.proofs.Maps.{upd-other}

pub keeps_same : (s t : SpacesState) → t.uses ≡ s.uses → KeepsDirectories s t
keeps_same s t same f is = (λ i. same i f) ∙ is

-- a frame that is no directory gets another use
pub keeps_other : (s t : SpacesState) (g : ℕ) (now : Use) → t.uses ≡ upd s.uses g now → (s.uses g ≡ directory → ⊥) → KeepsDirectories s t
keeps_other s t g now uses not f is = elim (cases_eq f g) [
  | inl same ↦ absurd (not (ap s.uses (sym same) ∙ is))
  | inr ne ↦ (λ i. uses i f) ∙ upd-other s.uses g now f ne ∙ is
]

pub keeps_both : (s t u : SpacesState) → KeepsDirectories s t → KeepsDirectories t u → KeepsDirectories s u
keeps_both s t u one two f is = two f (one f is)

pub fresh_apart : (now : Use) → now ≡ fresh → now ≡ directory → ⊥
fresh_apart now is dir = absurd cc

pub page_apart : (now : Use) → now ≡ page → now ≡ directory → ⊥
page_apart now is dir = absurd cc

pub table_apart : (now : Use) → now ≡ table → now ≡ directory → ⊥
table_apart now is dir = absurd cc

pub free_apart : (now : Use) → now ≡ free → now ≡ directory → ⊥
free_apart now is dir = absurd cc

pub bytes_apart : (now : Use) → has_bytes now ≡ true → now ≡ directory → ⊥
bytes_apart now is dir = let none = ap has_bytes dir in absurd cc

pub bytes_used : (now : Use) → has_bytes now ≡ true → now ≡ free → ⊥
bytes_used now is none = let lost = ap has_bytes none in absurd cc

-- ---- what sets bits or writes bytes leaves all uses

pub bits_uses : (s : SpacesState) (d n : ℕ) (access : Access) → (with_bits s d n access).uses ≡ s.uses
bits_uses s d n access = by_tests (nat_lt n page_limit) (n / 1024 == table_index)
  where
    by_tests : (a b : Bool) → (cond a (with_page_bits s d n access) (cond b (with_region_bit s d (n % 1024)) s)).uses ≡ s.uses
    by_tests true b = refl
    by_tests false true = refl
    by_tests false false = refl

pub stored_uses : (s : SpacesState) (d va byte : ℕ) → (stored_byte s d va byte).uses ≡ s.uses
unfolding stored_byte
stored_uses s d va byte = by_reach (reach_in s d va Write)
  where
    by_reach : (r : Result FrameOffset PageFault) → (with_byte_at s byte r).uses ≡ s.uses
    by_reach (Ok location) = refl
    by_reach (Err fault) = refl

pub word_uses : (s : SpacesState) (d va word : ℕ) → (stored_word s d va word).uses ≡ s.uses
unfolding stored_word
word_uses s d va word =
    let one = stored_byte s d va (word % 256) in
    let two = stored_byte one d (va + 1) (word / 256 % 256) in
    let three = stored_byte two d (va + 2) (word / 65536 % 256) in
    stored_uses three d (va + 3) (word / 16777216 % 256) ∙ stored_uses two d (va + 2) (word / 65536 % 256)
    ∙ stored_uses one d (va + 1) (word / 256 % 256) ∙ stored_uses s d va (word % 256)
