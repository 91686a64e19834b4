-- A frame that no entry names is freed: the entries and regions are as they were, and so are the bytes of all frames
-- that entries name.
use Rattle.std.proofs.Common.{◌≡◌, ◌<◌, ◌≤◌, ◌==◌, ℕ, Bool, true, false, refl, ap, arith}
use Rattle.std.specs.Prelude.{[], Option, Some, None, if◌then◌else◌}
use Rattle.std.specs.Option.{option_map}
use Rattle.std.proofs.lemmas.Option.{same_Some}
use Rattle.std.proofs.lemmas.Bool.Decides.{nat_tests}
use Rattle.jos_base.specs.Reach.{Entry}
use Rattle.jos_base.specs.Counting.{Entries, page_count, frame_limit, page_limit}
use Rattle.jos_base.specs.SpacesState.{SpacesState, released, freed}
use Rattle.lib_os.specs.Rows.{rows_of, lasting}
use Rattle.jos_base.proofs.Maps.{upd-other}
use Rattle.jos_base.proofs.Counts.{page_count-some}

-- the entries stand in directories, below UTOP
abbrev pub AreWithin : Entries → Type 0
AreWithin entries = (d p : ℕ) (e : Entry) → entries d p ≡ Some e → (d < frame_limit) × (p < page_limit)

released_pages : (s : SpacesState) (o : Option ℕ) (f : ℕ) → 1 ≤ page_count s.entries f → (released s o).pages f ≡ s.pages f
released_pages s None f counted = refl
released_pages s (Some g) f counted = by_test (page_count s.entries g == 0) refl
  where
    by_test : (b : Bool) → (page_count s.entries g == 0) ≡ b → (if b then freed s g else s).pages f ≡ s.pages f
    by_test false test = refl
    by_test true test =
        let none : page_count s.entries g ≡ 0 = grind (arith, nat_tests) in
        upd-other s.pages g [] f (λ same. let count = ap (page_count s.entries) same in absurd (omega arith))

pub released_named : (s : SpacesState) (o : Option ℕ) → AreWithin s.entries → (d p : ℕ) (e : Entry) → s.entries d p ≡ Some e →
    (released s o).pages e.frame ≡ s.pages e.frame
released_named s o within d p e is =
    let limits = within d p e is in
    released_pages s o e.frame (page_count-some s.entries d p e limits.0 limits.1 is)

-- an entry stands where it is seen
pub row_entry : (s : SpacesState) (d p : ℕ) (x : Entry) → rows_of s d p ≡ Some x → (y : Entry) × (s.entries d p ≡ Some y) × (y.frame ≡ x.frame)
unfolding rows_of
row_entry s d p x is = by_entry (s.entries d p) refl is
  where
    by_entry : (o : Option Entry) → s.entries d p ≡ o → option_map lasting o ≡ Some x → (y : Entry) × (s.entries d p ≡ Some y) × (y.frame ≡ x.frame)
    by_entry None at none = absurd cc
    by_entry (Some y) at some = (y, at, ap (λ (e : Entry). e.frame) (same_Some (lasting y) x some))
