-- Which names of a directory are taken.
use Rattle.std.proofs.Common.{◌≡◌, ◌≢◌, ◌∙◌, ℕ, ◌+◌, ◌<◌, Bool, true, false, cond, List, [], ◌∷◌, refl, sym, ap, add-one}
use Rattle.std.specs.Prelude.{◌||◌, not, bytes_eq}
use borrow.Author.Count.{below_more}
use Rattle.jos_base.specs.Below.{some_below}
use Rattle.fs_layout.specs.DiskImage.{name_of, slot_place, has_taken_name}

-- whether one of so many records has the name
abbrev pub is_name_below : (ℕ → ℕ) → ℕ → ℕ → List ℕ → Bool
is_name_below byte directory i name = some_below i (λ j. bytes_eq (name_of byte (slot_place byte directory j)) name)

or_cond : (x y : Bool) → cond x true y ≡ (y || x)
or_cond true true = refl
or_cond true false = refl
or_cond false true = refl
or_cond false false = refl

or_none : (x : Bool) → x ≡ (x || false)
or_none true = refl
or_none false = refl

some_next : (passes : ℕ → Bool) (i : ℕ) → some_below (i + 1) passes ≡ (some_below i passes || passes i)
unfolding some_below
some_next passes i = ap (λ k. some_below k passes) (add-one i)

-- an empty record adds no name
pub names_same : (byte : ℕ → ℕ) (directory i : ℕ) (name : List ℕ) → name_of byte (slot_place byte directory i) ≡ [] → name ≢ [] → is_name_below byte directory i name ≡ is_name_below byte directory (i + 1) name
names_same byte directory i [] e ne = absurd (ne refl)
names_same byte directory i (x ∷ name) e ne =
    or_none (is_name_below byte directory i (x ∷ name))
    ∙ ap (λ l. is_name_below byte directory i (x ∷ name) || bytes_eq l (x ∷ name)) (sym e)
    ∙ sym (some_next (λ j. bytes_eq (name_of byte (slot_place byte directory j)) (x ∷ name)) i)

-- one more name
pub names_more : (byte : ℕ → ℕ) (directory i : ℕ) (added name : List ℕ) (had has : Bool) → added ≡ name_of byte (slot_place byte directory i) → had ≡ is_name_below byte directory i name → has ≡ cond (bytes_eq added name) true had → has ≡ is_name_below byte directory (i + 1) name
names_more byte directory i added name had has e h k =
    k ∙ or_cond (bytes_eq added name) had ∙ ap (λ x. x || bytes_eq added name) h
    ∙ ap (λ l. is_name_below byte directory i name || bytes_eq l name) e
    ∙ sym (some_next (λ j. bytes_eq (name_of byte (slot_place byte directory j)) name) i)

pub taken_is : (byte : ℕ → ℕ) (directory i : ℕ) (name : List ℕ) (had : Bool) → name ≡ name_of byte (slot_place byte directory i) → had ≡ is_name_below byte directory i name → has_taken_name byte directory i ≡ had
unfolding has_taken_name
taken_is byte directory i name had e h = ap (is_name_below byte directory i) (sym e) ∙ sym h

-- what holds of the full records before one, and of that one
pub free_more : (byte : ℕ → ℕ) (directory i : ℕ) → ((j : ℕ) → j < i → byte (slot_place byte directory j) ≢ 0 → has_taken_name byte directory j ≡ false) → (byte (slot_place byte directory i) ≢ 0 → has_taken_name byte directory i ≡ false) → (j : ℕ) → j < i + 1 → byte (slot_place byte directory j) ≢ 0 → has_taken_name byte directory j ≡ false
free_more byte directory i below here =
    below_more (λ j. byte (slot_place byte directory j) ≢ 0 → has_taken_name byte directory j ≡ false) i below here

pub not_true : (x y : Bool) → x ≡ not y → x ≡ true → y ≡ false
not_true x true e h = cc
not_true x false e h = refl

pub not_false : (x y : Bool) → x ≡ not y → x ≡ false → y ≡ true
not_false x true e h = refl
not_false x false e h = cc
