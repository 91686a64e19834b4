-- The values at each number below a count, as a list; and whether a test passes at one of these numbers.
use Rattle.std.proofs.Common.{◌≡◌, ◌∙◌, ◌<◌, ◌||◌, inl, inr, ℕ, zero, suc, Bool, true, false, List, [], ◌∷◌, ◌++◌, length, get_or}
use Rattle.std.proofs.Common.{refl, sym, ap, arith, add-one}
use Rattle.std.proofs.lemmas.List.{ext_get_or, length_push, get_or_append_left, get_or_at}
use Rattle.std.proofs.Math.Bool.{or-true}
use Rattle.jos_base.proofs.Bounds.{below_or_last}
use Rattle.jos_base.specs.Below.{values_below, some_below}

-- ---- values

-- there are as many as the count
pub length-values : {A : Type 0} (n : ℕ) (f : ℕ → A) → length (values_below n f) ≡ n
unfolding values_below
length-values zero f = refl
length-values (suc n) f = length_push (values_below n f) (f n) ∙ add-one (length (values_below n f)) ∙ ap suc (length-values n f)

-- each stands at its number
pub get_or-values : {A : Type 0} (n : ℕ) (f : ℕ → A) (i : ℕ) (d : A) → i < n → get_or (values_below n f) i d ≡ f i
unfolding values_below
get_or-values zero f i d within = absurd (omega arith)
get_or-values (suc n) f i d within = elim (below_or_last i n within) [
  | inl below ↦
      let inside : i < length (values_below n f) = omega (arith, length-values n f) in
      get_or_append_left (values_below n f) (f n ∷ []) d i inside ∙ get_or-values n f i d below
  | inr last ↦ get_or_at (values_below n f) (f n) [] d i (length-values n f ∙ sym last) ∙ ap f (sym last)
]

-- A list that has them is that of the values.
pub is-values : {A : Type 0} (xs : List A) (n : ℕ) (f : ℕ → A) (d : A) → length xs ≡ n →
    ((i : ℕ) → i < n → get_or xs i d ≡ f i) → xs ≡ values_below n f
is-values xs n f d long each =
    ext_get_or d xs (values_below n f) (long ∙ sym (length-values n f))
    (λ i within.
    let below : i < n = omega arith in
    each i below ∙ sym (get_or-values n f i d below))

-- equal values give equal lists
pub values-same : {A : Type 0} (n : ℕ) (f g : ℕ → A) → ((i : ℕ) → i < n → f i ≡ g i) → values_below n f ≡ values_below n g
unfolding values_below
values-same zero f g same = refl
values-same {A} (suc n) f g same =
    ap (λ (l : List A). l ++ f n ∷ []) (values-same n f g (λ i within. same i (omega arith)))
    ∙ ap (λ (x : A). values_below n g ++ x ∷ []) (same n (omega arith))

-- ---- tests

pub some_below-at : (passes : ℕ → Bool) (n i : ℕ) → i < n → passes i ≡ true → some_below n passes ≡ true
unfolding some_below
some_below-at passes zero i within is = absurd (omega arith)
some_below-at passes (suc n) i within is = elim (below_or_last i n within) [
  | inl below ↦ ap (λ (b : Bool). b || passes n) (some_below-at passes n i below is)
  | inr last ↦ ap (λ (b : Bool). some_below n passes || b) (ap passes (sym last) ∙ is) ∙ or-true (some_below n passes)
]

pub some_below-none : (passes : ℕ → Bool) (n : ℕ) → ((i : ℕ) → i < n → passes i ≡ false) → some_below n passes ≡ false
unfolding some_below
some_below-none passes zero none = refl
some_below-none passes (suc n) none =
    ap (λ (b : Bool). b || passes n) (some_below-none passes n (λ i lt. none i (omega arith))) ∙ none n (omega arith)

-- tests that are equal pass alike
pub some_below-same : (n : ℕ) (f g : ℕ → Bool) → ((i : ℕ) → i < n → f i ≡ g i) → some_below n f ≡ some_below n g
unfolding some_below
some_below-same zero f g same = refl
some_below-same (suc n) f g same = λ i. some_below-same n f g (λ k lt. same k (omega arith)) i || same n (omega arith) i
