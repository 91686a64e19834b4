-- Lists: one element is set, as in a map that is changed at its place, or filled from a function of the place; and lists
-- behind one another.
use Rattle.std.proofs.Common.{◌≡◌, ◌≢◌, ◌∙◌, ◌+◌, ◌<◌, inl, inr, ℕ, List, ◌++◌, length, get_or, sym, ap, arith, append_assoc, below_more}
use Rattle.std.specs.Prelude.{slice_set}
use Rattle.std.proofs.Math.ListN.{set}
use Rattle.std.proofs.lemmas.Bool.{cases_eq}
use Rattle.std.proofs.lemmas.List.{get_or-set_same, get_or-set_other}
use Rattle.jos_base.specs.Words.{upd}
use Rattle.jos_base.proofs.Maps.{upd-at, upd-other}

pub get_or-set : {X : Type 0} (xs : List X) (k : ℕ) (v d : X) → k < length xs → (q : ℕ) → get_or (slice_set xs k v) q d ≡ upd (λ z. get_or xs z d) k v q
get_or-set xs k v d lt q = elim (cases_eq q k) [
  | inl same ↦
      ap (λ z. get_or (slice_set xs k v) z d) same ∙ get_or-set_same xs k v d lt ∙ sym (upd-at (λ z. get_or xs z d) k v)
      ∙ ap (upd (λ z. get_or xs z d) k v) (sym same)
  | inr ne ↦ get_or-set_other xs k q v d ne ∙ sym (upd-other (λ z. get_or xs z d) k v q ne)
]

-- one element more is written
pub one_more : (xs : List ℕ) (f : ℕ → ℕ) (n x : ℕ) → n < length xs → ((k : ℕ) → k < n → get_or xs k 0 ≡ f k) → x ≡ f n →
    (k : ℕ) → k < n + 1 → get_or (set xs n x) k 0 ≡ f k
one_more xs f n x within before is = below_more _ n
    (λ k lt. let ne : k ≢ n = omega arith in rw get_or-set_other (before k lt))
    (rw get_or-set_same is)

-- three lists, each behind those before it
pub three_behind : {X : Type 0} (start first second third a b c : List X) → first ≡ start ++ a → second ≡ first ++ b → third ≡ second ++ c →
    third ≡ start ++ (a ++ (b ++ c))
three_behind start first second third a b c p q r = rw (r, q, p) (append_assoc (start ++ a) b c ∙ append_assoc start a (b ++ c))
