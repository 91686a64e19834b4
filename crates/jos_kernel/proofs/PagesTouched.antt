-- Which page is the next that a segment touches.
use Rattle.std.proofs.Common.{◌≡◌, ℕ, ◌+◌, ◌*◌, ◌<◌, ◌≤◌, inl, inr, Bool, true, false, ◌||◌, ◌&&◌, List, []}
use Rattle.std.proofs.Common.{◌∷◌, take, length, get_or, min}
use Rattle.std.proofs.Common.{Option, Some, None, refl, sym, ap, subst, arith}
use Rattle.std.specs.List.{All}
use Rattle.std.proofs.lemmas.List.{take_all}
use Rattle.std.proofs.lemmas.List.Folds.{list_any_more}
use Rattle.std.proofs.lemmas.List.Elements.{All-head, All-tail}
use Rattle.std.proofs.lemmas.Bool.{cases_lt, ltb-true}
use Rattle.jos_elf.specs.declared.image.Segment.{Segment}
use Rattle.jos_elf.specs.Parsed.{Lies}
use Rattle.jos_elf.specs.Pages.{touches, any_touches}
use Rattle.jos_kernel.specs.Loading.{IsFirst, IsFirstAt, earlier}

-- ---- the first that passes either of two tests

module _ (p q : ℕ → Bool) (from : ℕ) where
  both_first : (a b : ℕ) → IsFirstAt p from a → IsFirstAt q from b → IsFirstAt (λ n. p n || q n) from (min a b)
  both_first a b h k = elim (cases_lt b a) [
    | inl lt ↦
        let low : b ≡ min a b = omega arith in
        subst (λ (n : ℕ). IsFirstAt (λ n. p n || q n) from n) low (record {
          behind = k.behind;
          passes = rw (h.others b k.behind lt, k.passes) refl;
          others = λ n le below. rw (h.others n le (omega arith), k.others n le below) refl;
        })
    | inr le ↦
        let low : a ≡ min a b = omega arith in
        subst (λ (n : ℕ). IsFirstAt (λ n. p n || q n) from n) low (record {
          behind = h.behind;
          passes = rw h.passes refl;
          others = λ n le' below. rw (h.others n le' below, k.others n le' (omega arith)) refl;
        })
  ]

  pub either_first : (a b : Option ℕ) → IsFirst p from a → IsFirst q from b → IsFirst (λ n. p n || q n) from (earlier a b)
  either_first None None h k = λ n le. rw (h n le, k n le) refl
  either_first None (Some b) h k = record {
    behind = k.behind;
    passes = rw (h b k.behind, k.passes) refl;
    others = λ n le lt. rw (h n le, k.others n le lt) refl;
  }
  either_first (Some a) None h k = record {
    behind = h.behind;
    passes = rw h.passes refl;
    others = λ n le lt. rw (h.others n le lt, k n le) refl;
  }
  either_first (Some a) (Some b) h k = both_first a b h k

-- ---- segments one after another

first_of_same : (p q : ℕ → Bool) (from : ℕ) (a : Option ℕ) → ((n : ℕ) → p n ≡ q n) → IsFirst p from a → IsFirst q from a
first_of_same p q from a same is = subst (λ (test : ℕ → Bool). IsFirst test from a) (λ i n. same n i) is

pub first_more : (segments : List Segment) (i from : ℕ) (d : Segment) (a b : Option ℕ) → i < length segments
    → IsFirst (λ n. any_touches n (take i segments)) from a → IsFirst (λ n. touches n (get_or segments i d)) from b
    → IsFirst (λ n. any_touches n (take (i + 1) segments)) from (earlier a b)
first_more segments i from d a b lt h k =
    first_of_same (λ n. any_touches n (take i segments) || touches n (get_or segments i d)) (λ n. any_touches n (take (i + 1) segments)) from (earlier a b)
    (λ n. sym (list_any_more (touches n) segments i d lt))
    (either_first (λ n. any_touches n (take i segments)) (λ n. touches n (get_or segments i d)) from a b h k)

pub first_whole : (segments : List Segment) (i from : ℕ) (a : Option ℕ) → length segments ≤ i
    → IsFirst (λ n. any_touches n (take i segments)) from a → IsFirst (λ n. any_touches n segments) from a
first_whole segments i from a le is =
    first_of_same _ _ from a (λ n. ap (any_touches n) (take_all i segments le)) is

-- ---- no page from FDTABLE on is touched

touch_ends : (number : ℕ) (segment : Segment) → touches number segment ≡ true → number * 4096 < segment.va + segment.mem_len
touch_ends number segment touch = ltb-true _ _ (and_right _ _ touch)
  where
    and_right : (a b : Bool) → (a && b) ≡ true → b ≡ true
    and_right true b e = e
    and_right false b e = absurd cc

below_limit : (total number : ℕ) (segment : Segment) → Lies total segment → touches number segment ≡ true → number < 851968
below_limit total number segment lies touch =
    let ends = touch_ends number segment touch in
    elim lies.range [ inl low ↦ omega (arith, low.1) | inr high ↦ omega (arith, high.1) ]

below_by : (total number : ℕ) (segment : Segment) (rest : Bool) (t : Bool) → touches number segment ≡ t → Lies total segment → (t || rest) ≡ true
    → (rest ≡ true → number < 851968) → number < 851968
below_by total number segment rest true e lies h below = below_limit total number segment lies e
below_by total number segment rest false e lies h below = below h

pub touched_below : (total number : ℕ) (segments : List Segment) → All (Lies total) segments → any_touches number segments ≡ true → number < 851968
touched_below total number [] lie touched = absurd cc
touched_below total number (segment ∷ rest) lie touched =
    below_by total number segment (any_touches number rest) (touches number segment) refl (All-head (Lies total) segment rest lie) touched
    (touched_below total number rest (All-tail (Lies total) segment rest lie))
