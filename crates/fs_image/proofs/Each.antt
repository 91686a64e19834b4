-- What tests one after another give.
use Rattle.std.proofs.Common.{◌≡◌, ℕ, zero, suc, ◌+◌, ◌<◌, inl, inr, Bool, false, Ok, Err, Result, refl, sym, ◌∙◌, ap, arith, add-one}
use Rattle.std.specs.Prelude.{List, [], ◌∷◌, ◌++◌}
use Rattle.jos_base.specs.Below.{some_below}
use Rattle.fs_layout.specs.DiskImage.{Blocks, Test, ImageFault, then_tested, in_turn, for_each_below}
use Rattle.jos_base.proofs.Bounds.{below_or_last}

pub each_none : (test : ℕ → Test) (named : Blocks) → for_each_below 0 test named ≡ Ok named
unfolding for_each_below
each_none test named = refl

pub each_passed : (test : ℕ → Test) (named now : Blocks) (next : Result Blocks ImageFault) (i : ℕ) → for_each_below i test named ≡ Ok now → test i now ≡ next → for_each_below (i + 1) test named ≡ next
unfolding for_each_below
each_passed test named now next i e f = rw (add-one, for_each_below, e) f

pub each_failed : (test : ℕ → Test) (named now : Blocks) (fault : ImageFault) (i n : ℕ) → i < n → for_each_below i test named ≡ Ok now → test i now ≡ Err fault → for_each_below n test named ≡ Err fault
unfolding for_each_below
each_failed test named now fault i zero h e f = absurd (omega arith)
each_failed test named now fault i (suc n) h e f =
    elim (below_or_last i n h) [
      | inl below ↦ ap (λ r. then_tested r (test n)) (each_failed test named now fault i n below e f)
      | inr same ↦ ap (λ r. then_tested r (test n)) (ap (λ k. for_each_below k test named) (sym same) ∙ e) ∙ ap (λ k. test k now) (sym same) ∙ f
    ]

pub some_none : (passes : ℕ → Bool) → some_below 0 passes ≡ false
unfolding some_below
some_none passes = refl

pub some_passed : (passes : ℕ → Bool) (i : ℕ) → some_below i passes ≡ false → passes i ≡ false → some_below (i + 1) passes ≡ false
unfolding some_below
some_passed passes i e f = rw (add-one, some_below, e) f

pub turn_fails : (test : Test) (tests : List Test) (named : Blocks) (fault : ImageFault) → test named ≡ Err fault → in_turn (test ∷ tests) named ≡ Err fault
unfolding in_turn
turn_fails test tests named fault e = rw e refl

pub turn_passes : (test : Test) (tests : List Test) (named now : Blocks) → test named ≡ Ok now → in_turn (test ∷ tests) named ≡ in_turn tests now
unfolding in_turn
turn_passes test tests named now e = rw e refl

after_last : (r : Result Blocks ImageFault) → then_tested r (in_turn []) ≡ r
unfolding in_turn
after_last (Ok named) = refl
after_last (Err fault) = refl

pub turn_last : (test : Test) (named : Blocks) → in_turn (test ∷ []) named ≡ test named
unfolding in_turn
turn_last test named = after_last (test named)

after_after : (r : Result Blocks ImageFault) (whole first rest : Test) → ((named : Blocks) → whole named ≡ then_tested (first named) rest) → then_tested r whole ≡ then_tested (then_tested r first) rest
after_after (Ok named) whole first rest h = h named
after_after (Err fault) whole first rest h = refl

pub turn_append : (xs ys : List Test) (named : Blocks) → in_turn (xs ++ ys) named ≡ then_tested (in_turn xs named) (in_turn ys)
unfolding in_turn
turn_append [] ys named = refl
turn_append (test ∷ tests) ys named = after_after (test named) (in_turn (tests ++ ys)) (in_turn tests) (in_turn ys) (turn_append tests ys)

pub append_fails : (xs ys : List Test) (named : Blocks) (fault : ImageFault) → in_turn xs named ≡ Err fault → in_turn (xs ++ ys) named ≡ Err fault
append_fails xs ys named fault e = turn_append xs ys named ∙ ap (λ r. then_tested r (in_turn ys)) e

pub append_passes : (xs ys : List Test) (named now : Blocks) → in_turn xs named ≡ Ok now → in_turn (xs ++ ys) named ≡ in_turn ys now
append_passes xs ys named now e = turn_append xs ys named ∙ ap (λ r. then_tested r (in_turn ys)) e
