-- Whether an environment stands in another slot than the first, slot by slot.
use Rattle.std.proofs.Common.{◌≡◌, ◌+◌, ◌<◌, ◌≤◌, ◌==◌, ◌&&◌, ℕ, Bool, true, false, not, refl, arith, add-one}
use Rattle.std.proofs.lemmas.Bool.Decides.{nat_tests}
use Rattle.jos_base.specs.Environments.{is_live}
use Rattle.jos_base.specs.KernelState.{KernelState, slot_at}
use Rattle.jos_base.specs.Below.{some_below}
use Rattle.std.proofs.Math.Bool.{and-false}
use Rattle.jos_base.proofs.Below.{some_below-at}

abbrev pub other_lives : KernelState → ℕ → Bool
other_lives s n = not (n == 0) && is_live (slot_at s n)

-- the first slot does not count
pub none_at_first : (s : KernelState) → some_below 1 (other_lives s) ≡ false
unfolding some_below
none_at_first s = refl

pub none_further : (s : KernelState) (n : ℕ) → some_below n (other_lives s) ≡ false → is_live (slot_at s n) ≡ false →
    some_below (n + 1) (other_lives s) ≡ false
unfolding some_below
none_further s n before free = rw add-one (rw (before, free) (and-false (not (n == 0))))

module _ (s : KernelState) (n : ℕ) (later : 1 ≤ n) (live : is_live (slot_at s n) ≡ true) where
  counts : other_lives s n ≡ true
  counts = let other : (n == 0) ≡ false = grind (arith, nat_tests, later) in rw (other, live) refl

  pub some_there : (m : ℕ) → n < m → some_below m (other_lives s) ≡ true
  some_there m below = some_below-at (other_lives s) m n below counts
