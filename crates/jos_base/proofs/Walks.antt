-- Where a walk leads.
use Rattle.std.proofs.Common.{◌≡◌, ◌<◌, ℕ, true, refl, arith}
use Rattle.std.specs.Prelude.{nat_lt}
use Rattle.std.proofs.lemmas.Bool.Decides.{nat_tests}
use Rattle.jos_base.specs.Counting.{page_limit}
use Rattle.jos_base.specs.SpacesState.{SpacesState}
use Rattle.jos_base.specs.Windows.{walked}

-- below UTOP a walk finds the entry of the page
pub walked_below : (s : SpacesState) (d number : ℕ) → number < page_limit → walked s d number ≡ s.entries d number
unfolding walked
walked_below s d number below = let low : nat_lt number page_limit ≡ true = grind (arith, nat_tests) in rw low refl
