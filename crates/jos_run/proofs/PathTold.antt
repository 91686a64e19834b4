-- The page with the bytes of a path that were taken, up to its end, tells that path.
use Rattle.std.proofs.Common.{◌≡◌, ◌∙◌, ℕ, suc, ◌+◌, ◌<◌, ◌≤◌, ◌==◌, ◌||◌, Bool, true, false, List, [], ◌∷◌, length, take, cond}
use Rattle.std.proofs.Common.{refl, sym, ap, arith}
use Rattle.std.specs.Prelude.{not, slice_index}
use Rattle.std.specs.List.{before_first, list_any, position_or_len, prefix_len}
use Rattle.std.proofs.lemmas.Bool.Decides.{nat_tests}
use Rattle.std.proofs.lemmas.List.{get_or-take}
use Rattle.std.proofs.lemmas.List.Folds.{length-prefix_len}
use Rattle.std.proofs.lemmas.List.Sums.{passes_at_first}
use Rattle.fs_layout.specs.declared.numbers.TheConstants.{MAXPATHLEN}
use Rattle.fs_runs.specs.TreeRuns.{HasPath}
use Rattle.lib_os.specs.FileServices.{is_nul}

-- none of the bytes before the first end is an end
pub none_before : (bytes : List ℕ) → list_any is_nul (before_first is_nul bytes) ≡ false
none_before [] = refl
none_before (x ∷ rest) = by_test (none_before rest) (x == 0) refl
  where
    more : ℕ
    more = prefix_len (λ b. not (is_nul b)) rest

    next : take (1 + more) (x ∷ rest) ≡ x ∷ take more rest
    next = let e : 1 + more ≡ suc more = omega arith in ap (λ k. take k (x ∷ rest)) e

    by_test : list_any is_nul (take more rest) ≡ false → (t : Bool) → (x == 0) ≡ t → list_any is_nul (take (cond (not t) (1 + more) 0) (x ∷ rest)) ≡ false
    by_test so true is = refl
    by_test so false is =
        let head : list_any is_nul (x ∷ take more rest) ≡ list_any is_nul (take more rest) = ap (λ (c : Bool). c || list_any is_nul (take more rest)) is in
        ap (λ (l : List ℕ). list_any is_nul l) next ∙ head ∙ so

pub told_path : (page : ℕ → ℕ) (bytes : List ℕ) → length bytes ≤ MAXPATHLEN → position_or_len is_nul bytes < length bytes →
    ((i : ℕ) → i < position_or_len is_nul bytes + 1 → page i ≡ slice_index bytes i) → HasPath page (before_first is_nul bytes)
told_path page bytes few ended same = record {
  short = omega (arith, long, few, ended);
  bytes = λ k below.
      let within : k < position_or_len is_nul bytes = omega (arith, below, long) in
      let reaches : k < position_or_len is_nul bytes + 1 = omega (arith, within) in
      same k reaches ∙ sym (get_or-take (position_or_len is_nul bytes) bytes k 0 within);
  ends = ap page long ∙ same (position_or_len is_nul bytes) (omega arith) ∙ nul_there;
  no_nul = none_before bytes;
}
  where
    long : length (before_first is_nul bytes) ≡ position_or_len is_nul bytes
    long = length-prefix_len (λ b. not (is_nul b)) bytes

    nul_there : slice_index bytes (position_or_len is_nul bytes) ≡ 0
    nul_there = let is = passes_at_first is_nul bytes 0 ended in grind (arith, nat_tests, is)
