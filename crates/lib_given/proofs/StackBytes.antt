-- Bytes that lie over others in a page: behind others that do, in front of them, beside them, and as zeros where there are zeros.
use Rattle.std.proofs.Common.{◌≡◌, ◌∙◌, ◌+◌, ◌<◌, ◌≤◌, ◌++◌, ◌-◌, ℕ, List, length, replicate, drop, sym, ap, arith}
use Rattle.std.proofs.lemmas.List.{drop-replicate, length-replicate, places, replicate-append-replicate, same_lists, take-replicate}
use Rattle.jos_base.specs.declared.numbers.TheConstants.{PGSIZE}
use Rattle.jos_base.specs.SpacesState.{overlaid, zero_page}
use Rattle.lib_os.proofs.PageBytes.{zero_page_whole}

module _ (page first second : List ℕ) (at next : ℕ) (joined : next ≡ at + length first) (fits : next + length second ≤ length page) where
  -- the second lie behind the first
  pub overlaid_more : overlaid (overlaid page at first) next second ≡ overlaid page at (first ++ second)
  overlaid_more = same_lists _ _ (grind (arith, places, joined, fits)) (λ k d lt. grind (arith, places, joined, fits, lt))

  -- the first are put in front of the second
  pub overlaid_joined : overlaid (overlaid page next second) at first ≡ overlaid page at (first ++ second)
  overlaid_joined = same_lists _ _ (grind (arith, places, joined, fits)) (λ k d lt. grind (arith, places, joined, fits, lt))

-- the first lie in front of the second, whichever are put last
pub overlaid_apart : (page first second : List ℕ) (at next : ℕ) → at + length first ≤ next → next + length second ≤ length page →
    overlaid (overlaid page at first) next second ≡ overlaid (overlaid page next second) at first
overlaid_apart page first second at next apart fits =
    same_lists _ _ (grind (arith, places, apart, fits)) (λ k d lt. grind (arith, places, apart, fits, lt))

-- ---- zeros

-- as many as a page has
pub zero_long : length zero_page ≡ PGSIZE
zero_long = zero_page_whole.long

-- zeros over zeros
zeros_among : (all many at : ℕ) → at + many ≤ all → overlaid (replicate all 0) at (replicate many 0) ≡ replicate all 0
zeros_among all many at fits =
    let long : length {A = ℕ} (replicate many 0) ≡ many = length-replicate many 0 in
    let behind : drop (at + length {A = ℕ} (replicate many 0)) (replicate all 0) ≡ replicate (all - (at + many)) 0 =
    ap (λ (m : ℕ). drop (at + m) (replicate all 0)) long ∙ drop-replicate (at + many) all 0 in
    let each : at + (many + (all - (at + many))) ≡ all = omega (arith, fits) in
    (λ i. take-replicate at all 0 (omega (arith, fits)) i ++ (replicate many 0 ++ behind i))
    ∙ ap (λ (l : List ℕ). replicate at 0 ++ l) (replicate-append-replicate many (all - (at + many)) 0)
    ∙ replicate-append-replicate at (many + (all - (at + many))) 0
    ∙ ap (λ (m : ℕ). replicate m 0) each

zeros_over : (many at : ℕ) → at + many ≤ PGSIZE → overlaid zero_page at (replicate many 0) ≡ zero_page
unfolding zero_page
zeros_over many at fits = zeros_among PGSIZE many at fits

-- in front of bytes
pub zeros_before : (bytes : List ℕ) (many at from : ℕ) → at + many ≤ from → from + length bytes ≤ PGSIZE →
    overlaid (overlaid zero_page from bytes) at (replicate many 0) ≡ overlaid zero_page from bytes
zeros_before bytes many at from before fits =
    let long = zero_long in
    let zeros : length {A = ℕ} (replicate many 0) ≡ many = length-replicate many 0 in
    sym (overlaid_apart zero_page (replicate many 0) bytes at from (omega (arith, zeros, before)) (omega (arith, long, fits)))
    ∙ ap (λ (l : List ℕ). overlaid l from bytes) (zeros_over many at (omega (arith, before, fits)))
