-- How often a frame is counted: each page that names it is one of a directory, and each directory is that of a slot; so no more pages
-- name it than all slots can have, and its count is a word.
use Rattle.std.proofs.Common.{◌≡◌, ◌∙◌, ◌+◌, ◌*◌, ◌<◌, ◌≤◌, ◌^◌, inl, inr, ℕ, zero, suc, Bool, true, false, refl, sym, ap, arith}
use Rattle.std.specs.Prelude.{Option, Some, None}
use Rattle.jos_base.specs.declared.numbers.TheConstants.{NENV}
use Rattle.jos_base.specs.Counting.{total, named, page_count, frame_limit, page_limit}
use Rattle.jos_base.specs.Environments.{is_live}
use Rattle.jos_base.specs.KernelState.{KernelState, slot_at}
use Rattle.jos_base.specs.Reach.{Entry}
use Rattle.jos_base.specs.SpacesState.{SpacesState, page, is_directory, directories, own_count, reference_count}
use Rattle.jos_base.proofs.Counts.{named_is}
use Rattle.jos_base.proofs.Sums.{total-le, total-mono, total-none, total-one, total-ones, total-swap}
use Rattle.lib_os.specs.InOrder.{IsInOrder}
use Rattle.lib_os.proofs.Sums.{is_at, is_at-here, at_most_once}

-- a sum of numbers, each of which is no more than so many times another
total_times : (n c : ℕ) (g h : ℕ → ℕ) → ((q : ℕ) → g q ≤ c * h q) → total n g ≤ c * total n h
unfolding total
total_times zero c g h each = omega arith
total_times (suc n) c g h each =
    let rest = total_times n c g h each in
    let here = each n in
    let e : c * (total n h + h n) ≡ c * total n h + c * h n = grind arith in
    omega (arith, rest, here, e)

named_once : (f : ℕ) (o : Option Entry) → named f o ≤ 1
named_once f None = omega arith
named_once f (Some e) = elim (named_is f e) [ inl h ↦ let one = h.1 in omega (arith, one) | inr h ↦ let none = h.1 in omega (arith, none) ]

module _ (k : KernelState) (in_order : IsInOrder k) (within : (n : ℕ) → is_live (slot_at k n) ≡ true → n < NENV) where
  abbrev s : SpacesState
  s = k.spaces

  abbrev home : ℕ → ℕ
  home n = (slot_at k n).directory

  -- how many slots have this directory
  abbrev homes : ℕ → ℕ
  homes d = total NENV (λ n. is_at (Some (home n)) (0 + d))

  -- how many pages of a directory name a frame
  abbrev row : ℕ → ℕ → ℕ
  row f d = total 977920 (λ p. named f (s.entries d p))

  homes_all : total 65536 homes ≤ NENV
  homes_all =
      let swapped = total-swap 65536 NENV (λ d n. is_at (Some (home n)) (0 + d)) in
      let each = total-mono NENV (λ n. total 65536 (λ d. is_at (Some (home n)) (0 + d))) (λ n. 1)
      (λ n lt. at_most_once 65536 0 (Some (home n))) in
      let ones = total-ones NENV in
      omega (arith, swapped, each, ones)

  home_there : (d : ℕ) → directories s d ≡ true → 1 ≤ homes d
  home_there d is =
      let owner = in_order.spaces.owned d is in
      let one = total-one NENV owner.0 (λ n. is_at (Some (home n)) (0 + d)) (within owner.0 owner.1) in
      let at = owner.2 in
      let here = is_at-here (Some (home owner.0)) (0 + d) (home owner.0) refl (omega (arith, at)) in
      omega (arith, one, here)

  row_small : (f d : ℕ) → row f d ≤ 977920 * homes d
  row_small f d = by_use (directories s d) refl
    where
      unowned : directories s d ≡ false → (p : ℕ) (o : Option Entry) → s.entries d p ≡ o → named f o ≡ 0
      unowned other p None is = refl
      unowned other p (Some x) is = absurd (let contradiction : true ≡ false = sym (ap is_directory (in_order.frames.owners d p x is)) ∙ other in cc)

      by_use : (b : Bool) → directories s d ≡ b → row f d ≤ 977920 * homes d
      by_use true is =
          let all : row f d ≤ 977920 * 1 = total-le 977920 1 (λ p. named f (s.entries d p)) (λ p. named_once f (s.entries d p)) in
          let some = home_there d is in
          omega (arith, all, some)
      by_use false other =
          let none : row f d ≡ 0 = total-none 977920 (λ p. named f (s.entries d p)) (λ p lt. unowned other p (s.entries d p) refl) in
          omega (arith, none)

  pages_counted : (f : ℕ) → page_count s.entries f ≤ 977920 * 1024
  unfolding page_count frame_limit page_limit
  pages_counted f =
      let rows : total 65536 (row f) ≤ 977920 * total 65536 homes = total_times 65536 977920 (row f) homes (row_small f) in
      let all = homes_all in
      let small : total 65536 (row f) ≤ 977920 * 1024 = omega (arith, rows, all) in
      small

  -- the count of a page's frame is a word
  pub frame_counted : (f : ℕ) → k.spaces.uses f ≡ page → reference_count k.spaces f < 2 ^ 32
  frame_counted f is =
      let own : own_count (s.uses f) ≡ 0 = ap own_count is in
      let pages = pages_counted f in
      omega (arith, own, pages)
