-- The bytes of a disk's blocks where a block of its file is written over: that block has the new bytes, every other has its own, and
-- the file is as long as it was.
use Rattle.std.proofs.Common.{◌≡◌, ◌∙◌, ◌+◌, ◌-◌, ◌*◌, ◌<◌, ◌≤◌, ◌++◌, inl, inr, ℕ, Bool, true, false, List, length}
use Rattle.std.proofs.Common.{refl, sym, ap, arith, if◌then◌else◌}
use Rattle.std.specs.Prelude.{take, drop, slice_index, ◌==◌}
use Rattle.std.proofs.lemmas.Bool.{cases_lt}
use Rattle.std.proofs.lemmas.Bool.Decides.{nat_tests}
use Rattle.std.proofs.lemmas.List.{length-append, length-take-le, length-drop, get_or_append_left, get_or-append_right, get_or-take, get_or-drop, ext_get_or}
use Rattle.jos_base.specs.Below.{values_below}
use Rattle.jos_base.specs.Words.{upd}
use Rattle.jos_base.proofs.Below.{length-values, get_or-values}
use Rattle.jos_host.specs.Files.{overwritten}
use Rattle.fs_layout.specs.declared.numbers.TheConstants.{BLKSIZE}
use Rattle.lib_os.specs.Disk.{block_in}

-- ---- the values below a count

-- they are a list with the same values
pub below_is : (n : ℕ) (f : ℕ → ℕ) (xs : List ℕ) → length xs ≡ n → ((k : ℕ) → k < n → f k ≡ slice_index xs k) → values_below n f ≡ xs
below_is n f xs long is =
    ext_get_or 0 (values_below n f) xs (length-values n f ∙ sym long)
    (λ k lt.
    let below : k < n = omega (arith, lt, length-values n f) in
    get_or-values n f k 0 below ∙ is k below)

-- ---- a file that is written over

module _ (file : List ℕ) (at : ℕ) (bytes : List ℕ) (within : at ≤ length file) where
  front_length : length (take at file ++ bytes) ≡ at + length bytes
  front_length = length-append (take at file) bytes ∙ ap (λ (n : ℕ). n + length bytes) (length-take-le at file within)

  -- what is written stands there
  pub over_there : (k : ℕ) → k < length bytes → slice_index (overwritten file at bytes) (at + k) ≡ slice_index bytes k
  over_there k lt =
      let long = front_length in
      let place : at + k - at ≡ k = omega arith in
      get_or_append_left (take at file ++ bytes) (drop (at + length bytes) file) 0 (at + k) (omega (arith, long, lt))
      ∙ get_or-append_right (take at file) bytes at (at + k) 0 (length-take-le at file within) (omega arith)
      ∙ ap (slice_index bytes) place

  -- what stands before it stays
  pub over_before : (i : ℕ) → i < at → slice_index (overwritten file at bytes) i ≡ slice_index file i
  over_before i lt =
      let long = front_length in
      let first = length-take-le at file within in
      get_or_append_left (take at file ++ bytes) (drop (at + length bytes) file) 0 i (omega (arith, long, lt))
      ∙ get_or_append_left (take at file) bytes 0 i (omega (arith, first, lt))
      ∙ get_or-take at file i 0 lt

  -- and what stands behind it
  pub over_behind : (i : ℕ) → at + length bytes ≤ i → slice_index (overwritten file at bytes) i ≡ slice_index file i
  over_behind i past =
      let place : at + length bytes + (i - (at + length bytes)) ≡ i = omega (arith, past) in
      get_or-append_right (take at file ++ bytes) (drop (at + length bytes) file) (at + length bytes) i 0 front_length past
      ∙ get_or-drop (at + length bytes) file (i - (at + length bytes)) 0
      ∙ ap (slice_index file) place

  over_length : at + length bytes ≤ length file → length (overwritten file at bytes) ≡ length file
  over_length fits =
      let all = length-append (take at file ++ bytes) (drop (at + length bytes) file) in
      let front = front_length in
      let last = length-drop (at + length bytes) file in
      omega (arith, all, front, last, fits)

-- ---- a block that is written over

module _ (file : List ℕ) (b : ℕ) (bytes : List ℕ) (block : length bytes ≡ BLKSIZE) (fits : BLKSIZE * (b + 1) ≤ length file) where
  starts : BLKSIZE * b ≤ length file
  starts = omega (arith, fits)

  -- it has the new bytes
  written_block : block_in (overwritten file (BLKSIZE * b) bytes) b ≡ bytes
  unfolding block_in
  written_block =
      below_is BLKSIZE (λ k. slice_index (overwritten file (BLKSIZE * b) bytes) (BLKSIZE * b + k)) bytes block
      (λ k lt. over_there file (BLKSIZE * b) bytes starts k (omega (arith, block, lt)))

  -- another keeps its own
  other_block : (n : ℕ) → (n ≡ b → ⊥) → block_in (overwritten file (BLKSIZE * b) bytes) n ≡ block_in file n
  unfolding block_in
  other_block n other =
      let now = overwritten file (BLKSIZE * b) bytes in
      let before = λ (k : ℕ). slice_index file (BLKSIZE * n + k) in
      below_is BLKSIZE (λ k. slice_index now (BLKSIZE * n + k)) (values_below BLKSIZE before) (length-values BLKSIZE before)
      (λ k lt. same k lt ∙ sym (get_or-values BLKSIZE before k 0 lt))
    where
      same : (k : ℕ) → k < BLKSIZE → slice_index (overwritten file (BLKSIZE * b) bytes) (BLKSIZE * n + k) ≡ slice_index file (BLKSIZE * n + k)
      same k lt = elim (cases_lt n b) [
        | inl less ↦ over_before file (BLKSIZE * b) bytes starts (BLKSIZE * n + k) (omega (arith, less, lt))
        | inr more ↦
            let past : b + 1 ≤ n = grind (arith, other, more) in
            over_behind file (BLKSIZE * b) bytes starts (BLKSIZE * n + k) (omega (arith, past, block))
      ]

  -- So the blocks change at one number,
  pub blocks_written : (n : ℕ) → block_in (overwritten file (BLKSIZE * b) bytes) n ≡ upd (block_in file) b bytes n
  unfolding upd
  blocks_written n = by_test (n == b) refl
    where
      by_test : (t : Bool) → (n == b) ≡ t → block_in (overwritten file (BLKSIZE * b) bytes) n ≡ (if t then bytes else block_in file n)
      by_test true test =
          let same : n ≡ b = grind (arith, nat_tests) in
          ap (block_in (overwritten file (BLKSIZE * b) bytes)) same ∙ written_block
      by_test false test = other_block n (λ same. grind (arith, nat_tests, same, test))

  -- and the file keeps its length.
  pub written_length : length (overwritten file (BLKSIZE * b) bytes) ≡ length file
  written_length = over_length file (BLKSIZE * b) bytes starts (omega (arith, block, fits))
