-- Input that is taken piece by piece.
use Rattle.std.proofs.Common.{◌≡◌, ℕ, ◌+◌, ◌-◌, ◌<◌, ◌≤◌, suc, List, ◌++◌, length, take, drop, Option, Some, None, Ok, Err}
use Rattle.std.proofs.Common.{refl, sym, ap, subst, ◌∙◌, arith}
use Rattle.std.proofs.lemmas.List.{length-take-le, length-drop, take_at, drop-drop}
use Rattle.std.proofs.Math.Seq.{take-add}
use Rattle.std.specs.Option.{option_map}
use borrow.Rule.Slice.PartMut.{put_mid}
use Rattle.jos_host.specs.Told.{ReadsInput}
use Rattle.jos_base.specs.declared.numbers.TheConstants.{INPUT_MAX}
use Rattle.jos_cli.specs.declared.outcome.Which.TheVariants.{Input}
use Rattle.jos_cli.specs.Found.{IsInput}
use Rattle.jos_cli.specs.InputTaken.{HasTaken}
use Rattle.jos_cli.specs.Answer.{limit, input_within}
use Rattle.jos_cli.proofs.Reading.{within, past}
use Rattle.fs_layout.proofs.Written.{length-zeros}
use Rattle.jos_host.proofs.Filled.{filled-put_mid}
use Rattle.fs_layout.specs.Layout.{zeros}

-- ---- one more piece

module _ (E : Type 0) (mid new : Option (List ℕ)) (buffer rest part : List ℕ) (n k count : ℕ) (inside : n ≤ length buffer) (fits : count ≤ length part)
    (reads : ReadsInput {E = E} mid new rest part (Ok count)) where
  pub taken_more : (old : Option (List ℕ)) → HasTaken old mid buffer n → HasTaken old new (put_mid n k buffer part) (n + count)
  taken_more None h = subst (λ (m : Option (List ℕ)). ReadsInput {E = E} m new rest part (Ok count)) h reads
  taken_more (Some all) h =
      let took = subst (λ (m : Option (List ℕ)). ReadsInput {E = E} m new rest part (Ok count)) h.1 reads in
      let within : n ≤ length all = h.0 in
      let front : count ≤ length (drop n all) = took.2.front in
      let left : length (drop n all) ≡ length all - n = length-drop n all in
      let piece : take count part ≡ take count (drop n all) =
      ap (take count) took.2.taken ∙ take_at (take count (drop n all)) (drop count rest) count (length-take-le count (drop n all) front) in (
        omega arith,
        took.1 ∙ ap (λ l. Some l) (took.2.left ∙ drop-drop count n all),
        filled-put_mid n k count buffer part inside fits ∙ (λ i. h.2 i ++ piece i) ∙ sym (take-add n count all),
      )

-- ---- the limit

pub within_limit : (input : List ℕ) → length input ≤ INPUT_MAX → input_within input ≡ Ok input
within_limit input h = within INPUT_MAX Input 0 input h

pub past_limit : (input : List ℕ) → INPUT_MAX < length input → input_within input ≡ Err (limit Input)
past_limit input h = past INPUT_MAX Input 0 input h

-- the buffer is full
pub input_past : (old new : Option (List ℕ)) (buffer : List ℕ) (n : ℕ) → INPUT_MAX < n → HasTaken old new buffer n →
    (input : List ℕ) × IsInput old input × (input_within input ≡ Err (limit Input))
input_past None new buffer n over h =
    let long : length (zeros (suc INPUT_MAX)) ≡ suc INPUT_MAX = length-zeros (suc INPUT_MAX) in
    (zeros (suc INPUT_MAX), tt, past_limit (zeros (suc INPUT_MAX)) (omega arith))
input_past (Some all) new buffer n over h = let within : n ≤ length all = h.0 in (all, refl, past_limit all (omega arith))

pub left_past : (old new : Option (List ℕ)) (buffer : List ℕ) (n : ℕ) → n ≡ INPUT_MAX + 1 → HasTaken old new buffer n →
    new ≡ option_map (λ bytes. drop (INPUT_MAX + 1) bytes) old
left_past None new buffer n e h = h
left_past (Some all) new buffer n e h = h.1 ∙ ap (λ k. Some (drop k all)) e
