-- Lists of tests by the first that fails, and lists of bytes that are copied word by word.
use Rattle.std.proofs.Common.{◌≡◌, ◌≢◌, ◌∙◌, ◌+◌, ◌≤◌, ◌++◌, ℕ, true, false, List, ◌∷◌, [], length, None, Option, sym, ap, true≢false, arith}
use Rattle.std.specs.Int.{w32, from_le_bytes, to_le_bytes}
use Rattle.std.specs.Prelude.{drop, is_none, slice_index, take}
use Rattle.std.proofs.lemmas.List.{get_or-drop, length-drop, length-take-le}
use Rattle.std.proofs.lemmas.Nat.{le_bytes_4}
use Rattle.std.proofs.Math.Seq.{take-add}
use Rattle.jos_base.specs.Words.{word_at}
use Rattle.jos_elf.specs.declared.fault.ElfFault.{ElfFault}
use Rattle.jos_elf.specs.Tests.{FaultTest, first_failed}
use Rattle.lib_os.specs.Rows.{AreBytes}
use Rattle.lib_os.proofs.BytesDelivered.{take_four}
use Rattle.lib_os.proofs.PageBytes.{bytes_drop, bytes_take}
use Rattle.lib_image.specs.WordLaws.{all_pass}

-- ---- tests

pub failed_some : (tests : List FaultTest) → all_pass tests ≡ false → first_failed tests ≢ None
failed_some tests fails none = true≢false (sym (ap (λ (o : Option ElfFault). is_none o) none) ∙ fails)

-- ---- bytes

module _ (bytes : List ℕ) (at : ℕ) (small : AreBytes bytes) (within : at + 4 ≤ length bytes) where
  next_four : take 4 (drop at bytes) ≡ slice_index bytes at ∷ slice_index bytes (at + 1) ∷ slice_index bytes (at + 2) ∷ slice_index bytes (at + 3) ∷ []
  next_four =
      let long = length-drop at bytes in
      let none : at + 0 ≡ at = omega arith in
      let zeroth = get_or-drop at bytes 0 0 ∙ ap (slice_index bytes) none in
      let one = get_or-drop at bytes 1 0 in
      let two = get_or-drop at bytes 2 0 in
      let three = get_or-drop at bytes 3 0 in
      take_four (drop at bytes) (omega (arith, within, long)) ∙ (λ i. zeroth i ∷ one i ∷ two i ∷ three i ∷ [])

  word_of_them : to_le_bytes w32 (word_at (slice_index bytes) at) ≡ take 4 (drop at bytes)
  word_of_them =
      let long = length-drop at bytes in
      le_bytes_4 (take 4 (drop at bytes)) (word_at (slice_index bytes) at) (length-take-le 4 (drop at bytes) (omega (arith, within, long)))
      (bytes_take 4 (drop at bytes) (bytes_drop at bytes small)) (ap (from_le_bytes w32) (sym next_four))

  -- behind those before it, the word that stands at a place
  pub word_copied : take at bytes ++ to_le_bytes w32 (word_at (slice_index bytes) at) ≡ take (at + 4) bytes
  word_copied = ap (λ (l : List ℕ). take at bytes ++ l) word_of_them ∙ sym (take-add at 4 bytes)
