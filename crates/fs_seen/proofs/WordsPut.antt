-- A word that is put into a page: it stands there, the words beside it stay, and the page's bytes are those that are stored.
use Rattle.std.proofs.Common.{◌≡◌, ◌∙◌, ◌⊎◌, ◌+◌, ◌-◌, ◌^◌, ◌<◌, ◌≤◌, ◌&&◌, inl, inr, ℕ, Bool, true, false, List, [], ◌∷◌, length}
use Rattle.std.proofs.Common.{refl, ap, arith, if◌then◌else◌}
use Rattle.std.proofs.lemmas.Bool.Decides.{nat_tests}
use Rattle.std.proofs.lemmas.List.{get_or-set_other}
use Rattle.std.proofs.lemmas.Nat.{from_le_bytes-to_le_bytes_4}
use Rattle.std.specs.Prelude.{nat_le, nat_lt, slice_index, slice_set}
use Rattle.std.specs.Int.{w32, to_le_bytes, from_le_bytes}
use Rattle.jos_base.specs.Words.{word_at}
use Rattle.lib_os.proofs.BytesPut.{bytes_put, put_before, put_there}
use Rattle.fs_acts.specs.BlockActs.{put_word, stored, with_bytes}

-- what stands behind bytes that are put stays
put_behind : (page : List ℕ) (at : ℕ) (bytes : List ℕ) (i : ℕ) → at + length bytes ≤ i → slice_index (bytes_put page at bytes) i ≡ slice_index page i
unfolding bytes_put
put_behind page at [] i past = refl
put_behind page at (byte ∷ rest) i past =
    put_behind (slice_set page at byte) (at + 1) rest i (omega (arith, past))
    ∙ get_or-set_other page at i byte 0 (λ same. absurd (omega (arith, past, same)))

module _ (page : List ℕ) (at word : ℕ) where
  abbrev pub put : List ℕ
  put = bytes_put page at (to_le_bytes w32 word)

  -- beside it
  byte_beside : (i : ℕ) → (i < at) ⊎ (at + 4 ≤ i) → slice_index put i ≡ slice_index page i
  byte_beside i (inl before) = put_before page at (to_le_bytes w32 word) i before
  byte_beside i (inr behind) = put_behind page at (to_le_bytes w32 word) i behind

  pub word_beside : (j : ℕ) → (j + 4 ≤ at) ⊎ (at + 4 ≤ j) → word_at (slice_index put) j ≡ word_at (slice_index page) j
  word_beside j (inl before) =
      λ i. from_le_bytes w32 (byte_beside j (inl (omega (arith, before))) i ∷ byte_beside (j + 1) (inl (omega (arith, before))) i
      ∷ byte_beside (j + 2) (inl (omega (arith, before))) i ∷ byte_beside (j + 3) (inl (omega (arith, before))) i ∷ [])
  word_beside j (inr behind) =
      λ i. from_le_bytes w32 (byte_beside j (inr (omega (arith, behind))) i ∷ byte_beside (j + 1) (inr (omega (arith, behind))) i
      ∷ byte_beside (j + 2) (inr (omega (arith, behind))) i ∷ byte_beside (j + 3) (inr (omega (arith, behind))) i ∷ [])

  module _ (fits : at + 4 ≤ length page) where
    byte_here : (i : ℕ) → i < 4 → slice_index put (at + i) ≡ slice_index (to_le_bytes w32 word) i
    byte_here i lt = put_there page at (to_le_bytes w32 word) i lt fits

    pub word_here : word < 2 ^ 32 → word_at (slice_index put) at ≡ word
    word_here small =
        let none : at ≡ at + 0 = omega arith in
        let first : slice_index put at ≡ slice_index (to_le_bytes w32 word) 0 = ap (slice_index put) none ∙ byte_here 0 (omega arith) in
        (λ i. from_le_bytes w32 (first i ∷ byte_here 1 (omega arith) i ∷ byte_here 2 (omega arith) i ∷ byte_here 3 (omega arith) i ∷ []))
        ∙ from_le_bytes-to_le_bytes_4 word small

    -- the bytes as they are stored
    pub put_stored : slice_index put ≡ stored (put_word at word) (slice_index page)
    unfolding stored with_bytes
    put_stored = λ i q. by_low q (nat_le at q) refl (nat_lt q (at + 4)) refl i
      where
        by_low : (q : ℕ) (low : Bool) → nat_le at q ≡ low → (high : Bool) → nat_lt q (at + 4) ≡ high →
            slice_index put q ≡ (if low && high then slice_index (to_le_bytes w32 word) (q - at) else slice_index page q)
        by_low q false low high is = byte_beside q (inl (grind (arith, nat_tests)))
        by_low q true low false is = byte_beside q (inr (grind (arith, nat_tests)))
        by_low q true low true is =
            let least : at ≤ q = grind (arith, nat_tests) in
            let most : q < at + 4 = grind (arith, nat_tests) in
            let there : q ≡ at + (q - at) = omega (arith, least) in
            ap (slice_index put) there ∙ byte_here (q - at) (omega (arith, least, most))
