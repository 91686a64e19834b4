-- What the test of one block gives.
use Rattle.std.proofs.Common.{◌≡◌, ℕ, ◌<◌, ◌≤◌, Bool, true, false, List, length, get_or, set, Ok, Err, refl, sym, ap, arith, inl, inr}
use Rattle.std.specs.Prelude.{◌==◌, nat_le, nat_lt, if◌then◌else◌}
use Rattle.std.proofs.lemmas.List.{get_or-set_other, get_or-set_same}
use Rattle.std.proofs.lemmas.Bool.{ltb-true, and_parts}
use Rattle.std.proofs.lemmas.Bool.Decides.{eqb_tells}
use Rattle.jos_base.specs.Words.{upd}
use Rattle.fs_layout.specs.DiskImage as image
use Rattle.fs_image.specs.Answers.{blocks_in}

ext : {X Y : Type 0} → (f g : X → Y) → ((x : X) → f x ≡ g x) → f ≡ g
ext f g h = λ i. λ x. h x i

marked_at : (l : List Bool) (b q : ℕ) → b < length l → get_or (set l b true) q false ≡ (if q == b then true else get_or l q false)
marked_at l b q h =
    elim (eqb_tells q b) [
      | inl same ↦ rw (same.0, same.1) (get_or-set_same l b true false h)
      | inr other ↦ rw other.0 (get_or-set_other l b q true false other.1)
    ]

pub marked : (l : List Bool) (b : ℕ) → b < length l → blocks_in (set l b true) ≡ upd (blocks_in l) b true
unfolding blocks_in upd
marked l b h = ext (blocks_in (set l b true)) (upd (blocks_in l) b true) (λ q. marked_at l b q h)

sees : (l : List Bool) (b : ℕ) → blocks_in l b ≡ get_or l b false
unfolding blocks_in
sees l b = refl

pub named_twice : (byte : ℕ → ℕ) (b : ℕ) (l : List Bool) → image.is_data_block (image.block_count byte) b ≡ true → get_or l b false ≡ true → image.block_test byte b (blocks_in l) ≡ Err (image.NamedTwice b)
unfolding image.block_test image.in_turn blocks_in
named_twice byte b l d e = rw (d, e) refl

pub marked_free : (byte : ℕ → ℕ) (b : ℕ) (l : List Bool) → image.is_data_block (image.block_count byte) b ≡ true → get_or l b false ≡ false → image.is_marked_free byte b ≡ true → image.block_test byte b (blocks_in l) ≡ Err (image.MarkedFree b)
unfolding image.block_test image.in_turn blocks_in
marked_free byte b l d e f = rw (d, e, f) refl

below_count : (blocks b : ℕ) → image.is_data_block blocks b ≡ true → b < blocks
below_count blocks b e = ltb-true b blocks (and_parts (nat_le (image.first_data_block blocks) b) (nat_lt b blocks) e).1

le_through : (b n m : ℕ) → b < n → n ≤ m → b < m
le_through b n m h k = omega arith

pub block_passed : (byte : ℕ → ℕ) (b : ℕ) (l : List Bool) → image.is_data_block (image.block_count byte) b ≡ true → get_or l b false ≡ false → image.is_marked_free byte b ≡ false → image.block_count byte ≤ length l → image.block_test byte b (blocks_in l) ≡ Ok (blocks_in (set l b true))
unfolding image.block_test image.in_turn
block_passed byte b l d e f h =
    rw d (rw (sees l b, e, f) (ap Ok (sym (marked l b (le_through b (image.block_count byte) (length l) (below_count (image.block_count byte) b d) h)))))
