-- A word of the bitmap has at each place the bit of a block, the lowest byte's first.
use Rattle.std.proofs.Common.{◌≡◌, ◌∙◌, ◌+◌, ◌*◌, ◌/◌, ◌%◌, ◌^◌, ◌<◌, ◌==◌, ◌&&◌, ℕ, zero, suc, Bool}
use Rattle.std.proofs.Common.{[], ◌∷◌, sym, ap, arith, pow-suc}
use Rattle.std.specs.Prelude.{nat_lt}
use Rattle.std.specs.Int.{bit_at, from_le_bytes, w32}
use Rattle.std.proofs.lemmas.Nat.Bits.{bit_at_lowest, bit_at-suc}
use Rattle.jos_base.specs.Words.{word_at}
use Rattle.fs_layout.specs.DiskImage.{is_marked_free}
use Rattle.fs_changes.specs.ChangePlans.{bitmap_word, is_free_bit}

-- ---- a word of four bytes

four-bytes : (a b c d : ℕ) → from_le_bytes w32 (a ∷ b ∷ c ∷ d ∷ []) ≡ a + 256 * (b + 256 * (c + 256 * d))
four-bytes a b c d = omega arith

half-add : (n m : ℕ) → (n + 2 * m) / 2 ≡ n / 2 + m
half-add n m = omega arith

rest-add : (n m : ℕ) → (n + 2 * m) % 2 ≡ n % 2
rest-add n m = omega arith

twice : (j r : ℕ) → 2 ^ suc j * r ≡ 2 * (2 ^ j * r)
twice j r = let p : 2 ^ suc j ≡ 2 * 2 ^ j = twice-weight j in ap (λ n. n * r) p ∙ moved (2 ^ j) r
  where
    twice-weight : (j : ℕ) → 2 ^ suc j ≡ 2 * 2 ^ j
    twice-weight j = let p = pow-suc 2 j in omega (arith, p)

    moved : (p r : ℕ) → 2 * p * r ≡ 2 * (p * r)
    moved p r = grind arith

-- the bits below a weight are those of what is below it
low-bit : (j k a r : ℕ) → k < j → bit_at (a + 2 ^ j * r) k ≡ bit_at a k
low-bit zero k a r lt = absurd (omega arith)
low-bit (suc j) zero a r lt =
    ap (λ n. bit_at (a + n) 0) (twice j r) ∙ bit_at_lowest (a + 2 * (2 ^ j * r)) ∙ rest-add a (2 ^ j * r) ∙ sym (bit_at_lowest a)
low-bit (suc j) (suc k) a r lt =
    ap (λ n. bit_at (a + n) (suc k)) (twice j r) ∙ bit_at-suc (a + 2 * (2 ^ j * r)) k
    ∙ ap (λ n. bit_at n k) (half-add a (2 ^ j * r)) ∙ low-bit j k (a / 2) r (omega arith) ∙ sym (bit_at-suc a k)

byte-bit : (a r k : ℕ) → k < 8 → bit_at (a + 256 * r) k ≡ bit_at a k
byte-bit a r k lt = low-bit 8 k a r lt

-- the bits of a byte and of what stands behind it
behind-bit : (n k : ℕ) → bit_at n (8 + k) ≡ bit_at (n / 256) k
behind-bit n k =
    ap (bit_at n) (eight k)
    ∙ bit_at-suc n (suc (suc (suc (suc (suc (suc (suc k))))))) ∙ bit_at-suc (n / 2) (suc (suc (suc (suc (suc (suc k))))))
    ∙ bit_at-suc (n / 2 / 2) (suc (suc (suc (suc (suc k))))) ∙ bit_at-suc (n / 2 / 2 / 2) (suc (suc (suc (suc k))))
    ∙ bit_at-suc (n / 2 / 2 / 2 / 2) (suc (suc (suc k))) ∙ bit_at-suc (n / 2 / 2 / 2 / 2 / 2) (suc (suc k))
    ∙ bit_at-suc (n / 2 / 2 / 2 / 2 / 2 / 2) (suc k) ∙ bit_at-suc (n / 2 / 2 / 2 / 2 / 2 / 2 / 2) k
    ∙ ap (λ m. bit_at m k) (halves n)
  where
    eight : (k : ℕ) → 8 + k ≡ suc (suc (suc (suc (suc (suc (suc (suc k)))))))
    eight k = omega arith

    halves : (n : ℕ) → n / 2 / 2 / 2 / 2 / 2 / 2 / 2 / 2 ≡ n / 256
    halves n = omega arith

next-byte : (a r k : ℕ) → a < 256 → bit_at (a + 256 * r) (8 + k) ≡ bit_at r k
next-byte a r k small = behind-bit (a + 256 * r) k ∙ ap (λ m. bit_at m k) (rest a r small)
  where
    rest : (a r : ℕ) → a < 256 → (a + 256 * r) / 256 ≡ r
    rest a r small = omega arith

-- ---- the bit of a block

twice-eight : (r : ℕ) → 16 + r ≡ 8 + (8 + r)
twice-eight r = omega arith

thrice-eight : (r : ℕ) → 24 + r ≡ 8 + (8 + (8 + r))
thrice-eight r = omega arith

plain : (at : ℕ) → at ≡ at + 0
plain at = omega arith

bit-in-word : (byte : ℕ → ℕ) (at q r : ℕ) → ((p : ℕ) → byte p < 256) → q < 4 → r < 8 →
    bit_at (word_at byte at) (8 * q + r) ≡ bit_at (byte (at + q)) r
bit-in-word byte at zero r small q_lt r_lt =
    ap (bit_at (word_at byte at)) (none r)
    ∙ ap (λ n. bit_at n r) (four-bytes (byte at) (byte (at + 1)) (byte (at + 2)) (byte (at + 3)))
    ∙ byte-bit (byte at) (byte (at + 1) + 256 * (byte (at + 2) + 256 * byte (at + 3))) r r_lt
    ∙ ap (λ p. bit_at (byte p) r) (plain at)
  where
    none : (r : ℕ) → 0 + r ≡ r
    none r = omega arith
bit-in-word byte at (suc zero) r small q_lt r_lt =
    ap (λ n. bit_at n (8 + r)) (four-bytes (byte at) (byte (at + 1)) (byte (at + 2)) (byte (at + 3)))
    ∙ next-byte (byte at) (byte (at + 1) + 256 * (byte (at + 2) + 256 * byte (at + 3))) r (small at)
    ∙ byte-bit (byte (at + 1)) (byte (at + 2) + 256 * byte (at + 3)) r r_lt
bit-in-word byte at (suc (suc zero)) r small q_lt r_lt =
    ap (bit_at (word_at byte at)) (twice-eight r)
    ∙ ap (λ n. bit_at n (8 + (8 + r))) (four-bytes (byte at) (byte (at + 1)) (byte (at + 2)) (byte (at + 3)))
    ∙ next-byte (byte at) (byte (at + 1) + 256 * (byte (at + 2) + 256 * byte (at + 3))) (8 + r) (small at)
    ∙ next-byte (byte (at + 1)) (byte (at + 2) + 256 * byte (at + 3)) r (small (at + 1))
    ∙ byte-bit (byte (at + 2)) (byte (at + 3)) r r_lt
bit-in-word byte at (suc (suc (suc zero))) r small q_lt r_lt =
    ap (bit_at (word_at byte at)) (thrice-eight r)
    ∙ ap (λ n. bit_at n (8 + (8 + (8 + r)))) (four-bytes (byte at) (byte (at + 1)) (byte (at + 2)) (byte (at + 3)))
    ∙ next-byte (byte at) (byte (at + 1) + 256 * (byte (at + 2) + 256 * byte (at + 3))) (8 + (8 + r)) (small at)
    ∙ next-byte (byte (at + 1)) (byte (at + 2) + 256 * byte (at + 3)) (8 + r) (small (at + 1))
    ∙ next-byte (byte (at + 2)) (byte (at + 3)) r (small (at + 2))
bit-in-word byte at (suc (suc (suc (suc q)))) r small q_lt r_lt = absurd (omega (arith, q_lt))

pub word-bit : (byte : ℕ → ℕ) (word k : ℕ) → ((p : ℕ) → byte p < 256) → k < 32 →
    bit_at (word_at byte (bitmap_word word)) k ≡ bit_at (byte (8192 + (32 * word + k) / 8)) ((32 * word + k) % 8)
word-bit byte word k small lt =
    ap (bit_at (word_at byte (bitmap_word word))) (split k)
    ∙ bit-in-word byte (bitmap_word word) (k / 8) (k % 8) small (quarter k lt) (rest k)
    ∙ ap (λ p. bit_at (byte p) (k % 8)) (place word k)
    ∙ ap (bit_at (byte (8192 + (32 * word + k) / 8))) (inside word k)
  where
    split : (k : ℕ) → k ≡ 8 * (k / 8) + k % 8
    split k = omega arith

    quarter : (k : ℕ) → k < 32 → k / 8 < 4
    quarter k lt = omega arith

    rest : (k : ℕ) → k % 8 < 8
    rest k = omega arith

    place : (word k : ℕ) → 8192 + 4 * word + k / 8 ≡ 8192 + (32 * word + k) / 8
    place word k = omega arith

    inside : (word k : ℕ) → k % 8 ≡ (32 * word + k) % 8
    inside word k = omega arith

-- a block below the count that is marked free
abbrev pub is_free_block : (ℕ → ℕ) → ℕ → ℕ → Bool
is_free_block byte count block = is_marked_free byte block && nat_lt block count

pub free-bit : (byte : ℕ → ℕ) (count word k : ℕ) → ((p : ℕ) → byte p < 256) → k < 32 →
    is_free_bit count word (word_at byte (bitmap_word word)) k ≡ is_free_block byte count (32 * word + k)
free-bit byte count word k small lt = ap (λ n. (n == 1) && nat_lt (32 * word + k) count) (word-bit byte word k small lt)
