-- The bytes of an address that spawn has, lowest in a word: with the next byte they are one more, and the fourth makes them the whole word.
use Rattle.std.proofs.Common.{◌≡◌, ◌<◌, ◌++◌, ℕ, zero, suc, [], ◌∷◌, arith}
use Rattle.std.specs.Prelude.{take}
use Rattle.std.specs.Int.{w32, to_le_bytes, byte_at}
use Rattle.lib_given.specs.Addresses.{with_byte}

-- of two bytes
low_of_two : (word byte : ℕ) → byte < 256 → byte_at 0 (with_byte word 1 byte) ≡ byte_at 0 word
low_of_two word byte small = omega (arith, small)

high_of_two : (word byte : ℕ) → byte < 256 → byte_at 1 (with_byte word 1 byte) ≡ byte
high_of_two word byte small = omega (arith, small)

-- of three
low_of_three : (word byte : ℕ) → byte < 256 → byte_at 0 (with_byte word 2 byte) ≡ byte_at 0 word
low_of_three word byte small = omega (arith, small)

middle_of_three : (word byte : ℕ) → byte < 256 → byte_at 1 (with_byte word 2 byte) ≡ byte_at 1 word
middle_of_three word byte small = omega (arith, small)

high_of_three : (word byte : ℕ) → byte < 256 → byte_at 2 (with_byte word 2 byte) ≡ byte
high_of_three word byte small = omega (arith, small)

-- of four
first_of_four : (word byte : ℕ) → byte < 256 → byte_at 0 (with_byte word 3 byte) ≡ byte_at 0 word
first_of_four word byte small = omega (arith, small)

second_of_four : (word byte : ℕ) → byte < 256 → byte_at 1 (with_byte word 3 byte) ≡ byte_at 1 word
second_of_four word byte small = omega (arith, small)

third_of_four : (word byte : ℕ) → byte < 256 → byte_at 2 (with_byte word 3 byte) ≡ byte_at 2 word
third_of_four word byte small = omega (arith, small)

last_of_four : (word byte : ℕ) → byte < 256 → byte_at 3 (with_byte word 3 byte) ≡ byte
last_of_four word byte small = omega (arith, small)

one_byte : (word byte : ℕ) → byte < 256 → byte_at 0 (with_byte word 0 byte) ≡ byte
one_byte word byte small = omega (arith, small)

-- So many bytes stand lowest in a word, and one more with the next.
pub bytes_joined : (word done byte : ℕ) → done < 4 → byte < 256 →
    take (suc done) (to_le_bytes w32 (with_byte word done byte)) ≡ take done (to_le_bytes w32 word) ++ byte ∷ []
bytes_joined word zero byte few small = λ i. one_byte word byte small i ∷ []
bytes_joined word (suc zero) byte few small = λ i. low_of_two word byte small i ∷ high_of_two word byte small i ∷ []
bytes_joined word (suc (suc zero)) byte few small =
    λ i. low_of_three word byte small i ∷ middle_of_three word byte small i ∷ high_of_three word byte small i ∷ []
bytes_joined word (suc (suc (suc zero))) byte few small =
    λ i. first_of_four word byte small i ∷ second_of_four word byte small i ∷ third_of_four word byte small i ∷ last_of_four word byte small i ∷ []
bytes_joined word (suc (suc (suc (suc done)))) byte few small = absurd (omega (arith, few))
