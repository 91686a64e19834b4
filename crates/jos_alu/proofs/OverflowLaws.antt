-- OF as a fact on signed numbers.
use Rattle.std.proofs.Common.{◌≡◌, ℕ, ◌+◌, ◌-◌, ◌%◌, ◌^◌, ◌<◌, sym, ◌∙◌, arith}
use Rattle.std.specs.Prelude.{pos, negsuc, ◌&&◌, not, ◌+ℤ◌, ◌-ℤ◌, nat_le, int_le, int_lt}
use Rattle.std.specs.Int.{w8, w16, w32, cast_signed}
use Rattle.std.proofs.Math.Bool.{beq}
use Rattle.std.proofs.lemmas.Int.{ints}
use Rattle.std.proofs.lemmas.Bool.Decides.{nat_tests}
use Rattle.std.proofs.Math.Nat.{mod-mod}
use Rattle.jos_alu.specs.declared.width.Width.TheVariants.{Bits8, Bits16, Bits32}
use Rattle.jos_alu.specs.Flags.{flags_of_sum, flags_of_difference}
use Rattle.jos_alu.specs.Products.{signed_of, fits_in}
use Rattle.jos_alu.specs.Laws.{OverflowsSigned}
use Rattle.jos_alu.proofs.ConditionLaws.{small}

sum_byte : (a b c : ℕ) → a < 256 → b < 256 → c < 2 →
    (beq (nat_le 128 a) (nat_le 128 b) && not (beq (nat_le 128 a) (nat_le 128 ((a + b + c) % 256))))
    ≡ not (int_le (negsuc 127) (cast_signed w8 a +ℤ cast_signed w8 b +ℤ pos c) && int_lt (cast_signed w8 a +ℤ cast_signed w8 b +ℤ pos c) (pos 128))
sum_byte a b c ha hb hc = grind (arith, ints, nat_tests)

difference_byte : (a b c : ℕ) → a < 256 → b < 256 → c < 2 →
    (not (beq (nat_le 128 a) (nat_le 128 b)) && not (beq (nat_le 128 a) (nat_le 128 ((a + 2 ^ 33 - (b + c)) % 256))))
    ≡ not (int_le (negsuc 127) (cast_signed w8 a -ℤ cast_signed w8 b -ℤ pos c) && int_lt (cast_signed w8 a -ℤ cast_signed w8 b -ℤ pos c) (pos 128))
difference_byte a b c ha hb hc = grind (arith, ints, nat_tests)

sum_pair : (a b c : ℕ) → a < 65536 → b < 65536 → c < 2 →
    (beq (nat_le 32768 a) (nat_le 32768 b) && not (beq (nat_le 32768 a) (nat_le 32768 ((a + b + c) % 65536))))
    ≡ not (int_le (negsuc 32767) (cast_signed w16 a +ℤ cast_signed w16 b +ℤ pos c) && int_lt (cast_signed w16 a +ℤ cast_signed w16 b +ℤ pos c) (pos 32768))
sum_pair a b c ha hb hc = grind (arith, ints, nat_tests)

difference_pair : (a b c : ℕ) → a < 65536 → b < 65536 → c < 2 →
    (not (beq (nat_le 32768 a) (nat_le 32768 b)) && not (beq (nat_le 32768 a) (nat_le 32768 ((a + 2 ^ 33 - (b + c)) % 65536))))
    ≡ not (int_le (negsuc 32767) (cast_signed w16 a -ℤ cast_signed w16 b -ℤ pos c) && int_lt (cast_signed w16 a -ℤ cast_signed w16 b -ℤ pos c) (pos 32768))
difference_pair a b c ha hb hc = grind (arith, ints, nat_tests)

sum_word : (a b c : ℕ) → a < 2 ^ 32 → b < 2 ^ 32 → c < 2 →
    (beq (nat_le (2 ^ 31) a) (nat_le (2 ^ 31) b) && not (beq (nat_le (2 ^ 31) a) (nat_le (2 ^ 31) ((a + b + c) % 2 ^ 32))))
    ≡ not (int_le (negsuc 2147483647) (cast_signed w32 a +ℤ cast_signed w32 b +ℤ pos c) && int_lt (cast_signed w32 a +ℤ cast_signed w32 b +ℤ pos c) (pos 2147483648))
sum_word a b c ha hb hc = grind (arith, ints, nat_tests)

difference_word : (a b c : ℕ) → a < 2 ^ 32 → b < 2 ^ 32 → c < 2 →
    (not (beq (nat_le (2 ^ 31) a) (nat_le (2 ^ 31) b)) && not (beq (nat_le (2 ^ 31) a) (nat_le (2 ^ 31) ((a + 2 ^ 33 - (b + c)) % 2 ^ 32))))
    ≡ not (int_le (negsuc 2147483647) (cast_signed w32 a -ℤ cast_signed w32 b -ℤ pos c) && int_lt (cast_signed w32 a -ℤ cast_signed w32 b -ℤ pos c) (pos 2147483648))
difference_word a b c ha hb hc = grind (arith, ints, nat_tests)

pub overflows : OverflowsSigned
unfolding flags_of_sum flags_of_difference fits_in signed_of
overflows Bits8 a b c ha hb hc =
    let ea = small Bits8 a ha in
    let eb = small Bits8 b hb in
    record {
      sum =
          (λ i. beq (nat_le 128 (ea i)) (nat_le 128 (eb i)) && not (beq (nat_le 128 (ea i)) (nat_le 128 (mod-mod (a + b + c) 256 i))))
          ∙ sum_byte a b c ha hb hc
          ∙ (λ i. not (int_le (negsuc 127) (cast_signed w8 (sym ea i) +ℤ cast_signed w8 (sym eb i) +ℤ pos c) && int_lt (cast_signed w8 (sym ea i) +ℤ cast_signed w8 (sym eb i) +ℤ pos c) (pos 128)));
      difference =
          (λ i. not (beq (nat_le 128 (ea i)) (nat_le 128 (eb i)))
          && not (beq (nat_le 128 (ea i)) (nat_le 128 (mod-mod (a + 2 ^ 33 - (b + c)) 256 i))))
          ∙ difference_byte a b c ha hb hc
          ∙ (λ i. not (int_le (negsuc 127) (cast_signed w8 (sym ea i) -ℤ cast_signed w8 (sym eb i) -ℤ pos c) && int_lt (cast_signed w8 (sym ea i) -ℤ cast_signed w8 (sym eb i) -ℤ pos c) (pos 128)));
    }
overflows Bits16 a b c ha hb hc =
    let ea = small Bits16 a ha in
    let eb = small Bits16 b hb in
    record {
      sum =
          (λ i. beq (nat_le 32768 (ea i)) (nat_le 32768 (eb i)) && not (beq (nat_le 32768 (ea i)) (nat_le 32768 (mod-mod (a + b + c) 65536 i))))
          ∙ sum_pair a b c ha hb hc
          ∙ (λ i. not (int_le (negsuc 32767) (cast_signed w16 (sym ea i) +ℤ cast_signed w16 (sym eb i) +ℤ pos c) && int_lt (cast_signed w16 (sym ea i) +ℤ cast_signed w16 (sym eb i) +ℤ pos c) (pos 32768)));
      difference =
          (λ i. not (beq (nat_le 32768 (ea i)) (nat_le 32768 (eb i)))
          && not (beq (nat_le 32768 (ea i)) (nat_le 32768 (mod-mod (a + 2 ^ 33 - (b + c)) 65536 i))))
          ∙ difference_pair a b c ha hb hc
          ∙ (λ i. not (int_le (negsuc 32767) (cast_signed w16 (sym ea i) -ℤ cast_signed w16 (sym eb i) -ℤ pos c) && int_lt (cast_signed w16 (sym ea i) -ℤ cast_signed w16 (sym eb i) -ℤ pos c) (pos 32768)));
    }
overflows Bits32 a b c ha hb hc =
    let ea = small Bits32 a ha in
    let eb = small Bits32 b hb in
    record {
      sum =
          (λ i. beq (nat_le (2 ^ 31) (ea i)) (nat_le (2 ^ 31) (eb i)) && not (beq (nat_le (2 ^ 31) (ea i)) (nat_le (2 ^ 31) (mod-mod (a + b + c) (2 ^ 32) i))))
          ∙ sum_word a b c ha hb hc
          ∙ (λ i. not (int_le (negsuc 2147483647) (cast_signed w32 (sym ea i) +ℤ cast_signed w32 (sym eb i) +ℤ pos c) && int_lt (cast_signed w32 (sym ea i) +ℤ cast_signed w32 (sym eb i) +ℤ pos c) (pos 2147483648)));
      difference =
          (λ i. not (beq (nat_le (2 ^ 31) (ea i)) (nat_le (2 ^ 31) (eb i)))
          && not (beq (nat_le (2 ^ 31) (ea i)) (nat_le (2 ^ 31) (mod-mod (a + 2 ^ 33 - (b + c)) (2 ^ 32) i))))
          ∙ difference_word a b c ha hb hc
          ∙ (λ i. not (int_le (negsuc 2147483647) (cast_signed w32 (sym ea i) -ℤ cast_signed w32 (sym eb i) -ℤ pos c) && int_lt (cast_signed w32 (sym ea i) -ℤ cast_signed w32 (sym eb i) -ℤ pos c) (pos 2147483648)));
    }
