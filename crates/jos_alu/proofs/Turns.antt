-- ROL by many places, in numbers: what goes out at the top comes in at the bottom, and as many places as the width
-- has are a whole turn.
use Rattle.std.proofs.Common.{◌≡◌, ℕ, ◌+◌, ◌-◌, ◌*◌, ◌/◌, ◌%◌, ◌^◌, ◌<◌, zero, suc, sym, ap, refl, ◌∙◌, arith}
use Rattle.std.specs.Prelude.{bit_or}
use Rattle.std.specs.Int.Bits.{or_self}
use Rattle.std.proofs.lemmas.Bool.Decides.{nat_tests}
use Rattle.std.proofs.lemmas.Nat.{mul-add-lt, div_below, pow_pos, pow-add, mod-pow-add, shl-shr, shr_below}
use Rattle.std.proofs.lemmas.Nat.{div-add-mod', or_shifted}
use Rattle.std.proofs.Math.Nat.{mod-lt, sub-zero, pow-suc, mul_comm, mul-mod_left, mod_self, mod-one, div-one}
use Rattle.std.proofs.Math.Nat.{add-zero, add_comm, mod-eq_of_lt}
use Rattle.jos_alu.specs.declared.width.Width.{Width}
use Rattle.jos_alu.specs.declared.width.Width.TheVariants.{Bits8, Bits16, Bits32}
use Rattle.jos_alu.specs.declared.shifts.Shift.TheVariants.{Rol}
use Rattle.jos_alu.specs.declared.shifts.Shifting.{Shifting}
use Rattle.jos_alu.specs.Flags.{modulus, sign_bit, is_negative}
use Rattle.jos_alu.specs.Shifts.{up, shift_once, shift_times, shift_start}
use Rattle.jos_alu.proofs.ShiftTimes.{in_parts}

-- ---- one place

-- of a number with the top bit t above w
one_turn : (width : Width) (t w v : ℕ) → t < 2 → w < sign_bit width → v ≡ t * sign_bit width + w → up width (is_negative width v) v ≡ w * 2 + t
one_turn Bits8 t w v bit low e = grind (arith, nat_tests)
one_turn Bits16 t w v bit low e = grind (arith, nat_tests)
one_turn Bits32 t w v bit low e = grind (arith, nat_tests)

half_is : (width : Width) (x : ℕ) → x * 2 ≡ modulus width → x ≡ sign_bit width
half_is Bits8 x e = omega arith
half_is Bits16 x e = omega arith
half_is Bits32 x e = omega arith

-- ---- some places, where a is what goes out and b is what stays

none : (a b q : ℕ) → a < 1 → a * q + b ≡ b * 1 + a
none a b q h = let e : a ≡ 0 = omega arith in (λ i. e i * q + b) ∙ grind arith

-- Below p is 2^n, q is 2^k, t is the top bit of a, and c is the rest of it.

split : (p q a b t c h : ℕ) → p * q ≡ h → t * p + c ≡ a → a * q + b ≡ t * h + (c * q + b)
split p q a b t c h e f =
    let product : (t * p + c) * q + b ≡ t * (p * q) + (c * q + b) = grind arith in
    ap (λ x. x * q + b) (sym f) ∙ product ∙ ap (λ x. t * x + (c * q + b)) e

one_more : (p q b t c : ℕ) → (c * q + b) * 2 + t ≡ c * (q * 2) + (b * 2 + t)
one_more p q b t c = grind arith

one_less : (p a b t c : ℕ) → t * p + c ≡ a → (b * 2 + t) * p + c ≡ b * (p * 2) + a
one_less p a b t c e = grind (arith, e)

whole : (p q m : ℕ) → p * 2 * q ≡ m → p * (q * 2) ≡ m
whole p q m e = grind (arith, e)

halves : (p q m : ℕ) → p * 2 * q ≡ m → p * q * 2 ≡ m
halves p q m e = grind (arith, e)

-- k places are left
turned : (width : Width) (n k a b : ℕ) (s : Shifting) → 2 ^ n * 2 ^ k ≡ modulus width → a < 2 ^ n → b < 2 ^ k → s.value ≡ a * 2 ^ k + b →
    (shift_times Rol width n s).value ≡ b * 2 ^ n + a
unfolding shift_times shift_once
turned width zero k a b s full out stays e = e ∙ none a b (2 ^ k) out
turned width (suc n) k a b s full out stays e =
    let up_n : 2 ^ suc n ≡ 2 ^ n * 2 = pow-suc 2 n in
    let up_k : 2 ^ suc k ≡ 2 ^ k * 2 = pow-suc 2 k in
    let p_q : 2 ^ n * 2 * 2 ^ k ≡ modulus width = ap (λ x. x * 2 ^ k) (sym up_n) ∙ full in
    let is_half : 2 ^ n * 2 ^ k ≡ sign_bit width = half_is width (2 ^ n * 2 ^ k) (halves (2 ^ n) (2 ^ k) (modulus width) p_q) in
    let bit : a / 2 ^ n < 2 = div_below a (2 ^ n) 2 (pow_pos n) (omega arith) in
    let rest : a % 2 ^ n < 2 ^ n = mod-lt a (pow_pos n) in
    let parts : a / 2 ^ n * 2 ^ n + a % 2 ^ n ≡ a = div-add-mod' a (2 ^ n) in
    let under : a % 2 ^ n * 2 ^ k + b < 2 ^ k * 2 ^ n = mul-add-lt (a % 2 ^ n) (2 ^ k) b (2 ^ n) rest stays in
    let low : a % 2 ^ n * 2 ^ k + b < sign_bit width = omega (arith, mul_comm (2 ^ n) (2 ^ k)) in
    let next = one_turn width (a / 2 ^ n) (a % 2 ^ n * 2 ^ k + b) s.value bit low
    (e ∙ split (2 ^ n) (2 ^ k) a b (a / 2 ^ n) (a % 2 ^ n) (sign_bit width) is_half parts) in
    turned width n (suc k) (a % 2 ^ n) (b * 2 + a / 2 ^ n) (shift_once Rol width s)
    (ap (λ x. 2 ^ n * x) up_k ∙ whole (2 ^ n) (2 ^ k) (modulus width) p_q) rest (omega arith)
    (next ∙ one_more (2 ^ n) (2 ^ k) b (a / 2 ^ n) (a % 2 ^ n) ∙ ap (λ x. a % 2 ^ n * x + (b * 2 + a / 2 ^ n)) (sym up_k))
    ∙ one_less (2 ^ n) a b (a / 2 ^ n) (a % 2 ^ n) parts ∙ ap (λ x. b * x + a) (sym up_n)

-- ---- whole turns

abbrev pub bits_in : Width → ℕ
bits_in Bits8 = 8
bits_in Bits16 = 16
bits_in Bits32 = 32

is_modulus : (width : Width) → 2 ^ bits_in width ≡ modulus width
is_modulus Bits8 = refl
is_modulus Bits16 = refl
is_modulus Bits32 = refl

-- some places, at most as many as the width has, which leave k
some : (width : Width) (n k : ℕ) (s : Shifting) → n + k ≡ bits_in width → s.value < modulus width →
    (shift_times Rol width n s).value ≡ s.value % 2 ^ k * 2 ^ n + s.value / 2 ^ k
some width n k s e small =
    let power : 2 ^ (n + k) ≡ modulus width = ap (λ x. 2 ^ x) e ∙ is_modulus width in
    turned width n k (s.value / 2 ^ k) (s.value % 2 ^ k) s (sym (pow-add 2 n k) ∙ power)
    (shr_below s.value n k (omega arith)) (mod-lt s.value (pow_pos k)) (sym (div-add-mod' s.value (2 ^ k)))

nothing_out : (v p : ℕ) → v % 1 * p + v / 1 ≡ v
nothing_out v p = (λ i. mod-one v i * p + div-one v i) ∙ grind arith

-- a whole turn
back : (width : Width) (s : Shifting) → s.value < modulus width → (shift_times Rol width (bits_in width) s).value ≡ s.value
back width s small = some width (bits_in width) 0 s (add-zero (bits_in width)) small ∙ nothing_out s.value (2 ^ bits_in width)

-- what ROL makes of a number depends on the number alone
pub alone : (width : Width) (n : ℕ) (s t : Shifting) → s.value ≡ t.value → (shift_times Rol width n s).value ≡ (shift_times Rol width n t).value
unfolding shift_times shift_once
alone width zero s t e = e
alone width (suc n) s t e =
    alone width n (shift_once Rol width s) (shift_once Rol width t) (ap (λ v. up width (is_negative width v) v) e)

-- turns before other places
pub back_again : (width : Width) (turns n : ℕ) (s : Shifting) → s.value < modulus width →
    (shift_times Rol width (turns * bits_in width + n) s).value ≡ (shift_times Rol width n s).value
back_again width zero n s small =
    let none : 0 * bits_in width + n ≡ n = grind arith in ap (λ k. (shift_times Rol width k s).value) none
back_again width (suc turns) n s small =
    let one : suc turns * bits_in width + n ≡ bits_in width + (turns * bits_in width + n) = grind arith in
    ap (λ k. (shift_times Rol width k s).value) one
    ∙ ap (λ t. t.value) (in_parts Rol width (bits_in width) (turns * bits_in width + n) s)
    ∙ alone width (turns * bits_in width + n) (shift_times Rol width (bits_in width) s) s (back width s small)
    ∙ back_again width turns n s small

-- ---- the rotation of a type of as many bits

-- the bits that stay, at their new places
kept : (v n k : ℕ) → (v * 2 ^ n) % 2 ^ (k + n) ≡ v % 2 ^ k * 2 ^ n
kept v n k =
    mod-pow-add (v * 2 ^ n) k n
    ∙ (λ i. (shl-shr v n i % 2 ^ k) * 2 ^ n + mul-mod_left v (2 ^ n) i)
    ∙ add-zero (v % 2 ^ k * 2 ^ n)

-- and with them the bits that went out
joined : (v n k b : ℕ) → k + n ≡ b → v < 2 ^ b → bit_or ((v * 2 ^ n) % 2 ^ b) (v / 2 ^ k) ≡ v % 2 ^ k * 2 ^ n + v / 2 ^ k
joined v n k b e small =
    let all : 2 ^ b ≡ 2 ^ (k + n) = ap (λ x. 2 ^ x) (sym e) in
    let all_turned : 2 ^ b ≡ 2 ^ (n + k) = all ∙ ap (λ x. 2 ^ x) (add_comm k n) in
    let out : v / 2 ^ k < 2 ^ n = shr_below v n k (omega arith) in
    (λ i. bit_or ((v * 2 ^ n) % all i) (v / 2 ^ k)) ∙ ap (λ x. bit_or x (v / 2 ^ k)) (kept v n k) ∙ or_shifted (v % 2 ^ k) n (v / 2 ^ k) out

-- less than a turn
within : (width : Width) (n v : ℕ) → n < bits_in width → v < 2 ^ bits_in width →
    (shift_times Rol width n (shift_start v 0)).value ≡ bit_or ((v * 2 ^ n) % 2 ^ bits_in width) (v / 2 ^ ((bits_in width - n) % bits_in width))
unfolding shift_times
within width zero v few small =
    let all : v ≡ v * 1 = omega arith in
    let no_turn : (bits_in width - 0) % bits_in width ≡ 0 = ap (λ x. x % bits_in width) (sub-zero (bits_in width)) ∙ mod_self (bits_in width) in
    sym (or_self v)
    ∙ (λ i. bit_or (sym (mod-eq_of_lt small) i) (sym (div-one v) i))
    ∙ (λ i. bit_or (all i % 2 ^ bits_in width) (v / 2 ^ sym no_turn i))
within width (suc n) v few small =
    let k : bits_in width - suc n < bits_in width = omega arith in
    some width (suc n) (bits_in width - suc n) (shift_start v 0) (omega arith) (omega (arith, is_modulus width))
    ∙ sym (joined v (suc n) (bits_in width - suc n) (bits_in width) (omega arith) small)
    ∙ ap (λ x. bit_or ((v * 2 ^ suc n) % 2 ^ bits_in width) (v / 2 ^ x)) (sym (mod-eq_of_lt k))

wide : (width : Width) → 0 < bits_in width
wide Bits8 = omega arith
wide Bits16 = omega arith
wide Bits32 = omega arith

-- The left side is `rotate_left`.
pub turned_left : (width : Width) (n v : ℕ) → v < modulus width →
    bit_or ((v * 2 ^ (n % bits_in width)) % 2 ^ bits_in width) (v / 2 ^ ((bits_in width - n % bits_in width) % bits_in width))
    ≡ (shift_times Rol width n (shift_start v 0)).value
turned_left width n v small =
    sym (within width (n % bits_in width) v (mod-lt n (wide width)) (omega (arith, is_modulus width)))
    ∙ sym (back_again width (n / bits_in width) (n % bits_in width) (shift_start v 0) small)
    ∙ ap (λ k. (shift_times Rol width k (shift_start v 0)).value) (div-add-mod' n (bits_in width))
