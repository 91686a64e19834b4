-- How often a record and those below it name a block.
use Rattle.std.proofs.Common.{◌≡◌, ◌≢◌, ◌∙◌, ◌⊎◌, inl, inr, ℕ, ◌+◌, ◌<◌, ◌≤◌, ◌==◌, ◌&&◌, zero, suc, Bool, true, false, not}
use Rattle.std.proofs.Common.{refl, sym, ap, subst, arith, eqb-true, eq-eqb}
use Rattle.std.specs.Prelude.{nat_lt, if◌then◌else◌}
use Rattle.std.proofs.lemmas.Bool.{cases_eq}
use Rattle.std.proofs.lemmas.Bool.Decides.{nat_tests}
use Rattle.jos_base.specs.Counting.{total}
use Rattle.jos_base.specs.Environments.{bit_of}
use Rattle.jos_base.proofs.Sums.{total-one}
use Rattle.fs_layout.specs.DiskImage.{block_count, is_data_block, indirect_of, is_directory_at, has_indirect, is_empty_record}
use Rattle.fs_layout.specs.DiskImage.{blocks_needed, block_number_at, slot_count, slot_place}
use Rattle.fs_acts.specs.BlockActs.{is_named_slot}
use Rattle.fs_acts.specs.BlockLaws.{IsGoodRecord, AreGood, own_times, times_named}

-- ---- sums

-- two of the numbers
pub total-two : (n i j : ℕ) (g : ℕ → ℕ) → i < n → j < n → i ≢ j → g i + g j ≤ total n g
unfolding total
total-two zero i j g below other ne = absurd (omega arith)
total-two (suc n) i j g below other ne = elim (cases_eq i n) [
  | inl e ↦ let at = ap g e in let one = total-one n j g (omega arith) in omega (arith, at, one)
  | inr first ↦
      elim (cases_eq j n) [
        | inl e ↦ let at = ap g e in let one = total-one n i g (omega arith) in omega (arith, at, one)
        | inr second ↦ let rest = total-two n i j g (omega arith) (omega arith) ne in omega (arith, rest)
      ]
]

-- where a sum is not 0, one of its numbers isn't
pub record Some (n : ℕ) (g : ℕ → ℕ) : Type 0 where
  pub at : ℕ
  pub within : at < n
  pub some : 0 < g at

none_or_some : (n : ℕ) → (n ≡ 0) ⊎ (0 < n)
none_or_some zero = inl refl
none_or_some (suc n) = inr (omega arith)

pub total-some : (n : ℕ) (g : ℕ → ℕ) → 0 < total n g → Some n g
unfolding total
total-some zero g some = absurd (omega arith)
total-some (suc n) g some = elim (none_or_some (g n)) [
  | inl none ↦
      let rest = total-some n g (omega arith) in record { at = rest.at; within = let h = rest.within in omega arith; some = rest.some }
  | inr here ↦ record { at = n; within = omega arith; some = here }
]

-- ---- a slot that has a name

pub record IsNamed (byte : ℕ → ℕ) (directory i : ℕ) : Type 0 where
  pub is : is_directory_at byte directory ≡ true
  pub within : i < slot_count byte directory
  pub filled : is_empty_record byte (slot_place byte directory i) ≡ false

three_parts : (a b e : Bool) → (a && b && not e) ≡ true → (a ≡ true) × ((b ≡ true) × (e ≡ false))
three_parts true true false h = (refl, (refl, refl))
three_parts true true true h = absurd (cc)
three_parts true false e h = absurd (cc)
three_parts false b e h = absurd (cc)

three_whole : (a b e : Bool) → a ≡ true → b ≡ true → e ≡ false → (a && b && not e) ≡ true
three_whole a b e is within filled = rw (is, within, filled) refl

lt-if : (a b : ℕ) → nat_lt a b ≡ true → a < b
lt-if a b e = grind (arith, nat_tests)

if-lt : (a b : ℕ) → a < b → nat_lt a b ≡ true
if-lt a b e = grind (arith, nat_tests)

pub is-named : (byte : ℕ → ℕ) (directory i : ℕ) → is_named_slot byte directory i ≡ true → IsNamed byte directory i
is-named byte directory i e =
    let parts =
    three_parts (is_directory_at byte directory) (nat_lt i (slot_count byte directory))
    (is_empty_record byte (slot_place byte directory i)) e in
    record { is = parts.0; within = lt-if i (slot_count byte directory) parts.1.0; filled = parts.1.1 }

pub named-is : (byte : ℕ → ℕ) (directory i : ℕ) → IsNamed byte directory i → is_named_slot byte directory i ≡ true
named-is byte directory i named =
    three_whole (is_directory_at byte directory) (nat_lt i (slot_count byte directory))
    (is_empty_record byte (slot_place byte directory i)) named.is (if-lt i (slot_count byte directory) named.within) named.filled

-- ---- what a record names itself

same-one : (n block : ℕ) → n ≡ block → bit_of (n == block) ≡ 1
same-one n block e = ap bit_of (eq-eqb n block e)

one-same : (n block : ℕ) → 0 < bit_of (n == block) → n ≡ block
one-same n block some = by_test (n == block) refl some
  where
    by_test : (test : Bool) → (n == block) ≡ test → 0 < bit_of test → n ≡ block
    by_test true e some = eqb-true n block e
    by_test false e some = absurd (omega arith)

-- a block within its size
pub own-one : (byte : ℕ → ℕ) (place i block : ℕ) → i < blocks_needed byte place → block_number_at byte place i ≡ block →
    1 ≤ own_times byte place block
unfolding own_times
own-one byte place i block within e =
    let g : ℕ → ℕ = λ k. bit_of (block_number_at byte place k == block) in
    let one = total-one (blocks_needed byte place) i g within in
    let is = same-one (block_number_at byte place i) block e in
    omega (arith, one, is)

-- two of them
pub own-two : (byte : ℕ → ℕ) (place i j block : ℕ) → i < blocks_needed byte place → j < blocks_needed byte place → i ≢ j →
    block_number_at byte place i ≡ block → block_number_at byte place j ≡ block → 2 ≤ own_times byte place block
unfolding own_times
own-two byte place i j block within other ne e f =
    let g : ℕ → ℕ = λ k. bit_of (block_number_at byte place k == block) in
    let two = total-two (blocks_needed byte place) i j g within other ne in
    let is = same-one (block_number_at byte place i) block e in
    let too = same-one (block_number_at byte place j) block f in
    omega (arith, two, is, too)

both-one : (has : Bool) (n block : ℕ) → has ≡ true → n ≡ block → bit_of (has && (n == block)) ≡ 1
both-one has n block is e = rw is (same-one n block e)

-- its indirect block
pub own-indirect : (byte : ℕ → ℕ) (place : ℕ) → has_indirect byte place ≡ true → 1 ≤ own_times byte place (indirect_of byte place)
unfolding own_times
own-indirect byte place has =
    let is = both-one (has_indirect byte place) (indirect_of byte place) (indirect_of byte place) has refl in omega (arith, is)

-- a block within its size that is the indirect block
pub own-both : (byte : ℕ → ℕ) (place i : ℕ) → has_indirect byte place ≡ true → i < blocks_needed byte place →
    block_number_at byte place i ≡ indirect_of byte place → 2 ≤ own_times byte place (indirect_of byte place)
unfolding own_times
own-both byte place i has within e =
    let block : ℕ = indirect_of byte place in
    let g : ℕ → ℕ = λ k. bit_of (block_number_at byte place k == block) in
    let one = total-one (blocks_needed byte place) i g within in
    let is = same-one (block_number_at byte place i) block e in
    let too = both-one (has_indirect byte place) block block has refl in
    omega (arith, one, is, too)

-- each is a data block
both-parts : (has : Bool) (n block : ℕ) → 0 < bit_of (has && (n == block)) → (has ≡ true) × (n ≡ block)
both-parts true n block some = (refl, one-same n block some)
both-parts false n block some = absurd (omega arith)

either-some : (a b : ℕ) → 0 < a + b → (0 < a) ⊎ (0 < b)
either-some zero b some = inr (omega arith)
either-some (suc a) b some = inl (omega arith)

pub own-data : (byte : ℕ → ℕ) (place block : ℕ) → IsGoodRecord byte place → 0 < own_times byte place block →
    is_data_block (block_count byte) block ≡ true
unfolding own_times
own-data byte place block good some =
    let g : ℕ → ℕ = λ k. bit_of (block_number_at byte place k == block) in
    elim
    (either-some (total (blocks_needed byte place) g) (bit_of (has_indirect byte place && (indirect_of byte place == block)))
    some) [
      | inl numbers ↦
          let one = total-some (blocks_needed byte place) g numbers in
          ap (is_data_block (block_count byte)) (sym (one-same (block_number_at byte place one.at) block one.some))
          ∙ good.readable.within one.at one.within
      | inr indirect ↦
          let parts = both-parts (has_indirect byte place) (indirect_of byte place) block indirect in
          ap (is_data_block (block_count byte)) (sym parts.1) ∙ good.indirect parts.0
    ]

-- ---- with those below it

-- the records of a directory; a file has none
abbrev pub slots : (ℕ → ℕ) → ℕ → ℕ
slots byte place = if is_directory_at byte place then slot_count byte place else 0

-- how often a slot's record and those below it name a block
abbrev pub times_below : ℕ → (ℕ → ℕ) → ℕ → ℕ → ℕ → ℕ
times_below depth byte place block i =
    if is_empty_record byte (slot_place byte place i) then 0 else times_named depth byte (slot_place byte place i) block

slots-named : (byte : ℕ → ℕ) (place i : ℕ) → IsNamed byte place i → i < slots byte place
slots-named byte place i named =
    subst (λ (b : Bool). i < (if b then slot_count byte place else 0)) (sym named.is) named.within

pub below-named : (depth : ℕ) (byte : ℕ → ℕ) (place block i : ℕ) → IsNamed byte place i →
    times_below depth byte place block i ≡ times_named depth byte (slot_place byte place i) block
below-named depth byte place block i named = rw named.filled refl

pub times-own : (depth : ℕ) (byte : ℕ → ℕ) (place block : ℕ) → own_times byte place block ≤ times_named depth byte place block
unfolding times_named
times-own zero byte place block = omega arith
times-own (suc depth) byte place block = omega arith

pub times-slot : (depth : ℕ) (byte : ℕ → ℕ) (place block i : ℕ) → IsNamed byte place i →
    own_times byte place block + times_named depth byte (slot_place byte place i) block ≤ times_named (suc depth) byte place block
unfolding times_named
times-slot depth byte place block i named =
    let one = total-one (slots byte place) i (times_below depth byte place block) (slots-named byte place i named) in
    let at = below-named depth byte place block i named in
    omega (arith, one, at)

pub times-slots : (depth : ℕ) (byte : ℕ → ℕ) (place block i j : ℕ) → IsNamed byte place i → IsNamed byte place j → i ≢ j →
    own_times byte place block + times_named depth byte (slot_place byte place i) block
    + times_named depth byte (slot_place byte place j) block ≤ times_named (suc depth) byte place block
unfolding times_named
times-slots depth byte place block i j named other ne =
    let two =
    total-two (slots byte place) i j (times_below depth byte place block) (slots-named byte place i named)
    (slots-named byte place j other) ne in
    let at = below-named depth byte place block i named in
    let too = below-named depth byte place block j other in
    omega (arith, two, at, too)

-- where they name one, one of them does
pub below-slot : (byte : ℕ → ℕ) (place : ℕ) (i : ℕ) → i < slots byte place → (is_directory_at byte place ≡ true) × (i < slot_count byte place)
below-slot byte place i within = by_kind (is_directory_at byte place) refl within
  where
    by_kind : (kind : Bool) → is_directory_at byte place ≡ kind → i < (if kind then slot_count byte place else 0) →
        (is_directory_at byte place ≡ true) × (i < slot_count byte place)
    by_kind true is within = (is, within)
    by_kind false is within = absurd (omega arith)

some-filled : (depth : ℕ) (byte : ℕ → ℕ) (place block i : ℕ) → 0 < times_below depth byte place block i →
    (is_empty_record byte (slot_place byte place i) ≡ false) × (0 < times_named depth byte (slot_place byte place i) block)
some-filled depth byte place block i some = by_test (is_empty_record byte (slot_place byte place i)) refl some
  where
    by_test : (empty : Bool) → is_empty_record byte (slot_place byte place i) ≡ empty →
        0 < (if empty then 0 else times_named depth byte (slot_place byte place i) block) →
        (is_empty_record byte (slot_place byte place i) ≡ false) × (0 < times_named depth byte (slot_place byte place i) block)
    by_test true is some = absurd (omega arith)
    by_test false is some = (is, some)

-- each block that is named is a data block
pub named-data : (depth : ℕ) (byte : ℕ → ℕ) (place block : ℕ) → AreGood depth byte place → 0 < times_named depth byte place block →
    is_data_block (block_count byte) block ≡ true
unfolding AreGood times_named
named-data zero byte place block good some = own-data byte place block good.0 some
named-data (suc depth) byte place block good some =
    elim (either-some (own_times byte place block) (total (slots byte place) (times_below depth byte place block)) some) [
      | inl own ↦ own-data byte place block good.0 own
      | inr below ↦
          let one = total-some (slots byte place) (times_below depth byte place block) below in
          let kind = below-slot byte place one.at one.within in
          let filled = some-filled depth byte place block one.at one.some in
          let named : IsNamed byte place one.at = record { is = kind.0; within = kind.1; filled = filled.0 } in
          named-data depth byte (slot_place byte place one.at) block (good.1 one.at (named-is byte place one.at named)).1 filled.1
    ]
