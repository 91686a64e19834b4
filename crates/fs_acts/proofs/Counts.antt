-- What tests name, as a count: tests pass exactly where something holds of the bytes, and no block that they name was named
-- before or is marked free; and then each block is named as often more as they count.
use Rattle.std.proofs.Common.{◌≡◌, ◌∙◌, ◌+◌, ◌<◌, ◌≤◌, ◌==◌, inl, inr, ℕ, zero, suc, Bool, true, false, List, [], ◌∷◌, not}
use Rattle.std.proofs.Common.{Result, Ok, Err, refl, sym, ap, subst, arith, if◌then◌else◌}
use Rattle.std.proofs.lemmas.Bool.{cases_eq}
use Rattle.std.proofs.lemmas.Bool.Decides.{nat_tests}
use Rattle.jos_base.specs.Words.{upd}
use Rattle.jos_base.specs.Counting.{total}
use Rattle.jos_base.specs.Environments.{bit_of}
use Rattle.jos_base.proofs.Maps.{upd-at, upd-other}
use Rattle.jos_base.proofs.Bounds.{below_or_last}
use Rattle.fs_layout.specs.DiskImage.{ImageFault, Range, NamedTwice, MarkedFree, Blocks, Test, demand, only_where, then_tested}
use Rattle.fs_layout.specs.DiskImage.{in_turn, for_each_below, block_count, is_data_block, is_marked_free, block_test}

-- ---- what is counted

-- How often a test names each block
abbrev pub Times : Type 0
Times = ℕ → ℕ

-- between what was named before and what is named after
pub record Names (byte : ℕ → ℕ) (times : Times) (named now : Blocks) : Type 0 where
  pub after : (block : ℕ) → bit_of (now block) ≡ bit_of (named block) + times block
  pub in_use : (block : ℕ) → 0 < times block → is_marked_free byte block ≡ false

-- what is named may be named
pub record Room (byte : ℕ → ℕ) (times : Times) (named : Blocks) : Type 0 where
  pub once : (block : ℕ) → bit_of (named block) + times block ≤ 1
  pub in_use : (block : ℕ) → 0 < times block → is_marked_free byte block ≡ false

-- this test names as often, and asks this of the bytes
pub record Counts (byte : ℕ → ℕ) (test : Test) (times : Times) (good : Type 0) : Type 0 where
  pub names : (named now : Blocks) → test named ≡ Ok now → Names byte times named now
  pub asks : (named now : Blocks) → test named ≡ Ok now → good
  pub passes : good → (named : Blocks) → Room byte times named → (now : Blocks) × (test named ≡ Ok now)

-- ---- tests that name nothing

bit-none : (n : ℕ) → n ≡ n + 0
bit-none n = omega arith

-- a success is of one set alone
pub ok-same : (one other : Blocks) → ◌≡◌ {A = Result Blocks ImageFault} (Ok one) (Ok other) → one ≡ other
ok-same one other e = ap (ok_or one) e
  where
    ok_or : Blocks → Result Blocks ImageFault → Blocks
    ok_or default (Ok named) = named
    ok_or default (Err fault) = default

names-none : (byte : ℕ → ℕ) (named now : Blocks) → ◌≡◌ {A = Result Blocks ImageFault} (Ok named) (Ok now) →
    Names byte (λ block. 0) named now
names-none byte named now e = record {
  after = λ block. same block (ok-same named now e);
  in_use = λ block some. absurd (omega arith);
}
  where
    same : (block : ℕ) → named ≡ now → bit_of (now block) ≡ bit_of (named block) + 0
    same block is = ap (λ (b : Blocks). bit_of (b block)) (sym is) ∙ bit-none (bit_of (named block))

-- nothing is tested
pub counts-none : (byte : ℕ → ℕ) → Counts byte (in_turn []) (λ block. 0) (Unit {0})
unfolding in_turn
counts-none byte = record {
  names = λ named now e. names-none byte named now e;
  asks = λ named now e. tt;
  passes = λ good named room. (named, refl);
}

-- a fault is no success
pub err-not-ok : {X : Type 0} (fault : ImageFault) (now : Blocks) → Err fault ≡ Ok now → X
err-not-ok fault now e = cc

pub counts-demand : (byte : ℕ → ℕ) (passes : Bool) (fault : ImageFault) →
    Counts byte (demand passes fault) (λ block. 0) (passes ≡ true)
counts-demand byte true fault = record {
  names = λ named now e. names-none byte named now e;
  asks = λ named now e. refl;
  passes = λ good named room. (named, refl);
}
counts-demand byte false fault = record {
  names = λ named now e. err-not-ok fault now e;
  asks = λ named now e. err-not-ok fault now e;
  passes = λ good named room. absurd (cc);
}

-- ---- tests one after another

-- what was given between two tests
pub record Between (first : Result Blocks ImageFault) (rest : Test) (now : Blocks) : Type 0 where
  pub middle : Blocks
  pub made : first ≡ Ok middle
  pub rest_made : rest middle ≡ Ok now

pub between : (first : Result Blocks ImageFault) (rest : Test) (now : Blocks) → then_tested first rest ≡ Ok now →
    Between first rest now
between (Ok middle) rest now e = record { middle = middle; made = refl; rest_made = e }
between (Err fault) rest now e = err-not-ok fault now e

pub then-made : (first : Result Blocks ImageFault) (rest : Test) (middle now : Blocks) → first ≡ Ok middle →
    rest middle ≡ Ok now → then_tested first rest ≡ Ok now
then-made first rest middle now made rest_made = ap (λ (r : Result Blocks ImageFault). then_tested r rest) made ∙ rest_made

names-after : (byte : ℕ → ℕ) (t u : Times) (named middle now : Blocks) → Names byte t named middle → Names byte u middle now →
    Names byte (λ block. t block + u block) named now
names-after byte t u named middle now first rest = record {
  after = λ block. sums (bit_of (named block)) (bit_of (middle block)) (bit_of (now block)) (t block) (u block) (first.after block)
      (rest.after block);
  in_use = λ block some. elim (cases_eq (t block) 0) [
    | inl none ↦ rest.in_use block (omega arith)
    | inr one ↦ first.in_use block (omega arith)
  ];
}
  where
    sums : (a b c m n : ℕ) → b ≡ a + m → c ≡ b + n → c ≡ a + (m + n)
    sums a b c m n e f = omega arith

room-first : (byte : ℕ → ℕ) (t u : Times) (named : Blocks) → Room byte (λ block. t block + u block) named → Room byte t named
room-first byte t u named room = record {
  once = λ block. less (bit_of (named block)) (t block) (u block) (room.once block);
  in_use = λ block some. room.in_use block (omega arith);
}
  where
    less : (a m n : ℕ) → a + (m + n) ≤ 1 → a + m ≤ 1
    less a m n h = omega arith

room-rest : (byte : ℕ → ℕ) (t u : Times) (named middle : Blocks) → Room byte (λ block. t block + u block) named →
    Names byte t named middle → Room byte u middle
room-rest byte t u named middle room first = record {
  once = λ block. less (bit_of (named block)) (bit_of (middle block)) (t block) (u block) (room.once block) (first.after block);
  in_use = λ block some. room.in_use block (omega arith);
}
  where
    less : (a b m n : ℕ) → a + (m + n) ≤ 1 → b ≡ a + m → b + n ≤ 1
    less a b m n h e = omega arith

-- One test, and then one.
pub counts-then : {byte : ℕ → ℕ} {t u : Times} {good more : Type 0} (one rest both : Test) →
    ((named : Blocks) → both named ≡ then_tested (one named) rest) → Counts byte one t good → Counts byte rest u more →
    Counts byte both (λ block. t block + u block) (good × more)
counts-then {byte} {t} {u} one rest both is first later = record {
  names = λ named now e.
      let parts = between (one named) rest now (sym (is named) ∙ e) in
      names-after byte t u named parts.middle now (first.names named parts.middle parts.made)
      (later.names parts.middle now parts.rest_made);
  asks = λ named now e.
      let parts = between (one named) rest now (sym (is named) ∙ e) in
      (first.asks named parts.middle parts.made, later.asks parts.middle now parts.rest_made);
  passes = λ good named room.
      let made = first.passes good.0 named (room-first byte t u named room) in
      let onward =
      later.passes good.1 made.0 (room-rest byte t u named made.0 room (first.names named made.0 made.1)) in
      (onward.0, is named ∙ then-made (one named) rest made.0 onward.0 made.1 onward.1);
}

pub counts-more : {byte : ℕ → ℕ} {t u : Times} {good more : Type 0} (test : Test) (tests : List Test) → Counts byte test t good →
    Counts byte (in_turn tests) u more → Counts byte (in_turn (test ∷ tests)) (λ block. t block + u block) (good × more)
unfolding in_turn
counts-more test tests first later = counts-then test (in_turn tests) (in_turn (test ∷ tests)) (λ named. refl) first later

-- the same count and the same demand in other words; the counts have to agree only where the demand is met
pub counts-as : {byte : ℕ → ℕ} {test : Test} {t : Times} {good : Type 0} (u : Times) (other : Type 0) → Counts byte test t good →
    (good → other) → (other → good) → (good → (block : ℕ) → t block ≡ u block) → Counts byte test u other
counts-as {byte} {test} {t} u other counts to from same = record {
  names = λ named now e.
      let had = counts.names named now e in
      let equal : (block : ℕ) → t block ≡ u block = same (counts.asks named now e) in
      record {
        after = λ block. had.after block ∙ ap (λ n. bit_of (named block) + n) (equal block);
        in_use = λ block some. had.in_use block (subst (λ n. 0 < n) (sym (equal block)) some);
      };
  asks = λ named now e. to (counts.asks named now e);
  passes = λ met named room.
      let equal : (block : ℕ) → t block ≡ u block = same (from met) in
      counts.passes (from met) named
      (record {
        once = λ block. subst (λ n. bit_of (named block) + n ≤ 1) (sym (equal block)) (room.once block);
        in_use = λ block some. room.in_use block (subst (λ n. 0 < n) (equal block) some);
      });
}

-- a test that is made only under a condition
pub counts-where : {byte : ℕ → ℕ} {t : Times} {good : Type 0} (made : Bool) (test : Test) → Counts byte test t good →
    Counts byte (only_where made test) (λ block. if made then t block else 0) (made ≡ true → good)
counts-where true test counts = record {
  names = λ named now e. counts.names named now e;
  asks = λ named now e _. counts.asks named now e;
  passes = λ good named room. counts.passes (good refl) named room;
}
counts-where {byte} false test counts = record {
  names = λ named now e. names-none byte named now e;
  asks = λ named now e is. absurd (cc);
  passes = λ good named room. (named, refl);
}

-- a test for each number below a count
pub counts-each : (byte : ℕ → ℕ) (n : ℕ) (test : ℕ → Test) (t : ℕ → Times) (good : ℕ → Type 0) →
    ((i : ℕ) → i < n → Counts byte (test i) (t i) (good i)) →
    Counts byte (for_each_below n test) (λ block. total n (λ i. t i block)) ((i : ℕ) → i < n → good i)
unfolding for_each_below total
counts-each byte zero test t good all = record {
  names = λ named now e. names-none byte named now e;
  asks = λ named now e i within. absurd (omega arith);
  passes = λ good named room. (named, refl);
}
counts-each byte (suc n) test t good all =
    counts-as (λ block. total n (λ i. t i block) + t n block) ((i : ℕ) → i < suc n → good i)
    (counts-then (for_each_below n test) (test n) (for_each_below (suc n) test) (λ named. refl)
    (counts-each byte n test t good (λ i within. all i (omega arith))) (all n (omega arith)))
    (λ both i within. elim (below_or_last i n within) [
      | inl below ↦ both.0 i below
      | inr last ↦ subst good (sym last) both.1
    ])
    (λ each. (λ i within. each i (omega arith), each n (omega arith)))
    (λ _ block. refl)

-- ---- a block

-- a block more is named
names-block : (byte : ℕ → ℕ) (block : ℕ) (named : Blocks) → named block ≡ false → is_marked_free byte block ≡ false →
    Names byte (λ q. bit_of (block == q)) named (upd named block true)
names-block byte block named new used = record {
  after = λ q. elim (cases_eq q block) [
    | inl e ↦ subst (λ b. bit_of (upd named block true b) ≡ bit_of (named b) + bit_of (block == b)) (sym e) here
    | inr ne ↦
        let other : (block == q) ≡ false = grind (arith, nat_tests) in
        ap bit_of (upd-other named block true q ne) ∙ bit-none (bit_of (named q))
        ∙ ap (λ (b : Bool). bit_of (named q) + bit_of b) (sym other)
  ];
  in_use = λ q some. elim (cases_eq q block) [
    | inl e ↦ ap (is_marked_free byte) e ∙ used
    | inr ne ↦
        let other : (block == q) ≡ false = grind (arith, nat_tests) in
        absurd (none (block == q) other some)
  ];
}
  where
    none : (b : Bool) → b ≡ false → 0 < bit_of b → ⊥
    none true e some = cc
    none false e some = omega arith

    here : bit_of (upd named block true block) ≡ bit_of (named block) + bit_of (block == block)
    here =
        let is : (block == block) ≡ true = grind (arith, nat_tests) in
        ap bit_of (upd-at named block true) ∙ ap (λ (b : Bool). bit_of false + bit_of b) (sym is)
        ∙ ap (λ (b : Bool). bit_of b + bit_of (block == block)) (sym new)

-- the last part of the test of a block
block_tail : (ℕ → ℕ) → ℕ → Test
block_tail byte block named =
    in_turn
    (demand (not (named block)) (NamedTwice block)
    ∷ demand (not (is_marked_free byte block)) (MarkedFree block)
    ∷ (λ before. Ok (upd before block true))
    ∷ [])
    named

counts-tail : (byte : ℕ → ℕ) (block : ℕ) → Counts byte (block_tail byte block) (λ q. bit_of (block == q)) (Unit {0})
unfolding block_tail in_turn
counts-tail byte block = record {
  names = λ named now e. passed named now (named block) (is_marked_free byte block) refl refl e;
  asks = λ named now e. tt;
  passes = λ good named room.
      let is : (block == block) ≡ true = grind (arith, nat_tests) in (
        upd named block true,
        made named (named block) (is_marked_free byte block)
            (not_named (named block) (subst (λ (b : Bool). bit_of (named block) + bit_of b ≤ 1) is (room.once block)))
            (room.in_use block (subst (λ (b : Bool). 0 < bit_of b) (sym is) (omega arith))),
      );
}
  where
    not_named : (b : Bool) → bit_of b + 1 ≤ 1 → b ≡ false
    not_named true h = absurd (omega arith)
    not_named false h = refl

    tail_of : Bool → Bool → Test
    tail_of before free named =
        in_turn
        (demand (not before) (NamedTwice block) ∷ demand (not free) (MarkedFree block) ∷ (λ before. Ok (upd before block true)) ∷ [])
        named

    passed : (named now : Blocks) (before free : Bool) → named block ≡ before → is_marked_free byte block ≡ free →
        tail_of before free named ≡ Ok now → Names byte (λ q. bit_of (block == q)) named now
    passed named now true free is used e = err-not-ok (NamedTwice block) now e
    passed named now false true is used e = err-not-ok (MarkedFree block) now e
    passed named now false false is used e =
        subst (λ (b : Blocks). Names byte (λ q. bit_of (block == q)) named b) (ok-same (upd named block true) now e)
        (names-block byte block named is used)

    made : (named : Blocks) (before free : Bool) → before ≡ false → free ≡ false → tail_of before free named ≡ Ok (upd named block true)
    made named before free is used = rw (is, used) refl

none-before : (n : ℕ) → 0 + n ≡ n
none-before n = omega arith

-- a test that was told by what was named before a demand
after_demand : (passes : Bool) (fault : ImageFault) (rest : Blocks → Test) (named : Blocks) →
    then_tested (demand passes fault named) (rest named) ≡ then_tested (demand passes fault named) (λ before. rest before before)
after_demand true fault rest named = refl
after_demand false fault rest named = refl

-- a block that is named is one that may be
pub counts-block : (byte : ℕ → ℕ) (block : ℕ) →
    Counts byte (block_test byte block) (λ q. bit_of (block == q)) (is_data_block (block_count byte) block ≡ true)
unfolding block_test block_tail in_turn
counts-block byte block =
    counts-as (λ q. bit_of (block == q)) (is_data_block (block_count byte) block ≡ true)
    (counts-then (demand (is_data_block (block_count byte) block) (Range block)) (block_tail byte block) (block_test byte block)
    (λ named.
    after_demand (is_data_block (block_count byte) block) (Range block)
    (λ before.
    in_turn
    (demand (not (before block)) (NamedTwice block)
    ∷ demand (not (is_marked_free byte block)) (MarkedFree block)
    ∷ (λ last. Ok (upd last block true))
    ∷ []))
    named)
    (counts-demand byte _ _) (counts-tail byte block))
    (λ both. both.0) (λ good. (good, tt)) (λ _ q. none-before (bit_of (block == q)))
