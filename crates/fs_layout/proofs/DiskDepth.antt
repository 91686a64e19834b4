-- Why the depth that bounds the walk over the directories is never used up: with each directory on the way down there
-- is one block less that isn't named, and there are no more of these than blocks.
use Rattle.std.proofs.Common.{◌≡◌, ◌∙◌, ◌+◌, ◌/◌, ◌<◌, ◌≤◌, ◌⊎◌, inl, inr, ℕ, zero, suc, Bool, true}
use Rattle.std.proofs.Common.{false, List, [], ◌∷◌, not, min, Result, Ok, Err, refl, sym, ap, arith}
use Rattle.jos_base.specs.Words.{upd}
use Rattle.fs_layout.specs.DiskImage.{ImageFault, Range, NamedTwice, MarkedFree, Blocks, none_named, Test, demand}
use Rattle.fs_layout.specs.DiskImage.{only_where, then_tested, in_turn, for_each_below, block_count, is_data_block}
use Rattle.fs_layout.specs.DiskImage.{is_marked_free, slot_count, block_test, number_test, indirect_test}
use Rattle.fs_layout.specs.DiskImage.{numbers_tests, stray_tests, record_tests, slot_tests, slot_test, slot_place}
use Rattle.fs_layout.specs.DiskImage.{is_empty_record, is_directory_at, contents_test, root_place}
use Rattle.fs_layout.specs.DiskLaws.{DepthSuffices}
use Rattle.std.proofs.lemmas.Bool.{cases_eq, not-true}
use Rattle.jos_base.proofs.Maps.{upd-at, upd-other}
use Rattle.fs_layout.proofs.OneTest.{data_block_below}

-- ---- how many numbers below a count are not named

abbrev one_if_not : Bool → ℕ
one_if_not true = 0
one_if_not false = 1

unnamed_below : ℕ → Blocks → ℕ
unnamed_below zero named = 0
unnamed_below (suc n) named = unnamed_below n named + one_if_not (named n)

unnamed_below-none : (n : ℕ) → unnamed_below n none_named ≤ n
unfolding unnamed_below
unnamed_below-none zero = omega arith
unnamed_below-none (suc n) = let rest = unnamed_below-none n in omega arith

unnamed_below-past : (n block : ℕ) (named : Blocks) → n ≤ block →
    unnamed_below n (upd named block true) ≡ unnamed_below n named
unfolding unnamed_below
unnamed_below-past zero block named past = refl
unnamed_below-past (suc n) block named past =
    let rest = unnamed_below-past n block named (omega arith) in
    let here = ap one_if_not (upd-other named block true n (omega arith)) in
    omega arith

-- one block more is named
unnamed_below-upd : (n block : ℕ) (named : Blocks) → block < n → named block ≡ false →
    unnamed_below n (upd named block true) + 1 ≡ unnamed_below n named
unfolding unnamed_below
unnamed_below-upd zero block named within new = absurd (omega arith)
unnamed_below-upd (suc n) block named within new = elim (cases_eq n block) [
  | inl e ↦
      let rest = unnamed_below-past n block named (omega arith) in
      let is_named : upd named block true n ≡ true = cc (upd-at named block true) in
      let was_not : named n ≡ false = cc in
      let after_it = ap one_if_not is_named in
      let before_it = ap one_if_not was_not in
      omega arith
  | inr ne ↦
      let rest = unnamed_below-upd n block named (omega arith) new in
      let here = ap one_if_not (upd-other named block true n ne) in
      omega arith
]

-- how many blocks of the image are not named
pub unnamed : (ℕ → ℕ) → Blocks → ℕ
unnamed byte named = unnamed_below (block_count byte) named

pub unnamed-none : (byte : ℕ → ℕ) → unnamed byte none_named ≤ block_count byte
unfolding unnamed
unnamed-none byte = unnamed_below-none (block_count byte)

unnamed-upd : (byte : ℕ → ℕ) (block : ℕ) (named : Blocks) → block < block_count byte → named block ≡ false →
    unnamed byte (upd named block true) + 1 ≡ unnamed byte named
unfolding unnamed
unnamed-upd byte block named within new = unnamed_below-upd (block_count byte) block named within new

-- ---- what holds of the named blocks after tests

-- this holds of them, where no fault was told
abbrev pub Meets : (Blocks → Type 0) → Result Blocks ImageFault → Type 0
Meets holds (Ok named) = holds named
Meets holds (Err fault) = Unit {0}

meets-all : (holds : Blocks → Type 0) (result : Result Blocks ImageFault) → ((named : Blocks) → holds named) →
    Meets holds result
meets-all holds (Ok named) all = all named
meets-all holds (Err fault) all = tt

meets-map : (first then : Blocks → Type 0) (result : Result Blocks ImageFault) →
    ((named : Blocks) → first named → then named) → Meets first result → Meets then result
meets-map first then (Ok named) all met = all named met
meets-map first then (Err fault) all met = tt

meets-after : (first then : Blocks → Type 0) (result : Result Blocks ImageFault) (test : Test) → Meets first result →
    ((named : Blocks) → first named → Meets then (test named)) → Meets then (then_tested result test)
meets-after first then (Ok named) test met all = all named met
meets-after first then (Err fault) test met all = tt

meets-demand : (holds : Blocks → Type 0) (passes : Bool) (fault : ImageFault) (named : Blocks) (rest : Test) →
    (passes ≡ true → Meets holds (rest named)) → Meets holds (then_tested (demand passes fault named) rest)
meets-demand holds true fault named rest met = met refl
meets-demand holds false fault named rest met = tt

meets-passed : (holds : Blocks → Type 0) (passes : Bool) (fault : ImageFault) (named : Blocks) → holds named →
    Meets holds (demand passes fault named)
meets-passed holds true fault named met = met
meets-passed holds false fault named met = tt

-- A test and one that agrees with it where this holds. `Meets` says that it holds when they are made.
same-after : (holds : Blocks → Type 0) (result : Result Blocks ImageFault) (one other : Test) → Meets holds result →
    ((named : Blocks) → holds named → one named ≡ other named) → then_tested result one ≡ then_tested result other
same-after holds (Ok named) one other met same = same named met
same-after holds (Err fault) one other met same = refl

same-in_turn : (holds : Blocks → Type 0) (test : Test) (ones others : List Test) (named : Blocks) →
    Meets holds (test named) → ((then : Blocks) → holds then → in_turn ones then ≡ in_turn others then) →
    in_turn (test ∷ ones) named ≡ in_turn (test ∷ others) named
unfolding in_turn
same-in_turn holds test ones others named met same =
    same-after holds (test named) (in_turn ones) (in_turn others) met same

-- ---- tests that name blocks

-- there are no more unnamed blocks after the test than before
pub record Keeps (byte : ℕ → ℕ) (test : Test) : Type 0 where
  pub keeps : (bound : ℕ) (named : Blocks) → unnamed byte named < bound →
      Meets (λ then. unnamed byte then < bound) (test named)

-- there are fewer, since the test names a block that wasn't named
record Uses (byte : ℕ → ℕ) (test : Test) : Type 0 where
  uses : (bound : ℕ) (named : Blocks) → unnamed byte named ≤ bound →
      Meets (λ then. unnamed byte then < bound) (test named)

uses-keeps : {byte : ℕ → ℕ} {test : Test} → Uses byte test → Keeps byte test
uses-keeps u = record { keeps = λ bound named below. u.uses bound named (omega arith) }

keeps-demand : (byte : ℕ → ℕ) (passes : Bool) (fault : ImageFault) → Keeps byte (demand passes fault)
keeps-demand byte true fault = record { keeps = λ bound named below. below }
keeps-demand byte false fault = record { keeps = λ bound named below. tt }

pub keeps-where : {byte : ℕ → ℕ} {test : Test} (made : Bool) → Keeps byte test → Keeps byte (only_where made test)
keeps-where true k = record { keeps = λ bound named below. k.keeps bound named below }
keeps-where false k = record { keeps = λ bound named below. below }

-- tests one after another
keeps-no_tests : (byte : ℕ → ℕ) → Keeps byte (in_turn [])
unfolding in_turn
keeps-no_tests byte = record { keeps = λ bound named below. below }

keeps-more : {byte : ℕ → ℕ} {test : Test} (rest : List Test) → Keeps byte test → Keeps byte (in_turn rest) →
    Keeps byte (in_turn (test ∷ rest))
unfolding in_turn
keeps-more {byte} {test} rest k l = record {
  keeps = λ bound named below.
      meets-after (λ then. unnamed byte then < bound) (λ then. unnamed byte then < bound) (test named) (in_turn rest)
      (k.keeps bound named below) (l.keeps bound);
}

uses-first : {byte : ℕ → ℕ} {test : Test} (rest : List Test) → Uses byte test → Keeps byte (in_turn rest) →
    Uses byte (in_turn (test ∷ rest))
unfolding in_turn
uses-first {byte} {test} rest u k = record {
  uses = λ bound named below.
      meets-after (λ then. unnamed byte then < bound) (λ then. unnamed byte then < bound) (test named) (in_turn rest)
      (u.uses bound named below) (k.keeps bound);
}

uses-later : {byte : ℕ → ℕ} {test : Test} (rest : List Test) → Keeps byte test → Uses byte (in_turn rest) →
    Uses byte (in_turn (test ∷ rest))
unfolding in_turn
uses-later {byte} {test} rest k u = record {
  uses = λ bound named below.
      meets-after (λ then. unnamed byte then < suc bound) (λ then. unnamed byte then < bound) (test named)
      (in_turn rest)
      (k.keeps (suc bound) named (omega arith)) (λ then below_then. u.uses bound then (omega arith));
}

-- a test for each number below a count
pub keeps-each : (byte : ℕ → ℕ) (n : ℕ) (test : ℕ → Test) → ((i : ℕ) → Keeps byte (test i)) →
    Keeps byte (for_each_below n test)
unfolding for_each_below
keeps-each byte zero test all = record { keeps = λ bound named below. below }
keeps-each byte (suc n) test all = record {
  keeps = λ bound named below.
      meets-after (λ then. unnamed byte then < bound) (λ then. unnamed byte then < bound)
      (for_each_below n test named) (test n)
      ((keeps-each byte n test all).keeps bound named below) ((all n).keeps bound);
}

uses-each : (byte : ℕ → ℕ) (n : ℕ) (test : ℕ → Test) → 0 < n → ((i : ℕ) → Uses byte (test i)) →
    Uses byte (for_each_below n test)
unfolding for_each_below
uses-each byte zero test some all = absurd (omega arith)
uses-each byte (suc n) test some all = record {
  uses = λ bound named below.
      meets-after (λ then. unnamed byte then < suc bound) (λ then. unnamed byte then < bound)
      (for_each_below n test named) (test n)
      ((keeps-each byte n test (λ i. uses-keeps (all i))).keeps (suc bound) named (omega arith))
      (λ then below_then. (all n).uses bound then (omega arith));
}

-- tests that agree where few blocks are unnamed
same-each : (byte : ℕ → ℕ) (bound n : ℕ) (one other : ℕ → Test) → ((i : ℕ) → Keeps byte (one i)) →
    ((i : ℕ) (named : Blocks) → unnamed byte named < bound → one i named ≡ other i named) →
    (named : Blocks) → unnamed byte named < bound → for_each_below n one named ≡ for_each_below n other named
unfolding for_each_below
same-each byte bound zero one other keeps same named below = refl
same-each byte bound (suc n) one other keeps same named below =
    same-after (λ then. unnamed byte then < bound) (for_each_below n one named) (one n) (other n)
    ((keeps-each byte n one keeps).keeps bound named below) (same n)
    ∙ ap (λ (r : Result Blocks ImageFault). then_tested r (other n)) (same-each byte bound n one other keeps same named below)

-- ---- the tests of a record

uses-block : (byte : ℕ → ℕ) (block : ℕ) → Uses byte (block_test byte block)
unfolding block_test in_turn
uses-block byte block = record {
  uses = λ bound named below.
      let holds : Blocks → Type 0 = λ then. unnamed byte then < bound in
      meets-demand holds (is_data_block (block_count byte) block) (Range block) named
      (in_turn
      (demand (not (named block)) (NamedTwice block)
      ∷ demand (not (is_marked_free byte block)) (MarkedFree block)
      ∷ (λ before. Ok (upd before block true))
      ∷ []))
      (λ is_data.
      meets-demand holds (not (named block)) (NamedTwice block) named
      (in_turn
      (demand (not (is_marked_free byte block)) (MarkedFree block)
      ∷ (λ before. Ok (upd before block true))
      ∷ []))
      (λ is_new.
      meets-demand holds (not (is_marked_free byte block)) (MarkedFree block) named
      (in_turn ((λ before. Ok (upd before block true)) ∷ []))
      (λ in_use.
      let within = data_block_below (block_count byte) block is_data in
      let one_less = unnamed-upd byte block named within (not-true (named block) is_new) in
      omega arith)));
}

uses-number : (byte : ℕ → ℕ) (place number : ℕ) → Uses byte (number_test byte place number)
unfolding number_test
uses-number byte place number =
    uses-later _ (keeps-demand byte _ _) (uses-first _ (uses-block byte number) (keeps-no_tests byte))

keeps-indirect : (byte : ℕ → ℕ) (place : ℕ) → Keeps byte (indirect_test byte place)
unfolding indirect_test
keeps-indirect byte place = keeps-where _ (uses-keeps (uses-number byte place _))

keeps-numbers : (byte : ℕ → ℕ) (place : ℕ) → Keeps byte (in_turn (numbers_tests byte place))
unfolding numbers_tests
keeps-numbers byte place =
    keeps-more _ (keeps-each byte _ _ (λ i. uses-keeps (uses-number byte place _)))
    (keeps-more _ (keeps-indirect byte place)
    (keeps-more _ (keeps-each byte _ _ (λ i. uses-keeps (uses-number byte place _))) (keeps-no_tests byte)))

-- by its size, for one that has records
has_block : (size : ℕ) → 0 < size / 256 → 0 < min ((size + 4095) / 4096) 10
has_block size some = omega arith

uses-numbers : (byte : ℕ → ℕ) (place : ℕ) → 0 < slot_count byte place → Uses byte (in_turn (numbers_tests byte place))
unfolding numbers_tests
uses-numbers byte place some =
    uses-first _ (uses-each byte _ _ (has_block _ some) (λ i. uses-number byte place _))
    (keeps-more _ (keeps-indirect byte place)
    (keeps-more _ (keeps-each byte _ _ (λ i. uses-keeps (uses-number byte place _))) (keeps-no_tests byte)))

keeps-stray : (byte : ℕ → ℕ) (place : ℕ) → Keeps byte (in_turn (stray_tests byte place))
unfolding stray_tests
keeps-stray byte place =
    keeps-more _ (keeps-demand byte _ _) (keeps-more _ (keeps-where _ (keeps-demand byte _ _)) (keeps-no_tests byte))

keeps-record : (byte : ℕ → ℕ) (place : ℕ) → Keeps byte (in_turn (record_tests byte place))
unfolding record_tests
keeps-record byte place =
    keeps-more _ (keeps-demand byte _ _)
    (keeps-more _ (keeps-demand byte _ _)
    (keeps-more _ (keeps-numbers byte place) (keeps-more _ (keeps-stray byte place) (keeps-no_tests byte))))

uses-record : (byte : ℕ → ℕ) (place : ℕ) → 0 < slot_count byte place → Uses byte (in_turn (record_tests byte place))
unfolding record_tests
uses-record byte place some =
    uses-later _ (keeps-demand byte _ _)
    (uses-later _ (keeps-demand byte _ _)
    (uses-first _ (uses-numbers byte place some) (keeps-more _ (keeps-stray byte place) (keeps-no_tests byte))))

-- ---- the walk

-- This depth suffices for what stands below a record whose tests were made: there is nothing, or fewer blocks are
-- unnamed.
abbrev pub Suffices : (ℕ → ℕ) → ℕ → ℕ → Blocks → Type 0
Suffices byte place depth named = 0 < slot_count byte place → unnamed byte named < depth

none_or_some : (n : ℕ) → (n ≡ 0) ⊎ (0 < n)
none_or_some zero = inl refl
none_or_some (suc n) = inr (omega arith)

-- a directory that has records names a block
pub record-suffices : (byte : ℕ → ℕ) (place depth : ℕ) (named : Blocks) → unnamed byte named ≤ depth →
    Meets (Suffices byte place depth) (in_turn (record_tests byte place) named)
record-suffices byte place depth named enough = elim (none_or_some (slot_count byte place)) [
  | inl none ↦
      meets-all (Suffices byte place depth) (in_turn (record_tests byte place) named)
      (λ then some. absurd (none-some _ none some))
  | inr some ↦
      meets-map (λ then. unnamed byte then < depth) (Suffices byte place depth)
      (in_turn (record_tests byte place) named)
      (λ then below _. below) ((uses-record byte place some).uses depth named enough)
]
  where
    none-some : (n : ℕ) → n ≡ 0 → 0 < n → ⊥
    none-some n none some = omega arith

same-where : (made : Bool) (one other : Test) (named : Blocks) → one named ≡ other named →
    only_where made one named ≡ only_where made other named
same-where true one other named same = same
same-where false one other named same = refl

same-last : (one other : Test) (named : Blocks) → one named ≡ other named →
    in_turn (one ∷ []) named ≡ in_turn (other ∷ []) named
unfolding in_turn
same-last one other named same = ap (λ (r : Result Blocks ImageFault). then_tested r (in_turn [])) same

-- one record, by what the walk below it gives
same-slot_tests : (byte : ℕ → ℕ) (directory i depth : ℕ) (one other : ℕ → Test) →
    ((place : ℕ) (named : Blocks) → Suffices byte place depth named → one place named ≡ other place named) →
    (named : Blocks) → unnamed byte named < suc depth →
    in_turn (slot_tests one byte directory i) named ≡ in_turn (slot_tests other byte directory i) named
unfolding slot_tests
same-slot_tests byte directory i depth one other same named enough =
    let few : Blocks → Type 0 = λ then. unnamed byte then < suc depth in
    let place : ℕ = slot_place byte directory i in
    let enough_below : Blocks → Type 0 = Suffices byte place depth in
    same-in_turn few _ _ _ named (meets-passed few _ _ named enough) (λ n1 few1.
    same-in_turn few _ _ _ n1 (meets-passed few _ _ n1 few1) (λ n2 few2.
    same-in_turn enough_below _ _ _ n2 (record-suffices byte place depth n2 (omega arith)) (λ n3 suffices.
    same-in_turn enough_below _ _ _ n3 (meets-passed enough_below _ _ n3 suffices) (λ n4 still.
    same-last _ _ n4 (same-where (is_directory_at byte place) (one place) (other place) n4 (same place n4 still))))))

same-slot : (byte : ℕ → ℕ) (directory i depth : ℕ) (one other : ℕ → Test) →
    ((place : ℕ) (named : Blocks) → Suffices byte place depth named → one place named ≡ other place named) →
    (named : Blocks) → unnamed byte named < suc depth →
    slot_test one byte directory i named ≡ slot_test other byte directory i named
same-slot byte directory i depth one other same named enough =
    same-where (not (is_empty_record byte (slot_place byte directory i))) (in_turn (slot_tests one byte directory i))
    (in_turn (slot_tests other byte directory i)) named
    (same-slot_tests byte directory i depth one other same named enough)

pub keeps-slot_tests : (byte : ℕ → ℕ) (directory i : ℕ) (onward : ℕ → Test) → ((place : ℕ) → Keeps byte (onward place)) →
    Keeps byte (in_turn (slot_tests onward byte directory i))
unfolding slot_tests
keeps-slot_tests byte directory i onward keeps =
    keeps-more _ (keeps-demand byte _ _)
    (keeps-more _ (keeps-demand byte _ _)
    (keeps-more _ (keeps-record byte _)
    (keeps-more _ (keeps-demand byte _ _) (keeps-more _ (keeps-where _ (keeps _)) (keeps-no_tests byte)))))

pub keeps-contents : (byte : ℕ → ℕ) (depth place : ℕ) → Keeps byte (contents_test depth byte place)
unfolding contents_test
keeps-contents byte zero place = record { keeps = λ bound named below. below }
keeps-contents byte (suc depth) place =
    keeps-each byte (slot_count byte place) (slot_test (contents_test depth byte) byte place)
    (λ i. keeps-where _ (keeps-slot_tests byte place i (contents_test depth byte) (keeps-contents byte depth)))

none-below : (n : ℕ) (test : ℕ → Test) (named : Blocks) → n ≡ 0 → for_each_below n test named ≡ Ok named
unfolding for_each_below
none-below zero test named none = refl
none-below (suc n) test named none = absurd (omega arith)

-- What stands below a directory, by a walk of a depth that suffices and by a deeper one: the depth falls by one with
-- each directory, and the number of unnamed blocks by one at least.
same-contents : (byte : ℕ → ℕ) (depth more place : ℕ) → depth ≤ more → (named : Blocks) →
    Suffices byte place depth named → contents_test depth byte place named ≡ contents_test more byte place named
unfolding contents_test
same-contents byte zero zero place le named suffices = refl
same-contents byte zero (suc more) place le named suffices =
    sym (none-below (slot_count byte place) (slot_test (contents_test more byte) byte place) named
    (none-if (slot_count byte place) (unnamed byte named) suffices))
  where
    none-if : (n left : ℕ) → (0 < n → left < 0) → n ≡ 0
    none-if zero left h = refl
    none-if (suc n) left h = let impossible = h (omega arith) in absurd (omega arith)
same-contents byte (suc depth) zero place le named suffices = absurd (omega arith)
same-contents byte (suc depth) (suc more) place le named suffices =
    elim (none_or_some (slot_count byte place)) [
      | inl none ↦
          none-below (slot_count byte place) (slot_test (contents_test depth byte) byte place) named none
          ∙ sym (none-below (slot_count byte place) (slot_test (contents_test more byte) byte place) named none)
      | inr some ↦
          same-each byte (suc depth) (slot_count byte place) (slot_test (contents_test depth byte) byte place)
          (slot_test (contents_test more byte) byte place)
          (λ i. keeps-where _ (keeps-slot_tests byte place i (contents_test depth byte) (keeps-contents byte depth)))
          (λ i. same-slot byte place i depth (contents_test depth byte) (contents_test more byte)
          (λ below. same-contents byte depth more below (omega arith)))
          named (suffices some)
    ]

pub depth-suffices : DepthSuffices
depth-suffices byte depth le =
    same-after (Suffices byte root_place (block_count byte)) (in_turn (record_tests byte root_place) none_named)
    (contents_test depth byte root_place) (contents_test (block_count byte) byte root_place)
    (record-suffices byte root_place (block_count byte) none_named (unnamed-none byte))
    (λ then suffices. sym (same-contents byte (block_count byte) depth root_place le then suffices))
