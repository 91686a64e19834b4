-- Tests of records that name the blocks of an interval one after another: none fails, and the interval grows.
use Rattle.std.proofs.Common.{◌≡◌, ◌∙◌, ◌+◌, ◌-◌, ◌<◌, ◌≤◌, ◌==◌, ◌&&◌, ◌||◌, inl, inr, ℕ, zero, suc, Bool, true}
use Rattle.std.proofs.Common.{false, List, [], ◌∷◌, not, min, Result, Ok, refl, ap, arith}
use Rattle.std.specs.Prelude.{nat_lt, nat_le}
use Rattle.std.proofs.lemmas.Bool.{cases_lt}
use Rattle.std.proofs.lemmas.Bool.Decides.{nat_tests}
use Rattle.jos_base.specs.Words.{upd}
use Rattle.fs_layout.specs.declared.numbers.TheConstants.{NDIRECT, NINDIRECT, MAXFILESIZE}
use Rattle.fs_layout.specs.FileTree.{needs_indirect, blocks_taken}
use Rattle.fs_layout.specs.DiskImage.{ImageFault, Range, NamedTwice, MarkedFree, Stray, Blocks, none_named, Test, demand}
use Rattle.fs_layout.specs.DiskImage.{only_where, then_tested, in_turn, for_each_below, block_count, is_data_block}
use Rattle.fs_layout.specs.DiskImage.{is_marked_free, size_of, kind_at, direct_of, indirect_of, number_in_indirect, has_indirect}
use Rattle.fs_layout.specs.DiskImage.{blocks_needed, block_test, number_test, indirect_test, numbers_tests, has_stray}
use Rattle.fs_layout.specs.DiskImage.{has_stray_in_indirect, stray_tests, is_good_size, record_tests}
use Rattle.fs_layout.proofs.OneTest.{demand_passes, where_not, where_so}
use Rattle.jos_base.proofs.Below.{some_below-none}

-- ---- tests that pass

-- a test that passes, and those after it
pub turn : (test : Test) (tests : List Test) (named then : Blocks) (last : Result Blocks ImageFault) → test named ≡ Ok then →
    in_turn tests then ≡ last → in_turn (test ∷ tests) named ≡ last
unfolding in_turn
turn test tests named then last first rest = ap (λ (r : Result Blocks ImageFault). then_tested r (in_turn tests)) first ∙ rest

-- no test more
pub no_turn : (named : Blocks) → in_turn [] named ≡ Ok named
unfolding in_turn
no_turn named = refl

-- ---- the blocks from one on and before another

-- those blocks, and how one is told
pub between : ℕ → ℕ → Blocks
between first last block = nat_le first block && nat_lt block last

pub between-is : (first last block : ℕ) → between first last block ≡ (nat_le first block && nat_lt block last)
unfolding between
between-is first last block = refl

-- at first there are none
pub between-none : (first : ℕ) → none_named ≡ between first first
unfolding between
between-none first = λ k block. at block k
  where
    at : (block : ℕ) → false ≡ (nat_le first block && nat_lt block first)
    at block = grind (arith, nat_tests)

-- the block right behind them is new
between-new : (first last : ℕ) → between first last last ≡ false
unfolding between
between-new first last = grind (arith, nat_tests)

-- and once it is named they are one more
between-more : (first last : ℕ) → first ≤ last → upd (between first last) last true ≡ between first (suc last)
unfolding between upd
between-more first last le = λ k block. at block k
  where
    at : (block : ℕ) → upd (between first last) last true block ≡ between first (suc last) block
    at block = grind (arith, nat_tests)

-- ---- a test for each of the blocks

-- tests each of which names the next blocks, up to the one that `at` gives
pub each-names : (n : ℕ) (test : ℕ → Test) (first : ℕ) (at : ℕ → ℕ) →
    ((i : ℕ) → i < n → test i (between first (at i)) ≡ Ok (between first (at (suc i)))) →
    for_each_below n test (between first (at 0)) ≡ Ok (between first (at n))
unfolding for_each_below
each-names zero test first at names = refl
each-names (suc n) test first at names =
    ap (λ (r : Result Blocks ImageFault). then_tested r (test n)) (each-names n test first at (λ i lt. names i (omega arith)))
    ∙ names n (omega arith)

-- The blocks from the first data block on and before this one are in use.
pub record Used (byte : ℕ → ℕ) (first used : ℕ) : Type 0 where
  pub first_data : (b : ℕ) → first ≤ b → b < used → is_data_block (block_count byte) b ≡ true
  pub marked : (b : ℕ) → b < used → is_marked_free byte b ≡ false
  pub some : 0 < first

-- a block in use
block-names : (byte : ℕ → ℕ) (first used block : ℕ) → Used byte first used → first ≤ block → block < used →
    block_test byte block (between first block) ≡ Ok (between first (suc block))
unfolding block_test
block-names byte first used block use_is from to =
    let old : Blocks = between first block in
    let new : Blocks = between first (suc block) in
    turn (demand (is_data_block (block_count byte) block) (Range block)) _ old old (Ok new)
    (demand_passes _ _ old (use_is.first_data block from to))
    (turn (demand (not (old block)) (NamedTwice block)) _ old old (Ok new)
    (demand_passes _ _ old (ap not (between-new first block)))
    (turn (demand (not (is_marked_free byte block)) (MarkedFree block)) _ old old (Ok new)
    (demand_passes _ _ old (ap not (use_is.marked block to)))
    (turn (λ before. Ok (upd before block true)) [] old new (Ok new)
    (ap (λ (b : Blocks). Ok b) (between-more first block from))
    (no_turn new))))

-- its number
number-names : (byte : ℕ → ℕ) (place first used number : ℕ) → Used byte first used → first ≤ number → number < used →
    number_test byte place number (between first number) ≡ Ok (between first (suc number))
unfolding number_test
number-names byte place first used number use_is from to =
    let old : Blocks = between first number in
    let new : Blocks = between first (suc number) in
    let positive : 0 < number = omega (arith, use_is.some) in
    let other : not (number == 0) ≡ true = grind (arith, nat_tests) in
    turn _ (block_test byte number ∷ []) old old (Ok new)
    (demand_passes _ _ old other)
    (turn (block_test byte number) [] old new (Ok new) (block-names byte first used number use_is from to) (no_turn new))

-- the same of a number that is read
number-read : (byte : ℕ → ℕ) (place first used number read : ℕ) → Used byte first used → first ≤ number → number < used →
    read ≡ number → number_test byte place read (between first number) ≡ Ok (between first (suc number))
number-read byte place first used number read use_is from to e =
    ap (λ (n : ℕ). number_test byte place n (between first number)) e ∙ number-names byte place first used number use_is from to

-- ---- a record whose blocks follow one another

-- Its blocks begin with this one. An indirect block comes right behind the tenth.
pub record LaidFrom (byte : ℕ → ℕ) (place first : ℕ) : Type 0 where
  pub direct : (i : ℕ) → i < NDIRECT → i < blocks_needed byte place → direct_of byte place i ≡ first + i
  pub no_more_direct : (i : ℕ) → i < NDIRECT → blocks_needed byte place ≤ i → direct_of byte place i ≡ 0
  pub indirect : NDIRECT < blocks_needed byte place → indirect_of byte place ≡ first + NDIRECT
  pub no_indirect : blocks_needed byte place ≤ NDIRECT → indirect_of byte place ≡ 0
  pub further : NDIRECT < blocks_needed byte place → (i : ℕ) → NDIRECT + i < blocks_needed byte place →
      number_in_indirect byte place i ≡ first + NDIRECT + 1 + i
  pub no_further : NDIRECT < blocks_needed byte place → (i : ℕ) → i < NINDIRECT → blocks_needed byte place ≤ NDIRECT + i →
      number_in_indirect byte place i ≡ 0
  pub fits : blocks_needed byte place ≤ NDIRECT + NINDIRECT

-- the blocks of the record at a place
abbrev pub span_at : (ℕ → ℕ) → ℕ → ℕ
span_at byte place = blocks_taken (size_of byte place) (needs_indirect (size_of byte place))

-- the tests of numbers that count up from a block
numbers-name : (byte : ℕ → ℕ) (place first used n from to : ℕ) (read : ℕ → ℕ) → Used byte first used → first ≤ from → from + n ≡ to → to ≤ used →
    ((i : ℕ) → i < n → read i ≡ from + i) →
    for_each_below n (λ i. number_test byte place (read i)) (between first from) ≡ Ok (between first to)
numbers-name byte place first used n from to read use_is le sum within reads =
    ap (λ (b : ℕ). for_each_below n (λ i. number_test byte place (read i)) (between first b)) (start from)
    ∙ each-names n (λ i. number_test byte place (read i)) first (λ i. from + i)
    (λ i lt.
    number-read byte place first used (from + i) (read i) use_is (omega arith) (omega arith) (reads i lt)
    ∙ ap (λ (b : ℕ). Ok (between first b)) (next from i))
    ∙ ap (λ (b : ℕ). Ok (between first b)) sum
  where
    start : (from : ℕ) → from ≡ from + 0
    start from = omega arith

    next : (from i : ℕ) → suc (from + i) ≡ from + suc i
    next from i = omega arith

-- those of a record without an indirect block
numbers-direct : (byte : ℕ → ℕ) (place first used from : ℕ) → Used byte first used → first ≤ from → LaidFrom byte place from →
    blocks_needed byte place ≤ NDIRECT → from + blocks_needed byte place ≤ used →
    in_turn (numbers_tests byte place) (between first from) ≡ Ok (between first (from + blocks_needed byte place))
unfolding numbers_tests indirect_test
numbers-direct byte place first used from use_is le laid few within =
    let needed : ℕ = blocks_needed byte place in
    let new : Blocks = between first (from + needed) in
    let last : Result Blocks ImageFault = Ok new in
    let no_number : indirect_of byte place ≡ 0 = laid.no_indirect few in
    let not_made : (needs_indirect (size_of byte place) || has_indirect byte place) ≡ false = grind (arith, nat_tests) in
    turn _ _ (between first from) new last
    (numbers-name byte place first used (min needed NDIRECT) from (from + needed) (direct_of byte place) use_is le (omega arith) within
    (λ i lt. laid.direct i (omega arith) (omega arith)))
    (turn _ _ new new last (where_not _ (number_test byte place (indirect_of byte place)) new not_made)
    (turn _ _ new new last
    (numbers-name byte place first used (needed - NDIRECT) (from + needed) (from + needed) (number_in_indirect byte place) use_is (omega arith) (omega arith) within
    (λ i lt. absurd (omega arith)))
    (no_turn new)))

-- those of a record with one
numbers-indirect : (byte : ℕ → ℕ) (place first used from : ℕ) → Used byte first used → first ≤ from → LaidFrom byte place from →
    NDIRECT < blocks_needed byte place → from + blocks_needed byte place + 1 ≤ used →
    in_turn (numbers_tests byte place) (between first from) ≡ Ok (between first (from + blocks_needed byte place + 1))
unfolding numbers_tests indirect_test
numbers-indirect byte place first used from use_is le laid many within =
    let needed : ℕ = blocks_needed byte place in
    let ten : Blocks = between first (from + NDIRECT) in
    let eleven : Blocks = between first (suc (from + NDIRECT)) in
    let new : Blocks = between first (from + needed + 1) in
    let last : Result Blocks ImageFault = Ok new in
    let made : (needs_indirect (size_of byte place) || has_indirect byte place) ≡ true = grind (arith, nat_tests) in
    turn _ _ (between first from) ten last
    (numbers-name byte place first used (min needed NDIRECT) from (from + NDIRECT) (direct_of byte place) use_is le (omega arith) (omega arith)
    (λ i lt. laid.direct i (omega arith) (omega arith)))
    (turn _ _ ten eleven last
    (where_so _ (number_test byte place (indirect_of byte place)) ten made
    ∙ number-read byte place first used (from + NDIRECT) (indirect_of byte place) use_is (omega arith) (omega arith) (laid.indirect many))
    (turn _ _ eleven new last
    (numbers-name byte place first used (needed - NDIRECT) (suc (from + NDIRECT)) (from + needed + 1) (number_in_indirect byte place) use_is (omega arith) (omega arith) within
    (λ i lt. further from i (number_in_indirect byte place i) (laid.further many i (omega arith))))
    (no_turn new)))
  where
    further : (from i number : ℕ) → number ≡ from + NDIRECT + 1 + i → number ≡ suc (from + NDIRECT) + i
    further from i number e = omega arith

-- those of either
pub numbers-named : (byte : ℕ → ℕ) (place first used from : ℕ) → Used byte first used → first ≤ from → LaidFrom byte place from →
    from + span_at byte place ≤ used →
    in_turn (numbers_tests byte place) (between first from) ≡ Ok (between first (from + span_at byte place))
numbers-named byte place first used from use_is le laid within = elim (cases_lt NDIRECT (blocks_needed byte place)) [
  | inr few ↦
      let span : from + blocks_needed byte place ≡ from + span_at byte place = grind (arith, nat_tests) in
      numbers-direct byte place first used from use_is le laid few (omega arith)
      ∙ ap (λ (b : ℕ). Ok (between first b)) span
  | inl many ↦
      let span : from + blocks_needed byte place + 1 ≡ from + span_at byte place = grind (arith, nat_tests) in
      numbers-indirect byte place first used from use_is le laid many (omega arith)
      ∙ ap (λ (b : ℕ). Ok (between first b)) span
]

-- ---- the numbers past the size

-- the record's own
not-stray : (byte : ℕ → ℕ) (place from : ℕ) → LaidFrom byte place from → has_stray byte place ≡ false
unfolding has_stray
not-stray byte place from laid = some_below-none _ NDIRECT (λ i lt. at i lt)
  where
    at : (i : ℕ) → i < NDIRECT → (nat_le (blocks_needed byte place) i && not (direct_of byte place i == 0)) ≡ false
    at i lt = grind (arith, nat_tests, laid.no_more_direct i lt)

-- those in the indirect block
not-stray_in_indirect : (byte : ℕ → ℕ) (place from : ℕ) → LaidFrom byte place from → NDIRECT < blocks_needed byte place →
    has_stray_in_indirect byte place ≡ false
unfolding has_stray_in_indirect
not-stray_in_indirect byte place from laid many = some_below-none _ NINDIRECT (λ i lt. at i lt)
  where
    at : (i : ℕ) → i < NINDIRECT → (nat_le (blocks_needed byte place) (NDIRECT + i) && not (number_in_indirect byte place i == 0)) ≡ false
    at i lt = grind (arith, nat_tests, laid.no_further many i lt)

-- and so the tests pass
strays-passed : (byte : ℕ → ℕ) (place from : ℕ) (named : Blocks) → LaidFrom byte place from → in_turn (stray_tests byte place) named ≡ Ok named
unfolding stray_tests
strays-passed byte place from named laid =
    turn _ _ named named (Ok named) (demand_passes _ _ named (ap not (not-stray byte place from laid)))
    (turn _ _ named named (Ok named) (elim (cases_lt NDIRECT (blocks_needed byte place)) [
      | inr few ↦ where_not _ _ named (no_number (laid.no_indirect few))
      | inl many ↦ only (demand (not (has_stray_in_indirect byte place)) (Stray place)) (has_indirect byte place) (demand_passes _ _ named (ap not (not-stray_in_indirect byte place from laid many)))
    ])
    (no_turn named))
  where
    no_number : indirect_of byte place ≡ 0 → has_indirect byte place ≡ false
    no_number e = grind (arith, nat_tests)

    only : (test : Test) (made : Bool) → test named ≡ Ok named → only_where made test named ≡ Ok named
    only test true passed = passed
    only test false passed = refl

-- ---- a whole record

-- after its tests its blocks are named
pub record-named : (byte : ℕ → ℕ) (place first used from : ℕ) → Used byte first used → first ≤ from → LaidFrom byte place from →
    from + span_at byte place ≤ used → is_good_size (kind_at byte place) (size_of byte place) ≡ true →
    in_turn (record_tests byte place) (between first from) ≡ Ok (between first (from + span_at byte place))
unfolding record_tests
record-named byte place first used from use_is le laid within good =
    let old : Blocks = between first from in
    let new : Blocks = between first (from + span_at byte place) in
    let needed_fits = laid.fits in
    let short : nat_le (size_of byte place) MAXFILESIZE ≡ true = grind (arith, nat_tests) in
    turn _ _ old old (Ok new) (demand_passes _ _ old good)
    (turn _ _ old old (Ok new) (demand_passes _ _ old short)
    (turn _ _ old new (Ok new) (numbers-named byte place first used from use_is le laid within)
    (turn _ _ new new (Ok new) (strays-passed byte place from new laid) (no_turn new))))
