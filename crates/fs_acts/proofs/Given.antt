-- A file's last block is given back.
use Rattle.std.proofs.Common.{◌≡◌, ◌≢◌, ◌∙◌, ◌⊎◌, inl, inr, ℕ, ◌+◌, ◌-◌, ◌*◌, ◌/◌, ◌%◌, ◌^◌, ◌<◌, ◌≤◌, ◌==◌, ◌&&◌, suc, Bool}
use Rattle.std.proofs.Common.{true, false, not, List, length, take, refl, sym, ap, subst, arith}
use Rattle.std.specs.Prelude.{nat_le, nat_lt}
use Rattle.std.proofs.lemmas.Bool.{cases_eq}
use Rattle.std.proofs.lemmas.Bool.Decides.{nat_tests}
use Rattle.std.proofs.lemmas.List.{length-take-le, get_or-take}
use Rattle.jos_base.specs.Counting.{total}
use Rattle.jos_base.specs.Environments.{bit_of}
use Rattle.jos_base.proofs.Sums.{total-same}
use Rattle.fs_layout.specs.declared.numbers.TheConstants.{BLKSIZE, MAXNAMELEN, NDIRECT, NINDIRECT}
use Rattle.fs_layout.specs.FileTree.{Node, a_file, blocks_of}
use Rattle.jos_base.specs.Below.{values_below}
use Rattle.fs_layout.specs.DiskImage.{block_count, root_place, is_data_block, size_of, direct_of, indirect_of, is_directory_at}
use Rattle.fs_layout.specs.DiskImage.{has_indirect, blocks_needed, number_in_indirect, block_number_at, has_stray, has_stray_in_indirect}
use Rattle.fs_layout.specs.DiskImage.{is_marked_free}
use Rattle.fs_layout.specs.DiskFiles.{file_byte, file_bytes}
use Rattle.jos_base.proofs.Below.{some_below-none, length-values, get_or-values, is-values}
use Rattle.fs_acts.specs.BlockActs.{put_byte, put_word, stored, written, mark_place, number_place, give_block}
use Rattle.fs_acts.specs.BlockLaws.{IsGoodRecord, own_times, times_named, Holds, NowHas, GivenBlocksAreLost}
use Rattle.fs_acts.proofs.Fields.{same-directory}
use Rattle.fs_acts.proofs.Named.{own-one, own-both, own-indirect, times-own}
use Rattle.fs_acts.proofs.Records.{own-good, SameBlocks}
use Rattle.fs_acts.proofs.OneWay.{way-is, way-times}
use Rattle.fs_acts.proofs.Staying.{file-stays}
use Rattle.fs_acts.proofs.OneRecord.{changed-gives_on}
use Rattle.fs_acts.proofs.AtEnd.{AtEnd, at-end, held-node, data-first, Elsewhere, own-stay, bytes-stay, map-block, InMap, off-mark, mark-beyond}
use Rattle.fs_acts.proofs.BlockPuts.{below_or_past, Beyond, WordPut, word-put, BytePut, byte-put}
use Rattle.fs_acts.proofs.Marks.{Freed, freed-marks, this_block, no_block}
use Rattle.fs_acts.proofs.Indirects.{map-loose}
use Rattle.fs_acts.proofs.Blocks.{IsFile, held-file, file-now, NumberAt, number-at, stray-none, behind-none}
use Rattle.fs_acts.proofs.NumberPut.{InPlace, NumberPut, put-kind, put-label, put-indirect, put-number, put-behind, put-direct, put-now, beyond-word, word-kept}
use Rattle.fs_acts.proofs.DiskCounts.{image-counted}
use Rattle.fs_acts.proofs.TreeBlocks.{data-below}

-- ---- the record afterwards

-- A record with one block less: the number of its last block is 0.
record OneLess (byte other : ℕ → ℕ) (place last : ℕ) : Type 0 where
  put : NumberPut byte other place last 0 (BLKSIZE * last)
  good : IsGoodRecord byte place
  many : blocks_needed byte place ≡ suc last
  kind : is_directory_at byte place ≡ false

few_blocks : (size : ℕ) → size ≤ 4235264 → (size + 4095) / 4096 ≤ 1034
few_blocks size short = omega arith

less-few : {byte other : ℕ → ℕ} {place last : ℕ} → OneLess byte other place last → last < 1034
less-few {byte} {other} {place} less =
    let few = few_blocks (size_of byte place) less.good.readable.short in
    let many = less.many in omega (arith, few, many)

less-indirect : {byte other : ℕ → ℕ} {place last : ℕ} → OneLess byte other place last → indirect_of byte place ≡ indirect_of other place
less-indirect {byte} {other} {place} {last} less = elim (below_or_past last NDIRECT) [
  | inl near ↦ put-indirect less.put (inr near) (less-few less)
  | inr far ↦
      let many = less.many in put-indirect less.put (inl (less.good.needed (omega (arith, far, many)))) (less-few less)
]

less-has : {byte other : ℕ → ℕ} {place last : ℕ} → OneLess byte other place last → has_indirect byte place ≡ has_indirect other place
less-has less = ap (λ n. not (n == 0)) (less-indirect less)

less-needed : {byte other : ℕ → ℕ} {place last : ℕ} → OneLess byte other place last → blocks_needed other place ≡ last
less-needed {byte} {other} {place} {last} less =
    ap (λ n. (n + (BLKSIZE - 1)) / BLKSIZE) less.put.sized ∙ whole last
  where
    whole : (n : ℕ) → (4096 * n + 4095) / 4096 ≡ n
    whole n = omega arith

less-number : {byte other : ℕ → ℕ} {place last : ℕ} → OneLess byte other place last → (i : ℕ) → i < last →
    block_number_at byte place i ≡ block_number_at other place i
less-number {byte} {other} {place} {last} less i below =
    let few = less-few less in
    let many = less.many in
    put-number less.put (less-indirect less) i (omega (arith, below, few)) (λ e. omega (arith, e, below))
    (λ far. less.good.needed (omega (arith, far, below, many)))

pub and-low : (b c : Bool) → b ≡ false → (b && c) ≡ false
and-low b c e = rw e refl

pub and-zero : (b : Bool) (n : ℕ) → n ≡ 0 → (b && not (n == 0)) ≡ false
and-zero true n e = ap (λ m. not (m == 0)) e
and-zero false n e = refl

pub le-false : (a b : ℕ) → b < a → nat_le a b ≡ false
le-false a b lt = grind (arith, nat_tests)

pub number-direct : (other : ℕ → ℕ) (place i : ℕ) → i < NDIRECT → block_number_at other place i ≡ direct_of other place i
number-direct other place i below = let is : nat_lt i 10 ≡ true = grind (arith, nat_tests) in rw is refl

number-behind : (other : ℕ → ℕ) (place i : ℕ) → block_number_at other place (NDIRECT + i) ≡ number_in_indirect other place i
number-behind other place i =
    let is : nat_lt (10 + i) 10 ≡ false = grind (arith, nat_tests) in
    let at : (10 + i) - 10 ≡ i = omega arith in
    rw is (ap (number_in_indirect other place) at)

less-stray : {byte other : ℕ → ℕ} {place last : ℕ} → OneLess byte other place last → has_stray other place ≡ false
unfolding has_stray
less-stray {byte} {other} {place} {last} less =
    some_below-none (λ i. nat_le (blocks_needed other place) i && not (direct_of other place i == 0)) NDIRECT
    (λ i below. elim (below_or_past i last) [
      | inl low ↦
          let needed = less-needed less in
          and-low (nat_le (blocks_needed other place) i) (not (direct_of other place i == 0))
          (le-false (blocks_needed other place) i (omega (arith, low, needed)))
      | inr past ↦ and-zero (nat_le (blocks_needed other place) i) (direct_of other place i) (zero-direct i below past)
    ])
  where
    zero-direct : (i : ℕ) → i < NDIRECT → last ≤ i → direct_of other place i ≡ 0
    zero-direct i below past = elim (cases_eq i last) [
      | inl e ↦
          sym (number-direct other place i below) ∙ ap (block_number_at other place) e ∙ put-now less.put (less-indirect less)
      | inr ne ↦
          let many = less.many in
          sym (put-direct less.put i below ne) ∙ stray-none byte place i less.good.no_stray below (omega (arith, past, ne, many))
    ]

less-behind : {byte other : ℕ → ℕ} {place last : ℕ} → OneLess byte other place last → has_indirect byte place ≡ true →
    has_stray_in_indirect other place ≡ false
unfolding has_stray_in_indirect
less-behind {byte} {other} {place} {last} less has =
    some_below-none
    (λ i. nat_le (blocks_needed other place) (NDIRECT + i) && not (number_in_indirect other place i == 0)) NINDIRECT
    (λ i below. elim (below_or_past (NDIRECT + i) last) [
      | inl low ↦
          let needed = less-needed less in
          and-low (nat_le (blocks_needed other place) (NDIRECT + i)) (not (number_in_indirect other place i == 0))
          (le-false (blocks_needed other place) (NDIRECT + i) (omega (arith, low, needed)))
      | inr past ↦ and-zero (nat_le (blocks_needed other place) (NDIRECT + i)) (number_in_indirect other place i) (zero-behind i below past)
    ])
  where
    zero-behind : (i : ℕ) → i < NINDIRECT → last ≤ NDIRECT + i → number_in_indirect other place i ≡ 0
    zero-behind i below past = elim (cases_eq (NDIRECT + i) last) [
      | inl e ↦
          sym (number-behind other place i) ∙ ap (block_number_at other place) e ∙ put-now less.put (less-indirect less)
      | inr ne ↦
          let many = less.many in
          sym (put-behind less.put (less-indirect less) has i below ne)
          ∙ behind-none byte place i (less.good.none_behind has) below (omega (arith, past, ne, many))
    ]

clash : (b : Bool) → b ≡ true → b ≡ false → ⊥
clash true is no_more = cc
clash false is no_more = cc

less-kind : {byte other : ℕ → ℕ} {place last : ℕ} → OneLess byte other place last → is_directory_at other place ≡ false
less-kind {byte} {other} {place} less = sym (same-directory byte other place (put-kind less.put)) ∙ less.kind

less-good : {byte other : ℕ → ℕ} {place last : ℕ} → OneLess byte other place last → block_count byte ≡ block_count other →
    IsGoodRecord other place
less-good {byte} {other} {place} {last} less count =
    let few = less-few less in
    let needed = less-needed less in
    let many = less.many in
    record {
      readable = record {
        whole = λ is. absurd (clash (is_directory_at other place) is (less-kind less));
        short = let size = less.put.sized in omega (arith, few, size);
        within = λ i below.
            let inside : i < last = omega (arith, below, needed) in
            ap (λ n. is_data_block n (block_number_at other place i)) (sym count)
            ∙ ap (is_data_block (block_count byte)) (sym (less-number less i inside))
            ∙ less.good.readable.within i (omega (arith, inside, many));
      };
      indirect = λ has.
          ap (λ n. is_data_block n (indirect_of other place)) (sym count)
          ∙ ap (is_data_block (block_count byte)) (sym (less-indirect less))
          ∙ less.good.indirect (less-has less ∙ has);
      needed = λ far. sym (less-has less) ∙ less.good.needed (omega (arith, far, needed, many));
      no_stray = less-stray less;
      none_behind = λ has. less-behind less (less-has less ∙ has);
    }

-- it names one block less
less-own : {byte other : ℕ → ℕ} {place last : ℕ} → OneLess byte other place last → (block : ℕ) →
    own_times other place block + this_block (block_number_at byte place last) block ≡ own_times byte place block + no_block block
unfolding own_times total
less-own {byte} {other} {place} {last} less block =
    let f : ℕ → ℕ = λ i. bit_of (block_number_at byte place i == block) in
    let g : ℕ → ℕ = λ i. bit_of (block_number_at other place i == block) in
    let now : total (blocks_needed other place) g ≡ total last f =
    ap (λ n. total n g) (less-needed less)
    ∙ sym (total-same last f g (λ i below. ap (λ n. bit_of (n == block)) (less-number less i below))) in
    let was : total (blocks_needed byte place) f ≡ total last f + f last = ap (λ n. total n f) less.many in
    let indirect : bit_of (has_indirect byte place && (indirect_of byte place == block))
    ≡ bit_of (has_indirect other place && (indirect_of other place == block)) =
    ap (λ n. bit_of (not (n == 0) && (n == block))) (less-indirect less) in
    omega (arith, now, was, indirect)

-- its bytes are the first ones
take-values : (n k : ℕ) (f : ℕ → ℕ) → k ≤ n → take k (values_below n f) ≡ values_below k f
take-values n k f le =
    is-values (take k (values_below n f)) k f 0 (length-take-le k (values_below n f) (omega (arith, length-values n f)))
    (λ i within. get_or-take k (values_below n f) i 0 within ∙ get_or-values n f i 0 (omega arith))

less-bytes : {byte other : ℕ → ℕ} {place last : ℕ} → OneLess byte other place last → SameBlocks byte other place →
    file_bytes other place ≡ take (BLKSIZE * last) (file_bytes byte place)
unfolding file_bytes
less-bytes {byte} {other} {place} {last} less own =
    let many = less.many in
    ap (λ n. values_below n (file_byte other place)) less.put.sized
    ∙ sym
    (bytes-stay byte other place (BLKSIZE * last) last (omega arith) (less-number less) (λ i below. own i (omega (arith, below, many))))
    ∙ sym (take-values (size_of byte place) (BLKSIZE * last) (file_byte byte place) (omega (arith, many)))

-- ---- the puts

give-puts : (byte : ℕ → ℕ) (place : ℕ) → is_marked_free byte (block_number_at byte place (blocks_needed byte place - 1)) ≡ false →
    written (give_block place byte) byte
    ≡ stored
    (put_byte (mark_place (block_number_at byte place (blocks_needed byte place - 1)))
    (byte (mark_place (block_number_at byte place (blocks_needed byte place - 1)))
    + 2 ^ (block_number_at byte place (blocks_needed byte place - 1) % 8)))
    (stored (put_word (number_place byte place (blocks_needed byte place - 1)) 0)
    (stored (put_word (place + MAXNAMELEN) (BLKSIZE * (blocks_needed byte place - 1))) byte))
unfolding give_block written
give-puts byte place used = rw used refl

-- the blocks in which they are: the bitmap's, and the indirect block
abbrev InNumbers : (ℕ → ℕ) → ℕ → ℕ → Type 0
InNumbers byte place q = InMap byte q ⊎ ((has_indirect byte place ≡ true) × (q ≡ indirect_of byte place))

-- no bit stands in the record or in its indirect block
pub in-place-mark : (byte : ℕ → ℕ) (depth place : ℕ) → AtEnd byte depth place → (q block : ℕ) → InPlace byte place q →
    block < block_count byte → q ≢ mark_place block
in-place-mark byte depth place end q block (inl (low, high)) within = off-mark byte depth place end q block low high within
in-place-mark byte depth place end q block (inr (has, at)) within = λ e.
    let map = (map-block (block_count byte) block within).1 in
    let own = own-indirect byte place has in
    let all = times-own depth byte place (indirect_of byte place) in
    let first = data-first depth byte place (indirect_of byte place) end.good (omega (arith, own, all)) in
    let there = ap (λ p. p / BLKSIZE) e in
    omega (arith, map, first, at, there)

pub indirect-apart : (byte : ℕ → ℕ) (depth place : ℕ) → AtEnd byte depth place → has_indirect byte place ≡ true →
    place / BLKSIZE ≢ indirect_of byte place
indirect-apart byte depth place end has e =
    let own = own-indirect byte place has in
    let all = times-own depth byte place (indirect_of byte place) in
    let none = ap (times_named depth byte place) (sym e) ∙ end.once.outside in
    omega (arith, own, all, none)

number-free : (byte : ℕ → ℕ) (depth place : ℕ) → AtEnd byte depth place → (i : ℕ) → i < blocks_needed byte place →
    InNumbers byte place (block_number_at byte place i) → ⊥
number-free byte depth place end i within (inl (after, before)) =
    let own = own-one byte place i (block_number_at byte place i) within refl in
    let all = times-own depth byte place (block_number_at byte place i) in
    let first = data-first depth byte place (block_number_at byte place i) end.good (omega (arith, own, all)) in
    omega (arith, first, before)
number-free byte depth place end i within (inr (has, e)) =
    let twice = own-both byte place i has within e in
    let all = times-own depth byte place (indirect_of byte place) in
    let most = end.once.once (indirect_of byte place) in
    omega (arith, twice, all, most)

-- what they leave
record Gave (byte other : ℕ → ℕ) (place last : ℕ) : Type 0 where
  less : OneLess byte other place last
  elsewhere : Elsewhere byte other place (InNumbers byte place)
  freed : Freed byte other (block_number_at byte place last)

gave : (byte one two other : ℕ → ℕ) (depth place last : ℕ) → AtEnd byte depth place → blocks_needed byte place ≡ suc last →
    is_directory_at byte place ≡ false → block_number_at byte place last < block_count byte →
    is_marked_free byte (block_number_at byte place last) ≡ false → WordPut byte one (place + MAXNAMELEN) (BLKSIZE * last) →
    WordPut one two (number_place byte place last) 0 →
    BytePut two other (mark_place (block_number_at byte place last))
    (byte (mark_place (block_number_at byte place last)) + 2 ^ (block_number_at byte place last % 8)) → Gave byte other place last
gave byte one two other depth place last end many kind within used size number mark =
    let good = own-good depth byte place end.good in
    let short = few_blocks (size_of byte place) good.readable.short in
    let few : last < 1034 = omega (arith, many, short) in
    let at : NumberAt byte place last (number_place byte place last) =
    number-at byte place last few end.aligned (λ far. good.needed (omega (arith, far, many))) (indirect-apart byte depth place end) in
    let block : ℕ = block_number_at byte place last in
    let n : ℕ = number_place byte place last in
    let s : ℕ = place + MAXNAMELEN in
    let off : (q : ℕ) → InPlace byte place q → q ≢ mark_place block = λ q inside. in-place-mark byte depth place end q block inside within in
    record {
      less = record {
        put = record {
          aligned = end.aligned;
          apart = indirect-apart byte depth place end;
          at = at;
          kept = λ q inside one_side other_side. size.kept q one_side ∙ number.kept q other_side ∙ mark.kept q (off q inside);
          sized =
              sym
              (word-kept one other s
              (λ k below.
              number.kept (s + k) (beyond-word s n k below (at.own s (omega arith) (omega arith) (inl (omega arith))))
              ∙ mark.kept (s + k) (off (s + k) (inl (omega arith, omega (arith, below))))))
              ∙ size.now;
          numbered =
              sym (word-kept two other n (λ k below. mark.kept (n + k) (off (n + k) (at.within (n + k) (omega arith) (omega (arith, below))))))
              ∙ number.now;
        };
        good = good;
        many = many;
        kind = kind;
      };
      elsewhere = λ q. elim (cases_eq q (mark_place block)) [
        | inl e ↦
            let map = map-block (block_count byte) block within in
            inr (inr (inl (subst (InMap byte) (sym (ap (λ p. p / BLKSIZE) e)) (map.0, map.1))))
        | inr ne ↦ elim (side s q) [
          | inl out ↦ elim (side n q) [
            | inl off_number ↦ inl (size.kept q out ∙ number.kept q off_number ∙ mark.kept q ne)
            | inr inside ↦ inr (elim (at.within q inside.0 inside.1) [ inl here ↦ inl here | inr there ↦ inr (inr there) ])
          ]
          | inr inside ↦ inr (inl (omega (arith, inside.0), omega (arith, inside.1)))
        ]
      ];
      freed = record {
        was = used;
        at = mark.now;
        others = λ q below rows.
            size.kept (mark_place q) (mark-beyond byte depth place end s 4 q (omega arith) (omega arith) below)
            ∙ number.kept (mark_place q)
            (outside n q (side n (mark_place q))
            (λ low high. in-place-mark byte depth place end (mark_place q) q (at.within (mark_place q) low high) below refl))
            ∙ mark.kept (mark_place q) (differ (q / 8) (block / 8) rows);
      };
    }
  where
    side : (from q : ℕ) → Beyond 4 from q ⊎ ((from ≤ q) × (q < from + 4))
    side from q = elim (below_or_past q from) [
      | inl low ↦ inl (inl low)
      | inr past ↦ elim (below_or_past q (from + 4)) [ inl inside ↦ inr (past, inside) | inr high ↦ inl (inr high) ]
    ]

    outside : (from q : ℕ) → Beyond 4 from (mark_place q) ⊎ ((from ≤ mark_place q) × (mark_place q < from + 4)) →
        (from ≤ mark_place q → mark_place q < from + 4 → ⊥) → Beyond 4 from (mark_place q)
    outside from q (inl out) never = out
    outside from q (inr inside) never = absurd (never inside.0 inside.1)

    differ : (a b : ℕ) → a ≢ b → 8192 + a ≢ 8192 + b
    differ a b ne e = ne (omega (arith, e))

-- ---- the law

pub held-length : (byte : ℕ → ℕ) (place : ℕ) (bytes : List ℕ) → bytes ≡ file_bytes byte place → length bytes ≡ size_of byte place
unfolding file_bytes
held-length byte place bytes e = ap length e ∙ length-values (size_of byte place) (file_byte byte place)

gave-gives : (size : ℕ) (byte other : ℕ → ℕ) (way : List ℕ) (place : ℕ) (bytes : List ℕ) (indirect : Bool) →
    Holds size byte way place (a_file bytes indirect) → IsFile byte place bytes indirect →
    ((depth : ℕ) → AtEnd byte depth place → Gave byte other place (blocks_needed byte place - 1)) →
    NowHas size byte other way (a_file (take (BLKSIZE * (blocks_of (length bytes) - 1)) bytes) indirect)
gave-gives size byte other way place bytes indirect holds file facts =
    let counted = image-counted size byte holds.sound in
    let last : ℕ = blocks_needed byte place - 1 in
    let new : Node = a_file (take (BLKSIZE * (blocks_of (length bytes) - 1)) bytes) indirect in
    let leads = way-is byte way (block_count byte) root_place place counted.records holds.stands in
    let given = facts leads.0 (at-end size byte way place leads.0 counted leads.1) in
    changed-gives_on size byte other way place (InMap byte) no_block (this_block (block_number_at byte place last)) new
    holds.sound holds.stands
    (record {
      elsewhere = λ q. elim (given.elsewhere q) [
        | inl e ↦ inl e
        | inr differs ↦ inr (elim differs [ inl inside ↦ inl inside | inr told ↦ inr (owned q told) ])
      ];
      label = put-label given.less.put;
    })
    (map-loose size byte counted) (freed-marks byte other (block_number_at byte place last) given.freed)
    (λ count d onward.
    let end = at-end size byte way place d counted onward in
    let less = given.less in
    let own = own-stay byte other d place (InNumbers byte place) end given.elsewhere (number-free byte d place end) in
    let now =
    file-now d byte other place no_block (this_block (block_number_at byte place last)) new file.kind (less-kind less)
    (less-good less count) (less-own less)
    (let long = held-length byte place bytes file.is in
    let now : file_bytes other place ≡ take (BLKSIZE * (blocks_of (length bytes) - 1)) bytes =
    less-bytes less own ∙ ap (take (BLKSIZE * last)) (sym file.is)
    ∙ ap (λ n. take (BLKSIZE * (blocks_of n - 1)) bytes) (sym long) in
    let has : has_indirect other place ≡ indirect = sym (less-has less) ∙ sym file.mark in
    λ k. a_file (now k) (has k)) in
    (now, file-stays byte other place file.kind (less-kind less)))
  where
    owned : (q : ℕ) → InNumbers byte place (q / BLKSIZE) → (0 < own_times byte place (q / BLKSIZE)) ⊎ InMap byte (q / BLKSIZE)
    owned q (inl map) = inr map
    owned q (inr (has, e)) = inl (let own = own-indirect byte place has in let same = ap (own_times byte place) e in omega (arith, own, same))

pub given-blocks : GivenBlocksAreLost
given-blocks size byte way place bytes indirect holds some =
    let counted = image-counted size byte holds.sound in
    let depth : ℕ = block_count byte in
    let leads = way-is byte way depth root_place place counted.records holds.stands in
    let end = at-end size byte way place leads.0 counted leads.1 in
    let file : IsFile byte place bytes indirect =
    held-file leads.0 byte place bytes indirect (held-node size byte way place (a_file bytes indirect) holds leads.0 counted leads.1) in
    let last : ℕ = blocks_needed byte place - 1 in
    let block : ℕ = block_number_at byte place last in
    let long = held-length byte place bytes file.is in
    let good = own-good leads.0 byte place end.good in
    let many : blocks_needed byte place ≡ suc last = omega (arith, some, long) in
    let inside : last < blocks_needed byte place = omega (arith, many) in
    let own = own-one byte place last block inside refl in
    let all = times-own leads.0 byte place block in
    let above = way-times byte depth root_place way place leads.0 leads.1 block in
    let used = counted.in_use block (omega (arith, own, all, above)) in
    let within = data-below depth block (good.readable.within last inside) in
    let short = few_blocks (size_of byte place) good.readable.short in
    let one : ℕ → ℕ = stored (put_word (place + MAXNAMELEN) (BLKSIZE * last)) byte in
    let two : ℕ → ℕ = stored (put_word (number_place byte place last) 0) one in
    let value : ℕ = byte (mark_place block) + 2 ^ (block % 8) in
    subst
    (λ (o : ℕ → ℕ). NowHas size byte o way (a_file (take (BLKSIZE * (blocks_of (length bytes) - 1)) bytes) indirect))
    (sym (give-puts byte place used))
    (gave-gives size byte (stored (put_byte (mark_place block) value) two) way place bytes indirect holds file
    (λ d at.
    gave byte one two (stored (put_byte (mark_place block) value) two) d place last at many file.kind within used
    (word-put byte (place + MAXNAMELEN) (BLKSIZE * last) (omega (arith, many, short)))
    (word-put one (number_place byte place last) 0 (omega arith)) (byte-put two (mark_place block) value)))
