-- A record gets one more block, of zeros.
use Rattle.std.proofs.Common.{◌≡◌, ◌≢◌, ◌∙◌, ◌⊎◌, inl, inr, ℕ, ◌+◌, ◌-◌, ◌*◌, ◌/◌, ◌%◌, ◌^◌, ◌<◌, ◌≤◌, ◌==◌, ◌&&◌, suc, min}
use Rattle.std.proofs.Common.{true, false, not, [], ◌∷◌, ◌++◌, replicate, Some, refl, sym, ap, subst, arith}
use Rattle.std.specs.Prelude.{nat_le}
use Rattle.std.proofs.lemmas.Bool.{cases_eq}
use Rattle.jos_base.specs.Counting.{total}
use Rattle.jos_base.specs.Environments.{bit_of}
use Rattle.jos_base.proofs.Sums.{total-same}
use Rattle.fs_layout.specs.declared.numbers.TheConstants.{BLKSIZE, MAXNAMELEN, NDIRECT, NINDIRECT}
use Rattle.jos_base.specs.Below.{values_below}
use Rattle.fs_layout.specs.DiskImage.{block_count, is_data_block, size_of, direct_of, indirect_of, is_directory_at}
use Rattle.fs_layout.specs.DiskImage.{has_indirect, blocks_needed, number_in_indirect, block_number_at, has_stray, has_stray_in_indirect}
use Rattle.fs_layout.specs.DiskImage.{is_marked_free}
use Rattle.fs_layout.specs.DiskFiles.{file_byte, file_bytes}
use Rattle.jos_base.proofs.Below.{some_below-none}
use Rattle.fs_acts.specs.BlockActs.{Put, put_byte, put_word, stored, written, zero_block, mark_place, number_place, take_block, lowest_free}
use Rattle.fs_acts.specs.BlockLaws.{IsGoodRecord, own_times, times_named, times_on_disk}
use Rattle.fs_acts.proofs.Fields.{same-directory}
use Rattle.fs_acts.proofs.Named.{own-one, own-both, own-indirect, times-own}
use Rattle.fs_acts.proofs.Records.{own-good, SameBlocks}
use Rattle.fs_acts.proofs.AtEnd.{AtEnd, Elsewhere, map-block, InMap, mark-beyond, off-block}
use Rattle.fs_acts.proofs.BlockPuts.{below_or_past, Beyond, WordPut}
use Rattle.fs_acts.proofs.Puts.{written-append}
use Rattle.fs_acts.proofs.Marks.{Used, this_block, no_block}
use Rattle.fs_acts.proofs.Refitted.{values-longer}
use Rattle.fs_acts.proofs.Taken.{IsFree, InTaken, taken-apart, Zeroed, mark-before}
use Rattle.fs_acts.proofs.Blocks.{NumberAt, number-at, stray-none, behind-none}
use Rattle.fs_acts.proofs.NumberPut.{InPlace, NumberPut, put-kind, put-indirect, put-number, put-behind, put-direct, put-now}
use Rattle.fs_acts.proofs.NumberPut.{beyond-word, word-kept, turned}
use Rattle.fs_acts.proofs.Given.{in-place-mark, indirect-apart, and-low, and-zero, le-false}

-- ---- the record afterwards

pub record OneMore (byte other : ℕ → ℕ) (place last block size : ℕ) : Type 0 where
  pub put : NumberPut byte other place last block size
  pub good : IsGoodRecord byte place
  pub free : IsFree byte block
  pub many : blocks_needed byte place ≡ last
  -- the size was that of whole blocks, and is that of one more at most
  pub whole : size_of byte place ≡ BLKSIZE * last
  pub grows : BLKSIZE * last < size
  pub most : size ≤ BLKSIZE * (last + 1)
  pub short : size ≤ 4235264
  pub fits : is_directory_at byte place ≡ true → size % BLKSIZE ≡ 0
  pub room : (last < NDIRECT) ⊎ (has_indirect byte place ≡ true)
  pub zero : (q : ℕ) → 4096 * block ≤ q → q < 4096 * block + 4096 → other q ≡ 0

more-few : {byte other : ℕ → ℕ} {place last block size : ℕ} → OneMore byte other place last block size → last < 1034
more-few more = let grows = more.grows in let short = more.short in omega (arith, grows, short)

pub more-indirect : {byte other : ℕ → ℕ} {place last block size : ℕ} → OneMore byte other place last block size →
    indirect_of byte place ≡ indirect_of other place
more-indirect more = elim more.room [
  | inl near ↦ put-indirect more.put (inr near) (more-few more)
  | inr has ↦ put-indirect more.put (inl has) (more-few more)
]

pub more-has : {byte other : ℕ → ℕ} {place last block size : ℕ} → OneMore byte other place last block size →
    has_indirect byte place ≡ has_indirect other place
more-has more = ap (λ n. not (n == 0)) (more-indirect more)

pub more-needed : {byte other : ℕ → ℕ} {place last block size : ℕ} → OneMore byte other place last block size →
    blocks_needed other place ≡ suc last
more-needed {byte} {other} {place} {last} {block} {size} more =
    ap (λ n. (n + (BLKSIZE - 1)) / BLKSIZE) more.put.sized ∙ needed size last more.grows more.most
  where
    needed : (size last : ℕ) → 4096 * last < size → size ≤ 4096 * (last + 1) → (size + 4095) / 4096 ≡ suc last
    needed size last grows most = omega arith

pub more-number : {byte other : ℕ → ℕ} {place last block size : ℕ} → OneMore byte other place last block size → (i : ℕ) → i < last →
    block_number_at byte place i ≡ block_number_at other place i
more-number {byte} {other} {place} {last} more i below =
    let few = more-few more in
    let many = more.many in
    put-number more.put (more-indirect more) i (omega (arith, below, few)) (λ e. omega (arith, e, below))
    (λ far. more.good.needed (omega (arith, far, below, many)))

pub more-now : {byte other : ℕ → ℕ} {place last block size : ℕ} → OneMore byte other place last block size →
    block_number_at other place last ≡ block
more-now more = put-now more.put (more-indirect more)

more-stray : {byte other : ℕ → ℕ} {place last block size : ℕ} → OneMore byte other place last block size → has_stray other place ≡ false
unfolding has_stray
more-stray {byte} {other} {place} {last} more =
    some_below-none (λ i. nat_le (blocks_needed other place) i && not (direct_of other place i == 0)) NDIRECT
    (λ i below. elim (below_or_past i (suc last)) [
      | inl low ↦
          let needed = more-needed more in
          and-low (nat_le (blocks_needed other place) i) (not (direct_of other place i == 0))
          (le-false (blocks_needed other place) i (omega (arith, low, needed)))
      | inr past ↦
          let many = more.many in
          and-zero (nat_le (blocks_needed other place) i) (direct_of other place i)
          (sym (put-direct more.put i below (λ e. omega (arith, e, past)))
          ∙ stray-none byte place i more.good.no_stray below (omega (arith, past, many)))
    ])

more-behind : {byte other : ℕ → ℕ} {place last block size : ℕ} → OneMore byte other place last block size →
    has_indirect byte place ≡ true → has_stray_in_indirect other place ≡ false
unfolding has_stray_in_indirect
more-behind {byte} {other} {place} {last} more has =
    some_below-none
    (λ i. nat_le (blocks_needed other place) (NDIRECT + i) && not (number_in_indirect other place i == 0)) NINDIRECT
    (λ i below. elim (below_or_past (NDIRECT + i) (suc last)) [
      | inl low ↦
          let needed = more-needed more in
          and-low (nat_le (blocks_needed other place) (NDIRECT + i)) (not (number_in_indirect other place i == 0))
          (le-false (blocks_needed other place) (NDIRECT + i) (omega (arith, low, needed)))
      | inr past ↦
          let many = more.many in
          and-zero (nat_le (blocks_needed other place) (NDIRECT + i)) (number_in_indirect other place i)
          (sym (put-behind more.put (more-indirect more) has i below (λ e. omega (arith, e, past)))
          ∙ behind-none byte place i (more.good.none_behind has) below (omega (arith, past, many)))
    ])

pub more-good : {byte other : ℕ → ℕ} {place last block size : ℕ} → OneMore byte other place last block size →
    block_count byte ≡ block_count other → IsGoodRecord other place
more-good {byte} {other} {place} {last} {block} {size} more count =
    let needed = more-needed more in
    let many = more.many in
    record {
      readable = record {
        whole = λ is.
            subst (λ n. n % BLKSIZE ≡ 0) (sym more.put.sized) (more.fits (same-directory byte other place (put-kind more.put) ∙ is));
        short = subst (λ n. n ≤ 4235264) (sym more.put.sized) more.short;
        within = λ i below. elim (cases_eq i last) [
          | inl e ↦
              ap (λ n. is_data_block n (block_number_at other place i)) (sym count)
              ∙ ap (λ j. is_data_block (block_count byte) (block_number_at other place j)) e
              ∙ ap (is_data_block (block_count byte)) (more-now more) ∙ more.free.sound
          | inr ne ↦
              let inside : i < last = omega (arith, below, needed, ne) in
              ap (λ n. is_data_block n (block_number_at other place i)) (sym count)
              ∙ ap (is_data_block (block_count byte)) (sym (more-number more i inside))
              ∙ more.good.readable.within i (omega (arith, inside, many))
        ];
      };
      indirect = λ has.
          ap (λ n. is_data_block n (indirect_of other place)) (sym count)
          ∙ ap (is_data_block (block_count byte)) (sym (more-indirect more))
          ∙ more.good.indirect (more-has more ∙ has);
      needed = λ far. sym (more-has more) ∙ elim more.room [ inl near ↦ absurd (omega (arith, near, far, needed)) | inr has ↦ has ];
      no_stray = more-stray more;
      none_behind = λ has. more-behind more (more-has more ∙ has);
    }

-- it names one block more
pub more-own : {byte other : ℕ → ℕ} {place last block size : ℕ} → OneMore byte other place last block size → (q : ℕ) →
    own_times other place q + no_block q ≡ own_times byte place q + this_block block q
unfolding own_times total
more-own {byte} {other} {place} {last} {block} more q =
    let f : ℕ → ℕ = λ i. bit_of (block_number_at byte place i == q) in
    let g : ℕ → ℕ = λ i. bit_of (block_number_at other place i == q) in
    let now : total (blocks_needed other place) g ≡ total last g + g last = ap (λ n. total n g) (more-needed more) in
    let was : total (blocks_needed byte place) f ≡ total last g =
    ap (λ n. total n f) more.many
    ∙ total-same last f g (λ i below. ap (λ n. bit_of (n == q)) (more-number more i below)) in
    let here : g last ≡ bit_of (block == q) = ap (λ n. bit_of (n == q)) (more-now more) in
    let indirect : bit_of (has_indirect byte place && (indirect_of byte place == q))
    ≡ bit_of (has_indirect other place && (indirect_of other place == q)) =
    ap (λ n. bit_of (not (n == 0) && (n == q))) (more-indirect more) in
    omega (arith, now, was, here, indirect)

-- a file's bytes are the old ones, and zeros
byte-block : (n at : ℕ) → at < 4096 * n → at / 4096 < n
byte-block n at within = omega arith

byte-rest : (at : ℕ) → at % 4096 < 4096
byte-rest at = omega arith

last-block : (n at : ℕ) → 4096 * n ≤ at → at < 4096 * (n + 1) → at / 4096 ≡ n
last-block n at low high = omega arith

pub more-bytes : {byte other : ℕ → ℕ} {place last block size : ℕ} → OneMore byte other place last block size → SameBlocks byte other place →
    file_bytes byte place ++ replicate (size - BLKSIZE * last) 0 ≡ file_bytes other place
unfolding file_bytes
more-bytes {byte} {other} {place} {last} {block} {size} more own =
    let many = more.many in
    let grows = more.grows in
    let most = more.most in
    ap (λ n. values_below n (file_byte byte place) ++ replicate (size - BLKSIZE * last) 0) more.whole
    ∙ values-longer size (BLKSIZE * last) (file_byte byte place) (file_byte other place) 0 0 (omega (arith, grows))
    (λ at within.
    let inside = byte-block last at within in
    own (at / BLKSIZE) (omega (arith, inside, many)) (at % BLKSIZE) (byte-rest at)
    ∙ ap (λ m. other (BLKSIZE * m + at % BLKSIZE)) (more-number more (at / BLKSIZE) inside))
    (λ at low high.
    let here = last-block last at low (omega (arith, high, most)) in
    let rest = byte-rest at in
    ap (λ i. other (BLKSIZE * block_number_at other place i + at % BLKSIZE)) here
    ∙ ap (λ m. other (BLKSIZE * m + at % BLKSIZE)) (more-now more)
    ∙ more.zero (BLKSIZE * block + at % BLKSIZE) (omega arith) (omega (arith, rest)))
    ∙ ap (λ n. values_below n (file_byte other place)) (sym more.put.sized)

-- ---- the puts

pub more-puts : (byte : ℕ → ℕ) (place end block : ℕ) → lowest_free byte ≡ Some block → is_marked_free byte block ≡ true →
    written (take_block place end byte) byte
    ≡ stored (put_word (place + MAXNAMELEN) (min end (BLKSIZE * (blocks_needed byte place + 1))))
    (stored (put_word (number_place byte place (blocks_needed byte place)) block)
    (written (zero_block block) (stored (put_byte (mark_place block) (byte (mark_place block) - 2 ^ (block % 8))) byte)))
unfolding take_block written
more-puts byte place end block found free =
    let marked : ℕ → ℕ = stored (put_byte (mark_place block) (byte (mark_place block) - 2 ^ (block % 8))) byte in
    let number : Put = put_word (number_place byte place (blocks_needed byte place)) block in
    let size : Put = put_word (place + MAXNAMELEN) (min end (BLKSIZE * (blocks_needed byte place + 1))) in
    rw (found, free)
    (written-append (zero_block block ++ number ∷ []) (size ∷ []) marked
    ∙ ap (stored size) (written-append (zero_block block) (number ∷ []) marked))

-- where they are: the bitmap's blocks, the block, and the indirect block
abbrev pub InMore : (ℕ → ℕ) → ℕ → ℕ → ℕ → Type 0
InMore byte place block q = InTaken byte block q ⊎ ((has_indirect byte place ≡ true) × (q ≡ indirect_of byte place))

-- the block is neither the record's nor its indirect block
abbrev pub Above : (ℕ → ℕ) → ℕ → ℕ → Type 0
Above byte depth place = (q : ℕ) → times_named depth byte place q ≤ times_on_disk byte q

in-place-block : (byte : ℕ → ℕ) (depth place block : ℕ) → AtEnd byte depth place → Above byte depth place → IsFree byte block → (q : ℕ) →
    InPlace byte place q → Beyond 4096 (4096 * block) q
in-place-block byte depth place block end above free q (inl (low, high)) =
    off-block byte depth place end q block low high (end.off_loose block free.first free.none)
in-place-block byte depth place block end above free q (inr (has, at)) = elim (below_or_past q (4096 * block)) [
  | inl before ↦ inl before
  | inr past ↦
      elim (below_or_past q (4096 * block + 4096)) [
        | inl inside ↦
            let here : q / 4096 ≡ block = omega (arith, past, inside) in
            let own = own-indirect byte place has in
            let all = times-own depth byte place (indirect_of byte place) in
            let most = above (indirect_of byte place) in
            let none = ap (times_on_disk byte) (sym at ∙ here) ∙ free.none in
            absurd (omega (arith, own, all, most, none))
        | inr behind ↦ inr behind
      ]
]

pub more-free : (byte : ℕ → ℕ) (depth place block : ℕ) → AtEnd byte depth place → Above byte depth place → IsFree byte block → (i : ℕ) →
    i < blocks_needed byte place → InMore byte place block (block_number_at byte place i) → ⊥
more-free byte depth place block end above free i within (inl told) =
    let own = own-one byte place i (block_number_at byte place i) within refl in
    let all = times-own depth byte place (block_number_at byte place i) in
    taken-apart byte depth place block end above free (block_number_at byte place i) (omega (arith, own, all)) told
more-free byte depth place block end above free i within (inr (has, e)) =
    let twice = own-both byte place i has within e in
    let all = times-own depth byte place (indirect_of byte place) in
    let most = end.once.once (indirect_of byte place) in
    omega (arith, twice, all, most)

-- what they leave
pub record Took (byte other : ℕ → ℕ) (place last block size : ℕ) : Type 0 where
  pub more : OneMore byte other place last block size
  pub elsewhere : Elsewhere byte other place (InMore byte place block)
  pub used : Used byte other block

-- what is asked of the size
pub record Room (byte : ℕ → ℕ) (place last size : ℕ) : Type 0 where
  pub many : blocks_needed byte place ≡ last
  pub whole : size_of byte place ≡ BLKSIZE * last
  pub grows : BLKSIZE * last < size
  pub most : size ≤ BLKSIZE * (last + 1)
  pub short : size ≤ 4235264
  pub fits : is_directory_at byte place ≡ true → size % BLKSIZE ≡ 0
  pub room : (last < NDIRECT) ⊎ (has_indirect byte place ≡ true)

not-both : (block q : ℕ) → 4096 * block ≤ q → q < 4096 * block + 4096 → Beyond 4096 (4096 * block) q → ⊥
not-both block q low high (inl less) = omega (arith, low, less)
not-both block q low high (inr more) = omega (arith, high, more)

pub took : (byte mid one other : ℕ → ℕ) (depth place last block size : ℕ) → AtEnd byte depth place → Above byte depth place →
    IsFree byte block → Room byte place last size → Zeroed byte mid block → WordPut mid one (number_place byte place last) block →
    WordPut one other (place + MAXNAMELEN) size → Took byte other place last block size
took byte mid one other depth place last block size end above free room zeroed number sized =
    let good = own-good depth byte place end.good in
    let grows = room.grows in
    let short = room.short in
    let few : last < 1034 = omega (arith, grows, short) in
    let n : ℕ = number_place byte place last in
    let s : ℕ = place + MAXNAMELEN in
    let at : NumberAt byte place last n =
    number-at byte place last few end.aligned
    (λ far. elim room.room [ inl near ↦ absurd (omega (arith, near, far)) | inr has ↦ has ]) (indirect-apart byte depth place end) in
    let off : (q : ℕ) → InPlace byte place q → q ≢ mark_place block =
    λ q inside. in-place-mark byte depth place end q block inside free.within in
    let off_block : (q : ℕ) → InPlace byte place q → Beyond 4096 (4096 * block) q =
    in-place-block byte depth place block end above free in
    record {
      more = record {
        put = record {
          aligned = end.aligned;
          apart = indirect-apart byte depth place end;
          at = at;
          kept = λ q inside one_side other_side.
              zeroed.kept q (off q inside) (off_block q inside) ∙ number.kept q other_side ∙ sized.kept q one_side;
          sized = sized.now;
          numbered =
              sym
              (word-kept one other n
              (λ k below.
              sized.kept (n + k)
              (beyond-word n s k below (turned s n (at.own s (omega arith) (omega arith) (inl (omega arith)))))))
              ∙ number.now;
        };
        good = good;
        free = free;
        many = room.many;
        whole = room.whole;
        grows = room.grows;
        most = room.most;
        short = room.short;
        fits = room.fits;
        room = room.room;
        zero = λ q low high.
            sym (sized.kept q (outside s q (side s q) (λ after before. not-both block q low high
            (off_block q (inl (omega (arith, after), omega (arith, before)))))))
            ∙ sym (number.kept q (outside n q (side n q) (λ after before. not-both block q low high (off_block q (at.within q after before)))))
            ∙ zeroed.zero q low high;
      };
      elsewhere = λ q. elim (cases_eq q (mark_place block)) [
        | inl e ↦
            let map = map-block (block_count byte) block free.within in
            inr (inr (inl (inl (subst (InMap byte) (sym (ap (λ p. p / BLKSIZE) e)) (map.0, map.1)))))
        | inr ne ↦ elim (side s q) [
          | inr inside ↦ inr (inl (omega (arith, inside.0), omega (arith, inside.1)))
          | inl out ↦ elim (side n q) [
            | inr inside ↦ inr (elim (at.within q inside.0 inside.1) [ inl here ↦ inl here | inr there ↦ inr (inr there) ])
            | inl off_number ↦ elim (in_or_out q) [
              | inl beyond ↦ inl (zeroed.kept q ne beyond ∙ number.kept q off_number ∙ sized.kept q out)
              | inr inside ↦ inr (inr (inl (inr (quotient q inside.0 inside.1))))
            ]
          ]
        ]
      ];
      used = record {
        was = free.marked;
        at =
            sym (sized.kept (mark_place block) (mark-beyond byte depth place end s 4 block (omega arith) (omega arith) free.within))
            ∙ sym
            (number.kept (mark_place block)
            (outside n (mark_place block) (side n (mark_place block))
            (λ low high. off (mark_place block) (at.within (mark_place block) low high) refl)))
            ∙ zeroed.mark;
        others = λ q below rows.
            zeroed.kept (mark_place q) (differ (q / 8) (block / 8) rows) (inl (mark-before byte block q free below))
            ∙ number.kept (mark_place q)
            (outside n (mark_place q) (side n (mark_place q))
            (λ low high. in-place-mark byte depth place end (mark_place q) q (at.within (mark_place q) low high) below refl))
            ∙ sized.kept (mark_place q) (mark-beyond byte depth place end s 4 q (omega arith) (omega arith) below);
      };
    }
  where
    side : (from q : ℕ) → Beyond 4 from q ⊎ ((from ≤ q) × (q < from + 4))
    side from q = elim (below_or_past q from) [
      | inl low ↦ inl (inl low)
      | inr past ↦ elim (below_or_past q (from + 4)) [ inl inside ↦ inr (past, inside) | inr high ↦ inl (inr high) ]
    ]

    in_or_out : (q : ℕ) → Beyond 4096 (4096 * block) q ⊎ ((4096 * block ≤ q) × (q < 4096 * block + 4096))
    in_or_out q = elim (below_or_past q (4096 * block)) [
      | inl low ↦ inl (inl low)
      | inr past ↦
          elim (below_or_past q (4096 * block + 4096)) [ inl inside ↦ inr (past, inside) | inr high ↦ inl (inr high) ]
    ]

    quotient : (q : ℕ) → 4096 * block ≤ q → q < 4096 * block + 4096 → q / 4096 ≡ block
    quotient q low high = omega (arith, low, high)

    outside : (from q : ℕ) → Beyond 4 from q ⊎ ((from ≤ q) × (q < from + 4)) → (from ≤ q → q < from + 4 → ⊥) → Beyond 4 from q
    outside from q (inl out) never = out
    outside from q (inr inside) never = absurd (never inside.0 inside.1)

    differ : (a b : ℕ) → a ≢ b → 8192 + a ≢ 8192 + b
    differ a b ne e = ne (omega (arith, e))
