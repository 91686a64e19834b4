-- A file whose bytes and whose size are put within its blocks.
use Rattle.std.proofs.Common.{◌≡◌, ◌∙◌, ◌⊎◌, inl, inr, ℕ, ◌+◌, ◌-◌, ◌*◌, ◌/◌, ◌%◌, ◌<◌, ◌≤◌, ◌==◌, Bool, true, false}
use Rattle.std.proofs.Common.{List, [], length, get_or, refl, sym, ap, subst, arith, min}
use Rattle.std.specs.Prelude.{nat_lt, take, if◌then◌else◌}
use Rattle.std.specs.List.{before_first}
use Rattle.std.proofs.lemmas.Bool.{cases_lt}
use Rattle.std.proofs.lemmas.Bool.Decides.{nat_tests}
use Rattle.std.proofs.lemmas.List.{length-take, get_or-take}
use Rattle.std.proofs.lemmas.List.{take_all}
use Rattle.jos_base.specs.Words.{word_at}
use Rattle.fs_layout.specs.declared.numbers.TheConstants.{BLKSIZE, MAXNAMELEN, MAXFILESIZE, NDIRECT}
use Rattle.fs_layout.specs.FileTree.{a_file, blocks_of, with_node}
use Rattle.fs_layout.specs.DiskImage.{size_of, indirect_of, block_number_at}
use Rattle.fs_layout.specs.DiskImage.{blocks_needed, has_indirect, name_of}
use Rattle.fs_layout.specs.DiskFiles.{file_system_of, file_byte, file_bytes}
use Rattle.jos_base.proofs.Below.{values-same, is-values, length-values, get_or-values}
use Rattle.fs_acts.specs.BlockActs.{put_word, byte_place, put_size, written, cut}
use Rattle.fs_acts.specs.BlockLaws.{own_times, NowHas, Holds, CutsAreActs}
use Rattle.fs_acts.proofs.Stored.{stored-left, stored-word, same-word}
use Rattle.fs_acts.proofs.Trees.{put-again}
use Rattle.fs_acts.proofs.Fields.{SameLabel}
use Rattle.fs_acts.proofs.Named.{own-one, own-indirect, own-both}
use Rattle.fs_acts.proofs.FileRecords.{Stands, stands-at, IsFile, file-at, SameNumbers, numbers-same, file-gives}

-- ---- what is put

-- Only bytes in blocks within the size are others.
pub record DataOnly (byte mid : ℕ → ℕ) (place : ℕ) : Type 0 where
  pub elsewhere : (q : ℕ) →
      (byte q ≡ mid q) ⊎ ((i : ℕ) × ((i < blocks_needed byte place) × (q / BLKSIZE ≡ block_number_at byte place i)))

-- And then the word of the size.
pub record SizePut (mid other : ℕ → ℕ) (place end : ℕ) : Type 0 where
  pub size : size_of other place ≡ end
  pub elsewhere : (q : ℕ) → (q < place + MAXNAMELEN) ⊎ (place + MAXNAMELEN + 4 ≤ q) → mid q ≡ other q

-- a byte of the record
pub data-record : (byte mid : ℕ → ℕ) (place : ℕ) → Stands byte place → DataOnly byte mid place → (q : ℕ) → place ≤ q → q < place + 256 →
    byte q ≡ mid q
data-record byte mid place stands data_only q low high = elim (data_only.elsewhere q) [
  | inl e ↦ e
  | inr within ↦
      let none = stands.apart q low high in
      let own = own-one byte place within.0 (q / BLKSIZE) within.1.0 (sym within.1.1) in
      absurd (omega (arith, none, own))
]

-- a byte of the indirect block
data-behind : (byte mid : ℕ → ℕ) (place : ℕ) → Stands byte place → DataOnly byte mid place → has_indirect byte place ≡ true →
    (q : ℕ) → q / 4096 ≡ indirect_of byte place → byte q ≡ mid q
data-behind byte mid place stands data_only has q at = elim (data_only.elsewhere q) [
  | inl e ↦ e
  | inr within ↦
      let both = own-both byte place within.0 has within.1.0 (sym within.1.1 ∙ at) in
      let once = stands.once (indirect_of byte place) in
      absurd (omega (arith, both, once))
]

-- a byte of a block that the record names is not in the record
outside-record : (byte : ℕ → ℕ) (place : ℕ) → Stands byte place → (q : ℕ) → 0 < own_times byte place (q / 4096) →
    (q < place + 128) ⊎ (place + 128 + 4 ≤ q)
outside-record byte place stands q some = elim (cases_lt q (place + 128)) [
  | inl before ↦ inl before
  | inr behind ↦
      elim (cases_lt q (place + 132)) [
        | inl within ↦
            let none = stands.apart q (omega (arith, behind)) (omega (arith, within)) in absurd (omega (arith, none, some))
        | inr after ↦ inr (omega (arith, after))
      ]
]

-- ---- the record

-- bytes of the record that are no bytes of the size
kept : (byte mid other : ℕ → ℕ) (place end : ℕ) → Stands byte place → DataOnly byte mid place → SizePut mid other place end →
    (q : ℕ) → place ≤ q → q < place + 256 → (q < place + 128) ⊎ (place + 128 + 4 ≤ q) → byte q ≡ other q
kept byte mid other place end stands data_only put q low high apart =
    data-record byte mid place stands data_only q low high ∙ put.elsewhere q apart

kept-word : (byte mid other : ℕ → ℕ) (place end : ℕ) → Stands byte place → DataOnly byte mid place → SizePut mid other place end →
    (at : ℕ) → place + 132 ≤ at → at + 4 ≤ place + 256 → word_at byte at ≡ word_at other at
kept-word byte mid other place end stands data_only put at low high =
    same-word byte other at
    (kept byte mid other place end stands data_only put at (omega (arith, low)) (omega (arith, high)) (inr (omega (arith, low))))
    (kept byte mid other place end stands data_only put (at + 1) (omega (arith, low)) (omega (arith, high)) (inr (omega (arith, low))))
    (kept byte mid other place end stands data_only put (at + 2) (omega (arith, low)) (omega (arith, high)) (inr (omega (arith, low))))
    (kept byte mid other place end stands data_only put (at + 3) (omega (arith, low)) (omega (arith, high)) (inr (omega (arith, low))))

kept-label : (byte mid other : ℕ → ℕ) (place end : ℕ) → Stands byte place → DataOnly byte mid place → SizePut mid other place end →
    SameLabel byte other place
unfolding name_of
kept-label byte mid other place end stands data_only put = record {
  name =
      ap (before_first (λ b. b == 0))
      (values-same MAXNAMELEN (λ k. byte (place + k)) (λ k. other (place + k))
      (λ k below.
      kept byte mid other place end stands data_only put (place + k) (omega arith) (omega (arith, below)) (inl (omega (arith, below)))));
  kind = kept-word byte mid other place end stands data_only put (place + MAXNAMELEN + 4) (omega arith) (omega arith);
  first = kept byte mid other place end stands data_only put place (omega arith) (omega arith) (inl (omega arith));
}

pub block-at : (n k q : ℕ) → k < 4096 → q ≡ 4096 * n + k → q / 4096 ≡ n
block-at n k q within e = omega arith

behind-byte : (byte mid other : ℕ → ℕ) (place end : ℕ) → Stands byte place → DataOnly byte mid place → SizePut mid other place end →
    has_indirect byte place ≡ true → (k : ℕ) → k < 4096 → byte (4096 * indirect_of byte place + k) ≡ other (4096 * indirect_of byte place + k)
behind-byte byte mid other place end stands data_only put has k within =
    let q : ℕ = 4096 * indirect_of byte place + k in
    let at : q / 4096 ≡ indirect_of byte place = block-at (indirect_of byte place) k q within refl in
    let own = own-indirect byte place has in
    data-behind byte mid place stands data_only has q at
    ∙ put.elsewhere q (outside-record byte place stands q (subst (λ b. 0 < own_times byte place b) (sym at) own))

kept-numbers : (byte mid other : ℕ → ℕ) (place end : ℕ) → Stands byte place → DataOnly byte mid place → SizePut mid other place end →
    blocks_needed byte place ≡ blocks_of end → SameNumbers byte other place
kept-numbers byte mid other place end stands data_only put blocks = record {
  needed = blocks ∙ ap (λ n. (n + (BLKSIZE - 1)) / BLKSIZE) (sym put.size);
  direct = λ i below.
      kept-word byte mid other place end stands data_only put (place + MAXNAMELEN + 8 + 4 * i) (omega arith) (omega (arith, below));
  indirect = kept-word byte mid other place end stands data_only put (place + MAXNAMELEN + 8 + 4 * NDIRECT) (omega arith) (omega arith);
  behind = λ has i below.
      let n : ℕ = indirect_of byte place in
      let same : (k : ℕ) → k < 4096 → byte (4096 * n + k) ≡ other (4096 * n + k) =
      behind-byte byte mid other place end stands data_only put has in
      let b : byte (4096 * n + 4 * i + 1) ≡ other (4096 * n + 4 * i + 1) =
      ap byte (plus n i 1) ∙ same (4 * i + 1) (omega (arith, below)) ∙ ap other (sym (plus n i 1)) in
      let c : byte (4096 * n + 4 * i + 2) ≡ other (4096 * n + 4 * i + 2) =
      ap byte (plus n i 2) ∙ same (4 * i + 2) (omega (arith, below)) ∙ ap other (sym (plus n i 2)) in
      let d : byte (4096 * n + 4 * i + 3) ≡ other (4096 * n + 4 * i + 3) =
      ap byte (plus n i 3) ∙ same (4 * i + 3) (omega (arith, below)) ∙ ap other (sym (plus n i 3)) in
      same-word byte other (4096 * n + 4 * i) (same (4 * i) (omega (arith, below))) b c d
      ∙ ap (λ m. word_at other (4096 * m + 4 * i)) (kept-word byte mid other place end stands data_only put (place + MAXNAMELEN + 8 + 4 * NDIRECT) (omega arith) (omega arith));
}
  where
    plus : (n i k : ℕ) → 4096 * n + 4 * i + k ≡ 4096 * n + (4 * i + k)
    plus n i k = omega arith

-- ---- the disk

pub length-file : (byte : ℕ → ℕ) (place : ℕ) → length (file_bytes byte place) ≡ size_of byte place
unfolding file_bytes
length-file byte place = length-values (size_of byte place) (file_byte byte place)

-- a byte of the file as it was
pub byte-was : (byte : ℕ → ℕ) (place : ℕ) (bytes : List ℕ) → file_bytes byte place ≡ bytes → (a : ℕ) → a < size_of byte place →
    get_or bytes a 0 ≡ byte (byte_place byte place a)
unfolding file_bytes
byte-was byte place bytes is a within =
    ap (λ (l : List ℕ). get_or l a 0) (sym is) ∙ get_or-values (size_of byte place) (file_byte byte place) a 0 within

pub in-blocks : (a end : ℕ) → a < end → a / 4096 < blocks_of end
in-blocks a end within = omega arith

rest-of : (a : ℕ) → a % 4096 < 4096
rest-of a = omega arith

pub place-block : (byte : ℕ → ℕ) (place a : ℕ) → byte_place byte place a / 4096 ≡ block_number_at byte place (a / 4096)
place-block byte place a = block-at (block_number_at byte place (a / 4096)) (a % 4096) (byte_place byte place a) (rest-of a) refl

numbers-at : (byte other : ℕ → ℕ) (place i : ℕ) → SameNumbers byte other place → Stands byte place → i < blocks_needed byte place →
    block_number_at byte place i ≡ block_number_at other place i
numbers-at byte other place i same stands within = numbers-same byte other place stands.good same i within

-- the file's bytes on the other disk
now-bytes : (byte mid other : ℕ → ℕ) (place end : ℕ) (new : List ℕ) → Stands byte place → SizePut mid other place end →
    SameNumbers byte other place → blocks_needed byte place ≡ blocks_of end → length new ≡ end →
    ((a : ℕ) → a < end → get_or new a 0 ≡ mid (byte_place byte place a)) → file_bytes other place ≡ new
unfolding file_bytes
now-bytes byte mid other place end new stands put same blocks long each =
    sym
    (is-values new (size_of other place) (file_byte other place) 0 (long ∙ sym put.size)
    (λ a within.
    let below : a < end = subst (λ n. a < n) put.size within in
    let inside : a / BLKSIZE < blocks_needed byte place = subst (λ n. a / 4096 < n) (sym blocks) (in-blocks a end below) in
    let q : ℕ = byte_place byte place a in
    let own = own-one byte place (a / BLKSIZE) (q / BLKSIZE) inside (sym (place-block byte place a)) in
    each a below ∙ put.elsewhere q (outside-record byte place stands q own)
    ∙ ap (λ n. other (BLKSIZE * n + a % BLKSIZE)) (numbers-at byte other place (a / BLKSIZE) same stands inside)))

pub data-gives : (size : ℕ) (byte mid other : ℕ → ℕ) (way : List ℕ) (place end : ℕ) (bytes new : List ℕ) (indirect : Bool) →
    Holds size byte way place (a_file bytes indirect) → DataOnly byte mid place → SizePut mid other place end →
    blocks_of end ≡ blocks_of (length bytes) → end ≤ MAXFILESIZE → length new ≡ end →
    ((a : ℕ) → a < end → get_or new a 0 ≡ mid (byte_place byte place a)) →
    NowHas size byte other way (a_file new indirect)
data-gives size byte mid other way place end bytes new indirect holds data_only put blocks short long each =
    let it = file-at size byte way place bytes indirect holds in
    let stands = stands-at size byte holds.sound way place holds.stands in
    let sized : length bytes ≡ size_of byte place = ap (λ (l : List ℕ). length l) (sym it.bytes_are) ∙ length-file byte place in
    let needed : blocks_needed byte place ≡ blocks_of end = ap (λ n. blocks_of n) (sym sized) ∙ sym blocks in
    let same = kept-numbers byte mid other place end stands data_only put needed in
    file-gives size byte other way place bytes new indirect holds
    (record {
      elsewhere = λ q. elim (data_only.elsewhere q) [
        | inl e ↦
            elim (cases_lt q (place + 128)) [
              | inl before ↦ inl (e ∙ put.elsewhere q (inl before))
              | inr behind ↦
                  elim (cases_lt q (place + 132)) [
                    | inl within ↦ inr (inl (omega (arith, behind), omega (arith, within)))
                    | inr after ↦ inl (e ∙ put.elsewhere q (inr (omega (arith, after))))
                  ]
            ]
        | inr within ↦ inr (inr (inl (own-one byte place within.0 (q / BLKSIZE) within.1.0 (sym within.1.1))))
      ];
      label = kept-label byte mid other place end stands data_only put;
    })
    same (subst (λ n. n ≤ MAXFILESIZE) (sym put.size) short) (now-bytes byte mid other place end new stands put same needed long each)

-- ---- a smaller size

pub size-put : (mid : ℕ → ℕ) (place end : ℕ) → end ≤ MAXFILESIZE → SizePut mid (written (put_size place end) mid) place end
unfolding written
size-put mid place end short = record {
  size = stored-word mid (place + MAXNAMELEN) end (omega (arith, short));
  elsewhere = λ q apart. sym (stored-left (put_word (place + MAXNAMELEN) end) mid q apart);
}

pub nothing-put : (size : ℕ) (byte : ℕ → ℕ) (way : List ℕ) (place : ℕ) (bytes new : List ℕ) (indirect : Bool) →
    Holds size byte way place (a_file bytes indirect) → bytes ≡ new →
    NowHas size byte (written [] byte) way (a_file new indirect)
unfolding written
nothing-put size byte way place bytes new indirect holds same = record {
  gives =
      record {
        sound = holds.sound;
        tree =
            sym (put-again (file_system_of byte) way (a_file bytes indirect) holds.is)
            ∙ ap (λ l. with_node (file_system_of byte) way (a_file l indirect)) same;
      };
  stays = refl;
  all_stay = λ at end leads. (leads, refl);
}

-- the law
pub cuts-acts : CutsAreActs
unfolding cut
cuts-acts size byte way place bytes indirect holds end within blocks =
    by_test (nat_lt end (size_of byte place)) refl
  where
    it : IsFile byte place bytes indirect
    it = file-at size byte way place bytes indirect holds

    stands : Stands byte place
    stands = stands-at size byte holds.sound way place holds.stands

    sized : length bytes ≡ size_of byte place
    sized = ap (λ (l : List ℕ). length l) (sym it.bytes_are) ∙ length-file byte place

    same-size : (n m : ℕ) → nat_lt n m ≡ false → m ≤ n
    same-size n m test = grind (arith, nat_tests)

    by_test : (less : Bool) → nat_lt end (size_of byte place) ≡ less →
        NowHas size byte (written (if less then put_size place end else []) byte) way (a_file (take end bytes) indirect)
    by_test true test =
        let short = stands.good.readable.short in
        data-gives size byte byte (written (put_size place end) byte) way place end bytes (take end bytes) indirect holds
        (record { elsewhere = λ q. inl refl })
        (size-put byte place end (omega (arith, short, sized, within))) blocks (omega (arith, short, sized, within))
        (length-take end bytes ∙ least end (length bytes) within)
        (λ a below.
        get_or-take end bytes a 0 below ∙ byte-was byte place bytes it.bytes_are a (omega (arith, sized, below, within)))
      where
        least : (n m : ℕ) → n ≤ m → min n m ≡ n
        least n m le = omega arith
    by_test false test =
        let le = same-size end (size_of byte place) test in
        nothing-put size byte way place bytes (take end bytes) indirect holds (sym (take_all end bytes (omega (arith, le, sized))))
