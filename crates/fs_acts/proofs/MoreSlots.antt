-- A directory gets one more block, of empty records.
use Rattle.std.proofs.Common.{◌≡◌, ◌∙◌, inl, inr, ℕ, ◌+◌, ◌-◌, ◌*◌, ◌/◌, ◌%◌, ◌^◌, ◌<◌, ◌≤◌, ◌==◌, zero, suc, Bool, min, true, false}
use Rattle.std.proofs.Common.{List, length, ◌++◌, replicate, None, Option, refl, sym, ap, subst, arith}
use Rattle.std.proofs.lemmas.Bool.{cases_eq}
use Rattle.jos_base.specs.Counting.{total}
use Rattle.fs_layout.specs.declared.numbers.TheConstants.{BLKSIZE, RECORDSIZE, BLKFILES, MAXNAMELEN, NDIRECT}
use Rattle.fs_layout.specs.FileTree.{a_file, a_directory, Records, NamedNode, listed, records_from, blocks_of}
use Rattle.fs_layout.specs.DiskImage.{block_count, root_place, size_of, is_directory_at, has_indirect, blocks_needed}
use Rattle.fs_layout.specs.DiskImage.{block_number_at, slot_count, slot_place}
use Rattle.fs_layout.specs.DiskFiles.{file_bytes, node_of, records_at}
use Rattle.jos_base.proofs.Below.{length-values}
use Rattle.fs_layout.proofs.FileTrees.{listed-records_from, records_from-listed}
use Rattle.fs_acts.specs.BlockActs.{put_byte, put_word, stored, written, zero_block, mark_place, number_place}
use Rattle.fs_acts.specs.BlockLaws.{AreGood, IsCounted, Holds, NowHas, own_times, times_named, times_on_disk, TakenBlocksAreEmptyRecords}
use Rattle.fs_acts.proofs.Fields.{same-directory, same-label}
use Rattle.fs_acts.proofs.Named.{own-indirect, times-slot, named-data}
use Rattle.fs_acts.proofs.TreeBlocks.{data-below}
use Rattle.fs_acts.proofs.OneWay.{IsWay, way-is, way-times, way-used, none-before}
use Rattle.fs_acts.proofs.OneSlot.{NowIs}
use Rattle.fs_acts.proofs.OneRecord.{changed-gives_on}
use Rattle.fs_acts.proofs.Records.{own-good, slot-good, directory-node, file-node, SameBlocks, slot-same, records-alike}
use Rattle.fs_acts.proofs.Ways.{tree-list}
use Rattle.fs_acts.proofs.Staying.{AllFrom}
use Rattle.fs_acts.proofs.Refitted.{SlotsGo, BelowAlike, go-stay, go-good, go-times, go-list}
use Rattle.fs_acts.proofs.AtEnd.{AtEnd, at-end, held-node, Elsewhere, block-stays, own-stay}
use Rattle.fs_acts.proofs.BlockPuts.{word-put}
use Rattle.fs_acts.proofs.Marks.{used-marks, this_block, no_block}
use Rattle.fs_acts.proofs.Taken.{IsFree, free-block, InTaken, taken-loose, taken-apart, block-zeroed}
use Rattle.fs_acts.proofs.NumberPut.{put-kind, put-label}
use Rattle.fs_acts.proofs.More.{OneMore, more-good, more-own, more-has, more-number, more-now, more-puts, InMore, Above, more-free, Took, Room}
use Rattle.fs_acts.proofs.More.{took}
use Rattle.fs_acts.proofs.MoreFiles.{owned, whole-size}
use Rattle.fs_acts.proofs.DiskCounts.{image-counted}
use Rattle.fs_acts.proofs.FreeBlocks.{free-found}
use Rattle.fs_acts.proofs.Disks.{disk-blocks}

-- ---- a directory

-- what its node tells of its record
record IsList (byte : ℕ → ℕ) (depth place : ℕ) (list : List (Option NamedNode)) (indirect : Bool) : Type 0 where
  kind : is_directory_at byte place ≡ true
  is : records_from list ≡ records_at depth byte place
  mark : indirect ≡ has_indirect byte place

not-file : (records : Records) (indirect other : Bool) (bytes : List ℕ) → a_directory records indirect ≡ a_file bytes other → ⊥
not-file records indirect other bytes e = cc

list-parts : (one two : Records) (indirect other : Bool) → a_directory one indirect ≡ a_directory two other →
    (one ≡ two) × (indirect ≡ other)
list-parts one two indirect other e = (cc, cc)

held-list : (depth : ℕ) (byte : ℕ → ℕ) (place : ℕ) (list : List (Option NamedNode)) (indirect : Bool) →
    a_directory (records_from list) indirect ≡ node_of (records_at depth byte) byte place → IsList byte depth place list indirect
held-list depth byte place list indirect e = by_kind (is_directory_at byte place) refl
  where
    by_kind : (kind : Bool) → is_directory_at byte place ≡ kind → IsList byte depth place list indirect
    by_kind false is =
        absurd
        (not-file (records_from list) indirect (has_indirect byte place) (file_bytes byte place)
        (e ∙ file-node (records_at depth byte) byte place is))
    by_kind true is =
        let parts =
        list-parts (records_from list) (records_at depth byte place) indirect (has_indirect byte place)
        (e ∙ directory-node (records_at depth byte) byte place is) in
        record { kind = is; is = parts.0; mark = parts.1 }

-- as long as it has records
list-is : (depth : ℕ) (byte : ℕ → ℕ) (place : ℕ) (list : List (Option NamedNode)) → records_from list ≡ records_at (suc depth) byte place →
    (list ≡ listed (records_at (suc depth) byte place)) × (length list ≡ slot_count byte place)
list-is depth byte place list e =
    let same : list ≡ listed (records_at (suc depth) byte place) = sym (listed-records_from list) ∙ ap listed e in
    (same, ap length (same ∙ tree-list depth byte place) ∙ length-values (slot_count byte place) _)

-- ---- the depth is not used up

few-named : (size : ℕ) (byte : ℕ → ℕ) → IsCounted size byte → (n : ℕ) → total (suc n) (times_on_disk byte) ≤ n
unfolding total
few-named size byte counted zero =
    let none = none-before byte (block_count byte) root_place 0 counted.records (omega arith) in omega (arith, none)
few-named size byte counted (suc n) =
    let rest = few-named size byte counted n in let once = counted.once (suc n) in omega (arith, rest, once)

some-left : (size : ℕ) (byte : ℕ → ℕ) (way : List ℕ) (place end : ℕ) → IsCounted size byte →
    IsWay byte (block_count byte) root_place way place end → 0 < end
some-left size byte way place end counted leads = by_count (block_count byte) refl
  where
    past-named : (n : ℕ) → n ≡ block_count byte → (block : ℕ) → n ≤ block → times_on_disk byte block ≡ 0
    past-named n e block past = elim (cases_eq (times_on_disk byte block) 0) [
      | inl none ↦ none
      | inr some ↦
          let below =
          data-below (block_count byte) block (named-data (block_count byte) byte root_place block counted.records (omega (arith, some))) in
          absurd (omega (arith, e, past, below))
    ]

    by_count : (n : ℕ) → block_count byte ≡ n → 0 < end
    by_count zero e = let some = (disk-blocks size byte counted).0 in absurd (omega (arith, some, e))
    by_count (suc n) e =
        let used =
        way-used byte (block_count byte) root_place way place end (suc n) leads (past-named (suc n) (sym e)) in
        let few = few-named size byte counted n in
        omega (arith, used, few, e)

-- ---- its records afterwards

slot-number : (size i : ℕ) → i < size / 256 → i / 16 < (size + 4095) / 4096
slot-number size i within = omega arith

record Wide (byte other : ℕ → ℕ) (place last block size : ℕ) : Type 0 where
  more : OneMore byte other place last block size
  end : size ≡ BLKSIZE * (last + 1)

wide-slots : {byte other : ℕ → ℕ} {place last block size : ℕ} → Wide byte other place last block size →
    slot_count other place ≡ slot_count byte place + 16
wide-slots {byte} {other} {place} {last} wide =
    let now = wide.more.put.sized in
    let was = wide.more.whole in
    let end = wide.end in
    omega (arith, now, was, end)

wide-go : {byte other : ℕ → ℕ} {place last block size : ℕ} → Wide byte other place last block size → SameBlocks byte other place →
    SlotsGo byte other place
wide-go {byte} {other} {place} {last} {block} wide own =
    let more = wide.more in
    let count = wide-slots wide in
    let many = more.many in
    let was = more.whole in
    record {
      directory = same-directory byte other place (put-kind more.put);
      more = omega (arith, count);
      places = λ i within.
          ap (λ n. BLKSIZE * n + RECORDSIZE * (i % BLKFILES))
          (more-number more (i / BLKFILES) (let inside = slot-number (size_of byte place) i within in omega (arith, inside, many)));
      labels = λ i is within. same-label byte other (slot_place byte place i) (slot-same byte other place i own within);
      empty = λ i is past within.
          let row : i / 16 ≡ last = last-row last (size_of byte place) i was past (omega (arith, within, count)) in
          let at : slot_place other place i ≡ 4096 * block + 256 * (i % 16) =
          ap (λ n. 4096 * n + 256 * (i % 16)) (ap (block_number_at other place) row ∙ more-now more) in
          ap (λ p. other p == 0) at
          ∙ ap (λ n. n == 0) (more.zero (4096 * block + 256 * (i % 16)) (omega arith) (omega arith));
    }
  where
    last-row : (last size i : ℕ) → size ≡ 4096 * last → size / 256 ≤ i → i < size / 256 + 16 → i / 16 ≡ last
    last-row last size i was past within = omega arith

wide-below : (byte other : ℕ → ℕ) (depth place last block size : ℕ) → AtEnd byte (suc depth) place → Above byte (suc depth) place →
    IsFree byte block → block_count byte ≡ block_count other → Elsewhere byte other place (InMore byte place block) →
    SameBlocks byte other place → BelowAlike depth byte other place
wide-below byte other depth place last block size end above free count elsewhere own i named =
    records-alike depth byte other (slot_place byte place i) count (slot-good depth byte place i end.good named).1
    (slot-same byte other place i own named.within)
    (λ q some.
    let all = times-slot depth byte place q i named in
    let here : 0 < times_named (suc depth) byte place q = omega (arith, some, all) in
    block-stays byte other (suc depth) place (InMore byte place block) end elsewhere q here
    (λ told. elim told [
      | inl taken ↦ taken-apart byte (suc depth) place block end above free q here taken
      | inr indirect ↦
          let own_one = own-indirect byte place indirect.0 in
          let same = ap (own_times byte place) (indirect.1) in
          let most = end.once.once q in
          omega (arith, own_one, same, most, all, some)
    ]))

wide-now : (byte other : ℕ → ℕ) (depth place last block size : ℕ) (list : List (Option NamedNode)) (indirect : Bool) →
    AtEnd byte (suc depth) place → Above byte (suc depth) place → Wide byte other place last block size →
    block_count byte ≡ block_count other → Elsewhere byte other place (InMore byte place block) →
    IsList byte (suc depth) place list indirect →
    NowIs (suc depth) byte other place (this_block block) no_block
    (a_directory (records_from (list ++ replicate BLKFILES None)) indirect)
    × AllFrom byte other place
wide-now byte other depth place last block size list indirect end above wide count elsewhere is =
    let more = wide.more in
    let free = more.free in
    let own =
    own-stay byte other (suc depth) place (InMore byte place block) end elsewhere (more-free byte (suc depth) place block end above free) in
    let go = wide-go wide own in
    let below = wide-below byte other depth place last block size end above free count elsewhere own in
    let was = list-is depth byte place list is.is in
    let slots = wide-slots wide in
    let sixteen : slot_count other place - slot_count byte place ≡ 16 = omega (arith, slots) in
    let records : records_at (suc depth) other place ≡ records_from (list ++ replicate 16 None) =
    sym (records_from-listed (records_at (suc depth) other place))
    ∙ ap records_from
    (sym (go-list depth byte other place go is.kind below)
    ∙ ap (λ (l : List (Option NamedNode)). l ++ replicate (slot_count other place - slot_count byte place) None) (sym was.0)
    ∙ ap (λ n. list ++ replicate n None) sixteen) in (
      record {
        good = go-good depth byte other place end.good go (more-good more count) below;
        times = go-times depth byte other place (this_block block) no_block go below (more-own more);
        node =
            directory-node (records_at (suc depth) other) other place
            (sym (same-directory byte other place (put-kind more.put)) ∙ is.kind)
            ∙ (λ k. a_directory (records k) ((sym (more-has more) ∙ sym is.mark) k));
      },
      go-stay depth byte other place go below,
    )

-- ---- the law

wide-gives : (size : ℕ) (byte other : ℕ → ℕ) (way : List ℕ) (place block grown : ℕ) (list : List (Option NamedNode)) (indirect : Bool) →
    Holds size byte way place (a_directory (records_from list) indirect) → IsFree byte block →
    grown ≡ BLKSIZE * (blocks_needed byte place + 1) →
    ((depth : ℕ) → AtEnd byte depth place → Above byte depth place → Took byte other place (blocks_needed byte place) block grown) →
    NowHas size byte other way (a_directory (records_from (list ++ replicate BLKFILES None)) indirect)
wide-gives size byte other way place block grown list indirect holds free whole facts =
    let counted = image-counted size byte holds.sound in
    let last : ℕ = blocks_needed byte place in
    let leads = way-is byte way (block_count byte) root_place place counted.records holds.stands in
    let above : (depth : ℕ) → IsWay byte (block_count byte) root_place way place depth → Above byte depth place =
    λ depth at q. way-times byte (block_count byte) root_place way place depth at q in
    let given = facts leads.0 (at-end size byte way place leads.0 counted leads.1) (above leads.0 leads.1) in
    changed-gives_on size byte other way place (InTaken byte block) (this_block block) no_block
    (a_directory (records_from (list ++ replicate BLKFILES None)) indirect) holds.sound holds.stands
    (record {
      elsewhere = λ q. elim (given.elsewhere q) [
        | inl e ↦ inl e
        | inr differs ↦ inr (elim differs [ inl inside ↦ inl inside | inr told ↦ inr (owned byte place block (q / BLKSIZE) told) ])
      ];
      label = put-label given.more.put;
    })
    (taken-loose size byte block counted free) (used-marks byte other block given.used)
    (λ count d onward.
    by_depth d (some-left size byte way place d counted onward) (at-end size byte way place d counted onward) (above d onward)
    (record { more = given.more; end = whole }) count given.elsewhere
    (held-list d byte place list indirect (held-node size byte way place (a_directory (records_from list) indirect) holds d counted onward)))
  where
    by_depth : (d : ℕ) → 0 < d → AtEnd byte d place → Above byte d place → Wide byte other place (blocks_needed byte place) block grown →
        block_count byte ≡ block_count other → Elsewhere byte other place (InMore byte place block) → IsList byte d place list indirect →
        NowIs d byte other place (this_block block) no_block (a_directory (records_from (list ++ replicate BLKFILES None)) indirect)
        × AllFrom byte other place
    by_depth zero some end above wide count elsewhere is = absurd (omega (arith, some))
    by_depth (suc d) some end above wide count elsewhere is =
        wide-now byte other d place (blocks_needed byte place) block grown list indirect end above wide count elsewhere is

held-size : (depth : ℕ) (byte : ℕ → ℕ) (place : ℕ) (list : List (Option NamedNode)) (indirect : Bool) → 0 < depth →
    AreGood depth byte place → IsList byte depth place list indirect → RECORDSIZE * length list ≡ size_of byte place
held-size zero byte place list indirect some good is = absurd (omega (arith, some))
held-size (suc depth) byte place list indirect some good is =
    let long = (list-is depth byte place list is.is).1 in
    let whole = (own-good (suc depth) byte place good).readable.whole is.kind in
    records (length list) (size_of byte place) long whole
  where
    records : (n size : ℕ) → n ≡ size / 256 → size % 4096 ≡ 0 → 256 * n ≡ size
    records n size e whole = omega arith

whole-end : (last grown : ℕ) → grown ≡ 4096 * (last + 1) → grown % 4096 ≡ 0
whole-end last grown e = omega (arith, e)

pub taken-empty : TakenBlocksAreEmptyRecords
taken-empty size byte way place list indirect holds room =
    let counted = image-counted size byte holds.sound in
    let depth : ℕ = block_count byte in
    let leads = way-is byte way depth root_place place counted.records holds.stands in
    let at = at-end size byte way place leads.0 counted leads.1 in
    let is = held-list leads.0 byte place list indirect
    (held-node size byte way place (a_directory (records_from list) indirect) holds leads.0 counted leads.1) in
    let long = held-size leads.0 byte place list indirect (some-left size byte way place leads.0 counted leads.1) at.good is in
    let end : ℕ = RECORDSIZE * length list + BLKSIZE in
    let last : ℕ = blocks_needed byte place in
    let whole : size_of byte place ≡ BLKSIZE * last =
    whole-size (size_of byte place) (subst (λ n. n % BLKSIZE ≡ 0) long room.whole) in
    let short = room.short in
    let grown : ℕ = min end (BLKSIZE * (last + 1)) in
    let all : grown ≡ BLKSIZE * (last + 1) = omega (arith, long, whole) in
    let found = free-found size byte holds.sound room.free in
    let block : ℕ = found.0 in
    let free = free-block size byte block counted found.1 in
    let within = free.within in
    let most = (disk-blocks size byte counted).1 in
    let fields : Room byte place last grown =
    record {
      many = refl;
      whole = whole;
      grows = omega (arith, all);
      most = omega (arith, all);
      short = omega (arith, short);
      fits = λ directory. whole-end last grown all;
      room = elim room.counted [
        | inl near ↦ inl (subst (λ n. blocks_of n < NDIRECT) long near)
        | inr has ↦ inr has
      ];
    } in
    let mid : ℕ → ℕ =
    written (zero_block block) (stored (put_byte (mark_place block) (byte (mark_place block) - 2 ^ (block % 8))) byte) in
    let one : ℕ → ℕ = stored (put_word (number_place byte place last) block) mid in
    let other : ℕ → ℕ = stored (put_word (place + MAXNAMELEN) grown) one in
    subst
    (λ (o : ℕ → ℕ).
    NowHas size byte o way (a_directory (records_from (list ++ replicate BLKFILES None)) indirect))
    (sym (more-puts byte place end block found.1 free.marked))
    (wide-gives size byte other way place block grown list indirect holds free all
    (λ d here above.
    took byte mid one other d place last block grown here above free fields (block-zeroed byte block free)
    (word-put mid (number_place byte place last) block (omega (arith, within, most)))
    (word-put one (place + MAXNAMELEN) grown (omega (arith, short)))))
