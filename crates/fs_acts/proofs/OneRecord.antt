-- What a change in one record makes of a disk: where the record's own part is right, and the bitmap's bits go with the blocks
-- that it gains and loses, there is no fault, and the tree has another node at the record's way.
use Rattle.std.proofs.Common.{◌≡◌, ◌∙◌, ◌⊎◌, inl, inr, ℕ, ◌+◌, ◌*◌, ◌/◌, ◌<◌, ◌≤◌, ◌==◌, ◌&&◌, zero, suc, Bool, true, false, not}
use Rattle.std.proofs.Common.{List, [], ◌∷◌, ◌++◌, Some, None, refl, sym, ap, subst, arith}
use Rattle.std.specs.Prelude.{nat_le, nat_lt, if◌then◌else◌}
use Rattle.std.proofs.lemmas.Bool.{cases_eq, and_parts}
use Rattle.std.proofs.lemmas.Bool.Decides.{nat_tests}
use Rattle.jos_base.specs.Counting.{total}
use Rattle.jos_base.specs.Environments.{bit_of}
use Rattle.jos_base.proofs.Sums.{total-same}
use Rattle.fs_layout.specs.declared.numbers.TheConstants.{BLKSIZE, RECORDSIZE, FS_MAGIC}
use Rattle.fs_layout.specs.FileTree.{Node, node_changed, with_record, with_node, replaced}
use Rattle.fs_layout.specs.DiskImage.{TooShort, Magic, BlockCount, RootKind, Test, demand, in_turn, super_tests, none_named, root_place}
use Rattle.fs_layout.specs.DiskImage.{block_count, magic_of, is_good_count, is_data_block, first_data_block, is_marked_free}
use Rattle.fs_layout.specs.DiskImage.{is_directory_at, slot_place}
use Rattle.fs_layout.specs.DiskFiles.{IsDiskImage, file_system_of, root_of, node_of, records_at, named_blocks, is_unnamed, unnamed_blocks}
use Rattle.fs_acts.specs.BlockActs.{is_named_slot, place_from, place_at}
use Rattle.fs_acts.specs.BlockLaws.{AreGood, own_times, times_named, times_on_disk, IsCounted, Gives, NowHas}
use Rattle.fs_acts.proofs.Stored.{same-word}
use Rattle.fs_acts.proofs.Fields.{SameLabel, same-directory, same-slot}
use Rattle.fs_acts.proofs.Named.{IsNamed, is-named, times-own, times-slot, named-data}
use Rattle.fs_acts.proofs.Records.{no-slot, slot-good, SameDirectory, named-there}
use Rattle.fs_acts.proofs.Staying.{StaysFrom, AllFrom, AllBut, slot-stays, all-but}
use Rattle.fs_acts.proofs.Ways.{record-slot}
use Rattle.fs_acts.proofs.Undamaged.{way-goes, some-same}
use Rattle.fs_acts.proofs.TreeBlocks.{data-below}
use Rattle.fs_acts.proofs.FreeCounted.{first-within}
use Rattle.fs_acts.proofs.DiskCounts.{super-met, image-counted, counted-image, names-counted}
use Rattle.fs_acts.proofs.OneWay.{IsWay, way-good}
use Rattle.fs_acts.proofs.OneSlot.{In, Apart, OneSlot, own-slot, other-alike, slot-apart, slot-once, slot-loose, slot-label}
use Rattle.fs_acts.proofs.OneSlot.{slot-same_directory, NowIs, slot-becomes}

-- ---- where bytes may be others

-- in the record, in a block that it names, or in a loose block
abbrev pub Touched : (ℕ → ℕ) → ℕ → (ℕ → Type 0) → ℕ → Type 0
Touched byte place Loose q =
    ((place ≤ q) × (q < place + RECORDSIZE)) ⊎ ((0 < own_times byte place (q / BLKSIZE)) ⊎ Loose (q / BLKSIZE))

pub record Changed (byte other : ℕ → ℕ) (place : ℕ) (Loose : ℕ → Type 0) : Type 0 where
  pub elsewhere : (q : ℕ) → (byte q ≡ other q) ⊎ Touched byte place Loose q
  pub label : SameLabel byte other place

-- as it is seen from the record that it is
touched-here : (depth : ℕ) (byte : ℕ → ℕ) (place : ℕ) (Loose : ℕ → Type 0) (q : ℕ) → Touched byte place Loose q →
    In depth byte place Loose q
touched-here depth byte place Loose q (inl inside) = inl inside
touched-here depth byte place Loose q (inr (inl some)) =
    let own = times-own depth byte place (q / BLKSIZE) in inr (inl (omega (arith, own, some)))
touched-here depth byte place Loose q (inr (inr is)) = inr (inr is)

-- and from the directory above
touched-above : (depth : ℕ) (byte : ℕ → ℕ) (here i : ℕ) (Loose : ℕ → Type 0) (q : ℕ) → IsNamed byte here i →
    In depth byte (slot_place byte here i) Loose q → In (suc depth) byte here Loose q
touched-above depth byte here i Loose q named (inl inside) =
    let own = own-slot byte here i q named.within inside.0 inside.1 in
    let all = times-own (suc depth) byte here (q / BLKSIZE) in
    inr (inl (omega (arith, own, all)))
touched-above depth byte here i Loose q named (inr (inl some)) =
    let all = times-slot depth byte here (q / BLKSIZE) i named in inr (inl (omega (arith, some, all)))
touched-above depth byte here i Loose q named (inr (inr is)) = inr (inr is)

-- from any record above
pub touched-in : (way : List ℕ) (depth : ℕ) (byte : ℕ → ℕ) (here place : ℕ) (Loose : ℕ → Type 0) (q : ℕ) → AreGood depth byte here →
    place_from byte way here ≡ Some place → Touched byte place Loose q → In depth byte here Loose q
unfolding place_from
touched-in [] depth byte here place Loose q good leads touched =
    touched-here depth byte here Loose q (subst (λ p. Touched byte p Loose q) (sym (some-same here place leads)) touched)
touched-in (i ∷ way) zero byte here place Loose q good leads touched =
    let goes = way-goes byte i way here place leads in absurd (no-slot byte here i good (is-named byte here i goes.0))
touched-in (i ∷ way) (suc depth) byte here place Loose q good leads touched =
    let goes = way-goes byte i way here place leads in
    let named = is-named byte here i goes.0 in
    touched-above depth byte here i Loose q named
    (touched-in way depth byte (slot_place byte here i) place Loose q (slot-good depth byte here i good named).1 goes.1 touched)

-- ---- along the way

-- the way goes on from there
goes-on : (other : ℕ → ℕ) (i : ℕ) (way : List ℕ) (here place : ℕ) → is_named_slot other here i ≡ true →
    place_from other way (slot_place other here i) ≡ Some place → place_from other (i ∷ way) here ≡ Some place
unfolding place_from
goes-on other i way here place named rest =
    ap (λ (b : Bool). if b then place_from other way (slot_place other here i) else None) named ∙ rest

-- a way that begins with another one
abbrev pub Behind : List ℕ → (List ℕ → Type 0) → List ℕ → Type 0
Behind way Told at = (rest : List ℕ) × (at ≡ way ++ rest) × Told rest

-- What stays in a slot stays in the directory, and so do all other slots.
slot-all : {depth : ℕ} {byte other : ℕ → ℕ} {here i : ℕ} {Loose : ℕ → Type 0} (way : List ℕ) (Told : List ℕ → Type 0) →
    OneSlot depth byte other here i Loose → SameDirectory byte other here → AllBut (Behind way Told) byte other (slot_place byte here i) →
    AllBut (Behind (i ∷ way) Told) byte other here
slot-all {depth} {byte} {other} {here} {i} way Told one alike stay =
    all-but byte other here (Behind (i ∷ way) Told) (sym (same-directory byte other here alike.fields.kind))
    (λ j named at place leads. elim (cases_eq j i) [
      | inl e ↦
          subst (λ k. StaysFrom byte other here (k ∷ at) place ⊎ Behind (i ∷ way) Told (k ∷ at)) (sym e)
          (elim (stay at place (subst (λ k. place_from byte at (slot_place byte here k) ≡ Some place) e leads)) [
            | inl stays ↦
                inl
                (slot-stays byte other here i at place (named-there byte other here i alike one.named)
                (same-slot byte other here alike.good alike.fields i one.named.within) stays)
            | inr told ↦ inr (told.0, ap (λ (l : List ℕ). i ∷ l) told.1, told.2)
          ])
      | inr ne ↦
          inl
          (slot-stays byte other here j at place (named-there byte other here j alike named)
          (same-slot byte other here alike.good alike.fields j named.within) ((other-alike one j named ne).stay at place leads))
    ])

-- at the way's end
end-all : (byte other : ℕ → ℕ) (here place : ℕ) (Told : List ℕ → Type 0) → here ≡ place → AllBut Told byte other place →
    AllBut (Behind [] Told) byte other here
end-all byte other here place Told same stay =
    subst (λ p. AllBut (Behind [] Told) byte other p) (sym same)
    (λ at end leads. elim (stay at end leads) [ inl stays ↦ inl stays | inr told ↦ inr (at, refl, told) ])

pub way-becomes : (way : List ℕ) (depth : ℕ) (byte other : ℕ → ℕ) (here place : ℕ) (Loose : ℕ → Type 0) (gain loss : ℕ → ℕ) (new : Node)
    (Told : List ℕ → Type 0) → Changed byte other place Loose → block_count byte ≡ block_count other → AreGood depth byte here →
    ((block : ℕ) → times_named depth byte here block ≤ 1) → ((block : ℕ) → Loose block → times_named depth byte here block ≡ 0) →
    Apart depth byte here Loose → place_from byte way here ≡ Some place →
    ((d : ℕ) → IsWay byte depth here way place d → NowIs d byte other place gain loss new × AllBut Told byte other place) →
    NowIs depth byte other here gain loss (replaced way new (node_of (records_at depth byte) byte here)) × SameLabel byte other here
    × (place_from other way here ≡ Some place) × AllBut (Behind way Told) byte other here
unfolding place_from replaced IsWay
way-becomes [] depth byte other here place Loose gain loss new Told changed count good once loose apart leads ends =
    let same = some-same here place leads in
    let end = ends depth (same, refl) in
    let now = subst (λ p. NowIs depth byte other p gain loss new × SameLabel byte other p) (sym same) (end.0, changed.label) in
    (now.0, now.1, leads, end-all byte other here place Told same end.1)
way-becomes (i ∷ way) zero byte other here place Loose gain loss new Told changed count good once loose apart leads ends =
    let goes = way-goes byte i way here place leads in absurd (no-slot byte here i good (is-named byte here i goes.0))
way-becomes (i ∷ way) (suc depth) byte other here place Loose gain loss new Told changed count good once loose apart leads ends =
    let goes = way-goes byte i way here place leads in
    let named = is-named byte here i goes.0 in
    let next : ℕ = slot_place byte here i in
    let below = (slot-good depth byte here i good named).1 in
    let one : OneSlot depth byte other here i Loose =
    record {
      good = good;
      count = count;
      once = once;
      loose = loose;
      apart = apart;
      named = named;
      reach = λ q. elim (changed.elsewhere q) [
        | inl e ↦ inl e
        | inr touched ↦ inr (touched-in way depth byte next place Loose q below goes.1 touched)
      ];
    } in
    let rest =
    way-becomes way depth byte other next place Loose gain loss new Told changed count below (slot-once one) (slot-loose one)
    (slot-apart one) goes.1 (λ d onward. ends d (named, onward)) in
    let here_node : Node = node_of (records_at (suc depth) byte) byte here in
    let put = ap (λ r. with_record here_node i (node_changed (replaced way new) r)) (record-slot depth byte here i named) in
    let alike = slot-same_directory one rest.1 in
    let at : slot_place byte here i ≡ slot_place other here i = same-slot byte other here alike.good alike.fields i named.within in (
      subst (λ m. NowIs (suc depth) byte other here gain loss m) (sym put) (slot-becomes one rest.1 rest.0),
      slot-label one,
      goes-on other i way here place (named-there byte other here i alike named)
          (subst (λ p. place_from other way p ≡ Some place) at rest.2),
      slot-all way Told one alike rest.3,
    )

-- ---- the super block

-- no record names a block before the data blocks
pub first-unnamed : (depth : ℕ) (byte : ℕ → ℕ) (here block : ℕ) → AreGood depth byte here → block < first_data_block (block_count byte) →
    times_named depth byte here block ≡ 0
first-unnamed depth byte here block good before = elim (cases_eq (times_named depth byte here block) 0) [
  | inl none ↦ none
  | inr some ↦
      absurd (clash (first_data_block (block_count byte)) (block_count byte) block before
      (named-data depth byte here block good (omega (arith, some))))
]
  where
    clash : (first blocks block : ℕ) → block < first → (nat_le first block && nat_lt block blocks) ≡ true → ⊥
    clash first blocks block before is =
        let parts = and_parts (nat_le first block) (nat_lt block blocks) is in
        let le : first ≤ block = grind (arith, nat_tests, parts.0) in
        omega (arith, le, before)

-- loose blocks: no record names them, and the super block is none of them
abbrev pub AreLoose : (ℕ → ℕ) → (ℕ → Type 0) → Type 0
AreLoose byte Loose = (block : ℕ) → Loose block → (times_on_disk byte block ≡ 0) × (block ≡ 1 → ⊥)

block-one : (q : ℕ) → 4096 ≤ q → q < 8192 → q / 4096 ≡ 1
block-one q low high = omega arith

one-first : (blocks : ℕ) → 1 < first_data_block blocks
one-first blocks = omega arith

super-byte : (size : ℕ) (byte other : ℕ → ℕ) (way : List ℕ) (place : ℕ) (Loose : ℕ → Type 0) → IsCounted size byte →
    place_at byte way ≡ Some place → Changed byte other place Loose → AreLoose byte Loose → (q : ℕ) → 4096 ≤ q → q < 4104 →
    byte q ≡ other q
super-byte size byte other way place Loose counted leads changed loose q low high = elim (changed.elsewhere q) [
  | inl e ↦ e
  | inr touched ↦
      let at = block-one q low (omega (arith, high)) in
      let depth : ℕ = block_count byte in
      elim (touched-in way depth byte root_place place Loose q counted.records leads touched) [
        | inl inside ↦ let after = inside.0 in absurd (omega (arith, high, after))
        | inr rest ↦
            elim rest [
              | inl some ↦
                  let none = first-unnamed depth byte root_place 1 counted.records (one-first depth) in
                  let here = subst (λ b. 0 < times_named depth byte root_place b) at some in
                  absurd (omega (arith, none, here))
              | inr is ↦ absurd ((loose (q / BLKSIZE) is).1 at)
            ]
      ]
]

root-apart : (size : ℕ) (byte : ℕ → ℕ) (Loose : ℕ → Type 0) → IsCounted size byte → AreLoose byte Loose →
    Apart (block_count byte) byte root_place Loose
root-apart size byte Loose counted loose q low high =
    let depth : ℕ = block_count byte in
    let at = block-one q (omega (arith, low)) (omega (arith, high)) in (
      ap (times_named depth byte root_place) at ∙ first-unnamed depth byte root_place 1 counted.records (one-first depth),
      λ is. (loose (q / BLKSIZE) is).1 at,
    )

super-same : (size : ℕ) (byte other : ℕ → ℕ) → block_count byte ≡ block_count other → magic_of byte ≡ magic_of other →
    is_directory_at byte root_place ≡ is_directory_at other root_place → super_tests size byte ≡ super_tests size other
unfolding super_tests
super-same size byte other count magic root =
    λ k.
    demand (nat_le (3 * BLKSIZE) size && nat_le (BLKSIZE * count k) size) TooShort
    ∷ demand (magic k == FS_MAGIC) Magic
    ∷ demand (is_good_count (count k)) BlockCount
    ∷ demand (root k) RootKind
    ∷ []

-- ---- the disk

-- The bitmap's bits go with the blocks that are gained and lost. What stands behind the bits of all blocks says nothing.
abbrev pub MarksGo : (ℕ → ℕ) → (ℕ → ℕ) → (ℕ → ℕ) → (ℕ → ℕ) → Type 0
MarksGo byte other gain loss =
    (block : ℕ) → block < block_count byte →
    bit_of (is_marked_free other block) + gain block ≡ bit_of (is_marked_free byte block) + loss block

-- a block is named or free, and not both
pub named-or-free : (size : ℕ) (byte : ℕ → ℕ) → IsCounted size byte → (block : ℕ) →
    bit_of (is_marked_free byte block) + times_on_disk byte block ≤ 1
named-or-free size byte counted block = by_test (is_marked_free byte block) refl
  where
    clash : (b : Bool) → b ≡ true → b ≡ false → ⊥
    clash true is e = cc
    clash false is e = cc

    by_test : (b : Bool) → is_marked_free byte block ≡ b → bit_of b + times_on_disk byte block ≤ 1
    by_test false is = let once = counted.once block in omega (arith, once)
    by_test true is = elim (cases_eq (times_on_disk byte block) 0) [
      | inl none ↦ omega (arith, none)
      | inr some ↦ absurd (clash (is_marked_free byte block) is (counted.in_use block (omega (arith, some))))
    ]

no-bit : (b : Bool) (n : ℕ) → bit_of b + n ≤ 1 → 0 < n → b ≡ false
no-bit true n le some = absurd (omega (arith, le, some))
no-bit false n le some = refl

none-bit : (b : Bool) (n : ℕ) → bit_of b + n ≡ 0 → b ≡ false
none-bit true n e = absurd (omega (arith, e))
none-bit false n e = refl

-- neither
neither : (a b : Bool) → (not a && not b) ≡ (bit_of a + bit_of b == 0)
neither true true = refl
neither true false = refl
neither false true = refl
neither false false = refl

and-neither : (d a b c e : Bool) → bit_of a + bit_of b ≡ bit_of c + bit_of e → (d && not a && not b) ≡ (d && not c && not e)
and-neither true a b c e h = neither a b ∙ ap (λ n. n == 0) h ∙ sym (neither c e)
and-neither false a b c e h = refl

-- what the disk has become, where not all ways lead on from the record as they did
pub record NowBut (size : ℕ) (byte other : ℕ → ℕ) (way : List ℕ) (new : Node) (Told : List ℕ → Type 0) : Type 0 where
  pub gives : Gives size other (with_node (file_system_of byte) way new)
  pub stays : place_at other way ≡ place_at byte way
  pub others : AllBut (Behind way Told) byte other root_place

-- all do, where none is told
pub now-all : (size : ℕ) (byte other : ℕ → ℕ) (way : List ℕ) (new : Node) → NowBut size byte other way new (λ at. ⊥) →
    NowHas size byte other way new
now-all size byte other way new now = record {
  gives = now.gives;
  stays = now.stays;
  all_stay = λ at place leads. elim (now.others at place leads) [ inl stays ↦ stays | inr told ↦ absurd told.2 ];
}

-- The law of all changes in one record.
pub changed-but : (size : ℕ) (byte other : ℕ → ℕ) (way : List ℕ) (place : ℕ) (Loose : ℕ → Type 0) (gain loss : ℕ → ℕ) (new : Node)
    (Told : List ℕ → Type 0) → IsDiskImage size byte → place_at byte way ≡ Some place → Changed byte other place Loose → AreLoose byte Loose →
    MarksGo byte other gain loss →
    (block_count byte ≡ block_count other → (d : ℕ) → IsWay byte (block_count byte) root_place way place d →
    NowIs d byte other place gain loss new × AllBut Told byte other place) →
    NowBut size byte other way new Told
unfolding file_system_of unnamed_blocks
changed-but size byte other way place Loose gain loss new Told image leads changed loose marks ends =
    let counted = image-counted size byte image in
    let depth : ℕ = block_count byte in
    let same : (q : ℕ) → 4096 ≤ q → q < 4104 → byte q ≡ other q =
    super-byte size byte other way place Loose counted leads changed loose in
    let magic : magic_of byte ≡ magic_of other =
    same-word byte other 4096 (same 4096 (omega arith) (omega arith)) (same 4097 (omega arith) (omega arith))
    (same 4098 (omega arith) (omega arith)) (same 4099 (omega arith) (omega arith)) in
    let count : block_count byte ≡ block_count other =
    same-word byte other 4100 (same 4100 (omega arith) (omega arith)) (same 4101 (omega arith) (omega arith))
    (same 4102 (omega arith) (omega arith)) (same 4103 (omega arith) (omega arith)) in
    let now =
    way-becomes way depth byte other root_place place Loose gain loss new Told changed count counted.records counted.once
    (λ block is. (loose block is).0) (root-apart size byte Loose counted loose) leads (ends count) in
    let times : (block : ℕ) → times_on_disk other block + loss block ≡ times_on_disk byte block + gain block =
    λ block. ap (λ d. times_named d other root_place block + loss block) (sym count) ∙ now.0.times block in
    let either : (block : ℕ) → block < depth →
    bit_of (is_marked_free other block) + times_on_disk other block ≡ bit_of (is_marked_free byte block) + times_on_disk byte block =
    λ block within. let a = marks block within in let b = times block in omega (arith, a, b) in
    let most : (block : ℕ) → block < depth → bit_of (is_marked_free other block) + times_on_disk other block ≤ 1 =
    λ block within. subst (λ n. n ≤ 1) (sym (either block within)) (named-or-free size byte counted block) in
    let good : AreGood (block_count other) other root_place = subst (λ d. AreGood d other root_place) count now.0.good in
    let within : (block : ℕ) → 0 < times_on_disk other block → block < depth =
    λ block some.
    subst (λ n. block < n) (sym count)
    (data-below (block_count other) block (named-data (block_count other) other root_place block good some)) in
    let met = super-met size byte none_named none_named counted.begins in
    let sound : IsDiskImage size other =
    counted-image size other
    (record {
      begins =
          ap (λ (tests : List Test). in_turn tests none_named)
          (sym (super-same size byte other count magic (same-directory byte other root_place now.1.kind))) ∙ counted.begins;
      records = good;
      once = λ block. elim (cases_eq (times_on_disk other block) 0) [
        | inl none ↦ omega (arith, none)
        | inr some ↦ let h = most block (within block (omega (arith, some))) in omega (arith, h)
      ];
      in_use = λ block some.
          no-bit (is_marked_free other block) (times_on_disk other block) (most block (within block some)) some;
      first = λ block before.
          let before_too = subst (λ b. block < first_data_block b) (sym count) before in
          let none = first-unnamed depth byte root_place block counted.records before_too in
          let used = ap bit_of (counted.first block before_too) in
          let inside = first-within depth met.count in
          let h = either block (omega (arith, before_too, inside)) in
          none-bit (is_marked_free other block) (times_on_disk other block) (omega (arith, none, used, h));
    }) in
    let unnamed : (q : ℕ) → q < depth → is_unnamed other q ≡ is_unnamed byte q =
    λ q below.
    let a = names-counted size other sound q in
    let b = names-counted size byte image q in
    let h = either q in
    ap (λ blocks. is_data_block blocks q && not (is_marked_free other q) && not (named_blocks other q)) (sym count)
    ∙ and-neither (is_data_block (block_count byte) q) (is_marked_free other q) (named_blocks other q) (is_marked_free byte q)
    (named_blocks byte q) (omega (arith, a, b, h)) in
    let unnamed_all : total (block_count other) (λ q. bit_of (is_unnamed other q)) ≡ total (block_count byte) (λ q. bit_of (is_unnamed byte q)) =
    ap (λ n. total n (λ q. bit_of (is_unnamed other q))) (sym count)
    ∙ total-same (block_count byte) (λ q. bit_of (is_unnamed other q)) (λ q. bit_of (is_unnamed byte q)) (λ q below. ap bit_of (unnamed q below)) in
    let root : root_of other ≡ replaced way new (root_of byte) =
    ap (λ d. node_of (records_at d other) other root_place) (sym count) ∙ now.0.node in
    record {
      gives = record { sound = sound; tree = λ k. record { root = root k; blocks = sym count k; unnamed = unnamed_all k } };
      stays = now.2 ∙ sym leads;
      others = now.3;
    }

-- the same, where all do
pub changed-gives_on : (size : ℕ) (byte other : ℕ → ℕ) (way : List ℕ) (place : ℕ) (Loose : ℕ → Type 0) (gain loss : ℕ → ℕ) (new : Node) →
    IsDiskImage size byte → place_at byte way ≡ Some place → Changed byte other place Loose → AreLoose byte Loose →
    MarksGo byte other gain loss →
    (block_count byte ≡ block_count other → (d : ℕ) → IsWay byte (block_count byte) root_place way place d →
    NowIs d byte other place gain loss new × AllFrom byte other place) →
    NowHas size byte other way new
changed-gives_on size byte other way place Loose gain loss new image leads changed loose marks ends =
    now-all size byte other way new
    (changed-but size byte other way place Loose gain loss new (λ at. ⊥) image leads changed loose marks
    (λ count d onward. let end = ends count d onward in (end.0, λ at last goes. inl (end.1 at last goes))))

-- the same, where all that is known of the depth is that it suffices
pub changed-gives : (size : ℕ) (byte other : ℕ → ℕ) (way : List ℕ) (place : ℕ) (Loose : ℕ → Type 0) (gain loss : ℕ → ℕ) (new : Node) →
    IsDiskImage size byte → place_at byte way ≡ Some place → Changed byte other place Loose → AreLoose byte Loose →
    MarksGo byte other gain loss →
    (block_count byte ≡ block_count other → (d : ℕ) → AreGood d byte place →
    NowIs d byte other place gain loss new × AllFrom byte other place) →
    NowHas size byte other way new
changed-gives size byte other way place Loose gain loss new image leads changed loose marks ends =
    changed-gives_on size byte other way place Loose gain loss new image leads changed loose marks
    (λ count d onward.
    ends count d (way-good byte (block_count byte) root_place way place d onward (image-counted size byte image).records))
