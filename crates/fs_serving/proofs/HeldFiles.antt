-- Which file is open: it is the object of a descriptor. And where the record of a file may stand.
use Rattle.std.proofs.Common.{◌≡◌, ◌∙◌, ◌+◌, ◌*◌, ◌/◌, ◌%◌, ◌<◌, ◌≤◌, ◌||◌, ◌==◌, ℕ, zero, suc, Bool, true, false, List, [], ◌∷◌, Option}
use Rattle.std.proofs.Common.{Some, None, refl, sym, ap, subst, arith}
use Rattle.std.specs.Prelude.{nat_lt}
use Rattle.std.proofs.lemmas.Bool.{and_parts, false≢true}
use Rattle.std.proofs.lemmas.Bool.Decides.{Decides-eqb, nat_tests}
use Rattle.std.proofs.lemmas.Slice.Eq.{bytes_eq-Decides}
use Rattle.jos_base.proofs.Below.{some_below-at}
use Rattle.jos_base.specs.Below.{some_below}
use Rattle.jos_base.specs.declared.numbers.TheConstants.{NENV}
use Rattle.fs_layout.specs.declared.numbers.TheConstants.{BLKFILES, BLKSIZE}
use Rattle.fs_layout.specs.DiskFiles.{IsDiskImage, file_system_of}
use Rattle.fs_layout.specs.DiskImage.{block_count, block_number_at, is_data_block, is_directory_at, is_empty_record, root_place}
use Rattle.fs_layout.specs.DiskImage.{size_of, slot_count, slot_place}
use Rattle.fs_layout.specs.FileActs.{look_up}
use Rattle.fs_acts.specs.BlockActs.{Led, a_record, led_to, place_at, place_from}
use Rattle.fs_acts.specs.BlockLaws.{AreGood, LeadsAlike}
use Rattle.fs_acts.proofs.DiskCounts.{image-counted}
use Rattle.fs_acts.proofs.Disks.{disk-blocks}
use Rattle.fs_acts.proofs.Paths.{paths-lead}
use Rattle.fs_acts.proofs.Undamaged.{some-same, way-goes}
use Rattle.fs_acts.proofs.WalkCounts.{slot-parts}
use Rattle.fs_runs.specs.TreeRuns.{IsSound, Memory}
use Rattle.fs_runs.proofs.PlacesLie.{places_lie, slot-block}
use Rattle.lib_os.specs.declared.numbers.TheConstants.{DESCRIPTORS}
use Rattle.lib_os.specs.AbstractPipes.{holds_such, is_such, is_such_held}
use Rattle.lib_os.specs.AbstractState.{AbstractState, Born, Object, OpenFile, file, read_end, terminal, write_end}
use Rattle.lib_os.specs.Descriptors.{holds_in, is_held, is_name}
use Rattle.lib_os.specs.FileServer.{is_at, is_count, is_file_open}
use Rattle.lib_os.specs.GuestStep.{born_in}

-- ---- tests

never : {X : Type 0} → false ≡ true → X
never e = absurd (false≢true e)

name-is : (name other : ℕ) → (name == other) ≡ true → name ≡ other
name-is name other e = (Decides-eqb name other).0 e

name-same : (name : ℕ) → (name == name) ≡ true
name-same name = (Decides-eqb name name).1 refl

some-passes : (n : ℕ) (passes : ℕ → Bool) → some_below n passes ≡ true → (k : ℕ) × (k < n) × (passes k ≡ true)
unfolding some_below
some-passes zero passes e = never e
some-passes (suc n) passes e = by (some_below n passes) refl (λ is. some-passes n passes is)
  where
    by : (b : Bool) → some_below n passes ≡ b → (some_below n passes ≡ true → (k : ℕ) × (k < n) × (passes k ≡ true)) →
        (k : ℕ) × (k < suc n) × (passes k ≡ true)
    by true is below = let found = below is in (found.0, omega (arith, found.1), found.2)
    by false is below = (n, omega arith, sym (ap (λ (b : Bool). b || passes n) is) ∙ e)

-- ---- objects of descriptors

-- There is such an object, and a descriptor for it.
abbrev pub HeldSuch : AbstractState → (Object → Bool) → Type 0
HeldSuch a is = (name : ℕ) × (is_held a name ≡ true) × (is (a.objects name) ≡ true)

such-by : (a : AbstractState) (is : Object → Bool) (n : ℕ) → n < NENV → (b : Option Born) → born_in (a.slots n) ≡ b →
    holds_such a is b ≡ true → HeldSuch a is
such-by a is n below None e held = never held
such-by a is n below (Some b) e held =
    let found = some-passes DESCRIPTORS (λ fd. is_such a is (b.descriptors fd)) held in by found.0 found.1 (b.descriptors found.0) refl found.2
  where
    by : (fd : ℕ) → fd < DESCRIPTORS → (d : Option ℕ) → b.descriptors fd ≡ d → is_such a is d ≡ true → HeldSuch a is
    by fd less None d such = never such
    by fd less (Some name) d such = (
      name,
      some_below-at (λ n. holds_in (born_in (a.slots n)) name) NENV n below
          (ap (λ (o : Option Born). holds_in o name) e
          ∙ some_below-at (λ fd. is_name (b.descriptors fd) name) DESCRIPTORS fd less
          (ap (λ (o : Option ℕ). is_name o name) d ∙ name-same name)),
      such,
    )

pub such-is-held : (a : AbstractState) (is : Object → Bool) → is_such_held a is ≡ true → HeldSuch a is
such-is-held a is e =
    let found = some-passes NENV (λ n. holds_such a is (born_in (a.slots n))) e in
    such-by a is found.0 found.1 (born_in (a.slots found.0)) refl found.2

held-by : (a : AbstractState) (is : Object → Bool) (name : ℕ) → is (a.objects name) ≡ true → (b : Option Born) →
    holds_in b name ≡ true → holds_such a is b ≡ true
held-by a is name such None held = never held
held-by a is name such (Some b) held =
    let found = some-passes DESCRIPTORS (λ fd. is_name (b.descriptors fd) name) held in
    some_below-at (λ fd. is_such a is (b.descriptors fd)) DESCRIPTORS found.0 found.1 (by (b.descriptors found.0) found.2)
  where
    by : (d : Option ℕ) → is_name d name ≡ true → is_such a is d ≡ true
    by None e = never e
    by (Some other) e = ap (λ (n : ℕ). is (a.objects n)) (name-is other name e) ∙ such

pub held-is-such : (a : AbstractState) (is : Object → Bool) (name : ℕ) → is_held a name ≡ true → is (a.objects name) ≡ true → is_such_held a is ≡ true
held-is-such a is name held such =
    let found = some-passes NENV (λ n. holds_in (born_in (a.slots n)) name) held in
    some_below-at (λ n. holds_such a is (born_in (a.slots n))) NENV found.0 found.1 (held-by a is name such (born_in (a.slots found.0)) found.2)

-- ---- files that are open

-- An object is the file at this way, and there is a descriptor for it.
abbrev pub HeldFile : AbstractState → List ℕ → Type 0
HeldFile a way = (name : ℕ) × (f : OpenFile) × (is_held a name ≡ true) × (a.objects name ≡ file f) × (f.way ≡ way)

pub open-is-held : (a : AbstractState) (way : List ℕ) → is_file_open a way ≡ true → HeldFile a way
open-is-held a way e = let found = such-is-held a (is_at way) e in by found.0 found.1 (a.objects found.0) refl found.2
  where
    by : (name : ℕ) → is_held a name ≡ true → (o : Object) → a.objects name ≡ o → is_at way o ≡ true → HeldFile a way
    by name held (file f) is at = (name, f, held, is, (bytes_eq-Decides f.way way).0 at)
    by name held terminal is at = never at
    by name held (read_end pipe) is at = never at
    by name held (write_end pipe) is at = never at

pub held-is-open : (a : AbstractState) (way : List ℕ) (name : ℕ) (f : OpenFile) → is_held a name ≡ true → a.objects name ≡ file f → f.way ≡ way →
    is_file_open a way ≡ true
held-is-open a way name f held is e =
    held-is-such a (is_at way) name held (ap (is_at way) is ∙ (bytes_eq-Decides f.way way).1 e)

-- ---- places of records

pub led-stands : (size : ℕ) (byte : ℕ → ℕ) (path way : List ℕ) (place : ℕ) → IsDiskImage size byte → led_to byte path ≡ a_record place way →
    place_at byte way ≡ Some place
led-stands size byte path way place image leads =
    (subst (λ (led : Led). LeadsAlike byte led (look_up (file_system_of byte) path)) leads (paths-lead size byte image path)).0

data-above : (blocks block : ℕ) → is_data_block blocks block ≡ true → 2 ≤ block
data-above blocks block is = grind (arith, nat_tests, and_parts)

slot-past : (count : ℕ) (byte : ℕ → ℕ) (place i : ℕ) → is_data_block count (block_number_at byte place (i / BLKFILES)) ≡ true →
    1 ≤ slot_place byte place i
slot-past count byte place i is_data =
    let n : ℕ = block_number_at byte place (i / BLKFILES) in past n i (data-above count n is_data)
  where
    past : (n i : ℕ) → 2 ≤ n → 1 ≤ 4096 * n + 256 * (i % 16)
    past n i more = omega (arith, more)

way-past : (way : List ℕ) (depth : ℕ) (byte : ℕ → ℕ) (here place : ℕ) → AreGood depth byte here → 1 ≤ here →
    place_from byte way here ≡ Some place → 1 ≤ place
unfolding place_from AreGood
way-past [] depth byte here place good past e = subst (λ (n : ℕ). 1 ≤ n) (some-same here place e) past
way-past (i ∷ way) zero byte here place good past e =
    let goes = way-goes byte i way here place e in
    let parts = slot-parts (is_directory_at byte here) i (slot_count byte here) (is_empty_record byte (slot_place byte here i)) goes.0 in
    absurd (none (slot_count byte here) i (good.1 parts.0) parts.1.0)
  where
    none : (n i : ℕ) → n ≡ 0 → i < n → ⊥
    none n i e lt = omega arith
way-past (i ∷ way) (suc depth) byte here place good past e =
    let goes = way-goes byte i way here place e in
    let parts = slot-parts (is_directory_at byte here) i (slot_count byte here) (is_empty_record byte (slot_place byte here i)) goes.0 in
    let within = slot-block (size_of byte here) i parts.1.0 in
    way-past way depth byte (slot_place byte here i) place (good.1 i goes.0).1
    (slot-past (block_count byte) byte here i (good.0.readable.within (i / BLKFILES) within)) goes.1

-- no record stands at 0
pub place-past : (size : ℕ) (byte : ℕ → ℕ) (way : List ℕ) (place : ℕ) → IsDiskImage size byte → place_at byte way ≡ Some place → 1 ≤ place
place-past size byte way place image e =
    way-past way (block_count byte) byte root_place place (image-counted size byte image).records (omega arith) e

-- and each place is below the errors' numbers
pub place-counts : (count : ℕ) (m : Memory) (way : List ℕ) (place : ℕ) → IsSound count m → place_at m.disk way ≡ Some place → is_count place ≡ true
place-counts count m way place sound e =
    let few = (disk-blocks (BLKSIZE * count) m.disk (image-counted (BLKSIZE * count) m.disk sound.disk)).1 in
    let lies = places_lie count m way place sound e in
    below place (lesser count place (subst (λ (n : ℕ). n ≤ 16384) sound.count_is few) lies.inside)
  where
    lesser : (count place : ℕ) → count ≤ 16384 → place + 256 ≤ 4096 * count → place < 0x80000000
    lesser count place few inside = omega (arith, few, inside)

    below : (n : ℕ) → n < 0x80000000 → nat_lt n 0x80000000 ≡ true
    below n less = grind (arith, nat_tests)
