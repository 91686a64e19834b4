-- Records to which ways lead, as a walk along a path meets them.
use Rattle.std.proofs.Common.{◌≡◌, ◌∙◌, ◌+◌, ◌*◌, ◌%◌, ◌<◌, ◌≤◌, ◌==◌, ◌&&◌, ℕ, Bool, true, false, not, refl, sym, ap, subst, arith}
use Rattle.std.proofs.Common.{List, [], ◌∷◌, ◌++◌, Option, Some, None}
use Rattle.std.specs.Prelude.{◌||◌, bytes_eq, if◌then◌else◌}
use Rattle.std.proofs.lemmas.Bool.{lt-ltb}
use Rattle.std.proofs.lemmas.List.Quantifiers.{position-Some}
use Rattle.jos_base.specs.Below.{values_below}
use Rattle.jos_base.proofs.Below.{get_or-values, length-values}
use Rattle.fs_layout.specs.declared.numbers.TheConstants.{BLKSIZE, MAXFILESIZE, RECORDSIZE}
use Rattle.fs_layout.specs.DiskImage.{is_directory_at, is_empty_record, is_good_kind, kind_at, name_of, root_place, size_of, slot_count, slot_place}
use Rattle.fs_acts.specs.BlockActs.{first_slot, is_named_slot, place_at, place_from, slot_named}
use Rattle.fs_acts.proofs.ChangesWithin.{placed}
use Rattle.fs_acts.proofs.Undamaged.{way-goes, way-reached}
use Rattle.fs_runs.specs.TreeRuns.{IsSound, Memory}

-- a record at a way of the disk
pub record IsStanding (count : ℕ) (m : Memory) (home : ℕ) : Type 0 where
  pub way : List ℕ
  pub stands : place_at m.disk way ≡ Some home
  pub even : home % 4 ≡ 0
  pub inside : home + RECORDSIZE ≤ BLKSIZE * count
  pub few : count ≤ 16384
  pub short : size_of m.disk home ≤ MAXFILESIZE
  pub kind : is_good_kind (kind_at m.disk home) ≡ true

pub standing : (count : ℕ) (m : Memory) (way : List ℕ) (home : ℕ) → IsSound count m → place_at m.disk way ≡ Some home → IsStanding count m home
standing count m way home sound stands =
    let it = placed (BLKSIZE * count) m.disk sound.disk way home stands in
    record {
      way = way;
      stands = stands;
      even = it.lies.words;
      inside = subst (λ n. home + RECORDSIZE ≤ BLKSIZE * n) sound.count_is it.lies.within;
      few = subst (λ n. n ≤ 16384) sound.count_is it.few;
      short = it.good.readable.short;
      kind = (way-reached (BLKSIZE * count) m.disk sound.disk way home stands).kind;
    }

pub root-stands : (byte : ℕ → ℕ) → place_at byte [] ≡ Some root_place
unfolding place_from
root-stands byte = refl

-- a record further along a way
way-further : (byte : ℕ → ℕ) (way : List ℕ) (here home i : ℕ) → place_from byte way here ≡ Some home → is_named_slot byte home i ≡ true →
    place_from byte (way ++ i ∷ []) here ≡ Some (slot_place byte home i)
unfolding place_from
way-further byte [] here home i leads is =
    let same : here ≡ home = some-same here home leads in
    subst (λ n. (if is_named_slot byte n i then Some (slot_place byte n i) else None) ≡ Some (slot_place byte home i)) (sym same) (rw is refl)
  where
    some-same : (a b : ℕ) → ◌≡◌ {A = Option ℕ} (Some a) (Some b) → a ≡ b
    some-same a b e = cc
way-further byte (k ∷ way) here home i leads is =
    let goes = way-goes byte k way here home leads in
    let onward = way-further byte way (slot_place byte here k) home i goes.1 is in
    rw goes.0 onward

-- the record with a name is there
filled : (empty other : Bool) → (not empty && other) ≡ true → not empty ≡ true
filled true other e = cc
filled false other e = refl

named-slot : (byte : ℕ → ℕ) (home : ℕ) (name : List ℕ) (i : ℕ) → is_directory_at byte home ≡ true → slot_named byte home name ≡ Some i →
    is_named_slot byte home i ≡ true
unfolding first_slot
named-slot byte home name i is e =
    let passes : ℕ → Bool = λ place. not (is_empty_record byte place) && bytes_eq (name_of byte place) name in
    let found = position-Some passes (values_below (slot_count byte home) (slot_place byte home)) i 0 e in
    let wide = length-values (slot_count byte home) (slot_place byte home) in
    let below = found.0 in
    let within : i < slot_count byte home = omega (arith, below, wide) in
    let there =
    filled (is_empty_record byte (slot_place byte home i)) (bytes_eq (name_of byte (slot_place byte home i)) name)
    (ap passes (sym (get_or-values (slot_count byte home) (slot_place byte home) i 0 within)) ∙ found.1) in
    rw (is, lt-ltb i (slot_count byte home) within, there) refl

pub slot-stands : (count : ℕ) (m : Memory) (home : ℕ) (name : List ℕ) (i : ℕ) → IsSound count m → IsStanding count m home →
    is_directory_at m.disk home ≡ true → slot_named m.disk home name ≡ Some i → IsStanding count m (slot_place m.disk home i)
slot-stands count m home name i sound it is e =
    standing count m (it.way ++ i ∷ []) (slot_place m.disk home i) sound
    (way-further m.disk it.way root_place home i it.stands (named-slot m.disk home name i is e))

-- a file has a file's kind
pub file-kind : (kind : ℕ) → is_good_kind kind ≡ true → (kind == 1) ≡ false → (kind == 0) ≡ true
file-kind kind good other = by (kind == 0) good
  where
    by : (b : Bool) → (b || (kind == 1)) ≡ true → b ≡ true
    by true e = refl
    by false e = sym other ∙ e
