-- What a disk without a fault says of a record of it, as the changes of its blocks want it.
use Rattle.std.proofs.Common.{◌≡◌, ◌∙◌, ◌<◌, ◌≤◌, ◌+◌, ◌*◌, ◌/◌, ◌%◌, ◌⊎◌, inl, inr, ℕ, Bool, true, false, not, List}
use Rattle.std.proofs.Common.{Some, refl, sym, ap, subst, arith}
use Rattle.std.specs.Prelude.{◌==◌, ◌&&◌, nat_le, nat_lt}
use Rattle.std.proofs.lemmas.Bool.{and_parts, eqb-true, not-false}
use Rattle.std.proofs.lemmas.Bool.Decides.{nat_tests}
use Rattle.fs_layout.specs.declared.numbers.TheConstants.{BLKSIZE, MAXFILESIZE, NDIRECT, RECORDSIZE}
use Rattle.fs_layout.specs.DiskImage.{block_count, block_number_at, blocks_needed, first_data_block, has_indirect, indirect_of}
use Rattle.fs_layout.specs.DiskImage.{is_data_block, is_good_count, none_named, root_place, size_of}
use Rattle.fs_acts.specs.BlockActs.{place_at}
use Rattle.fs_acts.specs.BlockLaws.{own_times}
use Rattle.fs_acts.proofs.AtEnd.{at-end}
use Rattle.fs_acts.proofs.Named.{own-both, own-one, own-indirect}
use Rattle.fs_acts.proofs.OneWay.{way-is}
use Rattle.fs_acts.proofs.DiskCounts.{image-counted, super-met}
use Rattle.fs_acts.proofs.FileRecords.{Stands, stands-at}
use Rattle.fs_jobs.specs.declared.place.Changed.{Changed}
use Rattle.fs_jobs.specs.declared.place.Job.{Job}
use Rattle.fs_jobs.specs.TreeBounds.{is_bounded_changed, is_bounded_job, is_block, is_place}
use Rattle.fs_runs.specs.TreeRuns.{AreSmall, IsSound, Memory}
use Rattle.fs_runs.proofs.WalksKnown.{own-few}
use Rattle.fs_runs.proofs.Pieces.{BlocksAreGiven, BlocksAreTaken, BytesAreRead, BytesAreWritten, Changes, EndsAreFilled, FreeIsCounted, HasBlocks}
use Rattle.fs_runs.proofs.Pieces.{IndirectsAreGiven, IndirectsAreTaken, IsCounted, LiesApart, LiesOn, LowestIsFound, NamesAreSought}
use Rattle.fs_runs.proofs.Pieces.{NumbersAreFound, NumbersAreRead, PathsAreRead, PlacesLie, RecordsAreEmptied, RecordsAreMade, SizesAreCut}
use Rattle.fs_runs.proofs.Pieces.{StatsAreTold, SupersAreRead, WalksFind, WalksMiss, WalksStray}

-- ---- the pieces

pub record Pieces : Type 0 where
  pub paths_are_read : PathsAreRead
  pub supers_are_read : SupersAreRead
  pub places_lie : PlacesLie
  pub names_are_sought : NamesAreSought
  pub walks_find : WalksFind
  pub walks_stray : WalksStray
  pub walks_miss : WalksMiss
  pub numbers_are_read : NumbersAreRead
  pub numbers_are_found : NumbersAreFound
  pub free_is_counted : FreeIsCounted
  pub lowest_is_found : LowestIsFound
  pub blocks_are_taken : BlocksAreTaken
  pub indirects_are_taken : IndirectsAreTaken
  pub blocks_are_given : BlocksAreGiven
  pub indirects_are_given : IndirectsAreGiven
  pub sizes_are_cut : SizesAreCut
  pub ends_are_filled : EndsAreFilled
  pub bytes_are_written : BytesAreWritten
  pub bytes_are_read : BytesAreRead
  pub stats_are_told : StatsAreTold
  pub records_are_made : RecordsAreMade
  pub records_are_emptied : RecordsAreEmptied

-- ---- the disk

pub counted-is : (count : ℕ) (m : Memory) → IsSound count m → IsCounted count m.disk
counted-is count m sound =
    let counted = image-counted (BLKSIZE * count) m.disk sound.disk in
    let met = super-met (BLKSIZE * count) m.disk none_named none_named counted.begins in
    let good : is_good_count count ≡ true = ap (λ (n : ℕ). is_good_count n) (sym sound.count_is) ∙ met.count in
    let parts = and_parts (nat_le 4 count) (nat_le count 16384) good in
    let low : 4 ≤ count = grind (arith, nat_tests, parts.0) in
    let high : count ≤ 16384 = grind (arith, nat_tests, parts.1) in
    (sound.count_is, low, high)

pub count-small : (count : ℕ) → count ≤ 16384 → is_block count ≡ true
count-small count high = grind (arith, nat_tests)

-- ---- a record of it

-- a record stands at a way of a disk without a fault
pub record Found (count : ℕ) (way : List ℕ) (home : ℕ) (m : Memory) : Type 0 where
  pub sound : IsSound count m
  pub stands : place_at m.disk way ≡ Some home

pub record Facts (count home : ℕ) (byte : ℕ → ℕ) : Type 0 where
  pub counted : IsCounted count byte
  pub lies : LiesOn count home
  pub short : size_of byte home ≤ MAXFILESIZE
  pub few : blocks_needed byte home ≤ count
  pub within : (i : ℕ) → i < blocks_needed byte home → is_data_block count (block_number_at byte home i) ≡ true
  pub indirect : has_indirect byte home ≡ true → is_data_block count (indirect_of byte home) ≡ true
  pub needed : NDIRECT < blocks_needed byte home → has_indirect byte home ≡ true
  -- it lies in one block, which is none of the bitmap's, none of its own and not its indirect block
  pub one_block : home % BLKSIZE + RECORDSIZE ≤ BLKSIZE
  pub off_map : (home / BLKSIZE < 2) ⊎ (first_data_block count ≤ home / BLKSIZE)
  pub apart : (i : ℕ) → i < blocks_needed byte home → home / BLKSIZE ≡ block_number_at byte home i → ⊥
  pub apart_indirect : has_indirect byte home ≡ true → home / BLKSIZE ≡ indirect_of byte home → ⊥
  -- which is none of its own either
  pub indirect_apart : has_indirect byte home ≡ true → (i : ℕ) → i < blocks_needed byte home →
      indirect_of byte home ≡ block_number_at byte home i → ⊥

pub facts : Pieces → (count : ℕ) (way : List ℕ) (home : ℕ) (m : Memory) → Found count way home m → Facts count home m.disk
facts pieces count way home m found =
    let stands : Stands m.disk home = stands-at (BLKSIZE * count) m.disk found.sound.disk way home found.stands in
    let counted = image-counted (BLKSIZE * count) m.disk found.sound.disk in
    let is = way-is m.disk way (block_count m.disk) root_place home counted.records found.stands in
    let end = at-end (BLKSIZE * count) m.disk way home is.0 counted is.1 in
    let none : own_times m.disk home (home / BLKSIZE) ≡ 0 = stands.apart home (omega arith) (omega arith) in
    record {
      counted = counted-is count m found.sound;
      lies = pieces.places_lie count m way home found.sound found.stands;
      short = stands.good.readable.short;
      few = subst (λ (n : ℕ). blocks_needed m.disk home ≤ n) found.sound.count_is (own-few m.disk home stands.good stands.once);
      within = λ i less.
          subst (λ (n : ℕ). is_data_block n (block_number_at m.disk home i) ≡ true) found.sound.count_is (stands.good.readable.within i less);
      indirect = λ has.
          subst (λ (n : ℕ). is_data_block n (indirect_of m.disk home) ≡ true) found.sound.count_is (stands.good.indirect has);
      needed = stands.good.needed;
      one_block = end.aligned;
      off_map =
          subst (λ (n : ℕ). (home / BLKSIZE < 2) ⊎ (first_data_block n ≤ home / BLKSIZE)) found.sound.count_is end.off_map;
      apart = λ i less e.
          let one = own-one m.disk home i (home / BLKSIZE) less (sym e) in absurd (omega (arith, one, none));
      apart_indirect = λ has e.
          let one = subst (λ (n : ℕ). 1 ≤ own_times m.disk home n) (sym e) (own-indirect m.disk home has) in
          absurd (omega (arith, one, none));
      indirect_apart = λ has i less e.
          let twice = own-both m.disk home i has less (sym e) in
          let most = stands.once (indirect_of m.disk home) in
          absurd (omega (arith, twice, most));
    }

-- ---- what is read of it

abbrev pub changed : ℕ → ℕ → ℕ → ℕ → Changed
changed home size indirect end = record { home = home; size = size; indirect = indirect; end = end }

abbrev pub read_now : ℕ → ℕ → (ℕ → ℕ) → Changed
read_now home end byte = changed home (size_of byte home) (indirect_of byte home) end

pub none-there : (n : ℕ) → not (n == 0) ≡ false → n ≡ 0
none-there n e = eqb-true n 0 (not-false (n == 0) e)

pub indirect-is : {count home : ℕ} {byte : ℕ → ℕ} → Facts count home byte →
    (indirect_of byte home ≡ 0) ⊎ (is_data_block count (indirect_of byte home) ≡ true)
indirect-is {count} {home} {byte} is = by (has_indirect byte home) refl
  where
    by : (b : Bool) → has_indirect byte home ≡ b → (indirect_of byte home ≡ 0) ⊎ (is_data_block count (indirect_of byte home) ≡ true)
    by true e = inr (is.indirect e)
    by false e = inl (none-there (indirect_of byte home) e)

data-small : (first count block : ℕ) → count ≤ 16384 → (nat_le first block && nat_lt block count) ≡ true → is_block block ≡ true
data-small first count block high e =
    let parts = and_parts (nat_le first block) (nat_lt block count) e in
    let below : block < count = grind (arith, nat_tests, parts.1) in
    grind (arith, nat_tests)

zero-small : (block : ℕ) → block ≡ 0 → is_block block ≡ true
zero-small block e = grind (arith, nat_tests)

pub size-small : (size : ℕ) → size ≤ MAXFILESIZE → is_place size ≡ true
size-small size le = grind (arith, nat_tests)

pub home-small : (count home : ℕ) → LiesOn count home → count ≤ 16384 → is_place home ≡ true
home-small count home lies high =
    let inside = lies.inside in
    let below : home < 268435456 = omega (arith, inside, high) in
    grind (arith, nat_tests)

pub bounded-changed : (home size indirect end : ℕ) → is_place home ≡ true → is_place size ≡ true → is_block indirect ≡ true → is_place end ≡ true →
    is_bounded_changed (changed home size indirect end) ≡ true
bounded-changed home size indirect end a b c d = λ i. a i && b i && c i && d i

pub indirect-small : {count home : ℕ} {byte : ℕ → ℕ} → Facts count home byte → is_block (indirect_of byte home) ≡ true
indirect-small {count} {home} {byte} is = by (indirect-is is)
  where
    by : (indirect_of byte home ≡ 0) ⊎ (is_data_block count (indirect_of byte home) ≡ true) → is_block (indirect_of byte home) ≡ true
    by (inl none) = zero-small (indirect_of byte home) none
    by (inr some) = data-small _ count (indirect_of byte home) is.counted.2 some

pub bounded-now : {count home : ℕ} {byte : ℕ → ℕ} (end : ℕ) → Facts count home byte → end ≤ MAXFILESIZE →
    is_bounded_changed (read_now home end byte) ≡ true
bounded-now {count} {home} {byte} end is short =
    bounded-changed home (size_of byte home) (indirect_of byte home) end (home-small count home is.lies is.counted.2)
    (size-small (size_of byte home) is.short) (indirect-small is) (size-small end short)

-- what the changes want
pub changes-now : (count : ℕ) (j : Job) (home end : ℕ) (m : Memory) → Facts count home m.disk → AreSmall m → is_bounded_job j ≡ true →
    end ≤ MAXFILESIZE → Changes count j (read_now home end m.disk) m
changes-now count j home end m is small job short =
    record {
      counted = is.counted;
      small = small;
      lies = is.lies;
      one_block = is.one_block;
      off_map = is.off_map;
      job = job;
      bounded = bounded-now end is short;
      is_read = record { size = refl; indirect = refl };
      indirect = indirect-is is;
      size_most = is.short;
      end_most = short;
    }

pub blocks-now : {count home : ℕ} {byte : ℕ → ℕ} (end : ℕ) → Facts count home byte → HasBlocks count (read_now home end byte) byte
blocks-now {count} {home} {byte} end is = (is.within, λ more. is.indirect (is.needed more))

pub apart-now : {count home : ℕ} {byte : ℕ → ℕ} (end : ℕ) → Facts count home byte → LiesApart (read_now home end byte) byte
apart-now {count} {home} {byte} end is = (is.apart, by (has_indirect byte home) refl)
  where
    by : (b : Bool) → has_indirect byte home ≡ b → indirect_of byte home ≡ home / BLKSIZE → indirect_of byte home ≡ 0
    by true has e = absurd (is.apart_indirect has (sym e))
    by false has e = none-there (indirect_of byte home) has
