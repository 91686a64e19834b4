-- Each change of a record's blocks, from where its size is read to where it is read again.
use Rattle.std.proofs.Common.{◌≡◌, ◌<◌, ◌≤◌, ◌+◌, ◌-◌, ◌*◌, ◌/◌, ◌%◌, ◌⊎◌, inl, inr, ℕ, Bool, true, false, not}
use Rattle.std.proofs.Common.{refl, sym, ap, subst, arith, min}
use Rattle.std.specs.Prelude.{◌&&◌, nat_le, nat_lt, if◌then◌else◌}
use Rattle.std.proofs.lemmas.Bool.Decides.{nat_tests}
use Rattle.jos_base.specs.declared.numbers.TheConstants.{PGSIZE}
use Rattle.fs_layout.specs.declared.numbers.TheConstants.{BLKSIZE, MAXFILESIZE, NDIRECT}
use Rattle.fs_layout.specs.DiskFiles.{IsDiskImage, free_blocks}
use Rattle.fs_layout.specs.DiskImage.{blocks_needed, has_indirect, indirect_of, is_data_block, size_of}
use Rattle.fs_layout.specs.FileTree.{blocks_of, needs_indirect}
use Rattle.fs_acts.specs.BlockActs.{cut, fill, give_block, give_indirect, take_block, take_indirect, written}
use Rattle.fs_acts.proofs.FreeBlocks.{free-found}
use Rattle.fs_jobs.specs.declared.place.Change.TheVariants as change
use Rattle.fs_jobs.specs.declared.place.Changed.{Changed}
use Rattle.fs_jobs.specs.declared.place.FilePlace.{FilePlace}
use Rattle.fs_jobs.specs.declared.place.FilePlace.TheVariants as file
use Rattle.fs_jobs.specs.declared.place.Job.{Job}
use Rattle.fs_jobs.specs.declared.place.TreeState.{TreeState}
use Rattle.fs_jobs.specs.declared.place.Wanted.TheVariants as wanted
use Rattle.fs_jobs.specs.declared.asks.TreeNext.{TreeNext}
use Rattle.fs_jobs.specs.declared.asks.TreeNext.TheVariants.{GoOn}
use Rattle.fs_changes.specs.ChangePlans.{fill_end, gives_back, go_on, has_one, next_change, settled}
use Rattle.fs_jobs.specs.TreeBounds.{is_bounded_job, is_block, is_place}
use Rattle.fs_runs.specs.JobCalls.{take_calls}
use Rattle.fs_runs.specs.TreeRuns.{AreSmall, Memory}
use Rattle.fs_runs.proofs.Leads.{LeadsIn, here, leads_on}
use Rattle.fs_runs.proofs.Pieces.{at_file, with_disk}
use Rattle.fs_runs.proofs.JobsFacts.{Facts, Pieces, apart-now, blocks-now, changes-now, indirect-small, none-there, read_now, size-small}
use Rattle.fs_runs.proofs.JobsRuns.{before, deciding, reads-again}

-- ---- runs between changes

pub record Came (count : ℕ) (j : Job) (home end most : ℕ) (from : TreeState) (m after : Memory) : Type 0 where
  pub size : ℕ
  pub indirect : ℕ
  pub size_small : is_place size ≡ true
  pub indirect_small : is_block indirect ≡ true
  pub weighs : ℕ
  pub few : weighs ≤ most
  pub leads : LeadsIn count (before j count home end size indirect) after weighs from m

-- whatever was read of the record last; so much the changes weigh at most that begin on the way
abbrev pub Comes : ℕ → Job → ℕ → ℕ → ℕ → Memory → Memory → Type 0
Comes count j home end most m after =
    (size indirect : ℕ) → is_place size ≡ true → is_block indirect ≡ true → Came count j home end most (before j count home end size indirect) m after

pub comes-none : (count : ℕ) (j : Job) (home end most : ℕ) (m : Memory) → Comes count j home end most m m
comes-none count j home end most m size indirect a b =
    record { size = size; indirect = indirect; size_small = a; indirect_small = b; weighs = 0; few = omega arith; leads = here }

pub comes-on : (count : ℕ) (j : Job) (home end most more : ℕ) (m mid after : Memory) → Comes count j home end most m mid →
    Comes count j home end more mid after → Comes count j home end (most + more) m after
comes-on count j home end most more m mid after one two size indirect a b =
    let first = one size indirect a b in
    let second = two first.size first.indirect first.size_small first.indirect_small in
    record {
      size = second.size;
      indirect = second.indirect;
      size_small = second.size_small;
      indirect_small = second.indirect_small;
      weighs = first.weighs + second.weighs;
      few = both_few first.weighs second.weighs most more first.few second.few;
      leads = leads_on (before j count home end size indirect) m first.leads second.leads;
    }
  where
    both_few : (a b c d : ℕ) → a ≤ c → b ≤ d → a + b ≤ c + d
    both_few a b c d one two = omega arith

-- it weighs no more than a greater number
pub comes-most : (count : ℕ) (j : Job) (home end most more : ℕ) (m after : Memory) → most ≤ more → Comes count j home end most m after →
    Comes count j home end more m after
comes-most count j home end most more m after le comes size indirect a b =
    let came = comes size indirect a b in
    record {
      size = came.size;
      indirect = came.indirect;
      size_small = came.size_small;
      indirect_small = came.indirect_small;
      weighs = came.weighs;
      few = at_most came.weighs came.few;
      leads = came.leads;
    }
  where
    at_most : (n : ℕ) → n ≤ most → n ≤ more
    at_most n few = omega (arith, few, le)

-- ---- what comes next

abbrev gives_block : Job → Changed → Bool
gives_block j c = gives_back j && nat_lt (blocks_of c.end) (blocks_of c.size)

abbrev gives_indirect : Job → Changed → Bool
gives_indirect j c = gives_back j && not (needs_indirect c.end) && has_one c

abbrev cuts : Job → Changed → Bool
cuts j c = gives_back j && nat_lt c.end c.size

abbrev fills : Changed → Bool
fills c = nat_lt c.size (fill_end c)

abbrev takes : Changed → Bool
takes c = nat_lt (blocks_of c.size) (blocks_of c.end)

abbrev wants_one : Changed → Bool
wants_one c = nat_le NDIRECT (blocks_of c.size) && not (has_one c)

abbrev decided : TreeState → Changed → Bool → Bool → Bool → Bool → Bool → Bool → TreeNext
decided state c one two three four five six =
    if one then go_on state c (file.Number (blocks_of c.size - 1) wanted.Giving)
    else if two then go_on state c (file.PutIndirect change.GiveIndirect c.indirect)
    else if three then go_on state c (file.PutSize c.end)
    else if four then go_on state c (file.Number (c.size / BLKSIZE) (wanted.Filling c.size))
    else if five then go_on state c (file.Lowest (if six then change.TakeIndirect else change.TakeBlock) 0)
    else settled state state.job c

-- nothing is given back any more
pub record Keeps (j : Job) (c : Changed) : Type 0 where
  pub blocks : gives_block j c ≡ false
  pub indirect : gives_indirect j c ≡ false
  pub size : cuts j c ≡ false

next-gives : (state : TreeState) (c : Changed) → gives_block state.job c ≡ true →
    next_change state c ≡ go_on state c (file.Number (blocks_of c.size - 1) wanted.Giving)
next-gives state c a = λ i. decided state c (a i) (gives_indirect state.job c) (cuts state.job c) (fills c) (takes c) (wants_one c)

next-unmarks : (state : TreeState) (c : Changed) → gives_block state.job c ≡ false → gives_indirect state.job c ≡ true →
    next_change state c ≡ go_on state c (file.PutIndirect change.GiveIndirect c.indirect)
next-unmarks state c a b = λ i. decided state c (a i) (b i) (cuts state.job c) (fills c) (takes c) (wants_one c)

next-cuts : (state : TreeState) (c : Changed) → gives_block state.job c ≡ false → gives_indirect state.job c ≡ false → cuts state.job c ≡ true →
    next_change state c ≡ go_on state c (file.PutSize c.end)
next-cuts state c a b d = λ i. decided state c (a i) (b i) (d i) (fills c) (takes c) (wants_one c)

next-fills : (state : TreeState) (c : Changed) → Keeps state.job c → fills c ≡ true →
    next_change state c ≡ go_on state c (file.Number (c.size / BLKSIZE) (wanted.Filling c.size))
next-fills state c keeps d = λ i. decided state c (keeps.blocks i) (keeps.indirect i) (keeps.size i) (d i) (takes c) (wants_one c)

next-marks : (state : TreeState) (c : Changed) → Keeps state.job c → fills c ≡ false → takes c ≡ true → wants_one c ≡ true →
    next_change state c ≡ go_on state c (file.Lowest change.TakeIndirect 0)
next-marks state c keeps d e f = λ i. decided state c (keeps.blocks i) (keeps.indirect i) (keeps.size i) (d i) (e i) (f i)

next-takes : (state : TreeState) (c : Changed) → Keeps state.job c → fills c ≡ false → takes c ≡ true → wants_one c ≡ false →
    next_change state c ≡ go_on state c (file.Lowest change.TakeBlock 0)
next-takes state c keeps d e f = λ i. decided state c (keeps.blocks i) (keeps.indirect i) (keeps.size i) (d i) (e i) (f i)

pub next-settles : (state : TreeState) (c : Changed) → Keeps state.job c → fills c ≡ false → takes c ≡ false →
    next_change state c ≡ settled state state.job c
next-settles state c keeps d e = λ i. decided state c (keeps.blocks i) (keeps.indirect i) (keeps.size i) (d i) (e i) (wants_one c)

-- ---- one change

-- a job, and the record whose blocks it changes
pub record Works (count : ℕ) (j : Job) (home end : ℕ) (m : Memory) : Type 0 where
  pub facts : Facts count home m.disk
  pub small : AreSmall m
  pub job : is_bounded_job j ≡ true
  pub short : end ≤ MAXFILESIZE

comes-one : (count : ℕ) (j : Job) (home end weighs : ℕ) (m after : Memory) → Works count j home end m → (place : FilePlace) →
    ((indirect : ℕ) → next_change (deciding j count home end m.disk indirect) (read_now home end m.disk)
    ≡ GoOn (at_file j count (read_now home end m.disk) place)) →
    LeadsIn count (at_file j count (read_now home end m.disk) file.SizeNow) after weighs (at_file j count (read_now home end m.disk) place) m →
    Comes count j home end weighs m after
comes-one count j home end weighs m after works place goes run size indirect a b =
    record {
      size = size_of m.disk home;
      indirect = indirect_of m.disk home;
      size_small = size-small (size_of m.disk home) works.facts.short;
      indirect_small = indirect-small works.facts;
      weighs = 0 + weighs;
      few = alone weighs;
      leads =
          leads_on (before j count home end size indirect) m
          (reads-again count j home end m size indirect works.facts works.job works.short a b (at_file j count (read_now home end m.disk) place)
          (goes indirect)) run;
    }
  where
    alone : (n : ℕ) → 0 + n ≤ n
    alone n = omega arith

both : (a b : Bool) → a ≡ true → b ≡ true → (a && b) ≡ true
both a b e f = λ i. e i && f i

right-not : (a b : Bool) → b ≡ false → (a && b) ≡ false
right-not true b e = e
right-not false b e = refl

right-none : (a b d : Bool) → (b && d) ≡ false → (a && b && d) ≡ false
right-none true b d e = e
right-none false b d e = refl

is-less : (n m : ℕ) → n < m → nat_lt n m ≡ true
is-less n m lt = grind (arith, nat_tests)

not-less : (n m : ℕ) → m ≤ n → nat_lt n m ≡ false
not-less n m le = grind (arith, nat_tests)

some-bytes : (end size : ℕ) → blocks_of end < blocks_of size → 0 < size
some-bytes end size less = omega arith

pub comes-given : Pieces → (count : ℕ) (j : Job) (home end : ℕ) (m : Memory) → Works count j home end m → gives_back j ≡ true →
    blocks_of end < blocks_needed m.disk home → Comes count j home end 48 m (with_disk m (written (give_block home m.disk) m.disk))
comes-given pieces count j home end m works gives less =
    let c = read_now home end m.disk in
    comes-one count j home end 48 m (with_disk m (written (give_block home m.disk) m.disk)) works (file.Number (blocks_of c.size - 1) wanted.Giving)
    (λ indirect. next-gives (deciding j count home end m.disk indirect) c
    (both (gives_back j) (nat_lt (blocks_of end) (blocks_of c.size)) gives (is-less (blocks_of end) (blocks_of c.size) less)))
    (pieces.blocks_are_given count j c m (changes-now count j home end m works.facts works.small works.job works.short)
    (blocks-now end works.facts) (apart-now end works.facts) (some-bytes end c.size less))

pub comes-unmarked : Pieces → (count : ℕ) (j : Job) (home end : ℕ) (m : Memory) → Works count j home end m → gives_back j ≡ true →
    blocks_needed m.disk home ≤ blocks_of end → needs_indirect end ≡ false → has_indirect m.disk home ≡ true →
    Comes count j home end 30 m (with_disk m (written (give_indirect home m.disk) m.disk))
comes-unmarked pieces count j home end m works gives few needs has =
    let c = read_now home end m.disk in
    comes-one count j home end 30 m (with_disk m (written (give_indirect home m.disk) m.disk)) works (file.PutIndirect change.GiveIndirect c.indirect)
    (λ indirect. next-unmarks (deciding j count home end m.disk indirect) c
    (right-not (gives_back j) (nat_lt (blocks_of end) (blocks_of c.size)) (not-less (blocks_of end) (blocks_of c.size) few))
    (λ i. gives i && not (needs i) && has i))
    (pieces.indirects_are_given count j c m (changes-now count j home end m works.facts works.small works.job works.short)
    (works.facts.indirect has))

-- no indirect block is kept that is not needed
abbrev pub Unmarked : ℕ → Bool → Type 0
Unmarked end indirect = (not (needs_indirect end) && indirect) ≡ false

pub comes-cut : Pieces → (count : ℕ) (j : Job) (home end : ℕ) (m : Memory) → Works count j home end m → gives_back j ≡ true →
    blocks_needed m.disk home ≤ blocks_of end → Unmarked end (has_indirect m.disk home) → end < size_of m.disk home →
    Comes count j home end 18 m (with_disk m (written (cut home end m.disk) m.disk))
comes-cut pieces count j home end m works gives few unmarked less =
    let c = read_now home end m.disk in
    comes-one count j home end 18 m (with_disk m (written (cut home end m.disk) m.disk)) works (file.PutSize c.end)
    (λ indirect. next-cuts (deciding j count home end m.disk indirect) c
    (right-not (gives_back j) (nat_lt (blocks_of end) (blocks_of c.size)) (not-less (blocks_of end) (blocks_of c.size) few))
    (right-none (gives_back j) (not (needs_indirect end)) (has_indirect m.disk home) unmarked)
    (both (gives_back j) (nat_lt end c.size) gives (is-less end c.size less)))
    (pieces.sizes_are_cut count j c m (changes-now count j home end m works.facts works.small works.job works.short) less)

-- what a job has given back before it takes
pub keeps-now : (j : Job) (home end : ℕ) (byte : ℕ → ℕ) → (gives_back j ≡ true →
    (size_of byte home ≤ end) × Unmarked end (has_indirect byte home)) →
    Keeps j (read_now home end byte)
keeps-now j home end byte given = by (gives_back j) refl
  where
    blocks-le : (size end : ℕ) → size ≤ end → blocks_of size ≤ blocks_of end
    blocks-le size end le = omega arith

    by : (b : Bool) → gives_back j ≡ b → Keeps j (read_now home end byte)
    by true is =
        let it = given is in
        record {
          blocks =
              right-not (gives_back j) (nat_lt (blocks_of end) (blocks_needed byte home))
              (not-less (blocks_of end) (blocks_needed byte home) (blocks-le (size_of byte home) end it.0));
          indirect = right-none (gives_back j) (not (needs_indirect end)) (has_indirect byte home) it.1;
          size = right-not (gives_back j) (nat_lt end (size_of byte home)) (not-less end (size_of byte home) it.0);
        }
    by false is =
        record {
          blocks = λ i. is i && nat_lt (blocks_of end) (blocks_needed byte home);
          indirect = λ i. is i && not (needs_indirect end) && has_indirect byte home;
          size = λ i. is i && nat_lt end (size_of byte home);
        }

pub comes-filled : Pieces → (count : ℕ) (j : Job) (home end : ℕ) (m : Memory) → Works count j home end m → Keeps j (read_now home end m.disk) →
    (most : ℕ) → most ≡ min end (BLKSIZE * blocks_needed m.disk home) → size_of m.disk home < most →
    Comes count j home end (6 * PGSIZE + 36) m (with_disk m (written (fill home most m.disk) m.disk))
comes-filled pieces count j home end m works keeps most e less =
    let c = read_now home end m.disk in
    let below : c.size < fill_end c = subst (λ (n : ℕ). c.size < n) e less in
    let filled : Memory = with_disk m (written (fill home (fill_end c) m.disk) m.disk) in
    subst (λ (n : ℕ). Comes count j home end (6 * PGSIZE + 36) m (with_disk m (written (fill home n m.disk) m.disk))) (sym e)
    (comes-most count j home end (6 * (fill_end c - c.size) + 36) (6 * PGSIZE + 36) m filled (in-block c.size end)
    (comes-one count j home end (6 * (fill_end c - c.size) + 36) m filled works (file.Number (c.size / BLKSIZE) (wanted.Filling c.size))
    (λ indirect. next-fills (deciding j count home end m.disk indirect) c keeps (is-less c.size (fill_end c) below))
    (pieces.ends_are_filled count j c m (changes-now count j home end m works.facts works.small works.job works.short)
    (blocks-now end works.facts) (apart-now end works.facts) below)))
  where
    -- no more than a block is filled
    in-block : (size end : ℕ) → 6 * (min end (4096 * ((size + 4095) / 4096)) - size) + 36 ≤ 6 * 4096 + 36
    in-block size end = omega arith

-- all blocks are full, more are wanted, and one is free
pub record Takes (count home end : ℕ) (m : Memory) : Type 0 where
  pub disk : IsDiskImage (BLKSIZE * count) m.disk
  pub full : min end (BLKSIZE * blocks_needed m.disk home) ≤ size_of m.disk home
  pub more : blocks_needed m.disk home < blocks_of end
  pub free : 0 < free_blocks m.disk

pub comes-marked : Pieces → (count : ℕ) (j : Job) (home end : ℕ) (m : Memory) → Works count j home end m → Keeps j (read_now home end m.disk) →
    Takes count home end m → NDIRECT ≤ blocks_needed m.disk home → has_indirect m.disk home ≡ false →
    Comes count j home end (take_calls count) m (with_disk m (written (take_indirect home m.disk) m.disk))
comes-marked pieces count j home end m works keeps room many has =
    let c = read_now home end m.disk in
    let found = free-found (BLKSIZE * count) m.disk room.disk room.free in
    comes-one count j home end (take_calls count) m (with_disk m (written (take_indirect home m.disk) m.disk)) works (file.Lowest change.TakeIndirect 0)
    (λ indirect. next-marks (deciding j count home end m.disk indirect) c keeps (not-less c.size (fill_end c) room.full)
    (is-less (blocks_of c.size) (blocks_of end) room.more)
    (both (nat_le NDIRECT (blocks_of c.size)) (not (has_indirect m.disk home)) (is-most (blocks_of c.size) many) (ap (λ (b : Bool). not b) has)))
    (pieces.indirects_are_taken count j c m found.0 (changes-now count j home end m works.facts works.small works.job works.short)
    found.1 many (none-there (indirect_of m.disk home) has))
  where
    is-most : (n : ℕ) → 10 ≤ n → nat_le 10 n ≡ true
    is-most n le = grind (arith, nat_tests)

pub comes-taken : Pieces → (count : ℕ) (j : Job) (home end : ℕ) (m : Memory) → Works count j home end m → Keeps j (read_now home end m.disk) →
    Takes count home end m → (blocks_needed m.disk home < NDIRECT) ⊎ (has_indirect m.disk home ≡ true) →
    Comes count j home end (take_calls count) m (with_disk m (written (take_block home end m.disk) m.disk))
comes-taken pieces count j home end m works keeps room counted =
    let c = read_now home end m.disk in
    let found = free-found (BLKSIZE * count) m.disk room.disk room.free in
    let whole : c.size % BLKSIZE ≡ 0 = is-whole c.size end room.full room.more in
    let few : blocks_of c.size < 1034 = is-few (blocks_of c.size) end room.more works.short in
    comes-one count j home end (take_calls count) m (with_disk m (written (take_block home end m.disk) m.disk)) works (file.Lowest change.TakeBlock 0)
    (λ indirect. next-takes (deciding j count home end m.disk indirect) c keeps (not-less c.size (fill_end c) room.full)
    (is-less (blocks_of c.size) (blocks_of end) room.more) (none-wanted counted))
    (pieces.blocks_are_taken count j c m found.0 (changes-now count j home end m works.facts works.small works.job works.short)
    found.1 (has-data counted) whole few)
  where
    is-whole : (size end : ℕ) → min end (4096 * blocks_of size) ≤ size → blocks_of size < blocks_of end → size % 4096 ≡ 0
    is-whole size end full more = omega arith

    is-few : (n end : ℕ) → n < blocks_of end → end ≤ 4235264 → n < 1034
    is-few n end more short = omega arith

    is-below : (n : ℕ) → n < 10 → nat_le 10 n ≡ false
    is-below n lt = grind (arith, nat_tests)

    none-wanted : (blocks_needed m.disk home < NDIRECT) ⊎ (has_indirect m.disk home ≡ true) → wants_one (read_now home end m.disk) ≡ false
    none-wanted (inl low) = λ i. is-below (blocks_needed m.disk home) low i && not (has_indirect m.disk home)
    none-wanted (inr has) =
        right-not (nat_le NDIRECT (blocks_needed m.disk home)) (not (has_indirect m.disk home)) (ap (λ (b : Bool). not b) has)

    has-data : (blocks_needed m.disk home < NDIRECT) ⊎ (has_indirect m.disk home ≡ true) →
        (blocks_needed m.disk home < NDIRECT) ⊎ (is_data_block count (indirect_of m.disk home) ≡ true)
    has-data (inl low) = inl low
    has-data (inr has) = inr (works.facts.indirect has)
