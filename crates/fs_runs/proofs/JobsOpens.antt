-- A path is opened: what it leads to is refused, found or truncated, or a file is made.
use Rattle.std.proofs.Common.{◌≡◌, ◌∙◌, ◌+◌, ◌-◌, ◌*◌, ◌/◌, ◌<◌, ◌≤◌, ℕ, Bool, true, false, List, [], ◌∷◌, ◌++◌}
use Rattle.std.proofs.Common.{length, Option, Some, None, refl, sym, ap, subst, arith}
use Rattle.std.specs.Prelude.{◌==◌, ◌||◌, ◌&&◌, nat_le, nat_lt, unwrap_or, replicate, if◌then◌else◌}
use Rattle.std.specs.List.{position_or_len}
use Rattle.std.proofs.lemmas.Bool.Decides.{nat_tests}
use Rattle.jos_base.specs.declared.numbers.TheConstants.{E_INVAL, E_NO_DISK}
use Rattle.jos_base.specs.Below.{values_below}
use Rattle.jos_base.specs.Words.{has_bit, negated}
use Rattle.jos_base.proofs.Below.{length-values}
use Rattle.fs_layout.specs.declared.numbers.TheConstants.{BLKFILES, BLKSIZE, FTYPE_REG, MAXFILESIZE, O_TRUNC, RECORDSIZE}
use Rattle.fs_layout.specs.FileTree.{NamedNode, blocks_of, blocks_taken, needs_indirect}
use Rattle.fs_layout.specs.FileActs.{look_up}
use Rattle.fs_layout.specs.DiskImage.{has_indirect, indirect_of, is_directory_at, is_empty_record, kind_at, size_of, slot_count, slot_place}
use Rattle.fs_layout.specs.DiskFiles.{file_system_of, free_blocks}
use Rattle.fs_acts.specs.BlockActs.{Led, a_record, blocks_grown, create_plan, create_plan_at, first_slot, growth, led_to, make_record}
use Rattle.fs_acts.specs.BlockActs.{planned, planned_if_it_fits, resizing, size_plan, turned_down, written}
use Rattle.fs_acts.specs.BlockLaws.{LeadsAlike}
use Rattle.fs_acts.proofs.ComposedChanges.{changes-acts}
use Rattle.fs_acts.proofs.ComposedCreates.{length-room}
use Rattle.fs_acts.proofs.ComposedFiles.{not-past}
use Rattle.fs_acts.proofs.ComposedRecords.{directory-is}
use Rattle.fs_acts.proofs.ComposedSizes.{or-needed}
use Rattle.fs_acts.proofs.ComposedSteps.{left_by, left_by-append}
use Rattle.fs_jobs.specs.declared.place.Changed.{Changed}
use Rattle.fs_jobs.specs.declared.place.FilePlace.TheVariants as file
use Rattle.fs_jobs.specs.declared.place.Job.{Job}
use Rattle.fs_jobs.specs.declared.place.Job.TheVariants as job
use Rattle.fs_jobs.specs.declared.place.Seek.{Seek}
use Rattle.fs_jobs.specs.declared.place.TheConstants.{NONE}
use Rattle.fs_jobs.specs.declared.place.TreeState.{TreeState}
use Rattle.fs_jobs.specs.declared.place.WalkPlace.TheVariants as walk
use Rattle.fs_jobs.specs.declared.place.Wanted.TheVariants as wanted
use Rattle.fs_jobs.specs.declared.asks.TreeNext.TheVariants.{Answer, GoOn}
use Rattle.fs_jobs.specs.declared.tests.TheConstants.{DAMAGED}
use Rattle.fs_jobs.specs.TreeBounds.{is_bounded, is_bounded_job, is_block, is_count, is_place}
use Rattle.fs_runs.specs.TreeRuns.{HasPath, IsSound, Memory}
use Rattle.fs_jobs.specs.TreeTests.{refused}
use Rattle.fs_walks.specs.WalkPlans.{changed_to, opened, size_wanted, slot_taken}
use Rattle.fs_runs.proofs.Leads.{Leads, at_once, here, leads_on, leads_to_end, on}
use Rattle.fs_runs.proofs.Pieces.{EndsWith, IsDirectoryOf, IsLastName, at_file, at_walk, sought, with_disk}
use Rattle.fs_runs.proofs.JobsFacts.{Facts, Found, Pieces, blocks-now, changes-now, count-small, facts, home-small, indirect-small}
use Rattle.fs_runs.proofs.JobsFacts.{read_now, size-small}
use Rattle.fs_runs.proofs.JobsRuns.{before, inside-word}
use Rattle.fs_runs.proofs.JobsSizes.{Doing, has-found, ran}
use Rattle.fs_runs.proofs.JobsDirectories.{grows-by-block, has-directory}
use Rattle.fs_runs.proofs.JobsRecords.{Acts, acts-after, acts-behind, acts-either, acts-none, at_indirect, ends-at, ends-most, fits-or-not, kind-one}
use Rattle.fs_runs.proofs.JobsRecords.{settled-goes, soon-behind}
use Rattle.fs_runs.proofs.JobsFiles.{emptied-few, resized-ends}

-- ---- the record that a path leads to

pub led-found : (count : ℕ) (path way : List ℕ) (place : ℕ) (m : Memory) → IsSound count m → led_to m.disk path ≡ a_record place way →
    Found count way place m
led-found count path way place m sound e =
    let alike = changes-acts.paths (BLKSIZE * count) m.disk sound.disk path in
    let stands = subst (λ (led : Led). LeadsAlike m.disk led (look_up (file_system_of m.disk) path)) e alike in
    record { sound = sound; stands = stands.0 }

bounded-walk : (j : Job) (count home : ℕ) → is_block count ≡ true → is_bounded_job j ≡ true → is_place home ≡ true →
    is_bounded (at_walk j count (walk.FoundKind home)) ≡ true
bounded-walk j count home a b c = λ i. a i && b i && c i

-- its kind tells where the job goes
abbrev at_found : Job → ℕ → ℕ → TreeState
at_found j count home = at_walk j count (walk.FoundKind home)

pub found-directory : Pieces → (count : ℕ) (j : Job) (way : List ℕ) (home : ℕ) (m : Memory) → Found count way home m → is_bounded_job j ≡ true →
    is_directory_at m.disk home ≡ true → EndsWith count (negated E_INVAL) m (at_found j count home) m
found-directory pieces count j way home m found job is =
    let known = facts pieces count way home m found in (
      1,
      at_once (at_found j count home) m
          (bounded-walk j count home (count-small count known.counted.2) job (home-small count home known.lies known.counted.2))
          (inside-word count home (home + 128 + 4) known.lies 33 (omega arith) (omega arith))
          (ap (λ (b : Bool). if b then refused E_INVAL
          else if kind_at m.disk home == FTYPE_REG then opened (at_found j count home) j home else refused DAMAGED) is) refl,
    )

found-kind : (count : ℕ) (j : Job) (way : List ℕ) (home : ℕ) (m : Memory) → Found count way home m → is_directory_at m.disk home ≡ false →
    (if is_directory_at m.disk home then refused E_INVAL
    else if kind_at m.disk home == FTYPE_REG then opened (at_found j count home) j home else refused DAMAGED) ≡ opened
    (at_found j count home) j home
found-kind count j way home m found is =
    let reg = kind-one count way home m found is in
    λ i. if is i then refused E_INVAL else if reg i then opened (at_found j count home) j home else refused DAMAGED

pub found-answers : Pieces → (count : ℕ) (j : Job) (way : List ℕ) (home : ℕ) (m : Memory) (answer : ℕ) → Found count way home m →
    is_bounded_job j ≡ true →
    is_directory_at m.disk home ≡ false → opened (at_found j count home) j home ≡ Answer answer → EndsWith count answer m (at_found j count home) m
found-answers pieces count j way home m answer found job is goes =
    let known = facts pieces count way home m found in (
      1,
      at_once (at_found j count home) m
          (bounded-walk j count home (count-small count known.counted.2) job (home-small count home known.lies known.counted.2))
          (inside-word count home (home + 128 + 4) known.lies 33 (omega arith) (omega arith)) (found-kind count j way home m found is ∙ goes) refl,
    )

found-goes : Pieces → (count : ℕ) (j : Job) (way : List ℕ) (home : ℕ) (m : Memory) (next : TreeState) → Found count way home m →
    is_bounded_job j ≡ true →
    is_directory_at m.disk home ≡ false → opened (at_found j count home) j home ≡ GoOn next → Leads count next m (at_found j count home) m
found-goes pieces count j way home m next found job is goes =
    let known = facts pieces count way home m found in
    on (at_found j count home) next m
    (bounded-walk j count home (count-small count known.counted.2) job (home-small count home known.lies known.counted.2))
    (inside-word count home (home + 128 + 4) known.lies 33 (omega arith) (omega arith)) (found-kind count j way home m found is ∙ goes) here

-- ---- a file that is there

none-wanted : (had free : ℕ) → nat_le (0 - had) free ≡ true
none-wanted had free = grind (arith, nat_tests)

-- all its blocks are given back
truncated : Pieces → (count : ℕ) (way : List ℕ) (home : ℕ) (m : Memory) → Found count way home m → is_directory_at m.disk home ≡ false →
    Acts (count + 50000) count (size_plan m.disk home 0) m (before (job.SetSize home 0) count home 0 0 0) m
unfolding size_plan
truncated pieces count way home m found regular =
    acts-either (nat_le (blocks_taken 0 (needs_indirect 0) - blocks_taken (size_of m.disk home) (has_indirect m.disk home)) (free_blocks m.disk))
    (planned (resizing m.disk home 0) 0) (turned_down E_NO_DISK)
    (λ fit.
    record {
      after = with_disk m (left_by (resizing m.disk home 0) m.disk);
      ends =
          resized-ends pieces count way home 0 m found regular (omega arith) (omega arith) (count + 50000) (λ more. absurd (omega (arith, more)))
          (λ less. emptied-few count (size_of m.disk home) (facts pieces count way home m found).short) 0 0 refl refl;
      disk = refl;
      bytes = λ k below. absurd (omega (arith, below));
      rest = λ k past. refl;
    })
    (λ lacks. never (none-wanted (blocks_taken (size_of m.disk home) (has_indirect m.disk home)) (free_blocks m.disk)) lacks)
  where
    never : {A : Type 0} {b : Bool} → b ≡ true → b ≡ false → A
    never e f = let both : true ≡ false = sym e ∙ f in absurd (cc both)

pub opens-file : Pieces → (count mode : ℕ) (way : List ℕ) (home : ℕ) (m : Memory) → Found count way home m →
    Acts (count + 50000) count
    (if is_directory_at m.disk home then turned_down E_INVAL else if has_bit mode O_TRUNC then size_plan m.disk home 0 else planned [] 0) m
    (at_found (job.Open mode) count home) m
opens-file pieces count mode way home m found =
    acts-either (is_directory_at m.disk home) (turned_down E_INVAL) (if has_bit mode O_TRUNC then size_plan m.disk home 0 else planned [] 0)
    (λ is. acts-none count (negated E_INVAL) m (at_found j count home) (found-directory pieces count j way home m found refl is))
    (λ regular.
    acts-either (has_bit mode O_TRUNC) (size_plan m.disk home 0) (planned [] 0)
    (λ cut.
    acts-behind (at_found j count home) m
    (found-goes pieces count j way home m emptying found refl regular (ap (λ (b : Bool). if b then GoOn emptying else Answer 0) cut))
    (truncated pieces count way home m found regular))
    (λ as_it_is.
    acts-none count 0 m (at_found j count home)
    (found-answers pieces count j way home m 0 found refl regular (ap (λ (b : Bool). if b then GoOn emptying else Answer 0) as_it_is))))
  where
    j : Job
    j = job.Open mode

    emptying : TreeState
    emptying = before (job.SetSize home 0) count home 0 0 0

-- ---- a file that is made

-- the records of a directory were looked at, and this is the first that is empty
abbrev seek_by : (ℕ → ℕ) → ℕ → ℕ → Option ℕ → Seek
seek_by byte directory from empty =
    record { from = from; directory = directory; slots = slot_count byte directory; slot = slot_count byte directory; empty = unwrap_or empty NONE }

some-same : (n i : ℕ) → ◌≡◌ {A = Option ℕ} (Some n) (Some i) → n ≡ i
some-same n i e = cc

none-some : {A : Type 0} (i : ℕ) → ◌≡◌ {A = Option ℕ} None (Some i) → A
none-some i e = absurd (cc)

position-below : (n long i : ℕ) (b : Bool) → nat_lt n long ≡ b → (if b then Some n else None) ≡ Some i → i < long
position-below n long i true is e = let same = some-same n i e in let less : n < long = grind (arith, nat_tests) in omega (arith, same, less)
position-below n long i false is e = none-some i e

first-below : (byte : ℕ → ℕ) (directory i : ℕ) (passes : ℕ → Bool) → first_slot byte directory passes ≡ Some i → i < slot_count byte directory
unfolding first_slot
first-below byte directory i passes e =
    let places : List ℕ = values_below (slot_count byte directory) (slot_place byte directory) in
    subst (λ (n : ℕ). i < n) (length-values (slot_count byte directory) (slot_place byte directory))
    (position-below (position_or_len passes places) (length places) i (nat_lt (position_or_len passes places) (length places)) refl e)

-- what a job has that makes a file
record Makes (count : ℕ) (path name : List ℕ) (directory from : ℕ) (m : Memory) : Type 0 where
  way : List ℕ
  found : Found count way directory m
  kind : is_directory_at m.disk directory ≡ true
  has_path : HasPath m.page path
  last : IsLastName path from name
  whole : slot_count m.disk directory * 256 ≡ size_of m.disk directory

abbrev making : ℕ → ℕ → ℕ → ℕ → ℕ → ℕ → TreeState
making count directory from slot size end = at_file (job.Create directory slot from) count (changed_to directory size end) file.Indirect

create-bounded : {count : ℕ} {path name : List ℕ} {directory from : ℕ} {m : Memory} → Makes count path name directory from m →
    Facts count directory m.disk →
    (slot : ℕ) → slot ≤ slot_count m.disk directory → is_bounded_job (job.Create directory slot from) ≡ true
create-bounded {count} {path} {name} {directory} {from} {m} makes known slot most =
    all (home-small count directory known.lies known.counted.2)
    (few slot (slot_count m.disk directory) (size_of m.disk directory) most makes.whole known.short)
    (low from (length name) (length path) makes.last.at.within makes.has_path.short)
  where
    few : (slot slots size : ℕ) → slot ≤ slots → slots * 256 ≡ size → size ≤ 4235264 → is_count slot ≡ true
    few slot slots size a b c = let below : slot < 1048576 = omega (arith, a, b, c) in grind (arith, nat_tests)

    low : (from n m : ℕ) → from + n ≤ m → m < 4096 → is_place from ≡ true
    low from n m a b = let below : from < 268435456 = omega (arith, a, b) in grind (arith, nat_tests)

    all : is_place directory ≡ true → is_count slot ≡ true → is_place from ≡ true → is_bounded_job (job.Create directory slot from) ≡ true
    all a b c = λ i. a i && b i && c i

-- in a record that is empty
creates-in-room : Pieces → (count : ℕ) (path name : List ℕ) (directory from slot : ℕ) (m : Memory) (state : TreeState) →
    Makes count path name directory from m →
    slot < slot_count m.disk directory →
    Leads count (making count directory from slot (size_of m.disk directory) (size_of m.disk directory)) m state m →
    Acts (count + 50000) count (planned (make_record directory slot name ∷ []) 0) m state m
unfolding left_by
creates-in-room pieces count path name directory from slot m state makes within lead =
    let j : Job = job.Create directory slot from in
    let size : ℕ = size_of m.disk directory in
    let known = facts pieces count makes.way directory m makes.found in
    let bounded = create-bounded makes known slot (less-le slot (slot_count m.disk directory) within) in
    let c : Changed = read_now directory size m.disk in
    let free = fits-or-not pieces count j makes.way directory size m makes.found bounded known.short in
    let fit = fits-still (has_indirect m.disk directory || needs_indirect size) (has_indirect m.disk directory) (blocks_of size)
    (free_blocks m.disk)
    (or-needed (has_indirect m.disk directory) size known.needed) in
    let run =
    leads_on state m lead
    (leads_on (at_indirect j count directory size m.disk) m (free.0 fit)
    (settled-goes count j directory size m size (indirect_of m.disk directory)
    (at_file j count c (file.Number (slot / BLKFILES) (wanted.Making slot from))) known
    bounded known.short (size-small size known.short) (indirect-small known) refl (λ back. never back) refl)) in
    let ends =
    pieces.records_are_made count directory slot from c m path name
    (changes-now count j directory size m known makes.found.sound.small bounded known.short) refl
    (blocks-now size known) makes.has_path makes.last.at (few slot (slot_count m.disk directory) size within makes.whole known.short)
    (inside slot (slot_count m.disk directory) size within makes.whole) in
    record {
      after = with_disk m (written (make_record directory slot name m.disk) m.disk);
      ends = ends-at (leads_to_end state m run ends.0 ends.1);
      disk = refl;
      bytes = λ k below. absurd (omega (arith, below));
      rest = λ k past. refl;
    }
  where
    never : {A : Type 0} → false ≡ true → A
    never e = absurd (cc e)

    less-le : (n m : ℕ) → n < m → n ≤ m
    less-le n m lt = omega arith

    fits-still : (now had : Bool) (n free : ℕ) → now ≡ had →
        nat_le (n + (if now then 1 else 0) - (n + (if had then 1 else 0))) free ≡ true
    fits-still now had n free e =
        ap (λ (b : Bool). nat_le (n + (if b then 1 else 0) - (n + (if had then 1 else 0))) free) e ∙ same (n + (if had then 1 else 0)) free
      where
        same : (n free : ℕ) → nat_le (n - n) free ≡ true
        same n free = grind (arith, nat_tests)

    few : (slot slots size : ℕ) → slot < slots → slots * 256 ≡ size → size ≤ 4235264 → slot < 16544
    few slot slots size a b c = omega (arith, a, b, c)

    inside : (slot slots size : ℕ) → slot < slots → slots * 256 ≡ size → 256 * slot < size
    inside slot slots size a b = omega (arith, a, b)

-- in the first record of a new block
creates-behind : Pieces → (count : ℕ) (path name : List ℕ) (directory from : ℕ) (m : Memory) (state : TreeState) →
    Makes count path name directory from m →
    let end = size_of m.disk directory + BLKSIZE in
    let slot = slot_count m.disk directory in
    end ≤ MAXFILESIZE → Leads count (making count directory from slot (size_of m.disk directory) end) m state m →
    Acts (count + 50000) count (planned_if_it_fits m.disk directory (blocks_grown m.disk directory end) 0
    (growth m.disk directory end ++ make_record directory slot name ∷ [])) m state m
unfolding left_by
creates-behind pieces count path name directory from m state makes short lead =
    acts-either (nat_le (blocks_grown m.disk directory end - blocks_taken size (has_indirect m.disk directory)) (free_blocks m.disk))
    (planned (growth m.disk directory end ++ make_record directory slot name ∷ []) 0) (turned_down E_NO_DISK) grow
    (λ lacks.
    let ends = free.1 lacks in acts-none count (negated E_NO_DISK) m state (leads_to_end state m lead ends.0 ends.1))
  where
    size : ℕ
    size = size_of m.disk directory

    end : ℕ
    end = size + BLKSIZE

    slot : ℕ
    slot = slot_count m.disk directory

    j : Job
    j = job.Create directory slot from

    known : Facts count directory m.disk
    known = facts pieces count makes.way directory m makes.found

    bounded : is_bounded_job j ≡ true
    bounded = create-bounded makes known slot (omega arith)

    more : ℕ
    more = blocks_grown m.disk directory end - blocks_taken size (has_indirect m.disk directory)

    free : (nat_le more (free_blocks m.disk) ≡ true → Leads count (before j count directory end size (indirect_of m.disk directory)) m
        (at_indirect j count directory end m.disk) m)
        × (nat_le more (free_blocks m.disk) ≡ false → EndsWith count (negated E_NO_DISK) m (at_indirect j count directory end m.disk) m)
    free = fits-or-not pieces count j makes.way directory end m makes.found bounded short

    after : Memory
    after = with_disk m (left_by (growth m.disk directory end) m.disk)

    within : (had wanted free : ℕ) → nat_le (wanted - had) free ≡ true → wanted ≤ had + free
    within had wanted free e = grind (arith, nat_tests)

    never : {A : Type 0} → false ≡ true → A
    never e = absurd (cc e)

    longer : (n l : ℕ) → n ≡ l + 16 → (size : ℕ) → size ≡ 256 * l → 256 * n ≡ size + 4096
    longer n l e size f = omega (arith, e, f)

    few : (slot size : ℕ) → slot * 256 ≡ size → size + 4096 ≤ 4235264 → slot < 16544
    few slot size b c = omega (arith, b, c)

    inside : (slot size now : ℕ) → slot * 256 ≡ size → now ≡ size + 4096 → 256 * slot < now
    inside slot size now a b = omega (arith, a, b)

    grow : nat_le more (free_blocks m.disk) ≡ true → Acts (count + 50000) count
        (planned (growth m.disk directory end ++ make_record directory slot name ∷ []) 0) m state m
    grow fit =
        let held = has-directory makes.found makes.kind in
        let list : List (Option NamedNode) = held.0 in
        let mark : Bool = has_indirect m.disk directory in
        let is = directory-is changes-acts (BLKSIZE * count) m.disk makes.way directory list mark held.1.holds in
        let does : Doing count j directory end = record { pieces = pieces; job = bounded; short = short } in
        let run =
        grows-by-block m list mark size (sym is.size) does held.1 refl
        (within (blocks_taken size mark) (blocks_grown m.disk directory end) (free_blocks m.disk) fit) in
        let now = ran held.1 run.1 in
        let both : List (Option NamedNode) = list ++ replicate BLKFILES None in
        let now_is = directory-is changes-acts (BLKSIZE * count) after.disk makes.way directory both run.0 now.holds in
        let there = facts pieces count makes.way directory after (has-found now) in
        let size_is : size_of after.disk directory ≡ end = now_is.size ∙ longer (length both) (length list) (length-room list) size is.size in
        let c : Changed = read_now directory end after.disk in
        let last : ℕ → ℕ = written (make_record directory slot name after.disk) after.disk in
        let made =
        pieces.records_are_made count directory slot from c after path name
        (changes-now count j directory end after there now.small bounded short) refl
        (blocks-now end there) makes.has_path makes.last.at (few slot size makes.whole short)
        (inside slot size (size_of after.disk directory) makes.whole size_is) in
        let ends =
        acts-after m (growth m.disk directory end) 0 (with_disk m last) run.1.comes size (indirect_of m.disk directory) (size-small size known.short)
        (indirect-small known)
        (λ s i a b.
        leads_to_end (before j count directory end s i) after
        (settled-goes count j directory end after s i (at_file j count c
        (file.Number (slot / BLKFILES) (wanted.Making slot from))) there bounded short a b size_is
        (λ back. never back) refl) made.0 made.1) in
        record {
          after = with_disk m last;
          ends = soon-behind state m (leads_on state m lead (free.0 fit)) (ends-most (count + 50000) (omega arith) ends);
          disk = sym (left_by-append (growth m.disk directory end) (make_record directory slot name ∷ []) m.disk);
          bytes = λ k below. absurd (omega (arith, below));
          rest = λ k past. refl;
        }

pub creates-file : Pieces → (count : ℕ) (path name : List ℕ) (directory from : ℕ) (m : Memory) (state : TreeState) → IsSound count m →
    HasPath m.page path →
    IsLastName path from name → (is : IsDirectoryOf m directory) → let seek = sought m.disk directory from in
    (MAXFILESIZE < size_wanted seek → EndsWith count (negated E_NO_DISK) m state m) →
    (size_wanted seek ≤ MAXFILESIZE →
    Leads count (at_file (job.Create directory (slot_taken seek) from) count
    (changed_to directory (slot_count m.disk directory * RECORDSIZE) (size_wanted seek)) file.Indirect) m
    state m) →
    Acts (count + 50000) count (create_plan m.disk directory name) m state m
unfolding create_plan
creates-file pieces count path name directory from m state sound has_path last is far near =
    by (first_slot m.disk directory (is_empty_record m.disk)) refl far near
  where
    found : Found count is.way directory m
    found = record { sound = sound; stands = is.stands }

    known : Facts count directory m.disk
    known = facts pieces count is.way directory m found

    size : ℕ
    size = size_of m.disk directory

    slots : ℕ
    slots = slot_count m.disk directory

    held : (list : List (Option NamedNode)) × (size ≡ 256 * length list)
    held =
        let it = has-directory found is.kind in
        (it.0, (directory-is changes-acts (BLKSIZE * count) m.disk is.way directory it.0 (has_indirect m.disk directory) it.1.holds).size)

    whole_of : (size l : ℕ) → size ≡ 256 * l → size / 256 * 256 ≡ size
    whole_of size l e = omega (arith, e)

    whole : slots * 256 ≡ size
    whole = whole_of size (length held.0) held.1

    makes : Makes count path name directory from m
    makes = record { way = is.way; found = found; kind = is.kind; has_path = has_path; last = last; whole = whole }

    not-none : (i slots size : ℕ) → i < slots → slots * 256 ≡ size → size ≤ 4235264 → (i == 0xffff_ffff) ≡ false
    not-none i slots size a b c = let below : i < 65536 = omega (arith, a, b, c) in grind (arith, nat_tests)

    by : (empty : Option ℕ) → first_slot m.disk directory (is_empty_record m.disk) ≡ empty →
        (MAXFILESIZE < size_wanted (seek_by m.disk directory from empty) → EndsWith count (negated E_NO_DISK) m state m) →
        (size_wanted (seek_by m.disk directory from empty) ≤ MAXFILESIZE →
        Leads count (making count directory from (slot_taken (seek_by m.disk directory from empty)) (slots * 256)
        (size_wanted (seek_by m.disk directory from empty))) m state m) →
        Acts (count + 50000) count (create_plan_at m.disk directory name empty) m state m
    by (Some i) e past fits =
        let below : i < slots = first-below m.disk directory i (is_empty_record m.disk) e in
        let other : (i == NONE) ≡ false = not-none i slots size below whole known.short in
        let taken : (if i == NONE then slots else i) ≡ i = ap (λ (b : Bool). if b then slots else i) other in
        let wants : (if i == NONE then slots * 256 + 4096 else slots * 256) ≡ size =
        ap (λ (b : Bool). if b then slots * 256 + 4096 else slots * 256) other ∙ whole in
        let lead = fits (subst (λ (n : ℕ). n ≤ MAXFILESIZE) (sym wants) known.short) in
        creates-in-room pieces count path name directory from i m state makes below
        (subst (λ (s : TreeState). Leads count s m state m) (λ k. making count directory from (taken k) (whole k) (wants k)) lead)
    by None e past fits =
        acts-either (nat_lt MAXFILESIZE (size + BLKSIZE)) (turned_down E_NO_DISK)
        (planned_if_it_fits m.disk directory (blocks_grown m.disk directory (size + BLKSIZE)) 0
        (growth m.disk directory (size + BLKSIZE) ++ make_record directory slots name ∷ []))
        (λ over.
        let above : 4235264 < size + 4096 = grind (arith, nat_tests) in
        acts-none count (negated E_NO_DISK) m state (past (subst (λ (n : ℕ). 4235264 < n + 4096) (sym whole) above)))
        (λ under.
        let short : size + 4096 ≤ 4235264 = not-past (size + 4096) under in
        let lead = fits (subst (λ (n : ℕ). n + 4096 ≤ 4235264) (sym whole) short) in
        creates-behind pieces count path name directory from m state makes short
        (subst (λ (s : TreeState). Leads count s m state m) (λ k. making count directory from slots (whole k) (whole k + 4096)) lead))
