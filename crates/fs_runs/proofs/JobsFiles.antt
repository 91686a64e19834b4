-- The jobs of a file whose record is known: its size, its bytes, what stat tells of it, and its removal.
use Rattle.std.proofs.Common.{◌≡◌, ◌∙◌, ◌+◌, ◌-◌, ◌*◌, ◌/◌, ◌^◌, ◌<◌, ◌≤◌, ◌⊎◌, inl, inr, ℕ, Bool, true, false, not, List, [], ◌∷◌, ◌++◌}
use Rattle.std.proofs.Common.{length, Option, refl, sym, ap, subst, arith, min}
use Rattle.std.specs.Prelude.{◌==◌, ◌||◌, ◌&&◌, nat_le, nat_lt, if◌then◌else◌}
use Rattle.std.proofs.lemmas.Bool.{cases_lt, eqb-true}
use Rattle.std.proofs.lemmas.Bool.Decides.{nat_tests}
use Rattle.jos_base.specs.declared.numbers.TheConstants.{E_INVAL, E_NO_DISK}
use Rattle.jos_base.specs.Words.{negated}
use Rattle.jos_base.proofs.Below.{length-values}
use Rattle.fs_layout.specs.declared.numbers.TheConstants.{BLKSIZE, FTYPE_REG, MAXFILESIZE}
use Rattle.fs_layout.specs.FileTree.{a_file, blocks_of, blocks_taken, needs_indirect}
use Rattle.fs_layout.specs.FileActs.{resized}
use Rattle.fs_layout.specs.DiskImage.{blocks_needed, has_indirect, indirect_of, is_directory_at, kind_at, size_of}
use Rattle.fs_layout.specs.DiskFiles.{file_bytes, free_blocks}
use Rattle.fs_layout.proofs.FileBytes.{length-resized}
use Rattle.fs_acts.specs.BlockActs.{Planned, blocks_grown, empty_it, growth, of_file, overwrite, place_at, planned, planned_if_it_fits}
use Rattle.fs_acts.specs.BlockActs.{read_plan, resizing, size_plan, stat_plan, turned_down, write_plan, write_some, written}
use Rattle.fs_acts.proofs.ComposedChanges.{changes-acts}
use Rattle.fs_acts.proofs.ComposedFiles.{ends-past, not-past}
use Rattle.fs_acts.proofs.ComposedRecords.{file-at, file-is}
use Rattle.fs_acts.proofs.ComposedSteps.{left_by, left_by-append}
use Rattle.fs_jobs.specs.declared.place.Changed.{Changed}
use Rattle.fs_jobs.specs.declared.place.FilePlace.TheVariants as file
use Rattle.fs_jobs.specs.declared.place.Job.{Job}
use Rattle.fs_jobs.specs.declared.place.Job.TheVariants as job
use Rattle.fs_jobs.specs.declared.place.TreeState.{TreeState}
use Rattle.fs_jobs.specs.declared.place.Wanted.TheVariants as wanted
use Rattle.fs_jobs.specs.declared.asks.TreeNext.{TreeNext}
use Rattle.fs_jobs.specs.declared.asks.TreeNext.TheVariants.{Answer, GoOn}
use Rattle.fs_changes.specs.ChangePlans.{bytes_read, gives_back}
use Rattle.fs_jobs.specs.TreeBounds.{is_bounded_job, is_block, is_place}
use Rattle.fs_runs.specs.TreeRuns.{AreSmall, Memory, bytes_given}
use Rattle.fs_jobs.specs.TreeTests.{refused}
use Rattle.fs_runs.proofs.Leads.{Leads, leads_to_end}
use Rattle.fs_runs.proofs.Pieces.{BytesLieApart, EndsWith, HasBytes, at_file, with_disk}
use Rattle.fs_runs.proofs.JobsFacts.{Facts, Found, Pieces, bounded-changed, bounded-now, changed, count-small, facts, home-small}
use Rattle.fs_runs.proofs.JobsFacts.{indirect-small, read_now, size-small}
use Rattle.fs_runs.proofs.JobsRuns.{before, bounded-file}
use Rattle.fs_runs.proofs.JobsChanges.{Unmarked}
use Rattle.fs_runs.proofs.JobsSizes.{Doing, Has, Run, growth_calls, grows, has-found, ran, resizes, run-most}
use Rattle.fs_runs.proofs.JobsRecords.{Acts, EndsSoon, acts-after, acts-behind, acts-either, acts-none, at_indirect, at_kind}
use Rattle.fs_runs.proofs.JobsRecords.{ends-at, fits-or-not, kind-one}
use Rattle.fs_runs.proofs.JobsRecords.{ends-most, kind-refused, settled-ends, settled-goes, size-ends, size-goes, soon-behind}

-- ---- a file

pub has-file : {count : ℕ} {way : List ℕ} {home : ℕ} {m : Memory} → Found count way home m → is_directory_at m.disk home ≡ false →
    Has count way home m (a_file (file_bytes m.disk home) (has_indirect m.disk home))
has-file {count} {way} {home} {m} found regular =
    record {
      small = found.sound.small;
      count_is = found.sound.count_is;
      holds = file-at changes-acts (BLKSIZE * count) m.disk way home found.sound.disk found.stands regular;
    }

-- what is done to the file at a way, and what is refused where it is a directory
pub acts-file : {most : ℕ} → Pieces → (count : ℕ) (j : Job) (way : List ℕ) (home : ℕ) (m : Memory) (plan : ℕ → Planned) → Found count way home m →
    is_bounded_job j ≡ true → (is_directory_at m.disk home ≡ false → Acts most count (plan home) m (at_kind j count home) m) →
    Acts most count (of_file m.disk (place_at m.disk way) plan) m (at_kind j count home) m
acts-file {most} pieces count j way home m plan found job acts =
    subst (λ (place : Option ℕ). Acts most count (of_file m.disk place plan) m (at_kind j count home) m) (sym found.stands)
    (acts-either (is_directory_at m.disk home) (turned_down E_INVAL) (plan home)
    (λ is. acts-none count (negated E_INVAL) m (at_kind j count home) (kind-refused pieces count j way home m found job is)) acts)

within : (had wanted free : ℕ) → nat_le (wanted - had) free ≡ true → wanted ≤ had + free
within had wanted free e = grind (arith, nat_tests)

-- what fits by the record fits by the bytes
fits-bytes : {count : ℕ} {way : List ℕ} {home : ℕ} {m : Memory} →
    (found : Found count way home m) (regular : is_directory_at m.disk home ≡ false) (wanted : ℕ) →
    nat_le (wanted - blocks_taken (size_of m.disk home) (has_indirect m.disk home)) (free_blocks m.disk) ≡ true →
    wanted ≤ blocks_taken (length (file_bytes m.disk home)) (has_indirect m.disk home) + free_blocks m.disk
fits-bytes {count} {way} {home} {m} found regular wanted fit =
    let is = file-is changes-acts (BLKSIZE * count) m.disk way home (file_bytes m.disk home) (has_indirect m.disk home) (has-file found regular).holds in
    subst (λ (n : ℕ). wanted ≤ blocks_taken n (has_indirect m.disk home) + free_blocks m.disk) (sym is.long)
    (within (blocks_taken (size_of m.disk home) (has_indirect m.disk home)) wanted (free_blocks m.disk) fit)

-- ---- its size

-- what its changes weigh, where it grows, and where it doesn't
run-resized : {count : ℕ} {j : Job} {home end : ℕ} {way : List ℕ} {m : Memory} → Doing count j home end → gives_back j ≡ true → (bytes : List ℕ)
    (indirect : Bool) → Has count way home m (a_file bytes indirect) →
    blocks_taken end (needs_indirect end) ≤ blocks_taken (length bytes) indirect + free_blocks m.disk → (most : ℕ) →
    (size_of m.disk home < end → growth_calls count + 48 ≤ most) →
    (end ≤ size_of m.disk home → 48 * blocks_needed m.disk home + 48 ≤ most) →
    Run count j home end way most m (resizing m.disk home end) (a_file (resized bytes end) (needs_indirect end))
run-resized {count} {j} {home} {end} {way} {m} does back bytes indirect has free most grown cut = by (cases_lt (length bytes) end)
  where
    long : length bytes ≡ size_of m.disk home
    long = (file-is changes-acts (BLKSIZE * count) m.disk way home bytes indirect has.holds).long

    none-given : (n end all most : ℕ) → n < end → all + 48 ≤ most → 48 * (blocks_of n - blocks_of end) + 48 + all ≤ most
    none-given n end all most less le = omega (arith, less, le)

    all-given : (n size end most : ℕ) → n ≡ size → 48 * blocks_of size + 48 ≤ most → 48 * (blocks_of n - blocks_of end) + 48 + 0 ≤ most
    all-given n size end most e le = let same : blocks_of n ≡ blocks_of size = ap (λ (k : ℕ). blocks_of k) e in omega (arith, same, le)

    by : (length bytes < end) ⊎ (end ≤ length bytes) →
        Run count j home end way most m (resizing m.disk home end) (a_file (resized bytes end) (needs_indirect end))
    by (inl less) =
        run-most most
        (none-given (length bytes) end (growth_calls count) most less (grown (subst (λ (k : ℕ). k < end) long less)))
        (resizes does back (growth_calls count) m bytes indirect has free (λ more. omega arith))
    by (inr past) =
        run-most most (all-given (length bytes) (size_of m.disk home) end most long (cut (subst (λ (k : ℕ). end ≤ k) long past)))
        (resizes does back 0 m bytes indirect has free (λ more. absurd (omega (arith, more, past))))

not-both : (b : Bool) → (not b && b) ≡ false
not-both true = refl
not-both false = refl

-- From before the changes to the end of the job: what they weigh, where the file grows, and where it doesn't.
pub resized-ends : Pieces → (count : ℕ) (way : List ℕ) (home end : ℕ) (m : Memory) → Found count way home m → is_directory_at m.disk home ≡ false →
    end ≤ MAXFILESIZE → blocks_taken end (needs_indirect end) ≤ blocks_taken (length (file_bytes m.disk home))
    (has_indirect m.disk home) + free_blocks m.disk → (most : ℕ) →
    (size_of m.disk home < end → growth_calls count + 48 ≤ most) →
    (end ≤ size_of m.disk home → 48 * blocks_needed m.disk home + 48 ≤ most) →
    (size indirect : ℕ) → is_place size ≡ true → is_block indirect ≡ true →
    EndsSoon most count 0 (with_disk m (left_by (resizing m.disk home end) m.disk)) (before (job.SetSize home end) count home end size indirect) m
resized-ends pieces count way home end m found regular short free most grown cut size indirect a b =
    let j : Job = job.SetSize home end in
    let known = facts pieces count way home m found in
    let bounded : is_bounded_job j ≡ true = home-small count home known.lies known.counted.2 in
    let bytes : List ℕ = file_bytes m.disk home in
    let has = has-file found regular in
    let does : Doing count j home end = record { pieces = pieces; job = bounded; short = short } in
    let run : Run count j home end way most m (resizing m.disk home end) (a_file (resized bytes end) (needs_indirect end)) =
    run-resized does refl bytes (has_indirect m.disk home) has free most grown cut in
    let after : Memory = with_disk m (left_by (resizing m.disk home end) m.disk) in
    let now = ran has run in
    let is = file-is changes-acts (BLKSIZE * count) after.disk way home (resized bytes end) (needs_indirect end) now.holds in
    let then_known = facts pieces count way home after (has-found now) in
    acts-after m (resizing m.disk home end) 0 after run.comes size indirect a b
    (λ s i c d.
    settled-ends count j home end after s i 0 then_known bounded short c d (sym is.long ∙ length-resized bytes end)
    (λ back. subst (λ (t : Bool). Unmarked end t) (sym is.mark) (not-both (needs_indirect end))) refl)

pub size-acts : Pieces → (count : ℕ) (way : List ℕ) (home end : ℕ) (m : Memory) → Found count way home m → is_directory_at m.disk home ≡ false →
    Acts (6410 * count + 26000) count (size_plan m.disk home end) m (at_kind (job.SetSize home end) count home) m
unfolding size_plan
size-acts pieces count way home end m found regular =
    acts-either (nat_lt MAXFILESIZE end) (turned_down E_NO_DISK)
    (planned_if_it_fits m.disk home (blocks_taken end (needs_indirect end)) 0 (resizing m.disk home end)) past fitting
  where
    j : Job
    j = job.SetSize home end

    known : Facts count home m.disk
    known = facts pieces count way home m found

    bounded : is_bounded_job j ≡ true
    bounded = home-small count home known.lies known.counted.2

    goes : TreeNext
    goes = GoOn (at_indirect j count home end m.disk)

    past : nat_lt MAXFILESIZE end ≡ true → Acts (6410 * count + 26000) count (turned_down E_NO_DISK) m (at_kind j count home) m
    past far =
        acts-none count (negated E_NO_DISK) m (at_kind j count home)
        (size-ends pieces count j way home m (negated E_NO_DISK) found bounded regular
        (ap (λ (b : Bool). if b then refused E_NO_DISK else goes) far))

    fitting : nat_lt MAXFILESIZE end ≡ false →
        Acts (6410 * count + 26000) count
        (planned_if_it_fits m.disk home (blocks_taken end (needs_indirect end)) 0 (resizing m.disk home end)) m (at_kind j count home) m
    fitting near =
        let short : end ≤ MAXFILESIZE = not-past end near in
        let wanted : ℕ = blocks_taken end (needs_indirect end) in
        let run =
        size-goes pieces count j way home m (at_indirect j count home end m.disk) found bounded regular
        (ap (λ (b : Bool). if b then refused E_NO_DISK else goes) near) in
        let free = fits-or-not pieces count j way home end m found bounded short in
        acts-behind (at_kind j count home) m run
        (acts-either (nat_le (wanted - blocks_taken (size_of m.disk home) (has_indirect m.disk home)) (free_blocks m.disk))
        (planned (resizing m.disk home end) 0) (turned_down E_NO_DISK)
        (λ fit.
        let ends =
        resized-ends pieces count way home end m found regular short (fits-bytes found regular wanted fit) (6410 * count + 26000)
        (λ more. omega arith) (λ less. kept-few (blocks_needed m.disk home) known.few) (size_of m.disk home) _
        (size-small (size_of m.disk home) known.short) (indirect-small known) in
        record {
          after = with_disk m (left_by (resizing m.disk home end) m.disk);
          ends = soon-behind (at_indirect j count home end m.disk) m (free.0 fit) ends;
          disk = refl;
          bytes = λ k below. absurd (omega (arith, below));
          rest = λ k past. refl;
        })
        (λ lacks. acts-none count (negated E_NO_DISK) m (at_indirect j count home end m.disk) (free.1 lacks)))
      where
        kept-few : (n : ℕ) → n ≤ count → 48 * n + 48 ≤ 6410 * count + 26000
        kept-few n few = omega (arith, few)

-- ---- its bytes

has-bytes : {count home : ℕ} {m : Memory} (j : Job) (indirect end : ℕ) → Facts count home m.disk → AreSmall m → is_bounded_job j ≡ true →
    is_block indirect ≡ true → end ≤ MAXFILESIZE → HasBytes count j (changed home (size_of m.disk home) indirect end) m
has-bytes {count} {home} {m} j indirect end known small job a short =
    record {
      counted = known.counted;
      small = small;
      lies = known.lies;
      job = job;
      bounded =
          bounded-changed home (size_of m.disk home) indirect end (home-small count home known.lies known.counted.2)
          (size-small (size_of m.disk home) known.short) a (size-small end short);
      size = refl;
      size_most = known.short;
      numbers = known.within;
      indirect = λ more. known.indirect (known.needed more);
    }

bytes-apart : {count home : ℕ} {byte : ℕ → ℕ} (indirect end : ℕ) → Facts count home byte →
    BytesLieApart (changed home (size_of byte home) indirect end) byte
bytes-apart {count} {home} {byte} indirect end known =
    record {
      one_block = known.one_block;
      own = known.apart;
      indirect = λ i less more e. known.indirect_apart (known.needed more) i less e;
    }

-- what is read
pub read-acts : Pieces → (count : ℕ) (way : List ℕ) (home at n : ℕ) (m : Memory) → Found count way home m → is_directory_at m.disk home ≡ false →
    at < 2 ^ 31 →
    Acts 0 count (read_plan m.disk home at n) m (at_kind (job.Read home at n) count home) m
unfolding read_plan left_by
read-acts pieces count way home at n m found regular low = by (read == 0) refl
  where
    j : Job
    j = job.Read home at n

    read : ℕ
    read = bytes_read j (size_of m.disk home)

    plan : Planned
    plan = read_plan m.disk home at n

    long : length plan.bytes ≡ read
    long = length-values read _

    known : Facts count home m.disk
    known = facts pieces count way home m found

    bounded : is_bounded_job j ≡ true
    bounded = bounded-read (home-small count home known.lies known.counted.2) low
      where
        below : (n : ℕ) → n < 2 ^ 31 → nat_lt n (2 ^ 31) ≡ true
        below n lt = grind (arith, nat_tests)

        bounded-read : is_place home ≡ true → at < 2 ^ 31 → is_bounded_job j ≡ true
        bounded-read a lt = λ i. a i && below at lt i

    next : TreeState
    next = at_file j count (changed home (size_of m.disk home) 0 0) (file.Number (at / BLKSIZE) (wanted.Reading 0))

    by : (b : Bool) → (read == 0) ≡ b → Acts 0 count plan m (at_kind j count home) m
    by true none =
        let zero_long : length plan.bytes ≡ 0 = long ∙ eqb-true read 0 none in
        record {
          after = m;
          ends =
              subst (λ (a : ℕ). EndsSoon 0 count a m (at_kind j count home) m) (sym zero_long)
              (ends-at (size-ends pieces count j way home m 0 found bounded regular (ap (λ (b : Bool). if b then Answer 0 else GoOn next) none)));
          disk = refl;
          bytes = λ k below. absurd (omega (arith, below, zero_long));
          rest = λ k past. refl;
        }
    by false some =
        let positive : 0 < length plan.bytes = subst (λ (k : ℕ). 0 < k) (sym long) (not-zero read some) in
        let told = pieces.bytes_are_read count home at n (changed home (size_of m.disk home) 0 0) m
        (has-bytes j 0 0 known found.sound.small bounded refl (omega arith)) refl positive in
        record {
          after = record m { page = told.0 };
          ends =
              soon-behind (at_kind j count home) m
              (size-goes pieces count j way home m next found bounded regular (ap (λ (b : Bool). if b then Answer 0 else GoOn next) some))
              (ends-at told.3);
          disk = refl;
          bytes = told.1;
          rest = told.2;
        }
      where
        not-zero : (n : ℕ) → (n == 0) ≡ false → 0 < n
        not-zero n e = grind (arith, nat_tests)

-- what stat tells
pub stat-acts : Pieces → (count : ℕ) (way : List ℕ) (home : ℕ) (m : Memory) → Found count way home m → is_directory_at m.disk home ≡ false →
    Acts 0 count (stat_plan m.disk home) m (at_kind (job.Stat home) count home) m
unfolding stat_plan left_by
stat-acts pieces count way home m found regular =
    let j : Job = job.Stat home in
    let known = facts pieces count way home m found in
    let small = home-small count home known.lies known.counted.2 in
    let told =
    pieces.stats_are_told count home (changed home (size_of m.disk home) 0 0) m known.lies found.sound.small small
    (bounded-changed home (size_of m.disk home) 0 0 small (size-small (size_of m.disk home) known.short) refl refl) refl regular
    (eqb-true (kind_at m.disk home) FTYPE_REG (kind-one count way home m found regular)) known.counted.2 in
    record {
      after = record m { page = told.0 };
      ends =
          soon-behind (at_kind j count home) m
          (size-goes pieces count j way home m (at_file j count (changed home (size_of m.disk home) 0 0)
          (file.StatByte 0 false)) found small regular refl)
          (ends-at told.3);
      disk = refl;
      bytes = told.1;
      rest = told.2;
    }

-- ---- bytes that are written

write-none : (byte : ℕ → ℕ) (place at : ℕ) (new : List ℕ) → length new ≡ 0 → write_plan byte place at new ≡ planned [] 0
unfolding write_plan
write-none byte place at [] e = refl
write-none byte place at (first ∷ rest) e = absurd (omega arith)

write-some : (byte : ℕ → ℕ) (place at : ℕ) (new : List ℕ) → 0 < length new → write_plan byte place at new ≡ write_some byte place at new
unfolding write_plan
write-some byte place at [] some = absurd (omega arith)
write-some byte place at (first ∷ rest) some = refl

-- so many bytes
abbrev write_n : (ℕ → ℕ) → ℕ → ℕ → List ℕ → ℕ → Planned
write_n byte place at new n =
    if nat_lt MAXFILESIZE (at + n) then turned_down E_NO_DISK
    else if nat_le (at + n) (size_of byte place) then planned (overwrite place at new ∷ []) n
    else planned_if_it_fits byte place (blocks_grown byte place (at + n)) n (growth byte place (at + n) ++ overwrite place at new ∷ [])

pub write-acts : Pieces → (count : ℕ) (way : List ℕ) (home at n : ℕ) (m : Memory) → Found count way home m → is_directory_at m.disk home ≡ false →
    at < 2 ^ 31 →
    n + 8 ≤ 4096 → Acts (6410 * count + 26000) count (write_plan m.disk home at (bytes_given m.page n)) m (at_kind (job.Write home at n) count home) m
unfolding left_by
write-acts pieces count way home at n m found regular low few = by (n == 0) refl
  where
    j : Job
    j = job.Write home at n

    new : List ℕ
    new = bytes_given m.page n

    long : length new ≡ n
    long = length-values n _

    end : ℕ
    end = at + n

    known : Facts count home m.disk
    known = facts pieces count way home m found

    bounded : is_bounded_job j ≡ true
    bounded = bounded-write (home-small count home known.lies known.counted.2) low
      where
        below : (n : ℕ) → n < 2 ^ 31 → nat_lt n (2 ^ 31) ≡ true
        below n lt = grind (arith, nat_tests)

        bounded-write : is_place home ≡ true → at < 2 ^ 31 → is_bounded_job j ≡ true
        bounded-write a lt = λ i. a i && below at lt i

    whole : min end (2 ^ 32 - 1) ≡ end
    whole = omega (arith, low, few)

    state : TreeState
    state = at_kind j count home

    straight : TreeState
    straight = at_file j count (changed home (size_of m.disk home) 0 0) (file.Number (at / BLKSIZE) (wanted.Writing 0))

    grown : TreeState
    grown = at_indirect j count home end m.disk

    -- where the job goes by the size
    gone : Bool → Bool → Bool → TreeNext
    gone none far fit = if none then Answer 0 else if far then refused E_NO_DISK else if fit then GoOn straight else GoOn grown

    going : (most : ℕ) → TreeNext
    going most =
        if n == 0 then Answer 0
        else if nat_lt MAXFILESIZE most then refused E_NO_DISK
        else if nat_le most (size_of m.disk home) then GoOn straight
        else GoOn (at_indirect j count home most m.disk)

    -- the page is not changed by changes of the disk
    behind-writes : (now : Memory) (indirect stop : ℕ) → Facts count home now.disk → AreSmall now → is_block indirect ≡ true → stop ≤ MAXFILESIZE →
        now.page ≡ m.page → (n == 0) ≡ false → end ≤ size_of now.disk home →
        EndsWith count n (with_disk now (written (overwrite home at new now.disk) now.disk))
        (at_file j count (changed home (size_of now.disk home) indirect stop) (file.Number (at / BLKSIZE) (wanted.Writing 0))) now
    behind-writes now indirect stop there small a short same some inside =
        subst (λ (page : ℕ → ℕ). EndsWith count n (with_disk now (written (overwrite home at (bytes_given page n) now.disk) now.disk))
        (at_file j count (changed home (size_of now.disk home) indirect stop) (file.Number (at / BLKSIZE) (wanted.Writing 0))) now) same
        (pieces.bytes_are_written count home at n (changed home (size_of now.disk home) indirect stop) now
        (has-bytes j indirect stop there small bounded a short) refl
        (bytes-apart indirect stop there) (not-zero n some) inside few)
      where
        not-zero : (n : ℕ) → (n == 0) ≡ false → 0 < n
        not-zero n e = grind (arith, nat_tests)

    past : (n == 0) ≡ false → nat_lt MAXFILESIZE end ≡ true → Acts (6410 * count + 26000) count (turned_down E_NO_DISK) m state m
    past some far =
        acts-none count (negated E_NO_DISK) m state
        (size-ends pieces count j way home m (negated E_NO_DISK) found bounded regular
        (ap going whole ∙ (λ i. gone (some i) (far i) (nat_le end (size_of m.disk home)))))

    inside : (n == 0) ≡ false → nat_lt MAXFILESIZE end ≡ false → nat_le end (size_of m.disk home) ≡ true →
        Acts (6410 * count + 26000) count (planned (overwrite home at new ∷ []) n) m state m
    inside some near fit =
        let run =
        size-goes pieces count j way home m straight found bounded regular (ap going whole ∙ (λ i. gone (some i) (near i) (fit i))) in
        let ends = behind-writes m 0 0 known found.sound.small refl (omega arith) refl some (is-le end (size_of m.disk home) fit) in
        record {
          after = with_disk m (written (overwrite home at new m.disk) m.disk);
          ends = soon-behind state m run (ends-at ends);
          disk = refl;
          bytes = λ k below. absurd (omega (arith, below));
          rest = λ k past. refl;
        }
      where
        is-le : (n k : ℕ) → nat_le n k ≡ true → n ≤ k
        is-le n k e = grind (arith, nat_tests)

    beyond : (n == 0) ≡ false → nat_lt MAXFILESIZE end ≡ false → nat_le end (size_of m.disk home) ≡ false →
        Acts (6410 * count + 26000) count (planned_if_it_fits m.disk home (blocks_grown m.disk home end) n
        (growth m.disk home end ++ overwrite home at new ∷ [])) m state m
    beyond some near over =
        let short : end ≤ MAXFILESIZE = not-past end near in
        let wanted : ℕ = blocks_grown m.disk home end in
        let run =
        size-goes pieces count j way home m grown found bounded regular (ap going whole ∙ (λ i. gone (some i) (near i) (over i))) in
        let free = fits-or-not pieces count j way home end m found bounded short in
        acts-behind state m run
        (acts-either (nat_le (wanted - blocks_taken (size_of m.disk home) (has_indirect m.disk home)) (free_blocks m.disk))
        (planned (growth m.disk home end ++ overwrite home at new ∷ []) n) (turned_down E_NO_DISK)
        (λ fit. grows-and-writes some short over (free.0 fit) fit)
        (λ lacks. acts-none count (negated E_NO_DISK) m grown (free.1 lacks)))
      where
        bytes : List ℕ
        bytes = file_bytes m.disk home

        after : Memory
        after = with_disk m (left_by (growth m.disk home end) m.disk)

        grows-and-writes : (n == 0) ≡ false → end ≤ MAXFILESIZE → nat_le end (size_of m.disk home) ≡ false →
            Leads count (before j count home end (size_of m.disk home) (indirect_of m.disk home)) m grown m →
            nat_le (blocks_grown m.disk home end - blocks_taken (size_of m.disk home) (has_indirect m.disk home)) (free_blocks m.disk) ≡ true →
            Acts (6410 * count + 26000) count (planned (growth m.disk home end ++ overwrite home at new ∷ []) n) m grown m
        grows-and-writes some_ short over_ lead fit =
            let has = has-file found regular in
            let is = file-is changes-acts (BLKSIZE * count) m.disk way home bytes (has_indirect m.disk home) has.holds in
            let does : Doing count j home end = record { pieces = pieces; job = bounded; short = short } in
            let grow : Run count j home end way (growth_calls count) m (growth m.disk home end)
            (a_file (resized bytes end) (has_indirect m.disk home || needs_indirect end)) =
            grows does m bytes (has_indirect m.disk home) has (fits-bytes found regular (blocks_grown m.disk home end) fit) refl
            (ends-past end (size_of m.disk home) (length bytes) is.long over_) in
            let now = ran has grow in
            let there = facts pieces count way home after (has-found now) in
            let then_is =
            file-is changes-acts (BLKSIZE * count) after.disk way home (resized bytes end) (has_indirect m.disk home || needs_indirect end) now.holds in
            let size_is : size_of after.disk home ≡ end = sym then_is.long ∙ length-resized bytes end in
            let last : ℕ → ℕ = written (overwrite home at new after.disk) after.disk in
            let ends =
            acts-after m (growth m.disk home end) n (with_disk m last) grow.comes (size_of m.disk home) (indirect_of m.disk home)
            (size-small (size_of m.disk home) known.short) (indirect-small known)
            (λ s i a b.
            let write = behind-writes after (indirect_of after.disk home) end there now.small (indirect-small there) short refl some_
            (same-le end (size_of after.disk home) size_is) in
            leads_to_end (before j count home end s i) after
            (settled-goes count j home end after s i
            (at_file j count (read_now home end after.disk) (file.Number (at / BLKSIZE) (wanted.Writing 0))) there bounded short a b size_is
            (λ back. never back) refl) write.0 write.1) in
            record {
              after = with_disk m last;
              ends = soon-behind grown m lead (ends-most (6410 * count + 26000) (omega arith) ends);
              disk = sym (left_by-append (growth m.disk home end) (overwrite home at new ∷ []) m.disk);
              bytes = λ k below. absurd (omega (arith, below));
              rest = λ k past. refl;
            }
          where
            never : {A : Type 0} → false ≡ true → A
            never e = absurd (cc e)

            same-le : (n m : ℕ) → m ≡ n → n ≤ m
            same-le n m e = omega arith

    some-acts : (n == 0) ≡ false → Acts (6410 * count + 26000) count (write_n m.disk home at new n) m state m
    some-acts some =
        acts-either (nat_lt MAXFILESIZE end) (turned_down E_NO_DISK)
        (if nat_le end (size_of m.disk home) then planned (overwrite home at new ∷ []) n
        else planned_if_it_fits m.disk home (blocks_grown m.disk home end) n (growth m.disk home end ++ overwrite home at new ∷ []))
        (past some)
        (λ near.
        acts-either (nat_le end (size_of m.disk home)) (planned (overwrite home at new ∷ []) n)
        (planned_if_it_fits m.disk home (blocks_grown m.disk home end) n (growth m.disk home end ++ overwrite home at new ∷ []))
        (inside some near) (beyond some near))

    by : (b : Bool) → (n == 0) ≡ b → Acts (6410 * count + 26000) count (write_plan m.disk home at new) m state m
    by true none =
        subst (λ (p : Planned). Acts (6410 * count + 26000) count p m state m) (sym (write-none m.disk home at new (long ∙ eqb-true n 0 none)))
        (acts-none count 0 m state
        (size-ends pieces count j way home m 0 found bounded regular
        (ap going whole ∙ (λ i. gone (none i) (nat_lt MAXFILESIZE end) (nat_le end (size_of m.disk home))))))
    by false some =
        subst (λ (p : Planned). Acts (6410 * count + 26000) count p m state m) (sym (write-some m.disk home at new
        (subst (λ (k : ℕ). 0 < k) (sym long) (not-zero n some))))
        (subst (λ (k : ℕ). Acts (6410 * count + 26000) count (write_n m.disk home at new k) m state m) (sym long) (some-acts some))
      where
        not-zero : (n : ℕ) → (n == 0) ≡ false → 0 < n
        not-zero n e = grind (arith, nat_tests)

-- ---- its removal

pub emptied-few : (count size : ℕ) → size ≤ MAXFILESIZE → 48 * blocks_of size + 48 ≤ count + 50000
emptied-few count size short = omega (arith, short)

pub remove-acts : Pieces → (count : ℕ) (way : List ℕ) (home : ℕ) (m : Memory) → Found count way home m → is_directory_at m.disk home ≡ false →
    Acts (count + 50000) count (planned (resizing m.disk home 0 ++ empty_it home ∷ []) 0) m (at_kind (job.Remove home) count home) m
unfolding left_by
remove-acts pieces count way home m found regular =
    let j : Job = job.Remove home in
    let known = facts pieces count way home m found in
    let bounded : is_bounded_job j ≡ true = home-small count home known.lies known.counted.2 in
    let bytes : List ℕ = file_bytes m.disk home in
    let has = has-file found regular in
    let does : Doing count j home 0 = record { pieces = pieces; job = bounded; short = omega arith } in
    let run : Run count j home 0 way (count + 50000) m (resizing m.disk home 0) (a_file (resized bytes 0) (needs_indirect 0)) =
    run-resized does refl bytes (has_indirect m.disk home) has (omega arith) (count + 50000) (λ more. absurd (omega (arith, more)))
    (λ less. emptied-few count (size_of m.disk home) known.short) in
    let after : Memory = with_disk m (left_by (resizing m.disk home 0) m.disk) in
    let now = ran has run in
    let is = file-is changes-acts (BLKSIZE * count) after.disk way home (resized bytes 0) (needs_indirect 0) now.holds in
    let there = facts pieces count way home after (has-found now) in
    let c : Changed = read_now home 0 after.disk in
    let last : ℕ → ℕ = written (empty_it home after.disk) after.disk in
    let empties =
    pieces.records_are_emptied count j c after there.lies
    (bounded-file count j c file.Empty (count-small count there.counted.2) bounded (bounded-now 0 there (omega arith)) refl) in
    let ends =
    acts-after m (resizing m.disk home 0) 0 (with_disk m last) run.comes (size_of m.disk home) 0 (size-small (size_of m.disk home) known.short) refl
    (λ s i a b.
    leads_to_end (before j count home 0 s i) after
    (settled-goes count j home 0 after s i (at_file j count c file.Empty) there bounded (omega arith) a b (sym is.long ∙ length-resized bytes 0)
    (λ back. subst (λ (t : Bool). Unmarked 0 t) (sym is.mark) refl) refl) empties.0 empties.1) in
    record {
      after = with_disk m last;
      ends =
          soon-behind (at_kind j count home) m
          (size-goes pieces count j way home m (before j count home 0 (size_of m.disk home) 0) found bounded regular refl) ends;
      disk = sym (left_by-append (resizing m.disk home 0) (empty_it home ∷ []) m.disk);
      bytes = λ k below. absurd (omega (arith, below));
      rest = λ k past. refl;
    }
