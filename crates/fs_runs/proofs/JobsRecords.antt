-- A job decides by the record of its file: it is refused, or ends with an answer, or changes its blocks.
use Rattle.std.proofs.Common.{◌≡◌, ◌∙◌, ◌+◌, ◌*◌, ◌<◌, ◌≤◌, ◌⊎◌, inl, inr, ℕ, Bool, true, false, not, List, []}
use Rattle.std.proofs.Common.{length, refl, sym, ap, arith, min}
use Rattle.std.specs.Prelude.{◌==◌, ◌&&◌, nat_le, nat_lt, slice_index, if◌then◌else◌}
use Rattle.std.proofs.lemmas.Bool.{or_cases}
use Rattle.std.proofs.lemmas.Bool.Decides.{nat_tests}
use Rattle.jos_base.specs.declared.numbers.TheConstants.{E_INVAL, E_NO_DISK}
use Rattle.jos_base.specs.Words.{negated}
use Rattle.fs_layout.specs.declared.numbers.TheConstants.{BLKSIZE, FTYPE_REG, MAXFILESIZE}
use Rattle.fs_layout.specs.FileTree.{FileAct, blocks_of}
use Rattle.fs_layout.specs.DiskImage.{has_indirect, indirect_of, is_data_block, is_directory_at, kind_at, size_of}
use Rattle.fs_layout.specs.DiskFiles.{free_blocks}
use Rattle.fs_acts.specs.BlockActs.{Change, Planned, planned, plan_of}
use Rattle.fs_acts.proofs.ComposedSteps.{left_by, written-in_turn}
use Rattle.fs_acts.proofs.Undamaged.{way-reached}
use Rattle.fs_jobs.specs.declared.place.FilePlace.TheVariants as file
use Rattle.fs_jobs.specs.declared.place.Job.{Job}
use Rattle.fs_jobs.specs.declared.place.TreeState.{TreeState}
use Rattle.fs_jobs.specs.declared.asks.TreeNext.{TreeNext}
use Rattle.fs_jobs.specs.declared.asks.TreeNext.TheVariants.{Answer, GoOn}
use Rattle.fs_jobs.specs.declared.tests.TheConstants.{DAMAGED}
use Rattle.fs_changes.specs.ChangePlans.{gives_back, more_blocks, next_change, settled, sized}
use Rattle.fs_jobs.specs.TreeBounds.{is_bounded_changed, is_bounded_job, is_block, is_place}
use Rattle.fs_runs.specs.JobCalls.{changes_calls_max}
use Rattle.fs_runs.specs.TreeRuns.{IsJobOf, IsOnItsWay, IsSound, Memory, begun_with}
use Rattle.fs_jobs.specs.TreeTests.{refused}
use Rattle.fs_runs.proofs.CallsCounted.{ends-of}
use Rattle.fs_runs.proofs.StepsCounted.{ends-few}
use Rattle.fs_runs.proofs.Leads.{EndsIn, Leads, at_once, end_steps, here, leads_on, leads_to_end, on, steps_of}
use Rattle.fs_runs.proofs.Pieces.{EndsAfter, EndsWith, at_file, with_disk}
use Rattle.fs_runs.proofs.JobsFacts.{Facts, Found, Pieces, bounded-changed, bounded-now, changed, count-small, facts, home-small}
use Rattle.fs_runs.proofs.JobsFacts.{indirect-is, read_now, size-small}
use Rattle.fs_runs.proofs.JobsRuns.{before, bounded-file, deciding, good-number, inside-word, short-size}
use Rattle.fs_runs.proofs.JobsChanges.{Comes, Unmarked, keeps-now, next-settles}

-- ---- a plan that is carried out

-- it ends with an answer, and its changes weigh no more than so much
abbrev pub EndsSoon : ℕ → ℕ → ℕ → Memory → TreeState → Memory → Type 0
EndsSoon most count answer after state m = (n : ℕ) × (weighs : ℕ) × (weighs ≤ most) × EndsIn count answer after weighs n state m

pub ends-soon : {most count answer : ℕ} {after : Memory} {state : TreeState} {m : Memory} (weighs : ℕ) → weighs ≤ most →
    EndsAfter count answer after weighs state m → EndsSoon most count answer after state m
ends-soon weighs few ends = (ends.0, weighs, few, ends.1)

pub ends-at : {most count answer : ℕ} {after : Memory} {state : TreeState} {m : Memory} → EndsWith count answer after state m →
    EndsSoon most count answer after state m
ends-at ends = ends-soon 0 (omega arith) ends

pub ends-most : {most count answer : ℕ} {after : Memory} {state : TreeState} {m : Memory} (more : ℕ) → most ≤ more →
    EndsSoon most count answer after state m → EndsSoon more count answer after state m
ends-most {most} more le ends = (ends.0, ends.1, both ends.1 ends.2, ends.3)
  where
    both : (n : ℕ) → n ≤ most → n ≤ more
    both n few = omega (arith, le, few)

pub soon-behind : {most count answer : ℕ} {to : TreeState} {mid after : Memory} (state : TreeState) (m : Memory) → Leads count to mid state m →
    EndsSoon most count answer after to mid → EndsSoon most count answer after state m
soon-behind {most} state m run ends = ends-soon (0 + ends.1) (same ends.1 ends.2) (leads_to_end state m run ends.0 ends.3)
  where
    same : (n : ℕ) → n ≤ most → 0 + n ≤ most
    same n few = omega (arith, few)

-- From here the job ends as a plan says that is made over this memory; so much its changes weigh at most.
pub record Acts (most count : ℕ) (plan : Planned) (m : Memory) (state : TreeState) (now : Memory) : Type 0 where
  pub after : Memory
  pub ends : EndsSoon most count plan.answer after state now
  pub disk : after.disk ≡ left_by plan.changes m.disk
  pub bytes : (k : ℕ) → k < length plan.bytes → after.page k ≡ slice_index plan.bytes k
  pub rest : (k : ℕ) → length plan.bytes ≤ k → after.page k ≡ m.page k

pub acts-behind : {most count : ℕ} {plan : Planned} {m mid : Memory} {to : TreeState} (state : TreeState) (now : Memory) →
    Leads count to mid state now → Acts most count plan m to mid → Acts most count plan m state now
acts-behind state now run acts =
    record {
      after = acts.after;
      ends = soon-behind state now run acts.ends;
      disk = acts.disk;
      bytes = acts.bytes;
      rest = acts.rest;
    }

-- nothing is stored
pub acts-none : {most : ℕ} (count answer : ℕ) (m : Memory) (state : TreeState) → EndsWith count answer m state m →
    Acts most count (planned [] answer) m state m
unfolding left_by
acts-none count answer m state ends =
    record { after = m; ends = ends-at ends; disk = refl; bytes = λ k below. absurd (omega (arith, below)); rest = λ k past. refl }

pub acts-either : {most count : ℕ} {m now : Memory} {state : TreeState} (b : Bool) (one two : Planned) →
    (b ≡ true → Acts most count one m state now) → (b ≡ false → Acts most count two m state now) →
    Acts most count (if b then one else two) m state now
acts-either true one two so other = so refl
acts-either false one two so other = other refl

pub on-its-way : (count : ℕ) (is_open : List ℕ → Bool) (act : FileAct) (m : Memory) (j : Job) → IsSound count m → IsJobOf is_open m act j →
    Acts (changes_calls_max act count) count (plan_of is_open m.disk act) m (begun_with j) m →
    IsOnItsWay count is_open act m (begun_with j) m
on-its-way count is_open act m j sound is acts =
    let soon = ends-few act is_open m j sound is acts.ends.2 acts.ends.3 in
    record {
      left = acts.ends.0;
      soon = soon.0;
      answer = (plan_of is_open m.disk act).answer;
      after = acts.after;
      ends = ends-of acts.ends.3;
      few = soon.1;
      acted =
          record {
            answer_is = refl;
            disk = acts.disk ∙ sym (written-in_turn (plan_of is_open m.disk act).changes m.disk);
            bytes = acts.bytes;
            rest = acts.rest;
          };
    }

-- ---- by the kind and the size

-- where a job of a record begins
abbrev pub at_kind : Job → ℕ → ℕ → TreeState
at_kind j count home = at_file j count (changed home 0 0 0) file.Kind

pub kind-one : (count : ℕ) (way : List ℕ) (home : ℕ) (m : Memory) → Found count way home m → is_directory_at m.disk home ≡ false →
    (kind_at m.disk home == FTYPE_REG) ≡ true
kind-one count way home m found none =
    by (or_cases (kind_at m.disk home == 0) (kind_at m.disk home == 1)
    (way-reached (BLKSIZE * count) m.disk found.sound.disk way home found.stands).kind)
  where
    clash : (b : Bool) → b ≡ false → b ≡ true → (kind_at m.disk home == 0) ≡ true
    clash b e f = let both : false ≡ true = sym e ∙ f in absurd (cc both)

    by : ((kind_at m.disk home == 0) ≡ true) ⊎ ((kind_at m.disk home == 1) ≡ true) → (kind_at m.disk home == 0) ≡ true
    by (inl is) = is
    by (inr is) = clash (kind_at m.disk home == 1) none is

zero-bounded : {count home : ℕ} {byte : ℕ → ℕ} → Facts count home byte → is_bounded_changed (changed home 0 0 0) ≡ true
zero-bounded {count} {home} is = bounded-changed home 0 0 0 (home-small count home is.lies is.counted.2) refl refl refl

pub kind-refused : Pieces → (count : ℕ) (j : Job) (way : List ℕ) (home : ℕ) (m : Memory) → Found count way home m → is_bounded_job j ≡ true →
    is_directory_at m.disk home ≡ true → EndsWith count (negated E_INVAL) m (at_kind j count home) m
kind-refused pieces count j way home m found job is =
    let known = facts pieces count way home m found in (
      1,
      at_once (at_kind j count home) m (bounded-file count j (changed home 0 0 0) file.Kind (count-small count known.counted.2) job
          (zero-bounded known) refl)
          (inside-word count home (home + 128 + 4) known.lies 33 (omega arith) (omega arith))
          (ap (λ (b : Bool). if b then refused E_INVAL
          else if kind_at m.disk home == FTYPE_REG then GoOn (at_file j count (changed home 0 0 0) file.Size) else refused DAMAGED) is) refl,
    )

pub kind-passed : Pieces → (count : ℕ) (j : Job) (way : List ℕ) (home : ℕ) (m : Memory) → Found count way home m → is_bounded_job j ≡ true →
    is_directory_at m.disk home ≡ false → Leads count (at_file j count (changed home 0 0 0) file.Size) m (at_kind j count home) m
kind-passed pieces count j way home m found job is =
    let known = facts pieces count way home m found in
    let reg = kind-one count way home m found is in
    on (at_kind j count home) (at_file j count (changed home 0 0 0) file.Size) m
    (bounded-file count j (changed home 0 0 0) file.Kind (count-small count known.counted.2) job (zero-bounded known) refl)
    (inside-word count home (home + 128 + 4) known.lies 33 (omega arith) (omega arith))
    (λ i. if is i then refused E_INVAL else if reg i then GoOn (at_file j count (changed home 0 0 0) file.Size) else refused DAMAGED) here

-- a file: its size was read
abbrev pub at_size : Job → ℕ → ℕ → TreeState
at_size j count home = at_file j count (changed home 0 0 0) file.Size

pub size-ends : Pieces → (count : ℕ) (j : Job) (way : List ℕ) (home : ℕ) (m : Memory) (answer : ℕ) → Found count way home m →
    is_bounded_job j ≡ true →
    is_directory_at m.disk home ≡ false → sized (at_size j count home) j (changed home (size_of m.disk home) 0 0) ≡ Answer answer →
    EndsWith count answer m (at_kind j count home) m
size-ends pieces count j way home m answer found job regular goes =
    let known = facts pieces count way home m found in
    leads_to_end (at_kind j count home) m (kind-passed pieces count j way home m found job regular) 1
    (at_once (at_size j count home) m (bounded-file count j (changed home 0 0 0) file.Size (count-small count known.counted.2) job
    (zero-bounded known) refl)
    (inside-word count home (home + 128) known.lies 32 (omega arith) (omega arith))
    (ap (λ (b : Bool). if b then refused DAMAGED else sized (at_size j count home) j (changed home (size_of m.disk home) 0 0))
    (short-size (size_of m.disk home) known.short) ∙ goes) refl)

-- a step from the kind, and a last one
pub size-steps : (pieces : Pieces) (count : ℕ) (j : Job) (way : List ℕ) (home : ℕ) (m : Memory) (answer : ℕ) (found : Found count way home m)
    (job : is_bounded_job j ≡ true) (regular : is_directory_at m.disk home ≡ false)
    (goes : sized (at_size j count home) j (changed home (size_of m.disk home) 0 0) ≡ Answer answer) →
    (size-ends pieces count j way home m answer found job regular goes).0 ≡ 2
unfolding size-ends kind-passed steps_of
size-steps pieces count j way home m answer found job regular goes =
    end_steps (at_kind j count home) m (kind-passed pieces count j way home m found job regular) 1 _

pub size-goes : Pieces → (count : ℕ) (j : Job) (way : List ℕ) (home : ℕ) (m : Memory) (next : TreeState) → Found count way home m →
    is_bounded_job j ≡ true → is_directory_at m.disk home ≡ false →
    sized (at_size j count home) j (changed home (size_of m.disk home) 0 0) ≡ GoOn next → Leads count next m (at_kind j count home) m
size-goes pieces count j way home m next found job regular goes =
    let known = facts pieces count way home m found in
    leads_on (at_kind j count home) m (kind-passed pieces count j way home m found job regular)
    (on (at_size j count home) next m
    (bounded-file count j (changed home 0 0 0) file.Size (count-small count known.counted.2) job (zero-bounded known) refl)
    (inside-word count home (home + 128) known.lies 32 (omega arith) (omega arith))
    (ap (λ (b : Bool). if b then refused DAMAGED else sized (at_size j count home) j (changed home (size_of m.disk home) 0 0))
    (short-size (size_of m.disk home) known.short) ∙ goes) here)

-- ---- whether it fits

abbrev pub at_indirect : Job → ℕ → ℕ → ℕ → (ℕ → ℕ) → TreeState
at_indirect j count home end byte = at_file j count (changed home (size_of byte home) 0 end) file.Indirect

pub fits-or-not : Pieces → (count : ℕ) (j : Job) (way : List ℕ) (home end : ℕ) (m : Memory) → Found count way home m → is_bounded_job j ≡ true →
    end ≤ MAXFILESIZE → let more = more_blocks j (read_now home end m.disk) in
    (nat_le more (free_blocks m.disk) ≡ true → Leads count (before j count home end (size_of m.disk home) (indirect_of m.disk home)) m
    (at_indirect j count home end m.disk) m)
    × (nat_le more (free_blocks m.disk) ≡ false → EndsWith count (negated E_NO_DISK) m (at_indirect j count home end m.disk) m)
fits-or-not pieces count j way home end m found job short = (fitting, lacking)
  where
    known : Facts count home m.disk
    known = facts pieces count way home m found

    more : ℕ
    more = more_blocks j (read_now home end m.disk)

    state : TreeState
    state = at_indirect j count home end m.disk

    now : TreeState
    now = before j count home end (size_of m.disk home) (indirect_of m.disk home)

    counting : TreeState
    counting = at_file j count (read_now home end m.disk) (file.Free 0 0)

    step : (next : TreeState) → (if more == 0 then GoOn now else GoOn counting) ≡ GoOn next → Leads count next m state m
    step next goes =
        on state next m
        (bounded-file count j (changed home (size_of m.disk home) 0 end) file.Indirect (count-small count known.counted.2) job
        (bounded-changed home (size_of m.disk home) 0 end (home-small count home known.lies known.counted.2)
        (size-small (size_of m.disk home) known.short) refl (size-small end short)) refl)
        (inside-word count home (home + 128 + 8 + 40) known.lies 44 (omega arith) (omega arith))
        (ap (λ (b : Bool). if b then refused DAMAGED else if more == 0 then GoOn now else GoOn counting)
        (good-number (is_data_block count (indirect_of m.disk home)) (indirect_of m.disk home) (indirect-is known)) ∙ goes) here

    counted : (more == 0) ≡ false → Leads count counting m state m
    counted some = step counting (ap (λ (b : Bool). if b then GoOn now else GoOn counting) some)

    free : (more ≤ free_blocks m.disk → Leads count now m counting m) ×
        (free_blocks m.disk < more → EndsWith count (negated E_NO_DISK) m counting m)
    free = pieces.free_is_counted count j (read_now home end m.disk) m known.counted found.sound.small job (bounded-now end known short)

    fitting : nat_le more (free_blocks m.disk) ≡ true → Leads count now m state m
    fitting fit = by (more == 0) refl
      where
        by : (b : Bool) → (more == 0) ≡ b → Leads count now m state m
        by true none = step now (ap (λ (b : Bool). if b then GoOn now else GoOn counting) none)
        by false some = leads_on state m (counted some) (free.0 (within more (free_blocks m.disk) fit))
          where
            within : (n k : ℕ) → nat_le n k ≡ true → n ≤ k
            within n k e = grind (arith, nat_tests)

    lacking : nat_le more (free_blocks m.disk) ≡ false → EndsWith count (negated E_NO_DISK) m state m
    lacking lacks =
        let ends = free.1 (past more (free_blocks m.disk) lacks) in
        leads_to_end state m (counted (some more (free_blocks m.disk) lacks)) ends.0 ends.1
      where
        past : (n k : ℕ) → nat_le n k ≡ false → k < n
        past n k e = grind (arith, nat_tests)

        some : (n k : ℕ) → nat_le n k ≡ false → (n == 0) ≡ false
        some n k e = grind (arith, nat_tests)

-- ---- behind the last change

settles : (count : ℕ) (j : Job) (home end : ℕ) (byte : ℕ → ℕ) (indirect : ℕ) → size_of byte home ≡ end →
    (gives_back j ≡ true → Unmarked end (has_indirect byte home)) →
    next_change (deciding j count home end byte indirect) (read_now home end byte) ≡ settled (deciding j count home end byte indirect) j
    (read_now home end byte)
settles count j home end byte indirect long clean =
    next-settles (deciding j count home end byte indirect) (read_now home end byte)
    (keeps-now j home end byte (λ back. (same-le (size_of byte home) end long, clean back)))
    (no-fill (size_of byte home) end long) (no-take (size_of byte home) end long)
  where
    same-le : (n m : ℕ) → n ≡ m → n ≤ m
    same-le n m e = omega arith

    not-less : (n m : ℕ) → m ≤ n → nat_lt n m ≡ false
    not-less n m le = grind (arith, nat_tests)

    no-fill : (n m : ℕ) → n ≡ m → nat_lt n (min m (4096 * blocks_of n)) ≡ false
    no-fill n m e = not-less n (min m (4096 * blocks_of n)) (omega arith)

    no-take : (n m : ℕ) → n ≡ m → nat_lt (blocks_of n) (blocks_of m) ≡ false
    no-take n m e = not-less (blocks_of n) (blocks_of m) (omega arith)

deciding-bounded : {count : ℕ} {home : ℕ} {byte : ℕ → ℕ} (j : Job) (end indirect : ℕ) → Facts count home byte → end ≤ MAXFILESIZE →
    is_block indirect ≡ true →
    is_bounded_changed (changed home (size_of byte home) indirect end) ≡ true
deciding-bounded {count} {home} {byte} j end indirect known short small =
    bounded-changed home (size_of byte home) indirect end (home-small count home known.lies known.counted.2)
    (size-small (size_of byte home) known.short) small (size-small end short)

reads-size : (count : ℕ) (j : Job) (home end : ℕ) (m : Memory) (size indirect : ℕ) → Facts count home m.disk → is_bounded_job j ≡ true →
    end ≤ MAXFILESIZE → is_place size ≡ true → is_block indirect ≡ true →
    Leads count (deciding j count home end m.disk indirect) m (before j count home end size indirect) m
reads-size count j home end m size indirect known job short a b =
    on (before j count home end size indirect) (deciding j count home end m.disk indirect) m
    (bounded-file count j (changed home size indirect end) file.SizeNow (count-small count known.counted.2) job
    (bounded-changed home size indirect end (home-small count home known.lies known.counted.2) a b (size-small end short)) refl)
    (inside-word count home (home + 128) known.lies 32 (omega arith) (omega arith))
    (ap (λ (t : Bool). if t then refused DAMAGED else GoOn (deciding j count home end m.disk indirect))
    (short-size (size_of m.disk home) known.short))
    here

decides : (count : ℕ) (j : Job) (home end : ℕ) (byte : ℕ → ℕ) (indirect : ℕ) (next : TreeNext) → Facts count home byte →
    next_change (deciding j count home end byte indirect) (read_now home end byte) ≡ next →
    (if not (indirect_of byte home == 0) && not (is_data_block count (indirect_of byte home)) then refused DAMAGED
    else next_change (deciding j count home end byte indirect) (read_now home end byte)) ≡ next
decides count j home end byte indirect next known goes =
    ap (λ (t : Bool). if t then refused DAMAGED else next_change (deciding j count home end byte indirect) (read_now home end byte))
    (good-number (is_data_block count (indirect_of byte home)) (indirect_of byte home) (indirect-is known)) ∙ goes

-- the job ends there
pub settled-ends : (count : ℕ) (j : Job) (home end : ℕ) (m : Memory) (size indirect answer : ℕ) → Facts count home m.disk →
    is_bounded_job j ≡ true →
    end ≤ MAXFILESIZE → is_place size ≡ true → is_block indirect ≡ true → size_of m.disk home ≡ end →
    (gives_back j ≡ true → Unmarked end (has_indirect m.disk home)) →
    settled (deciding j count home end m.disk indirect) j (read_now home end m.disk) ≡ Answer answer →
    EndsWith count answer m (before j count home end size indirect) m
settled-ends count j home end m size indirect answer known job short a b long clean goes =
    leads_to_end (before j count home end size indirect) m (reads-size count j home end m size indirect known job short a b) 1
    (at_once (deciding j count home end m.disk indirect) m
    (bounded-file count j (changed home (size_of m.disk home) indirect end) file.IndirectNow (count-small count known.counted.2) job
    (deciding-bounded j end indirect known short b) refl)
    (inside-word count home (home + 128 + 8 + 40) known.lies 44 (omega arith) (omega arith))
    (decides count j home end m.disk indirect (Answer answer) known (settles count j home end m.disk indirect long clean ∙ goes)) refl)

-- or goes on
pub settled-goes : (count : ℕ) (j : Job) (home end : ℕ) (m : Memory) (size indirect : ℕ) (next : TreeState) → Facts count home m.disk →
    is_bounded_job j ≡ true →
    end ≤ MAXFILESIZE → is_place size ≡ true → is_block indirect ≡ true → size_of m.disk home ≡ end →
    (gives_back j ≡ true → Unmarked end (has_indirect m.disk home)) →
    settled (deciding j count home end m.disk indirect) j (read_now home end m.disk) ≡ GoOn next →
    Leads count next m (before j count home end size indirect) m
settled-goes count j home end m size indirect next known job short a b long clean goes =
    leads_on (before j count home end size indirect) m (reads-size count j home end m size indirect known job short a b)
    (on (deciding j count home end m.disk indirect) next m
    (bounded-file count j (changed home (size_of m.disk home) indirect end) file.IndirectNow (count-small count known.counted.2) job
    (deciding-bounded j end indirect known short b) refl)
    (inside-word count home (home + 128 + 8 + 40) known.lies 44 (omega arith) (omega arith))
    (decides count j home end m.disk indirect (GoOn next) known (settles count j home end m.disk indirect long clean ∙ goes)) here)

-- after the changes
pub acts-after : {count : ℕ} {j : Job} {home end most : ℕ} (m : Memory) (changes : List Change) (answer : ℕ) (after : Memory) →
    Comes count j home end most m (with_disk m (left_by changes m.disk)) →
    (size indirect : ℕ) → is_place size ≡ true → is_block indirect ≡ true →
    ((size indirect : ℕ) → is_place size ≡ true → is_block indirect ≡ true →
    EndsWith count answer after (before j count home end size indirect) (with_disk m (left_by changes m.disk))) →
    EndsSoon most count answer after (before j count home end size indirect) m
acts-after {count} {j} {home} {end} {most} m changes answer after comes size indirect a b ends =
    let came = comes size indirect a b in
    let last = ends came.size came.indirect came.size_small came.indirect_small in
    ends-soon (came.weighs + 0) (same came.weighs came.few)
    (leads_to_end (before j count home end size indirect) m came.leads last.0 last.1)
  where
    same : (n : ℕ) → n ≤ most → n + 0 ≤ most
    same n few = omega (arith, few)
