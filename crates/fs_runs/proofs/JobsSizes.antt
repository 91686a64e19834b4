-- A job brings a record to the size that it is to have: change by change it does what its act plans.
use Rattle.std.proofs.Common.{◌≡◌, ◌∙◌, ◌+◌, ◌-◌, ◌*◌, ◌%◌, ◌<◌, ◌≤◌, ◌⊎◌, inl, inr, ℕ, zero, suc, Bool, true, false, not, List, [], ◌∷◌, ◌++◌}
use Rattle.std.proofs.Common.{length, refl, sym, ap, subst, arith, min}
use Rattle.std.specs.Prelude.{◌||◌, ◌&&◌, nat_lt, take, replicate, if◌then◌else◌}
use Rattle.std.proofs.lemmas.Bool.{cases_lt}
use Rattle.std.proofs.lemmas.Bool.Decides.{nat_tests}
use Rattle.std.proofs.lemmas.List.{take_all, take-take, length-take}
use Rattle.std.proofs.Math.Nat.{add-mul, mul-add, mul-le-mul_left, mul-le-mul_right, mul_assoc, zero-mul}
use Rattle.jos_base.specs.declared.numbers.TheConstants.{PGSIZE}
use Rattle.jos_base.specs.Environments.{bit_of}
use Rattle.jos_base.proofs.Sums.{total-le}
use Rattle.fs_layout.specs.declared.numbers.TheConstants.{BLKSIZE, MAXFILESIZE, NDIRECT}
use Rattle.fs_layout.specs.FileTree.{FileSystem, Node, a_file, blocks_of, needs_indirect, blocks_taken}
use Rattle.fs_layout.specs.FileActs.{resized}
use Rattle.fs_layout.specs.DiskImage.{block_count, blocks_needed, has_indirect, is_marked_free, size_of}
use Rattle.fs_layout.specs.DiskFiles.{file_system_of, free_blocks}
use Rattle.fs_layout.proofs.FileBytes.{length-resized}
use Rattle.fs_acts.specs.BlockActs.{Change, Put, cut, fill, take_indirect, take_block, give_block, give_indirect, take_blocks, growth}
use Rattle.fs_acts.specs.BlockActs.{resizing, written}
use Rattle.fs_acts.specs.BlockLaws.{Holds}
use Rattle.fs_acts.proofs.ComposedBytes.{resized-same, resized-twice, resized-take}
use Rattle.fs_acts.proofs.ComposedChanges.{changes-acts}
use Rattle.fs_acts.proofs.ComposedCreates.{unfilled}
use Rattle.fs_acts.proofs.ComposedSteps.{left_by, left_by-append, Turns, turned, turns-one, turns-append}
use Rattle.fs_acts.proofs.ComposedRecords.{file-is}
use Rattle.fs_acts.proofs.ComposedSizes.{HasFree, cuts-off, few-blocks, file-kept, mark-counted, mark-grows}
use Rattle.fs_acts.proofs.ComposedSizes.{more-blocks, needed-both, not-needed, nothing, one-more, or-later, or-needed, renamed, room-left}
use Rattle.fs_acts.proofs.ComposedSizes.{still-free, takes-both, unmarked, unmarks}
use Rattle.fs_jobs.specs.declared.place.Job.{Job}
use Rattle.fs_changes.specs.ChangePlans.{gives_back}
use Rattle.fs_jobs.specs.TreeBounds.{is_bounded_job}
use Rattle.fs_runs.specs.JobCalls.{bitmap_words, take_calls}
use Rattle.fs_runs.specs.TreeRuns.{AreSmall, Memory}
use Rattle.fs_runs.proofs.Pieces.{with_disk}
use Rattle.fs_runs.proofs.JobsFacts.{Found, Pieces, facts, read_now}
use Rattle.fs_runs.proofs.JobsRuns.{before, leads-small}
use Rattle.fs_runs.proofs.JobsChanges.{Comes, Keeps, Takes, Unmarked, Works, comes-cut, comes-filled, comes-given, comes-marked, comes-none}
use Rattle.fs_runs.proofs.JobsChanges.{comes-most, comes-on, comes-taken, comes-unmarked, keeps-now}

-- ---- a record and its node

pub record Has (count : ℕ) (way : List ℕ) (home : ℕ) (m : Memory) (node : Node) : Type 0 where
  pub small : AreSmall m
  pub count_is : block_count m.disk ≡ count
  pub holds : Holds (BLKSIZE * count) m.disk way home node

pub has-found : {count : ℕ} {way : List ℕ} {home : ℕ} {m : Memory} {node : Node} → Has count way home m node → Found count way home m
has-found {count} {way} {home} {m} {node} has =
    record { sound = record { disk = has.holds.sound; count_is = has.count_is; small = has.small }; stands = has.holds.stands }

-- a job, and the size that a record is to have
pub record Doing (count : ℕ) (j : Job) (home end : ℕ) : Type 0 where
  pub pieces : Pieces
  pub job : is_bounded_job j ≡ true
  pub short : end ≤ MAXFILESIZE

pub works : {count : ℕ} {j : Job} {home end : ℕ} {way : List ℕ} {m : Memory} {node : Node} → Doing count j home end → Has count way home m node →
    Works count j home end m
works {count} {j} {home} {end} {way} {m} {node} does has =
    record { facts = facts does.pieces count way home m (has-found has); small = has.small; job = does.job; short = does.short }

-- Changes that put a node, and the run of a job that makes them. So much they weigh at most.
pub record Run (count : ℕ) (j : Job) (home end : ℕ) (way : List ℕ) (most : ℕ) (m : Memory) (changes : List Change) (node : Node) : Type 0 where
  pub turns : Turns (BLKSIZE * count) m.disk way home changes node
  pub comes : Comes count j home end most m (with_disk m (left_by changes m.disk))

pub ran : {count : ℕ} {j : Job} {home end : ℕ} {way : List ℕ} {most : ℕ} {m : Memory} {changes : List Change} {old new : Node} →
    Has count way home m old → Run count j home end way most m changes new → Has count way home (with_disk m (left_by changes m.disk)) new
ran {count} {j} {home} {end} {way} {most} {m} {changes} {old} {new} has run =
    let same : block_count m.disk ≡ block_count (left_by changes m.disk) =
    unfold file_system_of in (sym (ap (λ (t : FileSystem). t.blocks) run.turns.tree)) in
    record {
      small = leads-small (before j count home end 0 0) m (run.comes 0 0 refl refl).leads has.small;
      count_is = sym same ∙ has.count_is;
      holds = turned run.turns;
    }

pub run-append : {count : ℕ} {j : Job} {home end : ℕ} {way : List ℕ} {one_most two_most : ℕ} (m : Memory) (first rest : List Change)
    (mid new : Node) →
    Run count j home end way one_most m first mid → Run count j home end way two_most (with_disk m (left_by first m.disk)) rest new →
    Run count j home end way (one_most + two_most) m (first ++ rest) new
run-append {count} {j} {home} {end} {way} {one_most} {two_most} m first rest mid new one two =
    record {
      turns = turns-append (BLKSIZE * count) m.disk way home mid new first rest one.turns two.turns;
      comes =
          subst (λ (b : ℕ → ℕ). Comes count j home end (one_most + two_most) m (with_disk m b)) (sym (left_by-append first rest m.disk))
          (comes-on count j home end one_most two_most m (with_disk m (left_by first m.disk))
          (with_disk m (left_by rest (left_by first m.disk))) one.comes two.comes);
    }

-- it weighs no more than what is more
pub run-most : {count : ℕ} {j : Job} {home end : ℕ} {way : List ℕ} {most : ℕ} {m : Memory} {changes : List Change} {node : Node} (more : ℕ) →
    most ≤ more → Run count j home end way most m changes node → Run count j home end way more m changes node
run-most {count} {j} {home} {end} {way} {most} {m} {changes} {node} more le run =
    record { turns = run.turns; comes = comes-most count j home end most more m (with_disk m (left_by changes m.disk)) le run.comes }

run-renamed : {count : ℕ} {j : Job} {home end : ℕ} {way : List ℕ} {most : ℕ} {m : Memory} {changes : List Change} (bytes other : List ℕ)
    (indirect mark : Bool) →
    Run count j home end way most m changes (a_file bytes indirect) → bytes ≡ other → indirect ≡ mark →
    Run count j home end way most m changes (a_file other mark)
run-renamed bytes other indirect mark run e f = record { turns = renamed bytes other indirect mark run.turns e f; comes = run.comes }

pub run-one : {count : ℕ} {j : Job} {home end : ℕ} {way : List ℕ} {most : ℕ} (m : Memory) (change : Change) (new : Node) →
    Turns (BLKSIZE * count) m.disk way home (change ∷ []) new → Comes count j home end most m (with_disk m (written (change m.disk) m.disk)) →
    Run count j home end way most m (change ∷ []) new
unfolding left_by
run-one m change new turns comes = record { turns = turns; comes = comes }

pub comes-idle : (count : ℕ) (j : Job) (home end most : ℕ) (m : Memory) (change : Change) → change m.disk ≡ [] →
    Comes count j home end most m (with_disk m (written (change m.disk) m.disk))
unfolding written
comes-idle count j home end most m change none =
    subst (λ (puts : List Put). Comes count j home end most m (with_disk m (written puts m.disk))) (sym none) (comes-none count j home end most m)

run-none : {count : ℕ} {j : Job} {home end : ℕ} {way : List ℕ} (most : ℕ) (m : Memory) (node : Node) → Has count way home m node →
    Run count j home end way most m [] node
unfolding left_by
run-none {count} {j} {home} {end} {way} most m node has =
    record { turns = nothing (BLKSIZE * count) m.disk way home node has.holds; comes = comes-none count j home end most m }

-- ---- blocks that are given back

one-less : (n k b : ℕ) → suc k ≡ blocks_of n - b → blocks_of (min (4096 * (blocks_of n - 1)) n) ≡ blocks_of n - 1
one-less n k b more = omega arith

gives : {count : ℕ} {j : Job} {home end : ℕ} {way : List ℕ} → Doing count j home end → gives_back j ≡ true → (k : ℕ) (m : Memory) (bytes : List ℕ)
    (indirect : Bool) → Has count way home m (a_file bytes indirect) → k ≡ blocks_of (length bytes) - blocks_of end →
    Run count j home end way (48 * k) m (replicate k (give_block home)) (a_file (take (BLKSIZE * (blocks_of (length bytes) - k)) bytes) indirect)
gives {count} {j} {home} {end} {way} does back zero m bytes indirect has all =
    run-renamed bytes (take (BLKSIZE * (blocks_of (length bytes) - 0)) bytes) indirect indirect (run-none 0 m (a_file bytes indirect) has)
    (sym (take_all (BLKSIZE * (blocks_of (length bytes) - 0)) bytes (omega arith))) refl
gives {count} {j} {home} {end} {way} does back (suc k) m bytes indirect has all =
    let size : ℕ = BLKSIZE * count in
    let n : ℕ = length bytes in
    let cut_off : List ℕ = take (BLKSIZE * (blocks_of n - 1)) bytes in
    let is = file-is changes-acts size m.disk way home bytes indirect has.holds in
    let less : blocks_of end < blocks_of n = omega (arith, all) in
    let one : Run count j home end way 48 m (give_block home ∷ []) (a_file cut_off indirect) =
    run-one m (give_block home) (a_file cut_off indirect)
    (turns-one size m.disk way home (a_file bytes indirect) (a_file cut_off indirect) (give_block home) has.holds
    (changes-acts.given_blocks size m.disk way home bytes indirect has.holds (omega (arith, less))))
    (comes-given does.pieces count j home end m (works does has) back (subst (λ (l : ℕ). blocks_of end < blocks_of l) is.long less)) in
    let long : length cut_off ≡ min (BLKSIZE * (blocks_of n - 1)) n = length-take (BLKSIZE * (blocks_of n - 1)) bytes in
    let left : blocks_of (length cut_off) ≡ blocks_of n - 1 = ap (λ (l : ℕ). blocks_of l) long ∙ one-less n k (blocks_of end) all in
    let rest =
    gives does back k (with_disk m (left_by (give_block home ∷ []) m.disk)) cut_off indirect (ran has one) (omega (arith, left, all)) in
    let steps : blocks_of n - 1 - k ≡ blocks_of n - suc k = omega arith in
    let below : BLKSIZE * (blocks_of n - suc k) ≤ BLKSIZE * (blocks_of n - 1) = omega arith in
    let same : take (BLKSIZE * (blocks_of (length cut_off) - k)) cut_off ≡ take (BLKSIZE * (blocks_of n - suc k)) bytes =
    ap (λ (l : ℕ). take (BLKSIZE * (l - k)) cut_off) left
    ∙ ap (λ (l : ℕ). take (BLKSIZE * l) cut_off) steps
    ∙ take-take (BLKSIZE * (blocks_of n - suc k)) (BLKSIZE * (blocks_of n - 1)) bytes below in
    run-most (48 * suc k) (omega arith)
    (run-renamed (take (BLKSIZE * (blocks_of (length cut_off) - k)) cut_off) (take (BLKSIZE * (blocks_of n - suc k)) bytes) indirect indirect
    (run-append m (give_block home ∷ []) (replicate k (give_block home)) (a_file cut_off indirect)
    (a_file (take (BLKSIZE * (blocks_of (length cut_off) - k)) cut_off) indirect) one rest)
    same refl)

-- ---- a block that is taken

-- the indirect block comes where one more block needs it
pub free-there : (indirect needs : Bool) (b e free : ℕ) → b < e →
    e + (if indirect || needs then 1 else 0) ≤ b + (if indirect then 1 else 0) + free → 0 < free
free-there true needs b e free more fits = omega arith
free-there false needs b e free more fits = omega arith

-- Where no indirect block is wanted, or one is there, that weighs nothing.
pub marking : {count : ℕ} {j : Job} {home end : ℕ} {way : List ℕ} → Doing count j home end → (most : ℕ) (m : Memory) → (node : Node) →
    Has count way home m node →
    Keeps j (read_now home end m.disk) → min end (BLKSIZE * blocks_needed m.disk home) ≤ size_of m.disk home →
    blocks_needed m.disk home < blocks_of end → 0 < free_blocks m.disk →
    (NDIRECT ≤ blocks_needed m.disk home → has_indirect m.disk home ≡ false → take_calls count ≤ most) →
    Comes count j home end most m (with_disk m (written (take_indirect home m.disk) m.disk))
marking {count} {j} {home} {end} {way} does most m node has keeps full more free weighs =
    by (cases_lt (blocks_needed m.disk home) 10) (has_indirect m.disk home) refl
  where
    by : (blocks_needed m.disk home < 10) ⊎ (10 ≤ blocks_needed m.disk home) → (b : Bool) → has_indirect m.disk home ≡ b →
        Comes count j home end most m (with_disk m (written (take_indirect home m.disk) m.disk))
    by (inl few) b is = comes-idle count j home end most m (take_indirect home) (few-blocks m.disk home few)
    by (inr many) true is = comes-idle count j home end most m (take_indirect home) (unmarked m.disk home is)
    by (inr many) false is =
        comes-most count j home end (take_calls count) most m (with_disk m (written (take_indirect home m.disk) m.disk)) (weighs many is)
        (comes-marked does.pieces count j home end m (works does has) keeps
        (record { disk = has.holds.sound; full = full; more = more; free = free }) many is)

-- no indirect block comes that the size that is wanted does not need
pub mark-clean : (indirect mark : Bool) (b e : ℕ) → b ≤ e → mark ≡ (indirect || nat_lt 10 b) → (not (nat_lt 10 e) && indirect) ≡ false →
    (not (nat_lt 10 e) && mark) ≡ false
mark-clean indirect mark b e le is clean = by (nat_lt 10 e) refl
  where
    by : (t : Bool) → nat_lt 10 e ≡ t → (not (nat_lt 10 e) && mark) ≡ false
    by true past = λ i. not (past i) && mark
    by false few =
        let below : nat_lt 10 b ≡ false = grind (arith, nat_tests) in
        let same : mark ≡ indirect = is ∙ ap (λ (t : Bool). indirect || t) below ∙ or-none indirect in
        ap (λ (t : Bool). not (nat_lt 10 e) && t) same ∙ clean
      where
        or-none : (t : Bool) → (t || false) ≡ t
        or-none true = refl
        or-none false = refl

-- What a job that gives back has given.
abbrev pub Clean : Job → ℕ → Bool → Type 0
Clean j end indirect = gives_back j ≡ true → Unmarked end indirect

-- ---- what blocks weigh that are taken

-- so many blocks a file takes, with its indirect block, to come to a size
abbrev pub taken : ℕ → ℕ → Bool → ℕ
taken end long indirect = blocks_taken end (indirect || needs_indirect end) - blocks_taken long indirect

abbrev pub marked : Bool → ℕ
marked b = if b then 1 else 0

-- the indirect block is one of them where one comes
marks-one : (indirect needs : Bool) (each : ℕ) → indirect ≡ false → needs ≡ true → each ≤ (marked (indirect || needs) - marked indirect) * each
marks-one true needs each none is = absurd (cc none)
marks-one false true each none is = omega arith
marks-one false false each none is = absurd (cc is)

-- a block and its indirect block, and those behind them
adds-up : (a b c each : ℕ) → a + 1 + b ≤ c → a * each + each + b * each ≤ c * each
adds-up a b c each le =
    let within : (a + 1 + b) * each ≤ c * each = mul-le-mul_right each le in
    let parts : (a + 1 + b) * each ≡ (a + 1) * each + b * each = add-mul (a + 1) b each in
    let own : (a + 1) * each ≡ a * each + 1 * each = add-mul a 1 each in
    omega (arith, within, parts, own)

mark-more : (indirect needs later : Bool) →
    (marked indirect ≤ marked (indirect || needs)) × (marked (indirect || needs) ≤ marked ((indirect || needs) || later))
mark-more true needs later = (omega arith, omega arith)
mark-more false true later = (omega arith, omega arith)
mark-more false false true = (omega arith, omega arith)
mark-more false false false = (omega arith, omega arith)

takes-one : {count : ℕ} {j : Job} {home end : ℕ} {way : List ℕ} → Doing count j home end → (m : Memory) (bytes : List ℕ) (indirect : Bool) →
    Has count way home m (a_file bytes indirect) → length bytes ≡ min end (BLKSIZE * blocks_of (length bytes)) → length bytes % BLKSIZE ≡ 0 →
    length bytes < end → HasFree m.disk bytes indirect end → Clean j end indirect →
    let most : ℕ = min end (length bytes + BLKSIZE) in
    Run count j home end way ((marked (indirect || needs_indirect most) - marked indirect) * take_calls count + take_calls count) m
    (take_indirect home ∷ take_block home end ∷ []) (a_file (resized bytes most) (indirect || needs_indirect most))
takes-one {count} {j} {home} {end} {way} does m bytes indirect has full whole more free clean =
    let size : ℕ = BLKSIZE * count in
    let long : ℕ = length bytes in
    let most : ℕ = min end (long + BLKSIZE) in
    let is = file-is changes-acts size m.disk way home bytes indirect has.holds in
    let pair = takes-both changes-acts size m.disk way home bytes indirect end has.holds whole more does.short is.needed free in
    let mark : Bool = pair.first.mark in
    let above : blocks_of long < blocks_of end = more-blocks long end whole more in
    let keeps : Keeps j (read_now home end m.disk) =
    keeps-now j home end m.disk
    (λ back. (subst (λ (n : ℕ). n ≤ end) is.long (omega (arith, more)), subst (λ (b : Bool). Unmarked end b) (sym is.mark) (clean back))) in
    let marks : ℕ = (marked (indirect || needs_indirect most) - marked indirect) * take_calls count in
    let one : Run count j home end way marks m (take_indirect home ∷ []) (a_file bytes mark) =
    run-one m (take_indirect home) (a_file bytes mark) pair.first.turns
    (marking does marks m (a_file bytes indirect) has keeps
    (subst (λ (n : ℕ). min end (BLKSIZE * blocks_of n) ≤ n) is.long (omega (arith, full)))
    (subst (λ (n : ℕ). blocks_of n < blocks_of end) is.long above)
    (free-there indirect (needs_indirect end) (blocks_of long) (blocks_of end) (free_blocks m.disk) above free)
    (λ many none.
    marks-one indirect (needs_indirect most) (take_calls count) (sym is.mark ∙ none)
    (needs-more (blocks_of long) (blocks_of most) (subst (λ (n : ℕ). 10 ≤ blocks_of n) (sym is.long) many) (one-more long end whole more)))) in
    let mid : Memory = with_disk m (left_by (take_indirect home ∷ []) m.disk) in
    let next : Has count way home mid (a_file bytes mark) = ran has one in
    let now = file-is changes-acts size mid.disk way home bytes mark next.holds in
    let kept = file-kept changes-acts size m.disk way home bytes bytes indirect mark (take_indirect home ∷ []) has.holds pair.first.turns in
    let still : Keeps j (read_now home end mid.disk) =
    keeps-now j home end mid.disk
    (λ back. (
      subst (λ (n : ℕ). n ≤ end) now.long (omega (arith, more)),
      subst (λ (b : Bool). Unmarked end b) (sym now.mark)
          (mark-clean indirect mark (blocks_of long + 1) (blocks_of end) (omega (arith, above)) pair.first.is (clean back)),
    )) in
    let counted : (blocks_needed mid.disk home < NDIRECT) ⊎ (has_indirect mid.disk home ≡ true) =
    subst (λ (n : ℕ). (blocks_of n < NDIRECT) ⊎ (has_indirect mid.disk home ≡ true)) now.long
    (subst (λ (b : Bool). (blocks_of long < NDIRECT) ⊎ (b ≡ true)) (sym now.mark) (mark-counted indirect mark (blocks_of long) pair.first.is)) in
    let room : Takes count home end mid =
    record {
      disk = next.holds.sound;
      full = subst (λ (n : ℕ). min end (BLKSIZE * blocks_of n) ≤ n) now.long (omega (arith, full));
      more = subst (λ (n : ℕ). blocks_of n < blocks_of end) now.long above;
      free =
          room-left indirect mark (needs_indirect end) (blocks_of long) (blocks_of end) (free_blocks m.disk) (free_blocks mid.disk) above
          (mark-grows indirect mark (blocks_of long) (blocks_of end) above pair.first.is) free kept;
    } in
    let two : Run count j home end way (take_calls count) mid (take_block home end ∷ []) (a_file (resized bytes most) mark) =
    run-one mid (take_block home end) (a_file (resized bytes most) mark) pair.second
    (comes-taken does.pieces count j home end mid (works does next) still room counted) in
    run-renamed (resized bytes most) (resized bytes most) mark (indirect || needs_indirect most)
    (run-append m (take_indirect home ∷ []) (take_block home end ∷ []) (a_file bytes mark) (a_file (resized bytes most) mark) one two)
    refl (pair.first.is ∙ ap (λ (n : ℕ). indirect || nat_lt NDIRECT n) (sym (one-more long end whole more)))
  where
    needs-more : (n k : ℕ) → 10 ≤ n → k ≡ n + 1 → nat_lt 10 k ≡ true
    needs-more n k many is = grind (arith, nat_tests)

-- so many blocks more, where all of the file's are full
takes : {count : ℕ} {j : Job} {home end : ℕ} {way : List ℕ} → Doing count j home end → (n : ℕ) (m : Memory) (bytes : List ℕ) (indirect : Bool) →
    Has count way home m (a_file bytes indirect) → length bytes ≡ min end (BLKSIZE * blocks_of (length bytes)) →
    blocks_of (length bytes) + n ≡ blocks_of end → HasFree m.disk bytes indirect end → Clean j end indirect →
    Run count j home end way (taken end (length bytes) indirect * take_calls count) m (take_blocks n home end)
    (a_file (resized bytes end) (indirect || needs_indirect end))
unfolding take_blocks
takes {count} {j} {home} {end} {way} does zero m bytes indirect has full count_is free clean =
    let is = file-is changes-acts (BLKSIZE * count) m.disk way home bytes indirect has.holds in
    let long : length bytes ≡ end = omega arith in
    run-renamed bytes (resized bytes end) indirect (indirect || needs_indirect end)
    (run-none (taken end (length bytes) indirect * take_calls count) m (a_file bytes indirect) has)
    (sym (resized-same bytes end long))
    (sym (or-needed indirect end (λ more. is.needed (subst (λ (k : ℕ). NDIRECT < blocks_of k) (sym long) more))))
takes {count} {j} {home} {end} {way} does (suc n) m bytes indirect has full count_is free clean =
    let size : ℕ = BLKSIZE * count in
    let long : ℕ = length bytes in
    let most : ℕ = min end (long + BLKSIZE) in
    let whole : long % BLKSIZE ≡ 0 = omega arith in
    let more : long < end = omega arith in
    let now : List ℕ = resized bytes most in
    let mark : Bool = indirect || needs_indirect most in
    let one = takes-one does m bytes indirect has full whole more free clean in
    let pair : List Change = take_indirect home ∷ take_block home end ∷ [] in
    let grown : length now ≡ most = length-resized bytes most in
    let after : blocks_of most ≡ blocks_of long + 1 = one-more long end whole more in
    let kept = file-kept changes-acts size m.disk way home bytes now indirect mark pair has.holds one.turns in
    let same : (mark || needs_indirect end) ≡ (indirect || needs_indirect end) = or-later indirect most end (omega arith) in
    let fits : HasFree (left_by pair m.disk) now mark end =
    subst (λ (b : Bool). blocks_taken end b ≤ blocks_taken (length now) mark + free_blocks (left_by pair m.disk)) (sym same)
    (still-free (blocks_taken (length now) mark) (blocks_taken (length now) mark) (blocks_taken end (indirect || needs_indirect end))
    (blocks_taken long indirect) (free_blocks (left_by pair m.disk)) (free_blocks m.disk) free kept refl) in
    let rest =
    takes does n (with_disk m (left_by pair m.disk)) now mark (ran has one) (full_again long end most (length now) grown whole more)
    (count_again long end most (length now) n grown after count_is) fits
    (λ back. mark-clean indirect mark (blocks_of most) (blocks_of end) (omega (arith, after, count_is)) refl (clean back)) in
    let marks = mark-more indirect (needs_indirect most) (needs_indirect end) in
    run-most (taken end long indirect * take_calls count)
    (adds-up (marked mark - marked indirect) (taken end (length now) mark) (taken end long indirect) (take_calls count)
    (steps_up (marked indirect) (marked mark) (marked (mark || needs_indirect end)) (marked (indirect || needs_indirect end)) (blocks_of long)
    (blocks_of (length now)) (blocks_of end) marks.0 marks.1 (ap (λ (b : Bool). marked b) same) (ap (λ (k : ℕ). blocks_of k) grown ∙ after)
    (omega (arith, count_is))))
    (run-renamed (resized now end) (resized bytes end) (mark || needs_indirect end) (indirect || needs_indirect end)
    (run-append m pair (take_blocks n home end) (a_file now mark) (a_file (resized now end) (mark || needs_indirect end)) one rest)
    (resized-twice bytes most end (omega arith) (omega arith)) same)
  where
    steps_up : (x y z all l now e : ℕ) → x ≤ y → y ≤ z → z ≡ all → now ≡ l + 1 → l + 1 ≤ e → y - x + 1 + (e + z - (now + y)) ≤ e + all - (l + x)
    steps_up x y z all l now e a b c d f = omega (arith, a, b, c, d, f)

    full_again : (long end most now : ℕ) → now ≡ min end (long + 4096) → long % 4096 ≡ 0 → long < end →
        now ≡ min end (4096 * blocks_of now)
    full_again long end most now grown whole more = omega arith

    count_again : (long end most now n : ℕ) → now ≡ most → blocks_of most ≡ blocks_of long + 1 → blocks_of long + suc n ≡ blocks_of end →
        blocks_of now + n ≡ blocks_of end
    count_again long end most now n grown after count = ap (λ (k : ℕ). blocks_of k + n) grown ∙ ap (λ (k : ℕ). k + n) after ∙ (omega arith ∙ count)

-- ---- another size

bit-few : (b : Bool) → bit_of b ≤ 1
bit-few true = omega arith
bit-few false = omega arith

-- there are no more free blocks than blocks
free-few : (byte : ℕ → ℕ) → free_blocks byte ≤ block_count byte
unfolding free_blocks
free-few byte =
    let all = total-le (block_count byte) 1 (λ block. bit_of (is_marked_free byte block)) (λ block. bit-few (is_marked_free byte block)) in
    omega (arith, all)

-- what fits is no more than all blocks, nor than those of the longest file
taken-few : (count end long : ℕ) (mark : Bool) (free blocks : ℕ) → end ≤ MAXFILESIZE →
    blocks_of end + marked mark ≤ long + free → free ≤ blocks → blocks ≡ count →
    (blocks_of end + marked mark - long ≤ count) × (blocks_of end + marked mark - long ≤ 1035)
taken-few count end long true free blocks short fits few is = (omega (arith, fits, few, is), omega (arith, short))
taken-few count end long false free blocks short fits few is = (omega (arith, fits, few, is), omega (arith, short))

-- for each block that is taken the bitmap is read once
each-few : (t words count : ℕ) → t ≤ count → t ≤ 1035 → 32 * words ≤ count + 31 → t * (6 * words + 6 * 1024 + 60) ≤ 6410 * count
each-few t words count all few read =
    let q : ℕ = 6 * words in
    let up : t * (q * 32) ≤ t * (6 * count + 186) = mul-le-mul_left t (omega (arith, read)) in
    let turned : t * q * 32 ≡ t * (q * 32) = mul_assoc t q 32 in
    let apart : t * (6 * count + 186) ≡ t * (6 * count) + t * 186 = mul-add t (6 * count) 186 in
    let most : t * (6 * count) ≤ 1035 * (6 * count) = mul-le-mul_right (6 * count) few in
    let whole : t * (q + (6 * 1024 + 60)) ≡ t * q + t * (6 * 1024 + 60) = mul-add t q (6 * 1024 + 60) in
    let same : q + 6 * 1024 + 60 ≡ q + (6 * 1024 + 60) = omega arith in
    let put : t * (q + 6 * 1024 + 60) ≡ t * (q + (6 * 1024 + 60)) = ap (λ (n : ℕ). t * n) same in
    finish (t * q) (t * (6 * count)) t count (t * (6 * words + 6 * 1024 + 60))
    (subst (λ (n : ℕ). n ≤ t * (6 * count + 186)) (sym turned) up) apart most all (put ∙ whole)
  where
    finish : (p c t count all : ℕ) → p * 32 ≤ t * (6 * count + 186) → t * (6 * count + 186) ≡ c + t * 186 → c ≤ 1035 * (6 * count) → t ≤ count →
        all ≡ p + t * (6 * 1024 + 60) → all ≤ 6410 * count
    finish p c t count all a b d e f =
        let sum : p * 32 ≤ c + t * 186 = subst (λ (n : ℕ). p * 32 ≤ n) b a in
        omega (arith, sum, d, e, f)

-- what the growth of a file weighs at most: the end of its last block is filled, and blocks are taken
abbrev pub growth_calls : ℕ → ℕ
growth_calls count = 6410 * count + (6 * PGSIZE + 36)

-- zeros up to the end, or up to that of the last block, and then the blocks that are missing
fills-and-takes : {count : ℕ} {j : Job} {home end : ℕ} {way : List ℕ} → Doing count j home end → (all : ℕ) →
    (m : Memory) (bytes : List ℕ) (indirect : Bool) (n : ℕ) →
    Has count way home m (a_file bytes indirect) → HasFree m.disk bytes indirect end → Clean j end indirect →
    length bytes ≤ min end (BLKSIZE * n) → blocks_of (min end (BLKSIZE * n)) ≡ blocks_of (length bytes) →
    blocks_of (length bytes) + (blocks_of end - n) ≡ blocks_of end →
    min end (BLKSIZE * n) ≡ min end (BLKSIZE * blocks_of (length bytes)) → (length bytes < end → growth_calls count ≤ all) →
    Run count j home end way all m (fill home (min end (BLKSIZE * n)) ∷ take_blocks (blocks_of end - n) home end)
    (a_file (resized bytes end) (indirect || needs_indirect end))
fills-and-takes {count} {j} {home} {end} {way} does all m bytes indirect n has free clean more same enough full weighs =
    let size : ℕ = BLKSIZE * count in
    let most : ℕ = min end (BLKSIZE * n) in
    let filled : List ℕ = resized bytes most in
    let is = file-is changes-acts size m.disk way home bytes indirect has.holds in
    let fills : ℕ = (6 * PGSIZE + 36) * min 1 (end - length bytes) in
    let one : Run count j home end way fills m (fill home most ∷ []) (a_file filled indirect) =
    run-one m (fill home most) (a_file filled indirect)
    (turns-one size m.disk way home (a_file bytes indirect) (a_file filled indirect) (fill home most) has.holds
    (changes-acts.fills size m.disk way home bytes indirect has.holds most more same))
    (filling is.long is.mark (cases_lt (size_of m.disk home) most)) in
    let grown : length filled ≡ most = length-resized bytes most in
    let blocks : blocks_of (length filled) ≡ blocks_of (length bytes) = ap (λ (k : ℕ). blocks_of k) grown ∙ same in
    let kept = file-kept changes-acts size m.disk way home bytes filled indirect indirect (fill home most ∷ []) has.holds one.turns in
    let mid : Memory = with_disk m (left_by (fill home most ∷ []) m.disk) in
    let next : Has count way home mid (a_file filled indirect) = ran has one in
    let fits : HasFree mid.disk filled indirect end =
    still-free (blocks_taken (length filled) indirect) (blocks_taken (length filled) indirect)
    (blocks_taken end (indirect || needs_indirect end)) (blocks_taken (length bytes) indirect)
    (free_blocks mid.disk) (free_blocks m.disk) free kept refl in
    let rest =
    takes does (blocks_of end - n) mid filled indirect next
    (grown ∙ full ∙ ap (λ (k : ℕ). min end (BLKSIZE * k)) (sym blocks))
    (ap (λ (k : ℕ). k + (blocks_of end - n)) blocks ∙ enough) fits clean in
    let few =
    taken-few count end (blocks_taken (length filled) indirect) (indirect || needs_indirect end) (free_blocks mid.disk) (block_count mid.disk)
    does.short fits (free-few mid.disk) next.count_is in
    run-most all
    (within is.needed (length filled) blocks (each-few (taken end (length filled) indirect) (bitmap_words count) count few.0 few.1 (omega arith))
    (cases_lt (length bytes) end))
    (run-renamed (resized filled end) (resized bytes end) (indirect || needs_indirect end) (indirect || needs_indirect end)
    (run-append m (fill home most ∷ []) (take_blocks (blocks_of end - n) home end) (a_file filled indirect)
    (a_file (resized filled end) (indirect || needs_indirect end)) one rest)
    (resized-twice bytes most end more (omega arith)) refl)
  where
    fill_weighs : (long size end most : ℕ) → long ≡ size → size < min end most → 24612 ≤ 24612 * min 1 (end - long)
    fill_weighs long size end most e less = omega (arith, e, less)

    none-taken : (long filled b : ℕ) (whole : ℕ) → blocks_of filled ≡ blocks_of long → long ≡ end → whole ≡ b →
        blocks_of end + whole - (blocks_of filled + b) ≡ 0
    none-taken long filled b whole e f g =
        let same_end : blocks_of long ≡ blocks_of end = ap (λ (k : ℕ). blocks_of k) f in omega (arith, e, same_end, g)

    grown-within : (f t all : ℕ) → f ≤ 24612 * min 1 (end - length bytes) → t ≤ 6410 * count → 6410 * count + 24612 ≤ all → f + t ≤ all
    grown-within f t all a b c = omega (arith, a, b, c)

    within : (NDIRECT < blocks_of (length bytes) → indirect ≡ true) → (now : ℕ) → blocks_of now ≡ blocks_of (length bytes) →
        taken end now indirect * take_calls count ≤ 6410 * count → (length bytes < end) ⊎ (end ≤ length bytes) →
        (6 * PGSIZE + 36) * min 1 (end - length bytes) + taken end now indirect * take_calls count ≤ all
    within needed now blocks few (inl less) =
        grown-within ((6 * PGSIZE + 36) * min 1 (end - length bytes)) (taken end now indirect * take_calls count) all (omega arith) few (weighs less)
    within needed now blocks few (inr past) =
        let long : length bytes ≡ end = omega (arith, past, more) in
        let still : (indirect || needs_indirect end) ≡ indirect =
        or-needed indirect end (λ high. needed (subst (λ (k : ℕ). NDIRECT < blocks_of k) (sym long) high)) in
        let none : taken end now indirect ≡ 0 =
        none-taken (length bytes) now (marked indirect) (marked (indirect || needs_indirect end)) blocks long (ap (λ (b : Bool). marked b) still) in
        let nothing_taken : taken end now indirect * take_calls count ≡ 0 = ap (λ (k : ℕ). k * take_calls count) none ∙ zero-mul (take_calls count) in
        let full_up : end - length bytes ≡ 0 = omega (arith, long) in
        omega (arith, nothing_taken, full_up)

    filling : length bytes ≡ size_of m.disk home → has_indirect m.disk home ≡ indirect →
        (size_of m.disk home < min end (BLKSIZE * n)) ⊎ (min end (BLKSIZE * n) ≤ size_of m.disk home) →
        Comes count j home end ((6 * PGSIZE + 36) * min 1 (end - length bytes)) m
        (with_disk m (written (fill home (min end (BLKSIZE * n)) m.disk) m.disk))
    filling long mark (inl less) =
        comes-most count j home end (6 * PGSIZE + 36) ((6 * PGSIZE + 36) * min 1 (end - length bytes)) m
        (with_disk m (written (fill home (min end (BLKSIZE * n)) m.disk) m.disk))
        (fill_weighs (length bytes) (size_of m.disk home) end (BLKSIZE * n) long less)
        (comes-filled does.pieces count j home end m (works does has)
        (keeps-now j home end m.disk
        (λ back. (subst (λ (k : ℕ). k ≤ end) long (omega (arith, more)), subst (λ (b : Bool). Unmarked end b) (sym mark) (clean back))))
        (min end (BLKSIZE * n)) (subst (λ (k : ℕ). min end (BLKSIZE * n) ≡ min end (BLKSIZE * blocks_of k)) long full) less)
    filling long mark (inr none) =
        comes-idle count j home end ((6 * PGSIZE + 36) * min 1 (end - length bytes)) m (fill home (min end (BLKSIZE * n)))
        (unfilled m.disk home (min end (BLKSIZE * n)) none)

-- growth of a file
pub grows : {count : ℕ} {j : Job} {home end : ℕ} {way : List ℕ} → Doing count j home end → (m : Memory) (bytes : List ℕ) (indirect : Bool) →
    Has count way home m (a_file bytes indirect) → HasFree m.disk bytes indirect end → gives_back j ≡ false → length bytes ≤ end →
    Run count j home end way (growth_calls count) m (growth m.disk home end) (a_file (resized bytes end) (indirect || needs_indirect end))
unfolding growth
grows {count} {j} {home} {end} {way} does m bytes indirect has free back more =
    let is = file-is changes-acts (BLKSIZE * count) m.disk way home bytes indirect has.holds in
    let own : blocks_of (length bytes) ≡ blocks_needed m.disk home = ap (λ (k : ℕ). blocks_of k) is.long in
    subst (λ (n : ℕ). Run count j home end way (growth_calls count) m (fill home (min end (BLKSIZE * n)) ∷ take_blocks (blocks_of end - n) home end)
    (a_file (resized bytes end) (indirect || needs_indirect end))) own
    (fills-and-takes does (growth_calls count) m bytes indirect (blocks_of (length bytes)) has free (λ so. never back so) (omega arith)
    (same_blocks (length bytes) end more) (missing_blocks (length bytes) end more) refl (λ less. omega arith))
  where
    never : {A : Type 0} → gives_back j ≡ false → gives_back j ≡ true → A
    never e f = let both : false ≡ true = sym e ∙ f in absurd (cc both)

    same_blocks : (n end : ℕ) → n ≤ end → blocks_of (min end (4096 * blocks_of n)) ≡ blocks_of n
    same_blocks n end more = omega arith

    missing_blocks : (n end : ℕ) → n ≤ end → blocks_of n + (blocks_of end - blocks_of n) ≡ blocks_of end
    missing_blocks n end more = omega arith

not-cut : (byte : ℕ → ℕ) (place end : ℕ) → size_of byte place ≤ end → cut place end byte ≡ []
unfolding cut
not-cut byte place end le =
    let not_above : nat_lt end (size_of byte place) ≡ false = none-above (size_of byte place) end le in rw not_above refl
  where
    none-above : (size most : ℕ) → size ≤ most → nat_lt most size ≡ false
    none-above size most le_ = grind (arith, nat_tests)

no-indirect : (byte : ℕ → ℕ) (place : ℕ) → has_indirect byte place ≡ false → give_indirect place byte ≡ []
unfolding give_indirect
no-indirect byte place e = rw e refl

-- the size is cut off, or is not above the end
cuts : {count : ℕ} {j : Job} {home end : ℕ} {way : List ℕ} → Doing count j home end → gives_back j ≡ true →
    (m : Memory) (bytes : List ℕ) (indirect : Bool) →
    Has count way home m (a_file bytes indirect) → blocks_of (length bytes) ≤ blocks_of end → Unmarked end indirect →
    (end < length bytes → blocks_of end ≡ blocks_of (length bytes)) →
    Run count j home end way 18 m (cut home end ∷ []) (a_file (take end bytes) indirect)
cuts {count} {j} {home} {end} {way} does back m bytes indirect has few unmarked same =
    let size : ℕ = BLKSIZE * count in
    let is = file-is changes-acts size m.disk way home bytes indirect has.holds in
    run-one m (cut home end) (a_file (take end bytes) indirect) (cuts-off changes-acts size m.disk way home bytes indirect end has.holds same)
    (by is.long is.mark (cases_lt end (size_of m.disk home)))
  where
    by : length bytes ≡ size_of m.disk home → has_indirect m.disk home ≡ indirect → (end < size_of m.disk home) ⊎ (size_of m.disk home ≤ end) →
        Comes count j home end 18 m (with_disk m (written (cut home end m.disk) m.disk))
    by long mark (inl less) =
        comes-cut does.pieces count j home end m (works does has) back (subst (λ (n : ℕ). blocks_of n ≤ blocks_of end) long few)
        (subst (λ (b : Bool). Unmarked end b) (sym mark) unmarked) less
    by long mark (inr all) = comes-idle count j home end 18 m (cut home end) (not-cut m.disk home end all)

-- the indirect block is given back where it isn't needed
unmarks-run : {count : ℕ} {j : Job} {home end : ℕ} {way : List ℕ} → Doing count j home end → gives_back j ≡ true → (m : Memory) (bytes : List ℕ)
    (indirect : Bool) → Has count way home m (a_file bytes indirect) → blocks_of (length bytes) ≤ blocks_of end → (needs : Bool) →
    needs_indirect end ≡ needs →
    Run count j home end way 30 m (if needs then [] else give_indirect home ∷ []) (a_file bytes (indirect && needs))
unmarks-run {count} {j} {home} {end} {way} does back m bytes indirect has few true is =
    run-renamed bytes bytes indirect (indirect && true) (run-none 30 m (a_file bytes indirect) has) refl (and-all indirect)
  where
    and-all : (b : Bool) → b ≡ (b && true)
    and-all true = refl
    and-all false = refl
unmarks-run {count} {j} {home} {end} {way} does back m bytes indirect has few false is =
    let size : ℕ = BLKSIZE * count in
    let file = file-is changes-acts size m.disk way home bytes indirect has.holds in
    run-one m (give_indirect home) (a_file bytes (indirect && false))
    (unmarks changes-acts size m.disk way home bytes indirect false has.holds (λ e. most (length bytes) end few (not-needed end is)))
    (by (has_indirect m.disk home) refl (subst (λ (n : ℕ). blocks_of n ≤ blocks_of end) file.long few))
  where
    most : (n end : ℕ) → blocks_of n ≤ blocks_of end → blocks_of end ≤ 10 → blocks_of n ≤ 10
    most n end a b = omega arith

    by : (b : Bool) → has_indirect m.disk home ≡ b → blocks_needed m.disk home ≤ blocks_of end →
        Comes count j home end 30 m (with_disk m (written (give_indirect home m.disk) m.disk))
    by true e own = comes-unmarked does.pieces count j home end m (works does has) back own is e
    by false e own = comes-idle count j home end 30 m (give_indirect home) (no-indirect m.disk home e)

-- the bytes of the blocks that are left of so many bytes, when the blocks behind an end are given back
abbrev left_size : ℕ → ℕ → ℕ
left_size long end = 4096 * (blocks_of long - (blocks_of long - blocks_of end))

-- and how many of the bytes are left
abbrev left_bytes : ℕ → ℕ → ℕ
left_bytes long end = min (4096 * (blocks_of long - (blocks_of long - blocks_of end))) long

left-few : (long end : ℕ) → blocks_of (left_bytes long end) ≤ blocks_of end
left-few long end = omega arith

left-cut : (long end : ℕ) → end < left_bytes long end → blocks_of end ≡ blocks_of (left_bytes long end)
left-cut long end less = omega arith

left-below : (long end : ℕ) → min end (left_bytes long end) ≤ min end (4096 * blocks_of long)
left-below long end = omega arith

left-same : (long end : ℕ) → blocks_of (min end (4096 * blocks_of long)) ≡ blocks_of (min end (left_bytes long end))
left-same long end = omega arith

left-missing : (long end : ℕ) → blocks_of (min end (left_bytes long end)) + (blocks_of end - blocks_of long) ≡ blocks_of end
left-missing long end = omega arith

left-full : (long end : ℕ) → min end (4096 * blocks_of long) ≡ min end (4096 * blocks_of (min end (left_bytes long end)))
left-full long end = omega arith

left-end : (long end : ℕ) → (end ≤ left_size long end) ⊎ (long ≤ left_size long end)
left-end long end = by (cases_lt (blocks_of end) (blocks_of long))
  where
    by : (blocks_of end < blocks_of long) ⊎ (blocks_of long ≤ blocks_of end) → (end ≤ left_size long end) ⊎ (long ≤ left_size long end)
    by (inl less) = inl (omega arith)
    by (inr more) = inr (omega arith)

left-less : (long end : ℕ) → min end (left_bytes long end) < end → long < end
left-less long end less = omega arith

-- what is cut off from what is left
take-left : (bytes : List ℕ) (end most : ℕ) → (end ≤ most) ⊎ (length bytes ≤ most) → take end (take most bytes) ≡ take end bytes
take-left bytes end most (inl within) = take-take end most bytes within
take-left bytes end most (inr whole) = ap (take end) (take_all most bytes whole)

clean-both : (indirect needs : Bool) → (not needs && (indirect && needs)) ≡ false
clean-both true true = refl
clean-both true false = refl
clean-both false true = refl
clean-both false false = refl

-- another size for a file
pub resizes : {count : ℕ} {j : Job} {home end : ℕ} {way : List ℕ} → Doing count j home end → gives_back j ≡ true → (all : ℕ) (m : Memory)
    (bytes : List ℕ) (indirect : Bool) → Has count way home m (a_file bytes indirect) →
    blocks_taken end (needs_indirect end) ≤ blocks_taken (length bytes) indirect + free_blocks m.disk →
    (length bytes < end → growth_calls count ≤ all) →
    Run count j home end way (48 * (blocks_of (length bytes) - blocks_of end) + 48 + all) m (resizing m.disk home end)
    (a_file (resized bytes end) (needs_indirect end))
unfolding resizing growth
resizes {count} {j} {home} {end} {way} does back all m bytes indirect has free weighs =
    let is = file-is changes-acts (BLKSIZE * count) m.disk way home bytes indirect has.holds in
    let own : blocks_of (length bytes) ≡ blocks_needed m.disk home = ap (λ (k : ℕ). blocks_of k) is.long in
    subst (λ (n : ℕ). Run count j home end way (48 * (blocks_of (length bytes) - blocks_of end) + 48 + all) m
    (replicate (n - blocks_of end) (give_block home) ++ (if needs_indirect end then [] else give_indirect home ∷ [])
    ++ cut home end ∷ fill home (min end (BLKSIZE * n)) ∷ take_blocks (blocks_of end - n) home end)
    (a_file (resized bytes end) (needs_indirect end))) own
    steps
  where
    steps : Run count j home end way (48 * (blocks_of (length bytes) - blocks_of end) + 48 + all) m
        (replicate (blocks_of (length bytes) - blocks_of end) (give_block home)
        ++ (if needs_indirect end then [] else give_indirect home ∷ [])
        ++ cut home end ∷ fill home (min end (BLKSIZE * blocks_of (length bytes))) ∷ take_blocks (blocks_of end - blocks_of (length bytes))
        home end)
        (a_file (resized bytes end) (needs_indirect end))
    steps =
        let size : ℕ = BLKSIZE * count in
        let n : ℕ = blocks_of (length bytes) in
        let k : ℕ = n - blocks_of end in
        let needs : Bool = needs_indirect end in
        let mark : Bool = indirect && needs in
        let those : List Change = replicate k (give_block home) in
        let its : List Change = if needs then [] else give_indirect home ∷ [] in
        let left : List ℕ = take (BLKSIZE * (n - k)) bytes in
        let short_of : List ℕ = take end left in
        let left_is : length left ≡ left_bytes (length bytes) end = length-take (BLKSIZE * (n - k)) bytes in
        let cut_is : length short_of ≡ min end (left_bytes (length bytes) end) = length-take end left ∙ ap (min end) left_is in
        let few : blocks_of (length left) ≤ blocks_of end =
        subst (λ (l : ℕ). blocks_of l ≤ blocks_of end) (sym left_is) (left-few (length bytes) end) in
        let one : Run count j home end way (48 * k) m those (a_file left indirect) = gives does back k m bytes indirect has refl in
        let mid : Memory = with_disk m (left_by those m.disk) in
        let two : Run count j home end way 30 mid its (a_file left mark) = unmarks-run does back mid left indirect (ran has one) few needs refl in
        let both : Run count j home end way (48 * k + 30) m (those ++ its) (a_file left mark) =
        run-append m those its (a_file left indirect) (a_file left mark) one two in
        let now : Memory = with_disk m (left_by (those ++ its) m.disk) in
        let now_has : Has count way home now (a_file left mark) = ran has both in
        let three : Run count j home end way 18 now (cut home end ∷ []) (a_file short_of mark) =
        cuts does back now left mark now_has few (clean-both indirect needs)
        (λ less.
        subst (λ (l : ℕ). blocks_of end ≡ blocks_of l) (sym left_is)
        (left-cut (length bytes) end (subst (λ (l : ℕ). end < l) left_is less))) in
        let last : Memory = with_disk m (left_by (cut home end ∷ []) now.disk) in
        let last_has : Has count way home last (a_file short_of mark) = ran now_has three in
        let kept_first = file-kept changes-acts size m.disk way home bytes left indirect mark (those ++ its) has.holds both.turns in
        let kept_then = file-kept changes-acts size now.disk way home left short_of mark mark (cut home end ∷ []) now_has.holds three.turns in
        let fits : HasFree last.disk short_of mark end =
        subst (λ (b : Bool). blocks_taken end b ≤ blocks_taken (length short_of) mark + free_blocks last.disk) (sym (needed-both indirect needs))
        (still-free (blocks_taken (length short_of) mark) (blocks_taken (length short_of) mark) (blocks_taken end needs)
        (blocks_taken (length bytes) indirect) (free_blocks last.disk) (free_blocks m.disk) free (kept_then ∙ kept_first) refl) in
        let four =
        fills-and-takes does all last short_of mark n last_has fits (λ so. clean-both indirect needs)
        (subst (λ (l : ℕ). l ≤ min end (4096 * n)) (sym cut_is) (left-below (length bytes) end))
        (left-same (length bytes) end ∙ ap (λ (l : ℕ). blocks_of l) (sym cut_is))
        (ap (λ (l : ℕ). blocks_of l + (blocks_of end - n)) cut_is ∙ left-missing (length bytes) end)
        (left-full (length bytes) end ∙ ap (λ (l : ℕ). min end (4096 * blocks_of l)) (sym cut_is))
        (λ less. weighs (left-less (length bytes) end (subst (λ (l : ℕ). l < end) cut_is less))) in
        let more : List Change = fill home (min end (BLKSIZE * n)) ∷ take_blocks (blocks_of end - n) home end in
        let behind : Run count j home end way (18 + all) now (cut home end ∷ more) (a_file (resized short_of end) (mark || needs)) =
        run-append now (cut home end ∷ []) more (a_file short_of mark) (a_file (resized short_of end) (mark || needs)) three four in
        run-most (48 * k + 48 + all) (omega arith)
        (run-renamed (resized short_of end) (resized bytes end) (mark || needs) needs
        (run-append m (those ++ its) (cut home end ∷ more) (a_file left mark) (a_file (resized short_of end) (mark || needs)) both behind)
        (ap (λ (l : List ℕ). resized l end) (take-left bytes end (BLKSIZE * (n - k)) (left-end (length bytes) end)) ∙ resized-take bytes end)
        (needed-both indirect needs))
