-- A name is looked up among the records of a directory.
use Rattle.std.proofs.Common.{◌≡◌, ◌∙◌, ◌+◌, ◌-◌, ◌*◌, ◌%◌, ◌<◌, ◌≤◌, ◌==◌, ◌&&◌, inl, inr, ℕ, zero, suc, Bool, true, false, not, List}
use Rattle.std.proofs.Common.{length, Option, Some, None}
use Rattle.std.proofs.Common.{refl, sym, ap, subst, arith}
use Rattle.std.specs.Prelude.{◌^◌, bytes_eq}
use Rattle.std.proofs.lemmas.Bool.{and_from, and_left, and_right, cases_eq, eq-eqb, eqb-true, lt-ltb, not_from_false, not_from_true}
use Rattle.fs_layout.specs.declared.numbers.TheConstants.{BLKSIZE}
use Rattle.fs_layout.specs.DiskImage.{block_number_at, indirect_of, is_data_block, is_empty_record, name_of, slot_count, slot_place}
use Rattle.fs_acts.specs.BlockActs.{slot_named}
use Rattle.fs_acts.proofs.DiskCounts.{image-counted}
use Rattle.fs_acts.proofs.Disks.{disk-blocks}
use Rattle.fs_acts.proofs.Undamaged.{some-same, way-reached}
use Rattle.fs_jobs.specs.declared.place.Job.{Job}
use Rattle.fs_jobs.specs.declared.place.Seek.{Seek}
use Rattle.fs_jobs.specs.declared.place.TheConstants.{NONE}
use Rattle.fs_jobs.specs.declared.place.TreeState.{TreeState}
use Rattle.fs_jobs.specs.declared.place.WalkPlace.{WalkPlace}
use Rattle.fs_jobs.specs.declared.place.WalkPlace.TheVariants as walk
use Rattle.fs_jobs.specs.TreeBounds.{is_block, is_bounded_job, is_bounded_seek, is_place}
use Rattle.fs_runs.specs.TreeRuns.{HasPath, IsSound, Memory}
use Rattle.fs_jobs.specs.TreeTests.{low_byte}
use Rattle.fs_walks.specs.WalkPlans.{first_empty, next_slot}
use Rattle.fs_runs.proofs.Leads.{Leads, here}
use Rattle.fs_runs.proofs.Pieces.{IsDirectoryOf, IsNameAt, IsWalking, NamesAreSought, at_walk, finding, opening, sought}
use Rattle.fs_runs.proofs.PlacesLie.{places_lie, slot-lies}
use Rattle.fs_runs.proofs.SeeksFirst.{EmptySoFar, empty-next, empty_behind, filled-next, first-empty, first-found, first-none, none-first}
use Rattle.fs_runs.proofs.SeeksSteps.{Follows, Sought, all-three, block-bounded, block-data, block_at, kind-read, next-follows}
use Rattle.fs_runs.proofs.SeeksSteps.{seek-bounded, seek_at, size-read, slot-follows, slots-low, then-follows, walk-step}
use Rattle.fs_runs.proofs.SeeksCompared.{compared}

-- ---- one record

-- whether the record at a place has the name
abbrev passes : (ℕ → ℕ) → List ℕ → ℕ → Bool
passes byte name place = not (is_empty_record byte place) && bytes_eq (name_of byte place) name

-- the records before one have other names
abbrev AreOthers : Memory → ℕ → List ℕ → ℕ → Type 0
AreOthers m directory name i = (k : ℕ) → k < i → passes m.disk name (slot_place m.disk directory k) ≡ false

one-more : (m : Memory) (directory : ℕ) (name : List ℕ) (i : ℕ) → AreOthers m directory name i →
    passes m.disk name (slot_place m.disk directory i) ≡ false → AreOthers m directory name (i + 1)
one-more m directory name i before at k below = elim (cases_eq k i) [
  | inl last ↦ ap (λ q. passes m.disk name (slot_place m.disk directory q)) last ∙ at
  | inr other ↦ before k (omega (arith, below, other))
]

-- the record at hand is the first that is empty, if none was before
first-kept : (m : Memory) (from directory i e : ℕ) → first_empty (seek_at m from directory i e) ≡ seek_at m from directory i (empty_behind e i)
first-kept m from directory i e = by_test (e == NONE) refl
  where
    by_test : (none : Bool) → (e == NONE) ≡ none → first_empty (seek_at m from directory i e) ≡ seek_at m from directory i (empty_behind e i)
    by_test true is = rw is refl
    by_test false is = rw is refl

-- An empty record is passed over.
empty-read : {count from directory : ℕ} {j : Job} {m : Memory} {path name : List ℕ} {to : TreeState} {after : Memory} →
    Sought count j m path name from directory → (i e : ℕ) → i < slot_count m.disk directory →
    is_empty_record m.disk (slot_place m.disk directory i) ≡ true →
    ((place : WalkPlace) →
    Follows count to after m (next_slot (at_walk j count place) (seek_at m from directory i (empty_behind e i)) (block_at m directory i))) →
    Leads count to after (at_walk j count (walk.NameByte (seek_at m from directory i e) (block_at m directory i) 0)) m
empty-read {count} {from} {directory} {j} {m} {path} {name} {to} {after} known i e below empty next =
    let seek : Seek = seek_at m from directory i e in
    let block : ℕ = block_at m directory i in
    let home : ℕ = slot_place m.disk directory i in
    let place : WalkPlace = walk.NameByte seek block 0 in
    let is_data = block-data known i below in
    let inside = (slot-lies count m.disk directory i is_data).inside in
    let nul : (m.disk (home + 0) == 0) ≡ true = ap (λ q. m.disk q == 0) (first home) ∙ empty in
    walk-step j place m (m.disk (home + 0)) known.few known.job
    (all-three (is_bounded_seek seek) (is_block block) (is_place 0) (seek-bounded known i e (omega (arith, below)))
    (block-bounded count block known.few is_data) (lt-ltb 0 (2 ^ 28) (omega arith)))
    (near home (4096 * count) inside) refl refl
    (then-follows m (low_byte (m.disk (home + 0)) == 0) _ _ (low (m.disk (home + 0)) nul)
    (subst (λ (s : Seek). Follows count to after m (next_slot (at_walk j count place) s block)) (sym (first-kept m from directory i e)) (next place)))
  where
    first : (home : ℕ) → home + 0 ≡ home
    first home = omega arith

    near : (home all : ℕ) → home + 256 ≤ all → home + 0 < all
    near home all inside = omega (arith, inside)

    low : (b : ℕ) → (b == 0) ≡ true → (b % 256 == 0) ≡ true
    low b is = let zero_byte : b ≡ 0 = eqb-true b 0 is in eq-eqb (b % 256) 0 (omega (arith, zero_byte))

-- ---- all records

-- the run behind the last record
sought-same : (m : Memory) (from directory i e : ℕ) → i ≡ slot_count m.disk directory → EmptySoFar m.disk directory (slot_count m.disk directory) e →
    sought m.disk directory from ≡ seek_at m from directory i e
sought-same m from directory i e last empty =
    let same = first-empty m.disk directory e empty in
    λ k. record { from = from; directory = directory; slots = slot_count m.disk directory; slot = sym last k; empty = same k }

behind-last : {count from directory : ℕ} {j : Job} {m : Memory} {path name : List ℕ} {to : TreeState} {after : Memory} →
    Sought count j m path name from directory → (i e : ℕ) → i ≡ slot_count m.disk directory → EmptySoFar m.disk directory i e →
    AreOthers m directory name i →
    (slot_named m.disk directory name ≡ None → Leads count to after (at_walk j count (walk.Missing (sought m.disk directory from) from true)) m) →
    Leads count to after (at_walk j count (walk.Missing (seek_at m from directory i e) from true)) m
behind-last {count} {from} {directory} {j} {m} {path} {name} {to} {after} known i e last empty before missing =
    subst (λ (s : Seek). Leads count to after (at_walk j count (walk.Missing s from true)) m)
    (sought-same m from directory i e last (subst (λ n. EmptySoFar m.disk directory n e) last empty))
    (missing
    (first-none m.disk directory (passes m.disk name) (subst (λ n. AreOthers m directory name n) last before)))

-- one record, and then those behind it
turn : {count from directory : ℕ} {j : Job} {m : Memory} {path name : List ℕ} {to : TreeState} {after : Memory} →
    Sought count j m path name from directory → (i e : ℕ) → i < slot_count m.disk directory → EmptySoFar m.disk directory i e →
    AreOthers m directory name i →
    ((k : ℕ) → slot_named m.disk directory name ≡ Some k →
    Leads count to after (at_walk j count (walk.Component (from + length name) (slot_place m.disk directory k))) m) →
    (slot_named m.disk directory name ≡ None → Leads count to after (at_walk j count (walk.Missing (sought m.disk directory from) from true)) m) →
    ((e : ℕ) → EmptySoFar m.disk directory (i + 1) e → AreOthers m directory name (i + 1) → i + 1 < slot_count m.disk directory →
    Leads count to after (at_walk j count (walk.NameByte (seek_at m from directory (i + 1) e) (block_at m directory (i + 1)) 0)) m) →
    Leads count to after (at_walk j count (walk.NameByte (seek_at m from directory i e) (block_at m directory i) 0)) m
turn {count} {from} {directory} {j} {m} {path} {name} {to} {after} known i e below empty before found missing ahead =
    by_empty (is_empty_record m.disk place) refl
  where
    place : ℕ
    place = slot_place m.disk directory i

    n : ℕ
    n = slot_count m.disk directory

    onward : (e : ℕ) → EmptySoFar m.disk directory (i + 1) e → passes m.disk name place ≡ false → (p : WalkPlace) →
        Follows count to after m (next_slot (at_walk j count p) (seek_at m from directory i e) (block_at m directory i))
    onward e empty other p =
        let others = one-more m directory name i before other in
        next-follows known p i e (ahead e empty others)
        (λ behind. behind-last known (i + 1) e (omega (arith, below, behind)) empty others missing)

    by_empty : (nul : Bool) → is_empty_record m.disk place ≡ nul →
        Leads count to after (at_walk j count (walk.NameByte (seek_at m from directory i e) (block_at m directory i) 0)) m
    by_empty true is =
        let slots = slots-low known in
        empty-read known i e below is
        (onward (empty_behind e i) (empty-next m.disk directory i e (omega (arith, slots, below)) is empty)
        (and_left (not (is_empty_record m.disk place)) (bytes_eq (name_of m.disk place) name) (not_from_true (is_empty_record m.disk place) is)))
    by_empty false is =
        compared known i e below is
        (λ same.
        found i
        (first-found m.disk directory (passes m.disk name) i below
        (and_from (not (is_empty_record m.disk place)) (bytes_eq (name_of m.disk place) name) (not_from_false (is_empty_record m.disk place) is) same)
        before))
        (λ other.
        onward e (filled-next m.disk directory i e is empty)
        (and_right (not (is_empty_record m.disk place)) (bytes_eq (name_of m.disk place) name) other))
        (length name) 0 (omega arith) (λ h none. absurd (omega (arith, none)))

scanned : {count from directory : ℕ} {j : Job} {m : Memory} {path name : List ℕ} {to : TreeState} {after : Memory} →
    Sought count j m path name from directory → (left i e : ℕ) → i + 1 + left ≡ slot_count m.disk directory → EmptySoFar m.disk directory i e →
    AreOthers m directory name i →
    ((k : ℕ) → slot_named m.disk directory name ≡ Some k →
    Leads count to after (at_walk j count (walk.Component (from + length name) (slot_place m.disk directory k))) m) →
    (slot_named m.disk directory name ≡ None → Leads count to after (at_walk j count (walk.Missing (sought m.disk directory from) from true)) m) →
    Leads count to after (at_walk j count (walk.NameByte (seek_at m from directory i e) (block_at m directory i) 0)) m
scanned known zero i e ends empty before found missing =
    turn known i e (omega (arith, ends)) empty before found missing (λ f kept others more. absurd (omega (arith, ends, more)))
scanned known (suc left) i e ends empty before found missing =
    turn known i e (omega (arith, ends)) empty before found missing
    (λ f kept others more. scanned known left (i + 1) f (omega (arith, ends)) kept others found missing)

-- from the directory's kind on
looked : {count from directory : ℕ} {j : Job} {m : Memory} {path name : List ℕ} {to : TreeState} {after : Memory} →
    Sought count j m path name from directory →
    ((k : ℕ) → slot_named m.disk directory name ≡ Some k →
    Leads count to after (at_walk j count (walk.Component (from + length name) (slot_place m.disk directory k))) m) →
    (slot_named m.disk directory name ≡ None → Leads count to after (at_walk j count (walk.Missing (sought m.disk directory from) from true)) m) →
    Leads count to after (at_walk j count (walk.DirectoryKind from directory)) m
looked {count} {from} {directory} {j} {m} {path} {name} known found missing =
    kind-read known
    (size-read known
    (slot-follows known (walk.DirectorySize from directory) 0 NONE
    (λ some. scanned known (n - 1) 0 NONE (omega (arith, some)) (none-first m.disk directory) none found missing)
    (λ end. behind-last known 0 NONE (omega (arith, end)) (none-first m.disk directory) none missing)))
  where
    n : ℕ
    n = slot_count m.disk directory

    none : AreOthers m directory name 0
    none k below = absurd (omega (arith, below))

-- ---- the piece

job-bounded : (j : Job) → IsWalking j → is_bounded_job j ≡ true
job-bounded _ (opening mode) = refl
job-bounded _ finding = refl

-- what a disk without a fault gives
known-of : (count : ℕ) (j : Job) (m : Memory) (path name : List ℕ) (from directory : ℕ) → IsSound count m → HasPath m.page path → IsWalking j →
    IsNameAt path from name → IsDirectoryOf m directory → Sought count j m path name from directory
known-of count j m path name from directory sound has_path walking name_at is_directory =
    let size : ℕ = BLKSIZE * count in
    let counted = image-counted size m.disk sound.disk in
    let blocks = disk-blocks size m.disk counted in
    let reached = way-reached size m.disk sound.disk is_directory.way directory is_directory.stands in
    let count_is = sound.count_is in
    let most = blocks.1 in
    record {
      few = omega (arith, count_is, most);
      small = sound.small;
      job = job-bounded j walking;
      has_path = has_path;
      name_at = name_at;
      lies = places_lie count m is_directory.way directory sound is_directory.stands;
      kind = is_directory.kind;
      whole = reached.good.readable.whole is_directory.kind;
      short = reached.good.readable.short;
      within = λ i below.
          ap (λ n. is_data_block n (block_number_at m.disk directory i)) (sym count_is) ∙ reached.good.readable.within i below;
      indirect = λ more.
          ap (λ n. is_data_block n (indirect_of m.disk directory)) (sym count_is) ∙ reached.good.indirect (reached.good.needed more);
    }

none-some : {X : Type 0} (k : ℕ) (found : Option ℕ) → found ≡ None → found ≡ Some k → X
none-some k found none some = no_more (sym none ∙ some)
  where
    no_more : {X : Type 0} → ◌≡◌ {A = Option ℕ} None (Some k) → X
    no_more e = absurd (cc)

pub names_are_sought : NamesAreSought
names_are_sought count j m path name from directory sound has_path walking name_at is_directory =
    let known = known-of count j m path name from directory sound has_path walking name_at is_directory in
    let named : Option ℕ = slot_named m.disk directory name in (
      λ i is.
          looked known
          (λ k found.
          subst
          (λ q.
          Leads count (at_walk j count (walk.Component (from + length name) (slot_place m.disk directory i))) m
          (at_walk j count (walk.Component (from + length name) (slot_place m.disk directory q))) m)
          (some-same i k (sym is ∙ found)) here)
          (λ none. none-some i named none is),
      λ is. looked known (λ k found. none-some k named is found) (λ none. here),
    )
