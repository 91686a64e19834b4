-- Steps of a job that looks up a name in a directory.
use Rattle.std.proofs.Common.{◌≡◌, ◌≢◌, ◌∙◌, ◌+◌, ◌-◌, ◌*◌, ◌/◌, ◌%◌, ◌<◌, ◌≤◌, ◌==◌, ◌&&◌, ◌||◌, ℕ, Bool, true, false, List}
use Rattle.std.proofs.Common.{refl, sym, ap, subst, arith, if◌then◌else◌}
use Rattle.std.specs.Prelude.{◌^◌, nat_le, nat_lt}
use Rattle.std.proofs.lemmas.Bool.{and_from, eq-eqb, eqb-false, le-leb, ltb-true, ltb-false, leb-true, leb-false, or_parts}
use Rattle.std.proofs.lemmas.Bool.Decides.{nat_tests}
use Rattle.jos_base.specs.Words.{word_at}
use Rattle.fs_layout.specs.declared.numbers.TheConstants.{BLKFILES, BLKSIZE, FTYPE_DIR, MAXFILESIZE, NDIRECT}
use Rattle.fs_layout.specs.DiskImage.{block_number_at, blocks_needed, direct_of, indirect_of, is_data_block, is_directory_at, kind_at}
use Rattle.fs_layout.specs.DiskImage.{number_in_indirect, size_of, slot_count}
use Rattle.fs_acts.proofs.TreeBlocks.{data-below}
use Rattle.fs_jobs.specs.declared.place.Job.{Job}
use Rattle.fs_jobs.specs.declared.place.Seek.{Seek}
use Rattle.fs_jobs.specs.declared.place.TheConstants.{NONE}
use Rattle.fs_jobs.specs.declared.place.TreeState.{TreeState}
use Rattle.fs_jobs.specs.declared.place.WalkPlace.{WalkPlace}
use Rattle.fs_jobs.specs.declared.place.WalkPlace.TheVariants as walk
use Rattle.fs_jobs.specs.declared.asks.TreeAsk.TheVariants as ask
use Rattle.fs_jobs.specs.declared.asks.TreeNext.{TreeNext}
use Rattle.fs_jobs.specs.declared.asks.TreeNext.TheVariants.{GoOn}
use Rattle.fs_jobs.specs.TreeBounds.{is_block, is_bounded_job, is_bounded_seek, is_bounded_walk, is_count, is_place}
use Rattle.fs_runs.specs.TreeRuns.{AreSmall, HasPath, IsInside, Memory, memory_after, reply_of}
use Rattle.fs_jobs.specs.RecordFields.{direct_at, indirect_at}
use Rattle.fs_walks.specs.WalkPlans.{at_slot, next_slot, slot_number_at, walk_ask, walk_next}
use Rattle.fs_runs.proofs.Leads.{Leads, on}
use Rattle.fs_runs.proofs.Pieces.{IsNameAt, LiesOn, at_walk}
use Rattle.fs_runs.proofs.PlacesLie.{slot-block}

-- ---- one step

-- The job goes on by what comes next, and comes to the end of a run.
pub record Follows (count : ℕ) (to : TreeState) (after m : Memory) (next : TreeNext) : Type 0 where
  pub state : TreeState
  pub is : next ≡ GoOn state
  pub run : Leads count to after state m

pub goes : {count : ℕ} {to : TreeState} {after : Memory} (state : TreeState) (m : Memory) → Leads count to after state m →
    Follows count to after m (GoOn state)
goes state m run = record { state = state; is = refl; run = run }

pub then-follows : {count : ℕ} {to : TreeState} {after : Memory} (m : Memory) (test : Bool) (first second : TreeNext) → test ≡ true →
    Follows count to after m first → Follows count to after m (if test then first else second)
then-follows m true first second is follows = follows
then-follows m false first second is follows = absurd (cc)

pub else-follows : {count : ℕ} {to : TreeState} {after : Memory} (m : Memory) (test : Bool) (first second : TreeNext) → test ≡ false →
    Follows count to after m second → Follows count to after m (if test then first else second)
else-follows m false first second is follows = follows
else-follows m true first second is follows = absurd (cc)

if-lt : (a b : ℕ) → a < b → nat_lt a b ≡ true
if-lt a b e = grind (arith, nat_tests)

pub all-three : (a b c : Bool) → a ≡ true → b ≡ true → c ≡ true → (a && b && c) ≡ true
all-three a b c e f g = rw (e, f, g) refl

all-four : (a b c d : Bool) → a ≡ true → b ≡ true → c ≡ true → d ≡ true → (a && b && c && d) ≡ true
all-four a b c d e f g h = rw (e, f, g, h) refl

pub walk-step : {count : ℕ} {to : TreeState} {after : Memory} (j : Job) (place : WalkPlace) (m : Memory) (word : ℕ) → count ≤ 16384 →
    is_bounded_job j ≡ true → is_bounded_walk place ≡ true → IsInside count (walk_ask place) → reply_of (walk_ask place) m ≡ word →
    memory_after (walk_ask place) m ≡ m → Follows count to after m (walk_next (at_walk j count place) place word) →
    Leads count to after (at_walk j count place) m
walk-step {count} {to} {after} j place m word few job bounded inside reply same follows =
    on (at_walk j count place) follows.state m
    (all-three (is_block count) (is_bounded_job j) (is_bounded_walk place) (if-lt count (2 ^ 16) (omega (arith, few))) job bounded) inside
    (ap (λ w. walk_next (at_walk j count place) place w) reply ∙ follows.is)
    (subst (λ n. Leads count to after follows.state n) (sym same) follows.run)

-- ---- a name in a directory

-- what is known all the time
pub record Sought (count : ℕ) (j : Job) (m : Memory) (path name : List ℕ) (from directory : ℕ) : Type 0 where
  pub few : count ≤ 16384
  pub small : AreSmall m
  pub job : is_bounded_job j ≡ true
  pub has_path : HasPath m.page path
  pub name_at : IsNameAt path from name
  pub lies : LiesOn count directory
  pub kind : is_directory_at m.disk directory ≡ true
  pub whole : size_of m.disk directory % BLKSIZE ≡ 0
  pub short : size_of m.disk directory ≤ MAXFILESIZE
  pub within : (i : ℕ) → i < blocks_needed m.disk directory → is_data_block count (block_number_at m.disk directory i) ≡ true
  pub indirect : NDIRECT < blocks_needed m.disk directory → is_data_block count (indirect_of m.disk directory) ≡ true

-- the record with this number is at hand
abbrev pub seek_at : Memory → ℕ → ℕ → ℕ → ℕ → Seek
seek_at m from directory i e = record { from = from; directory = directory; slots = slot_count m.disk directory; slot = i; empty = e }

-- its block
abbrev pub block_at : Memory → ℕ → ℕ → ℕ
block_at m directory i = block_number_at m.disk directory (i / BLKFILES)

few-slots : (size : ℕ) → size ≤ 4235264 → size / 256 ≤ 16544
few-slots size short = omega (arith, short)

from-low : {count from directory : ℕ} {j : Job} {m : Memory} {path name : List ℕ} → Sought count j m path name from directory → from < 4096
from-low {count} {from} {directory} {j} {m} {path} {name} known =
    let short = known.has_path.short in let within = known.name_at.within in omega (arith, short, within)

directory-low : {count from directory : ℕ} {j : Job} {m : Memory} {path name : List ℕ} → Sought count j m path name from directory →
    directory < 67108864
directory-low known = let few = known.few in let inside = known.lies.inside in omega (arith, few, inside)

pub slots-low : {count from directory : ℕ} {j : Job} {m : Memory} {path name : List ℕ} → Sought count j m path name from directory →
    slot_count m.disk directory ≤ 16544
slots-low {count} {from} {directory} {j} {m} known = few-slots (size_of m.disk directory) known.short

pub seek-bounded : {count from directory : ℕ} {j : Job} {m : Memory} {path name : List ℕ} → Sought count j m path name from directory → (i e : ℕ) →
    i ≤ slot_count m.disk directory → is_bounded_seek (seek_at m from directory i e) ≡ true
seek-bounded {count} {from} {directory} {j} {m} known i e le =
    let slots = slots-low known in
    let low = from-low known in
    let home = directory-low known in
    all-four (is_place from) (is_place directory) (is_count (slot_count m.disk directory)) (is_count i)
    (if-lt from (2 ^ 28) (omega (arith, low)))
    (if-lt directory (2 ^ 28) (omega (arith, home)))
    (if-lt (slot_count m.disk directory) (2 ^ 20) (omega (arith, slots)))
    (if-lt i (2 ^ 20) (omega (arith, slots, le)))

-- its block is a data block
pub block-data : {count from directory : ℕ} {j : Job} {m : Memory} {path name : List ℕ} → Sought count j m path name from directory → (i : ℕ) →
    i < slot_count m.disk directory → is_data_block count (block_at m directory i) ≡ true
block-data {count} {from} {directory} {j} {m} known i below =
    known.within (i / BLKFILES) (slot-block (size_of m.disk directory) i below)

pub block-bounded : (count block : ℕ) → count ≤ 16384 → is_data_block count block ≡ true → is_block block ≡ true
block-bounded count block few is = let below = data-below count block is in if-lt block (2 ^ 16) (omega (arith, few, below))

-- ---- the directory

pub kind-read : {count from directory : ℕ} {j : Job} {m : Memory} {path name : List ℕ} {to : TreeState} {after : Memory} →
    Sought count j m path name from directory → Leads count to after (at_walk j count (walk.DirectorySize from directory)) m →
    Leads count to after (at_walk j count (walk.DirectoryKind from directory)) m
kind-read {count} {from} {directory} {j} {m} known run =
    let low = from-low known in
    let home = directory-low known in
    let even = known.lies.even in
    let inside = known.lies.inside in
    walk-step j (walk.DirectoryKind from directory) m (kind_at m.disk directory) known.few known.job
    (and_from (is_place from) (is_place directory) (if-lt from (2 ^ 28) (omega (arith, low))) (if-lt directory (2 ^ 28) (omega (arith, home))))
    (omega (arith, inside), omega (arith, even)) refl refl
    (then-follows m (kind_at m.disk directory == FTYPE_DIR) _ _ known.kind (goes (at_walk j count (walk.DirectorySize from directory)) m run))

pub size-read : {count from directory : ℕ} {j : Job} {m : Memory} {path name : List ℕ} {to : TreeState} {after : Memory} →
    Sought count j m path name from directory →
    Follows count to after m (at_slot (at_walk j count (walk.DirectorySize from directory)) (seek_at m from directory 0 NONE)) →
    Leads count to after (at_walk j count (walk.DirectorySize from directory)) m
size-read {count} {from} {directory} {j} {m} known follows =
    let low = from-low known in
    let home = directory-low known in
    let even = known.lies.even in
    let inside = known.lies.inside in
    let size : ℕ = size_of m.disk directory in
    let whole = known.whole in
    let short = known.short in
    walk-step j (walk.DirectorySize from directory) m size known.few known.job
    (and_from (is_place from) (is_place directory) (if-lt from (2 ^ 28) (omega (arith, low))) (if-lt directory (2 ^ 28) (omega (arith, home))))
    (omega (arith, inside), omega (arith, even)) refl refl
    (then-follows m ((size % BLKSIZE == 0) && nat_le size MAXFILESIZE) _ _
    (and_from (size % BLKSIZE == 0) (nat_le size MAXFILESIZE) (eq-eqb (size % BLKSIZE) 0 whole) (le-leb size MAXFILESIZE short)) follows)

-- ---- the number of a record's block

direct-number : (byte : ℕ → ℕ) (place i : ℕ) → nat_lt i NDIRECT ≡ true → block_number_at byte place i ≡ direct_of byte place i
direct-number byte place i is = rw is refl

far-number : (byte : ℕ → ℕ) (place i : ℕ) → nat_lt i NDIRECT ≡ false → block_number_at byte place i ≡ number_in_indirect byte place (i - NDIRECT)
far-number byte place i is = rw is refl

own-place : (direct : Bool) (a b : ℕ) → direct ≡ true → (if direct then a else b) ≡ a
own-place direct a b is = rw is refl

far-place : (direct : Bool) (a b : ℕ) → direct ≡ false → (if direct then a else b) ≡ b
far-place direct a b is = rw is refl

direct-inside : (count home i : ℕ) → home % 4 ≡ 0 → home + 256 ≤ 4096 * count → i < 11 →
    (home + 128 + 8 + 4 * i + 4 ≤ 4096 * count) × ((home + 128 + 8 + 4 * i) % 4 ≡ 0)
direct-inside count home i even inside low = (omega (arith, inside, low), omega (arith, even))

far-inside : (count block i : ℕ) → block < count → i < 1024 → (4096 * block + 4 * i + 4 ≤ 4096 * count) × ((4096 * block + 4 * i) % 4 ≡ 0)
far-inside count block i below low =
    let next : 4096 * block + 4096 ≤ 4096 * count = omega (arith, below) in (omega (arith, next, low), omega arith)

many-blocks : (size i : ℕ) → size ≤ 4235264 → i < size / 256 → 10 ≤ i / 16 → (10 < (size + 4095) / 4096) × (i / 16 - 10 < 1024)
many-blocks size i short below far = (omega (arith, below, far), omega (arith, short, below))

number-read : {count from directory : ℕ} {j : Job} {m : Memory} {path name : List ℕ} {to : TreeState} {after : Memory} →
    Sought count j m path name from directory → (i e : ℕ) → i < slot_count m.disk directory → nat_lt (i / BLKFILES) NDIRECT ≡ true →
    Leads count to after (at_walk j count (walk.NameByte (seek_at m from directory i e) (block_at m directory i) 0)) m →
    Leads count to after (at_walk j count (walk.Slot (seek_at m from directory i e))) m
number-read {count} {from} {directory} {j} {m} known i e below is run =
    let seek : Seek = seek_at m from directory i e in
    let n : ℕ = i / BLKFILES in
    let block : ℕ = block_at m directory i in
    let place : slot_number_at seek ≡ direct_at directory n = own-place (nat_lt n NDIRECT) (direct_at directory n) (indirect_at directory) is in
    let low : n < 10 = ltb-true n 10 is in
    walk-step j (walk.Slot seek) m block known.few known.job (seek-bounded known i e (omega (arith, below)))
    (subst (λ at. IsInside count (ask.Load at)) (sym place) (direct-inside count directory n known.lies.even known.lies.inside (omega (arith, low))))
    (ap (word_at m.disk) place ∙ sym (direct-number m.disk directory n is)) refl
    (then-follows m (nat_lt n NDIRECT) _ _ is
    (then-follows m (is_data_block count block) _ _ (block-data known i below) (goes (at_walk j count (walk.NameByte seek block 0)) m run)))

number-read-behind : {count from directory : ℕ} {j : Job} {m : Memory} {path name : List ℕ} {to : TreeState} {after : Memory} →
    Sought count j m path name from directory → (i e : ℕ) → i < slot_count m.disk directory → nat_lt (i / BLKFILES) NDIRECT ≡ false →
    Leads count to after (at_walk j count (walk.NameByte (seek_at m from directory i e) (block_at m directory i) 0)) m →
    Leads count to after (at_walk j count (walk.Slot (seek_at m from directory i e))) m
number-read-behind {count} {from} {directory} {j} {m} known i e below is run =
    let seek : Seek = seek_at m from directory i e in
    let n : ℕ = i / BLKFILES in
    let block : ℕ = block_at m directory i in
    let far : ℕ = indirect_of m.disk directory in
    let place : slot_number_at seek ≡ indirect_at directory = far-place (nat_lt n NDIRECT) (direct_at directory n) (indirect_at directory) is in
    let many = many-blocks (size_of m.disk directory) i known.short below (ltb-false n 10 is) in
    let far_data : is_data_block count far ≡ true = known.indirect many.0 in
    let bounded = seek-bounded known i e (omega (arith, below)) in
    let behind =
    walk-step j (walk.SlotIndirect seek far) m block known.few known.job
    (and_from (is_bounded_seek seek) (is_block far) bounded (block-bounded count far known.few far_data))
    (far-inside count far (n - NDIRECT) (data-below count far far_data) many.1)
    (sym (far-number m.disk directory n is)) refl
    (then-follows m (is_data_block count block) _ _ (block-data known i below) (goes (at_walk j count (walk.NameByte seek block 0)) m run)) in
    walk-step j (walk.Slot seek) m far known.few known.job bounded
    (subst (λ at. IsInside count (ask.Load at)) (sym place) (direct-inside count directory 10 known.lies.even known.lies.inside (omega arith)))
    (ap (word_at m.disk) place) refl
    (else-follows m (nat_lt n NDIRECT) _ _ is
    (then-follows m (is_data_block count far) _ _ far_data (goes (at_walk j count (walk.SlotIndirect seek far)) m behind)))

-- The record at hand, if there is one: its block's number is read, direct or from the indirect block.
pub slot-follows : {count from directory : ℕ} {j : Job} {m : Memory} {path name : List ℕ} {to : TreeState} {after : Memory} →
    Sought count j m path name from directory → (place : WalkPlace) (i e : ℕ) →
    (i < slot_count m.disk directory →
    Leads count to after (at_walk j count (walk.NameByte (seek_at m from directory i e) (block_at m directory i) 0)) m) →
    (slot_count m.disk directory ≤ i → Leads count to after (at_walk j count (walk.Missing (seek_at m from directory i e) from true)) m) →
    Follows count to after m (at_slot (at_walk j count place) (seek_at m from directory i e))
slot-follows {count} {from} {directory} {j} {m} {path} {name} {to} {after} known place i e here behind = by_end (nat_le n i) refl
  where
    n : ℕ
    n = slot_count m.disk directory

    seek : Seek
    seek = seek_at m from directory i e

    by_number : i < n → (direct : Bool) → nat_lt (i / BLKFILES) NDIRECT ≡ direct → Leads count to after (at_walk j count (walk.Slot seek)) m
    by_number below true is = number-read known i e below is (here below)
    by_number below false is = number-read-behind known i e below is (here below)

    by_end : (ended : Bool) → nat_le n i ≡ ended → Follows count to after m (at_slot (at_walk j count place) seek)
    by_end true is = then-follows m (nat_le n i) _ _ is (goes (at_walk j count (walk.Missing seek from true)) m (behind (leb-true n i is)))
    by_end false is =
        else-follows m (nat_le n i) _ _ is
        (goes (at_walk j count (walk.Slot seek)) m (by_number (leb-false n i is) (nat_lt (i / BLKFILES) NDIRECT) refl))

same-block : (i : ℕ) → ((i + 1) % 16 == 0) ≡ false → i / 16 ≡ (i + 1) / 16
same-block i other = let apart : (i + 1) % 16 ≢ 0 = eqb-false ((i + 1) % 16) 0 other in omega (arith, apart)

-- The record at hand is not the one: the next is looked at, in the same block or in the next.
pub next-follows : {count from directory : ℕ} {j : Job} {m : Memory} {path name : List ℕ} {to : TreeState} {after : Memory} →
    Sought count j m path name from directory → (place : WalkPlace) (i e : ℕ) →
    (i + 1 < slot_count m.disk directory →
    Leads count to after (at_walk j count (walk.NameByte (seek_at m from directory (i + 1) e) (block_at m directory (i + 1)) 0)) m) →
    (slot_count m.disk directory ≤ i + 1 → Leads count to after (at_walk j count (walk.Missing (seek_at m from directory (i + 1) e) from true)) m) →
    Follows count to after m (next_slot (at_walk j count place) (seek_at m from directory i e) (block_at m directory i))
next-follows {count} {from} {directory} {j} {m} {path} {name} {to} {after} known place i e here behind =
    by_place (((i + 1) % BLKFILES == 0) || nat_le n (i + 1)) refl
  where
    n : ℕ
    n = slot_count m.disk directory

    seek : Seek
    seek = seek_at m from directory (i + 1) e

    inside : (((i + 1) % BLKFILES == 0) || nat_le n (i + 1)) ≡ false →
        Leads count to after (at_walk j count (walk.NameByte seek (block_at m directory i) 0)) m
    inside is =
        let parts = or_parts ((i + 1) % BLKFILES == 0) (nat_le n (i + 1)) is in
        let same : i / BLKFILES ≡ (i + 1) / BLKFILES = same-block i parts.0 in
        subst (λ k. Leads count to after (at_walk j count (walk.NameByte seek (block_number_at m.disk directory k) 0)) m) (sym same)
        (here (leb-false n (i + 1) parts.1))

    by_place : (other : Bool) → (((i + 1) % BLKFILES == 0) || nat_le n (i + 1)) ≡ other →
        Follows count to after m (next_slot (at_walk j count place) (seek_at m from directory i e) (block_at m directory i))
    by_place true is = then-follows m (((i + 1) % BLKFILES == 0) || nat_le n (i + 1)) _ _ is (slot-follows known place (i + 1) e here behind)
    by_place false is =
        else-follows m (((i + 1) % BLKFILES == 0) || nat_le n (i + 1)) _ _ is
        (goes (at_walk j count (walk.NameByte seek (block_at m directory i) 0)) m (inside is))
