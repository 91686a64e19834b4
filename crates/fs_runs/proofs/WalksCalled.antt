-- Along a path each step leaves so many calls fewer as it is itself, by how many blocks the records below have that were not come to yet: a block of
-- a directory is 4,081 calls at most, 254 for each of its 16 records and 17 for what is read of another block.
use Rattle.std.proofs.Common.{◌≡◌, ◌∙◌, ◌<◌, ◌≤◌, ◌⊎◌, inl, inr, ◌+◌, ◌-◌, ◌*◌, ◌/◌, ◌%◌, ℕ, zero, suc, Bool, true, false, not}
use Rattle.std.proofs.Common.{Option, refl, sym, ap, subst, arith}
use Rattle.std.specs.Prelude.{◌==◌, ◌&&◌, ◌||◌, nat_le, nat_lt, if◌then◌else◌}
use Rattle.std.proofs.lemmas.Bool.{and_parts, eqb-true}
use Rattle.std.proofs.lemmas.Bool.Decides.{nat_tests}
use Rattle.jos_base.specs.Words.{word_at}
use Rattle.jos_base.specs.declared.numbers.TheConstants.{E_BAD_PATH}
use Rattle.fs_layout.specs.declared.numbers.TheConstants.{FS_MAGIC, MAXFILESIZE}
use Rattle.fs_layout.specs.DiskImage.{block_count, block_number_at, blocks_needed, is_data_block, is_directory_at}
use Rattle.fs_layout.specs.DiskImage.{is_good_count, kind_at, root_place, size_of, slot_place}
use Rattle.fs_layout.specs.FileActs.{is_slash}
use Rattle.fs_acts.specs.BlockLaws.{AreGood}
use Rattle.fs_acts.proofs.Named.{IsNamed}
use Rattle.fs_jobs.specs.declared.place.Changed.{Changed}
use Rattle.fs_jobs.specs.declared.place.FilePlace.{FilePlace}
use Rattle.fs_jobs.specs.declared.place.Job.{Job}
use Rattle.fs_jobs.specs.declared.place.Job.TheVariants as job
use Rattle.fs_jobs.specs.declared.place.Seek.{Seek}
use Rattle.fs_jobs.specs.declared.place.TheConstants.{NONE}
use Rattle.fs_jobs.specs.declared.place.TreePlace.TheVariants.{Changing, Walking}
use Rattle.fs_jobs.specs.declared.place.TreeState.{TreeState}
use Rattle.fs_jobs.specs.declared.place.WalkPlace.{WalkPlace}
use Rattle.fs_jobs.specs.declared.place.WalkPlace.TheVariants as walk
use Rattle.fs_jobs.specs.declared.asks.TreeNext.{TreeNext}
use Rattle.fs_jobs.specs.declared.asks.TreeNext.TheVariants.{Answer, GoOn}
use Rattle.fs_jobs.specs.TreeTests.{low_byte, refused, walk_on}
use Rattle.fs_walks.specs.WalkPlans.{at_slot, begun, creates, next_slot, opened, record_at, run_behind, size_wanted, slot_number_at, walk_ask}
use Rattle.fs_walks.specs.WalkPlans.{walk_next, wants_new}
use Rattle.fs_runs.specs.TreeRuns.{IsInside, Memory, reply_of}
use Rattle.fs_runs.specs.JobCalls.{IsWarm, bitmap_words, change_calls, is_first, walk_calls}
use Rattle.fs_runs.proofs.WalksKnown.{IsAt, IsBlock, IsFilled, Known, Scans, below-child, below-own, blocks_below, far-number, first-false, good-child}
use Rattle.fs_runs.proofs.WalksKnown.{good-none, indirect-number, low, not-le, not-zero, own-number, place-is, second-false}

-- ---- what is left at a place

-- a directory has whole blocks of records
abbrev pub IsWhole : WalkPlace → Type 0
IsWhole (walk.Slot seek) = seek.slots % 16 ≡ 0
IsWhole (walk.SlotIndirect seek indirect) = seek.slots % 16 ≡ 0
IsWhole (walk.NameByte seek block k) = seek.slots % 16 ≡ 0
IsWhole (walk.PathByte seek block k byte) = seek.slots % 16 ≡ 0
IsWhole _ = Unit {0}

-- A place of the path lies before its 1,024th byte. At the last byte that a name may have both names end: no record is passed there.
abbrev pub IsTight : Memory → WalkPlace → Type 0
IsTight m (walk.Component from home) = from < 1024
IsTight m (walk.Missing seek at within) = at < 1024
IsTight m (walk.PathByte seek block k byte) =
    (seek.from + k < 1024) × ((k < 127) ⊎ ((((low_byte (m.page (seek.from + k)) == 0) || is_slash (low_byte (m.page (seek.from + k)))) ≡ true) × ((byte == 0) ≡ true)))
IsTight m _ = Unit {0}

-- so many calls come at the record that a path leads to, or at that of the directory in which one is made
abbrev pub record_calls : ℕ → ℕ
record_calls count = 6 * bitmap_words count + 1149

-- The job is one that looks up a path; so many calls are enough at a record.
abbrev pub Finds : ℕ → Memory → Job → Type 0
Finds most m (job.Open mode) = record_calls (block_count m.disk) ≤ most
Finds most m job.Find = Unit {0}
Finds most m _ = ⊥

-- the count of the disk's blocks is the job's, once it has been read
abbrev pub IsTold : Memory → ℕ → WalkPlace → Type 0
IsTold m count (walk.Path at run) = Unit {0}
IsTold m count walk.Magic = Unit {0}
IsTold m count walk.Count = Unit {0}
IsTold m count _ = count ≡ block_count m.disk

abbrev pub IsFinding : ℕ → Memory → Job → ℕ → WalkPlace → Type 0
IsFinding most m j count p = Finds most m j × IsTold m count p

-- behind a place of the path, where a record is so many calls at most
abbrev pub rest_calls : ℕ → ℕ → ℕ
rest_calls most from = most + 1030 + 4 * (1024 - from)

-- behind the record at hand
abbrev pub scan_calls : ℕ → Memory → ℕ → Seek → ℕ
scan_calls most m depth seek =
    rest_calls most seek.from + 4081 * (blocks_below (suc depth) m.disk seek.directory - blocks_needed m.disk seek.directory)
    + 254 * (seek.slots - (seek.slot + 1)) + 17 * ((seek.slots - (seek.slot + 1)) / 16)

abbrev pub begun_calls : ℕ → Memory → ℕ
begun_calls most m = rest_calls most 0 + 5 + 4081 * block_count m.disk

-- behind a step from here
unfoldable pub calls_behind : ℕ → Memory → ℕ → WalkPlace → ℕ
calls_behind most m depth (walk.Path at run) = begun_calls most m + 18 + (1024 - at)
calls_behind most m depth walk.Magic = begun_calls most m + 12
calls_behind most m depth walk.Count = begun_calls most m + 6
calls_behind most m depth walk.RootKind = begun_calls most m
calls_behind most m depth (walk.Component from home) = rest_calls most from + 4 + 4081 * blocks_below depth m.disk home
calls_behind most m depth (walk.DirectoryKind from directory) = rest_calls most from + 3 + 4081 * blocks_below depth m.disk directory
calls_behind most m depth (walk.DirectorySize from directory) = rest_calls most from + 2 + 4081 * blocks_below depth m.disk directory
calls_behind most m depth (walk.Slot seek) = scan_calls most m depth seek + 267
calls_behind most m depth (walk.SlotIndirect seek indirect) = scan_calls most m depth seek + 261
calls_behind most m depth (walk.NameByte seek block k) = scan_calls most m depth seek + 2 * (127 - k) + 1
calls_behind most m depth (walk.PathByte seek block k byte) = scan_calls most m depth seek + 2 * (127 - k)
calls_behind most m depth (walk.Missing seek at within) = most + 1 + (1024 - at)
calls_behind most m depth (walk.FoundKind home) = most

-- ---- where a job goes, no more calls than these are left

pub data CallsIn (most : ℕ) (m : Memory) : TreeNext → ℕ → Type 0 where
  stops : {word n : ℕ} → CallsIn most m (Answer word) n
  walks : {j : Job} {count : ℕ} {place : WalkPlace} {n : ℕ} → (depth : ℕ) → IsAt m depth place → IsWhole place → IsFinding most m j count place →
      calls_behind most m depth place + walk_calls place ≤ n → CallsIn most m (GoOn (record { job = j; count = count; place = Walking place })) n
  changes : {j : Job} {count : ℕ} {c : Changed} {place : FilePlace} {n : ℕ} → change_calls count j c place ≤ n →
      CallsIn most m (GoOn (record { job = j; count = count; place = Changing c place })) n

either : {most : ℕ} {m : Memory} {b : Bool} {x y : TreeNext} {n : ℕ} → (b ≡ true → CallsIn most m x n) → (b ≡ false → CallsIn most m y n) →
    CallsIn most m (if b then x else y) n
either {b = true} one two = one refl
either {b = false} one two = two refl

weaken : {most : ℕ} {m : Memory} {t : TreeNext} {a : ℕ} (b : ℕ) → a ≤ b → CallsIn most m t a → CallsIn most m t b
weaken b le stops = stops
weaken {most} {m} {t} {a} b le (walks {place} depth at whole finds low) =
    walks depth at whole finds (both (calls_behind most m depth place + walk_calls place) a b low le)
  where
    both : (n a b : ℕ) → n ≤ a → a ≤ b → n ≤ b
    both n a b one two = omega (arith, one, two)
weaken {most} {m} {t} {a} b le (changes {j} {count} {c} {place} low) = changes (both (change_calls count j c place) a b low le)
  where
    both : (n a b : ℕ) → n ≤ a → a ≤ b → n ≤ b
    both n a b one two = omega (arith, one, two)

-- ---- tests

not-first : (slot k : ℕ) → (slot % 16 == 0) ≡ false → is_first slot k ≡ false
not-first slot k e = rw e (none (k == 0))
  where
    none : (b : Bool) → (b && false) ≡ false
    none true = refl
    none false = refl

later : (slot k : ℕ) → is_first slot (k + 1) ≡ false
later slot k = rw (more k) refl
  where
    more : (k : ℕ) → (k + 1 == 0) ≡ false
    more k = grind (arith, nat_tests)

name-calls : (slot k : ℕ) → is_first slot k ≡ false → ◌≡◌ {A = ℕ} (if is_first slot k then 6 else 1) 1
name-calls slot k e = one (is_first slot k) e
  where
    one : (b : Bool) → b ≡ false → ◌≡◌ {A = ℕ} (if b then 6 else 1) 1
    one true f = absurd (cc f)
    one false f = refl

name-most : (slot k : ℕ) → (if is_first slot k then 6 else 1) ≤ 6
name-most slot k = by (is_first slot k)
  where
    by : (b : Bool) → (if b then 6 else 1) ≤ 6
    by true = omega arith
    by false = omega arith

-- ---- in a directory

next-in : (most : ℕ) (m : Memory) (depth : ℕ) (state : TreeState) (seek : Seek) (block : ℕ) → Scans m depth seek → IsBlock m seek block →
    seek.slots % 16 ≡ 0 → IsFinding most m state.job state.count (walk.Slot seek) →
    CallsIn most m (next_slot state seek block) (scan_calls most m depth seek + 2)
unfolding IsAt calls_behind
next-in most m depth state seek block scans is whole finds =
    either {b = ((seek.slot + 1) % 16 == 0) || nat_le seek.slots (seek.slot + 1)}
    (λ test.
    either {b = nat_le seek.slots (seek.slot + 1)} (λ none. walks 0 tt tt finds (past seek.from _ (254 * (seek.slots - (seek.slot + 1))) _))
    (λ some.
    let more = not-le seek.slots (seek.slot + 1) some in
    let first = or-true ((seek.slot + 1) % 16 == 0) (nat_le seek.slots (seek.slot + 1)) test some in
    walks depth (behind more) whole finds (on rest seek.slots seek.slot (eqb-true ((seek.slot + 1) % 16) 0 first) whole more)))
    (λ test.
    let more =
    not-le seek.slots (seek.slot + 1) (second-false ((seek.slot + 1) % 16 == 0) (nat_le seek.slots (seek.slot + 1)) test) in
    let other = first-false ((seek.slot + 1) % 16 == 0) (nat_le seek.slots (seek.slot + 1)) test in
    let here = same seek.slot other in
    walks depth (behind more, is ∙ ap (block_number_at m.disk seek.directory) here, λ e. absurd (cc e)) whole finds
    (name rest seek.slots seek.slot (if is_first (seek.slot + 1) 0 then 6 else 1) (name-calls (seek.slot + 1) 0 (not-first (seek.slot + 1) 0 other)) more))
  where
    rest : ℕ
    rest = rest_calls most seek.from + 4081 * (blocks_below (suc depth) m.disk seek.directory - blocks_needed m.disk seek.directory)

    or-true : (a b : Bool) → (a || b) ≡ true → b ≡ false → a ≡ true
    or-true true b e f = refl
    or-true false b e f = absurd (let is : true ≡ false = sym e ∙ f in cc is)

    behind : seek.slot + 1 < seek.slots → Scans m depth (record seek { slot = seek.slot + 1 })
    behind more = record { good = scans.good; is = scans.is; slots = scans.slots; within = more }

    same : (slot : ℕ) → ((slot + 1) % 16 == 0) ≡ false → slot / 16 ≡ (slot + 1) / 16
    same slot e = let some = not-zero ((slot + 1) % 16) e in omega (arith, some)

    on : (p slots slot : ℕ) → (slot + 1) % 16 ≡ 0 → slots % 16 ≡ 0 → slot + 1 < slots →
        p + 254 * (slots - (slot + 1 + 1)) + 17 * ((slots - (slot + 1 + 1)) / 16) + 267 + 6
        ≤ p + 254 * (slots - (slot + 1)) + 17 * ((slots - (slot + 1)) / 16) + 2
    on p slots slot first whole more = omega (arith, first, whole, more)

    name : (p slots slot calls : ℕ) → calls ≡ 1 → slot + 1 < slots →
        p + 254 * (slots - (slot + 1 + 1)) + 17 * ((slots - (slot + 1 + 1)) / 16) + 2 * (127 - 0) + 1 + calls
        ≤ p + 254 * (slots - (slot + 1)) + 17 * ((slots - (slot + 1)) / 16) + 2
    name p slots slot calls one more = omega (arith, one, more)

    past : (from below records blocks : ℕ) →
        most + 1 + (1024 - from) + 1 ≤ most + 1030 + 4 * (1024 - from) + below + records + blocks + 2
    past from below records blocks = omega arith

emptied-in : (most : ℕ) (m : Memory) (depth : ℕ) (state : TreeState) (seek : Seek) (block : ℕ) (b : Bool) → Scans m depth seek →
    IsBlock m seek block → seek.slots % 16 ≡ 0 → IsFinding most m state.job state.count (walk.Slot seek) →
    CallsIn most m (next_slot state (if b then record seek { empty = seek.slot } else seek) block) (scan_calls most m depth seek + 2)
emptied-in most m depth state seek block true scans is whole finds =
    next-in most m depth state (record seek { empty = seek.slot }) block
    (record { good = scans.good; is = scans.is; slots = scans.slots; within = scans.within }) is whole finds
emptied-in most m depth state seek block false scans is whole finds = next-in most m depth state seek block scans is whole finds

begun-in : (most : ℕ) (m : Memory) (state : TreeState) (j : Job) → AreGood (block_count m.disk) m.disk root_place →
    blocks_below (block_count m.disk) m.disk root_place ≤ block_count m.disk → j ≡ state.job → IsFinding most m j state.count walk.RootKind →
    CallsIn most m (begun state j) (begun_calls most m)
unfolding IsAt calls_behind
begun-in most m state (job.Open mode) good few is finds =
    walks (block_count m.disk) good tt (subst (λ (j : Job). Finds most m j) is finds.0, finds.1) (omega (arith, few))
begun-in most m state job.Find good few is finds =
    walks (block_count m.disk) good tt (subst (λ (j : Job). Finds most m j) is finds.0, finds.1) (omega (arith, few))
begun-in most m state (job.Remove home) good few is finds = absurd finds.0
begun-in most m state (job.Read home at count) good few is finds = absurd finds.0
begun-in most m state (job.Write home at count) good few is finds = absurd finds.0
begun-in most m state (job.Create directory slot from) good few is finds = absurd finds.0
begun-in most m state (job.SetSize home size) good few is finds = absurd finds.0
begun-in most m state (job.Stat home) good few is finds = absurd finds.0
begun-in most m state (job.Size home) good few is finds = absurd finds.0

-- a file is cut off where it is opened, or a record is made
opened-in : (most : ℕ) (m : Memory) (state : TreeState) (j : Job) (home : ℕ) → Finds most m j → CallsIn most m (opened state j home) most
opened-in most m state (job.Open mode) home finds = either (λ cut. changes (omega (arith, finds))) (λ stays. stops)
opened-in most m state job.Find home finds = stops
opened-in most m state (job.Remove _) home finds = stops
opened-in most m state (job.Read _ at count) home finds = stops
opened-in most m state (job.Write _ at count) home finds = stops
opened-in most m state (job.Create directory slot from) home finds = stops
opened-in most m state (job.SetSize _ size) home finds = stops
opened-in most m state (job.Stat _) home finds = stops
opened-in most m state (job.Size _) home finds = stops

creates-in : (most : ℕ) (m : Memory) (j : Job) → Finds most m j → not (creates j) ≡ false → record_calls (block_count m.disk) ≤ most
creates-in most m (job.Open mode) finds makes = finds
creates-in most m job.Find finds makes = absurd (cc makes)
creates-in most m (job.Remove _) finds makes = absurd finds
creates-in most m (job.Read _ at count) finds makes = absurd finds
creates-in most m (job.Write _ at count) finds makes = absurd finds
creates-in most m (job.Create directory slot from) finds makes = absurd finds
creates-in most m (job.SetSize _ size) finds makes = absurd finds
creates-in most m (job.Stat _) finds makes = absurd finds
creates-in most m (job.Size _) finds makes = absurd finds

-- ---- each step

path-in : (most : ℕ) (m : Memory) (state : TreeState) (at run behind : ℕ) (ends far : Bool) → (far ≡ false → at + 1 < 1024) →
    IsFinding most m state.job state.count (walk.Path at run) →
    CallsIn most m (if ends then walk_on state walk.Magic else if far then refused E_BAD_PATH else walk_on state (walk.Path (at + 1) behind))
    (calls_behind most m 0 (walk.Path at run))
unfolding IsAt calls_behind
path-in most m state at run behind true far near finds = walks 0 tt tt finds (omega arith)
path-in most m state at run behind false true near finds = stops
path-in most m state at run behind false false near finds = let low = near refl in walks 0 tt tt finds (omega (arith, low))

-- a directory's size is known, and its records are looked at
scans-in : (most : ℕ) (m : Memory) (depth : ℕ) (state : TreeState) (from directory : ℕ) → AreGood depth m.disk directory →
    is_directory_at m.disk directory ≡ true → size_of m.disk directory % 4096 ≡ 0 →
    IsFinding most m state.job state.count (walk.DirectorySize from directory) →
    CallsIn most m (at_slot state (record { from = from; directory = directory; slots = size_of m.disk directory / 256; slot = 0; empty = NONE }))
    (calls_behind most m depth (walk.DirectorySize from directory))
unfolding IsAt calls_behind
scans-in most m zero state from directory good is whole finds =
    either {b = nat_le (size_of m.disk directory / 256) 0} (λ none. walks 0 tt tt finds (omega arith))
    (λ some. absurd (above (size_of m.disk directory / 256) (good-none m.disk directory good is) some))
  where
    above : (n : ℕ) → n ≡ 0 → nat_le n 0 ≡ false → ⊥
    above n e test = let more = not-le n 0 test in omega (arith, e, more)
scans-in most m (suc depth) state from directory good is whole finds =
    either {b = nat_le (size_of m.disk directory / 256) 0} (λ none. walks 0 tt tt finds (omega arith))
    (λ some.
    let more = not-le (size_of m.disk directory / 256) 0 some in
    walks depth (record { good = good; is = is; slots = refl; within = more }) (sixteen (size_of m.disk directory) whole) finds
    (all (rest_calls most from) (size_of m.disk directory) (blocks_below (suc depth) m.disk directory) whole more
    (below-own (suc depth) m.disk directory good)))
  where
    sixteen : (size : ℕ) → size % 4096 ≡ 0 → (size / 256) % 16 ≡ 0
    sixteen size whole = omega (arith, whole)

    all : (p size below : ℕ) → size % 4096 ≡ 0 → 0 < size / 256 → (size + 4095) / 4096 ≤ below →
        p + 4081 * (below - (size + 4095) / 4096) + 254 * (size / 256 - (0 + 1)) + 17 * ((size / 256 - (0 + 1)) / 16) + 267 + 6 ≤ p + 2 + 4081 * below
    all p size below whole some own = omega (arith, whole, some, own)

-- the name at hand is the path's: on behind it, in what the record names
name-in : (most : ℕ) (m : Memory) (depth : ℕ) (state : TreeState) (seek : Seek) (block k byte : ℕ) → Scans m depth seek → IsBlock m seek block →
    IsFilled m seek → ((k == 0) && (byte == 0)) ≡ false → (byte == 0) ≡ true → seek.from + k < 1024 →
    IsFinding most m state.job state.count (walk.PathByte seek block k byte) →
    CallsIn most m (walk_on state (walk.Component (seek.from + k) (record_at seek block))) (calls_behind most m depth (walk.PathByte seek block k byte))
unfolding IsAt calls_behind
name-in most m depth state seek block k byte scans is filled first none inside finds =
    let named : IsNamed m.disk seek.directory seek.slot =
    record { is = scans.is; within = subst (λ (n : ℕ). seek.slot < n) scans.slots scans.within; filled = filled } in
    let here = place-is m seek block is in
    let below = below-child depth m.disk seek.directory seek.slot scans.good named in
    walks depth (subst (λ (p : ℕ). AreGood depth m.disk p) (sym here) (good-child depth m.disk seek.directory seek.slot scans.good named)) tt finds
    (subst (λ (p : ℕ). rest_calls most (seek.from + k) + 4 + 4081 * blocks_below depth m.disk p + 1
    ≤ scan_calls most m depth seek + 2 * (127 - k)) (sym here)
    (on seek.from k (blocks_below depth m.disk (slot_place m.disk seek.directory seek.slot)) (blocks_below (suc depth) m.disk seek.directory)
    (blocks_needed m.disk seek.directory) (254 * (seek.slots - (seek.slot + 1))) (17 * ((seek.slots - (seek.slot + 1)) / 16)) below
    (some (k == 0) (byte == 0) refl first none) inside))
  where
    some : (a b : Bool) → (k == 0) ≡ a → (a && b) ≡ false → b ≡ true → 0 < k
    some true true e f g = absurd (cc f)
    some true false e f g = absurd (cc g)
    some false b e f g = not-zero k e

    on : (from k child below own records blocks : ℕ) → own + child ≤ below → 0 < k → from + k < 1024 →
        most + 1030 + 4 * (1024 - (from + k)) + 4 + 4081 * child + 1
        ≤ most + 1030 + 4 * (1024 - from) + 4081 * (below - own) + records + blocks + 2 * (127 - k)
    on from k child below own records blocks some more inside = omega (arith, some, more, inside)

-- a walk's next step, by what it reads
pub walk-calls : (most : ℕ) (m : Memory) → Known m → (state : TreeState) (count : ℕ) (p : WalkPlace) (depth : ℕ) → (found : Option ℕ) →
    IsAt m depth p → IsWhole p → IsTight m p → IsWarm found p → IsFinding most m state.job state.count p → IsInside count (walk_ask p) →
    CallsIn most m (walk_next state p (reply_of (walk_ask p) m)) (calls_behind most m depth p)
unfolding IsAt calls_behind
walk-calls most m known state count (walk.Path at run) depth found here whole tight warm finds inside =
    let word : ℕ = m.page at in
    path-in most m state at run (run_behind run (low_byte word)) (low_byte word == 0)
    (nat_le 128 (run_behind run (low_byte word)) || nat_le 1024 (at + 1))
    (λ near. not-le 1024 (at + 1) (second-false (nat_le 128 (run_behind run (low_byte word))) (nat_le 1024 (at + 1)) near)) finds
walk-calls most m known state count walk.Magic depth found here whole tight warm finds inside =
    either {b = word_at m.disk 4096 == FS_MAGIC} (λ is. walks 0 tt tt finds (omega arith)) (λ no. stops)
walk-calls most m known state count walk.Count depth found here whole tight warm finds inside =
    either {b = is_good_count (word_at m.disk 4100)} (λ is. walks 0 tt tt (finds.0, refl) (omega arith)) (λ no. stops)
walk-calls most m known state count walk.RootKind depth found here whole tight warm finds inside =
    either {b = word_at m.disk 4236 == 1} (λ is. begun-in most m state state.job known.good known.few refl finds) (λ no. stops)
walk-calls most m known state count (walk.Component from home) depth found here whole tight warm finds inside =
    let word : ℕ = m.page from in
    either {b = low_byte word == 0} (λ ends. either {b = wants_new state.job} (λ new. stops) (λ old. walks 0 tt tt finds (omega arith)))
    (λ more.
    either {b = is_slash (low_byte word)} (λ slash. walks depth here tt finds (on (4081 * blocks_below depth m.disk home)))
    (λ name. walks depth here tt finds (omega arith)))
  where
    on : (below : ℕ) → most + 1030 + 4 * (1024 - (from + 1)) + 4 + below + 1 ≤ most + 1030 + 4 * (1024 - from) + 4 + below
    on below = omega (arith, tight)
walk-calls most m known state count (walk.DirectoryKind from directory) depth found here whole tight warm finds inside =
    either {b = is_directory_at m.disk directory} (λ is. walks depth (here, is) tt finds (omega arith))
    (λ no. either {b = kind_at m.disk directory == 0} (λ file. stops) (λ none. stops))
walk-calls most m known state count (walk.DirectorySize from directory) depth found here whole tight warm finds inside =
    either {b = (size_of m.disk directory % 4096 == 0) && nat_le (size_of m.disk directory) 4235264}
    (λ good.
    scans-in most m depth state from directory here.0 here.1
    (eqb-true (size_of m.disk directory % 4096) 0
    (and_parts (size_of m.disk directory % 4096 == 0) (nat_le (size_of m.disk directory) 4235264) good).0) finds)
    (λ bad. stops)
walk-calls most m known state count (walk.Slot seek) depth found here whole tight warm finds inside =
    let word : ℕ = word_at m.disk (slot_number_at seek) in
    either {b = nat_lt (seek.slot / 16) 10}
    (λ own.
    either {b = is_data_block state.count word}
    (λ sound. walks depth (here, own-number m.disk seek.directory (seek.slot / 16) own, λ e. absurd (cc e)) whole finds
    (first (scan_calls most m depth seek) (if is_first seek.slot 0 then 6 else 1) (name-most seek.slot 0))) (λ none. stops))
    (λ far.
    either {b = is_data_block state.count word}
    (λ sound. walks depth (here, far-number m.disk seek.directory (seek.slot / 16) far, far) whole finds (omega arith)) (λ none. stops))
  where
    first : (scan calls : ℕ) → calls ≤ 6 → scan + 2 * (127 - 0) + 1 + calls ≤ scan + 267
    first scan calls few = omega (arith, few)
walk-calls most m known state count (walk.SlotIndirect seek indirect) depth found here whole tight warm finds inside =
    either {b = is_data_block state.count (word_at m.disk (4096 * indirect + 4 * (seek.slot / 16 - 10)))}
    (λ sound.
    walks depth (here.0, indirect-number m.disk seek.directory (seek.slot / 16) indirect here.1 here.2, λ e. absurd (cc e)) whole finds
    (first (scan_calls most m depth seek) (if is_first seek.slot 0 then 6 else 1) (name-most seek.slot 0)))
    (λ none. stops)
  where
    first : (scan calls : ℕ) → calls ≤ 6 → scan + 2 * (127 - 0) + 1 + calls ≤ scan + 261
    first scan calls few = omega (arith, few)
walk-calls most m known state count (walk.NameByte seek block k) depth found here whole tight warm finds inside =
    let byte : ℕ = m.disk (record_at seek block + k) in
    either {b = (k == 0) && (low_byte byte == 0)}
    (λ empty.
    weaken (scan_calls most m depth seek + 2 * (127 - k) + 1)
    (first (scan_calls most m depth seek) k (eqb-true k 0 (and_parts (k == 0) (low_byte byte == 0) empty).0))
    (emptied-in most m depth state seek block (seek.empty == NONE) here.0 here.1 whole finds))
    (λ some. walks depth (here.0, here.1, filled (k == 0) refl some, some) whole finds (omega arith))
  where
    first : (scan k : ℕ) → k ≡ 0 → scan + 2 ≤ scan + 2 * (127 - k) + 1
    first scan k none = omega (arith, none)

    filled : (b : Bool) → (k == 0) ≡ b → ((k == 0) && (low_byte (m.disk (record_at seek block + k)) == 0)) ≡ false → IsFilled m seek
    filled false e some = here.2 e
    filled true e some =
        let none : k ≡ 0 = eqb-true k 0 e in
        let small = known.small.0 (record_at seek block + k) in
        let at : record_at seek block + k ≡ slot_place m.disk seek.directory seek.slot =
        plus (record_at seek block) k none ∙ place-is m seek block here.1 in
        let byte_is : low_byte (m.disk (record_at seek block + k)) ≡ m.disk (slot_place m.disk seek.directory seek.slot) =
        low (m.disk (record_at seek block + k)) small ∙ ap m.disk at in
        ap (λ (n : ℕ). n == 0) (sym byte_is) ∙ parts (k == 0) (low_byte (m.disk (record_at seek block + k)) == 0) e some
      where
        plus : (a b : ℕ) → b ≡ 0 → a + b ≡ a
        plus a b e = omega (arith, e)

        parts : (a b : Bool) → a ≡ true → (a && b) ≡ false → b ≡ false
        parts true b e f = f
        parts false b e f = absurd (cc e)
walk-calls most m known state count (walk.PathByte seek block k byte) depth found here whole tight warm finds inside =
    let word : ℕ = m.page (seek.from + k) in
    either {b = (low_byte word == 0) || is_slash (low_byte word)}
    (λ ends.
    either {b = byte == 0}
    (λ none. name-in most m depth state seek block k byte here.0 here.1 here.2 here.3 none tight.0 finds) (λ some. other (here_byte tight some)))
    (λ more.
    either {b = low_byte word == byte}
    (λ same.
    either {b = nat_le 128 (k + 1)} (λ long. stops)
    (λ fits. walks depth (here.0, here.1, λ e. here.2) whole finds
    (on (scan_calls most m depth seek) k (if is_first seek.slot (k + 1) then 6 else 1) (name-calls seek.slot (k + 1) (later seek.slot k))
    (not-le 128 (k + 1) fits))))
    (λ differs. other (not_end tight more)))
  where
    here_byte : IsTight m (walk.PathByte seek block k byte) → (byte == 0) ≡ false → k < 127
    here_byte (_, inl small) some = small
    here_byte (_, inr ends) some = absurd (let is : true ≡ false = sym ends.1 ∙ some in cc is)

    not_end : IsTight m (walk.PathByte seek block k byte) →
        ((low_byte (m.page (seek.from + k)) == 0) || is_slash (low_byte (m.page (seek.from + k)))) ≡ false → k < 127
    not_end (_, inl small) more = small
    not_end (_, inr ends) more = absurd (let is : true ≡ false = sym ends.0 ∙ more in cc is)

    near : (scan k : ℕ) → k < 127 → scan + 2 ≤ scan + 2 * (127 - k)
    near scan k low = omega (arith, low)

    other : k < 127 → CallsIn most m (next_slot state seek block) (calls_behind most m depth (walk.PathByte seek block k byte))
    other low = weaken (scan_calls most m depth seek + 2 * (127 - k)) (near (scan_calls most m depth seek) k low) (next-in most m depth state seek block here.0 here.1 whole finds)

    on : (n k calls : ℕ) → calls ≡ 1 → k + 1 < 128 → n + 2 * (127 - (k + 1)) + 1 + calls ≤ n + 2 * (127 - k)
    on n k calls one less = omega (arith, one, less)
walk-calls most m known state count (walk.Missing seek at within) depth found here whole tight warm finds inside =
    let word : ℕ = m.page at in
    let on : most + 1 + (1024 - (at + 1)) + 1 ≤ most + 1 + (1024 - at) = omega (arith, tight) in
    either {b = low_byte word == 0}
    (λ ends.
    either {b = not (creates state.job)} (λ no. stops)
    (λ makes. either {b = nat_lt MAXFILESIZE (size_wanted seek)} (λ far. stops) (λ near.
    changes (made state.count finds.1 (creates-in most m state.job finds.0 makes)))))
    (λ more.
    either {b = is_slash (low_byte word)} (λ slash. walks 0 tt tt finds on)
    (λ name. either {b = within} (λ goes. walks 0 tt tt finds on) (λ none. stops)))
  where
    made : (words : ℕ) → words ≡ block_count m.disk → 6 * ((block_count m.disk + 31) / 32) + 1149 ≤ most →
        6 * ((words + 31) / 32) + (7 * (128 - 1) + 6 * 32 + 20 + 12) + 36 ≤ most + 1 + (1024 - at)
    made words is few = omega (arith, is, few)
walk-calls most m known state count (walk.FoundKind home) depth found here whole tight warm finds inside =
    either {b = is_directory_at m.disk home} (λ is. stops)
    (λ no. either {b = kind_at m.disk home == 0} (λ file. opened-in most m state state.job home finds.0) (λ none. stops))
