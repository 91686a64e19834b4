-- Along a path that was read to its end the names at hand are alike so far; so at the 128th byte both end.
use Rattle.std.proofs.Common.{◌≡◌, ◌∙◌, ◌<◌, ◌≤◌, ◌⊎◌, inl, inr, ◌+◌, ◌/◌, ◌%◌, ℕ, Bool, true, false, not, Option}
use Rattle.std.proofs.Common.{refl, sym, ap, subst, arith}
use Rattle.std.specs.Prelude.{◌==◌, ◌&&◌, ◌||◌, nat_le, nat_lt, if◌then◌else◌}
use Rattle.std.proofs.lemmas.Bool.{eqb-true}
use Rattle.std.proofs.lemmas.Bool.Decides.{nat_tests}
use Rattle.jos_base.specs.Words.{word_at}
use Rattle.fs_layout.specs.declared.numbers.TheConstants.{FS_MAGIC, MAXFILESIZE}
use Rattle.fs_layout.specs.DiskImage.{is_data_block, is_good_count, slot_place}
use Rattle.fs_layout.specs.FileActs.{is_slash}
use Rattle.fs_jobs.specs.declared.place.Changed.{Changed}
use Rattle.fs_jobs.specs.declared.place.FilePlace.{FilePlace}
use Rattle.fs_jobs.specs.declared.place.Job.{Job}
use Rattle.fs_jobs.specs.declared.place.Job.TheVariants as job
use Rattle.fs_jobs.specs.declared.place.Seek.{Seek}
use Rattle.fs_jobs.specs.declared.place.TheConstants.{NONE}
use Rattle.fs_jobs.specs.declared.place.TreePlace.{TreePlace}
use Rattle.fs_jobs.specs.declared.place.TreePlace.TheVariants.{Changing, Walking}
use Rattle.fs_jobs.specs.declared.place.TreeState.{TreeState}
use Rattle.fs_jobs.specs.declared.place.WalkPlace.{WalkPlace}
use Rattle.fs_jobs.specs.declared.place.WalkPlace.TheVariants as walk
use Rattle.fs_jobs.specs.declared.asks.TreeNext.{TreeNext}
use Rattle.fs_jobs.specs.declared.asks.TreeNext.TheVariants.{Answer, GoOn}
use Rattle.fs_jobs.specs.TreeTests.{low_byte}
use Rattle.fs_walks.specs.WalkPlans.{at_block, at_slot, begun, creates, next_slot, opened, record_at, run_behind, size_wanted, walk_ask, walk_next, wants_new}
use Rattle.fs_runs.specs.JobCalls.{IsWarm}
use Rattle.fs_runs.specs.TreeRuns.{Memory, reply_of}
use Rattle.fs_runs.proofs.NamesShort.{IsRead, is_end, read-on, record-ends}
use Rattle.fs_runs.proofs.WalksCalled.{IsTight}
use Rattle.fs_runs.proofs.WalksKnown.{IsAt, Known, low, place-is, second-false}

-- the path was read to its end, which is no nearer than this place
pub record PathRead (m : Memory) (from : ℕ) : Type 0 where
  pub end : ℕ
  pub run : ℕ
  pub read : IsRead m.page end run
  pub ends : (low_byte (m.page end) == 0) ≡ true
  pub within : from ≤ end
  pub short : end < 1024

-- so many bytes of the name at hand are those of the path
abbrev pub IsAlike : Memory → Seek → ℕ → ℕ → Type 0
IsAlike m seek block k =
    (i : ℕ) → i < k → (is_end m.page (seek.from + i) ≡ false) × (low_byte (m.disk (record_at seek block + i)) ≡ low_byte (m.page (seek.from + i)))

abbrev pub IsKept : Memory → WalkPlace → Type 0
IsKept m (walk.Path at run) = IsRead m.page at run × (at < 1024)
IsKept m walk.Magic = PathRead m 0
IsKept m walk.Count = PathRead m 0
IsKept m walk.RootKind = PathRead m 0
IsKept m (walk.Component from home) = PathRead m from
IsKept m (walk.DirectoryKind from directory) = PathRead m from
IsKept m (walk.DirectorySize from directory) = PathRead m from
IsKept m (walk.Slot seek) = PathRead m seek.from
IsKept m (walk.SlotIndirect seek indirect) = PathRead m seek.from
IsKept m (walk.NameByte seek block k) = PathRead m seek.from × PathRead m (seek.from + k) × IsAlike m seek block k
IsKept m (walk.PathByte seek block k byte) =
    PathRead m seek.from × PathRead m (seek.from + k) × IsAlike m seek block k × (byte ≡ low_byte (m.disk (record_at seek block + k)))
IsKept m (walk.Missing seek at within) = PathRead m at
IsKept m (walk.FoundKind home) = Unit {0}

-- ---- the 128th byte

first-false : (a b : Bool) → (a || b) ≡ false → a ≡ false
first-false true b e = absurd (cc e)
first-false false b e = refl

-- at a byte that is no end the path goes on
pub goes-on : (m : Memory) (from : ℕ) → PathRead m from → (low_byte (m.page from) == 0) ≡ false → PathRead m (from + 1)
goes-on m from it none = record { end = it.end; run = it.run; read = it.read; ends = it.ends; short = it.short; within = more (nat_le (from + 1) it.end) refl }
  where
    more : (b : Bool) → nat_le (from + 1) it.end ≡ b → from + 1 ≤ it.end
    more true is = grind (arith, nat_tests, is)
    more false is =
        let within = it.within in
        let here : it.end ≡ from = grind (arith, nat_tests, is, within) in
        let clash : true ≡ false = sym (subst (λ (q : ℕ). (low_byte (m.page q) == 0) ≡ true) here it.ends) ∙ none in
        absurd (cc clash)

below-or-last : (i : ℕ) → i < 128 → (i < 127) ⊎ (i ≡ 127)
below-or-last i less = by (nat_lt i 127) refl
  where
    by : (b : Bool) → nat_lt i 127 ≡ b → (i < 127) ⊎ (i ≡ 127)
    by true is = inl (grind (arith, nat_tests, is))
    by false is = inr (grind (arith, nat_tests, is, less))

path-ends : (m : Memory) (from : ℕ) → PathRead m (from + 127) → ((i : ℕ) → i < 127 → is_end m.page (from + i) ≡ false) →
    is_end m.page (from + 127) ≡ true
path-ends m from it all = by (is_end m.page (from + 127)) refl
  where
    each : is_end m.page (from + 127) ≡ false → (i : ℕ) → (i < 127) ⊎ (i ≡ 127) → is_end m.page (from + i) ≡ false
    each last i (inl low) = all i low
    each last i (inr is) = subst (λ (k : ℕ). is_end m.page (from + k) ≡ false) (sym is) last

    one-more : (a b : ℕ) → a + 127 + 1 ≤ b → a + 128 ≤ b
    one-more a b le = omega (arith, le)

    by : (b : Bool) → is_end m.page (from + 127) ≡ b → is_end m.page (from + 127) ≡ true
    by true is = is
    by false is =
        let on = goes-on m (from + 127) it (first-false (low_byte (m.page (from + 127)) == 0) (is_slash (low_byte (m.page (from + 127)))) is) in
        absurd (on.read.short from (one-more from on.end on.within) (λ i less. each is i (below-or-last i less)))

before : (a b : ℕ) → a ≤ b → b < 1024 → a < 1024
before a b le less = omega (arith, le, less)

pub tights : (m : Memory) → Known m → (depth : ℕ) (p : WalkPlace) (found : Option ℕ) → IsAt m depth p → IsWarm found p → IsKept m p → IsTight m p
unfolding IsAt
tights m known depth (walk.Path at run) found here warm kept = tt
tights m known depth walk.Magic found here warm kept = tt
tights m known depth walk.Count found here warm kept = tt
tights m known depth walk.RootKind found here warm kept = tt
tights m known depth (walk.Component from home) found here warm kept = before from kept.end kept.within kept.short
tights m known depth (walk.DirectoryKind from directory) found here warm kept = tt
tights m known depth (walk.DirectorySize from directory) found here warm kept = tt
tights m known depth (walk.Slot seek) found here warm kept = tt
tights m known depth (walk.SlotIndirect seek indirect) found here warm kept = tt
tights m known depth (walk.NameByte seek block k) found here warm kept = tt
tights m known depth (walk.Missing seek at within) found here warm kept = before at kept.end kept.within kept.short
tights m known depth (walk.FoundKind home) found here warm kept = tt
tights m known depth (walk.PathByte seek block k byte) found here warm kept =
    (before (seek.from + k) kept.1.end kept.1.within kept.1.short, by (below-or-last k warm.0))
  where
    ends : k ≡ 127 → is_end m.page (seek.from + k) ≡ true
    ends last =
        subst (λ (n : ℕ). is_end m.page (seek.from + n) ≡ true) (sym last)
        (path-ends m seek.from (subst (λ (n : ℕ). PathRead m (seek.from + n)) last kept.1)
        (λ i less. (kept.2 i (subst (λ (n : ℕ). i < n) (sym last) less)).0))

    same : (i : ℕ) → low_byte (m.disk (record_at seek block + i)) ≡ m.disk (slot_place m.disk seek.directory seek.slot + i)
    same i = low (m.disk (record_at seek block + i)) (known.small.0 (record_at seek block + i)) ∙ ap (λ (n : ℕ). m.disk (n + i)) (place-is m seek block here.1)

    some : k ≡ 127 → (byte == 0) ≡ false → (i : ℕ) → (i < 127) ⊎ (i ≡ 127) → (m.disk (slot_place m.disk seek.directory seek.slot + i) == 0) ≡ false
    some last other i (inl less) =
        let alike = kept.2 i (subst (λ (n : ℕ). i < n) (sym last) less) in
        ap (λ (n : ℕ). n == 0) (sym (same i) ∙ alike.1)
        ∙ first-false (low_byte (m.page (seek.from + i)) == 0) (is_slash (low_byte (m.page (seek.from + i)))) alike.0
    some last other i (inr is) =
        ap (λ (n : ℕ). n == 0)
        (sym (same i) ∙ ap (λ (n : ℕ). low_byte (m.disk (record_at seek block + n))) (is ∙ sym last) ∙ sym kept.3) ∙ other

    none : k ≡ 127 → (b : Bool) → (byte == 0) ≡ b → (byte == 0) ≡ true
    none last true is = is
    none last false is = absurd (record-ends m depth seek here.0 here.2 (λ i less. some last is i (below-or-last i less)))

    by : (k < 127) ⊎ (k ≡ 127) → (k < 127) ⊎ ((is_end m.page (seek.from + k) ≡ true) × ((byte == 0) ≡ true))
    by (inl less) = inl less
    by (inr last) = inr (ends last, none last (byte == 0) refl)

-- ---- behind a step

data Keeps (m : Memory) : TreeNext → Type 0 where
  stops : {word : ℕ} → Keeps m (Answer word)
  on : {j : Job} {count : ℕ} {place : WalkPlace} → IsKept m place → Keeps m (GoOn (record { job = j; count = count; place = Walking place }))
  off : {j : Job} {count : ℕ} {c : Changed} {place : FilePlace} → Keeps m (GoOn (record { job = j; count = count; place = Changing c place }))

either : {m : Memory} {b : Bool} {x y : TreeNext} → (b ≡ true → Keeps m x) → (b ≡ false → Keeps m y) → Keeps m (if b then x else y)
either {b = true} one two = one refl
either {b = false} one two = two refl

moved : (m : Memory) (a b : ℕ) → a ≡ b → PathRead m a → PathRead m b
moved m a b e it = subst (λ (n : ℕ). PathRead m n) e it

at-first : (m : Memory) (seek : Seek) (block : ℕ) → PathRead m seek.from → PathRead m seek.from × PathRead m (seek.from + 0) × IsAlike m seek block 0
at-first m seek block it = (it, moved m seek.from (seek.from + 0) (omega arith) it, λ i less. absurd (omega (arith, less)))

slot-keeps : (m : Memory) (state : TreeState) (seek : Seek) → PathRead m seek.from → Keeps m (at_slot state seek)
slot-keeps m state seek it = either (λ none. on it) (λ some. on it)

next-keeps : (m : Memory) (state : TreeState) (seek : Seek) (block : ℕ) → PathRead m seek.from → Keeps m (next_slot state seek block)
next-keeps m state seek block it =
    either (λ test. slot-keeps m state (record seek { slot = seek.slot + 1 }) it) (λ test. on (at-first m (record seek { slot = seek.slot + 1 }) block it))

emptied-keeps : (m : Memory) (state : TreeState) (seek : Seek) (block : ℕ) (b : Bool) → PathRead m seek.from →
    Keeps m (next_slot state (if b then record seek { empty = seek.slot } else seek) block)
emptied-keeps m state seek block true it = next-keeps m state (record seek { empty = seek.slot }) block it
emptied-keeps m state seek block false it = next-keeps m state seek block it

block-keeps : (m : Memory) (state : TreeState) (seek : Seek) (block : ℕ) → PathRead m seek.from → Keeps m (at_block state seek block)
block-keeps m state seek block it = either (λ sound. on (at-first m seek block it)) (λ none. stops)

begun-keeps : (m : Memory) (state : TreeState) (j : Job) → PathRead m 0 → Keeps m (begun state j)
begun-keeps m state (job.Open mode) it = on it
begun-keeps m state job.Find it = on it
begun-keeps m state (job.Remove home) it = off
begun-keeps m state (job.Read home at count) it = off
begun-keeps m state (job.Write home at count) it = off
begun-keeps m state (job.Create directory slot from) it = off
begun-keeps m state (job.SetSize home size) it = off
begun-keeps m state (job.Stat home) it = off
begun-keeps m state (job.Size home) it = off

opened-keeps : (m : Memory) (state : TreeState) (j : Job) (home : ℕ) → Keeps m (opened state j home)
opened-keeps m state (job.Open mode) home = either (λ cut. off) (λ stays. stops)
opened-keeps m state job.Find home = stops
opened-keeps m state (job.Remove _) home = stops
opened-keeps m state (job.Read _ at count) home = stops
opened-keeps m state (job.Write _ at count) home = stops
opened-keeps m state (job.Create directory slot from) home = stops
opened-keeps m state (job.SetSize _ size) home = stops
opened-keeps m state (job.Stat _) home = stops
opened-keeps m state (job.Size _) home = stops

walk-keeps : (m : Memory) (state : TreeState) (p : WalkPlace) → IsKept m p → Keeps m (walk_next state p (reply_of (walk_ask p) m))
walk-keeps m state (walk.Path at run) kept =
    let byte : ℕ = low_byte (m.page at) in
    either {b = byte == 0} (λ ends. on (record { end = at; run = run; read = kept.0; ends = ends; short = kept.1; within = omega arith }))
    (λ more.
    either {b = nat_le 128 (run_behind run byte) || nat_le 1024 (at + 1)} (λ far. stops)
    (λ near.
    on (
      read-on m.page at run kept.0 (few (run_behind run byte) (first-false (nat_le 128 (run_behind run byte)) (nat_le 1024 (at + 1)) near)),
      further (at + 1) (second-false (nat_le 128 (run_behind run byte)) (nat_le 1024 (at + 1)) near),
    )))
  where
    few : (n : ℕ) → nat_le 128 n ≡ false → n < 128
    few n e = grind (arith, nat_tests)

    further : (n : ℕ) → nat_le 1024 n ≡ false → n < 1024
    further n e = grind (arith, nat_tests)
walk-keeps m state walk.Magic kept = either {b = word_at m.disk 4096 == FS_MAGIC} (λ is. on kept) (λ no. stops)
walk-keeps m state walk.Count kept = either {b = is_good_count (word_at m.disk 4100)} (λ is. on kept) (λ no. stops)
walk-keeps m state walk.RootKind kept = either {b = word_at m.disk 4236 == 1} (λ is. begun-keeps m state state.job kept) (λ no. stops)
walk-keeps m state (walk.Component from home) kept =
    let byte : ℕ = low_byte (m.page from) in
    either {b = byte == 0} (λ ends. either {b = wants_new state.job} (λ new. stops) (λ old. on tt))
    (λ more. either {b = is_slash byte} (λ slash. on (goes-on m from kept more)) (λ name. on kept))
walk-keeps m state (walk.DirectoryKind from directory) kept =
    let word : ℕ = word_at m.disk (directory + 128 + 4) in
    either {b = word == 1} (λ is. on kept) (λ no. either {b = word == 0} (λ file. stops) (λ none. stops))
walk-keeps m state (walk.DirectorySize from directory) kept =
    let word : ℕ = word_at m.disk (directory + 128) in
    either {b = (word % 4096 == 0) && nat_le word 4235264}
    (λ good. slot-keeps m state (record { from = from; directory = directory; slots = word / 256; slot = 0; empty = NONE }) kept) (λ bad. stops)
walk-keeps m state (walk.Slot seek) kept =
    let word : ℕ = reply_of (walk_ask (walk.Slot seek)) m in
    either {b = nat_lt (seek.slot / 16) 10} (λ own. block-keeps m state seek word kept)
    (λ far. either {b = is_data_block state.count word} (λ sound. on kept) (λ none. stops))
walk-keeps m state (walk.SlotIndirect seek indirect) kept = block-keeps m state seek (reply_of (walk_ask (walk.SlotIndirect seek indirect)) m) kept
walk-keeps m state (walk.NameByte seek block k) kept =
    let byte : ℕ = low_byte (m.disk (record_at seek block + k)) in
    either {b = (k == 0) && (byte == 0)} (λ empty. emptied-keeps m state seek block (seek.empty == NONE) kept.0)
    (λ some. on (kept.0, kept.1, kept.2, refl))
walk-keeps m state (walk.PathByte seek block k byte) kept =
    let word : ℕ = low_byte (m.page (seek.from + k)) in
    either {b = (word == 0) || is_slash word}
    (λ ends. either {b = byte == 0} (λ none. on kept.1) (λ some. next-keeps m state seek block kept.0))
    (λ more.
    either {b = word == byte}
    (λ same.
    either {b = nat_le 128 (k + 1)} (λ long. stops)
    (λ fits.
    on (
      kept.0,
      moved m (seek.from + k + 1) (seek.from + (k + 1)) (omega arith)
          (goes-on m (seek.from + k) kept.1 (first-false (word == 0) (is_slash word) more)),
      (λ i less. each (eqb-true word byte same) more i (or-last i (omega (arith, less)))),
    )))
    (λ differs. next-keeps m state seek block kept.0))
  where
    or-last : (i : ℕ) → i ≤ k → (i < k) ⊎ (i ≡ k)
    or-last i le = by (nat_lt i k) refl
      where
        by : (b : Bool) → nat_lt i k ≡ b → (i < k) ⊎ (i ≡ k)
        by true is = inl (grind (arith, nat_tests, is))
        by false is = inr (grind (arith, nat_tests, is, le))

    each : low_byte (m.page (seek.from + k)) ≡ byte → is_end m.page (seek.from + k) ≡ false → (i : ℕ) → (i < k) ⊎ (i ≡ k) →
        (is_end m.page (seek.from + i) ≡ false) × (low_byte (m.disk (record_at seek block + i)) ≡ low_byte (m.page (seek.from + i)))
    each same more i (inl less) = kept.2 i less
    each same more i (inr is) =
        subst (λ (n : ℕ). (is_end m.page (seek.from + n) ≡ false) × (low_byte (m.disk (record_at seek block + n)) ≡ low_byte (m.page (seek.from + n))))
        (sym is) (more, sym kept.3 ∙ sym same)
walk-keeps m state (walk.Missing seek at within) kept =
    let byte : ℕ = low_byte (m.page at) in
    either {b = byte == 0}
    (λ ends.
    either {b = not (creates state.job)} (λ no. stops)
    (λ makes. either {b = nat_lt MAXFILESIZE (size_wanted seek)} (λ far. stops) (λ near. off)))
    (λ more.
    either {b = is_slash byte} (λ slash. on (goes-on m at kept more))
    (λ name. either {b = within} (λ inside. on (goes-on m at kept more)) (λ none. stops)))
walk-keeps m state (walk.FoundKind home) kept =
    let word : ℕ = word_at m.disk (home + 128 + 4) in
    either {b = word == 1} (λ is. stops) (λ no. either {b = word == 0} (λ file. opened-keeps m state state.job home) (λ none. stops))

is-kept : {m : Memory} {t : TreeNext} {next : TreeState} {q : WalkPlace} → Keeps m t → t ≡ GoOn next → next.place ≡ Walking q → IsKept m q
is-kept stops e there = absurd (cc e)
is-kept {m} {t} {next} {q} (on {j} {count} {place} here) e there =
    let same : ◌≡◌ {A = TreeState} (record { job = j; count = count; place = Walking place }) next = cc e in
    let is : ◌≡◌ {A = TreePlace} (Walking place) (Walking q) = ap (λ (s : TreeState). s.place) same ∙ there in
    let it : ◌≡◌ {A = WalkPlace} place q = cc is in subst (λ (p : WalkPlace). IsKept m p) it here
is-kept {m} {t} {next} {q} (off {j} {count} {c} {place}) e there =
    let same : ◌≡◌ {A = TreeState} (record { job = j; count = count; place = Changing c place }) next = cc e in
    let is : ◌≡◌ {A = TreePlace} (Changing c place) (Walking q) = ap (λ (s : TreeState). s.place) same ∙ there in
    absurd (cc is)

-- what is known of the names stays
pub keeps : (m : Memory) (state next : TreeState) (p q : WalkPlace) → IsKept m p → walk_next state p (reply_of (walk_ask p) m) ≡ GoOn next →
    next.place ≡ Walking q → IsKept m q
keeps m state next p q kept goes there = is-kept (walk-keeps m state p kept) goes there
