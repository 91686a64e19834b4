-- A job asks for bytes of a record, or of a name, in the block that was found last: so a step is no more calls than its place tells.
use Rattle.std.proofs.Common.{◌≡◌, ◌∙◌, ◌<◌, ◌≤◌, ◌+◌, ◌*◌, ◌/◌, ◌%◌, ℕ, Bool, true, false, not, Option, Some}
use Rattle.std.proofs.Common.{refl, sym, ap, subst, arith}
use Rattle.std.specs.Prelude.{◌==◌, ◌&&◌, ◌||◌, nat_le, nat_lt, if◌then◌else◌}
use Rattle.std.proofs.lemmas.Bool.Decides.{nat_tests}
use Rattle.fs_layout.specs.declared.numbers.TheConstants.{FS_MAGIC, MAXFILESIZE}
use Rattle.fs_layout.specs.DiskImage.{is_data_block, is_good_count}
use Rattle.fs_layout.specs.FileActs.{is_slash}
use Rattle.fs_jobs.specs.declared.place.Changed.{Changed}
use Rattle.fs_jobs.specs.declared.place.FilePlace.{FilePlace}
use Rattle.fs_jobs.specs.declared.place.Job.{Job}
use Rattle.fs_jobs.specs.declared.place.Job.TheVariants as job
use Rattle.fs_jobs.specs.declared.place.Seek.{Seek}
use Rattle.fs_jobs.specs.declared.place.TheConstants.{NONE}
use Rattle.fs_jobs.specs.declared.place.TreePlace.{TreePlace}
use Rattle.fs_jobs.specs.declared.place.TreePlace.TheVariants.{Changing, Walking}
use Rattle.fs_jobs.specs.declared.place.TreeState.{TreeState}
use Rattle.fs_jobs.specs.declared.place.WalkPlace.{WalkPlace}
use Rattle.fs_jobs.specs.declared.place.WalkPlace.TheVariants as walk
use Rattle.fs_jobs.specs.declared.asks.TreeAsk.{TreeAsk}
use Rattle.fs_jobs.specs.declared.asks.TreeAsk.TheVariants as ask
use Rattle.fs_jobs.specs.declared.asks.TreeNext.{TreeNext}
use Rattle.fs_jobs.specs.declared.asks.TreeNext.TheVariants.{Answer, GoOn}
use Rattle.fs_jobs.specs.TreeTests.{low_byte}
use Rattle.fs_walks.specs.WalkPlans.{at_block, at_slot, begun, creates, next_slot, opened, record_at, run_behind, size_wanted, walk_ask, walk_next, wants_new}
use Rattle.fs_runs.specs.JobCalls.{IsNear, IsWarm, IsWarmAt, ask_calls, calls_at, calls_for, found_behind, is_first, is_same, place_calls, walk_calls}
use Rattle.fs_runs.specs.TreePlans.{ask_by}

-- ---- a step's calls

same-refl : (block : ℕ) → (block == block) ≡ true
same-refl block = grind (arith, nat_tests)

at-most : (found : Option ℕ) (block : ℕ) → calls_at found block ≤ 6
at-most found block = by (is_same found block)
  where
    by : (b : Bool) → (if b then 1 else 6) ≤ 6
    by true = omega arith
    by false = omega arith

pub calls-within : (found : Option ℕ) (it : TreeAsk) → calls_for found it ≤ ask_calls it
calls-within found (ask.Load at) = at-most found (at / 4096)
calls-within found (ask.LoadByte at) = at-most found (at / 4096)
calls-within found (ask.Store at word) = at-most found (at / 4096)
calls-within found (ask.StoreByte at byte) = at-most found (at / 4096)
calls-within found (ask.Request at) = omega arith
calls-within found (ask.HandBack at byte) = omega arith

-- one call, where the block was found last
once : (found : Option ℕ) (at block : ℕ) → found ≡ Some block → at / 4096 ≡ block → calls_at found (at / 4096) ≤ 1
once found at block is at_is =
    subst (λ (f : Option ℕ). calls_at f (at / 4096) ≤ 1) (sym is)
    (subst (λ (b : ℕ). calls_at (Some block) b ≤ 1) (sym at_is)
    (subst (λ (t : Bool). (if t then 1 else 6) ≤ 1) (sym (same-refl block)) (omega arith)))

near-block : (home k : ℕ) → home % 4096 + 256 ≤ 4096 → k < 256 → (home + k) / 4096 ≡ home / 4096
near-block home k lies less = omega (arith, lies, less)

name-block : (block slot k : ℕ) → k < 128 → (4096 * block + 256 * (slot % 16) + k) / 4096 ≡ block
name-block block slot k less = omega (arith, less)

walk-within : (found : Option ℕ) (p : WalkPlace) → IsWarm found p → calls_for found (walk_ask p) ≤ walk_calls p
walk-within found (walk.Path at run) warm = omega arith
walk-within found walk.Magic warm = calls-within found (walk_ask walk.Magic)
walk-within found walk.Count warm = calls-within found (walk_ask walk.Count)
walk-within found walk.RootKind warm = calls-within found (walk_ask walk.RootKind)
walk-within found (walk.Component from home) warm = omega arith
walk-within found (walk.DirectoryKind from home) warm =
    once found (home + 128 + 4) (home / 4096) warm.0 (ap (λ (n : ℕ). n / 4096) (plus home) ∙ near-block home 132 warm.1 (omega arith))
  where
    plus : (n : ℕ) → n + 128 + 4 ≡ n + 132
    plus n = omega arith
walk-within found (walk.DirectorySize from home) warm = once found (home + 128) (home / 4096) warm.0 (near-block home 128 warm.1 (omega arith))
walk-within found (walk.Slot seek) warm = calls-within found (walk_ask (walk.Slot seek))
walk-within found (walk.SlotIndirect seek indirect) warm = calls-within found (walk_ask (walk.SlotIndirect seek indirect))
walk-within found (walk.NameByte seek block k) warm = by (is_first seek.slot k) refl
  where
    by : (b : Bool) → is_first seek.slot k ≡ b → calls_for found (walk_ask (walk.NameByte seek block k)) ≤ (if b then 6 else 1)
    by true e = calls-within found (walk_ask (walk.NameByte seek block k))
    by false e = once found (record_at seek block + k) block (warm.1 e) (name-block block seek.slot k warm.0)
walk-within found (walk.PathByte seek block k byte) warm = omega arith
walk-within found (walk.Missing seek at within) warm = omega arith
walk-within found (walk.FoundKind home) warm =
    once found (home + 128 + 4) (home / 4096) warm.0 (ap (λ (n : ℕ). n / 4096) (plus home) ∙ near-block home 132 warm.1 (omega arith))
  where
    plus : (n : ℕ) → n + 128 + 4 ≡ n + 132
    plus n = omega arith

pub warm-within : (found : Option ℕ) (state : TreeState) (place : TreePlace) → IsWarmAt found place →
    calls_for found (ask_by state place) ≤ place_calls state place
warm-within found state (Walking place) warm = walk-within found place warm
warm-within found state (Changing changed place) warm = calls-within found (ask_by state (Changing changed place))

-- ---- where it goes on

data Warms (found : Option ℕ) : TreeNext → Type 0 where
  stops : {word : ℕ} → Warms found (Answer word)
  on : {j : Job} {count : ℕ} {place : WalkPlace} → IsWarm found place →
      Warms found (GoOn (record { job = j; count = count; place = Walking place }))
  off : {j : Job} {count : ℕ} {c : Changed} {place : FilePlace} →
      Warms found (GoOn (record { job = j; count = count; place = Changing c place }))

either : {found : Option ℕ} {b : Bool} {x y : TreeNext} → (b ≡ true → Warms found x) → (b ≡ false → Warms found y) →
    Warms found (if b then x else y)
either {b = true} one two = one refl
either {b = false} one two = two refl

not-le : (a b : ℕ) → nat_le a b ≡ false → b < a
not-le a b e = grind (arith, nat_tests)

or-true : (a b : Bool) → (a || b) ≡ true → b ≡ false → a ≡ true
or-true true b e f = refl
or-true false b e f = absurd (let is : true ≡ false = sym e ∙ f in cc is)

slot-warms : (found : Option ℕ) (state : TreeState) (seek : Seek) → (nat_le seek.slots seek.slot ≡ false → (seek.slot % 16 == 0) ≡ true) →
    Warms found (at_slot state seek)
slot-warms found state seek first = either (λ none. on tt) (λ some. on (first some))

next-warms : (found : Option ℕ) (state : TreeState) (seek : Seek) (block : ℕ) → found ≡ Some block → Warms found (next_slot state seek block)
next-warms found state seek block is =
    either
    (λ test.
    slot-warms found state (record seek { slot = seek.slot + 1 })
    (λ some. or-true ((seek.slot + 1) % 16 == 0) (nat_le seek.slots (seek.slot + 1)) test some))
    (λ test. on (omega arith, λ e. is))

emptied-warms : (found : Option ℕ) (state : TreeState) (seek : Seek) (block : ℕ) (b : Bool) → found ≡ Some block →
    Warms found (next_slot state (if b then record seek { empty = seek.slot } else seek) block)
emptied-warms found state seek block true is = next-warms found state (record seek { empty = seek.slot }) block is
emptied-warms found state seek block false is = next-warms found state seek block is

block-warms : (found : Option ℕ) (state : TreeState) (seek : Seek) (block : ℕ) → (seek.slot % 16 == 0) ≡ true → Warms found (at_block state seek block)
block-warms found state seek block first =
    either (λ sound. on (omega arith, λ e. absurd (let is : true ≡ false = sym first ∙ e in cc is))) (λ none. stops)

begun-warms : (found : Option ℕ) (state : TreeState) (j : Job) → found ≡ Some 1 → Warms found (begun state j)
begun-warms found state (job.Open mode) is = on (is, omega arith)
begun-warms found state job.Find is = on (is, omega arith)
begun-warms found state (job.Remove home) is = off
begun-warms found state (job.Read home at count) is = off
begun-warms found state (job.Write home at count) is = off
begun-warms found state (job.Create directory slot from) is = off
begun-warms found state (job.SetSize home size) is = off
begun-warms found state (job.Stat home) is = off
begun-warms found state (job.Size home) is = off

opened-warms : (found : Option ℕ) (state : TreeState) (j : Job) (home : ℕ) → Warms found (opened state j home)
opened-warms found state (job.Open mode) home = either (λ cut. off) (λ stays. stops)
opened-warms found state job.Find home = stops
opened-warms found state (job.Remove _) home = stops
opened-warms found state (job.Read _ at count) home = stops
opened-warms found state (job.Write _ at count) home = stops
opened-warms found state (job.Create directory slot from) home = stops
opened-warms found state (job.SetSize _ size) home = stops
opened-warms found state (job.Stat _) home = stops
opened-warms found state (job.Size _) home = stops

record-near : (found : Option ℕ) (block slot : ℕ) → found ≡ Some block → IsNear found (4096 * block + 256 * (slot % 16))
record-near found block slot is = (is ∙ ap Some (same block slot), omega arith)
  where
    same : (block slot : ℕ) → block ≡ (4096 * block + 256 * (slot % 16)) / 4096
    same block slot = omega arith

loaded : (home k : ℕ) (found : Option ℕ) → IsNear found home → k < 256 → IsNear (Some ((home + k) / 4096)) home
loaded home k found near less = (ap Some (near-block home k near.1 less), near.1)

walk-warms : (found : Option ℕ) (state : TreeState) (p : WalkPlace) (word : ℕ) → IsWarm found p →
    Warms (found_behind found (walk_ask p)) (walk_next state p word)
walk-warms found state (walk.Path at run) word warm =
    either {b = low_byte word == 0} (λ ends. on tt)
    (λ more. either {b = nat_le 128 (run_behind run (low_byte word)) || nat_le 1024 (at + 1)} (λ far. stops) (λ near. on tt))
walk-warms found state walk.Magic word warm = either {b = word == FS_MAGIC} (λ is. on tt) (λ no. stops)
walk-warms found state walk.Count word warm = either {b = is_good_count word} (λ is. on tt) (λ no. stops)
walk-warms found state walk.RootKind word warm = either {b = word == 1} (λ is. begun-warms (Some 1) state state.job refl) (λ no. stops)
walk-warms found state (walk.Component from home) word warm =
    either {b = low_byte word == 0} (λ ends. either {b = wants_new state.job} (λ new. stops) (λ old. on warm))
    (λ more. either {b = is_slash (low_byte word)} (λ slash. on warm) (λ name. on warm))
walk-warms found state (walk.DirectoryKind from home) word warm =
    either {b = word == 1} (λ is. on (subst (λ (n : ℕ). IsNear (Some (n / 4096)) home) (sym (plus home)) (loaded home 132 found warm (omega arith))))
    (λ no. either {b = word == 0} (λ file. stops) (λ none. stops))
  where
    plus : (n : ℕ) → n + 128 + 4 ≡ n + 132
    plus n = omega arith
walk-warms found state (walk.DirectorySize from home) word warm =
    either {b = (word % 4096 == 0) && nat_le word 4235264}
    (λ good.
    slot-warms (Some ((home + 128) / 4096)) state (record { from = from; directory = home; slots = word / 256; slot = 0; empty = NONE }) (λ some. refl))
    (λ bad. stops)
walk-warms found state (walk.Slot seek) word warm =
    either {b = nat_lt (seek.slot / 16) 10} (λ own. block-warms (found_behind found (walk_ask (walk.Slot seek))) state seek word warm)
    (λ far. either {b = is_data_block state.count word} (λ sound. on warm) (λ none. stops))
walk-warms found state (walk.SlotIndirect seek indirect) word warm =
    block-warms (found_behind found (walk_ask (walk.SlotIndirect seek indirect))) state seek word warm
walk-warms found state (walk.NameByte seek block k) word warm =
    let here : ◌≡◌ {A = Option ℕ} (Some ((record_at seek block + k) / 4096)) (Some block) = ap Some (name-block block seek.slot k warm.0) in
    either {b = (k == 0) && (low_byte word == 0)}
    (λ empty. emptied-warms (Some ((record_at seek block + k) / 4096)) state seek block (seek.empty == NONE) here)
    (λ some. on (warm.0, here))
walk-warms found state (walk.PathByte seek block k byte) word warm =
    either {b = (low_byte word == 0) || is_slash (low_byte word)}
    (λ ends. either {b = byte == 0} (λ none. on (record-near found block seek.slot warm.1)) (λ some. next-warms found state seek block warm.1))
    (λ more.
    either {b = low_byte word == byte}
    (λ same. either {b = nat_le 128 (k + 1)} (λ long. stops) (λ fits. on (not-le 128 (k + 1) fits, λ e. warm.1)))
    (λ differs. next-warms found state seek block warm.1))
walk-warms found state (walk.Missing seek at within) word warm =
    either {b = low_byte word == 0}
    (λ ends.
    either {b = not (creates state.job)} (λ no. stops)
    (λ makes. either {b = nat_lt MAXFILESIZE (size_wanted seek)} (λ far. stops) (λ near. off)))
    (λ more. either {b = is_slash (low_byte word)} (λ slash. on tt) (λ name. either {b = within} (λ goes_on. on tt) (λ none. stops)))
walk-warms found state (walk.FoundKind home) word warm =
    either {b = word == 1} (λ is. stops)
    (λ no. either {b = word == 0} (λ file. opened-warms (Some ((home + 128 + 4) / 4096)) state state.job home) (λ none. stops))

is-warm : {f : Option ℕ} {t : TreeNext} {n : TreeState} → Warms f t → t ≡ GoOn n → IsWarmAt f n.place
is-warm stops e = absurd (cc e)
is-warm {f} {t} {n} (on {j} {count} {place} here) e =
    let same : ◌≡◌ {A = TreeState} (record { job = j; count = count; place = Walking place }) n = cc e in
    subst (λ (s : TreeState). IsWarmAt f s.place) same here
is-warm {f} {t} {n} (off {j} {count} {c} {place}) e =
    let same : ◌≡◌ {A = TreeState} (record { job = j; count = count; place = Changing c place }) n = cc e in
    subst (λ (s : TreeState). IsWarmAt f s.place) same tt

-- behind a step of a walk the block at hand is the one that was found last, too
pub warm-on : (found : Option ℕ) (state next : TreeState) (p : WalkPlace) (word : ℕ) → IsWarm found p → walk_next state p word ≡ GoOn next →
    IsWarmAt (found_behind found (walk_ask p)) next.place
warm-on found state next p word warm goes_on = is-warm (walk-warms found state p word warm) goes_on
