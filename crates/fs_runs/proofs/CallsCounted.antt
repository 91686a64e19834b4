-- How many calls the run of a job is, by the block that was found last: along a path so many as its directories have blocks, and at a record those
-- that are left there, and what its changes weigh.
use Rattle.std.proofs.Common.{◌≡◌, ◌∙◌, ◌≤◌, ◌+◌, ℕ, Bool, true, false, Option}
use Rattle.std.proofs.Common.{refl, sym, ap, subst, arith}
use Rattle.std.specs.Prelude.{◌==◌, if◌then◌else◌}
use Rattle.jos_base.specs.Words.{word_at}
use Rattle.fs_layout.specs.declared.numbers.TheConstants.{FS_MAGIC}
use Rattle.fs_layout.specs.DiskImage.{block_count, is_good_count}
use Rattle.fs_jobs.specs.declared.place.Changed.{Changed}
use Rattle.fs_jobs.specs.declared.place.FilePlace.{FilePlace}
use Rattle.fs_jobs.specs.declared.place.FilePlace.TheVariants as file
use Rattle.fs_jobs.specs.declared.place.Job.{Job}
use Rattle.fs_jobs.specs.declared.place.TreeState.{TreeState}
use Rattle.fs_jobs.specs.declared.place.TreePlace.{TreePlace}
use Rattle.fs_jobs.specs.declared.place.TreePlace.TheVariants.{Changing, Walking}
use Rattle.fs_jobs.specs.declared.place.WalkPlace.{WalkPlace}
use Rattle.fs_jobs.specs.declared.place.WalkPlace.TheVariants as walk
use Rattle.fs_jobs.specs.declared.asks.TreeAsk.{TreeAsk}
use Rattle.fs_jobs.specs.declared.asks.TreeAsk.TheVariants as ask
use Rattle.fs_jobs.specs.declared.asks.TreeNext.{TreeNext}
use Rattle.fs_jobs.specs.declared.asks.TreeNext.TheVariants.{GoOn}
use Rattle.fs_jobs.specs.declared.tests.TheConstants.{DAMAGED}
use Rattle.fs_jobs.specs.TreeTests.{refused}
use Rattle.fs_walks.specs.WalkPlans.{begun, begun_at, changed_to, walk_ask, walk_next}
use Rattle.fs_runs.specs.JobCalls.{IsWarm, IsWarmAt, ask_calls, calls_for, calls_left, found_behind, head_calls, walk_calls, weight}
use Rattle.fs_runs.specs.TreePlans.{ask_at, ask_by, next_by}
use Rattle.fs_runs.specs.TreeRuns as runs
use Rattle.fs_runs.specs.TreeRuns.{Ends, IsInside, Memory, calls_of, memory_after, reply_of}
use Rattle.fs_runs.proofs.CallsLeft.{Left, calls-fall-at, left}
use Rattle.fs_runs.proofs.CallsWarm.{calls-within, warm-on, warm-within}
use Rattle.fs_runs.proofs.Leads.{EndsIn, at_once, later}
use Rattle.fs_runs.proofs.NamesKept.{IsKept, keeps, tights}
use Rattle.fs_runs.proofs.WalksCalled.{CallsIn, IsFinding, IsWhole, calls_behind, changes, walk-calls, walks}
use Rattle.fs_runs.proofs.WalksKnown.{IsAt, Known}

-- ---- at a record

-- the run without its weights
pub ends-of : {count answer : ℕ} {after : Memory} {weighs n : ℕ} {state : TreeState} {m : Memory} → EndsIn count answer after weighs n state m →
    Ends count answer after n state m
ends-of (at_once state m bounded inside tells leaves) = runs.at_once state m bounded inside tells leaves
ends-of (later n state next m bounded inside goes rest) = runs.later n state next m bounded inside goes (ends-of rest)

-- It is no more calls than are left at the record, and what the changes weigh that begin.
counted : {count answer : ℕ} {after : Memory} {weighs n : ℕ} {state : TreeState} {m : Memory} (found : Option ℕ)
    (ends : EndsIn count answer after weighs n state m) (c : Changed) (p : FilePlace) → state.place ≡ Changing c p →
    calls_of found (ends-of ends) ≤ calls_left state + weighs
unfolding calls_of ends-of
counted {count} found (at_once state m bounded inside tells leaves) c p is =
    both (calls_for found (ask_at state)) (ask_calls (ask_at state)) (calls_left state + weight state) (calls-within found (ask_at state))
    (calls-fall-at count state 0 c p is inside).0
  where
    both : (a b c : ℕ) → a ≤ b → b ≤ c → a ≤ c
    both a b c one two = omega (arith, one, two)
counted {count} found (later {weighs} n state next m bounded inside goes rest) c p is =
    by (λ d q there. counted (found_behind found (ask_at state)) rest d q there)
    ((calls-fall-at count state (reply_of (ask_at state) m) c p is inside).1 next goes)
  where
    by : ((d : Changed) (q : FilePlace) → next.place ≡ Changing d q →
        calls_of (found_behind found (ask_at state)) (ends-of rest) ≤ calls_left next + weighs) →
        Left (ask_calls (ask_at state)) next (calls_left state + weight state) →
        calls_for found (ask_at state) + calls_of (found_behind found (ask_at state)) (ends-of rest) ≤ calls_left state + (weight state + weighs)
    by again (left d q there few) =
        all (calls_for found (ask_at state)) (ask_calls (ask_at state)) (calls_of (found_behind found (ask_at state)) (ends-of rest)) (calls_left next)
        (calls_left state) (weight state) (calls-within found (ask_at state)) (again d q there) few
      where
        all : (a b c d e w : ℕ) → a ≤ b → c ≤ d + weighs → d + b ≤ e + w → a + c ≤ e + (w + weighs)
        all a b c d e w one two three = omega (arith, one, two, three)

-- ---- along a path

-- a walk changes nothing
walk-same : (p : WalkPlace) (m : Memory) → memory_after (walk_ask p) m ≡ m
walk-same (walk.Path at run) m = refl
walk-same walk.Magic m = refl
walk-same walk.Count m = refl
walk-same walk.RootKind m = refl
walk-same (walk.Component from home) m = refl
walk-same (walk.DirectoryKind from directory) m = refl
walk-same (walk.DirectorySize from directory) m = refl
walk-same (walk.Slot seek) m = refl
walk-same (walk.SlotIndirect seek indirect) m = refl
walk-same (walk.NameByte seek block k) m = refl
walk-same (walk.PathByte seek block k byte) m = refl
walk-same (walk.Missing seek at within) m = refl
walk-same (walk.FoundKind home) m = refl

-- where it goes on, on the way or at a record
data Onward (most : ℕ) (m : Memory) (next : TreeState) (n : ℕ) : Type 0 where
  on_way : (p : WalkPlace) → next.place ≡ Walking p → (depth : ℕ) → IsAt m depth p → IsWhole p → IsFinding most m next.job next.count p →
      calls_behind most m depth p + walk_calls p ≤ n → Onward most m next n
  at_record : (c : Changed) (q : FilePlace) → next.place ≡ Changing c q → calls_left next ≤ n → Onward most m next n

onward : {most : ℕ} {m : Memory} {next : TreeState} {n : ℕ} → CallsIn most m (GoOn next) n → Onward most m next n
onward (walks {place} depth at whole finds few) = on_way place refl depth at whole finds few
onward (changes {c} {place} few) = at_record c place refl few

-- A run that walks is no more calls than its place tells, and what the changes weigh at the record that it comes to.
pub walked-calls : (most : ℕ) (m : Memory) → Known m → {count answer : ℕ} {after : Memory} {weighs n : ℕ} {state : TreeState} {now : Memory}
    (ends : EndsIn count answer after weighs n state now) → now ≡ m →
    (p : WalkPlace) → state.place ≡ Walking p → (depth : ℕ) → IsAt m depth p → IsWhole p → IsKept m p → IsFinding most m state.job state.count p →
    (found : Option ℕ) → IsWarm found p → calls_of found (ends-of ends) ≤ calls_behind most m depth p + walk_calls p + weighs
unfolding calls_of ends-of calls_behind
walked-calls most m known (at_once state now bounded inside tells leaves) same p is depth at whole kept finds found warm =
    first (calls_for found (ask_at state)) (walk_calls p) (calls_behind most m depth p) (weight state)
    (subst (λ (place : TreePlace). calls_for found (ask_by state place) ≤ walk_calls p) (sym is) (warm-within found state (Walking p) warm))
  where
    first : (a b c w : ℕ) → a ≤ b → a ≤ c + b + w
    first a b c w le = omega (arith, le)
walked-calls most m known {count} (later {weighs} n state next now bounded inside goes rest) same p is depth at whole kept finds found warm =
    more (calls_for found (ask_at state)) (walk_calls p) (calls_of (found_behind found (ask_at state)) (ends-of rest)) (calls_behind most m depth p)
    (weight state)
    (subst (λ (place : TreePlace). calls_for found (ask_by state place) ≤ walk_calls p) (sym is) (warm-within found state (Walking p) warm))
    (by
    (λ q there deep at_next whole_next finds_next warm_next.
    walked-calls most m known rest stays q there deep at_next whole_next (keeps m state next p q kept goes_on there) finds_next
    (found_behind found (ask_at state)) warm_next)
    (onward
    (subst (λ (t : TreeNext). CallsIn most m t (calls_behind most m depth p)) goes_on
    (walk-calls most m known state count p depth found at whole (tights m known depth p found at warm kept) warm finds
    (subst (λ (place : TreePlace). IsInside count (ask_by state place)) is inside)))))
  where
    goes_on : walk_next state p (reply_of (walk_ask p) m) ≡ GoOn next
    goes_on = (λ i. next_by state (sym is i) (reply_of (ask_by state (sym is i)) (sym same i))) ∙ goes

    stays : memory_after (ask_at state) now ≡ m
    stays = (λ i. memory_after (ask_by state (is i)) (same i)) ∙ walk-same p m

    still : IsWarmAt (found_behind found (ask_at state)) next.place
    still =
        subst (λ (place : TreePlace). IsWarmAt (found_behind found (ask_by state place)) next.place) (sym is)
        (warm-on found state next p (reply_of (walk_ask p) m) warm goes_on)

    more : (a b c d w : ℕ) → a ≤ b → c ≤ d + weighs → a + c ≤ d + b + (w + weighs)
    more a b c d w one two = omega (arith, one, two)

    both : (a b c : ℕ) → a ≤ b + weighs → b ≤ c → a ≤ c + weighs
    both a b c one two = omega (arith, one, two)

    by : ((q : WalkPlace) → next.place ≡ Walking q → (deep : ℕ) → IsAt m deep q → IsWhole q → IsFinding most m next.job next.count q →
        IsWarm (found_behind found (ask_at state)) q →
        calls_of (found_behind found (ask_at state)) (ends-of rest) ≤ calls_behind most m deep q + walk_calls q + weighs) →
        Onward most m next (calls_behind most m depth p) →
        calls_of (found_behind found (ask_at state)) (ends-of rest) ≤ calls_behind most m depth p + weighs
    by again (on_way q there deep at_next whole_next finds_next few) =
        both (calls_of (found_behind found (ask_at state)) (ends-of rest)) (calls_behind most m deep q + walk_calls q) (calls_behind most m depth p)
        (again q there deep at_next whole_next finds_next
        (subst (λ (place : TreePlace). IsWarmAt (found_behind found (ask_at state)) place) there still))
        few
    by again (at_record c q there few) =
        both (calls_of (found_behind found (ask_at state)) (ends-of rest)) (calls_left next) (calls_behind most m depth p)
        (counted (found_behind found (ask_at state)) rest c q there) few

-- ---- a job that has a record

pub six : (found : Option ℕ) (it : TreeAsk) → calls_for found it ≤ 6
six found it = within (calls_for found it) (ask_calls it) (calls-within found it) (most it)
  where
    most : (it : TreeAsk) → ask_calls it ≤ 6
    most (ask.Load at) = omega arith
    most (ask.LoadByte at) = omega arith
    most (ask.Store at word) = omega arith
    most (ask.StoreByte at byte) = omega arith
    most (ask.Request at) = omega arith
    most (ask.HandBack at byte) = omega arith

    within : (a b : ℕ) → a ≤ b → b ≤ 6 → a ≤ 6
    within a b one two = omega (arith, one, two)

-- where a test holds, the job goes on there
goes-there : (b : Bool) (to next : TreeState) (error : ℕ) → (if b then GoOn to else refused error) ≡ GoOn next → to ≡ next
goes-there true to next error e = cc e
goes-there false to next error e = absurd (cc e)

-- It begins at its record.
abbrev pub HasRecord : Job → ℕ → Type 0
HasRecord j home = (state : TreeState) → begun state j ≡ begun_at state home

begins-calls : {count answer : ℕ} {after : Memory} {weighs n : ℕ} {state : TreeState} {now : Memory} (j : Job) (home : ℕ) → HasRecord j home →
    (ends : EndsIn count answer after weighs n state now) → state.job ≡ j → state.place ≡ Walking walk.RootKind → (found : Option ℕ) →
    calls_of found (ends-of ends) ≤ head_calls state.count j + 18 + weighs
unfolding calls_of ends-of
begins-calls j home has (at_once state now bounded inside tells leaves) job_is is found =
    first (calls_for found (ask_at state)) (head_calls state.count j) (weight state) (six found (ask_at state))
  where
    first : (a h w : ℕ) → a ≤ 6 → a ≤ h + 18 + w
    first a h w le = omega (arith, le)
begins-calls j home has (later {weighs} n state next now bounded inside goes rest) job_is is found =
    more (calls_for found (ask_at state)) (calls_of (found_behind found (ask_at state)) (ends-of rest)) (head_calls state.count j) (weight state)
    (six found (ask_at state))
    (subst (λ (k : ℕ). calls_of (found_behind found (ask_at state)) (ends-of rest) ≤ k + weighs) left_is
    (counted (found_behind found (ask_at state)) rest (changed_to home 0 0) file.Kind (ap (λ (s : TreeState). s.place) (sym there))))
  where
    to : TreeState
    to = record state { place = Changing (changed_to home 0 0) file.Kind }

    word : ℕ
    word = reply_of (ask_at state) now

    there : to ≡ next
    there =
        goes-there (word == 1) to next DAMAGED
        ((λ i. if word == 1 then (sym (ap (λ (k : Job). begun state k) job_is ∙ has state)) i else refused DAMAGED)
        ∙ (λ i. next_by state (sym is i) word) ∙ goes)

    left_is : calls_left next ≡ head_calls state.count j + 12
    left_is = ap (λ (s : TreeState). calls_left s) (sym there) ∙ ap (λ (k : Job). head_calls state.count k + 12) job_is

    more : (a b h w : ℕ) → a ≤ 6 → b ≤ h + 12 + weighs → a + b ≤ h + 18 + (w + weighs)
    more a b h w one two = omega (arith, one, two)

counts-calls : {count answer : ℕ} {after : Memory} {weighs n : ℕ} {state : TreeState} {now : Memory} (j : Job) (home : ℕ) → HasRecord j home →
    (ends : EndsIn count answer after weighs n state now) → state.job ≡ j → state.place ≡ Walking walk.Count → (found : Option ℕ) →
    calls_of found (ends-of ends) ≤ head_calls (block_count now.disk) j + 24 + weighs
unfolding calls_of ends-of
counts-calls j home has (at_once state now bounded inside tells leaves) job_is is found =
    first (calls_for found (ask_at state)) (head_calls (block_count now.disk) j) (weight state) (six found (ask_at state))
  where
    first : (a h w : ℕ) → a ≤ 6 → a ≤ h + 24 + w
    first a h w le = omega (arith, le)
counts-calls j home has (later {weighs} n state next now bounded inside goes rest) job_is is found =
    more (calls_for found (ask_at state)) (calls_of (found_behind found (ask_at state)) (ends-of rest)) (head_calls (block_count now.disk) j) (weight state)
    (six found (ask_at state))
    (subst (λ (k : ℕ). calls_of (found_behind found (ask_at state)) (ends-of rest) ≤ head_calls k j + 18 + weighs)
    (ap (λ (s : TreeState). s.count) (sym there))
    (begins-calls j home has rest (ap (λ (s : TreeState). s.job) (sym there) ∙ job_is) (ap (λ (s : TreeState). s.place) (sym there))
    (found_behind found (ask_at state))))
  where
    word : ℕ
    word = block_count now.disk

    to : TreeState
    to = record state { count = word; place = Walking walk.RootKind }

    there : to ≡ next
    there =
        goes-there (is_good_count word) to next DAMAGED
        ((λ i. next_by state (sym is i) (reply_of (ask_by state (sym is i)) now)) ∙ goes)

    more : (a b h w : ℕ) → a ≤ 6 → b ≤ h + 18 + weighs → a + b ≤ h + 24 + (w + weighs)
    more a b h w one two = omega (arith, one, two)

-- from the super block on
pub record-calls : {count answer : ℕ} {after : Memory} {weighs n : ℕ} {state : TreeState} {now : Memory} (j : Job) (home : ℕ) → HasRecord j home →
    (ends : EndsIn count answer after weighs n state now) → state.job ≡ j → state.place ≡ Walking walk.Magic → (found : Option ℕ) →
    calls_of found (ends-of ends) ≤ head_calls (block_count now.disk) j + 30 + weighs
unfolding calls_of ends-of
record-calls j home has (at_once state now bounded inside tells leaves) job_is is found =
    first (calls_for found (ask_at state)) (head_calls (block_count now.disk) j) (weight state) (six found (ask_at state))
  where
    first : (a h w : ℕ) → a ≤ 6 → a ≤ h + 30 + w
    first a h w le = omega (arith, le)
record-calls j home has (later {weighs} n state next now bounded inside goes rest) job_is is found =
    more (calls_for found (ask_at state)) (calls_of (found_behind found (ask_at state)) (ends-of rest)) (head_calls (block_count now.disk) j) (weight state)
    (six found (ask_at state))
    (subst (λ (m : Memory). calls_of (found_behind found (ask_at state)) (ends-of rest) ≤ head_calls (block_count m.disk) j + 24 + weighs) stays
    (counts-calls j home has rest (ap (λ (s : TreeState). s.job) (sym there) ∙ job_is) (ap (λ (s : TreeState). s.place) (sym there))
    (found_behind found (ask_at state))))
  where
    to : TreeState
    to = record state { place = Walking walk.Count }

    there : to ≡ next
    there =
        goes-there (word_at now.disk 4096 == FS_MAGIC) to next DAMAGED
        ((λ i. next_by state (sym is i) (reply_of (ask_by state (sym is i)) now)) ∙ goes)

    stays : memory_after (ask_at state) now ≡ now
    stays = λ i. memory_after (ask_by state (is i)) now

    more : (a b h w : ℕ) → a ≤ 6 → b ≤ h + 24 + weighs → a + b ≤ h + 30 + (w + weighs)
    more a b h w one two = omega (arith, one, two)
