-- Each step of a job at a record leaves as many calls fewer as it is itself, whatever word it reads; where a change of the record's blocks begins, that
-- adds what it weighs.
use Rattle.std.proofs.Common.{◌≡◌, ◌<◌, ◌≤◌, ◌+◌, ◌-◌, ◌*◌, ◌/◌, ◌%◌, ◌^◌, ℕ, Bool, true, false, not, Option, Some, None}
use Rattle.std.proofs.Common.{refl, sym, ap, subst, arith, min, max}
use Rattle.std.specs.Prelude.{◌==◌, ◌&&◌, nat_le, nat_lt, if◌then◌else◌}
use Rattle.std.proofs.lemmas.Bool.Decides.{nat_tests}
use Rattle.fs_layout.specs.declared.numbers.TheConstants.{MAXFILESIZE}
use Rattle.fs_layout.specs.DiskImage.{is_data_block}
use Rattle.fs_layout.specs.FileTree.{blocks_of, needs_indirect}
use Rattle.fs_jobs.specs.declared.place.Change.{Change}
use Rattle.fs_jobs.specs.declared.place.Change.TheVariants as change
use Rattle.fs_jobs.specs.declared.place.Changed.{Changed}
use Rattle.fs_jobs.specs.declared.place.FilePlace.{FilePlace}
use Rattle.fs_jobs.specs.declared.place.FilePlace.TheVariants as file
use Rattle.fs_jobs.specs.declared.place.Job.{Job}
use Rattle.fs_jobs.specs.declared.place.Job.TheVariants as job
use Rattle.fs_jobs.specs.declared.place.TreePlace.{TreePlace}
use Rattle.fs_jobs.specs.declared.place.TreePlace.TheVariants.{Changing, Walking}
use Rattle.fs_jobs.specs.declared.place.TreeState.{TreeState}
use Rattle.fs_jobs.specs.declared.place.Wanted.{Wanted}
use Rattle.fs_jobs.specs.declared.place.Wanted.TheVariants as wanted
use Rattle.fs_jobs.specs.declared.asks.TreeNext.{TreeNext}
use Rattle.fs_jobs.specs.declared.asks.TreeNext.TheVariants.{Answer, GoOn}
use Rattle.fs_changes.specs.ChangePlans.{at_number, behind_zeros, change_ask, change_next, fill_end, first_byte, found_free, free_in_word, lowest_in_word}
use Rattle.fs_changes.specs.ChangePlans.{gives_back, has_one, more_blocks, next_byte, next_change, place_for, settled, sized}
use Rattle.fs_runs.specs.JobCalls.{ask_calls, bitmap_words, bytes_calls, calls_left, change_calls, change_weight, is_changing, last_calls, left_by}
use Rattle.fs_runs.specs.JobCalls.{number_calls, take_calls, wanted_calls, weight, weight_by}
use Rattle.fs_runs.specs.TreePlans.{ask_at, ask_by, next_at, next_by}
use Rattle.fs_runs.specs.TreeRuns.{CallsAreLeft, IsInside}

-- ---- where a job goes, behind a step of so many calls, no more calls than these are left with it

data Falls (asks : ℕ) : TreeNext → ℕ → Type 0 where
  stops : {word n : ℕ} → Falls asks (Answer word) n
  goes : {j : Job} {count : ℕ} {c : Changed} {place : FilePlace} {n : ℕ} → change_calls count j c place + asks ≤ n →
      Falls asks (GoOn (record { job = j; count = count; place = Changing c place })) n

either : {asks : ℕ} {b : Bool} {x y : TreeNext} {n : ℕ} → (b ≡ true → Falls asks x n) → (b ≡ false → Falls asks y n) → Falls asks (if b then x else y) n
either {b = true} one two = one refl
either {b = false} one two = two refl

weaken : {asks : ℕ} {t : TreeNext} {a : ℕ} (b : ℕ) → a ≤ b → Falls asks t a → Falls asks t b
weaken b le stops = stops
weaken {asks} {t} {a} b le (goes {j} {count} {c} {place} few) = goes (within (change_calls count j c place) a b few le)
  where
    within : (n a b : ℕ) → n + asks ≤ a → a ≤ b → n + asks ≤ b
    within n a b few le = omega (arith, few, le)

-- ---- tests

not-le : (a b : ℕ) → nat_le a b ≡ false → b < a
not-le a b e = grind (arith, nat_tests)

is-less : (a b : ℕ) → nat_lt a b ≡ true → a < b
is-less a b e = grind (arith, nat_tests)

not-less : (a b : ℕ) → nat_lt a b ≡ false → b ≤ a
not-less a b e = grind (arith, nat_tests)

past : (k : ℕ) → 4096 ≤ k → 4096 ≤ k + 1
past k le = omega (arith, le)

is-none : (n : ℕ) → (n == 0) ≡ true → n ≡ 0
is-none n e = grind (arith, nat_tests)

not-none : (n : ℕ) → (n + 1 == 0) ≡ false
not-none n = grind (arith, nat_tests)

-- ---- the record has its size

abbrev being : Job → ℕ → TreePlace → TreeState
being j count q = record { job = j; count = count; place = q }

settled-falls : (j : Job) (count : ℕ) (q : TreePlace) (c : Changed) (n : ℕ) → last_calls j + 6 ≤ n → Falls 6 (settled (being j count q) j c) n
settled-falls (job.Open mode) count q c n le = stops
settled-falls job.Find count q c n le = stops
settled-falls (job.Remove home) count q c n le = goes (omega (arith, le))
settled-falls (job.Read home at many) count q c n le = stops
settled-falls (job.Write home at many) count q c n le = goes (omega (arith, le))
settled-falls (job.Create directory slot from) count q c n le = goes (omega (arith, le))
settled-falls (job.SetSize home size) count q c n le = stops
settled-falls (job.Stat home) count q c n le = stops
settled-falls (job.Size home) count q c n le = stops

sized-falls : (j : Job) (count : ℕ) (q : TreePlace) (c : Changed) → Falls 6 (sized (being j count q) j c) (change_calls count j c file.Size)
sized-falls (job.Open mode) count q c = stops
sized-falls job.Find count q c = stops
sized-falls (job.Remove home) count q c = goes (omega arith)
sized-falls (job.Read home at many) count q c = either (λ none. stops) (λ some. goes (omega arith))
sized-falls (job.Write home at many) count q c =
    either {b = many == 0} (λ none. stops)
    (λ some.
    either {b = nat_lt MAXFILESIZE (min (at + many) (2 ^ 32 - 1))} (λ far. stops)
    (λ near.
    either {b = nat_le (min (at + many) (2 ^ 32 - 1)) c.size}
    (λ fits.
    settled-falls (job.Write home at many) count q c (change_calls count (job.Write home at many) c file.Size) (omega arith)) (λ grows. goes (omega arith))))
sized-falls (job.Create directory slot from) count q c = stops
sized-falls (job.SetSize home size) count q c = either (λ far. stops) (λ near. goes (omega arith))
sized-falls (job.Stat home) count q c = goes (omega arith)
sized-falls (job.Size home) count q c = stops

-- ---- the next change

changes-fall : (j : Job) (count : ℕ) (q : TreePlace) (c : Changed) → Falls 6 (next_change (being j count q) c) (last_calls j + 6)
changes-fall j count q c =
    either {b = gives_back j && nat_lt (blocks_of c.end) (blocks_of c.size)} (λ gives. goes (omega arith))
    (λ keeps.
    either {b = gives_back j && not (needs_indirect c.end) && has_one c} (λ unmarks. goes (omega arith))
    (λ marked.
    either {b = gives_back j && nat_lt c.end c.size} (λ cut. goes (omega arith))
    (λ whole.
    either {b = nat_lt c.size (fill_end c)} (λ fills. goes (omega arith))
    (λ full.
    either {b = nat_lt (blocks_of c.size) (blocks_of c.end)} (λ more. goes (omega arith))
    (λ done. settled-falls j count q c (last_calls j + 6) (omega arith))))))

-- ---- the number of a block

place-falls : (count : ℕ) (j : Job) (c : Changed) (block : ℕ) (w : Wanted) → change_calls count j c (place_for block w) ≤ wanted_calls j c w
place-falls count j c block (wanted.Reading k) = omega arith
place-falls count j c block (wanted.Writing k) = omega arith
place-falls count j c block (wanted.Filling at) = omega arith
place-falls count j c block wanted.Giving = omega arith
place-falls count j c block (wanted.Making slot from) = omega arith

same-wanted : (j : Job) (c : Changed) (word : ℕ) (w : Wanted) → wanted_calls j (record c { indirect = word }) w ≡ wanted_calls j c w
same-wanted j c word (wanted.Reading k) = refl
same-wanted j c word (wanted.Writing k) = refl
same-wanted j c word (wanted.Filling at) = refl
same-wanted j c word wanted.Giving = refl
same-wanted j c word (wanted.Making slot from) = refl

-- with its weight
number-falls : (count : ℕ) (j : Job) (c : Changed) (i : ℕ) (w : Wanted) →
    wanted_calls j c w + 12 ≤ number_calls j c w + change_weight count c (file.Number i w)
number-falls count j c i (wanted.Reading k) = omega arith
number-falls count j c i (wanted.Writing k) = omega arith
number-falls count j c i (wanted.Filling at) = omega arith
number-falls count j c i wanted.Giving = omega arith
number-falls count j c i (wanted.Making slot from) = omega arith

at-number-falls : (j : Job) (count : ℕ) (q : TreePlace) (c : Changed) (w : Wanted) (block : ℕ) →
    Falls 6 (at_number (being j count q) c w block) (wanted_calls j c w + 6)
at-number-falls j count q c w block =
    either (λ sound. goes (more (change_calls count j c (place_for block w)) (wanted_calls j c w) (place-falls count j c block w))) (λ none. stops)
  where
    more : (a b : ℕ) → a ≤ b → a + 6 ≤ b + 6
    more a b le = omega (arith, le)

-- ---- bytes that are moved

-- behind a byte its calls are fewer by seven, and by twelve more where the next is in another block
bytes-on : (first k : ℕ) → k < 4096 →
    7 * (4096 - (k + 1)) + 12 * ((first + 4096) / 4096 - (first + (k + 1)) / 4096) + 7
    ≤ 7 * (4096 - k) + 12 * ((first + 4096) / 4096 - (first + k) / 4096)
bytes-on first k less = omega (arith, less)

bytes-over : (first k : ℕ) → k < 4096 → (first + (k + 1)) % 4096 ≡ 0 →
    7 * (4096 - (k + 1)) + 12 * ((first + 4096) / 4096 - (first + (k + 1)) / 4096) + 19
    ≤ 7 * (4096 - k) + 12 * ((first + 4096) / 4096 - (first + k) / 4096)
bytes-over first k less over = omega (arith, less, over)

bytes-done : (first k : ℕ) → 4096 ≤ k → 7 * (4096 - k) + 12 * ((first + 4096) / 4096 - (first + k) / 4096) ≡ 0
bytes-done first k le = omega (arith, le)

byte-falls : (j : Job) (count : ℕ) (q : TreePlace) (c : Changed) (k asks : ℕ) (same : FilePlace) (w : Wanted) (n : ℕ) →
    change_calls count j c same + asks ≤ n → ((first_byte j + k) % 4096 ≡ 0 → number_calls j c w + asks ≤ n) →
    Falls asks (next_byte (being j count q) c k same w) n
byte-falls j count q c k asks same w n one two =
    either {b = (first_byte j + k) % 4096 == 0} (λ new. goes (two (is-none ((first_byte j + k) % 4096) new))) (λ old. goes one)

-- ---- the bitmap

free-falls : (j : Job) (count : ℕ) (q : TreePlace) (c : Changed) (x : Change) (n : ℕ) (it : Option ℕ) (v : ℕ) →
    last_calls j + 6 * (bitmap_words count - n) + 6144 + 54 ≤ v →
    Falls 6 (found_free (being j count q) c x n it) v
free-falls j count q c change.TakeBlock n (Some k) v le = goes (omega (arith, le))
free-falls j count q c change.TakeIndirect n (Some k) v le = goes (omega (arith, le))
free-falls j count q c change.GiveBlock n (Some k) v le = goes (omega (arith, le))
free-falls j count q c change.GiveIndirect n (Some k) v le = goes (omega (arith, le))
free-falls j count q c x n None v le =
    either
    (λ more.
    goes
    (subst (λ (b : Bool). (if b then last_calls j else last_calls j + 6 * (bitmap_words count - (n + 1)) + 6144 + 54) + 6 ≤ v) (sym (not-none n))
    (on (last_calls j) (is-less (32 * (n + 1)) count more) refl)))
    (λ last. settled-falls j count q c v (omega (arith, le)))
  where
    on : (l : ℕ) → 32 * (n + 1) < count → l ≡ last_calls j → l + 6 * ((count + 31) / 32 - (n + 1)) + 6144 + 54 + 6 ≤ v
    on l less e = omega (arith, less, le, e)

behind-falls : (count : ℕ) (j : Job) (c : Changed) (x : Change) (block : ℕ) → change_calls count j c (behind_zeros x block) ≤ last_calls j + 30
behind-falls count j c change.TakeBlock block = omega arith
behind-falls count j c change.TakeIndirect block = omega arith
behind-falls count j c change.GiveBlock block = omega arith
behind-falls count j c change.GiveIndirect block = omega arith

-- ---- each step at a record

abbrev all_calls : ℕ → Job → Changed → FilePlace → ℕ
all_calls count j c p = change_calls count j c p + change_weight count c p

abbrev Fall : Job → ℕ → TreePlace → Changed → FilePlace → ℕ → Type 0
Fall j count q c p word =
    (ask_calls (change_ask j c p) ≤ all_calls count j c p)
    × Falls (ask_calls (change_ask j c p)) (change_next (being j count q) c p word) (all_calls count j c p)

lowest-falls : (j : Job) (count : ℕ) (q : TreePlace) (c : Changed) (x : Change) (n word : ℕ) → Fall j count q c (file.Lowest x n) word
lowest-falls j count q c x n word = by (n == 0) refl
  where
    by : (b : Bool) → (n == 0) ≡ b → Fall j count q c (file.Lowest x n) word
    by true first =
        let none = is-none n first in
        let all : all_calls count j c (file.Lowest x n) ≡ last_calls j + take_calls count =
        ap (λ (b : Bool). (if b then last_calls j else last_calls j + 6 * (bitmap_words count - n) + 6144 + 54) + (if b then take_calls count else 0)) first in (
          begun (all_calls count j c (file.Lowest x n)) (last_calls j) all,
          free-falls j count q c x n (lowest_in_word count n word) (all_calls count j c (file.Lowest x n))
              (enough (all_calls count j c (file.Lowest x n)) (last_calls j) all none),
        )
      where
        begun : (v l : ℕ) → v ≡ l + (6 * ((count + 31) / 32) + 6144 + 60) → 6 ≤ v
        begun v l e = omega (arith, e)

        enough : (v l : ℕ) → v ≡ l + (6 * ((count + 31) / 32) + 6144 + 60) → n ≡ 0 → l + 6 * ((count + 31) / 32 - n) + 6144 + 54 ≤ v
        enough v l e none = omega (arith, e, none)
    by false later =
        let all : all_calls count j c (file.Lowest x n) ≡ last_calls j + 6 * (bitmap_words count - n) + 6144 + 54 + 0 =
        ap (λ (b : Bool). (if b then last_calls j else last_calls j + 6 * (bitmap_words count - n) + 6144 + 54) + (if b then take_calls count else 0)) later in (
          begun (all_calls count j c (file.Lowest x n)) (last_calls j) all,
          free-falls j count q c x n (lowest_in_word count n word) (all_calls count j c (file.Lowest x n))
              (enough (all_calls count j c (file.Lowest x n)) (last_calls j) all),
        )
      where
        begun : (v l : ℕ) → v ≡ l + 6 * ((count + 31) / 32 - n) + 6144 + 54 + 0 → 6 ≤ v
        begun v l e = omega (arith, e)

        enough : (v l : ℕ) → v ≡ l + 6 * ((count + 31) / 32 - n) + 6144 + 54 + 0 → l + 6 * ((count + 31) / 32 - n) + 6144 + 54 ≤ v
        enough v l e = omega (arith, e)

change-falls : (j : Job) (count : ℕ) (q : TreePlace) (c : Changed) (p : FilePlace) (blocks word : ℕ) → IsInside blocks (change_ask j c p) →
    Fall j count q c p word
change-falls j count q c file.Kind blocks word inside =
    (omega arith, either {b = word == 1} (λ is. stops) (λ no. either {b = word == 0} (λ file. goes (omega arith)) (λ none. stops)))
change-falls j count q c file.Size blocks word inside =
    (omega arith, either (λ far. stops) (λ near. weaken (all_calls count j c file.Size) (omega arith) (sized-falls j count q (record c { size = word }))))
change-falls j count q c file.Indirect blocks word inside = (
  omega arith,
  either {b = not (word == 0) && not (is_data_block count word)} (λ bad. stops)
      (λ good. either {b = more_blocks j (record c { indirect = word }) == 0} (λ none. goes (omega arith)) (λ some. goes (omega arith))),
)
change-falls j count q c (file.Free n free) blocks word inside = (
  omega arith,
  either {b = nat_lt (32 * (n + 1)) count} (λ more. goes (on (last_calls j) (is-less (32 * (n + 1)) count more)))
      (λ last. either {b = nat_le (more_blocks j c) (free + free_in_word count n word)} (λ fits. goes (omega arith)) (λ lacks. stops)),
)
  where
    on : (l : ℕ) → 32 * (n + 1) < count → l + 6 * ((count + 31) / 32 - (n + 1)) + 18 + 6 ≤ l + 6 * ((count + 31) / 32 - n) + 18 + 0
    on l less = omega (arith, less)
change-falls j count q c file.SizeNow blocks word inside = (omega arith, either (λ far. stops) (λ near. goes (omega arith)))
change-falls j count q c file.IndirectNow blocks word inside =
    (omega arith, either (λ bad. stops) (λ good. weaken (all_calls count j c file.IndirectNow) (omega arith) (changes-fall j count q (record c { indirect = word }))))
change-falls j count q c (file.Number i w) blocks word inside = (
  first (wanted_calls j c w) (all_calls count j c (file.Number i w)) (number-falls count j c i w),
  either {b = nat_lt i 10}
      (λ own.
      weaken (all_calls count j c (file.Number i w))
      (less (wanted_calls j c w) (all_calls count j c (file.Number i w)) (number-falls count j c i w)) (at-number-falls j count q c w word))
      (λ far.
      either {b = is_data_block count word}
      (λ sound.
      goes
      (on (wanted_calls j (record c { indirect = word }) w) (wanted_calls j c w) (all_calls count j c (file.Number i w)) (same-wanted j c word w)
      (number-falls count j c i w)))
      (λ none. stops)),
)
  where
    first : (a b : ℕ) → a + 12 ≤ b → 6 ≤ b
    first a b le = omega (arith, le)

    less : (a b : ℕ) → a + 12 ≤ b → a + 6 ≤ b
    less a b le = omega (arith, le)

    on : (z a b : ℕ) → z ≡ a → a + 12 ≤ b → z + 6 + 6 ≤ b
    on z a b e le = omega (arith, e, le)
change-falls j count q c (file.NumberIndirect i w) blocks word inside =
    (omega arith, weaken (all_calls count j c (file.NumberIndirect i w)) (omega arith) (at-number-falls j count q c w word))
change-falls j count q c (file.Reading block k) blocks word inside = (omega arith, goes (omega arith))
change-falls j count q c (file.Handing block k byte) blocks word inside = (
  some (bytes_calls j (k + 1)) (bytes_calls j k) (bytes-on (first_byte j) k inside),
  either (λ last. stops)
      (λ more.
      byte-falls j count q c (k + 1) 1 (file.Reading block (k + 1)) (wanted.Reading (k + 1)) (all_calls count j c (file.Handing block k byte))
      (one (bytes_calls j (k + 1)) (bytes_calls j k) (bytes-on (first_byte j) k inside))
      (λ over. two (bytes_calls j (k + 1)) (bytes_calls j k) (bytes-over (first_byte j) k inside over))),
)
  where
    some : (a b : ℕ) → a + 7 ≤ b → 1 ≤ b + 0
    some a b le = omega (arith, le)

    one : (a b : ℕ) → a + 7 ≤ b → a + 6 + 1 ≤ b + 0
    one a b le = omega (arith, le)

    two : (a b : ℕ) → a + 19 ≤ b → a + 6 + 12 + 1 ≤ b + 0
    two a b le = omega (arith, le)
change-falls j count q c (file.Gathering block k) blocks word inside = (omega (arith, inside), goes (omega (arith, inside)))
change-falls j count q c (file.Writing block k byte) blocks word inside = (
  omega arith,
  either (λ last. stops)
      (λ more.
      byte-falls j count q c (k + 1) 6 (file.Gathering block (k + 1)) (wanted.Writing (k + 1)) (all_calls count j c (file.Writing block k byte))
      (one (nat_lt k 4096) refl) (λ over. two over (nat_lt k 4096) refl)),
)
  where
    one : (b : Bool) → nat_lt k 4096 ≡ b → bytes_calls j (k + 1) + 6 ≤ max 18 (bytes_calls j k - 1) + 0
    one true is = near (bytes_calls j (k + 1)) (bytes_calls j k) (bytes-on (first_byte j) k (is-less k 4096 is))
      where
        near : (a b : ℕ) → a + 7 ≤ b → a + 6 ≤ max 18 (b - 1) + 0
        near a b le = omega (arith, le)
    one false is = far (bytes_calls j (k + 1)) (bytes_calls j k) (bytes-done (first_byte j) (k + 1) (past k (not-less k 4096 is)))
      where
        far : (a b : ℕ) → a ≡ 0 → a + 6 ≤ max 18 (b - 1) + 0
        far a b e = omega (arith, e)

    two : (first_byte j + (k + 1)) % 4096 ≡ 0 → (b : Bool) → nat_lt k 4096 ≡ b → bytes_calls j (k + 1) + 12 + 6 ≤ max 18 (bytes_calls j k - 1) + 0
    two over true is = near (bytes_calls j (k + 1)) (bytes_calls j k) (bytes-over (first_byte j) k (is-less k 4096 is) over)
      where
        near : (a b : ℕ) → a + 19 ≤ b → a + 12 + 6 ≤ max 18 (b - 1) + 0
        near a b le = omega (arith, le)
    two over false is = far (bytes_calls j (k + 1)) (bytes_calls j k) (bytes-done (first_byte j) (k + 1) (past k (not-less k 4096 is)))
      where
        far : (a b : ℕ) → a ≡ 0 → a + 12 + 6 ≤ max 18 (b - 1) + 0
        far a b e = omega (arith, e)
change-falls j count q c (file.Filling block at) blocks word inside =
    (omega arith, either (λ last. goes (omega arith)) (λ more. goes (on (last_calls j) (fill_end c) (not-le (fill_end c) (at + 1) more))))
  where
    on : (l end : ℕ) → at + 1 < end → l + 6 * (end - (at + 1)) + 6 + 6 ≤ l + 6 * (end - at) + 6 + 0
    on l end less = omega (arith, less)
change-falls j count q c (file.PutSize size) blocks word inside = (omega arith, goes (omega arith))
change-falls j count q c (file.Lowest x n) blocks word inside = lowest-falls j count q c x n word
change-falls j count q c (file.Mark change.TakeBlock block) blocks word inside = (omega arith, goes (omega arith))
change-falls j count q c (file.Mark change.TakeIndirect block) blocks word inside = (omega arith, goes (omega arith))
change-falls j count q c (file.Mark change.GiveBlock block) blocks word inside = (omega arith, goes (omega arith))
change-falls j count q c (file.Mark change.GiveIndirect block) blocks word inside = (omega arith, goes (omega arith))
change-falls j count q c (file.PutMark change.TakeBlock block byte) blocks word inside = (omega arith, goes (omega arith))
change-falls j count q c (file.PutMark change.TakeIndirect block byte) blocks word inside = (omega arith, goes (omega arith))
change-falls j count q c (file.PutMark change.GiveBlock block byte) blocks word inside = (omega arith, goes (omega arith))
change-falls j count q c (file.PutMark change.GiveIndirect block byte) blocks word inside = (omega arith, goes (omega arith))
change-falls j count q c (file.Zero x block n) blocks word inside = (
  omega arith,
  either (λ more. goes (on (last_calls j) (is-less (n + 1) 1024 more)))
      (λ last. goes (behind (change_calls count j c (behind_zeros x block)) (last_calls j) (behind-falls count j c x block))),
)
  where
    on : (l : ℕ) → n + 1 < 1024 → l + 6 * (1024 - (n + 1)) + 36 + 6 ≤ l + 6 * (1024 - n) + 36 + 0
    on l less = omega (arith, less)

    behind : (a l : ℕ) → a ≤ l + 30 → a + 6 ≤ l + 6 * (1024 - n) + 36 + 0
    behind a l le = omega (arith, le)
change-falls j count q c (file.PutLess block) blocks word inside = (omega arith, goes (omega arith))
change-falls j count q c (file.PutNumber change.TakeBlock block) blocks word inside = (omega arith, goes (omega arith))
change-falls j count q c (file.PutNumber change.TakeIndirect block) blocks word inside = (omega arith, goes (omega arith))
change-falls j count q c (file.PutNumber change.GiveBlock block) blocks word inside = (omega arith, goes (omega arith))
change-falls j count q c (file.PutNumber change.GiveIndirect block) blocks word inside = (omega arith, goes (omega arith))
change-falls j count q c (file.PutIndirect change.TakeBlock block) blocks word inside = (omega arith, goes (omega arith))
change-falls j count q c (file.PutIndirect change.TakeIndirect block) blocks word inside = (omega arith, goes (omega arith))
change-falls j count q c (file.PutIndirect change.GiveBlock block) blocks word inside = (omega arith, goes (omega arith))
change-falls j count q c (file.PutIndirect change.GiveIndirect block) blocks word inside = (omega arith, goes (omega arith))
change-falls j count q c file.PutMore blocks word inside = (omega arith, goes (omega arith))
change-falls j count q c (file.MakeName new from k) blocks word inside = (omega arith, goes (omega arith))
change-falls j count q c (file.PutName new from k byte ended) blocks word inside = (
  omega arith,
  either {b = nat_le 128 (k + 1)} (λ last. goes (omega arith))
      (λ more. either {b = ended} (λ over. goes (on (not-le 128 (k + 1) more))) (λ within. goes (then_on (not-le 128 (k + 1) more)))),
)
  where
    on : k + 1 < 128 → 7 * (128 - (k + 1)) + 6 * 32 + 20 - 1 + 6 ≤ 7 * (128 - k) + 6 * 32 + 20 - 1 + 0
    on less = omega (arith, less)

    then_on : k + 1 < 128 → 7 * (128 - (k + 1)) + 6 * 32 + 20 + 6 ≤ 7 * (128 - k) + 6 * 32 + 20 - 1 + 0
    then_on less = omega (arith, less)
change-falls j count q c (file.MakeWord new from n) blocks word inside =
    (omega arith, either (λ more. goes (on (is-less (n + 1) 32 more))) (λ last. goes (omega arith)))
  where
    on : n + 1 < 32 → 6 * (32 - (n + 1)) + 13 + 6 ≤ 6 * (32 - n) + 13 + 0
    on less = omega (arith, less)
change-falls j count q c (file.MakeFirst new from) blocks word inside = (omega arith, goes (omega arith))
change-falls j count q c (file.PutFirst new byte) blocks word inside = (omega arith, stops)
change-falls j count q c file.Empty blocks word inside = (omega arith, stops)
change-falls j count q c (file.StatByte k ended) blocks word inside = (omega arith, goes (omega arith))
change-falls j count q c (file.HandStat k byte ended) blocks word inside =
    (omega arith, either (λ last. stops) (λ more. goes (on (not-le 136 (k + 1) more))))
  where
    on : k + 1 < 136 → 7 * (136 - (k + 1)) + 7 + 1 ≤ 7 * (136 - k) + 1 + 0
    on less = omega (arith, less)

-- ---- each step

-- at a record the job stays at one
pub data Left (asks : ℕ) (next : TreeState) (n : ℕ) : Type 0 where
  left : (c : Changed) (p : FilePlace) → next.place ≡ Changing c p → calls_left next + asks ≤ n → Left asks next n

is-left : {asks n : ℕ} {t : TreeNext} {next : TreeState} → Falls asks t n → t ≡ GoOn next → Left asks next n
is-left stops e = absurd (cc e)
is-left {asks} {n} {t} {next} (goes {j} {count} {c} {place} few) e =
    let same : ◌≡◌ {A = TreeState} (record { job = j; count = count; place = Changing c place }) next = cc e in
    subst (λ (s : TreeState). Left asks s n) same (left c place refl few)

pub calls-fall-at : (count : ℕ) (state : TreeState) (word : ℕ) (c : Changed) (p : FilePlace) → state.place ≡ Changing c p → IsInside count (ask_at state) →
    (ask_calls (ask_at state) ≤ calls_left state + weight state)
    × ((next : TreeState) → next_at state word ≡ GoOn next → Left (ask_calls (ask_at state)) next (calls_left state + weight state))
calls-fall-at count state word c p is inside = by state.place is inside
  where
    by : (q : TreePlace) → q ≡ Changing c p → IsInside count (ask_by state q) →
        (ask_calls (ask_by state q) ≤ left_by state q + weight_by state q)
        × ((next : TreeState) → next_by state q word ≡ GoOn next → Left (ask_calls (ask_by state q)) next (left_by state q + weight_by state q))
    by (Walking place) e inside = absurd (cc e)
    by (Changing changed place) e inside =
        let it = change-falls state.job state.count state.place changed place count word inside in (it.0, λ next goes_on. is-left it.1 goes_on)

pub calls_are_left : CallsAreLeft
calls_are_left count state word changing bounded inside = by state.place refl changing
  where
    low : {next : TreeState} {asks n : ℕ} → Left asks next n → calls_left next + asks ≤ n
    low (left c p is few) = few

    by : (q : TreePlace) → state.place ≡ q → is_changing q ≡ true →
        (ask_calls (ask_at state) ≤ calls_left state + weight state)
        × ((next : TreeState) → next_at state word ≡ GoOn next → calls_left next + ask_calls (ask_at state) ≤ calls_left state + weight state)
    by (Walking place) is e = absurd (cc e)
    by (Changing c p) is e = let it = calls-fall-at count state word c p is inside in (it.0, λ next goes_on. low (it.1 next goes_on))
