-- A walk along the names of a path goes where the path leads.
use Rattle.std.proofs.Common.{◌≡◌, ◌∙◌, ◌+◌, ◌-◌, ◌*◌, ◌/◌, ◌<◌, ◌≤◌, ◌==◌, ◌&&◌, ℕ, zero, suc, Bool, true, false, refl, sym, ap, subst, arith}
use Rattle.std.proofs.Common.{List, [], ◌∷◌, length, Option, Some, None}
use Rattle.std.specs.Prelude.{slice_index, if◌then◌else◌, ⊤}
use Rattle.std.specs.List.{list_all}
use Rattle.std.proofs.lemmas.Bool.{lt-ltb}
use Rattle.jos_base.specs.declared.numbers.TheConstants.{E_NOT_FOUND}
use Rattle.jos_base.specs.Words.{negated}
use Rattle.fs_layout.specs.declared.numbers.TheConstants.{FTYPE_DIR, FTYPE_REG, MAXFILESIZE}
use Rattle.fs_layout.specs.DiskImage.{is_directory_at, kind_at, size_of, slot_count, slot_place}
use Rattle.fs_layout.specs.FileActs.{is_slash, names_in}
use Rattle.fs_acts.specs.BlockActs.{Led, a_record, astray, led_by, led_from_above, led_in, no_record, slot_named, too_long}
use Rattle.fs_jobs.specs.declared.place.Job.{Job}
use Rattle.fs_jobs.specs.declared.place.Seek.{Seek}
use Rattle.fs_jobs.specs.declared.place.TreeState.{TreeState}
use Rattle.fs_jobs.specs.declared.place.WalkPlace.TheVariants as walk
use Rattle.fs_jobs.specs.declared.tests.TheConstants.{DAMAGED}
use Rattle.fs_jobs.specs.TreeBounds.{is_block, is_bounded, is_bounded_seek, is_count, is_place}
use Rattle.fs_runs.specs.TreePlans.{next_at}
use Rattle.fs_runs.specs.TreeRuns.{HasPath, IsSound, Memory}
use Rattle.fs_jobs.specs.TreeTests.{low_byte, refused, walk_on}
use Rattle.fs_walks.specs.WalkPlans.{found}
use Rattle.fs_runs.proofs.Leads.{Leads, at_once, here, leads_on, leads_to_end, on}
use Rattle.fs_runs.proofs.Pieces.{EndsWith, IsDirectoryOf, IsLastName, IsNameAt, IsWalking, NamesAreSought, at_walk, sought}
use Rattle.fs_runs.proofs.PathsSuper.{both-true}
use Rattle.fs_runs.proofs.Paths.{is-not-nul, low-is, place-small, stands-first, walk-bounded}
use Rattle.fs_runs.proofs.PathsNames.{IsRest, behind_word, behind-other, name-at, names-nothing, names-other, names-slash, rest-behind, rest-word, short}
use Rattle.fs_runs.proofs.PathsNames.{short-parts, slashes-only, word_of, word-other}
use Rattle.fs_runs.proofs.PathsMissing.{MissGoes, misses}
use Rattle.fs_runs.proofs.PathsPlaces.{IsStanding, file-kind, slot-stands}

-- ---- what a walk has

pub record IsOnWalk (count : ℕ) (j : Job) (m : Memory) (path : List ℕ) : Type 0 where
  pub sound : IsSound count m
  pub has : HasPath m.page path
  pub walking : IsWalking j

-- the run to where the path leads
abbrev pub WalkGoes : ℕ → Job → Memory → List ℕ → TreeState → Led → Type 0
WalkGoes count j m path state too_long = ⊤
WalkGoes count j m path state astray = EndsWith count (negated E_NOT_FOUND) m state m
WalkGoes count j m path state (no_record directory name) =
    (at : ℕ) × IsLastName path at name × IsDirectoryOf m directory × IsStanding count m directory
    × ((within : Bool) × Leads count (at_walk j count (walk.Missing (sought m.disk directory at) (length path) within)) m state m)
WalkGoes count j m path state (a_record place way) =
    IsStanding count m place × Leads count (at_walk j count (walk.Component (length path) place)) m state m

-- a run before
walk-before : (count : ℕ) (j : Job) (m : Memory) (path : List ℕ) (state next : TreeState) (led : Led) → Leads count next m state m →
    WalkGoes count j m path next led → WalkGoes count j m path state led
walk-before count j m path state next too_long first goes = tt
walk-before count j m path state next astray first goes = leads_to_end state m first goes.0 goes.1
walk-before count j m path state next (no_record directory name) first goes =
    (goes.0, goes.1, goes.2, goes.3, (goes.4.0, leads_on state m first goes.4.1))
walk-before count j m path state next (a_record place way) first goes = (goes.0, leads_on state m first goes.1)

-- what a way leads to from a record of a directory
walk-above : (count : ℕ) (j : Job) (m : Memory) (path : List ℕ) (state : TreeState) (i : ℕ) (led : Led) → WalkGoes count j m path state led →
    WalkGoes count j m path state (led_from_above i led)
walk-above count j m path state i too_long goes = goes
walk-above count j m path state i astray goes = goes
walk-above count j m path state i (no_record directory name) goes = goes
walk-above count j m path state i (a_record place way) goes = goes

-- ---- one name

next-component : (state : TreeState) (from home low byte : ℕ) → low ≡ byte → (byte == 0) ≡ false →
    (if low == 0 then found state home else if is_slash low then walk_on state (walk.Component (from + 1) home) else walk_on state (walk.DirectoryKind from home))
    ≡ (if is_slash byte then walk_on state (walk.Component (from + 1) home) else walk_on state (walk.DirectoryKind from home))
next-component state from home low byte is some = rw (is, some) refl

next-kind : (state : TreeState) (from home kind : ℕ) → (kind == FTYPE_DIR) ≡ false → (kind == FTYPE_REG) ≡ true →
    (if kind == FTYPE_DIR then walk_on state (walk.DirectorySize from home) else if kind == FTYPE_REG then refused E_NOT_FOUND else refused DAMAGED)
    ≡ refused E_NOT_FOUND
next-kind state from home kind other file = rw (other, file) refl

pub block-small : (count : ℕ) → count ≤ 16384 → is_block count ≡ true
block-small count few = lt-ltb count 65536 (omega arith)

pub home-small : (count : ℕ) (m : Memory) (home : ℕ) → IsStanding count m home → is_place home ≡ true
home-small count m home it = place-small home (far home count it.inside it.few)
  where
    far : (home count : ℕ) → home + 256 ≤ 4096 * count → count ≤ 16384 → home < 268435456
    far home count a b = omega arith

-- the slots of a directory are few
pub sought-bounded : (count : ℕ) (m : Memory) (directory from : ℕ) → IsStanding count m directory → from < 4096 →
    is_bounded_seek (sought m.disk directory from) ≡ true
sought-bounded count m directory from it early =
    let slots : is_count (slot_count m.disk directory) ≡ true = lt-ltb (slot_count m.disk directory) 1048576 (few (size_of m.disk directory) it.short) in
    both-true (is_place from && is_place directory && is_count (slot_count m.disk directory)) (is_count (slot_count m.disk directory))
    (both-true (is_place from && is_place directory) (is_count (slot_count m.disk directory))
    (both-true (is_place from) (is_place directory) (place-small from (omega arith)) (home-small count m directory it)) slots) slots
  where
    few : (size : ℕ) → size ≤ MAXFILESIZE → size / 256 < 1048576
    few size most = omega arith

-- the last name, where no name is behind it
last-name : (page : ℕ → ℕ) (path : List ℕ) (from byte : ℕ) (rest : List ℕ) → IsRest page path from (byte ∷ rest) → is_slash byte ≡ false →
    IsNameAt path from (byte ∷ word_of rest) → names_in (behind_word rest) ≡ [] → IsLastName path from (byte ∷ word_of rest)
last-name page path from byte rest is other named none =
    let behind = rest-word page path (byte ∷ rest) from is in
    let wide : length (word_of (byte ∷ rest)) ≡ length (byte ∷ word_of rest) = ap length (word-other byte rest other) in
    let end : ℕ = from + length (byte ∷ word_of rest) in
    let stands : IsRest page path end (behind_word rest) =
    subst (λ l. IsRest page path end l) (behind-other byte rest other)
    (subst (λ n. IsRest page path (from + n) (behind_word (byte ∷ rest))) wide behind) in
    record {
      at = named;
      rest = λ k past within.
          let same : end + (k - end) ≡ k = omega (arith, past) in
          let inside : k - end < length (behind_word rest) = omega (arith, past, within, stands.long) in
          ap is_slash (ap (slice_index path) (sym same) ∙ stands.bytes (k - end) inside) ∙ slashes-only (behind_word rest) none (k - end) inside;
    }

-- a name that is missing
abbrev MissedLed : ℕ → List ℕ → List (List ℕ) → Led
MissedLed home name [] = no_record home name
MissedLed home name (next ∷ more) = astray

walk-missed : (count : ℕ) (j : Job) (m : Memory) (path : List ℕ) (home from byte : ℕ) (rest : List ℕ) (state : TreeState) → IsOnWalk count j m path →
    IsStanding count m home → is_directory_at m.disk home ≡ true → IsRest m.page path from (byte ∷ rest) → is_slash byte ≡ false →
    IsNameAt path from (byte ∷ word_of rest) → (names : List (List ℕ)) → names_in (behind_word rest) ≡ names →
    Leads count (at_walk j count (walk.Missing (sought m.disk home from) from true)) m state m →
    MissGoes count j m path (sought m.disk home from) (at_walk j count (walk.Missing (sought m.disk home from) from true)) names →
    WalkGoes count j m path state (MissedLed home (byte ∷ word_of rest) names)
walk-missed count j m path home from byte rest state walks it is stands other named [] e first goes = (
  from,
  last-name m.page path from byte rest stands other named e,
  record { way = it.way; stands = it.stands; kind = is },
  it,
  (goes.0, leads_on state m first goes.1),
)
walk-missed count j m path home from byte rest state walks it is stands other named (next ∷ more) e first goes =
    leads_to_end state m first goes.0 goes.1

missed-led : (byte : ℕ → ℕ) (home : ℕ) (name : List ℕ) (names : List (List ℕ)) (onward : ℕ → Led) →
    led_in byte home name names None onward ≡ MissedLed home name names
missed-led byte home name [] onward = refl
missed-led byte home name (next ∷ more) onward = refl

-- a name that was found
found-led : (byte : ℕ → ℕ) (home i : ℕ) (name : List ℕ) (names : List (List ℕ)) (onward : ℕ → Led) →
    led_in byte home name names (Some i) onward ≡ led_from_above i (onward (slot_place byte home i))
found-led byte home i name [] onward = refl
found-led byte home i name (next ∷ more) onward = refl

-- where names lead
abbrev led-if : (ℕ → ℕ) → List ℕ → List (List ℕ) → ℕ → Bool → Led
led-if byte name names home true = led_in byte home name names (slot_named byte home name) (led_by byte names)
led-if byte name names home false = astray

led-names : (byte : ℕ → ℕ) (name : List ℕ) (names : List (List ℕ)) (home : ℕ) (b : Bool) → is_directory_at byte home ≡ b →
    led_by byte (name ∷ names) home ≡ led-if byte name names home b
unfolding led_by
led-names byte name names home true is = rw is refl
led-names byte name names home false is = rw is refl

led-none : (byte : ℕ → ℕ) (home : ℕ) → led_by byte [] home ≡ a_record home []
unfolding led_by
led-none byte home = refl

-- ---- the names one after another

pub walks : NamesAreSought → (count : ℕ) (j : Job) (m : Memory) (path : List ℕ) → IsOnWalk count j m path → (n : ℕ) (rest : List ℕ) (from home : ℕ) →
    length rest ≤ n → IsStanding count m home → IsRest m.page path from rest → list_all short (names_in rest) ≡ true →
    WalkGoes count j m path (at_walk j count (walk.Component from home)) (led_by m.disk (names_in rest) home)
walks seeks count j m path walks_on n [] from home most it is fit =
    let same : from ≡ length path = omega (arith, is.long) in
    subst (WalkGoes count j m path (at_walk j count (walk.Component from home))) (sym (ap (λ l. led_by m.disk l home) names-nothing ∙ led-none m.disk home))
    (it, subst (λ k. Leads count (at_walk j count (walk.Component k home)) m (at_walk j count (walk.Component from home)) m) same here)
walks seeks count j m path walks_on zero (byte ∷ rest) from home most it is fit = absurd (omega arith)
walks seeks count j m path walks_on (suc n) (byte ∷ rest) from home most it is fit =
    by (is_slash byte) refl
    (λ fits. walks seeks count j m path walks_on n rest (from + 1) home (omega arith) it (rest-behind m.page path from byte rest is) fits)
    (λ at place less stands there fits. walks seeks count j m path walks_on n (behind_word rest) at place (omega (arith, less)) there stands fits)
  where
    state : TreeState
    state = at_walk j count (walk.Component from home)

    word : List ℕ
    word = byte ∷ word_of rest

    names : List (List ℕ)
    names = names_in (behind_word rest)

    early : from < 4096
    early = let long : from + suc (length rest) ≡ length path = is.long in let fits = walks_on.has.short in omega (arith, long, fits)

    few : is_block count ≡ true
    few = block-small count it.few

    bounded : is_bounded state ≡ true
    bounded = walk-bounded count j (walk.Component from home) few walks_on.walking
        (both-true (is_place from) (is_place home) (place-small from (omega (arith, early))) (home-small count m home it))

    at_kind : TreeState
    at_kind = at_walk j count (walk.DirectoryKind from home)

    bounded_kind : is_bounded at_kind ≡ true
    bounded_kind = walk-bounded count j (walk.DirectoryKind from home) few walks_on.walking
        (both-true (is_place from) (is_place home) (place-small from (omega (arith, early))) (home-small count m home it))

    goes : next_at state (m.page from)
        ≡ (if is_slash byte then walk_on state (walk.Component (from + 1) home) else walk_on state (walk.DirectoryKind from home))
    goes = next-component state from home (low_byte (m.page from)) byte
        (low-is m from byte walks_on.sound.small (stands-first m.page from byte rest is.stands)) (is-not-nul m.page from byte rest is.stands)

    -- a file has no names below it
    by_file : is_directory_at m.disk home ≡ false → EndsWith count (negated E_NOT_FOUND) m at_kind m
    by_file other = (
      1,
      at_once at_kind m bounded_kind (omega (arith, it.inside), omega (arith, it.even))
          (next-kind at_kind from home (kind_at m.disk home) other (file-kind (kind_at m.disk home) it.kind other)) refl,
    )

    by_slot : is_slash byte ≡ false → is_directory_at m.disk home ≡ true → IsNameAt path from word →
        ((at place : ℕ) → length (behind_word rest) ≤ length rest → IsRest m.page path at (behind_word rest) → IsStanding count m place →
        WalkGoes count j m path (at_walk j count (walk.Component at place)) (led_by m.disk names place)) →
        (slot : Option ℕ) → slot_named m.disk home word ≡ slot →
        WalkGoes count j m path at_kind (led_in m.disk home word names slot (led_by m.disk names))
    by_slot other is_directory named onward None e =
        let seek : Seek = sought m.disk home from in
        let told = seeks count j m path word from home walks_on.sound walks_on.has walks_on.walking named (record { way = it.way; stands = it.stands; kind = is_directory }) in
        subst (WalkGoes count j m path at_kind) (sym (missed-led m.disk home word names (led_by m.disk names)))
        (walk-missed count j m path home from byte rest at_kind walks_on it is_directory is other named names refl (told.1 e)
        (subst (MissGoes count j m path seek (at_walk j count (walk.Missing seek from true))) (ap names_in (behind-other byte rest other))
        (misses count j m path seek walks_on.sound.small walks_on.walking few (sought-bounded count m home from it early) walks_on.has.short (byte ∷ rest) from true is)))
    by_slot other is_directory named onward (Some i) e =
        let told = seeks count j m path word from home walks_on.sound walks_on.has walks_on.walking named (record { way = it.way; stands = it.stands; kind = is_directory }) in
        let behind = rest-word m.page path (byte ∷ rest) from is in
        let wide : length (word_of (byte ∷ rest)) ≡ length word = ap length (word-other byte rest other) in
        let stands : IsRest m.page path (from + length word) (behind_word rest) =
        subst (λ l. IsRest m.page path (from + length word) l) (behind-other byte rest other)
        (subst (λ k. IsRest m.page path (from + k) (behind_word (byte ∷ rest))) wide behind) in
        let less : length (behind_word rest) ≤ length rest =
        (let long : from + suc (length rest) ≡ length path = is.long in let more : (from + suc (length (word_of rest))) + length (behind_word rest) ≡ length path = stands.long in omega (arith, long, more)) in
        subst (WalkGoes count j m path at_kind) (sym (found-led m.disk home i word names (led_by m.disk names)))
        (walk-above count j m path at_kind i (led_by m.disk names (slot_place m.disk home i))
        (walk-before count j m path at_kind (at_walk j count (walk.Component (from + length word) (slot_place m.disk home i))) (led_by m.disk names (slot_place m.disk home i))
        (told.0 i e) (onward (from + length word) (slot_place m.disk home i) less stands (slot-stands count m home word i walks_on.sound it is_directory e))))

    by_kind : is_slash byte ≡ false → IsNameAt path from word →
        ((at place : ℕ) → length (behind_word rest) ≤ length rest → IsRest m.page path at (behind_word rest) → IsStanding count m place →
        WalkGoes count j m path (at_walk j count (walk.Component at place)) (led_by m.disk names place)) →
        (b : Bool) → is_directory_at m.disk home ≡ b → WalkGoes count j m path at_kind (led-if m.disk word names home b)
    by_kind other named onward true is_directory = by_slot other is_directory named onward (slot_named m.disk home word) refl
    by_kind other named onward false is_file = by_file is_file

    by : (b : Bool) → is_slash byte ≡ b →
        (list_all short (names_in rest) ≡ true → WalkGoes count j m path (at_walk j count (walk.Component (from + 1) home)) (led_by m.disk (names_in rest) home)) →
        ((at place : ℕ) → length (behind_word rest) ≤ length rest → IsRest m.page path at (behind_word rest) → IsStanding count m place → list_all short names ≡ true →
        WalkGoes count j m path (at_walk j count (walk.Component at place)) (led_by m.disk names place)) →
        WalkGoes count j m path state (led_by m.disk (names_in (byte ∷ rest)) home)
    by true slash onward further =
        let same = names-slash byte rest slash in
        subst (λ l. WalkGoes count j m path state (led_by m.disk l home)) (sym same)
        (walk-before count j m path state (at_walk j count (walk.Component (from + 1) home)) (led_by m.disk (names_in rest) home)
        (on state (at_walk j count (walk.Component (from + 1) home)) m bounded early (goes ∙ rw slash refl) here)
        (onward (ap (list_all short) (sym same) ∙ fit)))
    by false other onward further =
        let same = names-other byte rest other in
        let fits = short-parts word names (ap (list_all short) (sym same) ∙ fit) in
        let named = name-at m.page path from byte rest is other fits.0 in
        subst (WalkGoes count j m path state) (sym (ap (λ l. led_by m.disk l home) same ∙ led-names m.disk word names home (is_directory_at m.disk home) refl))
        (walk-before count j m path state at_kind (led-if m.disk word names home (is_directory_at m.disk home))
        (on state at_kind m bounded early (goes ∙ rw other refl) here)
        (by_kind other named (λ at place less stands there. further at place less stands there fits.1) (is_directory_at m.disk home) refl))
