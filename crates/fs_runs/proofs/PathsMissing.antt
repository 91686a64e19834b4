-- A name that is missing is the last of its path, or other names follow it.
use Rattle.std.proofs.Common.{◌≡◌, ◌∙◌, ◌+◌, ◌<◌, ◌==◌, ℕ, suc, Bool, true, false, refl, sym, ap, subst, arith}
use Rattle.std.proofs.Common.{List, [], ◌∷◌, length}
use Rattle.std.specs.Prelude.{if◌then◌else◌}
use Rattle.jos_base.specs.declared.numbers.TheConstants.{E_NOT_FOUND}
use Rattle.jos_base.specs.Words.{negated}
use Rattle.fs_layout.specs.FileActs.{is_slash, names_in}
use Rattle.fs_jobs.specs.declared.place.Job.{Job}
use Rattle.fs_jobs.specs.declared.place.Seek.{Seek}
use Rattle.fs_jobs.specs.declared.place.TreeState.{TreeState}
use Rattle.fs_jobs.specs.declared.place.WalkPlace.TheVariants as walk
use Rattle.fs_jobs.specs.declared.asks.TreeNext.TheVariants.{GoOn}
use Rattle.fs_jobs.specs.TreeBounds.{is_block, is_bounded, is_bounded_seek, is_place}
use Rattle.fs_runs.specs.TreePlans.{next_at}
use Rattle.fs_runs.specs.TreeRuns.{AreSmall, Memory}
use Rattle.fs_jobs.specs.TreeTests.{low_byte, refused, walk_on}
use Rattle.fs_walks.specs.WalkPlans.{missing}
use Rattle.fs_runs.proofs.Leads.{Leads, at_once, here, later, on}
use Rattle.fs_runs.proofs.Pieces.{EndsWith, IsWalking, at_walk}
use Rattle.fs_runs.proofs.PathsSuper.{both-true}
use Rattle.fs_runs.proofs.Paths.{is-not-nul, low-is, place-small, stands-first, walk-bounded}
use Rattle.fs_runs.proofs.PathsNames.{IsRest, behind_word, behind-other, behind-slash, names-nothing, names-other, names-slash, rest-behind}

-- the run to the end of the path, where no names are left, and the end where there are some
abbrev pub MissGoes : ℕ → Job → Memory → List ℕ → Seek → TreeState → List (List ℕ) → Type 0
MissGoes count j m path seek state [] = (within : Bool) × Leads count (at_walk j count (walk.Missing seek (length path) within)) m state m
MissGoes count j m path seek state (name ∷ names) = EndsWith count (negated E_NOT_FOUND) m state m

-- the names that are left, behind the name or in it
abbrev pub names_left : Bool → List ℕ → List (List ℕ)
names_left true rest = names_in (behind_word rest)
names_left false rest = names_in rest

left-nothing : (within : Bool) → names_left within [] ≡ []
left-nothing true = names-nothing
left-nothing false = names-nothing

left-slash : (within : Bool) (byte : ℕ) (rest : List ℕ) → is_slash byte ≡ true → names_left within (byte ∷ rest) ≡ names_left false rest
left-slash true byte rest is = ap names_in (behind-slash byte rest is) ∙ names-slash byte rest is
left-slash false byte rest is = names-slash byte rest is

next-missing : (state : TreeState) (seek : Seek) (at low byte : ℕ) (within : Bool) → low ≡ byte → (byte == 0) ≡ false →
    (if low == 0 then missing state seek
    else if is_slash low then walk_on state (walk.Missing seek (at + 1) false)
    else if within then walk_on state (walk.Missing seek (at + 1) true)
    else refused E_NOT_FOUND)
    ≡ (if is_slash byte then walk_on state (walk.Missing seek (at + 1) false)
    else if within then walk_on state (walk.Missing seek (at + 1) true)
    else refused E_NOT_FOUND)
next-missing state seek at low byte within is some = rw (is, some) refl

pub misses : (count : ℕ) (j : Job) (m : Memory) (path : List ℕ) (seek : Seek) → AreSmall m → IsWalking j → is_block count ≡ true →
    is_bounded_seek seek ≡ true → length path < 4096 → (rest : List ℕ) (at : ℕ) (within : Bool) → IsRest m.page path at rest →
    MissGoes count j m path seek (at_walk j count (walk.Missing seek at within)) (names_left within rest)
misses count j m path seek small walking few bounded_seek fits [] at within is =
    let same : at ≡ length path = omega (arith, is.long) in
    subst (MissGoes count j m path seek (at_walk j count (walk.Missing seek at within))) (sym (left-nothing within))
    (within, subst (λ n. Leads count (at_walk j count (walk.Missing seek n within)) m (at_walk j count (walk.Missing seek at within)) m) same here)
misses count j m path seek small walking few bounded_seek fits (byte ∷ rest) at within is =
    by (is_slash byte) refl within refl
    (λ w. misses count j m path seek small walking few bounded_seek fits rest (at + 1) w (rest-behind m.page path at byte rest is))
  where
    state : TreeState
    state = at_walk j count (walk.Missing seek at within)

    further : Bool → TreeState
    further w = at_walk j count (walk.Missing seek (at + 1) w)

    early : at < 4096
    early = let long : at + suc (length rest) ≡ length path = is.long in omega (arith, long, fits)

    bounded : is_bounded state ≡ true
    bounded = walk-bounded count j (walk.Missing seek at within) few walking (both-true (is_bounded_seek seek) (is_place at) bounded_seek (place-small at (omega (arith, early))))

    goes : next_at state (m.page at) ≡ (if is_slash byte then GoOn (further false) else if within then GoOn (further true) else refused E_NOT_FOUND)
    goes = next-missing state seek at (low_byte (m.page at)) byte within (low-is m at byte small (stands-first m.page at byte rest is.stands)) (is-not-nul m.page at byte rest is.stands)

    before : (next : TreeState) (names : List (List ℕ)) → next_at state (m.page at) ≡ GoOn next → MissGoes count j m path seek next names →
        MissGoes count j m path seek state names
    before next [] e onward = (onward.0, on state next m bounded early e onward.1)
    before next (name ∷ names) e onward = (suc onward.0, later onward.0 state next m bounded early e onward.1)

    by : (b : Bool) → is_slash byte ≡ b → (w : Bool) → within ≡ w →
        ((w : Bool) → MissGoes count j m path seek (further w) (names_left w rest)) →
        MissGoes count j m path seek state (names_left within (byte ∷ rest))
    by true slash w e onward =
        subst (MissGoes count j m path seek state) (sym (left-slash within byte rest slash))
        (before (further false) (names_left false rest) (goes ∙ rw slash refl) (onward false))
    by false other true e onward =
        subst (MissGoes count j m path seek state) (sym (ap (λ w. names_left w (byte ∷ rest)) e ∙ ap names_in (behind-other byte rest other)))
        (before (further true) (names_left true rest) (goes ∙ rw (other, e) refl) (onward true))
    by false other false e onward =
        subst (MissGoes count j m path seek state) (sym (ap (λ w. names_left w (byte ∷ rest)) e ∙ names-other byte rest other))
        (1, at_once state m bounded early (goes ∙ rw (other, e) refl) refl)
