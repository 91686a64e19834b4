-- A job comes along a path to the record to which it leads, or to where a record is missing, or is turned down.
use Rattle.std.proofs.Common.{◌≡◌, ◌∙◌, ◌*◌, ◌<◌, ◌==◌, ℕ, Bool, true, false, not, refl, sym, subst, arith}
use Rattle.std.proofs.Common.{List, [], length}
use Rattle.std.specs.Prelude.{nat_lt, if◌then◌else◌}
use Rattle.std.proofs.lemmas.Bool.{le-ltb, lt-ltb}
use Rattle.jos_base.specs.declared.numbers.TheConstants.{E_FILE_EXISTS, E_NOT_FOUND, E_NO_DISK}
use Rattle.fs_layout.specs.declared.numbers.TheConstants.{MAXFILESIZE, RECORDSIZE}
use Rattle.fs_layout.specs.DiskImage.{root_place, slot_count}
use Rattle.fs_layout.specs.FileActs.{is_good_path, names_in}
use Rattle.fs_acts.specs.BlockActs.{Led, a_record, astray, led_by, led_to, no_record, too_long}
use Rattle.fs_jobs.specs.declared.place.FilePlace.TheVariants as file
use Rattle.fs_jobs.specs.declared.place.Job.{Job}
use Rattle.fs_jobs.specs.declared.place.Job.TheVariants as job
use Rattle.fs_jobs.specs.declared.place.Seek.{Seek}
use Rattle.fs_jobs.specs.declared.place.TreeState.{TreeState}
use Rattle.fs_jobs.specs.declared.place.WalkPlace.TheVariants as walk
use Rattle.fs_jobs.specs.declared.asks.TreeNext.{TreeNext}
use Rattle.fs_jobs.specs.TreeBounds.{is_bounded, is_bounded_seek, is_place}
use Rattle.fs_runs.specs.TreePlans.{next_at}
use Rattle.fs_runs.specs.TreeRuns.{HasPath, IsSound, Memory}
use Rattle.fs_jobs.specs.TreeTests.{change_on, low_byte, refused, walk_on}
use Rattle.fs_walks.specs.WalkPlans.{changed_to, creates, found, missing, size_wanted, slot_taken, wants_new}
use Rattle.fs_runs.proofs.Leads.{at_once, here, leads_on, leads_to_end, on}
use Rattle.fs_runs.proofs.Pieces.{IsWalking, NamesAreSought, WalksFind, WalksMiss, WalksStray, at_file, at_walk, sought}
use Rattle.fs_runs.proofs.PathsSuper.{both-true}
use Rattle.fs_runs.proofs.Paths.{low-is, place-small, walk-bounded}
use Rattle.fs_runs.proofs.PathsNames.{rest-path, short-names}
use Rattle.fs_runs.proofs.PathsPlaces.{root-stands, standing}
use Rattle.fs_runs.proofs.PathsWalk.{IsOnWalk, WalkGoes, block-small, home-small, sought-bounded, walks}

-- ---- the whole path

-- a path that is not too long leads where its names lead
led-good : (byte : ℕ → ℕ) (path : List ℕ) (good : Bool) → is_good_path path ≡ good →
    led_to byte path ≡ (if good then led_by byte (names_in path) root_place else too_long)
unfolding led_to
led-good byte path true is = rw is refl
led-good byte path false is = rw is refl

goes-by : NamesAreSought → (count : ℕ) (j : Job) (m : Memory) (path : List ℕ) → IsOnWalk count j m path → (good : Bool) → is_good_path path ≡ good →
    WalkGoes count j m path (at_walk j count (walk.Component 0 root_place)) (if good then led_by m.disk (names_in path) root_place else too_long)
goes-by seeks count j m path walks_on true is =
    walks seeks count j m path walks_on (length path) path 0 root_place (omega arith) (standing count m [] root_place walks_on.sound (root-stands m.disk))
    (rest-path m.page path walks_on.has) (short-names path is)
goes-by seeks count j m path walks_on false is = tt

goes-to : NamesAreSought → (count : ℕ) (j : Job) (m : Memory) (path : List ℕ) (led : Led) → IsSound count m → HasPath m.page path → IsWalking j →
    led_to m.disk path ≡ led → WalkGoes count j m path (at_walk j count (walk.Component 0 root_place)) led
goes-to seeks count j m path led sound has walking e =
    subst (WalkGoes count j m path (at_walk j count (walk.Component 0 root_place))) (sym (led-good m.disk path (is_good_path path) refl) ∙ e)
    (goes-by seeks count j m path (record { sound = sound; has = has; walking = walking }) (is_good_path path) refl)

pub walks_stray : NamesAreSought → WalksStray
walks_stray seeks count j m path sound has walking e = goes-to seeks count j m path astray sound has walking e

-- ---- a record that is found

next-found : (state : TreeState) (home low : ℕ) (other : TreeNext) (new : Bool) → low ≡ 0 → wants_new state.job ≡ new →
    (if low == 0 then found state home else other) ≡ (if new then refused E_FILE_EXISTS else walk_on state (walk.FoundKind home))
next-found state home low other new is e = rw (is, e) refl

pub walks_find : NamesAreSought → WalksFind
walks_find seeks count j m path way place sound has walking e = (
  λ new. leads_to_end start m goes.1 1 (at_once state m bounded has.short (next-found state place (low_byte (m.page (length path))) _ true low new) refl),
  λ old. leads_on start m goes.1
      (on state (at_walk j count (walk.FoundKind place)) m bounded has.short (next-found state place (low_byte (m.page (length path))) _ false low old) here),
)
  where
    start : TreeState
    start = at_walk j count (walk.Component 0 root_place)

    state : TreeState
    state = at_walk j count (walk.Component (length path) place)

    goes : WalkGoes count j m path start (a_record place way)
    goes = goes-to seeks count j m path (a_record place way) sound has walking e

    low : low_byte (m.page (length path)) ≡ 0
    low = low-is m (length path) 0 sound.small has.ends

    bounded : is_bounded state ≡ true
    bounded = walk-bounded count j (walk.Component (length path) place) (block-small count goes.0.few) walking
        (both-true (is_place (length path)) (is_place place) (place-small (length path) (let fits = has.short in omega (arith, fits))) (home-small count m place goes.0))

-- ---- a record that is missing

next-missed : (state : TreeState) (seek : Seek) (low : ℕ) (other : TreeNext) → low ≡ 0 →
    (if low == 0 then missing state seek else other) ≡ missing state seek
next-missed state seek low other is = rw is refl

-- the decision there
missing-decided : (state : TreeState) (seek : Seek) (makes far : Bool) → creates state.job ≡ makes → nat_lt MAXFILESIZE (size_wanted seek) ≡ far →
    missing state seek ≡ (if not makes then refused E_NOT_FOUND else if far then refused E_NO_DISK
    else change_on state (job.Create seek.directory (slot_taken seek) seek.from)
    (changed_to seek.directory (seek.slots * RECORDSIZE) (size_wanted seek)) file.Indirect)
missing-decided state seek makes far e f = rw (e, f) refl

pub walks_miss : NamesAreSought → WalksMiss
walks_miss seeks count j m path name directory sound has walking e = (
  from,
  goes.1,
  goes.2,
  (
    λ no. leads_to_end start m goes.4.1 1 (at_once state m bounded has.short (next ∙ missing-decided state seek false (nat_lt MAXFILESIZE (size_wanted seek)) no refl) refl),
    λ yes far. leads_to_end start m goes.4.1 1 (at_once state m bounded has.short (next ∙ missing-decided state seek true true yes (lt-ltb MAXFILESIZE (size_wanted seek) far)) refl),
    λ yes near. leads_on start m goes.4.1
        (on state (at_file (job.Create directory (slot_taken seek) from) count (changed_to directory (slot_count m.disk directory * RECORDSIZE) (size_wanted seek)) file.Indirect)
        m bounded has.short (next ∙ missing-decided state seek true false yes (le-ltb MAXFILESIZE (size_wanted seek) near)) here),
  ),
)
  where
    start : TreeState
    start = at_walk j count (walk.Component 0 root_place)

    goes : WalkGoes count j m path start (no_record directory name)
    goes = goes-to seeks count j m path (no_record directory name) sound has walking e

    from : ℕ
    from = goes.0

    seek : Seek
    seek = sought m.disk directory from

    state : TreeState
    state = at_walk j count (walk.Missing seek (length path) goes.4.0)

    next : next_at state (m.page (length path)) ≡ missing state seek
    next = next-missed state seek (low_byte (m.page (length path))) _ (low-is m (length path) 0 sound.small has.ends)

    early : from < 4096
    early = let within = goes.1.at.within in let fits = has.short in omega (arith, within, fits)

    bounded : is_bounded state ≡ true
    bounded = walk-bounded count j (walk.Missing seek (length path) goes.4.0) (block-small count goes.3.few) walking
        (both-true (is_bounded_seek seek) (is_place (length path)) (sought-bounded count m directory from goes.3 early)
        (place-small (length path) (let fits = has.short in omega (arith, fits))))
