-- A path is read byte by byte, and is turned down where it or a name in it is too long.
use Rattle.std.proofs.Common.{◌≡◌, ◌∙◌, ◌+◌, ◌<◌, ◌≤◌, ◌==◌, ◌&&◌, ℕ, suc, Bool, true, false, not, refl, sym, ap, subst, arith}
use Rattle.std.proofs.Common.{List, [], ◌∷◌, length, mod-eq_of_lt}
use Rattle.std.specs.Prelude.{◌||◌, cond, filter, nat_lt, nat_le, slice_index, if◌then◌else◌}
use Rattle.std.specs.List.{list_all, list_any, onto_first, slice_split}
use Rattle.std.proofs.Math.Bool.{and-false}
use Rattle.std.proofs.lemmas.Bool.{le-ltb, lt-ltb, leb-false, leb-true, ne_eqb}
use Rattle.jos_base.specs.declared.numbers.TheConstants.{E_BAD_PATH}
use Rattle.jos_base.specs.Words.{negated}
use Rattle.fs_layout.specs.declared.numbers.TheConstants.{MAXNAMELEN, MAXPATHLEN}
use Rattle.fs_layout.specs.FileActs.{is_empty, is_good_path, is_slash, names_in}
use Rattle.fs_jobs.specs.declared.place.Job.{Job}
use Rattle.fs_jobs.specs.declared.place.TreeState.{TreeState}
use Rattle.fs_jobs.specs.declared.place.WalkPlace.{WalkPlace}
use Rattle.fs_jobs.specs.declared.place.WalkPlace.TheVariants as walk
use Rattle.fs_jobs.specs.declared.asks.TreeNext.{TreeNext}
use Rattle.fs_jobs.specs.declared.asks.TreeNext.TheVariants.{GoOn}
use Rattle.fs_jobs.specs.TreeBounds.{is_block, is_bounded, is_bounded_job, is_bounded_walk, is_place}
use Rattle.fs_runs.specs.TreePlans.{next_at}
use Rattle.fs_runs.specs.TreeRuns.{AreSmall, HasPath, Memory}
use Rattle.fs_jobs.specs.TreeTests.{low_byte, refused, walk_on}
use Rattle.fs_walks.specs.WalkPlans.{run_behind}
use Rattle.fs_runs.proofs.Leads.{Leads, at_once, here, later, on}
use Rattle.fs_runs.proofs.Pieces.{EndsWith, IsWalking, PathsAreRead, at_walk, finding, opening}
use Rattle.fs_runs.proofs.PathsSuper.{both-true, goes-else, goes-where}

-- ---- bytes that stand in the page

-- these bytes stand in the page from a place on, with a NUL behind them; there is none in them
pub record Stands (page : ℕ → ℕ) (at : ℕ) (rest : List ℕ) : Type 0 where
  pub bytes : (k : ℕ) → k < length rest → page (at + k) ≡ slice_index rest k
  pub ends : page (at + length rest) ≡ 0
  pub no_nul : list_any (λ b. b == 0) rest ≡ false

pub or-false : (a b : Bool) → (a || b) ≡ false → (a ≡ false) × (b ≡ false)
or-false true b e = cc
or-false false b e = (refl, e)

pub stands-behind : (page : ℕ → ℕ) (at byte : ℕ) (rest : List ℕ) → Stands page at (byte ∷ rest) → Stands page (at + 1) rest
stands-behind page at byte rest s =
    record {
      bytes = λ k within. ap page (omega arith) ∙ s.bytes (suc k) (omega arith);
      ends = ap page (omega arith) ∙ s.ends;
      no_nul = (or-false (byte == 0) (list_any (λ b. b == 0) rest) s.no_nul).1;
    }

pub stands-first : (page : ℕ → ℕ) (at byte : ℕ) (rest : List ℕ) → Stands page at (byte ∷ rest) → page at ≡ byte
stands-first page at byte rest s = ap page (omega arith) ∙ s.bytes 0 (omega arith)

pub stands-last : (page : ℕ → ℕ) (at : ℕ) → Stands page at [] → page at ≡ 0
stands-last page at s = ap page (omega arith) ∙ s.ends

pub is-not-nul : (page : ℕ → ℕ) (at byte : ℕ) (rest : List ℕ) → Stands page at (byte ∷ rest) → (byte == 0) ≡ false
is-not-nul page at byte rest s = (or-false (byte == 0) (list_any (λ b. b == 0) rest) s.no_nul).0

pub stands-path : (page : ℕ → ℕ) (path : List ℕ) → HasPath page path → Stands page 0 path
stands-path page path has = record { bytes = λ k within. ap page (omega arith) ∙ has.bytes k within; ends = ap page (omega arith) ∙ has.ends; no_nul = has.no_nul }

-- a byte that is read is one
pub low-is : (m : Memory) (at byte : ℕ) → AreSmall m → m.page at ≡ byte → low_byte (m.page at) ≡ byte
low-is m at byte small e = mod-eq_of_lt (small.1 at) ∙ e

-- ---- states

pub walking-bounded : (j : Job) → IsWalking j → is_bounded_job j ≡ true
walking-bounded j (opening mode) = refl
walking-bounded j finding = refl

pub walk-bounded : (count : ℕ) (j : Job) (place : WalkPlace) → is_block count ≡ true → IsWalking j → is_bounded_walk place ≡ true →
    is_bounded (at_walk j count place) ≡ true
walk-bounded count j place small walking bounded =
    both-true (is_block count && is_bounded_job j) (is_bounded_walk place) (both-true (is_block count) (is_bounded_job j) small (walking-bounded j walking)) bounded

pub place-small : (n : ℕ) → n < 268435456 → is_place n ≡ true
place-small n few = lt-ltb n 268435456 few

-- ---- names that are short enough

abbrev short : List ℕ → Bool
short name = nat_lt (length name) MAXNAMELEN

-- the parts between slashes, where so many bytes of the first were read
abbrev short_from : ℕ → List (List ℕ) → Bool
short_from run [] = nat_lt run MAXNAMELEN
short_from run (part ∷ parts) = nat_lt (run + length part) MAXNAMELEN && list_all short parts

short-long : (run : ℕ) (parts : List (List ℕ)) → MAXNAMELEN ≤ run → short_from run parts ≡ false
short-long run [] long = le-ltb run MAXNAMELEN long
short-long run (part ∷ parts) long = ap (λ b. b && list_all short parts) (le-ltb (run + length part) MAXNAMELEN (omega arith))

short-all : (parts : List (List ℕ)) → list_all short parts ≡ short_from 0 parts
short-all [] = refl
short-all (part ∷ parts) =
    let same : length part ≡ 0 + length part = omega arith in
    ap (λ n. nat_lt n MAXNAMELEN && list_all short parts) same

short-slash : (run : ℕ) (parts : List (List ℕ)) → run < MAXNAMELEN → short_from run ([] ∷ parts) ≡ short_from 0 parts
short-slash run parts small = ap (λ b. b && list_all short parts) (lt-ltb (run + 0) MAXNAMELEN (omega arith)) ∙ short-all parts

short-onto : (run byte : ℕ) (parts : List (List ℕ)) → short_from run (onto_first byte parts) ≡ short_from (run + 1) parts
short-onto run byte [] = one (nat_lt (run + 1) MAXNAMELEN)
  where
    one : (b : Bool) → (b && true) ≡ b
    one true = refl
    one false = refl
short-onto run byte (part ∷ parts) =
    let same : run + length (byte ∷ part) ≡ (run + 1) + length part = omega arith in
    ap (λ n. nat_lt n MAXNAMELEN && list_all short parts) same

short-on : (run byte : ℕ) (rest : List ℕ) → run < MAXNAMELEN →
    short_from run (slice_split is_slash (byte ∷ rest)) ≡ short_from (run_behind run byte) (slice_split is_slash rest)
short-on run byte rest small = by (is_slash byte)
  where
    by : (b : Bool) → short_from run (cond b ([] ∷ slice_split is_slash rest) (onto_first byte (slice_split is_slash rest))) ≡ short_from (if b then 0 else run + 1) (slice_split is_slash rest)
    by true = short-slash run (slice_split is_slash rest) small
    by false = short-onto run byte (slice_split is_slash rest)

-- whether the rest of a path leaves room
abbrev good : ℕ → ℕ → List ℕ → Bool
good at run rest = nat_lt (at + length rest) MAXPATHLEN && short_from run (slice_split is_slash rest)

good-on : (at run byte : ℕ) (rest : List ℕ) → run < MAXNAMELEN → good at run (byte ∷ rest) ≡ good (at + 1) (run_behind run byte) rest
good-on at run byte rest small =
    let same : at + length (byte ∷ rest) ≡ (at + 1) + length rest = omega arith in
    ap (λ n. nat_lt n MAXPATHLEN && short_from run (slice_split is_slash (byte ∷ rest))) same
    ∙ ap (λ b. nat_lt ((at + 1) + length rest) MAXPATHLEN && b) (short-on run byte rest small)

good-end : (at run : ℕ) → at < MAXPATHLEN → run < MAXNAMELEN → good at run [] ≡ true
good-end at run fits small =
    both-true (nat_lt (at + 0) MAXPATHLEN) (nat_lt (run + 0) MAXNAMELEN && true) (lt-ltb (at + 0) MAXPATHLEN (omega arith))
    (both-true (nat_lt (run + 0) MAXNAMELEN) true (lt-ltb (run + 0) MAXNAMELEN (omega arith)) refl)

-- a name or the path is too long here
abbrev too_far : ℕ → ℕ → Bool
too_far at run = nat_le MAXNAMELEN run || nat_le MAXPATHLEN at

good-far : (at run : ℕ) (rest : List ℕ) → too_far at run ≡ true → good at run rest ≡ false
good-far at run rest far = by (nat_le MAXNAMELEN run) refl far
  where
    by : (b : Bool) → nat_le MAXNAMELEN run ≡ b → (b || nat_le MAXPATHLEN at) ≡ true → good at run rest ≡ false
    by true long e =
        ap (λ b. nat_lt (at + length rest) MAXPATHLEN && b) (short-long run (slice_split is_slash rest) (leb-true MAXNAMELEN run long))
        ∙ and-false (nat_lt (at + length rest) MAXPATHLEN)
    by false long e =
        let past : MAXPATHLEN ≤ at = leb-true MAXPATHLEN at e in
        ap (λ b. b && short_from run (slice_split is_slash rest)) (le-ltb (at + length rest) MAXPATHLEN (omega arith))

-- empty names are short
short-some : (parts : List (List ℕ)) → list_all short (filter (λ name. not (is_empty name)) parts) ≡ list_all short parts
short-some [] = refl
short-some ([] ∷ parts) = short-some parts
short-some ((byte ∷ bytes) ∷ parts) =
    let full : is_empty (byte ∷ bytes) ≡ false = ne_eqb (length (byte ∷ bytes)) 0 (omega arith) in
    ap (λ b. list_all short (cond (not b) ((byte ∷ bytes) ∷ filter (λ name. not (is_empty name)) parts) (filter (λ name. not (is_empty name)) parts))) full
    ∙ ap (λ b. short (byte ∷ bytes) && b) (short-some parts)

good-path : (path : List ℕ) → is_good_path path ≡ good 0 0 path
unfolding is_good_path names_in
good-path path =
    let same : length path ≡ 0 + length path = omega arith in
    ap (λ b. nat_lt (length path) MAXPATHLEN && b) (short-some (slice_split is_slash path) ∙ short-all (slice_split is_slash path))
    ∙ ap (λ n. nat_lt n MAXPATHLEN && short_from 0 (slice_split is_slash path)) same

-- ---- the run

-- where a byte leads
next-byte : (j : Job) (at run low byte : ℕ) → low ≡ byte → (byte == 0) ≡ false →
    (if low == 0 then walk_on (at_walk j 0 (walk.Path at run)) walk.Magic
    else if nat_le MAXNAMELEN (run_behind run low) || nat_le MAXPATHLEN (at + 1) then refused E_BAD_PATH
    else walk_on (at_walk j 0 (walk.Path at run)) (walk.Path (at + 1) (run_behind run low)))
    ≡ (if too_far (at + 1) (run_behind run byte) then refused E_BAD_PATH else GoOn (at_walk j 0 (walk.Path (at + 1) (run_behind run byte))))
next-byte j at run low byte is some = rw (is, some) refl

next-end : (j : Job) (at run low : ℕ) (other : TreeNext) → low ≡ 0 →
    (if low == 0 then walk_on (at_walk j 0 (walk.Path at run)) walk.Magic else other) ≡ GoOn (at_walk j 0 walk.Magic)
next-end j at run low other is = rw is refl

abbrev Told : ℕ → Job → Memory → TreeState → Bool → Type 0
Told count j m state true = Leads count (at_walk j 0 walk.Magic) m state m
Told count j m state false = EndsWith count (negated E_BAD_PATH) m state m

reads : (count : ℕ) (j : Job) (m : Memory) → AreSmall m → IsWalking j → (rest : List ℕ) (at run : ℕ) → at < MAXPATHLEN → run < MAXNAMELEN →
    Stands m.page at rest → Told count j m (at_walk j 0 (walk.Path at run)) (good at run rest)
reads count j m small walking [] at run fits short_run stands =
    let state : TreeState = at_walk j 0 (walk.Path at run) in
    let bounded = walk-bounded 0 j (walk.Path at run) refl walking (both-true (is_place at) (is_place run) (place-small at (omega arith)) (place-small run (omega arith))) in
    subst (Told count j m state) (sym (good-end at run fits short_run))
    (on state (at_walk j 0 walk.Magic) m bounded (omega arith) (next-end j at run (low_byte (m.page at)) _ (low-is m at 0 small (stands-last m.page at stands))) here)
reads count j m small walking (byte ∷ rest) at run fits short_run stands =
    subst (Told count j m state) (sym (good-on at run byte rest short_run)) (by (too_far (at + 1) (run_behind run byte)) refl
    (λ room few. reads count j m small walking rest (at + 1) (run_behind run byte) room few (stands-behind m.page at byte rest stands)))
  where
    state : TreeState
    state = at_walk j 0 (walk.Path at run)

    bounded : is_bounded state ≡ true
    bounded = walk-bounded 0 j (walk.Path at run) refl walking (both-true (is_place at) (is_place run) (place-small at (omega arith)) (place-small run (omega arith)))

    goes : next_at state (m.page at) ≡ (if too_far (at + 1) (run_behind run byte) then refused E_BAD_PATH else GoOn (at_walk j 0 (walk.Path (at + 1) (run_behind run byte))))
    goes = next-byte j at run (low_byte (m.page at)) byte (low-is m at byte small (stands-first m.page at byte rest stands)) (is-not-nul m.page at byte rest stands)

    told-before : (fits : Bool) (next : TreeState) → next_at state (m.page at) ≡ GoOn next → Told count j m next fits → Told count j m state fits
    told-before true next e run_on = on state next m bounded (omega arith) e run_on
    told-before false next e ends = (suc ends.0, later ends.0 state next m bounded (omega arith) e ends.1)

    by : (far : Bool) → too_far (at + 1) (run_behind run byte) ≡ far →
        (at + 1 < MAXPATHLEN → run_behind run byte < MAXNAMELEN → Told count j m (at_walk j 0 (walk.Path (at + 1) (run_behind run byte))) (good (at + 1) (run_behind run byte) rest)) →
        Told count j m state (good (at + 1) (run_behind run byte) rest)
    by true is onward =
        subst (Told count j m state) (sym (good-far (at + 1) (run_behind run byte) rest is))
        (1, at_once state m bounded (omega arith) (goes ∙ goes-where (too_far (at + 1) (run_behind run byte)) (refused E_BAD_PATH) (GoOn (at_walk j 0 (walk.Path (at + 1) (run_behind run byte)))) is) refl)
    by false is onward =
        let parts = or-false (nat_le MAXNAMELEN (run_behind run byte)) (nat_le MAXPATHLEN (at + 1)) is in
        let next : TreeState = at_walk j 0 (walk.Path (at + 1) (run_behind run byte)) in
        told-before (good (at + 1) (run_behind run byte) rest) next
        (goes ∙ goes-else (too_far (at + 1) (run_behind run byte)) (refused E_BAD_PATH) (GoOn next) is)
        (onward (leb-false MAXPATHLEN (at + 1) parts.1) (leb-false MAXNAMELEN (run_behind run byte) parts.0))

told-good : (count : ℕ) (j : Job) (m : Memory) (state : TreeState) (fits is : Bool) → fits ≡ is → Told count j m state fits → Told count j m state is
told-good count j m state fits is e told = subst (Told count j m state) e told

pub paths_are_read : PathsAreRead
paths_are_read count j path m small has walking =
    let told = reads count j m small walking path 0 0 (omega arith) (omega arith) (stands-path m.page path has) in
    let start : TreeState = at_walk j 0 (walk.Path 0 0) in (
      λ is. told-good count j m start (good 0 0 path) true (sym (good-path path) ∙ is) told,
      λ is. told-good count j m start (good 0 0 path) false (sym (good-path path) ∙ is) told,
    )
