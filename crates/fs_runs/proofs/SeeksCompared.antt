-- The name of one record is compared with the name in the path, byte by byte.
use Rattle.std.proofs.Common.{◌≡◌, ◌≢◌, ◌∙◌, ◌+◌, ◌*◌, ◌%◌, ◌<◌, ◌≤◌, ◌==◌, ◌&&◌, ◌||◌, inl, inr, ℕ, zero, suc, Bool, true, false}
use Rattle.std.proofs.Common.{List, length, get_or}
use Rattle.std.proofs.Common.{refl, sym, ap, subst, arith, if◌then◌else◌}
use Rattle.std.specs.Prelude.{◌^◌, bytes_eq, nat_le}
use Rattle.std.proofs.lemmas.Bool.{and_left, and_right, cases_eq, cases_lt, eq-eqb, ne_eqb, eqb-true, eqb-false, lt-leb, lt-ltb}
use Rattle.std.proofs.lemmas.Bool.{or_from, or_left, or_right}
use Rattle.fs_layout.specs.declared.numbers.TheConstants.{MAXNAMELEN}
use Rattle.fs_layout.specs.DiskImage.{is_empty_record, name_of, slot_count, slot_place}
use Rattle.fs_layout.specs.FileActs.{is_slash}
use Rattle.fs_jobs.specs.declared.place.Job.{Job}
use Rattle.fs_jobs.specs.declared.place.Seek.{Seek}
use Rattle.fs_jobs.specs.declared.place.TreeState.{TreeState}
use Rattle.fs_jobs.specs.declared.place.WalkPlace.{WalkPlace}
use Rattle.fs_jobs.specs.declared.place.WalkPlace.TheVariants as walk
use Rattle.fs_jobs.specs.TreeBounds.{is_block, is_bounded_seek, is_place}
use Rattle.fs_runs.specs.TreeRuns.{Memory}
use Rattle.fs_jobs.specs.TreeTests.{low_byte, refused, walk_on}
use Rattle.fs_jobs.specs.declared.tests.TheConstants.{DAMAGED}
use Rattle.fs_walks.specs.WalkPlans.{next_slot, walk_next}
use Rattle.fs_runs.proofs.Leads.{Leads}
use Rattle.fs_runs.proofs.Pieces.{at_walk}
use Rattle.fs_runs.proofs.PlacesLie.{slot-lies}
use Rattle.fs_runs.proofs.SeeksNames.{HasBytes, names-differ, names-same, none-passes}
use Rattle.fs_runs.proofs.SeeksSteps.{Follows, Sought, all-three, block-bounded, block-data, block_at, else-follows, goes}
use Rattle.fs_runs.proofs.SeeksSteps.{seek-bounded, seek_at, then-follows, walk-step}

-- ---- bytes of the path

low-same : (b : ℕ) → b < 256 → b % 256 ≡ b
low-same b small = omega (arith, small)

-- the name ends at a byte
abbrev ends_at : ℕ → Bool
ends_at word = (low_byte word == 0) || is_slash (low_byte word)

name-byte : {count from directory : ℕ} {j : Job} {m : Memory} {path name : List ℕ} → Sought count j m path name from directory → (k : ℕ) →
    k < length name → m.page (from + k) ≡ get_or name k 0
name-byte {count} {from} {directory} {j} {m} {path} {name} known k below =
    let within = known.name_at.within in known.has_path.bytes (from + k) (omega (arith, within, below)) ∙ known.name_at.bytes k below

name-some : {count from directory : ℕ} {j : Job} {m : Memory} {path name : List ℕ} → Sought count j m path name from directory → (k : ℕ) →
    k < length name → (get_or name k 0 == 0) ≡ false
name-some {count} {from} {directory} {j} {m} {path} {name} known k below =
    let within = known.name_at.within in
    ap (λ b. b == 0) (sym (known.name_at.bytes k below))
    ∙ none-passes (λ b. b == 0) path (from + k) known.has_path.no_nul (omega (arith, within, below))

-- within the name there is no end
name-on : {count from directory : ℕ} {j : Job} {m : Memory} {path name : List ℕ} → Sought count j m path name from directory → (k : ℕ) →
    k < length name → ends_at (m.page (from + k)) ≡ false
name-on {count} {from} {directory} {j} {m} {path} {name} known k below =
    let byte : ℕ = get_or name k 0 in
    let is : low_byte (m.page (from + k)) ≡ byte =
    low-same (m.page (from + k)) (known.small.1 (from + k)) ∙ name-byte known k below in
    ap (λ b. (b == 0) || is_slash b) is
    ∙ or_from (byte == 0) (is_slash byte) (name-some known k below) (none-passes is_slash name k known.name_at.no_slash below)

-- behind it there is one
name-ends : {count from directory : ℕ} {j : Job} {m : Memory} {path name : List ℕ} → Sought count j m path name from directory →
    ends_at (m.page (from + length name)) ≡ true
name-ends {count} {from} {directory} {j} {m} {path} {name} known =
    ap (λ b. (b == 0) || is_slash b) (low-same (m.page at) (known.small.1 at)) ∙ elim known.name_at.ends [
      | inl last ↦ by_nul last
      | inr slash ↦ elim (cases_lt at (length path)) [
        | inl before ↦ or_right (m.page at == 0) (is_slash (m.page at)) (ap is_slash (known.has_path.bytes at before) ∙ slash)
        | inr behind ↦ let within = known.name_at.within in by_nul (omega (arith, behind, within))
      ]
    ]
  where
    at : ℕ
    at = from + length name

    by_nul : from + length name ≡ length path → ((m.page at == 0) || is_slash (m.page at)) ≡ true
    by_nul last = or_left (m.page at == 0) (is_slash (m.page at)) (eq-eqb (m.page at) 0 (ap m.page last ∙ known.has_path.ends))

-- ---- one byte

some-byte : (byte : ℕ → ℕ) (place k : ℕ) → is_empty_record byte place ≡ false → ((k == 0) && (byte (place + k) == 0)) ≡ false
some-byte byte place k filled = elim (cases_eq k 0) [
  | inl first ↦
      let same : place + k ≡ place = omega (arith, first) in
      and_right (k == 0) (byte (place + k) == 0) (ap (λ q. byte q == 0) same ∙ filled)
  | inr later ↦ and_left (k == 0) (byte (place + k) == 0) (ne_eqb k 0 later)
]

byte-read : {count from directory : ℕ} {j : Job} {m : Memory} {path name : List ℕ} {to : TreeState} {after : Memory} →
    Sought count j m path name from directory → (i e k : ℕ) → i < slot_count m.disk directory → k ≤ length name →
    is_empty_record m.disk (slot_place m.disk directory i) ≡ false →
    Leads count to after
    (at_walk j count (walk.PathByte (seek_at m from directory i e) (block_at m directory i) k (m.disk (slot_place m.disk directory i + k)))) m →
    Leads count to after (at_walk j count (walk.NameByte (seek_at m from directory i e) (block_at m directory i) k)) m
byte-read {count} {from} {directory} {j} {m} {path} {name} {to} {after} known i e k below le filled run =
    let seek : Seek = seek_at m from directory i e in
    let block : ℕ = block_at m directory i in
    let place : ℕ = slot_place m.disk directory i in
    let byte : ℕ = m.disk (place + k) in
    let low : low_byte byte ≡ byte = low-same byte (known.small.0 (place + k)) in
    let is_data = block-data known i below in
    let inside = (slot-lies count m.disk directory i is_data).inside in
    let short = known.name_at.short in
    walk-step j (walk.NameByte seek block k) m byte known.few known.job
    (all-three (is_bounded_seek seek) (is_block block) (is_place k) (seek-bounded known i e (omega (arith, below)))
    (block-bounded count block known.few is_data) (lt-ltb k (2 ^ 28) (omega (arith, le, short))))
    (near (4096 * count) place k (length name) inside le short) refl refl
    (else-follows m ((k == 0) && (low_byte byte == 0)) _ _
    (ap (λ b. (k == 0) && (b == 0)) low ∙ some-byte m.disk place k filled)
    (goes (at_walk j count (walk.PathByte seek block k (low_byte byte))) m
    (subst (λ b. Leads count to after (at_walk j count (walk.PathByte seek block k b)) m) (sym low) run)))
  where
    near : (all place k n : ℕ) → place + 256 ≤ all → k ≤ n → n < 128 → place + k < all
    near all place k n inside le short = omega (arith, inside, le, short)

path-read : {count from directory : ℕ} {j : Job} {m : Memory} {path name : List ℕ} {to : TreeState} {after : Memory} →
    Sought count j m path name from directory → (i e k byte : ℕ) → i < slot_count m.disk directory → k ≤ length name →
    Follows count to after m
    (walk_next (at_walk j count (walk.PathByte (seek_at m from directory i e) (block_at m directory i) k byte))
    (walk.PathByte (seek_at m from directory i e) (block_at m directory i) k byte) (m.page (from + k))) →
    Leads count to after (at_walk j count (walk.PathByte (seek_at m from directory i e) (block_at m directory i) k byte)) m
path-read {count} {from} {directory} {j} {m} {path} {name} known i e k byte below le follows =
    let seek : Seek = seek_at m from directory i e in
    let block : ℕ = block_at m directory i in
    let short = known.name_at.short in
    walk-step j (walk.PathByte seek block k byte) m (m.page (from + k)) known.few known.job
    (all-three (is_bounded_seek seek) (is_block block) (is_place k) (seek-bounded known i e (omega (arith, below)))
    (block-bounded count block known.few (block-data known i below)) (lt-ltb k (2 ^ 28) (omega (arith, le, short))))
    (near from k (length name) (length path) known.name_at.within le known.has_path.short) refl refl follows
  where
    near : (from k n long : ℕ) → from + n ≤ long → k ≤ n → long < 4096 → from + k < 4096
    near from k n long within le short = omega (arith, within, le, short)

-- behind the name
end-read : {count from directory : ℕ} {j : Job} {m : Memory} {path name : List ℕ} {to : TreeState} {after : Memory} →
    Sought count j m path name from directory → (i e byte : ℕ) → i < slot_count m.disk directory →
    (byte ≡ 0 → Leads count to after (at_walk j count (walk.Component (from + length name) (slot_place m.disk directory i))) m) →
    (byte ≢ 0 → (place : WalkPlace) →
    Follows count to after m (next_slot (at_walk j count place) (seek_at m from directory i e) (block_at m directory i))) →
    Leads count to after (at_walk j count (walk.PathByte (seek_at m from directory i e) (block_at m directory i) (length name) byte)) m
end-read {count} {from} {directory} {j} {m} {path} {name} {to} {after} known i e byte below named other =
    path-read known i e (length name) byte below (omega arith)
    (then-follows m (ends_at (m.page (from + length name))) _ _ (name-ends known) (by_byte (byte == 0) refl))
  where
    home : WalkPlace
    home = walk.Component (from + length name) (slot_place m.disk directory i)

    here : WalkPlace
    here = walk.PathByte (seek_at m from directory i e) (block_at m directory i) (length name) byte

    by_byte : (nul : Bool) → (byte == 0) ≡ nul →
        Follows count to after m
        (if byte == 0 then walk_on (at_walk j count here) home
        else next_slot (at_walk j count here) (seek_at m from directory i e) (block_at m directory i))
    by_byte true is = then-follows m (byte == 0) _ _ is (goes (at_walk j count home) m (named (eqb-true byte 0 is)))
    by_byte false is = else-follows m (byte == 0) _ _ is (other (eqb-false byte 0 is) here)

-- within it
within-read : {count from directory : ℕ} {j : Job} {m : Memory} {path name : List ℕ} {to : TreeState} {after : Memory} →
    Sought count j m path name from directory → (i e k byte : ℕ) → i < slot_count m.disk directory → k < length name →
    (byte ≡ get_or name k 0 →
    Leads count to after (at_walk j count (walk.NameByte (seek_at m from directory i e) (block_at m directory i) (k + 1))) m) →
    (byte ≢ get_or name k 0 → (place : WalkPlace) →
    Follows count to after m (next_slot (at_walk j count place) (seek_at m from directory i e) (block_at m directory i))) →
    Leads count to after (at_walk j count (walk.PathByte (seek_at m from directory i e) (block_at m directory i) k byte)) m
within-read {count} {from} {directory} {j} {m} {path} {name} {to} {after} known i e k byte below inside same other =
    path-read known i e k byte below (omega (arith, inside))
    (else-follows m (ends_at (m.page (from + k))) _ _ (name-on known k inside) (by_byte (low_byte (m.page (from + k)) == byte) refl))
  where
    seek : Seek
    seek = seek_at m from directory i e

    block : ℕ
    block = block_at m directory i

    here : TreeState
    here = at_walk j count (walk.PathByte seek block k byte)

    is_name : low_byte (m.page (from + k)) ≡ get_or name k 0
    is_name = low-same (m.page (from + k)) (known.small.1 (from + k)) ∙ name-byte known k inside

    room : (k n : ℕ) → k < n → n < 128 → nat_le 128 (k + 1) ≡ false
    room k n below short = lt-leb 128 (k + 1) (omega (arith, below, short))

    by_byte : (equal : Bool) → (low_byte (m.page (from + k)) == byte) ≡ equal →
        Follows count to after m
        (if low_byte (m.page (from + k)) == byte
        then (if nat_le MAXNAMELEN (k + 1) then refused DAMAGED else walk_on here (walk.NameByte seek block (k + 1)))
        else next_slot here seek block)
    by_byte true is =
        then-follows m (low_byte (m.page (from + k)) == byte) _ _ is
        (else-follows m (nat_le MAXNAMELEN (k + 1)) _ _ (room k (length name) inside known.name_at.short)
        (goes (at_walk j count (walk.NameByte seek block (k + 1))) m
        (same (sym (eqb-true (low_byte (m.page (from + k))) byte is) ∙ is_name))))
    by_byte false is =
        else-follows m (low_byte (m.page (from + k)) == byte) _ _ is
        (other (λ e. eqb-false (low_byte (m.page (from + k))) byte is (is_name ∙ sym e)) (walk.PathByte seek block k byte))

-- ---- the name

-- From a byte up to which both are the same, the name is found to be the one or another.
pub compared : {count from directory : ℕ} {j : Job} {m : Memory} {path name : List ℕ} {to : TreeState} {after : Memory} →
    Sought count j m path name from directory → (i e : ℕ) → i < slot_count m.disk directory →
    is_empty_record m.disk (slot_place m.disk directory i) ≡ false →
    (bytes_eq (name_of m.disk (slot_place m.disk directory i)) name ≡ true →
    Leads count to after (at_walk j count (walk.Component (from + length name) (slot_place m.disk directory i))) m) →
    (bytes_eq (name_of m.disk (slot_place m.disk directory i)) name ≡ false → (place : WalkPlace) →
    Follows count to after m (next_slot (at_walk j count place) (seek_at m from directory i e) (block_at m directory i))) →
    (left k : ℕ) → left + k ≡ length name → ((h : ℕ) → h < k → m.disk (slot_place m.disk directory i + h) ≡ get_or name h 0) →
    Leads count to after (at_walk j count (walk.NameByte (seek_at m from directory i e) (block_at m directory i) k)) m
compared {count} {from} {directory} {j} {m} {path} {name} {to} {after} known i e below filled named other zero k ends same =
    subst (λ n. Leads count to after (at_walk j count (walk.NameByte (seek_at m from directory i e) (block_at m directory i) n)) m) (sym whole)
    (byte-read known i e (length name) below (omega arith) filled
    (end-read known i e (m.disk (place + length name)) below
    (λ nul.
    named
    (names-same m.disk place name known.name_at.short (λ h inside. eqb-false (get_or name h 0) 0 (name-some known h inside))
    (record { bytes = λ h inside. same h (omega (arith, inside, whole)); ends = nul })))
    (λ more. other (names-differ m.disk place name known.name_at.short (λ (has : HasBytes m.disk place name). more has.ends)))))
  where
    place : ℕ
    place = slot_place m.disk directory i

    whole : k ≡ length name
    whole = omega (arith, ends)
compared {count} {from} {directory} {j} {m} {path} {name} {to} {after} known i e below filled named other (suc left) k ends same =
    byte-read known i e k below (omega (arith, ends)) filled
    (within-read known i e k (m.disk (place + k)) below inside
    (λ equal. compared known i e below filled named other left (k + 1) (omega (arith, ends)) (further equal))
    (λ unlike. other (names-differ m.disk place name known.name_at.short (λ (has : HasBytes m.disk place name). unlike (has.bytes k inside)))))
  where
    place : ℕ
    place = slot_place m.disk directory i

    inside : k < length name
    inside = omega (arith, ends)

    further : m.disk (place + k) ≡ get_or name k 0 → (h : ℕ) → h < k + 1 → m.disk (place + h) ≡ get_or name h 0
    further equal h below = elim (cases_eq h k) [
      | inl last ↦ subst (λ q. m.disk (place + q) ≡ get_or name q 0) (sym last) equal
      | inr before ↦ same h (omega (arith, below, before))
    ]
