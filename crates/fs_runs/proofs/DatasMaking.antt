-- The run that makes a record.
use Rattle.std.proofs.Common.{◌≡◌, ◌∙◌, ◌+◌, ◌*◌, ◌/◌, ◌%◌, ◌<◌, ◌≤◌, ◌&&◌, ℕ, zero, suc, Bool, true, false}
use Rattle.std.proofs.Common.{List, length, get_or, refl, sym, ap, subst, arith, inl, inr, if◌then◌else◌}
use Rattle.std.specs.Prelude.{nat_le, nat_lt}
use Rattle.std.proofs.lemmas.Bool.{cases_lt}
use Rattle.std.proofs.lemmas.Bool.Decides.{nat_tests}
use Rattle.fs_layout.specs.declared.numbers.TheConstants.{BLKFILES, MAXNAMELEN}
use Rattle.fs_layout.specs.DiskImage.{block_number_at, indirect_of, is_data_block, slot_place}
use Rattle.fs_layout.specs.FileTree.{blocks_of}
use Rattle.fs_acts.specs.BlockActs.{make_record, name_byte, put_byte, put_word, stored, written}
use Rattle.fs_jobs.specs.declared.place.Changed.{Changed}
use Rattle.fs_jobs.specs.declared.place.FilePlace.{FilePlace}
use Rattle.fs_jobs.specs.declared.place.FilePlace.TheVariants as file
use Rattle.fs_jobs.specs.declared.place.Job.{Job}
use Rattle.fs_jobs.specs.declared.place.Job.TheVariants as job
use Rattle.fs_jobs.specs.declared.place.TreeState.{TreeState}
use Rattle.fs_jobs.specs.declared.place.Wanted.TheVariants as wanted
use Rattle.fs_jobs.specs.declared.asks.TreeNext.{TreeNext}
use Rattle.fs_jobs.specs.declared.asks.TreeNext.TheVariants.{GoOn}
use Rattle.fs_changes.specs.ChangePlans.{name_ends}
use Rattle.fs_jobs.specs.TreeBounds.{is_bounded, is_bounded_changed, is_bounded_job, is_place}
use Rattle.fs_runs.specs.TreeRuns.{AreSmall, HasPath, Memory}
use Rattle.fs_jobs.specs.TreeTests.{low_byte}
use Rattle.fs_runs.proofs.Leads.{Leads}
use Rattle.fs_runs.proofs.Pieces.{EndsWith, IsNameAt, NumbersAreRead, RecordsAreMade, at_file, with_disk}
use Rattle.fs_runs.proofs.DatasRuns.{bounded-file, ends_behind, ends_here, ends_on, is-count, is-place, low-byte}
use Rattle.fs_runs.proofs.DatasBytes.{data-block, few-blocks}
use Rattle.fs_runs.proofs.DatasMade.{NameByte, made-all, name-at, named-more, named-none, named_to, zeros-more, zeros-none, zeros_to}

-- a name of the path in the page, and a place on the disk where its record is made
record Makes (count : ℕ) (j : Job) (c : Changed) (m : Memory) (path name : List ℕ) (from new : ℕ) : Type 0 where
  pub few : count ≤ 16384
  pub job : is_bounded_job j ≡ true
  pub changed : is_bounded_changed c ≡ true
  pub small : AreSmall m
  pub stands : HasPath m.page path
  pub named : IsNameAt path from name
  pub inside : new + 256 ≤ 4096 * count
  pub even : new % 4 ≡ 0

-- ---- bounds, and bytes of the name

new-place : {count : ℕ} {j : Job} {c : Changed} {m : Memory} {path name : List ℕ} {from new : ℕ} → Makes count j c m path name from new →
    is_place new ≡ true
new-place {count} {new = new} makes = let few = makes.few in let inside = makes.inside in is-place new (omega (arith, few, inside))

from-place : {count : ℕ} {j : Job} {c : Changed} {m : Memory} {path name : List ℕ} {from new : ℕ} → Makes count j c m path name from new →
    is_place from ≡ true
from-place {from = from} makes =
    let within = makes.named.within in
    let short = makes.stands.short in
    is-place from (omega (arith, within, short))

behind-zero : (name : List ℕ) (k : ℕ) → length name ≤ k → name_byte name k ≡ 0
behind-zero name k past = let test : nat_lt k (length name) ≡ false = grind (arith, nat_tests) in rw test refl

within-byte : (name : List ℕ) (k : ℕ) → k < length name → name_byte name k ≡ get_or name k 0
within-byte name k less = let test : nat_lt k (length name) ≡ true = grind (arith, nat_tests) in rw test refl

name-is : {count : ℕ} {j : Job} {c : Changed} {m : Memory} {path name : List ℕ} {from new : ℕ} → Makes count j c m path name from new →
    (k : ℕ) → k < length name → m.page (from + k) ≡ name_byte name k
name-is {path = path} {name = name} {from = from} makes k less =
    let within = makes.named.within in
    makes.stands.bytes (from + k) (omega (arith, less, within)) ∙ makes.named.bytes k less ∙ sym (within-byte name k less)

name-small : {count : ℕ} {j : Job} {c : Changed} {m : Memory} {path name : List ℕ} {from new : ℕ} → Makes count j c m path name from new →
    (k : ℕ) → name_byte name k < 256
name-small {m = m} {name = name} {from = from} makes k = elim (cases_lt k (length name)) [
  | inl less ↦ subst (λ x. x < 256) (name-is makes k less) (makes.small.1 (from + k))
  | inr past ↦ subst (λ x. x < 256) (sym (behind-zero name k past)) (omega arith)
]

-- ---- the name

abbrev NamesFrom : ℕ → Job → Changed → Memory → List ℕ → ℕ → Memory → FilePlace → ℕ → Type 0
NamesFrom count j c m name new after place k = EndsWith count 0 after (at_file j count c place) (with_disk m (named_to m.disk new name k))

-- where it goes behind a byte
abbrev behind_name : ℕ → Job → Changed → ℕ → ℕ → ℕ → Bool → Bool → TreeNext
behind_name count j c new from k over ended =
    if over then GoOn (at_file j count c (file.MakeWord new from 0))
    else if ended then GoOn (at_file j count c (file.PutName new from (1 + k + 1) 0 true))
    else GoOn (at_file j count c (file.MakeName new from (1 + k + 1)))

put-turn : (count : ℕ) (j : Job) (c : Changed) (m after : Memory) (path name : List ℕ) (from new : ℕ) → Makes count j c m path name from new →
    (k : ℕ) → k < 127 → (ended : Bool) → ended ≡ nat_le (length name) (1 + k) →
    (k + 1 < 127 → 1 + k < length name → NamesFrom count j c m name new after (file.MakeName new from (1 + (k + 1))) (k + 1)) →
    (k + 1 < 127 → length name ≤ 1 + k → NamesFrom count j c m name new after (file.PutName new from (1 + (k + 1)) 0 true) (k + 1)) →
    NamesFrom count j c m name new after (file.MakeWord new from 0) 127 →
    NamesFrom count j c m name new after (file.PutName new from (1 + k) (name_byte name (1 + k)) ended) k
put-turn count j c m after path name from new makes k less ended is goes zeros done =
    let byte : ℕ = name_byte name (1 + k) in
    let inside = makes.inside in
    let here : TreeState = at_file j count c (file.PutName new from (1 + k) byte ended) in
    let now : Memory = with_disk m (named_to m.disk new name k) in
    let next : Memory = with_disk m (named_to m.disk new name (k + 1)) in
    let new_is = new-place makes in
    let from_is = from-place makes in
    let placed = is-place (1 + k) (omega (arith, less)) in
    let bounded : is_bounded here ≡ true =
    bounded-file j count c (file.PutName new from (1 + k) byte ended) makes.few makes.job makes.changed (λ i. new_is i && from_is i && placed i) in
    let stores : with_disk m (stored (put_byte (new + (1 + k)) (low_byte byte)) (named_to m.disk new name k)) ≡ next =
    ap (λ (d : ℕ → ℕ). with_disk m d)
    (ap (λ x. stored (put_byte (new + (1 + k)) x) (named_to m.disk new name k)) (low-byte byte (name-small makes (1 + k)))
    ∙ sym (named-more m.disk new name k)) in
    let same : 1 + (k + 1) ≡ 1 + k + 1 = omega arith in
    elim (cases_lt (k + 1) 127) [
      | inl more ↦
          let test : nat_le 128 (1 + k + 1) ≡ false = grind (arith, nat_tests) in
          elim (cases_lt (1 + k) (length name)) [
            | inl inner ↦
                let opened : nat_le (length name) (1 + k) ≡ false = grind (arith, nat_tests) in
                ends_behind here (at_file j count c (file.MakeName new from (1 + k + 1))) now next bounded (omega (arith, less, inside))
                (ap (λ (b : Bool). behind_name count j c new from k b ended) test
                ∙ ap (λ (b : Bool). behind_name count j c new from k false b) (is ∙ opened))
                stores (subst (λ x. NamesFrom count j c m name new after (file.MakeName new from x) (k + 1)) same (goes more inner))
            | inr past ↦
                let closed : nat_le (length name) (1 + k) ≡ true = grind (arith, nat_tests) in
                ends_behind here (at_file j count c (file.PutName new from (1 + k + 1) 0 true)) now next bounded (omega (arith, less, inside))
                (ap (λ (b : Bool). behind_name count j c new from k b ended) test
                ∙ ap (λ (b : Bool). behind_name count j c new from k false b) (is ∙ closed))
                stores (subst (λ x. NamesFrom count j c m name new after (file.PutName new from x 0 true) (k + 1)) same (zeros more past))
          ]
      | inr last ↦
          let test : nat_le 128 (1 + k + 1) ≡ true = grind (arith, nat_tests) in
          let whole : k + 1 ≡ 127 = omega (arith, last, less) in
          ends_behind here (at_file j count c (file.MakeWord new from 0)) now next bounded (omega (arith, less, inside))
          (ap (λ (b : Bool). behind_name count j c new from k b ended) test) stores
          (subst (λ x. NamesFrom count j c m name new after (file.MakeWord new from 0) x) (sym whole) done)
    ]

-- a byte of the path is read
make-turn : (count : ℕ) (j : Job) (c : Changed) (m after : Memory) (path name : List ℕ) (from new : ℕ) → Makes count j c m path name from new →
    (k : ℕ) → k < 127 → 1 + k ≤ length name →
    NamesFrom count j c m name new after (file.PutName new from (1 + k) (name_byte name (1 + k)) (nat_le (length name) (1 + k))) k →
    NamesFrom count j c m name new after (file.MakeName new from (1 + k)) k
make-turn count j c m after path name from new makes k less some rest =
    let w : ℕ = m.page (from + (1 + k)) in
    let here : TreeState = at_file j count c (file.MakeName new from (1 + k)) in
    let now : Memory = with_disk m (named_to m.disk new name k) in
    let new_is = new-place makes in
    let from_is = from-place makes in
    let placed = is-place (1 + k) (omega (arith, less)) in
    let within = makes.named.within in
    let short = makes.stands.short in
    let bounded : is_bounded here ≡ true =
    bounded-file j count c (file.MakeName new from (1 + k)) makes.few makes.job makes.changed (λ i. new_is i && from_is i && placed i) in
    let is : NameByte name (1 + k) w = name-at m.page path name from (1 + k) makes.stands makes.named some in
    ends_behind here (at_file j count c (file.PutName new from (1 + k) (name_byte name (1 + k)) (nat_le (length name) (1 + k)))) now now bounded
    (omega (arith, some, within, short))
    (ap (λ x. GoOn (at_file j count c (file.PutName new from (1 + k) (if name_ends x then 0 else x) (name_ends x)))) (low-byte w (makes.small.1 (from + (1 + k))))
    ∙ (λ i. GoOn (at_file j count c (file.PutName new from (1 + k) (is.byte i) (is.ends i)))))
    refl rest

name-loop : (count : ℕ) (j : Job) (c : Changed) (m after : Memory) (path name : List ℕ) (from new : ℕ) → Makes count j c m path name from new →
    NamesFrom count j c m name new after (file.MakeWord new from 0) 127 → (left k : ℕ) → k + suc left ≡ 127 →
    (1 + k ≤ length name → NamesFrom count j c m name new after (file.MakeName new from (1 + k)) k)
    × (length name ≤ k → NamesFrom count j c m name new after (file.PutName new from (1 + k) 0 true) k)
name-loop count j c m after path name from new makes done zero k sum =
    let turn = put-turn count j c m after path name from new makes k (omega (arith, sum)) in (
      λ some.
          make-turn count j c m after path name from new makes k (omega (arith, sum)) some
          (turn (nat_le (length name) (1 + k)) refl (λ more inner. absurd (omega (arith, sum, more))) (λ more past. absurd (omega (arith, sum, more))) done),
      λ past.
          let closed : nat_le (length name) (1 + k) ≡ true = grind (arith, nat_tests) in
          subst (λ x. NamesFrom count j c m name new after (file.PutName new from (1 + k) x true) k) (behind-zero name (1 + k) (omega (arith, past)))
          (turn true (sym closed) (λ more inner. absurd (omega (arith, sum, more))) (λ more further. absurd (omega (arith, sum, more))) done),
    )
name-loop count j c m after path name from new makes done (suc left) k sum =
    let turn = put-turn count j c m after path name from new makes k (omega (arith, sum)) in
    let rest = name-loop count j c m after path name from new makes done left (k + 1) (omega (arith, sum)) in (
      λ some.
          make-turn count j c m after path name from new makes k (omega (arith, sum)) some
          (turn (nat_le (length name) (1 + k)) refl (λ more inner. rest.0 (omega (arith, inner))) (λ more past. rest.1 (omega (arith, past))) done),
      λ past.
          let closed : nat_le (length name) (1 + k) ≡ true = grind (arith, nat_tests) in
          subst (λ x. NamesFrom count j c m name new after (file.PutName new from (1 + k) x true) k) (behind-zero name (1 + k) (omega (arith, past)))
          (turn true (sym closed) (λ more inner. rest.0 (omega (arith, inner))) (λ more further. rest.1 (omega (arith, further))) done),
    )

-- ---- the words behind it

abbrev ZerosFrom : ℕ → Job → Changed → Memory → List ℕ → ℕ → Memory → FilePlace → ℕ → Type 0
ZerosFrom count j c m name new after place k =
    EndsWith count 0 after (at_file j count c place) (with_disk m (zeros_to (named_to m.disk new name 127) new k))

zero-inside : (count new k : ℕ) → new + 256 ≤ 4096 * count → new % 4 ≡ 0 → k < 32 →
    (new + 128 + 4 * k + 4 ≤ 4096 * count) × ((new + 128 + 4 * k) % 4 ≡ 0)
zero-inside count new k inside even less = (omega (arith, inside, less), omega (arith, even))

zero-turn : (count : ℕ) (j : Job) (c : Changed) (m after : Memory) (path name : List ℕ) (from new : ℕ) → Makes count j c m path name from new →
    (k : ℕ) → k < 32 → (k + 1 < 32 → ZerosFrom count j c m name new after (file.MakeWord new from (k + 1)) (k + 1)) →
    ZerosFrom count j c m name new after (file.MakeFirst new from) 32 → ZerosFrom count j c m name new after (file.MakeWord new from k) k
zero-turn count j c m after path name from new makes k less goes done =
    let byte : ℕ → ℕ = named_to m.disk new name 127 in
    let here : TreeState = at_file j count c (file.MakeWord new from k) in
    let now : Memory = with_disk m (zeros_to byte new k) in
    let next : Memory = with_disk m (zeros_to byte new (k + 1)) in
    let new_is = new-place makes in
    let from_is = from-place makes in
    let counted = is-count k (omega (arith, less)) in
    let bounded : is_bounded here ≡ true =
    bounded-file j count c (file.MakeWord new from k) makes.few makes.job makes.changed (λ i. new_is i && from_is i && counted i) in
    let inside = zero-inside count new k makes.inside makes.even less in
    let stores : with_disk m (stored (put_word (new + MAXNAMELEN + 4 * k) 0) (zeros_to byte new k)) ≡ next =
    ap (λ (d : ℕ → ℕ). with_disk m d) (sym (zeros-more byte new k)) in
    let onward : Bool → TreeNext = λ b.
    if b then GoOn (at_file j count c (file.MakeWord new from (k + 1))) else GoOn (at_file j count c (file.MakeFirst new from)) in
    elim (cases_lt (k + 1) 32) [
      | inl more ↦
          let test : nat_lt (k + 1) 32 ≡ true = grind (arith, nat_tests) in
          ends_behind here (at_file j count c (file.MakeWord new from (k + 1))) now next bounded inside (ap onward test) stores (goes more)
      | inr last ↦
          let test : nat_lt (k + 1) 32 ≡ false = grind (arith, nat_tests) in
          let whole : k + 1 ≡ 32 = omega (arith, last, less) in
          ends_behind here (at_file j count c (file.MakeFirst new from)) now next bounded inside (ap onward test) stores
          (subst (λ x. ZerosFrom count j c m name new after (file.MakeFirst new from) x) (sym whole) done)
    ]

zero-loop : (count : ℕ) (j : Job) (c : Changed) (m after : Memory) (path name : List ℕ) (from new : ℕ) → Makes count j c m path name from new →
    ZerosFrom count j c m name new after (file.MakeFirst new from) 32 → (left k : ℕ) → k + suc left ≡ 32 →
    ZerosFrom count j c m name new after (file.MakeWord new from k) k
zero-loop count j c m after path name from new makes done zero k sum =
    zero-turn count j c m after path name from new makes k (omega (arith, sum)) (λ more. absurd (omega (arith, sum, more))) done
zero-loop count j c m after path name from new makes done (suc left) k sum =
    zero-turn count j c m after path name from new makes k (omega (arith, sum))
    (λ more. zero-loop count j c m after path name from new makes done left (k + 1) (omega (arith, sum))) done

-- ---- the first byte

first-ends : (count : ℕ) (j : Job) (c : Changed) (m : Memory) (path name : List ℕ) (from new : ℕ) → Makes count j c m path name from new →
    (byte : ℕ → ℕ) →
    EndsWith count 0 (with_disk m (stored (put_byte new (name_byte name 0)) byte)) (at_file j count c (file.MakeFirst new from)) (with_disk m byte)
first-ends count j c m path name from new makes byte =
    let v : ℕ = name_byte name 0 in
    let new_is = new-place makes in
    let from_is = from-place makes in
    let within = makes.named.within in
    let short = makes.stands.short in
    let some = makes.named.some in
    let inside = makes.inside in
    let plain : from ≡ from + 0 = omega arith in
    let is : low_byte (m.page from) ≡ v =
    low-byte (m.page from) (makes.small.1 from) ∙ ap m.page plain ∙ name-is makes 0 some in
    let first : is_bounded (at_file j count c (file.MakeFirst new from)) ≡ true =
    bounded-file j count c (file.MakeFirst new from) makes.few makes.job makes.changed (λ i. new_is i && from_is i) in
    let second : is_bounded (at_file j count c (file.PutFirst new v)) ≡ true =
    bounded-file j count c (file.PutFirst new v) makes.few makes.job makes.changed new_is in
    ends_behind (at_file j count c (file.MakeFirst new from)) (at_file j count c (file.PutFirst new v)) (with_disk m byte) (with_disk m byte) first
    (omega (arith, within, short)) (ap (λ x. GoOn (at_file j count c (file.PutFirst new x))) is) refl
    (ends_here (at_file j count c (file.PutFirst new v)) (with_disk m byte) second (omega (arith, inside)) refl
    (ap (λ x. with_disk m (stored (put_byte new x) byte)) (low-byte v (name-small makes 0))))

-- ---- the whole

make-ends : (count : ℕ) (j : Job) (c : Changed) (m : Memory) (path name : List ℕ) (from new : ℕ) → Makes count j c m path name from new →
    EndsWith count 0 (with_disk m (stored (put_byte new (name_byte name 0)) (zeros_to (named_to m.disk new name 127) new 32)))
    (at_file j count c (file.MakeName new from 1)) m
make-ends count j c m path name from new makes =
    let named : ℕ → ℕ = named_to m.disk new name 127 in
    let after : Memory = with_disk m (stored (put_byte new (name_byte name 0)) (zeros_to named new 32)) in
    let some = makes.named.some in
    let zeros : ZerosFrom count j c m name new after (file.MakeWord new from 0) 0 =
    zero-loop count j c m after path name from new makes (first-ends count j c m path name from new makes (zeros_to named new 32)) 31 0 refl in
    let words : NamesFrom count j c m name new after (file.MakeWord new from 0) 127 =
    subst (λ (d : ℕ → ℕ). EndsWith count 0 after (at_file j count c (file.MakeWord new from 0)) (with_disk m d)) (zeros-none named new) zeros in
    let run : NamesFrom count j c m name new after (file.MakeName new from 1) 0 =
    (name-loop count j c m after path name from new makes words 126 0 refl).0 (omega (arith, some)) in
    subst (λ (d : ℕ → ℕ). EndsWith count 0 after (at_file j count c (file.MakeName new from 1)) (with_disk m d)) (named-none m.disk new name) run

slot-inside : (block count slot : ℕ) → block < count → 4096 * block + 256 * (slot % 16) + 256 ≤ 4096 * count
slot-inside block count slot below = omega (arith, below)

slot-even : (block slot : ℕ) → (4096 * block + 256 * (slot % 16)) % 4 ≡ 0
slot-even block slot = omega arith

slot-block : (size slot : ℕ) → 256 * slot < size → slot / 16 < blocks_of size
slot-block size slot less = omega (arith, less)

pub records_are_made : NumbersAreRead → RecordsAreMade
records_are_made reads count directory slot from c m path name changes at_home has stands named some inside =
    let j : Job = job.Create directory slot from in
    let i : ℕ = slot / BLKFILES in
    let block : ℕ = block_number_at m.disk c.home i in
    let new : ℕ = slot_place m.disk c.home slot in
    let within : i < blocks_of c.size = slot-block c.size slot inside in
    let named_in = named.within in
    let short = stands.short in
    let few = changes.counted.2 in
    let one = has.0 i within in
    let below : block < count = (data-block count block one).1 in
    let indirect : c.indirect ≡ indirect_of m.disk c.home = sym changes.is_read.indirect in
    let slot_is = is-count slot (omega (arith, some)) in
    let from_is = is-place from (omega (arith, named_in, short)) in
    let makes : Makes count j c m path name from new = record {
      few = few;
      job = changes.job;
      changed = changes.bounded;
      small = changes.small;
      stands = stands;
      named = named;
      inside = slot-inside block count slot below;
      even = slot-even block slot;
    } in
    let run : Leads count (at_file j count c (file.MakeName new from 1)) m (at_file j count c (file.Number i (wanted.Making slot from))) m =
    reads count j c i (wanted.Making slot from) m changes.counted changes.small changes.lies changes.job changes.bounded (λ k. slot_is k && from_is k)
    (few-blocks c.size i changes.size_most within) one
    (λ far. ap (is_data_block count) (sym indirect) ∙ has.1 (omega (arith, far, within))) (inl indirect) in
    let ends = ends_on (at_file j count c (file.Number i (wanted.Making slot from))) m run (make-ends count j c m path name from new makes) in
    subst (λ (x : Memory). EndsWith count 0 x (at_file j count c (file.Number i (wanted.Making slot from))) m)
    (ap (λ (d : ℕ → ℕ). with_disk m d) (made-all m.disk c.home slot name)
    ∙ ap (λ h. with_disk m (written (make_record h slot name m.disk) m.disk)) at_home)
    ends
