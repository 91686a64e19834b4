-- A record that is itself another on the other disk, while all that stood below it is as it was.
use Rattle.std.proofs.Common.{◌≡◌, ◌∙◌, ◌⊎◌, inl, inr, ℕ, ◌+◌, ◌-◌, ◌<◌, ◌≤◌, ◌==◌, zero, suc, Bool, true, false}
use Rattle.std.proofs.Common.{List, ◌++◌, replicate, Option, Some, None, refl, sym, ap, subst, arith, length-append}
use Rattle.std.specs.Prelude.{bytes_eq, if◌then◌else◌}
use Rattle.std.proofs.lemmas.List.{get_or_append_left, get_or-append_right, get_or-replicate, length-replicate}
use Rattle.jos_base.specs.Counting.{total}
use Rattle.fs_layout.specs.FileTree.{NamedNode, listed}
use Rattle.jos_base.specs.Below.{values_below}
use Rattle.fs_layout.specs.DiskImage.{kind_at, name_of, is_good_kind, is_good_name, is_directory_at}
use Rattle.fs_layout.specs.DiskImage.{is_empty_record, slot_count, slot_place, has_taken_name}
use Rattle.fs_layout.specs.DiskFiles.{named_of, node_of, records_at}
use Rattle.jos_base.proofs.Below.{length-values, get_or-values, is-values, some_below-same}
use Rattle.fs_acts.specs.BlockActs.{is_named_slot}
use Rattle.fs_acts.specs.BlockLaws.{IsGoodRecord, IsGoodSlot, AreGood, own_times, times_named}
use Rattle.fs_acts.proofs.Fields.{SameLabel}
use Rattle.fs_acts.proofs.Named.{IsNamed, is-named, named-is, slots, times_below}
use Rattle.fs_acts.proofs.Records.{Alike, times-alike, named-alike}
use Rattle.fs_acts.proofs.Staying.{AllFrom, slot-stays, all-from}
use Rattle.fs_acts.proofs.Ways.{tree-list}

-- ---- sums and lists that go on with nothing

below_or_past : (a b : ℕ) → (a < b) ⊎ (b ≤ a)
below_or_past zero zero = inr (omega arith)
below_or_past zero (suc b) = inl (omega arith)
below_or_past (suc a) zero = inr (omega arith)
below_or_past (suc a) (suc b) = elim (below_or_past a b) [ inl lt ↦ inl (omega (arith, lt)) | inr le ↦ inr (omega (arith, le)) ]

total-longer : (m n : ℕ) (g h : ℕ → ℕ) → n ≤ m → ((q : ℕ) → q < n → g q ≡ h q) → ((q : ℕ) → n ≤ q → q < m → h q ≡ 0) →
    total n g ≡ total m h
unfolding total
total-longer zero zero g h le same none = refl
total-longer zero (suc n) g h le same none = absurd (omega arith)
total-longer (suc m) zero g h le same none =
    let rest = total-longer m zero g h (omega arith) same (λ q past within. none q past (omega arith)) in
    let last = none m (omega arith) (omega arith) in
    omega (arith, rest, last)
total-longer (suc m) (suc n) g h le same none = elim (below_or_past n m) [
  | inl lt ↦
      let rest = total-longer m (suc n) g h (omega (arith, lt)) same (λ q past within. none q past (omega arith)) in
      let last = none m (omega (arith, lt)) (omega arith) in
      omega (arith, rest, last)
  | inr past ↦
      let at : n ≡ m = omega (arith, past, le) in
      let rest = total-longer m n g h (omega (arith, at)) (λ q within. same q (omega arith)) (λ q low within. absurd (omega (arith, at, low, within))) in
      let last = same n (omega arith) in
      let same_at = ap h at in
      omega (arith, rest, last, same_at)
]

pub values-longer : {X : Type 0} (m n : ℕ) (f g : ℕ → X) (x d : X) → n ≤ m → ((q : ℕ) → q < n → f q ≡ g q) →
    ((q : ℕ) → n ≤ q → q < m → g q ≡ x) → values_below n f ++ replicate (m - n) x ≡ values_below m g
values-longer m n f g x d le same rest =
    let long = length-values n f in
    is-values (values_below n f ++ replicate (m - n) x) m g d
    (length-append (values_below n f) (replicate (m - n) x)
    ∙ (let more = length-replicate (m - n) x in omega (arith, long, more, le)))
    (λ q within. elim (below_or_past q n) [
      | inl low ↦
          get_or_append_left (values_below n f) (replicate (m - n) x) d q (omega (arith, low, long))
          ∙ get_or-values n f q d low ∙ same q low
      | inr past ↦
          get_or-append_right (values_below n f) (replicate (m - n) x) n q d long past
          ∙ get_or-replicate (m - n) (q - n) x d (omega (arith, past, within)) ∙ sym (rest q past within)
    ])

-- ---- a directory

-- Its records stand where they stood and are called what they were called; those that are new are empty.
pub record SlotsGo (byte other : ℕ → ℕ) (place : ℕ) : Type 0 where
  pub directory : is_directory_at byte place ≡ is_directory_at other place
  pub more : slot_count byte place ≤ slot_count other place
  pub places : (i : ℕ) → i < slot_count byte place → slot_place byte place i ≡ slot_place other place i
  pub labels : (i : ℕ) → is_directory_at byte place ≡ true → i < slot_count byte place → SameLabel byte other (slot_place byte place i)
  pub empty : (i : ℕ) → is_directory_at byte place ≡ true → slot_count byte place ≤ i → i < slot_count other place →
      is_empty_record other (slot_place other place i) ≡ true

clash : (b : Bool) → b ≡ true → b ≡ false → ⊥
clash true is no_more = cc
clash false is no_more = cc

same-empty : (byte other : ℕ → ℕ) (place i : ℕ) → SlotsGo byte other place → is_directory_at byte place ≡ true →
    i < slot_count byte place → is_empty_record byte (slot_place byte place i) ≡ is_empty_record other (slot_place other place i)
same-empty byte other place i go is within =
    ap (λ b. b == 0) ((go.labels i is within).first) ∙ ap (λ p. is_empty_record other p) (go.places i within)

go-back : (byte other : ℕ → ℕ) (place i : ℕ) → SlotsGo byte other place → IsNamed other place i → IsNamed byte place i
go-back byte other place i go named =
    let is = go.directory ∙ named.is in
    elim (below_or_past i (slot_count byte place)) [
      | inl within ↦ record { is = is; within = within; filled = same-empty byte other place i go is within ∙ named.filled }
      | inr past ↦ absurd (clash (is_empty_record other (slot_place other place i)) (go.empty i is past named.within) named.filled)
    ]

go-taken : (byte other : ℕ → ℕ) (place i : ℕ) → SlotsGo byte other place → IsNamed byte place i →
    has_taken_name byte place i ≡ has_taken_name other place i
unfolding has_taken_name
go-taken byte other place i go named =
    let name : (j : ℕ) → j < slot_count byte place →
    name_of byte (slot_place byte place j) ≡ name_of other (slot_place other place j) =
    λ j below. (go.labels j named.is below).name ∙ ap (name_of other) (go.places j below) in
    some_below-same i (λ j. bytes_eq (name_of byte (slot_place byte place j)) (name_of byte (slot_place byte place i)))
    (λ j. bytes_eq (name_of other (slot_place other place j)) (name_of other (slot_place other place i)))
    (λ j below.
    let within = named.within in
    λ k. bytes_eq (name j (omega (arith, below, within)) k) (name i within k))

go-slot : (byte other : ℕ → ℕ) (place i : ℕ) → SlotsGo byte other place → IsNamed byte place i → IsGoodSlot byte place i →
    IsGoodSlot other place i
go-slot byte other place i go named good =
    let label = go.labels i named.is named.within in
    let at = go.places i named.within in
    record {
      kind = subst (λ n. is_good_kind n ≡ true) (label.kind ∙ ap (kind_at other) at) good.kind;
      named = subst (λ n. is_good_name n ≡ true) (label.name ∙ ap (name_of other) at) good.named;
      alone = sym (go-taken byte other place i go named) ∙ good.alone;
    }

-- all below it is as it was
abbrev pub BelowAlike : ℕ → (ℕ → ℕ) → (ℕ → ℕ) → ℕ → Type 0
BelowAlike depth byte other place = (i : ℕ) → IsNamed byte place i → Alike depth byte other (slot_place byte place i)

-- so all ways lead where they led
go-there : (byte other : ℕ → ℕ) (place i : ℕ) → SlotsGo byte other place → IsNamed byte place i → is_named_slot other place i ≡ true
go-there byte other place i go named =
    let more = go.more in
    let within = named.within in
    named-is other place i
    (record {
      is = sym go.directory ∙ named.is;
      within = omega (arith, more, within);
      filled = sym (same-empty byte other place i go named.is named.within) ∙ named.filled;
    })

pub go-stay : (depth : ℕ) (byte other : ℕ → ℕ) (place : ℕ) → SlotsGo byte other place → BelowAlike depth byte other place →
    AllFrom byte other place
go-stay depth byte other place go below =
    all-from byte other place (sym go.directory)
    (λ i named way at leads.
    slot-stays byte other place i way at (go-there byte other place i go named) (go.places i named.within)
    ((below i named).stay way at leads))

pub go-good : (depth : ℕ) (byte other : ℕ → ℕ) (place : ℕ) → AreGood (suc depth) byte place → SlotsGo byte other place →
    IsGoodRecord other place → BelowAlike depth byte other place → AreGood (suc depth) other place
unfolding AreGood
go-good depth byte other place good go own below = (
  own,
  λ i is.
      let named = go-back byte other place i go (is-named other place i is) in (
        go-slot byte other place i go named (good.1 i (named-is byte place i named)).0,
        subst (AreGood depth other) (go.places i named.within) (below i named).good,
      ),
)

-- what it and those below it name
go-below : (depth : ℕ) (byte other : ℕ → ℕ) (place block i : ℕ) → SlotsGo byte other place → is_directory_at byte place ≡ true →
    i < slot_count byte place → BelowAlike depth byte other place →
    times_below depth byte place block i ≡ times_below depth other place block i
go-below depth byte other place block i go is within below =
    times-alike depth byte other place block i
    (λ filled. (below i (record { is = is; within = within; filled = filled })).times block)
    ∙ (λ k. if (go.labels i is within).first k == 0 then 0 else times_named depth other (slot_place byte place i) block)
    ∙ ap (λ p. if is_empty_record other p then 0 else times_named depth other p block) (go.places i within)

none-empty : (depth : ℕ) (other : ℕ → ℕ) (place block i : ℕ) → is_empty_record other (slot_place other place i) ≡ true →
    times_below depth other place block i ≡ 0
none-empty depth other place block i empty = rw empty refl

go-totals : (depth : ℕ) (byte other : ℕ → ℕ) (place block : ℕ) → SlotsGo byte other place → BelowAlike depth byte other place →
    total (slots byte place) (times_below depth byte place block) ≡ total (slots other place) (times_below depth other place block)
unfolding total
go-totals depth byte other place block go below = by_kind (is_directory_at byte place) refl
  where
    by_kind : (kind : Bool) → is_directory_at byte place ≡ kind →
        total (slots byte place) (times_below depth byte place block) ≡ total (slots other place) (times_below depth other place block)
    by_kind true is =
        let too = sym go.directory ∙ is in
        rw (is, too)
        (total-longer (slot_count other place) (slot_count byte place) (times_below depth byte place block)
        (times_below depth other place block) go.more
        (λ i within. go-below depth byte other place block i go is within below)
        (λ i past within. none-empty depth other place block i (go.empty i is past within)))
    by_kind false is = let too = sym go.directory ∙ is in rw (is, too) refl

pub go-times : (depth : ℕ) (byte other : ℕ → ℕ) (place : ℕ) (gain loss : ℕ → ℕ) → SlotsGo byte other place →
    BelowAlike depth byte other place →
    ((block : ℕ) → own_times other place block + loss block ≡ own_times byte place block + gain block) → (block : ℕ) →
    times_named (suc depth) other place block + loss block ≡ times_named (suc depth) byte place block + gain block
unfolding times_named
go-times depth byte other place gain loss go below own block =
    let totals = go-totals depth byte other place block go below in
    let here = own block in
    omega (arith, totals, here)

-- the list of its records
go-named : (depth : ℕ) (byte other : ℕ → ℕ) (place i : ℕ) → SlotsGo byte other place → is_directory_at byte place ≡ true →
    i < slot_count byte place → BelowAlike depth byte other place →
    named_of (records_at depth byte) byte (slot_place byte place i) ≡ named_of (records_at depth other) other (slot_place other place i)
go-named depth byte other place i go is within below =
    let label = go.labels i is within in
    let there : ℕ = slot_place byte place i in
    named-alike depth byte other there (λ filled. (below i (record { is = is; within = within; filled = filled })).node)
    ∙ (λ k. if label.first k == 0 then None
    else Some (record { name = label.name k; node = node_of (records_at depth other) other there }))
    ∙ ap (named_of (records_at depth other) other) (go.places i within)

named-empty : (depth : ℕ) (other : ℕ → ℕ) (place : ℕ) → is_empty_record other place ≡ true →
    named_of (records_at depth other) other place ≡ None
named-empty depth other place empty = rw empty refl

pub go-list : (depth : ℕ) (byte other : ℕ → ℕ) (place : ℕ) → SlotsGo byte other place → is_directory_at byte place ≡ true →
    BelowAlike depth byte other place →
    listed (records_at (suc depth) byte place) ++ replicate (slot_count other place - slot_count byte place) None
    ≡ listed (records_at (suc depth) other place)
go-list depth byte other place go is below =
    ap (λ (l : List (Option NamedNode)). l ++ replicate (slot_count other place - slot_count byte place) None) (tree-list depth byte place)
    ∙ values-longer (slot_count other place) (slot_count byte place)
    (λ i. named_of (records_at depth byte) byte (slot_place byte place i))
    (λ i. named_of (records_at depth other) other (slot_place other place i)) None None go.more
    (λ i within. go-named depth byte other place i go is within below)
    (λ i past within. named-empty depth other (slot_place other place i) (go.empty i is past within))
    ∙ sym (tree-list depth other place)

-- ---- a file

pub file-good : (depth : ℕ) (byte : ℕ → ℕ) (place : ℕ) → is_directory_at byte place ≡ false → IsGoodRecord byte place →
    AreGood depth byte place
unfolding AreGood
file-good zero byte place is good = (good, λ directory. absurd (clash (is_directory_at byte place) directory is))
file-good (suc depth) byte place is good =
    (good, λ i named. absurd (clash (is_directory_at byte place) (is-named byte place i named).is is))

pub file-times : (depth : ℕ) (byte : ℕ → ℕ) (place block : ℕ) → is_directory_at byte place ≡ false →
    times_named depth byte place block ≡ own_times byte place block
unfolding times_named total
file-times zero byte place block is = refl
file-times (suc depth) byte place block is = rw is (plain (own_times byte place block))
  where
    plain : (n : ℕ) → n + 0 ≡ n
    plain n = omega arith
