-- Where the names of a path stand, one byte after the other.
use Rattle.std.proofs.Common.{◌≡◌, ◌≢◌, ℕ, ◌+◌, ◌-◌, ◌*◌, ◌<◌, ◌≤◌, List, [], ◌∷◌, ◌++◌, length, get_or, drop, Bool, true, false, Some, None}
use Rattle.std.proofs.Common.{refl, ap, ◌∙◌, arith, add-one, length-append, drop-cons}
use Rattle.std.specs.Prelude.{◌&&◌, nat_lt, if◌then◌else◌, Result, Ok, Err, OnErr}
use Rattle.std.specs.List.{list_all, All}
use Rattle.std.proofs.lemmas.List.Elements.{All-nil, All-cons, All-append}
use Rattle.std.proofs.lemmas.List.Sums.{AllPass-from_list_all}
use Rattle.std.proofs.Math.Bool.{and-false}
use Rattle.std.proofs.lemmas.Bool.{le-ltb, lt-ltb, ltb-false, ltb-true, ne_eqb}
use Rattle.std.proofs.lemmas.List.{drop_all, append-nil}
use Rattle.std.proofs.lemmas.List.Folds.{list_all-append}
use Rattle.fs_layout.specs.declared.paths.Span.{Span}
use Rattle.fs_layout.specs.declared.numbers.TheConstants.{MAXNAMELEN, MAXPATHLEN}
use Rattle.fs_layout.specs.FileActs.{is_slash}
use Rattle.fs_layout.specs.Paths.{span_between, spans_from, name_spans, is_short, parts_of, LiesIn}

-- ---- one byte

pub spans-end : (from at : ℕ) (path : List ℕ) → length path ≤ at → spans_from from at (drop at path) ≡ span_between from at
unfolding spans_from
spans-end from at path past = rw (drop_all at path past) refl

pub spans-slash : (from at : ℕ) (path : List ℕ) → at < length path → get_or path at 0 ≡ 47 →
    spans_from from at (drop at path) ≡ span_between from at ++ spans_from (at + 1) (at + 1) (drop (at + 1) path)
unfolding spans_from
spans-slash from at path within slash = rw (drop-cons path at 0 within, slash, add-one) refl

-- what is put behind the others takes no more room than its bytes and the slash
pub length-more : (names : List Span) (from to : ℕ) → 2 * length names ≤ from → from ≤ to → 2 * length (names ++ span_between from to) ≤ to + 1
length-more names from to room order =
    let go : (b : Bool) → nat_lt from to ≡ b → 2 * length (names ++ (if b then record { from = from; to = to } ∷ [] else [])) ≤ to + 1 =
    λ b. elim b as (λ (b : Bool). nat_lt from to ≡ b → 2 * length (names ++ (if b then record { from = from; to = to } ∷ [] else [])) ≤ to + 1)
    [ true ↦ (λ e. let lt : from < to = ltb-true from to e in rw (length-append names (record { from = from; to = to } ∷ [])) (omega arith)) | false ↦ (λ e. rw (append-nil names) (omega arith)) ] in
    go (nat_lt from to) refl

pub spans-other : (from at : ℕ) (path : List ℕ) → at < length path → get_or path at 0 ≢ 47 →
    spans_from from at (drop at path) ≡ spans_from from (at + 1) (drop (at + 1) path)
unfolding spans_from
spans-other from at path within other =
    let no_slash : is_slash (get_or path at 0) ≡ false = ne_eqb (get_or path at 0) 47 other in
    rw (drop-cons path at 0 within, no_slash, add-one) refl

-- ---- which are short

pub short-between : (from to : ℕ) → nat_lt (to - from) MAXNAMELEN ≡ true → list_all is_short (span_between from to) ≡ true
short-between from to h = elim (nat_lt from to) as (λ (b : Bool). list_all is_short (if b then record { from = from; to = to } ∷ [] else []) ≡ true) [ true ↦ rw h refl | false ↦ refl ]

pub short-more : (names : List Span) (from to : ℕ) → list_all is_short names ≡ true → nat_lt (to - from) MAXNAMELEN ≡ true →
    list_all is_short (names ++ span_between from to) ≡ true
short-more names from to short h = rw (list_all-append is_short names (span_between from to), short, short-between from to h) refl

long-between : (from to : ℕ) → nat_lt (to - from) MAXNAMELEN ≡ false → list_all is_short (span_between from to) ≡ false
long-between from to h =
    let far : MAXNAMELEN ≤ to - from = ltb-false (to - from) MAXNAMELEN h in
    let some : nat_lt from to ≡ true = lt-ltb from to (omega arith) in
    rw (some, h) refl

long-among : (names rest : List Span) (from to : ℕ) → nat_lt (to - from) MAXNAMELEN ≡ false →
    list_all is_short (names ++ (span_between from to ++ rest)) ≡ false
long-among names rest from to h =
    list_all-append is_short names (span_between from to ++ rest)
    ∙ ap (λ b. list_all is_short names && b) (list_all-append is_short (span_between from to) rest ∙ ap (λ b. b && list_all is_short rest) (long-between from to h))
    ∙ and-false (list_all is_short names)

-- ---- what is answered

pub parts-long_path : (path : List ℕ) → MAXPATHLEN ≤ length path → parts_of path ≡ None
unfolding parts_of
parts-long_path path long = rw (le-ltb (length path) MAXPATHLEN long) refl

pub parts-long_name : (path : List ℕ) (names rest : List Span) (from to : ℕ) → names ++ (span_between from to ++ rest) ≡ name_spans path →
    nat_lt (to - from) MAXNAMELEN ≡ false → parts_of path ≡ None
unfolding parts_of
parts-long_name path names rest from to whole h =
    let long : list_all is_short (name_spans path) ≡ false = rw (← whole) (long-among names rest from to h) in
    rw (long, and-false (nat_lt (length path) MAXPATHLEN)) refl

pub parts-passed : (path : List ℕ) (names : List Span) → length path < MAXPATHLEN → names ≡ name_spans path → list_all is_short names ≡ true →
    parts_of path ≡ Some names
unfolding parts_of
parts-passed path names fits whole short = rw (← whole, lt-ltb (length path) MAXPATHLEN fits, short) refl

-- what doesn't look at the error
pub on_err : {T E : Type 0} {P : Type 0} (r : Result T E) → P → OnErr r P
on_err (Ok x) p = tt
on_err (Err e) p = p

-- ---- where they lie

-- it has bytes and ends in the path
abbrev Stays : ℕ → Span → Type 0
Stays total span = (span.from < span.to) × (span.to ≤ total)

stays-between : (total from to : ℕ) → to ≤ total → All (Stays total) (span_between from to)
stays-between total from to within =
    (elim (nat_lt from to) as (λ (b : Bool). nat_lt from to ≡ b → All (Stays total) (if b then record { from = from; to = to } ∷ [] else []))
    [ true ↦ (λ e. All-cons (Stays total) (record { from = from; to = to }) [] (ltb-true from to e, within) (All-nil (Stays total))) | false ↦ (λ e. All-nil (Stays total)) ]) refl

spans-stay : (total : ℕ) (rest : List ℕ) (from at : ℕ) → at + length rest ≡ total → All (Stays total) (spans_from from at rest)
unfolding spans_from
spans-stay total [] from at ends = stays-between total from at (omega arith)
spans-stay total (byte ∷ rest) from at ends =
    elim (is_slash byte) as (λ (b : Bool). All (Stays total) (if b then span_between from at ++ spans_from (at + 1) (at + 1) rest else spans_from from (at + 1) rest)) [
      | true ↦ All-append (Stays total) (span_between from at) (spans_from (at + 1) (at + 1) rest) (stays-between total from at (omega arith)) (spans-stay total rest (at + 1) (at + 1) (omega arith))
      | false ↦ spans-stay total rest from (at + 1) (omega arith)
    ]

pub parts-lie : (path : List ℕ) (names : List Span) → names ≡ name_spans path → list_all is_short names ≡ true → All (LiesIn (length path)) names
parts-lie path names whole short k d within =
    let stay : All (Stays (length path)) names = rw whole (spans-stay (length path) path 0 0 (omega arith)) in
    let here = stay k d within in
    record { some = here.0; within = here.1; short = ltb-true _ _ (AllPass-from_list_all is_short names short k d within) }
