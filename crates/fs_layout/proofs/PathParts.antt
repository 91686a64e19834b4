-- What stands at the places of a path's names are its names.
use Rattle.std.proofs.Common.{◌≡◌, ℕ, ◌+◌, ◌-◌, ◌≤◌, List, [], ◌∷◌, ◌++◌, length, drop, Bool, true, false, map}
use Rattle.std.proofs.Common.{refl, sym, ap, ◌∙◌, arith, append_assoc, length-append, length-take, length-drop}
use Rattle.std.specs.Prelude.{◌&&◌, not, nat_lt, filter, is_some, Some, None, if◌then◌else◌}
use Rattle.std.specs.List.{list_all, slice_split, onto_first}
use Rattle.std.proofs.Math.Seq.{take-append_seam}
use Rattle.std.proofs.lemmas.Bool.{le-ltb, lt-ltb, ne_eqb}
use Rattle.std.proofs.lemmas.List.{append-nil, drop_at, map-append}
use Rattle.std.proofs.lemmas.List.Elements.{filter-append}
use Rattle.std.proofs.lemmas.List.Folds.{list_all-append, list_all-map}
use Rattle.std.proofs.lemmas.List.Splits.{slice_split-cons_yes, slice_split-cons_no}
use Rattle.fs_layout.specs.declared.paths.Span.{Span}
use Rattle.fs_layout.specs.declared.numbers.TheConstants.{MAXNAMELEN, MAXPATHLEN}
use Rattle.fs_layout.specs.FileActs.{is_slash, is_empty, names_in, is_good_path}
use Rattle.fs_layout.specs.Paths.{span_between, spans_from, name_spans, is_short, name_in_path, parts_of}

-- the parts between slashes, the first with these bytes before it
abbrev with_before : List ℕ → List (List ℕ) → List (List ℕ)
with_before bytes [] = bytes ∷ []
with_before bytes (part ∷ parts) = (bytes ++ part) ∷ parts

with_before-onto_first : (bytes : List ℕ) (byte : ℕ) (parts : List (List ℕ)) →
    with_before bytes (onto_first byte parts) ≡ with_before (bytes ++ byte ∷ []) parts
with_before-onto_first bytes byte [] = refl
with_before-onto_first bytes byte (part ∷ parts) = λ i. sym (append_assoc bytes (byte ∷ []) part) i ∷ parts

-- those that have bytes
abbrev some_bytes : List (List ℕ) → List (List ℕ)
some_bytes parts = filter (λ name. not (is_empty name)) parts

with_before-nothing : (parts : List (List ℕ)) → some_bytes (with_before [] parts) ≡ some_bytes parts
with_before-nothing [] = refl
with_before-nothing (part ∷ parts) = refl

-- the bytes between two places
name-between : (front name rest : List ℕ) → name_in_path (front ++ (name ++ rest)) (record { from = length front; to = length front + length name }) ≡ name
name-between front name rest =
    let wide : (length front + length name) - length front ≡ length name = omega arith in
    rw (wide, drop_at front (name ++ rest) (length front) refl) (take-append_seam name rest)

-- one name, where there is one
names-between : (front name rest : List ℕ) → map (name_in_path (front ++ (name ++ rest))) (span_between (length front) (length front + length name)) ≡ some_bytes (name ∷ [])
names-between front [] rest =
    let none : nat_lt (length front) (length front + 0) ≡ false = le-ltb (length front) (length front + 0) (omega arith) in
    rw none refl
names-between front (byte ∷ bytes) rest =
    let some : nat_lt (length front) (length front + length (byte ∷ bytes)) ≡ true = lt-ltb (length front) (length front + length (byte ∷ bytes)) (omega arith) in
    let full : is_empty (byte ∷ bytes) ≡ false = ne_eqb (length (byte ∷ bytes)) 0 (omega arith) in
    rw (some, full) (ap {A = List ℕ} (λ l. l ∷ []) (name-between front (byte ∷ bytes) rest))

names-at : (path front name rest : List ℕ) (from at : ℕ) → path ≡ front ++ (name ++ rest) → from ≡ length front → at ≡ from + length name →
    map (name_in_path path) (span_between from at) ≡ some_bytes (name ∷ [])
names-at path front name rest from at whole begins ends = rw (whole, ends, begins) (names-between front name rest)

-- where a slash follows a name, the names from a place on are this one and those behind the slash
names-slash : (path name rest : List ℕ) (byte from at : ℕ) → is_slash byte ≡ true →
    map (name_in_path path) (span_between from at) ≡ some_bytes (name ∷ []) →
    map (name_in_path path) (spans_from (at + 1) (at + 1) rest) ≡ some_bytes (with_before [] (slice_split is_slash rest)) →
    map (name_in_path path) (span_between from at ++ spans_from (at + 1) (at + 1) rest) ≡ some_bytes (with_before name (slice_split is_slash (byte ∷ rest)))
names-slash path name rest byte from at slash here behind =
    map-append (name_in_path path) (span_between from at) (spans_from (at + 1) (at + 1) rest)
    ∙ ap (λ (l : List (List ℕ)). l ++ map (name_in_path path) (spans_from (at + 1) (at + 1) rest)) here
    ∙ ap (λ (l : List (List ℕ)). some_bytes (name ∷ []) ++ l) (behind ∙ with_before-nothing (slice_split is_slash rest))
    ∙ sym (filter-append (λ name. not (is_empty name)) (name ∷ []) (slice_split is_slash rest))
    ∙ ap (λ (l : List ℕ). some_bytes (l ∷ slice_split is_slash rest)) (sym (append-nil name))
    ∙ ap (λ (l : List (List ℕ)). some_bytes (with_before name l)) (sym (slice_split-cons_yes is_slash byte rest slash))

-- the names from a place on, where the bytes before it belong to the first
names-from : (path front name rest : List ℕ) (from at : ℕ) → path ≡ front ++ (name ++ rest) → from ≡ length front → at ≡ from + length name →
    map (name_in_path path) (spans_from from at rest) ≡ some_bytes (with_before name (slice_split is_slash rest))
unfolding spans_from
names-from path front name [] from at whole begins ends =
    names-at path front name [] from at whole begins ends ∙ ap (λ (l : List ℕ). some_bytes (l ∷ [])) (sym (append-nil name))
names-from path front name (byte ∷ rest) from at whole begins ends =
    let longer : path ≡ front ++ ((name ++ byte ∷ []) ++ rest) = whole ∙ ap (λ (l : List ℕ). front ++ l) (sym (append_assoc name (byte ∷ []) rest)) in
    let behind : path ≡ (front ++ (name ++ byte ∷ [])) ++ ([] ++ rest) = longer ∙ sym (append_assoc front (name ++ byte ∷ []) rest) in
    let begin : at + 1 ≡ length (front ++ (name ++ byte ∷ [])) = omega (arith, length-append front (name ++ byte ∷ []), length-append name (byte ∷ [])) in
    let end : at + 1 ≡ from + length (name ++ byte ∷ []) = omega (arith, length-append name (byte ∷ [])) in
    elim (is_slash byte) as (λ (b : Bool). is_slash byte ≡ b → map (name_in_path path) (if b then span_between from at ++ spans_from (at + 1) (at + 1) rest else spans_from from (at + 1) rest) ≡ some_bytes (with_before name (slice_split is_slash (byte ∷ rest)))) [
      | true ↦ (λ slash. names-slash path name rest byte from at slash (names-at path front name (byte ∷ rest) from at whole begins ends)
          (names-from path (front ++ (name ++ byte ∷ [])) [] rest (at + 1) (at + 1) behind begin (omega arith)))
      | false ↦ (λ other. names-from path front (name ++ byte ∷ []) rest from (at + 1) longer begins end
          ∙ ap (λ (l : List (List ℕ)). some_bytes l) (sym (with_before-onto_first name byte (slice_split is_slash rest)))
          ∙ ap (λ (l : List (List ℕ)). some_bytes (with_before name l)) (sym (slice_split-cons_no is_slash byte rest other)))
    ]
    refl

pub names-stand : (path : List ℕ) → map (name_in_path path) (name_spans path) ≡ names_in path
unfolding names_in
names-stand path = names-from path [] [] path 0 0 refl refl refl ∙ with_before-nothing (slice_split is_slash path)

-- ---- how long they are

-- whether the bytes of a name leave room
abbrev leaves_room : List ℕ → Span → Bool
leaves_room path span = nat_lt (length (name_in_path path span)) MAXNAMELEN

length-name_of : (path : List ℕ) (from to : ℕ) → from ≤ to → to ≤ length path → length (name_in_path path (record { from = from; to = to })) ≡ to - from
length-name_of path from to order within = omega (arith, length-take (to - from) (drop from path), length-drop from path)

room-between : (path : List ℕ) (from to : ℕ) → from ≤ to → to ≤ length path → list_all (leaves_room path) (span_between from to) ≡ list_all is_short (span_between from to)
room-between path from to order within =
    elim (nat_lt from to) as (λ (b : Bool). list_all (leaves_room path) (if b then record { from = from; to = to } ∷ [] else []) ≡ list_all is_short (if b then record { from = from; to = to } ∷ [] else []))
    [ true ↦ ap (λ n. nat_lt n MAXNAMELEN && true) (length-name_of path from to order within) | false ↦ refl ]

room-from : (path rest : List ℕ) (from at : ℕ) → from ≤ at → at + length rest ≡ length path → list_all (leaves_room path) (spans_from from at rest) ≡ list_all is_short (spans_from from at rest)
unfolding spans_from
room-from path [] from at order within = room-between path from at order (omega arith)
room-from path (byte ∷ rest) from at order within =
    elim (is_slash byte) as (λ (b : Bool). list_all (leaves_room path) (if b then span_between from at ++ spans_from (at + 1) (at + 1) rest else spans_from from (at + 1) rest)
    ≡ list_all is_short (if b then span_between from at ++ spans_from (at + 1) (at + 1) rest else spans_from from (at + 1) rest)) [
      | true ↦
          list_all-append (leaves_room path) (span_between from at) (spans_from (at + 1) (at + 1) rest)
          ∙ ap (λ b. b && list_all (leaves_room path) (spans_from (at + 1) (at + 1) rest)) (room-between path from at order (omega arith))
          ∙ ap (λ b. list_all is_short (span_between from at) && b) (room-from path rest (at + 1) (at + 1) (omega arith) (omega arith))
          ∙ sym (list_all-append is_short (span_between from at) (spans_from (at + 1) (at + 1) rest))
      | false ↦ room-from path rest from (at + 1) (omega arith) (omega arith)
    ]

-- a test as an option
is_some-if : (b : Bool) (names : List Span) → is_some (if b then Some names else None) ≡ b
is_some-if true names = refl
is_some-if false names = refl

pub good-has_parts : (path : List ℕ) → is_some (parts_of path) ≡ is_good_path path
unfolding parts_of is_good_path
good-has_parts path =
    is_some-if (nat_lt (length path) MAXPATHLEN && list_all is_short (name_spans path)) (name_spans path)
    ∙ ap (λ b. nat_lt (length path) MAXPATHLEN && b)
    (sym (room-from path path 0 0 (omega arith) (omega arith))
    ∙ sym (list_all-map (λ name. nat_lt (length name) MAXNAMELEN) (name_in_path path) (name_spans path))
    ∙ ap (λ (l : List (List ℕ)). list_all (λ name. nat_lt (length name) MAXNAMELEN) l) (names-stand path))
