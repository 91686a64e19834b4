-- The records of a directory and the list of them are the same.
use Rattle.std.specs.Prelude.{◌≡◌, ℕ, zero, suc, ◌<◌, List, [], ◌∷◌, length, Option, Some, None, refl}
use Rattle.std.specs.Prelude.{option_map, option_and_then, slice_index_or, slice_set}
use mathlib.Core.Path.{ap, ◌∙◌}
use native.Mathlib.Omega.{arith}
use native.Mathlib.Nat.{not-suc-le-zero}
use Rattle.std.proofs.lemmas.List.{get_or-set_same}
use Rattle.fs_layout.specs.FileTree.{Node, a_file, a_directory, Records, no_more, empty_record, named_record, NamedNode, listed, records_from}
use Rattle.fs_layout.specs.FileTree.{records_in, record_at, with_record, node_changed, named_from, replaced, emptied}

pub listed-records_from : (list : List (Option NamedNode)) → listed (records_from list) ≡ list
unfolding listed records_from
listed-records_from [] = refl
listed-records_from (None ∷ rest) = ap {B = List (Option NamedNode)} (λ r. None ∷ r) (listed-records_from rest)
listed-records_from (Some named ∷ rest) = ap {B = List (Option NamedNode)} (λ r. Some named ∷ r) (listed-records_from rest)

pub records_from-listed : (records : Records) → records_from (listed records) ≡ records
unfolding listed records_from
records_from-listed no_more = refl
records_from-listed (empty_record rest) = ap {B = Records} empty_record (records_from-listed rest)
records_from-listed (named_record name node rest) = ap {B = Records} (named_record name node) (records_from-listed rest)

-- a record at a place where another was put is that one
record_at-with_record : (node : Node) (place : ℕ) (entry : Option NamedNode) → place < length (records_in node) →
    record_at (with_record node place entry) place ≡ entry
record_at-with_record (a_file bytes indirect) place entry within = absurd (not-suc-le-zero within)
record_at-with_record (a_directory records indirect) place entry within =
    ap {B = Option NamedNode} (λ l. slice_index_or l place None) (listed-records_from (slice_set (listed records) place entry))
    ∙ get_or-set_same (listed records) place entry None within

-- there are no names past the end
name_within : (list : List (Option NamedNode)) (place : ℕ) (named : NamedNode) → slice_index_or list place None ≡ Some named →
    place < length list
name_within [] place named e = cc
name_within (entry ∷ rest) zero named e = omega arith
name_within (entry ∷ rest) (suc place) named e = let h : place < length rest = name_within rest place named e in omega arith

-- the node at a way where another was put is that one, under the name that it had
replaced_below : (way : List ℕ) (new here : Node) (name : List ℕ) (place : ℕ) (old : NamedNode) (entry : Option NamedNode) →
    ((next : NamedNode) → named_from way next ≡ Some old →
    named_from way (record next { node = replaced way new next.node }) ≡ Some (record old { node = new })) →
    record_at here place ≡ entry → option_and_then (named_from way) entry ≡ Some old →
    option_and_then (named_from way) (record_at (with_record here place (node_changed (replaced way new) entry)) place)
    ≡ Some (record old { node = new })
replaced_below way new here name place old None next found e = cc
replaced_below way new here name place old (Some named) next found e =
    ap {B = Option NamedNode} (option_and_then (named_from way))
    (record_at-with_record here place (Some (record named { node = replaced way new named.node }))
    (name_within (records_in here) place named found))
    ∙ next named e

pub named_from-replaced : (way : List ℕ) (new : Node) (here old : NamedNode) → named_from way here ≡ Some old →
    named_from way (record here { node = replaced way new here.node }) ≡ Some (record old { node = new })
unfolding named_from replaced
named_from-replaced [] new here old e = ap {A = Option NamedNode} {B = Option NamedNode} (option_map (λ (z : NamedNode). record z { node = new })) e
named_from-replaced (place ∷ way) new here old e =
    replaced_below way new here.node here.name place old (record_at here.node place) (λ next. named_from-replaced way new next old) refl e

-- nothing stands at a way whose record was emptied
emptied_below : (way : List ℕ) (here : Node) (place : ℕ) (old : NamedNode) (entry : Option NamedNode) →
    ((next : NamedNode) → named_from way next ≡ Some old → named_from way (record next { node = emptied way next.node }) ≡ None) →
    record_at here place ≡ entry → option_and_then (named_from way) entry ≡ Some old →
    option_and_then (named_from way) (record_at (with_record here place (node_changed (emptied way) entry)) place) ≡ None
emptied_below way here place old None next found e = cc
emptied_below way here place old (Some named) next found e =
    ap {B = Option NamedNode} (option_and_then (named_from way))
    (record_at-with_record here place (Some (record named { node = emptied way named.node }))
    (name_within (records_in here) place named found))
    ∙ next named e

emptied_here : (here : Node) (place : ℕ) (old : NamedNode) (entry : Option NamedNode) → record_at here place ≡ entry →
    option_and_then (named_from []) entry ≡ Some old →
    option_and_then (named_from []) (record_at (with_record here place None) place) ≡ None
emptied_here here place old None found e = cc
emptied_here here place old (Some named) found e =
    ap {B = Option NamedNode} (option_and_then (named_from []))
    (record_at-with_record here place None (name_within (records_in here) place named found))

pub named_from-emptied : (first : ℕ) (way : List ℕ) (here old : NamedNode) → named_from (first ∷ way) here ≡ Some old →
    named_from (first ∷ way) (record here { node = emptied (first ∷ way) here.node }) ≡ None
unfolding named_from emptied
named_from-emptied first [] here old e = emptied_here here.node first old (record_at here.node first) refl e
named_from-emptied first (place ∷ way) here old e =
    emptied_below (place ∷ way) here.node first old (record_at here.node first) (λ next. named_from-emptied place way next old) refl e
