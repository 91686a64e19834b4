-- A node that is put at a way where it stands already.
use Rattle.std.proofs.Common.{◌≡◌, ◌∙◌, ℕ, List, [], ◌∷◌, Option, Some, None, refl, sym, ap, subst}
use Rattle.std.specs.Prelude.{option_and_then, option_map, slice_set}
use Rattle.std.proofs.lemmas.List.{set-get_or}
use Rattle.fs_layout.specs.FileTree.{Node, a_file, a_directory, NamedNode, listed, records_from}
use Rattle.fs_layout.specs.FileTree.{root_record, record_at, with_record, node_changed, named_from, replaced}
use Rattle.fs_layout.proofs.FileTrees.{records_from-listed}
use Rattle.fs_acts.specs.BlockLaws.{PutAgainChangesNothing}

-- a directory whose record is put again where it stands
with_record-same : (here : Node) (place : ℕ) (entry : Option NamedNode) → record_at here place ≡ entry →
    with_record here place entry ≡ here
with_record-same (a_file bytes indirect) place entry e = refl
with_record-same (a_directory records indirect) place entry e =
    ap (λ (x : Option NamedNode). a_directory (records_from (slice_set (listed records) place x)) indirect) (sym e)
    ∙ ap (λ l. a_directory (records_from l) indirect) (set-get_or (listed records) place None)
    ∙ ap (λ r. a_directory r indirect) (records_from-listed records)

-- the same in the record below
again_below : (way : List ℕ) (new here : Node) (place : ℕ) (old : NamedNode) (entry : Option NamedNode) →
    ((next : NamedNode) → named_from way next ≡ Some old → replaced way old.node next.node ≡ next.node) →
    record_at here place ≡ entry → option_and_then (named_from way) entry ≡ Some old →
    with_record here place (node_changed (replaced way old.node) entry) ≡ here
again_below way new here place old None next found e = with_record-same here place None found
again_below way new here place old (Some named) next found e =
    ap (λ (n : Node). with_record here place (Some (record named { node = n }))) (next named e)
    ∙ with_record-same here place (Some named) found

-- the node that stands at a way, put there
replaced-same : (way : List ℕ) (here old : NamedNode) → named_from way here ≡ Some old →
    replaced way old.node here.node ≡ here.node
unfolding named_from replaced
replaced-same [] here old e = same_node here old e
  where
    same_node : (one other : NamedNode) → ◌≡◌ {A = Option NamedNode} (Some one) (Some other) → other.node ≡ one.node
    same_node one other same = cc
replaced-same (place ∷ way) here old e =
    again_below way old.node here.node place old (record_at here.node place) (λ next. replaced-same way next old) refl e

-- what is found at a way
pub node-found : (found : Option NamedNode) (node : Node) → option_map (λ (n : NamedNode). n.node) found ≡ Some node →
    (old : NamedNode) × ((found ≡ Some old) × (old.node ≡ node))
node-found None node e = cc
node-found (Some old) node e = (old, (refl, same_node old.node node e))
  where
    same_node : (one other : Node) → ◌≡◌ {A = Option Node} (Some one) (Some other) → one ≡ other
    same_node one other same = cc

-- the law
pub put-again : PutAgainChangesNothing
put-again files way node e =
    let found = node-found (named_from way (root_record files)) node e in
    let same : replaced way node files.root ≡ files.root =
    subst (λ (n : Node). replaced way n files.root ≡ files.root) found.1.1
    (replaced-same way (root_record files) found.0 found.1.0) in
    ap (λ (n : Node). record files { root = n }) same
