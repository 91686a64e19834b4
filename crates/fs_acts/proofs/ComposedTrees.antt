-- A tree in which nodes were put at a way one after another, and how many blocks it takes.
use Rattle.std.proofs.Common.{◌≡◌, ◌∙◌, ◌+◌, ◌*◌, ◌<◌, ℕ, zero, suc, Bool, List, [], ◌∷◌, ◌++◌, length, Option, Some, None}
use Rattle.std.proofs.Common.{refl, ap, subst, arith}
use Rattle.std.specs.Prelude.{option_and_then, option_map, slice_index_or, slice_set, replicate}
use Rattle.std.proofs.lemmas.List.{set-set, length-set}
use Rattle.fs_layout.specs.FileTree.{Node, a_file, a_directory, NamedNode, FileSystem, listed, records_from, root_record}
use Rattle.fs_layout.specs.FileTree.{record_at, with_record, node_changed, named_from, node_at, replaced, emptied, with_node}
use Rattle.fs_layout.specs.FileTree.{without_node, blocks_taken, tree_blocks, records_blocks, blocks_in_use, bitmap_blocks}
use Rattle.fs_layout.proofs.FileTrees.{listed-records_from, records_from-listed, named_from-replaced}
use Rattle.fs_acts.proofs.Trees.{node-found}

-- ---- one node after another

-- a record whose node was changed, read where it stands
changed-there : (list : List (Option NamedNode)) (place : ℕ) (change : Node → Node) →
    slice_index_or (slice_set list place (node_changed change (slice_index_or list place None))) place None
    ≡ node_changed change (slice_index_or list place None)
changed-there [] place change = refl
changed-there (entry ∷ rest) zero change = refl
changed-there (entry ∷ rest) (suc place) change = changed-there rest place change

-- a node that is changed twice
changed-twice : (entry : Option NamedNode) (first second both : Node → Node) → ((n : Node) → second (first n) ≡ both n) →
    node_changed second (node_changed first entry) ≡ node_changed both entry
changed-twice None first second both same = refl
changed-twice (Some named) first second both same = λ i. Some (record named { node = same named.node i })

-- the same of a record of a directory
with_record-twice : (here : Node) (place : ℕ) (first second both : Node → Node) → ((n : Node) → second (first n) ≡ both n) →
    let now : Node = with_record here place (node_changed first (record_at here place)) in
    with_record now place (node_changed second (record_at now place))
    ≡ with_record here place (node_changed both (record_at here place))
with_record-twice (a_file bytes indirect) place first second both same = refl
with_record-twice (a_directory records indirect) place first second both same =
    let list : List (Option NamedNode) = listed records in
    let entry : Option NamedNode = slice_index_or list place None in
    let now : List (Option NamedNode) = slice_set list place (node_changed first entry) in
    ap (λ (l : List (Option NamedNode)).
    a_directory (records_from (slice_set l place (node_changed second (slice_index_or l place None)))) indirect)
    (listed-records_from now)
    ∙ ap (λ (x : Option NamedNode). a_directory (records_from (slice_set now place (node_changed second x))) indirect)
    (changed-there list place first)
    ∙ ap (λ (l : List (Option NamedNode)). a_directory (records_from l) indirect)
    (set-set list place (node_changed first entry) (node_changed second (node_changed first entry)))
    ∙ ap (λ (x : Option NamedNode). a_directory (records_from (slice_set list place x)) indirect)
    (changed-twice entry first second both same)

-- the second node stays
pub replaced-twice : (way : List ℕ) (first second here : Node) →
    replaced way second (replaced way first here) ≡ replaced way second here
unfolding replaced
replaced-twice [] first second here = refl
replaced-twice (place ∷ way) first second here =
    with_record-twice here place (replaced way first) (replaced way second) (replaced way second)
    (λ n. replaced-twice way first second n)

-- a record that is emptied after its node was changed
emptied-changed : (here : Node) (place : ℕ) (entry : Option NamedNode) →
    with_record (with_record here place entry) place None ≡ with_record here place None
emptied-changed (a_file bytes indirect) place entry = refl
emptied-changed (a_directory records indirect) place entry =
    let now : List (Option NamedNode) = slice_set (listed records) place entry in
    ap (λ (l : List (Option NamedNode)). a_directory (records_from (slice_set l place None)) indirect) (listed-records_from now)
    ∙ ap (λ (l : List (Option NamedNode)). a_directory (records_from l) indirect) (set-set (listed records) place entry None)

pub emptied-replaced : (first : ℕ) (way : List ℕ) (new here : Node) →
    emptied (first ∷ way) (replaced (first ∷ way) new here) ≡ emptied (first ∷ way) here
unfolding replaced emptied
emptied-replaced first [] new here = emptied-changed here first (node_changed (replaced [] new) (record_at here first))
emptied-replaced first (next ∷ way) new here =
    with_record-twice here first (replaced (next ∷ way) new) (emptied (next ∷ way)) (emptied (next ∷ way))
    (λ n. emptied-replaced next way new n)

-- ---- file systems

pub with_node-twice : (s : FileSystem) (way : List ℕ) (first second : Node) →
    with_node (with_node s way first) way second ≡ with_node s way second
with_node-twice s way first second = ap (λ (n : Node). record s { root = n }) (replaced-twice way first second s.root)

pub without-with_node : (s : FileSystem) (first : ℕ) (way : List ℕ) (new : Node) →
    without_node (with_node s (first ∷ way) new) (first ∷ way) ≡ without_node s (first ∷ way)
without-with_node s first way new = ap (λ (n : Node). record s { root = n }) (emptied-replaced first way new s.root)

-- a node that was put somewhere stands there
pub node_at-with_node : (s : FileSystem) (way : List ℕ) (old new : Node) → node_at s way ≡ Some old →
    node_at (with_node s way new) way ≡ Some new
node_at-with_node s way old new e =
    let found = node-found (named_from way (root_record s)) old e in
    ap (option_map (λ (n : NamedNode). n.node)) (named_from-replaced way new (root_record s) found.0 found.1.0)

-- ---- blocks

blocks-some : (one other : NamedNode) → ◌≡◌ {A = Option NamedNode} (Some one) (Some other) →
    tree_blocks one.node ≡ tree_blocks other.node
blocks-some one other e = cc

-- one record's node is another
blocks-set : (list : List (Option NamedNode)) (place : ℕ) (old new : NamedNode) → slice_index_or list place None ≡ Some old →
    records_blocks (records_from (slice_set list place (Some new))) + tree_blocks old.node
    ≡ records_blocks (records_from list) + tree_blocks new.node
unfolding records_from records_blocks
blocks-set [] place old new e = cc
blocks-set (None ∷ rest) zero old new e = cc
blocks-set (Some named ∷ rest) zero old new e =
    let same : tree_blocks named.node ≡ tree_blocks old.node = blocks-some named old e in omega arith
blocks-set (None ∷ rest) (suc place) old new e = blocks-set rest place old new e
blocks-set (Some named ∷ rest) (suc place) old new e =
    let below : records_blocks (records_from (slice_set rest place (Some new))) + tree_blocks old.node
    ≡ records_blocks (records_from rest) + tree_blocks new.node = blocks-set rest place old new e in
    omega arith

-- an empty record gets a node
pub blocks-put : (list : List (Option NamedNode)) (place : ℕ) (new : NamedNode) → place < length list →
    slice_index_or list place None ≡ None →
    records_blocks (records_from (slice_set list place (Some new))) ≡ records_blocks (records_from list) + tree_blocks new.node
unfolding records_from records_blocks
blocks-put [] place new within e = absurd (omega arith)
blocks-put (None ∷ rest) zero new within e = omega arith
blocks-put (Some named ∷ rest) zero new within e = cc
blocks-put (None ∷ rest) (suc place) new within e = blocks-put rest place new (omega arith) e
blocks-put (Some named ∷ rest) (suc place) new within e =
    let below : records_blocks (records_from (slice_set rest place (Some new)))
    ≡ records_blocks (records_from rest) + tree_blocks new.node = blocks-put rest place new (omega arith) e in
    omega arith

-- empty records take no blocks
blocks-empty : (n : ℕ) → records_blocks (records_from (replicate n None)) ≡ 0
unfolding records_from records_blocks
blocks-empty zero = refl
blocks-empty (suc n) = blocks-empty n

pub blocks-room : (list : List (Option NamedNode)) (n : ℕ) →
    records_blocks (records_from (list ++ replicate n None)) ≡ records_blocks (records_from list)
unfolding records_from records_blocks
blocks-room [] n = blocks-empty n
blocks-room (None ∷ rest) n = blocks-room rest n
blocks-room (Some named ∷ rest) n = ap (λ (k : ℕ). tree_blocks named.node + k) (blocks-room rest n)

-- the blocks of a directory whose records are a list
pub blocks-directory : (list : List (Option NamedNode)) (indirect : Bool) →
    tree_blocks (a_directory (records_from list) indirect)
    ≡ blocks_taken (256 * length list) indirect + records_blocks (records_from list)
unfolding tree_blocks
blocks-directory list indirect =
    ap (λ (l : List (Option NamedNode)). blocks_taken (256 * length l) indirect + records_blocks (records_from list))
    (listed-records_from list)

blocks-with_record : (here : Node) (place : ℕ) (old new : NamedNode) → record_at here place ≡ Some old →
    tree_blocks (with_record here place (Some new)) + tree_blocks old.node ≡ tree_blocks here + tree_blocks new.node
unfolding tree_blocks
blocks-with_record (a_file bytes indirect) place old new e = cc
blocks-with_record (a_directory records indirect) place old new e =
    let list : List (Option NamedNode) = listed records in
    let now : List (Option NamedNode) = slice_set list place (Some new) in
    let one : tree_blocks (a_directory (records_from now) indirect)
    ≡ blocks_taken (256 * length list) indirect + records_blocks (records_from now) =
    blocks-directory now indirect
    ∙ ap (λ (n : ℕ). blocks_taken (256 * n) indirect + records_blocks (records_from now)) (length-set list place (Some new)) in
    let same : records_blocks (records_from list) ≡ records_blocks records = ap records_blocks (records_from-listed records) in
    let two = blocks-set list place old new e in
    omega arith

blocks_below : (way : List ℕ) (new here : Node) (place : ℕ) (old : NamedNode) (entry : Option NamedNode) →
    ((next : NamedNode) → named_from way next ≡ Some old →
    tree_blocks (replaced way new next.node) + tree_blocks old.node ≡ tree_blocks next.node + tree_blocks new) →
    record_at here place ≡ entry → option_and_then (named_from way) entry ≡ Some old →
    tree_blocks (with_record here place (node_changed (replaced way new) entry)) + tree_blocks old.node
    ≡ tree_blocks here + tree_blocks new
blocks_below way new here place old None next found e = cc
blocks_below way new here place old (Some named) next found e =
    let one = blocks-with_record here place named (record named { node = replaced way new named.node }) found in
    let two = next named e in
    omega arith

-- where another node is put, its blocks take the place of those that the old one had
pub blocks-replaced : (way : List ℕ) (new : Node) (here old : NamedNode) → named_from way here ≡ Some old →
    tree_blocks (replaced way new here.node) + tree_blocks old.node ≡ tree_blocks here.node + tree_blocks new
unfolding named_from replaced
blocks-replaced [] new here old e =
    let same : tree_blocks here.node ≡ tree_blocks old.node = blocks-some here old e in omega arith
blocks-replaced (place ∷ way) new here old e =
    blocks_below way new here.node place old (record_at here.node place) (λ next. blocks-replaced way new next old) refl e

in_use_sum : (blocks old new before now unnamed : ℕ) → now + old ≡ before + new →
    2 + bitmap_blocks blocks + now + unnamed + old ≡ 2 + bitmap_blocks blocks + before + unnamed + new
in_use_sum blocks old new before now unnamed e = let first : ℕ = bitmap_blocks blocks in sum first
  where
    sum : (first : ℕ) → 2 + first + now + unnamed + old ≡ 2 + first + before + unnamed + new
    sum first = omega arith

pub in_use-with_node : (s : FileSystem) (way : List ℕ) (old new : Node) → node_at s way ≡ Some old →
    blocks_in_use (with_node s way new) + tree_blocks old ≡ blocks_in_use s + tree_blocks new
in_use-with_node s way old new e =
    let found = node-found (named_from way (root_record s)) old e in
    in_use_sum s.blocks (tree_blocks old) (tree_blocks new) (tree_blocks s.root) (tree_blocks (replaced way new s.root)) s.unnamed
    (subst (λ (n : Node). tree_blocks (replaced way new s.root) + tree_blocks n ≡ tree_blocks s.root + tree_blocks new)
    found.1.1 (blocks-replaced way new (root_record s) found.0 found.1.0))
