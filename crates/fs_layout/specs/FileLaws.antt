-- What the acts on files mean: what is written is read back at its place, and a node that is put at a way stands there.
use Rattle.std.specs.Prelude.{◌≡◌, ℕ, ◌+◌, max, List, length, take, drop, Some, None, ◌∷◌}
use Rattle.fs_layout.specs.FileTree.{Node, NamedNode, named_from, replaced, emptied}
use Rattle.fs_layout.specs.FileActs.{overwritten, resized}

-- What is written at a place is what is read there.
abbrev pub WritesAreReadBack : Type 0
WritesAreReadBack = (bytes : List ℕ) (at : ℕ) (new : List ℕ) → take (length new) (drop at (overwritten bytes at new)) ≡ new

-- A file is as long as before, or up to the end of what was written.
abbrev pub WritesLengthen : Type 0
WritesLengthen = (bytes : List ℕ) (at : ℕ) (new : List ℕ) → length (overwritten bytes at new) ≡ max (length bytes) (at + length new)

-- A file has the size that it is given.
abbrev pub SizesAreSet : Type 0
SizesAreSet = (bytes : List ℕ) (size : ℕ) → length (resized bytes size) ≡ size

-- Where another node is put in the place of one, that is what stands there.
abbrev pub NodesAreReplaced : Type 0
NodesAreReplaced = (way : List ℕ) (new : Node) (here old : NamedNode) → named_from way here ≡ Some old →
    named_from way (record here { node = replaced way new here.node }) ≡ Some (record old { node = new })

-- Where a record is emptied, nothing stands.
abbrev pub RecordsAreEmptied : Type 0
RecordsAreEmptied = (first : ℕ) (way : List ℕ) (here old : NamedNode) → named_from (first ∷ way) here ≡ Some old →
    named_from (first ∷ way) (record here { node = emptied (first ∷ way) here.node }) ≡ None
