-- The node that a way leads to has the name of the record that it leads to, where this is not the root's.
use Rattle.std.proofs.Common.{◌≡◌, ◌∙◌, ℕ, zero, suc, List, [], ◌∷◌, Option, Some, sym, ap}
use Rattle.std.specs.Prelude.{option_and_then}
use Rattle.fs_layout.specs.FileTree.{NamedNode, record_at, named_from}
use Rattle.fs_layout.specs.DiskImage.{block_count, root_place, name_of, slot_place}
use Rattle.fs_layout.specs.DiskFiles.{file_system_of, node_of, records_at}
use Rattle.fs_layout.specs.DiskLaws.{AreReadable}
use Rattle.fs_layout.proofs.DiskSound.{disks-sound}
use Rattle.fs_acts.specs.BlockActs.{place_from}
use Rattle.fs_acts.specs.BlockLaws.{WaysLeadToNames}
use Rattle.fs_acts.proofs.Named.{is-named}
use Rattle.fs_acts.proofs.Undamaged.{way-goes, some-same}
use Rattle.fs_acts.proofs.Ways.{none-readable, slot-readable, named_node, record-slot}

some-name : (one other : NamedNode) → ◌≡◌ {A = Option NamedNode} (Some one) (Some other) → one.name ≡ other.name
some-name one other e = cc

-- the way goes on from a record of the directory here
name-step : (byte : ℕ → ℕ) (i : ℕ) (way : List ℕ) (depth here place : ℕ) (named : NamedNode) → AreReadable depth byte here →
    place_from byte (i ∷ way) here ≡ Some place →
    option_and_then (named_from way) (record_at (node_of (records_at depth byte) byte here) i) ≡ Some named →
    ((d next : ℕ) → AreReadable d byte next → place_from byte way next ≡ Some place → named_from way (named_node d byte next) ≡ Some named →
    named.name ≡ name_of byte place) →
    named.name ≡ name_of byte place
name-step byte i way zero here place named readable leads found onward =
    let goes = way-goes byte i way here place leads in absurd (none-readable byte here i readable (is-named byte here i goes.0))
name-step byte i way (suc depth) here place named readable leads found onward =
    let goes = way-goes byte i way here place leads in
    let slot = is-named byte here i goes.0 in
    onward depth (slot_place byte here i) (slot-readable depth byte here i readable slot) goes.1
    (sym (ap (option_and_then (named_from way)) (record-slot depth byte here i slot)) ∙ found)

names-from : (byte : ℕ → ℕ) (way : List ℕ) (depth here place : ℕ) (named : NamedNode) → AreReadable depth byte here →
    place_from byte way here ≡ Some place → named_from way (named_node depth byte here) ≡ Some named → named.name ≡ name_of byte place
unfolding named_from
names-from byte [] depth here place named readable leads found =
    let same : here ≡ place = unfold place_from in (some-same here place leads) in
    sym (some-name (named_node depth byte here) named found) ∙ ap (name_of byte) same
names-from byte (i ∷ way) depth here place named readable leads found =
    name-step byte i way depth here place named readable leads found
    (λ d next below goes is. names-from byte way d next place named below goes is)

-- the law
pub ways-names : WaysLeadToNames
unfolding named_from file_system_of
ways-names size byte image first way place named leads found =
    name-step byte first way (block_count byte) root_place place named (disks-sound size byte image).records leads found
    (λ d next below goes is. names-from byte way d next place named below goes is)
