-- What the passes over the items know of labels.
use denote.Ref.{Bor}
use Rattle.std.specs.Prelude.{◌≡◌, ℕ, ◌≤◌, IsTrue, All, List, Option, Some, None, is_some, if◌then◌else◌}
use Rattle.std.specs.Option.{option_map}
use Rattle.std.specs.Ordering.{nat_cmp}
use Rattle.std.specs.Cmp.Lexicographic.{slice_cmp}
use Rattle.std.specs.BTreeMap.{BTreeMap, get_by}
use Rattle.jos_asm.specs.declared.limits.TheConstants.{CODE_MAX}
use Rattle.jos_asm.specs.declared.item.Item.{Item}
use Rattle.jos_asm.specs.declared.item.Item.TheVariants as item
use Rattle.jos_asm.specs.declared.fault.AsmFault.{AsmFault}
use Rattle.jos_asm.specs.declared.fault.AsmFault.TheVariants.{Twice, Unknown, Far}
use Rattle.jos_asm.specs.Items.{is_item, target_of}
use Rattle.jos_asm.specs.Program.{length_of_all, is_label, place_in, is_far, is_unknown}

-- a table of labels as a function of names
abbrev pub labelled : BTreeMap (Bor (List ℕ)) ℕ → List ℕ → Option ℕ
labelled labels name = get_by (λ label. slice_cmp nat_cmp name label.now) labels

-- a table, if there is one, says where each label is
abbrev pub TellsLabels : List Item → Option (BTreeMap (Bor (List ℕ)) ℕ) → Type 0
TellsLabels items None = Unit {0}
TellsLabels items (Some table) = (name : List ℕ) → labelled table name ≡ place_in items name

-- items whose labels can be found
pub record AreTold (items : List Item) (table : Option (BTreeMap (Bor (List ℕ)) ℕ)) : Type 0 where
  pub lawful : All (λ i. IsTrue (is_item i)) items
  pub small : length_of_all items ≤ CODE_MAX
  pub told : TellsLabels items table

-- the fault of an item at `at`
abbrev pub far_at : (List ℕ → ℕ) → ℕ → Item → Option AsmFault
far_at place at i = if is_far place at i then option_map Far (target_of i) else None

-- the fault of an item with a name that no label has
abbrev pub unknown_in : (List ℕ → Option ℕ) → Item → Option AsmFault
unknown_in place i = if is_unknown place (target_of i) then option_map Unknown (target_of i) else None

-- the fault of a label whose name is found already
abbrev pub twice_in : (List ℕ → Option ℕ) → Item → Option AsmFault
twice_in found (item.Label name) = if is_some (found name) then Some (Twice name) else None
twice_in found (item.Insn insn) = None
twice_in found (item.Jump row name) = None
twice_in found (item.Address reg name) = None
twice_in found (item.Bytes bytes) = None

-- the labels found, with an item at `at`
abbrev pub with_label : (List ℕ → Option ℕ) → ℕ → Item → List ℕ → Option ℕ
with_label found at i name = if is_label name i then Some at else found name
