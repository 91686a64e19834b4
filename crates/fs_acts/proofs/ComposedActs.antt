-- Every act on files stores in the blocks what it does to the tree, given the laws of the single changes.
use Rattle.std.proofs.Common.{◌≡◌, ◌∙◌, ◌⊎◌, ◌==◌, ℕ, Bool, false, List, Option, Some, refl, sym, ap, subst}
use Rattle.std.specs.Prelude.{option_map, take}
use Rattle.std.specs.List.{list_any}
use Rattle.jos_base.specs.declared.numbers.TheConstants.{E_NOT_FOUND, E_BAD_PATH}
use Rattle.jos_base.specs.Words.{negated, has_bit}
use Rattle.fs_layout.specs.declared.numbers.TheConstants.{O_CREAT}
use Rattle.fs_layout.specs.FileTree.{Node, a_directory, FileSystem, listed, records_from, node_at}
use Rattle.fs_layout.specs.FileTree.{FileAct, open_path, read_file, write_file, set_file_size, stat_file, remove_path, sync_files}
use Rattle.fs_layout.specs.FileActs.{Looked, look_up, refused, handed_back, bytes_at, write_to, set_size_to, create_in, open_looked}
use Rattle.fs_layout.specs.FileActs.{open_act, read_act, write_act, set_size_act, stat_act, remove_act, file_act}
use Rattle.fs_layout.specs.DiskImage.{block_count}
use Rattle.fs_layout.specs.DiskFiles.{IsDiskImage, file_system_of, file_bytes, node_of, records_at}
use Rattle.fs_layout.specs.DiskImage.{has_indirect}
use Rattle.fs_layout.proofs.FileTrees.{records_from-listed}
use Rattle.fs_acts.specs.BlockActs.{written, place_at, Led, too_long, astray, no_record, a_record, led_to, turned_down}
use Rattle.fs_acts.specs.BlockActs.{size_plan, write_plan, read_plan, create_plan, open_led, plan_of, puts_of}
use Rattle.fs_acts.specs.BlockLaws.{LeadsAlike, Stays, HasString, IsRemoved, BlockActsAreActs, PlacesStay, ChangesKeepDisks}
use Rattle.fs_acts.proofs.ComposedSteps.{ChangesAreActs, left_by, written-in_turn, passes-last, passes-take}
use Rattle.fs_acts.proofs.ComposedFiles.{DoesBut, Does, does-nothing, does-either, size-does, write-does, read-does, of-file-does, stat-does}
use Rattle.fs_acts.proofs.ComposedPaths.{remove-does, opens-there}
use Rattle.fs_acts.proofs.ComposedNames.{IsMissing, missing-name}
use Rattle.fs_acts.proofs.ComposedCreates.{create-does}

-- ---- opening

-- a file is made where it is missing
creates-missing : ChangesAreActs → (size : ℕ) (byte : ℕ → ℕ) (way : List ℕ) (place : ℕ) (name : List ℕ) (node : Node) → IsDiskImage size byte →
    place_at byte way ≡ Some place → node_at (file_system_of byte) way ≡ Some node → IsMissing node name →
    Does size byte (create_plan byte place name) (create_in (file_system_of byte) way node name)
creates-missing laws size byte way place name node sound stands is it =
    let same : node ≡ a_directory (records_from (listed it.records)) it.indirect =
    it.node_is ∙ ap (λ r. a_directory r it.indirect) (sym (records_from-listed it.records)) in
    subst (λ (n : Node). Does size byte (create_plan byte place name) (create_in (file_system_of byte) way n name)) (sym it.node_is)
    (create-does laws size byte way place (listed it.records) it.indirect name
    (record { sound = sound; stands = stands; is = is ∙ ap {B = Option Node} Some same }) it.name_is it.alone)

opens-led : ChangesAreActs → (size : ℕ) (byte : ℕ → ℕ) (mode : ℕ) (path : List ℕ) (led : Led) (looked : Looked) → IsDiskImage size byte →
    list_any (λ b. b == 0) path ≡ false → look_up (file_system_of byte) path ≡ looked → LeadsAlike byte led looked →
    Does size byte (open_led byte mode led) (open_looked (file_system_of byte) mode looked)
opens-led laws size byte mode path too_long looked sound nul found alike =
    subst (λ (l : Looked). Does size byte (turned_down E_BAD_PATH) (open_looked (file_system_of byte) mode l)) (sym alike)
    (does-nothing size byte (negated E_BAD_PATH) sound)
opens-led laws size byte mode path astray looked sound nul found alike =
    subst (λ (l : Looked). Does size byte (turned_down E_NOT_FOUND) (open_looked (file_system_of byte) mode l)) (sym alike)
    (does-nothing size byte (negated E_NOT_FOUND) sound)
opens-led laws size byte mode path (no_record place name) looked sound nul found alike =
    let s : FileSystem = file_system_of byte in
    let way : List ℕ = alike.0 in
    let node : Node = node_of (records_at (block_count byte) byte) byte place in
    let is : node_at s way ≡ Some node =
    laws.ways size byte sound way ∙ ap (option_map (node_of (records_at (block_count byte) byte) byte)) alike.1 in
    subst (λ (l : Looked). Does size byte (open_led byte mode (no_record place name)) (open_looked s mode l)) (sym alike.2)
    (does-either size byte (has_bit mode O_CREAT) (create_plan byte place name) (turned_down E_NOT_FOUND) (create_in s way node name)
    (refused s E_NOT_FOUND)
    (λ create. creates-missing laws size byte way place name node sound alike.1 is (missing-name s path way node name nul (found ∙ alike.2)))
    (λ as_it_is. does-nothing size byte (negated E_NOT_FOUND) sound))
opens-led laws size byte mode path (a_record place way) looked sound nul found alike =
    subst (λ (l : Looked). Does size byte (open_led byte mode (a_record place way)) (open_looked (file_system_of byte) mode l)) (sym alike.1)
    (opens-there laws size byte mode place way sound alike.0)

-- ---- each act

pub act-does : ChangesAreActs → (size : ℕ) (byte : ℕ → ℕ) (is_open : List ℕ → Bool) (act : FileAct) → IsDiskImage size byte → HasString act →
    DoesBut (IsRemoved byte act) size byte (plan_of is_open byte act) (file_act is_open (file_system_of byte) act)
unfolding plan_of file_act open_act read_act write_act set_size_act stat_act remove_act
act-does laws size byte is_open (open_path path mode) sound string =
    opens-led laws size byte mode path (led_to byte path) (look_up (file_system_of byte) path) sound string refl (laws.paths size byte sound path)
act-does laws size byte is_open (read_file way at n) sound string =
    of-file-does laws size byte way (λ place. read_plan byte place at n)
    (λ bytes indirect. handed_back (file_system_of byte) (bytes_at bytes at n)) sound
    (λ place holds. read-does laws size byte way place (file_bytes byte place) (has_indirect byte place) at n holds)
act-does laws size byte is_open (write_file way at new) sound string =
    of-file-does laws size byte way (λ place. write_plan byte place at new) (write_to (file_system_of byte) way at new) sound
    (λ place holds. write-does laws size byte way place (file_bytes byte place) (has_indirect byte place) at new holds)
act-does laws size byte is_open (set_file_size way end) sound string =
    of-file-does laws size byte way (λ place. size_plan byte place end) (set_size_to (file_system_of byte) way end) sound
    (λ place holds. size-does laws size byte way place (file_bytes byte place) (has_indirect byte place) end holds)
act-does laws size byte is_open (stat_file way) sound string = stat-does laws size byte way sound
act-does laws size byte is_open (remove_path path) sound string = remove-does laws size byte is_open path sound
act-does laws size byte is_open sync_files sound string = does-nothing size byte 0 sound

-- ---- the laws

pub acts-are-acts : ChangesAreActs → BlockActsAreActs
acts-are-acts laws size byte is_open act sound string =
    let does = act-does laws size byte is_open act sound string in
    let changes = (plan_of is_open byte act).changes in
    let after : written (puts_of is_open byte act) byte ≡ left_by changes byte = written-in_turn changes byte in
    record {
      answer = does.answer;
      bytes = does.bytes;
      gives =
          record {
            sound = subst (IsDiskImage size) (sym after) (passes-last size byte changes does.passes);
            tree = ap file_system_of after ∙ does.tree;
          };
    }

pub places-stay : ChangesAreActs → PlacesStay
places-stay laws size byte is_open act sound string way place leads =
    let does = act-does laws size byte is_open act sound string in
    let changes = (plan_of is_open byte act).changes in
    subst
    (λ (b : ℕ → ℕ). Stays byte b way place ⊎ (IsRemoved byte act way place × ((plan_of is_open byte act).answer ≡ 0)))
    (sym (written-in_turn changes byte)) (does.stay way place leads)

pub changes-keep-disks : ChangesAreActs → ChangesKeepDisks
changes-keep-disks laws size byte is_open act k sound string =
    let does = act-does laws size byte is_open act sound string in
    let changes = (plan_of is_open byte act).changes in
    subst (IsDiskImage size) (sym (written-in_turn (take k changes) byte)) (passes-take size byte k changes does.passes)
