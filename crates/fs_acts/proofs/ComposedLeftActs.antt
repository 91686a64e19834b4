-- Every act on files that is begun anew between two of its changes puts what is left, given the laws of the single changes.
use Rattle.std.proofs.Common.{◌≡◌, ◌∙◌, ◌==◌, ℕ, Bool, false, List, [], ◌∷◌, Option, Some, refl, sym, ap, subst}
use Rattle.std.specs.Prelude.{option_map, take, drop}
use Rattle.std.specs.List.{list_any}
use Rattle.fs_layout.specs.FileTree.{Node, a_directory, FileSystem, listed, records_from, node_at}
use Rattle.fs_layout.specs.FileTree.{FileAct, open_path, read_file, write_file, set_file_size, stat_file, remove_path, sync_files}
use Rattle.fs_layout.specs.FileActs.{Looked, look_up}
use Rattle.fs_layout.specs.DiskImage.{block_count, has_indirect}
use Rattle.fs_layout.specs.DiskFiles.{IsDiskImage, file_system_of, file_bytes, node_of, records_at}
use Rattle.fs_layout.proofs.FileTrees.{records_from-listed}
use Rattle.fs_acts.specs.BlockActs.{puts_in_turn, Led, too_long, astray, no_record, a_record, led_to, read_plan, write_plan, stat_plan, size_plan}
use Rattle.fs_acts.specs.BlockActs.{open_led, remove_led, plan_of, puts_of}
use Rattle.fs_acts.specs.BlockLaws.{LeadsAlike, HasString, ActsGoOn}
use Rattle.fs_acts.proofs.ComposedSteps.{ChangesAreActs, written-in_turn}
use Rattle.fs_acts.proofs.ComposedNames.{missing-name}
use Rattle.fs_acts.proofs.ComposedLeft.{always-none, always-at}
use Rattle.fs_acts.proofs.ComposedLeftFiles.{Resumes, GoesOn, set-size-goes, write-goes, of-file-goes}
use Rattle.fs_acts.proofs.ComposedLeftPaths.{remove-goes, open-goes}
use Rattle.fs_acts.proofs.ComposedLeftCreates.{create-goes}

-- ---- paths

opens-go : ChangesAreActs → (size : ℕ) (byte : ℕ → ℕ) (is_open : List ℕ → Bool) (path : List ℕ) (mode : ℕ) (led : Led) (looked : Looked) →
    IsDiskImage size byte → list_any (λ b. b == 0) path ≡ false → led_to byte path ≡ led → look_up (file_system_of byte) path ≡ looked →
    LeadsAlike byte led looked → GoesOn is_open (open_path path mode) byte (open_led byte mode led)
opens-go laws size byte is_open path mode too_long looked sound nul led found alike = always-none (Resumes is_open (open_path path mode)) byte
opens-go laws size byte is_open path mode astray looked sound nul led found alike = always-none (Resumes is_open (open_path path mode)) byte
opens-go laws size byte is_open path mode (a_record place way) looked sound nul led found alike =
    open-goes laws size byte is_open path mode way place (node_of (records_at (block_count byte) byte) byte place) sound (found ∙ alike.1) alike.0
opens-go laws size byte is_open path mode (no_record place name) looked sound nul led found alike =
    let s : FileSystem = file_system_of byte in
    let way : List ℕ = alike.0 in
    let node : Node = node_of (records_at (block_count byte) byte) byte place in
    let it = missing-name s path way node name nul (found ∙ alike.2) in
    let same : node ≡ a_directory (records_from (listed it.records)) it.indirect =
    it.node_is ∙ ap (λ r. a_directory r it.indirect) (sym (records_from-listed it.records)) in
    let is : node_at s way ≡ Some node =
    laws.ways size byte sound way ∙ ap (option_map (node_of (records_at (block_count byte) byte) byte)) alike.1 in
    create-goes laws size byte is_open path mode way place node name (listed it.records) it.indirect led (found ∙ alike.2) it.alone
    (record { sound = sound; stands = alike.1; is = is ∙ ap {B = Option Node} Some same })

removes-go : ChangesAreActs → (size : ℕ) (byte : ℕ → ℕ) (is_open : List ℕ → Bool) (path : List ℕ) (led : Led) (looked : Looked) →
    IsDiskImage size byte → look_up (file_system_of byte) path ≡ looked → LeadsAlike byte led looked →
    GoesOn is_open (remove_path path) byte (remove_led is_open byte led)
removes-go laws size byte is_open path too_long looked sound found alike = always-none (Resumes is_open (remove_path path)) byte
removes-go laws size byte is_open path astray looked sound found alike = always-none (Resumes is_open (remove_path path)) byte
removes-go laws size byte is_open path (no_record place name) looked sound found alike = always-none (Resumes is_open (remove_path path)) byte
removes-go laws size byte is_open path (a_record place way) looked sound found alike =
    remove-goes laws size byte is_open path way place (node_of (records_at (block_count byte) byte) byte place) sound (found ∙ alike.1) alike.0

-- ---- each act

act-goes : ChangesAreActs → (size : ℕ) (byte : ℕ → ℕ) (is_open : List ℕ → Bool) (act : FileAct) → IsDiskImage size byte → HasString act →
    GoesOn is_open act byte (plan_of is_open byte act)
unfolding plan_of read_plan write_plan stat_plan
act-goes laws size byte is_open (open_path path mode) sound string =
    opens-go laws size byte is_open path mode (led_to byte path) (look_up (file_system_of byte) path) sound string refl refl
    (laws.paths size byte sound path)
act-goes laws size byte is_open (read_file way at n) sound string =
    of-file-goes laws size byte is_open (read_file way at n) way (λ place. read_plan byte place at n) sound
    (λ place holds. always-none (Resumes is_open (read_file way at n)) byte)
act-goes laws size byte is_open (write_file way at []) sound string =
    of-file-goes laws size byte is_open (write_file way at []) way (λ place. write_plan byte place at []) sound
    (λ place holds. always-none (Resumes is_open (write_file way at [])) byte)
act-goes laws size byte is_open (write_file way at (first ∷ rest)) sound string =
    of-file-goes laws size byte is_open (write_file way at (first ∷ rest)) way (λ place. write_plan byte place at (first ∷ rest)) sound
    (λ place holds.
    write-goes laws size byte is_open way place (file_bytes byte place) (has_indirect byte place) at (first ∷ rest) holds (λ now. refl))
act-goes laws size byte is_open (set_file_size way end) sound string =
    of-file-goes laws size byte is_open (set_file_size way end) way (λ place. size_plan byte place end) sound
    (λ place holds. set-size-goes laws size byte is_open way place (file_bytes byte place) (has_indirect byte place) end holds)
act-goes laws size byte is_open (stat_file way) sound string =
    of-file-goes laws size byte is_open (stat_file way) way (stat_plan byte) sound
    (λ place holds. always-none (Resumes is_open (stat_file way)) byte)
act-goes laws size byte is_open (remove_path path) sound string =
    removes-go laws size byte is_open path (led_to byte path) (look_up (file_system_of byte) path) sound refl (laws.paths size byte sound path)
act-goes laws size byte is_open sync_files sound string = always-none (Resumes is_open sync_files) byte

-- ---- the law

pub acts-go-on : ChangesAreActs → ActsGoOn
acts-go-on laws size byte is_open act k sound string within =
    let changes = (plan_of is_open byte act).changes in
    subst (λ (now : ℕ → ℕ). puts_of is_open now act ≡ puts_in_turn (drop k changes) now) (sym (written-in_turn (take k changes) byte))
    (always-at (Resumes is_open act) byte changes k within (act-goes laws size byte is_open act sound string))
