-- A removal, and an opening that truncates, begun anew between two of their changes, put what is left.
use Rattle.std.proofs.Common.{◌≡◌, ◌∙◌, ◌+◌, ◌&&◌, ℕ, Bool, true, false, List, [], ◌∷◌, ◌++◌, length, Some, refl, ap, arith}
use Rattle.std.specs.Prelude.{◌||◌, if◌then◌else◌}
use Rattle.jos_base.specs.declared.numbers.TheConstants.{E_INVAL, E_FILE_EXISTS}
use Rattle.jos_base.specs.Words.{has_bit}
use Rattle.fs_layout.specs.declared.numbers.TheConstants.{O_CREAT, O_TRUNC, O_EXCL}
use Rattle.fs_layout.specs.FileTree.{Node, a_file, FileAct, open_path, remove_path, FileSystem, blocks_taken}
use Rattle.fs_layout.specs.FileActs.{there, look_up}
use Rattle.fs_layout.specs.DiskImage.{has_indirect, is_directory_at}
use Rattle.fs_layout.specs.DiskFiles.{IsDiskImage, file_system_of, file_bytes, free_blocks}
use Rattle.fs_acts.specs.BlockActs.{Change, Planned, planned, turned_down, puts_in_turn, size_plan, resizing, empty_it, place_at, Led, a_record}
use Rattle.fs_acts.specs.BlockActs.{led_to, open_led, remove_led, plan_of}
use Rattle.fs_acts.proofs.ComposedSteps.{ChangesAreActs}
use Rattle.fs_acts.proofs.ComposedRecords.{file-is, file-at}
use Rattle.fs_acts.proofs.ComposedPaths.{none-fit}
use Rattle.fs_acts.proofs.ComposedLeft.{alike-append, always-none, always-behind}
use Rattle.fs_acts.proofs.ComposedLeftSizes.{At, Sizing, sizing}
use Rattle.fs_acts.proofs.ComposedLeftFiles.{Resumes, GoesOn, at-first, size-goes}
use Rattle.fs_acts.proofs.ComposedLooks.{look-up-there, led-there}

-- On the way the path leads to the same record.
led-still : ChangesAreActs → (size : ℕ) (byte : ℕ → ℕ) (path way : List ℕ) (place total : ℕ) (node : Node) (now : ℕ → ℕ) (own : List ℕ)
    (mark : Bool) → look_up (file_system_of byte) path ≡ there way node → At size (file_system_of byte) way place total now own mark →
    led_to now path ≡ a_record place way
led-still laws size byte path way place total node now own mark e at =
    led-there now (led_to now path) (look_up (file_system_of now) path) way (a_file own mark) place (laws.paths size now at.holds.sound path)
    (ap (λ (s : FileSystem). look_up s path) at.tree ∙ look-up-there (file_system_of byte) path way node (a_file own mark) e) at.holds.stands

-- ---- removal

pub remove-goes : ChangesAreActs → (size : ℕ) (byte : ℕ → ℕ) (is_open : List ℕ → Bool) (path way : List ℕ) (place : ℕ) (node : Node) →
    IsDiskImage size byte → look_up (file_system_of byte) path ≡ there way node → place_at byte way ≡ Some place →
    GoesOn is_open (remove_path path) byte (remove_led is_open byte (a_record place way))
unfolding plan_of
remove-goes laws size byte is_open path way place node sound e stands = by_kind (is_directory_at byte place) refl
  where
    act : FileAct
    act = remove_path path

    P : (ℕ → ℕ) → List Change → Type 0
    P = Resumes is_open act

    by_open : (b : Bool) → is_open way ≡ b → is_directory_at byte place ≡ false →
        GoesOn is_open act byte (if b then turned_down E_INVAL else planned (resizing byte place 0 ++ empty_it place ∷ []) 0)
    by_open true open_ kind = always-none P byte
    by_open false open_ kind =
        let bytes : List ℕ = file_bytes byte place in
        let indirect : Bool = has_indirect byte place in
        let total : ℕ = blocks_taken (length bytes) indirect + free_blocks byte in
        let holds = file-at laws size byte way place sound stands kind in
        always-behind (Sizing size (file_system_of byte) way place total 0) P byte (resizing byte place 0) (empty_it place)
        (λ now left z.
        let is = file-is laws size now way place z.bytes z.indirect z.at.holds in
        ap (λ (l : Led). puts_in_turn (remove_led is_open now l).changes now)
        (led-still laws size byte path way place total node now z.bytes z.indirect e z.at)
        ∙ ap (λ (b : Bool). puts_in_turn
        (if b || is_open way then turned_down E_INVAL else planned (resizing now place 0 ++ empty_it place ∷ []) 0).changes now) is.kind
        ∙ ap (λ (b : Bool). puts_in_turn (if b then turned_down E_INVAL else planned (resizing now place 0 ++ empty_it place ∷ []) 0).changes now)
        open_
        ∙ alike-append now (resizing now place 0) left (empty_it place ∷ []) z.same)
        (sizing laws size (file_system_of byte) way place total 0 byte bytes indirect (at-first size byte way place bytes indirect holds)
        (omega arith) (none-fit total))

    by_kind : (b : Bool) → is_directory_at byte place ≡ b →
        GoesOn is_open act byte (if b || is_open way then turned_down E_INVAL else planned (resizing byte place 0 ++ empty_it place ∷ []) 0)
    by_kind true kind = always-none P byte
    by_kind false kind = by_open (is_open way) refl kind

-- ---- an opening

pub open-goes : ChangesAreActs → (size : ℕ) (byte : ℕ → ℕ) (is_open : List ℕ → Bool) (path : List ℕ) (mode : ℕ) (way : List ℕ) (place : ℕ)
    (node : Node) → IsDiskImage size byte → look_up (file_system_of byte) path ≡ there way node → place_at byte way ≡ Some place →
    GoesOn is_open (open_path path mode) byte (open_led byte mode (a_record place way))
unfolding plan_of
open-goes laws size byte is_open path mode way place node sound e stands = by_exclusive (has_bit mode O_CREAT && has_bit mode O_EXCL) refl
  where
    act : FileAct
    act = open_path path mode

    P : (ℕ → ℕ) → List Change → Type 0
    P = Resumes is_open act

    opened : (ℕ → ℕ) → Bool → Planned
    opened now truncate = if truncate then size_plan now place 0 else planned [] 0

    by_truncate : (b : Bool) → has_bit mode O_TRUNC ≡ b → (has_bit mode O_CREAT && has_bit mode O_EXCL) ≡ false →
        is_directory_at byte place ≡ false → GoesOn is_open act byte (opened byte b)
    by_truncate false truncate exclusive kind = always-none P byte
    by_truncate true truncate exclusive kind =
        let bytes : List ℕ = file_bytes byte place in
        let indirect : Bool = has_indirect byte place in
        let total : ℕ = blocks_taken (length bytes) indirect + free_blocks byte in
        size-goes laws size byte is_open act way place bytes indirect 0 (file-at laws size byte way place sound stands kind)
        (λ now own mark at.
        let is = file-is laws size now way place own mark at.holds in
        ap (open_led now mode) (led-still laws size byte path way place total node now own mark e at)
        ∙ ap (λ (b : Bool). if b then turned_down E_FILE_EXISTS else if is_directory_at now place then turned_down E_INVAL
        else opened now (has_bit mode O_TRUNC)) exclusive
        ∙ ap (λ (b : Bool). if b then turned_down E_INVAL else opened now (has_bit mode O_TRUNC)) is.kind
        ∙ ap (opened now) truncate)

    by_kind : (b : Bool) → is_directory_at byte place ≡ b → (has_bit mode O_CREAT && has_bit mode O_EXCL) ≡ false →
        GoesOn is_open act byte (if b then turned_down E_INVAL else opened byte (has_bit mode O_TRUNC))
    by_kind true kind exclusive = always-none P byte
    by_kind false kind exclusive = by_truncate (has_bit mode O_TRUNC) refl exclusive kind

    by_exclusive : (b : Bool) → (has_bit mode O_CREAT && has_bit mode O_EXCL) ≡ b →
        GoesOn is_open act byte
        (if b then turned_down E_FILE_EXISTS else if is_directory_at byte place then turned_down E_INVAL
        else opened byte (has_bit mode O_TRUNC))
    by_exclusive true exclusive = always-none P byte
    by_exclusive false exclusive = by_kind (is_directory_at byte place) refl exclusive
