-- A file that is removed, and one that is opened: what is stored in the blocks is what is done to the tree.
use Rattle.std.proofs.Common.{◌≡◌, ◌∙◌, inl, inr, ◌+◌, ◌≤◌, ◌&&◌, ℕ, Bool, true, false, List, [], ◌∷◌, ◌++◌, length, Some}
use Rattle.std.proofs.Common.{refl, sym, ap, subst, arith}
use Rattle.std.specs.Prelude.{◌||◌, if◌then◌else◌}
use Rattle.jos_base.specs.declared.numbers.TheConstants.{E_INVAL, E_NOT_FOUND, E_BAD_PATH, E_FILE_EXISTS}
use Rattle.jos_base.specs.Words.{negated, has_bit}
use Rattle.fs_layout.specs.declared.numbers.TheConstants.{O_CREAT, O_TRUNC, O_EXCL}
use Rattle.fs_layout.specs.FileTree.{a_file, a_directory, FileSystem, without_node, needs_indirect, blocks_taken}
use Rattle.fs_layout.specs.FileActs.{Looked, there, look_up, done, refused, resized, set_size_to}
use Rattle.fs_layout.specs.FileActs.{remove_looked, open_there, open_looked}
use Rattle.fs_layout.specs.DiskImage.{block_count, has_indirect, is_directory_at}
use Rattle.fs_layout.specs.DiskFiles.{IsDiskImage, file_system_of, file_bytes, free_blocks, node_of, records_at}
use Rattle.fs_acts.specs.BlockActs.{Change, planned, turned_down, size_plan, resizing, empty_it, written, place_at, Led, too_long}
use Rattle.fs_acts.specs.BlockActs.{astray, no_record, a_record, led_to, remove_led, open_record}
use Rattle.fs_acts.specs.BlockLaws.{Holds, Stays, LeadsAlike}
use Rattle.fs_acts.proofs.ComposedTrees.{without-with_node}
use Rattle.fs_acts.proofs.ComposedBytes.{resized-shorter}
use Rattle.fs_acts.proofs.Undamaged.{some-same}
use Rattle.fs_acts.proofs.ComposedSteps.{ChangesAreActs, left_by, left_by-append, Passes, passes-append, stays-on, Turns, turned}
use Rattle.fs_acts.proofs.ComposedRecords.{file-is, file-at}
use Rattle.fs_acts.proofs.ComposedSizes.{renamed, resizes}
use Rattle.fs_acts.proofs.ComposedFiles.{DoesBut, Does, does-nothing, does-either, size-does, not-root}

-- ---- removal

-- no blocks fit
pub none-fit : (n : ℕ) → blocks_taken 0 (needs_indirect 0) ≤ n
none-fit n = omega arith

emptied-passes : (size : ℕ) (byte : ℕ → ℕ) (change : Change) → IsDiskImage size byte → IsDiskImage size (written (change byte) byte) →
    Passes size byte (change ∷ [])
unfolding Passes
emptied-passes size byte change one two = (one, two)

emptied-left : (byte : ℕ → ℕ) (change : Change) → left_by (change ∷ []) byte ≡ written (change byte) byte
unfolding left_by
emptied-left byte change = refl

-- the blocks are given back, and the record becomes empty
removes : ChangesAreActs → {Told : List ℕ → ℕ → Type 0} (size : ℕ) (byte : ℕ → ℕ) (way : List ℕ) (place : ℕ) (bytes : List ℕ)
    (indirect : Bool) → Holds size byte way place (a_file bytes indirect) →
    ((at : List ℕ) (end : ℕ) → place_at byte at ≡ Some end → at ≡ way → Told at end) →
    DoesBut Told size byte (planned (resizing byte place 0 ++ empty_it place ∷ []) 0) (done (without_node (file_system_of byte) way) 0)
removes laws size byte [] place bytes indirect holds told =
    let is = file-is laws size byte [] place bytes indirect holds in
    absurd (not-root size byte place holds.sound holds.stands is.kind)
removes laws size byte (first ∷ way) place bytes indirect holds told =
    let s : FileSystem = file_system_of byte in
    let changes : List Change = resizing byte place 0 in
    let now : ℕ → ℕ = left_by changes byte in
    let turns : Turns size byte (first ∷ way) place changes (a_file [] false) =
    renamed (resized bytes 0) [] (needs_indirect 0) false
    (resizes laws size byte (first ∷ way) place bytes indirect 0 holds (omega arith)
    (none-fit (blocks_taken (length bytes) indirect + free_blocks byte)))
    (resized-shorter bytes 0 (omega arith)) refl in
    let last = laws.emptied size now first way place (turned turns) in
    let after : left_by (changes ++ empty_it place ∷ []) byte ≡ written (empty_it place now) now =
    left_by-append changes (empty_it place ∷ []) byte ∙ emptied-left now (empty_it place) in
    record {
      answer = refl;
      bytes = refl;
      passes =
          passes-append size byte changes (empty_it place ∷ []) turns.passes
          (emptied-passes size now (empty_it place) ((turned turns).sound) last.gives.sound);
      tree =
          ap file_system_of after
          ∙ last.gives.tree
          ∙ ap (λ (t : FileSystem). without_node t (first ∷ way)) turns.tree
          ∙ without-with_node s first way (a_file [] false);
      stay = λ at end leads.
          let here = turns.all_stay at end leads in
          elim (last.others_stay at end here.0) [
            | inl stays ↦ inl (subst (λ (b : ℕ → ℕ). Stays byte b at end) (sym after)
                (stays-on byte now (written (empty_it place now) now) at end here stays))
            | inr same ↦ inr (told at end leads same, refl)
          ];
    }

-- where a path leads to a record
removes-there : ChangesAreActs → {Told : List ℕ → ℕ → Type 0} (size : ℕ) (byte : ℕ → ℕ) (is_open : List ℕ → Bool) (place : ℕ)
    (way : List ℕ) → IsDiskImage size byte → place_at byte way ≡ Some place → (directory : Bool) → is_directory_at byte place ≡ directory →
    ((at : List ℕ) (end : ℕ) → place_at byte at ≡ Some end → at ≡ way → Told at end) →
    DoesBut Told size byte (if directory || is_open way then turned_down E_INVAL else planned (resizing byte place 0 ++ empty_it place ∷ []) 0)
    (remove_looked is_open (file_system_of byte)
    (there way (if directory then a_directory (records_at (block_count byte) byte place) (has_indirect byte place)
    else a_file (file_bytes byte place) (has_indirect byte place))))
removes-there laws size byte is_open place way sound stands true kind told = does-nothing size byte (negated E_INVAL) sound
removes-there laws size byte is_open place way sound stands false kind told =
    does-either size byte (is_open way) (turned_down E_INVAL) (planned (resizing byte place 0 ++ empty_it place ∷ []) 0)
    (refused (file_system_of byte) E_INVAL) (done (without_node (file_system_of byte) way) 0)
    (λ open_. does-nothing size byte (negated E_INVAL) sound)
    (λ closed.
    removes laws size byte way place (file_bytes byte place) (has_indirect byte place) (file-at laws size byte way place sound stands kind)
    told)

removes-led : ChangesAreActs → (size : ℕ) (byte : ℕ → ℕ) (is_open : List ℕ → Bool) (led : Led) (looked : Looked) → IsDiskImage size byte →
    LeadsAlike byte led looked →
    DoesBut (λ at end. led ≡ a_record end at) size byte (remove_led is_open byte led) (remove_looked is_open (file_system_of byte) looked)
removes-led laws size byte is_open too_long looked sound alike =
    subst
    (λ (l : Looked).
    DoesBut (λ at end. too_long ≡ a_record end at) size byte (turned_down E_BAD_PATH) (remove_looked is_open (file_system_of byte) l))
    (sym alike)
    (does-nothing size byte (negated E_BAD_PATH) sound)
removes-led laws size byte is_open astray looked sound alike =
    subst
    (λ (l : Looked).
    DoesBut (λ at end. astray ≡ a_record end at) size byte (turned_down E_NOT_FOUND) (remove_looked is_open (file_system_of byte) l))
    (sym alike)
    (does-nothing size byte (negated E_NOT_FOUND) sound)
removes-led laws size byte is_open (no_record place name) looked sound alike =
    subst
    (λ (l : Looked).
    DoesBut (λ at end. no_record place name ≡ a_record end at) size byte (turned_down E_NOT_FOUND)
    (remove_looked is_open (file_system_of byte) l))
    (sym alike.2)
    (does-nothing size byte (negated E_NOT_FOUND) sound)
removes-led laws size byte is_open (a_record place way) looked sound alike =
    subst
    (λ (l : Looked).
    DoesBut (λ at end. a_record place way ≡ a_record end at) size byte (remove_led is_open byte (a_record place way))
    (remove_looked is_open (file_system_of byte) l))
    (sym alike.1)
    (removes-there laws size byte is_open place way sound alike.0 (is_directory_at byte place) refl
    (λ at end leads same.
    let goes : place ≡ end = some-same place end (sym alike.0 ∙ ap (λ (w : List ℕ). place_at byte w) (sym same) ∙ leads) in
    λ k. a_record (goes k) (sym same k)))

pub remove-does : ChangesAreActs → (size : ℕ) (byte : ℕ → ℕ) (is_open : List ℕ → Bool) (path : List ℕ) → IsDiskImage size byte →
    DoesBut (λ at end. led_to byte path ≡ a_record end at) size byte (remove_led is_open byte (led_to byte path))
    (remove_looked is_open (file_system_of byte) (look_up (file_system_of byte) path))
remove-does laws size byte is_open path sound =
    removes-led laws size byte is_open (led_to byte path) (look_up (file_system_of byte) path) sound (laws.paths size byte sound path)

-- ---- what is there is opened

opens-kind : ChangesAreActs → (size : ℕ) (byte : ℕ → ℕ) (mode : ℕ) (place : ℕ) (way : List ℕ) → IsDiskImage size byte →
    place_at byte way ≡ Some place → (directory : Bool) → is_directory_at byte place ≡ directory →
    Does size byte (if directory then turned_down E_INVAL else if has_bit mode O_TRUNC then size_plan byte place 0 else planned [] 0)
    (open_there (file_system_of byte) mode way
    (if directory then a_directory (records_at (block_count byte) byte place) (has_indirect byte place)
    else a_file (file_bytes byte place) (has_indirect byte place)))
opens-kind laws size byte mode place way sound stands true kind = does-nothing size byte (negated E_INVAL) sound
opens-kind laws size byte mode place way sound stands false kind =
    does-either size byte (has_bit mode O_TRUNC) (size_plan byte place 0) (planned [] 0)
    (set_size_to (file_system_of byte) way 0 (file_bytes byte place) (has_indirect byte place)) (done (file_system_of byte) 0)
    (λ truncate.
    size-does laws size byte way place (file_bytes byte place) (has_indirect byte place) 0 (file-at laws size byte way place sound stands kind))
    (λ as_it_is. does-nothing size byte 0 sound)

pub opens-there : ChangesAreActs → (size : ℕ) (byte : ℕ → ℕ) (mode : ℕ) (place : ℕ) (way : List ℕ) → IsDiskImage size byte →
    place_at byte way ≡ Some place →
    Does size byte (open_record byte mode place)
    (open_looked (file_system_of byte) mode (there way (node_of (records_at (block_count byte) byte) byte place)))
opens-there laws size byte mode place way sound stands =
    does-either size byte (has_bit mode O_CREAT && has_bit mode O_EXCL) (turned_down E_FILE_EXISTS)
    (if is_directory_at byte place then turned_down E_INVAL else if has_bit mode O_TRUNC then size_plan byte place 0 else planned [] 0)
    (refused (file_system_of byte) E_FILE_EXISTS)
    (open_there (file_system_of byte) mode way (node_of (records_at (block_count byte) byte) byte place))
    (λ exclusive. does-nothing size byte (negated E_FILE_EXISTS) sound)
    (λ allowed. opens-kind laws size byte mode place way sound stands (is_directory_at byte place) refl)
