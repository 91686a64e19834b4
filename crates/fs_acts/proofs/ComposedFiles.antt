-- The acts on an open file: what they store in the blocks is what they do to the tree.
use Rattle.std.proofs.Common.{◌≡◌, ◌∙◌, ◌⊎◌, inl, ◌+◌, ◌-◌, ◌≤◌, ℕ, Bool, true, false, List, [], ◌∷◌, ◌++◌}
use Rattle.std.proofs.Common.{length, Option, Some, None, refl, sym, ap, subst, arith, min}
use Rattle.std.specs.Prelude.{◌||◌, nat_lt, nat_le, max, take, drop, option_map, if◌then◌else◌}
use Rattle.std.proofs.lemmas.Bool.Decides.{nat_tests}
use Rattle.jos_base.specs.declared.numbers.TheConstants.{E_INVAL, E_NO_DISK}
use Rattle.jos_base.specs.Words.{negated}
use Rattle.fs_layout.specs.declared.numbers.TheConstants.{BLKSIZE, MAXFILESIZE, FTYPE_REG}
use Rattle.fs_layout.specs.FileTree.{Node, a_file, a_directory, NamedNode, FileSystem, named_at, node_at, with_node}
use Rattle.fs_layout.specs.FileTree.{needs_indirect, blocks_taken, tree_blocks, blocks_in_use, blocks_free}
use Rattle.fs_layout.specs.FileActs.{Acted, done, refused, done_if_it_fits, on_file, grown_file, overwritten, resized, bytes_at, handed_back}
use Rattle.fs_layout.specs.FileActs.{write_to, set_size_to, stat_of, stat_bytes}
use Rattle.jos_base.specs.Below.{values_below}
use Rattle.fs_layout.specs.DiskImage.{block_count, root_place, size_of, has_indirect, is_directory_at, name_of}
use Rattle.fs_layout.specs.DiskFiles.{IsDiskImage, file_system_of, file_byte, file_bytes, free_blocks, node_of, records_at}
use Rattle.fs_layout.proofs.FileBytes.{length-overwritten, length-resized}
use Rattle.fs_layout.proofs.DiskSound.{disks-sound}
use Rattle.fs_acts.specs.BlockActs.{Change, Planned, planned, turned_down, planned_if_it_fits, fits, size_plan, blocks_grown, write_some}
use Rattle.fs_acts.specs.BlockActs.{write_plan, read_plan, stat_plan, of_file, overwrite, growth, resizing, place_at, place_from}
use Rattle.fs_acts.specs.BlockLaws.{Holds, Stays}
use Rattle.fs_acts.proofs.ComposedTrees.{in_use-with_node}
use Rattle.fs_acts.proofs.ComposedBytes.{overwritten-resized, values-part}
use Rattle.fs_acts.proofs.ComposedSteps.{ChangesAreActs, left_by, Passes, Turns, turned, turns-one, turns-append}
use Rattle.fs_acts.proofs.ComposedRecords.{file-is, file-at}
use Rattle.fs_acts.proofs.ComposedSizes.{renamed, grows, resizes, or-needed}

-- ---- a plan and an act

-- A plan does an act: it answers the same, and its changes, between which the disk has no fault, give the act's files. All
-- records stand where they stood, but for those that are told, and these only where 0 is answered.
pub record DoesBut (Told : List ℕ → ℕ → Type 0) (size : ℕ) (byte : ℕ → ℕ) (plan : Planned) (acted : Acted) : Type 0 where
  pub answer : plan.answer ≡ acted.answer
  pub bytes : plan.bytes ≡ acted.bytes
  pub passes : Passes size byte plan.changes
  pub tree : file_system_of (left_by plan.changes byte) ≡ acted.files
  pub stay : (way : List ℕ) (place : ℕ) → place_at byte way ≡ Some place →
      Stays byte (left_by plan.changes byte) way place ⊎ (Told way place × (plan.answer ≡ 0))

-- and where none is told
abbrev pub Does : ℕ → (ℕ → ℕ) → Planned → Acted → Type 0
Does size byte plan acted = DoesBut (λ way place. ⊥) size byte plan acted

-- nothing is stored
pub does-nothing : {Told : List ℕ → ℕ → Type 0} (size : ℕ) (byte : ℕ → ℕ) (answer : ℕ) → IsDiskImage size byte →
    DoesBut Told size byte (planned [] answer) (done (file_system_of byte) answer)
unfolding Passes left_by
does-nothing size byte answer sound =
    record { answer = refl; bytes = refl; passes = sound; tree = refl; stay = λ way place leads. inl (leads, refl) }

-- another node is put at a way
pub does-turns : {size : ℕ} {byte : ℕ → ℕ} {way : List ℕ} {place : ℕ} {changes : List Change} {node : Node} (answer : ℕ) →
    Turns size byte way place changes node →
    Does size byte (planned changes answer) (done (with_node (file_system_of byte) way node) answer)
does-turns answer turns =
    record {
      answer = refl;
      bytes = refl;
      passes = turns.passes;
      tree = turns.tree;
      stay = λ at end leads. inl (turns.all_stay at end leads);
    }

-- both choose alike
pub does-either : {Told : List ℕ → ℕ → Type 0} (size : ℕ) (byte : ℕ → ℕ) (b : Bool) (one two : Planned) (first second : Acted) →
    (b ≡ true → DoesBut Told size byte one first) → (b ≡ false → DoesBut Told size byte two second) →
    DoesBut Told size byte (if b then one else two) (if b then first else second)
does-either size byte true one two first second so other = so refl
does-either size byte false one two first second so other = other refl

does-where : (size : ℕ) (byte : ℕ → ℕ) (b c : Bool) (changes : List Change) (after : FileSystem) (answer : ℕ) → b ≡ c →
    IsDiskImage size byte → (b ≡ true → Does size byte (planned changes answer) (done after answer)) →
    Does size byte (if b then planned changes answer else turned_down E_NO_DISK)
    (if c then done after answer else refused (file_system_of byte) E_NO_DISK)
does-where size byte true true changes after answer same sound fit = fit refl
does-where size byte false false changes after answer same sound fit = does-nothing size byte (negated E_NO_DISK) sound
does-where size byte true false changes after answer same sound fit = absurd (cc)
does-where size byte false true changes after answer same sound fit = absurd (cc)

fit_sum : (had wanted rest old new now before free blocks : ℕ) → now + old ≡ before + new → old ≡ had + rest → new ≡ wanted + rest →
    before + free ≡ blocks → nat_le (wanted - had) free ≡ nat_le (now - before) (blocks - before)
fit_sum had wanted rest old new now before free blocks moved is gets all =
    let one : wanted - had ≡ now - before = omega arith in
    let two : free ≡ blocks - before = omega arith in
    λ i. nat_le (one i) (two i)

-- What fits on the disk fits in the tree: the blocks that the node had, and those that it is to have.
pub fit-alike : ChangesAreActs → (size : ℕ) (byte : ℕ → ℕ) (way : List ℕ) (old new : Node) (had wanted rest : ℕ) → IsDiskImage size byte →
    node_at (file_system_of byte) way ≡ Some old → tree_blocks old ≡ had + rest → tree_blocks new ≡ wanted + rest →
    let s : FileSystem = file_system_of byte in
    nat_le (wanted - had) (free_blocks byte) ≡ nat_le (blocks_in_use (with_node s way new) - blocks_in_use s) (blocks_free s)
unfolding file_system_of
fit-alike laws size byte way old new had wanted rest sound e is gets =
    let s : FileSystem = file_system_of byte in
    fit_sum had wanted rest (tree_blocks old) (tree_blocks new) (blocks_in_use (with_node s way new)) (blocks_in_use s) (free_blocks byte)
    (block_count byte) (in_use-with_node s way old new e) is gets (laws.blocks size byte sound)

pub does-if-it-fits : ChangesAreActs → (size : ℕ) (byte : ℕ → ℕ) (way : List ℕ) (place : ℕ) (old new : Node) (wanted rest answer : ℕ)
    (changes : List Change) → Holds size byte way place old →
    tree_blocks old ≡ blocks_taken (size_of byte place) (has_indirect byte place) + rest → tree_blocks new ≡ wanted + rest →
    (wanted ≤ blocks_taken (size_of byte place) (has_indirect byte place) + free_blocks byte →
    Does size byte (planned changes answer) (done (with_node (file_system_of byte) way new) answer)) →
    Does size byte (planned_if_it_fits byte place wanted answer changes)
    (done_if_it_fits (file_system_of byte) (with_node (file_system_of byte) way new) answer)
does-if-it-fits laws size byte way place old new wanted rest answer changes holds is gets does =
    let s : FileSystem = file_system_of byte in
    let had : ℕ = blocks_taken (size_of byte place) (has_indirect byte place) in
    does-where size byte (fits byte place wanted)
    (nat_le (blocks_in_use (with_node s way new) - blocks_in_use s) (blocks_free s)) changes (with_node s way new) answer
    (fit-alike laws size byte way old new had wanted rest holds.sound holds.is is gets) holds.sound
    (λ fit. does (within had wanted (free_blocks byte) fit))
  where
    within : (had wanted free : ℕ) → nat_le (wanted - had) free ≡ true → wanted ≤ had + free
    within had wanted free e = grind (arith, nat_tests)

-- ---- a size

file_blocks : (bytes : List ℕ) (indirect : Bool) (size : ℕ) (mark : Bool) → length bytes ≡ size → mark ≡ indirect →
    tree_blocks (a_file bytes indirect) ≡ blocks_taken size mark + 0
unfolding tree_blocks
file_blocks bytes indirect size mark e f =
    let same : blocks_taken (length bytes) indirect ≡ blocks_taken size mark = λ i. blocks_taken (e i) (sym f i) in omega arith

-- the bound on sizes
pub not-past : (end : ℕ) → nat_lt 4235264 end ≡ false → end ≤ 4235264
not-past end e = grind (arith, nat_tests)

fit_file : (bytes : List ℕ) (indirect : Bool) (size : ℕ) (mark : Bool) (wanted free : ℕ) → length bytes ≡ size → mark ≡ indirect →
    wanted ≤ blocks_taken size mark + free → wanted ≤ blocks_taken (length bytes) indirect + free
fit_file bytes indirect size mark wanted free e f fit =
    subst (λ (n : ℕ). wanted ≤ blocks_taken n indirect + free) (sym e)
    (subst (λ (b : Bool). wanted ≤ blocks_taken size b + free) f fit)

pub size-does : ChangesAreActs → (size : ℕ) (byte : ℕ → ℕ) (way : List ℕ) (place : ℕ) (bytes : List ℕ) (indirect : Bool) (end : ℕ) →
    Holds size byte way place (a_file bytes indirect) →
    Does size byte (size_plan byte place end) (set_size_to (file_system_of byte) way end bytes indirect)
unfolding size_plan
size-does laws size byte way place bytes indirect end holds =
    let s : FileSystem = file_system_of byte in
    let needs : Bool = needs_indirect end in
    let is = file-is laws size byte way place bytes indirect holds in
    does-either size byte (nat_lt MAXFILESIZE end) (turned_down E_NO_DISK)
    (planned_if_it_fits byte place (blocks_taken end needs) 0 (resizing byte place end)) (refused s E_NO_DISK)
    (done_if_it_fits s (with_node s way (a_file (resized bytes end) needs)) 0)
    (λ past. does-nothing size byte (negated E_NO_DISK) holds.sound)
    (λ short.
    does-if-it-fits laws size byte way place (a_file bytes indirect) (a_file (resized bytes end) needs) (blocks_taken end needs) 0 0
    (resizing byte place end) holds (file_blocks bytes indirect (size_of byte place) (has_indirect byte place) is.long is.mark)
    (file_blocks (resized bytes end) needs end needs (length-resized bytes end) refl)
    (λ fit.
    does-turns 0
    (resizes laws size byte way place bytes indirect end holds (not-past end short)
    (fit_file bytes indirect (size_of byte place) (has_indirect byte place) (blocks_taken end needs) (free_blocks byte) is.long is.mark fit))))

-- ---- bytes

-- bytes within the size
writes-within : ChangesAreActs → (size : ℕ) (byte : ℕ → ℕ) (way : List ℕ) (place : ℕ) (bytes : List ℕ) (indirect : Bool) (at : ℕ) (new : List ℕ) →
    Holds size byte way place (a_file bytes indirect) → at + length new ≤ length bytes →
    let s : FileSystem = file_system_of byte in
    Does size byte (planned (overwrite place at new ∷ []) (length new))
    (done_if_it_fits s (with_node s way (grown_file (overwritten bytes at new) indirect)) (length new))
writes-within laws size byte way place bytes indirect at new holds within =
    let s : FileSystem = file_system_of byte in
    let now : List ℕ = overwritten bytes at new in
    let mark : Bool = indirect || needs_indirect (length now) in
    let is = file-is laws size byte way place bytes indirect holds in
    let long : length now ≡ max (length bytes) (at + length new) = length-overwritten bytes at new in
    let same : length now ≡ length bytes = omega (arith, long, within) in
    let marks : mark ≡ indirect =
    ap (λ (n : ℕ). indirect || needs_indirect n) same ∙ or-needed indirect (length bytes) is.needed in
    let taken : ℕ = blocks_taken (length bytes) indirect in
    let fit =
    fit-alike laws size byte way (a_file bytes indirect) (a_file now mark) taken taken 0 holds.sound holds.is
    (file_blocks bytes indirect (length bytes) indirect refl refl)
    (file_blocks now mark (length bytes) indirect same (sym marks)) in
    let always : nat_le (taken - taken) (free_blocks byte) ≡ true = none-fit taken (free_blocks byte) in
    subst
    (λ (b : Bool). Does size byte (planned (overwrite place at new ∷ []) (length new))
    (if b then done (with_node s way (a_file now mark)) (length new) else refused s E_NO_DISK))
    (sym always ∙ fit)
    (does-turns (length new)
    (renamed now now indirect mark
    (turns-one size byte way place (a_file bytes indirect) (a_file now indirect) (overwrite place at new) holds
    (laws.overwrites size byte way place bytes indirect holds at new within)) refl (sym marks)))
  where
    none-fit : (n free : ℕ) → nat_le (n - n) free ≡ true
    none-fit n free = grind (arith, nat_tests)

-- bytes up to one past the size
writes-past : ChangesAreActs → (size : ℕ) (byte : ℕ → ℕ) (way : List ℕ) (place : ℕ) (bytes : List ℕ) (indirect : Bool) (at : ℕ) (new : List ℕ) →
    Holds size byte way place (a_file bytes indirect) → length bytes ≤ at + length new → at + length new ≤ MAXFILESIZE →
    let s : FileSystem = file_system_of byte in
    let end : ℕ = at + length new in
    Does size byte (planned_if_it_fits byte place (blocks_grown byte place end) (length new) (growth byte place end ++ overwrite place at new ∷ []))
    (done_if_it_fits s (with_node s way (grown_file (overwritten bytes at new) indirect)) (length new))
writes-past laws size byte way place bytes indirect at new holds past short =
    let s : FileSystem = file_system_of byte in
    let end : ℕ = at + length new in
    let now : List ℕ = overwritten bytes at new in
    let grown : List ℕ = resized bytes end in
    let is = file-is laws size byte way place bytes indirect holds in
    let long : length now ≡ max (length bytes) end = length-overwritten bytes at new in
    let ends : length now ≡ end = omega (arith, long, past) in
    let mark : Bool = indirect || needs_indirect (length now) in
    let marks : (has_indirect byte place || needs_indirect end) ≡ mark = λ i. is.mark i || needs_indirect (sym ends i) in
    does-if-it-fits laws size byte way place (a_file bytes indirect) (a_file now mark) (blocks_grown byte place end) 0 (length new)
    (growth byte place end ++ overwrite place at new ∷ []) holds
    (file_blocks bytes indirect (size_of byte place) (has_indirect byte place) is.long is.mark)
    (file_blocks now mark end (has_indirect byte place || needs_indirect end) ends marks)
    (λ fit.
    let free =
    fit_file bytes indirect (size_of byte place) (has_indirect byte place) (blocks_grown byte place end) (free_blocks byte) is.long is.mark fit in
    let more : Turns size byte way place (growth byte place end) (a_file grown (indirect || needs_indirect end)) =
    grows laws size byte way place bytes indirect end holds past short
    (subst (λ (b : Bool). blocks_taken end (b || needs_indirect end) ≤ blocks_taken (length bytes) indirect + free_blocks byte) is.mark free) in
    let within : at + length new ≤ length grown = subst (λ (n : ℕ). at + length new ≤ n) (sym (length-resized bytes end)) (omega arith) in
    let last : Turns size (left_by (growth byte place end) byte) way place (overwrite place at new ∷ [])
    (a_file (overwritten grown at new) (indirect || needs_indirect end)) =
    turns-one size (left_by (growth byte place end) byte) way place (a_file grown (indirect || needs_indirect end))
    (a_file (overwritten grown at new) (indirect || needs_indirect end)) (overwrite place at new) (turned more)
    (laws.overwrites size (left_by (growth byte place end) byte) way place grown (indirect || needs_indirect end) (turned more) at new within) in
    does-turns (length new)
    (renamed (overwritten grown at new) now (indirect || needs_indirect end) mark
    (turns-append size byte way place (a_file grown (indirect || needs_indirect end))
    (a_file (overwritten grown at new) (indirect || needs_indirect end)) (growth byte place end) (overwrite place at new ∷ []) more last)
    (overwritten-resized bytes at new past)
    (ap (λ (n : ℕ). indirect || needs_indirect n) (sym ends))))

same-both : (b : Bool) (a : Acted) → (if b then a else a) ≡ a
same-both true a = refl
same-both false a = refl

ends-within : (end own long : ℕ) → long ≡ own → nat_le end own ≡ true → end ≤ long
ends-within end own long e fit = grind (arith, nat_tests)

pub ends-past : (end own long : ℕ) → long ≡ own → nat_le end own ≡ false → long ≤ end
ends-past end own long e fit = grind (arith, nat_tests)

pub write-does : ChangesAreActs → (size : ℕ) (byte : ℕ → ℕ) (way : List ℕ) (place : ℕ) (bytes : List ℕ) (indirect : Bool) (at : ℕ)
    (new : List ℕ) → Holds size byte way place (a_file bytes indirect) →
    Does size byte (write_plan byte place at new) (write_to (file_system_of byte) way at new bytes indirect)
unfolding write_plan
write-does laws size byte way place bytes indirect at [] holds = does-nothing size byte 0 holds.sound
write-does laws size byte way place bytes indirect at (first ∷ rest) holds = some (first ∷ rest)
  where
    some : (new : List ℕ) → Does size byte (write_some byte place at new)
        (if nat_lt MAXFILESIZE (at + length new) then refused (file_system_of byte) E_NO_DISK
        else done_if_it_fits (file_system_of byte)
        (with_node (file_system_of byte) way (grown_file (overwritten bytes at new) indirect)) (length new))
    some new =
        let s : FileSystem = file_system_of byte in
        let end : ℕ = at + length new in
        let is = file-is laws size byte way place bytes indirect holds in
        let acted : Acted = done_if_it_fits s (with_node s way (grown_file (overwritten bytes at new) indirect)) (length new) in
        let within : Planned = planned (overwrite place at new ∷ []) (length new) in
        let past : Planned =
        planned_if_it_fits byte place (blocks_grown byte place end) (length new) (growth byte place end ++ overwrite place at new ∷ []) in
        does-either size byte (nat_lt MAXFILESIZE end) (turned_down E_NO_DISK) (if nat_le end (size_of byte place) then within else past)
        (refused s E_NO_DISK) acted (λ far. does-nothing size byte (negated E_NO_DISK) holds.sound)
        (λ short.
        subst (λ (a : Acted). Does size byte (if nat_le end (size_of byte place) then within else past) a)
        (same-both (nat_le end (size_of byte place)) acted)
        (does-either size byte (nat_le end (size_of byte place)) within past acted acted
        (λ fit. writes-within laws size byte way place bytes indirect at new holds (ends-within end (size_of byte place) (length bytes) is.long fit))
        (λ over.
        writes-past laws size byte way place bytes indirect at new holds (ends-past end (size_of byte place) (length bytes) is.long over)
        (not-past end short))))

-- what is read
pub read-does : ChangesAreActs → (size : ℕ) (byte : ℕ → ℕ) (way : List ℕ) (place : ℕ) (bytes : List ℕ) (indirect : Bool) (at n : ℕ) →
    Holds size byte way place (a_file bytes indirect) →
    Does size byte (read_plan byte place at n) (handed_back (file_system_of byte) (bytes_at bytes at n))
unfolding read_plan bytes_at file_bytes Passes left_by
read-does laws size byte way place bytes indirect at n holds =
    let is = file-is laws size byte way place bytes indirect holds in
    let most : ℕ = min n BLKSIZE in
    let read : values_below (min most (size_of byte place - at)) (λ k. file_byte byte place (at + k)) ≡ take most (drop at bytes) =
    sym (values-part (file_byte byte place) (size_of byte place) at most) ∙ ap (λ (l : List ℕ). take most (drop at l)) (sym is.all) in
    record {
      answer = ap length read;
      bytes = read;
      passes = holds.sound;
      tree = refl;
      stay = λ other end leads. inl (leads, refl);
    }

-- ---- the file at a way

-- what is done to a file, and what is refused where there is none
pub of-file-does : ChangesAreActs → (size : ℕ) (byte : ℕ → ℕ) (way : List ℕ) (plan : ℕ → Planned) (act : List ℕ → Bool → Acted) →
    IsDiskImage size byte →
    ((place : ℕ) → Holds size byte way place (a_file (file_bytes byte place) (has_indirect byte place)) →
    Does size byte (plan place) (act (file_bytes byte place) (has_indirect byte place))) →
    Does size byte (of_file byte (place_at byte way) plan) (on_file (file_system_of byte) (node_at (file_system_of byte) way) act)
of-file-does laws size byte way plan act sound does =
    subst (λ (found : Option Node). Does size byte (of_file byte (place_at byte way) plan) (on_file (file_system_of byte) found act))
    (sym (laws.ways size byte sound way)) (by_place (place_at byte way) refl)
  where
    by_kind : (place : ℕ) (directory : Bool) → place_at byte way ≡ Some place → is_directory_at byte place ≡ directory →
        Does size byte (if directory then turned_down E_INVAL else plan place)
        (on_file (file_system_of byte)
        (Some (if directory then a_directory (records_at (block_count byte) byte place) (has_indirect byte place)
        else a_file (file_bytes byte place) (has_indirect byte place))) act)
    by_kind place true stands kind = does-nothing size byte (negated E_INVAL) sound
    by_kind place false stands kind = does place (file-at laws size byte way place sound stands kind)

    by_place : (found : Option ℕ) → place_at byte way ≡ found →
        Does size byte (of_file byte found plan)
        (on_file (file_system_of byte) (option_map (node_of (records_at (block_count byte) byte) byte) found) act)
    by_place None stands = does-nothing size byte (negated E_INVAL) sound
    by_place (Some place) stands = by_kind place (is_directory_at byte place) stands refl

-- a file is not the root
pub not-root : (size : ℕ) (byte : ℕ → ℕ) (place : ℕ) → IsDiskImage size byte → place_at byte [] ≡ Some place →
    is_directory_at byte place ≡ false → ⊥
unfolding place_from
not-root size byte place sound stands kind =
    let same : root_place ≡ place = cc in
    let root : is_directory_at byte root_place ≡ true = (disks-sound size byte sound).root in
    let both : true ≡ false = sym root ∙ ap (λ (p : ℕ). is_directory_at byte p) same ∙ kind in
    absurd (cc both)

-- the name that is told of a file is the record's
stat-named : ChangesAreActs → (size : ℕ) (byte : ℕ → ℕ) (way : List ℕ) (place : ℕ) (named : NamedNode) (bytes : List ℕ) (indirect : Bool) →
    Holds size byte way place (a_file bytes indirect) → named_at (file_system_of byte) way ≡ Some named →
    named.name ≡ name_of byte place
stat-named laws size byte [] place named bytes indirect holds e =
    let is = file-is laws size byte [] place bytes indirect holds in
    absurd (not-root size byte place holds.sound holds.stands is.kind)
stat-named laws size byte (first ∷ way) place named bytes indirect holds e =
    laws.names size byte holds.sound first way place named holds.stands e

none-some : (found : Option Node) (node : Node) → found ≡ None → found ≡ Some node → ⊥
none-some found node none some = cc

pub stat-does : ChangesAreActs → (size : ℕ) (byte : ℕ → ℕ) (way : List ℕ) → IsDiskImage size byte →
    Does size byte (of_file byte (place_at byte way) (stat_plan byte)) (stat_of (file_system_of byte) (named_at (file_system_of byte) way))
unfolding stat_plan Passes left_by
stat-does laws size byte way sound = by_name (named_at (file_system_of byte) way) refl
  where
    by_name : (found : Option NamedNode) → named_at (file_system_of byte) way ≡ found →
        Does size byte (of_file byte (place_at byte way) (stat_plan byte)) (stat_of (file_system_of byte) found)
    by_name None e =
        let none : node_at (file_system_of byte) way ≡ None = ap (option_map (λ (n : NamedNode). n.node)) e in
        subst (λ (found : Option Node). Does size byte (of_file byte (place_at byte way) (stat_plan byte))
        (on_file (file_system_of byte) found (λ bytes indirect. refused (file_system_of byte) E_INVAL))) none
        (of-file-does laws size byte way (stat_plan byte) (λ bytes indirect. refused (file_system_of byte) E_INVAL) sound
        (λ place holds. absurd (none-some (node_at (file_system_of byte) way) _ none holds.is)))
    by_name (Some named) e =
        let some : node_at (file_system_of byte) way ≡ Some named.node = ap (option_map (λ (n : NamedNode). n.node)) e in
        let act : List ℕ → Bool → Acted =
        λ bytes indirect. record { files = file_system_of byte; answer = 0; bytes = stat_bytes named.name (length bytes) FTYPE_REG } in
        subst (λ (found : Option Node). Does size byte (of_file byte (place_at byte way) (stat_plan byte)) (on_file (file_system_of byte) found act))
        some
        (of-file-does laws size byte way (stat_plan byte) act sound
        (λ place holds.
        let is = file-is laws size byte way place (file_bytes byte place) (has_indirect byte place) holds in
        let name : named.name ≡ name_of byte place =
        stat-named laws size byte way place named (file_bytes byte place) (has_indirect byte place) holds e in
        record {
          answer = refl;
          bytes = λ i. stat_bytes (sym name i) (sym is.long i) FTYPE_REG;
          passes = sound;
          tree = refl;
          stay = λ at end leads. inl (leads, refl);
        }))
