-- Every put of an act lies within the disk's blocks: at each disk on the way the puts of the change that comes next do.
use Rattle.std.proofs.Common.{◌≡◌, ◌∙◌, ◌+◌, ◌-◌, ◌*◌, ◌%◌, ◌<◌, ◌≤◌, ◌⊎◌, inl, inr, ◌&&◌, ℕ, Bool, true, false, List, [], ◌∷◌, ◌++◌}
use Rattle.std.proofs.Common.{length, Option, Some, None, refl, sym, ap, subst, arith, min}
use Rattle.std.specs.Prelude.{◌||◌, nat_lt, nat_le, option_map, replicate, if◌then◌else◌}
use Rattle.std.specs.List.{All, position_or_len}
use Rattle.std.proofs.lemmas.Bool.Decides.{nat_tests}
use Rattle.jos_base.specs.declared.numbers.TheConstants.{E_INVAL, E_NO_DISK, E_NOT_FOUND, E_FILE_EXISTS}
use Rattle.jos_base.specs.Words.{has_bit}
use Rattle.fs_layout.specs.declared.numbers.TheConstants.{BLKSIZE, RECORDSIZE, BLKFILES, MAXFILESIZE, O_CREAT, O_TRUNC, O_EXCL}
use Rattle.fs_layout.specs.FileTree.{FileAct, open_path, read_file, write_file, set_file_size, stat_file, remove_path, sync_files}
use Rattle.fs_layout.specs.FileTree.{Node, a_file, a_directory, NamedNode, FileSystem, listed, records_from, blocks_of}
use Rattle.fs_layout.specs.FileTree.{needs_indirect, blocks_taken}
use Rattle.fs_layout.specs.FileActs.{is_good_path, names_in, look_up}
use Rattle.jos_base.specs.Below.{values_below}
use Rattle.fs_layout.specs.DiskImage.{block_count, root_place, size_of, has_indirect, is_directory_at, is_empty_record}
use Rattle.fs_layout.specs.DiskImage.{slot_count, slot_place}
use Rattle.fs_layout.specs.DiskFiles.{IsDiskImage, file_system_of, file_bytes, free_blocks, node_of, records_at}
use Rattle.jos_base.proofs.Below.{length-values}
use Rattle.fs_layout.proofs.FileTrees.{records_from-listed}
use Rattle.fs_acts.specs.BlockActs.{Change, Planned, planned, turned_down, planned_if_it_fits, fits, blocks_grown, overwrite, fill}
use Rattle.fs_acts.specs.BlockActs.{take_indirect, take_block, growth, resizing, make_record, empty_it, size_plan, write_some, write_plan}
use Rattle.fs_acts.specs.BlockActs.{read_plan, stat_plan, create_plan_at, create_plan, first_slot, slot_named, of_file, place_at}
use Rattle.fs_acts.specs.BlockActs.{Led, too_long, astray, no_record, a_record, led_from_above, led_in, led_by, led_to, open_led, remove_led}
use Rattle.fs_acts.specs.BlockActs.{plan_of, puts_of}
use Rattle.fs_acts.specs.BlockLaws.{Holds, LeadsAlike, IsWithin, PutsStayWithin}
use Rattle.fs_acts.proofs.Trees.{put-again}
use Rattle.fs_acts.proofs.Records.{directory-node}
use Rattle.fs_acts.proofs.ChangesWithin.{placed, Within, overwrite-within, fill-within, take-indirect-within, take-block-within}
use Rattle.fs_acts.proofs.ChangesWithin.{make-within, empty-within}
use Rattle.fs_acts.proofs.ComposedSteps.{ChangesAreActs, left_by, Turns}
use Rattle.fs_acts.proofs.ComposedRecords.{FileIs, file-is, file-at, DirectoryIs, directory-is}
use Rattle.fs_acts.proofs.ComposedSizes.{idle, mark-counted}
use Rattle.fs_acts.proofs.ComposedFiles.{not-past, ends-past}
use Rattle.fs_acts.proofs.ComposedPaths.{none-fit}
use Rattle.fs_acts.proofs.ComposedCreates.{directory-kept, takes-both-records, unfilled, length-room}
use Rattle.fs_acts.proofs.ComposedLeft.{Always, AlwaysTo, always-none, always-one, always-step, always-plain, always-behind}
use Rattle.fs_acts.proofs.ComposedLeft.{NextWithin, next-is, next-behind, all-within}
use Rattle.fs_acts.proofs.ComposedLeftSizes.{At, at-blocks, at-placed, Growing, Sizing, growth-is, growing, sizing}
use Rattle.fs_acts.proofs.ComposedLeftFiles.{at-first, fitted}
use Rattle.fs_acts.proofs.ComposedLeftCreates.{DirectoryAt, directory-next, growth-directory}

-- Within so many blocks all puts of a plan lie.
abbrev Stays : ℕ → (ℕ → ℕ) → Planned → Type 0
Stays blocks byte plan = Always (NextWithin blocks) byte plan.changes

abbrev blocks_at : (ℕ → ℕ) → ℕ
blocks_at byte = (file_system_of byte).blocks

blocks-are : (byte : ℕ → ℕ) → block_count byte ≡ blocks_at byte
unfolding file_system_of
blocks-are byte = refl

-- ---- files

-- another size
size-stays : ChangesAreActs → (size : ℕ) (byte : ℕ → ℕ) (way : List ℕ) (place : ℕ) (bytes : List ℕ) (indirect : Bool) (end : ℕ) →
    Holds size byte way place (a_file bytes indirect) → Stays (blocks_at byte) byte (size_plan byte place end)
unfolding size_plan
size-stays laws size byte way place bytes indirect end holds = by_end (nat_lt MAXFILESIZE end) refl
  where
    total : ℕ
    total = blocks_taken (length bytes) indirect + free_blocks byte

    wanted : ℕ
    wanted = blocks_taken end (needs_indirect end)

    P : (ℕ → ℕ) → List Change → Type 0
    P = NextWithin (blocks_at byte)

    by_fit : (b : Bool) → fits byte place wanted ≡ b → end ≤ MAXFILESIZE →
        Stays (blocks_at byte) byte (if b then planned (resizing byte place end) 0 else turned_down E_NO_DISK)
    by_fit false e short = always-none P byte
    by_fit true e short =
        let is = file-is laws size byte way place bytes indirect holds in
        always-plain (Sizing size (file_system_of byte) way place total end) P byte (resizing byte place end) (λ now left z. z.next)
        (sizing laws size (file_system_of byte) way place total end byte bytes indirect (at-first size byte way place bytes indirect holds) short
        (fitted byte place bytes indirect wanted is e))

    by_end : (b : Bool) → nat_lt MAXFILESIZE end ≡ b →
        Stays (blocks_at byte) byte (if b then turned_down E_NO_DISK else planned_if_it_fits byte place wanted 0 (resizing byte place end))
    by_end true e = always-none P byte
    by_end false e = by_fit (fits byte place wanted) refl (not-past end e)

-- bytes
write-stays : ChangesAreActs → (size : ℕ) (byte : ℕ → ℕ) (way : List ℕ) (place : ℕ) (bytes : List ℕ) (indirect : Bool) (at : ℕ) (new : List ℕ) →
    Holds size byte way place (a_file bytes indirect) → Stays (blocks_at byte) byte (write_some byte place at new)
write-stays laws size byte way place bytes indirect at new holds = by_end (nat_lt MAXFILESIZE end) refl
  where
    end : ℕ
    end = at + length new

    last : List Change
    last = overwrite place at new ∷ []

    total : ℕ
    total = blocks_taken (length bytes) indirect + free_blocks byte

    wanted : ℕ
    wanted = blocks_grown byte place end

    s : FileSystem
    s = file_system_of byte

    is : FileIs byte place bytes indirect
    is = file-is laws size byte way place bytes indirect holds

    P : (ℕ → ℕ) → List Change → Type 0
    P = NextWithin (blocks_at byte)

    -- the bytes come where the size is theirs
    stored_last : (now : ℕ → ℕ) (own : List ℕ) (mark : Bool) → At size s way place total now own mark → end ≤ length own →
        All (IsWithin (blocks_at byte)) (overwrite place at new now)
    stored_last now own mark there fit =
        let is_now = file-is laws size now way place own mark there.holds in
        subst (λ (n : ℕ). All (IsWithin n) (overwrite place at new now)) (at-blocks size s way place total now own mark there)
        (overwrite-within now place at new (at-placed size s way place total now own mark there)
        (subst (λ (n : ℕ). end ≤ n) is_now.long fit))

    by_fit : (b : Bool) → fits byte place wanted ≡ b → end ≤ MAXFILESIZE → length bytes ≤ end →
        Stays (blocks_at byte) byte (if b then planned (growth byte place end ++ last) (length new) else turned_down E_NO_DISK)
    by_fit false e short past = always-none P byte
    by_fit true e short past =
        let grown : Bool = indirect || needs_indirect end in
        let fit : blocks_taken end grown ≤ total =
        subst (λ (b : Bool). blocks_taken end (b || needs_indirect end) ≤ total) is.mark (fitted byte place bytes indirect wanted is e) in
        always-behind (Growing size s way place total end grown) P byte (growth byte place end) (overwrite place at new)
        (λ now left g.
        next-behind (blocks_at byte) now left (overwrite place at new) g.next
        (λ none. stored_last now g.bytes g.indirect g.at (at-least (length g.bytes) end (g.ends none))))
        (subst (AlwaysTo (Growing size s way place total end grown) byte) (sym (growth-is byte place end bytes indirect is))
        (growing laws size s way place total end grown byte bytes indirect (at-first size byte way place bytes indirect holds) past short fit
        refl))
      where
        at-least : (a b : ℕ) → a ≡ b → b ≤ a
        at-least a b e_ = omega arith

    by_size : (b : Bool) → nat_le end (size_of byte place) ≡ b → end ≤ MAXFILESIZE →
        Stays (blocks_at byte) byte
        (if b then planned last (length new) else planned_if_it_fits byte place wanted (length new) (growth byte place end ++ last))
    by_size true e short =
        always-one P byte (overwrite place at new)
        (next-is (blocks_at byte) byte (overwrite place at new) []
        (stored_last byte bytes indirect (at-first size byte way place bytes indirect holds)
        (subst (λ (n : ℕ). end ≤ n) (sym is.long) (at-most end (size_of byte place) e))))
      where
        at-most : (a b : ℕ) → nat_le a b ≡ true → a ≤ b
        at-most a b e_ = grind (arith, nat_tests)
    by_size false e short =
        by_fit (fits byte place wanted) refl short (ends-past end (size_of byte place) (length bytes) is.long e)

    by_end : (b : Bool) → nat_lt MAXFILESIZE end ≡ b →
        Stays (blocks_at byte) byte
        (if b then turned_down E_NO_DISK else if nat_le end (size_of byte place) then planned last (length new)
        else planned_if_it_fits byte place wanted (length new) (growth byte place end ++ last))
    by_end true e = always-none P byte
    by_end false e = by_size (nat_le end (size_of byte place)) refl (not-past end e)

-- the file at a way
of-file-stays : ChangesAreActs → (size : ℕ) (byte : ℕ → ℕ) (way : List ℕ) (plan : ℕ → Planned) → IsDiskImage size byte →
    ((place : ℕ) → Holds size byte way place (a_file (file_bytes byte place) (has_indirect byte place)) →
    Stays (blocks_at byte) byte (plan place)) →
    Stays (blocks_at byte) byte (of_file byte (place_at byte way) plan)
of-file-stays laws size byte way plan sound stays = by_place (place_at byte way) refl
  where
    by_kind : (place : ℕ) (directory : Bool) → place_at byte way ≡ Some place → is_directory_at byte place ≡ directory →
        Stays (blocks_at byte) byte (if directory then turned_down E_INVAL else plan place)
    by_kind place true stands kind = always-none (NextWithin (blocks_at byte)) byte
    by_kind place false stands kind = stays place (file-at laws size byte way place sound stands kind)

    by_place : (found : Option ℕ) → place_at byte way ≡ found → Stays (blocks_at byte) byte (of_file byte found plan)
    by_place None stands = always-none (NextWithin (blocks_at byte)) byte
    by_place (Some place) stands = by_kind place (is_directory_at byte place) stands refl

-- ---- paths

-- removal
remove-stays : ChangesAreActs → (size : ℕ) (byte : ℕ → ℕ) (is_open : List ℕ → Bool) (way : List ℕ) (place : ℕ) → IsDiskImage size byte →
    place_at byte way ≡ Some place → Stays (blocks_at byte) byte (remove_led is_open byte (a_record place way))
remove-stays laws size byte is_open way place sound stands = by_kind (is_directory_at byte place) refl
  where
    P : (ℕ → ℕ) → List Change → Type 0
    P = NextWithin (blocks_at byte)

    by_open : (b : Bool) → is_directory_at byte place ≡ false →
        Stays (blocks_at byte) byte (if b then turned_down E_INVAL else planned (resizing byte place 0 ++ empty_it place ∷ []) 0)
    by_open true kind = always-none P byte
    by_open false kind =
        let s : FileSystem = file_system_of byte in
        let bytes : List ℕ = file_bytes byte place in
        let indirect : Bool = has_indirect byte place in
        let total : ℕ = blocks_taken (length bytes) indirect + free_blocks byte in
        let holds = file-at laws size byte way place sound stands kind in
        always-behind (Sizing size s way place total 0) P byte (resizing byte place 0) (empty_it place)
        (λ now left z.
        next-behind (blocks_at byte) now left (empty_it place) z.next
        (λ none.
        subst (λ (n : ℕ). All (IsWithin n) (empty_it place now)) (at-blocks size s way place total now z.bytes z.indirect z.at)
        (empty-within now place (at-placed size s way place total now z.bytes z.indirect z.at))))
        (sizing laws size s way place total 0 byte bytes indirect (at-first size byte way place bytes indirect holds) (omega arith)
        (none-fit total))

    by_kind : (b : Bool) → is_directory_at byte place ≡ b →
        Stays (blocks_at byte) byte
        (if b || is_open way then turned_down E_INVAL else planned (resizing byte place 0 ++ empty_it place ∷ []) 0)
    by_kind true kind = always-none P byte
    by_kind false kind = by_open (is_open way) kind

-- an opening of what is there
open-stays : ChangesAreActs → (size : ℕ) (byte : ℕ → ℕ) (mode : ℕ) (way : List ℕ) (place : ℕ) → IsDiskImage size byte →
    place_at byte way ≡ Some place → Stays (blocks_at byte) byte (open_led byte mode (a_record place way))
open-stays laws size byte mode way place sound stands = by_exclusive (has_bit mode O_CREAT && has_bit mode O_EXCL)
  where
    P : (ℕ → ℕ) → List Change → Type 0
    P = NextWithin (blocks_at byte)

    by_truncate : (b : Bool) → is_directory_at byte place ≡ false →
        Stays (blocks_at byte) byte (if b then size_plan byte place 0 else planned [] 0)
    by_truncate false kind = always-none P byte
    by_truncate true kind =
        size-stays laws size byte way place (file_bytes byte place) (has_indirect byte place) 0
        (file-at laws size byte way place sound stands kind)

    by_kind : (b : Bool) → is_directory_at byte place ≡ b →
        Stays (blocks_at byte) byte
        (if b then turned_down E_INVAL else if has_bit mode O_TRUNC then size_plan byte place 0 else planned [] 0)
    by_kind true kind = always-none P byte
    by_kind false kind = by_truncate (has_bit mode O_TRUNC) kind

    by_exclusive : (b : Bool) →
        Stays (blocks_at byte) byte
        (if b then turned_down E_FILE_EXISTS else if is_directory_at byte place then turned_down E_INVAL
        else if has_bit mode O_TRUNC then size_plan byte place 0 else planned [] 0)
    by_exclusive true = always-none P byte
    by_exclusive false = by_kind (is_directory_at byte place) refl

-- ---- a file that is made

-- of a directory on the way
directory-blocks : (size : ℕ) (s : FileSystem) (way : List ℕ) (place : ℕ) (byte : ℕ → ℕ) (list : List (Option NamedNode)) (mark : Bool) →
    DirectoryAt size s way place byte list mark → block_count byte ≡ s.blocks
unfolding file_system_of
directory-blocks size s way place byte list mark at = ap (λ (t : FileSystem). t.blocks) at.tree

directory-within : (size : ℕ) (s : FileSystem) (way : List ℕ) (place : ℕ) (byte : ℕ → ℕ) (list : List (Option NamedNode)) (mark : Bool)
    (change : Change) (rest : List Change) → DirectoryAt size s way place byte list mark → Within byte (change byte) →
    NextWithin s.blocks byte (change ∷ rest)
directory-within size s way place byte list mark change rest at within =
    next-is s.blocks byte change rest
    (subst (λ (n : ℕ). All (IsWithin n) (change byte)) (directory-blocks size s way place byte list mark at) within)

-- in the first record of a new block
behind-stays : ChangesAreActs → (size : ℕ) (byte : ℕ → ℕ) (way : List ℕ) (place : ℕ) (name : List ℕ) (list : List (Option NamedNode))
    (indirect : Bool) → Holds size byte way place (a_directory (records_from list) indirect) →
    let end : ℕ = RECORDSIZE * length list + BLKSIZE in
    end ≤ MAXFILESIZE → blocks_taken end (indirect || needs_indirect end) ≤ blocks_taken (RECORDSIZE * length list) indirect + free_blocks byte →
    Always (NextWithin (blocks_at byte)) byte (growth byte place end ++ make_record place (length list) name ∷ [])
behind-stays laws size byte way place name list indirect holds short fit =
    let s : FileSystem = file_system_of byte in
    let P : (ℕ → ℕ) → List Change → Type 0 = NextWithin s.blocks in
    let long : ℕ = RECORDSIZE * length list in
    let end : ℕ = long + BLKSIZE in
    let most : ℕ = min end (BLKSIZE * blocks_of long) in
    let made : Change = make_record place (length list) name in
    let is = directory-is laws size byte way place list indirect holds in
    let at : DirectoryAt size s way place byte list indirect =
    record { holds = holds; tree = sym (put-again s way (a_directory (records_from list) indirect) holds.is) } in
    let filled : Turns size byte way place (fill place most ∷ []) (a_directory (records_from list) indirect) =
    idle size byte way place (a_directory (records_from list) indirect) (fill place most) holds
    (unfilled byte place most (subst (λ (n : ℕ). most ≤ n) (sym is.size) (full long is.whole))) in
    let one : ℕ → ℕ = left_by (fill place most ∷ []) byte in
    let at_one = directory-next size s way place byte list list indirect indirect (fill place most) at filled in
    let kept_one = directory-kept laws size byte way place list indirect indirect (fill place most ∷ []) holds filled in
    let both =
    takes-both-records laws size one way place list indirect at_one.holds short
    (subst (λ (n : ℕ). blocks_taken end (indirect || needs_indirect end) ≤ n) (sym kept_one) fit) in
    let mark : Bool = both.first.mark in
    let two : ℕ → ℕ = left_by (take_indirect place ∷ []) one in
    let at_two = directory-next size s way place one list list indirect mark (take_indirect place) at_one both.first.turns in
    let is_two = directory-is laws size two way place list mark at_two.holds in
    let three : ℕ → ℕ = left_by (take_block place end ∷ []) two in
    let more : List (Option NamedNode) = list ++ replicate BLKFILES None in
    let at_three = directory-next size s way place two list more mark mark (take_block place end) at_two both.second in
    let is_three = directory-is laws size three way place more mark at_three.holds in
    subst (λ (l : List Change). Always P byte (l ++ made ∷ [])) (sym (growth-directory byte place list indirect is))
    (always-step P byte (fill place most) (take_indirect place ∷ take_block place end ∷ made ∷ [])
    (directory-within size s way place byte list indirect (fill place most) (take_indirect place ∷ take_block place end ∷ made ∷ []) at
    (fill-within byte place most (placed size byte at.holds.sound way place at.holds.stands)
    (subst (λ (k : ℕ). most ≤ 4096 * blocks_of k) (sym is.size) (in-blocks long end)) (at-most long end short)))
    (always-step P one (take_indirect place) (take_block place end ∷ made ∷ [])
    (directory-within size s way place one list indirect (take_indirect place) (take_block place end ∷ made ∷ []) at_one
    (take-indirect-within one place (placed size one at_one.holds.sound way place at_one.holds.stands)))
    (always-step P two (take_block place end) (made ∷ [])
    (directory-within size s way place two list mark (take_block place end) (made ∷ []) at_two
    (take-block-within two place end (placed size two at_two.holds.sound way place at_two.holds.stands)
    (subst (λ (n : ℕ). blocks_of n < 1034) (sym is_two.size) (few-now long is.whole short))
    (λ many.
    is_two.mark
    ∙ marked-now mark (blocks_of long) (mark-counted indirect mark (blocks_of long) both.first.is)
    (subst (λ (n : ℕ). 10 ≤ blocks_of n) is_two.size many))))
    (always-one P three made
    (directory-within size s way place three more mark made [] at_three
    (make-within three place (length list) name (placed size three at_three.holds.sound way place at_three.holds.stands)
    (subst (λ (n : ℕ). length list < n) is_three.long
    (subst (λ (n : ℕ). length list < n) (sym (length-room list)) (one-behind (length list))))))))))
  where
    full : (long : ℕ) → long % 4096 ≡ 0 → min (long + 4096) (4096 * blocks_of long) ≤ long
    full long whole = omega arith

    in-blocks : (long end : ℕ) → min end (4096 * blocks_of long) ≤ 4096 * blocks_of long
    in-blocks long end = omega arith

    at-most : (long end : ℕ) → end ≤ 4235264 → min end (4096 * blocks_of long) ≤ 4235264
    at-most long end short_ = omega arith

    few-now : (long : ℕ) → long % 4096 ≡ 0 → long + 4096 ≤ 4235264 → blocks_of long < 1034
    few-now long whole short_ = omega arith

    marked-now : (mark : Bool) (n : ℕ) → (n < 10) ⊎ (mark ≡ true) → 10 ≤ n → mark ≡ true
    marked-now mark n (inl few) many = absurd (omega (arith, few, many))
    marked-now mark n (inr so) many = so

    one-behind : (n : ℕ) → n < n + 16
    one-behind n = omega arith

-- an empty record that was found is one of the directory's
found-within : (byte : ℕ → ℕ) (place : ℕ) (passes : ℕ → Bool) (i : ℕ) → first_slot byte place passes ≡ Some i → i < slot_count byte place
unfolding first_slot
found-within byte place passes i e =
    let places : List ℕ = values_below (slot_count byte place) (slot_place byte place) in
    subst (λ (n : ℕ). i < n) (length-values (slot_count byte place) (slot_place byte place))
    (by (position_or_len passes places) (length places) (nat_lt (position_or_len passes places) (length places)) refl e)
  where
    by : (at n : ℕ) (b : Bool) → nat_lt at n ≡ b → ◌≡◌ {A = Option ℕ} (if b then Some at else None) (Some i) → i < n
    by at n true is e_ =
        let same : at ≡ i = cc in
        let less : at < n = below at n is in
        subst (λ (k : ℕ). k < n) same less
      where
        below : (a b : ℕ) → nat_lt a b ≡ true → a < b
        below a b is_ = grind (arith, nat_tests)
    by at n false is e_ = absurd (cc)

create-stays : ChangesAreActs → (size : ℕ) (byte : ℕ → ℕ) (way : List ℕ) (place : ℕ) (name : List ℕ) (list : List (Option NamedNode))
    (indirect : Bool) → Holds size byte way place (a_directory (records_from list) indirect) →
    Stays (blocks_at byte) byte (create_plan byte place name)
unfolding create_plan
create-stays laws size byte way place name list indirect holds = by_place (first_slot byte place (is_empty_record byte)) refl
  where
    P : (ℕ → ℕ) → List Change → Type 0
    P = NextWithin (blocks_at byte)

    long : ℕ
    long = RECORDSIZE * length list

    end : ℕ
    end = long + BLKSIZE

    is : DirectoryIs byte place list indirect
    is = directory-is laws size byte way place list indirect holds

    by_fit : (b : Bool) → nat_le (blocks_taken end (indirect || needs_indirect end) - blocks_taken long indirect) (free_blocks byte) ≡ b →
        end ≤ MAXFILESIZE →
        Stays (blocks_at byte) byte
        (if b then planned (growth byte place end ++ make_record place (length list) name ∷ []) 0 else turned_down E_NO_DISK)
    by_fit false fit short = always-none P byte
    by_fit true fit short =
        behind-stays laws size byte way place name list indirect holds short
        (within (blocks_taken long indirect) (free_blocks byte) (blocks_taken end (indirect || needs_indirect end)) fit)
      where
        within : (had free wanted : ℕ) → nat_le (wanted - had) free ≡ true → wanted ≤ had + free
        within had free wanted e_ = grind (arith, nat_tests)

    by_end : (b : Bool) → nat_lt MAXFILESIZE end ≡ b →
        Stays (blocks_at byte) byte
        (if b then turned_down E_NO_DISK
        else if nat_le (blocks_taken end (indirect || needs_indirect end) - blocks_taken long indirect) (free_blocks byte)
        then planned (growth byte place end ++ make_record place (length list) name ∷ []) 0 else turned_down E_NO_DISK)
    by_end true far = always-none P byte
    by_end false far =
        by_fit (nat_le (blocks_taken end (indirect || needs_indirect end) - blocks_taken long indirect) (free_blocks byte)) refl
        (not-past end far)

    by_place : (found : Option ℕ) → first_slot byte place (is_empty_record byte) ≡ found →
        Stays (blocks_at byte) byte (create_plan_at byte place name found)
    by_place (Some i) first =
        always-one P byte (make_record place i name)
        (next-is (blocks_at byte) byte (make_record place i name) []
        (subst (λ (n : ℕ). All (IsWithin n) (make_record place i name byte)) (blocks-are byte)
        (make-within byte place i name (placed size byte holds.sound way place holds.stands)
        (found-within byte place (is_empty_record byte) i first))))
    by_place None first =
        subst (Stays (blocks_at byte) byte)
        (λ i. if nat_lt MAXFILESIZE (sym is.size i + BLKSIZE) then turned_down E_NO_DISK
        else if nat_le
        (blocks_taken (sym is.size i + BLKSIZE) (sym is.mark i || needs_indirect (sym is.size i + BLKSIZE))
        - blocks_taken (sym is.size i) (sym is.mark i))
        (free_blocks byte)
        then planned (growth byte place (sym is.size i + BLKSIZE) ++ make_record place (is.long i) name ∷ []) 0 else turned_down E_NO_DISK)
        (by_end (nat_lt MAXFILESIZE end) refl)

-- where a name is missing there is a directory
above-missing : (i : ℕ) (led : Led) (place : ℕ) (name : List ℕ) → led_from_above i led ≡ no_record place name → led ≡ no_record place name
above-missing i too_long place name e = absurd (cc)
above-missing i astray place name e = absurd (cc)
above-missing i (no_record at own) place name e = e
above-missing i (a_record at way) place name e = absurd (cc)

led-kind : (names : List (List ℕ)) (byte : ℕ → ℕ) (here place : ℕ) (name : List ℕ) → led_by byte names here ≡ no_record place name →
    is_directory_at byte place ≡ true
unfolding led_by
led-kind [] byte here place name e = absurd (cc)
led-kind (first ∷ rest) byte here place name e =
    by_kind (is_directory_at byte here) refl (λ next is. led-kind rest byte next place name is) e
  where
    by_slot : is_directory_at byte here ≡ true → (names : List (List ℕ)) (found : Option ℕ) →
        ((next : ℕ) → led_by byte rest next ≡ no_record place name → is_directory_at byte place ≡ true) →
        led_in byte here first names found (led_by byte rest) ≡ no_record place name → is_directory_at byte place ≡ true
    by_slot kind [] None onward e_ = let same : here ≡ place = cc in subst (λ (p : ℕ). is_directory_at byte p ≡ true) same kind
    by_slot kind (next ∷ more) None onward e_ = absurd (cc)
    by_slot kind [] (Some i) onward e_ = onward (slot_place byte here i) (above-missing i (led_by byte rest (slot_place byte here i)) place name e_)
    by_slot kind (next ∷ more) (Some i) onward e_ =
        onward (slot_place byte here i) (above-missing i (led_by byte rest (slot_place byte here i)) place name e_)

    by_kind : (b : Bool) → is_directory_at byte here ≡ b →
        ((next : ℕ) → led_by byte rest next ≡ no_record place name → is_directory_at byte place ≡ true) →
        (if b then led_in byte here first rest (slot_named byte here first) (led_by byte rest) else astray) ≡ no_record place name →
        is_directory_at byte place ≡ true
    by_kind true kind onward e_ = by_slot kind rest (slot_named byte here first) onward e_
    by_kind false kind onward e_ = absurd (cc)

missing-kind : (byte : ℕ → ℕ) (path : List ℕ) (place : ℕ) (name : List ℕ) → led_to byte path ≡ no_record place name →
    is_directory_at byte place ≡ true
unfolding led_to
missing-kind byte path place name e = by (is_good_path path) e
  where
    by : (b : Bool) → (if b then led_by byte (names_in path) root_place else too_long) ≡ no_record place name →
        is_directory_at byte place ≡ true
    by true e_ = led-kind (names_in path) byte root_place place name e_
    by false e_ = absurd (cc)

-- ---- where a path leads

opens-stay : ChangesAreActs → (size : ℕ) (byte : ℕ → ℕ) (path : List ℕ) (mode : ℕ) (led : Led) → IsDiskImage size byte → led_to byte path ≡ led →
    LeadsAlike byte led (look_up (file_system_of byte) path) → Stays (blocks_at byte) byte (open_led byte mode led)
opens-stay laws size byte path mode too_long sound is alike = always-none (NextWithin (blocks_at byte)) byte
opens-stay laws size byte path mode astray sound is alike = always-none (NextWithin (blocks_at byte)) byte
opens-stay laws size byte path mode (a_record place way) sound is alike = open-stays laws size byte mode way place sound alike.0
opens-stay laws size byte path mode (no_record place name) sound is alike = by_create (has_bit mode O_CREAT)
  where
    depth : ℕ
    depth = block_count byte

    way : List ℕ
    way = alike.0

    list : List (Option NamedNode)
    list = listed (records_at depth byte place)

    node_is : node_of (records_at depth byte) byte place ≡ a_directory (records_from list) (has_indirect byte place)
    node_is =
        directory-node (records_at depth byte) byte place (missing-kind byte path place name is)
        ∙ ap (λ r. a_directory r (has_indirect byte place)) (sym (records_from-listed (records_at depth byte place)))

    holds : Holds size byte way place (a_directory (records_from list) (has_indirect byte place))
    holds =
        record {
          sound = sound;
          stands = alike.1;
          is =
              laws.ways size byte sound way
              ∙ ap (option_map (node_of (records_at depth byte) byte)) alike.1
              ∙ ap {B = Option Node} Some node_is;
        }

    by_create : (b : Bool) → Stays (blocks_at byte) byte (if b then create_plan byte place name else turned_down E_NOT_FOUND)
    by_create false = always-none (NextWithin (blocks_at byte)) byte
    by_create true = create-stays laws size byte way place name list (has_indirect byte place) holds

removes-stay : ChangesAreActs → (size : ℕ) (byte : ℕ → ℕ) (is_open : List ℕ → Bool) (path : List ℕ) (led : Led) → IsDiskImage size byte →
    LeadsAlike byte led (look_up (file_system_of byte) path) → Stays (blocks_at byte) byte (remove_led is_open byte led)
removes-stay laws size byte is_open path too_long sound alike = always-none (NextWithin (blocks_at byte)) byte
removes-stay laws size byte is_open path astray sound alike = always-none (NextWithin (blocks_at byte)) byte
removes-stay laws size byte is_open path (no_record place name) sound alike = always-none (NextWithin (blocks_at byte)) byte
removes-stay laws size byte is_open path (a_record place way) sound alike = remove-stays laws size byte is_open way place sound alike.0

-- ---- each act

act-stays : ChangesAreActs → (size : ℕ) (byte : ℕ → ℕ) (is_open : List ℕ → Bool) (act : FileAct) → IsDiskImage size byte →
    Stays (blocks_at byte) byte (plan_of is_open byte act)
unfolding plan_of read_plan write_plan stat_plan
act-stays laws size byte is_open (open_path path mode) sound =
    opens-stay laws size byte path mode (led_to byte path) sound refl (laws.paths size byte sound path)
act-stays laws size byte is_open (read_file way at n) sound =
    of-file-stays laws size byte way (λ place. read_plan byte place at n) sound (λ place holds. always-none (NextWithin (blocks_at byte)) byte)
act-stays laws size byte is_open (write_file way at []) sound =
    of-file-stays laws size byte way (λ place. write_plan byte place at []) sound (λ place holds. always-none (NextWithin (blocks_at byte)) byte)
act-stays laws size byte is_open (write_file way at (first ∷ rest)) sound =
    of-file-stays laws size byte way (λ place. write_plan byte place at (first ∷ rest)) sound
    (λ place holds. write-stays laws size byte way place (file_bytes byte place) (has_indirect byte place) at (first ∷ rest) holds)
act-stays laws size byte is_open (set_file_size way end) sound =
    of-file-stays laws size byte way (λ place. size_plan byte place end) sound
    (λ place holds. size-stays laws size byte way place (file_bytes byte place) (has_indirect byte place) end holds)
act-stays laws size byte is_open (stat_file way) sound =
    of-file-stays laws size byte way (stat_plan byte) sound (λ place holds. always-none (NextWithin (blocks_at byte)) byte)
act-stays laws size byte is_open (remove_path path) sound =
    removes-stay laws size byte is_open path (led_to byte path) sound (laws.paths size byte sound path)
act-stays laws size byte is_open sync_files sound = always-none (NextWithin (blocks_at byte)) byte

-- ---- the law

pub puts-stay-within : ChangesAreActs → PutsStayWithin
puts-stay-within laws size byte is_open act sound =
    subst (λ (n : ℕ). All (IsWithin n) (puts_of is_open byte act)) (sym (blocks-are byte))
    (all-within (blocks_at byte) byte (plan_of is_open byte act).changes (act-stays laws size byte is_open act sound))
