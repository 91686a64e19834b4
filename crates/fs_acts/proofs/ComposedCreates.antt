-- A file that is made in a directory: what is stored in the blocks is what is done to the tree.
use Rattle.std.proofs.Common.{◌≡◌, ◌∙◌, ◌+◌, ◌-◌, ◌*◌, ◌%◌, ◌<◌, ◌≤◌, ◌⊎◌, inl, inr, ℕ, zero, suc, Bool, true, false, not}
use Rattle.std.proofs.Common.{List, [], ◌∷◌, ◌++◌, length, Option, Some, None, refl, sym, ap, subst, arith, min}
use Rattle.std.specs.Prelude.{◌||◌, nat_lt, nat_le, is_none, replicate, slice_index_or, slice_set, if◌then◌else◌}
use Rattle.std.specs.List.{list_any, position_or_len}
use Rattle.std.specs.Prelude.{position}
use Rattle.std.proofs.lemmas.Bool.{cases_lt}
use Rattle.std.proofs.lemmas.Bool.Decides.{nat_tests}
use Rattle.std.proofs.lemmas.List.{length-set, length-append, length-replicate}
use Rattle.std.proofs.lemmas.List.Sums.{passes_at_first}
use Rattle.std.proofs.lemmas.List.Folds.{list_any-append}
use Rattle.jos_base.specs.declared.numbers.TheConstants.{E_NO_DISK}
use Rattle.jos_base.specs.Words.{negated}
use Rattle.fs_layout.specs.declared.numbers.TheConstants.{BLKSIZE, RECORDSIZE, BLKFILES, MAXFILESIZE, NDIRECT}
use Rattle.fs_layout.specs.FileTree.{Node, a_file, a_directory, NamedNode, FileSystem, records_from, with_node, blocks_of}
use Rattle.fs_layout.specs.FileTree.{needs_indirect, blocks_taken, tree_blocks, records_blocks, directory_size}
use Rattle.fs_layout.specs.FileActs.{done, refused, done_if_it_fits, has_name, new_file, free_place, with_room, with_new_file, directory_grown}
use Rattle.jos_base.specs.Below.{values_below}
use Rattle.fs_layout.specs.DiskImage.{size_of, has_indirect, is_empty_record, name_of, blocks_needed, slot_count, slot_place}
use Rattle.fs_layout.specs.DiskFiles.{file_system_of, free_blocks, named_of, node_of}
use Rattle.jos_base.proofs.Below.{length-values, get_or-values}
use Rattle.fs_acts.specs.BlockActs.{Change, planned, turned_down, planned_if_it_fits, blocks_grown, fill, take_indirect, take_block}
use Rattle.fs_acts.specs.BlockActs.{take_blocks, growth, make_record, first_slot, create_plan_at, create_plan}
use Rattle.fs_acts.specs.BlockLaws.{Holds, HasRoom, IsRecordName}
use Rattle.fs_acts.proofs.ComposedTrees.{blocks-put, blocks-room, blocks-directory}
use Rattle.fs_acts.proofs.ComposedSteps.{ChangesAreActs, left_by, Turns, turned, turns-one, turns-append, blocks-kept}
use Rattle.fs_acts.proofs.ComposedRecords.{DirectoryIs, directory-is}
use Rattle.fs_acts.proofs.ComposedSizes.{idle, or-needed, unmarked, few-blocks, more-blocks, some-free, room-left, mark-grows, mark-counted}
use Rattle.fs_acts.proofs.ComposedSizes.{still-free}
use Rattle.fs_acts.proofs.ComposedFiles.{Does, does-nothing, does-turns, does-either, does-if-it-fits, fit-alike, not-past}

-- ---- the empty records

-- tests that are alike at each place first pass at the same
pub same-first : {X Y : Type 0} (p : X → Bool) (q : Y → Bool) (xs : List X) (ys : List Y) (d : X) (e : Y) → length xs ≡ length ys →
    ((i : ℕ) → i < length xs → p (slice_index_or xs i d) ≡ q (slice_index_or ys i e)) → position_or_len p xs ≡ position_or_len q ys
same-first p q [] [] d e long same = refl
same-first p q [] (y ∷ ys) d e long same = absurd (omega arith)
same-first p q (x ∷ xs) [] d e long same = absurd (omega arith)
same-first p q (x ∷ xs) (y ∷ ys) d e long same =
    let head : p x ≡ q y = same 0 (omega arith) in
    let rest = same-first p q xs ys d e (omega arith) (λ i within. same (suc i) (omega arith)) in
    λ i. if not (head i) then 1 + rest i else 0

pub first-within : {X : Type 0} (p : X → Bool) (xs : List X) → position_or_len p xs ≤ length xs
first-within p [] = omega arith
first-within p (x ∷ xs) = by (p x) (first-within p xs)
  where
    by : (b : Bool) → position_or_len p xs ≤ length xs → (if not b then 1 + position_or_len p xs else 0) ≤ suc (length xs)
    by true le = omega arith
    by false le = omega arith

-- a record of a directory, as the disk has it
slot-entry : {byte : ℕ → ℕ} {place : ℕ} {list : List (Option NamedNode)} {indirect : Bool} (is : DirectoryIs byte place list indirect) (i : ℕ) →
    i < length list → slice_index_or list i None ≡ named_of is.below byte (slot_place byte place i)
slot-entry {byte} {place} {list} {indirect} is i within =
    ap (λ (l : List (Option NamedNode)). slice_index_or l i None) is.all
    ∙ get_or-values (slot_count byte place) (λ k. named_of is.below byte (slot_place byte place k)) i None
    (subst (λ (n : ℕ). i < n) is.long within)

none-where : (b : Bool) (named : NamedNode) → is_none (if b then None else Some named) ≡ b
none-where true named = refl
none-where false named = refl

pub slot-none : {byte : ℕ → ℕ} {place : ℕ} {list : List (Option NamedNode)} {indirect : Bool} (is : DirectoryIs byte place list indirect) (i : ℕ) →
    i < length list → is_none (slice_index_or list i None) ≡ is_empty_record byte (slot_place byte place i)
slot-none {byte} {place} is i within =
    ap (λ (x : Option NamedNode). is_none x) (slot-entry is i within)
    ∙ none-where (is_empty_record byte (slot_place byte place i))
    (record { name = name_of byte (slot_place byte place i); node = node_of is.below byte (slot_place byte place i) })

is-none : (x : Option NamedNode) → is_none x ≡ true → x ≡ None
is-none None e = refl
is-none (Some named) e = absurd (cc)

-- ---- blocks of a directory

-- the blocks of a directory and the free ones stay as many
pub directory-kept : ChangesAreActs → (size : ℕ) (byte : ℕ → ℕ) (way : List ℕ) (place : ℕ) (list : List (Option NamedNode)) (indirect mark : Bool)
    (changes : List Change) → Holds size byte way place (a_directory (records_from list) indirect) →
    Turns size byte way place changes (a_directory (records_from list) mark) →
    blocks_taken (RECORDSIZE * length list) mark + free_blocks (left_by changes byte)
    ≡ blocks_taken (RECORDSIZE * length list) indirect + free_blocks byte
directory-kept laws size byte way place list indirect mark changes holds turns =
    cancel (blocks_taken (RECORDSIZE * length list) mark) (blocks_taken (RECORDSIZE * length list) indirect) (records_blocks (records_from list))
    (free_blocks (left_by changes byte)) (free_blocks byte) (tree_blocks (a_directory (records_from list) mark))
    (tree_blocks (a_directory (records_from list) indirect)) (blocks-directory list mark) (blocks-directory list indirect)
    (blocks-kept laws size byte way place (a_directory (records_from list) indirect) (a_directory (records_from list) mark) changes holds turns)
  where
    cancel : (a b rest now free new old : ℕ) → new ≡ a + rest → old ≡ b + rest → new + now ≡ old + free → a + now ≡ b + free
    cancel a b rest now free new old e f g = omega arith

pub record MarkedDirectory (size : ℕ) (byte : ℕ → ℕ) (way : List ℕ) (place : ℕ) (list : List (Option NamedNode)) (indirect : Bool) : Type 0 where
  pub mark : Bool
  pub turns : Turns size byte way place (take_indirect place ∷ []) (a_directory (records_from list) mark)
  pub is : mark ≡ (indirect || nat_lt NDIRECT (blocks_of (RECORDSIZE * length list) + 1))

-- the indirect block comes where one more block needs it
marking-directory : ChangesAreActs → (size : ℕ) (byte : ℕ → ℕ) (way : List ℕ) (place : ℕ) (list : List (Option NamedNode)) (indirect : Bool)
    (end : ℕ) → Holds size byte way place (a_directory (records_from list) indirect) → RECORDSIZE * length list < end →
    blocks_taken end (indirect || needs_indirect end) ≤ blocks_taken (RECORDSIZE * length list) indirect + free_blocks byte →
    MarkedDirectory size byte way place list indirect
marking-directory laws size byte way place list true end holds more free =
    let is = directory-is laws size byte way place list true holds in
    record {
      mark = true;
      turns = idle size byte way place (a_directory (records_from list) true) (take_indirect place) holds (unmarked byte place is.mark);
      is = refl;
    }
marking-directory laws size byte way place list false end holds more free =
    let is = directory-is laws size byte way place list false holds in
    let same : blocks_needed byte place ≡ blocks_of (RECORDSIZE * length list) = ap (λ (n : ℕ). blocks_of n) is.size in
    by_blocks (cases_lt (blocks_of (RECORDSIZE * length list)) 10) same is.needed is.whole
  where
    by_blocks : (blocks_of (256 * length list) < 10) ⊎ (10 ≤ blocks_of (256 * length list)) →
        blocks_needed byte place ≡ blocks_of (256 * length list) → (10 < blocks_of (256 * length list) → false ≡ true) →
        256 * length list % 4096 ≡ 0 → MarkedDirectory size byte way place list false
    by_blocks (inl few) same needed whole =
        record {
          mark = false;
          turns =
              idle size byte way place (a_directory (records_from list) false) (take_indirect place) holds
              (few-blocks byte place (subst (λ (n : ℕ). n < 10) (sym same) few));
          is = below-ten (blocks_of (256 * length list)) few;
        }
      where
        below-ten : (b : ℕ) → b < 10 → false ≡ (false || nat_lt 10 (b + 1))
        below-ten b few_ = grind (arith, nat_tests)
    by_blocks (inr many) same needed whole =
        record {
          mark = true;
          turns =
              turns-one size byte way place (a_directory (records_from list) false) (a_directory (records_from list) true) (take_indirect place)
              holds
              (laws.taken_indirect size byte way place (a_directory (records_from list) false) holds
              (same ∙ ten (blocks_of (256 * length list)) (cases_lt 10 (blocks_of (256 * length list))) many needed)
              (some-free (blocks_of (256 * length list)) (blocks_of end) (if false || needs_indirect end then 1 else 0) (free_blocks byte)
              (more-blocks (256 * length list) end whole more) free));
          is = from-ten (blocks_of (256 * length list)) many;
        }
      where
        ten : (b : ℕ) → (10 < b) ⊎ (b ≤ 10) → 10 ≤ b → (10 < b → false ≡ true) → b ≡ 10
        ten b (inl past) many_ needed_ = absurd (cc (needed_ past))
        ten b (inr most) many_ needed_ = omega arith

        from-ten : (b : ℕ) → 10 ≤ b → true ≡ (false || nat_lt 10 (b + 1))
        from-ten b many_ = grind (arith, nat_tests)

-- a block of empty records is taken, after its indirect block where that is wanted
pub record TakesRecords (size : ℕ) (byte : ℕ → ℕ) (way : List ℕ) (place : ℕ) (list : List (Option NamedNode)) (indirect : Bool) : Type 0 where
  pub first : MarkedDirectory size byte way place list indirect
  pub second :
      Turns size (left_by (take_indirect place ∷ []) byte) way place (take_block place (RECORDSIZE * length list + BLKSIZE) ∷ [])
      (a_directory (records_from (list ++ replicate BLKFILES None)) first.mark)

pub takes-both-records : ChangesAreActs → (size : ℕ) (byte : ℕ → ℕ) (way : List ℕ) (place : ℕ) (list : List (Option NamedNode)) (indirect : Bool) →
    let end : ℕ = RECORDSIZE * length list + BLKSIZE in
    Holds size byte way place (a_directory (records_from list) indirect) → end ≤ MAXFILESIZE →
    blocks_taken end (indirect || needs_indirect end) ≤ blocks_taken (RECORDSIZE * length list) indirect + free_blocks byte →
    TakesRecords size byte way place list indirect
takes-both-records laws size byte way place list indirect holds short free =
    let long : ℕ = RECORDSIZE * length list in
    let end : ℕ = long + BLKSIZE in
    let was = directory-is laws size byte way place list indirect holds in
    let more : long < end = omega arith in
    let first = marking-directory laws size byte way place list indirect end holds more free in
    let now : ℕ → ℕ = left_by (take_indirect place ∷ []) byte in
    let next : Holds size now way place (a_directory (records_from list) first.mark) = turned first.turns in
    let is = directory-is laws size now way place list first.mark next in
    let above : blocks_of long < blocks_of end = more-blocks long end was.whole more in
    let kept = directory-kept laws size byte way place list indirect first.mark (take_indirect place ∷ []) holds first.turns in
    let room : HasRoom now place long end =
    record {
      whole = was.whole;
      more = more;
      short = short;
      counted =
          subst (λ (b : Bool). (blocks_of long < NDIRECT) ⊎ (b ≡ true)) (sym is.mark) (mark-counted indirect first.mark (blocks_of long) first.is);
      free =
          room-left indirect first.mark (needs_indirect end) (blocks_of long) (blocks_of end) (free_blocks byte) (free_blocks now) above
          (mark-grows indirect first.mark (blocks_of long) (blocks_of end) above first.is) free kept;
    } in
    let both : List (Option NamedNode) = list ++ replicate BLKFILES None in
    record {
      first = first;
      second =
          turns-one size now way place (a_directory (records_from list) first.mark) (a_directory (records_from both) first.mark)
          (take_block place end) next (laws.taken_records size now way place list first.mark next room);
    }

takes-records : ChangesAreActs → (size : ℕ) (byte : ℕ → ℕ) (way : List ℕ) (place : ℕ) (list : List (Option NamedNode)) (indirect : Bool) →
    let end : ℕ = RECORDSIZE * length list + BLKSIZE in
    Holds size byte way place (a_directory (records_from list) indirect) → end ≤ MAXFILESIZE →
    blocks_taken end (indirect || needs_indirect end) ≤ blocks_taken (RECORDSIZE * length list) indirect + free_blocks byte →
    Turns size byte way place (take_indirect place ∷ take_block place end ∷ [])
    (a_directory (records_from (list ++ replicate BLKFILES None)) (indirect || needs_indirect end))
takes-records laws size byte way place list indirect holds short free =
    let long : ℕ = RECORDSIZE * length list in
    let end : ℕ = long + BLKSIZE in
    let was = directory-is laws size byte way place list indirect holds in
    let two = takes-both-records laws size byte way place list indirect holds short free in
    let both : List (Option NamedNode) = list ++ replicate BLKFILES None in
    subst (λ (b : Bool). Turns size byte way place (take_indirect place ∷ take_block place end ∷ []) (a_directory (records_from both) b))
    (two.first.is ∙ ap (λ (n : ℕ). indirect || nat_lt NDIRECT n) (sym (whole-more long end was.whole)))
    (turns-append size byte way place (a_directory (records_from list) two.first.mark) (a_directory (records_from both) two.first.mark)
    (take_indirect place ∷ []) (take_block place end ∷ []) two.first.turns two.second)
  where
    whole-more : (n end : ℕ) → n % 4096 ≡ 0 → blocks_of (n + 4096) ≡ blocks_of n + 1
    whole-more n end whole = omega arith

-- no zeros are missing
pub unfilled : (byte : ℕ → ℕ) (place most : ℕ) → most ≤ size_of byte place → fill place most byte ≡ []
unfolding fill
unfilled byte place most le =
    let not_above : nat_lt (size_of byte place) most ≡ false = none-above (size_of byte place) most le in rw not_above refl
  where
    none-above : (size most : ℕ) → most ≤ size → nat_lt size most ≡ false
    none-above size most le_ = grind (arith, nat_tests)

pub one-taken : (place end : ℕ) → take_blocks 1 place end ≡ take_indirect place ∷ take_block place end ∷ []
unfolding take_blocks
one-taken place end = refl

-- growth of a directory by a block
grows-directory : ChangesAreActs → (size : ℕ) (byte : ℕ → ℕ) (way : List ℕ) (place : ℕ) (list : List (Option NamedNode)) (indirect : Bool) →
    let end : ℕ = RECORDSIZE * length list + BLKSIZE in
    Holds size byte way place (a_directory (records_from list) indirect) → end ≤ MAXFILESIZE →
    blocks_taken end (indirect || needs_indirect end) ≤ blocks_taken (RECORDSIZE * length list) indirect + free_blocks byte →
    Turns size byte way place (growth byte place end)
    (a_directory (records_from (list ++ replicate BLKFILES None)) (indirect || needs_indirect end))
unfolding growth
grows-directory laws size byte way place list indirect holds short free =
    let long : ℕ = RECORDSIZE * length list in
    let end : ℕ = long + BLKSIZE in
    let is = directory-is laws size byte way place list indirect holds in
    let most : ℕ = min end (BLKSIZE * blocks_needed byte place) in
    let both : List (Option NamedNode) = list ++ replicate BLKFILES None in
    let first : Turns size byte way place (fill place most ∷ []) (a_directory (records_from list) indirect) =
    idle size byte way place (a_directory (records_from list) indirect) (fill place most) holds
    (unfilled byte place most (full (size_of byte place) long is.size is.whole)) in
    let kept = directory-kept laws size byte way place list indirect indirect (fill place most ∷ []) holds first in
    let second =
    takes-records laws size (left_by (fill place most ∷ []) byte) way place list indirect (turned first) short
    (still-free (blocks_taken long indirect) (blocks_taken long indirect) (blocks_taken end (indirect || needs_indirect end))
    (blocks_taken long indirect) (free_blocks (left_by (fill place most ∷ []) byte)) (free_blocks byte) free kept refl) in
    subst (λ (n : ℕ). Turns size byte way place (fill place most ∷ take_blocks n place end)
    (a_directory (records_from both) (indirect || needs_indirect end)))
    (sym (one-block (size_of byte place) long is.size is.whole))
    (subst (λ (l : List Change). Turns size byte way place (fill place most ∷ l) (a_directory (records_from both) (indirect || needs_indirect end)))
    (sym (one-taken place end))
    (turns-append size byte way place (a_directory (records_from list) indirect)
    (a_directory (records_from both) (indirect || needs_indirect end)) (fill place most ∷ [])
    (take_indirect place ∷ take_block place end ∷ []) first second))
  where
    full : (size long : ℕ) → size ≡ long → long % 4096 ≡ 0 → min (long + 4096) (4096 * blocks_of size) ≤ size
    full size long e whole = omega arith

    one-block : (size long : ℕ) → size ≡ long → long % 4096 ≡ 0 → blocks_of (long + 4096) - blocks_of size ≡ 1
    one-block size long e whole = omega arith

-- ---- the record is made

-- a directory of these records, with one more file in an empty one, takes as many blocks
file-put : (list : List (Option NamedNode)) (i : ℕ) (name : List ℕ) → i < length list → slice_index_or list i None ≡ None →
    records_blocks (records_from (slice_set list i (Some (new_file name)))) ≡ records_blocks (records_from list)
unfolding tree_blocks
file-put list i name within e =
    let one = blocks-put list i (new_file name) within e in
    let none : ◌≡◌ {A = ℕ} (tree_blocks (a_file [] false)) 0 = refl in
    plain _ _ _ one none
  where
    plain : (a b c : ℕ) → a ≡ b + c → c ≡ 0 → a ≡ b
    plain a b c e_ f = omega arith

-- in an empty record
creates-in-room : ChangesAreActs → (size : ℕ) (byte : ℕ → ℕ) (way : List ℕ) (place : ℕ) (list : List (Option NamedNode)) (indirect : Bool)
    (i : ℕ) (name : List ℕ) → Holds size byte way place (a_directory (records_from list) indirect) → i < length list →
    slice_index_or list i None ≡ None → IsRecordName name → list_any (has_name name) list ≡ false →
    Does size byte (planned (make_record place i name ∷ []) 0)
    (directory_grown (file_system_of byte) way indirect (slice_set list i (Some (new_file name))))
creates-in-room laws size byte way place list indirect i name holds within none good alone =
    let s : FileSystem = file_system_of byte in
    let now : List (Option NamedNode) = slice_set list i (Some (new_file name)) in
    let is = directory-is laws size byte way place list indirect holds in
    let empty : is_empty_record byte (slot_place byte place i) ≡ true =
    sym (slot-none is i within) ∙ ap (λ (x : Option NamedNode). is_none x) none in
    let same : length now ≡ length list = length-set list i (Some (new_file name)) in
    let long : directory_size now ≡ RECORDSIZE * length list = ap (λ (n : ℕ). RECORDSIZE * n) same in
    let mark : Bool = indirect || needs_indirect (directory_size now) in
    let marks : mark ≡ indirect =
    ap (λ (n : ℕ). indirect || needs_indirect n) long ∙ or-needed indirect (RECORDSIZE * length list) is.needed in
    let taken : ℕ = blocks_taken (RECORDSIZE * length list) indirect in
    let blocks : tree_blocks (a_directory (records_from now) mark) ≡ taken + records_blocks (records_from list) =
    blocks-directory now mark ∙ (λ k. blocks_taken (long k) (marks k) + file-put list i name within none k) in
    let fit =
    fit-alike laws size byte way (a_directory (records_from list) indirect) (a_directory (records_from now) mark) taken taken
    (records_blocks (records_from list)) holds.sound holds.is (blocks-directory list indirect) blocks in
    let short : nat_lt MAXFILESIZE (directory_size now) ≡ false =
    not-above (directory_size now) (subst (λ (n : ℕ). n ≤ 4235264) (sym long) is.short) in
    subst
    (λ (b : Bool). Does size byte (planned (make_record place i name ∷ []) 0)
    (if b then refused s E_NO_DISK else done_if_it_fits s (with_node s way (a_directory (records_from now) mark)) 0))
    (sym short)
    (subst
    (λ (b : Bool). Does size byte (planned (make_record place i name ∷ []) 0)
    (if b then done (with_node s way (a_directory (records_from now) mark)) 0 else refused s E_NO_DISK))
    (sym (always taken (free_blocks byte)) ∙ fit)
    (does-turns 0
    (subst (λ (b : Bool). Turns size byte way place (make_record place i name ∷ []) (a_directory (records_from now) b)) (sym marks)
    (turns-one size byte way place (a_directory (records_from list) indirect) (a_directory (records_from now) indirect) (make_record place i name)
    holds (laws.made size byte way place list indirect holds i name within empty good alone)))))
  where
    not-above : (n : ℕ) → n ≤ 4235264 → nat_lt 4235264 n ≡ false
    not-above n le = grind (arith, nat_tests)

    always : (n free : ℕ) → nat_le (n - n) free ≡ true
    always n free = grind (arith, nat_tests)

-- the empty records of a new block
pub alone-among : (list : List (Option NamedNode)) (name : List ℕ) (n : ℕ) → list_any (has_name name) list ≡ false →
    list_any (has_name name) (list ++ replicate n None) ≡ false
alone-among list name n alone =
    list_any-append (has_name name) list (replicate n None) ∙ ap (λ (b : Bool). b || list_any (has_name name) (replicate n None)) alone ∙ nobody n
  where
    nobody : (k : ℕ) → list_any (has_name name) (replicate k None) ≡ false
    nobody zero = refl
    nobody (suc k) = nobody k

pub length-room : (list : List (Option NamedNode)) → length (list ++ replicate BLKFILES None) ≡ length list + 16
length-room list =
    let some : List (Option NamedNode) = replicate BLKFILES None in
    length-append list some ∙ ap (λ (n : ℕ). length list + n) (length-replicate {A = Option NamedNode} BLKFILES None)

pub first-new : (list : List (Option NamedNode)) → slice_index_or (list ++ replicate BLKFILES None) (length list) None ≡ None
first-new [] = refl
first-new (entry ∷ rest) = first-new rest

-- in the first record of a new block
creates-behind : ChangesAreActs → (size : ℕ) (byte : ℕ → ℕ) (way : List ℕ) (place : ℕ) (list : List (Option NamedNode)) (indirect : Bool)
    (name : List ℕ) → Holds size byte way place (a_directory (records_from list) indirect) → IsRecordName name →
    list_any (has_name name) list ≡ false →
    Does size byte (create_plan_at byte place name None)
    (directory_grown (file_system_of byte) way indirect (slice_set (list ++ replicate BLKFILES None) (length list) (Some (new_file name))))
creates-behind laws size byte way place list indirect name holds good alone =
    let s : FileSystem = file_system_of byte in
    let both : List (Option NamedNode) = list ++ replicate BLKFILES None in
    let now : List (Option NamedNode) = slice_set both (length list) (Some (new_file name)) in
    let is = directory-is laws size byte way place list indirect holds in
    let end : ℕ = RECORDSIZE * length list + BLKSIZE in
    let many : length both ≡ length list + 16 = length-room list in
    let within : length list < length both = subst (λ (n : ℕ). length list < n) (sym many) (omega arith) in
    let long : directory_size now ≡ end =
    ap (λ (n : ℕ). RECORDSIZE * n) (length-set both (length list) (Some (new_file name)) ∙ many) ∙ spread (length list) in
    let mark : Bool = indirect || needs_indirect end in
    let rest : ℕ = records_blocks (records_from list) in
    let new : Node = a_directory (records_from now) mark in
    let ends : size_of byte place + BLKSIZE ≡ end = ap (λ (n : ℕ). n + BLKSIZE) is.size in
    let before : tree_blocks (a_directory (records_from list) indirect) ≡ blocks_taken (size_of byte place) (has_indirect byte place) + rest =
    blocks-directory list indirect ∙ (λ k. blocks_taken (sym is.size k) (sym is.mark k) + rest) in
    let after : tree_blocks new ≡ blocks_grown byte place end + rest =
    blocks-directory now mark
    ∙ (λ k. blocks_taken (long k) (sym is.mark k || needs_indirect end) + file-put both (length list) name within (first-new list) k)
    ∙ ap (λ (n : ℕ). blocks_grown byte place end + n) (blocks-room list BLKFILES) in
    let changes : List Change = growth byte place end ++ make_record place (slot_count byte place) name ∷ [] in
    let puts : blocks_grown byte place end ≤ blocks_taken (size_of byte place) (has_indirect byte place) + free_blocks byte → end ≤ MAXFILESIZE →
    Turns size byte way place changes new =
    λ fit short.
    let free : blocks_taken end mark ≤ blocks_taken (RECORDSIZE * length list) indirect + free_blocks byte =
    subst (λ (b : Bool). blocks_taken end (b || needs_indirect end) ≤ blocks_taken (RECORDSIZE * length list) b + free_blocks byte) is.mark
    (subst (λ (n : ℕ). blocks_grown byte place end ≤ blocks_taken n (has_indirect byte place) + free_blocks byte) is.size fit) in
    let more = grows-directory laws size byte way place list indirect holds short free in
    let later : ℕ → ℕ = left_by (growth byte place end) byte in
    let it = directory-is laws size later way place both mark (turned more) in
    let empty : is_empty_record later (slot_place later place (length list)) ≡ true =
    sym (slot-none it (length list) within) ∙ ap (λ (x : Option NamedNode). is_none x) (first-new list) in
    let last : Turns size later way place (make_record place (length list) name ∷ []) new =
    turns-one size later way place (a_directory (records_from both) mark) new (make_record place (length list) name) (turned more)
    (laws.made size later way place both mark (turned more) (length list) name within empty good (alone-among list name BLKFILES alone)) in
    subst (λ (n : ℕ). Turns size byte way place (growth byte place end ++ make_record place n name ∷ []) new) is.long
    (turns-append size byte way place (a_directory (records_from both) mark) new (growth byte place end)
    (make_record place (length list) name ∷ []) more last) in
    subst
    (λ (n : ℕ). Does size byte (create_plan_at byte place name None)
    (if nat_lt MAXFILESIZE n then refused s E_NO_DISK
    else done_if_it_fits s (with_node s way (a_directory (records_from now) (indirect || needs_indirect n))) 0))
    (sym long)
    (subst
    (λ (n : ℕ). Does size byte
    (if nat_lt MAXFILESIZE n then turned_down E_NO_DISK
    else planned_if_it_fits byte place (blocks_grown byte place n) 0 (growth byte place n ++ make_record place (slot_count byte place) name ∷ []))
    (if nat_lt MAXFILESIZE end then refused s E_NO_DISK else done_if_it_fits s (with_node s way new) 0))
    (sym ends)
    (does-either size byte (nat_lt MAXFILESIZE end) (turned_down E_NO_DISK)
    (planned_if_it_fits byte place (blocks_grown byte place end) 0 changes) (refused s E_NO_DISK) (done_if_it_fits s (with_node s way new) 0)
    (λ far. does-nothing size byte (negated E_NO_DISK) holds.sound)
    (λ short.
    does-if-it-fits laws size byte way place (a_directory (records_from list) indirect) new (blocks_grown byte place end) rest 0 changes holds before
    after (λ fit. does-turns 0 (puts fit (not-past end short))))))
  where
    spread : (n : ℕ) → 256 * (n + 16) ≡ 256 * n + 4096
    spread n = omega arith

-- ---- a file is made

with-new : (name : List ℕ) (list : List (Option NamedNode)) (i : ℕ) → i < length list → free_place list ≡ i →
    with_new_file name list ≡ slice_set list i (Some (new_file name))
unfolding with_new_file with_room
with-new name list i within e =
    let room : nat_lt (free_place list) (length list) ≡ true = below (free_place list) i (length list) e within in
    rw room (ap (λ (k : ℕ). slice_set list k (Some (new_file name))) e)
  where
    below : (place k n : ℕ) → place ≡ k → k < n → nat_lt place n ≡ true
    below place k n e_ lt = grind (arith, nat_tests)

with-new-behind : (name : List ℕ) (list : List (Option NamedNode)) → free_place list ≡ length list →
    with_new_file name list ≡ slice_set (list ++ replicate BLKFILES None) (length list) (Some (new_file name))
unfolding with_new_file with_room
with-new-behind name list e =
    let room : nat_lt (free_place list) (length list) ≡ false = past (free_place list) (length list) e in
    rw room (ap (λ (k : ℕ). slice_set (list ++ replicate BLKFILES None) k (Some (new_file name))) e)
  where
    past : (place n : ℕ) → place ≡ n → nat_lt place n ≡ false
    past place n e_ = grind (arith, nat_tests)

below : (first many n : ℕ) → nat_lt first many ≡ true → many ≡ n → first < n
below first many n e same = grind (arith, nat_tests)

last : (place first many n : ℕ) → nat_lt first many ≡ false → place ≡ first → many ≡ n → place ≤ n → place ≡ n
last place first many n e same long most = let past : many ≤ first = not-less first many e in omega arith
  where
    not-less : (a b : ℕ) → nat_lt a b ≡ false → b ≤ a
    not-less a b e_ = grind (arith, nat_tests)

-- the first empty record on the disk is that of the list
pub first-slot-is : (byte : ℕ → ℕ) (place : ℕ) (list : List (Option NamedNode)) (indirect : Bool) → DirectoryIs byte place list indirect →
    first_slot byte place (is_empty_record byte) ≡ position is_none list
unfolding first_slot
first-slot-is byte place list indirect is =
    let places : List ℕ = values_below (slot_count byte place) (slot_place byte place) in
    let long : length places ≡ length list = length-values (slot_count byte place) (slot_place byte place) ∙ sym is.long in
    let same : free_place list ≡ position_or_len (is_empty_record byte) places =
    same-first is_none (is_empty_record byte) list places None 0 (sym long)
    (λ i within.
    slot-none is i within
    ∙ ap (is_empty_record byte)
    (sym (get_or-values (slot_count byte place) (slot_place byte place) i 0 (subst (λ (n : ℕ). i < n) is.long within)))) in
    λ i. if nat_lt (sym same i) (long i) then Some (sym same i) else None

pub create-does : ChangesAreActs → (size : ℕ) (byte : ℕ → ℕ) (way : List ℕ) (place : ℕ) (list : List (Option NamedNode)) (indirect : Bool)
    (name : List ℕ) → Holds size byte way place (a_directory (records_from list) indirect) → IsRecordName name →
    list_any (has_name name) list ≡ false →
    Does size byte (create_plan byte place name) (directory_grown (file_system_of byte) way indirect (with_new_file name list))
unfolding create_plan first_slot
create-does laws size byte way place list indirect name holds good alone =
    let is = directory-is laws size byte way place list indirect holds in
    let places : List ℕ = values_below (slot_count byte place) (slot_place byte place) in
    let long : length places ≡ length list = length-values (slot_count byte place) (slot_place byte place) ∙ sym is.long in
    let first : ℕ = position_or_len (is_empty_record byte) places in
    let same : free_place list ≡ first =
    same-first is_none (is_empty_record byte) list places None 0 (sym long)
    (λ i within.
    slot-none is i within
    ∙ ap (is_empty_record byte)
    (sym (get_or-values (slot_count byte place) (slot_place byte place) i 0 (subst (λ (n : ℕ). i < n) is.long within)))) in
    by first (length places) (nat_lt first (length places)) refl same long
    (λ within.
    passes_at_first is_none list None (subst (λ (n : ℕ). n < length list) (sym same) within))
    (first-within is_none list)
  where
    by : (first many : ℕ) (b : Bool) → nat_lt first many ≡ b → free_place list ≡ first → many ≡ length list →
        (first < length list → is_none (slice_index_or list (free_place list) None) ≡ true) → free_place list ≤ length list →
        Does size byte (create_plan_at byte place name (if b then Some first else None))
        (directory_grown (file_system_of byte) way indirect (with_new_file name list))
    by first many true e same long passes most =
        let within : first < length list = below first many (length list) e long in
        subst (λ (l : List (Option NamedNode)). Does size byte (planned (make_record place first name ∷ []) 0)
        (directory_grown (file_system_of byte) way indirect l)) (sym (with-new name list first within same))
        (creates-in-room laws size byte way place list indirect first name holds within
        (is-none (slice_index_or list first None) (ap (λ (k : ℕ). is_none (slice_index_or list k None)) (sym same) ∙ passes within)) good alone)
    by first many false e same long passes most =
        let past : free_place list ≡ length list = last (free_place list) first many (length list) e same long most in
        subst (λ (l : List (Option NamedNode)). Does size byte (create_plan_at byte place name None)
        (directory_grown (file_system_of byte) way indirect l)) (sym (with-new-behind name list past))
        (creates-behind laws size byte way place list indirect name holds good alone)
