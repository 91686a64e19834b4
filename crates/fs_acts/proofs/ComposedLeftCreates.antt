-- An opening that makes a file, begun anew between two of its changes, puts what is left.
use Rattle.std.proofs.Common.{◌≡◌, ◌∙◌, ◌+◌, ◌-◌, ◌*◌, ◌%◌, ◌<◌, ◌≤◌, ◌⊎◌, inl, inr, ℕ, suc, Bool, true, false}
use Rattle.std.proofs.Common.{List, [], ◌∷◌, ◌++◌, length, Option, Some, None}
use Rattle.std.proofs.Common.{refl, sym, ap, subst, arith, min}
use Rattle.std.specs.Prelude.{◌||◌, nat_lt, nat_le, is_none, position, replicate, if◌then◌else◌}
use Rattle.std.specs.List.{list_any, position_or_len}
use Rattle.std.proofs.lemmas.Bool.Decides.{nat_tests}
use Rattle.jos_base.specs.declared.numbers.TheConstants.{E_NO_DISK, E_NOT_FOUND}
use Rattle.jos_base.specs.Words.{has_bit}
use Rattle.fs_layout.specs.declared.numbers.TheConstants.{BLKSIZE, RECORDSIZE, BLKFILES, MAXFILESIZE, NDIRECT, O_CREAT}
use Rattle.fs_layout.specs.FileTree.{Node, a_directory, FileAct, open_path, NamedNode, FileSystem, records_from, with_node, blocks_of}
use Rattle.fs_layout.specs.FileTree.{needs_indirect, blocks_taken}
use Rattle.fs_layout.specs.FileActs.{has_name, find_name, missing, look_up}
use Rattle.fs_layout.specs.DiskImage.{size_of}
use Rattle.fs_layout.specs.DiskFiles.{file_system_of, free_blocks}
use Rattle.fs_layout.proofs.FileTrees.{listed-records_from}
use Rattle.fs_acts.specs.BlockActs.{Change, Planned, planned, turned_down, puts_in_turn, fill}
use Rattle.fs_acts.specs.BlockActs.{take_indirect, take_block, take_blocks, growth, make_record, create_plan_at, create_plan}
use Rattle.fs_acts.specs.BlockActs.{no_record, led_to, open_led, plan_of}
use Rattle.fs_acts.specs.BlockLaws.{Holds}
use Rattle.fs_acts.proofs.Trees.{put-again}
use Rattle.fs_acts.proofs.ComposedTrees.{with_node-twice}
use Rattle.fs_acts.proofs.ComposedSteps.{ChangesAreActs, left_by, Turns, turned}
use Rattle.fs_acts.proofs.ComposedRecords.{DirectoryIs, directory-is}
use Rattle.fs_acts.proofs.ComposedSizes.{idle, unmarked, few-blocks, mark-counted, more-blocks}
use Rattle.fs_acts.proofs.ComposedLeftSizes.{mark-grown}
use Rattle.fs_acts.proofs.ComposedFiles.{not-past}
use Rattle.fs_acts.proofs.ComposedCreates.{directory-kept, takes-both-records, unfilled, one-taken, first-slot-is, length-room, alone-among}
use Rattle.fs_acts.proofs.ComposedLeft.{Alike, alike-idle, alike-append, Always, always-none, always-one, always-step}
use Rattle.fs_acts.proofs.ComposedLeftFiles.{Resumes, GoesOn, not-far}
use Rattle.fs_acts.proofs.ComposedLooks.{look-up-missing, find-none, led-missing}

-- the directory at a way, in the tree of before with this node in its place
pub record DirectoryAt (size : ℕ) (s : FileSystem) (way : List ℕ) (place : ℕ) (byte : ℕ → ℕ) (list : List (Option NamedNode)) (mark : Bool) : Type 0 where
  pub holds : Holds size byte way place (a_directory (records_from list) mark)
  pub tree : file_system_of byte ≡ with_node s way (a_directory (records_from list) mark)

-- after one change
pub directory-next : (size : ℕ) (s : FileSystem) (way : List ℕ) (place : ℕ) (byte : ℕ → ℕ) (list new : List (Option NamedNode)) (indirect mark : Bool)
    (change : Change) → DirectoryAt size s way place byte list indirect →
    Turns size byte way place (change ∷ []) (a_directory (records_from new) mark) →
    DirectoryAt size s way place (left_by (change ∷ []) byte) new mark
directory-next size s way place byte list new indirect mark change at turns =
    record {
      holds = turned turns;
      tree =
          turns.tree
          ∙ ap (λ (t : FileSystem). with_node t way (a_directory (records_from new) mark)) at.tree
          ∙ with_node-twice s way (a_directory (records_from list) indirect) (a_directory (records_from new) mark);
    }

-- On the way the last name is missing still.
missing-still : ChangesAreActs → (size : ℕ) (s : FileSystem) (path way : List ℕ) (place : ℕ) (node : Node) (name : List ℕ) (now : ℕ → ℕ)
    (list : List (Option NamedNode)) (mark : Bool) → look_up s path ≡ missing way node name → list_any (has_name name) list ≡ false →
    DirectoryAt size s way place now list mark → led_to now path ≡ no_record place name
missing-still laws size s path way place node name now list mark e alone at =
    let new : Node = a_directory (records_from list) mark in
    led-missing now (led_to now path) (look_up (file_system_of now) path) way new name place (laws.paths size now at.holds.sound path)
    (ap (λ (t : FileSystem). look_up t path) at.tree
    ∙ look-up-missing s path way node new name (records_from list) mark refl
    (ap (find_name name) (listed-records_from list) ∙ find-none name list alone) e)
    at.holds.stands

-- ---- growth of a directory, told anew

one-block : (size long : ℕ) → size ≡ long → long % 4096 ≡ 0 → blocks_of (long + 4096) - blocks_of size ≡ 1
one-block size long e whole = omega arith

pub growth-directory : (byte : ℕ → ℕ) (place : ℕ) (list : List (Option NamedNode)) (mark : Bool) → DirectoryIs byte place list mark →
    let end : ℕ = RECORDSIZE * length list + BLKSIZE in
    growth byte place end
    ≡ fill place (min end (BLKSIZE * blocks_of (RECORDSIZE * length list))) ∷ take_indirect place ∷ take_block place end ∷ []
unfolding growth
growth-directory byte place list mark is =
    let long : ℕ = RECORDSIZE * length list in
    let end : ℕ = long + BLKSIZE in
    (λ i. fill place (min end (BLKSIZE * blocks_of (is.size i))) ∷ take_blocks (one-block (size_of byte place) long is.size is.whole i) place end)
    ∙ ap (λ (l : List Change). fill place (min end (BLKSIZE * blocks_of long)) ∷ l) (one-taken place end)

-- no zeros are missing
growth-filled : (byte : ℕ → ℕ) (place : ℕ) (list : List (Option NamedNode)) (mark : Bool) → DirectoryIs byte place list mark →
    let end : ℕ = RECORDSIZE * length list + BLKSIZE in
    Alike byte (growth byte place end) (take_indirect place ∷ take_block place end ∷ [])
growth-filled byte place list mark is =
    let long : ℕ = RECORDSIZE * length list in
    let end : ℕ = long + BLKSIZE in
    let most : ℕ = min end (BLKSIZE * blocks_of long) in
    ap (λ (l : List Change). puts_in_turn l byte) (growth-directory byte place list mark is)
    ∙ alike-idle byte (fill place most) (take_indirect place ∷ take_block place end ∷ [])
    (unfilled byte place most (subst (λ (n : ℕ). most ≤ n) (sym is.size) (full long is.whole)))
  where
    full : (long : ℕ) → long % 4096 ≡ 0 → min (long + 4096) (4096 * blocks_of long) ≤ long
    full long whole = omega arith

-- ---- the plan on the way

-- the plan for a directory that grows
grown-plan : (byte : ℕ → ℕ) (place : ℕ) (list : List (Option NamedNode)) (mark : Bool) (name : List ℕ) (total : ℕ) →
    DirectoryIs byte place list mark → blocks_taken (RECORDSIZE * length list) mark + free_blocks byte ≡ total →
    let end : ℕ = RECORDSIZE * length list + BLKSIZE in
    end ≤ MAXFILESIZE → blocks_taken end (mark || needs_indirect end) ≤ total →
    create_plan_at byte place name None ≡ planned (growth byte place end ++ make_record place (length list) name ∷ []) 0
grown-plan byte place list mark name total is kept short fit =
    let long : ℕ = RECORDSIZE * length list in
    let end : ℕ = long + BLKSIZE in
    let changes : List Change = growth byte place end ++ make_record place (length list) name ∷ [] in
    (λ i. if nat_lt MAXFILESIZE (is.size i + BLKSIZE) then turned_down E_NO_DISK
    else if nat_le (blocks_taken (is.size i + BLKSIZE) (is.mark i || needs_indirect (is.size i + BLKSIZE)) - blocks_taken (is.size i) (is.mark i))
    (free_blocks byte)
    then planned (growth byte place (is.size i + BLKSIZE) ++ make_record place (sym is.long i) name ∷ []) 0 else turned_down E_NO_DISK)
    ∙ ap (λ (b : Bool). if b then turned_down E_NO_DISK
    else if nat_le (blocks_taken end (mark || needs_indirect end) - blocks_taken long mark) (free_blocks byte) then planned changes 0
    else turned_down E_NO_DISK) (not-far end short)
    ∙ ap (λ (b : Bool). if b then planned changes 0 else turned_down E_NO_DISK)
    (still (blocks_taken long mark) (free_blocks byte) total (blocks_taken end (mark || needs_indirect end)) kept fit)
  where
    still : (had free total wanted : ℕ) → had + free ≡ total → wanted ≤ total → nat_le (wanted - had) free ≡ true
    still had free total wanted kept_ fit_ = grind (arith, nat_tests)

-- the act's plan, where the name is missing in the directory
creating-plan : (is_open : List ℕ → Bool) (now : ℕ → ℕ) (path : List ℕ) (mode : ℕ) (place : ℕ) (list : List (Option NamedNode)) (mark : Bool)
    (name : List ℕ) (found : Option ℕ) → has_bit mode O_CREAT ≡ true → led_to now path ≡ no_record place name →
    DirectoryIs now place list mark → position is_none list ≡ found →
    plan_of is_open now (open_path path mode) ≡ create_plan_at now place name found
unfolding plan_of create_plan
creating-plan is_open now path mode place list mark name found create led is first =
    ap (open_led now mode) led
    ∙ ap (λ (b : Bool). if b then create_plan now place name else turned_down E_NOT_FOUND) create
    ∙ ap (create_plan_at now place name) (first-slot-is now place list mark is ∙ first)

-- ---- on the way

-- the first record of a new block is the first empty one
fresh-first : (list : List (Option NamedNode)) → length list ≤ position_or_len is_none list →
    position_or_len is_none (list ++ replicate BLKFILES None) ≡ length list
fresh-first [] past = refl
fresh-first (None ∷ rest) past = absurd (omega arith)
fresh-first (Some named ∷ rest) past = next (position_or_len is_none (rest ++ replicate BLKFILES None)) (length rest) (fresh-first rest (omega arith))
  where
    next : (a b : ℕ) → a ≡ b → 1 + a ≡ suc b
    next a b e = omega arith

fresh-position : (list : List (Option NamedNode)) → position is_none list ≡ None →
    position is_none (list ++ replicate BLKFILES None) ≡ Some (length list)
fresh-position list none =
    let first : position_or_len is_none (list ++ replicate BLKFILES None) ≡ length list =
    fresh-first list (past (position_or_len is_none list) (length list) none) in
    (λ i. if nat_lt (first i) (length-room list i) then Some (first i) else None)
    ∙ ap (λ (b : Bool). if b then Some (length list) else None) (below (length list))
  where
    below : (n : ℕ) → nat_lt n (n + 16) ≡ true
    below n = grind (arith, nat_tests)

    past : (i n : ℕ) → ◌≡◌ {A = Option ℕ} (if nat_lt i n then Some i else None) None → n ≤ i
    past i n e = by (nat_lt i n) refl e
      where
        by : (b : Bool) → nat_lt i n ≡ b → ◌≡◌ {A = Option ℕ} (if b then Some i else None) None → n ≤ i
        by true is e_ = cc
        by false is e_ = grind (arith, nat_tests)

-- while the directory has no empty record yet
resumes-grown : ChangesAreActs → (size : ℕ) (s : FileSystem) (is_open : List ℕ → Bool) (path : List ℕ) (mode : ℕ) (way : List ℕ) (place : ℕ)
    (node : Node) (name : List ℕ) (list : List (Option NamedNode)) (total : ℕ) (now : ℕ → ℕ) (mark : Bool) (left : List Change) →
    look_up s path ≡ missing way node name → list_any (has_name name) list ≡ false → has_bit mode O_CREAT ≡ true →
    position is_none list ≡ None → DirectoryAt size s way place now list mark →
    blocks_taken (RECORDSIZE * length list) mark + free_blocks now ≡ total →
    let end : ℕ = RECORDSIZE * length list + BLKSIZE in
    end ≤ MAXFILESIZE → blocks_taken end (mark || needs_indirect end) ≤ total → Alike now (growth now place end) left →
    Resumes is_open (open_path path mode) now (left ++ make_record place (length list) name ∷ [])
resumes-grown laws size s is_open path mode way place node name list total now mark left e alone create none at kept short fit same =
    let end : ℕ = RECORDSIZE * length list + BLKSIZE in
    let is = directory-is laws size now way place list mark at.holds in
    ap (λ (p : Planned). puts_in_turn p.changes now)
    (creating-plan is_open now path mode place list mark name None create
    (missing-still laws size s path way place node name now list mark e alone at) is none
    ∙ grown-plan now place list mark name total is kept short fit)
    ∙ alike-append now (growth now place end) left (make_record place (length list) name ∷ []) same

-- no indirect block is missing
no-mark : (byte : ℕ → ℕ) (place : ℕ) (list : List (Option NamedNode)) (mark : Bool) → DirectoryIs byte place list mark →
    (blocks_of (RECORDSIZE * length list) < NDIRECT) ⊎ (mark ≡ true) → take_indirect place byte ≡ []
no-mark byte place list mark is (inl few) = few-blocks byte place (subst (λ (n : ℕ). blocks_of n < 10) (sym is.size) few)
no-mark byte place list mark is (inr so) = unmarked byte place (is.mark ∙ so)

-- from the first change to the last
goes-behind : ChangesAreActs → (size : ℕ) (byte : ℕ → ℕ) (is_open : List ℕ → Bool) (path : List ℕ) (mode : ℕ) (way : List ℕ) (place : ℕ)
    (node : Node) (name : List ℕ) (list : List (Option NamedNode)) (indirect : Bool) →
    look_up (file_system_of byte) path ≡ missing way node name → list_any (has_name name) list ≡ false → has_bit mode O_CREAT ≡ true →
    position is_none list ≡ None → Holds size byte way place (a_directory (records_from list) indirect) →
    let end : ℕ = RECORDSIZE * length list + BLKSIZE in
    end ≤ MAXFILESIZE → blocks_taken end (indirect || needs_indirect end) ≤ blocks_taken (RECORDSIZE * length list) indirect + free_blocks byte →
    Always (Resumes is_open (open_path path mode)) byte (growth byte place end ++ make_record place (length list) name ∷ [])
goes-behind laws size byte is_open path mode way place node name list indirect e alone create none holds short fit =
    let P : (ℕ → ℕ) → List Change → Type 0 = Resumes is_open (open_path path mode) in
    let s : FileSystem = file_system_of byte in
    let long : ℕ = RECORDSIZE * length list in
    let end : ℕ = long + BLKSIZE in
    let total : ℕ = blocks_taken long indirect + free_blocks byte in
    let most : ℕ = min end (BLKSIZE * blocks_of long) in
    let made : Change = make_record place (length list) name in
    let is = directory-is laws size byte way place list indirect holds in
    let at : DirectoryAt size s way place byte list indirect =
    record { holds = holds; tree = sym (put-again s way (a_directory (records_from list) indirect) holds.is) } in
    let filled : Turns size byte way place (fill place most ∷ []) (a_directory (records_from list) indirect) =
    idle size byte way place (a_directory (records_from list) indirect) (fill place most) holds
    (unfilled byte place most (subst (λ (n : ℕ). most ≤ n) (sym is.size) (full long is.whole))) in
    let one : ℕ → ℕ = left_by (fill place most ∷ []) byte in
    let at_one = directory-next size s way place byte list list indirect indirect (fill place most) at filled in
    let kept_one = directory-kept laws size byte way place list indirect indirect (fill place most ∷ []) holds filled in
    let is_one = directory-is laws size one way place list indirect at_one.holds in
    let both =
    takes-both-records laws size one way place list indirect at_one.holds short
    (subst (λ (n : ℕ). blocks_taken end (indirect || needs_indirect end) ≤ n) (sym kept_one) fit) in
    let mark : Bool = both.first.mark in
    let two : ℕ → ℕ = left_by (take_indirect place ∷ []) one in
    let at_two = directory-next size s way place one list list indirect mark (take_indirect place) at_one both.first.turns in
    let kept_two = directory-kept laws size one way place list indirect mark (take_indirect place ∷ []) at_one.holds both.first.turns in
    let is_two = directory-is laws size two way place list mark at_two.holds in
    let three : ℕ → ℕ = left_by (take_block place end ∷ []) two in
    let more : List (Option NamedNode) = list ++ replicate BLKFILES None in
    let at_three = directory-next size s way place two list more mark mark (take_block place end) at_two both.second in
    let is_three = directory-is laws size three way place more mark at_three.holds in
    let grown : (mark || needs_indirect end) ≡ (indirect || needs_indirect end) =
    mark-grown indirect mark long end (more-blocks long end is.whole (omega arith)) both.first.is in
    let idle_two : take_indirect place two ≡ [] =
    no-mark two place list mark is_two (mark-counted indirect mark (blocks_of long) both.first.is) in
    subst (λ (l : List Change). Always P byte (l ++ made ∷ [])) (sym (growth-directory byte place list indirect is))
    (always-step P byte (fill place most) (take_indirect place ∷ take_block place end ∷ made ∷ [])
    (resumes-grown laws size s is_open path mode way place node name list total byte indirect
    (fill place most ∷ take_indirect place ∷ take_block place end ∷ []) e alone create none at refl short fit
    (ap (λ (l : List Change). puts_in_turn l byte) (growth-directory byte place list indirect is)))
    (always-step P one (take_indirect place) (take_block place end ∷ made ∷ [])
    (resumes-grown laws size s is_open path mode way place node name list total one indirect (take_indirect place ∷ take_block place end ∷ [])
    e alone create none at_one kept_one short fit (growth-filled one place list indirect is_one))
    (always-step P two (take_block place end) (made ∷ [])
    (resumes-grown laws size s is_open path mode way place node name list total two mark (take_block place end ∷ []) e alone create none at_two
    (kept_two ∙ kept_one) short (subst (λ (b : Bool). blocks_taken end b ≤ total) (sym grown) fit)
    (growth-filled two place list mark is_two ∙ alike-idle two (take_indirect place) (take_block place end ∷ []) idle_two))
    (always-one P three made
    (ap (λ (p : Planned). puts_in_turn p.changes three)
    (creating-plan is_open three path mode place more mark name (Some (length list)) create
    (missing-still laws size s path way place node name three more mark e (alone-among list name BLKFILES alone) at_three) is_three
    (fresh-position list none)))))))
  where
    full : (long : ℕ) → long % 4096 ≡ 0 → min (long + 4096) (4096 * blocks_of long) ≤ long
    full long whole = omega arith

-- ---- an opening that makes a file

pub create-goes : ChangesAreActs → (size : ℕ) (byte : ℕ → ℕ) (is_open : List ℕ → Bool) (path : List ℕ) (mode : ℕ) (way : List ℕ) (place : ℕ)
    (node : Node) (name : List ℕ) (list : List (Option NamedNode)) (indirect : Bool) → led_to byte path ≡ no_record place name →
    look_up (file_system_of byte) path ≡ missing way node name → list_any (has_name name) list ≡ false →
    Holds size byte way place (a_directory (records_from list) indirect) →
    GoesOn is_open (open_path path mode) byte (open_led byte mode (no_record place name))
unfolding create_plan
create-goes laws size byte is_open path mode way place node name list indirect led e alone holds = by_create (has_bit mode O_CREAT) refl
  where
    act : FileAct
    act = open_path path mode

    P : (ℕ → ℕ) → List Change → Type 0
    P = Resumes is_open act

    long : ℕ
    long = RECORDSIZE * length list

    end : ℕ
    end = long + BLKSIZE

    is : DirectoryIs byte place list indirect
    is = directory-is laws size byte way place list indirect holds

    by_fit : (b : Bool) → nat_le (blocks_taken end (indirect || needs_indirect end) - blocks_taken long indirect) (free_blocks byte) ≡ b →
        end ≤ MAXFILESIZE → has_bit mode O_CREAT ≡ true → position is_none list ≡ None →
        GoesOn is_open act byte
        (if b then planned (growth byte place end ++ make_record place (length list) name ∷ []) 0 else turned_down E_NO_DISK)
    by_fit false fit short create none = always-none P byte
    by_fit true fit short create none =
        goes-behind laws size byte is_open path mode way place node name list indirect e alone create none holds short
        (within (blocks_taken long indirect) (free_blocks byte) (blocks_taken end (indirect || needs_indirect end)) fit)
      where
        within : (had free wanted : ℕ) → nat_le (wanted - had) free ≡ true → wanted ≤ had + free
        within had free wanted e_ = grind (arith, nat_tests)

    by_end : (b : Bool) → nat_lt MAXFILESIZE end ≡ b → has_bit mode O_CREAT ≡ true → position is_none list ≡ None →
        GoesOn is_open act byte
        (if b then turned_down E_NO_DISK
        else if nat_le (blocks_taken end (indirect || needs_indirect end) - blocks_taken long indirect) (free_blocks byte)
        then planned (growth byte place end ++ make_record place (length list) name ∷ []) 0 else turned_down E_NO_DISK)
    by_end true far create none = always-none P byte
    by_end false far create none =
        by_fit (nat_le (blocks_taken end (indirect || needs_indirect end) - blocks_taken long indirect) (free_blocks byte)) refl
        (not-past end far) create none

    by_place : (found : Option ℕ) → position is_none list ≡ found → has_bit mode O_CREAT ≡ true →
        GoesOn is_open act byte (create_plan_at byte place name found)
    by_place (Some i) first create =
        always-one P byte (make_record place i name)
        (ap (λ (p : Planned). puts_in_turn p.changes byte)
        (creating-plan is_open byte path mode place list indirect name (Some i) create led is first))
    by_place None first create =
        subst (GoesOn is_open act byte)
        (λ i. if nat_lt MAXFILESIZE (sym is.size i + BLKSIZE) then turned_down E_NO_DISK
        else if nat_le
        (blocks_taken (sym is.size i + BLKSIZE) (sym is.mark i || needs_indirect (sym is.size i + BLKSIZE))
        - blocks_taken (sym is.size i) (sym is.mark i))
        (free_blocks byte)
        then planned (growth byte place (sym is.size i + BLKSIZE) ++ make_record place (is.long i) name ∷ []) 0 else turned_down E_NO_DISK)
        (by_end (nat_lt MAXFILESIZE end) refl create first)

    by_create : (b : Bool) → has_bit mode O_CREAT ≡ b →
        GoesOn is_open act byte (if b then create_plan byte place name else turned_down E_NOT_FOUND)
    by_create false create = always-none P byte
    by_create true create =
        subst (GoesOn is_open act byte) (ap (create_plan_at byte place name) (sym (first-slot-is byte place list indirect is)))
        (by_place (position is_none list) refl create)
