-- At each disk on the way to another size, the changes to that size told anew put what is left of those told before.
use Rattle.std.proofs.Common.{◌≡◌, ◌∙◌, ◌+◌, ◌-◌, ◌*◌, ◌%◌, ◌<◌, ◌≤◌, ◌⊎◌, inl, inr, ℕ, zero, suc, Bool, true, false, List, [], ◌∷◌, ◌++◌}
use Rattle.std.proofs.Common.{length, refl, sym, ap, subst, arith, min}
use Rattle.std.specs.Prelude.{◌||◌, nat_lt, take, replicate, if◌then◌else◌}
use Rattle.std.specs.List.{All}
use Rattle.std.proofs.lemmas.Bool.Decides.{nat_tests}
use Rattle.std.proofs.lemmas.List.{length-take}
use Rattle.fs_layout.specs.declared.numbers.TheConstants.{BLKSIZE, MAXFILESIZE, NDIRECT}
use Rattle.fs_layout.specs.FileTree.{a_file, FileSystem, with_node, blocks_of, needs_indirect, blocks_taken}
use Rattle.fs_layout.specs.FileActs.{resized}
use Rattle.fs_layout.specs.DiskImage.{block_count, size_of, has_indirect, blocks_needed}
use Rattle.fs_layout.specs.DiskFiles.{file_system_of, free_blocks}
use Rattle.fs_layout.proofs.FileBytes.{length-resized}
use Rattle.fs_acts.specs.BlockActs.{Change, puts_in_turn, cut, fill, take_indirect, take_block, give_block, give_indirect}
use Rattle.fs_acts.specs.BlockActs.{take_blocks, growth, resizing}
use Rattle.fs_acts.specs.BlockLaws.{Holds, IsWithin}
use Rattle.fs_acts.proofs.ChangesWithin.{IsPlaced, placed, Within, cut-within, fill-within, take-indirect-within, take-block-within}
use Rattle.fs_acts.proofs.ChangesWithin.{give-block-within, give-indirect-within}
use Rattle.fs_acts.proofs.ComposedTrees.{with_node-twice}
use Rattle.fs_acts.proofs.ComposedSteps.{ChangesAreActs, left_by, Turns, turned, turns-one}
use Rattle.fs_acts.proofs.ComposedRecords.{FileIs, file-is}
use Rattle.fs_acts.proofs.ComposedSizes.{unmarked, few-blocks, mark-counted, takes-both, cuts-off, file-kept}
use Rattle.fs_acts.proofs.ComposedSizes.{not-needed, one-more}
use Rattle.fs_acts.proofs.ComposedLeft.{Alike, alike-idle, AlwaysTo, always-more, always-last, always-map}
use Rattle.fs_acts.proofs.ComposedLeft.{NextWithin, next-none, next-is, not-none}

-- ---- a file on the way

-- the file at a way, in the tree of before with this node in its place, and its blocks with the free ones
pub record At (size : ℕ) (s : FileSystem) (way : List ℕ) (place : ℕ) (total : ℕ) (byte : ℕ → ℕ) (bytes : List ℕ) (indirect : Bool) : Type 0 where
  pub holds : Holds size byte way place (a_file bytes indirect)
  pub tree : file_system_of byte ≡ with_node s way (a_file bytes indirect)
  pub kept : blocks_taken (length bytes) indirect + free_blocks byte ≡ total

-- the disk has as many blocks as before
pub at-blocks : (size : ℕ) (s : FileSystem) (way : List ℕ) (place : ℕ) (total : ℕ) (byte : ℕ → ℕ) (bytes : List ℕ) (indirect : Bool) →
    At size s way place total byte bytes indirect → block_count byte ≡ s.blocks
unfolding file_system_of
at-blocks size s way place total byte bytes indirect at = ap (λ (t : FileSystem). t.blocks) at.tree

pub at-placed : (size : ℕ) (s : FileSystem) (way : List ℕ) (place : ℕ) (total : ℕ) (byte : ℕ → ℕ) (bytes : List ℕ) (indirect : Bool) →
    At size s way place total byte bytes indirect → IsPlaced byte place
at-placed size s way place total byte bytes indirect at = placed size byte at.holds.sound way place at.holds.stands

-- A change whose puts lie within its blocks comes next.
at-within : (size : ℕ) (s : FileSystem) (way : List ℕ) (place : ℕ) (total : ℕ) (byte : ℕ → ℕ) (bytes : List ℕ) (indirect : Bool)
    (change : Change) (rest : List Change) → At size s way place total byte bytes indirect → Within byte (change byte) →
    NextWithin s.blocks byte (change ∷ rest)
at-within size s way place total byte bytes indirect change rest at within =
    next-is s.blocks byte change rest
    (subst (λ (n : ℕ). All (IsWithin n) (change byte)) (at-blocks size s way place total byte bytes indirect at) within)

-- after one change
at-next : ChangesAreActs → (size : ℕ) (s : FileSystem) (way : List ℕ) (place : ℕ) (total : ℕ) (byte : ℕ → ℕ) (bytes new : List ℕ)
    (indirect mark : Bool) (change : Change) → At size s way place total byte bytes indirect →
    Turns size byte way place (change ∷ []) (a_file new mark) → At size s way place total (left_by (change ∷ []) byte) new mark
at-next laws size s way place total byte bytes new indirect mark change at turns =
    record {
      holds = turned turns;
      tree =
          turns.tree
          ∙ ap (λ (t : FileSystem). with_node t way (a_file new mark)) at.tree
          ∙ with_node-twice s way (a_file bytes indirect) (a_file new mark);
      kept = file-kept laws size byte way place bytes new indirect mark (change ∷ []) at.holds turns ∙ at.kept;
    }

-- On the way to a greater size: growth told anew puts what is left, the puts of the next change lie within the blocks, and
-- behind the last change the size is the one wanted.
pub record Growing (size : ℕ) (s : FileSystem) (way : List ℕ) (place : ℕ) (total end : ℕ) (grown : Bool) (byte : ℕ → ℕ)
    (left : List Change) : Type 0 where
  pub bytes : List ℕ
  pub indirect : Bool
  pub at : At size s way place total byte bytes indirect
  pub within : length bytes ≤ end
  pub marks : (indirect || needs_indirect end) ≡ grown
  pub same : Alike byte (growth byte place end) left
  pub next : NextWithin s.blocks byte left
  pub ends : left ≡ [] → length bytes ≡ end

-- ---- growth told anew

-- no zeros are missing
unfilled : (byte : ℕ → ℕ) (place most : ℕ) → most ≤ size_of byte place → fill place most byte ≡ []
unfolding fill
unfilled byte place most le =
    let not_above : nat_lt (size_of byte place) most ≡ false = none-above (size_of byte place) most le in rw not_above refl
  where
    none-above : (size most : ℕ) → most ≤ size → nat_lt size most ≡ false
    none-above size most le_ = grind (arith, nat_tests)

-- Where the size is that of the blocks, or the end, only blocks are missing.
pub growth-takes : (byte : ℕ → ℕ) (place end r : ℕ) (bytes : List ℕ) (indirect : Bool) → FileIs byte place bytes indirect →
    length bytes ≡ min end (BLKSIZE * blocks_of (length bytes)) → blocks_of (length bytes) + r ≡ blocks_of end →
    Alike byte (growth byte place end) (take_blocks r place end)
unfolding growth
growth-takes byte place end r bytes indirect is full count =
    let own : blocks_of (length bytes) ≡ blocks_needed byte place = ap (λ (k : ℕ). blocks_of k) is.long in
    let most : ℕ = min end (BLKSIZE * blocks_needed byte place) in
    let reached : most ≤ size_of byte place =
    subst (λ (k : ℕ). min end (4096 * blocks_of k) ≤ k) is.long (reaches (length bytes) end full) in
    let blocks : blocks_of end - blocks_needed byte place ≡ r =
    ap (λ (k : ℕ). blocks_of end - k) (sym own) ∙ missing (blocks_of (length bytes)) r (blocks_of end) count in
    alike-idle byte (fill place most) (take_blocks (blocks_of end - blocks_needed byte place) place end) (unfilled byte place most reached)
    ∙ ap (λ (k : ℕ). puts_in_turn (take_blocks k place end) byte) blocks
  where
    reaches : (long end : ℕ) → long ≡ min end (4096 * blocks_of long) → min end (4096 * blocks_of long) ≤ long
    reaches long end e = omega arith

    missing : (n r m : ℕ) → n + r ≡ m → m - n ≡ r
    missing n r m e = omega arith

-- the first of the blocks
takes-more : (byte : ℕ → ℕ) (n place end : ℕ) → take_blocks (suc n) place end ≡ take_indirect place ∷ take_block place end ∷ take_blocks n place end
unfolding take_blocks
takes-more byte n place end = refl

pub takes-none : (place end : ℕ) → take_blocks 0 place end ≡ []
unfolding take_blocks
takes-none place end = refl

-- no indirect block is missing
no-indirect : (byte : ℕ → ℕ) (place : ℕ) (bytes : List ℕ) (mark : Bool) → FileIs byte place bytes mark →
    (blocks_of (length bytes) < NDIRECT) ⊎ (mark ≡ true) → take_indirect place byte ≡ []
no-indirect byte place bytes mark is (inl few) = few-blocks byte place (subst (λ (n : ℕ). blocks_of n < 10) is.long few)
no-indirect byte place bytes mark is (inr so) = unmarked byte place (is.mark ∙ so)

pub mark-grown : (indirect mark : Bool) (n end : ℕ) → blocks_of n < blocks_of end → mark ≡ (indirect || nat_lt 10 (blocks_of n + 1)) →
    (mark || needs_indirect end) ≡ (indirect || needs_indirect end)
mark-grown true mark n end more is = ap (λ (b : Bool). b || needs_indirect end) is
mark-grown false mark n end more is = by (nat_lt 10 (blocks_of n + 1)) refl
  where
    by : (b : Bool) → nat_lt 10 (blocks_of n + 1) ≡ b → (mark || needs_indirect end) ≡ needs_indirect end
    by false e = ap (λ (b : Bool). b || needs_indirect end) (is ∙ e)
    by true e = ap (λ (b : Bool). b || needs_indirect end) (is ∙ e) ∙ sym (past (blocks_of n) (blocks_of end) more e)
      where
        past : (a b : ℕ) → a < b → nat_lt 10 (a + 1) ≡ true → nat_lt 10 b ≡ true
        past a b more_ e_ = grind (arith, nat_tests)

-- while blocks are taken
growing-takes : ChangesAreActs → (size : ℕ) (s : FileSystem) (way : List ℕ) (place : ℕ) (total end : ℕ) (grown : Bool) (r : ℕ) (byte : ℕ → ℕ)
    (bytes : List ℕ) (indirect : Bool) → At size s way place total byte bytes indirect →
    length bytes ≡ min end (BLKSIZE * blocks_of (length bytes)) → blocks_of (length bytes) + r ≡ blocks_of end → end ≤ MAXFILESIZE →
    blocks_taken end grown ≤ total → (indirect || needs_indirect end) ≡ grown →
    AlwaysTo (Growing size s way place total end grown) byte (take_blocks r place end)
growing-takes laws size s way place total end grown zero byte bytes indirect at full count short fits marks =
    let is = file-is laws size byte way place bytes indirect at.holds in
    subst (AlwaysTo (Growing size s way place total end grown) byte) (sym (takes-none place end))
    (always-last (Growing size s way place total end grown) byte
    (record {
      bytes = bytes;
      indirect = indirect;
      at = at;
      within = omega arith;
      marks = marks;
      same =
          growth-takes byte place end 0 bytes indirect is full count ∙ ap (λ (l : List Change). puts_in_turn l byte) (takes-none place end);
      next = next-none s.blocks byte;
      ends = λ none. all-taken (length bytes) end full count;
    }))
  where
    all-taken : (long end : ℕ) → long ≡ min end (4096 * blocks_of long) → blocks_of long + 0 ≡ blocks_of end → long ≡ end
    all-taken long end full_ count_ = omega arith
growing-takes laws size s way place total end grown (suc r) byte bytes indirect at full count short fits marks =
    let P : (ℕ → ℕ) → List Change → Type 0 = Growing size s way place total end grown in
    let long : ℕ = length bytes in
    let is = file-is laws size byte way place bytes indirect at.holds in
    let whole : long % BLKSIZE ≡ 0 = whole-blocks long end r full count in
    let more : long < end = short-of long end r full count in
    let above : blocks_of long < blocks_of end = fewer long end r count in
    let free : blocks_taken end (indirect || needs_indirect end) ≤ blocks_taken long indirect + free_blocks byte =
    subst (λ (b : Bool). blocks_taken end b ≤ blocks_taken long indirect + free_blocks byte) (sym marks)
    (subst (λ (n : ℕ). blocks_taken end grown ≤ n) (sym at.kept) fits) in
    let both = takes-both laws size byte way place bytes indirect end at.holds whole more short is.needed free in
    let mark : Bool = both.first.mark in
    let now : ℕ → ℕ = left_by (take_indirect place ∷ []) byte in
    let later : ℕ → ℕ = left_by (take_block place end ∷ []) now in
    let most : ℕ = min end (long + BLKSIZE) in
    let at_now = at-next laws size s way place total byte bytes bytes indirect mark (take_indirect place) at both.first.turns in
    let at_later = at-next laws size s way place total now bytes (resized bytes most) mark mark (take_block place end) at_now both.second in
    let is_now = file-is laws size now way place bytes mark at_now.holds in
    let grown_to : length (resized bytes most) ≡ most = length-resized bytes most in
    let marks_now : (mark || needs_indirect end) ≡ grown = mark-grown indirect mark long end above both.first.is ∙ marks in
    let rest =
    growing-takes laws size s way place total end grown r later (resized bytes most) mark at_later
    (full-again long end (length (resized bytes most)) grown_to whole more)
    (count-again long end (length (resized bytes most)) r grown_to whole more count) short fits marks_now in
    let here : P byte (take_indirect place ∷ take_block place end ∷ take_blocks r place end) =
    record {
      bytes = bytes;
      indirect = indirect;
      at = at;
      within = omega arith;
      marks = marks;
      same =
          growth-takes byte place end (suc r) bytes indirect is full count
          ∙ ap (λ (l : List Change). puts_in_turn l byte) (takes-more byte r place end);
      next =
          at-within size s way place total byte bytes indirect (take_indirect place) (take_block place end ∷ take_blocks r place end) at
          (take-indirect-within byte place (at-placed size s way place total byte bytes indirect at));
      ends = λ none. not-none (take_indirect place) (take_block place end ∷ take_blocks r place end) none;
    } in
    let between : P now (take_block place end ∷ take_blocks r place end) =
    record {
      bytes = bytes;
      indirect = mark;
      at = at_now;
      within = omega arith;
      marks = marks_now;
      same =
          growth-takes now place end (suc r) bytes mark is_now full count
          ∙ ap (λ (l : List Change). puts_in_turn l now) (takes-more now r place end)
          ∙ alike-idle now (take_indirect place) (take_block place end ∷ take_blocks r place end)
          (no-indirect now place bytes mark is_now (mark-counted indirect mark (blocks_of long) both.first.is));
      next =
          at-within size s way place total now bytes mark (take_block place end) (take_blocks r place end) at_now
          (take-block-within now place end (at-placed size s way place total now bytes mark at_now)
          (subst (λ (n : ℕ). blocks_of n < 1034) is_now.long (few-now long end above short))
          (λ many.
          is_now.mark
          ∙ marked-now mark (blocks_of long) (mark-counted indirect mark (blocks_of long) both.first.is)
          (subst (λ (n : ℕ). 10 ≤ blocks_of n) (sym is_now.long) many)));
      ends = λ none. not-none (take_block place end) (take_blocks r place end) none;
    } in
    subst (AlwaysTo P byte) (sym (takes-more byte r place end))
    (always-more P byte (take_indirect place) (take_block place end ∷ take_blocks r place end) here
    (always-more P now (take_block place end) (take_blocks r place end) between rest))
  where
    few-now : (long end : ℕ) → blocks_of long < blocks_of end → end ≤ 4235264 → blocks_of long < 1034
    few-now long end above_ short_ = omega arith

    marked-now : (mark : Bool) (n : ℕ) → (n < 10) ⊎ (mark ≡ true) → 10 ≤ n → mark ≡ true
    marked-now mark n (inl few) many = absurd (omega (arith, few, many))
    marked-now mark n (inr so) many = so

    whole-blocks : (long end r : ℕ) → long ≡ min end (4096 * blocks_of long) → blocks_of long + suc r ≡ blocks_of end → long % 4096 ≡ 0
    whole-blocks long end r full count = omega arith

    short-of : (long end r : ℕ) → long ≡ min end (4096 * blocks_of long) → blocks_of long + suc r ≡ blocks_of end → long < end
    short-of long end r full count = omega arith

    fewer : (long end r : ℕ) → blocks_of long + suc r ≡ blocks_of end → blocks_of long < blocks_of end
    fewer long end r count = omega arith

    full-again : (long end now : ℕ) → now ≡ min end (long + 4096) → long % 4096 ≡ 0 → long < end → now ≡ min end (4096 * blocks_of now)
    full-again long end now grown whole more = omega arith

    count-again : (long end now n : ℕ) → now ≡ min end (long + 4096) → long % 4096 ≡ 0 → long < end → blocks_of long + suc n ≡ blocks_of end →
        blocks_of now + n ≡ blocks_of end
    count-again long end now n grown whole more count =
        ap (λ (k : ℕ). blocks_of k + n) grown ∙ ap (λ (k : ℕ). k + n) (one-more long end whole more) ∙ (omega arith ∙ count)

-- growth told anew where it began
pub growth-is : (byte : ℕ → ℕ) (place end : ℕ) (bytes : List ℕ) (indirect : Bool) → FileIs byte place bytes indirect →
    growth byte place end
    ≡ fill place (min end (BLKSIZE * blocks_of (length bytes))) ∷ take_blocks (blocks_of end - blocks_of (length bytes)) place end
unfolding growth
growth-is byte place end bytes indirect is =
    let own : blocks_of (length bytes) ≡ blocks_needed byte place = ap (λ (k : ℕ). blocks_of k) is.long in
    λ i. fill place (min end (BLKSIZE * sym own i)) ∷ take_blocks (blocks_of end - sym own i) place end

-- on the way to a greater size
pub growing : ChangesAreActs → (size : ℕ) (s : FileSystem) (way : List ℕ) (place : ℕ) (total end : ℕ) (grown : Bool) (byte : ℕ → ℕ)
    (bytes : List ℕ) (indirect : Bool) → At size s way place total byte bytes indirect → length bytes ≤ end → end ≤ MAXFILESIZE →
    blocks_taken end grown ≤ total → (indirect || needs_indirect end) ≡ grown →
    AlwaysTo (Growing size s way place total end grown) byte
    (fill place (min end (BLKSIZE * blocks_of (length bytes))) ∷ take_blocks (blocks_of end - blocks_of (length bytes)) place end)
growing laws size s way place total end grown byte bytes indirect at within short fits marks =
    let P : (ℕ → ℕ) → List Change → Type 0 = Growing size s way place total end grown in
    let n : ℕ = blocks_of (length bytes) in
    let r : ℕ = blocks_of end - n in
    let most : ℕ = min end (BLKSIZE * n) in
    let is = file-is laws size byte way place bytes indirect at.holds in
    let first : Turns size byte way place (fill place most ∷ []) (a_file (resized bytes most) indirect) =
    turns-one size byte way place (a_file bytes indirect) (a_file (resized bytes most) indirect) (fill place most) at.holds
    (laws.fills size byte way place bytes indirect at.holds most (below-most (length bytes) end within) (same-blocks (length bytes) end within)) in
    let now : ℕ → ℕ = left_by (fill place most ∷ []) byte in
    let filled : length (resized bytes most) ≡ most = length-resized bytes most in
    always-more P byte (fill place most) (take_blocks r place end)
    (record {
      bytes = bytes;
      indirect = indirect;
      at = at;
      within = within;
      marks = marks;
      same = ap (λ (l : List Change). puts_in_turn l byte) (growth-is byte place end bytes indirect is);
      next =
          at-within size s way place total byte bytes indirect (fill place most) (take_blocks r place end) at
          (fill-within byte place most (at-placed size s way place total byte bytes indirect at)
          (subst (λ (k : ℕ). most ≤ 4096 * blocks_of k) is.long (in-blocks (length bytes) end)) (at-most (length bytes) end short));
      ends = λ none. not-none (fill place most) (take_blocks r place end) none;
    })
    (growing-takes laws size s way place total end grown r now (resized bytes most) indirect
    (at-next laws size s way place total byte bytes (resized bytes most) indirect indirect (fill place most) at first)
    (full-now (length bytes) end (length (resized bytes most)) filled within)
    (count-now (length bytes) end (length (resized bytes most)) filled within) short fits marks)
  where
    in-blocks : (long end : ℕ) → min end (4096 * blocks_of long) ≤ 4096 * blocks_of long
    in-blocks long end = omega arith

    at-most : (long end : ℕ) → end ≤ 4235264 → min end (4096 * blocks_of long) ≤ 4235264
    at-most long end short_ = omega arith

    below-most : (long end : ℕ) → long ≤ end → long ≤ min end (4096 * blocks_of long)
    below-most long end le = omega arith

    same-blocks : (long end : ℕ) → long ≤ end → blocks_of (min end (4096 * blocks_of long)) ≡ blocks_of long
    same-blocks long end le = omega arith

    full-now : (long end now : ℕ) → now ≡ min end (4096 * blocks_of long) → long ≤ end → now ≡ min end (4096 * blocks_of now)
    full-now long end now e le = omega arith

    count-now : (long end now : ℕ) → now ≡ min end (4096 * blocks_of long) → long ≤ end →
        blocks_of now + (blocks_of end - blocks_of long) ≡ blocks_of end
    count-now long end now e le = omega arith

-- ---- another size told anew

-- On the way to any size: the changes to it told anew put what is left, and the puts of the next one lie within the blocks.
pub record Sizing (size : ℕ) (s : FileSystem) (way : List ℕ) (place : ℕ) (total end : ℕ) (byte : ℕ → ℕ) (left : List Change) : Type 0 where
  pub bytes : List ℕ
  pub indirect : Bool
  pub at : At size s way place total byte bytes indirect
  pub same : Alike byte (resizing byte place end) left
  pub next : NextWithin s.blocks byte left

-- its indirect block is given back where it isn't needed
abbrev unmarking : ℕ → ℕ → List Change
unmarking place end = if needs_indirect end then [] else give_indirect place ∷ []

-- what follows it, for a file of so many blocks
abbrev cutting : ℕ → ℕ → ℕ → List Change
cutting place end n = cut place end ∷ fill place (min end (BLKSIZE * n)) ∷ take_blocks (blocks_of end - n) place end

resizing-is : (byte : ℕ → ℕ) (place end n : ℕ) (bytes : List ℕ) (indirect : Bool) → FileIs byte place bytes indirect →
    blocks_of (length bytes) ≡ n →
    resizing byte place end ≡ replicate (n - blocks_of end) (give_block place) ++ unmarking place end ++ cutting place end n
unfolding resizing growth
resizing-is byte place end n bytes indirect is e =
    let own : blocks_needed byte place ≡ n = ap (λ (k : ℕ). blocks_of k) (sym is.long) ∙ e in
    λ i. replicate (own i - blocks_of end) (give_block place) ++ unmarking place end ++ cutting place end (own i)

-- without blocks to be given back
few-given : (n m : ℕ) (changes rest : List Change) (change : Change) → n ≤ m →
    replicate (n - m) change ++ changes ++ rest ≡ changes ++ rest
few-given n m changes rest change le =
    let none : n - m ≡ 0 = omega arith in ap (λ (k : ℕ). replicate k change ++ changes ++ rest) none

-- with no indirect block that is given back
unmarked-idle : (byte : ℕ → ℕ) (place end : ℕ) (rest : List Change) (needs : Bool) → (needs ≡ false → has_indirect byte place ≡ false) →
    Alike byte ((if needs then [] else give_indirect place ∷ []) ++ rest) rest
unmarked-idle byte place end rest true none = refl
unmarked-idle byte place end rest false none = alike-idle byte (give_indirect place) rest (not-given byte place (none refl))
  where
    not-given : (b : ℕ → ℕ) (p : ℕ) → has_indirect b p ≡ false → give_indirect p b ≡ []
    not-given b p e = unfold give_indirect in (rw e refl)

-- where the size isn't above the end
uncut : (byte : ℕ → ℕ) (place end : ℕ) → size_of byte place ≤ end → cut place end byte ≡ []
unfolding cut
uncut byte place end le = let not_above : nat_lt end (size_of byte place) ≡ false = none-above (size_of byte place) end le in rw not_above refl
  where
    none-above : (size end : ℕ) → size ≤ end → nat_lt end size ≡ false
    none-above size end le_ = grind (arith, nat_tests)

not-marked : (mark needs : Bool) → (mark || needs) ≡ needs → needs ≡ false → mark ≡ false
not-marked true needs e none = e ∙ none
not-marked false needs e none = refl

-- Where the file is not too long and has no indirect block too many, only growth is left.
resizing-growth : (byte : ℕ → ℕ) (place end : ℕ) (bytes : List ℕ) (indirect : Bool) → FileIs byte place bytes indirect →
    length bytes ≤ end → (indirect || needs_indirect end) ≡ needs_indirect end → Alike byte (resizing byte place end) (growth byte place end)
resizing-growth byte place end bytes indirect is within marks =
    let n : ℕ = blocks_of (length bytes) in
    ap (λ (l : List Change). puts_in_turn l byte)
    (resizing-is byte place end n bytes indirect is refl
    ∙ few-given n (blocks_of end) (unmarking place end) (cutting place end n) (give_block place) (omega arith))
    ∙ unmarked-idle byte place end (cutting place end n) (needs_indirect end)
    (λ none. is.mark ∙ not-marked indirect (needs_indirect end) marks none)
    ∙ alike-idle byte (cut place end) (fill place (min end (BLKSIZE * n)) ∷ take_blocks (blocks_of end - n) place end)
    (uncut byte place end (subst (λ (k : ℕ). k ≤ end) is.long within))
    ∙ ap (λ (l : List Change). puts_in_turn l byte) (sym (growth-is byte place end bytes indirect is))

-- behind the blocks and the indirect block that are given back
sizing-cut : ChangesAreActs → (size : ℕ) (s : FileSystem) (way : List ℕ) (place : ℕ) (total end : ℕ) (byte : ℕ → ℕ) (bytes : List ℕ)
    (indirect : Bool) (n : ℕ) → At size s way place total byte bytes indirect → blocks_of (length bytes) ≡ n → n ≤ blocks_of end →
    end ≤ MAXFILESIZE → blocks_taken end (needs_indirect end) ≤ total → (indirect || needs_indirect end) ≡ needs_indirect end →
    AlwaysTo (Sizing size s way place total end) byte (cutting place end n)
sizing-cut laws size s way place total end byte bytes indirect n at count few short fits marks =
    let P : (ℕ → ℕ) → List Change → Type 0 = Sizing size s way place total end in
    let is = file-is laws size byte way place bytes indirect at.holds in
    let cut_off : List ℕ = take end bytes in
    let now : ℕ → ℕ = left_by (cut place end ∷ []) byte in
    let long : length cut_off ≡ min end (length bytes) = length-take end bytes in
    let blocks : blocks_of (length cut_off) ≡ n =
    ap (λ (k : ℕ). blocks_of k) long ∙ as-many (length bytes) end (subst (λ (k : ℕ). k ≤ blocks_of end) (sym count) few) ∙ count in
    let turns : Turns size byte way place (cut place end ∷ []) (a_file cut_off indirect) =
    cuts-off laws size byte way place bytes indirect end at.holds
    (λ less. same-end (length bytes) end less (subst (λ (k : ℕ). k ≤ blocks_of end) (sym count) few)) in
    let at_now = at-next laws size s way place total byte bytes cut_off indirect indirect (cut place end) at turns in
    let rest =
    growing laws size s way place total end (needs_indirect end) now cut_off indirect at_now
    (subst (λ (k : ℕ). k ≤ end) (sym long) (at-most end (length bytes))) short fits marks in
    always-more P byte (cut place end) (fill place (min end (BLKSIZE * n)) ∷ take_blocks (blocks_of end - n) place end)
    (record {
      bytes = bytes;
      indirect = indirect;
      at = at;
      same =
          ap (λ (l : List Change). puts_in_turn l byte)
          (resizing-is byte place end n bytes indirect is count
          ∙ few-given n (blocks_of end) (unmarking place end) (cutting place end n) (give_block place) few)
          ∙ unmarked-idle byte place end (cutting place end n) (needs_indirect end)
          (λ none. is.mark ∙ not-marked indirect (needs_indirect end) marks none);
      next =
          at-within size s way place total byte bytes indirect (cut place end)
          (fill place (min end (BLKSIZE * n)) ∷ take_blocks (blocks_of end - n) place end) at
          (cut-within byte place end (at-placed size s way place total byte bytes indirect at));
    })
    (subst (λ (k : ℕ). AlwaysTo P now (fill place (min end (BLKSIZE * k)) ∷ take_blocks (blocks_of end - k) place end)) blocks
    (always-map (Growing size s way place total end (needs_indirect end)) P now
    (fill place (min end (BLKSIZE * blocks_of (length cut_off))) ∷ take_blocks (blocks_of end - blocks_of (length cut_off)) place end)
    (λ b left g.
    record {
      bytes = g.bytes;
      indirect = g.indirect;
      at = g.at;
      same =
          resizing-growth b place end g.bytes g.indirect (file-is laws size b way place g.bytes g.indirect g.at.holds) g.within g.marks ∙ g.same;
      next = g.next;
    })
    rest))
  where
    as-many : (long end : ℕ) → blocks_of long ≤ blocks_of end → blocks_of (min end long) ≡ blocks_of long
    as-many long end le = omega arith

    same-end : (long end : ℕ) → end < long → blocks_of long ≤ blocks_of end → blocks_of end ≡ blocks_of long
    same-end long end less le = omega arith

    at-most : (a b : ℕ) → min a b ≤ a
    at-most a b = omega arith

-- behind the blocks that are given back
sizing-unmark : ChangesAreActs → (size : ℕ) (s : FileSystem) (way : List ℕ) (place : ℕ) (total end : ℕ) (byte : ℕ → ℕ) (bytes : List ℕ)
    (indirect : Bool) (n : ℕ) → At size s way place total byte bytes indirect → blocks_of (length bytes) ≡ n → n ≤ blocks_of end →
    end ≤ MAXFILESIZE → blocks_taken end (needs_indirect end) ≤ total → (needs : Bool) → needs_indirect end ≡ needs →
    AlwaysTo (Sizing size s way place total end) byte ((if needs then [] else give_indirect place ∷ []) ++ cutting place end n)
sizing-unmark laws size s way place total end byte bytes indirect n at count few short fits true needs_is =
    sizing-cut laws size s way place total end byte bytes indirect n at count few short fits (or-true indirect (needs_indirect end) needs_is)
  where
    or-true : (a b : Bool) → b ≡ true → (a || b) ≡ b
    or-true true b e = sym e
    or-true false b e = refl
sizing-unmark laws size s way place total end byte bytes indirect n at count few short fits false needs_is =
    let P : (ℕ → ℕ) → List Change → Type 0 = Sizing size s way place total end in
    let is = file-is laws size byte way place bytes indirect at.holds in
    let turns : Turns size byte way place (give_indirect place ∷ []) (a_file bytes false) =
    turns-one size byte way place (a_file bytes indirect) (a_file bytes false) (give_indirect place) at.holds
    (laws.given_indirect size byte way place (a_file bytes indirect) at.holds
    (subst (λ (k : ℕ). blocks_of k ≤ NDIRECT) is.long
    (at-most-ten (blocks_of (length bytes)) n (blocks_of end) count few (not-needed end needs_is)))) in
    always-more P byte (give_indirect place) (cutting place end n)
    (record {
      bytes = bytes;
      indirect = indirect;
      at = at;
      same =
          ap (λ (l : List Change). puts_in_turn l byte)
          (resizing-is byte place end n bytes indirect is count
          ∙ few-given n (blocks_of end) (unmarking place end) (cutting place end n) (give_block place) few
          ∙ ap (λ (b : Bool). (if b then [] else give_indirect place ∷ []) ++ cutting place end n) needs_is);
      next =
          at-within size s way place total byte bytes indirect (give_indirect place) (cutting place end n) at
          (give-indirect-within byte place (at-placed size s way place total byte bytes indirect at));
    })
    (sizing-cut laws size s way place total end (left_by (give_indirect place ∷ []) byte) bytes false n
    (at-next laws size s way place total byte bytes bytes indirect false (give_indirect place) at turns) count few short fits refl)
  where
    at-most-ten : (a n m : ℕ) → a ≡ n → n ≤ m → m ≤ 10 → a ≤ 10
    at-most-ten a n m e le ten = omega arith

-- on the way to any size
sizing-gives : ChangesAreActs → (size : ℕ) (s : FileSystem) (way : List ℕ) (place : ℕ) (total end : ℕ) (j : ℕ) (byte : ℕ → ℕ) (bytes : List ℕ)
    (indirect : Bool) (n : ℕ) → At size s way place total byte bytes indirect → blocks_of (length bytes) ≡ n → n - blocks_of end ≡ j →
    end ≤ MAXFILESIZE → blocks_taken end (needs_indirect end) ≤ total →
    AlwaysTo (Sizing size s way place total end) byte (replicate j (give_block place) ++ unmarking place end ++ cutting place end n)
sizing-gives laws size s way place total end zero byte bytes indirect n at count less short fits =
    sizing-unmark laws size s way place total end byte bytes indirect n at count (omega arith) short fits (needs_indirect end) refl
sizing-gives laws size s way place total end (suc j) byte bytes indirect n at count less short fits =
    let P : (ℕ → ℕ) → List Change → Type 0 = Sizing size s way place total end in
    let is = file-is laws size byte way place bytes indirect at.holds in
    let cut_off : List ℕ = take (BLKSIZE * (blocks_of (length bytes) - 1)) bytes in
    let now : ℕ → ℕ = left_by (give_block place ∷ []) byte in
    let turns : Turns size byte way place (give_block place ∷ []) (a_file cut_off indirect) =
    turns-one size byte way place (a_file bytes indirect) (a_file cut_off indirect) (give_block place) at.holds
    (laws.given_blocks size byte way place bytes indirect at.holds (some-bytes (length bytes) n (blocks_of end) j count less)) in
    let long : length cut_off ≡ min (BLKSIZE * (blocks_of (length bytes) - 1)) (length bytes) =
    length-take (BLKSIZE * (blocks_of (length bytes) - 1)) bytes in
    let blocks : blocks_of (length cut_off) ≡ n - 1 =
    ap (λ (k : ℕ). blocks_of k) long ∙ one-less-now (length bytes) n (blocks_of end) j count less in
    let rest =
    sizing-gives laws size s way place total end j now cut_off indirect (n - 1)
    (at-next laws size s way place total byte bytes cut_off indirect indirect (give_block place) at turns) blocks
    (fewer n (blocks_of end) j less) short fits in
    let same_cutting : cutting place end (n - 1) ≡ cutting place end n =
    λ i. cut place end ∷ fill place (most n end j less i) ∷ take_blocks (none n (blocks_of end) j less i) place end in
    always-more P byte (give_block place) (replicate j (give_block place) ++ unmarking place end ++ cutting place end n)
    (record {
      bytes = bytes;
      indirect = indirect;
      at = at;
      same =
          ap (λ (l : List Change). puts_in_turn l byte)
          (resizing-is byte place end n bytes indirect is count
          ∙ ap (λ (k : ℕ). replicate k (give_block place) ++ unmarking place end ++ cutting place end n) less);
      next =
          at-within size s way place total byte bytes indirect (give_block place)
          (replicate j (give_block place) ++ unmarking place end ++ cutting place end n) at
          (give-block-within byte place (at-placed size s way place total byte bytes indirect at)
          (subst (λ (k : ℕ). 0 < blocks_of k) is.long (some-blocks (length bytes) n (blocks_of end) j count less)));
    })
    (subst (λ (l : List Change). AlwaysTo P now (replicate j (give_block place) ++ unmarking place end ++ l)) same_cutting rest)
  where
    some-blocks : (long n m j : ℕ) → blocks_of long ≡ n → n - m ≡ suc j → 0 < blocks_of long
    some-blocks long n m j count_ less_ = omega arith

    some-bytes : (long n m j : ℕ) → blocks_of long ≡ n → n - m ≡ suc j → 0 < long
    some-bytes long n m j count_ less_ = omega arith

    one-less-now : (long n m j : ℕ) → blocks_of long ≡ n → n - m ≡ suc j → blocks_of (min (4096 * (blocks_of long - 1)) long) ≡ n - 1
    one-less-now long n m j count_ less_ = omega arith

    fewer : (n m j : ℕ) → n - m ≡ suc j → n - 1 - m ≡ j
    fewer n m j less_ = omega arith

    most : (n end j : ℕ) → n - blocks_of end ≡ suc j → min end (4096 * (n - 1)) ≡ min end (4096 * n)
    most n end j less_ = omega arith

    none : (n m j : ℕ) → n - m ≡ suc j → m - (n - 1) ≡ m - n
    none n m j less_ = omega arith

pub sizing : ChangesAreActs → (size : ℕ) (s : FileSystem) (way : List ℕ) (place : ℕ) (total end : ℕ) (byte : ℕ → ℕ) (bytes : List ℕ)
    (indirect : Bool) → At size s way place total byte bytes indirect → end ≤ MAXFILESIZE →
    blocks_taken end (needs_indirect end) ≤ total → AlwaysTo (Sizing size s way place total end) byte (resizing byte place end)
sizing laws size s way place total end byte bytes indirect at short fits =
    let n : ℕ = blocks_of (length bytes) in
    subst (AlwaysTo (Sizing size s way place total end) byte)
    (sym (resizing-is byte place end n bytes indirect (file-is laws size byte way place bytes indirect at.holds) refl))
    (sizing-gives laws size s way place total end (n - blocks_of end) byte bytes indirect n at refl refl short fits)
