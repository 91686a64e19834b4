-- Blocks of a file that are given back and taken, one after another, up to the size that was asked for.
use Rattle.std.proofs.Common.{◌≡◌, ◌∙◌, ◌+◌, ◌-◌, ◌*◌, ◌%◌, ◌<◌, ◌≤◌, ◌⊎◌, inl, inr, ℕ, zero, suc, Bool, true, false, List, [], ◌∷◌, ◌++◌}
use Rattle.std.proofs.Common.{length, refl, sym, ap, subst, arith, min}
use Rattle.std.specs.Prelude.{◌||◌, ◌&&◌, nat_lt, take, replicate, if◌then◌else◌}
use Rattle.std.proofs.lemmas.Bool.{cases_lt}
use Rattle.std.proofs.lemmas.Bool.Decides.{nat_tests}
use Rattle.std.proofs.lemmas.List.{take_all, take-take, length-take}
use Rattle.fs_layout.specs.declared.numbers.TheConstants.{BLKSIZE, MAXFILESIZE, NDIRECT}
use Rattle.fs_layout.specs.FileTree.{Node, a_file, blocks_of, needs_indirect, blocks_taken, tree_blocks}
use Rattle.fs_layout.specs.FileActs.{resized}
use Rattle.fs_layout.specs.DiskImage.{size_of, has_indirect, blocks_needed}
use Rattle.fs_layout.specs.DiskFiles.{file_system_of, free_blocks}
use Rattle.fs_layout.proofs.FileBytes.{length-resized}
use Rattle.fs_acts.specs.BlockActs.{Change, cut, fill, take_indirect, take_block, give_block, give_indirect, take_blocks, growth, resizing}
use Rattle.fs_acts.specs.BlockLaws.{Holds, HasRoom}
use Rattle.fs_acts.proofs.Trees.{put-again}
use Rattle.fs_acts.proofs.ComposedBytes.{resized-same, resized-twice, resized-take}
use Rattle.fs_acts.proofs.ComposedSteps.{ChangesAreActs, left_by, Turns, turned, turns-one, turns-append, turns-idle, turns-none, blocks-kept}
use Rattle.fs_acts.proofs.ComposedRecords.{file-is}

-- ---- the same file under another name

pub renamed : {size : ℕ} {byte : ℕ → ℕ} {way : List ℕ} {place : ℕ} {changes : List Change} (bytes other : List ℕ) (indirect mark : Bool) →
    Turns size byte way place changes (a_file bytes indirect) → bytes ≡ other → indirect ≡ mark →
    Turns size byte way place changes (a_file other mark)
renamed {size} {byte} {way} {place} {changes} bytes other indirect mark turns e f =
    subst (λ (b : Bool). Turns size byte way place changes (a_file other b)) f
    (subst (λ (l : List ℕ). Turns size byte way place changes (a_file l indirect)) e turns)

-- a change without puts, and no change
pub idle : (size : ℕ) (byte : ℕ → ℕ) (way : List ℕ) (place : ℕ) (node : Node) (change : Change) →
    Holds size byte way place node → change byte ≡ [] → Turns size byte way place (change ∷ []) node
idle size byte way place node change holds none =
    turns-idle size byte way place node change holds none (put-again (file_system_of byte) way node holds.is)

pub nothing : (size : ℕ) (byte : ℕ → ℕ) (way : List ℕ) (place : ℕ) (node : Node) → Holds size byte way place node →
    Turns size byte way place [] node
nothing size byte way place node holds =
    turns-none size byte way place node holds (put-again (file_system_of byte) way node holds.is)

-- ---- blocks that are given back

one-less : (n k : ℕ) → suc k ≤ blocks_of n → blocks_of (min (4096 * (blocks_of n - 1)) n) ≡ blocks_of n - 1
one-less n k more = omega arith

pub gives : ChangesAreActs → (size : ℕ) (k : ℕ) (byte : ℕ → ℕ) (way : List ℕ) (place : ℕ) (bytes : List ℕ) (indirect : Bool) →
    Holds size byte way place (a_file bytes indirect) → k ≤ blocks_of (length bytes) →
    Turns size byte way place (replicate k (give_block place)) (a_file (take (BLKSIZE * (blocks_of (length bytes) - k)) bytes) indirect)
gives laws size zero byte way place bytes indirect holds within =
    renamed bytes (take (BLKSIZE * (blocks_of (length bytes) - 0)) bytes) indirect indirect
    (nothing size byte way place (a_file bytes indirect) holds)
    (sym (take_all (BLKSIZE * (blocks_of (length bytes) - 0)) bytes (omega arith))) refl
gives laws size (suc k) byte way place bytes indirect holds within =
    let n : ℕ = length bytes in
    let cut_off : List ℕ = take (BLKSIZE * (blocks_of n - 1)) bytes in
    let one : Turns size byte way place (give_block place ∷ []) (a_file cut_off indirect) =
    turns-one size byte way place (a_file bytes indirect) (a_file cut_off indirect) (give_block place) holds
    (laws.given_blocks size byte way place bytes indirect holds (omega arith)) in
    let long : length cut_off ≡ min (BLKSIZE * (blocks_of n - 1)) n = length-take (BLKSIZE * (blocks_of n - 1)) bytes in
    let left : blocks_of (length cut_off) ≡ blocks_of n - 1 = ap (λ (m : ℕ). blocks_of m) long ∙ one-less n k within in
    let rest =
    gives laws size k (left_by (give_block place ∷ []) byte) way place cut_off indirect (turned one) (omega (arith, left, within)) in
    let steps : blocks_of n - 1 - k ≡ blocks_of n - suc k = omega arith in
    let below : BLKSIZE * (blocks_of n - suc k) ≤ BLKSIZE * (blocks_of n - 1) = omega arith in
    let same : take (BLKSIZE * (blocks_of (length cut_off) - k)) cut_off ≡ take (BLKSIZE * (blocks_of n - suc k)) bytes =
    ap (λ (m : ℕ). take (BLKSIZE * (m - k)) cut_off) left
    ∙ ap (λ (m : ℕ). take (BLKSIZE * m) cut_off) steps
    ∙ take-take (BLKSIZE * (blocks_of n - suc k)) (BLKSIZE * (blocks_of n - 1)) bytes below in
    renamed (take (BLKSIZE * (blocks_of (length cut_off) - k)) cut_off) (take (BLKSIZE * (blocks_of n - suc k)) bytes) indirect indirect
    (turns-append size byte way place (a_file cut_off indirect) (a_file (take (BLKSIZE * (blocks_of (length cut_off) - k)) cut_off) indirect)
    (give_block place ∷ []) (replicate k (give_block place)) one rest)
    same refl

-- ---- whether an indirect block is there

-- it is there where it is needed
pub or-needed : (indirect : Bool) (n : ℕ) → (NDIRECT < blocks_of n → indirect ≡ true) → (indirect || needs_indirect n) ≡ indirect
or-needed true n needed = refl
or-needed false n needed = none (needs_indirect n) refl
  where
    none : (b : Bool) → needs_indirect n ≡ b → b ≡ false
    none false e = refl
    none true e = let more : 10 < blocks_of n = grind (arith, nat_tests) in absurd (cc (needed more))

-- a greater size needs it too
pub or-later : (indirect : Bool) (n m : ℕ) → n ≤ m →
    ((indirect || needs_indirect n) || needs_indirect m) ≡ (indirect || needs_indirect m)
or-later true n m le = refl
or-later false n m le = later (needs_indirect n) refl
  where
    later : (b : Bool) → needs_indirect n ≡ b → (b || needs_indirect m) ≡ needs_indirect m
    later false e = refl
    later true e =
        let more : 10 < blocks_of n = grind (arith, nat_tests) in
        let most : 10 < blocks_of m = omega arith in
        grind (arith, nat_tests)

needs-more : (indirect : Bool) (n : ℕ) → NDIRECT < blocks_of n → (indirect || needs_indirect n) ≡ true
needs-more true n more = refl
needs-more false n more = grind (arith, nat_tests)

-- ---- a block that is taken

-- Of a file: the blocks that it needs for a size and those of an indirect block fit.
abbrev pub HasFree : (ℕ → ℕ) → List ℕ → Bool → ℕ → Type 0
HasFree byte bytes indirect end =
    blocks_taken end (indirect || needs_indirect end) ≤ blocks_taken (length bytes) indirect + free_blocks byte

-- the blocks of a file and the free ones stay as many
pub file-kept : ChangesAreActs → (size : ℕ) (byte : ℕ → ℕ) (way : List ℕ) (place : ℕ) (old new : List ℕ) (indirect mark : Bool)
    (changes : List Change) → Holds size byte way place (a_file old indirect) → Turns size byte way place changes (a_file new mark) →
    blocks_taken (length new) mark + free_blocks (left_by changes byte) ≡ blocks_taken (length old) indirect + free_blocks byte
unfolding tree_blocks
file-kept laws size byte way place old new indirect mark changes holds turns =
    blocks-kept laws size byte way place (a_file old indirect) (a_file new mark) changes holds turns

-- The indirect block comes where one more block needs it.
pub record Marked (size : ℕ) (byte : ℕ → ℕ) (way : List ℕ) (place : ℕ) (bytes : List ℕ) (indirect : Bool) : Type 0 where
  pub mark : Bool
  pub turns : Turns size byte way place (take_indirect place ∷ []) (a_file bytes mark)
  pub is : mark ≡ (indirect || nat_lt NDIRECT (blocks_of (length bytes) + 1))

pub or-there : (few mark : Bool) → mark ≡ true → (few || mark) ≡ true
or-there true mark e = refl
or-there false mark e = e

-- no puts, since there is an indirect block, or there are too few blocks
pub unmarked : (byte : ℕ → ℕ) (place : ℕ) → has_indirect byte place ≡ true → take_indirect place byte ≡ []
unfolding take_indirect
unmarked byte place e = rw (or-there (nat_lt (blocks_needed byte place) NDIRECT) (has_indirect byte place) e) refl

pub few-blocks : (byte : ℕ → ℕ) (place : ℕ) → blocks_needed byte place < NDIRECT → take_indirect place byte ≡ []
unfolding take_indirect
few-blocks byte place few =
    let e : nat_lt (blocks_needed byte place) NDIRECT ≡ true = grind (arith, nat_tests) in
    rw e refl

pub more-blocks : (n m : ℕ) → n % 4096 ≡ 0 → n < m → blocks_of n < blocks_of m
more-blocks n m whole more = omega arith

pub some-free : (b e x free : ℕ) → b < e → e + x ≤ b + 0 + free → 0 < free
some-free b e x free more fits = omega arith

marking : ChangesAreActs → (size : ℕ) (byte : ℕ → ℕ) (way : List ℕ) (place : ℕ) (bytes : List ℕ) (indirect : Bool) (end : ℕ) →
    Holds size byte way place (a_file bytes indirect) → length bytes % BLKSIZE ≡ 0 → length bytes < end →
    (NDIRECT < blocks_of (length bytes) → indirect ≡ true) → HasFree byte bytes indirect end →
    Marked size byte way place bytes indirect
marking laws size byte way place bytes true end holds whole more needed free =
    let is = file-is laws size byte way place bytes true holds in
    record { mark = true; turns = idle size byte way place (a_file bytes true) (take_indirect place) holds (unmarked byte place is.mark); is = refl }
marking laws size byte way place bytes false end holds whole more needed free =
    let is = file-is laws size byte way place bytes false holds in
    let same : blocks_needed byte place ≡ blocks_of (length bytes) = ap (λ (n : ℕ). blocks_of n) (sym is.long) in
    by_blocks (cases_lt (blocks_of (length bytes)) 10) same
  where
    by_blocks : (blocks_of (length bytes) < 10) ⊎ (10 ≤ blocks_of (length bytes)) → blocks_needed byte place ≡ blocks_of (length bytes) →
        Marked size byte way place bytes false
    by_blocks (inl few) same =
        record {
          mark = false;
          turns = idle size byte way place (a_file bytes false) (take_indirect place) holds (few-blocks byte place (omega (arith, same, few)));
          is = grind (arith, nat_tests);
        }
    by_blocks (inr many) same =
        let ten : blocks_needed byte place ≡ NDIRECT = ten_blocks (cases_lt 10 (blocks_of (length bytes))) in
        let some : 0 < free_blocks byte =
        some-free (blocks_of (length bytes)) (blocks_of end) (if false || needs_indirect end then 1 else 0) (free_blocks byte)
        (more-blocks (length bytes) end whole more) free in
        record {
          mark = true;
          turns =
              turns-one size byte way place (a_file bytes false) (a_file bytes true) (take_indirect place) holds
              (laws.taken_indirect size byte way place (a_file bytes false) holds ten some);
          is = grind (arith, nat_tests);
        }
      where
        ten_blocks : (10 < blocks_of (length bytes)) ⊎ (blocks_of (length bytes) ≤ 10) → blocks_needed byte place ≡ 10
        ten_blocks (inl past) = absurd (cc (needed past))
        ten_blocks (inr most) = omega arith

-- One is free for the block itself, behind the indirect block.
pub room-left : (indirect mark grown : Bool) (b e free now : ℕ) → b < e → (mark ≡ true → (indirect || grown) ≡ true) →
    e + (if indirect || grown then 1 else 0) ≤ b + (if indirect then 1 else 0) + free →
    b + (if mark then 1 else 0) + now ≡ b + (if indirect then 1 else 0) + free → 0 < now
room-left indirect false grown b e free now more is fits kept = omega arith
room-left indirect true grown b e free now more is fits kept =
    let one : ◌≡◌ {A = ℕ} (if indirect || grown then 1 else 0) 1 = ap {B = ℕ} (λ (x : Bool). if x then 1 else 0) (is refl) in
    omega arith

pub mark-grows : (indirect mark : Bool) (b e : ℕ) → b < e → mark ≡ (indirect || nat_lt 10 (b + 1)) → mark ≡ true →
    (indirect || nat_lt 10 e) ≡ true
mark-grows true mark b e more is so = refl
mark-grows false mark b e more is so = let past : nat_lt 10 (b + 1) ≡ true = sym is ∙ so in grind (arith, nat_tests)

pub mark-counted : (indirect mark : Bool) (b : ℕ) → mark ≡ (indirect || nat_lt 10 (b + 1)) → (b < 10) ⊎ (mark ≡ true)
mark-counted true mark b is = inr is
mark-counted false mark b is = by (cases_lt b 10)
  where
    by : (b < 10) ⊎ (10 ≤ b) → (b < 10) ⊎ (mark ≡ true)
    by (inl few) = inl few
    by (inr many) = let past : nat_lt 10 (b + 1) ≡ true = grind (arith, nat_tests) in inr (is ∙ past)

pub one-more : (n end : ℕ) → n % 4096 ≡ 0 → n < end → blocks_of (min end (n + 4096)) ≡ blocks_of n + 1
one-more n end whole more = omega arith

-- one block, after its indirect block where that is wanted
pub record TakesOne (size : ℕ) (byte : ℕ → ℕ) (way : List ℕ) (place : ℕ) (bytes : List ℕ) (indirect : Bool) (end : ℕ) : Type 0 where
  pub first : Marked size byte way place bytes indirect
  pub second :
      Turns size (left_by (take_indirect place ∷ []) byte) way place (take_block place end ∷ [])
      (a_file (resized bytes (min end (length bytes + BLKSIZE))) first.mark)

pub takes-both : ChangesAreActs → (size : ℕ) (byte : ℕ → ℕ) (way : List ℕ) (place : ℕ) (bytes : List ℕ) (indirect : Bool) (end : ℕ) →
    Holds size byte way place (a_file bytes indirect) → length bytes % BLKSIZE ≡ 0 → length bytes < end → end ≤ MAXFILESIZE →
    (NDIRECT < blocks_of (length bytes) → indirect ≡ true) → HasFree byte bytes indirect end →
    TakesOne size byte way place bytes indirect end
takes-both laws size byte way place bytes indirect end holds whole more short needed free =
    let most : ℕ = min end (length bytes + BLKSIZE) in
    let first = marking laws size byte way place bytes indirect end holds whole more needed free in
    let now : ℕ → ℕ = left_by (take_indirect place ∷ []) byte in
    let next : Holds size now way place (a_file bytes first.mark) = turned first.turns in
    let is = file-is laws size now way place bytes first.mark next in
    let above : blocks_of (length bytes) < blocks_of end = more-blocks (length bytes) end whole more in
    let kept = file-kept laws size byte way place bytes bytes indirect first.mark (take_indirect place ∷ []) holds first.turns in
    let counted : (blocks_of (length bytes) < NDIRECT) ⊎ (has_indirect now place ≡ true) =
    subst (λ (b : Bool). (blocks_of (length bytes) < NDIRECT) ⊎ (b ≡ true)) (sym is.mark)
    (mark-counted indirect first.mark (blocks_of (length bytes)) first.is) in
    let room : HasRoom now place (length bytes) end =
    record {
      whole = whole;
      more = more;
      short = short;
      counted = counted;
      free =
          room-left indirect first.mark (needs_indirect end) (blocks_of (length bytes)) (blocks_of end) (free_blocks byte)
          (free_blocks now) above
          (mark-grows indirect first.mark (blocks_of (length bytes)) (blocks_of end) above first.is) free kept;
    } in
    record {
      first = first;
      second =
          turns-one size now way place (a_file bytes first.mark) (a_file (resized bytes most) first.mark) (take_block place end) next
          (laws.taken_blocks size now way place bytes first.mark end next room);
    }

takes-one : ChangesAreActs → (size : ℕ) (byte : ℕ → ℕ) (way : List ℕ) (place : ℕ) (bytes : List ℕ) (indirect : Bool) (end : ℕ) →
    Holds size byte way place (a_file bytes indirect) → length bytes % BLKSIZE ≡ 0 → length bytes < end → end ≤ MAXFILESIZE →
    (NDIRECT < blocks_of (length bytes) → indirect ≡ true) → HasFree byte bytes indirect end →
    let most : ℕ = min end (length bytes + BLKSIZE) in
    Turns size byte way place (take_indirect place ∷ take_block place end ∷ [])
    (a_file (resized bytes most) (indirect || needs_indirect most))
takes-one laws size byte way place bytes indirect end holds whole more short needed free =
    let most : ℕ = min end (length bytes + BLKSIZE) in
    let both = takes-both laws size byte way place bytes indirect end holds whole more short needed free in
    let mark : Bool = both.first.mark in
    renamed (resized bytes most) (resized bytes most) mark (indirect || needs_indirect most)
    (turns-append size byte way place (a_file bytes mark) (a_file (resized bytes most) mark)
    (take_indirect place ∷ []) (take_block place end ∷ []) both.first.turns both.second)
    refl
    (both.first.is ∙ ap (λ (n : ℕ). indirect || nat_lt NDIRECT n) (sym (one-more (length bytes) end whole more)))

-- ---- blocks that are taken

-- the blocks that fit still fit when some are taken
pub still-free : (all part : ℕ) (w t now before : ℕ) → w ≤ t + before → all + now ≡ t + before → part ≡ all → w ≤ part + now
still-free all part w t now before fits kept e = omega arith

pub needed-later : (indirect : Bool) (n m : ℕ) → n ≡ m → NDIRECT < blocks_of n → (indirect || needs_indirect m) ≡ true
needed-later true n m e more = refl
needed-later false n m e more = let past : 10 < blocks_of m = subst (λ (k : ℕ). 10 < blocks_of k) e more in grind (arith, nat_tests)

-- so many blocks more, where all of the file's are full
pub takes : ChangesAreActs → (size : ℕ) (n : ℕ) (byte : ℕ → ℕ) (way : List ℕ) (place : ℕ) (bytes : List ℕ) (indirect : Bool) (end : ℕ) →
    Holds size byte way place (a_file bytes indirect) → length bytes ≡ min end (BLKSIZE * blocks_of (length bytes)) →
    blocks_of (length bytes) + n ≡ blocks_of end → end ≤ MAXFILESIZE → (NDIRECT < blocks_of (length bytes) → indirect ≡ true) →
    HasFree byte bytes indirect end →
    Turns size byte way place (take_blocks n place end) (a_file (resized bytes end) (indirect || needs_indirect end))
unfolding take_blocks
takes laws size zero byte way place bytes indirect end holds full count short needed free =
    let long : length bytes ≡ end = omega arith in
    renamed bytes (resized bytes end) indirect (indirect || needs_indirect end)
    (nothing size byte way place (a_file bytes indirect) holds)
    (sym (resized-same bytes end long))
    (sym (or-needed indirect end (λ more. needed (subst (λ (k : ℕ). NDIRECT < blocks_of k) (sym long) more))))
takes laws size (suc n) byte way place bytes indirect end holds full count short needed free =
    let long : ℕ = length bytes in
    let most : ℕ = min end (long + BLKSIZE) in
    let whole : long % BLKSIZE ≡ 0 = omega arith in
    let more : long < end = omega arith in
    let now : List ℕ = resized bytes most in
    let mark : Bool = indirect || needs_indirect most in
    let one = takes-one laws size byte way place bytes indirect end holds whole more short needed free in
    let pair : List Change = take_indirect place ∷ take_block place end ∷ [] in
    let grown : length now ≡ most = length-resized bytes most in
    let after : blocks_of most ≡ blocks_of long + 1 = one-more long end whole more in
    let kept = file-kept laws size byte way place bytes now indirect mark pair holds one in
    let same : (mark || needs_indirect end) ≡ (indirect || needs_indirect end) = or-later indirect most end (omega arith) in
    let fits : HasFree (left_by pair byte) now mark end =
    subst (λ (b : Bool). blocks_taken end b ≤ blocks_taken (length now) mark + free_blocks (left_by pair byte)) (sym same)
    (still-free (blocks_taken (length now) mark) (blocks_taken (length now) mark) (blocks_taken end (indirect || needs_indirect end))
    (blocks_taken long indirect) (free_blocks (left_by pair byte)) (free_blocks byte) free kept refl) in
    let rest =
    takes laws size n (left_by pair byte) way place now mark end (turned one) (full_again long end most (length now) grown whole more)
    (count_again long end most (length now) n grown after count) short
    (needed-later indirect (length now) most grown) fits in
    renamed (resized now end) (resized bytes end) (mark || needs_indirect end) (indirect || needs_indirect end)
    (turns-append size byte way place (a_file now mark) (a_file (resized now end) (mark || needs_indirect end)) pair
    (take_blocks n place end) one rest)
    (resized-twice bytes most end (omega arith) (omega arith)) same
  where
    full_again : (long end most now : ℕ) → now ≡ min end (long + 4096) → long % 4096 ≡ 0 → long < end →
        now ≡ min end (4096 * blocks_of now)
    full_again long end most now grown whole more = omega arith

    count_again : (long end most now n : ℕ) → now ≡ most → blocks_of most ≡ blocks_of long + 1 → blocks_of long + suc n ≡ blocks_of end →
        blocks_of now + n ≡ blocks_of end
    count_again long end most now n grown after count = ap (λ (k : ℕ). blocks_of k + n) grown ∙ ap (λ (k : ℕ). k + n) after ∙ (omega arith ∙ count)

-- ---- another size

-- zeros up to the end, or up to that of the last block, and then the blocks that are missing
fills-and-takes : ChangesAreActs → (size : ℕ) (byte : ℕ → ℕ) (way : List ℕ) (place : ℕ) (bytes : List ℕ) (indirect : Bool) (n end : ℕ) →
    Holds size byte way place (a_file bytes indirect) → end ≤ MAXFILESIZE → HasFree byte bytes indirect end →
    length bytes ≤ min end (BLKSIZE * n) → blocks_of (min end (BLKSIZE * n)) ≡ blocks_of (length bytes) →
    blocks_of (length bytes) + (blocks_of end - n) ≡ blocks_of end →
    min end (BLKSIZE * n) ≡ min end (BLKSIZE * blocks_of (length bytes)) →
    Turns size byte way place (fill place (min end (BLKSIZE * n)) ∷ take_blocks (blocks_of end - n) place end)
    (a_file (resized bytes end) (indirect || needs_indirect end))
fills-and-takes laws size byte way place bytes indirect n end holds short free more same count full =
    let most : ℕ = min end (BLKSIZE * n) in
    let filled : List ℕ = resized bytes most in
    let is = file-is laws size byte way place bytes indirect holds in
    let one : Turns size byte way place (fill place most ∷ []) (a_file filled indirect) =
    turns-one size byte way place (a_file bytes indirect) (a_file filled indirect) (fill place most) holds
    (laws.fills size byte way place bytes indirect holds most more same) in
    let grown : length filled ≡ most = length-resized bytes most in
    let blocks : blocks_of (length filled) ≡ blocks_of (length bytes) = ap (λ (k : ℕ). blocks_of k) grown ∙ same in
    let kept = file-kept laws size byte way place bytes filled indirect indirect (fill place most ∷ []) holds one in
    let rest =
    takes laws size (blocks_of end - n) (left_by (fill place most ∷ []) byte) way place filled indirect end (turned one)
    (grown ∙ full ∙ ap (λ (k : ℕ). min end (BLKSIZE * k)) (sym blocks))
    (ap (λ (k : ℕ). k + (blocks_of end - n)) blocks ∙ count) short
    (λ above. is.needed (subst (λ (k : ℕ). NDIRECT < k) blocks above))
    (still-free (blocks_taken (length filled) indirect) (blocks_taken (length filled) indirect)
    (blocks_taken end (indirect || needs_indirect end)) (blocks_taken (length bytes) indirect)
    (free_blocks (left_by (fill place most ∷ []) byte)) (free_blocks byte) free kept refl) in
    renamed (resized filled end) (resized bytes end) (indirect || needs_indirect end) (indirect || needs_indirect end)
    (turns-append size byte way place (a_file filled indirect) (a_file (resized filled end) (indirect || needs_indirect end))
    (fill place most ∷ []) (take_blocks (blocks_of end - n) place end) one rest)
    (resized-twice bytes most end more (omega arith)) refl

-- growth of a file
pub grows : ChangesAreActs → (size : ℕ) (byte : ℕ → ℕ) (way : List ℕ) (place : ℕ) (bytes : List ℕ) (indirect : Bool) (end : ℕ) →
    Holds size byte way place (a_file bytes indirect) → length bytes ≤ end → end ≤ MAXFILESIZE → HasFree byte bytes indirect end →
    Turns size byte way place (growth byte place end) (a_file (resized bytes end) (indirect || needs_indirect end))
unfolding growth
grows laws size byte way place bytes indirect end holds more short free =
    let is = file-is laws size byte way place bytes indirect holds in
    let own : blocks_of (length bytes) ≡ blocks_needed byte place = ap (λ (k : ℕ). blocks_of k) is.long in
    let at_first : ℕ = blocks_of (length bytes) in
    subst (λ (n : ℕ). Turns size byte way place (fill place (min end (BLKSIZE * n)) ∷ take_blocks (blocks_of end - n) place end)
    (a_file (resized bytes end) (indirect || needs_indirect end))) own
    (fills-and-takes laws size byte way place bytes indirect at_first end holds short free (omega arith)
    (same_blocks (length bytes) end more) (missing_blocks (length bytes) end more) refl)
  where
    same_blocks : (n end : ℕ) → n ≤ end → blocks_of (min end (4096 * blocks_of n)) ≡ blocks_of n
    same_blocks n end more = omega arith

    missing_blocks : (n end : ℕ) → n ≤ end → blocks_of n + (blocks_of end - blocks_of n) ≡ blocks_of end
    missing_blocks n end more = omega arith

-- the size is cut off, or is not above the end
pub cuts-off : ChangesAreActs → (size : ℕ) (byte : ℕ → ℕ) (way : List ℕ) (place : ℕ) (bytes : List ℕ) (indirect : Bool) (end : ℕ) →
    Holds size byte way place (a_file bytes indirect) → (end < length bytes → blocks_of end ≡ blocks_of (length bytes)) →
    Turns size byte way place (cut place end ∷ []) (a_file (take end bytes) indirect)
unfolding cut
cuts-off laws size byte way place bytes indirect end holds same = by (cases_lt end (length bytes))
  where
    by : (end < length bytes) ⊎ (length bytes ≤ end) → Turns size byte way place (cut place end ∷ []) (a_file (take end bytes) indirect)
    by (inl less) =
        turns-one size byte way place (a_file bytes indirect) (a_file (take end bytes) indirect) (cut place end) holds
        (laws.cuts size byte way place bytes indirect holds end (omega arith) (same less))
    by (inr more) =
        let is = file-is laws size byte way place bytes indirect holds in
        let long : length bytes ≡ size_of byte place = is.long in
        let not_above : nat_lt end (size_of byte place) ≡ false = grind (arith, nat_tests, long, more) in
        renamed bytes (take end bytes) indirect indirect
        (idle size byte way place (a_file bytes indirect) (cut place end) holds (rw not_above refl))
        (sym (take_all end bytes more)) refl

-- the indirect block is given back where it isn't needed
pub unmarks : ChangesAreActs → (size : ℕ) (byte : ℕ → ℕ) (way : List ℕ) (place : ℕ) (bytes : List ℕ) (indirect needs : Bool) →
    Holds size byte way place (a_file bytes indirect) → (needs ≡ false → blocks_of (length bytes) ≤ NDIRECT) →
    Turns size byte way place (if needs then [] else give_indirect place ∷ []) (a_file bytes (indirect && needs))
unmarks laws size byte way place bytes indirect true holds few =
    renamed bytes bytes indirect (indirect && true) (nothing size byte way place (a_file bytes indirect) holds) refl (and_all indirect)
  where
    and_all : (b : Bool) → b ≡ (b && true)
    and_all true = refl
    and_all false = refl
unmarks laws size byte way place bytes indirect false holds few =
    let is = file-is laws size byte way place bytes indirect holds in
    renamed bytes bytes false (indirect && false)
    (turns-one size byte way place (a_file bytes indirect) (a_file bytes false) (give_indirect place) holds
    (laws.given_indirect size byte way place (a_file bytes indirect) holds
    (subst (λ (k : ℕ). blocks_of k ≤ NDIRECT) is.long (few refl)))) refl (and_none indirect)
  where
    and_none : (b : Bool) → false ≡ (b && false)
    and_none true = refl
    and_none false = refl

-- the bytes of the blocks that are left of so many bytes, when the blocks behind an end are given back
abbrev left_size : ℕ → ℕ → ℕ
left_size long end = 4096 * (blocks_of long - (blocks_of long - blocks_of end))

-- and how many of the bytes are left
abbrev left_bytes : ℕ → ℕ → ℕ
left_bytes long end = min (4096 * (blocks_of long - (blocks_of long - blocks_of end))) long

pub left-few : (long end : ℕ) → blocks_of end ≤ 10 → blocks_of (left_bytes long end) ≤ 10
left-few long end few = omega arith

left-cut : (long end : ℕ) → end < left_bytes long end → blocks_of end ≡ blocks_of (left_bytes long end)
left-cut long end less = omega arith

left-below : (long end : ℕ) → min end (left_bytes long end) ≤ min end (4096 * blocks_of long)
left-below long end = omega arith

left-same : (long end : ℕ) → blocks_of (min end (4096 * blocks_of long)) ≡ blocks_of (min end (left_bytes long end))
left-same long end = omega arith

left-missing : (long end : ℕ) → blocks_of (min end (left_bytes long end)) + (blocks_of end - blocks_of long) ≡ blocks_of end
left-missing long end = omega arith

left-full : (long end : ℕ) → min end (4096 * blocks_of long) ≡ min end (4096 * blocks_of (min end (left_bytes long end)))
left-full long end = omega arith

left-end : (long end : ℕ) → (end ≤ left_size long end) ⊎ (long ≤ left_size long end)
left-end long end = by (cases_lt (blocks_of end) (blocks_of long))
  where
    by : (blocks_of end < blocks_of long) ⊎ (blocks_of long ≤ blocks_of end) → (end ≤ left_size long end) ⊎ (long ≤ left_size long end)
    by (inl less) = inl (omega arith)
    by (inr more) = inr (omega arith)

-- what is cut off from what is left
take-left : (bytes : List ℕ) (end most : ℕ) → (end ≤ most) ⊎ (length bytes ≤ most) → take end (take most bytes) ≡ take end bytes
take-left bytes end most (inl within) = take-take end most bytes within
take-left bytes end most (inr whole) = ap (take end) (take_all most bytes whole)

pub needed-both : (indirect needs : Bool) → ((indirect && needs) || needs) ≡ needs
needed-both true true = refl
needed-both true false = refl
needed-both false true = refl
needed-both false false = refl

pub not-needed : (m : ℕ) → needs_indirect m ≡ false → blocks_of m ≤ 10
not-needed m none = grind (arith, nat_tests)

-- another size for a file
pub resizes : ChangesAreActs → (size : ℕ) (byte : ℕ → ℕ) (way : List ℕ) (place : ℕ) (bytes : List ℕ) (indirect : Bool) (end : ℕ) →
    Holds size byte way place (a_file bytes indirect) → end ≤ MAXFILESIZE →
    blocks_taken end (needs_indirect end) ≤ blocks_taken (length bytes) indirect + free_blocks byte →
    Turns size byte way place (resizing byte place end) (a_file (resized bytes end) (needs_indirect end))
unfolding resizing growth
resizes laws size byte way place bytes indirect end holds short free =
    let is = file-is laws size byte way place bytes indirect holds in
    let own : blocks_of (length bytes) ≡ blocks_needed byte place = ap (λ (k : ℕ). blocks_of k) is.long in
    subst (λ (n : ℕ). Turns size byte way place
    (replicate (n - blocks_of end) (give_block place) ++ (if needs_indirect end then [] else give_indirect place ∷ [])
    ++ cut place end ∷ fill place (min end (BLKSIZE * n)) ∷ take_blocks (blocks_of end - n) place end)
    (a_file (resized bytes end) (needs_indirect end))) own
    steps
  where
    steps : Turns size byte way place
        (replicate (blocks_of (length bytes) - blocks_of end) (give_block place)
        ++ (if needs_indirect end then [] else give_indirect place ∷ [])
        ++ cut place end ∷ fill place (min end (BLKSIZE * blocks_of (length bytes))) ∷ take_blocks (blocks_of end - blocks_of (length bytes))
        place end)
        (a_file (resized bytes end) (needs_indirect end))
    steps =
        let n : ℕ = blocks_of (length bytes) in
        let k : ℕ = n - blocks_of end in
        let needs : Bool = needs_indirect end in
        let mark : Bool = indirect && needs in
        let those : List Change = replicate k (give_block place) in
        let its : List Change = if needs then [] else give_indirect place ∷ [] in
        let left : List ℕ = take (BLKSIZE * (n - k)) bytes in
        let short_of : List ℕ = take end left in
        let left_is : length left ≡ left_bytes (length bytes) end = length-take (BLKSIZE * (n - k)) bytes in
        let cut_is : length short_of ≡ min end (left_bytes (length bytes) end) = length-take end left ∙ ap (min end) left_is in
        let one : Turns size byte way place those (a_file left indirect) =
        gives laws size k byte way place bytes indirect holds (omega arith) in
        let two : Turns size (left_by those byte) way place its (a_file left mark) =
        unmarks laws size (left_by those byte) way place left indirect needs (turned one)
        (λ none.
        subst (λ (m : ℕ). blocks_of m ≤ 10) (sym left_is)
        (left-few (length bytes) end (not-needed end none))) in
        let both : Turns size byte way place (those ++ its) (a_file left mark) =
        turns-append size byte way place (a_file left indirect) (a_file left mark) those its one two in
        let now : ℕ → ℕ = left_by (those ++ its) byte in
        let three : Turns size now way place (cut place end ∷ []) (a_file short_of mark) =
        cuts-off laws size now way place left mark end (turned both)
        (λ less.
        subst (λ (m : ℕ). blocks_of end ≡ blocks_of m) (sym left_is)
        (left-cut (length bytes) end (subst (λ (m : ℕ). end < m) left_is less))) in
        let last : ℕ → ℕ = left_by (cut place end ∷ []) now in
        let kept_first = file-kept laws size byte way place bytes left indirect mark (those ++ its) holds both in
        let kept_then = file-kept laws size now way place left short_of mark mark (cut place end ∷ []) (turned both) three in
        let fits : HasFree last short_of mark end =
        subst (λ (b : Bool). blocks_taken end b ≤ blocks_taken (length short_of) mark + free_blocks last) (sym (needed-both indirect needs))
        (still-free (blocks_taken (length short_of) mark) (blocks_taken (length short_of) mark) (blocks_taken end needs)
        (blocks_taken (length bytes) indirect) (free_blocks last) (free_blocks byte) free (kept_then ∙ kept_first) refl) in
        let four =
        fills-and-takes laws size last way place short_of mark n end (turned three) short fits
        (subst (λ (m : ℕ). m ≤ min end (4096 * n)) (sym cut_is) (left-below (length bytes) end))
        (left-same (length bytes) end ∙ ap (λ (m : ℕ). blocks_of m) (sym cut_is))
        (ap (λ (m : ℕ). blocks_of m + (blocks_of end - n)) cut_is ∙ left-missing (length bytes) end)
        (left-full (length bytes) end ∙ ap (λ (m : ℕ). min end (4096 * blocks_of m)) (sym cut_is)) in
        let more : List Change = fill place (min end (BLKSIZE * n)) ∷ take_blocks (blocks_of end - n) place end in
        let behind : Turns size now way place (cut place end ∷ more) (a_file (resized short_of end) (mark || needs)) =
        turns-append size now way place (a_file short_of mark) (a_file (resized short_of end) (mark || needs)) (cut place end ∷ []) more
        three four in
        renamed (resized short_of end) (resized bytes end) (mark || needs) needs
        (turns-append size byte way place (a_file left mark) (a_file (resized short_of end) (mark || needs)) (those ++ its)
        (cut place end ∷ more) both behind)
        (ap (λ (l : List ℕ). resized l end) (take-left bytes end (BLKSIZE * (n - k)) (left-end (length bytes) end)) ∙ resized-take bytes end)
        (needed-both indirect needs)
