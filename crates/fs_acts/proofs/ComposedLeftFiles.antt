-- An act on an open file that is begun anew between two of its changes puts what is left.
use Rattle.std.proofs.Common.{◌≡◌, ◌∙◌, ◌+◌, ◌-◌, ◌*◌, ◌≤◌, ℕ, Bool, true, false, List, [], ◌∷◌, ◌++◌, length, Option, Some, None}
use Rattle.std.proofs.Common.{refl, sym, ap, subst, arith, min}
use Rattle.std.specs.Prelude.{◌||◌, nat_lt, nat_le, if◌then◌else◌}
use Rattle.std.proofs.lemmas.Bool.Decides.{nat_tests}
use Rattle.jos_base.specs.declared.numbers.TheConstants.{E_INVAL, E_NO_DISK}
use Rattle.fs_layout.specs.declared.numbers.TheConstants.{MAXFILESIZE}
use Rattle.fs_layout.specs.FileTree.{FileAct, write_file, set_file_size, FileSystem, a_file, blocks_of, needs_indirect, blocks_taken}
use Rattle.fs_layout.specs.DiskImage.{size_of, has_indirect, is_directory_at}
use Rattle.fs_layout.specs.DiskFiles.{IsDiskImage, file_system_of, file_bytes, free_blocks}
use Rattle.fs_acts.specs.BlockActs.{Change, Planned, planned, turned_down, planned_if_it_fits, fits, blocks_grown, puts_in_turn, overwrite, growth}
use Rattle.fs_acts.specs.BlockActs.{resizing, size_plan, write_some, write_plan, of_file, place_at, plan_of, puts_of}
use Rattle.fs_acts.specs.BlockLaws.{Holds}
use Rattle.fs_acts.proofs.Trees.{put-again}
use Rattle.fs_acts.proofs.ComposedSteps.{ChangesAreActs}
use Rattle.fs_acts.proofs.ComposedRecords.{FileIs, file-is, file-at}
use Rattle.fs_acts.proofs.ComposedFiles.{not-past, ends-past}
use Rattle.fs_acts.proofs.ComposedLeft.{Alike, alike-append, Always, AlwaysTo, always-none, always-one, always-plain, always-behind}
use Rattle.fs_acts.proofs.ComposedLeftSizes.{At, Growing, Sizing, growth-takes, growth-is, takes-none, growing, sizing}

-- The act that is begun anew puts what is left.
abbrev pub Resumes : (List ℕ → Bool) → FileAct → (ℕ → ℕ) → List Change → Type 0
Resumes is_open act now left = puts_of is_open now act ≡ puts_in_turn left now

-- so it does on the way
abbrev pub GoesOn : (List ℕ → Bool) → FileAct → (ℕ → ℕ) → Planned → Type 0
GoesOn is_open act byte plan = Always (Resumes is_open act) byte plan.changes

-- the plan for the file at a way
pub file-plan : (byte : ℕ → ℕ) (way : List ℕ) (place : ℕ) (bytes : List ℕ) (indirect : Bool) (plan : ℕ → Planned) →
    place_at byte way ≡ Some place → FileIs byte place bytes indirect → of_file byte (place_at byte way) plan ≡ plan place
file-plan byte way place bytes indirect plan stands is =
    ap (λ (found : Option ℕ). of_file byte found plan) stands
    ∙ ap (λ (b : Bool). if b then turned_down E_INVAL else plan place) is.kind

-- what fitted fits still
fit-now : (byte : ℕ → ℕ) (place : ℕ) (bytes : List ℕ) (indirect : Bool) (total wanted : ℕ) → FileIs byte place bytes indirect →
    blocks_taken (length bytes) indirect + free_blocks byte ≡ total → wanted ≤ total → fits byte place wanted ≡ true
fit-now byte place bytes indirect total wanted is kept fit =
    subst (λ (n : ℕ). nat_le (wanted - blocks_taken n (has_indirect byte place)) (free_blocks byte) ≡ true) is.long
    (subst (λ (b : Bool). nat_le (wanted - blocks_taken (length bytes) b) (free_blocks byte) ≡ true) (sym is.mark)
    (still (blocks_taken (length bytes) indirect) (free_blocks byte) total wanted kept fit))
  where
    still : (had free total wanted : ℕ) → had + free ≡ total → wanted ≤ total → nat_le (wanted - had) free ≡ true
    still had free total wanted kept_ fit_ = grind (arith, nat_tests)

pub fitted : (byte : ℕ → ℕ) (place : ℕ) (bytes : List ℕ) (indirect : Bool) (wanted : ℕ) → FileIs byte place bytes indirect →
    fits byte place wanted ≡ true → wanted ≤ blocks_taken (length bytes) indirect + free_blocks byte
fitted byte place bytes indirect wanted is e =
    subst (λ (n : ℕ). wanted ≤ blocks_taken n indirect + free_blocks byte) (sym is.long)
    (subst (λ (b : Bool). wanted ≤ blocks_taken (size_of byte place) b + free_blocks byte) is.mark
    (within (blocks_taken (size_of byte place) (has_indirect byte place)) (free_blocks byte) wanted e))
  where
    within : (had free wanted : ℕ) → nat_le (wanted - had) free ≡ true → wanted ≤ had + free
    within had free wanted e_ = grind (arith, nat_tests)

pub not-far : (end : ℕ) → end ≤ 4235264 → nat_lt 4235264 end ≡ false
not-far end le = grind (arith, nat_tests)

-- the file as it is before the first change
pub at-first : (size : ℕ) (byte : ℕ → ℕ) (way : List ℕ) (place : ℕ) (bytes : List ℕ) (indirect : Bool) →
    Holds size byte way place (a_file bytes indirect) →
    At size (file_system_of byte) way place (blocks_taken (length bytes) indirect + free_blocks byte) byte bytes indirect
at-first size byte way place bytes indirect holds =
    record { holds = holds; tree = sym (put-again (file_system_of byte) way (a_file bytes indirect) holds.is); kept = refl }

-- ---- a size

pub size-plan-is : (byte : ℕ → ℕ) (place : ℕ) (bytes : List ℕ) (indirect : Bool) (total end : ℕ) → FileIs byte place bytes indirect →
    blocks_taken (length bytes) indirect + free_blocks byte ≡ total → end ≤ MAXFILESIZE → blocks_taken end (needs_indirect end) ≤ total →
    size_plan byte place end ≡ planned (resizing byte place end) 0
unfolding size_plan
size-plan-is byte place bytes indirect total end is kept short fit =
    ap (λ (b : Bool). if b then turned_down E_NO_DISK
    else planned_if_it_fits byte place (blocks_taken end (needs_indirect end)) 0 (resizing byte place end)) (not-far end short)
    ∙ ap (λ (b : Bool). if b then planned (resizing byte place end) 0 else turned_down E_NO_DISK)
    (fit-now byte place bytes indirect total (blocks_taken end (needs_indirect end)) is kept fit)

-- a plan of another size goes on, if at each disk on the way the act's plan is that
pub size-goes : ChangesAreActs → (size : ℕ) (byte : ℕ → ℕ) (is_open : List ℕ → Bool) (act : FileAct) (way : List ℕ) (place : ℕ)
    (bytes : List ℕ) (indirect : Bool) (end : ℕ) → Holds size byte way place (a_file bytes indirect) →
    ((now : ℕ → ℕ) (own : List ℕ) (mark : Bool) →
    At size (file_system_of byte) way place (blocks_taken (length bytes) indirect + free_blocks byte) now own mark →
    plan_of is_open now act ≡ size_plan now place end) →
    GoesOn is_open act byte (size_plan byte place end)
unfolding size_plan
size-goes laws size byte is_open act way place bytes indirect end holds plans =
    by_end (nat_lt MAXFILESIZE end) refl
  where
    total : ℕ
    total = blocks_taken (length bytes) indirect + free_blocks byte

    wanted : ℕ
    wanted = blocks_taken end (needs_indirect end)

    by_fit : (b : Bool) → fits byte place wanted ≡ b → end ≤ MAXFILESIZE →
        GoesOn is_open act byte (if b then planned (resizing byte place end) 0 else turned_down E_NO_DISK)
    by_fit false e short = always-none (Resumes is_open act) byte
    by_fit true e short =
        let is = file-is laws size byte way place bytes indirect holds in
        let fit : wanted ≤ total = fitted byte place bytes indirect wanted is e in
        always-plain (Sizing size (file_system_of byte) way place total end) (Resumes is_open act) byte (resizing byte place end)
        (λ now left z.
        ap (λ (p : Planned). puts_in_turn p.changes now)
        (plans now z.bytes z.indirect z.at
        ∙ size-plan-is now place z.bytes z.indirect total end (file-is laws size now way place z.bytes z.indirect z.at.holds) z.at.kept short fit)
        ∙ z.same)
        (sizing laws size (file_system_of byte) way place total end byte bytes indirect (at-first size byte way place bytes indirect holds) short fit)

    by_end : (b : Bool) → nat_lt MAXFILESIZE end ≡ b →
        GoesOn is_open act byte (if b then turned_down E_NO_DISK else planned_if_it_fits byte place wanted 0 (resizing byte place end))
    by_end true e = always-none (Resumes is_open act) byte
    by_end false e = by_fit (fits byte place wanted) refl (not-past end e)

pub set-size-goes : ChangesAreActs → (size : ℕ) (byte : ℕ → ℕ) (is_open : List ℕ → Bool) (way : List ℕ) (place : ℕ) (bytes : List ℕ)
    (indirect : Bool) (end : ℕ) → Holds size byte way place (a_file bytes indirect) →
    GoesOn is_open (set_file_size way end) byte (size_plan byte place end)
unfolding plan_of
set-size-goes laws size byte is_open way place bytes indirect end holds =
    size-goes laws size byte is_open (set_file_size way end) way place bytes indirect end holds
    (λ now own mark at.
    file-plan now way place own mark (λ p. size_plan now p end) at.holds.stands (file-is laws size now way place own mark at.holds))

-- ---- bytes

-- growth to the size that the file has puts nothing
growth-done : (byte : ℕ → ℕ) (place end : ℕ) (bytes : List ℕ) (indirect : Bool) → FileIs byte place bytes indirect → length bytes ≡ end →
    Alike byte (growth byte place end) []
growth-done byte place end bytes indirect is e =
    growth-takes byte place end 0 bytes indirect is (full (length bytes) end e) (same (length bytes) end e)
    ∙ ap (λ (l : List Change). puts_in_turn l byte) (takes-none place end)
  where
    full : (long end : ℕ) → long ≡ end → long ≡ min end (4096 * blocks_of long)
    full long end e_ = omega arith

    same : (long end : ℕ) → long ≡ end → blocks_of long + 0 ≡ blocks_of end
    same long end e_ = omega arith

-- the write that is begun anew on the way
write-resumes : ChangesAreActs → (size : ℕ) (s : FileSystem) (way : List ℕ) (place : ℕ) (total at : ℕ) (new : List ℕ) (grown : Bool)
    (now : ℕ → ℕ) (left : List Change) → at + length new ≤ MAXFILESIZE → blocks_taken (at + length new) grown ≤ total →
    Growing size s way place total (at + length new) grown now left →
    puts_in_turn (write_some now place at new).changes now ≡ puts_in_turn (left ++ overwrite place at new ∷ []) now
write-resumes laws size s way place total at new grown now left short fit g =
    ap (λ (b : Bool). puts_in_turn (if b then turned_down E_NO_DISK else if nat_le end (size_of now place) then within else past).changes now)
    (not-far end short)
    ∙ by_end (nat_le end (size_of now place)) refl
  where
    end : ℕ
    end = at + length new

    last : List Change
    last = overwrite place at new ∷ []

    within : Planned
    within = planned last (length new)

    past : Planned
    past = planned_if_it_fits now place (blocks_grown now place end) (length new) (growth now place end ++ last)

    is : FileIs now place g.bytes g.indirect
    is = file-is laws size now way place g.bytes g.indirect g.at.holds

    by_end : (b : Bool) → nat_le end (size_of now place) ≡ b →
        puts_in_turn (if b then within else past).changes now ≡ puts_in_turn (left ++ last) now
    by_end true e =
        let whole : length g.bytes ≡ end = ends (length g.bytes) (size_of now place) end is.long g.within e in
        alike-append now [] left last (sym (growth-done now place end g.bytes g.indirect is whole) ∙ g.same)
      where
        ends : (long own end : ℕ) → long ≡ own → long ≤ end → nat_le end own ≡ true → long ≡ end
        ends long own end e_ le fits_ = let back : end ≤ own = under end own fits_ in omega arith
          where
            under : (a b : ℕ) → nat_le a b ≡ true → a ≤ b
            under a b e__ = grind (arith, nat_tests)
    by_end false e =
        let wanted : blocks_grown now place end ≤ total =
        subst (λ (b : Bool). blocks_taken end b ≤ total) (sym (ap (λ (b : Bool). b || needs_indirect end) is.mark ∙ g.marks)) fit in
        ap (λ (b : Bool). puts_in_turn (if b then planned (growth now place end ++ last) (length new) else turned_down E_NO_DISK).changes now)
        (fit-now now place g.bytes g.indirect total (blocks_grown now place end) is g.at.kept wanted)
        ∙ alike-append now (growth now place end) left last g.same

pub write-goes : ChangesAreActs → (size : ℕ) (byte : ℕ → ℕ) (is_open : List ℕ → Bool) (way : List ℕ) (place : ℕ) (bytes : List ℕ)
    (indirect : Bool) (at : ℕ) (new : List ℕ) → Holds size byte way place (a_file bytes indirect) →
    ((now : ℕ → ℕ) → write_plan now place at new ≡ write_some now place at new) →
    GoesOn is_open (write_file way at new) byte (write_some byte place at new)
unfolding plan_of
write-goes laws size byte is_open way place bytes indirect at new holds some = by_end (nat_lt MAXFILESIZE end) refl
  where
    end : ℕ
    end = at + length new

    last : List Change
    last = overwrite place at new ∷ []

    total : ℕ
    total = blocks_taken (length bytes) indirect + free_blocks byte

    wanted : ℕ
    wanted = blocks_grown byte place end

    is : FileIs byte place bytes indirect
    is = file-is laws size byte way place bytes indirect holds

    act : FileAct
    act = write_file way at new

    P : (ℕ → ℕ) → List Change → Type 0
    P = Resumes is_open act

    plans : (now : ℕ → ℕ) (own : List ℕ) (mark : Bool) → Holds size now way place (a_file own mark) →
        plan_of is_open now act ≡ write_some now place at new
    plans now own mark there =
        file-plan now way place own mark (λ p. write_plan now p at new) there.stands (file-is laws size now way place own mark there) ∙ some now

    by_fit : (b : Bool) → fits byte place wanted ≡ b → end ≤ MAXFILESIZE → length bytes ≤ end →
        GoesOn is_open act byte (if b then planned (growth byte place end ++ last) (length new) else turned_down E_NO_DISK)
    by_fit false e short past = always-none P byte
    by_fit true e short past =
        let grown : Bool = indirect || needs_indirect end in
        let fit : blocks_taken end grown ≤ total =
        subst (λ (b : Bool). blocks_taken end (b || needs_indirect end) ≤ total) is.mark (fitted byte place bytes indirect wanted is e) in
        always-behind (Growing size (file_system_of byte) way place total end grown) P byte (growth byte place end) (overwrite place at new)
        (λ now left g.
        ap (λ (p : Planned). puts_in_turn p.changes now) (plans now g.bytes g.indirect g.at.holds)
        ∙ write-resumes laws size (file_system_of byte) way place total at new grown now left short fit g)
        (subst (AlwaysTo (Growing size (file_system_of byte) way place total end grown) byte)
        (sym (growth-is byte place end bytes indirect is))
        (growing laws size (file_system_of byte) way place total end grown byte bytes indirect
        (at-first size byte way place bytes indirect holds) past short fit refl))

    by_size : (b : Bool) → nat_le end (size_of byte place) ≡ b → end ≤ MAXFILESIZE →
        GoesOn is_open act byte
        (if b then planned last (length new) else planned_if_it_fits byte place wanted (length new) (growth byte place end ++ last))
    by_size true e short =
        always-one P byte (overwrite place at new)
        (ap (λ (p : Planned). puts_in_turn p.changes byte)
        (plans byte bytes indirect holds
        ∙ ap (λ (b : Bool). if b then turned_down E_NO_DISK else if nat_le end (size_of byte place) then planned last (length new)
        else planned_if_it_fits byte place wanted (length new) (growth byte place end ++ last)) (not-far end short)
        ∙ ap (λ (b : Bool). if b then planned last (length new)
        else planned_if_it_fits byte place wanted (length new) (growth byte place end ++ last)) e))
    by_size false e short =
        by_fit (fits byte place wanted) refl short (ends-past end (size_of byte place) (length bytes) is.long e)

    by_end : (b : Bool) → nat_lt MAXFILESIZE end ≡ b →
        GoesOn is_open act byte
        (if b then turned_down E_NO_DISK else if nat_le end (size_of byte place) then planned last (length new)
        else planned_if_it_fits byte place wanted (length new) (growth byte place end ++ last))
    by_end true e = always-none P byte
    by_end false e = by_size (nat_le end (size_of byte place)) refl (not-past end e)

-- what is no file is refused
pub of-file-goes : ChangesAreActs → (size : ℕ) (byte : ℕ → ℕ) (is_open : List ℕ → Bool) (act : FileAct) (way : List ℕ) (plan : ℕ → Planned) →
    IsDiskImage size byte →
    ((place : ℕ) → Holds size byte way place (a_file (file_bytes byte place) (has_indirect byte place)) → GoesOn is_open act byte (plan place)) →
    GoesOn is_open act byte (of_file byte (place_at byte way) plan)
of-file-goes laws size byte is_open act way plan sound goes = by_place (place_at byte way) refl
  where
    by_kind : (place : ℕ) (directory : Bool) → place_at byte way ≡ Some place → is_directory_at byte place ≡ directory →
        GoesOn is_open act byte (if directory then turned_down E_INVAL else plan place)
    by_kind place true stands kind = always-none (Resumes is_open act) byte
    by_kind place false stands kind = goes place (file-at laws size byte way place sound stands kind)

    by_place : (found : Option ℕ) → place_at byte way ≡ found → GoesOn is_open act byte (of_file byte found plan)
    by_place None stands = always-none (Resumes is_open act) byte
    by_place (Some place) stands = by_kind place (is_directory_at byte place) stands refl
