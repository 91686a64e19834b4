-- What a program's space has when its run begins: inside the fence the pages of the program and no others, outside it the stack of
-- the handler of page faults and nothing else, and tables in the regions of the program's pages alone.
use Rattle.std.proofs.Common.{◌≡◌, ◌≢◌, ◌∙◌, ◌+◌, ◌*◌, ◌/◌, ◌<◌, ◌≤◌, ◌==◌, inl, inr, ◌&&◌, ◌||◌, ℕ, Bool, true, false, List, [], ◌∷◌}
use Rattle.std.proofs.Common.{Option, Some, None, length, refl, sym, ap, subst, arith, if◌then◌else◌}
use Rattle.std.specs.Prelude.{is_some, nat_le, nat_lt}
use Rattle.std.specs.List.{All}
use Rattle.std.specs.Option.{option_map}
use Rattle.std.proofs.lemmas.Bool.{cases_eq, ltb-true}
use Rattle.std.proofs.lemmas.Bool.Decides.{nat_tests}
use Rattle.std.proofs.lemmas.Option.{same_Some}
use Rattle.std.proofs.lemmas.List.Elements.{All-head, All-tail}
use Rattle.jos_base.specs.declared.numbers.TheConstants.{NPTENTRIES, PGSIZE}
use Rattle.jos_base.specs.Reach.{Entry}
use Rattle.jos_base.specs.SpacesState.{SpacesState, zero_page}
use Rattle.jos_base.specs.SystemCalls.{has_write}
use Rattle.jos_base.specs.TrapFrames.{user_flags}
use Rattle.jos_base.specs.Words.{upd}
use Rattle.jos_elf.specs.declared.image.Segment.{Segment}
use Rattle.jos_elf.specs.Parsed.{Layout, Lies}
use Rattle.jos_elf.specs.Pages.{any_touches, any_writes, page_bytes, stack_page, touches}
use Rattle.lib_os.specs.AbstractMemory.{has_page_in}
use Rattle.lib_os.specs.AbstractState.{Page, own}
use Rattle.lib_os.specs.Fence.{in_fence}
use Rattle.lib_os.specs.Rows.{IsPage, rows_of}
use Rattle.lib_os.proofs.PageBytes.{zero_page_whole}
use Rattle.jos_elf.specs.StackPage.{stack_contents, strings_of}
use Rattle.jos_base.proofs.Maps.{upd-at, upd-other}
use Rattle.jos_base.proofs.Below.{some_below-at}
use Rattle.lib_os.specs.Rows.{AreBytes}
use Rattle.jos_run.specs.Boot.{handler_page}
use Rattle.jos_elf.specs.Started.{program_registers, stack_segment}
use Rattle.lib_os.specs.ProgramMemory.{page_of, stack_of}
use Rattle.jos_run.specs.Start.{first_memory}
use Rattle.jos_run.proofs.BootedPages.{HasEntry, HasPages, no_row, own_by, row_of_page}
use Rattle.jos_run.proofs.PagesBegin.{space_memory}
use Rattle.jos_run.proofs.PagesFilled.{has_page-put}
use Rattle.jos_run.proofs.PagesWhole.{contents-bytes, page-whole}

-- ---- where a program's pages lie

-- the page of this number lies in the fence
abbrev pub is_inside_fence : ℕ → Bool
is_inside_fence p = in_fence (p * PGSIZE) PGSIZE

low_inside : (va : ℕ) → 2097152 ≤ va → va + 4096 ≤ 4194304 → in_fence va 4096 ≡ true
unfolding in_fence
low_inside va from to =
    let a : nat_le 2097152 va ≡ true = grind (arith, nat_tests) in
    let b : nat_le (va + 4096) 4194304 ≡ true = grind (arith, nat_tests) in
    rw (a, b) refl

middle_inside : (va : ℕ) → 8388608 ≤ va → va + 4096 ≤ 3489660928 → in_fence va 4096 ≡ true
unfolding in_fence
middle_inside va from to =
    let a : nat_le 8388608 va ≡ true = grind (arith, nat_tests) in
    let b : nat_le (va + 4096) 3489660928 ≡ true = grind (arith, nat_tests) in
    let low : nat_le (va + 4096) 4194304 ≡ false = grind (arith, nat_tests) in
    rw (a, b, low) (by_test (nat_le 2097152 va) _)
  where
    by_test : (t rest : Bool) → (((t && false) || true) || rest) ≡ true
    by_test true rest = refl
    by_test false rest = refl

pub stack_inside : is_inside_fence stack_page ≡ true
unfolding in_fence
stack_inside = refl

pub handler_outside : is_inside_fence handler_page ≡ false
unfolding in_fence
handler_outside = refl

touch_inside : (total p : ℕ) (segment : Segment) → Lies total segment → touches p segment ≡ true → is_inside_fence p ≡ true
touch_inside total p segment lies touch =
    let begins : nat_lt segment.va ((p + 1) * 4096) ≡ true =
    and_left (nat_lt segment.va ((p + 1) * 4096)) (nat_lt (p * 4096) (segment.va + segment.mem_len)) touch in
    let ends : nat_lt (p * 4096) (segment.va + segment.mem_len) ≡ true =
    and_right (nat_lt segment.va ((p + 1) * 4096)) (nat_lt (p * 4096) (segment.va + segment.mem_len)) touch in
    let from : segment.va < (p + 1) * 4096 = ltb-true segment.va ((p + 1) * 4096) begins in
    let to : p * 4096 < segment.va + segment.mem_len = ltb-true (p * 4096) (segment.va + segment.mem_len) ends in
    elim lies.range [
      | inl low ↦ low_inside (p * 4096) (omega (arith, from, low.0)) (omega (arith, to, low.1))
      | inr high ↦ middle_inside (p * 4096) (omega (arith, from, high.0)) (omega (arith, to, high.1))
    ]
  where
    and_left : (a b : Bool) → (a && b) ≡ true → a ≡ true
    and_left true b e = refl
    and_left false b e = absurd cc

    and_right : (a b : Bool) → (a && b) ≡ true → b ≡ true
    and_right true b e = e
    and_right false b e = absurd cc

-- what an image touches lies in the fence
pub touched_inside : (total p : ℕ) (segments : List Segment) → All (Lies total) segments → any_touches p segments ≡ true →
    is_inside_fence p ≡ true
touched_inside total p [] lie touched = absurd cc
touched_inside total p (segment ∷ rest) lie touched =
    by_touch (touches p segment) refl touched (touched_inside total p rest (All-tail (Lies total) segment rest lie))
  where
    by_touch : (t : Bool) → touches p segment ≡ t → (t || any_touches p rest) ≡ true →
        (any_touches p rest ≡ true → is_inside_fence p ≡ true) → is_inside_fence p ≡ true
    by_touch true is some later = touch_inside total p segment (All-head (Lies total) segment rest lie) is
    by_touch false is some later = later some

-- ---- the flags of the first registers

pub flags_are : (entry : ℕ) (words : List (List ℕ)) → (program_registers entry words).eflags ≡ user_flags (program_registers entry words).eflags
flags_are entry words = refl

-- ---- the space

module _ (image : Layout) (file : List ℕ) (words : List (List ℕ)) (lie : All (Lies (length file)) image.segments) where
  abbrev memory : ℕ → Option Page
  memory = first_memory image file words

  -- the program has no page outside of the fence
  pub outside_no_page : (p : ℕ) → is_inside_fence p ≡ false → memory p ≡ None
  outside_no_page p outside = by_tests (p == stack_page) (any_touches p image.segments) refl refl
    where
      by_tests : (t touch : Bool) → (p == stack_page) ≡ t → any_touches p image.segments ≡ touch →
          (if t then Some (stack_of words) else page_of image.segments file p) ≡ None
      by_tests true touch at is =
          let same : p ≡ stack_page = grind (arith, nat_tests) in
          absurd (let contradiction : true ≡ false = sym stack_inside ∙ ap is_inside_fence (sym same) ∙ outside in cc)
      by_tests false true at is =
          absurd (let contradiction : true ≡ false =
          sym (touched_inside (length file) p image.segments lie is) ∙ outside in cc)
      by_tests false false at is =
          ap (λ (c : Bool). if c then Some (own (page_bytes image.segments file p) (any_writes p image.segments)) else None) is

  module _ {space : ℕ} {t : SpacesState} (h : HasPages space (space_memory image file words) t) where
    -- what the program sees of the space is its memory
    pub inside_pages : (p : ℕ) → is_inside_fence p ≡ true → memory p ≡ option_map (own_by t.pages) (rows_of t space p)
    inside_pages p inside =
        let other : p ≢ handler_page = λ same.
        let contradiction : true ≡ false = sym inside ∙ ap is_inside_fence same ∙ handler_outside in cc in
        sym (upd-other memory handler_page (Some (own zero_page true)) p other) ∙ h.pages p

    -- the stack of the handler, which may be written
    pub handler_row : HasEntry h handler_page zero_page true
    handler_row = row_of_page h handler_page zero_page true (upd-at memory handler_page (Some (own zero_page true)))

    -- nothing else stands outside of the fence
    pub outside_no_row : (p : ℕ) → is_inside_fence p ≡ false → p ≢ handler_page → rows_of t space p ≡ None
    outside_no_row p outside other =
        no_row h p (upd-other memory handler_page (Some (own zero_page true)) p other ∙ outside_no_page p outside)

    -- the handler's stack lies in the region of the program's
    stack_region : has_page_in memory (handler_page / NPTENTRIES) ≡ true
    stack_region = some_below-at (λ k. is_some (memory (954 * 1024 + k))) 1024 1021 (omega arith) refl

    -- tables stand in the regions in which the program has pages
    pub tables_are : (r : ℕ) → has_page_in memory r ≡ is_some (t.regions space r)
    tables_are r = elim (cases_eq r (handler_page / NPTENTRIES)) [
      | inl same ↦
          ap (has_page_in memory) same ∙ stack_region ∙ sym (upd-at (has_page_in memory) (handler_page / NPTENTRIES) true)
          ∙ ap (upd (has_page_in memory) (handler_page / NPTENTRIES) true) (sym same)
          ∙ put_is r
      | inr ne ↦ sym (upd-other (has_page_in memory) (handler_page / NPTENTRIES) true r ne) ∙ put_is r
    ]
      where
        put_is : (r : ℕ) → upd (has_page_in memory) (handler_page / NPTENTRIES) true r ≡ is_some (t.regions space r)
        put_is r = sym (has_page-put memory handler_page (own zero_page true) r) ∙ h.tables r

-- ---- its pages

module _ (image : Layout) (file : List ℕ) (words : List (List ℕ)) (file_bytes : AreBytes file) (word_bytes : AreBytes (strings_of words))
  where
    abbrev IsWhole : Option Page → Type 0
    IsWhole o = (bytes : List ℕ) (writable : Bool) → o ≡ Some (own bytes writable) → IsPage bytes

    listed : Page → List ℕ
    listed (own list w) = list
    listed _ = []

    whole_own : (list : List ℕ) (w : Bool) → IsPage list → IsWhole (Some (own list w))
    unfolding listed
    whole_own list w page bytes writable is =
        subst (λ (found : List ℕ). IsPage found) (ap listed (same_Some (own list w) (own bytes writable) is)) page

    program_whole : (p : ℕ) → IsWhole (first_memory image file words p)
    program_whole p = by_tests (p == stack_page) (any_touches p image.segments)
      where
        by_tests : (t touch : Bool) → IsWhole (if t then Some (stack_of words) else if touch
            then Some (own (page_bytes image.segments file p) (any_writes p image.segments)) else None)
        by_tests true touch =
            whole_own (page_bytes (stack_segment words ∷ []) (stack_contents words) stack_page) true
            (page-whole (stack_contents words) (contents-bytes words word_bytes) (stack_segment words ∷ []) stack_page)
        by_tests false true =
            whole_own (page_bytes image.segments file p) (any_writes p image.segments) (page-whole file file_bytes image.segments p)
        by_tests false false = λ bytes writable none. absurd cc

    memory_whole : (p : ℕ) → IsWhole (space_memory image file words p)
    memory_whole p = elim (cases_eq p handler_page) [
      | inl same ↦
          subst IsWhole (sym (ap (space_memory image file words) same
          ∙ upd-at (first_memory image file words) handler_page (Some (own zero_page true)))) (whole_own zero_page true zero_page_whole)
      | inr ne ↦
          subst IsWhole (sym (upd-other (first_memory image file words) handler_page (Some (own zero_page true)) p ne)) (program_whole p)
    ]

    -- each has its bytes
    pub pages_whole : {space : ℕ} {t : SpacesState} → HasPages space (space_memory image file words) t →
        (p : ℕ) (x : Entry) → rows_of t space p ≡ Some x → IsPage (t.pages x.frame)
    pages_whole {t = t} h p x is =
        memory_whole p (t.pages x.frame) (has_write x.perm) (h.pages p ∙ ap (option_map (own_by t.pages)) is)
