-- The pages of a program are loaded one after another, and after each its space has the pages that are loaded, and what other spaces had they have
-- still.
use Rattle.std.proofs.Common.{◌≡◌, ◌≢◌, ◌∙◌, ◌<◌, ◌≤◌, ◌==◌, ◌⊎◌, inl, inr, ℕ, zero, suc, Bool, true, false, List, [], ◌∷◌, Option}
use Rattle.std.proofs.Common.{Some, None}
use Rattle.std.proofs.Common.{length, refl, sym, ap, subst, arith, if◌then◌else◌}
use Rattle.std.specs.Prelude.{nat_lt, option_and_then}
use Rattle.std.specs.List.{All}
use Rattle.std.specs.Option.{option_map}
use Rattle.std.proofs.lemmas.Bool.{cases_eq}
use Rattle.std.proofs.lemmas.Bool.Decides.{nat_tests}
use Rattle.std.proofs.lemmas.Option.{same_Some}
use Rattle.jos_base.specs.Counting.{frame_limit, page_limit}
use Rattle.jos_base.specs.Environments.{Environments, is_live}
use Rattle.jos_base.specs.KernelState.{KernelState, HasSpaces, slot_at, with_spaces}
use Rattle.jos_base.specs.Reach.{Entry}
use Rattle.jos_base.specs.SpacesState.{SpacesState, directory, is_directory, allocated, zero_page}
use Rattle.jos_base.specs.SpacesState.{with_page_bytes}
use Rattle.jos_base.specs.SystemCalls.{is_page_perm}
use Rattle.jos_base.specs.Words.{upd}
use Rattle.jos_elf.specs.declared.image.Segment.{Segment}
use Rattle.jos_elf.specs.Parsed.{Layout, Lies}
use Rattle.jos_kernel.specs.Boot.{filled, only_state, page_loaded, pages_loaded, perm_of}
use Rattle.jos_elf.specs.Pages.{any_touches, any_writes, page_bytes, stack_page}
use Rattle.jos_kernel.proofs.PagesTouched.{touched_below}
use Rattle.lib_os.specs.AbstractState.{Page, own}
use Rattle.lib_os.specs.InOrder.{IsInOrder}
use Rattle.lib_os.specs.Need.{EachHasUse}
use Rattle.lib_os.specs.Rows.{rows_of, lasting}
use Rattle.lib_os.proofs.Effects.{Made}
use Rattle.lib_os.proofs.PagesStand.{row_placed}
use Rattle.lib_os.proofs.Placing.{allocated_made}
use Rattle.lib_os.proofs.UsesFound.{bytes_found}
use Rattle.lib_os.proofs.UsesPlaced.{allocated_found}
use Rattle.jos_elf.specs.StackPage.{stack_contents, stack_size}
use Rattle.jos_run.specs.Boot.{handler_page, handler_stack_loaded, program_loaded}
use Rattle.jos_elf.specs.Started.{stack_segment}
use Rattle.lib_os.specs.ProgramMemory.{page_of, stack_of}
use Rattle.jos_run.specs.Start.{first_memory}
use Rattle.jos_run.proofs.BootedPages.{HasPages, OthersKept, no_row, others_more, page_more}
use Rattle.jos_run.proofs.FramesTaken.{AreBelow, Takes, allocated_entries, allocated_entry, allocated_takes}
use Rattle.jos_run.proofs.PagesFilled.{filled_one_use}
use Rattle.jos_run.proofs.StackLoaded.{stack-touched, stack-writes}
use Rattle.jos_base.proofs.Maps.{upd-at, upd-other, upd-stays}
use Rattle.jos_base.proofs.Uses.{directory_is}

-- ---- small facts

-- where no entry is seen there is none
pub no_entry : (s : SpacesState) (d p : ℕ) → rows_of s d p ≡ None → s.entries d p ≡ None
unfolding rows_of
no_entry s d p none = by_entry (s.entries d p) refl none
  where
    by_entry : (o : Option Entry) → s.entries d p ≡ o → option_map lasting o ≡ None → s.entries d p ≡ None
    by_entry None at seen = at
    by_entry (Some e) at seen = absurd cc

-- the frame of a page that is made is the one that is handed out
pub made_frame : (s t : SpacesState) (d p perm f : ℕ) (made : Made s t d p perm) →
    t.entries d p ≡ Some (record { frame = f; perm = perm }) → made.frame ≡ f
unfolding rows_of
made_frame s t d p perm f made at =
    ap (λ (e : Entry). e.frame) (same_Some (record { frame = made.frame; perm = perm }) (lasting (record { frame = f; perm = perm }))
    (sym (row_placed made.placed) ∙ ap (option_map lasting) at))

pub spaces_kept : (s t : SpacesState) (e : Environments) → ((f : ℕ) → is_directory (t.uses f) ≡ is_directory (s.uses f)) →
    HasSpaces s e → HasSpaces t e
spaces_kept s t e same h = record {
  in_use = λ n live. same (e.slots n).directory ∙ h.in_use n live;
  apart = h.apart;
  owned = λ d is. h.owned d (sym (same d) ∙ is);
}

-- the bits of a page
bits-user : (writable : Bool) → is_page_perm (perm_of writable) ≡ true
bits-user true = refl
bits-user false = refl

bits-small : (writable : Bool) → perm_of writable < 4096
bits-small true = omega arith
bits-small false = omega arith

-- the pages of the program, and that of the stack of its handler of page faults
abbrev pub space_memory : Layout → List ℕ → List (List ℕ) → ℕ → Option Page
space_memory image file words = upd (first_memory image file words) handler_page (Some (own zero_page true))

-- there are so many pages
pub limit_small : 851968 ≤ page_limit
unfolding page_limit
limit_small = omega arith

pub stack_small : stack_page < page_limit
unfolding page_limit
stack_small = omega arith

pub handler_small : handler_page < page_limit
unfolding page_limit
handler_small = omega arith

-- ---- one page more

module _ (frames : ℕ) (base : KernelState) (live : is_live (slot_at base 1) ≡ true)
    (space_small : (slot_at base 1).directory < frame_limit) where
  abbrev pub space : ℕ
  space = (slot_at base 1).directory

  -- the space has these pages, and the frames are in order
  pub record Stage (memory : ℕ → Option Page) (t : SpacesState) : Type 0 where
    pub has : HasPages space memory t
    pub others : OthersKept space base.spaces t
    pub in_order : IsInOrder (with_spaces base t)
    pub below : AreBelow t.free
    pub frames_are : t.frames ≡ frames
    pub used : EachHasUse t

  module _ (memory : ℕ → Option Page) (t : SpacesState) (h : Stage memory t) (number : ℕ) (small : number < page_limit)
      (none : memory number ≡ None) (writable : Bool) (f : ℕ) (v : SpacesState)
      (is : allocated t space number (perm_of writable) ≡ Some (f, v)) where
    abbrev perm : ℕ
    perm = perm_of writable

    space_is : t.uses space ≡ directory
    space_is = directory_is (t.uses space) (h.in_order.spaces.in_use 1 live)

    takes : Takes t v
    takes = allocated_takes t h.in_order.frames h.below space number perm space_is space_small small (bits-small writable)
        (no_entry t space number (no_row h.has number none)) f v is

    made : Made t v space number perm
    made = allocated_made t v space number perm f h.in_order.frames takes.one_use (bits-user writable) is

    frame_is : made.frame ≡ f
    frame_is = made_frame t v space number perm f made (allocated_entry t v space number perm f is)

    -- with these bytes
    pub stage_next : (bytes : List ℕ) → Stage (upd memory number (Some (own bytes writable))) (with_page_bytes v f bytes)
    stage_next bytes = record {
      has = page_more h.has number f writable bytes made frame_is;
      others = others_more h.others number f perm bytes made frame_is (allocated_entries t v space number perm f is);
      in_order = record {
        frames = filled_one_use v f bytes takes.one_use;
        spaces = spaces_kept t (with_page_bytes v f bytes) base.environments takes.directories h.in_order.spaces;
      };
      below = takes.below;
      frames_are = takes.frames ∙ h.frames_are;
      used = bytes_found v f bytes (allocated_found t space number perm (f, v) h.in_order.frames space_is small h.used is);
    }

    -- with the zeros that it has
    pub stage_zero : Stage (upd memory number (Some (own zero_page writable))) v
    stage_zero =
        let clear : v.pages f ≡ zero_page = sym (ap v.pages frame_is) ∙ made.zero in
        subst (λ (z : SpacesState). Stage (upd memory number (Some (own zero_page writable))) z)
        (λ i. record v { pages = λ q. upd-stays v.pages f zero_page (sym clear) q i })
        (stage_next zero_page)

  -- ---- all pages of the image

  module _ (image : Layout) (words : List (List ℕ)) (file : List ℕ) where
    abbrev pub segments : List Segment
    segments = image.segments

    -- the pages below a number
    abbrev pub memory_below : ℕ → ℕ → Option Page
    memory_below n p = if nat_lt p n then page_of segments file p else None

    pub below-none : (p : ℕ) → memory_below 0 p ≡ None
    below-none p = let test : nat_lt p 0 ≡ false = grind (arith, nat_tests) in rw test refl

    pub below-at : (n : ℕ) → memory_below n n ≡ None
    below-at n = let test : nat_lt n n ≡ false = grind (arith, nat_tests) in rw test refl

    -- one page more
    below-next : (n p : ℕ) → memory_below (suc n) p ≡ upd (memory_below n) n (page_of segments file n) p
    below-next n p = elim (cases_eq p n) [
      | inl e ↦
          let test : nat_lt n (suc n) ≡ true = grind (arith, nat_tests) in
          ap (memory_below (suc n)) e
          ∙ ap (λ (b : Bool). if b then page_of segments file n else None) test
          ∙ sym (ap (upd (memory_below n) n (page_of segments file n)) e ∙ upd-at (memory_below n) n (page_of segments file n))
      | inr ne ↦
          ap (λ (b : Bool). if b then page_of segments file p else None) (same_test (nat_lt p (suc n)) (nat_lt p n) refl refl ne)
          ∙ sym (upd-other (memory_below n) n (page_of segments file n) p ne)
    ]
      where
        same_test : (t u : Bool) → nat_lt p (suc n) ≡ t → nat_lt p n ≡ u → p ≢ n → nat_lt p (suc n) ≡ nat_lt p n
        same_test true true first second ne = first ∙ sym second
        same_test false false first second ne = first ∙ sym second
        same_test true false first second ne = absurd (let a : p < suc n = grind (arith, nat_tests) in
            let c : n ≤ p = grind (arith, nat_tests) in ne (omega arith))
        same_test false true first second ne = absurd (let a : suc n ≤ p = grind (arith, nat_tests) in
            let c : p < n = grind (arith, nat_tests) in omega arith)

    pub touched_next : (n : ℕ) → any_touches n segments ≡ true →
        memory_below (suc n) ≡ upd (memory_below n) n (Some (own (page_bytes segments file n) (any_writes n segments)))
    touched_next n touched =
        (λ i p. below-next n p i)
        ∙ ap (λ (b : Bool). upd (memory_below n) n (if b then Some (own (page_bytes segments file n) (any_writes n segments)) else
        None)) touched

    pub untouched_next : (n : ℕ) → any_touches n segments ≡ false → memory_below (suc n) ≡ memory_below n
    untouched_next n untouched =
        (λ i p. below-next n p i)
        ∙ ap (λ (b : Bool). upd (memory_below n) n (if b then Some (own (page_bytes segments file n) (any_writes n segments)) else
        None)) untouched
        ∙ (λ i p. nothing p (cases_eq p n) i)
      where
        nothing : (p : ℕ) → (p ≡ n) ⊎ (p ≢ n) → upd (memory_below n) n None p ≡ memory_below n p
        nothing p (inl e) = ap (upd (memory_below n) n None) e ∙ upd-at (memory_below n) n None ∙ sym (ap (memory_below n) e ∙ below-at n)
        nothing p (inr ne) = upd-other (memory_below n) n None p ne

    page_next : (n : ℕ) (t u : SpacesState) → n < page_limit → Stage (memory_below n) t →
        page_loaded segments file space n t ≡ Some u → Stage (memory_below (suc n)) u
    page_next n t u small h is = by_touch (any_touches n segments) refl is
      where
        by_frame : any_touches n segments ≡ true → (o : Option (ℕ × SpacesState)) →
            allocated t space n (perm_of (any_writes n segments)) ≡ o →
            filled (page_bytes segments file n) o ≡ Some u → Stage (memory_below (suc n)) u
        by_frame touched None at none = absurd cc
        by_frame touched (Some made) at some =
            subst (λ (z : SpacesState). Stage (memory_below (suc n)) z)
            (same_Some (with_page_bytes made.1 made.0 (page_bytes segments file n)) u some)
            (subst (λ (m : ℕ → Option Page). Stage m (with_page_bytes made.1 made.0 (page_bytes segments file n)))
            (sym (touched_next n touched))
            (stage_next (memory_below n) t h n small (below-at n) (any_writes n segments) made.0 made.1 at
            (page_bytes segments file n)))

        by_touch : (b : Bool) → any_touches n segments ≡ b →
            (if b then filled (page_bytes segments file n) (allocated t space n (perm_of (any_writes n segments))) else Some
            t) ≡ Some u → Stage (memory_below (suc n)) u
        by_touch true touched some = by_frame touched (allocated t space n (perm_of (any_writes n segments))) refl some
        by_touch false untouched some =
            subst (λ (z : SpacesState). Stage (memory_below (suc n)) z) (same_Some t u some)
            (subst (λ (m : ℕ → Option Page). Stage m t) (sym (untouched_next n untouched)) h)

    pub pages_stage : (first : SpacesState) → Stage (λ p. None) first → (n : ℕ) → n ≤ page_limit → (u : SpacesState) →
        pages_loaded segments file space first n ≡ Some u → Stage (memory_below n) u
    unfolding pages_loaded
    pages_stage first h zero le u is =
        subst (λ (z : SpacesState). Stage (memory_below 0) z) (same_Some first u is)
        (subst (λ (m : ℕ → Option Page). Stage m first) (sym (λ i p. below-none p i)) h)
    pages_stage first h (suc n) le u is = by_before (pages_stage first h n (omega arith))
        (pages_loaded segments file space first n) refl is
      where
        by_before : ((t : SpacesState) → pages_loaded segments file space first n ≡ Some t → Stage (memory_below n) t) →
            (o : Option SpacesState) → pages_loaded segments file space first n ≡ o →
            option_and_then (page_loaded segments file space n) o ≡ Some u → Stage (memory_below (suc n)) u
        by_before before None at none = absurd cc
        by_before before (Some t) at some = page_next n t u (omega arith) (before t at) some

    -- ---- the stack's page

    module _ (lie : All (Lies (length file)) image.segments) (some : 0 < stack_size words) (most : stack_size words ≤ 4096) where
      abbrev pub stack_bytes : List ℕ
      stack_bytes = page_bytes (stack_segment words ∷ []) (stack_contents words) stack_page

      pub no_stack : memory_below 851968 stack_page ≡ None
      no_stack = refl

      -- no image has a page that is not below
      all_below : (p : ℕ) → memory_below 851968 p ≡ page_of segments file p
      all_below p = by_touch (nat_lt p 851968) (any_touches p segments) refl refl
        where
          by_touch : (b touch : Bool) → nat_lt p 851968 ≡ b → any_touches p segments ≡ touch →
              memory_below 851968 p ≡ page_of segments file p
          by_touch true touch low is = ap (λ (c : Bool). if c then page_of segments file p else None) low
          by_touch false true high is = absurd (let low = touched_below (length file) p segments lie is in
              let past : 851968 ≤ p = grind (arith, nat_tests) in omega arith)
          by_touch false false high is =
              ap (λ (c : Bool). if c then page_of segments file p else None) high
              ∙ sym (ap (λ (c : Bool). if c then Some (own (page_bytes segments file p) (any_writes p segments)) else None) is)

      with_stack : (p : ℕ) → upd (memory_below 851968) stack_page (Some (stack_of words)) p ≡ first_memory image file words p
      unfolding upd
      with_stack p = by_test (p == stack_page)
        where
          by_test : (b : Bool) → (if b then Some (stack_of words) else memory_below 851968 p) ≡ (if b then Some (stack_of words)
              else page_of segments file p)
          by_test true = refl
          by_test false = all_below p

      stack_next : (t u : SpacesState) → Stage (memory_below 851968) t →
          page_loaded (stack_segment words ∷ []) (stack_contents words) space stack_page t ≡ Some u →
          Stage (first_memory image file words) u
      stack_next t u h is = by_frame (allocated t space stack_page (perm_of true)) refl (sym whole ∙ is)
        where
          whole : page_loaded (stack_segment words ∷ []) (stack_contents words) space stack_page t ≡ filled stack_bytes
              (allocated t space stack_page (perm_of true))
          whole =
              ap (λ (b : Bool). if b then filled stack_bytes
              (allocated t space stack_page (perm_of (any_writes stack_page (stack_segment words ∷ [])))) else Some t)
              (stack-touched words some most)
              ∙ ap (λ (b : Bool). filled stack_bytes (allocated t space stack_page (perm_of b))) (stack-writes words some most)

          by_frame : (o : Option (ℕ × SpacesState)) → allocated t space stack_page (perm_of true) ≡ o →
              filled stack_bytes o ≡ Some u → Stage (first_memory image file words) u
          by_frame None at none = absurd cc
          by_frame (Some made) at found =
              subst (λ (z : SpacesState). Stage (first_memory image file words) z)
              (same_Some (with_page_bytes made.1 made.0 stack_bytes) u found)
              (subst (λ (m : ℕ → Option Page). Stage m (with_page_bytes made.1 made.0 stack_bytes)) (λ i p. with_stack p i)
              (stage_next (memory_below 851968) t h stack_page stack_small no_stack true made.0 made.1 at stack_bytes))

      pub program_stage : (first u : SpacesState) → Stage (λ p. None) first →
          program_loaded segments file words space first ≡ Some u → Stage (first_memory image file words) u
      unfolding program_loaded
      program_stage first u h is = by_pages (pages_loaded segments file space first 851968) refl is
        where
          by_pages : (o : Option SpacesState) → pages_loaded segments file space first 851968 ≡ o →
              option_and_then (page_loaded (stack_segment words ∷ []) (stack_contents words) space stack_page) o ≡ Some u →
              Stage (first_memory image file words) u
          by_pages None at none = absurd cc
          by_pages (Some t) at found = stack_next t u (pages_stage first h 851968 limit_small t at) found

      -- ---- the page of the handler's stack

      pub no_handler : first_memory image file words handler_page ≡ None
      no_handler = by_touch (any_touches handler_page segments) refl
        where
          by_touch : (touch : Bool) → any_touches handler_page segments ≡ touch → first_memory image file words handler_page ≡ None
          by_touch true is = absurd (let low = touched_below (length file) handler_page segments lie is in omega (arith, low))
          by_touch false is =
              ap (λ (c : Bool). if c then Some (own (page_bytes segments file handler_page) (any_writes handler_page segments)) else None) is

      pub handler_stage : (first u : SpacesState) → Stage (λ p. None) first →
          option_and_then (handler_stack_loaded space) (program_loaded segments file words space first) ≡ Some u →
          Stage (space_memory image file words) u
      unfolding handler_stack_loaded
      handler_stage first u h is = by_program (program_loaded segments file words space first) refl is
        where
          by_frame : (t : SpacesState) → Stage (first_memory image file words) t → (o : Option (ℕ × SpacesState)) →
              allocated t space handler_page (perm_of true) ≡ o → only_state o ≡ Some u → Stage (space_memory image file words) u
          by_frame t stage None at none = absurd cc
          by_frame t stage (Some made) at found =
              subst (λ (z : SpacesState). Stage (space_memory image file words) z) (same_Some made.1 u found)
              (stage_zero (first_memory image file words) t stage handler_page handler_small no_handler true made.0 made.1 at)

          by_program : (o : Option SpacesState) → program_loaded segments file words space first ≡ o →
              option_and_then (handler_stack_loaded space) o ≡ Some u → Stage (space_memory image file words) u
          by_program None at none = absurd cc
          by_program (Some t) at found =
              by_frame t (program_stage first t h at) (allocated t space handler_page (perm_of true)) refl found
