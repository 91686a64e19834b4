-- The page of the console, which is loaded last: the first two descriptors name it, and all other pages are as they were.
use Rattle.std.proofs.Common.{◌≡◌, ◌≢◌, ◌∙◌, ◌/◌, ◌<◌, ◌≤◌, ◌==◌, ◌&&◌, ◌||◌, ℕ, Bool, true, false, List, Option, Some, None}
use Rattle.std.proofs.Common.{length, refl, sym, ap, subst, arith}
use Rattle.std.specs.Prelude.{is_some, option_and_then}
use Rattle.std.specs.List.{All}
use Rattle.std.proofs.lemmas.Bool.Decides.{nat_tests}
use Rattle.std.proofs.lemmas.Option.{none-some, same_Some}
use Rattle.jos_base.specs.declared.numbers.TheConstants.{NPTENTRIES}
use Rattle.jos_base.specs.Counting.{frame_limit, page_limit}
use Rattle.jos_base.specs.Environments.{is_live}
use Rattle.jos_base.specs.KernelState.{KernelState, slot_at, with_spaces}
use Rattle.jos_base.specs.Reach.{Entry}
use Rattle.jos_base.specs.SpacesState.{SpacesState, allocated, directory, inserted, overlaid, page, put, with_page_bytes, zero_page}
use Rattle.jos_elf.specs.Parsed.{Layout, Lies}
use Rattle.lib_os.specs.AbstractState.{Page, own}
use Rattle.lib_os.specs.Fence.{in_fence}
use Rattle.lib_os.specs.InOrder.{HasOneUse, IsInOrder}
use Rattle.lib_os.specs.Need.{EachHasUse}
use Rattle.lib_os.specs.Rows.{descriptor_page, descriptor_perm, rows_of}
use Rattle.lib_os.proofs.Effects.{Given, Made}
use Rattle.lib_os.proofs.PagesStand.{row_elsewhere, row_placed}
use Rattle.lib_os.proofs.Placing.{allocated_made, inserted_given}
use Rattle.lib_os.proofs.UsesFound.{bytes_found}
use Rattle.lib_os.proofs.UsesPlaced.{allocated_found, inserted_found}
use Rattle.jos_elf.specs.StackPage.{stack_size}
use Rattle.jos_base.proofs.Maps.{upd-at, upd-other}
use Rattle.jos_base.proofs.Uses.{directory_is}
use Rattle.jos_run.specs.Boot.{console_bytes, console_in, console_loaded, handler_page, handler_stack_loaded, program_loaded, space_loaded}
use Rattle.jos_run.specs.Start.{first_memory}
use Rattle.jos_run.proofs.BootedPages.{HasPages, OthersKept, no_row, others_beside, others_more}
use Rattle.jos_run.proofs.BootedSpace.{is_inside_fence, outside_no_page}
use Rattle.jos_run.proofs.FramesTaken.{Takes, allocated_entries, allocated_entry, allocated_takes, entry_put, inserted_beside}
use Rattle.jos_run.proofs.PagesBegin.{Stage, handler_stage, made_frame, no_entry, space_memory, spaces_kept}
use Rattle.jos_run.proofs.PagesFilled.{filled_one_use}

-- the bytes of the console's page
abbrev pub console_page : List ℕ
console_page = overlaid zero_page 0 console_bytes

-- the entry of a descriptor
abbrev pub descriptor_entry : ℕ → Entry
descriptor_entry f = record { frame = f; perm = descriptor_perm }

-- The space has these pages, and beside them the console's, by two entries.
pub record HasConsole (space : ℕ) (memory : ℕ → Option Page) (u : SpacesState) : Type 0 where
  pub frame : ℕ
  pub first : rows_of u space (descriptor_page 0) ≡ Some (descriptor_entry frame)
  pub second : rows_of u space (descriptor_page 1) ≡ Some (descriptor_entry frame)
  pub shows : u.pages frame ≡ console_page
  -- as it was before
  pub before : SpacesState
  pub had : HasPages space memory before
  pub rows : (p : ℕ) → p ≢ descriptor_page 0 → p ≢ descriptor_page 1 → rows_of u space p ≡ rows_of before space p
  pub others : (p : ℕ) (x : Entry) → rows_of before space p ≡ Some x → x.frame ≢ frame
  pub bytes : (p : ℕ) (x : Entry) → rows_of before space p ≡ Some x → u.pages x.frame ≡ before.pages x.frame
  pub tables : (r : ℕ) → is_some (u.regions space r) ≡ ((r == descriptor_page 0 / NPTENTRIES) || is_some (before.regions space r))

first_small : descriptor_page 0 < page_limit
unfolding page_limit
first_small = omega arith

second_small : descriptor_page 1 < page_limit
unfolding page_limit
second_small = omega arith

pub first_outside : is_inside_fence (descriptor_page 0) ≡ false
unfolding in_fence
first_outside = refl

pub second_outside : is_inside_fence (descriptor_page 1) ≡ false
unfolding in_fence
second_outside = refl

module _ (frames : ℕ) (base : KernelState) (live : is_live (slot_at base 1) ≡ true)
    (space_small : (slot_at base 1).directory < frame_limit) where
  abbrev d : ℕ
  d = (slot_at base 1).directory

  -- the space has the console, and the frames are in order
  pub record Begins (memory : ℕ → Option Page) (u : SpacesState) : Type 0 where
    pub has : HasConsole d memory u
    pub others : OthersKept d base.spaces u
    pub in_order : IsInOrder (with_spaces base u)
    pub frames_are : u.frames ≡ frames
    pub used : EachHasUse u

  -- ---- it is loaded

  module _ (memory : ℕ → Option Page) (t : SpacesState) (h : Stage frames base live space_small memory t)
      (none : memory (descriptor_page 0) ≡ None) (none_too : memory (descriptor_page 1) ≡ None) (f : ℕ) (v : SpacesState)
      (is : allocated t d (descriptor_page 0) descriptor_perm ≡ Some (f, v)) where
    abbrev entry : Entry
    entry = descriptor_entry f

    abbrev filled : SpacesState
    filled = with_page_bytes v f console_page

    -- with its second entry
    abbrev pub last : SpacesState
    last = record filled { entries = put filled.entries d (descriptor_page 1) (Some entry) }

    space_is : t.uses d ≡ directory
    space_is = directory_is (t.uses d) (h.in_order.spaces.in_use 1 live)

    no_first : rows_of t d (descriptor_page 0) ≡ None
    no_first = no_row h.has (descriptor_page 0) none

    takes : Takes t v
    takes = allocated_takes t h.in_order.frames h.below d (descriptor_page 0) descriptor_perm space_is space_small first_small
        (omega arith) (no_entry t d (descriptor_page 0) no_first) f v is

    made : Made t v d (descriptor_page 0) descriptor_perm
    made = allocated_made t v d (descriptor_page 0) descriptor_perm f h.in_order.frames takes.one_use refl is

    stands : v.entries d (descriptor_page 0) ≡ Some entry
    stands = allocated_entry t v d (descriptor_page 0) descriptor_perm f is

    frame_is : made.frame ≡ f
    frame_is = made_frame t v d (descriptor_page 0) descriptor_perm f made stands

    one_use : HasOneUse filled
    one_use = filled_one_use v f console_page takes.one_use

    no_second : filled.entries d (descriptor_page 1) ≡ None
    no_second = no_entry v d (descriptor_page 1)
        (row_elsewhere made.placed d (descriptor_page 1) (λ e same. omega (arith, same)) ∙ no_row h.has (descriptor_page 1) none_too)

    region_stands : is_some (filled.regions d (descriptor_page 1 / NPTENTRIES)) ≡ true
    region_stands = one_use.regions d (descriptor_page 0) entry stands

    is_page : filled.uses f ≡ page
    is_page = one_use.pages d (descriptor_page 0) entry stands

    owner : filled.uses d ≡ directory
    owner = one_use.owners d (descriptor_page 0) entry stands

    pub second_inserted : inserted filled d (descriptor_page 1) entry ≡ Some last
    second_inserted = inserted_beside filled d (descriptor_page 1) entry region_stands no_second is_page

    last_one_use : HasOneUse last
    last_one_use =
        let small = one_use.small d (descriptor_page 0) entry stands in
        entry_put filled one_use d (descriptor_page 1) entry is_page owner space_small second_small small.0 (omega arith) region_stands

    given : Given filled last d (descriptor_page 1) entry
    given = inserted_given filled last d (descriptor_page 1) entry d (descriptor_page 0) entry one_use last_one_use refl stands refl
        second_inserted

    first_row : rows_of last d (descriptor_page 0) ≡ Some entry
    unfolding rows_of
    first_row =
        row_elsewhere given.placed d (descriptor_page 0) (λ e same. omega (arith, same)) ∙ row_placed made.placed
        ∙ ap (λ (g : ℕ). Some (descriptor_entry g)) frame_is

    rows_are : (p : ℕ) → p ≢ descriptor_page 0 → p ≢ descriptor_page 1 → rows_of last d p ≡ rows_of t d p
    unfolding rows_of
    rows_are p other other_too = row_elsewhere given.placed d p (λ e. other_too) ∙ row_elsewhere made.placed d p (λ e. other)

    new : (p : ℕ) (x : Entry) → rows_of t d p ≡ Some x → x.frame ≢ f
    new p x there same = made.new d p x there (same ∙ sym frame_is)

    old_bytes : (p : ℕ) (x : Entry) → rows_of t d p ≡ Some x → last.pages x.frame ≡ t.pages x.frame
    old_bytes p x there =
        let other : p ≢ descriptor_page 0 = λ same. none-some x (sym no_first ∙ sym (ap (rows_of t d) same) ∙ there) in
        upd-other v.pages f console_page x.frame (new p x there)
        ∙ made.placed.bytes d p x (row_elsewhere made.placed d p (λ e. other) ∙ there) (made.new d p x there)

    tables_are : (r : ℕ) → is_some (last.regions d r) ≡ ((r == descriptor_page 0 / NPTENTRIES) || is_some (t.regions d r))
    tables_are r =
        let here : (d == d) ≡ true = grind (arith, nat_tests) in
        made.placed.regions d r
        ∙ ap (λ (c : Bool). (c && (r == descriptor_page 0 / NPTENTRIES)) || is_some (t.regions d r)) here

    pub console_begins : Begins memory last
    console_begins = record {
      has = record {
        frame = f;
        first = first_row;
        second = row_placed given.placed;
        shows = upd-at v.pages f console_page;
        before = t;
        had = h.has;
        rows = rows_are;
        others = new;
        bytes = old_bytes;
        tables = tables_are;
      };
      others = others_beside
          (others_more h.others (descriptor_page 0) f descriptor_perm console_page made frame_is
          (allocated_entries t v d (descriptor_page 0) descriptor_perm f is))
          (descriptor_page 0) (descriptor_page 1) entry stands;
      in_order = record {
        frames = last_one_use;
        spaces = spaces_kept t last base.environments takes.directories h.in_order.spaces;
      };
      frames_are = takes.frames ∙ h.frames_are;
      used = inserted_found filled last d (descriptor_page 1) entry d (descriptor_page 0) entry one_use owner second_small stands refl
          (bytes_found v f console_page
          (allocated_found t d (descriptor_page 0) descriptor_perm (f, v) h.in_order.frames space_is first_small h.used is)) second_inserted;
    }

  -- ---- behind the pages of the program and the stack of its handler

  module _ (image : Layout) (words : List (List ℕ)) (file : List ℕ) (lie : All (Lies (length file)) image.segments)
      (some : 0 < stack_size words) (most : stack_size words ≤ 4096) where
    outside_none : (p : ℕ) → p ≢ handler_page → is_inside_fence p ≡ false → space_memory image file words p ≡ None
    outside_none p other outside =
        upd-other (first_memory image file words) handler_page (Some (own zero_page true)) p other
        ∙ outside_no_page image file words lie p outside

    pub no_descriptor : space_memory image file words (descriptor_page 0) ≡ None
    no_descriptor = outside_none (descriptor_page 0) (λ same. omega (arith, same)) first_outside

    pub no_descriptor_too : space_memory image file words (descriptor_page 1) ≡ None
    no_descriptor_too = outside_none (descriptor_page 1) (λ same. omega (arith, same)) second_outside

    pub space_begins : (first u : SpacesState) → Stage frames base live space_small (λ p. None) first →
        space_loaded image.segments file words d first ≡ Some u → Begins (space_memory image file words) u
    unfolding space_loaded console_loaded
    space_begins first u h is =
        by_handler (option_and_then (handler_stack_loaded d) (program_loaded image.segments file words d first)) refl is
      where
        by_frame : (t : SpacesState) → Stage frames base live space_small (space_memory image file words) t → (o : Option (ℕ × SpacesState)) →
            allocated t d (descriptor_page 0) descriptor_perm ≡ o → console_in d o ≡ Some u → Begins (space_memory image file words) u
        by_frame t stage None at none = absurd cc
        by_frame t stage (Some made) at found =
            let memory = space_memory image file words in
            subst (λ (z : SpacesState). Begins (space_memory image file words) z)
            (same_Some (last memory t stage no_descriptor no_descriptor_too made.0 made.1 at) u
            (sym (second_inserted memory t stage no_descriptor no_descriptor_too made.0 made.1 at) ∙ found))
            (console_begins memory t stage no_descriptor no_descriptor_too made.0 made.1 at)

        by_handler : (o : Option SpacesState) →
            option_and_then (handler_stack_loaded d) (program_loaded image.segments file words d first) ≡ o →
            option_and_then (console_loaded d) o ≡ Some u → Begins (space_memory image file words) u
        by_handler None at none = absurd cc
        by_handler (Some t) at found =
            by_frame t (handler_stage frames base live space_small image words file lie some most first t h at)
            (allocated t d (descriptor_page 0) descriptor_perm) refl found
