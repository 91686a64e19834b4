-- The kernel's state goes on standing for the abstract one where a descriptor's page is unmapped, and where one descriptor's page is mapped as
-- another's: the descriptor is gone, or names what the other one names. A service that does so keeps in mind which are open, so that the page
-- and the words that tell how far it is are changed at once.
use Rattle.std.proofs.Common.{◌≡◌, ◌≢◌, ◌∙◌, ◌+◌, ◌/◌, ◌%◌, ◌<◌, ◌==◌, ◌&&◌, ◌||◌, ◌⊎◌, inl, inr, ℕ, Bool, true, false, List, [], ◌∷◌}
use Rattle.std.proofs.Common.{Option, Some, None, not, refl, sym, ap, subst, arith, if◌then◌else◌}
use Rattle.std.specs.Prelude.{is_some, nat_lt}
use Rattle.std.specs.Option.{option_map}
use Rattle.std.proofs.lemmas.Bool.{cases_eq}
use Rattle.std.proofs.lemmas.Bool.Decides.{nat_tests}
use Rattle.std.proofs.lemmas.Option.{same_Some, none-some}
use Rattle.jos_base.specs.declared.called.Called.{Called}
use Rattle.jos_base.specs.declared.called.Called.TheVariants.{Answered}
use Rattle.jos_base.specs.declared.numbers.TheConstants.{NPTENTRIES, SYS_PAGE_MAP, SYS_PAGE_UNMAP, UTEMP}
use Rattle.jos_base.specs.declared.registers.Regs.{Regs}
use Rattle.jos_base.specs.Environments.{Slot, is_live, no_extra}
use Rattle.jos_base.specs.KernelState.{KernelState, slot_at, with_extra, with_slot_at, with_spaces}
use Rattle.jos_base.specs.Reach.{Entry}
use Rattle.jos_base.specs.SpacesState.{SpacesState, inserted, mapped, put, unmapped}
use Rattle.jos_base.specs.SystemCalls.{has_write, shared_entry}
use Rattle.jos_base.specs.Words.{page_number, upd}
use Rattle.lib_os.specs.declared.numbers.TheConstants.{DESCRIPTORS, PFTEMP, REQUEST, UXSTACK}
use Rattle.lib_os.specs.declared.place.Place.{Place}
use Rattle.lib_os.specs.declared.place.Place.TheVariants as place
use Rattle.lib_os.specs.declared.place.Step.{Step}
use Rattle.lib_os.specs.declared.place.Step.TheVariants as step
use Rattle.lib_os.specs.declared.service.Service.{Service}
use Rattle.lib_os.specs.declared.service.Service.TheVariants as service
use Rattle.lib_os.specs.AbstractState.{AbstractState, Born, Phase, ProgramState, Stage, born, entered, guest, at_guest, named, own, with_born}
use Rattle.lib_os.specs.DescriptorPages.{lock_of}
use Rattle.lib_os.specs.Fence.{is_resident}
use Rattle.lib_os.specs.PipeEnds.{EndsStand, LocksStand, is_dropped, is_made, is_on_its_way, locked_at, pipe_named}
use Rattle.jos_base.specs.TrapFrames.{user_flags}
use Rattle.lib_os.specs.Answers.{answered}
use Rattle.lib_os.specs.Descriptors.{object_name, with_descriptor}
use Rattle.lib_os.specs.InOrder.{IsInOrder}
use Rattle.lib_os.specs.LibraryPages.{IsOwnWritable, LibraryPages}
use Rattle.lib_os.specs.LibrarySteps.{TakesAtMost, service_answered}
use Rattle.lib_os.specs.Places.{is_handlers, place_of, words_at}
use Rattle.lib_os.specs.Rows.{Agree, EntryRow, IsNamed, IsPage, IsUsers, MayBeHad, Names, Rows, descriptor_page, descriptor_perm, descriptor_seen}
use Rattle.lib_os.specs.Rows.{is_clients, is_of_descriptor, is_pipe_page, is_programs, is_shared, logical, may_write, name_of, page_by, page_seen}
use Rattle.lib_os.specs.Rows.{pipe_page, rows_of, seen_where, shown_at}
use Rattle.lib_os.specs.Services.{service_of}
use Rattle.lib_os.specs.InService.{IsDuplicating, IsIn, IsOpen, NoneIsOpenBelow}
use Rattle.lib_os.specs.StandsFor.{IsStatusFor, StandsAt, StandsAtStep, StandsFor, StandsForBorn, borne_in, seen_unless, things_in, view_of}
use Rattle.lib_os.specs.UserCalls.{CallStep, giving, system}
use Rattle.lib_os.proofs.CallersStay.{map_answers}
use Rattle.lib_os.proofs.Calls.{made_step, page_unmap_is}
use Rattle.lib_os.proofs.DescriptorLooks.{descriptor_address, descriptor_begins, descriptor_number, descriptor_va, entry_bits, is_descriptors}
use Rattle.lib_os.proofs.DescriptorLooks.{SeesDescriptors, none_up_to, object_below, object_is, page_region, seen_unmade, table_region}
use Rattle.lib_os.proofs.EndsStand.{locks_left}
use Rattle.lib_os.proofs.Effects.{Given, Removed}
use Rattle.lib_os.proofs.EntriesStand.{PutsRow, named_at as named_place, named_bytes, put_is, rows_put, rows_same, rows_stand, same_entry, shown_same}
use Rattle.lib_os.proofs.EntryWords.{row_entry}
use Rattle.lib_os.proofs.FreeFrames.{mapped_more}
use Rattle.lib_os.proofs.Logical.{is_making_pipe, is_plain, logical_plain, programs_no_descriptor, unborne_plain, unmade_makes}
use Rattle.lib_os.proofs.Numbered.{named_at, number_of}
use Rattle.lib_os.proofs.PagesStand.{Puts, bytes_elsewhere, other_regions, others_seen, row_elsewhere}
use Rattle.lib_os.proofs.PipesStand.{IsPipeFrame, calm_dropped, calm_locked, calm_on_way, calm_unmade, ends_at_one, is_calm, is_calm_step}
use Rattle.lib_os.proofs.PipesStand.{locks_beside, locks_calm}
use Rattle.lib_os.proofs.Placing.{inserted_given}
use Rattle.lib_os.proofs.Puts.{put-found}
use Rattle.lib_os.proofs.Remapping.{given_on, inserted_already, lasting_write, page_map_is}
use Rattle.lib_os.proofs.Removing.{unmapped_removed}
use Rattle.lib_os.proofs.Serving.{IsServed, holds_page, library_moved, plain_copy, plain_upcall, plain_working, words_of_none, kept_where}
use Rattle.lib_os.proofs.SlotsStand.{SeenAlike, born_at, born_live, descriptor_shown, minds_page}
use Rattle.lib_os.proofs.StatesStand.{clients_live, ends_at, old_with, others_count, others_counts, own_moves, slot_in_order}
use Rattle.lib_os.proofs.Trying.{LivesOn}
use Rattle.lib_os.proofs.WordsTell.{handler_runs, is_in_handler, place_at}
use Rattle.jos_base.proofs.Maps.{upd-alike, upd-all, upd-at, upd-other}
use Rattle.jos_base.proofs.Options.{some_is}
use Rattle.jos_base.proofs.Puts.{Elsewhere, place_cases, put-at, put-other}
use Rattle.lib_os.proofs.KeptPages.{spawns_aside}

-- ---- in general

own_alike : (row after : EntryRow) (p : ℕ) → after p ≡ row p → IsOwnWritable row p → IsOwnWritable after p
own_alike row after p same h = record { entry = h.entry; stands = same ∙ h.stands; own_page = h.own_page; writes = h.writes }

-- A page with a descriptor's bits, or none, stands at one of the descriptors' pages: the library's other pages are as before.
pub library_kept : (at : Place) (words : List ℕ) (row after : EntryRow) (fd : ℕ) → fd < DESCRIPTORS → ((q : ℕ) → q ≢ descriptor_page fd → after q ≡ row q) →
    ((x : Entry) → after (descriptor_page fd) ≡ Some x → x.perm ≡ descriptor_perm) → LibraryPages at words row →
    LibraryPages at words after
library_kept at words row after fd below same bits h =
    let stack_same : after (page_number UXSTACK) ≡ row (page_number UXSTACK) = same _ (λ is. omega (arith, below, is)) in
    let copy_same : after (page_number PFTEMP) ≡ row (page_number PFTEMP) = same _ (λ is. omega (arith, below, is)) in
    let working_same : after (page_number UTEMP) ≡ row (page_number UTEMP) = same _ (λ is. omega (arith, below, is)) in
    record {
      stack = own_alike row after _ stack_same h.stack;
      copy = λ is. own_alike row after _ copy_same (h.copy is);
      no_copy = λ is. copy_same ∙ h.no_copy is;
      working = λ is. own_alike row after _ working_same (h.working is);
      no_working = λ is. working_same ∙ h.no_working is;
      descriptors = λ q entry is stands. elim (cases_eq q (descriptor_page fd)) [
        | inl here ↦ bits entry (ap after (sym here) ∙ stands)
        | inr there ↦ h.descriptors q entry is (sym (same q there) ∙ stands)
      ];
      spawns = λ q is. own_alike row after q (beside q (spawns_aside at words q is).no_descriptor) (h.spawns q is);
      none = λ q outside no_descriptor no_stack no_copy no_working no_spawns.
          beside q no_descriptor ∙ h.none q outside no_descriptor no_stack no_copy no_working no_spawns;
    }
  where
    beside : (q : ℕ) → is_of_descriptor q ≡ false → after q ≡ row q
    beside q none =
        same q (λ is. let contradiction : true ≡ false = sym (is_descriptors fd below) ∙ ap is_of_descriptor (sym is) ∙ none in cc)

-- It stands at any page of theirs, be it that of a pipe.
pub library_put_there : (at : Place) (words : List ℕ) (row after : EntryRow) (p : ℕ) → is_of_descriptor p ≡ true →
    ((q : ℕ) → q ≢ p → after q ≡ row q) → ((x : Entry) → after p ≡ Some x → x.perm ≡ descriptor_perm) → LibraryPages at words row → LibraryPages at words after
library_put_there at words row after p is_there same bits h = record {
  stack = own_alike row after _ (beside (page_number UXSTACK) refl) h.stack;
  copy = λ is. own_alike row after _ (beside (page_number PFTEMP) refl) (h.copy is);
  no_copy = λ is. beside (page_number PFTEMP) refl ∙ h.no_copy is;
  working = λ is. own_alike row after _ (beside (page_number UTEMP) refl) (h.working is);
  no_working = λ is. beside (page_number UTEMP) refl ∙ h.no_working is;
  descriptors = λ q entry is stands. elim (cases_eq q p) [
    | inl here ↦ bits entry (ap after (sym here) ∙ stands)
    | inr there ↦ h.descriptors q entry is (sym (same q there) ∙ stands)
  ];
  spawns = λ q is. own_alike row after q (beside q (spawns_aside at words q is).no_descriptor) (h.spawns q is);
  none = λ q outside no_descriptor no_stack no_copy no_working no_spawns.
      beside q no_descriptor ∙ h.none q outside no_descriptor no_stack no_copy no_working no_spawns;
}
  where
    beside : (q : ℕ) → is_of_descriptor q ≡ false → after q ≡ row q
    beside q none = same q (λ is. let contradiction : true ≡ false = sym is_there ∙ ap is_of_descriptor (sym is) ∙ none in cc)

-- ---- an entry of a descriptor's page, or of a pipe's, goes, or is put where none stood

module _ {names : Names} {s : KernelState} {a : AbstractState} {sp : SpacesState} (h : StandsFor names s a) (n : ℕ) (b : Born)
    (at : a.slots n ≡ born b) where
  module _ (p : ℕ) (removed : Removed s.spaces sp (slot_at s n).directory p) where
    pub removed_puts : Puts names names s.spaces sp (slot_at s n).directory p None
    removed_puts = record {
      rows = removed.rows;
      bytes = λ q r x ne hx.
          removed.bytes q r x (ap (λ (rows : Rows). rows q r) removed.rows ∙ put-other (rows_of s.spaces) (slot_at s n).directory p None q r ne ∙ hx);
      named_so = λ q r x hx shared_page. refl;
      regions = λ q r ne. removed.regions q r;
    }

    pub removed_row : PutsRow names names s.spaces.pages a.shared sp.pages a.shared (things_in s a) a.next_name a.next_name
        (logical s.spaces s.environments.slots) n p None
    removed_row = record {
      bytes = bytes_elsewhere h n b at removed_puts;
      agree = λ m q x e ne hx is same. absurd (none-some e is);
      user = λ e is. absurd (none-some e is);
      whole = λ e is. absurd (none-some e is);
      beside = λ q e y is there. absurd (none-some e is);
      named_new = λ e is. absurd (none-some e is);
      named_old = λ m q x ne hx shared_page was. named_bytes (sym (bytes_elsewhere h n b at removed_puts m q x ne hx)) was;
    }

  module _ (plain : is_plain (place_of (slot_at s n)) ≡ true) (from p : ℕ) (from_is : is_of_descriptor from ≡ true) (there_is : is_of_descriptor p ≡ true)
      (kind : is_pipe_page p ≡ is_pipe_page from) (x : Entry) (is_here : rows_of s.spaces (slot_at s n).directory from ≡ Some x)
      (given : Given s.spaces sp (slot_at s n).directory p x) where
    is_shared_page : is_shared x.perm ≡ true
    is_shared_page = ap is_shared ((born_at h n b at).library.descriptors from x from_is is_here)

    -- the old one's entry counts
    pub counts_here : logical s.spaces s.environments.slots n from ≡ Some x
    counts_here = logical_plain s.spaces s.environments.slots n (clients_live h n b at) plain from ∙ is_here

    given_bytes : (q r : ℕ) (y : Entry) → Elsewhere q r (slot_at s n).directory p → rows_of s.spaces q r ≡ Some y → sp.pages y.frame ≡ s.spaces.pages y.frame
    given_bytes q r y ne hy = by_frame (y.frame == x.frame) refl
      where
        by_frame : (c : Bool) → (y.frame == x.frame) ≡ c → sp.pages y.frame ≡ s.spaces.pages y.frame
        by_frame true test =
            let same : x.frame ≡ y.frame = grind (arith, nat_tests) in
            subst (λ (f : ℕ). sp.pages f ≡ s.spaces.pages f) same given.same
        by_frame false test =
            let other : y.frame ≢ x.frame = grind (arith, nat_tests) in
            given.placed.bytes q r y (row_elsewhere given.placed q r ne ∙ hy) other

    -- it agrees with every entry of its frame, itself among them
    given_agrees : (q r : ℕ) (y : Entry) → logical s.spaces s.environments.slots q r ≡ Some y → y.frame ≡ x.frame → Agree y.perm x.perm
    given_agrees q r y hy same = by_place (place_cases q r n from)
      where
        by_place : ((q ≡ n) × (r ≡ from)) ⊎ Elsewhere q r n from → Agree y.perm x.perm
        by_place (inl here) =
            subst (λ (z : Entry). Agree z.perm x.perm)
            (sym (same_entry (logical s.spaces s.environments.slots) q r n from y x here.0 here.1 hy counts_here))
            (record { shared = refl; read_only = λ own_page. absurd (let contradiction : true ≡ false = sym is_shared_page ∙ own_page in cc) })
        by_place (inr there) = h.apart q r n from y x there hy counts_here same

    -- the file server may have the page as it may at the old one
    had_too : (request : Bool) → MayBeHad request from x → MayBeHad request p x
    had_too true had = absurd (let contradiction : true ≡ false = sym from_is ∙ ap is_of_descriptor had.0 in cc)
    had_too false had = record { descriptor = there_is; shared = had.shared }

    pub given_puts : Puts names names s.spaces sp (slot_at s n).directory p (Some x)
    given_puts = record {
      rows = given.placed.rows;
      bytes = given_bytes;
      named_so = λ q r y hy shared_page. refl;
      regions = other_regions given.placed;
    }

    pub given_row : PutsRow names names s.spaces.pages a.shared sp.pages a.shared (things_in s a) a.next_name a.next_name
        (logical s.spaces s.environments.slots) n p (Some x)
    given_row = record {
      bytes = bytes_elsewhere h n b at given_puts;
      agree = λ q r y e ne hy is same.
          let same_one : x ≡ e = same_Some x e is in
          subst (λ (z : Entry). Agree y.perm z.perm) same_one
          (given_agrees q r y hy (same ∙ ap (λ (z : Entry). z.frame) (sym same_one)));
      user = λ e is. subst (λ (z : Entry). IsUsers z.perm) (same_Some x e is) (h.users n from x counts_here);
      whole = λ e is. subst (λ (z : Entry). IsPage (sp.pages z.frame)) (same_Some x e is)
          (subst (λ (l : List ℕ). IsPage l) (sym given.same) (h.whole n from x counts_here));
      beside = λ q e y is there.
          subst (λ (z : Entry). z.frame ≡ y.frame → MayBeHad (q == page_number REQUEST) p z) (same_Some x e is)
          (λ same. had_too (q == page_number REQUEST) (h.beside n from q x y counts_here there same));
      named_new = λ e is. subst (λ (y : Entry). is_shared y.perm ≡ true → IsNamed names sp.pages a.shared (things_in s a) a.next_name p y.frame)
          (same_Some x e is)
          (λ shared_page. named_bytes (sym given.same) (named_place (there_is ∙ sym from_is) kind (h.named n from x counts_here shared_page)));
      named_old = λ q r y ne hy shared_page was. named_bytes (sym (bytes_elsewhere h n b at given_puts q r y ne hy)) was;
    }

    -- the region had its table
    pub given_tables : p / NPTENTRIES ≡ table_region → is_some (s.spaces.regions (slot_at s n).directory table_region) ≡ true → (r : ℕ) →
        is_some (sp.regions (slot_at s n).directory r) ≡ is_some (s.spaces.regions (slot_at s n).directory r)
    given_tables region tabled r =
        given.placed.regions (slot_at s n).directory r
        ∙ ap (λ (c : Bool). (c && (r == p / NPTENTRIES)) || is_some (s.spaces.regions (slot_at s n).directory r)) here
        ∙ by_region (r == p / NPTENTRIES) refl
      where
        here : ((slot_at s n).directory == (slot_at s n).directory) ≡ true
        here = grind (arith, nat_tests)

        by_region : (c : Bool) → (r == p / NPTENTRIES) ≡ c → (c || is_some (s.spaces.regions (slot_at s n).directory r))
            ≡ is_some (s.spaces.regions (slot_at s n).directory r)
        by_region true test =
            let is : r ≡ p / NPTENTRIES = grind (arith, nat_tests) in
            let same : table_region ≡ r = sym (is ∙ region) in
            subst (λ (q : ℕ). true ≡ is_some (s.spaces.regions (slot_at s n).directory q)) same (sym tabled)
        by_region false test = refl

-- ---- and with it the registers and the words of the slot are others

pub unmade_made : (at : Place) → is_making_pipe at ≡ false → (fd : ℕ) → is_made at fd ≡ false
unmade_made (place.InService service.Pipe (step.Piped at)) unmade fd = unmade_makes at unmade fd
unmade_made _ unmade fd = refl

module _ {names : Names} {s : KernelState} {a : AbstractState} {sp : SpacesState} {o : Option Entry} (h : StandsFor names s a) (n : ℕ) (b : Born)
    (at : a.slots n ≡ born b) (p : ℕ) (of_descriptor : is_of_descriptor p ≡ true)
    (puts : Puts names names s.spaces sp (slot_at s n).directory p o) (outside : is_handlers (slot_at s n).registers.esp ≡ false)
    (unborne : borne_in (place_of (slot_at s n)) ≡ None) (unmade : is_making_pipe (place_of (slot_at s n)) ≡ false)
    (unlocked : locked_at (place_of (slot_at s n)) ≡ None) (last : s.last ≡ Some n) where
  abbrev home : ℕ
  home = (slot_at s n).directory

  abbrev before : Rows
  before = logical s.spaces s.environments.slots

  others : (q : ℕ) → q ≢ home → SeenAlike names names s.spaces sp q
  others = others_seen h n b at puts

  had : StandsForBorn names s.spaces (slot_at s n) b
  had = born_at h n b at

  client : is_clients n (slot_at s n) ≡ true
  client = clients_live h n b at

  unhandled : is_in_handler (place_of (slot_at s n)) ≡ false
  unhandled = handler_runs (slot_at s n).registers (slot_at s n).extra ∙ outside

  plain : is_plain (place_of (slot_at s n)) ≡ true
  plain = unborne_plain (place_of (slot_at s n)) unhandled unborne unmade

  pub row_beside : (q : ℕ) → q ≢ p → rows_of sp (slot_at s n).directory q ≡ rows_of s.spaces (slot_at s n).directory q
  row_beside q ne = ap (λ (rows : Rows). rows home q) puts.rows ∙ put-other (rows_of s.spaces) home p o home q (λ same too. ne too)

  pub row_there : rows_of sp (slot_at s n).directory p ≡ o
  row_there = ap (λ (rows : Rows). rows home p) puts.rows ∙ put-at (rows_of s.spaces) home p o

  shown_beside : (q : ℕ) → q ≢ p → shown_at names sp home q ≡ shown_at names s.spaces home q
  shown_beside q ne =
      shown_same names names s.spaces sp home q (row_beside q ne) (λ x hx own_page. puts.bytes home q x (λ same too. ne too) hx)
      (λ x hx shared_page. refl)

  -- other descriptors are seen as they were, and so is the memory
  pub seen_beside : (q : ℕ) → q < DESCRIPTORS → descriptor_page q ≢ p →
      descriptor_seen names sp (slot_at s n).directory q ≡ descriptor_seen names s.spaces (slot_at s n).directory q
  seen_beside q below ne = descriptor_shown names names s.spaces sp home q (shown_beside (descriptor_page q) ne)

  memory_same : (q : ℕ) (c : Bool) → is_programs q ≡ c → page_seen names sp home q ≡ page_seen names s.spaces home q
  memory_same q true inside =
      ap (seen_where (is_programs q))
      (shown_beside q (λ is.
      let contradiction : true ≡ false = sym of_descriptor ∙ ap is_of_descriptor (sym is) ∙ programs_no_descriptor q inside in cc))
  memory_same q false off =
      ap (λ (c : Bool). seen_where c (shown_at names sp home q)) off ∙ sym (ap (λ (c : Bool). seen_where c (shown_at names s.spaces home q)) off)

  module _ (regs : Regs) (words : List ℕ) (after : Place)
      (there : place_of (record (slot_at s n) { registers = regs; extra = words }) ≡ after) (outside_after : is_in_handler after ≡ false)
      (unborne_after : borne_in after ≡ None) (unmade_after : is_making_pipe after ≡ false) (unlocked_after : locked_at after ≡ None) where
    abbrev moved : Slot
    moved = record (slot_at s n) { registers = regs; extra = words }

    abbrev counted_after : Rows
    counted_after = logical sp (upd s.environments.slots n moved)

    plain_after : is_plain (place_of moved) ≡ true
    plain_after = ap is_plain there ∙ unborne_plain after outside_after unborne_after unmade_after

    -- all entries count as they did, and this one with them
    counts_after : (m q : ℕ) → counted_after m q ≡ put before n p o m q
    counts_after = put_is before counted_after n p o (here p ∙ row_there) beside
      where
        slot_is : upd s.environments.slots n moved n ≡ moved
        slot_is = upd-at s.environments.slots n moved

        here : (q : ℕ) → counted_after n q ≡ rows_of sp home q
        here q =
            logical_plain sp (upd s.environments.slots n moved) n (ap (λ (k : Slot). is_clients n k) slot_is ∙ client)
            (ap (λ (k : Slot). is_plain (place_of k)) slot_is ∙ plain_after) q
            ∙ ap (λ (k : Slot). rows_of sp k.directory q) slot_is

        beside : (m q : ℕ) → Elsewhere m q n p → counted_after m q ≡ before m q
        beside m q ne = by_slot (m == n) refl
          where
            by_slot : (c : Bool) → (m == n) ≡ c → counted_after m q ≡ before m q
            by_slot true test =
                let same : m ≡ n = grind (arith, nat_tests) in
                subst (λ (r : ℕ). counted_after r q ≡ before r q) (sym same)
                (here q ∙ row_beside q (ne same) ∙ sym (logical_plain s.spaces s.environments.slots n client plain q))
            by_slot false test = others_count h n b at moved others m (grind (arith, nat_tests)) q

    places : (m : ℕ) → locked_at (place_of (upd s.environments.slots n moved m)) ≡ locked_at (place_of (slot_at s m))
    places = upd-alike (λ (x : Slot). locked_at (place_of x)) s.environments.slots n moved (ap locked_at there ∙ unlocked_after ∙ sym unlocked)

    -- Locks are held by whom they were, where the page is that of a descriptor,
    pub locks_off : is_pipe_page p ≡ false → LocksStand sp.pages (upd s.environments.slots n (record (slot_at s n) { registers = regs; extra = words }))
        (logical sp (upd s.environments.slots n (record (slot_at s n) { registers = regs; extra = words })))
    locks_off none = locks_beside n p o none places counts_after (bytes_elsewhere h n b at puts) h.locks

    unheld : (m fd : ℕ) → locked_at (place_of (slot_at s m)) ≡ Some fd → m ≢ n
    unheld m fd locked same =
        none-some fd (sym unlocked ∙ ap (λ (q : ℕ). locked_at (place_of (slot_at s q))) (sym same) ∙ locked)

    -- where that of a pipe goes,
    pub locks_gone : o ≡ None → LocksStand sp.pages (upd s.environments.slots n (record (slot_at s n) { registers = regs; extra = words }))
        (logical sp (upd s.environments.slots n (record (slot_at s n) { registers = regs; extra = words })))
    locks_gone gone = locks_left (λ m fd x below locked stands. sym (places m) ∙ locked) forth still h.locks
      where
        forth : (m fd : ℕ) (x : Entry) → fd < DESCRIPTORS → locked_at (place_of (slot_at s m)) ≡ Some fd → before m (pipe_page fd) ≡ Some x →
            (locked_at (place_of (upd s.environments.slots n moved m)) ≡ Some fd) × (counted_after m (pipe_page fd) ≡ Some x)
        forth m fd x below locked stands = (
          places m ∙ locked,
          counts_after m (pipe_page fd) ∙ put-other before n p o m (pipe_page fd) (λ same. absurd (unheld m fd locked same)) ∙ stands,
        )

        still : (m fd : ℕ) (x : Entry) → fd < DESCRIPTORS → counted_after m (pipe_page fd) ≡ Some x →
            (before m (pipe_page fd) ≡ Some x) × (sp.pages x.frame ≡ s.spaces.pages x.frame)
        still m fd x below stands = elim (put-found before n p o m (pipe_page fd) x (sym (counts_after m (pipe_page fd)) ∙ stands)) [
          | inl here ↦ absurd (none-some x (sym gone ∙ here.2))
          | inr it ↦ (it.1, bytes_elsewhere h n b at puts m (pipe_page fd) x it.0 it.1)
        ]

    -- and where it is put where none stood, as one that the environment has.
    pub locks_given : (old : ℕ) (x : Entry) → old < DESCRIPTORS → rows_of s.spaces (slot_at s n).directory (pipe_page old) ≡ Some x → o ≡ Some x →
        rows_of s.spaces (slot_at s n).directory p ≡ None →
        LocksStand sp.pages (upd s.environments.slots n (record (slot_at s n) { registers = regs; extra = words }))
        (logical sp (upd s.environments.slots n (record (slot_at s n) { registers = regs; extra = words })))
    locks_given old x old_below old_is is vacant =
        locks_calm n unlocked (ap (λ (k : Slot). locked_at (place_of k)) (upd-at s.environments.slots n moved) ∙ ap locked_at there ∙ unlocked_after)
        (λ m ne. places m) (λ m q ne pipes. counts_after m q ∙ put-other before n p o m q (λ same. absurd (ne same))) mine bytes h.locks
      where
        own_counts : (q : ℕ) → before n q ≡ rows_of s.spaces home q
        own_counts q = logical_plain s.spaces s.environments.slots n client plain q

        mine : (fd : ℕ) (y : Entry) → fd < DESCRIPTORS → counted_after n (pipe_page fd) ≡ Some y → is_shared y.perm ≡ true → IsPipeFrame before y.frame
        mine fd y below stands shared_page = elim (put-found before n p o n (pipe_page fd) y (sym (counts_after n (pipe_page fd)) ∙ stands)) [
          | inl here ↦
              let same : x ≡ y = same_Some x y (sym is ∙ here.2) in record {
                slot = n;
                fd = old;
                below = old_below;
                entry = x;
                stands = own_counts (pipe_page old) ∙ old_is;
                shared = ap (λ (e : Entry). is_shared e.perm) same ∙ shared_page;
                same = ap (λ (e : Entry). e.frame) same;
              }
          | inr it ↦ record { slot = n; fd = fd; below = below; entry = y; stands = it.1; shared = shared_page; same = refl }
        ]

        bytes : (m fd : ℕ) (y : Entry) → fd < DESCRIPTORS → before m (pipe_page fd) ≡ Some y → is_shared y.perm ≡ true →
            lock_of (sp.pages y.frame) ≡ lock_of (s.spaces.pages y.frame)
        bytes m fd y below stands shared_page =
            ap lock_of
            (bytes_elsewhere h n b at puts m (pipe_page fd) y
            (λ same too. none-some y
            (sym (own_counts p ∙ vacant) ∙ (λ i. before (sym same i) (sym too i)) ∙ stands)) stands)

    -- The state stands for that in which the environment has these descriptors, and its program is at this place.
    pub page_moves : (program : ProgramState) (phase : Phase) (blocked : Bool) (descriptors : ℕ → Option ℕ) →
        IsStatusFor (slot_at s n).status blocked → regs.esp ≡ (slot_at s n).registers.esp → regs.eflags ≡ (slot_at s n).registers.eflags →
        holds_page (place_of (slot_at s n)) ≡ holds_page after →
        PutsRow names names s.spaces.pages a.shared sp.pages a.shared (things_in s a) a.next_name a.next_name
        (logical s.spaces s.environments.slots) n p o →
        ((x : Entry) → o ≡ Some x → x.perm ≡ descriptor_perm) →
        ((r : ℕ) → is_some (sp.regions (slot_at s n).directory r) ≡ is_some (s.spaces.regions (slot_at s n).directory r)) →
        ((fd : ℕ) → is_dropped after fd ≡ false → descriptors fd ≡ descriptor_seen names sp (slot_at s n).directory fd) →
        StandsAt after (view_of sp (slot_at s n).directory) (record (slot_at s n) { registers = regs; extra = words })
        (record b { program = program; phase = phase; blocked = blocked; descriptors = descriptors }) →
        EndsStand names a.objects after (rows_of sp (slot_at s n).directory)
        (record b { program = program; phase = phase; blocked = blocked; descriptors = descriptors }) →
        LocksStand sp.pages (upd s.environments.slots n (record (slot_at s n) { registers = regs; extra = words }))
        (logical sp (upd s.environments.slots n (record (slot_at s n) { registers = regs; extra = words }))) →
        IsInOrder (with_spaces s sp) → ((fd name : ℕ) → descriptors fd ≡ Some name → name < a.next_name) →
        StandsFor names (with_slot_at (with_spaces s sp) n (record (slot_at s n) { registers = regs; extra = words }))
        (with_born a n (record b { program = program; phase = phase; blocked = blocked; descriptors = descriptors }))
    page_moves program phase blocked descriptors status esp eflags held row bits tables seen so ends locks in_order olds =
        own_moves h n b at sp moved c a.shared a.next_name refl (record { id = refl; env_type = refl; turns = refl; calm = λ runs. runs }) unborne
        (ap borne_in there ∙ unborne_after) others mine
        (rows_same (put before n p o) counted_after counts_after (rows_put (rows_stand h) row)) (slot_in_order (with_spaces s sp) n moved refl refl in_order)
        (others_counts h n last sp) (subst (λ (q : Place). EndsStand names a.objects q (rows_of sp home) c) (sym there) ends) locks
        (omega arith) olds
      where
        c : Born
        c = record b { program = program; phase = phase; blocked = blocked; descriptors = descriptors }

        unhandled_after : is_in_handler (place_of moved) ≡ false
        unhandled_after = ap is_in_handler there ∙ outside_after

        mine : StandsForBorn names sp moved c
        mine = record {
          id = had.id;
          id_small = had.id_small;
          parent = had.parent;
          env_type = had.env_type;
          runs = status;
          upcall = had.upcall ∙ plain_upcall (place_of (slot_at s n)) unhandled ∙ sym (plain_upcall (place_of moved) unhandled_after);
          descriptors = λ fd still.
              seen fd (sym (ap (λ (q : Place). is_dropped q fd) there) ∙ still)
              ∙ sym (ap (λ (t : Bool). seen_unless t (descriptor_seen names sp home fd))
              (unmade_made (place_of moved) (ap is_making_pipe there ∙ unmade_after) fd));
          memory = λ q. had.memory q ∙ sym (memory_same q (is_programs q) refl);
          library = library_moved (place_of (slot_at s n)) (place_of moved) (slot_at s n).extra words (rows_of sp home)
              (plain_copy (place_of (slot_at s n)) unhandled ∙ sym (plain_copy (place_of moved) unhandled_after))
              (plain_working (place_of (slot_at s n)) (slot_at s n).extra unhandled ∙ held ∙ sym (ap holds_page there)
              ∙ sym (plain_working (place_of moved) words unhandled_after))
              (library_put_there (place_of (slot_at s n)) (slot_at s n).extra (rows_of s.spaces home) (rows_of sp home) p of_descriptor row_beside
              (λ x is. bits x (sym row_there ∙ is)) had.library);
          regions_have = λ r is. tables r ∙ had.regions_have r is;
          regions_only = λ r is. had.regions_only r (sym (tables r) ∙ is);
          stack = ap (λ (e : ℕ). is_handlers e || not (is_resident e)) esp ∙ had.stack;
          flags = subst (λ (f : ℕ). f ≡ user_flags f) (sym eflags) had.flags;
          at = subst (λ (q : Place). StandsAt q (view_of sp home) moved c) (sym there) so;
        }

-- ---- a service that has changed a page, and the words with it

-- where nothing is kept in mind at the beginning, no page is kept later
pub holds_none : (s : Service) → minds_page (place.InService s step.Entered) ≡ false → (at : Step) → holds_page (place.InService s at) ≡ kept_where false
holds_none (service.Write fd va len) calm at = absurd (let contradiction : true ≡ false = calm in cc)
holds_none (service.Remove path) calm at = absurd (let contradiction : true ≡ false = calm in cc)
holds_none (service.OpenFile path mode) calm at = absurd (let contradiction : true ≡ false = calm in cc)
holds_none (service.Seek fd offset) calm at = absurd (let contradiction : true ≡ false = calm in cc)
holds_none (service.Read fd va len) calm at = absurd (let contradiction : true ≡ false = calm in cc)
holds_none (service.Stat fd va) calm at = absurd (let contradiction : true ≡ false = calm in cc)
holds_none (service.SetSize fd size) calm at = absurd (let contradiction : true ≡ false = calm in cc)
holds_none (service.Spawn path argv) calm at = absurd (let contradiction : true ≡ false = calm in cc)
holds_none _ calm at = refl

-- ---- where one descriptor changes

-- At a step no lock is held, no pipe is made, none is dropped, and no descriptor but this one is on its way.
pub record TouchesOne (s : Service) (from : Step) (fd : ℕ) : Type 0 where
  pub unlocked : locked_at (place.InService s from) ≡ None
  pub unmade : is_making_pipe (place.InService s from) ≡ false
  pub undropped : (q : ℕ) → is_dropped (place.InService s from) q ≡ false
  pub off_way : (q : ℕ) → q ≢ fd → is_on_its_way (place.InService s from) q ≡ false

pub touches_calm : (s : Service) (from : Step) (fd : ℕ) → is_calm_step from ≡ true → TouchesOne s from fd
touches_calm s from fd calm = record {
  unlocked = calm_locked (place.InService s from) calm;
  unmade = calm_unmade (place.InService s from) calm;
  undropped = calm_dropped (place.InService s from) calm;
  off_way = λ q ne. calm_on_way (place.InService s from) calm q;
}

pub touches_given : (old new : ℕ) → TouchesOne (service.Dup old new) step.MappingDescriptor new
touches_given old new = record {
  unlocked = refl;
  unmade = refl;
  undropped = λ q. refl;
  off_way = λ q ne. grind (arith, nat_tests);
}

module _ {names : Names} {s : KernelState} {a : AbstractState} (h : StandsFor names s a) (n : ℕ) (service : Service) (from : Step)
    (v : IsServed names s a n service from) (unborne : borne_in (place.InService service from) ≡ None)
    (calm : minds_page (place.InService service step.Entered) ≡ false) (is_in : IsIn (slot_at s n) v.b service entered) (fd : ℕ)
    (below : fd < DESCRIPTORS) (one : TouchesOne service from fd) (last : s.last ≡ Some n) where
  abbrev d : ℕ
  d = (slot_at s n).directory

  -- the state behind a call that leaves these spaces, at another step of the service
  abbrev pub goes_on_in : SpacesState → Step → KernelState
  goes_on_in sp to = with_extra (with_spaces s sp) n (words_at (number_of service) to)

  -- what stands there is so of the environment with a descriptor
  abbrev pub StandsThere : SpacesState → Step → Option ℕ → Type 0
  StandsThere sp to name =
      StandsAtStep (view_of sp d) (record (slot_at s n) { extra = words_at (number_of service) to }) (with_descriptor v.b fd name) service to

  names_it : service_of (record (slot_at s n).registers { eax = number_of service }) ≡ service
  names_it = named_at (slot_at s n) service from v.place

  seen_all : SeesDescriptors names s n v.b
  seen_all =
      seen_unmade h n v.b v.is (unmade_made (place_of (slot_at s n)) (ap is_making_pipe v.place ∙ one.unmade))
      (λ q. ap (λ (at : Place). is_dropped at q) v.place ∙ one.undropped q)

  was_ends : EndsStand names a.objects (place.InService service from) (rows_of s.spaces d) v.b
  was_ends = subst (λ (at : Place). EndsStand names a.objects at (rows_of s.spaces d) v.b) v.place (ends_at h n v.b v.is)

  fd_is : is_of_descriptor (descriptor_page fd) ≡ true
  fd_is = is_descriptors fd below

  fd_no_pipe : is_pipe_page (descriptor_page fd) ≡ false
  fd_no_pipe = grind (arith, nat_tests)

  other_page : (q : ℕ) → q < DESCRIPTORS → q ≢ fd → descriptor_page q ≢ descriptor_page fd
  other_page q q_below ne same = ne (omega (arith, same))

  beside_pipes : (q : ℕ) → q < DESCRIPTORS → pipe_page q ≢ descriptor_page fd
  beside_pipes q q_below same = absurd (omega (arith, same, q_below, below))

  none_held : (at : Step) → holds_page (place_of (slot_at s n)) ≡ holds_page (place.InService service at)
  none_held at = ap holds_page v.place ∙ holds_none service calm from ∙ sym (holds_none service calm at)

  module _ {sp : SpacesState} {o : Option Entry} (in_order : IsInOrder (with_spaces s sp)) (name : Option ℕ)
      (puts : Puts names names s.spaces sp (slot_at s n).directory (descriptor_page fd) o)
      (row : PutsRow names names s.spaces.pages a.shared sp.pages a.shared (things_in s a) a.next_name a.next_name
      (logical s.spaces s.environments.slots) n (descriptor_page fd) o)
      (bits : (x : Entry) → o ≡ Some x → x.perm ≡ descriptor_perm)
      (tables : (r : ℕ) → is_some (sp.regions (slot_at s n).directory r) ≡ is_some (s.spaces.regions (slot_at s n).directory r))
      (name_is : name ≡ name_of (option_map (page_by names sp.pages) o))
      (have_it : (one_name pipe : ℕ) → name ≡ Some one_name → pipe_named a.objects one_name ≡ Some pipe →
      (entry : Entry) × (rows_of s.spaces (slot_at s n).directory (pipe_page fd) ≡ Some entry) × (names.name entry.frame ≡ pipe))
      (only_it : (entry : Entry) → rows_of s.spaces (slot_at s n).directory (pipe_page fd) ≡ Some entry →
      (one_name : ℕ) × (name ≡ Some one_name) × (pipe_named a.objects one_name ≡ Some (names.name entry.frame)))
      (old_it : (one_name : ℕ) → name ≡ Some one_name → one_name < a.next_name) where
    olds_then : (q one : ℕ) → upd v.b.descriptors fd name q ≡ Some one → one < a.next_name
    olds_then = old_with (λ q one names_it. h.old n q one v.b v.is names_it) fd name old_it

    unborne_here : borne_in (place_of (slot_at s n)) ≡ None
    unborne_here = ap borne_in v.place ∙ unborne

    unmade_here : is_making_pipe (place_of (slot_at s n)) ≡ false
    unmade_here = ap is_making_pipe v.place ∙ one.unmade

    unlocked_here : locked_at (place_of (slot_at s n)) ≡ None
    unlocked_here = ap locked_at v.place ∙ one.unlocked

    row_same : (q : ℕ) → q < DESCRIPTORS → rows_of sp d (pipe_page q) ≡ rows_of s.spaces d (pipe_page q)
    row_same q q_below =
        row_beside h n v.b v.is (descriptor_page fd) fd_is puts v.outside unborne_here unmade_here unlocked_here last (pipe_page q) (beside_pipes q q_below)

    seen_then : (q : ℕ) → upd v.b.descriptors fd name q ≡ descriptor_seen names sp d q
    seen_then = upd-all (λ q (w : Option ℕ). w ≡ descriptor_seen names sp d q) v.b.descriptors fd name (name_is ∙ sym here)
        (λ q ne. seen_all q ∙ sym (beside q ne (nat_lt q DESCRIPTORS) refl))
      where
        here : descriptor_seen names sp d fd ≡ name_of (option_map (page_by names sp.pages) o)
        here =
            let test : nat_lt fd DESCRIPTORS ≡ true = grind (arith, nat_tests) in
            ap (λ (c : Bool). if c then name_of (shown_at names sp d (descriptor_page fd)) else None) test
            ∙ ap (λ (e : Option Entry). name_of (option_map (page_by names sp.pages) e))
            (row_there h n v.b v.is (descriptor_page fd) fd_is puts v.outside unborne_here unmade_here unlocked_here last)

        beside : (q : ℕ) → q ≢ fd → (c : Bool) → nat_lt q DESCRIPTORS ≡ c → descriptor_seen names sp d q ≡ descriptor_seen names s.spaces d q
        beside q ne true test =
            let q_below : q < DESCRIPTORS = grind (arith, nat_tests) in
            seen_beside h n v.b v.is (descriptor_page fd) fd_is puts v.outside unborne_here unmade_here unlocked_here last q q_below (other_page q q_below ne)
        beside q ne false test =
            ap (λ (c : Bool). if c then name_of (shown_at names sp d (descriptor_page q)) else None) test
            ∙ sym (ap (λ (c : Bool). if c then name_of (shown_at names s.spaces d (descriptor_page q)) else None) test)

    ends_then : (to : Place) → is_calm to ≡ true → (c : Born) → ((q : ℕ) → c.descriptors q ≡ upd v.b.descriptors fd name q) →
        EndsStand names a.objects to (rows_of sp d) c
    ends_then to calm_to c is =
        ends_at_one fd (λ q ne. calm_on_way to calm_to q ∙ sym (one.off_way q ne)) (λ q ne. is q ∙ upd-other v.b.descriptors fd name q ne)
        (λ q other it. refl) (λ q q_below ne. row_same q q_below) (λ q x q_below it. refl) have only was_ends
      where
        have : (one_name pipe : ℕ) → fd < DESCRIPTORS → c.descriptors fd ≡ Some one_name → pipe_named a.objects one_name ≡ Some pipe →
            (entry : Entry) × (rows_of sp d (pipe_page fd) ≡ Some entry) × (names.name entry.frame ≡ pipe)
        have one_name pipe fd_below so piped =
            let it = have_it one_name pipe (sym (is fd ∙ upd-at v.b.descriptors fd name) ∙ so) piped in (it.0, row_same fd fd_below ∙ it.1, it.2)

        only : (entry : Entry) → fd < DESCRIPTORS → is_on_its_way to fd ≡ false → rows_of sp d (pipe_page fd) ≡ Some entry →
            (one_name : ℕ) × (c.descriptors fd ≡ Some one_name) × (pipe_named a.objects one_name ≡ Some (names.name entry.frame))
        only entry fd_below off lies =
            let it = only_it entry (sym (row_same fd fd_below) ∙ lies) in (it.0, is fd ∙ upd-at v.b.descriptors fd name ∙ it.1, it.2)

    goes : (to : Step) → borne_in (place.InService service to) ≡ None → is_calm_step to ≡ true → StandsThere sp to name →
        StandsFor names (goes_on_in sp to) (with_born a n (with_descriptor v.b fd name))
    goes to none calm_to so =
        page_moves h n v.b v.is (descriptor_page fd) fd_is puts v.outside unborne_here unmade_here unlocked_here last (slot_at s n).registers
        (words_at (number_of service) to) (place.InService service to) there refl none (calm_unmade (place.InService service to) calm_to)
        (calm_locked (place.InService service to) calm_to) v.b.program v.b.phase v.b.blocked (upd v.b.descriptors fd name) v.own.runs refl refl
        (none_held to) row bits tables (λ q still. seen_then q) so
        (ends_then (place.InService service to) calm_to (with_descriptor v.b fd name) (λ q. refl))
        (locks_off h n v.b v.is (descriptor_page fd) fd_is puts v.outside unborne_here unmade_here unlocked_here last (slot_at s n).registers
        (words_at (number_of service) to) (place.InService service to) there refl none (calm_unmade (place.InService service to) calm_to)
        (calm_locked (place.InService service to) calm_to) fd_no_pipe) in_order olds_then
      where
        there : place_of (record (slot_at s n) { registers = (slot_at s n).registers; extra = words_at (number_of service) to }) ≡ place.InService service to
        there =
            place_at (slot_at s n).registers (number_of service) to v.outside
            ∙ ap (λ (x : Service). place.InService x to) names_it

    answers : (word : ℕ) →
        StandsFor names (service_answered (with_spaces s sp) n word) (answered a n (with_descriptor v.b fd name) (slot_at s n).registers word)
    answers word =
        page_moves h n v.b v.is (descriptor_page fd) fd_is puts v.outside unborne_here unmade_here unlocked_here last regs no_extra place.Guest there
        refl refl refl refl (guest regs) at_guest false (upd v.b.descriptors fd name)
        (subst (λ (blocked : Bool). IsStatusFor (slot_at s n).status blocked) is_in.awake v.own.runs) refl refl
        (ap holds_page v.place ∙ holds_none service calm from) row bits tables (λ q still. seen_then q)
        (record { program = refl; phase = refl; words = refl; silent = is_in.silent; awake = refl })
        (ends_then place.Guest refl (record (with_descriptor v.b fd name) { program = guest regs; phase = at_guest; blocked = false }) (λ q. refl))
        (locks_off h n v.b v.is (descriptor_page fd) fd_is puts v.outside unborne_here unmade_here unlocked_here last regs no_extra place.Guest there
        refl refl refl refl fd_no_pipe) in_order olds_then
      where
        regs : Regs
        regs = record (slot_at s n).registers { eax = word }

        there : place_of (record (slot_at s n) { registers = regs; extra = no_extra }) ≡ place.Guest
        there = words_of_none regs no_extra v.outside refl

  module _ {sp : SpacesState} (in_order : IsInOrder (with_spaces s sp)) where
    -- ---- a descriptor is dropped, beside which no page of a pipe stands

    module _ (removed : Removed s.spaces sp d (descriptor_page fd)) (alone : rows_of s.spaces d (pipe_page fd) ≡ None) where
      pub dropped_goes_on : (to : Step) → borne_in (place.InService service to) ≡ None → is_calm_step to ≡ true →
          StandsThere sp to None → StandsFor names (goes_on_in sp to) (with_born a n (with_descriptor v.b fd None))
      dropped_goes_on to none calm_to so =
          goes in_order None (removed_puts h n v.b v.is (descriptor_page fd) removed) (removed_row h n v.b v.is (descriptor_page fd) removed)
          (λ x is. absurd (none-some x is)) (λ r. removed.regions d r) refl (λ one_name pipe is piped. absurd (none-some one_name is))
          (λ entry is. absurd (none-some entry (sym alone ∙ is))) (λ one_name is. absurd (none-some one_name is)) to none calm_to so

      pub dropped_answers : (word : ℕ) →
          StandsFor names (service_answered (with_spaces s sp) n word) (answered a n (with_descriptor v.b fd None) (slot_at s n).registers word)
      dropped_answers word =
          answers in_order None (removed_puts h n v.b v.is (descriptor_page fd) removed) (removed_row h n v.b v.is (descriptor_page fd) removed)
          (λ x is. absurd (none-some x is)) (λ r. removed.regions d r) refl (λ one_name pipe is piped. absurd (none-some one_name is))
          (λ entry is. absurd (none-some entry (sym alone ∙ is))) (λ one_name is. absurd (none-some one_name is)) word

    -- ---- a descriptor is made that names what another names, beside which the same page of a pipe stands, or none

    module _ (old : ℕ) (x : Entry) (old_below : old < DESCRIPTORS) (old_is : rows_of s.spaces d (descriptor_page old) ≡ Some x)
        (tabled : is_some (s.spaces.regions d table_region) ≡ true) (given : Given s.spaces sp d (descriptor_page fd) x) (other : old ≢ fd)
        (same : rows_of s.spaces d (pipe_page fd) ≡ rows_of s.spaces d (pipe_page old)) where
      bits_x : x.perm ≡ descriptor_perm
      bits_x = entry_bits h n v.b v.is old x old_below old_is

      plain_here : is_plain (place_of (slot_at s n)) ≡ true
      plain_here =
          unborne_plain (place_of (slot_at s n)) (handler_runs (slot_at s n).registers (slot_at s n).extra ∙ v.outside) (ap borne_in v.place ∙ unborne)
          (ap is_making_pipe v.place ∙ one.unmade)

      old_is_one : is_of_descriptor (descriptor_page old) ≡ true
      old_is_one = is_descriptors old old_below

      kind : is_pipe_page (descriptor_page fd) ≡ is_pipe_page (descriptor_page old)
      kind = let old_none : is_pipe_page (descriptor_page old) ≡ false = grind (arith, nat_tests) in fd_no_pipe ∙ sym old_none

      name_given : object_name v.b old ≡ name_of (option_map (page_by names sp.pages) (Some x))
      name_given =
          object_is h n v.b v.is seen_all old x old_below old_is
          ∙ sym (ap (λ (c : Bool). name_of (Some (if c then named (names.name x.frame) (has_write x.perm) else own (sp.pages x.frame) (may_write x.perm))))
          (ap is_shared bits_x))

      have_given : (one_name pipe : ℕ) → object_name v.b old ≡ Some one_name → pipe_named a.objects one_name ≡ Some pipe →
          (entry : Entry) × (rows_of s.spaces d (pipe_page fd) ≡ Some entry) × (names.name entry.frame ≡ pipe)
      have_given one_name pipe is piped =
          let it = was_ends.have old one_name pipe old_below (sym (object_below h n v.b v.is old old_below) ∙ is) piped in (it.0, same ∙ it.1, it.2)

      only_given : (entry : Entry) → rows_of s.spaces d (pipe_page fd) ≡ Some entry →
          (one_name : ℕ) × (object_name v.b old ≡ Some one_name) × (pipe_named a.objects one_name ≡ Some (names.name entry.frame))
      only_given entry is =
          let it = was_ends.only old entry old_below (one.off_way old other) (sym same ∙ is) in
          (it.0, object_below h n v.b v.is old old_below ∙ it.1, it.2)

      old_given : (one_name : ℕ) → object_name v.b old ≡ Some one_name → one_name < a.next_name
      old_given one_name is = h.old n old one_name v.b v.is (sym (object_below h n v.b v.is old old_below) ∙ is)

      pub given_goes_on : (to : Step) → borne_in (place.InService service to) ≡ None → is_calm_step to ≡ true →
          StandsThere sp to (object_name v.b old) → StandsFor names (goes_on_in sp to) (with_born a n (with_descriptor v.b fd (object_name v.b old)))
      given_goes_on to none calm_to so =
          goes in_order (object_name v.b old)
          (given_puts h n v.b v.is plain_here (descriptor_page old) (descriptor_page fd) old_is_one fd_is kind x old_is given)
          (given_row h n v.b v.is plain_here (descriptor_page old) (descriptor_page fd) old_is_one fd_is kind x old_is given)
          (λ e is. ap (λ (y : Entry). y.perm) (sym (same_Some x e is)) ∙ bits_x)
          (given_tables h n v.b v.is plain_here (descriptor_page old) (descriptor_page fd) old_is_one fd_is kind x old_is given (page_region fd below) tabled)
          name_given have_given only_given old_given to none calm_to so

      pub given_answers : (word : ℕ) →
          StandsFor names (service_answered (with_spaces s sp) n word)
          (answered a n (with_descriptor v.b fd (object_name v.b old)) (slot_at s n).registers word)
      given_answers word =
          answers in_order (object_name v.b old)
          (given_puts h n v.b v.is plain_here (descriptor_page old) (descriptor_page fd) old_is_one fd_is kind x old_is given)
          (given_row h n v.b v.is plain_here (descriptor_page old) (descriptor_page fd) old_is_one fd_is kind x old_is given)
          (λ e is. ap (λ (y : Entry). y.perm) (sym (same_Some x e is)) ∙ bits_x)
          (given_tables h n v.b v.is plain_here (descriptor_page old) (descriptor_page fd) old_is_one fd_is kind x old_is given (page_region fd below) tabled)
          name_given have_given only_given old_given word

-- an environment that has another descriptor, and other words, is in its service as before
pub in_with_descriptor : {k : Slot} {b : Born} {service : Service} {stage : Stage} (fd : ℕ) (name : Option ℕ) (words : List ℕ) →
    IsIn k b service stage → IsIn (record k { extra = words }) (with_descriptor b fd name) service stage
in_with_descriptor fd name words h = record { program = h.program; phase = h.phase; silent = h.silent; awake = h.awake }

-- ---- the call that drops one

module _ (s : KernelState) (n fd : ℕ) where
  abbrev own_space : ℕ
  own_space = (slot_at s n).directory

  -- the spaces behind it
  abbrev pub dropped : SpacesState
  dropped = unmapped s.spaces own_space (descriptor_page (fd % DESCRIPTORS))

  abbrev pub drop_asked : CallStep Called
  drop_asked = system s n SYS_PAGE_UNMAP (0 ∷ descriptor_va fd ∷ 0 ∷ 0 ∷ 0 ∷ [])

  pub drop_is : is_live (slot_at s n) ≡ true → drop_asked ≡ giving (with_spaces s dropped) (Answered 0)
  drop_is live =
      page_unmap_is s n live (descriptor_va fd) (0 ∷ 0 ∷ 0 ∷ []) (descriptor_address fd)
      ∙ ap (λ (p : ℕ). giving (with_spaces s (unmapped s.spaces own_space p)) (Answered 0)) (descriptor_number fd)

  -- whatever the number is, the caller lives on
  pub drop_lives : is_live (slot_at s n) ≡ true → LivesOn drop_asked n (slot_at s n).registers
  drop_lives live =
      subst (λ (z : CallStep Called). LivesOn z n (slot_at s n).registers) (sym (drop_is live))
      (record { live = live; registers = refl; written = refl })

  module _ {names : Names} {a : AbstractState} (h : StandsFor names s a) (below : fd < DESCRIPTORS) where
    pub drop_removes : Removed s.spaces dropped own_space (descriptor_page fd)
    drop_removes =
        let same : fd % DESCRIPTORS ≡ fd = omega (arith, below) in
        subst (λ (q : ℕ). Removed s.spaces dropped own_space (descriptor_page q)) same
        (unmapped_removed s.spaces own_space (descriptor_page (fd % DESCRIPTORS)) h.in_order.frames)

    -- that page is gone, and all others stand, with all tables
    pub dropped_here : rows_of dropped own_space (descriptor_page fd) ≡ None
    dropped_here =
        ap (λ (rows : Rows). rows own_space (descriptor_page fd)) drop_removes.rows
        ∙ put-at (rows_of s.spaces) own_space (descriptor_page fd) None

    pub dropped_beside : (q : ℕ) → q ≢ fd → rows_of dropped own_space (descriptor_page q) ≡ rows_of s.spaces own_space (descriptor_page q)
    dropped_beside q ne =
        ap (λ (rows : Rows). rows own_space (descriptor_page q)) drop_removes.rows
        ∙ put-other (rows_of s.spaces) own_space (descriptor_page fd) None own_space (descriptor_page q) (λ same too. ne (omega (arith, too)))

    pub dropped_tables : (r : ℕ) → is_some (dropped.regions own_space r) ≡ is_some (s.spaces.regions own_space r)
    dropped_tables r = drop_removes.regions own_space r

    -- none is open up to this one
    pub dropped_none : NoneIsOpenBelow (rows_of s.spaces own_space) fd → NoneIsOpenBelow (rows_of dropped own_space) (fd + 1)
    dropped_none none =
        none_up_to (rows_of dropped own_space) fd (λ q low. dropped_beside q (λ same. omega (arith, low, same)) ∙ none q low) dropped_here

    -- the old one is still open
    pub dropped_duplicating : (old : ℕ) → IsDuplicating (rows_of s.spaces own_space) old fd → IsDuplicating (rows_of dropped own_space) old fd
    dropped_duplicating old twice = record {
      old_below = twice.old_below;
      new_below = twice.new_below;
      other = twice.other;
      stands = ap is_some (dropped_beside old twice.other) ∙ twice.stands;
    }

-- ---- the call that maps one as another

-- what stands at the old one's page, and the spaces behind it
pub record MapsDescriptor (s : KernelState) (n old new : ℕ) (asked : CallStep Called) : Type 0 where
  pub entry : Entry
  pub stands : rows_of s.spaces (slot_at s n).directory (descriptor_page old) ≡ Some entry
  pub spaces : SpacesState
  pub takes : TakesAtMost 0 s.spaces spaces
  pub step : asked ≡ giving (with_spaces s spaces) (Answered 0)
  pub given : IsInOrder (with_spaces s spaces) → Given s.spaces spaces (slot_at s n).directory (descriptor_page new) entry

module _ (s : KernelState) (n old new : ℕ) where
  abbrev pub map_asked : CallStep Called
  map_asked = system s n SYS_PAGE_MAP (0 ∷ descriptor_va old ∷ 0 ∷ descriptor_va new ∷ descriptor_perm ∷ [])

  -- whatever the numbers are, the caller lives on
  pub map_lives : is_live (slot_at s n) ≡ true → LivesOn map_asked n (slot_at s n).registers
  map_lives live =
      let it = map_answers s n live 0 (descriptor_va old) 0 (descriptor_va new) descriptor_perm in
      record { live = it.live; registers = it.registers; written = it.written }

  pub maps_descriptor : {names : Names} {a : AbstractState} → StandsFor names s a → (b : Born) → a.slots n ≡ born b → old < DESCRIPTORS →
      new < DESCRIPTORS → IsOpen (rows_of s.spaces (slot_at s n).directory) old →
      is_some (s.spaces.regions (slot_at s n).directory table_region) ≡ true → MapsDescriptor s n old new map_asked
  maps_descriptor h b at old_below new_below is_open tabled =
      let d : ℕ = (slot_at s n).directory in
      let it = some_is (rows_of s.spaces d (descriptor_page old)) is_open in
      let bits : it.0.perm ≡ descriptor_perm = entry_bits h n b at old it.0 old_below it.1 in
      let raw = row_entry s.spaces d (descriptor_page old) it.0 it.1 in
      let writes : has_write raw.0.perm ≡ true =
      lasting_write raw.0.perm ∙ ap (λ (e : Entry). has_write e.perm) raw.2 ∙ ap has_write bits in
      let over : Entry = record { frame = raw.0.frame; perm = descriptor_perm } in
      let same : over ≡ it.0 = λ i. record { frame = ap (λ (e : Entry). e.frame) raw.2 i; perm = sym bits i } in
      let from = descriptor_begins old old_below in
      let to = descriptor_begins new new_below in
      let is : inserted s.spaces d (descriptor_page new) over ≡ Some (mapped s.spaces d (descriptor_page new) over) =
      inserted_already s.spaces d (descriptor_page new) over
      (ap (λ (r : ℕ). is_some (s.spaces.regions d r)) (page_region new new_below) ∙ tabled) in
      record {
        entry = it.0;
        stands = it.1;
        spaces = mapped s.spaces d (descriptor_page new) over;
        takes = mapped_more s.spaces d (descriptor_page new) over;
        step = page_map_is s n (born_live (born_at h n b at)) (descriptor_va old) (descriptor_va new) descriptor_perm from.0 to.0 over
            (ap (λ (q : ℕ). shared_entry (s.spaces.entries d q) descriptor_perm) from.1
            ∙ ap (λ (o : Option Entry). shared_entry o descriptor_perm) raw.1 ∙ given_on raw.0 descriptor_perm refl writes)
            ∙ ap (λ (q : ℕ). made_step s (inserted s.spaces d q over)) to.1
            ∙ ap (made_step s) is;
        given = λ order.
            subst (λ (e : Entry). Given s.spaces (mapped s.spaces d (descriptor_page new) over) d (descriptor_page new) e) same
            (inserted_given s.spaces (mapped s.spaces d (descriptor_page new) over) d (descriptor_page new) over d (descriptor_page old) raw.0
            h.in_order.frames order.frames refl raw.1 refl is);
      }
