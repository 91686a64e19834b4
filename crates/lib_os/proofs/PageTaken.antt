-- write takes a page of its own at UTEMP, in which it keeps the bytes of its buffer. Nothing of it is seen in the abstract system, so that
-- the kernel's state goes on standing for the same one. What holds of any step in which that page alone is another, or none, is told first.
use Rattle.std.proofs.Common.{◌≡◌, ◌≢◌, ◌∙◌, ◌<◌, ◌≤◌, ◌==◌, ◌&&◌, ◌||◌, ◌⊎◌, inl, inr, ◌/◌, ℕ, Bool, true, false, not, List, [], ◌∷◌}
use Rattle.std.proofs.Common.{refl, sym, ap, subst, arith}
use Rattle.std.proofs.lemmas.Bool.Decides.{nat_tests}
use Rattle.std.proofs.lemmas.Option.{same_Some}
use Rattle.std.specs.Prelude.{◌+◌, bit_and, Option, Some, None, is_some}
use Rattle.std.specs.Option.{option_map}
use Rattle.jos_base.specs.declared.called.Called.{Called}
use Rattle.jos_base.specs.declared.called.Called.TheVariants.{Answered}
use Rattle.jos_base.specs.declared.numbers.TheConstants.{E_NO_MEM, FDTABLE, NPTENTRIES, PTE_P, PTE_SYSCALL, PTE_U, PTE_W}
use Rattle.jos_base.specs.declared.numbers.TheConstants.{SYS_PAGE_ALLOC, USTACKTOP, UTEMP}
use Rattle.jos_base.specs.declared.registers.Regs.{Regs}
use Rattle.jos_base.specs.Environments.{Slot, is_live as is_live_slot, no_extra}
use Rattle.jos_base.specs.KernelState.{KernelState, slot_at, with_extra, with_refusal, with_slot_at, with_spaces}
use Rattle.jos_base.specs.Reach.{Entry}
use Rattle.jos_base.specs.SpacesState.{SpacesState, put}
use Rattle.jos_base.specs.TrapFrames.{user_flags}
use Rattle.jos_base.specs.Words.{negated, page_number, upd}
use Rattle.lib_os.specs.declared.numbers.TheConstants.{PFTEMP, SERVICE_WRITE, UXSTACK}
use Rattle.lib_os.specs.declared.place.Place.{Place}
use Rattle.lib_os.specs.declared.place.Place.TheVariants as place
use Rattle.lib_os.specs.declared.place.Step.{Step}
use Rattle.lib_os.specs.declared.place.Step.TheVariants as step
use Rattle.lib_os.specs.declared.progress.Progress.TheVariants as progress
use Rattle.lib_os.specs.declared.service.Service.{Service}
use Rattle.lib_os.specs.declared.service.Service.TheVariants as service
use Rattle.lib_os.specs.AbstractState.{AbstractState, Born, Phase, ProgramState, at_guest, born, entered, guest}
use Rattle.lib_os.specs.Answers.{back_with}
use Rattle.lib_os.specs.DescriptorPages.{device_of}
use Rattle.lib_os.specs.Fence.{in_fence, is_resident}
use Rattle.lib_os.specs.InOrder.{IsInOrder}
use Rattle.lib_os.specs.LibraryPages.{IsOwnWritable, LibraryPages, has_working, is_library_region, region_index, HasTaken, has_spawns}
use Rattle.lib_os.specs.LibrarySteps.{KeepsStanding, TakesAtMost, copies_left, is_to_copy, service_answered, steps_left}
use Rattle.lib_os.specs.PipeEnds.{EndsStand, LocksStand, is_made, locked_at}
use Rattle.lib_os.specs.Places.{is_handlers, place_of, words_at}
use Rattle.lib_os.specs.Rows.{IsPage, IsUsers, Names, Rows, descriptor_page, descriptor_seen, is_of_descriptor, is_programs, is_shared, logical, pipe_page}
use Rattle.lib_os.specs.Rows.{is_clients, is_cow, lasting, page_by, page_seen, rows_of, seen_where, shown_at}
use Rattle.lib_os.specs.InService.{IsIn}
use Rattle.lib_os.specs.StandsFor.{HasTakenFrom, IsStatusFor, IsTaking, StandsAt, StandsFor, StandsForBorn, borne_in, seen_unless, things_in, view_of}
use Rattle.lib_os.specs.StandsInHandler.{IsGiven, on_console, wanted_of}
use Rattle.lib_os.specs.UserCalls.{CallStep, giving, system}
use Rattle.lib_os.proofs.CallersStay.{alloc_answers}
use Rattle.lib_os.proofs.Calls.{PageMade, PageRefused, page_made_or_refused, refusal_is_seen}
use Rattle.lib_os.proofs.CopiesLeft.{allocated_entries, put_copies}
use Rattle.lib_os.proofs.CopiesStand.{born_back}
use Rattle.lib_os.proofs.DescriptorLooks.{is_descriptors}
use Rattle.lib_os.proofs.Effects.{Made}
use Rattle.lib_os.proofs.EntriesStand.{PutsRow, named_bytes, put_is, rows_put, rows_same, rows_stand, shown_same}
use Rattle.lib_os.proofs.FramesAsked.{system_takes}
use Rattle.lib_os.proofs.Logical.{is_plain, logical_plain, unborne_plain}
use Rattle.lib_os.proofs.Numbered.{named_at}
use Rattle.lib_os.proofs.PagesStand.{Puts, bytes_elsewhere, elsewhere, other_regions, others_seen, row_elsewhere}
use Rattle.lib_os.proofs.PageBytes.{zero_page_whole}
use Rattle.lib_os.proofs.PipesStand.{PlacesAlike, calm_places, calm_unmade, descriptors_turned, ends_moved, is_calm, locks_beside}
use Rattle.lib_os.proofs.Placing.{allocated_made}
use Rattle.lib_os.proofs.Serving.{IsServed, plain_copy, plain_upcall, served, Kept, others_kept, plain_working}
use Rattle.lib_os.proofs.SlotsStand.{HasTables, SeenAlike, born_at, descriptors_off}
use Rattle.lib_os.proofs.StatesStand.{clients_live, ends_at, others_count, others_counts, own_moves, slot_in_order}
use Rattle.lib_os.proofs.Trying.{LivesOn}
use Rattle.lib_os.proofs.WordsTell.{handler_runs, is_in_handler, place_at}
use Rattle.jos_base.proofs.Maps.{upd-alike, upd-at}
use Rattle.jos_base.proofs.Puts.{Elsewhere, put-at, put-other}
use Rattle.lib_os.proofs.KeptPages.{spawns_aside}

-- ---- the page at UTEMP

abbrev pub working_page : ℕ
working_page = page_number UTEMP

-- it is none of those that a program may have
pub working_outside : is_programs working_page ≡ false
unfolding in_fence
working_outside = refl

-- nor is it that of a descriptor
pub working_no_descriptor : is_of_descriptor working_page ≡ false
working_no_descriptor = refl

-- so that nothing is seen of it
working_unseen : (names : Names) (s : SpacesState) (d : ℕ) → page_seen names s d working_page ≡ None
working_unseen names s d =
    ap (λ (c : Bool). seen_where c (option_map (page_by names s.pages) (rows_of s d working_page))) working_outside

stack_beside : page_number UXSTACK ≢ working_page
stack_beside same = absurd (omega (arith, same))

copy_beside : page_number PFTEMP ≢ working_page
copy_beside same = absurd (omega (arith, same))

descriptor_beside : (p : ℕ) → is_of_descriptor p ≡ true → p ≢ working_page
descriptor_beside p is same = let contradiction : true ≡ false = sym is ∙ ap is_of_descriptor same ∙ working_no_descriptor in cc

-- its region is one of the library's
working_region : (r : ℕ) → (r == working_page / NPTENTRIES) ≡ true → is_library_region r ≡ true
working_region r is = ap (λ (c : Bool). (c || (r == region_index FDTABLE)) || (r == region_index USTACKTOP)) is

or_true : (a b : Bool) → b ≡ true → (a || b) ≡ true
or_true true b is = refl
or_true false b is = is

-- ---- another entry, or none, stands there

module _ {names : Names} {s t : SpacesState} {d : ℕ} {v : Option Entry} (puts : Puts names names s t d working_page v) where
  -- other pages of the space stand as they stood
  pub working_beside : (p : ℕ) → p ≢ working_page → rows_of t d p ≡ rows_of s d p
  working_beside p ne = ap (λ (rows : Rows). rows d p) puts.rows ∙ put-other (rows_of s) d working_page v d p (λ same. ne)

  pub working_here : rows_of t d working_page ≡ v
  working_here = ap (λ (rows : Rows). rows d working_page) puts.rows ∙ put-at (rows_of s) d working_page v

  shown_kept : (p : ℕ) → p ≢ working_page → shown_at names t d p ≡ shown_at names s d p
  shown_kept p other =
      shown_same names names s t d p (working_beside p other) (λ x hx own_page. puts.bytes d p x (λ same. other) hx) (λ x hx shared_page. refl)

  -- so that the memory and the descriptors are seen as they were
  memory_kept : (p : ℕ) → page_seen names t d p ≡ page_seen names s d p
  memory_kept p = by_page (p == working_page) refl
    where
      by_page : (c : Bool) → (p == working_page) ≡ c → page_seen names t d p ≡ page_seen names s d p
      by_page true test =
          let same : p ≡ working_page = grind (arith, nat_tests) in
          subst (λ (q : ℕ). page_seen names t d q ≡ page_seen names s d q) (sym same) (working_unseen names t d ∙ sym (working_unseen names s d))
      by_page false test =
          let other : p ≢ working_page = grind (arith, nat_tests) in ap (seen_where (is_programs p)) (shown_kept p other)

  descriptors_kept : (fd : ℕ) → descriptor_seen names t d fd ≡ descriptor_seen names s d fd
  descriptors_kept = descriptors_off names names s t d working_page working_no_descriptor shown_kept

  own_kept : (p : ℕ) → p ≢ working_page → IsOwnWritable (rows_of s d) p → IsOwnWritable (rows_of t d) p
  own_kept p other h = record { entry = h.entry; stands = working_beside p other ∙ h.stands; own_page = h.own_page; writes = h.writes }

  -- The library's other pages are what they were, where the handler of page faults does not run before and after.
  library_kept : (at after : Place) (words words_after : List ℕ) → is_in_handler at ≡ false → is_in_handler after ≡ false →
      others_kept at ≡ others_kept after →
      (has_working after words_after ≡ true → IsOwnWritable (rows_of t d) working_page) →
      (has_working after words_after ≡ false → v ≡ None) → LibraryPages at words (rows_of s d) → LibraryPages after words_after (rows_of t d)
  library_kept at after words words_after outside outside_after others working no_working h = record {
    stack = own_kept (page_number UXSTACK) stack_beside h.stack;
    copy = λ is. absurd (let contradiction : true ≡ false = sym is ∙ plain_copy after outside_after in cc);
    no_copy = λ is. working_beside (page_number PFTEMP) copy_beside ∙ h.no_copy (plain_copy at outside);
    descriptors = λ p entry is stands. h.descriptors p entry is (sym (working_beside p (descriptor_beside p is)) ∙ stands);
    working = working;
    no_working = λ is. working_here ∙ no_working is;
    spawns = λ p is.
        let was : has_spawns at words p ≡ true = same_others p ∙ is in
        own_kept p (spawns_aside at words p was).no_working (h.spawns p was);
    none = λ p outside_it no_descriptor no_stack no_copy other no_spawns.
        working_beside p other ∙ h.none p outside_it no_descriptor no_stack no_copy other (same_others p ∙ no_spawns);
  }
    where
      same_others : (p : ℕ) → has_spawns at words p ≡ has_spawns after words_after p
      same_others p =
          ap (λ (k : Kept). k.1 p) (plain_working at words outside) ∙ ap (λ (keeps : ℕ → Bool). keeps p) others
          ∙ sym (ap (λ (k : Kept). k.1 p) (plain_working after words_after outside_after))

  -- What the environment has of its own, where it stands elsewhere in those spaces, by other registers and words, and its
  -- program at another place.
  own_part : (k : Slot) (b : Born) (program : ProgramState) (phase : Phase) (blocked : Bool) (regs : Regs) (words : List ℕ) (after : Place) →
      IsStatusFor k.status blocked → k.directory ≡ d → StandsForBorn names s k b →
      place_of (record k { registers = regs; extra = words }) ≡ after → is_in_handler (place_of k) ≡ false → is_in_handler after ≡ false →
      is_calm (place_of k) ≡ true → is_calm after ≡ true → others_kept (place_of k) ≡ others_kept after →
      regs.esp ≡ k.registers.esp → regs.eflags ≡ k.registers.eflags →
      (has_working after words ≡ true → IsOwnWritable (rows_of t d) working_page) → (has_working after words ≡ false → v ≡ None) →
      HasTables t d b.regions →
      StandsAt after (view_of t d) (record k { registers = regs; extra = words }) (record b { program = program; phase = phase; blocked = blocked }) →
      StandsForBorn names t (record k { registers = regs; extra = words }) (record b { program = program; phase = phase; blocked = blocked })
  own_part k b program phase blocked regs words after runs home h there outside outside_after calm calm_after others esp eflags working no_working tables at =
      let moved : Slot = record k { registers = regs; extra = words } in
      let later : Born = record b { program = program; phase = phase; blocked = blocked } in
      record {
        id = h.id;
        id_small = h.id_small;
        parent = h.parent;
        env_type = h.env_type;
        runs = runs;
        upcall = h.upcall ∙ plain_upcall (place_of k) outside ∙ sym (plain_upcall (place_of moved) (ap is_in_handler there ∙ outside_after));
        descriptors = λ fd still.
            descriptors_turned names s k.directory (place_of k) (place_of moved) b.descriptors calm (ap is_calm there ∙ calm_after) h.descriptors fd still
            ∙ ap (seen_unless (is_made (place_of moved) fd))
            (subst (λ (e : ℕ). descriptor_seen names s e fd ≡ descriptor_seen names t e fd) (sym home) (sym (descriptors_kept fd)));
        memory = λ p. h.memory p ∙ subst (λ (e : ℕ). page_seen names s e p ≡ page_seen names t e p) (sym home) (sym (memory_kept p));
        library = subst (λ (p : Place). LibraryPages p words (rows_of t k.directory)) (sym there)
            (subst (λ (e : ℕ). LibraryPages after words (rows_of t e)) (sym home)
            (library_kept (place_of k) after k.extra words outside outside_after others working no_working
            (subst (λ (e : ℕ). LibraryPages (place_of k) k.extra (rows_of s e)) home h.library)));
        regions_have = subst (λ (e : ℕ). (r : ℕ) → b.regions r ≡ true → is_some (t.regions e r) ≡ true) (sym home) tables.have;
        regions_only = subst (λ (e : ℕ). (r : ℕ) → is_some (t.regions e r) ≡ true → (b.regions r || is_library_region r) ≡ true) (sym home)
            tables.only;
        stack = ap (λ (p : ℕ). is_handlers p || not (is_resident p)) esp ∙ h.stack;
        flags = subst (λ (f : ℕ). f ≡ user_flags f) (sym eflags) h.flags;
        at = subst (λ (p : Place). StandsAt p (view_of t k.directory) moved later) (sym there)
            (subst (λ (e : ℕ). StandsAt after (view_of t e) moved later) (sym home) at);
      }

-- ---- and the slot is another

module _ {names : Names} {s : KernelState} {a : AbstractState} {sp : SpacesState} {v : Option Entry} (h : StandsFor names s a) (n : ℕ) (b : Born)
    (is : a.slots n ≡ born b) (own : StandsForBorn names s.spaces (slot_at s n) b) (outside : is_handlers (slot_at s n).registers.esp ≡ false)
    (unborne : borne_in (place_of (slot_at s n)) ≡ None) (calm : is_calm (place_of (slot_at s n)) ≡ true)
    (puts : Puts names names s.spaces sp (slot_at s n).directory working_page v) (last : s.last ≡ Some n) where
  abbrev dir : ℕ
  dir = (slot_at s n).directory

  others : (q : ℕ) → q ≢ dir → SeenAlike names names s.spaces sp q
  others = others_seen h n b is puts

  counts_all : is_clients n (slot_at s n) ≡ true
  counts_all = clients_live h n b is

  unhandled : is_in_handler (place_of (slot_at s n)) ≡ false
  unhandled = handler_runs (slot_at s n).registers (slot_at s n).extra ∙ outside

  plain : is_plain (place_of (slot_at s n)) ≡ true
  plain = unborne_plain (place_of (slot_at s n)) unhandled unborne (calm_unmade (place_of (slot_at s n)) calm)

  module _ (regs : Regs) (words : List ℕ) (after : Place)
      (there : place_of (record (slot_at s n) { registers = regs; extra = words }) ≡ after) (outside_after : is_in_handler after ≡ false)
      (unborne_after : borne_in after ≡ None) (calm_after : is_calm after ≡ true)
      (others_after : others_kept (place_of (slot_at s n)) ≡ others_kept after) where
    abbrev moved : Slot
    moved = record (slot_at s n) { registers = regs; extra = words }

    plain_after : is_plain (place_of moved) ≡ true
    plain_after = ap is_plain there ∙ unborne_plain after outside_after unborne_after (calm_unmade after calm_after)

    -- all entries count as they did, and this one with them
    counts : (m p : ℕ) → logical sp (upd s.environments.slots n moved) m p ≡ put (logical s.spaces s.environments.slots) n working_page v m p
    counts = put_is (logical s.spaces s.environments.slots) (logical sp (upd s.environments.slots n moved)) n working_page v
        (here working_page ∙ working_here puts) beside
      where
        slot_is : upd s.environments.slots n moved n ≡ moved
        slot_is = upd-at s.environments.slots n moved

        here : (p : ℕ) → logical sp (upd s.environments.slots n moved) n p ≡ rows_of sp dir p
        here p =
            logical_plain sp (upd s.environments.slots n moved) n (ap (λ (k : Slot). is_clients n k) slot_is ∙ counts_all)
            (ap (λ (k : Slot). is_plain (place_of k)) slot_is ∙ plain_after) p
            ∙ ap (λ (k : Slot). rows_of sp k.directory p) slot_is

        beside : (m q : ℕ) → Elsewhere m q n working_page →
            logical sp (upd s.environments.slots n moved) m q ≡ logical s.spaces s.environments.slots m q
        beside m q ne = by_slot (m == n) refl
          where
            by_slot : (c : Bool) → (m == n) ≡ c →
                logical sp (upd s.environments.slots n moved) m q ≡ logical s.spaces s.environments.slots m q
            by_slot true test =
                let same : m ≡ n = grind (arith, nat_tests) in
                subst (λ (o : ℕ). logical sp (upd s.environments.slots n moved) o q ≡ logical s.spaces s.environments.slots o q) (sym same)
                (here q ∙ working_beside puts q (ne same) ∙ sym (logical_plain s.spaces s.environments.slots n counts_all plain q))
            by_slot false test = others_count h n b is moved others m (grind (arith, nat_tests)) q

    places : PlacesAlike (place_of (slot_at s n)) (place_of moved)
    places = calm_places calm (ap is_calm there ∙ calm_after)

    -- the pages of pipes stand as they stood, and locks are held by whom they were
    ends : (c : Born) → ((fd : ℕ) → c.descriptors fd ≡ b.descriptors fd) → EndsStand names a.objects (place_of moved) (rows_of sp dir) c
    ends c descriptors =
        ends_moved places descriptors (λ fd name it. refl)
        (λ fd below. working_beside puts (pipe_page fd) (descriptor_beside (pipe_page fd) (grind (arith, nat_tests)))) (λ fd x below it. refl)
        (ends_at h n b is)

    locks : LocksStand sp.pages (upd s.environments.slots n moved) (logical sp (upd s.environments.slots n moved))
    locks =
        locks_beside n working_page v refl (upd-alike (λ (x : Slot). locked_at (place_of x)) s.environments.slots n moved places.locked) counts
        (bytes_elsewhere h n b is puts) h.locks

    -- The same abstract state: what stands behind it is given.
    pub working_stands : regs.esp ≡ (slot_at s n).registers.esp → regs.eflags ≡ (slot_at s n).registers.eflags →
        (has_working after words ≡ true → IsOwnWritable (rows_of sp dir) working_page) → (has_working after words ≡ false → v ≡ None) →
        HasTables sp dir b.regions → StandsAt after (view_of sp dir) moved b →
        PutsRow names names s.spaces.pages a.shared sp.pages a.shared (things_in s a) a.next_name a.next_name
        (logical s.spaces s.environments.slots) n working_page v → IsInOrder (with_spaces s sp) → StandsFor names (with_slot_at (with_spaces s sp) n moved) a
    working_stands esp eflags working no_working tables at row in_order =
        subst (λ (x : AbstractState). StandsFor names (with_slot_at (with_spaces s sp) n moved) x) (born_back a n b is)
        (own_moves h n b is sp moved b a.shared a.next_name refl (record { id = refl; env_type = refl; turns = refl; calm = λ runs. runs }) unborne
        (ap borne_in there ∙ unborne_after) others
        (own_part puts (slot_at s n) b b.program b.phase b.blocked regs words after own.runs refl own there unhandled outside_after calm calm_after
        others_after esp eflags working no_working tables at)
        (rows_same (put (logical s.spaces s.environments.slots) n working_page v) (logical sp (upd s.environments.slots n moved)) counts
        (rows_put (rows_stand h) row))
        (slot_in_order (with_spaces s sp) n moved refl refl in_order) (others_counts h n last sp) (ends b (λ fd. refl)) locks (omega arith)
        (λ fd name names_it. h.old n fd name b is names_it))

    -- The service has answered: its program goes on in both, and the page is given back.
    pub working_back : words ≡ no_extra → after ≡ place.Guest → v ≡ None → (slot_at s n).rendezvous.receiving ≡ false → b.blocked ≡ false →
        regs.esp ≡ (slot_at s n).registers.esp → regs.eflags ≡ (slot_at s n).registers.eflags → HasTables sp dir b.regions →
        PutsRow names names s.spaces.pages a.shared sp.pages a.shared (things_in s a) a.next_name a.next_name
        (logical s.spaces s.environments.slots) n working_page v → IsInOrder (with_spaces s sp) →
        StandsFor names (with_slot_at (with_spaces s sp) n moved) (back_with a n b regs)
    working_back no_words at_program gone silent awake esp eflags tables row in_order =
        own_moves h n b is sp moved (record b { program = guest regs; phase = at_guest; blocked = false }) a.shared a.next_name refl
        (record { id = refl; env_type = refl; turns = refl; calm = λ runs. runs }) unborne (ap borne_in there ∙ unborne_after) others
        (own_part puts (slot_at s n) b (guest regs) at_guest false regs words after
        (subst (λ (blocked : Bool). IsStatusFor (slot_at s n).status blocked) awake own.runs) refl own there unhandled outside_after calm calm_after
        others_after esp eflags
        (λ has. absurd (let contradiction : false ≡ true = sym (ap (λ (p : Place). has_working p words) at_program) ∙ has in cc)) (λ none. gone) tables
        (subst (λ (p : Place). StandsAt p (view_of sp dir) moved (record b { program = guest regs; phase = at_guest; blocked = false })) (sym at_program)
        (record { program = refl; phase = refl; words = no_words; silent = silent; awake = refl })))
        (rows_same (put (logical s.spaces s.environments.slots) n working_page v) (logical sp (upd s.environments.slots n moved)) counts
        (rows_put (rows_stand h) row))
        (slot_in_order (with_spaces s sp) n moved refl refl in_order) (others_counts h n last sp)
        (ends (record b { program = guest regs; phase = at_guest; blocked = false }) (λ fd. refl)) locks (omega arith)
        (λ fd name names_it. h.old n fd name b is names_it)

-- ---- the call that takes it

-- the bits of its entry: P, U and W
abbrev pub working_perm : ℕ
working_perm = PTE_P + PTE_U + PTE_W

working_user : IsUsers working_perm
working_user = record { page = refl; copied = λ is. absurd (let contradiction : false ≡ true = is in cc) }

module _ (s : KernelState) (n : ℕ) where
  abbrev pub take_asked : CallStep Called
  take_asked = system s n SYS_PAGE_ALLOC (0 ∷ UTEMP ∷ working_perm ∷ 0 ∷ 0 ∷ [])

  -- whatever comes of it, the caller lives on
  pub take_lives : is_live_slot (slot_at s n) ≡ true → LivesOn take_asked n (slot_at s n).registers
  take_lives live =
      let it = alloc_answers s n live 0 UTEMP working_perm 0 0 in record { live = it.live; registers = it.registers; written = it.written }

  -- the page is made, or refused
  pub take_is : is_live_slot (slot_at s n) ≡ true → PageMade s n UTEMP working_perm take_asked ⊎ PageRefused s n UTEMP working_perm take_asked
  take_is live = page_made_or_refused s n UTEMP working_perm (0 ∷ 0 ∷ []) live refl refl

  -- so that what holds of both holds of the call
  pub take_holds : is_live_slot (slot_at s n) ≡ true → (K : CallStep Called → Type 0) →
      ((made : PageMade s n UTEMP working_perm take_asked) → K (giving (with_spaces s made.spaces) (Answered 0))) →
      K (giving (with_refusal s) (Answered (negated E_NO_MEM))) → K take_asked
  take_holds live K made refused = elim (take_is live) [
    | inl it ↦ subst K (sym it.step) (made it)
    | inr none ↦ subst K (sym none.step) refused
  ]

  -- at most two frames are taken: its own, and one of a table
  pub take_takes : TakesAtMost 2 s.spaces take_asked.state.spaces
  take_takes = system_takes s n SYS_PAGE_ALLOC (0 ∷ UTEMP ∷ working_perm ∷ 0 ∷ 0 ∷ [])

  -- no more pages of the environment wait to be copied than before
  pub taken_copies : (made : PageMade s n UTEMP working_perm take_asked) →
      copies_left (rows_of made.spaces (slot_at s n).directory) ≤ copies_left (rows_of s.spaces (slot_at s n).directory)
  taken_copies made =
      let it = allocated_entries s.spaces made.spaces (slot_at s n).directory working_page working_perm made.frame made.is in
      put_copies s.spaces made.spaces (slot_at s n).directory working_page (Some it.0) it.2 (not_to_copy it.0 it.1)
    where
      not_to_copy : (e : Entry) → e.perm ≡ working_perm → is_to_copy (option_map lasting (Some e)) ≡ false
      not_to_copy e bits = ap (λ (p : ℕ). is_cow (bit_and p PTE_SYSCALL)) bits

-- ---- the space behind it

module _ {names : Names} {s : KernelState} {a : AbstractState} {sp : SpacesState} (h : StandsFor names s a) (n : ℕ) (b : Born) (is : a.slots n ≡ born b)
    (made : Made s.spaces sp (slot_at s n).directory working_page working_perm) where
  abbrev d : ℕ
  d = (slot_at s n).directory

  abbrev new_entry : Entry
  new_entry = record { frame = made.frame; perm = working_perm }

  pub taken_puts : Puts names names s.spaces sp d working_page (Some new_entry)
  taken_puts = record {
    rows = made.placed.rows;
    bytes = λ q r x ne hx. made.placed.bytes q r x (row_elsewhere made.placed q r ne ∙ hx) (made.new q r x hx);
    named_so = λ q r x hx shared_page. refl;
    regions = other_regions made.placed;
  }

  pub taken_row : PutsRow names names s.spaces.pages a.shared sp.pages a.shared (things_in s a) a.next_name a.next_name
      (logical s.spaces s.environments.slots) n working_page (Some new_entry)
  taken_row = record {
    bytes = bytes_elsewhere h n b is taken_puts;
    agree = λ m q x e ne hx is_new same.
        let found = elsewhere h n b is taken_puts m q x ne hx in
        absurd (made.new _ q found.1.entry found.1.stands (found.1.frame ∙ same ∙ ap (λ (y : Entry). y.frame) (sym (same_Some new_entry e is_new))));
    user = λ e is_new. subst (λ (y : Entry). IsUsers y.perm) (same_Some new_entry e is_new) working_user;
    whole = λ e is_new. subst (λ (y : Entry). IsPage (sp.pages y.frame)) (same_Some new_entry e is_new)
        (subst (λ (page : List ℕ). IsPage page) (sym made.zero) zero_page_whole);
    beside = λ q e y is_new there same.
        absurd (made.new _ q y there (sym same ∙ ap (λ (z : Entry). z.frame) (sym (same_Some new_entry e is_new))));
    named_new = λ e is_new shared_page.
        let contradiction : false ≡ true = ap (λ (y : Entry). is_shared y.perm) (same_Some new_entry e is_new) ∙ shared_page in cc;
    named_old = λ m q x ne hx shared_page was.
        named_bytes (sym (bytes_elsewhere h n b is taken_puts m q x ne hx)) was;
  }

  pub taken_own : IsOwnWritable (rows_of sp d) working_page
  taken_own = record { entry = new_entry; stands = working_here taken_puts; own_page = refl; writes = refl }

  -- it has no bytes yet
  pub taken_none_from : (start : ℕ) → HasTakenFrom (view_of sp d) start [] 0
  taken_none_from start =
      record { entry = new_entry; stands = working_here taken_puts; own_page = refl; same = λ i lt. absurd (omega (arith, lt)) }

  pub taken_none : HasTaken (view_of sp d) [] 0
  taken_none = record { entry = new_entry; stands = working_here taken_puts; own_page = refl; same = λ i lt. absurd (omega (arith, lt)) }

  -- the region of the page is one of the library's
  pub taken_tables : HasTables sp d b.regions
  taken_tables = record {
    have = λ r has. table_is r ∙ stood r ((born_at h n b is).regions_have r has);
    only = λ r has. by_region r (r == working_page / NPTENTRIES) refl (sym (table_is r) ∙ has);
  }
    where
      here : (d == d) ≡ true
      here = grind (arith, nat_tests)

      table_is : (r : ℕ) → is_some (sp.regions d r) ≡ ((r == working_page / NPTENTRIES) || is_some (s.spaces.regions d r))
      table_is r = made.placed.regions d r ∙ ap (λ (c : Bool). (c && (r == working_page / NPTENTRIES)) || is_some (s.spaces.regions d r)) here

      stood : (r : ℕ) → is_some (s.spaces.regions d r) ≡ true → ((r == working_page / NPTENTRIES) || is_some (s.spaces.regions d r)) ≡ true
      stood r has = or_true (r == working_page / NPTENTRIES) (is_some (s.spaces.regions d r)) has

      by_region : (r : ℕ) (c : Bool) → (r == working_page / NPTENTRIES) ≡ c → (c || is_some (s.spaces.regions d r)) ≡ true →
          (b.regions r || is_library_region r) ≡ true
      by_region r true test has = or_true (b.regions r) (is_library_region r) (working_region r test)
      by_region r false test has = (born_at h n b is).regions_only r has

-- ---- the state behind it

module _ {names : Names} {s : KernelState} {a : AbstractState} {sp : SpacesState} (h : StandsFor names s a) (n fd va len : ℕ)
    (stands : place_of (slot_at s n) ≡ place.InService (service.Write fd va len) step.TakingPage)
    (made : Made s.spaces sp (slot_at s n).directory working_page working_perm) (in_order : IsInOrder (with_spaces s sp))
    (last : s.last ≡ Some n) where
  abbrev to : Step
  to = step.BufferRegion 0 0

  abbrev home : ℕ
  home = (slot_at s n).directory

  abbrev goes_to : Slot
  goes_to = record (slot_at s n) { extra = words_at SERVICE_WRITE to }

  v : IsServed names s a n (service.Write fd va len) step.TakingPage
  v = served h n (service.Write fd va len) step.TakingPage stands

  is_in : IsIn (slot_at s n) v.b (service.Write fd va len) entered
  is_in = let at = v.at in at.0

  given : IsGiven (view_of s.spaces home) fd va len
  given = let at = v.at in at.1

  some : 0 < len
  some = let at = v.at in at.2

  puts : Puts names names s.spaces sp home working_page (Some (record { frame = made.frame; perm = working_perm }))
  puts = taken_puts h n v.b v.is made

  -- it stands before the first byte of its buffer, of which nothing is taken
  taken_at : IsTaking (view_of sp home) goes_to v.b fd va len 0 0
  taken_at = record {
    bytes = [];
    program = is_in.program;
    wants = record {
      phase = is_in.phase;
      given = record {
        below = given.below;
        begins = on_console refl (record {
          entry = given.console.entry;
          stands = working_beside puts (descriptor_page fd) beside ∙ given.console.stands;
          device =
              ap device_of (puts.bytes home (descriptor_page fd) given.console.entry (λ same too. beside too) given.console.stands)
              ∙ given.console.device;
        });
        buffer = given.buffer;
      };
      fewer = few;
    };
    many = refl;
    kept = taken_none_from h n v.b v.is made 0;
    silent = is_in.silent;
    awake = is_in.awake;
  }
    where
      beside : descriptor_page fd ≢ working_page
      beside = descriptor_beside (descriptor_page fd) (is_descriptors fd given.below)

      few : 0 < wanted_of len
      few = let more = some in omega (arith, more)

  pub page_taken_stands : StandsFor names (with_extra (with_spaces s sp) n (words_at SERVICE_WRITE to)) a
  page_taken_stands =
      working_stands h n v.b v.is v.own v.outside (ap borne_in v.place) (ap is_calm v.place) puts last
      (slot_at s n).registers (words_at SERVICE_WRITE to)
      (place.InService (service.Write fd va len) to)
      (place_at (slot_at s n).registers SERVICE_WRITE to v.outside
      ∙ ap (λ (x : Service). place.InService x to) (named_at (slot_at s n) (service.Write fd va len) step.TakingPage v.place))
      refl refl refl (ap others_kept v.place) refl refl (λ is. taken_own h n v.b v.is made) (λ is. absurd (let contradiction : true ≡ false = is in cc))
      (taken_tables h n v.b v.is made)
      (taken_at, tt) (taken_row h n v.b v.is made) in_order

-- ---- what the step comes to

module _ (s : KernelState) (n fd va len : ℕ) (stands : place_of (slot_at s n) ≡ place.InService (service.Write fd va len) step.TakingPage) where
  -- the page is there, and the service goes on
  pub taking_keeps : (made : PageMade s n UTEMP working_perm (take_asked s n)) → IsInOrder (with_spaces s made.spaces) →
      KeepsStanding progress.Hidden n s (with_extra (with_spaces s made.spaces) n (words_at SERVICE_WRITE (step.BufferRegion 0 0))) []
  taking_keeps made in_order a h turn quiet = (
    refl,
    (
      h.0,
      page_taken_stands h.1 n fd va len stands
          (allocated_made s.spaces made.spaces (slot_at s n).directory working_page working_perm made.frame h.1.in_order.frames in_order.frames refl
          made.is)
          in_order turn.last,
    ),
  )

  -- it was refused, of which nothing is said
  pub refused_keeps : (word : ℕ) → KeepsStanding progress.Finished n s (service_answered (with_refusal s) n word) []
  refused_keeps word a h turn quiet = absurd (refusal_is_seen s (record { stays = quiet.stays; could = quiet.could }))

-- The number falls, whatever pages wait to be copied.
pub taking_falls : steps_left (step.BufferRegion 0 0) < steps_left step.TakingPage
taking_falls = omega arith
