-- A program that is booted stands for the abstract state in which its run begins.
use Rattle.std.proofs.Common.{◌≡◌, ◌≢◌, ◌∙◌, ◌⊎◌, inl, inr, ◌+◌, ◌-◌, ◌*◌, ◌<◌, ◌≤◌, ◌==◌, ◌||◌, ◌&&◌, ℕ, not, Bool, true, false, List, [], ◌∷◌}
use Rattle.std.proofs.Common.{Option, Some, None, Ok, All, length}
use Rattle.std.proofs.Common.{refl, sym, ap, subst, arith, if◌then◌else◌}
use Rattle.std.specs.Prelude.{is_some, nat_le, nat_lt, unwrap_or}
use Rattle.std.specs.Option.{option_map}
use Rattle.std.proofs.lemmas.Bool.{cases_eq, false≢true}
use Rattle.std.proofs.lemmas.Bool.Decides.{nat_tests}
use Rattle.std.proofs.lemmas.Option.{none-some, same_Some}
use Rattle.jos_base.specs.declared.numbers.TheConstants.{USTACKTOP, UTEMP}
use Rattle.jos_base.specs.declared.registers.Regs.{Regs}
use Rattle.jos_base.specs.Environments.{Slot, free_slot, is_live, no_extra, zero_registers}
use Rattle.jos_base.specs.KernelState.{KernelState, with_spaces}
use Rattle.jos_base.specs.Reach.{Entry}
use Rattle.jos_base.specs.SpacesState.{Region, SpacesState, reserved_frames, zero_page}
use Rattle.jos_base.specs.SystemCalls.{has_write}
use Rattle.jos_base.specs.TrapFrames.{bytes_of_words}
use Rattle.jos_elf.specs.Parsed.{Layout, Lies, parsed}
use Rattle.jos_kernel.specs.Boot.{perm_of}
use Rattle.jos_kernel.proofs.ImagesRead.{read_lie}
use Rattle.lib_os.specs.declared.numbers.TheConstants.{DEVICE_CONSOLE}
use Rattle.lib_os.specs.declared.place.Place.{Place}
use Rattle.lib_os.specs.declared.place.Place.TheVariants as place
use Rattle.lib_os.specs.AbstractMemory.{has_page_in}
use Rattle.lib_os.specs.AbstractState.{AbstractSlot, Born, Object, Page, free, own, named, terminal, unborn}
use Rattle.lib_os.specs.AbstractState.{born as born_of}
use Rattle.lib_os.specs.Disk.{Disk}
use Rattle.lib_os.specs.DescriptorPages.{Things, device_of}
use Rattle.lib_os.specs.Fence.{in_fence, is_resident}
use Rattle.lib_os.specs.GuestStep.{born_in}
use Rattle.lib_os.specs.LibraryPages.{LibraryPages, region_index}
use Rattle.lib_os.specs.PipeEnds.{EndsStand, EndsStandAt, LocksStand, is_made, locked_at, pipe_named}
use Rattle.lib_os.specs.Places.{is_handlers, place_of}
use Rattle.lib_os.specs.Rows.{Agree, EntryRow, IsNamed, IsPage, IsUsers, Names, counted, is_clients, is_programs, is_shared, logical, logical_by}
use Rattle.lib_os.specs.Rows.{is_pipe_page, may_write, pipe_page}
use Rattle.lib_os.specs.Rows.{descriptor_page, descriptor_perm, descriptor_seen, is_of_descriptor, lasting, name_of, page_by, page_seen, rows_of}
use Rattle.lib_os.specs.Rows.{seen_where}
use Rattle.lib_os.specs.Rows.{shown_at}
use Rattle.lib_os.specs.StandsFor.{HasChildren, NamesAreOld, StandsFor, StandsForBorn, borne_in, seen_unless, upcall_at, view_of}
use Rattle.lib_os.proofs.Logical.{programs_no_descriptor}
use Rattle.lib_os.proofs.PageBytes.{page_overlaid, words_bytes, zero_page_whole}
use Rattle.lib_os.proofs.Releasing.{row_entry}
use Rattle.lib_os.proofs.Serving.{words_of_none}
use Rattle.jos_elf.specs.StackPage.{fits_stack, stack_pointer, stack_size, strings_of}
use Rattle.lib_spawn.proofs.StackPages.{fits}
use Rattle.lib_os.specs.Rows.{AreBytes}
use Rattle.fs_layout.specs.FileTree.{FileSystem}
use Rattle.fs_blocks.specs.declared.place.CachePlace.{CachePlace}
use Rattle.fs_requests.specs.declared.state.ServerStep.TheVariants as server_at
use Rattle.fs_seen.specs.ServerMemory.{records_page}
use Rattle.fs_seen.specs.ServerWhole.{IsFirst}
use Rattle.fs_seen.proofs.FirstServes.{starts_serve}
use Rattle.jos_run.specs.Begun.{IsNew, ProgramsBegin}
use Rattle.jos_run.specs.Boot.{booted_within, console_bytes, handler_page}
use Rattle.jos_run.specs.ServerStands.{BringsOwn, ServerStands, StandsWhole}
use Rattle.jos_run.specs.Start.{HoldsFiles, first_descriptors, first_memory, no_place, program_with, start_state}
use Rattle.jos_run.specs.Worlds.{beside}
use Rattle.jos_run.proofs.Booted.{within-booted}
use Rattle.jos_run.proofs.BootedPages.{IsPlain, no_region, own_by}
use Rattle.jos_run.proofs.BootedSpace.{flags_are, handler_row, inside_pages, outside_no_page, outside_no_row, pages_whole, tables_are}
use Rattle.jos_run.proofs.ConsoleLoaded.{Begins, console_page, descriptor_entry}
use Rattle.jos_run.proofs.DiskBegins.{count_on, count_small, files_on, first_held, image_on}
use Rattle.jos_run.proofs.FirstSpaces.{HasFrames, has_frames, one_table, records_alone, records_entry, records_stand, records_zero, rising-slots, second_at}
use Rattle.jos_run.proofs.FirstState.{base, begun_new, has_begun, registers, space_small}
use Rattle.jos_run.proofs.PagesBegin.{space_memory}
use Rattle.jos_run.proofs.StackLoaded.{fits-some}
use Rattle.jos_run.proofs.TwoSlots as two
use Rattle.jos_run.proofs.Unopened.{HasRecordsAlone}

-- the name of the console, which stands in this frame
abbrev pub the_names : ℕ → Names
the_names f = record { name = λ g. 0; frame = λ name. f; is_object = λ name. true; is_pipe = λ name. false }

-- ---- pages of an environment's own, which may be written or not

plain_own : (perm : ℕ) → IsPlain perm → is_shared perm ≡ false
plain_own perm (w, is) = ap is_shared is ∙ by_bits w
  where
    by_bits : (b : Bool) → is_shared (perm_of b) ≡ false
    by_bits true = refl
    by_bits false = refl

plain_users : (perm : ℕ) → IsPlain perm → IsUsers perm
plain_users perm (w, is) = subst (λ (bits : ℕ). IsUsers bits) (sym is) (by_bits w)
  where
    by_bits : (b : Bool) → IsUsers (perm_of b)
    by_bits true = record { page = refl; copied = λ is_cow. absurd (false≢true is_cow) }
    by_bits false = record { page = refl; copied = λ is_cow. absurd (false≢true is_cow) }

plain_page : (perm : ℕ) → IsPlain perm → (bytes : List ℕ) (name : ℕ) →
    own bytes (has_write perm) ≡ (if is_shared perm then named name (has_write perm) else own bytes (may_write perm))
plain_page perm (w, is) bytes name =
    subst (λ (bits : ℕ). own bytes (has_write bits) ≡ (if is_shared bits then named name (has_write bits) else own bytes (may_write bits)))
    (sym is) (by_bits w)
  where
    by_bits : (b : Bool) → own bytes (has_write (perm_of b)) ≡ (if is_shared (perm_of b) then named name (has_write (perm_of b))
        else own bytes (may_write (perm_of b)))
    by_bits true = refl
    by_bits false = refl

-- ---- the page of the console

console_device : device_of console_page ≡ DEVICE_CONSOLE
unfolding bytes_of_words
console_device = refl

console_whole : IsPage console_page
unfolding bytes_of_words
console_whole = page_overlaid zero_page 0 console_bytes (omega arith) (words_bytes (99 ∷ 0 ∷ 2 ∷ 0 ∷ [])) zero_page_whole

console_users : IsUsers descriptor_perm
console_users = record { page = refl; copied = λ is_cow. absurd (false≢true is_cow) }

-- it stands where no page of a program's is
descriptor_outside : (p : ℕ) → is_of_descriptor p ≡ true → is_programs p ≡ false
descriptor_outside p is = by_test (is_programs p) refl
  where
    by_test : (t : Bool) → is_programs p ≡ t → is_programs p ≡ false
    by_test true inside = absurd (false≢true (sym (programs_no_descriptor p inside) ∙ is))
    by_test false outside = outside

descriptor_is : (fd : ℕ) → fd < 32 → is_of_descriptor (descriptor_page fd) ≡ true
descriptor_is fd lt =
    let low : nat_le 851968 (851968 + fd) ≡ true = grind (arith, nat_tests) in
    let high : nat_lt (851968 + fd) 852032 ≡ true = grind (arith, nat_tests) in
    ap (λ (t : Bool). t && nat_lt (851968 + fd) 852032) low ∙ high

pipe_is : (fd : ℕ) → fd < 32 → is_of_descriptor (pipe_page fd) ≡ true
pipe_is fd lt =
    let low : nat_le 851968 (852000 + fd) ≡ true = grind (arith, nat_tests) in
    let high : nat_lt (852000 + fd) 852032 ≡ true = grind (arith, nat_tests) in
    ap (λ (t : Bool). t && nat_lt (852000 + fd) 852032) low ∙ high

-- the first descriptors name the first object
first_named : (fd name : ℕ) → first_descriptors fd ≡ Some name → name < 1
first_named fd name is = by_test (nat_lt fd 2) is
  where
    by_test : (t : Bool) → (if t then Some 0 else None) ≡ Some name → name < 1
    by_test true same = let zero_is : 0 ≡ name = same_Some 0 name same in omega (arith, zero_is)
    by_test false same = absurd (none-some name same)

same_born : {b c : Born} → born_of b ≡ born_of c → c ≡ b
same_born {b = b} is = ap (λ (slot : AbstractSlot). unwrap_or (born_in slot) b) (sym is)

-- a region of the descriptors' is one of the library's
or_true : (t : Bool) → (t || true) ≡ true
or_true true = refl
or_true false = refl

librarys_too : (has work descriptors stacks : Bool) → (descriptors || has) ≡ true → (has || (work || descriptors || stacks)) ≡ true
librarys_too true work descriptors stacks is = refl
librarys_too false true descriptors stacks is = refl
librarys_too false false true stacks is = refl
librarys_too false false false stacks is = absurd (false≢true is)

-- ---- counted entries

guests_count : (row : EntryRow) (p : ℕ) → counted place.Guest row p ≡ row p
unfolding counted
guests_count row p = refl

no_copy_inside : in_fence (2047 * 4096) 4096 ≡ false
unfolding in_fence
no_copy_inside = refl

no_working_inside : in_fence (1024 * 4096) 4096 ≡ false
unfolding in_fence
no_working_inside = refl

-- ---- the state

module _ (image : Layout) (words : List (List ℕ)) (input : List ℕ) (frames first n : ℕ) (has : HasFrames frames first n)
    (small : stack_size words ≤ 4096) where
  abbrev regs : Regs
  regs = registers image words input frames first n has

  -- ESP lies on no stack of the library's
  no_handler : is_handlers (stack_pointer words) ≡ false
  no_handler = let test : nat_le 0xeebff000 (stack_pointer words) ≡ false = grind (arith, nat_tests) in
      ap (λ (b : Bool). b && nat_lt (stack_pointer words) 0xeec00000) test

  not_resident : is_resident (stack_pointer words) ≡ false
  not_resident = let test : nat_le 0xeebfe800 (stack_pointer words) ≡ false = grind (arith, nat_tests) in
      ap (λ (b : Bool). b && nat_lt (stack_pointer words) 0xeec00000) test

  abbrev program : Slot
  program = two.the_program first (second_at first) regs

  abbrev server : Slot
  server = two.the_server first (second_at first) regs

  program_place : place_of program ≡ place.Guest
  program_place = words_of_none regs no_extra no_handler refl

  server_place : place_of server ≡ place.Guest
  server_place = words_of_none zero_registers no_extra refl refl

  module _ (file : List ℕ) (file_bytes : AreBytes file) (word_bytes : AreBytes (strings_of words))
      (lie : All (Lies (length file)) image.segments) (u : SpacesState)
      (h : Begins frames (base image words input frames first n has) refl (space_small image words input frames first n has)
      (space_memory image file words) u) where
    abbrev names : Names
    names = the_names h.has.frame

    abbrev row : EntryRow
    row = rows_of u (second_at first)

    abbrev before : SpacesState
    before = h.has.before

    -- what stood there before the console
    abbrev row_before : EntryRow
    row_before = rows_of before (second_at first)

    abbrev console : Entry
    console = descriptor_entry h.has.frame

    abbrev born : Born
    born = program_with image words (first_memory image file words)

    -- ---- what stands in its space

    abbrev IsConsoles : ℕ → Entry → Type 0
    IsConsoles p x = (is_of_descriptor p ≡ true) × (x ≡ console) × (is_pipe_page p ≡ false)

    abbrev StoodBefore : ℕ → Entry → Type 0
    StoodBefore p x = (is_of_descriptor p ≡ false) × (row_before p ≡ Some x)

    none_before : (p : ℕ) → is_of_descriptor p ≡ true → row_before p ≡ None
    none_before p is = outside_no_row image file words lie h.has.had p (descriptor_outside p is)
        (λ same. false≢true (sym (ap (λ (q : ℕ). is_of_descriptor q) same) ∙ is))

    row_is : (p : ℕ) → is_of_descriptor p ≡ false → row p ≡ row_before p
    row_is p other = h.has.rows p (λ same. false≢true (sym other ∙ ap (λ (q : ℕ). is_of_descriptor q) same))
        (λ same. false≢true (sym other ∙ ap (λ (q : ℕ). is_of_descriptor q) same))

    which : (p : ℕ) (x : Entry) → row p ≡ Some x → IsConsoles p x ⊎ StoodBefore p x
    which p x is = elim (cases_eq p (descriptor_page 0)) [
      | inl same ↦ inl (ap (λ (q : ℕ). is_of_descriptor q) same, same_Some x console (sym is ∙ ap row same ∙ h.has.first), ap (λ (q : ℕ). is_pipe_page q) same)
      | inr ne ↦ elim (cases_eq p (descriptor_page 1)) [
        | inl same ↦ inl (ap (λ (q : ℕ). is_of_descriptor q) same, same_Some x console (sym is ∙ ap row same ∙ h.has.second), ap (λ (q : ℕ). is_pipe_page q) same)
        | inr ne_too ↦ inr (by_test (is_of_descriptor p) refl (sym (h.has.rows p ne ne_too) ∙ is))
      ]
    ]
      where
        by_test : (t : Bool) → is_of_descriptor p ≡ t → row_before p ≡ Some x → StoodBefore p x
        by_test true at there = absurd (none-some x (sym (none_before p at) ∙ there))
        by_test false at there = (at, there)

    -- ---- the program

    seen_own : (p : ℕ) → option_map (own_by before.pages) (row_before p) ≡ option_map (page_by names u.pages) (row_before p)
    seen_own p = by_entry (row_before p) refl
      where
        by_entry : (o : Option Entry) → row_before p ≡ o → option_map (own_by before.pages) o ≡ option_map (page_by names u.pages) o
        by_entry None at = refl
        by_entry (Some x) at =
            ap (λ (bytes : List ℕ). Some (own bytes (has_write x.perm))) (sym (h.has.bytes p x at))
            ∙ ap (λ (page : Page). Some page) (plain_page x.perm (h.has.had.plain p x at) (u.pages x.frame) 0)

    memory_seen : (p : ℕ) → first_memory image file words p ≡ page_seen names u (second_at first) p
    memory_seen p = by_test (is_programs p) refl
      where
        by_test : (t : Bool) → is_programs p ≡ t → first_memory image file words p ≡ page_seen names u (second_at first) p
        by_test true inside =
            inside_pages image file words lie h.has.had p inside ∙ seen_own p
            ∙ sym (ap (option_map (page_by names u.pages)) (row_is p (programs_no_descriptor p inside)))
            ∙ sym (ap (λ (t : Bool). seen_where t (option_map (page_by names u.pages) (row p))) inside)
        by_test false outside =
            outside_no_page image file words lie p outside
            ∙ sym (ap (λ (t : Bool). seen_where t (option_map (page_by names u.pages) (row p))) outside)

    library_pages : LibraryPages place.Guest no_extra row
    library_pages = record {
      stack = let e = handler_row image file words lie h.has.had in record {
        entry = e.entry;
        stands = row_is handler_page refl ∙ e.stands;
        own_page = ap is_shared e.perm;
        writes = ap has_write e.perm;
      };
      copy = λ is. absurd (false≢true is);
      no_copy = λ is. row_is 2047 refl ∙ outside_no_row image file words lie h.has.had 2047 no_copy_inside (λ same. omega (arith, same));
      descriptors = λ p entry is there. elim (which p entry there) [
        | inl consoles ↦ ap (λ (e : Entry). e.perm) consoles.1
        | inr stood ↦ absurd (false≢true (sym stood.0 ∙ is))
      ];
      working = λ is. absurd (false≢true is);
      no_working = λ is. row_is 1024 refl ∙ outside_no_row image file words lie h.has.had 1024 no_working_inside (λ same. omega (arith, same));
      spawns = λ p is. absurd (false≢true is);
      none = λ p outside no_descriptor other too working no_spawns. row_is p no_descriptor ∙ outside_no_row image file words lie h.has.had p outside other;
    }

    -- the first two descriptors name the console, and there are no others
    abbrev Seen : ℕ → Type 0
    Seen fd = first_descriptors fd ≡ descriptor_seen names u (second_at first) fd

    named_there : row (descriptor_page 0) ≡ Some console → Some 0 ≡ name_of (shown_at names u (second_at first) (descriptor_page 0))
    named_there is = sym (ap (λ (o : Option Entry). name_of (option_map (page_by names u.pages) o)) is)

    named_there_too : row (descriptor_page 1) ≡ Some console → Some 0 ≡ name_of (shown_at names u (second_at first) (descriptor_page 1))
    named_there_too is = sym (ap (λ (o : Option Entry). name_of (option_map (page_by names u.pages) o)) is)

    no_more : (fd : ℕ) → 2 ≤ fd → Seen fd
    no_more fd le = by_tests (nat_lt fd 2) (nat_lt fd 32) refl refl
      where
        by_tests : (s t : Bool) → nat_lt fd 2 ≡ s → nat_lt fd 32 ≡ t →
            (if s then Some 0 else None) ≡ (if t then name_of (shown_at names u (second_at first) (descriptor_page fd)) else None)
        by_tests true t low below = absurd (let less : fd < 2 = grind (arith, nat_tests) in omega (arith, less, le))
        by_tests false false low below = refl
        by_tests false true low below =
            let less : fd < 32 = grind (arith, nat_tests) in
            let nothing : row (descriptor_page fd) ≡ None =
            h.has.rows (descriptor_page fd) (λ same. omega (arith, same, le)) (λ same. omega (arith, same, le))
            ∙ none_before (descriptor_page fd) (descriptor_is fd less) in
            sym (ap (λ (o : Option Entry). name_of (option_map (page_by names u.pages) o)) nothing)

    descriptors_seen : (fd : ℕ) → Seen fd
    descriptors_seen fd = elim (cases_eq fd 0) [
      | inl same ↦ subst (λ (k : ℕ). Seen k) (sym same) (named_there h.has.first)
      | inr some ↦ elim (cases_eq fd 1) [
        | inl same ↦ subst (λ (k : ℕ). Seen k) (sym same) (named_there_too h.has.second)
        | inr more ↦ no_more fd (grind (arith, nat_tests))
      ]
    ]

    program_stands : StandsForBorn names u program born
    program_stands = record {
      id = refl;
      id_small = omega arith;
      parent = refl;
      env_type = refl;
      runs = tt;
      upcall = sym (ap upcall_at program_place);
      descriptors = λ fd still. descriptors_seen fd
          ∙ sym (ap (λ (at : Place). seen_unless (is_made at fd) (descriptor_seen names u (second_at first) fd)) program_place);
      memory = memory_seen;
      library = subst (λ (at : Place). LibraryPages at no_extra row) (sym program_place) library_pages;
      regions_have = λ r is. h.has.tables r
          ∙ ap (λ (t : Bool). (r == 832) || t) (sym (tables_are image file words lie h.has.had r) ∙ is) ∙ or_true (r == 832);
      regions_only = λ r is. librarys_too (has_page_in (first_memory image file words) r) (r == region_index UTEMP) (r == 832)
          (r == region_index USTACKTOP)
          (ap (λ (t : Bool). (r == 832) || t) (tables_are image file words lie h.has.had r) ∙ sym (h.has.tables r) ∙ is);
      stack = λ i. no_handler i || not (not_resident i);
      flags = flags_are image.entry words;
      at = two.at_start first (second_at first) regs no_handler (view_of u (second_at first)) born refl refl refl;
    }

    -- ---- the entries of both

    other_space : first ≢ second_at first
    other_space same = omega (arith, same)

    -- the server has the page of the records alone
    has_records : HasRecordsAlone (with_spaces (base image words input frames first n has) u)
    has_records = record {
      entry = records_entry frames first n has;
      stands = h.others.entries first records_page other_space ∙ records_stand frames first n has;
      bits = refl;
      zeros = h.others.bytes first records_page (records_entry frames first n has) other_space (records_stand frames first n has)
          ∙ records_zero frames first n has;
      alone = λ p other. h.others.entries first p other_space ∙ records_alone frames first n has first p (λ here. other);
      tables = λ r other. no_region (u.regions first r)
          (h.others.tables first r other_space ∙ ap (λ (o : Option Region). is_some o) (one_table frames first n has first r (λ here. other)));
    }

    no_server_row : (p : ℕ) → p ≢ records_page → rows_of u first p ≡ None
    unfolding rows_of
    no_server_row p other = ap (option_map lasting) (has_records.alone p other)

    -- and the program has no page in its frame
    server_apart : (q p : ℕ) (e x : Entry) → rows_of u first q ≡ Some e → row p ≡ Some x → e.frame ≢ x.frame
    server_apart q p e x stands there same =
        let its = row_entry u first q e stands in
        let programs = row_entry u (second_at first) p x there in
        h.others.apart first q p its.0 programs.0 other_space (sym (h.others.entries first q other_space) ∙ its.1) programs.1
        (its.2 ∙ same ∙ sym programs.2)

    abbrev IsPrograms : ℕ → ℕ → Entry → Type 0
    IsPrograms m p x = (m ≡ 1) × (row p ≡ Some x)

    abbrev entries : ℕ → EntryRow
    entries = logical u (two.slots first (second_at first) regs)

    -- all are the program's
    found : (m p : ℕ) (x : Entry) → entries m p ≡ Some x → IsPrograms m p x
    found m p x is = by_slot m p x is
      where
        by_slot : (m p : ℕ) (x : Entry) → entries m p ≡ Some x → IsPrograms m p x
        by_slot = two.each_slot first (second_at first) regs
            (λ m k. (p : ℕ) (x : Entry) → logical_by (is_clients m k) (counted (place_of k) (rows_of u k.directory)) p ≡ Some x → IsPrograms m p x)
            (λ p x is. absurd cc)
            (λ p x is. (refl, sym (ap (λ (at : Place). counted at row p) program_place ∙ guests_count row p) ∙ is))
            (λ m a b p x is. absurd (none_counts m (row_of m) p x is))
          where
            row_of : ℕ → EntryRow
            row_of m = counted (place_of (free_slot 0)) (rows_of u (free_slot 0).directory)

            none_counts : (m : ℕ) (rest : EntryRow) (p : ℕ) (x : Entry) → logical_by (is_clients m (free_slot 0)) rest p ≡ Some x → ⊥
            none_counts m rest p x is = by_test (not (m == 0)) is
              where
                by_test : (t : Bool) → logical_by (t && is_live (free_slot 0)) rest p ≡ Some x → ⊥
                by_test true is = absurd cc
                by_test false is = absurd cc

    -- ---- there are no children

    bears_none : (m : ℕ) → borne_in (place_of (two.slots first (second_at first) regs m)) ≡ None
    bears_none = two.each_slot first (second_at first) regs (λ m k. borne_in (place_of k) ≡ None) (ap borne_in server_place)
        (ap borne_in program_place) (λ m a b. ap borne_in (words_of_none zero_registers no_extra refl refl))

    no_child : (m id parent : ℕ) → two.slot_of born m ≡ unborn id parent → ⊥
    no_child = two.each_slot first (second_at first) regs (λ m k. (id parent : ℕ) → two.slot_of born m ≡ unborn id parent → ⊥)
        (λ id parent is. absurd cc) (λ id parent is. absurd cc)
        (λ m a b id parent is. let none : free 0 ≡ unborn id parent = rw (a, b) at is in absurd cc)

    no_children : HasChildren names u (two.slots first (second_at first) regs) (two.slot_of born)
    no_children = record {
      borne = λ m id parent is. absurd (no_child m id parent is);
      have = λ m id b is bears. absurd (none-some id (sym (bears_none m) ∙ bears));
    }

    -- ---- there are no pipes

    no_pipe_page : (fd : ℕ) → fd < 32 → row (pipe_page fd) ≡ None
    no_pipe_page fd below =
        h.has.rows (pipe_page fd) (λ same. omega (arith, same)) (λ same. omega (arith, same)) ∙ none_before (pipe_page fd) (pipe_is fd below)

    unlocked : (m : ℕ) → locked_at (place_of (two.slots first (second_at first) regs m)) ≡ None
    unlocked = two.each_slot first (second_at first) regs (λ m k. locked_at (place_of k) ≡ None) (ap locked_at server_place)
        (ap locked_at program_place) (λ m a b. ap locked_at (words_of_none zero_registers no_extra refl refl))

    program_ends : (objects : ℕ → Object) → objects ≡ (λ name. terminal) → EndsStand names objects (place_of program) row born
    program_ends objects are = record {
      have = λ fd name pipe below is at. absurd (none-some pipe (sym (ap (λ (o : ℕ → Object). pipe_named o name) are) ∙ at));
      only = λ fd entry below off stands. absurd (none-some entry (sym (no_pipe_page fd below) ∙ stands));
    }

    ends_stand : (objects : ℕ → Object) → objects ≡ (λ name. terminal) → (m : ℕ) →
        EndsStandAt names objects (place_of (two.slots first (second_at first) regs m)) (rows_of u (two.slots first (second_at first) regs m).directory)
        (two.slot_of born m)
    ends_stand objects are = two.each_slot first (second_at first) regs
        (λ m k. EndsStandAt names objects (place_of k) (rows_of u k.directory) (two.slot_of born m)) tt (program_ends objects are) (λ m a b. rw (a, b) tt)

    locks_stand : LocksStand u.pages (two.slots first (second_at first) regs) entries
    locks_stand = record {
      held = λ m frame holds. absurd (none-some holds.fd (sym (unlocked m) ∙ holds.locked));
      holder = λ m fd entry below stands shared_page some. absurd (none-some entry (sym (no_pipe_page fd below) ∙ (found m (pipe_page fd) entry stands).1));
      alone = λ m k frame holds too. absurd (none-some holds.fd (sym (unlocked m) ∙ holds.locked));
    }

    no_turns : (m : ℕ) → (two.slots first (second_at first) regs m).runs ≤ 0
    no_turns = two.each_slot first (second_at first) regs (λ m k. k.runs ≤ 0) (omega arith) (omega arith) (λ m a b. omega arith)

    -- each descriptor names the console
    names_old : NamesAreOld (two.slot_of born) 1
    names_old = two.each_slot first (second_at first) regs
        (λ m k. (fd name : ℕ) (b : Born) → two.slot_of born m ≡ born_of b → b.descriptors fd ≡ Some name → name < 1)
        (λ fd name b is named_so. absurd cc)
        (λ fd name b is named_so.
        let same : b ≡ born = same_born is in
        first_named fd name (sym (ap (λ (c : Born). c.descriptors fd) same) ∙ named_so))
        (λ m x y fd name b is named_so. let none : free 0 ≡ born_of b = rw (x, y) at is in absurd cc)

    -- ---- each entry

    agree : (p q : ℕ) (x y : Entry) → p ≢ q → x.frame ≡ y.frame → IsConsoles p x ⊎ StoodBefore p x → IsConsoles q y ⊎ StoodBefore q y →
        Agree x.perm y.perm
    agree p q x y ne same (inl a) (inl b) = record {
      shared = ap (λ (e : Entry). is_shared e.perm) (a.1 ∙ sym b.1);
      read_only = λ none. absurd (false≢true (sym none ∙ ap (λ (e : Entry). is_shared e.perm) a.1));
    }
    agree p q x y ne same (inl a) (inr b) = absurd (h.has.others q y b.1 (sym same ∙ ap (λ (e : Entry). e.frame) a.1))
    agree p q x y ne same (inr a) (inl b) = absurd (h.has.others p x a.1 (same ∙ ap (λ (e : Entry). e.frame) b.1))
    agree p q x y ne same (inr a) (inr b) = absurd (h.has.had.alone p q x y ne a.1 b.1 same)

    abbrev things : Things
    things = record { objects = λ name. terminal; pipes = λ name. []; opened = λ number. no_place; row = rows_of u first }

    named_so : (p : ℕ) (x : Entry) → is_shared x.perm ≡ true → IsConsoles p x ⊎ StoodBefore p x →
        IsNamed names u.pages (λ name. []) things 1 p x.frame
    named_so p x shared_page (inl consoles) = record {
      home = sym (ap (λ (e : Entry). e.frame) consoles.1);
      kind = sym consoles.0;
      of_pipe = sym consoles.2;
      shows = record {
        device = ap (λ (e : Entry). device_of (u.pages e.frame)) consoles.1 ∙ ap (λ (bytes : List ℕ). device_of bytes) h.has.shows ∙ console_device;
        apart = λ q e stands same. server_apart q (descriptor_page 0) e console stands h.has.first
            (same ∙ ap (λ (y : Entry). y.frame) consoles.1);
      };
      old = omega arith;
    }
    named_so p x shared_page (inr stood) = absurd (false≢true (sym (plain_own x.perm (h.has.had.plain p x stood.1)) ∙ shared_page))

    users_are : (p : ℕ) (x : Entry) → IsConsoles p x ⊎ StoodBefore p x → IsUsers x.perm
    users_are p x (inl consoles) = subst (λ (e : Entry). IsUsers e.perm) (sym consoles.1) console_users
    users_are p x (inr stood) = plain_users x.perm (h.has.had.plain p x stood.1)

    whole_page : (p : ℕ) (x : Entry) → IsConsoles p x ⊎ StoodBefore p x → IsPage (u.pages x.frame)
    whole_page p x (inl consoles) =
        subst (λ (bytes : List ℕ). IsPage bytes) (sym (ap (λ (e : Entry). u.pages e.frame) consoles.1 ∙ h.has.shows)) console_whole
    whole_page p x (inr stood) =
        subst (λ (bytes : List ℕ). IsPage bytes) (sym (h.has.bytes p x stood.1))
        (pages_whole image file words file_bytes word_bytes h.has.had p x stood.1)

    -- ---- the whole

    module _ (files : FileSystem) where
      abbrev first_whole : KernelState
      first_whole = with_spaces (base image words input frames first n has) u

      pub state_stands : AreBytes input → StandsFor names first_whole (start_state image file words input files)
      state_stands input_bytes = record {
        slots = two.slot_stands first (second_at first) regs names u born
            (two.server_stands first (second_at first) regs) program_stands;
        children = no_children;
        apart = λ d p e q x y ne is js same. let a = found d p x is in let b = found e q y js in
            agree p q x y (ne (a.0 ∙ sym b.0)) same (which p x a.1) (which q y b.1);
        named = λ d p x is shared_page. let a = found d p x is in named_so p x shared_page (which p x a.1);
        users = λ d p x is. let a = found d p x is in users_are p x (which p x a.1);
        whole = λ d p x is. let a = found d p x is in whole_page p x (which p x a.1);
        free_slots = record { same = refl; within = rising-slots 2 1022 (omega arith) };
        first = refl;
        old = names_old;
        ends = ends_stand (λ name. terminal) refl;
        locks = locks_stand;
        runs = no_turns;
        beside = λ m p q x e is stands same. let a = found m p x is in absurd (server_apart q p e x stands a.1 (sym same));
        server = two.server_has first (second_at first) regs u no_server_row has_records.tables (λ number. no_place) files.blocks;
        input = (refl, input_bytes);
        last = refl;
        turns = refl;
        tabled = two.are_tabled first (second_at first) regs None;
        in_order = h.in_order;
      }

      -- the file server is about to begin
      server_first : IsFirst first_whole 0
      server_first = record {
        in_order = h.in_order;
        lives = refl;
        server = refl;
        long = refl;
        rests = two.cache_rests first (second_at first) regs;
        at = two.server_leaves first (second_at first) regs;
        entry = has_records.entry;
        stands = has_records.stands;
        bits = has_records.bits;
        zeros = has_records.zeros;
        alone = has_records.alone;
      }

      -- so it stands over a disk that has the files
      pub server_begins : (d : Disk) → HoldsFiles d files → ServerStands d first_whole (start_state image file words input files)
      server_begins d holds = record {
        serving = starts_serve (start_state image file words input files) d first_whole server_first (count_small d files holds) holds.bytes
            (record { disk = image_on d files holds; count_is = count_on d files holds; are = files_on d files holds }) refl (λ number. refl)
            (λ name. refl) (first_held image file words input files);
        twelve = refl;
        client = λ client is. absurd (none-some client is);
        asked = record {
          asked = λ client is. absurd (none-some client is);
          given = two.given_apart born refl;
          opens = record {
            pages = λ name above. refl;
            held = first_held image file words input files;
            ends = λ end pipe is. absurd (none-some pipe is);
            opened = λ name is. absurd (none-some name is);
          };
        };
        brings = subst (λ (at : CachePlace). BringsOwn d at) (sym (two.cache_rests first (second_at first) regs)) tt;
        fits = λ client born_is call served is there. absurd (none-some client served);
        lent = λ receiving. absurd (
            let contradiction : server_at.Releasing ≡ server_at.Receiving = sym (two.server_leaves first (second_at first) regs) ∙ receiving in cc
            );
      }

pub programs_begin : ProgramsBegin
programs_begin image file words frames input s file_bytes word_bytes input_bytes read fit least most is =
    let h = fits words fit in
    let has = has_frames frames least most in
    let first = reserved_frames frames in
    let n = frames - reserved_frames frames - 4 in
    let begun = has_begun image words input frames first n has file s read (fits-some words h) h.size is in (
      begun_new image words input frames first n has file s begun,
      λ d files holds. (
        (
          the_names begun.begins.has.frame,
          subst (λ (k : KernelState). StandsFor (the_names begun.begins.has.frame) k (start_state image file words input files)) (sym begun.state)
              (state_stands image words input frames first n has h.size file file_bytes word_bytes (read_lie file image read) begun.loaded
              begun.begins files input_bytes),
        ),
        subst (λ (k : KernelState). ServerStands d k (start_state image file words input files)) (sym begun.state)
            (server_begins image words input frames first n has h.size file file_bytes word_bytes (read_lie file image read) begun.loaded begun.begins
            files d holds),
      ),
    )

-- the same where the frames that the program wants are there
pub begun_within : (image : Layout) (file : List ℕ) (words : List (List ℕ)) (frames : ℕ) (input : List ℕ) (s : KernelState) →
    AreBytes file → AreBytes (strings_of words) → AreBytes input → parsed file ≡ Ok image → fits_stack words ≡ true → 64 ≤ frames → frames ≤ 65536 →
    booted_within image file words frames input ≡ Some s → IsNew s frames
    × ((d : Disk) (files : FileSystem) → HoldsFiles d files → StandsWhole (beside s (Some d)) (start_state image file words input files))
begun_within image file words frames input s file_bytes word_bytes input_bytes read fit least most is =
    programs_begin image file words frames input s file_bytes word_bytes input_bytes read fit least most
    (within-booted image file words frames input s is)

-- that it is new, whatever the input
pub new_within : (image : Layout) (file : List ℕ) (words : List (List ℕ)) (frames : ℕ) (input : List ℕ) (s : KernelState) →
    parsed file ≡ Ok image → fits_stack words ≡ true → 64 ≤ frames → frames ≤ 65536 → booted_within image file words frames input ≡ Some s →
    IsNew s frames
new_within image file words frames input s read fit least most is =
    let h = fits words fit in
    let has = has_frames frames least most in
    let first = reserved_frames frames in
    let n = frames - reserved_frames frames - 4 in
    begun_new image words input frames first n has file s
    (has_begun image words input frames first n has file s read (fits-some words h) h.size (within-booted image file words frames input s is))
