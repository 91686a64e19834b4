-- A state of the kernel with a server, two environments and a child that is not born, which have one frame between them, that is copied
-- when it is written: the first is in the middle of fork, which has passed the page on to the child; the second has written there,
-- and its handler of page faults has copied the first word of the page.
use Rattle.std.proofs.Common.{◌≡◌, ◌≢◌, ◌<◌, ◌==◌, ◌∙◌, ◌+◌, ◌*◌, ◌%◌, ◌^◌, ◌||◌, ◌++◌, ℕ, zero, suc, Bool, true, false, List, [], ◌∷◌, length}
use Rattle.std.proofs.Common.{Option, Some, None, is_some, refl, sym, ap, subst, arith, if◌then◌else◌}
use Rattle.std.specs.Prelude.{replicate, get_or, nat_lt, ◌&&◌, slice_index}
use Rattle.std.specs.Option.{option_map}
use Rattle.std.proofs.lemmas.Bool.Decides.{nat_tests}
use Rattle.std.proofs.lemmas.Option.{none-some, same_Some}
use Rattle.std.proofs.lemmas.List.{length-append, length-replicate, get_or-append-add, get_or-replicate}
use Rattle.jos_base.specs.declared.memory.PageFault.{PageFault}
use Rattle.jos_base.specs.declared.numbers.TheConstants.{FIRST_ENV_ID, NENV, NPTENTRIES}
use Rattle.jos_base.specs.declared.registers.Regs.{Regs}
use Rattle.jos_base.specs.Counting.{frame_limit, page_limit}
use Rattle.jos_base.specs.declared.environment.Status.TheVariants.{NotRunnable}
use Rattle.jos_base.specs.Environments.{Slot, free_slot, no_extra, zero_registers}
use Rattle.jos_base.specs.Reach.{Entry}
use Rattle.jos_base.specs.SpacesState.{directory, table, page, is_directory, zero_page}
use Rattle.jos_base.specs.Words.{page_number}
use Rattle.jos_base.specs.TrapFrames.{bytes_of_words, frame_bytes, frame_size, frame_words}
use Rattle.lib_os.specs.declared.numbers.TheConstants.{HANDLER_LOADING, SERVICE_FORK, UXSTACK}
use Rattle.lib_os.specs.declared.place.HandlerStep.TheVariants as handler
use Rattle.lib_os.specs.declared.place.Place.{Place}
use Rattle.lib_os.specs.declared.place.Place.TheVariants as place
use Rattle.lib_os.specs.declared.place.Step.{Step}
use Rattle.lib_os.specs.declared.place.Step.TheVariants as step
use Rattle.lib_os.specs.declared.service.Service.TheVariants as service
use Rattle.lib_os.specs.AbstractState.{Born, Phase, free, unborn, born, serving, at_guest, in_service, bearing}
use Rattle.lib_os.specs.AbstractMemory.{has_page_in}
use Rattle.lib_os.specs.Fence.{in_fence}
use Rattle.lib_os.specs.LibraryPages.{View, HasFrame, frame_place, is_library_region}
use Rattle.lib_os.specs.Places.{handler_step_in, place_in_words, place_of, step_in, words_at}
use Rattle.lib_os.specs.Rows.{AreBytes, IsPage, counted, is_of_descriptor, is_programs, lasting, page_by, rows_of, seen_where}
use Rattle.lib_os.specs.Services.{named_service, service_of}
use Rattle.lib_os.specs.StandingLaws.{IsHalfCopied, SomeCopyStands}
use Rattle.lib_os.specs.StandsFor.{view_of, borne_in, HasChildren, IsBorne, IsBorneBy, by_fork, StandsForUnborn}
use Rattle.lib_os.specs.StandsInHandler.{at_program, copies, IsCopiedTo, IsToCopy}
use Rattle.lib_os.proofs.Listed.{Spaces, EntryFits, SpacesFit, StateFits, EnvironmentFits, Pair, spaces_of, listed, own_fits, copied_fits}
use Rattle.lib_os.proofs.Listed.{server_bare, server_slot, server_fits, running_slot, born_in, environment_fits, the_names, state_of, abstract_of}
use Rattle.lib_os.proofs.Listed.{listed_stands, found, no_pair, each_listed, SlotFits}
use Rattle.lib_os.proofs.Bearing.{same_born, same_unborn}
use Rattle.lib_os.proofs.Logical.{programs_beside}
use Rattle.lib_os.proofs.PageBytes.{bytes_append, bytes_more, bytes_same, words_bytes}
use Rattle.lib_os.proofs.SomeState.{whole}
use Rattle.jos_base.proofs.Below.{some_below-at}

-- ---- pages

-- many times one byte
unfoldable filled : ℕ → ℕ → List ℕ
filled n byte = replicate n byte

filled_length : (n byte : ℕ) → length (filled n byte) ≡ n
unfolding filled
filled_length n byte = length-replicate {A = ℕ} n byte

filled_first : (n byte : ℕ) → 0 < n → slice_index (filled n byte) 0 ≡ byte
unfolding filled
filled_first n byte some = get_or-replicate {A = ℕ} n 0 byte 0 some

-- a page by its first word and the byte of which all the rest is made
abbrev page_with : ℕ → List ℕ
page_with byte = 1 ∷ 2 ∷ 3 ∷ 4 ∷ filled 4092 byte

filled_bytes : (n byte : ℕ) → byte < 256 → AreBytes (filled n byte)
unfolding filled
filled_bytes n byte small = bytes_same n byte small

page_whole : (byte : ℕ) → byte < 256 → IsPage (page_with byte)
page_whole byte small = record {
  long = let rest = filled_length 4092 byte in omega (arith, rest);
  small = bytes_more 1 (2 ∷ 3 ∷ 4 ∷ filled 4092 byte) (omega arith) (bytes_more 2 (3 ∷ 4 ∷ filled 4092 byte) (omega arith)
      (bytes_more 3 (4 ∷ filled 4092 byte) (omega arith) (bytes_more 4 (filled 4092 byte) (omega arith) (filled_bytes 4092 byte small))));
}

-- ---- the fault

-- the program of both environments
abbrev program : Regs
program = record zero_registers { esp = 0xeebfe000; eip = 0x00800020; eflags = 0x202 }

abbrev fault : PageFault
fault = record { va = 0x00800123; error = 7 }

-- the handler is about to load the second word
abbrev loading : Regs
loading = record zero_registers { esp = frame_place; eip = HANDLER_LOADING; ebx = 0x00800123; ecx = 1; eflags = 0x202 }

frame_length : length (frame_bytes fault program) ≡ frame_size
unfolding frame_words bytes_of_words
frame_length = refl

-- the stack of the handler, with the frame at its top
abbrev stack_bytes : List ℕ
stack_bytes = filled 4044 0 ++ frame_bytes fault program

stack_whole : IsPage stack_bytes
stack_whole = record {
  long =
      let both = length-append (filled 4044 0) (frame_bytes fault program) in
      let first = filled_length 4044 0 in
      let second = frame_length in
      omega (arith, both, first, second);
  small = bytes_append (filled 4044 0) (frame_bytes fault program) (filled_bytes 4044 0 (omega arith)) (words_bytes (frame_words fault program));
}

stack_has : (i : ℕ) → slice_index stack_bytes (4044 + i) ≡ slice_index (frame_bytes fault program) i
stack_has i = ap (λ (n : ℕ). slice_index stack_bytes (n + i)) (sym (filled_length 4044 0))
    ∙ get_or-append-add (filled 4044 0) (frame_bytes fault program) i 0

-- words of 32 bits
abbrev are_small : List ℕ → Bool
are_small [] = true
are_small (word ∷ rest) = nat_lt word (2 ^ 32) && are_small rest

small_word : (words : List ℕ) → are_small words ≡ true → (i : ℕ) → get_or words i 0 < 2 ^ 32
small_word [] small i = omega arith
small_word (word ∷ rest) small zero = grind (arith, nat_tests)
small_word (word ∷ rest) small (suc i) = small_word rest (grind (arith, nat_tests)) i

words_small : (i : ℕ) → get_or (frame_words fault program) i 0 < 2 ^ 32
unfolding frame_words
words_small = small_word (frame_words fault program) refl

-- ---- the spaces: 30 is the frame of both, and 33 that of its copy

abbrev between : Entry
between = record { frame = 30; perm = 0x805 }

abbrev own_entry : ℕ → Entry
own_entry frame = record { frame = frame; perm = 7 }

abbrev spaces : Spaces
spaces = record {
  uses = (20, directory) ∷ (21, directory) ∷ (22, directory) ∷ (28, directory) ∷ (29, table) ∷ (23, table) ∷ (24, table) ∷ (25, table) ∷ (26, table) ∷ (27, table)
      ∷ (30, page) ∷ (31, page) ∷ (32, page) ∷ (33, page) ∷ [];
  pages = listed ((30, page_with 5) ∷ (31, zero_page) ∷ (32, stack_bytes) ∷ (33, page_with 0) ∷ []) [];
  rows = (21, (0x800, between) ∷ (0xeebff, own_entry 31) ∷ [])
      ∷ (22, (0x7ff, own_entry 33) ∷ (0x800, between) ∷ (0xeebff, own_entry 32) ∷ []) ∷ (28, (0x800, between) ∷ []) ∷ [];
  tables = (21, (2, 23) ∷ (954, 24) ∷ []) ∷ (22, (1, 25) ∷ (2, 26) ∷ (954, 27) ∷ []) ∷ (28, (2, 29) ∷ []) ∷ [];
  common = λ f. f == 30;
  home = listed ((23, (21, 2)) ∷ (24, (21, 954)) ∷ (25, (22, 1)) ∷ (26, (22, 2)) ∷ (27, (22, 954)) ∷ (29, (28, 2))
      ∷ (31, (21, 0xeebff)) ∷ (32, (22, 0xeebff)) ∷ (33, (22, 0x7ff)) ∷ []) (0, 0);
}

first_page : EntryFits spaces 21 0x800 between
unfolding frame_limit page_limit
first_page = copied_fits spaces 21 0x800 30 refl refl (omega arith, omega arith) (omega arith) refl (page_whole 5 (omega arith)) refl

first_stack : EntryFits spaces 21 0xeebff (own_entry 31)
unfolding frame_limit page_limit
first_stack = own_fits spaces 21 0xeebff 31 refl refl (omega arith, omega arith) (omega arith) refl whole refl refl

second_copy : EntryFits spaces 22 0x7ff (own_entry 33)
unfolding frame_limit page_limit
second_copy = own_fits spaces 22 0x7ff 33 refl refl (omega arith, omega arith) (omega arith) refl (page_whole 0 (omega arith)) refl refl

second_page : EntryFits spaces 22 0x800 between
unfolding frame_limit page_limit
second_page = copied_fits spaces 22 0x800 30 refl refl (omega arith, omega arith) (omega arith) refl (page_whole 5 (omega arith)) refl

second_stack : EntryFits spaces 22 0xeebff (own_entry 32)
unfolding frame_limit page_limit
second_stack = own_fits spaces 22 0xeebff 32 refl refl (omega arith, omega arith) (omega arith) refl stack_whole refl refl

child_page : EntryFits spaces 28 0x800 between
unfolding frame_limit page_limit
child_page = copied_fits spaces 28 0x800 30 refl refl (omega arith, omega arith) (omega arith) refl (page_whole 5 (omega arith)) refl

spaces_fit : SpacesFit spaces
unfolding frame_limit
spaces_fit = record {
  entries = ((first_page, (first_stack, tt)), ((second_copy, (second_page, (second_stack, tt))), ((child_page, tt), tt)));
  tables = (
    (
      record { frame_is = refl; directory_is = refl; small = omega arith; alone = refl },
      (record { frame_is = refl; directory_is = refl; small = omega arith; alone = refl }, tt),
    ),
    (
      (
        record { frame_is = refl; directory_is = refl; small = omega arith; alone = refl },
        (
          record { frame_is = refl; directory_is = refl; small = omega arith; alone = refl },
          (record { frame_is = refl; directory_is = refl; small = omega arith; alone = refl }, tt),
        ),
      ),
      ((record { frame_is = refl; directory_is = refl; small = omega arith; alone = refl }, tt), tt),
    ),
  );
}

-- ---- the environments

-- fork has passed on all pages from this region's end upwards, and is about to look at the region
abbrev at_region : Step
at_region = step.ForkRegion 0x1003 1

abbrev forking : List ℕ
forking = words_at SERVICE_FORK at_region

abbrev is_bearing : Phase
is_bearing = in_service service.Fork (bearing 3)

abbrev in_fork : Place
in_fork = place.InService service.Fork at_region

first_fits : EnvironmentFits spaces 0x1001 21 program program forking is_bearing in_fork
unfolding rows_of in_fence place_in_words words_at service_of named_service step_in counted
first_fits = record {
  id_small = omega arith;
  place_is = refl;
  upcall = refl;
  counts = λ row p. refl;
  known = (refl, (refl, tt));
  regions = (refl, (refl, tt));
  table = refl;
  stack_page = record { entry = own_entry 31; stands = refl; own_page = refl; writes = refl };
  copy = λ has. absurd (let contradiction : false ≡ true = has in cc);
  no_copy = λ none. refl;
  no_working = refl;
  no_spawns = λ p. refl;
  stack = refl;
  flags = refl;
  stands = (record { program = refl; phase = refl; silent = refl; awake = refl }, omega arith);
}

abbrev second_view : View
second_view = view_of (spaces_of spaces) 22

has_frame : HasFrame second_view frame_place fault program
unfolding rows_of
has_frame = record { at = refl; entry = own_entry 32; stands = refl; own_page = refl; bytes = λ i lt. stack_has i }

to_copy : IsToCopy second_view.row 0x00800123
unfolding rows_of
to_copy = record { entry = between; stands = refl; own_page = refl; copied = refl }

first_word : (i : ℕ) → i < 4 → slice_index (page_with 0) i ≡ slice_index (page_with 5) i
first_word zero lt = refl
first_word (suc zero) lt = refl
first_word (suc (suc zero)) lt = refl
first_word (suc (suc (suc zero))) lt = refl
first_word (suc (suc (suc (suc i)))) lt = absurd (omega (arith, lt))

is_copied : IsCopiedTo 4 second_view 0x00800123
unfolding rows_of
is_copied = record {
  source = between;
  copy = own_entry 33;
  source_is = refl;
  copy_is = refl;
  source_own = refl;
  copy_own = refl;
  same = first_word;
}

abbrev is_loading : Place
is_loading = place.InHandler (handler.Loading 0x00800123 1)

second_fits : EnvironmentFits spaces 0x1002 22 loading program no_extra at_guest is_loading
unfolding rows_of in_fence place_in_words handler_step_in counted
second_fits = record {
  id_small = omega arith;
  place_is = refl;
  upcall = refl;
  counts = λ row p. refl;
  known = (refl, (refl, (refl, tt)));
  regions = (refl, (refl, (refl, tt)));
  table = refl;
  stack_page = record { entry = own_entry 32; stands = refl; own_page = refl; writes = refl };
  copy = λ has. record { entry = own_entry 33; stands = refl; own_page = refl; writes = refl };
  no_copy = λ none. absurd (let contradiction : true ≡ false = none in cc);
  no_working = refl;
  no_spawns = λ p. refl;
  stack = refl;
  flags = refl;
  stands = record {
    fault = fault;
    regs = program;
    frame = has_frame;
    small = λ i lt. words_small i;
    flags = refl;
    stack = refl;
    way = copies (record {
      beneath = at_program (record { program = refl; phase = refl; words = refl; silent = refl; awake = refl });
      error = refl;
      inside = refl;
      at = (refl, to_copy, is_copied);
    });
  };
}

-- ---- the child

abbrev child_slot : Slot
child_slot = record (free_slot 0x1003) { parent = 0x1001; status = NotRunnable; registers = program; directory = 28 }

child_own : StandsForUnborn child_slot 0x1003 0x1001
child_own = record {
  id_is = refl;
  id_small = omega arith;
  parent_is = refl;
  env_type = refl;
  status = refl;
  silent = refl;
  words = refl;
  stack = refl;
}

abbrev parent_slot : Slot
parent_slot = running_slot 0x1001 21 program forking

abbrev parent_is : Born
parent_is = born_in spaces 0x1001 21 program is_bearing

-- all that stands there beside the stack of the parent's handler is the page between them
child_row : (p : ℕ) → p ≢ page_number UXSTACK → rows_of (spaces_of spaces) 28 p ≡ rows_of (spaces_of spaces) 21 p
unfolding rows_of
child_row p beside = by_page (0x800 == p) refl
  where
    by_page : (c : Bool) → (0x800 == p) ≡ c → option_map lasting (found ((0x800, between) ∷ []) p)
        ≡ option_map lasting (found ((0x800, between) ∷ (0xeebff, own_entry 31) ∷ []) p)
    by_page true test = rw test refl
    by_page false test = by_stack (0xeebff == p) refl
      where
        by_stack : (c : Bool) → (0xeebff == p) ≡ c → option_map lasting (found ((0x800, between) ∷ []) p)
            ≡ option_map lasting (found ((0x800, between) ∷ (0xeebff, own_entry 31) ∷ []) p)
        by_stack true stack =
            let same : p ≡ 0xeebff = grind (arith, nat_tests) in
            absurd (beside same)
        by_stack false stack = rw (test, stack) refl

child_none : (p : ℕ) → (0x800 == p) ≡ false → rows_of (spaces_of spaces) 28 p ≡ None
unfolding rows_of
child_none p test = rw test refl

-- the page lies in the child's only region
has_it : is_some (parent_is.memory (2 * NPTENTRIES + 0)) ≡ true
unfolding rows_of in_fence
has_it = refl

in_region : has_page_in parent_is.memory 2 || is_library_region 2 ≡ true
in_region =
    ap (λ (c : Bool). c || is_library_region 2)
    (some_below-at (λ p. is_some (parent_is.memory (2 * NPTENTRIES + p))) NPTENTRIES 0 (omega arith) has_it)

is_child : IsBorne the_names (spaces_of spaces) parent_slot (born parent_is) child_slot 0x1003 0x1001
unfolding place_in_words words_at service_of named_service step_in in_fence
is_child = record {
  b = parent_is;
  born_by = refl;
  named = refl;
  step = at_region;
  at = refl;
  borne = refl;
  registers = refl;
  upcall = refl;
  passed = λ p inside passed.
      ap (λ (o : Option Entry). seen_where (is_programs p) (option_map (page_by the_names (spaces_of spaces).pages) o))
      (child_row p (programs_beside p inside).1);
  handed = λ p descriptor passed. child_row p (λ same. absurd (let contradiction : true ≡ false = sym descriptor ∙ ap is_of_descriptor same in cc));
  rest = λ p inside below. child_none p (grind (arith, nat_tests, below));
  library = record {
    stack = λ has. absurd (let contradiction : false ≡ true = has in cc);
    no_stack = λ none. child_none (page_number UXSTACK) refl;
    none = λ p outside closed beside. child_none p (by_page p outside (0x800 == p) refl);
  };
  tables = λ r has. by_region r has (2 == r) refl;
}
  where
    by_page : (p : ℕ) → is_programs p ≡ false → (c : Bool) → (0x800 == p) ≡ c → (0x800 == p) ≡ false
    by_page p outside false test = test
    by_page p outside true test =
        let same : p ≡ 0x800 = grind (arith, nat_tests) in
        let contradiction : true ≡ false = sym (ap (λ (q : ℕ). is_programs q) same) ∙ outside in absurd cc

    by_region : (r : ℕ) → is_some ((spaces_of spaces).regions 28 r) ≡ true → (c : Bool) → (2 == r) ≡ c →
        has_page_in parent_is.memory r || is_library_region r ≡ true
    by_region r has true test =
        let same : r ≡ 2 = grind (arith, nat_tests) in
        subst (λ (q : ℕ). has_page_in parent_is.memory q || is_library_region q ≡ true) (sym same) in_region
    by_region r has false test = absurd (let contradiction : false ≡ true = sym (no_region test) ∙ has in cc)
      where
        no_region : (2 == r) ≡ false → is_some ((spaces_of spaces).regions 28 r) ≡ false
        no_region other = rw other refl

-- ---- the state

abbrev pairs : List (ℕ × Pair)
pairs =
    (0, (server_slot 20, serving FIRST_ENV_ID))
    ∷ (1, (parent_slot, born parent_is))
    ∷ (2, (running_slot 0x1002 22 loading no_extra, born (born_in spaces 0x1002 22 program at_guest)))
    ∷ (3, (child_slot, unborn 0x1003 0x1001))
    ∷ []

abbrev owner : ℕ → ℕ
owner d = if d == 21 then 1 else if d == 22 then 2 else if d == 28 then 3 else 0

child_fits : SlotFits spaces owner 3 (child_slot, unborn 0x1003 0x1001)
unfolding place_in_words counted
child_fits = record {
  stands = child_own;
  id = λ live. refl;
  user = λ other. refl;
  still = refl;
  directory_is = λ live. refl;
  owner_is = λ live. refl;
  counts = λ row p. refl;
  rested = refl;
  undescribed = λ fd name c is. let contradiction : unborn 0x1003 0x1001 ≡ born c = is in absurd cc;
  ends = tt;
}

no_page : is_directory page ≡ true → ⊥
no_page is = let contradiction : false ≡ true = is in cc

no_table : is_directory table ≡ true → ⊥
no_table is = let contradiction : false ≡ true = is in cc

-- the child is borne by its parent
abbrev IsBorneHere : ℕ → Pair → Type 0
IsBorneHere n pair = (id parent : ℕ) → pair.1 ≡ unborn id parent →
    IsBorneBy the_names (spaces_of spaces) (listed pairs no_pair (parent % NENV)).0 (listed pairs no_pair (parent % NENV)).1 pair.0 id parent

abbrev HasItsChild : ℕ → Pair → Type 0
HasItsChild n pair = (id : ℕ) (b : Born) → pair.1 ≡ born b → borne_in (place_of pair.0) ≡ Some id →
    (listed pairs no_pair (id % NENV)).1 ≡ unborn id b.id

not_unborn_born : (b : Born) (id parent : ℕ) → born b ≡ unborn id parent → ⊥
not_unborn_born b id parent is = cc

third_borne : IsBorneHere 3 (child_slot, unborn 0x1003 0x1001)
third_borne id parent is =
    let same = same_unborn 0x1003 0x1001 id parent is in
    subst (λ (q : ℕ). IsBorneBy the_names (spaces_of spaces) (listed pairs no_pair (q % NENV)).0 (listed pairs no_pair (q % NENV)).1 child_slot id q) same.1
    (subst (λ (q : ℕ). IsBorneBy the_names (spaces_of spaces) parent_slot (born parent_is) child_slot q 0x1001) same.0 (by_fork is_child))

first_has_it : HasItsChild 1 (parent_slot, born parent_is)
unfolding place_in_words words_at service_of named_service step_in
first_has_it id b is bears =
    let one : 0x1003 ≡ id = same_Some 0x1003 id bears in
    let it : parent_is ≡ b = same_born parent_is b is in
    subst (λ (q : ℕ). (listed pairs no_pair (q % NENV)).1 ≡ unborn q b.id) one
    (ap (λ (x : Born). unborn 0x1003 x.id) it)

second_has_none : HasItsChild 2 (running_slot 0x1002 22 loading no_extra, born (born_in spaces 0x1002 22 program at_guest))
unfolding place_in_words handler_step_in
second_has_none id b is bears = absurd (none-some id bears)

children : HasChildren the_names (spaces_of spaces) (λ n. (listed pairs no_pair n).0) (λ n. (listed pairs no_pair n).1)
children = record {
  borne = each_listed IsBorneHere pairs no_pair (
    (λ id parent is. let contradiction : serving FIRST_ENV_ID ≡ unborn id parent = is in absurd cc),
    (
      (λ id parent is. absurd (not_unborn_born parent_is id parent is)),
      ((λ id parent is. absurd (not_unborn_born (born_in spaces 0x1002 22 program at_guest) id parent is)), (third_borne, tt)),
    ),
  )
      (λ n id parent is. let contradiction : free 0 ≡ unborn id parent = is in absurd cc);
  have = each_listed HasItsChild pairs no_pair (
    (λ id b is bears. let contradiction : serving FIRST_ENV_ID ≡ born b = is in absurd cc),
    (
      first_has_it,
      (second_has_none, ((λ id b is bears. let contradiction : unborn 0x1003 0x1001 ≡ born b = is in absurd cc), tt)),
    ),
  )
      (λ n id b is bears. let contradiction : free 0 ≡ born b = is in absurd cc);
}

state_fits : StateFits spaces pairs owner
state_fits = record {
  spaces = spaces_fit;
  slots = (
    server_fits spaces owner 20 refl refl,
    (
      environment_fits spaces owner 1 0x1001 21 program program forking is_bearing in_fork first_fits refl refl refl,
      (
        environment_fits spaces owner 2 0x1002 22 loading program no_extra at_guest is_loading second_fits refl refl refl,
        (child_fits, tt),
      ),
    ),
  );
  owned = (
    λ is. (0, refl, refl),
    (
      λ is. (1, refl, refl),
      (
        λ is. (2, refl, refl),
        (
          λ is. (3, refl, refl),
          (
            λ is. absurd (no_table is),
            (
              λ is. absurd (no_table is),
              (
                λ is. absurd (no_table is),
                (
                  λ is. absurd (no_table is),
                  (
                    λ is. absurd (no_table is),
                    (
                      λ is. absurd (no_table is),
                      (λ is. absurd (no_page is), (λ is. absurd (no_page is), (λ is. absurd (no_page is), (λ is. absurd (no_page is), tt)))),
                    ),
                  ),
                ),
              ),
            ),
          ),
        ),
      ),
    ),
  );
  first = refl;
  server = server_bare spaces 20 refl refl;
  children = children;
}

other_bytes : slice_index (page_with 0) 4 ≢ slice_index (page_with 5) 4
other_bytes same =
    let copied = filled_first 4092 0 (omega arith) in
    let old = filled_first 4092 5 (omega arith) in
    absurd (omega (arith, copied, old, same))

half_copied : IsHalfCopied (state_of spaces pairs) (abstract_of pairs)
unfolding rows_of in_fence place_in_words handler_step_in words_at service_of named_service step_in
half_copied = record {
  va = 0x00800123;
  index = 1;
  entry = between;
  copy = own_entry 33;
  copied = refl;
  first_has = refl;
  second_has = refl;
  first_sees = refl;
  second_sees = refl;
  stands_at = refl;
  begun = omega arith;
  second_copies = refl;
  unfinished = other_bytes;
  id = 0x1003;
  parent = 0x1001;
  region = 1;
  forks = refl;
  child = refl;
  child_has = refl;
}

pub some_copy_stands : SomeCopyStands
some_copy_stands = (
  state_of spaces pairs,
  abstract_of pairs,
  (the_names, listed_stands spaces pairs owner state_fits),
  half_copied,
  refl,
  refl,
)
