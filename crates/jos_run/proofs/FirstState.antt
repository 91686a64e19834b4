-- The state in which a run begins: how it comes about, and the spaces that it has.
use Rattle.std.proofs.Common.{◌≡◌, ◌∙◌, ◌+◌, ◌*◌, ◌<◌, ◌≤◌, ℕ, false, List}
use Rattle.std.proofs.Common.{Option, Some, None, Ok}
use Rattle.std.proofs.Common.{refl, sym, ap, subst, arith}
use Rattle.std.specs.Prelude.{is_some, option_and_then}
use Rattle.std.specs.Option.{option_map}
use Rattle.std.proofs.lemmas.Bool.Decides.{nat_tests}
use Rattle.std.proofs.lemmas.Option.{none-some, same_Some}
use Rattle.jos_base.specs.declared.registers.Regs.{Regs}
use Rattle.jos_base.specs.Counting.{frame_limit}
use Rattle.jos_base.specs.Environments.{Slot, allotted, allotted_from, first_environments, free_slot, new_slot, next_id}
use Rattle.jos_base.specs.KernelState.{KernelState, first_state, slot_at, with_directory, with_spaces}
use Rattle.jos_base.specs.SpacesState.{SpacesState, Region, first_spaces, rising}
use Rattle.jos_base.specs.SystemCalls.{environment_made, made_of}
use Rattle.jos_base.specs.Words.{upd}
use Rattle.jos_elf.specs.Parsed.{Layout, parsed}
use Rattle.jos_kernel.specs.Boot.{only_state}
use Rattle.jos_kernel.proofs.ImagesRead.{read_lie}
use Rattle.lib_os.specs.AbstractState.{Page}
use Rattle.lib_os.specs.InOrder.{IsInOrder}
use Rattle.lib_os.specs.Rows.{lasting, rows_of}
use Rattle.jos_elf.specs.StackPage.{stack_size}
use Rattle.jos_run.specs.Begun.{IsNew}
use Rattle.jos_run.specs.Boot.{server_in, server_started, records_loaded, program_in, program_booted, program_started, space_loaded}
use Rattle.jos_elf.specs.Started.{program_registers}
use Rattle.jos_run.specs.LibraryRuns.{NoneRuns}
use Rattle.jos_run.proofs.BootedPages.{HasPages, OthersKept}
use Rattle.jos_run.proofs.ConsoleLoaded.{Begins, space_begins}
use Rattle.jos_run.proofs.FirstSpaces.{HasFrames, rising-some, second_at, spaces_one, spaces_records, spaces_two, created_one, created_two}
use Rattle.jos_run.proofs.FirstSpaces.{both_used, one_table, records_alone, records_made, two_one_use, two_below}
use Rattle.jos_run.proofs.FirstSpaces.{directory_one, directory_two, no_other}
use Rattle.jos_run.proofs.PagesBegin.{Stage, space_memory}
use Rattle.jos_run.proofs.TwoSlots as two
use Rattle.jos_base.proofs.Below.{some_below-none}

module _ (image : Layout) (words : List (List ℕ)) (input : List ℕ) (frames first n : ℕ) (has : HasFrames frames first n) where
  abbrev pub spaces : SpacesState
  spaces = spaces_two frames first n has

  abbrev pub registers : Regs
  registers = program_registers image.entry words

  abbrev slots : ℕ → Slot
  slots = two.slots first (second_at first) registers

  -- the state before a page is loaded, with the registers and the status that the program has
  abbrev pub base : KernelState
  base = record {
    spaces = spaces;
    environments = record { slots = slots; free_slots = rising 2 1022 };
    input = input;
    last = None;
    turns = 0;
    refusals = 0;
    upcalls = 0;
  }

  abbrev no_memory : ℕ → Option Page
  no_memory = λ p. None

  -- ---- it has no pages

  no_row : (p : ℕ) → rows_of spaces (second_at first) p ≡ None
  unfolding rows_of
  no_row p = ap (option_map lasting) (records_alone frames first n has (second_at first) p (λ same. absurd (omega (arith, same))))

  no_region : (r : ℕ) → is_some (spaces.regions (second_at first) r) ≡ false
  no_region r = ap (λ (o : Option Region). is_some o) (one_table frames first n has (second_at first) r (λ same. absurd (omega (arith, same))))

  not_some : {X : Type 0} (o : Option X) (x : X) → o ≡ None → o ≡ Some x → ⊥
  not_some o x none some = absurd cc

  no_pages : HasPages (second_at first) no_memory spaces
  no_pages = record {
    pages = λ p. sym (ap (option_map _) (no_row p));
    plain = λ p x is. absurd (not_some (rows_of spaces (second_at first) p) x (no_row p) is);
    alone = λ p q x y ne is js. absurd (not_some (rows_of spaces (second_at first) p) x (no_row p) is);
    tables = λ r. some_below-none (λ p. is_some (no_memory (r * 1024 + p))) 1024 (λ i lt. refl) ∙ sym (no_region r);
  }

  -- and others have what they have
  others_kept : OthersKept (second_at first) spaces spaces
  others_kept = record {
    entries = λ d p ne. refl;
    tables = λ d r ne. refl;
    bytes = λ d p x ne is. refl;
    apart = λ d p q x y ne is js same. none-some y
        (sym (records_alone frames first n has (second_at first) q (λ here. absurd (omega (arith, here)))) ∙ js);
  }

  in_order : IsInOrder base
  in_order = record {
    frames = two_one_use frames first n has;
    spaces = two.have_spaces first (second_at first) registers spaces (directory_one frames first n has) (directory_two frames first n has)
        (λ same. omega (arith, same))
        (λ d a b. no_other frames first n has d (grind (arith, nat_tests)) (grind (arith, nat_tests)))
        (rising 2 1022);
  }

  none_runs : NoneRuns base
  none_runs = two.none_runs first (second_at first) registers

  pub space_small : second_at first < frame_limit
  unfolding frame_limit
  space_small = let most = has.most in omega arith

  frames_first : spaces.frames ≡ frames
  unfolding first_spaces
  frames_first = refl

  pub base_stage : Stage frames base refl space_small no_memory spaces
  base_stage = record {
    has = no_pages;
    others = others_kept;
    in_order = in_order;
    below = two_below frames first n has;
    frames_are = frames_first;
    used = both_used frames first n has;
  }

  -- ---- how it comes about

  abbrev made_one : KernelState
  made_one = with_directory (record (first_state frames input) {
    environments = record { slots = upd (λ m. free_slot 0) 0 (new_slot 0x1000 0); free_slots = rising 1 1023 };
    spaces = spaces_one frames first n has;
  }) 0 first

  abbrev with_server : KernelState
  with_server = server_started made_one 0 (spaces_records frames first n has)

  first_space_is : (slot_at made_one 0).directory ≡ first
  unfolding upd
  first_space_is = refl

  records_are : records_loaded first (spaces_one frames first n has) ≡ Some (spaces_records frames first n has)
  unfolding records_loaded
  records_are = ap only_state (records_made frames first n has)

  server_is : server_in (Ok (0, made_one)) ≡ Some with_server
  server_is =
      ap (λ (d : ℕ). option_map (server_started made_one 0) (records_loaded d made_one.spaces)) first_space_is
      ∙ ap (option_map (server_started made_one 0)) records_are

  abbrev made_two : KernelState
  made_two = with_directory (record with_server {
    environments = record { slots = upd with_server.environments.slots 1 (new_slot 0x1001 0); free_slots = rising 2 1022 };
    spaces = spaces;
  }) 1 (second_at first)

  allotted_one : allotted first_environments 0 ≡ Some
      (0, record { slots = upd (λ m. free_slot 0) 0 (new_slot 0x1000 0); free_slots = rising 1 1023 })
  unfolding allotted first_environments next_id
  allotted_one = ap (allotted_from first_environments 0) (rising-some 0 1023)

  allotted_two : allotted with_server.environments 0 ≡ Some
      (1, record { slots = upd with_server.environments.slots 1 (new_slot 0x1001 0); free_slots = rising 2 1022 })
  unfolding allotted next_id upd
  allotted_two = ap (allotted_from with_server.environments 0) (rising-some 1 1022)

  environment_one : environment_made (first_state frames input) 0 ≡ Ok (0, made_one)
  unfolding environment_made
  environment_one = λ i. made_of (first_state frames input) (allotted_one i) (created_one frames first n has i)

  environment_two : environment_made with_server 0 ≡ Ok (1, made_two)
  unfolding environment_made
  environment_two = λ i. made_of with_server (allotted_two i) (created_two frames first n has i)

  space_is : (slot_at made_two 1).directory ≡ second_at first
  unfolding upd
  space_is = refl

  started_slots : (u : SpacesState) (m : ℕ) → slot_at (program_started made_two 1 image.entry words u) m ≡ slots m
  unfolding upd
  started_slots u =
      two.each_slot first (second_at first) registers (λ m k. slot_at (program_started made_two 1 image.entry words u) m ≡ k) refl refl
      (λ m a b. rw (a, b) refl)

  started_is : (u : SpacesState) → program_started made_two 1 image.entry words u ≡ with_spaces base u
  started_is u = λ i. record (with_spaces base u)
      { environments = record { slots = λ m. started_slots u m i; free_slots = rising 2 1022 } }

  booted_is : (file : List ℕ) → program_booted image file words frames input
      ≡ option_map (with_spaces base) (space_loaded image.segments file words (second_at first) spaces)
  unfolding program_booted
  booted_is file =
      ap (λ (o : Option KernelState). option_and_then (λ s. program_in image file words (environment_made s 0)) o) (ap server_in environment_one ∙ server_is)
      ∙ ap (program_in image file words) environment_two
      ∙ (λ i. option_map (λ u. started_is u i) (space_loaded image.segments file words (space_is i) spaces))

  pub booted_with : (file : List ℕ) (u : SpacesState) → space_loaded image.segments file words (second_at first) spaces ≡ Some u →
      program_booted image file words frames input ≡ Some (with_spaces base u)
  booted_with file u is = booted_is file ∙ ap (option_map (with_spaces base)) is

  -- ---- the run begins

  -- the state with the spaces in which the program is loaded
  pub record HasBegun (file : List ℕ) (s : KernelState) : Type 0 where
    pub loaded : SpacesState
    pub state : s ≡ with_spaces base loaded
    pub begins : Begins frames base refl space_small (space_memory image file words) loaded

  pub has_begun : (file : List ℕ) (s : KernelState) → parsed file ≡ Ok image → 0 < stack_size words → stack_size words ≤ 4096 →
      program_booted image file words frames input ≡ Some s → HasBegun file s
  has_begun file s read some small is =
      by_loaded (space_loaded image.segments file words (second_at first) spaces) refl (sym (booted_is file) ∙ is)
    where
      by_loaded : (o : Option SpacesState) → space_loaded image.segments file words (second_at first) spaces ≡ o →
          option_map (with_spaces base) o ≡ Some s → HasBegun file s
      by_loaded None at none = absurd cc
      by_loaded (Some u) at found = record {
        loaded = u;
        state = sym (same_Some (with_spaces base u) s found);
        begins = space_begins frames base refl space_small image words file (read_lie file image read) some small spaces u
            base_stage at;
      }

  pub begun_new : (file : List ℕ) (s : KernelState) → HasBegun file s → IsNew s frames
  begun_new file s h =
      subst (λ (z : KernelState). IsNew z frames) (sym h.state) (record {
        none_runs = none_runs;
        refusals = refl;
        turns = refl;
        last = refl;
        frames_are = h.begins.frames_are;
        used = h.begins.used;
      })
