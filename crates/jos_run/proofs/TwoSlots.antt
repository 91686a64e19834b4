-- A kernel in which the server stands in slot 0 and is about to make ready for a request, and a program at its first instruction in slot 1,
-- and no other environment.
use Rattle.std.proofs.Common.{◌≡◌, ◌≢◌, ◌∙◌, ◌⊎◌, inl, inr, ◌%◌, ◌≤◌, ◌==◌, ℕ, Bool, true, false, List, Option, None}
use Rattle.std.proofs.Common.{refl, sym, ap, subst, arith, if◌then◌else◌}
use Rattle.std.specs.Prelude.{is_some}
use Rattle.std.proofs.lemmas.Bool.{cases_eq, false≢true}
use Rattle.std.proofs.lemmas.Bool.Decides.{nat_tests}
use Rattle.jos_base.specs.declared.environment.EnvType.TheVariants.{User, FileServer}
use Rattle.jos_base.specs.declared.environment.Status.TheVariants.{Runnable}
use Rattle.jos_base.specs.declared.numbers.TheConstants.{NENV}
use Rattle.jos_base.specs.declared.registers.Regs.{Regs}
use Rattle.jos_base.specs.Environments.{Slot, free_slot, no_extra, is_live, is_running}
use Rattle.jos_base.specs.KernelState.{HasSpaces}
use Rattle.jos_base.specs.Reach.{Entry}
use Rattle.jos_base.specs.SpacesState.{SpacesState, Region, directories}
use Rattle.lib_os.specs.AbstractState.{Born, AbstractSlot, free, born, serving, guest, at_guest, leaving, TablePlace}
use Rattle.lib_os.specs.declared.numbers.TheConstants.{OPEN_RECORDS, PGFAULT_UPCALL}
use Rattle.lib_os.specs.declared.place.Place.{Place}
use Rattle.lib_os.specs.DescriptorPages.{place_page}
use Rattle.lib_os.specs.LibraryPages.{View, region_index}
use Rattle.lib_os.specs.Places.{place_of, is_handlers}
use Rattle.lib_os.specs.Rows.{Names, rows_of}
use Rattle.lib_os.specs.StandsFor.{StandsForSlot, StandsForServer, HasServer, StandsForBorn, StandsAt, IsTabled, is_servers_page, is_servers_region}
use Rattle.jos_base.specs.SpacesState.{rising}
use Rattle.lib_os.specs.AbstractLaws.{AreGivenApart, bears_in, borne_by, is_vacant}
use Rattle.lib_os.proofs.ServedStay.{vacant_rising}
use Rattle.lib_os.proofs.Serving.{words_of_none}
use Rattle.std.proofs.lemmas.Option.{none-some}
use Rattle.fs_requests.specs.ServerWords.{server_in, step_in}
use Rattle.fs_requests.specs.declared.state.ServerStep.TheVariants as step
use Rattle.fs_blocks.specs.declared.place.CachePlace.TheVariants as cache
use Rattle.fs_blocks.specs.CachePlaces.{place_in, state_in}
use Rattle.fs_seen.specs.ServerMemory.{records_page}
use Rattle.jos_run.specs.ServerStands.{step_of}

-- every slot is one of three
data WhichSlot (n : ℕ) : Type 0 where
  server : n ≡ 0 → WhichSlot n
  program : n ≡ 1 → WhichSlot n
  unused : (n == 0) ≡ false → (n == 1) ≡ false → WhichSlot n

which_slot : (n : ℕ) → WhichSlot n
which_slot n = by_tests (n == 0) (n == 1) refl refl
  where
    by_tests : (t u : Bool) → (n == 0) ≡ t → (n == 1) ≡ u → WhichSlot n
    by_tests true u is_first is_second = server (grind (arith, nat_tests))
    by_tests false true is_first is_second = program (grind (arith, nat_tests))
    by_tests false false is_first is_second = unused is_first is_second

-- the abstract system's slots
abbrev pub slot_of : Born → ℕ → AbstractSlot
slot_of b n = if n == 0 then serving 0x1000 else if n == 1 then born b else free 0

-- the others are vacant, and no child is borne
pub given_apart : (b : Born) → bears_in b.phase b.spawning ≡ None → AreGivenApart (slot_of b) (rising 2 1022)
given_apart b none = record {
  vacant = vacant_rising (slot_of b) 1022 2 (λ n from. vacant_at n from (which_slot n));
  children = λ n child is. absurd (none-some child (sym (bears_none n (which_slot n)) ∙ is));
  parents = λ n m child is too. absurd (none-some child (sym (bears_none n (which_slot n)) ∙ is));
}
  where
    vacant_at : (n : ℕ) → 2 ≤ n → WhichSlot n → is_vacant (slot_of b n) ≡ true
    vacant_at n from (server is) = absurd (omega (arith, from, is))
    vacant_at n from (program is) = absurd (omega (arith, from, is))
    vacant_at n from (unused x y) = rw (x, y) refl

    bears_none : (n : ℕ) → WhichSlot n → borne_by (slot_of b n) ≡ None
    bears_none n (server is) = ap (λ (m : ℕ). borne_by (slot_of b m)) is
    bears_none n (program is) = ap (λ (m : ℕ). borne_by (slot_of b m)) is ∙ none
    bears_none n (unused x y) = rw (x, y) refl

module _ (first second : ℕ) (registers : Regs) where
  abbrev pub the_server : Slot
  the_server = record (free_slot 0x1000) { env_type = FileServer; status = Runnable; directory = first }

  abbrev pub the_program : Slot
  the_program = record (free_slot 0x1001) { status = Runnable; registers = registers; directory = second; upcall = PGFAULT_UPCALL }

  abbrev pub slots : ℕ → Slot
  slots n = if n == 0 then the_server else if n == 1 then the_program else free_slot 0

  -- what holds of the three holds of each slot
  pub each_slot : (P : ℕ → Slot → Type 0) → P 0 the_server → P 1 the_program →
      ((n : ℕ) → (n == 0) ≡ false → (n == 1) ≡ false → P n (free_slot 0)) → (n : ℕ) → P n (slots n)
  each_slot P one two rest n = by_slot (which_slot n)
    where
      by_slot : WhichSlot n → P n (slots n)
      by_slot (server is) = subst (λ (m : ℕ). P m (slots m)) (sym is) one
      by_slot (program is) = subst (λ (m : ℕ). P m (slots m)) (sym is) two
      by_slot (unused a b) = subst (P n) (sym (let e : slots n ≡ free_slot 0 = rw (a, b) refl in e)) (rest n a b)

  pub none_runs : (n : ℕ) → is_running (slots n).status ≡ false
  none_runs = each_slot (λ n k. is_running k.status ≡ false) refl refl (λ n a b. refl)

  pub are_tabled : (last : Option ℕ) → IsTabled slots last
  are_tabled last = record {
    ids = each_slot (λ n k. is_live k ≡ true → k.id % NENV ≡ n) (λ live. refl) (λ live. refl)
        (λ n a b live. absurd (false≢true live));
    servers = each_slot (λ n k. n ≢ 0 → k.env_type ≡ User) (λ other. absurd (other refl)) (λ other. refl) (λ n a b other. refl);
    running = λ n runs. absurd (false≢true (sym (none_runs n) ∙ runs));
  }

  -- ---- the spaces

  module _ (spaces : SpacesState) (one : directories spaces first ≡ true) (two : directories spaces second ≡ true) (other : first ≢ second)
      (others : (d : ℕ) → (d == first) ≡ false → (d == second) ≡ false → directories spaces d ≡ false) where
    abbrev WhichLive : ℕ → Slot → Type 0
    WhichLive n k = ((n ≡ 0) × (k.directory ≡ first)) ⊎ ((n ≡ 1) × (k.directory ≡ second))

    live_slots : (n : ℕ) → is_live (slots n) ≡ true → WhichLive n (slots n)
    live_slots = each_slot (λ n k. is_live k ≡ true → WhichLive n k) (λ live. inl (refl, refl)) (λ live. inr (refl, refl))
        (λ n a b live. absurd (false≢true live))

    pub have_spaces : (free_slots : List ℕ) → HasSpaces spaces (record { slots = slots; free_slots = free_slots })
    have_spaces free_slots = record {
      in_use = λ n live. by_live n (live_slots n live);
      apart = λ n m live lives same. together (live_slots n live) (live_slots m lives) same;
      owned = λ d is. owner d is;
    }
      where
        by_live : (n : ℕ) → WhichLive n (slots n) → directories spaces (slots n).directory ≡ true
        by_live n (inl is) = ap (directories spaces) is.1 ∙ one
        by_live n (inr is) = ap (directories spaces) is.1 ∙ two

        together : {n m : ℕ} → WhichLive n (slots n) → WhichLive m (slots m) → (slots n).directory ≡ (slots m).directory → n ≡ m
        together (inl a) (inl b) same = a.0 ∙ sym b.0
        together (inr a) (inr b) same = a.0 ∙ sym b.0
        together (inl a) (inr b) same = absurd (other (sym a.1 ∙ same ∙ b.1))
        together (inr a) (inl b) same = absurd (other (sym b.1 ∙ sym same ∙ a.1))

        owner : (d : ℕ) → directories spaces d ≡ true → (n : ℕ) × (is_live (slots n) ≡ true) × ((slots n).directory ≡ d)
        owner d is = by_tests (d == first) (d == second) refl refl
          where
            by_tests : (t u : Bool) → (d == first) ≡ t → (d == second) ≡ u →
                (n : ℕ) × (is_live (slots n) ≡ true) × ((slots n).directory ≡ d)
            by_tests true u a b = (0, refl, grind (arith, nat_tests))
            by_tests false true a b = (1, refl, grind (arith, nat_tests))
            by_tests false false a b = absurd (false≢true (sym (others d a b) ∙ is))

  -- ---- what each slot stands for

  -- the program is at its first instruction
  pub at_start : is_handlers registers.esp ≡ false → (v : View) (b : Born) → b.program ≡ guest registers → b.phase ≡ at_guest →
      b.blocked ≡ false → StandsAt (place_of the_program) v the_program b
  at_start outside v b program_is phase awake =
      subst (λ (p : Place). StandsAt p v the_program b) (sym (words_of_none registers no_extra outside refl))
      (record { program = program_is; phase = phase; words = refl; silent = refl; awake = awake })

  pub server_stands : StandsForServer the_server 0x1000
  server_stands = record {
    first = refl;
    id_is = refl;
    lives = refl;
    parent = refl;
    env_type = refl;
    words = refl;
    stack = refl;
  }

  -- it has yet to take the page of the last request away, of which there is none
  pub server_leaves : step_of the_server ≡ step.Releasing
  unfolding server_in step_in
  server_leaves = refl

  -- and its cache rests
  pub cache_rests : (state_in the_server.extra).place ≡ cache.Resting
  unfolding place_in
  cache_rests = refl

  -- the server has no pages but that of the records of open files
  pub server_has : (spaces : SpacesState) → ((p : ℕ) → p ≢ records_page → rows_of spaces first p ≡ None) →
      ((r : ℕ) → r ≢ region_index OPEN_RECORDS → spaces.regions first r ≡ None) →
      (opened : ℕ → TablePlace) (blocks : ℕ) → HasServer spaces the_server opened blocks leaving
  server_has spaces empty tables opened blocks = record {
    status = (tt, refl);
    pages = λ p is. elim (cases_eq p records_page) [
      | inl same ↦ subst (λ (q : ℕ). is_servers_page opened blocks q ≡ true) (sym same) refl
      | inr other ↦ absurd (false≢true (sym (ap (λ (o : Option Entry). is_some o) (empty p other)) ∙ is))
    ];
    tables = λ r is. elim (cases_eq r (region_index OPEN_RECORDS)) [
      | inl same ↦ subst (λ (q : ℕ). is_servers_region q ≡ true) (sym same) refl
      | inr other ↦ absurd (false≢true (sym (ap (λ (o : Option Region). is_some o) (tables r other)) ∙ is))
    ];
    alone = λ j q x y below is there same. absurd (none-some x (sym (empty (place_page j) (λ here. omega (arith, here))) ∙ is));
  }

  pub slot_stands : (names : Names) (spaces : SpacesState) (b : Born) → StandsForServer the_server 0x1000 →
      StandsForBorn names spaces the_program b → (n : ℕ) → StandsForSlot names spaces (slots n) (slot_of b n)
  slot_stands names spaces b serves stands =
      each_slot (λ n k. StandsForSlot names spaces k (slot_of b n)) serves stands (λ n a b. rw (a, b) refl)
