-- fork reads whether a region has a table, and the entry of a page.
use Rattle.std.proofs.Common.{◌≡◌, ◌∙◌, ◌==◌, ◌+◌, ◌*◌, ◌/◌, ◌%◌, ◌<◌, ◌≤◌, ℕ, Bool, true, false, not, [], Option, Some, None}
use Rattle.std.proofs.Common.{is_some, refl, sym, ap, subst, arith, if◌then◌else◌}
use Rattle.std.specs.Prelude.{bit_and}
use Rattle.std.specs.Option.{option_map}
use Rattle.jos_base.specs.declared.memory.Access.TheVariants.{Read}
use Rattle.jos_base.specs.declared.numbers.TheConstants.{NENV, NPTENTRIES, PTE_P, PTE_SYSCALL, UVPT}
use Rattle.jos_base.specs.Counting.{page_limit}
use Rattle.jos_base.specs.Environments.{is_live}
use Rattle.jos_base.specs.KernelState.{KernelState, slot_at}
use Rattle.jos_base.specs.Reach.{Entry}
use Rattle.jos_base.specs.SpacesState.{SpacesState}
use Rattle.jos_base.specs.Windows.{entry_word, region_entry}
use Rattle.lib_os.specs.declared.numbers.TheConstants.{SERVICE_FORK, UVPD}
use Rattle.lib_os.specs.declared.place.Place.TheVariants as place
use Rattle.lib_os.specs.declared.place.Step.{Step}
use Rattle.lib_os.specs.declared.place.Step.TheVariants as step
use Rattle.lib_os.specs.declared.service.Service.TheVariants as service
use Rattle.lib_os.specs.AbstractState.{AbstractState}
use Rattle.lib_os.specs.InOrder.{IsInOrder}
use Rattle.lib_os.specs.LibrarySteps.{AbstractFollows}
use Rattle.lib_os.specs.Places.{place_of, words_at}
use Rattle.lib_os.specs.Rows.{Names, Rows, EntryRow, IsUsers, counted, descriptor_perm, rows_of, is_of_descriptor, is_programs}
use Rattle.lib_os.specs.StandsFor.{StandsFor, IsBearing, borne_at, child_perm, top_page}
use Rattle.lib_os.specs.UserCalls.{load}
use Rattle.lib_os.proofs.Bearing.{IsBearer, bearer}
use Rattle.lib_os.proofs.BytesRead.{users_inside}
use Rattle.lib_os.proofs.Effects.{Quiet}
use Rattle.lib_os.proofs.EntryWords.{region_told, row_word_bits, row_word_none, row_word_present}
use Rattle.lib_os.proofs.GoesDown.{HasFrom, IsOnWay, goes_below, has_from, is_child, descriptors_below, moved, no_row, no_table, passes_over}
use Rattle.lib_os.proofs.GoesDown.{passes_page, programs_below, way_stands}
use Rattle.lib_os.proofs.EntriesStand.{seen_none}
use Rattle.lib_os.proofs.GoingOn.{in_with_words}
use Rattle.lib_os.proofs.Loading.{loaded}
use Rattle.lib_os.proofs.StatesStand.{quiet_stands}
use Rattle.lib_os.proofs.Touching.{touched_quiet}
use Rattle.lib_os.proofs.WindowWords.{read_at, load_directory_word, load_table_word}
use Rattle.lib_stage.specs.declared.ask.Next.TheVariants as next
use Rattle.lib_stage.specs.Nexts.{seen_as, settled}
use Rattle.lib_stage.specs.ServiceSteps.{Plan, ServiceHolds}
use Rattle.lib_stage.proofs.Laws.{law_of_load, plainly}
use Rattle.lib_fork.specs.declared.fork.ForkStage.TheVariants as stage
use Rattle.lib_fork.specs.ForkStages.{below, first_page, forking, is_there, next_of, page_of, region_of}
use Rattle.lib_fork.proofs.Falling.{fork_falls}

-- ---- numbers

first_below : (region : ℕ) → first_page region < top_page
first_below region = omega arith

first_in_region : (region : ℕ) → region_of region ≡ region → region < 955 → first_page region / NPTENTRIES ≡ region
first_in_region region same below = omega (arith, same, below)

first_inside : (region : ℕ) → region_of region ≡ region → first_page region + 1 ≤ (region + 1) * NPTENTRIES
first_inside region same = omega (arith, same)

-- behind the first page of a region no program has another
first_is_greatest : (region p : ℕ) → region_of region ≡ region → first_page region + 1 ≤ p → p < (region + 1) * NPTENTRIES → p < top_page → ⊥
first_is_greatest region p same above inside lower = omega (arith, same, above, inside, lower)

-- the bits of a descriptor's page are those of a page that may be read and is not copied
pub descriptor_users : IsUsers descriptor_perm
descriptor_users = record { page = refl; copied = λ cow. absurd (let contradiction : false ≡ true = cow in cc) }

-- ---- a step that reads a word

abbrev d : KernelState → ℕ → ℕ
d s n = (slot_at s n).directory

module _ (s : KernelState) (n id va : ℕ) where
  abbrev spaces : SpacesState
  spaces = (loaded s n va).spaces

  quiet : Quiet s.spaces spaces
  quiet = touched_quiet s.spaces (d s n) va Read

  module _ {names : Names} {a : AbstractState} (h : StandsFor names s a) (order : IsInOrder (loaded s n va)) (at : Step)
      (stands : place_of (slot_at s n) ≡ place.InService service.Fork at) (bears : borne_at at ≡ Some id) where
    there : StandsFor names (loaded s n va) a
    there = quiet_stands h quiet order

    bears_it : IsBearer names (loaded s n va) a n at id
    bears_it = bearer there n at id stands bears

    -- what is so where it goes on, by which the state stands
    abbrev OnWay : Step → Type 0
    OnWay next = IsOnWay names spaces (slot_at s n) bears_it.b id (slot_at s (id % NENV)) next (moved (slot_at s n) next)

    goes_on : (next_step : Step) → ((row : EntryRow) (p : ℕ) → counted (place.InService service.Fork at) row p ≡ row p) → OnWay next_step →
        let x = next.GoOn next_step in AbstractFollows (seen_as x) n (settled SERVICE_FORK x (loaded s n va) n) a []
    goes_on next_step plain way = (refl, (names, way_stands there n id at next_step bears_it way.bears plain way))

    still_bears : (next_step : Step) → IsBearing (slot_at s n) bears_it.b id → IsBearing (moved (slot_at s n) next_step) bears_it.b id
    still_bears next_step is = in_with_words (words_at SERVICE_FORK next_step) is

-- ---- a region

module _ (s : KernelState) (n id region : ℕ) (stands : place_of (slot_at s n) ≡ place.InService service.Fork (step.ForkRegion id region)) where
  abbrev at : Step
  at = step.ForkRegion id region

  abbrev address : ℕ
  address = UVPD + 4 * region_of region

  abbrev word : ℕ
  word = entry_word (option_map region_entry (s.spaces.regions (d s n) (region_of region)))

  module _ (names : Names) (a : AbstractState) (h : StandsFor names s a) where
    region_loads : load s n address ≡ read_at s n address word
    region_loads =
        let v : IsBearer names s a n at id = bearer h n at id stands refl in
        let small = v.stands.1 in
        load_directory_word s n h.in_order.frames (region_of region) (omega (arith, small))

    module _ (order : IsInOrder (loaded s n address)) where
      abbrev v : IsBearer names (loaded s n address) a n at id
      v = bears_it s n id address h order at stands refl

      small : region < 955
      small = let within = v.stands.1 in omega (arith, within)

      same : region_of region ≡ region
      same = omega (arith, small)

      has : HasFrom names (loaded s n address).spaces (slot_at s n) v.b ((region + 1) * NPTENTRIES) (slot_at s (id % NENV))
      has = has_from at refl refl v.child

      table_is : is_some ((loaded s n address).spaces.regions (d s n) region) ≡ is_there word
      table_is =
          (touched_quiet s.spaces (d s n) address Read).regions (d s n) region
          ∙ ap (λ (r : ℕ). is_some (s.spaces.regions (d s n) r)) (sym same)
          ∙ sym (region_told (s.spaces.regions (d s n) (region_of region)))

      abbrev way_to : Step → Type 0
      way_to next_step = OnWay s n id address h order at stands refl next_step

      behind : is_there word ≡ false → way_to (below id (region_of region * NPTENTRIES))
      behind absent =
          let next_step = below id (region_of region * NPTENTRIES) in
          goes_below id (region_of region * NPTENTRIES) (moved (slot_at s n) next_step)
          (still_bears s n id address h order at stands refl next_step v.stands.0)
          (omega (arith, same, small))
          (λ inside. absurd (inside (omega arith)))
          (passes_over ((region + 1) * NPTENTRIES) (region_of region * NPTENTRIES) (omega (arith, same))
          (λ p inside at_least lower. v.own.memory p ∙ no_table names (loaded s n address) (d s n) p order (no_table_at p at_least lower))
          (λ p descriptor at_least lower. no_row (loaded s n address) (d s n) p order (no_table_at p at_least lower)) has)
        where
          no_table_at : (p : ℕ) → region_of region * NPTENTRIES ≤ p → p < (region + 1) * NPTENTRIES →
              is_some ((loaded s n address).spaces.regions (d s n) (p / NPTENTRIES)) ≡ false
          no_table_at p at_least lower =
              let here : p / NPTENTRIES ≡ region = omega (arith, same, at_least, lower) in
              ap (λ (r : ℕ). is_some ((loaded s n address).spaces.regions (d s n) r)) here ∙ table_is ∙ absent

      inside_it : is_there word ≡ true → way_to (step.ForkEntry id (first_page region))
      unfolding counted
      inside_it present =
          let next_step = step.ForkEntry id (first_page region) in
          record {
            bears = refl;
            has = is_child next_step refl refl
                (passes_over ((region + 1) * NPTENTRIES) (first_page region + 1) (first_inside region same)
                (λ p inside at_least lower. absurd (first_is_greatest region p same at_least lower (programs_below p inside)))
                (λ p descriptor at_least lower. absurd (first_is_greatest region p same at_least lower (descriptors_below p descriptor))) has);
            stands = (
              still_bears s n id address h order at stands refl next_step v.stands.0,
              first_below region,
              ap (λ (r : ℕ). is_some ((loaded s n address).spaces.regions (d s n) r)) (first_in_region region same small) ∙ table_is ∙ present,
            );
            plain = λ row p. refl;
          }

      region_follows : let x = next_of (stage.Region id region) word in
          AbstractFollows (seen_as x) n (settled SERVICE_FORK x (loaded s n address) n) a []
      unfolding counted
      region_follows = by_test (is_there word) refl
        where
          by_test : (t : Bool) → is_there word ≡ t →
              let x = if not t then next.GoOn (below id (region_of region * NPTENTRIES)) else next.GoOn (step.ForkEntry id (first_page region)) in
              AbstractFollows (seen_as x) n (settled SERVICE_FORK x (loaded s n address) n) a []
          by_test false absent =
              goes_on s n id address h order at stands refl (below id (region_of region * NPTENTRIES)) (λ row p. refl) (behind absent)
          by_test true present =
              goes_on s n id address h order at stands refl (step.ForkEntry id (first_page region)) (λ row p. refl) (inside_it present)

  module _ (live : is_live (slot_at s n) ≡ true) where
    abbrev plan : Plan
    plan = forking (record { at = stage.Region id region })

    pub region_holds : ServiceHolds s n plan
    region_holds =
        law_of_load s n plan service.Fork at
        (record { stands = stands; live = live; numbered = refl; plain = plainly refl; goes_on = refl; falls = fork_falls (stage.Region id region); few = omega arith })
        address refl (λ names a h. (record { word = word; is = region_loads names a h }, region_follows names a h))

-- ---- a page

module _ (s : KernelState) (n id page : ℕ) (stands : place_of (slot_at s n) ≡ place.InService service.Fork (step.ForkEntry id page)) where
  abbrev at_entry : Step
  at_entry = step.ForkEntry id page

  abbrev entry_address : ℕ
  entry_address = UVPT + 4 * page_of page

  abbrev found : ℕ
  found = entry_word (s.spaces.entries (d s n) page)

  abbrev bits : ℕ
  bits = child_perm (bit_and found PTE_SYSCALL)

  module _ (names : Names) (a : AbstractState) (h : StandsFor names s a) where
    entry_loads : load s n entry_address ≡ read_at s n entry_address found
    unfolding page_limit
    entry_loads =
        let v : IsBearer names s a n at_entry id = bearer h n at_entry id stands refl in
        let lower : page < top_page = v.stands.1 in
        let same : page ≡ page_of page = omega (arith, lower) in
        subst (λ (q : ℕ). load s n (UVPT + 4 * q) ≡ read_at s n (UVPT + 4 * q) found) same
        (load_table_word s n h.in_order.frames page (omega (arith, lower)) v.stands.2)

    module _ (order : IsInOrder (loaded s n entry_address)) where
      abbrev it : IsBearer names (loaded s n entry_address) a n at_entry id
      it = bears_it s n id entry_address h order at_entry stands refl

      has_above : HasFrom names (loaded s n entry_address).spaces (slot_at s n) it.b (page + 1) (slot_at s (id % NENV))
      has_above = has_from at_entry refl refl it.child

      -- the row is what it was
      row_is : (o : Option Entry) → rows_of s.spaces (d s n) page ≡ o → rows_of (loaded s n entry_address).spaces (d s n) page ≡ o
      row_is o is = ap (λ (rows : Rows). rows (d s n) page) (touched_quiet s.spaces (d s n) entry_address Read).rows ∙ is

      abbrev entry_way : Step → Type 0
      entry_way next_step = OnWay s n id entry_address h order at_entry stands refl next_step

      missing : is_there found ≡ false → is_programs page ≡ true → it.b.memory page ≡ None
      missing absent inside = by_row (rows_of s.spaces (d s n) page) refl
        where
          by_row : (o : Option Entry) → rows_of s.spaces (d s n) page ≡ o → it.b.memory page ≡ None
          by_row None none =
              it.own.memory page ∙ seen_none names (loaded s n entry_address).spaces (d s n) page (row_is None none)
          by_row (Some x) is =
              let present : bit_and found PTE_P ≡ PTE_P =
              row_word_present s.spaces (d s n) page x (users_inside names s a n it.b h it.is page x inside is) is in
              let contradiction : true ≡ false = sym (ap (λ (w : ℕ). w == PTE_P) present) ∙ absent in absurd cc

      -- the entry of a descriptor may be read
      none_open : is_there found ≡ false → is_of_descriptor page ≡ true → rows_of (loaded s n entry_address).spaces (d s n) page ≡ None
      none_open absent descriptor = by_row (rows_of s.spaces (d s n) page) refl
        where
          by_row : (o : Option Entry) → rows_of s.spaces (d s n) page ≡ o → rows_of (loaded s n entry_address).spaces (d s n) page ≡ None
          by_row None none = row_is None none
          by_row (Some x) is =
              let perm : x.perm ≡ descriptor_perm = it.own.library.descriptors page x descriptor (row_is (Some x) is) in
              let present : bit_and found PTE_P ≡ PTE_P =
              row_word_present s.spaces (d s n) page x (subst IsUsers (sym perm) descriptor_users) is in
              let contradiction : true ≡ false = sym (ap (λ (w : ℕ). w == PTE_P) present) ∙ absent in absurd cc

      passes_it : is_there found ≡ false → entry_way (below id page)
      passes_it absent =
          goes_below id page (moved (slot_at s n) (below id page))
          (still_bears s n id entry_address h order at_entry stands refl (below id page) it.stands.0) it.stands.1
          (λ inside. it.stands.2) (passes_page page (missing absent) (none_open absent) has_above)

      maps_it : is_there found ≡ true → entry_way (step.MapChild id page bits)
      unfolding counted
      maps_it present = by_row (rows_of s.spaces (d s n) page) refl
        where
          by_row : (o : Option Entry) → rows_of s.spaces (d s n) page ≡ o → entry_way (step.MapChild id page bits)
          by_row None none =
              let contradiction : false ≡ true = sym (ap is_there (row_word_none s.spaces (d s n) page none)) ∙ present in absurd cc
          by_row (Some x) is = record {
            bears = refl;
            has = is_child (step.MapChild id page bits) refl refl has_above;
            stands = (
              still_bears s n id entry_address h order at_entry stands refl (step.MapChild id page bits) it.stands.0,
              record {
                below = it.stands.1;
                entry = x;
                stands = row_is (Some x) is;
                bits = ap child_perm (row_word_bits s.spaces (d s n) page h.in_order.frames x is);
              },
            );
            plain = λ row p. refl;
          }

      entry_follows : let x = next_of (stage.Entry id page) found in
          AbstractFollows (seen_as x) n (settled SERVICE_FORK x (loaded s n entry_address) n) a []
      unfolding counted
      entry_follows = by_test (is_there found) refl
        where
          by_test : (t : Bool) → is_there found ≡ t →
              let x = if not t then next.GoOn (below id page) else next.GoOn (step.MapChild id page bits) in
              AbstractFollows (seen_as x) n (settled SERVICE_FORK x (loaded s n entry_address) n) a []
          by_test false absent =
              goes_on s n id entry_address h order at_entry stands refl (below id page) (λ row p. refl) (passes_it absent)
          by_test true present =
              goes_on s n id entry_address h order at_entry stands refl (step.MapChild id page bits) (λ row p. refl) (maps_it present)

  module _ (live : is_live (slot_at s n) ≡ true) where
    abbrev entry_plan : Plan
    entry_plan = forking (record { at = stage.Entry id page })

    pub entry_holds : ServiceHolds s n entry_plan
    entry_holds =
        law_of_load s n entry_plan service.Fork at_entry
        (record { stands = stands; live = live; numbered = refl; plain = plainly refl; goes_on = refl; falls = fork_falls (stage.Entry id page); few = omega arith })
        entry_address refl (λ names a h. (record { word = found; is = entry_loads names a h }, entry_follows names a h))
