-- The law of spawn as it looks which of its pages are shared, region by region and page by page, from the greatest downwards.
use Rattle.std.proofs.Common.{◌≡◌, ◌≢◌, ◌∙◌, ◌==◌, ◌&&◌, ◌||◌, ◌+◌, ◌-◌, ◌*◌, ◌/◌, ◌%◌, ◌<◌, ◌≤◌, ℕ, Bool, true, false, not, [], Option, Some, None}
use Rattle.std.proofs.Common.{is_some, refl, sym, ap, subst, arith, if◌then◌else◌}
use Rattle.std.specs.Prelude.{bit_and}
use Rattle.std.specs.Option.{option_map}
use Rattle.std.proofs.lemmas.Bool.{eqb-true, eqb-false, false≢true}
use Rattle.std.proofs.lemmas.Nat.{and_assoc}
use Rattle.jos_base.specs.declared.memory.Access.TheVariants.{Read}
use Rattle.jos_base.specs.declared.numbers.TheConstants.{NPTENTRIES, PTE_P, PTE_SYSCALL, UVPT}
use Rattle.jos_base.specs.Counting.{page_limit}
use Rattle.jos_base.specs.Environments.{Slot, is_live}
use Rattle.jos_base.specs.KernelState.{KernelState, slot_at, with_extra}
use Rattle.jos_base.specs.Reach.{Entry}
use Rattle.jos_base.specs.Windows.{entry_word, region_entry}
use Rattle.jos_base.specs.Words.{page_number}
use Rattle.lib_os.specs.declared.numbers.TheConstants.{PTE_SHARE, SERVICE_SPAWN, SPAWN_HERE, SPAWN_STACK, UVPD}
use Rattle.lib_os.specs.declared.place.Step.TheVariants as step
use Rattle.lib_os.specs.declared.service.Service.TheVariants as service
use Rattle.lib_os.specs.declared.spawn_steps.FinishingStep.{FinishingStep}
use Rattle.lib_os.specs.declared.spawn_steps.FinishingStep.TheVariants as finishing
use Rattle.lib_os.specs.declared.spawn_steps.SpawnStep.{SpawnStep}
use Rattle.lib_os.specs.declared.spawn_steps.SpawnStep.TheVariants as spawn
use Rattle.lib_os.specs.AbstractSpawn.{under_shared}
use Rattle.lib_os.specs.AbstractState.{AbstractState, Born, Page}
use Rattle.lib_os.specs.InOrder.{IsInOrder}
use Rattle.lib_os.specs.LibrarySteps.{AbstractFollows}
use Rattle.lib_os.specs.Places.{place_of}
use Rattle.lib_os.specs.Rows.{IsUsers, Names, Rows, descriptor_perm, is_of_descriptor, is_programs, is_shared, rows_of}
use Rattle.lib_os.specs.SpawnedChild.{IsProgress, Progress, passing, spawning_child}
use Rattle.lib_os.specs.SpawnPages.{is_childs}
use Rattle.lib_os.specs.StandsAtSpawn.{IsClosed, StandsAtSpawn}
use Rattle.lib_os.specs.StandsFor.{StandsFor, top_page, view_of}
use Rattle.lib_os.specs.UserCalls.{answer_of, load}
use Rattle.lib_os.proofs.BytesRead.{users_inside}
use Rattle.lib_os.proofs.EntriesStand.{seen_none, seen_own}
use Rattle.lib_os.proofs.EntryWords.{region_told, row_word_bits, row_word_none, row_word_present}
use Rattle.lib_os.proofs.GoesDown.{descriptors_below, no_row, no_table, programs_below}
use Rattle.lib_os.proofs.Loading.{loaded}
use Rattle.lib_os.proofs.Serving.{IsServed, holds_page}
use Rattle.lib_os.proofs.SpawnedGoes.{IsSpawner, spawner}
use Rattle.lib_os.proofs.SpawnKeeps.{none_childs}
use Rattle.lib_os.proofs.SpawnOwnPages.{spawn_there, spawn_words, spawns_at}
use Rattle.lib_os.proofs.SpawnPasses.{NoneShared, closed_with, none_shared_one, passed_to, spawner_goes}
use Rattle.lib_os.proofs.StatesStand.{quiet_stands}
use Rattle.lib_os.proofs.Touching.{touched_quiet}
use Rattle.lib_os.proofs.WindowWords.{read_at, load_directory_word, load_table_word}
use Rattle.lib_stage.specs.Nexts.{seen_as, settled}
use Rattle.lib_stage.specs.ServiceSteps.{Plan, ServiceHolds}
use Rattle.lib_stage.proofs.Laws.{law_of_load, plainly}
use Rattle.lib_fd.specs.DescriptorStages.{is_there}
use Rattle.lib_fork.specs.ForkStages.{first_page, page_of, region_of}
use Rattle.lib_fork.proofs.Walking.{descriptor_users}
use Rattle.lib_birth.specs.declared.stage.BirthStage.TheVariants as stage
use Rattle.lib_birth.specs.BirthStages.{births}
use Rattle.lib_birth.specs.FinishingStages.{finishing_next, passed_below}
use Rattle.lib_birth.proofs.BirthFalls.{entry_falls, region_falls}

-- ---- where it goes on behind a page

abbrev runs_at : ℕ → SpawnStep
runs_at child = spawn.Finishing (finishing.ChildRuns child)

-- None of its pages is its child's then.
pub none_given : (at : FinishingStep) → ((p : ℕ) → is_childs (spawn.Finishing at) p ≡ ((p == page_number SPAWN_HERE) && false) || ((p == page_number SPAWN_STACK) && false)) →
    (p : ℕ) → is_childs (spawn.Finishing at) p ≡ false
none_given at is p = is p ∙ none_childs (p == page_number SPAWN_HERE) (p == page_number SPAWN_STACK)

module _ {names : Names} {t : KernelState} {a : AbstractState} (h : StandsFor names t a) (n path argv child high : ℕ) (from : SpawnStep)
    (stands : place_of (slot_at t n) ≡ spawns_at path argv from) (bears : spawning_child from ≡ Some child)
    (closed : IsClosed (slot_at t n) (spawn_there h n path argv from stands).b path argv child)
    (was : (m : ℕ) (progress : Progress) → IsProgress m from progress → progress ≡ passing m high)
    (held : holds_page (spawns_at path argv from) ≡ holds_page (spawns_at path argv (spawn.Finishing (finishing.ChildRuns child))))
    (childs : (p : ℕ) → is_childs from p ≡ false) where
  abbrev home : ℕ
  home = (slot_at t n).directory

  abbrev b : Born
  b = (spawn_there h n path argv from stands).b

  abbrev moved : SpawnStep → Slot
  moved to = record (slot_at t n) { extra = spawn_words to }

  v : IsSpawner names t a n path argv from child b
  v = spawner h n path argv child from stands bears

  pub goes_to : (at : FinishingStep) (low : ℕ) → low ≤ high → spawning_child (spawn.Finishing at) ≡ Some child →
      holds_page (spawns_at path argv (spawn.Finishing at)) ≡ holds_page (spawns_at path argv (spawn.Finishing (finishing.ChildRuns child))) →
      ((p : ℕ) → is_childs (spawn.Finishing at) p ≡ false) → ((m : ℕ) → IsProgress m (spawn.Finishing at) (passing m low)) →
      NoneShared (spawn_there h n path argv from stands).b (rows_of t.spaces (slot_at t n).directory) low high →
      StandsAtSpawn (view_of t.spaces (slot_at t n).directory) (record (slot_at t n) { extra = spawn_words (spawn.Finishing at) })
      (spawn_there h n path argv from stands).b path argv (spawn.Finishing at) → StandsFor names (with_extra t n (spawn_words (spawn.Finishing at))) a
  goes_to at low lower bears_after same none_childs is none so =
      spawner_goes h n path argv child from (spawn.Finishing at) stands bears bears_after (held ∙ sym same) (λ p. childs p ∙ sym (none_childs p))
      (passed_to from (spawn.Finishing at) low high lower was is none_childs none v.child) so

  module _ (page : ℕ) (below : page ≤ high) (lower : page < top_page)
      (table : page % NPTENTRIES ≢ 0 → is_some (t.spaces.regions (slot_at t n).directory (page / NPTENTRIES)) ≡ true)
      (none : NoneShared (spawn_there h n path argv from stands).b (rows_of t.spaces (slot_at t n).directory) page high) where
    at_page : page % NPTENTRIES ≢ 0 → StandsFor names (with_extra t n (spawn_words (spawn.Finishing (finishing.PassingEntry child (page - 1))))) a
    at_page inside =
        let here : page ≡ page - 1 + 1 = omega (arith, inside) in
        let same : page / NPTENTRIES ≡ (page - 1) / NPTENTRIES = omega (arith, inside) in
        goes_to (finishing.PassingEntry child (page - 1)) page below refl refl (none_given (finishing.PassingEntry child (page - 1)) (λ p. refl))
        (λ m. ap (passing m) here) none (
          closed_with (spawn_words (spawn.Finishing (finishing.PassingEntry child (page - 1)))) closed,
          omega (arith, lower),
          subst (λ (r : ℕ). is_some (t.spaces.regions home r) ≡ true) same (table inside),
        )

    at_region : page % NPTENTRIES ≡ 0 → page / NPTENTRIES ≢ 0 →
        StandsFor names (with_extra t n (spawn_words (spawn.Finishing (finishing.PassingRegion child (page / NPTENTRIES - 1))))) a
    at_region begins above =
        let here : page ≡ (page / NPTENTRIES - 1 + 1) * NPTENTRIES = omega (arith, begins, above) in
        goes_to (finishing.PassingRegion child (page / NPTENTRIES - 1)) page below refl refl
        (none_given (finishing.PassingRegion child (page / NPTENTRIES - 1)) (λ p. refl)) (λ m. ap (passing m) here) none
        (closed_with (spawn_words (spawn.Finishing (finishing.PassingRegion child (page / NPTENTRIES - 1)))) closed, omega (arith, lower))

    at_end : page % NPTENTRIES ≡ 0 → page / NPTENTRIES ≡ 0 → StandsFor names (with_extra t n (spawn_words (spawn.Finishing (finishing.ChildRuns child)))) a
    at_end begins least =
        let here : page ≡ 0 = omega (arith, begins, least) in
        goes_to (finishing.ChildRuns child) page below refl refl (none_given (finishing.ChildRuns child) (λ p. refl)) (λ m. ap (passing m) here) none
        (closed_with (spawn_words (runs_at child)) closed)

    pub goes_below : StandsFor names (with_extra t n (spawn_words (passed_below child page))) a
    goes_below = by_tests (page % NPTENTRIES == 0) (page / NPTENTRIES == 0) refl refl
      where
        by_tests : (first least : Bool) → (page % NPTENTRIES == 0) ≡ first → (page / NPTENTRIES == 0) ≡ least →
            StandsFor names (with_extra t n (spawn_words (if not first then spawn.Finishing (finishing.PassingEntry child (page - 1))
            else if not least then spawn.Finishing (finishing.PassingRegion child (page / NPTENTRIES - 1))
            else spawn.Finishing (finishing.ChildRuns child)))) a
        by_tests false least at some = at_page (eqb-false (page % NPTENTRIES) 0 at)
        by_tests true false at some = at_region (eqb-true (page % NPTENTRIES) 0 at) (eqb-false (page / NPTENTRIES) 0 some)
        by_tests true true at some = at_end (eqb-true (page % NPTENTRIES) 0 at) (eqb-true (page / NPTENTRIES) 0 some)

-- ---- a region

module _ (s : KernelState) (n path argv child region : ℕ)
    (stands : place_of (slot_at s n) ≡ spawns_at path argv (spawn.Finishing (finishing.PassingRegion child region))) where
  abbrev at_region_step : FinishingStep
  at_region_step = finishing.PassingRegion child region

  abbrev from_region : SpawnStep
  from_region = spawn.Finishing (finishing.PassingRegion child region)

  abbrev d : ℕ
  d = (slot_at s n).directory

  abbrev address : ℕ
  address = UVPD + 4 * region_of region

  abbrev word : ℕ
  word = entry_word (option_map region_entry (s.spaces.regions d (region_of region)))

  module _ (names : Names) (a : AbstractState) (h : StandsFor names s a) where
    region_loads : load s n address ≡ read_at s n address word
    region_loads =
        let within = (spawn_there h n path argv from_region stands).at.1 in
        load_directory_word s n h.in_order.frames (region_of region) (omega (arith, within))

    module _ (order : IsInOrder (loaded s n address)) where
      there : StandsFor names (loaded s n address) a
      there = quiet_stands h (touched_quiet s.spaces d address Read) order

      abbrev it : IsServed names (loaded s n address) a n (service.Spawn path argv) (step.Spawning from_region)
      it = spawn_there there n path argv from_region stands

      small : region < 955
      small = let within = it.at.1 in omega (arith, within)

      same : region_of region ≡ region
      same = omega (arith, small)

      table_is : is_some ((loaded s n address).spaces.regions d region) ≡ is_there word
      table_is =
          (touched_quiet s.spaces d address Read).regions d region
          ∙ ap (λ (r : ℕ). is_some (s.spaces.regions d r)) (sym same)
          ∙ sym (region_told (s.spaces.regions d (region_of region)))

      behind : is_there word ≡ false → StandsFor names (with_extra (loaded s n address) n (spawn_words (passed_below child (region_of region * NPTENTRIES)))) a
      behind absent =
          goes_below there n path argv child ((region + 1) * NPTENTRIES) from_region stands refl it.at.0 (λ m progress is. is) refl
          (none_given at_region_step (λ p. refl)) (region_of region * NPTENTRIES) (omega (arith, same)) (omega (arith, same, small))
          (λ inside. absurd (inside (omega arith)))
          (record {
            memory = λ p inside at_least lower q.
                let none : it.b.memory p ≡ None = it.own.memory p ∙ no_table names (loaded s n address) d p order (no_table_at p at_least lower) in
                ap (λ (page : Option Page). under_shared page q) none;
            descriptors = λ p descriptor at_least lower. no_row (loaded s n address) d p order (no_table_at p at_least lower);
          })
        where
          no_table_at : (p : ℕ) → region_of region * NPTENTRIES ≤ p → p < (region + 1) * NPTENTRIES →
              is_some ((loaded s n address).spaces.regions d (p / NPTENTRIES)) ≡ false
          no_table_at p at_least lower =
              let here : p / NPTENTRIES ≡ region = omega (arith, same, at_least, lower) in
              ap (λ (r : ℕ). is_some ((loaded s n address).spaces.regions d r)) here ∙ table_is ∙ absent

      -- behind the first page of a region no program has another
      inside_it : is_there word ≡ true →
          StandsFor names (with_extra (loaded s n address) n (spawn_words (spawn.Finishing (finishing.PassingEntry child (first_page region))))) a
      inside_it present =
          goes_to there n path argv child ((region + 1) * NPTENTRIES) from_region stands refl it.at.0 (λ m progress is. is) refl
          (none_given at_region_step (λ p. refl)) (finishing.PassingEntry child (first_page region)) (first_page region + 1) (omega (arith, same))
          refl refl (none_given (finishing.PassingEntry child (first_page region)) (λ p. refl)) (λ m. refl)
          (record {
            memory = λ p inside at_least lower. absurd (let low = programs_below p inside in omega (arith, same, at_least, lower, low));
            descriptors = λ p descriptor at_least lower. absurd (let low = descriptors_below p descriptor in omega (arith, same, at_least, lower, low));
          }) (
            closed_with (spawn_words (spawn.Finishing (finishing.PassingEntry child (first_page region)))) it.at.0,
            omega arith,
            (let here : first_page region / NPTENTRIES ≡ region = omega (arith, same, small) in
                ap (λ (r : ℕ). is_some ((loaded s n address).spaces.regions d r)) here ∙ table_is ∙ present),
          )

      region_follows : let x = finishing_next at_region_step word in
          AbstractFollows (seen_as x) n (settled SERVICE_SPAWN x (loaded s n address) n) a []
      region_follows = (refl, (names, by_test (is_there word) refl))
        where
          by_test : (c : Bool) → is_there word ≡ c →
              StandsFor names (with_extra (loaded s n address) n (spawn_words (if not c then passed_below child (region_of region * NPTENTRIES)
              else spawn.Finishing (finishing.PassingEntry child (first_page region))))) a
          by_test false absent = behind absent
          by_test true present = inside_it present

  module _ (live : is_live (slot_at s n) ≡ true) where
    abbrev plan : Plan
    plan = births (stage.Finishing (finishing.PassingRegion child region))

    pub passing_region_holds : ServiceHolds s n (births (stage.Finishing (finishing.PassingRegion child region)))
    passing_region_holds =
        law_of_load s n plan (service.Spawn path argv) (step.Spawning from_region)
        (record {
          stands = stands;
          live = live;
          numbered = refl;
          plain = plainly refl;
          goes_on = refl;
          falls = λ called. region_falls path argv child region (answer_of called);
          few = omega arith;
        })
        address refl (λ names a h. (record { word = word; is = region_loads names a h }, region_follows names a h))

-- ---- a page

module _ (s : KernelState) (n path argv child page : ℕ)
    (stands : place_of (slot_at s n) ≡ spawns_at path argv (spawn.Finishing (finishing.PassingEntry child page))) where
  abbrev at_entry_step : FinishingStep
  at_entry_step = finishing.PassingEntry child page

  abbrev from_entry : SpawnStep
  from_entry = spawn.Finishing (finishing.PassingEntry child page)

  abbrev dir : ℕ
  dir = (slot_at s n).directory

  abbrev entry_address : ℕ
  entry_address = UVPT + 4 * page_of page

  abbrev found : ℕ
  found = entry_word (s.spaces.entries dir page)

  abbrev bits : ℕ
  bits = bit_and found PTE_SYSCALL

  -- whether it is shared the lasting bits tell
  shared_told : is_shared bits ≡ is_shared found
  shared_told = ap (λ (part : ℕ). part == PTE_SHARE) (and_assoc PTE_SHARE found PTE_SYSCALL)

  module _ (names : Names) (a : AbstractState) (h : StandsFor names s a) where
    entry_loads : load s n entry_address ≡ read_at s n entry_address found
    unfolding page_limit
    entry_loads =
        let stood = (spawn_there h n path argv from_entry stands).at in
        let lower : page < top_page = stood.1 in
        let same : page ≡ page_of page = omega (arith, lower) in
        subst (λ (q : ℕ). load s n (UVPT + 4 * q) ≡ read_at s n (UVPT + 4 * q) found) same
        (load_table_word s n h.in_order.frames page (omega (arith, lower)) stood.2)

    module _ (order : IsInOrder (loaded s n entry_address)) where
      entry_there : StandsFor names (loaded s n entry_address) a
      entry_there = quiet_stands h (touched_quiet s.spaces dir entry_address Read) order

      abbrev at_it : IsServed names (loaded s n entry_address) a n (service.Spawn path argv) (step.Spawning from_entry)
      at_it = spawn_there entry_there n path argv from_entry stands

      -- the row is what it was
      row_is : (o : Option Entry) → rows_of s.spaces dir page ≡ o → rows_of (loaded s n entry_address).spaces dir page ≡ o
      row_is o is = ap (λ (rows : Rows). rows dir page) (touched_quiet s.spaces dir entry_address Read).rows ∙ is

      bits_are : (x : Entry) → rows_of s.spaces dir page ≡ Some x → bits ≡ x.perm
      bits_are x is = row_word_bits s.spaces dir page h.in_order.frames x is

      both_on : (c t : Bool) → (c && t) ≡ false → c ≡ true → t ≡ false
      both_on true t off on = off
      both_on false t off on = absurd (false≢true on)

      -- what is there and not passed on is not shared
      not_shared : (is_there found && is_shared found) ≡ false → (x : Entry) → IsUsers x.perm → rows_of s.spaces dir page ≡ Some x → is_shared x.perm ≡ false
      not_shared off x user is =
          let present : bit_and found PTE_P ≡ PTE_P = row_word_present s.spaces dir page x user is in
          ap is_shared (sym (bits_are x is)) ∙ shared_told
          ∙ both_on (is_there found) (is_shared found) off (ap (λ (w : ℕ). w == PTE_P) present)

      memory_own : (is_there found && is_shared found) ≡ false → is_programs page ≡ true → (q : Option Page) → under_shared (at_it.b.memory page) q ≡ q
      memory_own off inside q = by_row (rows_of s.spaces dir page) refl
        where
          by_row : (o : Option Entry) → rows_of s.spaces dir page ≡ o → under_shared (at_it.b.memory page) q ≡ q
          by_row None none =
              let nothing : at_it.b.memory page ≡ None = at_it.own.memory page ∙ seen_none names (loaded s n entry_address).spaces dir page (row_is None none) in
              ap (λ (x : Option Page). under_shared x q) nothing
          by_row (Some x) is =
              let own_page = not_shared off x (users_inside names s a n at_it.b h at_it.is page x inside is) is in
              ap (λ (y : Option Page). under_shared y q)
              (at_it.own.memory page ∙ seen_own names (loaded s n entry_address).spaces dir page x inside (row_is (Some x) is) own_page)

      none_open : (is_there found && is_shared found) ≡ false → is_of_descriptor page ≡ true → rows_of (loaded s n entry_address).spaces dir page ≡ None
      none_open off descriptor = by_row (rows_of s.spaces dir page) refl
        where
          by_row : (o : Option Entry) → rows_of s.spaces dir page ≡ o → rows_of (loaded s n entry_address).spaces dir page ≡ None
          by_row None none = row_is None none
          by_row (Some x) is =
              let perm : x.perm ≡ descriptor_perm = at_it.own.library.descriptors page x descriptor (row_is (Some x) is) in
              absurd (false≢true (sym (not_shared off x (subst IsUsers (sym perm) descriptor_users) is) ∙ ap is_shared perm))

      passes_it : (is_there found && is_shared found) ≡ false → StandsFor names (with_extra (loaded s n entry_address) n (spawn_words (passed_below child page))) a
      passes_it off =
          goes_below entry_there n path argv child (page + 1) from_entry stands refl at_it.at.0 (λ m progress is. is) refl
          (none_given at_entry_step (λ p. refl)) page (omega arith) at_it.at.1 (λ inside. at_it.at.2)
          (none_shared_one at_it.b (rows_of (loaded s n entry_address).spaces dir) page (memory_own off) (none_open off))

      -- what is shared is passed on
      two : (c t : Bool) → (c && t) ≡ true → (c ≡ true) × (t ≡ true)
      two true true on = (refl, refl)
      two true false on = absurd (false≢true on)
      two false t on = absurd (false≢true on)

      none_between : NoneShared at_it.b (rows_of (loaded s n entry_address).spaces dir) (page + 1) (page + 1)
      none_between = record {
        memory = λ p inside at_least lower. absurd (omega (arith, at_least, lower));
        descriptors = λ p is at_least lower. absurd (omega (arith, at_least, lower));
      }

      maps_it : (is_there found && is_shared found) ≡ true →
          StandsFor names (with_extra (loaded s n entry_address) n (spawn_words (spawn.Finishing (finishing.PassingPage child page bits)))) a
      maps_it on = by_row (rows_of s.spaces dir page) refl
        where
          by_row : (o : Option Entry) → rows_of s.spaces dir page ≡ o →
              StandsFor names (with_extra (loaded s n entry_address) n (spawn_words (spawn.Finishing (finishing.PassingPage child page bits)))) a
          by_row None none =
              let contradiction : false ≡ true =
              sym (ap is_there (row_word_none s.spaces dir page none)) ∙ (two (is_there found) (is_shared found) on).0 in absurd (false≢true contradiction)
          by_row (Some x) is =
              goes_to entry_there n path argv child (page + 1) from_entry stands refl at_it.at.0 (λ m progress is. is) refl
              (none_given at_entry_step (λ p. refl)) (finishing.PassingPage child page bits) (page + 1) (omega arith) refl refl
              (none_given (finishing.PassingPage child page bits) (λ p. refl)) (λ m. refl) none_between (
                closed_with (spawn_words (spawn.Finishing (finishing.PassingPage child page bits))) at_it.at.0,
                at_it.at.1,
                record {
                  entry = x;
                  stands = row_is (Some x) is;
                  shared = ap is_shared (sym (bits_are x is)) ∙ shared_told ∙ (two (is_there found) (is_shared found) on).1;
                  perm_is = bits_are x is;
                },
              )

      entry_follows : let x = finishing_next at_entry_step found in
          AbstractFollows (seen_as x) n (settled SERVICE_SPAWN x (loaded s n entry_address) n) a []
      entry_follows = (refl, (names, by_test (is_there found && is_shared found) refl))
        where
          by_test : (c : Bool) → (is_there found && is_shared found) ≡ c →
              StandsFor names (with_extra (loaded s n entry_address) n (spawn_words (if c then spawn.Finishing (finishing.PassingPage child page bits)
              else passed_below child page))) a
          by_test false absent = passes_it absent
          by_test true present = maps_it present

  module _ (live : is_live (slot_at s n) ≡ true) where
    abbrev entry_plan : Plan
    entry_plan = births (stage.Finishing (finishing.PassingEntry child page))

    pub passing_entry_holds : ServiceHolds s n (births (stage.Finishing (finishing.PassingEntry child page)))
    passing_entry_holds =
        law_of_load s n entry_plan (service.Spawn path argv) (step.Spawning from_entry)
        (record {
          stands = stands;
          live = live;
          numbered = refl;
          plain = plainly refl;
          goes_on = refl;
          falls = λ called. entry_falls path argv child page (answer_of called);
          few = omega arith;
        })
        entry_address refl (λ names a h. (record { word = found; is = entry_loads names a h }, entry_follows names a h))
