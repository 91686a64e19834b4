-- send, up to where it has found its region: what it refuses, and what it has found out of its page.
use Rattle.std.proofs.Common.{◌≡◌, ◌≢◌, ◌∙◌, ◌==◌, ◌+◌, ◌*◌, ◌/◌, ◌&&◌, ◌||◌, ◌<◌, ℕ, Bool, true, false, not, [], Option, Some, None, ap}
use Rattle.std.proofs.Common.{refl, sym, subst, arith, if◌then◌else◌}
use Rattle.std.specs.Prelude.{is_some, bit_and}
use Rattle.std.specs.Option.{option_map}
use Rattle.std.proofs.lemmas.Bool.Decides.{nat_tests}
use Rattle.jos_base.specs.declared.memory.Access.TheVariants.{Read}
use Rattle.jos_base.specs.declared.numbers.TheConstants.{E_INVAL, FIRST_ENV_ID, NPTENTRIES, PGSIZE, PTE_P}
use Rattle.jos_base.specs.declared.registers.Regs.{Regs}
use Rattle.jos_base.specs.KernelState.{KernelState, slot_at, with_extra}
use Rattle.jos_base.specs.Reach.{Entry}
use Rattle.jos_base.specs.SpacesState.{Region, region_limit}
use Rattle.jos_base.specs.Windows.{entry_word, region_entry}
use Rattle.jos_base.specs.Words.{negated, page_number}
use Rattle.lib_os.specs.declared.numbers.TheConstants.{SERVICE_SEND, UVPD}
use Rattle.lib_os.specs.declared.place.Place.TheVariants as place
use Rattle.lib_os.specs.declared.place.Step.{Step}
use Rattle.lib_os.specs.declared.place.Step.TheVariants as step
use Rattle.lib_os.specs.declared.progress.Progress.TheVariants as progress
use Rattle.lib_os.specs.declared.service.Service.TheVariants as service
use Rattle.lib_os.specs.AbstractMemory.{page_at}
use Rattle.lib_os.specs.AbstractMessages.{server_id, is_page_to_send}
use Rattle.lib_os.specs.AbstractState.{AbstractState, Born, entered}
use Rattle.lib_os.specs.Answers as abstract_system
use Rattle.lib_os.specs.Fence.{is_page_inside}
use Rattle.lib_os.specs.InOrder.{IsInOrder}
use Rattle.lib_os.specs.LibraryCall.{library_step}
use Rattle.lib_os.specs.LibrarySteps.{AbstractFollows, KeepsStanding, service_answered}
use Rattle.lib_os.specs.Places.{place_of, words_at}
use Rattle.lib_os.specs.Rows.{Names, EntryRow, rows_of, lasting, page_seen}
use Rattle.lib_os.specs.InService.{IsIn}
use Rattle.lib_os.specs.StandsFor.{StandsFor, IsLooking, MaySend, MaySendBy, StandsAtStep, view_of, borne_in}
use Rattle.lib_os.specs.UserCalls.{load}
use Rattle.lib_os.proofs.Answering.{back_stands}
use Rattle.lib_os.proofs.EntriesStand.{seen_none}
use Rattle.lib_os.proofs.EntryWords.{region_told}
use Rattle.lib_os.proofs.Fences.{page_inside_below}
use Rattle.lib_os.proofs.GoingOn.{in_with_words, words_stand}
use Rattle.lib_os.proofs.Loading.{loaded}
use Rattle.lib_os.proofs.Numbered.{named_at}
use Rattle.lib_os.proofs.PipesStand.{is_calm, is_calm_step}
use Rattle.lib_os.proofs.Serving.{IsServed, holds_page, printed_nothing, served, step_in}
use Rattle.lib_os.proofs.SlotsStand.{born_at}
use Rattle.lib_os.proofs.StatesStand.{quiet_stands}
use Rattle.lib_os.proofs.Touching.{touched_quiet}
use Rattle.lib_os.proofs.WindowWords.{read_at, load_directory_word}
use Rattle.lib_stage.specs.declared.ask.Next.{Next}
use Rattle.lib_stage.specs.declared.ask.Next.TheVariants as next
use Rattle.lib_stage.specs.Nexts.{seen_as, settled}
use Rattle.lib_msg.specs.declared.send.SendStage.TheVariants as stage
use Rattle.lib_msg.specs.SendStages.{may_name, next_of}
use Rattle.lib_msg.proofs.Entering.{server_is}

-- ---- the abstract step

named_parts : (id own : ℕ) → may_name id own ≡ true → (id ≢ 0) × (id ≢ own) × (id ≢ FIRST_ENV_ID)
named_parts id own on = by_test (id == 0) (id == own) (id == FIRST_ENV_ID) refl refl refl on
  where
    by_test : (t u v : Bool) → (id == 0) ≡ t → (id == own) ≡ u → (id == FIRST_ENV_ID) ≡ v → (not t && (not u && not v)) ≡ true →
        (id ≢ 0) × (id ≢ own) × (id ≢ FIRST_ENV_ID)
    by_test false false false zero mine servers e = (grind (arith, nat_tests), grind (arith, nat_tests), grind (arith, nat_tests))
    by_test true u v zero mine servers e = absurd (let contradiction : false ≡ true = e in cc)
    by_test false true v zero mine servers e = absurd (let contradiction : false ≡ true = e in cc)
    by_test false false true zero mine servers e = absurd (let contradiction : false ≡ true = e in cc)

nobody_step : (a : AbstractState) (n : ℕ) (b : Born) (regs : Regs) (id value va own : ℕ) → own ≡ b.id → server_id a ≡ FIRST_ENV_ID →
    may_name id own ≡ false →
    library_step a n b regs (service.Send id value va) entered ≡ Some (abstract_system.refused a n b regs E_INVAL)
unfolding library_step
nobody_step a n b regs id value va own own_is server off =
    rw server (by_test (id == 0) (id == b.id) (id == FIRST_ENV_ID) _ (subst (λ (i : ℕ). may_name id i ≡ false) own_is off))
  where
    by_test : (t u v : Bool) (rest : Option AbstractState) → (not t && (not u && not v)) ≡ false →
        (if t || u || v then Some (abstract_system.refused a n b regs E_INVAL) else rest) ≡ Some (abstract_system.refused a n b regs E_INVAL)
    by_test true u v rest e = refl
    by_test false true v rest e = refl
    by_test false false true rest e = refl
    by_test false false false rest e = absurd (let contradiction : true ≡ false = e in cc)

no_page_step : (a : AbstractState) (n : ℕ) (b : Born) (regs : Regs) (id value va : ℕ) → id ≢ 0 → id ≢ b.id → id ≢ server_id a →
    is_page_to_send b va ≡ false →
    library_step a n b regs (service.Send id value va) entered ≡ Some (abstract_system.refused a n b regs E_INVAL)
unfolding library_step
no_page_step a n b regs id value va some other server off =
    let first : (id == 0) ≡ false = grind (arith, nat_tests) in
    let second : (id == b.id) ≡ false = grind (arith, nat_tests) in
    let third : (id == server_id a) ≡ false = grind (arith, nat_tests) in
    rw (first, second, third, off) refl

outside : (b : Born) (va : ℕ) → va ≢ 0 → is_page_inside va ≡ false → is_page_to_send b va ≡ false
outside b va some off = let test : (va == 0) ≡ false = grind (arith, nat_tests) in rw (test, off) refl

missing : (b : Born) (va : ℕ) → va ≢ 0 → is_page_inside va ≡ true → page_at b va ≡ None → is_page_to_send b va ≡ false
missing b va some on none = let test : (va == 0) ≡ false = grind (arith, nat_tests) in rw (test, on, none) refl

-- ---- the first step

module _ (s : KernelState) (n id value va : ℕ)
    (stands : place_of (slot_at s n) ≡ place.InService (service.Send id value va) step.Entered) where
  abbrev own : ℕ
  own = (slot_at s n).id

  refused_so : ((names : Names) (a : AbstractState) → StandsFor names s a → (b : Born) → own ≡ b.id →
      library_step a n b (slot_at s n).registers (service.Send id value va) entered ≡ Some (abstract_system.refused a n b (slot_at s n).registers E_INVAL)) →
      KeepsStanding progress.Finished n s (service_answered s n (negated E_INVAL)) []
  refused_so why a h turn quiet =
      let v = served h.1 n (service.Send id value va) step.Entered stands in
      let here : IsIn (slot_at s n) v.b (service.Send id value va) entered = v.at in
      let regs = (slot_at s n).registers in (
        abstract_system.refused a n v.b regs E_INVAL,
        step_in a n v.b (slot_at s n) (service.Send id value va) entered v.is here ∙ why h.0 a h.1 v.b v.own.id,
        printed_nothing a,
        (h.0, back_stands h.1 n v.b v.is (record regs { eax = negated E_INVAL }) (ap borne_in v.place) (ap holds_page v.place) (ap is_calm v.place) here.silent here.awake v.outside refl refl),
      )

  -- it goes on, where what is to stand there does
  goes_so : (to : Step) → is_calm_step to ≡ true → ((names : Names) (a : AbstractState) → StandsFor names s a → (b : Born) → own ≡ b.id →
      IsIn (slot_at s n) b (service.Send id value va) entered →
      StandsAtStep (view_of s.spaces (slot_at s n).directory) (record (slot_at s n) { extra = words_at SERVICE_SEND to }) b (service.Send id value va) to) →
      KeepsStanding progress.Hidden n s (with_extra s n (words_at SERVICE_SEND to)) []
  goes_so to calm there a h turn quiet =
      let v = served h.1 n (service.Send id value va) step.Entered stands in (
        refl,
        (
          h.0,
          words_stand h.1 n SERVICE_SEND v.b v.is v.own v.outside (ap borne_in v.place) (ap is_calm v.place) (service.Send id value va) to (ap holds_page v.place) refl calm
              (named_at (slot_at s n) (service.Send id value va) step.Entered stands) (there h.0 a h.1 v.b v.own.id v.at),
        ),
      )

  no_page : (row : EntryRow) → va ≡ 0 → MaySend row va 0
  no_page row none = let test : (va == 0) ≡ true = grind (arith, nat_tests) in subst (λ (t : Bool). MaySendBy t row va 0) (sym test) tt

  abbrev next_keeps : (x : Next) → Type 0
  next_keeps x = KeepsStanding (seen_as x) n s (settled SERVICE_SEND x s n) []

  pub entered_keeps : next_keeps (next_of id va stage.Entered own)
  entered_keeps = by_tests (may_name id own) (va == 0) (is_page_inside va) refl refl refl
    where
      by_tests : (t u v : Bool) → may_name id own ≡ t → (va == 0) ≡ u → is_page_inside va ≡ v →
          next_keeps (if not t then next.Answer (negated E_INVAL) else if u then next.GoOn (step.Trying 0)
          else if not v then next.Answer (negated E_INVAL) else next.GoOn step.ReadingRegion)
      by_tests false u v off none inside =
          refused_so (λ names a h b e. nobody_step a n b (slot_at s n).registers id value va own e (server_is h) off)
      by_tests true true v on none inside =
          let all = named_parts id own on in
          goes_so (step.Trying 0) refl (λ names a h b e here. record {
            is_in = in_with_words (words_at SERVICE_SEND (step.Trying 0)) here;
            some = all.0;
            other = (λ x. all.1 (x ∙ sym e), all.2);
            page = no_page (rows_of s.spaces (slot_at s n).directory) (grind (arith, nat_tests));
          })
      by_tests true false false on some off =
          let all = named_parts id own on in
          refused_so (λ names a h b e. no_page_step a n b (slot_at s n).registers id value va (all.0) (λ x. all.1 (x ∙ sym e)) (λ x. all.2 (x ∙ server_is h))
          (outside b va (grind (arith, nat_tests)) off))
      by_tests true false true on some inside =
          let all = named_parts id own on in
          goes_so step.ReadingRegion refl (λ names a h b e here. record {
            is_in = in_with_words (words_at SERVICE_SEND step.ReadingRegion) here;
            some = all.0;
            other = (λ x. all.1 (x ∙ sym e), all.2);
            somewhere = grind (arith, nat_tests);
            inside = inside;
          })

-- ---- the region

-- no entry stands in a region that has no table, and so no page is seen there
no_table : (names : Names) (s : KernelState) (d p : ℕ) → IsInOrder s → is_some (s.spaces.regions d (p / NPTENTRIES)) ≡ false →
    page_seen names s.spaces d p ≡ None
unfolding rows_of
no_table names s d p in_order none = seen_none names s.spaces d p (by_entry (s.spaces.entries d p) refl)
  where
    by_entry : (o : Option Entry) → s.spaces.entries d p ≡ o → option_map lasting o ≡ None
    by_entry None is = refl
    by_entry (Some e) is = absurd (let contradiction : true ≡ false = sym (in_order.frames.regions d p e is) ∙ none in cc)

region_below : (va : ℕ) → is_page_inside va ≡ true → va / PGSIZE / NPTENTRIES < region_limit
region_below va inside = let below = page_inside_below va inside in omega (arith, below)

module _ (s : KernelState) (n id value va : ℕ)
    (stands : place_of (slot_at s n) ≡ place.InService (service.Send id value va) step.ReadingRegion) where
  abbrev address : ℕ
  address = UVPD + 4 * (va / PGSIZE / NPTENTRIES)

  abbrev region : Option Region
  region = s.spaces.regions (slot_at s n).directory (va / PGSIZE / NPTENTRIES)

  -- it reads the entry that says whether the region has a table
  abbrev pub region_word : ℕ
  region_word = entry_word (option_map region_entry region)

  pub region_there : (names : Names) (a : AbstractState) → StandsFor names s a → load s n address ≡ read_at s n address region_word
  region_there names a h =
      let v = served h n (service.Send id value va) step.ReadingRegion stands in
      let at : IsLooking (slot_at s n) v.b id value va = v.at in
      load_directory_word s n h.in_order.frames (va / PGSIZE / NPTENTRIES) (region_below va at.inside)

  pub region_follows : (names : Names) (a : AbstractState) (h : StandsFor names s a) → IsInOrder (loaded s n address) →
      let x = next_of id va stage.ReadingRegion region_word in AbstractFollows (seen_as x) n (settled SERVICE_SEND x (loaded s n address) n) a []
  region_follows names a h order = by_test (bit_and region_word PTE_P == PTE_P) refl
    where
      v : IsServed names s a n (service.Send id value va) step.ReadingRegion
      v = served h n (service.Send id value va) step.ReadingRegion stands

      at : IsLooking (slot_at s n) v.b id value va
      at = v.at

      there : StandsFor names (loaded s n address) a
      there = quiet_stands h (touched_quiet s.spaces (slot_at s n).directory address Read) order

      by_test : (t : Bool) → (bit_and region_word PTE_P == PTE_P) ≡ t →
          let x = if not t then next.Answer (negated E_INVAL) else next.GoOn step.ReadingEntry in
          AbstractFollows (seen_as x) n (settled SERVICE_SEND x (loaded s n address) n) a []
      by_test false absent =
          let regs = (slot_at s n).registers in
          let no_page : page_at v.b va ≡ None =
          v.own.memory (page_number va) ∙ no_table names s (slot_at s n).directory (page_number va) h.in_order (sym (region_told region) ∙ absent) in (
            abstract_system.refused a n v.b regs E_INVAL,
            step_in a n v.b (slot_at s n) (service.Send id value va) entered v.is at.is_in
                ∙ no_page_step a n v.b regs id value va at.some (at.other.0) (λ x. at.other.1 (x ∙ server_is h))
                (missing v.b va at.somewhere at.inside no_page),
            printed_nothing a,
            (names, back_stands there n v.b v.is (record regs { eax = negated E_INVAL }) (ap borne_in v.place) (ap holds_page v.place) (ap is_calm v.place) at.is_in.silent at.is_in.awake v.outside refl refl),
          )
      by_test true present =
          let known : is_some ((loaded s n address).spaces.regions (slot_at s n).directory (va / PGSIZE / NPTENTRIES)) ≡ true =
          (touched_quiet s.spaces (slot_at s n).directory address Read).regions (slot_at s n).directory (va / PGSIZE / NPTENTRIES)
          ∙ sym (region_told region) ∙ present in (
            refl,
            (
              names,
              words_stand there n SERVICE_SEND v.b v.is (born_at there n v.b v.is) v.outside (ap borne_in v.place) (ap is_calm v.place) (service.Send id value va) step.ReadingEntry (ap holds_page v.place) refl refl
                  (named_at (slot_at s n) (service.Send id value va) step.ReadingRegion stands) (
                    record {
                      is_in = in_with_words (words_at SERVICE_SEND step.ReadingEntry) at.is_in;
                      some = at.some;
                      other = at.other;
                      somewhere = at.somewhere;
                      inside = at.inside;
                    },
                    known,
                  ),
            ),
          )
