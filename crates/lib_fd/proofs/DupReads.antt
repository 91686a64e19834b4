-- dup, where it reads: whether descriptors' pages have a table, whether the old one is open, and whether the new one is. Its refusals are
-- seen, and its answer where both are the same one; all else that it does here is hidden.
use Rattle.std.proofs.Common.{◌≡◌, ◌∙◌, ◌<◌, ◌≤◌, ◌==◌, ◌||◌, ℕ, Bool, true, false, not, [], Option, Some, None}
use Rattle.std.proofs.Common.{is_some, refl, sym, ap, subst, arith, if◌then◌else◌}
use Rattle.std.specs.Prelude.{nat_lt}
use Rattle.std.proofs.lemmas.Bool.Decides.{nat_tests}
use Rattle.jos_base.specs.declared.called.Called.{Called}
use Rattle.jos_base.specs.declared.memory.Access.TheVariants.{Read}
use Rattle.jos_base.specs.declared.numbers.TheConstants.{E_INVAL, SYS_GETENVID}
use Rattle.jos_base.specs.declared.registers.Regs.{Regs}
use Rattle.jos_base.specs.Environments.{is_live}
use Rattle.jos_base.specs.KernelState.{KernelState, slot_at}
use Rattle.jos_base.specs.Reach.{Entry}
use Rattle.jos_base.specs.Words.{negated}
use Rattle.lib_os.specs.declared.numbers.TheConstants.{DESCRIPTORS, SERVICE_DUP}
use Rattle.lib_os.specs.declared.place.PipeStep.TheVariants as pipe
use Rattle.lib_os.specs.declared.place.Place.TheVariants as place
use Rattle.lib_os.specs.declared.place.Step.{Step}
use Rattle.lib_os.specs.declared.place.Step.TheVariants as step
use Rattle.lib_os.specs.declared.service.Service.{Service}
use Rattle.lib_os.specs.declared.service.Service.TheVariants as service
use Rattle.lib_os.specs.AbstractRun.{abs_step}
use Rattle.lib_os.specs.AbstractState.{AbstractState, entered}
use Rattle.lib_os.specs.Answers as abstract_system
use Rattle.lib_os.specs.InOrder.{IsInOrder}
use Rattle.lib_os.specs.LibraryCall.{library_step}
use Rattle.lib_os.specs.LibrarySteps.{AbstractFollows, KeepsStanding}
use Rattle.lib_os.specs.Places.{place_of, words_at}
use Rattle.lib_os.specs.Rows.{Names, descriptor_page, pipe_page, rows_of}
use Rattle.lib_os.specs.InService.{IsDupping, IsIn, IsOpen}
use Rattle.lib_os.specs.LibraryPages.{View}
use Rattle.lib_os.specs.StandsFor.{StandsFor, borne_in, view_of}
use Rattle.lib_os.specs.UserCalls.{CallStep, answer_of}
use Rattle.lib_os.proofs.Answering.{back_stands}
use Rattle.lib_os.proofs.Calls.{getenvid_is}
use Rattle.lib_os.proofs.DescriptorLooks.{SeesDescriptors, dup_itself, dup_past, dup_refuses, entry_va, no_table_row, none_seen, none_there, object_is}
use Rattle.lib_os.proofs.DescriptorLooks.{object_missing, object_past, seen_calm}
use Rattle.lib_os.proofs.DescriptorLooks.{page_gives, page_told, page_word, read_answers, read_goes_on, table_gives, table_region, table_told}
use Rattle.lib_os.proofs.DescriptorLooks.{table_va, table_word}
use Rattle.lib_os.proofs.EndsDropped.{no_end_mapped, pipe_entry_va, pipe_gives, pipe_told, pipe_word}
use Rattle.lib_os.proofs.GoingOn.{in_with_words}
use Rattle.lib_os.proofs.Loading.{loaded}
use Rattle.lib_os.proofs.PipesStand.{calm_on_way, is_calm, no_pipe_beside}
use Rattle.lib_os.proofs.Serving.{IsServed, holds_page, printed_nothing, served, step_in}
use Rattle.lib_os.proofs.StatesStand.{ends_at}
use Rattle.lib_os.proofs.Touching.{touched_quiet}
use Rattle.lib_os.proofs.Trying.{LivesOn}
use Rattle.lib_stage.specs.declared.ask.Ask.TheVariants as ask
use Rattle.lib_stage.specs.declared.ask.Next.{Next}
use Rattle.lib_stage.specs.declared.ask.Next.TheVariants as next
use Rattle.lib_stage.specs.Asks.{no_args}
use Rattle.lib_stage.specs.Nexts.{seen_as, settled}
use Rattle.lib_stage.specs.ServiceSteps.{Plan, ServiceHolds}
use Rattle.lib_stage.proofs.Laws.{Falls, KeepsBy, law_of_call, law_of_load, law_of_load_in_turn, plainly}
use Rattle.lib_fd.specs.declared.dup.DupStage.{DupStage}
use Rattle.lib_fd.specs.declared.dup.DupStage.TheVariants as stage
use Rattle.lib_fd.specs.DescriptorStages.{duplicating, is_there, region_asked}

-- ---- what comes next, by the tests

abbrev refusal : Next
refusal = next.Answer (negated E_INVAL)

abbrev begun_next : ℕ → Bool → Next
begun_next old refuses = if refuses then refusal else next.GoOn (step.DescriptorEntry old)

abbrev old_next : ℕ → Bool → Bool → Next
old_next new refuses same = if refuses then refusal else if same then next.Answer new else next.GoOn step.TargetEntry

abbrev new_next : ℕ → Bool → Next
new_next new there = if there then next.GoOn (step.Piped (pipe.PipeEntry new)) else next.GoOn (step.Piped pipe.SourcePipe)

abbrev new_pipe_next : ℕ → Bool → Next
new_pipe_next new there = next.GoOn (if there then step.Piped (pipe.DroppingEnd new) else step.DroppingDescriptor new)

abbrev old_pipe_next : Bool → Next
old_pipe_next there = if there then next.GoOn (step.Piped pipe.MappingEnd) else next.GoOn step.MappingDescriptor

module _ (s : KernelState) (n old new : ℕ) (live : is_live (slot_at s n) ≡ true) where
  abbrev dup : Service
  dup = service.Dup old new

  abbrev regs : Regs
  regs = (slot_at s n).registers

  abbrev plan : DupStage → Plan
  plan at = duplicating (record { old = old; new = new; at = at })

  -- what follows a load
  abbrev Follows : ℕ → Next → AbstractState → Type 0
  Follows va x a = AbstractFollows (seen_as x) n (settled SERVICE_DUP x (loaded s n va) n) a []

  -- ---- its first step

  module _ (stands : place_of (slot_at s n) ≡ place.InService dup step.Entered) where
    -- by whether the old number is one of a descriptor
    abbrev begun : Bool → Plan
    begun below = record {
      number = SERVICE_DUP;
      asks = if below then region_asked else ask.System SYS_GETENVID no_args;
      next = λ called. begun_next old (not below || not (is_there (answer_of called)));
    }

    begun_falls : (refuses : Bool) → Falls dup step.Entered (begun_next old refuses)
    begun_falls true = tt
    begun_falls false = omega arith

    past_keeps : DESCRIPTORS ≤ old → KeepsStanding (seen_as refusal) n s (settled SERVICE_DUP refusal s n) []
    past_keeps above a h turn quiet =
        let v = served h.1 n dup step.Entered stands in
        let here : IsIn (slot_at s n) v.b dup entered = v.at in (
          abstract_system.refused a n v.b regs E_INVAL,
          step_in a n v.b (slot_at s n) dup entered v.is here ∙ dup_refuses a n v.b regs old new (object_past h.1 n v.b v.is old above),
          printed_nothing a,
          (
            h.0,
            back_stands h.1 n v.b v.is (record regs { eax = negated E_INVAL })
                (ap borne_in v.place) (ap holds_page v.place) (ap is_calm v.place) here.silent
                here.awake v.outside refl refl,
          ),
        )

    past_holds : DESCRIPTORS ≤ old → ServiceHolds s n (begun false)
    past_holds above =
        law_of_call s n (begun false) dup step.Entered
        (record {
          stands = stands;
          live = live;
          numbered = refl;
          plain = plainly refl;
          goes_on = refl;
          falls = λ called. tt;
          few = omega arith;
        })
        SYS_GETENVID no_args refl refl
        (subst (λ (z : CallStep Called). LivesOn z n regs) (sym (getenvid_is s n live no_args)) (record { live = live; registers = refl; written = refl }))
        (λ order. subst (λ (z : CallStep Called). KeepsBy s n (begun false) z) (sym (getenvid_is s n live no_args)) (past_keeps above))

    begun_follows : (names : Names) (a : AbstractState) → StandsFor names s a → old < DESCRIPTORS → IsInOrder (loaded s n table_va) →
        Follows table_va (begun_next old (not (is_there (table_word s n)))) a
    begun_follows names a h below order =
        subst (λ (c : Bool). Follows table_va (begun_next old (not c)) a) (sym (table_told s n))
        (by_table (is_some (s.spaces.regions (slot_at s n).directory table_region)) refl)
      where
        v : IsServed names s a n dup step.Entered
        v = served h n dup step.Entered stands

        here : IsIn (slot_at s n) v.b dup entered
        here = v.at

        by_table : (c : Bool) → is_some (s.spaces.regions (slot_at s n).directory table_region) ≡ c → Follows table_va (begun_next old (not c)) a
        by_table true has = (
          refl,
          (
            names,
            read_goes_on h n dup step.Entered v refl refl table_va order (step.DescriptorEntry old) refl refl refl
                (in_with_words (words_at SERVICE_DUP (step.DescriptorEntry old)) here, refl, below, has),
          ),
        )
        by_table false none = (
          abstract_system.refused a n v.b regs E_INVAL,
          step_in a n v.b (slot_at s n) dup entered v.is here
              ∙ dup_refuses a n v.b regs old new
              (object_missing h n v.b v.is (seen_calm h n v.b v.is (ap is_calm v.place)) old (no_table_row h n v.b v.is none old below)),
          printed_nothing a,
          (names, read_answers h n dup step.Entered v refl refl table_va order refl here (negated E_INVAL)),
        )

    begun_holds : old < DESCRIPTORS → ServiceHolds s n (begun true)
    begun_holds below =
        law_of_load s n (begun true) dup step.Entered
        (record {
          stands = stands;
          live = live;
          numbered = refl;
          plain = plainly refl;
          goes_on = refl;
          falls = λ called. begun_falls (not (is_there (answer_of called)));
          few = omega arith;
        })
        table_va refl (λ names a h. (record { word = table_word s n; is = table_gives h n }, begun_follows names a h below))

    pub entered_holds : ServiceHolds s n (plan stage.Entered)
    entered_holds = by_number (nat_lt old DESCRIPTORS) refl
      where
        by_number : (c : Bool) → nat_lt old DESCRIPTORS ≡ c → ServiceHolds s n (begun c)
        by_number true test = begun_holds (grind (arith, nat_tests))
        by_number false test = past_holds (grind (arith, nat_tests))

  -- ---- the entry of the old one's page

  module _ (fd : ℕ) (stands : place_of (slot_at s n) ≡ place.InService dup (step.DescriptorEntry fd)) where
    abbrev old_step : Step
    old_step = step.DescriptorEntry fd

    old_falls : (refuses same : Bool) → Falls dup old_step (old_next new refuses same)
    old_falls true same = tt
    old_falls false true = tt
    old_falls false false = omega arith

    module _ (names : Names) (a : AbstractState) (h : StandsFor names s a) where
      v : IsServed names s a n dup old_step
      v = served h n dup old_step stands

      here : IsIn (slot_at s n) v.b dup entered
      here = v.at.0

      below : old < DESCRIPTORS
      below = v.at.2

      goes : abs_step a n ≡ library_step a n v.b regs dup entered
      goes = step_in a n v.b (slot_at s n) dup entered v.is here

      seen : SeesDescriptors names s n v.b
      seen = seen_calm h n v.b v.is (ap is_calm v.place)

      abbrev row_old : Option Entry
      row_old = rows_of s.spaces (slot_at s n).directory (descriptor_page old)

      module _ (order : IsInOrder (loaded s n (entry_va old))) where
        -- an answer that changes nothing
        abbrev answers : ℕ → Type 0
        answers word = library_step a n v.b regs dup entered ≡ Some (abstract_system.answered a n v.b regs word)

        back : (word : ℕ) → answers word → Follows (entry_va old) (next.Answer word) a
        back word is = (
          abstract_system.answered a n v.b regs word,
          goes ∙ is,
          printed_nothing a,
          (names, read_answers h n dup old_step v refl refl (entry_va old) order refl here word),
        )

        by_numbers : (x : Entry) → row_old ≡ Some x → (small same : Bool) → nat_lt new DESCRIPTORS ≡ small → (old == new) ≡ same →
            Follows (entry_va old) (old_next new (not small) same) a
        by_numbers x is false same large test =
            back (negated E_INVAL) (dup_past a n v.b regs old new (names.name x.frame) (object_is h n v.b v.is seen old x below is) (grind (arith, nat_tests)))
        by_numbers x is true true low test =
            back new (dup_itself a n v.b regs old new (names.name x.frame) (object_is h n v.b v.is seen old x below is) (grind (arith, nat_tests))
            (grind (arith, nat_tests)))
        by_numbers x is true false low test = (
          refl,
          (
            names,
            read_goes_on h n dup old_step v refl refl (entry_va old) order step.TargetEntry refl refl refl (
              in_with_words (words_at SERVICE_DUP step.TargetEntry) here,
              record { old_below = below; new_below = grind (arith, nat_tests); other = grind (arith, nat_tests); stands = ap is_some is },
              v.at.3,
            ),
          ),
        )

        by_row : (o : Option Entry) → row_old ≡ o →
            Follows (entry_va old) (old_next new (not (is_some o) || not (nat_lt new DESCRIPTORS)) (old == new)) a
        by_row None none = back (negated E_INVAL) (dup_refuses a n v.b regs old new (object_missing h n v.b v.is seen old none))
        by_row (Some x) is = by_numbers x is (nat_lt new DESCRIPTORS) (old == new) refl refl

        old_follows :
            Follows (entry_va old) (old_next new (not (is_there (page_word s n old)) || not (nat_lt new DESCRIPTORS)) (old == new)) a
        old_follows =
            subst (λ (c : Bool). Follows (entry_va old) (old_next new (not c || not (nat_lt new DESCRIPTORS)) (old == new)) a)
            (sym (page_told h n v.b v.is old below)) (by_row row_old refl)

    pub old_entry_holds : ServiceHolds s n (plan stage.OldEntry)
    old_entry_holds =
        law_of_load s n (plan stage.OldEntry) dup old_step
        (record {
          stands = stands;
          live = live;
          numbered = refl;
          plain = plainly refl;
          goes_on = refl;
          falls = λ called. old_falls (not (is_there (answer_of called)) || not (nat_lt new DESCRIPTORS)) (old == new);
          few = omega arith;
        })
        (entry_va old) refl
        (λ names a h. (record { word = page_word s n old; is = page_gives h n old (below names a h) (v names a h).at.3 }, old_follows names a h))

  -- ---- the entry of the new one's page

  module _ (stands : place_of (slot_at s n) ≡ place.InService dup step.TargetEntry) where
    new_falls : (there : Bool) → Falls dup step.TargetEntry (new_next new there)
    new_falls true = omega arith
    new_falls false = omega arith

    module _ (names : Names) (a : AbstractState) (h : StandsFor names s a) where
      target : IsServed names s a n dup step.TargetEntry
      target = served h n dup step.TargetEntry stands

      abbrev row_new : Option Entry
      row_new = rows_of s.spaces (slot_at s n).directory (descriptor_page new)

      new_follows : IsInOrder (loaded s n (entry_va new)) → Follows (entry_va new) (new_next new (is_there (page_word s n new))) a
      new_follows order =
          subst (λ (c : Bool). Follows (entry_va new) (new_next new c) a) (sym (page_told h n target.b target.is new target.at.1.new_below))
          (by_open (is_some row_new) refl)
        where
          dupping : (words : Step) →
              IsDupping (view_of s.spaces (slot_at s n).directory) (record (slot_at s n) { extra = words_at SERVICE_DUP words }) target.b old new
          dupping words = record {
            is_in = in_with_words (words_at SERVICE_DUP words) target.at.0;
            duplicating = target.at.1;
            table = target.at.2;
          }

          no_pipe : row_new ≡ None → rows_of s.spaces (slot_at s n).directory (pipe_page new) ≡ None
          no_pipe none =
              no_pipe_beside (ends_at h n target.b target.is) new target.at.1.new_below
              (calm_on_way (place_of (slot_at s n)) (ap is_calm target.place) new)
              (none_seen h n target.b target.is (seen_calm h n target.b target.is (ap is_calm target.place)) new none)

          by_open : (c : Bool) → is_some row_new ≡ c → Follows (entry_va new) (new_next new c) a
          by_open true there = (
            refl,
            (
              names,
              read_goes_on h n dup step.TargetEntry target refl refl (entry_va new) order (step.Piped (pipe.PipeEntry new)) refl refl refl
                  (dupping (step.Piped (pipe.PipeEntry new)), refl, there),
            ),
          )
          by_open false none = (
            refl,
            (
              names,
              read_goes_on h n dup step.TargetEntry target refl refl (entry_va new) order (step.Piped pipe.SourcePipe) refl refl refl
                  (dupping (step.Piped pipe.SourcePipe), none_there row_new none, no_pipe (none_there row_new none)),
            ),
          )

    pub new_entry_holds : ServiceHolds s n (plan stage.NewEntry)
    new_entry_holds =
        law_of_load s n (plan stage.NewEntry) dup step.TargetEntry
        (record {
          stands = stands;
          live = live;
          numbered = refl;
          plain = plainly refl;
          goes_on = refl;
          falls = λ called. new_falls (is_there (answer_of called));
          few = omega arith;
        })
        (entry_va new) refl
        (λ names a h. (
          record { word = page_word s n new; is = page_gives h n new (target names a h).at.1.new_below (target names a h).at.2 },
          new_follows names a h,
        ))

  -- ---- whether the new one has the page of a pipe

  module _ (fd : ℕ) (stands : place_of (slot_at s n) ≡ place.InService dup (step.Piped (pipe.PipeEntry fd))) where
    abbrev new_pipe_step : Step
    new_pipe_step = step.Piped (pipe.PipeEntry fd)

    new_pipe_falls : (there : Bool) → Falls dup new_pipe_step (new_pipe_next new there)
    new_pipe_falls true = omega arith
    new_pipe_falls false = omega arith

    module _ (names : Names) (a : AbstractState) (h : StandsFor names s a) where
      at_pipe : IsServed names s a n dup new_pipe_step
      at_pipe = served h n dup new_pipe_step stands

      abbrev view : View
      view = view_of s.spaces (slot_at s n).directory

      twice : IsDupping view (slot_at s n) at_pipe.b old new
      twice = at_pipe.at.0

      new_open : IsOpen view.row new
      new_open = at_pipe.at.2

      new_pipe_follows : IsInOrder (loaded s n (pipe_entry_va new)) →
          Follows (pipe_entry_va new) (new_pipe_next new (is_there (pipe_word s n new))) a
      new_pipe_follows order =
          subst (λ (c : Bool). Follows (pipe_entry_va new) (new_pipe_next new c) a)
          (sym (pipe_told h n at_pipe.b at_pipe.is new twice.duplicating.new_below)) (by_page (is_some (view.row (pipe_page new))) refl)
        where
          is_in : (words : Step) → IsIn (record (slot_at s n) { extra = words_at SERVICE_DUP words }) at_pipe.b dup entered
          is_in words = in_with_words (words_at SERVICE_DUP words) twice.is_in

          by_page : (c : Bool) → is_some (view.row (pipe_page new)) ≡ c → Follows (pipe_entry_va new) (new_pipe_next new c) a
          by_page true there = (
            refl,
            (
              names,
              read_goes_on h n dup new_pipe_step at_pipe refl refl (pipe_entry_va new) order (step.Piped (pipe.DroppingEnd new)) refl refl refl (
                record { is_in = is_in (step.Piped (pipe.DroppingEnd new)); duplicating = twice.duplicating; table = twice.table },
                refl,
                new_open,
                there,
              ),
            ),
          )
          by_page false none = (
            refl,
            (
              names,
              read_goes_on h n dup new_pipe_step at_pipe refl refl (pipe_entry_va new) order (step.DroppingDescriptor new) refl refl refl
                  (is_in (step.DroppingDescriptor new), refl, twice.duplicating, twice.table, new_open, none_there (view.row (pipe_page new)) none),
            ),
          )

    pub new_pipe_holds : ServiceHolds s n (plan stage.NewPipe)
    new_pipe_holds =
        law_of_load s n (plan stage.NewPipe) dup new_pipe_step
        (record {
          stands = stands;
          live = live;
          numbered = refl;
          plain = plainly refl;
          goes_on = refl;
          falls = λ called. new_pipe_falls (is_there (answer_of called));
          few = omega arith;
        })
        (pipe_entry_va new) refl
        (λ names a h. (
          record { word = pipe_word s n new; is = pipe_gives h n new (twice names a h).duplicating.new_below (twice names a h).table },
          new_pipe_follows names a h,
        ))

  -- ---- whether the old one has

  module _ (stands : place_of (slot_at s n) ≡ place.InService dup (step.Piped pipe.SourcePipe)) where
    abbrev old_pipe_step : Step
    old_pipe_step = step.Piped pipe.SourcePipe

    old_pipe_falls : (there : Bool) → Falls dup old_pipe_step (old_pipe_next there)
    old_pipe_falls true = omega arith
    old_pipe_falls false = omega arith

    module _ (names : Names) (a : AbstractState) (h : StandsFor names s a) where
      at_source : IsServed names s a n dup old_pipe_step
      at_source = served h n dup old_pipe_step stands

      abbrev seen_there : View
      seen_there = view_of s.spaces (slot_at s n).directory

      both : IsDupping seen_there (slot_at s n) at_source.b old new
      both = at_source.at.0

      vacant : seen_there.row (descriptor_page new) ≡ None
      vacant = at_source.at.1

      alone : seen_there.row (pipe_page new) ≡ None
      alone = at_source.at.2

      old_pipe_follows : s.last ≡ Some n → IsInOrder (loaded s n (pipe_entry_va old)) →
          Follows (pipe_entry_va old) (old_pipe_next (is_there (pipe_word s n old))) a
      old_pipe_follows last order =
          subst (λ (c : Bool). Follows (pipe_entry_va old) (old_pipe_next c) a)
          (sym (pipe_told h n at_source.b at_source.is old both.duplicating.old_below)) (by_page (is_some (seen_there.row (pipe_page old))) refl)
        where
          by_page : (c : Bool) → is_some (seen_there.row (pipe_page old)) ≡ c → Follows (pipe_entry_va old) (old_pipe_next c) a
          by_page true there = (
            refl,
            (
              names,
              read_goes_on h n dup old_pipe_step at_source refl refl (pipe_entry_va old) order (step.Piped pipe.MappingEnd) refl refl refl (
                record {
                  is_in = in_with_words (words_at SERVICE_DUP (step.Piped pipe.MappingEnd)) both.is_in;
                  duplicating = both.duplicating;
                  table = both.table;
                },
                vacant,
                alone,
                there,
              ),
            ),
          )
          by_page false none = (
            refl,
            (
              names,
              no_end_mapped h n old new old_pipe_step at_source refl both vacant alone last order
                  (touched_quiet s.spaces (slot_at s n).directory (pipe_entry_va old) Read) (none_there (seen_there.row (pipe_page old)) none),
            ),
          )

    pub old_pipe_holds : ServiceHolds s n (plan stage.OldPipe)
    old_pipe_holds =
        law_of_load_in_turn s n (plan stage.OldPipe) dup old_pipe_step
        (record {
          stands = stands;
          live = live;
          numbered = refl;
          plain = plainly refl;
          goes_on = refl;
          falls = λ called. old_pipe_falls (is_there (answer_of called));
          few = omega arith;
        })
        (pipe_entry_va old) refl
        (λ names a h turn. (
          record { word = pipe_word s n old; is = pipe_gives h n old (both names a h).duplicating.old_below (both names a h).table },
          old_pipe_follows names a h turn.last,
        ))
