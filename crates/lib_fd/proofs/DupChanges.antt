-- dup, where it changes pages: the new descriptor is dropped, which is seen, and then made to name what the old one names, which is its answer.
use Rattle.std.proofs.Common.{◌≡◌, ◌≢◌, ◌∙◌, ◌==◌, ℕ, Bool, true, false, [], ◌∷◌, List, Ok, Option, None, Some}
use Rattle.std.proofs.Common.{refl, sym, ap, subst, arith, if◌then◌else◌}
use Rattle.std.specs.Prelude.{is_some, nat_lt}
use Rattle.std.specs.Option.{option_map}
use Rattle.std.proofs.lemmas.Bool.Decides.{nat_tests}
use Rattle.jos_base.specs.declared.called.Called.{Called}
use Rattle.jos_base.specs.declared.numbers.TheConstants.{SYS_PAGE_MAP, SYS_PAGE_UNMAP}
use Rattle.jos_base.specs.declared.registers.Regs.{Regs}
use Rattle.jos_base.specs.Environments.{is_live}
use Rattle.jos_base.specs.KernelState.{KernelState, slot_at, with_extra, with_spaces}
use Rattle.jos_base.specs.Reach.{Entry}
use Rattle.jos_base.specs.SpacesState.{SpacesState}
use Rattle.jos_base.specs.SystemCalls.{has_write}
use Rattle.jos_base.proofs.Options.{some_is}
use Rattle.lib_os.specs.declared.numbers.TheConstants.{DESCRIPTORS, SERVICE_DUP}
use Rattle.lib_os.specs.declared.place.PipeStep.TheVariants as pipe
use Rattle.lib_os.specs.declared.place.Place.{Place}
use Rattle.lib_os.specs.declared.place.Place.TheVariants as place
use Rattle.lib_os.specs.declared.place.Step.{Step}
use Rattle.lib_os.specs.declared.place.Step.TheVariants as step
use Rattle.lib_os.specs.declared.progress.Progress.TheVariants as progress
use Rattle.lib_os.specs.declared.service.Service.{Service}
use Rattle.lib_os.specs.declared.service.Service.TheVariants as service
use Rattle.lib_os.specs.AbstractState.{AbstractState, Born, entered, named, own, with_born}
use Rattle.lib_os.specs.Answers as abstract_system
use Rattle.lib_os.specs.Descriptors.{object_name, with_descriptor}
use Rattle.lib_os.specs.InOrder.{IsInOrder}
use Rattle.lib_os.specs.LibrarySteps.{AbstractFollows, GoesOn, KeepsStanding, TakesAtMost, is_pausing, service_answered}
use Rattle.lib_os.specs.PipeEnds.{is_dropped, is_made}
use Rattle.lib_os.specs.Places.{place_of, words_at}
use Rattle.lib_os.specs.Rows.{Names, descriptor_page, is_shared, may_write, name_of, page_by, pipe_page, rows_of, shown_at}
use Rattle.lib_os.specs.InService.{HasTable, IsDuplicating, IsDupping, IsIn}
use Rattle.lib_os.specs.StandsAtPipe.{HasPipePage}
use Rattle.lib_os.specs.StandsFor.{StandsFor, view_of}
use Rattle.lib_os.specs.UserCalls.{CallStep, answer_of}
use Rattle.lib_os.proofs.DescriptorLooks.{SeesDescriptors, descriptor_va, dup_closes, dup_makes, entry_bits, object_below, object_is, object_missing}
use Rattle.lib_os.proofs.DescriptorLooks.{seen_calm, seen_unmade, table_region}
use Rattle.lib_os.proofs.DescriptorsStand.{MapsDescriptor, drop_asked, drop_is, drop_lives, drop_removes, dropped, dropped_duplicating, dropped_goes_on}
use Rattle.lib_os.proofs.DescriptorsStand.{dropped_here, dropped_tables, given_answers, map_asked, map_lives, maps_descriptor}
use Rattle.lib_os.proofs.DescriptorsStand.{touches_calm, touches_given}
use Rattle.lib_os.proofs.EndsDropped.{MapsPipe, dropped_name, end_dropped, end_mapped, maps_pipe, pipe_drop_asked, pipe_drop_is, pipe_drop_lives}
use Rattle.lib_os.proofs.EndsDropped.{pipe_drop_removes, pipe_dropped, pipe_dropped_goes_on, pipe_gone_beside, pipe_gone_here, pipe_gone_tables}
use Rattle.lib_os.proofs.EndsDropped.{pipe_map_asked, pipe_map_lives, pipe_va, seen_others}
use Rattle.lib_os.proofs.GoingOn.{gives_nothing_up, in_with_words}
use Rattle.lib_os.proofs.PipesStand.{is_calm}
use Rattle.lib_os.proofs.Serving.{IsServed, served, step_in, printed_nothing}
use Rattle.lib_stage.specs.declared.ask.Next.TheVariants as next
use Rattle.lib_stage.specs.Asks.{performed}
use Rattle.lib_stage.specs.ServiceSteps.{Plan, ServiceHolds, upshot_by}
use Rattle.lib_stage.proofs.FramesTaken.{takes_at}
use Rattle.lib_stage.proofs.Laws.{Falls, FollowsBy, GoesOn as LivesBy, KeepsBy, falling_lowers, giving_goes, law_of_call, plain_leaves, plainly, shown_keeps, system_never}
use Rattle.lib_fd.specs.declared.dup.DupStage.TheVariants as stage
use Rattle.lib_fd.specs.DescriptorStages.{duplicating}
use Rattle.lib_fd.proofs.EndPages.{pipe_still, still_there}

module _ (s : KernelState) (n old new : ℕ) (live : is_live (slot_at s n) ≡ true) where
  abbrev dup : Service
  dup = service.Dup old new

  abbrev regs : Regs
  regs = (slot_at s n).registers

  -- what the old descriptor names
  named_old : {names : Names} {a : AbstractState} (h : StandsFor names s a) {at : Step} (v : IsServed names s a n dup at) →
      SeesDescriptors names s n v.b → IsDuplicating (rows_of s.spaces (slot_at s n).directory) old new →
      (name : ℕ) × (object_name v.b old ≡ Some name)
  named_old {names = names} h v seen twice =
      let x = some_is (rows_of s.spaces (slot_at s n).directory (descriptor_page old)) twice.stands in
      (names.name x.0.frame, object_is h n v.b v.is seen old x.0 twice.old_below x.1)

  -- the new one is dropped: dup is about to read whether the old one has the page of a pipe
  source_stands : (sp : SpacesState) (c : Born) →
      ((p : ℕ) → p ≢ descriptor_page new → p ≢ pipe_page new → rows_of sp (slot_at s n).directory p ≡ rows_of s.spaces (slot_at s n).directory p) →
      ((r : ℕ) → is_some (sp.regions (slot_at s n).directory r) ≡ is_some (s.spaces.regions (slot_at s n).directory r)) →
      IsDuplicating (rows_of s.spaces (slot_at s n).directory) old new → HasTable (view_of s.spaces (slot_at s n).directory) →
      IsIn (record (slot_at s n) { extra = words_at SERVICE_DUP (step.Piped pipe.SourcePipe) }) c dup entered →
      IsDupping (view_of sp (slot_at s n).directory) (record (slot_at s n) { extra = words_at SERVICE_DUP (step.Piped pipe.SourcePipe) }) c old new
  source_stands sp c rows tables twice table is_in = record {
    is_in = is_in;
    duplicating = record {
      old_below = twice.old_below;
      new_below = twice.new_below;
      other = twice.other;
      stands = let row = rows (descriptor_page old) (λ same. absurd (twice.other (omega (arith, same))))
          (λ same. absurd (omega (arith, same, twice.old_below))) in
          ap is_some row ∙ twice.stands;
    };
    table = tables table_region ∙ table;
  }

  -- ---- the new one is dropped

  module _ (fd : ℕ) (stands : place_of (slot_at s n) ≡ place.InService dup (step.DroppingDescriptor fd)) where
    abbrev dropping : Plan
    dropping = duplicating (record { old = old; new = new; at = stage.Dropping })

    abbrev from : Step
    from = step.DroppingDescriptor fd

    abbrev drops : List ℕ
    drops = 0 ∷ descriptor_va new ∷ 0 ∷ 0 ∷ 0 ∷ []

    abbrev on : KernelState → KernelState
    on t = with_extra t n (words_at SERVICE_DUP (step.Piped pipe.SourcePipe))

    dropping_keeps : IsInOrder (drop_asked s n new).state → KeepsStanding progress.Visible n s (on (drop_asked s n new).state) []
    dropping_keeps order a h turn quiet =
        subst (λ (z : CallStep Called). IsInOrder z.state → GoesOn n (on z.state) a []) (sym (drop_is s n new live)) follows order
      where
        v : IsServed h.0 s a n dup from
        v = served h.1 n dup from stands

        here : IsIn (slot_at s n) v.b dup entered
        here = v.at.0

        twice : IsDuplicating (rows_of s.spaces (slot_at s n).directory) old new
        twice = v.at.2

        follows : IsInOrder (with_spaces s (dropped s n new)) → GoesOn n (on (with_spaces s (dropped s n new))) a []
        follows in_order =
            let seen = seen_calm h.1 n v.b v.is (ap is_calm v.place) in
            let name = named_old h.1 v seen twice in
            let x = some_is (rows_of s.spaces (slot_at s n).directory (descriptor_page new)) v.at.4 in (
              with_born a n (with_descriptor v.b new None),
              step_in a n v.b (slot_at s n) dup entered v.is here
                  ∙ dup_closes a n v.b regs old new name.0 name.1 twice.new_below twice.other (h.0.name x.0.frame)
                  (object_is h.1 n v.b v.is seen new x.0 twice.new_below x.1),
              printed_nothing a,
              (
                h.0,
                dropped_goes_on h.1 n dup from v refl refl here new twice.new_below (touches_calm dup from new refl) turn.last in_order
                    (drop_removes s n new h.1 twice.new_below) v.at.5 (step.Piped pipe.SourcePipe) refl refl (
                      source_stands (dropped s n new) (with_descriptor v.b new None) (λ p ne beside. still_there s n new h.1 twice.new_below p ne)
                          (dropped_tables s n new h.1 twice.new_below) twice v.at.3
                          (record { program = here.program; phase = here.phase; silent = here.silent; awake = here.awake }),
                      dropped_here s n new h.1 twice.new_below,
                      pipe_still s n new h.1 twice.new_below ∙ v.at.5,
                    ),
              ),
            )

    pub dropping_holds : ServiceHolds s n dropping
    dropping_holds =
        law_of_call s n dropping dup from
        (record {
          stands = stands;
          live = live;
          numbered = refl;
          plain = plainly refl;
          goes_on = refl;
          falls = λ called. tt;
          few = omega arith;
        })
        SYS_PAGE_UNMAP drops refl refl (drop_lives s n new live)
        (λ order. shown_keeps s n SYS_PAGE_UNMAP drops dropping (step.Piped pipe.SourcePipe) (drop_lives s n new live) (λ called. refl) (dropping_keeps order))

  -- ---- the new one is an end of a pipe: its own page goes,

  module _ (fd : ℕ) (stands : place_of (slot_at s n) ≡ place.InService dup (step.Piped (pipe.DroppingEnd fd))) where
    abbrev dropping_end : Plan
    dropping_end = duplicating (record { old = old; new = new; at = stage.DroppingEnd })

    abbrev at_end : Step
    at_end = step.Piped (pipe.DroppingEnd fd)

    end_keeps : IsInOrder (with_spaces s (dropped s n new)) →
        KeepsStanding progress.Hidden n s
        (with_extra (with_spaces s (dropped s n new)) n (words_at SERVICE_DUP (step.Piped (pipe.DroppingPipe new)))) []
    end_keeps order a h turn quiet =
        let v = served h.1 n dup at_end stands in
        let dupping : IsDupping (view_of s.spaces (slot_at s n).directory) (slot_at s n) v.b old new = v.at.0 in
        let twice : IsDuplicating (rows_of s.spaces (slot_at s n).directory) old new = dupping.duplicating in
        let there : HasPipePage (rows_of s.spaces (slot_at s n).directory) new = v.at.3 in (
          refl,
          (
            h.0,
            end_dropped h.1 n dup at_end v refl refl refl new twice.new_below turn.last (drop_removes s n new h.1 twice.new_below) order (
              record {
                is_in = in_with_words (words_at SERVICE_DUP (step.Piped (pipe.DroppingPipe new))) dupping.is_in;
                duplicating = dropped_duplicating s n new h.1 twice.new_below old twice;
                table = dropped_tables s n new h.1 twice.new_below table_region ∙ dupping.table;
              },
              refl,
              dropped_here s n new h.1 twice.new_below,
              ap is_some (pipe_still s n new h.1 twice.new_below) ∙ there,
            ),
          ),
        )

    pub dropping_end_holds : ServiceHolds s n dropping_end
    dropping_end_holds =
        law_of_call s n dropping_end dup at_end
        (record {
          stands = stands;
          live = live;
          numbered = refl;
          plain = plainly refl;
          goes_on = refl;
          falls = λ called. omega arith;
          few = omega arith;
        })
        SYS_PAGE_UNMAP (0 ∷ descriptor_va new ∷ 0 ∷ 0 ∷ 0 ∷ []) refl refl (drop_lives s n new live)
        (subst (λ (z : CallStep Called). IsInOrder z.state → KeepsBy s n dropping_end z) (sym (drop_is s n new live)) end_keeps)

  -- and then the pipe's.

  module _ (fd : ℕ) (stands : place_of (slot_at s n) ≡ place.InService dup (step.Piped (pipe.DroppingPipe fd))) where
    abbrev dropping_pipe : Plan
    dropping_pipe = duplicating (record { old = old; new = new; at = stage.DroppingPipe })

    abbrev at_pipe : Step
    at_pipe = step.Piped (pipe.DroppingPipe fd)

    abbrev pipe_drops : List ℕ
    pipe_drops = 0 ∷ pipe_va new ∷ 0 ∷ 0 ∷ 0 ∷ []

    abbrev to_source : KernelState → KernelState
    to_source t = with_extra t n (words_at SERVICE_DUP (step.Piped pipe.SourcePipe))

    pipe_keeps : IsInOrder (pipe_drop_asked s n new).state → KeepsStanding progress.Visible n s (to_source (pipe_drop_asked s n new).state) []
    pipe_keeps order a h turn quiet =
        subst (λ (z : CallStep Called). IsInOrder z.state → GoesOn n (to_source z.state) a []) (sym (pipe_drop_is s n new live)) follows order
      where
        same : fd ≡ new
        same = (served h.1 n dup at_pipe stands).at.1

        v : IsServed h.0 s a n dup (step.Piped (pipe.DroppingPipe new))
        v = served h.1 n dup (step.Piped (pipe.DroppingPipe new))
            (stands ∙ ap (λ (q : ℕ). place.InService dup (step.Piped (pipe.DroppingPipe q))) same)

        dupping : IsDupping (view_of s.spaces (slot_at s n).directory) (slot_at s n) v.b old new
        dupping = v.at.0

        twice : IsDuplicating (rows_of s.spaces (slot_at s n).directory) old new
        twice = dupping.duplicating

        vacant : rows_of s.spaces (slot_at s n).directory (descriptor_page new) ≡ None
        vacant = v.at.2

        there : HasPipePage (rows_of s.spaces (slot_at s n).directory) new
        there = v.at.3

        named_still : (name : ℕ) × (object_name v.b old ≡ Some name)
        named_still =
            let x = some_is (rows_of s.spaces (slot_at s n).directory (descriptor_page old)) twice.stands in
            let low = twice.old_below in
            let test : nat_lt old DESCRIPTORS ≡ true = grind (arith, nat_tests) in
            let shared_page : is_shared x.0.perm ≡ true = ap is_shared (entry_bits h.1 n v.b v.is old x.0 twice.old_below x.1) in (
              h.0.name x.0.frame,
              object_below h.1 n v.b v.is old twice.old_below
                  ∙ seen_others h.1 n dup new v twice.new_below old twice.other
                  ∙ ap (λ (c : Bool). if c then name_of (shown_at h.0 s.spaces (slot_at s n).directory (descriptor_page old)) else None) test
                  ∙ ap (λ (o : Option Entry). name_of (option_map (page_by h.0 s.spaces.pages) o)) x.1
                  ∙ ap (λ (c : Bool). name_of (Some (if c then named (h.0.name x.0.frame) (has_write x.0.perm)
                  else own (s.spaces.pages x.0.frame) (may_write x.0.perm)))) shared_page,
            )

        follows : IsInOrder (with_spaces s (pipe_dropped s n new)) → GoesOn n (to_source (with_spaces s (pipe_dropped s n new))) a []
        follows in_order =
            let stood = dropped_name h.1 n dup new v twice.new_below there in (
              with_born a n (with_descriptor v.b new None),
              step_in a n v.b (slot_at s n) dup entered v.is dupping.is_in
                  ∙ dup_closes a n v.b regs old new named_still.0 named_still.1 twice.new_below twice.other stood.0 stood.1,
              printed_nothing a,
              (
                h.0,
                pipe_dropped_goes_on h.1 n dup new v twice.new_below refl dupping.is_in turn.last vacant (pipe_drop_removes s n new h.1 twice.new_below)
                    in_order (step.Piped pipe.SourcePipe) refl refl (
                      source_stands (pipe_dropped s n new) (with_descriptor v.b new None)
                          (λ p beside ne. pipe_gone_beside s n new h.1 twice.new_below p ne) (pipe_gone_tables s n new h.1 twice.new_below) twice
                          dupping.table
                          (record {
                            program = dupping.is_in.program;
                            phase = dupping.is_in.phase;
                            silent = dupping.is_in.silent;
                            awake = dupping.is_in.awake;
                          }),
                      pipe_gone_beside s n new h.1 twice.new_below (descriptor_page new) (λ it. absurd (omega (arith, it, twice.new_below))) ∙ vacant,
                      pipe_gone_here s n new h.1 twice.new_below,
                    ),
              ),
            )

    pub dropping_pipe_holds : ServiceHolds s n dropping_pipe
    dropping_pipe_holds =
        law_of_call s n dropping_pipe dup at_pipe
        (record {
          stands = stands;
          live = live;
          numbered = refl;
          plain = plainly refl;
          goes_on = refl;
          falls = λ called. tt;
          few = omega arith;
        })
        SYS_PAGE_UNMAP pipe_drops refl refl (pipe_drop_lives s n new live)
        (λ order. shown_keeps s n SYS_PAGE_UNMAP pipe_drops dropping_pipe (step.Piped pipe.SourcePipe) (pipe_drop_lives s n new live) (λ called. refl)
        (pipe_keeps order))

  -- ---- the page of the old one's pipe is mapped

  module _ (stands : place_of (slot_at s n) ≡ place.InService dup (step.Piped pipe.MappingEnd)) where
    abbrev mapping_end : Plan
    mapping_end = duplicating (record { old = old; new = new; at = stage.MappingEnd })

    module _ {names : Names} {a : AbstractState} (h : StandsFor names s a) where
      at_mapping : IsServed names s a n dup (step.Piped pipe.MappingEnd)
      at_mapping = served h n dup (step.Piped pipe.MappingEnd) stands

      both : IsDupping (view_of s.spaces (slot_at s n).directory) (slot_at s n) at_mapping.b old new
      both = at_mapping.at.0

      end_call : MapsPipe s n old new (pipe_map_asked s n old new)
      end_call =
          maps_pipe s n old new h at_mapping.b at_mapping.is both.duplicating.old_below both.duplicating.new_below at_mapping.at.3 both.table

      end_follows : s.last ≡ Some n → IsInOrder (with_spaces s end_call.spaces) →
          AbstractFollows progress.Hidden n (with_extra (with_spaces s end_call.spaces) n (words_at SERVICE_DUP step.MappingDescriptor)) a []
      end_follows last in_order = (
        refl,
        (
          names,
          end_mapped h n old new (step.Piped pipe.MappingEnd) at_mapping refl both at_mapping.at.1 at_mapping.at.2 last in_order end_call.entry
              end_call.stands (end_call.given in_order),
        ),
      )

    pub mapping_end_holds : ServiceHolds s n mapping_end
    unfolding performed
    mapping_end_holds =
        let asked : CallStep Called = pipe_map_asked s n old new in
        let goes : LivesBy s n mapping_end asked = giving_goes s n mapping_end asked (pipe_map_lives s n old new live) in
        let did = upshot_by mapping_end n asked asked.gives in
        record {
          lives = goes.live;
          keeps = λ order a h turn quiet.
              subst (λ (z : CallStep Called). IsInOrder z.state → FollowsBy s n mapping_end a z) (sym (end_call h.1).step) (end_follows h.1 turn.last) order;
          fails = λ may a h turn. absurd (let contradiction : false ≡ true = may.0 in cc);
          leaves = plain_leaves s n mapping_end refl;
          lowers = falling_lowers s n mapping_end asked dup (step.Piped pipe.MappingEnd) stands refl goes
              (λ a h turn is. system_never s n SYS_PAGE_MAP _ a h turn is) (λ called. omega arith);
          gives_up = gives_nothing_up (Ok did.progress) (slot_at s n) (slot_at did.state n) (ap is_pausing stands);
          takes = takes_at s n mapping_end asked (place.InService dup (step.Piped pipe.MappingEnd)) stands
              (λ a h. subst (λ (z : CallStep Called). TakesAtMost 0 s.spaces z.state.spaces) (sym (end_call h.1).step) (end_call h.1).takes);
        }

  -- ---- the new one is made

  module _ (stands : place_of (slot_at s n) ≡ place.InService dup step.MappingDescriptor) where
    abbrev mapping : Plan
    mapping = duplicating (record { old = old; new = new; at = stage.Mapping })

    mapping_falls : (word : ℕ) → Falls dup step.MappingDescriptor (if word == 0 then next.Answer new else next.Answer word)
    mapping_falls word = by_test (word == 0)
      where
        by_test : (c : Bool) → Falls dup step.MappingDescriptor (if c then next.Answer new else next.Answer word)
        by_test true = tt
        by_test false = tt

    module _ {names : Names} {a : AbstractState} (h : StandsFor names s a) where
      v : IsServed names s a n dup step.MappingDescriptor
      v = served h n dup step.MappingDescriptor stands

      here : IsIn (slot_at s n) v.b dup entered
      here = v.at.0

      twice : IsDuplicating (rows_of s.spaces (slot_at s n).directory) old new
      twice = v.at.1

      call : MapsDescriptor s n old new (map_asked s n old new)
      call = maps_descriptor s n old new h v.b v.is twice.old_below twice.new_below twice.stands v.at.2

      seen : SeesDescriptors names s n v.b
      seen =
          seen_unmade h n v.b v.is (λ q. ap (λ (at : Place). is_made at q) v.place) (λ q. ap (λ (at : Place). is_dropped at q) v.place)

      follows : s.last ≡ Some n → IsInOrder (with_spaces s call.spaces) → GoesOn n (service_answered (with_spaces s call.spaces) n new) a []
      follows last in_order =
          let name = named_old h v seen twice in (
            abstract_system.answered a n (with_descriptor v.b new (object_name v.b old)) regs new,
            step_in a n v.b (slot_at s n) dup entered v.is here
                ∙ dup_makes a n v.b regs old new name.0 name.1 twice.new_below twice.other (object_missing h n v.b v.is seen new v.at.3),
            printed_nothing a,
            (
              names,
              given_answers h n dup step.MappingDescriptor v refl refl here new twice.new_below (touches_given old new) last in_order old call.entry
                  twice.old_below call.stands v.at.2 (call.given in_order) twice.other v.at.4 new,
            ),
          )

    -- it takes no frame wherever it is known what it maps, since the region has a table
    pub mapping_holds : ServiceHolds s n mapping
    unfolding performed
    mapping_holds =
        let asked : CallStep Called = map_asked s n old new in
        let goes : LivesBy s n mapping asked = giving_goes s n mapping asked (map_lives s n old new live) in
        let did = upshot_by mapping n asked asked.gives in
        record {
          lives = goes.live;
          keeps = λ order a h turn quiet.
              subst (λ (z : CallStep Called). IsInOrder z.state → FollowsBy s n mapping a z) (sym (call h.1).step) (follows h.1 turn.last) order;
          fails = λ may a h turn. absurd (let contradiction : false ≡ true = may.0 in cc);
          leaves = plain_leaves s n mapping refl;
          lowers = falling_lowers s n mapping asked dup step.MappingDescriptor stands refl goes
              (λ a h turn is. system_never s n SYS_PAGE_MAP _ a h turn is) (λ called. mapping_falls (answer_of called));
          gives_up = gives_nothing_up (Ok did.progress) (slot_at s n) (slot_at did.state n) (ap is_pausing stands);
          takes = takes_at s n mapping asked (place.InService dup step.MappingDescriptor) stands
              (λ a h. subst (λ (z : CallStep Called). TakesAtMost 0 s.spaces z.state.spaces) (sym (call h.1).step) (call h.1).takes);
        }
