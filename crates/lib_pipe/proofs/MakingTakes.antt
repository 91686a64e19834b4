-- The law of service pipe where it takes the pages that it makes, gives back what it has made where one is refused, and maps the pipe's page for the
-- second end, too. All but the last mapping is hidden, and its answer where a page is refused.
use Rattle.std.proofs.Common.{◌≡◌, ◌==◌, ℕ, Bool, true, false, not, [], ◌∷◌, Ok, refl, sym, ap, subst, arith, if◌then◌else◌}
use Rattle.jos_base.specs.declared.called.Called.{Called}
use Rattle.jos_base.specs.declared.numbers.TheConstants.{E_NO_MEM, SYS_PAGE_ALLOC, SYS_PAGE_MAP, SYS_PAGE_UNMAP}
use Rattle.jos_base.specs.Environments.{is_live}
use Rattle.jos_base.specs.KernelState.{KernelState, slot_at}
use Rattle.jos_base.specs.Words.{negated}
use Rattle.lib_os.specs.declared.place.PipeStep.TheVariants as pipe
use Rattle.lib_os.specs.declared.place.Place.TheVariants as place
use Rattle.lib_os.specs.declared.place.Step.TheVariants as step
use Rattle.lib_os.specs.declared.progress.Progress.TheVariants as progress
use Rattle.lib_os.specs.declared.service.Service.TheVariants as service
use Rattle.lib_os.specs.InOrder.{IsInOrder}
use Rattle.lib_os.specs.LibrarySteps.{TakesAtMost, is_pausing}
use Rattle.lib_os.specs.Places.{place_of, words_at}
use Rattle.lib_os.specs.Rows.{descriptor_perm}
use Rattle.lib_os.specs.UserCalls.{CallStep, answer_of}
use Rattle.lib_os.proofs.DescriptorLooks.{descriptor_address, descriptor_va}
use Rattle.lib_os.proofs.DescriptorsStand.{drop_lives}
use Rattle.lib_os.proofs.EndsDropped.{pipe_address, pipe_map_asked, pipe_map_lives, pipe_va}
use Rattle.lib_os.proofs.GoingOn.{gives_nothing_up}
use Rattle.lib_os.proofs.Numbered.{number_of}
use Rattle.lib_os.proofs.PipeMade.{made_goes, mapping_maps}
use Rattle.lib_os.proofs.PipeTaken.{make_holds, make_lives, refusal_answers, refusal_keeps, taking_pipe_keeps, taking_reading_keeps}
use Rattle.lib_os.proofs.PipeTaken.{taking_writing_keeps, undoing_reading, undoing_writing}
use Rattle.lib_stage.specs.declared.ask.Next.TheVariants as next
use Rattle.lib_stage.specs.Asks.{performed}
use Rattle.lib_stage.specs.ServiceSteps.{Plan, ServiceHolds, upshot_by}
use Rattle.lib_stage.proofs.FramesTaken.{takes_at}
use Rattle.lib_stage.proofs.Laws.{Falls, FollowsBy, GoesOn as LivesBy, KeepsBy, falling_lowers, giving_goes, law_of_call, plain_leaves}
use Rattle.lib_stage.proofs.Laws.{plainly, system_never}
use Rattle.lib_pipe.specs.declared.making.MakingStage.{MakingStage}
use Rattle.lib_pipe.specs.declared.making.MakingStage.TheVariants as stage
use Rattle.lib_pipe.specs.MakingStages.{making, next_of_taking, piped}

module _ (s : KernelState) (n reading writing : ℕ) (live : is_live (slot_at s n) ≡ true) where
  abbrev plan : MakingStage → Plan
  plan at = making (record { at = at })

  abbrev no_memory : ℕ
  no_memory = negated E_NO_MEM

  -- ---- a page is taken

  module _ (stands : place_of (slot_at s n) ≡ place.InService service.Pipe (step.Piped (pipe.TakingReading reading writing))) where
    reading_falls : (word : ℕ) → Falls service.Pipe (step.Piped (pipe.TakingReading reading writing))
        (if not (word == 0) then next.Answer word else piped (pipe.StoringReading reading writing))
    reading_falls word = by_test (word == 0)
      where
        by_test : (c : Bool) → Falls service.Pipe (step.Piped (pipe.TakingReading reading writing))
            (if not c then next.Answer word else piped (pipe.StoringReading reading writing))
        by_test true = omega arith
        by_test false = tt

    pub taking_reading_holds : ServiceHolds s n (making (record { at = stage.TakingReading reading writing }))
    taking_reading_holds =
        law_of_call s n (plan (stage.TakingReading reading writing)) service.Pipe (step.Piped (pipe.TakingReading reading writing))
        (record {
          stands = stands;
          live = live;
          numbered = refl;
          plain = plainly refl;
          goes_on = refl;
          falls = λ called. reading_falls (answer_of called);
          few = omega arith;
        })
        SYS_PAGE_ALLOC (0 ∷ descriptor_va reading ∷ descriptor_perm ∷ 0 ∷ 0 ∷ []) refl refl (make_lives s n (descriptor_va reading) live)
        (make_holds s n (descriptor_va reading) live (descriptor_address reading)
        (λ (z : CallStep Called). IsInOrder z.state → KeepsBy s n (plan (stage.TakingReading reading writing)) z)
        (λ made in_order. taking_reading_keeps s n reading writing stands made in_order) (λ in_order. refusal_answers s n no_memory))

  module _ (stands : place_of (slot_at s n) ≡ place.InService service.Pipe (step.Piped (pipe.TakingWriting reading writing))) where
    writing_falls : (word : ℕ) → Falls service.Pipe (step.Piped (pipe.TakingWriting reading writing))
        (next_of_taking word (pipe.StoringWriting reading writing) (pipe.UndoingReading reading word))
    writing_falls word = by_test (word == 0)
      where
        by_test : (c : Bool) → Falls service.Pipe (step.Piped (pipe.TakingWriting reading writing))
            (if not c then piped (pipe.UndoingReading reading word) else piped (pipe.StoringWriting reading writing))
        by_test true = omega arith
        by_test false = omega arith

    pub taking_writing_holds : ServiceHolds s n (making (record { at = stage.TakingWriting reading writing }))
    taking_writing_holds =
        law_of_call s n (plan (stage.TakingWriting reading writing)) service.Pipe (step.Piped (pipe.TakingWriting reading writing))
        (record {
          stands = stands;
          live = live;
          numbered = refl;
          plain = plainly refl;
          goes_on = refl;
          falls = λ called. writing_falls (answer_of called);
          few = omega arith;
        })
        SYS_PAGE_ALLOC (0 ∷ descriptor_va writing ∷ descriptor_perm ∷ 0 ∷ 0 ∷ []) refl refl (make_lives s n (descriptor_va writing) live)
        (make_holds s n (descriptor_va writing) live (descriptor_address writing)
        (λ (z : CallStep Called). IsInOrder z.state → KeepsBy s n (plan (stage.TakingWriting reading writing)) z)
        (λ made in_order. taking_writing_keeps s n reading writing stands made in_order)
        (λ in_order. refusal_keeps progress.Hidden s n (words_at (number_of service.Pipe) (step.Piped (pipe.UndoingReading reading no_memory)))))

  module _ (stands : place_of (slot_at s n) ≡ place.InService service.Pipe (step.Piped (pipe.TakingPipe reading writing))) where
    pipe_falls : (word : ℕ) → Falls service.Pipe (step.Piped (pipe.TakingPipe reading writing))
        (next_of_taking word (pipe.MappingPipe reading writing) (pipe.UndoingWriting reading writing word))
    pipe_falls word = by_test (word == 0)
      where
        by_test : (c : Bool) → Falls service.Pipe (step.Piped (pipe.TakingPipe reading writing))
            (if not c then piped (pipe.UndoingWriting reading writing word) else piped (pipe.MappingPipe reading writing))
        by_test true = omega arith
        by_test false = omega arith

    pub taking_pipe_holds : ServiceHolds s n (making (record { at = stage.TakingPipe reading writing }))
    taking_pipe_holds =
        law_of_call s n (plan (stage.TakingPipe reading writing)) service.Pipe (step.Piped (pipe.TakingPipe reading writing))
        (record {
          stands = stands;
          live = live;
          numbered = refl;
          plain = plainly refl;
          goes_on = refl;
          falls = λ called. pipe_falls (answer_of called);
          few = omega arith;
        })
        SYS_PAGE_ALLOC (0 ∷ pipe_va reading ∷ descriptor_perm ∷ 0 ∷ 0 ∷ []) refl refl (make_lives s n (pipe_va reading) live)
        (make_holds s n (pipe_va reading) live (pipe_address reading)
        (λ (z : CallStep Called). IsInOrder z.state → KeepsBy s n (plan (stage.TakingPipe reading writing)) z)
        (λ made in_order. taking_pipe_keeps s n reading writing stands made in_order)
        (λ in_order. refusal_keeps progress.Hidden s n (words_at (number_of service.Pipe) (step.Piped (pipe.UndoingWriting reading writing no_memory)))))

  -- ---- what it has made is given back; where it stands so, the state stands for no abstract one

  pub undoing_writing_holds : (error : ℕ) →
      place_of (slot_at s n) ≡ place.InService service.Pipe (step.Piped (pipe.UndoingWriting reading writing error)) →
      ServiceHolds s n (making (record { at = stage.UndoingWriting reading writing error }))
  undoing_writing_holds error stands =
      law_of_call s n (plan (stage.UndoingWriting reading writing error)) service.Pipe (step.Piped (pipe.UndoingWriting reading writing error))
      (record {
        stands = stands;
        live = live;
        numbered = refl;
        plain = plainly refl;
        goes_on = refl;
        falls = λ called. omega arith;
        few = omega arith;
      })
      SYS_PAGE_UNMAP (0 ∷ descriptor_va writing ∷ 0 ∷ 0 ∷ 0 ∷ []) refl refl (drop_lives s n writing live)
      (λ order a h turn quiet. absurd (undoing_writing h.1 n reading writing error stands))

  pub undoing_reading_holds : (error : ℕ) → place_of (slot_at s n) ≡ place.InService service.Pipe (step.Piped (pipe.UndoingReading reading error)) →
      ServiceHolds s n (making (record { at = stage.UndoingReading reading error }))
  undoing_reading_holds error stands =
      law_of_call s n (plan (stage.UndoingReading reading error)) service.Pipe (step.Piped (pipe.UndoingReading reading error))
      (record {
        stands = stands;
        live = live;
        numbered = refl;
        plain = plainly refl;
        goes_on = refl;
        falls = λ called. tt;
        few = omega arith;
      })
      SYS_PAGE_UNMAP (0 ∷ descriptor_va reading ∷ 0 ∷ 0 ∷ 0 ∷ []) refl refl (drop_lives s n reading live)
      (λ order a h turn quiet. absurd (undoing_reading h.1 n reading error stands))

  -- ---- the pipe is made

  -- it takes no frame wherever it is known what it maps, since the region has a table
  pub mapping_pipe_holds : place_of (slot_at s n) ≡ place.InService service.Pipe (step.Piped (pipe.MappingPipe reading writing)) →
      ServiceHolds s n (making (record { at = stage.MappingPipe reading writing }))
  unfolding performed
  mapping_pipe_holds stands =
      let mapping : Plan = plan (stage.MappingPipe reading writing) in
      let asked : CallStep Called = pipe_map_asked s n reading writing in
      let goes : LivesBy s n mapping asked = giving_goes s n mapping asked (pipe_map_lives s n reading writing live) in
      let did = upshot_by mapping n asked asked.gives in
      record {
        lives = goes.live;
        keeps = λ order a h turn quiet.
            let maps = mapping_maps h.1 n reading writing stands in
            subst (λ (z : CallStep Called). IsInOrder z.state → FollowsBy s n mapping a z) (sym maps.step)
            (λ in_order.
            made_goes h.1 n reading writing stands maps.entry maps.stands (maps.given in_order) in_order turn.last) order;
        fails = λ may a h turn. absurd (let contradiction : false ≡ true = may.0 in cc);
        leaves = plain_leaves s n mapping refl;
        lowers = falling_lowers s n mapping asked service.Pipe (step.Piped (pipe.MappingPipe reading writing)) stands refl goes
            (λ a h turn is. system_never s n SYS_PAGE_MAP _ a h turn is) (λ called. tt);
        gives_up = gives_nothing_up (Ok did.progress) (slot_at s n) (slot_at did.state n) (ap is_pausing stands);
        takes = takes_at s n mapping asked (place.InService service.Pipe (step.Piped (pipe.MappingPipe reading writing))) stands
            (λ a h. let maps = mapping_maps h.1 n reading writing stands in
            subst (λ (z : CallStep Called). TakesAtMost 0 s.spaces z.state.spaces) (sym maps.step) maps.takes);
      }
