-- Stat on an end of a pipe, which holds its lock: it loads the two positions, by which it knows how many bytes the pipe holds. That is what is seen.
-- (MIT 6.828, lab 5: lib/pipe.c, devpipe_stat.)
use Rattle.std.proofs.Common.{◌≡◌, ◌∙◌, ◌+◌, ◌-◌, ◌%◌, ◌^◌, ◌<◌, ◌≤◌, ℕ, zero, suc, true, List, [], ◌∷◌}
use Rattle.std.proofs.Common.{◌++◌, length, Some, refl, sym, ap, subst, arith}
use Rattle.std.specs.Prelude.{codes, replicate}
use Rattle.std.specs.Option.{option_map}
use Rattle.std.proofs.lemmas.Option.{same_Some}
use Rattle.jos_base.specs.declared.registers.Regs.{Regs}
use Rattle.jos_base.specs.KernelState.{KernelState, slot_at, with_extra}
use Rattle.jos_base.specs.Reach.{Entry}
use Rattle.jos_base.specs.TrapFrames.{bytes_of_words}
use Rattle.fs_layout.specs.declared.numbers.TheConstants.{FTYPE_REG, MAXNAMELEN}
use Rattle.fs_layout.specs.FileActs.{stat_bytes}
use Rattle.lib_os.specs.declared.numbers.TheConstants.{PIPEBUFSIZ, STAT_SIZE}
use Rattle.lib_os.specs.declared.place.PipeStep.{PipeStep}
use Rattle.lib_os.specs.declared.place.PipeStep.TheVariants as pipe
use Rattle.lib_os.specs.declared.place.Place.TheVariants as place
use Rattle.lib_os.specs.declared.place.Step.TheVariants as step
use Rattle.lib_os.specs.declared.service.Service.{Service}
use Rattle.lib_os.specs.declared.service.Service.TheVariants as service
use Rattle.lib_os.specs.AbstractRun.{abs_step}
use Rattle.lib_os.specs.AbstractState.{AbstractState, Born, Object, delivering, entered, in_service}
use Rattle.lib_os.specs.Answers.{at_stage, handed_back}
use Rattle.lib_os.specs.DescriptorPages.{held_of, read_of, written_of}
use Rattle.lib_os.specs.Descriptors.{object_of}
use Rattle.lib_os.specs.Fence.{is_buffer}
use Rattle.lib_os.specs.FileServices.{stat_begun}
use Rattle.lib_os.specs.InOrder.{IsInOrder}
use Rattle.lib_os.specs.LibraryCall.{library_step}
use Rattle.lib_os.specs.LibraryPages.{View}
use Rattle.lib_os.specs.LibrarySteps.{GoesOn}
use Rattle.lib_os.specs.Places.{place_of, words_at}
use Rattle.lib_os.specs.Rows.{AreBytes, Names}
use Rattle.lib_os.specs.StandsAtPipe.{IsTellingPipe}
use Rattle.lib_os.specs.StandsFor.{StandsFor, view_of}
use Rattle.lib_os.specs.StandsInHandler.{IsDelivering, pipe_stat}
use Rattle.lib_os.specs.UserCalls.{load}
use Rattle.lib_os.proofs.BytesDelivered.{stat_length}
use Rattle.lib_os.proofs.DeviceLooks.{end_object, names_end}
use Rattle.lib_os.proofs.GoingOn.{in_with_words}
use Rattle.lib_os.proofs.Loading.{loaded}
use Rattle.lib_os.proofs.Numbered.{number_of}
use Rattle.lib_os.proofs.PageBytes.{bytes_append, bytes_same, words_bytes}
use Rattle.lib_os.proofs.PipeBytes.{told_long, wrapped_held}
use Rattle.lib_os.proofs.PipeLoaded.{held_is, pipe_held, pipe_told, pipe_whole, piped_goes_on, piped_makes_none}
use Rattle.lib_os.proofs.PipeLoaded.{piped_seen, piped_shows, piped_unborne}
use Rattle.lib_os.proofs.PipeLoaded.{read_gives, read_va, written_gives, written_va}
use Rattle.lib_os.proofs.Serving.{IsServed, printed_nothing, served, step_in}
use Rattle.lib_os.proofs.WindowWords.{read_at}

-- what stat is in the abstract system, of an end of a pipe
stat_tells : (a : AbstractState) (n : ℕ) (b : Born) (regs : Regs) (fd va mode name held : ℕ) → object_of a b fd ≡ Some (end_object mode name) →
    is_buffer va STAT_SIZE ≡ true → length (a.pipes name) ≡ held →
    library_step a n b regs (service.Stat fd va) entered ≡ Some (handed_back a n b regs (service.Stat fd va) va (pipe_stat held) 0)
unfolding library_step
stat_tells a n b regs fd va zero name held is buffer many =
    ap (stat_begun a n b regs (service.Stat fd va) va) is
    ∙ rw buffer (ap (λ (m : ℕ). Some (handed_back a n b regs (service.Stat fd va) va (pipe_stat m) 0)) many)
stat_tells a n b regs fd va (suc mode) name held is buffer many =
    ap (stat_begun a n b regs (service.Stat fd va) va) is
    ∙ rw buffer (ap (λ (m : ℕ). Some (handed_back a n b regs (service.Stat fd va) va (pipe_stat m) 0)) many)

-- it is told in bytes
abbrev nuls : List ℕ
nuls = replicate (MAXNAMELEN - length (codes "<pipe>")) 0

pipe_stat_bytes : (held : ℕ) → AreBytes (pipe_stat held)
unfolding stat_bytes
pipe_stat_bytes held =
    bytes_append (codes "<pipe>" ++ nuls) (bytes_of_words (held ∷ FTYPE_REG ∷ []))
    (bytes_append (codes "<pipe>") nuls name_bytes (bytes_same (MAXNAMELEN - length (codes "<pipe>")) 0 (omega arith)))
    (words_bytes (held ∷ FTYPE_REG ∷ []))
  where
    name_bytes : AreBytes (codes "<pipe>")
    name_bytes zero = omega arith
    name_bytes (suc zero) = omega arith
    name_bytes (suc (suc zero)) = omega arith
    name_bytes (suc (suc (suc zero))) = omega arith
    name_bytes (suc (suc (suc (suc zero)))) = omega arith
    name_bytes (suc (suc (suc (suc (suc zero))))) = omega arith
    name_bytes (suc (suc (suc (suc (suc (suc i)))))) = omega arith

module _ (s : KernelState) (n fd va : ℕ) where
  abbrev space : View
  space = view_of s.spaces (slot_at s n).directory

  abbrev telling : Service
  telling = service.Stat fd va

  abbrev page : List ℕ
  page = pipe_held s n fd

  telling_with : (b : Born) (words : List ℕ) (mode : ℕ) → IsTellingPipe space (slot_at s n) b fd va mode →
      IsTellingPipe space (record (slot_at s n) { extra = words }) b fd va mode
  telling_with b words mode h = record {
    is_in = in_with_words words h.is_in;
    below = h.below;
    open_end = h.open_end;
    inside = h.inside;
  }

  -- ---- how many were read

  module _ (stands : place_of (slot_at s n) ≡ place.InService telling (step.Piped pipe.StatFrom)) {names : Names} {a : AbstractState}
      (h : StandsFor names s a) where
    abbrev v : IsServed names s a n telling (step.Piped pipe.StatFrom)
    v = served h n telling (step.Piped pipe.StatFrom) stands

    it : IsTellingPipe space (slot_at s n) v.b fd va v.at.0
    it = v.at.1

    pub stat_from_gives : load s n (read_va fd) ≡ read_at s n (read_va fd) (read_of page)
    stat_from_gives = read_gives h n telling fd refl pipe.StatFrom v fd it.below it.open_end.page it.open_end.lies

    pub stat_from : IsInOrder (loaded s n (read_va fd)) →
        StandsFor names (with_extra (loaded s n (read_va fd)) n (words_at (number_of telling) (step.Piped (pipe.StatTo (read_of page))))) a
    stat_from order =
        let to : PipeStep = pipe.StatTo (read_of page) in
        piped_goes_on h n telling fd refl pipe.StatFrom v (read_va fd) order to refl refl (λ q. refl) (λ q. refl) (
          (v.at.0, telling_with v.b (words_at (number_of telling) (step.Piped to)) v.at.0 it),
          record {
            page = it.open_end.page;
            lies = it.open_end.lies;
            so = ap read_of (sym (held_is h n telling fd refl pipe.StatFrom v fd it.below it.open_end.page it.open_end.lies));
          },
        )

  -- ---- how many were written: it tells how many there are

  module _ (from : ℕ) (stands : place_of (slot_at s n) ≡ place.InService telling (step.Piped (pipe.StatTo from))) {names : Names} {a : AbstractState}
      (h : StandsFor names s a) where
    abbrev w : IsServed names s a n telling (step.Piped (pipe.StatTo from))
    w = served h n telling (step.Piped (pipe.StatTo from)) stands

    mode : ℕ
    mode = w.at.0.0

    has : IsTellingPipe space (slot_at s n) w.b fd va w.at.0.0
    has = w.at.0.1

    abbrev x : Entry
    x = has.open_end.page

    same_page : page ≡ s.spaces.pages x.frame
    same_page = held_is h n telling fd refl (pipe.StatTo from) w fd has.below x has.open_end.lies

    abbrev held : ℕ
    held = (written_of page + (2 ^ 32 - from)) % 2 ^ 32

    held_so : held ≡ held_of (s.spaces.pages x.frame)
    held_so =
        let told = w.at.1 in
        let same : told.page ≡ x = same_Some told.page x (sym told.lies ∙ has.open_end.lies) in
        let from_is : read_of (s.spaces.pages x.frame) ≡ from = ap (λ (e : Entry). read_of (s.spaces.pages e.frame)) (sym same) ∙ told.so in
        (λ i. (written_of (same_page i) + (2 ^ 32 - sym from_is i)) % 2 ^ 32)
        ∙ wrapped_held (s.spaces.pages x.frame) (pipe_whole h n telling fd refl (pipe.StatTo from) w fd has.below x has.open_end.lies)

    pub stat_to_gives : load s n (written_va fd) ≡ read_at s n (written_va fd) (written_of page)
    stat_to_gives = written_gives h n telling fd refl (pipe.StatTo from) w fd has.below x has.open_end.lies

    step_is : abs_step a n ≡ Some (handed_back a n w.b (slot_at s n).registers telling va (pipe_stat held) 0)
    step_is =
        let end = names_end h n w.b w.is (piped_unborne h n telling fd refl (pipe.StatTo from) w)
        (piped_makes_none h n telling fd refl (pipe.StatTo from) w) (piped_seen h n telling fd refl (pipe.StatTo from) w (λ q. refl)) fd has.below
        w.at.0.0 has.open_end in
        let object : object_of a w.b fd ≡ Some (end_object w.at.0.0 end.pipe) =
        ap (option_map a.objects) end.named ∙ ap (λ (o : Object). Some o) end.is in
        let many : length (a.pipes end.pipe) ≡ held =
        ap (λ (name : ℕ). length (a.pipes name)) (sym end.page_is)
        ∙ told_long (pipe_told h n telling fd refl (pipe.StatTo from) w fd has.below x has.open_end.lies) ∙ sym held_so in
        step_in a n w.b (slot_at s n) telling entered w.is has.is_in
        ∙ stat_tells a n w.b (slot_at s n).registers fd va w.at.0.0 end.pipe held object has.inside many

    -- what is told is some
    handed_is : (bytes : List ℕ) → 0 < length bytes →
        handed_back a n w.b (slot_at s n).registers telling va bytes 0
        ≡ at_stage a n w.b telling (delivering va bytes 0)
    handed_is [] some = absurd (omega (arith, some))
    handed_is (byte ∷ rest) some = refl

    delivers : IsDelivering (record (slot_at s n) { extra = words_at (number_of telling) (step.Piped (pipe.StatUnlocking held)) })
        (record w.b { phase = in_service telling (delivering va (pipe_stat held) 0) }) telling (va + 0) (pipe_stat held) 0
    delivers =
        let long : length (pipe_stat held) ≡ STAT_SIZE = stat_length (suc held) in
        let none : va ≡ va + 0 = omega arith in
        record {
          program = has.is_in.program;
          phase = ap (λ (at : ℕ). in_service telling (delivering at (pipe_stat held) 0)) none;
          silent = has.is_in.silent;
          awake = has.is_in.awake;
          some = omega (arith, long);
          inside = (λ i. is_buffer (sym none i) (long i)) ∙ has.inside;
          small = pipe_stat_bytes held;
        }

    pub stat_shows : IsInOrder (loaded s n (written_va fd)) →
        GoesOn n (with_extra (loaded s n (written_va fd)) n (words_at (number_of telling) (step.Piped (pipe.StatUnlocking held)))) a []
    stat_shows order =
        let long : length (pipe_stat held) ≡ STAT_SIZE = stat_length (suc held) in
        let few = (pipe_told h n telling fd refl (pipe.StatTo from) w fd has.below x has.open_end.lies).few in
        let handed = handed_is (pipe_stat held) (omega (arith, long)) in (
          at_stage a n w.b telling (delivering va (pipe_stat held) 0),
          step_is ∙ ap (λ (after : AbstractState). Some after) handed,
          printed_nothing a,
          (
            names,
            piped_shows h n telling fd refl (pipe.StatTo from) w (written_va fd) order (pipe.StatUnlocking held) (delivering va (pipe_stat held) 0) refl
                refl (λ q. refl) (λ q. refl) (delivers, subst (λ (m : ℕ). m ≤ PIPEBUFSIZ) (sym held_so) few, (w.at.0.0, has.below, has.open_end)),
          ),
        )
