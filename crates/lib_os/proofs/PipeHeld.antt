-- Read and write on an end of a pipe, which hold its lock: they load the two positions, and go on to the next byte, or to give the lock back where
-- there is none to take, or no room for one. Read that has taken some ends there, which is seen.
-- (MIT 6.828, lab 5: lib/pipe.c, devpipe_read and devpipe_write.)
use Rattle.std.proofs.Common.{◌≡◌, ◌≢◌, ◌∙◌, inl, inr, ◌+◌, ◌-◌, ◌<◌, ◌==◌, ℕ, zero, suc, true, false, List, [], ◌∷◌, length}
use Rattle.std.proofs.Common.{Some, refl, sym, ap, subst, arith}
use Rattle.std.specs.Prelude.{min, slice_index}
use Rattle.std.specs.Option.{option_map}
use Rattle.std.proofs.Math.Nat.{min-le_right}
use Rattle.std.proofs.lemmas.Bool.{cases_eq}
use Rattle.std.proofs.lemmas.Bool.Decides.{nat_tests}
use Rattle.std.proofs.lemmas.Option.{same_Some}
use Rattle.jos_base.specs.declared.registers.Regs.{Regs}
use Rattle.jos_base.specs.Environments.{Slot, is_running}
use Rattle.jos_base.specs.KernelState.{KernelState, slot_at, with_extra}
use Rattle.jos_base.specs.Reach.{Entry}
use Rattle.lib_os.specs.declared.numbers.TheConstants.{TRANSFER_MAX}
use Rattle.lib_os.specs.declared.place.PipeStep.{PipeStep}
use Rattle.lib_os.specs.declared.place.PipeStep.TheVariants as pipe
use Rattle.lib_os.specs.declared.place.Place.TheVariants as place
use Rattle.lib_os.specs.declared.place.Step.TheVariants as step
use Rattle.lib_os.specs.declared.service.Service.{Service}
use Rattle.lib_os.specs.declared.service.Service.TheVariants as service
use Rattle.lib_os.specs.AbstractPipes.{read_pipe}
use Rattle.lib_os.specs.AbstractRun.{abs_step}
use Rattle.lib_os.specs.AbstractState.{AbstractState, Born, Object, delivering, in_service, moving, read_end}
use Rattle.lib_os.specs.Answers.{handed_back}
use Rattle.lib_os.specs.DescriptorPages.{held_of, pipe_byte, read_of, written_of}
use Rattle.lib_os.specs.Descriptors.{object_of}
use Rattle.lib_os.specs.FileServices.{read_moving}
use Rattle.lib_os.specs.InOrder.{IsInOrder}
use Rattle.lib_os.specs.LibraryCall.{library_step}
use Rattle.lib_os.specs.LibraryPages.{View}
use Rattle.lib_os.specs.LibrarySteps.{GoesOn}
use Rattle.lib_os.specs.Places.{place_of, words_at}
use Rattle.lib_os.specs.Rows.{Names, pipe_page}
use Rattle.lib_os.specs.StandsAtPipe.{HasTried, IsReadingPipe, TriesAgain, end_given, is_still, stage_taken}
use Rattle.lib_os.specs.StandsFor.{StandsFor, view_of}
use Rattle.lib_os.specs.StandsInHandler.{HandsAt, HasBytes, behind, wanted_of}
use Rattle.lib_os.specs.UserCalls.{load, load_byte}
use Rattle.lib_os.proofs.BytesCounted.{buffer_less}
use Rattle.lib_os.proofs.DeviceLooks.{names_end}
use Rattle.lib_os.proofs.GoingOn.{in_with_words}
use Rattle.lib_os.proofs.Loading.{loaded}
use Rattle.lib_os.proofs.Numbered.{number_of}
use Rattle.lib_os.proofs.PipeBytes.{empty_test, read_none, told_none}
use Rattle.lib_os.proofs.PipeLoaded.{byte_gives, byte_va, held_is, pipe_held, pipe_told, pipe_whole, piped_goes_on, piped_makes_none, piped_seen}
use Rattle.lib_os.proofs.PipeLoaded.{piped_shows, piped_unborne, read_gives, read_va, written_gives, written_va}
use Rattle.lib_os.proofs.Serving.{IsServed, printed_nothing, served, step_in}
use Rattle.lib_os.proofs.WindowWords.{read_at}

-- ---- a retry

-- with other words
pub tries_with : (v : View) (k : Slot) (words : List ℕ) (s : Service) (id runs : ℕ) → TriesAgain v k s id runs →
    TriesAgain v (record k { extra = words }) s id runs
tries_with v k words s zero runs h = tt
tries_with v k words s (suc id) runs h = h

-- Where the test has told in a turn that the pipe may be moved from or to, and now it may not, it is another turn.
pub has_tried : (v : View) (k : Slot) (words : List ℕ) (s : Service) (id runs : ℕ) (x : Entry) → v.row (pipe_page (end_given s)) ≡ Some x →
    is_still s (v.bytes x.frame) ≡ true → is_running k.status ≡ true → TriesAgain v k s id runs → HasTried (record k { extra = words }) id runs
has_tried v k words s zero runs x lies still running h = tt
has_tried v k words s (suc id) runs x lies still running h = (h.0, later)
  where
    later : runs < k.runs
    later = elim (cases_eq k.runs runs) [
      | inl same ↦
          let told = h.1.1 running same in
          let here : told.page ≡ x = same_Some told.page x (sym told.lies ∙ lies) in
          let contradiction : true ≡ false = sym still ∙ ap (λ (e : Entry). is_still s (v.bytes e.frame)) (sym here) ∙ told.so in
          absurd cc
      | inr ne ↦ let few = h.1.0 in omega (arith, few, ne)
    ]

-- ---- read

-- what read is in the abstract system, where it has taken some
read_moves : (a : AbstractState) (n : ℕ) (b : Born) (regs : Regs) (fd va len name : ℕ) (taken : List ℕ) (count : ℕ) →
    object_of a b fd ≡ Some (read_end name) →
    library_step a n b regs (service.Read fd va len) (moving taken count)
    ≡ read_pipe a n b regs (service.Read fd va len) va name (min len TRANSFER_MAX) taken
unfolding library_step
read_moves a n b regs fd va len name taken count is = ap (read_moving a n b regs (service.Read fd va len) va len taken) is

module _ (s : KernelState) (n fd va len : ℕ) where
  abbrev space : View
  space = view_of s.spaces (slot_at s n).directory

  abbrev reading : Service
  reading = service.Read fd va len

  abbrev page : List ℕ
  page = pipe_held s n fd

  abbrev pub reading_with : (b : Born) (words : List ℕ) (done : ℕ) → IsReadingPipe space (slot_at s n) b fd va len done →
      IsReadingPipe space (record (slot_at s n) { extra = words }) b fd va len done
  reading_with b words done h = record {
    taken = h.taken;
    is_in = in_with_words words h.is_in;
    below = h.below;
    open_end = h.open_end;
    many = h.many;
    inside = h.inside;
    small = h.small;
    kept = h.kept;
  }

  -- ---- how many were read

  module _ (done id runs : ℕ) (stands : place_of (slot_at s n) ≡ place.InService reading (step.Piped (pipe.ReadFrom done id runs))) {names : Names}
      {a : AbstractState} (h : StandsFor names s a) where
    abbrev v : IsServed names s a n reading (step.Piped (pipe.ReadFrom done id runs))
    v = served h n reading (step.Piped (pipe.ReadFrom done id runs)) stands

    it : IsReadingPipe space (slot_at s n) v.b fd va len done
    it = v.at.0.0

    pub reads_from_gives : load s n (read_va fd) ≡ read_at s n (read_va fd) (read_of page)
    reads_from_gives = read_gives h n reading fd refl (pipe.ReadFrom done id runs) v fd it.below it.open_end.page it.open_end.lies

    pub reads_from : IsInOrder (loaded s n (read_va fd)) →
        StandsFor names (with_extra (loaded s n (read_va fd)) n (words_at (number_of reading) (step.Piped (pipe.ReadTo done id runs (read_of page))))) a
    reads_from order =
        let to : PipeStep = pipe.ReadTo done id runs (read_of page) in
        piped_goes_on h n reading fd refl (pipe.ReadFrom done id runs) v (read_va fd) order to refl refl (λ q. refl) (λ q. refl) (
          (reading_with v.b (words_at (number_of reading) (step.Piped to)) done it, v.at.0.1),
          tries_with space (slot_at s n) (words_at (number_of reading) (step.Piped to)) reading id runs v.at.1,
          record {
            page = it.open_end.page;
            lies = it.open_end.lies;
            so = ap read_of (sym (held_is h n reading fd refl (pipe.ReadFrom done id runs) v fd it.below it.open_end.page it.open_end.lies));
          },
        )

  -- ---- how many were written

  module _ (done id runs from : ℕ) (stands : place_of (slot_at s n) ≡ place.InService reading (step.Piped (pipe.ReadTo done id runs from)))
      {names : Names} {a : AbstractState} (h : StandsFor names s a) where
    abbrev here : PipeStep
    here = pipe.ReadTo done id runs from

    abbrev w : IsServed names s a n reading (step.Piped (pipe.ReadTo done id runs from))
    w = served h n reading (step.Piped (pipe.ReadTo done id runs from)) stands

    has : IsReadingPipe space (slot_at s n) w.b fd va len done
    has = w.at.0.0

    abbrev x : Entry
    x = has.open_end.page

    same_page : page ≡ s.spaces.pages x.frame
    same_page = held_is h n reading fd refl here w fd has.below x has.open_end.lies

    from_is : read_of (s.spaces.pages x.frame) ≡ from
    from_is =
        let told = w.at.2 in
        let same : told.page ≡ x = same_Some told.page x (sym told.lies ∙ has.open_end.lies) in
        ap (λ (e : Entry). read_of (s.spaces.pages e.frame)) (sym same) ∙ told.so

    -- by the test whether there is a byte
    none_is : (held_of (s.spaces.pages x.frame) == 0) ≡ (written_of page == from)
    none_is =
        empty_test (s.spaces.pages x.frame) (pipe_whole h n reading fd refl here w fd has.below x has.open_end.lies)
        ∙ (λ i. written_of (sym same_page i) == from_is i)

    pub reads_to_gives : load s n (written_va fd) ≡ read_at s n (written_va fd) (written_of page)
    reads_to_gives = written_gives h n reading fd refl here w fd has.below x has.open_end.lies

    module _ (order : IsInOrder (loaded s n (written_va fd))) where
      -- there is one
      pub read_finds : (written_of page == from) ≡ false →
          StandsFor names (with_extra (loaded s n (written_va fd)) n (words_at (number_of reading) (step.Piped (pipe.LoadingHeld done from)))) a
      read_finds test =
          let some : held_of (s.spaces.pages x.frame) ≢ 0 =
          λ none. let contradiction : true ≡ false = sym (ap (λ (m : ℕ). m == 0) none) ∙ none_is ∙ test in cc in
          piped_goes_on h n reading fd refl here w (written_va fd) order (pipe.LoadingHeld done from) refl refl (λ q. refl) (λ q. refl) (
            (reading_with w.b (words_at (number_of reading) (step.Piped (pipe.LoadingHeld done from))) done has, w.at.0.1),
            record { page = x; lies = has.open_end.lies; so = (from_is, some) },
          )

      -- there is none, and it tries whether there will be one
      pub read_stuck : (written_of page == from) ≡ true → done ≡ 0 → is_running (slot_at s n).status ≡ true →
          StandsFor names (with_extra (loaded s n (written_va fd)) n (words_at (number_of reading) (step.Piped (pipe.UnlockingTest done id runs)))) a
      read_stuck test none running =
          let to : PipeStep = pipe.UnlockingTest done id runs in
          let words : List ℕ = words_at (number_of reading) (step.Piped to) in
          piped_goes_on h n reading fd refl here w (written_va fd) order to refl refl (λ q. refl) (λ q. refl) (
            (reading_with w.b words done has, w.at.0.1, none),
            has_tried space (slot_at s n) words reading id runs x has.open_end.lies (none_is ∙ test) running w.at.1,
          )

      -- or it hands back those that it has taken
      pub read_ends : (written_of page == from) ≡ true → done ≢ 0 →
          GoesOn n (with_extra (loaded s n (written_va fd)) n (words_at (number_of reading) (step.Piped (pipe.UnlockingEnd done)))) a []
      read_ends test some = by_taken has.taken refl
        where
          to : PipeStep
          to = pipe.UnlockingEnd done

          words : List ℕ
          words = words_at (number_of reading) (step.Piped to)

          by_taken : (taken : List ℕ) → has.taken ≡ taken →
              GoesOn n (with_extra (loaded s n (written_va fd)) n (words_at (number_of reading) (step.Piped (pipe.UnlockingEnd done)))) a []
          by_taken [] is = absurd (some (sym has.many ∙ ap (λ (l : List ℕ). length l) is))
          by_taken (byte ∷ rest) is = (
            handed_back a n w.b (slot_at s n).registers reading va (byte ∷ rest) (length (byte ∷ rest)),
            step_is,
            printed_nothing a,
            (
              names,
              piped_shows h n reading fd refl here w (written_va fd) order to (delivering va (byte ∷ rest) (length (byte ∷ rest))) refl refl
                  (λ q. refl) (λ q. refl) (bytes, has.below, has.open_end),
            ),
          )
            where
              all : List ℕ
              all = byte ∷ rest

              many : length (byte ∷ rest) ≡ done
              many = ap (λ (l : List ℕ). length l) (sym is) ∙ has.many

              named : ℕ
              named = (names_end h n w.b w.is (piped_unborne h n reading fd refl here w) (piped_makes_none h n reading fd refl here w)
                  (piped_seen h n reading fd refl here w (λ q. refl)) fd has.below 0 has.open_end).pipe

              object : object_of a w.b fd ≡ Some (read_end named)
              object =
                  let end = names_end h n w.b w.is (piped_unborne h n reading fd refl here w) (piped_makes_none h n reading fd refl here w)
                  (piped_seen h n reading fd refl here w (λ q. refl)) fd has.below 0 has.open_end in
                  ap (option_map a.objects) end.named ∙ ap (λ (o : Object). Some o) end.is

              nothing : a.pipes named ≡ []
              nothing =
                  let end = names_end h n w.b w.is (piped_unborne h n reading fd refl here w) (piped_makes_none h n reading fd refl here w)
                  (piped_seen h n reading fd refl here w (λ q. refl)) fd has.below 0 has.open_end in
                  let none : held_of (s.spaces.pages x.frame) ≡ 0 = let zero = none_is ∙ test in grind (arith, nat_tests, zero) in
                  ap a.pipes (sym end.page_is) ∙ told_none (pipe_told h n reading fd refl here w fd has.below x has.open_end.lies) none

              step_is : abs_step a n ≡ Some (handed_back a n w.b (slot_at s n).registers reading va (byte ∷ rest) (length (byte ∷ rest)))
              step_is =
                  step_in a n w.b (slot_at s n) reading (stage_taken has.taken) w.is has.is_in
                  ∙ ap (λ (taken : List ℕ). library_step a n w.b (slot_at s n).registers reading (stage_taken taken)) is
                  ∙ read_moves a n w.b (slot_at s n).registers fd va len named (byte ∷ rest) (length (byte ∷ rest)) object
                  ∙ read_none a n w.b (slot_at s n).registers reading named va (min len TRANSFER_MAX) (byte ∷ rest) nothing

              bytes : HasBytes space (record (slot_at s n) { extra = words_at (number_of reading) (step.Piped (pipe.UnlockingEnd done)) })
                  (record w.b { phase = in_service reading (delivering va (byte ∷ rest) (length (byte ∷ rest))) }) reading 0 done
              bytes =
                  let less = w.at.0.1 in
                  let few = min-le_right len TRANSFER_MAX in
                  let none : va + 0 ≡ va = omega arith in
                  record {
                    hands = refl;
                    regs = (slot_at s n).registers;
                    program = has.is_in.program;
                    eax = (slot_at s n).registers.eax;
                    registers = refl;
                    bytes = byte ∷ rest;
                    hands_at = subst (λ (m : ℕ). HandsAt reading (byte ∷ rest) done 0 (in_service reading (delivering va (byte ∷ rest) m))) (sym many)
                        (subst (λ (q : ℕ). HandsAt reading (byte ∷ rest) done 0 (in_service reading (delivering q (byte ∷ rest) done))) none (behind 0));
                    many = many;
                    fewer = omega (arith, some);
                    most = omega (arith, less, few);
                    inside = buffer_less va (wanted_of len) done has.inside (omega (arith, less));
                    small = subst (λ (l : List ℕ). (i : ℕ) → slice_index l i < 256) is has.small;
                    kept = record {
                      entry = has.kept.entry;
                      stands = has.kept.stands;
                      own_page = has.kept.own_page;
                      same = λ i lt. has.kept.same i lt ∙ ap (λ (l : List ℕ). slice_index l i) is;
                    };
                    silent = has.is_in.silent;
                    awake = has.is_in.awake;
                  }

  -- ---- the next byte

  module _ (done from : ℕ) (stands : place_of (slot_at s n) ≡ place.InService reading (step.Piped (pipe.LoadingHeld done from))) {names : Names}
      {a : AbstractState} (h : StandsFor names s a) where
    abbrev u : IsServed names s a n reading (step.Piped (pipe.LoadingHeld done from))
    u = served h n reading (step.Piped (pipe.LoadingHeld done from)) stands

    taking : IsReadingPipe space (slot_at s n) u.b fd va len done
    taking = u.at.0.0

    pub reads_byte_gives : load_byte s n (byte_va fd from) ≡ read_at s n (byte_va fd from) (pipe_byte page from)
    reads_byte_gives = byte_gives h n reading fd refl (pipe.LoadingHeld done from) u fd taking.below u.at.1.page u.at.1.lies from

    pub reads_byte : IsInOrder (loaded s n (byte_va fd from)) →
        StandsFor names (with_extra (loaded s n (byte_va fd from)) n
        (words_at (number_of reading) (step.Piped (pipe.KeepingHeld done from (pipe_byte page from))))) a
    reads_byte order =
        let to : PipeStep = pipe.KeepingHeld done from (pipe_byte page from) in
        let same = held_is h n reading fd refl (pipe.LoadingHeld done from) u fd taking.below u.at.1.page u.at.1.lies in
        piped_goes_on h n reading fd refl (pipe.LoadingHeld done from) u (byte_va fd from) order to refl refl (λ q. refl) (λ q. refl) (
          (reading_with u.b (words_at (number_of reading) (step.Piped to)) done taking, u.at.0.1),
          record {
            page = u.at.1.page;
            lies = u.at.1.lies;
            so = (u.at.1.so.0, u.at.1.so.1, ap (λ (bytes : List ℕ). pipe_byte bytes from) (sym same));
          },
        )
