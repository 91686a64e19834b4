-- read and stat find that their descriptor names a file: read learns its mode, and both whether their buffer lies in the fence. Where what they ask
-- is refused the abstract system refuses it too, and else they go on to ask the file server.
use Rattle.std.proofs.Common.{◌≡◌, ◌≢◌, ◌∙◌, ◌==◌, ℕ, true, false, Option, Some, [], refl, sym, ap, arith}
use Rattle.std.specs.Prelude.{slice_index}
use Rattle.std.specs.Option.{option_map}
use Rattle.std.proofs.lemmas.Bool.Decides.{nat_tests}
use Rattle.jos_base.specs.declared.numbers.TheConstants.{E_INVAL}
use Rattle.jos_base.specs.declared.registers.Regs.{Regs}
use Rattle.jos_base.specs.KernelState.{KernelState, slot_at, with_extra}
use Rattle.jos_base.specs.Reach.{Entry}
use Rattle.jos_base.specs.Words.{negated, word_at}
use Rattle.lib_os.specs.declared.numbers.TheConstants.{DEVICE_FILE, FD_MODE, STAT_SIZE}
use Rattle.lib_os.specs.declared.place.Place.TheVariants as place
use Rattle.lib_os.specs.declared.place.Step.TheVariants as step
use Rattle.lib_os.specs.declared.service.Service.{Service}
use Rattle.lib_os.specs.declared.service.Service.TheVariants as service
use Rattle.lib_os.specs.AbstractState.{AbstractState, Born, Object, OpenFile, entered, file}
use Rattle.lib_os.specs.Answers.{refused}
use Rattle.lib_os.specs.Descriptors.{object_of}
use Rattle.lib_os.specs.Fence.{is_buffer}
use Rattle.lib_os.specs.InOrder.{IsInOrder}
use Rattle.lib_os.specs.LibraryCall.{library_step}
use Rattle.lib_os.specs.LibraryPages.{View}
use Rattle.lib_os.specs.LibrarySteps.{GoesOn, service_answered}
use Rattle.lib_os.specs.Places.{place_of, words_at}
use Rattle.lib_os.specs.Rows.{Names}
use Rattle.lib_os.specs.StandsFor.{IsOfFile, StandsFor, borne_in, view_of}
use Rattle.lib_os.specs.StandsInHandler.{wanted_of}
use Rattle.lib_os.specs.UserCalls.{load}
use Rattle.lib_os.proofs.DescriptorLooks.{read_goes_on, seen_calm}
use Rattle.lib_os.proofs.DeviceLooks.{NamesFile, device_answers, device_file, device_goes_on, device_is_file, device_va, device_word, look_answers}
use Rattle.lib_os.proofs.DeviceLooks.{names_file, reading_device, word_there}
use Rattle.lib_os.proofs.FileAsks.{of_file_moved}
use Rattle.lib_os.proofs.FileReads.{mode_va, told_at, told_word}
use Rattle.lib_os.proofs.GoingOn.{in_with_words}
use Rattle.lib_os.proofs.Loading.{loaded}
use Rattle.lib_os.proofs.Logical.{is_making_pipe}
use Rattle.lib_os.proofs.Numbered.{number_of}
use Rattle.lib_os.proofs.PipesStand.{is_calm}
use Rattle.lib_os.proofs.Serving.{IsServed, served}
use Rattle.lib_os.proofs.WindowWords.{read_at}

-- ---- what the abstract system does

abbrev Refuses : Service → ℕ → Object → Type 0
Refuses call fd object = (a : AbstractState) (n : ℕ) (b : Born) (regs : Regs) → object_of a b fd ≡ Some object →
    library_step a n b regs call entered ≡ Some (refused a n b regs E_INVAL)

read_for_writing : (fd va len : ℕ) (f : OpenFile) → f.mode ≡ 1 → Refuses (service.Read fd va len) fd (file f)
unfolding library_step
read_for_writing fd va len f writes a n b regs is =
    let test : (f.mode == 1) ≡ true = grind (arith, nat_tests, writes) in rw (is, test) refl

read_outside : (fd va len : ℕ) (f : OpenFile) → f.mode ≢ 1 → is_buffer va (wanted_of len) ≡ false → Refuses (service.Read fd va len) fd (file f)
unfolding library_step
read_outside fd va len f mode outside a n b regs is =
    let test : (f.mode == 1) ≡ false = grind (arith, nat_tests, mode) in rw (is, test, outside) refl

stat_outside : (fd va : ℕ) (f : OpenFile) → is_buffer va STAT_SIZE ≡ false → Refuses (service.Stat fd va) fd (file f)
unfolding library_step
stat_outside fd va f outside a n b regs is = rw (is, outside) refl

-- ---- it has read what its descriptor names

module _ (s : KernelState) (n fd : ℕ) {names : Names} {a : AbstractState} (h : StandsFor names s a)
    (order : IsInOrder (loaded s n (device_va fd))) (word : device_word s n fd ≡ DEVICE_FILE) where
  module _ (va len : ℕ) (stands : place_of (slot_at s n) ≡ place.InService (service.Read fd va len) step.ReadingDevice) where
    abbrev read : Service
    read = service.Read fd va len

    pub read_finds_file :
        StandsFor names (with_extra (loaded s n (device_va fd)) n (words_at (number_of (service.Read fd va len)) step.ReadingMode)) a
    read_finds_file =
        let reading = reading_device s n read fd refl stands h in
        device_goes_on s n read fd refl stands h order step.ReadingMode refl refl (record {
          is_in = in_with_words (words_at (number_of read) step.ReadingMode) reading.is_in;
          below = reading.below;
          file = device_is_file s n read fd refl stands h word;
        })

  module _ (va : ℕ) (stands : place_of (slot_at s n) ≡ place.InService (service.Stat fd va) step.ReadingDevice) where
    abbrev stat : Service
    stat = service.Stat fd va

    pub stat_file_outside : is_buffer va STAT_SIZE ≡ false → GoesOn n (service_answered (loaded s n (device_va fd)) n (negated E_INVAL)) a []
    stat_file_outside outside =
        let found = device_file s n stat fd refl stands h word in
        device_answers s n stat fd refl stands h order (negated E_INVAL)
        (stat_outside fd va found.0 outside a n _ (slot_at s n).registers found.1)

    pub stat_finds_file : is_buffer va STAT_SIZE ≡ true →
        StandsFor names (with_extra (loaded s n (device_va fd)) n (words_at (number_of (service.Stat fd va)) step.TakingPage)) a
    stat_finds_file inside =
        let reading = reading_device s n stat fd refl stands h in
        device_goes_on s n stat fd refl stands h order step.TakingPage refl refl (record {
          stage = entered;
          of_file = record {
            is_in = in_with_words (words_at (number_of stat) step.TakingPage) reading.is_in;
            below = reading.below;
            file = device_is_file s n stat fd refl stands h word;
          };
          allowed = inside;
          has = refl;
        })

-- ---- the mode

module _ (s : KernelState) (n fd va len : ℕ) (stands : place_of (slot_at s n) ≡ place.InService (service.Read fd va len) step.ReadingMode)
    {names : Names} {a : AbstractState} (h : StandsFor names s a) where
  abbrev call : Service
  call = service.Read fd va len

  abbrev space : View
  space = view_of s.spaces (slot_at s n).directory

  v : IsServed names s a n (service.Read fd va len) step.ReadingMode
  v = served h n (service.Read fd va len) step.ReadingMode stands

  it : IsOfFile space (slot_at s n) v.b (service.Read fd va len) fd
  it = v.at

  mode_is : told_word s n fd FD_MODE ≡ word_at (slice_index (s.spaces.pages it.file.entry.frame)) FD_MODE
  mode_is = ap (λ (o : Option Entry). told_at s.spaces.pages o FD_MODE) it.file.stands

  pub read_mode_gives : load s n (mode_va fd) ≡ read_at s n (mode_va fd) (told_word s n fd FD_MODE)
  read_mode_gives =
      word_there h n v.b v.is (ap borne_in stands) (ap is_making_pipe stands) (seen_calm h n v.b v.is (ap is_calm stands)) fd it.below
      it.file.entry it.file.stands FD_MODE refl (omega arith)
      ∙ ap (read_at s n (mode_va fd)) (sym mode_is)

  named : NamesFile s a v.b fd it.file.entry
  named = names_file h n v.b v.is (ap borne_in stands) (ap is_making_pipe stands) (seen_calm h n v.b v.is (ap is_calm stands)) fd it.below it.file

  object : object_of a v.b fd ≡ Some (file named.f)
  object = ap (option_map a.objects) named.named ∙ ap (λ (o : Object). Some o) named.is

  module _ (order : IsInOrder (loaded s n (mode_va fd))) where
    pub read_mode_refuses : told_word s n fd FD_MODE ≡ 1 → GoesOn n (service_answered (loaded s n (mode_va fd)) n (negated E_INVAL)) a []
    read_mode_refuses one =
        look_answers h n call step.ReadingMode v refl refl refl (mode_va fd) order it.is_in (negated E_INVAL)
        (read_for_writing fd va len named.f (sym named.told.mode ∙ sym mode_is ∙ one) a n v.b (slot_at s n).registers object)

    pub read_buffer_outside : told_word s n fd FD_MODE ≢ 1 → is_buffer va (wanted_of len) ≡ false →
        GoesOn n (service_answered (loaded s n (mode_va fd)) n (negated E_INVAL)) a []
    read_buffer_outside mode outside =
        look_answers h n call step.ReadingMode v refl refl refl (mode_va fd) order it.is_in (negated E_INVAL)
        (read_outside fd va len named.f (λ one. mode (mode_is ∙ named.told.mode ∙ one)) outside a n v.b (slot_at s n).registers object)

    pub read_mode_goes_on : told_word s n fd FD_MODE ≢ 1 → is_buffer va (wanted_of len) ≡ true →
        StandsFor names (with_extra (loaded s n (mode_va fd)) n (words_at (number_of (service.Read fd va len)) step.TakingPage)) a
    read_mode_goes_on mode inside =
        read_goes_on h n call step.ReadingMode v refl refl (mode_va fd) order step.TakingPage refl refl refl (record {
          stage = entered;
          of_file = of_file_moved space (slot_at s n) v.b (words_at (number_of call) step.TakingPage) call fd it;
          allowed = ((λ one. mode (mode_is ∙ one)), inside);
          has = refl;
        })
