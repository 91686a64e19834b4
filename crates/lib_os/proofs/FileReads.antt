-- seek and set_size read what their descriptor's page tells of its file: that it is one, for set_size its mode, and its number. Where what they
-- ask is refused the abstract system refuses it too.
use Rattle.std.proofs.Common.{◌≡◌, ◌≢◌, ◌∙◌, ◌+◌, ◌<◌, ◌≤◌, ◌==◌, ℕ, true, List, Option, Some, None, [], refl, sym, ap, arith}
use Rattle.std.specs.Prelude.{nat_lt, slice_index}
use Rattle.std.specs.Option.{option_map}
use Rattle.std.proofs.lemmas.Bool.Decides.{nat_tests}
use Rattle.jos_base.specs.declared.numbers.TheConstants.{E_INVAL, E_NOT_SUPP}
use Rattle.jos_base.specs.declared.registers.Regs.{Regs}
use Rattle.jos_base.specs.KernelState.{KernelState, slot_at, with_extra}
use Rattle.jos_base.specs.Reach.{Entry}
use Rattle.jos_base.specs.Words.{negated, word_at}
use Rattle.lib_os.specs.declared.numbers.TheConstants.{DEVICE_CONSOLE, DEVICE_FILE, FD_FILE, FD_MODE, OFFSET_MAX}
use Rattle.lib_os.specs.declared.place.Place.TheVariants as place
use Rattle.lib_os.specs.declared.place.Step.{Step}
use Rattle.lib_os.specs.declared.place.Step.TheVariants as step
use Rattle.lib_os.specs.declared.service.Service.{Service}
use Rattle.lib_os.specs.declared.service.Service.TheVariants as service
use Rattle.lib_os.specs.AbstractState.{AbstractState, Born, Object, OpenFile, entered, file, terminal}
use Rattle.lib_os.specs.Answers.{refused}
use Rattle.lib_os.specs.Descriptors.{object_of}
use Rattle.lib_os.specs.InOrder.{IsInOrder}
use Rattle.lib_os.specs.LibraryCall.{library_step}
use Rattle.lib_os.specs.LibraryPages.{View}
use Rattle.lib_os.specs.LibrarySteps.{GoesOn, service_answered}
use Rattle.lib_os.specs.Places.{place_of, words_at}
use Rattle.lib_os.specs.Rows.{Names, descriptor_page, rows_of}
use Rattle.lib_os.specs.StandsFor.{AsksOfFile, IsOfFile, StandsFor, borne_in, view_of}
use Rattle.lib_os.specs.UserCalls.{load}
use Rattle.lib_os.proofs.DescriptorLooks.{descriptor_va, read_goes_on, seen_calm}
use Rattle.lib_os.proofs.DeviceLooks.{NamesFile, device_answers, device_file, device_goes_on, device_is_file, device_object, device_va, device_word}
use Rattle.lib_os.proofs.DeviceLooks.{look_answers, names_file, reading_device, word_there}
use Rattle.lib_os.proofs.FileAsks.{asks_of_file, asks_with_words, file_given, number_storing, of_file_holds, of_file_moved, of_file_with_page}
use Rattle.lib_os.proofs.FileAsks.{reading_asks}
use Rattle.lib_os.proofs.GoingOn.{in_with_words}
use Rattle.lib_os.proofs.Loading.{loaded}
use Rattle.lib_os.proofs.Logical.{is_making_pipe}
use Rattle.lib_os.proofs.Numbered.{number_of}
use Rattle.lib_os.proofs.RequestPages.{request_unborne}
use Rattle.lib_os.proofs.PipesStand.{calm_unmade, is_calm}
use Rattle.lib_os.proofs.Serving.{IsServed, served}
use Rattle.lib_os.proofs.WindowWords.{read_at}

-- ---- the words of a descriptor's page

abbrev pub told_at : (ℕ → List ℕ) → Option Entry → ℕ → ℕ
told_at pages (Some x) o = word_at (slice_index (pages x.frame)) o
told_at pages None o = 0

-- the word of it at a place
abbrev pub told_word : KernelState → ℕ → ℕ → ℕ → ℕ
told_word s n fd o = told_at s.spaces.pages (rows_of s.spaces (slot_at s n).directory (descriptor_page fd)) o

-- where it stands
abbrev pub mode_va : ℕ → ℕ
mode_va fd = descriptor_va fd + FD_MODE

abbrev pub number_va : ℕ → ℕ
number_va fd = descriptor_va fd + FD_FILE

-- ---- what the abstract system does

abbrev Refuses : Service → ℕ → Object → ℕ → Type 0
Refuses call fd object error = (a : AbstractState) (n : ℕ) (b : Born) (regs : Regs) → object_of a b fd ≡ Some object →
    library_step a n b regs call entered ≡ Some (refused a n b regs error)

pub seek_of_console : (fd offset : ℕ) → Refuses (service.Seek fd offset) fd terminal E_NOT_SUPP
unfolding library_step
seek_of_console fd offset a n b regs is = rw is refl

pub set_size_of_console : (fd size : ℕ) → Refuses (service.SetSize fd size) fd terminal E_NOT_SUPP
unfolding library_step
set_size_of_console fd size a n b regs is = rw is refl

seek_too_far : (fd offset : ℕ) (f : OpenFile) → OFFSET_MAX < offset → Refuses (service.Seek fd offset) fd (file f) E_INVAL
unfolding library_step
seek_too_far fd offset f far a n b regs is =
    let test : nat_lt OFFSET_MAX offset ≡ true = grind (arith, nat_tests, far) in rw (is, test) refl

set_size_for_reading : (fd size : ℕ) (f : OpenFile) → f.mode ≡ 0 → Refuses (service.SetSize fd size) fd (file f) E_INVAL
unfolding library_step
set_size_for_reading fd size f reads a n b regs is =
    let test : (f.mode == 0) ≡ true = grind (arith, nat_tests, reads) in rw (is, test) refl

-- ---- it has read what its descriptor names

module _ (s : KernelState) (n fd : ℕ) {names : Names} {a : AbstractState} (h : StandsFor names s a)
    (order : IsInOrder (loaded s n (device_va fd))) where
  module _ (offset : ℕ) (stands : place_of (slot_at s n) ≡ place.InService (service.Seek fd offset) step.ReadingDevice) where
    abbrev seek : Service
    seek = service.Seek fd offset

    pub seek_refuses_console : device_word s n fd ≡ DEVICE_CONSOLE →
        GoesOn n (service_answered (loaded s n (device_va fd)) n (negated E_NOT_SUPP)) a []
    seek_refuses_console word =
        device_answers s n seek fd refl stands h order (negated E_NOT_SUPP)
        (seek_of_console fd offset a n _ (slot_at s n).registers (device_object s n seek fd refl stands h word))

    pub seek_refuses_far : device_word s n fd ≡ DEVICE_FILE → OFFSET_MAX < offset →
        GoesOn n (service_answered (loaded s n (device_va fd)) n (negated E_INVAL)) a []
    seek_refuses_far word far =
        let found = device_file s n seek fd refl stands h word in
        device_answers s n seek fd refl stands h order (negated E_INVAL)
        (seek_too_far fd offset found.0 far a n _ (slot_at s n).registers found.1)

    pub seek_goes_on : device_word s n fd ≡ DEVICE_FILE → offset ≤ OFFSET_MAX →
        StandsFor names (with_extra (loaded s n (device_va fd)) n (words_at (number_of (service.Seek fd offset)) step.TakingPage)) a
    seek_goes_on word near =
        let reading = reading_device s n seek fd refl stands h in
        device_goes_on s n seek fd refl stands h order step.TakingPage refl refl (record {
          stage = entered;
          of_file = record {
            is_in = in_with_words (words_at (number_of seek) step.TakingPage) reading.is_in;
            below = reading.below;
            file = device_is_file s n seek fd refl stands h word;
          };
          allowed = near;
          has = refl;
        })

  module _ (size : ℕ) (stands : place_of (slot_at s n) ≡ place.InService (service.SetSize fd size) step.ReadingDevice) where
    abbrev set_size : Service
    set_size = service.SetSize fd size

    pub set_size_refuses_console : device_word s n fd ≡ DEVICE_CONSOLE →
        GoesOn n (service_answered (loaded s n (device_va fd)) n (negated E_NOT_SUPP)) a []
    set_size_refuses_console word =
        device_answers s n set_size fd refl stands h order (negated E_NOT_SUPP)
        (set_size_of_console fd size a n _ (slot_at s n).registers (device_object s n set_size fd refl stands h word))

    pub set_size_goes_on : device_word s n fd ≡ DEVICE_FILE →
        StandsFor names (with_extra (loaded s n (device_va fd)) n (words_at (number_of (service.SetSize fd size)) step.ReadingMode)) a
    set_size_goes_on word =
        let reading = reading_device s n set_size fd refl stands h in
        device_goes_on s n set_size fd refl stands h order step.ReadingMode refl refl (record {
          is_in = in_with_words (words_at (number_of set_size) step.ReadingMode) reading.is_in;
          below = reading.below;
          file = device_is_file s n set_size fd refl stands h word;
        })

-- ---- the mode

module _ (s : KernelState) (n fd size : ℕ) (stands : place_of (slot_at s n) ≡ place.InService (service.SetSize fd size) step.ReadingMode)
    {names : Names} {a : AbstractState} (h : StandsFor names s a) where
  abbrev call : Service
  call = service.SetSize fd size

  abbrev space : View
  space = view_of s.spaces (slot_at s n).directory

  v : IsServed names s a n (service.SetSize fd size) step.ReadingMode
  v = served h n (service.SetSize fd size) step.ReadingMode stands

  it : IsOfFile space (slot_at s n) v.b (service.SetSize fd size) fd
  it = v.at

  mode_is : told_word s n fd FD_MODE ≡ word_at (slice_index (s.spaces.pages it.file.entry.frame)) FD_MODE
  mode_is = ap (λ (o : Option Entry). told_at s.spaces.pages o FD_MODE) it.file.stands

  pub mode_gives : load s n (mode_va fd) ≡ read_at s n (mode_va fd) (told_word s n fd FD_MODE)
  mode_gives =
      word_there h n v.b v.is (ap borne_in stands) (ap is_making_pipe stands) (seen_calm h n v.b v.is (ap is_calm stands)) fd it.below
      it.file.entry it.file.stands FD_MODE refl (omega arith)
      ∙ ap (read_at s n (mode_va fd)) (sym mode_is)

  named : NamesFile s a v.b fd it.file.entry
  named = names_file h n v.b v.is (ap borne_in stands) (ap is_making_pipe stands) (seen_calm h n v.b v.is (ap is_calm stands)) fd it.below it.file

  pub mode_refuses : IsInOrder (loaded s n (mode_va fd)) → told_word s n fd FD_MODE ≡ 0 →
      GoesOn n (service_answered (loaded s n (mode_va fd)) n (negated E_INVAL)) a []
  mode_refuses order none =
      look_answers h n call step.ReadingMode v refl refl refl (mode_va fd) order it.is_in (negated E_INVAL)
      (set_size_for_reading fd size named.f (sym named.told.mode ∙ sym mode_is ∙ none) a n v.b (slot_at s n).registers
      (ap (option_map a.objects) named.named ∙ ap (λ (o : Object). Some o) named.is))

  pub mode_goes_on : IsInOrder (loaded s n (mode_va fd)) → told_word s n fd FD_MODE ≢ 0 →
      StandsFor names (with_extra (loaded s n (mode_va fd)) n (words_at (number_of (service.SetSize fd size)) step.TakingPage)) a
  mode_goes_on order some =
      read_goes_on h n call step.ReadingMode v refl refl (mode_va fd) order step.TakingPage refl refl refl (record {
        stage = entered;
        of_file = of_file_moved space (slot_at s n) v.b (words_at (number_of call) step.TakingPage) call fd it;
        allowed = λ none. some (mode_is ∙ none);
        has = refl;
      })

-- ---- the number

module _ (s : KernelState) (n : ℕ) (call : Service) (is : asks_of_file call ≡ true)
    (stands : place_of (slot_at s n) ≡ place.InService call step.ReadingNumber) {names : Names} {a : AbstractState} (h : StandsFor names s a) where
  abbrev given : ℕ
  given = file_given call

  abbrev seen : View
  seen = view_of s.spaces (slot_at s n).directory

  at_number : IsServed names s a n call step.ReadingNumber
  at_number = served h n call step.ReadingNumber stands

  asks : AsksOfFile seen (slot_at s n) at_number.b call (file_given call)
  asks = reading_asks seen (slot_at s n) at_number.b call is at_number.at

  number_is : told_word s n given FD_FILE ≡ word_at (slice_index (s.spaces.pages asks.of_file.file.entry.frame)) FD_FILE
  number_is = ap (λ (o : Option Entry). told_at s.spaces.pages o FD_FILE) asks.of_file.file.stands

  unborne : (to : Step) → borne_in (place.InService call to) ≡ None
  unborne to = request_unborne call (of_file_with_page call is) to

  pub number_gives : load s n (number_va (file_given call)) ≡ read_at s n (number_va (file_given call)) (told_word s n (file_given call) FD_FILE)
  number_gives =
      word_there h n at_number.b at_number.is (ap borne_in stands ∙ unborne step.ReadingNumber)
      (calm_unmade (place_of (slot_at s n)) (ap is_calm stands)) (seen_calm h n at_number.b at_number.is (ap is_calm stands)) given
      asks.of_file.below asks.of_file.file.entry
      asks.of_file.file.stands FD_FILE refl (omega arith)
      ∙ ap (read_at s n (number_va given)) (sym number_is)

  pub number_goes_on : IsInOrder (loaded s n (number_va (file_given call))) →
      StandsFor names (with_extra (loaded s n (number_va (file_given call))) n
      (words_at (number_of call) (step.StoringNumber (told_word s n (file_given call) FD_FILE)))) a
  number_goes_on order =
      let to = step.StoringNumber (told_word s n given FD_FILE) in
      let words = words_at (number_of call) to in
      read_goes_on h n call step.ReadingNumber at_number (unborne step.ReadingNumber) refl (number_va given) order to (unborne to) refl
      (of_file_holds call is step.ReadingNumber refl ∙ sym (of_file_holds call is to refl))
      (number_storing seen (record (slot_at s n) { extra = words }) at_number.b call is (told_word s n given FD_FILE)
      (record { asks = asks_with_words seen (slot_at s n) at_number.b words call given asks; number_is = number_is }))
