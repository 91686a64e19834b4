-- write of a file: it reads that its descriptor names one, and the mode of that. Where the file is open only for reading, or the buffer lies outside
-- of the fence, the abstract system refuses it too.
use Rattle.std.proofs.Common.{◌≡◌, ◌≢◌, ◌∙◌, ◌==◌, ℕ, true, false, Option, Some, [], refl, sym, ap, arith}
use Rattle.std.specs.Prelude.{slice_index}
use Rattle.std.specs.Option.{option_map}
use Rattle.std.proofs.lemmas.Bool.Decides.{nat_tests}
use Rattle.jos_base.specs.declared.numbers.TheConstants.{E_INVAL}
use Rattle.jos_base.specs.declared.registers.Regs.{Regs}
use Rattle.jos_base.specs.KernelState.{KernelState, slot_at, with_extra}
use Rattle.jos_base.specs.Reach.{Entry}
use Rattle.jos_base.specs.Words.{negated, word_at}
use Rattle.lib_os.specs.declared.numbers.TheConstants.{DEVICE_FILE, FD_MODE, REQUEST_BYTES}
use Rattle.lib_os.specs.declared.place.Place.TheVariants as place
use Rattle.lib_os.specs.declared.place.Step.TheVariants as step
use Rattle.lib_os.specs.declared.service.Service.{Service}
use Rattle.lib_os.specs.declared.service.Service.TheVariants as service
use Rattle.lib_os.specs.AbstractState.{AbstractState, Born, Object, OpenFile, entered, file}
use Rattle.lib_os.specs.Answers.{refused}
use Rattle.lib_os.specs.Descriptors.{object_of}
use Rattle.lib_os.specs.Fence.{is_buffer}
use Rattle.lib_os.specs.InOrder.{IsInOrder}
use Rattle.lib_os.specs.LibraryCall.{library_step}
use Rattle.lib_os.specs.LibraryPages.{View}
use Rattle.lib_os.specs.LibrarySteps.{GoesOn, service_answered}
use Rattle.lib_os.specs.Places.{place_of, words_at}
use Rattle.lib_os.specs.Rows.{Names}
use Rattle.lib_os.specs.StandsFor.{IsOfFile, StandsFor, borne_in, view_of}
use Rattle.lib_os.specs.StandsInHandler.{in_file, wanted_from}
use Rattle.lib_os.specs.UserCalls.{load}
use Rattle.lib_os.proofs.DescriptorLooks.{read_goes_on, seen_calm}
use Rattle.lib_os.proofs.DeviceLooks.{NamesFile, device_goes_on, device_is_file, device_va, device_word, look_answers, names_file, reading_device}
use Rattle.lib_os.proofs.DeviceLooks.{word_there}
use Rattle.lib_os.proofs.FileReads.{mode_va, told_at, told_word}
use Rattle.lib_os.proofs.GoingOn.{in_with_words}
use Rattle.lib_os.proofs.Loading.{loaded}
use Rattle.lib_os.proofs.Logical.{is_making_pipe}
use Rattle.lib_os.proofs.Numbered.{number_of}
use Rattle.lib_os.proofs.PipesStand.{is_calm}
use Rattle.lib_os.proofs.Serving.{IsServed, served}
use Rattle.lib_os.proofs.WindowWords.{read_at}

-- ---- what the abstract system does

write_for_reading : (a : AbstractState) (n : ℕ) (b : Born) (regs : Regs) (fd va len : ℕ) (f : OpenFile) → object_of a b fd ≡ Some (file f) →
    f.mode ≡ 0 → library_step a n b regs (service.Write fd va len) entered ≡ Some (refused a n b regs E_INVAL)
unfolding library_step
write_for_reading a n b regs fd va len f is reads =
    let test : (f.mode == 0) ≡ true = grind (arith, nat_tests, reads) in rw (is, test) refl

write_outside : (a : AbstractState) (n : ℕ) (b : Born) (regs : Regs) (fd va len : ℕ) (f : OpenFile) → object_of a b fd ≡ Some (file f) →
    f.mode ≢ 0 → is_buffer va (wanted_from REQUEST_BYTES len) ≡ false →
    library_step a n b regs (service.Write fd va len) entered ≡ Some (refused a n b regs E_INVAL)
unfolding library_step
write_outside a n b regs fd va len f is mode outside =
    let test : (f.mode == 0) ≡ false = grind (arith, nat_tests, mode) in rw (is, test, outside) refl

-- ---- it has read what its descriptor names

pub write_file_goes_on : (s : KernelState) (n fd : ℕ) {names : Names} {a : AbstractState} → StandsFor names s a →
    IsInOrder (loaded s n (device_va fd)) → (va len : ℕ) → place_of (slot_at s n) ≡ place.InService (service.Write fd va len) step.ReadingDevice →
    device_word s n fd ≡ DEVICE_FILE →
    StandsFor names (with_extra (loaded s n (device_va fd)) n (words_at (number_of (service.Write fd va len)) step.ReadingMode)) a
write_file_goes_on s n fd h order va len stands word =
    let call : Service = service.Write fd va len in
    let reading = reading_device s n call fd refl stands h in
    device_goes_on s n call fd refl stands h order step.ReadingMode refl refl (record {
      is_in = in_with_words (words_at (number_of call) step.ReadingMode) reading.is_in;
      below = reading.below;
      file = device_is_file s n call fd refl stands h word;
    })

-- ---- the mode

module _ (s : KernelState) (n fd va len : ℕ) (stands : place_of (slot_at s n) ≡ place.InService (service.Write fd va len) step.ReadingMode)
    {names : Names} {a : AbstractState} (h : StandsFor names s a) where
  abbrev call : Service
  call = service.Write fd va len

  abbrev space : View
  space = view_of s.spaces (slot_at s n).directory

  v : IsServed names s a n (service.Write fd va len) step.ReadingMode
  v = served h n (service.Write fd va len) step.ReadingMode stands

  it : IsOfFile space (slot_at s n) v.b (service.Write fd va len) fd
  it = v.at

  mode_is : told_word s n fd FD_MODE ≡ word_at (slice_index (s.spaces.pages it.file.entry.frame)) FD_MODE
  mode_is = ap (λ (o : Option Entry). told_at s.spaces.pages o FD_MODE) it.file.stands

  pub write_mode_gives : load s n (mode_va fd) ≡ read_at s n (mode_va fd) (told_word s n fd FD_MODE)
  write_mode_gives =
      word_there h n v.b v.is (ap borne_in stands) (ap is_making_pipe stands) (seen_calm h n v.b v.is (ap is_calm stands)) fd it.below
      it.file.entry it.file.stands FD_MODE refl (omega arith)
      ∙ ap (read_at s n (mode_va fd)) (sym mode_is)

  named : NamesFile s a v.b fd it.file.entry
  named = names_file h n v.b v.is (ap borne_in stands) (ap is_making_pipe stands) (seen_calm h n v.b v.is (ap is_calm stands)) fd it.below it.file

  object : object_of a v.b fd ≡ Some (file named.f)
  object = ap (option_map a.objects) named.named ∙ ap (λ (o : Object). Some o) named.is

  pub write_mode_refuses : IsInOrder (loaded s n (mode_va fd)) → told_word s n fd FD_MODE ≡ 0 →
      GoesOn n (service_answered (loaded s n (mode_va fd)) n (negated E_INVAL)) a []
  write_mode_refuses order none =
      look_answers h n call step.ReadingMode v refl refl refl (mode_va fd) order it.is_in (negated E_INVAL)
      (write_for_reading a n v.b (slot_at s n).registers fd va len named.f object (sym named.told.mode ∙ sym mode_is ∙ none))

  pub write_buffer_refuses : IsInOrder (loaded s n (mode_va fd)) → told_word s n fd FD_MODE ≢ 0 →
      is_buffer va (wanted_from REQUEST_BYTES len) ≡ false → GoesOn n (service_answered (loaded s n (mode_va fd)) n (negated E_INVAL)) a []
  write_buffer_refuses order some outside =
      look_answers h n call step.ReadingMode v refl refl refl (mode_va fd) order it.is_in (negated E_INVAL)
      (write_outside a n v.b (slot_at s n).registers fd va len named.f object (λ none. some (mode_is ∙ named.told.mode ∙ none)) outside)

  pub write_mode_goes_on : IsInOrder (loaded s n (mode_va fd)) → told_word s n fd FD_MODE ≢ 0 →
      is_buffer va (wanted_from REQUEST_BYTES len) ≡ true →
      StandsFor names (with_extra (loaded s n (mode_va fd)) n (words_at (number_of (service.Write fd va len)) step.TakingRequest)) a
  write_mode_goes_on order some inside =
      read_goes_on h n call step.ReadingMode v refl refl (mode_va fd) order step.TakingRequest refl refl refl (
        in_with_words (words_at (number_of call) step.TakingRequest) it.is_in,
        record {
          below = it.below;
          begins = in_file refl (record { file = it.file; writable = λ none. some (mode_is ∙ none) });
          buffer = inside;
        },
      )
