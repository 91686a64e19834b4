-- What a service does that finds that its descriptor names an end of a pipe: read and write look whether it is the end that they need, stat waits for
-- the lock, and seek and set_size are not supported. What is refused there is refused in the abstract system too, and so are no bytes moved where none
-- are wanted.
-- (MIT 6.828, lab 5: lib/fd.c, read, write and fstat; lib/pipe.c.)
use Rattle.std.proofs.Common.{◌≡◌, ◌≢◌, ◌∙◌, ◌⊎◌, inl, inr, ◌+◌, ◌<◌, ◌==◌, ◌||◌, not, ℕ, zero, suc, Bool, true, false, List, [], None, Option, Some}
use Rattle.std.proofs.Common.{refl, sym, ap, subst, arith}
use Rattle.std.specs.Prelude.{min, nat_lt}
use Rattle.std.specs.Option.{option_map}
use Rattle.std.proofs.lemmas.Bool.Decides.{nat_tests}
use Rattle.std.proofs.lemmas.Option.{same_Some}
use Rattle.jos_base.specs.declared.numbers.TheConstants.{E_INVAL, E_NOT_SUPP}
use Rattle.jos_base.specs.declared.registers.Regs.{Regs}
use Rattle.jos_base.specs.KernelState.{KernelState, slot_at, with_extra}
use Rattle.jos_base.specs.Reach.{Entry}
use Rattle.jos_base.specs.Words.{negated}
use Rattle.lib_os.specs.declared.numbers.TheConstants.{DESCRIPTORS, DEVICE_PIPE, FD_MODE, STAT_SIZE, TRANSFER_MAX}
use Rattle.lib_os.specs.declared.place.PipeStep.TheVariants as pipe
use Rattle.lib_os.specs.declared.place.Place.TheVariants as place
use Rattle.lib_os.specs.declared.place.Step.TheVariants as step
use Rattle.lib_os.specs.declared.service.Service.{Service}
use Rattle.lib_os.specs.declared.service.Service.TheVariants as service
use Rattle.lib_os.specs.AbstractPipes.{read_over}
use Rattle.lib_os.specs.AbstractState.{AbstractState, Born, Object, entered, read_end, write_end}
use Rattle.lib_os.specs.Answers.{answered, refused}
use Rattle.lib_os.specs.DescriptorPages.{HasObject, Things, mode_of}
use Rattle.lib_os.specs.Descriptors.{object_of}
use Rattle.lib_os.specs.Fence.{is_buffer}
use Rattle.lib_os.specs.FileServices.{read_begun, seek_begun, set_size_begun, stat_begun, write_begun}
use Rattle.lib_os.specs.InOrder.{IsInOrder}
use Rattle.lib_os.specs.LibraryCall.{library_step}
use Rattle.lib_os.specs.LibrarySteps.{GoesOn, service_answered}
use Rattle.lib_os.specs.Places.{place_of, words_at}
use Rattle.lib_os.specs.Rows.{Names, descriptor_page, rows_of}
use Rattle.lib_os.specs.StandsAtPipe.{IsAtEnd}
use Rattle.lib_os.specs.StandsFor.{StandsFor, borne_in, descriptor_given, things_in, view_of}
use Rattle.lib_os.specs.StandsInHandler.{IsEndOpen, wanted_of}
use Rattle.lib_os.specs.UserCalls.{load}
use Rattle.lib_os.proofs.DescriptorLooks.{SeesDescriptors, descriptor_va, object_is, seen_calm}
use Rattle.lib_os.proofs.DeviceLooks.{NamesEnd, at_device, device_answers, device_end, device_goes_on, device_va}
use Rattle.lib_os.proofs.DeviceLooks.{device_word, end_object, given_unborne}
use Rattle.lib_os.proofs.DeviceLooks.{look_answers, names_end, reading_device, shows, word_there}
use Rattle.lib_os.proofs.GoingOn.{in_with_words}
use Rattle.lib_os.proofs.Loading.{loaded}
use Rattle.lib_os.proofs.Logical.{is_making_pipe}
use Rattle.lib_os.proofs.Numbered.{number_of}
use Rattle.lib_os.proofs.PipeBytes.{read_all}
use Rattle.lib_os.proofs.PipeLoaded.{bytes_at, piped_goes_on}
use Rattle.lib_os.proofs.PipesStand.{calm_unmade, is_calm}
use Rattle.lib_os.proofs.Serving.{IsServed, served}
use Rattle.lib_os.proofs.WindowWords.{read_at}

not_so : (c : Bool) → not c ≡ true → c ≡ false
not_so false is = refl
not_so true is = absurd (let contradiction : false ≡ true = is in cc)

neither : (c d : Bool) → c || not d ≡ false → d ≡ true
neither false true is = refl
neither false false is = absurd (let contradiction : true ≡ false = is in cc)
neither true d is = absurd (let contradiction : true ≡ false = is in cc)

-- ---- the services in the abstract system, on an end of a pipe

module _ (a : AbstractState) (n : ℕ) (b : Born) (regs : Regs) (fd : ℕ) where
  seek_refuses : (offset mode name : ℕ) → object_of a b fd ≡ Some (end_object mode name) →
      library_step a n b regs (service.Seek fd offset) entered ≡ Some (refused a n b regs E_NOT_SUPP)
  unfolding library_step
  seek_refuses offset zero name is = ap (seek_begun a n b regs (service.Seek fd offset) fd offset) is
  seek_refuses offset (suc mode) name is = ap (seek_begun a n b regs (service.Seek fd offset) fd offset) is

  set_size_refuses : (size mode name : ℕ) → object_of a b fd ≡ Some (end_object mode name) →
      library_step a n b regs (service.SetSize fd size) entered ≡ Some (refused a n b regs E_NOT_SUPP)
  unfolding library_step
  set_size_refuses size zero name is = ap (set_size_begun a n b regs (service.SetSize fd size) size) is
  set_size_refuses size (suc mode) name is = ap (set_size_begun a n b regs (service.SetSize fd size) size) is

  stat_refuses : (va mode name : ℕ) → object_of a b fd ≡ Some (end_object mode name) → is_buffer va STAT_SIZE ≡ false →
      library_step a n b regs (service.Stat fd va) entered ≡ Some (refused a n b regs E_INVAL)
  unfolding library_step
  stat_refuses va mode name is off = ap (stat_begun a n b regs (service.Stat fd va) va) is ∙ rw off refl

  module _ (va len : ℕ) where
    read_refuses : (mode name : ℕ) → object_of a b fd ≡ Some (end_object mode name) → (mode == 1) || not (is_buffer va (wanted_of len)) ≡ true →
        library_step a n b regs (service.Read fd va len) entered ≡ Some (refused a n b regs E_INVAL)
    unfolding library_step
    read_refuses zero name is test =
        let off : is_buffer va (min len TRANSFER_MAX) ≡ false = not_so (is_buffer va (min len TRANSFER_MAX)) test in
        ap (read_begun a n b regs (service.Read fd va len) fd va len) is ∙ rw off refl
    read_refuses (suc mode) name is test = ap (read_begun a n b regs (service.Read fd va len) fd va len) is

    none_wanted : (name wanted : ℕ) → wanted ≡ 0 →
        read_over a n b regs (service.Read fd va len) va name wanted [] ≡ Some (answered a n b regs 0)
    none_wanted name wanted none = let test : (wanted == 0) ≡ true = grind (arith, nat_tests) in rw test refl

    read_none_wanted : (name : ℕ) → object_of a b fd ≡ Some (read_end name) → is_buffer va (wanted_of len) ≡ true → wanted_of len ≡ 0 →
        library_step a n b regs (service.Read fd va len) entered ≡ Some (answered a n b regs 0)
    unfolding library_step
    read_none_wanted name is buffer none =
        ap (read_begun a n b regs (service.Read fd va len) fd va len) is
        ∙ rw buffer (read_all a n b regs (service.Read fd va len) name va (min len TRANSFER_MAX) [] (sym none)
        ∙ none_wanted name (min len TRANSFER_MAX) none)

    write_refuses : (mode name : ℕ) → object_of a b fd ≡ Some (end_object mode name) → (mode == 0) || not (is_buffer va (wanted_of len)) ≡ true →
        library_step a n b regs (service.Write fd va len) entered ≡ Some (refused a n b regs E_INVAL)
    unfolding library_step
    write_refuses zero name is test = ap (write_begun a n b regs (service.Write fd va len) fd va len) is
    write_refuses (suc mode) name is test =
        let some : (suc mode == 0) ≡ false = grind (arith, nat_tests) in
        let off : is_buffer va (min len TRANSFER_MAX) ≡ false =
        not_so (is_buffer va (min len TRANSFER_MAX)) (sym (ap (λ (c : Bool). c || not (is_buffer va (min len TRANSFER_MAX))) some) ∙ test) in
        let there : object_of a b fd ≡ Some (write_end name) = is in
        ap (write_begun a n b regs (service.Write fd va len) fd va len) there ∙ rw off refl

    write_none_wanted : (name : ℕ) → object_of a b fd ≡ Some (write_end name) → is_buffer va (wanted_of len) ≡ true → wanted_of len ≡ 0 →
        library_step a n b regs (service.Write fd va len) entered ≡ Some (answered a n b regs 0)
    unfolding library_step
    write_none_wanted name is buffer none =
        let test : nat_lt 0 (min len TRANSFER_MAX) ≡ false = grind (arith, nat_tests) in
        ap (write_begun a n b regs (service.Write fd va len) fd va len) is ∙ rw (buffer, test) refl

-- ---- the device is a pipe

module _ (s : KernelState) (n : ℕ) (call : Service) (fd : ℕ) (given : descriptor_given call ≡ Some fd)
    (stands : place_of (slot_at s n) ≡ place.InService call step.ReadingDevice) {names : Names} {a : AbstractState} (h : StandsFor names s a)
    (word : device_word s n fd ≡ DEVICE_PIPE) where
  abbrev at : IsServed names s a n call step.ReadingDevice
  at = at_device s n call fd given stands h

  abbrev mode : ℕ
  mode = (device_end s n call fd given stands h word).0

  is_end : IsEndOpen (view_of s.spaces (slot_at s n).directory) fd mode
  is_end = (device_end s n call fd given stands h word).1

  -- it names an end
  pub names_an_end : (mode : ℕ) × (name : ℕ) × (object_of a at.b fd ≡ Some (end_object mode name))
  names_an_end =
      let named = names_end h n at.b at.is (ap borne_in stands ∙ given_unborne call fd given step.ReadingDevice)
      (ap is_making_pipe stands ∙ calm_unmade (place.InService call step.ReadingDevice) refl) (seen_calm h n at.b at.is (ap is_calm stands)) fd
      (reading_device s n call fd given stands h).below mode is_end in
      (mode, named.pipe, ap (option_map a.objects) named.named ∙ ap (λ (o : Object). Some o) named.is)

module _ (s : KernelState) (n fd : ℕ) {names : Names} {a : AbstractState} (h : StandsFor names s a) (word : device_word s n fd ≡ DEVICE_PIPE)
    (order : IsInOrder (loaded s n (device_va fd))) where
  pub seek_unsupported : (offset : ℕ) → place_of (slot_at s n) ≡ place.InService (service.Seek fd offset) step.ReadingDevice →
      GoesOn n (service_answered (loaded s n (device_va fd)) n (negated E_NOT_SUPP)) a []
  seek_unsupported offset stands =
      let call : Service = service.Seek fd offset in
      let found = names_an_end s n call fd refl stands h word in
      device_answers s n call fd refl stands h order (negated E_NOT_SUPP)
      (seek_refuses a n (at_device s n call fd refl stands h).b (slot_at s n).registers fd offset found.0 found.1 found.2)

  pub set_size_unsupported : (size : ℕ) → place_of (slot_at s n) ≡ place.InService (service.SetSize fd size) step.ReadingDevice →
      GoesOn n (service_answered (loaded s n (device_va fd)) n (negated E_NOT_SUPP)) a []
  set_size_unsupported size stands =
      let call : Service = service.SetSize fd size in
      let found = names_an_end s n call fd refl stands h word in
      device_answers s n call fd refl stands h order (negated E_NOT_SUPP)
      (set_size_refuses a n (at_device s n call fd refl stands h).b (slot_at s n).registers fd size found.0 found.1 found.2)

  -- stat is refused by its buffer, or waits for the lock
  pub stat_refused : (va : ℕ) → place_of (slot_at s n) ≡ place.InService (service.Stat fd va) step.ReadingDevice → is_buffer va STAT_SIZE ≡ false →
      GoesOn n (service_answered (loaded s n (device_va fd)) n (negated E_INVAL)) a []
  stat_refused va stands off =
      let call : Service = service.Stat fd va in
      let found = names_an_end s n call fd refl stands h word in
      device_answers s n call fd refl stands h order (negated E_INVAL)
      (stat_refuses a n (at_device s n call fd refl stands h).b (slot_at s n).registers fd va found.0 found.1 found.2 off)

  pub stat_locks : (va : ℕ) → place_of (slot_at s n) ≡ place.InService (service.Stat fd va) step.ReadingDevice → is_buffer va STAT_SIZE ≡ true →
      StandsFor names (with_extra (loaded s n (device_va fd)) n (words_at (number_of (service.Stat fd va)) (step.Piped pipe.StatLocking))) a
  stat_locks va stands buffer =
      let call : Service = service.Stat fd va in
      let found = device_end s n call fd refl stands h word in
      let reads = reading_device s n call fd refl stands h in
      device_goes_on s n call fd refl stands h order (step.Piped pipe.StatLocking) refl refl (
        found.0,
        record {
          is_in = in_with_words (words_at (number_of call) (step.Piped pipe.StatLocking)) reads.is_in;
          below = reads.below;
          open_end = found.1;
          inside = buffer;
        },
      )

  -- read and write look which end it is
  pub read_looks : (va len : ℕ) → place_of (slot_at s n) ≡ place.InService (service.Read fd va len) step.ReadingDevice →
      StandsFor names (with_extra (loaded s n (device_va fd)) n (words_at (number_of (service.Read fd va len)) (step.Piped pipe.EndMode))) a
  read_looks va len stands =
      let call : Service = service.Read fd va len in
      let found = device_end s n call fd refl stands h word in
      let reads = reading_device s n call fd refl stands h in
      device_goes_on s n call fd refl stands h order (step.Piped pipe.EndMode) refl refl (
        found.0,
        record {
          is_in = in_with_words (words_at (number_of call) (step.Piped pipe.EndMode)) reads.is_in;
          below = reads.below;
          open_end = found.1;
        },
      )

  pub write_looks : (va len : ℕ) → place_of (slot_at s n) ≡ place.InService (service.Write fd va len) step.ReadingDevice →
      StandsFor names (with_extra (loaded s n (device_va fd)) n (words_at (number_of (service.Write fd va len)) (step.Piped pipe.EndMode))) a
  write_looks va len stands =
      let call : Service = service.Write fd va len in
      let found = device_end s n call fd refl stands h word in
      let reads = reading_device s n call fd refl stands h in
      device_goes_on s n call fd refl stands h order (step.Piped pipe.EndMode) refl refl (
        found.0,
        record {
          is_in = in_with_words (words_at (number_of call) (step.Piped pipe.EndMode)) reads.is_in;
          below = reads.below;
          open_end = found.1;
        },
      )

-- ---- which end it is

-- the mode of a descriptor's page, and where it stands
abbrev pub mode_word : KernelState → ℕ → ℕ → ℕ
mode_word s n fd = mode_of (bytes_at s.spaces.pages (rows_of s.spaces (slot_at s n).directory (descriptor_page fd)))

abbrev pub mode_va : ℕ → ℕ
mode_va fd = descriptor_va fd + FD_MODE

-- it is one of the two
mode_so : (things : Things) (name frame mode pipe : ℕ) (bytes : List ℕ) → HasObject things name frame (end_object mode pipe) bytes →
    mode_of bytes ≡ mode → (mode ≡ 0) ⊎ (mode ≡ 1)
mode_so things name frame zero pipe bytes has is = inl refl
mode_so things name frame (suc mode) pipe bytes has is = inr (sym is ∙ has.mode_is)

module _ (s : KernelState) (n : ℕ) (call : Service) (fd : ℕ) (given : descriptor_given call ≡ Some fd)
    (stands : place_of (slot_at s n) ≡ place.InService call (step.Piped pipe.EndMode)) {names : Names} {a : AbstractState} (h : StandsFor names s a)
    (below : fd < DESCRIPTORS) (mode_is : ℕ) (open_end : IsEndOpen (view_of s.spaces (slot_at s n).directory) fd mode_is) where
  abbrev v : IsServed names s a n call (step.Piped pipe.EndMode)
  v = served h n call (step.Piped pipe.EndMode) stands

  unborne : borne_in (place_of (slot_at s n)) ≡ None
  unborne = ap borne_in stands ∙ given_unborne call fd given (step.Piped pipe.EndMode)

  unmade : is_making_pipe (place_of (slot_at s n)) ≡ false
  unmade = ap is_making_pipe stands ∙ calm_unmade (place.InService call (step.Piped pipe.EndMode)) refl

  seen : SeesDescriptors names s n v.b
  seen = seen_calm h n v.b v.is (ap is_calm stands)

  word_is : mode_word s n fd ≡ mode_is
  word_is = ap (λ (o : Option Entry). mode_of (bytes_at s.spaces.pages o)) open_end.stands ∙ open_end.mode_is

  gives : load s n (mode_va fd) ≡ read_at s n (mode_va fd) (mode_word s n fd)
  gives =
      word_there h n v.b v.is unborne unmade seen fd below open_end.entry open_end.stands FD_MODE refl (omega arith)
      ∙ ap (λ (o : Option Entry). read_at s n (mode_va fd) (mode_of (bytes_at s.spaces.pages o))) (sym open_end.stands)

  named : NamesEnd names s a v.b fd mode_is open_end.entry open_end.page
  named = names_end h n v.b v.is unborne unmade seen fd below mode_is open_end

  object : object_of a v.b fd ≡ Some (end_object mode_is named.pipe)
  object = ap (option_map a.objects) named.named ∙ ap (λ (o : Object). Some o) named.is

  either : (mode_is ≡ 0) ⊎ (mode_is ≡ 1)
  either =
      let x = open_end.entry in
      let same : named.name ≡ names.name x.frame =
      same_Some named.name (names.name x.frame) (sym named.named ∙ object_is h n v.b v.is seen fd x below open_end.stands) in
      mode_so (things_in s a) (names.name x.frame) x.frame mode_is named.pipe (s.spaces.pages x.frame)
      (subst (λ (o : Object). HasObject (things_in s a) (names.name x.frame) x.frame o (s.spaces.pages x.frame)) (sym (ap a.objects same) ∙ named.is)
      (shows h n v.b v.is unborne unmade seen fd below x open_end.stands))
      open_end.mode_is

module _ (s : KernelState) (n fd va len : ℕ) where
  -- ---- read

  abbrev reading : Service
  reading = service.Read fd va len

  module _ (stands : place_of (slot_at s n) ≡ place.InService reading (step.Piped pipe.EndMode)) {names : Names} {a : AbstractState}
      (h : StandsFor names s a) where
    abbrev r : IsServed names s a n reading (step.Piped pipe.EndMode)
    r = served h n reading (step.Piped pipe.EndMode) stands

    abbrev it : IsAtEnd (view_of s.spaces (slot_at s n).directory) (slot_at s n) r.b reading r.at.0
    it = r.at.1

    same_mode : mode_word s n fd ≡ r.at.0
    same_mode = word_is s n reading fd refl stands h it.below r.at.0 it.open_end

    object_read : (name : ℕ) × (object_of a r.b fd ≡ Some (end_object r.at.0 name))
    object_read =
        ((named s n reading fd refl stands h it.below r.at.0 it.open_end).pipe, object s n reading fd refl stands h it.below r.at.0 it.open_end)

    pub read_mode_gives : load s n (mode_va fd) ≡ read_at s n (mode_va fd) (mode_word s n fd)
    read_mode_gives = gives s n reading fd refl stands h it.below r.at.0 it.open_end

    module _ (order : IsInOrder (loaded s n (mode_va fd))) where
      pub read_end_refuses : (mode_word s n fd == 1) || not (is_buffer va (wanted_of len)) ≡ true →
          GoesOn n (service_answered (loaded s n (mode_va fd)) n (negated E_INVAL)) a []
      read_end_refuses test =
          look_answers h n reading (step.Piped pipe.EndMode) r refl refl refl (mode_va fd) order it.is_in (negated E_INVAL)
          (read_refuses a n r.b (slot_at s n).registers fd va len r.at.0 object_read.0 object_read.1
          (subst (λ (m : ℕ). (m == 1) || not (is_buffer va (wanted_of len)) ≡ true) same_mode test))

      module _ (test : (mode_word s n fd == 1) || not (is_buffer va (wanted_of len)) ≡ false) where
        mode_zero : r.at.0 ≡ 0
        mode_zero = elim (either s n reading fd refl stands h it.below r.at.0 it.open_end) [
          | inl none ↦ none
          | inr one ↦
              absurd (let contradiction : true ≡ false = ap (λ (m : ℕ). (m == 1) || not (is_buffer va (wanted_of len))) (sym (same_mode ∙ one)) ∙ test in cc)
        ]

        buffer_read : is_buffer va (wanted_of len) ≡ true
        buffer_read = neither (mode_word s n fd == 1) (is_buffer va (wanted_of len)) test

        pub read_end_none : wanted_of len ≡ 0 → GoesOn n (service_answered (loaded s n (mode_va fd)) n 0) a []
        read_end_none none =
            look_answers h n reading (step.Piped pipe.EndMode) r refl refl refl (mode_va fd) order it.is_in 0
            (read_none_wanted a n r.b (slot_at s n).registers fd va len object_read.0
            (subst (λ (m : ℕ). object_of a r.b fd ≡ Some (end_object m object_read.0)) mode_zero object_read.1) buffer_read none)

        pub read_end_takes : wanted_of len ≢ 0 →
            StandsFor names (with_extra (loaded s n (mode_va fd)) n (words_at (number_of reading) (step.Piped pipe.TakingBytes))) a
        read_end_takes some =
            piped_goes_on h n reading fd refl pipe.EndMode r (mode_va fd) order pipe.TakingBytes refl refl (λ q. refl) (λ q. refl) (
              record {
                is_in = in_with_words (words_at (number_of reading) (step.Piped pipe.TakingBytes)) it.is_in;
                below = it.below;
                open_end = subst (λ (m : ℕ). IsEndOpen (view_of s.spaces (slot_at s n).directory) fd m) mode_zero it.open_end;
              },
              buffer_read,
              omega (arith, some),
            )

  -- ---- write

  abbrev writing : Service
  writing = service.Write fd va len

  module _ (stands : place_of (slot_at s n) ≡ place.InService writing (step.Piped pipe.EndMode)) {names : Names} {a : AbstractState}
      (h : StandsFor names s a) where
    abbrev w : IsServed names s a n writing (step.Piped pipe.EndMode)
    w = served h n writing (step.Piped pipe.EndMode) stands

    abbrev has : IsAtEnd (view_of s.spaces (slot_at s n).directory) (slot_at s n) w.b writing w.at.0
    has = w.at.1

    mode_same : mode_word s n fd ≡ w.at.0
    mode_same = word_is s n writing fd refl stands h has.below w.at.0 has.open_end

    object_written : (name : ℕ) × (object_of a w.b fd ≡ Some (end_object w.at.0 name))
    object_written =
        ((named s n writing fd refl stands h has.below w.at.0 has.open_end).pipe, object s n writing fd refl stands h has.below w.at.0 has.open_end)

    pub write_mode_gives : load s n (mode_va fd) ≡ read_at s n (mode_va fd) (mode_word s n fd)
    write_mode_gives = gives s n writing fd refl stands h has.below w.at.0 has.open_end

    module _ (order : IsInOrder (loaded s n (mode_va fd))) where
      pub write_end_refuses : (mode_word s n fd == 0) || not (is_buffer va (wanted_of len)) ≡ true →
          GoesOn n (service_answered (loaded s n (mode_va fd)) n (negated E_INVAL)) a []
      write_end_refuses test =
          look_answers h n writing (step.Piped pipe.EndMode) w refl refl refl (mode_va fd) order has.is_in (negated E_INVAL)
          (write_refuses a n w.b (slot_at s n).registers fd va len w.at.0 object_written.0 object_written.1
          (subst (λ (m : ℕ). (m == 0) || not (is_buffer va (wanted_of len)) ≡ true) mode_same test))

      module _ (test : (mode_word s n fd == 0) || not (is_buffer va (wanted_of len)) ≡ false) where
        mode_one : w.at.0 ≡ 1
        mode_one = elim (either s n writing fd refl stands h has.below w.at.0 has.open_end) [
          | inl none ↦
              absurd (let contradiction : true ≡ false = ap (λ (m : ℕ). (m == 0) || not (is_buffer va (wanted_of len))) (sym (mode_same ∙ none)) ∙ test in cc)
          | inr one ↦ one
        ]

        buffer_written : is_buffer va (wanted_of len) ≡ true
        buffer_written = neither (mode_word s n fd == 0) (is_buffer va (wanted_of len)) test

        pub write_end_none : wanted_of len ≡ 0 → GoesOn n (service_answered (loaded s n (mode_va fd)) n 0) a []
        write_end_none none =
            look_answers h n writing (step.Piped pipe.EndMode) w refl refl refl (mode_va fd) order has.is_in 0
            (write_none_wanted a n w.b (slot_at s n).registers fd va len object_written.0
            (subst (λ (m : ℕ). object_of a w.b fd ≡ Some (end_object m object_written.0)) mode_one object_written.1) buffer_written none)

        pub write_end_takes : wanted_of len ≢ 0 →
            StandsFor names (with_extra (loaded s n (mode_va fd)) n (words_at (number_of writing) (step.Piped pipe.TakingBytes))) a
        write_end_takes some =
            piped_goes_on h n writing fd refl pipe.EndMode w (mode_va fd) order pipe.TakingBytes refl refl (λ q. refl) (λ q. refl) (
              record {
                is_in = in_with_words (words_at (number_of writing) (step.Piped pipe.TakingBytes)) has.is_in;
                below = has.below;
                open_end = subst (λ (m : ℕ). IsEndOpen (view_of s.spaces (slot_at s n).directory) fd m) mode_one has.open_end;
              },
              buffer_written,
              omega (arith, some),
            )
