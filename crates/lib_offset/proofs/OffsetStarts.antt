-- The law of seek and set_size until their page tells the request: what their descriptor names, the mode and the number of its file, the page
-- that they take, and the words that they put there.
use Rattle.std.proofs.Common.{◌≡◌, ◌==◌, ◌+◌, ◌-◌, ◌<◌, ◌^◌, ℕ, Bool, true, false, not, [], ◌∷◌, refl, ap, subst, arith}
use Rattle.std.proofs.Common.{if◌then◌else◌}
use Rattle.std.specs.Prelude.{nat_lt}
use Rattle.std.proofs.Math.Nat.{min-le_right}
use Rattle.std.proofs.lemmas.Bool.{false≢true}
use Rattle.std.proofs.lemmas.Bool.Decides.{nat_tests}
use Rattle.jos_base.specs.declared.called.Called.{Called}
use Rattle.jos_base.specs.declared.numbers.TheConstants.{E_INVAL, E_NOT_SUPP, PGSIZE, SYS_PAGE_ALLOC, UTEMP}
use Rattle.jos_base.specs.Environments.{Slot, is_live}
use Rattle.jos_base.specs.KernelState.{KernelState, slot_at}
use Rattle.jos_base.specs.Words.{negated}
use Rattle.lib_os.specs.declared.numbers.TheConstants.{DEVICE_FILE, FD_FILE, FD_MODE, OFFSET_MAX, REQUEST_BYTES, REQUEST_COUNT, REQUEST_FILE, TRANSFER_MAX}
use Rattle.lib_os.specs.declared.place.Place.TheVariants as place
use Rattle.lib_os.specs.declared.place.Step.{Step}
use Rattle.lib_os.specs.declared.place.Step.TheVariants as step
use Rattle.lib_os.specs.declared.service.Service.{Service}
use Rattle.lib_os.specs.declared.service.Service.TheVariants as service
use Rattle.lib_os.specs.AbstractState.{AbstractState}
use Rattle.lib_os.specs.InOrder.{IsInOrder}
use Rattle.lib_os.specs.LibrarySteps.{frames_at}
use Rattle.lib_os.specs.Places.{place_of}
use Rattle.lib_os.specs.Rows.{Names}
use Rattle.lib_os.specs.Services.{named_service, service_of}
use Rattle.lib_os.specs.StandsFor.{StandsFor, count_given}
use Rattle.lib_os.specs.StandsInHandler.{AreSmall}
use Rattle.lib_os.specs.UserCalls.{CallStep, answer_of}
use Rattle.lib_os.proofs.DeviceLooks.{device_va, device_word}
use Rattle.lib_os.proofs.FileAsks.{asks_at_once, asks_of_file, at_once_of_file, file_given, of_file_with_page}
use Rattle.lib_os.proofs.FileReads.{mode_gives, mode_goes_on, mode_refuses, mode_va, number_gives, number_goes_on, number_va, seek_goes_on}
use Rattle.lib_os.proofs.FileReads.{seek_refuses_console, seek_refuses_far, set_size_goes_on, set_size_refuses_console, told_word}
use Rattle.lib_os.proofs.FileStored.{count_stored, number_stored}
use Rattle.lib_os.proofs.FileTaken.{file_taking_keeps}
use Rattle.lib_os.proofs.Loading.{loaded}
use Rattle.lib_os.proofs.Numbered.{named_at}
use Rattle.lib_os.proofs.PageTaken.{take_holds, take_lives, working_perm}
use Rattle.lib_os.proofs.PathTaken.{path_untaken_keeps}
use Rattle.lib_os.proofs.PipeBegun.{seek_unsupported, set_size_unsupported}
use Rattle.lib_os.proofs.RequestPages.{asks_with_page}
use Rattle.lib_stage.specs.declared.ask.Ask.TheVariants as ask
use Rattle.lib_stage.specs.declared.ask.Next.{Next}
use Rattle.lib_stage.specs.declared.ask.Next.TheVariants as next
use Rattle.lib_stage.specs.ServiceSteps.{Plan, ServiceHolds}
use Rattle.lib_stage.proofs.Laws.{Falls, IsAt, KeepsBy, law_of_call, plainly}
use Rattle.lib_file.specs.Finding.{device_asked}
use Rattle.lib_file.proofs.Finds.{Follows, device_holds_each, is_steady, load_holds, staged}
use Rattle.lib_request.proofs.PageAsks.{steady}
use Rattle.lib_request.proofs.StoringLaw.{storing_holds}
use Rattle.lib_offset.specs.declared.offset.OffsetService.TheVariants as of
use Rattle.lib_offset.specs.OffsetStages.{next_of_device, next_of_mode, next_of_taking}

-- ---- what its descriptor names

device_falls : (call : Service) (t : Bool) (x : Next) → Falls call step.ReadingDevice x →
    Falls call step.ReadingDevice (if t then next.Answer (negated E_NOT_SUPP) else x)
device_falls call true x falls = tt
device_falls call false x falls = falls

module _ (s : KernelState) (n fd : ℕ) (live : is_live (slot_at s n) ≡ true) where
  module _ (offset : ℕ) (stands : place_of (slot_at s n) ≡ place.InService (service.Seek fd offset) step.ReadingDevice) where
    abbrev seek : Service
    seek = service.Seek fd offset

    near_falls : (t : Bool) → Falls seek step.ReadingDevice (if t then next.Answer (negated E_INVAL) else next.GoOn step.TakingPage)
    near_falls true = tt
    near_falls false = omega arith

    of_file : (names : Names) (a : AbstractState) → StandsFor names s a → IsInOrder (loaded s n (device_va fd)) → device_word s n fd ≡ DEVICE_FILE → (t : Bool) →
        nat_lt OFFSET_MAX offset ≡ t →
        Follows (loaded s n (device_va fd)) n seek a (if t then next.Answer (negated E_INVAL) else next.GoOn step.TakingPage)
    of_file names a h order word true far = seek_refuses_far s n fd h order offset stands word (grind (arith, nat_tests, far))
    of_file names a h order word false near =
        (refl, (names, seek_goes_on s n fd h order offset stands word (grind (arith, nat_tests, near))))

    pub seek_device_holds : ServiceHolds s n (staged (service.Seek fd offset) (device_asked fd) (next_of_device (of.Seek offset)))
    seek_device_holds =
        device_holds_each s n seek fd refl live stands (next_of_device (of.Seek offset))
        (λ word. device_falls seek (not (word == DEVICE_FILE))
        (if nat_lt OFFSET_MAX offset then next.Answer (negated E_INVAL) else next.GoOn step.TakingPage) (near_falls (nat_lt OFFSET_MAX offset)))
        (λ names a h order word. seek_refuses_console s n fd h order offset stands word)
        (λ names a h order word. of_file names a h order word (nat_lt OFFSET_MAX offset) refl)
        (λ names a h order word. seek_unsupported s n fd h word order offset stands)

  module _ (size : ℕ) where
    abbrev set_size : Service
    set_size = service.SetSize fd size

    pub set_size_device_holds : place_of (slot_at s n) ≡ place.InService (service.SetSize fd size) step.ReadingDevice →
        ServiceHolds s n (staged (service.SetSize fd size) (device_asked fd) (next_of_device (of.SetSize size)))
    set_size_device_holds stands =
        device_holds_each s n set_size fd refl live stands (next_of_device (of.SetSize size))
        (λ word. device_falls set_size (not (word == DEVICE_FILE)) (next.GoOn step.ReadingMode) (omega arith))
        (λ names a h order word. set_size_refuses_console s n fd h order size stands word)
        (λ names a h order word. (refl, (names, set_size_goes_on s n fd h order size stands word)))
        (λ names a h order word. set_size_unsupported s n fd h word order size stands)

    -- ---- the mode

    module _ (stands : place_of (slot_at s n) ≡ place.InService (service.SetSize fd size) step.ReadingMode) where
      mode_falls : (word : ℕ) → Falls set_size step.ReadingMode (next_of_mode word)
      mode_falls word = by_test (word == 0)
        where
          by_test : (t : Bool) → Falls set_size step.ReadingMode (if t then next.Answer (negated E_INVAL) else next.GoOn step.TakingPage)
          by_test true = tt
          by_test false = omega arith

      mode_follows : (names : Names) (a : AbstractState) → StandsFor names s a → IsInOrder (loaded s n (mode_va fd)) →
          Follows (loaded s n (mode_va fd)) n set_size a (next_of_mode (told_word s n fd FD_MODE))
      mode_follows names a h order = by_test (told_word s n fd FD_MODE == 0) refl
        where
          by_test : (t : Bool) → (told_word s n fd FD_MODE == 0) ≡ t →
              Follows (loaded s n (mode_va fd)) n set_size a (if t then next.Answer (negated E_INVAL) else next.GoOn step.TakingPage)
          by_test true none = mode_refuses s n fd size stands h order (grind (arith, nat_tests, none))
          by_test false some = (refl, (names, mode_goes_on s n fd size stands h order (grind (arith, nat_tests, some))))

      pub mode_holds : ServiceHolds s n (staged (service.SetSize fd size) (ask.Load (mode_va fd)) next_of_mode)
      mode_holds =
          load_holds s n set_size step.ReadingMode live (is_steady set_size fd refl step.ReadingMode refl) stands (mode_va fd)
          (told_word s n fd FD_MODE) next_of_mode mode_falls (λ names a h. mode_gives s n fd size stands h) mode_follows

-- ---- its page

taking_frames : (call : Service) → asks_at_once call ≡ true → frames_at (place.InService call step.TakingPage) ≡ 2
taking_frames (service.Seek fd offset) is = refl
taking_frames (service.SetSize fd size) is = refl
taking_frames (service.Read fd va len) is = refl
taking_frames (service.Stat fd va) is = refl
taking_frames _ is = absurd (false≢true is)

-- what goes with its request is a word: one of its registers, or how many bytes it takes
count_small : (k : Slot) (call : Service) → asks_of_file call ≡ true → (at : Step) → place_of k ≡ place.InService call at → AreSmall k.registers →
    count_given call < 2 ^ 32
unfolding service_of named_service
count_small k (service.Seek fd offset) is at stands small =
    subst (λ (w : ℕ). w < 2 ^ 32) (ap (λ (x : Service). count_given x) (named_at k (service.Seek fd offset) at stands)) small.ecx
count_small k (service.SetSize fd size) is at stands small =
    subst (λ (w : ℕ). w < 2 ^ 32) (ap (λ (x : Service). count_given x) (named_at k (service.SetSize fd size) at stands)) small.ecx
count_small k (service.Write fd va len) is at stands small =
    let most = min-le_right len (PGSIZE - REQUEST_BYTES) in omega (arith, most)
count_small k (service.Read fd va len) is at stands small = let most = min-le_right len TRANSFER_MAX in omega (arith, most)
count_small k (service.Stat fd va) is at stands small = omega arith
count_small k _ is at stands small = absurd (false≢true is)

module _ (s : KernelState) (n : ℕ) (call : Service) (once : asks_at_once call ≡ true) (live : is_live (slot_at s n) ≡ true) where
  with_page : asks_with_page call ≡ true
  with_page = of_file_with_page call (at_once_of_file call once)

  module _ (stands : place_of (slot_at s n) ≡ place.InService call step.TakingPage) where
    abbrev taking : Plan
    taking = staged call (ask.System SYS_PAGE_ALLOC (0 ∷ UTEMP ∷ working_perm ∷ 0 ∷ 0 ∷ [])) next_of_taking

    taking_falls : (called : Called) → Falls call step.TakingPage (taking.next called)
    taking_falls called = by_test (answer_of called == 0)
      where
        by_test : (t : Bool) → Falls call step.TakingPage (if not t then next.Answer (answer_of called) else next.GoOn step.ReadingNumber)
        by_test true = omega arith
        by_test false = tt

    taking_at : IsAt s n taking call step.TakingPage
    taking_at = record {
      stands = stands;
      live = live;
      numbered = refl;
      plain = plainly refl;
      goes_on = steady call with_page step.TakingPage refl;
      falls = taking_falls;
      few = let frames = taking_frames call once in omega (arith, frames);
    }

    pub taking_holds : ServiceHolds s n (staged call (ask.System SYS_PAGE_ALLOC (0 ∷ UTEMP ∷ working_perm ∷ 0 ∷ 0 ∷ [])) next_of_taking)
    taking_holds =
        law_of_call s n taking call step.TakingPage taking_at SYS_PAGE_ALLOC (0 ∷ UTEMP ∷ working_perm ∷ 0 ∷ 0 ∷ []) refl refl
        (take_lives s n live)
        (take_holds s n live (λ (z : CallStep Called). IsInOrder z.state → KeepsBy s n taking z)
        (λ made order. file_taking_keeps s n call once stands made order) (λ order. path_untaken_keeps s n _))

module _ (s : KernelState) (n : ℕ) (call : Service) (is : asks_of_file call ≡ true) (live : is_live (slot_at s n) ≡ true) where
  asks_so : asks_with_page call ≡ true
  asks_so = of_file_with_page call is

  -- ---- the number, and what is put there

  pub number_holds : place_of (slot_at s n) ≡ place.InService call step.ReadingNumber →
      ServiceHolds s n (staged call (ask.Load (number_va (file_given call))) (λ word. next.GoOn (step.StoringNumber word)))
  number_holds stands =
      load_holds s n call step.ReadingNumber live (steady call asks_so step.ReadingNumber refl) stands (number_va (file_given call))
      (told_word s n (file_given call) FD_FILE) (λ word. next.GoOn (step.StoringNumber word)) (λ word. omega arith)
      (λ names a h. number_gives s n call is stands h) (λ names a h order. (refl, (names, number_goes_on s n call is stands h order)))

  pub storing_number_holds : (number : ℕ) → place_of (slot_at s n) ≡ place.InService call (step.StoringNumber number) →
      ServiceHolds s n (staged call (ask.Store (UTEMP + REQUEST_FILE) number) (λ done. next.GoOn step.StoringCount))
  storing_number_holds number stands =
      storing_holds s n call live (step.StoringNumber number) step.StoringCount REQUEST_FILE number refl stands
      (steady call asks_so (step.StoringNumber number) refl) (omega arith)
      (λ names a h. number_stored h n call is number stands)

  pub storing_count_holds : AreSmall (slot_at s n).registers → place_of (slot_at s n) ≡ place.InService call step.StoringCount →
      ServiceHolds s n (staged call (ask.Store (UTEMP + REQUEST_COUNT) (count_given call)) (λ done. next.GoOn step.Identifying))
  storing_count_holds small stands =
      storing_holds s n call live step.StoringCount step.Identifying REQUEST_COUNT (count_given call) refl stands
      (steady call asks_so step.StoringCount refl) (omega arith)
      (λ names a h. count_stored h n call is stands (count_small (slot_at s n) call is step.StoringCount stands small))
