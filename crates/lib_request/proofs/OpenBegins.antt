-- The law of open_file beside what it has in common with remove: it refuses a mode that is none, finds the lowest descriptor that is free, puts the
-- mode into its page, waits for the reply at the page of that descriptor, and answers it.
use Rattle.std.proofs.Common.{◌≡◌, ◌+◌, ◌<◌, ◌||◌, ℕ, Bool, true, false, not, [], ◌∷◌, refl, sym, subst, arith, if◌then◌else◌}
use Rattle.std.specs.Prelude.{nat_lt}
use Rattle.std.proofs.lemmas.Bool.Decides.{nat_tests}
use Rattle.jos_base.specs.declared.called.Called.{Called}
use Rattle.jos_base.specs.declared.called.Called.TheVariants.{Answered}
use Rattle.jos_base.specs.declared.numbers.TheConstants.{E_INVAL, E_MAX_OPEN, FIRST_ENV_ID, SYS_GETENVID, SYS_IPC_RECV, SYS_PAGE_UNMAP, UTEMP}
use Rattle.jos_base.specs.Environments.{is_live, is_runnable, is_running}
use Rattle.jos_base.specs.KernelState.{KernelState, slot_at}
use Rattle.jos_base.specs.Words.{negated}
use Rattle.lib_os.specs.declared.numbers.TheConstants.{DESCRIPTORS, REQUEST_MODE}
use Rattle.lib_os.specs.declared.place.Place.TheVariants as place
use Rattle.lib_os.specs.declared.place.Step.TheVariants as step
use Rattle.lib_os.specs.declared.service.Service.{Service}
use Rattle.lib_os.specs.declared.service.Service.TheVariants as service
use Rattle.lib_os.specs.AbstractState.{AbstractState}
use Rattle.lib_os.specs.Fence.{is_inside}
use Rattle.lib_os.specs.FileServices.{is_mode}
use Rattle.lib_os.specs.InOrder.{IsInOrder}
use Rattle.lib_os.specs.LibrarySteps.{KeepsStanding}
use Rattle.lib_os.specs.Places.{place_of}
use Rattle.lib_os.specs.Rows.{Names}
use Rattle.lib_os.specs.StandsFor.{IsLookingForFree, StandsFor, opened_answer, view_of}
use Rattle.lib_os.specs.StandsInHandler.{AreSmall}
use Rattle.lib_os.specs.UserCalls.{CallStep, giving, load}
use Rattle.lib_os.proofs.Calls.{getenvid_is}
use Rattle.lib_os.proofs.DescriptorLooks.{descriptor_va, entry_va, page_gives, page_word, table_gives, table_va, table_word}
use Rattle.lib_os.proofs.Loading.{loaded}
use Rattle.lib_os.proofs.OpenAwaited.{open_awaiting_keeps, open_clearing_keeps, opened_so, opened_stands, opened_step, reading_served}
use Rattle.lib_os.proofs.OpenLooks.{free_entry_taken, free_entry_vacant, free_table_missing, free_table_there, full_keeps, open_mode_keeps}
use Rattle.lib_os.proofs.OpenStored.{mode_small, mode_stored}
use Rattle.lib_os.proofs.PageGiven.{give_is, give_lives}
use Rattle.lib_os.proofs.PathRefused.{path_enters, path_enters_not}
use Rattle.lib_os.proofs.ReplyRead.{reply_load}
use Rattle.lib_os.proofs.Serving.{printed_nothing, served}
use Rattle.lib_os.proofs.SlotsStand.{born_live}
use Rattle.lib_os.proofs.Trying.{LivesOn, recv_lives}
use Rattle.lib_os.proofs.WindowWords.{read_at}
use Rattle.lib_stage.specs.declared.ask.Ask.{Ask}
use Rattle.lib_stage.specs.declared.ask.Ask.TheVariants as ask
use Rattle.lib_stage.specs.declared.ask.Next.{Next}
use Rattle.lib_stage.specs.declared.ask.Next.TheVariants as next
use Rattle.lib_stage.specs.Asks.{no_args}
use Rattle.lib_stage.specs.Nexts.{seen_as, settled}
use Rattle.lib_stage.specs.ServiceSteps.{Plan, ServiceHolds}
use Rattle.lib_stage.proofs.Laws.{Falls, IsAt, KeepsBy, law_of_call, plainly, shown_keeps}
use Rattle.lib_fd.specs.DescriptorStages.{entry_asked, is_there, region_asked}
use Rattle.lib_file.proofs.Finds.{Follows, load_holds, staged}
use Rattle.lib_request.specs.OpenStages.{free_asked, next_of_free}
use Rattle.lib_request.specs.PageRequests.{clearing_asked, reply_asked_at}
use Rattle.lib_request.specs.Replies.{reply_place}
use Rattle.lib_request.proofs.StoringLaw.{storing_holds}

module _ (s : KernelState) (n path mode : ℕ) (live : is_live (slot_at s n) ≡ true) (small : AreSmall (slot_at s n).registers) where
  abbrev call : Service
  call = service.OpenFile path mode

  -- ---- the mode, and whether its path lies in the fence

  module _ (stands : place_of (slot_at s n) ≡ place.InService (service.OpenFile path mode) step.Entered) where
    abbrev entering_next : Bool → Bool → Next
    entering_next mode_is inside = if not mode_is || not inside then next.Answer (negated E_INVAL) else next.GoOn step.TakingPage

    abbrev entering : Plan
    entering = staged call (ask.System SYS_GETENVID no_args) (λ word. entering_next (is_mode mode) (is_inside path))

    entering_falls : (t u : Bool) → Falls call step.Entered (entering_next t u)
    entering_falls true true = omega arith
    entering_falls true false = tt
    entering_falls false u = tt

    entering_at : IsAt s n entering call step.Entered
    entering_at = record {
      stands = stands;
      live = live;
      numbered = refl;
      plain = plainly refl;
      goes_on = refl;
      falls = λ called. entering_falls (is_mode mode) (is_inside path);
      few = omega arith;
    }

    entering_keeps : KeepsBy s n entering (giving s (Answered (slot_at s n).id))
    entering_keeps = by_test (is_mode mode) (is_inside path) refl refl
      where
        by_test : (t u : Bool) → is_mode mode ≡ t → is_inside path ≡ u →
            let x = entering_next t u in KeepsStanding (seen_as x) n s (settled 10 x s n) []
        by_test true true mode_is inside = path_enters s n call mode_is stands inside
        by_test true false mode_is outside = path_enters_not s n call mode_is stands small outside
        by_test false u off inside = open_mode_keeps s n path mode stands off

    pub entering_holds : ServiceHolds s n (staged (service.OpenFile path mode) (ask.System SYS_GETENVID no_args)
        (λ word. if not (is_mode mode) || not (is_inside path) then next.Answer (negated E_INVAL) else next.GoOn step.TakingPage))
    entering_holds =
        law_of_call s n entering call step.Entered entering_at SYS_GETENVID no_args refl refl
        (subst (λ (z : CallStep Called). LivesOn z n (slot_at s n).registers) (sym (getenvid_is s n live no_args))
        (record { live = live; registers = refl; written = refl }))
        (λ order. subst (λ (z : CallStep Called). KeepsBy s n entering z) (sym (getenvid_is s n live no_args)) entering_keeps)

  -- ---- a free descriptor

  abbrev region_next : ℕ → Next
  region_next word = if not (is_there word) then next.GoOn (step.StoringMode 0) else next.GoOn (step.FreeEntry 0)

  module _ (stands : place_of (slot_at s n) ≡ place.InService (service.OpenFile path mode) step.FreeRegion) where
    region_falls : (t : Bool) → Falls call step.FreeRegion (if not t then next.GoOn (step.StoringMode 0) else next.GoOn (step.FreeEntry 0))
    region_falls true = omega arith
    region_falls false = omega arith

    region_follows : (names : Names) (a : AbstractState) → StandsFor names s a → IsInOrder (loaded s n table_va) →
        Follows (loaded s n table_va) n call a (region_next (table_word s n))
    region_follows names a h order = by_test (is_there (table_word s n)) refl
      where
        by_test : (t : Bool) → is_there (table_word s n) ≡ t →
            Follows (loaded s n table_va) n call a (if not t then next.GoOn (step.StoringMode 0) else next.GoOn (step.FreeEntry 0))
        by_test true told = (refl, (names, free_table_there h n path mode stands order told))
        by_test false told = (refl, (names, free_table_missing h n path mode stands order told))

    pub free_region_holds : ServiceHolds s n (staged (service.OpenFile path mode) region_asked
        (λ word. if not (is_there word) then next.GoOn (step.StoringMode 0) else next.GoOn (step.FreeEntry 0)))
    free_region_holds =
        load_holds s n call step.FreeRegion live refl stands table_va (table_word s n) region_next (λ word. region_falls (is_there word))
        (λ names a h. table_gives h n) region_follows

  module _ (fd : ℕ) (stands : place_of (slot_at s n) ≡ place.InService (service.OpenFile path mode) (step.FreeEntry fd)) where
    -- by whether it is a descriptor's number
    abbrev free_next : Bool → ℕ → Next
    free_next among word =
        if not among then next.Answer (negated E_MAX_OPEN)
        else if is_there word then next.GoOn (step.FreeEntry (fd + 1))
        else next.GoOn (step.StoringMode fd)

    abbrev free_ask : Bool → Ask
    free_ask among = if not among then clearing_asked else entry_asked fd

    entry_falls : fd < DESCRIPTORS → (t : Bool) →
        Falls call (step.FreeEntry fd) (if t then next.GoOn (step.FreeEntry (fd + 1)) else next.GoOn (step.StoringMode fd))
    entry_falls below true = omega (arith, below)
    entry_falls below false = omega arith

    entry_follows : (below : fd < DESCRIPTORS) (names : Names) (a : AbstractState) → StandsFor names s a → IsInOrder (loaded s n (entry_va fd)) →
        Follows (loaded s n (entry_va fd)) n call a (free_next true (page_word s n fd))
    entry_follows below names a h order = by_test (is_there (page_word s n fd)) refl
      where
        by_test : (t : Bool) → is_there (page_word s n fd) ≡ t →
            Follows (loaded s n (entry_va fd)) n call a (if t then next.GoOn (step.FreeEntry (fd + 1)) else next.GoOn (step.StoringMode fd))
        by_test true told = (refl, (names, free_entry_taken h n path mode fd below stands order told))
        by_test false told = (refl, (names, free_entry_vacant h n path mode fd below stands order told))

    full_at : IsAt s n (staged call clearing_asked (free_next false)) call (step.FreeEntry fd)
    full_at = record {
      stands = stands;
      live = live;
      numbered = refl;
      plain = plainly refl;
      goes_on = refl;
      falls = λ called. tt;
      few = omega arith;
    }

    free_by : (among : Bool) → nat_lt fd DESCRIPTORS ≡ among → ServiceHolds s n (staged call (free_ask among) (free_next among))
    free_by true test =
        let below : fd < DESCRIPTORS = grind (arith, nat_tests, test) in
        load_holds s n call (step.FreeEntry fd) live refl stands (entry_va fd) (page_word s n fd) (free_next true)
        (λ word. entry_falls below (is_there word))
        (λ names a h. page_gives h n fd below
        (let it : IsLookingForFree (view_of s.spaces (slot_at s n).directory) (slot_at s n) (served h n call (step.FreeEntry fd) stands).b call fd =
        (served h n call (step.FreeEntry fd) stands).at in it.table))
        (entry_follows below)
    free_by false test =
        law_of_call s n (staged call clearing_asked (free_next false)) call (step.FreeEntry fd) full_at SYS_PAGE_UNMAP (0 ∷ UTEMP ∷ 0 ∷ 0 ∷ 0 ∷ []) refl refl
        (give_lives s n live)
        (subst (λ (z : CallStep Called). IsInOrder z.state → KeepsBy s n (staged call clearing_asked (free_next false)) z) (sym (give_is s n live))
        (λ order. full_keeps s n path mode fd (grind (arith, nat_tests, test)) stands order))

    pub free_entry_holds : ServiceHolds s n (staged (service.OpenFile path mode) (free_asked fd) (next_of_free fd))
    free_entry_holds = free_by (nat_lt fd DESCRIPTORS) refl

  -- ---- the mode is put into its page

  pub storing_mode_holds : (fd : ℕ) → place_of (slot_at s n) ≡ place.InService (service.OpenFile path mode) (step.StoringMode fd) →
      ServiceHolds s n (staged (service.OpenFile path mode) (ask.Store (UTEMP + REQUEST_MODE) mode) (λ done. next.GoOn (step.OpenIdentifying fd)))
  storing_mode_holds fd stands =
      storing_holds s n call live (step.StoringMode fd) (step.OpenIdentifying fd) REQUEST_MODE mode refl stands refl (omega arith)
      (λ names a h. mode_stored h n path mode fd (mode_small s n path mode (step.StoringMode fd) stands small.ecx) stands)

  -- ---- it waits

  module _ (id fd : ℕ) (stands : place_of (slot_at s n) ≡ place.InService (service.OpenFile path mode) (step.OpenAwaiting id fd)) where
    abbrev awaiting : Plan
    awaiting = staged call (reply_asked_at (descriptor_va fd)) (λ word. next.Show (step.OpenClearing id fd))

    awaiting_at : IsAt s n awaiting call (step.OpenAwaiting id fd)
    awaiting_at = record {
      stands = stands;
      live = live;
      numbered = refl;
      plain = plainly refl;
      goes_on = refl;
      falls = λ called. tt;
      few = omega arith;
    }

    pub open_awaiting_holds : ServiceHolds s n (staged (service.OpenFile path mode) (reply_asked_at (descriptor_va fd))
        (λ word. next.Show (step.OpenClearing id fd)))
    open_awaiting_holds =
        let args = descriptor_va fd ∷ FIRST_ENV_ID ∷ 0 ∷ 0 ∷ 0 ∷ [] in
        let lives = recv_lives s n (descriptor_va fd) FIRST_ENV_ID (0 ∷ 0 ∷ 0 ∷ []) live in
        law_of_call s n awaiting call (step.OpenAwaiting id fd) awaiting_at SYS_IPC_RECV args refl refl lives
        (λ order. shown_keeps s n SYS_IPC_RECV args awaiting (step.OpenClearing id fd) lives (λ called. refl)
        (open_awaiting_keeps s n path mode id fd stands))

  -- ---- the reply has come: its page is given back

  module _ (awake : (is_runnable (slot_at s n).status || is_running (slot_at s n).status) ≡ true) (id fd : ℕ)
      (stands : place_of (slot_at s n) ≡ place.InService (service.OpenFile path mode) (step.OpenClearing id fd)) where
    abbrev clearing : Plan
    clearing = staged call clearing_asked (λ word. next.GoOn (step.ReadingOpened id fd))

    clearing_at : IsAt s n clearing call (step.OpenClearing id fd)
    clearing_at = record {
      stands = stands;
      live = live;
      numbered = refl;
      plain = plainly refl;
      goes_on = refl;
      falls = λ called. omega arith;
      few = omega arith;
    }

    pub open_clearing_holds : ServiceHolds s n (staged (service.OpenFile path mode) clearing_asked (λ word. next.GoOn (step.ReadingOpened id fd)))
    open_clearing_holds =
        law_of_call s n clearing call (step.OpenClearing id fd) clearing_at SYS_PAGE_UNMAP (0 ∷ UTEMP ∷ 0 ∷ 0 ∷ 0 ∷ []) refl refl
        (give_lives s n live)
        (subst (λ (z : CallStep Called). IsInOrder z.state → KeepsBy s n clearing z) (sym (give_is s n live))
        (λ order. open_clearing_keeps s n path mode id fd stands awake order))

  -- ---- and it is answered

  module _ (id fd : ℕ) (stands : place_of (slot_at s n) ≡ place.InService (service.OpenFile path mode) (step.ReadingOpened id fd)) where
    abbrev value : ℕ
    value = (slot_at s n).rendezvous.value

    value_there : (names : Names) (a : AbstractState) → StandsFor names s a → load s n (reply_place id) ≡ read_at s n (reply_place id) value
    value_there names a h =
        let it = opened_so h n path mode id fd stands in
        reply_load s n id (h.tabled.ids n (born_live (reading_served h n path mode id fd stands).own)) it.0 it.1.small

    value_follows : (names : Names) (a : AbstractState) → StandsFor names s a → IsInOrder (loaded s n (reply_place id)) →
        Follows (loaded s n (reply_place id)) n call a (next.Answer (opened_answer value fd))
    value_follows names a h order = (
      _,
      opened_step h n path mode id fd stands,
      printed_nothing a,
      (names, opened_stands h n path mode id fd stands (reply_place id) order),
    )

    pub open_reading_holds : ServiceHolds s n (staged (service.OpenFile path mode) (ask.Load (reply_place id))
        (λ word. next.Answer (opened_answer word fd)))
    open_reading_holds =
        load_holds s n call (step.ReadingOpened id fd) live refl stands (reply_place id) value (λ word. next.Answer (opened_answer word fd)) (λ word. tt)
        value_there value_follows
