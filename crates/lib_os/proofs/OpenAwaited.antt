-- open_file, which has asked the file server, waits for the reply at the page of its descriptor; once that has come it gives back the page that
-- told its request, and answers the descriptor, or the error's number that the word is.
use Rattle.std.proofs.Common.{◌≡◌, ◌∙◌, ◌||◌, ℕ, Bool, true, false, List, [], ◌∷◌, Some, refl, sym, ap, subst, arith}
use Rattle.jos_base.specs.declared.called.Called.{Called}
use Rattle.jos_base.specs.declared.called.Called.TheVariants.{Blocked}
use Rattle.jos_base.specs.declared.environment.Status.{Status}
use Rattle.jos_base.specs.declared.environment.Status.TheVariants.{NotRunnable, Runnable, Running}
use Rattle.jos_base.specs.declared.memory.Access.TheVariants.{Read}
use Rattle.jos_base.specs.declared.numbers.TheConstants.{FIRST_ENV_ID, SYS_IPC_RECV}
use Rattle.jos_base.specs.declared.registers.Regs.{Regs}
use Rattle.jos_base.specs.Environments.{Slot, is_runnable, is_running}
use Rattle.jos_base.specs.KernelState.{KernelState, slot_at, with_extra, with_slot_at, with_spaces}
use Rattle.jos_base.specs.Messages.{wanting}
use Rattle.jos_base.specs.SpacesState.{SpacesState}
use Rattle.lib_os.specs.declared.numbers.TheConstants.{SERVICE_OPEN_FILE}
use Rattle.lib_os.specs.declared.place.Place.{Place}
use Rattle.lib_os.specs.declared.place.Place.TheVariants as place
use Rattle.lib_os.specs.declared.place.Step.TheVariants as step
use Rattle.lib_os.specs.declared.progress.Progress.TheVariants as progress
use Rattle.lib_os.specs.declared.service.Service.{Service}
use Rattle.lib_os.specs.declared.service.Service.TheVariants as service
use Rattle.lib_os.specs.AbstractRun.{abs_step}
use Rattle.lib_os.specs.AbstractState.{AbstractState, Born, asked, awaiting, in_service, replied}
use Rattle.lib_os.specs.Answers.{answered}
use Rattle.lib_os.specs.FileServer.{await_reply}
use Rattle.lib_os.specs.InOrder.{IsInOrder}
use Rattle.lib_os.specs.LibraryCall.{library_step}
use Rattle.lib_os.specs.LibraryPages.{View, has_copy}
use Rattle.lib_os.specs.LibrarySteps.{KeepsStanding, gone_back, service_answered}
use Rattle.lib_os.specs.Places.{place_of, words_at}
use Rattle.lib_os.specs.Rows.{Names, rows_of}
use Rattle.lib_os.specs.InService.{IsLowestFree}
use Rattle.lib_os.specs.StandsFor.{AwaitsFileOrHas, HasAsked, HasOpened, IsAwaitingFile, IsStatusFor, StandsAt, StandsFor, StandsForBorn}
use Rattle.lib_os.specs.StandsFor.{awaits_file, borne_in, has_opened, opened_answer, upcall_at, view_of}
use Rattle.lib_os.specs.UserCalls.{CallStep, got, system}
use Rattle.lib_os.proofs.Answering.{back_stands}
use Rattle.lib_os.proofs.Calls.{ipc_recv_is, receives_at, waits_is}
use Rattle.lib_os.proofs.DescriptorLooks.{descriptor_va}
use Rattle.lib_os.proofs.Effects.{Removed}
use Rattle.lib_os.proofs.Loading.{loaded}
use Rattle.lib_os.proofs.Logical.{is_plain}
use Rattle.lib_os.proofs.Numbered.{named_at}
use Rattle.lib_os.proofs.PageGiven.{give_removes, given_puts, given_row, given_tables, without_working}
use Rattle.lib_os.proofs.PageTaken.{working_page, working_stands}
use Rattle.lib_os.proofs.PipesStand.{calm_places, descriptors_turned, is_calm}
use Rattle.lib_os.proofs.Serving.{IsServed, holds_page, library_moved, plain_copy, plain_upcall, plain_working, printed_nothing, served, service_step, pages_kept, others_kept}
use Rattle.lib_os.proofs.Slots.{words_put}
use Rattle.lib_os.proofs.SlotsStand.{born_live}
use Rattle.lib_os.proofs.StatesStand.{quiet_stands, slot_changed, stopped_settles}
use Rattle.lib_os.proofs.Touching.{touched_quiet}
use Rattle.lib_os.proofs.WordsTell.{is_in_handler, place_at}

-- ---- it begins to wait

-- its slot
abbrev pub open_waiting_slot : Slot → ℕ → ℕ → Slot
open_waiting_slot k id fd = record k {
  rendezvous = wanting k.rendezvous (descriptor_va fd) FIRST_ENV_ID;
  status = NotRunnable;
  extra = words_at SERVICE_OPEN_FILE (step.OpenClearing id fd);
}

module _ {names : Names} {s : KernelState} {a : AbstractState} (h : StandsFor names s a) (n path mode id fd : ℕ)
    (stands : place_of (slot_at s n) ≡ place.InService (service.OpenFile path mode) (step.OpenAwaiting id fd)) where
  abbrev call : Service
  call = service.OpenFile path mode

  abbrev k : Slot
  k = slot_at s n

  abbrev v : IsServed names s a n (service.OpenFile path mode) (step.OpenAwaiting id fd)
  v = served h n call (step.OpenAwaiting id fd) stands

  here : (id ≡ k.id) × IsLowestFree (rows_of s.spaces k.directory) fd × HasAsked k v.b call
  here = v.at

  -- its step
  pub open_awaiting_step : abs_step a n ≡ Some (await_reply a n v.b (service.OpenFile path mode))
  unfolding library_step
  open_awaiting_step = service_step a n v.b k.registers call asked v.is here.2.program here.2.phase here.2.awake

  abbrev after_words : List ℕ
  after_words = words_at SERVICE_OPEN_FILE (step.OpenClearing id fd)

  abbrev j : Slot
  j = open_waiting_slot k id fd

  abbrev waiting : Born
  waiting = record v.b { phase = in_service call awaiting; blocked = true }

  j_place : place_of j ≡ place.InService call (step.OpenClearing id fd)
  j_place =
      place_at k.registers SERVICE_OPEN_FILE (step.OpenClearing id fd) v.outside
      ∙ ap (λ (x : Service). place.InService x (step.OpenClearing id fd)) (named_at k call (step.OpenAwaiting id fd) stands)

  waits_so : IsAwaitingFile (view_of s.spaces k.directory) j waiting call fd
  waits_so = record {
    program = here.2.program;
    phase = refl;
    blocked = refl;
    rendezvous = refl;
    wanted = refl;
    destination = let below = here.1.below in omega (arith, below);
    lowest = here.1;
  }

  waiting_own : StandsForBorn names s.spaces j waiting
  waiting_own =
      let own = v.own in
      let plain : is_in_handler (place_of k) ≡ false = ap is_in_handler stands in
      record {
        id = own.id;
        id_small = own.id_small;
        parent = own.parent;
        env_type = own.env_type;
        runs = tt;
        upcall = own.upcall ∙ plain_upcall (place_of k) plain ∙ sym (ap upcall_at j_place);
        descriptors = descriptors_turned names s.spaces k.directory (place_of k) (place_of j) v.b.descriptors (ap is_calm stands) (ap is_calm j_place)
            own.descriptors;
        memory = own.memory;
        library = library_moved (place_of k) (place_of j) k.extra j.extra (rows_of s.spaces k.directory)
            (plain_copy (place_of k) plain ∙ sym (ap has_copy j_place))
            (plain_working (place_of k) k.extra plain ∙ ap holds_page stands ∙ sym (ap (λ (p : Place). pages_kept p j.extra) j_place)) own.library;
        regions_have = own.regions_have;
        regions_only = own.regions_only;
        stack = own.stack;
        flags = own.flags;
        at = subst (λ (p : Place). StandsAt p (view_of s.spaces k.directory) j waiting) (sym j_place) (here.0, awaits_file waits_so);
      }

  -- the call
  open_call : (rest : List ℕ) → system s n SYS_IPC_RECV (descriptor_va fd ∷ FIRST_ENV_ID ∷ rest)
      ≡ record {
        state = with_slot_at s n (record k { rendezvous = wanting k.rendezvous (descriptor_va fd) FIRST_ENV_ID; status = NotRunnable });
        gives = got Blocked;
        written = [];
      }
  open_call rest =
      ipc_recv_is s n (born_live v.own) (descriptor_va fd) FIRST_ENV_ID rest (receives_at (descriptor_va fd) (omega arith))
      ∙ (λ i. record { state = waits_is s n (wanting k.rendezvous (descriptor_va fd) FIRST_ENV_ID) NotRunnable i; gives = got Blocked; written = [] })

  pub open_awaiting_stands : (rest : List ℕ) →
      StandsFor names (with_extra (system s n SYS_IPC_RECV (descriptor_va fd ∷ FIRST_ENV_ID ∷ rest)).state n (words_at SERVICE_OPEN_FILE (step.OpenClearing id fd)))
      (await_reply a n v.b (service.OpenFile path mode))
  open_awaiting_stands rest =
      let asleep : Slot = record k { rendezvous = wanting k.rendezvous (descriptor_va fd) FIRST_ENV_ID; status = NotRunnable } in
      let after : with_extra (system s n SYS_IPC_RECV (descriptor_va fd ∷ FIRST_ENV_ID ∷ rest)).state n after_words
      ≡ with_slot_at s n (record asleep { extra = after_words }) =
      ap (λ (x : CallStep Called). with_extra x.state n after_words) (open_call rest) ∙ words_put s n asleep after_words in
      subst (λ (x : KernelState). StandsFor names x (await_reply a n v.b call)) (sym after)
      (slot_changed h n v.b v.is j waiting refl (stopped_settles k j refl refl refl refl) (ap is_plain stands) (ap is_plain j_place) waiting_own
      (calm_places (ap is_calm stands) (ap is_calm j_place)) (λ fd. refl))

-- what the step comes to
pub open_awaiting_keeps : (s : KernelState) (n path mode id fd : ℕ) →
    place_of (slot_at s n) ≡ place.InService (service.OpenFile path mode) (step.OpenAwaiting id fd) →
    KeepsStanding progress.Visible n s
    (with_extra (system s n SYS_IPC_RECV (descriptor_va fd ∷ FIRST_ENV_ID ∷ 0 ∷ 0 ∷ 0 ∷ [])).state n (words_at SERVICE_OPEN_FILE (step.OpenClearing id fd))) []
open_awaiting_keeps s n path mode id fd stands a h turn quiet = (
  _,
  open_awaiting_step h.1 n path mode id fd stands,
  printed_nothing a,
  (h.0, open_awaiting_stands h.1 n path mode id fd stands (0 ∷ 0 ∷ 0 ∷ [])),
)

-- ---- the reply has come

-- one that may run does not wait
pub awake_opened : (v : View) (k : Slot) (b : Born) (s : Service) (fd : ℕ) → IsStatusFor k.status b.blocked →
    (is_runnable k.status || is_running k.status) ≡ true → AwaitsFileOrHas v k b s fd → HasOpened k b s fd
awake_opened v k b s fd runs awake (has_opened h) = h
awake_opened v k b s fd runs awake (awaits_file h) = absurd (never k.status b.blocked runs awake h.blocked)
  where
    never : (status : Status) (blocked : Bool) → IsStatusFor status blocked → (is_runnable status || is_running status) ≡ true → blocked ≡ true → ⊥
    never Runnable false r w e = let contradiction : false ≡ true = e in absurd cc
    never Running false r w e = let contradiction : false ≡ true = e in absurd cc
    never NotRunnable true r w e = let contradiction : false ≡ true = w in absurd cc
    never _ _ r w e = r

-- its page is given back
module _ {names : Names} {s : KernelState} {a : AbstractState} {sp : SpacesState} (h : StandsFor names s a) (n path mode id fd : ℕ)
    (stands : place_of (slot_at s n) ≡ place.InService (service.OpenFile path mode) (step.OpenClearing id fd))
    (runs : (is_runnable (slot_at s n).status || is_running (slot_at s n).status) ≡ true)
    (removed : Removed s.spaces sp (slot_at s n).directory working_page) (in_order : IsInOrder (with_spaces s sp))
    (last : s.last ≡ Some n) where
  abbrev opens : Service
  opens = service.OpenFile path mode

  abbrev words : List ℕ
  words = words_at SERVICE_OPEN_FILE (step.ReadingOpened id fd)

  abbrev moved : Slot
  moved = record (slot_at s n) { extra = words }

  w : IsServed names s a n (service.OpenFile path mode) (step.OpenClearing id fd)
  w = served h n opens (step.OpenClearing id fd) stands

  waited : (id ≡ (slot_at s n).id) × AwaitsFileOrHas (view_of s.spaces (slot_at s n).directory) (slot_at s n) w.b opens fd
  waited = w.at

  has : HasOpened (slot_at s n) w.b opens fd
  has = awake_opened (view_of s.spaces (slot_at s n).directory) (slot_at s n) w.b opens fd w.own.runs runs waited.1

  still_has : HasOpened moved w.b opens fd
  still_has = record {
    regs = has.regs;
    program = has.program;
    registers = has.registers;
    phase = has.phase;
    awake = has.awake;
    silent = has.silent;
    small = has.small;
  }

  there : place_of moved ≡ place.InService opens (step.ReadingOpened id fd)
  there =
      place_at (slot_at s n).registers SERVICE_OPEN_FILE (step.ReadingOpened id fd) w.outside
      ∙ ap (λ (x : Service). place.InService x (step.ReadingOpened id fd)) (named_at (slot_at s n) opens (step.OpenClearing id fd) stands)

  open_cleared_stands : StandsFor names (with_extra (with_spaces s sp) n words) a
  open_cleared_stands =
      working_stands h n w.b w.is w.own w.outside (ap borne_in w.place) (ap is_calm w.place) (given_puts h n w.b w.is removed) last
      (slot_at s n).registers words
      (place.InService opens (step.ReadingOpened id fd)) there refl refl refl (ap others_kept w.place) refl refl
      (λ is. absurd (let contradiction : false ≡ true = is in cc)) (λ is. refl) (given_tables h n w.b w.is removed)
      (waited.0, still_has) (given_row h n w.b w.is removed) in_order

-- what the step comes to
pub open_clearing_keeps : (s : KernelState) (n path mode id fd : ℕ) →
    place_of (slot_at s n) ≡ place.InService (service.OpenFile path mode) (step.OpenClearing id fd) →
    (is_runnable (slot_at s n).status || is_running (slot_at s n).status) ≡ true → IsInOrder (with_spaces s (without_working s n)) →
    KeepsStanding progress.Hidden n s (with_extra (with_spaces s (without_working s n)) n (words_at SERVICE_OPEN_FILE (step.ReadingOpened id fd))) []
open_clearing_keeps s n path mode id fd stands runs in_order a h turn quiet =
    (refl, (h.0, open_cleared_stands h.1 n path mode id fd stands runs (give_removes s n h.1) in_order turn.last))

-- ---- and is answered

module _ {names : Names} {s : KernelState} {a : AbstractState} (h : StandsFor names s a) (n path mode id fd : ℕ)
    (stands : place_of (slot_at s n) ≡ place.InService (service.OpenFile path mode) (step.ReadingOpened id fd)) where
  abbrev opener : Service
  opener = service.OpenFile path mode

  abbrev pub reading_served : IsServed names s a n (service.OpenFile path mode) (step.ReadingOpened id fd)
  reading_served = served h n opener (step.ReadingOpened id fd) stands

  pub opened_so : (id ≡ (slot_at s n).id) × HasOpened (slot_at s n) reading_served.b (service.OpenFile path mode) fd
  opened_so = reading_served.at

  abbrev told : ℕ
  told = opened_answer (slot_at s n).rendezvous.value fd

  pub opened_step : abs_step a n ≡ Some (answered a n reading_served.b opened_so.1.regs (opened_answer (slot_at s n).rendezvous.value fd))
  unfolding library_step
  opened_step =
      service_step a n reading_served.b opened_so.1.regs opener (replied [] told) reading_served.is opened_so.1.program opened_so.1.phase
      opened_so.1.awake

  pub opened_stands : (address : ℕ) → IsInOrder (loaded s n address) →
      StandsFor names (service_answered (loaded s n address) n (opened_answer (slot_at s n).rendezvous.value fd))
      (answered a n reading_served.b opened_so.1.regs (opened_answer (slot_at s n).rendezvous.value fd))
  opened_stands address order =
      let it = opened_so.1 in
      let answers : Regs = record it.regs { eax = told } in
      let same : service_answered (loaded s n address) n told ≡ gone_back (loaded s n address) n answers =
      λ i. gone_back (loaded s n address) n (record (it.registers i) { eax = told }) in
      let stack : answers.esp ≡ (slot_at s n).registers.esp = sym (ap (λ (x : Regs). x.esp) it.registers) in
      let flags : answers.eflags ≡ (slot_at s n).registers.eflags = sym (ap (λ (x : Regs). x.eflags) it.registers) in
      let still : StandsFor names (loaded s n address) a = quiet_stands h (touched_quiet s.spaces (slot_at s n).directory address Read) order in
      subst (λ (t : KernelState). StandsFor names t (answered a n reading_served.b it.regs told)) (sym same)
      (back_stands still n reading_served.b reading_served.is answers (ap borne_in stands) (ap holds_page stands) (ap is_calm stands) it.silent it.awake
      reading_served.outside stack flags)
