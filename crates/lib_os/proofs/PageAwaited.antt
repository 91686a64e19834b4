-- One that has asked the file server by a page begins to wait for the reply, and keeps its page, until that has come.
use Rattle.std.proofs.Common.{◌≡◌, ◌∙◌, ℕ, true, false, List, [], ◌∷◌, Some, None, refl, sym, ap, subst}
use Rattle.std.proofs.lemmas.Bool.{false≢true}
use Rattle.jos_base.specs.declared.called.Called.{Called}
use Rattle.jos_base.specs.declared.called.Called.TheVariants.{Blocked}
use Rattle.jos_base.specs.declared.environment.Status.TheVariants.{NotRunnable}
use Rattle.jos_base.specs.declared.numbers.TheConstants.{FIRST_ENV_ID, SYS_IPC_RECV, UTOP}
use Rattle.jos_base.specs.Environments.{Slot, is_live}
use Rattle.jos_base.specs.KernelState.{KernelState, slot_at, with_extra, with_slot_at}
use Rattle.jos_base.specs.Messages.{wanting}
use Rattle.jos_base.specs.SpacesState.{SpacesState}
use Rattle.lib_os.specs.declared.place.Place.{Place}
use Rattle.lib_os.specs.declared.place.Place.TheVariants as place
use Rattle.lib_os.specs.declared.service.Service.{Service}
use Rattle.lib_os.specs.declared.service.Service.TheVariants as service
use Rattle.lib_os.specs.AbstractRun.{abs_step}
use Rattle.lib_os.specs.AbstractState.{AbstractState, Born, born, asked, awaiting, in_service}
use Rattle.lib_os.specs.FileServer.{await_reply}
use Rattle.lib_os.specs.LibraryCall.{library_step}
use Rattle.lib_os.specs.LibraryPages.{has_copy}
use Rattle.lib_os.specs.Places.{place_of, words_at, is_handlers}
use Rattle.lib_os.specs.Rows.{Names, rows_of}
use Rattle.lib_os.specs.Services.{service_of}
use Rattle.lib_os.specs.StandsFor.{StandsFor, StandsForBorn, StandsAt, HasAsked, IsAwaiting}
use Rattle.lib_os.specs.StandsFor.{view_of, upcall_at, borne_in}
use Rattle.lib_os.specs.UserCalls.{CallStep, got, system}
use Rattle.lib_os.proofs.Calls.{ipc_recv_is, waits_is}
use Rattle.lib_os.proofs.Logical.{is_plain, unborne_plain}
use Rattle.lib_os.proofs.Numbered.{number_of}
use Rattle.lib_os.specs.StandsInHandler.{MayPut, hands_back}
use Rattle.lib_os.proofs.AskedPlaces.{awaiting_step}
use Rattle.lib_os.proofs.PipesStand.{calm_places, calm_unmade, descriptors_turned, is_calm}
use Rattle.lib_os.proofs.RequestPages.{awaiting_calm, awaiting_held, asks_with_page, request_plain, there_awaited}
use Rattle.lib_os.proofs.Serving.{service_step, holds_page, plain_upcall, plain_copy, plain_working, library_moved, kept_where, pages_kept}
use Rattle.lib_os.proofs.Slots.{words_put}
use Rattle.lib_os.proofs.SlotsStand.{born_at, born_live}
use Rattle.lib_os.proofs.StatesStand.{slot_changed, stopped_settles}
use Rattle.lib_os.proofs.WordsTell.{place_at, is_in_handler, handler_runs}

-- ---- it begins to wait

-- its slot
abbrev pub page_awaiting_slot : Service → Slot → ℕ → Slot
page_awaiting_slot call k id = record k {
  rendezvous = wanting k.rendezvous UTOP FIRST_ENV_ID;
  status = NotRunnable;
  extra = words_at (number_of call) (awaiting_step call id 0);
}

page_awaiting_place : (k : Slot) (call : Service) (id : ℕ) → is_handlers k.registers.esp ≡ false →
    service_of (record k.registers { eax = number_of call }) ≡ call →
    place_of (page_awaiting_slot call k id) ≡ place.InService call (awaiting_step call id 0)
page_awaiting_place k call id outside names_it =
    place_at k.registers (number_of call) (awaiting_step call id 0) outside ∙ ap (λ (x : Service). place.InService x (awaiting_step call id 0)) names_it

-- the environment that waits
abbrev pub page_waiting : Service → Born → Born
page_waiting call b = record b { phase = in_service call awaiting; blocked = true }

page_awaiting_own : {names : Names} {s : SpacesState} {k : Slot} {b : Born} (call : Service) → asks_with_page call ≡ true → (id : ℕ) → StandsForBorn names s k b →
    is_handlers k.registers.esp ≡ false → holds_page (place_of k) ≡ kept_where true → is_calm (place_of k) ≡ true → id ≡ k.id → HasAsked k b call →
    (hands_back call ≡ true → MayPut call) → service_of (record k.registers { eax = number_of call }) ≡ call →
    StandsForBorn names s (page_awaiting_slot call k id) (page_waiting call b)
page_awaiting_own {names = names} {s = s} {k = k} {b = b} call with_page id own outside holds calm self has put names_it =
    let j : Slot = page_awaiting_slot call k id in
    let at : place_of j ≡ place.InService call (awaiting_step call id 0) = page_awaiting_place k call id outside names_it in
    let plain : is_in_handler (place_of k) ≡ false = handler_runs k.registers k.extra ∙ outside in
    let so : IsAwaiting j (page_waiting call b) call = record {
      program = has.program;
      phase = refl;
      blocked = refl;
      rendezvous = refl;
      wanted = refl;
      destination = refl;
    } in
    record {
      id = own.id;
      id_small = own.id_small;
      parent = own.parent;
      env_type = own.env_type;
      runs = tt;
      upcall = own.upcall ∙ plain_upcall (place_of k) plain ∙ sym (ap upcall_at at);
      descriptors = descriptors_turned names s k.directory (place_of k) (place_of j) b.descriptors calm (ap is_calm at ∙ awaiting_calm call id 0)
          own.descriptors;
      memory = own.memory;
      library = library_moved (place_of k) (place_of j) k.extra j.extra (rows_of s k.directory) (plain_copy (place_of k) plain ∙ sym (ap has_copy at))
          (plain_working (place_of k) k.extra plain ∙ holds
          ∙ sym (ap (λ (p : Place). pages_kept p j.extra) at
          ∙ plain_working (place.InService call (awaiting_step call id 0)) j.extra refl ∙ awaiting_held call with_page id)) own.library;
      regions_have = own.regions_have;
      regions_only = own.regions_only;
      stack = own.stack;
      flags = own.flags;
      at = subst (λ (p : Place). StandsAt p (view_of s k.directory) j (page_waiting call b)) (sym at)
          (there_awaited (view_of s k.directory) j (page_waiting call b) call with_page id put (self, so));
    }

-- the call
page_awaiting_call : (s : KernelState) (n : ℕ) (rest : List ℕ) → is_live (slot_at s n) ≡ true →
    system s n SYS_IPC_RECV (UTOP ∷ FIRST_ENV_ID ∷ rest)
    ≡ record {
      state = with_slot_at s n (record (slot_at s n) { rendezvous = wanting (slot_at s n).rendezvous UTOP FIRST_ENV_ID; status = NotRunnable });
      gives = got Blocked;
      written = [];
    }
page_awaiting_call s n rest live =
    ipc_recv_is s n live UTOP FIRST_ENV_ID rest refl
    ∙ (λ i. record { state = waits_is s n (wanting (slot_at s n).rendezvous UTOP FIRST_ENV_ID) NotRunnable i; gives = got Blocked; written = [] })

module _ {names : Names} {s : KernelState} {a : AbstractState} (h : StandsFor names s a) (n : ℕ) (b : Born) (at : a.slots n ≡ born b)
    (outside : is_handlers (slot_at s n).registers.esp ≡ false) (unborne : borne_in (place_of (slot_at s n)) ≡ None)
    (holds : holds_page (place_of (slot_at s n)) ≡ kept_where true) (calm : is_calm (place_of (slot_at s n)) ≡ true)
    (call : Service) (with_page : asks_with_page call ≡ true) where
  -- its step
  pub page_awaiting_step : HasAsked (slot_at s n) b call → abs_step a n ≡ Some (await_reply a n b call)
  unfolding library_step
  page_awaiting_step has =
      service_step a n b (slot_at s n).registers call asked at has.program has.phase has.awake ∙ by_service call with_page
    where
      by_service : (call : Service) → asks_with_page call ≡ true → library_step a n b (slot_at s n).registers call asked ≡ Some (await_reply a n b call)
      by_service (service.Remove path) is = refl
      by_service (service.Seek fd offset) is = refl
      by_service (service.SetSize fd size) is = refl
      by_service (service.Write fd va len) is = refl
      by_service (service.Read fd va len) is = refl
      by_service (service.Stat fd va) is = refl
      by_service _ is = absurd (false≢true is)

  -- the state behind the call, with the words of the step after it
  pub page_awaiting_stands : (id : ℕ) (rest : List ℕ) → id ≡ (slot_at s n).id → HasAsked (slot_at s n) b call →
      (hands_back call ≡ true → MayPut call) →
      service_of (record (slot_at s n).registers { eax = number_of call }) ≡ call →
      StandsFor names (with_extra (system s n SYS_IPC_RECV (UTOP ∷ FIRST_ENV_ID ∷ rest)).state n (words_at (number_of call) (awaiting_step call id 0)))
      (await_reply a n b call)
  page_awaiting_stands id rest self has put names_it =
      let words : List ℕ = words_at (number_of call) (awaiting_step call id 0) in
      let k : Slot = record (slot_at s n) { rendezvous = wanting (slot_at s n).rendezvous UTOP FIRST_ENV_ID; status = NotRunnable } in
      let after : with_extra (system s n SYS_IPC_RECV (UTOP ∷ FIRST_ENV_ID ∷ rest)).state n words ≡ with_slot_at s n (record k { extra = words }) =
      ap (λ (x : CallStep Called). with_extra x.state n words) (page_awaiting_call s n rest (born_live (born_at h n b at)))
      ∙ words_put s n k words in
      subst (λ (x : KernelState). StandsFor names x (await_reply a n b call)) (sym after)
      (slot_changed h n b at (page_awaiting_slot call (slot_at s n) id) (page_waiting call b) refl
      (stopped_settles (slot_at s n) (page_awaiting_slot call (slot_at s n) id) refl refl refl refl)
      (unborne_plain (place_of (slot_at s n)) (handler_runs (slot_at s n).registers (slot_at s n).extra ∙ outside) unborne
      (calm_unmade (place_of (slot_at s n)) calm))
      (ap is_plain (page_awaiting_place (slot_at s n) call id outside names_it) ∙ request_plain call with_page (awaiting_step call id 0))
      (page_awaiting_own call with_page id (born_at h n b at) outside holds calm self has put names_it)
      (calm_places calm (ap is_calm (page_awaiting_place (slot_at s n) call id outside names_it) ∙ awaiting_calm call id 0)) (λ fd. refl))
