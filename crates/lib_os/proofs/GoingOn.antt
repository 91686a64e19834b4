-- A service's step that does not answer: the words that tell how far it is are set, and its environment stands at another
-- step of the same service. And what comes of a step that is none of the service's.
use Rattle.std.proofs.Common.{◌≡◌, ◌∙◌, ℕ, true, false, List, [], None, Result, Ok, Err, refl, sym, ap, subst}
use Rattle.jos_base.specs.declared.called.Called.{Called}
use Rattle.jos_base.specs.declared.environment.Status.TheVariants.{Runnable}
use Rattle.jos_base.specs.declared.registers.Regs.{Regs}
use Rattle.jos_base.specs.Environments.{Slot, is_runnable}
use Rattle.jos_base.specs.KernelState.{KernelState, slot_at, with_extra, with_status}
use Rattle.jos_host.specs.declared.host.Failed.{Failed}
use Rattle.lib_os.specs.declared.place.Place.{Place}
use Rattle.lib_os.specs.declared.place.Place.TheVariants as place
use Rattle.lib_os.specs.declared.place.Step.{Step}
use Rattle.lib_os.specs.declared.place.Step.TheVariants as step
use Rattle.lib_os.specs.declared.progress.Progress.{Progress}
use Rattle.lib_os.specs.declared.progress.Progress.TheVariants as progress
use Rattle.lib_os.specs.declared.service.Service.{Service}
use Rattle.lib_os.specs.AbstractState.{AbstractState, Born, born, Stage}
use Rattle.lib_os.specs.LibrarySteps.{HasTurn, IsLibraryStep, Lowers, GivesUp, NothingRefused, is_pausing}
use Rattle.lib_os.specs.Places.{place_of, words_at, is_handlers}
use Rattle.lib_os.specs.Services.{service_of}
use Rattle.lib_os.specs.Rows.{Names, rows_of}
use Rattle.lib_os.specs.InService.{IsIn}
use Rattle.lib_os.specs.StandsFor.{StandsFor, StandsForBorn, StandsAt, StandsAtStep, view_of, borne_in}
use Rattle.lib_os.specs.UserCalls.{CallStep, IsCallStep, Output, Prints}
use Rattle.lib_os.proofs.Numbered.{number_of, named_at}
use Rattle.lib_os.proofs.Serving.{plain_upcall, plain_copy, plain_working, holds_page, library_moved}
use Rattle.lib_os.proofs.Children.{bears_none}
use Rattle.lib_os.proofs.Logical.{is_making_pipe, unborne_plain}
use Rattle.lib_os.proofs.PipesStand.{PipesAlike, calm_alike, calm_unmade, descriptors_alike, is_calm, is_calm_step}
use Rattle.lib_os.proofs.StatesStand.{plain_alike, slot_replaced}
use Rattle.lib_os.proofs.WordsTell.{place_at, is_in_handler, handler_runs, outside_stack}
use Rattle.jos_base.proofs.Maps.{upd-at}

-- ---- places

-- the place of one whose words are set, where the registers with the number name the service
pub place_set : (s : KernelState) (n number : ℕ) (service : Service) (at : Step) →
    is_handlers (slot_at s n).registers.esp ≡ false → service_of (record (slot_at s n).registers { eax = number }) ≡ service →
    place_of (slot_at (with_extra s n (words_at number at)) n) ≡ place.InService service at
place_set s n number service at outside is =
    ap (λ (k : Slot). place_of k) (upd-at s.environments.slots n (record (slot_at s n) { extra = words_at number at }))
    ∙ place_at (slot_at s n).registers number at outside
    ∙ ap (λ (x : Service). place.InService x at) is

-- a service has gone on at a step, behind a call that left the registers as they were
pub went_to : (s mid after : KernelState) (n m p : ℕ) (service : Service) (from to : Step) →
    place_of (slot_at s n) ≡ place.InService service from → (slot_at mid n).registers ≡ (slot_at s n).registers → m ≡ n → p ≡ m →
    after ≡ with_extra mid m (words_at (number_of service) to) → place_of (slot_at after p) ≡ place.InService service to
went_to s mid after n m p service from to was kept same too state =
    let named : service_of (record (slot_at mid n).registers { eax = number_of service }) ≡ service =
    ap (λ (r : Regs). service_of (record r { eax = number_of service })) kept ∙ named_at (slot_at s n) service from was in
    let outside : is_handlers (slot_at mid n).registers.esp ≡ false =
    ap (λ (r : Regs). is_handlers r.esp) kept ∙ outside_stack (slot_at s n).registers (slot_at s n).extra (place.InService service from) was refl in
    (λ i. place_of (slot_at (state i) (too i)))
    ∙ (λ i. place_of (slot_at (with_extra mid (same i) (words_at (number_of service) to)) (same i)))
    ∙ place_set mid n (number_of service) service to outside named

-- ---- words

-- an environment whose words alone are others is in its service as before
pub in_with_words : {k : Slot} {b : Born} {service : Service} {stage : Stage} (words : List ℕ) → IsIn k b service stage →
    IsIn (record k { extra = words }) b service stage
in_with_words words h = record { program = h.program; phase = h.phase; silent = h.silent; awake = h.awake }

pub words_alike : {names : Names} {s : KernelState} {a : AbstractState} → StandsFor names s a → (n number : ℕ) (b : Born) →
    a.slots n ≡ born b → StandsForBorn names s.spaces (slot_at s n) b → is_handlers (slot_at s n).registers.esp ≡ false →
    borne_in (place_of (slot_at s n)) ≡ None → (service : Service) (at : Step) →
    holds_page (place_of (slot_at s n)) ≡ holds_page (place.InService service at) → borne_in (place.InService service at) ≡ None → service_of (record (slot_at s n).registers { eax = number }) ≡ service →
    is_making_pipe (place_of (slot_at s n)) ≡ false → is_making_pipe (place.InService service at) ≡ false →
    PipesAlike (place_of (slot_at s n)) (place.InService service at) →
    StandsAtStep (view_of s.spaces (slot_at s n).directory) (record (slot_at s n) { extra = words_at number at }) b service at →
    StandsFor names (with_extra s n (words_at number at)) a
words_alike {names = names} {s = s} h n number b is own outside unborne service at held unborne_after names_it unmade unmade_after alike so =
    let k : Slot = record (slot_at s n) { extra = words_at number at } in
    let there : place_of k ≡ place.InService service at =
    place_at (slot_at s n).registers number at outside ∙ ap (λ (x : Service). place.InService x at) names_it in
    let there_alike : PipesAlike (place_of (slot_at s n)) (place_of k) =
    subst (λ (to : Place). PipesAlike (place_of (slot_at s n)) to) (sym there) alike in
    let plain : is_in_handler (place_of (slot_at s n)) ≡ false = handler_runs (slot_at s n).registers (slot_at s n).extra ∙ outside in
    let plain_after : is_in_handler (place_of k) ≡ false = ap is_in_handler there in
    slot_replaced h n b is k refl (record { id = refl; env_type = refl; turns = refl; calm = λ runs. runs })
    (plain_alike (place_of (slot_at s n)) (place_of k) (unborne_plain (place_of (slot_at s n)) plain unborne unmade)
    (unborne_plain (place_of k) plain_after (ap borne_in there ∙ unborne_after) (ap is_making_pipe there ∙ unmade_after))) (bears_none unborne (ap borne_in there ∙ unborne_after)) (record {
      id = own.id;
      id_small = own.id_small;
      parent = own.parent;
      env_type = own.env_type;
      runs = own.runs;
      upcall = own.upcall ∙ plain_upcall (place_of (slot_at s n)) plain ∙ sym (plain_upcall (place_of k) plain_after);
      descriptors = descriptors_alike names s.spaces k.directory (place_of (slot_at s n)) (place_of k) b.descriptors there_alike own.descriptors;
      memory = own.memory;
      library = library_moved (place_of (slot_at s n)) (place_of k) (slot_at s n).extra k.extra (rows_of s.spaces k.directory)
          (plain_copy (place_of (slot_at s n)) plain ∙ sym (plain_copy (place_of k) plain_after))
          (plain_working (place_of (slot_at s n)) (slot_at s n).extra plain ∙ held ∙ sym (ap holds_page there)
          ∙ sym (plain_working (place_of k) k.extra plain_after)) own.library;
      regions_have = own.regions_have;
      regions_only = own.regions_only;
      stack = own.stack;
      flags = own.flags;
      at = subst (λ (p : Place). StandsAt p (view_of s.spaces k.directory) k b) (sym there) so;
    }) there_alike.places

-- the same where nothing is done to pipes before and after
pub words_stand : {names : Names} {s : KernelState} {a : AbstractState} → StandsFor names s a → (n number : ℕ) (b : Born) →
    a.slots n ≡ born b → StandsForBorn names s.spaces (slot_at s n) b → is_handlers (slot_at s n).registers.esp ≡ false →
    borne_in (place_of (slot_at s n)) ≡ None → is_calm (place_of (slot_at s n)) ≡ true → (service : Service) (at : Step) →
    holds_page (place_of (slot_at s n)) ≡ holds_page (place.InService service at) → borne_in (place.InService service at) ≡ None →
    is_calm_step at ≡ true → service_of (record (slot_at s n).registers { eax = number }) ≡ service →
    StandsAtStep (view_of s.spaces (slot_at s n).directory) (record (slot_at s n) { extra = words_at number at }) b service at →
    StandsFor names (with_extra s n (words_at number at)) a
words_stand {s = s} h n number b is own outside unborne calm service at held unborne_after calm_after names_it so =
    words_alike h n number b is own outside unborne service at held unborne_after names_it (calm_unmade (place_of (slot_at s n)) calm)
    (calm_unmade (place.InService service at) calm_after) (calm_alike calm calm_after) so

-- ---- the clauses of a step

pub hidden : (s after : KernelState) (n : ℕ) (output : Output) → Prints output [] →
    ((names : Names) (a : AbstractState) → StandsFor names s a → HasTurn s n → NothingRefused s after → StandsFor names after a) →
    IsLibraryStep (Ok progress.Hidden) n s after output
hidden s after n output gains goes = ([], gains, λ a h turn quiet. (refl, (h.0, goes h.0 a h.1 turn quiet)))

-- no state in which the environment is there stands for an abstract one
pub never : (s mid after : KernelState) (n : ℕ) (call : CallStep Called) (called : Called) (output : Output) (p : Progress) →
    IsCallStep call (Ok called) mid output → ((names : Names) (a : AbstractState) → StandsFor names s a → ⊥) →
    IsLibraryStep (Ok p) n s after output
never s mid after n call called output p is none = (call.written, is.2, λ a h turn quiet. absurd (none h.0 a h.1))

pub pauses : (before after : KernelState) (n : ℕ) (service : Service) (perm : ℕ) → is_pausing (place.InService service (step.Pausing perm)) ≡ true →
    place_of (slot_at after n) ≡ place.InService service (step.Pausing perm) → Lowers (Ok progress.Waited) n before after
pauses before after n service perm tries is = ap is_pausing is ∙ tries

-- a service that was about to give up its turn has given it up
pub gave_up : (s mid after : KernelState) (n m p : ℕ) (words : List ℕ) → mid ≡ with_status s n Runnable → m ≡ n → p ≡ m →
    after ≡ with_extra mid m words → GivesUp (Ok progress.Hidden) (slot_at s n) (slot_at after p)
gave_up s mid after n m p words yielded same too state = λ pausing. (refl, ran)
  where
    ran : is_runnable (slot_at after p).status ≡ true
    ran =
        (λ i. is_runnable (slot_at (state i) (too i)).status)
        ∙ (λ i. is_runnable (slot_at (with_extra (yielded i) (same i) words) (same i)).status)
        ∙ ap (λ (k : Slot). is_runnable k.status)
        (upd-at (with_status s n Runnable).environments.slots n (record (slot_at (with_status s n Runnable) n) { extra = words }))
        ∙ ap (λ (k : Slot). is_runnable k.status) (upd-at s.environments.slots n (record (slot_at s n) { status = Runnable }))

-- one that is not about to give up its turn need not
pub gives_nothing_up : (result : Result Progress Failed) (before after : Slot) → is_pausing (place_of before) ≡ false →
    GivesUp result before after
gives_nothing_up (Ok p) before after not_pausing = λ pausing. absurd (let contradiction : true ≡ false = sym pausing ∙ not_pausing in cc)
gives_nothing_up (Err e) before after not_pausing = tt
