-- A service of this crate, at its only step, and its answer. Where the kernel's state stands for an abstract one, so it does
-- behind the answer.
use Rattle.std.proofs.Common.{◌∙◌, ◌≡◌, ℕ, false, true, List, Some, refl, subst, ap, None}
use Rattle.std.specs.Prelude.{◌++◌}
use Rattle.jos_base.specs.declared.called.Called.{Called}
use Rattle.jos_base.specs.declared.called.Called.TheVariants.{Answered, Ended}
use Rattle.jos_base.specs.Environments.{Slot}
use Rattle.jos_base.specs.KernelState.{KernelState, slot_at}
use Rattle.lib_os.specs.declared.place.Place.TheVariants as place
use Rattle.lib_os.specs.declared.place.Step.{Step}
use Rattle.lib_os.specs.declared.place.Step.TheVariants as step
use Rattle.lib_os.specs.declared.service.Service.{Service}
use Rattle.lib_os.specs.declared.service.Service.TheVariants as service
use Rattle.lib_os.specs.AbstractState.{AbstractState, Born, born, guest, at_guest, entered, with_born}
use Rattle.lib_os.specs.AbstractRun.{abs_step}
use Rattle.lib_os.specs.Answers.{back_with}
use Rattle.lib_os.specs.InOrder.{IsInOrder}
use Rattle.lib_os.specs.LibraryCall.{library_step}
use Rattle.lib_os.specs.LibrarySteps.{Stands, NothingRefused, service_answered}
use Rattle.lib_os.specs.LibraryPages.{View}
use Rattle.lib_os.specs.Places.{place_of, is_handlers}
use Rattle.lib_os.specs.Rows.{Names}
use Rattle.lib_os.specs.StandsInHandler.{hands_back}
use Rattle.lib_os.specs.InService.{IsIn}
use Rattle.lib_os.specs.StandsFor.{StandsFor, StandsForBorn, StandsAtStep, view_of, borne_in, goes_back}
use Rattle.lib_os.specs.UserCalls.{got, CallStep}
use Rattle.jos_base.proofs.Maps.{upd-at, upd-twice}
use Rattle.lib_os.proofs.Answering.{back_stands}
use Rattle.lib_os.proofs.PipesStand.{is_calm, is_calm_step}
use Rattle.lib_os.proofs.Serving.{holds_page, served, step_in, kept_where}
use Rattle.lib_mem.specs.declared.services.MemoryService.{MemoryService}
use Rattle.lib_mem.specs.declared.services.MemoryService.TheVariants as memory

-- ---- at the beginning

-- as one of the library's
abbrev pub service_in : MemoryService → Service
service_in (memory.Cputs va len) = service.Cputs va len
service_in memory.GetId = service.GetId
service_in memory.Yield = service.Yield
service_in (memory.PageNew va flags) = service.PageNew va flags
service_in (memory.PageDrop va) = service.PageDrop va
service_in memory.Unknown = service.Unknown

-- bytes are handed back to none of these services
hands_nothing : (m : MemoryService) → hands_back (service_in m) ≡ true → ⊥
hands_nothing (memory.Cputs va len) hands = let contradiction : false ≡ true = hands in cc
hands_nothing memory.GetId hands = let contradiction : false ≡ true = hands in cc
hands_nothing memory.Yield hands = let contradiction : false ≡ true = hands in cc
hands_nothing (memory.PageNew va flags) hands = let contradiction : false ≡ true = hands in cc
hands_nothing (memory.PageDrop va) hands = let contradiction : false ≡ true = hands in cc
hands_nothing memory.Unknown hands = let contradiction : false ≡ true = hands in cc

-- nor does one of them take away a page before it goes back
returns_nothing : (m : MemoryService) → goes_back (service_in m) ≡ true → ⊥
returns_nothing (memory.Cputs va len) returns = let contradiction : false ≡ true = returns in cc
returns_nothing memory.GetId returns = let contradiction : false ≡ true = returns in cc
returns_nothing memory.Yield returns = let contradiction : false ≡ true = returns in cc
returns_nothing (memory.PageNew va flags) returns = let contradiction : false ≡ true = returns in cc
returns_nothing (memory.PageDrop va) returns = let contradiction : false ≡ true = returns in cc
returns_nothing memory.Unknown returns = let contradiction : false ≡ true = returns in cc

-- each of these services is one step
own_in : (v : View) (k : Slot) (b : Born) (m : MemoryService) (t : Step) → StandsAtStep v k b (service_in m) t → IsIn k b (service_in m) entered
own_in v k b (memory.Cputs va len) step.Entered h = h
own_in v k b memory.GetId step.Entered h = h
own_in v k b memory.Yield step.Entered h = h
own_in v k b (memory.PageNew va flags) step.Entered h = h
own_in v k b (memory.PageDrop va) step.Entered h = h
own_in v k b memory.Unknown step.Entered h = h
own_in v k b m (step.CountingReply id) h = absurd (hands_nothing m h.hands)
own_in v k b m (step.FileRegion done count) h = absurd (hands_nothing m h.hands)
own_in v k b m (step.FileEntry done count) h = absurd (hands_nothing m h.0.hands)
own_in v k b m (step.LoadingBytes done count) h = absurd (hands_nothing m h.has.hands)
own_in v k b m (step.LoadingRest done count first) h = absurd (hands_nothing m h.has.hands)
own_in v k b m (step.PuttingBytes done count word) h = absurd (hands_nothing m h.has.hands)
own_in v k b m (step.FileFaulting done count) h = absurd (hands_nothing m h.0.hands)
own_in v k b m (step.Returning answer) h = absurd (returns_nothing m h.goes)
own_in v k b (memory.Cputs va len) _ h = absurd h
own_in v k b memory.GetId _ h = absurd h
own_in v k b memory.Yield _ h = absurd h
own_in v k b (memory.PageNew va flags) _ h = absurd h
own_in v k b (memory.PageDrop va) _ h = absurd h
own_in v k b memory.Unknown _ h = absurd h

-- and bears no child
bears_none : (m : MemoryService) (t : Step) → borne_in (place.InService (service_in m) t) ≡ None
bears_none (memory.Cputs va len) t = refl
bears_none memory.GetId t = refl
bears_none memory.Yield t = refl
bears_none (memory.PageNew va flags) t = refl
bears_none (memory.PageDrop va) t = refl
bears_none memory.Unknown t = refl

-- nor keeps bytes in a page
holds_none : (m : MemoryService) (t : Step) → holds_page (place.InService (service_in m) t) ≡ kept_where false
holds_none (memory.Cputs va len) t = refl
holds_none memory.GetId t = refl
holds_none memory.Yield t = refl
holds_none (memory.PageNew va flags) t = refl
holds_none (memory.PageDrop va) t = refl
holds_none memory.Unknown t = refl

-- and does nothing to pipes
calm_in : (v : View) (k : Slot) (b : Born) (m : MemoryService) (t : Step) → StandsAtStep v k b (service_in m) t → is_calm_step t ≡ true
calm_in v k b (memory.Cputs va len) (step.Piped at) h = absurd h
calm_in v k b (memory.Cputs va len) step.MappingDescriptor h = absurd h
calm_in v k b memory.GetId (step.Piped at) h = absurd h
calm_in v k b memory.GetId step.MappingDescriptor h = absurd h
calm_in v k b memory.Yield (step.Piped at) h = absurd h
calm_in v k b memory.Yield step.MappingDescriptor h = absurd h
calm_in v k b (memory.PageNew va flags) (step.Piped at) h = absurd h
calm_in v k b (memory.PageNew va flags) step.MappingDescriptor h = absurd h
calm_in v k b (memory.PageDrop va) (step.Piped at) h = absurd h
calm_in v k b (memory.PageDrop va) step.MappingDescriptor h = absurd h
calm_in v k b memory.Unknown (step.Piped at) h = absurd h
calm_in v k b memory.Unknown step.MappingDescriptor h = absurd h
calm_in v k b m _ h = refl

-- an environment that is in one of them
pub record IsHere (names : Names) (s : KernelState) (a : AbstractState) (n : ℕ) (service : Service) : Type 0 where
  pub b : Born
  pub is : a.slots n ≡ born b
  pub own : StandsForBorn names s.spaces (slot_at s n) b
  pub outside : is_handlers (slot_at s n).registers.esp ≡ false
  pub unborne : borne_in (place_of (slot_at s n)) ≡ None
  pub holds : holds_page (place_of (slot_at s n)) ≡ kept_where false
  pub calm : is_calm (place_of (slot_at s n)) ≡ true
  pub at : IsIn (slot_at s n) b service entered
  pub goes : abs_step a n ≡ library_step a n b (slot_at s n).registers service entered

pub here : {names : Names} {s : KernelState} {a : AbstractState} → StandsFor names s a → (n : ℕ) (m : MemoryService) (step : Step) →
    place_of (slot_at s n) ≡ place.InService (service_in m) step → IsHere names s a n (service_in m)
here {s = s} {a = a} h n m step at =
    let begun = served h n (service_in m) step at in
    let is_in = own_in (view_of s.spaces (slot_at s n).directory) (slot_at s n) begun.b m step begun.at in
    record {
      b = begun.b;
      is = begun.is;
      own = begun.own;
      outside = begun.outside;
      unborne = ap borne_in begun.place ∙ bears_none m step;
      holds = ap holds_page begun.place ∙ holds_none m step;
      calm = ap is_calm begun.place ∙ calm_in (view_of s.spaces (slot_at s n).directory) (slot_at s n) begun.b m step begun.at;
      at = is_in;
      goes = step_in a n begun.b (slot_at s n) (service_in m) entered begun.is is_in;
    }

-- ---- its answer

-- whoever is in a service of this slot goes back to its program with an answer
pub answer_stands : {names : Names} {s : KernelState} {a : AbstractState} → StandsFor names s a → (n : ℕ) (b : Born) → a.slots n ≡ born b →
    borne_in (place_of (slot_at s n)) ≡ None → holds_page (place_of (slot_at s n)) ≡ kept_where false → is_calm (place_of (slot_at s n)) ≡ true →
    (slot_at s n).rendezvous.receiving ≡ false →
    b.blocked ≡ false → is_handlers (slot_at s n).registers.esp ≡ false → (word : ℕ) →
    StandsFor names (service_answered s n word) (back_with a n b (record (slot_at s n).registers { eax = word }))
answer_stands {s = s} h n b at unborne holds calm silent awake outside word =
    back_stands h n b at (record (slot_at s n).registers { eax = word }) unborne holds calm silent awake outside refl refl

born_twice : (a : AbstractState) (n : ℕ) (b c : Born) → with_born (with_born a n b) n c ≡ with_born a n c
born_twice a n b c = λ i. record a { slots = upd-twice a.slots n (born b) (born c) i }

-- the same where its own part has changed before
pub changed_stands : {names : Names} {s : KernelState} (a : AbstractState) (n : ℕ) (b : Born) → StandsFor names s (with_born a n b) →
    borne_in (place_of (slot_at s n)) ≡ None → holds_page (place_of (slot_at s n)) ≡ kept_where false → is_calm (place_of (slot_at s n)) ≡ true →
    (slot_at s n).rendezvous.receiving ≡ false →
    b.blocked ≡ false → is_handlers (slot_at s n).registers.esp ≡ false → (word : ℕ) →
    StandsFor names (service_answered s n word) (back_with a n b (record (slot_at s n).registers { eax = word }))
changed_stands {names = names} {s = s} a n b h unborne holds calm silent awake outside word =
    let back = record b { program = guest (record (slot_at s n).registers { eax = word }); phase = at_guest; blocked = false } in
    subst (λ (x : AbstractState). StandsFor names (service_answered s n word) x) (born_twice a n b back)
    (answer_stands h n b (upd-at a.slots n (born b)) unborne holds calm silent awake outside word)

-- ---- the call

-- What is to be shown of a call that writes these bytes and leads to a state, behind its answer to another: the abstract step,
-- which prints the bytes, and that the last state stands for the abstract one after it.
abbrev pub Leads : KernelState → ℕ → List ℕ → KernelState → KernelState → AbstractState → Type 0
Leads s n written state last a =
    (b : AbstractState) × (abs_step a n ≡ Some b) × (b.console ≡ a.console ++ written)
    × (IsInOrder state → s.last ≡ Some n → NothingRefused s last → Stands last b)

-- a call that answers in a state, and one that ends the environment
abbrev pub telling : KernelState → ℕ → List ℕ → CallStep Called
telling state word written = record { state = state; gives = got (Answered word); written = written }

abbrev pub ending : KernelState → List ℕ → CallStep Called
ending state written = record { state = state; gives = got Ended; written = written }
