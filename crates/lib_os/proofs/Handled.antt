-- An environment in the handler of page faults: what stands at its step, and that it goes on at another.
use Rattle.std.proofs.Common.{◌≡◌, ◌∙◌, ◌||◌, not, ℕ, Bool, true, refl, sym, ap, subst}
use Rattle.jos_base.specs.TrapFrames.{user_flags}
use Rattle.lib_os.specs.Fence.{is_resident}
use Rattle.std.proofs.lemmas.Bool.{false≢true}
use Rattle.jos_base.specs.declared.registers.Regs.{Regs}
use Rattle.jos_base.specs.Environments.{Slot}
use Rattle.jos_base.specs.KernelState.{KernelState, slot_at, with_registers}
use Rattle.jos_base.specs.SpacesState.{SpacesState}
use Rattle.lib_os.specs.declared.place.HandlerStep.{HandlerStep}
use Rattle.lib_os.specs.declared.place.HandlerStep.TheVariants as handler
use Rattle.lib_os.specs.declared.place.Place.{Place}
use Rattle.lib_os.specs.declared.place.Place.TheVariants as place
use Rattle.lib_os.specs.AbstractState.{AbstractState, Born, AbstractSlot, free, unborn, born, serving}
use Rattle.lib_os.specs.LibraryPages.{has_copy}
use Rattle.lib_os.specs.Places.{place_of, is_handlers, handler_registers}
use Rattle.lib_os.specs.Rows.{Names, rows_of}
use Rattle.lib_os.specs.StandingLaws.{IsHandlerStep}
use Rattle.lib_os.specs.StandsFor.{StandsFor, StandsForSlot, StandsForBorn, StandsAt, view_of, upcall_at, borne_in}
use Rattle.lib_os.specs.StandsInHandler.{IsInHandler}
use Rattle.lib_os.proofs.Children.{bears_none}
use Rattle.lib_os.proofs.Logical.{is_plain}
use Rattle.lib_os.proofs.PipesStand.{calm_places, descriptors_turned, is_calm}
use Rattle.lib_os.proofs.Serving.{library_moved}
use Rattle.lib_os.proofs.StatesStand.{plain_alike, slot_replaced}
use Rattle.lib_os.proofs.Working.{words_work}
use Rattle.lib_os.proofs.WordsTell.{handler_at, handler_runs, is_in_handler}

-- ---- where it stands

-- an environment that is in its handler, at a step
pub record IsHandled (names : Names) (s : KernelState) (a : AbstractState) (n : ℕ) (step : HandlerStep) : Type 0 where
  pub b : Born
  pub is : a.slots n ≡ born b
  pub own : StandsForBorn names s.spaces (slot_at s n) b
  pub inside : is_handlers (slot_at s n).registers.esp ≡ true
  pub at : IsInHandler step (view_of s.spaces (slot_at s n).directory) (slot_at s n) b

pub handled_part : {names : Names} {s : KernelState} {a : AbstractState} → StandsFor names s a → (n : ℕ) (step : HandlerStep) →
    place_of (slot_at s n) ≡ place.InHandler step → IsHandled names s a n step
handled_part {names = names} {s = s} {a = a} h n step at = by_slot (a.slots n) refl (h.slots n)
  where
    inside : is_handlers (slot_at s n).registers.esp ≡ true
    inside = sym (handler_runs (slot_at s n).registers (slot_at s n).extra) ∙ ap is_in_handler at

    by_slot : (slot : AbstractSlot) → a.slots n ≡ slot → StandsForSlot names s.spaces (slot_at s n) slot → IsHandled names s a n step
    by_slot (free id) is k = absurd (false≢true (sym (ap (λ (x : Slot). is_handlers x.registers.esp) k) ∙ inside))
    by_slot (unborn id parent) is k = absurd (false≢true (sym k.stack ∙ inside))
    by_slot (serving id) is k = absurd (false≢true (sym k.stack ∙ inside))
    by_slot (born b) is k = record {
      b = b;
      is = is;
      own = k;
      inside = inside;
      at = subst (λ (p : Place). StandsAt p (view_of s.spaces (slot_at s n).directory) (slot_at s n) b) at k.at;
    }

-- there nothing is done to pipes
pub handler_calm : (at : Place) → is_in_handler at ≡ true → is_calm at ≡ true
handler_calm place.Guest is = refl
handler_calm (place.InService s at) is = absurd (false≢true is)
handler_calm (place.InHandler at) is = refl

-- ---- it goes on

-- its registers at another step, ESP and EFLAGS as they were
pub esp_kept : (regs : Regs) (step : HandlerStep) → (handler_registers regs step).esp ≡ regs.esp
unfolding handler_registers
esp_kept regs handler.Entered = refl
esp_kept regs (handler.ReadingError va) = refl
esp_kept regs (handler.Looking va) = refl
esp_kept regs (handler.Taking va) = refl
esp_kept regs (handler.Loading va index) = refl
esp_kept regs (handler.Storing va index word) = refl
esp_kept regs (handler.MappingOver va) = refl
esp_kept regs (handler.Unmapping va) = refl
esp_kept regs handler.Restoring = refl
esp_kept regs (handler.ReadingIp va error) = refl
esp_kept regs (handler.Unsetting va error ip) = refl
esp_kept regs (handler.Touching va error ip) = refl

pub eflags_kept : (regs : Regs) (step : HandlerStep) → (handler_registers regs step).eflags ≡ regs.eflags
unfolding handler_registers
eflags_kept regs handler.Entered = refl
eflags_kept regs (handler.ReadingError va) = refl
eflags_kept regs (handler.Looking va) = refl
eflags_kept regs (handler.Taking va) = refl
eflags_kept regs (handler.Loading va index) = refl
eflags_kept regs (handler.Storing va index word) = refl
eflags_kept regs (handler.MappingOver va) = refl
eflags_kept regs (handler.Unmapping va) = refl
eflags_kept regs handler.Restoring = refl
eflags_kept regs (handler.ReadingIp va error) = refl
eflags_kept regs (handler.Unsetting va error ip) = refl
eflags_kept regs (handler.Touching va error ip) = refl

-- the slot of one that goes on at a step
abbrev pub handler_slot : Slot → HandlerStep → Slot
handler_slot k to = record k { registers = handler_registers k.registers to }

pub handler_place : (k : Slot) (to : HandlerStep) → is_handlers k.registers.esp ≡ true → IsHandlerStep to →
    place_of (handler_slot k to) ≡ place.InHandler to
handler_place k to inside there = handler_at k.registers k.extra to inside there

-- What it has of its own, at another step, in spaces that may be others: its memory is seen as it was, and what stands at the step is
-- given.
pub handler_own : {names : Names} {s : SpacesState} {k : Slot} {b : Born} (to : HandlerStep) → StandsForBorn names s k b →
    is_handlers k.registers.esp ≡ true → IsHandlerStep to → k.upcall ≡ upcall_at (place.InHandler to) →
    has_copy (place_of k) ≡ has_copy (place.InHandler to) →
    IsInHandler to (view_of s k.directory) (handler_slot k to) b → StandsForBorn names s (handler_slot k to) b
handler_own {names = names} {s = s} {k = k} {b = b} to own inside there upcall copy at =
    let where_it_is : place_of (handler_slot k to) ≡ place.InHandler to = handler_place k to inside there in
    record {
      id = own.id;
      id_small = own.id_small;
      parent = own.parent;
      env_type = own.env_type;
      runs = own.runs;
      upcall = upcall ∙ sym (ap upcall_at where_it_is);
      descriptors = descriptors_turned names s k.directory (place_of k) (place_of (handler_slot k to)) b.descriptors
          (handler_calm (place_of k) (handler_runs k.registers k.extra ∙ inside)) (ap is_calm where_it_is) own.descriptors;
      memory = own.memory;
      library = library_moved (place_of k) (place_of (handler_slot k to)) k.extra k.extra (rows_of s k.directory)
          (copy ∙ sym (ap has_copy where_it_is)) (words_work k (handler_registers k.registers to)) own.library;
      regions_have = own.regions_have;
      regions_only = own.regions_only;
      stack = ap (λ (c : Bool). c || not (is_resident (handler_registers k.registers to).esp)) (ap is_handlers (esp_kept k.registers to) ∙ inside);
      flags = subst (λ (f : ℕ). f ≡ user_flags f) (sym (eflags_kept k.registers to)) own.flags;
      at = subst (λ (p : Place). StandsAt p (view_of s k.directory) (handler_slot k to) b) (sym where_it_is) at;
    }

-- It goes on at a step, of which what stands is given; nothing else of the state is another.
pub handler_goes : {names : Names} {s : KernelState} {a : AbstractState} → StandsFor names s a → (n : ℕ) (from to : HandlerStep)
    (v : IsHandled names s a n from) → place_of (slot_at s n) ≡ place.InHandler from → IsHandlerStep to →
    is_plain (place.InHandler from) ≡ true → is_plain (place.InHandler to) ≡ true →
    upcall_at (place.InHandler from) ≡ upcall_at (place.InHandler to) →
    has_copy (place.InHandler from) ≡ has_copy (place.InHandler to) →
    IsInHandler to (view_of s.spaces (slot_at s n).directory) (handler_slot (slot_at s n) to) v.b →
    StandsFor names (with_registers s n (handler_registers (slot_at s n).registers to)) a
handler_goes {s = s} h n from to v stands there plain plain_to upcall copy at =
    slot_replaced h n v.b v.is (handler_slot (slot_at s n) to) refl (record { id = refl; env_type = refl; turns = refl; calm = λ runs. runs })
    (plain_alike (place_of (slot_at s n)) (place_of (handler_slot (slot_at s n) to)) (ap is_plain stands ∙ plain)
    (ap is_plain (handler_place (slot_at s n) to v.inside there) ∙ plain_to))
    (bears_none (ap borne_in stands) (ap borne_in (handler_place (slot_at s n) to v.inside there)))
    (handler_own to v.own v.inside there (v.own.upcall ∙ ap upcall_at stands ∙ upcall) (ap has_copy stands ∙ copy) at)
    (calm_places (ap is_calm stands) (ap is_calm (handler_place (slot_at s n) to v.inside there)))
