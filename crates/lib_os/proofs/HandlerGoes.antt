-- The handler of page faults goes on behind a call by which nothing that is seen changes, as a load is.
use Rattle.std.proofs.Common.{◌≡◌, ℕ, true, sym, subst}
use Rattle.jos_base.specs.declared.memory.Access.TheVariants.{Read}
use Rattle.jos_base.specs.declared.memory.PageFault.{PageFault}
use Rattle.jos_base.specs.declared.registers.Regs.{Regs}
use Rattle.jos_base.specs.Environments.{Slot}
use Rattle.jos_base.specs.KernelState.{KernelState, slot_at, with_registers, with_spaces}
use Rattle.jos_base.specs.SpacesState.{SpacesState}
use Rattle.jos_base.specs.UserMemory.{touched}
use Rattle.lib_os.specs.declared.place.HandlerStep.{HandlerStep}
use Rattle.lib_os.specs.declared.place.Place.TheVariants as place
use Rattle.lib_os.specs.AbstractState.{AbstractState, Born}
use Rattle.lib_os.specs.InOrder.{IsInOrder}
use Rattle.lib_os.specs.LibraryPages.{View, HasFrame, has_copy}
use Rattle.lib_os.specs.Places.{place_of, handler_registers}
use Rattle.lib_os.specs.Rows.{Names}
use Rattle.lib_os.specs.StandingLaws.{IsHandlerStep}
use Rattle.lib_os.specs.StandsFor.{StandsFor, view_of, upcall_at}
use Rattle.lib_os.specs.StandsInHandler.{IsInHandler, CopiesOrEnds, Copies, CopiesAt, Ends, EndsAt}
use Rattle.lib_os.proofs.DescriptorLooks.{quiet_view}
use Rattle.lib_os.proofs.Effects.{Quiet}
use Rattle.lib_os.proofs.Handled.{IsHandled, esp_kept, handler_goes, handler_slot}
use Rattle.lib_os.proofs.Loading.{loaded}
use Rattle.lib_os.proofs.Logical.{is_plain}
use Rattle.lib_os.proofs.SlotsStand.{born_at}
use Rattle.lib_os.proofs.StatesStand.{quiet_stands}
use Rattle.lib_os.proofs.Touching.{touched_quiet, touched_uses}

-- ---- what stands at another step

-- the way on which it is, at another step
pub copies_go : {from to : HandlerStep} {v : View} {k : Slot} {b : Born} {fault : PageFault} {regs : Regs} → Copies from v k b fault regs →
    CopiesAt to v fault.va → Copies to v (handler_slot k to) b fault regs
copies_go way at = record {
  beneath = way.beneath;
  error = way.error;
  inside = way.inside;
  at = at;
}

pub ends_go : {from to : HandlerStep} {v : View} {k : Slot} {b : Born} {fault : PageFault} {regs : Regs} → Ends from v k b fault regs →
    EndsAt to fault regs → Ends to v (handler_slot k to) b fault regs
ends_go way at = record {
  eax = way.eax;
  program = way.program;
  stopped = way.stopped;
  silent = way.silent;
  awake = way.awake;
  inside = way.inside;
  refused = way.refused;
  present = way.present;
  at = at;
}

-- with the frame that it has
pub stays_handled : {from to : HandlerStep} {v : View} {k : Slot} {b : Born} (at : IsInHandler from v k b) →
    CopiesOrEnds to v (handler_slot k to) b at.fault at.regs → IsInHandler to v (handler_slot k to) b
stays_handled {to = to} {v = v} {k = k} at way = record {
  fault = at.fault;
  regs = at.regs;
  frame = subst (λ (esp : ℕ). HasFrame v esp at.fault at.regs) (sym (esp_kept k.registers to)) at.frame;
  small = at.small;
  flags = at.flags;
  stack = at.stack;
  way = way;
}

-- ---- behind a call that is not seen

pub quiet_goes : {names : Names} {s : KernelState} {a : AbstractState} → StandsFor names s a → (n : ℕ) (from to : HandlerStep)
    (v : IsHandled names s a n from) (sp : SpacesState) → Quiet s.spaces sp → sp.uses ≡ s.spaces.uses → IsInOrder (with_spaces s sp) →
    place_of (slot_at s n) ≡ place.InHandler from → IsHandlerStep to →
    is_plain (place.InHandler from) ≡ true → is_plain (place.InHandler to) ≡ true →
    upcall_at (place.InHandler from) ≡ upcall_at (place.InHandler to) →
    has_copy (place.InHandler from) ≡ has_copy (place.InHandler to) →
    CopiesOrEnds to (view_of s.spaces (slot_at s n).directory) (handler_slot (slot_at s n) to) v.b v.at.fault v.at.regs →
    StandsFor names (with_registers (with_spaces s sp) n (handler_registers (slot_at s n).registers to)) a
quiet_goes {names = names} {s = s} {a = a} h n from to v sp quiet uses order stands there plain plain_to upcall copy way =
    let after : StandsFor names (with_spaces s sp) a = quiet_stands h quiet order in
    let seen = quiet_view quiet uses (slot_at s n).directory in
    let still : IsHandled names (with_spaces s sp) a n from = record {
      b = v.b;
      is = v.is;
      own = born_at after n v.b v.is;
      inside = v.inside;
      at = subst (λ (w : View). IsInHandler from w (slot_at s n) v.b) (sym seen) v.at;
    } in
    handler_goes after n from to still stands there plain plain_to upcall copy
    (subst (λ (w : View). IsInHandler to w (handler_slot (slot_at s n) to) v.b) (sym seen) (stays_handled v.at way))

-- behind a load
pub load_goes : {names : Names} {s : KernelState} {a : AbstractState} → StandsFor names s a → (n va : ℕ) (from to : HandlerStep)
    (v : IsHandled names s a n from) → IsInOrder (loaded s n va) → place_of (slot_at s n) ≡ place.InHandler from → IsHandlerStep to →
    is_plain (place.InHandler from) ≡ true → is_plain (place.InHandler to) ≡ true →
    upcall_at (place.InHandler from) ≡ upcall_at (place.InHandler to) →
    has_copy (place.InHandler from) ≡ has_copy (place.InHandler to) →
    CopiesOrEnds to (view_of s.spaces (slot_at s n).directory) (handler_slot (slot_at s n) to) v.b v.at.fault v.at.regs →
    StandsFor names (with_registers (loaded s n va) n (handler_registers (slot_at s n).registers to)) a
load_goes {s = s} h n va from to v order stands there plain plain_to upcall copy way =
    quiet_goes h n from to v (touched s.spaces (slot_at s n).directory va Read) (touched_quiet s.spaces (slot_at s n).directory va Read)
    (touched_uses s.spaces (slot_at s n).directory va Read) order
    stands there plain plain_to upcall copy way
