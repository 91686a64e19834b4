-- An environment sets that it handles its page faults no more: the call changes nothing else, and its handler goes on to where it raises
-- the fault again.
use Rattle.std.proofs.Common.{◌≡◌, ◌∙◌, ◌||◌, ℕ, Bool, true, false, not, List, ◌∷◌, refl, sym, ap, subst}
use Rattle.jos_base.specs.declared.called.Called.TheVariants.{Answered}
use Rattle.jos_base.specs.declared.numbers.TheConstants.{SYS_ENV_SET_PGFAULT_UPCALL}
use Rattle.jos_base.specs.declared.registers.Regs.{Regs}
use Rattle.jos_base.specs.Environments.{Slot, is_live, found, with_answer}
use Rattle.jos_base.specs.KernelState.{KernelState, slot_at, with_registers, with_slot_at, with_upcall}
use Rattle.jos_base.specs.SystemCalls.{Did, answered, call_of}
use Rattle.jos_base.specs.TrapFrames.{user_flags}
use Rattle.lib_os.specs.declared.place.HandlerStep.{HandlerStep}
use Rattle.lib_os.specs.declared.place.HandlerStep.TheVariants as handler
use Rattle.lib_os.specs.declared.place.Place.{Place}
use Rattle.lib_os.specs.declared.place.Place.TheVariants as place
use Rattle.lib_os.specs.AbstractState.{AbstractState}
use Rattle.lib_os.specs.Fence.{is_resident}
use Rattle.lib_os.specs.LibraryPages.{View, HasFrame, has_copy}
use Rattle.lib_os.specs.Places.{place_of, is_handlers, handler_registers}
use Rattle.lib_os.specs.Rows.{Names, rows_of}
use Rattle.lib_os.specs.StandsFor.{StandsFor, StandsForBorn, StandsAt, view_of, upcall_at, borne_in}
use Rattle.lib_os.specs.StandsInHandler.{IsInHandler, Ends, ends}
use Rattle.lib_os.specs.UserCalls.{asking, called_by, giving, system}
use Rattle.lib_os.proofs.Calls.{caller_is, given_back, system_is}
use Rattle.lib_os.proofs.Handled.{IsHandled, eflags_kept, esp_kept, handler_place, handler_slot}
use Rattle.lib_os.proofs.Children.{bears_none}
use Rattle.lib_os.proofs.Logical.{is_plain}
use Rattle.lib_os.proofs.PipesStand.{calm_places, descriptors_turned, is_calm}
use Rattle.lib_os.proofs.Serving.{library_moved}
use Rattle.lib_os.proofs.Slots.{registers_put, slot_put}
use Rattle.lib_os.proofs.SlotsSet.{set_twice}
use Rattle.lib_os.proofs.StatesStand.{plain_alike, slot_replaced}
use Rattle.lib_os.proofs.Working.{words_work}

-- ---- the call

-- the slot without a handler
abbrev unset : Slot → Slot
unset k = record k { upcall = 0 }

module _ (s : KernelState) (n : ℕ) (live : is_live (slot_at s n) ≡ true) where
  -- the caller's registers are taken back
  taken : (q : Regs) →
      called_by n false (slot_at s n).registers (answered (with_upcall (with_registers s n q) n 0) n 0) ≡ giving (with_upcall s n 0) (Answered 0)
  taken q =
      let k : KernelState = with_registers s n q in
      let t : KernelState = with_upcall k n 0 in
      let told : Slot = with_answer (slot_at t n) 0 in
      let regs : Regs = (slot_at s n).registers in
      let here : slot_at t n ≡ unset (record (slot_at s n) { registers = q }) = slot_put k n (unset (slot_at k n)) ∙ ap unset (caller_is s n q) in
      let lives : is_live (slot_at (with_slot_at t n told) n) ≡ true =
      ap (λ (x : Slot). is_live x) (slot_put t n told) ∙ ap (λ (x : Slot). is_live x) here ∙ live in
      let state : with_registers (with_slot_at t n told) n regs ≡ with_upcall s n 0 =
      registers_put t n told regs
      ∙ set_twice k n (unset (slot_at k n)) (record told { registers = regs })
      ∙ set_twice s n (record (slot_at s n) { registers = q }) (record told { registers = regs })
      ∙ (λ i. with_slot_at s n (record (here i) { registers = regs })) in
      ap (λ (after : KernelState). giving after (Answered 0)) (given_back (with_slot_at t n told) n regs lives ∙ state)

  -- env_set_pgfault_upcall(0, 0)
  pub upcall_unset_is : (rest : List ℕ) → system s n SYS_ENV_SET_PGFAULT_UPCALL (0 ∷ 0 ∷ rest) ≡ giving (with_upcall s n 0) (Answered 0)
  unfolding call_of found
  upcall_unset_is rest =
      let q : Regs = asking (slot_at s n).registers SYS_ENV_SET_PGFAULT_UPCALL (0 ∷ 0 ∷ rest) in
      let did : Did = answered (with_upcall (with_registers s n q) n 0) n 0 in
      system_is s n SYS_ENV_SET_PGFAULT_UPCALL (0 ∷ 0 ∷ rest) did refl refl ∙ taken q

-- ---- behind it

module _ {names : Names} {s : KernelState} {a : AbstractState} (h : StandsFor names s a) (n va error ip : ℕ) where
  abbrev from : HandlerStep
  from = handler.Unsetting va error ip

  abbrev to : HandlerStep
  to = handler.Touching va error ip

  abbrev k : Slot
  k = slot_at s n

  abbrev after : Slot
  after = record (handler_slot k to) { upcall = 0 }

  module _ (v : IsHandled names s a n from) (stands : place_of k ≡ place.InHandler from)
      (way : Ends from (view_of s.spaces k.directory) k v.b v.at.fault v.at.regs) where
    there : place_of after ≡ place.InHandler to
    there = handler_place (unset k) to v.inside tt

    abbrev view : View
    view = view_of s.spaces k.directory

    ends_there : Ends to view after v.b v.at.fault v.at.regs
    ends_there = record {
      eax = way.eax;
      program = way.program;
      stopped = way.stopped;
      silent = way.silent;
      awake = way.awake;
      inside = way.inside;
      refused = way.refused;
      present = way.present;
      at = way.at;
    }

    at_end : IsInHandler to view after v.b
    at_end = record {
      fault = v.at.fault;
      regs = v.at.regs;
      frame = subst (λ (esp : ℕ). HasFrame view esp v.at.fault v.at.regs) (sym (esp_kept k.registers to)) v.at.frame;
      small = v.at.small;
      flags = v.at.flags;
      stack = v.at.stack;
      way = ends ends_there;
    }

    own : StandsForBorn names s.spaces after v.b
    own = record {
      id = v.own.id;
      id_small = v.own.id_small;
      parent = v.own.parent;
      env_type = v.own.env_type;
      runs = v.own.runs;
      upcall = sym (ap upcall_at there);
      descriptors = descriptors_turned names s.spaces k.directory (place_of k) (place_of after) v.b.descriptors (ap is_calm stands) (ap is_calm there)
          v.own.descriptors;
      memory = v.own.memory;
      library = library_moved (place_of k) (place_of after) k.extra k.extra (rows_of s.spaces k.directory)
          (ap has_copy stands ∙ sym (ap has_copy there)) (words_work k (handler_registers k.registers to)) v.own.library;
      regions_have = v.own.regions_have;
      regions_only = v.own.regions_only;
      stack = ap (λ (c : Bool). c || not (is_resident (handler_registers k.registers to).esp)) (ap is_handlers (esp_kept k.registers to) ∙ v.inside);
      flags = subst (λ (f : ℕ). f ≡ user_flags f) (sym (eflags_kept k.registers to)) v.own.flags;
      at = subst (λ (p : Place). StandsAt p view after v.b) (sym there) at_end;
    }

    set_stands : StandsFor names (with_slot_at s n after) a
    set_stands =
        slot_replaced h n v.b v.is after refl (record { id = refl; env_type = refl; turns = refl; calm = λ runs. runs })
        (plain_alike (place_of k) (place_of after) (ap is_plain stands) (ap is_plain there))
        (bears_none (ap borne_in stands) (ap borne_in there)) own (calm_places (ap is_calm stands) (ap is_calm there))

    pub unset_stands : StandsFor names (with_registers (with_upcall s n 0) n (handler_registers (slot_at (with_upcall s n 0) n).registers to)) a
    unset_stands =
        let here : slot_at (with_upcall s n 0) n ≡ unset k = slot_put s n (unset k) in
        let same : with_registers (with_upcall s n 0) n (handler_registers (slot_at (with_upcall s n 0) n).registers to) ≡ with_slot_at s n after =
        ap (λ (x : Slot). with_registers (with_upcall s n 0) n (handler_registers x.registers to)) here
        ∙ registers_put s n (unset k) (handler_registers k.registers to) in
        subst (λ (t : KernelState). StandsFor names t a) (sym same) set_stands
