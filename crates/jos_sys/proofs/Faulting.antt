-- Page faults and their handlers, over states alone.
use Rattle.std.proofs.Common.{◌≡◌, ◌≢◌, ◌∙◌, ℕ, ◌+◌, ◌-◌, ◌<◌, ◌≤◌, ◌%◌, ◌==◌, ◌&&◌, Bool, true, false, Option, Some, None, Result, Ok, Err}
use Rattle.std.specs.Result.{OnErr}
use Rattle.std.proofs.Common.{List, length, min, ◌^◌, refl, sym, ap, subst, arith}
use Rattle.std.specs.Prelude.{nat_lt, nat_le, if◌then◌else◌}
use Rattle.std.proofs.lemmas.Bool.Decides.{nat_tests}
use Rattle.jos_base.specs.declared.called.Called.TheVariants.{Ended}
use Rattle.jos_base.specs.declared.memory.Access.{Access}
use Rattle.jos_base.specs.declared.memory.Access.TheVariants.{Write}
use Rattle.jos_base.specs.declared.memory.PageFault.{PageFault}
use Rattle.jos_base.specs.declared.numbers.TheConstants.{PGSIZE, UXSTACKTOP}
use Rattle.jos_base.specs.Reach.{Entry, FrameOffset, reach_entry, allows}
use Rattle.jos_base.specs.SpacesState.{SpacesState, overlaid, with_page_bytes}
use Rattle.jos_base.specs.UserMemory.{reach_in, touched, touched_by}
use Rattle.jos_base.specs.declared.registers.Regs.{Regs}
use Rattle.jos_base.specs.TrapFrames.{upcall_place, exception_stack, frame_size, frame_words, bytes_of_words, frame_bytes, from_record, words_of_bytes}
use Rattle.jos_base.specs.Environments.{Slot, found}
use Rattle.jos_base.specs.KernelState.{KernelState, slot_at, with_registers, with_spaces, with_upcall}
use Rattle.jos_base.specs.SystemCalls.{Did, handled, handler_entered, answered, refused, killed, user_bytes, with_bytes_reached}
use Rattle.jos_base.specs.SystemCalls.{record_size, env_set_trapframe_of, env_set_trapframe_by, env_set_pgfault_upcall_of}
use Rattle.jos_base.specs.declared.errno.Errno.TheVariants.{BadEnv}
use Rattle.jos_base.specs.declared.line.Line.TheVariants.{UserMemCheck}
use Rattle.jos_sys.specs.declared.system.CallAnswer.{CallAnswer}
use Rattle.jos_sys.specs.System.{IsDone}

-- ---- the frame's place

pub place_within : (esp place : ℕ) → Some place ≡ upcall_place esp → (exception_stack ≤ place) × (place + frame_size ≤ UXSTACKTOP)
unfolding upcall_place
place_within esp place is = by_tests (nat_le exception_stack esp && nat_lt esp UXSTACKTOP) refl (nat_lt esp (exception_stack + frame_size + 4)) refl is
  where
    by_tests : (a : Bool) → (nat_le exception_stack esp && nat_lt esp UXSTACKTOP) ≡ a → (b : Bool) → nat_lt esp (exception_stack + frame_size + 4) ≡ b
        → Some place ≡ (if a then (if b then None else Some (esp - (frame_size + 4))) else Some (UXSTACKTOP - frame_size))
        → (exception_stack ≤ place) × (place + frame_size ≤ UXSTACKTOP)
    by_tests false ea b eb e = let same : place ≡ UXSTACKTOP - frame_size = cc in (omega (arith, same), omega (arith, same))
    by_tests true ea true eb e = let none : ⊥ = cc in absurd none
    by_tests true ea false eb e =
        let same : place ≡ esp - (frame_size + 4) = cc in
        let above : exception_stack + frame_size + 4 ≤ esp = grind (arith, nat_tests) in
        let below : esp < UXSTACKTOP = grind (arith, nat_tests) in
        (omega (arith, same, above), omega (arith, same, above, below))

-- where an access leads in its page
pub reached_offset : (s : SpacesState) (d va : ℕ) (access : Access) (at : FrameOffset) → Ok at ≡ reach_in s d va access → at.offset ≡ va % PGSIZE
reached_offset s d va access at is = by_entry _ is
  where
    by_test : (frame : ℕ) (b : Bool) (f : PageFault) → Ok at ≡ if◌then◌else◌ {A = Result FrameOffset PageFault} b (Ok (record { frame = frame; offset = va % PGSIZE })) (Err f) → at.offset ≡ va % PGSIZE
    by_test frame true f e = let same : ◌≡◌ {A = FrameOffset} at (record { frame = frame; offset = va % PGSIZE }) = cc in ap (λ (l : FrameOffset). l.offset) same
    by_test frame false f e = let none : ⊥ = cc in absurd none

    by_entry : (o : Option Entry) → Ok at ≡ reach_entry o va access → at.offset ≡ va % PGSIZE
    by_entry None e = let none : ⊥ = cc in absurd none
    by_entry (Some entry) e = by_test entry.frame (allows entry.perm access) _ e

-- an access that is refused sets nothing
pub refused_untouched : (s : SpacesState) (d va : ℕ) (access : Access) (fault : PageFault) → Err fault ≡ reach_in s d va access → touched s d va access ≡ s
unfolding touched
refused_untouched s d va access fault is = ap (touched_by s d va access) (sym is)

-- ---- the handler

module _ (k : KernelState) (n : ℕ) (fault : PageFault) where
  pub no_handler : (slot_at k n).upcall ≡ 0 → handled k n fault ≡ None
  unfolding handled
  no_handler none = rw none refl

  module _ (upcall : ℕ) (same : upcall ≡ (slot_at k n).upcall) (handler : upcall ≢ 0) where
    there : ((slot_at k n).upcall == 0) ≡ false
    there = grind (arith, nat_tests)

    pub no_room : None ≡ upcall_place (slot_at k n).registers.esp → handled k n fault ≡ None
    unfolding handled
    no_room none = rw (there, ← none) refl

    module _ (place : ℕ) (at_place : Some place ≡ upcall_place (slot_at k n).registers.esp) where
      pub is_entered : (r : Result FrameOffset PageFault) → r ≡ reach_in k.spaces (slot_at k n).directory place Write
          → handled k n fault ≡ handler_entered k n fault place r
      unfolding handled
      is_entered r is = rw (there, ← at_place) (ap (handler_entered k n fault place) (sym is))

-- the frame is as long as its room
pub frame_length : (fault : PageFault) (regs : Regs) → length (frame_bytes fault regs) ≡ frame_size
unfolding frame_words bytes_of_words
frame_length fault regs = refl

-- the frame is written and the handler goes on
module _ (k : KernelState) (n : ℕ) (fault : PageFault) (place : ℕ) (at : FrameOffset) (t u : SpacesState) (d : ℕ) (bytes : List ℕ) (slot : Slot)
    (same : slot ≡ slot_at k n) (space : d ≡ (slot_at k n).directory) (reached : t ≡ touched k.spaces d place Write)
    (written : u ≡ with_page_bytes t at.frame (overlaid (t.pages at.frame) at.offset bytes)) (bytes_are : bytes ≡ frame_bytes fault slot.registers) where
  reached_is : t ≡ touched k.spaces (slot_at k n).directory place Write
  reached_is = reached ∙ ap (λ z. touched k.spaces z place Write) space

  frame_is : bytes ≡ frame_bytes fault (slot_at k n).registers
  frame_is = bytes_are ∙ ap (λ (z : Slot). frame_bytes fault z.registers) same

  pub entered_is : (m : KernelState) (count : ℕ) → m ≡ with_registers (with_spaces k u) n (record slot.registers { esp = place; eip = slot.upcall })
      → count ≡ min (k.upcalls + 1) (2 ^ 64 - 1) → handler_entered k n fault place (Ok at) ≡ Some (record m { upcalls = count })
  entered_is m count now counted =
      let written_is = written ∙ (λ i. with_page_bytes (reached_is i) at.frame (overlaid ((reached_is i).pages at.frame) at.offset (frame_is i))) in
      let all = now ∙ (λ i. with_registers (with_spaces k (written_is i)) n (record (same i).registers { esp = place; eip = (same i).upcall })) in
      sym (λ i. Some (record (all i) { upcalls = counted i }))

-- ---- the calls that set registers and handlers

module _ (k j : KernelState) (n : ℕ) (answer : CallAnswer) (f : Option ℕ) where
  pub no_upcall : (address : ℕ) → None ≡ f → IsDone answer (refused k n BadEnv) j → IsDone answer (env_set_pgfault_upcall_of k n f address) j
  no_upcall address none done = subst (λ z. IsDone answer (env_set_pgfault_upcall_of k n z address) j) none done

  pub upcall_set : (target address : ℕ) → Some target ≡ f → (m : KernelState) → m ≡ with_upcall k target address → IsDone answer (answered m n 0) j
      → IsDone answer (env_set_pgfault_upcall_of k n f address) j
  upcall_set target address found m now done =
      subst (λ z. IsDone answer (env_set_pgfault_upcall_of k n z address) j) found (subst (λ z. IsDone answer (answered z n 0) j) now done)

  pub no_trapframe : (va : ℕ) → None ≡ f → IsDone answer (refused k n BadEnv) j → IsDone answer (env_set_trapframe_of k n f va) j
  no_trapframe va none done = subst (λ z. IsDone answer (env_set_trapframe_of k n z va) j) none done

  pub trapframe_set : (target va : ℕ) → Some target ≡ f → (bytes : List ℕ) → user_bytes k n va record_size ≡ Ok bytes → (registers : Regs)
      → registers ≡ from_record (words_of_bytes bytes) → (l m : KernelState) → l ≡ with_bytes_reached k n va record_size
      → m ≡ with_registers l target registers → IsDone answer (answered m n 0) j → IsDone answer (env_set_trapframe_of k n f va) j
  trapframe_set target va found bytes is registers told l m reached now done =
      subst (λ z. IsDone answer (env_set_trapframe_of k n z va) j) found
      (rw is
      (subst (λ z. IsDone answer (answered z n 0) j) (now ∙ (λ i. with_registers (reached i) target (told i))) done))

pub trapframe_unread : (k : KernelState) (n : ℕ) (f : Option ℕ) (target va : ℕ) → Some target ≡ f → (fault : PageFault)
    → user_bytes k n va record_size ≡ Err fault → env_set_trapframe_of k n f va ≡ killed k n (UserMemCheck fault.va)
trapframe_unread k n f target va found fault is =
    ap (λ z. env_set_trapframe_of k n z va) (sym found) ∙ ap (env_set_trapframe_by k n target va) is

-- the caller whose record can't be read is ended
pub unread_ended : {T E : Type 0} (answer : Result T E) (state : List ℕ → KernelState) (n id target va : ℕ) (fault : PageFault) →
    ((input : List ℕ) → Some target ≡ found (state input).environments id n true) →
    ((input : List ℕ) → user_bytes (state input) n va record_size ≡ Err fault) →
    OnErr answer ((input : List ℕ) → (env_set_trapframe_of (state input) n (found (state input).environments id n true) va).called ≡ Ended)
unfolding killed
unread_ended (Ok x) state n id target va fault there is = tt
unread_ended (Err x) state n id target va fault there is = λ input.
    ap (λ (did : Did). did.called)
    (trapframe_unread (state input) n (found (state input).environments id n true) target va (there input) fault (is input))
