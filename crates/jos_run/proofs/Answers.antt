-- A system call that is served is one step, and so are registers taken back, over states alone.
use Rattle.std.proofs.Common.{◌≡◌, ◌≢◌, ◌∙◌, ◌+◌, ℕ, Bool, true, List, [], Option, Result, Ok, Err}
use Rattle.std.proofs.Common.{refl, sym, ap, subst}
use Rattle.std.specs.Prelude.{◌-◌, ◌^◌, min}
use Rattle.jos_host.specs.declared.host.Failed.{Failed}
use Rattle.jos_host.specs.Frames.{Around}
use Rattle.jos_base.specs.declared.called.Called.TheVariants.{Ended}
use Rattle.jos_base.specs.declared.memory.PageFault.{PageFault}
use Rattle.jos_base.specs.declared.numbers.TheConstants.{SYS_CPUTS}
use Rattle.jos_base.specs.declared.registers.Regs.{Regs}
use Rattle.jos_base.specs.Environments.{Slot}
use Rattle.jos_base.specs.KernelState.{KernelState, slot_at, with_registers}
use Rattle.jos_base.specs.SystemCalls.{system_call, user_bytes, with_bytes_reached, may_print}
use Rattle.jos_base.specs.TrapFrames.{frame_size, from_frame, words_of_bytes}
use Rattle.jos_sys.specs.declared.system.CallAnswer.{CallAnswer}
use Rattle.jos_sys.specs.System.{Does}
use Rattle.lib_os.specs.declared.user_os.Stop.{Stop}
use Rattle.lib_os.specs.UserCalls as call
use Rattle.lib_os.specs.UserCalls.{IsStep, IsCallStep, Output, Prints, got, asking, sets_own, taken_back, restored}
use Rattle.lib_os.proofs.Slots.{slot_put}
use Rattle.jos_run.specs.Served.{IsRaised}
use Rattle.jos_run.proofs.Accesses.{faulted_step}
use Rattle.jos_run.proofs.Printed.{printed, prints}

-- ---- system calls

module _ (s asked mid after : KernelState) (n number : ℕ) (args : List ℕ) (console : Around (Option (List ℕ))) (counted now : ℕ) (kept given : Regs)
    (kept_is : kept ≡ (slot_at s n).registers) (given_is : given ≡ asking kept number args) (asked_is : asked ≡ with_registers s n given) where
  -- the state in which the call is made
  state_is : asked ≡ with_registers s n (asking (slot_at s n).registers number args)
  state_is = asked_is ∙ ap (with_registers s n) (given_is ∙ ap (λ (regs : Regs). asking regs number args) kept_is)

  -- the host failed
  pub failed_step : (failed : Failed) → Does (Err failed) (system_call asked n) mid console →
      IsCallStep (call.system s n number args) (Err failed) after (printed console counted now)
  unfolding call.system
  failed_step failed done = subst (λ (k : KernelState). Does (Err failed) (system_call k n) mid console) state_is done

  -- in a call that may print
  eax_is : (slot_at asked n).registers.eax ≡ number
  eax_is =
      ap (λ (k : KernelState). (slot_at k n).registers.eax) asked_is
      ∙ ap (λ (slot : Slot). slot.registers.eax) (slot_put s n (record (slot_at s n) { registers = given }))
      ∙ ap (λ (regs : Regs). regs.eax) given_is

  pub failed_prints : may_print (slot_at asked n).registers.eax ≡ true → may_print number ≡ true
  failed_prints may = ap (λ (x : ℕ). may_print x) (sym eax_is) ∙ may

  -- and unless that is cputs, the caller is ended
  pub failed_ended : ((slot_at asked n).registers.eax ≢ SYS_CPUTS → (system_call asked n).called ≡ Ended) →
      number ≢ SYS_CPUTS → (call.system s n number args).gives ≡ got Ended
  unfolding call.system
  failed_ended ended other =
      ap got (ap (λ (k : KernelState). (system_call k n).called) (sym state_is) ∙ ended (λ is. other (sym eax_is ∙ is)))

  -- it is answered, and the registers are taken back
  pub answered_step : (answer : CallAnswer) (own : Bool) → own ≡ sets_own s n number args → after ≡ taken_back mid n own kept →
      now ≡ min (counted + answer.written) (2 ^ 64 - 1) → Does (Ok answer) (system_call asked n) mid console →
      IsCallStep (call.system s n number args) (Ok answer.called) after (printed console counted now)
  unfolding call.system
  answered_step answer own own_is back more done =
      let did = subst (λ (k : KernelState). Does (Ok answer) (system_call k n) mid console) state_is done in
      (ap got (sym did.1), back ∙ (λ i. taken_back (did.0 i) n (own_is i) (kept_is i)), prints console counted now answer.written _ did.2 more did.3)

-- ---- registers of a frame

module _ (s : KernelState) (n esp : ℕ) (esp_is : esp ≡ (slot_at s n).registers.esp) where
  -- a frame that can't be read
  pub unread_step : (after : KernelState) (output : Output) (fault : PageFault) (why : Stop) → user_bytes s n esp frame_size ≡ Err fault →
      IsRaised s n fault why after output → IsStep (call.restore_frame s n) (Err why) after output
  unfolding call.restore_frame
  unread_step after output fault why read raised =
      let there : user_bytes s n (slot_at s n).registers.esp frame_size ≡ Err fault = ap (λ (va : ℕ). user_bytes s n va frame_size) (sym esp_is) ∙ read in
      subst (λ (r : Result (List ℕ) PageFault). IsStep (restored s n r) (Err why) after output) (sym there) (faulted_step (Unit {0}) s after n output fault why raised)

  -- a frame that is read
  pub restored_step : (mid after : KernelState) (bytes words : List ℕ) (output : Output) → Prints output [] → user_bytes s n esp frame_size ≡ Ok bytes →
      mid ≡ with_bytes_reached s n esp frame_size → words ≡ words_of_bytes bytes → after ≡ with_registers mid n (from_frame words) →
      IsStep (call.restore_frame s n) (Ok tt) after output
  unfolding call.restore_frame
  restored_step mid after bytes words output quiet read reached words_are set =
      let there : user_bytes s n (slot_at s n).registers.esp frame_size ≡ Ok bytes = ap (λ (va : ℕ). user_bytes s n va frame_size) (sym esp_is) ∙ read in
      let state_is : after ≡ with_registers (with_bytes_reached s n (slot_at s n).registers.esp frame_size) n (from_frame (words_of_bytes bytes)) =
      set ∙ (λ i. with_registers (reached i) n (from_frame (words_are i))) ∙ ap (λ (va : ℕ). with_registers (with_bytes_reached s n va frame_size) n (from_frame (words_of_bytes bytes))) esp_is in
      subst (λ (r : Result (List ℕ) PageFault). IsStep (restored s n r) (Ok tt) after output) (sym there) (refl, state_is, quiet)
