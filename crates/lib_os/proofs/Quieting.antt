-- The two calls that change nothing of other environments: the one that asks for the own id, and the one that gives up the turn.
use Rattle.std.proofs.Common.{◌≡◌, ◌∙◌, ℕ, true, List, [], Ok, ap}
use Rattle.jos_base.specs.declared.called.Called.{Called}
use Rattle.jos_base.specs.declared.called.Called.TheVariants.{Answered}
use Rattle.jos_base.specs.declared.environment.Status.TheVariants.{Runnable}
use Rattle.jos_base.specs.declared.numbers.TheConstants.{SYS_GETENVID, SYS_YIELD}
use Rattle.jos_base.specs.Environments.{Slot, is_live}
use Rattle.jos_base.specs.KernelState.{KernelState, slot_at, with_status}
use Rattle.lib_os.specs.UserCalls.{IsCallStep, answer_of, system, Output, Prints}
use Rattle.lib_os.proofs.Calls.{comes_to, getenvid_is, yield_is}
use Rattle.jos_base.proofs.Maps.{upd-at}

-- ---- the own id

module _ (s : KernelState) (n : ℕ) (args : List ℕ) (live : is_live (slot_at s n) ≡ true) where
  module _ (mid : KernelState) (called : Called) (output : Output)
      (call : IsCallStep (system s n SYS_GETENVID args) (Ok called) mid output) where
    asked : (called ≡ Answered (slot_at s n).id) × (mid ≡ s) × Prints output []
    asked = comes_to (system s n SYS_GETENVID args) (Answered (slot_at s n).id) called s mid [] output (getenvid_is s n live args) call

    pub own_id : answer_of called ≡ (slot_at s n).id
    own_id = ap answer_of asked.0

    pub same_state : mid ≡ s
    same_state = asked.1

    pub no_bytes : Prints output []
    no_bytes = asked.2

    pub asker_lives : (m : ℕ) → m ≡ n → is_live (slot_at mid m) ≡ true
    asker_lives m same = (λ i. is_live (slot_at (same_state i) (same i))) ∙ live

    pub asker_keeps : (slot_at mid n).registers ≡ (slot_at s n).registers
    asker_keeps = λ i. (slot_at (same_state i) n).registers

-- ---- the turn

module _ (s : KernelState) (n : ℕ) (args : List ℕ) (live : is_live (slot_at s n) ≡ true) where
  module _ (mid : KernelState) (called : Called) (output : Output)
      (call : IsCallStep (system s n SYS_YIELD args) (Ok called) mid output) where
    yielded : (called ≡ Answered 0) × (mid ≡ with_status s n Runnable) × Prints output []
    yielded = comes_to (system s n SYS_YIELD args) (Answered 0) called (with_status s n Runnable) mid [] output (yield_is s n live args) call

    pub turn_given : mid ≡ with_status s n Runnable
    turn_given = yielded.1

    pub yield_quiet : Prints output []
    yield_quiet = yielded.2

    ran : slot_at mid n ≡ record (slot_at s n) { status = Runnable }
    ran = (λ i. slot_at (turn_given i) n) ∙ upd-at s.environments.slots n (record (slot_at s n) { status = Runnable })

    pub yielder_lives : (m : ℕ) → m ≡ n → is_live (slot_at mid m) ≡ true
    yielder_lives m same = (λ i. is_live (slot_at mid (same i))) ∙ ap (λ (k : Slot). is_live k) ran

    pub yielder_keeps : (slot_at mid n).registers ≡ (slot_at s n).registers
    yielder_keeps = ap (λ (k : Slot). k.registers) ran
