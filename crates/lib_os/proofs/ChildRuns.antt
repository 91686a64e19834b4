-- An environment lets a child of its own run: the call changes nothing else.
use Rattle.std.proofs.Common.{◌≡◌, ◌≢◌, ◌∙◌, ◌==◌, ◌%◌, ◌&&◌, ◌||◌, ℕ, Bool, true, false, not, List, ◌∷◌, Option, Some, None}
use Rattle.std.proofs.Common.{refl, sym, ap, arith, if◌then◌else◌}
use Rattle.std.proofs.lemmas.Bool.Decides.{nat_tests}
use Rattle.jos_base.specs.declared.called.Called.TheVariants.{Answered}
use Rattle.jos_base.specs.declared.environment.Status.TheVariants.{Runnable}
use Rattle.jos_base.specs.declared.numbers.TheConstants.{ENV_RUNNABLE, NENV, SYS_ENV_SET_STATUS}
use Rattle.jos_base.specs.declared.registers.Regs.{Regs}
use Rattle.jos_base.specs.Environments.{Environments, Slot, found, is_live}
use Rattle.jos_base.specs.KernelState.{KernelState, slot_at, with_registers, with_slot_at, with_status}
use Rattle.jos_base.specs.SystemCalls.{Did, answered, call_of, env_set_status_of}
use Rattle.lib_os.specs.UserCalls.{asking, called_by, giving, system}
use Rattle.lib_os.proofs.Calls.{answer_is, live_still, system_is}
use Rattle.lib_os.proofs.Slots.{registers_put, slot_back, slot_kept, slots_alike, slots_swap}

-- ---- who is named

by_tests : (n m : ℕ) (zero live same first own : Bool) → zero ≡ false → live ≡ true → same ≡ true → own ≡ true →
    (if zero then Some n else if not (live && same) then None else if true && not (first || own) then None else Some m) ≡ Some m
by_tests n m zero live same first own some lives named owned = rw (some, lives, named, owned) (by_first first)
  where
    by_first : (t : Bool) → (if false then Some n else if not (true && true) then None else if true && not (t || true) then None else Some m) ≡ Some m
    by_first true = refl
    by_first false = refl

-- a child's id names it to its parent
pub child_found : (e : Environments) (id n : ℕ) → id ≢ 0 → is_live (e.slots (id % NENV)) ≡ true → (e.slots (id % NENV)).id ≡ id →
    (e.slots (id % NENV)).parent ≡ (e.slots n).id → found e id n true ≡ Some (id % NENV)
unfolding found
child_found e id n some lives named own =
    let other : (id == 0) ≡ false = grind (arith, nat_tests) in
    let same : ((e.slots (id % NENV)).id == id) ≡ true = grind (arith, nat_tests) in
    let owned : ((e.slots (id % NENV)).parent == (e.slots n).id) ≡ true = grind (arith, nat_tests) in
    by_tests n (id % NENV) (id == 0) (is_live (e.slots (id % NENV))) ((e.slots (id % NENV)).id == id) (id % NENV == n)
    ((e.slots (id % NENV)).parent == (e.slots n).id) other lives same owned

-- ---- the call

module _ (s : KernelState) (n id : ℕ) (live : is_live (slot_at s n) ≡ true) (some : id ≢ 0) (apart : id % NENV ≢ n)
    (child_lives : is_live (slot_at s (id % NENV)) ≡ true) (named : (slot_at s (id % NENV)).id ≡ id)
    (own : (slot_at s (id % NENV)).parent ≡ (slot_at s n).id) where
  abbrev m : ℕ
  m = id % NENV

  -- the caller's registers are taken back
  taken : (q : Regs) →
      called_by n false (slot_at s n).registers (answered (with_status (with_registers s n q) m Runnable) n 0)
      ≡ giving (with_status s m Runnable) (Answered 0)
  taken q =
      let mine : Slot = record (slot_at s n) { registers = q } in
      let k : KernelState = with_registers s n q in
      let theirs : Slot = record (slot_at k m) { status = Runnable } in
      let t : KernelState = with_status k m Runnable in
      let regs : Regs = (slot_at s n).registers in
      let beside : n ≢ m = λ same. apart (sym same) in
      let lives : is_live (slot_at t n) ≡ true = ap (λ (x : Slot). is_live x) (slot_kept k m theirs n beside) ∙ live_still s n live q in
      let back : with_registers t n regs ≡ with_slot_at s m theirs =
      ap (λ (z : KernelState). with_registers z n regs) (slots_swap s n m mine theirs beside)
      ∙ registers_put (with_slot_at s m theirs) n mine regs
      ∙ slot_back (with_slot_at s m theirs) n (record mine { registers = regs }) (sym (slot_kept s m theirs n beside)) in
      let state : with_registers t n regs ≡ with_status s m Runnable =
      back ∙ ap (λ (x : Slot). with_slot_at s m (record x { status = Runnable })) (slot_kept s n mine m apart) in
      answer_is t n regs 0 lives ∙ ap (λ (after : KernelState). giving after (Answered 0)) state

  -- env_set_status(id, RUNNABLE), where the id is that of a child
  pub child_runs_is : (rest : List ℕ) → system s n SYS_ENV_SET_STATUS (id ∷ ENV_RUNNABLE ∷ rest) ≡ giving (with_status s m Runnable) (Answered 0)
  unfolding call_of
  child_runs_is rest =
      let q : Regs = asking (slot_at s n).registers SYS_ENV_SET_STATUS (id ∷ ENV_RUNNABLE ∷ rest) in
      let k : KernelState = with_registers s n q in
      let mine : Slot = record (slot_at s n) { registers = q } in
      let did : Did = answered (with_status k m Runnable) n 0 in
      let same = slots_alike s n (λ (x : Slot). x.id) mine refl in
      let found_is : found k.environments id n true ≡ Some m =
      child_found k.environments id n some (slots_alike s n (λ (x : Slot). is_live x) mine refl m ∙ child_lives) (same m ∙ named)
      (slots_alike s n (λ (x : Slot). x.parent) mine refl m ∙ own ∙ sym (same n)) in
      system_is s n SYS_ENV_SET_STATUS (id ∷ ENV_RUNNABLE ∷ rest) did refl
      (ap (λ (o : Option ℕ). env_set_status_of k n o (Some Runnable)) found_is)
      ∙ taken q
