-- What a caller is answered, over states alone.
use Rattle.std.proofs.Common.{◌≡◌, ◌≢◌, ◌∙◌, ℕ, ◌+◌, ◌-◌, ◌%◌, ◌==◌, Bool, true, false, not, ◌&&◌, Option, Some, None, Ok, Err}
use Rattle.std.proofs.Common.{◌<◌, ◌≤◌, List, [], ◌∷◌, ◌++◌, length, nat_lt, refl, sym, ap, subst, arith, eq-eqb}
use Rattle.std.specs.Option.{option_map}
use Rattle.std.proofs.lemmas.List.{append-nil}
use Rattle.jos_host.specs.Frames.{from_to}
use Rattle.jos_base.specs.declared.memory.PageFault.{PageFault}
use Rattle.std.specs.Prelude.{if◌then◌else◌, Result}
use Rattle.std.proofs.lemmas.Bool.Decides.{nat_tests}
use Rattle.jos_base.specs.declared.registers.Regs.{Regs}
use Rattle.jos_base.specs.declared.environment.Status.{Status}
use Rattle.jos_base.specs.declared.errno.Errno.{Errno}
use Rattle.jos_base.specs.declared.errno.Errno.TheVariants.{BadEnv, Invalid, NoMem, NoFreeEnv, IpcNotRecv, NotFound, BadPath}
use Rattle.jos_base.specs.declared.called.Called.TheVariants.{Ended}
use Rattle.jos_base.specs.declared.numbers.TheConstants.{NENV, CPUTS_MAX}
use Rattle.jos_base.specs.Words.{negated}
use Rattle.jos_base.specs.Environments.{Environments, Slot, is_live, found, found_at, may_change}
use Rattle.jos_base.specs.KernelState.{KernelState, slot_at, with_status, with_registers, with_refusal}
use Rattle.jos_base.specs.SystemCalls.{Did, error_number, answered, refused, without_environment, env_destroy_of}
use Rattle.jos_base.specs.SystemCalls.{environment_made, exofork, env_set_status_of, cputs, cputs_of, cgetc_from}
use Rattle.jos_base.specs.SystemCalls.{user_bytes, with_bytes_reached}
use Rattle.jos_sys.specs.declared.system.CallAnswer.{CallAnswer}
use Rattle.jos_sys.specs.System.{IsDone, Does, IsTaken}
use Rattle.jos_base.proofs.Maps.{upd-at}

pub negated_is : (error : Errno) (code : ℕ) → code ≡ error_number error → 4294967295 - code + 1 ≡ negated (error_number error)
negated_is BadEnv code e = omega arith
negated_is Invalid code e = omega arith
negated_is NoMem code e = omega arith
negated_is NoFreeEnv code e = omega arith
negated_is IpcNotRecv code e = omega arith
negated_is NotFound code e = omega arith
negated_is BadPath code e = omega arith

-- ---- who is live

named_at : (live own refused : Bool) (n target : ℕ) → Some target ≡ (if not (live && own) then None else if refused then None else Some n)
    → (live ≡ true) × (target ≡ n)
named_at true true false n target e = (refl, cc)
named_at true true true n target e = let no : ⊥ = cc in absurd no
named_at true false refused n target e = let no : ⊥ = cc in absurd no
named_at false own refused n target e = let no : ⊥ = cc in absurd no

-- an environment that is found is live
pub found_live : (e : Environments) (id caller : ℕ) (control : Bool) (target : ℕ) → Some target ≡ found e id caller control
    → is_live (e.slots caller) ≡ true → is_live (e.slots target) ≡ true
unfolding found
found_live e id caller control target is live = by_name (id == 0) is
  where
    by_name : (own : Bool) → Some target ≡ (if own then Some caller else found_at e id (id % NENV) caller control) → is_live (e.slots target) ≡ true
    by_name true it = let same : target ≡ caller = cc in ap (λ z. is_live (e.slots z)) same ∙ live
    by_name false it =
        let at = named_at (is_live (e.slots (id % NENV))) ((e.slots (id % NENV)).id == id) (control && not (may_change e caller (id % NENV))) (id % NENV) target it in
        ap (λ z. is_live (e.slots z)) at.1 ∙ at.0

-- ---- answers

-- a refusal in a state that is another's
pub refused_in : (k m j : KernelState) (n : ℕ) (answer : CallAnswer) (error : Errno) → m ≡ k → IsDone answer (refused m n error) j
    → IsDone answer (refused k n error) j
refused_in k m j n answer error same done = subst (λ z. IsDone answer (refused z n error) j) same done

pub self_destroyed : (k j : KernelState) (n target : ℕ) (f : Option ℕ) → Some target ≡ f → target ≡ n → j ≡ without_environment k target
    → IsDone (record { called = Ended; written = 0 }) (env_destroy_of k n f) j
self_destroyed k j n target f found same now =
    let test : (target == n) ≡ true = eq-eqb target n same in
    subst (λ z. IsDone (record { called = Ended; written = 0 }) (env_destroy_of k n z) j) found
    (rw test (now ∙ ap (without_environment k) same, refl, refl, refl))

module _ (k j : KernelState) (n : ℕ) (answer : CallAnswer) where
  module _ (f : Option ℕ) where
    pub none_destroyed : None ≡ f → IsDone answer (refused k n BadEnv) j → IsDone answer (env_destroy_of k n f) j
    none_destroyed none done = subst (λ z. IsDone answer (env_destroy_of k n z) j) none done

    pub other_destroyed : (target : ℕ) (m : KernelState) → Some target ≡ f → target ≢ n → m ≡ without_environment k target → IsDone answer (answered m n 0) j → IsDone answer (env_destroy_of k n f) j
    other_destroyed target m found other now done =
        let test : (target == n) ≡ false = grind (arith, nat_tests) in
        subst (λ z. IsDone answer (env_destroy_of k n z) j) found
        (rw test (subst (λ z. IsDone answer (answered z n 0) j) now done))

    pub none_set : (status : Option Status) → None ≡ f → IsDone answer (refused k n BadEnv) j → IsDone answer (env_set_status_of k n f status) j
    none_set status none done = subst (λ z. IsDone answer (env_set_status_of k n z status) j) none done

    pub wrong_set : (target : ℕ) (status : Option Status) → Some target ≡ f → status ≡ None → IsDone answer (refused k n Invalid) j → IsDone answer (env_set_status_of k n f status) j
    wrong_set target status found wrong done =
        subst (λ z. IsDone answer (env_set_status_of k n z status) j) found
        (subst (λ z. IsDone answer (env_set_status_of k n (Some target) z) j) (sym wrong) done)

    pub status_set : (target : ℕ) (status : Option Status) (it : Status) (m : KernelState) → Some target ≡ f → status ≡ Some it → m ≡ with_status k target it
        → IsDone answer (answered m n 0) j → IsDone answer (env_set_status_of k n f status) j
    status_set target status it m found right now done =
        subst (λ z. IsDone answer (env_set_status_of k n z status) j) found
        (subst (λ z. IsDone answer (env_set_status_of k n (Some target) z) j) (sym right)
        (subst (λ z. IsDone answer (answered z n 0) j) now done))

  pub forked : (child id : ℕ) (regs : Regs) (m b : KernelState) → environment_made k (slot_at k n).id ≡ Ok (child, m)
      → regs ≡ (slot_at k n).registers → b ≡ with_registers m child (record regs { eax = 0 }) → id ≡ (slot_at b child).id
      → IsDone answer (answered b n id) j → IsDone answer (exofork k n) j
  forked child id regs m b made same now named done =
      let kept : id ≡ (slot_at m child).id = named ∙ ap (λ z. (slot_at z child).id) now ∙ ap (λ (z : Slot). z.id) (upd-at m.environments.slots child _) in
      rw made
      (subst (λ z. IsDone answer (answered z n (slot_at m child).id) j) (now ∙ ap (λ (r : Regs). with_registers m child (record r { eax = 0 })) same)
      (subst (λ z. IsDone answer (answered b n z) j) kept done))

  pub unforked : (error : Errno) (m : KernelState) → environment_made k (slot_at k n).id ≡ Err error → m ≡ with_refusal k
      → IsDone answer (refused m n error) j → IsDone answer (exofork k n) j
  unforked error m made now done = rw made (subst (λ z. IsDone answer (refused z n error) j) now done)

-- ---- what is written

nothing_gained : (console : Option (List ℕ)) (bytes : List ℕ) → bytes ≡ [] → console ≡ option_map (λ told. told ++ bytes) console
nothing_gained None bytes none = refl
nothing_gained (Some told) bytes none = ap (λ z. Some z) (sym (ap (λ z. told ++ z) none ∙ append-nil told))

-- what writes nothing is done, whatever the console is
pub done_does : (answer : CallAnswer) (did : Did) (j : KernelState) (console : Option (List ℕ)) → IsDone answer did j → Does (Ok answer) did j (from_to console console)
done_does answer did j console done =
    (done.0, done.1, done.2 ∙ sym (ap length done.3), nothing_gained console did.written done.3)

-- the same, where the call is known to be this
pub call_does : {answer : CallAnswer} {did : Did} {j : KernelState} {console : Option (List ℕ)} (call : Did) → call ≡ did → IsDone answer did j
    → Does (Ok answer) call j (from_to console console)
call_does {answer = answer} {did = did} {j = j} {console = console} call is done =
    subst (λ d. Does (Ok answer) d j (from_to console console)) (sym is) (done_does answer did j console done)

pub none_is_few : {written : ℕ} → written ≡ 0 → written ≤ CPUTS_MAX
none_is_few none = omega arith

module _ (k : KernelState) (n va len : ℕ) where
  pub cputs_refused : CPUTS_MAX < len → cputs k n va len ≡ refused k n Invalid
  cputs_refused many = let test : nat_lt CPUTS_MAX len ≡ true = grind (arith, nat_tests) in rw test refl

  pub cputs_reads : (read : Result (List ℕ) PageFault) → len ≤ CPUTS_MAX → user_bytes k n va len ≡ read → cputs k n va len ≡ cputs_of k n va len read
  cputs_reads read few is =
      let test : nat_lt CPUTS_MAX len ≡ false = grind (arith, nat_tests) in
      rw test (ap (cputs_of k n va len) is)

  -- the caller has its answer after its bytes were reached
  pub cputs_answered : (j m : KernelState) (bytes : List ℕ) (answer : CallAnswer) → len ≤ CPUTS_MAX → user_bytes k n va len ≡ Ok bytes
      → m ≡ with_bytes_reached k n va len → IsDone answer (answered m n 0) j
      → (j ≡ (cputs k n va len).state) × (answer.called ≡ (cputs k n va len).called) × (bytes ≡ (cputs k n va len).written)
  cputs_answered j m bytes answer few is reached done =
      let it : cputs k n va len ≡ cputs_of k n va len (Ok bytes) = cputs_reads (Ok bytes) few is in
      (done.0 ∙ ap (λ z. (answered z n 0).state) reached ∙ ap (λ z. z.state) (sym it), done.1 ∙ ap (λ z. z.called) (sym it), ap (λ z. z.written) (sym it))

-- ---- the console's input

-- the caller gets what is taken
pub cgetc_is : (k : KernelState) (n byte : ℕ) (left after : List ℕ) → k.input ≡ left → IsTaken left byte after
    → cgetc_from k n left ≡ answered (record k { input = after }) n byte
cgetc_is k n byte [] after input taken =
    sym (ap (λ z. answered (record k { input = z }) n byte) (taken.1 ∙ sym input) ∙ ap (answered k n) taken.0)
cgetc_is k n byte (next ∷ rest) after input taken =
    sym (ap (λ z. answered (record k { input = z }) n byte) taken.1 ∙ ap (answered (record k { input = rest }) n) taken.0)
