-- The caller of a system call lives on with its registers, whoever the call is for, but where it destroys itself.
use Rattle.std.proofs.Common.{◌≡◌, ◌≢◌, ◌∙◌, ◌+◌, ◌-◌, ◌^◌, ◌==◌, ◌⊎◌, inl, inr, ℕ, Bool, true, false, not, List, [], ◌∷◌, length, Option, Some, None}
use Rattle.std.proofs.Common.{refl, sym, ap, subst, arith, if◌then◌else◌}
use Rattle.std.specs.Prelude.{min}
use Rattle.jos_host.specs.Frames.{from_to}
use Rattle.std.proofs.lemmas.Bool.Decides.{nat_tests}
use Rattle.jos_base.specs.declared.called.Called.{Called}
use Rattle.jos_base.specs.declared.called.Called.TheVariants.{Ended}
use Rattle.jos_base.specs.declared.environment.Status.TheVariants.{Runnable}
use Rattle.jos_base.specs.declared.numbers.TheConstants.{ENV_RUNNABLE, SYS_ENV_DESTROY, SYS_ENV_SET_PGFAULT_UPCALL, SYS_ENV_SET_STATUS}
use Rattle.jos_base.specs.declared.numbers.TheConstants.{SYS_EXOFORK, SYS_PAGE_ALLOC, SYS_PAGE_MAP}
use Rattle.jos_base.specs.declared.registers.Regs.{Regs}
use Rattle.jos_base.specs.Environments.{Slot, allotted, allotted_from, found, free_slot, is_live, new_slot, next_id}
use Rattle.jos_base.specs.KernelState.{KernelState, slot_at, with_directory, with_refusal, with_registers, with_spaces, with_status, with_upcall}
use Rattle.jos_base.specs.Reach.{Entry}
use Rattle.jos_base.specs.SpacesState.{SpacesState, allocated, created, created_from, directory}
use Rattle.jos_base.specs.SystemCalls.{Did, answered_with, call_of, entry_at, env_destroy_of, env_set_pgfault_upcall_of, env_set_status_of}
use Rattle.jos_base.specs.SystemCalls.{environment_made, exofork, exofork_of, inserted_at, made_of, without_environment}
use Rattle.jos_base.specs.SystemCalls.{is_page_address, is_page_perm, page_alloc_of, page_map_by, page_map_of, second_of, shared_entry}
use Rattle.jos_base.specs.Words.{page_number, upd}
use Rattle.lib_os.specs.UserCalls.{CallStep, Output, asking, called_by, got, load, system}
use Rattle.lib_os.proofs.Calls.{live_still, system_is}
use Rattle.lib_os.proofs.Loading.{loaded, loaded_state}
use Rattle.lib_os.proofs.Slots.{slots_alike}
use Rattle.lib_os.proofs.Trying.{IsAnswered, answer_called}
use Rattle.jos_base.proofs.Maps.{upd-all, upd-other}

-- ---- a load

-- an output in which these bytes were printed
abbrev printing : List ℕ → Output
printing bytes = record { console = from_to None None; count = from_to 0 (min (0 + length bytes) (2 ^ 64 - 1)) }

-- one that gives a word changes nothing but what is seen of no space
pub load_gives : (s : KernelState) (n va word : ℕ) → (load s n va).gives ≡ got word → (load s n va).state ≡ loaded s n va
load_gives s n va word is =
    loaded_state s (load s n va).state n va word (printing (load s n va).written) (is, refl, record { gains = refl; counted = refl })

-- ---- by what a system call does

module _ (k : KernelState) (n : ℕ) (regs : Regs) (live : is_live (slot_at k n) ≡ true) where
  -- it is answered, and has these registers
  abbrev Stays : Did → Type 0
  Stays did = IsAnswered (called_by n false regs did) n regs

  by_case : (t : Bool) (a b : Did) → Stays a → Stays b → Stays (if t then a else b)
  by_case true a b first second = first
  by_case false a b first second = second

  spaces_stay : (spaces : Option SpacesState) → Stays (answered_with k n spaces)
  spaces_stay None = answer_called (with_refusal k) n regs _ live
  spaces_stay (Some spaces) = answer_called (with_spaces k spaces) n regs 0 live

  alloc_stays : (target : Option ℕ) (va perm : ℕ) → Stays (page_alloc_of k n target va perm)
  alloc_stays None va perm = answer_called k n regs _ live
  alloc_stays (Some target) va perm =
      by_case (not (is_page_address va)) _ _ (answer_called k n regs _ live)
      (by_case (not (is_page_perm perm)) _ _ (answer_called k n regs _ live)
      (spaces_stay (second_of (allocated k.spaces (slot_at k target).directory (page_number va) perm))))

  map_stays_by : (target va : ℕ) (entry : Option Entry) → Stays (page_map_by k n target va entry)
  map_stays_by target va None = answer_called k n regs _ live
  map_stays_by target va (Some entry) = spaces_stay (inserted_at k target va entry)

  map_stays : (source : Option ℕ) (source_va : ℕ) (target : Option ℕ) (target_va perm : ℕ) →
      Stays (page_map_of k n source source_va target target_va perm)
  map_stays None source_va target target_va perm = answer_called k n regs _ live
  map_stays (Some source) source_va None target_va perm = answer_called k n regs _ live
  map_stays (Some source) source_va (Some target) target_va perm =
      by_case (not (is_page_address source_va)) _ _ (answer_called k n regs _ live)
      (by_case (not (is_page_address target_va)) _ _ (answer_called k n regs _ live)
      (map_stays_by target target_va (shared_entry (entry_at k source source_va) perm)))

  upcall_stays : (target : Option ℕ) (address : ℕ) → Stays (env_set_pgfault_upcall_of k n target address)
  upcall_stays None address = answer_called k n regs _ live
  upcall_stays (Some target) address =
      answer_called (with_upcall k target address) n regs 0
      (slots_alike k target (λ (x : Slot). is_live x) (record (slot_at k target) { upcall = address }) refl n ∙ live)

  status_stays : (target : Option ℕ) → Stays (env_set_status_of k n target (Some Runnable))
  status_stays None = answer_called k n regs _ live
  status_stays (Some target) =
      answer_called (with_status k target Runnable) n regs 0
      (upd-all (λ q (x : Slot). q ≡ n → is_live x ≡ true) k.environments.slots target (record (slot_at k target) { status = Runnable }) (λ e. refl)
      (λ q ne e. ap (λ (r : ℕ). is_live (slot_at k r)) e ∙ live) n refl)

  -- where a slot and a frame are free the child is made, in another slot or in its own
  exofork_stays : Stays (exofork k n)
  unfolding environment_made allotted created
  exofork_stays = by_lists k.environments.free_slots k.spaces.free
    where
      by_lists : (slots frames : List ℕ) →
          Stays (exofork_of k n (made_of k (allotted_from k.environments (slot_at k n).id slots) (created_from k.spaces frames)))
      by_lists [] frames = answer_called (with_refusal k) n regs _ live
      by_lists (child ∷ others) [] = answer_called (with_refusal k) n regs _ live
      by_lists (child ∷ others) (frame ∷ rest) =
          let slot : Slot = new_slot (next_id (slot_at k child).id child) (slot_at k n).id in
          let t : KernelState = record k {
            environments = record { slots = upd k.environments.slots child slot; free_slots = others };
            spaces = record k.spaces { uses = upd k.spaces.uses frame directory; free = rest; pages = upd k.spaces.pages frame [] };
          } in
          let u : KernelState = with_directory t child frame in
          let given : Regs = record (slot_at k n).registers { eax = 0 } in
          let lives : is_live (slot_at t n) ≡ true =
          upd-all (λ q (x : Slot). q ≡ n → is_live x ≡ true) k.environments.slots child slot (λ e. refl)
          (λ q ne e. ap (λ (r : ℕ). is_live (slot_at k r)) e ∙ live) n refl in
          answer_called (with_registers u child given) n regs (slot_at u child).id
          (slots_alike u child (λ (x : Slot). is_live x) (record (slot_at u child) { registers = given }) refl n
          ∙ slots_alike t child (λ (x : Slot). is_live x) (record (slot_at t child) { directory = frame }) refl n
          ∙ lives)

  destroy_stays : (target : Option ℕ) → ((env_destroy_of k n target).called ≡ Ended) ⊎ Stays (env_destroy_of k n target)
  destroy_stays None = inr (answer_called k n regs _ live)
  destroy_stays (Some target) = by_target (target == n) refl
    where
      by_target : (t : Bool) → (target == n) ≡ t →
          ((env_destroy_of k n (Some target)).called ≡ Ended) ⊎ Stays (env_destroy_of k n (Some target))
      by_target true same = inl (rw same refl)
      by_target false same =
          let ne : n ≢ target = grind (arith, nat_tests) in
          let lives : is_live (slot_at (without_environment k target) n) ≡ true =
          ap (λ (x : Slot). is_live x) (upd-other k.environments.slots target (free_slot (slot_at k target).id) n ne) ∙ live in
          inr (rw same (answer_called (without_environment k target) n regs 0 lives))

-- ---- by the call

module _ (s : KernelState) (n : ℕ) (live : is_live (slot_at s n) ≡ true) where
  abbrev own : Regs
  own = (slot_at s n).registers

  abbrev StaysBehind : ℕ → List ℕ → Type 0
  StaysBehind number args = IsAnswered (system s n number args) n own

  pub map_answers : (a b c d e : ℕ) → StaysBehind SYS_PAGE_MAP (a ∷ b ∷ c ∷ d ∷ e ∷ [])
  unfolding call_of
  map_answers a b c d e =
      let args : List ℕ = a ∷ b ∷ c ∷ d ∷ e ∷ [] in
      let q : Regs = asking own SYS_PAGE_MAP args in
      let k : KernelState = with_registers s n q in
      let from = found k.environments a n true in
      let to = found k.environments c n true in
      subst (λ (z : CallStep Called). IsAnswered z n own) (sym (system_is s n SYS_PAGE_MAP args (page_map_of k n from b to d e) refl refl))
      (map_stays k n own (live_still s n live q) from b to d e)

  pub alloc_answers : (a b c d e : ℕ) → StaysBehind SYS_PAGE_ALLOC (a ∷ b ∷ c ∷ d ∷ e ∷ [])
  unfolding call_of
  alloc_answers a b c d e =
      let args : List ℕ = a ∷ b ∷ c ∷ d ∷ e ∷ [] in
      let q : Regs = asking own SYS_PAGE_ALLOC args in
      let k : KernelState = with_registers s n q in
      let named = found k.environments a n true in
      subst (λ (z : CallStep Called). IsAnswered z n own) (sym (system_is s n SYS_PAGE_ALLOC args (page_alloc_of k n named b c) refl refl))
      (alloc_stays k n own (live_still s n live q) named b c)

  pub upcall_answers : (a b c d e : ℕ) → StaysBehind SYS_ENV_SET_PGFAULT_UPCALL (a ∷ b ∷ c ∷ d ∷ e ∷ [])
  unfolding call_of
  upcall_answers a b c d e =
      let args : List ℕ = a ∷ b ∷ c ∷ d ∷ e ∷ [] in
      let q : Regs = asking own SYS_ENV_SET_PGFAULT_UPCALL args in
      let k : KernelState = with_registers s n q in
      let named = found k.environments a n true in
      subst (λ (z : CallStep Called). IsAnswered z n own)
      (sym (system_is s n SYS_ENV_SET_PGFAULT_UPCALL args (env_set_pgfault_upcall_of k n named b) refl refl))
      (upcall_stays k n own (live_still s n live q) named b)

  pub runs_answers : (a c d e : ℕ) → StaysBehind SYS_ENV_SET_STATUS (a ∷ ENV_RUNNABLE ∷ c ∷ d ∷ e ∷ [])
  unfolding call_of
  runs_answers a c d e =
      let args : List ℕ = a ∷ ENV_RUNNABLE ∷ c ∷ d ∷ e ∷ [] in
      let q : Regs = asking own SYS_ENV_SET_STATUS args in
      let k : KernelState = with_registers s n q in
      let named = found k.environments a n true in
      subst (λ (z : CallStep Called). IsAnswered z n own)
      (sym (system_is s n SYS_ENV_SET_STATUS args (env_set_status_of k n named (Some Runnable)) refl refl))
      (status_stays k n own (live_still s n live q) named)

  pub exofork_answers : (args : List ℕ) → StaysBehind SYS_EXOFORK args
  unfolding call_of
  exofork_answers args =
      let q : Regs = asking own SYS_EXOFORK args in
      let k : KernelState = with_registers s n q in
      subst (λ (z : CallStep Called). IsAnswered z n own) (sym (system_is s n SYS_EXOFORK args (exofork k n) refl refl))
      (exofork_stays k n own (live_still s n live q))

  -- one that destroys itself is told so
  pub destroy_answers : (a b c d e : ℕ) → let call = system s n SYS_ENV_DESTROY (a ∷ b ∷ c ∷ d ∷ e ∷ []) in
      (call.gives ≡ got Ended) ⊎ IsAnswered call n own
  unfolding call_of
  destroy_answers a b c d e =
      let args : List ℕ = a ∷ b ∷ c ∷ d ∷ e ∷ [] in
      let q : Regs = asking own SYS_ENV_DESTROY args in
      let k : KernelState = with_registers s n q in
      let named = found k.environments a n true in
      let is = system_is s n SYS_ENV_DESTROY args (env_destroy_of k n named) refl refl in
      elim (destroy_stays k n own (live_still s n live q) named) [
        | inl ended ↦ inl (ap (λ (z : CallStep Called). z.gives) is ∙ ap got ended)
        | inr stays ↦ inr (subst (λ (z : CallStep Called). IsAnswered z n own) (sym is) stays)
      ]
