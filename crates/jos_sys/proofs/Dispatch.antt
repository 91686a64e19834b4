-- Which call the caller's registers name, over states alone.
use Rattle.std.proofs.Common.{◌≡◌, ◌≢◌, ◌∙◌, ◌==◌, ℕ, true, false, List, Result, Ok, Err, ap, refl, sym, subst, arith}
use Rattle.std.specs.Result.{OnErr}
use Rattle.std.proofs.lemmas.Bool.Decides.{nat_tests}
use Rattle.jos_base.specs.declared.called.Called.TheVariants.{Ended}
use Rattle.jos_base.specs.declared.registers.Regs.{Regs}
use Rattle.jos_base.specs.declared.environment.Status.TheVariants.{Runnable}
use Rattle.jos_base.specs.declared.errno.Errno.TheVariants.{Invalid}
use Rattle.jos_base.specs.declared.numbers.TheConstants.{SYS_CPUTS, SYS_CGETC, SYS_GETENVID, SYS_ENV_DESTROY}
use Rattle.jos_base.specs.declared.numbers.TheConstants.{SYS_PAGE_ALLOC, SYS_PAGE_MAP, SYS_PAGE_UNMAP, SYS_EXOFORK, SYS_ENV_SET_STATUS}
use Rattle.jos_base.specs.declared.numbers.TheConstants.{SYS_ENV_SET_TRAPFRAME, SYS_ENV_SET_PGFAULT_UPCALL, SYS_YIELD, SYS_IPC_TRY_SEND, SYS_IPC_RECV}
use Rattle.jos_base.specs.Environments.{found}
use Rattle.jos_base.specs.KernelState.{KernelState, slot_at, with_status}
use Rattle.jos_base.specs.SystemCalls.{Did, call_of, system_call, answered, refused, cputs, cgetc_from, env_destroy_of, exofork}
use Rattle.jos_base.specs.SystemCalls.{env_set_status_of, status_named, page_alloc_of, page_map_of, page_unmap_of}
use Rattle.jos_base.specs.SystemCalls.{env_set_trapframe_of, env_set_pgfault_upcall_of, ipc_try_send_of, ipc_recv}
use Rattle.jos_base.specs.SystemCalls.{may_print}

module _ (k : KernelState) (n : ℕ) (regs : Regs) (same : regs ≡ (slot_at k n).registers) where
  called : {did : Did} → call_of k n regs ≡ did → system_call k n ≡ did
  called is = sym (ap (call_of k n) same) ∙ is

  pub is_cputs : regs.eax ≡ SYS_CPUTS → system_call k n ≡ cputs k n regs.edx regs.ecx
  unfolding call_of
  is_cputs e = called (rw e refl)

  pub is_cgetc : regs.eax ≡ SYS_CGETC → system_call k n ≡ cgetc_from k n k.input
  unfolding call_of
  is_cgetc e = called (rw e refl)

  pub is_getenvid : regs.eax ≡ SYS_GETENVID → system_call k n ≡ answered k n (slot_at k n).id
  unfolding call_of
  is_getenvid e = called (rw e refl)

  pub is_env_destroy : regs.eax ≡ SYS_ENV_DESTROY → system_call k n ≡ env_destroy_of k n (found k.environments regs.edx n true)
  unfolding call_of
  is_env_destroy e = called (rw e refl)

  pub is_exofork : regs.eax ≡ SYS_EXOFORK → system_call k n ≡ exofork k n
  unfolding call_of
  is_exofork e = called (rw e refl)

  pub is_env_set_status : regs.eax ≡ SYS_ENV_SET_STATUS
      → system_call k n ≡ env_set_status_of k n (found k.environments regs.edx n true) (status_named regs.ecx)
  unfolding call_of
  is_env_set_status e = called (rw e refl)

  pub is_yield : regs.eax ≡ SYS_YIELD → system_call k n ≡ answered (with_status k n Runnable) n 0
  unfolding call_of
  is_yield e = called (rw e refl)

  pub is_page_alloc : regs.eax ≡ SYS_PAGE_ALLOC → system_call k n ≡ page_alloc_of k n (found k.environments regs.edx n true) regs.ecx regs.ebx
  unfolding call_of
  is_page_alloc e = called (rw e refl)

  pub is_page_map : regs.eax ≡ SYS_PAGE_MAP → system_call k n ≡ page_map_of k n (found k.environments regs.edx n true) regs.ecx (found k.environments regs.ebx n true) regs.edi regs.esi
  unfolding call_of
  is_page_map e = called (rw e refl)

  pub is_page_unmap : regs.eax ≡ SYS_PAGE_UNMAP → system_call k n ≡ page_unmap_of k n (found k.environments regs.edx n true) regs.ecx
  unfolding call_of
  is_page_unmap e = called (rw e refl)

  pub is_env_set_trapframe : regs.eax ≡ SYS_ENV_SET_TRAPFRAME → system_call k n ≡ env_set_trapframe_of k n (found k.environments regs.edx n true) regs.ecx
  unfolding call_of
  is_env_set_trapframe e = called (rw e refl)

  pub is_env_set_pgfault_upcall : regs.eax ≡ SYS_ENV_SET_PGFAULT_UPCALL → system_call k n ≡ env_set_pgfault_upcall_of k n (found k.environments regs.edx n true) regs.ecx
  unfolding call_of
  is_env_set_pgfault_upcall e = called (rw e refl)

  pub is_ipc_try_send : regs.eax ≡ SYS_IPC_TRY_SEND → system_call k n ≡ ipc_try_send_of k n (found k.environments regs.edx n false) regs.ecx regs.ebx regs.edi
  unfolding call_of
  is_ipc_try_send e = called (rw e refl)

  pub is_ipc_recv : regs.eax ≡ SYS_IPC_RECV → system_call k n ≡ ipc_recv k n regs.edx regs.ecx
  unfolding call_of
  is_ipc_recv e = called (rw e refl)

  -- a number that names no call
  pub is_none : regs.eax ≢ SYS_CPUTS → regs.eax ≢ SYS_CGETC → regs.eax ≢ SYS_GETENVID → regs.eax ≢ SYS_ENV_DESTROY
      → regs.eax ≢ SYS_PAGE_ALLOC → regs.eax ≢ SYS_PAGE_MAP → regs.eax ≢ SYS_PAGE_UNMAP → regs.eax ≢ SYS_EXOFORK
      → regs.eax ≢ SYS_ENV_SET_STATUS → regs.eax ≢ SYS_ENV_SET_TRAPFRAME → regs.eax ≢ SYS_ENV_SET_PGFAULT_UPCALL
      → regs.eax ≢ SYS_YIELD → regs.eax ≢ SYS_IPC_TRY_SEND → regs.eax ≢ SYS_IPC_RECV
      → system_call k n ≡ refused k n Invalid
  unfolding call_of
  is_none h0 h1 h2 h3 h4 h5 h6 h7 h8 h9 h10 h11 h12 h13 = called (
      let t0 : (regs.eax == SYS_CPUTS) ≡ false = grind (arith, nat_tests) in
      let t1 : (regs.eax == SYS_CGETC) ≡ false = grind (arith, nat_tests) in
      let t2 : (regs.eax == SYS_GETENVID) ≡ false = grind (arith, nat_tests) in
      let t3 : (regs.eax == SYS_ENV_DESTROY) ≡ false = grind (arith, nat_tests) in
      let t4 : (regs.eax == SYS_PAGE_ALLOC) ≡ false = grind (arith, nat_tests) in
      let t5 : (regs.eax == SYS_PAGE_MAP) ≡ false = grind (arith, nat_tests) in
      let t6 : (regs.eax == SYS_PAGE_UNMAP) ≡ false = grind (arith, nat_tests) in
      let t7 : (regs.eax == SYS_EXOFORK) ≡ false = grind (arith, nat_tests) in
      let t8 : (regs.eax == SYS_ENV_SET_STATUS) ≡ false = grind (arith, nat_tests) in
      let t9 : (regs.eax == SYS_ENV_SET_TRAPFRAME) ≡ false = grind (arith, nat_tests) in
      let t10 : (regs.eax == SYS_ENV_SET_PGFAULT_UPCALL) ≡ false = grind (arith, nat_tests) in
      let t11 : (regs.eax == SYS_YIELD) ≡ false = grind (arith, nat_tests) in
      let t12 : (regs.eax == SYS_IPC_TRY_SEND) ≡ false = grind (arith, nat_tests) in
      let t13 : (regs.eax == SYS_IPC_RECV) ≡ false = grind (arith, nat_tests) in
      rw (t0, t1, t2, t3, t4, t5, t6, t7, t8, t9, t10, t11, t12, t13) refl)

  -- a call that may write to the console may fail
  pub cputs_fails : {T E : Type 0} (answer : Result T E) → regs.eax ≡ SYS_CPUTS → OnErr answer (may_print (slot_at k n).registers.eax ≡ true)
  cputs_fails (Ok x) e = tt
  cputs_fails (Err x) e = subst (λ (r : Regs). may_print r.eax ≡ true) same (rw e refl)

  pub env_set_trapframe_fails : {T E : Type 0} (answer : Result T E) → regs.eax ≡ SYS_ENV_SET_TRAPFRAME →
      OnErr answer (may_print (slot_at k n).registers.eax ≡ true)
  env_set_trapframe_fails (Ok x) e = tt
  env_set_trapframe_fails (Err x) e = subst (λ (r : Regs). may_print r.eax ≡ true) same (rw e refl)

  -- and only cputs may fail for a caller that goes on
  pub cputs_ended : {T E : Type 0} (answer : Result T E) → regs.eax ≡ SYS_CPUTS →
      OnErr answer ((slot_at k n).registers.eax ≢ SYS_CPUTS → (system_call k n).called ≡ Ended)
  cputs_ended (Ok x) e = tt
  cputs_ended (Err x) e = λ other. absurd (other (ap (λ (r : Regs). r.eax) (sym same) ∙ e))

  pub env_set_trapframe_ended : {T E : Type 0} (answer : Result T E) (state : List ℕ → KernelState) (input : List ℕ) → k ≡ state input →
      regs.eax ≡ SYS_ENV_SET_TRAPFRAME →
      OnErr answer ((input : List ℕ) → (env_set_trapframe_of (state input) n (found (state input).environments regs.edx n true) regs.ecx).called ≡ Ended) →
      OnErr answer ((slot_at k n).registers.eax ≢ SYS_CPUTS → (system_call k n).called ≡ Ended)
  env_set_trapframe_ended (Ok x) state input is e ended = tt
  env_set_trapframe_ended (Err x) state input is e ended = λ other.
      ap (λ (did : Did). did.called) (is_env_set_trapframe e)
      ∙ ap (λ (z : KernelState). (env_set_trapframe_of z n (found z.environments regs.edx n true) regs.ecx).called) is ∙ ended input
