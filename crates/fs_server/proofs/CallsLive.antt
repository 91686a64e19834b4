-- Behind a call of the server's own its environment is live.
use Rattle.std.proofs.Common.{◌≡◌, ◌∙◌, ◌-◌, ◌%◌, ◌==◌, ◌||◌, ℕ, Bool, true, false, List, [], ◌∷◌, None, Ok, refl, sym, ap, subst, arith}
use Rattle.std.proofs.lemmas.Bool.Decides.{nat_tests}
use Rattle.jos_base.specs.declared.called.Called.{Called}
use Rattle.jos_base.specs.declared.environment.Status.TheVariants.{Runnable}
use Rattle.jos_base.specs.declared.numbers.TheConstants.{SYS_GETENVID, SYS_IPC_RECV, SYS_IPC_TRY_SEND, SYS_PAGE_ALLOC, SYS_PAGE_UNMAP, SYS_YIELD}
use Rattle.jos_base.specs.Environments.{Slot, is_live}
use Rattle.jos_base.specs.KernelState.{KernelState, slot_at}
use Rattle.lib_os.specs.Disk.{no_disk}
use Rattle.lib_os.specs.UserCalls.{CallStep, Output, system}
use Rattle.lib_os.proofs.Calls.{getenvid_is, yield_is}
use Rattle.lib_os.proofs.Slots.{slot_put}
use Rattle.lib_os.proofs.Trying.{recv_lives, try_send_answered}
use Rattle.fs_blocks.specs.declared.plan.CacheAsk.TheVariants as cache
use Rattle.fs_blocks.specs.CachePlans.{is_page_call}
use Rattle.fs_cache.specs.CacheSteps.{caller}
use Rattle.fs_cache.proofs.Callers.{caller_stays}
use Rattle.fs_jobs.specs.declared.asks.TreeAsk.TheVariants as tree
use Rattle.fs_tree.proofs.TiesLaw.{access_slot}
use Rattle.fs_requests.specs.declared.plan.ServerCall.{ServerCall}
use Rattle.fs_requests.specs.declared.plan.ServerCall.TheVariants as call
use Rattle.fs_requests.specs.ServerPlans.{IsOwnCall, is_own_number}
use Rattle.fs_server.specs.ServerSteps.{IsReply}

module _ (s : KernelState) (n : ℕ) (live : is_live (slot_at s n) ≡ true) where
  abbrev Lives : CallStep Called → Type 0
  Lives step = is_live (slot_at step.state n) ≡ true

  -- ---- system calls

  module _ (number a b c d word : ℕ) (mid : KernelState) (output : Output) where
    abbrev args : List ℕ
    args = a ∷ b ∷ c ∷ d ∷ 0 ∷ []

    abbrev Replied : ℕ → Type 0
    Replied q = IsReply (call.System q args) s n (Ok word) mid output

    pages-live : (q : ℕ) → is_page_call q ≡ true → Replied q → is_live (slot_at mid n) ≡ true
    pages-live q is reply = (caller_stays (cache.System q args) (caller s n no_disk) None word mid output is live reply).live

    told : (q : ℕ) → Replied q → Lives (system s n q args) → is_live (slot_at mid n) ≡ true
    told q reply lives = ap (λ (k : KernelState). is_live (slot_at k n)) reply.2.1 ∙ lives

    getenvid-live : Lives (system s n SYS_GETENVID args)
    getenvid-live = subst (λ (x : CallStep Called). Lives x) (sym (getenvid_is s n live args)) live

    yield-live : Lives (system s n SYS_YIELD args)
    yield-live =
        subst (λ (x : CallStep Called). Lives x) (sym (yield_is s n live args))
        (ap (λ (x : Slot). is_live x) (slot_put s n (record (slot_at s n) { status = Runnable })))

    abbrev Tested : ℕ → Type 0
    Tested q = (t : Bool) → (number == q) ≡ t → is_live (slot_at mid n) ≡ true

    module _ (own : is_own_number number ≡ true) (reply : Replied number) where
      at : (q : ℕ) → q ≡ number → (Replied q → is_live (slot_at mid n) ≡ true) → is_live (slot_at mid n) ≡ true
      at q same lives = lives (subst (λ (x : ℕ). Replied x) (sym same) reply)

      by-receive : (number == SYS_GETENVID) ≡ false → (number == SYS_PAGE_ALLOC) ≡ false → (number == SYS_PAGE_UNMAP) ≡ false →
          (number == SYS_YIELD) ≡ false → (number == SYS_IPC_TRY_SEND) ≡ false → Tested SYS_IPC_RECV
      by-receive e f g h i true test =
          let same : SYS_IPC_RECV ≡ number = grind (arith, nat_tests) in
          at SYS_IPC_RECV same (λ r. told SYS_IPC_RECV r (recv_lives s n a b (c ∷ d ∷ 0 ∷ []) live).live)
      by-receive e f g h i false test =
          absurd (let contradiction : false ≡ true =
          (λ j. sym e j || sym f j || sym g j || sym h j || sym i j || sym test j) ∙ own in cc)

      by-send : (number == SYS_GETENVID) ≡ false → (number == SYS_PAGE_ALLOC) ≡ false → (number == SYS_PAGE_UNMAP) ≡ false →
          (number == SYS_YIELD) ≡ false → Tested SYS_IPC_TRY_SEND
      by-send e f g h true test =
          let same : SYS_IPC_TRY_SEND ≡ number = grind (arith, nat_tests) in
          at SYS_IPC_TRY_SEND same (λ r. told SYS_IPC_TRY_SEND r (try_send_answered s n a b c d (0 ∷ []) live).live)
      by-send e f g h false test = by-receive e f g h test (number == SYS_IPC_RECV) refl

      by-yield : (number == SYS_GETENVID) ≡ false → (number == SYS_PAGE_ALLOC) ≡ false → (number == SYS_PAGE_UNMAP) ≡ false → Tested SYS_YIELD
      by-yield e f g true test =
          let same : SYS_YIELD ≡ number = grind (arith, nat_tests) in at SYS_YIELD same (λ r. told SYS_YIELD r yield-live)
      by-yield e f g false test = by-send e f g test (number == SYS_IPC_TRY_SEND) refl

      by-unmap : (number == SYS_GETENVID) ≡ false → (number == SYS_PAGE_ALLOC) ≡ false → Tested SYS_PAGE_UNMAP
      by-unmap e f true test =
          let same : SYS_PAGE_UNMAP ≡ number = grind (arith, nat_tests) in at SYS_PAGE_UNMAP same (pages-live SYS_PAGE_UNMAP refl)
      by-unmap e f false test = by-yield e f test (number == SYS_YIELD) refl

      by-alloc : (number == SYS_GETENVID) ≡ false → Tested SYS_PAGE_ALLOC
      by-alloc e true test =
          let same : SYS_PAGE_ALLOC ≡ number = grind (arith, nat_tests) in at SYS_PAGE_ALLOC same (pages-live SYS_PAGE_ALLOC refl)
      by-alloc e false test = by-unmap e test (number == SYS_PAGE_UNMAP) refl

      by-getenvid : Tested SYS_GETENVID
      by-getenvid true test =
          let same : SYS_GETENVID ≡ number = grind (arith, nat_tests) in at SYS_GETENVID same (λ r. told SYS_GETENVID r getenvid-live)
      by-getenvid false test = by-alloc test (number == SYS_PAGE_ALLOC) refl

      system-live : is_live (slot_at mid n) ≡ true
      system-live = by-getenvid (number == SYS_GETENVID) refl

-- ---- whatever is called

pub live_behind : (it : ServerCall) (s : KernelState) (n word : ℕ) (mid : KernelState) (output : Output) → IsOwnCall it →
    is_live (slot_at s n) ≡ true → IsReply it s n (Ok word) mid output → is_live (slot_at mid n) ≡ true
live_behind (call.Load va) s n word mid output own live reply =
    (caller_stays (cache.Load va) (caller s n no_disk) None word mid output own live reply).live
live_behind (call.Store va value) s n word mid output own live reply =
    let aligned : va - va % 4 ≡ va = omega (arith, own) in
    ap (λ (x : Slot). is_live x)
    (access_slot (tree.Store va value) s mid n va word output
    (subst (λ (at : ℕ). IsReply (call.Store at value) s n (Ok word) mid output) (sym aligned) reply))
    ∙ live
live_behind (call.System number given) s n word mid output (own, a, b, c, d, is) live reply =
    system-live s n live number a b c d word mid output own (subst (λ (words : List ℕ). IsReply (call.System number words) s n (Ok word) mid output) is reply)
