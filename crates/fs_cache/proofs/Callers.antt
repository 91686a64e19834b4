-- Behind a call of the cache its environment is as before, but for its space.
use Rattle.std.proofs.Common.{◌≡◌, ◌∙◌, ◌==◌, ◌||◌, ℕ, Bool, true, false, not, List, Option, Some, None, refl, sym, ap, subst, arith}
use Rattle.std.proofs.Common.{if◌then◌else◌}
use Rattle.std.specs.Prelude.{get_or}
use Rattle.std.proofs.lemmas.Bool.Decides.{nat_tests}
use Rattle.jos_host.specs.Files.{Files}
use Rattle.jos_base.specs.declared.called.Called.{Called}
use Rattle.jos_base.specs.declared.memory.Access.{Access}
use Rattle.jos_base.specs.declared.memory.Access.TheVariants.{Read, Write}
use Rattle.jos_base.specs.declared.numbers.TheConstants.{SYS_PAGE_ALLOC, SYS_PAGE_MAP, SYS_PAGE_UNMAP}
use Rattle.jos_base.specs.declared.registers.Regs.{Regs}
use Rattle.jos_base.specs.Environments.{Slot, found, is_live}
use Rattle.jos_base.specs.KernelState.{KernelState, slot_at, with_registers, with_refusal, with_spaces}
use Rattle.jos_base.specs.Reach.{Entry}
use Rattle.jos_base.specs.SpacesState.{SpacesState, allocated, unmapped}
use Rattle.jos_base.specs.SystemCalls.{Did, answered, answered_with, call_of, entry_at, inserted_at, is_page_address, is_page_perm}
use Rattle.jos_base.specs.SystemCalls.{page_alloc_of, page_map_by, page_map_of, page_unmap_of, second_of, shared_entry}
use Rattle.jos_base.specs.Words.{page_number}
use Rattle.lib_os.specs.UserCalls.{BlockCall, CallStep, IsReadBy, IsSentBy, asking, block_put, called_by, may_read_block, may_write_block}
use Rattle.lib_os.specs.UserCalls.{page_accessed, system}
use Rattle.lib_os.proofs.BytesPut.{put_is}
use Rattle.lib_os.proofs.Calls.{answer_is, system_is}
use Rattle.lib_os.proofs.Loading.{loaded_state}
use Rattle.lib_os.proofs.Slots.{slot_put}
use Rattle.fs_blocks.specs.declared.plan.CacheAsk.TheVariants as ask
use Rattle.fs_blocks.specs.CachePlans.{is_page_call}
use Rattle.fs_cache.specs.CacheSteps.{of_block}
use Rattle.fs_cache.proofs.Interfaces.{CallerStays, SlotStays}

-- ---- what changes no more than registers and spaces

abbrev itself : (s : KernelState) (n : ℕ) → is_live (slot_at s n) ≡ true → SlotStays s s n
itself s n live = record { live = live; directory = refl; env_type = refl; extra = refl }

spaces_stay : (s k : KernelState) (n : ℕ) (spaces : SpacesState) → SlotStays s k n → SlotStays s (with_spaces k spaces) n
spaces_stay s k n spaces it = record { live = it.live; directory = it.directory; env_type = it.env_type; extra = it.extra }

refusal_stays : (s k : KernelState) (n : ℕ) → SlotStays s k n → SlotStays s (with_refusal k) n
refusal_stays s k n it = record { live = it.live; directory = it.directory; env_type = it.env_type; extra = it.extra }

registers_stay : (s k : KernelState) (n : ℕ) (regs : Regs) → SlotStays s k n → SlotStays s (with_registers k n regs) n
registers_stay s k n regs it =
    let set : Slot = record (slot_at k n) { registers = regs } in
    let there : slot_at (with_registers k n regs) n ≡ set = slot_put k n set in
    record {
      live = ap (λ (x : Slot). is_live x) there ∙ it.live;
      directory = ap (λ (x : Slot). x.directory) there ∙ it.directory;
      env_type = ap (λ (x : Slot). x.env_type) there ∙ it.env_type;
      extra = ap (λ (x : Slot). x.extra) there ∙ it.extra;
    }

-- ---- system calls

module _ (s : KernelState) (n : ℕ) (regs : Regs) where
  abbrev Stays : Did → Type 0
  Stays did = SlotStays s (called_by n false regs did).state n

  answer_stays : (k : KernelState) (answer : ℕ) → SlotStays s k n → Stays (answered k n answer)
  answer_stays k answer it =
      subst (λ (z : CallStep Called). SlotStays s z.state n) (sym (answer_is k n regs answer it.live)) (registers_stay s k n regs it)

  by_case : (t : Bool) (a b : Did) → Stays a → Stays b → Stays (if t then a else b)
  by_case true a b first second = first
  by_case false a b first second = second

  module _ (k : KernelState) (it : SlotStays s k n) where
    given_stays : (spaces : Option SpacesState) → Stays (answered_with k n spaces)
    given_stays None = answer_stays (with_refusal k) _ (refusal_stays s k n it)
    given_stays (Some spaces) = answer_stays (with_spaces k spaces) 0 (spaces_stay s k n spaces it)

    alloc_stays : (target : Option ℕ) (va perm : ℕ) → Stays (page_alloc_of k n target va perm)
    alloc_stays None va perm = answer_stays k _ it
    alloc_stays (Some target) va perm =
        by_case (not (is_page_address va)) _ _ (answer_stays k _ it)
        (by_case (not (is_page_perm perm)) _ _ (answer_stays k _ it)
        (given_stays (second_of (allocated k.spaces (slot_at k target).directory (page_number va) perm))))

    map_stays_by : (target va : ℕ) (entry : Option Entry) → Stays (page_map_by k n target va entry)
    map_stays_by target va None = answer_stays k _ it
    map_stays_by target va (Some entry) = given_stays (inserted_at k target va entry)

    map_stays : (source : Option ℕ) (source_va : ℕ) (target : Option ℕ) (target_va perm : ℕ) →
        Stays (page_map_of k n source source_va target target_va perm)
    map_stays None source_va target target_va perm = answer_stays k _ it
    map_stays (Some source) source_va None target_va perm = answer_stays k _ it
    map_stays (Some source) source_va (Some target) target_va perm =
        by_case (not (is_page_address source_va)) _ _ (answer_stays k _ it)
        (by_case (not (is_page_address target_va)) _ _ (answer_stays k _ it)
        (map_stays_by target target_va (shared_entry (entry_at k source source_va) perm)))

    unmap_stays : (target : Option ℕ) (va : ℕ) → Stays (page_unmap_of k n target va)
    unmap_stays None va = answer_stays k _ it
    unmap_stays (Some target) va =
        let spaces : SpacesState = unmapped k.spaces (slot_at k target).directory (page_number va) in
        by_case (not (is_page_address va)) _ _ (answer_stays k _ it) (answer_stays (with_spaces k spaces) 0 (spaces_stay s k n spaces it))

module _ (s : KernelState) (n : ℕ) (live : is_live (slot_at s n) ≡ true) (args : List ℕ) where
  abbrev own : Regs
  own = (slot_at s n).registers

  abbrev at : ℕ → KernelState
  at number = with_registers s n (asking own number args)

  asking_stays : (number : ℕ) → SlotStays s (at number) n
  asking_stays number = registers_stay s s n (asking own number args) (itself s n live)

  abbrev arg : ℕ → ℕ
  arg i = get_or args i 0

  abbrev named : ℕ → ℕ → Option ℕ
  named number i = found (at number).environments (arg i) n true

  alloc_behind : SlotStays s (system s n SYS_PAGE_ALLOC args).state n
  unfolding call_of
  alloc_behind =
      let did : Did = page_alloc_of (at SYS_PAGE_ALLOC) n (named SYS_PAGE_ALLOC 0) (arg 1) (arg 2) in
      subst (λ (z : CallStep Called). SlotStays s z.state n) (sym (system_is s n SYS_PAGE_ALLOC args did refl refl))
      (alloc_stays s n own (at SYS_PAGE_ALLOC) (asking_stays SYS_PAGE_ALLOC) (named SYS_PAGE_ALLOC 0) (arg 1) (arg 2))

  map_behind : SlotStays s (system s n SYS_PAGE_MAP args).state n
  unfolding call_of
  map_behind =
      let did : Did = page_map_of (at SYS_PAGE_MAP) n (named SYS_PAGE_MAP 0) (arg 1) (named SYS_PAGE_MAP 2) (arg 3) (arg 4) in
      subst (λ (z : CallStep Called). SlotStays s z.state n) (sym (system_is s n SYS_PAGE_MAP args did refl refl))
      (map_stays s n own (at SYS_PAGE_MAP) (asking_stays SYS_PAGE_MAP) (named SYS_PAGE_MAP 0) (arg 1) (named SYS_PAGE_MAP 2) (arg 3) (arg 4))

  unmap_behind : SlotStays s (system s n SYS_PAGE_UNMAP args).state n
  unfolding call_of
  unmap_behind =
      let did : Did = page_unmap_of (at SYS_PAGE_UNMAP) n (named SYS_PAGE_UNMAP 0) (arg 1) in
      subst (λ (z : CallStep Called). SlotStays s z.state n) (sym (system_is s n SYS_PAGE_UNMAP args did refl refl))
      (unmap_stays s n own (at SYS_PAGE_UNMAP) (asking_stays SYS_PAGE_UNMAP) (named SYS_PAGE_UNMAP 0) (arg 1))

  abbrev Behind : ℕ → Type 0
  Behind number = SlotStays s (system s n number args).state n

  call_behind : (number : ℕ) → is_page_call number ≡ true → Behind number
  call_behind number of_pages = by_first (number == SYS_PAGE_ALLOC) refl
    where
      by_third : (number == SYS_PAGE_ALLOC) ≡ false → (number == SYS_PAGE_MAP) ≡ false → (t : Bool) → (number == SYS_PAGE_UNMAP) ≡ t → Behind number
      by_third first second true test =
          let same : SYS_PAGE_UNMAP ≡ number = grind (arith, nat_tests) in subst (λ (q : ℕ). Behind q) same unmap_behind
      by_third first second false test =
          absurd (let contradiction : false ≡ true =
          (λ i. (sym first i || sym second i) || sym test i) ∙ of_pages in cc)

      by_second : (number == SYS_PAGE_ALLOC) ≡ false → (t : Bool) → (number == SYS_PAGE_MAP) ≡ t → Behind number
      by_second first true test = let same : SYS_PAGE_MAP ≡ number = grind (arith, nat_tests) in subst (λ (q : ℕ). Behind q) same map_behind
      by_second first false test = by_third first test (number == SYS_PAGE_UNMAP) refl

      by_first : (t : Bool) → (number == SYS_PAGE_ALLOC) ≡ t → Behind number
      by_first true test = let same : SYS_PAGE_ALLOC ≡ number = grind (arith, nat_tests) in subst (λ (q : ℕ). Behind q) same alloc_behind
      by_first false test = by_second test (number == SYS_PAGE_MAP) refl

-- ---- blocks

abbrev CallStays : BlockCall → KernelState → Type 0
CallStays call after = SlotStays call.state after call.slot

module _ (call : BlockCall) (live : is_live (slot_at call.state call.slot) ≡ true) where
  accessed_stays : (access : Access) → CallStays call (page_accessed call.state call.slot call.va access)
  accessed_stays access = spaces_stay call.state call.state call.slot _ (itself call.state call.slot live)

  put_stays : (bytes : List ℕ) → CallStays call (block_put call.state call.slot call.va bytes)
  unfolding block_put
  put_stays bytes =
      let k : KernelState = page_accessed call.state call.slot call.va Write in
      subst (λ (z : KernelState). CallStays call z) (sym (put_is k call.slot call.va bytes))
      (spaces_stay call.state k call.slot _ (accessed_stays Write))

  read_stays : (t : Bool) (files : Option Files) (word : ℕ) (after : KernelState) → IsReadBy t call files word after → CallStays call after
  read_stays true files word after (_, bytes, _, is) = subst (λ (z : KernelState). CallStays call z) (sym is) (put_stays bytes)
  read_stays false files word after (_, is) = subst (λ (z : KernelState). CallStays call z) (sym is) (itself call.state call.slot live)

  sent_stays : (t : Bool) (word : ℕ) (after : KernelState) → IsSentBy t call word after → CallStays call after
  sent_stays true word after (_, is) = subst (λ (z : KernelState). CallStays call z) (sym is) (accessed_stays Read)
  sent_stays false word after (_, is) = subst (λ (z : KernelState). CallStays call z) (sym is) (itself call.state call.slot live)

-- ---- whatever is asked

pub caller_stays : CallerStays
caller_stays (ask.Load va) c files word mid output may live reply =
    subst (λ (z : KernelState). SlotStays c.state z c.slot) (sym (loaded_state c.state mid c.slot va word output reply))
    (spaces_stay c.state c.state c.slot _ (itself c.state c.slot live))
caller_stays (ask.System number args) c files word mid output may live reply =
    let call = reply.2 in
    subst (λ (z : KernelState). SlotStays c.state z c.slot) (sym call.1) (call_behind c.state c.slot live args number may)
caller_stays (ask.ReadBlock block) c files word mid output may live reply =
    read_stays (of_block c block) live (may_read_block (of_block c block)) files word mid reply.0
caller_stays (ask.WriteBlock block) c files word mid output may live reply =
    sent_stays (of_block c block) live (may_write_block (of_block c block)) word mid reply.0
