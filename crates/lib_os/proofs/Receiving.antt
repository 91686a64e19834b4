-- Receive, when it begins to wait: the call of the kernel, with the words that are set behind it, is the abstract system's step.
use Rattle.std.proofs.Common.{◌≡◌, ◌∙◌, ◌%◌, ◌==◌, ◌&&◌, ◌||◌, ℕ, Bool, true, false, not, None, List, [], ◌∷◌, refl, sym, ap, subst, arith, if◌then◌else◌}
use Rattle.std.specs.Prelude.{nat_lt}
use Rattle.std.proofs.lemmas.Bool.Decides.{nat_tests}
use Rattle.jos_base.specs.declared.called.Called.{Called}
use Rattle.jos_base.specs.declared.called.Called.TheVariants.{Blocked}
use Rattle.jos_base.specs.declared.environment.Status.TheVariants.{NotRunnable}
use Rattle.jos_base.specs.declared.numbers.TheConstants.{SYS_IPC_RECV, PGSIZE, UTOP}
use Rattle.jos_base.specs.Environments.{Slot, is_live}
use Rattle.jos_base.specs.KernelState.{KernelState, slot_at, with_slot_at, with_extra}
use Rattle.jos_base.specs.Messages.{wanting}
use Rattle.lib_os.specs.declared.place.Step.TheVariants as step
use Rattle.lib_os.specs.declared.service.Service.TheVariants as service
use Rattle.lib_os.specs.AbstractState.{AbstractState, Born, born}
use Rattle.lib_os.specs.AbstractMessages.{receive, is_page_or_none}
use Rattle.lib_os.specs.Fence.{is_page_inside}
use Rattle.lib_os.specs.Places.{place_of, words_at, is_handlers}
use Rattle.lib_os.specs.Services.{service_of}
use Rattle.lib_os.specs.Rows.{Names}
use Rattle.lib_os.specs.StandsFor.{StandsFor, IsAboutToWait, destination_of, borne_in}
use Rattle.lib_os.specs.UserCalls.{CallStep, got, system}
use Rattle.lib_os.proofs.Calls.{ipc_recv_is, waits_is}
use Rattle.lib_os.proofs.Fences.{page_inside_aligned}
use Rattle.lib_os.proofs.MessagesStand.{waits_stand}
use Rattle.lib_os.proofs.PipesStand.{is_calm}
use Rattle.lib_os.proofs.Serving.{holds_page, kept_where}
use Rattle.lib_os.proofs.Slots.{words_put}
use Rattle.lib_os.proofs.SlotsStand.{born_at, born_live}

-- no page, and a page's address, are destinations that the kernel takes
pub taken_destination : (va : ℕ) → is_page_or_none va ≡ true →
    (nat_lt (destination_of va) UTOP && not (destination_of va % PGSIZE == 0)) ≡ false
taken_destination va page = by_test (va == 0) refl
  where
    by_test : (t : Bool) → (va == 0) ≡ t →
        (nat_lt (if t then UTOP else va) UTOP && not ((if t then UTOP else va) % PGSIZE == 0)) ≡ false
    by_test true none = refl
    by_test false some =
        let inside : is_page_inside va ≡ true = sym (ap (λ (x : Bool). x || is_page_inside va) some) ∙ page in
        let aligned = page_inside_aligned va inside in
        grind (arith, nat_tests, aligned)

-- the call
pub recv_is : (s : KernelState) (n va from : ℕ) (rest : List ℕ) → is_live (slot_at s n) ≡ true → is_page_or_none va ≡ true →
    system s n SYS_IPC_RECV (destination_of va ∷ from ∷ rest)
    ≡ record {
      state = with_slot_at s n (record (slot_at s n) {
        rendezvous = wanting (slot_at s n).rendezvous (destination_of va) from;
        status = NotRunnable;
      });
      gives = got Blocked;
      written = [];
    }
recv_is s n va from rest live page =
    ipc_recv_is s n live (destination_of va) from rest (taken_destination va page)
    ∙ (λ i. record { state = waits_is s n (wanting (slot_at s n).rendezvous (destination_of va) from) NotRunnable i; gives = got Blocked; written = [] })

-- the state behind the call, with the words of the step after it
pub recv_stands : {names : Names} {s : KernelState} {a : AbstractState} → StandsFor names s a → (n : ℕ) (b : Born) →
    a.slots n ≡ born b → is_handlers (slot_at s n).registers.esp ≡ false → borne_in (place_of (slot_at s n)) ≡ None →
    holds_page (place_of (slot_at s n)) ≡ kept_where false → is_calm (place_of (slot_at s n)) ≡ true → (va from id : ℕ) (rest : List ℕ) → IsAboutToWait (slot_at s n) b va from id →
    service_of (record (slot_at s n).registers { eax = 9 }) ≡ service.Receive va from → (mid : KernelState) →
    mid ≡ (system s n SYS_IPC_RECV (destination_of va ∷ from ∷ rest)).state →
    StandsFor names (with_extra mid n (words_at 9 (step.ReadingValue id))) (receive a n b (slot_at s n).registers va from)
recv_stands {names = names} {s = s} {a = a} h n b at outside unborne holds calm va from id rest about names_it mid is =
    let k : Slot = record (slot_at s n) {
      rendezvous = wanting (slot_at s n).rendezvous (destination_of va) from;
      status = NotRunnable;
    } in
    let state : mid ≡ with_slot_at s n k =
    is ∙ ap (λ (x : CallStep Called). x.state) (recv_is s n va from rest (born_live (born_at h n b at)) about.page) in
    let after : with_extra mid n (words_at 9 (step.ReadingValue id)) ≡ with_slot_at s n (record k { extra = words_at 9 (step.ReadingValue id) }) =
    ap (λ (x : KernelState). with_extra x n (words_at 9 (step.ReadingValue id))) state ∙ words_put s n k (words_at 9 (step.ReadingValue id)) in
    subst (λ (x : KernelState). StandsFor names x (receive a n b (slot_at s n).registers va from)) (sym after)
    (waits_stand h n b at outside unborne holds calm va from id about names_it)
