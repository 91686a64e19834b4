-- The law of send: each of its stages is a part of its one step in the abstract system.
use Rattle.std.proofs.Common.{◌≡◌, ◌+◌, ◌*◌, ◌/◌, ◌==◌, ◌^◌, ◌<◌, ◌≤◌, ℕ, Bool, true, false, not, [], ◌∷◌, refl, sym, ap, subst, arith}
use Rattle.std.proofs.Common.{if◌then◌else◌}
use Rattle.std.specs.Prelude.{bit_and}
use Rattle.jos_base.specs.declared.called.Called.{Called}
use Rattle.jos_base.specs.declared.numbers.TheConstants.{NPTENTRIES, PGSIZE, PTE_P, UVPT, E_INVAL, E_IPC_NOT_RECV}
use Rattle.jos_base.specs.declared.numbers.TheConstants.{SYS_GETENVID, SYS_IPC_TRY_SEND}
use Rattle.jos_base.specs.Environments.{Slot, is_live}
use Rattle.jos_base.specs.KernelState.{KernelState, slot_at}
use Rattle.jos_base.specs.Words.{negated}
use Rattle.lib_os.specs.declared.numbers.TheConstants.{SERVICE_SEND, UVPD}
use Rattle.lib_os.specs.declared.place.Place.TheVariants as place
use Rattle.lib_os.specs.declared.place.Step.{Step}
use Rattle.lib_os.specs.declared.place.Step.TheVariants as step
use Rattle.lib_os.specs.declared.service.Service.{Service}
use Rattle.lib_os.specs.declared.service.Service.TheVariants as service
use Rattle.lib_os.specs.AbstractState.{AbstractState}
use Rattle.lib_os.specs.Fence.{is_page_inside}
use Rattle.lib_os.specs.LibrarySteps.{Stands, is_pausing, frames_at}
use Rattle.lib_os.specs.Places.{place_of}
use Rattle.lib_os.specs.Rows.{rows_of}
use Rattle.lib_os.specs.Services.{named_service, service_of}
use Rattle.lib_os.specs.StandsFor.{IsTrying, destination_of}
use Rattle.lib_os.specs.UserCalls.{CallStep, answer_of}
use Rattle.lib_os.proofs.Calls.{getenvid_is}
use Rattle.lib_os.proofs.Numbered.{named_at}
use Rattle.lib_os.proofs.NumbersKept.{KeepsCopies, sending_copies}
use Rattle.lib_os.proofs.ServerLeft.{sends_aside, sent_aside}
use Rattle.lib_os.proofs.Serving.{served}
use Rattle.lib_os.proofs.Trying.{LivesOn}
use Rattle.lib_stage.specs.declared.ask.Next.{Next}
use Rattle.lib_stage.specs.declared.ask.Next.TheVariants as next
use Rattle.lib_stage.specs.Asks.{frames_of, performed}
use Rattle.lib_stage.specs.ServiceSteps.{Plan, or_nowhere, ServiceHolds}
use Rattle.lib_stage.proofs.Laws.{Falls, IsAt, IsPlain, KeepsBy, plainly, knowingly, answered_keeps, law_of_call, law_of_load, law_of_nowhere, law_of_pause}
use Rattle.lib_msg.specs.declared.send.SendStage.{SendStage}
use Rattle.lib_msg.specs.declared.send.SendStage.TheVariants as stage
use Rattle.lib_msg.specs.SendStages.{may_name, may_pass, next_of, send_at, sending}
use Rattle.lib_msg.proofs.Looking.{entered_keeps, region_word, region_there, region_follows}
use Rattle.lib_msg.proofs.Entries.{word, entry_there, entry_follows}
use Rattle.lib_msg.proofs.Sending.{send_call, sent, trying_keeps, pausing_keeps}

-- the step that a stage is kept as
abbrev step_of : SendStage → Step
step_of stage.Entered = step.Entered
step_of stage.ReadingRegion = step.ReadingRegion
step_of stage.ReadingEntry = step.ReadingEntry
step_of (stage.Trying perm) = step.Trying perm
step_of (stage.Pausing perm) = step.Pausing perm

-- the word that it is given stands in ECX
abbrev word_in : Service → ℕ
word_in (service.Send id value va) = value
word_in _ = 0

given_word : (k : Slot) (id value va : ℕ) (at : Step) → place_of k ≡ place.InService (service.Send id value va) at → k.registers.ecx ≡ value
unfolding service_of named_service
given_word k id value va at stands = ap (λ (x : Service). word_in x) (named_at k (service.Send id value va) at stands)

module _ (s : KernelState) (n id value va : ℕ) (live : is_live (slot_at s n) ≡ true) where
  -- ---- where it goes on from where, lower

  abbrev Goes : SendStage → Next → Type 0
  Goes at x = Falls (service.Send id value va) (step_of at) x

  by_answer : (at : SendStage) (t : Bool) (word : ℕ) (x : Next) → Goes at x → Goes at (if t then next.Answer word else x)
  by_answer at true word x goes = tt
  by_answer at false word x goes = goes

  falls : (at : SendStage) (word : ℕ) → Goes at (next_of id va at word)
  falls stage.Entered own =
      by_answer stage.Entered (not (may_name id own)) (negated E_INVAL) _
      (by_page (va == 0) _ (by_answer stage.Entered (not (is_page_inside va)) (negated E_INVAL) _ (omega arith)))
    where
      by_page : (t : Bool) (x : Next) → Goes stage.Entered x → Goes stage.Entered (if t then next.GoOn (step.Trying 0) else x)
      by_page true x goes = omega arith
      by_page false x goes = goes
  falls stage.ReadingRegion word = by_answer stage.ReadingRegion (not (bit_and word PTE_P == PTE_P)) (negated E_INVAL) _ (omega arith)
  falls stage.ReadingEntry word = by_answer stage.ReadingEntry (not (may_pass word)) (negated E_INVAL) _ (omega arith)
  falls (stage.Trying perm) word = by_test (word == negated E_IPC_NOT_RECV)
    where
      by_test : (t : Bool) → Goes (stage.Trying perm) (if t then next.Wait (step.Pausing perm) else next.Answer word)
      by_test true = refl
      by_test false = tt
  falls (stage.Pausing perm) word = omega arith

  -- ---- the law

  abbrev plan : SendStage → Plan
  plan at = sending (record { id = id; value = value; va = va; at = at })

  few : (at : SendStage) → frames_of (plan at).asks ≤ frames_at (place.InService (service.Send id value va) (step_of at))
  few stage.Entered = omega arith
  few stage.ReadingRegion = omega arith
  few stage.ReadingEntry = omega arith
  few (stage.Trying perm) = omega arith
  few (stage.Pausing perm) = omega arith

  -- what stands in ECX is a word
  module _ (small : (slot_at s n).registers.ecx < 2 ^ 32) where
    here : (at : SendStage) → place_of (slot_at s n) ≡ place.InService (service.Send id value va) (step_of at) →
        IsPlain s n (plan at).asks → is_pausing (place.InService (service.Send id value va) (step_of at)) ≡ false →
        IsAt s n (plan at) (service.Send id value va) (step_of at)
    here at stands plain goes_on =
        record {
          stands = stands;
          live = live;
          numbered = refl;
          plain = plain;
          goes_on = goes_on;
          falls = λ called. falls at (answer_of called);
          few = few at;
        }

    -- a page that passes is none that waits to be copied
    trying_copies : (perm : ℕ) → place_of (slot_at s n) ≡ place.InService (service.Send id value va) (step.Trying perm) →
        KeepsCopies n s (performed s n (plan (stage.Trying perm)).asks).state
    unfolding performed
    trying_copies perm stands = sending_copies s n id value va perm stands

    -- the file server is never sent anything
    trying_aside : (perm : ℕ) → place_of (slot_at s n) ≡ place.InService (service.Send id value va) (step.Trying perm) →
        (a : AbstractState) → Stands s a → sends_aside SYS_IPC_TRY_SEND (id ∷ value ∷ destination_of va ∷ perm ∷ 0 ∷ []) ≡ true
    trying_aside perm stands a h =
        let v = served h.1 n (service.Send id value va) (step.Trying perm) stands in
        let at : IsTrying (rows_of s.spaces (slot_at s n).directory) (slot_at s n) v.b id value va perm = v.at in
        sent_aside (id ∷ value ∷ destination_of va ∷ perm ∷ 0 ∷ []) at.other.1

    pub send_holds : (at : Step) → place_of (slot_at s n) ≡ place.InService (service.Send id value va) at →
        ServiceHolds s n (or_nowhere sending (send_at id value va at))
    send_holds step.Entered stands =
        let args = 0 ∷ 0 ∷ 0 ∷ 0 ∷ 0 ∷ [] in
        law_of_call s n (plan stage.Entered) (service.Send id value va) step.Entered (here stage.Entered stands (plainly refl) refl) SYS_GETENVID args refl refl
        (subst (λ (z : CallStep Called). LivesOn z n (slot_at s n).registers) (sym (getenvid_is s n live args)) (record { live = live; registers = refl; written = refl }))
        (λ order. subst (λ (z : CallStep Called). KeepsBy s n (plan stage.Entered) z) (sym (getenvid_is s n live args)) (entered_keeps s n id value va stands))
    send_holds step.ReadingRegion stands =
        law_of_load s n (plan stage.ReadingRegion) (service.Send id value va) step.ReadingRegion (here stage.ReadingRegion stands (plainly refl) refl)
        (UVPD + 4 * (va / PGSIZE / NPTENTRIES)) refl
        (λ names a h. (
          record { word = region_word s n id value va stands; is = region_there s n id value va stands names a h },
          region_follows s n id value va stands names a h,
        ))
    send_holds step.ReadingEntry stands =
        law_of_load s n (plan stage.ReadingEntry) (service.Send id value va) step.ReadingEntry (here stage.ReadingEntry stands (plainly refl) refl)
        (UVPT + 4 * (va / PGSIZE)) refl
        (λ names a h. (
          record { word = word s n id value va stands; is = entry_there s n id value va stands names a h },
          entry_follows s n id value va stands names a h,
        ))
    send_holds (step.Trying perm) stands =
        let word_small : value < 2 ^ 32 = subst (λ (w : ℕ). w < 2 ^ 32) (given_word (slot_at s n) id value va (step.Trying perm) stands) small in
        let it = sent s n id value va perm stands live word_small in
        law_of_call s n (plan (stage.Trying perm)) (service.Send id value va) (step.Trying perm)
        (here (stage.Trying perm) stands (knowingly refl (trying_copies perm stands) (trying_aside perm stands)) refl)
        SYS_IPC_TRY_SEND (id ∷ value ∷ destination_of va ∷ perm ∷ 0 ∷ []) refl refl
        (record { live = it.live; registers = it.registers; written = it.written })
        (answered_keeps s n (plan (stage.Trying perm)) (send_call s n id value va perm) it (trying_keeps s n id value va perm stands live word_small))
    send_holds (step.Pausing perm) stands =
        law_of_pause s n (service.Send id value va) (step.Pausing perm) (step.Trying perm) SERVICE_SEND (0 ∷ 0 ∷ 0 ∷ 0 ∷ 0 ∷ []) stands live refl refl
        (omega arith) (pausing_keeps s n id value va perm stands)
    send_holds (step.Receiving own) stands = law_of_nowhere s n (service.Send id value va) (step.Receiving own) stands refl (λ view k b h. h)
    send_holds (step.ReadingValue own) stands = law_of_nowhere s n (service.Send id value va) (step.ReadingValue own) stands refl (λ view k b h. h)
    send_holds (step.ReadingSender own word) stands =
        law_of_nowhere s n (service.Send id value va) (step.ReadingSender own word) stands refl (λ view k b h. h)
    send_holds (step.ReadingPerm own word sender) stands =
        law_of_nowhere s n (service.Send id value va) (step.ReadingPerm own word sender) stands refl (λ view k b h. h)
    send_holds (step.ForkRegion child region) stands = law_of_nowhere s n (service.Send id value va) (step.ForkRegion child region) stands refl (λ view k b h. h)
    send_holds (step.ForkEntry child page) stands = law_of_nowhere s n (service.Send id value va) (step.ForkEntry child page) stands refl (λ view k b h. h)
    send_holds (step.MapChild child page perm) stands = law_of_nowhere s n (service.Send id value va) (step.MapChild child page perm) stands refl (λ view k b h. h)
    send_holds (step.Remap child page) stands = law_of_nowhere s n (service.Send id value va) (step.Remap child page) stands refl (λ view k b h. h)
    send_holds (step.ChildStack child) stands = law_of_nowhere s n (service.Send id value va) (step.ChildStack child) stands refl (λ view k b h. h)
    send_holds (step.ChildUpcall child) stands = law_of_nowhere s n (service.Send id value va) (step.ChildUpcall child) stands refl (λ view k b h. h)
    send_holds (step.ChildRuns child) stands = law_of_nowhere s n (service.Send id value va) (step.ChildRuns child) stands refl (λ view k b h. h)
    send_holds (step.Undoing child error) stands = law_of_nowhere s n (service.Send id value va) (step.Undoing child error) stands refl (λ view k b h. h)
    send_holds (step.DescriptorEntry fd) stands = law_of_nowhere s n (service.Send id value va) (step.DescriptorEntry fd) stands refl (λ view k b h. h)
    send_holds step.TargetEntry stands = law_of_nowhere s n (service.Send id value va) step.TargetEntry stands refl (λ view k b h. h)
    send_holds (step.DroppingDescriptor fd) stands = law_of_nowhere s n (service.Send id value va) (step.DroppingDescriptor fd) stands refl (λ view k b h. h)
    send_holds step.MappingDescriptor stands = law_of_nowhere s n (service.Send id value va) step.MappingDescriptor stands refl (λ view k b h. h)
    send_holds step.Ending stands = law_of_nowhere s n (service.Send id value va) step.Ending stands refl (λ view k b h. h)
    send_holds step.ReadingDevice stands = law_of_nowhere s n (service.Send id value va) step.ReadingDevice stands refl (λ view k b h. h)
    send_holds (step.BufferRegion done word) stands = law_of_nowhere s n (service.Send id value va) (step.BufferRegion done word) stands refl (λ view k b h. h)
    send_holds (step.BufferEntry done word) stands = law_of_nowhere s n (service.Send id value va) (step.BufferEntry done word) stands refl (λ view k b h. h)
    send_holds step.TakingPage stands = law_of_nowhere s n (service.Send id value va) step.TakingPage stands refl (λ view k b h. h)
    send_holds (step.Gathering done) stands = law_of_nowhere s n (service.Send id value va) (step.Gathering done) stands refl (λ view k b h. h)
    send_holds (step.Keeping done word left) stands = law_of_nowhere s n (service.Send id value va) (step.Keeping done word left) stands refl (λ view k b h. h)
    send_holds step.Printing stands = law_of_nowhere s n (service.Send id value va) step.Printing stands refl (λ view k b h. h)
    send_holds step.Releasing stands = law_of_nowhere s n (service.Send id value va) step.Releasing stands refl (λ view k b h. h)
    send_holds step.Getting stands = law_of_nowhere s n (service.Send id value va) step.Getting stands refl (λ view k b h. h)
    send_holds (step.Delivering done word) stands = law_of_nowhere s n (service.Send id value va) (step.Delivering done word) stands refl (λ view k b h. h)
    send_holds (step.Faulting done word) stands = law_of_nowhere s n (service.Send id value va) (step.Faulting done word) stands refl (λ view k b h. h)
    send_holds (step.Asking own) stands = law_of_nowhere s n (service.Send id value va) (step.Asking own) stands refl (λ view k b h. h)
    send_holds (step.Awaiting own) stands = law_of_nowhere s n (service.Send id value va) (step.Awaiting own) stands refl (λ view k b h. h)
    send_holds (step.ReadingReply own) stands = law_of_nowhere s n (service.Send id value va) (step.ReadingReply own) stands refl (λ view k b h. h)
    send_holds step.Identifying stands = law_of_nowhere s n (service.Send id value va) step.Identifying stands refl (λ view k b h. h)
    send_holds (step.Clearing own) stands = law_of_nowhere s n (service.Send id value va) (step.Clearing own) stands refl (λ view k b h. h)
    send_holds step.ReadingMode stands = law_of_nowhere s n (service.Send id value va) step.ReadingMode stands refl (λ view k b h. h)
    send_holds step.ReadingNumber stands = law_of_nowhere s n (service.Send id value va) step.ReadingNumber stands refl (λ view k b h. h)
    send_holds (step.StoringNumber own) stands = law_of_nowhere s n (service.Send id value va) (step.StoringNumber own) stands refl (λ view k b h. h)
    send_holds step.StoringCount stands = law_of_nowhere s n (service.Send id value va) step.StoringCount stands refl (λ view k b h. h)
    send_holds step.TakingRequest stands = law_of_nowhere s n (service.Send id value va) step.TakingRequest stands refl (λ view k b h. h)
    send_holds (step.GatheringBytes done start) stands = law_of_nowhere s n (service.Send id value va) (step.GatheringBytes done start) stands refl (λ view k b h. h)
    send_holds (step.KeepingBytes done word left start) stands = law_of_nowhere s n (service.Send id value va) (step.KeepingBytes done word left start) stands refl (λ view k b h. h)
    send_holds step.FreeRegion stands = law_of_nowhere s n (service.Send id value va) step.FreeRegion stands refl (λ view k b h. h)
    send_holds (step.FreeEntry kept) stands = law_of_nowhere s n (service.Send id value va) (step.FreeEntry kept) stands refl (λ view k b h. h)
    send_holds (step.StoringMode kept) stands = law_of_nowhere s n (service.Send id value va) (step.StoringMode kept) stands refl (λ view k b h. h)
    send_holds (step.OpenIdentifying kept) stands = law_of_nowhere s n (service.Send id value va) (step.OpenIdentifying kept) stands refl (λ view k b h. h)
    send_holds (step.OpenAsking own kept) stands = law_of_nowhere s n (service.Send id value va) (step.OpenAsking own kept) stands refl (λ view k b h. h)
    send_holds (step.OpenPausing own kept) stands = law_of_nowhere s n (service.Send id value va) (step.OpenPausing own kept) stands refl (λ view k b h. h)
    send_holds (step.OpenAwaiting own kept) stands = law_of_nowhere s n (service.Send id value va) (step.OpenAwaiting own kept) stands refl (λ view k b h. h)
    send_holds (step.OpenClearing own kept) stands = law_of_nowhere s n (service.Send id value va) (step.OpenClearing own kept) stands refl (λ view k b h. h)
    send_holds (step.ReadingOpened own kept) stands = law_of_nowhere s n (service.Send id value va) (step.ReadingOpened own kept) stands refl (λ view k b h. h)
    send_holds (step.Piped at) stands = law_of_nowhere s n (service.Send id value va) (step.Piped at) stands refl (λ view k b h. h)
    send_holds (step.Spawning at) stands = law_of_nowhere s n (service.Send id value va) (step.Spawning at) stands refl (λ view k b h. h)
    send_holds (step.CountingReply own) stands = law_of_nowhere s n (service.Send id value va) (step.CountingReply own) stands refl (λ view k b h. let contradiction : false ≡ true = h.hands in cc)
    send_holds (step.FileRegion done count) stands = law_of_nowhere s n (service.Send id value va) (step.FileRegion done count) stands refl (λ view k b h. let contradiction : false ≡ true = h.hands in cc)
    send_holds (step.FileEntry done count) stands = law_of_nowhere s n (service.Send id value va) (step.FileEntry done count) stands refl (λ view k b h. let contradiction : false ≡ true = h.0.hands in cc)
    send_holds (step.LoadingBytes done count) stands = law_of_nowhere s n (service.Send id value va) (step.LoadingBytes done count) stands refl (λ view k b h. let contradiction : false ≡ true = h.has.hands in cc)
    send_holds (step.LoadingRest done count first) stands = law_of_nowhere s n (service.Send id value va) (step.LoadingRest done count first) stands refl (λ view k b h. let contradiction : false ≡ true = h.has.hands in cc)
    send_holds (step.PuttingBytes done count word) stands = law_of_nowhere s n (service.Send id value va) (step.PuttingBytes done count word) stands refl (λ view k b h. let contradiction : false ≡ true = h.has.hands in cc)
    send_holds (step.FileFaulting done count) stands = law_of_nowhere s n (service.Send id value va) (step.FileFaulting done count) stands refl (λ view k b h. let contradiction : false ≡ true = h.0.hands in cc)
    send_holds (step.Returning answer) stands = law_of_nowhere s n (service.Send id value va) (step.Returning answer) stands refl (λ view k b h. let contradiction : false ≡ true = h.goes in cc)
