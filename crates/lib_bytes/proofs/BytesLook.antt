-- The law of read and of stat of a file where they have the reply: how many bytes came with it, and whether the page of the next of them is there
-- and may be written. Nobody sees any of it.
use Rattle.std.proofs.Common.{◌≡◌, ◌==◌, ◌||◌, ℕ, Bool, true, false, not, refl, arith, if◌then◌else◌}
use Rattle.std.proofs.lemmas.Bool.Decides.{nat_tests}
use Rattle.jos_base.specs.Environments.{is_live, is_runnable, is_running}
use Rattle.jos_base.specs.KernelState.{KernelState, slot_at}
use Rattle.lib_os.specs.declared.place.Place.TheVariants as place
use Rattle.lib_os.specs.declared.place.Step.TheVariants as step
use Rattle.lib_os.specs.declared.service.Service.{Service}
use Rattle.lib_os.specs.AbstractState.{AbstractState}
use Rattle.lib_os.specs.InOrder.{IsInOrder}
use Rattle.lib_os.specs.Places.{place_of}
use Rattle.lib_os.specs.Rows.{Names}
use Rattle.lib_os.specs.StandsFor.{StandsFor}
use Rattle.lib_os.specs.StandsInHandler.{handed_with, hands_back}
use Rattle.lib_os.proofs.BufferLooks.{buffer_entry_va, buffer_entry_word, buffer_region_va, buffer_region_word, buffer_va, tells_allowed, tells_page}
use Rattle.lib_os.proofs.BytesCounted.{counting_gives, counts_none, counts_some}
use Rattle.lib_os.proofs.FileLooks.{file_entry_allows, file_entry_gives, file_entry_refuses, file_region_found, file_region_gives, file_region_missing}
use Rattle.lib_os.proofs.Loading.{loaded}
use Rattle.lib_stage.specs.declared.ask.Ask.TheVariants as ask
use Rattle.lib_stage.specs.declared.ask.Next.TheVariants as next
use Rattle.lib_stage.specs.ServiceSteps.{ServiceHolds}
use Rattle.lib_stage.proofs.Laws.{Falls}
use Rattle.lib_file.specs.Buffers.{entry_asked, region_asked}
use Rattle.lib_file.proofs.Finds.{Follows, load_holds, staged}
use Rattle.lib_request.specs.Replies.{reply_place}
use Rattle.lib_bytes.specs.FileStages.{next_of_counting, next_of_entry, next_of_region}
use Rattle.lib_bytes.proofs.Handing.{handing_steady}

module _ (s : KernelState) (n : ℕ) (call : Service) (hands : hands_back call ≡ true) (live : is_live (slot_at s n) ≡ true) where
  -- ---- how many bytes came

  module _ (awake : (is_runnable (slot_at s n).status || is_running (slot_at s n).status) ≡ true) (id : ℕ)
      (stands : place_of (slot_at s n) ≡ place.InService call (step.CountingReply id)) where
    counting_falls : (word : ℕ) → Falls call (step.CountingReply id) (next_of_counting id (handed_with call word))
    counting_falls word = by_test (handed_with call word) (handed_with call word == 0)
      where
        by_test : (count : ℕ) (t : Bool) →
            Falls call (step.CountingReply id) (if t then next.GoOn (step.Clearing id) else next.GoOn (step.FileRegion 0 count))
        by_test count true = omega arith
        by_test count false = omega arith

    abbrev word : ℕ
    word = (slot_at s n).rendezvous.value

    counting_follows : (names : Names) (a : AbstractState) → StandsFor names s a → IsInOrder (loaded s n (reply_place id)) →
        Follows (loaded s n (reply_place id)) n call a (next_of_counting id (handed_with call word))
    counting_follows names a h order = by_test (handed_with call word == 0) refl
      where
        by_test : (t : Bool) → (handed_with call word == 0) ≡ t →
            Follows (loaded s n (reply_place id)) n call a
            (if t then next.GoOn (step.Clearing id) else next.GoOn (step.FileRegion 0 (handed_with call word)))
        by_test true none = (refl, (names, counts_none s n id call stands awake h order (grind (arith, nat_tests, none))))
        by_test false some = (refl, (names, counts_some s n id call stands awake h order (grind (arith, nat_tests, some))))

    pub counting_holds : ServiceHolds s n (staged call (ask.Load (reply_place id)) (λ word. next_of_counting id (handed_with call word)))
    counting_holds =
        load_holds s n call (step.CountingReply id) live (handing_steady call hands (step.CountingReply id) refl) stands (reply_place id) word
        (λ word. next_of_counting id (handed_with call word)) counting_falls (λ names a h. counting_gives s n id call stands awake h) counting_follows

  -- ---- whether the region of the next byte has a table

  module _ (done count : ℕ) (stands : place_of (slot_at s n) ≡ place.InService call (step.FileRegion done count)) where
    region_falls : (word : ℕ) → Falls call (step.FileRegion done count) (next_of_region done count word)
    region_falls word = by_test (tells_page word)
      where
        by_test : (t : Bool) → Falls call (step.FileRegion done count)
            (if not t then next.GoOn (step.FileFaulting done count) else next.GoOn (step.FileEntry done count))
        by_test true = omega arith
        by_test false = omega arith

    region_follows : (names : Names) (a : AbstractState) → StandsFor names s a → IsInOrder (loaded s n (buffer_region_va call done)) →
        Follows (loaded s n (buffer_region_va call done)) n call a (next_of_region done count (buffer_region_word s n call done))
    region_follows names a h order = by_test (tells_page (buffer_region_word s n call done)) refl
      where
        by_test : (t : Bool) → tells_page (buffer_region_word s n call done) ≡ t →
            Follows (loaded s n (buffer_region_va call done)) n call a
            (if not t then next.GoOn (step.FileFaulting done count) else next.GoOn (step.FileEntry done count))
        by_test true is = (refl, (names, file_region_found s n call done count stands h order is))
        by_test false is = (refl, (names, file_region_missing s n call done count stands h order is))

    pub file_region_holds : ServiceHolds s n (staged call (region_asked (buffer_va call done)) (next_of_region done count))
    file_region_holds =
        load_holds s n call (step.FileRegion done count) live (handing_steady call hands (step.FileRegion done count) refl) stands
        (buffer_region_va call done) (buffer_region_word s n call done) (next_of_region done count) region_falls
        (λ names a h. file_region_gives s n call done count stands h) region_follows

  -- ---- whether its page may be written

  module _ (done count : ℕ) (stands : place_of (slot_at s n) ≡ place.InService call (step.FileEntry done count)) where
    entry_falls : (word : ℕ) → Falls call (step.FileEntry done count) (next_of_entry done count word)
    entry_falls word = by_test (tells_allowed true word)
      where
        by_test : (t : Bool) → Falls call (step.FileEntry done count)
            (if not t then next.GoOn (step.FileFaulting done count) else next.GoOn (step.LoadingBytes done count))
        by_test true = omega arith
        by_test false = omega arith

    entry_follows : (names : Names) (a : AbstractState) → StandsFor names s a → IsInOrder (loaded s n (buffer_entry_va call done)) →
        Follows (loaded s n (buffer_entry_va call done)) n call a (next_of_entry done count (buffer_entry_word s n call done))
    entry_follows names a h order = by_test (tells_allowed true (buffer_entry_word s n call done)) refl
      where
        by_test : (t : Bool) → tells_allowed true (buffer_entry_word s n call done) ≡ t →
            Follows (loaded s n (buffer_entry_va call done)) n call a
            (if not t then next.GoOn (step.FileFaulting done count) else next.GoOn (step.LoadingBytes done count))
        by_test true is = (refl, (names, file_entry_allows s n call done count stands h order is))
        by_test false is = (refl, (names, file_entry_refuses s n call done count stands h order is))

    pub file_entry_holds : ServiceHolds s n (staged call (entry_asked (buffer_va call done)) (next_of_entry done count))
    file_entry_holds =
        load_holds s n call (step.FileEntry done count) live (handing_steady call hands (step.FileEntry done count) refl) stands
        (buffer_entry_va call done) (buffer_entry_word s n call done) (next_of_entry done count) entry_falls
        (λ names a h. file_entry_gives s n call done count stands h) entry_follows
