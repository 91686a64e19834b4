-- The bytes of a file that read and stat can't put into their buffer: where the page waits to be copied, the fault goes to the handler, which copies
-- it, and where it refuses them, the service raises the fault that ends the environment.
use Rattle.std.proofs.Common.{◌≡◌, ◌∙◌, ◌+◌, ◌%◌, ◌^◌, ◌<◌, ℕ, Bool, true, false, refl, sym, ap, subst, arith}
use Rattle.std.specs.Prelude.{Err, Some}
use Rattle.jos_base.specs.declared.memory.Access.TheVariants.{Write}
use Rattle.jos_base.specs.declared.memory.PageFault.{PageFault}
use Rattle.jos_base.specs.declared.numbers.TheConstants.{FEC_PR, FEC_U, FEC_WR}
use Rattle.jos_base.specs.KernelState.{KernelState, slot_at}
use Rattle.jos_base.specs.UserMemory.{is_allowed, reach_in}
use Rattle.jos_base.specs.Words.{page_number}
use Rattle.lib_os.specs.declared.place.Place.{Place}
use Rattle.lib_os.specs.declared.place.Place.TheVariants as place
use Rattle.lib_os.specs.declared.place.Step.TheVariants as step
use Rattle.lib_os.specs.declared.service.Service.{Service}
use Rattle.lib_os.specs.AbstractMemory.{page_allows, page_at, page_fault}
use Rattle.lib_os.specs.AbstractState.{AbstractState}
use Rattle.lib_os.specs.Fence.{is_inside}
use Rattle.lib_os.specs.InOrder.{IsInOrder}
use Rattle.lib_os.specs.LibraryPages.{View}
use Rattle.lib_os.specs.LibrarySteps.{hidden_left}
use Rattle.lib_os.specs.Places.{place_of}
use Rattle.lib_os.specs.Rows.{Names, rows_of}
use Rattle.lib_os.specs.StandsFor.{StandsFor, view_of}
use Rattle.lib_os.specs.StandsInHandler.{AreSmall, HasBytes, IsStoppedAt, buffer_of, in_handing, is_refused_by, next_page}
use Rattle.lib_os.specs.UserCalls.{store, store_byte}
use Rattle.lib_os.proofs.Beneath.{IsStopping, bytes_inside, handing_plain, stops_handing}
use Rattle.lib_os.proofs.BufferAccesses.{entry_forbids, entry_lets}
use Rattle.lib_os.proofs.BytesRead.{IsLostWrite, user_lost, user_refusal, user_refuses}
use Rattle.lib_os.proofs.BytesRefused.{error_small, handed_over, handing, refused_error, refused_is, store_byte_faults, store_faults}
use Rattle.lib_os.proofs.FaultsStand.{fault_copies, fault_stops, file_stop_lowers, handing_lowers}
use Rattle.lib_os.proofs.Fences.{inside_below}
use Rattle.lib_os.proofs.FileLooks.{handing_writes}
use Rattle.lib_os.proofs.FilePut.{put_has, put_inside, put_service}
use Rattle.lib_os.proofs.Logical.{is_plain}
use Rattle.lib_os.proofs.Serving.{IsServed, served}

-- ---- the page waits to be copied

module _ {names : Names} {s : KernelState} {a : AbstractState} (h : StandsFor names s a) (n : ℕ) (call : Service) (done count word : ℕ)
    (stands : place_of (slot_at s n) ≡ place.InService call (step.PuttingBytes done count word))
    (off : is_allowed s.spaces (slot_at s n).directory (buffer_of call + done) Write ≡ false) where
  abbrev d : ℕ
  d = (slot_at s n).directory

  abbrev va : ℕ
  va = buffer_of call + done

  abbrev there : Place
  there = place.InService call (step.PuttingBytes done count word)

  abbrev v : IsServed names s a n call (step.PuttingBytes done count word)
  v = put_service h n call done count word stands

  pub counts : is_plain there ≡ true
  counts = handing_plain call (put_has h n call done count word stands).has.hands (step.PuttingBytes done count word)

  inside : is_inside va ≡ true
  inside = put_inside h n call done count word stands

  abbrev fault : PageFault
  fault = record { va = va; error = FEC_U + FEC_PR + FEC_WR }

  abbrev pub file_lost_after : KernelState
  file_lost_after =
      handed_over h n v.b v.is (place.InService call (step.PuttingBytes done count word)) stands refl counts refl
      (record { va = buffer_of call + done; error = FEC_U + FEC_PR + FEC_WR })

  lost : IsLostWrite s.spaces d va
  lost = user_lost names s a n v.b h v.is va inside off (entry_lets h n v.b v.is va inside true (put_has h n call done count word stands).allowed)

  raised : reach_in s.spaces d va Write ≡ Err fault
  raised = refused_is (reach_in s.spaces d va Write) (record { va = va; error = 0 }) off ∙ ap (λ (f : PageFault). Err f) lost.fault

  pub file_lost_word : (value : ℕ) → store s n (buffer_of call + done) value ≡ handing file_lost_after
  file_lost_word value = store_faults h n v.b v.is there stands refl counts refl fault va value raised

  pub file_lost_byte : (byte : ℕ) → store_byte s n (buffer_of call + done) byte ≡ handing file_lost_after
  file_lost_byte byte = store_byte_faults h n v.b v.is there stands refl counts refl fault va byte raised

  pub file_lost_stands : AreSmall (slot_at s n).registers → IsInOrder file_lost_after → s.last ≡ Some n → StandsFor names file_lost_after a
  file_lost_stands small in_order last =
      fault_copies h n v.b v.is there stands refl counts refl fault small inside refl lost.page
      (in_handing call done count word stands (put_has h n call done count word stands)) in_order last

  pub file_lost_lowers : hidden_left file_lost_after n < hidden_left s n
  file_lost_lowers = handing_lowers h n v.b v.is there stands refl counts refl fault call done count word refl inside lost.page

-- ---- the page refuses them

module _ {names : Names} {s : KernelState} {a : AbstractState} (h : StandsFor names s a) (n : ℕ) (call : Service) (done count : ℕ)
    (stands : place_of (slot_at s n) ≡ place.InService call (step.FileFaulting done count)) where
  abbrev space : View
  space = view_of s.spaces (slot_at s n).directory

  abbrev at : Place
  at = place.InService call (step.FileFaulting done count)

  abbrev w : IsServed names s a n call (step.FileFaulting done count)
  w = served h n call (step.FileFaulting done count) stands

  abbrev has : HasBytes space (slot_at s n) w.b call done count
  has = w.at.0

  abbrev next : ℕ
  next = buffer_of call + done

  next_inside : is_inside next ≡ true
  next_inside = bytes_inside space (slot_at s n) w.b call done count has

  pub file_stop_va : (buffer_of call + done) % 2 ^ 32 ≡ buffer_of call + done
  file_stop_va = let below = inside_below next next_inside in omega (arith, below)

  pub plain : is_plain at ≡ true
  plain = handing_plain call has.hands (step.FileFaulting done count)

  refuses : is_refused_by true (rows_of s.spaces (slot_at s n).directory (page_number next)) ≡ true
  refuses = ap (λ (t : Bool). is_refused_by t (space.row (next_page call done))) (sym (handing_writes call has.hands)) ∙ w.at.1

  abbrev stop_fault : PageFault
  stop_fault = page_fault (page_at w.b next) next Write

  abbrev pub file_stopped_after : KernelState
  file_stopped_after =
      handed_over h n w.b w.is (place.InService call (step.FileFaulting done count)) stands refl plain refl
      (page_fault (page_at w.b (buffer_of call + done)) (buffer_of call + done) Write)

  forbids : page_allows (page_at w.b next) Write ≡ false
  forbids = entry_forbids h n w.b w.is next next_inside true refuses

  pub file_stopped : (byte : ℕ) → store_byte s n (buffer_of call + done) byte ≡ handing file_stopped_after
  file_stopped byte =
      store_byte_faults h n w.b w.is at stands refl plain refl stop_fault next byte (user_refuses names s a n w.b h w.is next next_inside Write forbids)

  stopping : IsStopping true space (slot_at s n) w.b next
  stopping = stops_handing space (slot_at s n) w.b call done count has

  pub file_stopped_stands : AreSmall (slot_at s n).registers → IsInOrder file_stopped_after → s.last ≡ Some n → StandsFor names file_stopped_after a
  file_stopped_stands small in_order last =
      fault_stops h n w.b w.is at stands refl plain refl stop_fault small next_inside (error_small true (page_at w.b next))
      (user_refusal names s a n w.b h w.is next next_inside Write forbids) stopping.eax stopping.program stopping.silent stopping.awake
      (subst (λ (t : Bool). IsStoppedAt t space w.b next (slot_at s n).registers.eip) (sym (refused_error true (page_at w.b next)))
      (stopping.stopped (slot_at s n).registers.eip))
      in_order last

  pub file_stopped_lowers : hidden_left file_stopped_after n < hidden_left s n
  file_stopped_lowers = file_stop_lowers h n w.b w.is at stands refl plain refl stop_fault call done count refl
