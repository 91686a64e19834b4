-- A service that is given a path raises the fault of a byte of it that its page refuses, and the handler of page faults gets that: the kernel's state goes on
-- standing for the same abstract one, and fewer hidden steps are left.
use Rattle.std.proofs.Common.{◌≡◌, ◌∙◌, ◌+◌, ◌%◌, ◌^◌, ◌<◌, ℕ, Bool, true, false, refl, sym, ap}
use Rattle.std.specs.Prelude.{None, Some}
use Rattle.jos_base.specs.declared.memory.Access.TheVariants.{Read}
use Rattle.jos_base.specs.KernelState.{KernelState, slot_at}
use Rattle.jos_base.specs.Words.{page_number}
use Rattle.lib_os.specs.declared.place.Place.TheVariants as place
use Rattle.lib_os.specs.declared.place.Step.TheVariants as step
use Rattle.lib_os.specs.declared.service.Service.{Service}
use Rattle.lib_os.specs.AbstractMemory.{page_at, page_fault}
use Rattle.lib_os.specs.AbstractState.{AbstractState}
use Rattle.lib_os.specs.Fence.{is_inside}
use Rattle.lib_os.specs.InOrder.{IsInOrder}
use Rattle.lib_os.specs.LibrarySteps.{hidden_left}
use Rattle.lib_os.specs.Rows.{Names, rows_of}
use Rattle.lib_os.specs.StandsFor.{IsTakingPath, StandsFor, borne_in, refuses_next, view_of}
use Rattle.lib_os.specs.StandsInHandler.{AreSmall, buffer_of, following, is_refused_by}
use Rattle.lib_os.specs.UserCalls.{load_byte}
use Rattle.lib_os.proofs.BufferLooks.{next_small}
use Rattle.lib_os.proofs.BytesRefused.{handed_over, handing, load_byte_faults, stopped_lowers, stopped_raised, stopped_stands}
use Rattle.lib_os.proofs.Paths.{follows_inside, taking_follows}
use Rattle.lib_os.proofs.PathServices.{before_path, has_path, path_plain, path_reads, path_unborne}
use Rattle.lib_os.proofs.Serving.{IsServed}

module _ {names : Names} {s : KernelState} {a : AbstractState} (h : StandsFor names s a) (n : ℕ) (call : Service) (takes : has_path call ≡ true)
    (done word : ℕ) (v : IsServed names s a n call (step.Faulting done word)) where
  abbrev path : ℕ
  path = buffer_of call

  before : IsTakingPath (view_of s.spaces (slot_at s n).directory) (slot_at s n) v.b call done
      × (refuses_next (rows_of s.spaces (slot_at s n).directory) call done ≡ true)
  before = before_path (view_of s.spaces (slot_at s n).directory) (slot_at s n) v.b call takes done word v.at

  abbrev taking : IsTakingPath (view_of s.spaces (slot_at s n).directory) (slot_at s n) v.b call done
  taking = before.0

  pub unborne : borne_in (place.InService call (step.Faulting done word)) ≡ None
  unborne = path_unborne call takes (step.Faulting done word) refl

  refused : is_refused_by false (rows_of s.spaces (slot_at s n).directory (page_number (path + done))) ≡ true
  refused =
      ap (λ (w : Bool). is_refused_by w (rows_of s.spaces (slot_at s n).directory (page_number (path + done)))) (sym (path_reads call takes)) ∙ before.1

  path_place : ((path + done) % 2 ^ 32 ≡ path + done) × (is_inside (path + done) ≡ true)
  path_place =
      let inside = follows_inside path done
      (taking_follows (view_of s.spaces (slot_at s n).directory) (slot_at s n) v.b call done taking) in
      (next_small (path + done) inside, inside)

  abbrev pub path_stopped_after : KernelState
  path_stopped_after =
      handed_over h n v.b v.is (place.InService call (step.Faulting done word)) v.place refl (path_plain call takes (step.Faulting done word) refl) refl
      (page_fault (page_at v.b (path + done)) (path + done) Read)

  pub path_stopped : load_byte s n ((path + done) % 2 ^ 32) ≡ handing path_stopped_after
  path_stopped =
      ap (load_byte s n) path_place.0
      ∙ load_byte_faults h n v.b v.is (place.InService call (step.Faulting done word)) v.place refl (path_plain call takes (step.Faulting done word) refl) refl
      (page_fault (page_at v.b (path + done)) (path + done) Read) (path + done)
      (stopped_raised h n v.b v.is call done word v.place (path_plain call takes (step.Faulting done word) refl) (path + done) path_place.1 false refused)

  pub path_stopped_stands : AreSmall (slot_at s n).registers → IsInOrder path_stopped_after → s.last ≡ Some n → StandsFor names path_stopped_after a
  path_stopped_stands small =
      stopped_stands h n v.b v.is call done word v.place (path_plain call takes (step.Faulting done word) refl) (path + done)
      path_place.1 false refused small (slot_at s n).registers.eax
      taking.program taking.silent taking.awake (following call taking.bytes refl taking.wants (ap (λ (m : ℕ). path + m) (sym taking.many)))

  pub path_stopped_lowers : hidden_left path_stopped_after n < hidden_left s n
  path_stopped_lowers =
      stopped_lowers h n v.b v.is call done word v.place (path_plain call takes (step.Faulting done word) refl) (path + done) path_place.1 false refused
