-- A byte of its buffer is refused to a service, and the fault is handed to the handler of page faults: where the page waits to be copied the
-- state stands for the same of the abstract system, and the service puts its bytes again behind the copy; where the page refuses the byte,
-- so it does, and the handler is about to end the environment.
use Rattle.std.proofs.Common.{◌≡◌, ◌∙◌, ◌+◌, ◌%◌, ◌^◌, ◌<◌, ℕ, Bool, true, false, [], ◌∷◌, length, refl, sym, ap, subst, arith}
use Rattle.std.specs.Prelude.{drop, is_ok, Option, Some, None, Result, Ok, Err}
use Rattle.jos_base.specs.declared.memory.Access.{Access}
use Rattle.jos_base.specs.declared.memory.Access.TheVariants.{Read, Write}
use Rattle.jos_base.specs.declared.memory.PageFault.{PageFault}
use Rattle.jos_base.specs.declared.numbers.TheConstants.{FEC_PR, FEC_U, FEC_WR}
use Rattle.jos_base.specs.KernelState.{KernelState, slot_at}
use Rattle.jos_base.specs.Reach.{FrameOffset, write_bit}
use Rattle.jos_base.specs.UserMemory.{fault_or, is_allowed, reach_in}
use Rattle.jos_base.specs.Words.{page_number}
use Rattle.lib_os.specs.declared.place.Place.{Place}
use Rattle.lib_os.specs.declared.place.Place.TheVariants as place
use Rattle.lib_os.specs.declared.place.Step.TheVariants as step
use Rattle.lib_os.specs.declared.service.Service.{Service}
use Rattle.lib_os.specs.declared.service.Service.TheVariants as service
use Rattle.lib_os.specs.AbstractMemory.{page_allows, page_at, page_fault, presence_bit}
use Rattle.lib_os.specs.AbstractState.{AbstractState, Born, Page, born, guest}
use Rattle.lib_os.specs.Fence.{is_inside}
use Rattle.lib_os.specs.InOrder.{IsInOrder}
use Rattle.lib_os.specs.LibrarySteps.{hidden_left}
use Rattle.lib_os.specs.Places.{place_of}
use Rattle.lib_os.specs.Rows.{Names, rows_of}
use Rattle.lib_os.specs.StandsFor.{StandsFor, IsTaking, view_of}
use Rattle.lib_os.specs.StandsInHandler.{AreSmall, IsStoppedAt, StandsPutting, in_delivery, is_refused_by, is_write, reading, stat_told, telling}
use Rattle.lib_os.specs.StandsInHandler.{wanted_from, writing}
use Rattle.lib_os.specs.UserCalls.{CallStep, accessing, by_access, faulting, giving, load_byte, store, store_byte, to_handler}
use Rattle.lib_os.specs.UserCalls.{user_byte, with_user_byte, with_user_word}
use Rattle.lib_os.proofs.BufferAccesses.{access_of, entry_forbids, entry_lets}
use Rattle.lib_os.proofs.BytesDelivered.{at_inside, read_va_is, stat_va_is}
use Rattle.lib_os.proofs.BytesRead.{IsLostWrite, user_lost, user_refusal, user_refuses}
use Rattle.lib_os.proofs.FaultsStand.{delivery_lowers, fault_copies, fault_handled, fault_stops, handed, stack_frame, stop_lowers}
use Rattle.lib_os.proofs.Fences.{buffer_below, buffer_each}
use Rattle.lib_os.proofs.Logical.{is_plain}
use Rattle.lib_os.proofs.PipesStand.{is_calm}
use Rattle.lib_os.proofs.Serving.{IsServed}
use Rattle.lib_os.proofs.WordsTell.{is_in_handler}

-- ---- a fault that the handler gets

-- what an access comes to then
abbrev pub handing : {X : Type 0} → KernelState → CallStep X
handing after = record { state = after; gives = to_handler; written = [] }

module _ {names : Names} {s : KernelState} {a : AbstractState} (h : StandsFor names s a) (n : ℕ) (b : Born) (is : a.slots n ≡ born b)
    (there : Place) (stands : place_of (slot_at s n) ≡ there) (apart : is_in_handler there ≡ false) (counts : is_plain there ≡ true)
    (calm : is_calm there ≡ true) (fault : PageFault) where
  -- the state behind it
  abbrev pub handed_over : KernelState
  handed_over = handed s n fault (stack_frame h n b is there stands apart counts calm)

  module _ (va : ℕ) (access : Access) (raised : reach_in s.spaces (slot_at s n).directory va access ≡ Err fault) where
    access_faults : {X : Type 0} (done : KernelState → CallStep X) → by_access s n va access done ≡ handing handed_over
    access_faults done =
        ap (accessing s n va access done) raised ∙ ap (faulting s n fault) (fault_handled h n b is there stands apart counts calm fault)

  pub load_byte_faults : (va : ℕ) → reach_in s.spaces (slot_at s n).directory va Read ≡ Err fault → load_byte s n va ≡ handing handed_over
  unfolding load_byte
  load_byte_faults va raised = access_faults va Read raised (λ after. giving after (user_byte after n va))

  pub store_faults : (va word : ℕ) → reach_in s.spaces (slot_at s n).directory va Write ≡ Err fault → store s n va word ≡ handing handed_over
  unfolding store
  store_faults va word raised = access_faults va Write raised (λ after. giving (with_user_word after n va word) tt)

  pub store_byte_faults : (va byte : ℕ) → reach_in s.spaces (slot_at s n).directory va Write ≡ Err fault → store_byte s n va byte ≡ handing handed_over
  unfolding store_byte
  store_byte_faults va byte raised = access_faults va Write raised (λ after. giving (with_user_byte after n va byte) tt)

-- ---- the page waits to be copied

pub refused_is : (r : Result FrameOffset PageFault) (other : PageFault) → is_ok r ≡ false → r ≡ Err (fault_or other r)
refused_is (Ok location) other off = absurd (let contradiction : true ≡ false = off in cc)
refused_is (Err fault) other off = refl

-- a service that puts bytes at an address
module _ {names : Names} {s : KernelState} {a : AbstractState} (h : StandsFor names s a) (n : ℕ) (b : Born) (is : a.slots n ≡ born b)
    (call : Service) (done word : ℕ) (stands : place_of (slot_at s n) ≡ place.InService call (step.Delivering done word))
    (counts : is_plain (place.InService call (step.Delivering done word)) ≡ true)
    (beneath : StandsPutting (rows_of s.spaces (slot_at s n).directory) call done word (slot_at s n) b) (va : ℕ) (inside : is_inside va ≡ true)
    (lets : is_refused_by true (rows_of s.spaces (slot_at s n).directory (page_number va)) ≡ false)
    (off : is_allowed s.spaces (slot_at s n).directory va Write ≡ false) where
  abbrev d : ℕ
  d = (slot_at s n).directory

  abbrev there : Place
  there = place.InService call (step.Delivering done word)

  abbrev pub lost_fault : PageFault
  lost_fault = record { va = va; error = FEC_U + FEC_PR + FEC_WR }

  abbrev pub lost_after : KernelState
  lost_after = handed_over h n b is there stands refl counts refl lost_fault

  lost : IsLostWrite s.spaces d va
  lost = user_lost names s a n b h is va inside off (entry_lets h n b is va inside true lets)

  raised : reach_in s.spaces d va Write ≡ Err lost_fault
  raised = refused_is (reach_in s.spaces d va Write) (record { va = va; error = 0 }) off ∙ ap (λ (f : PageFault). Err f) lost.fault

  pub lost_word : (value : ℕ) → store s n va value ≡ handing lost_after
  lost_word value = store_faults h n b is there stands refl counts refl lost_fault va value raised

  pub lost_byte : (byte : ℕ) → store_byte s n va byte ≡ handing lost_after
  lost_byte byte = store_byte_faults h n b is there stands refl counts refl lost_fault va byte raised

  pub lost_stands : AreSmall (slot_at s n).registers → IsInOrder lost_after → s.last ≡ Some n → StandsFor names lost_after a
  lost_stands small in_order last =
      fault_copies h n b is there stands refl counts refl lost_fault small inside refl lost.page (in_delivery call done word stands beneath)
      in_order last

  pub lost_lowers : hidden_left lost_after n < hidden_left s n
  lost_lowers = delivery_lowers h n b is there stands refl counts refl lost_fault call done word refl inside lost.page

-- ---- the page refuses it

pub refused_error : (write : Bool) (page : Option Page) → is_write (FEC_U + presence_bit page + write_bit (access_of write)) ≡ write
refused_error true None = refl
refused_error true (Some page) = refl
refused_error false None = refl
refused_error false (Some page) = refl

pub error_small : (write : Bool) (page : Option Page) → FEC_U + presence_bit page + write_bit (access_of write) < 2 ^ 32
error_small true None = omega arith
error_small true (Some page) = omega arith
error_small false None = omega arith
error_small false (Some page) = omega arith

-- a service that is about to raise the fault
module _ {names : Names} {s : KernelState} {a : AbstractState} (h : StandsFor names s a) (n : ℕ) (b : Born) (is : a.slots n ≡ born b)
    (call : Service) (done word : ℕ) (stands : place_of (slot_at s n) ≡ place.InService call (step.Faulting done word))
    (plainly : is_plain (place.InService call (step.Faulting done word)) ≡ true) (va : ℕ) (inside : is_inside va ≡ true) (write : Bool)
    (refuses : is_refused_by write (rows_of s.spaces (slot_at s n).directory (page_number va)) ≡ true) where
  abbrev space : ℕ
  space = (slot_at s n).directory

  abbrev before_fault : Place
  before_fault = place.InService call (step.Faulting done word)

  abbrev pub stopped_fault : PageFault
  stopped_fault = page_fault (page_at b va) va (access_of write)

  abbrev pub stopped_after : KernelState
  stopped_after = handed_over h n b is before_fault stands refl plainly refl stopped_fault

  forbids : page_allows (page_at b va) (access_of write) ≡ false
  forbids = entry_forbids h n b is va inside write refuses

  pub stopped_raised : reach_in s.spaces space va (access_of write) ≡ Err stopped_fault
  stopped_raised = user_refuses names s a n b h is va inside (access_of write) forbids

  pub stopped_stands : AreSmall (slot_at s n).registers → (eax : ℕ) → b.program ≡ guest (record (slot_at s n).registers { eax = eax }) →
      (slot_at s n).rendezvous.receiving ≡ false → b.blocked ≡ false →
      IsStoppedAt write (view_of s.spaces space) b va (slot_at s n).registers.eip → IsInOrder stopped_after → s.last ≡ Some n →
      StandsFor names stopped_after a
  stopped_stands small eax program silent awake stopped in_order last =
      fault_stops h n b is before_fault stands refl plainly refl stopped_fault small inside (error_small write (page_at b va))
      (user_refusal names s a n b h is va inside (access_of write) forbids) eax program silent awake
      (subst (λ (w : Bool). IsStoppedAt w (view_of s.spaces space) b va (slot_at s n).registers.eip) (sym (refused_error write (page_at b va)))
      stopped)
      in_order last

  pub stopped_lowers : hidden_left stopped_after n < hidden_left s n
  stopped_lowers = stop_lowers h n b is before_fault stands refl plainly refl stopped_fault call done word refl

-- ---- read

module _ {names : Names} {s : KernelState} {a : AbstractState} (h : StandsFor names s a) (n fd va len done word : ℕ) where
  -- it has a byte, and the page may be written, where it stands or as a copy of it; the kernel lets it not
  module _ (v : IsServed names s a n (service.Read fd va len) (step.Delivering done word))
      (off : is_allowed s.spaces (slot_at s n).directory ((va + done) % 2 ^ 32) Write ≡ false) where
    read_inside : (is_inside ((va + done) % 2 ^ 32) ≡ true)
        × (is_refused_by true (rows_of s.spaces (slot_at s n).directory (page_number ((va + done) % 2 ^ 32))) ≡ false)
    read_inside =
        let same = read_va_is h n fd va len done word v in (
          ap is_inside same
              ∙ at_inside h n v.b v.is (service.Read fd va len) (step.Delivering done word) v.place refl refl refl (va + done) (word ∷ []) 1
              v.at.0 v.at.1,
          ap (λ (q : ℕ). is_refused_by true (rows_of s.spaces (slot_at s n).directory (page_number q))) same ∙ v.at.1,
        )

    abbrev pub read_lost_after : KernelState
    read_lost_after =
        handed_over h n v.b v.is (place.InService (service.Read fd va len) (step.Delivering done word)) v.place refl refl refl
        (record { va = (va + done) % 2 ^ 32; error = FEC_U + FEC_PR + FEC_WR })

    pub read_lost : (byte : ℕ) → store_byte s n ((va + done) % 2 ^ 32) byte ≡ handing read_lost_after
    read_lost byte =
        lost_byte h n v.b v.is (service.Read fd va len) done word v.place refl v.at ((va + done) % 2 ^ 32) read_inside.0 read_inside.1 off byte

    pub read_lost_stands : AreSmall (slot_at s n).registers → IsInOrder read_lost_after → s.last ≡ Some n → StandsFor names read_lost_after a
    read_lost_stands =
        lost_stands h n v.b v.is (service.Read fd va len) done word v.place refl v.at ((va + done) % 2 ^ 32) read_inside.0 read_inside.1 off

    pub read_lost_lowers : hidden_left read_lost_after n < hidden_left s n
    read_lost_lowers =
        lost_lowers h n v.b v.is (service.Read fd va len) done word v.place refl v.at ((va + done) % 2 ^ 32) read_inside.0 read_inside.1 off

  -- or its page refuses it
  module _ (v : IsServed names s a n (service.Read fd va len) (step.Faulting done word)) where
    read_place : ((va + done) % 2 ^ 32 ≡ va + done) × (is_inside (va + done) ≡ true)
    read_place =
        let end = buffer_below (va + done) 1 v.at.0.inside (omega arith) in
        (omega (arith, end), buffer_each (va + done) 1 (va + done) v.at.0.inside (omega arith) (omega arith))

    abbrev pub read_stopped_after : KernelState
    read_stopped_after =
        handed_over h n v.b v.is (place.InService (service.Read fd va len) (step.Faulting done word)) v.place refl refl refl
        (page_fault (page_at v.b (va + done)) (va + done) Write)

    pub read_stopped : (byte : ℕ) → store_byte s n ((va + done) % 2 ^ 32) byte ≡ handing read_stopped_after
    read_stopped byte =
        ap (λ (q : ℕ). store_byte s n q byte) read_place.0
        ∙ store_byte_faults h n v.b v.is (place.InService (service.Read fd va len) (step.Faulting done word)) v.place refl refl refl
        (page_fault (page_at v.b (va + done)) (va + done) Write) (va + done) byte
        (stopped_raised h n v.b v.is (service.Read fd va len) done word v.place refl (va + done) read_place.1 true v.at.1)

    pub read_stopped_stands : AreSmall (slot_at s n).registers → IsInOrder read_stopped_after → s.last ≡ Some n → StandsFor names read_stopped_after a
    read_stopped_stands small =
        stopped_stands h n v.b v.is (service.Read fd va len) done word v.place refl (va + done) read_place.1 true v.at.1 small (slot_at s n).registers.eax v.at.0.program
        v.at.0.silent v.at.0.awake (reading fd va len (word ∷ []) 1 refl v.at.0.phase v.at.0.some)

    pub read_stopped_lowers : hidden_left read_stopped_after n < hidden_left s n
    read_stopped_lowers =
        stopped_lowers h n v.b v.is (service.Read fd va len) done word v.place refl (va + done) read_place.1 true v.at.1

-- ---- stat

module _ {names : Names} {s : KernelState} {a : AbstractState} (h : StandsFor names s a) (n fd va done word : ℕ) where
  module _ (v : IsServed names s a n (service.Stat fd va) (step.Delivering done word))
      (off : is_allowed s.spaces (slot_at s n).directory ((va + done) % 2 ^ 32) Write ≡ false) where
    stat_inside : (is_inside ((va + done) % 2 ^ 32) ≡ true)
        × (is_refused_by true (rows_of s.spaces (slot_at s n).directory (page_number ((va + done) % 2 ^ 32))) ≡ false)
    stat_inside =
        let same = stat_va_is h n fd va done word v in (
          ap is_inside same
              ∙ at_inside h n v.b v.is (service.Stat fd va) (step.Delivering done word) v.place refl refl refl (va + done) (drop done (stat_told
              word)) 0 v.at.0 v.at.1,
          ap (λ (q : ℕ). is_refused_by true (rows_of s.spaces (slot_at s n).directory (page_number q))) same ∙ v.at.1,
        )

    abbrev pub stat_lost_after : KernelState
    stat_lost_after =
        handed_over h n v.b v.is (place.InService (service.Stat fd va) (step.Delivering done word)) v.place refl refl refl
        (record { va = (va + done) % 2 ^ 32; error = FEC_U + FEC_PR + FEC_WR })

    pub stat_lost_word : (value : ℕ) → store s n ((va + done) % 2 ^ 32) value ≡ handing stat_lost_after
    stat_lost_word value =
        lost_word h n v.b v.is (service.Stat fd va) done word v.place refl v.at ((va + done) % 2 ^ 32) stat_inside.0 stat_inside.1 off value

    pub stat_lost_byte : (byte : ℕ) → store_byte s n ((va + done) % 2 ^ 32) byte ≡ handing stat_lost_after
    stat_lost_byte byte =
        lost_byte h n v.b v.is (service.Stat fd va) done word v.place refl v.at ((va + done) % 2 ^ 32) stat_inside.0 stat_inside.1 off byte

    pub stat_lost_stands : AreSmall (slot_at s n).registers → IsInOrder stat_lost_after → s.last ≡ Some n → StandsFor names stat_lost_after a
    stat_lost_stands =
        lost_stands h n v.b v.is (service.Stat fd va) done word v.place refl v.at ((va + done) % 2 ^ 32) stat_inside.0 stat_inside.1 off

    pub stat_lost_lowers : hidden_left stat_lost_after n < hidden_left s n
    stat_lost_lowers =
        lost_lowers h n v.b v.is (service.Stat fd va) done word v.place refl v.at ((va + done) % 2 ^ 32) stat_inside.0 stat_inside.1 off

  module _ (v : IsServed names s a n (service.Stat fd va) (step.Faulting done word)) where
    stat_place : ((va + done) % 2 ^ 32 ≡ va + done) × (is_inside (va + done) ≡ true)
    stat_place =
        let some = v.at.0.some in
        let end = buffer_below (va + done) (length (drop done (stat_told word))) v.at.0.inside some in (
          omega (arith, end),
          buffer_each (va + done) (length (drop done (stat_told word))) (va + done) v.at.0.inside (omega arith) (omega (
            arith,
            some,
          )),
        )

    abbrev pub stat_stopped_after : KernelState
    stat_stopped_after =
        handed_over h n v.b v.is (place.InService (service.Stat fd va) (step.Faulting done word)) v.place refl refl refl
        (page_fault (page_at v.b (va + done)) (va + done) Write)

    pub stat_stopped : (byte : ℕ) → store_byte s n ((va + done) % 2 ^ 32) byte ≡ handing stat_stopped_after
    stat_stopped byte =
        ap (λ (q : ℕ). store_byte s n q byte) stat_place.0
        ∙ store_byte_faults h n v.b v.is (place.InService (service.Stat fd va) (step.Faulting done word)) v.place refl refl refl
        (page_fault (page_at v.b (va + done)) (va + done) Write) (va + done) byte
        (stopped_raised h n v.b v.is (service.Stat fd va) done word v.place refl (va + done) stat_place.1 true v.at.1)

    pub stat_stopped_stands : AreSmall (slot_at s n).registers → IsInOrder stat_stopped_after → s.last ≡ Some n → StandsFor names stat_stopped_after a
    stat_stopped_stands small =
        stopped_stands h n v.b v.is (service.Stat fd va) done word v.place refl (va + done) stat_place.1 true v.at.1 small (slot_at s n).registers.eax v.at.0.program
        v.at.0.silent v.at.0.awake (telling fd va (drop done (stat_told word)) 0 refl v.at.0.phase v.at.0.some)

    pub stat_stopped_lowers : hidden_left stat_stopped_after n < hidden_left s n
    stat_stopped_lowers =
        stopped_lowers h n v.b v.is (service.Stat fd va) done word v.place refl (va + done) stat_place.1 true v.at.1

-- ---- write

module _ {names : Names} {s : KernelState} {a : AbstractState} (h : StandsFor names s a) (n fd va len done word : ℕ)
    (v : IsServed names s a n (service.Write fd va len) (step.Faulting done word)) where
  abbrev taking : IsTaking (view_of s.spaces (slot_at s n).directory) (slot_at s n) v.b fd va len word done
  taking = v.at.0

  write_place : ((va + done) % 2 ^ 32 ≡ va + done) × (is_inside (va + done) ≡ true)
  write_place =
      let fewer : done < wanted_from word len = subst (λ (m : ℕ). m < wanted_from word len) taking.many taking.wants.fewer in
      let end = buffer_below va (wanted_from word len) taking.wants.given.buffer (omega (arith, fewer)) in
      (omega (arith, fewer, end), buffer_each va (wanted_from word len) (va + done) taking.wants.given.buffer (omega arith) (omega (arith, fewer)))

  abbrev pub write_stopped_after : KernelState
  write_stopped_after =
      handed_over h n v.b v.is (place.InService (service.Write fd va len) (step.Faulting done word)) v.place refl refl refl
      (page_fault (page_at v.b (va + done)) (va + done) Read)

  pub write_stopped : load_byte s n ((va + done) % 2 ^ 32) ≡ handing write_stopped_after
  write_stopped =
      ap (load_byte s n) write_place.0
      ∙ load_byte_faults h n v.b v.is (place.InService (service.Write fd va len) (step.Faulting done word)) v.place refl refl refl
      (page_fault (page_at v.b (va + done)) (va + done) Read) (va + done)
      (stopped_raised h n v.b v.is (service.Write fd va len) done word v.place refl (va + done) write_place.1 false v.at.1)

  pub write_stopped_stands : AreSmall (slot_at s n).registers → IsInOrder write_stopped_after → s.last ≡ Some n → StandsFor names write_stopped_after a
  write_stopped_stands small =
      stopped_stands h n v.b v.is (service.Write fd va len) done word v.place refl (va + done) write_place.1 false v.at.1 small (slot_at s n).registers.eax
      taking.program
      taking.silent taking.awake (writing fd va len word taking.bytes refl taking.wants (ap (λ (m : ℕ). va + m) (sym taking.many)))

  pub write_stopped_lowers : hidden_left write_stopped_after n < hidden_left s n
  write_stopped_lowers =
      stopped_lowers h n v.b v.is (service.Write fd va len) done word v.place refl (va + done) write_place.1 false v.at.1
