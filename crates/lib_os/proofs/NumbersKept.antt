-- A step of the library does not raise the number of hidden steps that another environment may still make: that stands where it stood, and
-- no page of its space waits to be copied that did not wait before. Nor is the page changed in which its services keep what they move.
use Rattle.std.proofs.Common.{◌≡◌, ◌≢◌, ◌∙◌, ◌+◌, ◌*◌, ◌%◌, ◌==◌, ◌||◌, ◌≤◌, inl, inr, ℕ, Bool, true, false, not, List, [], ◌∷◌, refl, sym, ap, subst, arith}
use Rattle.std.proofs.Common.{if◌then◌else◌}
use Rattle.std.specs.Prelude.{get_or, nat_lt}
use Rattle.std.proofs.lemmas.Nat.{and_assoc}
use Rattle.jos_base.specs.declared.numbers.TheConstants.{NENV, PTE_SYSCALL, UTEMP, UTOP, SYS_IPC_TRY_SEND, SYS_PAGE_MAP}
use Rattle.jos_base.specs.Environments.{Slot, is_live}
use Rattle.jos_base.specs.KernelState.{KernelState, slot_at}
use Rattle.jos_base.specs.Messages.{accepts}
use Rattle.jos_base.specs.SpacesState.{SpacesState}
use Rattle.jos_base.specs.Words.{page_number}
use Rattle.lib_os.specs.declared.numbers.TheConstants.{PTE_COW}
use Rattle.lib_os.specs.declared.place.HandlerStep.{HandlerStep}
use Rattle.lib_os.specs.declared.place.HandlerStep.TheVariants as handler
use Rattle.lib_os.specs.declared.place.Place.{Place}
use Rattle.lib_os.specs.declared.place.Place.TheVariants as place
use Rattle.lib_os.specs.declared.place.Step.TheVariants as step
use Rattle.lib_os.specs.declared.service.Service.TheVariants as service
use Rattle.lib_os.specs.AbstractState.{AbstractState, Born, born, unborn, is_live as is_live_abstract, AbstractSlot}
use Rattle.lib_os.specs.InOrder.{IsInOrder}
use Rattle.lib_os.specs.LibrarySteps.{Stands, KeepsPlaces, KeepsNumbers, KeepsWorking}
use Rattle.lib_os.specs.LibrarySteps.{copies_left, copy_steps, counts_copies, left_at, hidden_left, other_copies, steps_left}
use Rattle.lib_os.specs.Places.{place_of}
use Rattle.lib_os.specs.Rows.{IsUsers, rows_of, is_cow, is_shared}
use Rattle.jos_base.specs.SystemCalls.{has_write}
use Rattle.lib_os.specs.StandsFor.{MaySendBy, destination_of, view_of}
use Rattle.lib_os.specs.UserCalls.{system}
use Rattle.lib_os.proofs.Bearing.{bearer}
use Rattle.lib_os.proofs.BytesRead.{users_inside}
use Rattle.lib_os.proofs.CopiesLeft.{no_more_copies}
use Rattle.lib_os.proofs.Logical.{page_inside_programs}
use Rattle.lib_os.proofs.OthersCopies.{NoMoreWait, IsBeside, IsNoCopy, Named, Receives, system_wait}
use Rattle.lib_os.proofs.OthersKept.{OthersStay, StaysThere}
use Rattle.lib_os.proofs.Serving.{served}
use Rattle.lib_os.proofs.SlotsStand.{born_at, born_live, live_stands}
use Rattle.lib_os.proofs.Waiters.{comes_apart}

-- ---- the number, by the pages that wait

fewer_others : (at : HandlerStep) (few many : ℕ) → few ≤ many → other_copies at few ≤ other_copies at many
fewer_others (handler.Unmapping va) few many h = h
fewer_others handler.Restoring few many h = h
fewer_others handler.Entered few many h = omega (arith, h)
fewer_others (handler.ReadingError va) few many h = omega (arith, h)
fewer_others (handler.Looking va) few many h = omega (arith, h)
fewer_others (handler.Taking va) few many h = omega (arith, h)
fewer_others (handler.Loading va index) few many h = omega (arith, h)
fewer_others (handler.Storing va index word) few many h = omega (arith, h)
fewer_others (handler.MappingOver va) few many h = omega (arith, h)
fewer_others (handler.ReadingIp va error) few many h = omega (arith, h)
fewer_others (handler.Unsetting va error ip) few many h = omega (arith, h)
fewer_others (handler.Touching va error ip) few many h = omega (arith, h)

-- where no more pages wait, no more steps are left
fewer_left : (at : Place) (few many : ℕ) → few ≤ many → left_at at few ≤ left_at at many
fewer_left place.Guest few many h = omega (arith, h)
fewer_left (place.InService s at) few many h = by_step (counts_copies at)
  where
    by_step : (t : Bool) → steps_left at + (if t then copy_steps * few else 0) ≤ steps_left at + (if t then copy_steps * many else 0)
    by_step true = omega (arith, h)
    by_step false = omega arith
fewer_left (place.InHandler at) few many h = let others = fewer_others at few many h in omega (arith, others)

stays_lower : (s after : KernelState) (m : ℕ) → StaysThere (slot_at s m) (slot_at after m) →
    copies_left (rows_of after.spaces (slot_at s m).directory) ≤ copies_left (rows_of s.spaces (slot_at s m).directory) →
    hidden_left after m ≤ hidden_left s m
stays_lower s after m kept fewer =
    subst (λ (p : Place). left_at p (copies_left (rows_of after.spaces (slot_at after m).directory)) ≤ hidden_left s m) (sym kept.place)
    (subst (λ (d : ℕ). left_at (place_of (slot_at s m)) (copies_left (rows_of after.spaces d)) ≤ hidden_left s m) (sym kept.directory)
    (fewer_left (place_of (slot_at s m)) _ _ fewer))

-- ---- what is kept of the others

-- In a space no more pages wait, and the page in which a service keeps what it moves is the same.
pub record SpaceKept (d : ℕ) (s t : SpacesState) : Type 0 where
  pub fewer : copies_left (rows_of t d) ≤ copies_left (rows_of s d)
  pub working : rows_of t d (page_number UTEMP) ≡ rows_of s d (page_number UTEMP)

-- so in that of each other environment
abbrev pub KeepsCopies : ℕ → KernelState → KernelState → Type 0
KeepsCopies n s after =
    is_live (slot_at s n) ≡ true → (a : AbstractState) → Stands s a → (m : ℕ) (b : Born) → m ≢ n → a.slots m ≡ born b →
    SpaceKept (slot_at s m).directory s.spaces after.spaces

-- how each other environment is left, where the state stands for an abstract one
abbrev pub KeepsOthers : ℕ → KernelState → KernelState → Type 0
KeepsOthers n s after =
    IsInOrder s → IsInOrder after → is_live (slot_at s n) ≡ true → (a : AbstractState) → Stands s a → OthersStay s n after

pub places_kept : (s after : KernelState) (n : ℕ) → KeepsOthers n s after → KeepsPlaces n s after
places_kept s after n others before then_so live a h m ne was lives =
    let all = others before then_so live a h in
    let kept = all.stay m ne was lives in
    kept.place

pub numbers_kept : (s after : KernelState) (n : ℕ) → KeepsOthers n s after → KeepsCopies n s after → KeepsNumbers n s after
numbers_kept s after n others copies then_so live a h m b ne at lives =
    let all = others h.1.in_order then_so live a h in
    let kept = copies live a h m b ne at in
    stays_lower s after m (all.stay m ne (born_live (born_at h.1 m b at)) lives) kept.fewer

pub working_kept : (s after : KernelState) (n : ℕ) → KeepsOthers n s after → KeepsCopies n s after → KeepsWorking n s after
working_kept s after n others copies then_so live a h m b ne at lives =
    let all = others h.1.in_order then_so live a h in
    let kept = all.stay m ne (born_live (born_at h.1 m b at)) lives in
    let space = copies live a h m b ne at in
    ap (λ (d : ℕ). rows_of after.spaces d (page_number UTEMP)) kept.directory ∙ space.working

pub kept_in : (Q : ℕ → Type 0) (s t : SpacesState) (d : ℕ) → Q d → NoMoreWait Q s t → SpaceKept d s t
kept_in Q s t d here wait = record {
  fewer = no_more_copies (rows_of s d) (rows_of t d) (λ p waits. wait.waited d p here waits);
  working = wait.working d here;
}

-- each live environment has a space of its own
pub copies_kept : (s after : KernelState) (n : ℕ) → NoMoreWait (IsBeside s n) s.spaces after.spaces → KeepsCopies n s after
copies_kept s after n wait live a h m b ne at =
    let d : ℕ = (slot_at s m).directory in
    let beside : IsBeside s n d = λ same. ne (h.1.in_order.spaces.apart m n (born_live (born_at h.1 m b at)) live same) in
    kept_in (IsBeside s n) s.spaces after.spaces d beside wait

-- ---- a page that is mapped into a child

-- in other spaces than the environment's own and its child's
abbrev IsApart : KernelState → ℕ → ℕ → ℕ → Type 0
IsApart s n child d = (d ≢ (slot_at s n).directory) × (d ≢ (slot_at s child).directory)

pub mapping_copies : (s : KernelState) (n id page perm from to bits : ℕ) →
    place_of (slot_at s n) ≡ place.InService service.Fork (step.MapChild id page perm) →
    KeepsCopies n s (system s n SYS_PAGE_MAP (0 ∷ from ∷ id ∷ to ∷ bits ∷ [])).state
mapping_copies s n id page perm from to bits stands live a h m b ne at =
    let args : List ℕ = 0 ∷ from ∷ id ∷ to ∷ bits ∷ [] in
    let v = bearer h.1 n (step.MapChild id page perm) id stands refl in
    let child : ℕ = id % NENV in
    let there : is_live (slot_at s m) ≡ true = born_live (born_at h.1 m b at) in
    let child_there : is_live (slot_at s child) ≡ true = live_stands h.1 child ∙ ap (λ (x : AbstractSlot). is_live_abstract x) v.child_is in
    let other : m ≢ child =
    λ same. let contradiction : born b ≡ unborn id v.b.id = sym at ∙ ap a.slots same ∙ v.child_is in absurd cc in
    let d : ℕ = (slot_at s m).directory in
    let apart : IsApart s n child d = (
      (λ same. ne (h.1.in_order.spaces.apart m n there live same)),
      (λ same. other (h.1.in_order.spaces.apart m child there child_there same)),
    ) in
    kept_in (IsApart s n child) s.spaces (system s n SYS_PAGE_MAP args).state.spaces d apart
    (system_wait (IsApart s n child) s n SYS_PAGE_MAP args (λ here. here.0 refl) (record {
      alloc = λ is q named here. absurd (let contradiction : false ≡ true = is in cc);
      map = λ is q named here. absurd (nowhere q named here);
      unmap = λ is q named here. absurd (let contradiction : false ≡ true = is in cc);
      destroy = λ is q named here. absurd (let contradiction : false ≡ true = is in cc);
      send = λ is low q receives here. absurd (let contradiction : false ≡ true = is in cc);
    }))
  where
    nowhere : (q : ℕ) → Named id n q → IsApart s n (id % NENV) (slot_at s q).directory → ⊥
    nowhere q (inl same) here = here.0 (ap (λ (r : ℕ). (slot_at s r).directory) same)
    nowhere q (inr other) here = here.1 (ap (λ (r : ℕ). (slot_at s r).directory) other.1)

-- ---- a child that is not born

-- where the state stands for an abstract one, fork never undoes what it has begun
pub undoing_copies : (s : KernelState) (n id error : ℕ) (after : KernelState) →
    place_of (slot_at s n) ≡ place.InService service.Fork (step.Undoing id error) → KeepsCopies n s after
undoing_copies s n id error after stands live a h m b ne at =
    let v = served h.1 n service.Fork (step.Undoing id error) stands in let none : ⊥ = v.at in absurd none

-- ---- a page that a message passes

-- the bits that accesses set are not that of a copy
no_copy : (perm : ℕ) → is_cow perm ≡ false → IsNoCopy perm
no_copy perm is = ap (λ (part : ℕ). part == PTE_COW) (and_assoc PTE_COW perm PTE_SYSCALL) ∙ is

-- what is shared, or can't be written, is no page that is copied when it is written
passes_no_copy : (t writes copied : Bool) → (t || not (writes || copied)) ≡ true → (copied ≡ true → t ≡ false) → copied ≡ false
passes_no_copy t writes false is own_page = refl
passes_no_copy true writes true is own_page = absurd (let contradiction : true ≡ false = own_page refl in cc)
passes_no_copy false true true is own_page = absurd (let contradiction : false ≡ true = is in cc)
passes_no_copy false false true is own_page = absurd (let contradiction : false ≡ true = is in cc)

abbrev IsHome : ℕ → ℕ → Type 0
IsHome home d = d ≡ home

-- one that goes with a message comes to a page of a program
pub sent_copies : (s : KernelState) (n : ℕ) (args : List ℕ) →
    ((a : AbstractState) → Stands s a → nat_lt (get_or args 2 0) UTOP ≡ true → IsNoCopy (get_or args 3 0)) →
    KeepsCopies n s (system s n SYS_IPC_TRY_SEND args).state
sent_copies s n args passes live a h m b ne at =
    kept_in (IsHome home) s.spaces (system s n SYS_IPC_TRY_SEND args).state.spaces home refl
    (system_wait (IsHome home) s n SYS_IPC_TRY_SEND args (λ own. ne (h.1.in_order.spaces.apart m n there live (sym own))) (record {
      alloc = λ is q named here. absurd (let contradiction : false ≡ true = is in cc);
      map = λ is q named here. absurd (let contradiction : false ≡ true = is in cc);
      unmap = λ is q named here. absurd (let contradiction : false ≡ true = is in cc);
      destroy = λ is q named here. absurd (let contradiction : false ≡ true = is in cc);
      send = λ is low q receives here. (
        passes a h low,
        subst (λ (k : Slot). page_number k.rendezvous.destination ≢ page_number UTEMP) (same q receives here)
            (comes_apart (place_of (slot_at s m)) (view_of s.spaces (slot_at s m).directory) (slot_at s m) b (born_at h.1 m b at).at (slot_at s n).id
            (subst (λ (k : Slot). accepts k.rendezvous (slot_at s n).id ≡ true) (sym (same q receives here)) receives.waits)
            (subst (λ (k : Slot). nat_lt k.rendezvous.destination UTOP ≡ true) (sym (same q receives here)) receives.wants)),
      );
    }))
  where
    home : ℕ
    home = (slot_at s m).directory

    there : is_live (slot_at s m) ≡ true
    there = born_live (born_at h.1 m b at)

    same : (q : ℕ) → Receives s n q → IsHome home (slot_at s q).directory → slot_at s m ≡ slot_at s q
    same q receives here = ap (λ (x : ℕ). slot_at s x) (sym (h.1.in_order.spaces.apart q m receives.lives there here))

pub sending_copies : (s : KernelState) (n id value va perm : ℕ) →
    place_of (slot_at s n) ≡ place.InService (service.Send id value va) (step.Trying perm) →
    KeepsCopies n s (system s n SYS_IPC_TRY_SEND (id ∷ value ∷ destination_of va ∷ perm ∷ 0 ∷ [])).state
sending_copies s n id value va perm stands =
    sent_copies s n (id ∷ value ∷ destination_of va ∷ perm ∷ 0 ∷ [])
    (λ a h low. let v = served h.1 n (service.Send id value va) (step.Trying perm) stands in by_page a h v.b v.is (va == 0) v.at.page low)
  where
    by_page : (a : AbstractState) (h : Stands s a) (c : Born) → a.slots n ≡ born c → (none : Bool) →
        MaySendBy none (rows_of s.spaces (slot_at s n).directory) va perm → nat_lt (if none then UTOP else va) UTOP ≡ true → IsNoCopy perm
    by_page a h c is true may low = absurd (let contradiction : false ≡ true = low in cc)
    by_page a h c is false may low =
        let user : IsUsers may.entry.perm =
        users_inside h.0 s a n c h.1 is (page_number va) may.entry (page_inside_programs va may.inside) may.stands in
        let bits : IsUsers perm = subst (λ (p : ℕ). IsUsers p) (sym may.bits) user in
        no_copy perm (passes_no_copy (is_shared perm) (has_write perm) (is_cow perm) may.passes (λ copied. (bits.copied copied).0))
