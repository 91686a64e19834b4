-- What the call of each step of the handler leaves of its environment: its registers, its space and its life, and no more pages
-- that wait to be copied.
use Rattle.std.proofs.Common.{◌≡◌, ◌∙◌, ◌≤◌, ◌+◌, ◌*◌, ◌/◌, ℕ, Bool, true, false, not, List, [], ◌∷◌, Option, Some, None, Result, Ok, Err, refl, sym, ap, subst, arith}
use Rattle.std.specs.Int.{w32, to_le_bytes}
use Rattle.std.specs.Option.{option_map}
use Rattle.std.specs.Prelude.{◌&&◌, bit_and, if◌then◌else◌}
use Rattle.std.proofs.lemmas.Option.{same_Some}
use Rattle.jos_base.specs.declared.called.Called.{Called}
use Rattle.jos_base.specs.declared.memory.Access.{Access}
use Rattle.jos_base.specs.declared.memory.Access.TheVariants.{Read, Write}
use Rattle.jos_base.specs.declared.memory.PageFault.{PageFault}
use Rattle.jos_base.specs.declared.numbers.TheConstants.{PGSIZE, PTE_SYSCALL, UVPT, SYS_ENV_SET_PGFAULT_UPCALL, SYS_PAGE_ALLOC, SYS_PAGE_MAP, SYS_PAGE_UNMAP}
use Rattle.jos_base.specs.Environments.{Environments, Slot, is_live}
use Rattle.jos_base.specs.KernelState.{KernelState, slot_at, with_spaces, with_upcall}
use Rattle.jos_base.specs.Reach.{Entry, FrameOffset}
use Rattle.jos_base.specs.SpacesState.{SpacesState, allocated, inserted}
use Rattle.jos_base.specs.SystemCalls.{handled, is_page_address, is_page_perm, has_write, second_of, shared_entry}
use Rattle.jos_base.specs.UserMemory.{reach_in, touched, stored_byte, with_byte_at}
use Rattle.jos_base.specs.Words.{page_number}
use Rattle.lib_os.specs.declared.numbers.TheConstants.{PFTEMP}
use Rattle.lib_os.specs.declared.place.HandlerStep.{HandlerStep}
use Rattle.lib_os.specs.declared.place.HandlerStep.TheVariants as handler
use Rattle.lib_os.specs.LibrarySteps.{copies_left, is_to_copy}
use Rattle.lib_os.specs.Rows.{Rows, lasting, rows_of, is_cow}
use Rattle.lib_os.specs.UserCalls.{CallStep, Got, got, to_handler, gone, giving, accessing, by_access, faulting, user_word, with_user_byte}
use Rattle.lib_os.specs.UserCalls.{with_user_word, with_bytes_put, load, store, system}
use Rattle.lib_os.proofs.Calls.{made_step, page_alloc_is, page_unmap_is}
use Rattle.lib_os.proofs.Slots.{slot_put}
use Rattle.lib_os.proofs.Touching.{touched_quiet}
use Rattle.lib_stage.specs.Asks.{performed, got_as}
use Rattle.lib_fault.specs.HandlerStages.{ask_of, copy_perm, page_start, frame_word, word_of_page}
use Rattle.lib_fault.proofs.CallsMade.{map_step, page_map_is, page_map_not, set_upcall_is}
use Rattle.lib_os.proofs.CopiesLeft.{allocated_entries, inserted_entries, unmapped_entries, put_copies}

-- ---- an access

-- nothing is seen of it but bytes
record Unseen (s after : KernelState) : Type 0 where
  environments : after.environments ≡ s.environments
  rows : rows_of after.spaces ≡ rows_of s.spaces

unseen_both : (s t u : KernelState) → Unseen s t → Unseen t u → Unseen s u
unseen_both s t u one two = record { environments = two.environments ∙ one.environments; rows = two.rows ∙ one.rows }

unseen_self : (s : KernelState) → Unseen s s
unseen_self s = record { environments = refl; rows = refl }

byte_rows : (s : SpacesState) (d va byte : ℕ) → rows_of (stored_byte s d va byte) ≡ rows_of s
unfolding stored_byte rows_of
byte_rows s d va byte = by_reach (reach_in s d va Write)
  where
    by_reach : (r : Result FrameOffset PageFault) → rows_of (with_byte_at s byte r) ≡ rows_of s
    by_reach (Ok location) = refl
    by_reach (Err fault) = refl

bytes_unseen : (s : KernelState) (n va : ℕ) (bytes : List ℕ) → Unseen s (with_bytes_put s n va bytes)
bytes_unseen s n va [] = unseen_self s
bytes_unseen s n va (byte ∷ rest) =
    let t : KernelState = with_user_byte s n va byte in
    unseen_both s t (with_bytes_put t n (va + 1) rest) (record { environments = refl; rows = byte_rows s.spaces (slot_at s n).directory va byte })
    (bytes_unseen t n (va + 1) rest)

pub told_gives : {X : Type 0} (word : X → ℕ) (called : Called) (g : Got X) → got_as word g ≡ got called → (x : X) × (g ≡ got x)
told_gives word called (got x) is = (x, refl)
told_gives {X = X} word called to_handler is = absurd (let contradiction : ◌≡◌ {A = Got Called} to_handler (got called) = is in cc)
told_gives {X = X} word called gone is = absurd (let contradiction : ◌≡◌ {A = Got Called} gone (got called) = is in cc)

-- where it gives something
access_unseen : {X : Type 0} (s : KernelState) (n va : ℕ) (a : Access) (done : KernelState → CallStep X) →
    ((k : KernelState) → Unseen k (done k).state) → (x : X) → (by_access s n va a done).gives ≡ got x → Unseen s (by_access s n va a done).state
access_unseen {X = X} s n va a done unseen x is = by_reach (reach_in s.spaces (slot_at s n).directory va a) is
  where
    by_handler : (fault : PageFault) (o : Option KernelState) → (faulting {X = X} s n fault o).gives ≡ got x → Unseen s (faulting {X = X} s n fault o).state
    by_handler fault (Some after) e = absurd (let contradiction : ◌≡◌ {A = Got X} to_handler (got x) = e in cc)
    by_handler fault None e = absurd (let contradiction : ◌≡◌ {A = Got X} gone (got x) = e in cc)

    by_reach : (r : Result FrameOffset PageFault) → (accessing s n va a done r).gives ≡ got x → Unseen s (accessing s n va a done r).state
    by_reach (Ok location) e =
        let t : KernelState = with_spaces s (touched s.spaces (slot_at s n).directory va a) in
        let quiet = touched_quiet s.spaces (slot_at s n).directory va a in
        unseen_both s t (done t).state (record { environments = refl; rows = quiet.rows }) (unseen t)
    by_reach (Err fault) e = by_handler fault (handled s n fault) e

load_unseen : (s : KernelState) (n va word : ℕ) → (load s n va).gives ≡ got word → Unseen s (load s n va).state
unfolding load
load_unseen s n va word is = access_unseen s n va Read (λ after. giving after (user_word after n va)) (λ k. unseen_self k) word is

store_unseen : (s : KernelState) (n va word : ℕ) (done : Unit {0}) → (store s n va word).gives ≡ got done → Unseen s (store s n va word).state
unfolding store
store_unseen s n va word done is =
    access_unseen s n va Write (λ after. giving (with_user_word after n va word) tt) (λ k. bytes_unseen k n va (to_le_bytes w32 word)) done is

-- ---- entries that do not wait

-- the bits of a copy are those of none that waits
ready_copy : (e : Entry) → e.perm ≡ copy_perm → is_to_copy (option_map lasting (Some e)) ≡ false
ready_copy e is = ap (λ (perm : ℕ). is_cow (bit_and perm PTE_SYSCALL)) is

-- an entry that is given on has the bits that are asked for
shared_bits : (o : Option Entry) (perm : ℕ) (e : Entry) → shared_entry o perm ≡ Some e → e.perm ≡ perm
shared_bits None perm e is = absurd cc
shared_bits (Some x) perm e is = by_tests (not (is_page_perm perm)) (has_write perm && not (has_write x.perm)) is
  where
    by_tests : (t u : Bool) → (if t then None else if u then None else Some (record { frame = x.frame; perm = perm })) ≡ Some e → e.perm ≡ perm
    by_tests true u none = absurd cc
    by_tests false true none = absurd cc
    by_tests false false some = sym (ap (λ (z : Entry). z.perm) (same_Some (record { frame = x.frame; perm = perm }) e some))

-- ---- what is left

-- a step whose call sets no registers
abbrev pub keeps_registers : HandlerStep → Bool
keeps_registers handler.Restoring = false
keeps_registers (handler.Touching va error ip) = false
keeps_registers _ = true

pub record IsLeft (s : KernelState) (n : ℕ) (after : KernelState) : Type 0 where
  pub live : is_live (slot_at after n) ≡ true
  pub registers : (slot_at after n).registers ≡ (slot_at s n).registers
  pub directory : (slot_at after n).directory ≡ (slot_at s n).directory
  pub copies : copies_left (rows_of after.spaces (slot_at s n).directory) ≤ copies_left (rows_of s.spaces (slot_at s n).directory)

module _ (s : KernelState) (n : ℕ) (live : is_live (slot_at s n) ≡ true) where
  abbrev own : ℕ
  own = (slot_at s n).directory

  unseen_left : (after : KernelState) → Unseen s after → IsLeft s n after
  unseen_left after h = record {
    live = ap (λ (e : Environments). is_live (e.slots n)) h.environments ∙ live;
    registers = ap (λ (e : Environments). (e.slots n).registers) h.environments;
    directory = ap (λ (e : Environments). (e.slots n).directory) h.environments;
    copies = let same = ap (λ (r : Rows). copies_left (r own)) h.rows in omega (arith, same);
  }

  load_left : (va : ℕ) (called : Called) → got_as (λ w. w) (load s n va).gives ≡ got called → IsLeft s n (load s n va).state
  load_left va called is =
      let w = told_gives (λ w. w) called (load s n va).gives is in unseen_left (load s n va).state (load_unseen s n va w.0 w.1)

  store_left : (va word : ℕ) (called : Called) → got_as (λ done. 0) (store s n va word).gives ≡ got called → IsLeft s n (store s n va word).state
  store_left va word called is =
      let w = told_gives (λ done. 0) called (store s n va word).gives is in unseen_left (store s n va word).state (store_unseen s n va word w.0 w.1)

  -- an entry that does not wait is put in the place of another
  spaces_left : (t : SpacesState) → copies_left (rows_of t own) ≤ copies_left (rows_of s.spaces own) → IsLeft s n (with_spaces s t)
  spaces_left t copies = record { live = live; registers = refl; directory = refl; copies = copies }

  -- or nothing is changed
  refused_left : (after : KernelState) → after.environments ≡ s.environments → after.spaces ≡ s.spaces → IsLeft s n after
  refused_left after environments spaces = unseen_left after (record { environments = environments; rows = ap rows_of spaces })

  made_left : (o : Option SpacesState) → ((t : SpacesState) → o ≡ Some t → copies_left (rows_of t own) ≤ copies_left (rows_of s.spaces own)) →
      IsLeft s n (made_step s o).state
  made_left None copies = refused_left _ refl refl
  made_left (Some t) copies = spaces_left t (copies t refl)

  alloc_left : IsLeft s n (system s n SYS_PAGE_ALLOC (0 ∷ PFTEMP ∷ copy_perm ∷ 0 ∷ 0 ∷ [])).state
  alloc_left =
      subst (λ (z : CallStep Called). IsLeft s n z.state) (sym (page_alloc_is s n live PFTEMP copy_perm (0 ∷ 0 ∷ []) refl refl))
      (by_found (allocated s.spaces own (page_number PFTEMP) copy_perm) refl)
    where
      by_found : (found : Option (ℕ × SpacesState)) → allocated s.spaces own (page_number PFTEMP) copy_perm ≡ found →
          IsLeft s n (made_step s (second_of found)).state
      by_found None is = refused_left _ refl refl
      by_found (Some f) is =
          let e = allocated_entries s.spaces f.1 own (page_number PFTEMP) copy_perm f.0 is in
          spaces_left f.1 (put_copies s.spaces f.1 own (page_number PFTEMP) (Some e.0) e.2 (ready_copy e.0 e.1))

  unmap_left : IsLeft s n (system s n SYS_PAGE_UNMAP (0 ∷ PFTEMP ∷ 0 ∷ 0 ∷ 0 ∷ [])).state
  unmap_left =
      subst (λ (z : CallStep Called). IsLeft s n z.state) (sym (page_unmap_is s n live PFTEMP (0 ∷ 0 ∷ 0 ∷ []) refl))
      (spaces_left _ (put_copies s.spaces _ own (page_number PFTEMP) None (unmapped_entries s.spaces own (page_number PFTEMP)) refl))

  map_left_by : (va : ℕ) (o : Option Entry) → ((e : Entry) → o ≡ Some e → e.perm ≡ copy_perm) → IsLeft s n (map_step s n live va o).state
  map_left_by va None bits = refused_left _ refl refl
  map_left_by va (Some e) bits =
      made_left (inserted s.spaces own (page_number va) e)
      (λ t is. put_copies s.spaces t own (page_number va) (Some e) (inserted_entries s.spaces t own (page_number va) e is) (ready_copy e (bits e refl)))

  map_left : (va : ℕ) → IsLeft s n (system s n SYS_PAGE_MAP (0 ∷ PFTEMP ∷ 0 ∷ va ∷ copy_perm ∷ [])).state
  map_left va = by_address (is_page_address va) refl
    where
      by_address : (t : Bool) → is_page_address va ≡ t → IsLeft s n (system s n SYS_PAGE_MAP (0 ∷ PFTEMP ∷ 0 ∷ va ∷ copy_perm ∷ [])).state
      by_address true is =
          subst (λ (z : CallStep Called). IsLeft s n z.state) (sym (page_map_is s n live PFTEMP va copy_perm refl is))
          (map_left_by va (shared_entry (s.spaces.entries own (page_number PFTEMP)) copy_perm) (shared_bits (s.spaces.entries own (page_number PFTEMP)) copy_perm))
      by_address false is =
          subst (λ (z : CallStep Called). IsLeft s n z.state) (sym (page_map_not s n live PFTEMP va copy_perm refl is)) (refused_left s refl refl)

  unset_left : IsLeft s n (system s n SYS_ENV_SET_PGFAULT_UPCALL (0 ∷ 0 ∷ 0 ∷ 0 ∷ 0 ∷ [])).state
  unset_left =
      let there : slot_at (with_upcall s n 0) n ≡ record (slot_at s n) { upcall = 0 } = slot_put s n (record (slot_at s n) { upcall = 0 }) in
      subst (λ (z : CallStep Called). IsLeft s n z.state) (sym (set_upcall_is s n live 0 (0 ∷ 0 ∷ 0 ∷ []))) (record {
        live = ap (λ (k : Slot). is_live k) there ∙ live;
        registers = ap (λ (k : Slot). k.registers) there;
        directory = ap (λ (k : Slot). k.directory) there;
        copies = omega arith;
      })

  -- ---- by the step

  pub call_left : (at : HandlerStep) → keeps_registers at ≡ true → (called : Called) → (performed s n (ask_of at)).gives ≡ got called →
      IsLeft s n (performed s n (ask_of at)).state
  unfolding performed
  call_left handler.Entered keeps called is = load_left (frame_word 0) called is
  call_left (handler.ReadingError va) keeps called is = load_left (frame_word 1) called is
  call_left (handler.Looking va) keeps called is = load_left (UVPT + 4 * (va / PGSIZE)) called is
  call_left (handler.Taking va) keeps called is = alloc_left
  call_left (handler.Loading va index) keeps called is = load_left (word_of_page (page_start va) index) called is
  call_left (handler.Storing va index word) keeps called is = store_left (word_of_page PFTEMP index) word called is
  call_left (handler.MappingOver va) keeps called is = map_left (page_start va)
  call_left (handler.Unmapping va) keeps called is = unmap_left
  call_left handler.Restoring keeps called is = absurd (let contradiction : false ≡ true = keeps in cc)
  call_left (handler.ReadingIp va error) keeps called is = load_left (frame_word 10) called is
  call_left (handler.Unsetting va error ip) keeps called is = unset_left
  call_left (handler.Touching va error ip) keeps called is = absurd (let contradiction : false ≡ true = keeps in cc)
