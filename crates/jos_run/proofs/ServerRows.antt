-- A call of the file server's that is no message, and takes no page of a request away, leaves the entries of all other spaces, and that of the page of
-- a request; so the page that a client has lent it stays lent. And it prints nothing.
use Rattle.std.proofs.Common.{◌≡◌, ◌≢◌, ◌∙◌, ◌⊎◌, inl, inr, ◌+◌, ◌<◌, ◌&&◌, ℕ, Bool, true, false, not, List, [], ◌∷◌, Option, Some, None, Result}
use Rattle.std.proofs.Common.{Ok, Err, refl, sym, ap, subst, arith, if◌then◌else◌}
use Rattle.std.specs.Int.{w32, to_le_bytes}
use Rattle.std.specs.Option.{option_map}
use Rattle.std.specs.Prelude.{is_some}
use Rattle.std.proofs.lemmas.Bool.Decides.{nat_tests}
use Rattle.std.proofs.lemmas.Option.{same_Some}
use Rattle.jos_host.specs.Files.{Files}
use Rattle.jos_host.specs.Frames.{Around}
use Rattle.jos_base.specs.declared.called.Called.{Called}
use Rattle.jos_base.specs.declared.called.Called.TheVariants.{Answered}
use Rattle.jos_base.specs.declared.errno.Errno.TheVariants.{Invalid}
use Rattle.jos_base.specs.declared.memory.Access.{Access}
use Rattle.jos_base.specs.declared.memory.Access.TheVariants.{Read, Write}
use Rattle.jos_base.specs.declared.memory.PageFault.{PageFault}
use Rattle.jos_base.specs.declared.numbers.TheConstants.{E_INVAL, E_NO_MEM, SYS_PAGE_ALLOC, SYS_PAGE_MAP, SYS_PAGE_UNMAP, UTEMP}
use Rattle.jos_base.specs.declared.registers.Regs.{Regs}
use Rattle.jos_base.specs.Environments.{Environments, Slot, found, is_live}
use Rattle.jos_base.specs.KernelState.{KernelState, slot_at, with_registers, with_refusal, with_slot_at, with_spaces}
use Rattle.jos_base.specs.Reach.{Entry, FrameOffset}
use Rattle.jos_base.specs.SpacesState.{SpacesState, unmapped}
use Rattle.jos_base.specs.SystemCalls.{call_of, entry_at, handled, has_write, inserted_at, is_page_address, is_page_perm, refused, shared_entry}
use Rattle.jos_base.specs.UserMemory.{reach_in, stored_byte, touched, with_byte_at}
use Rattle.jos_base.specs.Words.{negated, page_number}
use Rattle.jos_base.proofs.Puts.{put-other}
use Rattle.lib_os.specs.declared.numbers.TheConstants.{CACHE_BLOCKS, MAXOPEN, REQUEST}
use Rattle.lib_os.specs.BlockCache.{block_address}
use Rattle.lib_os.specs.Disk.{DiskFile}
use Rattle.lib_os.specs.InOrder.{IsInOrder}
use Rattle.lib_os.specs.MadeCalls.{HasCome, IsMade, IsServersCall, IsServersSystemCall, MakesCall, SetsWords, UserCall, asks_id, block_perm, calls, faulted}
use Rattle.lib_os.specs.MadeCalls.{gave, loads, loads_byte, maps_block, reads_block, receives, sends, sends_place, stores, stores_byte, takes_block}
use Rattle.lib_os.specs.MadeCalls.{place_address, place_perm, takes_place, unmaps_block, unmaps_request, writes_block, yields}
use Rattle.lib_os.specs.Rows.{Names, lasting, rows_of}
use Rattle.lib_os.specs.StandsFor.{StandsFor}
use Rattle.lib_os.specs.AbstractLaws.{client_served}
use Rattle.lib_os.specs.AbstractState.{AbstractState, Server, acted, busy, idle, leaving, looking}
use Rattle.lib_os.specs.UserCalls.{CallStep, IsBlockRead, IsBlockWrite, IsCallStep, IsReadBy, IsSentBy, Output, Prints, accessing, asking, block_call, block_put}
use Rattle.lib_os.specs.UserCalls.{by_access, faulting, giving, gone, got, load, load_byte, may_read_block, may_write_block, store, store_byte, system}
use Rattle.lib_os.specs.UserCalls.{to_handler, user_byte, user_word, with_bytes_put, with_user_byte, with_user_word}
use Rattle.lib_os.specs.declared.user_os.Stop.TheVariants as stop
use Rattle.lib_os.proofs.BytesPut.{put_is, spaces_put}
use Rattle.lib_os.proofs.Calls.{PageMade, PageRefused, caller_is, comes_to, getenvid_is, made_step, page_made_or_refused, page_unmap_is, quiet_is, system_is}
use Rattle.lib_os.proofs.Placing.{allocated_made, inserted_given}
use Rattle.lib_os.proofs.Quieting.{same_state}
use Rattle.lib_os.proofs.Remapping.{page_map_is}
use Rattle.lib_os.proofs.Removing.{unmapped_removed}
use Rattle.lib_os.proofs.ServersCalls.{MayCall}
use Rattle.lib_os.proofs.ServerStands.{first_slot}
use Rattle.lib_os.proofs.Slots.{slots_alike}
use Rattle.lib_os.proofs.SlotsSet.{both_set}
use Rattle.lib_os.proofs.StatesStand.{slot_was_in_order}
use Rattle.lib_os.proofs.Touching.{touched_quiet}
use Rattle.fs_seen.specs.ServerMemory.{has_request, request_page, sends_page}
use Rattle.jos_run.specs.ServerStands.{HasLent, IsLent, IsLentBy}

-- ---- what is left

pub record RowsStay (s t : KernelState) : Type 0 where
  pub directories : (m : ℕ) → (slot_at t m).directory ≡ (slot_at s m).directory
  pub others : (q r : ℕ) → q ≢ (slot_at s 0).directory → rows_of t.spaces q r ≡ rows_of s.spaces q r
  pub request : rows_of t.spaces (slot_at s 0).directory request_page ≡ rows_of s.spaces (slot_at s 0).directory request_page

pub rows_same : (s : KernelState) → RowsStay s s
rows_same s = record { directories = λ m. refl; others = λ q r other. refl; request = refl }

-- So a page that is lent stays lent,
pub still_lent : {s t : KernelState} {client : ℕ} → RowsStay s t → (slot_at s client).directory ≢ (slot_at s 0).directory → IsLent s client →
    IsLent t client
still_lent {s = s} {t = t} {client = client} stay apart h = record {
  own = h.own;
  kept =
      (λ i. rows_of t.spaces (stay.directories client i) (page_number UTEMP)) ∙ stay.others (slot_at s client).directory (page_number UTEMP) apart
      ∙ h.kept;
  entry = h.entry;
  stands = (λ i. rows_of t.spaces (stay.directories 0 i) (page_number REQUEST)) ∙ stay.request ∙ h.stands;
  same = h.same;
}

-- and where there was no page of a request, there is none.
row_there : (s : SpacesState) (d p : ℕ) → is_some (rows_of s d p) ≡ is_some (s.entries d p)
unfolding rows_of
row_there s d p = by_entry (s.entries d p)
  where
    by_entry : (o : Option Entry) → is_some (option_map lasting o) ≡ is_some o
    by_entry None = refl
    by_entry (Some e) = refl

pub request_stays : {s t : KernelState} → RowsStay s t → has_request t 0 ≡ has_request s 0
request_stays {s = s} {t = t} stay =
    sym (row_there t.spaces (slot_at t 0).directory request_page)
    ∙ (λ i. is_some (rows_of t.spaces (stay.directories 0 i) request_page))
    ∙ ap (λ (o : Option Entry). is_some o) stay.request
    ∙ row_there s.spaces (slot_at s 0).directory request_page

-- So what is known of it stays, where it is not about to wait for a request.
lent_by_rows : {s t : KernelState} {client : ℕ} (sends : Bool) → RowsStay s t → (slot_at s client).directory ≢ (slot_at s 0).directory →
    IsLentBy sends s client → IsLentBy sends t client
lent_by_rows true stay apart h = still_lent stay apart h
lent_by_rows false stay apart h = request_stays stay ∙ h

pub lent_rows : {s t : KernelState} (server : Server) → server ≢ leaving → RowsStay s t →
    ((client : ℕ) → client_served server ≡ Some client → (slot_at s client).directory ≢ (slot_at s 0).directory) → HasLent server s → HasLent server t
lent_rows leaving other stay apart h = absurd (other refl)
lent_rows idle other stay apart h = request_stays stay ∙ h
lent_rows (looking client request place) other stay apart h = lent_by_rows (sends_page request) stay (apart client refl) h
lent_rows (busy client request place) other stay apart h = lent_by_rows (sends_page request) stay (apart client refl) h
lent_rows (acted client answer [] object) other stay apart h = tt
lent_rows (acted client answer (byte ∷ bytes) object) other stay apart h = still_lent stay (apart client refl) h

-- ---- an access that gives something

-- is the state in which it has set its bits, with what is done there; and prints nothing
module _ {X : Type 0} (s : KernelState) (n va : ℕ) (access : Access) (done : KernelState → CallStep X) (x : X) where
  abbrev behind : KernelState
  behind = with_spaces s (touched s.spaces (slot_at s n).directory va access)

  pub given_is : (by_access s n va access done).gives ≡ got x → by_access s n va access done ≡ done behind
  given_is gives = by_reach (reach_in s.spaces (slot_at s n).directory va access) gives
    where
      by_handled : (fault : PageFault) (o : Option KernelState) → (faulting {X = X} s n fault o).gives ≡ got x → faulting {X = X} s n fault o ≡ done behind
      by_handled fault (Some handler) is = absurd (let contradiction : to_handler ≡ got x = is in cc)
      by_handled fault None is = absurd (let contradiction : gone ≡ got x = is in cc)

      by_reach : (reached : Result FrameOffset PageFault) → (accessing s n va access done reached).gives ≡ got x →
          accessing s n va access done reached ≡ done behind
      by_reach (Ok location) is = refl
      by_reach (Err fault) is = by_handled fault (handled s n fault) is

-- ---- bytes that are put

byte_entries : (s : SpacesState) (d va byte : ℕ) → (stored_byte s d va byte).entries ≡ s.entries
unfolding stored_byte
byte_entries s d va byte = by_reach (reach_in s d va Write)
  where
    by_reach : (r : Result FrameOffset PageFault) → (with_byte_at s byte r).entries ≡ s.entries
    by_reach (Ok location) = refl
    by_reach (Err fault) = refl

put_entries : (s : SpacesState) (d va : ℕ) (bytes : List ℕ) → (spaces_put s d va bytes).entries ≡ s.entries
unfolding spaces_put
put_entries s d va [] = refl
put_entries s d va (byte ∷ rest) = put_entries (stored_byte s d va byte) d (va + 1) rest ∙ byte_entries s d va byte

-- ---- each call

-- One that concerns the page of a request, or is a message, or gives up its turn, is none of these.
abbrev pub LeavesRequest : {number : ℕ} {args : List ℕ} → IsServersSystemCall number args → Type 0
LeavesRequest asks_id = Unit {0}
LeavesRequest (takes_block k below) = Unit {0}
LeavesRequest (maps_block from to from_below to_below) = Unit {0}
LeavesRequest (unmaps_block k below) = Unit {0}
LeavesRequest (takes_place k below) = Unit {0}
LeavesRequest _ = ⊥

abbrev pub LeavesRequestBy : (call : UserCall) → IsServersCall call → Type 0
LeavesRequestBy (calls number args) own = LeavesRequest own
LeavesRequestBy _ own = Unit {0}

-- an access gives something
abbrev pub Gives : UserCall → KernelState → Type 0
Gives (loads va) s = (word : ℕ) × ((load s 0 va).gives ≡ got word)
Gives (loads_byte va) s = (byte : ℕ) × ((load_byte s 0 va).gives ≡ got byte)
Gives (stores va word) s = (store s 0 va word).gives ≡ got tt
Gives (stores_byte va byte) s = (store_byte s 0 va byte).gives ≡ got tt
Gives _ s = Unit {0}

may_gives : (call : UserCall) (own : IsServersCall call) (s : KernelState) (a : AbstractState) → MayCall call own s a → Gives call s
may_gives (loads va) own s a may = may
may_gives (loads_byte va) own s a may = may
may_gives (stores va word) own s a may = may.0
may_gives (stores_byte va byte) own s a may = may.0
may_gives (calls number args) own s a may = tt
may_gives (reads_block block va) own s a may = tt
may_gives (writes_block block va) own s a may = tt

-- neither the page of a block is that of a request, nor is that of a place
block_apart : (k : ℕ) → k < CACHE_BLOCKS → page_number (block_address k) ≢ request_page
block_apart k below is = absurd (omega (arith, below, is))

block_begins : (k : ℕ) → k < CACHE_BLOCKS → is_page_address (block_address k) ≡ true
block_begins k below = grind (arith, nat_tests)

place_apart : (k : ℕ) → k < MAXOPEN → page_number (place_address k) ≢ request_page
place_apart k below is = absurd (omega (arith, below, is))

place_begins : (k : ℕ) → k < MAXOPEN → is_page_address (place_address k) ≡ true
place_begins k below = grind (arith, nat_tests)

-- where an entry can't be given on, nothing is done
map_refused : (s : KernelState) (n : ℕ) → is_live (slot_at s n) ≡ true → (from to perm : ℕ) → is_page_address from ≡ true →
    is_page_address to ≡ true → shared_entry (entry_at s n from) perm ≡ None →
    system s n SYS_PAGE_MAP (0 ∷ from ∷ 0 ∷ to ∷ perm ∷ []) ≡ giving s (Answered (negated E_INVAL))
unfolding call_of found
map_refused s n live from to perm from_address to_address is =
    let q : Regs = asking (slot_at s n).registers SYS_PAGE_MAP (0 ∷ from ∷ 0 ∷ to ∷ perm ∷ []) in
    let k : KernelState = with_registers s n q in
    let gives : shared_entry (entry_at k n from) perm ≡ None =
    (λ i. shared_entry (s.spaces.entries (caller_is s n q i).directory (page_number from)) perm) ∙ is in
    system_is s n SYS_PAGE_MAP (0 ∷ from ∷ 0 ∷ to ∷ perm ∷ []) (refused k n Invalid) refl (rw (from_address, to_address, gives) refl)
    ∙ quiet_is s n live q k (negated E_INVAL) refl

shared_from : (o : Option Entry) (perm : ℕ) (e : Entry) → shared_entry o perm ≡ Some e →
    (x : Entry) × (o ≡ Some x) × (x.frame ≡ e.frame) × (e.perm ≡ perm)
shared_from None perm e none = absurd cc
shared_from (Some x) perm e is = by_tests (not (is_page_perm perm)) (has_write perm && not (has_write x.perm)) is
  where
    by_tests : (t u : Bool) → (if t then None else if u then None else Some (record { frame = x.frame; perm = perm })) ≡ Some e →
        (y : Entry) × (Some x ≡ Some y) × (y.frame ≡ e.frame) × (e.perm ≡ perm)
    by_tests true u none = absurd (let contradiction : ◌≡◌ {A = Option Entry} None (Some e) = none in cc)
    by_tests false true none = absurd (let contradiction : ◌≡◌ {A = Option Entry} None (Some e) = none in cc)
    by_tests false false some =
        let given : Entry = record { frame = x.frame; perm = perm } in
        let same : given ≡ e = same_Some given e some in
        (x, refl, ap (λ (y : Entry). y.frame) same, sym (ap (λ (y : Entry). y.perm) same))

module _ {names : Names} {s : KernelState} {a : AbstractState} (h : StandsFor names s a) where
  abbrev dir : ℕ
  dir = (slot_at s 0).directory

  live : is_live (slot_at s 0) ≡ true
  live = (first_slot h).lives

  same_as : (mid : KernelState) → mid ≡ s → RowsStay s mid
  same_as mid same = subst (λ (z : KernelState). RowsStay s z) (sym same) (rows_same s)

  refused_so : (mid : KernelState) → mid ≡ with_refusal s → RowsStay s mid
  refused_so mid same = subst (λ (z : KernelState). RowsStay s z) (sym same) (record { directories = λ m. refl; others = λ q r other. refl; request = refl })

  -- its space has other rows
  rows_so : (mid : KernelState) (sp : SpacesState) → mid ≡ with_spaces s sp → ((q r : ℕ) → (q ≢ dir) ⊎ (r ≡ request_page) → rows_of sp q r ≡ rows_of s.spaces q r) →
      RowsStay s mid
  rows_so mid sp same rows = subst (λ (z : KernelState). RowsStay s z) (sym same) (record {
    directories = λ m. refl;
    others = λ q r other. rows q r (inl other);
    request = rows dir request_page (inr refl);
  })

  was_touched : (mid : KernelState) (va : ℕ) (access : Access) → mid ≡ with_spaces s (touched s.spaces dir va access) → RowsStay s mid
  was_touched mid va access same =
      rows_so mid (touched s.spaces dir va access) same (λ q r where_is i. (touched_quiet s.spaces dir va access).rows i q r)

  was_put : (mid : KernelState) (va : ℕ) (bytes : List ℕ) → mid ≡ with_bytes_put (with_spaces s (touched s.spaces dir va Write)) 0 va bytes → RowsStay s mid
  unfolding rows_of
  was_put mid va bytes same =
      let t : SpacesState = touched s.spaces dir va Write in
      rows_so mid (spaces_put t dir va bytes) (same ∙ put_is (with_spaces s t) 0 va bytes)
      (λ q r where_is. (λ i. option_map lasting (put_entries t dir va bytes i q r)) ∙ (λ i. (touched_quiet s.spaces dir va Write).rows i q r))

  -- these are not at a page that is not that of a request
  elsewhere : (p q r : ℕ) → p ≢ request_page → (q ≢ dir) ⊎ (r ≡ request_page) → q ≡ dir → r ≢ p
  elsewhere p q r apart (inl other) same here = absurd (other same)
  elsewhere p q r apart (inr is) same here = apart (sym here ∙ is)

  module _ (mid : KernelState) (called : Called) (output : Output) (in_order : IsInOrder mid) where
    takes : (va perm : ℕ) → is_page_address va ≡ true → is_page_perm perm ≡ true → page_number va ≢ request_page →
        IsCallStep (system s 0 SYS_PAGE_ALLOC (0 ∷ va ∷ perm ∷ 0 ∷ 0 ∷ [])) (Ok called) mid output → RowsStay s mid
    takes va perm begins permitted apart call = elim (page_made_or_refused s 0 va perm (0 ∷ 0 ∷ []) live begins permitted) [
      | inl made ↦ was_made made
      | inr none ↦ was_none none
    ]
      where
        asked : CallStep Called
        asked = system s 0 SYS_PAGE_ALLOC (0 ∷ va ∷ perm ∷ 0 ∷ 0 ∷ [])

        was_none : PageRefused s 0 va perm asked → RowsStay s mid
        was_none none =
            let it = comes_to asked (Answered (negated E_NO_MEM)) called (with_refusal s) mid [] output none.step call in refused_so mid it.1

        was_made : PageMade s 0 va perm asked → RowsStay s mid
        was_made made =
            let it = comes_to asked (Answered 0) called (with_spaces s made.spaces) mid [] output made.step call in
            let order : IsInOrder (with_spaces s made.spaces) = subst IsInOrder it.1 in_order in
            let m = allocated_made s.spaces made.spaces dir (page_number va) perm made.frame h.in_order.frames order.frames permitted made.is in
            rows_so mid made.spaces it.1
            (λ q r where_is. (λ i. m.placed.rows i q r)
            ∙ put-other (rows_of s.spaces) dir (page_number va) _ q r (elsewhere (page_number va) q r apart where_is))

    maps : (from to : ℕ) → from < CACHE_BLOCKS → to < CACHE_BLOCKS →
        IsCallStep (system s 0 SYS_PAGE_MAP (0 ∷ block_address from ∷ 0 ∷ block_address to ∷ block_perm ∷ [])) (Ok called) mid output → RowsStay s mid
    maps from to from_below to_below call = by_entry (shared_entry (entry_at s 0 (block_address from)) block_perm) refl
      where
        asked : CallStep Called
        asked = system s 0 SYS_PAGE_MAP (0 ∷ block_address from ∷ 0 ∷ block_address to ∷ block_perm ∷ [])

        by_spaces : (e : Entry) → shared_entry (entry_at s 0 (block_address from)) block_perm ≡ Some e → (o : Option SpacesState) →
            inserted_at s 0 (block_address to) e ≡ o → asked ≡ made_step s o → RowsStay s mid
        by_spaces e given None none step =
            let it = comes_to asked (Answered (negated E_NO_MEM)) called (with_refusal s) mid [] output step call in refused_so mid it.1
        by_spaces e given (Some sp) is step =
            let it = comes_to asked (Answered 0) called (with_spaces s sp) mid [] output step call in
            let order : IsInOrder (with_spaces s sp) = subst IsInOrder it.1 in_order in
            let x = shared_from (entry_at s 0 (block_address from)) block_perm e given in
            let bits : is_page_perm e.perm ≡ true = ap (λ (w : ℕ). is_page_perm w) x.3 in
            let m = inserted_given s.spaces sp dir (page_number (block_address to)) e dir (page_number (block_address from)) x.0 h.in_order.frames
            order.frames bits x.1 x.2 is in
            rows_so mid sp it.1
            (λ q r where_is. (λ i. m.placed.rows i q r)
            ∙ put-other (rows_of s.spaces) dir (page_number (block_address to)) _ q r (elsewhere (page_number (block_address to)) q r (block_apart to to_below) where_is))

        by_entry : (o : Option Entry) → shared_entry (entry_at s 0 (block_address from)) block_perm ≡ o → RowsStay s mid
        by_entry None none =
            let it = comes_to asked (Answered (negated E_INVAL)) called s mid [] output
            (map_refused s 0 live (block_address from) (block_address to) block_perm (block_begins from from_below) (block_begins to to_below) none)
            call in same_as mid it.1
        by_entry (Some e) given =
            by_spaces e given (inserted_at s 0 (block_address to) e) refl
            (page_map_is s 0 live (block_address from) (block_address to) block_perm (block_begins from from_below) (block_begins to to_below) e given)

    unmaps : (k : ℕ) → k < CACHE_BLOCKS → IsCallStep (system s 0 SYS_PAGE_UNMAP (0 ∷ block_address k ∷ 0 ∷ 0 ∷ 0 ∷ [])) (Ok called) mid output →
        RowsStay s mid
    unmaps k below call =
        let sp : SpacesState = unmapped s.spaces dir (page_number (block_address k)) in
        let it = comes_to (system s 0 SYS_PAGE_UNMAP (0 ∷ block_address k ∷ 0 ∷ 0 ∷ 0 ∷ [])) (Answered 0) called (with_spaces s sp) mid [] output
        (page_unmap_is s 0 live (block_address k) (0 ∷ 0 ∷ 0 ∷ []) (block_begins k below)) call in
        let removed = unmapped_removed s.spaces dir (page_number (block_address k)) h.in_order.frames in
        rows_so mid sp it.1
        (λ q r where_is. (λ i. removed.rows i q r)
        ∙ put-other (rows_of s.spaces) dir (page_number (block_address k)) None q r (elsewhere (page_number (block_address k)) q r (block_apart k below) where_is))

  asked_so : (number : ℕ) (args : List ℕ) (own : IsServersSystemCall number args) → LeavesRequest own → (mid : KernelState) (called : Called)
      (output : Output) → IsInOrder mid → IsCallStep (system s 0 number args) (Ok called) mid output → RowsStay s mid
  asked_so number args asks_id leaves mid called output in_order call = same_as mid (same_state s 0 args live mid called output call)
  asked_so number args yields leaves mid called output in_order call = absurd leaves
  asked_so number args (takes_block k below) leaves mid called output in_order call =
      takes mid called output in_order (block_address k) block_perm (block_begins k below) refl (block_apart k below) call
  asked_so number args (maps_block from to from_below to_below) leaves mid called output in_order call =
      maps mid called output in_order from to from_below to_below call
  asked_so number args (unmaps_block k below) leaves mid called output in_order call = unmaps mid called output in_order k below call
  asked_so number args (takes_place k below) leaves mid called output in_order call =
      takes mid called output in_order (place_address k) place_perm (place_begins k below) refl (place_apart k below) call
  asked_so number args unmaps_request leaves mid called output in_order call = absurd leaves
  asked_so number args receives leaves mid called output in_order call = absurd leaves
  asked_so number args (sends client word) leaves mid called output in_order call = absurd leaves
  asked_so number args (sends_place client word k below) leaves mid called output in_order call = absurd leaves

  -- the state behind an access, whether it faulted or not
  came : {X : Type 0} (step : CallStep X) (mid : KernelState) (output : Output) → HasCome step mid output → mid ≡ step.state
  came step mid output (gave x is) = is.1
  came step mid output (faulted stop.Upcall other is) = is.1
  came step mid output (faulted stop.Ended other is) = is.1
  came step mid output (faulted stop.Failed other is) = absurd (other refl)

  read_so : (block va : ℕ) (disk : DiskFile) (files : Option Files) (word : ℕ) (mid : KernelState) →
      IsBlockRead (block_call s 0 disk block va) files (Ok word) mid → RowsStay s mid
  unfolding block_put
  read_so block va disk files word mid made = by_test (may_read_block (block_call s 0 disk block va)) made
    where
      by_test : (t : Bool) → IsReadBy t (block_call s 0 disk block va) files word mid → RowsStay s mid
      by_test true is = was_put mid va is.1 is.3
      by_test false is = same_as mid is.1

  sent_so : (block va : ℕ) (disk : DiskFile) (word : ℕ) (mid : KernelState) → IsBlockWrite (block_call s 0 disk block va) (Ok word) mid → RowsStay s mid
  sent_so block va disk word mid made = by_test (may_write_block (block_call s 0 disk block va)) made
    where
      by_test : (t : Bool) → IsSentBy t (block_call s 0 disk block va) word mid → RowsStay s mid
      by_test true is = was_touched mid va Read is.1
      by_test false is = same_as mid is.1

  made_so : (call : UserCall) (own : IsServersCall call) → LeavesRequestBy call own → Gives call s → (mid : KernelState) (disk : DiskFile)
      (files : Around (Option Files)) (output : Output) → IsInOrder mid → IsMade call s 0 disk files mid output → RowsStay s mid
  unfolding load load_byte store store_byte
  made_so (loads va) own leaves gives mid disk files output in_order made =
      was_touched mid va Read
      (came (load s 0 va) mid output made.0
      ∙ ap (λ (z : CallStep ℕ). z.state) (given_is s 0 va Read (λ after. giving after (user_word after 0 va)) gives.0 gives.1))
  made_so (loads_byte va) own leaves gives mid disk files output in_order made =
      was_touched mid va Read
      (came (load_byte s 0 va) mid output made.0
      ∙ ap (λ (z : CallStep ℕ). z.state) (given_is s 0 va Read (λ after. giving after (user_byte after 0 va)) gives.0 gives.1))
  made_so (stores va word) own leaves gives mid disk files output in_order made =
      was_put mid va (to_le_bytes w32 word)
      (came (store s 0 va word) mid output made.0
      ∙ ap (λ (z : CallStep (Unit {0})). z.state) (given_is s 0 va Write (λ after. giving (with_user_word after 0 va word) tt) tt gives))
  made_so (stores_byte va byte) own leaves gives mid disk files output in_order made =
      was_put mid va (byte ∷ [])
      (came (store_byte s 0 va byte) mid output made.0
      ∙ ap (λ (z : CallStep (Unit {0})). z.state) (given_is s 0 va Write (λ after. giving (with_user_byte after 0 va byte) tt) tt gives))
  made_so (calls number args) own leaves gives mid disk files output in_order made =
      asked_so number args own leaves mid made.0 output in_order made.1
  made_so (reads_block block va) own leaves gives mid disk files output in_order made = read_so block va disk files.before made.0 mid made.1
  made_so (writes_block block va) own leaves gives mid disk files output in_order made = sent_so block va disk made.0 mid made.1

  -- Behind the words that are set, too.
  pub rows_by : (call : UserCall) (own : IsServersCall call) → LeavesRequestBy call own → (after : KernelState) (disk : DiskFile)
      (files : Around (Option Files)) (output : Output) → MakesCall call s after 0 disk files output → Gives call s → IsInOrder after → RowsStay s after
  rows_by call own leaves after disk files output makes gives in_order = by_left makes.left
    where
      stay : IsInOrder makes.mid → RowsStay s makes.mid
      stay order = made_so call own leaves gives makes.mid disk files output order makes.made

      by_left : (after ≡ makes.mid) ⊎ SetsWords makes.mid after 0 → RowsStay s after
      by_left (inl same) = subst (λ (z : KernelState). RowsStay s z) (sym same) (stay (subst IsInOrder same in_order))
      by_left (inr sets) =
          let k : Slot = record (slot_at makes.mid 0) { registers = sets.registers; extra = sets.words } in
          let set : after ≡ with_slot_at makes.mid 0 k = sets.set ∙ both_set makes.mid 0 sets.registers sets.words in
          let it = stay (slot_was_in_order makes.mid 0 k refl refl (subst IsInOrder set in_order)) in
          subst (λ (z : KernelState). RowsStay s z) (sym set) (record {
            directories = λ m. slots_alike makes.mid 0 (λ (x : Slot). x.directory) k refl m ∙ it.directories m;
            others = it.others;
            request = it.request;
          })

  pub server_call_rows : (call : UserCall) (own : IsServersCall call) → LeavesRequestBy call own → (after : KernelState) (disk : DiskFile)
      (files : Around (Option Files)) (output : Output) → MakesCall call s after 0 disk files output → MayCall call own s a → IsInOrder after → RowsStay s after
  server_call_rows call own leaves after disk files output makes may in_order =
      rows_by call own leaves after disk files output makes (may_gives call own s a may) in_order

  -- ---- the environments stay, and nothing is printed

  abbrev Quietly : KernelState → Output → Type 0
  Quietly mid output = (mid.environments ≡ s.environments) × Prints output []

  quietly : (mid : KernelState) (next : KernelState) (output : Output) → mid ≡ next → next.environments ≡ s.environments → Prints output [] →
      Quietly mid output
  quietly mid next output same is prints = (ap (λ (z : KernelState). z.environments) same ∙ is, prints)

  -- where an access gave something
  gave_quietly : {X : Type 0} (step : CallStep X) (mid : KernelState) (output : Output) (x : X) → step.gives ≡ got x → step.written ≡ [] →
      HasCome step mid output → Prints output []
  gave_quietly step mid output x gives none (gave y is) = subst (λ (bytes : List ℕ). Prints output bytes) none is.2
  gave_quietly step mid output x gives none (faulted stop.Upcall other is) = absurd (let contradiction : to_handler ≡ got x = sym is.0 ∙ gives in cc)
  gave_quietly step mid output x gives none (faulted stop.Ended other is) = absurd (let contradiction : gone ≡ got x = sym is.0 ∙ gives in cc)
  gave_quietly step mid output x gives none (faulted stop.Failed other is) = absurd (other refl)

  taken_environments : (va perm : ℕ) → is_page_address va ≡ true → is_page_perm perm ≡ true → (mid : KernelState) (called : Called) (output : Output) →
      IsCallStep (system s 0 SYS_PAGE_ALLOC (0 ∷ va ∷ perm ∷ 0 ∷ 0 ∷ [])) (Ok called) mid output → Quietly mid output
  taken_environments va perm begins permitted mid called output call =
      elim (page_made_or_refused s 0 va perm (0 ∷ 0 ∷ []) live begins permitted) [
        | inl made ↦ was_made made
        | inr none ↦ was_none none
      ]
    where
      asked : CallStep Called
      asked = system s 0 SYS_PAGE_ALLOC (0 ∷ va ∷ perm ∷ 0 ∷ 0 ∷ [])

      was_none : PageRefused s 0 va perm asked → Quietly mid output
      was_none none =
          let it = comes_to asked (Answered (negated E_NO_MEM)) called (with_refusal s) mid [] output none.step call in
          quietly mid (with_refusal s) output it.1 refl it.2

      was_made : PageMade s 0 va perm asked → Quietly mid output
      was_made made =
          let it = comes_to asked (Answered 0) called (with_spaces s made.spaces) mid [] output made.step call in
          quietly mid (with_spaces s made.spaces) output it.1 refl it.2

  asked_environments : (number : ℕ) (args : List ℕ) (own : IsServersSystemCall number args) → LeavesRequest own → (mid : KernelState) (called : Called)
      (output : Output) → IsCallStep (system s 0 number args) (Ok called) mid output → Quietly mid output
  asked_environments number args asks_id leaves mid called output call =
      quietly mid s output (same_state s 0 args live mid called output call) refl
      (subst (λ (bytes : List ℕ). Prints output bytes) (ap (λ (z : CallStep Called). z.written) (getenvid_is s 0 live args)) call.2)
  asked_environments number args yields leaves mid called output call = absurd leaves
  asked_environments number args (takes_block k below) leaves mid called output call =
      taken_environments (block_address k) block_perm (block_begins k below) refl mid called output call
  asked_environments number args (maps_block from to from_below to_below) leaves mid called output call =
      by_entry (shared_entry (entry_at s 0 (block_address from)) block_perm) refl
    where
      asked : CallStep Called
      asked = system s 0 SYS_PAGE_MAP (0 ∷ block_address from ∷ 0 ∷ block_address to ∷ block_perm ∷ [])

      by_spaces : (o : Option SpacesState) → asked ≡ made_step s o → Quietly mid output
      by_spaces None step =
          let it = comes_to asked (Answered (negated E_NO_MEM)) called (with_refusal s) mid [] output step call in
          quietly mid (with_refusal s) output it.1 refl it.2
      by_spaces (Some sp) step =
          let it = comes_to asked (Answered 0) called (with_spaces s sp) mid [] output step call in
          quietly mid (with_spaces s sp) output it.1 refl it.2

      by_entry : (o : Option Entry) → shared_entry (entry_at s 0 (block_address from)) block_perm ≡ o → Quietly mid output
      by_entry None none =
          let it = comes_to asked (Answered (negated E_INVAL)) called s mid [] output
          (map_refused s 0 live (block_address from) (block_address to) block_perm (block_begins from from_below) (block_begins to to_below) none)
          call in quietly mid s output it.1 refl it.2
      by_entry (Some e) given =
          by_spaces (inserted_at s 0 (block_address to) e)
          (page_map_is s 0 live (block_address from) (block_address to) block_perm (block_begins from from_below) (block_begins to to_below) e given)
  asked_environments number args (unmaps_block k below) leaves mid called output call =
      let sp : SpacesState = unmapped s.spaces dir (page_number (block_address k)) in
      let it = comes_to (system s 0 SYS_PAGE_UNMAP (0 ∷ block_address k ∷ 0 ∷ 0 ∷ 0 ∷ [])) (Answered 0) called (with_spaces s sp) mid [] output
      (page_unmap_is s 0 live (block_address k) (0 ∷ 0 ∷ 0 ∷ []) (block_begins k below)) call in
      quietly mid (with_spaces s sp) output it.1 refl it.2
  asked_environments number args (takes_place k below) leaves mid called output call =
      taken_environments (place_address k) place_perm (place_begins k below) refl mid called output call
  asked_environments number args unmaps_request leaves mid called output call = absurd leaves
  asked_environments number args receives leaves mid called output call = absurd leaves
  asked_environments number args (sends client word) leaves mid called output call = absurd leaves
  asked_environments number args (sends_place client word k below) leaves mid called output call = absurd leaves

  same_environments : (mid : KernelState) (next : KernelState) → mid ≡ next → next.environments ≡ s.environments → mid.environments ≡ s.environments
  same_environments mid next same is = ap (λ (z : KernelState). z.environments) same ∙ is

  put_environments : (mid : KernelState) (va : ℕ) (bytes : List ℕ) →
      mid ≡ with_bytes_put (with_spaces s (touched s.spaces dir va Write)) 0 va bytes → mid.environments ≡ s.environments
  put_environments mid va bytes same =
      same_environments mid (with_spaces s (spaces_put (touched s.spaces dir va Write) dir va bytes))
      (same ∙ put_is (with_spaces s (touched s.spaces dir va Write)) 0 va bytes) refl

  read_environments : (block va : ℕ) (disk : DiskFile) (files : Option Files) (word : ℕ) (mid : KernelState) →
      IsBlockRead (block_call s 0 disk block va) files (Ok word) mid → mid.environments ≡ s.environments
  unfolding block_put
  read_environments block va disk files word mid made = by_test (may_read_block (block_call s 0 disk block va)) made
    where
      by_test : (t : Bool) → IsReadBy t (block_call s 0 disk block va) files word mid → mid.environments ≡ s.environments
      by_test true is = put_environments mid va is.1 is.3
      by_test false is = same_environments mid s is.1 refl

  sent_environments : (block va : ℕ) (disk : DiskFile) (word : ℕ) (mid : KernelState) → IsBlockWrite (block_call s 0 disk block va) (Ok word) mid →
      mid.environments ≡ s.environments
  sent_environments block va disk word mid made = by_test (may_write_block (block_call s 0 disk block va)) made
    where
      by_test : (t : Bool) → IsSentBy t (block_call s 0 disk block va) word mid → mid.environments ≡ s.environments
      by_test true is = same_environments mid (with_spaces s (touched s.spaces dir va Read)) is.1 refl
      by_test false is = same_environments mid s is.1 refl

  pub quietly_by : (call : UserCall) (own : IsServersCall call) → LeavesRequestBy call own → Gives call s → (mid : KernelState)
      (disk : DiskFile) (files : Around (Option Files)) (output : Output) → IsMade call s 0 disk files mid output → Quietly mid output
  unfolding load load_byte store store_byte
  quietly_by (loads va) own leaves gives mid disk files output made =
      let is = given_is s 0 va Read (λ after. giving after (user_word after 0 va)) gives.0 gives.1 in
      quietly mid (with_spaces s (touched s.spaces dir va Read)) output
      (came (load s 0 va) mid output made.0 ∙ ap (λ (z : CallStep ℕ). z.state) is) refl
      (gave_quietly (load s 0 va) mid output gives.0 gives.1 (ap (λ (z : CallStep ℕ). z.written) is) made.0)
  quietly_by (loads_byte va) own leaves gives mid disk files output made =
      let is = given_is s 0 va Read (λ after. giving after (user_byte after 0 va)) gives.0 gives.1 in
      quietly mid (with_spaces s (touched s.spaces dir va Read)) output
      (came (load_byte s 0 va) mid output made.0 ∙ ap (λ (z : CallStep ℕ). z.state) is) refl
      (gave_quietly (load_byte s 0 va) mid output gives.0 gives.1 (ap (λ (z : CallStep ℕ). z.written) is) made.0)
  quietly_by (stores va word) own leaves gives mid disk files output made =
      let is = given_is s 0 va Write (λ after. giving (with_user_word after 0 va word) tt) tt gives in (
        put_environments mid va (to_le_bytes w32 word)
            (came (store s 0 va word) mid output made.0 ∙ ap (λ (z : CallStep (Unit {0})). z.state) is),
        gave_quietly (store s 0 va word) mid output tt gives (ap (λ (z : CallStep (Unit {0})). z.written) is) made.0,
      )
  quietly_by (stores_byte va byte) own leaves gives mid disk files output made =
      let is = given_is s 0 va Write (λ after. giving (with_user_byte after 0 va byte) tt) tt gives in (
        put_environments mid va (byte ∷ [])
            (came (store_byte s 0 va byte) mid output made.0 ∙ ap (λ (z : CallStep (Unit {0})). z.state) is),
        gave_quietly (store_byte s 0 va byte) mid output tt gives (ap (λ (z : CallStep (Unit {0})). z.written) is) made.0,
      )
  quietly_by (calls number args) own leaves gives mid disk files output made =
      asked_environments number args own leaves mid made.0 output made.1
  quietly_by (reads_block block va) own leaves gives mid disk files output made =
      (read_environments block va disk files.before made.0 mid made.1, made.2)
  quietly_by (writes_block block va) own leaves gives mid disk files output made =
      (sent_environments block va disk made.0 mid made.1, made.2)

  pub made_quietly : (call : UserCall) (own : IsServersCall call) → LeavesRequestBy call own → MayCall call own s a → (mid : KernelState)
      (disk : DiskFile) (files : Around (Option Files)) (output : Output) → IsMade call s 0 disk files mid output → Quietly mid output
  made_quietly call own leaves may mid disk files output made = quietly_by call own leaves (may_gives call own s a may) mid disk files output made

  -- The status stays behind the words that are set.
  pub status_stays : (mid after : KernelState) → mid.environments ≡ s.environments → (after ≡ mid) ⊎ SetsWords mid after 0 →
      (slot_at after 0).status ≡ (slot_at s 0).status
  status_stays mid after same (inl is) =
      ap (λ (z : KernelState). (slot_at z 0).status) is ∙ ap (λ (e : Environments). (e.slots 0).status) same
  status_stays mid after same (inr sets) =
      let k : Slot = record (slot_at mid 0) { registers = sets.registers; extra = sets.words } in
      ap (λ (z : KernelState). (slot_at z 0).status) (sets.set ∙ both_set mid 0 sets.registers sets.words)
      ∙ slots_alike mid 0 (λ (x : Slot). x.status) k refl 0
      ∙ ap (λ (e : Environments). (e.slots 0).status) same
