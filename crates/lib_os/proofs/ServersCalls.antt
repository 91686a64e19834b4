-- Each call of the file server's that stays in its own space leaves a state that stands for what stood before, where it writes to no page and
-- takes none away that a client has.
use Rattle.std.proofs.Common.{◌≡◌, ◌≢◌, ◌∙◌, ◌+◌, ◌-◌, ◌/◌, ◌%◌, ◌<◌, ◌≤◌, ◌==◌, ◌&&◌, ◌||◌, ◌⊎◌, inl, inr, ℕ, suc, Bool, true, false, not}
use Rattle.std.proofs.Common.{List, [], ◌∷◌, Option, Some, None, Result, Ok, Err, refl, sym, ap, subst, arith, length, nat_le, nat_lt, if◌then◌else◌}
use Rattle.std.specs.Int.{w32, to_le_bytes}
use Rattle.std.specs.Option.{option_map}
use Rattle.std.specs.Prelude.{is_ok, is_some}
use Rattle.std.proofs.lemmas.Bool.Decides.{nat_tests}
use Rattle.std.proofs.lemmas.Option.{same_Some}
use Rattle.jos_host.specs.Files.{Files}
use Rattle.jos_host.specs.Frames.{Around}
use Rattle.jos_base.specs.declared.called.Called.{Called}
use Rattle.jos_base.specs.declared.called.Called.TheVariants.{Answered}
use Rattle.jos_base.specs.declared.environment.Status.TheVariants.{Runnable}
use Rattle.jos_base.specs.declared.errno.Errno.TheVariants.{Invalid}
use Rattle.jos_base.specs.declared.memory.Access.{Access}
use Rattle.jos_base.specs.declared.memory.Access.TheVariants.{Read, Write}
use Rattle.jos_base.specs.declared.memory.PageFault.{PageFault}
use Rattle.jos_base.specs.declared.numbers.TheConstants.{E_INVAL, E_NO_MEM, FDTABLE, FEC_PR, FEC_U, FIRST_ENV_ID, NPTENTRIES, PGSIZE}
use Rattle.jos_base.specs.declared.numbers.TheConstants.{SYS_PAGE_ALLOC, SYS_PAGE_MAP, SYS_PAGE_UNMAP}
use Rattle.jos_base.specs.declared.registers.Regs.{Regs}
use Rattle.jos_base.specs.Counting.{page_limit}
use Rattle.jos_base.specs.Environments.{Slot, found, is_live as is_live_slot}
use Rattle.jos_base.specs.KernelState.{KernelState, slot_at, with_registers, with_slot_at, with_spaces, with_status, with_refusal}
use Rattle.jos_base.specs.Reach.{Entry, FrameOffset, allows, reach_entry, write_bit}
use Rattle.jos_base.specs.SpacesState.{SpacesState, unmapped}
use Rattle.jos_base.specs.SystemCalls.{call_of, refused, entry_at, handled, has_write, inserted_at, is_page_address, is_page_perm, shared_entry}
use Rattle.jos_base.specs.UserMemory.{is_allowed, reach_in, stored_byte, touched, with_byte_at}
use Rattle.jos_base.specs.Windows.{entry_above, read_only, walked}
use Rattle.jos_base.specs.Words.{negated, page_number, page_offset}
use Rattle.fs_layout.specs.declared.numbers.TheConstants.{MAXBLOCKS}
use Rattle.lib_os.specs.declared.numbers.TheConstants.{CACHE_BLOCKS, DISKMAP, MAXOPEN, OPEN_RECORDS, REQUEST}
use Rattle.lib_os.specs.declared.user_os.Stop.TheVariants as stop
use Rattle.lib_os.specs.AbstractState.{AbstractState, Server, TablePlace, idle, leaving, looking, busy, acted}
use Rattle.lib_os.specs.BlockCache.{block_address}
use Rattle.lib_os.specs.DescriptorPages.{place_page}
use Rattle.lib_os.specs.Disk.{DiskFile}
use Rattle.lib_os.specs.InOrder.{IsInOrder}
use Rattle.lib_os.specs.LibraryPages.{region_index}
use Rattle.lib_os.specs.MadeCalls.{HasCome, IsMade, IsServersCall, IsServersSystemCall, MakesCall, SetsWords, UserCall, block_perm, place_address}
use Rattle.lib_os.specs.MadeCalls.{place_perm}
use Rattle.lib_os.specs.MadeCalls.{asks_id, calls, faulted, gave, loads, loads_byte, maps_block, reads_block, receives, sends, sends_place, stores}
use Rattle.lib_os.specs.MadeCalls.{stores_byte, takes_block, takes_place, unmaps_block, unmaps_request, writes_block, yields}
use Rattle.lib_os.specs.Rows.{Names, lasting, logical, rows_of}
use Rattle.lib_os.specs.StandsFor.{IsServerStatus, IsStatusFor, StandsFor, StandsForServer, is_servers_page, is_servers_region}
use Rattle.lib_os.specs.UserCalls.{CallStep, IsBlockRead, IsBlockWrite, IsCallStep, IsReadBy, IsSentBy, Output, accessing, asking, block_call}
use Rattle.lib_os.specs.UserCalls.{block_put, by_access, faulting, giving, gone, got, load, load_byte, may_read_block, may_write_block, store}
use Rattle.lib_os.specs.UserCalls.{store_byte, system, to_handler, user_byte, user_word, with_bytes_put, with_user_byte, with_user_word}
use Rattle.lib_os.proofs.BytesPut.{put_is, spaces_put}
use Rattle.lib_os.proofs.Calls.{PageMade, PageRefused, caller_is, comes_to, made_step, page_made_or_refused, page_unmap_is, quiet_is, system_is}
use Rattle.lib_os.proofs.Effects.{Quiet}
use Rattle.lib_os.proofs.EntriesCount.{entry_counts}
use Rattle.lib_os.proofs.Placing.{allocated_made, inserted_given}
use Rattle.lib_os.proofs.Quieting.{same_state, turn_given}
use Rattle.lib_os.proofs.Remapping.{page_map_is}
use Rattle.lib_os.proofs.Removing.{unmapped_removed}
use Rattle.lib_os.proofs.ServerStands.{AreAlike, IsPlacePage, IsPlainPage, IsPrivate, IsPrivateAt, OthersKept, OwnKept, first_slot, had, new, placed_others}
use Rattle.lib_os.proofs.ServerStands.{placed_own, plain_private, refusal_stands, removed_others, removed_own, same_own, server_space}
use Rattle.lib_os.proofs.ServerStands.{servers_counts, words_stand}
use Rattle.lib_os.proofs.StatesStand.{quiet_stands, server_set, slot_was_in_order, stopped_settles}
use Rattle.lib_os.proofs.SlotsSet.{both_set}
use Rattle.lib_os.proofs.Touching.{touched_quiet}
use Rattle.jos_base.proofs.Maps.{upd-at, upd-other}

-- ---- what a call has to have

-- by the system call: what it is given stays the server's, and what is taken from it no client has
abbrev pub MayAsk : {number : ℕ} {args : List ℕ} → IsServersSystemCall number args → KernelState → AbstractState → Type 0
MayAsk asks_id s a = Unit {0}
MayAsk yields s a = IsStatusFor (slot_at s 0).status false
MayAsk (takes_block k below) s a = (k < a.files.blocks) × (a.files.blocks ≤ MAXBLOCKS)
MayAsk (maps_block from to from_below to_below) s a = (to < a.files.blocks) × (a.files.blocks ≤ MAXBLOCKS)
MayAsk (unmaps_block k below) s a = Unit {0}
MayAsk (takes_place k below) s a = ((a.opened k).used ≡ true) × IsPrivateAt s (page_number (place_address k))
MayAsk unmaps_request s a = Unit {0}
MayAsk receives s a = ⊥
MayAsk (sends client word) s a = ⊥
MayAsk (sends_place client word k below) s a = ⊥

-- an access gives something, so that it does not fault; and no client has the page to which it stores
abbrev pub MayCall : (call : UserCall) → IsServersCall call → KernelState → AbstractState → Type 0
MayCall (loads va) own s a = (word : ℕ) × ((load s 0 va).gives ≡ got word)
MayCall (loads_byte va) own s a = (byte : ℕ) × ((load_byte s 0 va).gives ≡ got byte)
MayCall (stores va word) own s a = ((store s 0 va word).gives ≡ got tt) × IsPrivateAt s (page_number va)
MayCall (stores_byte va byte) own s a = ((store_byte s 0 va byte).gives ≡ got tt) × IsPrivateAt s (page_number va)
MayCall (calls number args) own s a = MayAsk own s a
MayCall (reads_block block va) own s a = Unit {0}
MayCall (writes_block block va) own s a = Unit {0}

-- ---- accesses

-- the state behind an access, whether it faulted or not
came : {X : Type 0} (step : CallStep X) (mid : KernelState) (output : Output) → HasCome step mid output → mid ≡ step.state
came step mid output (gave x is) = is.1
came step mid output (faulted stop.Upcall other is) = is.1
came step mid output (faulted stop.Ended other is) = is.1
came step mid output (faulted stop.Failed other is) = absurd (other refl)

-- and that of one that gave something
given_state : {X : Type 0} (s : KernelState) (n va : ℕ) (access : Access) (done : KernelState → CallStep X) (x : X) →
    (by_access s n va access done).gives ≡ got x →
    (by_access s n va access done).state ≡ (done (with_spaces s (touched s.spaces (slot_at s n).directory va access))).state
given_state {X = X} s n va access done x gives = by_reach (reach_in s.spaces (slot_at s n).directory va access) gives
  where
    after : KernelState
    after = (done (with_spaces s (touched s.spaces (slot_at s n).directory va access))).state

    by_handled : (fault : PageFault) (o : Option KernelState) → (faulting {X = X} s n fault o).gives ≡ got x →
        (faulting {X = X} s n fault o).state ≡ after
    by_handled fault (Some handler) is = absurd (let contradiction : to_handler ≡ got x = is in cc)
    by_handled fault None is = absurd (let contradiction : gone ≡ got x = is in cc)

    by_reach : (reached : Result FrameOffset PageFault) → (accessing s n va access done reached).gives ≡ got x →
        (accessing s n va access done reached).state ≡ after
    by_reach (Ok location) is = refl
    by_reach (Err fault) is = by_handled fault (handled s n fault) is

-- One that is allowed gives what is told of the state in which it has set its bits.
allowed_gives : {X : Type 0} (s : KernelState) (n va : ℕ) (access : Access) (done : KernelState → CallStep X) (value : KernelState → X) →
    ((k : KernelState) → (done k).gives ≡ got (value k)) → is_allowed s.spaces (slot_at s n).directory va access ≡ true →
    (by_access s n va access done).gives ≡ got (value (with_spaces s (touched s.spaces (slot_at s n).directory va access)))
allowed_gives {X = X} s n va access done value told allowed = by_reach (reach_in s.spaces (slot_at s n).directory va access) allowed
  where
    after : KernelState
    after = with_spaces s (touched s.spaces (slot_at s n).directory va access)

    by_reach : (reached : Result FrameOffset PageFault) → is_ok reached ≡ true → (accessing s n va access done reached).gives ≡ got (value after)
    by_reach (Ok location) is = told after
    by_reach (Err fault) is = absurd (let contradiction : false ≡ true = is in cc)

module _ (s : KernelState) (va : ℕ) where
  pub may_load : is_allowed s.spaces (slot_at s 0).directory va Read ≡ true → (word : ℕ) × ((load s 0 va).gives ≡ got word)
  unfolding load
  may_load allowed = (
    user_word (with_spaces s (touched s.spaces (slot_at s 0).directory va Read)) 0 va,
    allowed_gives s 0 va Read (λ after. giving after (user_word after 0 va)) (λ after. user_word after 0 va) (λ k. refl) allowed,
  )

  pub may_load_byte : is_allowed s.spaces (slot_at s 0).directory va Read ≡ true → (byte : ℕ) × ((load_byte s 0 va).gives ≡ got byte)
  unfolding load_byte
  may_load_byte allowed = (
    user_byte (with_spaces s (touched s.spaces (slot_at s 0).directory va Read)) 0 va,
    allowed_gives s 0 va Read (λ after. giving after (user_byte after 0 va)) (λ after. user_byte after 0 va) (λ k. refl) allowed,
  )

  pub may_store : (word : ℕ) → is_allowed s.spaces (slot_at s 0).directory va Write ≡ true → (store s 0 va word).gives ≡ got tt
  unfolding store
  may_store word allowed =
      allowed_gives s 0 va Write (λ after. giving (with_user_word after 0 va word) tt) (λ after. tt) (λ k. refl) allowed

  pub may_store_byte : (byte : ℕ) → is_allowed s.spaces (slot_at s 0).directory va Write ≡ true → (store_byte s 0 va byte).gives ≡ got tt
  unfolding store_byte
  may_store_byte byte allowed =
      allowed_gives s 0 va Write (λ after. giving (with_user_byte after 0 va byte) tt) (λ after. tt) (λ k. refl) allowed

-- ---- bytes that are put

record SameTables (s t : SpacesState) : Type 0 where
  entries : t.entries ≡ s.entries
  regions : t.regions ≡ s.regions

byte_tables : (s : SpacesState) (d va byte : ℕ) → SameTables s (stored_byte s d va byte)
unfolding stored_byte
byte_tables s d va byte = by_reach (reach_in s d va Write)
  where
    by_reach : (r : Result FrameOffset PageFault) → SameTables s (with_byte_at s byte r)
    by_reach (Ok location) = record { entries = refl; regions = refl }
    by_reach (Err fault) = record { entries = refl; regions = refl }

put_tables : (s : SpacesState) (d va : ℕ) (bytes : List ℕ) → SameTables s (spaces_put s d va bytes)
unfolding spaces_put
put_tables s d va [] = record { entries = refl; regions = refl }
put_tables s d va (byte ∷ rest) =
    let one = byte_tables s d va byte in
    let more = put_tables (stored_byte s d va byte) d (va + 1) rest in
    record { entries = more.entries ∙ one.entries; regions = more.regions ∙ one.regions }

-- where an access leads to a page, its entry stands there
reach_leads : (o : Option Entry) (va : ℕ) (access : Access) (at : FrameOffset) → reach_entry o va access ≡ Ok at →
    (e : Entry) × (o ≡ Some e) × (e.frame ≡ at.frame) × (allows e.perm access ≡ true)
reach_leads None va access at refused = absurd cc
reach_leads (Some e) va access at is = by_test (allows e.perm access) refl is
  where
    by_test : (c : Bool) → allows e.perm access ≡ c →
        ◌≡◌ {A = Result FrameOffset PageFault}
        (if c then Ok (record { frame = e.frame; offset = page_offset va })
        else Err (record { va = va; error = FEC_U + FEC_PR + write_bit access })) (Ok at) →
        (x : Entry) × (Some e ≡ Some x) × (x.frame ≡ at.frame) × (allows x.perm access ≡ true)
    by_test true test some = (e, refl, let same : e.frame ≡ at.frame = cc in same, test)
    by_test false test refused = absurd cc

-- and one that writes leads to no window
write_leads : (s : SpacesState) (d va : ℕ) (at : FrameOffset) → reach_in s d va Write ≡ Ok at →
    (e : Entry) × (s.entries d (page_number va) ≡ Some e) × (e.frame ≡ at.frame)
unfolding walked
write_leads s d va at is =
    let leads = reach_leads (walked s d number) va Write at is in
    by_place leads.0 leads.2 leads.3 (nat_lt number page_limit) leads.1
  where
    number : ℕ
    number = page_number va

    by_window : (e : Entry) → allows e.perm Write ≡ true → (o : Option Entry) → option_map read_only o ≡ Some e → ⊥
    by_window e allowed None none = absurd cc
    by_window e allowed (Some x) some =
        let contradiction : false ≡ true = ap (λ (y : Entry). allows y.perm Write) (same_Some (read_only x) e some) ∙ allowed in cc

    by_place : (e : Entry) → e.frame ≡ at.frame → allows e.perm Write ≡ true → (below : Bool) →
        (if below then s.entries d number else option_map read_only (entry_above s d (number / NPTENTRIES) (number % NPTENTRIES))) ≡ Some e →
        (x : Entry) × (s.entries d number ≡ Some x) × (x.frame ≡ at.frame)
    by_place e frame allowed true stands = (e, stands, frame)
    by_place e frame allowed false stands =
        absurd (by_window e allowed (entry_above s d (number / NPTENTRIES) (number % NPTENTRIES)) stands)

-- None of the pages to which so many bytes go from an address on has this frame.
abbrev LeadsElsewhere : SpacesState → ℕ → ℕ → ℕ → ℕ → Type 0
LeadsElsewhere s d va count f = (i : ℕ) → i < count → (e : Entry) → s.entries d (page_number (va + i)) ≡ Some e → e.frame ≢ f

byte_beside : (s : SpacesState) (d va byte f : ℕ) → ((e : Entry) → s.entries d (page_number va) ≡ Some e → e.frame ≢ f) →
    (stored_byte s d va byte).pages f ≡ s.pages f
unfolding stored_byte
byte_beside s d va byte f apart = by_reach (reach_in s d va Write) refl
  where
    by_reach : (r : Result FrameOffset PageFault) → reach_in s d va Write ≡ r → (with_byte_at s byte r).pages f ≡ s.pages f
    by_reach (Ok location) at =
        let leads = write_leads s d va location at in
        upd-other s.pages location.frame _ f (λ same. apart leads.0 leads.1 (leads.2 ∙ sym same))
    by_reach (Err fault) at = refl

put_beside : (s : SpacesState) (d va : ℕ) (bytes : List ℕ) (f : ℕ) → LeadsElsewhere s d va (length bytes) f →
    (spaces_put s d va bytes).pages f ≡ s.pages f
unfolding spaces_put
put_beside s d va [] f apart = refl
put_beside s d va (byte ∷ rest) f apart =
    put_beside (stored_byte s d va byte) d (va + 1) rest f
    (λ i below e is. let next : va + suc i ≡ (va + 1) + i = omega arith in
    apart (suc i) (omega (arith, below)) e
    (ap (λ (x : ℕ). s.entries d (page_number x)) next
    ∙ (λ j. sym (byte_tables s d va byte).entries j d (page_number ((va + 1) + i))) ∙ is))
    ∙ byte_beside s d va byte f
    (λ e is. let first : va + 0 ≡ va = omega arith in
    apart 0 (omega arith) e (ap (λ (x : ℕ). s.entries d (page_number x)) first ∙ is))

-- ---- pages of its own

-- that of a block is plain, and that of the records of open files
pub block_plain : (k : ℕ) → k < CACHE_BLOCKS → IsPlainPage (page_number (block_address k))
block_plain k below = record {
  no_request = grind (arith, nat_tests);
  no_place = λ place. absurd (omega (arith, below, place.2));
}

pub records_plain : IsPlainPage (page_number OPEN_RECORDS)
records_plain = record { no_request = refl; no_place = λ place. absurd (omega (arith, place.2)) }

-- that of a place, by an address in it
pub place_number : (k at : ℕ) → at < PGSIZE → page_number (place_address k + at) ≡ place_page k
place_number k at small = omega (arith, small)

-- that of a request is no place's
request_no_place : IsPlacePage (page_number REQUEST) → ⊥
request_no_place place = absurd (omega (arith, place.2))

last_of : (a b c d : Bool) → d ≡ true → (a || b || c || d) ≡ true
last_of true b c d e = refl
last_of false true c d e = refl
last_of false false true d e = refl
last_of false false false d e = e

third_of : (a b c d : Bool) → c ≡ true → (a || b || c || d) ≡ true
third_of true b c d e = refl
third_of false true c d e = refl
third_of false false true d e = refl
third_of false false false d e = absurd (let contradiction : false ≡ true = e in cc)

second_or_last : (a b c : Bool) → (b ≡ true) ⊎ (c ≡ true) → (a || b || c) ≡ true
second_or_last true b c e = refl
second_or_last false true c e = refl
second_or_last false false true e = refl
second_or_last false false false (inl e) = e
second_or_last false false false (inr e) = e

-- that of a block of the disk
block_own : (opened : ℕ → TablePlace) (blocks k : ℕ) → k < blocks → is_servers_page opened blocks (page_number (block_address k)) ≡ true
block_own opened blocks k below =
    let p : ℕ = page_number (block_address k) in
    let low : nat_le (page_number DISKMAP) p ≡ true = grind (arith, nat_tests) in
    let high : nat_lt p (page_number DISKMAP + blocks) ≡ true = grind (arith, nat_tests) in
    last_of (p == page_number REQUEST) (p == page_number OPEN_RECORDS) _ _ (λ i. low i && high i)

block_region : (blocks k : ℕ) → k < blocks → blocks ≤ MAXBLOCKS → is_servers_region (page_number (block_address k) / NPTENTRIES) ≡ true
block_region blocks k below few =
    let r : ℕ = page_number (block_address k) / NPTENTRIES in
    let low : nat_le (region_index DISKMAP) r ≡ true = grind (arith, nat_tests) in
    let high : nat_lt r (region_index DISKMAP + MAXBLOCKS / NPTENTRIES) ≡ true = grind (arith, nat_tests) in
    second_or_last (r == region_index REQUEST) (r == region_index FDTABLE) _ (inr (λ i. low i && high i))

-- that of a place of the table of open files
place_own : (opened : ℕ → TablePlace) (blocks k : ℕ) → k < MAXOPEN → (opened k).used ≡ true →
    is_servers_page opened blocks (page_number (place_address k)) ≡ true
place_own opened blocks k below used =
    let p : ℕ = page_number (place_address k) in
    let low : nat_le (page_number FDTABLE) p ≡ true = grind (arith, nat_tests) in
    let high : nat_lt p (page_number FDTABLE + MAXOPEN) ≡ true = grind (arith, nat_tests) in
    let number : p - page_number FDTABLE ≡ k = omega arith in
    let its : (opened (p - page_number FDTABLE)).used ≡ true = ap (λ (j : ℕ). (opened j).used) number ∙ used in
    third_of (p == page_number REQUEST) (p == page_number OPEN_RECORDS) _ _ (λ i. low i && high i && its i)

place_region : (k : ℕ) → k < MAXOPEN → is_servers_region (page_number (place_address k) / NPTENTRIES) ≡ true
place_region k below =
    let r : ℕ = page_number (place_address k) / NPTENTRIES in
    let here : (r == region_index FDTABLE) ≡ true = grind (arith, nat_tests) in
    second_or_last (r == region_index REQUEST) (r == region_index FDTABLE) _ (inl here)

block_begins : (k : ℕ) → k < CACHE_BLOCKS → is_page_address (block_address k) ≡ true
block_begins k below = grind (arith, nat_tests)

place_begins : (k : ℕ) → k < MAXOPEN → is_page_address (place_address k) ≡ true
place_begins k below = grind (arith, nat_tests)

-- ---- an entry that gives a page on

shared_from : (o : Option Entry) (perm : ℕ) (e : Entry) → shared_entry o perm ≡ Some e →
    (x : Entry) × (o ≡ Some x) × (x.frame ≡ e.frame) × (e.perm ≡ perm)
shared_from None perm e none = absurd cc
shared_from (Some x) perm e is = by_tests (not (is_page_perm perm)) (has_write perm && not (has_write x.perm)) is
  where
    by_tests : (t u : Bool) → (if t then None else if u then None else Some (record { frame = x.frame; perm = perm })) ≡ Some e →
        (y : Entry) × (Some x ≡ Some y) × (y.frame ≡ e.frame) × (e.perm ≡ perm)
    by_tests true u none = absurd (let contradiction : ◌≡◌ {A = Option Entry} None (Some e) = none in cc)
    by_tests false true none = absurd (let contradiction : ◌≡◌ {A = Option Entry} None (Some e) = none in cc)
    by_tests false false some =
        let given : Entry = record { frame = x.frame; perm = perm } in
        let same : given ≡ e = same_Some given e some in
        (x, refl, ap (λ (y : Entry). y.frame) same, sym (ap (λ (y : Entry). y.perm) same))

-- where it can't be given on, nothing is done
map_refused : (s : KernelState) (n : ℕ) → is_live_slot (slot_at s n) ≡ true → (from to perm : ℕ) → is_page_address from ≡ true →
    is_page_address to ≡ true → shared_entry (entry_at s n from) perm ≡ None →
    system s n SYS_PAGE_MAP (0 ∷ from ∷ 0 ∷ to ∷ perm ∷ []) ≡ giving s (Answered (negated E_INVAL))
unfolding call_of found
map_refused s n live from to perm from_address to_address is =
    let q : Regs = asking (slot_at s n).registers SYS_PAGE_MAP (0 ∷ from ∷ 0 ∷ to ∷ perm ∷ []) in
    let k : KernelState = with_registers s n q in
    let gives : shared_entry (entry_at k n from) perm ≡ None =
    (λ i. shared_entry (s.spaces.entries (caller_is s n q i).directory (page_number from)) perm) ∙ is in
    system_is s n SYS_PAGE_MAP (0 ∷ from ∷ 0 ∷ to ∷ perm ∷ []) (refused k n Invalid) refl (rw (from_address, to_address, gives) refl)
    ∙ quiet_is s n live q k (negated E_INVAL) refl

-- ---- the bytes of a word, and the one byte

word_page : (va : ℕ) → va % 4 ≡ 0 → (i : ℕ) → i < 4 → page_number (va + i) ≡ page_number va
word_page va aligned i below = omega (arith, aligned, below)

byte_page : (va i : ℕ) → i < 1 → page_number (va + i) ≡ page_number va
byte_page va i below = ap page_number (let same : va + i ≡ va = omega (arith, below) in same)

-- ---- what is left

-- The state behind the call stands for what stood before, and the server's words are what they were.
record Stays (names : Names) (s mid : KernelState) (a : AbstractState) : Type 0 where
  stands : StandsFor names mid a
  words : (slot_at mid 0).extra ≡ (slot_at s 0).extra

-- Behind the words that are set, too: and there are as many of them.
pub record CallLeaves (names : Names) (after : KernelState) (a : AbstractState) : Type 0 where
  pub stands : StandsFor names after a
  pub twelve : length (slot_at after 0).extra ≡ 12

module _ {names : Names} {s : KernelState} {a : AbstractState} (h : StandsFor names s a) where
  abbrev dir : ℕ
  dir = (slot_at s 0).directory

  live : is_live_slot (slot_at s 0) ≡ true
  live = (first_slot h).lives

  -- its space is another
  space_stands : (sp : SpacesState) → OthersKept s.spaces sp dir → OwnKept s.spaces sp dir a.opened a.files.blocks (logical s.spaces s.environments.slots) →
      IsInOrder (with_spaces s sp) → StandsFor names (with_spaces s sp) a
  space_stands sp others own order = server_space h sp others own (servers_counts h sp others own order.frames) order

  unchanged : (mid : KernelState) → mid ≡ s → Stays names s mid a
  unchanged mid same = record {
    stands = subst (λ (z : KernelState). StandsFor names z a) (sym same) h;
    words = ap (λ (z : KernelState). (slot_at z 0).extra) same;
  }

  was_refused : (mid : KernelState) → mid ≡ with_refusal s → Stays names s mid a
  was_refused mid same = record {
    stands = subst (λ (z : KernelState). StandsFor names z a) (sym same) (refusal_stands h);
    words = ap (λ (z : KernelState). (slot_at z 0).extra) same;
  }

  -- its space changed
  changed : (mid : KernelState) (sp : SpacesState) → mid ≡ with_spaces s sp → IsInOrder mid →
      (IsInOrder (with_spaces s sp) → StandsFor names (with_spaces s sp) a) → Stays names s mid a
  changed mid sp same in_order so = record {
    stands = subst (λ (z : KernelState). StandsFor names z a) (sym same) (so (subst IsInOrder same in_order));
    words = ap (λ (z : KernelState). (slot_at z 0).extra) same;
  }

  -- what no client has no other space has
  private_spaces : (f : ℕ) → IsPrivate (logical s.spaces s.environments.slots) f → (q r : ℕ) (x : Entry) → q ≢ dir → rows_of s.spaces q r ≡ Some x →
      x.frame ≢ f
  private_spaces f private q r x ne stands same =
      let c = entry_counts h q r x ne stands in private c.slot c.page c.entry c.counts (c.frame ∙ same)

  -- ---- accesses

  was_read : (mid : KernelState) (va : ℕ) (access : Access) → mid ≡ with_spaces s (touched s.spaces dir va access) → IsInOrder mid →
      Stays names s mid a
  was_read mid va access same in_order =
      changed mid (touched s.spaces dir va access) same in_order (quiet_stands h (touched_quiet s.spaces dir va access))

  -- Bytes are put in pages that no client has.
  was_written : (mid : KernelState) (va : ℕ) (bytes : List ℕ) → ((i : ℕ) → i < length bytes → IsPrivateAt s (page_number (va + i))) →
      mid ≡ with_bytes_put (with_spaces s (touched s.spaces dir va Write)) 0 va bytes → IsInOrder mid → Stays names s mid a
  unfolding rows_of
  was_written mid va bytes private same in_order =
      changed mid sp (same ∙ put_is (with_spaces s t) 0 va bytes) in_order (space_stands sp others
      (same_own h.server (λ i. rows_are i dir) (λ r. regions_are dir r)))
    where
      t : SpacesState
      t = touched s.spaces dir va Write

      sp : SpacesState
      sp = spaces_put t dir va bytes

      tables : SameTables t sp
      tables = put_tables t dir va bytes

      quiet : Quiet s.spaces t
      quiet = touched_quiet s.spaces dir va Write

      rows_are : rows_of sp ≡ rows_of s.spaces
      rows_are = (λ i q p. option_map lasting (tables.entries i q p)) ∙ quiet.rows

      regions_are : (q r : ℕ) → is_some (sp.regions q r) ≡ is_some (s.spaces.regions q r)
      regions_are q r = (λ i. is_some (tables.regions i q r)) ∙ quiet.regions q r

      -- what another space has
      elsewhere : (q r : ℕ) (x : Entry) → q ≢ dir → rows_of s.spaces q r ≡ Some x → LeadsElsewhere t dir va (length bytes) x.frame
      elsewhere q r x ne stands i below e is same =
          private_spaces e.frame
          (private i below (lasting e)
          ((λ j. sym quiet.rows j dir (page_number (va + i))) ∙ ap (λ (o : Option Entry). option_map lasting o) is))
          q r x ne stands (sym same)

      others : OthersKept s.spaces sp dir
      others = record {
        rows = λ q ne. λ i. rows_are i q;
        bytes = λ q r x ne stands.
            put_beside t dir va bytes x.frame (elsewhere q r x ne stands) ∙ ap (λ (pages : ℕ → List ℕ). pages x.frame) quiet.pages;
        regions = λ q r ne. regions_are q r;
      }

  -- all of them go to one page
  in_page : (va count : ℕ) → ((i : ℕ) → i < count → page_number (va + i) ≡ page_number va) → IsPrivateAt s (page_number va) →
      (i : ℕ) → i < count → IsPrivateAt s (page_number (va + i))
  in_page va count same private i below = subst (λ (q : ℕ). IsPrivateAt s q) (sym (same i below)) private

  -- ---- pages

  module _ (mid : KernelState) (called : Called) (output : Output) (in_order : IsInOrder mid) where
    -- a new page
    takes : (va perm : ℕ) → is_page_address va ≡ true → is_page_perm perm ≡ true →
        is_servers_page a.opened a.files.blocks (page_number va) ≡ true → is_servers_region (page_number va / NPTENTRIES) ≡ true →
        (IsPlacePage (page_number va) → IsPrivateAt s (page_number va)) →
        IsCallStep (system s 0 SYS_PAGE_ALLOC (0 ∷ va ∷ perm ∷ 0 ∷ 0 ∷ [])) (Ok called) mid output → Stays names s mid a
    takes va perm address permitted page region left call = elim (page_made_or_refused s 0 va perm (0 ∷ 0 ∷ []) live address permitted) [
      | inl made ↦ was_made made
      | inr none ↦ was_none none
    ]
      where
        asked : CallStep Called
        asked = system s 0 SYS_PAGE_ALLOC (0 ∷ va ∷ perm ∷ 0 ∷ 0 ∷ [])

        was_none : PageRefused s 0 va perm asked → Stays names s mid a
        was_none none =
            let it = comes_to asked (Answered (negated E_NO_MEM)) called (with_refusal s) mid [] output none.step call in was_refused mid it.1

        was_made : PageMade s 0 va perm asked → Stays names s mid a
        was_made made =
            let it = comes_to asked (Answered 0) called (with_spaces s made.spaces) mid [] output made.step call in
            changed mid made.spaces it.1 in_order (λ order.
            let m = allocated_made s.spaces made.spaces dir (page_number va) perm made.frame h.in_order.frames order.frames permitted made.is in
            space_stands made.spaces (placed_others m.placed (λ q r x is same. absurd (m.new q r x is same)))
            (placed_own h.server (page_number va) (record { frame = m.frame; perm = perm }) m.placed (new m.new)
            (λ place z is. inl (left place z is)) page region) order)

    -- a page of its own at its own place or, where neither is one that a client may have, at another
    maps : (from to perm : ℕ) → AreAlike (page_number from) (page_number to) → is_page_address from ≡ true → is_page_address to ≡ true →
        is_page_perm perm ≡ true →
        is_servers_page a.opened a.files.blocks (page_number to) ≡ true → is_servers_region (page_number to / NPTENTRIES) ≡ true →
        IsCallStep (system s 0 SYS_PAGE_MAP (0 ∷ from ∷ 0 ∷ to ∷ perm ∷ [])) (Ok called) mid output → Stays names s mid a
    unfolding rows_of
    maps from to perm alike from_address to_address permitted page region call = by_entry (shared_entry (entry_at s 0 from) perm) refl
      where
        asked : CallStep Called
        asked = system s 0 SYS_PAGE_MAP (0 ∷ from ∷ 0 ∷ to ∷ perm ∷ [])

        -- a place's page is put onto itself alone
        left : (x e : Entry) → rows_of s.spaces dir (page_number from) ≡ Some x → x.frame ≡ e.frame → AreAlike (page_number from) (page_number to) →
            IsPlacePage (page_number to) → (z : Entry) → rows_of s.spaces dir (page_number to) ≡ Some z →
            IsPrivate (logical s.spaces s.environments.slots) z.frame ⊎ (z.frame ≡ e.frame)
        left x e stands same (inl is) place z there =
            inr (ap (λ (y : Entry). y.frame) (same_Some z x (sym there ∙ ap (rows_of s.spaces dir) (sym is) ∙ stands)) ∙ same)
        left x e stands same (inr plain) place z there = absurd (plain.1.no_place place)

        by_spaces : (e : Entry) → shared_entry (entry_at s 0 from) perm ≡ Some e → (o : Option SpacesState) → inserted_at s 0 to e ≡ o →
            asked ≡ made_step s o → Stays names s mid a
        by_spaces e given None none step =
            let it = comes_to asked (Answered (negated E_NO_MEM)) called (with_refusal s) mid [] output step call in was_refused mid it.1
        by_spaces e given (Some sp) is step =
            let it = comes_to asked (Answered 0) called (with_spaces s sp) mid [] output step call in
            let x = shared_from (entry_at s 0 from) perm e given in
            let bits : is_page_perm e.perm ≡ true = ap (λ (w : ℕ). is_page_perm w) x.3 ∙ permitted in
            changed mid sp it.1 in_order (λ order.
            let m = inserted_given s.spaces sp dir (page_number to) e dir (page_number from) x.0 h.in_order.frames order.frames bits x.1 x.2 is in
            let stands : rows_of s.spaces dir (page_number from) ≡ Some (lasting x.0) = ap (λ (o : Option Entry). option_map lasting o) x.1 in
            space_stands sp (placed_others m.placed (λ q r y there same. ap sp.pages same ∙ m.same ∙ ap s.spaces.pages (sym same)))
            (placed_own h.server (page_number to) e m.placed (had (page_number from) (lasting x.0) stands x.2 alike)
            (left (lasting x.0) e stands x.2 alike) page region) order)

        by_entry : (o : Option Entry) → shared_entry (entry_at s 0 from) perm ≡ o → Stays names s mid a
        by_entry None none =
            let it = comes_to asked (Answered (negated E_INVAL)) called s mid [] output
            (map_refused s 0 live from to perm from_address to_address none) call in
            unchanged mid it.1
        by_entry (Some e) given =
            by_spaces e given (inserted_at s 0 to e) refl (page_map_is s 0 live from to perm from_address to_address e given)

    -- no page
    unmaps : (va : ℕ) → is_page_address va ≡ true → (IsPlacePage (page_number va) → IsPrivateAt s (page_number va)) →
        IsCallStep (system s 0 SYS_PAGE_UNMAP (0 ∷ va ∷ 0 ∷ 0 ∷ 0 ∷ [])) (Ok called) mid output → Stays names s mid a
    unmaps va address left call =
        let sp : SpacesState = unmapped s.spaces dir (page_number va) in
        let it = comes_to (system s 0 SYS_PAGE_UNMAP (0 ∷ va ∷ 0 ∷ 0 ∷ 0 ∷ [])) (Answered 0) called (with_spaces s sp) mid [] output
        (page_unmap_is s 0 live va (0 ∷ 0 ∷ 0 ∷ []) address) call in
        let removed = unmapped_removed s.spaces dir (page_number va) h.in_order.frames in
        changed mid sp it.1 in_order
        (space_stands sp (removed_others removed) (removed_own h.server (page_number va) removed (λ place z is. left place z is)))

  -- ---- the turn is given up

  gave_up : (mid : KernelState) → mid ≡ with_status s 0 Runnable → IsStatusFor (slot_at s 0).status false → Stays names s mid a
  gave_up mid same runs = record {
    stands = subst (λ (z : KernelState). StandsFor names z a) (sym same)
        (server_set h k a.server refl (stopped_settles (slot_at s 0) k refl refl refl refl) so
        (record { status = ready a.server h.server.status; pages = h.server.pages; tables = h.server.tables; alone = h.server.alone }));
    words = ap (λ (z : KernelState). (slot_at z 0).extra) same ∙ ap (λ (z : Slot). z.extra) (upd-at s.environments.slots 0 k);
  }
    where
      k : Slot
      k = record (slot_at s 0) { status = Runnable }

      ready : (server : Server) → IsServerStatus server (slot_at s 0) → IsServerStatus server k
      ready idle is = absurd (subst (λ z. IsStatusFor z false) is.status runs)
      ready leaving is = (tt, is.1)
      ready (looking client request number) is = (tt, is.1)
      ready (busy client request place) is = (tt, is.1)
      ready (acted client answer bytes object) is = (tt, is.1)

      so : StandsForServer k FIRST_ENV_ID
      so = let was = first_slot h in record {
        first = was.first;
        id_is = was.id_is;
        lives = refl;
        parent = was.parent;
        env_type = was.env_type;
        words = was.words;
        stack = was.stack;
      }

  -- it may give it up where it is not yet ready for the next request
  pub leaving_runs : a.server ≡ leaving → IsStatusFor (slot_at s 0).status false
  leaving_runs is = let so = subst (λ (x : Server). IsServerStatus x (slot_at s 0)) is h.server.status in so.0

  -- ---- each call

  system_stays : (number : ℕ) (args : List ℕ) (own : IsServersSystemCall number args) → MayAsk own s a → (mid : KernelState) (called : Called)
      (output : Output) → IsInOrder mid → IsCallStep (system s 0 number args) (Ok called) mid output → Stays names s mid a
  system_stays number args asks_id may mid called output in_order call = unchanged mid (same_state s 0 args live mid called output call)
  system_stays number args yields may mid called output in_order call = gave_up mid (turn_given s 0 args live mid called output call) may
  system_stays number args (takes_block k below) may mid called output in_order call =
      takes mid called output in_order (block_address k) block_perm (block_begins k below) refl (block_own a.opened a.files.blocks k may.0)
      (block_region a.files.blocks k may.0 may.1) (λ place. absurd ((block_plain k below).no_place place)) call
  system_stays number args (maps_block from to from_below to_below) may mid called output in_order call =
      maps mid called output in_order (block_address from) (block_address to) block_perm (inr (block_plain from from_below, block_plain to to_below))
      (block_begins from from_below) (block_begins to to_below) refl
      (block_own a.opened a.files.blocks to may.0) (block_region a.files.blocks to may.0 may.1) call
  system_stays number args (unmaps_block k below) may mid called output in_order call =
      unmaps mid called output in_order (block_address k) (block_begins k below) (λ place. absurd ((block_plain k below).no_place place)) call
  system_stays number args (takes_place k below) may mid called output in_order call =
      takes mid called output in_order (place_address k) place_perm (place_begins k below) refl (place_own a.opened a.files.blocks k below may.0)
      (place_region k below) (λ place. may.1) call
  system_stays number args unmaps_request may mid called output in_order call =
      unmaps mid called output in_order REQUEST refl (λ place. absurd (request_no_place place)) call
  system_stays number args receives may mid called output in_order call = absurd may
  system_stays number args (sends client word) may mid called output in_order call = absurd may
  system_stays number args (sends_place client word k below) may mid called output in_order call = absurd may

  read_stays : (block va : ℕ) → block < CACHE_BLOCKS → va ≡ block_address block → (disk : DiskFile) (files : Option Files) (word : ℕ)
      (mid : KernelState) → IsInOrder mid → IsBlockRead (block_call s 0 disk block va) files (Ok word) mid → Stays names s mid a
  unfolding block_put
  read_stays block va below at disk files word mid in_order made = by_test (may_read_block (block_call s 0 disk block va)) made
    where
      in_block : (count : ℕ) → count ≡ PGSIZE → (i : ℕ) → i < count → page_number (va + i) ≡ page_number va
      in_block count whole i few = omega (arith, at, whole, few)

      private : IsPrivateAt s (page_number va)
      private =
          subst (λ (x : ℕ). IsPrivateAt s (page_number x)) (sym at)
          (plain_private h (page_number (block_address block)) (block_plain block below))

      by_test : (t : Bool) → IsReadBy t (block_call s 0 disk block va) files word mid → Stays names s mid a
      by_test true is = was_written mid va is.1 (in_page va (length is.1) (in_block (length is.1) is.2.page.long) private) is.3 in_order
      by_test false is = unchanged mid is.1

  write_stays : (block va : ℕ) (disk : DiskFile) (word : ℕ) (mid : KernelState) → IsInOrder mid →
      IsBlockWrite (block_call s 0 disk block va) (Ok word) mid → Stays names s mid a
  write_stays block va disk word mid in_order made = by_test (may_write_block (block_call s 0 disk block va)) made
    where
      by_test : (t : Bool) → IsSentBy t (block_call s 0 disk block va) word mid → Stays names s mid a
      by_test true is = was_read mid va Read is.1 in_order
      by_test false is = unchanged mid is.1

  made_stays : (call : UserCall) (own : IsServersCall call) → MayCall call own s a → (mid : KernelState) (disk : DiskFile)
      (files : Around (Option Files)) (output : Output) → IsInOrder mid → IsMade call s 0 disk files mid output → Stays names s mid a
  unfolding load load_byte store store_byte
  made_stays (loads va) own may mid disk files output in_order made =
      was_read mid va Read
      (came (load s 0 va) mid output made.0 ∙ given_state s 0 va Read (λ after. giving after (user_word after 0 va)) may.0 may.1) in_order
  made_stays (loads_byte va) own may mid disk files output in_order made =
      was_read mid va Read
      (came (load_byte s 0 va) mid output made.0 ∙ given_state s 0 va Read (λ after. giving after (user_byte after 0 va)) may.0 may.1) in_order
  made_stays (stores va word) own may mid disk files output in_order made =
      was_written mid va (to_le_bytes w32 word) (in_page va 4 (word_page va own.0) may.1)
      (came (store s 0 va word) mid output made.0 ∙ given_state s 0 va Write (λ after. giving (with_user_word after 0 va word) tt) tt may.0) in_order
  made_stays (stores_byte va byte) own may mid disk files output in_order made =
      was_written mid va (byte ∷ []) (in_page va 1 (byte_page va) may.1)
      (came (store_byte s 0 va byte) mid output made.0
      ∙ given_state s 0 va Write (λ after. giving (with_user_byte after 0 va byte) tt) tt may.0) in_order
  made_stays (calls number args) own may mid disk files output in_order made =
      system_stays number args own may mid made.0 output in_order made.1
  made_stays (reads_block block va) own may mid disk files output in_order made =
      read_stays block va own.0 own.1 disk files.before made.0 mid in_order made.1
  made_stays (writes_block block va) own may mid disk files output in_order made =
      write_stays block va disk made.0 mid in_order made.1

  -- Where the call may be made, its words are twelve, and the state after it is in order.
  pub server_call_stands : (call : UserCall) (own : IsServersCall call) (after : KernelState) (disk : DiskFile) (files : Around (Option Files))
      (output : Output) → MakesCall call s after 0 disk files output → MayCall call own s a → length (slot_at s 0).extra ≡ 12 → IsInOrder after →
      CallLeaves names after a
  server_call_stands call own after disk files output makes may twelve in_order = by_left makes.left
    where
      stays : IsInOrder makes.mid → Stays names s makes.mid a
      stays order = made_stays call own may makes.mid disk files output order makes.made

      by_left : (after ≡ makes.mid) ⊎ SetsWords makes.mid after 0 → CallLeaves names after a
      by_left (inl same) =
          let it = stays (subst IsInOrder same in_order) in
          record {
            stands = subst (λ (z : KernelState). StandsFor names z a) (sym same) it.stands;
            twelve = ap (λ (z : KernelState). length (slot_at z 0).extra) same ∙ ap (λ (l : List ℕ). length l) it.words ∙ twelve;
          }
      by_left (inr sets) =
          let k : Slot = record (slot_at makes.mid 0) { registers = sets.registers; extra = sets.words } in
          let set : after ≡ with_slot_at makes.mid 0 k = sets.set ∙ both_set makes.mid 0 sets.registers sets.words in
          let it = stays (slot_was_in_order makes.mid 0 k refl refl (subst IsInOrder set in_order)) in
          let before : length (slot_at makes.mid 0).extra ≡ 12 = ap (λ (l : List ℕ). length l) it.words ∙ twelve in
          record {
            stands = words_stand it.stands after sets before;
            twelve = ap (λ (z : KernelState). length (slot_at z 0).extra) set
                ∙ ap (λ (x : Slot). length x.extra) (upd-at makes.mid.environments.slots 0 k) ∙ sets.long before;
          }
