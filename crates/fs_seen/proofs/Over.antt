-- What stands over a disk: with a page of a request it is what a job stands on, and all that is seen of it are bytes. Where the page of a request
-- stays, or there is none, the same is seen there.
use Rattle.std.proofs.Common.{◌≡◌, ◌∙◌, ◌+◌, ◌/◌, ◌%◌, ◌<◌, ℕ, Bool, true, false, List, Option, Some, None, Result, Ok, Err}
use Rattle.std.proofs.Common.{refl, sym, ap, subst, arith, unwrap_or, if◌then◌else◌}
use Rattle.std.proofs.lemmas.Bool.Decides.{nat_tests}
use Rattle.std.proofs.lemmas.Option.{none-some, same_Some}
use Rattle.std.specs.Prelude.{is_some, nat_lt, slice_index}
use Rattle.jos_base.specs.declared.memory.Access.TheVariants.{Read}
use Rattle.jos_base.specs.declared.memory.PageFault.{PageFault}
use Rattle.jos_base.specs.declared.numbers.TheConstants.{PGSIZE}
use Rattle.jos_base.specs.Counting.{page_limit}
use Rattle.jos_base.specs.Environments.{records_of}
use Rattle.jos_base.specs.KernelState.{KernelState, slot_at}
use Rattle.jos_base.specs.Reach.{Entry, FrameOffset, allows, reach_entry}
use Rattle.jos_base.specs.UserMemory.{byte_at, byte_or_zero, reach_in}
use Rattle.jos_base.specs.Windows.{walked}
use Rattle.jos_base.specs.Words.{page_number, page_offset}
use Rattle.jos_base.proofs.Options.{some_is}
use Rattle.jos_base.proofs.Walks.{walked_below}
use Rattle.fs_layout.specs.declared.numbers.TheConstants.{BLKSIZE}
use Rattle.lib_os.specs.declared.numbers.TheConstants.{REQUEST}
use Rattle.lib_os.specs.BlockCache.{block_value}
use Rattle.lib_os.specs.Disk.{Disk}
use Rattle.lib_os.specs.Rows.{AreBytes, IsPage}
use Rattle.lib_os.specs.UserCalls.{user_byte}
use Rattle.fs_cache.specs.CacheStands.{IsBlockEntry, cached_in}
use Rattle.fs_cache.specs.CacheSteps.{row_in}
use Rattle.fs_runs.specs.TreeRuns.{AreSmall}
use Rattle.fs_tree.specs.TreeSteps.{HasRequest, TreeAt, memory_in, request_bytes}
use Rattle.fs_tree.proofs.TiesBlocks.{request_holds, request_low, request_number}
use Rattle.fs_seen.specs.ServerMemory.{AreDiskBytes, HasFileTable, HasWholeRequest, IsRequestPage, StandsOver, entry_of, has_request, request_page}
use Rattle.fs_seen.specs.ServerSees.{AllStands}

-- ---- with the page of a request

pub request_of : (d : Disk) (s : KernelState) (n : ℕ) → AllStands d s n → (e : Entry) → entry_of s n request_number ≡ Some e → HasRequest s n
request_of d s n h e is =
    let page = h.stands.request e is in
    record { entry = e; stands = is; bits = page.bits; whole = h.request e is; apart = page.apart }

pub tree_of : (d : Disk) (s : KernelState) (n : ℕ) → AllStands d s n → has_request s n ≡ true → TreeAt d s n
tree_of d s n h there =
    let found = some_is (entry_of s n request_number) there in
    record { cache = h.stands.cache; request = request_of d s n h found.0 found.1; count = h.stands.count }

-- it has the bytes of one where its frame has, or where there is none
pub whole_where : (s : KernelState) (n : ℕ) (e : Entry) → entry_of s n request_page ≡ Some e → IsPage (s.spaces.pages e.frame) → HasWholeRequest s n
whole_where s n e at whole x is = subst (λ (y : Entry). IsPage (s.spaces.pages y.frame)) (same_Some e x (sym at ∙ is)) whole

pub whole_none : (s : KernelState) (n : ℕ) → has_request s n ≡ false → HasWholeRequest s n
whole_none s n none e is =
    absurd (let contradiction : true ≡ false = sym (ap (λ (o : Option Entry). is_some o) is) ∙ none in cc)

pub over_of : (d : Disk) (s : KernelState) (n : ℕ) → TreeAt d s n → AreDiskBytes d → HasFileTable s n → StandsOver d s n
over_of d s n h bytes table = record {
  cache = h.cache;
  count = h.count;
  bytes = bytes;
  request = λ e is.
      subst (λ (x : Entry). IsRequestPage s n x) (same_Some h.request.entry e (sym h.request.stands ∙ is))
      (record { bits = h.request.bits; apart = h.request.apart });
  table = table;
}

pub tree_requested : (d : Disk) (s : KernelState) (n : ℕ) → TreeAt d s n → has_request s n ≡ true
tree_requested d s n h = ap (λ (o : Option Entry). is_some o) h.request.stands

-- ---- a page that stays

-- The page of a request has the frame that it had, which has the bytes that it had; or there is none, and was none.
pub data RequestAlike (s mid : KernelState) (n : ℕ) : Type 0 where
  page_there : (x e : Entry) → entry_of s n request_number ≡ Some x → entry_of mid n request_number ≡ Some e → (IsBlockEntry x → IsBlockEntry e) →
      e.frame ≡ x.frame → mid.spaces.pages e.frame ≡ s.spaces.pages x.frame → RequestAlike s mid n
  no_page : entry_of s n request_number ≡ None → entry_of mid n request_number ≡ None → RequestAlike s mid n

-- where its entry stays, and its bytes
pub same_entry : (s mid : KernelState) (n : ℕ) → entry_of mid n request_number ≡ entry_of s n request_number →
    ((x : Entry) → entry_of s n request_number ≡ Some x → mid.spaces.pages x.frame ≡ s.spaces.pages x.frame) → RequestAlike s mid n
same_entry s mid n same bytes = by_entry (entry_of s n request_number) refl
  where
    by_entry : (o : Option Entry) → entry_of s n request_number ≡ o → RequestAlike s mid n
    by_entry None at = no_page at (same ∙ at)
    by_entry (Some x) at = page_there x x at (same ∙ at) (λ is. is) refl (bytes x at)

pub has_alike : (s mid : KernelState) (n : ℕ) → RequestAlike s mid n → has_request mid n ≡ has_request s n
has_alike s mid n (page_there x e was now bits frame bytes) =
    ap (λ (o : Option Entry). is_some o) now ∙ sym (ap (λ (o : Option Entry). is_some o) was)
has_alike s mid n (no_page was now) = ap (λ (o : Option Entry). is_some o) now ∙ sym (ap (λ (o : Option Entry). is_some o) was)

pub request_alike : (s mid : KernelState) (n : ℕ) → ((b : ℕ) → row_in mid n b ≡ row_in s n b) →
    ((x : Entry) → entry_of s n request_number ≡ Some x → IsRequestPage s n x) → RequestAlike s mid n →
    (e : Entry) → entry_of mid n request_number ≡ Some e → IsRequestPage mid n e
request_alike s mid n rows h (page_there x e was now bits frame bytes) y is =
    let old = h x was in
    subst (λ (z : Entry). IsRequestPage mid n z) (same_Some e y (sym now ∙ is))
    (record {
      bits = bits old.bits;
      apart = λ b z z_is frames. old.apart b z (sym (rows b) ∙ z_is) (frames ∙ frame);
    })
request_alike s mid n rows h (no_page was now) y is = absurd (none-some y (sym now ∙ is))

-- ---- bytes

-- of a page that is not there nothing is read
no_byte : (s : KernelState) (n q : ℕ) → entry_of s n request_number ≡ None → q < PGSIZE → user_byte s n (REQUEST + q) ≡ 0
unfolding byte_at
no_byte s n q none below = ap (byte_or_zero (records_of s.environments) s.spaces (slot_at s n).directory (REQUEST + q)) reached
  where
    at : page_number (REQUEST + q) ≡ request_number
    at = omega (arith, below)

    walked_at : ℕ → Option Entry
    walked_at p = walked s.spaces (slot_at s n).directory p

    reached : reach_in s.spaces (slot_at s n).directory (REQUEST + q) Read ≡ reach_entry None (REQUEST + q) Read
    reached =
        ap (λ (p : ℕ). reach_entry (walked_at p) (REQUEST + q) Read) at
        ∙ ap (λ (o : Option Entry). reach_entry o (REQUEST + q) Read) (walked_below s.spaces (slot_at s n).directory request_number request_low ∙ none)

pub bytes_alike : (s mid : KernelState) (n : ℕ) → ((x : Entry) → entry_of s n request_number ≡ Some x → IsBlockEntry x) → RequestAlike s mid n →
    request_bytes mid n ≡ request_bytes s n
bytes_alike s mid n block alike = λ i q. by_place q (nat_lt q PGSIZE) refl alike i
  where
    by_place : (q : ℕ) (t : Bool) → nat_lt q PGSIZE ≡ t → RequestAlike s mid n →
        (if t then user_byte mid n (REQUEST + q) else 0) ≡ (if t then user_byte s n (REQUEST + q) else 0)
    by_place q false off a = refl
    by_place q true on (page_there x e was now bits frame bytes) =
        let below : q < PGSIZE = grind (arith, nat_tests) in
        request_holds mid n e now (bits (block x was)) q below
        ∙ ap (λ (page : List ℕ). slice_index page q) bytes
        ∙ sym (request_holds s n x was (block x was) q below)
    by_place q true on (no_page was now) =
        let below : q < PGSIZE = grind (arith, nat_tests) in no_byte mid n q now below ∙ sym (no_byte s n q was below)

no_location : (fault : PageFault) (location : FrameOffset) → ◌≡◌ {A = Result FrameOffset PageFault} (Err fault) (Ok location) → ⊥
no_location fault location is = let contradiction : ◌≡◌ {A = Result FrameOffset PageFault} (Err fault) (Ok location) = is in cc

-- what is read of a page is a byte, where that has bytes
pub byte_small : (s : KernelState) (n va : ℕ) → page_number va < page_limit →
    ((e : Entry) → entry_of s n (page_number va) ≡ Some e → AreBytes (s.spaces.pages e.frame)) → user_byte s n va < 256
unfolding byte_at
byte_small s n va low small = by_reach (reach_in s.spaces (slot_at s n).directory va Read) (λ location is. by_entry (entry_of s n (page_number va)) refl location (sym walks ∙ is))
  where
    walks : reach_in s.spaces (slot_at s n).directory va Read ≡ reach_entry (entry_of s n (page_number va)) va Read
    walks = ap (λ (o : Option Entry). reach_entry o va Read) (walked_below s.spaces (slot_at s n).directory (page_number va) low)

    by_reach : (r : Result FrameOffset PageFault) → ((location : FrameOffset) → r ≡ Ok location → AreBytes (s.spaces.pages location.frame)) →
        byte_or_zero (records_of s.environments) s.spaces (slot_at s n).directory va r < 256
    by_reach (Err fault) bytes = omega arith
    by_reach (Ok location) bytes =
        let inside : nat_lt (page_number va) page_limit ≡ true = grind (arith, nat_tests) in
        let byte = bytes location refl location.offset in rw inside byte

    by_test : (e : Entry) → AreBytes (s.spaces.pages e.frame) → (fault : PageFault) (location : FrameOffset) (t : Bool) →
        (if t then Ok (record { frame = e.frame; offset = page_offset va }) else Err fault) ≡ Ok location →
        AreBytes (s.spaces.pages location.frame)
    by_test e bytes fault location false is = absurd (no_location fault location is)
    by_test e bytes fault location true is =
        let reached : FrameOffset = record { frame = e.frame; offset = page_offset va } in
        let both : ◌≡◌ {A = Result FrameOffset PageFault} (Ok reached) (Ok location) = is in
        let same : reached ≡ location = cc in
        subst (λ (f : ℕ). AreBytes (s.spaces.pages f)) (ap (λ (l : FrameOffset). l.frame) same) bytes

    by_entry : (o : Option Entry) → entry_of s n (page_number va) ≡ o → (location : FrameOffset) → reach_entry o va Read ≡ Ok location →
        AreBytes (s.spaces.pages location.frame)
    by_entry None at location is = absurd (no_location _ location is)
    by_entry (Some e) at location is = by_test e (small e at) _ location (allows e.perm Read) is

module _ (d : Disk) (s : KernelState) (n : ℕ) (h : AllStands d s n) where
  value_small : (m k : ℕ) → slice_index (block_value d (cached_in s n) m) k < 256
  value_small m k = by_page ((cached_in s n).page m) refl
    where
      by_page : (o : Option (List ℕ)) → (cached_in s n).page m ≡ o → slice_index (unwrap_or o (d.block m)) k < 256
      by_page None at = h.stands.bytes m k
      by_page (Some page) at = (h.stands.cache.stands.cache.whole m page at).small k

  disk_small : (at : ℕ) → (memory_in d s n).disk at < 256
  disk_small at = by_test (nat_lt (at / BLKSIZE) d.count)
    where
      by_test : (t : Bool) → (if t then slice_index (block_value d (cached_in s n) (at / BLKSIZE)) (at % BLKSIZE) else 0) < 256
      by_test false = omega arith
      by_test true = value_small (at / BLKSIZE) (at % BLKSIZE)

  page_small : (at : ℕ) → (memory_in d s n).page at < 256
  page_small at = by_test (nat_lt at PGSIZE) refl
    where
      by_test : (t : Bool) → nat_lt at PGSIZE ≡ t → (if t then user_byte s n (REQUEST + at) else 0) < 256
      by_test false off = omega arith
      by_test true on =
          let below : at < PGSIZE = grind (arith, nat_tests) in
          let number : page_number (REQUEST + at) ≡ request_number = omega (arith, below) in
          byte_small s n (REQUEST + at) (subst (λ (p : ℕ). p < page_limit) (sym number) request_low)
          (λ e is. (h.request e (sym (ap (entry_of s n) number) ∙ is)).small)

  -- all that is seen of the disk and of the request are bytes
  pub all_small : AreSmall (memory_in d s n)
  all_small = (disk_small, page_small)
