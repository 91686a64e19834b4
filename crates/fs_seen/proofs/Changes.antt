-- What stays of the server's tree and table where a space changes: the cache where nothing of it does, the page of the request and those of the
-- table by what is there then.
use Rattle.std.proofs.Common.{◌≡◌, ◌≢◌, ◌∙◌, ◌⊎◌, ◌<◌, ◌≤◌, ◌+◌, ◌==◌, ◌&&◌, ◌||◌, inl, inr, ℕ, Bool, true, false, Option, Some, None}
use Rattle.std.proofs.Common.{refl, sym, arith}
use Rattle.std.proofs.lemmas.Bool.{cases_lt}
use Rattle.std.proofs.lemmas.Bool.Decides.{nat_tests}
use Rattle.std.specs.Prelude.{nat_le, nat_lt}
use Rattle.jos_base.specs.declared.numbers.TheConstants.{FDTABLE}
use Rattle.jos_base.specs.Counting.{page_limit}
use Rattle.jos_base.specs.KernelState.{KernelState, slot_at, with_spaces}
use Rattle.jos_base.specs.Reach.{Entry}
use Rattle.jos_base.specs.SpacesState.{SpacesState}
use Rattle.jos_base.specs.Words.{page_number}
use Rattle.lib_os.specs.declared.numbers.TheConstants.{CACHE_BLOCKS, DISKMAP, MAXOPEN, REQUEST}
use Rattle.lib_os.specs.BlockCache.{block_row, own_addresses}
use Rattle.lib_os.specs.Disk.{Disk}
use Rattle.lib_os.specs.InOrder.{IsInOrder}
use Rattle.fs_cache.specs.CacheStands.{CacheAt, cache_view, cached_in}
use Rattle.fs_cache.specs.CacheSteps.{cache_state}
use Rattle.fs_cache.proofs.Loads.{number_of, row_below, row_past}
use Rattle.fs_cache.proofs.Views.{ViewKept}
use Rattle.fs_tree.specs.TreeSteps.{disk_bytes, memory_in}
use Rattle.fs_tree.proofs.TiesBlocks.{request_number}
use Rattle.fs_seen.specs.ServerMemory.{HasFileTable, StandsOver, is_table_page, place_page, records_page}
use Rattle.lib_os.specs.MadeCalls.{is_page_from, is_server_page}
use Rattle.fs_seen.proofs.CacheKept.{cached_kept, stands_kept}
use Rattle.fs_seen.proofs.Over.{RequestAlike, bytes_alike, request_alike}

-- ---- the numbers of the pages

-- one of the table lies at the records, or from the first place on
pub table_range : (p : ℕ) → is_table_page p ≡ true → (p ≡ 65534) ⊎ ((851968 ≤ p) × (p < 852992))
table_range p is = by_test (p == records_page) refl is
  where
    by_place : (low high : Bool) → nat_le 851968 p ≡ low → nat_lt p 852992 ≡ high → (low && high) ≡ true → (851968 ≤ p) × (p < 852992)
    by_place true true low high is = (grind (arith, nat_tests), grind (arith, nat_tests))
    by_place true false low high is = absurd (let contradiction : false ≡ true = is in cc)
    by_place false high low high_is is = absurd (let contradiction : false ≡ true = is in cc)

    by_test : (t : Bool) → (p == records_page) ≡ t → (t || (nat_le 851968 p && nat_lt p 852992)) ≡ true → (p ≡ 65534) ⊎ ((851968 ≤ p) × (p < 852992))
    by_test true here is = inl (grind (arith, nat_tests))
    by_test false other is = inr (by_place (nat_le 851968 p) (nat_lt p 852992) refl refl is)

pub table_below : (p : ℕ) → is_table_page p ≡ true → p < page_limit
unfolding page_limit
table_below p is = elim (table_range p is) [
  | inl here ↦ omega (arith, here)
  | inr there ↦ let low = there.0 in let high = there.1 in omega
      (arith, low, high)
]

pub table_no_request : (p : ℕ) → is_table_page p ≡ true → p ≢ request_number
table_no_request p is same = elim (table_range p is) [
  | inl here ↦ absurd (omega (arith, here, same))
  | inr there ↦ let low = there.0 in absurd (omega (arith, low, same))
]

pub table_no_block : (p b : ℕ) → is_table_page p ≡ true → b < CACHE_BLOCKS → p ≢ number_of b
table_no_block p b is below same = elim (table_range p is) [
  | inl here ↦ absurd (omega (arith, here, same))
  | inr there ↦ let low = there.0 in absurd (omega (arith, low, below, same))
]

pub records_table : is_table_page records_page ≡ true
records_table = refl

pub place_number : (k : ℕ) → k < MAXOPEN → place_page k ≡ 851968 + k
place_number k below = omega (arith, below)

or_right : (a b : Bool) → b ≡ true → (a || b) ≡ true
or_right true b is = refl
or_right false b is = is

or_left : (a b : Bool) → a ≡ true → (a || b) ≡ true
or_left true b is = refl
or_left false b is = absurd (let contradiction : false ≡ true = is in cc)

both_true : (a b : Bool) → a ≡ true → b ≡ true → (a && b) ≡ true
both_true true true one two = refl
both_true true false one two = two
both_true false b one two = one

pub place_table : (k : ℕ) → k < MAXOPEN → is_table_page (place_page k) ≡ true
place_table k below =
    let number = place_number k below in
    or_right (place_page k == records_page) (nat_le (page_number FDTABLE) (place_page k) && nat_lt (place_page k) (page_number FDTABLE + MAXOPEN))
    (both_true (nat_le (page_number FDTABLE) (place_page k)) (nat_lt (place_page k) (page_number FDTABLE + MAXOPEN))
    (grind (arith, nat_tests, number)) (grind (arith, nat_tests, number, below)))

-- one of four
middle_so : (a b c d : Bool) → b || c ≡ true → a || b || c || d ≡ true
middle_so true b c d is = refl
middle_so false true c d is = refl
middle_so false false true d is = refl
middle_so false false false d is = absurd (let contradiction : false ≡ true = is in cc)

last_so : (a b c d : Bool) → d ≡ true → a || b || c || d ≡ true
last_so true b c d is = refl
last_so false true c d is = refl
last_so false false true d is = refl
last_so false false false d is = is

pub table_server : (p : ℕ) → is_table_page p ≡ true → is_server_page p ≡ true
unfolding is_server_page
table_server p is =
    middle_so (p == page_number REQUEST) (p == records_page) (is_page_from (page_number FDTABLE) MAXOPEN p)
    (is_page_from (page_number DISKMAP) CACHE_BLOCKS p) is

pub request_server : is_server_page request_number ≡ true
unfolding is_server_page
request_server = refl

pub block_server : (b : ℕ) → b < CACHE_BLOCKS → is_server_page (number_of b) ≡ true
unfolding is_server_page
block_server b below =
    let low : 65536 ≤ number_of b = omega arith in
    let high : number_of b < 131072 = omega (arith, below) in
    last_so (number_of b == page_number REQUEST) (number_of b == records_page) (is_page_from (page_number FDTABLE) MAXOPEN (number_of b))
    (is_page_from (page_number DISKMAP) CACHE_BLOCKS (number_of b))
    (both_true (nat_le (page_number DISKMAP) (number_of b)) (nat_lt (number_of b) (page_number DISKMAP + CACHE_BLOCKS)) (grind (arith, nat_tests, low))
    (grind (arith, nat_tests, high)))

-- ---- the blocks

-- the entry of a block's page
pub block_entry : (s : SpacesState) (d m : ℕ) (x : Entry) → block_row s d own_addresses m ≡ Some x →
    (m < CACHE_BLOCKS) × (s.entries d (number_of m) ≡ Some x)
block_entry s d m x is = elim (cases_lt m CACHE_BLOCKS) [
  | inl below ↦ (below, sym (row_below s d m below) ∙ is)
  | inr past ↦
      let beyond : CACHE_BLOCKS ≤ m = grind (arith, past) in
      absurd (let contradiction : ◌≡◌ {A = Option Entry} None (Some x) = sym (row_past s d m beyond) ∙ is in cc)
]

-- the blocks' entries are the same where their pages' are
pub rows_kept : (s t : SpacesState) (d : ℕ) → ((m : ℕ) → m < CACHE_BLOCKS → t.entries d (number_of m) ≡ s.entries d (number_of m)) → (m : ℕ) →
    block_row t d own_addresses m ≡ block_row s d own_addresses m
rows_kept s t d same m = elim (cases_lt m CACHE_BLOCKS) [
  | inl below ↦ row_below t d m below ∙ same m below ∙ sym (row_below s d m below)
  | inr past ↦ let beyond : CACHE_BLOCKS ≤ m = grind (arith, past) in row_past t d m beyond ∙ sym (row_past s d m beyond)
]

-- ---- a state with other spaces

module _ (d : Disk) (s : KernelState) (n : ℕ) (h : StandsOver d s n) (t : SpacesState) (in_order : IsInOrder (with_spaces s t))
    (kept : ViewKept (cache_view s.spaces (slot_at s n).directory) (cache_view t (slot_at s n).directory)) where
  abbrev dir : ℕ
  dir = (slot_at s n).directory

  abbrev now : KernelState
  now = with_spaces s t

  cache_at : CacheAt d now n
  cache_at = record {
    in_order = in_order;
    live = h.cache.live;
    server = h.cache.server;
    words = h.cache.words;
    stands = stands_kept d (cache_view s.spaces dir) (cache_view t dir) kept (cache_state s n).place (cache_state s n).hand h.cache.stands;
  }

  cached_is : cached_in now n ≡ cached_in s n
  cached_is = cached_kept d (cache_view s.spaces dir) (cache_view t dir) kept (cache_state s n).place

  -- the page of the request stays
  module _ (alike : RequestAlike s now n) where
    pub over_kept : HasFileTable now n → StandsOver d now n
    over_kept table = record {
      cache = cache_at;
      count = h.count;
      bytes = h.bytes;
      request = request_alike s now n kept.row h.request alike;
      table = table;
    }

    pub memory_kept : memory_in d now n ≡ memory_in d s n
    memory_kept = λ i. record { disk = disk_bytes d (cached_is i); page = bytes_alike s now n (λ x is. (h.request x is).bits) alike i }
