-- Where the pages of the server's, but that of the request, are as they were, the cache and the table stand as they stood, and are seen so.
use Rattle.std.proofs.Common.{◌≡◌, ◌≢◌, ◌∙◌, ◌*◌, ◌+◌, ◌<◌, inl, inr, ℕ, Bool, true, false, List, Option, Some, None, length, refl, sym, ap}
use Rattle.std.proofs.Common.{subst, arith, if◌then◌else◌}
use Rattle.std.proofs.lemmas.Bool.{cases_eq}
use Rattle.std.proofs.lemmas.Bool.Decides.{nat_tests}
use Rattle.std.specs.Prelude.{is_some, nat_lt, slice_index}
use Rattle.jos_base.specs.declared.environment.EnvType.{EnvType}
use Rattle.jos_base.specs.Environments.{is_live}
use Rattle.jos_base.specs.KernelState.{KernelState, slot_at}
use Rattle.jos_base.specs.Reach.{Entry}
use Rattle.jos_base.specs.SpacesState.{reference_count}
use Rattle.lib_os.specs.declared.numbers.TheConstants.{CACHE_BLOCKS, DISKMAP, MAXOPEN, REQUEST}
use Rattle.lib_os.specs.Disk.{Disk}
use Rattle.lib_os.specs.InOrder.{IsInOrder}
use Rattle.lib_os.specs.LibraryPages.{region_index}
use Rattle.lib_os.specs.MadeCalls.{is_server_page}
use Rattle.lib_os.specs.Rows.{IsPage}
use Rattle.lib_os.specs.UserCalls.{is_file_server}
use Rattle.fs_blocks.specs.declared.place.CacheState.{CacheState}
use Rattle.fs_blocks.specs.CachePlaces.{state_in as cache_at_words}
use Rattle.fs_cache.specs.CacheStands.{CacheAt, CacheStands, cache_view, cached_at, cached_in}
use Rattle.fs_cache.proofs.Loads.{number_of}
use Rattle.fs_cache.proofs.Views.{ViewKept}
use Rattle.fs_tree.specs.TreeSteps.{disk_bytes, memory_in}
use Rattle.fs_serving.specs.ServerViews.{word_of}
use Rattle.fs_seen.specs.ServerMemory.{HasFileTable, IsRequestPage, StandsOver, bytes_by, entry_of, frame_by, is_table_page, place_entry}
use Rattle.fs_seen.specs.ServerMemory.{place_page, records_page, request_page}
use Rattle.fs_seen.specs.ServerWhole.{SameTable}
use Rattle.fs_seen.proofs.Alike.{place_alike}
use Rattle.fs_seen.proofs.CacheKept.{cached_kept, stands_kept}
use Rattle.fs_seen.proofs.Changes.{block_entry, block_server, place_table, records_table, rows_kept, table_no_request, table_server}

-- The server's slot has the same space and the same words of its cache, and its pages but that of the request are as they were.
pub record Stays (s mid : KernelState) (n : ℕ) : Type 0 where
  pub in_order : IsInOrder mid
  pub lives : is_live (slot_at mid n) ≡ true
  pub env_type : (slot_at mid n).env_type ≡ (slot_at s n).env_type
  pub directory : (slot_at mid n).directory ≡ (slot_at s n).directory
  pub long : length (slot_at mid n).extra ≡ 12
  pub cache : cache_at_words (slot_at mid n).extra ≡ cache_at_words (slot_at s n).extra
  pub entries : (p : ℕ) → is_server_page p ≡ true → p ≢ request_page → entry_of mid n p ≡ entry_of s n p
  pub tables : (r : ℕ) → r ≢ region_index REQUEST →
      is_some (mid.spaces.regions (slot_at s n).directory r) ≡ is_some (s.spaces.regions (slot_at s n).directory r)
  pub bytes : (p : ℕ) (e : Entry) → is_table_page p ≡ true → entry_of s n p ≡ Some e → mid.spaces.pages e.frame ≡ s.spaces.pages e.frame
  pub blocks : (b : ℕ) (e : Entry) → b < CACHE_BLOCKS → entry_of s n (number_of b) ≡ Some e → mid.spaces.pages e.frame ≡ s.spaces.pages e.frame
  pub page : (e : Entry) → entry_of mid n request_page ≡ Some e → IsRequestPage mid n e
  pub apart : (p : ℕ) (x e : Entry) → is_table_page p ≡ true → entry_of s n p ≡ Some x → entry_of mid n request_page ≡ Some e → x.frame ≢ e.frame

pub block_no_request : (b : ℕ) → number_of b ≢ request_page
block_no_request b same = absurd (omega (arith, same))

disk_no_request : (r : ℕ) → region_index DISKMAP + r ≢ region_index REQUEST
disk_no_request r same = absurd (omega (arith, same))

module _ (s mid : KernelState) (n : ℕ) (k : Stays s mid n) where
  abbrev dir : ℕ
  dir = (slot_at s n).directory

  entry_same : (p : ℕ) → is_table_page p ≡ true → entry_of mid n p ≡ entry_of s n p
  entry_same p is = k.entries p (table_server p is) (table_no_request p is)

  -- ---- the cache

  entry_is : (p : ℕ) → mid.spaces.entries dir p ≡ entry_of mid n p
  entry_is p = ap (λ (q : ℕ). mid.spaces.entries q p) (sym k.directory)

  cache_same : ViewKept (cache_view s.spaces dir) (cache_view mid.spaces dir)
  cache_same = record {
    row = rows_kept s.spaces mid.spaces dir
        (λ m below. entry_is (number_of m) ∙ k.entries (number_of m) (block_server m below) (block_no_request m));
    bytes = λ m x there.
        let at = block_entry s.spaces dir m x there in
        k.blocks m x at.0 at.1;
    tables = λ r there. k.tables (region_index DISKMAP + r) (disk_no_request r) ∙ there;
  }

  pub cached_same : cached_in mid n ≡ cached_in s n
  cached_same =
      (λ i. cached_at (cache_view mid.spaces (k.directory i)) (k.cache i).place)
      ∙ cached_kept no_matter (cache_view s.spaces dir) (cache_view mid.spaces dir) cache_same (cache_at_words (slot_at s n).extra).place
    where
      no_matter : Disk
      no_matter = record { count = 0; block = λ m. (slot_at s n).extra }

  pub disk_same : (d : Disk) → (memory_in d mid n).disk ≡ (memory_in d s n).disk
  disk_same d = λ i. disk_bytes d (cached_same i)

  cache_there : (d : Disk) → CacheAt d s n → CacheAt d mid n
  cache_there d h = record {
    in_order = k.in_order;
    live = k.lives;
    server = ap (λ (t : EnvType). is_file_server t) k.env_type ∙ h.server;
    words = k.long;
    stands =
        subst (λ (q : ℕ). CacheStands d (cache_view mid.spaces q) (cache_at_words (slot_at mid n).extra).place (cache_at_words (slot_at mid n).extra).hand)
        (sym k.directory)
        (subst (λ (c : CacheState). CacheStands d (cache_view mid.spaces dir) c.place c.hand) (sym k.cache)
        (stands_kept d (cache_view s.spaces dir) (cache_view mid.spaces dir) cache_same (cache_at_words (slot_at s n).extra).place
        (cache_at_words (slot_at s n).extra).hand h.stands));
  }

  -- ---- the table

  table_there : HasFileTable s n → HasFileTable mid n
  table_there h = record {
    records = ap (λ (o : Option Entry). is_some o) (entry_same records_page records_table) ∙ h.records;
    pages = λ p e is there.
        let was : entry_of s n p ≡ Some e = sym (entry_same p is) ∙ there in
        let old = h.pages p e is was in
        record {
          allowed = old.allowed;
          whole = subst (λ (page : List ℕ). IsPage page) (sym (k.bytes p e is was)) old.whole;
        };
    apart = λ p q x y is own x_is y_is same.
        let was : entry_of s n p ≡ Some x = sym (entry_same p is) ∙ x_is in elim (cases_eq q request_page) [
          | inl equal ↦ absurd (k.apart p x y is was (sym (ap (entry_of mid n) equal) ∙ y_is) same)
          | inr ne ↦ h.apart p q x y is own was (sym (k.entries q own ne) ∙ y_is) same
        ];
  }

  pub stands_so : (d : Disk) → StandsOver d s n → StandsOver d mid n
  stands_so d h = record {
    cache = cache_there d h.cache;
    count = h.count;
    bytes = h.bytes;
    request = k.page;
    table = table_there h.table;
  }

  -- ---- what is seen

  bytes_same : (p : ℕ) → is_table_page p ≡ true → bytes_by mid (entry_of mid n p) ≡ bytes_by s (entry_of s n p)
  bytes_same p is = ap (bytes_by mid) (entry_same p is) ∙ by_entry (entry_of s n p) refl
    where
      by_entry : (o : Option Entry) → entry_of s n p ≡ o → bytes_by mid o ≡ bytes_by s o
      by_entry None there = refl
      by_entry (Some x) there = ap (λ (page : List ℕ). Some (slice_index page)) (k.bytes p x is there)

  pub same_table : SameTable s mid n
  same_table = record {
    homes = λ number. ap (λ (o : Option (ℕ → ℕ)). if nat_lt number MAXOPEN then word_of o (4 * number) else 0) (bytes_same records_page records_table);
    pages = place_alike s mid n (bytes_by s) (bytes_by mid) refl (λ number below. bytes_same (place_page number) (place_table number below));
  }

  pub same_frames : (number : ℕ) → frame_by (place_entry mid n number) ≡ frame_by (place_entry s n number)
  same_frames =
      place_alike s mid n frame_by frame_by refl (λ number below. ap frame_by (entry_same (place_page number) (place_table number below)))

-- how often the frames of the places' pages are mapped is as it was
abbrev pub CountsStay : KernelState → KernelState → ℕ → Type 0
CountsStay s mid n = (number : ℕ) (e : Entry) → number < MAXOPEN → entry_of s n (place_page number) ≡ Some e →
    reference_count mid.spaces e.frame ≡ reference_count s.spaces e.frame

pub same_holders : (s mid : KernelState) (n : ℕ) → Stays s mid n → CountsStay s mid n → (number : ℕ) →
    is_some (bytes_by s (place_entry s n number)) ≡ true →
    reference_count mid.spaces (frame_by (place_entry s n number)) ≡ reference_count s.spaces (frame_by (place_entry s n number))
same_holders s mid n k counts number there = by_test (nat_lt number MAXOPEN) refl there
  where
    by_entry : (below : number < MAXOPEN) (o : Option Entry) → entry_of s n (place_page number) ≡ o → is_some (bytes_by s o) ≡ true →
        reference_count mid.spaces (frame_by o) ≡ reference_count s.spaces (frame_by o)
    by_entry below None is some = absurd (let contradiction : false ≡ true = some in cc)
    by_entry below (Some x) is some = counts number x below is

    by_test : (t : Bool) → nat_lt number MAXOPEN ≡ t → is_some (bytes_by s (if t then entry_of s n (place_page number) else None)) ≡ true →
        reference_count mid.spaces (frame_by (if t then entry_of s n (place_page number) else None))
        ≡ reference_count s.spaces (frame_by (if t then entry_of s n (place_page number) else None))
    by_test false off some = absurd (let contradiction : false ≡ true = some in cc)
    by_test true on some = by_entry (grind (arith, nat_tests)) (entry_of s n (place_page number)) refl some
