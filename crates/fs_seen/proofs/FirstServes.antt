-- At its start the server stands over the disk with no block cached, and serves.
use Rattle.std.proofs.Common.{◌≡◌, ◌≢◌, ◌∙◌, ◌+◌, ◌/◌, ◌%◌, ◌<◌, ◌≤◌, inl, inr, ℕ, true, List, Option, Some, None, refl, sym, ap, subst, arith}
use Rattle.std.proofs.Common.{if◌then◌else◌}
use Rattle.std.proofs.lemmas.Bool.{cases_eq, cases_lt}
use Rattle.std.proofs.lemmas.Option.{none-some, same_Some}
use Rattle.std.specs.Option.{option_map}
use Rattle.std.specs.Prelude.{is_some, nat_lt, slice_index, unwrap_or}
use Rattle.jos_base.specs.declared.memory.Access.{Access}
use Rattle.jos_base.specs.declared.memory.Access.TheVariants.{Read, Write}
use Rattle.jos_base.specs.declared.numbers.TheConstants.{PTE_P, PTE_U, PTE_W}
use Rattle.jos_base.specs.KernelState.{KernelState, slot_at}
use Rattle.jos_base.specs.Reach.{Entry, allows}
use Rattle.fs_layout.specs.declared.numbers.TheConstants.{BLKSIZE, MAXBLOCKS}
use Rattle.lib_os.specs.declared.numbers.TheConstants.{CACHE_BLOCKS, MAXOPEN}
use Rattle.lib_os.specs.BlockCache.{block_row, block_value, own_addresses}
use Rattle.lib_os.specs.Disk.{Disk}
use Rattle.lib_os.specs.Rows.{IsPage}
use Rattle.lib_os.proofs.PageBytes.{zero_page_whole}
use Rattle.fs_blocks.specs.declared.place.CachePlace.{CachePlace}
use Rattle.fs_blocks.specs.declared.place.CachePlace.TheVariants as cache
use Rattle.fs_cache.specs.CacheStands.{CacheAt, CacheStands, CacheView, cache_view, cached_at, cached_in}
use Rattle.fs_cache.specs.CacheSteps.{cache_state, is_fetching}
use Rattle.fs_cache.proofs.Loads.{number_of, row_below, row_past}
use Rattle.fs_tree.specs.TreeSteps.{disk_bytes, memory_in}
use Rattle.fs_requests.specs.declared.state.ServerStep.{ServerStep}
use Rattle.fs_serving.specs.ServerRuns.{StandsAtStep}
use Rattle.fs_server.specs.ServerSteps.{server_at}
use Rattle.fs_seen.specs.ServerMemory.{AreDiskBytes, HasFileTable, IsOpenPage, StandsOver, entry_of, place_page, records_page}
use Rattle.fs_seen.specs.ServerMemory.{request_page, serving_in, view_in}
use Rattle.fs_seen.specs.ServerWhole.{IsFirst, StartsServe, bytes_on}
use Rattle.fs_seen.proofs.Between.{files_over, leaving_serves}
use Rattle.fs_seen.proofs.Changes.{place_number}
use Rattle.fs_seen.proofs.Rests.{rests_at}
use Rattle.fs_seen.proofs.Unopened.{unopened_tables, unopened_views}

block_no_records : (b : ℕ) → number_of b ≢ records_page
block_no_records b same = absurd (omega (arith, same))

place_no_records : (number : ℕ) → number < MAXOPEN → place_page number ≢ records_page
place_no_records number below same = let at = place_number number below in absurd (omega (arith, at, same))

records_allow : (access : Access) → allows (PTE_P + PTE_U + PTE_W) access ≡ true
records_allow Read = refl
records_allow Write = refl

module _ (d : Disk) (s : KernelState) (n : ℕ) (h : IsFirst s n) where
  abbrev dir : ℕ
  dir = (slot_at s n).directory

  abbrev v : CacheView
  v = cache_view s.spaces dir

  -- ---- the cache

  row_none : (b : ℕ) → block_row s.spaces dir own_addresses b ≡ None
  row_none b = elim (cases_lt b CACHE_BLOCKS) [
    | inl below ↦ row_below s.spaces dir b below ∙ h.alone (number_of b) (block_no_records b)
    | inr past ↦ let beyond : CACHE_BLOCKS ≤ b = grind (arith, past) in row_past s.spaces dir b beyond
  ]

  page_none : (b : ℕ) → (cached_at v cache.Resting).page b ≡ None
  page_none b = ap (λ (o : Option Entry). option_map (λ (e : Entry). s.spaces.pages e.frame) o) (row_none b)

  hand_small : (cache_state s n).hand < CACHE_BLOCKS
  hand_small = omega arith

  rests_so : CacheStands d v cache.Resting (cache_state s n).hand
  rests_so = record {
    block_below = omega arith;
    hand_below = hand_small;
    cache = record {
      whole = λ b bytes is. absurd (none-some bytes (sym (page_none b) ∙ is));
      clean = λ b bytes below is off. absurd (none-some bytes (sym (page_none b) ∙ is));
    };
    entries = λ b e is. absurd (none-some e (sym (row_none b) ∙ is));
    dirty = λ b e is on. absurd (none-some e (sym (row_none b) ∙ is));
    pages = λ b e is. absurd (none-some e (sym (row_none b) ∙ is));
    apart = λ b m e f is other same. absurd (none-some e (sym (row_none b) ∙ is));
    at = tt;
  }

  cache_so : CacheAt d s n
  cache_so = record {
    in_order = h.in_order;
    live = h.lives;
    server = h.server;
    words = h.long;
    stands = subst (λ (p : CachePlace). CacheStands d v p (cache_state s n).hand) (sym h.rests) rests_so;
  }

  value_is : (b : ℕ) → block_value d (cached_in s n) b ≡ d.block b
  value_is b =
      (λ i. block_value d (cached_at v (h.rests i)) b)
      ∙ ap (λ (o : Option (List ℕ)). unwrap_or o (d.block b)) (page_none b)

  disk_is : disk_bytes d (cached_in s n) ≡ bytes_on d
  disk_is = λ i at. if nat_lt (at / BLKSIZE) d.count then slice_index (value_is (at / BLKSIZE) i) (at % BLKSIZE) else 0

  -- ---- the table

  only : (p : ℕ) (e : Entry) → entry_of s n p ≡ Some e → (p ≡ records_page) × (e ≡ h.entry)
  only p e is = elim (cases_eq p records_page) [
    | inl same ↦ (same, sym (same_Some h.entry e (sym h.stands ∙ sym (ap (entry_of s n) same) ∙ is)))
    | inr ne ↦ absurd (none-some e (sym (h.alone p ne) ∙ is))
  ]

  open_so : IsOpenPage s h.entry
  open_so = record {
    allowed = λ access. ap (λ (perm : ℕ). allows perm access) h.bits ∙ records_allow access;
    whole = subst (λ (page : List ℕ). IsPage page) (sym h.zeros) zero_page_whole;
  }

  table_so : HasFileTable s n
  table_so = record {
    records = ap (λ (o : Option Entry). is_some o) h.stands;
    pages = λ p e is there. subst (λ (x : Entry). IsOpenPage s x) (sym (only p e there).1) open_so;
    apart = λ p q x y is own x_is y_is same. (only p x x_is).0 ∙ sym (only q y y_is).0;
  }

  first_over : d.count ≤ MAXBLOCKS → AreDiskBytes d → StandsOver d s n
  first_over count bytes = record {
    cache = cache_so;
    count = count;
    bytes = bytes;
    request = λ e is. absurd (none-some e (sym (h.alone request_page (λ same. absurd (omega (arith, same)))) ∙ is));
    table = table_so;
  }

pub starts_serve : StartsServe
starts_serve a d s h count bytes files server unheld consoles old =
    leaving_serves a d s (memory_in d s 0) (first_over d s 0 h count bytes) server
    (files_over d.count (record { disk = bytes_on d; page = λ at. 0 }) (memory_in d s 0) a.files (disk_is d s 0 h) files)
    (unopened_tables (memory_in d s 0).disk a (view_in d s 0)
    (unopened_views a d s 0 h.entry h.stands h.zeros (λ number below. h.alone (place_page number) (place_no_records number below)) unheld) consoles old)
    (subst (λ (x : ServerStep). StandsAtStep x d.count a (serving_in d s 0) (memory_in d s 0)) (sym h.at) (server, refl))
    (rests_at s 0 (server_at s 0).step (ap is_fetching h.rests))
