-- Where a job's words are set, or the cache's, the page of the request stays and holds what it held; and the job's words are not those
-- of the cache. The rest of the slots stays.
use Rattle.std.proofs.Common.{◌≡◌, ◌∙◌, ◌+◌, ◌%◌, ℕ, true, List, length, get_or, drop, Some}
use Rattle.std.proofs.Common.{refl, sym, ap, subst}
use Rattle.std.proofs.lemmas.List.{get_or-drop}
use Rattle.jos_base.specs.declared.environment.EnvType.{EnvType}
use Rattle.jos_base.specs.declared.registers.Regs.{Regs}
use Rattle.jos_base.specs.Environments.{Environments, Slot, is_live}
use Rattle.jos_base.specs.KernelState.{KernelState, slot_at, with_extra, with_registers, with_slot_at}
use Rattle.lib_os.specs.declared.numbers.TheConstants.{CACHE_BLOCKS}
use Rattle.lib_os.specs.BlockCache.{block_row, own_addresses}
use Rattle.lib_os.specs.Disk.{Disk}
use Rattle.lib_os.specs.InOrder.{IsInOrder}
use Rattle.lib_os.specs.UserCalls.{is_file_server}
use Rattle.lib_os.proofs.Slots.{slot_kept, slot_put}
use Rattle.lib_os.proofs.SlotsSet.{both_set}
use Rattle.fs_blocks.specs.declared.place.CacheState.{CacheState}
use Rattle.fs_blocks.specs.CachePlaces.{place_in, state_in as cache_in}
use Rattle.fs_cache.specs.CacheStands.{CacheAt, CacheStands, cache_view, cached_at, cached_in}
use Rattle.fs_cache.specs.CacheSteps.{row_in}
use Rattle.fs_jobs.specs.declared.place.TreeState.{TreeState}
use Rattle.fs_places.specs.TreePlaces.{registers_with, state_in, words_with}
use Rattle.fs_tree.specs.TreeSteps.{HasRequest, KeepsRest, TreeAt, disk_bytes, job_in, job_registers, memory_in, request_bytes, with_job_of}
use Rattle.fs_tree.proofs.TiesBlocks.{request_number, request_same}
use Rattle.fs_places.proofs.TreeWords.{last_four, length_with, state_told}

-- ---- a slot that is set

-- It keeps its directory.
module _ (s : KernelState) (n : ℕ) (slot : Slot) (directory : slot.directory ≡ (slot_at s n).directory) where
  abbrev set : KernelState
  set = with_slot_at s n slot

  pub directory_set : (slot_at set n).directory ≡ (slot_at s n).directory
  directory_set = ap (λ (x : Slot). x.directory) (slot_put s n slot) ∙ directory

  abbrev pub request_set : HasRequest s n → HasRequest set n
  request_set h = record {
    entry = h.entry;
    stands = subst (λ (d : ℕ). s.spaces.entries d request_number ≡ Some h.entry) (sym directory_set) h.stands;
    bits = h.bits;
    whole = h.whole;
    apart = λ b e is. h.apart b e (subst (λ (d : ℕ). block_row s.spaces d own_addresses b ≡ Some e) directory_set is);
  }

  pub request_bytes_set : HasRequest s n → request_bytes set n ≡ request_bytes s n
  request_bytes_set h = request_same s set n h (request_set h) refl

  module _ (d : Disk) (h : TreeAt d s n) (in_order : IsInOrder set) (live : is_live slot ≡ true) (env_type : slot.env_type ≡ (slot_at s n).env_type)
      (words : length slot.extra ≡ 12) (cache : cache_in slot.extra ≡ cache_in (slot_at s n).extra) where
    cache_set : cache_in (slot_at set n).extra ≡ cache_in (slot_at s n).extra
    cache_set = ap (λ (x : Slot). cache_in x.extra) (slot_put s n slot) ∙ cache

    cache_at : CacheAt d set n
    cache_at = record {
      in_order = in_order;
      live = ap (λ (x : Slot). is_live x) (slot_put s n slot) ∙ live;
      server = ap (λ (x : Slot). is_file_server x.env_type) (slot_put s n slot) ∙ ap (λ (t : EnvType). is_file_server t) env_type ∙ h.cache.server;
      words = ap (λ (x : Slot). length x.extra) (slot_put s n slot) ∙ words;
      stands =
          subst (λ (k : ℕ). CacheStands d (cache_view s.spaces k) (cache_in (slot_at set n).extra).place (cache_in (slot_at set n).extra).hand)
          (sym directory_set)
          (subst (λ (k : CacheState). CacheStands d (cache_view s.spaces (slot_at s n).directory) k.place k.hand) (sym cache_set) h.cache.stands);
    }

    pub tree_set : TreeAt d set n
    tree_set = record { cache = cache_at; request = request_set h.request; count = h.count }

    cached_set : cached_in set n ≡ cached_in s n
    cached_set = λ i. cached_at (cache_view s.spaces (directory_set i)) (cache_set i).place

    pub memory_set : memory_in d set n ≡ memory_in d s n
    memory_set = λ i. record { disk = disk_bytes d (cached_set i); page = request_bytes_set h.request i }

-- ---- the job's words

-- where the cache stands is told by the last four
pub cache_alike : (words more : List ℕ) → drop 8 words ≡ drop 8 more → cache_in words ≡ cache_in more
cache_alike words more same =
    λ i. record {
      place = place_in (each 0 i) (each 1 i % CACHE_BLOCKS) (each 3 i);
      hand = each 2 i % CACHE_BLOCKS;
    }
  where
    each : (k : ℕ) → get_or words (8 + k) 0 ≡ get_or more (8 + k) 0
    each k = sym (get_or-drop 8 words k 0) ∙ ap (λ (w : List ℕ). get_or w k 0) same ∙ get_or-drop 8 more k 0

-- The state that is set is found there, and all else is as it was.
pub record HasSet (d : Disk) (s after : KernelState) (n : ℕ) (state : TreeState) : Type 0 where
  pub stands : TreeAt d after n
  pub memory : memory_in d after n ≡ memory_in d s n
  pub job : job_in after n ≡ state
  pub cache : cache_in (slot_at after n).extra ≡ cache_in (slot_at s n).extra
  pub row : row_in after n ≡ row_in s n

module _ (d : Disk) (s : KernelState) (n : ℕ) (state : TreeState) (h : TreeAt d s n) where
  abbrev words : List ℕ
  words = words_with (slot_at s n).extra state

  abbrev regs : Regs
  regs = registers_with (slot_at s n).registers state

  abbrev slot : Slot
  slot = record (slot_at s n) { registers = regs; extra = words }

  slot_set : IsInOrder (with_slot_at s n slot) → HasSet d s (with_slot_at s n slot) n state
  slot_set in_order =
      let long = length_with (slot_at s n).extra state h.cache.words in
      let cache = cache_alike words (slot_at s n).extra (last_four (slot_at s n).extra state) in
      record {
        stands = tree_set s n slot refl d h in_order h.cache.live refl long cache;
        memory = memory_set s n slot refl d h in_order h.cache.live refl long cache;
        job =
            ap (λ (x : Slot). state_in x.registers x.extra) (slot_put s n slot)
            ∙ state_told (slot_at s n).registers (slot_at s n).extra state;
        cache = ap (λ (x : Slot). cache_in x.extra) (slot_put s n slot) ∙ cache;
        row = ap (λ (x : Slot). block_row s.spaces x.directory own_addresses) (slot_put s n slot);
      }

  -- as the code sets it
  pub state_set : (after : KernelState) → IsInOrder after → after ≡ with_extra (with_registers s n regs) n words → HasSet d s after n state
  state_set after in_order is =
      let whole : after ≡ with_slot_at s n slot = is ∙ both_set s n regs words in
      subst (λ (k : KernelState). HasSet d s k n state) (sym whole) (slot_set (subst (λ (k : KernelState). IsInOrder k) whole in_order))

-- ---- the rest of the slots

-- it stays where no slot changes,
pub rest_same : (s mid : KernelState) (n : ℕ) → mid.environments ≡ s.environments → KeepsRest s mid n
rest_same s mid n same =
    let there : slot_at mid n ≡ slot_at s n = ap (λ (e : Environments). e.slots n) same in
    record {
      slot = there ∙ ap (λ (x : Slot). with_job_of (slot_at s n) x) (sym there);
      others = λ m other. ap (λ (e : Environments). e.slots m) same;
    }

module _ (s mid : KernelState) (n : ℕ) (kept : KeepsRest s mid n) where
  rest_put : (slot : Slot) → slot ≡ with_job_of (slot_at s n) slot → KeepsRest s (with_slot_at mid n slot) n
  rest_put slot is = record {
    slot = slot_put mid n slot ∙ is ∙ ap (λ (x : Slot). with_job_of (slot_at s n) x) (sym (slot_put mid n slot));
    others = λ m other. slot_kept mid n slot m other ∙ kept.others m other;
  }

  -- where the words of the cache are set,
  pub rest_words : (words : List ℕ) → KeepsRest s (with_extra mid n words) n
  rest_words words = rest_put (record (slot_at mid n) { extra = words }) (λ i. record (kept.slot i) { extra = words })

  registers_over : (own other more : Regs) (state : TreeState) →
      registers_with (job_registers own other) state ≡ job_registers own (registers_with more state)
  unfolding registers_with
  registers_over own other more state = refl

  -- and where those of the job are
  pub rest_set : (state : TreeState) (after : KernelState) →
      after ≡ with_extra (with_registers mid n (registers_with (slot_at mid n).registers state)) n (words_with (slot_at mid n).extra state) →
      KeepsRest s after n
  rest_set state after is =
      let regs : Regs = registers_with (slot_at mid n).registers state in
      let words : List ℕ = words_with (slot_at mid n).extra state in
      let own : Regs = (slot_at s n).registers in
      subst (λ (k : KernelState). KeepsRest s k n) (sym (is ∙ both_set mid n regs words))
      (rest_put (record (slot_at mid n) { registers = regs; extra = words })
      ((λ i. record (kept.slot i) { registers = registers_with (kept.slot i).registers state; extra = words })
      ∙ ap (λ (r : Regs). record (slot_at s n) { registers = r; extra = words })
      (registers_over own (slot_at mid n).registers (slot_at mid n).registers state)))
