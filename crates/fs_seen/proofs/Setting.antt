-- The server goes on: its slot gets the registers and words with which it stands where it goes, and nothing that it sees changes.
use Rattle.std.proofs.Common.{◌≡◌, ◌∙◌, ℕ, true, false, List, length, Option, Some, None, refl, sym, ap, subst, if◌then◌else◌}
use Rattle.std.specs.Prelude.{◌*◌, is_some, nat_lt}
use Rattle.lib_os.specs.declared.numbers.TheConstants.{MAXOPEN}
use Rattle.jos_base.specs.declared.environment.EnvType.{EnvType}
use Rattle.jos_base.specs.declared.registers.Regs.{Regs}
use Rattle.jos_base.specs.Environments.{Slot, is_live}
use Rattle.jos_base.specs.KernelState.{KernelState, slot_at, with_slot_at}
use Rattle.jos_base.specs.Reach.{Entry}
use Rattle.jos_base.specs.SpacesState.{directories}
use Rattle.lib_os.specs.BlockCache.{block_row, own_addresses}
use Rattle.lib_os.specs.Disk.{Disk}
use Rattle.lib_os.specs.InOrder.{IsInOrder}
use Rattle.lib_os.specs.UserCalls.{is_file_server}
use Rattle.lib_os.proofs.Slots.{slot_put, slots_alike}
use Rattle.lib_os.proofs.SlotsSet.{both_set}
use Rattle.fs_blocks.specs.declared.place.CacheState.{CacheState}
use Rattle.fs_blocks.specs.CachePlaces.{state_in as cache_in}
use Rattle.fs_cache.specs.CacheStands.{CacheAt, CacheStands, cache_view, cached_at, cached_in}
use Rattle.fs_cache.specs.CacheSteps.{cache_state}
use Rattle.fs_jobs.specs.declared.place.Job.{Job}
use Rattle.fs_jobs.specs.declared.place.TreeState.{TreeState}
use Rattle.fs_places.specs.TreePlaces as places
use Rattle.fs_tree.specs.TreeSteps.{disk_bytes, job_in, memory_in}
use Rattle.fs_tree.proofs.TiesBlocks.{request_number}
use Rattle.fs_tree.proofs.TiesWords.{cache_alike, directory_set}
use Rattle.fs_requests.specs.declared.plan.ServerNext.{ServerNext}
use Rattle.fs_requests.specs.ServerWords.{registers_with, server_in, words_with}
use Rattle.fs_serving.specs.ServerViews.{Serving, View, job_begun, word_of}
use Rattle.fs_server.specs.ServerSteps as server
use Rattle.fs_server.specs.ServerSteps.{registers_begun, server_at, words_begun}
use Rattle.fs_seen.specs.ServerMemory.{HasFileTable, StandsOver, bytes_by, entry_of, frame_by, has_request, place_page, records_page, serving_in}
use Rattle.fs_seen.specs.ServerMemory.{view_in}
use Rattle.fs_seen.specs.ServerSees.{ServesAlike}
use Rattle.fs_seen.proofs.GoesOn.{GoesWell}
use Rattle.fs_seen.proofs.Over.{RequestAlike, bytes_alike, has_alike, request_alike, same_entry}
use Rattle.fs_seen.proofs.WordsBack.{begun_long, begun_rest, job_told, stands_in, stands_whole}

-- ---- a slot that is set

module _ (s : KernelState) (n : ℕ) (slot : Slot) (directory : slot.directory ≡ (slot_at s n).directory) where
  abbrev set : KernelState
  set = with_slot_at s n slot

  -- the state before was in order
  pub in_order_back : is_live slot ≡ is_live (slot_at s n) → IsInOrder set → IsInOrder s
  in_order_back live h =
      let alive = slots_alike s n (λ (x : Slot). is_live x) slot live in
      let there = slots_alike s n (λ (x : Slot). x.directory) slot directory in
      record {
        frames = h.frames;
        spaces = record {
          in_use = λ m lives. subst (λ (q : ℕ). directories s.spaces q ≡ true) (there m) (h.spaces.in_use m (alive m ∙ lives));
          apart = λ m o m_lives o_lives same. h.spaces.apart m o (alive m ∙ m_lives) (alive o ∙ o_lives) (there m ∙ same ∙ sym (there o));
          owned = λ q is.
              let found = h.spaces.owned q is in (found.0, sym (alive found.0) ∙ found.1, sym (there found.0) ∙ found.2);
        };
      }

  pub entry_set : (p : ℕ) → entry_of set n p ≡ entry_of s n p
  entry_set p = ap (λ (q : ℕ). s.spaces.entries q p) (directory_set s n slot directory)

  pub table_set : HasFileTable s n → HasFileTable set n
  table_set h = record {
    records = ap (λ (o : Option Entry). is_some o) (entry_set _) ∙ h.records;
    pages = λ p e is there.
        let was = h.pages p e is (sym (entry_set p) ∙ there) in record { allowed = was.allowed; whole = was.whole };
    apart = λ p q x y is own x_is y_is. h.apart p q x y is own (sym (entry_set p) ∙ x_is) (sym (entry_set q) ∙ y_is);
  }

  pub view_set : (d : Disk) → memory_in d set n ≡ memory_in d s n → slot.rendezvous ≡ (slot_at s n).rendezvous → view_in d set n ≡ view_in d s n
  view_set d memory rendezvous = λ i. record {
    memory = memory i;
    homes = λ number. if nat_lt number MAXOPEN then word_of (bytes_by s (entry_set records_page i)) (4 * number) else 0;
    pages = λ number. bytes_by s (if nat_lt number MAXOPEN then entry_set (place_page number) i else None);
    frames = λ number. frame_by (if nat_lt number MAXOPEN then entry_set (place_page number) i else None);
    holders = (view_in d s n).holders;
    value = (same i).value;
    sender = (same i).sender;
  }
    where
      same : (slot_at set n).rendezvous ≡ (slot_at s n).rendezvous
      same = ap (λ (x : Slot). x.rendezvous) (slot_put s n slot) ∙ rendezvous

  -- what stands over the disk
  alike_set : RequestAlike s set n
  alike_set = same_entry s set n (entry_set request_number) (λ x is. refl)

  pub requested_set : has_request set n ≡ has_request s n
  requested_set = has_alike s set n alike_set

  module _ (d : Disk) (h : StandsOver d s n) (in_order : IsInOrder set) (live : is_live slot ≡ true) (env_type : slot.env_type ≡ (slot_at s n).env_type)
      (words : length slot.extra ≡ 12) (cache : cache_in slot.extra ≡ cache_in (slot_at s n).extra) where
    abbrev same_directory : (slot_at set n).directory ≡ (slot_at s n).directory
    same_directory = directory_set s n slot directory

    cache_set : cache_in (slot_at set n).extra ≡ cache_in (slot_at s n).extra
    cache_set = ap (λ (x : Slot). cache_in x.extra) (slot_put s n slot) ∙ cache

    cache_at : CacheAt d set n
    cache_at = record {
      in_order = in_order;
      live = ap (λ (x : Slot). is_live x) (slot_put s n slot) ∙ live;
      server = ap (λ (x : Slot). is_file_server x.env_type) (slot_put s n slot) ∙ ap (λ (t : EnvType). is_file_server t) env_type ∙ h.cache.server;
      words = ap (λ (x : Slot). length x.extra) (slot_put s n slot) ∙ words;
      stands =
          subst (λ (k : ℕ). CacheStands d (cache_view s.spaces k) (cache_in (slot_at set n).extra).place (cache_in (slot_at set n).extra).hand)
          (sym same_directory)
          (subst (λ (k : CacheState). CacheStands d (cache_view s.spaces (slot_at s n).directory) k.place k.hand) (sym cache_set) h.cache.stands);
    }

    pub over_set : StandsOver d set n
    over_set = record {
      cache = cache_at;
      count = h.count;
      bytes = h.bytes;
      request = request_alike s set n (λ b i. block_row s.spaces (same_directory i) own_addresses b) h.request alike_set;
      table = table_set h.table;
    }

    cached_set : cached_in set n ≡ cached_in s n
    cached_set = λ i. cached_at (cache_view s.spaces (same_directory i)) (cache_set i).place

    pub memory_over : memory_in d set n ≡ memory_in d s n
    memory_over = λ i. record { disk = disk_bytes d (cached_set i); page = bytes_alike s set n (λ x is. (h.request x is).bits) alike_set i }

-- ---- the server goes on

-- where it goes, whatever job stood there
abbrev pub going_to : ServerNext → TreeState → View → Serving
going_to next job v = record { state = next.state; job = job_begun next.begins job; view = v }

-- all stands, and the server as it does by itself
pub record HasGoneOn (d : Disk) (mid after : KernelState) (n : ℕ) (next : ServerNext) (job : TreeState) : Type 0 where
  pub over : StandsOver d after n
  pub request_stays : has_request after n ≡ has_request mid n
  pub stands_as : ServesAlike (going_to next job (view_in d mid n)) (serving_in d after n)
  pub cache : cache_state after n ≡ cache_state mid n

-- the server stands at the step to which it goes
pub record StandsNext (after : KernelState) (n : ℕ) (next : ServerNext) : Type 0 where
  pub at_step : (server_at after n).step ≡ next.state.step
  pub kind : (server_at after n).kind ≡ next.state.kind
  pub number : (server_at after n).number ≡ next.state.number

module _ (mid : KernelState) (n : ℕ) (next : ServerNext) where
  abbrev regs : Regs
  regs = registers_begun next.begins (registers_with (slot_at mid n).registers next.state)

  abbrev words : List ℕ
  words = words_begun next.begins (words_with (slot_at mid n).extra next.state)

  abbrev slot : Slot
  slot = record (slot_at mid n) { registers = regs; extra = words }

  gone_is : server.gone_on mid n next ≡ with_slot_at mid n slot
  unfolding server.gone_on
  gone_is = both_set mid n regs words

  -- before it went on it was in order
  pub was_in_order : (after : KernelState) → after ≡ server.gone_on mid n next → IsInOrder after → IsInOrder mid
  was_in_order after is h = in_order_back mid n slot refl refl (subst (λ (k : KernelState). IsInOrder k) (is ∙ gone_is) h)

  -- where the server stands then
  pub gone_stands : GoesWell next → length (slot_at mid n).extra ≡ 12 → (after : KernelState) → after ≡ server.gone_on mid n next →
      StandsNext after n next
  gone_stands well long after is =
      let so = stands_in (slot_at mid n).registers (slot_at mid n).extra next.state well.below long next.begins in
      let there : slot_at after n ≡ slot = ap (λ (k : KernelState). slot_at k n) (is ∙ gone_is) ∙ slot_put mid n slot in
      record {
        at_step = ap (λ (x : Slot). (server_in x.registers x.extra).step) there ∙ so.at_step;
        kind = ap (λ (x : Slot). (server_in x.registers x.extra).kind) there ∙ so.kind;
        number = ap (λ (x : Slot). (server_in x.registers x.extra).number) there ∙ so.number;
      }

  -- and its cache where it stood
  pub gone_cache : GoesWell next → length (slot_at mid n).extra ≡ 12 → (after : KernelState) → after ≡ server.gone_on mid n next →
      cache_state after n ≡ cache_state mid n
  gone_cache well long after is =
      ap (λ (x : Slot). cache_in x.extra) (ap (λ (k : KernelState). slot_at k n) (is ∙ gone_is) ∙ slot_put mid n slot)
      ∙ cache_alike words (slot_at mid n).extra
      (begun_rest (slot_at mid n).registers (slot_at mid n).extra next.state well.below long next.begins)

  module _ (d : Disk) (well : GoesWell next) (h : StandsOver d mid n) (job : TreeState)
      (in_order : IsInOrder (with_slot_at mid n slot)) where
    abbrev gone : KernelState
    gone = with_slot_at mid n slot

    there : slot_at gone n ≡ slot
    there = slot_put mid n slot

    cache : cache_in words ≡ cache_in (slot_at mid n).extra
    cache = cache_alike words (slot_at mid n).extra
        (begun_rest (slot_at mid n).registers (slot_at mid n).extra next.state well.below h.cache.words next.begins)

    long : length words ≡ 12
    long = begun_long (slot_at mid n).registers (slot_at mid n).extra next.state well.below h.cache.words next.begins

    stands_so : ServesAlike (going_to next job (view_in d mid n)) (serving_in d gone n)
    stands_so =
        let so = stands_in (slot_at mid n).registers (slot_at mid n).extra next.state well.below h.cache.words next.begins in
        record {
          at_step = sym (ap (λ (x : Slot). (server_in x.registers x.extra).step) there ∙ so.at_step);
          kind = sym (ap (λ (x : Slot). (server_in x.registers x.extra).kind) there ∙ so.kind);
          client = sym (ap (λ (x : Slot). (server_in x.registers x.extra).client) there ∙ so.client);
          number = sym (ap (λ (x : Slot). (server_in x.registers x.extra).number) there ∙ so.number);
          words = λ off. sym (ap (λ (x : Slot). server_in x.registers x.extra) there ∙ whole (none_there next.begins (sym well.begins ∙ off)));
          job = λ on. job_there next.begins refl (sym well.begins ∙ on);
          view = sym (view_set mid n slot refl d (memory_over mid n slot refl d h in_order h.cache.live refl long cache) refl);
        }
      where
        whole : next.begins ≡ None → server_in regs words ≡ next.state
        whole = stands_whole (slot_at mid n).registers (slot_at mid n).extra next.state well.below h.cache.words next.begins

        none_there : (o : Option Job) → is_some o ≡ false → o ≡ None
        none_there None is = refl
        none_there (Some it) is = absurd (let contradiction : true ≡ false = is in cc)

        job_there : (o : Option Job) → next.begins ≡ o → is_some o ≡ true → job_begun next.begins job ≡ job_in gone n
        job_there None at is = absurd (let contradiction : false ≡ true = is in cc)
        job_there (Some it) at is =
            ap (λ (b : Option Job). job_begun b job) at
            ∙ sym (ap (λ (x : Slot). places.state_in x.registers x.extra) there
            ∙ job_told (registers_with (slot_at mid n).registers next.state) (words_with (slot_at mid n).extra next.state) next.begins it at)

    set_done : HasGoneOn d mid gone n next job
    set_done = record {
      over = over_set mid n slot refl d h in_order h.cache.live refl long cache;
      request_stays = requested_set mid n slot refl;
      stands_as = stands_so;
      cache = ap (λ (x : Slot). cache_in x.extra) there ∙ cache;
    }

  -- by the state that is reached
  pub has_gone_on : (d : Disk) → GoesWell next → StandsOver d mid n → (job : TreeState) → (after : KernelState) →
      after ≡ server.gone_on mid n next → IsInOrder after → HasGoneOn d mid after n next job
  has_gone_on d well h job after is in_order =
      let whole : after ≡ with_slot_at mid n slot = is ∙ gone_is in
      subst (λ (k : KernelState). HasGoneOn d mid k n next job) (sym whole)
      (set_done d well h job (subst (λ (k : KernelState). IsInOrder k) whole in_order))
