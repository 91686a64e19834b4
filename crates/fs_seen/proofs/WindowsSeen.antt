-- What the server reads at the windows: the message that came to it, the frame of a place's page, and how often that is mapped. None of these
-- loads is stopped, and all stands behind them.
use Rattle.std.proofs.Common.{◌≡◌, ◌∙◌, ◌+◌, ◌*◌, ◌/◌, ◌<◌, ◌^◌, ℕ, true, Some, Ok, refl, sym, ap, subst, arith}
use Rattle.std.specs.Prelude.{get_or, is_some}
use Rattle.jos_base.specs.declared.memory.Access.TheVariants.{Read}
use Rattle.jos_base.specs.declared.numbers.TheConstants.{NPTENTRIES, PGSIZE, UENVS, UVPT}
use Rattle.jos_base.specs.Counting.{frame_limit}
use Rattle.jos_base.specs.Environments.{record_words}
use Rattle.jos_base.specs.KernelState.{KernelState, slot_at, with_spaces}
use Rattle.jos_base.specs.Reach.{Entry}
use Rattle.jos_base.specs.SpacesState.{SpacesState, reference_count}
use Rattle.jos_base.specs.UserMemory.{touched, with_region_bit}
use Rattle.jos_base.specs.Windows.{entry_word}
use Rattle.jos_base.proofs.Options.{some_is}
use Rattle.lib_os.specs.Disk.{Disk}
use Rattle.lib_os.specs.InOrder.{HasOneUse, IsInOrder}
use Rattle.lib_os.specs.UserCalls.{CallStep, IsStep, Output, got, load}
use Rattle.lib_os.proofs.Loading.{loaded_state}
use Rattle.lib_os.proofs.WindowWords.{load_record_word, load_table_word, read_at, record_touched, table_touched}
use Rattle.fs_cache.proofs.Loads.{region_kept}
use Rattle.fs_seen.specs.ServerMemory.{HasWords, StandsOver, entry_of, is_table_page, view_in}
use Rattle.fs_seen.proofs.Accesses.{gives_value}
use Rattle.fs_seen.proofs.Alike.{IsBehind, view_alike}
use Rattle.fs_seen.proofs.Changes.{memory_kept, over_kept, table_below}
use Rattle.fs_seen.proofs.CountWords.{count_at, count_touched, load_count_word}
use Rattle.fs_seen.proofs.Over.{RequestAlike, same_entry}

-- ---- all stands

module _ (d : Disk) (s : KernelState) (n : ℕ) (h : StandsOver d s n) where
  -- where nothing changes
  pub stands_still : (mid : KernelState) (t : SpacesState) → mid ≡ with_spaces s t → t ≡ s.spaces → IsBehind d s mid n (view_in d s n)
  stands_still mid t is same =
      subst (λ (m : KernelState). IsBehind d s m n (view_in d s n)) (sym (is ∙ ap (with_spaces s) same))
      (record { over = h; request_stays = refl; view = refl; cache = refl })

  -- where the bit of a region is set
  region_stands : (r : ℕ) → IsInOrder (with_spaces s (with_region_bit s.spaces (slot_at s n).directory r)) →
      IsBehind d s (with_spaces s (with_region_bit s.spaces (slot_at s n).directory r)) n (view_in d s n)
  region_stands r in_order =
      let t : SpacesState = with_region_bit s.spaces (slot_at s n).directory r in
      let kept = region_kept s.spaces (slot_at s n).directory r in
      let alike : RequestAlike s (with_spaces s t) n = same_entry s (with_spaces s t) n refl (λ x is. refl) in
      record {
        over = over_kept d s n h t in_order kept alike
            (record {
              records = h.table.records;
              pages = λ p e is there. (let old = h.table.pages p e is there in record { allowed = old.allowed; whole = old.whole });
              apart = h.table.apart;
            });
        request_stays = refl;
        view = view_alike s n t (λ q q_is. refl) (λ q q_is. refl) d (memory_kept d s n h t in_order kept alike) (λ frame. refl);
        cache = refl;
      }

  -- ---- the message

  module _ (i : ℕ) (few : i < 16) (small : get_or (record_words (slot_at s 0)) i 0 < 2 ^ 32) where
    abbrev va : ℕ
    va = UENVS + 64 * 0 + 4 * i

    record_is : load s n va ≡ read_at s n va (get_or (record_words (slot_at s 0)) i 0)
    record_is = load_record_word s n 0 i (omega arith) few small

    pub record_gives : (load s n va).gives ≡ got (get_or (record_words (slot_at s 0)) i 0)
    record_gives = ap (λ (z : CallStep ℕ). z.gives) record_is

    pub record_loaded : (word : ℕ) (mid : KernelState) (output : Output) → IsStep (load s n va) (Ok word) mid output →
        (word ≡ get_or (record_words (slot_at s 0)) i 0) × IsBehind d s mid n (view_in d s n)
    record_loaded word mid output call = (
      (gives_value (load s n va) (get_or (record_words (slot_at s 0)) i 0) word mid output record_gives call).0,
      stands_still mid (touched s.spaces (slot_at s n).directory va Read) (loaded_state s mid n va word output call)
          (record_touched s.spaces (slot_at s n).directory 0 i (omega arith) few),
    )

  -- ---- an entry

  module _ (p : ℕ) (is : is_table_page p ≡ true) (e : Entry) (stands : entry_of s n p ≡ Some e) (uses : HasOneUse s.spaces) where
    abbrev dir : ℕ
    dir = (slot_at s n).directory

    tabled : is_some (s.spaces.regions dir (p / NPTENTRIES)) ≡ true
    tabled = uses.regions dir p e stands

    pub entry_gives : (load s n (UVPT + 4 * p)).gives ≡ got (entry_word (entry_of s n p))
    entry_gives = ap (λ (z : CallStep ℕ). z.gives) (load_table_word s n uses p (table_below p is) tabled)

    pub entry_loaded : (word : ℕ) (mid : KernelState) (output : Output) → IsStep (load s n (UVPT + 4 * p)) (Ok word) mid output → IsInOrder mid →
        (word / PGSIZE ≡ e.frame) × IsBehind d s mid n (view_in d s n)
    entry_loaded word mid output call in_order = (frame_is, behind)
      where
        told : word ≡ e.frame * PGSIZE + e.perm
        told =
            (gives_value (load s n (UVPT + 4 * p)) (entry_word (entry_of s n p)) word mid output entry_gives call).0
            ∙ ap entry_word stands

        frame_is : word / PGSIZE ≡ e.frame
        frame_is = let small = (uses.small dir p e stands).1 in omega (arith, told, small)

        comes_to : mid ≡ with_spaces s (with_region_bit s.spaces dir (p / NPTENTRIES))
        comes_to =
            let found = some_is (s.spaces.regions dir (p / NPTENTRIES)) tabled in
            loaded_state s mid n (UVPT + 4 * p) word output call
            ∙ ap (with_spaces s) (table_touched s.spaces dir p found.0 (table_below p is) found.1)

        behind : IsBehind d s mid n (view_in d s n)
        behind =
            subst (λ (m : KernelState). IsBehind d s m n (view_in d s n)) (sym comes_to)
            (region_stands (p / NPTENTRIES) (subst (λ (m : KernelState). IsInOrder m) comes_to in_order))

    -- ---- how often its frame is mapped

    module _ (words : HasWords s n) where
      recorded : e.frame < s.spaces.frames
      recorded = words.counted.recorded e.frame (uses.pages dir p e stands)

      low : e.frame < 65536
      unfolding frame_limit
      low = (uses.small dir p e stands).0

      pub count_gives : (load s n (count_at e.frame)).gives ≡ got (reference_count s.spaces e.frame)
      count_gives = ap (λ (z : CallStep ℕ). z.gives) (load_count_word s n e.frame low recorded (words.counted.counts e.frame (uses.pages dir p e stands)))

      pub count_loaded : (word : ℕ) (mid : KernelState) (output : Output) → IsStep (load s n (count_at e.frame)) (Ok word) mid output →
          (word ≡ reference_count s.spaces e.frame) × IsBehind d s mid n (view_in d s n)
      count_loaded word mid output call = (
        (gives_value (load s n (count_at e.frame)) (reference_count s.spaces e.frame) word mid output count_gives call).0,
        stands_still mid (touched s.spaces dir (count_at e.frame) Read) (loaded_state s mid n (count_at e.frame) word output call)
            (count_touched s.spaces dir e.frame low recorded),
      )
