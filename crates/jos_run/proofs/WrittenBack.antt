-- The dirty blocks of the cache are written to the disk, one behind the other: what each block holds stays, and the disk's blocks hold it.
use Rattle.std.proofs.Common.{◌≡◌, ◌≢◌, ◌∙◌, ℕ, ◌+◌, ◌<◌, ◌≤◌, ◌==◌, ◌&&◌, Bool, true, false, List, [], Option, Some, None, Ok}
use Rattle.std.proofs.Common.{inl, inr, refl, sym, ap, subst, arith, if◌then◌else◌}
use Rattle.std.specs.Prelude.{is_some, not, unwrap_or, min}
use Rattle.std.specs.Option.{option_map}
use Rattle.std.proofs.lemmas.Bool.{cases_lt, false≢true}
use Rattle.std.proofs.lemmas.Bool.Decides.{nat_tests}
use Rattle.std.proofs.lemmas.Option.{none-some, same_Some}
use Rattle.jos_host.specs.declared.host.Failed.{Failed}
use Rattle.jos_host.specs.Files.{Files}
use Rattle.jos_host.specs.Frames.{Around, from_to}
use Rattle.jos_base.specs.declared.numbers.TheConstants.{PTE_D}
use Rattle.jos_base.specs.Environments.{Slot, is_live}
use Rattle.jos_base.specs.KernelState.{KernelState, slot_at, with_spaces}
use Rattle.jos_base.specs.Reach.{Entry}
use Rattle.jos_base.specs.Words.{has_bit, is_exactly, page_number}
use Rattle.lib_os.specs.declared.numbers.TheConstants.{CACHE_BLOCKS}
use Rattle.lib_os.specs.declared.user_os.Stop.{Stop}
use Rattle.lib_os.specs.BlockCache.{CachedBlocks, IsCache, block_address, block_value, is_dirty}
use Rattle.lib_os.specs.Disk.{Disk, DiskFile, HasBlocks, disk_in}
use Rattle.lib_os.specs.InOrder.{IsInOrder}
use Rattle.lib_os.specs.UserCalls.{FilesBehind, FilesBehindBy, IsBlockWrite, IsSentBy, Output, Prints, is_file_server, may_write_block}
use Rattle.lib_os.specs.Rows.{IsPage}
use Rattle.fs_blocks.specs.declared.place.CachePlace.{CachePlace}
use Rattle.fs_blocks.specs.declared.place.CachePlace.TheVariants as at
use Rattle.fs_blocks.specs.CachePlaces.{state_in}
use Rattle.fs_cache.specs.CacheStands.{CacheAt, CacheStands, CacheView, HoldsAt, HoldsBlock, IsBlockEntry, cached_at, cached_in, filling_at}
use Rattle.fs_cache.specs.CacheSteps.{cache_state, caller, of_block, row_in}
use Rattle.fs_cache.proofs.BlockMoves.{block_is_written}
use Rattle.fs_cache.proofs.Interfaces.{view_in}
use Rattle.fs_cache.proofs.Loads.{own_number, row_below, row_past}
use Rattle.fs_cache.proofs.Views.{BytesKept, DiskSet, RowSet, Written, not_there, written}
use Rattle.jos_run.specs.Closing.{is_to_write}
use Rattle.jos_run.specs.RunSteps.{HoldsCache, IsWrittenBack, IsWrittenOver}
use Rattle.jos_run.specs.Worlds.{World, beside, told_disk}

-- ---- a place at which nothing more is known

abbrev pub calm : CachePlace → CachePlace
calm (at.Filling block) = at.Filling block
calm (at.Leaving block) = at.Leaving block
calm _ = at.Resting

calm_filling : (place : CachePlace) → filling_at (calm place) ≡ filling_at place
calm_filling (at.Filling block) = refl
calm_filling (at.Leaving block) = refl
calm_filling _ = refl

calm_stands : (d : Disk) (v : CacheView) (place : CachePlace) (hand : ℕ) → CacheStands d v place hand → CacheStands d v (calm place) hand
calm_stands d v (at.Filling block) hand h = h
calm_stands d v (at.Leaving block) hand h = h
calm_stands d v _ hand h = record {
  block_below = omega arith;
  hand_below = h.hand_below;
  cache = h.cache;
  entries = h.entries;
  dirty = h.dirty;
  pages = h.pages;
  apart = h.apart;
  at = tt;
}

-- ---- a block is written

module _ (d e : Disk) (v w : CacheView) (place : CachePlace) (hand b : ℕ) (h : CacheStands d v (calm place) hand)
    (filled : is_exactly b (filling_at (calm place)) ≡ false) (x y : Entry) (x_is : v.row b ≡ Some x) (below : b < d.count)
    (disk : DiskSet d e b (v.bytes x.frame)) (row : RowSet v w b (Some y)) (frame : y.frame ≡ x.frame) (entry : IsBlockEntry y)
    (dirty : has_bit y.perm PTE_D ≡ has_bit x.perm PTE_D) (bytes : BytesKept v w) where
  abbrev before : CachedBlocks
  before = cached_at v (calm place)

  abbrev after : CachedBlocks
  after = cached_at w (calm place)

  -- each entry is what it was, but for a bit of this one
  record Stood (n : ℕ) (f : Entry) : Type 0 where
    was : Entry
    was_is : v.row n ≡ Some was
    same : f.frame ≡ was.frame
    is_block : IsBlockEntry f

  stood : (n : ℕ) (f : Entry) → w.row n ≡ Some f → Stood n f
  stood n f is = by_test (n == b) refl
    where
      by_test : (t : Bool) → (n == b) ≡ t → Stood n f
      by_test true test =
          let at : n ≡ b = grind (arith, nat_tests) in
          let y_is : y ≡ f = same_Some y f (sym row.set ∙ ap w.row (sym at) ∙ is) in
          record {
            was = x;
            was_is = ap v.row at ∙ x_is;
            same = ap (λ (z : Entry). z.frame) (sym y_is) ∙ frame;
            is_block = subst IsBlockEntry y_is entry;
          }
      by_test false test =
          let other : n ≢ b = grind (arith, nat_tests) in
          let was = sym (row.rest n other) ∙ is in
          record { was = f; was_is = was; same = refl; is_block = h.entries n f was }

  record Stands (n : ℕ) (f : Entry) : Type 0 where
    now : Entry
    now_is : w.row n ≡ Some now
    same : now.frame ≡ f.frame

  stands : (n : ℕ) (f : Entry) → v.row n ≡ Some f → Stands n f
  stands n f is = by_test (n == b) refl
    where
      by_test : (t : Bool) → (n == b) ≡ t → Stands n f
      by_test true test =
          let at : n ≡ b = grind (arith, nat_tests) in
          let x_same : x ≡ f = same_Some x f (sym x_is ∙ ap v.row (sym at) ∙ is) in
          record { now = y; now_is = ap w.row at ∙ row.set; same = frame ∙ ap (λ (z : Entry). z.frame) x_same }
      by_test false test =
          let other : n ≢ b = grind (arith, nat_tests) in
          record { now = f; now_is = row.rest n other ∙ is; same = refl }

  bytes_as : (n : ℕ) (f : Entry) (s : Stood n f) → w.bytes f.frame ≡ v.bytes s.was.frame
  bytes_as n f s = ap w.bytes s.same ∙ bytes n s.was s.was_is

  -- what is cached is the same
  page_row : (n : ℕ) → option_map (λ (f : Entry). w.bytes f.frame) (w.row n) ≡ option_map (λ (f : Entry). v.bytes f.frame) (v.row n)
  page_row n = by_row (w.row n) refl
    where
      by_row : (o : Option Entry) → w.row n ≡ o → option_map (λ (f : Entry). w.bytes f.frame) o ≡ option_map (λ (f : Entry). v.bytes f.frame) (v.row n)
      by_row (Some f) is =
          let s = stood n f is in
          ap (λ (l : List ℕ). Some l) (bytes_as n f s) ∙ ap (option_map (λ (g : Entry). v.bytes g.frame)) (sym s.was_is)
      by_row None is = by_old (v.row n) refl
        where
          by_old : (o : Option Entry) → v.row n ≡ o → None ≡ option_map (λ (f : Entry). v.bytes f.frame) o
          by_old None was = refl
          by_old (Some f) was = let s = stands n f was in absurd (none-some s.now (sym is ∙ s.now_is))

  pages_same : (n : ℕ) → after.page n ≡ before.page n
  pages_same n = ap (λ (o : Option (List ℕ)). if is_exactly n (filling_at (calm place)) then None else o) (page_row n)

  dirty_row : (n : ℕ) → is_dirty (w.row n) ≡ is_dirty (v.row n)
  dirty_row n = by_test (n == b) refl
    where
      by_test : (t : Bool) → (n == b) ≡ t → is_dirty (w.row n) ≡ is_dirty (v.row n)
      by_test true test =
          let at : n ≡ b = grind (arith, nat_tests) in
          ap (λ (m : ℕ). is_dirty (w.row m)) at ∙ ap is_dirty row.set ∙ dirty ∙ ap is_dirty (sym x_is) ∙ ap (λ (m : ℕ). is_dirty (v.row m)) (sym at)
      by_test false test = let other : n ≢ b = grind (arith, nat_tests) in ap is_dirty (row.rest n other)

  dirty_same : (n : ℕ) → after.dirty n ≡ before.dirty n
  dirty_same n = ap (λ (t : Bool). if is_exactly n (filling_at (calm place)) then false else t) (dirty_row n)

  -- the page that was written
  page_here : before.page b ≡ Some (v.bytes x.frame)
  page_here =
      ap (λ (t : Bool). if t then None else option_map (λ (f : Entry). v.bytes f.frame) (v.row b)) filled
      ∙ ap (option_map (λ (f : Entry). v.bytes f.frame)) x_is

  cache_so : IsCache e after
  cache_so = record {
    whole = λ n page is. h.cache.whole n page (sym (pages_same n) ∙ is);
    clean = λ n page within is clean. by_test n page within is clean (n == b) refl;
  }
    where
      by_test : (n : ℕ) (page : List ℕ) → n < e.count → after.page n ≡ Some page → after.dirty n ≡ false → (t : Bool) → (n == b) ≡ t → page ≡ e.block n
      by_test n page within is clean true test =
          let at : n ≡ b = grind (arith, nat_tests) in
          same_Some page (v.bytes x.frame) (sym is ∙ pages_same n ∙ ap before.page at ∙ page_here) ∙ sym disk.set ∙ ap e.block (sym at)
      by_test n page within is clean false test =
          let other : n ≢ b = grind (arith, nat_tests) in
          let less : n < d.count = subst (λ (m : ℕ). n < m) disk.count within in
          h.cache.clean n page less (sym (pages_same n) ∙ is) (sym (dirty_same n) ∙ clean) ∙ sym (disk.rest n other)

  -- what each block holds
  pub values_same : (n : ℕ) → block_value e after n ≡ block_value d before n
  values_same n = by_test (n == b) refl
    where
      by_test : (t : Bool) → (n == b) ≡ t → block_value e after n ≡ block_value d before n
      by_test true test =
          let at : n ≡ b = grind (arith, nat_tests) in
          let here : before.page n ≡ Some (v.bytes x.frame) = ap before.page at ∙ page_here in
          ap (λ (o : Option (List ℕ)). unwrap_or o (e.block n)) (pages_same n ∙ here)
          ∙ sym (ap (λ (o : Option (List ℕ)). unwrap_or o (d.block n)) here)
      by_test false test =
          let other : n ≢ b = grind (arith, nat_tests) in
          λ i. unwrap_or (pages_same n i) (disk.rest n other i)

  pub value_here : e.block b ≡ block_value e after b
  value_here = disk.set ∙ sym (ap (λ (o : Option (List ℕ)). unwrap_or o (e.block b)) (pages_same b ∙ page_here))

  holds_so : (n : ℕ) → HoldsBlock d v n → HoldsBlock e w n
  holds_so n k =
      let s = stands n k.entry k.stands in
      record { entry = s.now; stands = s.now_is; holds = λ within. by_test s within (n == b) refl }
    where
      by_test : (s : Stands n k.entry) → n < e.count → (t : Bool) → (n == b) ≡ t → w.bytes s.now.frame ≡ e.block n
      by_test s within true test =
          let at : n ≡ b = grind (arith, nat_tests) in
          let same : k.entry ≡ x = same_Some k.entry x (sym k.stands ∙ ap v.row at ∙ x_is) in
          ap w.bytes s.same ∙ bytes n k.entry k.stands ∙ ap (λ (z : Entry). v.bytes z.frame) same ∙ sym disk.set ∙ ap e.block (sym at)
      by_test s within false test =
          let other : n ≢ b = grind (arith, nat_tests) in
          ap w.bytes s.same ∙ bytes n k.entry k.stands ∙ k.holds (subst (λ (m : ℕ). n < m) disk.count within) ∙ sym (disk.rest n other)

  at_so : (p : CachePlace) → HoldsAt (calm p) hand d v → HoldsAt (calm p) hand e w
  at_so (at.Filling block) some = there (v.row block) refl some
    where
      there : (o : Option Entry) → v.row block ≡ o → is_some o ≡ true → is_some (w.row block) ≡ true
      there None is some = absurd (false≢true some)
      there (Some f) is some = let s = stands block f is in ap is_some s.now_is
  at_so (at.Leaving block) k =
      let s = stands block k.entry k.stands in
      let holds = holds_so hand k.at_hand in
      let s_hand = stands hand k.at_hand.entry k.at_hand.stands in
      record {
        apart = k.apart;
        at_hand = holds;
        entry = s.now;
        stands = s.now_is;
        same = s.same ∙ k.same ∙ sym s_hand.same
            ∙ ap (λ (z : Entry). z.frame) (same_Some s_hand.now holds.entry (sym s_hand.now_is ∙ holds.stands));
      }
  at_so _ none = tt

  pub stands_written : CacheStands e w (calm place) hand
  stands_written = record {
    block_below = h.block_below;
    hand_below = h.hand_below;
    cache = cache_so;
    entries = λ n f is. (stood n f is).is_block;
    dirty = λ n f is on.
        let s = stood n f is in
        subst (λ (m : ℕ). n < m) (sym disk.count)
        (h.dirty n s.was s.was_is (ap is_dirty (sym s.was_is) ∙ sym (dirty_row n) ∙ ap is_dirty is ∙ on));
    pages = λ n f is. let s = stood n f is in subst IsPage (sym (bytes_as n f s)) (h.pages n s.was s.was_is);
    apart = λ n m f g is js same.
        let s = stood n f is in
        let t = stood m g js in
        h.apart n m s.was t.was s.was_is t.was_is (sym s.same ∙ same ∙ t.same);
    at = at_so place h.at;
  }

-- ---- one behind the other

abbrev calm_at : KernelState → CachePlace
calm_at s = calm (cache_state s 0).place

abbrev calm_blocks : KernelState → CachedBlocks
calm_blocks s = cached_at (view_in s 0) (calm_at s)

-- The blocks before this one are on the disk, and what each holds is as it was.
pub record HoldsBefore (k : ℕ) (d e : Disk) (s t : KernelState) : Type 0 where
  pub stands : CacheStands e (view_in t 0) (calm_at t) (cache_state t 0).hand
  pub count : e.count ≡ d.count
  pub values : (n : ℕ) → block_value e (calm_blocks t) n ≡ block_value d (calm_blocks s) n
  pub before : (n : ℕ) → n < k → e.block n ≡ block_value e (calm_blocks t) n
  pub beyond : (n : ℕ) → d.count ≤ n → e.block n ≡ d.block n

abbrev pub IsWrittenTo : ℕ → Option Disk → KernelState → Option Disk → KernelState → Type 0
IsWrittenTo k None s after t = after ≡ None
IsWrittenTo k (Some d) s after t = CacheAt d s 0 → (e : Disk) × (after ≡ Some e) × HoldsBefore k d e s t

pub record IsWrittenSoFar (k : ℕ) (before now : World) : Type 0 where
  pub spaces : now.state ≡ with_spaces before.state now.state.spaces
  pub in_order : IsInOrder now.state
  pub told : IsWrittenTo k before.disk before.state now.disk now.state

pub same_slot : (s t : KernelState) → t ≡ with_spaces s t.spaces → slot_at t 0 ≡ slot_at s 0
same_slot s t same = λ i. slot_at (same i) 0

-- none yet
pub written_none : (disk : Option Disk) (s t : KernelState) → t ≡ s → IsInOrder t → IsWrittenSoFar 0 (beside s disk) (beside t disk)
written_none disk s t same order = record {
  spaces = subst (λ (x : KernelState). x ≡ with_spaces s x.spaces) (sym same) refl;
  in_order = order;
  told = subst (λ (x : KernelState). IsWrittenTo 0 disk s disk x) (sym same) (by_disk disk);
}
  where
    by_disk : (o : Option Disk) → IsWrittenTo 0 o s o s
    by_disk None = refl
    by_disk (Some d) = λ h. (
      d,
      refl,
      record {
        stands = calm_stands d (view_in s 0) (cache_state s 0).place (cache_state s 0).hand h.stands;
        count = refl;
        values = λ n. refl;
        before = λ n below. absurd (omega (arith, below));
        beyond = λ n past. refl;
      },
    )

-- the next is no dirty page, or is not filled
clean_value : (d : Disk) (s : KernelState) (b : ℕ) → IsCache d (calm_blocks s) → b < d.count → is_to_write s b ≡ false →
    d.block b ≡ block_value d (calm_blocks s) b
clean_value d s b cache below clean = by_page ((calm_blocks s).page b) refl
  where
    by_tests : (t u : Bool) → (not t && u) ≡ false → (if t then false else u) ≡ false
    by_tests true u is = refl
    by_tests false u is = is

    no_dirt : (calm_blocks s).dirty b ≡ false
    no_dirt =
        ap (λ (o : Option ℕ). if is_exactly b o then false else is_dirty (row_in s 0 b)) (calm_filling (cache_state s 0).place)
        ∙ by_tests (is_exactly b (filling_at (cache_state s 0).place)) (is_dirty (row_in s 0 b)) clean

    by_page : (o : Option (List ℕ)) → (calm_blocks s).page b ≡ o → d.block b ≡ unwrap_or o (d.block b)
    by_page None is = refl
    by_page (Some page) is = sym (cache.clean b page below is no_dirt)

pub written_clean : (k : ℕ) (disk later : Option Disk) (s t : KernelState) → is_to_write t k ≡ false →
    ((d : Disk) → disk ≡ Some d → k < d.count) → IsWrittenSoFar k (beside s disk) (beside t later) →
    IsWrittenSoFar (k + 1) (beside s disk) (beside t later)
written_clean k disk later s t clean within h = record { spaces = h.spaces; in_order = h.in_order; told = by_disk disk within h.told }
  where
    by_disk : (o : Option Disk) → ((d : Disk) → o ≡ Some d → k < d.count) → IsWrittenTo k o s later t → IsWrittenTo (k + 1) o s later t
    by_disk None within told = told
    by_disk (Some d) within told = λ at.
        let it = told at in
        let e = it.0 in
        let so = it.2 in (
          e,
          it.1,
          record {
            stands = so.stands;
            count = so.count;
            values = so.values;
            before = λ n below. elim (cases_lt n k) [
              | inl less ↦ so.before n less
              | inr past ↦
                  let here : n ≡ k = omega (arith, below, past) in
                  let inside : k < e.count = subst (λ (m : ℕ). k < m) (sym so.count) (within d refl) in
                  subst (λ (m : ℕ). e.block m ≡ block_value e (calm_blocks t) m) (sym here)
                  (clean_value e t k so.stands.cache inside clean)
            ];
            beyond = so.beyond;
          },
        )

-- ---- the next is written

sent_spaces : (s mid : KernelState) (disk : DiskFile) (b word : ℕ) (t : Bool) → IsSentBy t (of_block (caller s 0 disk) b) word mid →
    mid ≡ with_spaces s mid.spaces
sent_spaces s mid disk b word true sent = sent.1 ∙ (λ i. with_spaces s (sym sent.1 i).spaces)
sent_spaces s mid disk b word false sent = subst (λ (x : KernelState). x ≡ with_spaces s x.spaces) (sym sent.1) refl

behind_as : (s : KernelState) (disk : DiskFile) (b word : ℕ) (files : Around (Option Files)) (t : Bool) →
    FilesBehindBy {E = Failed} t (of_block (caller s 0 disk) b) (Ok word) files → FilesBehindBy {E = Stop} t (of_block (caller s 0 disk) b) (Ok word) files
behind_as s disk b word files false same = same
behind_as s disk b word files true same = by_files files.before same
  where
    by_files : (o : Option Files) →
        FilesBehindBy {E = Failed} true (of_block (caller s 0 disk) b) (Ok word) (record { before = o; after = files.after }) →
        FilesBehindBy {E = Stop} true (of_block (caller s 0 disk) b) (Ok word) (record { before = o; after = files.after })
    by_files None now = now
    by_files (Some old) now = now

to_write_some : (s : KernelState) (b : ℕ) → is_to_write s b ≡ true →
    (is_some (row_in s 0 b) ≡ true) × (is_exactly b (filling_at (calm_at s)) ≡ false)
to_write_some s b is =
    by_row (row_in s 0 b) (by_tests (is_exactly b (filling_at (cache_state s 0).place)) (is_dirty (row_in s 0 b)) is)
  where
    by_tests : (t u : Bool) → (not t && u) ≡ true → (t ≡ false) × (u ≡ true)
    by_tests true u is = absurd (false≢true is)
    by_tests false u is = (refl, is)

    by_row : (o : Option Entry) → (is_exactly b (filling_at (cache_state s 0).place) ≡ false) × (is_dirty o ≡ true) →
        (is_some o ≡ true) × (is_exactly b (filling_at (calm_at s)) ≡ false)
    by_row None k = absurd (false≢true k.1)
    by_row (Some e) k = (refl, ap (is_exactly b) (calm_filling (cache_state s 0).place) ∙ k.0)

module _ (k : ℕ) (file : DiskFile) (first told later : Option Files) (s t mid : KernelState) (word : ℕ) (output : Output) (dirty : is_to_write t k ≡ true)
    (within : k < file.blocks) (inside : k < CACHE_BLOCKS) (has : HasBlocks told file)
    (sent : IsBlockWrite (of_block (caller t 0 file) k) (Ok word) mid) (quiet : Prints output [])
    (behind : FilesBehind {E = Failed} (of_block (caller t 0 file) k) (Ok word) (from_to told later)) (order : IsInOrder mid)
    (h : IsWrittenSoFar k (beside s (told_disk first file)) (beside t (told_disk told file))) where
  pub mid_spaces : mid ≡ with_spaces t mid.spaces
  mid_spaces = sent_spaces t mid file k word (may_write_block (of_block (caller t 0 file) k)) sent

  spaces_so : mid ≡ with_spaces s mid.spaces
  spaces_so = mid_spaces ∙ (λ i. with_spaces (h.spaces i) mid.spaces)

  slot_so : slot_at mid 0 ≡ slot_at t 0
  slot_so = same_slot t mid mid_spaces

  some : (is_some (row_in t 0 k) ≡ true) × (is_exactly k (filling_at (calm_at t)) ≡ false)
  some = to_write_some t k dirty

  abbrev Comes : Disk → Disk → Disk → Type 0
  Comes d e f = HoldsBefore (k + 1) d f s mid

  -- over the disk that is told
  module _ (files : Files) (told_is : told ≡ Some files) (d : Disk) (at : CacheAt d s 0) (so : HoldsBefore k d (disk_in files file) s t) where
    abbrev e : Disk
    e = disk_in files file

    is_written : (after : Files) × (later ≡ Some after) × Written e (disk_in after file) (view_in t 0) (view_in mid 0) k
    is_written =
        block_is_written (caller t 0 file) files later k word (calm_at t) (cache_state t 0).hand mid output
        (record {
          in_order = h.in_order;
          live = ap is_live (same_slot s t h.spaces) ∙ at.live;
          server = ap (λ (x : Slot). is_file_server x.env_type) (same_slot s t h.spaces) ∙ at.server;
        })
        so.stands (subst (λ (o : Option Files). HasBlocks o file) told_is has) inside some.0 (sent, quiet)
        (behind_as t file k word (record { before = Some files; after = later }) (may_write_block (of_block (caller t 0 file) k))
        (subst (λ (o : Option Files). FilesBehind {E = Failed} (of_block (caller t 0 file) k) (Ok word) (from_to o later)) told_is behind))

    abbrev place_of : Slot → CachePlace
    place_of slot = calm (state_in slot.extra).place

    -- what is known of it in the slot's other words
    moved : (f : Disk) → CacheStands f (view_in mid 0) (calm_at t) (cache_state t 0).hand →
        ((n : ℕ) → block_value f (cached_at (view_in mid 0) (calm_at t)) n ≡ block_value d (calm_blocks s) n) →
        ((n : ℕ) → n < k + 1 → f.block n ≡ block_value f (cached_at (view_in mid 0) (calm_at t)) n) → f.count ≡ d.count →
        ((n : ℕ) → d.count ≤ n → f.block n ≡ d.block n) → HoldsBefore (k + 1) d f s mid
    moved f stands values before count beyond = record {
      stands = subst (λ (x : Slot). CacheStands f (view_in mid 0) (place_of x) (state_in x.extra).hand) (sym slot_so) stands;
      count = count;
      values = λ n.
          subst (λ (x : Slot). block_value f (cached_at (view_in mid 0) (place_of x)) n ≡ block_value d (calm_blocks s) n) (sym slot_so) (values n);
      before = λ n below.
          subst (λ (x : Slot). f.block n ≡ block_value f (cached_at (view_in mid 0) (place_of x)) n) (sym slot_so) (before n below);
      beyond = beyond;
    }

    by_written : (f : Disk) → Written e f (view_in t 0) (view_in mid 0) k → HoldsBefore (k + 1) d f s mid
    by_written f (not_there past same kept) = absurd (omega (arith, past, within))
    by_written f (written x y x_is below disk row frame entry bit used bytes) =
        moved f
        (stands_written e f (view_in t 0) (view_in mid 0) (cache_state t 0).place (cache_state t 0).hand k so.stands some.1 x y x_is below disk row frame
        entry bit bytes)
        (λ n. value n ∙ so.values n)
        (λ n less. elim (cases_lt n k) [
          | inl earlier ↦
              let other : n ≢ k = (λ same. absurd (omega (arith, earlier, same))) in
              disk.rest n other ∙ so.before n earlier ∙ sym (value n)
          | inr past ↦
              let here : n ≡ k = omega (arith, less, past) in
              subst (λ (m : ℕ). f.block m ≡ block_value f (cached_at (view_in mid 0) (calm_at t)) m) (sym here)
              (value_here e f (view_in t 0) (view_in mid 0) (cache_state t 0).place (cache_state t 0).hand k so.stands some.1 x y x_is below disk row
              frame entry bit bytes)
        ])
        (disk.count ∙ so.count)
        (λ n past.
        let other : n ≢ k = (λ same. absurd (let all : e.count ≡ d.count = so.count in omega (arith, within, past, same, all))) in
        disk.rest n other ∙ so.beyond n past)
      where
        value : (n : ℕ) → block_value f (cached_at (view_in mid 0) (calm_at t)) n ≡ block_value e (calm_blocks t) n
        value =
            values_same e f (view_in t 0) (view_in mid 0) (cache_state t 0).place (cache_state t 0).hand k so.stands some.1 x y x_is below disk row frame
            entry bit bytes

  told_none : told ≡ None → later ≡ None
  told_none none = by_may (may_write_block (of_block (caller t 0 file) k)) behind
    where
      by_may : (c : Bool) → FilesBehindBy {E = Failed} c (of_block (caller t 0 file) k) (Ok word) (from_to told later) → later ≡ None
      by_may false same = same ∙ none
      by_may true now =
          subst (λ (o : Option Files). FilesBehindBy {E = Failed} true (of_block (caller t 0 file) k) (Ok word) (from_to o later)) none now

  told_so : IsWrittenTo (k + 1) (told_disk first file) s (told_disk later file) mid
  told_so = by_first (told_disk first file) h.told
    where
      by_told : (d : Disk) → CacheAt d s 0 → (o : Option Files) → told ≡ o → (e : Disk) → told_disk o file ≡ Some e → HoldsBefore k d e s t →
          (f : Disk) × (told_disk later file ≡ Some f) × HoldsBefore (k + 1) d f s mid
      by_told d at None is e same so = absurd (none-some e same)
      by_told d at (Some files) is e same so =
          let there = same_Some (disk_in files file) e same in
          let it = is_written files is d at (subst (λ (x : Disk). HoldsBefore k d x s t) (sym there) so) in (
            disk_in it.0 file,
            ap (λ (o : Option Files). told_disk o file) it.1,
            by_written files is d at (subst (λ (x : Disk). HoldsBefore k d x s t) (sym there) so) (disk_in it.0 file) it.2,
          )

      by_none : (o : Option Files) → told ≡ o → told_disk o file ≡ None → told_disk later file ≡ None
      by_none None is none = ap (λ (x : Option Files). told_disk x file) (told_none is)
      by_none (Some files) is none = absurd (none-some (disk_in files file) (sym none))

      by_first : (o : Option Disk) → IsWrittenTo k o s (told_disk told file) t → IsWrittenTo (k + 1) o s (told_disk later file) mid
      by_first None none = by_none told refl none
      by_first (Some d) so = λ at. let it = so at in by_told d at told refl it.0 it.1 it.2

  pub written_next : IsWrittenSoFar (k + 1) (beside s (told_disk first file)) (beside mid (told_disk later file))
  written_next = record { spaces = spaces_so; in_order = order; told = told_so }

-- ---- all of them

pub written_all : (k count : ℕ) (disk later : Option Disk) (s t : KernelState) → min count CACHE_BLOCKS ≤ k →
    ((d : Disk) → disk ≡ Some d → d.count ≡ count) → IsWrittenSoFar k (beside s disk) (beside t later) → IsWrittenBack (beside s disk) (beside t later)
written_all k count disk later s t enough counts h = record { spaces = h.spaces; blocks = by_disk disk counts h.told }
  where
    value_calm : (d : Disk) (n : ℕ) → block_value d (calm_blocks s) n ≡ block_value d (cached_in s 0) n
    value_calm d n =
        ap (λ (o : Option ℕ). unwrap_or (if is_exactly n o then None else option_map (λ (e : Entry). s.spaces.pages e.frame) (row_in s 0 n)) (d.block n))
        (calm_filling (cache_state s 0).place)

    -- a block that may have no page is what the disk holds
    past_value : (e : Disk) (n : ℕ) → CACHE_BLOCKS ≤ n → e.block n ≡ block_value e (calm_blocks t) n
    past_value e n past = by_test (is_exactly n (filling_at (calm_at t)))
      where
        none : row_in t 0 n ≡ None
        none = row_past t.spaces (slot_at t 0).directory n past

        by_test : (c : Bool) → e.block n ≡ unwrap_or (if c then None else option_map (λ (f : Entry). t.spaces.pages f.frame) (row_in t 0 n)) (e.block n)
        by_test true = refl
        by_test false = sym (ap (λ (o : Option Entry). unwrap_or (option_map (λ (f : Entry). t.spaces.pages f.frame) o) (e.block n)) none)

    holds : (d e : Disk) → d.count ≡ count → HoldsBefore k d e s t → HoldsCache d e (cached_in s 0)
    holds d e counted so = record {
      count = so.count;
      blocks = λ n below. here n below ∙ so.values n ∙ value_calm d n;
      beyond = so.beyond;
    }
      where
        here : (n : ℕ) → n < d.count → e.block n ≡ block_value e (calm_blocks t) n
        here n below = elim (cases_lt n k) [
          | inl earlier ↦ so.before n earlier
          | inr past ↦ past_value e n (omega (arith, enough, below, past, counted))
        ]

    by_disk : (o : Option Disk) → ((d : Disk) → o ≡ Some d → d.count ≡ count) → IsWrittenTo k o s later t → IsWrittenOver o s later
    by_disk None counts none = none
    by_disk (Some d) counts so = λ at. let it = so at in (it.0, it.1, holds d it.0 (counts d refl) it.2)

-- how many blocks the disk has that is told
pub count_told : (files : Option Files) (file : DiskFile) (d : Disk) → told_disk files file ≡ Some d → d.count ≡ file.blocks
count_told None file d is = absurd (none-some d is)
count_told (Some files) file d is = ap (λ (x : Disk). x.count) (sym (same_Some (disk_in files file) d is))

pub count_within : (files : Option Files) (file : DiskFile) (k : ℕ) → k < file.blocks → (d : Disk) → told_disk files file ≡ Some d → k < d.count
count_within files file k below d is = subst (λ (n : ℕ). k < n) (sym (count_told files file d is)) below

-- whether a block is to be written, by what is looked at
pub to_write_told : (s : KernelState) (n b va : ℕ) (filling dirty : Bool) → n ≡ 0 → b < CACHE_BLOCKS → va ≡ block_address b → filling ≡ false →
    filling ≡ is_exactly b (filling_at (state_in (slot_at s n).extra).place) →
    dirty ≡ is_dirty (s.spaces.entries (slot_at s n).directory (page_number va)) → dirty ≡ is_to_write s b
to_write_told s n b va filling dirty first below address none told is =
    is ∙ (λ i. is_dirty (s.spaces.entries (slot_at s (first i)).directory (page_number (address i))))
    ∙ (λ i. is_dirty (s.spaces.entries (slot_at s 0).directory (own_number b i)))
    ∙ ap is_dirty (sym (row_below s.spaces (slot_at s 0).directory b below))
    ∙ ap (λ (t : Bool). not t && is_dirty (row_in s 0 b))
    (sym (sym (told ∙ (λ i. is_exactly b (filling_at (state_in (slot_at s (first i)).extra).place))) ∙ none))

-- Where no environment stands in slot 0 nothing is written.
pub written_nothing : (disk : Option Disk) (s t : KernelState) → t ≡ s → is_live (slot_at s 0) ≡ false → IsWrittenBack (beside s disk) (beside t disk)
written_nothing disk s t same dead = record {
  spaces = subst (λ (x : KernelState). x ≡ with_spaces s x.spaces) (sym same) refl;
  blocks = by_disk disk;
}
  where
    by_disk : (o : Option Disk) → IsWrittenOver o s o
    by_disk None = refl
    by_disk (Some d) = λ at. absurd (false≢true (sym dead ∙ at.live))
