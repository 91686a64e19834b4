-- Where nothing changes that the cache sees, it stands as it stood, and has what it had.
use Rattle.std.proofs.Common.{◌≡◌, ◌∙◌, ◌/◌, ℕ, Bool, true, false, List, Option, Some, None, refl, sym, ap, subst, if◌then◌else◌}
use Rattle.std.specs.Prelude.{is_some}
use Rattle.std.specs.Option.{option_map}
use Rattle.jos_base.specs.declared.numbers.TheConstants.{NPTENTRIES}
use Rattle.jos_base.specs.Reach.{Entry}
use Rattle.jos_base.specs.Words.{is_exactly}
use Rattle.lib_os.specs.BlockCache.{CachedBlocks, IsCache, is_dirty}
use Rattle.lib_os.specs.Disk.{Disk}
use Rattle.lib_os.specs.Rows.{IsPage}
use Rattle.fs_blocks.specs.declared.place.CachePlace.{CachePlace}
use Rattle.fs_blocks.specs.declared.place.CachePlace.TheVariants as at
use Rattle.fs_cache.specs.CacheStands.{CacheStands, CacheView, HoldsAt, IsBoths, cached_at, filling_at, was_used}
use Rattle.fs_cache.proofs.MovesGoing.{block_kept, clean_kept, given_kept, seeking_kept}
use Rattle.fs_cache.proofs.Views.{ViewKept}

module _ (d : Disk) (v w : CacheView) (k : ViewKept v w) where
  some_kept : (n : ℕ) → is_some (v.row n) ≡ true → is_some (w.row n) ≡ true
  some_kept n is = ap (λ (o : Option Entry). is_some o) (k.row n) ∙ is

  used_kept : (n : ℕ) → was_used (v.row n) ≡ true → was_used (w.row n) ≡ true
  used_kept n is = ap (λ (o : Option Entry). was_used o) (k.row n) ∙ is

  none_kept : (n : ℕ) → v.row n ≡ None → w.row n ≡ None
  none_kept n is = k.row n ∙ is

  boths_kept : (hand block : ℕ) → IsBoths d v hand block → IsBoths d w hand block
  boths_kept hand block h = record {
    apart = h.apart;
    at_hand = record {
      entry = h.at_hand.entry;
      stands = k.row hand ∙ h.at_hand.stands;
      holds = λ below. k.bytes hand h.at_hand.entry h.at_hand.stands ∙ h.at_hand.holds below;
    };
    entry = h.entry;
    stands = k.row block ∙ h.stands;
    same = h.same;
  }

  holds_kept : (place : CachePlace) (hand : ℕ) → HoldsAt place hand d v → HoldsAt place hand d w
  holds_kept at.Resting hand h = h
  holds_kept (at.Found block) hand h = some_kept block h
  holds_kept (at.LookingRegion block) hand h = h
  holds_kept (at.LookingPage block) hand h = k.tables (block / NPTENTRIES) h
  holds_kept (at.Taking block) hand h = none_kept block h
  holds_kept (at.Filling block) hand h = some_kept block h
  holds_kept (at.Settling block) hand h = block_kept d v w k block h
  holds_kept (at.HandRegion block left) hand h = seeking_kept d v w k hand block left h
  holds_kept (at.HandPage block left) hand h = (seeking_kept d v w k hand block left h.0, k.tables (hand / NPTENTRIES) h.1)
  holds_kept (at.WritingBack block) hand h = (none_kept block h.0, used_kept hand h.1)
  holds_kept (at.Passing block) hand h = (given_kept d v w k hand block h.0, used_kept hand h.1)
  holds_kept (at.Moving block) hand h = given_kept d v w k hand block h
  holds_kept (at.Leaving block) hand h = boths_kept hand block h
  holds_kept (at.Freeing block) hand h = given_kept d v w k hand block h
  holds_kept (at.TakingLast block) hand h = λ n below. none_kept n (h n below)
  holds_kept (at.FlushRegion block) hand h = clean_kept d v w k block h
  holds_kept (at.FlushPage block) hand h = (clean_kept d v w k block h.0, k.tables (block / NPTENTRIES) h.1)
  holds_kept (at.FlushWriting block) hand h = (clean_kept d v w k block h.0, some_kept block h.1, k.tables (block / NPTENTRIES) h.2)
  holds_kept (at.FlushSettling block) hand h = (clean_kept d v w k block h.0, block_kept d v w k block h.1, k.tables (block / NPTENTRIES) h.2)

  page_same : (m : ℕ) (out : Bool) →
      ◌≡◌ {A = Option (List ℕ)} (if out then None else option_map (λ (e : Entry). w.bytes e.frame) (w.row m))
      (if out then None else option_map (λ (e : Entry). v.bytes e.frame) (v.row m))
  page_same m true = refl
  page_same m false = ap (λ (o : Option Entry). option_map (λ (e : Entry). w.bytes e.frame) o) (k.row m) ∙ by_entry (v.row m) refl
    where
      by_entry : (o : Option Entry) → v.row m ≡ o → option_map (λ (e : Entry). w.bytes e.frame) o ≡ option_map (λ (e : Entry). v.bytes e.frame) o
      by_entry None is = refl
      by_entry (Some e) is = ap (λ (page : List ℕ). Some page) (k.bytes m e is)

  pub cached_kept : (place : CachePlace) → cached_at w place ≡ cached_at v place
  cached_kept place = λ i. record {
    page = λ m. page_same m (is_exactly m (filling_at place)) i;
    dirty = λ m. if is_exactly m (filling_at place) then false else is_dirty (k.row m i);
  }

  pub stands_kept : (place : CachePlace) (hand : ℕ) → CacheStands d v place hand → CacheStands d w place hand
  stands_kept place hand h = record {
    block_below = h.block_below;
    hand_below = h.hand_below;
    cache = subst (λ (c : CachedBlocks). IsCache d c) (sym (cached_kept place)) h.cache;
    entries = λ m x is. h.entries m x (sym (k.row m) ∙ is);
    dirty = λ m x is on. h.dirty m x (sym (k.row m) ∙ is) on;
    pages = λ m x is.
        let was : v.row m ≡ Some x = sym (k.row m) ∙ is in
        subst (λ (page : List ℕ). IsPage page) (sym (k.bytes m x was)) (h.pages m x was);
    apart = λ m o x y x_is y_is. h.apart m o x y (sym (k.row m) ∙ x_is) (sym (k.row o) ∙ y_is);
    at = holds_kept place hand h.at;
  }
