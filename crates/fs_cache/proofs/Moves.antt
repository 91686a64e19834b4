-- A call of the cache, place by place: the cache stands where it goes, and each block holds what it held.
use Rattle.std.proofs.Common.{◌≡◌, ◌≢◌, ◌∙◌, ◌<◌, ◌≤◌, ◌+◌, ◌/◌, ◌%◌, ◌==◌, ◌&&◌, ◌⊎◌, inl, inr, ℕ, Bool, true, false, Option, Some, None, refl, sym, ap, subst, arith}
use Rattle.std.proofs.lemmas.Bool.{cases_eq}
use Rattle.jos_base.specs.declared.numbers.TheConstants.{NPTENTRIES, PTE_D}
use Rattle.jos_base.specs.Reach.{Entry}
use Rattle.jos_base.specs.Words.{has_bit}
use Rattle.lib_os.specs.declared.numbers.TheConstants.{CACHE_BLOCKS}
use Rattle.lib_os.specs.BlockCache.{is_dirty}
use Rattle.lib_os.specs.Disk.{Disk}
use Rattle.fs_blocks.specs.declared.place.CachePlace.{CachePlace}
use Rattle.fs_blocks.specs.declared.place.CachePlace.TheVariants as at
use Rattle.fs_blocks.specs.declared.plan.CacheNext.{CacheNext}
use Rattle.fs_blocks.specs.declared.plan.Told.TheVariants as told
use Rattle.fs_blocks.specs.CachePlans.{block_of, flush_from, further, go_on, is_there, is_written, next_by, pass, rest_of_region, weigh}
use Rattle.fs_cache.specs.CacheStands.{CacheView, CacheStands, AreClean, ArePassingOn, HoldsBlock, filling_at, was_used}
use Rattle.fs_cache.proofs.Views.{BytesKept, DiskSet, DoneAt, EndsRightly, Filled, MappedTo, ReadEntry, ReadRegion, RowSet, StandsBehind, TookPage, Unmapped, ViewKept, Written, filled, mapped, not_there, refused, took, written}
use Rattle.fs_cache.proofs.MovesBearing.{Bears, Carried, bears, entry_of, exactly_other, goes, kept, not_both, not_some, some_same}
use Rattle.fs_cache.proofs.MovesKinds.{Nobody, anew_clean, anew_stands, mapped_anew, page_entered, page_filled, page_gone, page_moved, page_taken}
use Rattle.fs_cache.proofs.MovesGoing.{Rightly, by_test, clean_kept, clean_there, entry_there, flushing_on, given_kept, going, none_there, passing, seeking_kept, some_there, weighing}
use Rattle.fs_cache.proofs.MovesRound.{further_below, next_region, next_region_of_flush, one_ahead, rest_ahead, rest_few, rest_is_region, same_region, same_region_of_flush}

-- a block that has a page is not one that has none
beside : (v : CacheView) (hand block : ℕ) (x : Entry) → v.row hand ≡ Some x → v.row block ≡ None → block ≢ hand
beside v hand block x stands wanted same = not_some (v.row block) x wanted (ap v.row same ∙ stands)

-- all is as it was, and no page is filled or passed on
still : (d : Disk) (v w : CacheView) → Bears d v None Nobody → ViewKept v w → Carried d d v w None None Nobody
still d v w h k = kept d v w None None Nobody h k (λ n below. refl)

abbrev no_page : ℕ → CacheNext
no_page hand = record { state = record { place = at.Resting; hand = hand }; told = told.NoPage }

before_or_not : (n b : ℕ) → (n < b) ⊎ (b ≤ n)
before_or_not n b = grind arith

and_first : (s t : Bool) → (s && t) ≡ true → s ≡ true
and_first true t is = refl
and_first false t is = is

and_not : (s t : Bool) → (s && t) ≡ false → s ≡ true → t ≡ false
and_not true t not is = not
and_not false t not is = not_both false is refl

-- what was used is there
used_there : (o : Option Entry) → was_used o ≡ true → (x : Entry) × (o ≡ Some x)
used_there None is = not_both false is refl
used_there (Some x) is = (x, refl)

-- what is known of a block's page, by its entry
holds_by : (d : Disk) (v : CacheView) (n : ℕ) (x : Entry) → HoldsBlock d v n → v.row n ≡ Some x → n < d.count → v.bytes x.frame ≡ d.block n
holds_by d v n x h stands below =
    ap (λ (e : Entry). v.bytes e.frame) (some_same x h.entry (sym stands ∙ h.stands)) ∙ h.holds below

-- a page that is mapped onto itself
mapped_anew_there : (d : Disk) (v w : CacheView) (b : ℕ) (x : Entry) → Bears d v None Nobody → v.row b ≡ Some x →
    RowSet v w b (Some (mapped_anew x.frame)) → BytesKept v w → (b < d.count → v.bytes x.frame ≡ d.block b) → Carried d d v w None None Nobody
mapped_anew_there d v w b x h stands set bytes holds =
    page_entered d v w b d x (mapped_anew x.frame) h stands set refl (anew_stands x.frame)
    (λ on. not_both (has_bit (mapped_anew x.frame).perm PTE_D) on (anew_clean x.frame)) bytes refl (λ m ne. refl) (λ below clean. holds below)

-- a page that was written to its block
written_holds : (d e : Disk) (v w : CacheView) (n : ℕ) (x y : Entry) → v.row n ≡ Some x → DiskSet d e n (v.bytes x.frame) →
    RowSet v w n (Some y) → y.frame ≡ x.frame → BytesKept v w → HoldsBlock e w n
written_holds d e v w n x y stands disk set same bytes = record {
  entry = y;
  stands = set.set;
  holds = λ below. ap w.bytes same ∙ bytes n x stands ∙ sym disk.set;
}

-- the pages before one that is given an entry
clean_before : (v w : CacheView) (b : ℕ) (y : Entry) → RowSet v w b (Some y) → AreClean v.row b → AreClean w.row b
clean_before v w b y set clean n below =
    ap (λ (o : Option Entry). is_dirty o) (set.rest n (λ same. omega arith)) ∙ clean n below

-- ---- a block is wanted

module _ (d : Disk) (v w : CacheView) (b hand word : ℕ) where
  looking_region : CacheStands d v (at.LookingRegion b) hand → ReadRegion v w b word →
      Rightly d d v w (at.LookingRegion b) (next_by (at.LookingRegion b) hand word)
  looking_region h r =
      let c = still d v w (bears d v (at.LookingRegion b) hand h) r.kept in
      by_test (Rightly d d v w (at.LookingRegion b)) (is_there word) (go_on (at.LookingPage b) hand) (go_on (at.Taking b) hand)
      (λ is. going d d v w (at.LookingRegion b) (at.LookingPage b) hand c h.block_below h.hand_below
      (r.kept.tables (b / NPTENTRIES) (sym r.tells ∙ is)))
      (λ not. going d d v w (at.LookingRegion b) (at.Taking b) hand c h.block_below h.hand_below
      (r.kept.row b ∙ r.none not b refl))

  looking_page : CacheStands d v (at.LookingPage b) hand → ReadEntry v w b word →
      Rightly d d v w (at.LookingPage b) (next_by (at.LookingPage b) hand word)
  looking_page h r =
      let c = still d v w (bears d v (at.LookingPage b) hand h) r.kept in
      by_test (Rightly d d v w (at.LookingPage b)) (is_there word) (go_on (at.Found b) hand) (go_on (at.Taking b) hand)
      (λ is.
      let there = entry_there v w b word r is in
      going d d v w (at.LookingPage b) (at.Found b) hand c h.block_below h.hand_below
      (some_there (w.row b) there.0 (r.kept.row b ∙ there.1)))
      (λ not. going d d v w (at.LookingPage b) (at.Taking b) hand c h.block_below h.hand_below
      (r.kept.row b ∙ none_there v w b word r not))

  taking : CacheStands d v (at.Taking b) hand → TookPage v w b word → Rightly d d v w (at.Taking b) (next_by (at.Taking b) hand word)
  taking h (took frame zero set page lone bytes) =
      let c = page_taken d v w b frame (bears d v (at.Taking b) hand h) h.at set page lone bytes in
      by_test (Rightly d d v w (at.Taking b)) (word == 0) (go_on (at.Filling b) hand) (go_on (at.HandRegion b CACHE_BLOCKS) hand)
      (λ is. going d d v w (at.Taking b) (at.Filling b) hand c h.block_below h.hand_below (some_there (w.row b) _ set.set))
      (λ not. not_both (word == 0) (ap (λ (n : ℕ). n == 0) zero) not)
  taking h (refused other k) =
      let c = still d v w (bears d v (at.Taking b) hand h) k in
      by_test (Rightly d d v w (at.Taking b)) (word == 0) (go_on (at.Filling b) hand) (go_on (at.HandRegion b CACHE_BLOCKS) hand)
      (λ is. not_both (word == 0) is other)
      (λ not. going d d v w (at.Taking b) (at.HandRegion b CACHE_BLOCKS) hand c h.block_below h.hand_below
      (record { wanted = k.row b ∙ h.at; some = omega arith; none = λ i from index. absurd (omega arith) }))

  taking_last : CacheStands d v (at.TakingLast b) hand → TookPage v w b word →
      Rightly d d v w (at.TakingLast b) (next_by (at.TakingLast b) hand word)
  taking_last h (took frame zero set page lone bytes) =
      let c = page_taken d v w b frame (bears d v (at.TakingLast b) hand h) (h.at b h.block_below) set page lone bytes in
      by_test (Rightly d d v w (at.TakingLast b)) (word == 0) (go_on (at.Filling b) hand) (no_page hand)
      (λ is. going d d v w (at.TakingLast b) (at.Filling b) hand c h.block_below h.hand_below (some_there (w.row b) _ set.set))
      (λ not. not_both (word == 0) (ap (λ (n : ℕ). n == 0) zero) not)
  taking_last h (refused other k) =
      let c = still d v w (bears d v (at.TakingLast b) hand h) k in
      by_test (Rightly d d v w (at.TakingLast b)) (word == 0) (go_on (at.Filling b) hand) (no_page hand)
      (λ is. not_both (word == 0) is other)
      (λ not. (
        goes d d v w (at.TakingLast b) at.Resting hand c (omega arith) h.hand_below tt,
        (λ is m index. k.row m ∙ h.at m index, λ is. absurd (not_clean is)),
      ))
    where
      not_clean : told.NoPage ≡ told.Clean → ⊥
      not_clean is = cc

  filling : CacheStands d v (at.Filling b) hand → Filled d v w b → Rightly d d v w (at.Filling b) (next_by (at.Filling b) hand word)
  filling h (filled x y stands few set same entry bytes page others) =
      going d d v w (at.Filling b) (at.Settling b) hand
      (page_filled d v w b x y (bears d v (at.Filling b) hand h) stands few set same entry bytes page others) h.block_below h.hand_below
      (record { entry = y; stands = set.set; holds = λ below. ap w.bytes same ∙ bytes })
  filling h (not_there past k) =
      let there = entry_of (v.row b) h.at in
      going d d v w (at.Filling b) (at.Settling b) hand
      (kept d v w (Some b) None Nobody (bears d v (at.Filling b) hand h) k (λ n below. sym (exactly_other n b (λ same. omega arith))))
      h.block_below h.hand_below
      (record { entry = there.0; stands = k.row b ∙ there.1; holds = λ below. absurd (omega arith) })

  settling : CacheStands d v (at.Settling b) hand → MappedTo v w b b word → Rightly d d v w (at.Settling b) (next_by (at.Settling b) hand word)
  settling h (mapped x stands zero set bytes) =
      let holds = holds_by d v b x h.at stands in
      going d d v w (at.Settling b) (at.Found b) hand (mapped_anew_there d v w b x (bears d v (at.Settling b) hand h) stands set bytes holds)
      h.block_below h.hand_below (some_there (w.row b) _ set.set)
  settling h (refused apart other k) = absurd (apart refl)

-- ---- the hand looks for a page

module _ (d : Disk) (v w : CacheView) (b hand word : ℕ) where
  hand_region : (left : ℕ) → CacheStands d v (at.HandRegion b left) hand → ReadRegion v w hand word →
      Rightly d d v w (at.HandRegion b left) (next_by (at.HandRegion b left) hand word)
  hand_region left h r =
      let c = still d v w (bears d v (at.HandRegion b left) hand h) r.kept in
      let seeking = seeking_kept d v w r.kept hand b left h.at in
      by_test (Rightly d d v w (at.HandRegion b left)) (is_there word) (go_on (at.HandPage b left) hand) (pass b hand left (rest_of_region hand))
      (λ is. going d d v w (at.HandRegion b left) (at.HandPage b left) hand c h.block_below h.hand_below
      (seeking, r.kept.tables (hand / NPTENTRIES) (sym r.tells ∙ is)))
      (λ not. passing d v w (at.HandRegion b left) b hand c h.block_below h.hand_below left (rest_of_region hand) (rest_few hand) seeking
      (rest_ahead w.row hand h.hand_below (λ n same. r.kept.row n ∙ r.none not n same))
      (λ within. not_both (further hand (rest_of_region hand) % NPTENTRIES == 0)
      (ap (λ (n : ℕ). n == 0) (next_region hand h.hand_below)) within))

  hand_page : (left : ℕ) → CacheStands d v (at.HandPage b left) hand → ReadEntry v w hand word →
      Rightly d d v w (at.HandPage b left) (next_by (at.HandPage b left) hand word)
  hand_page left h r =
      let c = still d v w (bears d v (at.HandPage b left) hand h) r.kept in
      let seeking = seeking_kept d v w r.kept hand b left h.at.0 in
      by_test (Rightly d d v w (at.HandPage b left)) (is_there word) (weigh b hand word) (pass b hand left 1)
      (λ is.
      let there = entry_there v w hand word r is in
      let told = r.some there.0 there.1 in
      weighing d v w (at.HandPage b left) b hand c h.block_below h.hand_below word there.0 seeking.wanted
      (r.kept.row hand ∙ there.1) told.1 told.2)
      (λ not. passing d v w (at.HandPage b left) b hand c h.block_below h.hand_below left 1 (omega arith) seeking
      (one_ahead w.row hand h.hand_below (r.kept.row hand ∙ none_there v w hand word r not))
      (λ within. subst (λ (n : ℕ). w.tables n ≡ true) (sym (same_region hand h.hand_below within))
      (r.kept.tables (hand / NPTENTRIES) h.at.1)))

  passing_by : CacheStands d v (at.Passing b) hand → MappedTo v w hand hand word → Rightly d d v w (at.Passing b) (next_by (at.Passing b) hand word)
  passing_by h (mapped x stands zero set bytes) =
      let given = h.at.0 in
      let holds = holds_by d v hand x given.at_hand stands in
      going d d v w (at.Passing b) (at.HandRegion b CACHE_BLOCKS) (further hand 1)
      (mapped_anew_there d v w hand x (bears d v (at.Passing b) hand h) stands set bytes holds)
      h.block_below (further_below hand 1)
      (record {
        wanted = set.rest b (beside v hand b x stands given.wanted) ∙ given.wanted;
        some = omega arith;
        none = λ i from index. absurd (omega arith);
      })
  passing_by h (refused apart other k) = absurd (apart refl)

  moving : CacheStands d v (at.Moving b) hand → MappedTo v w hand b word → Rightly d d v w (at.Moving b) (next_by (at.Moving b) hand word)
  moving h (mapped x stands zero set bytes) =
      let ne : hand ≢ b = λ same. beside v hand b x stands h.at.wanted (sym same) in
      let c = page_moved d v w b hand x (bears d v (at.Moving b) hand h) stands h.at.wanted set bytes in
      let at_hand : HoldsBlock d w hand = record {
        entry = x;
        stands = set.rest hand ne ∙ stands;
        holds = λ below. bytes hand x stands ∙ holds_by d v hand x h.at.at_hand stands below;
      } in
      by_test (Rightly d d v w (at.Moving b)) (word == 0) (go_on (at.Leaving b) hand) (go_on (at.Freeing b) hand)
      (λ is. going d d v w (at.Moving b) (at.Leaving b) hand c h.block_below h.hand_below
      (record { apart = ne; at_hand = at_hand; entry = mapped_anew x.frame; stands = set.set; same = refl }))
      (λ not. not_both (word == 0) (ap (λ (n : ℕ). n == 0) zero) not)
  moving h (refused apart other k) =
      let c = still d v w (bears d v (at.Moving b) hand h) k in
      by_test (Rightly d d v w (at.Moving b)) (word == 0) (go_on (at.Leaving b) hand) (go_on (at.Freeing b) hand)
      (λ is. not_both (word == 0) is other)
      (λ not. going d d v w (at.Moving b) (at.Freeing b) hand c h.block_below h.hand_below (given_kept d v w k hand b h.at))

  leaving : CacheStands d v (at.Leaving b) hand → Unmapped v w hand → Rightly d d v w (at.Leaving b) (next_by (at.Leaving b) hand word)
  leaving h gone =
      let boths = h.at in
      going d d v w (at.Leaving b) (at.Filling b) (further hand 1)
      (page_gone d v w hand (Some b) (ArePassingOn (at.Leaving b) hand) (bears d v (at.Leaving b) hand h)
      (exactly_other hand b boths.apart) boths.at_hand gone one_of_both)
      h.block_below (further_below hand 1)
      (some_there (w.row b) boths.entry (gone.row.rest b (λ same. boths.apart (sym same)) ∙ boths.stands))
    where
      one_of_both : (n m : ℕ) → n ≢ hand → m ≢ hand → ArePassingOn (at.Leaving b) hand n m → ⊥
      one_of_both n m first second (inl both) = second both.1
      one_of_both n m first second (inr both) = first both.0

  freeing : CacheStands d v (at.Freeing b) hand → Unmapped v w hand → Rightly d d v w (at.Freeing b) (next_by (at.Freeing b) hand word)
  freeing h gone =
      let given = h.at in
      going d d v w (at.Freeing b) (at.Taking b) (further hand 1)
      (page_gone d v w hand None Nobody (bears d v (at.Freeing b) hand h) refl given.at_hand gone (λ n m first second both. both))
      h.block_below (further_below hand 1)
      (gone.row.rest b (beside v hand b given.at_hand.entry given.at_hand.stands given.wanted) ∙ given.wanted)

module _ (d e : Disk) (v w : CacheView) (b hand word : ℕ) where
  writing_back : CacheStands d v (at.WritingBack b) hand → Written d e v w hand →
      Rightly d e v w (at.WritingBack b) (next_by (at.WritingBack b) hand word)
  writing_back h (written x y stands few disk set same entry bits used bytes) =
      going d e v w (at.WritingBack b) (at.Passing b) hand
      (page_entered d v w hand e x y (bears d v (at.WritingBack b) hand h) stands set same entry
      (λ on. subst (λ (k : ℕ). hand < k) (sym disk.count) few) bytes disk.count disk.rest
      (λ below clean. sym disk.set))
      h.block_below h.hand_below (
        record {
          wanted = set.rest b (beside v hand b x stands h.at.0) ∙ h.at.0;
          at_hand = written_holds d e v w hand x y stands disk set same bytes;
        },
        ap (λ (o : Option Entry). was_used o) set.set ∙ used,
      )
  writing_back h (not_there past alike k) =
      let there = used_there (v.row hand) h.at.1 in
      subst (λ (x : Disk). Rightly d x v w (at.WritingBack b) (next_by (at.WritingBack b) hand word)) (sym alike)
      (going d d v w (at.WritingBack b) (at.Passing b) hand (still d v w (bears d v (at.WritingBack b) hand h) k) h.block_below h.hand_below (
        record {
          wanted = k.row b ∙ h.at.0;
          at_hand = record { entry = there.0; stands = k.row hand ∙ there.1; holds = λ below. absurd (omega arith) };
        },
        ap (λ (o : Option Entry). was_used o) (k.row hand) ∙ h.at.1,
      ))

-- ---- the flush

module _ (d : Disk) (v w : CacheView) (b hand word : ℕ) where
  flush_region : CacheStands d v (at.FlushRegion b) hand → ReadRegion v w b word →
      Rightly d d v w (at.FlushRegion b) (next_by (at.FlushRegion b) hand word)
  flush_region h r =
      let c = still d v w (bears d v (at.FlushRegion b) hand h) r.kept in
      let clean = clean_kept d v w r.kept b h.at in
      by_test (Rightly d d v w (at.FlushRegion b)) (is_there word) (go_on (at.FlushPage b) hand) (flush_from (block_of b + rest_of_region b) hand)
      (λ is. going d d v w (at.FlushRegion b) (at.FlushPage b) hand c h.block_below h.hand_below
      (clean, r.kept.tables (b / NPTENTRIES) (sym r.tells ∙ is)))
      (λ not. flushing_on d v w (at.FlushRegion b) (block_of b + rest_of_region b) hand c h.hand_below
      (λ n below. elim (before_or_not n b) [
        | inl before ↦ clean n before
        | inr from ↦
            ap (λ (o : Option Entry). is_dirty o) (r.kept.row n ∙ r.none not n (rest_is_region b n h.block_below from below))
      ])
      (λ within. not_both ((block_of b + rest_of_region b) % NPTENTRIES == 0)
      (ap (λ (n : ℕ). n == 0) (next_region_of_flush b h.block_below)) within))

  -- the page is clean, and so are those before it
  flush_next : (place : CachePlace) → Carried d d v w (filling_at place) None Nobody → b < CACHE_BLOCKS → hand < CACHE_BLOCKS →
      AreClean w.row b → is_dirty (w.row b) ≡ false → w.tables (b / NPTENTRIES) ≡ true → Rightly d d v w place (flush_from (block_of b + 1) hand)
  flush_next place c few below clean unset tables =
      flushing_on d v w place (block_of b + 1) hand c below
      (λ n before. elim (cases_eq n b) [
        | inl same ↦ subst (λ (m : ℕ). is_dirty (w.row m) ≡ false) (sym same) unset
        | inr ne ↦ clean n (omega arith)
      ])
      (λ within. subst (λ (r : ℕ). w.tables r ≡ true) (sym (same_region_of_flush b few within)) tables)

  flush_page : CacheStands d v (at.FlushPage b) hand → ReadEntry v w b word → Rightly d d v w (at.FlushPage b) (next_by (at.FlushPage b) hand word)
  flush_page h r =
      let c = still d v w (bears d v (at.FlushPage b) hand h) r.kept in
      let clean = clean_kept d v w r.kept b h.at.0 in
      let tables = r.kept.tables (b / NPTENTRIES) h.at.1 in
      by_test (Rightly d d v w (at.FlushPage b)) (is_there word && is_written word) (go_on (at.FlushWriting b) hand)
      (flush_from (block_of b + 1) hand)
      (λ is.
      let there = entry_there v w b word r (and_first (is_there word) (is_written word) is) in
      going d d v w (at.FlushPage b) (at.FlushWriting b) hand c h.block_below h.hand_below
      (clean, some_there (w.row b) there.0 (r.kept.row b ∙ there.1), tables))
      (λ not. flush_next (at.FlushPage b) c h.block_below h.hand_below clean
      (ap (λ (o : Option Entry). is_dirty o) (r.kept.row b) ∙ clean_there v w b word r (and_not (is_there word) (is_written word) not))
      tables)

  flush_settling : CacheStands d v (at.FlushSettling b) hand → MappedTo v w b b word →
      Rightly d d v w (at.FlushSettling b) (next_by (at.FlushSettling b) hand word)
  flush_settling h (mapped x stands zero set bytes) =
      flush_next (at.FlushSettling b)
      (mapped_anew_there d v w b x (bears d v (at.FlushSettling b) hand h) stands set bytes (holds_by d v b x h.at.1 stands))
      h.block_below h.hand_below (clean_before v w b (mapped_anew x.frame) set h.at.0)
      (ap (λ (o : Option Entry). is_dirty o) set.set ∙ anew_clean x.frame) (set.tables (b / NPTENTRIES) h.at.2)
  flush_settling h (refused apart other k) = absurd (apart refl)

module _ (d e : Disk) (v w : CacheView) (b hand word : ℕ) where
  flush_writing : CacheStands d v (at.FlushWriting b) hand → Written d e v w b →
      Rightly d e v w (at.FlushWriting b) (next_by (at.FlushWriting b) hand word)
  flush_writing h (written x y stands few disk set same entry bits used bytes) =
      going d e v w (at.FlushWriting b) (at.FlushSettling b) hand
      (page_entered d v w b e x y (bears d v (at.FlushWriting b) hand h) stands set same entry
      (λ on. subst (λ (k : ℕ). b < k) (sym disk.count) few) bytes disk.count disk.rest
      (λ below clean. sym disk.set))
      h.block_below h.hand_below (
        clean_before v w b y set h.at.0,
        written_holds d e v w b x y stands disk set same bytes,
        set.tables (b / NPTENTRIES) h.at.2,
      )
  flush_writing h (not_there past alike k) =
      let there = entry_of (v.row b) h.at.1 in
      subst (λ (x : Disk). Rightly d x v w (at.FlushWriting b) (next_by (at.FlushWriting b) hand word)) (sym alike)
      (going d d v w (at.FlushWriting b) (at.FlushSettling b) hand (still d v w (bears d v (at.FlushWriting b) hand h) k)
      h.block_below h.hand_below (
        clean_kept d v w k b h.at.0,
        record { entry = there.0; stands = k.row b ∙ there.1; holds = λ below. absurd (omega arith) },
        k.tables (b / NPTENTRIES) h.at.2,
      ))

-- ---- each place

module _ (d e : Disk) (v w : CacheView) (hand word : ℕ) where
  -- the disk is as before
  on_disk : (place : CachePlace) → e ≡ d → Rightly d d v w place (next_by place hand word) → Rightly d e v w place (next_by place hand word)
  on_disk place same right = subst (λ (x : Disk). Rightly d x v w place (next_by place hand word)) (sym same) right

  goes_rightly : (place : CachePlace) → CacheStands d v place hand → DoneAt place hand d e v w word →
      Rightly d e v w place (next_by place hand word)
  goes_rightly at.Resting h done = absurd done
  goes_rightly (at.Found b) h done = absurd done
  goes_rightly (at.LookingRegion b) h done = on_disk (at.LookingRegion b) done.1 (looking_region d v w b hand word h done.0)
  goes_rightly (at.LookingPage b) h done = on_disk (at.LookingPage b) done.1 (looking_page d v w b hand word h done.0)
  goes_rightly (at.Taking b) h done = on_disk (at.Taking b) done.1 (taking d v w b hand word h done.0)
  goes_rightly (at.Filling b) h done = on_disk (at.Filling b) done.1 (filling d v w b hand word h done.0)
  goes_rightly (at.Settling b) h done = on_disk (at.Settling b) done.1 (settling d v w b hand word h done.0)
  goes_rightly (at.HandRegion b left) h done = on_disk (at.HandRegion b left) done.1 (hand_region d v w b hand word left h done.0)
  goes_rightly (at.HandPage b left) h done = on_disk (at.HandPage b left) done.1 (hand_page d v w b hand word left h done.0)
  goes_rightly (at.WritingBack b) h done = writing_back d e v w b hand word h done
  goes_rightly (at.Passing b) h done = on_disk (at.Passing b) done.1 (passing_by d v w b hand word h done.0)
  goes_rightly (at.Moving b) h done = on_disk (at.Moving b) done.1 (moving d v w b hand word h done.0)
  goes_rightly (at.Leaving b) h done = on_disk (at.Leaving b) done.1 (leaving d v w b hand word h done.0)
  goes_rightly (at.Freeing b) h done = on_disk (at.Freeing b) done.1 (freeing d v w b hand word h done.0)
  goes_rightly (at.TakingLast b) h done = on_disk (at.TakingLast b) done.1 (taking_last d v w b hand word h done.0)
  goes_rightly (at.FlushRegion b) h done = on_disk (at.FlushRegion b) done.1 (flush_region d v w b hand word h done.0)
  goes_rightly (at.FlushPage b) h done = on_disk (at.FlushPage b) done.1 (flush_page d v w b hand word h done.0)
  goes_rightly (at.FlushWriting b) h done = flush_writing d e v w b hand word h done
  goes_rightly (at.FlushSettling b) h done = on_disk (at.FlushSettling b) done.1 (flush_settling d v w b hand word h done.0)

pub stands_behind : StandsBehind
stands_behind d e v w place hand word h done = (goes_rightly d e v w hand word place h done).0

pub ends_rightly : EndsRightly
ends_rightly d e v w place hand word h done = (goes_rightly d e v w hand word place h done).1
