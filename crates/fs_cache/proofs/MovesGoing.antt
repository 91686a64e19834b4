-- Going on: what a place that the cache goes on to wants, by the tests of the plan.
use Rattle.std.proofs.Common.{◌≡◌, ◌∙◌, ◌<◌, ◌≤◌, ◌-◌, ◌/◌, ◌%◌, ◌==◌, ◌||◌, ◌⊎◌, inl, inr, ℕ, Bool, true, false, Option, Some, None, refl, sym, ap, arith}
use Rattle.std.specs.Prelude.{nat_le, is_some, if◌then◌else◌}
use Rattle.std.proofs.lemmas.Bool.Decides.{nat_tests}
use Rattle.jos_base.specs.declared.numbers.TheConstants.{NPTENTRIES, PTE_A, PTE_D}
use Rattle.jos_base.specs.Reach.{Entry}
use Rattle.jos_base.specs.Words.{has_bit}
use Rattle.lib_os.specs.declared.numbers.TheConstants.{CACHE_BLOCKS}
use Rattle.lib_os.specs.BlockCache.{is_dirty}
use Rattle.lib_os.specs.Disk.{Disk}
use Rattle.fs_blocks.specs.declared.place.CachePlace.{CachePlace}
use Rattle.fs_blocks.specs.declared.place.CachePlace.TheVariants as at
use Rattle.fs_blocks.specs.declared.plan.CacheNext.{CacheNext}
use Rattle.fs_blocks.specs.declared.plan.Told.TheVariants as told
use Rattle.fs_blocks.specs.CachePlans.{flush_from, further, go_on, is_there, is_used, is_written, pass, weigh}
use Rattle.fs_blocks.specs.CachePlaces.{block_at}
use Rattle.fs_cache.specs.CacheStands.{CacheView, AreClean, ArePassingOn, HoldsAt, HoldsBlock, IsGiven, IsSeeking, NonePassed, filling_at, was_used}
use Rattle.fs_cache.proofs.Views.{ReadEntry, ViewKept}
use Rattle.fs_cache.proofs.MovesBearing.{Carried, Goes, goes, not_both}
use Rattle.fs_cache.proofs.MovesKinds.{Nobody}
use Rattle.fs_cache.proofs.MovesRound.{NoneAhead, further_below, none_left, passed_on}

-- ---- where the cache goes, and what it tells

-- Where no page is to be had no block is cached, and where the flush is over no page is dirty.
abbrev pub Ends : CacheView → CacheNext → Type 0
Ends w next =
    (next.told ≡ told.NoPage → (m : ℕ) → m < CACHE_BLOCKS → w.row m ≡ None)
    × (next.told ≡ told.Clean → (m : ℕ) → m < CACHE_BLOCKS → is_dirty (w.row m) ≡ false)

abbrev pub Rightly : Disk → Disk → CacheView → CacheView → CachePlace → CacheNext → Type 0
Rightly d e v w place next = Goes d e v w place next.state × Ends w next

is_going : {A : Type 0} → (told.Going ≡ told.NoPage) ⊎ (told.Going ≡ told.Clean) → A
is_going (inl is) = absurd cc
is_going (inr is) = absurd cc

pub going : (d e : Disk) (v w : CacheView) (place to : CachePlace) (hand : ℕ) →
    Carried d e v w (filling_at place) (filling_at to) (ArePassingOn to hand) → block_at to < CACHE_BLOCKS → hand < CACHE_BLOCKS →
    HoldsAt to hand e w → Rightly d e v w place (go_on to hand)
going d e v w place to hand c block below holds =
    (goes d e v w place to hand c block below holds, (λ is. is_going (inl is), λ is. is_going (inr is)))

-- by a test
pub by_test : (P : CacheNext → Type 0) (t : Bool) (x y : CacheNext) → (t ≡ true → P x) → (t ≡ false → P y) → P (if t then x else y)
by_test P true x y first second = first refl
by_test P false x y first second = second refl

-- ---- what is known still holds

module _ (d : Disk) (v w : CacheView) (k : ViewKept v w) where
  pub block_kept : (n : ℕ) → HoldsBlock d v n → HoldsBlock d w n
  block_kept n h = record { entry = h.entry; stands = k.row n ∙ h.stands; holds = λ below. k.bytes n h.entry h.stands ∙ h.holds below }

  pub given_kept : (hand block : ℕ) → IsGiven d v hand block → IsGiven d w hand block
  given_kept hand block h = record { wanted = k.row block ∙ h.wanted; at_hand = block_kept hand h.at_hand }

  pub passed_kept : (hand left : ℕ) → NonePassed v.row hand left → NonePassed w.row hand left
  passed_kept hand left none i from index = k.row (further hand i) ∙ none i from index

  pub seeking_kept : (hand block left : ℕ) → IsSeeking v hand block left → IsSeeking w hand block left
  seeking_kept hand block left h = record { wanted = k.row block ∙ h.wanted; some = h.some; none = passed_kept hand left h.none }

  pub clean_kept : (block : ℕ) → AreClean v.row block → AreClean w.row block
  clean_kept block clean n below = ap (λ (o : Option Entry). is_dirty o) (k.row n) ∙ clean n below

-- ---- entries that are read

pub some_there : (o : Option Entry) (x : Entry) → o ≡ Some x → is_some o ≡ true
some_there o x is = ap (λ (p : Option Entry). is_some p) is

none_or_some : (o : Option Entry) → (o ≡ None) ⊎ ((x : Entry) × (o ≡ Some x))
none_or_some None = inl refl
none_or_some (Some x) = inr (x, refl)

module _ (v w : CacheView) (b word : ℕ) (r : ReadEntry v w b word) where
  pub entry_there : is_there word ≡ true → (x : Entry) × (v.row b ≡ Some x)
  entry_there is = elim (none_or_some (v.row b)) [
    | inl none ↦ not_both (is_there word) is (r.none none)
    | inr some ↦ some
  ]

  pub none_there : is_there word ≡ false → v.row b ≡ None
  none_there not = elim (none_or_some (v.row b)) [
    | inl none ↦ none
    | inr some ↦ not_both (is_there word) (r.some some.0 some.1).0 not
  ]

  -- what was not both there and written is not dirty
  pub clean_there : (is_there word ≡ true → is_written word ≡ false) → is_dirty (v.row b) ≡ false
  clean_there unless = elim (none_or_some (v.row b)) [
    | inl none ↦ ap (λ (o : Option Entry). is_dirty o) none
    | inr some ↦
        let told = r.some some.0 some.1 in
        ap (λ (o : Option Entry). is_dirty o) some.1 ∙ sym told.1 ∙ unless told.0
  ]

or_first : (s t : Bool) → s ≡ true → (s || t) ≡ true
or_first true t is = refl
or_first false t is = not_both false is refl

or_second : (s t : Bool) → t ≡ true → (s || t) ≡ true
or_second true t is = refl
or_second false t is = is

used_by : (o : Option Entry) (x : Entry) → o ≡ Some x → (has_bit x.perm PTE_A || has_bit x.perm PTE_D) ≡ true → was_used o ≡ true
used_by o x is used = ap (λ (p : Option Entry). was_used p) is ∙ used

-- ---- the hand goes on

module _ (d : Disk) (v w : CacheView) (place : CachePlace) (block hand : ℕ) (c : Carried d d v w (filling_at place) None Nobody)
    (few : block < CACHE_BLOCKS) (below : hand < CACHE_BLOCKS) where
  -- so many blocks at hand have no page
  pub passing : (left blocks : ℕ) → blocks ≤ CACHE_BLOCKS → IsSeeking w hand block left → NoneAhead w.row hand blocks →
      ((further hand blocks % NPTENTRIES == 0) ≡ false → w.tables (further hand blocks / NPTENTRIES) ≡ true) →
      Rightly d d v w place (pass block hand left blocks)
  passing left blocks count seeking ahead tables =
      let next = further hand blocks in
      let next_below : next < CACHE_BLOCKS = further_below hand blocks in
      let still : 0 < left - blocks → IsSeeking w next block (left - blocks) = λ some.
      record { wanted = seeking.wanted; some = some; none = passed_on w.row hand left blocks below count seeking.none ahead } in
      by_test (Rightly d d v w place) (nat_le left blocks) (go_on (at.TakingLast block) next)
      (if next % NPTENTRIES == 0 then go_on (at.HandRegion block (left - blocks)) next else go_on (at.HandPage block (left - blocks)) next)
      (λ test.
      going d d v w place (at.TakingLast block) next c few next_below
      (none_left w.row hand left blocks below count seeking.none ahead (grind (arith, nat_tests))))
      (λ test.
      let some : 0 < left - blocks = grind (arith, nat_tests) in
      by_test (Rightly d d v w place) (next % NPTENTRIES == 0) (go_on (at.HandRegion block (left - blocks)) next)
      (go_on (at.HandPage block (left - blocks)) next)
      (λ begins. going d d v w place (at.HandRegion block (left - blocks)) next c few next_below (still some))
      (λ within. going d d v w place (at.HandPage block (left - blocks)) next c few next_below (still some, tables within)))

  -- the page at hand is there
  pub weighing : (word : ℕ) (x : Entry) → w.row block ≡ None → w.row hand ≡ Some x → is_written word ≡ has_bit x.perm PTE_D →
      is_used word ≡ has_bit x.perm PTE_A → Rightly d d v w place (weigh block hand word)
  weighing word x wanted stands dirty used =
      by_test (Rightly d d v w place) (is_written word) (go_on (at.WritingBack block) hand)
      (if is_used word then go_on (at.Passing block) hand else go_on (at.Moving block) hand)
      (λ is.
      going d d v w place (at.WritingBack block) hand c few below
      (wanted, used_by (w.row hand) x stands (or_second (has_bit x.perm PTE_A) (has_bit x.perm PTE_D) (sym dirty ∙ is))))
      (λ unset.
      let given : IsGiven d w hand block = record {
        wanted = wanted;
        at_hand = record { entry = x; stands = stands; holds = λ count. c.still.clean hand x stands refl count (sym dirty ∙ unset) };
      } in
      by_test (Rightly d d v w place) (is_used word) (go_on (at.Passing block) hand) (go_on (at.Moving block) hand)
      (λ is.
      going d d v w place (at.Passing block) hand c few below
      (given, used_by (w.row hand) x stands (or_first (has_bit x.perm PTE_A) (has_bit x.perm PTE_D) (sym used ∙ is))))
      (λ unused. going d d v w place (at.Moving block) hand c few below given))

-- ---- the flush goes on

pub flushing_on : (d : Disk) (v w : CacheView) (place : CachePlace) (block hand : ℕ) → Carried d d v w (filling_at place) None Nobody →
    hand < CACHE_BLOCKS → AreClean w.row block → ((block % NPTENTRIES == 0) ≡ false → w.tables (block / NPTENTRIES) ≡ true) →
    Rightly d d v w place (flush_from block hand)
flushing_on d v w place block hand c below clean tables =
    by_test (Rightly d d v w place) (nat_le CACHE_BLOCKS block)
    (record { state = record { place = at.Resting; hand = hand }; told = told.Clean })
    (if block % NPTENTRIES == 0 then go_on (at.FlushRegion block) hand else go_on (at.FlushPage block) hand)
    (λ test. (
      goes d d v w place at.Resting hand c (omega arith) below tt,
      (λ is. absurd (no_page is), λ is m index. clean m (grind (arith, nat_tests))),
    ))
    (λ test.
    let few : block < CACHE_BLOCKS = grind (arith, nat_tests) in
    by_test (Rightly d d v w place) (block % NPTENTRIES == 0) (go_on (at.FlushRegion block) hand) (go_on (at.FlushPage block) hand)
    (λ begins. going d d v w place (at.FlushRegion block) hand c few below clean)
    (λ within. going d d v w place (at.FlushPage block) hand c few below (clean, tables within)))
  where
    no_page : told.Clean ≡ told.NoPage → ⊥
    no_page is = cc
