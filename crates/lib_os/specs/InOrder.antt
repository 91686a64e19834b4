-- What holds of the kernel's state at every moment: each frame has one use, and each live environment a space of its own.
-- (MIT 6.828, kern/pmap.c and kern/env.c.)
use Rattle.std.specs.Prelude.{◌≡◌, ◌≢◌, ◌<◌, ℕ, ◌/◌, true, is_some, List, [], ◌∷◌, All, Some}
use Rattle.jos_base.specs.declared.numbers.TheConstants.{NPTENTRIES}
use Rattle.jos_base.specs.Reach.{Entry}
use Rattle.jos_base.specs.Counting.{frame_limit, page_limit}
use Rattle.jos_base.specs.SpacesState.{SpacesState, Region, Use, free, page, directory, table}
use Rattle.jos_base.specs.KernelState.{KernelState, HasSpaces}

-- the frames of the list are free, and none stands there twice
abbrev pub AreFree : (ℕ → Use) → List ℕ → Type 0
AreFree uses [] = Unit {0}
AreFree uses (f ∷ rest) = (uses f ≡ free) × All (λ g. g ≢ f) rest × AreFree uses rest

-- Each frame has one use.
pub record HasOneUse (s : SpacesState) : Type 0 where
  -- what an entry names is a page, and the entry is one of a directory, below UTOP, in a region that has a table
  pub pages : (d p : ℕ) (e : Entry) → s.entries d p ≡ Some e → s.uses e.frame ≡ page
  pub owners : (d p : ℕ) (e : Entry) → s.entries d p ≡ Some e → s.uses d ≡ directory
  pub within : (d p : ℕ) (e : Entry) → s.entries d p ≡ Some e → (d < frame_limit) × (p < page_limit)
  pub small : (d p : ℕ) (e : Entry) → s.entries d p ≡ Some e → (e.frame < frame_limit) × (e.perm < 4096)
  pub regions : (d p : ℕ) (e : Entry) → s.entries d p ≡ Some e → is_some (s.regions d (p / NPTENTRIES)) ≡ true
  -- what a region names is its table, and no other region's
  pub tables : (d r : ℕ) (region : Region) → s.regions d r ≡ Some region → (s.uses region.table ≡ table) × (region.table < frame_limit)
  pub tables_apart : (d r e q : ℕ) (x y : Region) → s.regions d r ≡ Some x → s.regions e q ≡ Some y → x.table ≡ y.table →
      (d ≡ e) × (r ≡ q)
  -- and it is the region of a directory
  pub region_owners : (d r : ℕ) (region : Region) → s.regions d r ≡ Some region → s.uses d ≡ directory
  pub free_list : AreFree s.uses s.free

-- The kernel's state is in order.
pub record IsInOrder (s : KernelState) : Type 0 where
  pub frames : HasOneUse s.spaces
  pub spaces : HasSpaces s.spaces s.environments
