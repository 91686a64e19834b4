-- What stays where a page that no entry names is freed.
use Rattle.std.proofs.Common.{◌≡◌, ◌==◌, ℕ, Bool, true, false, Option, Some, None, refl, if◌then◌else◌}
use Rattle.jos_base.specs.Counting.{page_count}
use Rattle.jos_base.specs.SpacesState.{SpacesState, released, freed}

-- a part of the state that freeing leaves
module _ {V : Type 0} (part : SpacesState → V) (left : (s : SpacesState) (frame : ℕ) → part (freed s frame) ≡ part s) where
  released_left : (s : SpacesState) (o : Option ℕ) → part (released s o) ≡ part s
  released_left s None = refl
  released_left s (Some frame) = by_test (page_count s.entries frame == 0)
    where
      by_test : (b : Bool) → part (if b then freed s frame else s) ≡ part s
      by_test true = left s frame
      by_test false = refl

pub released_entries : (s : SpacesState) (o : Option ℕ) → (released s o).entries ≡ s.entries
released_entries s o = released_left (λ (t : SpacesState). t.entries) (λ t frame. refl) s o

pub released_regions : (s : SpacesState) (o : Option ℕ) → (released s o).regions ≡ s.regions
released_regions s o = released_left (λ (t : SpacesState). t.regions) (λ t frame. refl) s o

pub released_frames : (s : SpacesState) (o : Option ℕ) → (released s o).frames ≡ s.frames
released_frames s o = released_left (λ (t : SpacesState). t.frames) (λ t frame. refl) s o
