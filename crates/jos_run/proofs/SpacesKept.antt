-- Accesses leave each frame its use, so each live environment has its space after them.
use Rattle.std.proofs.Common.{◌≡◌, ◌∙◌, ℕ, refl, sym, ap}
use Rattle.std.specs.Prelude.{Result, Ok, Err}
use Rattle.jos_base.specs.declared.memory.Access.{Access}
use Rattle.jos_base.specs.declared.memory.PageFault.{PageFault}
use Rattle.jos_base.specs.Environments.{Environments}
use Rattle.jos_base.specs.KernelState.{HasSpaces}
use Rattle.jos_base.specs.Reach.{FrameOffset}
use Rattle.jos_base.specs.SpacesState.{SpacesState, Use, is_directory}
use Rattle.jos_base.specs.UserMemory.{reach_in, touched, touched_by}
use Rattle.jos_base.specs.Words.{page_number}
use Rattle.jos_space.proofs.Keeping.{bits_uses}

pub touched_uses : (s : SpacesState) (d va : ℕ) (access : Access) → (touched s d va access).uses ≡ s.uses
unfolding touched
touched_uses s d va access = by_outcome (reach_in s d va access)
  where
    by_outcome : (r : Result FrameOffset PageFault) → (touched_by s d va access r).uses ≡ s.uses
    by_outcome (Ok location) = bits_uses s d (page_number va) access
    by_outcome (Err refusal) = refl

pub spaces_kept : (s t : SpacesState) (e : Environments) → t.uses ≡ s.uses → HasSpaces s e → HasSpaces t e
spaces_kept s t e same h = record {
  in_use = λ n live. ap (λ (uses : ℕ → Use). is_directory (uses (e.slots n).directory)) same ∙ h.in_use n live;
  apart = h.apart;
  owned = λ d is. h.owned d (ap (λ (uses : ℕ → Use). is_directory (uses d)) (sym same) ∙ is);
}
