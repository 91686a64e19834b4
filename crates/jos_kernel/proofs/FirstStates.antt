-- What booting images leaves as it was: no turn is begun.
use Rattle.std.proofs.Common.{◌≡◌, ℕ, List, [], ◌∷◌, Option, None, Some, Result, Ok, Err, IfSome, refl, ◌∙◌}
use Rattle.std.specs.Option.{option_map}
use Rattle.std.specs.Prelude.{option_and_then}
use Rattle.jos_base.specs.declared.errno.Errno.{Errno}
use Rattle.jos_base.specs.SpacesState.{SpacesState, created}
use Rattle.jos_base.specs.Environments.{Environments, allotted}
use Rattle.jos_base.specs.KernelState.{KernelState, first_state}
use Rattle.jos_base.specs.SystemCalls.{made_of, environment_made}
use Rattle.jos_elf.specs.Parsed.{Layout}
use Rattle.jos_kernel.specs.Boot.{Loadable, started, image_booted_in, image_booted, all_booted, booted}

-- no turn was begun between two states
pub record SameTurns (s t : KernelState) : Type 0 where
  pub last : t.last ≡ s.last
  pub turns : t.turns ≡ s.turns

-- the same of what was made, where it was
abbrev pub Made : KernelState → Result (ℕ × KernelState) Errno → Type 0
Made s (Err error) = Unit {0}
Made s (Ok made) = SameTurns s made.1

pub made_same : (s : KernelState) (slot : Option (ℕ × Environments)) (space : Option (ℕ × SpacesState)) →
    Made s (made_of s slot space)
made_same s None space = tt
made_same s (Some slot) None = tt
made_same s (Some slot) (Some space) = record { last = refl; turns = refl }

loaded_same : (s t : KernelState) (n entry : ℕ) (spaces : Option SpacesState) → SameTurns s t → IfSome (option_map (started t n entry) spaces) (SameTurns s)
loaded_same s t n entry None h = tt
loaded_same s t n entry (Some spaces) h = record { last = h.last; turns = h.turns }

image_same_in : (s : KernelState) (image : Layout) (file : List ℕ) (made : Result (ℕ × KernelState) Errno) → Made s made →
    IfSome (image_booted_in image file made) (SameTurns s)
image_same_in s image file (Err error) h = tt
image_same_in s image file (Ok made) h = loaded_same s made.1 made.0 image.entry _ h

image_same : (s : KernelState) (image : Layout) (file : List ℕ) → IfSome (image_booted image file s) (SameTurns s)
unfolding image_booted environment_made
image_same s image file = image_same_in s image file (environment_made s 0) (made_same s (allotted s.environments 0) (created s.spaces))

both : (s t : KernelState) (o : Option KernelState) → SameTurns s t → IfSome o (SameTurns t) → IfSome o (SameTurns s)
both s t None h k = tt
both s t (Some u) h k = record { last = k.last ∙ h.last; turns = k.turns ∙ h.turns }

then_same : (s : KernelState) (o : Option KernelState) (f : KernelState → Option KernelState) → IfSome o (SameTurns s) →
    ((t : KernelState) → IfSome (f t) (SameTurns t)) → IfSome (option_and_then f o) (SameTurns s)
then_same s None f h each = tt
then_same s (Some t) f h each = both s t (f t) h (each t)

all_same : (images : List Loadable) (s : KernelState) → IfSome (all_booted images s) (SameTurns s)
unfolding all_booted
all_same [] s = record { last = refl; turns = refl }
all_same (l ∷ rest) s = then_same s (image_booted l.image l.file s) (all_booted rest) (image_same s l.image l.file) (all_same rest)

-- the state in which images are booted has had no turn
pub booted_first : (images : List Loadable) (frames : ℕ) (input : List ℕ) (t : KernelState) → booted images frames input ≡ Some t →
    SameTurns (first_state frames input) t
unfolding booted
booted_first images frames input t e = rw e at (all_same images (first_state frames input))
