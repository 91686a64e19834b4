-- What the steps of boot are asked and do.
use Rattle.std.specs.Prelude.{◌≡◌, ℕ, ◌<◌, ◌≤◌, Bool, true, false, List, Option, None, Some, Ok, min}
use Rattle.jos_base.specs.SpacesState.{SpacesState, with_page_bytes}
use Rattle.jos_base.specs.KernelState.{KernelState, with_spaces}
use Rattle.jos_elf.specs.Parsed.{parsed}
use Rattle.jos_sys.specs.declared.system.System.{System}
use Rattle.jos_sys.specs.System.{environments_of}
use Rattle.jos_kernel.specs.Boot.{Loadable}

-- the image is what its file says
abbrev pub IsRead : Loadable → Type 0
IsRead l = parsed l.file ≡ Ok l.image

-- the first number from a number on that passes the test; None where there is none
pub record IsFirstAt (test : ℕ → Bool) (from number : ℕ) : Type 0 where
  pub behind : from ≤ number
  pub passes : test number ≡ true
  pub others : (other : ℕ) → from ≤ other → other < number → test other ≡ false

abbrev pub IsFirst : (ℕ → Bool) → ℕ → Option ℕ → Type 0
IsFirst test from None = (number : ℕ) → from ≤ number → test number ≡ false
IsFirst test from (Some number) = IsFirstAt test from number

-- the lower of two numbers, where there are two
abbrev pub earlier : Option ℕ → Option ℕ → Option ℕ
earlier None b = b
earlier (Some a) None = Some a
earlier (Some a) (Some b) = Some (min a b)

-- the frame of the directory of a slot's environment
abbrev pub directory_of : System → ℕ → ℕ
directory_of system slot = ((environments_of system).slots slot).directory

-- The spaces are those that a definition gives, and nothing else is changed; or it gives none.
abbrev pub Loads : Option SpacesState → Bool → KernelState → KernelState → Type 0
Loads loaded true old new = (loaded ≡ Some new.spaces) × (new ≡ with_spaces old new.spaces)
Loads loaded false old new = (loaded ≡ None) × (new ≡ with_spaces old new.spaces)

-- the state with these bytes in a frame
abbrev pub with_bytes_in : KernelState → ℕ → List ℕ → KernelState
with_bytes_in s frame bytes = with_spaces s (with_page_bytes s.spaces frame bytes)
