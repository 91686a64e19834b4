-- What is to pass beside a word, as the definitions of the kernel's state have it.
use Rattle.std.specs.Prelude.{◌≡◌, ◌<◌, ℕ, true}
use Rattle.jos_base.specs.declared.numbers.TheConstants.{UTOP}
use Rattle.jos_base.specs.SpacesState.{SpacesState, page}
use Rattle.jos_base.specs.SystemCalls.{Passing as PassingNow, nothing, a_page, invalid, is_page_perm}
use Rattle.jos_sys.specs.declared.messages.Passing.{Passing}
use Rattle.jos_sys.specs.declared.messages.Passing.TheVariants.{Nothing, Page, Invalid}

abbrev pub passing_is : Passing → ℕ → PassingNow
passing_is Nothing perm = nothing
passing_is (Page frame) perm = a_page (record { frame = frame.0; perm = perm })
passing_is Invalid perm = invalid

-- a page that passes has bytes, and its bits and its destination are good
pub record MayPass (s : SpacesState) (destination perm frame : ℕ) : Type 0 where
  pub is_page : s.uses frame ≡ page
  pub bits : is_page_perm perm ≡ true
  pub below : destination < UTOP

abbrev pub IsPagePassing : SpacesState → ℕ → ℕ → Passing → Type 0
IsPagePassing s destination perm Nothing = Unit {0}
IsPagePassing s destination perm (Page frame) = MayPass s destination perm frame.0
IsPagePassing s destination perm Invalid = Unit {0}
