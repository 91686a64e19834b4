-- What a call leaves as it was, and what is seen before and after it.
use Rattle.std.specs.Prelude.{◌≡◌}

-- Four things that are seen of a host, or of any value, are after a call what they were before it.
pub record Unchanged {H A B C D : Type 0} (a : H → A) (b : H → B) (c : H → C) (d : H → D) (old new : H) : Type 0 where
  pub first : a new ≡ a old
  pub second : b new ≡ b old
  pub third : c new ≡ c old
  pub fourth : d new ≡ d old

-- a thing before and after a call
pub record Around (X : Type 0) : Type 0 where
  pub before : X
  pub after : X

abbrev pub from_to : {X : Type 0} → X → X → Around X
from_to before after = record { before = before; after = after }

-- what is seen of a host before and after a call
abbrev pub around : {H X : Type 0} → (H → X) → H → H → Around X
around see old new = from_to (see old) (see new)
