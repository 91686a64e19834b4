-- The address of a frame; None where it stands nowhere.
use Rattle.std.specs.Prelude.{ℕ, Option, Some, None}
use Rattle.jos_trap.specs.declared.place.UpcallPlace.{UpcallPlace}
use Rattle.jos_trap.specs.declared.place.UpcallPlace.TheVariants.{At, Overflow}

abbrev pub upcall_address : UpcallPlace → Option ℕ
upcall_address (At address) = Some address
upcall_address Overflow = None
