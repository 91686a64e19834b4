-- Facts on one outcome of a call.
use Rattle.std.proofs.Common.{Result, Ok, Err, OnOk, OnErr}

-- a fact on one outcome, from one that implies it
pub OnOk-map : {T E : Type 0} {P Q : Type 0} (r : Result T E) → (P → Q) → OnOk r P → OnOk r Q
OnOk-map (Ok x) f p = f p
OnOk-map (Err x) f p = tt

pub OnErr-map : {T E : Type 0} {P Q : Type 0} (r : Result T E) → (P → Q) → OnErr r P → OnErr r Q
OnErr-map (Ok x) f p = tt
OnErr-map (Err x) f p = f p
