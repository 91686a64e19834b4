-- Which pages spawn keeps beside the one at UTEMP, at a step at which it keeps none of them, and which of them are its child's, at one at which none is.
use Rattle.std.proofs.Common.{◌≡◌, ◌&&◌, ◌||◌, Bool, true, false, refl}

pub none_kept : (given stack here : Bool) → ((given && false) || (stack && false) || (here && false)) ≡ false
none_kept true true true = refl
none_kept true true false = refl
none_kept true false true = refl
none_kept true false false = refl
none_kept false true true = refl
none_kept false true false = refl
none_kept false false true = refl
none_kept false false false = refl

pub none_childs : (here stack : Bool) → ((here && false) || (stack && false)) ≡ false
none_childs true true = refl
none_childs true false = refl
none_childs false true = refl
none_childs false false = refl

-- that of its stack is
pub stack_childs : (here stack : Bool) → ((here && false) || (stack && true)) ≡ stack
stack_childs true true = refl
stack_childs true false = refl
stack_childs false true = refl
stack_childs false false = refl
