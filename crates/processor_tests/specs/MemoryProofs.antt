-- A fact from which the memory of the tests shows that it is lawful. It is a proof and no definition, to be passed over
-- when reading: the memory cites it in its `lawful`, which can import it from here alone.
use Rattle.std.specs.Prelude.{◌≡◌, Bool, true, false, refl}
use Rattle.std.specs.Prelude.{if◌then◌else◌}

-- what both of two values have
pub either_way : {A B : Type 0} (x y : A) (test : Bool) (f : A → B) → f y ≡ f x → f (if test then x else y) ≡ f x
either_way x y true f e = refl
either_way x y false f e = e
