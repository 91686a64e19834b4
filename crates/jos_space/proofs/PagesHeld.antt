-- The bytes of a frame hang on the list of bytes and on whether its use has any.
use Rattle.std.proofs.Common.{◌≡◌, ◌∙◌, ℕ, true, List, [], get_or, refl, sym, ap}
use Rattle.jos_base.specs.SpacesState.{free}
use Rattle.jos_space.specs.declared.role.Role.{Role}
use Rattle.jos_space.specs.declared.role.Role.TheVariants.{Reserved, Free, Fresh, Page, Directory, Table}
use Rattle.jos_space.specs.Calls.{has_bytes}
use Rattle.jos_space.specs.Frames.{Lists, bytes_by, use_of, state, state_of}

bytes_all : (role : Role) (bytes : List ℕ) → has_bytes (use_of role) ≡ true → bytes_by role bytes ≡ bytes
bytes_all Fresh bytes e = refl
bytes_all Page bytes e = refl
bytes_all Reserved bytes e = absurd cc
bytes_all (Free k) bytes e = absurd cc
bytes_all Directory bytes e = absurd cc
bytes_all (Table d r) bytes e = absurd cc

bytes_none : (role : Role) (bytes : List ℕ) → use_of role ≡ free → bytes_by role bytes ≡ []
bytes_none (Free k) bytes e = refl
bytes_none Fresh bytes e = absurd cc
bytes_none Page bytes e = absurd cc
bytes_none Reserved bytes e = refl
bytes_none Directory bytes e = refl
bytes_none (Table d r) bytes e = refl

-- the same bytes stand in two lists that have the same list of bytes
pub pages_same : (l m : Lists) (f : ℕ) → m.bytes ≡ l.bytes → has_bytes ((state l).uses f) ≡ true → has_bytes ((state m).uses f) ≡ true →
    (state m).pages f ≡ (state l).pages f
unfolding state_of
pages_same l m f e old new =
    bytes_all (get_or m.roles f Reserved) (get_or m.bytes f []) new
    ∙ ap (λ (b : List (List ℕ)). get_or b f []) e
    ∙ sym (bytes_all (get_or l.roles f Reserved) (get_or l.bytes f []) old)

pub free_bytes : (l : Lists) (f : ℕ) → (state l).uses f ≡ free → (state l).pages f ≡ []
unfolding state_of
free_bytes l f e = bytes_none (get_or l.roles f Reserved) (get_or l.bytes f []) e
