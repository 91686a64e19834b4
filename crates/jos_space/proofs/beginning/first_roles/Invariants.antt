use Rattle.std.proofs.Common.{◌≡◌, ◌<◌, ℕ, length, get_or}
use Rattle.jos_space.specs.declared.role.Role.TheVariants.{Reserved}
use Rattle.jos_space.specs.Frames.{first_role}
use Rattle.jos_space.proofs.beginning.first_roles.Given as goal

abbrev pub invariant-loop-f : goal.invariant-loop-f
invariant-loop-f l = record {
  len : length l.roles.items ≡ l.f;
  each : (f : ℕ) → f < l.f → get_or l.roles.items f Reserved ≡ first_role l.frames f;
}
