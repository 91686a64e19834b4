use Rattle.std.proofs.Common.{◌≡◌, ◌∙◌, length, ap, arith}
use Rattle.jos_space.specs.Frames.{Lists, state}
use Rattle.jos_space.specs.contracts.spaces.Spaces.{the_view}
use Rattle.jos_space.proofs.PageBytes.{frames_is, frames_most}
use Rattle.jos_space.proofs.spaces.Spaces.frames.Goals as goal

pub overflow_cast-result : goal.overflow_cast-result
overflow_cast-result c =
    let most = frames_most _ c.self.invariant in
    omega (arith, most)

pub returns-clause-frames : goal.returns-clause-frames
returns-clause-frames c =
    let is : c.len.result ≡ length c.self.inside.roles.items = omega arith in
    is ∙ frames_is (the_view c.self.inside) ∙ ap (λ (l : Lists). (state l).frames) c.self.view_is

pub returns-clause-most : goal.returns-clause-most
returns-clause-most c =
    let most = frames_most _ c.self.invariant in
    omega (arith, most)
