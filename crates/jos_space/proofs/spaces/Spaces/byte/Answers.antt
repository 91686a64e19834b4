use Rattle.std.proofs.Common.{◌≡◌, ◌∙◌, ℕ, List, [], get_or, length, sym, ap, subst, arith}
use Rattle.jos_space.specs.Frames.{Lists, AreSound, held_in}
use Rattle.jos_space.proofs.PageBytes.{bytes_below, page_is}
use Rattle.jos_space.proofs.Uses.{bytes_role}
use Rattle.jos_space.proofs.spaces.Spaces.byte.Goals as goal

pub returns : goal.returns
returns c =
    let invariant : AreSound c.args.self.now = subst (λ (l : Lists). AreSound l) c.self.view_is c.self.invariant in
    let is : c.byte_in.result ≡ get_or (get_or c.args.self.now.bytes c.args.location.frame.0 []) c.args.location.offset 0 = c.byte_in.ensures ∙ ap (λ (bs : List (List ℕ)). get_or (get_or bs c.args.location.frame.0 []) c.args.location.offset 0) (c.deref.ensures.value ∙ ap (λ (l : Lists). l.bytes) c.self.view_is) in
    is ∙ ap (λ (xs : List ℕ). get_or xs c.args.location.offset 0) (sym (page_is c.args.self.now invariant c.args.location.frame.0 (bytes_role (held_in c.args.self.now) c.args.location.frame.0 c.requires.frame)))

pub byte_in-requires-clause-frame : goal.byte_in-requires-clause-frame
byte_in-requires-clause-frame c =
    let invariant : AreSound c.args.self.now = subst (λ (l : Lists). AreSound l) c.self.view_is c.self.invariant in
    let below = bytes_below c.args.self.now invariant c.args.location.frame.0 (bytes_role (held_in c.args.self.now) c.args.location.frame.0 c.requires.frame) in
    let len = ap length (c.deref.ensures.value ∙ ap (λ (l : Lists). l.bytes) c.self.view_is) in
    omega (arith, below, len)
