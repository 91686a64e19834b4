use Rattle.std.proofs.Common.{◌≡◌, ◌∙◌, ℕ, true, List, [], get_or, length, ap, arith}
use Rattle.std.specs.Prelude.{is_some}
use Rattle.jos_base.specs.UserMemory.{with_region_bit}
use Rattle.jos_space.specs.Frames.{Lists, state}
use Rattle.jos_space.specs.contracts.spaces.Spaces.{the_view}
use Rattle.jos_space.proofs.Marking.{marks_region, region_bounds}
use Rattle.jos_space.proofs.spaces.Spaces.mark_region.Goals as goal

pub word_at-word-requires-clause-frame : goal.word_at-word-requires-clause-frame
word_at-word-requires-clause-frame c =
    let l : Lists = the_view c.self.inside in
    let some : is_some ((state l).regions c.args.space c.args.index) ≡ true = ap (λ (m : Lists). is_some ((state m).regions c.args.space c.args.index)) c.self.view_is ∙ c.requires in
    let b = region_bounds l c.self.invariant c.args.space c.args.index some in
    let below = b.0 in let len = ap length c.deref.ensures.value in omega (arith, below, len)

pub word_at-word-requires-clause-index : goal.word_at-word-requires-clause-index
word_at-word-requires-clause-index c =
    let l : Lists = the_view c.self.inside in
    let some : is_some ((state l).regions c.args.space c.args.index) ≡ true = ap (λ (m : Lists). is_some ((state m).regions c.args.space c.args.index)) c.self.view_is ∙ c.requires in
    let b = region_bounds l c.self.invariant c.args.space c.args.index some in
    b.1

pub set_word-requires-clause-frame : goal.set_word-requires-clause-frame
set_word-requires-clause-frame c =
    let l : Lists = the_view c.self.inside in
    let some : is_some ((state l).regions c.args.space c.args.index) ≡ true = ap (λ (m : Lists). is_some ((state m).regions c.args.space c.args.index)) c.self.view_is ∙ c.requires in
    let b = region_bounds l c.self.invariant c.args.space c.args.index some in
    b.0

pub set_word-requires-clause-index : goal.set_word-requires-clause-index
set_word-requires-clause-index c =
    let l : Lists = the_view c.self.inside in
    let some : is_some ((state l).regions c.args.space c.args.index) ≡ true = ap (λ (m : Lists). is_some ((state m).regions c.args.space c.args.index)) c.self.view_is ∙ c.requires in
    let b = region_bounds l c.self.invariant c.args.space c.args.index some in
    b.1

pub invariant_of-self : goal.invariant_of-self
invariant_of-self c =
    let l : Lists = the_view c.self.inside in
    let some : is_some ((state l).regions c.args.space c.args.index) ≡ true = ap (λ (m : Lists). is_some ((state m).regions c.args.space c.args.index)) c.self.view_is ∙ c.requires in
    let b = region_bounds l c.self.invariant c.args.space c.args.index some in
    let old_is : c.word_at-word.result ≡ get_or (get_or l.words c.args.space []) c.args.index 0 = c.word_at-word.ensures ∙ ap (λ (ws : List (List ℕ)). get_or (get_or ws c.args.space []) c.args.index 0) c.deref.ensures.value in
    let m = marks_region l c.self.invariant c.args.space c.args.index some c.word_at-word.result old_is c.set_word.ensures.row c.set_word.new.words.items c.set_word.ensures.set in
    m.sound

pub returns-clause-state : goal.returns-clause-state
returns-clause-state c =
    let l : Lists = the_view c.self.inside in
    let some : is_some ((state l).regions c.args.space c.args.index) ≡ true = ap (λ (m : Lists). is_some ((state m).regions c.args.space c.args.index)) c.self.view_is ∙ c.requires in
    let b = region_bounds l c.self.invariant c.args.space c.args.index some in
    let old_is : c.word_at-word.result ≡ get_or (get_or l.words c.args.space []) c.args.index 0 = c.word_at-word.ensures ∙ ap (λ (ws : List (List ℕ)). get_or (get_or ws c.args.space []) c.args.index 0) c.deref.ensures.value in
    let m = marks_region l c.self.invariant c.args.space c.args.index some c.word_at-word.result old_is c.set_word.ensures.row c.set_word.new.words.items c.set_word.ensures.set in
    m.state_is ∙ ap (λ (m : Lists). with_region_bit (state m) c.args.space c.args.index) c.self.view_is
