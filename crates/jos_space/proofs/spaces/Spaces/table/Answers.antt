use Rattle.std.proofs.Common.{◌∙◌, ℕ, List, [], get_or, length, ap, arith}
use Rattle.jos_space.specs.Frames.{Lists, held_in}
use Rattle.jos_space.specs.contracts.spaces.Spaces.{the_view}
use Rattle.jos_space.proofs.TableLists.{below_directory}
use Rattle.jos_space.proofs.Uses.{directory_role, directory_in}
use Rattle.jos_space.proofs.EntryBits.{is_there, is_away}
use Rattle.jos_space.proofs.OverLists.{table_some, table_none}
use Rattle.jos_space.proofs.spaces.Spaces.table.Goals as goal

pub returns-then-is_present : goal.returns-then-is_present
returns-then-is_present c =
    let is = c.word_at-word.ensures ∙ ap (λ (ws : List (List ℕ)). get_or (get_or ws c.args.space []) c.args.index 0) (c.deref.ensures.value ∙ ap (λ (l : Lists). l.words) c.self.view_is) in
    table_some c.args.self.now c.args.space c.args.index c.word_at-word.result (directory_role (held_in c.args.self.now) c.args.space c.requires.space) c.requires.index is (is_there _ _ c.is_present.ensures c.if-is_present.true)

pub returns-else-is_present : goal.returns-else-is_present
returns-else-is_present c =
    let is = c.word_at-word.ensures ∙ ap (λ (ws : List (List ℕ)). get_or (get_or ws c.args.space []) c.args.index 0) (c.deref.ensures.value ∙ ap (λ (l : Lists). l.words) c.self.view_is) in
    table_none c.args.self.now c.args.space c.args.index c.word_at-word.result (directory_role (held_in c.args.self.now) c.args.space c.requires.space) c.requires.index is (is_away _ _ c.is_present.ensures c.if-is_present.false)

pub word_at-word-requires-clause-frame : goal.word_at-word-requires-clause-frame
word_at-word-requires-clause-frame c =
    let l = the_view c.self.inside in
    let below = below_directory l c.self.invariant c.args.space (directory_in l c.args.self.now c.args.space c.self.view_is c.requires.space) in
    let len = ap length c.deref.ensures.value in
    omega (arith, below, len)
