use Rattle.std.proofs.Common.{◌∙◌, ◌/◌, ◌%◌, ℕ, List, [], length, get_or, ap, arith}
use Rattle.jos_space.specs.Frames.{Lists, state}
use Rattle.jos_space.specs.AtHand.{frame_with}
use Rattle.jos_space.specs.contracts.spaces.Spaces.{the_view}
use Rattle.jos_space.proofs.TableLists.{below_directory}
use Rattle.jos_space.proofs.Uses.{directory_in}
use Rattle.jos_space.proofs.Walks.{walk_past, walk_unmarked, walk_table, walk_lacking, walk_found}
use Rattle.jos_space.proofs.spaces.Spaces.frame_with.Goals as goal

pub returns-then-number : goal.returns-then-number
returns-then-number c =
    walk_past c.args.self.now c.args.space c.args.number c.args.bits (omega arith)

pub word_at-region-requires-clause-frame : goal.word_at-region-requires-clause-frame
word_at-region-requires-clause-frame c =
    let l = the_view c.self.inside in
    let below = below_directory l c.self.invariant c.args.space (directory_in l c.args.self.now c.args.space c.self.view_is c.requires.space) in
    let len = ap length c.deref.ensures.value in
    omega (arith, below, len)

pub returns-then-region-ne-REGION_AT_HAND : goal.returns-then-region-ne-REGION_AT_HAND
returns-then-region-ne-REGION_AT_HAND c =
    let l = the_view c.self.inside in
    let dir = directory_in l c.args.self.now c.args.space c.self.view_is c.requires.space in
    let region_is = c.word_at-region.ensures ∙ ap (λ (ws : List (List ℕ)). get_or (get_or ws c.args.space []) (c.args.number / 1024) 0) c.deref.ensures.value in
    walk_unmarked l c.args.space c.args.number dir c.word_at-region.result (omega arith) region_is c.args.bits c.if-region-ne-REGION_AT_HAND.true
    ∙ ap (λ (m : Lists). frame_with (state m) c.args.space c.args.number c.args.bits) c.self.view_is

pub word_at-word-requires-clause-frame : goal.word_at-word-requires-clause-frame
word_at-word-requires-clause-frame c =
    let l = the_view c.self.inside in
    let dir = directory_in l c.args.self.now c.args.space c.self.view_is c.requires.space in
    let region_is = c.word_at-region.ensures ∙ ap (λ (ws : List (List ℕ)). get_or (get_or ws c.args.space []) (c.args.number / 1024) 0) c.deref.ensures.value in
    let below = walk_table l c.args.space c.args.number dir c.word_at-region.result (omega arith) region_is c.if-region-ne-REGION_AT_HAND.false c.self.invariant in
    let len = ap length c.deref-2.ensures.value in
    omega (arith, below, len)

pub returns-then-word-bits : goal.returns-then-word-bits
returns-then-word-bits c =
    let l = the_view c.self.inside in
    let dir = directory_in l c.args.self.now c.args.space c.self.view_is c.requires.space in
    let region_is = c.word_at-region.ensures ∙ ap (λ (ws : List (List ℕ)). get_or (get_or ws c.args.space []) (c.args.number / 1024) 0) c.deref.ensures.value in
    let word_is = c.word_at-word.ensures ∙ ap (λ (ws : List (List ℕ)). get_or (get_or ws (c.word_at-region.result / 4096) []) (c.args.number % 1024) 0) c.deref-2.ensures.value in
    walk_lacking l c.args.space c.args.number dir c.word_at-region.result (omega arith) region_is c.if-region-ne-REGION_AT_HAND.false
    c.args.bits c.requires.present c.requires.small c.word_at-word.result word_is c.if-word-bits.true
    ∙ ap (λ (m : Lists). frame_with (state m) c.args.space c.args.number c.args.bits) c.self.view_is

pub returns : goal.returns
returns c =
    let l = the_view c.self.inside in
    let dir = directory_in l c.args.self.now c.args.space c.self.view_is c.requires.space in
    let region_is = c.word_at-region.ensures ∙ ap (λ (ws : List (List ℕ)). get_or (get_or ws c.args.space []) (c.args.number / 1024) 0) c.deref.ensures.value in
    let word_is = c.word_at-word.ensures ∙ ap (λ (ws : List (List ℕ)). get_or (get_or ws (c.word_at-region.result / 4096) []) (c.args.number % 1024) 0) c.deref-2.ensures.value in
    walk_found l c.args.space c.args.number dir c.word_at-region.result (omega arith) region_is c.if-region-ne-REGION_AT_HAND.false
    c.args.bits c.requires.present c.requires.small c.word_at-word.result word_is c.if-word-bits.false
    ∙ ap (λ (m : Lists). frame_with (state m) c.args.space c.args.number c.args.bits) c.self.view_is
