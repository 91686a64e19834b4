use Rattle.std.proofs.Common.{◌≡◌, ◌∙◌, ◌/◌, ◌%◌, ℕ, true, Some, List, [], get_or, length, ap, arith}
use Rattle.std.specs.Prelude.{is_some}
use Rattle.std.specs.Option.{option_map}
use Rattle.jos_base.specs.SpacesState.{Region}
use Rattle.jos_base.specs.UserMemory.{with_entry_bits}
use Rattle.jos_space.specs.Frames.{Lists, state}
use Rattle.jos_space.specs.contracts.spaces.Spaces.{the_view}
use Rattle.jos_space.proofs.Marking.{marks, marks_table}
use Rattle.jos_space.proofs.spaces.Spaces.mark_entry.Goals as goal

pub word_at-word-requires-clause-frame : goal.word_at-word-requires-clause-frame
word_at-word-requires-clause-frame c =
    let l : Lists = the_view c.self.inside in
    let here : option_map (λ (r : Region). r.table) ((state l).regions c.args.space (c.args.number / 1024)) ≡ Some c.args.table = ap (λ (m : Lists). option_map (λ (r : Region). r.table) ((state m).regions c.args.space (c.args.number / 1024))) c.self.view_is ∙ c.requires.region in
    let some : is_some ((state l).entries c.args.space c.args.number) ≡ true = ap (λ (m : Lists). is_some ((state m).entries c.args.space c.args.number)) c.self.view_is ∙ c.requires.entry in
    let below = marks_table l c.self.invariant c.args.space c.args.number c.args.table here in let len = ap length c.deref.ensures.value in omega (arith, below, len)

pub set_word-requires-clause-frame : goal.set_word-requires-clause-frame
set_word-requires-clause-frame c =
    let l : Lists = the_view c.self.inside in
    let here : option_map (λ (r : Region). r.table) ((state l).regions c.args.space (c.args.number / 1024)) ≡ Some c.args.table = ap (λ (m : Lists). option_map (λ (r : Region). r.table) ((state m).regions c.args.space (c.args.number / 1024))) c.self.view_is ∙ c.requires.region in
    let some : is_some ((state l).entries c.args.space c.args.number) ≡ true = ap (λ (m : Lists). is_some ((state m).entries c.args.space c.args.number)) c.self.view_is ∙ c.requires.entry in
    marks_table l c.self.invariant c.args.space c.args.number c.args.table here

pub invariant_of-self : goal.invariant_of-self
invariant_of-self c =
    let l : Lists = the_view c.self.inside in
    let here : option_map (λ (r : Region). r.table) ((state l).regions c.args.space (c.args.number / 1024)) ≡ Some c.args.table = ap (λ (m : Lists). option_map (λ (r : Region). r.table) ((state m).regions c.args.space (c.args.number / 1024))) c.self.view_is ∙ c.requires.region in
    let some : is_some ((state l).entries c.args.space c.args.number) ≡ true = ap (λ (m : Lists). is_some ((state m).entries c.args.space c.args.number)) c.self.view_is ∙ c.requires.entry in
    let old_is : c.word_at-word.result ≡ get_or (get_or l.words c.args.table []) (c.args.number % 1024) 0 = c.word_at-word.ensures ∙ ap (λ (ws : List (List ℕ)). get_or (get_or ws c.args.table []) (c.args.number % 1024) 0) c.deref.ensures.value in
    let m = marks l c.self.invariant c.args.space c.args.number c.args.table c.args.bits here some c.requires.even c.requires.small c.word_at-word.result old_is c.set_word.ensures.row c.set_word.new.words.items c.set_word.ensures.set in
    m.sound

pub returns-clause-state : goal.returns-clause-state
returns-clause-state c =
    let l : Lists = the_view c.self.inside in
    let here : option_map (λ (r : Region). r.table) ((state l).regions c.args.space (c.args.number / 1024)) ≡ Some c.args.table = ap (λ (m : Lists). option_map (λ (r : Region). r.table) ((state m).regions c.args.space (c.args.number / 1024))) c.self.view_is ∙ c.requires.region in
    let some : is_some ((state l).entries c.args.space c.args.number) ≡ true = ap (λ (m : Lists). is_some ((state m).entries c.args.space c.args.number)) c.self.view_is ∙ c.requires.entry in
    let old_is : c.word_at-word.result ≡ get_or (get_or l.words c.args.table []) (c.args.number % 1024) 0 = c.word_at-word.ensures ∙ ap (λ (ws : List (List ℕ)). get_or (get_or ws c.args.table []) (c.args.number % 1024) 0) c.deref.ensures.value in
    let m = marks l c.self.invariant c.args.space c.args.number c.args.table c.args.bits here some c.requires.even c.requires.small c.word_at-word.result old_is c.set_word.ensures.row c.set_word.new.words.items c.set_word.ensures.set in
    m.state_is ∙ ap (λ (m : Lists). with_entry_bits (state m) c.args.space c.args.number c.args.bits) c.self.view_is
