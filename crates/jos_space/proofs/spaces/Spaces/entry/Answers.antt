use Rattle.std.proofs.Common.{◌≡◌, ◌∙◌, ◌/◌, ◌%◌, ℕ, Some, List, [], get_or, length, sym, ap, subst, arith}
use Rattle.std.specs.Option.{option_map}
use Rattle.jos_base.specs.SpacesState.{Region}
use Rattle.jos_space.specs.Frames.{Lists, AreSound, state, entry_of}
use Rattle.jos_space.proofs.EntryBits.{is_there, is_away}
use Rattle.jos_space.proofs.MapsPage.{entry_present, entry_absent}
use Rattle.jos_space.proofs.Marking.{marks_table, entries_at, entries_none}
use Rattle.jos_space.proofs.TableLists.{not_there}
use Rattle.jos_space.proofs.Uses.{entry_page}
use Rattle.jos_space.proofs.spaces.Spaces.entry.Goals as goal

pub returns-in-None-clause-entry : goal.returns-in-None-clause-entry
returns-in-None-clause-entry c =
    let none = entries_none c.args.self.now c.args.space (c.args.number) (not_there (state c.args.self.now) c.args.space (c.args.number / 1024) c.in-None.ensures) in
    sym none

pub word_at-word-requires-clause-frame : goal.word_at-word-requires-clause-frame
word_at-word-requires-clause-frame c =
    let found : option_map (λ (r : Region). r.table) ((state c.args.self.now).regions c.args.space (c.args.number / 1024)) ≡ Some c.in-Some.table = sym c.in-Some.ensures in
    let invariant : AreSound c.args.self.now = subst (λ (l : Lists). AreSound l) c.self.view_is c.self.invariant in
    let below = marks_table c.args.self.now invariant c.args.space (c.args.number) c.in-Some.table found in
    let len = ap length (c.deref.ensures.value ∙ ap (λ (l : Lists). l.words) c.self.view_is) in
    omega (arith, below, len)

pub returns-then-is_present-clause-entry : goal.returns-then-is_present-clause-entry
returns-then-is_present-clause-entry c =
    let found : option_map (λ (r : Region). r.table) ((state c.args.self.now).regions c.args.space (c.args.number / 1024)) ≡ Some c.in-Some.table = sym c.in-Some.ensures in
    let word_is : c.word_at-word.result ≡ get_or (get_or c.args.self.now.words c.in-Some.table []) (c.args.number % 1024) 0 =
    c.word_at-word.ensures ∙ ap (λ (ws : List (List ℕ)). get_or (get_or ws c.in-Some.table []) (c.args.number % 1024) 0) (c.deref.ensures.value ∙ ap (λ (l : Lists). l.words) c.self.view_is) in
    let entry_is : (state c.args.self.now).entries c.args.space (c.args.number) ≡ entry_of c.word_at-word.result = entries_at c.args.self.now c.args.space (c.args.number) c.in-Some.table found ∙ ap entry_of (sym word_is) in
    sym (entry_is ∙ entry_present c.word_at-word.result (is_there _ _ c.is_present.ensures c.if-is_present.true))

pub returns-then-is_present-clause-page : goal.returns-then-is_present-clause-page
returns-then-is_present-clause-page c =
    let invariant : AreSound c.args.self.now = subst (λ (l : Lists). AreSound l) c.self.view_is c.self.invariant in
    let found : option_map (λ (r : Region). r.table) ((state c.args.self.now).regions c.args.space (c.args.number / 1024)) ≡ Some c.in-Some.table = sym c.in-Some.ensures in
    let word_is : c.word_at-word.result ≡ get_or (get_or c.args.self.now.words c.in-Some.table []) (c.args.number % 1024) 0 =
    c.word_at-word.ensures ∙ ap (λ (ws : List (List ℕ)). get_or (get_or ws c.in-Some.table []) (c.args.number % 1024) 0) (c.deref.ensures.value ∙ ap (λ (l : Lists). l.words) c.self.view_is) in
    let entry_is : (state c.args.self.now).entries c.args.space (c.args.number) ≡ entry_of c.word_at-word.result = entries_at c.args.self.now c.args.space (c.args.number) c.in-Some.table found ∙ ap entry_of (sym word_is) in
    entry_page c.args.self.now invariant c.args.space (c.args.number) (record { frame = c.word_at-word.result / 4096; perm = c.word_at-word.result % 4096 })
    (entry_is ∙ entry_present c.word_at-word.result (is_there _ _ c.is_present.ensures c.if-is_present.true))

pub returns-else-is_present-clause-entry : goal.returns-else-is_present-clause-entry
returns-else-is_present-clause-entry c =
    let found : option_map (λ (r : Region). r.table) ((state c.args.self.now).regions c.args.space (c.args.number / 1024)) ≡ Some c.in-Some.table = sym c.in-Some.ensures in
    let word_is : c.word_at-word.result ≡ get_or (get_or c.args.self.now.words c.in-Some.table []) (c.args.number % 1024) 0 =
    c.word_at-word.ensures ∙ ap (λ (ws : List (List ℕ)). get_or (get_or ws c.in-Some.table []) (c.args.number % 1024) 0) (c.deref.ensures.value ∙ ap (λ (l : Lists). l.words) c.self.view_is) in
    let entry_is : (state c.args.self.now).entries c.args.space (c.args.number) ≡ entry_of c.word_at-word.result = entries_at c.args.self.now c.args.space (c.args.number) c.in-Some.table found ∙ ap entry_of (sym word_is) in
    sym (entry_is ∙ entry_absent c.word_at-word.result (is_away _ _ c.is_present.ensures c.if-is_present.false))
