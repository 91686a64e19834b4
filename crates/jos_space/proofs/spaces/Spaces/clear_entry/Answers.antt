use Rattle.std.proofs.Common.{◌≡◌, ◌∙◌, ◌-◌, ◌/◌, ◌%◌, ℕ, Some, List, [], get_or, length, sym, ap, subst, arith}
use Rattle.std.specs.Prelude.{slice_set}
use Rattle.std.specs.Option.{option_map}
use Rattle.jos_base.specs.SpacesState.{Region, without_entry, frame_of}
use Rattle.jos_space.specs.Frames.{Lists, AreSound, state}
use Rattle.jos_space.specs.contracts.spaces.Spaces.{the_view}
use Rattle.jos_space.proofs.Uses.{page_use}
use Rattle.jos_space.proofs.EntryBits.{is_there, is_away}
use Rattle.jos_space.proofs.Marking.{marks_table}
use Rattle.jos_space.proofs.Unmapping.{gone_table, absent_lists_sound, absent_state, absent_frame, stood_page}
use Rattle.jos_space.proofs.Unmapping.{stood_frame, stood_counts, stood_some, stood_lists_sound, stood_state}
use Rattle.jos_space.proofs.spaces.Spaces.clear_entry.Goals as goal

pub word_at-old-requires-clause-frame : goal.word_at-old-requires-clause-frame
word_at-old-requires-clause-frame c =
    let l : Lists = the_view c.self.inside in
    let here : option_map (λ (r : Region). r.table) ((state l).regions c.args.space (c.args.number / 1024)) ≡ Some c.args.table = ap (λ (m : Lists). option_map (λ (r : Region). r.table) ((state m).regions c.args.space (c.args.number / 1024))) c.self.view_is ∙ c.requires in
    let below = marks_table l c.self.invariant c.args.space c.args.number c.args.table here in let len = ap length c.deref.ensures.value in omega (arith, below, len)

pub set_word-requires-clause-frame : goal.set_word-requires-clause-frame
set_word-requires-clause-frame c =
    let l : Lists = the_view c.self.inside in
    let here : option_map (λ (r : Region). r.table) ((state l).regions c.args.space (c.args.number / 1024)) ≡ Some c.args.table = ap (λ (m : Lists). option_map (λ (r : Region). r.table) ((state m).regions c.args.space (c.args.number / 1024))) c.self.view_is ∙ c.requires in
    let old_is : c.word_at-old.result ≡ get_or (get_or l.words c.args.table []) (c.args.number % 1024) 0 = c.word_at-old.ensures ∙ ap (λ (ws : List (List ℕ)). get_or (get_or ws c.args.table []) (c.args.number % 1024) 0) c.deref.ensures.value in
    gone_table l c.self.invariant c.args.space c.args.number c.args.table here c.word_at-old.result old_is

pub count_at-named-requires : goal.count_at-named-requires
count_at-named-requires c =
    let l : Lists = the_view c.self.inside in
    let here : option_map (λ (r : Region). r.table) ((state l).regions c.args.space (c.args.number / 1024)) ≡ Some c.args.table = ap (λ (m : Lists). option_map (λ (r : Region). r.table) ((state m).regions c.args.space (c.args.number / 1024))) c.self.view_is ∙ c.requires in
    let old_is : c.word_at-old.result ≡ get_or (get_or l.words c.args.table []) (c.args.number % 1024) 0 = c.word_at-old.ensures ∙ ap (λ (ws : List (List ℕ)). get_or (get_or ws c.args.table []) (c.args.number % 1024) 0) c.deref.ensures.value in
    let below = stood_counts l c.self.invariant c.args.space c.args.number c.args.table here c.word_at-old.result old_is c.set_word.ensures.row (is_there _ _ c.is_present.ensures c.if-is_present.true) in let len = ap length c.deref-then-is_present.ensures.value in omega (arith, below, len)

pub overflow_sub-named : goal.overflow_sub-named
overflow_sub-named c =
    let l : Lists = the_view c.self.inside in
    let here : option_map (λ (r : Region). r.table) ((state l).regions c.args.space (c.args.number / 1024)) ≡ Some c.args.table = ap (λ (m : Lists). option_map (λ (r : Region). r.table) ((state m).regions c.args.space (c.args.number / 1024))) c.self.view_is ∙ c.requires in
    let old_is : c.word_at-old.result ≡ get_or (get_or l.words c.args.table []) (c.args.number % 1024) 0 = c.word_at-old.ensures ∙ ap (λ (ws : List (List ℕ)). get_or (get_or ws c.args.table []) (c.args.number % 1024) 0) c.deref.ensures.value in
    let named_is : c.count_at-named.result ≡ get_or l.counts (c.word_at-old.result / 4096) 0 = c.count_at-named.ensures ∙ ap (λ (xs : List ℕ). get_or xs (c.word_at-old.result / 4096) 0) c.deref-then-is_present.ensures.value in
    let some = stood_some l c.self.invariant c.args.space c.args.number c.args.table here c.word_at-old.result old_is c.set_word.ensures.row (is_there _ _ c.is_present.ensures c.if-is_present.true) in omega (arith, some, named_is)

pub invariant_of-self : goal.invariant_of-self
invariant_of-self c =
    let l : Lists = the_view c.self.inside in
    let here : option_map (λ (r : Region). r.table) ((state l).regions c.args.space (c.args.number / 1024)) ≡ Some c.args.table = ap (λ (m : Lists). option_map (λ (r : Region). r.table) ((state m).regions c.args.space (c.args.number / 1024))) c.self.view_is ∙ c.requires in
    let old_is : c.word_at-old.result ≡ get_or (get_or l.words c.args.table []) (c.args.number % 1024) 0 = c.word_at-old.ensures ∙ ap (λ (ws : List (List ℕ)). get_or (get_or ws c.args.table []) (c.args.number % 1024) 0) c.deref.ensures.value in
    let named_is : c.count_at-named.result ≡ get_or l.counts (c.word_at-old.result / 4096) 0 = c.count_at-named.ensures ∙ ap (λ (xs : List ℕ). get_or xs (c.word_at-old.result / 4096) 0) c.deref-then-is_present.ensures.value in
    subst (λ (k : ℕ). AreSound (record l { words = c.set_word.new.words.items; counts = (slice_set l.counts (c.word_at-old.result / 4096) (k - 1)) })) (sym named_is) (subst (λ (ws : List (List ℕ)). AreSound (record l { words = ws; counts = slice_set l.counts (c.word_at-old.result / 4096) (get_or l.counts (c.word_at-old.result / 4096) 0 - 1) })) (sym c.set_word.ensures.set) (stood_lists_sound l c.self.invariant c.args.space c.args.number c.args.table here c.word_at-old.result old_is c.set_word.ensures.row (is_there _ _ c.is_present.ensures c.if-is_present.true)))

pub invariant_of-self-else-is_present : goal.invariant_of-self-else-is_present
invariant_of-self-else-is_present c =
    let l : Lists = the_view c.self.inside in
    let here : option_map (λ (r : Region). r.table) ((state l).regions c.args.space (c.args.number / 1024)) ≡ Some c.args.table = ap (λ (m : Lists). option_map (λ (r : Region). r.table) ((state m).regions c.args.space (c.args.number / 1024))) c.self.view_is ∙ c.requires in
    let old_is : c.word_at-old.result ≡ get_or (get_or l.words c.args.table []) (c.args.number % 1024) 0 = c.word_at-old.ensures ∙ ap (λ (ws : List (List ℕ)). get_or (get_or ws c.args.table []) (c.args.number % 1024) 0) c.deref.ensures.value in
    subst (λ (ws : List (List ℕ)). AreSound (record l { words = ws })) (sym c.set_word.ensures.set) (absent_lists_sound l c.self.invariant c.args.space c.args.number c.args.table here c.word_at-old.result old_is c.set_word.ensures.row (is_away _ _ c.is_present.ensures c.if-is_present.false))

pub returns-then-is_present-clause-state : goal.returns-then-is_present-clause-state
returns-then-is_present-clause-state c =
    let l : Lists = the_view c.self.inside in
    let here : option_map (λ (r : Region). r.table) ((state l).regions c.args.space (c.args.number / 1024)) ≡ Some c.args.table = ap (λ (m : Lists). option_map (λ (r : Region). r.table) ((state m).regions c.args.space (c.args.number / 1024))) c.self.view_is ∙ c.requires in
    let old_is : c.word_at-old.result ≡ get_or (get_or l.words c.args.table []) (c.args.number % 1024) 0 = c.word_at-old.ensures ∙ ap (λ (ws : List (List ℕ)). get_or (get_or ws c.args.table []) (c.args.number % 1024) 0) c.deref.ensures.value in
    let named_is : c.count_at-named.result ≡ get_or l.counts (c.word_at-old.result / 4096) 0 = c.count_at-named.ensures ∙ ap (λ (xs : List ℕ). get_or xs (c.word_at-old.result / 4096) 0) c.deref-then-is_present.ensures.value in
    ap (λ (k : ℕ). state (record l { words = c.set_word.new.words.items; counts = (slice_set l.counts (c.word_at-old.result / 4096) (k - 1)) })) named_is ∙ ap (λ (ws : List (List ℕ)). state (record l { words = ws; counts = slice_set l.counts (c.word_at-old.result / 4096) (get_or l.counts (c.word_at-old.result / 4096) 0 - 1) })) c.set_word.ensures.set ∙ stood_state l c.self.invariant c.args.space c.args.number c.args.table here c.word_at-old.result old_is c.set_word.ensures.row (is_there _ _ c.is_present.ensures c.if-is_present.true) ∙ ap (λ (m : Lists). without_entry (state m) c.args.space c.args.number) c.self.view_is

pub returns-then-is_present-clause-gone : goal.returns-then-is_present-clause-gone
returns-then-is_present-clause-gone c =
    let l : Lists = the_view c.self.inside in
    let here : option_map (λ (r : Region). r.table) ((state l).regions c.args.space (c.args.number / 1024)) ≡ Some c.args.table = ap (λ (m : Lists). option_map (λ (r : Region). r.table) ((state m).regions c.args.space (c.args.number / 1024))) c.self.view_is ∙ c.requires in
    let old_is : c.word_at-old.result ≡ get_or (get_or l.words c.args.table []) (c.args.number % 1024) 0 = c.word_at-old.ensures ∙ ap (λ (ws : List (List ℕ)). get_or (get_or ws c.args.table []) (c.args.number % 1024) 0) c.deref.ensures.value in
    stood_frame l c.self.invariant c.args.space c.args.number c.args.table here c.word_at-old.result old_is c.set_word.ensures.row (is_there _ _ c.is_present.ensures c.if-is_present.true) ∙ ap (λ (m : Lists). frame_of ((state m).entries c.args.space c.args.number)) c.self.view_is

pub returns-then-is_present-clause-page : goal.returns-then-is_present-clause-page
returns-then-is_present-clause-page c =
    let l : Lists = the_view c.self.inside in
    let here : option_map (λ (r : Region). r.table) ((state l).regions c.args.space (c.args.number / 1024)) ≡ Some c.args.table = ap (λ (m : Lists). option_map (λ (r : Region). r.table) ((state m).regions c.args.space (c.args.number / 1024))) c.self.view_is ∙ c.requires in
    let old_is : c.word_at-old.result ≡ get_or (get_or l.words c.args.table []) (c.args.number % 1024) 0 = c.word_at-old.ensures ∙ ap (λ (ws : List (List ℕ)). get_or (get_or ws c.args.table []) (c.args.number % 1024) 0) c.deref.ensures.value in
    page_use _ (c.word_at-old.result / 4096) (stood_page l c.self.invariant c.args.space c.args.number c.args.table here c.word_at-old.result old_is c.set_word.ensures.row (is_there _ _ c.is_present.ensures c.if-is_present.true))

pub returns-else-is_present-clause-state : goal.returns-else-is_present-clause-state
returns-else-is_present-clause-state c =
    let l : Lists = the_view c.self.inside in
    let here : option_map (λ (r : Region). r.table) ((state l).regions c.args.space (c.args.number / 1024)) ≡ Some c.args.table = ap (λ (m : Lists). option_map (λ (r : Region). r.table) ((state m).regions c.args.space (c.args.number / 1024))) c.self.view_is ∙ c.requires in
    let old_is : c.word_at-old.result ≡ get_or (get_or l.words c.args.table []) (c.args.number % 1024) 0 = c.word_at-old.ensures ∙ ap (λ (ws : List (List ℕ)). get_or (get_or ws c.args.table []) (c.args.number % 1024) 0) c.deref.ensures.value in
    ap (λ (ws : List (List ℕ)). state (record l { words = ws })) c.set_word.ensures.set ∙ absent_state l c.self.invariant c.args.space c.args.number c.args.table here c.word_at-old.result old_is c.set_word.ensures.row (is_away _ _ c.is_present.ensures c.if-is_present.false) ∙ ap (λ (m : Lists). without_entry (state m) c.args.space c.args.number) c.self.view_is

pub returns-else-is_present-clause-gone : goal.returns-else-is_present-clause-gone
returns-else-is_present-clause-gone c =
    let l : Lists = the_view c.self.inside in
    let here : option_map (λ (r : Region). r.table) ((state l).regions c.args.space (c.args.number / 1024)) ≡ Some c.args.table = ap (λ (m : Lists). option_map (λ (r : Region). r.table) ((state m).regions c.args.space (c.args.number / 1024))) c.self.view_is ∙ c.requires in
    let old_is : c.word_at-old.result ≡ get_or (get_or l.words c.args.table []) (c.args.number % 1024) 0 = c.word_at-old.ensures ∙ ap (λ (ws : List (List ℕ)). get_or (get_or ws c.args.table []) (c.args.number % 1024) 0) c.deref.ensures.value in
    absent_frame l c.self.invariant c.args.space c.args.number c.args.table here c.word_at-old.result old_is c.set_word.ensures.row (is_away _ _ c.is_present.ensures c.if-is_present.false) ∙ ap (λ (m : Lists). frame_of ((state m).entries c.args.space c.args.number)) c.self.view_is

pub index_mut-requires : goal.index_mut-requires
index_mut-requires c =
    let l : Lists = the_view c.self.inside in
    let here : option_map (λ (r : Region). r.table) ((state l).regions c.args.space (c.args.number / 1024)) ≡ Some c.args.table = ap (λ (m : Lists). option_map (λ (r : Region). r.table) ((state m).regions c.args.space (c.args.number / 1024))) c.self.view_is ∙ c.requires in
    let old_is : c.word_at-old.result ≡ get_or (get_or l.words c.args.table []) (c.args.number % 1024) 0 = c.word_at-old.ensures ∙ ap (λ (ws : List (List ℕ)). get_or (get_or ws c.args.table []) (c.args.number % 1024) 0) c.deref.ensures.value in
    let below = stood_counts l c.self.invariant c.args.space c.args.number c.args.table here c.word_at-old.result old_is c.set_word.ensures.row (is_there _ _ c.is_present.ensures c.if-is_present.true) in omega (arith, below, c.self.inside.counts.ok)
