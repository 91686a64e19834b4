use Rattle.std.proofs.Common.{◌≡◌, ◌∙◌, ℕ, true, Some, List, [], get_or, length, ap, arith, length-set, ◌+◌, ◌/◌, ◌%◌}
use Rattle.std.specs.Prelude.{slice_set}
use Rattle.std.specs.Option.{option_map}
use Rattle.jos_base.specs.SpacesState.{Region, with_entry, frame_of}
use Rattle.jos_space.specs.declared.role.Role.TheVariants.{Reserved}
use Rattle.jos_space.specs.Frames.{Lists, state, may_map}
use Rattle.jos_space.specs.contracts.spaces.Spaces.{the_view}
use Rattle.jos_space.proofs.Uses.{page_use, has_place, bytes_in}
use Rattle.jos_space.proofs.EntryBits.{is_there, is_away}
use Rattle.jos_space.proofs.MapsPage.{below_table, word_fits, count_room, maps_absent, maps_stood}
use Rattle.jos_space.proofs.spaces.Spaces.map_page.Goals as goal
use Rattle.jos_space.proofs.Roles.{not_reserved}

pub word_at-old-requires-clause-frame : goal.word_at-old-requires-clause-frame
word_at-old-requires-clause-frame c =
    let l : Lists = the_view c.self.inside in
    let here : option_map (λ (r : Region). r.table) ((state l).regions c.args.space (c.args.number / 1024)) ≡ Some c.args.table = ap (λ (m : Lists). option_map (λ (r : Region). r.table) ((state m).regions c.args.space (c.args.number / 1024))) c.self.view_is ∙ c.requires.region in
    let may : may_map (get_or l.roles c.args.frame Reserved) ≡ true = bytes_in l c.args.self.now c.args.frame c.self.view_is c.requires.frame in
    let below = below_table l c.self.invariant c.args.space c.args.number c.args.table c.args.frame c.args.perm here may c.requires.perm c.requires.present in let len = ap length c.deref.ensures.value in omega (arith, below, len)

pub overflow_mul-frame : goal.overflow_mul-frame
overflow_mul-frame c =
    let l : Lists = the_view c.self.inside in
    let here : option_map (λ (r : Region). r.table) ((state l).regions c.args.space (c.args.number / 1024)) ≡ Some c.args.table = ap (λ (m : Lists). option_map (λ (r : Region). r.table) ((state m).regions c.args.space (c.args.number / 1024))) c.self.view_is ∙ c.requires.region in
    let may : may_map (get_or l.roles c.args.frame Reserved) ≡ true = bytes_in l c.args.self.now c.args.frame c.self.view_is c.requires.frame in
    let fits = word_fits l c.self.invariant c.args.space c.args.number c.args.table c.args.frame c.args.perm here may c.requires.perm c.requires.present in omega (arith, fits)

pub overflow_add-frame : goal.overflow_add-frame
overflow_add-frame c =
    let l : Lists = the_view c.self.inside in
    let here : option_map (λ (r : Region). r.table) ((state l).regions c.args.space (c.args.number / 1024)) ≡ Some c.args.table = ap (λ (m : Lists). option_map (λ (r : Region). r.table) ((state m).regions c.args.space (c.args.number / 1024))) c.self.view_is ∙ c.requires.region in
    let may : may_map (get_or l.roles c.args.frame Reserved) ≡ true = bytes_in l c.args.self.now c.args.frame c.self.view_is c.requires.frame in
    let fits = word_fits l c.self.invariant c.args.space c.args.number c.args.table c.args.frame c.args.perm here may c.requires.perm c.requires.present in omega (arith, fits)

pub set_word-requires-clause-frame : goal.set_word-requires-clause-frame
set_word-requires-clause-frame c =
    let l : Lists = the_view c.self.inside in
    let here : option_map (λ (r : Region). r.table) ((state l).regions c.args.space (c.args.number / 1024)) ≡ Some c.args.table = ap (λ (m : Lists). option_map (λ (r : Region). r.table) ((state m).regions c.args.space (c.args.number / 1024))) c.self.view_is ∙ c.requires.region in
    let may : may_map (get_or l.roles c.args.frame Reserved) ≡ true = bytes_in l c.args.self.now c.args.frame c.self.view_is c.requires.frame in
    below_table l c.self.invariant c.args.space c.args.number c.args.table c.args.frame c.args.perm here may c.requires.perm c.requires.present

pub overflow_add-count : goal.overflow_add-count
overflow_add-count c =
    let l : Lists = the_view c.self.inside in
    let here : option_map (λ (r : Region). r.table) ((state l).regions c.args.space (c.args.number / 1024)) ≡ Some c.args.table = ap (λ (m : Lists). option_map (λ (r : Region). r.table) ((state m).regions c.args.space (c.args.number / 1024))) c.self.view_is ∙ c.requires.region in
    let may : may_map (get_or l.roles c.args.frame Reserved) ≡ true = bytes_in l c.args.self.now c.args.frame c.self.view_is c.requires.frame in
    let count_is : c.count_at-count.result ≡ get_or l.counts c.args.frame 0 = c.count_at-count.ensures ∙ ap (λ (xs : List ℕ). get_or xs c.args.frame 0) c.deref-2.ensures.value in
    let room = count_room l c.self.invariant c.args.space c.args.number c.args.table c.args.frame c.args.perm here may c.requires.perm c.requires.present in omega (arith, room, count_is)

pub count_at-named-requires : goal.count_at-named-requires
count_at-named-requires c =
    let l : Lists = the_view c.self.inside in
    let here : option_map (λ (r : Region). r.table) ((state l).regions c.args.space (c.args.number / 1024)) ≡ Some c.args.table = ap (λ (m : Lists). option_map (λ (r : Region). r.table) ((state m).regions c.args.space (c.args.number / 1024))) c.self.view_is ∙ c.requires.region in
    let may : may_map (get_or l.roles c.args.frame Reserved) ≡ true = bytes_in l c.args.self.now c.args.frame c.self.view_is c.requires.frame in
    let old_is : c.word_at-old.result ≡ get_or (get_or l.words c.args.table []) (c.args.number % 1024) 0 = c.word_at-old.ensures ∙ ap (λ (ws : List (List ℕ)). get_or (get_or ws c.args.table []) (c.args.number % 1024) 0) c.deref.ensures.value in
    let count_is : c.count_at-count.result ≡ get_or l.counts c.args.frame 0 = c.count_at-count.ensures ∙ ap (λ (xs : List ℕ). get_or xs c.args.frame 0) c.deref-2.ensures.value in
    let m = maps_stood l c.self.invariant c.args.space c.args.number c.args.table c.args.frame c.args.perm here may c.requires.perm c.requires.present c.set_word.ensures.row c.count_at-count.result c.word_at-old.result c.set_word.new.words.items count_is old_is c.set_word.ensures.set 0 (is_there _ _ c.is_present.ensures c.if-is_present.true) in
    let below = m.counts in let len = ap length c.deref-then-is_present.ensures.value in omega (arith, below, len)

pub overflow_sub-named : goal.overflow_sub-named
overflow_sub-named c =
    let l : Lists = the_view c.self.inside in
    let here : option_map (λ (r : Region). r.table) ((state l).regions c.args.space (c.args.number / 1024)) ≡ Some c.args.table = ap (λ (m : Lists). option_map (λ (r : Region). r.table) ((state m).regions c.args.space (c.args.number / 1024))) c.self.view_is ∙ c.requires.region in
    let may : may_map (get_or l.roles c.args.frame Reserved) ≡ true = bytes_in l c.args.self.now c.args.frame c.self.view_is c.requires.frame in
    let old_is : c.word_at-old.result ≡ get_or (get_or l.words c.args.table []) (c.args.number % 1024) 0 = c.word_at-old.ensures ∙ ap (λ (ws : List (List ℕ)). get_or (get_or ws c.args.table []) (c.args.number % 1024) 0) c.deref.ensures.value in
    let count_is : c.count_at-count.result ≡ get_or l.counts c.args.frame 0 = c.count_at-count.ensures ∙ ap (λ (xs : List ℕ). get_or xs c.args.frame 0) c.deref-2.ensures.value in
    let named_is : c.count_at-named.result ≡ get_or (slice_set l.counts c.args.frame (c.count_at-count.result + 1)) (c.word_at-old.result / 4096) 0 = c.count_at-named.ensures ∙ ap (λ (xs : List ℕ). get_or xs (c.word_at-old.result / 4096) 0) c.deref-then-is_present.ensures.value in
    (maps_stood l c.self.invariant c.args.space c.args.number c.args.table c.args.frame c.args.perm here may c.requires.perm c.requires.present c.set_word.ensures.row c.count_at-count.result c.word_at-old.result c.set_word.new.words.items count_is old_is c.set_word.ensures.set c.count_at-named.result (is_there _ _ c.is_present.ensures c.if-is_present.true)).some named_is

pub index_mut-requires-then-is_present : goal.index_mut-requires-then-is_present
index_mut-requires-then-is_present c =
    let l : Lists = the_view c.self.inside in
    let here : option_map (λ (r : Region). r.table) ((state l).regions c.args.space (c.args.number / 1024)) ≡ Some c.args.table = ap (λ (m : Lists). option_map (λ (r : Region). r.table) ((state m).regions c.args.space (c.args.number / 1024))) c.self.view_is ∙ c.requires.region in
    let may : may_map (get_or l.roles c.args.frame Reserved) ≡ true = bytes_in l c.args.self.now c.args.frame c.self.view_is c.requires.frame in
    let old_is : c.word_at-old.result ≡ get_or (get_or l.words c.args.table []) (c.args.number % 1024) 0 = c.word_at-old.ensures ∙ ap (λ (ws : List (List ℕ)). get_or (get_or ws c.args.table []) (c.args.number % 1024) 0) c.deref.ensures.value in
    let count_is : c.count_at-count.result ≡ get_or l.counts c.args.frame 0 = c.count_at-count.ensures ∙ ap (λ (xs : List ℕ). get_or xs c.args.frame 0) c.deref-2.ensures.value in
    let m = maps_stood l c.self.invariant c.args.space c.args.number c.args.table c.args.frame c.args.perm here may c.requires.perm c.requires.present c.set_word.ensures.row c.count_at-count.result c.word_at-old.result c.set_word.new.words.items count_is old_is c.set_word.ensures.set 0 (is_there _ _ c.is_present.ensures c.if-is_present.true) in
    let below = m.counts in let len = length-set c.self.inside.counts.items c.args.frame (c.count_at-count.result + 1) in omega (arith, below, len, c.self.inside.counts.ok)

pub invariant_of-self : goal.invariant_of-self
invariant_of-self c =
    let l : Lists = the_view c.self.inside in
    let here : option_map (λ (r : Region). r.table) ((state l).regions c.args.space (c.args.number / 1024)) ≡ Some c.args.table = ap (λ (m : Lists). option_map (λ (r : Region). r.table) ((state m).regions c.args.space (c.args.number / 1024))) c.self.view_is ∙ c.requires.region in
    let may : may_map (get_or l.roles c.args.frame Reserved) ≡ true = bytes_in l c.args.self.now c.args.frame c.self.view_is c.requires.frame in
    let old_is : c.word_at-old.result ≡ get_or (get_or l.words c.args.table []) (c.args.number % 1024) 0 = c.word_at-old.ensures ∙ ap (λ (ws : List (List ℕ)). get_or (get_or ws c.args.table []) (c.args.number % 1024) 0) c.deref.ensures.value in
    let count_is : c.count_at-count.result ≡ get_or l.counts c.args.frame 0 = c.count_at-count.ensures ∙ ap (λ (xs : List ℕ). get_or xs c.args.frame 0) c.deref-2.ensures.value in
    let named_is : c.count_at-named.result ≡ get_or (slice_set l.counts c.args.frame (c.count_at-count.result + 1)) (c.word_at-old.result / 4096) 0 = c.count_at-named.ensures ∙ ap (λ (xs : List ℕ). get_or xs (c.word_at-old.result / 4096) 0) c.deref-then-is_present.ensures.value in
    (maps_stood l c.self.invariant c.args.space c.args.number c.args.table c.args.frame c.args.perm here may c.requires.perm c.requires.present c.set_word.ensures.row c.count_at-count.result c.word_at-old.result c.set_word.new.words.items count_is old_is c.set_word.ensures.set c.count_at-named.result (is_there _ _ c.is_present.ensures c.if-is_present.true)).sound named_is

pub invariant_of-self-else-is_present : goal.invariant_of-self-else-is_present
invariant_of-self-else-is_present c =
    let l : Lists = the_view c.self.inside in
    let here : option_map (λ (r : Region). r.table) ((state l).regions c.args.space (c.args.number / 1024)) ≡ Some c.args.table = ap (λ (m : Lists). option_map (λ (r : Region). r.table) ((state m).regions c.args.space (c.args.number / 1024))) c.self.view_is ∙ c.requires.region in
    let may : may_map (get_or l.roles c.args.frame Reserved) ≡ true = bytes_in l c.args.self.now c.args.frame c.self.view_is c.requires.frame in
    let old_is : c.word_at-old.result ≡ get_or (get_or l.words c.args.table []) (c.args.number % 1024) 0 = c.word_at-old.ensures ∙ ap (λ (ws : List (List ℕ)). get_or (get_or ws c.args.table []) (c.args.number % 1024) 0) c.deref.ensures.value in
    let count_is : c.count_at-count.result ≡ get_or l.counts c.args.frame 0 = c.count_at-count.ensures ∙ ap (λ (xs : List ℕ). get_or xs c.args.frame 0) c.deref-2.ensures.value in
    (maps_absent l c.self.invariant c.args.space c.args.number c.args.table c.args.frame c.args.perm here may c.requires.perm c.requires.present c.set_word.ensures.row c.count_at-count.result c.word_at-old.result c.set_word.new.words.items count_is old_is c.set_word.ensures.set (is_away _ _ c.is_present.ensures c.if-is_present.false)).sound

pub returns-then-is_present-clause-state : goal.returns-then-is_present-clause-state
returns-then-is_present-clause-state c =
    let l : Lists = the_view c.self.inside in
    let here : option_map (λ (r : Region). r.table) ((state l).regions c.args.space (c.args.number / 1024)) ≡ Some c.args.table = ap (λ (m : Lists). option_map (λ (r : Region). r.table) ((state m).regions c.args.space (c.args.number / 1024))) c.self.view_is ∙ c.requires.region in
    let may : may_map (get_or l.roles c.args.frame Reserved) ≡ true = bytes_in l c.args.self.now c.args.frame c.self.view_is c.requires.frame in
    let old_is : c.word_at-old.result ≡ get_or (get_or l.words c.args.table []) (c.args.number % 1024) 0 = c.word_at-old.ensures ∙ ap (λ (ws : List (List ℕ)). get_or (get_or ws c.args.table []) (c.args.number % 1024) 0) c.deref.ensures.value in
    let count_is : c.count_at-count.result ≡ get_or l.counts c.args.frame 0 = c.count_at-count.ensures ∙ ap (λ (xs : List ℕ). get_or xs c.args.frame 0) c.deref-2.ensures.value in
    let named_is : c.count_at-named.result ≡ get_or (slice_set l.counts c.args.frame (c.count_at-count.result + 1)) (c.word_at-old.result / 4096) 0 = c.count_at-named.ensures ∙ ap (λ (xs : List ℕ). get_or xs (c.word_at-old.result / 4096) 0) c.deref-then-is_present.ensures.value in
    (maps_stood l c.self.invariant c.args.space c.args.number c.args.table c.args.frame c.args.perm here may c.requires.perm c.requires.present c.set_word.ensures.row c.count_at-count.result c.word_at-old.result c.set_word.new.words.items count_is old_is c.set_word.ensures.set c.count_at-named.result (is_there _ _ c.is_present.ensures c.if-is_present.true)).state_is named_is ∙ ap (λ (m : Lists). with_entry (state m) c.args.space c.args.number (record { frame = c.args.frame; perm = c.args.perm })) c.self.view_is

pub returns-then-is_present-clause-gone : goal.returns-then-is_present-clause-gone
returns-then-is_present-clause-gone c =
    let l : Lists = the_view c.self.inside in
    let here : option_map (λ (r : Region). r.table) ((state l).regions c.args.space (c.args.number / 1024)) ≡ Some c.args.table = ap (λ (m : Lists). option_map (λ (r : Region). r.table) ((state m).regions c.args.space (c.args.number / 1024))) c.self.view_is ∙ c.requires.region in
    let may : may_map (get_or l.roles c.args.frame Reserved) ≡ true = bytes_in l c.args.self.now c.args.frame c.self.view_is c.requires.frame in
    let old_is : c.word_at-old.result ≡ get_or (get_or l.words c.args.table []) (c.args.number % 1024) 0 = c.word_at-old.ensures ∙ ap (λ (ws : List (List ℕ)). get_or (get_or ws c.args.table []) (c.args.number % 1024) 0) c.deref.ensures.value in
    let count_is : c.count_at-count.result ≡ get_or l.counts c.args.frame 0 = c.count_at-count.ensures ∙ ap (λ (xs : List ℕ). get_or xs c.args.frame 0) c.deref-2.ensures.value in
    (maps_stood l c.self.invariant c.args.space c.args.number c.args.table c.args.frame c.args.perm here may c.requires.perm c.requires.present c.set_word.ensures.row c.count_at-count.result c.word_at-old.result c.set_word.new.words.items count_is old_is c.set_word.ensures.set 0 (is_there _ _ c.is_present.ensures c.if-is_present.true)).gone ∙ ap (λ (m : Lists). frame_of ((state m).entries c.args.space c.args.number)) c.self.view_is

pub returns-then-is_present-clause-page : goal.returns-then-is_present-clause-page
returns-then-is_present-clause-page c =
    let l : Lists = the_view c.self.inside in
    let here : option_map (λ (r : Region). r.table) ((state l).regions c.args.space (c.args.number / 1024)) ≡ Some c.args.table = ap (λ (m : Lists). option_map (λ (r : Region). r.table) ((state m).regions c.args.space (c.args.number / 1024))) c.self.view_is ∙ c.requires.region in
    let may : may_map (get_or l.roles c.args.frame Reserved) ≡ true = bytes_in l c.args.self.now c.args.frame c.self.view_is c.requires.frame in
    let old_is : c.word_at-old.result ≡ get_or (get_or l.words c.args.table []) (c.args.number % 1024) 0 = c.word_at-old.ensures ∙ ap (λ (ws : List (List ℕ)). get_or (get_or ws c.args.table []) (c.args.number % 1024) 0) c.deref.ensures.value in
    let count_is : c.count_at-count.result ≡ get_or l.counts c.args.frame 0 = c.count_at-count.ensures ∙ ap (λ (xs : List ℕ). get_or xs c.args.frame 0) c.deref-2.ensures.value in
    page_use _ (c.word_at-old.result / 4096) (maps_stood l c.self.invariant c.args.space c.args.number c.args.table c.args.frame c.args.perm here may c.requires.perm c.requires.present c.set_word.ensures.row c.count_at-count.result c.word_at-old.result c.set_word.new.words.items count_is old_is c.set_word.ensures.set 0 (is_there _ _ c.is_present.ensures c.if-is_present.true)).still

pub returns-else-is_present-clause-state : goal.returns-else-is_present-clause-state
returns-else-is_present-clause-state c =
    let l : Lists = the_view c.self.inside in
    let here : option_map (λ (r : Region). r.table) ((state l).regions c.args.space (c.args.number / 1024)) ≡ Some c.args.table = ap (λ (m : Lists). option_map (λ (r : Region). r.table) ((state m).regions c.args.space (c.args.number / 1024))) c.self.view_is ∙ c.requires.region in
    let may : may_map (get_or l.roles c.args.frame Reserved) ≡ true = bytes_in l c.args.self.now c.args.frame c.self.view_is c.requires.frame in
    let old_is : c.word_at-old.result ≡ get_or (get_or l.words c.args.table []) (c.args.number % 1024) 0 = c.word_at-old.ensures ∙ ap (λ (ws : List (List ℕ)). get_or (get_or ws c.args.table []) (c.args.number % 1024) 0) c.deref.ensures.value in
    let count_is : c.count_at-count.result ≡ get_or l.counts c.args.frame 0 = c.count_at-count.ensures ∙ ap (λ (xs : List ℕ). get_or xs c.args.frame 0) c.deref-2.ensures.value in
    (maps_absent l c.self.invariant c.args.space c.args.number c.args.table c.args.frame c.args.perm here may c.requires.perm c.requires.present c.set_word.ensures.row c.count_at-count.result c.word_at-old.result c.set_word.new.words.items count_is old_is c.set_word.ensures.set (is_away _ _ c.is_present.ensures c.if-is_present.false)).state_is ∙ ap (λ (m : Lists). with_entry (state m) c.args.space c.args.number (record { frame = c.args.frame; perm = c.args.perm })) c.self.view_is

pub returns-else-is_present-clause-gone : goal.returns-else-is_present-clause-gone
returns-else-is_present-clause-gone c =
    let l : Lists = the_view c.self.inside in
    let here : option_map (λ (r : Region). r.table) ((state l).regions c.args.space (c.args.number / 1024)) ≡ Some c.args.table = ap (λ (m : Lists). option_map (λ (r : Region). r.table) ((state m).regions c.args.space (c.args.number / 1024))) c.self.view_is ∙ c.requires.region in
    let may : may_map (get_or l.roles c.args.frame Reserved) ≡ true = bytes_in l c.args.self.now c.args.frame c.self.view_is c.requires.frame in
    let old_is : c.word_at-old.result ≡ get_or (get_or l.words c.args.table []) (c.args.number % 1024) 0 = c.word_at-old.ensures ∙ ap (λ (ws : List (List ℕ)). get_or (get_or ws c.args.table []) (c.args.number % 1024) 0) c.deref.ensures.value in
    let count_is : c.count_at-count.result ≡ get_or l.counts c.args.frame 0 = c.count_at-count.ensures ∙ ap (λ (xs : List ℕ). get_or xs c.args.frame 0) c.deref-2.ensures.value in
    (maps_absent l c.self.invariant c.args.space c.args.number c.args.table c.args.frame c.args.perm here may c.requires.perm c.requires.present c.set_word.ensures.row c.count_at-count.result c.word_at-old.result c.set_word.new.words.items count_is old_is c.set_word.ensures.set (is_away _ _ c.is_present.ensures c.if-is_present.false)).nothing ∙ ap (λ (m : Lists). frame_of ((state m).entries c.args.space c.args.number)) c.self.view_is

pub index_mut-requires : goal.index_mut-requires
index_mut-requires c =
    let l : Lists = the_view c.self.inside in
    let place = has_place l c.self.invariant c.args.frame (not_reserved _ (bytes_in l c.args.self.now c.args.frame c.self.view_is c.requires.frame)) in
    let below = place.roles in let counts = place.counts in omega (arith, below, c.self.inside.roles.ok)

pub count_at-count-requires : goal.count_at-count-requires
count_at-count-requires c =
    let l : Lists = the_view c.self.inside in
    let place = has_place l c.self.invariant c.args.frame (not_reserved _ (bytes_in l c.args.self.now c.args.frame c.self.view_is c.requires.frame)) in
    let below = place.roles in let counts = place.counts in let len = ap length c.deref-2.ensures.value in omega (arith, counts, len)

pub index_mut-requires-2 : goal.index_mut-requires-2
index_mut-requires-2 c =
    let l : Lists = the_view c.self.inside in
    let place = has_place l c.self.invariant c.args.frame (not_reserved _ (bytes_in l c.args.self.now c.args.frame c.self.view_is c.requires.frame)) in
    let below = place.roles in let counts = place.counts in omega (arith, counts, c.self.inside.counts.ok)
