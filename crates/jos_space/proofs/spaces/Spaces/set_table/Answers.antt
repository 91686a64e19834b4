use Rattle.std.proofs.Common.{◌≡◌, ◌∙◌, ◌+◌, ◌*◌, ℕ, None, List, [], get_or, length, sym, ap, subst, arith}
use Rattle.std.proofs.Common.{length-set}
use Rattle.std.specs.Prelude.{slice_set}
use Rattle.jos_base.specs.SpacesState.{with_table}
use Rattle.jos_space.specs.declared.role.Role.TheVariants.{Fresh, Reserved, Directory, Table}
use Rattle.jos_space.specs.Frames.{Lists, AreSound, state, zero_words}
use Rattle.jos_space.specs.contracts.spaces.Spaces.{the_view}
use Rattle.jos_space.proofs.Roles.{is_reserved}
use Rattle.jos_space.proofs.Uses.{has_place, directory_in, fresh_in}
use Rattle.jos_space.proofs.TableLists.{table_fits, made_lists_sound, made_lists_state}
use Rattle.jos_space.proofs.spaces.Spaces.set_table.Goals as goal

pub overflow_mul-frame : goal.overflow_mul-frame
overflow_mul-frame c =
    let l : Lists = the_view c.self.inside in
    let dir : get_or l.roles c.args.space Reserved ≡ Directory = directory_in l c.args.self.now c.args.space c.self.view_is c.requires.space in
    let is : get_or l.roles c.args.frame Reserved ≡ Fresh = fresh_in l c.args.self.now c.args.frame c.self.view_is c.requires.frame in
    let none : (state l).regions c.args.space c.args.index ≡ None = ap (λ (m : Lists). (state m).regions c.args.space c.args.index) c.self.view_is ∙ c.requires.region in
    let fits = table_fits l c.self.invariant c.args.space c.args.index c.args.frame dir c.requires.index is none in omega (arith, fits)

pub overflow_add-frame : goal.overflow_add-frame
overflow_add-frame c =
    let l : Lists = the_view c.self.inside in
    let dir : get_or l.roles c.args.space Reserved ≡ Directory = directory_in l c.args.self.now c.args.space c.self.view_is c.requires.space in
    let is : get_or l.roles c.args.frame Reserved ≡ Fresh = fresh_in l c.args.self.now c.args.frame c.self.view_is c.requires.frame in
    let none : (state l).regions c.args.space c.args.index ≡ None = ap (λ (m : Lists). (state m).regions c.args.space c.args.index) c.self.view_is ∙ c.requires.region in
    let fits = table_fits l c.self.invariant c.args.space c.args.index c.args.frame dir c.requires.index is none in omega (arith, fits)

pub invariant_of-self : goal.invariant_of-self
invariant_of-self c =
    let l : Lists = the_view c.self.inside in
    let dir : get_or l.roles c.args.space Reserved ≡ Directory = directory_in l c.args.self.now c.args.space c.self.view_is c.requires.space in
    let is : get_or l.roles c.args.frame Reserved ≡ Fresh = fresh_in l c.args.self.now c.args.frame c.self.view_is c.requires.frame in
    let none : (state l).regions c.args.space c.args.index ≡ None = ap (λ (m : Lists). (state m).regions c.args.space c.args.index) c.self.view_is ∙ c.requires.region in
    let cleared : c.clear_words.new.words.items ≡ slice_set l.words c.args.frame zero_words = c.clear_words.ensures in
    let row : length (get_or (slice_set l.words c.args.frame zero_words) c.args.space []) ≡ 1024 = ap (λ (ws : List (List ℕ)). length (get_or ws c.args.space [])) (sym cleared) ∙ c.set_word.ensures.row in
    let words_is : c.set_word.new.words.items ≡ slice_set (slice_set l.words c.args.frame zero_words) c.args.space (slice_set (get_or (slice_set l.words c.args.frame zero_words) c.args.space []) c.args.index (c.args.frame * 4096 + 7)) =
    c.set_word.ensures.set ∙ ap (λ (ws : List (List ℕ)). slice_set ws c.args.space (slice_set (get_or ws c.args.space []) c.args.index (c.args.frame * 4096 + 7))) cleared in
    subst (λ (ws : List (List ℕ)). AreSound (record l { words = ws; roles = slice_set l.roles c.args.frame (Table c.args.space c.args.index) })) (sym words_is) (made_lists_sound l c.self.invariant c.args.space c.args.index c.args.frame dir c.requires.index is none row)

pub returns-clause-after : goal.returns-clause-after
returns-clause-after c =
    let l : Lists = the_view c.self.inside in
    let dir : get_or l.roles c.args.space Reserved ≡ Directory = directory_in l c.args.self.now c.args.space c.self.view_is c.requires.space in
    let is : get_or l.roles c.args.frame Reserved ≡ Fresh = fresh_in l c.args.self.now c.args.frame c.self.view_is c.requires.frame in
    let none : (state l).regions c.args.space c.args.index ≡ None = ap (λ (m : Lists). (state m).regions c.args.space c.args.index) c.self.view_is ∙ c.requires.region in
    let cleared : c.clear_words.new.words.items ≡ slice_set l.words c.args.frame zero_words = c.clear_words.ensures in
    let row : length (get_or (slice_set l.words c.args.frame zero_words) c.args.space []) ≡ 1024 = ap (λ (ws : List (List ℕ)). length (get_or ws c.args.space [])) (sym cleared) ∙ c.set_word.ensures.row in
    let words_is : c.set_word.new.words.items ≡ slice_set (slice_set l.words c.args.frame zero_words) c.args.space (slice_set (get_or (slice_set l.words c.args.frame zero_words) c.args.space []) c.args.index (c.args.frame * 4096 + 7)) =
    c.set_word.ensures.set ∙ ap (λ (ws : List (List ℕ)). slice_set ws c.args.space (slice_set (get_or ws c.args.space []) c.args.index (c.args.frame * 4096 + 7))) cleared in
    ap (λ (ws : List (List ℕ)). state (record l { words = ws; roles = slice_set l.roles c.args.frame (Table c.args.space c.args.index) })) words_is ∙ made_lists_state l c.self.invariant c.args.space c.args.index c.args.frame dir c.requires.index is none row ∙ ap (λ (m : Lists). with_table (state m) c.args.space c.args.index c.args.frame) c.self.view_is

pub clear_words-requires : goal.clear_words-requires
clear_words-requires c =
    let l : Lists = the_view c.self.inside in
    let place = has_place l c.self.invariant c.args.frame (ap is_reserved (fresh_in l c.args.self.now c.args.frame c.self.view_is c.requires.frame)) in
    place.words

pub set_word-requires-clause-frame : goal.set_word-requires-clause-frame
set_word-requires-clause-frame c =
    let l : Lists = the_view c.self.inside in
    let place = has_place l c.self.invariant c.args.space (ap is_reserved (directory_in l c.args.self.now c.args.space c.self.view_is c.requires.space)) in
    let below = place.words in let same = ap length c.clear_words.ensures in let len = length-set l.words c.args.frame zero_words in omega (arith, below, same, len)

pub index_mut-requires : goal.index_mut-requires
index_mut-requires c =
    let l : Lists = the_view c.self.inside in
    let place = has_place l c.self.invariant c.args.frame (ap is_reserved (fresh_in l c.args.self.now c.args.frame c.self.view_is c.requires.frame)) in
    let below = place.roles in omega (arith, below, c.self.inside.roles.ok)
