use Rattle.std.proofs.Common.{◌≡◌, ◌∙◌, ℕ, Some, None, List, get_or, sym, ap, subst}
use Rattle.std.specs.Option.{option_map}
use Rattle.jos_base.specs.SpacesState.{SpacesState, Region, put}
use Rattle.jos_space.specs.declared.role.Role.TheVariants.{Reserved, Directory}
use Rattle.jos_space.specs.Frames.{Lists, AreSound, IsIdle, state}
use Rattle.jos_space.specs.contracts.spaces.Spaces.{the_view}
use Rattle.jos_space.proofs.TableLists.{below_directory}
use Rattle.jos_space.proofs.Uses.{table_use, directory_in}
use Rattle.jos_space.proofs.Destroying.{cleared_lists_sound, cleared_state, cleared_idle, knows_table}
use Rattle.jos_space.proofs.spaces.Spaces.clear_region.Goals as goal

pub invariant_of-self : goal.invariant_of-self
invariant_of-self c =
    let l : Lists = the_view c.self.inside in
    let dir : get_or l.roles c.args.space Reserved ≡ Directory = directory_in l c.args.self.now c.args.space c.self.view_is c.requires.space in
    let empty : (p : ℕ) → (state l).entries c.args.space p ≡ None = (λ p. ap (λ (m : Lists). (state m).entries c.args.space p) c.self.view_is ∙ c.requires.empty p) in
    subst (λ (ws : List (List ℕ)). AreSound (record l { words = ws })) (sym c.set_word.ensures.set)
    (cleared_lists_sound l c.self.invariant c.args.space c.args.index dir c.requires.index empty c.set_word.ensures.row)

pub returns-clause-state : goal.returns-clause-state
returns-clause-state c =
    let l : Lists = the_view c.self.inside in
    let dir : get_or l.roles c.args.space Reserved ≡ Directory = directory_in l c.args.self.now c.args.space c.self.view_is c.requires.space in
    let empty : (p : ℕ) → (state l).entries c.args.space p ≡ None = (λ p. ap (λ (m : Lists). (state m).entries c.args.space p) c.self.view_is ∙ c.requires.empty p) in
    ap (λ (ws : List (List ℕ)). state (record l { words = ws })) c.set_word.ensures.set
    ∙ cleared_state l c.self.invariant c.args.space c.args.index dir c.requires.index empty c.set_word.ensures.row
    ∙ ap (λ (m : Lists). record (state m) { regions = put (state m).regions c.args.space c.args.index None }) c.self.view_is

pub returns-clause-idle : goal.returns-clause-idle
returns-clause-idle c table here =
    let l : Lists = the_view c.self.inside in
    let dir : get_or l.roles c.args.space Reserved ≡ Directory = directory_in l c.args.self.now c.args.space c.self.view_is c.requires.space in
    let empty : (p : ℕ) → (state l).entries c.args.space p ≡ None = (λ p. ap (λ (m : Lists). (state m).entries c.args.space p) c.self.view_is ∙ c.requires.empty p) in
    let there : option_map (λ (r : Region). r.table) ((state l).regions c.args.space c.args.index) ≡ Some table =
    ap (λ (m : Lists). option_map (λ (r : Region). r.table) ((state m).regions c.args.space c.args.index)) c.self.view_is ∙ here in
    subst (λ (s : SpacesState). IsIdle s table)
    (sym (ap (λ (ws : List (List ℕ)). state (record l { words = ws })) c.set_word.ensures.set
    ∙ cleared_state l c.self.invariant c.args.space c.args.index dir c.requires.index empty c.set_word.ensures.row))
    (cleared_idle l c.self.invariant c.args.space c.args.index dir c.requires.index empty c.set_word.ensures.row table there)

pub set_word-requires-clause-frame : goal.set_word-requires-clause-frame
set_word-requires-clause-frame c =
    let l : Lists = the_view c.self.inside in
    below_directory l c.self.invariant c.args.space (directory_in l c.args.self.now c.args.space c.self.view_is c.requires.space)

pub returns-clause-table : goal.returns-clause-table
returns-clause-table c table here =
    let l : Lists = the_view c.self.inside in
    let dir : get_or l.roles c.args.space Reserved ≡ Directory = directory_in l c.args.self.now c.args.space c.self.view_is c.requires.space in
    let empty : (p : ℕ) → (state l).entries c.args.space p ≡ None = (λ p. ap (λ (m : Lists). (state m).entries c.args.space p) c.self.view_is ∙ c.requires.empty p) in
    let there : option_map (λ (r : Region). r.table) ((state l).regions c.args.space c.args.index) ≡ Some table =
    ap (λ (m : Lists). option_map (λ (r : Region). r.table) ((state m).regions c.args.space c.args.index)) c.self.view_is ∙ here in
    table_use _ table c.args.space c.args.index (knows_table l c.self.invariant c.args.space c.args.index dir c.requires.index empty c.set_word.ensures.row table there)
