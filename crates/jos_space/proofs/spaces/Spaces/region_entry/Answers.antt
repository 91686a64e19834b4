use Rattle.std.proofs.Common.{◌≡◌, ◌∙◌, ◌/◌, ℕ, List, [], Option, Some, get_or, length, sym, ap, arith}
use Rattle.std.specs.Option.{option_map}
use Rattle.jos_base.specs.SpacesState.{Region}
use Rattle.jos_base.specs.Windows.{region_entry}
use Rattle.jos_space.specs.Frames.{Lists, held_in, region_of, is_accessed}
use Rattle.jos_space.specs.contracts.spaces.Spaces.{the_view}
use Rattle.jos_space.proofs.TableLists.{below_directory}
use Rattle.jos_space.proofs.Uses.{directory_role, directory_in}
use Rattle.jos_space.proofs.EntryBits.{is_there, is_away}
use Rattle.jos_space.proofs.OverLists.{table_is}
use Rattle.jos_space.proofs.Marking.{region_there, region_away}
use Rattle.jos_space.proofs.spaces.Spaces.region_entry.Goals as goal

pub word_at-word-requires-clause-frame : goal.word_at-word-requires-clause-frame
word_at-word-requires-clause-frame c =
    let l = the_view c.self.inside in
    let below = below_directory l c.self.invariant c.args.space (directory_in l c.args.self.now c.args.space c.self.view_is c.requires.space) in
    let len = ap length c.deref.ensures.value in
    omega (arith, below, len)

pub returns-then-is_present : goal.returns-then-is_present
returns-then-is_present c =
    let is : c.word_at-word.result ≡ get_or (get_or c.args.self.now.words c.args.space []) c.args.index 0 = c.word_at-word.ensures ∙ ap (λ (ws : List (List ℕ)). get_or (get_or ws c.args.space []) c.args.index 0) (c.deref.ensures.value ∙ ap (λ (l : Lists). l.words) c.self.view_is) in
    let region = table_is c.args.self.now c.args.space c.args.index (directory_role (held_in c.args.self.now) c.args.space c.requires.space) c.requires.index ∙ ap region_of (sym is) in
    let there = region_there c.word_at-word.result (is_there _ _ c.is_present.ensures c.if-is_present.true) in
    let perm : ◌≡◌ {A = Option ℕ} (Some (region_entry (record { table = c.word_at-word.result / 4096; accessed = is_accessed c.word_at-word.result })).perm) (Some c.region_perm.result.0) =
    sym (ap (option_map (λ (r : Region). (region_entry r).perm)) there) ∙ c.region_perm.ensures ∙ ap (option_map (λ (r : Region). c.region_perm.result.0)) there in
    sym (ap (option_map region_entry) (region ∙ there) ∙ ap (option_map (λ (n : ℕ). record { frame = c.word_at-word.result / 4096; perm = n })) perm)

pub returns-else-is_present : goal.returns-else-is_present
returns-else-is_present c =
    let is : c.word_at-word.result ≡ get_or (get_or c.args.self.now.words c.args.space []) c.args.index 0 = c.word_at-word.ensures ∙ ap (λ (ws : List (List ℕ)). get_or (get_or ws c.args.space []) c.args.index 0) (c.deref.ensures.value ∙ ap (λ (l : Lists). l.words) c.self.view_is) in
    let region = table_is c.args.self.now c.args.space c.args.index (directory_role (held_in c.args.self.now) c.args.space c.requires.space) c.requires.index ∙ ap region_of (sym is) in
    sym (ap (option_map region_entry) (region ∙ region_away c.word_at-word.result (is_away _ _ c.is_present.ensures c.if-is_present.false)))
