use Rattle.std.proofs.Common.{◌∙◌, ◌/◌, Some, refl, sym, ap}
use Rattle.std.specs.Option.{option_map}
use Rattle.jos_base.specs.Reach.{Entry}
use Rattle.jos_base.specs.SpacesState.{SpacesState, page, mapped, inserted, released}
use Rattle.jos_space.specs.Calls.{has_bytes, KeepsDirectories}
use Rattle.jos_space.specs.Frames.{state}
use Rattle.jos_space.proofs.EntryBits.{user_present}
use Rattle.jos_space.proofs.Keeping.{keeps_other, keeps_both, free_apart, bytes_apart, bytes_used}
use Rattle.jos_space.proofs.Directories.{same_directories, inserted_no_more}
use Rattle.jos_space.proofs.PagesHeld.{pages_same}
use Rattle.jos_space.proofs.spaces.Spaces.insert.Goals as goal
use Rattle.jos_base.proofs.Maps.{upd-at}
use Rattle.jos_base.proofs.Puts.{put-at}

pub map_page-gone-requires-clause-frame : goal.map_page-gone-requires-clause-frame
map_page-gone-requires-clause-frame c =
    ap has_bytes (c.in-Some.ensures.keeps c.args.frame.0 (bytes_used ((state c.args.self.now).uses c.args.frame.0) c.requires.frame)) ∙ c.requires.frame

pub map_page-gone-requires-clause-present : goal.map_page-gone-requires-clause-present
map_page-gone-requires-clause-present c = user_present c.args.perm.0 c.requires.user

pub returns-in-Some-clause-ok : goal.returns-in-Some-clause-ok
unfolding inserted mapped
returns-in-Some-clause-ok c =
    ap (option_map (λ (t : SpacesState). mapped t c.args.space.directory.0 (c.args.va / 4096) (record { frame = c.args.frame.0; perm = c.args.perm.0 }))) c.in-Some.ensures.some
    ∙ ap (λ (s : SpacesState). Some s) ((λ i. released (sym c.map_page-gone.ensures.state i) (sym c.map_page-gone.ensures.gone i)) ∙ sym c.release.ensures.state)

pub returns-in-Some-clause-page : goal.returns-in-Some-clause-page
returns-in-Some-clause-page c =
    let entry : Entry = record { frame = c.args.frame.0; perm = c.args.perm.0 } in
    c.release.ensures.pages c.args.space.directory.0 (c.args.va / 4096) entry
    ((λ i. (c.map_page-gone.ensures.state i).entries c.args.space.directory.0 (c.args.va / 4096)) ∙ put-at (state c.table_for.new.self).entries c.args.space.directory.0 (c.args.va / 4096) (Some entry))
    ((λ i. (c.map_page-gone.ensures.state i).uses c.args.frame.0) ∙ upd-at (state c.table_for.new.self).uses c.args.frame.0 page)

pub returns-in-Some-clause-kept : goal.returns-in-Some-clause-kept
returns-in-Some-clause-kept c =
    let same = c.in-Some.ensures.keeps c.args.frame.0 (bytes_used ((state c.args.self.now).uses c.args.frame.0) c.requires.frame) in
    let tabled : KeepsDirectories (state c.args.self.now) (state c.table_for.new.self) =
    (λ f is. c.in-Some.ensures.keeps f (λ none. free_apart ((state c.args.self.now).uses f) none is) ∙ is) in
    let mapped : KeepsDirectories (state c.table_for.new.self) (state c.map_page-gone.new.self) =
    keeps_other (state c.table_for.new.self) (state c.map_page-gone.new.self) c.args.frame.0 page (ap (λ (s : SpacesState). s.uses) c.map_page-gone.ensures.state)
    (bytes_apart ((state c.table_for.new.self).uses c.args.frame.0) (ap has_bytes same ∙ c.requires.frame)) in
    keeps_both (state c.args.self.now) (state c.table_for.new.self) (state c.release.new.self) tabled
    (keeps_both (state c.table_for.new.self) (state c.map_page-gone.new.self) (state c.release.new.self) mapped c.release.ensures.kept)

pub returns-in-None-clause-empty : goal.returns-in-None-clause-empty
unfolding inserted
returns-in-None-clause-empty c = ap (option_map (λ (t : SpacesState). mapped t c.args.space.directory.0 (c.args.va / 4096) (record { frame = c.args.frame.0; perm = c.args.perm.0 }))) (c.in-None.ensures.none refl)

pub returns-in-Some-clause-directories : goal.returns-in-Some-clause-directories
returns-in-Some-clause-directories c =
    same_directories (state c.args.self.now) (state c.release.new.self) (returns-in-Some-clause-kept c)
    (inserted_no_more (state c.args.self.now) (state c.release.new.self) c.args.space.directory.0 (c.args.va / 4096)
    (record { frame = c.args.frame.0; perm = c.args.perm.0 }) (returns-in-Some-clause-ok c))

pub returns-in-Some-clause-bytes : goal.returns-in-Some-clause-bytes
returns-in-Some-clause-bytes c =
    pages_same c.args.self.now c.release.new.self c.args.frame.0 (c.release.ensures.bytes ∙ c.map_page-gone.ensures.bytes ∙ c.table_for.ensures.bytes)
    c.requires.frame (ap has_bytes (returns-in-Some-clause-page c))
