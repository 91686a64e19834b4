use Rattle.std.proofs.Common.{◌≡◌, ◌∙◌, Some, None, OnOk, OnErr, [], subst}
use Rattle.jos_base.specs.SpacesState.{inserted}
use Rattle.jos_space.specs.Frames.{state}
use Rattle.jos_sys.proofs.Keeping.{keeps_spaces}
use Rattle.jos_sys.proofs.PageCalls.{page_of_number}
use Rattle.jos_sys.proofs.system.System.insert.Goals as goal

pub returns-clause-ok : goal.returns-clause-ok
returns-clause-ok c =
    subst (λ d. OnOk c.insert.result (inserted (state c.args.self.now.spaces) d c.args.number (record { frame = c.args.frame.0; perm = c.args.perm }) ≡ Some (state c.insert.new.self)))
    (c.space-space.ensures.directory [])
    (subst (λ p. OnOk c.insert.result (inserted (state c.args.self.now.spaces) c.space-space.result.directory.0 p (record { frame = c.args.frame.0; perm = c.args.perm }) ≡ Some (state c.insert.new.self)))
    (page_of_number c.args.number) c.insert.ensures.ok)

pub returns-clause-empty : goal.returns-clause-empty
returns-clause-empty c =
    subst (λ d. OnErr c.insert.result (inserted (state c.args.self.now.spaces) d c.args.number (record { frame = c.args.frame.0; perm = c.args.perm }) ≡ None))
    (c.space-space.ensures.directory [])
    (subst (λ p. OnErr c.insert.result (inserted (state c.args.self.now.spaces) c.space-space.result.directory.0 p (record { frame = c.args.frame.0; perm = c.args.perm }) ≡ None))
    (page_of_number c.args.number) c.insert.ensures.empty)

pub returns-clause-spaces : goal.returns-clause-spaces
returns-clause-spaces c = record {
  spaces = keeps_spaces _ _ _ c.insert.ensures.directories c.requires.spaces.spaces;
  records = c.insert.ensures.records ∙ c.requires.spaces.records;
}
