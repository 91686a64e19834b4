use Rattle.std.proofs.Common.{◌∙◌, ◌≡◌, ◌/◌, [], Some, None, IfSome, IsNone, subst}
use Rattle.jos_base.specs.declared.numbers.TheConstants.{PGSIZE}
use Rattle.jos_base.specs.SpacesState.{allocated}
use Rattle.jos_space.specs.Frames.{state}
use Rattle.jos_sys.proofs.Keeping.{keeps_spaces}
use Rattle.jos_sys.proofs.system.System.allocate.Goals as goal
use Rattle.jos_base.proofs.Uses.{directory_is}

pub allocate-requires-clause-space : goal.allocate-requires-clause-space
allocate-requires-clause-space c = directory_is _ (c.space-space.ensures.in_use c.requires.spaces)

pub returns-clause-some : goal.returns-clause-some
returns-clause-some c =
    subst (λ d. IfSome c.allocate.result (λ frame. allocated (state c.args.self.now.spaces) d (c.args.va / PGSIZE) c.args.perm.0 ≡ Some (frame.0, state c.allocate.new.self)))
    (c.space-space.ensures.directory []) c.allocate.ensures.some

pub returns-clause-none : goal.returns-clause-none
returns-clause-none c =
    subst (λ d. IsNone c.allocate.result → allocated (state c.args.self.now.spaces) d (c.args.va / PGSIZE) c.args.perm.0 ≡ None)
    (c.space-space.ensures.directory []) c.allocate.ensures.none

pub returns-clause-spaces : goal.returns-clause-spaces
returns-clause-spaces c = record {
  spaces = keeps_spaces _ _ _ c.allocate.ensures.directories c.requires.spaces.spaces;
  records = c.allocate.ensures.records ∙ c.requires.spaces.records;
}
