use Rattle.std.proofs.Common.{◌∙◌, ◌/◌, ap}
use Rattle.jos_base.specs.declared.numbers.TheConstants.{PGSIZE}
use Rattle.jos_base.specs.SystemCalls.{shared_entry}
use Rattle.jos_space.specs.Frames.{state}
use Rattle.jos_sys.proofs.system.System.page_to_share.Goals as goal

pub returns-clause-exact : goal.returns-clause-exact
returns-clause-exact c = λ input.
    c.shared_frame.ensures.exact
    ∙ ap (λ e. shared_entry e c.args.perm)
    (c.look.ensures.entry ∙ ap (λ d. (state c.args.self.now.spaces).entries d (c.args.va / PGSIZE)) (c.space.ensures.directory input))
