use Rattle.std.proofs.Common.{sym, subst}
use Rattle.jos_demo.proofs.Named.{HasCode, code_is_ok, code_some}
use Rattle.jos_demo.proofs.WorkCode.{work_code}
use Rattle.jos_demo.proofs.workloads.work.Goals as goal

pub assemble-requires : goal.assemble-requires
assemble-requires c = code_is_ok c.in_ok-program.program (subst HasCode (sym c.in_ok-program.ensures) (work_code c.args.workload))

pub image-requires-clause-some : goal.image-requires-clause-some
image-requires-clause-some c = rw c.deref.ensures.value
    (code_some c.in_ok-program.program c.in_ok-code.code.items
    (subst HasCode (sym c.in_ok-program.ensures) (work_code c.args.workload)) c.in_ok-code.ensures.exact)
