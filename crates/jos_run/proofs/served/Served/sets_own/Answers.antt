use Rattle.std.proofs.Common.{◌≡◌, ◌∙◌, true, get_or, ap, sym, subst}
use Rattle.jos_base.specs.Environments.{Environments, found, is_live}
use Rattle.jos_base.specs.KernelState.{slot_at}
use Rattle.jos_base.specs.Words.{is_exactly}
use Rattle.jos_run.specs.Served.{Parts, kernel_state}
use Rattle.jos_run.proofs.Looked.{table_looked}
use Rattle.jos_run.proofs.served.Served.sets_own.Goals as goal

pub find-requires : goal.find-requires
find-requires c =
    ap (λ (e : Environments). is_live (e.slots c.self.inside.slot)) (table_looked c.self.inside.machine c.system.ensures.system c.table.ensures)
    ∙ subst (λ (m : Parts). is_live (slot_at (kernel_state m) m.slot) ≡ true) (sym c.self.view_is) c.requires

pub returns-in-Some : goal.returns-in-Some
returns-in-Some c =
    let n = c.self.inside.slot in
    rw (← c.self.view_is, c.if-number-ne-SYS_ENV_SET_TRAPFRAME.false)
    (ap (is_exactly n) (c.in-Some.ensures ∙ ap (λ (e : Environments). found e (get_or c.args.args 0 0) n true) (table_looked c.self.inside.machine c.system.ensures.system c.table.ensures)))

pub returns-in-None : goal.returns-in-None
returns-in-None c =
    let n = c.self.inside.slot in
    rw (← c.self.view_is, c.if-number-ne-SYS_ENV_SET_TRAPFRAME.false)
    (ap (is_exactly n) (c.in-None.ensures ∙ ap (λ (e : Environments). found e (get_or c.args.args 0 0) n true) (table_looked c.self.inside.machine c.system.ensures.system c.table.ensures)))
