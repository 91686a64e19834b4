use Rattle.std.proofs.Common.{◌≤◌, Some, None, sym, subst}
use Rattle.jos_base.specs.declared.numbers.TheConstants.{NENV}
use Rattle.jos_envs.specs.SlotSets.{IsFirstSlot}
use Rattle.jos_envs.specs.Table.{environments, may_run}
use Rattle.jos_sched.proofs.RoundRobin.{next_behind, next_round}
use Rattle.jos_sched.proofs.round_robin.next.Goals as goal

pub returns-in-Some : goal.returns-in-Some
returns-in-Some c =
    sym (next_behind (environments c.args.table.now) c.args.last c.in-Some.slot
    (subst (λ from. IsFirstSlot (may_run (environments c.args.table.now)) from (Some c.in-Some.slot)) c.start.ensures.start c.in-Some.ensures))

pub returns-in-None : goal.returns-in-None
returns-in-None c =
    sym (next_round (environments c.args.table.now) c.args.last c.first_runnable-in-None.result
    (subst (λ from. from ≤ NENV) c.start.ensures.start c.start.ensures.most)
    (subst (λ from. IsFirstSlot (may_run (environments c.args.table.now)) from None) c.start.ensures.start c.in-None.ensures)
    c.first_runnable-in-None.ensures)
