use Rattle.std.proofs.Common.{◌≡◌, sym, [], ◌∙◌}
use Rattle.jos_sched.specs.RoundRobin.{next}
use Rattle.jos_kernel.specs.Machine.{kernel_state}
use Rattle.jos_kernel.proofs.machine.Machine.next_slot.Goals as goal

pub next-requires : goal.next-requires
next-requires g c n e =
    let last_is : (kernel_state c.args.self.now).last ≡ c.last.result = rw (← c.self.view_is) (sym (c.last.ensures [])) in
    c.requires n (last_is ∙ e)

pub returns : goal.returns
returns g c = rw (← c.self.view_is) (c.next.ensures ∙ (λ i. next (c.table.ensures [] i) (c.last.ensures [] i)))
