use Rattle.std.proofs.Common.{ℕ, ◌<◌, sym, subst, ◌∙◌}
use Rattle.jos_base.specs.KernelState.{slot_at}
use Rattle.jos_sched.proofs.RoundRobin.{next_runs}
use Rattle.jos_kernel.specs.Books.{made}
use Rattle.jos_kernel.specs.ExoRun.{current}
use Rattle.jos_kernel.specs.Kernel.{state_of, progress_of, nothing}
use Rattle.jos_kernel.proofs.Choices.{current_within, runnable_live, under_way}
use Rattle.jos_kernel.proofs.kernel.Kernel.chosen.Goals as goal

pub returns-then-made-gt0-clause-slot : goal.returns-then-made-gt0-clause-slot
returns-then-made-gt0-clause-slot c =
    let some : 0 < made c.args.self.now.book = subst (λ (n : ℕ). 0 < n) c.made.ensures c.if-made-gt0.true in
    under_way (progress_of c.args.self.now nothing) (current (state_of c.args.self.now)) some
    (current_within _ c.requires.last) (c.requires.running some)

pub returns-else-is_full-clause-live : goal.returns-else-is_full-clause-live
returns-else-is_full-clause-live c =
    runnable_live (slot_at (state_of c.args.self.now) c.in-Some.slot) (next_runs _ _ _ (sym c.next_slot.ensures ∙ c.in-Some.is)).1

pub returns-else-is_full-clause-within : goal.returns-else-is_full-clause-within
returns-else-is_full-clause-within c = (next_runs _ _ _ (sym c.next_slot.ensures ∙ c.in-Some.is)).0
