use Rattle.std.proofs.Common.{◌≡◌, ◌<◌, ◌≤◌, ◌+◌, ◌-◌, length}
use Rattle.jos_host.specs.Frames.{Unchanged, from_to}
use Rattle.jos_kernel.specs.Books.{made}
use Rattle.jos_kernel.specs.ExoRun.{current}
use Rattle.jos_kernel.specs.Kernel.{state_of, Holds, Went}
use Rattle.jos_kernel.proofs.kernel.Kernel.go_on.Given as goal

abbrev pub invariant-loop-self : goal.invariant-loop-self
invariant-loop-self g l = record {
  went : Went l.steps (from_to l.fn.self l.self) (from_to (g.H.Host.console l.fn.host) (g.H.Host.console l.host));
  some : 0 < l.steps;
  within : l.steps ≤ l.left;
  one : length l.self.book.turns.items ≤ length l.fn.self.book.turns.items + 1;
  under_way : 0 < made l.self.book → l.self.book.turns.items ≡ l.fn.self.book.turns.items;
  holds : Holds l.self;
  at : current (state_of l.self) ≡ l.slot;
  rest : Unchanged g.H.Host.files g.H.Host.input g.H.Host.asked g.H.Host.notes l.fn.host l.host;
  faults : g.H.Host.faults l.host ≡ g.H.Host.faults l.fn.host;
}

abbrev pub decreases-loop-self : goal.decreases-loop-self
decreases-loop-self g l = l.left - l.steps
