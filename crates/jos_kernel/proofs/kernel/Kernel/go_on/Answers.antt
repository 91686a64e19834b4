use Rattle.std.proofs.Common.{ℕ, ◌<◌, ◌≤◌, ◌+◌, List, length, ap, subst, sym, ◌∙◌, arith}
use Rattle.jos_base.specs.Environments.{is_running}
use Rattle.jos_base.specs.KernelState.{slot_at}
use Rattle.jos_kernel.specs.declared.report.Turn.{Turn}
use Rattle.jos_kernel.specs.Books.{made}
use Rattle.jos_kernel.specs.Kernel.{state_of, progress_of, nothing}
use Rattle.jos_kernel.proofs.Choices.{under_way}
use Rattle.jos_kernel.proofs.Runs.{went_further, fails_further}
use Rattle.jos_kernel.proofs.kernel.Kernel.go_on.Goals as goal
use Rattle.jos_host.proofs.Frames.{still}

pub advance-requires-in-loop-self-clause-goes_on : goal.advance-requires-in-loop-self-clause-goes_on
advance-requires-in-loop-self-clause-goes_on g c =
    let some : 0 < made c.loop-self.self.book = subst (λ (n : ℕ). 0 < n) c.made.ensures c.loop-self-test.true in
    under_way (progress_of c.loop-self.self nothing) c.args.slot some c.requires.within
    ((λ i. is_running (slot_at (state_of c.loop-self.self) (sym c.loop-self.invariant.at i)).status)
    ∙ c.loop-self.invariant.holds.running some)

pub loop-self-preserved : goal.loop-self-preserved
loop-self-preserved g c =
    let some : 0 < made c.loop-self.self.book = subst (λ (n : ℕ). 0 < n) c.made.ensures c.loop-self-test.true in
    record {
      went = went_further c.loop-self.invariant.went c.in-Ok-advance.ensures.told.2;
      some = omega (arith, c.loop-self.invariant.some);
      within = omega (arith, c.in-Ok-advance.ensures.told.1, c.loop-self.invariant.within);
      one = subst (λ (n : ℕ). length c.advance-in-loop-self.new.self.book.turns.items ≤ n + 1) (ap length (c.loop-self.invariant.under_way some)) c.in-Ok-advance.ensures.one;
      under_way = λ more. ◌∙◌ {A = List Turn} (c.in-Ok-advance.ensures.under_way more) (c.loop-self.invariant.under_way some);
      holds = c.in-Ok-advance.ensures.holds;
      at = c.in-Ok-advance.ensures.current;
      rest = still c.loop-self.invariant.rest c.in-Ok-advance.ensures.rest;
      faults = c.in-Ok-advance.ensures.cause.stayed ∙ c.loop-self.invariant.faults;
    }

pub returns-in-Err-advance-clause-told : goal.returns-in-Err-advance-clause-told
returns-in-Err-advance-clause-told g c = fails_further c.loop-self.invariant.went c.loop-self.invariant.within c.in-Err-advance.ensures.told
