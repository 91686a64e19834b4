use Rattle.std.proofs.Common.{Some, Bool, sym, ap, subst, ◌≡◌, ◌∙◌, arith}
use Rattle.std.specs.Prelude.{not, nat_eq, vec_len}
use Rattle.jos_base.specs.Environments.{is_running}
use Rattle.jos_base.specs.KernelState.{slot_at}
use Rattle.jos_kernel.specs.declared.kernel.Kernel.{Kernel}
use Rattle.jos_kernel.specs.Machine.{running_of}
use Rattle.jos_kernel.specs.Books.{traced}
use Rattle.jos_kernel.specs.ExoRun.{current}
use Rattle.jos_kernel.specs.Kernel.{state_of, Counted}
use Rattle.jos_kernel.proofs.Advancing.{Bursts, last_within, live_after, last_same, last_there, on_counted, on_failed}
use Rattle.jos_kernel.proofs.kernel.Kernel.advance.Given as given
use Rattle.jos_kernel.proofs.kernel.Kernel.advance.Goals as goal
use Rattle.jos_kernel.proofs.kernel.Kernel.advance.Goals.{After-make_burst-burst, After-keep_trap}

-- the burst in the turn
bursts : (g : given.Over) (c : goal.After-make_burst-burst g) →
    Bursts c.args.self.now c.args.slot c.min-limit.result c.make_burst-burst.result.steps c.make_burst-burst.result.event
    (running_of c.load.new.self) (running_of c.make_burst-burst.new.mem) c.registers-registers.result c.make_burst-burst.new.regs
bursts g c = record {
  goes_on = c.requires.goes_on;
  visible = c.requires.holds.visible;
  begun = sym (c.load.ensures.state ∙ c.enter_turn.ensures.state);
  registers = c.registers-registers.ensures ∙ (λ i. (slot_at (sym c.load.ensures.state i) c.args.slot).registers);
  at = c.requires.slot;
  within = c.requires.within;
  runs = (λ i. is_running (slot_at (c.load.ensures.state i) c.args.slot).status) ∙ c.enter_turn.ensures.running;
  loaded = c.load.ensures.loaded ∙ (λ i. Some (slot_at (sym c.load.ensures.state i) c.args.slot).directory);
  ip = c.make_burst-burst.result.ip;
  burst = c.make_burst-burst.ensures;
  room = omega (arith, c.min-limit.ensures, c.steps_left-left_of_turn.ensures.exact);
}

-- the kernel whose steps are counted
abbrev behind : (g : given.Over) (c : goal.After-keep_trap g) → Kernel
behind g c = record {
  machine = c.follow.new.self;
  decodings = c.make_burst-burst.new.decodings;
  book = c.keep_trap.new.self;
  written = c.enter_turn.new.self.written;
}

kept_book : (g : given.Over) (c : goal.After-keep_trap g) →
    c.keep_trap.new.self ≡ record c.args.self.now.book { trace = traced c.args.self.now.book.trace c.in-Ok.followed.trap }
kept_book g c =
    c.keep_trap.ensures
    ∙ (λ i. record (c.enter_turn.ensures.rest i).book { trace = traced (c.enter_turn.ensures.rest i).book.trace c.in-Ok.followed.trap })

-- the slot has the turn still
still_current : (g : given.Over) (c : goal.After-keep_trap g) → c.args.slot ≡ current (state_of (behind g c))
still_current g c = sym (ap current c.in-Ok.ensures.told.0 ∙ last_there (bursts g (goal.at.After-keep_trap g c).After-make_burst-burst))

pub follow-requires : goal.follow-requires
follow-requires g c = record { live = live_after (bursts g (goal.at.follow-requires g c).After-make_burst-burst) }

pub count_steps-requires-clause-current : goal.count_steps-requires-clause-current
count_steps-requires-clause-current g c = still_current g (goal.at.count_steps-requires-clause-current g c).After-keep_trap

pub count_steps-requires-clause-last : goal.count_steps-requires-clause-last
count_steps-requires-clause-last g c =
    last_within _ c.args.slot (still_current g (goal.at.count_steps-requires-clause-last g c).After-keep_trap) c.requires.within

-- no turn begins in the burst
turns_same : (g : given.Over) (c : goal.After-keep_trap g) → (state_of (behind g c)).turns ≡ (state_of c.enter_turn.new.self).turns
turns_same g c =
    (λ i. (c.in-Ok.ensures.told.0 i).turns) ∙ (last_same (bursts g (goal.at.After-keep_trap g c).After-make_burst-burst)).turns
    ∙ (λ i. (c.load.ensures.state i).turns)

pub count_steps-requires-clause-turns : goal.count_steps-requires-clause-turns
count_steps-requires-clause-turns g c =
    let state = turns_same g (goal.at.count_steps-requires-clause-turns g c).After-keep_trap in
    let turns : vec_len c.keep_trap.new.self.turns ≡ vec_len c.enter_turn.new.self.book.turns = λ i. vec_len (c.keep_trap.ensures i).turns in
    omega (arith, state, c.enter_turn.ensures.turns, turns)

pub returns-in-Ok-clause-told : goal.returns-in-Ok-clause-told
returns-in-Ok-clause-told g c =
    let kept = (goal.at.returns-in-Ok-clause-told g c).After-keep_trap in
    let h = bursts g (goal.at.After-keep_trap g kept).After-make_burst-burst in
    on_counted h (behind g kept) c.count_steps.new.self c.in-Ok.followed.written c.in-Ok.followed.trap
    (kept_book g kept) (λ i. (c.enter_turn.ensures.rest i).written)
    c.in-Ok.ensures.told.0 c.in-Ok.ensures.told.1 c.in-Ok.ensures.told.2
    (subst (λ (b : Bool). Counted (behind g kept) c.count_steps.new.self c.args.slot c.make_burst-burst.result.steps c.in-Ok.followed.written b)
    (λ i. not (nat_eq (c.refused.ensures i) (c.refused-refusals.ensures i)))
    c.count_steps.ensures.counted)
    c.args.left _ _ (omega (arith, c.min-limit.ensures)) c.in-Ok.ensures.told.3

pub returns-in-Err-clause-told : goal.returns-in-Err-clause-told
returns-in-Err-clause-told g c =
    on_failed (bursts g (goal.at.returns-in-Err-clause-told g c).After-make_burst-burst) c.args.left _ _ (omega (arith, c.min-limit.ensures)) c.in-Err.ensures.told
