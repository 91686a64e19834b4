-- Which end test holds, and whose turn it is.
use Rattle.std.proofs.Common.{◌≡◌, ℕ, ◌<◌, ◌==◌, ◌&&◌, Bool, Option, None, Some, true, false, refl, arith, if◌then◌else◌}
use Rattle.std.specs.Prelude.{not, is_none, unwrap_or, nat_le, length}
use Rattle.std.specs.Option.{ForSome}
use Rattle.std.proofs.lemmas.Bool.Decides.{nat_tests}
use Rattle.jos_base.specs.declared.numbers.TheConstants.{NENV, TURN_MAX}
use Rattle.jos_base.specs.declared.environment.Status.{Status}
use Rattle.jos_base.specs.declared.environment.Status.TheVariants as status
use Rattle.jos_base.specs.Environments.{Slot, is_live, is_free, is_running, is_runnable}
use Rattle.jos_base.specs.KernelState.{slot_at}
use Rattle.jos_envs.specs.Table.{any_live}
use Rattle.jos_kernel.specs.declared.report.End.{End}
use Rattle.jos_kernel.specs.declared.report.End.TheVariants.{Done, Stuck, Budget, TurnsFull}
use Rattle.jos_kernel.specs.ExoRun.{RunProgress, next_slot, end_of}
use Rattle.jos_kernel.proofs.Turns.{some_live, running_live}

-- the slot whose turn it is, or was, is one of the table
pub current_within : (last : Option ℕ) → ForSome last (λ n. n < NENV) → unwrap_or last 0 < NENV
current_within None h = omega arith
current_within (Some n) h = h n refl

pub runnable_live : (slot : Slot) → is_runnable slot.status ≡ true → is_live slot ≡ true
runnable_live slot runs = by_status slot.status runs
  where
    by_status : (s : Status) → is_runnable s ≡ true → not (is_free s) ≡ true
    by_status status.Runnable e = refl
    by_status status.Free e = cc
    by_status status.Dying e = cc
    by_status status.Running e = cc
    by_status status.NotRunnable e = cc

-- no end test holds while a turn is under way
pub under_way : (p : RunProgress) (n : ℕ) → 0 < p.made → n < NENV → is_running (slot_at p.state n).status ≡ true → end_of p false ≡ None
unfolding end_of
under_way p n made within runs =
    let nz : (p.made == 0) ≡ false = grind (arith, nat_tests) in
    let live : any_live p.state.environments ≡ true = some_live p.state.environments n within (running_live (slot_at p.state n) runs) in
    rw (live, nz) refl

-- ---- where the budget is used up

abbrev end_by : (live first stuck full spent : Bool) → Option End
end_by live first stuck full spent =
    if not live then Some Done
    else if first && stuck then Some Stuck
    else if spent then Some Budget
    else if first && full then Some TurnsFull
    else None

done_by : (live first stuck full : Bool) → end_by live first stuck full false ≡ Some Done → end_by live first stuck full true ≡ Some Done
done_by false first stuck full e = refl
done_by true true true full e = e
done_by true true false true e = cc
done_by true true false false e = cc
done_by true false stuck full e = cc

stuck_by : (live first stuck full : Bool) → end_by live first stuck full false ≡ Some Stuck → end_by live first stuck full true ≡ Some Stuck
stuck_by false first stuck full e = cc
stuck_by true true true full e = refl
stuck_by true true false true e = cc
stuck_by true true false false e = cc
stuck_by true false stuck full e = cc

pub spent_done : (p : RunProgress) → end_of p false ≡ Some Done → end_of p true ≡ Some Done
unfolding end_of
spent_done p e = done_by (any_live p.state.environments) (p.made == 0) (is_none (next_slot p.state)) (nat_le TURN_MAX (length p.turns)) e

pub spent_stuck : (p : RunProgress) → end_of p false ≡ Some Stuck → end_of p true ≡ Some Stuck
unfolding end_of
spent_stuck p e = stuck_by (any_live p.state.environments) (p.made == 0) (is_none (next_slot p.state)) (nat_le TURN_MAX (length p.turns)) e

-- any other answer is the budget's
pub data IsOther : Option End → Type 0 where
  no_end : IsOther None
  turns_full : IsOther (Some TurnsFull)
  budget : IsOther (Some Budget)

else_by : (live first stuck full : Bool) → IsOther (end_by live first stuck full false) → end_by live first stuck full true ≡ Some Budget
else_by true true false full h = refl
else_by false first stuck full h = elim h [ ]
else_by true true true full h = elim h [ ]
else_by true false stuck full h = refl

pub spent_else : (p : RunProgress) → IsOther (end_of p false) → end_of p true ≡ Some Budget
unfolding end_of
spent_else p h = else_by (any_live p.state.environments) (p.made == 0) (is_none (next_slot p.state)) (nat_le TURN_MAX (length p.turns)) h
