-- Steps of a run one behind the other, the traps that are kept of them, and the end that the kernel's state tells.
use Rattle.std.proofs.Common.{◌≡◌, ◌∙◌, ℕ, zero, suc, ◌+◌, ◌-◌, Bool, true, false, List, [], ◌∷◌, ◌++◌, drop}
use Rattle.std.proofs.Common.{Option, Some, None, refl, sym, ap, subst, append_assoc, if◌then◌else◌}
use Rattle.std.specs.Prelude.{nat_le, not, is_none}
use Rattle.std.proofs.lemmas.List.{append-nil}
use Rattle.circular_buffer.specs.Buffer.{buffer, keep_last}
use Rattle.jos_base.specs.declared.environment.Status.TheVariants.{Runnable}
use Rattle.jos_base.specs.declared.numbers.TheConstants.{TURN_MAX}
use Rattle.jos_base.specs.Environments.{Slot, is_running}
use Rattle.jos_base.specs.KernelState.{KernelState, slot_at, with_status, turn_ended}
use Rattle.jos_sched.specs.RoundRobin.{next}
use Rattle.jos_kernel.specs.declared.report.End.{End}
use Rattle.jos_kernel.specs.declared.report.End.TheVariants.{Done, Stuck, Budget, TurnsFull}
use Rattle.jos_kernel.specs.declared.report.Turn.{Turn}
use Rattle.jos_kernel.specs.declared.trace.TrapLine.{TrapLine}
use Rattle.jos_kernel.specs.Books.{turn_of, traced}
use Rattle.lib_os.specs.declared.progress.Progress.{Progress}
use Rattle.jos_kernel.proofs.TrapsKept.{kept_more}
use Rattle.lib_os.proofs.Slots.{slot_put}
use Rattle.jos_run.specs.LibraryRuns.{visible_steps, hidden_steps, others_live, end_seen}
use Rattle.jos_run.specs.Worlds.{World}
use Rattle.jos_run.specs.RunSteps.{StepMade, passed, LeadTo, one_if, traps_of, written_in, with_step, with_last_step, counted_in, turns_with, is_in_turn, end_at}

-- ---- one behind the other

pub no_step : (w : World) → LeadTo [] w w
unfolding LeadTo
no_step w = refl

pub lead_further : (steps more : List StepMade) (u v w : World) → LeadTo steps u v → LeadTo more v w → LeadTo (steps ++ more) u w
unfolding LeadTo
lead_further [] more u v w same h = subst (λ (x : World). LeadTo more x w) (sym same) h
lead_further (step ∷ rest) more u v w h k = (h.0, lead_further rest more (passed step) v w h.1 k)

-- ---- traps

pub no_trap : traps_of [] ≡ []
unfolding traps_of
no_trap = refl

traps_one : (step : StepMade) → traps_of (step ∷ []) ≡ one_if step.trap
unfolding traps_of
traps_one step = append-nil (one_if step.trap)

pub traps_further : (steps more : List StepMade) → traps_of (steps ++ more) ≡ traps_of steps ++ traps_of more
unfolding traps_of
traps_further [] more = refl
traps_further (step ∷ rest) more =
    ap (λ (l : List TrapLine). one_if step.trap ++ l) (traps_further rest more)
    ∙ sym (append_assoc (one_if step.trap) (traps_of rest) (traps_of more))

traced_more : (most : ℕ) (traps : List TrapLine) (raised : Option TrapLine) →
    traced (buffer (keep_last most traps) most) raised ≡ buffer (keep_last most (traps ++ one_if raised)) most
traced_more most traps None = ap (λ (l : List TrapLine). buffer (keep_last most l) most) (sym (append-nil traps))
traced_more most traps (Some trap) = ap (λ (kept : List TrapLine). buffer kept most) (kept_more most traps trap)

-- with the trap of one more step
pub kept_one : (most : ℕ) (traps : List TrapLine) (step : StepMade) →
    traced (buffer (keep_last most traps) most) step.trap ≡ buffer (keep_last most (traps ++ traps_of (step ∷ []))) most
kept_one most traps step =
    traced_more most traps step.trap
    ∙ ap (λ (l : List TrapLine). buffer (keep_last most (traps ++ l)) most) (sym (traps_one step))

pub none_kept : (most : ℕ) → keep_last {X = TrapLine} most [] ≡ []
none_kept most = by_count (0 - most)
  where
    by_count : (n : ℕ) → drop {A = TrapLine} n [] ≡ []
    by_count zero = refl
    by_count (suc n) = refl

-- ---- what was written

pub none_written : written_in [] ≡ []
unfolding written_in
none_written = refl

pub written_one : (step : StepMade) → written_in (step ∷ []) ≡ step.written
unfolding written_in
written_one step = append-nil step.written

pub written_further : (steps more : List StepMade) → written_in (steps ++ more) ≡ written_in steps ++ written_in more
unfolding written_in
written_further [] more = refl
written_further (step ∷ rest) more =
    ap (λ (l : List ℕ). step.written ++ l) (written_further rest more)
    ∙ sym (append_assoc step.written (written_in rest) (written_in more))

-- ---- turns

pub no_turn_more : (turns : List Turn) → turns ≡ turns_with turns []
unfolding turns_with
no_turn_more turns = refl

pub turns_further : (turns : List Turn) (steps more : List StepMade) →
    turns_with turns (steps ++ more) ≡ turns_with (turns_with turns steps) more
unfolding turns_with
turns_further turns [] more = refl
turns_further turns (step ∷ rest) more = turns_further (counted_in turns step) rest more

with_last : (turns : List Turn) (turn : Turn) (progress : Progress) →
    with_last_step (turns ++ turn ∷ []) progress ≡ turns ++ with_step turn progress ∷ []
unfolding with_last_step
with_last [] turn progress = refl
with_last (first ∷ []) turn progress = refl
with_last (first ∷ next ∷ rest) turn progress = ap (λ (l : List Turn). first ∷ l) (with_last (next ∷ rest) turn progress)

-- a step of a turn that begins, or of the last one
pub turn_longer : (begins : Bool) (turns : List Turn) (step : StepMade) (slot visible hidden : ℕ) → step.begins ≡ begins →
    (begins ≡ true → (slot ≡ step.slot) × (visible ≡ 0) × (hidden ≡ 0)) →
    turns_with (if begins then turns else turns ++ turn_of slot visible hidden ∷ []) (step ∷ [])
    ≡ turns ++ turn_of slot (visible + visible_steps step.progress) (hidden + hidden_steps step.progress) ∷ []
unfolding turns_with
turn_longer true turns step slot visible hidden is begun =
    let new = begun refl in
    ap (λ (c : Bool). with_last_step (if c then turns ++ turn_of step.slot 0 0 ∷ [] else turns) step.progress) is
    ∙ with_last turns (turn_of step.slot 0 0) step.progress
    ∙ (λ i. turns ++ turn_of (sym new.0 i) (sym new.1 i + visible_steps step.progress) (sym new.2 i + hidden_steps step.progress) ∷ [])
turn_longer false turns step slot visible hidden is begun =
    let all = turns ++ turn_of slot visible hidden ∷ [] in
    ap (λ (c : Bool). with_last_step (if c then all ++ turn_of step.slot 0 0 ∷ [] else all) step.progress) is
    ∙ with_last turns (turn_of slot visible hidden) step.progress

-- ---- the end

-- Behind a turn its slot is in it no more.
pub ended_idle : (s : KernelState) (n : ℕ) → s.last ≡ Some n → is_in_turn (turn_ended s n) (turn_ended s n).last ≡ false
ended_idle s n last = by_test (is_running (slot_at s n).status) refl
  where
    by_test : (c : Bool) → is_running (slot_at s n).status ≡ c →
        is_in_turn (if c then with_status s n Runnable else s) (if c then with_status s n Runnable else s).last ≡ false
    by_test true is =
        ap (λ (o : Option ℕ). is_in_turn (with_status s n Runnable) o) last
        ∙ ap (λ (k : Slot). is_running k.status) (slot_put s n (record (slot_at s n) { status = Runnable }))
    by_test false is = ap (λ (o : Option ℕ). is_in_turn s o) last ∙ is

-- between two turns
pub end_between : (s : KernelState) (turns : ℕ) (spent : Bool) → is_in_turn s s.last ≡ false → end_at s turns spent ≡ end_seen s turns spent
end_between s turns spent idle_now =
    ap (λ (c : Bool). if c then (if spent then Some Budget else None) else end_seen s turns spent) idle_now

-- in a turn, where the steps are used up
pub end_in_turn : (s : KernelState) (turns n : ℕ) → s.last ≡ Some n → is_running (slot_at s n).status ≡ true →
    end_at s turns true ≡ Some Budget
end_in_turn s turns n last runs =
    ap (λ (c : Bool). if c then Some Budget else end_seen s turns true) (ap (λ (o : Option ℕ). is_in_turn s o) last ∙ runs)

tells_budget : Option End → Bool
tells_budget (Some Budget) = true
tells_budget _ = false

-- It is the budget only where the steps are used up.
pub budget_spent : (s : KernelState) (turns : ℕ) (spent : Bool) → end_at s turns spent ≡ Some Budget → spent ≡ true
unfolding tells_budget
budget_spent s turns true is = refl
budget_spent s turns false is =
    let never = by_tests (is_in_turn s s.last) (others_live s) (is_none (next s.environments s.last)) (nat_le TURN_MAX turns) in
    absurd (let contradiction : false ≡ true = sym never ∙ ap tells_budget is in cc)
  where
    by_tests : (c d e f : Bool) →
        tells_budget (if c then None else (if not d then Some Done else if e then Some Stuck else if f then Some TurnsFull else None)) ≡ false
    by_tests true d e f = refl
    by_tests false false e f = refl
    by_tests false true true f = refl
    by_tests false true false true = refl
    by_tests false true false false = refl
