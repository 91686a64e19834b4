use Rattle.std.proofs.Common.{◌≡◌, ◌⊎◌, inl, inr, Some, Option, sym, ap, subst, ◌∙◌}
use Rattle.std.specs.Prelude.{unwrap_or}
use Rattle.jos_kernel.specs.declared.report.End.{End}
use Rattle.jos_kernel.specs.declared.report.End.TheVariants.{Budget, TurnsFull}
use Rattle.jos_kernel.proofs.Choices.{IsOther, no_end, turns_full, budget, spent_done, spent_stuck, spent_else}
use Rattle.jos_kernel.proofs.kernel.Kernel.end_of_budget.Goals as goal

pub returns-in-Ok : goal.returns-in-Ok
returns-in-Ok c = ap (λ last. unwrap_or last Budget) (spent_else _ (subst (λ (o : Option End). IsOther o) (sym c.in-Ok.ensures.slot) no_end))

pub returns-in-Done : goal.returns-in-Done
returns-in-Done c = ap (λ last. unwrap_or last Budget) (spent_done _ (c.in-Err.ensures.end ∙ ap (λ e. Some e) c.in-Done.is))

pub returns-in-Stuck : goal.returns-in-Stuck
returns-in-Stuck c = ap (λ last. unwrap_or last Budget) (spent_stuck _ (c.in-Err.ensures.end ∙ ap (λ e. Some e) c.in-Stuck.is))

other : (last : Option End) (end : End) → last ≡ Some end → (end ≡ Budget) ⊎ (end ≡ TurnsFull) → IsOther last
other last end e (inl k) = subst (λ (o : Option End). IsOther o) (sym (e ∙ ap (λ x. Some x) k)) budget
other last end e (inr k) = subst (λ (o : Option End). IsOther o) (sym (e ∙ ap (λ x. Some x) k)) turns_full

pub returns-in-Budget : goal.returns-in-Budget
returns-in-Budget c = ap (λ last. unwrap_or last Budget) (spent_else _ (other _ c.in-Err.end c.in-Err.ensures.end c.in-Budget.is))
