use Rattle.std.proofs.Common.{Ok, sym, ap, subst, ◌∙◌}
use Rattle.jos_sched.specs.Schedule.{parsed}
use Rattle.jos_cli.specs.declared.outcome.Outcome.{Outcome}
use Rattle.jos_cli.specs.Answer.{schedule_of}
use Rattle.jos_cli.specs.Stages.{RefusesBy}
use Rattle.jos_cli.specs.Kinds.{kind_of}
use Rattle.jos_cli.proofs.Reading.{schedule_parsed, schedule_refused, schedule_fault}
use Rattle.jos_cli.proofs.loading.read_schedule.Goals as goal

pub returns-in-Err-clause-told : goal.returns-in-Err-clause-told
returns-in-Err-clause-told g c =
    let told = c.in-Err.ensures.told in (told.0, told.1, schedule_refused told.0 (kind_of c.in-Err.outcome) told.2)

pub returns-in-Ok-parse_schedule-clause-told : goal.returns-in-Ok-parse_schedule-clause-told
returns-in-Ok-parse_schedule-clause-told g c =
    let told = c.in-Ok.ensures.told in (
      told.0,
      told.1,
      schedule_parsed told.0 c.in-Ok.text.items (Ok c.in-Ok-parse_schedule.schedule) told.2
          (ap parsed (sym c.deref.ensures.value) ∙ c.in-Ok-parse_schedule.ensures.schedule),
    )

pub returns-clause-told : goal.returns-clause-told
returns-clause-told g c =
    let told = c.in-Ok.ensures.told in (
      told.0,
      told.1,
      subst (λ (o : Outcome). RefusesBy (schedule_of told.0) (kind_of o)) (sym c.schedule_refusal.ensures.refusal)
          (schedule_fault told.0 c.in-Ok.text.items c.in-Err-parse_schedule.fault told.2 (λ e. ap parsed (sym c.deref.ensures.value) ∙ c.in-Err-parse_schedule.ensures.fault e)),
    )
