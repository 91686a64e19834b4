use Rattle.std.proofs.Common.{◌∙◌, not, refl, sym, ap}
use Rattle.std.proofs.lemmas.Bool.{false≢true}
use Rattle.jos_base.specs.Environments.{is_free, is_live}
use Rattle.jos_sys.proofs.Keeping.{keeps_slot, keeps_seen}
use Rattle.jos_sys.proofs.Showing.{others_shown}
use Rattle.jos_sys.proofs.system.System.end_turn.Goals as goal
use Rattle.jos_sys.proofs.system.System.end_turn.Goals.{in-Running, in_default}

pub returns-then-matches-clause-spaces : goal.returns-then-matches-clause-spaces
returns-then-matches-clause-spaces c = λ keeps. record {
  spaces = keeps_seen _ _ _ c.show.ensures.state (keeps_slot _ _ _ c.args.slot _ c.set_status.ensures.set
      (elim c.match-matches.branch [
        | in-Running w ↦ sym (ap is_live (sym c.get.ensures) ∙ ap (λ z. not (is_free z)) w.in-Running.is)
        | in_default w ↦ absurd (false≢true (sym w.matches-is ∙ c.if-matches.true))
      ])
      refl keeps.spaces);
  records = c.show.ensures.records (others_shown _ _ c.args.slot _ c.set_status.ensures.set _ keeps.records);
}
