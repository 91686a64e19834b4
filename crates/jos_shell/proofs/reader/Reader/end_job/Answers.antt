use Rattle.std.proofs.Common.{◌≡◌, sym, ap, ◌∙◌, false}
use Rattle.jos_shell.specs.Reading.{Begun, begun_by, has_no_job, line_behind}
use Rattle.jos_shell.proofs.Reading.{line-empty, line-next, line-next-refused, on-ok, on-err}
use Rattle.jos_shell.proofs.reader.Reader.end_job.Goals as goal

pub returns-then-has_no_job-clause-ok : goal.returns-then-has_no_job-clause-ok
returns-then-has_no_job-clause-ok c = λ rest. line-empty (begun_by c.args.self.now) rest (sym c.has_no_job.ensures ∙ c.if-has_no_job.true)

-- something was read of the job
abbrev has_job : (c : goal.After-end_command) → has_no_job (begun_by c.args.self.now) ≡ false
has_job c = sym c.has_no_job.ensures ∙ c.if-has_no_job.false

pub returns-clause-ok : goal.returns-clause-ok
returns-clause-ok c =
    on-ok c.end_command.result c.end_command.ensures.can c.end_command.ensures.ok
    (λ can after rest. ap (λ (b : Begun). line_behind b rest) after ∙ sym (line-next (begun_by c.args.self.now) rest (has_job c) can))

pub returns-clause-err : goal.returns-clause-err
returns-clause-err c = on-err c.end_command.result c.end_command.ensures.err (λ cannot rest. line-next-refused (begun_by c.args.self.now) rest (has_job c) cannot)
