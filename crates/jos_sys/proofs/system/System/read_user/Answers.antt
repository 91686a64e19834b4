use Rattle.std.proofs.Common.{◌∙◌, sym, ap}
use Rattle.jos_base.specs.Reach.{bytes_read}
use Rattle.jos_base.specs.UserMemory.{all_touched, read_byte}
use Rattle.jos_space.specs.Frames.{state}
use Rattle.jos_sys.specs.System.{state_of}
use Rattle.jos_sys.proofs.Keeping.{keeps_spaces}
use Rattle.jos_sys.proofs.system.System.read_user.Goals as goal

pub returns-in-Ok-clause-ok : goal.returns-in-Ok-clause-ok
returns-in-Ok-clause-ok c = λ input.
    (λ i. bytes_read (read_byte (sym c.requires.spaces.records i) (state c.args.self.now.spaces) (sym (c.space-space.ensures.directory input) i)) c.args.va c.args.len)
    ∙ c.in-Ok.ensures.read

pub returns-in-Ok-clause-reached : goal.returns-in-Ok-clause-reached
returns-in-Ok-clause-reached c = λ input. λ i. record (state_of c.args.self.now input) {
  spaces = (c.touch_all.ensures.state
      ∙ ap (λ d. all_touched (state c.args.self.now.spaces) d c.args.va c.args.len) (c.space-space.ensures.directory input)) i;
}

pub returns-in-Ok-clause-spaces : goal.returns-in-Ok-clause-spaces
returns-in-Ok-clause-spaces c = record {
  spaces = keeps_spaces _ _ _ c.touch_all.ensures.directories c.requires.spaces.spaces;
  records = c.touch_all.ensures.records ∙ c.requires.spaces.records;
}

pub returns-in-Err-clause-err : goal.returns-in-Err-clause-err
returns-in-Err-clause-err c = λ input.
    (λ i. bytes_read (read_byte (sym c.requires.spaces.records i) (state c.args.self.now.spaces) (sym (c.space-space.ensures.directory input) i)) c.args.va c.args.len)
    ∙ c.in-Err.ensures.read
