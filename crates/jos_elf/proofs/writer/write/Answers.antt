use Rattle.std.proofs.Common.{◌≡◌, arith, get_or, ◌∙◌}
use Rattle.jos_elf.specs.Written.{written}
use Rattle.jos_elf.proofs.Written.{reads-back, written-slice, length-written, written-is}
use Rattle.jos_elf.proofs.writer.write.Goals as goal

is_written : (c : goal.In_ok-extend_from_slice-3) → c.extend_from_slice-2.new.self.items ≡ written c.args.entry c.args.parts.now c.args.bytes.now
is_written c = c.in_ok-extend_from_slice-3.ensures.items ∙ written-is c.args.entry c.args.parts.now c.args.bytes.now c.loop-part.part-index c.loop-part.file.items (omega arith) c.loop-part.invariant

pub returns-clause-exact : goal.returns-clause-exact
returns-clause-exact c = is_written c

pub returns-clause-small : goal.returns-clause-small
returns-clause-small c = rw (is_written c, length-written c.args.entry c.args.parts.now c.args.bytes.now) c.requires.small

pub returns-clause-read : goal.returns-clause-read
returns-clause-read c = rw (is_written c) (reads-back c.args.entry c.args.parts.now c.args.bytes.now c.ranges.entry.fits c.requires.lawful c.requires.small)

pub returns-clause-bytes : goal.returns-clause-bytes
returns-clause-bytes c = rw (is_written c) (λ k d within. written-slice c.args.entry c.args.parts.now c.args.bytes.now (get_or c.args.parts.now k d).at (get_or c.args.parts.now k d).len)
