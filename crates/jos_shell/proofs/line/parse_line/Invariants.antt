use Rattle.std.proofs.Common.{◌≡◌, ◌+◌, ◌≤◌, length}
use Rattle.jos_shell.specs.declared.numbers.TheConstants.{LINE_MAX, COMMANDS_MAX}
use Rattle.jos_shell.specs.Tokens.{tokens_from}
use Rattle.jos_shell.specs.Grammar.{commands_in}
use Rattle.jos_shell.specs.Reading.{begun_by, line_behind}
use Rattle.jos_shell.proofs.line.parse_line.Given as goal

-- what was read, in front of what is still to be read, is the line
abbrev pub invariant-loop-token : goal.invariant-loop-token
invariant-loop-token l = record {
  told : line_behind (begun_by l.reader) (tokens_from l.tokens.at l.tokens.rest.now) ≡ commands_in l.fn.line;
  few : length l.reader.commands.items ≤ COMMANDS_MAX;
  small : l.tokens.at + length l.tokens.rest.now ≤ LINE_MAX;
}

abbrev pub decreases-loop-token : goal.decreases-loop-token
decreases-loop-token l = length l.tokens.rest.now
