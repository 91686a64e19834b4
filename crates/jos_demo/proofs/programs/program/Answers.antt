use Rattle.std.proofs.Common.{◌≡◌, Some, sym, ◌∙◌}
use Rattle.jos_demo.specs.Programs.{program_named}
use Rattle.jos_demo.proofs.Named.{named_code, code_is_ok, code_some, no_program}
use Rattle.jos_demo.proofs.programs.program.Goals as goal

pub assemble-requires : goal.assemble-requires
assemble-requires c = code_is_ok c.in-Some.program (named_code c.args.name.now c.in-Some.program (sym c.in_ok-program_named.ensures.exact ∙ c.in-Some.is))

pub image-requires-clause-some : goal.image-requires-clause-some
image-requires-clause-some c = rw c.deref.ensures.value
    (code_some c.in-Some.program c.in_ok-code-in-Some.code.items (named_code c.args.name.now c.in-Some.program (sym c.in_ok-program_named.ensures.exact ∙ c.in-Some.is)) c.in_ok-code-in-Some.ensures.exact)

pub returns-in_err-program_named-clause-unknown : goal.returns-in_err-program_named-clause-unknown
returns-in_err-program_named-clause-unknown c none = let never = c.in_err-program_named.ensures.unknown (no_program c.args.name.now none) in absurd cc

pub returns-in_err-code-in-Some-clause-unknown : goal.returns-in_err-code-in-Some-clause-unknown
returns-in_err-code-in-Some-clause-unknown c none =
    let is : program_named c.args.name.now ≡ Some c.in-Some.program = sym c.in_ok-program_named.ensures.exact ∙ c.in-Some.is in
    let never = no_program c.args.name.now none in
    absurd cc
