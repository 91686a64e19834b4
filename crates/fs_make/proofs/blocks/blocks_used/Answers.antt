use Rattle.std.proofs.Common.{◌≤◌, ◌^◌, length, arith, rules}
use Rattle.fs_make.specs.MakeFaults.{blocks_used}
use Rattle.fs_make.proofs.Spans.{root-small, span-wide}
use Rattle.fs_make.proofs.blocks.blocks_used.Goals as goal

pub span_of-requires : goal.span_of-requires
span_of-requires c = omega (arith, root-small (length c.args.files.now) c.requires.few, c.root_size.ensures)

pub overflow_add-result-2 : goal.overflow_add-result-2
overflow_add-result-2 c =
    let root : c.root_size.result ≤ 2 ^ 42 = omega (arith, root-small (length c.args.files.now) c.requires.few, c.root_size.ensures) in
    omega (arith, span-wide c.root_size.result root, c.spans_of.ensures.small)

pub returns : goal.returns
unfolding blocks_used
returns c = search rules
