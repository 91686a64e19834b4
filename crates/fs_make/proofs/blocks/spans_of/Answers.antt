use Rattle.std.proofs.Common.{◌≡◌, ◌≤◌, ◌+◌, length, arith, get_or, ap, drop}
use Rattle.jos_host.specs.MemHost.{Named}
use Rattle.fs_make.specs.MakeFaults.{span_of, spans_of}
use Rattle.fs_layout.specs.declared.numbers.TheConstants.{MAXFILESIZE}
use Rattle.fs_make.proofs.Spans.{spans-next, spans-end, span-small}
use Rattle.fs_make.proofs.blocks.spans_of.Goals as goal

small : (c : goal.After-span_of-blocks) → c.span_of-blocks.result ≤ 1035
small c =
    let here : length (get_or c.args.files.now c.loop-file.file-index c.file-item.result).bytes ≤ MAXFILESIZE =
    c.requires.sizes c.loop-file.file-index c.file-item.result c.loop-file-test.true in
    let same : length c.file-item.result.bytes ≡ length (get_or c.args.files.now c.loop-file.file-index c.file-item.result).bytes = ap (λ (f : Named). length f.bytes) c.file-item.is in
    let size : c.file_size.result ≤ MAXFILESIZE = omega arith in
    rw c.span_of-blocks.ensures (span-small c.file_size.result size)

pub overflow_add-blocks : goal.overflow_add-blocks
overflow_add-blocks c = omega (arith, small c)

pub loop-file-preserved : goal.loop-file-preserved
loop-file-preserved c =
    let next : spans_of (drop c.loop-file.file-index c.args.files.now) ≡ span_of (length c.file-item.result.bytes) + spans_of (drop (c.loop-file.file-index + 1) c.args.files.now) =
    spans-next c.args.files.now c.loop-file.file-index c.file-item.result c.loop-file-test.true c.file-item.is in
    let span : c.span_of-blocks.result ≡ span_of (length c.file-item.result.bytes) = rw (← c.file_size.ensures) c.span_of-blocks.ensures in
    record {
      all = omega (arith, c.loop-file.invariant.all, next, span);
      small = omega (arith, small c, c.loop-file.invariant.small);
    }

pub returns-clause-blocks : goal.returns-clause-blocks
returns-clause-blocks c = omega (arith, c.loop-file.invariant.all, spans-end c.args.files.now c.loop-file.file-index c.loop-file-test.false)
