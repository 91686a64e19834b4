use Rattle.std.proofs.Common.{ℕ, List, length, ap, arith}
use Rattle.fs_make.proofs.Spans.{root-holds}
use Rattle.fs_make.proofs.nodes.root_bytes.Goals as goal

pub overflow_sub-root_size : goal.overflow_sub-root_size
overflow_sub-root_size c = omega (arith, root-holds (length c.args.files.now), c.root_size.ensures)

pub returns-clause-len : goal.returns-clause-len
returns-clause-len c =
    omega (arith, root-holds (length c.args.files.now), c.root_size.ensures, c.in_ok-push_zeros.ensures.len, c.in_ok-push_files_entries.ensures.len, ap (λ (l : List ℕ). length l) c.new-root.ensures.items)
