use Rattle.std.proofs.Common.{◌≡◌, ◌+◌, length, vec_len, arith, rules}
use Rattle.fs_make.proofs.Appended.{zeros-added}
use Rattle.fs_make.proofs.nodes.push_zeros.Goals as goal

pub returns-clause-bytes : goal.returns-clause-bytes
returns-clause-bytes c =
    let whole : vec_len c.args.image.now ≡ length c.args.image.now.items = search rules in
    zeros-added c.resize.result c.args.image.now.items c.resize.new.self.items (c.len.result + c.args.count) (vec_len c.args.image.now) c.args.count c.resize.ensures.items whole (omega (arith, c.len.ensures))
