use Rattle.std.proofs.Common.{◌≡◌, ◌∙◌, ℕ, length, ap, subst, sym, arith}
use Rattle.fs_image.specs.DiskHeld.{HeldDisk, IsLongEnough}
use Rattle.fs_image.proofs.Reading.{whole_enough, whole_held}
use Rattle.fs_image.proofs.disk_bytes.whole_file.Goals as goal

pub invariant_of-result : goal.invariant_of-result
invariant_of-result c =
    let len : c.len-total.result ≡ length c.args.bytes.items = omega (arith, c.args.bytes.ok.0) in
    subst (λ (n : ℕ). IsLongEnough n c.args.bytes.items) (sym len) (whole_enough c.args.bytes.items)

pub returns : goal.returns
returns c =
    let len : c.len-total.result ≡ length c.args.bytes.items = omega (arith, c.args.bytes.ok.0) in
    ap (λ (n : ℕ). let held : HeldDisk = record { total = n; bytes = c.args.bytes.items } in held) len
    ∙ whole_held c.args.bytes.items c.requires
