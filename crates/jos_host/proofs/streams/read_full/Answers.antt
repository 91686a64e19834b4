use Rattle.std.proofs.Common.{◌-◌, ◌≤◌, length, arith, rules, sym}
use Rattle.std.proofs.Common.{subst}
use Rattle.std.proofs.KnownBytes.{Consumes-trans}
use Rattle.std.specs.Io.KnownBytes.{Consumes}
use Rattle.jos_host.proofs.streams.read_full.Goals as goal
use Rattle.jos_host.proofs.Filled.{filled-put_mid}

pub loop-filled-preserved : goal.loop-filled-preserved
loop-filled-preserved g c =
    let a = c.loop-filled.filled in
    let xs = c.loop-filled.buf in
    let ys = c.read_some.new.buf in
    let n = c.in_ok-count.count in
    let fits : n ≤ length ys = omega (arith, c.in_ok-count.ensures.within, c.read_some.auto.buf) in
    record {
      within = search rules;
      taken = subst (Consumes _ _) (sym (filled-put_mid a (length xs - a) n xs ys c.loop-filled.invariant.within fits))
          (Consumes-trans _ _ _ _ _ c.loop-filled.invariant.taken c.in_ok-count.ensures.taken.0);
    }
