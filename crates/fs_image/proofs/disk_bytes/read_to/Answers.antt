use Rattle.std.proofs.Common.{◌∙◌, ◌≤◌, ℕ, length, refl, arith}
use Rattle.fs_image.proofs.Reading.{reading_none, reading_more, cause_moved, grows_none, grows_more, reaches_none, reaches_more, reaches_last}
use Rattle.fs_image.proofs.disk_bytes.read_to.Goals as goal
use Rattle.jos_host.proofs.Frames.{still}

pub loop-alloc-init : goal.loop-alloc-init
loop-alloc-init g c = record {
  told = reaches_none (g.H.Host.files c.args.host.now) c.args.name.now c.args.bytes.now.items;
  grows = grows_none c.args.end c.args.bytes.now.items c.requires;
  rest = record { first = refl; second = refl; third = refl; fourth = refl };
  asked = reading_none c.args.name.now (g.H.Host.asked c.args.host.now);
  faults = refl;
}

pub returns-then-came-count-clause-told : goal.returns-then-came-count-clause-told
returns-then-came-count-clause-told g c =
    let told = rw c.loop-alloc.invariant.rest.first at c.in-Ok.ensures.told in
    let within : length c.read_piece.new.bytes.items ≤ c.args.end = omega (arith, c.in-Ok.ensures.len, c.in-Ok.ensures.within) in
    reaches_last (g.H.Host.files c.args.host.now) c.args.name.now c.args.bytes.now.items c.loop-alloc.bytes.items c.read_piece.new.bytes.items _ c.in-Ok.came c.args.end c.loop-alloc.invariant.told told c.in-Ok.ensures.len c.if-came-count.true within

pub returns-then-came-count-clause-grows : goal.returns-then-came-count-clause-grows
returns-then-came-count-clause-grows g c =
    grows_more c.args.end _ c.args.bytes.now.items c.loop-alloc.bytes.items c.read_piece.new.bytes.items c.loop-alloc.invariant.grows c.in-Ok.ensures.grows (omega (arith, c.in-Ok.ensures.within))

pub returns-then-came-count-clause-rest : goal.returns-then-came-count-clause-rest
returns-then-came-count-clause-rest g c = still c.loop-alloc.invariant.rest c.in-Ok.ensures.rest

pub returns-then-came-count-clause-asked : goal.returns-then-came-count-clause-asked
returns-then-came-count-clause-asked g c =
    reading_more c.args.name.now (g.H.Host.asked c.args.host.now) (g.H.Host.asked c.loop-alloc.host) (g.H.Host.asked c.read_piece.new.host) c.loop-alloc.invariant.asked c.in-Ok.ensures.asked

pub returns-then-came-count-clause-cause : goal.returns-then-came-count-clause-cause
returns-then-came-count-clause-cause g c = c.in-Ok.ensures.cause ∙ c.loop-alloc.invariant.faults

pub loop-alloc-smaller : goal.loop-alloc-smaller
loop-alloc-smaller g c = omega (arith, c.in-Ok.ensures.len, c.in-Ok.ensures.within)

pub loop-alloc-preserved : goal.loop-alloc-preserved
loop-alloc-preserved g c = record {
  told =
      let told = rw c.loop-alloc.invariant.rest.first at c.in-Ok.ensures.told in
      reaches_more (g.H.Host.files c.args.host.now) c.args.name.now c.args.bytes.now.items c.loop-alloc.bytes.items c.read_piece.new.bytes.items _ c.in-Ok.came c.loop-alloc.invariant.told told c.in-Ok.ensures.len;
  grows =
      grows_more c.args.end _ c.args.bytes.now.items c.loop-alloc.bytes.items c.read_piece.new.bytes.items c.loop-alloc.invariant.grows c.in-Ok.ensures.grows (omega (arith, c.in-Ok.ensures.within));
  rest = still c.loop-alloc.invariant.rest c.in-Ok.ensures.rest;
  asked =
      reading_more c.args.name.now (g.H.Host.asked c.args.host.now) (g.H.Host.asked c.loop-alloc.host) (g.H.Host.asked c.read_piece.new.host) c.loop-alloc.invariant.asked c.in-Ok.ensures.asked;
  faults = c.in-Ok.ensures.cause ∙ c.loop-alloc.invariant.faults;
}

pub returns-in-Err-clause-rest : goal.returns-in-Err-clause-rest
returns-in-Err-clause-rest g c = still c.loop-alloc.invariant.rest c.in-Err.ensures.rest

pub returns-in-Err-clause-asked : goal.returns-in-Err-clause-asked
returns-in-Err-clause-asked g c =
    reading_more c.args.name.now (g.H.Host.asked c.args.host.now) (g.H.Host.asked c.loop-alloc.host) (g.H.Host.asked c.read_piece.new.host) c.loop-alloc.invariant.asked c.in-Err.ensures.asked

pub returns-in-Err-clause-cause : goal.returns-in-Err-clause-cause
returns-in-Err-clause-cause g c =
    cause_moved ℕ (Unit {0}) (g.H.Host.faults c.args.host.now) (g.H.Host.faults c.loop-alloc.host) (g.H.Host.faults c.read_piece.new.host) c.in-Err.fault c.loop-alloc.invariant.faults c.in-Err.ensures.cause
