use Rattle.std.proofs.Common.{◌∙◌, refl, arith}
use Rattle.jos_run.specs.Served.{kernel_state}
use Rattle.jos_run.proofs.BlockMoves.{putting_begins, putting_live, putting_may, putting_goes_on, putting_ends}
use Rattle.jos_run.proofs.served.Served.put_page.Goals as goal

pub loop-place-init : goal.loop-place-init
loop-place-init c =
    let s = c.args.self.now in
    record {
      putting = putting_begins (kernel_state s) s.slot c.args.va c.args.bytes.now c.requires.page c.requires.live c.requires.allowed;
      slot = refl;
      calls = refl;
      written = refl;
      disk = refl;
    }

pub put_byte-requires-clause-live : goal.put_byte-requires-clause-live
put_byte-requires-clause-live c = putting_live c.loop-place.invariant.putting c.loop-place.self.slot c.loop-place.invariant.slot

pub put_byte-requires-clause-allowed : goal.put_byte-requires-clause-allowed
put_byte-requires-clause-allowed c =
    putting_may c.loop-place.invariant.putting c.loop-place.self.slot c.loop-place.invariant.slot (omega (arith, c.loop-place-test.true))

pub loop-place-preserved : goal.loop-place-preserved
loop-place-preserved c = record {
  putting = putting_goes_on c.loop-place.invariant.putting c.loop-place.self.slot c.loop-place.invariant.slot (kernel_state c.put_byte.new.self) _
      (omega arith) refl c.put_byte.ensures.state;
  slot = c.put_byte.ensures.slot ∙ c.loop-place.invariant.slot;
  calls = c.put_byte.ensures.calls ∙ c.loop-place.invariant.calls;
  written = c.put_byte.ensures.written ∙ c.loop-place.invariant.written;
  disk = c.put_byte.ensures.disk ∙ c.loop-place.invariant.disk;
}

pub returns-clause-state : goal.returns-clause-state
returns-clause-state c = putting_ends c.loop-place.invariant.putting (omega arith)
