use Rattle.std.proofs.Common.{◌≡◌, ◌∙◌, ◌+◌, ◌<◌, ◌≤◌, [], true, Ok, refl, sym, ap, subst, arith}
use Rattle.std.specs.Prelude.{min}
use Rattle.jos_host.specs.declared.host.Failed.{Failed}
use Rattle.jos_host.specs.Frames.{from_to}
use Rattle.jos_host.specs.Gains.{Gains}
use Rattle.jos_base.specs.Environments.{is_live}
use Rattle.jos_base.specs.KernelState.{slot_at}
use Rattle.jos_kernel.proofs.ToldBytes.{gains_none, gains_more}
use Rattle.lib_os.specs.declared.numbers.TheConstants.{CACHE_BLOCKS}
use Rattle.lib_os.specs.BlockCache.{block_address}
use Rattle.lib_os.specs.Disk.{DiskFile, HasBlocks}
use Rattle.lib_os.specs.UserCalls.{BlockCall, FilesBehind, IsBlockWrite, block_call}
use Rattle.fs_cache.proofs.DiskTouched.{write_touches}
use Rattle.jos_run.specs.DiskTouches.{TouchesDiskOnly}
use Rattle.jos_run.specs.RunSteps.{IsWrittenBack}
use Rattle.jos_run.specs.Served.{Parts, kernel_state}
use Rattle.jos_run.specs.Worlds.{beside, told_disk}
use Rattle.jos_run.proofs.DiskKept.{only_nothing, only_step, only_whole, touched_further}
use Rattle.jos_run.proofs.WrittenBack.{IsWrittenSoFar, count_told, count_within, mid_spaces, same_slot, written_all, written_clean, written_next, written_none}
use Rattle.jos_run.proofs.WrittenBack.{written_nothing}
use Rattle.jos_run.proofs.served.Served.write_back.Given as given
use Rattle.jos_run.proofs.served.Served.write_back.Goals as goal
use Rattle.jos_run.proofs.served.Served.write_back.Goals.{In-loop-block, then-is_to_write+in-Ok, else-is_to_write}

pub returns-then-not-is_live-clause-disk_only : goal.returns-then-not-is_live-clause-disk_only
returns-then-not-is_live-clause-disk_only g c =
    only_nothing c.args.self.now.disk (g.H.Host.files c.args.host.now) (g.H.Host.asked c.args.host.now)

pub returns-then-not-is_live-clause-told : goal.returns-then-not-is_live-clause-told
returns-then-not-is_live-clause-told g c =
    let disk = told_disk (g.H.Host.files c.args.host.now) c.args.self.now.disk in
    let dead = (λ i. is_live (slot_at (sym c.serve.ensures.state i) (sym c.serve.ensures.slot i))) ∙ sym c.is_live.ensures ∙ c.if-not-is_live.true in
    subst (λ (d : DiskFile). IsWrittenBack (beside (kernel_state c.args.self.now) disk)
    (beside (kernel_state c.serve.new.self) (told_disk (g.H.Host.files c.args.host.now) d))) (sym c.serve.ensures.disk)
    (written_nothing disk (kernel_state c.args.self.now) (kernel_state c.serve.new.self) c.serve.ensures.state dead)

pub returns-then-not-is_live-clause-quiet : goal.returns-then-not-is_live-clause-quiet
returns-then-not-is_live-clause-quiet g c = gains_none (g.H.Host.console c.args.host.now)

pub loop-block-init : goal.loop-block-init
loop-block-init g c = record {
  written = written_none (told_disk (g.H.Host.files c.args.host.now) c.args.self.now.disk) (kernel_state c.args.self.now) (kernel_state c.serve.new.self)
      c.serve.ensures.state c.keep_in_order.ensures;
  slot = c.serve.ensures.slot;
  live = (λ i. is_live (slot_at (kernel_state c.serve.new.self) (sym c.serve.ensures.slot i))) ∙ sym c.is_live.ensures ∙ c.if-not-is_live.false;
  calls = (let none : c.serve.new.self.calls ≡ 0 = c.serve.ensures.calls in omega (arith, none));
  quiet = gains_none (g.H.Host.console c.args.host.now);
  disk = c.serve.ensures.disk;
  disk_only = only_nothing c.args.self.now.disk (g.H.Host.files c.args.host.now) (g.H.Host.asked c.args.host.now);
  input = refl;
  notes = refl;
  faults = refl;
}

pub is_to_write-requires-clause-slot : goal.is_to_write-requires-clause-slot
is_to_write-requires-clause-slot g c = c.loop-block.invariant.slot

pub is_to_write-requires-clause-live : goal.is_to_write-requires-clause-live
is_to_write-requires-clause-live g c = c.loop-block.invariant.live

pub block_write-requires-clause-live : goal.block_write-requires-clause-live
block_write-requires-clause-live g c =
    (λ i. is_live (slot_at (kernel_state c.loop-block.self) (c.loop-block.invariant.slot i))) ∙ c.loop-block.invariant.live

pub block_write-requires-clause-few : goal.block_write-requires-clause-few
block_write-requires-clause-few g c =
    let few : c.loop-block.self.calls ≤ c.loop-block.block = c.loop-block.invariant.calls in
    omega (arith, few, c.loop-block-test.true, c.min-blocks.ensures)

module _ (g : given.Over) (c : goal.In-loop-block g) where
  whole : HasBlocks (g.H.Host.files c.loop-block.host) c.args.self.now.disk
  whole =
      only_whole c.args.self.now.disk (from_to (g.H.Host.files c.args.host.now) (g.H.Host.files c.loop-block.host))
      (from_to (g.H.Host.asked c.args.host.now) (g.H.Host.asked c.loop-block.host)) c.loop-block.invariant.disk_only c.requires.whole

  whole_now : HasBlocks (g.H.Host.files c.loop-block.host) c.loop-block.self.disk
  whole_now = subst (λ (d : DiskFile). HasBlocks (g.H.Host.files c.loop-block.host) d) (sym c.loop-block.invariant.disk) whole

  -- fewer than the disk has
  within : c.loop-block.block < c.args.self.now.disk.blocks
  within =
      let count : c.block_count.result ≡ c.args.self.now.disk.blocks = c.block_count.ensures ∙ ap (λ (d : DiskFile). d.blocks) c.serve.ensures.disk in
      omega (arith, c.loop-block-test.true, c.min-blocks.ensures, count)

-- where the loop goes on
module _ (g : given.Over) (c : goal.In-loop-block g) where
  abbrev GoesOn : Parts → g.row.H.Denot → Type 0
  GoesOn self host = record {
    written : IsWrittenSoFar (c.loop-block.block + 1)
        (beside (kernel_state c.args.self.now) (told_disk (g.H.Host.files c.args.host.now) c.args.self.now.disk))
        (beside (kernel_state self) (told_disk (g.H.Host.files host) c.args.self.now.disk));
    slot : self.slot ≡ 0;
    live : is_live (slot_at (kernel_state self) 0) ≡ true;
    calls : self.calls ≤ c.loop-block.block + 1;
    quiet : Gains (from_to (g.H.Host.console c.args.host.now) (g.H.Host.console host)) [];
    disk : self.disk ≡ c.args.self.now.disk;
    disk_only : TouchesDiskOnly c.args.self.now.disk (from_to (g.H.Host.files c.args.host.now) (g.H.Host.files host))
        (from_to (g.H.Host.asked c.args.host.now) (g.H.Host.asked host));
    input : g.H.Host.input host ≡ g.H.Host.input c.args.host.now;
    notes : g.H.Host.notes host ≡ g.H.Host.notes c.args.host.now;
    faults : g.H.Host.faults host ≡ g.H.Host.faults c.args.host.now;
  }

  come_as : {self then_self : Parts} {host then_host : g.row.H.Denot} → self ≡ then_self → host ≡ then_host → GoesOn then_self then_host → GoesOn self host
  come_as {self = self} {then_host = then_host} same same_host h =
      subst (λ (x : g.row.H.Denot). GoesOn self x) (sym same_host) (subst (λ (x : Parts). GoesOn x then_host) (sym same) h)

pub block_write-requires-clause-whole : goal.block_write-requires-clause-whole
block_write-requires-clause-whole g c = whole_now g (goal.at.block_write-requires-clause-whole g c).In-loop-block

pub returns-in-Err-clause-quiet : goal.returns-in-Err-clause-quiet
returns-in-Err-clause-quiet g c =
    gains_more (g.H.Host.console c.args.host.now) (g.H.Host.console c.loop-block.host) (g.H.Host.console c.block_write.new.host) [] []
    c.loop-block.invariant.quiet c.in-Err.ensures.quiet.gains

pub returns-in-Err-clause-disk : goal.returns-in-Err-clause-disk
returns-in-Err-clause-disk g c = c.in-Err.ensures.disk ∙ c.loop-block.invariant.disk

pub returns-in-Err-clause-disk_only : goal.returns-in-Err-clause-disk_only
returns-in-Err-clause-disk_only g c =
    let inv = c.loop-block.invariant in
    let files = from_to (g.H.Host.files c.loop-block.host) (g.H.Host.files c.block_write.new.host) in
    let asked = from_to (g.H.Host.asked c.loop-block.host) (g.H.Host.asked c.block_write.new.host) in
    touched_further inv.disk inv.disk_only
    (only_step c.loop-block.self.disk files asked (whole_now g (goal.at.returns-in-Err-clause-disk_only g c).In-loop-block)
    (write_touches (block_call (kernel_state c.loop-block.self) c.loop-block.self.slot c.loop-block.self.disk c.loop-block.block c.address_of.result)
    files asked c.block_write.result c.block_write.ensures.files c.block_write.ensures.asked))

pub returns-in-Err-clause-input : goal.returns-in-Err-clause-input
returns-in-Err-clause-input g c = c.in-Err.ensures.input ∙ c.loop-block.invariant.input

pub returns-in-Err-clause-notes : goal.returns-in-Err-clause-notes
returns-in-Err-clause-notes g c = c.in-Err.ensures.notes ∙ c.loop-block.invariant.notes

pub loop-block-preserved : goal.loop-block-preserved
loop-block-preserved g c =
    let at = (goal.at.loop-block-preserved g c).In-loop-block in
    let inv = c.loop-block.invariant in
    let s = kernel_state c.loop-block.self in
    let file = c.args.self.now.disk in
    let k = c.loop-block.block in
    let below = within g at in
    let inside : k < CACHE_BLOCKS = omega (arith, c.loop-block-test.true, c.min-blocks.ensures) in
    elim c.if-is_to_write.branch [
      | then-is_to_write+in-Ok w ↦
          let step = w.in-Ok.ensures in
          let files = from_to (g.H.Host.files c.loop-block.host) (g.H.Host.files w.block_write.new.host) in
          let asked = from_to (g.H.Host.asked c.loop-block.host) (g.H.Host.asked w.block_write.new.host) in
          let call_is : block_call s c.loop-block.self.slot c.loop-block.self.disk k w.address_of.result ≡ block_call s 0 file k (block_address k) =
          (λ i. block_call s (inv.slot i) (inv.disk i) k (w.address_of.ensures i)) in
          let slot : w.block_write.new.self.slot ≡ 0 = step.slot ∙ inv.slot in
          let sent = subst (λ (call : BlockCall). IsBlockWrite call (Ok w.in-Ok.field-0) (kernel_state w.block_write.new.self)) call_is step.step in
          let behind = subst (λ (call : BlockCall). FilesBehind {E = Failed} call (Ok w.in-Ok.field-0) files) call_is step.files in
          let next = written_next k file (g.H.Host.files c.args.host.now) (g.H.Host.files c.loop-block.host) (g.H.Host.files w.block_write.new.host)
          (kernel_state c.args.self.now) s (kernel_state w.block_write.new.self) w.in-Ok.field-0 _ (sym c.is_to_write.ensures ∙ w.if-is_to_write.true)
          below inside (whole g at) sent step.quiet behind step.in_order inv.written in
          let live = ap is_live (same_slot s (kernel_state w.block_write.new.self)
          (mid_spaces k file (g.H.Host.files c.args.host.now) (g.H.Host.files c.loop-block.host) (g.H.Host.files w.block_write.new.host)
          (kernel_state c.args.self.now) s (kernel_state w.block_write.new.self) w.in-Ok.field-0 _ (sym c.is_to_write.ensures ∙ w.if-is_to_write.true)
          below inside (whole g at) sent step.quiet behind step.in_order inv.written)) ∙ inv.live in
          let new = w.block_write.new.self in
          let told : GoesOn g at new w.block_write.new.host = record {
            written = next;
            slot = slot;
            live = live;
            calls = (let few : c.loop-block.self.calls ≤ k = inv.calls in
                let one : new.calls ≡ c.loop-block.self.calls + 1 = step.calls in omega (arith, few, one));
            quiet = gains_more (g.H.Host.console c.args.host.now) (g.H.Host.console c.loop-block.host) (g.H.Host.console w.block_write.new.host) [] []
                inv.quiet step.quiet.gains;
            disk = step.disk ∙ inv.disk;
            disk_only = touched_further inv.disk inv.disk_only
                (only_step c.loop-block.self.disk files asked (whole_now g at)
                (write_touches (block_call s c.loop-block.self.slot c.loop-block.self.disk k w.address_of.result) files asked
                w.block_write.result w.block_write.ensures.files w.block_write.ensures.asked));
            input = step.input ∙ inv.input;
            notes = step.notes ∙ inv.notes;
            faults = step.cause.stayed ∙ inv.faults;
          } in
          come_as g at w.self-is w.host-is told
      | else-is_to_write w ↦
          let clean = sym c.is_to_write.ensures ∙ w.if-is_to_write.false in
          let few : c.loop-block.self.calls ≤ k = inv.calls in
          let told : GoesOn g at c.loop-block.self c.loop-block.host = record {
            written = written_clean k (told_disk (g.H.Host.files c.args.host.now) file) (told_disk (g.H.Host.files c.loop-block.host) file)
                (kernel_state c.args.self.now) s clean (count_within (g.H.Host.files c.args.host.now) file k below) inv.written;
            slot = inv.slot;
            live = inv.live;
            calls = omega (arith, few);
            quiet = inv.quiet;
            disk = inv.disk;
            disk_only = inv.disk_only;
            input = inv.input;
            notes = inv.notes;
            faults = inv.faults;
          } in
          come_as g at w.self-is w.host-is told
    ]

-- ---- all are written

pub returns-clause-told : goal.returns-clause-told
returns-clause-told g c =
    let inv = c.loop-block.invariant in
    let file = c.args.self.now.disk in
    let count : c.block_count.result ≡ file.blocks = c.block_count.ensures ∙ ap (λ (d : DiskFile). d.blocks) c.serve.ensures.disk in
    let enough : min file.blocks CACHE_BLOCKS ≤ c.loop-block.block = omega (arith, c.loop-block-test.false, c.min-blocks.ensures, count) in
    subst (λ (d : DiskFile). IsWrittenBack (beside (kernel_state c.args.self.now) (told_disk (g.H.Host.files c.args.host.now) file))
    (beside (kernel_state c.loop-block.self) (told_disk (g.H.Host.files c.loop-block.host) d))) (sym inv.disk)
    (written_all c.loop-block.block file.blocks (told_disk (g.H.Host.files c.args.host.now) file) (told_disk (g.H.Host.files c.loop-block.host) file)
    (kernel_state c.args.self.now) (kernel_state c.loop-block.self) enough (count_told (g.H.Host.files c.args.host.now) file) inv.written)

pub returns-clause-quiet : goal.returns-clause-quiet
returns-clause-quiet g c = c.loop-block.invariant.quiet

pub returns-clause-disk : goal.returns-clause-disk
returns-clause-disk g c = c.loop-block.invariant.disk

pub returns-clause-disk_only : goal.returns-clause-disk_only
returns-clause-disk_only g c = c.loop-block.invariant.disk_only

pub returns-clause-input : goal.returns-clause-input
returns-clause-input g c = c.loop-block.invariant.input

pub returns-clause-notes : goal.returns-clause-notes
returns-clause-notes g c = c.loop-block.invariant.notes
