use Rattle.std.proofs.Common.{◌≡◌, ◌≢◌, ◌∙◌, ◌+◌, arith}
use Rattle.std.specs.Prelude.{slice_index}
use Rattle.fs_image.proofs.NameBytes.{named_none, named_more, named_nul, named_all, within_bytes}
use Rattle.fs_image.proofs.disk.MemoryDisk.name.Goals as goal

pub loop-len-init : goal.loop-len-init
loop-len-init c = record { named = named_none c.args.self.now.bytes.now c.args.place; within = λ h. absurd (omega (arith, h)) }

pub returns-then-byte-eq0 : goal.returns-then-byte-eq0
returns-then-byte-eq0 c =
    let nul : slice_index c.args.self.now.bytes.now (c.args.place + c.loop-len.len) ≡ 0 = omega arith in
    c.piece.ensures ∙ named_nul c.args.self.now.bytes.now c.args.place c.loop-len.len c.loop-len.invariant.named nul c.loop-len-test.true

pub loop-len-preserved : goal.loop-len-preserved
loop-len-preserved c =
    let full : slice_index c.args.self.now.bytes.now (c.args.place + c.loop-len.len) ≢ 0 = omega arith in
    let within = within_bytes c.args.self.now.bytes.now (c.args.place + c.loop-len.len) full in
    record {
      named = named_more c.args.self.now.bytes.now c.args.place c.loop-len.len c.loop-len.invariant.named full within;
      within = λ h. omega (arith, within);
    }

pub returns : goal.returns
returns c =
    let all : c.loop-len.len ≡ 128 = omega arith in
    c.piece-2.ensures ∙ named_all c.args.self.now.bytes.now c.args.place c.loop-len.len c.loop-len.invariant.named all
