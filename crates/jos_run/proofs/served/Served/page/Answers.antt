use Rattle.std.proofs.Common.{◌+◌, ◌∙◌, sym, arith, length-set}
use Rattle.fs_layout.specs.declared.numbers.TheConstants.{BLKSIZE}
use Rattle.jos_base.proofs.Lists.{one_more}
use Rattle.lib_os.specs.UserCalls.{user_byte, page_bytes}
use Rattle.lib_os.proofs.DiskBytes.{below_is}
use Rattle.jos_run.specs.Served.{kernel_state}
use Rattle.jos_run.proofs.served.Served.page.Goals as goal

pub loop-place-preserved : goal.loop-place-preserved
loop-place-preserved c =
    let s = c.args.self.now in
    record {
      read = one_more c.loop-place.bytes (λ k. user_byte (kernel_state s) s.slot (c.args.va + k)) c.loop-place.place _ (omega arith)
          c.loop-place.invariant.read c.byte.ensures;
      whole = length-set _ _ _ ∙ c.loop-place.invariant.whole;
    }

pub returns : goal.returns
unfolding page_bytes
returns c =
    let s = c.args.self.now in
    sym (below_is BLKSIZE (λ k. user_byte (kernel_state s) s.slot (c.args.va + k)) c.loop-place.bytes c.loop-place.invariant.whole
    (λ k within. sym (c.loop-place.invariant.read k (omega arith))))
