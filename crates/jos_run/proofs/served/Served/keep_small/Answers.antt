use Rattle.std.proofs.Common.{arith, subst}
use Rattle.lib_os.specs.StandsInHandler.{AreSmall}
use Rattle.jos_run.proofs.served.Served.keep_small.Goals as goal

pub returns : goal.returns
returns c =
    subst AreSmall c.registers.ensures (record {
      eax = omega arith;
      ecx = omega arith;
      edx = omega arith;
      ebx = omega arith;
      esp = omega arith;
      ebp = omega arith;
      esi = omega arith;
      edi = omega arith;
      eip = omega arith;
      eflags = omega arith;
    })
