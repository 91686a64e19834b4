-- Puts one after another.
use Rattle.std.proofs.Common.{[], ◌∷◌, refl}
use Rattle.fs_acts.specs.BlockActs.{stored, written}
use Rattle.fs_acts.specs.BlockLaws.{PrefixesAreWritten}

-- what comes later finds the disk as what came first left it
pub written-append : PrefixesAreWritten
unfolding written
written-append [] rest byte = refl
written-append (put ∷ first) rest byte = written-append first rest (stored put byte)
