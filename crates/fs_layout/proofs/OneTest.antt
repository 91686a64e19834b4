-- A test alone: what is demanded, and what is tested only where a condition holds.
use Rattle.std.proofs.Common.{◌≡◌, ◌<◌, ℕ, Bool, true, false, Ok, Err, refl, arith}
use Rattle.std.proofs.lemmas.Bool.Decides.{nat_tests}
use Rattle.std.proofs.lemmas.Bool.{and_parts}
use Rattle.fs_layout.specs.DiskImage.{ImageFault, Blocks, Test, demand, only_where, is_data_block}

pub demand_fails : (b : Bool) (fault : ImageFault) (named : Blocks) → b ≡ false → demand b fault named ≡ Err fault
demand_fails b fault named e = rw e refl

pub demand_passes : (b : Bool) (fault : ImageFault) (named : Blocks) → b ≡ true → demand b fault named ≡ Ok named
demand_passes b fault named e = rw e refl

pub where_not : (b : Bool) (test : Test) (named : Blocks) → b ≡ false → only_where b test named ≡ Ok named
where_not b test named e = rw e refl

pub where_so : (b : Bool) (test : Test) (named : Blocks) → b ≡ true → only_where b test named ≡ test named
where_so b test named e = rw e refl

-- a data block is below the number of blocks
pub data_block_below : (blocks block : ℕ) → is_data_block blocks block ≡ true → block < blocks
data_block_below blocks block is = grind (arith, nat_tests, and_parts)
