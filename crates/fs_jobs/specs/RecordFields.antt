-- Where the fields of a record stand on a disk.
-- (MIT 6.828, lab 5: inc/fs.h, struct File.)
use Rattle.std.specs.Prelude.{ℕ, ◌+◌, ◌*◌}
use Rattle.fs_layout.specs.declared.numbers.TheConstants.{MAXNAMELEN, NDIRECT}

abbrev pub size_at : ℕ → ℕ
size_at home = home + MAXNAMELEN

abbrev pub kind_place : ℕ → ℕ
kind_place home = home + MAXNAMELEN + 4

abbrev pub direct_at : ℕ → ℕ → ℕ
direct_at home i = home + MAXNAMELEN + 8 + 4 * i

abbrev pub indirect_at : ℕ → ℕ
indirect_at home = home + MAXNAMELEN + 8 + 4 * NDIRECT
