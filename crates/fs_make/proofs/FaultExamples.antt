-- Small lists of files: the fault of some, and others without one, computed.
use Rattle.std.specs.Prelude.{◌≡◌, ℕ, true, false, List, [], ◌∷◌, codes, replicate, Some, None, refl}
use Rattle.jos_host.specs.MemHost.{Named}
use Rattle.fs_make.specs.declared.fault.MakeFault.TheVariants.{TooManyBlocks, BadName, TwiceNamed, NoRoom}
use Rattle.fs_make.specs.MakeFaults.{make_fault, is_file_name, first_taken, root_size, spans_of, blocks_used}

abbrev file : List ℕ → List ℕ → Named
file name bytes = record { name = name; bytes = bytes }

-- no file at all: the smallest disk has a block to spare
nothing_is_good : make_fault 4 [] ≡ None
unfolding make_fault is_file_name first_taken root_size spans_of blocks_used
nothing_is_good = refl

-- The root takes block 3, and the two bytes block 4.
one_file_is_good : make_fault 5 (file (codes "a") (codes "hi") ∷ []) ≡ None
unfolding make_fault is_file_name first_taken root_size spans_of blocks_used
one_file_is_good = refl

-- a block less
no_room : make_fault 4 (file (codes "a") (codes "hi") ∷ []) ≡ Some NoRoom
unfolding make_fault is_file_name first_taken root_size spans_of blocks_used
no_room = refl

three_blocks : make_fault 3 [] ≡ Some TooManyBlocks
unfolding make_fault is_file_name first_taken root_size spans_of blocks_used
three_blocks = refl

too_many_blocks : make_fault 16385 [] ≡ Some TooManyBlocks
unfolding make_fault is_file_name first_taken root_size spans_of blocks_used
too_many_blocks = refl

-- a slash in the second name, which is told before the lack of room
slash : make_fault 4 (file (codes "a") [] ∷ file (codes "b/c") [] ∷ []) ≡ Some (BadName 1)
unfolding make_fault is_file_name first_taken root_size spans_of blocks_used
slash = refl

nameless : make_fault 16 (file [] [] ∷ []) ≡ Some (BadName 0)
unfolding make_fault is_file_name first_taken root_size spans_of blocks_used
nameless = refl

-- a name of 127 bytes, and one of 128
longest_name : is_file_name (replicate 127 97) ≡ true
unfolding is_file_name
longest_name = refl

too_long_name : is_file_name (replicate 128 97) ≡ false
unfolding is_file_name
too_long_name = refl

-- the third has the first one's name
taken : make_fault 16 (file (codes "a") [] ∷ file (codes "b") [] ∷ file (codes "a") [] ∷ []) ≡ Some (TwiceNamed 2)
unfolding make_fault is_file_name first_taken root_size spans_of blocks_used
taken = refl
