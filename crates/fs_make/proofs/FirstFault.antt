-- The first fault, one test after another.
use Rattle.std.proofs.Common.{◌≡◌, ℕ, suc, zero, ◌+◌, ◌<◌, ◌≤◌, Bool, true, false, List, [], ◌∷◌, length, get_or, refl, sym, arith, Option, Some, None, ◌∙◌}
use Rattle.std.specs.Prelude.{◌||◌, not, nat_lt, position, All, if◌then◌else◌}
use Rattle.std.specs.List.{position_from}
use Rattle.std.proofs.lemmas.Iterator.Adapters.{position_from-zero}
use Rattle.std.proofs.lemmas.Bool.Decides.{nat_tests}
use Rattle.jos_host.specs.MemHost.{Named}
use Rattle.fs_layout.specs.declared.numbers.TheConstants.{MAXFILESIZE}
use Rattle.fs_layout.specs.DiskImage.{is_good_count}
use Rattle.fs_make.specs.declared.fault.MakeFault.TheVariants.{TooManyBlocks, BadName, TwiceNamed, TooLong, NoRoom}
use Rattle.fs_make.specs.MakeFaults.{is_file_name, first_taken, root_size, blocks_used, make_fault}
use Rattle.jos_base.proofs.Options.{cond_none}

-- the tests that are made of files
abbrev pub bad_name : List Named → Option ℕ
bad_name files = position (λ (file : Named). not (is_file_name file.name)) files

abbrev pub too_long : List Named → Option ℕ
too_long files = position (λ (file : Named). nat_lt MAXFILESIZE (length file.bytes)) files

abbrev pub no_room : ℕ → List Named → Bool
no_room blocks files = nat_lt blocks (blocks_used blocks files) || nat_lt MAXFILESIZE (root_size (length files))

abbrev none : Option ℕ
none = None

pub bad-count : (blocks : ℕ) (files : List Named) → is_good_count blocks ≡ false → Some TooManyBlocks ≡ make_fault blocks files
unfolding make_fault
bad-count blocks files e = rw e refl

pub bad-name : (blocks : ℕ) (files : List Named) (place : ℕ) → is_good_count blocks ≡ true → bad_name files ≡ Some place → Some (BadName place) ≡ make_fault blocks files
unfolding make_fault
bad-name blocks files place e p = rw (e, p) refl

pub name-taken : (blocks : ℕ) (files : List Named) (place : ℕ) → is_good_count blocks ≡ true → bad_name files ≡ none → first_taken [] files ≡ Some place → Some (TwiceNamed place) ≡ make_fault blocks files
unfolding make_fault
name-taken blocks files place e p t = rw (e, p, t) refl

pub too-long : (blocks : ℕ) (files : List Named) (place : ℕ) → is_good_count blocks ≡ true → bad_name files ≡ none → first_taken [] files ≡ none → too_long files ≡ Some place →
    Some (TooLong place) ≡ make_fault blocks files
unfolding make_fault
too-long blocks files place e p t l = rw (e, p, t, l) refl

pub last-test : (blocks : ℕ) (files : List Named) (fails : Bool) → is_good_count blocks ≡ true → bad_name files ≡ none → first_taken [] files ≡ none → too_long files ≡ none →
    fails ≡ no_room blocks files → (if fails then Some NoRoom else None) ≡ make_fault blocks files
unfolding make_fault
last-test blocks files fails e p t l r = rw (e, p, t, l, r) refl

-- ---- files that pass

none_from : (p : Named → Bool) (files : List Named) (place : ℕ) → position_from p place files ≡ None → (k : ℕ) (d : Named) → k < length files → p (get_or files k d) ≡ false
none_from p [] place e k d within = absurd (omega arith)
none_from p (file ∷ files) place e zero d within = (cond_none (p file) place (position_from p (place + 1) files) e).0
none_from p (file ∷ files) place e (suc k) d within = none_from p files (place + 1) (cond_none (p file) place (position_from p (place + 1) files) e).1 k d (omega arith)

-- where no place is told, no file passes
pub none-passes : (p : Named → Bool) (files : List Named) → position p files ≡ None → (k : ℕ) (d : Named) → k < length files → p (get_or files k d) ≡ false
none-passes p files e = none_from p files 0 (sym (position_from-zero p files) ∙ e)

at_most : (size : ℕ) → nat_lt MAXFILESIZE size ≡ false → size ≤ MAXFILESIZE
at_most size e = grind (arith, nat_tests)

pub sizes-fit : (files : List Named) → too_long files ≡ none → All (λ file. length file.bytes ≤ MAXFILESIZE) files
sizes-fit files e = λ k d within. at_most (length (get_or files k d).bytes) (none-passes (λ (file : Named). nat_lt MAXFILESIZE (length file.bytes)) files e k d within)
