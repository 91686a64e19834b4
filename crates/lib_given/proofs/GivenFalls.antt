-- spawn comes to an end of what the program gives: each of its hidden steps there lowers the number of those that may still come.
use Rattle.std.proofs.Common.{◌≡◌, ◌<◌, ◌≤◌, ◌+◌, ◌-◌, ◌*◌, ◌/◌, ◌%◌, ◌^◌, ◌==◌, ◌&&◌, ◌||◌, ℕ, Bool, true, false, not, nat_le, min, refl, arith, if◌then◌else◌}
use Rattle.std.proofs.lemmas.Bool.Decides.{nat_tests}
use Rattle.jos_base.specs.declared.numbers.TheConstants.{PGSIZE}
use Rattle.jos_base.specs.Counting.{page_limit}
use Rattle.lib_os.specs.declared.service.Service.TheVariants as service
use Rattle.lib_os.specs.declared.spawn_steps.GivenStep.{GivenStep}
use Rattle.lib_os.specs.declared.spawn_steps.GivenStep.TheVariants as given
use Rattle.lib_os.specs.Fence.{is_inside}
use Rattle.lib_os.specs.LibrarySteps.{most_copy_steps, steps_left}
use Rattle.lib_stage.specs.declared.ask.Next.TheVariants as next
use Rattle.lib_stage.proofs.Laws.{Falls, most_left}
use Rattle.lib_fd.specs.DescriptorStages.{is_there}
use Rattle.lib_file.specs.Keeping.{next_va}
use Rattle.lib_given.specs.Addresses.{address_va, at_address, behind_address, behind_kept, moved, with_byte}
use Rattle.lib_given.specs.GivenPlan.{next_of}
use Rattle.lib_given.specs.Refusals.{at_given, path_refused_with, refused, refused_with}
use Rattle.lib_given.specs.StackWords.{behind_copy, fits_page}
use Rattle.lib_given.specs.Strings.{at_string, behind_byte, behind_strings}

-- ---- where it goes on with an address, and with a string

address_low : (argv index done word : ℕ) → most_left (at_address argv index done word) ≤ most_copy_steps + 2068
address_low argv index done word =
    by_test (is_inside (address_va argv index done)) (((index == 0) && (done == 0)) || (address_va argv index done % PGSIZE == 0))
  where
    by_test : (inside begins : Bool) →
        most_left (if not inside then refused
        else if begins then at_given (given.AddressRegion index done word)
        else at_given (given.AddressLoading index done word)) ≤ most_copy_steps + 2068
    by_test false begins = omega arith
    by_test true true = omega arith
    by_test true false = omega arith

string_low : (index address used done : ℕ) → most_left (at_string index address used done) ≤ most_copy_steps + 2068
string_low index address used done =
    by_test (nat_le PGSIZE done || not (is_inside (next_va address done))) ((done == 0) || (next_va address done % PGSIZE == 0))
  where
    by_test : (ends begins : Bool) →
        most_left (if ends then refused
        else if begins then at_given (given.StringRegion index address used done)
        else at_given (given.StringLoading index address used done)) ≤ most_copy_steps + 2068
    by_test true begins = omega arith
    by_test false true = omega arith
    by_test false false = omega arith

-- the copies of pages are more than the steps in which a page of strings is copied
many_copies : 20000 ≤ most_copy_steps
unfolding page_limit
many_copies = omega arith

-- so many bytes fit a page
few : (count size : ℕ) → fits_page count size ≡ true → size ≤ 4096
few count size fits = grind (arith, nat_tests, fits)

kept_low : (argv index address : ℕ) → most_left (behind_kept argv index address) < most_copy_steps + 2070
kept_low argv index address = by_test (address == 0)
  where
    by_test : (last : Bool) →
        most_left (if last then at_given (given.StringAddress 0 0) else at_address argv ((index + 1) % 2 ^ 32) 0 0) < most_copy_steps + 2070
    by_test true = omega arith
    by_test false = let low = address_low argv ((index + 1) % 2 ^ 32) 0 0 in omega (arith, low)

strings_low : (index used address : ℕ) → most_left (behind_strings index used address) ≤ most_copy_steps + 2068
strings_low index used address = by_test (address == 0) (fits_page index used) refl
  where
    by_test : (none fits : Bool) → fits_page index used ≡ fits →
        most_left (if not none then at_string index address used 0
        else if not fits then refused
        else at_given (given.TakingStack index used)) ≤ most_copy_steps + 2068
    by_test false fits is = string_low index address used 0
    by_test true false is = omega arith
    by_test true true is = let small : used ≤ 4096 = few index used is in omega (arith, small, many_copies)

byte_low : (index address used done word left : ℕ) → most_left (behind_byte index address used done word left) < most_copy_steps + 2070 + left
byte_low index address used done word left = by_test (word % 256 == 0) (nat_le left 1) refl
  where
    by_test : (ends last : Bool) → nat_le left 1 ≡ last →
        most_left (if ends then at_given (given.StringAddress ((index + 1) % 2 ^ 32) (min (used + (done + 1) % 2 ^ 32) (PGSIZE + 1)))
        else if last then at_string index address used ((done + 1) % 2 ^ 32)
        else at_given (given.StringKeeping index address used ((done + 1) % 2 ^ 32) (word / 256) (left - 1))) < most_copy_steps + 2070 + left
    by_test true last is = omega arith
    by_test false true is = let low = string_low index address used ((done + 1) % 2 ^ 32) in omega (arith, low)
    by_test false false is = let more : 1 < left = grind (arith, nat_tests, is) in omega (arith, more)

copy_low : (count size index copied byte : ℕ) → most_left (behind_copy count size index copied byte) < 3 * (size - copied) + 60
copy_low count size index copied byte = by_test (nat_le (size - copied) 1) (byte == 0) refl
  where
    by_test : (last ends : Bool) → nat_le (size - copied) 1 ≡ last →
        most_left (if last then at_given (given.StoringArgv count size)
        else if ends then at_given (given.StringFirst count size ((index + 1) % 2 ^ 32) (copied + 1))
        else at_given (given.StringCopying count size index (copied + 1))) < 3 * (size - copied) + 60
    by_test true ends is = omega arith
    by_test false true is = let more : 1 < size - copied = grind (arith, nat_tests, is) in omega (arith, more)
    by_test false false is = let more : 1 < size - copied = grind (arith, nat_tests, is) in omega (arith, more)

-- ---- at each step

-- a page is looked at, and behind it that is done or a fault is raised
looked_falls : (path argv : ℕ) (from there none : GivenStep) → most_left (at_given there) < most_left (at_given from) →
    most_left (at_given none) < most_left (at_given from) → most_left (at_given from) ≡ steps_left (at_given from) → (word : ℕ) →
    Falls (service.Spawn path argv) (at_given from) (if not (is_there word) then next.GoOn (at_given none) else next.GoOn (at_given there))
looked_falls path argv from there none low fault whole word = by_test (is_there word)
  where
    by_test : (t : Bool) → Falls (service.Spawn path argv) (at_given from) (if not t then next.GoOn (at_given none) else next.GoOn (at_given there))
    by_test true = omega (arith, low, whole)
    by_test false = omega (arith, fault, whole)

pub given_falls : (path argv : ℕ) (at : GivenStep) (word : ℕ) → Falls (service.Spawn path argv) (at_given at) (next_of argv at word)
given_falls path argv given.TakingGiven word = by_test (word == 0)
  where
    by_test : (t : Bool) → Falls (service.Spawn path argv) (at_given given.TakingGiven)
        (if not t then next.GoOn (path_refused_with word) else next.GoOn (at_address argv 0 0 0))
    by_test true = let low = address_low argv 0 0 0 in omega (arith, low)
    by_test false = omega arith
given_falls path argv (given.AddressRegion index done bytes) word =
    looked_falls path argv (given.AddressRegion index done bytes) (given.AddressEntry index done bytes) (given.AddressFaulting index done)
    (omega arith) (omega arith) (omega arith) word
given_falls path argv (given.AddressEntry index done bytes) word =
    looked_falls path argv (given.AddressEntry index done bytes) (given.AddressLoading index done bytes) (given.AddressFaulting index done)
    (omega arith) (omega arith) (omega arith) word
given_falls path argv (given.AddressLoading index done bytes) word = by_test (moved argv index done == 4) (nat_le 3 done)
  where
    by_test : (all last : Bool) → Falls (service.Spawn path argv) (at_given (given.AddressLoading index done bytes))
        (if all then next.Show (behind_address index word)
        else if last then next.Show (behind_address index (with_byte bytes done word))
        else next.Show (at_address argv index (done + 1) (with_byte bytes done word)))
    by_test true last = tt
    by_test false true = tt
    by_test false false = tt
given_falls path argv (given.AddressFaulting index done) word = tt
given_falls path argv (given.AddressKeeping index address) word = kept_low argv index address
given_falls path argv (given.StringAddress index used) word = let low = strings_low index used word in omega (arith, low)
given_falls path argv (given.StringRegion index address used done) word =
    looked_falls path argv (given.StringRegion index address used done) (given.StringEntry index address used done) (given.StringFaulting address done)
    (omega arith) (omega arith) (omega arith) word
given_falls path argv (given.StringEntry index address used done) word =
    looked_falls path argv (given.StringEntry index address used done) (given.StringLoading index address used done) (given.StringFaulting address done)
    (omega arith) (omega arith) (omega arith) word
given_falls path argv (given.StringLoading index address used done) word = tt
given_falls path argv (given.StringFaulting address done) word = tt
given_falls path argv (given.StringKeeping index address used done kept left) word = byte_low index address used done kept left
given_falls path argv (given.TakingStack count size) word = by_test (word == 0)
  where
    by_test : (t : Bool) → Falls (service.Spawn path argv) (at_given (given.TakingStack count size))
        (if not t then next.GoOn (refused_with word) else next.GoOn (at_given (given.StringFirst count size 0 0)))
    by_test true = omega arith
    by_test false = omega arith
given_falls path argv (given.StringFirst count size index copied) word = omega arith
given_falls path argv (given.StringCopying count size index copied) word = omega arith
given_falls path argv (given.StringPutting count size index copied byte) word = copy_low count size index copied byte
given_falls path argv (given.StoringArgv count size) word = omega arith
given_falls path argv (given.StoringArgc count size) word = omega arith
