-- What a load of a byte and a store come to, where a service takes bytes and keeps them.
use Rattle.std.proofs.Common.{◌≡◌, ◌∙◌, ◌+◌, ◌%◌, ◌==◌, ◌&&◌, ◌<◌, ℕ, Bool, true, false, not, refl, ap, arith, if◌then◌else◌}
use Rattle.std.proofs.lemmas.Bool.Decides.{nat_tests}
use Rattle.jos_base.specs.declared.called.Called.{Called}
use Rattle.jos_base.specs.declared.numbers.TheConstants.{PGSIZE, UTEMP}
use Rattle.jos_base.specs.Environments.{Slot, is_live}
use Rattle.jos_base.specs.KernelState.{KernelState, slot_at}
use Rattle.jos_base.specs.Words.{page_number}
use Rattle.lib_os.specs.Rows.{is_of_descriptor}
use Rattle.lib_os.specs.UserCalls.{CallStep, Got, gone, got, load_byte, to_handler}
use Rattle.lib_os.proofs.BytesKept.{kept_at_once, load_byte_slots}
use Rattle.lib_stage.specs.declared.ask.Ask.TheVariants as ask
use Rattle.lib_stage.specs.Asks.{got_as, told_as}
use Rattle.lib_stage.specs.ServiceSteps.{Plan}
use Rattle.lib_stage.proofs.Laws.{GoesOn, is_plain, is_word_beside}
use Rattle.lib_file.specs.Keeping.{keeping_asked}

-- ---- a load

-- what it comes to, by what it gives
abbrev pub told_byte : CallStep ℕ → CallStep Called
told_byte call = told_as (λ byte. byte) call

got_byte : (called : Called) (g : Got ℕ) → got_as (λ byte. byte) g ≡ got called → (byte : ℕ) × (g ≡ got byte)
got_byte called (got byte) is = (byte, refl)
got_byte called to_handler is = absurd (let contradiction : ◌≡◌ {A = Got Called} to_handler (got called) = is in cc)
got_byte called gone is = absurd (let contradiction : ◌≡◌ {A = Got Called} gone (got called) = is in cc)

pub byte_goes : (s : KernelState) (n : ℕ) (plan : Plan) (va : ℕ) → is_live (slot_at s n) ≡ true → GoesOn s n plan (told_byte (load_byte s n va))
byte_goes s n plan va live = record {
  live = λ called is stays. let it = got_byte called (load_byte s n va).gives is in
      ap (λ (k : Slot). is_live k) (load_byte_slots s n va it.0 it.1 n) ∙ live;
  registers = λ called is stays. let it = got_byte called (load_byte s n va).gives is in
      ap (λ (k : Slot). k.registers) (load_byte_slots s n va it.0 it.1 n);
}

-- ---- a store

abbrev pub told_done : CallStep (Unit {0}) → CallStep Called
told_done call = told_as (λ x. 0) call

pub got_done : (called : Called) (g : Got (Unit {0})) → got_as (λ x. 0) g ≡ got called → (x : Unit {0}) × (g ≡ got x)
got_done called (got x) is = (x, refl)
got_done called to_handler is = absurd (let contradiction : ◌≡◌ {A = Got Called} to_handler (got called) = is in cc)
got_done called gone is = absurd (let contradiction : ◌≡◌ {A = Got Called} gone (got called) = is in cc)

-- at least one byte is put at once
pub some_kept : (at left : ℕ) → 0 < kept_at_once at left
some_kept at left = by_test ((at % 4 == 0) && (left == 4))
  where
    by_test : (t : Bool) → 0 < (if t then 4 else 1)
    by_test true = omega arith
    by_test false = omega arith

-- It writes the page at UTEMP alone, which is no descriptor's.
beside_at : (o : ℕ) → o < PGSIZE → is_of_descriptor (page_number (UTEMP + o)) ≡ false
beside_at o inside = let same : page_number (UTEMP + o) ≡ page_number UTEMP = omega (arith, inside) in ap is_of_descriptor same

-- a word whose first byte lies at such a place, where words lie
pub word_beside_at : (o : ℕ) → o < PGSIZE → o % 4 ≡ 0 → is_word_beside (UTEMP + o) ≡ true
word_beside_at o inside whole =
    let first : page_number (UTEMP + o) ≡ page_number UTEMP = omega (arith, inside) in
    let last : page_number (UTEMP + o + 3) ≡ page_number UTEMP = omega (arith, inside, whole) in
    rw (first, last) refl

pub keeping_plain : (at word left : ℕ) → is_plain (keeping_asked at word left) ≡ true
keeping_plain at word left = by_tests (at % 4 == 0) (left == 4) refl
  where
    by_tests : (t u : Bool) → (at % 4 == 0) ≡ t →
        is_plain (if (if t && u then 4 else 1) == 4 then ask.Store (UTEMP + at % PGSIZE) word else ask.StoreByte (UTEMP + at % PGSIZE) (word % 256)) ≡ true
    by_tests true true is =
        let whole : at % 4 ≡ 0 = grind (arith, nat_tests, is) in
        word_beside_at (at % PGSIZE) (omega arith) (omega (arith, whole))
    by_tests true false is = ap not (beside_at (at % PGSIZE) (omega arith))
    by_tests false u is = ap not (beside_at (at % PGSIZE) (omega arith))
