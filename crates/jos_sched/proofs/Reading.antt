-- The text of a schedule, read a number at a time.
use Rattle.std.proofs.Common.{◌≡◌, ◌≢◌, ◌∙◌, ◌+◌, ◌-◌, ◌*◌, ◌^◌, ◌<◌, ◌≤◌, ◌==◌, ℕ, Bool, true, false, cond, min}
use Rattle.std.proofs.Common.{List, [], ◌∷◌, ◌++◌, length, get_or, drop, drop-cons, Option, Some, None, Ok, Err}
use Rattle.std.proofs.Common.{refl, sym, ap, subst, arith, append_assoc, add-one, length-append}
use Rattle.std.specs.Prelude.{nat_lt, ◌&&◌}
use Rattle.std.proofs.lemmas.Bool.Decides.{nat_tests}
use Rattle.std.proofs.Math.ListN.{drop_of_length-le}
use Rattle.std.proofs.lemmas.List.{append-nil}
use Rattle.std.proofs.lemmas.List.Elements.{All-push}
use Rattle.jos_base.specs.declared.numbers.TheConstants.{QUANTUM}
use Rattle.jos_base.specs.Reach.{front_added}
use Rattle.jos_sched.specs.declared.schedule.TheConstants.{SCHEDULE_MAX, QUANTUM_MAX}
use Rattle.jos_sched.specs.declared.fault.ScheduleFault.{ScheduleFault}
use Rattle.jos_sched.specs.declared.fault.ScheduleFault.TheVariants.{NotANumber, Zero, TooBig, TooMany}
use Rattle.jos_sched.specs.Quantum.{AreLawful}
use Rattle.jos_sched.specs.Schedule.{is_digit, is_blank, number_behind, leading_number, number_fault, Read, judged}
use Rattle.jos_sched.specs.Schedule.{read_from, completed, parsed}

-- ---- the digits of a number

-- what is read where a number begins, and where no digit stands
abbrev number_read_here : ℕ → List ℕ → ℕ → ℕ → Read
number_read_here byte rest at count = judged (number_fault count at (leading_number (byte ∷ rest))) (leading_number (byte ∷ rest)) (read_from rest (at + 1) true (count + 1))

abbrev other_here : ℕ → List ℕ → ℕ → ℕ → Read
other_here byte rest at count = cond (is_blank byte) (read_from rest (at + 1) false count) (Err (NotANumber at))

not_within : (byte : ℕ) (rest : List ℕ) (at count : ℕ) (b : Bool) → is_digit byte ≡ b → read_from (byte ∷ rest) at false count ≡ cond b (number_read_here byte rest at count) (other_here byte rest at count)
unfolding read_from
not_within byte rest at count b is =
    ap (λ b. cond (b && false) (read_from rest (at + 1) true count) (cond b (number_read_here byte rest at count) (other_here byte rest at count))) is ∙ never b
  where
    never : (b : Bool) → cond (b && false) (read_from rest (at + 1) true count) (cond b (number_read_here byte rest at count) (other_here byte rest at count))
        ≡ cond b (number_read_here byte rest at count) (other_here byte rest at count)
    never true = refl
    never false = refl

-- a digit within a number is passed over
digit_passes : (byte : ℕ) (rest : List ℕ) (at count : ℕ) → is_digit byte ≡ true → read_from (byte ∷ rest) at true count ≡ read_from rest (at + 1) true count
unfolding read_from
digit_passes byte rest at count digit =
    ap (λ b. cond (b && true) (read_from rest (at + 1) true count) (cond b (number_read_here byte rest at count) (other_here byte rest at count))) digit

-- where no digit stands, it is the same whether one stands before it
other_passes : (byte : ℕ) (rest : List ℕ) (at count : ℕ) → is_digit byte ≡ false → read_from (byte ∷ rest) at true count ≡ read_from (byte ∷ rest) at false count
unfolding read_from
other_passes byte rest at count other =
    ap (λ b. cond (b && true) (read_from rest (at + 1) true count) (cond b (number_read_here byte rest at count) (other_here byte rest at count))) other
    ∙ sym (not_within byte rest at count false other)

-- the text from a place within it on
from_place : (text : List ℕ) (place : ℕ) → place < length text → drop place text ≡ get_or text place 0 ∷ drop (place + 1) text
from_place text place lt = rw (add-one place) (drop-cons text place 0 lt)

-- a number of which the digits before a place have this value, or more than a word holds
pub record IsBegun (text : List ℕ) (from place value : ℕ) : Type 0 where
  pub exact : ℕ
  pub capped : value ≡ min exact (2 ^ 32 - 1)
  pub number : leading_number (drop from text) ≡ number_behind exact (drop place text)
  pub passed : (count : ℕ) → read_from (drop from text) from true count ≡ read_from (drop place text) place true count

pub begun_first : (text : List ℕ) (from : ℕ) → IsBegun text from from 0
begun_first text from = record { exact = 0; capped = refl; number = refl; passed = λ count. refl }

pub begun_step : (text : List ℕ) (from place value product next : ℕ) → place < length text → is_digit (get_or text place 0) ≡ true → IsBegun text from place value
    → product ≡ min (value * 10) (2 ^ 32 - 1) → next ≡ min (product + (get_or text place 0 - 48)) (2 ^ 32 - 1) → IsBegun text from (place + 1) next
unfolding number_behind
begun_step text from place value product next lt digit begun product_is next_is =
    let byte = get_or text place 0 in
    let rest = drop (place + 1) text in
    record {
      exact = begun.exact * 10 + (byte - 48);
      capped = (let capped = begun.capped in omega arith);
      number =
          begun.number ∙ ap (number_behind begun.exact) (from_place text place lt)
          ∙ ap (λ b. cond b (number_behind (begun.exact * 10 + (byte - 48)) rest) begun.exact) digit;
      passed = λ count.
          begun.passed count ∙ ap (λ (bytes : List ℕ). read_from bytes place true count) (from_place text place lt)
          ∙ digit_passes byte rest place count digit;
    }

-- what stands behind the digits: the end, or another byte
pub record IsEnded (text : List ℕ) (from place value : ℕ) : Type 0 where
  pub value_is : value ≡ min (leading_number (drop from text)) (2 ^ 32 - 1)
  pub passed : (count : ℕ) → read_from (drop from text) from true count ≡ read_from (drop place text) place false count

pub ended_by_other : (text : List ℕ) (from place value : ℕ) → place < length text → is_digit (get_or text place 0) ≡ false → IsBegun text from place value
    → IsEnded text from place value
unfolding number_behind
ended_by_other text from place value lt other begun =
    let byte = get_or text place 0 in
    let rest = drop (place + 1) text in
    let all : leading_number (drop from text) ≡ begun.exact =
    begun.number ∙ ap (number_behind begun.exact) (from_place text place lt)
    ∙ ap (λ b. cond b (number_behind (begun.exact * 10 + (byte - 48)) rest) begun.exact) other in
    record {
      value_is = begun.capped ∙ ap (λ z. min z (2 ^ 32 - 1)) (sym all);
      passed = λ count.
          begun.passed count ∙ ap (λ (bytes : List ℕ). read_from bytes place true count) (from_place text place lt)
          ∙ other_passes byte rest place count other
          ∙ ap (λ (bytes : List ℕ). read_from bytes place false count) (sym (from_place text place lt));
    }

pub ended_by_end : (text : List ℕ) (from place value : ℕ) → length text ≤ place → IsBegun text from place value → IsEnded text from place value
unfolding number_behind read_from
ended_by_end text from place value ge begun =
    let none : drop place text ≡ [] = drop_of_length-le text ge in
    let all : leading_number (drop from text) ≡ begun.exact = begun.number ∙ ap (number_behind begun.exact) none in
    record {
      value_is = begun.capped ∙ ap (λ z. min z (2 ^ 32 - 1)) (sym all);
      passed = λ count.
          begun.passed count ∙ ap (λ (bytes : List ℕ). read_from bytes place true count) none
          ∙ ap (λ (bytes : List ℕ). read_from bytes place false count) (sym none);
    }

-- ---- the numbers so far

abbrev pub put_before : List ℕ → Read → Read
put_before first (Ok numbers) = Ok (first ++ numbers)
put_before first (Err fault) = Err fault

-- a text of which the numbers before a place are these
pub record AreRead (text : List ℕ) (place : ℕ) (numbers : List ℕ) : Type 0 where
  pub lawful : AreLawful numbers
  pub rest : read_from text 0 false 0 ≡ put_before numbers (read_from (drop place text) place false (length numbers))

put_before-none : (read : Read) → put_before [] read ≡ read
put_before-none (Ok numbers) = refl
put_before-none (Err fault) = refl

put_before-first : (numbers : List ℕ) (number : ℕ) (read : Read) → put_before numbers (front_added number read) ≡ put_before (numbers ++ number ∷ []) read
put_before-first numbers number (Ok rest) = ap (λ (l : List ℕ). Ok l) (sym (append_assoc numbers (number ∷ []) rest))
put_before-first numbers number (Err fault) = refl

pub read_first : (text : List ℕ) → AreRead text 0 []
read_first text = record {
  lawful = record { most = omega arith; each = λ k d lt. absurd (omega arith) };
  rest = sym (put_before-none (read_from text 0 false 0));
}

-- a blank is passed over
blank_passes : (byte : ℕ) (rest : List ℕ) (at count : ℕ) → is_digit byte ≡ false → is_blank byte ≡ true → read_from (byte ∷ rest) at false count ≡ read_from rest (at + 1) false count
blank_passes byte rest at count other blank =
    not_within byte rest at count false other ∙ ap (λ b. cond b (read_from rest (at + 1) false count) (Err (NotANumber at))) blank

pub read_blank : (text : List ℕ) (place : ℕ) (numbers : List ℕ) → place < length text → is_digit (get_or text place 0) ≡ false → is_blank (get_or text place 0) ≡ true
    → AreRead text place numbers → AreRead text (place + 1) numbers
read_blank text place numbers lt other blank read = record {
  lawful = read.lawful;
  rest =
      read.rest ∙ ap (λ (bytes : List ℕ). put_before numbers (read_from bytes place false (length numbers))) (from_place text place lt)
      ∙ ap (put_before numbers) (blank_passes (get_or text place 0) (drop (place + 1) text) place (length numbers) other blank);
}

-- another byte is a fault
other_faults : (byte : ℕ) (rest : List ℕ) (at count : ℕ) → is_digit byte ≡ false → is_blank byte ≡ false → read_from (byte ∷ rest) at false count ≡ Err (NotANumber at)
other_faults byte rest at count other unknown =
    not_within byte rest at count false other ∙ ap (λ b. cond b (read_from rest (at + 1) false count) (Err (NotANumber at))) unknown

pub read_other : (text : List ℕ) (place : ℕ) (numbers : List ℕ) → place < length text → is_digit (get_or text place 0) ≡ false → is_blank (get_or text place 0) ≡ false
    → AreRead text place numbers → read_from text 0 false 0 ≡ Err (NotANumber place)
read_other text place numbers lt other unknown read =
    read.rest ∙ ap (λ (bytes : List ℕ). put_before numbers (read_from bytes place false (length numbers))) (from_place text place lt)
    ∙ ap (put_before numbers) (other_faults (get_or text place 0) (drop (place + 1) text) place (length numbers) other unknown)

-- the text is at its end
pub read_all : (text : List ℕ) (place : ℕ) (numbers : List ℕ) → length text ≤ place → AreRead text place numbers → read_from text 0 false 0 ≡ Ok numbers
unfolding read_from
read_all text place numbers ge read =
    read.rest ∙ ap (λ (bytes : List ℕ). put_before numbers (read_from bytes place false (length numbers))) (drop_of_length-le text ge)
    ∙ ap (λ (l : List ℕ). Ok l) (append-nil numbers)

-- ---- one number more

-- a number that is more than a word holds has the same fault as the highest word
fault_of-min : (count at number : ℕ) → number_fault count at (min number (2 ^ 32 - 1)) ≡ number_fault count at number
fault_of-min count at number =
    let zero_same : (min number (2 ^ 32 - 1) == 0) ≡ (number == 0) = grind (arith, nat_tests) in
    let big_same : nat_lt QUANTUM_MAX (min number (2 ^ 32 - 1)) ≡ nat_lt QUANTUM_MAX number = grind (arith, nat_tests) in
    λ i. cond (count == SCHEDULE_MAX) (Some TooMany) (cond (zero_same i) (Some (Zero at)) (cond (big_same i) (Some (TooBig at)) None))

record IsFit (count number : ℕ) : Type 0 where
  room : count ≢ SCHEDULE_MAX
  least : 1 ≤ number
  most : number ≤ QUANTUM_MAX

fit : (count at number : ℕ) → number_fault count at number ≡ None → IsFit count number
fit count at number none = by_tests (count == SCHEDULE_MAX) (number == 0) (nat_lt QUANTUM_MAX number) refl refl refl none
  where
    by_tests : (full none big : Bool) → (count == SCHEDULE_MAX) ≡ full → (number == 0) ≡ none → nat_lt QUANTUM_MAX number ≡ big
        → ◌≡◌ {A = Option ScheduleFault} (cond full (Some TooMany) (cond none (Some (Zero at)) (cond big (Some (TooBig at)) None))) None → IsFit count number
    by_tests true nothing big f z b is = absurd (cc)
    by_tests false true big f z b is = absurd (cc)
    by_tests false false true f z b is = absurd (cc)
    by_tests false false false f z b is = record { room = grind (arith, nat_tests); least = grind (arith, nat_tests); most = grind (arith, nat_tests) }

number_first : (byte : ℕ) (rest : List ℕ) (at count : ℕ) → is_digit byte ≡ true → read_from (byte ∷ rest) at false count ≡ number_read_here byte rest at count
number_first byte rest at count digit = not_within byte rest at count true digit

number_here : (bytes : List ℕ) (byte : ℕ) (rest : List ℕ) (at count : ℕ) → bytes ≡ byte ∷ rest → is_digit byte ≡ true
    → read_from bytes at false count ≡ judged (number_fault count at (leading_number bytes)) (leading_number bytes) (read_from bytes at true (count + 1))
number_here bytes byte rest at count is digit =
    subst (λ (l : List ℕ). read_from l at false count ≡ judged (number_fault count at (leading_number l)) (leading_number l) (read_from l at true (count + 1))) (sym is)
    (number_first byte rest at count digit
    ∙ ap (judged (number_fault count at (leading_number (byte ∷ rest))) (leading_number (byte ∷ rest))) (sym (digit_passes byte rest at (count + 1) digit)))

module _ (text : List ℕ) (place : ℕ) (numbers : List ℕ) (number end : ℕ) (lt : place < length text) (digit : is_digit (get_or text place 0) ≡ true)
    (read : AreRead text place numbers) (value_is : number ≡ min (leading_number (drop place text)) (2 ^ 32 - 1))
    (passed : (count : ℕ) → read_from (drop place text) place true count ≡ read_from (drop end text) end false count) where
  abbrev exact : ℕ
  exact = leading_number (drop place text)

  -- what stands from the number on
  from_number : read_from (drop place text) place false (length numbers) ≡ judged (number_fault (length numbers) place number) exact (read_from (drop end text) end false (length numbers + 1))
  from_number =
      number_here (drop place text) (get_or text place 0) (drop (place + 1) text) place (length numbers) (from_place text place lt) digit
      ∙ ap (judged (number_fault (length numbers) place exact) exact) (passed (length numbers + 1))
      ∙ ap (λ (f : Option ScheduleFault). judged f exact (read_from (drop end text) end false (length numbers + 1)))
      (sym (fault_of-min (length numbers) place exact) ∙ ap (number_fault (length numbers) place) (sym value_is))

  -- a number with a fault
  pub number_faults : (fault : ScheduleFault) → number_fault (length numbers) place number ≡ Some fault → read_from text 0 false 0 ≡ Err fault
  number_faults fault is =
      read.rest ∙ ap (put_before numbers) (from_number ∙ ap (λ (f : Option ScheduleFault). judged f exact (read_from (drop end text) end false (length numbers + 1))) is)

  -- a number without one
  pub number_read : number_fault (length numbers) place number ≡ None → AreRead text end (numbers ++ number ∷ [])
  number_read none =
      let fits = fit (length numbers) place number none in
      let least = fits.least in
      let most = fits.most in
      let room = fits.room in
      let before = read.lawful.most in
      let is_exact : exact ≡ number = (let is = value_is in omega arith) in
      let longer : length (numbers ++ number ∷ []) ≡ length numbers + 1 = length-append numbers (number ∷ []) in
      record {
        lawful = record {
          most = omega (arith, longer, before, room);
          each = All-push (λ n. (1 ≤ n) × (n ≤ QUANTUM_MAX)) numbers number read.lawful.each (least, most);
        };
        rest =
            read.rest ∙ ap (put_before numbers) (from_number ∙ ap (λ (f : Option ScheduleFault). judged f exact (read_from (drop end text) end false (length numbers + 1))) none)
            ∙ ap (λ n. put_before numbers (front_added n (read_from (drop end text) end false (length numbers + 1)))) is_exact
            ∙ put_before-first numbers number (read_from (drop end text) end false (length numbers + 1))
            ∙ ap (λ n. put_before (numbers ++ number ∷ []) (read_from (drop end text) end false n)) (sym longer);
      }

-- ---- the text as a whole

pub parsed_fault : (text : List ℕ) (fault : ScheduleFault) → read_from text 0 false 0 ≡ Err fault → parsed text ≡ Err fault
unfolding parsed
parsed_fault text fault is = ap completed is

pub parsed_numbers : (text numbers : List ℕ) → 0 < length numbers → read_from text 0 false 0 ≡ Ok numbers → parsed text ≡ Ok numbers
unfolding parsed
parsed_numbers text [] some is = absurd (omega arith)
parsed_numbers text (number ∷ numbers) some is = ap completed is

pub parsed_none : (text numbers : List ℕ) → length numbers ≡ 0 → read_from text 0 false 0 ≡ Ok numbers → parsed text ≡ Ok (QUANTUM ∷ [])
unfolding parsed
parsed_none text [] none is = ap completed is
parsed_none text (number ∷ numbers) none is = absurd (omega arith)
