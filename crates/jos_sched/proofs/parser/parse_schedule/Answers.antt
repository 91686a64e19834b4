use Rattle.std.proofs.Common.{◌≡◌, ◌∙◌, ◌<◌, ℕ, List, [], ◌∷◌, length, Result, Ok, Err, sym, ap, subst, arith}
use Rattle.std.specs.Prelude.{is_ok, MatchResult, IfOk}
use Rattle.jos_base.specs.declared.numbers.TheConstants.{QUANTUM}
use Rattle.jos_sched.specs.Schedule.{parsed}
use Rattle.std.proofs.lemmas.Bool.Decides.{nat_tests}
use Rattle.jos_sched.proofs.Reading.{parsed_fault, parsed_numbers, parsed_none}
use Rattle.jos_sched.proofs.parser.parse_schedule.Goals as goal

-- what holds of a value holds of it where another error stands beside it
with_error : {T E D : Type 0} (P Q : T → Type 0) (F : E → Type 0) (r : Result T E) (s : Result T D) → is_ok s ≡ is_ok r → MatchResult r (λ x. s ≡ Ok x) F
    → IfOk r P → ((x : T) → P x → Q x) → IfOk s Q
with_error P Q F (Ok x) s same is holds then = subst (λ z. IfOk z Q) (sym is) (then x holds)
with_error P Q F (Err e) (Ok x) same is holds then = absurd (cc)
with_error P Q F (Err e) (Err d) same is holds then = tt

pub returns-in-Err-clause-fault : goal.returns-in-Err-clause-fault
returns-in-Err-clause-fault c = λ ne. parsed_fault c.args.text.now c.in-Err.fault (c.in-Err.ensures.fault ne)

pub returns-clause-schedule : goal.returns-clause-schedule
returns-clause-schedule c =
    let some : 0 < length c.in-Ok.numbers.items = grind (arith, nat_tests, c.is_empty.ensures, c.if-is_empty.false, c.in-Ok.numbers.ok) in
    parsed_numbers c.args.text.now c.in-Ok.numbers.items some c.in-Ok.ensures.read ∙ ap (λ (l : List ℕ). Ok l) (sym c.new.ensures)

pub returns-then-is_empty-clause-schedule : goal.returns-then-is_empty-clause-schedule
returns-then-is_empty-clause-schedule c =
    let none : length c.in-Ok.numbers.items ≡ 0 = grind (arith, nat_tests, c.is_empty.ensures, c.if-is_empty.true, c.in-Ok.numbers.ok) in
    with_error (λ schedule. schedule ≡ QUANTUM ∷ []) (λ schedule. parsed c.args.text.now ≡ Ok schedule) _ c.from_numbers.result c.map_err.result
    c.map_err.ensures.variant c.map_err.ensures.cases c.from_numbers.ensures
    (λ schedule is. parsed_none c.args.text.now c.in-Ok.numbers.items none c.in-Ok.ensures.read ∙ ap (λ (l : List ℕ). Ok l) (sym is))
