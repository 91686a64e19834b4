-- Turns of the abstract system one behind the other: one more turn, one more step of the turn under way, and which turns a
-- schedule allows.
use Rattle.std.proofs.Common.{◌≡◌, ◌∙◌, ℕ, suc, ◌+◌, ◌==◌, ◌&&◌, ◌||◌, Bool, true, false, List, [], ◌∷◌, ◌++◌, length}
use Rattle.std.proofs.Common.{Option, Some, None, refl, sym, ap, subst, arith, add-one, if◌then◌else◌}
use Rattle.std.specs.Prelude.{nat_le, nat_lt, unwrap_or, option_and_then}
use Rattle.std.proofs.lemmas.Bool.Decides.{nat_tests}
use Rattle.jos_sched.specs.Quantum.{quantum}
use Rattle.jos_kernel.specs.declared.report.Turn.{Turn}
use Rattle.jos_kernel.specs.Books.{turn_of}
use Rattle.lib_os.specs.AbstractState.{AbstractState}
use Rattle.lib_os.specs.AbstractRun.{abs_step}
use Rattle.jos_run.specs.AbstractTurns.{next_slot, turn_begun, steps_taken, turn_taken, abs_run}
use Rattle.jos_run.specs.AbstractTurns.{may_end, turn_fits, is_empty, holds_of, fits, all_fit}
use Rattle.std.proofs.lemmas.Bool.{and_parts, and_from}
use Rattle.jos_base.specs.Words.{is_exactly}

-- ---- one behind the other

then_some : {X : Type 0} (o : Option X) → option_and_then (λ x. Some x) o ≡ o
then_some None = refl
then_some (Some x) = refl

then_then : {X Y Z : Type 0} (o : Option X) (f : X → Option Y) (g : Y → Option Z) →
    option_and_then (λ x. option_and_then g (f x)) o ≡ option_and_then g (option_and_then f o)
then_then None f g = refl
then_then (Some x) f g = refl

then_alike : {X Y : Type 0} (o : Option X) (f g : X → Option Y) → ((x : X) → f x ≡ g x) → option_and_then f o ≡ option_and_then g o
then_alike None f g same = refl
then_alike (Some x) f g same = same x

-- what comes behind something that is there
pub then_is : {X Y : Type 0} {o : Option X} (x : X) (f : X → Option Y) → o ≡ Some x → option_and_then f o ≡ f x
then_is {X = X} {Y = Y} x f is = ap (λ (p : Option X). option_and_then f p) is

-- ---- runs

-- one more turn
pub run_append : (a : AbstractState) (turns : List Turn) (t : Turn) →
    abs_run a (turns ++ t ∷ []) ≡ option_and_then (λ b. turn_taken b t) (abs_run a turns)
unfolding abs_run
run_append a [] t = then_some (turn_taken a t)
run_append a (turn ∷ rest) t =
    then_alike (turn_taken a turn) (λ b. abs_run b (rest ++ t ∷ [])) (λ b. option_and_then (λ c. turn_taken c t) (abs_run b rest))
    (λ b. run_append b rest t)
    ∙ then_then (turn_taken a turn) (λ b. abs_run b rest) (λ c. turn_taken c t)

-- the turn of the slot that is chosen
pub taken_is : (a : AbstractState) (n visible hidden : ℕ) → next_slot a ≡ Some n →
    turn_taken a (turn_of n visible hidden) ≡ steps_taken (turn_begun a n) n visible
unfolding turn_taken
taken_is a n visible hidden chosen =
    let same : (n == n) ≡ true = grind (arith, nat_tests) in
    let is : is_exactly n (next_slot a) ≡ true = ap (λ (o : Option ℕ). is_exactly n o) chosen ∙ same in
    ap (λ (c : Bool). if c then steps_taken (turn_begun a n) n visible else None) is

pub run_with_turn : (first before now : AbstractState) (turns : List Turn) (n visible hidden : ℕ) → abs_run first turns ≡ Some before →
    next_slot before ≡ Some n → steps_taken (turn_begun before n) n visible ≡ Some now →
    abs_run first (turns ++ turn_of n visible hidden ∷ []) ≡ Some now
run_with_turn first before now turns n visible hidden ran chosen taken =
    run_append first turns (turn_of n visible hidden)
    ∙ then_is before (λ b. turn_taken b (turn_of n visible hidden)) ran
    ∙ taken_is before n visible hidden chosen ∙ taken

-- ---- steps

pub no_steps : (a : AbstractState) (n : ℕ) → steps_taken a n 0 ≡ Some a
unfolding steps_taken
no_steps a n = refl

step_further : (a b c : AbstractState) (n visible : ℕ) → steps_taken a n visible ≡ Some b → abs_step b n ≡ Some c →
    steps_taken a n (suc visible) ≡ Some c
unfolding steps_taken
step_further a b c n visible taken step = then_is b (λ x. abs_step x n) taken ∙ step

-- one more step
pub one_more_step : (a b c : AbstractState) (n visible : ℕ) → steps_taken a n visible ≡ Some b → abs_step b n ≡ Some c →
    steps_taken a n (visible + 1) ≡ Some c
one_more_step a b c n visible taken step =
    subst (λ (k : ℕ). steps_taken a n k ≡ Some c) (sym (add-one visible)) (step_further a b c n visible taken step)

-- ---- which turns fit

holds_there : {o : Option AbstractState} (b : AbstractState) (is : AbstractState → Bool) → o ≡ Some b → is b ≡ true → holds_of o is ≡ true
holds_there b is there h = ap (λ (p : Option AbstractState). holds_of p is) there ∙ h

-- what fits as a turn that is not the last fits as the last
pub fits_as_last : (schedule : List ℕ) (k : ℕ) (before after : AbstractState) (t : Turn) → turn_fits schedule k false before t after ≡ true →
    turn_fits schedule k true before t after ≡ true
fits_as_last schedule k before after t h =
    weaker (nat_lt 0 (t.visible + t.hidden)) (nat_le (t.visible + t.hidden) (quantum schedule k)) (t.visible + t.hidden == quantum schedule k)
    (may_end before t after) h
  where
    weaker : (some within whole may : Bool) → (some && within && (whole || false || may)) ≡ true → (some && within && (whole || true || may)) ≡ true
    weaker true true true may e = refl
    weaker true true false may e = refl
    weaker true false whole may e = absurd (let contradiction : false ≡ true = e in cc)
    weaker false within whole may e = absurd (let contradiction : false ≡ true = e in cc)

one_fits : (schedule : List ℕ) (k : ℕ) (is_last : Bool) (before after : AbstractState) (t : Turn) (rest : Bool) →
    turn_taken before t ≡ Some after → turn_fits schedule k is_last before t after ≡ true → rest ≡ true →
    holds_of (turn_taken before t) (λ b. turn_fits schedule k is_last before t b && rest) ≡ true
one_fits schedule k is_last before after t rest taken fit others =
    holds_there after (λ b. turn_fits schedule k is_last before t b && rest) taken
    (and_from (turn_fits schedule k is_last before t after) rest fit others)

same_state : (a b : AbstractState) → ◌≡◌ {A = Option AbstractState} (Some a) (Some b) → a ≡ b
same_state a b is = ap (λ (o : Option AbstractState). unwrap_or o a) is

-- the first of them, where the others go on so
first_fits : (schedule : List ℕ) (k : ℕ) (a before : AbstractState) (turn : Turn) (run : AbstractState → Option AbstractState)
    (whole further : AbstractState → Bool) → holds_of (turn_taken a turn) (λ b. turn_fits schedule k false a turn b && whole b) ≡ true →
    option_and_then run (turn_taken a turn) ≡ Some before → ((b : AbstractState) → whole b ≡ true → run b ≡ Some before → further b ≡ true) →
    holds_of (turn_taken a turn) (λ b. turn_fits schedule k false a turn b && further b) ≡ true
first_fits schedule k a before turn run whole further fit ran goes_on = by_taken (turn_taken a turn) fit ran
  where
    by_taken : (o : Option AbstractState) → holds_of o (λ b. turn_fits schedule k false a turn b && whole b) ≡ true →
        option_and_then run o ≡ Some before → holds_of o (λ b. turn_fits schedule k false a turn b && further b) ≡ true
    by_taken None fit ran = fit
    by_taken (Some b) fit ran =
        let parts = and_parts (turn_fits schedule k false a turn b) (whole b) fit in
        and_from (turn_fits schedule k false a turn b) (further b) parts.0 (goes_on b parts.1 ran)

one_behind : (schedule : List ℕ) (is_last : Bool) (k length_of : ℕ) (before after : AbstractState) (t : Turn) →
    turn_fits schedule (k + suc length_of) is_last before t after ≡ true → turn_fits schedule (k + 1 + length_of) is_last before t after ≡ true
one_behind schedule is_last k length_of before after t fit =
    let same : k + suc length_of ≡ k + 1 + length_of = omega arith in
    subst (λ (j : ℕ). turn_fits schedule j is_last before t after ≡ true) same fit

at_first : (schedule : List ℕ) (is_last : Bool) (k : ℕ) (before after : AbstractState) (t : Turn) →
    turn_fits schedule (k + 0) is_last before t after ≡ true → turn_fits schedule k is_last before t after ≡ true
at_first schedule is_last k before after t fit =
    let same : k + 0 ≡ k = omega arith in
    subst (λ (j : ℕ). turn_fits schedule j is_last before t after ≡ true) same fit

-- Turns that fit as ones that are not the last, and one more of them.
pub all_fit_append : (schedule : List ℕ) (k : ℕ) (a before after : AbstractState) (turns : List Turn) (t : Turn) →
    all_fit schedule k a turns ≡ true → abs_run a turns ≡ Some before → turn_taken before t ≡ Some after →
    turn_fits schedule (k + length turns) false before t after ≡ true → all_fit schedule k a (turns ++ t ∷ []) ≡ true
unfolding all_fit abs_run
all_fit_append schedule k a before after [] t whole ran taken fit =
    subst (λ (x : AbstractState). holds_of (turn_taken x t) (λ b. turn_fits schedule k false x t b && true) ≡ true) (sym (same_state a before ran))
    (one_fits schedule k false before after t true taken (at_first schedule false k before after t fit) refl)
all_fit_append schedule k a before after (turn ∷ rest) t whole ran taken fit =
    first_fits schedule k a before turn (λ b. abs_run b rest) (λ b. all_fit schedule (k + 1) b rest) (λ b. all_fit schedule (k + 1) b (rest ++ t ∷ []))
    whole ran
    (λ b others run. all_fit_append schedule (k + 1) b before after rest t others run taken (one_behind schedule false k (length rest) before after t fit))

not_empty : (rest : List Turn) (t : Turn) → is_empty (rest ++ t ∷ []) ≡ false
not_empty [] t = refl
not_empty (turn ∷ rest) t = refl

-- Turns that fit as ones that are not the last, and the last one.
pub fits_append : (schedule : List ℕ) (k : ℕ) (a before after : AbstractState) (turns : List Turn) (t : Turn) →
    all_fit schedule k a turns ≡ true → abs_run a turns ≡ Some before → turn_taken before t ≡ Some after →
    turn_fits schedule (k + length turns) true before t after ≡ true → fits schedule k a (turns ++ t ∷ []) ≡ true
unfolding all_fit abs_run fits
fits_append schedule k a before after [] t whole ran taken fit =
    subst (λ (x : AbstractState). holds_of (turn_taken x t) (λ b. turn_fits schedule k true x t b && true) ≡ true) (sym (same_state a before ran))
    (one_fits schedule k true before after t true taken (at_first schedule true k before after t fit) refl)
fits_append schedule k a before after (turn ∷ rest) t whole ran taken fit =
    subst (λ (c : Bool). holds_of (turn_taken a turn) (λ b. turn_fits schedule k c a turn b && fits schedule (k + 1) b (rest ++ t ∷ [])) ≡ true)
    (sym (not_empty rest t))
    (first_fits schedule k a before turn (λ b. abs_run b rest) (λ b. all_fit schedule (k + 1) b rest) (λ b. fits schedule (k + 1) b (rest ++ t ∷ []))
    whole ran
    (λ b others run. fits_append schedule (k + 1) b before after rest t others run taken (one_behind schedule true k (length rest) before after t fit)))

each_fits : (schedule : List ℕ) (k : ℕ) (is_last : Bool) (a : AbstractState) (turn : Turn) (whole further : AbstractState → Bool) →
    holds_of (turn_taken a turn) (λ b. turn_fits schedule k false a turn b && whole b) ≡ true →
    ((b : AbstractState) → whole b ≡ true → further b ≡ true) →
    holds_of (turn_taken a turn) (λ b. turn_fits schedule k is_last a turn b && further b) ≡ true
each_fits schedule k is_last a turn whole further fit goes_on = by_taken (turn_taken a turn) fit
  where
    as_it_is : (c : Bool) (b : AbstractState) → turn_fits schedule k false a turn b ≡ true → turn_fits schedule k c a turn b ≡ true
    as_it_is false b h = h
    as_it_is true b h = fits_as_last schedule k a b turn h

    by_taken : (o : Option AbstractState) → holds_of o (λ b. turn_fits schedule k false a turn b && whole b) ≡ true →
        holds_of o (λ b. turn_fits schedule k is_last a turn b && further b) ≡ true
    by_taken None fit = fit
    by_taken (Some b) fit =
        let parts = and_parts (turn_fits schedule k false a turn b) (whole b) fit in
        and_from (turn_fits schedule k is_last a turn b) (further b) (as_it_is is_last b parts.0) (goes_on b parts.1)

-- They fit, where the last of them might be followed by others.
pub all_fit_fits : (schedule : List ℕ) (k : ℕ) (a : AbstractState) (turns : List Turn) → all_fit schedule k a turns ≡ true →
    fits schedule k a turns ≡ true
unfolding all_fit fits
all_fit_fits schedule k a [] whole = refl
all_fit_fits schedule k a (turn ∷ rest) whole =
    each_fits schedule k (is_empty rest) a turn (λ b. all_fit schedule (k + 1) b rest) (λ b. fits schedule (k + 1) b rest) whole
    (λ b others. all_fit_fits schedule (k + 1) b rest others)
