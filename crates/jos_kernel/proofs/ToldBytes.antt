-- Bytes that come at the end of told bytes, one after the other.
use Rattle.std.proofs.Common.{◌≡◌, ℕ, ◌+◌, ◌≤◌, List, [], ◌++◌, length, take, Option, None, Some, Result, Ok, Err}
use Rattle.std.proofs.Common.{MatchResult, refl, sym, ap, subst, ◌∙◌, arith, append_assoc}
use Rattle.std.proofs.lemmas.List.{append-nil, length-append, take-append-le}
use Rattle.std.proofs.Math.Seq.{take-append-add}
use Rattle.std.specs.Option.{option_map}
use Rattle.jos_host.specs.Told.{Appends}
use Rattle.jos_host.specs.Frames.{from_to}
use Rattle.jos_host.specs.Gains.{Gains, GainsPart}

pub gains_none : (first : Option (List ℕ)) → first ≡ option_map (λ told. told ++ []) first
gains_none None = refl
gains_none (Some told) = ap (λ l. Some l) (sym (append-nil told))

gains-gains : (first : Option (List ℕ)) (a b : List ℕ) →
    option_map (λ told. told ++ b) (option_map (λ told. told ++ a) first) ≡ option_map (λ told. told ++ (a ++ b)) first
gains-gains None a b = refl
gains-gains (Some told) a b = ap (λ l. Some l) (append_assoc told a b)

pub gains_more : (first now later : Option (List ℕ)) (a b : List ℕ) → Gains (from_to first now) a → Gains (from_to now later) b → Gains (from_to first later) (a ++ b)
gains_more first now later a b one two = two ∙ ap (option_map (λ (told : List ℕ). told ++ b)) one ∙ gains-gains first a b

-- a prefix of what comes after these bytes, as a prefix of what is written in all
pub gains_part : (first now later : Option (List ℕ)) (a b more whole : List ℕ) → Gains (from_to first now) a → GainsPart (from_to now later) b →
    whole ≡ (a ++ b) ++ more → GainsPart (from_to first later) whole
gains_part first now later a b more whole one two e =
    let within : two.0 ≤ length b = two.1 in
    let front : take (length a + two.0) whole ≡ a ++ take two.0 b =
    ap (take (length a + two.0)) (e ∙ append_assoc a b more) ∙ take-append-add a (b ++ more) two.0 ∙ ap (λ l. a ++ l) (take-append-le two.0 b more within) in
    let long : length whole ≡ (length a + length b) + length more =
    ap length e ∙ length-append (a ++ b) more ∙ ap (λ n. n + length more) (length-append a b) in
    (length a + two.0, omega arith, subst (λ (l : List ℕ). Gains (from_to first later) l) (sym front) (gains_more first now later a (take two.0 b) one two.2))

-- a second write, of bytes that are known in other words
pub appended : {E : Type 0} (first now later : Option (List ℕ)) (a b x y : List ℕ) (result : Result (Unit {0}) E) → a ≡ x → b ≡ y →
    Gains (from_to first now) a → Appends now b result later →
    MatchResult result (λ _. Gains (from_to first later) (x ++ y)) (λ _. GainsPart (from_to first later) (x ++ y))
appended first now later a b x y (Ok u) ax by one two =
    subst (λ (bytes : List ℕ). Gains (from_to first later) bytes) (λ i. ax i ++ by i) (gains_more first now later a b one two)
appended first now later a b x y (Err e) ax by one two =
    subst (λ (bytes : List ℕ). GainsPart (from_to first later) bytes) (λ i. ax i ++ by i)
    (gains_part first now later a b [] (a ++ b) one two (sym (append-nil (a ++ b))))

-- a first write that fails
pub part_of_first : (first now : Option (List ℕ)) (a x y : List ℕ) → a ≡ x → GainsPart (from_to first now) a → GainsPart (from_to first now) (x ++ y)
part_of_first first now a x y ax one =
    let within : one.0 ≤ length a = one.1 in
    let long : length (a ++ y) ≡ length a + length y = length-append a y in
    subst (λ (bytes : List ℕ). GainsPart (from_to first now) (bytes ++ y)) ax
    (one.0, omega arith, subst (λ (bytes : List ℕ). Gains (from_to first now) bytes) (sym (take-append-le one.0 a y within)) one.2)
