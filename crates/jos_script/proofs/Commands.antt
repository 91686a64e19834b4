-- The commands of a line, one by one.
use Rattle.std.proofs.Common.{◌≡◌, ℕ, ◌+◌, ◌<◌, ◌≤◌, List, [], ◌∷◌, length, drop, map, get_or, suc, refl, sym, ap, ◌∙◌, arith, inl, inr}
use Rattle.std.specs.Prelude.{Bool, true, false, Option, Some, None, ◌⊎◌, if◌then◌else◌}
use Rattle.std.proofs.Math.Seq.{drop-cons}
use Rattle.std.proofs.Math.ListN.{drop_of_length-le}
use Rattle.std.proofs.lemmas.List.{get_or-map}
use Rattle.std.proofs.lemmas.Bool.{cases_lt}
use Rattle.jos_shell.specs.declared.line.Command.{Command}
use Rattle.jos_shell.specs.Grammar.{Asked, nothing_asked, asked_by, commands_in}
use Rattle.jos_script.specs.ShellScript.{Script, asks, pipe, piped, forks, JobState, new_job, begins, runs, script}
use Rattle.jos_script.specs.ScriptPlaces.{commands_of, command_at, end_of, runs_from}

-- ---- at a command

abbrev begins_by : List ℕ → Bool → ℕ → JobState → Bool → Script
begins_by line last number job is_piped =
    if is_piped
    then asks pipe (λ answer. piped line (command_at line number) job (λ next. runs_from line last (number + 1) next) answer)
    else forks line (command_at line number) job None (λ next. runs_from line last (number + 1) next)

abbrev IsThere : List ℕ → ℕ → Type 0
IsThere line number = number < length (commands_of line)

from-here : (line : List ℕ) (number : ℕ) → IsThere line number →
    drop number (commands_of line) ≡ command_at line number ∷ drop (number + 1) (commands_of line)
unfolding command_at
from-here line number within =
    let after : suc number ≡ number + 1 = omega arith in
    drop-cons (commands_of line) number nothing_asked within ∙ ap (λ (n : ℕ). get_or (commands_of line) number nothing_asked ∷ drop n (commands_of line)) after

begins-here : (line : List ℕ) (last : Bool) (number : ℕ) (job : JobState) → IsThere line number →
    runs_from line last number (Some job) ≡ begins line (command_at line number) job (λ next. runs_from line last (number + 1) next)
unfolding runs_from runs
begins-here line last number job within = ap (λ (commands : List Asked). runs line (end_of last) (Some job) commands) (from-here line number within)

pub begins-piped : (line : List ℕ) (last : Bool) (number : ℕ) (job : JobState) (is_piped : Bool) → IsThere line number →
    is_piped ≡ (command_at line number).piped → is_piped ≡ true →
    asks pipe (λ answer. piped line (command_at line number) job (λ next. runs_from line last (number + 1) next) answer) ≡ runs_from line last number (Some job)
begins-piped line last number job is_piped within told goes_on =
    let e : (command_at line number).piped ≡ true = sym told ∙ goes_on in
    sym (begins-here line last number job within ∙ ap (begins_by line last number job) e)

pub begins-last : (line : List ℕ) (last : Bool) (number : ℕ) (job : JobState) (is_piped : Bool) → IsThere line number →
    is_piped ≡ (command_at line number).piped → is_piped ≡ false →
    forks line (command_at line number) job None (λ next. runs_from line last (number + 1) next) ≡ runs_from line last number (Some job)
begins-last line last number job is_piped within told ends =
    let e : (command_at line number).piped ≡ false = sym told ∙ ends in
    sym (begins-here line last number job within ∙ ap (begins_by line last number job) e)

-- ---- at the front

pub at-front : (line : List ℕ) (last : Bool) (commands : List Asked) → commands_in line ≡ Some commands →
    runs_from line last 0 (Some new_job) ≡ script line (end_of last)
unfolding runs_from commands_of script
at-front line last commands read = rw read refl

-- ---- behind the last

at-end : (line : List ℕ) (end : Script) (job : Option JobState) → runs line end job [] ≡ end
unfolding runs
at-end line end (Some job) = refl
at-end line end None = refl

pub behind-last : (line : List ℕ) (last : Bool) (number : ℕ) (job : Option JobState) → length (commands_of line) ≤ number →
    runs_from line last number job ≡ end_of last
unfolding runs_from
behind-last line last number job past =
    ap (λ (commands : List Asked). runs line (end_of last) job commands) (drop_of_length-le (commands_of line) past) ∙ at-end line (end_of last) job

-- ---- a job that is given up

abbrev behind_command : List ℕ → Bool → ℕ → Bool → Script
behind_command line last number is_piped = runs_from line last (number + 1) (if is_piped then None else Some new_job)

passes-here : (line : List ℕ) (last : Bool) (number : ℕ) → IsThere line number →
    runs_from line last number None ≡ behind_command line last number (command_at line number).piped
unfolding runs_from runs
passes-here line last number within = ap (λ (commands : List Asked). runs line (end_of last) None commands) (from-here line number within)

-- it is passed over from any of its commands on
passes-either : (line : List ℕ) (last : Bool) (number : ℕ) → (number < length (commands_of line)) ⊎ (length (commands_of line) ≤ number) →
    behind_command line last number (command_at line number).piped ≡ runs_from line last number None
passes-either line last number (inl within) = sym (passes-here line last number within)
passes-either line last number (inr past) =
    behind-last line last (number + 1) (if (command_at line number).piped then None else Some new_job) (omega arith) ∙ sym (behind-last line last number None past)

pub passes : (line : List ℕ) (last : Bool) (number : ℕ) → behind_command line last number (command_at line number).piped ≡ runs_from line last number None
passes line last number = passes-either line last number (cases_lt number (length (commands_of line)))

pub passes-piped : (line : List ℕ) (last : Bool) (number : ℕ) → IsThere line number → (command_at line number).piped ≡ true →
    runs_from line last number None ≡ runs_from line last (number + 1) None
passes-piped line last number within is_piped = passes-here line last number within ∙ ap (behind_command line last number) is_piped

pub passes-last : (line : List ℕ) (last : Bool) (number : ℕ) → IsThere line number → (command_at line number).piped ≡ false →
    runs_from line last (number + 1) (Some new_job) ≡ runs_from line last number None
passes-last line last number within is_last = sym (passes-here line last number within ∙ ap (behind_command line last number) is_last)

-- ---- as the code has them

pub command_told : (line : List ℕ) (items : List Command) (number : ℕ) (d : Command) → commands_of line ≡ map asked_by items → number < length items →
    command_at line number ≡ asked_by (get_or items number d)
unfolding command_at
command_told line items number d told within =
    ap (λ (commands : List Asked). get_or commands number nothing_asked) told ∙ get_or-map asked_by items number d nothing_asked within
