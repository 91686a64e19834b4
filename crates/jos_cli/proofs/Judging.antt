-- From what is judged to what is expected.
use Rattle.std.proofs.Common.{◌≡◌, ℕ, List, length, Option, Ok, refl, sym, subst, ◌∙◌, arith}
use Rattle.std.proofs.Math.Seq.{take-length}
use Rattle.jos_host.specs.Frames.{Around}
use Rattle.jos_host.specs.Gains.{Gains, GainsPart}
use Rattle.jos_words.specs.Commands.{Exo}
use Rattle.jos_cli.specs.Limits.{numbers_of_exo, limit_of_words}
use Rattle.jos_cli.specs.Found.{Found}
use Rattle.jos_cli.specs.Answer.{Judged, Gathered, gathered, Expected, expected_if, expected_of_images, expected_of_exo}
use Rattle.jos_cli.specs.Kinds.{Kind, answered, cut_off, no_memory, AnswersBy}
use Rattle.jos_cli.specs.Stages.{RefusesBy}
use Rattle.jos_kernel.proofs.ToldBytes.{gains_none}

-- ---- a part of what is expected

all_of : (stream : Around (Option (List ℕ))) (bytes : List ℕ) → Gains stream bytes → GainsPart stream bytes
all_of stream bytes h =
    (length bytes, omega arith, subst (λ (b : List ℕ). Gains stream b) (sym (take-length bytes)) h)

pub part_of : (e : Expected) (kind : Kind) (console : Around (Option (List ℕ))) → AnswersBy e kind console → GainsPart console e.console
part_of e (answered answer) console h = all_of console e.console h.1
part_of e (cut_off stopped) console h = h
part_of e no_memory console h = (0, omega arith, h ∙ gains_none console.before)

-- ---- one after the other

-- it is refused, and nothing was written
pub refuses : {X : Type 0} (judged : Judged X) (next : X → Expected) (kind : Kind) (console : Around (Option (List ℕ))) →
    RefusesBy judged kind → console.after ≡ console.before → AnswersBy (expected_if judged next) kind console
refuses {X = X} judged next (answered answer) console h same =
    subst (λ (j : Judged X). AnswersBy (expected_if j next) (answered answer) console) (sym h) (refl, same ∙ gains_none console.before)
refuses judged next (cut_off stopped) console h same = (0, omega arith, same ∙ gains_none console.before)
refuses judged next no_memory console h same = same

-- it is there, and the rest is answered
pub goes_on : {X : Type 0} (judged : Judged X) (next : X → Expected) (x : X) (kind : Kind) (console : Around (Option (List ℕ))) →
    judged ≡ Ok x → AnswersBy (next x) kind console → AnswersBy (expected_if judged next) kind console
goes_on {X = X} judged next x kind console h answer =
    subst (λ (j : Judged X). AnswersBy (expected_if j next) kind console) (sym h) answer

-- ---- the images of `exo`

module _ (e : Exo) (found : Found) (input : List ℕ) (kind : Kind) (console : Around (Option (List ℕ))) where
  pub exo_refused : RefusesBy (gathered (limit_of_words e) found input) kind → console.after ≡ console.before → AnswersBy (expected_of_exo e found input) kind console
  unfolding expected_of_exo
  exo_refused h same = refuses (gathered (limit_of_words e) found input) (expected_of_images (numbers_of_exo e)) kind console h same

  pub exo_goes_on : (read : Gathered) → gathered (limit_of_words e) found input ≡ Ok read → AnswersBy (expected_of_images (numbers_of_exo e) read) kind console →
      AnswersBy (expected_of_exo e found input) kind console
  unfolding expected_of_exo
  exo_goes_on read h answer = goes_on (gathered (limit_of_words e) found input) (expected_of_images (numbers_of_exo e)) read kind console h answer
