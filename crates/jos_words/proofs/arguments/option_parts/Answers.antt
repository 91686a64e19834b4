use Rattle.std.proofs.Common.{◌≡◌, ◌∙◌, ℕ, ◌∷◌, List, Some, None, refl, sym, ap, arith}
use Rattle.std.proofs.lemmas.Str.Pattern.{split_parts}
use Rattle.clap.proofs.CutLemmas.{Lacks, list_any-Lacks, before_first-Lacks}
use Rattle.jos_words.specs.Arguments.{cut_at_equals}
use Rattle.jos_words.proofs.arguments.option_parts.Goals as goal

without_equals : (text : List ℕ) → Lacks 61 text → cut_at_equals text ≡ (text, None)
without_equals text lacks = rw (list_any-Lacks 61 text lacks, before_first-Lacks 61 text lacks) refl

pub returns-in-None : goal.returns-in-None
returns-in-None c =
    let parts = split_parts 61 c.in_ok-text.text.now c.split_once.result c.split_once.ensures.cases (omega arith) in
    let lacks : Lacks 61 c.in_ok-text.text.now = rw c.in-None.is at parts in
    let word_is : c.args.word.now ≡ 45 ∷ 45 ∷ c.in_ok-text.text.now = c.in_ok-text.ensures.cases.1.1 ∙ ap (λ (r : List ℕ). 45 ∷ 45 ∷ r) (sym c.in_ok-text.ensures.cases.2) in
    rw word_is (ap (λ p. Some p) (sym (without_equals c.in_ok-text.text.now lacks)))
