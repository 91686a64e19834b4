use Rattle.std.proofs.Common.{◌≡◌, ◌∙◌, true, false, Bool, refl}
use Rattle.jos_words.specs.ClapCommands.{clap_takes}
use Rattle.jos_words.proofs.clap_commands.ask_clap.Goals as goal

false_if : (b : Bool) → (b ≡ true → ⊥) → b ≡ false
false_if true h = absurd (h refl)
false_if false h = refl

pub returns : goal.returns
unfolding clap_takes
returns c = record { usage = λ e. false_if _ (λ t. c.in_default.not-OutOfMemory (c.kind.ensures ∙ c.in-Err.ensures.passes t)) }
