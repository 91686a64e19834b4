use Rattle.std.proofs.Common.{map, drop, refl, ap, ◌∙◌}
use Rattle.std.specs.Prelude.{string_bytes}
use Rattle.jos_host.specs.Frames.{around}
use Rattle.jos_cli.specs.Commands.{command_of}
use Rattle.jos_cli.proofs.Asking.{asks_no_more}
use Rattle.jos_cli.proofs.Leaving.{left_no_memory}
use Rattle.jos_cli.proofs.Generated.{memory_accepted}
use Rattle.jos_cli.proofs.Tops.{command_cause}
use Rattle.jos_cli.proofs.texts.answer_texts.Goals as goal

pub returns-in_default-clause-asked : goal.returns-in_default-clause-asked
returns-in_default-clause-asked g c = (g.H.Host.asked c.args.host.now, asks_no_more (command_of _) _ _ refl, c.refuse_words.ensures.asked)

pub returns-in_default-words_of-clause-asked : goal.returns-in_default-words_of-clause-asked
returns-in_default-words_of-clause-asked g c = (g.H.Host.asked c.args.host.now, asks_no_more (command_of _) _ _ refl, c.refuse_words-in_default-words_of.ensures.asked)

pub returns-in_default-clause-input : goal.returns-in_default-clause-input
returns-in_default-clause-input g c =
    left_no_memory (command_of _) c.refuse_words.result _ _ c.refuse_words.ensures.memory c.refuse_words.ensures.input

pub returns-in_default-words_of-clause-input : goal.returns-in_default-words_of-clause-input
returns-in_default-words_of-clause-input g c =
    left_no_memory (command_of _) c.refuse_words-in_default-words_of.result _ _ c.refuse_words-in_default-words_of.ensures.memory
    c.refuse_words-in_default-words_of.ensures.input

pub returns-clause-complete : goal.returns-clause-complete
returns-clause-complete g c files input e f i is can calm =
    c.top.ensures.complete files input e f i
    (ap command_of (ap (map (λ w. w.now)) c.deref-2.ensures.value ∙ c.in-Ok-words_of.ensures ∙ ap (λ l. drop 1 (map (λ t. string_bytes t) l)) c.deref.ensures.value ∙ c.in-Ok.ensures) ∙ is)
    can calm

pub returns-clause-disk_made : goal.returns-clause-disk_made
returns-clause-disk_made g c files m f is can calm =
    c.top.ensures.disk_made files m f
    (ap command_of (ap (map (λ w. w.now)) c.deref-2.ensures.value ∙ c.in-Ok-words_of.ensures ∙ ap (λ l. drop 1 (map (λ t. string_bytes t) l)) c.deref.ensures.value ∙ c.in-Ok.ensures) ∙ is)
    can calm

pub returns-clause-listed : goal.returns-clause-listed
returns-clause-listed g c files l f is can calm =
    c.top.ensures.listed files l f
    (ap command_of (ap (map (λ w. w.now)) c.deref-2.ensures.value ∙ c.in-Ok-words_of.ensures ∙ ap (λ l. drop 1 (map (λ t. string_bytes t) l)) c.deref.ensures.value ∙ c.in-Ok.ensures) ∙ is)
    can calm

pub returns-clause-printed : goal.returns-clause-printed
returns-clause-printed g c files one f is can calm =
    c.top.ensures.printed files one f
    (ap command_of (ap (map (λ w. w.now)) c.deref-2.ensures.value ∙ c.in-Ok-words_of.ensures ∙ ap (λ l. drop 1 (map (λ t. string_bytes t) l)) c.deref.ensures.value ∙ c.in-Ok.ensures) ∙ is)
    can calm

pub returns-clause-ran : goal.returns-clause-ran
returns-clause-ran g c files input r f i is can calm =
    c.top.ensures.ran files input r f i
    (ap command_of (ap (map (λ w. w.now)) c.deref-2.ensures.value ∙ c.in-Ok-words_of.ensures ∙ ap (λ l. drop 1 (map (λ t. string_bytes t) l)) c.deref.ensures.value ∙ c.in-Ok.ensures) ∙ is)
    can calm

pub returns-clause-generated : goal.returns-clause-generated
returns-clause-generated g c files input one f i is can calm =
    c.top.ensures.generated files input one f i
    (ap command_of (ap (map (λ w. w.now)) c.deref-2.ensures.value ∙ c.in-Ok-words_of.ensures ∙ ap (λ l. drop 1 (map (λ t. string_bytes t) l)) c.deref.ensures.value ∙ c.in-Ok.ensures) ∙ is)
    can calm

pub returns-in_default-clause-cause : goal.returns-in_default-clause-cause
returns-in_default-clause-cause g c =
    command_cause (command_of _) (around g.H.Host.faults c.args.host.now c.refuse_words.new.host) c.refuse_words.result c.refuse_words.ensures.cause

pub returns-in_default-words_of-clause-cause : goal.returns-in_default-words_of-clause-cause
returns-in_default-words_of-clause-cause g c =
    command_cause (command_of _) (around g.H.Host.faults c.args.host.now c.refuse_words-in_default-words_of.new.host) c.refuse_words-in_default-words_of.result
    c.refuse_words-in_default-words_of.ensures.cause

pub returns-in_default-clause-accepted : goal.returns-in_default-clause-accepted
returns-in_default-clause-accepted g c files one f is none = memory_accepted c.refuse_words.result c.refuse_words.ensures.memory

pub returns-in_default-words_of-clause-accepted : goal.returns-in_default-words_of-clause-accepted
returns-in_default-words_of-clause-accepted g c files one f is none =
    memory_accepted c.refuse_words-in_default-words_of.result c.refuse_words-in_default-words_of.ensures.memory

pub returns-clause-accepted : goal.returns-clause-accepted
returns-clause-accepted g c files one f is none =
    c.top.ensures.accepted files one f
    (ap command_of (ap (map (λ w. w.now)) c.deref-2.ensures.value ∙ c.in-Ok-words_of.ensures ∙ ap (λ l. drop 1 (map (λ t. string_bytes t) l)) c.deref.ensures.value ∙ c.in-Ok.ensures) ∙ is)
    none
