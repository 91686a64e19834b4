use Rattle.std.proofs.Common.{◌≡◌, Ok, map, rules, ◌∙◌}
use borrow.Author.Tests.{tests}
use Rattle.std.specs.declared.alloc.AllocError.{AllocError}
use Rattle.std.proofs.lemmas.Iterator.{YieldsList-from_slice, YieldsList-from_map_by}
use Rattle.std.proofs.lemmas.Iterator.Consumers.{map_from_collect, YieldsList-at}
use Rattle.jos_cli.proofs.TextsRead.{texts_in_words}
use Rattle.jos_cli.proofs.running.arguments_of.Goals as goal

pub returns : goal.returns
returns c =
    let texts : map (λ w. w.now) c.in_ok-collect.field-0.items ≡ map (λ word. word.text.now) c.args.words.now =
    map_from_collect {E = AllocError} (Ok c.in_ok-collect.field-0) c.in_ok-collect.ensures.ran (YieldsList-from_map_by _ (λ w. w.now) (λ word. word.text.now)
    (YieldsList-at c.map.ensures.source (YieldsList-from_slice c.args.words.now c.iter.ensures.rest))
    c.map.ensures.closure (λ x r q k. search (rules, tests))) in
    texts ∙ texts_in_words c.args.words.now
