use Rattle.std.proofs.Common.{◌≡◌, Ok, map, drop, rules, ◌∙◌}
use borrow.Author.Tests.{tests}
use Rattle.std.specs.Prelude.{string_bytes}
use Rattle.std.specs.declared.alloc.AllocError.{AllocError}
use Rattle.std.proofs.lemmas.Iterator.{YieldsList-from_slice, YieldsList-from_map_by}
use Rattle.std.proofs.lemmas.Iterator.Adapters.{YieldsList-from_skip}
use Rattle.std.proofs.lemmas.Iterator.Consumers.{map_from_collect, YieldsList-at}
use Rattle.jos_cli.proofs.TextsRead.{map_behind}
use Rattle.jos_cli.proofs.texts.words_of.Goals as goal

pub returns : goal.returns
returns c =
    let behind : map (λ w. w.now) c.in_ok-collect.field-0.items ≡ map (λ t. string_bytes t) (drop 1 c.args.texts.now) =
    map_from_collect {E = AllocError} (Ok c.in_ok-collect.field-0) c.in_ok-collect.ensures.ran (YieldsList-from_map_by _ (λ w. w.now) (λ t. string_bytes t)
    (YieldsList-at c.map.ensures.source (YieldsList-from_skip 1 (YieldsList-at c.skip.ensures.source (YieldsList-from_slice c.args.texts.now c.iter.ensures.rest)) c.skip.ensures.count))
    c.map.ensures.closure (λ x r q k. search (rules, tests))) in
    behind ∙ map_behind (λ t. string_bytes t) c.args.texts.now
