use Rattle.std.proofs.Common.{◌≡◌, List, String, Global, Ok, map, take, drop, ap}
use Rattle.std.specs.Prelude.{string_bytes}
use Rattle.std.specs.declared.alloc.AllocError.{AllocError}
use Rattle.std.specs.Vec.Iter.{into_iter_items, into_iter_len}
use Rattle.std.proofs.lemmas.Iterator.{items_from_collect}
use Rattle.jos_cli.proofs.TextsRead.{left_yields}
use Rattle.jos_cli.proofs.texts.read_texts.Goals as goal

pub returns-in_ok-collect-in-Ok : goal.returns-in_ok-collect-in-Ok
returns-in_ok-collect-in-Ok c =
    let all : c.in_ok-collect-in-Ok.field-0.items ≡ take (into_iter_len c.in-Ok.arguments) (into_iter_items c.in-Ok.arguments) =
    items_from_collect {E = AllocError} (Ok c.in_ok-collect-in-Ok.field-0) c.in_ok-collect-in-Ok.ensures.ran (left_yields c.in-Ok.arguments) in
    rw c.in-Ok.is (ap (λ (l : List (String Global)). drop 1 (map (λ t. string_bytes t) l)) all)
