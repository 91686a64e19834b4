-- A command with one option more.
use Rattle.std.proofs.Common.{◌≡◌, ◌∙◌, ℕ, ◌+◌, ◌<◌, List, [], ◌∷◌, ◌++◌, length, get_or, take, map, sym, ap}
use Rattle.std.proofs.lemmas.List.{take_more, map-append}
use Rattle.std.specs.Borrow.{Bor}
use Rattle.clap.specs.Words.{App, with_rule}
use Rattle.jos_words.specs.ClapCommands.{option_rule, app_with}

pub one_more : (app : App) (name : List ℕ) (options : List (Bor (List ℕ))) (i : ℕ) (d : Bor (List ℕ)) → i < length options
    → app ≡ app_with name (map (λ known. option_rule known.now) (take i options))
    → with_rule app (option_rule (get_or options i d).now) ≡ app_with name (map (λ known. option_rule known.now) (take (i + 1) options))
one_more app name options i d below is =
    let rule = λ (known : Bor (List ℕ)). option_rule known.now in
    let rules : map rule (take (i + 1) options) ≡ map rule (take i options) ++ rule (get_or options i d) ∷ [] =
    ap (map rule) (take_more options i d below) ∙ map-append rule (take i options) (get_or options i d ∷ []) in
    ap (λ (a : App). with_rule a (rule (get_or options i d))) is ∙ ap (app_with name) (sym rules)
