-- What stands behind the last slash of a text.
use Rattle.std.proofs.Common.{◌≡◌, ◌≢◌, ℕ, ◌<◌, suc, cond, List, [], ◌∷◌, ◌++◌, length, get_or, take, drop, Some, None, refl, sym, ap, ◌∙◌, arith}
use Rattle.std.proofs.Common.{take-append-drop}
use Rattle.std.proofs.lemmas.Bool.{ne_eqb}
use Rattle.std.proofs.lemmas.Str.Pattern.{NoCharPasses-char, drop_at_char}
use Rattle.std.specs.Str.Pattern.{RFindsChar}
use Rattle.fs_layout.specs.FileActs.{is_slash}
use Rattle.jos_cli.specs.Making.{behind_last_slash, file_name}

abbrev HasNoSlash : List ℕ → Type 0
HasNoSlash text = (i : ℕ) → i < length text → get_or text i 0 ≢ 47

without_slash : (name text : List ℕ) → HasNoSlash text → behind_last_slash name text ≡ name
unfolding behind_last_slash
without_slash name [] none = refl
without_slash name (byte ∷ rest) none =
    ap (λ b. behind_last_slash (cond b rest name) rest) (ne_eqb byte 47 (none 0 (omega arith)))
    ∙ without_slash name rest (λ i below. none (suc i) (omega (arith, below)))

behind_slash : (name before behind : List ℕ) → HasNoSlash behind → behind_last_slash name (before ++ 47 ∷ behind) ≡ behind
unfolding behind_last_slash
behind_slash name [] behind none = without_slash behind behind none
behind_slash name (byte ∷ before) behind none =
    behind_slash (cond (is_slash byte) (before ++ 47 ∷ behind) name) before behind none

-- the text has no slash
pub named_whole : (text : List ℕ) → RFindsChar 47 text None → text ≡ file_name text
named_whole text none = sym (without_slash text text (λ i below. NoCharPasses-char 47 text i none (omega arith) below))

-- the last slash is found
pub named_behind : (text name : List ℕ) (i j : ℕ) → RFindsChar 47 text (Some (i, j)) → name ≡ drop j text → name ≡ file_name text
named_behind text name i j finds is =
    let whole = sym (take-append-drop i text) ∙ ap (λ l. take i text ++ l) (drop_at_char 47 text i j finds.1 (omega arith)) in
    is
    ∙ sym (ap (behind_last_slash text) whole
    ∙ behind_slash text (take i text) (drop j text) (λ k below. NoCharPasses-char 47 (drop j text) k finds.0 (omega arith) below))
