-- The bytes that stat tells of the console: its name, and zeros behind it.
use Rattle.std.proofs.Common.{◌≡◌, ◌∙◌, ◌-◌, ◌++◌, ◌<◌, ◌≤◌, ℕ, zero, suc, List, [], ◌∷◌, length, refl, sym, ap, subst, arith}
use Rattle.std.specs.Prelude.{replicate, slice_index}
use Rattle.std.proofs.lemmas.List.{get_or-append_right, get_or_append_left}
use Rattle.fs_layout.specs.FileActs.{stat_bytes}
use Rattle.jos_base.specs.TrapFrames.{bytes_of_words}
use Rattle.lib_os.specs.declared.numbers.TheConstants.{STAT_SIZE}
use Rattle.lib_os.specs.FileServices.{terminal_stat}
use Rattle.lib_os.specs.Rows.{AreBytes}

abbrev name : List ℕ
name = 60 ∷ 99 ∷ 111 ∷ 110 ∷ 115 ∷ 62 ∷ []

abbrev behind : List ℕ
behind = replicate 130 0

terminal_is : terminal_stat ≡ name ++ behind
unfolding stat_bytes bytes_of_words
terminal_is = refl

pub terminal_letter : (at : ℕ) → at < 6 → slice_index name at ≡ slice_index terminal_stat at
terminal_letter at below =
    sym (get_or_append_left name behind 0 at (omega (arith, below))) ∙ sym (ap (λ (l : List ℕ). slice_index l at) terminal_is)

zeros : (n k : ℕ) → slice_index (replicate n 0) k ≡ 0
zeros zero k = refl
zeros (suc n) zero = refl
zeros (suc n) (suc k) = zeros n k

pub terminal_zero : (at : ℕ) → 6 ≤ at → 0 ≡ slice_index terminal_stat at
terminal_zero at above =
    sym (zeros 130 (at - 6)) ∙ sym (get_or-append_right name behind 6 at 0 refl above)
    ∙ sym (ap (λ (l : List ℕ). slice_index l at) terminal_is)

-- how many they are
pub terminal_length : length terminal_stat ≡ STAT_SIZE
unfolding stat_bytes bytes_of_words
terminal_length = refl

-- and each is one
pub terminal_small : AreBytes terminal_stat
terminal_small zero = subst (λ (byte : ℕ). byte < 256) (terminal_letter 0 (omega arith)) (omega arith)
terminal_small (suc zero) = subst (λ (byte : ℕ). byte < 256) (terminal_letter 1 (omega arith)) (omega arith)
terminal_small (suc (suc zero)) = subst (λ (byte : ℕ). byte < 256) (terminal_letter 2 (omega arith)) (omega arith)
terminal_small (suc (suc (suc zero))) = subst (λ (byte : ℕ). byte < 256) (terminal_letter 3 (omega arith)) (omega arith)
terminal_small (suc (suc (suc (suc zero)))) = subst (λ (byte : ℕ). byte < 256) (terminal_letter 4 (omega arith)) (omega arith)
terminal_small (suc (suc (suc (suc (suc zero))))) = subst (λ (byte : ℕ). byte < 256) (terminal_letter 5 (omega arith)) (omega arith)
terminal_small (suc (suc (suc (suc (suc (suc i)))))) =
    subst (λ (byte : ℕ). byte < 256) (terminal_zero (suc (suc (suc (suc (suc (suc i)))))) (omega arith)) (omega arith)
