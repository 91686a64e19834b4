-- The bytes that stat tells of a pipe: its name and zeros behind it, how many bytes it holds, and a kind of 0.
use Rattle.std.proofs.Common.{◌≡◌, ◌∙◌, ◌-◌, ◌++◌, ◌<◌, ◌≤◌, ℕ, zero, suc, List, [], ◌∷◌, refl, sym, ap, arith}
use Rattle.std.specs.Int.{w32, to_le_bytes}
use Rattle.std.specs.Prelude.{replicate, slice_index}
use Rattle.std.proofs.lemmas.List.{get_or-append_right, get_or_append_left}
use Rattle.fs_layout.specs.FileActs.{stat_bytes}
use Rattle.jos_base.specs.TrapFrames.{bytes_of_words}
use Rattle.lib_read.specs.StatStages.{pipe_stat}

abbrev name : List ℕ
name = 60 ∷ 112 ∷ 105 ∷ 112 ∷ 101 ∷ 62 ∷ []

abbrev between : List ℕ
between = replicate 122 0

abbrev size : ℕ → List ℕ
size held = to_le_bytes w32 held

abbrev kind : List ℕ
kind = replicate 4 0

pipe_is : (held : ℕ) → pipe_stat held ≡ name ++ (between ++ (size held ++ kind))
unfolding stat_bytes bytes_of_words
pipe_is held = refl

told : (held at byte : ℕ) → slice_index (name ++ (between ++ (size held ++ kind))) at ≡ byte → byte ≡ slice_index (pipe_stat held) at
told held at byte is = sym is ∙ sym (ap (λ (l : List ℕ). slice_index l at) (pipe_is held))

zeros : (n k : ℕ) → slice_index (replicate n 0) k ≡ 0
zeros zero k = refl
zeros (suc n) zero = refl
zeros (suc n) (suc k) = zeros n k

pub pipe_letter : (held at : ℕ) → at < 6 → slice_index name at ≡ slice_index (pipe_stat held) at
pipe_letter held at below =
    told held at (slice_index name at) (get_or_append_left name (between ++ (size held ++ kind)) 0 at (omega (arith, below)))

-- behind the name
behind_name : (held at : ℕ) → 6 ≤ at → slice_index (name ++ (between ++ (size held ++ kind))) at ≡ slice_index (between ++ (size held ++ kind)) (at - 6)
behind_name held at above = get_or-append_right name (between ++ (size held ++ kind)) 6 at 0 refl above

pub pipe_zero : (held at : ℕ) → 6 ≤ at → at < 128 → 0 ≡ slice_index (pipe_stat held) at
pipe_zero held at above below =
    told held at 0
    (behind_name held at above
    ∙ get_or_append_left between (size held ++ kind) 0 (at - 6) (let near : at - 6 < 122 = omega (arith, above, below) in near)
    ∙ zeros 122 (at - 6))

-- behind the zeros
behind_zeros : (held at : ℕ) → 128 ≤ at → slice_index (name ++ (between ++ (size held ++ kind))) at ≡ slice_index (size held ++ kind) (at - 128)
behind_zeros held at above =
    behind_name held at (omega (arith, above))
    ∙ get_or-append_right between (size held ++ kind) 122 (at - 6) 0 refl (omega (arith, above))
    ∙ ap (λ (k : ℕ). slice_index (size held ++ kind) k) (let same : at - 6 - 122 ≡ at - 128 = omega arith in same)

pub pipe_size : (held at : ℕ) → 128 ≤ at → at < 132 → slice_index (size held) (at - 128) ≡ slice_index (pipe_stat held) at
pipe_size held at above below =
    told held at (slice_index (size held) (at - 128))
    (behind_zeros held at above
    ∙ get_or_append_left (size held) kind 0 (at - 128) (let near : at - 128 < 4 = omega (arith, above, below) in near))

pub pipe_kind : (held at : ℕ) → 132 ≤ at → 0 ≡ slice_index (pipe_stat held) at
pipe_kind held at above =
    told held at 0
    (behind_zeros held at (omega (arith, above))
    ∙ get_or-append_right (size held) kind 4 (at - 128) 0 refl (omega (arith, above))
    ∙ zeros 4 (at - 128 - 4))
