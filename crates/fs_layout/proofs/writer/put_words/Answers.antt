use Rattle.std.proofs.Common.{◌≡◌, ◌+◌, ◌*◌, ◌∙◌, ℕ, List, ◌++◌, length, take, get_or, refl, ap, arith, append_assoc, add-zero}
use Rattle.std.specs.Int.{w32, to_le_bytes}
use Rattle.std.proofs.lemmas.List.{append-nil}
use Rattle.jos_base.specs.TrapFrames.{bytes_of_words}
use Rattle.fs_layout.proofs.Written.{words-more}
use Rattle.fs_layout.proofs.writer.put_words.Goals as goal
use Rattle.jos_base.proofs.WordBytes.{bytes_of_words-nil}

pub loop-place-init : goal.loop-place-init
loop-place-init c = rw (bytes_of_words-nil, append-nil (take c.args.at c.args.out.now), add-zero) refl

pub loop-place-preserved : goal.loop-place-preserved
loop-place-preserved c =
    let word : c.to_le_bytes.result ≡ to_le_bytes w32 (get_or c.args.words.now c.loop-place.place 0) = c.to_le_bytes.ensures in
    let place : c.args.at + 4 * (c.loop-place.place + 1) ≡ c.args.at + 4 * c.loop-place.place + length c.to_le_bytes.result = omega (arith, ap length word) in
    ap (λ (n : ℕ). take n c.put_bytes.new.out) place
    ∙ c.put_bytes.ensures
    ∙ (λ i. c.loop-place.invariant i ++ word i)
    ∙ append_assoc (take c.args.at c.args.out.now) (bytes_of_words (take c.loop-place.place c.args.words.now)) (to_le_bytes w32 (get_or c.args.words.now c.loop-place.place 0))
    ∙ ap (λ (l : List ℕ). take c.args.at c.args.out.now ++ l) (words-more c.args.words.now c.loop-place.place c.loop-place-test.true)
