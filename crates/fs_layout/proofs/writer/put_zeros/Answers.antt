use Rattle.std.proofs.Common.{◌≡◌, ◌-◌, ◌∙◌, ℕ, List, ◌++◌, length, take, drop, ap, arith, length-take, length-drop}
use Rattle.std.specs.Prelude.{replicate}
use Rattle.std.proofs.lemmas.List.{length-replicate}
use Rattle.std.proofs.lemmas.Slice.{take-put_mid}
use Rattle.fs_layout.specs.Layout.{zeros}
use Rattle.fs_layout.proofs.writer.put_zeros.Goals as goal

pub returns : goal.returns
unfolding zeros
returns c =
    let wide : length (take (c.args.to - c.args.from) (drop c.args.from c.args.out.now)) ≡ c.args.to - c.args.from =
    omega (arith, length-take (c.args.to - c.args.from) (drop c.args.from c.args.out.now), length-drop c.args.from c.args.out.now) in
    let filled : c.fill.new.self ≡ replicate (c.args.to - c.args.from) 0 = c.fill.ensures.after (λ y e. e) ∙ ap (λ (n : ℕ). replicate n 0) wide in
    take-put_mid c.args.from (c.args.to - c.args.from) c.args.out.now c.fill.new.self c.args.to (omega (arith, ap length filled, length-replicate {A = ℕ} (c.args.to - c.args.from) 0)) (omega arith)
    ∙ ap (λ (l : List ℕ). take c.args.from c.args.out.now ++ l) filled
