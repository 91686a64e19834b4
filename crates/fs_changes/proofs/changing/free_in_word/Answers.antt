use Rattle.std.proofs.Common.{◌≡◌, ◌∙◌, ◌+◌, ℕ, true, false, ap, arith, rules}
use Rattle.fs_changes.specs.ChangePlans.{is_free_bit}
use Rattle.fs_changes.proofs.Bits.{free_all, free_below, free_more, free_none, free_same}
use Rattle.fs_changes.proofs.changing.free_in_word.Goals as goal
use Rattle.fs_changes.proofs.changing.free_in_word.Goals.{then-is_free_bit, else-is_free_bit}

pub loop-k-init : goal.loop-k-init
loop-k-init c = record { free = free_none c.args.count c.args.word c.args.bits; few = omega arith }

pub loop-k-preserved : goal.loop-k-preserved
loop-k-preserved c = elim c.if-is_free_bit.branch [
  | then-is_free_bit w ↦
      let more = w.free-is in
      let few = c.loop-k.invariant.few in
      let is : is_free_bit c.args.count c.args.word c.args.bits c.loop-k.k ≡ true = search rules in
      record {
        free = more ∙ ap (λ (n : ℕ). n + 1) c.loop-k.invariant.free ∙ free_more c.args.count c.args.word c.args.bits c.loop-k.k is;
        few = omega (arith, more, few);
      }
  | else-is_free_bit w ↦
      let more = w.free-is in
      let few = c.loop-k.invariant.few in
      let is : is_free_bit c.args.count c.args.word c.args.bits c.loop-k.k ≡ false = search rules in
      record {
        free = more ∙ c.loop-k.invariant.free ∙ free_same c.args.count c.args.word c.args.bits c.loop-k.k is;
        few = omega (arith, more, few);
      }
]

pub returns-clause-is : goal.returns-clause-is
returns-clause-is c =
    let last = c.loop-k-test.false in
    let end = c.loop-k.auto.k-end in
    let all : c.loop-k.k ≡ 32 = omega (arith, last, end) in
    c.loop-k.invariant.free ∙ ap (λ (k : ℕ). free_below c.args.count c.args.word c.args.bits k) all ∙ free_all c.args.count c.args.word c.args.bits
