use Rattle.std.proofs.Common.{◌≡◌, ◌∙◌, ◌≤◌, ◌<◌, ◌+◌, ◌*◌, ℕ, true, false, sym, ap, arith, rules}
use Rattle.fs_layout.specs.DiskImage.{first_data_block}
use Rattle.fs_changes.specs.ChangePlans.{is_free_bit}
use Rattle.fs_changes.proofs.Bits.{lowest_all, lowest_from, lowest_here, lowest_none, lowest_not_first, lowest_not_free}
use Rattle.fs_changes.proofs.changing.lowest_in_word.Goals as goal
use Rattle.fs_changes.proofs.changing.lowest_in_word.Goals.{else-is_free_bit-via-then-is_free_bit+else-first-word, else-is_free_bit-via-else-is_free_bit}

pub loop-k-init : goal.loop-k-init
loop-k-init c = lowest_all c.args.count c.args.word c.args.bits

pub returns-then-first-word-clause-is : goal.returns-then-first-word-clause-is
returns-then-first-word-clause-is c =
    let is : is_free_bit c.args.count c.args.word c.args.bits c.loop-k.k ≡ true = search rules in
    let first : first_data_block c.args.count ≤ 32 * c.args.word + c.loop-k.k = search rules in
    sym (c.loop-k.invariant ∙ lowest_here c.args.count c.args.word c.args.bits c.loop-k.k c.loop-k-test.true is first)

pub loop-k-preserved : goal.loop-k-preserved
loop-k-preserved c = elim c.else-is_free_bit.branch [
  | else-is_free_bit-via-then-is_free_bit+else-first-word w ↦
      let first : 32 * c.args.word + c.loop-k.k < first_data_block c.args.count = search rules in
      c.loop-k.invariant ∙ lowest_not_first c.args.count c.args.word c.args.bits c.loop-k.k c.loop-k-test.true first
  | else-is_free_bit-via-else-is_free_bit w ↦
      let is : is_free_bit c.args.count c.args.word c.args.bits c.loop-k.k ≡ false = search rules in
      c.loop-k.invariant ∙ lowest_not_free c.args.count c.args.word c.args.bits c.loop-k.k c.loop-k-test.true is
]

pub returns-clause-is : goal.returns-clause-is
returns-clause-is c =
    let last = c.loop-k-test.false in
    let end = c.loop-k.auto.k-end in
    let all : c.loop-k.k ≡ 32 = omega (arith, last, end) in
    sym (c.loop-k.invariant ∙ ap (λ (k : ℕ). lowest_from c.args.count c.args.word c.args.bits k) all ∙ lowest_none c.args.count c.args.word c.args.bits)
