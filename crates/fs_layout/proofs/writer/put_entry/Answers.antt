use Rattle.std.proofs.Common.{◌≡◌, ◌+◌, ◌-◌, ◌*◌, ◌∙◌, ℕ, [], ◌∷◌, ◌++◌, length, take, ap, arith, rules}
use Rattle.jos_base.specs.TrapFrames.{bytes_of_words}
use Rattle.fs_layout.specs.declared.numbers.TheConstants.{RECORDSIZE, MAXNAMELEN, NDIRECT, SIZE_AT, DIRECT_AT, INDIRECT_AT, PADDING_AT}
use Rattle.fs_layout.specs.Layout.{zeros, entry_bytes}
use Rattle.fs_layout.proofs.Written.{five}
use Rattle.fs_layout.proofs.writer.put_entry.Goals as goal

pub returns-clause-bytes : goal.returns-clause-bytes
unfolding entry_bytes
returns-clause-bytes c =
    let name : length c.args.entry.now.name ≡ MAXNAMELEN = search rules in
    let direct : length c.args.entry.now.direct ≡ NDIRECT = search rules in
    let padding : (c.args.at + RECORDSIZE) - (c.args.at + PADDING_AT) ≡ RECORDSIZE - PADDING_AT = omega arith in
    let to_size : c.args.at + SIZE_AT ≡ c.args.at + length c.args.entry.now.name = omega (arith, name) in
    let to_indirect : c.args.at + INDIRECT_AT ≡ c.args.at + DIRECT_AT + 4 * length c.args.entry.now.direct = omega (arith, direct) in
    five (take c.args.at c.args.out.now) c.args.entry.now.name (bytes_of_words (c.args.entry.now.size ∷ c.args.entry.now.kind ∷ [])) (bytes_of_words c.args.entry.now.direct) (bytes_of_words (c.args.entry.now.indirect ∷ [])) (zeros (RECORDSIZE - PADDING_AT))
    (take (c.args.at + SIZE_AT) c.put_bytes.new.out) (take (c.args.at + DIRECT_AT) c.put_words.new.out) (take (c.args.at + INDIRECT_AT) c.put_words-2.new.out) (take (c.args.at + PADDING_AT) c.put_words-3.new.out) (take (c.args.at + RECORDSIZE) c.put_zeros.new.out)
    (ap (λ (n : ℕ). take n c.put_bytes.new.out) to_size ∙ c.put_bytes.ensures)
    (ap (λ (n : ℕ). take n c.put_words.new.out) (omega arith) ∙ c.put_words.ensures.bytes)
    (ap (λ (n : ℕ). take n c.put_words-2.new.out) to_indirect ∙ c.put_words-2.ensures.bytes)
    (ap (λ (n : ℕ). take n c.put_words-3.new.out) (omega arith) ∙ c.put_words-3.ensures.bytes)
    (c.put_zeros.ensures ∙ ap (λ (n : ℕ). take (c.args.at + PADDING_AT) c.put_words-3.new.out ++ zeros n) padding)

pub returns-clause-fits : goal.returns-clause-fits
returns-clause-fits c = record {
  name = search rules;
  size = c.put_words.ensures.fit 0;
  kind = c.put_words.ensures.fit 1;
  direct = search rules;
  each = c.put_words-2.ensures.fit;
  indirect = c.put_words-3.ensures.fit 0;
}
