use Rattle.std.proofs.Common.{◌≡◌, ◌∙◌, ◌+◌, ◌-◌, ℕ, List, [], ◌∷◌, take, sym, ap, arith}
use Rattle.std.specs.Prelude.{slice_index}
use Rattle.std.proofs.lemmas.List.{take_all}
use Rattle.jos_base.specs.TrapFrames.{bytes_of_words}
use Rattle.fs_layout.specs.declared.numbers.TheConstants.{BLKSIZE, RECORDSIZE, ROOT_AT, FS_MAGIC}
use Rattle.fs_layout.specs.Layout.{zeros, entry_bytes, super_bytes, super_at}
use Rattle.fs_layout.proofs.Written.{three, stands-whole, super-back}
use Rattle.fs_layout.proofs.writer.encode_super.Goals as goal

bytes_are : (c : goal.After-put_zeros) → c.put_zeros.new.out ≡ super_bytes c.args.block.now
unfolding super_bytes
bytes_are c =
    three (bytes_of_words (FS_MAGIC ∷ c.args.block.now.blocks ∷ [])) (entry_bytes c.args.block.now.root) (zeros (BLKSIZE - (ROOT_AT + RECORDSIZE)))
    (take ROOT_AT c.put_words.new.out) (take (ROOT_AT + RECORDSIZE) c.put_entry.new.out) c.put_zeros.new.out
    c.put_words.ensures.bytes c.put_entry.ensures.bytes
    (sym (take_all BLKSIZE c.put_zeros.new.out (omega arith)) ∙ c.put_zeros.ensures)

pub returns-clause-bytes : goal.returns-clause-bytes
returns-clause-bytes c = bytes_are c

pub returns-clause-back : goal.returns-clause-back
returns-clause-back c =
    ap (λ (l : List ℕ). super_at (slice_index l) 0) (bytes_are c)
    ∙ super-back (slice_index (super_bytes c.args.block.now)) 0 c.args.block.now (c.put_words.ensures.fit 1) c.put_entry.ensures.fits (stands-whole (super_bytes c.args.block.now))
