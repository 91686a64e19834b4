use Rattle.std.proofs.Common.{◌≡◌, ◌∙◌, ℕ, List, sym, ap, arith}
use Rattle.std.specs.Prelude.{slice_index}
use Rattle.std.proofs.lemmas.List.{take_all}
use Rattle.fs_layout.specs.declared.numbers.TheConstants.{RECORDSIZE}
use Rattle.fs_layout.specs.Layout.{entry_bytes, file_entry_at}
use Rattle.fs_layout.proofs.Written.{stands-whole, entry-back}
use Rattle.fs_layout.proofs.writer.encode_entry.Goals as goal

bytes_are : (c : goal.After-put_entry) → c.put_entry.new.out ≡ entry_bytes c.args.entry.now
bytes_are c = sym (take_all RECORDSIZE c.put_entry.new.out (omega arith)) ∙ c.put_entry.ensures.bytes

pub returns-clause-bytes : goal.returns-clause-bytes
returns-clause-bytes c = bytes_are c

pub returns-clause-back : goal.returns-clause-back
returns-clause-back c =
    ap (λ (l : List ℕ). file_entry_at (slice_index l) 0) (bytes_are c)
    ∙ entry-back (slice_index (entry_bytes c.args.entry.now)) 0 c.args.entry.now c.put_entry.ensures.fits (stands-whole (entry_bytes c.args.entry.now))
