use Rattle.std.proofs.Common.{◌≡◌, ◌+◌, ◌≤◌, length, drop, arith}
use Rattle.fs_layout.specs.declared.numbers.TheConstants.{MAXBLOCKS, FTYPE_REG}
use Rattle.fs_layout.specs.Layout.{entry_bytes}
use Rattle.fs_make.specs.MakeFaults.{span_of}
use Rattle.fs_make.specs.MadeImage.{made_entry, files_entries}
use Rattle.fs_make.proofs.Appended.{part-more, part-last, entries-next, entries-end, file-room, room-next, size-small}
use Rattle.fs_make.proofs.nodes.push_files_entries.Goals as goal

-- this file has its blocks on the disk
room : (c : goal.After-file_size) → c.loop-file.block + span_of (length c.file-item.result.bytes) ≤ MAXBLOCKS
room c = file-room c.loop-file.block c.args.first c.loop-file.file-index c.args.files.now c.file-item.result c.loop-file-test.true c.file-item.is c.loop-file.invariant.room c.requires.blocks

pub push_file_entry-requires-clause-blocks : goal.push_file_entry-requires-clause-blocks
push_file_entry-requires-clause-blocks c = file-room c.loop-file.block c.args.first c.loop-file.file-index c.args.files.now c.file-item.result c.loop-file-test.true c.file-item.is c.loop-file.invariant.room c.requires.blocks

pub span_of-requires : goal.span_of-requires
span_of-requires c =
    let here : span_of (length c.file-item.result.bytes) ≤ MAXBLOCKS = omega (arith, room c) in
    omega (arith, size-small (length c.file-item.result.bytes) here, c.file_size.ensures)

pub overflow_cast-block : goal.overflow_cast-block
overflow_cast-block c =
    let here = file-room c.loop-file.block c.args.first c.loop-file.file-index c.args.files.now c.file-item.result c.loop-file-test.true c.file-item.is c.loop-file.invariant.room c.requires.blocks in
    let span : c.span_of.result ≡ span_of (length c.file-item.result.bytes) = rw (← c.file_size.ensures) c.span_of.ensures in
    omega (arith, here, span)

pub overflow_add-block : goal.overflow_add-block
overflow_add-block c =
    let here = file-room c.loop-file.block c.args.first c.loop-file.file-index c.args.files.now c.file-item.result c.loop-file-test.true c.file-item.is c.loop-file.invariant.room c.requires.blocks in
    let span : c.span_of.result ≡ span_of (length c.file-item.result.bytes) = rw (← c.file_size.ensures) c.span_of.ensures in
    omega (arith, here, span)

pub loop-file-preserved : goal.loop-file-preserved
loop-file-preserved c =
    let span : c.span_of.result ≡ span_of (length c.file-item.result.bytes) = rw (← c.file_size.ensures) c.span_of.ensures in
    rw span record {
      all = part-more c.loop-file.image.items c.push_file_entry.new.image.items (entry_bytes (made_entry c.file-item.result.name (length c.file-item.result.bytes) FTYPE_REG c.loop-file.block))
          (files_entries c.loop-file.block (drop c.loop-file.file-index c.args.files.now)) (files_entries (c.loop-file.block + span_of (length c.file-item.result.bytes)) (drop (c.loop-file.file-index + 1) c.args.files.now)) _
          c.in_ok-push_file_entry.ensures.bytes (entries-next c.loop-file.block c.args.files.now c.loop-file.file-index c.file-item.result c.loop-file-test.true c.file-item.is) c.loop-file.invariant.all;
      long = omega (arith, c.in_ok-push_file_entry.ensures.len, c.loop-file.invariant.long);
      room = room-next c.loop-file.block c.args.first c.loop-file.file-index c.args.files.now c.file-item.result c.loop-file-test.true c.file-item.is c.loop-file.invariant.room;
    }

pub returns-clause-bytes : goal.returns-clause-bytes
returns-clause-bytes c = part-last c.loop-file.image.items (files_entries c.loop-file.block (drop c.loop-file.file-index c.args.files.now)) _ (entries-end c.loop-file.block c.args.files.now c.loop-file.file-index c.loop-file-test.false) c.loop-file.invariant.all
