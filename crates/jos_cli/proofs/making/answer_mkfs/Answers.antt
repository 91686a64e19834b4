use Rattle.std.proofs.Common.{sym, refl}
use Rattle.jos_words.specs.Commands.{mkfs_in_bytes}
use Rattle.jos_cli.specs.declared.outcome.Outcome.TheVariants.{Limit, NoMemory}
use Rattle.jos_cli.specs.FilesAsked.{write_calls, mkfs_calls}
use Rattle.jos_cli.specs.Kinds.{kind_of}
use Rattle.jos_cli.specs.Outside.{outside}
use Rattle.jos_cli.proofs.Asking.{asks_none, asks_first}
use Rattle.jos_cli.proofs.Finding.{some_are_found, are_found}
use Rattle.jos_cli.proofs.NamedRead.{blocks_refused, files_refused, unread_unmade, unmade, made_disk}
use Rattle.jos_cli.proofs.making.answer_mkfs.Goals as goal

pub returns-in-Some : goal.returns-in-Some
returns-in-Some g c =
    let m = mkfs_in_bytes c.args.words.now in
    let found = some_are_found (g.H.Host.files c.args.host.now) m.files in
    record {
      did = unmade m (Limit c.in-Some.which) (outside g.H.Host c.args.host.now c.args.host.now) found.0 found.1 (blocks_refused m found.0 c.in-Some.which (sym c.in-Some.ensures.limit))
          tt refl refl refl refl (asks_none (mkfs_calls m) _ _ refl) refl;
    }

pub returns-then-len : goal.returns-then-len
returns-then-len g c =
    let m = mkfs_in_bytes c.args.words.now in
    let found = some_are_found (g.H.Host.files c.args.host.now) m.files in
    record { did = unmade m NoMemory (outside g.H.Host c.args.host.now c.args.host.now) found.0 found.1 tt tt refl refl refl refl (asks_none (mkfs_calls m) _ _ refl) refl }

pub returns-in-Err : goal.returns-in-Err
returns-in-Err g c =
    let m = mkfs_in_bytes c.args.words.now in
    let told = rw c.deref.ensures.value at c.in-Err.ensures.told in
    let did = rw c.deref.ensures.value at c.in-Err.ensures.did in
    record {
      did = unmade m c.in-Err.outcome (outside g.H.Host c.args.host.now c.read_named_files.new.host) told.0 (are_found (g.H.Host.files c.args.host.now) m.files told.0 told.1)
          (files_refused m told.0 (sym c.in_default.ensures.limit) (kind_of c.in-Err.outcome) told.2) (unread_unmade c.in-Err.outcome did.unread)
          did.files did.input did.console did.notes (asks_first _ (write_calls m.disk.text) _ _ did.asked) did.cause;
    }

pub returns-in-Ok : goal.returns-in-Ok
returns-in-Ok g c =
    let m = mkfs_in_bytes c.args.words.now in
    let told = rw c.deref.ensures.value at c.in-Ok.ensures.told in
    record {
      did = made_disk g.H.Host c.args.host.now c.read_named_files.new.host c.make_of_files.new.host m c.make_of_files.result told.0 c.in-Ok.files.items told.1 (sym c.in_default.ensures.limit) told.2
          (rw c.deref.ensures.value at c.in-Ok.ensures.did) (rw c.deref-in-Ok.ensures.value at c.make_of_files.ensures.did) (rw c.deref-in-Ok.ensures.value at c.make_of_files.ensures.disk);
    }
