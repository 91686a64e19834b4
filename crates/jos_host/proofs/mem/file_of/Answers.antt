use Rattle.std.proofs.Common.{ap, sym, ◌∙◌, Some}
use Rattle.jos_host.specs.MemHost.{Named}
use Rattle.jos_host.proofs.Named.{first, found, absent}
use Rattle.jos_host.proofs.mem.file_of.Goals as goal

pub returns-in-Some : goal.returns-in-Some
returns-in-Some c =
    let is_first = first c.args.files.now c.args.name.now c.in-Some.at c.index-files-at.result (sym c.place.ensures ∙ c.in-Some.is) in
    ap Some c.deref.ensures.value ∙ ap (λ (f : Named). Some f.bytes) (c.file.view_is ∙ c.index-files-at.is) ∙ sym (found c.args.files.now c.args.name.now c.in-Some.at c.index-files-at.result is_first)

pub returns-in-None : goal.returns-in-None
returns-in-None c = sym (absent c.args.files.now c.args.name.now (sym c.place.ensures ∙ c.in-None.is))
