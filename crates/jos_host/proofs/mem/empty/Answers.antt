use Rattle.std.proofs.Common.{ap, sym, ◌∙◌, []}
use Rattle.std.specs.List.{position}
use Rattle.jos_host.specs.MemHost.{Named}
use Rattle.jos_host.proofs.Named.{has_name, files_of-set, files_of-push, not_there}
use Rattle.jos_host.proofs.Outcome.{OnOk-map}
use Rattle.jos_host.proofs.mem.empty.Goals as goal

pub returns-in-Some-clause-ok : goal.returns-in-Some-clause-ok
returns-in-Some-clause-ok c =
    files_of-set c.args.files.now.items c.args.name.now c.in-Some.found c.index_mut.result.now _ []
    (ap (position (has_name c.args.name.now)) (sym c.deref.ensures.value) ∙ sym c.place.ensures ∙ c.in-Some.is) c.index_mut.ensures.value
    (ap (λ (f : Named). f.name) c.behind-files.view_is) c.clear.ensures.items

pub returns-in-None-clause-ok : goal.returns-in-None-clause-ok
returns-in-None-clause-ok c =
    OnOk-map c.add.result
    (files_of-push c.args.files.now.items c.add.new.files.items c.args.name.now [] (ap (position (has_name c.args.name.now)) (sym c.deref.ensures.value) ∙ sym c.place.ensures ∙ c.in-None.is))
    c.add.ensures.ok

pub returns-in-None-clause-there : goal.returns-in-None-clause-there
returns-in-None-clause-there c =
    λ some. absurd (not_there c.args.files.now.items c.args.name.now (ap (position (has_name c.args.name.now)) (sym c.deref.ensures.value) ∙ sym c.place.ensures ∙ c.in-None.is) some)
