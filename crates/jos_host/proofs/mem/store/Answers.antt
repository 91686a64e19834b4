use Rattle.std.proofs.Common.{ℕ, ◌+◌, ◌≤◌, List, length, ap, sym, subst, ◌∙◌, string_bytes}
use Rattle.std.proofs.Math.ListN.{set}
use Rattle.std.proofs.lemmas.List.{set-get_or}
use Rattle.jos_host.specs.Files.{with_bytes, overwritten}
use Rattle.jos_host.specs.MemHost.{Named}
use Rattle.std.specs.List.{position}
use Rattle.jos_host.proofs.Named.{has_name, files_of-set, files_of-push, bytes_of-first, bytes_of-absent}
use Rattle.jos_host.proofs.Named.{overwritten-nil, not_there}
use Rattle.jos_host.proofs.Outcome.{OnOk-map, OnErr-map}
use Rattle.jos_host.proofs.mem.store.Goals as goal

pub overwrite-requires : goal.overwrite-requires
overwrite-requires c =
    subst (λ (l : List ℕ). c.args.at ≤ length l)
    (bytes_of-first c.args.files.now.items c.args.name.now c.in-Some.found c.index_mut.result.now (ap (position (has_name c.args.name.now)) (sym c.deref.ensures.value) ∙ sym c.place.ensures ∙ c.in-Some.is) c.index_mut.ensures.value
    ∙ sym (ap (λ (f : Named). f.bytes) c.behind-files.view_is))
    c.requires

pub returns-in-Some-clause-ok : goal.returns-in-Some-clause-ok
returns-in-Some-clause-ok c =
    let at = ap (position (has_name c.args.name.now)) (sym c.deref.ensures.value) ∙ sym c.place.ensures ∙ c.in-Some.is in
    let old = bytes_of-first c.args.files.now.items c.args.name.now c.in-Some.found c.index_mut.result.now at c.index_mut.ensures.value ∙ sym (ap (λ (f : Named). f.bytes) c.behind-files.view_is) in
    OnOk-map c.overwrite.result
    (λ e. files_of-set c.args.files.now.items c.args.name.now c.in-Some.found c.index_mut.result.now _ _ at c.index_mut.ensures.value (ap (λ (f : Named). f.name) c.behind-files.view_is)
    (e ∙ ap (λ (l : List ℕ). overwritten l c.args.at c.args.bytes.now) (sym old)))
    c.overwrite.ensures.ok

pub returns-in-Some-clause-err : goal.returns-in-Some-clause-err
returns-in-Some-clause-err c =
    OnErr-map c.overwrite.result
    (λ e. ap (λ (f : Named). set c.args.files.now.items c.in-Some.found f)
    (ap (λ (l : List ℕ). record { name = string_bytes c.behind-files.inside.name; bytes = l }) e ∙ c.behind-files.view_is ∙ c.index_mut.ensures.value)
    ∙ set-get_or c.args.files.now.items c.in-Some.found c.index_mut.result.now)
    c.overwrite.ensures.err

pub returns-in-None-clause-ok : goal.returns-in-None-clause-ok
returns-in-None-clause-ok c =
    let at = ap (position (has_name c.args.name.now)) (sym c.deref.ensures.value) ∙ sym c.place.ensures ∙ c.in-None.is in
    let none = bytes_of-absent c.args.files.now.items c.args.name.now at in
    let start : c.args.at ≤ 0 = subst (λ (l : List ℕ). c.args.at ≤ length l) none c.requires in
    OnOk-map c.add.result
    (λ e. files_of-push c.args.files.now.items c.add.new.files.items c.args.name.now _ at e
    ∙ ap (with_bytes _ c.args.name.now)
    (sym (overwritten-nil c.args.at c.args.bytes.now start) ∙ ap (λ (l : List ℕ). overwritten l c.args.at c.args.bytes.now) (sym none)))
    c.add.ensures.ok

pub returns-in-Some-clause-there : goal.returns-in-Some-clause-there
returns-in-Some-clause-there c =
    let at = ap (position (has_name c.args.name.now)) (sym c.deref.ensures.value) ∙ sym c.place.ensures ∙ c.in-Some.is in
    λ some fits. c.overwrite.ensures.there
    (subst (λ (l : List ℕ). c.args.at + length c.args.bytes.now ≤ length l)
    (bytes_of-first c.args.files.now.items c.args.name.now c.in-Some.found c.index_mut.result.now at c.index_mut.ensures.value
    ∙ sym (ap (λ (f : Named). f.bytes) c.behind-files.view_is)) fits)

pub returns-in-None-clause-there : goal.returns-in-None-clause-there
returns-in-None-clause-there c =
    λ some fits. absurd (not_there c.args.files.now.items c.args.name.now (ap (position (has_name c.args.name.now)) (sym c.deref.ensures.value) ∙ sym c.place.ensures ∙ c.in-None.is) some)
