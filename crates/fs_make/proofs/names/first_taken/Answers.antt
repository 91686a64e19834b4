use Rattle.std.proofs.Common.{◌≡◌, ◌∙◌, Bool, true, false, ap, sym, refl}
use Rattle.std.specs.Prelude.{not}
use Rattle.jos_host.specs.MemHost.{Named}
use Rattle.fs_make.proofs.NamesSeen.{has, seen-none, seen-next, seen-taken, seen-all}
use Rattle.fs_make.proofs.names.first_taken.Goals as goal

turned : (a b : Bool) → a ≡ not b → (v : Bool) → a ≡ v → b ≡ not v
turned a true e v h = rw (sym h ∙ e) refl
turned a false e v h = rw (sym h ∙ e) refl

pub loop-place-init : goal.loop-place-init
loop-place-init c = rw c.new-before.ensures.empty (seen-none c.args.files.now)

pub loop-place-preserved : goal.loop-place-preserved
loop-place-preserved c =
    seen-next c.args.files.now c.loop-place.place c.loop-place.before.keys c.insert.new.self.keys c.as_str.result c.index-files-place.result
    c.loop-place-test.true c.index-files-place.is (c.as_str.ensures.value ∙ ap (λ (f : Named). f.name) c.file.view_is)
    (turned c.in-Ok-true.field-0 (has c.loop-place.before.keys c.as_str.result.now) c.in-Ok-true.ensures.added true c.in-Ok-true.field-0-test)
    c.in-Ok-true.ensures.keys c.loop-place.invariant

pub returns-in-Ok-false : goal.returns-in-Ok-false
returns-in-Ok-false c =
    seen-taken c.args.files.now c.loop-place.place c.loop-place.before.keys c.as_str.result c.index-files-place.result
    c.loop-place-test.true c.index-files-place.is (c.as_str.ensures.value ∙ ap (λ (f : Named). f.name) c.file.view_is)
    (turned c.in-Ok-false.field-0 (has c.loop-place.before.keys c.as_str.result.now) c.in-Ok-false.ensures.added false c.in-Ok-false.field-0-test)
    c.loop-place.invariant

pub returns : goal.returns
returns c = seen-all c.args.files.now c.loop-place.place c.loop-place.before.keys c.loop-place-test.false c.loop-place.invariant
