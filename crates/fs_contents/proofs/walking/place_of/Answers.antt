use Rattle.std.proofs.Common.{◌∙◌, ℕ, List, length, get_or, ap, sym, subst, arith}
use Rattle.std.specs.Prelude.{slice_index, Some, All}
use Rattle.fs_layout.specs.declared.paths.Span.{Span}
use Rattle.fs_layout.specs.Paths.{name_in_path, LiesIn}
use Rattle.fs_layout.specs.DiskFiles.{file_system_of}
use Rattle.fs_layout.specs.FileActs.{look_up}
use Rattle.fs_contents.specs.Contents.{found_node}
use Rattle.fs_contents.specs.Walks.{IsFirstNamed, NoneIsNamed}
use Rattle.fs_contents.proofs.Paths.{leads-bad, leads-first, leads-more, leads-no_more, leads-last}
use Rattle.fs_contents.proofs.walking.place_of.Goals as goal

pub returns-in_default-clause-refused : goal.returns-in_default-clause-refused
returns-in_default-clause-refused c =
    leads-bad (file_system_of (slice_index c.args.image.now)) c.args.path.now c.in_default.ensures.err

pub loop-name-init : goal.loop-name-init
loop-name-init c = (
  leads-first (length c.args.image.now) (slice_index c.args.image.now) c.args.path.now c.as_slice-name-items.result.now
      c.requires (c.in-Ok.ensures.ok ∙ ap (λ (l : List Span). Some l) (sym c.as_slice-name-items.ensures.value)),
  omega arith,
)

pub find_record-requires : goal.find_record-requires
find_record-requires c = c.loop-name.invariant.1

pub returns-in_default-find_record-clause-refused : goal.returns-in_default-find_record-clause-refused
returns-in_default-find_record-clause-refused c =
    let first : Span = record { from = 0; to = 0 } in
    let name : List ℕ = name_in_path c.args.path.now (get_or c.as_slice-name-items.result.now c.loop-name.name-index first) in
    let none =
    subst (λ (l : List ℕ). NoneIsNamed (slice_index l) c.loop-name.place name) c.new-disk.ensures c.in_default-find_record.ensures.none in
    leads-no_more (slice_index c.args.image.now) (found_node (look_up (file_system_of (slice_index c.args.image.now)) c.args.path.now))
    c.args.path.now c.as_slice-name-items.result.now c.loop-name.name-index first c.loop-name.place c.loop-name-test.true
    c.loop-name.invariant.0 none

pub loop-name-preserved : goal.loop-name-preserved
loop-name-preserved c =
    let first : Span = record { from = 0; to = 0 } in
    let name : List ℕ = name_in_path c.args.path.now (get_or c.as_slice-name-items.result.now c.loop-name.name-index first) in
    let found =
    subst (λ (l : List ℕ). IsFirstNamed (slice_index l) c.loop-name.place name c.in-Some.found) c.new-disk.ensures
    c.in-Some.ensures.found in
    let lie = subst (All (LiesIn (length c.args.path.now))) (sym c.as_slice-name-items.ensures.value) c.in-Ok.ensures.lie in (
      leads-more (slice_index c.args.image.now) (found_node (look_up (file_system_of (slice_index c.args.image.now)) c.args.path.now))
          c.args.path.now c.as_slice-name-items.result.now c.loop-name.name-index first c.loop-name.place c.in-Some.found
          c.loop-name-test.true lie c.loop-name.invariant.0 found,
      c.in-Some.ensures.small,
    )

pub returns-clause-found : goal.returns-clause-found
returns-clause-found c =
    leads-last (slice_index c.args.image.now) (found_node (look_up (file_system_of (slice_index c.args.image.now)) c.args.path.now))
    c.args.path.now c.as_slice-name-items.result.now c.loop-name.name-index c.loop-name.place c.loop-name-test.false
    c.loop-name.invariant.0

pub returns-clause-small : goal.returns-clause-small
returns-clause-small c = c.loop-name.invariant.1
