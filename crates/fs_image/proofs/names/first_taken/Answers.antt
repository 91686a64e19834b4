use Rattle.std.specs.Prelude.{slice_index}
use Rattle.std.proofs.Common.{◌≡◌, ◌≢◌, ◌∙◌, ℕ, true, false, cond, List, [], sym, ap, arith, Bor}
use Rattle.std.specs.List.{list_any}
use Rattle.std.specs.BTreeMap.{is_at}
use Rattle.std.specs.BTreeSet.{contains}
use Rattle.std.specs.Cmp.Lexicographic.{slice_cmp}
use Rattle.std.specs.Ordering.{nat_cmp}
use Rattle.std.proofs.lemmas.Map.Text.{is_eq-slice_cmp}
use Rattle.fs_layout.specs.DiskImage.{name_of, slot_place}
use Rattle.fs_image.proofs.Each.{some_none}
use Rattle.fs_image.proofs.NameBytes.{empty_name, full_name}
use Rattle.fs_image.proofs.Taken.{names_same, names_more, taken_is, free_more, not_true, not_false}
use Rattle.fs_image.proofs.names.first_taken.Goals as goal

pub loop-i-init : goal.loop-i-init
loop-i-init c = record {
  known = λ name ne.
      ap (list_any (is_at (λ (k : Bor (List ℕ)). slice_cmp nat_cmp name.now k.now))) c.new-names.ensures.empty ∙ sym (some_none _);
  free = λ j h full. absurd (omega (arith, h));
}

pub loop-i-preserved-then-byte-eq0 : goal.loop-i-preserved-then-byte-eq0
loop-i-preserved-then-byte-eq0 c =
    let empty : slice_index c.args.disk.now.bytes.now c.slot_place-place.result ≡ 0 = omega arith in
    record {
      known = λ name ne.
          c.loop-i.invariant.known name ne
          ∙ names_same (slice_index c.args.disk.now.bytes.now) c.args.directory c.loop-i.i name.now (ap (name_of (slice_index c.args.disk.now.bytes.now)) (sym c.slot_place-place.ensures.place) ∙ empty_name (slice_index c.args.disk.now.bytes.now) c.slot_place-place.result empty) ne;
      free =
          free_more (slice_index c.args.disk.now.bytes.now) c.args.directory c.loop-i.i c.loop-i.invariant.free (λ full. absurd (full (ap (slice_index c.args.disk.now.bytes.now) (sym c.slot_place-place.ensures.place) ∙ empty)));
    }

pub returns-then-not-branch : goal.returns-then-not-branch
returns-then-not-branch c =
    let full : slice_index c.args.disk.now.bytes.now c.slot_place-place.result ≢ 0 = omega arith in
    let name_is : c.name.result.now ≡ name_of (slice_index c.args.disk.now.bytes.now) (slot_place (slice_index c.args.disk.now.bytes.now) c.args.directory c.loop-i.i) =
    c.name.ensures ∙ ap (name_of (slice_index c.args.disk.now.bytes.now)) c.slot_place-place.ensures.place in
    let some : c.name.result.now ≢ [] = λ e. full_name (slice_index c.args.disk.now.bytes.now) c.slot_place-place.result full (sym c.name.ensures ∙ e) in
    let was : c.in_ok-insert.field-0 ≡ false = cc in
    let had : contains (λ (x y : Bor (List ℕ)). slice_cmp nat_cmp x.now y.now) c.loop-i.names c.name.result ≡ true = not_false _ _ c.in_ok-insert.ensures.added was in
    record {
      within = omega arith;
      free = c.loop-i.invariant.free;
      full = λ h z. full (ap (slice_index c.args.disk.now.bytes.now) c.slot_place-place.ensures.place ∙ z);
      here = λ h.
          taken_is (slice_index c.args.disk.now.bytes.now) c.args.directory c.loop-i.i c.name.result.now _ name_is (c.loop-i.invariant.known c.name.result some) ∙ had;
    }

pub loop-i-preserved : goal.loop-i-preserved
loop-i-preserved c =
    let full : slice_index c.args.disk.now.bytes.now c.slot_place-place.result ≢ 0 = omega arith in
    let name_is : c.name.result.now ≡ name_of (slice_index c.args.disk.now.bytes.now) (slot_place (slice_index c.args.disk.now.bytes.now) c.args.directory c.loop-i.i) =
    c.name.ensures ∙ ap (name_of (slice_index c.args.disk.now.bytes.now)) c.slot_place-place.ensures.place in
    let some : c.name.result.now ≢ [] = λ e. full_name (slice_index c.args.disk.now.bytes.now) c.slot_place-place.result full (sym c.name.ensures ∙ e) in
    let was : c.in_ok-insert.field-0 ≡ true = cc in
    let had : contains (λ (x y : Bor (List ℕ)). slice_cmp nat_cmp x.now y.now) c.loop-i.names c.name.result ≡ false = not_true _ _ c.in_ok-insert.ensures.added was in
    record {
      known = λ name ne.
          names_more (slice_index c.args.disk.now.bytes.now) c.args.directory c.loop-i.i c.name.result.now name.now (contains (λ (x y : Bor (List ℕ)). slice_cmp nat_cmp x.now y.now) c.loop-i.names name) _ name_is (c.loop-i.invariant.known name ne)
          (c.in_ok-insert.ensures.updates.0 name ∙ ap (λ b. cond b true (contains (λ (x y : Bor (List ℕ)). slice_cmp nat_cmp x.now y.now) c.loop-i.names name)) (is_eq-slice_cmp c.name.result.now name.now));
      free =
          free_more (slice_index c.args.disk.now.bytes.now) c.args.directory c.loop-i.i c.loop-i.invariant.free
          (λ _. taken_is (slice_index c.args.disk.now.bytes.now) c.args.directory c.loop-i.i c.name.result.now _ name_is (c.loop-i.invariant.known c.name.result some) ∙ had);
    }
