use Rattle.std.proofs.Common.{◌≡◌, ◌∙◌, ◌+◌, ◌<◌, ◌≤◌, ◌/◌, ℕ, List, ap, arith, subst, sym}
use Rattle.std.specs.Prelude.{slice_index, length}
use Rattle.fs_layout.specs.declared.numbers.TheConstants.{RECORDSIZE}
use Rattle.fs_layout.specs.DiskImage.{slot_place, slot_count, size_of}
use Rattle.fs_contents.specs.Walks.{entries_below}
use Rattle.fs_contents.proofs.Records.{entries-none, entries-more, entries-passed}
use Rattle.fs_contents.proofs.Places.{slot-within}
use Rattle.fs_contents.proofs.reading.read_entries.Goals as goal
use Rattle.fs_contents.proofs.reading.read_entries.Goals.{then-byte-ne0+in_ok-push, else-byte-ne0}

-- what is read of the disk is read of the image
place-in : (xs ys : List ℕ) → xs ≡ ys → (directory i place : ℕ) → place ≡ slot_place (slice_index xs) directory i →
    place ≡ slot_place (slice_index ys) directory i
place-in xs ys e directory i place h = h ∙ ap (λ (l : List ℕ). slot_place (slice_index l) directory i) e

byte-in : (xs ys : List ℕ) → xs ≡ ys → (place value : ℕ) → value ≡ slice_index xs place → slice_index ys place ≡ value
byte-in xs ys e place value h = ap (λ (l : List ℕ). slice_index l place) (sym e) ∙ sym h

count-in : (xs ys : List ℕ) → xs ≡ ys → (directory size : ℕ) → size ≡ size_of (slice_index xs) directory →
    size / 256 ≡ slot_count (slice_index ys) directory
count-in xs ys e directory size h = ap (λ n. n / 256) (h ∙ ap (λ (l : List ℕ). size_of (slice_index l) directory) e)

pub loop-i-init : goal.loop-i-init
loop-i-init c = entries-none (slice_index c.args.image.now) c.args.directory c.new-entries.result.items c.new-entries.ensures.items

pub file_entry_at-requires : goal.file_entry_at-requires
file_entry_at-requires c =
    let byte : ℕ → ℕ = slice_index c.args.image.now in
    let at =
    place-in c.new-disk.result.bytes.now c.args.image.now c.new-disk.ensures c.args.directory c.loop-i.i
    c.slot_place-place.result c.slot_place-place.ensures.place in
    let count =
    count-in c.new-disk.result.bytes.now c.args.image.now c.new-disk.ensures c.args.directory c.size_of-i-end.result
    c.size_of-i-end.ensures in
    let below : c.loop-i.i < slot_count byte c.args.directory = subst (λ n. c.loop-i.i < n) count c.loop-i-test.true in
    let within =
    slot-within byte c.args.directory c.loop-i.i (length c.args.image.now) c.requires.readable c.requires.blocks below in
    subst (λ place. place + RECORDSIZE ≤ length c.args.image.now) (sym at) within

pub loop-i-preserved : goal.loop-i-preserved
loop-i-preserved c =
    let byte : ℕ → ℕ = slice_index c.args.image.now in
    let at =
    place-in c.new-disk.result.bytes.now c.args.image.now c.new-disk.ensures c.args.directory c.loop-i.i
    c.slot_place-place.result c.slot_place-place.ensures.place in
    let read =
    byte-in c.new-disk.result.bytes.now c.args.image.now c.new-disk.ensures c.slot_place-place.result c.byte.result
    c.byte.ensures in
    elim c.if-byte-ne0.branch [
      | then-byte-ne0+in_ok-push w ↦
          ap (λ v. v.items) w.entries-is ∙ w.in_ok-push.ensures.items
          ∙ entries-more byte c.args.directory c.loop-i.i c.slot_place-place.result c.loop-i.entries.items w.file_entry_at.result
          c.loop-i.invariant at (λ e. w.if-byte-ne0.true (sym read ∙ e)) w.file_entry_at.ensures
      | else-byte-ne0 w ↦
          ap (λ v. v.items) w.entries-is
          ∙ entries-passed byte c.args.directory c.loop-i.i c.slot_place-place.result c.loop-i.entries.items c.loop-i.invariant at
          (read ∙ w.if-byte-ne0.false)
    ]

pub returns : goal.returns
returns c =
    let count =
    count-in c.new-disk.result.bytes.now c.args.image.now c.new-disk.ensures c.args.directory c.size_of-i-end.result
    c.size_of-i-end.ensures in
    let done : c.loop-i.i ≡ c.size_of-i-end.result / 256 = omega arith in
    c.loop-i.invariant ∙ ap (entries_below (slice_index c.args.image.now) c.args.directory) (done ∙ count)
