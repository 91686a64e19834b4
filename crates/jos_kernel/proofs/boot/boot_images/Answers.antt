use Rattle.std.proofs.Common.{◌∙◌, refl, sym}
use Rattle.std.specs.Iterator.Adapters.{zip_first, zip_second}
use Rattle.std.specs.Slice.Iter.{iter_rest}
use Rattle.std.proofs.lemmas.Slice.Zip.{Zip-more, either_empty_from_Zip}
use Rattle.jos_sys.specs.System.{state_of}
use Rattle.jos_kernel.proofs.ImagesRead.{read_lie}
use Rattle.jos_kernel.proofs.ImagesBooted.{read_first, read_rest, all_booted-some, all_booted-none, all_booted-end}
use Rattle.jos_kernel.proofs.boot.boot_images.Goals as goal

pub boot_image-requires-clause-lie : goal.boot_image-requires-clause-lie
boot_image-requires-clause-lie c =
    let step = Zip-more c.loop-image.image-iterator c.next.new.self c.next.result (c.in-Some.image, c.in-Some.file) c.in-Some.is c.next.ensures.steps in
    read_lie c.deref.result.now c.in-Some.image.now
    (read_first _ (iter_rest (zip_first c.next.new.self)) _ (iter_rest (zip_second c.next.new.self)) c.in-Some.image.now c.in-Some.file.now c.deref.result.now
    step.0 step.1 c.deref.ensures.value c.loop-image.invariant.read)

pub returns-then-not-boot_image-clause-full : goal.returns-then-not-boot_image-clause-full
returns-then-not-boot_image-clause-full c = λ full input.
    let step = Zip-more c.loop-image.image-iterator c.next.new.self c.next.result (c.in-Some.image, c.in-Some.file) c.in-Some.is c.next.ensures.steps in
    sym (c.loop-image.invariant.rest input)
    ∙ all_booted-none _ (iter_rest (zip_first c.next.new.self)) _ (iter_rest (zip_second c.next.new.self)) c.in-Some.image.now c.in-Some.file.now c.deref.result.now
    step.0 step.1 c.deref.ensures.value (state_of c.loop-image.system input) (c.if-not-boot_image.ensures.full full input)

pub loop-image-preserved : goal.loop-image-preserved
loop-image-preserved c =
    let step = Zip-more c.loop-image.image-iterator c.next.new.self c.next.result (c.in-Some.image, c.in-Some.file) c.in-Some.is c.next.ensures.steps in
    record {
      can_next = (tt, tt);
      is_finite = tt;
      read = read_rest _ (iter_rest (zip_first c.next.new.self)) _ (iter_rest (zip_second c.next.new.self)) c.in-Some.image.now c.in-Some.file.now
          c.deref.result.now step.0 step.1 c.deref.ensures.value c.loop-image.invariant.read;
      rest = λ input.
          all_booted-some _ (iter_rest (zip_first c.next.new.self)) _ (iter_rest (zip_second c.next.new.self)) c.in-Some.image.now c.in-Some.file.now
          c.deref.result.now step.0 step.1 c.deref.ensures.value (state_of c.loop-image.system input) (state_of c.boot_image.new.system input)
          (c.if-not-boot_image.ensures.booted refl input)
          ∙ c.loop-image.invariant.rest input;
      spaces = c.if-not-boot_image.ensures.spaces;
    }

pub returns-clause-booted : goal.returns-clause-booted
returns-clause-booted c = λ done input.
    sym (c.loop-image.invariant.rest input)
    ∙ all_booted-end (iter_rest (zip_first c.loop-image.image-iterator)) (iter_rest (zip_second c.loop-image.image-iterator)) (state_of c.loop-image.system input)
    (either_empty_from_Zip c.loop-image.image-iterator c.next.new.self c.next.result c.in-None.is c.next.ensures.steps)
