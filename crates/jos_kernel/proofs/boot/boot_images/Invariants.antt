use Rattle.std.proofs.Common.{◌≡◌, ℕ, List, All}
use Rattle.std.specs.Iterator.Adapters.{zip_first, zip_second}
use Rattle.std.specs.Slice.Iter.{iter_rest}
use Rattle.jos_sys.specs.System.{state_of, Keeps}
use Rattle.jos_kernel.specs.Boot.{loadables, all_booted}
use Rattle.jos_kernel.specs.Loading.{IsRead}
use Rattle.jos_kernel.proofs.boot.boot_images.Given as goal

abbrev pub invariant-loop-image : goal.invariant-loop-image
invariant-loop-image l =
    let images = iter_rest (zip_first l.image-iterator) in
    let files = iter_rest (zip_second l.image-iterator) in
    record {
      can_next : (goal.iterator-loop-image).can_next l.image-iterator;
      is_finite : (goal.iterator-loop-image).is_finite l.image-iterator;
      read : All IsRead (loadables images files);
      rest : (input : List ℕ) → all_booted (loadables images files) (state_of l.system input)
          ≡ all_booted (loadables l.images l.files) (state_of l.fn.system input);
      spaces : Keeps l.system;
    }
