use Rattle.std.proofs.Common.{◌≡◌, ℕ, List, take}
use Rattle.jos_sys.specs.System.{state_of, Keeps}
use Rattle.jos_elf.specs.Pages.{laid_all}
use Rattle.jos_kernel.specs.Loading.{with_bytes_in}
use Rattle.jos_kernel.proofs.boot.lay_page.Given as goal

abbrev pub invariant-loop-segment : goal.invariant-loop-segment
invariant-loop-segment l = record {
  state : (input : List ℕ) → state_of l.system input ≡ with_bytes_in (state_of l.fn.system input) l.frame.0
      (laid_all (take l.segment-index l.segments) l.file l.number ((state_of l.fn.system input).spaces.pages l.frame.0));
  spaces : Keeps l.system;
}
