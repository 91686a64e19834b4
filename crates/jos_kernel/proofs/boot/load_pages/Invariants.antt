use Rattle.std.proofs.Common.{◌≡◌, ℕ, ◌-◌, ◌≤◌, List, Some}
use Rattle.jos_base.specs.KernelState.{slot_at, with_spaces}
use Rattle.jos_sys.specs.System.{state_of, Keeps}
use Rattle.jos_kernel.specs.Boot.{pages_loaded}
use Rattle.jos_kernel.proofs.boot.load_pages.Given as goal

abbrev pub invariant-loop-number : goal.invariant-loop-number
invariant-loop-number l = record {
  within : l.from ≤ 851968;
  loaded : (input : List ℕ) → pages_loaded l.segments l.file (slot_at (state_of l.fn.system input) l.slot).directory (state_of l.fn.system input).spaces l.from ≡ Some (state_of l.system input).spaces;
  rest : (input : List ℕ) → state_of l.system input ≡ with_spaces (state_of l.fn.system input) (state_of l.system input).spaces;
  spaces : Keeps l.system;
}

abbrev pub decreases-loop-number : goal.decreases-loop-number
decreases-loop-number l = 851968 - l.from
