use Rattle.std.proofs.Common.{ℕ, ◌<◌, ◌≤◌, List, [], length, refl, ap, ◌∙◌, arith}
use Rattle.jos_base.specs.KernelState.{KernelState, slot_at}
use Rattle.jos_base.specs.Environments.{is_live}
use Rattle.jos_sys.specs.System.{state_of}
use Rattle.jos_kernel.proofs.PagesTouched.{touched_below}
use Rattle.jos_kernel.proofs.PagesLoaded.{pages-none, next-loaded, next-none, all-loaded}
use Rattle.jos_kernel.proofs.boot.load_pages.Goals as goal

pub loop-number-init : goal.loop-number-init
loop-number-init c = record {
  within = omega arith;
  loaded = λ input. pages-none c.args.segments.now c.args.file.now (slot_at (state_of c.args.system.now input) c.args.slot).directory (state_of c.args.system.now input).spaces;
  rest = λ input. refl;
  spaces = c.requires.spaces;
}

pub load_page-requires-clause-live : goal.load_page-requires-clause-live
load_page-requires-clause-live c = ap (λ (s : KernelState). is_live (slot_at s c.args.slot)) (c.loop-number.invariant.rest []) ∙ c.requires.live

pub load_page-requires-clause-number : goal.load_page-requires-clause-number
load_page-requires-clause-number c = touched_below (length c.args.file.now) c.in-Some.number c.args.segments.now c.requires.lie c.in-Some.ensures.passes

pub returns-then-not-load_page-clause-loads : goal.returns-then-not-load_page-clause-loads
returns-then-not-load_page-clause-loads c = λ input.
    next-none c.args.segments.now c.args.file.now c.args.slot (state_of c.args.system.now input) (state_of c.loop-number.system input) c.loop-number.from
    (c.loop-number.invariant.loaded input) (c.loop-number.invariant.rest input) (state_of c.load_page.new.system input) c.in-Some.number _ c.in-Some.ensures
    (touched_below (length c.args.file.now) c.in-Some.number c.args.segments.now c.requires.lie c.in-Some.ensures.passes)
    (c.if-not-load_page.ensures.loads input)

pub overflow_add-from : goal.overflow_add-from
overflow_add-from c =
    let below : c.in-Some.number < 851968 =
    touched_below (length c.args.file.now) c.in-Some.number c.args.segments.now c.requires.lie c.in-Some.ensures.passes in
    omega arith

pub loop-number-smaller : goal.loop-number-smaller
loop-number-smaller c =
    let below : c.in-Some.number < 851968 =
    touched_below (length c.args.file.now) c.in-Some.number c.args.segments.now c.requires.lie c.in-Some.ensures.passes in
    let behind : c.loop-number.from ≤ c.in-Some.number = c.in-Some.ensures.behind in
    omega arith

pub loop-number-preserved : goal.loop-number-preserved
loop-number-preserved c =
    let below : c.in-Some.number < 851968 =
    touched_below (length c.args.file.now) c.in-Some.number c.args.segments.now c.requires.lie c.in-Some.ensures.passes in
    let next = λ (input : List ℕ).
    next-loaded c.args.segments.now c.args.file.now c.args.slot (state_of c.args.system.now input) (state_of c.loop-number.system input) c.loop-number.from
    (c.loop-number.invariant.loaded input) (c.loop-number.invariant.rest input) (state_of c.load_page.new.system input) c.in-Some.number c.in-Some.ensures
    (c.if-not-load_page.ensures.loads input) in
    record {
      within = omega arith;
      loaded = λ input. (next input).0;
      rest = λ input. (next input).1;
      spaces = c.if-not-load_page.ensures.spaces;
    }

pub returns-clause-loads : goal.returns-clause-loads
returns-clause-loads c = λ input.
    all-loaded c.args.segments.now c.args.file.now c.args.slot (state_of c.args.system.now input) (state_of c.loop-number.system input) c.loop-number.from
    (c.loop-number.invariant.loaded input) (c.loop-number.invariant.rest input) _ c.loop-number.invariant.within c.in_default.ensures
