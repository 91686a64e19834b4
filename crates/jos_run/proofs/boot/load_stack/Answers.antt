use Rattle.std.proofs.Common.{◌∙◌, ◌-◌, ℕ, List, [], ◌∷◌, refl, sym, ap, subst, arith, map}
use Rattle.jos_base.specs.KernelState.{slot_at}
use Rattle.jos_base.specs.SpacesState.{overlaid}
use Rattle.jos_kernel.specs.Boot.{perm_of}
use Rattle.jos_elf.specs.Pages.{stack_page}
use Rattle.jos_kernel.specs.Loading.{with_bytes_in}
use Rattle.jos_kernel.proofs.PagesLoaded.{loads-none, loads-filled}
use Rattle.jos_sys.specs.System.{state_of}
use Rattle.jos_elf.specs.StackPage.{stack_contents}
use Rattle.lib_spawn.proofs.StackPages.{fits}
use Rattle.lib_os.specs.Rows.{AreBytes}
use Rattle.jos_elf.specs.Started.{stack_segment}
use Rattle.jos_run.proofs.PagesWhole.{strings-bytes}
use Rattle.jos_run.proofs.StackLoaded.{fits-some, stack-touched, stack-writes, stack-laid}
use Rattle.jos_run.proofs.boot.load_stack.Goals as goal

pub returns-in-None-clause-loads : goal.returns-in-None-clause-loads
returns-in-None-clause-loads c =
    let words = map (λ w. w.now) c.args.words.now in
    let h = fits words c.requires.fits in
    λ input. loads-none (stack_segment words ∷ []) (stack_contents words)
    (slot_at (state_of c.args.system.now input) c.args.slot).directory stack_page 977917 7
    (state_of c.args.system.now input) (state_of c.allocate.new.self input) (stack-touched words (fits-some words h) h.size) refl
    (sym (ap perm_of (stack-writes words (fits-some words h) h.size))) (c.in-None.ensures.rest input) (c.in-None.ensures.none refl)

pub returns-in-Some-clause-loads : goal.returns-in-Some-clause-loads
returns-in-Some-clause-loads c =
    let words = map (λ w. w.now) c.args.words.now in
    let h = fits words c.requires.fits in
    λ input. loads-filled (stack_segment words ∷ []) (stack_contents words)
    (slot_at (state_of c.args.system.now input) c.args.slot).directory stack_page 977917 7
    (state_of c.args.system.now input) (state_of c.allocate.new.self input) (stack-touched words (fits-some words h) h.size) refl
    (sym (ap perm_of (stack-writes words (fits-some words h) h.size))) (c.in-Some.ensures.rest input)
    (state_of c.fill.new.self input) c.in-Some.frame.0 c.in-Some.ensures.some c.in-Some.ensures.zero
    (c.fill.ensures.state input
    ∙ ap (with_bytes_in (state_of c.allocate.new.self input) c.in-Some.frame.0)
    (ap (overlaid ((state_of c.allocate.new.self input).spaces.pages c.in-Some.frame.0) (4096 - c.len.result))
    (c.as_slice-in-Some.ensures.value ∙ c.stack_contents-bytes.ensures.bytes)
    ∙ sym (stack-laid words (fits-some words h) h.size ((state_of c.allocate.new.self input).spaces.pages c.in-Some.frame.0)
    (4096 - c.len.result)
    (let size = c.stack_contents-bytes.ensures.size in let long = c.len.ensures.value in omega (arith, size, long)))))

pub returns-in-Some-clause-bytes : goal.returns-in-Some-clause-bytes
returns-in-Some-clause-bytes c = λ done.
    strings-bytes (map (λ w. w.now) c.args.words.now)
    (subst (λ (list : List ℕ). AreBytes list) (c.as_slice.ensures.value ∙ c.stack_contents-bytes.ensures.bytes) c.keep_bytes.ensures)
