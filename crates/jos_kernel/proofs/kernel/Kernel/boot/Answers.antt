use Rattle.std.proofs.Common.{◌≡◌, ℕ, ◌<◌, Option, Some, None, sym, ap, ◌∙◌, arith}
use Rattle.std.specs.Option.{ForSome}
use Rattle.jos_base.specs.declared.numbers.TheConstants.{NENV}
use Rattle.jos_sys.specs.System.{state_of}
use Rattle.jos_kernel.specs.Machine.{kernel_state}
use Rattle.jos_kernel.specs.declared.book.Book.{Book}
use Rattle.jos_kernel.specs.Books.{made}
use Rattle.jos_kernel.specs.Boot.{loadables, all_booted, booted}
use Rattle.jos_kernel.proofs.FirstStates.{booted_first}
use Rattle.jos_kernel.proofs.kernel.Kernel.boot.Goals as goal

pub returns-then-not-boot_images-clause-pool : goal.returns-then-not-boot_images-clause-pool
unfolding booted
returns-then-not-boot_images-clause-pool c = λ e.
    ap (all_booted (loadables c.args.images.now c.args.files.now)) (sym (c.in_ok-system.ensures.state c.args.input.items))
    ∙ c.boot_images.ensures.full c.if-not-boot_images.true c.args.input.items

none : (last : Option ℕ) → last ≡ None → ForSome last (λ n. n < NENV)
none last e = λ n k. absurd (cc)

booted_is : (c : goal.After-open) → booted (loadables c.args.images.now c.args.files.now) c.args.frames c.args.input.items ≡ Some (kernel_state c.new-4.result)
unfolding booted
booted_is c =
    ap (all_booted (loadables c.args.images.now c.args.files.now)) (sym (c.in_ok-system.ensures.state c.args.input.items))
    ∙ c.boot_images.ensures.booted c.if-not-boot_images.false c.args.input.items
    ∙ ap (λ s. Some s) (sym (c.new-4.ensures.state ∙ ap (state_of c.boot_images.new.system) c.new-3.ensures))

pub returns-clause-booted : goal.returns-clause-booted
returns-clause-booted c = booted_is c

pub returns-clause-holds : goal.returns-clause-holds
returns-clause-holds c =
    let first = booted_first (loadables c.args.images.now c.args.files.now) c.args.frames c.args.input.items (kernel_state c.new-4.result) (booted_is c) in
    let idle : made c.open.result ≡ 0 = ap made c.open.ensures.book in
    record {
      has_room = c.open.ensures.room;
      left = λ h. absurd (omega (arith, h, idle));
      visible = ap (λ (book : Book). book.hidden) c.open.ensures.book;
      turns = omega (arith, first.turns);
      begun = λ h. omega (arith, first.turns);
      running = λ h. absurd (omega (arith, h, idle));
      last = none (kernel_state c.new-4.result).last first.last;
    }
