use Rattle.jos_sys.specs.System.{state_of}
use Rattle.jos_sys.proofs.Sending.{page_passes, no_page_wanted, page_invalid}
use Rattle.jos_sys.proofs.system.System.passing.Goals as goal

pub returns-then-destination-lt-UTOP-clause-exact : goal.returns-then-destination-lt-UTOP-clause-exact
returns-then-destination-lt-UTOP-clause-exact c = λ input.
    page_passes (state_of c.args.self.now input) c.args.sender c.args.destination c.args.va c.args.perm c.if-va-ge-UTOP.false c.if-va-ne0.false _
    (c.in-Some.ensures.exact input) c.if-destination-lt-UTOP.true

pub returns-else-destination-lt-UTOP-clause-exact : goal.returns-else-destination-lt-UTOP-clause-exact
returns-else-destination-lt-UTOP-clause-exact c = λ input.
    no_page_wanted (state_of c.args.self.now input) c.args.sender c.args.destination c.args.va c.args.perm c.if-va-ge-UTOP.false c.if-va-ne0.false _
    (c.in-Some.ensures.exact input) c.if-destination-lt-UTOP.false

pub returns-in-None-clause-exact : goal.returns-in-None-clause-exact
returns-in-None-clause-exact c = λ input.
    page_invalid (state_of c.args.self.now input) c.args.sender c.args.destination c.args.va c.args.perm c.if-va-ge-UTOP.false c.if-va-ne0.false
    (c.in-None.ensures.exact input)
