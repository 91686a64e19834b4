use Rattle.jos_alu.proofs.SignedQuotients.{on_none, on_some}
use Rattle.jos_alu.proofs.products.signed_quotient.Goals as goal

pub returns-in-None : goal.returns-in-None
returns-in-None c = on_none _ _ _ c.ranges.n c.ranges.d c.if-d-eq0.false c.in-None.ensures

pub returns-then-fits_in : goal.returns-then-fits_in
returns-then-fits_in c =
    on_some _ _ _ _ _ _ c.ranges.n c.ranges.d c.in-Some.ensures.0 c.in-Some.ensures.1 c.if-fits_in.ensures c.lowest_of.ensures
    c.lowest_of-then-fits_in.ensures
