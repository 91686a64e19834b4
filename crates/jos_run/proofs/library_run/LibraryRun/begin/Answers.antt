use Rattle.std.proofs.Common.{◌≡◌, ◌∙◌, []}
use Rattle.jos_kernel.specs.Books.{made}
use Rattle.jos_run.proofs.RunEnds.{begins}
use Rattle.jos_run.proofs.TurnsCounted.{begun_holds}
use Rattle.jos_run.proofs.library_run.LibraryRun.begin.Goals as goal

pub returns-clause-holds : goal.returns-clause-holds
returns-clause-holds c =
    let empty : c.open.result.turns.items ≡ [] = (λ i. (c.open.ensures.book i).turns.items) ∙ c.requires.empty in
    let none : made c.open.result ≡ 0 = (λ i. made (c.open.ensures.book i)) in
    begun_holds _ c.open.ensures.room empty none c.requires.turns c.requires.last (λ i. (c.open.ensures.book i).steps)

pub returns-clause-runs : goal.returns-clause-runs
returns-clause-runs c =
    let empty : c.open.result.turns.items ≡ [] = (λ i. (c.open.ensures.book i).turns.items) ∙ c.requires.empty in
    let none : made c.open.result ≡ 0 = (λ i. made (c.open.ensures.book i)) in
    begins _ empty none (λ i. (c.open.ensures.book i).first_refused) c.requires.written
