-- Where a request comes.
use Rattle.std.proofs.Common.{ℕ}
use Rattle.jos_base.specs.KernelState.{KernelState}
use Rattle.fs_seen.specs.ServerWhole.{IsAsked, SameTable}
use Rattle.fs_seen.proofs.Changes.{table_no_request, table_server}
use Rattle.fs_seen.proofs.TablePages.{pages_still}

-- It leaves the table of open files.
pub asked_table : (s after : KernelState) (n : ℕ) → IsAsked s after n → SameTable s after n
asked_table s after n k =
    pages_still s after n (λ p is. k.entries p (table_no_request p is))
    (λ p e is there. k.bytes p e (table_server p is) (table_no_request p is) there)
