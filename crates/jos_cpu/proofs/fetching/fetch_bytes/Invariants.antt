use Rattle.jos_cpu.specs.Fetch.{fetched_at}
use Rattle.jos_cpu.proofs.Fetches.{IsFetching}
use Rattle.jos_cpu.proofs.fetching.fetch_bytes.Given as goal

abbrev pub invariant-loop-offset : goal.invariant-loop-offset
invariant-loop-offset g l =
    IsFetching g.M.Mem.table l.ip (fetched_at g.M.Mem.table (g.M.Mem.seen l.fn.mem) l.ip) l.offset (g.M.Mem.seen l.mem) l.bytes.items l.least
