use Rattle.jos_base.specs.Reach.{bytes_read}
use Rattle.jos_base.specs.UserMemory.{read_byte}
use Rattle.jos_space.specs.Frames.{state, records}
use Rattle.jos_sys.proofs.Buffers.{IsReading}
use Rattle.jos_sys.proofs.calls.read_bytes.Given as goal

abbrev pub invariant-loop : goal.invariant-loop
invariant-loop l =
    let read = read_byte (records l.spaces) (state l.spaces) l.space.directory.0 in
    IsReading read l.len (bytes_read read l.va l.len) l.counter l.at l.bytes.items
