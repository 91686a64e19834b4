use Rattle.std.proofs.Common.{◌∙◌, ◌/◌, ap, sym, Option}
use Rattle.jos_base.specs.declared.memory.Access.TheVariants.{Read}
use Rattle.jos_base.specs.Reach.{Entry, FrameOffset, reach_entry}
use Rattle.jos_base.specs.SpacesState.{SpacesState}
use Rattle.jos_base.specs.UserMemory.{byte_at, byte_or_zero, stored_byte, with_byte_at}
use Rattle.jos_base.specs.Windows.{walked}
use Rattle.jos_space.specs.Frames.{state, records}
use Rattle.jos_space.specs.Calls.{has_bytes}
use Rattle.jos_space.proofs.AtHand.{read_where_written, write_low, low_address, byte_below}
use Rattle.jos_space.proofs.spaces.Spaces.store_byte.Goals as goal
use Rattle.jos_base.proofs.Walks.{walked_below}

pub set_byte-requires-clause-frame : goal.set_byte-requires-clause-frame
set_byte-requires-clause-frame c =
    ap has_bytes (c.in-Ok.ensures.page (low_address c.args.va (write_low (state c.args.self.now) c.args.space.directory.0 c.args.va _ (sym c.in-Ok.ensures.result))))

pub returns-in-Ok-clause-after : goal.returns-in-Ok-clause-after
unfolding stored_byte
returns-in-Ok-clause-after c = c.set_byte.ensures.after ∙ ap (with_byte_at (state c.args.self.now) c.args.byte) c.in-Ok.ensures.result

pub returns-in-Ok-clause-put : goal.returns-in-Ok-clause-put
unfolding byte_at
returns-in-Ok-clause-put c =
    let d = c.args.space.directory.0 in
    let old = state c.args.self.now in
    let new = state c.set_byte.new.self in
    let place : FrameOffset = record { frame = c.in-Ok.location.frame.0; offset = c.in-Ok.location.offset } in
    let low = write_low old d c.args.va place (sym c.in-Ok.ensures.result) in
    let read = read_where_written (walked old d (c.args.va / 4096)) c.args.va place (sym c.in-Ok.ensures.result) in
    let entries = ap (λ (s : SpacesState). s.entries d (c.args.va / 4096)) c.set_byte.ensures.after in
    let same = walked_below new d (c.args.va / 4096) low ∙ entries ∙ sym (walked_below old d (c.args.va / 4096) low) in
    ap (byte_or_zero (records c.set_byte.new.self) new d c.args.va) (ap (λ (o : Option Entry). reach_entry o c.args.va Read) same ∙ read)
    ∙ byte_below (records c.set_byte.new.self) new d c.args.va place low
    ∙ c.set_byte.ensures.put
