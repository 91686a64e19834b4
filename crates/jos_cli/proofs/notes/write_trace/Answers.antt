use Rattle.std.proofs.Common.{◌∙◌, sym, arith}
use Rattle.jos_cli.proofs.Doing.{no_note, one_note, notes_after}
use Rattle.jos_cli.proofs.NotesWritten.{nothing_traced, one_traced, one_failed, all_traced, no_trap}
use Rattle.jos_cli.proofs.notes.write_trace.Goals as goal
use Rattle.jos_cli.proofs.notes.write_trace.Goals.{in-Some+in-Ok, in_default}

pub loop-place-init : goal.loop-place-init
loop-place-init g c = record {
  traced = nothing_traced c.args.trace.now.items (g.H.Host.notes c.args.host.now);
  did = no_note g.H.Host c.args.host.now;
}

pub returns-in-Err-clause-told : goal.returns-in-Err-clause-told
returns-in-Err-clause-told g c =
    one_failed c.loop-place.invariant.traced c.in-Some.trap.now (sym c.in-Some.ensures) _ _ (c.as_slice.ensures.value ∙ c.trace_line-line.ensures) c.in-Err.ensures.told

pub returns-in-Err-clause-did : goal.returns-in-Err-clause-did
returns-in-Err-clause-did g c =
    let one = c.in-Err.ensures in
    notes_after g.H.Host c.loop-place.invariant.did _ (one_note g.H.Host _ _ _ one.files one.input one.console one.asked one.cause)

pub loop-place-preserved : goal.loop-place-preserved
loop-place-preserved g c = elim c.match-get.branch [
  | in-Some+in-Ok w ↦ let one = w.in-Ok.ensures in rw w.host-is (record {
    traced = one_traced c.loop-place.invariant.traced w.in-Some.trap.now (sym w.in-Some.ensures) _ _
        (w.as_slice.ensures.value ∙ w.trace_line-line.ensures) w.in-Ok.ensures.told;
    did = notes_after g.H.Host c.loop-place.invariant.did _ (one_note g.H.Host _ _ _ one.files one.input one.console one.asked one.cause);
  })
  | in_default w ↦ absurd (no_trap c.args.trace.now.items c.loop-place.place w.in_default.ensures (omega (arith, c.loop-place-test.true, c.len-place-end.ensures.len)))
]

pub returns-clause-told : goal.returns-clause-told
returns-clause-told g c = all_traced c.loop-place.invariant.traced (omega (arith, c.loop-place-test.false, c.len-place-end.ensures.len))
