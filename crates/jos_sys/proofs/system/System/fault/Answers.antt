use Rattle.std.proofs.Common.{◌∙◌, Ok, Err, length, min, ◌+◌, ◌^◌, ◌-◌, refl, sym, ap, arith}
use Rattle.jos_base.specs.Environments.{Slot}
use Rattle.jos_base.specs.declared.memory.Access.TheVariants.{Write}
use Rattle.jos_base.specs.Reach.{FrameOffset}
use Rattle.jos_base.specs.TrapFrames.{upcall_place}
use Rattle.jos_base.specs.UserMemory.{reach_in}
use Rattle.jos_envs.proofs.Kept.{live_within}
use Rattle.jos_space.specs.Calls.{has_bytes}
use Rattle.jos_space.specs.Frames.{state}
use Rattle.jos_sys.specs.System.{state_of}
use Rattle.jos_sys.proofs.Keeping.{keeps_spaces}
use Rattle.jos_sys.proofs.Faulting.{place_within, reached_offset, refused_untouched, frame_length, no_handler, no_room, is_entered, entered_is}
use Rattle.jos_sys.proofs.system.System.fault.Goals as goal

pub environment-environment-requires : goal.environment-environment-requires
environment-environment-requires c = live_within c.args.self.now.table c.args.current c.requires.live

pub returns-then-environment-eq0-clause-told : goal.returns-then-environment-eq0-clause-told
returns-then-environment-eq0-clause-told c = λ input. (
  no_handler (state_of c.args.self.now input) c.args.current c.args.fault
      (sym (ap (λ (z : Slot). z.upcall) (c.environment-environment.ensures input)) ∙ c.if-environment-eq0.true),
  refl,
)

pub returns-in-Overflow-clause-told : goal.returns-in-Overflow-clause-told
returns-in-Overflow-clause-told c = λ input. (
  no_room (state_of c.args.self.now input) c.args.current c.args.fault c.environment-environment.result.upcall
      (ap (λ (z : Slot). z.upcall) (c.environment-environment.ensures input)) c.if-environment-eq0.false
      (c.in-Overflow.ensures ∙ ap (λ (z : Slot). upcall_place z.registers.esp) (c.environment-environment.ensures input)),
  refl,
)

pub fill-requires-clause-frame : goal.fill-requires-clause-frame
fill-requires-clause-frame c =
    let within = (place_within _ c.in-At.place c.in-At.ensures).1 in
    ap has_bytes (c.in-Ok.ensures.page (omega (arith, within)))

pub fill-requires-clause-room : goal.fill-requires-clause-room
fill-requires-clause-room c =
    let within = place_within _ c.in-At.place c.in-At.ensures in
    let offset = reached_offset _ _ c.in-At.place Write (record { frame = c.in-Ok.location.frame.0; offset = c.in-Ok.location.offset }) c.in-Ok.ensures.result in
    let long = ap length c.frame_bytes-frame.ensures ∙ frame_length c.args.fault c.environment-environment.result.registers in
    omega (arith, within.0, within.1, offset, long)

pub returns-in-Ok-clause-told : goal.returns-in-Ok-clause-told
returns-in-Ok-clause-told c = λ input.
    let k = state_of c.args.self.now input in
    let at : FrameOffset = record { frame = c.in-Ok.location.frame.0; offset = c.in-Ok.location.offset } in
    is_entered k c.args.current c.args.fault c.environment-environment.result.upcall
    (ap (λ (z : Slot). z.upcall) (c.environment-environment.ensures input)) c.if-environment-eq0.false c.in-At.place
    (c.in-At.ensures ∙ ap (λ (z : Slot). upcall_place z.registers.esp) (c.environment-environment.ensures input)) (Ok at)
    (c.in-Ok.ensures.result ∙ ap (λ d. reach_in k.spaces d c.in-At.place Write) (c.space-space.ensures.directory input))
    ∙ entered_is k c.args.current c.args.fault c.in-At.place at _ _ _ _ _ (c.environment-environment.ensures input) (c.space-space.ensures.directory input)
    c.in-Ok.ensures.after c.fill.ensures.after c.frame_bytes-frame.ensures _ _ (c.set_registers.ensures.state input)
    (c.saturating_add-self.ensures ∙ ap (λ s. min (s.upcalls + 1) (2 ^ 64 - 1)) (c.set_registers.ensures.state input))

pub returns-in-Ok-clause-spaces : goal.returns-in-Ok-clause-spaces
returns-in-Ok-clause-spaces c =
    let keeps = c.set_registers.ensures.spaces (record {
      spaces = keeps_spaces (state c.access.new.self) _ _ c.fill.ensures.directories (keeps_spaces _ _ _ c.in-Ok.ensures.directories c.requires.spaces.spaces);
      records = c.fill.ensures.records ∙ c.in-Ok.ensures.records ∙ c.requires.spaces.records;
    }) in record { spaces = keeps.spaces; records = keeps.records }

pub returns-in-Err-clause-told : goal.returns-in-Err-clause-told
returns-in-Err-clause-told c = λ input.
    let k = state_of c.args.self.now input in (
      is_entered k c.args.current c.args.fault c.environment-environment.result.upcall
          (ap (λ (z : Slot). z.upcall) (c.environment-environment.ensures input)) c.if-environment-eq0.false c.in-At.place
          (c.in-At.ensures ∙ ap (λ (z : Slot). upcall_place z.registers.esp) (c.environment-environment.ensures input)) (Err c.in-Err.field-0)
          (c.in-Err.ensures.result ∙ ap (λ d. reach_in k.spaces d c.in-At.place Write) (c.space-space.ensures.directory input)),
      λ i. record k {
        spaces = (c.in-Err.ensures.after ∙ refused_untouched k.spaces c.space-space.result.directory.0 c.in-At.place Write c.in-Err.field-0 c.in-Err.ensures.result) i;
      },
    )

pub returns-in-Err-clause-spaces : goal.returns-in-Err-clause-spaces
returns-in-Err-clause-spaces c = record {
  spaces = keeps_spaces _ _ _ c.in-Err.ensures.directories c.requires.spaces.spaces;
  records = c.in-Err.ensures.records ∙ c.requires.spaces.records;
}
