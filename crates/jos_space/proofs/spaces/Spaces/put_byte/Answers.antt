use Rattle.std.proofs.Common.{refl, ◌≡◌, ◌∙◌, ◌/◌, ◌%◌, Some, sym, ap}
use Rattle.std.specs.Prelude.{slice_set}
use Rattle.jos_base.specs.declared.memory.Access.TheVariants.{Write}
use Rattle.jos_base.specs.SpacesState.{with_page_bytes}
use Rattle.jos_space.specs.Frames.{Lists, state}
use Rattle.jos_space.specs.AtHand.{frame_with, bits_at_hand}
use Rattle.jos_space.specs.contracts.spaces.Spaces.{the_view}
use Rattle.jos_space.proofs.Keeping.{stored_uses}
use Rattle.jos_space.proofs.AtHand.{still_at_hand, stored_at_hand}
use Rattle.jos_space.proofs.PageBytes.{bytes_below, writes}
use Rattle.jos_space.proofs.Walks.{found_holds, found_below}
use Rattle.jos_base.specs.SpacesState.{is_directory}
use Rattle.jos_space.proofs.spaces.Spaces.put_byte.Goals as goal

pub set_byte_at-requires-clause-frame : goal.set_byte_at-requires-clause-frame
set_byte_at-requires-clause-frame c =
    let l = the_view c.self.inside in
    let found : frame_with (state l) c.args.space.directory.0 (c.args.va / 4096) (bits_at_hand Write) ≡ Some c.in-Some.frame =
    ap (λ (m : Lists). frame_with (state m) c.args.space.directory.0 (c.args.va / 4096) (bits_at_hand Write)) c.self.view_is ∙ sym c.in-Some.ensures in
    bytes_below l c.self.invariant c.in-Some.frame (found_holds l c.self.invariant c.args.space.directory.0 (c.args.va / 4096) (bits_at_hand Write) c.in-Some.frame found)

pub invariant_of-self : goal.invariant_of-self
invariant_of-self c =
    let l = the_view c.self.inside in
    let found : frame_with (state l) c.args.space.directory.0 (c.args.va / 4096) (bits_at_hand Write) ≡ Some c.in-Some.frame =
    ap (λ (m : Lists). frame_with (state m) c.args.space.directory.0 (c.args.va / 4096) (bits_at_hand Write)) c.self.view_is ∙ sym c.in-Some.ensures in
    let holds = found_holds l c.self.invariant c.args.space.directory.0 (c.args.va / 4096) (bits_at_hand Write) c.in-Some.frame found in
    (writes l c.self.invariant c.in-Some.frame holds (λ page. slice_set page (c.args.va % 4096) c.args.byte) c.set_byte_at.new.bytes.items c.set_byte_at.ensures.items).sound

pub returns-in-Some-clause-still : goal.returns-in-Some-clause-still
returns-in-Some-clause-still c _ = still_at_hand (state c.args.self.now) c.args.space.directory.0 c.args.va c.in-Some.frame Write (found_below c.args.self.now c.args.space.directory.0 (c.args.va / 4096) (bits_at_hand Write) c.in-Some.frame (sym c.in-Some.ensures)) (sym c.in-Some.ensures)

pub returns-in-Some-clause-put : goal.returns-in-Some-clause-put
returns-in-Some-clause-put c _ =
    let l = the_view c.self.inside in
    let found : frame_with (state l) c.args.space.directory.0 (c.args.va / 4096) (bits_at_hand Write) ≡ Some c.in-Some.frame =
    ap (λ (m : Lists). frame_with (state m) c.args.space.directory.0 (c.args.va / 4096) (bits_at_hand Write)) c.self.view_is ∙ sym c.in-Some.ensures in
    let holds = found_holds l c.self.invariant c.args.space.directory.0 (c.args.va / 4096) (bits_at_hand Write) c.in-Some.frame found in
    (writes l c.self.invariant c.in-Some.frame holds (λ page. slice_set page (c.args.va % 4096) c.args.byte) c.set_byte_at.new.bytes.items c.set_byte_at.ensures.items).state_is
    ∙ ap (λ (m : Lists). with_page_bytes (state m) c.in-Some.frame (slice_set ((state m).pages c.in-Some.frame) (c.args.va % 4096) c.args.byte)) c.self.view_is
    ∙ sym (stored_at_hand (state c.args.self.now) c.args.space.directory.0 c.args.va c.in-Some.frame c.args.byte (found_below c.args.self.now c.args.space.directory.0 (c.args.va / 4096) (bits_at_hand Write) c.in-Some.frame (sym c.in-Some.ensures)) (sym c.in-Some.ensures))

pub returns-in-Some-clause-kept : goal.returns-in-Some-clause-kept
returns-in-Some-clause-kept c f is =
    (λ i. (returns-in-Some-clause-put c refl i).uses f) ∙ (λ i. stored_uses (state c.args.self.now) c.args.space.directory.0 c.args.va c.args.byte i f) ∙ is

pub returns-in-Some-clause-directories : goal.returns-in-Some-clause-directories
returns-in-Some-clause-directories c =
    (λ i. λ f. is_directory ((returns-in-Some-clause-put c refl i).uses f))
    ∙ (λ i. λ f. is_directory (stored_uses (state c.args.self.now) c.args.space.directory.0 c.args.va c.args.byte i f))
