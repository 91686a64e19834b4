use Rattle.std.proofs.Common.{◌≡◌, ◌∙◌, ◌+◌, ◌/◌, ◌%◌, Some, refl, sym, ap, arith}
use Rattle.jos_base.specs.declared.memory.Access.TheVariants.{Write}
use Rattle.jos_base.specs.SpacesState.{with_page_bytes}
use Rattle.jos_space.specs.Frames.{Lists, state}
use Rattle.jos_space.specs.AtHand.{frame_with, bits_at_hand, word_laid}
use Rattle.jos_space.specs.contracts.spaces.Spaces.{the_view}
use Rattle.jos_space.proofs.Keeping.{word_uses}
use Rattle.jos_space.proofs.AtHand.{still_at_hand, moved_found, word_stored_at_hand}
use Rattle.jos_space.proofs.PageBytes.{bytes_below, writes}
use Rattle.jos_space.proofs.Walks.{found_holds, found_below}
use Rattle.jos_base.specs.SpacesState.{is_directory}
use Rattle.jos_space.proofs.spaces.Spaces.put_word.Goals as goal

pub set_word_at-requires-clause-frame : goal.set_word_at-requires-clause-frame
set_word_at-requires-clause-frame c =
    let l = the_view c.self.inside in
    let found : frame_with (state l) c.args.space.directory.0 (c.args.va / 4096) (bits_at_hand Write) ≡ Some c.in-Some.frame =
    ap (λ (m : Lists). frame_with (state m) c.args.space.directory.0 (c.args.va / 4096) (bits_at_hand Write)) c.self.view_is ∙ sym c.in-Some.ensures in
    bytes_below l c.self.invariant c.in-Some.frame (found_holds l c.self.invariant c.args.space.directory.0 (c.args.va / 4096) (bits_at_hand Write) c.in-Some.frame found)

pub invariant_of-self : goal.invariant_of-self
invariant_of-self c =
    let l = the_view c.self.inside in
    let found : frame_with (state l) c.args.space.directory.0 (c.args.va / 4096) (bits_at_hand Write) ≡ Some c.in-Some.frame =
    ap (λ (m : Lists). frame_with (state m) c.args.space.directory.0 (c.args.va / 4096) (bits_at_hand Write)) c.self.view_is ∙ sym c.in-Some.ensures in
    let holds = found_holds l c.self.invariant c.args.space.directory.0 (c.args.va / 4096) (bits_at_hand Write) c.in-Some.frame found in
    (writes l c.self.invariant c.in-Some.frame holds (λ page. word_laid page (c.args.va % 4096) c.args.word) c.set_word_at.new.bytes.items c.set_word_at.ensures).sound

pub returns-in-Some-clause-still : goal.returns-in-Some-clause-still
returns-in-Some-clause-still c _ i below =
    let moved = moved_found (state c.args.self.now) c.args.space.directory.0 c.args.va i (bits_at_hand Write) c.in-Some.frame (omega (arith, below, c.if-offset-gt-LAST_WORD.false)) (sym c.in-Some.ensures) in
    still_at_hand (state c.args.self.now) c.args.space.directory.0 (c.args.va + i) c.in-Some.frame Write
    (found_below c.args.self.now c.args.space.directory.0 ((c.args.va + i) / 4096) (bits_at_hand Write) c.in-Some.frame moved) moved

pub returns-in-Some-clause-put : goal.returns-in-Some-clause-put
returns-in-Some-clause-put c _ =
    let l = the_view c.self.inside in
    let found : frame_with (state l) c.args.space.directory.0 (c.args.va / 4096) (bits_at_hand Write) ≡ Some c.in-Some.frame =
    ap (λ (m : Lists). frame_with (state m) c.args.space.directory.0 (c.args.va / 4096) (bits_at_hand Write)) c.self.view_is ∙ sym c.in-Some.ensures in
    let holds = found_holds l c.self.invariant c.args.space.directory.0 (c.args.va / 4096) (bits_at_hand Write) c.in-Some.frame found in
    (writes l c.self.invariant c.in-Some.frame holds (λ page. word_laid page (c.args.va % 4096) c.args.word) c.set_word_at.new.bytes.items c.set_word_at.ensures).state_is
    ∙ ap (λ (m : Lists). with_page_bytes (state m) c.in-Some.frame (word_laid ((state m).pages c.in-Some.frame) (c.args.va % 4096) c.args.word)) c.self.view_is
    ∙ sym (word_stored_at_hand (state c.args.self.now) c.args.space.directory.0 c.args.va c.in-Some.frame c.args.word
    (found_below c.args.self.now c.args.space.directory.0 (c.args.va / 4096) (bits_at_hand Write) c.in-Some.frame (sym c.in-Some.ensures)) (omega (arith, c.if-offset-gt-LAST_WORD.false)) (sym c.in-Some.ensures))

pub returns-in-Some-clause-kept : goal.returns-in-Some-clause-kept
returns-in-Some-clause-kept c f is =
    (λ i. (returns-in-Some-clause-put c refl i).uses f) ∙ (λ i. word_uses (state c.args.self.now) c.args.space.directory.0 c.args.va c.args.word i f) ∙ is

pub returns-in-Some-clause-directories : goal.returns-in-Some-clause-directories
returns-in-Some-clause-directories c =
    (λ i. λ f. is_directory ((returns-in-Some-clause-put c refl i).uses f))
    ∙ (λ i. λ f. is_directory (word_uses (state c.args.self.now) c.args.space.directory.0 c.args.va c.args.word i f))
