use Rattle.std.proofs.Common.{◌≡◌, ◌∙◌, ◌+◌, ◌/◌, ◌%◌, ℕ, List, [], Option, Some, length, get_or, drop, sym, ap, subst}
use Rattle.std.proofs.Common.{arith}
use Rattle.std.specs.Prelude.{slice_index}
use Rattle.std.proofs.lemmas.List.{get_or-drop}
use Rattle.jos_base.specs.declared.memory.Access.TheVariants.{Read}
use Rattle.jos_space.specs.Frames.{Lists, state, records}
use Rattle.jos_space.specs.AtHand.{frame_with, bits_at_hand, rest_of_page}
use Rattle.jos_space.specs.contracts.spaces.Spaces.{the_view}
use Rattle.jos_space.proofs.AtHand.{still_at_hand, byte_at_hand, moved_found}
use Rattle.jos_space.proofs.PageBytes.{bytes_below, page_is}
use Rattle.jos_space.proofs.Walks.{found_holds, found_below}
use Rattle.jos_space.proofs.spaces.Spaces.page_bytes.Goals as goal

pub bytes_from-requires-clause-frame : goal.bytes_from-requires-clause-frame
bytes_from-requires-clause-frame c =
    let l = the_view c.self.inside in
    let found : frame_with (state l) c.args.page.space.directory.0 c.args.page.number (bits_at_hand Read) ≡ Some c.args.page.frame.0 =
    ap (λ (m : Lists). frame_with (state m) c.args.page.space.directory.0 c.args.page.number (bits_at_hand Read)) c.self.view_is ∙ c.requires.page in
    let below = bytes_below l c.self.invariant c.args.page.frame.0 (found_holds l c.self.invariant c.args.page.space.directory.0 c.args.page.number (bits_at_hand Read) c.args.page.frame.0 found) in
    let len = ap length c.deref.ensures.value in
    omega (arith, below, len)

pub returns-clause-bytes : goal.returns-clause-bytes
returns-clause-bytes c =
    let l = the_view c.self.inside in
    let found : frame_with (state l) c.args.page.space.directory.0 c.args.page.number (bits_at_hand Read) ≡ Some c.args.page.frame.0 =
    ap (λ (m : Lists). frame_with (state m) c.args.page.space.directory.0 c.args.page.number (bits_at_hand Read)) c.self.view_is ∙ c.requires.page in
    let holds = found_holds l c.self.invariant c.args.page.space.directory.0 c.args.page.number (bits_at_hand Read) c.args.page.frame.0 found in
    c.bytes_from.ensures.items
    ∙ ap (λ (bs : List (List ℕ)). drop (c.args.va % 4096) (get_or bs c.args.page.frame.0 [])) c.deref.ensures.value
    ∙ ap (drop (c.args.va % 4096)) (sym (page_is l c.self.invariant c.args.page.frame.0 holds))
    ∙ ap (λ (m : Lists). drop (c.args.va % 4096) ((state m).pages c.args.page.frame.0)) c.self.view_is
    ∙ ap (λ (o : Option ℕ). rest_of_page (state c.args.self.now) (c.args.va % 4096) o) (sym c.requires.page)
    ∙ ap (λ (n : ℕ). rest_of_page (state c.args.self.now) (c.args.va % 4096) (frame_with (state c.args.self.now) c.args.page.space.directory.0 n (bits_at_hand Read))) c.requires.number

pub returns-clause-still : goal.returns-clause-still
returns-clause-still c i below =
    let here : frame_with (state c.args.self.now) c.args.page.space.directory.0 (c.args.va / 4096) (bits_at_hand Read) ≡ Some c.args.page.frame.0 =
    subst (λ (n : ℕ). frame_with (state c.args.self.now) c.args.page.space.directory.0 n (bits_at_hand Read) ≡ Some c.args.page.frame.0) c.requires.number c.requires.page in
    let moved = moved_found (state c.args.self.now) c.args.page.space.directory.0 c.args.va i (bits_at_hand Read) c.args.page.frame.0 (omega (arith, below, c.bytes_from.ensures.len)) here in
    still_at_hand (state c.args.self.now) c.args.page.space.directory.0 (c.args.va + i) c.args.page.frame.0 Read
    (found_below c.args.self.now c.args.page.space.directory.0 ((c.args.va + i) / 4096) (bits_at_hand Read) c.args.page.frame.0 moved) moved

pub returns-clause-byte : goal.returns-clause-byte
returns-clause-byte c i below =
    let l = the_view c.self.inside in
    let found : frame_with (state l) c.args.page.space.directory.0 c.args.page.number (bits_at_hand Read) ≡ Some c.args.page.frame.0 =
    ap (λ (m : Lists). frame_with (state m) c.args.page.space.directory.0 c.args.page.number (bits_at_hand Read)) c.self.view_is ∙ c.requires.page in
    let here : frame_with (state c.args.self.now) c.args.page.space.directory.0 (c.args.va / 4096) (bits_at_hand Read) ≡ Some c.args.page.frame.0 =
    subst (λ (n : ℕ). frame_with (state c.args.self.now) c.args.page.space.directory.0 n (bits_at_hand Read) ≡ Some c.args.page.frame.0) c.requires.number c.requires.page in
    let holds = found_holds l c.self.invariant c.args.page.space.directory.0 c.args.page.number (bits_at_hand Read) c.args.page.frame.0 found in
    let place : (c.args.va + i) % 4096 ≡ c.args.va % 4096 + i = omega (arith, below, c.bytes_from.ensures.len) in
    let moved = moved_found (state c.args.self.now) c.args.page.space.directory.0 c.args.va i (bits_at_hand Read) c.args.page.frame.0 (omega (arith, below, c.bytes_from.ensures.len)) here in
    byte_at_hand (records c.args.self.now) (state c.args.self.now) c.args.page.space.directory.0 (c.args.va + i) c.args.page.frame.0
    (found_below c.args.self.now c.args.page.space.directory.0 ((c.args.va + i) / 4096) (bits_at_hand Read) c.args.page.frame.0 moved) moved
    ∙ ap (slice_index ((state c.args.self.now).pages c.args.page.frame.0)) place
    ∙ sym (get_or-drop (c.args.va % 4096) ((state c.args.self.now).pages c.args.page.frame.0) i 0)
    ∙ ap (λ (m : Lists). slice_index (drop (c.args.va % 4096) ((state m).pages c.args.page.frame.0)) i) (sym c.self.view_is)
    ∙ ap (λ (page : List ℕ). slice_index (drop (c.args.va % 4096) page) i) (page_is l c.self.invariant c.args.page.frame.0 holds)
    ∙ ap (λ (bs : List (List ℕ)). slice_index (drop (c.args.va % 4096) (get_or bs c.args.page.frame.0 [])) i) (sym c.deref.ensures.value)
    ∙ ap (λ (bs : List ℕ). slice_index bs i) (sym c.bytes_from.ensures.items)
