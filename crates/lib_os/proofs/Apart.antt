-- What an environment has of its own and what it shares, and how full a pipe is.
use Rattle.std.proofs.Common.{◌≡◌, ◌≤◌, ◌∙◌, ◌+◌, ◌++◌, Bool, true, false, [], ◌∷◌, length, refl, sym, subst, arith}
use Rattle.std.specs.Prelude.{Option, Some, None, IfSome, nat_lt, slice_set, if◌then◌else◌}
use Rattle.std.proofs.lemmas.Bool.Decides.{nat_tests}
use Rattle.std.proofs.lemmas.List.{length-append}
use Rattle.jos_base.specs.Words.{page_offset, upd}
use Rattle.lib_os.specs.AbstractState.{Page, moving}
use Rattle.lib_os.specs.AbstractMemory.{stored_in}
use Rattle.lib_os.specs.Answers.{answered, at_stage}
use Rattle.lib_os.specs.declared.numbers.TheConstants.{PIPEBUFSIZ}
use Rattle.lib_os.specs.AbstractPipes.{is_such_held, is_read_end}
use Rattle.lib_os.specs.AbstractLaws.{ForkCopies, OwnStoresAreUnseen, SharedStoresAreSeen, PipesAreBounded}
use Rattle.jos_base.proofs.Maps.{upd-at, upd-other}

pub fork_copies : ForkCopies
fork_copies a n child b regs ne = upd-other _ n _ child ne ∙ upd-at _ child _

pub own_stores : OwnStoresAreUnseen
own_stores a n b va byte bytes m ne e =
    subst (λ (page : Option Page). ((stored_in a n b va byte page).slots m ≡ a.slots m) × ((stored_in a n b va byte page).shared ≡ a.shared))
    (sym e) (upd-other _ n _ m ne, refl)

pub shared_stores : SharedStoresAreSeen
shared_stores a n b va byte name e =
    subst (λ (page : Option Page). ((stored_in a n b va byte page).slots ≡ a.slots)
    × ((stored_in a n b va byte page).shared ≡ upd a.shared name (slice_set (a.shared name) (page_offset va) byte)))
    (sym e) (refl, refl)

pub pipes_are_bounded : PipesAreBounded
pipes_are_bounded a n b regs service pipe [] put within = within
pipes_are_bounded a n b regs service pipe (byte ∷ rest) put within =
    by_room (nat_lt (length (a.pipes pipe)) PIPEBUFSIZ) refl (is_such_held a (is_read_end pipe))
  where
    -- the bytes with one more
    longer : nat_lt (length (a.pipes pipe)) PIPEBUFSIZ ≡ true → length (upd a.pipes pipe (a.pipes pipe ++ byte ∷ []) pipe) ≤ PIPEBUFSIZ
    longer room =
        let one : length (a.pipes pipe ++ byte ∷ []) ≡ length (a.pipes pipe) + 1 = length-append (a.pipes pipe) (byte ∷ []) in
        rw (upd-at a.pipes pipe (a.pipes pipe ++ byte ∷ [])) (grind (arith, nat_tests, one, room))

    by_room : (room : Bool) → nat_lt (length (a.pipes pipe)) PIPEBUFSIZ ≡ room → (held : Bool) →
        IfSome
        (if room then Some (at_stage (record a { pipes = upd a.pipes pipe (a.pipes pipe ++ byte ∷ []) }) n b service (moving rest (put + 1)))
        else if held then None else Some (answered a n b regs put))
        (λ after. length (after.pipes pipe) ≤ PIPEBUFSIZ)
    by_room true e held = longer e
    by_room false e true = record {}
    by_room false e false = within
