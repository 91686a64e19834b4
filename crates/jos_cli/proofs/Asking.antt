-- Calls on files that were made, one list after another.
use Rattle.std.specs.Option.{option_map}
use Rattle.jos_host.specs.declared.host.HostCall.TheVariants.{NoteWrite}
use Rattle.std.proofs.Common.{◌≡◌, ℕ, ◌+◌, List, [], ◌∷◌, ◌++◌, Option, Some, None, Result, Ok, Err, MatchResult, refl, sym, ap, subst, ◌∙◌, arith}
use mathlib.Core.Logic.{inl, inr}
use Rattle.jos_host.specs.Asked.{Asked, and_asked, and_noted}
use Rattle.jos_host.specs.Frames.{from_to}
use Rattle.std.proofs.lemmas.List.{append-nil, replicate-append-replicate}
use Rattle.std.proofs.Common.{append_assoc}
use Rattle.jos_words.specs.Arguments.{Word}
use Rattle.jos_words.specs.Commands.{Command, exo, run, demo, mkfs, ls, cat, gen}
use Rattle.fs_image.specs.DiskHeld.{IsReadInPieces}
use Rattle.jos_cli.specs.declared.outcome.Which.{Which}
use Rattle.jos_cli.specs.Limits.{limit_of_seed}
use Rattle.jos_cli.specs.Found.{sources_of_exo}
use Rattle.jos_run.specs.DiskTouches.{AreDiskCalls}
use Rattle.jos_cli.specs.FilesAsked.{AsksFor, AsksAll, MovesBlocks, AsksWorkBy, AsksFiles, read_calls, schedule_calls, write_calls, files_calls, source_calls, mkfs_calls}
use Rattle.jos_cli.specs.FilesAsked.{note_calls, AsksNotes, AsksSomeNotes, AsksNote}

-- none is made
pub asks_none : (calls : List Asked) (old new : Option (List Asked)) → new ≡ old → AsksFor calls (from_to old new)
asks_none [] old new same = same
asks_none (c ∷ rest) old new same = inl same

-- some of the first are made
pub asks_first : (calls more : List Asked) (old new : Option (List Asked)) → AsksFor calls (from_to old new) → AsksFor (calls ++ more) (from_to old new)
asks_first [] more old new h = asks_none more old new h
asks_first (c ∷ rest) more old new (inl same) = inl same
asks_first (c ∷ rest) more old new (inr h) = inr (asks_first rest more (and_asked old c.call c.name) new h)

-- all of the first are made, and then some of the others
pub asks_then : (calls more : List Asked) (old mid new : Option (List Asked)) → AsksAll calls (from_to old mid) → AsksFor more (from_to mid new) →
    AsksFor (calls ++ more) (from_to old new)
asks_then [] more old mid new all h = subst (λ (m : Option (List Asked)). AsksFor more (from_to m new)) all h
asks_then (c ∷ rest) more old mid new all h = inr (asks_then rest more (and_asked old c.call c.name) mid new all h)

-- all of both
pub asks_both : (calls more : List Asked) (old mid new : Option (List Asked)) → AsksAll calls (from_to old mid) → AsksAll more (from_to mid new) →
    AsksAll (calls ++ more) (from_to old new)
asks_both [] more old mid new all h = subst (λ (m : Option (List Asked)). AsksAll more (from_to m new)) all h
asks_both (c ∷ rest) more old mid new all h = asks_both rest more (and_asked old c.call c.name) mid new all h

-- all are some
pub asks_all : (calls : List Asked) (old new : Option (List Asked)) → AsksAll calls (from_to old new) → AsksFor calls (from_to old new)
asks_all [] old new h = h
asks_all (c ∷ rest) old new h = inr (asks_all rest (and_asked old c.call c.name) new h)

-- ---- images

files_calls-append : (words more : List Word) → files_calls (words ++ more) ≡ files_calls words ++ files_calls more
unfolding files_calls
files_calls-append [] more = refl
files_calls-append (word ∷ words) more =
    ap (λ calls. read_calls word.text ++ calls) (files_calls-append words more) ∙ sym (append_assoc (read_calls word.text) (files_calls words) (files_calls more))

files_calls-one : (word : Word) → files_calls (word ∷ []) ≡ read_calls word.text
unfolding files_calls
files_calls-one word = append-nil (read_calls word.text)

pub asks_nothing : (log : Option (List Asked)) → AsksAll (files_calls []) (from_to log log)
unfolding files_calls
asks_nothing log = refl

pub asks_file : (words : List Word) (word : Word) (old mid new : Option (List Asked)) → AsksAll (files_calls words) (from_to old mid) →
    AsksAll (read_calls word.text) (from_to mid new) → AsksAll (files_calls (words ++ word ∷ [])) (from_to old new)
asks_file words word old mid new all one =
    subst (λ (calls : List Asked). AsksAll calls (from_to old new)) (sym (files_calls-append words (word ∷ []) ∙ ap (λ calls. files_calls words ++ calls) (files_calls-one word)))
    (asks_both (files_calls words) (read_calls word.text) old mid new all one)

pub asks_part : (words : List Word) (word : Word) (rest : List Word) (old mid new : Option (List Asked)) → AsksAll (files_calls words) (from_to old mid) →
    AsksFor (read_calls word.text) (from_to mid new) → AsksFor (files_calls (words ++ word ∷ rest)) (from_to old new)
unfolding files_calls
asks_part words word rest old mid new all some =
    subst (λ (calls : List Asked). AsksFor calls (from_to old new)) (sym (files_calls-append words (word ∷ rest)))
    (asks_then (files_calls words) (read_calls word.text ++ files_calls rest) old mid new all (asks_first (read_calls word.text) (files_calls rest) mid new some))

pub asks_part_whole : (words : List Word) (word : Word) (rest : List Word) (old mid new : Option (List Asked)) → AsksAll (files_calls words) (from_to old mid) →
    AsksAll (read_calls word.text) (from_to mid new) → AsksFor (files_calls (words ++ word ∷ rest)) (from_to old new)
asks_part_whole words word rest old mid new all one = asks_part words word rest old mid new all (asks_all (read_calls word.text) mid new one)

-- ---- commands

reads_none : (name : List ℕ) (old new : Option (List Asked)) → new ≡ old → IsReadInPieces name (from_to old new)
reads_none name None new same = (0, same)
reads_none name (Some asked) new same = (0, same ∙ ap (λ l. Some l) (sym (append-nil asked)))

-- no block is moved
pub moves_none : (disk : List ℕ) (old new : Option (List Asked)) → new ≡ old → MovesBlocks disk (from_to old new)
unfolding AreDiskCalls
moves_none disk None new same = ([], tt, same)
moves_none disk (Some asked) new same = ([], tt, same ∙ ap (λ l. Some l) (sym (append-nil asked)))

-- no disk is made
no_work : (passed : Option Which) (disk : List ℕ) (old new : Option (List Asked)) → new ≡ old → AsksWorkBy passed disk (from_to old new)
no_work (Some which) disk old new same = same
no_work None disk old new same = inl (asks_none (write_calls disk) old new same)

-- a command may make no call
pub asks_no_more : (command : Option Command) (old new : Option (List Asked)) → new ≡ old → AsksFiles command (from_to old new)
asks_no_more None old new same = same
asks_no_more (Some (exo e)) old new same = asks_none (source_calls (sources_of_exo e)) old new same
asks_no_more (Some (run r)) old new same = (old, inl (asks_none (schedule_calls r.schedule) old old refl), moves_none r.disk.text old new same)
asks_no_more (Some (demo d)) old new same = asks_none (write_calls d.file.text) old new same
asks_no_more (Some (mkfs m)) old new same = asks_none (mkfs_calls m) old new same
asks_no_more (Some (ls l)) old new same = reads_none l.disk.text old new same
asks_no_more (Some (cat c)) old new same = reads_none c.disk.text old new same
asks_no_more (Some (gen g)) old new same = no_work (limit_of_seed g.seed) g.disk.text old new same

-- ---- notes

-- no note is written
pub notes_none : (log : Option (List Asked)) → AsksSomeNotes (from_to log log)
unfolding note_calls
notes_none None = (0, refl)
notes_none (Some asked) = (0, ap Some (sym (append-nil asked)))

notes_at : (old new : Option (List Asked)) → new ≡ and_noted old → AsksNotes 1 (from_to old new)
unfolding note_calls
notes_at old new e = e

pub notes_one : (old new : Option (List Asked)) → new ≡ and_noted old → AsksSomeNotes (from_to old new)
notes_one old new e = (1, notes_at old new e)

-- notes behind notes
both : (m n : ℕ) (old mid new : Option (List Asked)) → AsksNotes m (from_to old mid) → AsksNotes n (from_to mid new) → AsksNotes (m + n) (from_to old new)
unfolding note_calls
both m n None mid new first then = then ∙ ap (option_map (λ calls. calls ++ note_calls n)) first
both m n (Some asked) mid new first then =
    then ∙ ap (option_map (λ calls. calls ++ note_calls n)) first
    ∙ ap Some
    (append_assoc asked (note_calls m) (note_calls n) ∙ ap (λ calls. asked ++ calls) (replicate-append-replicate m n (record { call = NoteWrite; name = [] })))

pub notes_then : (old mid new : Option (List Asked)) → AsksSomeNotes (from_to old mid) → AsksSomeNotes (from_to mid new) → AsksSomeNotes (from_to old new)
notes_then old mid new first then = (first.0 + then.0, both first.0 then.0 old mid new first.1 then.1)

-- the last is written, or was tried
pub notes_last : (old mid new : Option (List Asked)) → AsksSomeNotes (from_to old mid) → new ≡ and_noted mid → AsksNote (from_to old new)
notes_last old mid new first e = (first.0, both first.0 1 old mid new first.1 (notes_at mid new e))

pub notes_then_last : (old mid new : Option (List Asked)) → AsksSomeNotes (from_to old mid) → AsksNote (from_to mid new) → AsksNote (from_to old new)
notes_then_last old mid new first then =
    let order : first.0 + (then.0 + 1) ≡ (first.0 + then.0) + 1 = omega arith in
    (first.0 + then.0, subst (λ (n : ℕ). AsksNotes n (from_to old new)) order (both first.0 (then.0 + 1) old mid new first.1 then.1))

pub notes_alone : (old new : Option (List Asked)) → new ≡ and_noted old → AsksNote (from_to old new)
notes_alone old new e = (0, notes_at old new e)

-- one call, which may have failed
pub notes_done : {T E : Type 0} (result : Result T E) (old new : Option (List Asked)) → new ≡ and_noted old →
    MatchResult result (λ _. AsksSomeNotes (from_to old new)) (λ _. AsksNote (from_to old new))
notes_done (Ok done) old new e = notes_one old new e
notes_done (Err failed) old new e = notes_alone old new e
