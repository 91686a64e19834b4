-- A service's step: what stands at its beginning, what its step is in the abstract system, and that its answer leads back
-- to the program.
use Rattle.std.proofs.Common.{◌≡◌, ◌∙◌, ◌||◌, not, ℕ, Bool, true, false, List, [], Ok, refl, sym, ap, subst}
use Rattle.std.specs.Prelude.{◌++◌}
use Rattle.std.proofs.lemmas.Bool.{false≢true}
use Rattle.std.proofs.lemmas.List.{append-nil}
use Rattle.jos_base.specs.declared.registers.Regs.{Regs}
use Rattle.jos_base.specs.Environments.{Slot, no_extra}
use Rattle.jos_base.specs.KernelState.{KernelState, slot_at}
use Rattle.jos_base.specs.SpacesState.{SpacesState}
use Rattle.lib_os.specs.declared.place.Place.{Place}
use Rattle.lib_os.specs.declared.place.Place.TheVariants as place
use Rattle.lib_os.specs.declared.place.Step.{Step}
use Rattle.lib_os.specs.declared.service.Service.{Service}
use Rattle.lib_os.specs.declared.progress.Progress.TheVariants as progress
use Rattle.lib_os.specs.AbstractState.{AbstractState, Born, AbstractSlot, free, unborn, born, serving, Stage, guest, at_guest, in_service}
use Rattle.lib_os.specs.AbstractRun.{abs_step}
use Rattle.lib_os.specs.Fence.{is_resident}
use Rattle.lib_os.specs.declared.service.Service.TheVariants as service
use Rattle.lib_os.specs.LibraryPages.{LibraryPages, has_copy, has_working, keeps_page, keeps_path, keeps_request, has_spawns, keeps_spawning, spawn_keeps}
use Rattle.lib_os.specs.declared.numbers.TheConstants.{PGFAULT_UPCALL}
use Rattle.jos_base.specs.TrapFrames.{user_flags}
use Rattle.lib_os.specs.LibraryCall.{library_step}
use Rattle.lib_os.specs.LibrarySteps.{GoesOn, HasTurn, NothingRefused, IsLibraryStep}
use Rattle.lib_os.specs.Places.{place_in_words, place_of, is_handlers, service_word}
use Rattle.lib_os.specs.Rows.{Names, EntryRow, rows_of}
use Rattle.lib_os.specs.InService.{IsIn}
use Rattle.lib_os.specs.StandsFor.{StandsFor, StandsForSlot, StandsForBorn, StandsAt, StandsAtStep, IsStatusFor, view_of, upcall_at}
use Rattle.lib_os.proofs.PipesStand.{descriptors_turned, is_calm}
use Rattle.lib_os.proofs.WordsTell.{is_in_handler, handler_runs, outside_stack}
use Rattle.lib_os.specs.UserCalls.{Output, Prints}

-- who keeps no words is at its program, where its handler does not run
pub words_of_none : (regs : Regs) (words : List ℕ) → is_handlers regs.esp ≡ false → words ≡ no_extra → place_in_words regs words ≡ place.Guest
unfolding place_in_words
words_of_none regs words outside none = rw (outside, none) refl

-- and so is who is in no service
pub in_no_service : (regs : Regs) (words : List ℕ) → is_handlers regs.esp ≡ false → service_word words ≡ 0 → place_in_words regs words ≡ place.Guest
unfolding place_in_words
in_no_service regs words outside none = rw (outside, none) refl

-- nor is it in a service, wherever its stack pointer lies
never_served : (regs : Regs) (words : List ℕ) (s : Service) (t : Step) → service_word words ≡ 0 → place_in_words regs words ≡ place.InService s t → ⊥
never_served regs words s t none at = by_esp (is_handlers regs.esp) refl
  where
    by_esp : (c : Bool) → is_handlers regs.esp ≡ c → ⊥
    by_esp true inside =
        false≢true (sym (ap is_in_handler at) ∙ handler_runs regs words ∙ inside)
    by_esp false outside =
        false≢true (sym (ap is_at_guest at) ∙ ap is_at_guest (in_no_service regs words outside none))
      where
        is_at_guest : Place → Bool
        is_at_guest place.Guest = true
        is_at_guest _ = false

-- ---- at the beginning

-- an environment that is in a service, at a step
pub record IsServed (names : Names) (s : KernelState) (a : AbstractState) (n : ℕ) (service : Service) (step : Step) : Type 0 where
  pub b : Born
  pub is : a.slots n ≡ born b
  pub own : StandsForBorn names s.spaces (slot_at s n) b
  pub outside : is_handlers (slot_at s n).registers.esp ≡ false
  pub place : place_of (slot_at s n) ≡ place.InService service step
  pub at : StandsAtStep (view_of s.spaces (slot_at s n).directory) (slot_at s n) b service step

pub served : {names : Names} {s : KernelState} {a : AbstractState} → StandsFor names s a → (n : ℕ) (service : Service) (step : Step) →
    place_of (slot_at s n) ≡ place.InService service step → IsServed names s a n service step
served {names = names} {s = s} {a = a} h n service step at = by_slot (a.slots n) refl (h.slots n)
  where
    by_slot : (slot : AbstractSlot) → a.slots n ≡ slot → StandsForSlot names s.spaces (slot_at s n) slot → IsServed names s a n service step
    by_slot (free id) is k = absurd (never_served (slot_at s n).registers (slot_at s n).extra service step (ap (λ (x : Slot). service_word x.extra) k) at)
    by_slot (unborn id parent) is k = absurd (never_served (slot_at s n).registers (slot_at s n).extra service step (ap service_word k.words) at)
    by_slot (born b) is k = record {
      b = b;
      is = is;
      own = k;
      outside = outside_stack (slot_at s n).registers (slot_at s n).extra (place.InService service step) at refl;
      place = at;
      at = subst (λ (p : Place). StandsAt p (view_of s.spaces (slot_at s n).directory) (slot_at s n) b) at k.at;
    }
    by_slot (serving id) is k = absurd (never_served (slot_at s n).registers (slot_at s n).extra service step k.words at)

-- ---- its step

-- the abstract step of a service at a stage
pub service_step : (a : AbstractState) (n : ℕ) (b : Born) (regs : Regs) (service : Service) (stage : Stage) →
    a.slots n ≡ born b → b.program ≡ guest regs → b.phase ≡ in_service service stage → b.blocked ≡ false →
    abs_step a n ≡ library_step a n b regs service stage
unfolding abs_step
service_step a n b regs service stage is program phase awake = rw (is, awake, program, phase) refl

-- the same by where it stands
pub step_in : (a : AbstractState) (n : ℕ) (b : Born) (k : Slot) (service : Service) (stage : Stage) →
    a.slots n ≡ born b → IsIn k b service stage → abs_step a n ≡ library_step a n b k.registers service stage
step_in a n b k service stage is at = service_step a n b k.registers service stage is at.program at.phase at.awake

-- ---- its answer

-- where the handler does not run it is set, and has no copy of a page
pub plain_upcall : (at : Place) → is_in_handler at ≡ false → upcall_at at ≡ PGFAULT_UPCALL
plain_upcall place.Guest plain = refl
plain_upcall (place.InService s step) plain = refl
plain_upcall (place.InHandler step) plain = absurd (false≢true (sym plain))

pub plain_copy : (at : Place) → is_in_handler at ≡ false → has_copy at ≡ false
plain_copy place.Guest plain = refl
plain_copy (place.InService s step) plain = refl
plain_copy (place.InHandler step) plain = absurd (false≢true (sym plain))

-- whether a service keeps a page at UTEMP, and which others it keeps, by their numbers
abbrev pub Kept : Type 0
Kept = Bool × (ℕ → Bool)

-- no others
abbrev pub kept_where : Bool → Kept
kept_where has = (has, (λ p. false))

-- a service that keeps bytes in a page has one, and spawn has others, too
abbrev pub holds_page : Place → Kept
holds_page (place.InService (service.Write fd va len) at) = kept_where (keeps_page at)
holds_page (place.InService (service.Remove path) at) = kept_where (keeps_path at)
holds_page (place.InService (service.OpenFile path mode) at) = kept_where (keeps_path at)
holds_page (place.InService (service.Spawn path argv) at) = (keeps_spawning at, (λ p. spawn_keeps at p))
holds_page (place.InService (service.Seek fd offset) at) = kept_where (keeps_request at)
holds_page (place.InService (service.SetSize fd size) at) = kept_where (keeps_request at)
holds_page (place.InService (service.Read fd va len) at) = kept_where (keeps_request at)
holds_page (place.InService (service.Stat fd va) at) = kept_where (keeps_request at)
holds_page _ = kept_where false

-- those others
abbrev pub others_kept : Place → ℕ → Bool
others_kept at = (holds_page at).1

pub kept_alone : {kept : Kept} {has : Bool} → kept ≡ kept_where has → kept.1 ≡ (λ p. false)
kept_alone same = ap (λ (k : Kept). k.1) same

-- as the library's pages tell it
abbrev pub pages_kept : Place → List ℕ → Kept
pages_kept at words = (has_working at words, (λ p. has_spawns at words p))

pub works : {kept other : Kept} → kept ≡ other → kept.0 ≡ other.0
works same = ap (λ (k : Kept). k.0) same

pub plain_working : (at : Place) (words : List ℕ) → is_in_handler at ≡ false → pages_kept at words ≡ holds_page at
plain_working place.Guest words plain = refl
plain_working (place.InService (service.Write fd va len) step) words plain = refl
plain_working (place.InService (service.Remove path) step) words plain = refl
plain_working (place.InService (service.OpenFile path mode) step) words plain = refl
plain_working (place.InService (service.Spawn path argv) step) words plain = refl
plain_working (place.InService (service.Seek fd offset) step) words plain = refl
plain_working (place.InService (service.SetSize fd size) step) words plain = refl
plain_working (place.InService (service.Read fd va len) step) words plain = refl
plain_working (place.InService (service.Stat fd va) step) words plain = refl
plain_working (place.InService _ step) words plain = refl
plain_working (place.InHandler step) words plain = absurd (false≢true (sym plain))

-- the library's pages are the same at each place at which there is a copy, and at each at which there is none, and so with the pages of a service
pub library_moved : (at after : Place) (words words_after : List ℕ) (row : EntryRow) → has_copy at ≡ has_copy after →
    pages_kept at words ≡ pages_kept after words_after → LibraryPages at words row → LibraryPages after words_after row
library_moved at after words words_after row same held h = record {
  stack = h.stack;
  copy = λ is. h.copy (same ∙ is);
  no_copy = λ is. h.no_copy (same ∙ is);
  descriptors = h.descriptors;
  working = λ is. h.working (ap (λ (k : Kept). k.0) held ∙ is);
  no_working = λ is. h.no_working (ap (λ (k : Kept). k.0) held ∙ is);
  spawns = λ p is. h.spawns p (ap (λ (k : Kept). k.1 p) held ∙ is);
  none = λ p outside no_descriptor no_stack no_copy no_working no_spawns.
      h.none p outside no_descriptor no_stack no_copy no_working (ap (λ (k : Kept). k.1 p) held ∙ no_spawns);
}

-- the environment's own part, when it is back at its program
pub back_at_guest : {names : Names} {s : SpacesState} {k : Slot} {b : Born} (regs : Regs) → StandsForBorn names s k b →
    holds_page (place_of k) ≡ kept_where false → is_calm (place_of k) ≡ true → k.rendezvous.receiving ≡ false → b.blocked ≡ false →
    is_handlers k.registers.esp ≡ false → regs.esp ≡ k.registers.esp →
    regs.eflags ≡ k.registers.eflags →
    StandsForBorn names s (record k { registers = regs; extra = no_extra })
    (record b { program = guest regs; phase = at_guest; blocked = false })
back_at_guest {names = names} {s = s} {k = k} {b = b} regs own holds calm silent awake outside stack flags =
    let back : Slot = record k { registers = regs; extra = no_extra } in
    let after : Born = record b { program = guest regs; phase = at_guest; blocked = false } in
    let there : place_of back ≡ place.Guest = words_of_none regs no_extra (ap is_handlers stack ∙ outside) refl in
    let plain : is_in_handler (place_of k) ≡ false = handler_runs k.registers k.extra ∙ outside in
    record {
      id = own.id;
      id_small = own.id_small;
      parent = own.parent;
      env_type = own.env_type;
      runs = subst (λ (blocked : Bool). IsStatusFor k.status blocked) awake own.runs;
      upcall = own.upcall ∙ plain_upcall (place_of k) plain ∙ sym (ap upcall_at there);
      descriptors = descriptors_turned names s k.directory (place_of k) (place_of back) b.descriptors calm (ap is_calm there) own.descriptors;
      memory = own.memory;
      library = library_moved (place_of k) (place_of back) k.extra no_extra (rows_of s k.directory)
          (plain_copy (place_of k) plain ∙ sym (ap has_copy there))
          (plain_working (place_of k) k.extra plain ∙ holds ∙ sym (ap (λ (p : Place). pages_kept p no_extra) there)) own.library;
      regions_have = own.regions_have;
      regions_only = own.regions_only;
      stack = ap (λ (esp : ℕ). is_handlers esp || not (is_resident esp)) stack ∙ own.stack;
      flags = subst (λ (f : ℕ). f ≡ user_flags f) (sym flags) own.flags;
      at = subst (λ (p : Place). StandsAt p (view_of s k.directory) back after) (sym there)
          (record {
            program = refl;
            phase = refl;
            words = refl;
            silent = silent;
            awake = refl;
          });
    }

-- what an answer or an end is to the library
pub finished : (s after : KernelState) (n : ℕ) (written : List ℕ) (output : Output) → Prints output written →
    ((names : Names) (a : AbstractState) → StandsFor names s a → HasTurn s n → NothingRefused s after → GoesOn n after a written) →
    IsLibraryStep (Ok progress.Finished) n s after output
finished s after n written output gains goes = (written, gains, λ a h turn quiet. goes h.0 a h.1 turn quiet)

pub over : (s after : KernelState) (n : ℕ) (written : List ℕ) (output : Output) → Prints output written →
    ((names : Names) (a : AbstractState) → StandsFor names s a → HasTurn s n → NothingRefused s after → GoesOn n after a written) →
    IsLibraryStep (Ok progress.Ended) n s after output
over s after n written output gains goes = (written, gains, λ a h turn quiet. goes h.0 a h.1 turn quiet)

-- the console of an abstract state in which nothing was printed
pub printed_nothing : (a : AbstractState) → a.console ≡ a.console ++ []
printed_nothing a = sym (append-nil a.console)
