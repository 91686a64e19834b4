-- write gives back the page at UTEMP, in which it kept the bytes of its buffer, and goes back to its program with the answer. In the abstract
-- system its program goes on already, so that the kernel's state goes on standing for the same abstract one, and fewer hidden steps are left.
use Rattle.std.proofs.Common.{◌≡◌, ◌∙◌, ◌<◌, ◌≤◌, ◌*◌, ◌+◌, inl, ℕ, true, false, Some, [], ◌∷◌, Ok, refl, sym, ap, subst, arith}
use Rattle.std.specs.Prelude.{None}
use Rattle.std.proofs.lemmas.Option.{none-some}
use Rattle.jos_base.specs.declared.called.Called.{Called}
use Rattle.jos_base.specs.declared.called.Called.TheVariants.{Answered}
use Rattle.jos_base.specs.declared.numbers.TheConstants.{SYS_PAGE_UNMAP, UTEMP}
use Rattle.jos_base.specs.declared.registers.Regs.{Regs}
use Rattle.jos_base.specs.Environments.{Slot, is_live, no_extra}
use Rattle.jos_base.specs.KernelState.{KernelState, slot_at, with_spaces}
use Rattle.jos_base.specs.SpacesState.{SpacesState, unmapped}
use Rattle.lib_os.specs.declared.place.Place.{Place}
use Rattle.lib_os.specs.declared.place.Place.TheVariants as place
use Rattle.lib_os.specs.declared.place.Step.TheVariants as step
use Rattle.lib_os.specs.declared.progress.Progress.TheVariants as progress
use Rattle.lib_os.specs.declared.service.Service.TheVariants as service
use Rattle.lib_os.specs.AbstractState.{AbstractState, Born, born}
use Rattle.lib_os.specs.InOrder.{IsInOrder}
use Rattle.lib_os.specs.LibrarySteps.{KeepsStanding, Lowers, TakesAtMost, copies_left, copy_steps, hidden_left, left_at, service_answered}
use Rattle.lib_os.specs.Places.{place_of}
use Rattle.lib_os.specs.Rows.{Names, Rows, logical, rows_of}
use Rattle.lib_os.specs.StandsFor.{HasPrinted, StandsFor, borne_in, things_in}
use Rattle.lib_os.specs.StandsInHandler.{IsAtGuest, wanted_of}
use Rattle.lib_os.specs.UserCalls.{CallStep, giving, system}
use Rattle.lib_os.proofs.Calls.{page_unmap_is}
use Rattle.lib_os.proofs.CopiesLeft.{put_copies, unmapped_entries}
use Rattle.lib_os.proofs.Effects.{Removed}
use Rattle.lib_os.proofs.EntriesStand.{PutsRow, named_bytes}
use Rattle.lib_os.proofs.FreeFrames.{unmapped_more}
use Rattle.lib_os.proofs.PagesStand.{Puts, bytes_elsewhere}
use Rattle.lib_os.proofs.PageTaken.{working_page, working_stands}
use Rattle.lib_os.proofs.PipesStand.{is_calm}
use Rattle.lib_os.proofs.Removing.{unmapped_removed}
use Rattle.lib_os.proofs.Serving.{IsServed, served, words_of_none, others_kept}
use Rattle.lib_os.proofs.Slots.{slot_put}
use Rattle.lib_os.proofs.SlotsStand.{HasTables, born_at}
use Rattle.lib_os.proofs.Trying.{LivesOn}
use Rattle.lib_os.proofs.WordsTell.{outside_stack}
use Rattle.jos_base.proofs.Puts.{put-other}

-- ---- the call that gives it back

module _ (s : KernelState) (n : ℕ) where
  -- the spaces behind it
  abbrev pub without_working : SpacesState
  without_working = unmapped s.spaces (slot_at s n).directory working_page

  abbrev pub give_asked : CallStep Called
  give_asked = system s n SYS_PAGE_UNMAP (0 ∷ UTEMP ∷ 0 ∷ 0 ∷ 0 ∷ [])

  pub give_is : is_live (slot_at s n) ≡ true → give_asked ≡ giving (with_spaces s without_working) (Answered 0)
  give_is live = page_unmap_is s n live UTEMP (0 ∷ 0 ∷ 0 ∷ []) refl

  pub give_lives : is_live (slot_at s n) ≡ true → LivesOn give_asked n (slot_at s n).registers
  give_lives live =
      subst (λ (z : CallStep Called). LivesOn z n (slot_at s n).registers) (sym (give_is live))
      (record { live = live; registers = refl; written = refl })

  -- it takes no frames
  pub give_takes : TakesAtMost 0 s.spaces without_working
  give_takes = unmapped_more s.spaces (slot_at s n).directory working_page

  -- no more pages of the environment wait to be copied than before
  pub given_copies : copies_left (rows_of without_working (slot_at s n).directory) ≤ copies_left (rows_of s.spaces (slot_at s n).directory)
  given_copies =
      put_copies s.spaces without_working (slot_at s n).directory working_page None
      (unmapped_entries s.spaces (slot_at s n).directory working_page) refl

  pub give_removes : {names : Names} {a : AbstractState} → StandsFor names s a →
      Removed s.spaces without_working (slot_at s n).directory working_page
  give_removes h = unmapped_removed s.spaces (slot_at s n).directory working_page h.in_order.frames

-- ---- the space behind it

module _ {names : Names} {s : KernelState} {a : AbstractState} {sp : SpacesState} (h : StandsFor names s a) (n : ℕ) (b : Born) (is : a.slots n ≡ born b)
    (removed : Removed s.spaces sp (slot_at s n).directory working_page) where
  abbrev d : ℕ
  d = (slot_at s n).directory

  pub given_puts : Puts names names s.spaces sp d working_page None
  given_puts = record {
    rows = removed.rows;
    bytes = λ q r x ne hx.
        removed.bytes q r x (ap (λ (rows : Rows). rows q r) removed.rows ∙ put-other (rows_of s.spaces) d working_page None q r ne ∙ hx);
    named_so = λ q r x hx shared_page. refl;
    regions = λ q r ne. removed.regions q r;
  }

  pub given_row : PutsRow names names s.spaces.pages a.shared sp.pages a.shared (things_in s a) a.next_name a.next_name
      (logical s.spaces s.environments.slots) n working_page None
  given_row = record {
    bytes = bytes_elsewhere h n b is given_puts;
    agree = λ m q x e ne hx is_some same. absurd (none-some e is_some);
    user = λ e is_some. absurd (none-some e is_some);
    whole = λ e is_some. absurd (none-some e is_some);
    beside = λ q e y is_some there. absurd (none-some e is_some);
    named_new = λ e is_some. absurd (none-some e is_some);
    named_old = λ m q x ne hx shared_page was. named_bytes (sym (bytes_elsewhere h n b is given_puts m q x ne hx)) was;
  }

  pub given_tables : HasTables sp d b.regions
  given_tables = record {
    have = λ r has. removed.regions d r ∙ (born_at h n b is).regions_have r has;
    only = λ r has. (born_at h n b is).regions_only r (sym (removed.regions d r) ∙ has);
  }

-- ---- the state behind it

module _ {names : Names} {s : KernelState} {a : AbstractState} {sp : SpacesState} (h : StandsFor names s a) (n fd va len : ℕ)
    (stands : place_of (slot_at s n) ≡ place.InService (service.Write fd va len) step.Releasing)
    (removed : Removed s.spaces sp (slot_at s n).directory working_page) (in_order : IsInOrder (with_spaces s sp))
    (last : s.last ≡ Some n) where
  -- the registers of the program, with the answer
  abbrev regs : Regs
  regs = record (slot_at s n).registers { eax = wanted_of len }

  abbrev back : Slot
  back = record (slot_at s n) { registers = regs; extra = no_extra }

  v : IsServed names s a n (service.Write fd va len) step.Releasing
  v = served h n (service.Write fd va len) step.Releasing stands

  printed : HasPrinted (slot_at s n) v.b len
  printed = v.at

  given_at : IsAtGuest back v.b
  given_at = record {
    program = printed.program;
    phase = printed.phase;
    words = refl;
    silent = printed.silent;
    awake = printed.awake;
  }

  pub page_given_stands : StandsFor names (service_answered (with_spaces s sp) n (wanted_of len)) a
  page_given_stands =
      working_stands h n v.b v.is v.own v.outside (ap borne_in v.place) (ap is_calm v.place) (given_puts h n v.b v.is removed) last regs no_extra place.Guest
      (words_of_none regs no_extra v.outside refl) refl refl refl (ap others_kept v.place) refl refl (λ is. absurd (let contradiction : false ≡ true = is in cc)) (λ is. refl)
      (given_tables h n v.b v.is removed) given_at (given_row h n v.b v.is removed) in_order

-- ---- what the step comes to

module _ (s : KernelState) (n fd va len : ℕ) (stands : place_of (slot_at s n) ≡ place.InService (service.Write fd va len) step.Releasing) where
  abbrev after : KernelState
  after = service_answered (with_spaces s (without_working s n)) n (wanted_of len)

  pub releasing_keeps : IsInOrder (with_spaces s (without_working s n)) → KeepsStanding progress.Hidden n s after []
  releasing_keeps in_order a h turn quiet = (refl, (h.0, page_given_stands h.1 n fd va len stands (give_removes s n h.1) in_order turn.last))

  abbrev answered_slot : Slot
  answered_slot = record (slot_at s n) { registers = record (slot_at s n).registers { eax = wanted_of len }; extra = no_extra }

  slot_is : slot_at after n ≡ answered_slot
  slot_is = slot_put (with_spaces s (without_working s n)) n answered_slot

  -- it is at its program
  pub released_place : place_of (slot_at after n) ≡ place.Guest
  released_place =
      ap (λ (k : Slot). place_of k) slot_is
      ∙ words_of_none (record (slot_at s n).registers { eax = wanted_of len }) no_extra
      (outside_stack (slot_at s n).registers (slot_at s n).extra (place.InService (service.Write fd va len) step.Releasing) stands refl) refl

  -- and fewer steps are left
  pub released_lower : hidden_left after n < hidden_left s n
  released_lower =
      subst (λ (p : Place). left_at p (copies_left (rows_of after.spaces (slot_at after n).directory)) < hidden_left s n) (sym released_place)
      (subst (λ (k : Slot). copy_steps * copies_left (rows_of after.spaces k.directory) < hidden_left s n) (sym slot_is)
      (subst (λ (p : Place). copy_steps * copies_left (rows_of after.spaces (slot_at s n).directory)
      < left_at p (copies_left (rows_of s.spaces (slot_at s n).directory))) (sym stands) less))
    where
      less : copy_steps * copies_left (rows_of (without_working s n) (slot_at s n).directory)
          < 1 + copy_steps * copies_left (rows_of s.spaces (slot_at s n).directory)
      less = let fewer = given_copies s n in omega (arith, fewer)

  pub releasing_lowers : Lowers (Ok progress.Hidden) n s after
  releasing_lowers a h turn quiet = inl released_lower
