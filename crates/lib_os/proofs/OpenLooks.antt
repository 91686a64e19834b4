-- open_file refuses a mode that is none. Once its page has its path, it looks for the lowest descriptor that is free: whether the region of descriptors' pages has a table, and
-- then which of their pages is not there. Where all are, it refuses, as it gives its page back.
use Rattle.std.proofs.Common.{◌≡◌, ◌∙◌, ◌+◌, ◌<◌, ◌≤◌, ◌==◌, inl, inr, ℕ, true, false, List, [], Some, None, refl, sym, ap, arith}
use Rattle.std.specs.Prelude.{bit_and, is_none, is_some}
use Rattle.std.proofs.lemmas.Bool.{cases_eq}
use Rattle.jos_base.specs.declared.numbers.TheConstants.{E_INVAL, E_MAX_OPEN, PTE_P}
use Rattle.jos_base.specs.declared.registers.Regs.{Regs}
use Rattle.jos_base.specs.Environments.{no_extra}
use Rattle.jos_base.specs.KernelState.{KernelState, slot_at, with_extra, with_spaces}
use Rattle.jos_base.specs.SpacesState.{SpacesState}
use Rattle.jos_base.specs.Words.{negated}
use Rattle.lib_os.specs.declared.numbers.TheConstants.{DESCRIPTORS}
use Rattle.lib_os.specs.declared.place.Place.TheVariants as place
use Rattle.lib_os.specs.declared.place.Step.TheVariants as step
use Rattle.lib_os.specs.declared.progress.Progress.TheVariants as progress
use Rattle.lib_os.specs.declared.service.Service.{Service}
use Rattle.lib_os.specs.declared.service.Service.TheVariants as service
use Rattle.lib_os.specs.AbstractRun.{abs_step}
use Rattle.lib_os.specs.AbstractState.{AbstractState, entered, gathering}
use Rattle.lib_os.specs.Answers.{refused}
use Rattle.lib_os.specs.Descriptors.{lowest_free}
use Rattle.lib_os.specs.FileServices.{is_mode, open_asked}
use Rattle.lib_os.specs.InOrder.{IsInOrder}
use Rattle.lib_os.specs.LibraryCall.{library_step}
use Rattle.lib_os.specs.LibraryPages.{View}
use Rattle.lib_os.specs.LibrarySteps.{KeepsStanding, service_answered}
use Rattle.lib_os.specs.Places.{place_of, words_at}
use Rattle.lib_os.specs.Rows.{EntryRow, Names, descriptor_page, rows_of}
use Rattle.lib_os.specs.InService.{EachIsOpenBelow, IsIn, IsOpen}
use Rattle.lib_os.specs.StandsFor.{HasWholePath, IsLookingForFree, StandsFor, borne_in, view_of}
use Rattle.lib_os.proofs.Answering.{back_stands}
use Rattle.lib_os.proofs.DescriptorLooks.{entry_va, no_table_row, none_there, page_told, page_word, read_goes_on, seen_calm, table_told, table_va, table_word}
use Rattle.lib_os.proofs.Effects.{Removed}
use Rattle.lib_os.proofs.FreeSeen.{all_seen}
use Rattle.lib_os.proofs.Loading.{loaded}
use Rattle.lib_os.proofs.Numbered.{number_of}
use Rattle.lib_os.proofs.PageGiven.{give_removes, given_puts, given_row, given_tables, without_working}
use Rattle.lib_os.proofs.PageTaken.{working_back, working_page}
use Rattle.lib_os.proofs.Paths.{path_ends}
use Rattle.lib_os.proofs.PipesStand.{is_calm}
use Rattle.lib_os.proofs.RequestPages.{whole_moved}
use Rattle.lib_os.proofs.Serving.{IsServed, holds_page, printed_nothing, served, step_in, words_of_none, others_kept}

-- ---- the mode

-- it is none, so that it refuses
pub open_mode_keeps : (s : KernelState) (n path mode : ℕ) → place_of (slot_at s n) ≡ place.InService (service.OpenFile path mode) step.Entered →
    is_mode mode ≡ false → KeepsStanding progress.Finished n s (service_answered s n (negated E_INVAL)) []
unfolding library_step
open_mode_keeps s n path mode stands off a h turn quiet =
    let v = served h.1 n (service.OpenFile path mode) step.Entered stands in
    let here : IsIn (slot_at s n) v.b (service.OpenFile path mode) entered = v.at in (
      refused a n v.b (slot_at s n).registers E_INVAL,
      step_in a n v.b (slot_at s n) (service.OpenFile path mode) entered v.is here ∙ rw off refl,
      printed_nothing a,
      (
        h.0,
        back_stands h.1 n v.b v.is (record (slot_at s n).registers { eax = negated E_INVAL }) (ap borne_in v.place) (ap holds_page v.place)
            (ap is_calm v.place) here.silent here.awake v.outside refl refl,
      ),
    )

-- ---- the region

module _ {names : Names} {s : KernelState} {a : AbstractState} (h : StandsFor names s a) (n path mode : ℕ)
    (stands : place_of (slot_at s n) ≡ place.InService (service.OpenFile path mode) step.FreeRegion) (order : IsInOrder (loaded s n table_va)) where
  abbrev call : Service
  call = service.OpenFile path mode

  abbrev seen : View
  seen = view_of s.spaces (slot_at s n).directory

  abbrev v : IsServed names s a n (service.OpenFile path mode) step.FreeRegion
  v = served h n call step.FreeRegion stands

  whole_with : (words : List ℕ) → HasWholePath seen (record (slot_at s n) { extra = words }) v.b call
  whole_with words = whole_moved seen (slot_at s n) v.b (slot_at s n).status words call v.at

  pub free_table_there : (bit_and (table_word s n) PTE_P == PTE_P) ≡ true →
      StandsFor names (with_extra (loaded s n table_va) n (words_at (number_of (service.OpenFile path mode)) (step.FreeEntry 0))) a
  free_table_there told =
      read_goes_on h n call step.FreeRegion v refl refl table_va order (step.FreeEntry 0) refl refl refl (record {
        whole = whole_with (words_at (number_of call) (step.FreeEntry 0));
        most = omega arith;
        lower = λ fd lt. absurd (omega (arith, lt));
        table = sym (table_told s n) ∙ told;
      })

  -- no page stands there
  pub free_table_missing : (bit_and (table_word s n) PTE_P == PTE_P) ≡ false →
      StandsFor names (with_extra (loaded s n table_va) n (words_at (number_of (service.OpenFile path mode)) (step.StoringMode 0))) a
  free_table_missing told =
      read_goes_on h n call step.FreeRegion v refl refl table_va order (step.StoringMode 0) refl refl refl (record {
        whole = whole_with (words_at (number_of call) (step.StoringMode 0));
        lowest = record {
          below = omega arith;
          vacant = no_table_row h n v.b v.is (sym (table_told s n) ∙ told) 0 (omega arith);
          lower = λ fd lt. absurd (omega (arith, lt));
        };
      })

-- ---- the entry of a descriptor's page

-- each is open up to the next one, where this one is
pub each_up_to : (row : EntryRow) (fd : ℕ) → EachIsOpenBelow row fd → IsOpen row fd → EachIsOpenBelow row (fd + 1)
each_up_to row fd each here q low = elim (cases_eq q fd) [
  | inl same ↦ ap (λ (r : ℕ). is_some (row (descriptor_page r))) same ∙ here
  | inr ne ↦ each q (omega (arith, low, ne))
]

module _ {names : Names} {s : KernelState} {a : AbstractState} (h : StandsFor names s a) (n path mode fd : ℕ) (below : fd < DESCRIPTORS)
    (stands : place_of (slot_at s n) ≡ place.InService (service.OpenFile path mode) (step.FreeEntry fd)) (order : IsInOrder (loaded s n (entry_va fd)))
  where
    abbrev opening : Service
    opening = service.OpenFile path mode

    abbrev space : View
    space = view_of s.spaces (slot_at s n).directory

    abbrev at_entry : IsServed names s a n (service.OpenFile path mode) (step.FreeEntry fd)
    at_entry = served h n opening (step.FreeEntry fd) stands

    it : IsLookingForFree space (slot_at s n) at_entry.b opening fd
    it = at_entry.at

    still_whole : (words : List ℕ) → HasWholePath space (record (slot_at s n) { extra = words }) at_entry.b opening
    still_whole words = whole_moved space (slot_at s n) at_entry.b (slot_at s n).status words opening it.whole

    pub free_entry_vacant : (bit_and (page_word s n fd) PTE_P == PTE_P) ≡ false →
        StandsFor names (with_extra (loaded s n (entry_va fd)) n (words_at (number_of (service.OpenFile path mode)) (step.StoringMode fd))) a
    free_entry_vacant told =
        read_goes_on h n opening (step.FreeEntry fd) at_entry refl refl (entry_va fd) order (step.StoringMode fd) refl refl refl (record {
          whole = still_whole (words_at (number_of opening) (step.StoringMode fd));
          lowest = record {
            below = below;
            vacant = none_there (rows_of s.spaces (slot_at s n).directory (descriptor_page fd)) (sym (page_told h n at_entry.b at_entry.is fd below) ∙ told);
            lower = it.lower;
          };
        })

    pub free_entry_taken : (bit_and (page_word s n fd) PTE_P == PTE_P) ≡ true →
        StandsFor names (with_extra (loaded s n (entry_va fd)) n (words_at (number_of (service.OpenFile path mode)) (step.FreeEntry (fd + 1)))) a
    free_entry_taken told =
        read_goes_on h n opening (step.FreeEntry fd) at_entry refl refl (entry_va fd) order (step.FreeEntry (fd + 1)) refl refl refl (record {
          whole = still_whole (words_at (number_of opening) (step.FreeEntry (fd + 1)));
          most = omega (arith, below);
          lower = each_up_to space.row fd it.lower (sym (page_told h n at_entry.b at_entry.is fd below) ∙ told);
          table = it.table;
        })

-- ---- all are open

module _ {names : Names} {s : KernelState} {a : AbstractState} {sp : SpacesState} (h : StandsFor names s a) (n path mode fd : ℕ)
    (past : DESCRIPTORS ≤ fd) (stands : place_of (slot_at s n) ≡ place.InService (service.OpenFile path mode) (step.FreeEntry fd))
    (removed : Removed s.spaces sp (slot_at s n).directory working_page) (in_order : IsInOrder (with_spaces s sp))
    (last : s.last ≡ Some n) where
  abbrev opens : Service
  opens = service.OpenFile path mode

  abbrev regs : Regs
  regs = record (slot_at s n).registers { eax = negated E_MAX_OPEN }

  w : IsServed names s a n (service.OpenFile path mode) (step.FreeEntry fd)
  w = served h n opens (step.FreeEntry fd) stands

  looks : IsLookingForFree (view_of s.spaces (slot_at s n).directory) (slot_at s n) w.b opens fd
  looks = w.at

  none_free : lowest_free w.b ≡ None
  none_free = all_seen h n w.b w.is (seen_calm h n w.b w.is (ap is_calm w.place)) (λ q low. looks.lower q (omega (arith, low, past)))

  full_step : abs_step a n ≡ Some (refused a n w.b (slot_at s n).registers E_MAX_OPEN)
  unfolding library_step
  full_step =
      let full : is_none (lowest_free w.b) ≡ true = ap is_none none_free in
      step_in a n w.b (slot_at s n) opens (gathering looks.whole.bytes) w.is looks.whole.is_in
      ∙ path_ends a n w.b (slot_at s n).registers opens path looks.whole.bytes (open_asked a n w.b (slot_at s n).registers opens mode) looks.whole.ended
      ∙ rw full refl

  full_stands : StandsFor names (service_answered (with_spaces s sp) n (negated E_MAX_OPEN)) (refused a n w.b (slot_at s n).registers E_MAX_OPEN)
  full_stands =
      working_back h n w.b w.is w.own w.outside (ap borne_in w.place) (ap is_calm w.place) (given_puts h n w.b w.is removed) last
      regs no_extra place.Guest (words_of_none regs no_extra w.outside refl) refl refl refl (ap others_kept w.place) refl refl refl
      looks.whole.is_in.silent looks.whole.is_in.awake refl refl
      (given_tables h n w.b w.is removed) (given_row h n w.b w.is removed) in_order

-- what the step comes to
pub full_keeps : (s : KernelState) (n path mode fd : ℕ) → DESCRIPTORS ≤ fd →
    place_of (slot_at s n) ≡ place.InService (service.OpenFile path mode) (step.FreeEntry fd) → IsInOrder (with_spaces s (without_working s n)) →
    KeepsStanding progress.Finished n s (service_answered (with_spaces s (without_working s n)) n (negated E_MAX_OPEN)) []
full_keeps s n path mode fd past stands in_order a h turn quiet = (
  _,
  full_step h.1 n path mode fd past stands (give_removes s n h.1) in_order turn.last,
  printed_nothing a,
  (h.0, full_stands h.1 n path mode fd past stands (give_removes s n h.1) in_order turn.last),
)
