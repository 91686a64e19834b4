-- open_file puts its mode into its page, behind the path.
use Rattle.std.proofs.Common.{◌≡◌, ◌∙◌, ◌+◌, ◌*◌, ◌<◌, ◌^◌, ℕ, true, List, refl, sym, ap, subst, arith}
use Rattle.std.specs.Int.{to_le_bytes, w32}
use Rattle.std.specs.List.{position_or_len}
use Rattle.std.specs.Prelude.{Some, slice_index}
use Rattle.std.proofs.lemmas.Option.{same_Some}
use Rattle.jos_base.specs.declared.numbers.TheConstants.{PGSIZE, UTEMP}
use Rattle.jos_base.specs.declared.registers.Regs.{Regs}
use Rattle.jos_base.specs.KernelState.{KernelState, slot_at, with_spaces}
use Rattle.jos_base.specs.SpacesState.{SpacesState}
use Rattle.jos_base.specs.Words.{word_at}
use Rattle.lib_os.specs.declared.numbers.TheConstants.{REQUEST_MODE, SERVICE_OPEN_FILE}
use Rattle.lib_os.specs.declared.place.Place.{Place}
use Rattle.lib_os.specs.declared.place.Place.TheVariants as place
use Rattle.lib_os.specs.declared.place.Step.{Step}
use Rattle.lib_os.specs.declared.place.Step.TheVariants as step
use Rattle.lib_os.specs.declared.service.Service.{Service}
use Rattle.lib_os.specs.declared.service.Service.TheVariants as service
use Rattle.lib_os.specs.AbstractState.{AbstractState}
use Rattle.lib_os.specs.FileServices.{is_nul}
use Rattle.lib_os.specs.LibraryPages.{HasTaken, IsOwnWritable, View}
use Rattle.lib_os.specs.Places.{place_of, words_at}
use Rattle.lib_os.specs.Rows.{EntryRow, IsPage, Names, Rows, logical, rows_of}
use Rattle.lib_os.specs.Services.{named_service, service_of}
use Rattle.lib_os.specs.InService.{IsLowestFree}
use Rattle.lib_os.specs.StandsFor.{HasFoundFree, HasWholePath, HasWordAt, StandsAt, StandsFor, borne_in, view_of}
use Rattle.lib_os.specs.UserCalls.{store}
use Rattle.lib_os.proofs.BytesKept.{PutsBytes, store_puts, unseen_rewritten, working_below}
use Rattle.lib_os.proofs.BytesPut.{bytes_put, put_before, put_whole}
use Rattle.lib_os.proofs.FileStored.{IsStored, put_word_at}
use Rattle.lib_os.proofs.GoingOn.{words_stand}
use Rattle.lib_os.proofs.Logical.{is_plain, logical_plain}
use Rattle.lib_os.proofs.Numbered.{named_at, number_of}
use Rattle.lib_os.proofs.PageBytes.{word_bytes}
use Rattle.lib_os.proofs.PageTaken.{working_no_descriptor, working_outside, working_page}
use Rattle.lib_os.proofs.PipesStand.{is_calm}
use Rattle.lib_os.proofs.RequestPages.{whole_moved}
use Rattle.lib_os.proofs.Serving.{IsServed, holds_page, plain_working, served, works}
use Rattle.lib_os.proofs.SlotsStand.{born_at}
use Rattle.lib_os.proofs.StatesStand.{clients_live, others_counts}
use Rattle.lib_os.proofs.WordsTell.{is_in_handler}
use Rattle.jos_base.proofs.Maps.{upd-at}

-- ---- the mode is a word

abbrev mode_of : Service → ℕ
mode_of (service.OpenFile path mode) = mode
mode_of _ = 0

mode_register : (r : Regs) (path mode : ℕ) → service_of (record r { eax = SERVICE_OPEN_FILE }) ≡ service.OpenFile path mode → r.ecx ≡ mode
unfolding service_of named_service
mode_register r path mode is = ap mode_of is

pub mode_small : (s : KernelState) (n path mode : ℕ) (at : Step) → place_of (slot_at s n) ≡ place.InService (service.OpenFile path mode) at →
    (slot_at s n).registers.ecx < 2 ^ 32 → mode < 2 ^ 32
mode_small s n path mode at stands small =
    subst (λ (m : ℕ). m < 2 ^ 32) (mode_register (slot_at s n).registers path mode (named_at (slot_at s n) (service.OpenFile path mode) at stands)) small

-- ---- it is put there

module _ {names : Names} {s : KernelState} {a : AbstractState} (h : StandsFor names s a) (n path mode fd : ℕ) (small : mode < 2 ^ 32)
    (stands : place_of (slot_at s n) ≡ place.InService (service.OpenFile path mode) (step.StoringMode fd)) where
  abbrev call : Service
  call = service.OpenFile path mode

  abbrev home : ℕ
  home = (slot_at s n).directory

  abbrev seen : View
  seen = view_of s.spaces home

  abbrev v : IsServed names s a n (service.OpenFile path mode) (step.StoringMode fd)
  v = served h n call (step.StoringMode fd) stands

  it : HasFoundFree seen (slot_at s n) v.b call fd
  it = v.at

  plain : is_plain (place_of (slot_at s n)) ≡ true
  plain = ap is_plain stands

  page : IsOwnWritable (rows_of s.spaces home) working_page
  page = v.own.library.working (works (plain_working (place_of (slot_at s n)) (slot_at s n).extra (ap is_in_handler stands) ∙ ap holds_page stands))

  page_counts : logical s.spaces s.environments.slots n working_page ≡ Some page.entry
  page_counts = logical_plain s.spaces s.environments.slots n (clients_live h n v.b v.is) plain working_page ∙ page.stands

  page_whole : IsPage (s.spaces.pages page.entry.frame)
  page_whole = h.whole n working_page page.entry page_counts

  puts : PutsBytes s n page.entry REQUEST_MODE (to_le_bytes w32 mode) (store s n (UTEMP + REQUEST_MODE) mode)
  puts =
      let place_is : working_page * PGSIZE + REQUEST_MODE ≡ UTEMP + REQUEST_MODE = omega arith in
      subst (λ (at : ℕ). PutsBytes s n page.entry REQUEST_MODE (to_le_bytes w32 mode) (store s n at mode)) place_is
      (store_puts s n working_page working_below page.entry page.stands (h.users n working_page page.entry page_counts).page page.writes REQUEST_MODE
      (omega arith) mode (omega arith))

  abbrev sp : SpacesState
  sp = puts.spaces

  abbrev after : View
  after = view_of sp home

  abbrev now : List ℕ
  now = bytes_put (s.spaces.pages page.entry.frame) REQUEST_MODE (to_le_bytes w32 mode)

  row_same : rows_of sp home ≡ rows_of s.spaces home
  row_same = ap (λ (rows : Rows). rows home) puts.rewritten.rows

  now_whole : IsPage now
  now_whole = put_whole (s.spaces.pages page.entry.frame) REQUEST_MODE (to_le_bytes w32 mode) (word_bytes mode) page_whole

  now_is : sp.pages page.entry.frame ≡ now
  now_is = ap (λ (pages : ℕ → List ℕ). pages page.entry.frame) puts.rewritten.pages ∙ upd-at s.spaces.pages page.entry.frame now

  mode_there : HasWordAt after REQUEST_MODE mode
  mode_there = record {
    entry = page.entry;
    stands = ap (λ (r : EntryRow). r working_page) row_same ∙ page.stands;
    own_page = page.own_page;
    word_is = ap (λ (l : List ℕ). word_at (slice_index l) REQUEST_MODE) now_is
        ∙ put_word_at (s.spaces.pages page.entry.frame) REQUEST_MODE mode small (let long = page_whole.long in omega (arith, long));
  }

  -- the path lies before it
  path_there : HasTaken after it.whole.bytes (position_or_len is_nul it.whole.bytes + 1)
  path_there =
      let kept = it.whole.kept in
      let ended = it.whole.ended in
      let few = it.whole.few in
      let same : kept.entry ≡ page.entry = same_Some kept.entry page.entry (sym kept.stands ∙ page.stands) in
      record {
        entry = page.entry;
        stands = ap (λ (r : EntryRow). r working_page) row_same ∙ page.stands;
        own_page = page.own_page;
        same = λ i lt.
            ap (λ (l : List ℕ). slice_index l i) now_is
            ∙ put_before (s.spaces.pages page.entry.frame) REQUEST_MODE (to_le_bytes w32 mode) i (omega (arith, lt, ended, few))
            ∙ (λ j. slice_index (s.spaces.pages (sym same j).frame) i) ∙ kept.same i lt;
      }

  whole_there : HasWholePath after (slot_at s n) v.b call
  whole_there = record {
    bytes = it.whole.bytes;
    is_in = it.whole.is_in;
    few = it.whole.few;
    small = it.whole.small;
    ended = it.whole.ended;
    kept = path_there;
  }

  lowest_there : IsLowestFree after.row fd
  lowest_there = subst (λ (r : EntryRow). IsLowestFree r fd) (sym row_same) it.lowest

  pub mode_stored : IsStored names s a n (service.OpenFile path mode) REQUEST_MODE mode (step.OpenIdentifying fd)
  mode_stored =
      let to = step.OpenIdentifying fd in
      let words = words_at (number_of call) to in
      record {
        spaces = sp;
        step_is = puts.step_is;
        stands = λ order last.
            let still : StandsFor names (with_spaces s sp) a =
            unseen_rewritten h n v.b v.is working_page
            (logical_plain s.spaces s.environments.slots n (clients_live h n v.b v.is) plain working_page) working_outside working_no_descriptor page.entry page.stands page.own_page page.writes
            now now_whole puts.rewritten order (others_counts h n last sp)
            (subst (λ (q : Place). StandsAt q after (slot_at s n) v.b) (sym stands) (record { whole = whole_there; lowest = lowest_there })) in
            words_stand still n (number_of call) v.b v.is (born_at still n v.b v.is) v.outside (ap borne_in stands) (ap is_calm stands) call to
            (ap holds_page stands) refl refl
            (named_at (slot_at s n) call (step.StoringMode fd) stands)
            (lowest_there, record { whole = whole_moved after (slot_at s n) v.b (slot_at s n).status words call whole_there; mode_told = mode_there });
      }
