-- seek and set_size put what they ask into their page, one word a step: the number of the file, and the offset or the size.
use Rattle.std.proofs.Common.{◌≡◌, ◌∙◌, ◌+◌, ◌*◌, ◌<◌, ◌≤◌, ◌^◌, ℕ, true, List, [], ◌∷◌, Some, refl, sym, ap, subst, arith}
use Rattle.std.specs.Int.{from_le_bytes, to_le_bytes, w32}
use Rattle.std.specs.Prelude.{get_or, length, slice_index}
use Rattle.std.proofs.lemmas.Nat.{from_le_bytes-to_le_bytes_4}
use Rattle.std.proofs.lemmas.Option.{same_Some}
use Rattle.jos_base.specs.declared.numbers.TheConstants.{PGSIZE, UTEMP}
use Rattle.jos_base.specs.KernelState.{KernelState, slot_at, with_extra, with_spaces}
use Rattle.jos_base.specs.Reach.{Entry}
use Rattle.jos_base.specs.SpacesState.{SpacesState}
use Rattle.jos_base.specs.Words.{word_at}
use Rattle.lib_os.specs.declared.numbers.TheConstants.{REQUEST_BYTES, REQUEST_COUNT, REQUEST_FILE}
use Rattle.lib_os.specs.declared.place.Place.{Place}
use Rattle.lib_os.specs.declared.place.Place.TheVariants as place
use Rattle.lib_os.specs.declared.place.Step.{Step}
use Rattle.lib_os.specs.declared.place.Step.TheVariants as step
use Rattle.lib_os.specs.declared.service.Service.{Service}
use Rattle.lib_os.specs.declared.service.Service.TheVariants as service
use Rattle.lib_os.specs.AbstractState.{AbstractState, Stage}
use Rattle.lib_os.specs.DescriptorPages.{lasting_words, number_of as number_in}
use Rattle.lib_os.specs.InOrder.{IsInOrder}
use Rattle.lib_os.specs.LibraryPages.{IsOwnWritable, View}
use Rattle.lib_os.specs.Places.{place_of, words_at}
use Rattle.lib_os.specs.Rows.{EntryRow, IsPage, Names, Rows, descriptor_page, logical, rows_of}
use Rattle.lib_os.specs.StandsFor.{AsksOfFile, HasFileNumber, HasForRequest, HasTakenFrom, HasWordAt, MayAskOf, StandsAt, StandsAtStep, StandsFor, TellsNumber, borne_in, count_given}
use Rattle.lib_os.specs.StandsFor.{view_of}
use Rattle.lib_os.specs.UserCalls.{giving, store}
use Rattle.lib_os.proofs.BytesKept.{PutsBytes, rewritten_devices, store_puts, unseen_rewritten, working_below}
use Rattle.lib_os.proofs.BytesPut.{bytes_put, put_before, put_behind, put_there, put_whole}
use Rattle.lib_os.proofs.DescriptorWords.{told_device, told_mode, told_number}
use Rattle.lib_os.proofs.FileAsks.{asks_of_file, count_storing, file_given, keeps_asked, number_storing, of_file_holds, of_file_with_page}
use Rattle.lib_os.proofs.FileAsks.{storing_count, storing_number, tells_identifying}
use Rattle.lib_os.proofs.GoingOn.{words_stand}
use Rattle.lib_os.proofs.Logical.{is_plain, logical_plain}
use Rattle.lib_os.proofs.Numbered.{named_at, number_of}
use Rattle.lib_os.proofs.PageBytes.{word_bytes}
use Rattle.lib_os.proofs.PageTaken.{working_no_descriptor, working_outside, working_page}
use Rattle.lib_os.proofs.RequestPages.{in_moved, request_plain, request_unborne}
use Rattle.lib_os.proofs.RequestsTold.{file_named_so}
use Rattle.lib_os.proofs.PipesStand.{is_calm, is_calm_step}
use Rattle.lib_os.proofs.Serving.{IsServed, holds_page, plain_working, served, kept_where, works}
use Rattle.lib_os.proofs.SlotsStand.{born_at, told_kept}
use Rattle.lib_os.proofs.StatesStand.{clients_live, others_counts}
use Rattle.lib_os.proofs.WordsTell.{is_in_handler}
use Rattle.jos_base.proofs.Maps.{upd-at}

-- ---- a word of a page

-- where it is put
pub put_word_at : (page : List ℕ) (o word : ℕ) → word < 2 ^ 32 → o + 4 ≤ length page →
    word_at (slice_index (bytes_put page o (to_le_bytes w32 word))) o ≡ word
put_word_at page o word small fits =
    let now : ℕ → ℕ = slice_index (bytes_put page o (to_le_bytes w32 word)) in
    let plain : o ≡ o + 0 = omega arith in
    let a : now o ≡ get_or (to_le_bytes w32 word) 0 0 = ap now plain ∙ put_there page o (to_le_bytes w32 word) 0 (omega arith) fits in
    let b : now (o + 1) ≡ get_or (to_le_bytes w32 word) 1 0 = put_there page o (to_le_bytes w32 word) 1 (omega arith) fits in
    let c : now (o + 2) ≡ get_or (to_le_bytes w32 word) 2 0 = put_there page o (to_le_bytes w32 word) 2 (omega arith) fits in
    let d : now (o + 3) ≡ get_or (to_le_bytes w32 word) 3 0 = put_there page o (to_le_bytes w32 word) 3 (omega arith) fits in
    (λ i. from_le_bytes w32 (a i ∷ b i ∷ c i ∷ d i ∷ [])) ∙ from_le_bytes-to_le_bytes_4 word small

-- and one before it
pub put_word_before : (page : List ℕ) (o word q : ℕ) → q + 4 ≤ o →
    word_at (slice_index (bytes_put page o (to_le_bytes w32 word))) q ≡ word_at (slice_index page) q
put_word_before page o word q below =
    let a = put_before page o (to_le_bytes w32 word) q (omega (arith, below)) in
    let b = put_before page o (to_le_bytes w32 word) (q + 1) (omega (arith, below)) in
    let c = put_before page o (to_le_bytes w32 word) (q + 2) (omega (arith, below)) in
    let d = put_before page o (to_le_bytes w32 word) (q + 3) (omega (arith, below)) in
    λ i. from_le_bytes w32 (a i ∷ b i ∷ c i ∷ d i ∷ [])

-- ---- a word is put into the page

-- What the store comes to: it gives nothing, and the state behind it stands for the same abstract one at the next step.
pub record IsStored (names : Names) (s : KernelState) (a : AbstractState) (n : ℕ) (call : Service) (o word : ℕ) (to : Step) : Type 0 where
  pub spaces : SpacesState
  pub step_is : store s n (UTEMP + o) word ≡ giving (with_spaces s spaces) tt
  pub stands : IsInOrder (with_spaces s spaces) → s.last ≡ Some n → StandsFor names (with_extra (with_spaces s spaces) n (words_at (number_of call) to)) a

module _ {names : Names} {s : KernelState} {a : AbstractState} (h : StandsFor names s a) (n : ℕ) (call : Service) (is : asks_of_file call ≡ true)
    (from : Step) (stands : place_of (slot_at s n) ≡ place.InService call from) (keeps : keeps_asked from ≡ true) (o word : ℕ)
    (inside : o + 4 ≤ 8) where
  abbrev home : ℕ
  home = (slot_at s n).directory

  abbrev seen : View
  seen = view_of s.spaces home

  abbrev pub at_step : IsServed names s a n call from
  at_step = served h n call from stands

  held : holds_page (place.InService call from) ≡ kept_where true
  held = of_file_holds call is from keeps

  plain : is_plain (place_of (slot_at s n)) ≡ true
  plain = ap is_plain stands ∙ request_plain call (of_file_with_page call is) from

  page : IsOwnWritable (rows_of s.spaces home) working_page
  page =
      at_step.own.library.working
      (works (plain_working (place_of (slot_at s n)) (slot_at s n).extra (ap is_in_handler stands) ∙ ap holds_page stands ∙ held))

  page_counts : logical s.spaces s.environments.slots n working_page ≡ Some page.entry
  page_counts = logical_plain s.spaces s.environments.slots n (clients_live h n at_step.b at_step.is) plain working_page ∙ page.stands

  page_whole : IsPage (s.spaces.pages page.entry.frame)
  page_whole = h.whole n working_page page.entry page_counts

  puts : PutsBytes s n page.entry o (to_le_bytes w32 word) (store s n (UTEMP + o) word)
  puts =
      let place_is : working_page * PGSIZE + o ≡ UTEMP + o = omega arith in
      subst (λ (at : ℕ). PutsBytes s n page.entry o (to_le_bytes w32 word) (store s n at word)) place_is
      (store_puts s n working_page working_below page.entry page.stands (h.users n working_page page.entry page_counts).page page.writes o
      (omega (arith, inside)) word (omega (arith, inside)))

  abbrev sp : SpacesState
  sp = puts.spaces

  abbrev after : View
  after = view_of sp home

  abbrev now : List ℕ
  now = bytes_put (s.spaces.pages page.entry.frame) o (to_le_bytes w32 word)

  row_same : rows_of sp home ≡ rows_of s.spaces home
  row_same = ap (λ (rows : Rows). rows home) puts.rewritten.rows

  now_whole : IsPage now
  now_whole = put_whole (s.spaces.pages page.entry.frame) o (to_le_bytes w32 word) (word_bytes word) page_whole

  now_is : sp.pages page.entry.frame ≡ now
  now_is = ap (λ (pages : ℕ → List ℕ). pages page.entry.frame) puts.rewritten.pages ∙ upd-at s.spaces.pages page.entry.frame now

  -- the word is there
  word_put : word < 2 ^ 32 → HasWordAt after o word
  word_put small = record {
    entry = page.entry;
    stands = ap (λ (r : EntryRow). r working_page) row_same ∙ page.stands;
    own_page = page.own_page;
    word_is = ap (λ (l : List ℕ). word_at (slice_index l) o) now_is
        ∙ put_word_at (s.spaces.pages page.entry.frame) o word small (let long = page_whole.long in omega (arith, long, inside));
  }

  -- and so is one before it
  word_still : (q told : ℕ) → q + 4 ≤ o → HasWordAt seen q told → HasWordAt after q told
  word_still q told below had =
      let same : had.entry ≡ page.entry = same_Some had.entry page.entry (sym had.stands ∙ page.stands) in
      record {
        entry = page.entry;
        stands = ap (λ (r : EntryRow). r working_page) row_same ∙ page.stands;
        own_page = page.own_page;
        word_is = ap (λ (l : List ℕ). word_at (slice_index l) q) now_is
            ∙ put_word_before (s.spaces.pages page.entry.frame) o word q below
            ∙ ap (λ (e : Entry). word_at (slice_index (s.spaces.pages e.frame)) q) (sym same) ∙ had.word_is;
      }

  -- and so are bytes behind what the request tells before
  bytes_still : (bytes : List ℕ) (m : ℕ) → HasTakenFrom seen REQUEST_BYTES bytes m → HasTakenFrom after REQUEST_BYTES bytes m
  bytes_still bytes m had =
      let same : had.entry ≡ page.entry = same_Some had.entry page.entry (sym had.stands ∙ page.stands) in
      record {
        entry = page.entry;
        stands = ap (λ (r : EntryRow). r working_page) row_same ∙ page.stands;
        own_page = page.own_page;
        same = λ i lt. ap (λ (l : List ℕ). slice_index l (REQUEST_BYTES + i)) now_is
            ∙ put_behind (s.spaces.pages page.entry.frame) o (to_le_bytes w32 word) (REQUEST_BYTES + i) (omega (arith, inside))
            ∙ ap (λ (e : Entry). slice_index (s.spaces.pages e.frame) (REQUEST_BYTES + i)) (sym same) ∙ had.same i lt;
      }

  request_still : (asker : Service) (stage : Stage) (mode : ℕ) → MayAskOf asker mode → HasForRequest seen asker stage →
      HasForRequest after asker stage
  request_still (service.Seek of offset) stage mode allowed had = had
  request_still (service.SetSize of size) stage mode allowed had = had
  request_still (service.Read of va len) stage mode allowed had = had
  request_still (service.Stat of va) stage mode allowed had = had
  request_still (service.Write of va len) stage mode allowed had = record {
    bytes = had.bytes;
    stage_is = had.stage_is;
    buffer = had.buffer;
    many = had.many;
    kept = bytes_still had.bytes (length had.bytes) had.kept;
  }
  request_still _ stage mode allowed had = absurd allowed

  module _ (order : IsInOrder (with_spaces s sp)) where
    -- what the descriptor's page tells is what it told
    told_still : (it : AsksOfFile seen (slot_at s n) at_step.b call (file_given call)) →
        lasting_words (s.spaces.pages it.of_file.file.entry.frame) ≡ lasting_words (sp.pages it.of_file.file.entry.frame)
    told_still it =
        sym (told_kept seen after row_same
        (rewritten_devices h n at_step.b at_step.is working_page
        (logical_plain s.spaces s.environments.slots n (clients_live h n at_step.b at_step.is) plain working_page) working_outside working_no_descriptor page.entry page.stands page.own_page
        page.writes now now_whole puts.rewritten order) (file_given call) it.of_file.below it.of_file.file.entry it.of_file.file.stands)

    abbrev asks_still : (words : List ℕ) → AsksOfFile seen (slot_at s n) at_step.b call (file_given call) →
        AsksOfFile after (record (slot_at s n) { extra = words }) at_step.b call (file_given call)
    asks_still words it = record {
      stage = it.stage;
      of_file = record {
        is_in = in_moved seen (slot_at s n) at_step.b (slot_at s n).status words call it.stage it.of_file.is_in;
        below = it.of_file.below;
        file = record {
          entry = it.of_file.file.entry;
          stands = ap (λ (r : EntryRow). r (descriptor_page (file_given call))) row_same ∙ it.of_file.file.stands;
          device = ap told_device (sym (told_still it)) ∙ it.of_file.file.device;
        };
      };
      allowed = subst (λ (mode : ℕ). MayAskOf call mode) (ap told_mode (told_still it)) it.allowed;
      has = request_still call it.stage _ it.allowed it.has;
    }

    number_still : (it : AsksOfFile seen (slot_at s n) at_step.b call (file_given call)) →
        HasWordAt after REQUEST_FILE (number_in (s.spaces.pages it.of_file.file.entry.frame)) →
        HasWordAt after REQUEST_FILE (number_in (sp.pages it.of_file.file.entry.frame))
    number_still it had = subst (λ (number : ℕ). HasWordAt after REQUEST_FILE number) (ap told_number (told_still it)) had

    -- at the next step of the service
    store_goes_on : s.last ≡ Some n → is_calm_step from ≡ true → (so : StandsAtStep after (slot_at s n) at_step.b call from) (to : Step) →
        keeps_asked to ≡ true → is_calm_step to ≡ true →
        StandsAtStep after (record (slot_at s n) { extra = words_at (number_of call) to }) at_step.b call to →
        StandsFor names (with_extra (with_spaces s sp) n (words_at (number_of call) to)) a
    store_goes_on last calm so to keeps_too calm_too then_so =
        let still : StandsFor names (with_spaces s sp) a =
        unseen_rewritten h n at_step.b at_step.is working_page
        (logical_plain s.spaces s.environments.slots n (clients_live h n at_step.b at_step.is) plain working_page) working_outside working_no_descriptor page.entry page.stands page.own_page
        page.writes now now_whole puts.rewritten order (others_counts h n last sp)
        (subst (λ (q : Place). StandsAt q after (slot_at s n) at_step.b) (sym stands) so) in
        words_stand still n (number_of call) at_step.b at_step.is (born_at still n at_step.b at_step.is) at_step.outside
        (ap borne_in stands ∙ request_unborne call (of_file_with_page call is) from) (ap is_calm stands ∙ calm) call to
        (ap holds_page stands ∙ held ∙ sym (of_file_holds call is to keeps_too)) (request_unborne call (of_file_with_page call is) to) calm_too
        (named_at (slot_at s n) call from stands) then_so

-- ---- the number of the file

module _ {names : Names} {s : KernelState} {a : AbstractState} (h : StandsFor names s a) (n : ℕ) (call : Service) (is : asks_of_file call ≡ true)
    (number : ℕ) (stands : place_of (slot_at s n) ≡ place.InService call (step.StoringNumber number)) where
  abbrev fd : ℕ
  fd = file_given call

  abbrev space : View
  space = view_of s.spaces (slot_at s n).directory

  abbrev v : IsServed names s a n call (step.StoringNumber number)
  v = at_step h n call is (step.StoringNumber number) stands refl REQUEST_FILE number (omega arith)

  it : HasFileNumber space (slot_at s n) v.b call fd number
  it = storing_number space (slot_at s n) v.b call is number v.at

  small : number < 2 ^ 32
  small =
      let told = file_named_so h n v.b v.is (ap borne_in stands ∙ request_unborne call (of_file_with_page call is) (step.StoringNumber number))
      (ap is_calm stands) fd it.asks in
      let below = told.told.below in
      let same = it.number_is in
      omega (arith, below, same)

  pub number_stored : IsStored names s a n call REQUEST_FILE number step.StoringCount
  number_stored =
      let from = step.StoringNumber number in
      let put = puts h n call is from stands refl REQUEST_FILE number (omega arith) in
      let then_words = words_at (number_of call) step.StoringCount in
      record {
        spaces = put.spaces;
        step_is = put.step_is;
        stands = λ order last.
            let seen_after : View = view_of put.spaces (slot_at s n).directory in
            let asks = asks_still h n call is from stands refl REQUEST_FILE number (omega arith) order in
            let told = told_still h n call is from stands refl REQUEST_FILE number (omega arith) order it.asks in
            store_goes_on h n call is from stands refl REQUEST_FILE number (omega arith) order last refl
            (number_storing seen_after (slot_at s n) v.b call is number (record {
              asks = asks (slot_at s n).extra it.asks;
              number_is = it.number_is ∙ ap told_number told;
            })) step.StoringCount refl refl
            (count_storing seen_after (record (slot_at s n) { extra = then_words }) v.b call is (record {
              asks = asks then_words it.asks;
              number_told = number_still h n call is from stands refl REQUEST_FILE number (omega arith) order it.asks
                  (subst (λ (w : ℕ). HasWordAt seen_after REQUEST_FILE w) it.number_is
                  (word_put h n call is from stands refl REQUEST_FILE number (omega arith) small));
            }));
      }

-- ---- and what goes with it

module _ {names : Names} {s : KernelState} {a : AbstractState} (h : StandsFor names s a) (n : ℕ) (call : Service) (is : asks_of_file call ≡ true)
    (stands : place_of (slot_at s n) ≡ place.InService call step.StoringCount) (fits : count_given call < 2 ^ 32) where
  abbrev view : View
  view = view_of s.spaces (slot_at s n).directory

  abbrev what : ℕ
  what = count_given call

  abbrev served_there : IsServed names s a n call step.StoringCount
  served_there = at_step h n call is step.StoringCount stands refl REQUEST_COUNT what (omega arith)

  tells : TellsNumber view (slot_at s n) served_there.b call (file_given call)
  tells = storing_count view (slot_at s n) served_there.b call is served_there.at

  pub count_stored : IsStored names s a n call REQUEST_COUNT (count_given call) step.Identifying
  count_stored =
      let from = step.StoringCount in
      let put = puts h n call is from stands refl REQUEST_COUNT what (omega arith) in
      let then_words = words_at (number_of call) step.Identifying in
      record {
        spaces = put.spaces;
        step_is = put.step_is;
        stands = λ order last.
            let seen_after : View = view_of put.spaces (slot_at s n).directory in
            let asks = asks_still h n call is from stands refl REQUEST_COUNT what (omega arith) order in
            let number_there = number_still h n call is from stands refl REQUEST_COUNT what (omega arith) order tells.asks
            (word_still h n call is from stands refl REQUEST_COUNT what (omega arith) REQUEST_FILE _ (omega arith) tells.number_told) in
            store_goes_on h n call is from stands refl REQUEST_COUNT what (omega arith) order last refl
            (count_storing seen_after (slot_at s n) served_there.b call is (record {
              asks = asks (slot_at s n).extra tells.asks;
              number_told = number_there;
            })) step.Identifying refl refl
            (tells_identifying seen_after (record (slot_at s n) { extra = then_words }) served_there.b call is (record {
              asks = asks then_words tells.asks;
              number_told = number_there;
              count_told = word_put h n call is from stands refl REQUEST_COUNT what (omega arith) fits;
            }));
      }
