-- The kernel's state goes on standing for the same abstract one where a service keeps bytes of the path that it is given in its page: no other client has the
-- frame of that, and nothing is seen of it. Then its page has more of them, and it goes on by whether the end of the path is among them.
use Rattle.std.proofs.Common.{◌≡◌, ◌≢◌, ◌∙◌, ◌==◌, ◌&&◌, ◌||◌, ◌+◌, ◌-◌, ◌*◌, ◌/◌, ◌%◌, ◌^◌, ◌<◌, ◌≤◌, ℕ, zero, suc, Bool, true, false, not}
use Rattle.std.proofs.Common.{List, ◌∷◌, [], length, None, Some, refl, sym, ap, subst, arith, if◌then◌else◌}
use Rattle.std.specs.Prelude.{drop, nat_le, nat_lt, slice_index, take}
use Rattle.std.specs.Int.{w32, to_le_bytes}
use Rattle.std.specs.List.{position_or_len}
use Rattle.std.proofs.lemmas.Bool.Decides.{nat_tests}
use Rattle.std.proofs.lemmas.List.Sums.{fails_before_first, passes_at_first}
use Rattle.std.proofs.lemmas.Option.{same_Some}
use Rattle.jos_base.specs.declared.numbers.TheConstants.{PGSIZE, UTEMP}
use Rattle.jos_base.specs.KernelState.{KernelState, slot_at, with_extra, with_spaces}
use Rattle.jos_base.specs.SpacesState.{SpacesState}
use Rattle.jos_base.specs.SystemCalls.{is_page_perm}
use Rattle.jos_base.specs.Words.{page_number}
use Rattle.fs_layout.specs.declared.numbers.TheConstants.{MAXPATHLEN}
use Rattle.lib_os.specs.declared.place.Place.{Place}
use Rattle.lib_os.specs.declared.place.Place.TheVariants as place
use Rattle.lib_os.specs.declared.place.Step.{Step}
use Rattle.lib_os.specs.declared.place.Step.TheVariants as step
use Rattle.lib_os.specs.declared.service.Service.{Service}
use Rattle.lib_os.specs.AbstractState.{AbstractState, gathering, in_service}
use Rattle.lib_os.specs.FileServices.{is_nul}
use Rattle.lib_os.specs.InOrder.{IsInOrder}
use Rattle.lib_os.specs.LibraryPages.{LibraryPages, IsOwnWritable, HasTaken}
use Rattle.lib_os.specs.Places.{place_of, words_at}
use Rattle.lib_os.specs.Rows.{AreBytes, EntryRow, IsPage, Names, Rows, logical, rows_of}
use Rattle.lib_os.specs.StandsFor.{IsGatheringPath, IsKeepingPath, IsTakingPath, StandsAt, StandsAtStep, StandsFor, borne_in, refuses_next, view_of}
use Rattle.lib_os.specs.StandsFor.{writes_buffer}
use Rattle.lib_os.specs.StandsInHandler.{HasNoEnd, is_refused_by, may_follow, stage_with, buffer_of}
use Rattle.lib_os.specs.UserCalls.{CallStep, giving, store, store_byte}
use Rattle.lib_os.proofs.BytesKept.{PutsBytes, kept_at_once, keeping, more_there, store_byte_puts, store_puts, unseen_rewritten, word_behind, word_byte}
use Rattle.lib_os.proofs.BytesKept.{working_below, working_no_descriptor, working_outside, working_page}
use Rattle.lib_os.proofs.BytesPut.{bytes_put, put_whole}
use Rattle.lib_os.proofs.Fences.{inside_below}
use Rattle.lib_os.proofs.GoingOn.{words_stand}
use Rattle.lib_os.proofs.Logical.{is_plain, logical_plain}
use Rattle.lib_os.proofs.Numbered.{named_at, number_of}
use Rattle.lib_os.proofs.PageBytes.{bytes_more, bytes_none, word_bytes}
use Rattle.lib_os.proofs.Paths.{follows_inside, gathers_path}
use Rattle.lib_os.proofs.PathServices.{has_path, keeping_path, path_before, path_gathering, path_holds, path_keeping, path_plain, path_unborne, path_whole}
use Rattle.lib_os.proofs.PathServices.{path_works, whole_calm, whole_holds, whole_step, whole_unborne}
use Rattle.lib_os.proofs.PipesStand.{is_calm, is_calm_step}
use Rattle.lib_os.proofs.Serving.{IsServed, holds_page, served, kept_where}
use Rattle.lib_os.proofs.SlotsStand.{born_at}
use Rattle.lib_os.proofs.StatesStand.{clients_live, others_counts}
use Rattle.jos_base.proofs.Maps.{upd-at}

-- ---- the end of a path

-- it is one of the bytes, or there is none
pub end_within : (bytes : List ℕ) → position_or_len is_nul bytes ≤ length bytes
end_within [] = omega arith
end_within (byte ∷ rest) = by_first (is_nul byte) (end_within rest)
  where
    by_first : (c : Bool) → position_or_len is_nul rest ≤ length rest →
        (if not c then 1 + position_or_len is_nul rest else 0) ≤ suc (length rest)
    by_first true behind = omega arith
    by_first false behind = omega (arith, behind)

-- no byte before it is its like
end_before : (bytes : List ℕ) (i : ℕ) → is_nul (slice_index bytes i) ≡ true → position_or_len is_nul bytes ≤ i
end_before bytes i is = by_place (nat_lt i (position_or_len is_nul bytes)) refl
  where
    by_place : (c : Bool) → nat_lt i (position_or_len is_nul bytes) ≡ c → position_or_len is_nul bytes ≤ i
    by_place true test =
        let contradiction : true ≡ false = sym is ∙ fails_before_first is_nul bytes i 0 (grind (arith, nat_tests)) in absurd cc
    by_place false test = grind (arith, nat_tests)

-- it comes behind so many more, none of which is it
end_later : (bytes : List ℕ) (done kept : ℕ) → done + kept ≤ length bytes → done ≤ position_or_len is_nul bytes →
    ((i : ℕ) → i < kept → is_nul (slice_index bytes (done + i)) ≡ false) → done + kept ≤ position_or_len is_nul bytes
end_later bytes done kept long first none = by_place (nat_lt (position_or_len is_nul bytes) (done + kept)) refl
  where
    by_place : (c : Bool) → nat_lt (position_or_len is_nul bytes) (done + kept) ≡ c → done + kept ≤ position_or_len is_nul bytes
    by_place true test =
        let lower : position_or_len is_nul bytes < done + kept = grind (arith, nat_tests) in
        let i : ℕ = position_or_len is_nul bytes - done in
        let place : done + i ≡ position_or_len is_nul bytes = omega (arith, first) in
        let off : is_nul (slice_index bytes (position_or_len is_nul bytes)) ≡ false =
        ap (λ (j : ℕ). is_nul (slice_index bytes j)) (sym place) ∙ none i (omega (arith, lower, first)) in
        let contradiction : true ≡ false = sym (passes_at_first is_nul bytes 0 (omega (arith, lower, long))) ∙ off in absurd cc
    by_place false test = grind (arith, nat_tests)

-- ---- what it keeps, and where it goes on

-- one of the bytes that are put at once is the end of the path
abbrev pub has_end : ℕ → ℕ → Bool
has_end kept word =
    is_nul (word % 256)
    || ((kept == 4) && (is_nul (word / 256 % 256) || is_nul (word / 65536 % 256) || is_nul (word / 16777216 % 256)))

-- Its page has so many bytes; at the next page of the path it looks at that.
abbrev pub path_step_behind : ℕ → ℕ → Step
path_step_behind path done =
    if may_follow path done && ((path + done) % 2 ^ 32 % PGSIZE == 0) then step.BufferRegion done 0 else step.Gathering done

abbrev pub path_step_behind_keeping : Service → ℕ → ℕ → ℕ → Step
path_step_behind_keeping call done word left =
    let kept = kept_at_once done left in
    let behind = (done + kept) % 2 ^ 32 in
    if has_end kept word then whole_step call
    else if nat_le left kept then path_step_behind (buffer_of call) behind
    else step.Keeping behind (word / 256) (left - kept)

-- What it comes to: the store gives nothing, and the state behind it stands for the same abstract one at the next step.
pub record IsPathKept (names : Names) (s : KernelState) (a : AbstractState) (n : ℕ) (call : Service) (done word left : ℕ) : Type 0 where
  pub spaces : SpacesState
  pub step_is : keeping s n done word left ≡ giving (with_spaces s spaces) tt
  pub stands : IsInOrder (with_spaces s spaces) → s.last ≡ Some n →
      StandsFor names (with_extra (with_spaces s spaces) n (words_at (number_of call) (path_step_behind_keeping call done word left))) a

-- the end is among these bytes, or not
record Tells (nul : Bool) (put : List ℕ) : Type 0 where
  has : nul ≡ true → (i : ℕ) × (i < length put) × (is_nul (slice_index put i) ≡ true)
  has_not : nul ≡ false → (i : ℕ) → i < length put → is_nul (slice_index put i) ≡ false

byte_tells : (word : ℕ) → Tells (has_end 1 word) (word % 256 ∷ [])
byte_tells word = by_byte (is_nul (word % 256)) refl
  where
    by_byte : (c : Bool) → is_nul (word % 256) ≡ c → Tells (c || false) (word % 256 ∷ [])
    by_byte true test = record {
      has = λ is. (0, omega arith, test);
      has_not = λ is. absurd (let contradiction : true ≡ false = is in cc);
    }
    by_byte false test = record {
      has = λ is. absurd (let contradiction : false ≡ true = is in cc);
      has_not = λ is i lt. first i lt;
    }
      where
        first : (i : ℕ) → i < 1 → is_nul (slice_index (word % 256 ∷ []) i) ≡ false
        first zero lt = test
        first (suc i) lt = absurd (omega (arith, lt))

word_tells : (word : ℕ) → Tells (has_end 4 word) (to_le_bytes w32 word)
word_tells word =
    by_bytes (is_nul (word % 256)) (is_nul (word / 256 % 256)) (is_nul (word / 65536 % 256)) (is_nul (word / 16777216 % 256)) refl refl refl refl
  where
    by_bytes : (c d e f : Bool) → is_nul (word % 256) ≡ c → is_nul (word / 256 % 256) ≡ d → is_nul (word / 65536 % 256) ≡ e →
        is_nul (word / 16777216 % 256) ≡ f → Tells (c || (true && (d || e || f))) (to_le_bytes w32 word)
    by_bytes true d e f first second third fourth = record {
      has = λ is. (0, omega arith, first);
      has_not = λ is. absurd (let contradiction : true ≡ false = is in cc);
    }
    by_bytes false true e f first second third fourth = record {
      has = λ is. (1, omega arith, second);
      has_not = λ is. absurd (let contradiction : true ≡ false = is in cc);
    }
    by_bytes false false true f first second third fourth = record {
      has = λ is. (2, omega arith, third);
      has_not = λ is. absurd (let contradiction : true ≡ false = is in cc);
    }
    by_bytes false false false true first second third fourth = record {
      has = λ is. (3, omega arith, fourth);
      has_not = λ is. absurd (let contradiction : true ≡ false = is in cc);
    }
    by_bytes false false false false first second third fourth = record {
      has = λ is. absurd (let contradiction : false ≡ true = is in cc);
      has_not = λ is i lt. each i lt;
    }
      where
        each : (i : ℕ) → i < 4 → is_nul (slice_index (to_le_bytes w32 word) i) ≡ false
        each zero lt = first
        each (suc zero) lt = second
        each (suc (suc zero)) lt = third
        each (suc (suc (suc zero))) lt = fourth
        each (suc (suc (suc (suc i)))) lt = absurd (omega (arith, lt))

-- ---- its page

module _ {names : Names} {s : KernelState} {a : AbstractState} (h : StandsFor names s a) (n : ℕ) (call : Service)
    (takes : has_path call ≡ true) (done word left : ℕ)
    (stands : place_of (slot_at s n) ≡ place.InService call (step.Keeping done word left)) where
  abbrev path : ℕ
  path = buffer_of call

  abbrev home : ℕ
  home = (slot_at s n).directory

  abbrev row : EntryRow
  row = rows_of s.spaces home

  abbrev v : IsServed names s a n call (step.Keeping done word left)
  v = served h n call (step.Keeping done word left) stands

  it : IsKeepingPath (view_of s.spaces home) (slot_at s n) v.b call done word left
  it = keeping_path (view_of s.spaces home) (slot_at s n) v.b call takes done word left v.at

  page : IsOwnWritable (rows_of s.spaces home) working_page
  page =
      let library : LibraryPages (place.InService call (step.Keeping done word left)) (slot_at s n).extra row =
      subst (λ (q : Place). LibraryPages q (slot_at s n).extra row) stands v.own.library in
      library.working (path_works call takes (step.Keeping done word left) refl (slot_at s n).extra)

  counted : logical s.spaces s.environments.slots n working_page ≡ row working_page
  counted =
      logical_plain s.spaces s.environments.slots n (clients_live h n v.b v.is) (ap is_plain stands ∙ path_plain call takes (step.Keeping done word left) refl)
      working_page

  page_counts : logical s.spaces s.environments.slots n working_page ≡ Some page.entry
  page_counts = counted ∙ page.stands

  page_whole : IsPage (s.spaces.pages page.entry.frame)
  page_whole = h.whole n working_page page.entry page_counts

  few : done + left ≤ MAXPATHLEN
  few = let less = it.few in let many = it.many in omega (arith, less, many)

  -- so many bytes are put there, which are the next of those that were taken
  module _ (kept : ℕ) (put : List ℕ) (some : 0 < kept) (most : kept ≤ left) (long : length put ≡ kept) (small : AreBytes put)
      (next : (i : ℕ) → i < length put → slice_index put i ≡ slice_index it.bytes (done + i))
      (rest : kept < left → take (left - kept) (to_le_bytes w32 (word / 256)) ≡ drop (done + kept) it.bytes)
      (nul : Bool) (tells : Tells nul put)
      (does : CallStep (Unit {0})) (puts : PutsBytes s n page.entry done put does) (order : IsInOrder (with_spaces s puts.spaces))
      (last : s.last ≡ Some n) where
    abbrev sp : SpacesState
    sp = puts.spaces

    abbrev now : List ℕ
    now = bytes_put (s.spaces.pages page.entry.frame) done put

    row_same : rows_of sp home ≡ row
    row_same = ap (λ (rows : Rows). rows home) puts.rewritten.rows

    now_whole : IsPage now
    now_whole = put_whole (s.spaces.pages page.entry.frame) done put small page_whole

    now_is : sp.pages page.entry.frame ≡ now
    now_is =
        ap (λ (pages : ℕ → List ℕ). pages page.entry.frame) puts.rewritten.pages ∙ upd-at s.spaces.pages page.entry.frame now

    before_there : (i : ℕ) → i < done → slice_index (s.spaces.pages page.entry.frame) i ≡ slice_index it.bytes i
    before_there i lt =
        let same : it.kept.entry ≡ page.entry = same_Some it.kept.entry page.entry (sym it.kept.stands ∙ page.stands) in
        (λ j. slice_index (s.spaces.pages (sym same j).frame) i) ∙ it.kept.same i lt

    all_there : (i : ℕ) → i < done + kept → slice_index now i ≡ slice_index it.bytes i
    all_there i lt =
        more_there (s.spaces.pages page.entry.frame) it.bytes put done
        (let whole = page_whole.long in let all = few in omega (arith, whole, all, long, most)) before_there next i (omega (arith, lt, long))

    taken : (m : ℕ) → m ≤ done + kept → HasTaken (view_of sp home) it.bytes m
    taken m most = record {
      entry = page.entry;
      stands = ap (λ (r : EntryRow). r working_page) row_same ∙ page.stands;
      own_page = page.own_page;
      same = λ i lt. ap (λ (l : List ℕ). slice_index l i) now_is ∙ all_there i (omega (arith, lt, most));
    }

    -- behind the store the same is so, with more bytes in the page
    still : StandsFor names (with_spaces s sp) a
    still =
        unseen_rewritten h n v.b v.is working_page counted working_outside working_no_descriptor page.entry page.stands page.own_page
        page.writes now now_whole puts.rewritten order (others_counts h n last sp)
        (subst (λ (q : Place). StandsAt q (view_of sp home) (slot_at s n) v.b) (sym stands)
        (path_keeping (view_of sp home) (slot_at s n) v.b call takes done word left (record {
          bytes = it.bytes;
          takes = it.takes;
          is_in = it.is_in;
          many = it.many;
          few = it.few;
          some = it.some;
          last = it.last;
          word_is = it.word_is;
          small = it.small;
          no_end = it.no_end;
          allowed = ap (λ (r : EntryRow). refuses_next r call (done + left - 1)) row_same ∙ it.allowed;
          kept = taken done (omega arith);
        })))

    goes_on : (to : Step) → holds_page (place.InService call to) ≡ kept_where true → borne_in (place.InService call to) ≡ None → is_calm_step to ≡ true →
        StandsAtStep (view_of sp home) (record (slot_at s n) { extra = words_at (number_of call) to }) v.b call to →
        StandsFor names (with_extra (with_spaces s sp) n (words_at (number_of call) to)) a
    goes_on to keeps unborne calm so =
        words_stand still n (number_of call) v.b v.is (born_at still n v.b v.is) v.outside
        (ap borne_in stands ∙ path_unborne call takes (step.Keeping done word left) refl) (ap is_calm stands) call to
        (ap holds_page stands ∙ path_holds call takes (step.Keeping done word left) refl ∙ sym keeps)
        unborne calm (named_at (slot_at s n) call (step.Keeping done word left) stands) so

    -- ---- the end is put

    goes_whole : nul ≡ true → StandsFor names (with_extra (with_spaces s sp) n (words_at (number_of call) (whole_step call))) a
    goes_whole is =
        let at = tells.has is in
        let lower = at.1 in
        let place : position_or_len is_nul it.bytes ≤ done + at.0 =
        end_before it.bytes (done + at.0) (ap is_nul (sym (next at.0 at.1)) ∙ at.2) in
        let many = it.many in
        goes_on (whole_step call) (whole_holds call takes) (whole_unborne call takes) (whole_calm call)
        (path_whole (view_of sp home) (record (slot_at s n) { extra = words_at (number_of call) (whole_step call) }) v.b call takes (record {
          bytes = it.bytes;
          is_in = record { program = it.is_in.program; phase = it.is_in.phase; silent = it.is_in.silent; awake = it.is_in.awake };
          few = it.few;
          small = it.small;
          ended = omega (arith, place, lower, long, most, many);
          kept = taken (position_or_len is_nul it.bytes + 1) (omega (arith, place, lower, long));
        }))

    -- ---- it is not

    module _ (none : nul ≡ false) where
      no_end : done + kept ≤ position_or_len is_nul it.bytes
      no_end =
          let many = it.many in
          end_later it.bytes done kept (omega (arith, many, most)) it.no_end
          (λ i lt. ap is_nul (sym (next i (omega (arith, lt, long)))) ∙ tells.has_not none i (omega (arith, lt, long)))

      -- ---- all bytes of the word are kept

      module _ (all : left ≤ kept) where
        whole : length it.bytes ≡ done + kept
        whole = let many = it.many in omega (arith, many, all, most)

        none_ends : HasNoEnd it.bytes
        none_ends = let within = end_within it.bytes in let later = no_end in omega (arith, within, later, whole)

        staged : (bytes : List ℕ) → 0 < length bytes → stage_with bytes ≡ gathering bytes
        staged [] more = absurd (omega (arith, more))
        staged (byte ∷ behind) more = refl

        phase : v.b.phase ≡ in_service call (stage_with it.bytes)
        phase = it.is_in.phase ∙ ap (λ stage. in_service call stage) (sym (staged it.bytes (omega (arith, whole, some))))

        taking : (words : List ℕ) → may_follow path (length it.bytes) ≡ true →
            IsTakingPath (view_of sp home) (record (slot_at s n) { extra = words }) v.b call (length it.bytes)
        taking words follows = record {
          bytes = it.bytes;
          program = it.is_in.program;
          wants = record { takes = it.takes; phase = phase; no_end = none_ends; follows = follows };
          many = refl;
          kept = taken (length it.bytes) (omega (arith, whole));
          silent = it.is_in.silent;
          awake = it.is_in.awake;
        }

        -- the next byte lies in the page of the last, but where it begins another
        next_allowed : may_follow path (length it.bytes) ≡ true → ((path + length it.bytes) % 2 ^ 32 % PGSIZE == 0) ≡ false →
            refuses_next (rows_of sp home) call (length it.bytes) ≡ false
        next_allowed follows test =
            let below = inside_below (path + length it.bytes) (follows_inside path (length it.bytes) follows) in
            let many = it.many in
            let later : (path + length it.bytes) % 2 ^ 32 % 4096 ≢ 0 = grind (arith, nat_tests) in
            let same : page_number (path + length it.bytes) ≡ page_number (path + (done + left - 1)) =
            omega (arith, below, many, later, whole, some) in
            ap (λ (r : EntryRow). refuses_next r call (length it.bytes)) row_same
            ∙ ap (λ (p : ℕ). is_refused_by (writes_buffer call) (row p)) same ∙ it.allowed

        goes_behind : StandsFor names (with_extra (with_spaces s sp) n (words_at (number_of call) (path_step_behind path (length it.bytes)))) a
        goes_behind = by_next (may_follow path (length it.bytes)) refl
          where
            by_page : may_follow path (length it.bytes) ≡ true → (c : Bool) → ((path + length it.bytes) % 2 ^ 32 % PGSIZE == 0) ≡ c →
                StandsFor names (with_extra (with_spaces s sp) n
                (words_at (number_of call) (if c then step.BufferRegion (length it.bytes) 0 else step.Gathering (length it.bytes)))) a
            by_page follows true test =
                goes_on (step.BufferRegion (length it.bytes) 0) (path_holds call takes (step.BufferRegion (length it.bytes) 0) refl)
                (path_unborne call takes (step.BufferRegion (length it.bytes) 0) refl) refl
                (path_before (view_of sp home) (record (slot_at s n) { extra = words_at (number_of call) (step.BufferRegion (length it.bytes) 0) }) v.b call takes
                (length it.bytes) 0 (taking (words_at (number_of call) (step.BufferRegion (length it.bytes) 0)) follows, tt))
            by_page follows false test =
                let words = words_at (number_of call) (step.Gathering (length it.bytes)) in
                goes_on (step.Gathering (length it.bytes)) (path_holds call takes (step.Gathering (length it.bytes)) refl)
                (path_unborne call takes (step.Gathering (length it.bytes)) refl) refl
                (gathers_path (view_of sp home) (record (slot_at s n) { extra = words }) v.b call (length it.bytes) (taking words follows)
                (next_allowed follows test))

            by_next : (c : Bool) → may_follow path (length it.bytes) ≡ c →
                StandsFor names (with_extra (with_spaces s sp) n (words_at (number_of call)
                (if c && ((path + length it.bytes) % 2 ^ 32 % PGSIZE == 0) then step.BufferRegion (length it.bytes) 0
                else step.Gathering (length it.bytes)))) a
            by_next true follows = by_page follows ((path + length it.bytes) % 2 ^ 32 % PGSIZE == 0) refl
            by_next false ends =
                let words = words_at (number_of call) (step.Gathering (length it.bytes)) in
                goes_on (step.Gathering (length it.bytes)) (path_holds call takes (step.Gathering (length it.bytes)) refl)
                (path_unborne call takes (step.Gathering (length it.bytes)) refl) refl
                (path_gathering (view_of sp home) (record (slot_at s n) { extra = words }) v.b call takes (length it.bytes)
                (subst (λ (t : Bool). IsGatheringPath t (view_of sp home) (record (slot_at s n) { extra = words }) v.b call (length it.bytes)) (sym ends)
                (record {
                  bytes = it.bytes;
                  takes = it.takes;
                  is_in = record { program = it.is_in.program; phase = phase; silent = it.is_in.silent; awake = it.is_in.awake };
                  no_end = none_ends;
                  many = refl;
                  few = it.few;
                  ends = ends;
                })))

      -- ---- some are left

      goes_keeping : kept < left →
          StandsFor names (with_extra (with_spaces s sp) n (words_at (number_of call) (step.Keeping (done + kept) (word / 256) (left - kept)))) a
      goes_keeping more =
          goes_on (step.Keeping (done + kept) (word / 256) (left - kept)) (path_holds call takes (step.Keeping (done + kept) (word / 256) (left - kept)) refl)
          (path_unborne call takes (step.Keeping (done + kept) (word / 256) (left - kept)) refl) refl
          (path_keeping (view_of sp home) (record (slot_at s n) { extra = words_at (number_of call) (step.Keeping (done + kept) (word / 256) (left - kept)) })
          v.b call takes (done + kept) (word / 256) (left - kept) (record {
            bytes = it.bytes;
            takes = it.takes;
            is_in = record { program = it.is_in.program; phase = it.is_in.phase; silent = it.is_in.silent; awake = it.is_in.awake };
            many = let many = it.many in omega (arith, many, more);
            few = it.few;
            some = omega (arith, more);
            last = let last = it.last in omega (arith, last);
            word_is = rest more;
            small = it.small;
            no_end = no_end;
            allowed = let same : done + kept + (left - kept) - 1 ≡ done + left - 1 = omega (arith, more) in
                ap (refuses_next (rows_of sp home) call) same
                ∙ ap (λ (r : EntryRow). refuses_next r call (done + left - 1)) row_same ∙ it.allowed;
            kept = taken (done + kept) (omega arith);
          }))

    kept_goes : StandsFor names (with_extra (with_spaces s sp) n (words_at (number_of call)
        (if nul then whole_step call
        else if nat_le left kept then path_step_behind path ((done + kept) % 2 ^ 32)
        else step.Keeping ((done + kept) % 2 ^ 32) (word / 256) (left - kept)))) a
    kept_goes = by_end nul refl
      where
        unwrapped : (done + kept) % 2 ^ 32 ≡ done + kept
        unwrapped = let all = few in omega (arith, all, most)

        by_left : nul ≡ false → (c : Bool) → nat_le left kept ≡ c → StandsFor names (with_extra (with_spaces s sp) n (words_at (number_of call)
            (if c then path_step_behind path ((done + kept) % 2 ^ 32) else step.Keeping ((done + kept) % 2 ^ 32) (word / 256) (left - kept)))) a
        by_left none true test =
            let all : left ≤ kept = grind (arith, nat_tests) in
            subst (λ (m : ℕ). StandsFor names (with_extra (with_spaces s sp) n (words_at (number_of call) (path_step_behind path m))) a)
            (whole none all ∙ sym unwrapped) (goes_behind none all)
        by_left none false test =
            let more : kept < left = grind (arith, nat_tests) in
            subst
            (λ (m : ℕ). StandsFor names (with_extra (with_spaces s sp) n (words_at (number_of call) (step.Keeping m (word / 256) (left - kept)))) a)
            (sym unwrapped) (goes_keeping none more)

        by_end : (c : Bool) → nul ≡ c → StandsFor names (with_extra (with_spaces s sp) n (words_at (number_of call)
            (if c then whole_step call
            else if nat_le left kept then path_step_behind path ((done + kept) % 2 ^ 32)
            else step.Keeping ((done + kept) % 2 ^ 32) (word / 256) (left - kept)))) a
        by_end true is = goes_whole is
        by_end false is = by_left is (nat_le left kept) refl

  -- ---- by how many are put at once

  in_page : done < PGSIZE
  in_page = let all = few in let more = it.some in omega (arith, all, more)

  user : is_page_perm page.entry.perm ≡ true
  user = (h.users n working_page page.entry page_counts).page

  place_is : working_page * PGSIZE + done ≡ UTEMP + done % PGSIZE
  place_is = let lt = in_page in omega (arith, lt)

  pub keeps_path_bytes : IsPathKept names s a n call done word left
  keeps_path_bytes = by_word ((done % 4 == 0) && (left == 4)) refl
    where
      by_word : (c : Bool) → ((done % 4 == 0) && (left == 4)) ≡ c → IsPathKept names s a n call done word left
      by_word true test =
          let four : left ≡ 4 = grind (arith, nat_tests) in
          let all = few in
          let puts : PutsBytes s n page.entry done (to_le_bytes w32 word) (store s n (UTEMP + done % PGSIZE) word) =
          subst (λ (at : ℕ). PutsBytes s n page.entry done (to_le_bytes w32 word) (store s n at word)) place_is
          (store_puts s n working_page working_below page.entry page.stands user page.writes done in_page word (omega (arith, all, four))) in
          record {
            spaces = puts.spaces;
            step_is = rw test puts.step_is;
            stands = λ order turn. rw test
                (kept_goes 4 (to_le_bytes w32 word) (omega arith) (omega (arith, four)) refl (word_bytes word)
                (λ i lt. word_byte it.bytes done word left i it.word_is (omega (arith, lt, four)))
                (λ more. absurd (omega (arith, more, four))) (has_end 4 word) (word_tells word) (store s n (UTEMP + done % PGSIZE) word) puts order turn);
          }
      by_word false test =
          let puts : PutsBytes s n page.entry done (word % 256 ∷ []) (store_byte s n (UTEMP + done % PGSIZE) (word % 256)) =
          subst (λ (at : ℕ). PutsBytes s n page.entry done (word % 256 ∷ []) (store_byte s n at (word % 256))) place_is
          (store_byte_puts s n working_page working_below page.entry page.stands user page.writes done in_page (word % 256)) in
          record {
            spaces = puts.spaces;
            step_is = rw test puts.step_is;
            stands = λ order turn. rw test
                (kept_goes 1 (word % 256 ∷ []) (omega arith) it.some refl (bytes_more (word % 256) [] (omega arith) bytes_none)
                first_byte behind_it (has_end 1 word) (byte_tells word) (store_byte s n (UTEMP + done % PGSIZE) (word % 256)) puts order turn);
          }
        where
          first_byte : (i : ℕ) → i < 1 → slice_index (word % 256 ∷ []) i ≡ slice_index it.bytes (done + i)
          first_byte zero lt = word_byte it.bytes done word left 0 it.word_is it.some
          first_byte (suc i) lt = absurd (omega (arith, lt))

          behind_it : 1 < left → take (left - 1) (to_le_bytes w32 (word / 256)) ≡ drop (done + 1) it.bytes
          behind_it more =
              let last = it.last in
              let whole : left ≡ suc (left - 1) = omega (arith, more) in
              word_behind it.bytes done word (left - 1) (omega (arith, last))
              (subst (λ (m : ℕ). take m (to_le_bytes w32 word) ≡ drop done it.bytes) whole it.word_is)
