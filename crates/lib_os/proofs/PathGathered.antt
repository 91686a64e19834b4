-- The bytes that a service loads of the path that it is given, a word or a byte at once: the load gives those of the abstract system, and the
-- service has them in mind, with those that its page has.
use Rattle.std.proofs.Common.{◌≡◌, ◌∙◌, ◌+◌, ◌-◌, ◌%◌, ◌^◌, ◌++◌, ◌==◌, ◌<◌, ◌≤◌, ℕ, suc, Bool, true, false, List, [], ◌∷◌, length}
use Rattle.std.proofs.Common.{refl, sym, ap, subst, arith, if◌then◌else◌}
use Rattle.std.proofs.lemmas.Bool.Decides.{nat_tests}
use Rattle.std.proofs.lemmas.List.{get_or_append_left, get_or_past, length-append}
use Rattle.std.proofs.lemmas.Nat.{le_bytes_4}
use Rattle.std.proofs.Math.Seq.{drop-append_seam}
use Rattle.std.specs.Int.{w32, from_le_bytes, to_le_bytes}
use Rattle.std.specs.List.{position_or_len}
use Rattle.std.specs.Prelude.{nat_lt, not, drop, slice_index, take, Option, Some, Ok}
use Rattle.jos_base.specs.declared.memory.Access.TheVariants.{Read}
use Rattle.jos_base.specs.declared.numbers.TheConstants.{UTEMP}
use Rattle.jos_base.specs.declared.registers.Regs.{Regs}
use Rattle.jos_base.specs.Environments.{Slot, records_of}
use Rattle.jos_base.specs.KernelState.{KernelState, slot_at, with_extra}
use Rattle.jos_base.specs.Reach.{Entry, allows, reach_entry}
use Rattle.jos_base.specs.UserMemory.{reach_in}
use Rattle.jos_base.specs.Words.{page_number, page_offset}
use Rattle.jos_base.proofs.Walks.{walked_below}
use Rattle.fs_layout.specs.declared.numbers.TheConstants.{MAXPATHLEN}
use Rattle.lib_os.specs.declared.place.Step.TheVariants as step
use Rattle.lib_os.specs.declared.service.Service.{Service}
use Rattle.lib_os.specs.AbstractMemory.{byte_at, page_allows, page_at}
use Rattle.lib_os.specs.AbstractRun.{abs_step}
use Rattle.lib_os.specs.AbstractState.{AbstractState, Born, gathering, in_service}
use Rattle.lib_os.specs.Answers.{at_stage, bytes_from, moved_at_once}
use Rattle.lib_os.specs.Fence.{in_fence, is_inside}
use Rattle.lib_os.specs.FileServices.{is_nul}
use Rattle.lib_os.specs.LibraryCall.{library_step}
use Rattle.lib_os.specs.LibraryPages.{View}
use Rattle.lib_os.specs.Places.{words_at}
use Rattle.lib_os.specs.Rows.{AreBytes, Names, rows_of}
use Rattle.lib_os.specs.StandsFor.{IsGatheringPath, IsKeepingPath, IsTakingPath, StandsAtStep, StandsFor, borne_in, refuses_next, view_of, writes_buffer}
use Rattle.lib_os.specs.StandsInHandler.{HasNoEnd, buffer_of, is_refused_by, may_follow, stage_with, takes_path}
use Rattle.lib_os.specs.UserCalls.{accessing, giving, load, load_byte, user_byte, user_word}
use Rattle.lib_os.proofs.BufferAccesses.{IsMoved, byte_small, entry_lets, frame_whole, moved_is, reached_order, stage_stands}
use Rattle.lib_os.proofs.BytesGathered.{four_from, from_length, from_small, one_from}
use Rattle.lib_os.proofs.BytesRead.{user_byte_is, user_entry_read}
use Rattle.lib_os.proofs.DescriptorLooks.{loaded_view}
use Rattle.lib_os.proofs.Fences.{inside_below, inside_number}
use Rattle.lib_os.proofs.Loading.{loaded}
use Rattle.lib_os.proofs.Numbered.{named_at, number_of}
use Rattle.lib_os.proofs.PageBytes.{bytes_append}
use Rattle.lib_os.proofs.Paths.{follows_fewer, follows_inside, next_asked, path_gathers, path_stepped}
use Rattle.lib_os.proofs.PathServices.{gathering_path, has_path, path_holds, path_keeping, path_reads, path_unborne}
use Rattle.lib_os.proofs.PipesStand.{is_calm}
use Rattle.lib_os.proofs.Serving.{IsServed, holds_page, service_step}
use Rattle.lib_os.proofs.StatesStand.{quiet_stands}
use Rattle.lib_os.proofs.Touching.{touched_quiet}
use Rattle.lib_os.proofs.WindowWords.{read_at}

-- ---- bytes of a path

-- those that lie at a multiple of four with the first lie in the fence with it
pub word_inside : (va i : ℕ) → va % 4 ≡ 0 → i < 4 → is_inside va ≡ true → is_inside (va + i) ≡ true
unfolding in_fence
word_inside va i aligned lt inside = grind (arith, nat_tests)

-- none of the first is the end, whatever follows them
no_end_before : (bytes more : List ℕ) → HasNoEnd bytes → length bytes ≤ position_or_len is_nul (bytes ++ more)
no_end_before [] more none = omega arith
no_end_before (byte ∷ rest) more none = by_first (is_nul byte) (λ later. no_end_before rest more later) none
  where
    by_first : (c : Bool) → (position_or_len is_nul rest ≡ length rest → length rest ≤ position_or_len is_nul (rest ++ more)) →
        (if not c then 1 + position_or_len is_nul rest else 0) ≡ suc (length rest) →
        suc (length rest) ≤ (if not c then 1 + position_or_len is_nul (rest ++ more) else 0)
    by_first true behind is = absurd (omega (arith, is))
    by_first false behind is =
        let later : position_or_len is_nul rest ≡ length rest = omega (arith, is) in
        let all = behind later in omega (arith, all)

-- ---- the step of the abstract system

-- the next bytes are taken
path_more : (a : AbstractState) (n : ℕ) (b : Born) (regs : Regs) (call : Service) → takes_path call ≡ true → (bytes : List ℕ) → HasNoEnd bytes →
    may_follow (buffer_of call) (length bytes) ≡ true → page_allows (page_at b (buffer_of call + length bytes)) Read ≡ true →
    library_step a n b regs call (stage_with bytes)
    ≡ Some (at_stage a n b call (gathering (bytes ++ bytes_from a b (buffer_of call + length bytes)
    (moved_at_once (buffer_of call + length bytes) (MAXPATHLEN - length bytes)))))
path_more a n b regs call takes bytes none follows may =
    path_stepped a n b regs call takes bytes
    ∙ path_gathers a n b regs call (buffer_of call) bytes (next_asked a n b regs call) none follows ∙ rw may refl

-- ---- the load

-- it is about to load the next bytes
module _ {names : Names} {s : KernelState} {a : AbstractState} (h : StandsFor names s a) (n : ℕ) (call : Service)
    (takes : has_path call ≡ true) (done : ℕ) (v : IsServed names s a n call (step.Gathering done))
    (follows : may_follow (buffer_of call) done ≡ true) where
  abbrev path : ℕ
  path = buffer_of call

  abbrev k : Slot
  k = slot_at s n

  abbrev d : ℕ
  d = k.directory

  at : IsTakingPath (view_of s.spaces d) k v.b call done × (refuses_next (rows_of s.spaces d) call done ≡ false)
  at = subst (λ (t : Bool). IsGatheringPath t (view_of s.spaces d) k v.b call done) follows (gathering_path (view_of s.spaces d) k v.b call takes done v.at)

  -- its bytes are read
  read_so : (va : ℕ) → is_refused_by (writes_buffer call) (rows_of s.spaces d (page_number va)) ≡ is_refused_by false (rows_of s.spaces d (page_number va))
  read_so va = ap (λ (w : Bool). is_refused_by w (rows_of s.spaces d (page_number va))) (path_reads call takes)

  pub it : IsTakingPath (view_of s.spaces d) k v.b call done
  it = at.0

  -- those that it has taken
  abbrev bytes_before : List ℕ
  bytes_before = it.bytes

  -- where the next one is, and how many are taken at once
  abbrev pub next : ℕ
  next = (path + done) % 2 ^ 32

  abbrev pub moved : ℕ
  moved = moved_at_once next (MAXPATHLEN - done)

  -- and which
  abbrev pub path_taken : List ℕ
  path_taken = bytes_from a v.b next moved

  fewer : done < MAXPATHLEN
  fewer = follows_fewer path done follows

  lies : IsMoved next (MAXPATHLEN - done) moved
  lies = let more = fewer in moved_is next (MAXPATHLEN - done) (omega (arith, more))

  -- nothing wraps
  next_is : next ≡ path + done
  next_is = let below = inside_below (path + done) (follows_inside path done follows) in omega (arith, below)

  first_inside : is_inside next ≡ true
  first_inside = ap is_inside next_is ∙ follows_inside path done follows

  each_inside : (i : ℕ) → i < moved → is_inside (next + i) ≡ true
  each_inside i = by_many (moved == 4) refl
    where
      by_many : (c : Bool) → (moved == 4) ≡ c → i < moved → is_inside (next + i) ≡ true
      by_many true test lt =
          let four = lies.word test in word_inside next i (lies.aligned test) (omega (arith, four, lt)) first_inside
      by_many false test lt =
          let one = lies.byte test in
          let first : next + i ≡ next = omega (arith, one, lt) in ap is_inside first ∙ first_inside

  below_limit : next + moved < 2 ^ 32
  below_limit =
      let some = lies.some in
      let last : next + (moved - 1) + 1 ≡ next + moved = omega (arith, some) in
      let below = inside_below (next + (moved - 1)) (each_inside (moved - 1) (omega (arith, some))) in omega (arith, below, last)

  -- the page may be read
  page_read : page_allows (page_at v.b next) Read ≡ true
  page_read =
      entry_lets h n v.b v.is next first_inside false
      (ap (λ (q : ℕ). is_refused_by false (rows_of s.spaces d (page_number q))) next_is ∙ sym (read_so (path + done)) ∙ at.1)

  each_read : (i : ℕ) → i < moved → page_allows (page_at v.b (next + i)) Read ≡ true
  each_read i lt = ap (λ (p : ℕ). page_allows (v.b.memory p) Read) (lies.page i lt) ∙ page_read

  each_small : (i : ℕ) → i < moved → byte_at a v.b (next + i) < 256
  each_small i lt = byte_small h n v.b v.is (next + i) (each_inside i lt) (each_read i lt)

  found : (e : Entry) × (s.spaces.entries d (page_number next) ≡ Some e) × (allows e.perm Read ≡ true)
  found = user_entry_read names s a n v.b h v.is next first_inside page_read

  reached : reach_in s.spaces d next Read ≡ Ok (record { frame = found.0.frame; offset = page_offset next })
  reached =
      ap (λ (o : Option Entry). reach_entry o next Read) (walked_below s.spaces d (page_number next) (inside_number next first_inside) ∙ found.1)
      ∙ rw found.2 refl

  -- behind it nothing that is seen is another
  loaded_stands : StandsFor names (loaded s n next) a
  loaded_stands = quiet_stands h (touched_quiet s.spaces d next Read) (reached_order s n next Read h.in_order)

  each_byte : (i : ℕ) → i < moved → user_byte (loaded s n next) n (next + i) ≡ byte_at a v.b (next + i)
  each_byte i lt =
      user_byte_is names (loaded s n next) a n v.b loaded_stands v.is (next + i) (each_inside i lt) (records_of s.environments) (each_read i lt)

  -- a word, where four bytes are taken
  pub path_gathered_word : (moved == 4) ≡ true → load s n next ≡ read_at s n next (from_le_bytes w32 path_taken)
  unfolding load
  path_gathered_word test =
      let four = lies.word test in
      let end = below_limit in
      let first : next + 0 ≡ next = omega arith in
      let zeroth : user_byte (loaded s n next) n next ≡ byte_at a v.b next =
      subst (λ (q : ℕ). user_byte (loaded s n next) n q ≡ byte_at a v.b q) first (each_byte 0 (omega (arith, four))) in
      let one = each_byte 1 (omega (arith, four)) in
      let two = each_byte 2 (omega (arith, four)) in
      let three = each_byte 3 (omega (arith, four)) in
      let those : path_taken ≡ byte_at a v.b next ∷ byte_at a v.b (next + 1) ∷ byte_at a v.b (next + 2) ∷ byte_at a v.b (next + 3) ∷ [] =
      ap (bytes_from a v.b next) four ∙ four_from a v.b next (omega (arith, four, end)) in
      let whole : user_word (loaded s n next) n next ≡ from_le_bytes w32 path_taken =
      (λ i. from_le_bytes w32 (zeroth i ∷ one i ∷ two i ∷ three i ∷ [])) ∙ ap (from_le_bytes w32) (sym those) in
      ap (accessing s n next Read (λ t. giving t (user_word t n next))) reached ∙ ap (λ (w : ℕ). giving (loaded s n next) w) whole

  -- and else a byte
  pub path_gathered_byte : (moved == 4) ≡ false → load_byte s n next ≡ read_at s n next (byte_at a v.b next)
  unfolding load_byte
  path_gathered_byte test =
      let first : next + 0 ≡ next = omega arith in
      let here : user_byte (loaded s n next) n next ≡ byte_at a v.b next =
      subst (λ (q : ℕ). user_byte (loaded s n next) n q ≡ byte_at a v.b q) first (each_byte 0 lies.some) in
      ap (accessing s n next Read (λ t. giving t (user_byte t n next))) reached ∙ ap (λ (w : ℕ). giving (loaded s n next) w) here

  -- ---- the state behind it

  -- remove has them
  abbrev pub path_gathered : AbstractState
  path_gathered = at_stage a n v.b call (gathering (it.bytes ++ path_taken))

  pub path_gathered_step : abs_step a n ≡ Some path_gathered
  path_gathered_step =
      let place : path + length it.bytes ≡ next = ap (λ (m : ℕ). path + m) it.many ∙ sym next_is in
      service_step a n v.b k.registers call (stage_with it.bytes) v.is it.program it.wants.phase it.awake
      ∙ path_more a n v.b k.registers call it.wants.takes it.bytes it.wants.no_end it.wants.follows
      (ap (λ (q : ℕ). page_allows (page_at v.b q) Read) place ∙ page_read)
      ∙ (λ i. Some (at_stage a n v.b call (gathering (it.bytes ++ bytes_from a v.b (place i)
      (moved_at_once (place i) (MAXPATHLEN - it.many i))))))

  -- each of those that it had is a byte
  before_small : AreBytes it.bytes
  before_small i = by_place (nat_lt i (length it.bytes)) refl
    where
      by_place : (c : Bool) → nat_lt i (length it.bytes) ≡ c → slice_index it.bytes i < 256
      by_place true test =
          let many = it.many in
          let low : i < done = grind (arith, nat_tests) in
          let page = frame_whole h n v.b v.is (page_number UTEMP) it.kept.entry it.kept.stands in
          subst (λ (byte : ℕ). byte < 256) (it.kept.same i low) (page.small i)
      by_place false test =
          let none : slice_index it.bytes i ≡ 0 = get_or_past it.bytes i 0 (grind (arith, nat_tests)) in
          omega (arith, none)

  taken_small : AreBytes path_taken
  taken_small = from_small a v.b next moved below_limit each_small

  -- they lie in one page
  taken_page : refuses_next (rows_of s.spaces d) call (done + moved - 1) ≡ false
  taken_page =
      let some = lies.some in
      let same : path + (done + moved - 1) ≡ next + (moved - 1) = (let place = next_is in omega (arith, place, some)) in
      read_so (path + (done + moved - 1))
      ∙ ap (λ (q : ℕ). is_refused_by false (rows_of s.spaces d (page_number q))) same
      ∙ ap (λ (p : ℕ). is_refused_by false (rows_of s.spaces d p)) (lies.page (moved - 1) (omega (arith, some)))
      ∙ ap (λ (q : ℕ). is_refused_by false (rows_of s.spaces d (page_number q))) next_is ∙ sym (read_so (path + done)) ∙ at.1

  abbrev told : ℕ → Slot
  told word = record k { extra = words_at (number_of call) (step.Keeping done word moved) }

  keeping : (word : ℕ) → take moved (to_le_bytes w32 word) ≡ path_taken →
      IsKeepingPath (view_of s.spaces d) (told word)
      (record v.b { phase = in_service call (gathering (it.bytes ++ path_taken)) }) call done word moved
  keeping word is =
      let all = length-append it.bytes path_taken in
      let those = from_length a v.b next moved in
      let many = it.many in
      let within = lies.within in
      let more = fewer in
      let before = no_end_before it.bytes path_taken it.wants.no_end in
      record {
        bytes = it.bytes ++ path_taken;
        takes = it.wants.takes;
        is_in = record { program = it.program; phase = refl; silent = it.silent; awake = it.awake };
        many = omega (arith, all, those, many);
        few = omega (arith, all, those, many, within, more);
        some = lies.some;
        last = lies.last;
        word_is = is ∙ sym (drop-append_seam it.bytes path_taken) ∙ ap (λ (m : ℕ). drop m (it.bytes ++ path_taken)) it.many;
        small = bytes_append it.bytes path_taken before_small taken_small;
        no_end = omega (arith, before, many);
        allowed = taken_page;
        kept = record {
          entry = it.kept.entry;
          stands = it.kept.stands;
          own_page = it.kept.own_page;
          same = λ i lt. it.kept.same i lt ∙ sym (get_or_append_left it.bytes path_taken 0 i (omega (arith, many, lt)));
        };
      }

  gathered_stands : (word : ℕ) → take moved (to_le_bytes w32 word) ≡ path_taken →
      StandsFor names (with_extra (loaded s n next) n (words_at (number_of call) (step.Keeping done word moved))) path_gathered
  gathered_stands word is =
      stage_stands loaded_stands n (number_of call) v.b v.is v.outside (ap borne_in v.place ∙ path_unborne call takes (step.Gathering done) refl)
      (ap is_calm v.place) call
      (step.Keeping done word moved) (gathering (it.bytes ++ path_taken))
      (ap holds_page v.place ∙ path_holds call takes (step.Gathering done) refl ∙ sym (path_holds call takes (step.Keeping done word moved) refl))
      (path_unborne call takes (step.Keeping done word moved) refl) refl (named_at k call (step.Gathering done) v.place)
      (subst (λ (w : View). StandsAtStep w (told word) (record v.b { phase = in_service call (gathering (it.bytes ++ path_taken)) })
      call (step.Keeping done word moved)) (sym (loaded_view s n next d))
      (path_keeping (view_of s.spaces d) (told word) (record v.b { phase = in_service call (gathering (it.bytes ++ path_taken)) }) call takes done word moved
      (keeping word is)))

  pub path_gathered_word_stands : (moved == 4) ≡ true →
      StandsFor names (with_extra (loaded s n next) n (words_at (number_of call) (step.Keeping done (from_le_bytes w32 path_taken) moved))) path_gathered
  path_gathered_word_stands test =
      let four = lies.word test in
      gathered_stands (from_le_bytes w32 path_taken)
      (ap (λ (m : ℕ). take m (to_le_bytes w32 (from_le_bytes w32 path_taken))) four
      ∙ le_bytes_4 path_taken (from_le_bytes w32 path_taken) (from_length a v.b next moved ∙ four) taken_small refl)

  pub path_gathered_byte_stands : (moved == 4) ≡ false →
      StandsFor names (with_extra (loaded s n next) n (words_at (number_of call) (step.Keeping done (byte_at a v.b next) moved))) path_gathered
  path_gathered_byte_stands test =
      let one = lies.byte test in
      let first : next + 0 ≡ next = omega arith in
      let small : byte_at a v.b next < 256 = subst (λ (q : ℕ). byte_at a v.b q < 256) first (each_small 0 lies.some) in
      let byte_is : byte_at a v.b next % 256 ≡ byte_at a v.b next = omega (arith, small) in
      gathered_stands (byte_at a v.b next)
      (ap (λ (m : ℕ). take m (to_le_bytes w32 (byte_at a v.b next))) one
      ∙ ap (λ (byte : ℕ). byte ∷ []) byte_is
      ∙ sym (ap (bytes_from a v.b next) one ∙ one_from a v.b next))
