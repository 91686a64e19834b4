-- The bytes that write loads of its buffer, a word or a byte at once: the load gives those of the abstract system, and write has them in
-- mind, with those that its page has.
use Rattle.std.proofs.Common.{◌≡◌, ◌∙◌, ◌+◌, ◌-◌, ◌%◌, ◌^◌, ◌++◌, ◌==◌, ◌<◌, ◌≤◌, ℕ, zero, suc, Bool, true, false, List, [], ◌∷◌, length}
use Rattle.std.proofs.Common.{refl, sym, ap, subst, arith}
use Rattle.std.proofs.lemmas.Bool.Decides.{nat_tests}
use Rattle.std.proofs.lemmas.List.{get_or_append_left, get_or_past, length-append}
use Rattle.std.proofs.lemmas.Nat.{le_bytes_4}
use Rattle.std.proofs.Math.Seq.{drop-append_seam}
use Rattle.std.specs.Int.{w32, from_le_bytes, to_le_bytes}
use Rattle.std.specs.Prelude.{nat_lt, drop, slice_index, take, Option, Some, Ok}
use Rattle.jos_base.specs.declared.memory.Access.TheVariants.{Read}
use Rattle.jos_base.specs.declared.numbers.TheConstants.{PGSIZE, UTEMP}
use Rattle.jos_base.specs.declared.registers.Regs.{Regs}
use Rattle.jos_base.specs.Environments.{Slot, records_of}
use Rattle.jos_base.specs.KernelState.{KernelState, slot_at, with_extra}
use Rattle.jos_base.specs.Reach.{Entry, allows, reach_entry}
use Rattle.jos_base.specs.UserMemory.{reach_in}
use Rattle.jos_base.specs.Words.{page_number, page_offset}
use Rattle.jos_base.proofs.Walks.{walked_below}
use Rattle.lib_os.specs.declared.numbers.TheConstants.{SERVICE_WRITE}
use Rattle.lib_os.specs.declared.place.Step.TheVariants as step
use Rattle.lib_os.specs.declared.service.Service.TheVariants as service
use Rattle.lib_os.specs.AbstractMemory.{byte_at, page_allows, page_at}
use Rattle.lib_os.specs.AbstractRun.{abs_step}
use Rattle.lib_os.specs.AbstractState.{AbstractState, Born, gathering, in_service}
use Rattle.lib_os.specs.Answers.{at_stage, bytes_from, moved_at_once}
use Rattle.lib_os.specs.Fence.{is_buffer, is_inside}
use Rattle.lib_os.specs.LibraryCall.{library_step}
use Rattle.lib_os.specs.LibraryPages.{View}
use Rattle.lib_os.specs.Places.{place_of, words_at}
use Rattle.lib_os.specs.Rows.{AreBytes, Names, rows_of}
use Rattle.lib_os.specs.StandsFor.{IsKeeping, IsTaking, StandsAtStep, StandsFor, borne_in, refuses_next, view_of}
use Rattle.lib_os.specs.StandsInHandler.{is_refused_by, stage_with, wanted_from}
use Rattle.lib_os.specs.UserCalls.{accessing, giving, load, load_byte, user_byte, user_word}
use Rattle.lib_os.proofs.BufferAccesses.{IsMoved, byte_small, entry_lets, frame_whole, moved_is, reached_order, stage_stands}
use Rattle.lib_os.proofs.BytesRead.{user_byte_is, user_entry_read}
use Rattle.lib_os.proofs.DescriptorLooks.{loaded_view, seen_calm}
use Rattle.lib_os.proofs.DeviceLooks.{IsWritten, begins_written}
use Rattle.lib_os.proofs.Fences.{buffer_below, buffer_each, inside_number}
use Rattle.lib_os.proofs.Loading.{loaded}
use Rattle.lib_os.proofs.Logical.{is_making_pipe, is_plain}
use Rattle.lib_os.proofs.Numbered.{named_at}
use Rattle.lib_os.proofs.PageBytes.{bytes_append}
use Rattle.lib_os.proofs.PipesStand.{is_calm}
use Rattle.lib_os.proofs.Serving.{IsServed, holds_page, service_step}
use Rattle.lib_os.proofs.StatesStand.{quiet_stands}
use Rattle.lib_os.proofs.Touching.{touched_quiet}
use Rattle.lib_os.proofs.WindowWords.{read_at}

-- ---- bytes one behind the other

pub from_length : (a : AbstractState) (b : Born) (va n : ℕ) → length (bytes_from a b va n) ≡ n
unfolding bytes_from
from_length a b va zero = refl
from_length a b va (suc n) = ap suc (from_length a b ((va + 1) % 2 ^ 32) n)

pub from_small : (a : AbstractState) (b : Born) (va n : ℕ) → va + n < 2 ^ 32 → ((i : ℕ) → i < n → byte_at a b (va + i) < 256) →
    AreBytes (bytes_from a b va n)
unfolding bytes_from
from_small a b va zero below small i = omega arith
from_small a b va (suc n) below small zero =
    let first : va + 0 ≡ va = omega arith in subst (λ (q : ℕ). byte_at a b q < 256) first (small 0 (omega arith))
from_small a b va (suc n) below small (suc i) =
    let next : (va + 1) % 2 ^ 32 ≡ va + 1 = omega (arith, below) in
    from_small a b ((va + 1) % 2 ^ 32) n (omega (arith, below, next))
    (λ j lt. let same : (va + 1) % 2 ^ 32 + j ≡ va + suc j = omega (arith, next) in
    subst (λ (q : ℕ). byte_at a b q < 256) (sym same) (small (suc j) (omega (arith, lt)))) i

pub four_from : (a : AbstractState) (b : Born) (va : ℕ) → va + 4 < 2 ^ 32 →
    bytes_from a b va 4 ≡ byte_at a b va ∷ byte_at a b (va + 1) ∷ byte_at a b (va + 2) ∷ byte_at a b (va + 3) ∷ []
unfolding bytes_from
four_from a b va below =
    let one : (va + 1) % 2 ^ 32 ≡ va + 1 = omega (arith, below) in
    let two : ((va + 1) % 2 ^ 32 + 1) % 2 ^ 32 ≡ va + 2 = omega (arith, below, one) in
    let three : (((va + 1) % 2 ^ 32 + 1) % 2 ^ 32 + 1) % 2 ^ 32 ≡ va + 3 = omega (arith, below, two) in
    λ i. byte_at a b va ∷ byte_at a b (one i) ∷ byte_at a b (two i) ∷ byte_at a b (three i) ∷ []

pub one_from : (a : AbstractState) (b : Born) (va : ℕ) → bytes_from a b va 1 ≡ byte_at a b va ∷ []
unfolding bytes_from
one_from a b va = refl

-- ---- the step of the abstract system

-- the next bytes are taken
write_more : (a : AbstractState) (n : ℕ) (b : Born) (regs : Regs) (fd va len start : ℕ) → (it : IsWritten a b fd len start) →
    is_buffer va (wanted_from start len) ≡ true → (bytes : List ℕ) → nat_lt (length bytes) (wanted_from start len) ≡ true →
    page_allows (page_at b ((va + length bytes) % 2 ^ 32)) Read ≡ true →
    library_step a n b regs (service.Write fd va len) (stage_with bytes)
    ≡ Some (at_stage a n b (service.Write fd va len) (gathering (bytes ++ bytes_from a b ((va + length bytes) % 2 ^ 32)
    (moved_at_once ((va + length bytes) % 2 ^ 32) (wanted_from start len - length bytes)))))
unfolding library_step
write_more a n b regs fd va len start it buffer [] fewer may =
    let is = it.is in let reading = it.not_reading in let long = it.long in rw (is, reading, long, buffer, fewer, may) refl
write_more a n b regs fd va len start it buffer (byte ∷ rest) fewer may =
    let is = it.is in let long = it.long in rw (is, long, fewer, may) refl

-- ---- the load

-- write is about to load the next bytes
module _ {names : Names} {s : KernelState} {a : AbstractState} (h : StandsFor names s a) (n fd va len start done : ℕ)
    (v : IsServed names s a n (service.Write fd va len) (step.GatheringBytes done start)) where
  abbrev k : Slot
  k = slot_at s n

  abbrev d : ℕ
  d = k.directory

  abbrev it : IsTaking (view_of s.spaces d) k v.b fd va len start done
  it = v.at.0

  -- those that it has taken
  abbrev pub bytes_before : List ℕ
  bytes_before = it.bytes

  -- where the next one is, and how many are taken at once
  abbrev pub next : ℕ
  next = (va + done) % 2 ^ 32

  abbrev pub moved : ℕ
  moved = moved_at_once next (wanted_from start len - done)

  -- and which
  abbrev pub taken : List ℕ
  taken = bytes_from a v.b next moved

  fewer : done < wanted_from start len
  fewer = subst (λ (m : ℕ). m < wanted_from start len) it.many it.wants.fewer

  lies : IsMoved next (wanted_from start len - done) moved
  lies = let more = fewer in moved_is next (wanted_from start len - done) (omega (arith, more))

  -- nothing wraps
  next_is : (next ≡ va + done) × (va + wanted_from start len < 2 ^ 32)
  next_is =
      let more = fewer in
      let end = buffer_below va (wanted_from start len) it.wants.given.buffer (omega (arith, more)) in
      (omega (arith, more, end), omega (arith, end))

  each_inside : (i : ℕ) → i < moved → is_inside (next + i) ≡ true
  each_inside i lt =
      let place = next_is.0 in
      let within = lies.within in
      let more = fewer in
      buffer_each va (wanted_from start len) (next + i) it.wants.given.buffer (omega (arith, place)) (omega (arith, place, within, lt, more))

  first_inside : is_inside next ≡ true
  first_inside =
      let first : next + 0 ≡ next = omega arith in
      subst (λ (q : ℕ). is_inside q ≡ true) first (each_inside 0 lies.some)

  -- the page may be read
  page_read : page_allows (page_at v.b next) Read ≡ true
  page_read =
      entry_lets h n v.b v.is next first_inside false
      (ap (λ (q : ℕ). is_refused_by false (rows_of s.spaces d (page_number q))) next_is.0 ∙ v.at.1)

  each_read : (i : ℕ) → i < moved → page_allows (page_at v.b (next + i)) Read ≡ true
  each_read i lt = ap (λ (p : ℕ). page_allows (v.b.memory p) Read) (lies.page i lt) ∙ page_read

  each_small : (i : ℕ) → i < moved → byte_at a v.b (next + i) < 256
  each_small i lt = byte_small h n v.b v.is (next + i) (each_inside i lt) (each_read i lt)

  found : (e : Entry) × (s.spaces.entries d (page_number next) ≡ Some e) × (allows e.perm Read ≡ true)
  found = user_entry_read names s a n v.b h v.is next first_inside page_read

  reached : reach_in s.spaces d next Read ≡ Ok (record { frame = found.0.frame; offset = page_offset next })
  reached =
      ap (λ (o : Option Entry). reach_entry o next Read) (walked_below s.spaces d (page_number next) (inside_number next first_inside) ∙ found.1)
      ∙ rw found.2 refl

  -- behind it nothing that is seen is another
  loaded_stands : StandsFor names (loaded s n next) a
  loaded_stands = quiet_stands h (touched_quiet s.spaces d next Read) (reached_order s n next Read h.in_order)

  each_byte : (i : ℕ) → i < moved → user_byte (loaded s n next) n (next + i) ≡ byte_at a v.b (next + i)
  each_byte i lt =
      user_byte_is names (loaded s n next) a n v.b loaded_stands v.is (next + i) (each_inside i lt) (records_of s.environments) (each_read i lt)

  -- a word, where four bytes are taken
  pub gathered_word : (moved == 4) ≡ true → load s n next ≡ read_at s n next (from_le_bytes w32 taken)
  unfolding load
  gathered_word test =
      let four = lies.word test in
      let place = next_is in
      let enough : done + 4 ≤ wanted_from start len = (let within = lies.within in omega (arith, four, within)) in
      let end = place.1 in
      let first : next + 0 ≡ next = omega arith in
      let zeroth : user_byte (loaded s n next) n next ≡ byte_at a v.b next =
      subst (λ (q : ℕ). user_byte (loaded s n next) n q ≡ byte_at a v.b q) first (each_byte 0 (omega (arith, four))) in
      let one = each_byte 1 (omega (arith, four)) in
      let two = each_byte 2 (omega (arith, four)) in
      let three = each_byte 3 (omega (arith, four)) in
      let those : taken ≡ byte_at a v.b next ∷ byte_at a v.b (next + 1) ∷ byte_at a v.b (next + 2) ∷ byte_at a v.b (next + 3) ∷ [] =
      ap (bytes_from a v.b next) four ∙ four_from a v.b next (let here = place.0 in omega (arith, here, enough, end)) in
      let whole : user_word (loaded s n next) n next ≡ from_le_bytes w32 taken =
      (λ i. from_le_bytes w32 (zeroth i ∷ one i ∷ two i ∷ three i ∷ [])) ∙ ap (from_le_bytes w32) (sym those) in
      ap (accessing s n next Read (λ t. giving t (user_word t n next))) reached ∙ ap (λ (w : ℕ). giving (loaded s n next) w) whole

  -- and else a byte
  pub gathered_byte : (moved == 4) ≡ false → load_byte s n next ≡ read_at s n next (byte_at a v.b next)
  unfolding load_byte
  gathered_byte test =
      let first : next + 0 ≡ next = omega arith in
      let here : user_byte (loaded s n next) n next ≡ byte_at a v.b next =
      subst (λ (q : ℕ). user_byte (loaded s n next) n q ≡ byte_at a v.b q) first (each_byte 0 lies.some) in
      ap (accessing s n next Read (λ t. giving t (user_byte t n next))) reached ∙ ap (λ (w : ℕ). giving (loaded s n next) w) here

  -- ---- the state behind it

  -- write has them
  abbrev pub gathered : AbstractState
  gathered = at_stage a n v.b (service.Write fd va len) (gathering (it.bytes ++ taken))

  plain : is_plain (place_of k) ≡ true
  plain = ap is_plain v.place

  written : IsWritten a v.b fd len start
  written = begins_written h n v.b v.is (ap borne_in v.place) (ap is_making_pipe v.place) (seen_calm h n v.b v.is (ap is_calm v.place)) fd len
      start it.wants.given.below it.wants.given.begins

  pub gathered_step : abs_step a n ≡ Some gathered
  gathered_step =
      let more = fewer in
      let fewer_too : nat_lt (length it.bytes) (wanted_from start len) ≡ true = (let many = it.many in grind (arith, nat_tests)) in
      service_step a n v.b k.registers (service.Write fd va len) (stage_with it.bytes) v.is it.program it.wants.phase it.awake
      ∙ write_more a n v.b k.registers fd va len start written it.wants.given.buffer it.bytes fewer_too
      (ap (λ (m : ℕ). page_allows (page_at v.b ((va + m) % 2 ^ 32)) Read) it.many ∙ page_read)
      ∙ ap (λ (m : ℕ). Some (at_stage a n v.b (service.Write fd va len) (gathering (it.bytes ++ bytes_from a v.b ((va + m) % 2 ^ 32)
      (moved_at_once ((va + m) % 2 ^ 32) (wanted_from start len - m)))))) it.many

  -- each of those that it had is a byte
  before_small : AreBytes it.bytes
  before_small i = by_place (nat_lt i (length it.bytes)) refl
    where
      by_place : (c : Bool) → nat_lt i (length it.bytes) ≡ c → slice_index it.bytes i < 256
      by_place true test =
          let many = it.many in
          let low : i < done = grind (arith, nat_tests) in
          let page = frame_whole h n v.b v.is (page_number UTEMP) it.kept.entry it.kept.stands in
          subst (λ (byte : ℕ). byte < 256) (it.kept.same i low) (page.small (start % PGSIZE + i))
      by_place false test =
          let none : slice_index it.bytes i ≡ 0 = get_or_past it.bytes i 0 (grind (arith, nat_tests)) in
          omega (arith, none)

  taken_small : AreBytes taken
  taken_small =
      let place = next_is in
      let here = place.0 in
      let end = place.1 in
      let within = lies.within in
      let more = fewer in
      from_small a v.b next moved (omega (arith, here, end, within, more)) each_small

  -- they lie in one page
  pub taken_page : refuses_next (rows_of s.spaces d) (service.Write fd va len) (done + moved - 1) ≡ false
  taken_page =
      let some = lies.some in
      let same : va + (done + moved - 1) ≡ next + (moved - 1) = (let place = next_is.0 in omega (arith, place, some)) in
      ap (λ (q : ℕ). is_refused_by false (rows_of s.spaces d (page_number q))) same
      ∙ ap (λ (p : ℕ). is_refused_by false (rows_of s.spaces d p)) (lies.page (moved - 1) (omega (arith, some)))
      ∙ ap (λ (q : ℕ). is_refused_by false (rows_of s.spaces d (page_number q))) next_is.0 ∙ v.at.1

  abbrev told : ℕ → Slot
  told word = record k { extra = words_at SERVICE_WRITE (step.KeepingBytes done word moved start) }

  keeping : (word : ℕ) → take moved (to_le_bytes w32 word) ≡ taken →
      IsKeeping (view_of s.spaces d) (told word)
      (record v.b { phase = in_service (service.Write fd va len) (gathering (it.bytes ++ taken)) }) fd va len start done word moved
  keeping word is =
      let all = length-append it.bytes taken in
      let those = from_length a v.b next moved in
      let many = it.many in
      let within = lies.within in
      let more = fewer in
      record {
        bytes = it.bytes ++ taken;
        is_in = record { program = it.program; phase = refl; silent = it.silent; awake = it.awake };
        given = it.wants.given;
        many = omega (arith, all, those, many);
        few = omega (arith, all, those, many, within, more);
        some = lies.some;
        last = lies.last;
        allowed = taken_page;
        word_is = is ∙ sym (drop-append_seam it.bytes taken) ∙ ap (λ (m : ℕ). drop m (it.bytes ++ taken)) it.many;
        small = bytes_append it.bytes taken before_small taken_small;
        kept = record {
          entry = it.kept.entry;
          stands = it.kept.stands;
          own_page = it.kept.own_page;
          same = λ i lt. it.kept.same i lt ∙ sym (get_or_append_left it.bytes taken 0 i (omega (arith, many, lt)));
        };
      }

  gathered_stands : (word : ℕ) → take moved (to_le_bytes w32 word) ≡ taken →
      StandsFor names (with_extra (loaded s n next) n (words_at SERVICE_WRITE (step.KeepingBytes done word moved start))) gathered
  gathered_stands word is =
      stage_stands loaded_stands n SERVICE_WRITE v.b v.is v.outside (ap borne_in v.place) (ap is_calm v.place) (service.Write fd va len)
      (step.KeepingBytes done word moved start)
      (gathering (it.bytes ++ taken)) (ap holds_page v.place) refl refl (named_at k (service.Write fd va len) (step.GatheringBytes done start) v.place)
      (subst (λ (w : View). StandsAtStep w (told word) (record v.b { phase = in_service (service.Write fd va len) (gathering (it.bytes ++ taken)) })
      (service.Write fd va len) (step.KeepingBytes done word moved start)) (sym (loaded_view s n next d)) (keeping word is))

  pub gathered_word_stands : (moved == 4) ≡ true →
      StandsFor names (with_extra (loaded s n next) n (words_at SERVICE_WRITE (step.KeepingBytes done (from_le_bytes w32 taken) moved start))) gathered
  gathered_word_stands test =
      let four = lies.word test in
      gathered_stands (from_le_bytes w32 taken)
      (ap (λ (m : ℕ). take m (to_le_bytes w32 (from_le_bytes w32 taken))) four
      ∙ le_bytes_4 taken (from_le_bytes w32 taken) (from_length a v.b next moved ∙ four) taken_small refl)

  pub gathered_byte_stands : (moved == 4) ≡ false →
      StandsFor names (with_extra (loaded s n next) n (words_at SERVICE_WRITE (step.KeepingBytes done (byte_at a v.b next) moved start))) gathered
  gathered_byte_stands test =
      let one = lies.byte test in
      let first : next + 0 ≡ next = omega arith in
      let small : byte_at a v.b next < 256 = subst (λ (q : ℕ). byte_at a v.b q < 256) first (each_small 0 lies.some) in
      let byte_is : byte_at a v.b next % 256 ≡ byte_at a v.b next = omega (arith, small) in
      gathered_stands (byte_at a v.b next)
      (ap (λ (m : ℕ). take m (to_le_bytes w32 (byte_at a v.b next))) one
      ∙ ap (λ (byte : ℕ). byte ∷ []) byte_is
      ∙ sym (ap (bytes_from a v.b next) one ∙ one_from a v.b next))
