-- The bytes of a pipe's page: what its words tell of those that it holds, and what a store of its lock, of a position or of a byte makes of them.
-- (MIT 6.828, lab 5: lib/pipe.c, devpipe_read and devpipe_write.)
use Rattle.std.proofs.Common.{◌≡◌, ◌≢◌, ◌∙◌, ◌+◌, ◌-◌, ◌%◌, ◌^◌, ◌<◌, ◌≤◌, ◌==◌, ◌++◌, ℕ, zero, suc, true, false, List, [], ◌∷◌, length}
use Rattle.std.proofs.Common.{Some, add-one, refl, sym, ap, subst, arith}
use Rattle.std.specs.Int.{from_le_bytes, to_le_bytes, w32}
use Rattle.std.specs.Prelude.{drop, get_or, nat_lt, slice_index}
use Rattle.std.proofs.lemmas.Bool.Decides.{nat_tests}
use Rattle.std.proofs.lemmas.List.{drop_all, get_or-replicate, get_or-set_other, get_or-set_same, length_push}
use Rattle.std.proofs.Math.Seq.{drop-cons}
use Rattle.std.proofs.lemmas.Nat.{from_le_bytes-to_le_bytes_4}
use Rattle.jos_base.specs.declared.numbers.TheConstants.{PGSIZE}
use Rattle.jos_base.specs.declared.registers.Regs.{Regs}
use Rattle.jos_base.specs.Below.{values_below}
use Rattle.jos_base.specs.Reach.{Entry}
use Rattle.jos_base.specs.SpacesState.{zero_page}
use Rattle.jos_base.specs.Words.{upd, word_at}
use Rattle.jos_base.proofs.Below.{length-values, values-same}
use Rattle.jos_base.proofs.Maps.{upd-at, upd-other}
use Rattle.lib_os.specs.declared.numbers.TheConstants.{PIPEBUFSIZ, PIPE_BYTES, PIPE_LOCK, PIPE_READ, PIPE_WRITE}
use Rattle.lib_os.specs.declared.service.Service.{Service}
use Rattle.lib_os.specs.AbstractPipes.{is_read_end, is_such_held, is_write_end, read_from_pipe, read_over, read_pipe, write_pipe}
use Rattle.lib_os.specs.AbstractState.{AbstractState, Born, Object, Stage, file, moving, read_end, terminal, write_end}
use Rattle.lib_os.specs.Answers.{answered, at_stage}
use Rattle.lib_os.specs.DescriptorPages.{HasObject, HasPipe, Things, held_of, lock_of, pipe_byte, pipe_bytes, read_of, written_of}
use Rattle.lib_os.specs.Rows.{AreBytes, IsPage}
use Rattle.lib_os.specs.StandsAtPipe.{stage_put, stage_taken}
use Rattle.lib_os.proofs.BytesPut.{bytes_put, put_before, put_behind, put_there, put_whole}
use Rattle.lib_os.proofs.DescriptorWords.{file_beside}
use Rattle.lib_os.proofs.PageBytes.{bytes_more, bytes_none, word_bytes}

-- ---- a word or a byte that is stored in a page

abbrev pub with_word : List ℕ → ℕ → ℕ → List ℕ
with_word page o word = bytes_put page o (to_le_bytes w32 word)

abbrev pub with_byte : List ℕ → ℕ → ℕ → List ℕ
with_byte page o byte = bytes_put page o (byte ∷ [])

pub with_word_whole : (page : List ℕ) (o word : ℕ) → IsPage page → IsPage (with_word page o word)
with_word_whole page o word whole = put_whole page o (to_le_bytes w32 word) (word_bytes word) whole

pub with_byte_whole : (page : List ℕ) (o byte : ℕ) → byte < 256 → IsPage page → IsPage (with_byte page o byte)
with_byte_whole page o byte small whole = put_whole page o (byte ∷ []) (bytes_more byte [] small bytes_none) whole

-- the word is there
pub word_there : (page : List ℕ) (o word : ℕ) → word < 2 ^ 32 → o + 4 ≤ length page → word_at (slice_index (with_word page o word)) o ≡ word
word_there page o word small fits =
    let now : ℕ → ℕ = slice_index (with_word page o word) in
    let plain : o ≡ o + 0 = omega arith in
    let a : now o ≡ get_or (to_le_bytes w32 word) 0 0 = ap now plain ∙ put_there page o (to_le_bytes w32 word) 0 (omega arith) fits in
    let b : now (o + 1) ≡ get_or (to_le_bytes w32 word) 1 0 = put_there page o (to_le_bytes w32 word) 1 (omega arith) fits in
    let c : now (o + 2) ≡ get_or (to_le_bytes w32 word) 2 0 = put_there page o (to_le_bytes w32 word) 2 (omega arith) fits in
    let d : now (o + 3) ≡ get_or (to_le_bytes w32 word) 3 0 = put_there page o (to_le_bytes w32 word) 3 (omega arith) fits in
    (λ i. from_le_bytes w32 (a i ∷ b i ∷ c i ∷ d i ∷ [])) ∙ from_le_bytes-to_le_bytes_4 word small

-- words whose bytes are equal are equal
word_alike : (page now : List ℕ) (q : ℕ) → ((i : ℕ) → q ≤ i → i < q + 4 → slice_index now i ≡ slice_index page i) →
    word_at (slice_index now) q ≡ word_at (slice_index page) q
word_alike page now q same =
    let a = same q (omega arith) (omega arith) in
    let b = same (q + 1) (omega arith) (omega arith) in
    let c = same (q + 2) (omega arith) (omega arith) in
    let d = same (q + 3) (omega arith) (omega arith) in
    λ i. from_le_bytes w32 (a i ∷ b i ∷ c i ∷ d i ∷ [])

-- one before what is put, or behind it, stays
pub word_before : (page : List ℕ) (o : ℕ) (bytes : List ℕ) (q : ℕ) → q + 4 ≤ o →
    word_at (slice_index (bytes_put page o bytes)) q ≡ word_at (slice_index page) q
word_before page o bytes q below =
    word_alike page (bytes_put page o bytes) q (λ i from to. put_before page o bytes i (omega (arith, below, to)))

pub word_behind : (page : List ℕ) (o : ℕ) (bytes : List ℕ) (q : ℕ) → o + length bytes ≤ q →
    word_at (slice_index (bytes_put page o bytes)) q ≡ word_at (slice_index page) q
word_behind page o bytes q above =
    word_alike page (bytes_put page o bytes) q (λ i from to. put_behind page o bytes i (omega (arith, above, from)))

-- the byte is there, and any other stays
pub byte_there : (page : List ℕ) (at byte : ℕ) → at < length page → slice_index (with_byte page at byte) at ≡ byte
unfolding bytes_put
byte_there page at byte fits = get_or-set_same page at byte 0 fits

pub byte_elsewhere : (page : List ℕ) (at byte i : ℕ) → i ≢ at → slice_index (with_byte page at byte) i ≡ slice_index page i
unfolding bytes_put
byte_elsewhere page at byte i apart = get_or-set_other page at i byte 0 apart

four_small : (a b c d : ℕ) → a < 256 → b < 256 → c < 256 → d < 256 → from_le_bytes w32 (a ∷ b ∷ c ∷ d ∷ []) < 2 ^ 32
four_small a b c d first second third fourth = omega (arith, first, second, third, fourth)

-- a word of a page is one
pub word_under : (bytes : List ℕ) (o : ℕ) → AreBytes bytes → word_at (slice_index bytes) o < 2 ^ 32
word_under bytes o small =
    four_small (slice_index bytes o) (slice_index bytes (o + 1)) (slice_index bytes (o + 2)) (slice_index bytes (o + 3))
    (small o) (small (o + 1)) (small (o + 2)) (small (o + 3))

pub word_small : (page : List ℕ) (o : ℕ) → IsPage page → word_at (slice_index page) o < 2 ^ 32
word_small page o whole =
    four_small (slice_index page o) (slice_index page (o + 1)) (slice_index page (o + 2)) (slice_index page (o + 3))
    (whole.small o) (whole.small (o + 1)) (whole.small (o + 2)) (whole.small (o + 3))

-- ---- numbers

-- how many there are between two positions
abbrev pub between : ℕ → ℕ → ℕ
between from to = (to + 2 ^ 32 - from) % 2 ^ 32

between_less : (from to : ℕ) → from < 2 ^ 32 → to < 2 ^ 32 → between from to ≢ 0 → between from to ≡ suc (between ((from + 1) % 2 ^ 32) to)
between_less from to first last some = omega (arith, first, last, some)

between_more : (from to : ℕ) → from < 2 ^ 32 → to < 2 ^ 32 → between from to < PIPEBUFSIZ →
    between from ((to + 1) % 2 ^ 32) ≡ suc (between from to)
between_more from to first last room = omega (arith, first, last, room)

between_none : (from to : ℕ) → from < 2 ^ 32 → to < 2 ^ 32 → between from to ≡ 0 → from ≡ to
between_none from to first last none = omega (arith, first, last, none)

place_next : (from k : ℕ) → from < 2 ^ 32 → ((from + 1) % 2 ^ 32 + k) % PIPEBUFSIZ ≡ (from + suc k) % PIPEBUFSIZ
place_next from k first = omega (arith, first)

place_last : (from to : ℕ) → from < 2 ^ 32 → to < 2 ^ 32 → (from + between from to) % PIPEBUFSIZ ≡ to % PIPEBUFSIZ
place_last from to first last = omega (arith, first, last)

place_apart : (from to k : ℕ) → from < 2 ^ 32 → to < 2 ^ 32 → k < between from to → between from to < PIPEBUFSIZ →
    (from + k) % PIPEBUFSIZ ≢ to % PIPEBUFSIZ
place_apart from to k first last below room = λ same. absurd (omega (arith, first, last, below, room, same))

same_place : (a b : ℕ) → PIPE_BYTES + a ≡ PIPE_BYTES + b → a ≡ b
same_place a b same = omega (arith, same)

-- ---- the values at each number

values_first : (n : ℕ) (f : ℕ → ℕ) → values_below (suc n) f ≡ f 0 ∷ values_below n (λ k. f (suc k))
unfolding values_below
values_first zero f = refl
values_first (suc n) f = ap (λ (l : List ℕ). l ++ f (suc n) ∷ []) (values_first n f)

values_last : (n : ℕ) (f : ℕ → ℕ) → values_below (suc n) f ≡ values_below n f ++ f n ∷ []
unfolding values_below
values_last n f = refl

-- ---- the bytes that a pipe holds

read_small : (page : List ℕ) → IsPage page → read_of page < 2 ^ 32
read_small page whole = word_small page PIPE_READ whole

written_small : (page : List ℕ) → IsPage page → written_of page < 2 ^ 32
written_small page whole = word_small page PIPE_WRITE whole

-- There are as many as the positions tell.
pub bytes_long : (page : List ℕ) → length (pipe_bytes page) ≡ held_of page
unfolding pipe_bytes
bytes_long page = length-values (held_of page) (λ k. pipe_byte page (read_of page + k))

-- None are held exactly where the positions are equal.
pub held_none : (page : List ℕ) → read_of page ≡ written_of page → held_of page ≡ 0
held_none page same = go (read_of page) (written_of page) same
  where
    go : (from to : ℕ) → from ≡ to → between from to ≡ 0
    go from to equal = omega (arith, equal)

pub positions_meet : (page : List ℕ) → IsPage page → held_of page ≡ 0 → read_of page ≡ written_of page
positions_meet page whole none = between_none (read_of page) (written_of page) (read_small page whole) (written_small page whole) none

-- the test for it
pub empty_test : (page : List ℕ) → IsPage page → (held_of page == 0) ≡ (written_of page == read_of page)
empty_test page whole = go (read_of page) (written_of page) (read_small page whole) (written_small page whole)
  where
    go : (from to : ℕ) → from < 2 ^ 32 → to < 2 ^ 32 → (between from to == 0) ≡ (to == from)
    go from to first last = grind (arith, nat_tests, between_none from to first last)

-- how many are held, as the difference of the positions is computed
pub wrapped_held : (page : List ℕ) → IsPage page → (written_of page + (2 ^ 32 - read_of page)) % 2 ^ 32 ≡ held_of page
wrapped_held page whole = go (read_of page) (written_of page) (read_small page whole)
  where
    go : (from to : ℕ) → from < 2 ^ 32 → (to + (2 ^ 32 - from)) % 2 ^ 32 ≡ between from to
    go from to first = let moved : to + (2 ^ 32 - from) ≡ to + 2 ^ 32 - from = omega (arith, first) in ap (λ (n : ℕ). n % 2 ^ 32) moved

-- by the words that were read
pub held_between : (page : List ℕ) (from to : ℕ) → read_of page ≡ from → written_of page ≡ to → held_of page ≡ (to + 2 ^ 32 - from) % 2 ^ 32
held_between page from to reads writes = λ i. between (reads i) (writes i)

pub bytes_empty : (page : List ℕ) → held_of page ≡ 0 → pipe_bytes page ≡ []
unfolding pipe_bytes values_below
bytes_empty page none = ap (λ (n : ℕ). values_below n (λ k. pipe_byte page (read_of page + k))) none

-- the byte that a load finds at the place of a number
pub byte_found : (page : List ℕ) (number : ℕ) → slice_index page (PIPE_BYTES + number % PIPEBUFSIZ) ≡ pipe_byte page number
byte_found page number = refl

-- ---- what stays

-- the page holds what another does
pub record HoldsSame (page now : List ℕ) : Type 0 where
  pub read_is : read_of now ≡ read_of page
  pub written_is : written_of now ≡ written_of page
  pub bytes_are : pipe_bytes now ≡ pipe_bytes page

pub holds_same : {page : List ℕ} → HoldsSame page page
holds_same = record { read_is = refl; written_is = refl; bytes_are = refl }

pub same_held : {page now : List ℕ} → HoldsSame page now → held_of now ≡ held_of page
same_held same = λ i. between (same.read_is i) (same.written_is i)

bytes_alike : (page now : List ℕ) → read_of now ≡ read_of page → written_of now ≡ written_of page →
    ((k : ℕ) → k < held_of page → pipe_byte now (read_of page + k) ≡ pipe_byte page (read_of page + k)) → pipe_bytes now ≡ pipe_bytes page
unfolding pipe_bytes
bytes_alike page now reads writes each =
    (λ i. values_below (between (reads i) (writes i)) (λ k. pipe_byte now (reads i + k)))
    ∙ values-same (held_of page) (λ k. pipe_byte now (read_of page + k)) (λ k. pipe_byte page (read_of page + k)) each

-- ---- the lock

pub lock_byte : (page : List ℕ) (word number : ℕ) → pipe_byte (with_word page PIPE_LOCK word) number ≡ pipe_byte page number
lock_byte page word number =
    put_behind page PIPE_LOCK (to_le_bytes w32 word) (PIPE_BYTES + number % PIPEBUFSIZ) (omega arith)

pub lock_stored : (page : List ℕ) (word : ℕ) → HoldsSame page (with_word page PIPE_LOCK word)
lock_stored page word =
    let reads = word_behind page PIPE_LOCK (to_le_bytes w32 word) PIPE_READ (omega arith) in
    let writes = word_behind page PIPE_LOCK (to_le_bytes w32 word) PIPE_WRITE (omega arith) in
    record {
      read_is = reads;
      written_is = writes;
      bytes_are = bytes_alike page (with_word page PIPE_LOCK word) reads writes (λ k below. lock_byte page word (read_of page + k));
    }

pub lock_there : (page : List ℕ) (word : ℕ) → IsPage page → word < 2 ^ 32 → lock_of (with_word page PIPE_LOCK word) ≡ word
lock_there page word whole small = let long = whole.long in word_there page PIPE_LOCK word small (omega (arith, long))

-- ---- a byte is taken

-- The first byte is gone.
pub record HoldsLess (page now : List ℕ) : Type 0 where
  pub lock_is : lock_of now ≡ lock_of page
  pub read_is : read_of now ≡ (read_of page + 1) % 2 ^ 32
  pub written_is : written_of now ≡ written_of page
  pub still : (number : ℕ) → pipe_byte now number ≡ pipe_byte page number
  pub held_is : held_of page ≡ suc (held_of now)
  pub bytes_are : pipe_bytes page ≡ pipe_byte page (read_of page) ∷ pipe_bytes now

first_byte : (page : List ℕ) (from : ℕ) → pipe_byte page (from + 0) ≡ pipe_byte page from
first_byte page from = let plain : from + 0 ≡ from = omega arith in ap (pipe_byte page) plain

next_byte : (page : List ℕ) (from k : ℕ) → from < 2 ^ 32 → pipe_byte page (from + suc k) ≡ pipe_byte page ((from + 1) % 2 ^ 32 + k)
next_byte page from k first = ap (λ (place : ℕ). slice_index page (PIPE_BYTES + place)) (sym (place_next from k first))

module _ (page now : List ℕ) (whole : IsPage page) (some : held_of page ≢ 0) (reads : read_of now ≡ (read_of page + 1) % 2 ^ 32)
    (writes : written_of now ≡ written_of page) (still : (number : ℕ) → pipe_byte now number ≡ pipe_byte page number) where
  one_less : held_of page ≡ suc (held_of now)
  one_less =
      between_less (read_of page) (written_of page) (read_small page whole) (written_small page whole) some
      ∙ (λ i. suc (between (sym reads i) (sym writes i)))

  rest_same : (k : ℕ) → pipe_byte page (read_of page + suc k) ≡ pipe_byte now (read_of now + k)
  rest_same k =
      next_byte page (read_of page) k (read_small page whole)
      ∙ sym (still ((read_of page + 1) % 2 ^ 32 + k))
      ∙ ap (λ (from : ℕ). pipe_byte now (from + k)) (sym reads)

  bytes_less : pipe_bytes page ≡ pipe_byte page (read_of page) ∷ pipe_bytes now
  unfolding pipe_bytes
  bytes_less =
      ap (λ (n : ℕ). values_below n (λ k. pipe_byte page (read_of page + k))) one_less
      ∙ values_first (held_of now) (λ k. pipe_byte page (read_of page + k))
      ∙ (λ i. first_byte page (read_of page) i
      ∷ values-same (held_of now) (λ k. pipe_byte page (read_of page + suc k)) (λ k. pipe_byte now (read_of now + k)) (λ k below. rest_same k) i)

module _ (page : List ℕ) (from : ℕ) (whole : IsPage page) (from_is : read_of page ≡ from) (some : held_of page ≢ 0) where
  abbrev taken : List ℕ
  taken = with_word page PIPE_READ ((from + 1) % 2 ^ 32)

  -- the read position is one more
  pub read_stored : HoldsLess page taken
  read_stored =
      let lock = word_before page PIPE_READ (to_le_bytes w32 ((from + 1) % 2 ^ 32)) PIPE_LOCK (omega arith) in
      let writes = word_behind page PIPE_READ (to_le_bytes w32 ((from + 1) % 2 ^ 32)) PIPE_WRITE (omega arith) in
      let still : (number : ℕ) → pipe_byte taken number ≡ pipe_byte page number =
      λ number. put_behind page PIPE_READ (to_le_bytes w32 ((from + 1) % 2 ^ 32)) (PIPE_BYTES + number % PIPEBUFSIZ) (omega arith) in
      let reads : read_of taken ≡ (read_of page + 1) % 2 ^ 32 =
      (let long = whole.long in word_there page PIPE_READ ((from + 1) % 2 ^ 32) (omega arith) (omega (arith, long)))
      ∙ ap (λ (n : ℕ). (n + 1) % 2 ^ 32) (sym from_is) in
      record {
        lock_is = lock;
        read_is = reads;
        written_is = writes;
        still = still;
        held_is = one_less page taken whole some reads writes still;
        bytes_are = bytes_less page taken whole some reads writes still;
      }

-- ---- a byte is put

-- It stands at the place of the number, behind those that are held.
pub record HasBehind (page now : List ℕ) (to byte : ℕ) : Type 0 where
  pub lock_is : lock_of now ≡ lock_of page
  pub same : HoldsSame page now
  pub byte_is : pipe_byte now to ≡ byte

module _ (page : List ℕ) (to byte : ℕ) (whole : IsPage page) (to_is : written_of page ≡ to) (room : held_of page < PIPEBUFSIZ) where
  abbrev place : ℕ
  place = PIPE_BYTES + to % PIPEBUFSIZ

  abbrev put_in : List ℕ
  put_in = with_byte page place byte

  elsewhere : (i : ℕ) → i ≢ place → slice_index put_in i ≡ slice_index page i
  elsewhere i apart = byte_elsewhere page place byte i apart

  others : (k : ℕ) → k < held_of page → pipe_byte put_in (read_of page + k) ≡ pipe_byte page (read_of page + k)
  others k below =
      let apart : (read_of page + k) % PIPEBUFSIZ ≢ to % PIPEBUFSIZ =
      subst (λ (n : ℕ). (read_of page + k) % PIPEBUFSIZ ≢ n % PIPEBUFSIZ) to_is
      (place_apart (read_of page) (written_of page) k (read_small page whole) (written_small page whole) below room) in
      elsewhere (PIPE_BYTES + (read_of page + k) % PIPEBUFSIZ) (λ same. apart (same_place _ _ same))

  pub byte_stored : HasBehind page put_in to byte
  byte_stored =
      let reads = word_before page place (byte ∷ []) PIPE_READ (omega arith) in
      let writes = word_before page place (byte ∷ []) PIPE_WRITE (omega arith) in
      record {
        lock_is = word_before page place (byte ∷ []) PIPE_LOCK (omega arith);
        same = record { read_is = reads; written_is = writes; bytes_are = bytes_alike page put_in reads writes others };
        byte_is = byte_there page place byte (let long = whole.long in omega (arith, long));
      }

-- One more is held, which stands at the place of the position.
pub record HoldsMore (page now : List ℕ) : Type 0 where
  pub lock_is : lock_of now ≡ lock_of page
  pub read_is : read_of now ≡ read_of page
  pub written_is : written_of now ≡ (written_of page + 1) % 2 ^ 32
  pub still : (number : ℕ) → pipe_byte now number ≡ pipe_byte page number
  pub held_is : held_of now ≡ suc (held_of page)
  pub bytes_are : pipe_bytes now ≡ pipe_bytes page ++ pipe_byte page (written_of page) ∷ []

module _ (page now : List ℕ) (whole : IsPage page) (room : held_of page < PIPEBUFSIZ) (reads : read_of now ≡ read_of page)
    (writes : written_of now ≡ (written_of page + 1) % 2 ^ 32) (still : (number : ℕ) → pipe_byte now number ≡ pipe_byte page number) where
  one_more : held_of now ≡ suc (held_of page)
  one_more =
      (λ i. between (reads i) (writes i))
      ∙ between_more (read_of page) (written_of page) (read_small page whole) (written_small page whole) room

  last_byte : pipe_byte page (read_of page + held_of page) ≡ pipe_byte page (written_of page)
  last_byte =
      ap (λ (at : ℕ). slice_index page (PIPE_BYTES + at))
      (place_last (read_of page) (written_of page) (read_small page whole) (written_small page whole))

  bytes_more_by_one : pipe_bytes now ≡ pipe_bytes page ++ pipe_byte page (written_of page) ∷ []
  unfolding pipe_bytes
  bytes_more_by_one =
      (λ i. values_below (one_more i) (λ k. pipe_byte now (reads i + k)))
      ∙ values-same (suc (held_of page)) (λ k. pipe_byte now (read_of page + k)) (λ k. pipe_byte page (read_of page + k))
      (λ k below. still (read_of page + k))
      ∙ values_last (held_of page) (λ k. pipe_byte page (read_of page + k))
      ∙ ap (λ (byte : ℕ). values_below (held_of page) (λ k. pipe_byte page (read_of page + k)) ++ byte ∷ []) last_byte

module _ (page : List ℕ) (to : ℕ) (whole : IsPage page) (to_is : written_of page ≡ to) (room : held_of page < PIPEBUFSIZ) where
  abbrev put_now : List ℕ
  put_now = with_word page PIPE_WRITE ((to + 1) % 2 ^ 32)

  -- the write position is one more
  pub written_stored : HoldsMore page put_now
  written_stored =
      let lock = word_before page PIPE_WRITE (to_le_bytes w32 ((to + 1) % 2 ^ 32)) PIPE_LOCK (omega arith) in
      let reads = word_before page PIPE_WRITE (to_le_bytes w32 ((to + 1) % 2 ^ 32)) PIPE_READ (omega arith) in
      let still : (number : ℕ) → pipe_byte put_now number ≡ pipe_byte page number =
      λ number. put_behind page PIPE_WRITE (to_le_bytes w32 ((to + 1) % 2 ^ 32)) (PIPE_BYTES + number % PIPEBUFSIZ) (omega arith) in
      let writes : written_of put_now ≡ (written_of page + 1) % 2 ^ 32 =
      (let long = whole.long in word_there page PIPE_WRITE ((to + 1) % 2 ^ 32) (omega arith) (omega (arith, long)))
      ∙ ap (λ (n : ℕ). (n + 1) % 2 ^ 32) (sym to_is) in
      record {
        lock_is = lock;
        read_is = reads;
        written_is = writes;
        still = still;
        held_is = one_more page put_now whole room reads writes still;
        bytes_are = bytes_more_by_one page put_now whole room reads writes still;
      }

-- ---- a new page

zero_word : (q : ℕ) → q + 4 ≤ PGSIZE → word_at (slice_index zero_page) q ≡ 0
unfolding zero_page
zero_word q inside =
    let a = get_or-replicate {A = ℕ} PGSIZE q 0 0 (omega (arith, inside)) in
    let b = get_or-replicate {A = ℕ} PGSIZE (q + 1) 0 0 (omega (arith, inside)) in
    let c = get_or-replicate {A = ℕ} PGSIZE (q + 2) 0 0 (omega (arith, inside)) in
    let d = get_or-replicate {A = ℕ} PGSIZE (q + 3) 0 0 (omega (arith, inside)) in
    λ i. from_le_bytes w32 (a i ∷ b i ∷ c i ∷ d i ∷ [])

pub new_lock : lock_of zero_page ≡ 0
new_lock = zero_word PIPE_LOCK (omega arith)

pub new_read : read_of zero_page ≡ 0
new_read = zero_word PIPE_READ (omega arith)

pub new_written : written_of zero_page ≡ 0
new_written = zero_word PIPE_WRITE (omega arith)

pub new_bytes : pipe_bytes zero_page ≡ []
new_bytes = bytes_empty zero_page (held_none zero_page (new_read ∙ sym new_written))

-- ---- the pipe that has a name

-- with these bytes
abbrev pub with_pipe : Things → ℕ → List ℕ → Things
with_pipe things name bytes = record things { pipes = upd things.pipes name bytes }

-- it holds as many as its page
pub told_long : {things : Things} {name frame : ℕ} {page : List ℕ} → HasPipe things name frame page → length (things.pipes name) ≡ held_of page
told_long {things = things} {page = page} is = ap length (sym is.holds) ∙ bytes_long page

pub told_none : {things : Things} {name frame : ℕ} {page : List ℕ} → HasPipe things name frame page → held_of page ≡ 0 → things.pipes name ≡ []
told_none {page = page} is none = sym is.holds ∙ bytes_empty page none

-- the page of a pipe that has no bytes yet
pub empty_stands : (things : Things) (name frame : ℕ) (page : List ℕ) → read_of page ≡ 0 → written_of page ≡ 0 → things.pipes name ≡ [] →
    ((q : ℕ) (e : Entry) → things.row q ≡ Some e → e.frame ≢ frame) → HasPipe things name frame page
empty_stands things name frame page reads writes none apart =
    let none_held = held_none page (reads ∙ sym writes) in
    record { holds = bytes_empty page none_held ∙ sym none; few = omega (arith, none_held); apart = apart }

-- the first of its bytes, and the rest
pub told_less : {things : Things} {name frame : ℕ} {page now : List ℕ} → HasPipe things name frame page → HoldsLess page now →
    things.pipes name ≡ pipe_byte page (read_of page) ∷ pipe_bytes now
told_less is less = sym is.holds ∙ less.bytes_are

-- the same by the word that was read
pub told_first : {things : Things} {name frame : ℕ} {page now : List ℕ} (from : ℕ) → HasPipe things name frame page → read_of page ≡ from →
    HoldsLess page now → things.pipes name ≡ pipe_byte page from ∷ pipe_bytes now
told_first {page = page} {now = now} from is from_is less =
    told_less is less ∙ ap (λ (number : ℕ). pipe_byte page number ∷ pipe_bytes now) from_is

-- The server's pages are what they were.
module _ {things after : Things} (rows : (q : ℕ) → after.row q ≡ things.row q) {name frame : ℕ} {page now : List ℕ}
    (is : HasPipe things name frame page) where
  -- what a page holds stays, and so does the pipe
  pub same_stands : after.pipes name ≡ things.pipes name → HoldsSame page now → HasPipe after name frame now
  same_stands told same =
      let few = is.few in
      let held = same_held same in
      record { holds = same.bytes_are ∙ is.holds ∙ sym told; few = omega (arith, few, held); apart = λ q e at. is.apart q e (sym (rows q) ∙ at) }

  -- a byte is taken
  pub less_stands : after.pipes name ≡ pipe_bytes now → HoldsLess page now → HasPipe after name frame now
  less_stands told less =
      let few = is.few in
      let held = less.held_is in
      record { holds = sym told; few = omega (arith, few, held); apart = λ q e at. is.apart q e (sym (rows q) ∙ at) }

  -- a byte is put
  pub more_stands : (byte : ℕ) → pipe_byte page (written_of page) ≡ byte → after.pipes name ≡ things.pipes name ++ byte ∷ [] →
      held_of page < PIPEBUFSIZ → HoldsMore page now → HasPipe after name frame now
  more_stands byte byte_is told room more =
      let held = more.held_is in
      record {
        holds = more.bytes_are ∙ (λ i. is.holds i ++ byte_is i ∷ []) ∙ sym told;
        few = omega (arith, room, held);
        apart = λ q e at. is.apart q e (sym (rows q) ∙ at);
      }

-- The same where the pipe is changed alone.
module _ {things : Things} {name frame : ℕ} {page now : List ℕ} (is : HasPipe things name frame page) where
  pub taken_stands : HoldsLess page now → HasPipe (with_pipe things name (pipe_bytes now)) name frame now
  taken_stands less =
      less_stands {things = things} {after = with_pipe things name (pipe_bytes now)} (λ q. refl) is (upd-at things.pipes name (pipe_bytes now)) less

  pub put_stands : (byte : ℕ) → pipe_byte page (written_of page) ≡ byte → held_of page < PIPEBUFSIZ → HoldsMore page now →
      HasPipe (with_pipe things name (things.pipes name ++ byte ∷ [])) name frame now
  put_stands byte byte_is room more =
      more_stands {things = things} {after = with_pipe things name (things.pipes name ++ byte ∷ [])} (λ q. refl) is byte byte_is
      (upd-at things.pipes name (things.pipes name ++ byte ∷ [])) room more

pub other_stands : {things : Things} {name frame : ℕ} {page : List ℕ} → HasPipe things name frame page → (other : ℕ) (bytes : List ℕ) →
    name ≢ other → HasPipe (with_pipe things other bytes) name frame page
other_stands {things = things} {name = name} {page = page} is other bytes ne =
    same_stands {things = things} {after = with_pipe things other bytes} (λ q. refl) is (upd-other things.pipes other bytes name ne)
    (holds_same {page = page})

-- what an object's page tells stays
pub object_stands : (things : Things) (pipe : ℕ) (rest : List ℕ) (name frame : ℕ) (object : Object) (bytes : List ℕ) →
    HasObject things name frame object bytes → HasObject (with_pipe things pipe rest) name frame object bytes
object_stands things pipe rest name frame terminal bytes is = record { device = is.device; apart = is.apart }
object_stands things pipe rest name frame (read_end other) bytes is = record { numbered = is.numbered; device = is.device; mode_is = is.mode_is; apart = is.apart }
object_stands things pipe rest name frame (write_end other) bytes is = record { numbered = is.numbered; device = is.device; mode_is = is.mode_is; apart = is.apart }
object_stands things pipe rest name frame (file f) bytes is = file_beside is is.held is.entry is.stands is.same

-- ---- reading from a pipe and writing to it, as the program sees it

-- what the stage is behind one more byte
taken_more : (taken : List ℕ) (byte : ℕ) → stage_taken (taken ++ byte ∷ []) ≡ moving (taken ++ byte ∷ []) (length taken + 1)
taken_more [] byte = refl
taken_more (first ∷ rest) byte = ap (moving (first ∷ rest ++ byte ∷ [])) (length_push (first ∷ rest) byte)

module _ (a : AbstractState) (n : ℕ) (b : Born) (regs : Regs) (call : Service) (pipe : ℕ) where
  -- read takes the first byte, where it wants more
  pub read_takes : (va wanted : ℕ) (taken : List ℕ) (byte : ℕ) (rest : List ℕ) → a.pipes pipe ≡ byte ∷ rest → length taken < wanted →
      read_pipe a n b regs call va pipe wanted taken
      ≡ Some (at_stage (record a { pipes = upd a.pipes pipe rest }) n b call (stage_taken (taken ++ byte ∷ [])))
  read_takes va wanted taken byte rest is more =
      let goes_on : nat_lt (length taken) wanted ≡ true = grind (arith, nat_tests) in
      ap (read_from_pipe a n b regs call va pipe wanted taken) is
      ∙ rw goes_on refl
      ∙ ap (λ (stage : Stage). Some (at_stage (record a { pipes = upd a.pipes pipe rest }) n b call stage)) (sym (taken_more taken byte))

  -- and is over where there is none, or where it wants no more
  pub read_none : (va wanted : ℕ) (taken : List ℕ) → a.pipes pipe ≡ [] →
      read_pipe a n b regs call va pipe wanted taken ≡ read_over a n b regs call va pipe wanted taken
  read_none va wanted taken none = ap (read_from_pipe a n b regs call va pipe wanted taken) none

  pub read_all : (va wanted : ℕ) (taken : List ℕ) → length taken ≡ wanted →
      read_pipe a n b regs call va pipe wanted taken ≡ read_over a n b regs call va pipe wanted taken
  read_all va wanted taken all = by_bytes (a.pipes pipe)
    where
      by_bytes : (bytes : List ℕ) → read_from_pipe a n b regs call va pipe wanted taken bytes ≡ read_over a n b regs call va pipe wanted taken
      by_bytes [] = refl
      by_bytes (byte ∷ rest) =
          let over : nat_lt (length taken) wanted ≡ false = grind (arith, nat_tests) in
          rw over refl

  pub read_closed : (va wanted : ℕ) → a.pipes pipe ≡ [] → 0 < wanted → is_such_held a (is_write_end pipe) ≡ false →
      read_pipe a n b regs call va pipe wanted [] ≡ Some (answered a n b regs 0)
  read_closed va wanted none wants closed =
      let some : (wanted == 0) ≡ false = grind (arith, nat_tests) in
      read_none va wanted [] none ∙ rw (some, closed) refl

  -- write puts its next byte where there is room
  pub write_puts : (bytes : List ℕ) (done : ℕ) → done < length bytes → length (a.pipes pipe) < PIPEBUFSIZ →
      write_pipe a n b regs call pipe (drop done bytes) done
      ≡ Some (at_stage (record a { pipes = upd a.pipes pipe (a.pipes pipe ++ slice_index bytes done ∷ []) }) n b call (stage_put bytes (suc done)))
  write_puts bytes done more room =
      let goes_on : nat_lt (length (a.pipes pipe)) PIPEBUFSIZ ≡ true = grind (arith, nat_tests) in
      ap (λ (left : List ℕ). write_pipe a n b regs call pipe left done) (drop-cons bytes done 0 more)
      ∙ rw goes_on refl
      ∙ ap (λ (count : ℕ). Some (at_stage (record a { pipes = upd a.pipes pipe (a.pipes pipe ++ slice_index bytes done ∷ []) }) n b call
      (moving (drop (suc done) bytes) count))) (add-one done)

  -- is over where it has put all, or where nobody can read them
  pub write_all : (bytes : List ℕ) → write_pipe a n b regs call pipe (drop (length bytes) bytes) (length bytes)
      ≡ Some (answered a n b regs (length bytes))
  write_all bytes = ap (λ (left : List ℕ). write_pipe a n b regs call pipe left (length bytes)) (drop_all (length bytes) bytes (omega arith))

  pub write_closed : (bytes : List ℕ) (done : ℕ) → done < length bytes → PIPEBUFSIZ ≤ length (a.pipes pipe) →
      is_such_held a (is_read_end pipe) ≡ false → write_pipe a n b regs call pipe (drop done bytes) done ≡ Some (answered a n b regs done)
  write_closed bytes done more full closed =
      let no_room : nat_lt (length (a.pipes pipe)) PIPEBUFSIZ ≡ false = grind (arith, nat_tests) in
      ap (λ (left : List ℕ). write_pipe a n b regs call pipe left done) (drop-cons bytes done 0 more)
      ∙ rw (no_room, closed) refl
