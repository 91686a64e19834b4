-- The laws of spawn as it loads the next bytes of a piece from the page in which that came: a word, or the two words in which the four bytes stand, or a byte.
use Rattle.std.proofs.Common.{◌≡◌, ◌≢◌, ◌∙◌, ◌+◌, ◌-◌, ◌*◌, ◌%◌, ◌^◌, ◌<◌, ◌≤◌, ◌==◌, ◌&&◌, ℕ, Bool, true, false, not, List, ◌∷◌, [], length, refl, sym, ap}
use Rattle.std.proofs.Common.{subst, arith}
use Rattle.std.proofs.Common.{if◌then◌else◌}
use Rattle.std.specs.Int.{from_le_bytes, to_le_bytes, w32}
use Rattle.std.specs.Prelude.{drop, nat_le, slice_index, take}
use Rattle.std.proofs.lemmas.Bool.{eqb-false, eqb-true}
use Rattle.std.proofs.lemmas.Bool.Decides.{nat_tests}
use Rattle.std.proofs.lemmas.List.{get_or-drop, length-drop, length-take-le}
use Rattle.std.proofs.lemmas.Nat.{le_bytes_4}
use Rattle.std.proofs.lemmas.Option.{same_Some}
use Rattle.std.proofs.Math.Nat.{min-le_left}
use Rattle.jos_base.specs.declared.numbers.TheConstants.{PGSIZE, UTEMP}
use Rattle.jos_base.specs.Environments.{Slot, is_live}
use Rattle.jos_base.specs.KernelState.{KernelState, slot_at}
use Rattle.jos_base.specs.Reach.{Entry}
use Rattle.jos_base.specs.Words.{page_number, word_at}
use Rattle.lib_os.specs.declared.numbers.TheConstants.{TRANSFER_MAX}
use Rattle.lib_os.specs.declared.place.Step.{Step}
use Rattle.lib_os.specs.declared.place.Step.TheVariants as step
use Rattle.lib_os.specs.declared.service.Service.TheVariants as service
use Rattle.lib_os.specs.declared.spawn_steps.BearingStep.{BearingStep}
use Rattle.lib_os.specs.declared.spawn_steps.BearingStep.TheVariants as bearing
use Rattle.lib_os.specs.declared.spawn_steps.SpawnStep.{SpawnStep}
use Rattle.lib_os.specs.declared.spawn_steps.SpawnStep.TheVariants as spawn
use Rattle.lib_os.specs.AbstractSpawn.{headers_in}
use Rattle.lib_os.specs.AbstractState.{AbstractState, Born}
use Rattle.lib_os.specs.LibraryPages.{View}
use Rattle.lib_os.specs.Places.{place_of}
use Rattle.lib_os.specs.Rows.{AreBytes, IsPage, Names}
use Rattle.lib_os.specs.StandsAtSpawn.{BearingStands, IsPuttingAt, PageHas, piece_start, put_at_once}
use Rattle.lib_os.specs.StandsFor.{StandsFor, view_of}
use Rattle.lib_os.specs.UserCalls.{load, load_byte}
use Rattle.lib_os.proofs.BytesDelivered.{take_first, take_four}
use Rattle.lib_os.proofs.FileLoaded.{joined_is}
use Rattle.lib_os.proofs.PageBytes.{bytes_drop, bytes_take}
use Rattle.lib_os.proofs.WindowWords.{read_at}
use Rattle.lib_os.proofs.SpawnedGoes.{goes_still}
use Rattle.lib_os.proofs.SpawnOwnPages.{IsSpawnsOwn, own_byte_loaded, own_word_loaded, spawn_there, spawn_words, spawns_at, spawns_own}
use Rattle.lib_stage.specs.declared.ask.Ask.TheVariants as ask
use Rattle.lib_stage.specs.declared.ask.Next.{Next}
use Rattle.lib_stage.specs.declared.ask.Next.TheVariants as next
use Rattle.lib_stage.specs.ServiceSteps.{ServiceHolds}
use Rattle.lib_stage.proofs.Laws.{FallsOrAsks}
use Rattle.lib_file.specs.Keeping.{next_va}
use Rattle.lib_file.proofs.Finds.{staged}
use Rattle.lib_request.proofs.BorneGoes.{BorneGoesTo, borne_loaded_so}
use Rattle.lib_request.proofs.OwnPageLaws.{IsLoadedSo, own_load_byte_known, own_load_known}
use Rattle.lib_bytes.specs.FileStages.{joined, moved}
use Rattle.lib_child.specs.BearingStages.{bears, next_of}
use Rattle.lib_child.proofs.BearingFalls.{bearing_known}
use Rattle.lib_child.proofs.BearingStays.{putting_told}
use Rattle.lib_child.proofs.HeaderSays.{file_len_below}
use Rattle.lib_child.proofs.PutsAt.{put_end, put_va}

-- ---- bytes of a list

word_there : (bytes : List ℕ) (d : ℕ) → AreBytes bytes → d + 4 ≤ length bytes →
    take 4 (to_le_bytes w32 (word_at (slice_index bytes) d)) ≡ take 4 (drop d bytes)
word_there bytes d small within =
    let long = length-drop d bytes in
    let none : d + 0 ≡ d = omega arith in
    let zeroth : slice_index (drop d bytes) 0 ≡ slice_index bytes d = get_or-drop d bytes 0 0 ∙ ap (slice_index bytes) none in
    let those : take 4 (drop d bytes) ≡ slice_index bytes d ∷ slice_index bytes (d + 1) ∷ slice_index bytes (d + 2) ∷ slice_index bytes (d + 3) ∷ [] =
    take_four (drop d bytes) (omega (arith, long, within))
    ∙ (λ i. zeroth i ∷ get_or-drop d bytes 1 0 i ∷ get_or-drop d bytes 2 0 i ∷ get_or-drop d bytes 3 0 i ∷ []) in
    le_bytes_4 (take 4 (drop d bytes)) (word_at (slice_index bytes) d) (length-take-le 4 (drop d bytes) (omega (arith, long, within)))
    (bytes_take 4 (drop d bytes) (bytes_drop d bytes small)) (ap (from_le_bytes w32) (sym those))

byte_there : (bytes : List ℕ) (d : ℕ) → AreBytes bytes → d < length bytes →
    take 1 (to_le_bytes w32 (slice_index bytes d)) ≡ take 1 (drop d bytes)
byte_there bytes d small within =
    let long = length-drop d bytes in
    let none : d + 0 ≡ d = omega arith in
    let zeroth : slice_index (drop d bytes) 0 ≡ slice_index bytes d = get_or-drop d bytes 0 0 ∙ ap (slice_index bytes) none in
    let below = small d in
    let byte_is : slice_index bytes d % 256 ≡ slice_index bytes d = omega (arith, below) in
    ap (λ (byte : ℕ). byte ∷ []) (byte_is ∙ sym zeroth) ∙ sym (take_first (drop d bytes) (omega (arith, long, within)))

-- the four bytes that stand in two words of a page which has them
rest_taken : (bytes raw : List ℕ) (d first : ℕ) → AreBytes bytes → AreBytes raw → d + 4 ≤ length bytes →
    ((i : ℕ) → i < length bytes → slice_index raw i ≡ slice_index bytes i) → first ≡ word_at (slice_index bytes) (d - d % 4) →
    take 4 (to_le_bytes w32 (joined (d % 4) first (word_at (slice_index raw) (d - d % 4 + 4)))) ≡ take 4 (drop d bytes)
rest_taken bytes raw d first small page_small within same first_is =
    ap (λ (word : ℕ). take 4 (to_le_bytes w32 (joined (d % 4) word (word_at (slice_index raw) (d - d % 4 + 4)))))
    (first_is ∙ sym (words_same (d - d % 4) (omega (arith, within))))
    ∙ ap (λ (word : ℕ). take 4 (to_le_bytes w32 word)) (joined_is raw page_small d ∙ words_same d within)
    ∙ word_there bytes d small within
  where
    words_same : (at : ℕ) → at + 4 ≤ length bytes → word_at (slice_index raw) at ≡ word_at (slice_index bytes) at
    words_same at fits =
        let zeroth = same at (omega (arith, fits)) in
        let one = same (at + 1) (omega (arith, fits)) in
        let two = same (at + 2) (omega (arith, fits)) in
        let three = same (at + 3) (omega (arith, fits)) in
        λ j. from_le_bytes w32 (zeroth j ∷ one j ∷ two j ∷ three j ∷ [])

-- ---- how many are put at once

pub four_of : (at wanted : ℕ) → put_at_once at wanted ≡ 4 → 4 ≤ wanted
four_of at wanted four = by_tests (at % 4 == 0) (nat_le 4 wanted) refl four
  where
    by_tests : (aligned many : Bool) → nat_le 4 wanted ≡ many → ◌≡◌ {A = ℕ} (if aligned && many then 4 else 1) 4 → 4 ≤ wanted
    by_tests true true test is = grind (arith, nat_tests, test)
    by_tests true false test is = absurd (omega (arith, is))
    by_tests false many test is = absurd (omega (arith, is))

pub one_of : (at wanted : ℕ) → put_at_once at wanted ≢ 4 → put_at_once at wanted ≡ 1
one_of at wanted other = by_tests (at % 4 == 0) (nat_le 4 wanted) other
  where
    by_tests : (aligned many : Bool) → ◌≢◌ {A = ℕ} (if aligned && many then 4 else 1) 4 → ◌≡◌ {A = ℕ} (if aligned && many then 4 else 1) 1
    by_tests true true is = absurd (is refl)
    by_tests true false is = refl
    by_tests false many is = refl

module _ {v : View} {k : Slot} {b : Born} {path argv fd headers child header va done end : ℕ}
    (so : IsPuttingAt v k b path argv fd headers child header va done end) where
  pub next_place : next_va va done ≡ va + done
  next_place = subst (λ (first : ℕ). next_va first done ≡ first + done) so.va_is (put_va so.putting)

  pub moved_same : moved va done end ≡ put_at_once (va + done) (end - done)
  moved_same = ap (λ (at : ℕ). put_at_once at (end - done)) next_place

  -- where the bytes stand in their page
  pub bytes_left : done % TRANSFER_MAX + (end - done) ≡ length so.putting.bytes
  bytes_left = let long = so.putting.long in let within = so.putting.within in omega (arith, long, within)

  pub bytes_fit : length so.putting.bytes ≤ PGSIZE
  bytes_fit =
      let long = so.putting.long in
      let is = so.putting.end_is in
      let most = min-le_left (piece_start done + TRANSFER_MAX) (headers_in so.putting.image.table header).file_len in
      omega (arith, long, is, most)

  pub end_small : end < 2 ^ 32
  end_small =
      let last = put_end so.putting in
      let small = file_len_below so.putting.image.table header so.putting.whole.small in
      omega (arith, last, small)

-- ---- the first word, or the byte

module _ (s : KernelState) (n path argv : ℕ) (live : is_live (slot_at s n) ≡ true) (fd headers child header va done end : ℕ) where
  abbrev loading_step : BearingStep
  loading_step = bearing.PieceLoading fd headers child header va done end

  abbrev loading_at : SpawnStep
  loading_at = spawn.Bearing loading_step

  module _ (stands : place_of (slot_at s n) ≡ spawns_at path argv (spawn.Bearing (bearing.PieceLoading fd headers child header va done end))) where
    abbrev home : ℕ
    home = (slot_at s n).directory

    abbrev word_va : ℕ
    word_va = UTEMP + (done - done % 4) % PGSIZE

    abbrev byte_va : ℕ
    byte_va = UTEMP + done % PGSIZE

    abbrev loading_next : ℕ → Next
    loading_next = next_of loading_step

    falls : (word : ℕ) → FallsOrAsks s n (service.Spawn path argv) (step.Spawning loading_at) (loading_next word)
    falls word = bearing_known s n path argv loading_step stands word

    module _ (names : Names) (a : AbstractState) (h : StandsFor names s a) where
      abbrev b : Born
      b = (spawn_there h n path argv loading_at stands).b

      so : IsPuttingAt (view_of s.spaces home) (slot_at s n) b path argv fd headers child header va done end
      so = (spawn_there h n path argv loading_at stands).at

      abbrev bytes : List ℕ
      bytes = so.putting.bytes

      abbrev d : ℕ
      d = done % TRANSFER_MAX

      abbrev Goes : Step → Type 0
      Goes to = BorneGoesTo (view_of s.spaces home) (slot_at s n) b path argv child loading_at to

      -- it is put next
      puts : (word : ℕ) → take (put_at_once (va + done) (end - done)) (to_le_bytes w32 word) ≡ take (put_at_once (va + done) (end - done)) (drop d bytes) →
          Goes (step.Spawning (spawn.Bearing (bearing.PiecePutting fd headers child header va done end word)))
      puts word taken =
          let to : SpawnStep = spawn.Bearing (bearing.PiecePutting fd headers child header va done end word) in
          record {
            at = to;
            is = refl;
            held = refl;
            bears = refl;
            childs = λ p. refl;
            told = λ q is. is;
            goes = goes_still child loading_at to (λ m progress is. is);
            stands = (record { putting = putting_told (spawn_words to) so.putting; va_is = so.va_is }, taken);
          }

      -- or the second word is wanted
      rests : (word : ℕ) → put_at_once (va + done) (end - done) ≡ 4 → done % 4 ≢ 0 → word ≡ word_at (slice_index bytes) (d - done % 4) →
          Goes (step.Spawning (spawn.Bearing (bearing.PieceRest fd headers child header va done end word)))
      rests word four apart first =
          let to : SpawnStep = spawn.Bearing (bearing.PieceRest fd headers child header va done end word) in
          record {
            at = to;
            is = refl;
            held = refl;
            bears = refl;
            childs = λ p. refl;
            told = λ q is. is;
            goes = goes_still child loading_at to (λ m progress is. is);
            stands = (record { putting = putting_told (spawn_words to) so.putting; va_is = so.va_is }, four, apart, first);
          }

      word_loaded : (moved va done end == 4) ≡ true → IsLoadedSo s n (service.Spawn path argv) a loading_next word_va (load s n word_va)
      word_loaded test =
          let four : put_at_once (va + done) (end - done) ≡ 4 = sym (moved_same so) ∙ eqb-true (moved va done end) 4 test in
          let many = four_of (va + done) (end - done) four in
          let left = bytes_left so in
          let fit = bytes_fit so in
          let i : ℕ = d - done % 4 in
          let where_is : page_number UTEMP * PGSIZE + (0 + i) ≡ word_va = omega arith in
          subst (λ (q : ℕ). IsLoadedSo s n (service.Spawn path argv) a loading_next q (load s n q)) where_is
          (by_place four i refl (done % 4 == 0) refl
          (own_word_loaded h n path argv loading_at stands (page_number UTEMP) refl 0 bytes so.putting.kept i (omega (arith, many, left))
          (omega (arith, many, left, fit)) (omega arith)))
        where
          next_is : (word : ℕ) (c : Bool) → (done % 4 == 0) ≡ c → loading_next word ≡ next.GoOn (step.Spawning (if true && not c
              then spawn.Bearing (bearing.PieceRest fd headers child header va done end word)
              else spawn.Bearing (bearing.PiecePutting fd headers child header va done end word)))
          next_is word c is =
              (λ i. next.GoOn (step.Spawning (if test i && not (is i) then spawn.Bearing (bearing.PieceRest fd headers child header va done end word)
              else spawn.Bearing (bearing.PiecePutting fd headers child header va done end word))))

          by_place : put_at_once (va + done) (end - done) ≡ 4 → (i : ℕ) → i ≡ d - done % 4 → (c : Bool) → (done % 4 == 0) ≡ c →
              load s n (page_number UTEMP * PGSIZE + (0 + i)) ≡ read_at s n (page_number UTEMP * PGSIZE + (0 + i)) (word_at (slice_index bytes) i) →
              IsLoadedSo s n (service.Spawn path argv) a loading_next (page_number UTEMP * PGSIZE + (0 + i)) (load s n (page_number UTEMP * PGSIZE + (0 + i)))
          by_place four i here true begins is =
              let whole_words : done % 4 ≡ 0 = eqb-true (done % 4) 0 begins in
              let there : i ≡ d = omega (arith, here, whole_words) in
              let many = four_of (va + done) (end - done) four in
              let left = bytes_left so in
              let word : ℕ = word_at (slice_index bytes) i in
              borne_loaded_so h n path argv child loading_at stands refl loading_next word is
              (step.Spawning (spawn.Bearing (bearing.PiecePutting fd headers child header va done end word))) (next_is word true begins)
              (puts word (subst (λ (m : ℕ). take m (to_le_bytes w32 word) ≡ take m (drop d bytes)) (sym four)
              (ap (λ (q : ℕ). take 4 (to_le_bytes w32 (word_at (slice_index bytes) q))) there
              ∙ word_there bytes d so.putting.small (omega (arith, many, left)))))
          by_place four i here false apart is =
              let word : ℕ = word_at (slice_index bytes) i in
              borne_loaded_so h n path argv child loading_at stands refl loading_next word is
              (step.Spawning (spawn.Bearing (bearing.PieceRest fd headers child header va done end word))) (next_is word false apart)
              (rests word four (eqb-false (done % 4) 0 apart) (ap (word_at (slice_index bytes)) here))

      byte_loaded : (moved va done end == 4) ≡ false → IsLoadedSo s n (service.Spawn path argv) a loading_next byte_va (load_byte s n byte_va)
      byte_loaded test =
          let other = eqb-false (moved va done end) 4 test in
          let one : put_at_once (va + done) (end - done) ≡ 1 = one_of (va + done) (end - done) (λ four. other (moved_same so ∙ four)) in
          let left = bytes_left so in
          let fit = bytes_fit so in
          let within = so.putting.within in
          let where_is : page_number UTEMP * PGSIZE + (0 + d) ≡ byte_va = omega arith in
          let byte : ℕ = slice_index bytes d in
          subst (λ (q : ℕ). IsLoadedSo s n (service.Spawn path argv) a loading_next q (load_byte s n q)) where_is
          (borne_loaded_so h n path argv child loading_at stands refl loading_next byte
          (own_byte_loaded h n path argv loading_at stands (page_number UTEMP) refl 0 bytes so.putting.kept d (omega (arith, left, within))
          (omega (arith, left, within, fit)))
          (step.Spawning (spawn.Bearing (bearing.PiecePutting fd headers child header va done end byte)))
          (ap (λ (c : Bool). next.GoOn (step.Spawning
          (if c && not (done % 4 == 0) then spawn.Bearing (bearing.PieceRest fd headers child header va done end byte)
          else spawn.Bearing (bearing.PiecePutting fd headers child header va done end byte)))) test)
          (puts byte (subst (λ (m : ℕ). take m (to_le_bytes w32 byte) ≡ take m (drop d bytes)) (sym one)
          (byte_there bytes d so.putting.small (omega (arith, left, within))))))

    pub piece_loading_holds : ServiceHolds s n (bears (record { at = bearing.PieceLoading fd headers child header va done end }))
    piece_loading_holds = by_moved (moved va done end == 4) refl
      where
        by_moved : (c : Bool) → (moved va done end == 4) ≡ c →
            ServiceHolds s n (staged (service.Spawn path argv) (if c then ask.Load word_va else ask.LoadByte byte_va) loading_next)
        by_moved true test =
            own_load_known s n (service.Spawn path argv) (step.Spawning loading_at) live refl stands loading_next falls word_va
            (λ names a h. word_loaded names a h test)
        by_moved false test =
            own_load_byte_known s n (service.Spawn path argv) (step.Spawning loading_at) live refl stands loading_next falls byte_va
            (λ names a h. byte_loaded names a h test)

-- ---- the second word

module _ (s : KernelState) (n path argv : ℕ) (live : is_live (slot_at s n) ≡ true) (fd headers child header va done end first : ℕ)
    (stands : place_of (slot_at s n) ≡ spawns_at path argv (spawn.Bearing (bearing.PieceRest fd headers child header va done end first))) where
  abbrev rest_step : BearingStep
  rest_step = bearing.PieceRest fd headers child header va done end first

  abbrev rest_at : SpawnStep
  rest_at = spawn.Bearing rest_step

  abbrev rest_home : ℕ
  rest_home = (slot_at s n).directory

  abbrev rest_va : ℕ
  rest_va = UTEMP + (done - done % 4 + 4) % 2 ^ 32 % PGSIZE

  second_loaded : (names : Names) (a : AbstractState) → StandsFor names s a →
      IsLoadedSo s n (service.Spawn path argv) a (next_of rest_step) rest_va (load s n rest_va)
  second_loaded names a h =
      let there = spawn_there h n path argv rest_at stands in
      let stands_so : BearingStands (view_of s.spaces rest_home) (slot_at s n) there.b path argv rest_step = there.at in
      let so = stands_so.0 in
      let four = stands_so.1 in
      let apart = stands_so.2 in
      let first_is = stands_so.3 in
      let bytes : List ℕ = so.putting.bytes in
      let d : ℕ = done % TRANSFER_MAX in
      let many = four_of (va + done) (end - done) four in
      let left = bytes_left so in
      let fit = bytes_fit so in
      let small = end_small so in
      let owned : IsSpawnsOwn s n (page_number UTEMP) = spawns_own h n path argv rest_at stands (page_number UTEMP) refl in
      let raw : List ℕ = s.spaces.pages so.putting.kept.entry.frame in
      let same : so.putting.kept.entry ≡ owned.page.entry =
      same_Some so.putting.kept.entry owned.page.entry (sym so.putting.kept.stands ∙ owned.page.stands) in
      let whole : IsPage raw = subst (λ (e : Entry). IsPage (s.spaces.pages e.frame)) (sym same) owned.whole in
      let all : PageHas (view_of s.spaces rest_home) (page_number UTEMP) 0 raw =
      record {
        entry = so.putting.kept.entry;
        stands = so.putting.kept.stands;
        own_page = so.putting.kept.own_page;
        same = λ i lt. ap (slice_index raw)
            (none_more i);
      } in
      let i : ℕ = d - done % 4 + 4 in
      let long = whole.long in
      let where_is : page_number UTEMP * PGSIZE + (0 + i) ≡ rest_va = omega (arith, many, left, fit, small, apart) in
      let second : ℕ = word_at (slice_index raw) i in
      let word : ℕ = joined (done % 4) first second in
      let to : SpawnStep = spawn.Bearing (bearing.PiecePutting fd headers child header va done end word) in
      let taken = rest_taken bytes raw d first so.putting.small whole.small (omega (arith, many, left))
      (λ j lt. sym (ap (slice_index raw) (none_more j)) ∙ so.putting.kept.same j lt)
      (first_is ∙ ap (λ (r : ℕ). word_at (slice_index bytes) (d - r)) remainder) in
      subst (λ (q : ℕ). IsLoadedSo s n (service.Spawn path argv) a (next_of rest_step) q (load s n q)) where_is
      (borne_loaded_so h n path argv child rest_at stands refl (next_of rest_step) second
      (own_word_loaded h n path argv rest_at stands (page_number UTEMP) refl 0 raw all i (omega (arith, many, left, fit, long, apart))
      (omega (arith, many, left, fit, apart)) (omega arith)) (step.Spawning to) refl
      (record {
        at = to;
        is = refl;
        held = refl;
        bears = refl;
        childs = λ p. refl;
        told = λ q is. is;
        goes = goes_still child rest_at to (λ m progress is. is);
        stands = (
          record { putting = putting_told (spawn_words to) so.putting; va_is = so.va_is },
          subst (λ (m : ℕ). take m (to_le_bytes w32 word) ≡ take m (drop d bytes)) (sym four)
              (ap (λ (r : ℕ). take 4 (to_le_bytes w32 (joined r first (word_at (slice_index raw) (d - r + 4))))) remainder ∙ taken),
        );
      }))
    where
      none_more : (i : ℕ) → 0 + i ≡ i
      none_more i = omega arith

      remainder : done % 4 ≡ done % TRANSFER_MAX % 4
      remainder = omega arith

  pub piece_rest_holds : ServiceHolds s n (bears (record { at = bearing.PieceRest fd headers child header va done end first }))
  piece_rest_holds =
      own_load_known s n (service.Spawn path argv) (step.Spawning rest_at) live refl stands (next_of rest_step)
      (bearing_known s n path argv rest_step stands) rest_va
      second_loaded
