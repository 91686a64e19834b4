-- spawn comes to an end with its file: each of its hidden steps there lowers the number of those that may still come.
use Rattle.std.proofs.Common.{◌≡◌, ◌∙◌, ◌<◌, ◌≤◌, ◌+◌, ◌-◌, ◌*◌, ◌==◌, ℕ, Bool, true, false, not, nat_le, nat_lt, min, refl, ap, arith, if◌then◌else◌}
use Rattle.std.proofs.lemmas.Bool.{ltb-true}
use Rattle.jos_base.specs.declared.numbers.TheConstants.{E_IPC_NOT_RECV, E_MAX_OPEN, SEGMENT_MAX}
use Rattle.jos_base.specs.Words.{negated}
use Rattle.jos_elf.specs.declared.numbers.TheConstants.{E_NOT_EXEC, EHDR_LEN, PT_LOAD}
use Rattle.lib_os.specs.declared.numbers.TheConstants.{DESCRIPTORS}
use Rattle.lib_os.specs.declared.place.Step.TheVariants as step
use Rattle.lib_os.specs.declared.service.Service.{Service}
use Rattle.lib_os.specs.declared.service.Service.TheVariants as service
use Rattle.lib_os.specs.declared.spawn_steps.BearingStep.TheVariants as bearing
use Rattle.lib_os.specs.declared.spawn_steps.FilePart.{FilePart}
use Rattle.lib_os.specs.declared.spawn_steps.FilePart.TheVariants as part
use Rattle.lib_os.specs.declared.spawn_steps.OpeningStep.{OpeningStep}
use Rattle.lib_os.specs.declared.spawn_steps.OpeningStep.TheVariants as opening
use Rattle.lib_os.specs.declared.spawn_steps.ReadStep.{ReadStep}
use Rattle.lib_os.specs.declared.spawn_steps.ReadStep.TheVariants as read
use Rattle.lib_os.specs.declared.spawn_steps.SpawnStep.{SpawnStep}
use Rattle.lib_os.specs.declared.spawn_steps.SpawnStep.TheVariants as spawn
use Rattle.lib_os.specs.declared.spawn_steps.TestingStep.{TestingStep}
use Rattle.lib_os.specs.declared.spawn_steps.TestingStep.TheVariants as testing
use Rattle.lib_os.specs.FileServer.{is_count}
use Rattle.lib_os.specs.LibrarySteps.{reply_steps_left, steps_left, tests_left}
use Rattle.lib_stage.specs.declared.ask.Next.TheVariants as next
use Rattle.lib_stage.proofs.Laws.{Falls, most_left}
use Rattle.lib_fd.specs.DescriptorStages.{is_there}
use Rattle.lib_image.specs.SpawnNexts.{no_image}
use Rattle.lib_image.specs.OpeningStages.{not_opened, opening_next}
use Rattle.lib_image.specs.ReadingStages.{is_whole, not_read, once_read, reading_next, wanted}
use Rattle.lib_image.specs.TestingStages.{others_from, segments_from, testing_next, where_holds, words_from}
use Rattle.lib_image.specs.WordTests.{are_apart, bytes_fit, count_in, is_class, is_kind, is_length, is_magic, lies_in_range, table_fits}

-- how many hidden steps there may be from a step of spawn on
abbrev most_at : SpawnStep → ℕ
most_at at = most_left (step.Spawning at)

abbrev spawns : ℕ → ℕ → Service
spawns path argv = service.Spawn path argv

-- where it has asked the file server
asked_falls : (path argv : ℕ) (from pausing awaiting refused : SpawnStep) (word : ℕ) → most_at refused < steps_left (step.Spawning from)
    → ((asks : Bool) → asks ≡ true → Falls (spawns path argv) (step.Spawning from) (next.Wait (step.Spawning pausing)))
    → Falls (spawns path argv) (step.Spawning from)
    (if word == negated E_IPC_NOT_RECV then next.Wait (step.Spawning pausing)
    else if not (word == 0) then next.GoOn (step.Spawning refused)
    else next.Show (step.Spawning awaiting))
asked_falls path argv from pausing awaiting refused word low waits = by_test (word == negated E_IPC_NOT_RECV) (word == 0)
  where
    by_test : (vain fine : Bool) → Falls (spawns path argv) (step.Spawning from)
        (if vain then next.Wait (step.Spawning pausing)
        else if not fine then next.GoOn (step.Spawning refused)
        else next.Show (step.Spawning awaiting))
    by_test true fine = waits true refl
    by_test false true = tt
    by_test false false = low

-- ---- the file is opened

free_low : (esp : ℕ) (there : Bool) → most_at (spawn.Opening (if there then opening.FreeEntry esp 0 else opening.StoringMode esp 0)) < 56
free_low esp true = omega arith
free_low esp false = omega arith

entry_low : (esp fd : ℕ) (there more : Bool) → nat_lt (fd + 1) DESCRIPTORS ≡ more →
    most_at (spawn.Opening (if there then (if more then opening.FreeEntry esp (fd + 1) else opening.StoringMode esp DESCRIPTORS) else opening.StoringMode esp fd))
    < 12 + (DESCRIPTORS - fd)
entry_low esp fd true true is = let below = ltb-true (fd + 1) DESCRIPTORS is in omega (arith, below)
entry_low esp fd true false is = omega arith
entry_low esp fd false more is = omega arith

opened_low : (esp fd word : ℕ) (fine some : Bool) →
    most_at (if not fine then not_opened word else if not some then not_opened (negated E_MAX_OPEN) else spawn.Opening (opening.LoadingSize esp fd)) < 20
opened_low esp fd word false some = omega arith
opened_low esp fd word true false = omega arith
opened_low esp fd word true true = omega arith

sized_low : (esp fd size : ℕ) (short : Bool) →
    most_at (if short then no_image fd else spawn.Reading (part.Header esp fd size) read.LoadingNumber) < 19
sized_low esp fd size true = omega arith
sized_low esp fd size false = omega arith

pub opening_falls : (path argv : ℕ) (at : OpeningStep) (word : ℕ) → Falls (service.Spawn path argv) (step.Spawning (spawn.Opening at)) (opening_next at word)
opening_falls path argv (opening.FreeRegion esp) word = free_low esp (is_there word)
opening_falls path argv (opening.FreeEntry esp fd) word = entry_low esp fd (is_there word) (nat_lt (fd + 1) DESCRIPTORS) refl
opening_falls path argv (opening.StoringMode esp fd) word = omega arith
opening_falls path argv (opening.OpenIdentifying esp fd) own = omega arith
opening_falls path argv (opening.OpenAsking esp fd id) word =
    asked_falls path argv (spawn.Opening (opening.OpenAsking esp fd id)) (spawn.Opening (opening.OpenPausing esp fd id))
    (spawn.Opening (opening.OpenAwaiting esp fd id)) (not_opened word) word (omega arith) (λ asks e. refl)
opening_falls path argv (opening.OpenPausing esp fd id) word = omega arith
opening_falls path argv (opening.OpenAwaiting esp fd id) word = tt
opening_falls path argv (opening.ReadingOpened esp fd id) word = opened_low esp fd word (word == 0) (nat_lt fd DESCRIPTORS)
opening_falls path argv (opening.LoadingSize esp fd) word = sized_low esp fd word (nat_lt word EHDR_LEN)

-- ---- numbers of program headers

add_product : (a m : ℕ) → (a + 1) * m ≡ a * m + m
add_product a m = grind arith

tests_more : (headers header : ℕ) → header < headers → tests_left headers header ≡ tests_left headers (header + 1) + (3 * headers + 6)
tests_more headers header below =
    let one : headers - header ≡ (headers - (header + 1)) + 1 = omega (arith, below) in
    ap (λ (n : ℕ). n * (3 * headers + 6)) one ∙ add_product (headers - (header + 1)) (3 * headers + 6)

segments_low : (esp fd size entry_point headers header : ℕ) → most_at (segments_from esp fd size entry_point headers header) ≤ tests_left headers header + 3
segments_low esp fd size entry_point headers header = by_test (nat_lt header headers)
  where
    by_test : (more : Bool) → most_at (if more then spawn.Testing (testing.SegmentKind esp fd size entry_point headers header)
        else spawn.Bearing (bearing.MakingChild esp fd entry_point headers)) ≤ tests_left headers header + 3
    by_test true = omega arith
    by_test false = omega arith

others_low : (esp fd size entry_point headers header va memory other : ℕ) →
    most_at (others_from esp fd size entry_point headers header va memory other) ≤ tests_left headers (header + 1) + 3 * (headers - other) + 4
others_low esp fd size entry_point headers header va memory other = by_test (nat_lt other header)
  where
    by_test : (more : Bool) → most_at (if more then spawn.Testing (testing.OtherKind esp fd size entry_point headers header va memory other)
        else segments_from esp fd size entry_point headers (header + 1)) ≤ tests_left headers (header + 1) + 3 * (headers - other) + 4
    by_test true = omega arith
    by_test false = let low = segments_low esp fd size entry_point headers (header + 1) in omega (arith, low)

words_low : (esp fd size entry_point headers copied : ℕ) →
    most_at (words_from esp fd size entry_point headers copied) ≤ tests_left headers 0 + 2 * (8 * headers - copied) + 4
words_low esp fd size entry_point headers copied = by_test (nat_lt copied (8 * min headers SEGMENT_MAX))
  where
    by_test : (more : Bool) → most_at (if more then spawn.Testing (testing.TableLoading esp fd size entry_point headers copied)
        else segments_from esp fd size entry_point headers 0) ≤ tests_left headers 0 + 2 * (8 * headers - copied) + 4
    by_test true = omega arith
    by_test false = let low = segments_low esp fd size entry_point headers 0 in omega (arith, low)

-- ---- a part is read

undone_low : (wants : FilePart) (answer : ℕ) → most_at (not_read wants answer) ≤ 1
undone_low (part.Header esp fd size) answer = omega arith
undone_low (part.Table esp fd size entry_point headers place) answer = omega arith
undone_low (part.Piece fd headers child header done end place) answer = omega arith

reply_most : (wants : FilePart) → 5 ≤ reply_steps_left wants
reply_most (part.Header esp fd size) = omega arith
reply_most (part.Table esp fd size entry_point headers place) = omega arith
reply_most (part.Piece fd headers child header done end place) = omega arith

once_low : (wants : FilePart) → most_at (once_read wants) < reply_steps_left wants
once_low (part.Header esp fd size) = omega arith
once_low (part.Table esp fd size entry_point headers place) = let low = words_low esp fd size entry_point headers 0 in omega (arith, low)
once_low (part.Piece fd headers child header done end place) = omega arith

read_low : (wants : FilePart) (word : ℕ) (counts whole : Bool) →
    most_at (if not counts then not_read wants word else if whole then once_read wants else not_read wants (negated E_NOT_EXEC)) < reply_steps_left wants
read_low wants word false whole = let low = undone_low wants word in let most = reply_most wants in omega (arith, low, most)
read_low wants word true true = once_low wants
read_low wants word true false = let low = undone_low wants (negated E_NOT_EXEC) in let most = reply_most wants in omega (arith, low, most)

pub reading_falls : (path argv : ℕ) (wants : FilePart) (at : ReadStep) (word : ℕ) →
    Falls (service.Spawn path argv) (step.Spawning (spawn.Reading wants at)) (reading_next wants at word)
reading_falls path argv wants read.LoadingNumber word = omega arith
reading_falls path argv wants (read.StoringNumber number) word = omega arith
reading_falls path argv wants read.StoringCount word = omega arith
reading_falls path argv wants read.StoringPlace word = omega arith
reading_falls path argv wants read.Identifying own = omega arith
reading_falls path argv wants (read.Asking id) word =
    let low = undone_low wants word in
    asked_falls path argv (spawn.Reading wants (read.Asking id)) (spawn.Reading wants (read.Pausing id)) (spawn.Reading wants (read.Awaiting id))
    (not_read wants word) word (omega (arith, low)) (λ asks e. refl)
reading_falls path argv wants (read.Pausing id) word = omega arith
reading_falls path argv wants (read.Awaiting id) word = tt
reading_falls path argv wants (read.ReadingReply id) word = read_low wants word (is_count word) (is_whole (wanted wants) word)

-- ---- it is tested

-- what is kept of a step is within its bounds
abbrev pub IsWithin : TestingStep → Type 0
IsWithin (testing.TableLoading esp fd size entry_point headers copied) = copied < 8 * headers
IsWithin (testing.TableStoring esp fd size entry_point headers copied word) = copied < 8 * headers
IsWithin (testing.SegmentKind esp fd size entry_point headers header) = header < headers
IsWithin (testing.SegmentMemory esp fd size entry_point headers header) = header < headers
IsWithin (testing.SegmentAddress esp fd size entry_point headers header memory) = header < headers
IsWithin (testing.SegmentLength esp fd size entry_point headers header va memory) = header < headers
IsWithin (testing.SegmentOffset esp fd size entry_point headers header va memory length) = header < headers
IsWithin (testing.OtherKind esp fd size entry_point headers header va memory other) = (header < headers) × (other < header)
IsWithin (testing.OtherMemory esp fd size entry_point headers header va memory other) = (header < headers) × (other < header)
IsWithin (testing.OtherAddress esp fd size entry_point headers header va memory other other_memory) = (header < headers) × (other < header)
IsWithin _ = Unit {0}

test_low : (holds : Bool) (fd most : ℕ) (at : SpawnStep) → 1 < most → most_at at < most → most_at (where_holds holds fd at) < most
test_low true fd most at some low = low
test_low false fd most at some low = some

choice_low : (test : Bool) (most : ℕ) (a b : SpawnStep) → most_at a < most → most_at b < most → most_at (if test then a else b) < most
choice_low true most a b p q = p
choice_low false most a b p q = q

module _ (path argv : ℕ) where
  pub testing_falls : (at : TestingStep) (word : ℕ) → IsWithin at → Falls (service.Spawn path argv) (step.Spawning (spawn.Testing at)) (testing_next at word)
  testing_falls (testing.HeaderMagic esp fd size) word within =
      test_low (is_magic word) fd 29 (spawn.Testing (testing.HeaderClass esp fd size)) (omega arith) (omega arith)
  testing_falls (testing.HeaderClass esp fd size) word within =
      test_low (is_class word) fd 28 (spawn.Testing (testing.HeaderKind esp fd size)) (omega arith) (omega arith)
  testing_falls (testing.HeaderKind esp fd size) word within =
      test_low (is_kind word) fd 27 (spawn.Testing (testing.HeaderEntryPoint esp fd size)) (omega arith) (omega arith)
  testing_falls (testing.HeaderEntryPoint esp fd size) word within = omega arith
  testing_falls (testing.HeaderTable esp fd size entry_point) word within = omega arith
  testing_falls (testing.HeaderLength esp fd size entry_point place) word within =
      test_low (is_length word) fd 24 (spawn.Testing (testing.HeaderCount esp fd size entry_point place)) (omega arith) (omega arith)
  testing_falls (testing.HeaderCount esp fd size entry_point place) word within =
      test_low (table_fits size place (count_in word)) fd 23 (spawn.Reading (part.Table esp fd size entry_point (count_in word) place) read.LoadingNumber)
      (omega arith) (omega arith)
  testing_falls (testing.TableLoading esp fd size entry_point headers copied) word within = omega arith
  testing_falls (testing.TableStoring esp fd size entry_point headers copied kept) word within =
      let low = words_low esp fd size entry_point headers (copied + 1) in omega (arith, low, within)
  testing_falls (testing.SegmentKind esp fd size entry_point headers header) word within =
      let more = tests_more headers header within in
      let low = segments_low esp fd size entry_point headers (header + 1) in
      choice_low (word == PT_LOAD) (tests_left headers header + 3) (spawn.Testing (testing.SegmentMemory esp fd size entry_point headers header))
      (segments_from esp fd size entry_point headers (header + 1)) (omega arith) (omega (arith, low, more))
  testing_falls (testing.SegmentMemory esp fd size entry_point headers header) word within =
      let more = tests_more headers header within in
      let low = segments_low esp fd size entry_point headers (header + 1) in
      choice_low (word == 0) (tests_left headers header + 2) (segments_from esp fd size entry_point headers (header + 1))
      (spawn.Testing (testing.SegmentAddress esp fd size entry_point headers header word)) (omega (arith, low, more)) (omega arith)
  testing_falls (testing.SegmentAddress esp fd size entry_point headers header memory) word within =
      let more = tests_more headers header within in
      test_low (lies_in_range word memory) fd (tests_left headers header + 1)
      (spawn.Testing (testing.SegmentLength esp fd size entry_point headers header word memory)) (omega (arith, more)) (omega arith)
  testing_falls (testing.SegmentLength esp fd size entry_point headers header va memory) word within =
      let more = tests_more headers header within in
      test_low (nat_le word memory) fd (tests_left headers header)
      (spawn.Testing (testing.SegmentOffset esp fd size entry_point headers header va memory word)) (omega (arith, more)) (omega (arith, more))
  testing_falls (testing.SegmentOffset esp fd size entry_point headers header va memory length) word within =
      let low = others_low esp fd size entry_point headers header va memory 0 in
      test_low (bytes_fit size word length) fd (tests_left headers (header + 1) + 3 * headers + 5)
      (others_from esp fd size entry_point headers header va memory 0) (omega arith) (omega (arith, low))
  testing_falls (testing.OtherKind esp fd size entry_point headers header va memory other) word within =
      let low = others_low esp fd size entry_point headers header va memory (other + 1) in
      choice_low (word == PT_LOAD) (tests_left headers (header + 1) + 3 * (headers - other) + 4)
      (spawn.Testing (testing.OtherMemory esp fd size entry_point headers header va memory other))
      (others_from esp fd size entry_point headers header va memory (other + 1)) (omega arith) (omega (arith, low, within.0, within.1))
  testing_falls (testing.OtherMemory esp fd size entry_point headers header va memory other) word within =
      let low = others_low esp fd size entry_point headers header va memory (other + 1) in
      choice_low (word == 0) (tests_left headers (header + 1) + 3 * (headers - other) + 3)
      (others_from esp fd size entry_point headers header va memory (other + 1))
      (spawn.Testing (testing.OtherAddress esp fd size entry_point headers header va memory other word)) (omega (arith, low, within.0, within.1)) (omega arith)
  testing_falls (testing.OtherAddress esp fd size entry_point headers header va memory other other_memory) word within =
      let low = others_low esp fd size entry_point headers header va memory (other + 1) in
      test_low (are_apart va memory word other_memory) fd (tests_left headers (header + 1) + 3 * (headers - other) + 2)
      (others_from esp fd size entry_point headers header va memory (other + 1)) (omega arith) (omega (arith, low, within.0, within.1))
