-- spawn comes to an end with its child: each of its hidden steps as it makes it lowers the number of those that may still come.
use Rattle.std.proofs.Common.{◌≡◌, ◌∙◌, ◌<◌, ◌≤◌, ◌+◌, ◌-◌, ◌*◌, ◌/◌, ◌%◌, ◌^◌, ◌==◌, ◌&&◌, ℕ, Bool, true, false, not, nat_le, nat_lt, min, inl, refl, ap}
use Rattle.std.proofs.Common.{arith, if◌then◌else◌}
use Rattle.std.proofs.lemmas.Bool.Decides.{nat_tests}
use Rattle.jos_base.specs.declared.numbers.TheConstants.{FDTABLE, PGSIZE, TRAPFRAME_WORDS}
use Rattle.jos_base.specs.Counting.{page_limit}
use Rattle.jos_base.specs.Environments.{Slot}
use Rattle.jos_base.specs.KernelState.{KernelState, slot_at}
use Rattle.jos_elf.specs.declared.numbers.TheConstants.{PT_LOAD}
use Rattle.jos_base.specs.Words.{page_number}
use Rattle.lib_os.specs.declared.numbers.TheConstants.{TRANSFER_MAX}
use Rattle.lib_os.specs.declared.place.Step.TheVariants as step
use Rattle.lib_os.specs.declared.service.Service.TheVariants as service
use Rattle.lib_os.specs.declared.spawn_steps.BearingStep.{BearingStep}
use Rattle.lib_os.specs.declared.spawn_steps.BearingStep.TheVariants as bearing
use Rattle.lib_os.specs.declared.spawn_steps.FinishingStep.TheVariants as finishing
use Rattle.lib_os.specs.declared.spawn_steps.SpawnStep.{SpawnStep}
use Rattle.lib_os.specs.declared.spawn_steps.SpawnStep.TheVariants as spawn
use Rattle.lib_os.specs.declared.spawn_steps.UndoingStep.TheVariants as undoing
use Rattle.lib_os.specs.LibraryPages.{View}
use Rattle.lib_os.specs.LibrarySteps.{Stands, pages_left, pieces_left, rights_left, steps_left}
use Rattle.lib_os.specs.Places.{place_of}
use Rattle.lib_os.specs.AbstractSpawn.{headers_in}
use Rattle.lib_os.specs.AbstractState.{AbstractState, Born}
use Rattle.lib_os.specs.StandsAtSpawn.{BearingStands}
use Rattle.lib_os.specs.StandsFor.{view_of}
use Rattle.lib_os.proofs.SpawnOwnPages.{spawn_there, spawns_at}
use Rattle.lib_stage.specs.declared.ask.Next.{Next}
use Rattle.lib_stage.specs.declared.ask.Next.TheVariants as next
use Rattle.lib_stage.proofs.Laws.{Falls, FallsOrAsks, most_left}
use Rattle.lib_bytes.specs.FileStages.{moved}
use Rattle.lib_file.specs.Keeping.{next_va}
use Rattle.lib_fork.specs.ForkStages.{is_error}
use Rattle.lib_child.specs.BearingStages.{next_of, page_behind, piece_from, put_behind, registers_from}
use Rattle.lib_child.specs.ChildSegments.{last_page, pages_from, pieces_from, rights_from}
use Rattle.lib_child.proofs.HeaderSays.{file_len_below, image_lies, lies_low}

-- how many hidden steps there may be from a step of spawn on
abbrev most_at : SpawnStep → ℕ
most_at at = most_left (step.Spawning at)

choice_low : (test : Bool) (most : ℕ) (a b : SpawnStep) → most_at a < most → most_at b < most → most_at (if test then a else b) < most
choice_low true most a b p q = p
choice_low false most a b p q = q

-- ---- numbers of program headers

pieces_more : (headers header : ℕ) → header < headers → pieces_left headers header ≡ pieces_left headers (header + 1) + 4
pieces_more headers header below =
    let one : headers - header ≡ (headers - (header + 1)) + 1 = omega (arith, below) in
    ap (λ (n : ℕ). rights_left headers 0 + 4 * n + 17) one ∙ add_four (rights_left headers 0) (headers - (header + 1))
  where
    add_four : (r n : ℕ) → r + 4 * (n + 1) + 17 ≡ r + 4 * n + 17 + 4
    add_four r n = omega arith

pages_more : (headers header : ℕ) → header < headers → pages_left headers header ≡ pages_left headers (header + 1) + (page_limit + 4)
pages_more headers header below =
    let one : headers - header ≡ (headers - (header + 1)) + 1 = omega (arith, below) in
    ap (λ (n : ℕ). pieces_left headers 0 + n * (page_limit + 4) + 4) one ∙ add_one (pieces_left headers 0) (headers - (header + 1)) (page_limit + 4)
  where
    add_product : (n m : ℕ) → (n + 1) * m ≡ n * m + m
    add_product n m = grind arith

    add_one : (r n m : ℕ) → r + (n + 1) * m + 4 ≡ r + n * m + 4 + m
    add_one r n m = let more = add_product n m in omega (arith, more)

-- behind the segments come the rights of their pages
rights_low : (fd headers child : ℕ) → most_at (rights_from fd headers child 0) ≤ rights_left headers 0
rights_low fd headers child = by_test (nat_lt 0 headers)
  where
    by_test : (more : Bool) → most_at
        (if more then spawn.Finishing (finishing.RightsKind fd headers child 0) else spawn.Finishing (finishing.ChildStack fd child))
        ≤ rights_left headers 0
    by_test true = omega arith
    by_test false = omega arith

pieces_low : (fd headers child header : ℕ) → most_at (pieces_from fd headers child header) ≤ pieces_left headers header + 3
pieces_low fd headers child header = by_test (nat_lt header headers)
  where
    by_test : (more : Bool) → most_at (if more then spawn.Bearing (bearing.PieceKind fd headers child header) else rights_from fd headers child 0)
        ≤ pieces_left headers header + 3
    by_test true = omega arith
    by_test false = let low = rights_low fd headers child in omega (arith, low)

pages_low : (fd headers child header : ℕ) → most_at (pages_from fd headers child header) ≤ pages_left headers header
pages_low fd headers child header = by_test (nat_lt header headers)
  where
    by_test : (more : Bool) → most_at (if more then spawn.Bearing (bearing.PlacingKind fd headers child header) else pieces_from fd headers child 0)
        ≤ pages_left headers header
    by_test true = omega arith
    by_test false = let low = pieces_low fd headers child 0 in omega (arith, low)

-- ---- each step

-- what is kept of a step is within its bounds
abbrev pub IsWithin : BearingStep → Type 0
IsWithin (bearing.StoringRegister esp fd entry_point headers child index) = index < TRAPFRAME_WORDS
IsWithin (bearing.PlacingKind fd headers child header) = header < headers
IsWithin (bearing.PlacingMemory fd headers child header) = header < headers
IsWithin (bearing.PlacingAddress fd headers child header memory) = memory ≤ FDTABLE
IsWithin (bearing.PlacingPage fd headers child header page last) = header < headers
IsWithin (bearing.PieceKind fd headers child header) = header < headers
IsWithin (bearing.PieceMemory fd headers child header) = header < headers
IsWithin (bearing.PieceLength fd headers child header done) = header < headers
IsWithin (bearing.PiecePutting fd headers child header va done end word) = (done < end) × (end < 2 ^ 32)
IsWithin _ = Unit {0}

registers_low : (esp fd entry_point headers child index : ℕ) → index < TRAPFRAME_WORDS →
    most_at (registers_from esp fd entry_point headers child (index % TRAPFRAME_WORDS + 1)) < pages_left headers 0 + 1 + (TRAPFRAME_WORDS - index)
registers_low esp fd entry_point headers child index below = by_test (nat_lt (index % TRAPFRAME_WORDS + 1) TRAPFRAME_WORDS)
  where
    by_test : (more : Bool) → most_at (if more then spawn.Bearing (bearing.StoringRegister esp fd entry_point headers child (index % TRAPFRAME_WORDS + 1))
        else spawn.Bearing (bearing.SettingRegisters fd headers child)) < pages_left headers 0 + 1 + (TRAPFRAME_WORDS - index)
    by_test true = omega (arith, below)
    by_test false = omega (arith, below)

last_low : (va memory : ℕ) → memory ≤ FDTABLE → last_page va memory - page_number va ≤ page_limit
unfolding page_limit
last_low va memory low = omega (arith, low)

behind_page : (fd headers child header page last : ℕ) → header < headers →
    most_at (page_behind fd headers child header page last) < pages_left headers (header + 1) + 1 + (last - page)
behind_page fd headers child header page last below = by_test (nat_lt page last) refl
  where
    by_test : (more : Bool) → nat_lt page last ≡ more →
        most_at (if more then spawn.Bearing (bearing.PlacingPage fd headers child header (page + 1) last) else pages_from fd headers child (header + 1))
        < pages_left headers (header + 1) + 1 + (last - page)
    by_test true test = let lower : page < last = grind (arith, nat_tests, test) in omega (arith, lower)
    by_test false test = let low = pages_low fd headers child (header + 1) in omega (arith, low)

piece_low : (fd headers child header done length : ℕ) → header < headers →
    most_at (piece_from fd headers child header done length) < pieces_left headers header + 1
piece_low fd headers child header done length below =
    let more = pieces_more headers header below in
    let low = pieces_low fd headers child (header + 1) in
    choice_low (nat_lt done length) (pieces_left headers header + 1)
    (spawn.Bearing (bearing.PieceOffset fd headers child header done (done + min TRANSFER_MAX (length - done)))) (pieces_from fd headers child (header + 1))
    (omega arith) (omega (arith, low, more))

-- what is put at once is no more than is left
moved_within : (va done end : ℕ) → done < end → (1 ≤ moved va done end) × (done + moved va done end ≤ end)
moved_within va done end some = by_tests (next_va va done % 4 == 0) (nat_le 4 (end - done)) refl
  where
    by_tests : (aligned many : Bool) → nat_le 4 (end - done) ≡ many →
        (1 ≤ (if aligned && many then 4 else 1)) × (done + (if aligned && many then 4 else 1) ≤ end)
    by_tests true true test = let four : 4 ≤ end - done = grind (arith, nat_tests, test) in (omega arith, omega (arith, four))
    by_tests true false test = (omega arith, omega (arith, some))
    by_tests false many test = (omega arith, omega (arith, some))

put_low : (fd headers child header va done behind end : ℕ) → done < behind → done < end →
    most_at (put_behind fd headers child header va behind end) < pieces_left headers header + 4 * (end - done) + 3
put_low fd headers child header va done behind end more some = by_tests (nat_le end behind) refl (next_va va behind % PGSIZE == 0)
  where
    by_tests : (ends : Bool) → nat_le end behind ≡ ends → (begins : Bool) →
        most_at (if ends then spawn.Bearing (bearing.UnmappingHere fd headers child header end)
        else if begins then spawn.Bearing (bearing.MappingHere fd headers child header va behind end)
        else spawn.Bearing (bearing.PieceLoading fd headers child header va behind end)) < pieces_left headers header + 4 * (end - done) + 3
    by_tests true test begins = omega (arith, some)
    by_tests false test true = let lower : behind < end = grind (arith, nat_tests, test) in omega (arith, lower, more)
    by_tests false test false = let lower : behind < end = grind (arith, nat_tests, test) in omega (arith, lower, more)

loaded_low : (fd headers child header va done end word : ℕ) (rest : Bool) →
    most_at (if rest then spawn.Bearing (bearing.PieceRest fd headers child header va done end word)
    else spawn.Bearing (bearing.PiecePutting fd headers child header va done end word)) < pieces_left headers header + 4 * (end - done) + 5
loaded_low fd headers child header va done end word true = omega arith
loaded_low fd headers child header va done end word false = omega arith

module _ (path argv : ℕ) where
  abbrev pub FallsAt : BearingStep → ℕ → Type 0
  FallsAt at word = Falls (service.Spawn path argv) (step.Spawning (spawn.Bearing at)) (next_of at word)

  pub making_falls : (esp fd entry_point headers word : ℕ) → FallsAt (bearing.MakingChild esp fd entry_point headers) word
  making_falls esp fd entry_point headers word = by_test (is_error word)
    where
      by_test : (error : Bool) → Falls (service.Spawn path argv) (step.Spawning (spawn.Bearing (bearing.MakingChild esp fd entry_point headers)))
          (if error then next.Show (step.Spawning (spawn.Undoing (undoing.ClosingFile fd word)))
          else next.Show (step.Spawning (registers_from esp fd entry_point headers word 0)))
      by_test true = tt
      by_test false = tt

  -- by the answer of a call that may be refused
  unless_low : (at : BearingStep) (fd child word : ℕ) (to : SpawnStep) → 1 < steps_left (step.Spawning (spawn.Bearing at)) →
      most_at to < steps_left (step.Spawning (spawn.Bearing at)) →
      Falls (service.Spawn path argv) (step.Spawning (spawn.Bearing at))
      (if not (word == 0) then next.GoOn (step.Spawning (spawn.Undoing (undoing.DestroyingChild fd child word))) else next.GoOn (step.Spawning to))
  unless_low at fd child word to some low = by_test (word == 0)
    where
      by_test : (fine : Bool) → Falls (service.Spawn path argv) (step.Spawning (spawn.Bearing at))
          (if not fine then next.GoOn (step.Spawning (spawn.Undoing (undoing.DestroyingChild fd child word))) else next.GoOn (step.Spawning to))
      by_test true = low
      by_test false = some

  -- by a word that is looked at
  choice_falls : (at : BearingStep) (test : Bool) (a b : SpawnStep) → most_at a < steps_left (step.Spawning (spawn.Bearing at)) →
      most_at b < steps_left (step.Spawning (spawn.Bearing at)) →
      Falls (service.Spawn path argv) (step.Spawning (spawn.Bearing at)) (if test then next.GoOn (step.Spawning a) else next.GoOn (step.Spawning b))
  choice_falls at true a b p q = p
  choice_falls at false a b p q = q

  pub bearing_falls : (at : BearingStep) (word : ℕ) → IsWithin at → FallsAt at word
  bearing_falls (bearing.MakingChild esp fd entry_point headers) word within = making_falls esp fd entry_point headers word
  bearing_falls (bearing.StoringRegister esp fd entry_point headers child index) word within = registers_low esp fd entry_point headers child index within
  bearing_falls (bearing.SettingRegisters fd headers child) word within = let low = pages_low fd headers child 0 in omega (arith, low)
  bearing_falls (bearing.PlacingKind fd headers child header) word within =
      let more = pages_more headers header within in
      let low = pages_low fd headers child (header + 1) in
      choice_falls (bearing.PlacingKind fd headers child header) (word == PT_LOAD) (spawn.Bearing (bearing.PlacingMemory fd headers child header))
      (pages_from fd headers child (header + 1)) (omega (arith, more)) (omega (arith, low, more))
  bearing_falls (bearing.PlacingMemory fd headers child header) word within =
      let low = pages_low fd headers child (header + 1) in
      choice_falls (bearing.PlacingMemory fd headers child header) (word == 0) (pages_from fd headers child (header + 1))
      (spawn.Bearing (bearing.PlacingAddress fd headers child header word)) (omega (arith, low)) (omega arith)
  bearing_falls (bearing.PlacingAddress fd headers child header memory) word within = let low = last_low word memory within in omega (arith, low)
  bearing_falls (bearing.PlacingPage fd headers child header page last) word within =
      unless_low (bearing.PlacingPage fd headers child header page last) fd child word (page_behind fd headers child header page last)
      (omega arith) (behind_page fd headers child header page last within)
  bearing_falls (bearing.PieceKind fd headers child header) word within =
      let more = pieces_more headers header within in
      let low = pieces_low fd headers child (header + 1) in
      choice_falls (bearing.PieceKind fd headers child header) (word == PT_LOAD) (spawn.Bearing (bearing.PieceMemory fd headers child header))
      (pieces_from fd headers child (header + 1)) (omega arith) (omega (arith, low, more))
  bearing_falls (bearing.PieceMemory fd headers child header) word within =
      let more = pieces_more headers header within in
      let low = pieces_low fd headers child (header + 1) in
      choice_falls (bearing.PieceMemory fd headers child header) (word == 0) (pieces_from fd headers child (header + 1))
      (spawn.Bearing (bearing.PieceLength fd headers child header 0)) (omega (arith, low, more)) (omega arith)
  bearing_falls (bearing.PieceLength fd headers child header done) word within = piece_low fd headers child header done word within
  bearing_falls (bearing.PieceOffset fd headers child header done end) word within = omega arith
  bearing_falls (bearing.PieceAddress fd headers child header done end) word within = omega arith
  bearing_falls (bearing.MappingHere fd headers child header va done end) word within =
      unless_low (bearing.MappingHere fd headers child header va done end) fd child word
      (spawn.Bearing (bearing.PieceLoading fd headers child header va done end))
      (omega arith) (omega arith)
  bearing_falls (bearing.PieceLoading fd headers child header va done end) word within =
      loaded_low fd headers child header va done end word ((moved va done end == 4) && not (done % 4 == 0))
  bearing_falls (bearing.PieceRest fd headers child header va done end first) word within = omega arith
  bearing_falls (bearing.PiecePutting fd headers child header va done end kept) word within =
      let some = within.0 in
      let small = within.1 in
      let moves = moved_within va done end some in
      let one = moves.0 in
      let few = moves.1 in
      put_low fd headers child header va done ((done + moved va done end) % 2 ^ 32) end (omega (arith, some, small, one, few)) some
  bearing_falls (bearing.UnmappingHere fd headers child header end) word within = omega arith

-- ---- where it stands

pub bearing_within : (v : View) (k : Slot) (b : Born) (path argv : ℕ) (at : BearingStep) → BearingStands v k b path argv at → IsWithin at
bearing_within v k b path argv (bearing.StoringRegister esp fd entry_point headers child index) h = h.below
bearing_within v k b path argv (bearing.PlacingKind fd headers child header) h = h.below
bearing_within v k b path argv (bearing.PlacingMemory fd headers child header) h = h.below
bearing_within v k b path argv (bearing.PlacingAddress fd headers child header memory) h =
    let low = lies_low (headers_in h.image.table header) (image_lies h.has.whole header h.below h.so.0) in
    let is = h.so.1 in
    omega (arith, low, is)
bearing_within v k b path argv (bearing.PlacingPage fd headers child header page last) h = h.below
bearing_within v k b path argv (bearing.PieceKind fd headers child header) h = h.filled.below
bearing_within v k b path argv (bearing.PieceMemory fd headers child header) h = h.filled.below
bearing_within v k b path argv (bearing.PieceLength fd headers child header done) h = h.filled.below
bearing_within v k b path argv (bearing.PiecePutting fd headers child header va done end word) h =
    let some = h.0.putting.within in
    let end_is = h.0.putting.end_is in
    let small = file_len_below h.0.putting.image.table header h.0.putting.whole.small in
    (some, omega (arith, end_is, small))
bearing_within v k b path argv _ h = tt

-- it goes on, or shows its step
abbrev Goes : Next → Type 0
Goes (next.GoOn to) = Unit {0}
Goes (next.Show to) = Unit {0}
Goes _ = ⊥

choice_goes : (test : Bool) (a b : SpawnStep) → Goes (if test then next.GoOn (step.Spawning a) else next.GoOn (step.Spawning b))
choice_goes true a b = tt
choice_goes false a b = tt

unless_goes : (fine : Bool) (a b : SpawnStep) → Goes (if not fine then next.GoOn (step.Spawning a) else next.GoOn (step.Spawning b))
unless_goes true a b = tt
unless_goes false a b = tt

making_goes : (error : Bool) (a b : SpawnStep) → Goes (if error then next.Show (step.Spawning a) else next.Show (step.Spawning b))
making_goes true a b = tt
making_goes false a b = tt

bearing_goes : (at : BearingStep) (word : ℕ) → Goes (next_of at word)
bearing_goes (bearing.MakingChild esp fd entry_point headers) word =
    making_goes (is_error word) (spawn.Undoing (undoing.ClosingFile fd word)) (registers_from esp fd entry_point headers word 0)
bearing_goes (bearing.PlacingKind fd headers child header) word =
    choice_goes (word == PT_LOAD) (spawn.Bearing (bearing.PlacingMemory fd headers child header)) (pages_from fd headers child (header + 1))
bearing_goes (bearing.PlacingMemory fd headers child header) word =
    choice_goes (word == 0) (pages_from fd headers child (header + 1)) (spawn.Bearing (bearing.PlacingAddress fd headers child header word))
bearing_goes (bearing.PlacingPage fd headers child header page last) word =
    unless_goes (word == 0) (spawn.Undoing (undoing.DestroyingChild fd child word)) (page_behind fd headers child header page last)
bearing_goes (bearing.PieceKind fd headers child header) word =
    choice_goes (word == PT_LOAD) (spawn.Bearing (bearing.PieceMemory fd headers child header)) (pieces_from fd headers child (header + 1))
bearing_goes (bearing.PieceMemory fd headers child header) word =
    choice_goes (word == 0) (pieces_from fd headers child (header + 1)) (spawn.Bearing (bearing.PieceLength fd headers child header 0))
bearing_goes (bearing.MappingHere fd headers child header va done end) word =
    unless_goes (word == 0) (spawn.Undoing (undoing.DestroyingChild fd child word)) (spawn.Bearing (bearing.PieceLoading fd headers child header va done end))
bearing_goes (bearing.StoringRegister esp fd entry_point headers child index) word = tt
bearing_goes (bearing.SettingRegisters fd headers child) word = tt
bearing_goes (bearing.PlacingAddress fd headers child header memory) word = tt
bearing_goes (bearing.PieceLength fd headers child header done) word = tt
bearing_goes (bearing.PieceOffset fd headers child header done end) word = tt
bearing_goes (bearing.PieceAddress fd headers child header done end) word = tt
bearing_goes (bearing.PieceLoading fd headers child header va done end) word = tt
bearing_goes (bearing.PieceRest fd headers child header va done end first) word = tt
bearing_goes (bearing.PiecePutting fd headers child header va done end kept) word = tt
bearing_goes (bearing.UnmappingHere fd headers child header end) word = tt

module _ (s : KernelState) (n path argv : ℕ) (at : BearingStep) (stands : place_of (slot_at s n) ≡ spawns_at path argv (spawn.Bearing at)) where
  known_by : (x : Next) → Goes x → ((a : AbstractState) → Stands s a → Falls (service.Spawn path argv) (step.Spawning (spawn.Bearing at)) x) →
      FallsOrAsks s n (service.Spawn path argv) (step.Spawning (spawn.Bearing at)) x
  known_by (next.GoOn to) goes falls = λ a h turn. inl (falls a h)
  known_by (next.Show to) goes falls = tt
  known_by (next.Answer word) goes falls = absurd goes
  known_by (next.Answers eax edx ecx ebx) goes falls = absurd goes
  known_by (next.AnswersEnds reading writing) goes falls = absurd goes
  known_by (next.GoBack word) goes falls = absurd goes
  known_by (next.Wait to) goes falls = absurd goes
  known_by (next.Handle to) goes falls = absurd goes
  known_by next.Leave goes falls = absurd goes
  known_by next.Gone goes falls = absurd goes

  pub bearing_known : (word : ℕ) → FallsOrAsks s n (service.Spawn path argv) (step.Spawning (spawn.Bearing at)) (next_of at word)
  bearing_known word =
      known_by (next_of at word) (bearing_goes at word)
      (λ a h. let there = spawn_there h.1 n path argv (spawn.Bearing at) stands in
      bearing_falls path argv at word (bearing_within (view_of s.spaces (slot_at s n).directory) (slot_at s n) there.b path argv at there.at))
