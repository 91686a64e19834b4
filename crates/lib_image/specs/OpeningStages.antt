-- Spawn, from where the child's stack is ready: it looks for the lowest descriptor that is free, puts the mode into its page, which has the path, and
-- asks the file server to open the file. The page of the file comes with the reply, and is put where the descriptor's is; where none is free it comes
-- nowhere, and then spawn is refused. Of a file that is open it loads how many bytes that had: one that is shorter than a header is no image.
-- (MIT 6.828, lab 5: lib/spawn.c and lib/file.c, open. That the size stands in the descriptor's page is this system's own.)
use Rattle.std.specs.Prelude.{ℕ, ◌+◌, ◌==◌, not, nat_lt, if◌then◌else◌}
use Rattle.jos_base.specs.declared.numbers.TheConstants.{E_MAX_OPEN, SYS_GETENVID, SYS_YIELD, UTEMP, UTOP}
use Rattle.jos_base.specs.Words.{negated}
use Rattle.jos_elf.specs.declared.numbers.TheConstants.{EHDR_LEN}
use Rattle.lib_os.specs.declared.numbers.TheConstants.{DESCRIPTORS, FD_SIZE, FSREQ_OPEN, REQUEST_MODE}
use Rattle.lib_os.specs.declared.spawn_steps.FilePart.TheVariants as part
use Rattle.lib_os.specs.declared.spawn_steps.OpeningStep.{OpeningStep}
use Rattle.lib_os.specs.declared.spawn_steps.OpeningStep.TheVariants as opening
use Rattle.lib_os.specs.declared.spawn_steps.ReadStep.TheVariants as read
use Rattle.lib_os.specs.declared.spawn_steps.SpawnStep.{SpawnStep}
use Rattle.lib_os.specs.declared.spawn_steps.SpawnStep.TheVariants as spawn
use Rattle.lib_os.specs.declared.spawn_steps.UndoingStep.TheVariants as undoing
use Rattle.lib_stage.specs.declared.ask.Ask.{Ask}
use Rattle.lib_stage.specs.declared.ask.Ask.TheVariants as ask
use Rattle.lib_stage.specs.declared.ask.Next.{Next}
use Rattle.lib_stage.specs.Asks.{no_args}
use Rattle.lib_fd.specs.DescriptorStages.{descriptor_va, entry_asked, is_there, region_asked}
use Rattle.lib_request.specs.PageRequests.{reply_asked_at, request_asked}
use Rattle.lib_request.specs.Replies.{reply_place}
use Rattle.lib_image.specs.SpawnNexts.{goes_on, next_by, no_image, shows}

-- ---- what it asks

-- where the page of the file is to come: nowhere, if no descriptor is free
abbrev pub opened_va : ℕ → ℕ
opened_va fd = if nat_lt fd DESCRIPTORS then descriptor_va fd else UTOP

abbrev pub opening_asks : OpeningStep → Ask
opening_asks (opening.FreeRegion esp) = region_asked
opening_asks (opening.FreeEntry esp fd) = entry_asked fd
opening_asks (opening.StoringMode esp fd) = ask.Store (UTEMP + REQUEST_MODE) 0
opening_asks (opening.OpenIdentifying esp fd) = ask.System SYS_GETENVID no_args
opening_asks (opening.OpenAsking esp fd id) = request_asked FSREQ_OPEN
opening_asks (opening.OpenPausing esp fd id) = ask.System SYS_YIELD no_args
opening_asks (opening.OpenAwaiting esp fd id) = reply_asked_at (opened_va fd)
opening_asks (opening.ReadingOpened esp fd id) = ask.Load (reply_place id)
opening_asks (opening.LoadingSize esp fd) = ask.Load (descriptor_va fd + FD_SIZE)

-- ---- what it does next

-- behind a descriptor that is open it looks at the next; behind the last, none is free
abbrev pub free_behind : ℕ → ℕ → OpeningStep
free_behind esp fd = if nat_lt (fd + 1) DESCRIPTORS then opening.FreeEntry esp (fd + 1) else opening.StoringMode esp DESCRIPTORS

abbrev pub free_by : ℕ → ℕ → ℕ → OpeningStep
free_by esp fd word = if is_there word then free_behind esp fd else opening.StoringMode esp fd

abbrev pub free_from : ℕ → ℕ → OpeningStep
free_from esp word = if is_there word then opening.FreeEntry esp 0 else opening.StoringMode esp 0

-- refused with this answer, it gives its pages back
abbrev pub not_opened : ℕ → SpawnStep
not_opened answer = spawn.Undoing (undoing.UndoingStack answer)

abbrev pub opened_by : ℕ → ℕ → ℕ → SpawnStep
opened_by esp fd word =
    if not (word == 0) then not_opened word
    else if not (nat_lt fd DESCRIPTORS) then not_opened (negated E_MAX_OPEN)
    else spawn.Opening (opening.LoadingSize esp fd)

-- test 1 of a header
abbrev pub sized_by : ℕ → ℕ → ℕ → SpawnStep
sized_by esp fd size = if nat_lt size EHDR_LEN then no_image fd else spawn.Reading (part.Header esp fd size) read.LoadingNumber

abbrev pub opening_next : OpeningStep → ℕ → Next
opening_next (opening.FreeRegion esp) word = goes_on (spawn.Opening (free_from esp word))
opening_next (opening.FreeEntry esp fd) word = goes_on (spawn.Opening (free_by esp fd word))
opening_next (opening.StoringMode esp fd) word = goes_on (spawn.Opening (opening.OpenIdentifying esp fd))
opening_next (opening.OpenIdentifying esp fd) own = goes_on (spawn.Opening (opening.OpenAsking esp fd own))
opening_next (opening.OpenAsking esp fd id) word =
    next_by (spawn.Opening (opening.OpenPausing esp fd id)) (spawn.Opening (opening.OpenAwaiting esp fd id)) (not_opened word) word
opening_next (opening.OpenPausing esp fd id) word = goes_on (spawn.Opening (opening.OpenAsking esp fd id))
opening_next (opening.OpenAwaiting esp fd id) word = shows (spawn.Opening (opening.ReadingOpened esp fd id))
opening_next (opening.ReadingOpened esp fd id) word = goes_on (opened_by esp fd word)
opening_next (opening.LoadingSize esp fd) word = goes_on (sized_by esp fd word)
