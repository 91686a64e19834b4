-- read, write and stat on an end of a pipe: what they ask at each stage behind the look at their descriptor, and what they do next by the reply.
-- A byte is moved while the service has the pipe's lock. Where none can be moved, it is tested whether the other end is closed: the pipe's page is
-- mapped as often as the descriptors of both ends, and the test counts where the environment has got no other turn meanwhile.
-- (MIT 6.828, lab 5: lib/pipe.c, devpipe_read, devpipe_write, devpipe_stat and _pipeisclosed; the lock, the byte that write does not wait for
-- where nobody reads, and that the test is made again at another turn only, are as this system has them.)
use Rattle.std.specs.Prelude.{ℕ, ◌+◌, ◌-◌, ◌*◌, ◌/◌, ◌%◌, ◌^◌, ◌==◌, ◌||◌, not, nat_le, nat_lt, Bool, min, [], ◌∷◌, Option, Some, None, if◌then◌else◌}
use Rattle.jos_base.specs.declared.numbers.TheConstants.{E_INVAL, ENV_SIZE, NENV, PGSIZE, SYS_GETENVID, SYS_PAGE_ALLOC, SYS_YIELD}
use Rattle.jos_base.specs.declared.numbers.TheConstants.{UENVS, UPAGES, UTEMP}
use Rattle.jos_base.specs.Words.{negated}
use Rattle.lib_os.specs.declared.numbers.TheConstants.{ENV_RUNS, FD_MODE, PIPE_BYTES, PIPE_LOCK, PIPE_READ, PIPE_WRITE, PIPEBUFSIZ, TRANSFER_MAX}
use Rattle.lib_os.specs.declared.place.PipeStep.{PipeStep}
use Rattle.lib_os.specs.declared.place.PipeStep.TheVariants as pipe
use Rattle.lib_os.specs.declared.place.Step.TheVariants as step
use Rattle.lib_os.specs.Fence.{is_buffer}
use Rattle.lib_os.specs.LibrarySteps.{request_perm}
use Rattle.lib_stage.specs.declared.ask.Ask.{Ask}
use Rattle.lib_stage.specs.declared.ask.Ask.TheVariants as ask
use Rattle.lib_stage.specs.declared.ask.Next.{Next}
use Rattle.lib_stage.specs.declared.ask.Next.TheVariants as next
use Rattle.lib_stage.specs.Asks.{no_args}
use Rattle.lib_fd.specs.DescriptorStages.{descriptor_va, entry_asked, pipe_entry_asked, pipe_va}
use Rattle.lib_pipe.specs.declared.ends.PipeService.{PipeService}
use Rattle.lib_pipe.specs.declared.ends.PipeService.TheVariants as of
use Rattle.lib_pipe.specs.declared.ends.PipeStage.{PipeStage}
use Rattle.lib_pipe.specs.declared.ends.PipeStage.TheVariants as stage

-- the stage that is kept as a step, if it is one of these
abbrev pub stage_of : PipeStep → Option PipeStage
stage_of pipe.EndMode = Some stage.EndMode
stage_of pipe.TakingBytes = Some stage.TakingBytes
stage_of (pipe.Locking done id runs) = Some (stage.Locking done id runs)
stage_of (pipe.LockPausing done) = Some (stage.LockPausing done)
stage_of (pipe.ReadFrom done id runs) = Some (stage.ReadFrom done id runs)
stage_of (pipe.ReadTo done id runs from) = Some (stage.ReadTo done id runs from)
stage_of (pipe.LoadingHeld done from) = Some (stage.LoadingHeld done from)
stage_of (pipe.KeepingHeld done from byte) = Some (stage.KeepingHeld done from byte)
stage_of (pipe.TakingHeld done from) = Some (stage.TakingHeld done from)
stage_of (pipe.LoadingOwn done to) = Some (stage.LoadingOwn done to)
stage_of (pipe.PuttingOwn done to byte) = Some (stage.PuttingOwn done to byte)
stage_of (pipe.Putting done to) = Some (stage.Putting done to)
stage_of (pipe.UnlockingMoved done) = Some (stage.UnlockingMoved done)
stage_of (pipe.UnlockingEnd done) = Some (stage.UnlockingEnd done)
stage_of (pipe.UnlockingTest done id runs) = Some (stage.UnlockingTest done id runs)
stage_of (pipe.TestIdentifying done) = Some (stage.TestIdentifying done)
stage_of (pipe.TestRuns done id) = Some (stage.TestRuns done id)
stage_of (pipe.TestAgain done id runs) = Some (stage.TestAgain done id runs)
stage_of (pipe.TestOwn done id runs) = Some (stage.TestOwn done id runs)
stage_of (pipe.TestOther done id runs own) = Some (stage.TestOther done id runs own)
stage_of (pipe.TestDescriptor done id runs) = Some (stage.TestDescriptor done id runs)
stage_of (pipe.TestDescriptorCount done id runs entry) = Some (stage.TestDescriptorCount done id runs entry)
stage_of (pipe.TestPipe done id runs count) = Some (stage.TestPipe done id runs count)
stage_of (pipe.TestPipeCount done id runs count entry) = Some (stage.TestPipeCount done id runs count entry)
stage_of (pipe.TestRunsAgain done id runs closed) = Some (stage.TestRunsAgain done id runs closed)
stage_of (pipe.TestPausing done) = Some (stage.TestPausing done)
stage_of pipe.StatLocking = Some stage.StatLocking
stage_of pipe.StatPausing = Some stage.StatPausing
stage_of pipe.StatFrom = Some stage.StatFrom
stage_of (pipe.StatTo from) = Some (stage.StatTo from)
stage_of (pipe.StatUnlocking held) = Some (stage.StatUnlocking held)
stage_of _ = None

-- ---- the three services

-- how many bytes are to be moved
abbrev pub wanted : PipeService → ℕ
wanted (of.Read len) = min len TRANSFER_MAX
wanted (of.Write len) = min len TRANSFER_MAX
wanted of.Stat = 0

-- the mode of the other end's descriptor
abbrev pub other_mode : PipeService → ℕ
other_mode (of.Write len) = 0
other_mode _ = 1

-- how many bytes are held, by how many have been taken and put
abbrev pub held_of : ℕ → ℕ → ℕ
held_of from to = (to + (2 ^ 32 - from)) % 2 ^ 32

-- no byte can be moved: the pipe is full, or empty
abbrev pub is_stuck : PipeService → ℕ → ℕ → Bool
is_stuck (of.Write len) from to = nat_le PIPEBUFSIZ (held_of from to)
is_stuck _ from to = to == from

-- the test finds so, without the lock: by how many the own end has moved, which is read first, and how many the other end has
abbrev pub seems_stuck : PipeService → ℕ → ℕ → Bool
seems_stuck (of.Write len) own other = held_of other own == PIPEBUFSIZ
seems_stuck _ own other = other == own

-- the other end is closed, by how often this end's descriptor is mapped, and how often the pipe's page
abbrev pub is_closed : ℕ → ℕ → Bool
is_closed descriptors pages = descriptors == pages

-- ---- what it asks

-- where the pipe's page has the byte that is put as this one, and its own the byte behind so many
abbrev pub byte_place : ℕ → ℕ → ℕ
byte_place fd position = pipe_va fd + PIPE_BYTES + position % PIPEBUFSIZ

abbrev pub own_place : ℕ → ℕ
own_place done = UTEMP + done % PGSIZE

-- where it is told how often an environment has got a turn, and how often the page of an entry is mapped
abbrev pub runs_place : ℕ → ℕ
runs_place id = UENVS + ENV_SIZE * (id % NENV) + 4 * ENV_RUNS

abbrev pub count_place : ℕ → ℕ
count_place entry = UPAGES + 8 * (entry / PGSIZE) + 4

abbrev pub lock_asked : ℕ → Ask
lock_asked fd = ask.Exchange (pipe_va fd + PIPE_LOCK) 1

abbrev pub unlock_asked : ℕ → Ask
unlock_asked fd = ask.Store (pipe_va fd + PIPE_LOCK) 0

abbrev pub from_asked : ℕ → Ask
from_asked fd = ask.Load (pipe_va fd + PIPE_READ)

abbrev pub to_asked : ℕ → Ask
to_asked fd = ask.Load (pipe_va fd + PIPE_WRITE)

-- where that page has how many bytes the own end has moved, and how many the other
abbrev pub own_offset : PipeService → ℕ
own_offset (of.Write len) = PIPE_WRITE
own_offset _ = PIPE_READ

abbrev pub other_offset : PipeService → ℕ
other_offset (of.Write len) = PIPE_READ
other_offset _ = PIPE_WRITE

abbrev pub ask_of : PipeService → ℕ → PipeStage → Ask
ask_of service fd stage.EndMode = ask.Load (descriptor_va fd + FD_MODE)
ask_of service fd stage.TakingBytes = ask.System SYS_PAGE_ALLOC (0 ∷ UTEMP ∷ request_perm ∷ 0 ∷ 0 ∷ [])
ask_of service fd (stage.Locking done id runs) = lock_asked fd
ask_of service fd (stage.LockPausing done) = ask.System SYS_YIELD no_args
ask_of service fd (stage.ReadFrom done id runs) = from_asked fd
ask_of service fd (stage.ReadTo done id runs from) = to_asked fd
ask_of service fd (stage.LoadingHeld done from) = ask.LoadByte (byte_place fd from)
ask_of service fd (stage.KeepingHeld done from byte) = ask.StoreByte (own_place done) (byte % 256)
ask_of service fd (stage.TakingHeld done from) = ask.Store (pipe_va fd + PIPE_READ) ((from + 1) % 2 ^ 32)
ask_of service fd (stage.LoadingOwn done to) = ask.LoadByte (own_place done)
ask_of service fd (stage.PuttingOwn done to byte) = ask.StoreByte (byte_place fd to) (byte % 256)
ask_of service fd (stage.Putting done to) = ask.Store (pipe_va fd + PIPE_WRITE) ((to + 1) % 2 ^ 32)
ask_of service fd (stage.UnlockingMoved done) = unlock_asked fd
ask_of service fd (stage.UnlockingEnd done) = unlock_asked fd
ask_of service fd (stage.UnlockingTest done id runs) = unlock_asked fd
ask_of service fd (stage.TestIdentifying done) = ask.System SYS_GETENVID no_args
ask_of service fd (stage.TestRuns done id) = ask.Load (runs_place id)
ask_of service fd (stage.TestAgain done id runs) = ask.Load (runs_place id)
ask_of service fd (stage.TestOwn done id runs) = ask.Load (pipe_va fd + own_offset service)
ask_of service fd (stage.TestOther done id runs own) = ask.Load (pipe_va fd + other_offset service)
ask_of service fd (stage.TestDescriptor done id runs) = entry_asked fd
ask_of service fd (stage.TestDescriptorCount done id runs entry) = ask.Load (count_place entry)
ask_of service fd (stage.TestPipe done id runs count) = pipe_entry_asked fd
ask_of service fd (stage.TestPipeCount done id runs count entry) = ask.Load (count_place entry)
ask_of service fd (stage.TestRunsAgain done id runs closed) = ask.Load (runs_place id)
ask_of service fd (stage.TestPausing done) = ask.System SYS_YIELD no_args
ask_of service fd stage.StatLocking = lock_asked fd
ask_of service fd stage.StatPausing = ask.System SYS_YIELD no_args
ask_of service fd stage.StatFrom = from_asked fd
ask_of service fd (stage.StatTo from) = to_asked fd
ask_of service fd (stage.StatUnlocking held) = unlock_asked fd

-- ---- what it does next

abbrev pub piped : PipeStep → Next
piped at = next.GoOn (step.Piped at)

-- the descriptor names the other end; no bytes are wanted
abbrev pub next_of_mode : PipeService → ℕ → ℕ → Next
next_of_mode service va mode =
    if (mode == other_mode service) || not (is_buffer va (wanted service)) then next.Answer (negated E_INVAL)
    else if wanted service == 0 then next.Answer 0
    else piped pipe.TakingBytes

-- it has its page: write gathers its bytes there as those for the console, from behind PGSIZE bytes, which is from the page's beginning on
abbrev pub page_taken : PipeService → Next
page_taken (of.Write len) = next.GoOn (step.BufferRegion 0 PGSIZE)
page_taken _ = piped (pipe.Locking 0 0 0)

abbrev pub next_of_taking : PipeService → ℕ → Next
next_of_taking service word = if not (word == 0) then next.Answer word else page_taken service

-- another has the lock, or not
abbrev pub next_of_lock : ℕ → PipeStep → PipeStep → Next
next_of_lock word got pausing = if not (word == 0) then next.Wait (step.Piped pausing) else piped got

-- no byte can be moved: read ends with those that it has, if there are any
abbrev pub next_of_stuck : PipeService → ℕ → ℕ → ℕ → Next
next_of_stuck (of.Write len) done id runs = piped (pipe.UnlockingTest done id runs)
next_of_stuck _ done id runs =
    if done == 0 then piped (pipe.UnlockingTest done id runs) else next.Show (step.Piped (pipe.UnlockingEnd done))

abbrev pub next_to_move : PipeService → ℕ → ℕ → ℕ → Next
next_to_move (of.Write len) done from to = piped (pipe.LoadingOwn done to)
next_to_move _ done from to = piped (pipe.LoadingHeld done from)

-- it has the lock, and was told how many have been put
abbrev pub next_of_positions : PipeService → ℕ → ℕ → ℕ → ℕ → ℕ → Next
next_of_positions service done id runs from to =
    if is_stuck service from to then next_of_stuck service done id runs else next_to_move service done from to

-- all bytes are moved: read delivers them, and write is over
abbrev pub all_moved : PipeService → ℕ → Next
all_moved (of.Write len) done = next.Show (step.Returning done)
all_moved _ done = next.Show (step.FileRegion 0 done)

abbrev pub next_of_moved : PipeService → ℕ → Next
next_of_moved service done = if nat_lt done (wanted service) then piped (pipe.Locking done 0 0) else all_moved service done

abbrev pub next_of_unlocked : ℕ → ℕ → ℕ → Next
next_of_unlocked done id runs = if id == 0 then piped (pipe.TestIdentifying done) else piped (pipe.TestAgain done id runs)

-- at the test a byte can be moved, or not
abbrev pub next_of_test : PipeService → ℕ → ℕ → ℕ → ℕ → ℕ → Next
next_of_test service done id runs own other =
    if seems_stuck service own other then piped (pipe.TestDescriptor done id runs) else piped (pipe.Locking done id runs)

-- the environment has got another turn meanwhile; the other end is open, or closed
abbrev pub next_of_runs : ℕ → ℕ → ℕ → ℕ → ℕ → Next
next_of_runs done id runs closed word =
    if not (word == runs) then piped (pipe.TestRuns done id)
    else if closed == 0 then next.Wait (step.Piped (pipe.TestPausing done))
    else next.Show (step.Returning done)

abbrev pub next_of : PipeService → ℕ → PipeStage → ℕ → Next
next_of service va stage.EndMode word = next_of_mode service va word
next_of service va stage.TakingBytes word = next_of_taking service word
next_of service va (stage.Locking done id runs) word = next_of_lock word (pipe.ReadFrom done id runs) (pipe.LockPausing done)
next_of service va (stage.LockPausing done) word = piped (pipe.Locking done 0 0)
next_of service va (stage.ReadFrom done id runs) word = piped (pipe.ReadTo done id runs word)
next_of service va (stage.ReadTo done id runs from) word = next_of_positions service done id runs from word
next_of service va (stage.LoadingHeld done from) word = piped (pipe.KeepingHeld done from word)
next_of service va (stage.KeepingHeld done from byte) word = piped (pipe.TakingHeld done from)
next_of service va (stage.TakingHeld done from) word = next.Show (step.Piped (pipe.UnlockingMoved ((done + 1) % 2 ^ 32)))
next_of service va (stage.LoadingOwn done to) word = piped (pipe.PuttingOwn done to word)
next_of service va (stage.PuttingOwn done to byte) word = piped (pipe.Putting done to)
next_of service va (stage.Putting done to) word = next.Show (step.Piped (pipe.UnlockingMoved ((done + 1) % 2 ^ 32)))
next_of service va (stage.UnlockingMoved done) word = next_of_moved service done
next_of service va (stage.UnlockingEnd done) word = next.GoOn (step.FileRegion 0 done)
next_of service va (stage.UnlockingTest done id runs) word = next_of_unlocked done id runs
next_of service va (stage.TestIdentifying done) own = piped (pipe.TestRuns done own)
next_of service va (stage.TestRuns done id) word = piped (pipe.TestOwn done id word)
next_of service va (stage.TestAgain done id runs) word = piped (pipe.TestOwn done id word)
next_of service va (stage.TestOwn done id runs) word = piped (pipe.TestOther done id runs word)
next_of service va (stage.TestOther done id runs own) word = next_of_test service done id runs own word
next_of service va (stage.TestDescriptor done id runs) word = piped (pipe.TestDescriptorCount done id runs word)
next_of service va (stage.TestDescriptorCount done id runs entry) word = piped (pipe.TestPipe done id runs word)
next_of service va (stage.TestPipe done id runs count) word = piped (pipe.TestPipeCount done id runs count word)
next_of service va (stage.TestPipeCount done id runs count entry) word =
    piped (pipe.TestRunsAgain done id runs (if is_closed count word then 1 else 0))
next_of service va (stage.TestRunsAgain done id runs closed) word = next_of_runs done id runs closed word
next_of service va (stage.TestPausing done) word = piped (pipe.Locking done 0 0)
next_of service va stage.StatLocking word = next_of_lock word pipe.StatFrom pipe.StatPausing
next_of service va stage.StatPausing word = piped pipe.StatLocking
next_of service va stage.StatFrom word = piped (pipe.StatTo word)
next_of service va (stage.StatTo from) word = next.Show (step.Piped (pipe.StatUnlocking (held_of from word)))
next_of service va (stage.StatUnlocking held) word = next.GoOn (step.BufferRegion 0 ((held + 1) % 2 ^ 32))
