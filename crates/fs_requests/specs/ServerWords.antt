-- Where the file server stands, as it is spelled in words: the registers ESI and EIP, and the three words that the job on files has for its
-- numbers while it runs. EIP has the number of the step, the word of what was asked for and the number of the place at hand of the table of open
-- files, and ESI the client. (The server runs no instructions, and EIP is a word to it like the others. The form is this system's own.)
use Rattle.std.specs.Prelude.{ℕ, ◌+◌, ◌*◌, ◌/◌, ◌%◌, ◌==◌, ◌++◌, List, ◌∷◌, get_or, take, drop, Option, Some, None, if◌then◌else◌}
use Rattle.jos_base.specs.declared.registers.Regs.{Regs}
use Rattle.lib_os.specs.declared.numbers.TheConstants.{MAXOPEN}
use Rattle.lib_os.specs.declared.request.RequestKind.{RequestKind}
use Rattle.lib_os.specs.Requests.{request_kind, request_word}
use Rattle.fs_requests.specs.declared.state.ServerState.{ServerState}
use Rattle.fs_requests.specs.declared.state.ServerStep.{ServerStep}
use Rattle.fs_requests.specs.declared.state.ServerStep.TheVariants as step

-- ---- steps

unfoldable pub step_word : ServerStep → ℕ
step_word step.Releasing = 0
step_word step.Receiving = 1
step_word step.ReadingKind = 2
step_word step.ReadingClient = 3
step_word step.ReadingFile = 4
step_word step.ReadingOffset = 5
step_word step.ReadingCount = 6
step_word step.ReadingRecord = 7
step_word step.LookingRecord = 8
step_word step.LookingEntry = 9
step_word step.LookingHolders = 10
step_word step.TakingPage = 11
step_word step.ReadingMode = 12
step_word step.Working = 13
step_word step.Finding = 14
step_word step.StoringRecord = 15
step_word step.StoringDevice = 16
step_word step.ReadingModeAgain = 17
step_word step.StoringMode = 18
step_word step.StoringFile = 19
step_word step.ReadingRecordAgain = 20
step_word step.Sizing = 21
step_word step.StoringSize = 22
step_word step.Advancing = 23
step_word step.StoringOffset = 24
step_word step.CheckingRecord = 25
step_word step.CheckingEntry = 26
step_word step.CheckingHolders = 27
step_word step.Flushing = 28
step_word step.Acting = 29
step_word step.Replying = 30
step_word step.Pausing = 31

unfoldable pub step_in : ℕ → ServerStep
step_in n =
    if n == 0 then step.Releasing
    else if n == 1 then step.Receiving
    else if n == 2 then step.ReadingKind
    else if n == 3 then step.ReadingClient
    else if n == 4 then step.ReadingFile
    else if n == 5 then step.ReadingOffset
    else if n == 6 then step.ReadingCount
    else if n == 7 then step.ReadingRecord
    else if n == 8 then step.LookingRecord
    else if n == 9 then step.LookingEntry
    else if n == 10 then step.LookingHolders
    else if n == 11 then step.TakingPage
    else if n == 12 then step.ReadingMode
    else if n == 13 then step.Working
    else if n == 14 then step.Finding
    else if n == 15 then step.StoringRecord
    else if n == 16 then step.StoringDevice
    else if n == 17 then step.ReadingModeAgain
    else if n == 18 then step.StoringMode
    else if n == 19 then step.StoringFile
    else if n == 20 then step.ReadingRecordAgain
    else if n == 21 then step.Sizing
    else if n == 22 then step.StoringSize
    else if n == 23 then step.Advancing
    else if n == 24 then step.StoringOffset
    else if n == 25 then step.CheckingRecord
    else if n == 26 then step.CheckingEntry
    else if n == 27 then step.CheckingHolders
    else if n == 28 then step.Flushing
    else if n == 29 then step.Acting
    else if n == 30 then step.Replying
    else step.Pausing

-- the word of what was asked for
abbrev pub kind_word : Option RequestKind → ℕ
kind_word (Some kind) = request_word kind
kind_word None = 0

-- ---- a state

unfoldable pub server_in : Regs → List ℕ → ServerState
server_in regs words = record {
  step = step_in (regs.eip % 32);
  kind = request_kind (regs.eip / 32 % 16);
  client = regs.esi;
  number = regs.eip / 512 % MAXOPEN;
  home = get_or words 1 0;
  at = get_or words 2 0;
  count = get_or words 3 0;
}

-- the registers and the words with which it stands so; all others stay
abbrev pub registers_with : Regs → ServerState → Regs
registers_with regs state = record regs {
  esi = state.client;
  eip = step_word state.step + 32 * kind_word state.kind + 512 * (state.number % MAXOPEN);
}

unfoldable pub words_with : List ℕ → ServerState → List ℕ
words_with words state = take 1 words ++ state.home ∷ state.at ∷ state.count ∷ drop 4 words
