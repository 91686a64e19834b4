-- What the file server sees of its memory: the disk as its cache holds it, the page of a request, the table of open files with the pages of its
-- places, and the message that came. No kernel and no cache are in this.
use Rattle.std.specs.Prelude.{◌≡◌, ◌≢◌, ◌<◌, ℕ, ◌/◌, ◌%◌, Option, Some, None, option_map}
use Rattle.jos_base.specs.declared.numbers.TheConstants.{PGSIZE}
use Rattle.jos_base.specs.Words.{upd, word_at}
use Rattle.fs_acts.specs.BlockActs.{put_word, stored}
use Rattle.fs_jobs.specs.declared.place.Job.{Job}
use Rattle.fs_jobs.specs.declared.place.TreeState.{TreeState}
use Rattle.fs_runs.specs.TreeRuns.{Memory, begun_with}
use Rattle.lib_os.specs.declared.numbers.TheConstants.{DEVICE_FILE, FD_DEVICE, FD_FILE, FD_MODE, FD_OFFSET, FD_SIZE, MAXOPEN}
use Rattle.lib_os.specs.declared.numbers.TheConstants.{REQUEST_COUNT, REQUEST_FILE, REQUEST_MODE, REQUEST_PLACE}
use Rattle.lib_os.specs.declared.request.RequestKind.{RequestKind}
use Rattle.lib_os.specs.declared.request.RequestKind.TheVariants as kind
use Rattle.fs_requests.specs.declared.plan.ServerNext.{ServerNext}
use Rattle.fs_requests.specs.declared.state.ServerState.{ServerState}
use Rattle.fs_requests.specs.declared.state.ServerStep.{ServerStep}
use Rattle.fs_requests.specs.declared.state.ServerStep.TheVariants as step
use Rattle.fs_requests.specs.ServerPlans.{next_at}

-- ---- what is seen

pub record View : Type 0 where
  -- the bytes of the disk and of the page of the request
  pub memory : Memory
  -- where the record of each place's file stands on the disk; 0 where no file ever had the place
  pub homes : ℕ → ℕ
  -- the bytes of each place's page, if it has one
  pub pages : ℕ → Option (ℕ → ℕ)
  -- the frame of each place's page, and how often a frame is mapped
  pub frames : ℕ → ℕ
  pub holders : ℕ → ℕ
  -- the word of the message that came, and who sent it
  pub value : ℕ
  pub sender : ℕ

-- where the server stands, with its job and what it sees
pub record Serving : Type 0 where
  pub state : ServerState
  pub job : TreeState
  pub view : View

-- ---- what is read

-- a word of the request, and one of the page of the place at hand
abbrev pub request_word : View → ℕ → ℕ
request_word v at = word_at v.memory.page at

abbrev pub word_of : Option (ℕ → ℕ) → ℕ → ℕ
word_of None at = 0
word_of (Some page) at = word_at page at

abbrev pub page_word : View → ℕ → ℕ → ℕ
page_word v number at = word_of (v.pages number) at

-- the place of the next byte, which the file's page tells, or the request
abbrev pub place_told : Option RequestKind → View → ℕ → ℕ
place_told (Some kind.ReadAt) v number = request_word v REQUEST_PLACE
place_told _ v number = page_word v number FD_OFFSET

-- The word that comes of a step's call, where that is told by what is seen. An entry has the frame of the place's page.
abbrev pub IsReplyFor : ServerStep → ServerState → View → ℕ → Type 0
IsReplyFor step.ReadingKind st v word = word ≡ v.value
IsReplyFor step.ReadingClient st v word = word ≡ v.sender
IsReplyFor step.ReadingFile st v word = word ≡ request_word v REQUEST_FILE
IsReplyFor step.ReadingOffset st v word = word ≡ place_told st.kind v st.number
IsReplyFor step.ReadingCount st v word = word ≡ request_word v REQUEST_COUNT
IsReplyFor step.ReadingRecord st v word = word ≡ v.homes st.number
IsReplyFor step.LookingRecord st v word = word ≡ v.homes st.number
IsReplyFor step.LookingEntry st v word = word / PGSIZE ≡ v.frames st.number
IsReplyFor step.LookingHolders st v word = word ≡ v.holders (st.at / PGSIZE)
IsReplyFor step.TakingPage st v word = word ≡ 0
IsReplyFor step.ReadingMode st v word = word ≡ request_word v REQUEST_MODE
IsReplyFor step.ReadingModeAgain st v word = word ≡ request_word v REQUEST_MODE
IsReplyFor step.ReadingRecordAgain st v word = word ≡ v.homes st.number
IsReplyFor step.Advancing st v word = word ≡ page_word v st.number FD_OFFSET
IsReplyFor step.CheckingRecord st v word = word ≡ v.homes st.number
IsReplyFor step.CheckingEntry st v word = word / PGSIZE ≡ v.frames st.number
IsReplyFor step.CheckingHolders st v word = word ≡ v.holders (st.at / PGSIZE)
IsReplyFor _ st v word = Unit {0}

-- ---- what is stored

-- another word in the page of a place
abbrev pub with_word : Option (ℕ → ℕ) → ℕ → ℕ → Option (ℕ → ℕ)
with_word page at word = option_map (λ bytes. stored (put_word at word) bytes) page

abbrev pub with_page_word : View → ℕ → ℕ → ℕ → View
with_page_word v number at word = record v { pages = upd v.pages number (with_word (v.pages number) at word) }

-- a page of zeros for a place, and how often frames are mapped then
abbrev pub with_new_page : View → ℕ → ℕ → (ℕ → ℕ) → View
with_new_page v number frame holders =
    record v { pages = upd v.pages number (Some (λ at. 0)); frames = upd v.frames number frame; holders = holders }

-- what is seen behind a step's call
abbrev pub IsSeenBehind : ServerStep → ServerState → View → View → Type 0
IsSeenBehind step.StoringRecord st v w = w ≡ record v { homes = upd v.homes st.number st.home }
IsSeenBehind step.StoringDevice st v w = w ≡ with_page_word v st.number FD_DEVICE DEVICE_FILE
IsSeenBehind step.StoringMode st v w = w ≡ with_page_word v st.number FD_MODE (st.count % 4)
IsSeenBehind step.StoringFile st v w = w ≡ with_page_word v st.number FD_FILE st.number
IsSeenBehind step.StoringSize st v w = w ≡ with_page_word v st.number FD_SIZE st.count
IsSeenBehind step.StoringOffset st v w = w ≡ with_page_word v st.number FD_OFFSET st.at
IsSeenBehind step.TakingPage st v w = (frame : ℕ) × (holders : ℕ → ℕ) × (w ≡ with_new_page v st.number frame holders) × (holders frame ≡ 1)
    × ((k : ℕ) → k < MAXOPEN → k ≢ st.number → v.homes k ≢ 0 → holders (v.frames k) ≡ v.holders (v.frames k))
IsSeenBehind _ st v w = w ≡ v

-- ---- a step

abbrev pub job_begun : Option Job → TreeState → TreeState
job_begun None job = job
job_begun (Some it) job = begun_with it

-- the server goes on, and sees this
abbrev pub gone_on : Serving → ServerNext → View → Serving
gone_on it next v = record { state = next.state; job = job_begun next.begins it.job; view = v }

-- A call was made, whose word and effect are these.
pub data Calls (it : Serving) (next : ServerNext) : Serving → Type 0 where
  called : (word : ℕ) (v : View) → IsReplyFor it.state.step it.state it.view word → IsSeenBehind it.state.step it.state it.view v →
      next ≡ next_at it.state word → Calls it next (gone_on it next v)
