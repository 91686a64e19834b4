-- That the server's own calls do what its view says: what a call gives is what is seen, and what is seen behind it is what the call is to do. So a
-- step of the server over the kernel is one of the server by itself.
use Rattle.std.specs.Prelude.{◌≡◌, ◌≢◌, ◌<◌, ◌⊎◌, ◌-◌, ◌/◌, ◌^◌, ℕ, Bool, true, false, is_some, Err}
use Rattle.jos_base.specs.declared.numbers.TheConstants.{E_NO_MEM, PGSIZE}
use Rattle.jos_base.specs.KernelState.{KernelState}
use Rattle.jos_base.specs.Words.{negated}
use Rattle.lib_os.specs.declared.numbers.TheConstants.{MAXOPEN}
use Rattle.lib_os.specs.declared.progress.Progress.{Progress}
use Rattle.lib_os.specs.declared.user_os.Stop.{Stop}
use Rattle.lib_os.specs.Disk.{Disk}
use Rattle.lib_os.specs.InOrder.{IsInOrder}
use Rattle.lib_os.specs.UserCalls.{Output}
use Rattle.lib_os.specs.AbstractState.{AbstractState}
use Rattle.fs_blocks.specs.declared.place.CachePlace.{CachePlace}
use Rattle.fs_cache.specs.CacheSteps.{cache_state, is_fetching}
use Rattle.fs_jobs.specs.declared.asks.TreeAsk.{TreeAsk}
use Rattle.fs_jobs.specs.declared.asks.TreeAsk.TheVariants as ask
use Rattle.fs_runs.specs.TreePlans as tree
use Rattle.fs_tree.specs.TreeSteps.{job_in}
use Rattle.fs_requests.specs.declared.plan.ServerNext.{ServerNext}
use Rattle.fs_requests.specs.declared.state.ServerState.{ServerState}
use Rattle.fs_requests.specs.declared.state.ServerStep.{ServerStep}
use Rattle.fs_requests.specs.declared.state.ServerStep.TheVariants as step
use Rattle.fs_requests.specs.ServerPlans.{call_at, next_at}
use Rattle.fs_serving.specs.ServerRuns.{Follows, StandsServing}
use Rattle.fs_serving.specs.ServerViews.{Calls, Serving, View, gone_on}
use Rattle.fs_server.specs.ServerSteps.{HasCalled, IsReply, server_at}
use Rattle.fs_seen.specs.ServerMemory.{HasRequested, HasWholeRequest, HasWords, StandsOver, has_request, serving_in, view_in}

-- ---- what is the same of two

-- a job is under way
abbrev pub is_working : ServerStep → Bool
is_working step.Working = true
is_working step.Finding = true
is_working step.Sizing = true
is_working _ = false

-- The server stands where another does, and sees the same. Three of its words are the job's while one is under way, and the job is none else.
pub record ServesAlike (it other : Serving) : Type 0 where
  pub at_step : it.state.step ≡ other.state.step
  pub kind : it.state.kind ≡ other.state.kind
  pub client : it.state.client ≡ other.state.client
  pub number : it.state.number ≡ other.state.number
  pub words : is_working it.state.step ≡ false → it.state ≡ other.state
  pub job : is_working it.state.step ≡ true → it.job ≡ other.job
  pub view : it.view ≡ other.view

-- ---- what a step needs

-- The calls that concern nobody else and take no page.
abbrev pub is_quiet : ServerStep → Bool
is_quiet step.Releasing = false
is_quiet step.Receiving = false
is_quiet step.TakingPage = false
is_quiet step.Working = false
is_quiet step.Finding = false
is_quiet step.Sizing = false
is_quiet step.Flushing = false
is_quiet step.Replying = false
is_quiet _ = true

abbrev pub HasPlace : ServerState → View → Type 0
HasPlace st v = is_some (v.pages st.number) ≡ true

-- Each place that had a file has a page.
abbrev pub HavePages : View → Type 0
HavePages v = (number : ℕ) → number < MAXOPEN → v.homes number ≢ 0 → is_some (v.pages number) ≡ true

-- A message is read in the first of the kernel's records, which is that of slot 0. Of a place whose page is read, written or looked at the page is
-- there; where it is looked at how often a frame is mapped, that is the frame of the page; and where a page is taken each place that had a file has
-- one.
abbrev pub NeedsAt : ServerStep → ServerState → View → ℕ → Type 0
NeedsAt step.ReadingKind st v n = n ≡ 0
NeedsAt step.ReadingClient st v n = n ≡ 0
NeedsAt step.ReadingOffset st v n = HasPlace st v
NeedsAt step.StoringSize st v n = HasPlace st v
NeedsAt step.LookingEntry st v n = HasPlace st v
NeedsAt step.LookingHolders st v n = HasPlace st v × (st.at / PGSIZE ≡ v.frames st.number)
NeedsAt step.TakingPage st v n = HavePages v
NeedsAt step.StoringDevice st v n = HasPlace st v
NeedsAt step.StoringMode st v n = HasPlace st v
NeedsAt step.StoringFile st v n = HasPlace st v
NeedsAt step.Advancing st v n = HasPlace st v
NeedsAt step.StoringOffset st v n = HasPlace st v
NeedsAt step.CheckingEntry st v n = HasPlace st v
NeedsAt step.CheckingHolders st v n = HasPlace st v × (st.at / PGSIZE ≡ v.frames st.number)
NeedsAt _ st v n = Unit {0}

-- The steps that may read the page of the request: where the place of the next byte stands, is told by what is asked for.
abbrev pub reads_request : ServerStep → Bool
reads_request step.ReadingOffset = true
reads_request step.ReadingFile = true
reads_request step.ReadingCount = true
reads_request step.ReadingMode = true
reads_request step.ReadingModeAgain = true
reads_request _ = false

-- a step that reads the page of the request has one
abbrev pub ReadsPage : KernelState → ℕ → Type 0
ReadsPage s n = reads_request (server_at s n).step ≡ true → has_request s n ≡ true

-- The kernel's state is in order, the cache stands, and so do the table and the page of a request, which has the bytes of one; and what is kept is
-- words.
pub record AllStands (d : Disk) (s : KernelState) (n : ℕ) : Type 0 where
  pub stands : StandsOver d s n
  pub words : HasWords s n
  pub request : HasWholeRequest s n

-- ---- the cache

-- Where the server runs no job its cache fetches no block, nor where the job's next step is one on the page of the request.
abbrev pub AccessRests : TreeAsk → CachePlace → Type 0
AccessRests (ask.Request at) place = is_fetching place ≡ false
AccessRests (ask.HandBack at byte) place = is_fetching place ≡ false
AccessRests _ place = Unit {0}

abbrev pub CacheRests : ServerStep → KernelState → ℕ → Type 0
CacheRests step.Working s n = AccessRests (tree.ask_at (job_in s n)) (cache_state s n).place
CacheRests step.Finding s n = AccessRests (tree.ask_at (job_in s n)) (cache_state s n).place
CacheRests step.Sizing s n = AccessRests (tree.ask_at (job_in s n)) (cache_state s n).place
CacheRests _ s n = is_fetching (cache_state s n).place ≡ false

-- ---- what is so behind one

-- The server by itself has made the call, and stands as it does over the kernel; all stands, and the cache as it stood.
pub record IsSeen (d : Disk) (s after : KernelState) (n : ℕ) (done : Progress) : Type 0 where
  pub next : ServerNext
  pub behind : Serving
  pub calls : Calls (serving_in d s n) next behind
  pub stands_as : ServesAlike behind (serving_in d after n)
  pub shows : done ≡ next.seen
  pub stands : StandsOver d after n
  pub request_stays : has_request after n ≡ has_request s n
  pub cache : cache_state after n ≡ cache_state s n

-- No page was to be had: that is counted, the server goes on by the error's number, and sees what it saw.
pub record LacksPage (d : Disk) (s after : KernelState) (n : ℕ) (done : Progress) : Type 0 where
  pub counted : s.refusals < 2 ^ 64 - 1 → s.refusals < after.refusals
  pub stands_as : ServesAlike (gone_on (serving_in d s n) (next_at (server_at s n) (negated E_NO_MEM)) (view_in d s n)) (serving_in d after n)
  pub shows : done ≡ (next_at (server_at s n) (negated E_NO_MEM)).seen
  pub stands : StandsOver d after n
  pub request_stays : has_request after n ≡ has_request s n

-- ---- the laws

-- a call of the server's own was made at its step
abbrev pub HasCalledAt : KernelState → KernelState → ℕ → Output → Progress → Type 0
HasCalledAt s after n output done = HasCalled (call_at (server_at s n)) (server_at s n) s after n output done

-- What a quiet call gives and does is seen.
abbrev pub CallsAreSeen : Type 0
CallsAreSeen = (d : Disk) (s after : KernelState) (n : ℕ) (output : Output) (done : Progress) → is_quiet (server_at s n).step ≡ true →
    NeedsAt (server_at s n).step (server_at s n) (view_in d s n) n → ReadsPage s n → AllStands d s n → IsInOrder after →
    HasCalledAt s after n output done → IsSeen d s after n done

-- No fault stops it, nor does the host.
abbrev pub CallsGoOn : Type 0
CallsGoOn = (d : Disk) (s mid : KernelState) (n : ℕ) (output : Output) (why : Stop) → is_quiet (server_at s n).step ≡ true →
    NeedsAt (server_at s n).step (server_at s n) (view_in d s n) n → ReadsPage s n → AllStands d s n →
    IsReply (call_at (server_at s n)) s n (Err why) mid output → ⊥

-- A page that is taken for a place is one of zeros that nobody else has; or none was to be had.
abbrev pub PagesAreTaken : Type 0
PagesAreTaken = (d : Disk) (s after : KernelState) (n : ℕ) (output : Output) (done : Progress) → (server_at s n).step ≡ step.TakingPage →
    HavePages (view_in d s n) → AllStands d s n → IsInOrder after → HasCalledAt s after n output done →
    IsSeen d s after n done ⊎ LacksPage d s after n done

-- ---- over the kernel

-- the steps from a request that has come up to the reply that make a call of the server's own
abbrev pub makes_call : ServerStep → Bool
makes_call step.TakingPage = true
makes_call step.Pausing = false
makes_call at = is_quiet at

-- The server over the kernel stands for the same abstract state behind a hidden step, and behind a visible one for that after the abstract
-- server's step. Its cache fetches no block that it should not, if it fetched none before.
pub record HasServed (count : ℕ) (a : AbstractState) (d : Disk) (s after : KernelState) (n : ℕ) (done : Progress) : Type 0 where
  pub follows : Follows count a done (serving_in d after n)
  pub stands : StandsOver d after n
  pub request_stays : has_request after n ≡ has_request s n
  pub rests : CacheRests (server_at s n).step s n → CacheRests (server_at after n).step after n

-- The server, which is in slot 0, serves by its own calls as the abstract one does. Where it stands for that, no call needs more. A page may not be
-- had for a place.
abbrev pub CallsServe : Type 0
CallsServe = (count : ℕ) (a : AbstractState) (d : Disk) (s after : KernelState) (output : Output) (done : Progress) →
    makes_call (server_at s 0).step ≡ true → HasRequested a.server s 0 → AllStands d s 0 → StandsServing count a (serving_in d s 0) →
    IsInOrder after → HasCalledAt s after 0 output done →
    HasServed count a d s after 0 done ⊎ (((server_at s 0).step ≡ step.TakingPage) × LacksPage d s after 0 done)
