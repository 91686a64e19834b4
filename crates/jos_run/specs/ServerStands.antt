-- What is known of the file server beside what its environment has where the kernel's state stands for an abstract one: at which of its steps
-- it stands over the disk, for whom, and by whose page it serves.
use Rattle.std.specs.Prelude.{◌≡◌, ◌≢◌, ◌==◌, ◌<◌, ℕ, ◌%◌, ◌++◌, Bool, true, false, List, [], Option, Some, None, Result, Ok, Err, length}
use Rattle.jos_host.specs.declared.host.Failed.{Failed}
use Rattle.jos_base.specs.declared.numbers.TheConstants.{NENV, UTEMP}
use Rattle.jos_base.specs.Environments.{Slot, is_runnable, is_running}
use Rattle.jos_base.specs.KernelState.{KernelState, slot_at}
use Rattle.jos_base.specs.Reach.{Entry}
use Rattle.jos_base.specs.Words.{page_number}
use Rattle.lib_os.specs.declared.numbers.TheConstants.{REQUEST, SHORT_QUANTUM}
use Rattle.lib_os.specs.declared.progress.Progress.{Progress}
use Rattle.lib_os.specs.declared.progress.Progress.TheVariants as progress
use Rattle.lib_os.specs.AbstractLaws.{ServesWhoAsked, client_served}
use Rattle.lib_os.specs.AbstractRun.{abs_step, may_wait}
use Rattle.lib_os.specs.AbstractState.{AbstractState, Server, leaving, idle, looking, busy, acted, slot_id}
use Rattle.lib_os.specs.AskedFor.{ServesAsAsked}
use Rattle.lib_os.specs.Disk.{Disk}
use Rattle.lib_os.specs.LibrarySteps.{KeepsNumbers, KeepsPlaces, KeepsUses, LeavesRest, NothingRefused, Stands, TakesAtMost}
use Rattle.lib_os.specs.Rows.{rows_of}
use Rattle.lib_os.specs.UserCalls.{Output, Prints, PrintsPart}
use Rattle.fs_blocks.specs.declared.place.CachePlace.{CachePlace}
use Rattle.fs_blocks.specs.declared.place.CachePlace.TheVariants as at
use Rattle.fs_blocks.specs.CachePlaces.{block_at}
use Rattle.fs_cache.specs.CacheSteps.{cache_state}
use Rattle.fs_requests.specs.declared.state.ServerState.{ServerState}
use Rattle.fs_requests.specs.declared.state.ServerStep.{ServerStep}
use Rattle.fs_requests.specs.declared.state.ServerStep.TheVariants as step
use Rattle.fs_requests.specs.ServerWords.{server_in}
use Rattle.fs_seen.specs.ServerMemory.{has_request, sends_page}
use Rattle.fs_seen.specs.ServerWhole.{IsServing}
use Rattle.jos_run.specs.Worlds.{World}

-- ---- its step

-- where it stands, by its registers and words
abbrev pub serving_at : Slot → ServerState
serving_at k = server_in k.registers k.extra

abbrev pub step_of : Slot → ServerStep
step_of k = (serving_at k).step

-- the environment in the slot of the client has this id
pub record IsClient (a : AbstractState) (client id : ℕ) : Type 0 where
  pub slot : client ≡ id % NENV
  pub same : slot_id (a.slots client) ≡ id

-- the id of the client that it serves: it is in the message that came, and once that is read in the server's own words
abbrev pub client_id : ServerStep → Slot → ℕ
client_id step.ReadingKind k = k.rendezvous.sender
client_id step.ReadingClient k = k.rendezvous.sender
client_id _ k = (serving_at k).client

-- ---- its pages

-- The page of its request is the one in which its client has told it.
pub record IsLent (s : KernelState) (client : ℕ) : Type 0 where
  pub own : Entry
  pub kept : rows_of s.spaces (slot_at s client).directory (page_number UTEMP) ≡ Some own
  pub entry : Entry
  pub stands : rows_of s.spaces (slot_at s 0).directory (page_number REQUEST) ≡ Some entry
  pub same : own.frame ≡ entry.frame

abbrev pub IsLentBy : Bool → KernelState → ℕ → Type 0
IsLentBy true s client = IsLent s client
IsLentBy false s client = has_request s 0 ≡ false

-- It is so until the act is made, where the request has a page, and until the reply where bytes are handed back. There is none where a sync is asked
-- for, nor while it waits for a request.
abbrev pub HasLent : Server → KernelState → Type 0
HasLent leaving s = step_of (slot_at s 0) ≡ step.Receiving → has_request s 0 ≡ false
HasLent idle s = has_request s 0 ≡ false
HasLent (looking client request place) s = IsLentBy (sends_page request) s client
HasLent (busy client request place) s = IsLentBy (sends_page request) s client
HasLent (acted client answer [] object) s = Unit {0}
HasLent (acted client answer bytes object) s = IsLent s client

-- ---- over the disk

-- The block for which its cache is to have a page is one of the disk; to flush, and to find what is there, it takes none.
abbrev pub BringsOwn : Disk → CachePlace → Type 0
BringsOwn d at.Resting = Unit {0}
BringsOwn d (at.Found block) = Unit {0}
BringsOwn d (at.FlushRegion block) = Unit {0}
BringsOwn d (at.FlushPage block) = Unit {0}
BringsOwn d (at.FlushWriting block) = Unit {0}
BringsOwn d (at.FlushSettling block) = Unit {0}
BringsOwn d place = block_at place < d.count

-- It stands at its step over the disk, its words are twelve, its cache brings blocks of the disk, and it serves who has asked, what this one has
-- asked for, by the page that this one has lent.
pub record ServerStands (d : Disk) (s : KernelState) (a : AbstractState) : Type 0 where
  pub serving : IsServing d s 0 a
  pub twelve : length (slot_at s 0).extra ≡ 12
  pub brings : BringsOwn d (cache_state s 0).place
  pub client : (client : ℕ) → client_served a.server ≡ Some client → IsClient a client (client_id (step_of (slot_at s 0)) (slot_at s 0))
  pub asked : ServesWhoAsked a
  pub fits : ServesAsAsked a
  pub lent : HasLent a.server s

-- Where the host does not tell its files nothing is known of the server.
abbrev pub ServesOver : Option Disk → KernelState → AbstractState → Type 0
ServesOver None s a = ⊥
ServesOver (Some d) s a = ServerStands d s a

-- ---- the whole

-- the state, with the disk that is told, stands for an abstract one, with the file server at its step
abbrev pub StandsWhole : World → AbstractState → Type 0
StandsWhole w a = Stands w.state a × ServesOver w.disk w.state a

-- the same abstract state
abbrev pub WholeStays : World → AbstractState → List ℕ → Type 0
WholeStays after a written = (written ≡ []) × StandsWhole after a

-- the abstract state after the slot's step, in which it has printed the bytes that are written
abbrev pub WholeGoesOn : ℕ → World → AbstractState → List ℕ → Type 0
WholeGoesOn n after a written =
    (b : AbstractState) × (abs_step a n ≡ Some b) × (b.console ≡ a.console ++ written) × StandsWhole after b

abbrev pub WholeFollows : Progress → ℕ → World → AbstractState → List ℕ → Type 0
WholeFollows progress.Hidden n after a written = WholeStays after a written
WholeFollows progress.Waited n after a written = WholeStays after a written × (may_wait a n SHORT_QUANTUM ≡ true)
WholeFollows progress.Visible n after a written = WholeGoesOn n after a written
WholeFollows progress.Finished n after a written = WholeGoesOn n after a written
WholeFollows progress.Ended n after a written = WholeGoesOn n after a written

-- Who makes a step is RUNNING; but the file server goes on alone where no turn is under way.
abbrev pub MayStep : KernelState → ℕ → Type 0
MayStep s n = n ≢ 0 → is_running (slot_at s n).status ≡ true

-- A step of the environment in slot n that has come to this, be it the file server's or another's.
abbrev pub KeepsWhole : Progress → ℕ → World → World → List ℕ → Type 0
KeepsWhole progress n before after written =
    (a : AbstractState) → StandsWhole before a → MayStep before.state n → NothingRefused before.state after.state →
    WholeFollows progress n after a written

-- Where a call of the host failed it was made in a step that is seen, and prints so much; or, by the file server, in one that nobody sees.
abbrev pub WouldFollow : Bool → ℕ → AbstractState → List ℕ → Type 0
WouldFollow true n a written = written ≡ []
WouldFollow false n a written = (b : AbstractState) × (abs_step a n ≡ Some b) × (b.console ≡ a.console ++ written)

-- The same with what was printed. Where the host failed, nothing is said of the state, and what came is a part of what the slot's step prints.
abbrev pub IsWholeStep : Result Progress Failed → ℕ → World → World → Output → Type 0
IsWholeStep (Ok progress) n before after output =
    (written : List ℕ) × Prints output written × KeepsWhole progress n before after written
IsWholeStep (Err _) n before after output =
    (written : List ℕ) × PrintsPart output written × ((a : AbstractState) → StandsWhole before a → MayStep before.state n → WouldFollow (n == 0) n a written)

-- ---- what its step leaves

-- it has acted, and waits with its reply
abbrev pub WaitsToReply : Server → Type 0
WaitsToReply (acted client answer bytes object) = Unit {0}
WaitsToReply _ = ⊥

-- It gives up its turn in a step that is hidden, while it waits with its reply.
abbrev pub MayGiveUpServing : Progress → AbstractState → Type 0
MayGiveUpServing progress.Hidden a = WaitsToReply a.server
MayGiveUpServing _ a = ⊥

-- What a step of the file server leaves to itself and to the others, whatever it stands for; over the disk that the host tells, if it tells one, it
-- goes on in its turn, waits, or may give it up.
pub record ServerLeaves (over : Option Disk) (done : Progress) (before after : KernelState) : Type 0 where
  pub rest : LeavesRest before after
  pub uses : KeepsUses 0 before after
  pub places : KeepsPlaces 0 before after
  pub numbers : KeepsNumbers 0 before after
  pub takes : TakesAtMost 2 before.spaces after.spaces
  pub turn : (a : AbstractState) → Stands before a → ServesOver over before a → is_running (slot_at before 0).status ≡ true →
      is_runnable (slot_at after 0).status ≡ true → MayGiveUpServing done a

-- Where the host failed nothing is said.
abbrev pub LeavesServed : Option Disk → Result Progress Failed → KernelState → KernelState → Type 0
LeavesServed over (Ok done) before after = ServerLeaves over done before after
LeavesServed over (Err _) before after = Unit {0}
