-- That the file server serves on where another makes a step and files are open: that one may give up a file that it holds, or share it. How often the
-- page of a file's place is mapped tells then who holds it, as it did before; and whom the server serves holds what it asks for.
use Rattle.std.specs.Prelude.{◌≡◌, ◌≢◌, ◌<◌, ◌⊎◌, ℕ, true, nat_le, List, Some}
use Rattle.jos_base.specs.declared.numbers.TheConstants.{NENV}
use Rattle.jos_base.specs.KernelState.{KernelState, slot_at}
use Rattle.jos_base.specs.Reach.{Entry}
use Rattle.jos_base.specs.SpacesState.{reference_count}
use Rattle.lib_os.specs.declared.numbers.TheConstants.{MAXOPEN}
use Rattle.lib_os.specs.AbstractLaws.{LeavesFiles, ServesWhoAsked, client_served}
use Rattle.lib_os.specs.AbstractRun.{abs_step}
use Rattle.lib_os.specs.AbstractState.{AbstractState, Born, OpenFile, Server, acted, born, file, leaving}
use Rattle.lib_os.specs.Descriptors.{holds_in, is_held}
use Rattle.lib_os.specs.Disk.{Disk}
use Rattle.lib_os.specs.FileServer.{is_held_by, server_step}
use Rattle.lib_os.specs.GuestStep.{born_in}
use Rattle.lib_os.specs.InOrder.{IsInOrder}
use Rattle.lib_os.specs.MadeCalls.{is_server_page}
use Rattle.lib_os.specs.Rows.{Names}
use Rattle.lib_os.specs.StandsFor.{StandsFor}
use Rattle.fs_tree.specs.TreeSteps.{memory_in}
use Rattle.fs_requests.specs.declared.state.ServerStep.TheVariants as step
use Rattle.fs_requests.specs.ServerPlans.{call_at, next_at, open_page, open_perm, replying}
use Rattle.fs_serving.specs.ServerRuns.{HasFile, TableStands, client_of}
use Rattle.fs_server.specs.ServerSteps.{gone_on, server_at}
use Rattle.fs_seen.specs.ServerMemory.{entry_of, place_page, request_page, view_in}
use Rattle.fs_seen.specs.ServerWhole.{IsServing, SameTable, ServesOn, keeps_request}

-- ---- the kernel's state

-- Another's step has left the server's slot, its entries and tables, and the bytes of its pages; those of the page of a request as long as they count.
pub record LeavesBytes (server : Server) (s after : KernelState) (n : ℕ) : Type 0 where
  pub slot : slot_at after n ≡ slot_at s n
  pub entries : (p : ℕ) → entry_of after n p ≡ entry_of s n p
  pub tables : (r : ℕ) → after.spaces.regions (slot_at s n).directory r ≡ s.spaces.regions (slot_at s n).directory r
  pub bytes : (p : ℕ) (e : Entry) → is_server_page p ≡ true → p ≢ request_page → entry_of s n p ≡ Some e →
      after.spaces.pages e.frame ≡ s.spaces.pages e.frame
  pub request : keeps_request server ≡ true → (e : Entry) → entry_of s n request_page ≡ Some e →
      after.spaces.pages e.frame ≡ s.spaces.pages e.frame

-- The file of each place that has a page is held where that page is mapped by another beside the server.
abbrev pub CountsTell : KernelState → ℕ → AbstractState → Type 0
CountsTell s n a = (number : ℕ) (e : Entry) → number < MAXOPEN → entry_of s n (place_page number) ≡ Some e →
    is_held_by a (a.opened number).held_by ≡ nat_le 2 (reference_count s.spaces e.frame)

-- ---- the abstract state

-- The step has left the server, and what that has; and whom the server serves holds the files that it held.
pub record LeavesServed (a b : AbstractState) : Type 0 where
  pub server : b.server ≡ a.server
  pub leaves : LeavesFiles a b
  pub holds : (client name : ℕ) (f : OpenFile) → a.objects name ≡ file f → client_served a.server ≡ Some client →
      holds_in (born_in (a.slots client)) name ≡ true → holds_in (born_in (b.slots client)) name ≡ true

-- So does a step of a client's that leaves the server, where whom the server serves has asked it.
abbrev pub ClientsLeaveServed : Type 0
ClientsLeaveServed = (a b : AbstractState) (n : ℕ) (c : Born) → n < NENV → a.slots n ≡ born c → ServesWhoAsked a → abs_step a n ≡ Some b →
    b.server ≡ a.server → LeavesServed a b

-- Each place that is held has a file, and has it alone.
pub record HasFilesApart (a : AbstractState) : Type 0 where
  pub files : (number name : ℕ) → number < MAXOPEN → (a.opened number).held_by ≡ Some name → is_held a name ≡ true →
      (f : OpenFile) × (a.objects name ≡ file f)
  pub alone : (number other name : ℕ) → (a.opened number).held_by ≡ Some name → (a.opened other).held_by ≡ Some name → number ≡ other

-- ---- the laws

-- So it is behind such a step of a client's.
abbrev pub FilesAreApart : Type 0
FilesAreApart = (a b : AbstractState) (d : Disk) (s : KernelState) → IsServing d s 0 a → LeavesFiles a b → HasFilesApart b

-- And there the counts tell, wherever the kernel's state stands for the abstract one.
abbrev pub StandingCountsTell : Type 0
StandingCountsTell = (names : Names) (s : KernelState) (a : AbstractState) → StandsFor names s a → HasFilesApart a → CountsTell s 0 a

-- The table stands for the abstract state behind such a step, where the server sees the same of it, but for how often its pages are mapped.
abbrev pub TablesAreLeft : Type 0
TablesAreLeft = (disk : ℕ → ℕ) (a b : AbstractState) (d e : Disk) (s after : KernelState) (n : ℕ) → TableStands disk a (view_in d s n) →
    SameTable s after n → LeavesFiles a b → CountsTell after n b → TableStands disk b (view_in e after n)

-- The server serves on.
abbrev pub ClientsServe : Type 0
ClientsServe = (a b : AbstractState) (d : Disk) (s after : KernelState) → IsServing d s 0 a → IsInOrder after → LeavesBytes a.server s after 0 →
    LeavesServed a b → CountsTell after 0 b → ServesOn d s after b (server_at s 0).step

-- ---- a reply with a page

-- The client has been given what was opened, and nothing else that the server has is other: nobody holds what nobody held, but that.
pub record GivesOpened (a b : AbstractState) (name : ℕ) : Type 0 where
  pub files : b.files ≡ a.files
  pub opened : b.opened ≡ a.opened
  pub objects : b.objects ≡ a.objects
  pub names : b.next_name ≡ a.next_name
  pub held : (other : ℕ) → is_held b other ≡ true → (is_held a other ≡ true) ⊎ (other ≡ name)

-- So the abstract server replies where it has opened an object.
abbrev pub RepliesGive : Type 0
RepliesGive = (a b : AbstractState) (client answer name : ℕ) (bytes : List ℕ) → a.server ≡ acted client answer bytes (Some name) →
    server_step a ≡ Some b → (b.server ≡ leaving) × GivesOpened a b name

-- The page of the object's place goes with the reply: it is there, and tells the file that the object is.
pub record HasReplyPage (a : AbstractState) (d : Disk) (s : KernelState) (client answer name : ℕ) : Type 0 where
  pub calls : call_at (server_at s 0) ≡ replying (server_at s 0) (open_page (server_at s 0).number, open_perm)
  pub client_is : client_of (server_at s 0) ≡ client
  pub answer_is : (server_at s 0).count ≡ answer
  pub below : (server_at s 0).number < MAXOPEN
  pub entry : Entry
  pub there : entry_of s 0 (place_page (server_at s 0).number) ≡ Some entry
  pub held_by : (a.opened (server_at s 0).number).held_by ≡ Some name
  pub tells : HasFile (memory_in d s 0).disk a (view_in d s 0) (server_at s 0).number name

abbrev pub RepliesWithPage : Type 0
RepliesWithPage = (a : AbstractState) (d : Disk) (s : KernelState) (client answer name : ℕ) (bytes : List ℕ) →
    (server_at s 0).step ≡ step.Replying → a.server ≡ acted client answer bytes (Some name) → IsServing d s 0 a →
    HasReplyPage a d s client answer name

-- Behind the reply places that are held have files, too.
abbrev pub GivenFilesAreApart : Type 0
GivenFilesAreApart = (a b : AbstractState) (d : Disk) (s : KernelState) (client answer name : ℕ) (bytes : List ℕ) →
    (server_at s 0).step ≡ step.Replying → a.server ≡ acted client answer bytes (Some name) → IsServing d s 0 a → GivesOpened a b name →
    HasFilesApart b

-- The reply has come, with the page, which the client maps beside the server: behind it the server is about to give back the page of the request.
abbrev pub RepliesGiving : Type 0
RepliesGiving = (a b : AbstractState) (d : Disk) (s mid after : KernelState) (client answer name : ℕ) (bytes : List ℕ) →
    (server_at s 0).step ≡ step.Replying → a.server ≡ acted client answer bytes (Some name) → IsServing d s 0 a → IsInOrder after →
    LeavesBytes a.server s mid 0 → after ≡ gone_on mid 0 (next_at (server_at s 0) 0) → b.server ≡ leaving → GivesOpened a b name →
    CountsTell after 0 b → ServesOn d s after b step.Releasing
