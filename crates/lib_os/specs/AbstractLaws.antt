-- What the abstract system means: a fork copies, what is an environment's own is seen by no other, what is shared is
-- one page, a write leaves a pipe with no more than it can hold, a step of one environment leaves the others and what
-- the file server has, and whom the server serves has asked it.
use Rattle.std.specs.Prelude.{◌≡◌, ◌≢◌, ◌≤◌, ◌<◌, ◌⊎◌, ℕ, Bool, true, false, List, [], ◌∷◌, length, Option, Some, None, IfSome}
use Rattle.std.specs.Prelude.{slice_set, ⊤}
use Rattle.jos_base.specs.declared.registers.Regs.{Regs}
use Rattle.jos_base.specs.declared.numbers.TheConstants.{NENV}
use Rattle.jos_base.specs.Words.{page_offset, upd}
use Rattle.jos_cpu.specs.Memory.{IsLawful}
use Rattle.lib_os.specs.declared.numbers.TheConstants.{PIPEBUFSIZ}
use Rattle.lib_os.specs.declared.service.Service.{Service}
use Rattle.lib_os.specs.declared.service.Service.TheVariants as service
use Rattle.lib_os.specs.AbstractState.{AbstractState, Born, AbstractSlot, free, unborn, born, own, named, slot_id, Object, file}
use Rattle.lib_os.specs.AbstractState.{Phase, in_service, bearing, asked, awaiting, Request, Server, idle, looking, busy, acted}
use Rattle.lib_os.specs.AbstractState.{Spawning, loading, closed}
use Rattle.lib_os.specs.AbstractMemory.{page_at, stored}
use Rattle.lib_os.specs.GuestStep.{guest_memory}
use Rattle.lib_os.specs.AbstractFork.{child_of, bear}
use Rattle.lib_os.specs.AbstractPipes.{write_pipe}
use Rattle.lib_os.specs.Descriptors.{is_held}
use Rattle.lib_os.specs.FileServer.{request_begun}
use Rattle.lib_os.specs.AbstractRun.{abs_step, pipe_of}

-- The child is born with the memory that its parent has.
abbrev pub ForkCopies : Type 0
ForkCopies = (a : AbstractState) (n child : ℕ) (b : Born) (regs : Regs) → child ≢ n →
    (bear a n b regs child).slots child ≡ born (child_of b regs (slot_id (a.slots child)))

-- A byte that is put in a page of an environment's own changes no other slot and no shared page.
abbrev pub OwnStoresAreUnseen : Type 0
OwnStoresAreUnseen = (a : AbstractState) (n : ℕ) (b : Born) (va byte : ℕ) (bytes : List ℕ) (m : ℕ) → m ≢ n →
    page_at b va ≡ Some (own bytes true) →
    ((stored a n b va byte).slots m ≡ a.slots m) × ((stored a n b va byte).shared ≡ a.shared)

-- A byte that is put in a shared page changes that one page, for all who have it, and no slot.
abbrev pub SharedStoresAreSeen : Type 0
SharedStoresAreSeen = (a : AbstractState) (n : ℕ) (b : Born) (va byte name : ℕ) → page_at b va ≡ Some (named name true) →
    ((stored a n b va byte).slots ≡ a.slots)
    × ((stored a n b va byte).shared ≡ upd a.shared name (slice_set (a.shared name) (page_offset va) byte))

-- A pipe that holds no more than it can holds no more after a byte is put.
abbrev pub PipesAreBounded : Type 0
PipesAreBounded = (a : AbstractState) (n : ℕ) (b : Born) (regs : Regs) (service : Service) (pipe : ℕ) (bytes : List ℕ) (put : ℕ) →
    length (a.pipes pipe) ≤ PIPEBUFSIZ →
    IfSome (write_pipe a n b regs service pipe bytes put) (λ after. length (after.pipes pipe) ≤ PIPEBUFSIZ)

-- the memory of a guest is one over which the processor's steps are what they are said to be
abbrev pub GuestMemoryIsLawful : Type 0
GuestMemoryIsLawful = IsLawful guest_memory

-- The services whose steps change another slot: a message wakes its receiver, and fork and spawn make a child.
abbrev pub is_for_others : Service → Bool
is_for_others (service.Send id value va) = true
is_for_others service.Fork = true
is_for_others (service.Spawn path argv) = true
is_for_others _ = false

-- an environment is within such a service
abbrev pub is_about_others : Phase → Bool
is_about_others (in_service service stage) = is_for_others service
is_about_others _ = false

-- A step of an environment leaves every other slot as it was, where it sends no message and makes no child.
abbrev pub StepsLeaveOthers : Type 0
StepsLeaveOthers = (a : AbstractState) (n m : ℕ) (b : Born) →
    m ≢ n → a.slots n ≡ born b → is_about_others b.phase ≡ false →
    IfSome (abs_step a n) (λ after. after.slots m ≡ a.slots m)

abbrev pub IsNoFile : Object → Type 0
IsNoFile (file f) = ⊥
IsNoFile _ = ⊤

-- a name that is given by the step, and to no file
abbrev pub IsNewName : AbstractState → AbstractState → ℕ → Type 0
IsNewName a after name = (a.next_name ≤ name) × (name < after.next_name) × IsNoFile (after.objects name)

-- What a step of an environment leaves of what the file server has: the files, the table of open files, and the objects
-- that there were. What an environment has a descriptor for, one had a descriptor for before, or it is new and no file.
pub record LeavesFiles (a after : AbstractState) : Type 0 where
  pub files : after.files ≡ a.files
  pub opened : after.opened ≡ a.opened
  pub names : a.next_name ≤ after.next_name
  pub objects : (name : ℕ) → name < a.next_name → after.objects name ≡ a.objects name
  pub held : (name : ℕ) → is_held after name ≡ true → (is_held a name ≡ true) ⊎ IsNewName a after name
  -- an end of a pipe was one, or its pipe has a new name
  pub ends : (name pipe : ℕ) → pipe_of (Some (after.objects name)) ≡ Some pipe →
      (pipe_of (Some (a.objects name)) ≡ Some pipe) ⊎ ((a.next_name ≤ pipe) × (pipe < after.next_name))
  -- a page is made under a new name alone
  pub pages : (name : ℕ) → (name < a.next_name) ⊎ (after.next_name ≤ name) → a.shared name ≡ [] → after.shared name ≡ []

-- The server is as it was, or the environment in slot n has asked it while it was idle.
pub data AsksOrLeaves (a after : AbstractState) (n : ℕ) : Type 0 where
  leaves : after.server ≡ a.server → AsksOrLeaves a after n
  asks : (request : Request) → a.server ≡ idle → after.server ≡ request_begun n request → AsksOrLeaves a after n

-- A step of an environment leaves the files, the table of open files and the server, but that it may ask.
abbrev pub ClientsLeaveFiles : Type 0
ClientsLeaveFiles = (a : AbstractState) (n : ℕ) (b : Born) → n < NENV → a.slots n ≡ born b →
    IfSome (abs_step a n) (λ after. LeavesFiles a after × AsksOrLeaves a after n)

-- ---- who is served has asked

-- the client whose request the server has taken, and not answered yet
abbrev pub client_served : Server → Option ℕ
client_served (looking client request k) = Some client
client_served (busy client request place) = Some client
client_served (acted client answer bytes object) = Some client
client_served _ = None

-- the services that ask the file server
abbrev pub asks_server : Service → Bool
asks_server (service.OpenFile path mode) = true
asks_server (service.Read fd va len) = true
asks_server (service.Write fd va len) = true
asks_server (service.Seek fd offset) = true
asks_server (service.Stat fd va) = true
asks_server (service.SetSize fd size) = true
asks_server (service.Remove path) = true
asks_server service.Sync = true
asks_server (service.Spawn path argv) = true
asks_server _ = false

-- it has asked the server, and has no reply yet
abbrev pub has_asked : Phase → Bool
has_asked (in_service service asked) = asks_server service
has_asked (in_service service awaiting) = asks_server service
has_asked _ = false

abbrev pub is_asking : AbstractSlot → Bool
is_asking (born b) = has_asked b.phase
is_asking _ = false

-- the slot of the child for which spawn reads a file
abbrev pub loads_for : Option Spawning → Option ℕ
loads_for (Some (loading fd image child pieces)) = Some child
loads_for (Some (closed image child pieces)) = Some child
loads_for _ = None

-- the slot of the child that is borne
abbrev pub bears_in : Phase → Option Spawning → Option ℕ
bears_in (in_service service.Fork (bearing child)) spawning = Some child
bears_in (in_service (service.Spawn path argv) stage) spawning = loads_for spawning
bears_in _ spawning = None

abbrev pub borne_by : AbstractSlot → Option ℕ
borne_by (born b) = bears_in b.phase b.spawning
borne_by _ = None

abbrev pub is_vacant : AbstractSlot → Bool
is_vacant (free id) = true
is_vacant _ = false

abbrev pub is_unborn : AbstractSlot → Bool
is_unborn (unborn id parent) = true
is_unborn _ = false

-- a number is none of a list
abbrev pub IsNoneOf : ℕ → List ℕ → Type 0
IsNoneOf n [] = ⊤
IsNoneOf n (m ∷ rest) = (m ≢ n) × IsNoneOf n rest

-- in the slots of a list nobody is, and none stands there twice
abbrev pub AreVacant : (ℕ → AbstractSlot) → List ℕ → Type 0
AreVacant slots [] = ⊤
AreVacant slots (n ∷ rest) = (is_vacant (slots n) ≡ true) × IsNoneOf n rest × AreVacant slots rest

-- Fork and spawn take no slot in which somebody is: those that are free are vacant, and a child that is borne is not born, and has
-- one parent.
pub record AreGivenApart (slots : ℕ → AbstractSlot) (free_slots : List ℕ) : Type 0 where
  pub vacant : AreVacant slots free_slots
  pub children : (n child : ℕ) → borne_by (slots n) ≡ Some child → is_unborn (slots child) ≡ true
  pub parents : (n m child : ℕ) → borne_by (slots n) ≡ Some child → borne_by (slots m) ≡ Some child → n ≡ m

-- what the server has opened, and not given yet
abbrev pub opened_by : Server → Option ℕ
opened_by (acted client answer bytes object) = object
opened_by _ = None

-- no page and no pipe has the name, and no environment a descriptor for it
pub record IsNobodys (a : AbstractState) (name : ℕ) : Type 0 where
  pub old : name < a.next_name
  pub page : a.shared name ≡ []
  pub held : is_held a name ≡ false
  pub ends : (end : ℕ) → pipe_of (Some (a.objects end)) ≢ Some name

-- Names are given in order, to pages as to objects and pipes, and what the server has opened is nobody's until its reply.
pub record OpensNobodys (a : AbstractState) : Type 0 where
  pub pages : (name : ℕ) → a.next_name ≤ name → a.shared name ≡ []
  pub held : (name : ℕ) → is_held a name ≡ true → name < a.next_name
  pub ends : (end pipe : ℕ) → pipe_of (Some (a.objects end)) ≡ Some pipe → pipe < a.next_name
  pub opened : (name : ℕ) → opened_by a.server ≡ Some name → IsNobodys a name

-- Whom the server serves has asked it, and has no reply yet.
pub record ServesWhoAsked (a : AbstractState) : Type 0 where
  pub asked : (client : ℕ) → client_served a.server ≡ Some client → (client < NENV) × (is_asking (a.slots client) ≡ true)
  pub given : AreGivenApart a.slots a.free_slots
  pub opens : OpensNobodys a

-- It stays so, whatever slot makes a step.
abbrev pub ServedClientsStay : Type 0
ServedClientsStay = (a after : AbstractState) (n : ℕ) → n < NENV → ServesWhoAsked a → abs_step a n ≡ Some after → ServesWhoAsked after
