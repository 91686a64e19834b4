-- Steps of small systems, computed.
use Rattle.std.specs.Prelude.{◌≡◌, ℕ, ◌==◌, true, false, List, [], ◌∷◌, codes, Option, Some, None, option_map}
use Rattle.std.specs.Prelude.{option_and_then, refl, if◌then◌else◌}
use Rattle.jos_base.specs.declared.registers.Regs.{Regs}
use Rattle.jos_base.specs.declared.numbers.TheConstants.{E_INVAL, E_NOT_FOUND}
use Rattle.jos_base.specs.Words.{negated, upd}
use Rattle.jos_base.specs.Environments.{next_id, zero_registers}
use Rattle.jos_base.specs.Reach.{bytes_read}
use Rattle.fs_layout.specs.FileTree.{a_directory, no_more, listed}
use Rattle.fs_layout.specs.FileActs.{file_act, open_act, look_up, look_from, names_in, is_good_path, find_name}
use Rattle.lib_os.specs.declared.service.Service.{Service}
use Rattle.lib_os.specs.declared.service.Service.TheVariants as service
use Rattle.lib_os.specs.AbstractState.{AbstractState, Born, own, free, born, serving, terminal, read_end, write_end}
use Rattle.lib_os.specs.AbstractState.{ProgramState, guest, shell, in_service, entered, idle}
use Rattle.jos_base.specs.Below.{some_below}
use Rattle.lib_os.specs.Fence.{in_fence}
use Rattle.lib_os.specs.GuestStep.{born_in}
use Rattle.lib_os.specs.Answers.{bytes_from, all_stored}
use Rattle.lib_os.specs.Descriptors.{first_from}
use Rattle.lib_os.specs.FileServer.{server_step}
use Rattle.lib_os.specs.LibraryCall.{library_step}
use Rattle.lib_os.specs.AbstractRun.{abs_step, may_wait}

-- ---- a small system

-- an environment with a page of three bytes at 0x00900000, which may be written, that asks for a service
abbrev environment : ℕ → Service → Born
environment id service = record {
  id = id;
  parent = 0;
  program = guest zero_registers;
  memory = λ p. if p == 0x900 then Some (own (104 ∷ 105 ∷ 10 ∷ []) true) else None;
  regions = λ r. r == 2;
  descriptors = λ fd. None;
  phase = in_service service entered;
  spawning = None;
  blocked = false;
}

-- two of them in slots 1 and 2, and the server in slot 0
abbrev two : Service → Service → AbstractState
two first second = record {
  slots = upd (upd (upd (λ n. free 0) 0 (serving 0x1000)) 1 (born (environment 0x1001 first))) 2 (born (environment 0x1002 second));
  free_slots = 3 ∷ 4 ∷ [];
  shared = λ name. [];
  objects = λ name. terminal;
  pipes = λ name. [];
  next_name = 7;
  files = record { root = a_directory no_more false; blocks = 8; unnamed = 0 };
  opened = λ k. record { held_by = None; used = false };
  server = idle;
  console = [];
  input = [];
  last = None;
  turns = 0;
}

-- the slots that these make steps, one after another
step : AbstractState → ℕ → Option AbstractState
unfolding abs_step library_step server_step
step a n = abs_step a n

steps : List ℕ → AbstractState → Option AbstractState
steps [] a = Some a
steps (n ∷ rest) a = option_and_then (steps rest) (step a n)

-- ---- what is seen of a system

abbrev registers_of : Option Born → Regs
registers_of None = zero_registers
registers_of (Some b) = registers_in b.program
  where
    registers_in : ProgramState → Regs
    registers_in (guest regs) = regs
    registers_in (shell place) = zero_registers

-- EAX of the environment in a slot
eax : ℕ → AbstractState → ℕ
eax n a = (registers_of (born_in (a.slots n))).eax

-- ---- pages

-- an address outside of the fence
page_outside : option_map (eax 1) (steps (1 ∷ []) (two (service.PageNew 0xd0000000 0) service.GetId)) ≡ Some (negated E_INVAL)
unfolding step steps eax in_fence upd
page_outside = refl

-- a page of the environment's own, and a shared one, for which there is a name
page_of_own : option_map (eax 1) (steps (1 ∷ []) (two (service.PageNew 0x00a00000 1) service.GetId)) ≡ Some 0
unfolding step steps eax in_fence upd
page_of_own = refl

shared_page : option_map (λ a. a.next_name) (steps (1 ∷ []) (two (service.PageNew 0x00a00000 3) service.GetId)) ≡ Some 8
unfolding step steps in_fence upd
shared_page = refl

-- ---- the console

-- three bytes are printed in one step; a fourth is not there
printed : option_map (λ a. a.console) (steps (1 ∷ []) (two (service.Cputs 0x00900000 3) service.GetId)) ≡ Some (codes "hi\n")
unfolding step steps in_fence upd bytes_read
printed = refl

-- ---- fork

-- the child's slot is taken, and then it is born: the parent is answered its id, and the child 0
forked : option_map {U = ℕ × ℕ} (λ a. (eax 1 a, eax 3 a)) (steps (1 ∷ 1 ∷ []) (two service.Fork service.GetId)) ≡ Some (0x1003, 0)
unfolding step steps eax upd next_id
forked = refl

-- ---- waiting

-- there is no step while the other lives, and it may wait
waits : step (two (service.Wait 0x1002) service.Exit) 1 ≡ None
unfolding step upd
waits = refl

may_wait_for_it : may_wait (two (service.Wait 0x1002) service.Exit) 1 1000 ≡ true
unfolding may_wait upd abs_step library_step
may_wait_for_it = refl

-- when the other has ended, it is answered
waited : option_map (eax 1) (steps (2 ∷ 1 ∷ []) (two (service.Wait 0x1002) service.Exit)) ≡ Some 0
unfolding step steps eax upd first_from
waited = refl

-- ---- messages

-- nobody waits yet
sends_too_early : step (two (service.Send 0x1002 99 0) (service.Receive 0 0)) 1 ≡ None
unfolding step upd in_fence
sends_too_early = refl

-- the one waits, the other sends, and both are answered
message : option_map {U = ℕ × ℕ × ℕ} (λ a. (eax 1 a, (registers_of (born_in (a.slots 2))).edx, (registers_of (born_in (a.slots 2))).ecx))
    (steps (2 ∷ 1 ∷ 2 ∷ []) (two (service.Send 0x1002 99 0) (service.Receive 0 0x1001))) ≡ Some (0, 0x1001, 99)
unfolding step steps eax upd in_fence
message = refl

-- a receiver that waits for another takes nothing
other_sender : steps (2 ∷ 1 ∷ []) (two (service.Send 0x1002 99 0) (service.Receive 0 0x1003)) ≡ None
unfolding step steps upd in_fence
other_sender = refl

-- ---- files

-- a request for a file that is not there: two of the path's bytes, the ask, the wait; the server's look, act and reply; the answer
not_found : option_map (eax 1) (steps (1 ∷ 1 ∷ 1 ∷ 1 ∷ 0 ∷ 0 ∷ 0 ∷ 1 ∷ []) (two (service.OpenFile 0x00900002 0) service.GetId)) ≡ Some (negated E_NOT_FOUND)
unfolding step steps eax upd in_fence bytes_from first_from some_below file_act open_act look_up look_from names_in is_good_path find_name listed
not_found = refl

-- the server asks nobody, and is not idle again before its next step
busy_server : option_map (λ a. may_wait a 2 1000) (steps (1 ∷ 1 ∷ 1 ∷ []) (two (service.OpenFile 0x00900002 0) service.Sync)) ≡ Some true
unfolding step steps upd in_fence bytes_from first_from may_wait abs_step library_step
busy_server = refl

-- ---- pipes

-- a pipe has the two lowest descriptors
made_pipe : option_map {U = ℕ × ℕ × ℕ} (λ a. (eax 1 a, (registers_of (born_in (a.slots 1))).edx, (registers_of (born_in (a.slots 1))).ecx))
    (steps (1 ∷ []) (two service.Pipe service.GetId)) ≡ Some (0, 0, 1)
unfolding step steps eax upd first_from
made_pipe = refl

-- a pipe of which the first environment has the reading end, and the second the writing end
abbrev joined : Service → Service → AbstractState
joined first second =
    let a = two first second in
    record a {
      slots = upd (upd a.slots 1 (born (record (environment 0x1001 first) { descriptors = λ fd. if fd == 0 then Some 5 else None })))
          2 (born (record (environment 0x1002 second) { descriptors = λ fd. if fd == 1 then Some 6 else None }));
      objects = λ name. if name == 5 then read_end 4 else if name == 6 then write_end 4 else terminal;
    }

-- nothing is there yet
reads_too_early : step (joined (service.Read 0 0x00900000 2) (service.Write 1 0x00900001 2)) 1 ≡ None
unfolding step upd in_fence some_below
reads_too_early = refl

-- The writer takes its two bytes, puts one, and then the reader has it: it takes it, sees no more, and puts it in its page.
byte_through : option_map (eax 1) (steps (2 ∷ 2 ∷ 2 ∷ 1 ∷ 1 ∷ 1 ∷ []) (joined (service.Read 0 0x00900000 2) (service.Write 1 0x00900001 2))) ≡ Some 1
unfolding step steps eax upd in_fence some_below bytes_from all_stored
byte_through = refl

-- ---- the end

-- an environment that ends is gone, and its slot is the next
ended : option_map (λ a. a.free_slots) (steps (1 ∷ []) (two service.Exit service.GetId)) ≡ Some (1 ∷ 3 ∷ 4 ∷ [])
unfolding step steps upd first_from
ended = refl
