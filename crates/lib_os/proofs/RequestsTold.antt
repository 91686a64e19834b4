-- What the abstract system does where a service asks the file server by its page: it asks what the page tells, where the server is idle.
use Rattle.std.proofs.Common.{◌≡◌, ◌≢◌, ◌∙◌, ◌==◌, ◌&&◌, ◌||◌, ◌≤◌, ℕ, Bool, true, false, not, refl, ap, subst, arith}
use Rattle.std.proofs.lemmas.Bool.{false≢true}
use Rattle.std.specs.List.{before_first}
use Rattle.std.specs.Prelude.{List, [], ◌∷◌, Option, Some, None, is_none, is_some, length, nat_lt}
use Rattle.std.specs.Option.{option_map}
use Rattle.std.proofs.lemmas.Bool.Decides.{nat_tests}
use Rattle.jos_base.specs.declared.registers.Regs.{Regs}
use Rattle.jos_base.specs.Environments.{Slot}
use Rattle.jos_base.specs.KernelState.{KernelState, slot_at}
use Rattle.fs_layout.specs.FileTree.{remove_path, set_file_size, write_file, read_file, stat_file, open_path}
use Rattle.lib_os.specs.declared.numbers.TheConstants.{OFFSET_MAX, REQUEST_BYTES, STAT_SIZE}
use Rattle.lib_os.specs.declared.service.Service.{Service}
use Rattle.lib_os.specs.declared.service.Service.TheVariants as service
use Rattle.lib_os.specs.AbstractRun.{abs_step, may_wait, phase_may_wait, pipe_at, pipe_may_wait, service_may_wait, slot_may_wait, waits_to_ask}
use Rattle.lib_os.specs.AbstractState.{AbstractSlot, AbstractState, Born, Object, OpenFile, Phase, Request, act, asked, born, entered, file}
use Rattle.lib_os.specs.AbstractState.{gathering, in_service, seek}
use Rattle.lib_os.specs.AbstractState.{Server, Stage, leaving, idle, looking, busy, acted, is_idle}
use Rattle.lib_os.specs.Answers.{at_stage}
use Rattle.lib_os.specs.Descriptors.{object_name, object_of, lowest_free}
use Rattle.lib_os.specs.Fence.{is_buffer}
use Rattle.lib_os.specs.FileServer.{ask, request_begun, request_taken}
use Rattle.lib_os.specs.StandsInHandler.{wanted_of}
use Rattle.lib_os.specs.FileServices.{is_nul, remove_asked, open_asked}
use Rattle.lib_os.specs.LibraryCall.{library_step}
use Rattle.lib_os.specs.LibraryPages.{View}
use Rattle.lib_os.specs.Places.{place_of}
use Rattle.lib_os.specs.Rows.{Names, rows_of}
use Rattle.lib_os.specs.InService.{IsIn, IsLowestFree}
use Rattle.lib_os.specs.StandsFor.{AsksOfFile, HasWholePath, StandsFor, TellsRequest, borne_in, view_of}
use Rattle.lib_os.specs.StandsInHandler.{stage_with, wanted_from}
use Rattle.lib_os.proofs.DescriptorLooks.{seen_calm}
use Rattle.lib_os.proofs.DeviceLooks.{NamesFile, names_file}
use Rattle.lib_os.proofs.Paths.{path_ends}
use Rattle.lib_os.proofs.PipesStand.{calm_unmade, is_calm}
use Rattle.lib_os.proofs.FreeSeen.{lowest_seen}
use Rattle.lib_os.proofs.RequestPages.{IsBeside, brings_page}
use Rattle.lib_os.proofs.Serving.{step_in}

-- ---- its step

-- It asks this of the server, if that is idle.
pub record IsAsking (a : AbstractState) (n : ℕ) (b : Born) (call : Service) : Type 0 where
  pub request : Request
  pub asks : (server : Server) → abs_step (record a { server = server }) n ≡ request_taken (record a { server = server }) n b call request server

-- the abstract state in which the server has a request
abbrev pub with_request_of : AbstractState → ℕ → Request → AbstractState
with_request_of a n request = record a { server = request_begun n request }

module _ (a : AbstractState) (n : ℕ) (b : Born) (call : Service) (it : IsAsking a n b call) where
  pub request_step : a.server ≡ idle → abs_step a n ≡ Some (at_stage (with_request_of a n it.request) n b call asked)
  request_step is =
      it.asks a.server ∙ ap (λ (x : Server). request_taken a n b call it.request x) is

  pub request_waits : is_idle a.server ≡ false → abs_step a n ≡ None
  request_waits not_idle = it.asks a.server ∙ by_server a.server not_idle
    where
      by_server : (server : Server) → is_idle server ≡ false → request_taken a n b call it.request server ≡ None
      by_server idle is = absurd (let contradiction : true ≡ false = is in cc)
      by_server leaving is = refl
      by_server (looking client request place) is = refl
      by_server (busy client request place) is = refl
      by_server (acted client answer bytes object) is = refl

  -- It would have its step if the server were idle,
  pub waits_for_server : is_idle a.server ≡ false → waits_to_ask a n ≡ true
  waits_for_server not_idle =
      let none = request_waits not_idle in
      let some = it.asks idle in
      λ i. not (not_idle i) && is_none (none i) && is_some (some i)

waiting_is : (call : Service) → brings_page call ≡ true → (a : AbstractState) (n : ℕ) (b : Born) (quantum : ℕ) → waits_to_ask a n ≡ true →
    service_may_wait a n b call quantum ≡ true
waiting_is (service.Remove path) is a n b quantum waits = ap (λ (t : Bool). t || pipe_may_wait a n (service.Remove path) None quantum) waits
waiting_is (service.OpenFile path mode) is a n b quantum waits =
    ap (λ (t : Bool). t || pipe_may_wait a n (service.OpenFile path mode) None quantum) waits
waiting_is (service.Seek fd offset) is a n b quantum waits =
    ap (λ (t : Bool). t || pipe_may_wait a n (service.Seek fd offset) None quantum) waits
waiting_is (service.SetSize fd size) is a n b quantum waits =
    ap (λ (t : Bool). t || pipe_may_wait a n (service.SetSize fd size) None quantum) waits
waiting_is (service.Write fd va len) is a n b quantum waits =
    ap (λ (t : Bool). t || pipe_may_wait a n (service.Write fd va len) (pipe_at a b (Some fd)) quantum) waits
waiting_is (service.Read fd va len) is a n b quantum waits =
    ap (λ (t : Bool). t || pipe_may_wait a n (service.Read fd va len) (pipe_at a b (Some fd)) quantum) waits
waiting_is (service.Stat fd va) is a n b quantum waits =
    ap (λ (t : Bool). t || pipe_may_wait a n (service.Stat fd va) (pipe_at a b (Some fd)) quantum) waits
waiting_is _ is a n b quantum waits = absurd (false≢true is)

-- so that it may wait.
pub request_may_wait : (a : AbstractState) (n : ℕ) (b : Born) (call : Service) → brings_page call ≡ true → a.slots n ≡ born b →
    IsAsking a n b call → (stage : Stage) → b.phase ≡ in_service call stage → is_idle a.server ≡ false → (quantum : ℕ) →
    may_wait a n quantum ≡ true
unfolding may_wait
request_may_wait a n b call is at it stage phase not_idle quantum =
    ap (λ (x : AbstractSlot). slot_may_wait a n x quantum) at
    ∙ ap (λ (x : Phase). phase_may_wait a n b x quantum) phase
    ∙ waiting_is call is a n b quantum (waits_for_server a n b call it not_idle)

-- ---- what is asked

-- that what a path leads to is removed
path_asked : (a : AbstractState) (n : ℕ) (b : Born) (k : Slot) (path : ℕ) (v : View) → a.slots n ≡ born b → HasWholePath v k b (service.Remove path) →
    IsAsking a n b (service.Remove path)
unfolding library_step
path_asked a n b k path v at h = record {
  request = act (remove_path (before_first is_nul h.bytes)) None;
  asks = λ server.
      let c : AbstractState = record a { server = server } in
      step_in c n b k (service.Remove path) (gathering h.bytes) at h.is_in
      ∙ path_ends c n b k.registers (service.Remove path) path h.bytes (remove_asked c n b (service.Remove path)) h.ended;
}

-- that the bytes that write has taken, which are all that it takes, are written
writes_file : (a : AbstractState) (n : ℕ) (b : Born) (regs : Regs) (fd va len : ℕ) (f : OpenFile) (name : ℕ) (bytes : List ℕ) →
    object_of a b fd ≡ Some (file f) → object_name b fd ≡ Some name → f.mode ≢ 0 → is_buffer va (wanted_from REQUEST_BYTES len) ≡ true →
    length bytes ≡ wanted_from REQUEST_BYTES len →
    library_step a n b regs (service.Write fd va len) (stage_with bytes)
    ≡ ask a n b (service.Write fd va len) (act (write_file f.way f.offset bytes) (Some name))
unfolding library_step
writes_file a n b regs fd va len f name [] object named mode buffer many =
    let some : (f.mode == 0) ≡ false = grind (arith, nat_tests, mode) in
    let all : nat_lt 0 (wanted_from REQUEST_BYTES len) ≡ false = grind (arith, nat_tests, many) in
    rw (object, some, buffer, all, named) refl
writes_file a n b regs fd va len f name (byte ∷ rest) object named mode buffer many =
    let all : nat_lt (length (byte ∷ rest)) (wanted_from REQUEST_BYTES len) ≡ false = grind (arith, nat_tests, many) in
    rw (object, all, named) refl

module _ {names : Names} {s : KernelState} {a : AbstractState} (h : StandsFor names s a) (n : ℕ) (b : Born) (at : a.slots n ≡ born b)
    (unborne : borne_in (place_of (slot_at s n)) ≡ None) (calm : is_calm (place_of (slot_at s n)) ≡ true) (fd : ℕ) where
  -- the file that the descriptor names
  pub file_named_so : {call : Service} → (it : AsksOfFile (view_of s.spaces (slot_at s n).directory) (slot_at s n) b call fd) →
      NamesFile s a b fd it.of_file.file.entry
  file_named_so it = names_file h n b at unborne (calm_unmade (place_of (slot_at s n)) calm) (seen_calm h n b at calm) fd it.of_file.below it.of_file.file

  seek_asked : (offset : ℕ) → AsksOfFile (view_of s.spaces (slot_at s n).directory) (slot_at s n) b (service.Seek fd offset) fd →
      IsAsking a n b (service.Seek fd offset)
  unfolding library_step
  seek_asked offset it =
      let file_is = file_named_so it in
      let object : object_of a b fd ≡ Some (file file_is.f) =
      ap (option_map a.objects) file_is.named ∙ ap (λ (o : Object). Some o) file_is.is in
      let allowed : offset ≤ OFFSET_MAX = it.allowed in
      let small : nat_lt OFFSET_MAX offset ≡ false = grind (arith, nat_tests, allowed) in
      let named = file_is.named in
      record {
        request = seek file_is.name offset;
        asks = λ server.
            step_in (record a { server = server }) n b (slot_at s n) (service.Seek fd offset) entered at
            (subst (λ (stage : Stage). IsIn (slot_at s n) b (service.Seek fd offset) stage) it.has it.of_file.is_in)
            ∙ rw (object, small, named) refl;
      }

  set_size_asked : (size : ℕ) → AsksOfFile (view_of s.spaces (slot_at s n).directory) (slot_at s n) b (service.SetSize fd size) fd →
      IsAsking a n b (service.SetSize fd size)
  unfolding library_step
  set_size_asked size it =
      let file_is = file_named_so it in
      let object : object_of a b fd ≡ Some (file file_is.f) =
      ap (option_map a.objects) file_is.named ∙ ap (λ (o : Object). Some o) file_is.is in
      let mode : file_is.f.mode ≢ 0 = λ none. it.allowed (file_is.told.mode ∙ none) in
      let some : (file_is.f.mode == 0) ≡ false = grind (arith, nat_tests, mode) in
      record {
        request = act (set_file_size file_is.f.way size) None;
        asks = λ server.
            step_in (record a { server = server }) n b (slot_at s n) (service.SetSize fd size) entered at
            (subst (λ (stage : Stage). IsIn (slot_at s n) b (service.SetSize fd size) stage) it.has it.of_file.is_in)
            ∙ rw (object, some) refl;
      }

  write_asked : (va len : ℕ) → AsksOfFile (view_of s.spaces (slot_at s n).directory) (slot_at s n) b (service.Write fd va len) fd →
      IsAsking a n b (service.Write fd va len)
  write_asked va len it =
      let file_is = file_named_so it in
      let object : object_of a b fd ≡ Some (file file_is.f) =
      ap (option_map a.objects) file_is.named ∙ ap (λ (o : Object). Some o) file_is.is in
      let mode : file_is.f.mode ≢ 0 = λ none. it.allowed (file_is.told.mode ∙ none) in
      record {
        request = act (write_file file_is.f.way file_is.f.offset it.has.bytes) (Some file_is.name);
        asks = λ server.
            step_in (record a { server = server }) n b (slot_at s n) (service.Write fd va len) (stage_with it.has.bytes) at
            (subst (λ (stage : Stage). IsIn (slot_at s n) b (service.Write fd va len) stage) it.has.stage_is it.of_file.is_in)
            ∙ writes_file (record a { server = server }) n b (slot_at s n).registers fd va len file_is.f file_is.name it.has.bytes object file_is.named
            mode it.has.buffer it.has.many;
      }

  read_asked : (va len : ℕ) → AsksOfFile (view_of s.spaces (slot_at s n).directory) (slot_at s n) b (service.Read fd va len) fd →
      IsAsking a n b (service.Read fd va len)
  unfolding library_step
  read_asked va len it =
      let file_is = file_named_so it in
      let named = file_is.named in
      let object : object_of a b fd ≡ Some (file file_is.f) =
      ap (option_map a.objects) named ∙ ap (λ (o : Object). Some o) file_is.is in
      let mode : file_is.f.mode ≢ 1 = λ one. it.allowed.0 (file_is.told.mode ∙ one) in
      let some : (file_is.f.mode == 1) ≡ false = grind (arith, nat_tests, mode) in
      let buffer : is_buffer va (wanted_of len) ≡ true = it.allowed.1 in
      record {
        request = act (read_file file_is.f.way file_is.f.offset (wanted_of len)) (Some file_is.name);
        asks = λ server.
            step_in (record a { server = server }) n b (slot_at s n) (service.Read fd va len) entered at
            (subst (λ (stage : Stage). IsIn (slot_at s n) b (service.Read fd va len) stage) it.has it.of_file.is_in)
            ∙ rw (object, some, buffer) (ap (λ (o : Option ℕ). request_taken (record a { server = server }) n b (service.Read fd va len)
            (act (read_file file_is.f.way file_is.f.offset (wanted_of len)) o) server) named);
      }

  stat_asked : (va : ℕ) → AsksOfFile (view_of s.spaces (slot_at s n).directory) (slot_at s n) b (service.Stat fd va) fd →
      IsAsking a n b (service.Stat fd va)
  unfolding library_step
  stat_asked va it =
      let file_is = file_named_so it in
      let object : object_of a b fd ≡ Some (file file_is.f) =
      ap (option_map a.objects) file_is.named ∙ ap (λ (o : Object). Some o) file_is.is in
      let buffer : is_buffer va STAT_SIZE ≡ true = it.allowed in
      record {
        request = act (stat_file file_is.f.way) None;
        asks = λ server.
            step_in (record a { server = server }) n b (slot_at s n) (service.Stat fd va) entered at
            (subst (λ (stage : Stage). IsIn (slot_at s n) b (service.Stat fd va) stage) it.has it.of_file.is_in)
            ∙ rw (object, buffer) refl;
      }

-- that a file is opened, where a descriptor is free
open_told : {names : Names} {s : KernelState} {a : AbstractState} → StandsFor names s a → (n : ℕ) (b : Born) → a.slots n ≡ born b →
    is_calm (place_of (slot_at s n)) ≡ true → (path mode fd : ℕ) → IsLowestFree (rows_of s.spaces (slot_at s n).directory) fd →
    HasWholePath (view_of s.spaces (slot_at s n).directory) (slot_at s n) b (service.OpenFile path mode) → IsAsking a n b (service.OpenFile path mode)
unfolding library_step
open_told {s = s} {a = a} h n b at calm path mode fd lowest it =
    let call = service.OpenFile path mode in
    let regs = (slot_at s n).registers in
    let free : is_none (lowest_free b) ≡ false = ap is_none (lowest_seen h n b at (seen_calm h n b at calm) fd lowest) in
    record {
      request = act (open_path (before_first is_nul it.bytes) mode) None;
      asks = λ server.
          let c : AbstractState = record a { server = server } in
          step_in c n b (slot_at s n) call (gathering it.bytes) at it.is_in
          ∙ path_ends c n b regs call path it.bytes (open_asked c n b regs call mode) it.ended
          ∙ rw free refl;
    }

-- what its page tells
pub request_told : {names : Names} {s : KernelState} {a : AbstractState} → StandsFor names s a → (n : ℕ) (b : Born) → a.slots n ≡ born b →
    borne_in (place_of (slot_at s n)) ≡ None → is_calm (place_of (slot_at s n)) ≡ true → (call : Service) (fd : ℕ) →
    IsBeside (rows_of s.spaces (slot_at s n).directory) call fd →
    TellsRequest (view_of s.spaces (slot_at s n).directory) (slot_at s n) b call → IsAsking a n b call
request_told {s = s} {a = a} h n b at unborne calm (service.Remove path) fd beside it =
    path_asked a n b (slot_at s n) path (view_of s.spaces (slot_at s n).directory) at it
request_told h n b at unborne calm (service.OpenFile path mode) fd beside it = open_told h n b at calm path mode fd beside it.whole
request_told h n b at unborne calm (service.Seek given offset) fd beside it = seek_asked h n b at unborne calm given offset it.asks
request_told h n b at unborne calm (service.SetSize given size) fd beside it = set_size_asked h n b at unborne calm given size it.asks
request_told h n b at unborne calm (service.Write given va len) fd beside it = write_asked h n b at unborne calm given va len it.asks
request_told h n b at unborne calm (service.Read given va len) fd beside it = read_asked h n b at unborne calm given va len it.asks
request_told h n b at unborne calm (service.Stat given va) fd beside it = stat_asked h n b at unborne calm given va it.asks
request_told h n b at unborne calm _ fd beside it = absurd it
