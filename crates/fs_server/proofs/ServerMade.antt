-- A step of the server is one call of those that it makes, behind which it sets its registers and words.
use Rattle.std.proofs.Common.{◌≡◌, ◌≢◌, ◌∙◌, ◌+◌, ◌*◌, ◌%◌, ◌<◌, ◌==◌, ◌&&◌, ◌⊎◌, inl, inr, ℕ, suc, Bool, true, false, List, [], ◌∷◌, length, drop}
use Rattle.std.proofs.Common.{Option, Some, None, Result, Ok, Err, OnOk, refl, ap, subst, arith, length-drop, if◌then◌else◌}
use Rattle.std.specs.Prelude.{get_or}
use Rattle.jos_host.specs.declared.host.Failed.{Failed}
use Rattle.jos_host.specs.Files.{Files}
use Rattle.jos_host.specs.Frames.{Around, from_to}
use Rattle.jos_base.specs.declared.numbers.TheConstants.{PGSIZE, UTOP}
use Rattle.jos_base.specs.declared.registers.Regs.{Regs}
use Rattle.jos_base.specs.KernelState.{KernelState, slot_at}
use Rattle.lib_os.specs.declared.numbers.TheConstants.{DEVICE_FILE, FD_DEVICE, FD_FILE, FD_MODE, FD_OFFSET, FD_SIZE, MAXOPEN}
use Rattle.lib_os.specs.declared.progress.Progress.{Progress}
use Rattle.lib_os.specs.declared.request.RequestKind.{RequestKind}
use Rattle.lib_os.specs.declared.request.RequestKind.TheVariants as kind
use Rattle.lib_os.specs.declared.user_os.Stop.{Stop}
use Rattle.lib_os.specs.declared.user_os.Stop.TheVariants as stop
use Rattle.lib_os.specs.Disk.{DiskFile}
use Rattle.lib_os.specs.LibrarySteps.{IsStopped}
use Rattle.lib_os.specs.MadeCalls.{IsMade, IsServersCall, MakesServersCall, SetsWords, UserCall, asks_id, calls, faulted, gave, loads, receives, sends}
use Rattle.lib_os.specs.MadeCalls.{sends_place, stores, takes_place, unmaps_request, yields}
use Rattle.lib_os.specs.UserCalls.{Output}
use Rattle.lib_os.proofs.CallsMade.{in_place, in_records, then_set}
use Rattle.fs_cache.specs.CacheSteps.{caller, flush_state}
use Rattle.fs_cache.proofs.GoneMade.{gone_makes}
use Rattle.fs_cache.proofs.StepMade.{by_end, by_upcall}
use Rattle.fs_jobs.specs.declared.place.Job.{Job}
use Rattle.fs_places.proofs.WordsLeft.{eflags_stay, esp_stays, first_is, twelve_stay}
use Rattle.fs_runs.specs.TreeRuns.{begun_with}
use Rattle.fs_requests.specs.declared.plan.ServerAsk.{ServerAsk}
use Rattle.fs_requests.specs.declared.plan.ServerAsk.TheVariants as ask
use Rattle.fs_requests.specs.declared.plan.ServerCall.{ServerCall}
use Rattle.fs_requests.specs.declared.plan.ServerCall.TheVariants as call
use Rattle.fs_requests.specs.declared.plan.ServerNext.{ServerNext}
use Rattle.fs_requests.specs.declared.state.ServerState.{ServerState}
use Rattle.fs_requests.specs.declared.state.ServerStep.{ServerStep}
use Rattle.fs_requests.specs.declared.state.ServerStep.TheVariants as step
use Rattle.fs_requests.specs.ServerPlans.{ask_at, ask_for, next_at, open_page, open_perm, opens, place_va, replying}
use Rattle.fs_requests.specs.ServerWords.{registers_with, words_with}
use Rattle.fs_server.specs.ServerSteps.{HasCalled, HasFlushed, IsCalled, IsFlushed, IsReply, by_word, ends, goes, gone_on, registers_begun}
use Rattle.fs_server.specs.ServerSteps.{was_stopped, words_begun}

-- ---- which call it is

abbrev call_of : ServerCall → UserCall
call_of (call.Load va) = loads va
call_of (call.Store va word) = stores va word
call_of (call.System number args) = calls number args

abbrev IsServersAsk : ServerAsk → Type 0
IsServersAsk (ask.Call it) = IsServersCall (call_of it)
IsServersAsk _ = Unit {0}

within : (number : ℕ) → number % MAXOPEN < MAXOPEN
within number = omega arith

-- a store to the page of a place
placed : (number at word : ℕ) → at < PGSIZE → at % 4 ≡ 0 → IsServersCall (stores (open_page number + at) word)
placed number at word small aligned = (omega (arith, aligned), in_place (number % MAXOPEN) at (within number) small)

replies : (state : ServerState) (t : Bool) → IsServersCall (call_of (replying state (if t then (open_page state.number, open_perm) else (UTOP, 0))))
replies state true = sends_place state.client state.count (state.number % MAXOPEN) (within state.number)
replies state false = sends state.client state.count

-- wherever the place of the next byte stands
offset_placed : (asked : Option RequestKind) (number : ℕ) → IsServersCall (loads (place_va asked number))
offset_placed None number = omega arith
offset_placed (Some kind.Open) number = omega arith
offset_placed (Some kind.SetSize) number = omega arith
offset_placed (Some kind.Read) number = omega arith
offset_placed (Some kind.Write) number = omega arith
offset_placed (Some kind.Stat) number = omega arith
offset_placed (Some kind.Remove) number = omega arith
offset_placed (Some kind.Sync) number = omega arith
offset_placed (Some kind.Seek) number = omega arith
offset_placed (Some kind.ReadAt) number = refl

servers : (state : ServerState) (at : ServerStep) → IsServersAsk (ask_for state at)
servers state step.Releasing = unmaps_request
servers state step.Receiving = receives
servers state step.ReadingKind = refl
servers state step.ReadingClient = refl
servers state step.ReadingFile = refl
servers state step.ReadingOffset = offset_placed state.kind state.number
servers state step.ReadingCount = refl
servers state step.ReadingRecord = omega arith
servers state step.LookingRecord = omega arith
servers state step.LookingEntry = omega arith
servers state step.LookingHolders = omega arith
servers state step.TakingPage = takes_place (state.number % MAXOPEN) (within state.number)
servers state step.ReadingMode = refl
servers state step.Working = tt
servers state step.Finding = tt
servers state step.StoringRecord = (omega arith, in_records (4 * (state.number % MAXOPEN)) (omega arith))
servers state step.StoringDevice = placed state.number FD_DEVICE DEVICE_FILE (omega arith) refl
servers state step.ReadingModeAgain = refl
servers state step.StoringMode = placed state.number FD_MODE (state.count % 4) (omega arith) refl
servers state step.StoringFile = placed state.number FD_FILE state.number (omega arith) refl
servers state step.ReadingRecordAgain = omega arith
servers state step.Sizing = tt
servers state step.StoringSize = placed state.number FD_SIZE state.count (omega arith) refl
servers state step.Advancing = omega arith
servers state step.StoringOffset = placed state.number FD_OFFSET state.at (omega arith) refl
servers state step.CheckingRecord = omega arith
servers state step.CheckingEntry = omega arith
servers state step.CheckingHolders = omega arith
servers state step.Flushing = tt
servers state step.Acting = asks_id
servers state step.Replying = replies state (opens state.kind && (state.count == 0))
servers state step.Pausing = yields

pub asks_own : (state : ServerState) (it : ServerCall) → ask_at state ≡ ask.Call it → IsServersCall (call_of it)
asks_own state it is = subst (λ (x : ServerAsk). IsServersAsk x) is (servers state state.step)

-- ---- the words behind it

esp_begun : (begins : Option Job) (regs : Regs) → (registers_begun begins regs).esp ≡ regs.esp
esp_begun None regs = refl
esp_begun (Some job) regs = esp_stays regs (begun_with job)

eflags_begun : (begins : Option Job) (regs : Regs) → (registers_begun begins regs).eflags ≡ regs.eflags
eflags_begun None regs = refl
eflags_begun (Some job) regs = eflags_stay regs (begun_with job)

twelve_put : (words : List ℕ) (state : ServerState) → length words ≡ 12 → length (words_with words state) ≡ 12
unfolding words_with
twelve_put [] state twelve = absurd (omega (arith, twelve))
twelve_put (w ∷ rest) state twelve =
    let behind : length (drop 4 (w ∷ rest)) ≡ 8 = length-drop 4 (w ∷ rest) ∙ omega (arith, twelve) in
    ap (λ (k : ℕ). suc (suc (suc (suc k)))) behind

first_put : (words : List ℕ) (state : ServerState) → length words ≡ 12 → get_or (words_with words state) 0 0 ≡ get_or words 0 0
unfolding words_with
first_put [] state twelve = absurd (omega (arith, twelve))
first_put (w ∷ rest) state twelve = refl

twelve_begun : (begins : Option Job) (words : List ℕ) → length words ≡ 12 → length (words_begun begins words) ≡ 12
twelve_begun None words twelve = twelve
twelve_begun (Some job) words twelve = twelve_stay words (begun_with job) twelve

first_begun : (begins : Option Job) (words : List ℕ) (first : ℕ) → get_or words 0 0 ≡ first →
    (get_or (words_begun begins words) 0 0 ≡ first) ⊎ (get_or (words_begun begins words) 0 0 ≡ 0)
first_begun None words first is = inl is
first_begun (Some job) words first is = inr (first_is words (begun_with job))

pub server_sets : (mid after : KernelState) (n : ℕ) (next : ServerNext) → after ≡ gone_on mid n next → SetsWords mid after n
unfolding gone_on
server_sets mid after n next is =
    let slot = slot_at mid n in
    record {
      registers = registers_begun next.begins (registers_with slot.registers next.state);
      words = words_begun next.begins (words_with slot.extra next.state);
      set = is;
      esp = esp_begun next.begins (registers_with slot.registers next.state);
      eflags = eflags_begun next.begins (registers_with slot.registers next.state);
      long = λ twelve. twelve_begun next.begins (words_with slot.extra next.state) (twelve_put slot.extra next.state twelve);
      first = λ twelve. first_begun next.begins (words_with slot.extra next.state) (get_or slot.extra 0 0) (first_put slot.extra next.state twelve);
    }

-- ---- a step

module _ (s after : KernelState) (n : ℕ) (disk : DiskFile) (files : Around (Option Files)) (output : Output) (state : ServerState) where
  abbrev One : Type 0
  One = MakesServersCall (from_to s after) n disk files output

  module _ (same : files.after ≡ files.before) where
    replied : (it : ServerCall) (word : ℕ) (mid : KernelState) → IsReply it s n (Ok word) mid output → IsMade (call_of it) s n disk files mid output
    replied (call.Load va) word mid reply = (gave word reply, same)
    replied (call.Store va value) word mid reply = (gave tt reply.1, same)
    replied (call.System number args) word mid reply = (reply.0, reply.2, same)

    halted : (it : ServerCall) (why : Stop) → why ≢ stop.Failed → IsReply it s n (Err why) after output → IsMade (call_of it) s n disk files after output
    halted (call.Load va) why other reply = (faulted why other reply, same)
    halted (call.Store va value) why other reply = (faulted why other reply, same)
    halted (call.System number args) why other reply = absurd reply

    not_failed : (why : Stop) (done : Progress) → IsStopped why (Ok done) → why ≢ stop.Failed
    not_failed stop.Failed done is = absurd is
    not_failed stop.Upcall done is = by_upcall
    not_failed stop.Ended done is = by_end

    called : (it : ServerCall) (done : Progress) → IsServersCall (call_of it) → HasCalled it state s after n output done → One
    called it done own (by_word word mid reply is) = record {
      call = call_of it;
      own = own;
      makes = record { mid = mid; made = replied it word mid reply; left = inr (server_sets mid after n (next_at state word) is) };
    }
    called it done own (was_stopped why end reply is) = record {
      call = call_of it;
      own = own;
      makes = record { mid = after; made = halted it why (not_failed why end is) reply; left = inl refl };
    }

    pub call_makes : (it : ServerCall) (result : Result Progress Failed) → ask_at state ≡ ask.Call it → IsCalled it state result n (from_to s after) output →
        OnOk result One
    call_makes it (Ok done) is it_is = called it done (asks_own state it is) it_is
    call_makes it (Err failed) is it_is = tt

  flushed : (done : Progress) → HasFlushed state disk s after n files output done → One
  flushed done (goes flushes) =
      let made = flushes.made in gone_makes (flush_state s n) (caller s n disk) files made.0 after output made.2
  flushed done (ends mid flushes is) =
      let made = flushes.made in
      then_set s mid after n disk files output (gone_makes (flush_state s n) (caller s n disk) files made.0 mid output made.2)
      (server_sets mid after n (next_at state 0) is)

  pub flush_makes : (result : Result Progress Failed) → IsFlushed state result disk n (from_to s after) files output → OnOk result One
  flush_makes (Ok done) is = flushed done is
  flush_makes (Err failed) is = tt
