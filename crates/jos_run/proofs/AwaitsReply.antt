-- What the steps of a request to the file server leave of spaces: one that has asked begins to wait for the reply, which changes none, and one that
-- asks with a page has its own space still.
use Rattle.std.proofs.Common.{◌≡◌, ◌∙◌, ℕ, ◌%◌, Bool, true, false, [], ◌∷◌, Result, Ok, Err, refl, sym, ap, arith}
use Rattle.std.specs.Prelude.{IfOk, nat_lt, if◌then◌else◌}
use Rattle.std.proofs.lemmas.Bool.{false≢true}
use Rattle.jos_host.specs.declared.host.Failed.{Failed}
use Rattle.jos_base.specs.declared.called.Called.{Called}
use Rattle.jos_base.specs.declared.called.Called.TheVariants.{Answered, Blocked}
use Rattle.jos_base.specs.declared.environment.Status.TheVariants.{NotRunnable}
use Rattle.jos_base.specs.declared.numbers.TheConstants.{E_IPC_NOT_RECV, E_NO_MEM, FIRST_ENV_ID, PGSIZE, UTEMP, UTOP}
use Rattle.jos_base.specs.Environments.{Slot, is_live, no_extra}
use Rattle.jos_base.specs.KernelState.{KernelState, slot_at, with_refusal, with_rendezvous, with_slot_at, with_spaces, with_status}
use Rattle.jos_base.specs.Messages.{wanting}
use Rattle.jos_base.specs.Words.{negated, page_number}
use Rattle.lib_os.specs.declared.numbers.TheConstants.{DESCRIPTORS, FSREQ_OPEN, FSREQ_READ_AT}
use Rattle.lib_os.specs.declared.place.HandlerStep.{HandlerStep}
use Rattle.lib_os.specs.declared.place.Place.TheVariants as place
use Rattle.lib_os.specs.declared.place.Step.{Step}
use Rattle.lib_os.specs.declared.place.Step.TheVariants as step
use Rattle.lib_os.specs.declared.progress.Progress.{Progress}
use Rattle.lib_os.specs.declared.service.Service.{Service}
use Rattle.lib_os.specs.declared.service.Service.TheVariants as service
use Rattle.lib_os.specs.declared.spawn_steps.OpeningStep.TheVariants as opening
use Rattle.lib_os.specs.declared.spawn_steps.ReadStep.TheVariants as read
use Rattle.lib_os.specs.declared.spawn_steps.FilePart.{FilePart}
use Rattle.lib_os.specs.declared.spawn_steps.SpawnStep.TheVariants as spawn
use Rattle.lib_os.specs.AbstractState.{AbstractState, Born, born}
use Rattle.lib_os.specs.LibraryPages.{IsOwnWritable, View}
use Rattle.lib_os.specs.LibrarySteps.{Stands, asking_step}
use Rattle.lib_os.specs.Places.{handler_registers, place_of, words_at}
use Rattle.lib_os.specs.StandsFor.{view_of}
use Rattle.lib_os.specs.Rows.{rows_of}
use Rattle.lib_os.specs.UserCalls.{CallStep, Output, giving}
use Rattle.lib_os.proofs.Calls.{ipc_recv_is, receives_at}
use Rattle.lib_os.proofs.PageAsked.{PageAsksOrWaits, asks, lacks, page_ask_call, page_asked, page_asks_or_waits, request_page, server_told, waits}
use Rattle.lib_os.proofs.RequestPages.{brings_page, told_asking, told_in, word_asked}
use Rattle.lib_os.proofs.Serving.{IsServed, served}
use Rattle.lib_os.proofs.Slots.{slot_kept, slot_put}
use Rattle.lib_os.proofs.SpawnOwnPages.{spawn_there, spawns_at, spawns_own}
use Rattle.lib_os.proofs.SpawnWaits.{asks_unasked}
use Rattle.lib_os.proofs.StatesStand.{born_not_first}
use Rattle.lib_fd.specs.DescriptorStages.{descriptor_va}
use Rattle.lib_request.specs.PageRequests.{reply_asked, reply_asked_at, request_asked}
use Rattle.lib_stage.specs.Asks.{performed}
use Rattle.lib_stage.specs.declared.ask.Ask.{Ask}
use Rattle.lib_stage.specs.declared.ask.Next.{Next}
use Rattle.lib_stage.specs.declared.ask.Next.TheVariants as next
use Rattle.lib_stage.specs.Nexts.{settled}
use Rattle.lib_stage.specs.ServiceSteps.{IsServiceStep, Plan, upshot_by}
use Rattle.jos_run.specs.Plans.{plan_at}
use Rattle.jos_run.proofs.RequestsCalm.{RequestsCalmly, SameHome, SameSpaces, asks_by_page, awaits_reply, none_requests}

-- where spawn waits for its file, a page comes to that of its descriptor, or nowhere
abbrev opened_va : ℕ → ℕ
opened_va fd = if nat_lt fd DESCRIPTORS then descriptor_va fd else UTOP

opened_begins : (fd : ℕ) → opened_va fd % PGSIZE ≡ 0
opened_begins fd = by_test (nat_lt fd DESCRIPTORS)
  where
    by_test : (c : Bool) → (if c then descriptor_va fd else UTOP) % PGSIZE ≡ 0
    by_test true = omega arith
    by_test false = refl

-- what the service does next leaves the space
put_home : (t : KernelState) (n : ℕ) (k : Slot) → k.directory ≡ (slot_at t n).directory →
    (slot_at (with_slot_at t n k) n).directory ≡ (slot_at t n).directory
put_home t n k same = ap (λ (x : Slot). x.directory) (slot_put t n k) ∙ same

settled_home : (number : ℕ) (after : Next) (t : KernelState) (n : ℕ) → (slot_at (settled number after t n) n).directory ≡ (slot_at t n).directory
settled_home number (next.Answer word) t n =
    put_home t n (record (slot_at t n) { registers = record (slot_at t n).registers { eax = word }; extra = no_extra }) refl
settled_home number (next.Answers eax edx ecx ebx) t n =
    put_home t n (record (slot_at t n) { registers = record (slot_at t n).registers { eax = eax; edx = edx; ecx = ecx; ebx = ebx }; extra = no_extra }) refl
settled_home number (next.AnswersEnds reading writing) t n =
    put_home t n (record (slot_at t n) { registers = record (slot_at t n).registers { eax = 0; edx = reading; ecx = writing }; extra = no_extra }) refl
settled_home number (next.GoOn at) t n = put_home t n (record (slot_at t n) { extra = words_at number at }) refl
settled_home number (next.GoBack word) t n =
    put_home t n (record (slot_at t n) { registers = record (slot_at t n).registers { eax = word }; extra = no_extra }) refl
settled_home number (next.Show at) t n = put_home t n (record (slot_at t n) { extra = words_at number at }) refl
settled_home number (next.Wait at) t n = put_home t n (record (slot_at t n) { extra = words_at number at }) refl
settled_home number (next.Handle at) t n =
    put_home t n (record (slot_at t n) { registers = handler_registers (slot_at t n).registers at }) refl
settled_home number next.Leave t n = refl
settled_home number next.Gone t n = refl

settled_spaces : (number : ℕ) (after : Next) (t : KernelState) (n : ℕ) → (settled number after t n).spaces ≡ t.spaces
settled_spaces number (next.Answer word) t n = refl
settled_spaces number (next.Answers eax edx ecx ebx) t n = refl
settled_spaces number (next.AnswersEnds reading writing) t n = refl
settled_spaces number (next.GoOn at) t n = refl
settled_spaces number (next.GoBack word) t n = refl
settled_spaces number (next.Show at) t n = refl
settled_spaces number (next.Wait at) t n = refl
settled_spaces number (next.Handle at) t n = refl
settled_spaces number next.Leave t n = refl
settled_spaces number next.Gone t n = refl

module _ (s : KernelState) (n : ℕ) (live : is_live (slot_at s n) ≡ true) where
  -- ---- it begins to wait, and the page that comes with the reply is put at this address

  abbrev waiting : ℕ → KernelState
  waiting va = with_status (with_rendezvous s n (wanting (slot_at s n).rendezvous va FIRST_ENV_ID)) n NotRunnable

  waiting_home : (va : ℕ) → (slot_at (waiting va) n).directory ≡ (slot_at s n).directory
  waiting_home va =
      let r = wanting (slot_at s n).rendezvous va FIRST_ENV_ID in
      let t = with_rendezvous s n r in
      put_home t n (record (slot_at t n) { status = NotRunnable }) refl ∙ put_home s n (record (slot_at s n) { rendezvous = r }) refl

  module _ (after : KernelState) (output : Output) (done : Progress) where
    waits_by : (plan : Plan) (va : ℕ) → va % PGSIZE ≡ 0 → plan.asks ≡ reply_asked_at va → IsServiceStep (Ok done) s n plan after output →
        SameSpaces n s after
    unfolding performed
    waits_by plan va start asks_it made =
        let is : after ≡ settled plan.number (plan.next Blocked) (waiting va) n =
        made.1 ∙ ap (λ (q : Ask). (upshot_by plan n (performed s n q) (performed s n q).gives).state) asks_it
        ∙ ap (λ (z : CallStep Called). (upshot_by plan n z z.gives).state)
        (ipc_recv_is s n live va FIRST_ENV_ID (0 ∷ 0 ∷ 0 ∷ []) (receives_at va start)) in
        record {
          spaces = ap (λ (t : KernelState). t.spaces) is ∙ settled_spaces plan.number (plan.next Blocked) (waiting va) n;
          home = ap (λ (t : KernelState). (slot_at t n).directory) is ∙ settled_home plan.number (plan.next Blocked) (waiting va) n ∙ waiting_home va;
        }

    -- where no page comes
    waits_alone : (of : Service) (at : Step) → (plan_at of at).asks ≡ reply_asked → IsServiceStep (Ok done) s n (plan_at of at) after output →
        SameSpaces n s after
    waits_alone of at asks_it made = waits_by (plan_at of at) UTOP refl asks_it made

    waits_so : (of : Service) (at : Step) → awaits_reply (place.InService of at) ≡ true → IsServiceStep (Ok done) s n (plan_at of at) after output →
        SameSpaces n s after
    waits_so service.Sync (step.Awaiting id) is made = waits_alone service.Sync (step.Awaiting id) refl made
    waits_so (service.Remove path) (step.Awaiting id) is made = waits_alone (service.Remove path) (step.Awaiting id) refl made
    waits_so (service.OpenFile path mode) (step.OpenAwaiting id fd) is made =
        waits_by (plan_at (service.OpenFile path mode) (step.OpenAwaiting id fd)) (descriptor_va fd) (omega arith) refl made
    waits_so (service.Seek fd offset) (step.Awaiting id) is made = waits_alone (service.Seek fd offset) (step.Awaiting id) refl made
    waits_so (service.SetSize fd size) (step.Awaiting id) is made = waits_alone (service.SetSize fd size) (step.Awaiting id) refl made
    waits_so (service.Write fd va len) (step.Awaiting id) is made = waits_alone (service.Write fd va len) (step.Awaiting id) refl made
    waits_so (service.Read fd va len) (step.Awaiting id) is made = waits_alone (service.Read fd va len) (step.Awaiting id) refl made
    waits_so (service.Stat fd va) (step.Awaiting id) is made = waits_alone (service.Stat fd va) (step.Awaiting id) refl made
    waits_so (service.Spawn path argv) (step.Spawning (spawn.Opening (opening.OpenAwaiting esp fd id))) is made =
        waits_by (plan_at (service.Spawn path argv) (step.Spawning (spawn.Opening (opening.OpenAwaiting esp fd id)))) (opened_va fd) (opened_begins fd) refl made
    waits_so (service.Spawn path argv) (step.Spawning (spawn.Reading wanted (read.Awaiting id))) is made =
        waits_alone (service.Spawn path argv) (step.Spawning (spawn.Reading wanted (read.Awaiting id))) refl made
    waits_so _ _ is made = absurd (false≢true is)

    -- ---- it asks

    asks_with : (a : AbstractState) (h : Stands s a) (b : Born) → a.slots n ≡ born b → (slot_at s n).rendezvous.receiving ≡ false →
        IsOwnWritable (rows_of s.spaces (slot_at s n).directory) (page_number UTEMP) → (asked : ℕ) (plan : Plan) → plan.asks ≡ request_asked asked →
        IsServiceStep (Ok done) s n plan after output → SameHome n s after
    unfolding performed
    asks_with a h b is silent page asked plan asks_it made = by_outcome (page_asks_or_waits h.1 n b is silent page asked)
      where
        came : (t : KernelState) (word : ℕ) → page_ask_call s n asked ≡ giving t (Answered word) → SameHome n s t → SameHome n s after
        came t word call_is same =
            ap (λ (x : KernelState). (slot_at x n).directory)
            (made.1 ∙ ap (λ (q : Ask). (upshot_by plan n (performed s n q) (performed s n q).gives).state) asks_it
            ∙ ap (λ (z : CallStep Called). (upshot_by plan n z z.gives).state) call_is)
            ∙ settled_home plan.number (plan.next (Answered word)) t n ∙ same

        by_outcome : PageAsksOrWaits s a n asked → SameHome n s after
        by_outcome (asks idle_so waited sp comes call_is) =
            came (page_asked s sp n asked) 0 call_is
            (ap (λ (x : Slot). x.directory) (slot_kept (with_spaces s sp) 0 (server_told s n asked) n
            (λ same. born_not_first h.1 n b is (sym same))))
        by_outcome (lacks call_is) = came (with_refusal s) (negated E_NO_MEM) call_is refl
        by_outcome (waits not_idle call_is) = came s (negated E_IPC_NOT_RECV) call_is refl

    asks_by : (a : AbstractState) → Stands s a → (call : Service) → brings_page call ≡ true → (id fd : ℕ) →
        place_of (slot_at s n) ≡ place.InService call (asking_step call id fd) → (plan : Plan) → plan.asks ≡ request_asked (word_asked call) →
        IsServiceStep (Ok done) s n plan after output → SameHome n s after
    asks_by a h call with_page id fd stands plan asks_it made =
        let seen : View = view_of s.spaces (slot_at s n).directory in
        let v : IsServed h.0 s a n call (asking_step call id fd) = served h.1 n call (asking_step call id fd) stands in
        asks_with a h v.b v.is (told_in seen (slot_at s n) v.b call (told_asking seen (slot_at s n) v.b call with_page id fd v.at).2).1.silent
        (request_page id fd call with_page v) (word_asked call) plan asks_it made

    -- spawn asks for its file, or for a part of that
    spawn_asks_file : (a : AbstractState) → Stands s a → (path argv esp fd id : ℕ) →
        place_of (slot_at s n) ≡ spawns_at path argv (spawn.Opening (opening.OpenAsking esp fd id)) →
        IsServiceStep (Ok done) s n (plan_at (service.Spawn path argv) (step.Spawning (spawn.Opening (opening.OpenAsking esp fd id)))) after output →
        SameHome n s after
    spawn_asks_file a h path argv esp fd id stands made =
        let from = spawn.Opening (opening.OpenAsking esp fd id) in
        let v = spawn_there h.1 n path argv from stands in
        asks_with a h v.b v.is v.at.1.ready.has.is_in.silent (spawns_own h.1 n path argv from stands (page_number UTEMP) refl).page FSREQ_OPEN
        (plan_at (service.Spawn path argv) (step.Spawning from)) refl made

    spawn_asks_part : (a : AbstractState) → Stands s a → (path argv id : ℕ) (wanted : FilePart) →
        place_of (slot_at s n) ≡ spawns_at path argv (spawn.Reading wanted (read.Asking id)) →
        IsServiceStep (Ok done) s n (plan_at (service.Spawn path argv) (step.Spawning (spawn.Reading wanted (read.Asking id)))) after output →
        SameHome n s after
    spawn_asks_part a h path argv id wanted stands made =
        let from = spawn.Reading wanted (read.Asking id) in
        let v = spawn_there h.1 n path argv from stands in
        let none = asks_unasked (view_of s.spaces (slot_at s n).directory) (slot_at s n) v.b path argv wanted v.at.1.so.so.asks in
        asks_with a h v.b v.is none.is_in.silent (spawns_own h.1 n path argv from stands (page_number UTEMP) refl).page FSREQ_READ_AT
        (plan_at (service.Spawn path argv) (step.Spawning from)) refl made

    asks_so : (a : AbstractState) → Stands s a → (of : Service) (at : Step) → place_of (slot_at s n) ≡ place.InService of at →
        asks_by_page (place.InService of at) ≡ true → IsServiceStep (Ok done) s n (plan_at of at) after output → SameHome n s after
    asks_so a h (service.Remove path) (step.Asking id) stands is made =
        asks_by a h (service.Remove path) refl id 0 stands (plan_at (service.Remove path) (step.Asking id)) refl made
    asks_so a h (service.OpenFile path mode) (step.OpenAsking id fd) stands is made =
        asks_by a h (service.OpenFile path mode) refl id fd stands (plan_at (service.OpenFile path mode) (step.OpenAsking id fd)) refl made
    asks_so a h (service.Seek fd offset) (step.Asking id) stands is made =
        asks_by a h (service.Seek fd offset) refl id 0 stands (plan_at (service.Seek fd offset) (step.Asking id)) refl made
    asks_so a h (service.SetSize fd size) (step.Asking id) stands is made =
        asks_by a h (service.SetSize fd size) refl id 0 stands (plan_at (service.SetSize fd size) (step.Asking id)) refl made
    asks_so a h (service.Write fd va len) (step.Asking id) stands is made =
        asks_by a h (service.Write fd va len) refl id 0 stands (plan_at (service.Write fd va len) (step.Asking id)) refl made
    asks_so a h (service.Read fd va len) (step.Asking id) stands is made =
        asks_by a h (service.Read fd va len) refl id 0 stands (plan_at (service.Read fd va len) (step.Asking id)) refl made
    asks_so a h (service.Stat fd va) (step.Asking id) stands is made =
        asks_by a h (service.Stat fd va) refl id 0 stands (plan_at (service.Stat fd va) (step.Asking id)) refl made
    asks_so a h (service.Spawn path argv) (step.Spawning (spawn.Opening (opening.OpenAsking esp fd id))) stands is made =
        spawn_asks_file a h path argv esp fd id stands made
    asks_so a h (service.Spawn path argv) (step.Spawning (spawn.Reading wanted (read.Asking id))) stands is made =
        spawn_asks_part a h path argv id wanted stands made
    asks_so a h _ _ stands is made = absurd (false≢true is)

    service_requests : (of : Service) (at : Step) → place_of (slot_at s n) ≡ place.InService of at →
        IsServiceStep (Ok done) s n (plan_at of at) after output → RequestsCalmly n s after
    service_requests of at stands made = record {
      waits = λ is. waits_so of at (ap awaits_reply (sym stands) ∙ is) made;
      asks = λ a h is. asks_so a h of at stands (ap asks_by_page (sym stands) ∙ is) made;
    }

  pub service_calm : (after : KernelState) (output : Output) (of : Service) (at : Step) → place_of (slot_at s n) ≡ place.InService of at →
      (did : Result Progress Failed) → IsServiceStep did s n (plan_at of at) after output → IfOk did (λ done. RequestsCalmly n s after)
  service_calm after output of at stands (Ok done) made = service_requests after output done of at stands made
  service_calm after output of at stands (Err failed) made = tt

-- and neither where its handler of page faults goes on
pub handler_calm : (s after : KernelState) (n : ℕ) (at : HandlerStep) → place_of (slot_at s n) ≡ place.InHandler at → (did : Result Progress Failed) →
    IfOk did (λ done. RequestsCalmly n s after)
handler_calm s after n at stands (Ok done) = none_requests s after n (place.InHandler at) stands refl refl
handler_calm s after n at stands (Err failed) = tt
