-- The steps of the file server behind the turns of a run: where it acts the abstract system is busy with a request, what it does there prints
-- nothing, and each of its steps leads on.
use Rattle.std.proofs.Common.{◌≡◌, ◌≢◌, ◌∙◌, ℕ, zero, suc, ◌+◌, ◌-◌, ◌^◌, ◌<◌, ◌≤◌, ◌==◌, ◌&&◌, Bool, true, false, List, [], ◌∷◌, ◌++◌, length, min, Ok, Err}
use Rattle.std.proofs.Common.{Option, Some, None, Result, inl, inr, refl, sym, ap, subst, arith, if◌then◌else◌, take, append_assoc}
use Rattle.std.specs.Prelude.{nat_le, nat_lt, not}
use Rattle.std.specs.Option.{ForSome}
use Rattle.std.proofs.lemmas.Bool.Decides.{nat_tests}
use Rattle.std.proofs.lemmas.Bool.{cases_lt, false≢true}
use Rattle.std.proofs.lemmas.List.{append-nil, append_cancel_left, length-append}
use Rattle.std.proofs.lemmas.Option.{same_Some}
use Rattle.jos_host.specs.declared.host.Failed.{Failed}
use Rattle.jos_host.specs.Files.{Files}
use Rattle.jos_host.specs.Frames.{Around, from_to}
use Rattle.jos_host.specs.Gains.{Gains}
use Rattle.jos_base.specs.declared.numbers.TheConstants.{E_MAX_OPEN}
use Rattle.jos_base.specs.KernelState.{KernelState, slot_at}
use Rattle.jos_base.specs.SpacesState.{reserved_frames}
use Rattle.jos_base.specs.Words.{negated, upd}
use Rattle.jos_kernel.specs.declared.report.Refusal.{Refusal}
use Rattle.jos_kernel.specs.Books.{noted}
use Rattle.jos_kernel.specs.Reports.{CutOff, Reported}
use Rattle.jos_kernel.proofs.ToldBytes.{gains_none, gains_more}
use Rattle.fs_layout.specs.FileActs.{Acted, file_act, file_named}
use Rattle.fs_layout.specs.FileTree.{FileAct, open_path, read_file, remove_path, set_file_size, stat_file, sync_files, write_file}
use Rattle.lib_os.specs.declared.numbers.TheConstants.{MAXOPEN}
use Rattle.lib_os.specs.declared.progress.Progress.{Progress}
use Rattle.lib_os.specs.declared.progress.Progress.TheVariants as progress
use Rattle.lib_os.specs.AbstractState.{AbstractState, Object, Request, Server, act, acted, busy, file, idle, leaving, looking, read_end}
use Rattle.lib_os.specs.AbstractState.{seek, terminal, write_end}
use Rattle.lib_os.specs.Disk.{Disk, DiskFile}
use Rattle.lib_os.specs.FileServer.{act_done, after_act, file_opened, is_count, is_file_open, is_held_by, looked, low_mode, moved_on, offset_in}
use Rattle.lib_os.specs.FileServer.{served, server_step, with_offset, with_offset_of}
use Rattle.lib_os.specs.LibrarySteps.{LeavesRest, NothingRefused}
use Rattle.lib_os.specs.Need.{need}
use Rattle.lib_os.specs.UserCalls.{Output}
use Rattle.lib_os.proofs.NeedReached.{need_is_reached}
use Rattle.lib_os.proofs.ServerReplies.{served_is}
use Rattle.fs_serving.specs.ServerRuns.{is_acting, is_serving}
use Rattle.fs_seen.specs.ServerSoon.{SERVER_STEPS_MAX}
use Rattle.fs_seen.proofs.ActsSoon.{servers_act_within}
use Rattle.jos_run.specs.AbstractTurns.{steps_taken}
use Rattle.jos_run.specs.declared.closing.Closing.{Closing}
use Rattle.jos_run.specs.Closing.{ClosesBy, ClosesRequest, ClosesRun, FailsBy, HasClosedBy, HasClosedSo, HasFailedClosing, HasGoneOn, HasLacked}
use Rattle.jos_run.specs.Closing.{ActsSooner, ActsWithinOver, IsCutClosing, IsOver, SoonerOver, StandsQuietly}
use Rattle.jos_run.specs.RunReports.{LacksSpace}
use Rattle.jos_run.specs.RunSteps.{ClosingStep, CloseTo, IsClosing, IsWrittenBack, acts_in, closing_written}
use Rattle.jos_run.specs.Served.{Parts, kernel_state}
use Rattle.jos_run.specs.ServerStands.{IsWholeStep, KeepsWhole, MayStep, ServerLeaves, StandsWhole, WholeFollows, WholeGoesOn, WholeStays, step_of}
use Rattle.jos_run.specs.Steps.{is_awake, is_servers}
use Rattle.jos_run.specs.Worlds.{World, beside, told_disk}
use Rattle.jos_run.proofs.FilesStand.{acting_stands}
use Rattle.jos_run.proofs.TurnsTaken.{no_steps, one_more_step}
use Rattle.jos_run.proofs.WholeStands.{first_serves}

-- ---- what the abstract server prints

-- It prints nothing while it looks for a place,
looked_console : (a : AbstractState) (client : ℕ) (request : Request) (k : ℕ) → (looked a client request k).console ≡ a.console
looked_console a client request k = by_tests (not (is_held_by a (a.opened k).held_by)) (nat_lt (k + 1) MAXOPEN)
  where
    by_tests : (t u : Bool) → (if t
        then record a { opened = upd a.opened k (record { held_by = None; used = true }); server = busy client request (Some k) }
        else if u then record a { server = looking client request (k + 1) }
        else record a { server = acted client (negated E_MAX_OPEN) [] None }).console ≡ a.console
    by_tests true u = refl
    by_tests false true = refl
    by_tests false false = refl

offset_console : (a : AbstractState) (name offset : ℕ) (o : Object) → (with_offset_of a name offset o).console ≡ a.console
offset_console a name offset (file f) = refl
offset_console a name offset terminal = refl
offset_console a name offset (read_end pipe) = refl
offset_console a name offset (write_end pipe) = refl

moved_console : (a : AbstractState) (object : Option ℕ) (answer : ℕ) → (moved_on a object answer).console ≡ a.console
moved_console a None answer = refl
moved_console a (Some name) answer = by_test (is_count answer)
  where
    by_test : (t : Bool) → (if t then with_offset a name (offset_in (a.objects name) + answer) else a).console ≡ a.console
    by_test true = offset_console a name (offset_in (a.objects name) + answer) (a.objects name)
    by_test false = refl

opened_console : (a : AbstractState) (client answer : ℕ) (place : Option ℕ) (way : Option (List ℕ)) (mode : ℕ) →
    (file_opened a client answer place way mode).console ≡ a.console
opened_console a client answer place None mode = refl
opened_console a client answer None (Some way) mode = refl
opened_console a client answer (Some k) (Some way) mode = refl

-- nor while it makes an act
act_console : (a : AbstractState) (client : ℕ) (f : FileAct) (object place : Option ℕ) (did : Acted) →
    (after_act a client f object place did).console ≡ a.console
act_console a client (open_path path mode) object place did = by_test (did.answer == 0)
  where
    by_test : (t : Bool) → (if t
        then file_opened (record a { files = did.files }) client 0 place (file_named did.files path) (low_mode mode)
        else record a { files = did.files; server = acted client did.answer [] None }).console ≡ a.console
    by_test true = opened_console (record a { files = did.files }) client 0 place (file_named did.files path) (low_mode mode)
    by_test false = refl
act_console a client (read_file way offset len) object place did =
    moved_console (record a { files = did.files; server = acted client did.answer did.bytes None }) object did.answer
act_console a client (write_file way offset bytes) object place did =
    moved_console (record a { files = did.files; server = acted client did.answer did.bytes None }) object did.answer
act_console a client (set_file_size way size) object place did =
    moved_console (record a { files = did.files; server = acted client did.answer did.bytes None }) object did.answer
act_console a client (stat_file way) object place did =
    moved_console (record a { files = did.files; server = acted client did.answer did.bytes None }) object did.answer
act_console a client (remove_path path) object place did =
    moved_console (record a { files = did.files; server = acted client did.answer did.bytes None }) object did.answer
act_console a client sync_files object place did =
    moved_console (record a { files = did.files; server = acted client did.answer did.bytes None }) object did.answer

done_console : (a : AbstractState) (client : ℕ) (request : Request) (place : Option ℕ) → (act_done a client request place).console ≡ a.console
done_console a client (act f object) place = act_console a client f object place (file_act (is_file_open a) a.files f)
done_console a client (seek name offset) place = offset_console (record a { server = acted client 0 [] None }) name offset (a.objects name)

served_console : (a b : AbstractState) (server : Server) → is_acting server ≡ true → served a server ≡ Some b → b.console ≡ a.console
served_console a b leaving acts step = absurd (let contradiction : false ≡ true = acts in cc)
served_console a b idle acts step = absurd (let contradiction : false ≡ true = acts in cc)
served_console a b (looking client request k) acts step =
    ap (λ (x : AbstractState). x.console) (sym (same_Some (looked a client request k) b step)) ∙ looked_console a client request k
served_console a b (busy client request place) acts step =
    ap (λ (x : AbstractState). x.console) (sym (same_Some (act_done a client request place) b step)) ∙ done_console a client request place
served_console a b (acted client answer bytes object) acts step = absurd (let contradiction : false ≡ true = acts in cc)

-- ---- where it acts

acts_parts : (t u v : Bool) → (t && u && v) ≡ true → (t ≡ true) × (u ≡ true) × (v ≡ true)
acts_parts true true v is = (refl, refl, is)
acts_parts true false v is = absurd (false≢true is)
acts_parts false u v is = absurd (false≢true is)

pub acts_server : (s : KernelState) → acts_in s ≡ true → is_servers s 0 ≡ true
acts_server s acts = (acts_parts (is_servers s 0) (is_awake (slot_at s 0).status) (is_serving (step_of (slot_at s 0))) acts).0

pub acts_awake : (s : KernelState) → acts_in s ≡ true → is_awake (slot_at s 0).status ≡ true
acts_awake s acts = (acts_parts (is_servers s 0) (is_awake (slot_at s 0).status) (is_serving (step_of (slot_at s 0))) acts).1

pub acts_serving : (s : KernelState) → acts_in s ≡ true → is_serving (step_of (slot_at s 0)) ≡ true
acts_serving s acts = (acts_parts (is_servers s 0) (is_awake (slot_at s 0).status) (is_serving (step_of (slot_at s 0))) acts).2

pub acting_of : (disk : Option Disk) (s : KernelState) (a : AbstractState) → StandsWhole (beside s disk) a → acts_in s ≡ is_acting a.server
acting_of None s a h = absurd h.1
acting_of (Some d) s a h = acting_stands d s a h

nothing_more : (xs ys : List ℕ) → xs ≡ xs ++ ys → ys ≡ []
nothing_more xs ys same = append_cancel_left xs ys [] (sym same ∙ sym (append-nil xs))

-- ---- how soon

-- where it acts it makes its act within a number of its steps, which is small
begins_soon : (o : Option Disk) (s : KernelState) (a : AbstractState) → StandsWhole (beside s o) a → is_acting a.server ≡ true →
    ActsWithinOver o SERVER_STEPS_MAX s a
begins_soon None s a h acts = absurd h.1
begins_soon (Some d) s a h acts =
    servers_act_within a d s h.1.serving (λ is. let contradiction : false ≡ true = sym (ap is_acting is) ∙ acts in cc)

no_more : (n : ℕ) → n + 0 ≤ n
no_more n = omega arith

one_fewer : (fewer left count most : ℕ) → fewer < left → left + count ≤ most → fewer + (count + 1) ≤ most
one_fewer fewer left count most less within = omega (arith, less, within)

-- what its step comes to
step_is : (a b : AbstractState) → server_step a ≡ Some b → served a a.server ≡ Some b
unfolding server_step
step_is a b is = is

-- behind the turns the file server goes on alone
first_may : (s : KernelState) → MayStep s 0
first_may s other = absurd (other refl)

-- ---- one step

module _ (frames : ℕ) (begun : AbstractState) (count : ℕ) (w after : World) (done : Progress) (written : List ℕ) (h : HasGoneOn frames begun count w)
    (acts : acts_in w.state ≡ true) (keeps : KeepsWhole done 0 w after written) (rest : LeavesRest w.state after.state)
    (leaves : ServerLeaves w.disk done w.state after.state) (sooner : ActsSooner (Ok done) w after) where
  busy_now : is_acting h.now.server ≡ true
  busy_now = sym (acting_of w.disk w.state h.now h.stood.stands) ∙ acts

  busy_first : is_acting begun.server ≡ true
  busy_first = elim (cases_lt 0 count) [
    | inl some ↦ h.some some
    | inr past ↦
        let none : 0 ≡ h.visible = (let within : h.visible ≤ count = h.within in omega (arith, past, within)) in
        let same : h.now ≡ begun = same_Some h.now begun (sym h.taken ∙ (λ i. steps_taken begun 0 (sym none i)) ∙ no_steps begun 0) in
        ap (λ (x : AbstractState). is_acting x.server) (sym same) ∙ busy_now
  ]

  busy_further : (k : ℕ) → k < h.visible + 1 → ForSome (steps_taken begun 0 k) (λ c. is_acting c.server ≡ true)
  busy_further k within c at = elim (cases_lt k h.visible) [
    | inl below ↦ h.acting k below c at
    | inr past ↦
        let last : k ≡ h.visible = omega (arith, within, past) in
        let same : c ≡ h.now = same_Some c h.now (sym at ∙ (λ i. steps_taken begun 0 (last i)) ∙ h.taken) in
        ap (λ (x : AbstractState). is_acting x.server) same ∙ busy_now
  ]

  stood_after : after.state.refusals ≡ w.state.refusals → (b : AbstractState) → StandsWhole after b → StandsQuietly frames after b
  stood_after same b stands = record {
    stands = stands;
    quiet = same ∙ h.stood.quiet;
    frames_are = rest.frames ∙ h.stood.frames_are;
    used = leaves.uses h.stood.stands.0.1.in_order (first_serves h.stood.stands.0.1).lives h.stood.used;
  }

  abbrev FurtherSo : Type 0
  FurtherSo = (written ≡ []) × HasGoneOn frames begun (count + 1) after

  -- how many may come
  abbrev left_now : ℕ
  left_now = (h.soon busy_now).0

  stays_so : after.state.refusals ≡ w.state.refusals → WholeStays after h.now written → SoonerOver left_now progress.Hidden after h.now → FurtherSo
  stays_so same stays soon = (
    stays.0,
    record {
      visible = h.visible;
      now = h.now;
      taken = h.taken;
      acting = h.acting;
      within = (let within : h.visible ≤ count = h.within in omega (arith, within));
      some = λ some. busy_first;
      console = h.console;
      stood = stood_after same h.now stays.1;
      soon = λ acts. (soon.0, one_fewer soon.0 left_now count SERVER_STEPS_MAX soon.1 (h.soon busy_now).1, soon.2);
    },
  )

  goes_so : after.state.refusals ≡ w.state.refusals → WholeGoesOn 0 after h.now written → SoonerOver left_now progress.Visible after h.now → FurtherSo
  goes_so same goes soon =
      let step : served h.now h.now.server ≡ Some goes.0 = sym (served_is h.stood.stands.0.1 h.now.server refl) ∙ goes.1 in
      let there : soon.0 ≡ goes.0 = same_Some soon.0 goes.0 (sym (step_is h.now soon.0 soon.1) ∙ step) in
      let console = served_console h.now goes.0 h.now.server busy_now step in (
        nothing_more h.now.console written (sym console ∙ goes.2),
        record {
          visible = h.visible + 1;
          now = goes.0;
          taken = one_more_step begun h.now goes.0 0 h.visible h.taken goes.1;
          acting = busy_further;
          within = (let within : h.visible ≤ count = h.within in omega (arith, within));
          some = λ some. busy_first;
          console = console ∙ h.console;
          stood = stood_after same goes.0 goes.3;
          soon = λ acts. (
            soon.2,
            one_fewer soon.2 left_now count SERVER_STEPS_MAX soon.3 (h.soon busy_now).1,
            subst (λ (b : AbstractState). ActsWithinOver after.disk soon.2 after.state b) there soon.4,
          );
        },
      )

  gone_further : after.state.refusals ≡ w.state.refusals → FurtherSo
  gone_further same =
      by_done done (keeps h.now h.stood.stands (first_may w.state) none_refused) (sooner acts h.now h.stood.stands none_refused left_now (h.soon busy_now).2)
    where
      none_refused : NothingRefused w.state after.state
      none_refused = record { stays = same; could = (let none : w.state.refusals ≡ 0 = h.stood.quiet in omega (arith, none)) }

      by_done : (x : Progress) → WholeFollows x 0 after h.now written → SoonerOver left_now x after h.now → FurtherSo
      by_done progress.Hidden stays soon = stays_so same stays soon
      by_done progress.Waited stays soon = absurd soon
      by_done progress.Visible goes soon = goes_so same goes soon
      by_done progress.Finished goes soon = absurd soon
      by_done progress.Ended goes soon = absurd soon

  -- It was refused something: no more than one frame was free, or no slot.
  lacks_space : (after.state.refusals == w.state.refusals) ≡ false → (c : Bool) → nat_le 2 (length w.state.spaces.free) ≡ c → (slots : List ℕ) →
      w.state.environments.free_slots ≡ slots → LacksSpace frames h.now
  lacks_space rose false is slots are =
      inl (subst (λ (x : ℕ). x - reserved_frames x ≤ need h.now) h.stood.frames_are
      (need_is_reached h.stood.stands.0.0 w.state h.now h.stood.stands.0.1 h.stood.used (grind (arith, nat_tests))))
  lacks_space rose true is [] are = inr (sym h.stood.stands.0.1.free_slots.same ∙ are)
  lacks_space rose true is (slot ∷ more) are =
      let two : 2 ≤ length w.state.spaces.free = grind (arith, nat_tests) in
      let some : w.state.environments.free_slots ≢ [] =
      λ none. let contradiction : ◌≡◌ {A = List ℕ} [] (slot ∷ more) = sym none ∙ are in absurd cc in
      let still : after.state.refusals ≡ w.state.refusals = rest.refused two some in
      let test : (after.state.refusals == w.state.refusals) ≡ true = grind (arith, nat_tests) in
      absurd (let contradiction : true ≡ false = sym test ∙ rose in cc)

  has_lacked : (after.state.refusals == w.state.refusals) ≡ false → HasLacked frames begun
  has_lacked rose = record {
    visible = h.visible;
    now = h.now;
    taken = h.taken;
    acting = λ k within. busy_further k (omega (arith, within));
    console = h.console;
    needed = lacks_space rose (nat_le 2 (length w.state.spaces.free)) refl w.state.environments.free_slots refl;
  }

-- ---- one behind the other

no_closing : (w : World) → CloseTo [] w w
unfolding CloseTo
no_closing w = refl

closing_further : (steps : List ClosingStep) (u v : World) (last : ClosingStep) → CloseTo steps u v → IsClosing v last →
    CloseTo (steps ++ last ∷ []) u last.left
unfolding CloseTo
closing_further [] u v last same h = (subst (λ (x : World). IsClosing x last) (sym same) h, refl)
closing_further (step ∷ rest) u v last h k = (h.0, closing_further rest step.left v last h.1 k)

none_written : closing_written [] ≡ []
unfolding closing_written
none_written = refl

written_further : (steps : List ClosingStep) (last : ClosingStep) → closing_written (steps ++ last ∷ []) ≡ closing_written steps ++ last.written
unfolding closing_written
written_further [] last = append-nil last.written
written_further (step ∷ rest) last =
    ap (λ (l : List ℕ). step.written ++ l) (written_further rest last) ∙ sym (append_assoc step.written (closing_written rest) last.written)

-- none was made yet
pub closed_none : (turn : ℕ) (first : Option Refusal) (p q : Parts) (disk : Option Disk) (console : Option (List ℕ)) →
    kernel_state q ≡ kernel_state p → q.written ≡ p.written →
    HasClosedSo 0 turn first first (from_to p q) (from_to disk disk) (from_to console console)
closed_none turn first p q disk console state written = record {
  printed = [];
  gains = gains_none console;
  steps_made = [];
  long = refl;
  close = subst (λ (s : KernelState). CloseTo [] (beside (kernel_state p) disk) (beside s disk)) (sym state) (no_closing (beside (kernel_state p) disk));
  printed_are = sym none_written;
  kept = λ refusal is. is;
  refused = λ some. subst (λ (s : KernelState). 0 < s.refusals) (sym state) some;
  runs = λ frames begun none stood.
      subst (λ (o : Option Refusal). ClosesBy o frames turn (from_to p.written q.written) begun 0 (beside (kernel_state q) disk) []) (sym none) (
        refl,
        written,
        record {
          visible = 0;
          now = begun;
          taken = no_steps begun 0;
          acting = λ k below. absurd (omega (arith, below));
          within = omega arith;
          some = λ some. absurd (omega (arith, some));
          console = refl;
          stood = subst (λ (s : KernelState). StandsQuietly frames (beside s disk) begun) (sym state) stood;
          soon = λ acts. (
            SERVER_STEPS_MAX,
            no_more SERVER_STEPS_MAX,
            begins_soon disk (kernel_state q) begun (subst (λ (s : KernelState). StandsWhole (beside s disk) begun) (sym state) stood.stands) acts,
          );
        },
      );
}

module _ (count turn : ℕ) (first mid : Option Refusal) (p q r : Parts) (d e f : Option Disk) (a b c : Option (List ℕ))
    (h : HasClosedSo count turn first mid (from_to p q) (from_to d e) (from_to a b)) where
  abbrev v : World
  v = beside (kernel_state q) e

  abbrev w : World
  w = beside (kernel_state r) f

  abbrev out : Output
  out = record { console = from_to b c; count = from_to q.written r.written }

  module _ (acts : acts_in (kernel_state q) ≡ true) (done : Progress) (step : IsWholeStep (Ok done) 0 v w out)
      (rest : LeavesRest (kernel_state q) (kernel_state r)) (leaves : ServerLeaves e done (kernel_state q) (kernel_state r))
      (sooner : ActsSooner (Ok done) v w) (small : q.written < 2 ^ 64) where
    abbrev rose : Bool
    rose = not ((kernel_state r).refusals == (kernel_state q).refusals)

    abbrev behind : Option Refusal
    behind = noted mid rose turn q.written

    abbrev FurtherBy : ℕ → AbstractState → Option Refusal → Type 0
    FurtherBy frames begun o =
        ClosesBy o frames turn (from_to p.written r.written) begun (count + 1) w (h.printed ++ step.0)

    -- nothing was refused before
    by_rose : (frames : ℕ) (begun : AbstractState) (t : Bool) → ((kernel_state r).refusals == (kernel_state q).refusals) ≡ t → h.printed ≡ [] →
        q.written ≡ p.written → HasGoneOn frames begun count v → FurtherBy frames begun (noted None (not t) turn q.written)
    by_rose frames begun true test none counted gone =
        let same : (kernel_state r).refusals ≡ (kernel_state q).refusals = grind (arith, nat_tests) in
        let further = gone_further frames begun count v w done step.0 gone acts step.2 rest leaves sooner same in
        let now : r.written ≡ q.written =
        step.1.counted ∙ ap (λ (l : List ℕ). min (q.written + length l) (2 ^ 64 - 1)) further.0 ∙ omega (arith, small) in (
          (λ i. none i ++ further.0 i),
          now ∙ counted,
          further.1,
        )
    by_rose frames begun false test none counted gone =
        let stood : (kernel_state q).refusals ≡ 0 = gone.stood.quiet in (
          grind (arith, nat_tests),
          record {
            is = ap (λ (n : ℕ). record { turn = turn; console_len = n }) counted;
            lacked = has_lacked frames begun count v w done step.0 gone acts step.2 rest leaves sooner test;
          },
        )

    by_mid : (frames : ℕ) (begun : AbstractState) (o : Option Refusal) →
        ClosesBy o frames turn (from_to p.written q.written) begun count v h.printed → FurtherBy frames begun (noted o rose turn q.written)
    by_mid frames begun None k = by_rose frames begun ((kernel_state r).refusals == (kernel_state q).refusals) refl k.0 k.1 k.2
    by_mid frames begun (Some refusal) k = (rest.told k.0, k.1)

    -- with one more
    pub closed_further : HasClosedSo (count + 1) turn first behind (from_to p r) (from_to d f) (from_to a c)
    closed_further =
        let last : ClosingStep = record { progress = done; written = step.0; left = w } in
        record {
          printed = h.printed ++ step.0;
          gains = gains_more a b c h.printed step.0 h.gains step.1.gains;
          steps_made = h.steps_made ++ last ∷ [];
          long = length-append h.steps_made (last ∷ []) ∙ ap (λ (n : ℕ). n + 1) h.long;
          close = closing_further h.steps_made (beside (kernel_state p) d) v last h.close
              (record { acts = acts; keeps = step.2; rest = rest; leaves = leaves });
          printed_are = ap (λ (l : List ℕ). l ++ step.0) h.printed_are ∙ sym (written_further h.steps_made last);
          kept = λ refusal is. ap (λ (o : Option Refusal). noted o rose turn q.written) (h.kept refusal is);
          refused = λ some. rest.told (h.refused some);
          runs = λ frames begun none stood. by_mid frames begun mid (h.runs frames begun none stood);
        }

  -- the host failed in the next
  pub closing_failed : (failed : Failed) → IsWholeStep (Err failed) 0 v w out →
      HasFailedClosing turn first mid (from_to p r) (from_to d f) (from_to a c)
  closing_failed failed step = record {
    printed = h.printed ++ take step.1.0 step.0;
    gains = gains_more a b c h.printed (take step.1.0 step.0) h.gains step.1.2;
    kept = h.kept;
    runs = λ frames begun none stood. by_mid_failed frames begun mid (h.runs frames begun none stood);
  }
    where
      take_none : (many : ℕ) → take {A = ℕ} many [] ≡ []
      take_none zero = refl
      take_none (suc many) = refl

      by_mid_failed : (frames : ℕ) (begun : AbstractState) (o : Option Refusal) →
          ClosesBy o frames turn (from_to p.written q.written) begun count v h.printed →
          FailsBy o frames turn p.written begun (h.printed ++ take step.1.0 step.0)
      by_mid_failed frames begun None k =
          let nothing : step.0 ≡ [] = step.2 k.2.now k.2.stood.stands (first_may v.state) in
          (λ i. k.0 i ++ take step.1.0 (nothing i)) ∙ take_none step.1.0
      by_mid_failed frames begun (Some refusal) k = k.1

  -- or behind them, when nothing more was printed
  pub failed_behind : Gains (from_to b c) [] → HasFailedClosing turn first mid (from_to p r) (from_to d f) (from_to a c)
  failed_behind nothing = record {
    printed = h.printed;
    gains = subst (λ (l : List ℕ). Gains (from_to a c) l) (append-nil h.printed) (gains_more a b c h.printed [] h.gains nothing);
    kept = h.kept;
    runs = λ frames begun none stood. by_mid_behind frames begun mid (h.runs frames begun none stood);
  }
    where
      by_mid_behind : (frames : ℕ) (begun : AbstractState) (o : Option Refusal) →
          ClosesBy o frames turn (from_to p.written q.written) begun count v h.printed → FailsBy o frames turn p.written begun h.printed
      by_mid_behind frames begun None k = k.0
      by_mid_behind frames begun (Some refusal) k = k.1

-- ---- all of it

-- nothing more was printed
closed_quietly : {count turn : ℕ} {first mid : Option Refusal} {served : Around Parts} {disks : Around (Option Disk)} {a b c : Option (List ℕ)} →
    HasClosedSo count turn first mid served disks (from_to a b) → Gains (from_to b c) [] → HasClosedSo count turn first mid served disks (from_to a c)
closed_quietly {a = a} {b = b} {c = c} h nothing = record {
  printed = h.printed;
  gains = subst (λ (l : List ℕ). Gains (from_to a c) l) (append-nil h.printed) (gains_more a b c h.printed [] h.gains nothing);
  steps_made = h.steps_made;
  long = h.long;
  close = h.close;
  printed_are = h.printed_are;
  kept = h.kept;
  refused = h.refused;
  runs = h.runs;
}

-- What was closed so, by what is told of the run before: `view` is the report by its parts.
module _ (turn : ℕ) (report view : Reported) (closing : Closing) (p q r : Parts) (files told later : Option Files) (a b c : Option (List ℕ))
    (view_is : view ≡ report) (turn_is : turn ≡ length view.turns) (x : Unit {0}) (ok : closing.outcome ≡ Ok x)
    (closes : ClosesRequest turn view.first_refused closing (from_to p q) (from_to (told_disk files p.disk) (told_disk told q.disk)) (from_to a b))
    (nothing : Gains (from_to b c) []) where
  abbrev disks_so : Around (Option Disk)
  disks_so = from_to (told_disk files p.disk) (told_disk later p.disk)

  has_closed : HasClosedSo closing.steps (length view.turns) view.first_refused closing.first_refused (from_to p q)
      (from_to (told_disk files p.disk) (told_disk told q.disk)) (from_to a b)
      × IsOver closing.steps (kernel_state q)
  has_closed =
      subst (λ (n : ℕ). HasClosedBy (Ok x) closing.steps n view.first_refused closing.first_refused (from_to p q)
      (from_to (told_disk files p.disk) (told_disk told q.disk)) (from_to a b)) turn_is
      (subst (λ (o : Result (Unit {0}) Failed). HasClosedBy o closing.steps turn view.first_refused closing.first_refused (from_to p q)
      (from_to (told_disk files p.disk) (told_disk told q.disk)) (from_to a b)) ok closes.0)

  pub run_closed : (closed : Reported) (counted : ℕ) → counted ≡ min closing.steps (2 ^ 32 - 1) → q.disk ≡ p.disk → r.disk ≡ q.disk →
      IsWrittenBack (beside (kernel_state q) (told_disk told q.disk)) (beside (kernel_state r) (told_disk later r.disk)) →
      closed ≡ record view {
        closing = counted;
        refused = (kernel_state q).refusals;
        first_refused = closing.first_refused;
        upcalls = (kernel_state q).upcalls;
      } →
      (last : KernelState) × ClosesRun report closed p disks_so (from_to a c) (beside last (told_disk later p.disk))
  run_closed closed counted counted_is disk_q disk_r back closed_is =
      let last = beside (kernel_state r) (told_disk later p.disk) in (
        kernel_state r,
        subst (λ (y : Reported). ClosesRun y closed p disks_so (from_to a c) last) view_is
            (subst (λ (y : Reported). ClosesRun view y p disks_so (from_to a c) last) (sym closed_is) (record {
              count = closing.steps;
              behind = q;
              disk = told_disk told q.disk;
              closing = closed_quietly has_closed.0 nothing;
              over = has_closed.1;
              most = closes.1;
              counted = counted_is;
              written_back = subst (λ (d : DiskFile). IsWrittenBack (beside (kernel_state q) (told_disk told q.disk))
                  (beside (kernel_state r) (told_disk later d))) (disk_r ∙ disk_q) back;
              told = refl;
            })),
      )

  -- or the host failed while blocks were written
  pub run_cut : (cut : CutOff) → cut.turns ≡ view.turns → cut.first_refused ≡ closing.first_refused →
      IsCutClosing report cut p disks_so (from_to a c)
  run_cut cut turns first =
      subst (λ (y : Reported). IsCutClosing y cut p disks_so (from_to a c)) view_is (record {
        turns = turns;
        failed = subst (λ (o : Option Refusal). HasFailedClosing (length view.turns) view.first_refused o (from_to p p) disks_so (from_to a c)) (sym first)
            (failed_behind closing.steps (length view.turns) view.first_refused closing.first_refused p q p (told_disk files p.disk)
            (told_disk told q.disk) (told_disk later p.disk) a b c has_closed.0 nothing);
      })
