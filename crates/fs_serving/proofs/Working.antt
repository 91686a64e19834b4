-- The job of an act is under way: its steps are lawful, and where it answers the act is made on the disk.
use Rattle.std.proofs.Common.{◌≡◌, ◌≢◌, ◌∙◌, ◌⊎◌, ◌<◌, ◌≤◌, ◌||◌, ◌++◌, ℕ, Bool, true, false, List, [], ◌∷◌, length, Option, Some, None}
use Rattle.std.proofs.Common.{refl, sym, ap, subst, arith, inl, inr}
use Rattle.std.specs.Prelude.{◌==◌, ◌&&◌, ◌+◌, nat_lt, slice_index, if◌then◌else◌}
use Rattle.std.proofs.lemmas.Bool.{false≢true}
use Rattle.std.proofs.lemmas.Bool.Decides.{Decides-eqb}
use Rattle.jos_base.specs.declared.numbers.TheConstants.{E_FILE_EXISTS, E_INVAL, E_NOT_FOUND, E_NO_DISK}
use Rattle.jos_base.specs.Words.{has_bit, negated, word_at}
use Rattle.fs_layout.specs.declared.numbers.TheConstants.{BLKSIZE, MAXFILESIZE, O_CREAT, O_EXCL, O_TRUNC}
use Rattle.fs_layout.specs.FileTree.{FileAct, needs_indirect, blocks_taken, open_path, read_file, remove_path, set_file_size, stat_file, sync_files}
use Rattle.fs_layout.specs.FileTree.{write_file}
use Rattle.fs_layout.specs.FileActs.{file_named}
use Rattle.fs_layout.specs.DiskFiles.{file_system_of}
use Rattle.fs_layout.specs.DiskImage.{is_directory_at, is_empty_record, size_of, slot_count}
use Rattle.fs_acts.specs.BlockActs.{Change, Led, Planned, a_record, astray, blocks_grown, create_plan, create_plan_at, empty_it, first_slot, fits}
use Rattle.fs_acts.specs.BlockActs.{growth, led_to, make_record, no_record, open_led, open_record, plan_of, planned, planned_if_it_fits, puts_in_turn}
use Rattle.fs_acts.specs.BlockActs.{puts_of, remove_led, resizing, size_plan, too_long, turned_down, written}
use Rattle.fs_jobs.specs.declared.place.Job.TheVariants as job
use Rattle.fs_jobs.specs.declared.place.TreeState.{TreeState}
use Rattle.fs_runs.specs.JobCalls.{find_calls_max, job_steps_max}
use Rattle.fs_runs.specs.TreeRuns.{AreSmall, Ends, HasActed, HasPath, IsOnItsWay, Memory, begun_with, calls_of, found_place}
use Rattle.fs_runs.proofs.JobsWhole.{all_finds_are_looks}
use Rattle.fs_runs.proofs.OpensFound.{opens_lead}
use Rattle.fs_runs.proofs.Ways.{ways_go_on}
use Rattle.lib_os.specs.declared.numbers.TheConstants.{REQUEST_FILE}
use Rattle.lib_os.specs.declared.request.RequestKind.{RequestKind}
use Rattle.lib_os.specs.declared.request.RequestKind.TheVariants as kind
use Rattle.lib_os.specs.AbstractState.{AbstractState, Server, act, busy}
use Rattle.lib_os.specs.FileServer.{is_count, is_file_open}
use Rattle.fs_requests.specs.declared.plan.ServerNext.{ServerNext}
use Rattle.fs_requests.specs.declared.state.ServerStep.{ServerStep}
use Rattle.fs_requests.specs.declared.state.ServerStep.TheVariants as step
use Rattle.fs_requests.specs.ServerPlans as plans
use Rattle.fs_serving.specs.ServerRuns.{AsksFor, Follows, HasFiles, HasPage, IsBusy, IsClosed, IsMoving, IsOpening, IsWorking, OpenAlike, StandsAtStep}
use Rattle.fs_serving.specs.ServerRuns.{TableStands, client_of, memory_worked, opened, opens, reads, reads_at, removes, sizes, stats, syncs}
use Rattle.fs_serving.specs.ServerRuns.{worked, writes}
use Rattle.fs_serving.specs.ServerViews.{Serving, gone_on}
use Rattle.fs_serving.proofs.ActsDone.{acts_are_done}
use Rattle.fs_serving.proofs.Pieces.{ActIsDone, JobFollows}
use Rattle.fs_serving.proofs.SameTables.{table-over}

-- ---- whether a file is open decides on a removal alone

remove-alike : (is_open other : List ℕ → Bool) (byte : ℕ → ℕ) (path : List ℕ) → OpenAlike is_open other byte (remove_path path) →
    (led : Led) → led_to byte path ≡ led → remove_led is_open byte led ≡ remove_led other byte led
remove-alike is_open other byte path alike too_long is = refl
remove-alike is_open other byte path alike astray is = refl
remove-alike is_open other byte path alike (no_record place name) is = refl
remove-alike is_open other byte path alike (a_record place way) is = by (is_directory_at byte place) refl
  where
    removing : Planned
    removing = planned (resizing byte place 0 ++ empty_it place ∷ []) 0

    by : (b : Bool) → is_directory_at byte place ≡ b →
        (if b || is_open way then turned_down E_INVAL else removing) ≡ (if b || other way then turned_down E_INVAL else removing)
    by true directory = refl
    by false regular = ap (λ (b : Bool). if b then turned_down E_INVAL else removing) (alike place way is regular)

plan-alike : (is_open other : List ℕ → Bool) (byte : ℕ → ℕ) (f : FileAct) → OpenAlike is_open other byte f → plan_of is_open byte f ≡ plan_of other byte f
unfolding plan_of
plan-alike is_open other byte (open_path path mode) alike = refl
plan-alike is_open other byte (read_file way at n) alike = refl
plan-alike is_open other byte (write_file way at bytes) alike = refl
plan-alike is_open other byte (set_file_size way size) alike = refl
plan-alike is_open other byte (stat_file way) alike = refl
plan-alike is_open other byte (remove_path path) alike = remove-alike is_open other byte path alike (led_to byte path) refl
plan-alike is_open other byte sync_files alike = refl

pub acted-alike : (is_open other : List ℕ → Bool) (f : FileAct) (before : Memory) (answer : ℕ) (m : Memory) → OpenAlike is_open other before.disk f →
    HasActed is_open f before answer m → HasActed other f before answer m
acted-alike is_open other f before answer m alike done =
    let plan : plan_of is_open before.disk f ≡ plan_of other before.disk f = plan-alike is_open other before.disk f alike in
    record {
      answer_is = subst (λ (p : Planned). answer ≡ p.answer) plan done.answer_is;
      disk = subst (λ (p : Planned). m.disk ≡ written (puts_in_turn p.changes before.disk) before.disk) plan done.disk;
      bytes = subst (λ (p : Planned). (k : ℕ) → k < length p.bytes → m.page k ≡ slice_index p.bytes k) plan done.bytes;
      rest = subst (λ (p : Planned). (k : ℕ) → length p.bytes ≤ k → m.page k ≡ before.page k) plan done.rest;
    }

-- ---- an open hands back no bytes

abbrev Silent : Planned → Type 0
Silent plan = plan.bytes ≡ []

silent-either : (b : Bool) (one other : Planned) → Silent one → Silent other → Silent (if b then one else other)
silent-either true one other first second = first
silent-either false one other first second = second

silent-fits : (byte : ℕ → ℕ) (place blocks answer : ℕ) (changes : List Change) → Silent (planned_if_it_fits byte place blocks answer changes)
silent-fits byte place blocks answer changes =
    silent-either (fits byte place blocks) (planned changes answer) (turned_down E_NO_DISK) refl refl

silent-size : (byte : ℕ → ℕ) (place end : ℕ) → Silent (size_plan byte place end)
unfolding size_plan
silent-size byte place end =
    silent-either (nat_lt MAXFILESIZE end) (turned_down E_NO_DISK)
    (planned_if_it_fits byte place (blocks_taken end (needs_indirect end)) 0 (resizing byte place end)) refl
    (silent-fits byte place (blocks_taken end (needs_indirect end)) 0 (resizing byte place end))

silent-create_at : (byte : ℕ → ℕ) (directory : ℕ) (name : List ℕ) (slot : Option ℕ) → Silent (create_plan_at byte directory name slot)
silent-create_at byte directory name (Some i) = refl
silent-create_at byte directory name None =
    let end = size_of byte directory + BLKSIZE in
    let changes : List Change = growth byte directory end ++ make_record directory (slot_count byte directory) name ∷ [] in
    silent-either (nat_lt MAXFILESIZE end) (turned_down E_NO_DISK)
    (planned_if_it_fits byte directory (blocks_grown byte directory end) 0 changes) refl
    (silent-fits byte directory (blocks_grown byte directory end) 0 changes)

silent-create : (byte : ℕ → ℕ) (directory : ℕ) (name : List ℕ) → Silent (create_plan byte directory name)
unfolding create_plan
silent-create byte directory name = silent-create_at byte directory name (first_slot byte directory (is_empty_record byte))

silent-record : (byte : ℕ → ℕ) (mode place : ℕ) → Silent (open_record byte mode place)
silent-record byte mode place =
    let emptied : Planned = if has_bit mode O_TRUNC then size_plan byte place 0 else planned [] 0 in
    let there : Planned = if is_directory_at byte place then turned_down E_INVAL else emptied in
    silent-either (has_bit mode O_CREAT && has_bit mode O_EXCL) (turned_down E_FILE_EXISTS) there refl
    (silent-either (is_directory_at byte place) (turned_down E_INVAL) emptied refl
    (silent-either (has_bit mode O_TRUNC) (size_plan byte place 0) (planned [] 0) (silent-size byte place 0) refl))

silent-led : (byte : ℕ → ℕ) (mode : ℕ) (led : Led) → Silent (open_led byte mode led)
silent-led byte mode too_long = refl
silent-led byte mode astray = refl
silent-led byte mode (no_record directory name) =
    silent-either (has_bit mode O_CREAT) (create_plan byte directory name) (turned_down E_NOT_FOUND) (silent-create byte directory name) refl
silent-led byte mode (a_record place way) = silent-record byte mode place

silent-open : (is_open : List ℕ → Bool) (byte : ℕ → ℕ) (path : List ℕ) (mode : ℕ) → Silent (plan_of is_open byte (open_path path mode))
unfolding plan_of
silent-open is_open byte path mode = silent-led byte mode (led_to byte path)

-- so the page is as it was, and has the path
path-stays : (is_open : List ℕ → Bool) (path : List ℕ) (mode answer : ℕ) (before m : Memory) → HasActed is_open (open_path path mode) before answer m →
    HasPath before.page path → HasPath m.page path
path-stays is_open path mode answer before m done has =
    record {
      short = has.short;
      bytes = λ k within. same k ∙ has.bytes k within;
      ends = same (length path) ∙ has.ends;
      no_nul = has.no_nul;
    }
  where
    none : (bytes : List ℕ) (k : ℕ) → bytes ≡ [] → length bytes ≤ k
    none bytes k is = subst (λ (l : List ℕ). length l ≤ k) (sym is) (omega arith)

    same : (k : ℕ) → m.page k ≡ before.page k
    same k = done.rest k (none (plan_of is_open before.disk (open_path path mode)).bytes k (silent-open is_open before.disk path mode))

-- ---- where the job answers

-- what the server does with the answer, told by the kind of the request
abbrev By : ℕ → AbstractState → Serving → ServerNext → Type 0
By count a it next = Follows count a next.seen (gone_on (worked it) next (worked it).view)

by-kind : (count : ℕ) (a : AbstractState) (it : Serving) (k : RequestKind) (word : ℕ) → it.state.step ≡ step.Working → it.state.kind ≡ Some k →
    By count a it (plans.worked_by (Some k) it.state word) → By count a it (plans.next_at it.state word)
by-kind count a it k word at kind_is follows =
    subst (λ (s : ServerStep). By count a it (plans.next_for it.state s word)) (sym at)
    (subst (λ (o : Option RequestKind). By count a it (plans.worked_by o it.state word)) (sym kind_is) follows)

path-asked : (a : AbstractState) (page : ℕ → ℕ) (path : List ℕ) (mode : ℕ) (object : Option ℕ) →
    AsksFor a page kind.Open (act (open_path path mode) object) → HasPath page path
path-asked a page path mode object (opens _ _ has mode_is) = has

same-opens : (client : ℕ) (f : FileAct) (object place : Option ℕ) (path : List ℕ) (mode : ℕ) (other : Option ℕ) →
    busy client (act f object) place ≡ busy client (act (open_path path mode) None) other → f ≡ open_path path mode
same-opens client f object place path mode other e =
    let is : ◌≡◌ {A = Server} (busy client (act f object) place) (busy client (act (open_path path mode) None) other) = e in
    let it : ◌≡◌ {A = FileAct} f (open_path path mode) = cc in it

module _ (count : ℕ) (a : AbstractState) (it : Serving) (before : Memory) (files : HasFiles count before a.files)
    (table : TableStands before.disk a it.view) (small : AreSmall (memory_worked it)) where
  -- the act is made, and nothing is left but to tell it
  is-done : (word : ℕ) (k : RequestKind) (f : FileAct) (object place : Option ℕ) → IsBusy a it before place k (act f object) →
      HasActed (is_file_open a) f before word (memory_worked it) → IsClosed (is_file_open a) before.disk f →
      (object ≡ None) ⊎ (is_count word ≡ false) → (k ≡ kind.Open → word ≢ 0) → By count a it (plans.acting it.state word)
  is-done word k f object place is_busy acted closed stays not_opened = record {
    before = before;
    files = files;
    table = table-over before.disk a it.view (memory_worked it) table;
    at = record {
      k = k;
      f = f;
      object = object;
      place = place;
      is_busy = record { server = is_busy.server; kind_is = is_busy.kind_is; asks = is_busy.asks };
      has_acted = acted;
      closed = closed;
      stays = stays;
      not_opened = not_opened;
    };
  }

  -- what is opened is looked up once more
  is-opened : (path : List ℕ) (mode : ℕ) → IsOpening a it before path mode → HasPage it →
      HasActed (is_file_open a) (open_path path mode) before 0 (memory_worked it) → By count a it (plans.begun it.state step.Finding job.Find)
  is-opened path mode opening has_page acted = record {
    before = before;
    files = files;
    table = table-over before.disk a it.view (memory_worked it) table;
    at =
        opened path mode home
        (record {
          opening = record {
            is_busy = record { server = opening.is_busy.server; kind_is = opening.is_busy.kind_is; asks = opening.is_busy.asks };
            below = opening.below;
            nobodys = opening.nobodys;
            used = opening.used;
          };
          has_page = has_page;
          has_acted = acted;
          way = way;
          leads = leads;
          regular = regular;
          named = named;
        })
        (record { left = found.0; soon = found.1; ends = runs.0; few = runs.1 });
  }
    where
      m : Memory
      m = memory_worked it

      has_path : HasPath before.page path
      has_path = path-asked a before.page path mode None opening.is_busy.asks

      lead : let after = written (puts_of (is_file_open a) before.disk (open_path path mode)) before.disk in
          (home : ℕ) × (way : List ℕ) × (led_to after path ≡ a_record home way) × (is_directory_at after home ≡ false)
          × (file_named (file_system_of after) path ≡ Some way)
      lead = opens_lead count (is_file_open a) path mode before.disk files.disk has_path.no_nul (sym acted.answer_is)

      home : ℕ
      home = lead.0

      way : List ℕ
      way = lead.1

      leads : led_to m.disk path ≡ a_record home way
      leads = ap (λ (d : ℕ → ℕ). led_to d path) acted.disk ∙ lead.2

      regular : is_directory_at m.disk home ≡ false
      regular = ap (λ (d : ℕ → ℕ). is_directory_at d home) acted.disk ∙ lead.3

      named : file_named (file_system_of m.disk) path ≡ Some way
      named = ap (λ (d : ℕ → ℕ). file_named (file_system_of d) path) acted.disk ∙ lead.4

      done : ActIsDone count a it.view (open_path path mode) 0 before m
      done = acts_are_done count a it.view (open_path path mode) 0 before m has_path.no_nul files table acted

      found : (n : ℕ) × (n ≤ job_steps_max count)
          × (ends : Ends count (found_place m.disk (led_to m.disk path)) m n (begun_with job.Find) m) × (calls_of None ends ≤ find_calls_max count)
      found =
          all_finds_are_looks count path m (record { disk = done.files.disk; count_is = done.files.count_is; small = small })
          (path-stays (is_file_open a) path mode 0 before m acted has_path)

      home_is : found_place m.disk (led_to m.disk path) ≡ home
      home_is =
          ap (found_place m.disk) leads
          ∙ ap (λ (b : Bool). if b then negated E_INVAL else home) regular

      runs : (ends : Ends count home m found.0 (begun_with job.Find) m) × (calls_of None ends ≤ find_calls_max count)
      runs =
          subst (λ (n : ℕ). (ends : Ends count n m found.0 (begun_with job.Find) m) × (calls_of None ends ≤ find_calls_max count)) home_is
          (found.2, found.3)

  -- bytes were moved, or not
  has-moved : (word : ℕ) (k : RequestKind) (f : FileAct) (name : ℕ) (place : Option ℕ) → IsBusy a it before place k (act f (Some name)) → k ≢ kind.Open →
      HasActed (is_file_open a) f before word (memory_worked it) → IsClosed (is_file_open a) before.disk f → IsMoving k ≡ true →
      it.state.number ≡ word_at before.page REQUEST_FILE → place ≡ None → By count a it (plans.advancing it.state word)
  has-moved word k f name place is_busy other acted closed moves number none = by (is_count word) refl
    where
      by : (b : Bool) → is_count word ≡ b →
          By count a it (if b then plans.hidden (record it.state { count = word }) step.Advancing else plans.acting it.state word)
      by false many = is-done word k f (Some name) place is_busy acted closed (inr many) (λ e. absurd (other e))
      by true many = record {
        before = before;
        files = files;
        table = table-over before.disk a it.view (memory_worked it) table;
        at = record {
          k = k;
          f = f;
          name = name;
          is_busy = record {
            server = subst (λ (o : Option ℕ). a.server ≡ busy (client_of it.state) (act f (Some name)) o) none is_busy.server;
            kind_is = is_busy.kind_is;
            asks = is_busy.asks;
          };
          moves = moves;
          number = number;
          has_acted = acted;
          many = many;
        };
      }

  by-asks : (word : ℕ) (k : RequestKind) (f : FileAct) (object place : Option ℕ) → it.state.kind ≡ Some k →
      a.server ≡ busy (client_of it.state) (act f object) place → AsksFor a before.page k (act f object) →
      HasActed (is_file_open a) f before word (memory_worked it) → IsClosed (is_file_open a) before.disk f →
      (k ≡ kind.Open → (path : List ℕ) × (mode : ℕ) × IsOpening a it before path mode × HasPage it) →
      (IsMoving k ≡ true → it.state.number ≡ word_at before.page REQUEST_FILE) → (IsMoving k ≡ true → place ≡ None) →
      By count a it (plans.worked_by (Some k) it.state word)
  by-asks word _ _ _ place kind_is server (opens path mode has_path mode_is) acted closed opening moving no_place = by (word == 0) refl
    where
      busy_so : IsBusy a it before place kind.Open (act (open_path path mode) None)
      busy_so = record { server = server; kind_is = kind_is; asks = opens path mode has_path mode_is }

      by : (b : Bool) → (word == 0) ≡ b → By count a it (if b then plans.begun it.state step.Finding job.Find else plans.acting it.state word)
      by false other = is-done word kind.Open (open_path path mode) None place busy_so acted tt (inl refl) (λ e zero_. no-zero zero_)
        where
          no-zero : word ≡ 0 → ⊥
          no-zero zero_ = false≢true (sym other ∙ (Decides-eqb word 0).1 zero_)
      by true zero_ =
          let so = opening refl in
          let same : open_path path mode ≡ open_path so.0 so.1 =
          same-opens (client_of it.state) (open_path path mode) None place so.0 so.1 (Some it.state.number) (sym server ∙ so.2.is_busy.server) in
          is-opened so.0 so.1 so.2 so.3
          (subst (λ (f : FileAct). HasActed (is_file_open a) f before 0 (memory_worked it)) same
          (subst (λ (n : ℕ). HasActed (is_file_open a) (open_path path mode) before n (memory_worked it)) ((Decides-eqb word 0).0 zero_) acted))
  by-asks word _ _ _ place kind_is server (removes path has_path) acted closed opening moving no_place =
      is-done word kind.Remove (remove_path path) None place (record { server = server; kind_is = kind_is; asks = removes path has_path }) acted closed (inl refl)
      (λ e. cc)
  by-asks word _ _ _ place kind_is server (reads name f so) acted closed opening moving no_place =
      has-moved word kind.Read _ name place (record { server = server; kind_is = kind_is; asks = reads name f so }) (λ e. cc) acted tt refl (moving refl)
      (no_place refl)
  by-asks word _ _ _ place kind_is server (reads_at name f so near) acted closed opening moving no_place =
      is-done word kind.ReadAt _ None place (record { server = server; kind_is = kind_is; asks = reads_at name f so near }) acted tt (inl refl)
      (λ e. cc)
  by-asks word _ _ _ place kind_is server (writes name f so within) acted closed opening moving no_place =
      has-moved word kind.Write _ name place (record { server = server; kind_is = kind_is; asks = writes name f so within }) (λ e. cc) acted tt refl
      (moving refl) (no_place refl)
  by-asks word _ _ _ place kind_is server (sizes name f so) acted closed opening moving no_place =
      is-done word kind.SetSize _ None place (record { server = server; kind_is = kind_is; asks = sizes name f so }) acted tt (inl refl) (λ e. cc)
  by-asks word _ _ _ place kind_is server (stats name f so) acted closed opening moving no_place =
      is-done word kind.Stat _ None place (record { server = server; kind_is = kind_is; asks = stats name f so }) acted tt (inl refl) (λ e. cc)
  by-asks word _ _ _ place kind_is server syncs acted closed opening moving no_place =
      is-done word kind.Sync _ None place (record { server = server; kind_is = kind_is; asks = syncs }) acted tt (inl refl) (λ e. cc)

-- ---- the step

-- the job goes on
unfoldable pub further : (count : ℕ) (a : AbstractState) (it : Serving) (before : Memory) (is : IsWorking count a it before) (next : TreeState) →
    IsOnItsWay count is.is_open is.f before next (memory_worked it) → IsWorking count a (record (worked it) { job = next }) before
further count a it before is next way = record {
  k = is.k;
  f = is.f;
  object = is.object;
  place = is.place;
  is_busy = record { server = is.is_busy.server; kind_is = is.is_busy.kind_is; asks = is.is_busy.asks };
  is_open = is.is_open;
  alike = is.alike;
  closed = is.closed;
  on_its_way = way;
  opening = λ e. let so = is.opening e in (
    so.0,
    so.1,
    record {
      is_busy = record { server = so.2.is_busy.server; kind_is = so.2.is_busy.kind_is; asks = so.2.is_busy.asks };
      below = so.2.below;
      nobodys = so.2.nobodys;
      used = so.2.used;
    },
    so.3,
  );
  moving = is.moving;
  no_place = is.no_place;
  no_sync = is.no_sync;
}

pub working : JobFollows step.Working
working count a it before at files table is =
    let stays = ways_go_on count is.is_open is.f before it.job it.view.memory is.on_its_way in
    record {
      bounded = stays.0;
      inside = stays.1;
      goes = λ next goes. record {
        before = before;
        files = files;
        table = table-over before.disk a it.view (memory_worked it) table;
        at =
            subst (λ (s : ServerStep). StandsAtStep s count a (record (worked it) { job = next }) before) (sym at)
            (further count a it before is next (stays.2 next goes).0);
      };
      answers = λ word small ends.
          by-kind count a it is.k word at is.is_busy.kind_is
          (by-asks count a it before files table small word is.k is.f is.object is.place is.is_busy.kind_is is.is_busy.server is.is_busy.asks
          (acted-alike is.is_open (is_file_open a) is.f before word (memory_worked it) is.alike (stays.3 word ends)) is.closed is.opening is.moving
          is.no_place);
    }
