-- The act is made, and the server's next step shows it: that is the abstract server's.
use Rattle.std.proofs.Common.{◌≡◌, ◌≢◌, ◌∙◌, ◌⊎◌, ◌<◌, ◌+◌, ℕ, Bool, true, false, List, [], length, Option, Some, None}
use Rattle.std.proofs.Common.{refl, sym, ap, subst, arith, inl, inr}
use Rattle.std.specs.Prelude.{◌==◌, slice_index, if◌then◌else◌}
use Rattle.std.proofs.lemmas.Bool.Decides.{Decides-eqb}
use Rattle.fs_layout.specs.FileTree.{FileAct, open_path, read_file, remove_path, set_file_size, stat_file, sync_files, write_file}
use Rattle.fs_layout.specs.FileActs.{Acted, file_act, file_named}
use Rattle.fs_acts.specs.BlockActs.{plan_of, puts_in_turn, written}
use Rattle.fs_acts.specs.BlockLaws.{HasString}
use Rattle.fs_runs.specs.TreeRuns.{HasActed, Memory}
use Rattle.lib_os.specs.declared.request.RequestKind.{RequestKind}
use Rattle.lib_os.specs.declared.request.RequestKind.TheVariants as kind
use Rattle.lib_os.specs.AbstractState.{AbstractState, Request, act, acted, busy}
use Rattle.lib_os.specs.FileServer.{act_done, after_act, file_opened, is_count, is_file_open, low_mode, moved_on, offset_in, served, server_step}
use Rattle.lib_os.specs.FileServer.{with_offset}
use Rattle.fs_requests.specs.declared.state.ServerStep.TheVariants as step
use Rattle.fs_requests.specs.ServerPlans.{next_for}
use Rattle.fs_serving.specs.ServerRuns.{AsksFor, Follows, HasFiles, IsDone, TableStands, client_of, opens, reads, reads_at}
use Rattle.fs_serving.specs.ServerRuns.{removes, sizes, stats, syncs, writes}
use Rattle.fs_serving.specs.ServerViews.{Serving, View, gone_on}
use Rattle.fs_serving.proofs.ActsDone.{acts_are_done}
use Rattle.fs_serving.proofs.Pieces.{ActIsDone, FlushFollows, StepFollows}
use Rattle.fs_serving.proofs.SameTables.{table-behind}

-- ---- what is asked

pub asked-string : (a : AbstractState) (page : ℕ → ℕ) (k : RequestKind) (f : FileAct) (object : Option ℕ) → AsksFor a page k (act f object) → HasString f
asked-string a page _ _ _ (opens path mode has mode_is) = has.no_nul
asked-string a page _ _ _ (removes path has) = tt
asked-string a page _ _ _ (reads name f so) = tt
asked-string a page _ _ _ (reads_at name f so near) = tt
asked-string a page _ _ _ (writes name f so within) = tt
asked-string a page _ _ _ (sizes name f so) = tt
asked-string a page _ _ _ (stats name f so) = tt
asked-string a page _ _ _ syncs = tt

asked-open : (a : AbstractState) (page : ℕ → ℕ) (k : RequestKind) (path : List ℕ) (mode : ℕ) (object : Option ℕ) →
    AsksFor a page k (act (open_path path mode) object) → k ≡ kind.Open
asked-open a page _ path mode object (opens _ _ has mode_is) = refl

-- ---- behind the act

-- what is handed back; an open that is refused hands back nothing
abbrev bytes_by : FileAct → Acted → List ℕ
bytes_by (open_path path mode) did = []
bytes_by _ did = did.bytes

-- no offset moves, and nothing is opened
abbrev behind : AbstractState → ℕ → FileAct → Acted → AbstractState
behind a client f did = record a { files = did.files; server = acted client did.answer (bytes_by f did) None }

stays-as : (a : AbstractState) (object : Option ℕ) (answer : ℕ) → (object ≡ None) ⊎ (is_count answer ≡ false) → moved_on a object answer ≡ a
stays-as a None answer stays = refl
stays-as a (Some name) answer (inl none) = absurd (let is : ◌≡◌ {A = Option ℕ} (Some name) None = none in cc)
stays-as a (Some name) answer (inr many) =
    ap (λ (b : Bool). if b then with_offset a name (offset_in (a.objects name) + answer) else a) many

refused-open : (a : AbstractState) (client : ℕ) (path : List ℕ) (mode : ℕ) (object place : Option ℕ) (did : Acted) → did.answer ≢ 0 →
    after_act a client (open_path path mode) object place did ≡ behind a client (open_path path mode) did
refused-open a client path mode object place did other =
    ap
    (λ (b : Bool). if b then file_opened (record a { files = did.files }) client 0 place (file_named did.files path) (low_mode mode)
    else record a { files = did.files; server = acted client did.answer [] None })
    no-zero
  where
    no-zero : (did.answer == 0) ≡ false
    no-zero = by (did.answer == 0) refl
      where
        by : (b : Bool) → (did.answer == 0) ≡ b → b ≡ false
        by false e = refl
        by true e = absurd (other ((Decides-eqb did.answer 0).0 e))

acts-so : (a : AbstractState) (client : ℕ) (f : FileAct) (object place : Option ℕ) (did : Acted) →
    (object ≡ None) ⊎ (is_count did.answer ≡ false) → ((path : List ℕ) (mode : ℕ) → f ≡ open_path path mode → did.answer ≢ 0) →
    after_act a client f object place did ≡ behind a client f did
acts-so a client (open_path path mode) object place did stays opened = refused-open a client path mode object place did (opened path mode refl)
acts-so a client (read_file way at n) object place did stays opened = stays-as (behind a client (read_file way at n) did) object did.answer stays
acts-so a client (write_file way at bytes) object place did stays opened = stays-as (behind a client (write_file way at bytes) did) object did.answer stays
acts-so a client (set_file_size way size) object place did stays opened = stays-as (behind a client (set_file_size way size) did) object did.answer stays
acts-so a client (stat_file way) object place did stays opened = stays-as (behind a client (stat_file way) did) object did.answer stays
acts-so a client (remove_path path) object place did stays opened = stays-as (behind a client (remove_path path) did) object did.answer stays
acts-so a client sync_files object place did stays opened = stays-as (behind a client sync_files did) object did.answer stays

steps : (a : AbstractState) (client : ℕ) (request : Request) (place : Option ℕ) → a.server ≡ busy client request place →
    server_step a ≡ Some (act_done a client request place)
unfolding server_step
steps a client request place server = ap (served a) server

handed : (m : Memory) (f : FileAct) (did : Acted) → ((k : ℕ) → k < length did.bytes → m.page k ≡ slice_index did.bytes k) →
    (k : ℕ) → k < length (bytes_by f did) → m.page k ≡ slice_index (bytes_by f did) k
handed m (open_path path mode) did each k within = absurd (omega (arith, within))
handed m (read_file way at n) did each k within = each k within
handed m (write_file way at bytes) did each k within = each k within
handed m (set_file_size way size) did each k within = each k within
handed m (stat_file way) did each k within = each k within
handed m (remove_path path) did each k within = each k within
handed m sync_files did each k within = each k within

-- ---- the step

module _ (count : ℕ) (a : AbstractState) (it : Serving) (before : Memory) (files : HasFiles count before a.files)
    (table : TableStands before.disk a it.view) (is : IsDone a it before) (word : ℕ) where
  abbrev did : Acted
  did = file_act (is_file_open a) a.files is.f

  done : ActIsDone count a it.view is.f it.state.count before it.view.memory
  done =
      acts_are_done count a it.view is.f it.state.count before it.view.memory
      (asked-string a before.page is.k is.f is.object is.is_busy.asks) files table is.has_acted

  not-opened : (path : List ℕ) (mode : ℕ) → is.f ≡ open_path path mode → did.answer ≢ 0
  not-opened path mode e zero_ =
      is.not_opened
      (asked-open a before.page is.k path mode is.object
      (subst (λ (f : FileAct). AsksFor a before.page is.k (act f is.object)) e is.is_busy.asks))
      (sym done.answer_is ∙ zero_)

  abbrev b : AbstractState
  b = behind a (client_of it.state) is.f did

  makes : server_step a ≡ Some b
  makes =
      steps a (client_of it.state) (act is.f is.object) is.place is.is_busy.server
      ∙ ap {B = Option AbstractState} Some
      (acts-so a (client_of it.state) is.f is.object is.place did
      (subst (λ (n : ℕ). (is.object ≡ None) ⊎ (is_count n ≡ false)) (sym done.answer_is) is.stays)
      not-opened)

  same-kind : (k : RequestKind) → it.state.kind ≡ Some kind.Open → it.state.kind ≡ Some k → k ≡ kind.Open
  same-kind k one other =
      let e : ◌≡◌ {A = Option RequestKind} (Some k) (Some kind.Open) = sym other ∙ one in let so : ◌≡◌ {A = RequestKind} k kind.Open = cc in so

  shows : Follows count a (next_for it.state step.Acting word).seen (gone_on it (next_for it.state step.Acting word) it.view)
  shows = (
    b,
    makes,
    record {
      before = it.view.memory;
      files = done.files;
      table = table-behind it.view.memory.disk a it.view did.files (acted (client_of it.state) did.answer (bytes_by is.f did) None) done.table;
      at = record {
        bytes = bytes_by is.f did;
        object = None;
        server = ap (λ (n : ℕ). acted (client_of it.state) n (bytes_by is.f did) None) done.answer_is;
        memory = refl;
        handed = handed it.view.memory is.f did done.bytes;
        has_object = λ e. is.not_opened (same-kind is.k e is.is_busy.kind_is);
      };
    },
  )

pub acting : StepFollows step.Acting
acting count a it before small files table is word v reply seen =
    subst (λ (w : View). Follows count a (next_for it.state step.Acting word).seen (gone_on it (next_for it.state step.Acting word) w)) (sym seen)
    (shows count a it before files table is word)

-- ---- the flush

-- a sync stores nothing of its own
syncs-so : (is_open : List ℕ → Bool) (before m : Memory) → m ≡ before → HasActed is_open sync_files before 0 m
unfolding plan_of puts_in_turn written
syncs-so is_open before m same = record {
  answer_is = refl;
  disk = ap (λ (x : Memory). x.disk) same;
  bytes = λ k within. absurd (omega (arith, within));
  rest = λ k past. ap (λ (x : Memory). x.page k) same;
}

pub flushing : FlushFollows
flushing count a it before files table (is_busy, memory) = record {
  before = before;
  files = files;
  table = table;
  at = record {
    k = kind.Sync;
    f = sync_files;
    object = None;
    place = None;
    is_busy = record { server = is_busy.server; kind_is = is_busy.kind_is; asks = is_busy.asks };
    has_acted = syncs-so (is_file_open a) before it.view.memory memory;
    closed = tt;
    stays = inl refl;
    not_opened = λ e. cc;
  };
}
