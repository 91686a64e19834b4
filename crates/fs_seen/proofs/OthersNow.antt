-- Where another's step leaves the bytes of the server's pages, and the abstract state keeps what the server has, the server serves on: so it is where
-- files are given up, and where nothing that the server has is other.
use Rattle.std.proofs.Common.{◌≡◌, ◌∙◌, ℕ, Bool, true, false, List, Option, Some, None, length, refl, sym, ap, subst}
use Rattle.std.specs.Prelude.{is_some, nat_le}
use Rattle.jos_base.specs.Environments.{Slot, is_live}
use Rattle.jos_base.specs.KernelState.{KernelState, slot_at}
use Rattle.jos_base.specs.Reach.{Entry}
use Rattle.jos_base.specs.SpacesState.{Region, reference_count}
use Rattle.fs_layout.specs.FileTree.{FileSystem}
use Rattle.lib_os.specs.AbstractState.{AbstractState, Object, Server, TablePlace, acted, busy, idle, leaving, looking}
use Rattle.lib_os.specs.Disk.{Disk}
use Rattle.lib_os.specs.FileServer.{is_held_by}
use Rattle.lib_os.specs.InOrder.{IsInOrder}
use Rattle.fs_blocks.specs.CachePlaces.{state_in as cache_at_words}
use Rattle.fs_cache.proofs.Loads.{number_of, row_below}
use Rattle.fs_cache.specs.CacheSteps.{row_in}
use Rattle.fs_places.specs.TreePlaces as places
use Rattle.fs_requests.specs.ServerWords.{server_in}
use Rattle.fs_serving.specs.ServerRuns.{HasFiles, StandsServing, TableStands, over}
use Rattle.fs_serving.specs.ServerViews.{Serving, View}
use Rattle.fs_server.specs.ServerSteps.{server_at}
use Rattle.fs_tree.specs.TreeSteps.{memory_in}
use Rattle.fs_seen.specs.ServerMemory.{HasRequested, IsRequestPage, StandsOver, entry_of, request_page, serving_in, view_in}
use Rattle.fs_seen.specs.ServerOthers.{ClientsServe, LeavesBytes}
use Rattle.fs_seen.specs.ServerWhole.{IsIdle, IsServing, LeavesPages, OthersServe, SameServed, ServesBy, ServesOn, keeps_request}
use Rattle.fs_seen.proofs.Between.{files_over, same_state, sees_mapped, sees_paged}
use Rattle.fs_seen.proofs.Changes.{block_entry, block_server, request_server, table_no_request, table_server}
use Rattle.fs_seen.proofs.ForOthers.{KeepsServed, StaysFree, at_as, mapping}
use Rattle.fs_seen.proofs.Repaged.{repaged}
use Rattle.fs_seen.proofs.Rests.{rests_same}
use Rattle.fs_seen.proofs.SeenAlike.{sees_as}
use Rattle.fs_seen.proofs.ServesFor.{requested_stays}
use Rattle.fs_seen.proofs.StaysSo.{Stays, block_no_request, disk_same, same_frames, same_holders, same_table, stands_so}
use Rattle.fs_seen.proofs.TablesAlike.{table_again}
use Rattle.fs_seen.proofs.TablesLeft.{keeps_files, keeps_places, seen_tells, table_left, table_serving}

-- ---- its pages

module _ (d : Disk) (s after : KernelState) (h : StandsOver d s 0) (in_order : IsInOrder after) (server : Server)
    (left : LeavesBytes server s after 0) where
  row_left : (m : ℕ) (x : Entry) → row_in after 0 m ≡ Some x → row_in s 0 m ≡ Some x
  row_left m x is =
      let at = block_entry after.spaces (slot_at after 0).directory m x is in
      row_below s.spaces (slot_at s 0).directory m at.0 ∙ sym (left.entries (number_of m)) ∙ at.1

  page_left : (e : Entry) → entry_of after 0 request_page ≡ Some e → IsRequestPage after 0 e
  page_left e is =
      let was : entry_of s 0 request_page ≡ Some e = sym (left.entries request_page) ∙ is in
      let old = h.request e was in
      record {
        bits = old.bits;
        apart = λ m x row. old.apart m x (row_left m x row);
      }

  pub stays_left : Stays s after 0
  stays_left = record {
    in_order = in_order;
    lives = ap (λ (x : Slot). is_live x) left.slot ∙ h.cache.live;
    env_type = ap (λ (x : Slot). x.env_type) left.slot;
    directory = ap (λ (x : Slot). x.directory) left.slot;
    long = ap (λ (x : Slot). length x.extra) left.slot ∙ h.cache.words;
    cache = ap (λ (x : Slot). cache_at_words x.extra) left.slot;
    entries = λ p own ne. left.entries p;
    tables = λ r ne. ap (λ (o : Option Region). is_some o) (left.tables r);
    bytes = λ p e is there. left.bytes p e (table_server p is) (table_no_request p is) there;
    blocks = λ m e below there. left.bytes (number_of m) e (block_server m below) (block_no_request m) there;
    page = page_left;
    apart = λ p x e is x_is e_is same.
        table_no_request p is (h.table.apart p request_page x e is request_server x_is (sym (left.entries request_page) ∙ e_is) same);
  }

-- what is seen behind the step, where frames are mapped as often as before
abbrev counted_before : Disk → KernelState → KernelState → View
counted_before d s after = mapping (view_in d after 0) (λ frame. reference_count s.spaces frame)

module _ (a b : AbstractState) (d : Disk) (s after : KernelState) (h : IsServing d s 0 a) (in_order : IsInOrder after)
    (left : LeavesBytes a.server s after 0) where
  stays : Stays s after 0
  stays = stays_left d s after h.stands in_order a.server left

  step_left : (server_at after 0).step ≡ (server_at s 0).step
  step_left = ap (λ (x : Slot). (server_in x.registers x.extra).step) left.slot

  -- as often as before the frame of a place's page is mapped
  table_then : (disk : ℕ → ℕ) → TableStands disk a (view_in d s 0) → TableStands disk a (counted_before d s after)
  table_then disk t =
      table_again disk a a (view_in d s 0) (counted_before d s after) (same_state a)
      (record {
        homes = (same_table s after 0 stays).homes;
        pages = (same_table s after 0 stays).pages;
        holders = λ number there. ap (reference_count s.spaces) (same_frames s after 0 stays number);
      }) t

  module _ (same : KeepsServed a b) (files : b.files ≡ a.files)
      (table : (disk : ℕ → ℕ) → TableStands disk a (counted_before d s after) → TableStands disk b (view_in d after 0))
      (free : StaysFree a (counted_before d s after) (λ frame. reference_count after.spaces frame)) where
    idle_now : IsIdle d s 0 a → IsIdle d after 0 b
    idle_now was = record {
      at = step_left ∙ was.at;
      files = subst (λ (f : FileSystem). HasFiles d.count (memory_in d after 0) f) (sym files)
          (files_over d.count (memory_in d s 0) (memory_in d after 0) a.files (disk_same s after 0 stays d) was.files);
      table = subst (λ (disk : ℕ → ℕ). TableStands disk b (view_in d after 0)) (sym (disk_same s after 0 stays d))
          (table (memory_in d s 0).disk (table_then (memory_in d s 0).disk was.table));
    }

    message : (slot_at after 0).rendezvous ≡ (slot_at s 0).rendezvous
    message = ap (λ (x : Slot). x.rendezvous) left.slot

    abbrev there : Slot → Serving
    there x = record { state = server_in x.registers x.extra; job = places.state_in x.registers x.extra; view = counted_before d s after }

    -- it stands where it stood, over what is seen now
    still_seen : (keeps : Bool) → keeps_request a.server ≡ keeps → StandsServing d.count a (serving_in d s 0) →
        StandsServing d.count a (there (slot_at s 0))
    still_seen true keeps was =
        sees_as d.count a (serving_in d s 0) (counted_before d s after)
        (sees_mapped d s after 0 h.stands stays (left.entries request_page) (left.request keeps) message) was
    still_seen false counts was =
        let page = (memory_in d after 0).page in
        sees_as d.count a (over (serving_in d s 0) (record { disk = (memory_in d s 0).disk; page = page })) (counted_before d s after)
        (sees_paged d s after 0 stays message) (repaged d.count a (serving_in d s 0) page counts was)

    serving_now : StandsServing d.count a (serving_in d s 0) → StandsServing d.count b (serving_in d after 0)
    serving_now was =
        let seen : StandsServing d.count a (there (slot_at after 0)) =
        subst (λ (x : Slot). StandsServing d.count a (there x)) (sym left.slot) (still_seen (keeps_request a.server) refl was) in
        record {
          before = seen.before;
          files = subst (λ (f : FileSystem). HasFiles d.count seen.before f) (sym files) seen.files;
          table = table seen.before.disk seen.table;
          at =
              at_as a b same d.count (there (slot_at after 0)) seen.before (λ frame. reference_count after.spaces frame) free
              (server_at after 0).step seen.at;
        }

    by_server : (x : Server) → ServesBy x d s 0 a → ServesBy x d after 0 b
    by_server idle was = idle_now was
    by_server leaving was = serving_now was
    by_server (looking client request place) was = serving_now was
    by_server (busy client request place) was = serving_now was
    by_server (acted client answer bytes object) was = serving_now was

    kept_serves : ServesOn d s after b (server_at s 0).step
    kept_serves = record {
      serving = record {
        stands = stands_so s after 0 stays d h.stands;
        serves = subst (λ (x : Server). ServesBy x d after 0 b) (sym same.server) (by_server a.server h.serves);
        requested = subst (λ (x : Server). HasRequested x after 0) (sym same.server)
            (requested_stays s after 0 (ap (λ (o : Option Entry). is_some o) (left.entries request_page)) a.server h.requested);
        rests = rests_same s after 0 step_left (ap (λ (x : Slot). places.state_in x.registers x.extra) left.slot)
            (ap (λ (x : Slot). cache_at_words x.extra) left.slot) h.rests;
      };
      at_step = step_left;
      table = same_table s after 0 stays;
    }

-- ---- the laws

pub clients_serve : ClientsServe
clients_serve a b d s after h in_order left served tells =
    let t = table_serving a d s h in
    kept_serves a b d s after h in_order left (keeps_files t.0 a b (view_in d s 0) t.1 served.leaves served) served.leaves.files
    (λ disk was.
    table_left disk a b (counted_before d s after) was (keeps_places disk a b (counted_before d s after) was served.leaves) (view_in d after 0)
    (λ number. refl) (λ number. refl) (seen_tells b d after 0 tells))
    (λ number there nobodys once.
    let nobody : (b.opened number).held_by ≡ None = ap (λ (o : ℕ → TablePlace). (o number).held_by) served.leaves.opened ∙ nobodys in
    sym (seen_tells b d after 0 tells number there) ∙ ap (λ (o : Option ℕ). is_held_by b o) nobody)

module _ (a b : AbstractState) (d : Disk) (s after : KernelState) (h : IsServing d s 0 a) (in_order : IsInOrder after)
    (left : LeavesPages a.server s after 0) (same : SameServed a b)
    (table : (disk : ℕ → ℕ) → TableStands disk a (view_in d after 0) → TableStands disk b (view_in d after 0)) where
  bytes_left : LeavesBytes a.server s after 0
  bytes_left = record { slot = left.slot; entries = left.entries; tables = left.tables; bytes = left.bytes; request = left.request }

  stays_so : Stays s after 0
  stays_so = stays_left d s after h.stands in_order a.server bytes_left

  -- the frames of places are mapped as often
  as_often : (number : ℕ) → is_some ((view_in d after 0).pages number) ≡ true →
      (view_in d after 0).holders ((view_in d after 0).frames number) ≡ (counted_before d s after).holders ((view_in d after 0).frames number)
  as_often number there =
      let frames = same_frames s after 0 stays_so number in
      let was = sym (ap (λ (o : Option (ℕ → ℕ)). is_some o) ((same_table s after 0 stays_so).pages number)) ∙ there in
      ap (reference_count after.spaces) frames ∙ same_holders s after 0 stays_so left.counts number was ∙ sym (ap (reference_count s.spaces) frames)

  table_here : (disk : ℕ → ℕ) → TableStands disk a (counted_before d s after) → TableStands disk b (view_in d after 0)
  table_here disk t =
      table disk (table_again disk a a (counted_before d s after) (view_in d after 0) (same_state a)
      (record { homes = λ number. refl; pages = λ number. refl; holders = as_often }) t)

  place_same : (number : ℕ) → (b.opened number).held_by ≡ (a.opened number).held_by
  place_same number = ap (λ (o : ℕ → TablePlace). (o number).held_by) same.opened

  object_same : (name : ℕ) → b.objects name ≡ a.objects name
  object_same name = ap (λ (o : ℕ → Object). o name) same.objects

  keeps_all : KeepsServed a b
  keeps_all = record {
    server = same.server;
    opened = same.opened;
    objects = λ number name by. object_same name;
    lost = λ number name below by held.
        let t = table_serving a d s h in
        let now = table_here t.0 (table_then a b d s after h in_order bytes_left t.0 t.1) in
        let file = (now.places number below).holds name (place_same number ∙ by) held in
        sym (same.held name file.f (sym (object_same name) ∙ file.is)) ∙ held;
    holds = same.holds;
    open_before = λ way is. sym (ap (λ (o : List ℕ → Bool). o way) same.file_open) ∙ is;
  }

  others_now : ServesOn d s after b (server_at s 0).step
  others_now =
      kept_serves a b d s after h in_order bytes_left keeps_all same.files table_here
      (λ number there nobodys once. ap (nat_le 2) (as_often number there) ∙ once)

pub others_serve : OthersServe
others_serve = others_now
