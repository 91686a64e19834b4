-- The file server serves on where its slot has another status alone.
use Rattle.std.proofs.Common.{◌≡◌, ◌∙◌, ℕ, List, Option, sym, ap, subst}
use Rattle.std.specs.Prelude.{is_some}
use Rattle.jos_base.specs.declared.registers.Regs.{Regs}
use Rattle.jos_base.specs.KernelState.{KernelState, slot_at}
use Rattle.jos_base.specs.Reach.{Entry}
use Rattle.lib_os.specs.AbstractState.{AbstractState, Server, acted, busy, idle, leaving, looking}
use Rattle.lib_os.specs.Disk.{Disk}
use Rattle.lib_os.specs.InOrder.{IsInOrder}
use Rattle.fs_blocks.specs.CachePlaces.{state_in as cache_at_words}
use Rattle.fs_places.specs.TreePlaces as places
use Rattle.fs_tree.specs.TreeSteps.{memory_in}
use Rattle.fs_requests.specs.declared.state.ServerState.{ServerState}
use Rattle.fs_requests.specs.ServerWords.{server_in}
use Rattle.fs_serving.specs.ServerRuns.{StandsServing, TableStands}
use Rattle.fs_serving.specs.ServerViews.{Serving}
use Rattle.fs_server.specs.ServerSteps.{server_at}
use Rattle.fs_seen.specs.BlockSteps.{SeesAlike}
use Rattle.fs_seen.specs.ServerMemory.{entry_of, request_page, serving_in, view_in}
use Rattle.fs_seen.specs.ServerWhole.{IsIdle, IsServing, ServesBy}
use Rattle.fs_seen.proofs.Between.{files_over, same_state, sees_same, table_seen}
use Rattle.fs_seen.proofs.Rests.{rests_same}
use Rattle.fs_seen.proofs.SeenAlike.{sees_as}
use Rattle.fs_seen.proofs.ServesFor.{requested_stays}
use Rattle.fs_seen.proofs.StaysGone.{SlotStays, counts_still, stays_still, still_entry}
use Rattle.fs_seen.proofs.StaysSo.{CountsStay, Stays, disk_same, stands_so}
use Rattle.fs_seen.proofs.TablesAlike.{table_again}

-- ---- its slot has another status

module _ (d : Disk) (s t : KernelState) (a : AbstractState) (h : IsServing d s 0 a) (k : SlotStays s t 0)
    (registers : (slot_at t 0).registers ≡ (slot_at s 0).registers) (message : (slot_at t 0).rendezvous ≡ (slot_at s 0).rendezvous)
    (in_order : IsInOrder t) where
  stays : Stays s t 0
  stays = stays_still d s t 0 h.stands k in_order

  counts : CountsStay s t 0
  counts = counts_still d s t 0 h.stands k

  request_same : entry_of t 0 request_page ≡ entry_of s 0 request_page
  request_same = still_entry d s t 0 h.stands k request_page

  sees : SeesAlike (view_in d s 0) (view_in d t 0)
  sees = sees_same d s t 0 h.stands stays counts request_same (λ e is i. (k.spaces i).pages e.frame) message

  server_same : server_at t 0 ≡ server_at s 0
  server_same i = server_in (registers i) (k.words i)

  idle_still : IsIdle d s 0 a → IsIdle d t 0 a
  idle_still was = record {
    at = ap (λ (x : ServerState). x.step) server_same ∙ was.at;
    files = files_over d.count (memory_in d s 0) (memory_in d t 0) a.files (disk_same s t 0 stays d) was.files;
    table = subst (λ (disk : ℕ → ℕ). TableStands disk a (view_in d t 0)) (sym (disk_same s t 0 stays d))
        (table_again (memory_in d s 0).disk a a (view_in d s 0) (view_in d t 0) (same_state a) (table_seen d d s t 0 stays counts) was.table);
  }

  abbrev there : Regs → List ℕ → Serving
  there regs words = record { state = server_in regs words; job = places.state_in regs words; view = view_in d t 0 }

  serving_still : StandsServing d.count a (serving_in d s 0) → StandsServing d.count a (serving_in d t 0)
  serving_still was =
      subst (λ (words : List ℕ). StandsServing d.count a (there (slot_at t 0).registers words)) (sym k.words)
      (subst (λ (regs : Regs). StandsServing d.count a (there regs (slot_at s 0).extra)) (sym registers)
      (sees_as d.count a (serving_in d s 0) (view_in d t 0) sees was))

  by_server : (x : Server) → ServesBy x d s 0 a → ServesBy x d t 0 a
  by_server idle was = idle_still was
  by_server leaving was = serving_still was
  by_server (looking client request place) was = serving_still was
  by_server (busy client request place) was = serving_still was
  by_server (acted client answer bytes object) was = serving_still was

  pub serves_still : IsServing d t 0 a
  serves_still = record {
    stands = stands_so s t 0 stays d h.stands;
    serves = by_server a.server h.serves;
    requested = requested_stays s t 0 (ap (λ (o : Option Entry). is_some o) request_same) a.server h.requested;
    rests = rests_same s t 0 (ap (λ (x : ServerState). x.step) server_same) (λ i. places.state_in (registers i) (k.words i))
        (ap (λ (words : List ℕ). cache_at_words words) k.words) h.rests;
  }
