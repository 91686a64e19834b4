-- What a server that serves on is behind a step in which its pages, but that of the request, are as they were.
use Rattle.std.proofs.Common.{◌≡◌, ◌∙◌, ◌<◌, ◌*◌, ℕ, Some, refl, sym, ap, subst, arith}
use Rattle.jos_base.specs.KernelState.{KernelState, slot_at}
use Rattle.jos_base.specs.Reach.{Entry}
use Rattle.jos_base.specs.SpacesState.{reference_count}
use Rattle.fs_layout.specs.declared.numbers.TheConstants.{BLKSIZE}
use Rattle.fs_layout.specs.DiskFiles.{IsDiskImage, file_system_of}
use Rattle.fs_layout.specs.DiskImage.{block_count}
use Rattle.fs_layout.specs.FileTree.{FileSystem}
use Rattle.lib_os.specs.declared.numbers.TheConstants.{MAXOPEN}
use Rattle.lib_os.specs.declared.progress.Progress.{Progress}
use Rattle.lib_os.specs.AbstractState.{AbstractState, Server, leaving}
use Rattle.lib_os.specs.Disk.{Disk}
use Rattle.lib_os.specs.UserCalls.{Output}
use Rattle.fs_runs.specs.TreeRuns.{Memory}
use Rattle.fs_tree.specs.TreeSteps.{memory_in}
use Rattle.fs_requests.specs.declared.state.ServerStep.{ServerStep}
use Rattle.fs_requests.specs.ServerPlans.{call_for}
use Rattle.fs_requests.specs.ServerWords.{server_in}
use Rattle.fs_serving.specs.ServerRuns.{HasFiles, StandsAtStep, TableStands}
use Rattle.fs_server.specs.ServerSteps.{HasCalled, server_at}
use Rattle.fs_seen.specs.BlockSteps.{SeesAlike}
use Rattle.fs_seen.specs.ServerMemory.{HasRequested, StandsOver, entry_of, request_page, serving_in, view_in}
use Rattle.fs_seen.specs.ServerSees.{CacheRests, HasCalledAt}
use Rattle.fs_seen.specs.ServerWhole.{IsServing}
use Rattle.fs_seen.proofs.ForOthers.{mapping}
use Rattle.fs_seen.proofs.Over.{bytes_alike, same_entry}
use Rattle.fs_seen.proofs.ServesFor.{serves_for}
use Rattle.fs_seen.proofs.StaysSo.{CountsStay, Stays, disk_same, same_frames, same_holders, same_table}
use Rattle.fs_seen.proofs.TablesAlike.{SameObjects, TableSeen}

-- ---- its step

pub called_at : (s after : KernelState) (output : Output) (done : Progress) (at : ServerStep) → (server_at s 0).step ≡ at →
    HasCalledAt s after 0 output done → HasCalled (call_for (server_at s 0) at) (server_at s 0) s after 0 output done
called_at s after output done at is called =
    subst (λ (x : ServerStep). HasCalled (call_for (server_at s 0) x) (server_at s 0) s after 0 output done) is called

pub number_small : (s : KernelState) (n : ℕ) → (server_at s n).number < MAXOPEN
unfolding server_in
number_small s n = omega arith

-- ---- what is seen

pub table_seen : (d e : Disk) (s mid : KernelState) (n : ℕ) → Stays s mid n → CountsStay s mid n → TableSeen (view_in d s n) (view_in e mid n)
table_seen d e s mid n k counts = record {
  homes = (same_table s mid n k).homes;
  pages = (same_table s mid n k).pages;
  holders = λ number there. ap (reference_count mid.spaces) (same_frames s mid n k number) ∙ same_holders s mid n k counts number there;
}

-- where the page of the request and the message are as they were, too
pub sees_same : (d : Disk) (s mid : KernelState) (n : ℕ) → StandsOver d s n → Stays s mid n → CountsStay s mid n →
    entry_of mid n request_page ≡ entry_of s n request_page →
    ((e : Entry) → entry_of s n request_page ≡ Some e → mid.spaces.pages e.frame ≡ s.spaces.pages e.frame) →
    (slot_at mid n).rendezvous ≡ (slot_at s n).rendezvous → SeesAlike (view_in d s n) (view_in d mid n)
sees_same d s mid n h k counts entry bytes message = record {
  memory = λ i. record { disk = disk_same s mid n k d i; page = page_same i };
  homes = λ i number. (same_table s mid n k).homes number i;
  pages = λ i number. (same_table s mid n k).pages number i;
  frames = λ i number. same_frames s mid n k number i;
  holders = same_holders s mid n k counts;
  value = λ i. (message i).value;
  sender = λ i. (message i).sender;
}
  where
    page_same : (memory_in d mid n).page ≡ (memory_in d s n).page
    page_same = bytes_alike s mid n (λ x is. (h.request x is).bits) (same_entry s mid n entry bytes)

-- where the page of the request and the message are as they were, and frames are mapped as often as before
pub sees_mapped : (d : Disk) (s mid : KernelState) (n : ℕ) → StandsOver d s n → Stays s mid n → entry_of mid n request_page ≡ entry_of s n request_page →
    ((e : Entry) → entry_of s n request_page ≡ Some e → mid.spaces.pages e.frame ≡ s.spaces.pages e.frame) →
    (slot_at mid n).rendezvous ≡ (slot_at s n).rendezvous →
    SeesAlike (view_in d s n) (mapping (view_in d mid n) (λ frame. reference_count s.spaces frame))
sees_mapped d s mid n h k entry bytes message = record {
  memory = λ i. record {
    disk = disk_same s mid n k d i;
    page = bytes_alike s mid n (λ x is. (h.request x is).bits) (same_entry s mid n entry bytes) i;
  };
  homes = λ i number. (same_table s mid n k).homes number i;
  pages = λ i number. (same_table s mid n k).pages number i;
  frames = λ i number. same_frames s mid n k number i;
  holders = λ number there. refl;
  value = λ i. (message i).value;
  sender = λ i. (message i).sender;
}

-- and where the message is as it was, over the page that the request has now
pub sees_paged : (d : Disk) (s mid : KernelState) (n : ℕ) → Stays s mid n → (slot_at mid n).rendezvous ≡ (slot_at s n).rendezvous →
    SeesAlike (record (view_in d s n) { memory = record { disk = (memory_in d s n).disk; page = (memory_in d mid n).page } })
    (mapping (view_in d mid n) (λ frame. reference_count s.spaces frame))
sees_paged d s mid n k message = record {
  memory = λ i. record { disk = disk_same s mid n k d i; page = (memory_in d mid n).page };
  homes = λ i number. (same_table s mid n k).homes number i;
  pages = λ i number. (same_table s mid n k).pages number i;
  frames = λ i number. same_frames s mid n k number i;
  holders = λ number there. refl;
  value = λ i. (message i).value;
  sender = λ i. (message i).sender;
}

-- ---- the files

pub files_over : (count : ℕ) (m k : Memory) (files : FileSystem) → k.disk ≡ m.disk → HasFiles count m files → HasFiles count k files
files_over count m k files same h = record {
  disk = subst (λ (x : ℕ → ℕ). IsDiskImage (BLKSIZE * count) x) (sym same) h.disk;
  count_is = ap block_count same ∙ h.count_is;
  are = ap file_system_of same ∙ h.are;
}

-- ---- the abstract state

-- the same but for the server
pub same_objects : (a : AbstractState) (x : Server) → SameObjects a (record a { server = x })
same_objects a x = record { opened = refl; objects = refl; held = λ name. refl; names = refl }

pub same_state : (a : AbstractState) → SameObjects a a
same_state a = record { opened = refl; objects = refl; held = λ name. refl; names = refl }

-- ---- a server that is about to wait for a request

pub leaving_serves : (b : AbstractState) (d : Disk) (after : KernelState) (before : Memory) → StandsOver d after 0 → b.server ≡ leaving →
    HasFiles d.count before b.files → TableStands before.disk b (view_in d after 0) →
    StandsAtStep (server_at after 0).step d.count b (serving_in d after 0) before → CacheRests (server_at after 0).step after 0 → IsServing d after 0 b
leaving_serves b d after before stands server files table at rests = record {
  stands = stands;
  serves = serves_for b d after 0 (record { before = before; files = files; table = table; at = at });
  requested = subst (λ (x : Server). HasRequested x after 0) (sym server) tt;
  rests = rests;
}
