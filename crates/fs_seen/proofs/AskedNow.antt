-- A request comes to the server while it waits.
use Rattle.std.proofs.Common.{◌≡◌, ◌∙◌, ℕ, List, length, refl, sym, ap, subst}
use Rattle.std.specs.Prelude.{is_some}
use Rattle.jos_base.specs.declared.registers.Regs.{Regs}
use Rattle.jos_base.specs.Environments.{Slot, is_live}
use Rattle.jos_base.specs.KernelState.{KernelState, slot_at}
use Rattle.lib_os.specs.AbstractState.{AbstractState, Server, idle}
use Rattle.fs_layout.specs.FileTree.{FileSystem}
use Rattle.lib_os.specs.Disk.{Disk}
use Rattle.lib_os.specs.FileServer.{request_begun}
use Rattle.lib_os.specs.InOrder.{IsInOrder}
use Rattle.lib_os.specs.LibrarySteps.{with_word}
use Rattle.fs_blocks.specs.CachePlaces.{state_in as cache_at_words}
use Rattle.fs_cache.proofs.Loads.{number_of}
use Rattle.fs_tree.specs.TreeSteps.{memory_in}
use Rattle.fs_requests.specs.declared.state.ServerState.{ServerState}
use Rattle.fs_requests.specs.declared.state.ServerStep.{ServerStep}
use Rattle.fs_requests.specs.declared.state.ServerStep.TheVariants as step
use Rattle.fs_requests.specs.ServerWords.{server_in}
use Rattle.fs_serving.specs.ServerRuns.{HasFiles, StandsAtStep, TableStands}
use Rattle.fs_server.specs.ServerSteps.{server_at}
use Rattle.fs_seen.specs.ServerMemory.{HasRequested, StandsOver, has_request, request_page, serving_in, view_in}
use Rattle.fs_seen.specs.ServerSees.{is_working}
use Rattle.fs_seen.specs.ServerWhole.{AskedByWord, AskedServes, IsAsked, IsIdle, ServesBy, ServesFor}
use Rattle.fs_seen.proofs.Between.{files_over}
use Rattle.fs_seen.proofs.Changes.{block_server, request_server, table_no_request, table_server}
use Rattle.fs_seen.proofs.Rests.{rests_still}
use Rattle.fs_seen.proofs.ServesFor.{serves_for}
use Rattle.fs_seen.proofs.StaysGone.{SlotStays, still_entry, still_page}
use Rattle.fs_seen.proofs.StaysSo.{Stays, block_no_request, disk_same, same_table, stands_so}

-- EAX is none of the server's words
eax_unseen : (regs : Regs) (words : List ℕ) (word : ℕ) → server_in (record regs { eax = word }) words ≡ server_in regs words
unfolding server_in
eax_unseen regs words word = refl

pub asked_stays : (d : Disk) (s after : KernelState) (n : ℕ) → StandsOver d s n → IsInOrder after → IsAsked s after n → Stays s after n
asked_stays d s after n h in_order k = record {
  in_order = in_order;
  lives = k.lives;
  env_type = k.env_type;
  directory = k.directory;
  long = ap (λ (w : List ℕ). length w) k.words ∙ h.cache.words;
  cache = ap cache_at_words k.words;
  entries = λ p own ne. k.entries p ne;
  tables = k.tables;
  bytes = λ p e is there. k.bytes p e (table_server p is) (table_no_request p is) there;
  blocks = λ b e below there. k.bytes (number_of b) e (block_server b below) (block_no_request b) there;
  page = k.page;
  apart = k.apart;
}

pub asked_server : (s after : KernelState) (n : ℕ) → IsAsked s after n → server_at after n ≡ server_at s n
asked_server s after n k =
    (λ i. server_in (k.registers.1 i) (k.words i)) ∙ eax_unseen (slot_at s n).registers (slot_at s n).extra k.registers.0

idle_so : (a : AbstractState) (d : Disk) (s : KernelState) → a.server ≡ idle → ServesFor d s 0 a → IsIdle d s 0 a
idle_so a d s is h = subst (λ (x : Server). ServesBy x d s 0 a) is h

pub asked_serves : AskedServes
asked_serves a b d s after client request k waits h in_order asked files server requested asks value sender table =
    record {
      serving = record {
        stands = stands_so s after 0 stays d h.stands;
        serves = serves_for b d after 0 (record {
          before = memory_in d after 0;
          files = subst (λ (f : FileSystem). HasFiles d.count (memory_in d after 0) f) (sym files)
              (files_over d.count (memory_in d s 0) (memory_in d after 0) a.files (disk_same s after 0 stays d) was.files);
          table = subst (λ (disk : ℕ → ℕ). TableStands disk b (view_in d after 0)) (sym (disk_same s after 0 stays d)) table;
          at = subst (λ (x : ServerStep). StandsAtStep x d.count b (serving_in d after 0) (memory_in d after 0)) (sym step_is) (
            k,
            value,
            record {
              request = request;
              server = server ∙ ap (λ (c : ℕ). request_begun c request) (sym sender);
              asks = asks;
              memory = refl;
            },
          );
        });
        requested = subst (λ (x : Server). HasRequested x after 0) (sym server) requested;
        rests = rests_still s after 0 (ap is_working was.at) stays.cache h.rests;
      };
      at_step = step_is;
      table = same_table s after 0 stays;
    }
  where
    stays : Stays s after 0
    stays = asked_stays d s after 0 h.stands in_order asked

    was : IsIdle d s 0 a
    was = idle_so a d s waits h.serves

    step_is : (server_at after 0).step ≡ step.ReadingKind
    step_is = ap (λ (x : ServerState). x.step) (asked_server s after 0 asked) ∙ was.at

-- a word leaves the page of the request
pub word_request : (s after : KernelState) (n sender value : ℕ) → slot_at after n ≡ with_word (slot_at s n) sender value → after.spaces ≡ s.spaces →
    has_request after n ≡ has_request s n
word_request s after n sender value slot spaces i = is_some ((spaces i).entries (slot i).directory request_page)

pub asked_by_word : AskedByWord
asked_by_word d s after n sender value h slot spaces = record {
  lives = still.lives;
  env_type = still.env_type;
  directory = still.directory;
  words = still.words;
  registers = (0, ap (λ (x : Slot). x.registers) slot);
  entries = λ p ne. still_entry d s after n h still p;
  tables = λ r ne i. is_some ((spaces i).regions (slot_at s n).directory r);
  bytes = λ p e own ne there i. (spaces i).pages e.frame;
  page = still_page d s after n h still;
  apart = λ p x e is x_is e_is same.
      table_no_request p is
      (h.table.apart p request_page x e is request_server x_is (sym (still_entry d s after n h still request_page) ∙ e_is) same);
}
  where
    still : SlotStays s after n
    still = record {
      lives = ap (λ (x : Slot). is_live x) slot;
      env_type = ap (λ (x : Slot). x.env_type) slot;
      directory = ap (λ (x : Slot). x.directory) slot;
      words = ap (λ (x : Slot). x.extra) slot;
      spaces = spaces;
    }
