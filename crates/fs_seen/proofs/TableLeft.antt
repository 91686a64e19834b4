-- Where a step leaves the pages of the table, that stands behind it, and they are seen as before. Where it leaves the rest of the slots, the server
-- stands where it stood, but for words of the job.
use Rattle.std.proofs.Common.{◌≡◌, ◌∙◌, ◌*◌, ◌/◌, ◌%◌, ◌<◌, ℕ, Bool, true, false, List, Option, Some, None, refl, sym, ap, subst, arith}
use Rattle.std.proofs.Common.{if◌then◌else◌}
use Rattle.std.proofs.lemmas.Bool.Decides.{nat_tests}
use Rattle.std.specs.Prelude.{is_some, nat_lt, slice_index}
use Rattle.jos_base.specs.Environments.{Slot}
use Rattle.jos_base.specs.KernelState.{KernelState, slot_at}
use Rattle.jos_base.specs.Reach.{Entry}
use Rattle.jos_base.specs.SpacesState.{reference_count}
use Rattle.lib_os.specs.declared.numbers.TheConstants.{MAXOPEN}
use Rattle.lib_os.specs.Disk.{Disk}
use Rattle.lib_os.specs.MadeCalls.{is_server_page}
use Rattle.lib_os.specs.Requests.{request_kind}
use Rattle.lib_os.specs.Rows.{IsPage}
use Rattle.fs_runs.specs.TreeRuns.{Memory}
use Rattle.fs_tree.specs.TreeSteps.{KeepsRest, memory_in}
use Rattle.fs_requests.specs.ServerWords.{server_in, step_in}
use Rattle.fs_serving.specs.ServerViews.{word_of}
use Rattle.fs_server.specs.ServerSteps.{server_at}
use Rattle.fs_seen.specs.BlockSteps.{SeesAlike}
use Rattle.fs_seen.specs.ServerMemory.{HasFileTable, bytes_by, entry_of, frame_by, home_in, is_table_page, place_entry, place_page, records_page}
use Rattle.fs_seen.specs.ServerMemory.{request_page, view_in}
use Rattle.fs_seen.proofs.Alike.{place_alike}
use Rattle.fs_seen.proofs.Changes.{place_table, records_table}

-- The pages of the table of open files are as they were: their entries, the bytes and the counts of their frames. No other page of the server's is in
-- such a frame. And where no page of a request was there none is.
pub record LeavesTable (s after : KernelState) (n : ℕ) : Type 0 where
  pub entries : (p : ℕ) → is_table_page p ≡ true → entry_of after n p ≡ entry_of s n p
  pub bytes : (p : ℕ) (e : Entry) → is_table_page p ≡ true → entry_of s n p ≡ Some e → after.spaces.pages e.frame ≡ s.spaces.pages e.frame
  pub counts : (p : ℕ) (e : Entry) → is_table_page p ≡ true → entry_of s n p ≡ Some e →
      reference_count after.spaces e.frame ≡ reference_count s.spaces e.frame
  pub apart : (p q : ℕ) (x y : Entry) → is_table_page p ≡ true → is_server_page q ≡ true → entry_of s n p ≡ Some x → entry_of after n q ≡ Some y →
      x.frame ≡ y.frame → p ≡ q
  pub lacks : entry_of s n request_page ≡ None → entry_of after n request_page ≡ None

-- So is the rest of the slots, but for the words of the job and of the cache.
pub record LeavesRest (s after : KernelState) (n : ℕ) : Type 0 where
  pub table : LeavesTable s after n
  pub rest : KeepsRest s after n

-- ---- the table

module _ (s after : KernelState) (n : ℕ) (left : LeavesTable s after n) where
  pub table_there : HasFileTable s n → HasFileTable after n
  table_there k = record {
    records = ap (λ (o : Option Entry). is_some o) (left.entries records_page records_table) ∙ k.records;
    pages = λ p e is there.
        let was : entry_of s n p ≡ Some e = sym (left.entries p is) ∙ there in
        let old = k.pages p e is was in
        record { allowed = old.allowed; whole = subst (λ (page : List ℕ). IsPage page) (sym (left.bytes p e is was)) old.whole };
    apart = λ p q x y is own x_is y_is same. left.apart p q x y is own (sym (left.entries p is) ∙ x_is) y_is same;
  }

  bytes_same : (p : ℕ) → is_table_page p ≡ true → bytes_by after (entry_of after n p) ≡ bytes_by s (entry_of s n p)
  bytes_same p is = ap (bytes_by after) (left.entries p is) ∙ by_entry (entry_of s n p) refl
    where
      by_entry : (o : Option Entry) → entry_of s n p ≡ o → bytes_by after o ≡ bytes_by s o
      by_entry None there = refl
      by_entry (Some x) there = ap (λ (page : List ℕ). Some (slice_index page)) (left.bytes p x is there)

  homes_same : (k : ℕ) → home_in after n k ≡ home_in s n k
  homes_same k = ap (λ (o : Option (ℕ → ℕ)). if nat_lt k MAXOPEN then word_of o (4 * k) else 0) (bytes_same records_page records_table)

  pages_same : (k : ℕ) → bytes_by after (place_entry after n k) ≡ bytes_by s (place_entry s n k)
  pages_same = place_alike s after n (bytes_by s) (bytes_by after) refl (λ k below. bytes_same (place_page k) (place_table k below))

  frames_same : (k : ℕ) → frame_by (place_entry after n k) ≡ frame_by (place_entry s n k)
  frames_same = place_alike s after n frame_by frame_by refl (λ k below. ap frame_by (left.entries (place_page k) (place_table k below)))

  holders_same : (k : ℕ) → is_some (bytes_by s (place_entry s n k)) ≡ true →
      reference_count after.spaces (frame_by (place_entry s n k)) ≡ reference_count s.spaces (frame_by (place_entry s n k))
  holders_same k there = by_test (nat_lt k MAXOPEN) refl there
    where
      by_entry : (below : k < MAXOPEN) (o : Option Entry) → entry_of s n (place_page k) ≡ o → is_some (bytes_by s o) ≡ true →
          reference_count after.spaces (frame_by o) ≡ reference_count s.spaces (frame_by o)
      by_entry below None is some = absurd (let contradiction : false ≡ true = some in cc)
      by_entry below (Some x) is some = left.counts (place_page k) x (place_table k below) is

      by_test : (t : Bool) → nat_lt k MAXOPEN ≡ t → is_some (bytes_by s (if t then entry_of s n (place_page k) else None)) ≡ true →
          reference_count after.spaces (frame_by (if t then entry_of s n (place_page k) else None))
          ≡ reference_count s.spaces (frame_by (if t then entry_of s n (place_page k) else None))
      by_test false off some = absurd (let contradiction : false ≡ true = some in cc)
      by_test true on some = by_entry (grind (arith, nat_tests)) (entry_of s n (place_page k)) refl some

  -- what is seen, over another memory
  pub sees_left : (d e : Disk) (m : Memory) → memory_in e after n ≡ m → (slot_at after n).rendezvous ≡ (slot_at s n).rendezvous →
      SeesAlike (record (view_in d s n) { memory = m }) (view_in e after n)
  sees_left d e m memory rendezvous = record {
    memory = memory;
    homes = λ i k. homes_same k i;
    pages = λ i k. pages_same k i;
    frames = λ i k. frames_same k i;
    holders = holders_same;
    value = λ i. (rendezvous i).value;
    sender = λ i. (rendezvous i).sender;
  }

-- ---- where the server stands

-- but for the words of the job
pub record StandsStill (s after : KernelState) (n : ℕ) : Type 0 where
  pub at_step : (server_at after n).step ≡ (server_at s n).step
  pub kind : (server_at after n).kind ≡ (server_at s n).kind
  pub client : (server_at after n).client ≡ (server_at s n).client
  pub number : (server_at after n).number ≡ (server_at s n).number

module _ (s after : KernelState) (n : ℕ) (kept : KeepsRest s after n) where
  eip_same : (slot_at after n).registers.eip ≡ (slot_at s n).registers.eip
  eip_same = ap (λ (x : Slot). x.registers.eip) kept.slot

  pub still : StandsStill s after n
  unfolding server_in
  still = record {
    at_step = λ i. step_in (eip_same i % 32);
    kind = λ i. request_kind (eip_same i / 32 % 16);
    client = ap (λ (x : Slot). x.registers.esi) kept.slot;
    number = λ i. eip_same i / 512 % MAXOPEN;
  }

  pub rendezvous_still : (slot_at after n).rendezvous ≡ (slot_at s n).rendezvous
  rendezvous_still = ap (λ (x : Slot). x.rendezvous) kept.slot
