-- A state in which each page of the table has the frame and the bytes that it had is seen as before.
use Rattle.std.proofs.Common.{◌≡◌, ◌<◌, ◌*◌, ℕ, Bool, true, false, Option, None, refl, ap, arith, if◌then◌else◌}
use Rattle.std.proofs.lemmas.Bool.Decides.{nat_tests}
use Rattle.std.specs.Prelude.{nat_lt}
use Rattle.jos_base.specs.KernelState.{KernelState, slot_at, with_spaces}
use Rattle.jos_base.specs.Reach.{Entry}
use Rattle.jos_base.specs.SpacesState.{SpacesState, reference_count}
use Rattle.lib_os.specs.declared.numbers.TheConstants.{MAXOPEN}
use Rattle.lib_os.specs.Disk.{Disk}
use Rattle.fs_cache.specs.CacheSteps.{cache_state}
use Rattle.fs_tree.specs.TreeSteps.{memory_in}
use Rattle.fs_serving.specs.ServerViews.{View, word_of}
use Rattle.fs_seen.specs.ServerMemory.{StandsOver, bytes_by, entry_of, frame_by, has_request, home_in, is_table_page, place_entry, place_page}
use Rattle.fs_seen.specs.ServerMemory.{records_page, view_in}
use Rattle.fs_seen.proofs.Changes.{place_table, records_table}

-- what is so behind a call
pub record IsBehind (d : Disk) (s mid : KernelState) (n : ℕ) (v : View) : Type 0 where
  pub over : StandsOver d mid n
  pub request_stays : has_request mid n ≡ has_request s n
  pub view : view_in d mid n ≡ v
  pub cache : cache_state mid n ≡ cache_state s n

-- the entry of a place is that of its page, or there is none
module _ {X : Type 0} (s now : KernelState) (n : ℕ) (by by_now : Option Entry → X) where
  pub place_alike : by_now None ≡ by None → ((k : ℕ) → k < MAXOPEN → by_now (entry_of now n (place_page k)) ≡ by (entry_of s n (place_page k))) →
      (k : ℕ) → by_now (place_entry now n k) ≡ by (place_entry s n k)
  place_alike none same k = by_test (nat_lt k MAXOPEN) refl
    where
      by_test : (t : Bool) → nat_lt k MAXOPEN ≡ t →
          by_now (if t then entry_of now n (place_page k) else None) ≡ by (if t then entry_of s n (place_page k) else None)
      by_test false off = none
      by_test true on = same k (grind (arith, nat_tests))

module _ (s : KernelState) (n : ℕ) (t : SpacesState) where
  abbrev now : KernelState
  now = with_spaces s t

  module _ (frames : (q : ℕ) → is_table_page q ≡ true → frame_by (entry_of now n q) ≡ frame_by (entry_of s n q)) where
    pub frames_alike : (k : ℕ) → frame_by (place_entry now n k) ≡ frame_by (place_entry s n k)
    frames_alike = place_alike s now n frame_by frame_by refl (λ k below. frames (place_page k) (place_table k below))

    module _ (bytes : (q : ℕ) → is_table_page q ≡ true → bytes_by now (entry_of now n q) ≡ bytes_by s (entry_of s n q)) where
      pub home_alike : (k : ℕ) → home_in now n k ≡ home_in s n k
      home_alike k = ap (λ (o : Option (ℕ → ℕ)). if nat_lt k MAXOPEN then word_of o (4 * k) else 0) (bytes records_page records_table)

      pub pages_alike : (k : ℕ) → bytes_by now (place_entry now n k) ≡ bytes_by s (place_entry s n k)
      pages_alike = place_alike s now n (bytes_by s) (bytes_by now) refl (λ k below. bytes (place_page k) (place_table k below))

      pub view_alike : (d : Disk) → memory_in d now n ≡ memory_in d s n →
          ((frame : ℕ) → reference_count t frame ≡ reference_count s.spaces frame) → view_in d now n ≡ view_in d s n
      view_alike d memory counts = λ i. record {
        memory = memory i;
        homes = λ k. home_alike k i;
        pages = λ k. pages_alike k i;
        frames = λ k. frames_alike k i;
        holders = λ frame. counts frame i;
        value = (slot_at s n).rendezvous.value;
        sender = (slot_at s n).rendezvous.sender;
      }
