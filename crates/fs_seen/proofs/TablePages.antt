-- The table is as it was where its pages are: their entries, and the bytes of their frames.
use Rattle.std.proofs.Common.{◌≡◌, ◌∙◌, ◌*◌, ℕ, true, List, Option, Some, None, refl, ap, if◌then◌else◌}
use Rattle.std.specs.Prelude.{nat_lt, slice_index}
use Rattle.jos_base.specs.KernelState.{KernelState}
use Rattle.jos_base.specs.Reach.{Entry}
use Rattle.lib_os.specs.declared.numbers.TheConstants.{MAXOPEN}
use Rattle.fs_serving.specs.ServerViews.{word_of}
use Rattle.fs_seen.specs.ServerMemory.{bytes_by, entry_of, is_table_page, place_page, records_page}
use Rattle.fs_seen.specs.ServerWhole.{SameTable}
use Rattle.fs_seen.proofs.Alike.{place_alike}
use Rattle.fs_seen.proofs.Changes.{place_table, records_table}

module _ (s after : KernelState) (n : ℕ) (entries : (p : ℕ) → is_table_page p ≡ true → entry_of after n p ≡ entry_of s n p)
    (bytes : (p : ℕ) (e : Entry) → is_table_page p ≡ true → entry_of s n p ≡ Some e → after.spaces.pages e.frame ≡ s.spaces.pages e.frame) where
  bytes_same : (p : ℕ) → is_table_page p ≡ true → bytes_by after (entry_of after n p) ≡ bytes_by s (entry_of s n p)
  bytes_same p is = ap (bytes_by after) (entries p is) ∙ by_entry (entry_of s n p) refl
    where
      by_entry : (o : Option Entry) → entry_of s n p ≡ o → bytes_by after o ≡ bytes_by s o
      by_entry None there = refl
      by_entry (Some x) there = ap (λ (page : List ℕ). Some (slice_index page)) (bytes p x is there)

  pub pages_still : SameTable s after n
  pages_still = record {
    homes = λ number.
        ap (λ (o : Option (ℕ → ℕ)). if nat_lt number MAXOPEN then word_of o (4 * number) else 0) (bytes_same records_page records_table);
    pages = place_alike s after n (bytes_by s) (bytes_by after) refl (λ number below. bytes_same (place_page number) (place_table number below));
  }
