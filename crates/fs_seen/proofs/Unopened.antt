-- Where nothing was ever opened the table stands over any disk.
use Rattle.std.proofs.Common.{◌≡◌, ◌∙◌, ◌+◌, ◌*◌, ◌<◌, ℕ, zero, suc, Bool, true, false, List, [], ◌∷◌, Option, Some, None, refl, sym, ap}
use Rattle.std.proofs.Common.{if◌then◌else◌}
use Rattle.std.proofs.lemmas.Bool.Decides.{nat_tests}
use Rattle.std.proofs.lemmas.Option.{none-some}
use Rattle.std.proofs.Common.{arith}
use Rattle.std.specs.Prelude.{is_some, nat_lt, replicate, slice_index}
use Rattle.std.specs.Int.{w32, from_le_bytes}
use Rattle.jos_base.specs.SpacesState.{zero_page}
use Rattle.lib_os.specs.declared.numbers.TheConstants.{MAXOPEN}
use Rattle.lib_os.specs.AbstractState.{AbstractState, OpenFile, file, terminal}
use Rattle.fs_serving.specs.ServerViews.{word_of}
use Rattle.fs_seen.specs.ServerMemory.{bytes_by, entry_of, place_page, records_page}
use Rattle.fs_seen.specs.ServerWhole.{AllConsoles, UnopenedTables, UnopenedViews}

-- no object is a file
no_file : {X : Type 0} (a : AbstractState) → AllConsoles a → (name : ℕ) (f : OpenFile) → a.objects name ≡ file f → X
no_file a consoles name f is = absurd (let contradiction : terminal ≡ file f = sym (consoles name) ∙ is in cc)

-- ---- the table

pub unopened_tables : UnopenedTables
unopened_tables disk a v none consoles old = record {
  places = λ number below. record {
    unused = λ home. none.places number;
    there = λ home. absurd (home (none.homes number));
    used = λ there. absurd (let contradiction : false ≡ true = sym (ap (λ (o : Option (ℕ → ℕ)). is_some o) (none.pages number)) ∙ there in cc);
    counts = λ home. absurd (home (none.homes number));
    holds = λ name by held. absurd (none-some name (sym (none.places number) ∙ by));
  };
  held = λ name f held is. no_file a consoles name f is;
  alone = λ number other name by and. absurd (none-some name (sym (none.places number) ∙ by));
  old = λ number name by. absurd (none-some name (sym (none.places number) ∙ by));
  old_held = old;
}

-- ---- what is seen

zeros : (n i : ℕ) → slice_index (replicate n 0) i ≡ 0
zeros zero i = refl
zeros (suc n) zero = refl
zeros (suc n) (suc i) = zeros n i

zero_word : (at : ℕ) → word_of (Some (slice_index zero_page)) at ≡ 0
unfolding zero_page
zero_word at =
    (λ i. from_le_bytes w32 (zeros 4096 at i ∷ zeros 4096 (at + 1) i ∷ zeros 4096 (at + 2) i ∷ zeros 4096 (at + 3) i ∷ []))

pub unopened_views : UnopenedViews
unopened_views a d s n entry stands zero_bytes alone places = record {
  homes = λ number. home_by number (nat_lt number MAXOPEN);
  pages = λ number. page_by number (nat_lt number MAXOPEN) refl;
  places = places;
}
  where
    bytes_is : bytes_by s (entry_of s n records_page) ≡ Some (slice_index zero_page)
    bytes_is = ap (bytes_by s) stands ∙ ap (λ (page : List ℕ). Some (slice_index page)) zero_bytes

    home_by : (number : ℕ) (t : Bool) → (if t then word_of (bytes_by s (entry_of s n records_page)) (4 * number) else 0) ≡ 0
    home_by number true = ap (λ (o : Option (ℕ → ℕ)). word_of o (4 * number)) bytes_is ∙ zero_word (4 * number)
    home_by number false = refl

    page_by : (number : ℕ) (t : Bool) → nat_lt number MAXOPEN ≡ t →
        bytes_by s (if t then entry_of s n (place_page number) else None) ≡ None
    page_by number true on = let below : number < MAXOPEN = grind (arith, nat_tests) in ap (bytes_by s) (alone number below)
    page_by number false off = refl
