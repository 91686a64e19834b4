-- How many pages of a space wait to be copied, after an entry was put in the place of another.
use Rattle.std.proofs.Common.{◌≡◌, ◌∙◌, ◌<◌, ◌≤◌, ◌+◌, ◌/◌, ℕ, Bool, true, false, List, [], ◌∷◌, Option, Some, None, refl, sym, ap, arith}
use Rattle.std.specs.Option.{option_map}
use Rattle.std.proofs.lemmas.Option.{same_Some}
use Rattle.jos_base.specs.declared.numbers.TheConstants.{NPTENTRIES}
use Rattle.jos_base.specs.Counting.{page_limit}
use Rattle.jos_base.specs.Environments.{bit_of}
use Rattle.jos_base.specs.Reach.{Entry}
use Rattle.jos_base.specs.SpacesState.{SpacesState, Region, put, frame_of, with_entry, without_entry, mapped, with_table, tabled_new, tabled_by, tabled}
use Rattle.jos_base.specs.SpacesState.{inserted, fresh_from, fresh_of, taken, zero_page, allocated_in, allocated, unmapped}
use Rattle.lib_os.specs.LibrarySteps.{copies_left, is_to_copy}
use Rattle.lib_os.specs.Rows.{EntryRow, lasting, rows_of}
use Rattle.jos_base.proofs.Puts.{put-at, put-holds}
use Rattle.jos_base.proofs.Released.{released_entries}
use Rattle.jos_base.proofs.Sums.{total-le, total-mono, total-less}

-- ---- how many there can be

pub copies_below : (row : EntryRow) → copies_left row ≤ page_limit
unfolding copies_left
copies_below row =
    let few = total-le page_limit 1 (λ p. bit_of (is_to_copy (row p))) (λ p. one_at_most (is_to_copy (row p))) in omega (arith, few)
  where
    one_at_most : (t : Bool) → bit_of t ≤ 1
    one_at_most true = omega arith
    one_at_most false = omega arith

-- ---- entries after a change

pub mapped_entries : (s : SpacesState) (d p : ℕ) (e : Entry) → (mapped s d p e).entries ≡ put s.entries d p (Some e)
unfolding mapped
mapped_entries s d p e = released_entries (with_entry s d p e) (frame_of (s.entries d p))

pub unmapped_entries : (s : SpacesState) (d p : ℕ) → (unmapped s d p).entries ≡ put s.entries d p None
unfolding unmapped
unmapped_entries s d p = released_entries (without_entry s d p) (frame_of (s.entries d p))

tabled_entries : (s t : SpacesState) (d index : ℕ) → tabled s d index ≡ Some t → t.entries ≡ s.entries
unfolding tabled
tabled_entries s t d index is = by_region (s.regions d index) is
  where
    by_list : (list : List ℕ) → tabled_new s list d index ≡ Some t → t.entries ≡ s.entries
    by_list [] none = absurd cc
    by_list (f ∷ rest) some =
        sym (ap (λ (z : SpacesState). z.entries) (same_Some (with_table (record s { free = rest }) d index f) t some))

    by_region : (o : Option Region) → tabled_by s o d index ≡ Some t → t.entries ≡ s.entries
    by_region None some = by_list s.free some
    by_region (Some region) some = sym (ap (λ (z : SpacesState). z.entries) (same_Some s t some))

pub inserted_entries : (s t : SpacesState) (d p : ℕ) (e : Entry) → inserted s d p e ≡ Some t → t.entries ≡ put s.entries d p (Some e)
unfolding inserted
inserted_entries s t d p e is = by_table (tabled s d (p / NPTENTRIES)) refl is
  where
    by_table : (o : Option SpacesState) → tabled s d (p / NPTENTRIES) ≡ o → option_map (λ u. mapped u d p e) o ≡ Some t →
        t.entries ≡ put s.entries d p (Some e)
    by_table None at none = absurd cc
    by_table (Some u) at some =
        sym (ap (λ (z : SpacesState). z.entries) (same_Some (mapped u d p e) t some))
        ∙ mapped_entries u d p e
        ∙ ap (λ (f : ℕ → ℕ → Option Entry). put f d p (Some e)) (tabled_entries s u d (p / NPTENTRIES) at)

pub allocated_entries : (s t : SpacesState) (d p perm f : ℕ) → allocated s d p perm ≡ Some (f, t) →
    (e : Entry) × (e.perm ≡ perm) × (t.entries ≡ put s.entries d p (Some e))
unfolding allocated fresh_of
allocated_entries s t d p perm f is = by_list s.free is
  where
    by_list : (list : List ℕ) → allocated_in (fresh_from s list) d p perm ≡ Some (f, t) →
        (e : Entry) × (e.perm ≡ perm) × (t.entries ≡ put s.entries d p (Some e))
    by_list [] none = absurd cc
    by_list (g ∷ rest) some = by_insertion (inserted first d p entry) refl some
      where
        first : SpacesState
        first = taken s g rest zero_page

        entry : Entry
        entry = record { frame = g; perm = perm }

        by_insertion : (o : Option SpacesState) → inserted first d p entry ≡ o →
            option_map (λ (u : SpacesState). let pair : ℕ × SpacesState = (g, u) in pair) o ≡ Some (f, t) →
            (e : Entry) × (e.perm ≡ perm) × (t.entries ≡ put s.entries d p (Some e))
        by_insertion None ins none = absurd cc
        by_insertion (Some u) ins found =
            let same : u ≡ t = ap (λ (z : ℕ × SpacesState). z.1) (same_Some (g, u) (f, t) found) in
            (entry, refl, inserted_entries first t d p entry (ins ∙ ap (λ (z : SpacesState). Some z) same))

-- ---- pages that wait

bits_less : (a b : Bool) → (a ≡ true → b ≡ true) → bit_of a ≤ bit_of b
bits_less false b so = omega arith
bits_less true b so = let on = so refl in let is : bit_of b ≡ 1 = ap bit_of on in omega (arith, is)

-- where none waits that did not wait before, no more wait
pub no_more_copies : (row after : EntryRow) → ((p : ℕ) → is_to_copy (after p) ≡ true → is_to_copy (row p) ≡ true) → copies_left after ≤ copies_left row
unfolding copies_left
no_more_copies row after so =
    total-mono page_limit (λ p. bit_of (is_to_copy (after p))) (λ p. bit_of (is_to_copy (row p)))
    (λ p lt. bits_less (is_to_copy (after p)) (is_to_copy (row p)) (so p))

-- and where one of them waits no more, fewer do
pub one_copy_less : (row after : EntryRow) (q : ℕ) → q < page_limit → is_to_copy (row q) ≡ true → is_to_copy (after q) ≡ false →
    ((p : ℕ) → is_to_copy (after p) ≡ true → is_to_copy (row p) ≡ true) → copies_left after < copies_left row
unfolding copies_left
one_copy_less row after q below waits done so =
    let here : 1 + bit_of (is_to_copy (after q)) ≤ bit_of (is_to_copy (row q)) =
    let off : bit_of (is_to_copy (after q)) ≡ 0 = ap bit_of done in
    let on : bit_of (is_to_copy (row q)) ≡ 1 = ap bit_of waits in omega (arith, off, on) in
    let less = total-less page_limit q 1 (λ p. bit_of (is_to_copy (after p))) (λ p. bit_of (is_to_copy (row p))) below
    (λ p lt. bits_less (is_to_copy (after p)) (is_to_copy (row p)) (so p)) here in
    omega (arith, less)

-- an entry that does not wait is put in the place of another
module _ (s t : SpacesState) (d p : ℕ) (o : Option Entry) (is : t.entries ≡ put s.entries d p o) (ready : is_to_copy (option_map lasting o) ≡ false) where
  still_waits : (q : ℕ) → is_to_copy (rows_of t d q) ≡ true → is_to_copy (rows_of s d q) ≡ true
  unfolding rows_of
  still_waits q waits =
      put-holds s.entries d p o (λ a b (x : Option Entry). is_to_copy (option_map lasting x) ≡ true → is_to_copy (option_map lasting (s.entries a b)) ≡ true)
      (λ waits_too. absurd (let contradiction : true ≡ false = sym waits_too ∙ ready in cc)) (λ a b off waits_too. waits_too) d q
      (sym (λ i. is_to_copy (option_map lasting (is i d q))) ∙ waits)

  pub put_copies : copies_left (rows_of t d) ≤ copies_left (rows_of s d)
  put_copies = no_more_copies (rows_of s d) (rows_of t d) still_waits

  pub put_copies_less : p < page_limit → is_to_copy (rows_of s d p) ≡ true → copies_left (rows_of t d) < copies_left (rows_of s d)
  unfolding rows_of
  put_copies_less below waits =
      one_copy_less (rows_of s d) (rows_of t d) p below waits
      ((λ i. is_to_copy (option_map lasting (is i d p))) ∙ ap (λ (x : Option Entry). is_to_copy (option_map lasting x)) (put-at s.entries d p o) ∙ ready)
      still_waits
