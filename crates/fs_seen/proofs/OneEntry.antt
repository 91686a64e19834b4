-- What changes of a space where the entry of one page does: frames in use keep their bytes, and are mapped as often, but for the one that stood
-- there and the one that comes.
use Rattle.std.proofs.Common.{◌≡◌, ◌≢◌, ◌∙◌, ◌+◌, ◌/◌, ◌%◌, ◌==◌, ◌<◌, ℕ, Bool, true, false, List, [], ◌∷◌, Option, Some, None, Result, Ok, Err}
use Rattle.std.proofs.Common.{refl, sym, ap, subst, arith, if◌then◌else◌}
use Rattle.std.proofs.lemmas.Option.{none-some, same_Some}
use Rattle.std.specs.Prelude.{nat_lt}
use Rattle.std.specs.Option.{option_map}
use Rattle.jos_base.specs.declared.memory.Access.{Access}
use Rattle.jos_base.specs.declared.memory.Access.TheVariants.{Write}
use Rattle.jos_base.specs.declared.memory.PageFault.{PageFault}
use Rattle.jos_base.specs.declared.numbers.TheConstants.{NPTENTRIES}
use Rattle.jos_base.specs.Counting.{frame_limit, named, page_count, page_limit}
use Rattle.jos_base.specs.Reach.{Entry, FrameOffset}
use Rattle.jos_base.specs.SpacesState.{SpacesState, allocated, frame_of, free, inserted, mapped, own_count, page, put, reference_count, released, tabled}
use Rattle.jos_base.specs.SpacesState.{unmapped, with_entry, without_entry}
use Rattle.jos_base.specs.UserMemory.{reach_in, stored_byte, touched, touched_by, with_bits, with_byte_at, with_page_bits, with_region_bit}
use Rattle.jos_base.specs.Windows.{table_index}
use Rattle.jos_base.specs.Words.{page_number}
use Rattle.jos_base.proofs.Counts.{page_count-put}
use Rattle.jos_base.proofs.Maps.{upd-other}
use Rattle.jos_base.proofs.Released.{released_entries}
use Rattle.lib_os.specs.InOrder.{AreFree, HasOneUse}
use Rattle.lib_os.proofs.BytesPut.{spaces_put}
use Rattle.fs_tree.proofs.TiesPages.{PageAccessed}
use Rattle.fs_seen.proofs.PagesTaken.{HeadFree, Tabled, not_named, page_taken, released_pages, released_uses, tabled_so}

pub record OneEntry (s t : SpacesState) (d p : ℕ) (o : Option Entry) : Type 0 where
  pub entries : t.entries ≡ put s.entries d p o
  pub kept : (f : ℕ) → s.uses f ≢ free → frame_of (s.entries d p) ≢ Some f → frame_of o ≢ Some f →
      (t.pages f ≡ s.pages f) × (reference_count t f ≡ reference_count s f)

-- how often a frame is mapped that is neither
module _ (s t : SpacesState) (d p : ℕ) (o : Option Entry) (below_d : d < frame_limit) (below_p : p < page_limit)
    (entries : t.entries ≡ put s.entries d p o) where
  counts_kept : (f : ℕ) → t.uses f ≡ s.uses f → frame_of (s.entries d p) ≢ Some f → frame_of o ≢ Some f → reference_count t f ≡ reference_count s f
  counts_kept f uses old new =
      let now : page_count t.entries f + named f (s.entries d p) ≡ page_count s.entries f + named f o =
      ap (λ (e : ℕ → ℕ → Option Entry). page_count e f + named f (s.entries d p)) entries ∙ page_count-put s.entries d p o f below_d below_p in
      let was : named f (s.entries d p) ≡ 0 = not_named (s.entries d p) f old in
      let is : named f o ≡ 0 = not_named o f new in
      let own : own_count (t.uses f) ≡ own_count (s.uses f) = ap own_count uses in
      omega (arith, now, was, is, own)

-- ---- a page is put there, or taken away

module _ (s : SpacesState) (h : HasOneUse s) (d p : ℕ) (below_d : d < frame_limit) (below_p : p < page_limit) where
  head : HeadFree s
  head f rest at = let listed = subst (AreFree s.uses) at h.free_list in listed.0

  module _ (x : Entry) (u : SpacesState) (has : Tabled s u) where
    abbrev w : SpacesState
    w = with_entry u d p x

    abbrev t : SpacesState
    t = released w (frame_of (u.entries d p))

    old_is : frame_of (u.entries d p) ≡ frame_of (s.entries d p)
    old_is = λ i. frame_of (has.entries i d p)

    entries_now : t.entries ≡ put s.entries d p (Some x)
    entries_now =
        released_entries w (frame_of (u.entries d p)) ∙ ap (λ (f : ℕ → ℕ → Option Entry). put f d p (Some x)) has.entries

    one_mapped : OneEntry s t d p (Some x)
    one_mapped = record {
      entries = entries_now;
      kept = λ f used old new.
          let apart : frame_of (u.entries d p) ≢ Some f = λ same. old (sym old_is ∙ same) in
          let ne : f ≢ x.frame = λ same. new (ap (λ (g : ℕ). Some g) (sym same)) in
          let uses : t.uses f ≡ s.uses f =
          released_uses w f (frame_of (u.entries d p)) apart ∙ upd-other u.uses x.frame page f ne ∙ has.uses f used in (
            released_pages w f (frame_of (u.entries d p)) apart ∙ has.pages f used,
            counts_kept s t d p (Some x) below_d below_p entries_now f uses old new,
          );
    }

  pub one_inserted : (x : Entry) (t : SpacesState) → inserted s d p x ≡ Some t → OneEntry s t d p (Some x)
  unfolding inserted mapped
  one_inserted x t is = by_table (tabled s d (p / NPTENTRIES)) refl is
    where
      by_table : (o : Option SpacesState) → tabled s d (p / NPTENTRIES) ≡ o → option_map (λ u. mapped u d p x) o ≡ Some t → OneEntry s t d p (Some x)
      by_table None at found = absurd (none-some t found)
      by_table (Some u) at found =
          subst (λ (z : SpacesState). OneEntry s z d p (Some x)) (same_Some (mapped u d p x) t found)
          (one_mapped x u (tabled_so s u d (p / NPTENTRIES) head at))

  pub one_unmapped : OneEntry s (unmapped s d p) d p None
  unfolding unmapped
  one_unmapped =
      let gone : SpacesState = without_entry s d p in
      let old : Option ℕ = frame_of (s.entries d p) in
      record {
        entries = released_entries gone old;
        kept = λ f used apart new. (
          released_pages gone f old apart,
          counts_kept s (released gone old) d p None below_d below_p (released_entries gone old) f (released_uses gone f old apart) apart new,
        );
      }

  pub one_taken : (t : SpacesState) (perm f : ℕ) → allocated s d p perm ≡ Some (f, t) →
      (s.uses f ≡ free) × OneEntry s t d p (Some (record { frame = f; perm = perm }))
  one_taken t perm f is =
      let it = page_taken s t d p perm f h below_d below_p is in
      (it.was_free, record { entries = it.entries; kept = λ g used old new. it.kept g used old })

  -- ---- or it is accessed

  pub one_accessed : (t : SpacesState) (e : Entry) (bytes : List ℕ) → s.entries d p ≡ Some e → (a : PageAccessed s t d p e bytes) → t.uses ≡ s.uses →
      OneEntry s t d p (Some a.entry)
  one_accessed t e bytes stands a uses = record {
    entries = a.entries;
    kept = λ f used old new.
        let ne : f ≢ e.frame = λ same. old (ap frame_of stands ∙ ap (λ (g : ℕ). Some g) (sym same)) in (
          (λ i. a.pages i f) ∙ upd-other s.pages e.frame bytes f ne,
          counts_kept s t d p (Some a.entry) below_d below_p a.entries f (λ i. uses i f) old new,
        );
  }

-- ---- an access changes no use

bits_uses : (s : SpacesState) (d number : ℕ) (access : Access) → (with_bits s d number access).uses ≡ s.uses
bits_uses s d number access = by_place (nat_lt number page_limit) (number / NPTENTRIES == table_index)
  where
    by_place : (below window : Bool) →
        (if below then with_page_bits s d number access else if window then with_region_bit s d (number % NPTENTRIES) else s).uses ≡ s.uses
    by_place true window = refl
    by_place false true = refl
    by_place false false = refl

pub uses_touched : (s : SpacesState) (d va : ℕ) (access : Access) → (touched s d va access).uses ≡ s.uses
unfolding touched
uses_touched s d va access = by_outcome (reach_in s d va access)
  where
    by_outcome : (r : Result FrameOffset PageFault) → (touched_by s d va access r).uses ≡ s.uses
    by_outcome (Ok location) = bits_uses s d (page_number va) access
    by_outcome (Err fault) = refl

stored_uses : (s : SpacesState) (d va byte : ℕ) → (stored_byte s d va byte).uses ≡ s.uses
unfolding stored_byte
stored_uses s d va byte = by_outcome (reach_in s d va Write)
  where
    by_outcome : (r : Result FrameOffset PageFault) → (with_byte_at s byte r).uses ≡ s.uses
    by_outcome (Ok location) = refl
    by_outcome (Err fault) = refl

pub uses_put : (s : SpacesState) (d va : ℕ) (bytes : List ℕ) → (spaces_put s d va bytes).uses ≡ s.uses
unfolding spaces_put
uses_put s d va [] = refl
uses_put s d va (byte ∷ rest) = uses_put (stored_byte s d va byte) d (va + 1) rest ∙ stored_uses s d va byte
