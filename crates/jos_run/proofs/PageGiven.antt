-- Where the file server's page of an open file goes to a client, the server's own space is as it was.
use Rattle.std.proofs.Common.{◌≡◌, ◌≢◌, ◌∙◌, ◌/◌, ◌==◌, ℕ, Bool, true, false, List, [], ◌∷◌, Option, Some, None, refl, sym, ap, subst, arith}
use Rattle.std.proofs.lemmas.Bool.Decides.{nat_tests}
use Rattle.std.proofs.lemmas.Option.{none-some, same_Some}
use Rattle.std.specs.Option.{option_map}
use Rattle.jos_base.specs.declared.numbers.TheConstants.{NPTENTRIES}
use Rattle.jos_base.specs.Environments.{Slot}
use Rattle.jos_base.specs.KernelState.{KernelState, slot_at, with_spaces}
use Rattle.jos_base.specs.Reach.{Entry}
use Rattle.jos_base.specs.SpacesState.{Region, SpacesState, frame_of, inserted, mapped, tabled, tabled_by, tabled_new, with_entry}
use Rattle.jos_base.specs.SystemCalls.{is_page_perm}
use Rattle.jos_base.proofs.Puts.{put-other}
use Rattle.jos_base.proofs.Released.{released_entries, released_regions}
use Rattle.lib_os.specs.AbstractState.{Server}
use Rattle.lib_os.specs.InOrder.{IsInOrder}
use Rattle.lib_os.specs.Rows.{lasting, rows_of}
use Rattle.lib_os.proofs.Effects.{Given}
use Rattle.lib_os.proofs.Placing.{inserted_given}
use Rattle.lib_os.proofs.Sends.{received_in, with_message}
use Rattle.lib_os.proofs.Slots.{slot_kept}
use Rattle.fs_seen.specs.ServerMemory.{entry_of, request_page}
use Rattle.fs_seen.specs.ServerOthers.{LeavesBytes}

-- ---- the spaces

-- A page that is put in one space leaves the entries and the tables of another.
record LeavesSpace (s t : SpacesState) (q : ℕ) : Type 0 where
  entries : (r : ℕ) → t.entries q r ≡ s.entries q r
  regions : (r : ℕ) → t.regions q r ≡ s.regions q r

table_leaves : (s u : SpacesState) (d index q : ℕ) → q ≢ d → tabled s d index ≡ Some u → LeavesSpace s u q
unfolding tabled
table_leaves s u d index q other is = by_region (s.regions d index) is
  where
    by_list : (list : List ℕ) → s.free ≡ list → tabled_new s list d index ≡ Some u → LeavesSpace s u q
    by_list [] free_is is = absurd (none-some u is)
    by_list (f ∷ rest) free_is is =
        subst (λ (z : SpacesState). LeavesSpace s z q) (same_Some _ u is) (record {
          entries = λ r. refl;
          regions = λ r. put-other s.regions d index (Some (record { table = f; accessed = false })) q r (λ same too. other same);
        })

    by_region : (o : Option Region) → tabled_by s o d index ≡ Some u → LeavesSpace s u q
    by_region (Some region) is = subst (λ (z : SpacesState). LeavesSpace s z q) (same_Some s u is) (record { entries = λ r. refl; regions = λ r. refl })
    by_region None is = by_list s.free refl is

inserted_leaves : (s t : SpacesState) (d p q : ℕ) (e : Entry) → q ≢ d → inserted s d p e ≡ Some t → LeavesSpace s t q
unfolding inserted mapped
inserted_leaves s t d p q e other is = by_table (tabled s d (p / NPTENTRIES)) refl is
  where
    by_table : (o : Option SpacesState) → tabled s d (p / NPTENTRIES) ≡ o → option_map (λ u. mapped u d p e) o ≡ Some t → LeavesSpace s t q
    by_table None at found = absurd (none-some t found)
    by_table (Some u) at found =
        let was = table_leaves s u d (p / NPTENTRIES) q other at in
        let old : Option ℕ = frame_of (u.entries d p) in
        subst (λ (z : SpacesState). LeavesSpace s z q) (same_Some (mapped u d p e) t found) (record {
          entries = λ r.
              (λ i. released_entries (with_entry u d p e) old i q r) ∙ put-other u.entries d p (Some e) q r (λ same too. other same) ∙ was.entries r;
          regions = λ r. (λ i. released_regions (with_entry u d p e) old i q r) ∙ was.regions r;
        })

-- ---- the server's

module _ (s : KernelState) (sp : SpacesState) (client p : ℕ) (e source : Entry) (place : ℕ) (in_order : IsInOrder s)
    (after : IsInOrder (with_spaces s sp)) (bits : is_page_perm e.perm ≡ true) (same : source.frame ≡ e.frame)
    (stands : entry_of s 0 place ≡ Some source) (apart : (slot_at s client).directory ≢ (slot_at s 0).directory) (not_first : 0 ≢ client)
    (put_is : inserted s.spaces (slot_at s client).directory p e ≡ Some sp) where
  left : LeavesSpace s.spaces sp (slot_at s 0).directory
  left = inserted_leaves s.spaces sp (slot_at s client).directory p (slot_at s 0).directory e (λ one. apart (sym one)) put_is

  page_given : Given s.spaces sp (slot_at s client).directory p e
  page_given =
      inserted_given s.spaces sp (slot_at s client).directory p e (slot_at s 0).directory place source in_order.frames after.frames bits stands same put_is

  row_then : (q : ℕ) (x : Entry) → entry_of s 0 q ≡ Some x → rows_of sp (slot_at s 0).directory q ≡ Some (lasting x)
  unfolding rows_of
  row_then q x is = ap (λ (o : Option Entry). option_map lasting o) (left.entries q ∙ is)

  bytes_left : (q : ℕ) (x : Entry) → entry_of s 0 q ≡ Some x → sp.pages x.frame ≡ s.spaces.pages x.frame
  bytes_left q x is = by_frame (x.frame == e.frame) refl
    where
      by_frame : (c : Bool) → (x.frame == e.frame) ≡ c → sp.pages x.frame ≡ s.spaces.pages x.frame
      by_frame true test =
          let one : e.frame ≡ x.frame = grind (arith, nat_tests) in subst (λ (f : ℕ). sp.pages f ≡ s.spaces.pages f) one page_given.same
      by_frame false test =
          let other : x.frame ≢ e.frame = grind (arith, nat_tests) in
          page_given.placed.bytes (slot_at s 0).directory q (lasting x) (row_then q x is) other

  pub given_leaves : (server : Server) (value perm : ℕ) → LeavesBytes server s (with_message (with_spaces s sp) 0 client value perm) 0
  given_leaves server value perm = record {
    slot = slot_is;
    entries = λ q. (λ i. sp.entries ((λ (x : Slot). x.directory) (slot_is i)) q) ∙ left.entries q;
    tables = left.regions;
    bytes = λ q x inside other is. bytes_left q x is;
    request = λ keeps x is. bytes_left request_page x is;
  }
    where
      slot_is : slot_at (with_message (with_spaces s sp) 0 client value perm) 0 ≡ slot_at s 0
      slot_is =
          slot_kept (with_spaces s sp) client (received_in (slot_at s client) (slot_at s 0).id value perm) 0 not_first
