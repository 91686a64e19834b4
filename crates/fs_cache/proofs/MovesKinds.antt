-- What each kind of call carries on: a page that is taken, filled, mapped, written to its block, or taken away.
use Rattle.std.proofs.Common.{◌≡◌, ◌≢◌, ◌∙◌, ◌<◌, inl, inr, ℕ, Bool, true, false, List, Option, Some, None, refl, sym, ap, subst}
use Rattle.jos_base.specs.declared.numbers.TheConstants.{PTE_D}
use Rattle.jos_base.specs.Reach.{Entry}
use Rattle.jos_base.specs.Words.{has_bit, is_exactly}
use Rattle.lib_os.specs.Disk.{Disk}
use Rattle.lib_os.specs.Rows.{IsPage}
use Rattle.fs_blocks.specs.declared.place.CachePlace.TheVariants as at
use Rattle.fs_blocks.specs.CachePlans.{page_perm}
use Rattle.fs_cache.specs.CacheStands.{CacheView, ArePassingOn, HoldsBlock, IsBlockEntry}
use Rattle.fs_cache.proofs.Views.{BytesBeside, BytesKept, RowSet, Unmapped}
use Rattle.fs_cache.proofs.MovesBearing.{Bears, Carried, put, value_by, some_same, not_some, not_both, exactly_at, exactly_other}

abbrev pub Nobody : ℕ → ℕ → Type 0
Nobody n m = ⊥

abbrev pub mapped_anew : ℕ → Entry
mapped_anew frame = record { frame = frame; perm = page_perm }

pub anew_stands : (frame : ℕ) → IsBlockEntry (mapped_anew frame)
anew_stands frame = record { used = false; written = false; bits = refl }

pub anew_clean : (frame : ℕ) → has_bit (mapped_anew frame).perm PTE_D ≡ false
anew_clean frame = refl

module _ (d : Disk) (v w : CacheView) (b : ℕ) where
  -- the one entry of the block
  abbrev IsEntry : Entry → Type 0
  IsEntry y = (z : Entry) → w.row b ≡ Some z → y ≡ z

  is_entry : (y : Entry) → RowSet v w b (Some y) → IsEntry y
  is_entry y set z is = some_same y z (sym set.set ∙ is)

  entry_by : (y : Entry) → RowSet v w b (Some y) → IsBlockEntry y → (z : Entry) → w.row b ≡ Some z → IsBlockEntry z
  entry_by y set stands z is = subst (λ (e : Entry). IsBlockEntry e) (is_entry y set z is) stands

  page_by : (y : Entry) → RowSet v w b (Some y) → IsPage (w.bytes y.frame) → (z : Entry) → w.row b ≡ Some z → IsPage (w.bytes z.frame)
  page_by y set stands z is = subst (λ (e : Entry). IsPage (w.bytes e.frame)) (is_entry y set z is) stands

  -- a page that is mapped anew is not dirty
  dirty_by : (frame : ℕ) (k : ℕ) → RowSet v w b (Some (mapped_anew frame)) → (z : Entry) → w.row b ≡ Some z → has_bit z.perm PTE_D ≡ true → b < k
  dirty_by frame k set z is on =
      not_both (has_bit z.perm PTE_D) on
      (sym (ap (λ (e : Entry). has_bit e.perm PTE_D) (is_entry (mapped_anew frame) set z is)) ∙ anew_clean frame)

  value_out : (t : Bool) → t ≡ true → value_by d w.bytes b t (w.row b) ≡ d.block b
  value_out t is = ap (λ (x : Bool). value_by d w.bytes b x (w.row b)) is

  -- A page is taken for a block that has none.
  pub page_taken : (frame : ℕ) → Bears d v None Nobody → v.row b ≡ None → RowSet v w b (Some (mapped_anew frame)) → IsPage (w.bytes frame) →
      ((m : ℕ) (e : Entry) → v.row m ≡ Some e → e.frame ≢ frame) → BytesKept v w → Carried d d v w None (Some b) Nobody
  page_taken frame h none set page lone bytes = put d d v w b None (Some b) Nobody Nobody h (record {
    rest = set.rest;
    others = λ m x ne is. bytes m x is;
    count = refl;
    blocks = λ m ne. refl;
    outside = λ m ne. exactly_other m b ne;
    entry = entry_by (mapped_anew frame) set (anew_stands frame);
    dirty = dirty_by frame d.count set;
    page = page_by (mapped_anew frame) set page;
    clean = λ y is out below clean. not_both (is_exactly b (Some b)) (exactly_at b) out;
    value = λ below. value_out (is_exactly b (Some b)) (exactly_at b) ∙ sym (ap (λ (o : Option Entry). value_by d v.bytes b false o) none);
    lone = λ y m x is ne other frames.
        absurd (lone m x other (frames ∙ sym (ap (λ (e : Entry). e.frame) (is_entry (mapped_anew frame) set y is))));
    passing = λ n m first second both. both;
  })

  -- The block is read into its page.
  pub page_filled : (x y : Entry) → Bears d v (Some b) Nobody → v.row b ≡ Some x → b < d.count → RowSet v w b (Some y) → y.frame ≡ x.frame →
      IsBlockEntry y → w.bytes x.frame ≡ d.block b → IsPage (d.block b) → BytesBeside v w x.frame → Carried d d v w (Some b) None Nobody
  page_filled x y h stands few set same entry bytes page beside = put d d v w b (Some b) None Nobody Nobody h (record {
    rest = set.rest;
    others = λ m z ne is. beside m z is (λ frames. apart m z ne is frames);
    count = refl;
    blocks = λ m ne. refl;
    outside = λ m ne. sym (exactly_other m b ne);
    entry = entry_by y set entry;
    dirty = λ z is on. few;
    page = page_by y set (subst (λ (l : List ℕ). IsPage l) (sym holds) page);
    clean = λ z is out below clean. ap (λ (e : Entry). w.bytes e.frame) (sym (is_entry y set z is)) ∙ holds;
    value = λ below.
        ap (λ (o : Option Entry). value_by d w.bytes b false o) set.set ∙ holds
        ∙ sym (ap (λ (t : Bool). value_by d v.bytes b t (v.row b)) (exactly_at b));
    lone = λ z m e is ne other frames.
        absurd (apart m e ne other (frames ∙ sym (ap (λ (e : Entry). e.frame) (is_entry y set z is)) ∙ same));
    passing = λ n m first second both. both;
  })
    where
      holds : w.bytes y.frame ≡ d.block b
      holds = ap w.bytes same ∙ bytes

      apart : (m : ℕ) (e : Entry) → m ≢ b → v.row m ≡ Some e → e.frame ≡ x.frame → ⊥
      apart m e ne is frames = elim (h.apart m b e x is stands frames) [ inl at ↦ ne at | inr both ↦ both ]

  -- The page has an entry of the same frame, and where that is clean, the disk's block has its bytes.
  pub page_entered : (e : Disk) (x y : Entry) → Bears d v None Nobody → v.row b ≡ Some x → RowSet v w b (Some y) → y.frame ≡ x.frame →
      IsBlockEntry y → (has_bit y.perm PTE_D ≡ true → b < e.count) → BytesKept v w → e.count ≡ d.count → ((m : ℕ) → m ≢ b → e.block m ≡ d.block m) →
      (b < e.count → has_bit y.perm PTE_D ≡ false → v.bytes x.frame ≡ e.block b) → Carried d e v w None None Nobody
  page_entered e x y h stands set same entry dirty bytes count blocks clean = put d e v w b None None Nobody Nobody h (record {
    rest = set.rest;
    others = λ m z ne is. bytes m z is;
    count = count;
    blocks = blocks;
    outside = λ m ne. refl;
    entry = entry_by y set entry;
    dirty = λ z is on. dirty (ap (λ (k : Entry). has_bit k.perm PTE_D) (is_entry y set z is) ∙ on);
    page = page_by y set (subst (λ (l : List ℕ). IsPage l) (sym holds) (h.pages b x stands));
    clean = λ z is out below unset.
        ap (λ (e : Entry). w.bytes e.frame) (sym (is_entry y set z is)) ∙ holds
        ∙ clean below (ap (λ (e : Entry). has_bit e.perm PTE_D) (is_entry y set z is) ∙ unset);
    value = λ below.
        ap (λ (o : Option Entry). value_by e w.bytes b false o) set.set ∙ holds
        ∙ sym (ap (λ (o : Option Entry). value_by d v.bytes b false o) stands);
    lone = λ z m k is ne other frames.
        absurd (apart m k ne other (frames ∙ sym (ap (λ (e : Entry). e.frame) (is_entry y set z is)) ∙ same));
    passing = λ n m first second both. both;
  })
    where
      holds : w.bytes y.frame ≡ v.bytes x.frame
      holds = ap w.bytes same ∙ bytes b x stands

      apart : (m : ℕ) (k : Entry) → m ≢ b → v.row m ≡ Some k → k.frame ≡ x.frame → ⊥
      apart m k ne is frames = elim (h.apart m b k x is stands frames) [ inl at ↦ ne at | inr both ↦ both ]

  -- The page at hand is the block's too, which had none.
  pub page_moved : (hand : ℕ) (x : Entry) → Bears d v None Nobody → v.row hand ≡ Some x → v.row b ≡ None →
      RowSet v w b (Some (mapped_anew x.frame)) → BytesKept v w → Carried d d v w None (Some b) (ArePassingOn (at.Leaving b) hand)
  page_moved hand x h stands none set bytes = put d d v w b None (Some b) Nobody (ArePassingOn (at.Leaving b) hand) h (record {
    rest = set.rest;
    others = λ m z ne is. bytes m z is;
    count = refl;
    blocks = λ m ne. refl;
    outside = λ m ne. exactly_other m b ne;
    entry = entry_by (mapped_anew x.frame) set (anew_stands x.frame);
    dirty = dirty_by x.frame d.count set;
    page = page_by (mapped_anew x.frame) set (subst (λ (l : List ℕ). IsPage l) (sym (bytes hand x stands)) (h.pages hand x stands));
    clean = λ y is out below clean. not_both (is_exactly b (Some b)) (exactly_at b) out;
    value = λ below. value_out (is_exactly b (Some b)) (exactly_at b) ∙ sym (ap (λ (o : Option Entry). value_by d v.bytes b false o) none);
    lone = λ y m z is ne other frames.
        let at_hand = hand_alone m z other (frames ∙ sym (ap (λ (e : Entry). e.frame) (is_entry (mapped_anew x.frame) set y is))) in
        (inl (refl, at_hand), inr (at_hand, refl));
    passing = λ n m first second both. absurd both;
  })
    where
      hand_alone : (m : ℕ) (e : Entry) → v.row m ≡ Some e → e.frame ≡ x.frame → m ≡ hand
      hand_alone m e is frames = elim (h.apart m hand e x is stands frames) [ inl at ↦ at | inr both ↦ absurd both ]

  -- The block's page is taken away, and the disk's block holds what it held.
  pub page_gone : (f : Option ℕ) (P : ℕ → ℕ → Type 0) → Bears d v f P → is_exactly b f ≡ false → HoldsBlock d v b → Unmapped v w b →
      ((n m : ℕ) → n ≢ b → m ≢ b → P n m → ⊥) → Carried d d v w f f Nobody
  page_gone f P h out held gone passing = put d d v w b f f P Nobody h (record {
    rest = gone.row.rest;
    others = λ m x ne is. gone.bytes m x ne is;
    count = refl;
    blocks = λ m ne. refl;
    outside = λ m ne. refl;
    entry = λ y is. not_some (w.row b) y gone.row.set is;
    dirty = λ y is on. not_some (w.row b) y gone.row.set is;
    page = λ y is. not_some (w.row b) y gone.row.set is;
    clean = λ y is inside below clean. not_some (w.row b) y gone.row.set is;
    value = λ below.
        ap (λ (t : Bool). value_by d w.bytes b t (w.row b)) out
        ∙ ap (λ (o : Option Entry). value_by d w.bytes b false o) gone.row.set
        ∙ sym (held.holds below)
        ∙ sym (ap (λ (o : Option Entry). value_by d v.bytes b false o) held.stands)
        ∙ sym (ap (λ (t : Bool). value_by d v.bytes b t (v.row b)) out);
    lone = λ y m x is ne other frames. not_some (w.row b) y gone.row.set is;
    passing = passing;
  })
