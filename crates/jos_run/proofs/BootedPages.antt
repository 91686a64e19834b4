-- The pages that a space is given at the beginning. Each is of its environment's own, no frame stands twice, and what other spaces have is as
-- it was; and so where one page more is given to it.
use Rattle.std.proofs.Common.{◌≡◌, ◌≢◌, ◌∙◌, ◌⊎◌, inl, inr, ◌/◌, ◌==◌, ◌&&◌, ◌||◌, ℕ, Bool, true, false, List, [], Option, Some, None}
use Rattle.std.proofs.Common.{refl, sym, ap, arith}
use Rattle.std.specs.Prelude.{is_some}
use Rattle.std.specs.Option.{option_map}
use Rattle.std.proofs.lemmas.Bool.{cases_eq}
use Rattle.std.proofs.lemmas.Bool.Decides.{nat_tests}
use Rattle.std.proofs.lemmas.Option.{same_Some}
use Rattle.jos_base.specs.declared.numbers.TheConstants.{NPTENTRIES}
use Rattle.jos_base.specs.Reach.{Entry}
use Rattle.jos_base.specs.SpacesState.{SpacesState, Region, put, with_page_bytes}
use Rattle.jos_base.specs.SystemCalls.{has_write}
use Rattle.jos_base.specs.Words.{upd}
use Rattle.jos_kernel.specs.Boot.{perm_of}
use Rattle.lib_os.specs.AbstractMemory.{has_page_in}
use Rattle.lib_os.specs.AbstractState.{Page, own}
use Rattle.lib_os.specs.Rows.{lasting, rows_of}
use Rattle.lib_os.proofs.Effects.{Made, Placed}
use Rattle.lib_os.proofs.PagesStand.{other_regions, row_elsewhere, row_placed}
use Rattle.jos_base.proofs.Maps.{upd-at, upd-other, upd-true}
use Rattle.jos_base.proofs.Puts.{Elsewhere, put-at, put-other}
use Rattle.jos_run.proofs.PagesFilled.{has_page-put}

-- the page of its own that an entry is to an environment
abbrev pub own_by : (ℕ → List ℕ) → Entry → Page
own_by bytes e = own (bytes e.frame) (has_write e.perm)

-- it may be read, and may be written or not, and has no other bits
abbrev pub IsPlain : ℕ → Type 0
IsPlain perm = (writable : Bool) × (perm ≡ perm_of writable)

-- the space has these pages
pub record HasPages (space : ℕ) (memory : ℕ → Option Page) (t : SpacesState) : Type 0 where
  pub pages : (p : ℕ) → memory p ≡ option_map (own_by t.pages) (rows_of t space p)
  pub plain : (p : ℕ) (x : Entry) → rows_of t space p ≡ Some x → IsPlain x.perm
  pub alone : (p q : ℕ) (x y : Entry) → p ≢ q → rows_of t space p ≡ Some x → rows_of t space q ≡ Some y → x.frame ≢ y.frame
  pub tables : (r : ℕ) → has_page_in memory r ≡ is_some (t.regions space r)

-- What other spaces had first they have still, and no page of the space is in a frame of theirs.
pub record OthersKept (space : ℕ) (first t : SpacesState) : Type 0 where
  pub entries : (d p : ℕ) → d ≢ space → t.entries d p ≡ first.entries d p
  pub tables : (d r : ℕ) → d ≢ space → is_some (t.regions d r) ≡ is_some (first.regions d r)
  pub bytes : (d p : ℕ) (x : Entry) → d ≢ space → first.entries d p ≡ Some x → t.pages x.frame ≡ first.pages x.frame
  pub apart : (d p q : ℕ) (x y : Entry) → d ≢ space → first.entries d p ≡ Some x → t.entries space q ≡ Some y → x.frame ≢ y.frame

-- the region of an entry that is put has a table
region_placed : {s t : SpacesState} {d p : ℕ} {e : Entry} → Placed s t d p e → (tables : ℕ → Bool) →
    ((r : ℕ) → tables r ≡ is_some (s.regions d r)) → (r : ℕ) → upd tables (p / NPTENTRIES) true r ≡ is_some (t.regions d r)
region_placed {s = s} {t = t} {d = d} {p = p} placed tables are r =
    let here : (d == d) ≡ true = grind (arith, nat_tests) in
    upd-true tables (p / NPTENTRIES) r ∙ ap (λ (c : Bool). (r == p / NPTENTRIES) || c) (are r)
    ∙ sym (ap (λ (c : Bool). (c && (r == p / NPTENTRIES)) || is_some (s.regions d r)) here)
    ∙ sym (placed.regions d r)

pub no_region : (o : Option Region) → is_some o ≡ false → o ≡ None
no_region None is = refl
no_region (Some region) is = absurd cc

-- ---- one page more

module _ {space : ℕ} {memory : ℕ → Option Page} {t v : SpacesState} (h : HasPages space memory t) (number f : ℕ) (writable : Bool)
    (bytes : List ℕ) (made : Made t v space number (perm_of writable)) (at_frame : made.frame ≡ f) where
  abbrev filled : SpacesState
  filled = with_page_bytes v f bytes

  abbrev entry : Entry
  entry = record { frame = made.frame; perm = perm_of writable }

  here : rows_of filled space number ≡ Some entry
  unfolding rows_of
  here = row_placed made.placed

  there : (d p : ℕ) → Elsewhere d p space number → rows_of filled d p ≡ rows_of t d p
  unfolding rows_of
  there = row_elsewhere made.placed

  new_bytes : filled.pages made.frame ≡ bytes
  new_bytes = ap filled.pages at_frame ∙ upd-at v.pages f bytes

  -- what stood in the space before keeps its bytes
  old_bytes : (p : ℕ) (x : Entry) → p ≢ number → rows_of t space p ≡ Some x → filled.pages x.frame ≡ t.pages x.frame
  old_bytes p x ne is =
      upd-other v.pages f bytes x.frame (λ same. made.new space p x is (same ∙ sym at_frame))
      ∙ made.placed.bytes space p x (row_elsewhere made.placed space p (λ e. ne) ∙ is) (made.new space p x is)

  -- what stands in the space is the new page, or stood there before
  abbrev IsNewOrOld : ℕ → Entry → Type 0
  IsNewOrOld p x = ((p ≡ number) × (x ≡ entry)) ⊎ ((ne : p ≢ number) × (rows_of t space p ≡ Some x))

  new_or_old : (p : ℕ) (x : Entry) → rows_of filled space p ≡ Some x → IsNewOrOld p x
  new_or_old p x is = elim (cases_eq p number) [
    | inl same ↦ inl (same, same_Some x entry (sym is ∙ ap (rows_of filled space) same ∙ here))
    | inr ne ↦ inr (ne, sym (there space p (λ e. ne)) ∙ is)
  ]

  page_is : (p : ℕ) → upd memory number (Some (own bytes writable)) p ≡ option_map (own_by filled.pages) (rows_of filled space p)
  page_is p = elim (cases_eq p number) [
    | inl same ↦
        ap (upd memory number (Some (own bytes writable))) same ∙ upd-at memory number (Some (own bytes writable))
        ∙ sym (λ i. Some (own (new_bytes i) (bits writable i)))
        ∙ sym (ap (option_map (own_by filled.pages)) (ap (rows_of filled space) same ∙ here))
    | inr ne ↦
        upd-other memory number (Some (own bytes writable)) p ne ∙ h.pages p ∙ old_page (rows_of t space p) refl ne
        ∙ sym (ap (option_map (own_by filled.pages)) (there space p (λ e. ne)))
  ]
    where
      bits : (w : Bool) → has_write (perm_of w) ≡ w
      bits true = refl
      bits false = refl

      old_page : (o : Option Entry) → rows_of t space p ≡ o → p ≢ number → option_map (own_by t.pages) o ≡ option_map (own_by filled.pages) o
      old_page None at ne = refl
      old_page (Some x) at ne = ap (λ (list : List ℕ). Some (own list (has_write x.perm))) (sym (old_bytes p x ne at))

  plain_after : (p : ℕ) (x : Entry) → IsNewOrOld p x → IsPlain x.perm
  plain_after p x (inl new) = (writable, ap (λ (e : Entry). e.perm) new.1)
  plain_after p x (inr old) = h.plain p x old.1

  alone_after : (p q : ℕ) (x y : Entry) → p ≢ q → IsNewOrOld p x → IsNewOrOld q y → x.frame ≢ y.frame
  alone_after p q x y ne (inl new) (inl also) = absurd (ne (new.0 ∙ sym also.0))
  alone_after p q x y ne (inl new) (inr old) = λ same. made.new space q y old.1 (sym same ∙ ap (λ (e : Entry). e.frame) new.1)
  alone_after p q x y ne (inr old) (inl new) = λ same. made.new space p x old.1 (same ∙ ap (λ (e : Entry). e.frame) new.1)
  alone_after p q x y ne (inr old) (inr also) = h.alone p q x y ne old.1 also.1

  pub page_more : HasPages space (upd memory number (Some (own bytes writable))) (with_page_bytes v f bytes)
  page_more = record {
    pages = page_is;
    plain = λ p x is. plain_after p x (new_or_old p x is);
    alone = λ p q x y ne is js. alone_after p q x y ne (new_or_old p x is) (new_or_old q y js);
    tables = λ r. has_page-put memory number (own bytes writable) r
        ∙ region_placed made.placed (has_page_in memory) h.tables r;
  }

-- ---- the others

-- one page more
pub others_more : {space : ℕ} {first t v : SpacesState} → OthersKept space first t → (number f perm : ℕ) (bytes : List ℕ)
    (made : Made t v space number perm) → made.frame ≡ f → v.entries ≡ put t.entries space number (Some (record { frame = f; perm = perm })) →
    OthersKept space first (with_page_bytes v f bytes)
unfolding rows_of
others_more {space = space} {first = first} {t = t} {v = v} h number f perm bytes made at_frame entries_are = record {
  entries = λ d p ne. kept d p ne ∙ h.entries d p ne;
  tables = λ d r ne. other_regions made.placed d r ne ∙ h.tables d r ne;
  bytes = λ d p x ne is.
      upd-other v.pages f bytes x.frame (new d p x ne is)
      ∙ made.placed.bytes d p (lasting x) (ap (option_map lasting) (kept d p ne ∙ h.entries d p ne ∙ is)) (new_frame d p x ne is)
      ∙ h.bytes d p x ne is;
  apart = λ d p q x y ne is js. elim (cases_eq q number) [
    | inl same ↦ λ e. new d p x ne is
        (e ∙ ap (λ (z : Entry). z.frame) (same_Some y entry_put (sym js ∙ (λ i. entries_are i space q) ∙ ap (put t.entries space number (Some entry_put) space) same
        ∙ put-at t.entries space number (Some entry_put))))
    | inr other ↦ h.apart d p q x y ne is
        (sym (put-other t.entries space number (Some entry_put) space q (λ e. other)) ∙ sym (λ i. entries_are i space q) ∙ js)
  ];
}
  where
    entry_put : Entry
    entry_put = record { frame = f; perm = perm }

    kept : (d p : ℕ) → d ≢ space → v.entries d p ≡ t.entries d p
    kept d p ne = (λ i. entries_are i d p) ∙ put-other t.entries space number (Some entry_put) d p (λ e. absurd (ne e))

    new_frame : (d p : ℕ) (x : Entry) → d ≢ space → first.entries d p ≡ Some x → x.frame ≢ made.frame
    new_frame d p x ne is = made.new d p (lasting x) (ap (option_map lasting) (h.entries d p ne ∙ is))

    new : (d p : ℕ) (x : Entry) → d ≢ space → first.entries d p ≡ Some x → x.frame ≢ f
    new d p x ne is same = new_frame d p x ne is (same ∙ sym at_frame)

-- and one more entry of a page that stands there
pub others_beside : {space : ℕ} {first t : SpacesState} → OthersKept space first t → (q number : ℕ) (e : Entry) → t.entries space q ≡ Some e →
    OthersKept space first (record t { entries = put t.entries space number (Some e) })
others_beside {space = space} {first = first} {t = t} h q number e stands = record {
  entries = λ d p ne. put-other t.entries space number (Some e) d p (λ here. absurd (ne here)) ∙ h.entries d p ne;
  tables = h.tables;
  bytes = h.bytes;
  apart = λ d p r x y ne is js. elim (cases_eq r number) [
    | inl same ↦ λ e_is. h.apart d p q x e ne is stands
        (e_is ∙ ap (λ (z : Entry). z.frame) (same_Some y e (sym js ∙ ap (put t.entries space number (Some e) space) same
        ∙ put-at t.entries space number (Some e))))
    | inr other ↦ h.apart d p r x y ne is (sym (put-other t.entries space number (Some e) space r (λ here. other)) ∙ js)
  ];
}

-- ---- what stands there

module _ {space : ℕ} {memory : ℕ → Option Page} {t : SpacesState} (h : HasPages space memory t) (p : ℕ) where
  -- where no page is, there is no entry
  pub no_row : memory p ≡ None → rows_of t space p ≡ None
  no_row none = by_entry (rows_of t space p) refl (sym (h.pages p) ∙ none)
    where
      by_entry : (o : Option Entry) → rows_of t space p ≡ o → option_map (own_by t.pages) o ≡ None → rows_of t space p ≡ None
      by_entry None at seen = at
      by_entry (Some e) at seen = absurd cc

  -- the entry of a page, with its bits and bytes
  pub record HasEntry (bytes : List ℕ) (writable : Bool) : Type 0 where
    pub entry : Entry
    pub stands : rows_of t space p ≡ Some entry
    pub perm : entry.perm ≡ perm_of writable
    pub bytes_are : t.pages entry.frame ≡ bytes

  pub row_of_page : (bytes : List ℕ) (writable : Bool) → memory p ≡ Some (own bytes writable) → HasEntry bytes writable
  row_of_page bytes writable is = by_entry (rows_of t space p) refl (sym (h.pages p) ∙ is)
    where
      listed : Page → List ℕ
      listed (own list w) = list
      listed _ = []

      writes : Page → Bool
      writes (own list w) = w
      writes _ = false

      bits : (perm : ℕ) → IsPlain perm → has_write perm ≡ writable → perm ≡ perm_of writable
      bits perm (w, e) same = e ∙ ap perm_of (sym (of_bits w) ∙ ap has_write (sym e) ∙ same)
        where
          of_bits : (b : Bool) → has_write (perm_of b) ≡ b
          of_bits true = refl
          of_bits false = refl

      by_entry : (o : Option Entry) → rows_of t space p ≡ o → option_map (own_by t.pages) o ≡ Some (own bytes writable) →
          HasEntry bytes writable
      by_entry None at seen = absurd cc
      by_entry (Some e) at seen =
          let page = same_Some (own (t.pages e.frame) (has_write e.perm)) (own bytes writable) seen in
          record {
            entry = e;
            stands = at;
            perm = bits e.perm (h.plain p e at) (ap writes page);
            bytes_are = ap listed page;
          }
