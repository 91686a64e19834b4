-- What a view of the cache's pages bears at whatever place, and how a change of one block's page carries it on.
use Rattle.std.proofs.Common.{◌≡◌, ◌≢◌, ◌∙◌, ◌<◌, ◌⊎◌, inl, inr, ℕ, Bool, true, false, List, Option, Some, None, refl, sym, ap, subst, arith}
use Rattle.std.specs.Prelude.{unwrap_or, is_some, if◌then◌else◌}
use Rattle.std.specs.Option.{option_map}
use Rattle.std.proofs.lemmas.Bool.{cases_eq}
use Rattle.std.proofs.lemmas.Bool.Decides.{nat_tests}
use Rattle.jos_base.specs.declared.numbers.TheConstants.{PTE_D}
use Rattle.jos_base.specs.Reach.{Entry}
use Rattle.jos_base.specs.Words.{has_bit, is_exactly}
use Rattle.lib_os.specs.declared.numbers.TheConstants.{CACHE_BLOCKS}
use Rattle.lib_os.specs.BlockCache.{KeepsValues, IsCache, cached_by}
use Rattle.lib_os.specs.Disk.{Disk}
use Rattle.lib_os.specs.Rows.{IsPage}
use Rattle.fs_blocks.specs.declared.place.CachePlace.{CachePlace}
use Rattle.fs_blocks.specs.declared.place.CacheState.{CacheState}
use Rattle.fs_blocks.specs.CachePlaces.{block_at}
use Rattle.fs_cache.specs.CacheStands.{CacheView, CacheStands, HoldsAt, IsBlockEntry, ArePassingOn, cached_at, filling_at}
use Rattle.fs_cache.proofs.Views.{ViewKept}

-- ---- entries and tests

pub some_same : (x y : Entry) → ◌≡◌ {A = Option Entry} (Some x) (Some y) → x ≡ y
some_same x y same = cc

pub not_some : {A : Type 0} (o : Option Entry) (x : Entry) → o ≡ None → o ≡ Some x → A
not_some o x none is = absurd (let both : ◌≡◌ {A = Option Entry} None (Some x) = sym none ∙ is in cc)

pub entry_of : (o : Option Entry) → is_some o ≡ true → (x : Entry) × (o ≡ Some x)
entry_of None is = absurd (let both : ◌≡◌ {A = Bool} false true = is in cc)
entry_of (Some x) is = (x, refl)

pub not_both : {A : Type 0} (t : Bool) → t ≡ true → t ≡ false → A
not_both t is other = absurd (let both : ◌≡◌ {A = Bool} true false = sym is ∙ other in cc)

pub exactly_at : (n : ℕ) → is_exactly n (Some n) ≡ true
exactly_at n = grind (arith, nat_tests)

pub exactly_other : (n b : ℕ) → n ≢ b → is_exactly n (Some b) ≡ false
exactly_other n b ne = grind (arith, nat_tests)

-- ---- what a block holds

abbrev pub value_by : Disk → (ℕ → List ℕ) → ℕ → Bool → Option Entry → List ℕ
value_by d bytes n out o = unwrap_or (if out then None else option_map (λ (e : Entry). bytes e.frame) o) (d.block n)

pub value_same : (d e : Disk) (bytes other : ℕ → List ℕ) (n : ℕ) (out : Bool) (o : Option Entry) → e.block n ≡ d.block n →
    ((x : Entry) → o ≡ Some x → other x.frame ≡ bytes x.frame) → value_by e other n out o ≡ value_by d bytes n out o
value_same d e bytes other n true o block same = block
value_same d e bytes other n false None block same = block
value_same d e bytes other n false (Some x) block same = same x refl

-- what is cached is the page of an entry
page_from : (bytes : ℕ → List ℕ) (out : Bool) (o : Option Entry) (b : List ℕ) →
    ◌≡◌ {A = Option (List ℕ)} (if out then None else option_map (λ (e : Entry). bytes e.frame) o) (Some b) →
    (e : Entry) × (o ≡ Some e) × (out ≡ false) × (bytes e.frame ≡ b)
page_from bytes true o b is = absurd (let both : ◌≡◌ {A = Option (List ℕ)} None (Some b) = is in cc)
page_from bytes false None b is = absurd (let both : ◌≡◌ {A = Option (List ℕ)} None (Some b) = is in cc)
page_from bytes false (Some e) b is =
    let same : ◌≡◌ {A = Option (List ℕ)} (Some (bytes e.frame)) (Some b) = is in
    (e, refl, refl, cc)

-- ---- at whatever place

-- A block's page that is clean holds what the disk's block holds; one block's page may count as none; and blocks have pages of their own,
-- but for some two.
pub record Bears (d : Disk) (v : CacheView) (filling : Option ℕ) (P : ℕ → ℕ → Type 0) : Type 0 where
  pub clean : (n : ℕ) (e : Entry) → v.row n ≡ Some e → is_exactly n filling ≡ false → n < d.count → has_bit e.perm PTE_D ≡ false →
      v.bytes e.frame ≡ d.block n
  pub entries : (n : ℕ) (e : Entry) → v.row n ≡ Some e → IsBlockEntry e
  pub dirty : (n : ℕ) (e : Entry) → v.row n ≡ Some e → has_bit e.perm PTE_D ≡ true → n < d.count
  pub pages : (n : ℕ) (e : Entry) → v.row n ≡ Some e → IsPage (v.bytes e.frame)
  pub apart : (n m : ℕ) (e f : Entry) → v.row n ≡ Some e → v.row m ≡ Some f → e.frame ≡ f.frame → (n ≡ m) ⊎ P n m

pub bears : (d : Disk) (v : CacheView) (place : CachePlace) (hand : ℕ) → CacheStands d v place hand →
    Bears d v (filling_at place) (ArePassingOn place hand)
bears d v place hand h = record {
  clean = λ n e is out below clean.
      let page : (cached_at v place).page n ≡ Some (v.bytes e.frame) = rw (out, is) refl in
      let dirty : (cached_at v place).dirty n ≡ false = rw (out, is) clean in
      h.cache.clean n (v.bytes e.frame) below page dirty;
  entries = h.entries;
  dirty = h.dirty;
  pages = h.pages;
  apart = h.apart;
}

is_cache : (d : Disk) (v : CacheView) (filling : Option ℕ) (P : ℕ → ℕ → Type 0) → Bears d v filling P → IsCache d (cached_by v.row v.bytes filling)
is_cache d v filling P h = record {
  whole = λ n b is.
      let from = page_from v.bytes (is_exactly n filling) (v.row n) b is in
      subst (λ (x : List ℕ). IsPage x) from.3 (h.pages n from.0 from.1);
  clean = λ n b below is clean.
      let from = page_from v.bytes (is_exactly n filling) (v.row n) b is in
      let dirty : has_bit from.0.perm PTE_D ≡ false = rw (from.2, from.1) at clean in
      sym from.3 ∙ h.clean n from.0 from.1 from.2 below dirty;
}

-- What is borne behind a change, and each block holds what it held.
pub record Carried (d e : Disk) (v w : CacheView) (f g : Option ℕ) (Q : ℕ → ℕ → Type 0) : Type 0 where
  pub still : Bears e w g Q
  pub keeps : KeepsValues d (cached_by v.row v.bytes f) e (cached_by w.row w.bytes g)

-- The cache goes on to a state.
abbrev pub Goes : Disk → Disk → CacheView → CacheView → CachePlace → CacheState → Type 0
Goes d e v w place next = CacheStands e w next.place next.hand × KeepsValues d (cached_at v place) e (cached_at w next.place)

pub goes : (d e : Disk) (v w : CacheView) (place to : CachePlace) (hand : ℕ) →
    Carried d e v w (filling_at place) (filling_at to) (ArePassingOn to hand) → block_at to < CACHE_BLOCKS → hand < CACHE_BLOCKS →
    HoldsAt to hand e w → Goes d e v w place (record { place = to; hand = hand })
goes d e v w place to hand c block below at = (
  record {
    block_below = block;
    hand_below = below;
    cache = is_cache e w (filling_at to) (ArePassingOn to hand) c.still;
    entries = c.still.entries;
    dirty = c.still.dirty;
    pages = c.still.pages;
    apart = c.still.apart;
    at = at;
  },
  c.keeps,
)

-- ---- all is as it was

pub kept : (d : Disk) (v w : CacheView) (f g : Option ℕ) (P : ℕ → ℕ → Type 0) → Bears d v f P → ViewKept v w →
    ((n : ℕ) → n < d.count → is_exactly n g ≡ is_exactly n f) → Carried d d v w f g P
kept d v w f g P h k same = record {
  still = record {
    clean = λ n e is out below clean.
        let was = sym (k.row n) ∙ is in
        k.bytes n e was ∙ h.clean n e was (sym (same n below) ∙ out) below clean;
    entries = λ n e is. h.entries n e (sym (k.row n) ∙ is);
    dirty = λ n e is on. h.dirty n e (sym (k.row n) ∙ is) on;
    pages = λ n e is.
        let was = sym (k.row n) ∙ is in
        subst (λ (x : List ℕ). IsPage x) (sym (k.bytes n e was)) (h.pages n e was);
    apart = λ n m e x is other frames. h.apart n m e x (sym (k.row n) ∙ is) (sym (k.row m) ∙ other) frames;
  };
  keeps = λ n below.
      ap (λ (t : Bool). value_by d w.bytes n t (w.row n)) (same n below)
      ∙ ap (λ (o : Option Entry). value_by d w.bytes n (is_exactly n f) o) (k.row n)
      ∙ value_same d d v.bytes w.bytes n (is_exactly n f) (v.row n) refl (λ x is. k.bytes n x is);
}

-- ---- one block has another entry, or none

pub record Putting (d e : Disk) (v w : CacheView) (b : ℕ) (f g : Option ℕ) (P Q : ℕ → ℕ → Type 0) : Type 0 where
  pub rest : (m : ℕ) → m ≢ b → w.row m ≡ v.row m
  pub others : (m : ℕ) (x : Entry) → m ≢ b → v.row m ≡ Some x → w.bytes x.frame ≡ v.bytes x.frame
  pub count : e.count ≡ d.count
  pub blocks : (m : ℕ) → m ≢ b → e.block m ≡ d.block m
  pub outside : (m : ℕ) → m ≢ b → is_exactly m g ≡ is_exactly m f
  pub entry : (y : Entry) → w.row b ≡ Some y → IsBlockEntry y
  pub dirty : (y : Entry) → w.row b ≡ Some y → has_bit y.perm PTE_D ≡ true → b < e.count
  pub page : (y : Entry) → w.row b ≡ Some y → IsPage (w.bytes y.frame)
  pub clean : (y : Entry) → w.row b ≡ Some y → is_exactly b g ≡ false → b < e.count → has_bit y.perm PTE_D ≡ false →
      w.bytes y.frame ≡ e.block b
  pub value : b < d.count → value_by e w.bytes b (is_exactly b g) (w.row b) ≡ value_by d v.bytes b (is_exactly b f) (v.row b)
  pub lone : (y : Entry) (m : ℕ) (x : Entry) → w.row b ≡ Some y → m ≢ b → v.row m ≡ Some x → x.frame ≡ y.frame → Q b m × Q m b
  pub passing : (n m : ℕ) → n ≢ b → m ≢ b → P n m → Q n m

module _ (d e : Disk) (v w : CacheView) (b : ℕ) (f g : Option ℕ) (P Q : ℕ → ℕ → Type 0) (h : Bears d v f P) (p : Putting d e v w b f g P Q) where
  was : (n : ℕ) (x : Entry) → n ≢ b → w.row n ≡ Some x → v.row n ≡ Some x
  was n x ne is = sym (p.rest n ne) ∙ is

  clean_put : (n : ℕ) (x : Entry) → w.row n ≡ Some x → is_exactly n g ≡ false → n < e.count → has_bit x.perm PTE_D ≡ false →
      w.bytes x.frame ≡ e.block n
  clean_put n x is out below clean = elim (cases_eq n b) [
    | inl same ↦
        subst (λ (m : ℕ). w.bytes x.frame ≡ e.block m) (sym same)
        (p.clean x (ap w.row (sym same) ∙ is) (ap (λ (m : ℕ). is_exactly m g) (sym same) ∙ out) (subst (λ (m : ℕ). m < e.count) same below) clean)
    | inr ne ↦
        p.others n x ne (was n x ne is)
        ∙ h.clean n x (was n x ne is) (sym (p.outside n ne) ∙ out) (subst (λ (k : ℕ). n < k) p.count below) clean
        ∙ sym (p.blocks n ne)
  ]

  entries_put : (n : ℕ) (x : Entry) → w.row n ≡ Some x → IsBlockEntry x
  entries_put n x is = elim (cases_eq n b) [
    | inl same ↦ p.entry x (ap w.row (sym same) ∙ is)
    | inr ne ↦ h.entries n x (was n x ne is)
  ]

  dirty_put : (n : ℕ) (x : Entry) → w.row n ≡ Some x → has_bit x.perm PTE_D ≡ true → n < e.count
  dirty_put n x is on = elim (cases_eq n b) [
    | inl same ↦ subst (λ (m : ℕ). m < e.count) (sym same) (p.dirty x (ap w.row (sym same) ∙ is) on)
    | inr ne ↦ subst (λ (k : ℕ). n < k) (sym p.count) (h.dirty n x (was n x ne is) on)
  ]

  pages_put : (n : ℕ) (x : Entry) → w.row n ≡ Some x → IsPage (w.bytes x.frame)
  pages_put n x is = elim (cases_eq n b) [
    | inl same ↦ p.page x (ap w.row (sym same) ∙ is)
    | inr ne ↦ subst (λ (y : List ℕ). IsPage y) (sym (p.others n x ne (was n x ne is))) (h.pages n x (was n x ne is))
  ]

  apart_put : (n m : ℕ) (x y : Entry) → w.row n ≡ Some x → w.row m ≡ Some y → x.frame ≡ y.frame → (n ≡ m) ⊎ Q n m
  apart_put n m x y is other frames = elim (cases_eq n b) [
    | inl same ↦ elim (cases_eq m b) [
      | inl too ↦ inl (same ∙ sym too)
      | inr ne ↦
          let both = p.lone x m y (ap w.row (sym same) ∙ is) ne (was m y ne other) (sym frames) in
          inr (subst (λ (k : ℕ). Q k m) (sym same) both.0)
    ]
    | inr ne ↦ elim (cases_eq m b) [
      | inl too ↦
          let both = p.lone y n x (ap w.row (sym too) ∙ other) ne (was n x ne is) frames in
          inr (subst (λ (k : ℕ). Q n k) (sym too) both.1)
      | inr also ↦ elim (h.apart n m x y (was n x ne is) (was m y also other) frames) [
        | inl same ↦ inl same
        | inr both ↦ inr (p.passing n m ne also both)
      ]
    ]
  ]

  keeps_put : KeepsValues d (cached_by v.row v.bytes f) e (cached_by w.row w.bytes g)
  keeps_put n below = elim (cases_eq n b) [
    | inl same ↦
        subst (λ (m : ℕ). value_by e w.bytes m (is_exactly m g) (w.row m) ≡ value_by d v.bytes m (is_exactly m f) (v.row m)) (sym same)
        (p.value (subst (λ (m : ℕ). m < d.count) same below))
    | inr ne ↦
        ap (λ (t : Bool). value_by e w.bytes n t (w.row n)) (p.outside n ne)
        ∙ ap (λ (o : Option Entry). value_by e w.bytes n (is_exactly n f) o) (p.rest n ne)
        ∙ value_same d e v.bytes w.bytes n (is_exactly n f) (v.row n) (p.blocks n ne) (λ x is. p.others n x ne is)
  ]

  pub put : Carried d e v w f g Q
  put = record {
    still = record { clean = clean_put; entries = entries_put; dirty = dirty_put; pages = pages_put; apart = apart_put };
    keeps = keeps_put;
  }
