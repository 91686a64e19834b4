-- What is seen of the blocks' pages where one entry of a space changes, and what an entry that is put in an empty place leaves.
use Rattle.std.proofs.Common.{◌≡◌, ◌≢◌, ◌<◌, ◌∙◌, ◌/◌, ℕ, Bool, true, false, List, [], ◌∷◌, Option, Some, None}
use Rattle.std.proofs.Common.{refl, sym, ap, subst, arith, if◌then◌else◌}
use Rattle.std.specs.Prelude.{is_some, nat_lt}
use Rattle.std.specs.Option.{option_map}
use Rattle.std.proofs.lemmas.Bool.Decides.{nat_tests}
use Rattle.std.proofs.lemmas.Option.{none-some, same_Some}
use Rattle.jos_base.specs.declared.numbers.TheConstants.{NPTENTRIES}
use Rattle.jos_base.specs.Reach.{Entry}
use Rattle.jos_base.specs.SpacesState.{SpacesState, Region, Use, free, page, put, released, frame_of, with_entry, mapped, with_table}
use Rattle.jos_base.specs.SpacesState.{tabled_new, tabled_by, tabled, inserted}
use Rattle.jos_base.specs.SystemCalls.{is_page_address}
use Rattle.jos_base.specs.Words.{page_number}
use Rattle.lib_os.specs.declared.numbers.TheConstants.{CACHE_BLOCKS}
use Rattle.lib_os.specs.BlockCache.{block_address, block_row, entry_behind, own_addresses}
use Rattle.lib_os.specs.InOrder.{HasOneUse, AreFree}
use Rattle.jos_base.proofs.Maps.{upd-other}
use Rattle.jos_base.proofs.Puts.{put-at, put-other, put-holds}
use Rattle.fs_blocks.specs.CachePlans.{block_of}
use Rattle.fs_cache.specs.CacheStands.{cache_view}
use Rattle.fs_cache.proofs.Views.{RowSet}

-- ---- blocks and their pages

-- the number of a block's page
abbrev pub page_at : ℕ → ℕ
page_at n = page_number (block_address n)

pub page_apart : (m n : ℕ) → m ≢ n → page_at m ≢ page_at n
page_apart m n ne same = absurd (ne (omega (arith, same)))

pub block_is : (b : ℕ) → b < CACHE_BLOCKS → block_of b ≡ b
block_is b below = omega (arith, below)

pub address_is : (b : ℕ) → b < CACHE_BLOCKS → is_page_address (block_address b) ≡ true
address_is b below = grind (arith, nat_tests)

-- the entry of a block's page
pub row_of_block : (s : SpacesState) (d n : ℕ) → n < CACHE_BLOCKS → block_row s d own_addresses n ≡ s.entries d (page_at n)
unfolding block_row
row_of_block s d n below =
    let test : nat_lt n CACHE_BLOCKS ≡ true = grind (arith, nat_tests) in rw test refl

-- an entry of the row is one of the space
pub row_stands : (s : SpacesState) (d n : ℕ) (e : Entry) → block_row s d own_addresses n ≡ Some e → s.entries d (page_at n) ≡ Some e
unfolding block_row
row_stands s d n e = by_test (nat_lt n CACHE_BLOCKS)
  where
    by_test : (t : Bool) → entry_behind s d (if t then Some (block_address n) else None) ≡ Some e → s.entries d (page_at n) ≡ Some e
    by_test true is = is
    by_test false is = absurd (none-some e is)

-- ---- one entry changes

-- one entry of a space is another; each region that had a table has one
pub record EntrySet (s t : SpacesState) (d p : ℕ) (o : Option Entry) : Type 0 where
  pub entries : t.entries ≡ put s.entries d p o
  pub tables : (q r : ℕ) → is_some (s.regions q r) ≡ true → is_some (t.regions q r) ≡ true

-- the row of the blocks is set at that block
pub row_set : (s t : SpacesState) (d b : ℕ) (o : Option Entry) → b < CACHE_BLOCKS → EntrySet s t d (page_at b) o →
    RowSet (cache_view s d) (cache_view t d) b o
unfolding block_row
row_set s t d b o below is = record {
  set = row_of_block t d b below ∙ (λ i. is.entries i d (page_at b)) ∙ put-at s.entries d (page_at b) o;
  rest = λ m ne. by_test m ne (nat_lt m CACHE_BLOCKS);
  tables = λ r there. is.tables d _ there;
}
  where
    by_test : (m : ℕ) → m ≢ b → (c : Bool) →
        entry_behind t d (if c then Some (block_address m) else None) ≡ entry_behind s d (if c then Some (block_address m) else None)
    by_test m ne true =
        (λ i. is.entries i d (page_at m)) ∙ put-other s.entries d (page_at b) o d (page_at m) (λ same. page_apart m b ne)
    by_test m ne false = refl

-- ---- an entry is put where none stood

-- the next frame to be handed out is free
abbrev pub HeadIsFree : (ℕ → Use) → List ℕ → Type 0
HeadIsFree uses list = (f : ℕ) (rest : List ℕ) → list ≡ f ∷ rest → uses f ≡ free

pub head_is_free : (s : SpacesState) → HasOneUse s → HeadIsFree s.uses s.free
head_is_free s h f rest is = let listed = subst (AreFree s.uses) is h.free_list in listed.0

pub free_or_page : (u : Use) → u ≡ page → u ≢ free
free_or_page u is not = absurd cc

-- the frames that are not free keep their bytes
pub record EntryPut (s t : SpacesState) (d p : ℕ) (e : Entry) : Type 0 where
  pub set : EntrySet s t d p (Some e)
  pub bytes : (f : ℕ) → s.uses f ≢ free → t.pages f ≡ s.pages f

record HasTable (s t : SpacesState) : Type 0 where
  entries : t.entries ≡ s.entries
  bytes : (f : ℕ) → s.uses f ≢ free → t.pages f ≡ s.pages f
  tables : (q r : ℕ) → is_some (s.regions q r) ≡ true → is_some (t.regions q r) ≡ true

tabled_has : (s t : SpacesState) (d index : ℕ) → HeadIsFree s.uses s.free → tabled s d index ≡ Some t → HasTable s t
unfolding tabled
tabled_has s t d index head is = by_region (s.regions d index) is
  where
    by_list : (list : List ℕ) → s.free ≡ list → tabled_new s list d index ≡ Some t → HasTable s t
    by_list [] at none = absurd (none-some t none)
    by_list (f ∷ rest) at some =
        let region : Region = record { table = f; accessed = false } in
        subst (λ (z : SpacesState). HasTable s z) (same_Some (with_table (record s { free = rest }) d index f) t some)
        (record {
          entries = refl;
          bytes = λ g used. upd-other s.pages f [] g (λ same. used (ap s.uses same ∙ head f rest at));
          tables = put-holds s.regions d index (Some region) (λ q r (x : Option Region). is_some (s.regions q r) ≡ true → is_some x ≡ true)
              (λ there. refl) (λ q r ne there. there);
        })

    by_region : (o : Option Region) → tabled_by s o d index ≡ Some t → HasTable s t
    by_region None some = by_list s.free refl some
    by_region (Some region) some =
        subst (λ (z : SpacesState). HasTable s z) (same_Some s t some)
        (record { entries = refl; bytes = λ f used. refl; tables = λ q r there. there })

-- no frame is given back where none stood
mapped_new : (s : SpacesState) (d p : ℕ) (e : Entry) → s.entries d p ≡ None → mapped s d p e ≡ with_entry s d p e
unfolding mapped
mapped_new s d p e none = ap (λ (o : Option Entry). released (with_entry s d p e) (frame_of o)) none

pub inserted_new : (s t : SpacesState) (d p : ℕ) (e : Entry) → HeadIsFree s.uses s.free → s.entries d p ≡ None → inserted s d p e ≡ Some t →
    EntryPut s t d p e
unfolding inserted
inserted_new s t d p e head none is = by_table (tabled s d (p / NPTENTRIES)) refl is
  where
    by_table : (o : Option SpacesState) → tabled s d (p / NPTENTRIES) ≡ o → option_map (λ u. mapped u d p e) o ≡ Some t → EntryPut s t d p e
    by_table None at some = absurd (none-some t some)
    by_table (Some u) at some =
        let has = tabled_has s u d (p / NPTENTRIES) head at in
        let same : with_entry u d p e ≡ t =
        sym (mapped_new u d p e ((λ i. has.entries i d p) ∙ none)) ∙ same_Some (mapped u d p e) t some in
        subst (λ (z : SpacesState). EntryPut s z d p e) same
        (record {
          set = record { entries = ap (λ (f : ℕ → ℕ → Option Entry). put f d p (Some e)) has.entries; tables = has.tables };
          bytes = has.bytes;
        })
