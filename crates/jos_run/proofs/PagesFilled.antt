-- The frames of spaces in which a page gets bytes, and which regions have pages.
use Rattle.std.proofs.Common.{◌≡◌, ◌∙◌, ◌+◌, ◌-◌, ◌*◌, ◌/◌, inl, inr, ℕ, true, List, Option, Some}
use Rattle.std.proofs.Common.{sym, ap, arith}
use Rattle.std.specs.Prelude.{is_some}
use Rattle.jos_base.specs.declared.numbers.TheConstants.{NPTENTRIES}
use Rattle.jos_base.specs.SpacesState.{SpacesState, with_page_bytes}
use Rattle.jos_base.specs.Words.{upd}
use Rattle.lib_os.specs.AbstractMemory.{has_page_in}
use Rattle.lib_os.specs.AbstractState.{Page}
use Rattle.lib_os.specs.InOrder.{HasOneUse}
use Rattle.std.proofs.lemmas.Bool.{cases_eq}
use Rattle.jos_base.proofs.Maps.{upd-at, upd-other}
use Rattle.jos_base.proofs.Below.{some_below-at, some_below-same}

-- each frame has its one use, whatever the bytes
pub filled_one_use : (s : SpacesState) (f : ℕ) (bytes : List ℕ) → HasOneUse s → HasOneUse (with_page_bytes s f bytes)
filled_one_use s f bytes h = record {
  pages = h.pages;
  owners = h.owners;
  within = h.within;
  small = h.small;
  regions = h.regions;
  tables = h.tables;
  tables_apart = h.tables_apart;
  region_owners = h.region_owners;
  free_list = h.free_list;
}

-- ---- regions

-- the region of a page that is put has a page
pub has_page-put : (memory : ℕ → Option Page) (p : ℕ) (page : Page) (r : ℕ) →
    has_page_in (upd memory p (Some page)) r ≡ upd (has_page_in memory) (p / NPTENTRIES) true r
has_page-put memory p page r = elim (cases_eq r (p / 1024)) [
  | inl e ↦
      let place : r * 1024 + (p - r * 1024) ≡ p = omega arith in
      some_below-at (λ k. is_some (upd memory p (Some page) (r * 1024 + k))) 1024 (p - r * 1024) (omega arith)
      (ap (λ (q : ℕ). is_some (upd memory p (Some page) q)) place ∙ ap is_some (upd-at memory p (Some page)))
      ∙ sym (ap (upd (has_page_in memory) (p / 1024) true) e ∙ upd-at (has_page_in memory) (p / 1024) true)
  | inr ne ↦
      some_below-same 1024 (λ k. is_some (upd memory p (Some page) (r * 1024 + k))) (λ k. is_some (memory (r * 1024 + k)))
      (λ k lt. ap is_some (upd-other memory p (Some page) (r * 1024 + k) (λ same. ne (omega arith))))
      ∙ sym (upd-other (has_page_in memory) (p / 1024) true r ne)
]
