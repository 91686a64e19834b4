-- A page is taken for a block: it is one of zeros that nobody had; or none was to be had, and that is counted.
use Rattle.std.proofs.Common.{◌≡◌, ◌≢◌, ◌<◌, ◌∙◌, ◌==◌, inl, inr, ℕ, true, false, List, [], ◌∷◌, Option, Some, None}
use Rattle.std.proofs.Common.{Ok, refl, sym, ap, subst, arith}
use Rattle.std.specs.Prelude.{All}
use Rattle.std.specs.Option.{option_map}
use Rattle.std.proofs.lemmas.Option.{none-some, same_Some}
use Rattle.jos_base.specs.declared.called.Called.{Called}
use Rattle.jos_base.specs.declared.called.Called.TheVariants.{Answered}
use Rattle.jos_base.specs.declared.numbers.TheConstants.{E_NO_MEM, SYS_PAGE_ALLOC}
use Rattle.jos_base.specs.KernelState.{KernelState, slot_at, with_spaces, with_refusal}
use Rattle.jos_base.specs.Reach.{Entry}
use Rattle.jos_base.specs.SpacesState.{SpacesState, Use, free, fresh, page, inserted, allocated, allocated_in, fresh_from, fresh_of, taken, zero_page}
use Rattle.jos_base.specs.Words.{negated}
use Rattle.lib_os.specs.declared.numbers.TheConstants.{CACHE_BLOCKS}
use Rattle.lib_os.specs.BlockCache.{block_address, block_row, own_addresses}
use Rattle.lib_os.specs.InOrder.{HasOneUse, AreFree}
use Rattle.lib_os.specs.Rows.{IsPage}
use Rattle.lib_os.specs.UserCalls.{CallStep, IsCallStep, answer_of, system}
use Rattle.lib_os.proofs.Calls.{comes_to, page_asked, page_made_or_refused}
use Rattle.lib_os.proofs.PageBytes.{zero_page_whole}
use Rattle.jos_base.proofs.Maps.{upd-at, upd-other}
use Rattle.fs_blocks.specs.CachePlans.{block_of, page_perm}
use Rattle.fs_cache.specs.CacheStands.{cache_view}
use Rattle.fs_cache.proofs.Views.{TookPage}
use Rattle.fs_cache.proofs.Interfaces.{PageIsTaken, view_in}
use Rattle.fs_cache.proofs.PagesPut.{EntrySet, HeadIsFree, address_is, block_is, free_or_page, inserted_new, page_at}
use Rattle.fs_cache.proofs.PagesPut.{row_of_block, row_set, row_stands}

-- ---- what the spaces give

-- The page is of a frame that was free, and holds zeros.
record Taken (s t : SpacesState) (d p perm frame : ℕ) : Type 0 where
  set : EntrySet s t d p (Some (record { frame = frame; perm = perm }))
  was_free : s.uses frame ≡ free
  zero : t.pages frame ≡ zero_page
  bytes : (f : ℕ) → s.uses f ≡ page → t.pages f ≡ s.pages f

fresh_is_not_free : (u : Use) → u ≡ fresh → u ≢ free
fresh_is_not_free u is not = absurd cc

module _ (s : SpacesState) (h : HasOneUse s) (g : ℕ) (rest : List ℕ) (at : s.free ≡ g ∷ rest) where
  abbrev first : SpacesState
  first = taken s g rest zero_page

  listed : AreFree s.uses (g ∷ rest)
  listed = subst (AreFree s.uses) at h.free_list

  g_free : s.uses g ≡ free
  g_free = let l = listed in l.0

  first_head : HeadIsFree first.uses rest
  first_head f more is =
      let l = listed in
      let others = subst (λ list. All (λ x. x ≢ g) list) is l.1 in
      let tail = subst (AreFree s.uses) is l.2 in
      upd-other s.uses g fresh f (others 0 f (omega arith)) ∙ tail.0

  first_taken : (t : SpacesState) (d p perm : ℕ) → s.entries d p ≡ None → inserted first d p (record { frame = g; perm = perm }) ≡ Some t →
      Taken s t d p perm g
  first_taken t d p perm none is =
      let it = inserted_new first t d p (record { frame = g; perm = perm }) first_head none is in
      record {
        set = record { entries = it.set.entries; tables = it.set.tables };
        was_free = g_free;
        zero = it.bytes g (fresh_is_not_free (first.uses g) (upd-at s.uses g fresh)) ∙ upd-at s.pages g zero_page;
        bytes = λ f is_page.
            let ne : f ≢ g = λ same. free_or_page (s.uses f) is_page (ap s.uses same ∙ g_free) in
            it.bytes f (free_or_page (first.uses f) (upd-other s.uses g fresh f ne ∙ is_page)) ∙ upd-other s.pages g zero_page f ne;
      }

allocated_taken : (s t : SpacesState) (d p perm f : ℕ) → HasOneUse s → s.entries d p ≡ None → allocated s d p perm ≡ Some (f, t) →
    Taken s t d p perm f
unfolding allocated fresh_of
allocated_taken s t d p perm f h none is = by_list s.free refl is
  where
    by_list : (list : List ℕ) → s.free ≡ list → allocated_in (fresh_from s list) d p perm ≡ Some (f, t) → Taken s t d p perm f
    by_list [] at found = absurd (none-some (f, t) found)
    by_list (g ∷ rest) at found = by_insertion (inserted (first s h g rest at) d p (record { frame = g; perm = perm })) refl found
      where
        by_insertion : (o : Option SpacesState) → inserted (first s h g rest at) d p (record { frame = g; perm = perm }) ≡ o →
            option_map (λ (u : SpacesState). let pair : ℕ × SpacesState = (g, u) in pair) o ≡ Some (f, t) → Taken s t d p perm f
        by_insertion None ins found = absurd (none-some (f, t) found)
        by_insertion (Some u) ins found =
            let both = same_Some (g, u) (f, t) found in
            let frame : g ≡ f = ap (λ (z : ℕ × SpacesState). z.0) both in
            let state : u ≡ t = ap (λ (z : ℕ × SpacesState). z.1) both in
            subst (λ (x : ℕ). Taken s t d p perm x) frame
            (first_taken s h g rest at t d p perm none (ins ∙ ap (λ (z : SpacesState). Some z) state))

-- ---- what is seen of it

taken_seen : (s t : SpacesState) (d b word frame : ℕ) → HasOneUse s → b < CACHE_BLOCKS → word ≡ 0 → Taken s t d (page_at b) page_perm frame →
    TookPage (cache_view s d) (cache_view t d) b word
taken_seen s t d b word frame h below is it =
    let named : (m : ℕ) (e : Entry) → block_row s d own_addresses m ≡ Some e → s.uses e.frame ≡ page =
    λ m e stands. h.pages d (page_at m) e (row_stands s d m e stands) in
    TookPage.took frame is (row_set s t d b (Some (record { frame = frame; perm = page_perm })) below it.set)
    (subst (λ (bytes : List ℕ). IsPage bytes) (sym it.zero) zero_page_whole)
    (λ m e stands same. free_or_page (s.uses e.frame) (named m e stands) (ap s.uses same ∙ it.was_free))
    (λ m e stands. it.bytes e.frame (named m e stands))

-- ---- the call

not_zero : (word : ℕ) → word ≡ negated E_NO_MEM → (word == 0) ≡ false
not_zero word is = rw is refl

pub page_is_taken : PageIsTaken
page_is_taken c files b word mid output is below none reply =
    let s : KernelState = c.state in
    let n : ℕ = c.slot in
    let d : ℕ = (slot_at s n).directory in
    let at : block_of b ≡ b = block_is b below in
    let tail : List ℕ = 0 ∷ 0 ∷ [] in
    let asked : CallStep Called = page_asked s n (block_address b) page_perm tail is.live (address_is b below) refl in
    let call : IsCallStep asked (Ok reply.0) mid output =
    subst (λ (q : ℕ). IsCallStep (system s n SYS_PAGE_ALLOC (0 ∷ block_address q ∷ page_perm ∷ tail)) (Ok reply.0) mid output) at reply.2 in
    let stands : s.spaces.entries d (page_at b) ≡ None = sym (row_of_block s.spaces d b below) ∙ none in
    elim (page_made_or_refused s n (block_address b) page_perm tail is.live (address_is b below) refl) [
      | inl made ↦
          let came = comes_to asked (Answered 0) reply.0 (with_spaces s made.spaces) mid [] output made.step call in
          let zero : word ≡ 0 = reply.1 ∙ ap answer_of came.0 in (
            subst (λ (k : KernelState). TookPage (view_in s n) (view_in k n) b word) (sym came.1)
                (taken_seen s.spaces made.spaces d b word made.frame is.in_order.frames below zero
                (allocated_taken s.spaces made.spaces d (page_at b) page_perm made.frame is.in_order.frames stands made.is)),
            λ refused. absurd (let contradiction : true ≡ false = sym (ap (λ (w : ℕ). w == 0) zero) ∙ refused in cc),
          )
      | inr refused ↦
          let came = comes_to asked (Answered (negated E_NO_MEM)) reply.0 (with_refusal s) mid [] output refused.step call in
          let told : word ≡ negated E_NO_MEM = reply.1 ∙ ap answer_of came.0 in (
            subst (λ (k : KernelState). TookPage (view_in s n) (view_in k n) b word) (sym came.1)
                (TookPage.refused (not_zero word told)
                (record { row = λ m. refl; bytes = λ m e stood. refl; tables = λ r there. there })),
            λ not small. subst (λ (k : KernelState). s.refusals < k.refusals) (sym came.1) (omega (arith, small)),
          )
    ]
