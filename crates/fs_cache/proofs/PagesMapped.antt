-- A block's page is mapped where another block has its page, or onto itself; and a block's page is taken away. What is mapped onto
-- itself stays what it is, and is never refused: its region has a table.
use Rattle.std.proofs.Common.{◌≡◌, ◌≢◌, ◌<◌, ◌≤◌, ◌∙◌, ◌==◌, ◌+◌, inl, inr, ℕ, Bool, true, false, List, [], ◌∷◌, Option, Some, None}
use Rattle.std.proofs.Common.{Ok, refl, sym, ap, subst, arith, if◌then◌else◌}
use Rattle.std.specs.Prelude.{is_some}
use Rattle.std.proofs.lemmas.Bool.Decides.{nat_tests}
use Rattle.std.proofs.lemmas.Option.{none-some}
use Rattle.jos_base.specs.declared.called.Called.{Called}
use Rattle.jos_base.specs.declared.called.Called.TheVariants.{Answered}
use Rattle.jos_base.specs.declared.numbers.TheConstants.{E_NO_MEM, PTE_A, PTE_D, SYS_PAGE_MAP, SYS_PAGE_UNMAP}
use Rattle.jos_base.specs.Counting.{Entries, frame_limit, page_count, page_limit}
use Rattle.jos_base.specs.KernelState.{KernelState, slot_at, with_spaces, with_refusal}
use Rattle.jos_base.specs.Reach.{Entry}
use Rattle.jos_base.specs.SpacesState.{SpacesState, put, released, frame_of, with_entry, mapped, without_entry, unmapped, inserted}
use Rattle.jos_base.specs.SystemCalls.{has_write, shared_entry}
use Rattle.jos_base.specs.Words.{negated}
use Rattle.lib_os.specs.declared.numbers.TheConstants.{CACHE_BLOCKS}
use Rattle.lib_os.specs.BlockCache.{block_address, block_row, own_addresses}
use Rattle.lib_os.specs.InOrder.{HasOneUse}
use Rattle.lib_os.specs.UserCalls.{CallStep, IsCallStep, Output, answer_of, system}
use Rattle.lib_os.proofs.Calls.{comes_to, made_step, page_unmap_is}
use Rattle.lib_os.proofs.Releasing.{AreWithin, released_named}
use Rattle.lib_os.proofs.Remapping.{given_on, inserted_already, page_map_is}
use Rattle.jos_base.proofs.Counts.{page_count-some}
use Rattle.jos_base.proofs.Puts.{put-at, put-other, put-holds}
use Rattle.jos_base.proofs.Released.{released_entries, released_regions}
use Rattle.fs_blocks.specs.CachePlans.{block_of, page_perm}
use Rattle.fs_cache.specs.CacheStands.{IsBlockEntry}
use Rattle.fs_cache.specs.CacheSteps.{Caller}
use Rattle.fs_cache.proofs.Views.{MappedTo, Unmapped}
use Rattle.fs_cache.proofs.Interfaces.{IsServer, PageIsMapped, PageIsUnmapped, view_in}
use Rattle.fs_cache.proofs.PagesPut.{EntryPut, EntrySet, address_is, block_is, free_or_page, head_is_free, inserted_new, page_apart, page_at}
use Rattle.fs_cache.proofs.PagesPut.{row_of_block, row_set, row_stands}

-- ---- the entry that is given on

-- a block's page may be written
entry_writes : (e : Entry) → IsBlockEntry e → has_write e.perm ≡ true
entry_writes e is = ap (λ (perm : ℕ). has_write perm) is.bits ∙ by_bits is.used is.written
  where
    by_bits : (used written : Bool) → has_write (page_perm + (if used then PTE_A else 0) + (if written then PTE_D else 0)) ≡ true
    by_bits true true = refl
    by_bits true false = refl
    by_bits false true = refl
    by_bits false false = refl

-- with these bits
abbrev with_page_perm : Entry → Entry
with_page_perm e = record { frame = e.frame; perm = page_perm }

-- an entry that is there
record IsThere (o : Option Entry) : Type 0 where
  entry : Entry
  is : o ≡ Some entry

there_is : (o : Option Entry) → is_some o ≡ true → IsThere o
there_is None some = absurd (let contradiction : false ≡ true = some in cc)
there_is (Some e) some = record { entry = e; is = refl }

-- ---- onto itself

-- the frame is named as before, so that it is not given back
mapped_again : (s : SpacesState) (d p : ℕ) (e : Entry) → HasOneUse s → s.entries d p ≡ Some e →
    mapped s d p (with_page_perm e) ≡ with_entry s d p (with_page_perm e)
unfolding mapped
mapped_again s d p e h stands = ap (λ (o : Option Entry). released (with_entry s d p (with_page_perm e)) (frame_of o)) stands ∙ kept
  where
    entries : Entries
    entries = put s.entries d p (Some (with_page_perm e))

    kept : released (with_entry s d p (with_page_perm e)) (Some e.frame) ≡ with_entry s d p (with_page_perm e)
    kept =
        let limits = h.within d p e stands in
        let counted : 1 ≤ page_count entries e.frame =
        page_count-some entries d p (with_page_perm e) limits.0 limits.1 (put-at s.entries d p (Some (with_page_perm e))) in
        let test : (page_count (put s.entries d p (Some (with_page_perm e))) e.frame == 0) ≡ false = grind (arith, nat_tests, counted) in
        rw test refl

-- ---- the calls

-- page_map was called of these two blocks
abbrev MapsTo : Caller → Called → KernelState → Output → ℕ → ℕ → Type 0
MapsTo c called mid output a b =
    IsCallStep (system c.state c.slot SYS_PAGE_MAP (0 ∷ block_address a ∷ 0 ∷ block_address b ∷ page_perm ∷ [])) (Ok called) mid output

module _ (c : Caller) (is : IsServer c.state c.slot) where
  abbrev s : KernelState
  s = c.state

  abbrev n : ℕ
  n = c.slot

  abbrev d : ℕ
  d = (slot_at s n).directory

  module _ (from to : ℕ) (from_below : from < CACHE_BLOCKS) (to_below : to < CACHE_BLOCKS) (e : Entry)
      (stands : block_row s.spaces d own_addresses from ≡ Some e) (block : IsBlockEntry e) where
    abbrev asked : CallStep Called
    asked = system s n SYS_PAGE_MAP (0 ∷ block_address from ∷ 0 ∷ block_address to ∷ page_perm ∷ [])

    from_entry : s.spaces.entries d (page_at from) ≡ Some e
    from_entry = row_stands s.spaces d from e stands

    asked_is : asked ≡ made_step s (inserted s.spaces d (page_at to) (with_page_perm e))
    asked_is =
        page_map_is s n is.live (block_address from) (block_address to) page_perm (address_is from from_below) (address_is to to_below)
        (with_page_perm e)
        (ap (λ (o : Option Entry). shared_entry o page_perm) from_entry ∙ given_on e page_perm refl (entry_writes e block))

    module _ (called : Called) (word : ℕ) (mid : KernelState) (output : Output) (told : word ≡ answer_of called)
        (call : IsCallStep asked (Ok called) mid output) where
      some_mapped : (t : SpacesState) → inserted s.spaces d (page_at to) (with_page_perm e) ≡ Some t →
          EntrySet s.spaces t d (page_at to) (Some (with_page_perm e)) →
          ((m : ℕ) (x : Entry) → block_row s.spaces d own_addresses m ≡ Some x → t.pages x.frame ≡ s.spaces.pages x.frame) →
          MappedTo (view_in s n) (view_in mid n) from to word
      some_mapped t inserts set bytes =
          let came = comes_to asked (Answered 0) called (with_spaces s t) mid [] output (asked_is ∙ ap (made_step s) inserts) call in
          subst (λ (k : KernelState). MappedTo (view_in s n) (view_in k n) from to word) (sym came.1)
          (MappedTo.mapped e stands (told ∙ ap answer_of came.0) (row_set s.spaces t d to (Some (with_page_perm e)) to_below set) bytes)

      none_mapped : inserted s.spaces d (page_at to) (with_page_perm e) ≡ None → from ≢ to → MappedTo (view_in s n) (view_in mid n) from to word
      none_mapped none apart =
          let came = comes_to asked (Answered (negated E_NO_MEM)) called (with_refusal s) mid [] output (asked_is ∙ ap (made_step s) none) call in
          let refused : word ≡ negated E_NO_MEM = told ∙ ap answer_of came.0 in
          subst (λ (k : KernelState). MappedTo (view_in s n) (view_in k n) from to word) (sym came.1)
          (MappedTo.refused apart (rw refused refl)
          (record { row = λ m. refl; bytes = λ m x stood. refl; tables = λ r there. there }))

      -- another block has no page yet
      to_other : block_row s.spaces d own_addresses to ≡ None → MappedTo (view_in s n) (view_in mid n) from to word
      to_other none = by_inserted (inserted s.spaces d (page_at to) (with_page_perm e)) refl
        where
          apart : from ≢ to
          apart same = none-some e (sym none ∙ ap (block_row s.spaces d own_addresses) (sym same) ∙ stands)

          empty : s.spaces.entries d (page_at to) ≡ None
          empty = sym (row_of_block s.spaces d to to_below) ∙ none

          by_inserted : (o : Option SpacesState) → inserted s.spaces d (page_at to) (with_page_perm e) ≡ o →
              MappedTo (view_in s n) (view_in mid n) from to word
          by_inserted None inserts = none_mapped inserts apart
          by_inserted (Some t) inserts =
              let it : EntryPut s.spaces t d (page_at to) (with_page_perm e) =
              inserted_new s.spaces t d (page_at to) (with_page_perm e) (head_is_free s.spaces is.in_order.frames) empty inserts in
              some_mapped t inserts it.set
              (λ m x stood. it.bytes x.frame
              (free_or_page (s.spaces.uses x.frame) (is.in_order.frames.pages d (page_at m) x (row_stands s.spaces d m x stood))))

  -- the block itself has it
  to_itself : (b : ℕ) → b < CACHE_BLOCKS → (e : Entry) → block_row s.spaces d own_addresses b ≡ Some e → IsBlockEntry e →
      (called : Called) (word : ℕ) (mid : KernelState) (output : Output) → word ≡ answer_of called →
      MapsTo c called mid output b b → MappedTo (view_in s n) (view_in mid n) b b word
  to_itself b below e stands block called word mid output told call =
      let stood : s.spaces.entries d (page_at b) ≡ Some e = row_stands s.spaces d b e stands in
      let region = is.in_order.frames.regions d (page_at b) e stood in
      some_mapped b b below below e stands block called word mid output told call (with_entry s.spaces d (page_at b) (with_page_perm e))
      (inserted_already s.spaces d (page_at b) (with_page_perm e) region
      ∙ ap (λ (t : SpacesState). Some t) (mapped_again s.spaces d (page_at b) e is.in_order.frames stood))
      (record { entries = refl; tables = λ q r there. there })
      (λ m x stays. refl)

pub page_is_mapped : PageIsMapped
page_is_mapped disk c files from to word place hand mid output is cache from_below to_below has either reply =
    let there = there_is (block_row c.state.spaces (slot_at c.state c.slot).directory own_addresses from) has in
    let block : IsBlockEntry there.entry = cache.entries from there.entry there.is in
    let call : MapsTo c reply.0 mid output from to =
    subst (λ (q : ℕ). MapsTo c reply.0 mid output from q) (block_is to to_below)
    (subst (λ (q : ℕ). MapsTo c reply.0 mid output q (block_of to)) (block_is from from_below) reply.2) in
    elim either [
      | inl same ↦
          subst (λ (q : ℕ). MappedTo (view_in c.state c.slot) (view_in mid c.slot) from q word) same
          (to_itself c is from from_below there.entry there.is block reply.0 word mid output reply.1
          (subst (λ (q : ℕ). MapsTo c reply.0 mid output from q) (sym same) call))
      | inr none ↦ to_other c is from to from_below to_below there.entry there.is block reply.0 word mid output reply.1 call none
    ]

-- ---- a page is taken away

unmapped_set : (s : SpacesState) (d p : ℕ) → EntrySet s (unmapped s d p) d p None
unfolding unmapped
unmapped_set s d p =
    let old : Option ℕ = frame_of (s.entries d p) in
    record {
      entries = released_entries (without_entry s d p) old;
      tables = λ q r there. ap is_some (λ i. released_regions (without_entry s d p) old i q r) ∙ there;
    }

-- what is still named keeps its bytes
unmapped_bytes : (s : SpacesState) (d p m : ℕ) (e : Entry) → HasOneUse s → page_at m ≢ p → s.entries d (page_at m) ≡ Some e →
    (unmapped s d p).pages e.frame ≡ s.pages e.frame
unfolding unmapped
unmapped_bytes s d p m e h ne stands =
    released_named (without_entry s d p) (frame_of (s.entries d p)) within d (page_at m) e
    (put-other s.entries d p None d (page_at m) (λ same. ne) ∙ stands)
  where
    within : AreWithin (put s.entries d p None)
    within =
        put-holds s.entries d p None (λ q r (o : Option Entry). (x : Entry) → o ≡ Some x → (q < frame_limit) × (r < page_limit))
        (λ x none. absurd (none-some x none)) (λ q r off x is. h.within q r x is)

pub page_is_unmapped : PageIsUnmapped
page_is_unmapped c files b word mid output is below reply =
    let s : KernelState = c.state in
    let n : ℕ = c.slot in
    let d : ℕ = (slot_at s n).directory in
    let tail : List ℕ = 0 ∷ 0 ∷ 0 ∷ [] in
    let asked : CallStep Called = system s n SYS_PAGE_UNMAP (0 ∷ block_address b ∷ tail) in
    let call : IsCallStep asked (Ok reply.0) mid output =
    subst (λ (q : ℕ). IsCallStep (system s n SYS_PAGE_UNMAP (0 ∷ block_address q ∷ tail)) (Ok reply.0) mid output) (block_is b below) reply.2 in
    let t : SpacesState = unmapped s.spaces d (page_at b) in
    let came = comes_to asked (Answered 0) reply.0 (with_spaces s t) mid [] output
    (page_unmap_is s n is.live (block_address b) tail (address_is b below)) call in
    subst (λ (k : KernelState). Unmapped (view_in s n) (view_in k n) b) (sym came.1)
    (record {
      row = row_set s.spaces t d b None below (unmapped_set s.spaces d (page_at b));
      bytes = λ m e ne stands.
          unmapped_bytes s.spaces d (page_at b) m e is.in_order.frames (page_apart m b ne) (row_stands s.spaces d m e stands);
    })
