-- Where service pipe puts a word into the page of a descriptor that it makes: the store gives nothing, and leaves the file server what it had, since
-- that has not this page.
use Rattle.std.proofs.Common.{◌≡◌, ◌≢◌, ◌∙◌, ◌+◌, ◌*◌, ◌<◌, ◌≤◌, ◌==◌, ℕ, Bool, true, false, List, Some}
use Rattle.std.proofs.Common.{refl, sym, ap, subst, arith}
use Rattle.std.specs.Int.{to_le_bytes, w32}
use Rattle.std.specs.Option.{option_map}
use Rattle.jos_base.specs.declared.memory.Access.TheVariants.{Write}
use Rattle.jos_base.specs.declared.numbers.TheConstants.{PGSIZE}
use Rattle.jos_base.specs.Environments.{is_live}
use Rattle.jos_base.specs.KernelState.{KernelState, slot_at, with_spaces}
use Rattle.jos_base.specs.Reach.{Entry}
use Rattle.jos_base.specs.SpacesState.{SpacesState}
use Rattle.jos_base.specs.SystemCalls.{has_write, is_page_perm}
use Rattle.jos_base.specs.UserMemory.{touched}
use Rattle.jos_base.specs.Words.{page_number}
use Rattle.jos_base.proofs.Maps.{upd-other}
use Rattle.lib_os.specs.declared.numbers.TheConstants.{DESCRIPTORS, REQUEST}
use Rattle.lib_os.specs.declared.place.PipeStep.{PipeStep}
use Rattle.lib_os.specs.declared.place.Place.TheVariants as place
use Rattle.lib_os.specs.declared.place.Step.TheVariants as step
use Rattle.lib_os.specs.declared.service.Service.TheVariants as service
use Rattle.lib_os.specs.AbstractState.{AbstractState, Born, born}
use Rattle.lib_os.specs.InOrder.{HasOneUse}
use Rattle.lib_os.specs.LibrarySteps.{LeavesServer}
use Rattle.lib_os.specs.Places.{place_of}
use Rattle.lib_os.specs.Rows.{MayBeHad, Names, as_own, descriptor_page, descriptor_perm, is_making, is_of_descriptor, lasting, logical, makes}
use Rattle.lib_os.specs.Rows.{rows_of, server_row}
use Rattle.lib_os.specs.StandsAtPipe.{TellsEnd}
use Rattle.lib_os.specs.StandsFor.{StandsFor, view_of}
use Rattle.lib_os.specs.UserCalls.{CallStep, by_access, giving, got, store}
use Rattle.lib_os.specs.UserCalls.{with_user_word}
use Rattle.lib_os.proofs.BytesKept.{PutsBytes, store_puts}
use Rattle.lib_os.proofs.DescriptorLooks.{descriptor_va, entry_bits, page_is_below}
use Rattle.lib_os.proofs.Logical.{both}
use Rattle.lib_os.proofs.PipeMaking.{counted_before, counted_own, making_descriptor}
use Rattle.lib_os.proofs.ServerLeft.{IsAside, aside_where}
use Rattle.lib_pipe.proofs.PipeAside.{access_is, entries_stay, regions_stay, storing}

-- ---- a store leaves the entries and the regions of other spaces

-- another space, with its entries and its regions
pub record KeepsEntries (d : ℕ) (s t : SpacesState) : Type 0 where
  pub entries : (p : ℕ) → t.entries d p ≡ s.entries d p
  pub regions : (r : ℕ) → t.regions d r ≡ s.regions d r

pub store_entries : (s : KernelState) (n d : ℕ) → (slot_at s n).directory ≢ d → HasOneUse s.spaces → (va word : ℕ) (sp : SpacesState) →
    store s n va word ≡ giving (with_spaces s sp) tt → KeepsEntries d s.spaces sp
unfolding store
store_entries s n d apart frames va word sp is =
    let given : (by_access s n va Write (storing n va word)).gives ≡ got tt = ap (λ (z : CallStep (Unit {0})). z.gives) is in
    let t : KernelState = with_spaces s (touched s.spaces (slot_at s n).directory va Write) in
    let state : with_spaces s sp ≡ with_user_word t n va word =
    ap (λ (z : CallStep (Unit {0})). z.state) (sym is ∙ access_is s n va (storing n va word) tt given) in
    record {
      entries = λ p. (λ i. (state i).spaces.entries d p) ∙ entries_stay s n va d frames apart (to_le_bytes w32 word) p;
      regions = λ r. (λ i. (state i).spaces.regions d r) ∙ regions_stay s n va d frames apart (to_le_bytes w32 word) r;
    }

-- ---- a store into the page of a descriptor that is made

-- what it comes to, and what it leaves
pub record StoresEnd (s : KernelState) (n va word : ℕ) : Type 0 where
  pub spaces : SpacesState
  pub step_is : store s n va word ≡ giving (with_spaces s spaces) tt
  pub server : n ≢ 0 → is_live (slot_at s n) ≡ true → LeavesServer n s (with_spaces s spaces)

module _ {names : Names} {s : KernelState} {a : AbstractState} (h : StandsFor names s a) (n : ℕ) (b : Born) (is : a.slots n ≡ born b)
    (at : PipeStep) (stands : place_of (slot_at s n) ≡ place.InService service.Pipe (step.Piped at)) (fd : ℕ) (below : fd < DESCRIPTORS)
    (made : makes at fd ≡ true) (device mode : ℕ) (it : TellsEnd (view_of s.spaces (slot_at s n).directory) fd device mode) (o word : ℕ)
    (within : o + 4 ≤ PGSIZE) where
  making : is_making at (descriptor_page fd) ≡ true
  making = making_descriptor at fd below ∙ made

  bits : it.entry.perm ≡ descriptor_perm
  bits = entry_bits h n b is fd it.entry below it.stands

  counts : logical s.spaces s.environments.slots n (descriptor_page fd) ≡ Some (as_own it.entry)
  counts =
      counted_before h n b is at at stands (descriptor_page fd)
      ∙ counted_own at (rows_of s.spaces (slot_at s n).directory) (descriptor_page fd) making ∙ ap (option_map as_own) it.stands

  -- the file server has it not
  no_servers : (q : ℕ) (y : Entry) → server_row s.spaces s.environments.slots q ≡ Some y → y.frame ≢ it.entry.frame
  no_servers q y lies same =
      by_page (q == page_number REQUEST) (h.beside n (descriptor_page fd) q (as_own it.entry) y counts lies (sym same))
    where
      by_page : (c : Bool) → MayBeHad c (descriptor_page fd) (as_own it.entry) → ⊥
      by_page true had = let contradiction : true ≡ false = sym (both _ _ making).0 ∙ ap is_of_descriptor had.0 in cc
      by_page false had = let contradiction : false ≡ true = had.shared in cc

  no_entry : (p : ℕ) (x : Entry) → s.spaces.entries (slot_at s 0).directory p ≡ Some x → x.frame ≢ it.entry.frame
  unfolding rows_of
  no_entry p x lies = no_servers p (lasting x) (ap (option_map lasting) lies)

  puts : PutsBytes s n it.entry o (to_le_bytes w32 word) (store s n (descriptor_va fd + o) word)
  puts =
      let place_is : descriptor_page fd * PGSIZE + o ≡ descriptor_va fd + o = omega (arith, below) in
      subst (λ (va : ℕ). PutsBytes s n it.entry o (to_le_bytes w32 word) (store s n va word)) place_is
      (store_puts s n (descriptor_page fd) (page_is_below fd below) it.entry it.stands (ap is_page_perm bits) (ap has_write bits) o
      (omega (arith, within)) word within)

  server_left : n ≢ 0 → is_live (slot_at s n) ≡ true → LeavesServer n s (with_spaces s puts.spaces)
  server_left other live =
      let aside : IsAside (slot_at s 0).directory s n = aside_where h n other live in
      let kept =
      store_entries s n (slot_at s 0).directory (aside.homes n other live).0 aside.frames (descriptor_va fd + o) word puts.spaces puts.step_is in
      record {
        slot = refl;
        entries = kept.entries;
        regions = kept.regions;
        pages = λ p x lies lacks.
            ap (λ (pages : ℕ → List ℕ). pages x.frame) puts.rewritten.pages
            ∙ upd-other s.spaces.pages it.entry.frame _ x.frame (no_entry p x lies);
      }

  pub stores_end : StoresEnd s n (descriptor_va fd + o) word
  stores_end = record { spaces = puts.spaces; step_is = puts.step_is; server = server_left }
