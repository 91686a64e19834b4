-- Send, before it tries: whom and what it refuses in the abstract system, and what the words that it reads of its own page's
-- region and entry tell of the page.
use Rattle.std.proofs.Common.{◌≡◌, ◌∙◌, ◌⊎◌, inl, inr, ◌/◌, ◌%◌, ◌==◌, ◌&&◌, ◌||◌, ℕ, Bool, true, false, not, Option, Some, None}
use Rattle.std.proofs.Common.{refl, sym, ap, subst, if◌then◌else◌}
use Rattle.std.specs.Prelude.{bit_and, is_some}
use Rattle.std.specs.Option.{option_map}
use Rattle.jos_base.specs.declared.numbers.TheConstants.{E_BAD_ENV, E_INVAL, FIRST_ENV_ID, NENV, NPTENTRIES, PTE_P, PTE_SYSCALL}
use Rattle.jos_base.specs.KernelState.{KernelState, slot_at}
use Rattle.jos_base.specs.Reach.{Entry}
use Rattle.jos_base.specs.Windows.{entry_word, region_entry}
use Rattle.jos_base.specs.Words.{page_number}
use Rattle.lib_os.specs.declared.service.Service.TheVariants as service
use Rattle.lib_os.specs.AbstractState.{AbstractState, Born, Page, born, entered, slot_id}
use Rattle.lib_os.specs.AbstractMemory.{page_at}
use Rattle.lib_os.specs.AbstractMessages.{may_pass, is_page_to_send, server_id, sent_to, send}
use Rattle.lib_os.specs.AbstractRun.{abs_step}
use Rattle.lib_os.specs.Answers.{refused}
use Rattle.lib_os.specs.Fence.{is_page_inside}
use Rattle.lib_os.specs.GuestStep.{born_in}
use Rattle.lib_os.specs.LibraryCall.{library_step}
use Rattle.lib_os.specs.MemoryServices.{lives}
use Rattle.lib_os.specs.Rows.{Names, rows_of, page_by, is_shared, may_write}
use Rattle.lib_os.specs.InService.{IsIn}
use Rattle.lib_os.specs.StandsFor.{StandsFor, MaySend, MaySendBy}
use Rattle.lib_os.proofs.BytesRead.{users_inside}
use Rattle.lib_os.proofs.EntriesStand.{seen_by, seen_none}
use Rattle.lib_os.proofs.EntryWords.{region_told, row_told, row_word_bits, row_entry}
use Rattle.lib_os.proofs.Logical.{page_inside_programs}
use Rattle.lib_os.proofs.Sending.{passes_alike}
use Rattle.lib_os.proofs.Serving.{step_in}
use Rattle.lib_os.proofs.SlotsStand.{born_at}

module _ {names : Names} {s : KernelState} {a : AbstractState} (h : StandsFor names s a) (n : ℕ) (b : Born) (at : a.slots n ≡ born b)
    (id value va : ℕ) (is_in : IsIn (slot_at s n) b (service.Send id value va) entered) where
  abbrev d : ℕ
  d = (slot_at s n).directory

  abbrev p : ℕ
  p = page_number va

  send_is : abs_step a n ≡ send a n b (slot_at s n).registers id value va
  unfolding library_step
  send_is = step_in a n b (slot_at s n) (service.Send id value va) entered at is_in

  -- ---- what is refused

  by_tests : (named may : Bool) → (named ≡ true) ⊎ (may ≡ false) → (rest : Option AbstractState) →
      (if named then Some (refused a n b (slot_at s n).registers E_INVAL)
      else if not may then Some (refused a n b (slot_at s n).registers E_INVAL) else rest)
      ≡ Some (refused a n b (slot_at s n).registers E_INVAL)
  by_tests true may either rest = refl
  by_tests false false either rest = refl
  by_tests false true (inl is) rest = absurd cc
  by_tests false true (inr is) rest = absurd cc

  refused_where : (((id == 0) || (id == b.id) || (id == server_id a)) ≡ true) ⊎ (is_page_to_send b va ≡ false) →
      abs_step a n ≡ Some (refused a n b (slot_at s n).registers E_INVAL)
  refused_where either =
      send_is
      ∙ by_tests ((id == 0) || (id == b.id) || (id == server_id a)) (is_page_to_send b va) either
      (if not (lives a id) then Some (refused a n b (slot_at s n).registers E_BAD_ENV)
      else sent_to a n b (slot_at s n).registers (id % NENV) value va (born_in (a.slots (id % NENV))))

  -- nobody sends to no id, to itself or to the server
  pub refused_named : ((id == 0) || (id == b.id) || (id == FIRST_ENV_ID)) ≡ true →
      abs_step a n ≡ Some (refused a n b (slot_at s n).registers E_INVAL)
  refused_named is =
      let first : server_id a ≡ FIRST_ENV_ID = ap slot_id h.first in
      refused_where (inl (ap (λ (x : ℕ). (id == 0) || (id == b.id) || (id == x)) first ∙ is))

  pub refused_page : is_page_to_send b va ≡ false → abs_step a n ≡ Some (refused a n b (slot_at s n).registers E_INVAL)
  refused_page is = refused_where (inr is)

  module _ (some : (va == 0) ≡ false) where
    not_to_send : (inside may : Bool) → is_page_inside va ≡ inside → may_pass (page_at b va) ≡ may → (inside && may) ≡ false →
        is_page_to_send b va ≡ false
    not_to_send inside may inside_is may_is off = (λ i. some i || (inside_is i && may_is i)) ∙ off

    -- a page lies within the fence
    pub refused_outside : is_page_inside va ≡ false → abs_step a n ≡ Some (refused a n b (slot_at s n).registers E_INVAL)
    refused_outside off = refused_page (not_to_send false (may_pass (page_at b va)) off refl refl)

    false_behind : (x : Bool) → (x && false) ≡ false
    false_behind true = refl
    false_behind false = refl

    -- none stands there
    refused_none : rows_of s.spaces d p ≡ None → abs_step a n ≡ Some (refused a n b (slot_at s n).registers E_INVAL)
    refused_none none =
        let nothing : page_at b va ≡ None = (born_at h n b at).memory p ∙ seen_none names s.spaces d p none in
        refused_page (not_to_send (is_page_inside va) false refl (ap (λ (o : Option Page). may_pass o) nothing) (false_behind (is_page_inside va)))

    refused_entry : is_page_inside va ≡ true → (x : Entry) → rows_of s.spaces d p ≡ Some x → (is_shared x.perm || not (may_write x.perm)) ≡ false →
        abs_step a n ≡ Some (refused a n b (slot_at s n).registers E_INVAL)
    refused_entry inside x stands off =
        let seen : page_at b va ≡ Some (page_by names s.spaces.pages x) =
        (born_at h n b at).memory p ∙ seen_by names s.spaces d p x (page_inside_programs va inside) stands in
        let may : may_pass (page_at b va) ≡ false =
        ap (λ (o : Option Page). may_pass o) seen ∙ passes_alike names s.spaces.pages x ∙ off in
        refused_page (not_to_send (is_page_inside va) false refl may (false_behind (is_page_inside va)))

    -- ---- the word of the region

    abbrev region_word : ℕ
    region_word = entry_word (option_map region_entry (s.spaces.regions d (p / NPTENTRIES)))

    -- without a table there is no page
    pub refused_region : (bit_and region_word PTE_P == PTE_P) ≡ false → abs_step a n ≡ Some (refused a n b (slot_at s n).registers E_INVAL)
    refused_region off = by_row (rows_of s.spaces d p) refl
      where
        by_row : (o : Option Entry) → rows_of s.spaces d p ≡ o → abs_step a n ≡ Some (refused a n b (slot_at s n).registers E_INVAL)
        by_row None none = refused_none none
        by_row (Some x) stands =
            let e = row_entry s.spaces d p x stands in
            let there : true ≡ false =
            sym (h.in_order.frames.regions d p e.0 e.1) ∙ sym (region_told (s.spaces.regions d (p / NPTENTRIES))) ∙ off in
            absurd cc

    pub region_stands : (bit_and region_word PTE_P == PTE_P) ≡ true → is_some (s.spaces.regions d (p / NPTENTRIES)) ≡ true
    region_stands on = sym (region_told (s.spaces.regions d (p / NPTENTRIES))) ∙ on

    -- ---- the word of the entry

    abbrev page_word : ℕ
    page_word = entry_word (s.spaces.entries d p)

    abbrev bits : ℕ
    bits = bit_and page_word PTE_SYSCALL

    -- whether a page is there, which a program may have
    page_told : is_page_inside va ≡ true → (bit_and page_word PTE_P == PTE_P) ≡ is_some (rows_of s.spaces d p)
    page_told inside = row_told s.spaces d p (λ x stands. users_inside names s a n b h at p x (page_inside_programs va inside) stands)

    -- no page stands there
    pub refused_missing : is_page_inside va ≡ true → (bit_and page_word PTE_P == PTE_P) ≡ false →
        abs_step a n ≡ Some (refused a n b (slot_at s n).registers E_INVAL)
    refused_missing inside off = by_row (rows_of s.spaces d p) refl
      where
        by_row : (o : Option Entry) → rows_of s.spaces d p ≡ o → abs_step a n ≡ Some (refused a n b (slot_at s n).registers E_INVAL)
        by_row None none = refused_none none
        by_row (Some x) stands =
            let there : true ≡ false = sym (ap is_some stands) ∙ sym (page_told inside) ∙ off in absurd cc

    module _ (inside : is_page_inside va ≡ true) (on : (bit_and page_word PTE_P == PTE_P) ≡ true) where
      row_there : (x : Entry) × (rows_of s.spaces d p ≡ Some x)
      row_there = by_row (rows_of s.spaces d p) refl
        where
          by_row : (o : Option Entry) → rows_of s.spaces d p ≡ o → (x : Entry) × (rows_of s.spaces d p ≡ Some x)
          by_row None none =
              let there : false ≡ true = sym (ap is_some none) ∙ sym (page_told inside) ∙ on in absurd cc
          by_row (Some x) stands = (x, stands)

      bits_are : bits ≡ row_there.0.perm
      bits_are = row_word_bits s.spaces d p h.in_order.frames row_there.0 row_there.1

      -- it may be written, where it stands or as a copy of it, and is not shared
      pub refused_kept : (is_shared bits || not (may_write bits)) ≡ false → abs_step a n ≡ Some (refused a n b (slot_at s n).registers E_INVAL)
      refused_kept off =
          refused_entry inside row_there.0 row_there.1 (sym (ap (λ (m : ℕ). is_shared m || not (may_write m)) bits_are) ∙ off)

      -- it may pass
      pub may_send_it : (is_shared bits || not (may_write bits)) ≡ true → MaySend (rows_of s.spaces d) va bits
      may_send_it passes =
          subst (λ (none : Bool). MaySendBy none (rows_of s.spaces d) va bits) (sym some)
          (record { inside = inside; entry = row_there.0; stands = row_there.1; bits = bits_are; passes = passes })
