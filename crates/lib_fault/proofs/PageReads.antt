-- The handler reads the entry of the page of the fault, and each word of the page.
use Rattle.std.proofs.Common.{◌≡◌, ◌∙◌, ◌+◌, ◌*◌, ◌/◌, ◌%◌, ◌==◌, ◌&&◌, ◌<◌, ℕ, Bool, true, false, not, refl, sym, ap, arith, if◌then◌else◌}
use Rattle.std.proofs.lemmas.Bool.Decides.{nat_tests}
use Rattle.std.specs.Prelude.{bit_and, is_some, Option, Some}
use Rattle.jos_base.specs.declared.numbers.TheConstants.{NPTENTRIES, PGSIZE, PTE_P, PTE_SYSCALL, UVPT}
use Rattle.jos_base.specs.Environments.{is_live}
use Rattle.jos_base.specs.KernelState.{KernelState, slot_at}
use Rattle.jos_base.specs.Reach.{Entry}
use Rattle.jos_base.specs.SystemCalls.{has_write}
use Rattle.jos_base.specs.Windows.{entry_word}
use Rattle.jos_base.specs.Words.{page_number, page_offset}
use Rattle.lib_os.specs.declared.numbers.TheConstants.{PAGE_WORDS}
use Rattle.lib_os.specs.declared.place.HandlerStep.{HandlerStep}
use Rattle.lib_os.specs.declared.place.HandlerStep.TheVariants as handler
use Rattle.lib_os.specs.declared.place.Place.TheVariants as place
use Rattle.lib_os.specs.AbstractState.{AbstractState}
use Rattle.lib_os.specs.Fence.{is_inside}
use Rattle.lib_os.specs.InOrder.{IsInOrder}
use Rattle.lib_os.specs.Places.{place_of}
use Rattle.lib_os.specs.Rows.{Names, IsUsers, is_cow, is_shared, rows_of}
use Rattle.lib_os.specs.StandsFor.{StandsFor, view_of}
use Rattle.lib_os.specs.StandsInHandler.{CopiesOrEnds, copies, ends, is_refused_by, is_write, page_word}
use Rattle.lib_os.specs.UserCalls.{load}
use Rattle.lib_os.proofs.BytesRead.{users_inside}
use Rattle.lib_os.proofs.EntryWords.{row_entry, row_word_bits, row_word_present}
use Rattle.lib_os.proofs.Fences.{inside_number}
use Rattle.lib_os.proofs.Handled.{IsHandled, handler_slot}
use Rattle.lib_os.proofs.HandlerGoes.{copies_go, ends_go}
use Rattle.lib_os.proofs.Logical.{inside_programs}
use Rattle.lib_os.proofs.PageWords.{load_page_word}
use Rattle.lib_os.proofs.WindowWords.{load_table_word, read_at}
use Rattle.lib_stage.specs.declared.ask.Next.TheVariants as next
use Rattle.lib_stage.specs.Asks.{performed}
use Rattle.lib_stage.proofs.Laws.{FailsBy, KeepsBy, NeverFaults}
use Rattle.jos_base.proofs.Options.{some_is}
use Rattle.lib_fault.specs.HandlerStages.{ask_of, handling, next_of, page_start, refused_write, waits_to_be_copied, word_of_page}
use Rattle.lib_fault.proofs.Loads.{Reads, load_keeps, load_fails, load_never}

module _ (s : KernelState) (n : ℕ) where
  abbrev d : ℕ
  d = (slot_at s n).directory

  module _ (names : Names) (a : AbstractState) (h : StandsFor names s a) (from : HandlerStep) (v : IsHandled names s a n from) where
    -- the way on which it is, before, and at another step
    abbrev Before : Type 0
    Before = CopiesOrEnds from (view_of s.spaces d) (slot_at s n) v.b v.at.fault v.at.regs

    abbrev Way : HandlerStep → Type 0
    Way to = CopiesOrEnds to (view_of s.spaces d) (handler_slot (slot_at s n) to) v.b v.at.fault v.at.regs

    -- a page that the program may have
    module _ (va : ℕ) (inside : is_inside va ≡ true) (row : Entry) (stands : rows_of s.spaces d (page_number va) ≡ Some row) where
      user : IsUsers row.perm
      user = users_inside names s a n v.b h v.is (page_number va) row (inside_programs va inside) stands

      has_table : is_some (s.spaces.regions d (page_number va / NPTENTRIES)) ≡ true
      has_table = let e = row_entry s.spaces d (page_number va) row stands in h.in_order.frames.regions d (page_number va) e.0 e.1

      abbrev word : ℕ
      word = entry_word (s.spaces.entries d (page_number va))

      entry_loads : load s n (UVPT + 4 * (va / PGSIZE)) ≡ read_at s n (UVPT + 4 * (va / PGSIZE)) word
      entry_loads = load_table_word s n h.in_order.frames (page_number va) (inside_number va inside) has_table

      -- What the word tells is so.
      word_tells : waits_to_be_copied word ≡ (is_cow row.perm && not (is_shared row.perm))
      word_tells =
          let present : (bit_and word PTE_P == PTE_P) ≡ true =
          let is = row_word_present s.spaces d (page_number va) row user stands in grind (arith, nat_tests) in
          let bits : bit_and word PTE_SYSCALL ≡ row.perm = row_word_bits s.spaces d (page_number va) h.in_order.frames row stands in
          λ i. present i && (is_cow (bits i) && not (is_shared (bits i)))

      -- it goes on by that
      leads_by : (t : Bool) → (is_cow row.perm && not (is_shared row.perm)) ≡ t →
          next_of (handler.Looking va) word ≡ (if not t then next.Handle (handler.ReadingIp va refused_write) else next.Handle (handler.Taking va))
      leads_by t is = let told : waits_to_be_copied word ≡ t = word_tells ∙ is in rw told refl

  -- ---- the entry

  module _ (va : ℕ) where
    abbrev looking : HandlerStep
    looking = handler.Looking va

    abbrev address : ℕ
    address = UVPT + 4 * (va / PGSIZE)

    entry_read : (names : Names) (a : AbstractState) (h : StandsFor names s a) (v : IsHandled names s a n looking) → Reads n address looking v
    entry_read names a h v = by_way v.at.way
      where
        copied_own : (copied shared_page : Bool) → copied ≡ true → shared_page ≡ false → (copied && not shared_page) ≡ true
        copied_own copied shared_page on off = (λ i. on i && not (off i))

        not_copied : (write writes copied : Bool) → (write && not writes && not copied) ≡ true → (shared_page : Bool) →
            (copied && not shared_page) ≡ false
        not_copied write writes false is shared_page = refl
        not_copied true true true is shared_page = absurd (let contradiction : false ≡ true = is in cc)
        not_copied true false true is shared_page = absurd (let contradiction : false ≡ true = is in cc)
        not_copied false writes true is shared_page = absurd (let contradiction : false ≡ true = is in cc)

        by_way : Before names a h looking v → Reads n address looking v
        by_way (copies way) =
            let same : va ≡ v.at.fault.va = way.at.0 in
            let copy = way.at.1 in
            let inside : is_inside va ≡ true = ap is_inside same ∙ way.inside in
            let stands : rows_of s.spaces d (page_number va) ≡ Some copy.entry =
            ap (λ (at : ℕ). rows_of s.spaces d (page_number at)) same ∙ copy.stands in
            record {
              word = word names a h looking v va inside copy.entry stands;
              is = entry_loads names a h looking v va inside copy.entry stands;
              to = handler.Taking va;
              leads = leads_by names a h looking v va inside copy.entry stands true
                  (copied_own (is_cow copy.entry.perm) (is_shared copy.entry.perm) copy.copied copy.own_page);
              alike = record { there = tt; plain = refl; plain_to = refl; upcall = refl; copy = refl };
              way = copies (copies_go way way.at);
            }
        by_way (ends way) =
            let same : va ≡ v.at.fault.va = way.at.0 in
            let found = some_is (rows_of s.spaces d (page_number v.at.fault.va)) (way.present way.at.1) in
            let inside : is_inside va ≡ true = ap is_inside same ∙ way.inside in
            let stands : rows_of s.spaces d (page_number va) ≡ Some found.0 = ap (λ (at : ℕ). rows_of s.spaces d (page_number at)) same ∙ found.1 in
            let refused : is_refused_by (is_write v.at.fault.error) (Some found.0) ≡ true =
            sym (ap (λ (o : Option Entry). is_refused_by (is_write v.at.fault.error) o) found.1) ∙ way.refused in
            record {
              word = word names a h looking v va inside found.0 stands;
              is = entry_loads names a h looking v va inside found.0 stands;
              to = handler.ReadingIp va refused_write;
              leads = leads_by names a h looking v va inside found.0 stands false
                  (not_copied (is_write v.at.fault.error) (has_write found.0.perm) (is_cow found.0.perm) refused (is_shared found.0.perm));
              alike = record { there = tt; plain = refl; plain_to = refl; upcall = refl; copy = refl };
              way = ends (ends_go way (way.at.0, sym way.at.1));
            }

    module _ (live : is_live (slot_at s n) ≡ true) (stands : place_of (slot_at s n) ≡ place.InHandler looking) where
      pub looking_keeps : IsInOrder (performed s n (ask_of looking)).state → KeepsBy s n (handling looking) (performed s n (ask_of looking))
      looking_keeps = load_keeps s n address looking refl stands entry_read

      pub looking_fails : FailsBy s n (handling looking) (performed s n (ask_of looking))
      looking_fails = load_fails s n address looking refl stands entry_read

      pub looking_never : NeverFaults s n (performed s n (ask_of looking))
      looking_never = load_never s n address looking refl stands entry_read

  -- ---- a word of the page

  module _ (va index : ℕ) where
    abbrev loading : HandlerStep
    loading = handler.Loading va index

    abbrev place_of_word : ℕ
    place_of_word = word_of_page (page_start va) index

    module _ (there : index < PAGE_WORDS) where
      page_word_read : (names : Names) (a : AbstractState) (h : StandsFor names s a) (v : IsHandled names s a n loading) →
          Reads n place_of_word loading v
      page_word_read names a h v = by_way v.at.way
        where
          number : page_number place_of_word ≡ page_number va
          number = omega (arith, there)

          offset : page_offset place_of_word ≡ 4 * index
          offset = omega (arith, there)

          aligned : place_of_word % 4 ≡ 0
          aligned = omega (arith, there)

          by_way : Before names a h loading v → Reads n place_of_word loading v
          by_way (ends way) = absurd way.at
          by_way (copies way) =
              let same : va ≡ v.at.fault.va = way.at.0 in
              let copy = way.at.1 in
              let inside : is_inside va ≡ true = ap is_inside same ∙ way.inside in
              let stands : rows_of s.spaces d (page_number va) ≡ Some copy.entry =
              ap (λ (at : ℕ). rows_of s.spaces d (page_number at)) same ∙ copy.stands in
              let at_place : rows_of s.spaces d (page_number place_of_word) ≡ Some copy.entry = ap (rows_of s.spaces d) number ∙ stands in
              let page = (user names a h loading v va inside copy.entry stands).page in
              let word : ℕ = page_word (s.spaces.pages copy.entry.frame) (4 * index) in
              record {
                word = word;
                is = load_page_word s n place_of_word copy.entry aligned at_place page h.in_order.frames
                    ∙ ap (λ (at : ℕ). read_at s n place_of_word (page_word (s.spaces.pages copy.entry.frame) at)) offset;
                to = handler.Storing va index word;
                leads = refl;
                alike = record { there = there; plain = refl; plain_to = refl; upcall = refl; copy = refl };
                way = copies (copies_go way (
                  way.at.0,
                  way.at.1,
                  way.at.2,
                  record { entry = copy.entry; stands = copy.stands; own_page = copy.own_page; word_is = refl },
                ));
              }

      module _ (live : is_live (slot_at s n) ≡ true) (stands : place_of (slot_at s n) ≡ place.InHandler loading) where
        pub loading_keeps : IsInOrder (performed s n (ask_of loading)).state → KeepsBy s n (handling loading) (performed s n (ask_of loading))
        loading_keeps = load_keeps s n place_of_word loading refl stands page_word_read

        pub loading_fails : FailsBy s n (handling loading) (performed s n (ask_of loading))
        loading_fails = load_fails s n place_of_word loading refl stands page_word_read

        pub loading_never : NeverFaults s n (performed s n (ask_of loading))
        loading_never = load_never s n place_of_word loading refl stands page_word_read
