-- The law of spawn at those of its steps with what the program gives of which nobody sees anything, and in which it takes no page.
use Rattle.std.proofs.Common.{◌≡◌, ◌∙◌, ◌+◌, ◌*◌, ◌%◌, ◌^◌, ◌<◌, ◌≤◌, ◌++◌, ℕ, Bool, true, false, [], ◌∷◌, length, refl, sym, ap, subst, arith}
use Rattle.std.specs.Prelude.{min, nat_lt}
use Rattle.std.proofs.Math.Nat.{min-eq_left, min-le_right}
use Rattle.std.proofs.lemmas.Bool.Decides.{nat_tests}
use Rattle.std.proofs.lemmas.List.{get_or_append_left, get_or_at, length-append}
use Rattle.jos_base.specs.declared.numbers.TheConstants.{PGSIZE, UTEMP}
use Rattle.jos_base.specs.Environments.{Slot, is_live}
use Rattle.jos_base.specs.KernelState.{KernelState, slot_at}
use Rattle.jos_base.specs.TrapFrames.{bytes_of_words}
use Rattle.jos_base.specs.Words.{page_number}
use Rattle.jos_base.proofs.WordBytes.{length-bytes_of_words}
use Rattle.lib_os.specs.declared.numbers.TheConstants.{SPAWN_ADDRESSES, SPAWN_GIVEN}
use Rattle.lib_os.specs.declared.service.Service.TheVariants as service
use Rattle.lib_os.specs.declared.spawn_steps.GivenStep.{GivenStep}
use Rattle.lib_os.specs.declared.spawn_steps.GivenStep.TheVariants as given
use Rattle.lib_os.specs.declared.spawn_steps.SpawnStep.TheVariants as spawn
use Rattle.lib_os.specs.AbstractState.{AbstractState, Born}
use Rattle.lib_os.specs.Fence.{is_inside}
use Rattle.lib_os.specs.LibraryPages.{View, region_index}
use Rattle.lib_os.specs.Places.{place_of}
use Rattle.lib_os.specs.Rows.{Names, is_of_descriptor}
use Rattle.lib_os.specs.StandsAtSpawn.{GivenStands, IsListing, IsQuoting}
use Rattle.lib_os.specs.StandsFor.{StandsFor, view_of}
use Rattle.lib_os.specs.StandsInHandler.{is_refused_by}
use Rattle.lib_os.specs.UserCalls.{load, store, store_byte}
use Rattle.lib_os.proofs.PagesPut.{page_beside}
use Rattle.lib_os.proofs.PageWords.{word_of_words}
use Rattle.lib_os.proofs.SpawnOwnPages.{own_byte_stored, own_word_loaded, own_word_stored, spawn_there, spawn_words, spawns_at, spawns_own}
use Rattle.lib_os.proofs.WindowWords.{read_at}
use Rattle.lib_stage.specs.declared.ask.Next.{Next}
use Rattle.lib_stage.specs.declared.ask.Next.TheVariants as next
use Rattle.lib_stage.specs.ServiceSteps.{ServiceHolds}
use Rattle.lib_stage.proofs.Laws.{is_word_beside}
use Rattle.lib_request.proofs.OwnPageLaws.{IsLoadedSo, IsStoredSo, own_load_holds, own_store_byte_holds, own_store_holds, own_word_beside}
use Rattle.lib_request.proofs.SpawnGoes.{loaded_so, stored_so}
use Rattle.lib_given.specs.Addresses.{address_va, behind_kept}
use Rattle.lib_given.specs.GivenPlan.{giving}
use Rattle.lib_given.specs.Refusals.{at_given, kept_va}
use Rattle.lib_given.specs.Strings.{behind_byte, behind_strings}
use Rattle.lib_given.proofs.AddressGoes.{address_kept_goes, va_is}
use Rattle.lib_given.proofs.GivenFalls.{given_falls}
use Rattle.lib_given.proofs.GivenLooks.{entry_look_holds, region_look_holds}
use Rattle.lib_given.proofs.GivenStays.{listing_told}
use Rattle.lib_given.proofs.KeepingGoes.{string_kept_goes}
use Rattle.lib_given.proofs.StringGoes.{at_string_told, next_address, strings_go}

-- ---- places

-- where an address is kept
kept_place : (index : ℕ) → index ≤ 16 → page_number UTEMP * PGSIZE + (SPAWN_ADDRESSES + 4 * index) ≡ kept_va index
kept_place index few =
    let least : index ≡ min index 16 = sym (min-eq_left few) in
    let whole : page_number UTEMP * PGSIZE + (SPAWN_ADDRESSES + 4 * index) ≡ UTEMP + SPAWN_ADDRESSES + 4 * index = omega arith in
    whole ∙ ap (λ (m : ℕ). UTEMP + SPAWN_ADDRESSES + 4 * m) least

-- It lies in the page at UTEMP, whatever the number is.
kept_beside : (index : ℕ) → is_word_beside (kept_va index) ≡ true
kept_beside index =
    let most = min-le_right index 16 in
    let whole : page_number UTEMP * PGSIZE + (SPAWN_ADDRESSES + 4 * min index 16) ≡ kept_va index = omega arith in
    subst (λ (va : ℕ). is_word_beside va ≡ true) whole
    (own_word_beside (page_number UTEMP) (SPAWN_ADDRESSES + 4 * min index 16) (omega (arith, most)) refl)

module _ (s : KernelState) (n path argv : ℕ) (live : is_live (slot_at s n) ≡ true) where
  abbrev home : ℕ
  home = (slot_at s n).directory

  -- ---- an address

  module _ (index done word : ℕ) (stands : place_of (slot_at s n) ≡ spawns_at path argv (spawn.Given (given.AddressRegion index done word))) where
    pub address_region_holds : ServiceHolds s n (giving (record { argv = argv; at = given.AddressRegion index done word }))
    address_region_holds =
        region_look_holds s n path argv live (given.AddressRegion index done word) (given.AddressEntry index done word) (given.AddressFaulting index done)
        stands (address_va argv index done) refl refl refl (given_falls path argv (given.AddressRegion index done word))
        (λ v k b h. ap is_inside (place_so v k b h.0) ∙ h.1)
        (λ v k b h known. (
          listing_told (spawn_words (spawn.Given (given.AddressEntry index done word))) h.0,
          h.1,
          subst (λ (va : ℕ). v.tables (region_index va) ≡ true) (place_so v k b h.0) known,
        ))
        (λ v k b h known. (
          (word, listing_told (spawn_words (spawn.Given (given.AddressFaulting index done))) h.0),
          record { inside = h.1; refused = subst (λ (va : ℕ). is_refused_by false (v.row (page_number va)) ≡ true) (place_so v k b h.0) known },
        ))
      where
        place_so : (v : View) (k : Slot) (b : Born) → IsListing v k b path argv index done word →
            address_va argv index done ≡ (argv + 4 * index + done) % 2 ^ 32
        place_so v k b h = let most = h.most in va_is argv index done (omega (arith, most))

  module _ (index done word : ℕ) (stands : place_of (slot_at s n) ≡ spawns_at path argv (spawn.Given (given.AddressEntry index done word))) where
    pub address_entry_holds : ServiceHolds s n (giving (record { argv = argv; at = given.AddressEntry index done word }))
    address_entry_holds =
        entry_look_holds s n path argv live (given.AddressEntry index done word) (given.AddressLoading index done word) (given.AddressFaulting index done)
        stands (address_va argv index done) refl refl refl (given_falls path argv (given.AddressEntry index done word))
        (λ v k b h. ap is_inside (place_so v k b h.0) ∙ h.1)
        (λ v k b h. subst (λ (va : ℕ). v.tables (region_index va) ≡ true) (sym (place_so v k b h.0)) h.2)
        (λ v k b h known. (
          listing_told (spawn_words (spawn.Given (given.AddressLoading index done word))) h.0,
          record { inside = h.1; allowed = subst (λ (va : ℕ). is_refused_by false (v.row (page_number va)) ≡ false) (place_so v k b h.0) known },
        ))
        (λ v k b h known. (
          (word, listing_told (spawn_words (spawn.Given (given.AddressFaulting index done))) h.0),
          record { inside = h.1; refused = subst (λ (va : ℕ). is_refused_by false (v.row (page_number va)) ≡ true) (place_so v k b h.0) known },
        ))
      where
        place_so : (v : View) (k : Slot) (b : Born) → IsListing v k b path argv index done word →
            address_va argv index done ≡ (argv + 4 * index + done) % 2 ^ 32
        place_so v k b h = let most = h.most in va_is argv index done (omega (arith, most))

  -- it is kept
  module _ (index word : ℕ) (stands : place_of (slot_at s n) ≡ spawns_at path argv (spawn.Given (given.AddressKeeping index word))) where
    abbrev keeping : GivenStep
    keeping = given.AddressKeeping index word

    keeps_address : (names : Names) (a : AbstractState) → StandsFor names s a →
        IsStoredSo s n (service.Spawn path argv) a (λ w. next.GoOn (behind_kept argv index word)) (store s n (kept_va index) word)
    keeps_address names a h =
        let at = spawn_there h n path argv (spawn.Given keeping) stands in
        let has : GivenStands (view_of s.spaces home) (slot_at s n) at.b path argv keeping = at.at in
        let few = has.0.most in
        let given_page = spawns_own h n path argv (spawn.Given keeping) stands (page_number SPAWN_GIVEN) refl in
        let it = own_word_stored h n path argv (spawn.Given keeping) stands (page_number UTEMP) refl (SPAWN_ADDRESSES + 4 * index) word (omega (arith, few)) in
        subst (λ (va : ℕ). IsStoredSo s n (service.Spawn path argv) a (λ w. next.GoOn (behind_kept argv index word)) (store s n va word))
        (kept_place index (omega (arith, few)))
        (stored_so h n path argv (spawn.Given keeping) stands refl (λ w. next.GoOn (behind_kept argv index word)) it (behind_kept argv index word) refl
        (λ order. address_kept_goes (view_of s.spaces home) (view_of it.spaces home) (slot_at s n) at.b path argv index word has (it.put order)
        (page_beside (it.put order) (λ same. absurd (omega (arith, same)))
        (record { entry = given_page.page.entry; stands = given_page.page.stands; own_page = given_page.page.own_page; same = λ i lt. absurd (omega (arith, lt)) }))))

    pub address_keeping_holds : ServiceHolds s n (giving (record { argv = argv; at = given.AddressKeeping index word }))
    address_keeping_holds =
        own_store_holds s n (service.Spawn path argv) (at_given keeping) live refl stands (λ w. next.GoOn (behind_kept argv index word))
        (given_falls path argv keeping) (kept_va index) word (kept_beside index) keeps_address

  -- ---- a string

  -- its address is loaded
  module _ (index used : ℕ) (stands : place_of (slot_at s n) ≡ spawns_at path argv (spawn.Given (given.StringAddress index used))) where
    abbrev looking : GivenStep
    looking = given.StringAddress index used

    module _ {names : Names} {a : AbstractState} (h : StandsFor names s a) where
      abbrev born_here : Born
      born_here = (spawn_there h n path argv (spawn.Given looking) stands).b

      quoting : IsQuoting (view_of s.spaces home) (slot_at s n) born_here path argv index used 0
      quoting = (spawn_there h n path argv (spawn.Given looking) stands).at

      abbrev there : ℕ
      there = next_address (view_of s.spaces home) (slot_at s n) born_here path argv index used quoting

      there_small : there < 2 ^ 32
      there_small = by_place (nat_lt index (length quoting.addresses)) refl
        where
          by_place : (c : Bool) → nat_lt index (length quoting.addresses) ≡ c → there < 2 ^ 32
          by_place true test =
              let low : index < length quoting.addresses = grind (arith, nat_tests, test) in
              subst (λ (w : ℕ). w < 2 ^ 32) (sym (get_or_append_left quoting.addresses (0 ∷ []) 0 index low)) (quoting.are index 0 low).1
          by_place false test =
              let reached = quoting.reached in
              let past : length quoting.addresses ≤ index = grind (arith, nat_tests, test) in
              subst (λ (w : ℕ). w < 2 ^ 32) (sym (get_or_at quoting.addresses 0 [] 0 index (omega (arith, reached, past)))) (omega arith)

      there_loaded : load s n (page_number UTEMP * PGSIZE + (SPAWN_ADDRESSES + 4 * index))
          ≡ read_at s n (page_number UTEMP * PGSIZE + (SPAWN_ADDRESSES + 4 * index)) there
      there_loaded =
          let few = quoting.few in
          let reached = quoting.reached in
          let many = length-append quoting.addresses (0 ∷ []) in
          let long = length-bytes_of_words (quoting.addresses ++ 0 ∷ []) in
          own_word_loaded h n path argv (spawn.Given looking) stands (page_number UTEMP) refl SPAWN_ADDRESSES
          (bytes_of_words (quoting.addresses ++ 0 ∷ [])) quoting.kept (4 * index) (omega (arith, reached, many, long)) (omega (arith, few, reached))
          (omega arith)
          ∙ ap (read_at s n (page_number UTEMP * PGSIZE + (SPAWN_ADDRESSES + 4 * index)))
          (word_of_words (quoting.addresses ++ 0 ∷ []) index (omega (arith, reached, many)) there_small)

      loads_address : IsLoadedSo s n (service.Spawn path argv) a (λ w. next.GoOn (behind_strings index used w)) (kept_va index) (load s n (kept_va index))
      loads_address =
          let few = quoting.few in
          let reached = quoting.reached in
          subst (λ (va : ℕ). IsLoadedSo s n (service.Spawn path argv) a (λ w. next.GoOn (behind_strings index used w)) va (load s n va))
          (kept_place index (omega (arith, few, reached)))
          (loaded_so h n path argv (spawn.Given looking) stands refl (λ w. next.GoOn (behind_strings index used w)) there there_loaded
          (behind_strings index used there) refl
          (strings_go (view_of s.spaces home) (slot_at s n) born_here path argv index used quoting))

    pub string_address_holds : ServiceHolds s n (giving (record { argv = argv; at = given.StringAddress index used }))
    string_address_holds =
        own_load_holds s n (service.Spawn path argv) (at_given looking) live refl stands (λ w. next.GoOn (behind_strings index used w))
        (given_falls path argv looking) (kept_va index) (λ names a h. loads_address h)

  -- the page of its next byte is looked at
  module _ (index address used done : ℕ)
      (stands : place_of (slot_at s n) ≡ spawns_at path argv (spawn.Given (given.StringRegion index address used done))) where
    pub string_region_holds : ServiceHolds s n (giving (record { argv = argv; at = given.StringRegion index address used done }))
    string_region_holds =
        region_look_holds s n path argv live (given.StringRegion index address used done) (given.StringEntry index address used done)
        (given.StringFaulting address done) stands ((address + done) % 2 ^ 32) refl refl refl
        (given_falls path argv (given.StringRegion index address used done)) (λ v k b h. h.1)
        (λ v k b h known. (at_string_told (spawn_words (spawn.Given (given.StringEntry index address used done))) h.0, h.1, known))
        (λ v k b h known. (
          (index, used, at_string_told (spawn_words (spawn.Given (given.StringFaulting address done))) h.0),
          record { inside = h.1; refused = known },
        ))

  module _ (index address used done : ℕ)
      (stands : place_of (slot_at s n) ≡ spawns_at path argv (spawn.Given (given.StringEntry index address used done))) where
    pub string_entry_holds : ServiceHolds s n (giving (record { argv = argv; at = given.StringEntry index address used done }))
    string_entry_holds =
        entry_look_holds s n path argv live (given.StringEntry index address used done) (given.StringLoading index address used done)
        (given.StringFaulting address done) stands ((address + done) % 2 ^ 32) refl refl refl
        (given_falls path argv (given.StringEntry index address used done)) (λ v k b h. h.1) (λ v k b h. h.2)
        (λ v k b h known. (
          at_string_told (spawn_words (spawn.Given (given.StringLoading index address used done))) h.0,
          record { inside = h.1; allowed = known },
        ))
        (λ v k b h known. (
          (index, used, at_string_told (spawn_words (spawn.Given (given.StringFaulting address done))) h.0),
          record { inside = h.1; refused = known },
        ))

  -- a byte of it is kept
  module _ (index address used done word left : ℕ)
      (stands : place_of (slot_at s n) ≡ spawns_at path argv (spawn.Given (given.StringKeeping index address used done word left))) where
    abbrev putting : GivenStep
    putting = given.StringKeeping index address used done word left

    abbrev put_at : ℕ
    put_at = SPAWN_GIVEN + (used + done) % 2 ^ 32 % PGSIZE

    abbrev behind_it : ℕ → Next
    behind_it w = next.GoOn (behind_byte index address used done word left)

    beside : is_of_descriptor (page_number put_at) ≡ false
    beside = let same : page_number put_at ≡ page_number SPAWN_GIVEN = omega arith in ap is_of_descriptor same

    keeps_byte : (names : Names) (a : AbstractState) → StandsFor names s a →
        IsStoredSo s n (service.Spawn path argv) a behind_it (store_byte s n put_at (word % 256))
    keeps_byte names a h =
        let at = spawn_there h n path argv (spawn.Given putting) stands in
        let has : GivenStands (view_of s.spaces home) (slot_at s n) at.b path argv putting = at.at in
        let short = has.0.short in
        let few = used_few _ has.0.used_is in
        let same : page_number SPAWN_GIVEN * PGSIZE + (used + done) % PGSIZE ≡ put_at = omega (arith, short, few) in
        let it =
        own_byte_stored h n path argv (spawn.Given putting) stands (page_number SPAWN_GIVEN) refl ((used + done) % PGSIZE) (word % 256) (omega arith)
        (omega arith) in
        subst (λ (va : ℕ). IsStoredSo s n (service.Spawn path argv) a behind_it (store_byte s n va (word % 256))) same
        (stored_so h n path argv (spawn.Given putting) stands refl behind_it it (behind_byte index address used done word left) refl
        (λ order. string_kept_goes (view_of s.spaces home) (view_of it.spaces home) (slot_at s n) at.b path argv index address used done word left has
        (it.put order)))
      where
        used_few : (size : ℕ) → used ≡ min size (PGSIZE + 1) → used ≤ PGSIZE + 1
        used_few size is = let most = min-le_right size (PGSIZE + 1) in omega (arith, most, is)

    pub string_keeping_holds : ServiceHolds s n (giving (record { argv = argv; at = given.StringKeeping index address used done word left }))
    string_keeping_holds =
        own_store_byte_holds s n (service.Spawn path argv) (at_given putting) live refl stands behind_it (given_falls path argv putting) put_at (word % 256)
        beside keeps_byte
