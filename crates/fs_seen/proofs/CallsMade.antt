-- The calls of the server, one by one: what each gives, and what is seen behind it. None is stopped.
use Rattle.std.proofs.Common.{◌≡◌, ◌∙◌, ◌+◌, ◌*◌, ◌<◌, ◌≤◌, ◌^◌, ℕ, Bool, true, false, List, [], ◌∷◌, Option, Some, None, Ok}
use Rattle.std.proofs.Common.{refl, sym, ap, subst, arith, if◌then◌else◌}
use Rattle.std.proofs.lemmas.Bool.Decides.{nat_tests}
use Rattle.std.specs.Prelude.{is_some, nat_lt, slice_index}
use Rattle.std.specs.Int.{w32, to_le_bytes, from_le_bytes}
use Rattle.jos_base.specs.declared.called.Called.{Called}
use Rattle.jos_base.specs.declared.called.Called.TheVariants.{Answered}
use Rattle.jos_base.specs.declared.environment.Status.TheVariants.{Runnable}
use Rattle.jos_base.specs.declared.memory.Access.{Access}
use Rattle.jos_base.specs.declared.numbers.TheConstants.{PGSIZE, SYS_GETENVID, SYS_YIELD}
use Rattle.jos_base.specs.Counting.{page_limit}
use Rattle.jos_base.specs.Environments.{Slot}
use Rattle.jos_base.specs.KernelState.{KernelState, slot_at, with_status}
use Rattle.jos_base.specs.Reach.{Entry, allows}
use Rattle.jos_base.specs.Words.{page_number, page_offset, upd, word_at}
use Rattle.lib_os.specs.declared.numbers.TheConstants.{MAXOPEN, REQUEST}
use Rattle.lib_os.specs.Disk.{Disk}
use Rattle.lib_os.specs.InOrder.{IsInOrder}
use Rattle.lib_os.specs.Rows.{IsPage}
use Rattle.lib_os.specs.UserCalls.{IsCallStep, IsStep, Output, got, load, store, system}
use Rattle.lib_os.proofs.BytesPut.{bytes_put, put_whole}
use Rattle.lib_os.proofs.Calls.{comes_to, getenvid_is, yield_is}
use Rattle.lib_os.proofs.PageBytes.{word_bytes}
use Rattle.lib_os.proofs.Slots.{slot_put}
use Rattle.fs_blocks.specs.CachePlaces.{state_in}
use Rattle.fs_cache.proofs.BlockMoves.{block_allows}
use Rattle.fs_tree.specs.TreeSteps.{HasRequest, request_bytes}
use Rattle.fs_tree.proofs.TiesBlocks.{request_holds, request_low, request_number}
use Rattle.fs_requests.specs.ServerPlans.{open_page, open_record}
use Rattle.fs_serving.specs.ServerViews.{View, page_word, request_word, with_page_word, word_of}
use Rattle.fs_seen.specs.ServerMemory.{bytes_by, entry_of, frame_by, has_request, is_table_page, place_entry, place_page, records_page, view_in}
use Rattle.fs_seen.specs.ServerSees.{AllStands}
use Rattle.fs_seen.proofs.Accesses.{load_gives, store_gives, word_loaded, word_stored}
use Rattle.fs_seen.proofs.Alike.{IsBehind}
use Rattle.fs_seen.proofs.Changes.{place_table, records_table, table_below}
use Rattle.fs_seen.proofs.OwnPages.{place_stored, record_stored, request_loaded, table_loaded}
use Rattle.fs_seen.proofs.Over.{tree_of}
use Rattle.fs_seen.proofs.Setting.{memory_over, over_set, requested_set, view_set}
use Rattle.fs_seen.proofs.WindowsSeen.{stands_still}

module _ (d : Disk) (s : KernelState) (n : ℕ) (h : AllStands d s n) where
  abbrev pub v : View
  v = view_in d s n

  abbrev dir : ℕ
  dir = (slot_at s n).directory

  in_order : IsInOrder s
  in_order = h.stands.cache.in_order

  -- ---- words of the request, where its page is there

  module _ (there : has_request s n ≡ true) (at : ℕ) (fits : at + 4 ≤ PGSIZE) where
    abbrev pub request : HasRequest s n
    request = (tree_of d s n h there).request

    abbrev pub request_va : ℕ
    request_va = REQUEST + at

    abbrev pub request_page : List ℕ
    request_page = s.spaces.pages request.entry.frame

    in_request : page_number request_va ≡ request_number
    in_request = omega (arith, fits)

    request_offset : page_offset request_va ≡ at
    request_offset = omega (arith, fits)

    request_fits : page_offset request_va + 4 ≤ PGSIZE
    request_fits = omega (arith, fits)

    may_request : (access : Access) → allows request.entry.perm access ≡ true
    may_request = block_allows request.entry request.bits

    request_byte : (k : ℕ) → k < PGSIZE → request_bytes s n k ≡ slice_index request_page k
    request_byte k below =
        let inside : nat_lt k PGSIZE ≡ true = grind (arith, nat_tests) in
        rw inside (request_holds s n request.entry request.stands request.bits k below)

    request_word_is : word_at (slice_index request_page) (page_offset request_va) ≡ request_word v at
    request_word_is =
        ap (word_at (slice_index request_page)) request_offset
        ∙ (λ i. from_le_bytes w32 (sym (request_byte at (omega (arith, fits))) i ∷ sym (request_byte (at + 1) (omega (arith, fits))) i
        ∷ sym (request_byte (at + 2) (omega (arith, fits))) i ∷ sym (request_byte (at + 3) (omega (arith, fits))) i ∷ []))

    pub request_gives : (load s n request_va).gives ≡ got (word_at (slice_index request_page) (page_offset request_va))
    request_gives = load_gives s n request_number request.entry request_low request.stands may_request request_va in_request
        request_fits

    pub load_request : (word : ℕ) (mid : KernelState) (output : Output) → IsStep (load s n request_va) (Ok word) mid output → IsInOrder mid →
        (word ≡ request_word v at) × IsBehind d s mid n v
    load_request word mid output call order =
        let loaded = word_loaded s n request_number request.entry request_low request.stands may_request request_va in_request
        request_fits word mid output call in
        let accessed = loaded.1 in (
          loaded.0 ∙ request_word_is,
          subst (λ (m : KernelState). IsBehind d s m n v) (sym accessed.is)
              (request_loaded d s n h.stands request.entry request.stands accessed.spaces accessed.accessed (subst (λ (m : KernelState). IsInOrder m) accessed.is order)),
        )

  -- ---- words of the records

  pub record_there : (o : Option Entry) → is_some o ≡ true → (e : Entry) × (o ≡ Some e)
  record_there None is = absurd (let contradiction : false ≡ true = is in cc)
  record_there (Some e) is = (e, refl)

  abbrev pub records : Entry
  records = (record_there (entry_of s n records_page) h.stands.table.records).0

  records_stand : entry_of s n records_page ≡ Some records
  records_stand = (record_there (entry_of s n records_page) h.stands.table.records).1

  abbrev pub records_bytes : List ℕ
  records_bytes = s.spaces.pages records.frame

  may_records : (access : Access) → allows records.perm access ≡ true
  may_records = (h.stands.table.pages records_page records records_table records_stand).allowed

  records_whole : IsPage records_bytes
  records_whole = (h.stands.table.pages records_page records records_table records_stand).whole

  records_low : records_page < page_limit
  records_low = table_below records_page records_table

  module _ (number : ℕ) (below : number < MAXOPEN) where
    in_records : page_number (open_record number) ≡ records_page
    in_records = omega (arith, below)

    record_offset : page_offset (open_record number) ≡ 4 * number
    record_offset = omega (arith, below)

    record_fits : page_offset (open_record number) + 4 ≤ PGSIZE
    record_fits = omega (arith, below)

    home_is : word_at (slice_index records_bytes) (page_offset (open_record number)) ≡ v.homes number
    home_is =
        let inside : nat_lt number MAXOPEN ≡ true = grind (arith, nat_tests) in
        ap (word_at (slice_index records_bytes)) record_offset ∙ rw (inside, records_stand) refl

    pub record_read_gives : (load s n (open_record number)).gives ≡ got (word_at (slice_index records_bytes) (page_offset (open_record number)))
    record_read_gives = load_gives s n records_page records records_low records_stand may_records (open_record number) in_records record_fits

    pub load_record : (word : ℕ) (mid : KernelState) (output : Output) → IsStep (load s n (open_record number)) (Ok word) mid output → IsInOrder mid →
        (word ≡ v.homes number) × IsBehind d s mid n v
    load_record word mid output call order =
        let loaded = word_loaded s n records_page records records_low records_stand may_records
        (open_record number) in_records record_fits word mid output call in
        let accessed = loaded.1 in (
          loaded.0 ∙ home_is,
          subst (λ (m : KernelState). IsBehind d s m n v) (sym accessed.is)
              (table_loaded d s n h.stands records_page records_table records records_stand records_bytes records_whole accessed.spaces
              accessed.accessed
              (subst (λ (m : KernelState). IsInOrder m) accessed.is order) refl),
        )

    pub record_store_gives : (word : ℕ) → (store s n (open_record number) word).gives ≡ got tt
    record_store_gives = store_gives s n records_page records records_low records_stand may_records (open_record number) in_records record_fits

    pub store_record : (word : ℕ) → word < 2 ^ 32 → (mid : KernelState) (output : Output) →
        IsStep (store s n (open_record number) word) (Ok tt) mid output →
        IsInOrder mid → IsBehind d s mid n (record v { homes = upd v.homes number word })
    store_record word small mid output call order =
        let accessed = word_stored s n records_page records records_low records_stand may_records
        (open_record number) in_records record_fits word mid output call in
        subst (λ (m : KernelState). IsBehind d s m n (record v { homes = upd v.homes number word })) (sym accessed.is)
        (record_stored d s n h.stands records_page records_table records records_stand
        (bytes_put records_bytes (page_offset (open_record number)) (to_le_bytes w32 word))
        (put_whole records_bytes (page_offset (open_record number)) (to_le_bytes w32 word) (word_bytes word) records_whole)
        accessed.spaces accessed.accessed (subst (λ (m : KernelState). IsInOrder m) accessed.is order) number below refl word small
        (ap (λ (o : ℕ). bytes_put records_bytes o (to_le_bytes w32 word)) record_offset))

  -- ---- words of a place

  module _ (number : ℕ) (below : number < MAXOPEN) (there : is_some (v.pages number) ≡ true) where
    abbrev pub p : ℕ
    p = place_page number

    pub is_table : is_table_page p ≡ true
    is_table = place_table number below

    p_low : p < page_limit
    p_low = table_below p is_table

    entry_is : place_entry s n number ≡ entry_of s n p
    entry_is =
        let inside : nat_lt number MAXOPEN ≡ true = grind (arith, nat_tests) in
        ap (λ (b : Bool). if b then entry_of s n p else None) inside

    pub has_entry : (e : Entry) × (entry_of s n p ≡ Some e)
    has_entry = by_entry (entry_of s n p) refl (sym (ap (λ (o : Option Entry). is_some (bytes_by s o)) entry_is) ∙ there)
      where
        by_entry : (o : Option Entry) → entry_of s n p ≡ o → is_some (bytes_by s o) ≡ true → (e : Entry) × (entry_of s n p ≡ Some e)
        by_entry None at is = absurd (let contradiction : false ≡ true = is in cc)
        by_entry (Some e) at is = (e, at)

    abbrev pub e : Entry
    e = has_entry.0

    pub e_stands : entry_of s n p ≡ Some e
    e_stands = has_entry.1

    abbrev pub place_bytes : List ℕ
    place_bytes = s.spaces.pages e.frame

    may_place : (access : Access) → allows e.perm access ≡ true
    may_place = (h.stands.table.pages p e is_table e_stands).allowed

    place_whole : IsPage place_bytes
    place_whole = (h.stands.table.pages p e is_table e_stands).whole

    pub frame_is : v.frames number ≡ e.frame
    frame_is = ap frame_by (entry_is ∙ e_stands)

    module _ (at : ℕ) (fits : at + 4 ≤ PGSIZE) where
      abbrev pub place_va : ℕ
      place_va = open_page number + at

      in_place : page_number place_va ≡ p
      in_place = omega (arith, below, fits)

      place_offset : page_offset place_va ≡ at
      place_offset = omega (arith, below, fits)

      place_fits : page_offset place_va + 4 ≤ PGSIZE
      place_fits = omega (arith, below, fits)

      word_is : word_at (slice_index place_bytes) (page_offset place_va) ≡ page_word v number at
      word_is =
          ap (word_at (slice_index place_bytes)) place_offset
          ∙ sym (ap (λ (o : Option Entry). word_of (bytes_by s o) at) (entry_is ∙ e_stands))

      pub place_gives : (load s n place_va).gives ≡ got (word_at (slice_index place_bytes) (page_offset place_va))
      place_gives = load_gives s n p e p_low e_stands may_place place_va in_place place_fits

      pub load_place : (word : ℕ) (mid : KernelState) (output : Output) → IsStep (load s n place_va) (Ok word) mid output → IsInOrder mid →
          (word ≡ page_word v number at) × IsBehind d s mid n v
      load_place word mid output call order =
          let loaded = word_loaded s n p e p_low e_stands may_place place_va in_place place_fits word mid output call in
          let accessed = loaded.1 in (
            loaded.0 ∙ word_is,
            subst (λ (m : KernelState). IsBehind d s m n v) (sym accessed.is)
                (table_loaded d s n h.stands p is_table e e_stands place_bytes place_whole accessed.spaces accessed.accessed
                (subst (λ (m : KernelState). IsInOrder m) accessed.is order) refl),
          )

      pub place_store_gives : (word : ℕ) → (store s n place_va word).gives ≡ got tt
      place_store_gives = store_gives s n p e p_low e_stands may_place place_va in_place place_fits

      pub store_place : (word : ℕ) (mid : KernelState) (output : Output) → IsStep (store s n place_va word) (Ok tt) mid output → IsInOrder mid →
          IsBehind d s mid n (with_page_word v number at word)
      store_place word mid output call order =
          let accessed = word_stored s n p e p_low e_stands may_place place_va in_place place_fits word mid output call in
          subst (λ (m : KernelState). IsBehind d s m n (with_page_word v number at word)) (sym accessed.is)
          (place_stored d s n h.stands p is_table e e_stands
          (bytes_put place_bytes (page_offset place_va) (to_le_bytes w32 word))
          (put_whole place_bytes (page_offset place_va) (to_le_bytes w32 word) (word_bytes word) place_whole)
          accessed.spaces accessed.accessed (subst (λ (m : KernelState). IsInOrder m) accessed.is order) number below refl at word fits
          (ap (λ (o : ℕ). bytes_put place_bytes o (to_le_bytes w32 word)) place_offset))

  -- ---- calls that ask for nothing

  pub getenvid_made : (args : List ℕ) (called : Called) (mid : KernelState) (output : Output) →
      IsCallStep (system s n SYS_GETENVID args) (Ok called) mid output →
      IsBehind d s mid n v
  getenvid_made args called mid output call =
      let came = comes_to (system s n SYS_GETENVID args) (Answered (slot_at s n).id) called s mid [] output
      (getenvid_is s n h.stands.cache.live args) call in
      stands_still d s n h.stands mid s.spaces came.1 refl

  pub yield_made : (args : List ℕ) (called : Called) (mid : KernelState) (output : Output) →
      IsCallStep (system s n SYS_YIELD args) (Ok called) mid output →
      IsInOrder mid → IsBehind d s mid n v
  yield_made args called mid output call order =
      let came = comes_to (system s n SYS_YIELD args) (Answered 0) called (with_status s n Runnable) mid [] output
      (yield_is s n h.stands.cache.live args) call in
      let slot : Slot = record (slot_at s n) { status = Runnable } in
      let set = subst (λ (m : KernelState). IsInOrder m) came.1 order in
      subst (λ (m : KernelState). IsBehind d s m n v) (sym came.1)
      (record {
        over = over_set s n slot refl d h.stands set refl refl h.stands.cache.words refl;
        request_stays = requested_set s n slot refl;
        view = view_set s n slot refl d (memory_over s n slot refl d h.stands set refl refl h.stands.cache.words refl) refl;
        cache = ap (λ (x : Slot). state_in x.extra) (slot_put s n slot);
      })
