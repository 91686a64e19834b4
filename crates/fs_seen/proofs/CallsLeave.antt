-- The calls of the cache leave the table of open files: the entries of its pages stay, their frames keep their bytes and counts, and no block gets
-- one of them.
use Rattle.std.proofs.Common.{◌≡◌, ◌≢◌, ◌∙◌, ◌+◌, ◌*◌, ◌/◌, ◌%◌, ◌==◌, ◌<◌, ◌≤◌, inl, inr, ℕ, Bool, true, false, List, [], ◌∷◌, length}
use Rattle.std.proofs.Common.{Option, Some, None, Result, Ok, Err, refl, sym, ap, subst, arith, if◌then◌else◌}
use Rattle.std.proofs.lemmas.Bool.{cases_eq}
use Rattle.std.proofs.lemmas.Bool.Decides.{nat_tests}
use Rattle.std.proofs.lemmas.Option.{none-some, same_Some}
use Rattle.std.specs.Prelude.{nat_lt}
use Rattle.jos_host.specs.Files.{Files}
use Rattle.jos_base.specs.declared.called.Called.{Called}
use Rattle.jos_base.specs.declared.called.Called.TheVariants.{Answered}
use Rattle.jos_base.specs.declared.memory.Access.TheVariants.{Read, Write}
use Rattle.jos_base.specs.declared.memory.PageFault.{PageFault}
use Rattle.jos_base.specs.declared.numbers.TheConstants.{E_NO_MEM, NPTENTRIES, PGSIZE, PTE_A, PTE_D, SYS_PAGE_ALLOC, SYS_PAGE_MAP, SYS_PAGE_UNMAP, UVPT}
use Rattle.jos_base.specs.Counting.{frame_limit, page_count, page_limit}
use Rattle.jos_base.specs.KernelState.{KernelState, slot_at, with_refusal, with_spaces}
use Rattle.jos_base.specs.Reach.{Entry, FrameOffset}
use Rattle.jos_base.specs.SpacesState.{SpacesState, allocated, frame_of, free, inserted, own_count, unmapped}
use Rattle.jos_base.specs.SystemCalls.{has_write, shared_entry}
use Rattle.jos_base.specs.UserMemory.{reach_in, touched, touched_by, with_region_bit}
use Rattle.jos_base.specs.Windows.{table_index}
use Rattle.jos_base.specs.Words.{negated, page_number, page_offset}
use Rattle.jos_base.proofs.Options.{some_is}
use Rattle.jos_base.proofs.Puts.{put-at, put-other}
use Rattle.lib_os.specs.declared.numbers.TheConstants.{CACHE_BLOCKS, UVPD}
use Rattle.lib_os.specs.BlockCache.{block_address}
use Rattle.lib_os.specs.InOrder.{HasOneUse}
use Rattle.lib_os.specs.MadeCalls.{is_server_page}
use Rattle.lib_os.specs.UserCalls.{CallStep, IsCallStep, IsReadBy, IsSentBy, IsStep, Output, block_put, load, may_read_block, may_write_block, system}
use Rattle.lib_os.proofs.BytesPut.{put_is}
use Rattle.lib_os.proofs.Calls.{comes_to, made_step, page_asked, page_made_or_refused, page_unmap_is}
use Rattle.lib_os.proofs.Loading.{loaded_state}
use Rattle.lib_os.proofs.Remapping.{given_on, page_map_is}
use Rattle.fs_blocks.specs.declared.plan.CacheAsk.TheVariants as asked
use Rattle.fs_blocks.specs.CachePlans.{ask_entry, ask_map, ask_page, ask_region, ask_unmap, block_of, page_of, page_perm}
use Rattle.fs_cache.specs.CacheStands.{IsBlockEntry}
use Rattle.fs_cache.specs.CacheSteps.{Caller, IsReply, of_block, row_in}
use Rattle.fs_cache.proofs.Interfaces.{IsServer}
use Rattle.fs_cache.proofs.Loads.{number_below, number_of, own_number, row_below}
use Rattle.fs_cache.proofs.PagesPut.{address_is, block_is}
use Rattle.fs_tree.proofs.TiesPages.{HasAccessed, accessed_to_read, accessed_to_write}
use Rattle.fs_seen.specs.ServerMemory.{HasFileTable, entry_of, is_table_page, records_page, request_page}
use Rattle.fs_seen.proofs.Changes.{block_server, table_no_block}
use Rattle.fs_seen.proofs.OneEntry.{OneEntry, one_accessed, one_inserted, one_taken, one_unmapped, uses_put, uses_touched}
use Rattle.fs_seen.proofs.PagesTaken.{page_not_free}
use Rattle.fs_seen.proofs.TableLeft.{LeavesTable}

-- ---- in the kernel's state

-- A call leaves the table, and no slot changes.
pub record LeavesCall (s mid : KernelState) (n : ℕ) : Type 0 where
  pub table : LeavesTable s mid n
  pub environments : mid.environments ≡ s.environments

module _ (s : KernelState) (n : ℕ) (uses : HasOneUse s.spaces) (k : HasFileTable s n) where
  abbrev dir : ℕ
  dir = (slot_at s n).directory

  pub itself : LeavesCall s s n
  itself = record {
    table = record {
      entries = λ p is. refl;
      bytes = λ p e is there. refl;
      counts = λ p e is there. refl;
      apart = k.apart;
      lacks = λ none. none;
    };
    environments = refl;
  }

  pub by_refusal : LeavesCall s (with_refusal s) n
  by_refusal = record {
    table = record {
      entries = λ p is. refl;
      bytes = λ p e is there. refl;
      counts = λ p e is there. refl;
      apart = k.apart;
      lacks = λ none. none;
    };
    environments = refl;
  }

  -- where no entry changes
  pub by_bits : (t : SpacesState) → t.entries ≡ s.spaces.entries → t.pages ≡ s.spaces.pages → t.uses ≡ s.spaces.uses →
      LeavesCall s (with_spaces s t) n
  by_bits t entries pages same = record {
    table = record {
      entries = λ p is i. entries i dir p;
      bytes = λ p e is there i. pages i e.frame;
      counts = λ p e is there i. page_count (entries i) e.frame + own_count (same i e.frame);
      apart = λ p q x y is own x_is y_is. k.apart p q x y is own x_is ((λ i. sym entries i dir q) ∙ y_is);
      lacks = λ none. (λ i. entries i dir request_page) ∙ none;
    };
    environments = refl;
  }

  -- the records' page is there, so the directory is one
  abbrev records : (e : Entry) × (entry_of s n records_page ≡ Some e)
  records = some_is (entry_of s n records_page) k.records

  pub owned : dir < frame_limit
  owned = (uses.within dir records_page records.0 records.1).0

  -- another page of the server's
  module _ (at : ℕ) (own : is_server_page at ≡ true) (lone : (p : ℕ) → is_table_page p ≡ true → p ≢ at)
      (lacks_it : entry_of s n request_page ≡ None → request_page ≢ at) where
    -- no page of the table has its frame
    pub page_apart : (e : Entry) → entry_of s n at ≡ Some e → (p : ℕ) (x : Entry) → is_table_page p ≡ true → entry_of s n p ≡ Some x →
        x.frame ≢ e.frame
    page_apart e e_is p x is there same = lone p is (k.apart p at x e is own there e_is same)

    -- where its entry changes
    module _ (t : SpacesState) (o : Option Entry) (one : OneEntry s.spaces t dir at o)
        (apart : (p : ℕ) (x : Entry) → is_table_page p ≡ true → entry_of s n p ≡ Some x → frame_of o ≢ Some x.frame) where
      abbrev now : KernelState
      now = with_spaces s t

      other : (q : ℕ) → q ≢ at → entry_of now n q ≡ entry_of s n q
      other q ne = (λ i. one.entries i dir q) ∙ put-other s.spaces.entries dir at o dir q (λ same. ne)

      here : entry_of now n at ≡ o
      here = (λ i. one.entries i dir at) ∙ put-at s.spaces.entries dir at o

      old : (p : ℕ) (x : Entry) → is_table_page p ≡ true → entry_of s n p ≡ Some x → frame_of (entry_of s n at) ≢ Some x.frame
      old p x is there = by_entry (entry_of s n at) refl
        where
          by_entry : (r : Option Entry) → entry_of s n at ≡ r → frame_of r ≢ Some x.frame
          by_entry None none same = absurd (none-some x.frame same)
          by_entry (Some e) some same = page_apart e some p x is there (sym (same_Some e.frame x.frame same))

      in_use : (p : ℕ) (x : Entry) → entry_of s n p ≡ Some x → s.spaces.uses x.frame ≢ free
      in_use p x there = page_not_free (s.spaces.uses x.frame) (uses.pages dir p x there)

      pub by_page : LeavesCall s now n
      by_page = record {
        table = record {
          entries = λ p is. other p (lone p is);
          bytes = λ p x is there. (one.kept x.frame (in_use p x there) (old p x is there) (apart p x is there)).0;
          counts = λ p x is there. (one.kept x.frame (in_use p x there) (old p x is there) (apart p x is there)).1;
          apart = λ p q x y is q_own x_is y_is same. elim (cases_eq q at) [
            | inl equal ↦
                let it : o ≡ Some y = sym here ∙ ap (entry_of now n) (sym equal) ∙ y_is in
                absurd (apart p x is x_is (ap frame_of it ∙ ap (λ (f : ℕ). Some f) (sym same)))
            | inr ne ↦ k.apart p q x y is q_own x_is (sym (other q ne) ∙ y_is) same
          ];
          lacks = λ none. other request_page (lacks_it none) ∙ none;
        };
        environments = refl;
      }

    -- where it is accessed
    pub by_access : (low : at < page_limit) (mid : KernelState) (e : Entry) (bytes : List ℕ) → entry_of s n at ≡ Some e →
        HasAccessed s mid n at e bytes → mid.spaces.uses ≡ s.spaces.uses → LeavesCall s mid n
    by_access low mid e bytes stands a same =
        let kept : a.spaces.uses ≡ s.spaces.uses = ap (λ (m : KernelState). m.spaces.uses) (sym a.is) ∙ same in
        subst (λ (m : KernelState). LeavesCall s m n) (sym a.is)
        (by_page a.spaces (Some a.accessed.entry) (one_accessed s.spaces uses dir at owned low a.spaces e bytes stands a.accessed kept)
        (λ p x is there frames. page_apart e stands p x is there (sym (same_Some a.accessed.entry.frame x.frame frames) ∙ a.accessed.frame)))

  -- a block's page
  module _ (b : ℕ) (below : b < CACHE_BLOCKS) where
    abbrev no_table : (p : ℕ) → is_table_page p ≡ true → p ≢ number_of b
    no_table p is = table_no_block p b is below

    no_request : entry_of s n request_page ≡ None → request_page ≢ number_of b
    no_request none same = absurd (omega (arith, same))

    pub block_apart : (e : Entry) → entry_of s n (number_of b) ≡ Some e → (p : ℕ) (x : Entry) → is_table_page p ≡ true →
        entry_of s n p ≡ Some x → x.frame ≢ e.frame
    block_apart = page_apart (number_of b) (block_server b below) no_table no_request

    pub by_block : (t : SpacesState) (o : Option Entry) → OneEntry s.spaces t dir (number_of b) o →
        ((p : ℕ) (x : Entry) → is_table_page p ≡ true → entry_of s n p ≡ Some x → frame_of o ≢ Some x.frame) → LeavesCall s (with_spaces s t) n
    by_block = by_page (number_of b) (block_server b below) no_table no_request

    pub by_block_access : (mid : KernelState) (e : Entry) (bytes : List ℕ) → entry_of s n (number_of b) ≡ Some e →
        HasAccessed s mid n (number_of b) e bytes → mid.spaces.uses ≡ s.spaces.uses → LeavesCall s mid n
    by_block_access = by_access (number_of b) (block_server b below) no_table no_request (number_below b below)

-- ---- what is asked

-- a load of a window sets no bit but A of a region
module _ (s : SpacesState) (d va : ℕ) (above : page_limit ≤ page_number va) where
  abbrev Untouched : SpacesState → Type 0
  Untouched t = (t.entries ≡ s.entries) × (t.pages ≡ s.pages)

  window_untouched : Untouched (touched s d va Read)
  unfolding touched
  window_untouched = by_reach (reach_in s d va Read)
    where
      by_test : (t : Bool) → Untouched (if t then with_region_bit s d (page_number va % NPTENTRIES) else s)
      by_test true = (refl, refl)
      by_test false = (refl, refl)

      by_reach : (r : Result FrameOffset PageFault) → Untouched (touched_by s d va Read r)
      by_reach (Err fault) = (refl, refl)
      by_reach (Ok location) =
          let past : nat_lt (page_number va) page_limit ≡ false = grind (arith, nat_tests) in
          rw past (by_test (page_number va / NPTENTRIES == table_index))

window_above : (more : ℕ) → page_limit ≤ page_number (UVPD + more)
unfolding page_limit
window_above more = omega arith

entries_above : (more : ℕ) → page_limit ≤ page_number (UVPT + more)
unfolding page_limit
entries_above more = omega arith

entry_writes : (e : Entry) → IsBlockEntry e → has_write e.perm ≡ true
entry_writes e is = ap (λ (perm : ℕ). has_write perm) is.bits ∙ by_bits is.used is.written
  where
    by_bits : (used written : Bool) → has_write (page_perm + (if used then PTE_A else 0) + (if written then PTE_D else 0)) ≡ true
    by_bits true true = refl
    by_bits true false = refl
    by_bits false true = refl
    by_bits false false = refl

module _ (c : Caller) (server : IsServer c.state c.slot) (k : HasFileTable c.state c.slot) (files : Option Files) (word : ℕ) (mid : KernelState)
    (output : Output) where
  abbrev s : KernelState
  s = c.state

  abbrev n : ℕ
  n = c.slot

  abbrev d : ℕ
  d = (slot_at s n).directory

  abbrev Left : Type 0
  Left = LeavesCall s mid n

  abbrev one_use : HasOneUse s.spaces
  one_use = server.in_order.frames

  load_left : (va : ℕ) → page_limit ≤ page_number va → IsStep (load s n va) (Ok word) mid output → Left
  load_left va above call =
      let same = window_untouched s.spaces d va above in
      subst (λ (m : KernelState). LeavesCall s m n) (sym (loaded_state s mid n va word output call))
      (by_bits s n one_use k (touched s.spaces d va Read) same.0 same.1 (uses_touched s.spaces d va Read))

  pub region_left : (b : ℕ) → IsReply (ask_region b) c files (Ok word) mid output → Left
  region_left b reply = load_left (UVPD + 4 * (page_of b / NPTENTRIES)) (window_above (4 * (page_of b / NPTENTRIES))) reply

  pub entry_left : (b : ℕ) → IsReply (ask_entry b) c files (Ok word) mid output → Left
  entry_left b reply = load_left (UVPT + 4 * page_of b) (entries_above (4 * page_of b)) reply

  pub page_left : (b : ℕ) → b < CACHE_BLOCKS → IsReply (ask_page b) c files (Ok word) mid output → Left
  page_left b below reply =
      let tail : List ℕ = 0 ∷ 0 ∷ [] in
      let step : CallStep Called = page_asked s n (block_address b) page_perm tail server.live (address_is b below) refl in
      let call : IsCallStep step (Ok reply.0) mid output =
      subst (λ (q : ℕ). IsCallStep (system s n SYS_PAGE_ALLOC (0 ∷ block_address q ∷ page_perm ∷ tail)) (Ok reply.0) mid output) (block_is b below) reply.2 in
      elim (page_made_or_refused s n (block_address b) page_perm tail server.live (address_is b below) refl) [
        | inl made ↦
            let came = comes_to step (Answered 0) reply.0 (with_spaces s made.spaces) mid [] output made.step call in
            subst (λ (m : KernelState). LeavesCall s m n) (sym came.1)
            (taken_left made.spaces made.frame (ap (λ (p : ℕ). allocated s.spaces d p page_perm) (sym (own_number b)) ∙ made.is))
        | inr refused ↦
            let came = comes_to step (Answered (negated E_NO_MEM)) reply.0 (with_refusal s) mid [] output refused.step call in
            subst (λ (m : KernelState). LeavesCall s m n) (sym came.1) (by_refusal s n one_use k)
      ]
    where
      taken_left : (t : SpacesState) (f : ℕ) → allocated s.spaces d (number_of b) page_perm ≡ Some (f, t) → LeavesCall s (with_spaces s t) n
      taken_left t f is =
          let it = one_taken s.spaces one_use d (number_of b) (owned s n one_use k) (number_below b below) t page_perm f is in
          by_block s n one_use k b below t (Some (record { frame = f; perm = page_perm })) it.1
          (λ p x table there same.
          page_not_free (s.spaces.uses f) (ap s.spaces.uses (same_Some f x.frame same) ∙ one_use.pages d p x there) it.0)

  module _ (from to : ℕ) (x : Entry) (stands : row_in s n from ≡ Some x) (is : IsBlockEntry x) where
    abbrev given : Entry
    given = record { frame = x.frame; perm = page_perm }

    pub map_left : from < CACHE_BLOCKS → to < CACHE_BLOCKS → IsReply (ask_map from to) c files (Ok word) mid output → Left
    map_left from_below to_below reply =
        let called : Called = reply.0 in
        let call : IsCallStep (system s n SYS_PAGE_MAP (0 ∷ block_address from ∷ 0 ∷ block_address to ∷ page_perm ∷ [])) (Ok called) mid output =
        (λ (r : IsCallStep (system s n SYS_PAGE_MAP (0 ∷ block_address (block_of from) ∷ 0 ∷ block_address (block_of to) ∷ page_perm ∷ [])) (Ok called) mid output).
        subst (λ (q : ℕ). IsCallStep (system s n SYS_PAGE_MAP (0 ∷ block_address from ∷ 0 ∷ block_address q ∷ page_perm ∷ [])) (Ok called) mid output)
        (block_is to to_below)
        (subst (λ (q : ℕ). IsCallStep (system s n SYS_PAGE_MAP (0 ∷ block_address q ∷ 0 ∷ block_address (block_of to) ∷ page_perm ∷ [])) (Ok called) mid output)
        (block_is from from_below) r)) reply.2 in
        let there : s.spaces.entries d (number_of from) ≡ Some x = sym (row_below s.spaces d from from_below) ∙ stands in
        let entry : s.spaces.entries d (page_number (block_address from)) ≡ Some x = ap (s.spaces.entries d) (own_number from) ∙ there in
        let step =
        page_map_is s n server.live (block_address from) (block_address to) page_perm (address_is from from_below) (address_is to to_below) given
        (ap (λ (o : Option Entry). shared_entry o page_perm) entry ∙ given_on x page_perm refl (entry_writes x is)) in
        let whole = step ∙ ap (λ (p : ℕ). made_step s (inserted s.spaces d p given)) (own_number to) in
        let state : mid ≡ (made_step s (inserted s.spaces d (number_of to) given)).state =
        call.1 ∙ ap (λ (z : CallStep Called). z.state) whole in
        subst (λ (m : KernelState). LeavesCall s m n) (sym state) (inserted_left there from_below to_below (inserted s.spaces d (number_of to) given) refl)
      where
        inserted_left : s.spaces.entries d (number_of from) ≡ Some x → from < CACHE_BLOCKS → to < CACHE_BLOCKS →
            (o : Option SpacesState) → inserted s.spaces d (number_of to) given ≡ o → LeavesCall s (made_step s o).state n
        inserted_left there from_below to_below None none = by_refusal s n one_use k
        inserted_left there from_below to_below (Some t) some =
            by_block s n one_use k to to_below t (Some given)
            (one_inserted s.spaces one_use d (number_of to) (owned s n one_use k) (number_below to to_below) given t some)
            (λ p y table at same. block_apart s n one_use k from from_below x there p y table at (sym (same_Some x.frame y.frame same)))

  pub unmap_left : (b : ℕ) → b < CACHE_BLOCKS → IsReply (ask_unmap b) c files (Ok word) mid output → Left
  unmap_left b below reply =
      let tail : List ℕ = 0 ∷ 0 ∷ 0 ∷ [] in
      let called : Called = reply.0 in
      let call : IsCallStep (system s n SYS_PAGE_UNMAP (0 ∷ block_address b ∷ tail)) (Ok called) mid output =
      subst (λ (q : ℕ). IsCallStep (system s n SYS_PAGE_UNMAP (0 ∷ block_address q ∷ tail)) (Ok called) mid output) (block_is b below) reply.2 in
      let step = page_unmap_is s n server.live (block_address b) tail (address_is b below) in
      let state : mid ≡ with_spaces s (unmapped s.spaces d (number_of b)) =
      call.1 ∙ ap (λ (z : CallStep Called). z.state) step ∙ ap (λ (p : ℕ). with_spaces s (unmapped s.spaces d p)) (own_number b) in
      subst (λ (m : KernelState). LeavesCall s m n) (sym state)
      (by_block s n one_use k b below (unmapped s.spaces d (number_of b)) None
      (one_unmapped s.spaces one_use d (number_of b) (owned s n one_use k) (number_below b below))
      (λ p x table there same. none-some x.frame same))

  module _ (b : ℕ) (below : b < CACHE_BLOCKS) (x : Entry) (stands : row_in s n b ≡ Some x) (is : IsBlockEntry x) where
    entry_there : s.spaces.entries d (number_of b) ≡ Some x
    entry_there = sym (row_below s.spaces d b below) ∙ stands

    access_left : (bytes : List ℕ) → HasAccessed s mid n (number_of b) x bytes → mid.spaces.uses ≡ s.spaces.uses → Left
    access_left bytes = by_block_access s n one_use k b below mid x bytes entry_there

    read_by : (t : Bool) → IsReadBy t (of_block c b) files word mid → Left
    unfolding block_put
    read_by false call = subst (λ (m : KernelState). LeavesCall s m n) (sym call.1) (itself s n one_use k)
    read_by true call =
        let came = call.2 in
        access_left _
        (accessed_to_write s n (number_of b) x (number_below b below) entry_there is (block_address b) (own_number b) call.1
        (fits call.1 came.page.long) mid call.3)
        (ap (λ (m : KernelState). m.spaces.uses) (call.3 ∙ put_is (with_spaces s (touched s.spaces d (block_address b) Write)) n (block_address b) call.1)
        ∙ uses_put (touched s.spaces d (block_address b) Write) d (block_address b) call.1 ∙ uses_touched s.spaces d (block_address b) Write)
      where
        fits : (bytes : List ℕ) → length bytes ≡ PGSIZE → page_offset (block_address b) + length bytes ≤ PGSIZE
        fits bytes long = let first : page_offset (block_address b) ≡ 0 = omega arith in omega (arith, first, long)

    sent_by : (t : Bool) → IsSentBy t (of_block c b) word mid → Left
    sent_by false call = subst (λ (m : KernelState). LeavesCall s m n) (sym call.1) (itself s n one_use k)
    sent_by true call =
        access_left (s.spaces.pages x.frame)
        (accessed_to_read s n (number_of b) x (number_below b below) entry_there is (block_address b) (own_number b) mid call.1)
        (ap (λ (m : KernelState). m.spaces.uses) call.1 ∙ uses_touched s.spaces d (block_address b) Read)

    pub read_left : IsReply (asked.ReadBlock (block_of b)) c files (Ok word) mid output → Left
    read_left reply =
        let call = subst (λ (q : ℕ). IsReply (asked.ReadBlock q) c files (Ok word) mid output) (block_is b below) reply in
        read_by (may_read_block (of_block c b)) call.0

    pub sent_left : IsReply (asked.WriteBlock (block_of b)) c files (Ok word) mid output → Left
    sent_left reply =
        let call = subst (λ (q : ℕ). IsReply (asked.WriteBlock q) c files (Ok word) mid output) (block_is b below) reply in
        sent_by (may_write_block (of_block c b)) call.0
