-- The server's pages are as they were, but for that of the request, behind its own words, behind what concerns its slot's status and message alone,
-- and where that page is given back.
use Rattle.std.proofs.Common.{◌≡◌, ◌≢◌, ◌∙◌, ◌<◌, ℕ, true, List, Option, Some, None, length, refl, sym, ap, subst}
use Rattle.std.proofs.lemmas.Option.{none-some, same_Some}
use Rattle.std.specs.Prelude.{is_some}
use Rattle.jos_base.specs.declared.registers.Regs.{Regs}
use Rattle.jos_base.specs.Environments.{Slot, is_live}
use Rattle.jos_base.specs.KernelState.{KernelState, slot_at, with_slot_at, with_spaces}
use Rattle.jos_base.specs.Reach.{Entry}
use Rattle.jos_base.specs.SpacesState.{SpacesState, frame_of, reference_count, unmapped, without_entry}
use Rattle.jos_base.proofs.Puts.{put-at, put-other}
use Rattle.jos_base.proofs.Released.{released_regions}
use Rattle.lib_os.specs.declared.numbers.TheConstants.{CACHE_BLOCKS, MAXOPEN}
use Rattle.lib_os.specs.BlockCache.{block_row, own_addresses}
use Rattle.lib_os.specs.Disk.{Disk}
use Rattle.lib_os.specs.InOrder.{HasOneUse, IsInOrder}
use Rattle.lib_os.proofs.Slots.{slot_put}
use Rattle.lib_os.proofs.SlotsSet.{both_set}
use Rattle.fs_blocks.specs.CachePlaces.{state_in as cache_at_words}
use Rattle.fs_cache.proofs.Loads.{number_of, row_below}
use Rattle.fs_tree.proofs.TiesBlocks.{request_low, request_number}
use Rattle.fs_tree.proofs.TiesWords.{cache_alike}
use Rattle.fs_requests.specs.declared.plan.ServerNext.{ServerNext}
use Rattle.fs_requests.specs.ServerWords.{registers_with, server_in, words_with}
use Rattle.fs_server.specs.ServerSteps as server
use Rattle.fs_server.specs.ServerSteps.{registers_begun, server_at, words_begun}
use Rattle.fs_seen.specs.ServerMemory.{IsRequestPage, StandsOver, entry_of, is_table_page, place_page, request_page}
use Rattle.fs_seen.proofs.CallsLeave.{owned}
use Rattle.fs_seen.proofs.Changes.{place_table, request_server, table_no_request}
use Rattle.fs_seen.proofs.OneEntry.{OneEntry, one_unmapped}
use Rattle.fs_seen.proofs.PagesTaken.{page_not_free}
use Rattle.fs_seen.proofs.StaysSo.{CountsStay, Stays}
use Rattle.fs_seen.proofs.WordsBack.{begun_long, begun_rest, stands_whole}

-- ---- the server goes on

pub record HasGone (s mid after : KernelState) (n : ℕ) (next : ServerNext) : Type 0 where
  pub stays : Stays s after n
  pub server : server_at after n ≡ next.state
  pub message : (slot_at after n).rendezvous ≡ (slot_at mid n).rendezvous
  pub entries : (p : ℕ) → entry_of after n p ≡ entry_of mid n p
  pub spaces : after.spaces ≡ mid.spaces

module _ (s mid : KernelState) (n : ℕ) (next : ServerNext) (none : next.begins ≡ None) (below : next.state.number < MAXOPEN)
    (k : Stays s mid n) where
  abbrev regs : Regs
  regs = registers_begun next.begins (registers_with (slot_at mid n).registers next.state)

  abbrev words : List ℕ
  words = words_begun next.begins (words_with (slot_at mid n).extra next.state)

  abbrev slot : Slot
  slot = record (slot_at mid n) { registers = regs; extra = words }

  abbrev set : KernelState
  set = with_slot_at mid n slot

  gone_is : server.gone_on mid n next ≡ set
  unfolding server.gone_on
  gone_is = both_set mid n regs words

  there : slot_at set n ≡ slot
  there = slot_put mid n slot

  same_space : (slot_at set n).directory ≡ (slot_at mid n).directory
  same_space = ap (λ (x : Slot). x.directory) there

  same_entry : (p : ℕ) → entry_of set n p ≡ entry_of mid n p
  same_entry p = ap (λ (q : ℕ). mid.spaces.entries q p) same_space

  page_set : (e : Entry) → entry_of set n request_page ≡ Some e → IsRequestPage set n e
  page_set e is =
      let old = k.page e (sym (same_entry request_page) ∙ is) in
      record {
        bits = old.bits;
        apart = λ b x row. old.apart b x (ap (λ (q : ℕ). block_row mid.spaces q own_addresses b) (sym same_space) ∙ row);
      }

  stays_set : IsInOrder set → Stays s set n
  stays_set in_order = record {
    in_order = in_order;
    lives = ap (λ (x : Slot). is_live x) there ∙ k.lives;
    env_type = ap (λ (x : Slot). x.env_type) there ∙ k.env_type;
    directory = same_space ∙ k.directory;
    long = ap (λ (x : Slot). length x.extra) there
        ∙ begun_long (slot_at mid n).registers (slot_at mid n).extra next.state below k.long next.begins;
    cache = ap (λ (x : Slot). cache_at_words x.extra) there
        ∙ cache_alike words (slot_at mid n).extra
        (begun_rest (slot_at mid n).registers (slot_at mid n).extra next.state below k.long next.begins) ∙ k.cache;
    entries = λ p own ne. same_entry p ∙ k.entries p own ne;
    tables = k.tables;
    bytes = k.bytes;
    blocks = k.blocks;
    page = page_set;
    apart = λ p x e is x_is e_is. k.apart p x e is x_is (sym (same_entry request_page) ∙ e_is);
  }

  gone_set : IsInOrder set → HasGone s mid set n next
  gone_set in_order = record {
    stays = stays_set in_order;
    server = ap (λ (x : Slot). server_in x.registers x.extra) there
        ∙ stands_whole (slot_at mid n).registers (slot_at mid n).extra next.state below k.long next.begins none;
    message = ap (λ (x : Slot). x.rendezvous) there;
    entries = same_entry;
    spaces = refl;
  }

  pub has_gone : (after : KernelState) → after ≡ server.gone_on mid n next → IsInOrder after → HasGone s mid after n next
  has_gone after is in_order =
      let whole : after ≡ set = is ∙ gone_is in
      subst (λ (z : KernelState). HasGone s mid z n next) (sym whole) (gone_set (subst (λ (z : KernelState). IsInOrder z) whole in_order))

-- ---- its slot alone is another

-- It lives as it did, in the same space, with the same words.
pub record SlotStays (s mid : KernelState) (n : ℕ) : Type 0 where
  pub lives : is_live (slot_at mid n) ≡ true
  pub env_type : (slot_at mid n).env_type ≡ (slot_at s n).env_type
  pub directory : (slot_at mid n).directory ≡ (slot_at s n).directory
  pub words : (slot_at mid n).extra ≡ (slot_at s n).extra
  pub spaces : mid.spaces ≡ s.spaces

module _ (d : Disk) (s mid : KernelState) (n : ℕ) (h : StandsOver d s n) (k : SlotStays s mid n) where
  pub still_entry : (p : ℕ) → entry_of mid n p ≡ entry_of s n p
  still_entry p i = (k.spaces i).entries (k.directory i) p

  pub still_page : (e : Entry) → entry_of mid n request_page ≡ Some e → IsRequestPage mid n e
  still_page e is =
      let old = h.request e (sym (still_entry request_page) ∙ is) in
      record {
        bits = old.bits;
        apart = λ b x row. old.apart b x (sym (λ i. block_row (k.spaces i) (k.directory i) own_addresses b) ∙ row);
      }

  pub stays_still : IsInOrder mid → Stays s mid n
  stays_still in_order = record {
    in_order = in_order;
    lives = k.lives;
    env_type = k.env_type;
    directory = k.directory;
    long = ap (λ (w : List ℕ). length w) k.words ∙ h.cache.words;
    cache = ap cache_at_words k.words;
    entries = λ p own ne. still_entry p;
    tables = λ r ne i. is_some ((k.spaces i).regions (slot_at s n).directory r);
    bytes = λ p e is there i. (k.spaces i).pages e.frame;
    blocks = λ b e below there i. (k.spaces i).pages e.frame;
    page = still_page;
    apart = λ p x e is x_is e_is same.
        table_no_request p is (h.table.apart p request_page x e is request_server x_is (sym (still_entry request_page) ∙ e_is) same);
  }

  pub counts_still : CountsStay s mid n
  counts_still number e below is i = reference_count (k.spaces i) e.frame

-- ---- the page of the request is given back

module _ (d : Disk) (s : KernelState) (n : ℕ) (h : StandsOver d s n) where
  abbrev uses : HasOneUse s.spaces
  uses = h.cache.in_order.frames

  abbrev dir : ℕ
  dir = (slot_at s n).directory

  abbrev pub given_back : SpacesState
  given_back = unmapped s.spaces dir request_number

  abbrev now : KernelState
  now = with_spaces s given_back

  one : OneEntry s.spaces given_back dir request_number None
  one = one_unmapped s.spaces uses dir request_number (owned s n uses h.table) request_low

  beside : (p : ℕ) → p ≢ request_page → entry_of now n p ≡ entry_of s n p
  beside p ne = (λ i. one.entries i dir p) ∙ put-other s.spaces.entries dir request_number None dir p (λ same. ne)

  pub none_there : entry_of now n request_page ≡ None
  none_there = (λ i. one.entries i dir request_number) ∙ put-at s.spaces.entries dir request_number None

  regions_same : given_back.regions ≡ s.spaces.regions
  unfolding unmapped
  regions_same = released_regions (without_entry s.spaces dir request_number) (frame_of (s.spaces.entries dir request_number))

  -- the frame of a page that is no other's than the request's keeps its bytes and its count
  module _ (p : ℕ) (e : Entry) (is : entry_of s n p ≡ Some e)
      (other : (r : Entry) → entry_of s n request_page ≡ Some r → e.frame ≢ r.frame) where
    apart : (o : Option Entry) → entry_of s n request_page ≡ o → frame_of o ≢ Some e.frame
    apart None none same = absurd (none-some e.frame same)
    apart (Some r) there same = other r there (sym (same_Some r.frame e.frame same))

    frame_kept : (given_back.pages e.frame ≡ s.spaces.pages e.frame) × (reference_count given_back e.frame ≡ reference_count s.spaces e.frame)
    frame_kept =
        one.kept e.frame (page_not_free (s.spaces.uses e.frame) (uses.pages dir p e is)) (apart (entry_of s n request_page) refl)
        (λ same. none-some e.frame same)

  table_kept : (p : ℕ) (e : Entry) → is_table_page p ≡ true → entry_of s n p ≡ Some e →
      (given_back.pages e.frame ≡ s.spaces.pages e.frame) × (reference_count given_back e.frame ≡ reference_count s.spaces e.frame)
  table_kept p e table is =
      frame_kept p e is (λ r there same. table_no_request p table (h.table.apart p request_page e r table request_server is there same))

  block_kept : (b : ℕ) (e : Entry) → b < CACHE_BLOCKS → entry_of s n (number_of b) ≡ Some e → given_back.pages e.frame ≡ s.spaces.pages e.frame
  block_kept b e below is =
      (frame_kept (number_of b) e is (λ r there same. (h.request r there).apart b e (row_below s.spaces dir b below ∙ is) same)).0

  pub stays_released : IsInOrder now → Stays s now n
  stays_released in_order = record {
    in_order = in_order;
    lives = h.cache.live;
    env_type = refl;
    directory = refl;
    long = h.cache.words;
    cache = refl;
    entries = λ p own ne. beside p ne;
    tables = λ r ne. (λ i. is_some (regions_same i dir r));
    bytes = λ p e is there. (table_kept p e is there).0;
    blocks = block_kept;
    page = λ e is. absurd (none-some e (sym none_there ∙ is));
    apart = λ p x e is x_is e_is. absurd (none-some e (sym none_there ∙ e_is));
  }

  pub counts_released : CountsStay s now n
  counts_released number e below is = (table_kept (place_page number) e (place_table number below) is).1
