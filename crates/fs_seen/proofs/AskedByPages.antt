-- A request comes to the server with a page.
use Rattle.std.proofs.Common.{◌≡◌, ◌≢◌, ◌∙◌, ◌==◌, ◌&&◌, ◌||◌, ◌<◌, ◌+◌, ◌/◌, ℕ, Bool, true, false, List, Option, Some, refl, sym, ap, subst}
use Rattle.std.proofs.Common.{arith, if◌then◌else◌}
use Rattle.std.proofs.lemmas.Bool.Decides.{nat_tests}
use Rattle.std.proofs.lemmas.Option.{same_Some}
use Rattle.std.specs.Prelude.{is_some, nat_lt, slice_index}
use Rattle.std.specs.Option.{option_map}
use Rattle.jos_base.specs.declared.numbers.TheConstants.{NPTENTRIES, PGSIZE}
use Rattle.jos_base.specs.Environments.{Slot, is_live}
use Rattle.jos_base.specs.KernelState.{KernelState, slot_at}
use Rattle.jos_base.specs.Reach.{Entry}
use Rattle.jos_base.specs.SpacesState.{inserted}
use Rattle.jos_base.proofs.Puts.{put-at, put-other}
use Rattle.lib_os.specs.declared.numbers.TheConstants.{REQUEST}
use Rattle.lib_os.specs.AbstractState.{Server, acted, busy, idle, leaving, looking}
use Rattle.lib_os.specs.Disk.{Disk}
use Rattle.lib_os.specs.InOrder.{HasOneUse, IsInOrder}
use Rattle.lib_os.specs.LibraryPages.{region_index}
use Rattle.lib_os.specs.LibrarySteps.{request_perm, with_message_in}
use Rattle.lib_os.specs.MadeCalls.{is_server_page}
use Rattle.lib_os.specs.Rows.{lasting, rows_of}
use Rattle.lib_os.specs.UserCalls.{user_byte}
use Rattle.lib_os.proofs.Effects.{Given, is_in_region}
use Rattle.lib_os.proofs.Placing.{inserted_given}
use Rattle.fs_cache.specs.CacheStands.{IsBlockEntry}
use Rattle.fs_cache.specs.CacheSteps.{row_in}
use Rattle.fs_cache.proofs.Loads.{number_of}
use Rattle.fs_tree.specs.TreeSteps.{request_bytes}
use Rattle.fs_tree.proofs.TiesBlocks.{request_holds, request_low}
use Rattle.fs_seen.specs.ServerMemory.{HasRequested, IsRequestPage, StandsOver, entry_of, has_request, request_page}
use Rattle.fs_seen.specs.ServerWhole.{AskedByPage, IsAsked, IsAskedBy}
use Rattle.fs_seen.proofs.CallsLeave.{owned}
use Rattle.fs_seen.proofs.Changes.{block_entry, block_server, table_no_request, table_server}
use Rattle.fs_seen.proofs.OneEntry.{OneEntry, one_inserted}
use Rattle.fs_seen.proofs.StaysSo.{block_no_request}

-- The page that a request may ask for is there.
pub requested_where : (s : KernelState) (n : ℕ) → has_request s n ≡ true → (x : Server) → HasRequested x s n
requested_where s n there (looking client request place) = λ sends. there
requested_where s n there (busy client request place) = λ sends. there
requested_where s n there idle = tt
requested_where s n there leaving = tt
requested_where s n there (acted client answer bytes object) = tt

-- another region than that of the page of a request
another_region : (d r : ℕ) → r ≢ region_index REQUEST → is_in_region d request_page d r ≡ false
another_region d r ne = by_test (d == d) (r == request_page / NPTENTRIES) (grind (arith, nat_tests, ne))
  where
    by_test : (one two : Bool) → two ≡ false → (one && two) ≡ false
    by_test true two is = is
    by_test false two is = refl

module _ (d : Disk) (s after : KernelState) (n sender value perm dir p : ℕ) (own : Entry) (h : StandsOver d s n) (in_order : IsInOrder after)
    (slot : slot_at after n ≡ with_message_in (slot_at s n) sender value perm) (stands : s.spaces.entries dir p ≡ Some own)
    (put : inserted s.spaces (slot_at s n).directory request_page (record { frame = own.frame; perm = request_perm }) ≡ Some after.spaces)
    (lone : (q : ℕ) (y : Entry) → is_server_page q ≡ true → entry_of s n q ≡ Some y → y.frame ≡ own.frame → q ≡ request_page) where
  abbrev home : ℕ
  home = (slot_at s n).directory

  abbrev entry : Entry
  entry = record { frame = own.frame; perm = request_perm }

  uses : HasOneUse s.spaces
  uses = h.cache.in_order.frames

  one : OneEntry s.spaces after.spaces home request_page (Some entry)
  one = one_inserted s.spaces uses home request_page (owned s n uses h.table) request_low entry after.spaces put

  given : Given s.spaces after.spaces home request_page entry
  given = inserted_given s.spaces after.spaces home request_page entry dir p own uses in_order.frames refl stands refl put

  same_space : (slot_at after n).directory ≡ home
  same_space = ap (λ (x : Slot). x.directory) slot

  there : entry_of after n request_page ≡ Some entry
  there =
      ap (λ (q : ℕ). after.spaces.entries q request_page) same_space
      ∙ (λ i. one.entries i home request_page) ∙ put-at s.spaces.entries home request_page (Some entry)

  beside : (q : ℕ) → q ≢ request_page → after.spaces.entries home q ≡ entry_of s n q
  beside q ne = (λ i. one.entries i home q) ∙ put-other s.spaces.entries home request_page (Some entry) home q (λ same. ne)

  entries_same : (q : ℕ) → q ≢ request_page → entry_of after n q ≡ entry_of s n q
  entries_same q ne = ap (λ (t : ℕ). after.spaces.entries t q) same_space ∙ beside q ne

  -- no other page of the server's has its frame
  another : (q : ℕ) (y : Entry) → is_server_page q ≡ true → q ≢ request_page → entry_of s n q ≡ Some y → y.frame ≢ own.frame
  another q y server ne is same = ne (lone q y server is same)

  row_there : (q : ℕ) (y : Entry) → after.spaces.entries home q ≡ Some y → rows_of after.spaces home q ≡ Some (lasting y)
  unfolding rows_of
  row_there q y is = ap (λ (o : Option Entry). option_map lasting o) is

  bytes_same : (q : ℕ) (y : Entry) → is_server_page q ≡ true → q ≢ request_page → entry_of s n q ≡ Some y →
      after.spaces.pages y.frame ≡ s.spaces.pages y.frame
  bytes_same q y server ne is =
      given.placed.bytes home q (lasting y) (row_there q y (beside q ne ∙ is)) (another q y server ne is)

  asked : IsAsked s after n
  asked = record {
    lives = ap (λ (x : Slot). is_live x) slot;
    env_type = ap (λ (x : Slot). x.env_type) slot;
    directory = same_space;
    words = ap (λ (x : Slot). x.extra) slot;
    registers = (0, ap (λ (x : Slot). x.registers) slot);
    entries = entries_same;
    tables = λ r ne. given.placed.regions home r ∙ ap (λ (t : Bool). t || is_some (s.spaces.regions home r)) (another_region home r ne);
    bytes = bytes_same;
    page = λ e is. subst (λ (x : Entry). IsRequestPage after n x) (same_Some entry e (sym there ∙ is)) page_now;
    apart = λ q x e is x_is e_is same.
        another q x (table_server q is) (table_no_request q is) x_is
        (same ∙ sym (ap (λ (y : Entry). y.frame) (same_Some entry e (sym there ∙ e_is))));
  }
    where
      bits : IsBlockEntry entry
      bits = record { used = false; written = false; bits = refl }

      block_there : (b : ℕ) (x : Entry) → row_in after n b ≡ Some x → x.frame ≢ own.frame
      block_there b x row =
          let at = block_entry after.spaces (slot_at after n).directory b x row in
          another (number_of b) x (block_server b at.0) (block_no_request b)
          (sym (entries_same (number_of b) (block_no_request b)) ∙ at.1)

      page_now : IsRequestPage after n entry
      page_now = record { bits = bits; apart = block_there }

  bytes_there : (at : ℕ) → at < PGSIZE → request_bytes after n at ≡ slice_index (s.spaces.pages own.frame) at
  bytes_there at below =
      let inside : nat_lt at PGSIZE ≡ true = grind (arith, nat_tests, below) in
      ap (λ (t : Bool). if t then user_byte after n (REQUEST + at) else 0) inside
      ∙ request_holds after n entry there (record { used = false; written = false; bits = refl }) at below
      ∙ ap (λ (page : List ℕ). slice_index page at) given.same

  pub asked_by : IsAskedBy s after n own.frame
  asked_by = record { asked = asked; entry = there; bytes = bytes_there; page = given.same }

pub asked_by_page : AskedByPage
asked_by_page d s after n sender value perm dir p own h in_order slot stands put lone =
    asked_by d s after n sender value perm dir p own h in_order slot stands put lone
