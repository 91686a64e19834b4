-- A state of the kernel that is listed: its frames, the entries and the tables of its directories, and its slots. What holds of
-- each that is listed holds everywhere, so that the state is in order and stands for an abstract one.
use Rattle.std.proofs.Common.{◌≡◌, ◌≢◌, ◌∙◌, ◌<◌, ◌/◌, ◌%◌, ◌^◌, ◌==◌, ◌||◌, not, ℕ, Bool, true, false, List, [], ◌∷◌, refl, sym}
use Rattle.std.proofs.Common.{ap, subst, arith, if◌then◌else◌}
use Rattle.std.specs.Prelude.{Option, Some, None, is_some, nat_lt}
use Rattle.std.specs.Option.{option_map}
use Rattle.std.proofs.lemmas.Bool.{false≢true}
use Rattle.std.proofs.lemmas.Bool.Decides.{nat_tests}
use Rattle.std.proofs.lemmas.Option.{none-some, same_Some}
use Rattle.jos_base.specs.declared.environment.EnvType.TheVariants.{User, FileServer}
use Rattle.jos_base.specs.declared.environment.Status.TheVariants.{Runnable, NotRunnable}
use Rattle.jos_base.specs.declared.numbers.TheConstants.{FIRST_ENV_ID, NENV, NPTENTRIES, UTEMP, UTEXT}
use Rattle.jos_base.specs.declared.registers.Regs.{Regs}
use Rattle.jos_base.specs.Counting.{frame_limit, page_limit}
use Rattle.jos_base.specs.Environments.{Slot, free_slot, is_live, is_running}
use Rattle.jos_base.specs.KernelState.{KernelState, HasSpaces}
use Rattle.jos_base.specs.Reach.{Entry}
use Rattle.jos_base.specs.SpacesState.{SpacesState, Use, reserved, directory, table, page, Region, is_directory}
use Rattle.jos_base.specs.SystemCalls.{has_write}
use Rattle.jos_base.specs.TrapFrames.{user_flags}
use Rattle.jos_base.specs.Words.{page_number}
use Rattle.fs_layout.specs.FileTree.{a_directory, no_more}
use Rattle.lib_os.specs.declared.numbers.TheConstants.{DESCRIPTORS, PFTEMP, PGFAULT_UPCALL, UXSTACK}
use Rattle.lib_os.specs.declared.place.Place.{Place}
use Rattle.lib_os.specs.AbstractState.{AbstractState, Born, AbstractSlot, free, unborn, born, serving, Phase, guest, idle, terminal}
use Rattle.lib_os.specs.Fence.{in_fence, is_resident}
use Rattle.lib_os.specs.InOrder.{HasOneUse}
use Rattle.lib_os.specs.LibraryPages.{LibraryPages, IsOwnWritable, has_copy, has_working, is_library_region, region_index, has_spawns}
use Rattle.lib_os.specs.PipeEnds.{EndsStandAt, is_made}
use Rattle.lib_os.specs.Places.{place_of, place_in_words, is_handlers}
use Rattle.lib_os.specs.Rows.{Names, EntryRow, lasting, rows_of, counted, logical, page_seen, is_programs, is_shared, IsUsers, Agree, AgreeWhereShared, IsPage}
use Rattle.lib_os.specs.Rows.{descriptor_page, descriptor_seen, is_of_descriptor, name_of, page_by, pipe_page, shown_at}
use Rattle.jos_base.specs.Messages.{wanting}
use Rattle.lib_os.specs.declared.numbers.TheConstants.{REQUEST}
use Rattle.lib_os.specs.StandsFor.{AwaitsRequest, StandsFor, StandsForSlot, StandsForBorn, StandsAt, view_of, upcall_at, HasChildren, borne_in, seen_unless}
use Rattle.lib_os.proofs.Logical.{clients_are, logical_live, logical_of, programs_no_descriptor}

-- ---- lists by numbers

-- what is listed for a number, and another thing for the numbers that are not listed
abbrev pub listed : {A : Type 0} → List (ℕ × A) → A → ℕ → A
listed [] other k = other
listed (x ∷ rest) other k = if x.0 == k then x.1 else listed rest other k

abbrev pub found : {A : Type 0} → List (ℕ × A) → ℕ → Option A
found [] k = None
found (x ∷ rest) k = if x.0 == k then Some x.1 else found rest k

abbrev pub AllListed : {A : Type 0} → (ℕ → A → Type 0) → List (ℕ × A) → Type 0
AllListed P [] = Unit {0}
AllListed P (x ∷ rest) = P x.0 x.1 × AllListed P rest

pub each_listed : {A : Type 0} (P : ℕ → A → Type 0) (list : List (ℕ × A)) (other : A) → AllListed P list → ((k : ℕ) → P k other) →
    (k : ℕ) → P k (listed list other k)
each_listed P [] other all rest k = rest k
each_listed {A = A} P (x ∷ more) other all rest k = by_key (each_listed P more other all.1 rest k) (x.0 == k) refl
  where
    by_key : P k (listed more other k) → (c : Bool) → (x.0 == k) ≡ c → P k (if c then x.1 else listed more other k)
    by_key behind true is = let same : x.0 ≡ k = grind (arith, nat_tests) in subst (λ (j : ℕ). P j x.1) same all.0
    by_key behind false is = behind

pub each_found : {A : Type 0} (P : ℕ → A → Type 0) (list : List (ℕ × A)) → AllListed P list → (k : ℕ) (a : A) →
    found list k ≡ Some a → P k a
each_found P [] all k a is = absurd (false≢true (ap is_some is))
each_found {A = A} P (x ∷ more) all k a is = by_key (each_found P more all.1 k a) (x.0 == k) refl is
  where
    by_key : (found more k ≡ Some a → P k a) → (c : Bool) → (x.0 == k) ≡ c → (if c then Some x.1 else found more k) ≡ Some a → P k a
    by_key behind true here stands = let same : x.0 ≡ k = grind (arith, nat_tests) in
        subst (λ (j : ℕ). P j a) same (subst (P x.0) (same_Some x.1 a stands) all.0)
    by_key behind false here stands = behind stands

-- things by two numbers: a list for each of the first
abbrev pub Table : Type 0 → Type 0
Table A = List (ℕ × List (ℕ × A))

abbrev pub found_two : {A : Type 0} → Table A → ℕ → ℕ → Option A
found_two rows d = found (listed rows [] d)

abbrev pub AllTabled : {A : Type 0} → (ℕ → ℕ → A → Type 0) → Table A → Type 0
AllTabled P rows = AllListed (λ d row. AllListed (P d) row) rows

pub each_tabled : {A : Type 0} (P : ℕ → ℕ → A → Type 0) (rows : Table A) → AllTabled P rows → (d p : ℕ) (a : A) →
    found_two rows d p ≡ Some a → P d p a
each_tabled P rows all d p a is =
    each_found (P d) (listed rows [] d) (each_listed (λ e row. AllListed (P e) row) rows [] all (λ e. tt) d) p a is

-- ---- spaces

-- what is listed of the spaces: what frames are used for and their bytes, the entries of directories, and the frames of the tables
-- of their regions; and, which is told by these, the place of each frame that is an entry's alone, and of each table
pub record Spaces : Type 0 where
  pub uses : List (ℕ × Use)
  pub pages : ℕ → List ℕ
  pub rows : Table Entry
  pub tables : Table ℕ
  -- frames that several entries may have
  pub common : ℕ → Bool
  pub home : ℕ → ℕ × ℕ

abbrev pub region_of : ℕ → Region
region_of frame = record { table = frame; accessed = false }

abbrev pub spaces_of : Spaces → SpacesState
spaces_of l = record {
  frames = 64;
  uses = listed l.uses reserved;
  free = [];
  pages = l.pages;
  regions = λ d r. option_map region_of (found_two l.tables d r);
  entries = found_two l.rows;
}

-- An entry is lawful: it names a page that has all its bytes, stands in a region that has a table, and is not shared; and it has
-- the frame alone, or can't write there.
pub record EntryFits (l : Spaces) (d p : ℕ) (e : Entry) : Type 0 where
  pub frame_is : (spaces_of l).uses e.frame ≡ page
  pub directory_is : (spaces_of l).uses d ≡ directory
  pub within : (d < frame_limit) × (p < page_limit)
  pub small : (e.frame < frame_limit) × (e.perm < 4096)
  pub region : is_some ((spaces_of l).regions d (p / NPTENTRIES)) ≡ true
  pub users : IsUsers (lasting e).perm
  pub own_page : is_shared (lasting e).perm ≡ false
  pub whole : IsPage (l.pages e.frame)
  pub alone : l.common e.frame ≡ false → l.home e.frame ≡ (d, p)
  pub read_only : l.common e.frame ≡ true → has_write (lasting e).perm ≡ false

-- a page of one's own, which may be written
pub own_fits : (l : Spaces) (d p f : ℕ) → (spaces_of l).uses f ≡ page → (spaces_of l).uses d ≡ directory →
    (d < frame_limit) × (p < page_limit) → f < frame_limit → is_some ((spaces_of l).regions d (p / NPTENTRIES)) ≡ true →
    IsPage (l.pages f) → l.common f ≡ false → l.home f ≡ (d, p) → EntryFits l d p (record { frame = f; perm = 7 })
own_fits l d p f frame_is directory_is within small region whole alone home = record {
  frame_is = frame_is;
  directory_is = directory_is;
  within = within;
  small = (small, omega arith);
  region = region;
  users = record { page = refl; copied = λ copied. absurd (false≢true copied) };
  own_page = refl;
  whole = whole;
  alone = λ is. home;
  read_only = λ common. absurd (false≢true (sym alone ∙ common));
}

-- a page that is copied when it is written
pub copied_fits : (l : Spaces) (d p f : ℕ) → (spaces_of l).uses f ≡ page → (spaces_of l).uses d ≡ directory →
    (d < frame_limit) × (p < page_limit) → f < frame_limit → is_some ((spaces_of l).regions d (p / NPTENTRIES)) ≡ true →
    IsPage (l.pages f) → l.common f ≡ true → EntryFits l d p (record { frame = f; perm = 0x805 })
copied_fits l d p f frame_is directory_is within small region whole common = record {
  frame_is = frame_is;
  directory_is = directory_is;
  within = within;
  small = (small, omega arith);
  region = region;
  users = record { page = refl; copied = λ copied. (refl, refl) };
  own_page = refl;
  whole = whole;
  alone = λ alone. absurd (false≢true (sym alone ∙ common));
  read_only = λ is. refl;
}

pub record TableFits (l : Spaces) (d r frame : ℕ) : Type 0 where
  pub frame_is : (spaces_of l).uses frame ≡ table
  pub directory_is : (spaces_of l).uses d ≡ directory
  pub small : frame < frame_limit
  pub alone : l.home frame ≡ (d, r)

pub record SpacesFit (l : Spaces) : Type 0 where
  pub entries : AllTabled (EntryFits l) l.rows
  pub tables : AllTabled (TableFits l) l.tables

module _ (l : Spaces) (fit : SpacesFit l) where
  abbrev spaces : SpacesState
  spaces = spaces_of l

  entry_fits : (d p : ℕ) (e : Entry) → spaces.entries d p ≡ Some e → EntryFits l d p e
  entry_fits = each_tabled (EntryFits l) l.rows fit.entries

  found_table : (d r : ℕ) (region : Region) (o : Option ℕ) → option_map region_of o ≡ Some region → o ≡ Some region.table
  found_table d r region None is = absurd (false≢true (ap is_some is))
  found_table d r region (Some frame) is =
      ap Some (ap (λ (x : Region). x.table) (same_Some (region_of frame) region is))

  table_fits : (d r : ℕ) (region : Region) → spaces.regions d r ≡ Some region → TableFits l d r region.table
  table_fits d r region is =
      each_tabled (TableFits l) l.tables fit.tables d r region.table (found_table d r region (found_two l.tables d r) is)

  pub one_use : HasOneUse spaces
  one_use = record {
    pages = λ d p e is. (entry_fits d p e is).frame_is;
    owners = λ d p e is. (entry_fits d p e is).directory_is;
    within = λ d p e is. (entry_fits d p e is).within;
    small = λ d p e is. (entry_fits d p e is).small;
    regions = λ d p e is. (entry_fits d p e is).region;
    tables = λ d r region is. ((table_fits d r region is).frame_is, (table_fits d r region is).small);
    tables_apart = λ d r e q x y is js same.
        let places : ◌≡◌ {A = ℕ × ℕ} (d, r) (e, q) =
        sym (table_fits d r x is).alone ∙ ap l.home same ∙ (table_fits e q y js).alone in
        (ap (λ (z : ℕ × ℕ). z.0) places, ap (λ (z : ℕ × ℕ). z.1) places);
    region_owners = λ d r region is. (table_fits d r region is).directory_is;
    free_list = tt;
  }

  -- the same of the entries as the library sees them
  pub record RowFits (d p : ℕ) (x : Entry) : Type 0 where
    pub users : IsUsers x.perm
    pub own_page : is_shared x.perm ≡ false
    pub whole : IsPage (l.pages x.frame)
    pub alone : l.common x.frame ≡ false → l.home x.frame ≡ (d, p)
    pub read_only : l.common x.frame ≡ true → has_write x.perm ≡ false

  pub row_fits : (d p : ℕ) (x : Entry) → rows_of spaces d p ≡ Some x → RowFits d p x
  unfolding rows_of
  row_fits d p x is = by_entry (spaces.entries d p) refl is
    where
      by_entry : (o : Option Entry) → spaces.entries d p ≡ o → option_map lasting o ≡ Some x → RowFits d p x
      by_entry None at none = absurd (false≢true (ap is_some none))
      by_entry (Some e) at some =
          let h = entry_fits d p e at in
          subst (RowFits d p) (same_Some (lasting e) x some)
          (record { users = h.users; own_page = h.own_page; whole = h.whole; alone = h.alone; read_only = h.read_only })

-- ---- slots

-- a slot of the kernel's and the abstract one that it stands for
abbrev pub Pair : Type 0
Pair = Slot × AbstractSlot

abbrev pub no_pair : Pair
no_pair = (free_slot 0, free 0)

abbrev pub the_names : Names
the_names = record { name = λ f. f; frame = λ name. name; is_object = λ name. false; is_pipe = λ name. false }

abbrev pub state_of : Spaces → List (ℕ × Pair) → KernelState
state_of l pairs = record {
  spaces = spaces_of l;
  environments = record { slots = λ n. (listed pairs no_pair n).0; free_slots = [] };
  input = [];
  last = None;
  turns = 0;
  refusals = 0;
  upcalls = 0;
}

abbrev pub abstract_of : List (ℕ × Pair) → AbstractState
abstract_of pairs = record {
  slots = λ n. (listed pairs no_pair n).1;
  free_slots = [];
  shared = λ name. [];
  objects = λ name. terminal;
  pipes = λ name. [];
  next_name = 0;
  files = record { root = a_directory no_more false; blocks = 0; unnamed = 0 };
  opened = λ k. record { held_by = None; used = false };
  server = idle;
  console = [];
  input = [];
  last = None;
  turns = 0;
}

-- A slot is lawful, by the slot of each directory.
pub record SlotFits (l : Spaces) (owner : ℕ → ℕ) (n : ℕ) (pair : Pair) : Type 0 where
  pub stands : StandsForSlot the_names (spaces_of l) pair.0 pair.1
  pub id : is_live pair.0 ≡ true → pair.0.id % NENV ≡ n
  pub user : n ≢ 0 → pair.0.env_type ≡ User
  pub still : is_running pair.0.status ≡ false
  pub directory_is : is_live pair.0 ≡ true → (spaces_of l).uses pair.0.directory ≡ directory
  pub owner_is : is_live pair.0 ≡ true → owner pair.0.directory ≡ n
  pub counts : (row : EntryRow) (p : ℕ) → counted (place_of pair.0) row p ≡ row p
  pub rested : pair.0.runs ≡ 0
  pub undescribed : (fd name : ℕ) (c : Born) → pair.1 ≡ born c → c.descriptors fd ≢ Some name
  pub ends : EndsStandAt the_names (λ name. terminal) (place_of pair.0) (rows_of (spaces_of l) pair.0.directory) pair.1

-- The server waits, and has neither pages nor tables.
pub record IsBare (l : Spaces) (k : Slot) : Type 0 where
  pub waits : AwaitsRequest k
  pub empty : (p : ℕ) → rows_of (spaces_of l) k.directory p ≡ None
  pub tables : (r : ℕ) → (spaces_of l).regions k.directory r ≡ None

-- the environment of a slot has the directory
abbrev pub HasOwner : List (ℕ × Pair) → ℕ → Use → Type 0
HasOwner pairs d used =
    is_directory used ≡ true → (n : ℕ) × (is_live (listed pairs no_pair n).0 ≡ true) × ((listed pairs no_pair n).0.directory ≡ d)

pub record StateFits (l : Spaces) (pairs : List (ℕ × Pair)) (owner : ℕ → ℕ) : Type 0 where
  pub spaces : SpacesFit l
  pub slots : AllListed (SlotFits l owner) pairs
  pub owned : AllListed (HasOwner pairs) l.uses
  pub first : (listed pairs no_pair 0).1 ≡ serving FIRST_ENV_ID
  pub server : IsBare l (listed pairs no_pair 0).0
  pub children : HasChildren the_names (spaces_of l) (λ n. (listed pairs no_pair n).0) (λ n. (listed pairs no_pair n).1)

module _ (l : Spaces) (pairs : List (ℕ × Pair)) (owner : ℕ → ℕ) (fit : StateFits l pairs owner) where
  abbrev the_state : KernelState
  the_state = state_of l pairs

  abbrev slot : ℕ → Slot
  slot n = (listed pairs no_pair n).0

  slot_fits : (n : ℕ) → SlotFits l owner n (listed pairs no_pair n)
  unfolding place_in_words counted
  slot_fits = each_listed (SlotFits l owner) pairs no_pair fit.slots (λ n. record {
    stands = refl;
    id = λ live. absurd (false≢true live);
    user = λ other. refl;
    still = refl;
    directory_is = λ live. absurd (false≢true live);
    owner_is = λ live. absurd (false≢true live);
    counts = λ row p. refl;
    rested = refl;
    undescribed = λ fd name c is. let contradiction : free 0 ≡ born c = is in absurd cc;
    ends = tt;
  })

  has_spaces : HasSpaces the_state.spaces the_state.environments
  has_spaces = record {
    in_use = λ n live. ap is_directory ((slot_fits n).directory_is live);
    apart = λ n m live lives same. sym ((slot_fits n).owner_is live) ∙ ap owner same ∙ (slot_fits m).owner_is lives;
    owned = each_listed (HasOwner pairs) l.uses reserved fit.owned (λ d is. absurd (false≢true is));
  }

  -- an entry that counts is one of the slot's directory
  record CountsAt (n p : ℕ) (x : Entry) : Type 0 where
    live : is_live (slot n) ≡ true
    fits : RowFits l fit.spaces (slot n).directory p x

  counts_at : (n p : ℕ) (x : Entry) → logical the_state.spaces slot n p ≡ Some x → CountsAt n p x
  counts_at n p x is =
      let h = logical_of the_state.spaces slot n p x is in
      let counts : counted (place_of (slot n)) (rows_of the_state.spaces (slot n).directory) p ≡ Some x = sym (logical_live the_state.spaces slot n h.0 p) ∙ is in
      record {
        live = (clients_are n (slot n) h.0).1;
        fits = row_fits l fit.spaces (slot n).directory p x
            (sym ((slot_fits n).counts (rows_of the_state.spaces (slot n).directory) p) ∙ counts);
      }

  -- none of them is shared, so that there is no pipe
  none_shared : (n p : ℕ) (x : Entry) → logical the_state.spaces slot n p ≡ Some x → is_shared x.perm ≡ true → ⊥
  none_shared n p x is shared = false≢true (sym (counts_at n p x is).fits.own_page ∙ shared)

  agree : AgreeWhereShared (logical the_state.spaces slot)
  agree n p m q x y ne is js same = by_common (l.common x.frame) refl
    where
      a : CountsAt n p x
      a = counts_at n p x is

      b : CountsAt m q y
      b = counts_at m q y js

      by_common : (c : Bool) → l.common x.frame ≡ c → Agree x.perm y.perm
      by_common true common = record {
        shared = a.fits.own_page ∙ sym b.fits.own_page;
        read_only = λ own. (a.fits.read_only common, b.fits.read_only (sym (ap l.common same) ∙ common));
      }
      by_common false alone =
          let places : ◌≡◌ {A = ℕ × ℕ} ((slot n).directory, p) ((slot m).directory, q) =
          sym (a.fits.alone alone) ∙ ap l.home same ∙ b.fits.alone (sym (ap l.common same) ∙ alone) in
          absurd (ne (has_spaces.apart n m a.live b.live (ap (λ (z : ℕ × ℕ). z.0) places)) (ap (λ (z : ℕ × ℕ). z.1) places))

  pub listed_stands : StandsFor the_names the_state (abstract_of pairs)
  listed_stands = record {
    slots = λ n. (slot_fits n).stands;
    children = fit.children;
    apart = agree;
    named = λ n p x is shared. absurd (false≢true (sym (counts_at n p x is).fits.own_page ∙ shared));
    users = λ n p x is. (counts_at n p x is).fits.users;
    whole = λ n p x is. (counts_at n p x is).fits.whole;
    beside = λ n p q x e is at. absurd (none-some e (sym (fit.server.empty q) ∙ at));
    ends = λ n. (slot_fits n).ends;
    locks = record {
      held = λ n frame holds. absurd (none_shared n (pipe_page holds.fd) holds.entry holds.stands holds.shared);
      holder = λ n fd entry below stands shared some. absurd (none_shared n (pipe_page fd) entry stands shared);
      alone = λ n m frame holds too. absurd (none_shared n (pipe_page holds.fd) holds.entry holds.stands holds.shared);
    };
    runs = λ n. let none = (slot_fits n).rested in omega (arith, none);
    old = λ n fd name c is names_it. absurd ((slot_fits n).undescribed fd name c is names_it);
    free_slots = record { same = refl; within = tt };
    first = fit.first;
    server = record {
      status = fit.server.waits;
      pages = λ p is. absurd (false≢true (sym (ap (λ (o : Option Entry). is_some o) (fit.server.empty p)) ∙ is));
      tables = λ r is. absurd (false≢true (sym (ap (λ (o : Option Region). is_some o) (fit.server.tables r)) ∙ is));
      alone = λ j q x y below at there same. absurd (none-some y (sym (fit.server.empty q) ∙ there));
    };
    input = (refl, λ i. omega arith);
    last = refl;
    turns = refl;
    tabled = record {
      ids = λ n live. (slot_fits n).id live;
      servers = λ n other. (slot_fits n).user other;
      running = λ n runs. absurd (false≢true (sym (slot_fits n).still ∙ runs));
    };
    in_order = record { frames = one_use l fit.spaces; spaces = has_spaces };
  }

-- no child is being made
abbrev pub IsChildless : ℕ → Pair → Type 0
IsChildless n pair = (borne_in (place_of pair.0) ≡ None) × ((id parent : ℕ) → pair.1 ≢ unborn id parent)

pub childless : (l : Spaces) (pairs : List (ℕ × Pair)) → AllListed IsChildless pairs →
    HasChildren the_names (spaces_of l) (λ n. (listed pairs no_pair n).0) (λ n. (listed pairs no_pair n).1)
unfolding place_in_words
childless l pairs all = record {
  borne = λ m id parent is. absurd ((each m).1 id parent is);
  have = λ n id b is bears. absurd (none-some id (sym (each n).0 ∙ bears));
}
  where
    each : (n : ℕ) → IsChildless n (listed pairs no_pair n)
    each = each_listed IsChildless pairs no_pair all
        (λ n. (refl, (λ id parent is. let contradiction : free 0 ≡ unborn id parent = is in absurd cc)))

-- ---- the server and environments

-- the server, with a directory
abbrev pub server_slot : ℕ → Slot
server_slot d = record (free_slot FIRST_ENV_ID) {
  env_type = FileServer;
  status = NotRunnable;
  directory = d;
  rendezvous = wanting (free_slot FIRST_ENV_ID).rendezvous REQUEST 0;
}

pub server_childless : (d : ℕ) → IsChildless 0 (server_slot d, serving FIRST_ENV_ID)
unfolding place_in_words
server_childless d = (refl, (λ id parent is. let contradiction : serving FIRST_ENV_ID ≡ unborn id parent = is in absurd cc))

pub server_bare : (l : Spaces) (d : ℕ) → listed l.rows [] d ≡ [] → listed l.tables [] d ≡ [] → IsBare l (server_slot d)
unfolding rows_of
server_bare l d no_row no_table = record {
  waits = record { status = refl; receiving = refl; anybody = refl; destination = refl };
  empty = λ p. ap (λ (row : List (ℕ × Entry)). option_map lasting (found row p)) no_row;
  tables = λ r. ap (λ (row : List (ℕ × ℕ)). option_map region_of (found row r)) no_table;
}

pub server_fits : (l : Spaces) (owner : ℕ → ℕ) (d : ℕ) → (spaces_of l).uses d ≡ directory → owner d ≡ 0 →
    SlotFits l owner 0 (server_slot d, serving FIRST_ENV_ID)
unfolding place_in_words counted
server_fits l owner d directory_is owner_is = record {
  stands = record {
    first = refl;
    id_is = refl;
    lives = refl;
    parent = refl;
    env_type = refl;
    words = refl;
    stack = refl;
  };
  id = λ live. refl;
  user = λ other. absurd (other refl);
  still = refl;
  directory_is = λ live. directory_is;
  owner_is = λ live. owner_is;
  counts = λ row p. refl;
  rested = refl;
  undescribed = λ fd name c is. let contradiction : serving FIRST_ENV_ID ≡ born c = is in absurd cc;
  ends = tt;
}

-- an environment that may run, with its id, its directory, its registers and its words
abbrev pub running_slot : ℕ → ℕ → Regs → List ℕ → Slot
running_slot id d registers words =
    record (free_slot id) { status = Runnable; registers = registers; extra = words; directory = d; upcall = PGFAULT_UPCALL }

-- The program of an environment, with its registers and its phase; it ever had pages in one region alone, which is that of the first
-- of its program.
abbrev pub born_in : Spaces → ℕ → ℕ → Regs → Phase → Born
born_in l id d registers phase = record {
  id = id;
  parent = 0;
  program = guest registers;
  memory = page_seen the_names (spaces_of l) d;
  regions = λ r. r == region_index UTEXT;
  descriptors = λ fd. None;
  phase = phase;
  spawning = None;
  blocked = false;
}

-- A page that the program or the library may have.
abbrev pub IsKnown : ℕ → Entry → Type 0
IsKnown p e = is_programs p || (p == page_number UXSTACK) || (p == page_number PFTEMP) ≡ true

abbrev pub IsKnownRegion : ℕ → ℕ → Type 0
IsKnownRegion r frame = (r == region_index UTEXT) || is_library_region r ≡ true

none_unknown : (l : Spaces) (d : ℕ) → AllListed IsKnown (listed l.rows [] d) → (p : ℕ) → is_programs p ≡ false →
    p ≢ page_number UXSTACK → p ≢ page_number PFTEMP → rows_of (spaces_of l) d p ≡ None
unfolding rows_of
none_unknown l d known p outside no_stack no_copy = by_entry (found_two l.rows d p) refl
  where
    by_entry : (o : Option Entry) → found_two l.rows d p ≡ o → option_map lasting o ≡ None
    by_entry None none = refl
    by_entry (Some e) some =
        let is = each_found IsKnown (listed l.rows [] d) known p e some in
        absurd (false≢true (sym (unknown outside (grind (arith, nat_tests)) (grind (arith, nat_tests))) ∙ is))
      where
        unknown : is_programs p ≡ false → (p == page_number UXSTACK) ≡ false → (p == page_number PFTEMP) ≡ false →
            is_programs p || (p == page_number UXSTACK) || (p == page_number PFTEMP) ≡ false
        unknown a b c = rw (a, b, c) refl

working_outside : is_programs (page_number UTEMP) ≡ false
unfolding in_fence
working_outside = refl

-- so no descriptor's page stands there
no_descriptor : (l : Spaces) (d : ℕ) → AllListed IsKnown (listed l.rows [] d) → (p : ℕ) → is_of_descriptor p ≡ true →
    rows_of (spaces_of l) d p ≡ None
no_descriptor l d known p descriptor = by_programs (is_programs p) refl
  where
    by_programs : (c : Bool) → is_programs p ≡ c → rows_of (spaces_of l) d p ≡ None
    by_programs true inside = absurd (false≢true (sym (programs_no_descriptor p inside) ∙ descriptor))
    by_programs false outside = none_unknown l d known p outside (λ same. absurd (false≢true (sym (ap is_of_descriptor same) ∙ descriptor)))
        (λ same. absurd (false≢true (sym (ap is_of_descriptor same) ∙ descriptor)))

-- and no descriptor is open
none_open : (l : Spaces) (d : ℕ) → AllListed IsKnown (listed l.rows [] d) → (fd : ℕ) → None ≡ descriptor_seen the_names (spaces_of l) d fd
none_open l d known fd = by_test (nat_lt fd DESCRIPTORS) refl
  where
    by_test : (c : Bool) → nat_lt fd DESCRIPTORS ≡ c →
        None ≡ (if c then name_of (shown_at the_names (spaces_of l) d (descriptor_page fd)) else None)
    by_test true below =
        let descriptor : is_of_descriptor (descriptor_page fd) ≡ true = grind (arith, nat_tests) in
        let none = no_descriptor l d known (descriptor_page fd) descriptor in
        sym (ap (λ (o : Option Entry). name_of (option_map (page_by the_names (spaces_of l).pages) o)) none)
    by_test false below = refl

-- where none is seen, none is seen
seen_none : (made : Bool) → None ≡ seen_unless made None
seen_none true = refl
seen_none false = refl

known_region : (l : Spaces) (d : ℕ) → AllListed IsKnownRegion (listed l.tables [] d) → (r : ℕ) →
    is_some ((spaces_of l).regions d r) ≡ true → (r == region_index UTEXT) || is_library_region r ≡ true
known_region l d known r has = by_table (found_two l.tables d r) refl has
  where
    by_table : (o : Option ℕ) → found_two l.tables d r ≡ o → is_some (option_map region_of o) ≡ true →
        (r == region_index UTEXT) || is_library_region r ≡ true
    by_table None at some = absurd (false≢true some)
    by_table (Some frame) at some = each_found IsKnownRegion (listed l.tables [] d) known r frame at

has_region : (l : Spaces) (d r : ℕ) → is_some ((spaces_of l).regions d (region_index UTEXT)) ≡ true →
    (r == region_index UTEXT) ≡ true → is_some ((spaces_of l).regions d r) ≡ true
has_region l d r has is = let same : region_index UTEXT ≡ r = grind (arith, nat_tests) in
    subst (λ (q : ℕ). is_some ((spaces_of l).regions d q) ≡ true) same has

-- what an environment of a listed state has
pub record EnvironmentFits (l : Spaces) (id d : ℕ) (registers program : Regs) (words : List ℕ) (phase : Phase) (at : Place) : Type 0 where
  pub id_small : id < 2 ^ 32
  pub place_is : place_of (running_slot id d registers words) ≡ at
  pub upcall : upcall_at at ≡ PGFAULT_UPCALL
  pub counts : (row : EntryRow) (p : ℕ) → counted at row p ≡ row p
  pub known : AllListed IsKnown (listed l.rows [] d)
  pub regions : AllListed IsKnownRegion (listed l.tables [] d)
  pub table : is_some ((spaces_of l).regions d (region_index UTEXT)) ≡ true
  pub stack_page : IsOwnWritable (rows_of (spaces_of l) d) (page_number UXSTACK)
  pub copy : has_copy at ≡ true → IsOwnWritable (rows_of (spaces_of l) d) (page_number PFTEMP)
  pub no_copy : has_copy at ≡ false → rows_of (spaces_of l) d (page_number PFTEMP) ≡ None
  pub no_working : has_working at words ≡ false
  pub no_spawns : (p : ℕ) → has_spawns at words p ≡ false
  pub stack : is_handlers registers.esp || not (is_resident registers.esp) ≡ true
  pub flags : registers.eflags ≡ user_flags registers.eflags
  pub stands : StandsAt at (view_of (spaces_of l) d) (running_slot id d registers words) (born_in l id d program phase)

pub environment_stands : (l : Spaces) (id d : ℕ) (registers program : Regs) (words : List ℕ) (phase : Phase) (at : Place) →
    EnvironmentFits l id d registers program words phase at →
    StandsForBorn the_names (spaces_of l) (running_slot id d registers words) (born_in l id d program phase)
environment_stands l id d registers program words phase at h = record {
  id = refl;
  id_small = h.id_small;
  parent = refl;
  env_type = refl;
  runs = tt;
  upcall = sym h.upcall ∙ sym (ap upcall_at h.place_is);
  descriptors = λ fd still. seen_none (is_made (place_of (running_slot id d registers words)) fd)
      ∙ ap (seen_unless (is_made (place_of (running_slot id d registers words)) fd)) (none_open l d h.known fd);
  memory = λ p. refl;
  library = subst (λ (x : Place). LibraryPages x words (rows_of (spaces_of l) d)) (sym h.place_is) (record {
    stack = h.stack_page;
    copy = h.copy;
    no_copy = h.no_copy;
    descriptors = λ p entry descriptor is. absurd (none-some entry (sym (no_descriptor l d h.known p descriptor) ∙ is));
    working = λ is. absurd (false≢true (sym h.no_working ∙ is));
    no_working = λ is. none_unknown l d h.known (page_number UTEMP) working_outside (λ same. omega (arith, same)) (λ same. omega (arith, same));
    spawns = λ p is. absurd (false≢true (sym (h.no_spawns p) ∙ is));
    none = λ p outside closed no_stack no_copy no_working no_spawns. none_unknown l d h.known p outside no_stack no_copy;
  });
  regions_have = λ r is. has_region l d r h.table is;
  regions_only = known_region l d h.regions;
  stack = h.stack;
  flags = h.flags;
  at = subst (λ (x : Place). StandsAt x (view_of (spaces_of l) d) (running_slot id d registers words) (born_in l id d program phase))
      (sym h.place_is) h.stands;
}

same_born : (b c : Born) → born b ≡ born c → b ≡ c
same_born b c same = cc

pub environment_fits : (l : Spaces) (owner : ℕ → ℕ) (n id d : ℕ) (registers program : Regs) (words : List ℕ) (phase : Phase) (at : Place) →
    EnvironmentFits l id d registers program words phase at → id % NENV ≡ n → (spaces_of l).uses d ≡ directory → owner d ≡ n →
    SlotFits l owner n (running_slot id d registers words, born (born_in l id d program phase))
environment_fits l owner n id d registers program words phase at h id_is directory_is owner_is = record {
  stands = environment_stands l id d registers program words phase at h;
  id = λ live. id_is;
  user = λ other. refl;
  still = refl;
  directory_is = λ live. directory_is;
  owner_is = λ live. owner_is;
  counts = λ row p. ap (λ (x : Place). counted x row p) h.place_is ∙ h.counts row p;
  rested = refl;
  undescribed = λ fd name c is some.
      none-some name (subst (λ (x : Born). x.descriptors fd ≡ Some name) (sym (same_born (born_in l id d program phase) c is)) some);
  ends = record {
    have = λ fd name pipe below is. absurd (none-some name is);
    only = λ fd entry below off lies.
        let of_pipe : is_of_descriptor (pipe_page fd) ≡ true = grind (arith, nat_tests) in
        absurd (none-some entry (sym (no_descriptor l d h.known (pipe_page fd) of_pipe) ∙ lies));
  };
}

pub environment_childless : (l : Spaces) (n id d : ℕ) (registers program : Regs) (words : List ℕ) (phase : Phase) (at : Place) →
    EnvironmentFits l id d registers program words phase at → borne_in at ≡ None →
    IsChildless n (running_slot id d registers words, born (born_in l id d program phase))
environment_childless l n id d registers program words phase at h unborne = (
  ap borne_in h.place_is ∙ unborne,
  (λ other parent is. let contradiction : born (born_in l id d program phase) ≡ unborn other parent = is in absurd cc),
)
