-- Descriptors as they are seen: which of them are open, by the rows of their pages, and which is the lowest; the words that are read of the
-- region of these pages and of their entries, which tell this; and what close, dup and exit are in the abstract system where it is known.
use Rattle.std.proofs.Common.{◌≡◌, ◌≢◌, ◌∙◌, ◌+◌, ◌*◌, ◌/◌, ◌%◌, ◌<◌, ◌≤◌, ◌==◌, inl, inr, ℕ, zero, suc, Bool, true, false, Option, Some, None}
use Rattle.std.proofs.Common.{refl, sym, ap, subst, arith, if◌then◌else◌}
use Rattle.std.specs.Prelude.{bit_and, is_none, is_some, nat_le, nat_lt}
use Rattle.std.specs.Option.{option_map}
use Rattle.std.proofs.lemmas.Bool.{cases_eq}
use Rattle.std.proofs.lemmas.Bool.Decides.{nat_tests}
use Rattle.std.proofs.lemmas.Option.{same_Some, none-some}
use Rattle.jos_base.specs.declared.memory.Access.TheVariants.{Read}
use Rattle.jos_base.specs.declared.numbers.TheConstants.{E_INVAL, FDTABLE, NPTENTRIES, PGSIZE, PTE_P, UVPT}
use Rattle.jos_base.specs.declared.registers.Regs.{Regs}
use Rattle.jos_base.specs.Counting.{named as named_by, page_count, page_limit}
use Rattle.jos_base.specs.SpacesState.{SpacesState, own_count}
use Rattle.jos_base.proofs.Counts.{page_count-same}
use Rattle.jos_base.specs.KernelState.{KernelState, slot_at, with_extra}
use Rattle.jos_base.specs.Reach.{Entry}
use Rattle.jos_base.specs.SystemCalls.{has_write, is_page_address}
use Rattle.jos_base.specs.Windows.{entry_word, region_entry}
use Rattle.jos_base.specs.Words.{page_number}
use Rattle.lib_os.specs.declared.numbers.TheConstants.{DESCRIPTORS, UVPD}
use Rattle.lib_os.specs.declared.place.Place.TheVariants as place
use Rattle.lib_os.specs.declared.place.Step.{Step}
use Rattle.lib_os.specs.declared.service.Service.{Service}
use Rattle.lib_os.specs.declared.service.Service.TheVariants as service
use Rattle.lib_os.specs.AbstractMemory.{slot_freed}
use Rattle.lib_os.specs.AbstractState.{AbstractState, Born, own, named, born, entered, with_born}
use Rattle.lib_os.specs.Answers.{answered, refused}
use Rattle.lib_os.specs.Descriptors.{dup_onto, exit_by, first_from, lowest_open, object_name, with_descriptor}
use Rattle.lib_os.specs.InOrder.{IsInOrder}
use Rattle.lib_os.specs.LibraryCall.{library_step}
use Rattle.lib_os.specs.LibraryPages.{View, region_index}
use Rattle.lib_os.specs.LibrarySteps.{service_answered}
use Rattle.lib_os.specs.Places.{place_of, words_at}
use Rattle.lib_os.specs.Rows.{EntryRow, IsUsers, Names, Rows, descriptor_page, descriptor_perm, descriptor_seen, is_of_descriptor, is_shared}
use Rattle.lib_os.specs.Rows.{may_write, name_of, page_by, rows_of, shown_at}
use Rattle.lib_os.specs.InService.{IsIn, IsOpen, NoneIsOpenBelow}
use Rattle.lib_os.specs.PipeEnds.{is_dropped, is_made}
use Rattle.lib_os.specs.StandsFor.{StandsAtStep, StandsFor, borne_in, seen_unless, view_of}
use Rattle.lib_os.specs.UserCalls.{load}
use Rattle.lib_os.proofs.Answering.{back_stands}
use Rattle.lib_os.proofs.EntryWords.{region_told, row_entry, row_told}
use Rattle.lib_os.proofs.GoingOn.{words_stand}
use Rattle.lib_os.proofs.Loading.{loaded}
use Rattle.lib_os.proofs.Numbered.{named_at, number_of}
use Rattle.lib_os.proofs.Serving.{IsServed, holds_page, kept_where}
use Rattle.lib_os.proofs.SlotsStand.{born_at}
use Rattle.lib_os.proofs.Effects.{Quiet}
use Rattle.lib_os.proofs.PipesStand.{calm_dropped, calm_made, is_calm, is_calm_step}
use Rattle.lib_os.proofs.StatesStand.{lasting_named, quiet_stands}
use Rattle.lib_os.proofs.Touching.{touched_quiet, touched_uses}
use Rattle.lib_os.proofs.WindowWords.{read_at, load_directory_word, load_table_word}

-- ---- places

-- the region of the descriptors' pages
abbrev pub table_region : ℕ
table_region = region_index FDTABLE

-- where a descriptor's page begins; the words that keep its number may hold anything, so that this is bounded
abbrev pub descriptor_va : ℕ → ℕ
descriptor_va fd = FDTABLE + PGSIZE * (fd % DESCRIPTORS)

-- where the word of a descriptor's entry stands, and that of the region's
abbrev pub entry_va : ℕ → ℕ
entry_va fd = UVPT + 4 * descriptor_page (fd % DESCRIPTORS)

abbrev pub table_va : ℕ
table_va = UVPD + 4 * table_region

pub descriptor_address : (fd : ℕ) → is_page_address (descriptor_va fd) ≡ true
descriptor_address fd = grind (arith, nat_tests)

pub descriptor_number : (fd : ℕ) → page_number (descriptor_va fd) ≡ descriptor_page (fd % DESCRIPTORS)
descriptor_number fd = omega arith

pub descriptor_begins : (fd : ℕ) → fd < DESCRIPTORS →
    (is_page_address (descriptor_va fd) ≡ true) × (page_number (descriptor_va fd) ≡ descriptor_page fd)
descriptor_begins fd below = (descriptor_address fd, omega (arith, below))

pub entry_stands_at : (fd : ℕ) → fd < DESCRIPTORS → entry_va fd ≡ UVPT + 4 * descriptor_page fd
entry_stands_at fd below = omega (arith, below)

pub page_region : (fd : ℕ) → fd < DESCRIPTORS → descriptor_page fd / NPTENTRIES ≡ table_region
page_region fd below = omega (arith, below)

pub page_is_below : (fd : ℕ) → fd < DESCRIPTORS → descriptor_page fd < page_limit
unfolding page_limit
page_is_below fd below = omega (arith, below)

pub is_descriptors : (fd : ℕ) → fd < DESCRIPTORS → is_of_descriptor (descriptor_page fd) ≡ true
is_descriptors fd below = grind (arith, nat_tests)

-- ---- an entry of one

pub descriptor_user : IsUsers descriptor_perm
descriptor_user = record { page = refl; copied = λ is. absurd (let contradiction : false ≡ true = is in cc) }

-- ---- the first of some

none_from : (descriptors : ℕ → Option ℕ) (fd n : ℕ) → ((q : ℕ) → fd ≤ q → q < fd + n → descriptors q ≡ None) →
    first_from is_some descriptors fd n ≡ None
unfolding first_from
none_from descriptors fd zero none = refl
none_from descriptors fd (suc n) none =
    let here : descriptors fd ≡ None = none fd (omega arith) (omega arith) in
    ap (λ (o : Option ℕ). if is_some o then Some fd else first_from is_some descriptors (fd + 1) n) here
    ∙ none_from descriptors (fd + 1) n (λ q from to. none q (omega (arith, from)) (omega (arith, to)))

pub some_from : (descriptors : ℕ → Option ℕ) (fd n q : ℕ) → fd ≤ q → q < fd + n → ((r : ℕ) → fd ≤ r → r < q → descriptors r ≡ None) →
    is_some (descriptors q) ≡ true → first_from is_some descriptors fd n ≡ Some q
unfolding first_from
some_from descriptors fd zero q from to none there = absurd (omega (arith, from, to))
some_from descriptors fd (suc n) q from to none there = elim (cases_eq fd q) [
  | inl same ↦
      ap (λ (c : Bool). if c then Some fd else first_from is_some descriptors (fd + 1) n) (ap (λ (r : ℕ). is_some (descriptors r)) same ∙ there)
      ∙ ap (λ (r : ℕ). Some r) same
  | inr ne ↦
      let further : fd + 1 ≤ q = omega (arith, from, ne) in
      ap (λ (o : Option ℕ). if is_some o then Some fd else first_from is_some descriptors (fd + 1) n) (none fd (omega arith) (omega (arith, further)))
      ∙ some_from descriptors (fd + 1) n q further (omega (arith, to)) (λ r up low. none r (omega (arith, up)) low) there
]

-- ---- which are open

-- each descriptor of an environment is what is seen of its page
abbrev pub SeesDescriptors : Names → KernelState → ℕ → Born → Type 0
SeesDescriptors names s n b = (fd : ℕ) → b.descriptors fd ≡ descriptor_seen names s.spaces (slot_at s n).directory fd

module _ {names : Names} {s : KernelState} {a : AbstractState} (h : StandsFor names s a) (n : ℕ) (b : Born) (at : a.slots n ≡ born b) where
  abbrev space : ℕ
  space = (slot_at s n).directory

  abbrev row : EntryRow
  row = rows_of s.spaces space

  -- whether the region has a table
  abbrev has_table : Bool
  has_table = is_some (s.spaces.regions space table_region)

  -- each entry there has the bits of a descriptor's
  pub entry_bits : (fd : ℕ) (x : Entry) → fd < DESCRIPTORS → row (descriptor_page fd) ≡ Some x → x.perm ≡ descriptor_perm
  entry_bits fd x below is = (born_at h n b at).library.descriptors (descriptor_page fd) x (is_descriptors fd below) is

  -- each descriptor is what is seen of its page, where none is made and none is dropped
  pub seen_unmade : ((fd : ℕ) → is_made (place_of (slot_at s n)) fd ≡ false) → ((fd : ℕ) → is_dropped (place_of (slot_at s n)) fd ≡ false) →
      SeesDescriptors names s n b
  seen_unmade made dropped fd =
      (born_at h n b at).descriptors fd (dropped fd) ∙ ap (λ (c : Bool). seen_unless c (descriptor_seen names s.spaces space fd)) (made fd)

  pub seen_calm : is_calm (place_of (slot_at s n)) ≡ true → SeesDescriptors names s n b
  seen_calm calm = seen_unmade (calm_made (place_of (slot_at s n)) calm) (calm_dropped (place_of (slot_at s n)) calm)

  -- ---- without a table none is

  pub no_table_row : has_table ≡ false → (fd : ℕ) → fd < DESCRIPTORS → row (descriptor_page fd) ≡ None
  no_table_row none fd below = by_row (row (descriptor_page fd)) refl
    where
      by_row : (o : Option Entry) → row (descriptor_page fd) ≡ o → o ≡ None
      by_row None is = refl
      by_row (Some x) is =
          let e = row_entry s.spaces space (descriptor_page fd) x is in
          let there : is_some (s.spaces.regions space (descriptor_page fd / NPTENTRIES)) ≡ true =
          h.in_order.frames.regions space (descriptor_page fd) e.0 e.1 in
          let contradiction : true ≡ false = sym there ∙ ap (λ (r : ℕ). is_some (s.spaces.regions space r)) (page_region fd below) ∙ none in
          absurd cc

  pub no_table_none : has_table ≡ false → NoneIsOpenBelow row DESCRIPTORS
  no_table_none none fd below = no_table_row none fd below

  -- ---- the object

  pub object_below : (fd : ℕ) → fd < DESCRIPTORS → object_name b fd ≡ b.descriptors fd
  object_below fd below =
      let test : nat_lt fd DESCRIPTORS ≡ true = grind (arith, nat_tests) in
      ap (λ (c : Bool). if c then b.descriptors fd else None) test

  pub object_past : (fd : ℕ) → DESCRIPTORS ≤ fd → object_name b fd ≡ None
  object_past fd above =
      let test : nat_lt fd DESCRIPTORS ≡ false = grind (arith, nat_tests) in
      ap (λ (c : Bool). if c then b.descriptors fd else None) test

-- Each descriptor is what is seen of its page.
module _ {names : Names} {s : KernelState} {a : AbstractState} (h : StandsFor names s a) (n : ℕ) (b : Born) (at : a.slots n ≡ born b)
    (seen : SeesDescriptors names s n b) where
  abbrev seen_space : ℕ
  seen_space = (slot_at s n).directory

  abbrev seen_row : EntryRow
  seen_row = rows_of s.spaces seen_space

  -- one that is none of the descriptors
  pub past_seen : (fd : ℕ) → DESCRIPTORS ≤ fd → b.descriptors fd ≡ None
  past_seen fd above =
      let test : nat_lt fd DESCRIPTORS ≡ false = grind (arith, nat_tests) in
      seen fd
      ∙ ap (λ (c : Bool). if c then name_of (shown_at names s.spaces seen_space (descriptor_page fd)) else None) test

  -- no page stands there
  pub none_seen : (fd : ℕ) → seen_row (descriptor_page fd) ≡ None → b.descriptors fd ≡ None
  none_seen fd none =
      seen fd
      ∙ ap (λ (o : Option Entry). if nat_lt fd DESCRIPTORS then name_of (option_map (page_by names s.spaces.pages) o) else None) none
      ∙ by_test (nat_lt fd DESCRIPTORS)
    where
      nothing : Option ℕ
      nothing = None

      by_test : (c : Bool) → (if c then nothing else nothing) ≡ nothing
      by_test true = refl
      by_test false = refl

  -- one does: the descriptor is the name of its frame
  pub name_seen : (fd : ℕ) (x : Entry) → fd < DESCRIPTORS → seen_row (descriptor_page fd) ≡ Some x → b.descriptors fd ≡ Some (names.name x.frame)
  name_seen fd x below is =
      let test : nat_lt fd DESCRIPTORS ≡ true = grind (arith, nat_tests) in
      let shared_page : is_shared x.perm ≡ true = ap is_shared (entry_bits h n b at fd x below is) in
      seen fd
      ∙ ap (λ (c : Bool). if c then name_of (shown_at names s.spaces seen_space (descriptor_page fd)) else None) test
      ∙ ap (λ (o : Option Entry). name_of (option_map (page_by names s.spaces.pages) o)) is
      ∙ ap (λ (c : Bool). name_of (Some (if c then named (names.name x.frame) (has_write x.perm) else own (s.spaces.pages x.frame) (may_write x.perm))))
      shared_page

  -- it is open where its page stands
  pub open_seen : (fd : ℕ) → fd < DESCRIPTORS → is_some (b.descriptors fd) ≡ is_some (seen_row (descriptor_page fd))
  open_seen fd below = by_row (seen_row (descriptor_page fd)) refl
    where
      by_row : (o : Option Entry) → seen_row (descriptor_page fd) ≡ o → is_some (b.descriptors fd) ≡ is_some o
      by_row None is = ap is_some (none_seen fd is)
      by_row (Some x) is = ap is_some (name_seen fd x below is)

  pub row_of_name : (fd name : ℕ) → b.descriptors fd ≡ Some name →
      (fd < DESCRIPTORS) × (x : Entry) × (seen_row (descriptor_page fd) ≡ Some x) × (names.name x.frame ≡ name)
  row_of_name fd name has = by_test (nat_lt fd DESCRIPTORS) refl
    where
      by_row : fd < DESCRIPTORS → (o : Option Entry) → seen_row (descriptor_page fd) ≡ o →
          (fd < DESCRIPTORS) × (x : Entry) × (seen_row (descriptor_page fd) ≡ Some x) × (names.name x.frame ≡ name)
      by_row below None is = absurd (none-some name (sym (none_seen fd is) ∙ has))
      by_row below (Some x) is = (below, x, is, same_Some (names.name x.frame) name (sym (name_seen fd x below is) ∙ has))

      by_test : (c : Bool) → nat_lt fd DESCRIPTORS ≡ c →
          (fd < DESCRIPTORS) × (x : Entry) × (seen_row (descriptor_page fd) ≡ Some x) × (names.name x.frame ≡ name)
      by_test true test = by_row (grind (arith, nat_tests)) (seen_row (descriptor_page fd)) refl
      by_test false test = absurd (none-some name (sym (past_seen fd (grind (arith, nat_tests))) ∙ has))

  pub no_table_seen : is_some (s.spaces.regions seen_space table_region) ≡ false → (fd : ℕ) → b.descriptors fd ≡ None
  no_table_seen none fd = by_test (nat_lt fd DESCRIPTORS) refl
    where
      by_test : (c : Bool) → nat_lt fd DESCRIPTORS ≡ c → b.descriptors fd ≡ None
      by_test true test = none_seen fd (no_table_row h n b at none fd (grind (arith, nat_tests)))
      by_test false test = past_seen fd (grind (arith, nat_tests))

  -- ---- the object

  pub object_missing : (fd : ℕ) → seen_row (descriptor_page fd) ≡ None → object_name b fd ≡ None
  object_missing fd none = by_test (nat_lt fd DESCRIPTORS) refl
    where
      by_test : (c : Bool) → nat_lt fd DESCRIPTORS ≡ c → object_name b fd ≡ None
      by_test true test = object_below h n b at fd (grind (arith, nat_tests)) ∙ none_seen fd none
      by_test false test = object_past h n b at fd (grind (arith, nat_tests))

  pub object_is : (fd : ℕ) (x : Entry) → fd < DESCRIPTORS → seen_row (descriptor_page fd) ≡ Some x → object_name b fd ≡ Some (names.name x.frame)
  object_is fd x below is = object_below h n b at fd below ∙ name_seen fd x below is

  pub object_open : (fd : ℕ) → fd < DESCRIPTORS → is_none (object_name b fd) ≡ is_none (seen_row (descriptor_page fd))
  object_open fd below = by_row (seen_row (descriptor_page fd)) refl
    where
      by_row : (o : Option Entry) → seen_row (descriptor_page fd) ≡ o → is_none (object_name b fd) ≡ is_none o
      by_row None is = ap is_none (object_missing fd is)
      by_row (Some x) is = ap is_none (object_is fd x below is)

  -- ---- the lowest

  pub none_open : NoneIsOpenBelow seen_row DESCRIPTORS → lowest_open b ≡ None
  none_open none =
      none_from b.descriptors 0 DESCRIPTORS (λ fd from to. none_seen fd (none fd (omega (arith, to))))

  pub first_open : (fd : ℕ) → fd < DESCRIPTORS → NoneIsOpenBelow seen_row fd → IsOpen seen_row fd → lowest_open b ≡ Some fd
  first_open fd below none there =
      some_from b.descriptors 0 DESCRIPTORS fd (omega arith) (omega (arith, below)) (λ q from to. none_seen q (none q to))
      (open_seen fd below ∙ there)

-- none is open below the next one, where this one is not
pub none_up_to : (row : EntryRow) (fd : ℕ) → NoneIsOpenBelow row fd → row (descriptor_page fd) ≡ None → NoneIsOpenBelow row (fd + 1)
none_up_to row fd none here q low = elim (cases_eq q fd) [
  | inl same ↦ ap (λ (r : ℕ). row (descriptor_page r)) same ∙ here
  | inr ne ↦ none q (omega (arith, low, ne))
]

-- ---- the words

-- of the region's entry, and of that of a descriptor's page
abbrev pub table_word : KernelState → ℕ → ℕ
table_word s n = entry_word (option_map region_entry (s.spaces.regions (slot_at s n).directory table_region))

abbrev pub page_word : KernelState → ℕ → ℕ → ℕ
page_word s n fd = entry_word (s.spaces.entries (slot_at s n).directory (descriptor_page fd))

-- the region has a table
abbrev pub HasTableAt : KernelState → ℕ → Type 0
HasTableAt s n = is_some (s.spaces.regions (slot_at s n).directory table_region) ≡ true

pub table_told : (s : KernelState) (n : ℕ) →
    (bit_and (table_word s n) PTE_P == PTE_P) ≡ is_some (s.spaces.regions (slot_at s n).directory table_region)
table_told s n = region_told (s.spaces.regions (slot_at s n).directory table_region)

module _ {names : Names} {s : KernelState} {a : AbstractState} (h : StandsFor names s a) (n : ℕ) where
  pub table_gives : load s n table_va ≡ read_at s n table_va (table_word s n)
  table_gives = load_directory_word s n h.in_order.frames table_region (omega arith)

  pub page_gives : (fd : ℕ) → fd < DESCRIPTORS → HasTableAt s n → load s n (entry_va fd) ≡ read_at s n (entry_va fd) (page_word s n fd)
  page_gives fd below there =
      subst (λ (va : ℕ). load s n va ≡ read_at s n va (page_word s n fd)) (sym (entry_stands_at fd below))
      (load_table_word s n h.in_order.frames (descriptor_page fd) (page_is_below fd below)
      (ap (λ (r : ℕ). is_some (s.spaces.regions (slot_at s n).directory r)) (page_region fd below) ∙ there))

  -- whether a descriptor is open
  pub page_told : (b : Born) → a.slots n ≡ born b → (fd : ℕ) → fd < DESCRIPTORS →
      (bit_and (page_word s n fd) PTE_P == PTE_P) ≡ is_some (rows_of s.spaces (slot_at s n).directory (descriptor_page fd))
  page_told b at fd below =
      row_told s.spaces (slot_at s n).directory (descriptor_page fd)
      (λ x is. subst (λ (perm : ℕ). IsUsers perm) (sym (entry_bits h n b at fd x below is)) descriptor_user)

-- no page stands there, or one does
pub none_there : (o : Option Entry) → is_some o ≡ false → o ≡ None
none_there None is = refl
none_there (Some x) is = absurd (let contradiction : true ≡ false = is in cc)

-- ---- behind a load, nothing that is seen is another

-- where frames are used for the same, and nothing is seen to change, pages are mapped as often
pub quiet_view : {s t : SpacesState} → Quiet s t → t.uses ≡ s.uses → (d : ℕ) → view_of t d ≡ view_of s d
unfolding rows_of
quiet_view {s = s} {t = t} quiet uses d = λ i. record {
  row = quiet.rows i d;
  tables = λ r. quiet.regions d r i;
  bytes = quiet.pages i;
  counts = λ frame. mapped frame i + own_count (uses i frame);
}
  where
    entry_same : (f space q : ℕ) → named_by f (t.entries space q) ≡ named_by f (s.entries space q)
    entry_same f space q =
        lasting_named f (t.entries space q) ∙ ap (λ (r : Rows). named_by f (r space q)) quiet.rows ∙ sym (lasting_named f (s.entries space q))

    mapped : (frame : ℕ) → page_count t.entries frame ≡ page_count s.entries frame
    mapped frame = page_count-same t.entries s.entries frame (entry_same frame)

pub loaded_view : (s : KernelState) (n va d : ℕ) → view_of (loaded s n va).spaces d ≡ view_of s.spaces d
loaded_view s n va d =
    quiet_view (touched_quiet s.spaces (slot_at s n).directory va Read) (touched_uses s.spaces (slot_at s n).directory va Read) d

-- a service that has read a word goes on at another of its steps, or answers
module _ {names : Names} {s : KernelState} {a : AbstractState} (h : StandsFor names s a) (n : ℕ) (service : Service) (from : Step)
    (v : IsServed names s a n service from) (unborne : borne_in (place.InService service from) ≡ None)
    (calm : is_calm_step from ≡ true) (va : ℕ) (order : IsInOrder (loaded s n va)) where
  loaded_stands : StandsFor names (loaded s n va) a
  loaded_stands = quiet_stands h (touched_quiet s.spaces (slot_at s n).directory va Read) order

  pub read_goes_on : (to : Step) → borne_in (place.InService service to) ≡ None → is_calm_step to ≡ true →
      holds_page (place.InService service from) ≡ holds_page (place.InService service to) →
      StandsAtStep (view_of s.spaces (slot_at s n).directory) (record (slot_at s n) { extra = words_at (number_of service) to }) v.b service to →
      StandsFor names (with_extra (loaded s n va) n (words_at (number_of service) to)) a
  read_goes_on to none calm_to held so =
      words_stand loaded_stands n (number_of service) v.b v.is (born_at loaded_stands n v.b v.is) v.outside (ap borne_in v.place ∙ unborne)
      (ap is_calm v.place ∙ calm) service to (ap holds_page v.place ∙ held) none calm_to (named_at (slot_at s n) service from v.place)
      (subst (λ (w : View). StandsAtStep w (record (slot_at s n) { extra = words_at (number_of service) to }) v.b service to)
      (sym (loaded_view s n va (slot_at s n).directory)) so)

  pub read_answers : holds_page (place.InService service from) ≡ kept_where false → IsIn (slot_at s n) v.b service entered → (word : ℕ) →
      StandsFor names (service_answered (loaded s n va) n word) (answered a n v.b (slot_at s n).registers word)
  read_answers holds is_in word =
      back_stands loaded_stands n v.b v.is (record (slot_at s n).registers { eax = word }) (ap borne_in v.place ∙ unborne)
      (ap holds_page v.place ∙ holds) (ap is_calm v.place ∙ calm) is_in.silent is_in.awake v.outside refl refl

-- ---- the steps of the abstract system

module _ (a : AbstractState) (n : ℕ) (b : Born) (regs : Regs) where
  abbrev step_of : Service → Option AbstractState
  step_of service = library_step a n b regs service entered

  -- close
  pub close_refuses : (fd : ℕ) → object_name b fd ≡ None → step_of (service.Close fd) ≡ Some (refused a n b regs E_INVAL)
  unfolding library_step
  close_refuses fd none =
      ap (λ (o : Option ℕ). Some (if is_none o then refused a n b regs E_INVAL else answered a n (with_descriptor b fd None) regs 0)) none

  pub close_drops : (fd name : ℕ) → object_name b fd ≡ Some name → step_of (service.Close fd) ≡ Some (answered a n (with_descriptor b fd None) regs 0)
  unfolding library_step
  close_drops fd name is =
      ap (λ (o : Option ℕ). Some (if is_none o then refused a n b regs E_INVAL else answered a n (with_descriptor b fd None) regs 0)) is

  -- dup
  pub dup_refuses : (old new : ℕ) → object_name b old ≡ None → step_of (service.Dup old new) ≡ Some (refused a n b regs E_INVAL)
  unfolding library_step
  dup_refuses old new none = rw none refl

  module _ (old new name : ℕ) (is : object_name b old ≡ Some name) where
    pub dup_past : DESCRIPTORS ≤ new → step_of (service.Dup old new) ≡ Some (refused a n b regs E_INVAL)
    unfolding library_step
    dup_past above = let test : nat_le DESCRIPTORS new ≡ true = grind (arith, nat_tests) in rw (is, test) refl

    pub dup_itself : new < DESCRIPTORS → old ≡ new → step_of (service.Dup old new) ≡ Some (answered a n b regs new)
    unfolding library_step
    dup_itself below same =
        let test : nat_le DESCRIPTORS new ≡ false = grind (arith, nat_tests) in
        let here : (old == new) ≡ true = grind (arith, nat_tests) in
        rw (is, test, here) refl

    module _ (below : new < DESCRIPTORS) (other : old ≢ new) where
      by_target : (o : Option ℕ) → object_name b new ≡ o → step_of (service.Dup old new) ≡ Some (dup_onto a n b regs old new o)
      unfolding library_step
      by_target o target =
          let test : nat_le DESCRIPTORS new ≡ false = grind (arith, nat_tests) in
          let there : (old == new) ≡ false = grind (arith, nat_tests) in
          (λ i. Some (if is_none (is i) then refused a n b regs E_INVAL else if test i then refused a n b regs E_INVAL
          else if there i then answered a n b regs new else dup_onto a n b regs old new (target i)))

      pub dup_closes : (stood : ℕ) → object_name b new ≡ Some stood → step_of (service.Dup old new) ≡ Some (with_born a n (with_descriptor b new None))
      dup_closes stood target = by_target (Some stood) target

      pub dup_makes : object_name b new ≡ None →
          step_of (service.Dup old new) ≡ Some (answered a n (with_descriptor b new (object_name b old)) regs new)
      dup_makes target = by_target None target

  -- exit
  pub exit_drops : (fd : ℕ) → lowest_open b ≡ Some fd → step_of service.Exit ≡ Some (with_born a n (with_descriptor b fd None))
  unfolding library_step
  exit_drops fd lowest = ap (λ (o : Option ℕ). Some (exit_by a n b o)) lowest

  pub exit_ends : lowest_open b ≡ None → step_of service.Exit ≡ Some (slot_freed a n b)
  unfolding library_step
  exit_ends lowest = ap (λ (o : Option ℕ). Some (exit_by a n b o)) lowest
