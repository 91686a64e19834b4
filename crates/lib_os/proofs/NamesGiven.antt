-- A frame that no client has gets a name that none uses, as that of a file which is opened: the kernel's state stands for the same abstract one by
-- these names, too.
use Rattle.std.proofs.Common.{◌≡◌, ◌≢◌, ◌∙◌, ◌<◌, ◌%◌, ℕ, Bool, true, false, List, Some, refl, sym, ap, subst}
use Rattle.jos_base.specs.declared.numbers.TheConstants.{FIRST_ENV_ID, NENV}
use Rattle.jos_base.specs.Environments.{is_live as is_live_slot}
use Rattle.jos_base.specs.KernelState.{KernelState, slot_at}
use Rattle.jos_base.specs.Reach.{Entry}
use Rattle.jos_base.specs.Words.{upd}
use Rattle.lib_os.specs.AbstractState.{AbstractSlot, AbstractState, born, free, is_live, serving, unborn}
use Rattle.lib_os.specs.DescriptorPages.{Things}
use Rattle.lib_os.specs.PipeEnds.{EndsStandAt}
use Rattle.lib_os.specs.Places.{place_of}
use Rattle.lib_os.specs.Rows.{AreNamed, IsNamed, Names, ShowsBy, is_of_descriptor, is_pipe_page, is_shared, logical, rows_of}
use Rattle.lib_os.specs.StandsFor.{HasChildren, IsBorneBy, StandsFor, StandsForSlot, things_in}
use Rattle.lib_os.proofs.PipesStand.{ends_seen}
use Rattle.lib_os.proofs.SlotsStand.{SeenAlike, born_stands, but_pipes, live_stands}
use Rattle.jos_base.proofs.Maps.{upd-other}
use Rattle.lib_os.proofs.Children.{borne_moved, same_child}

-- the frame has the name, which is an object's and no pipe's
abbrev pub named_too : Names → ℕ → ℕ → Names
named_too names name f = record {
  name = upd names.name f name;
  frame = upd names.frame name f;
  is_object = upd names.is_object name true;
  is_pipe = upd names.is_pipe name false;
}

-- No client has the frame, and none of the frames that clients share has the name.
pub record IsUnused (names : Names) (s : KernelState) (name f : ℕ) : Type 0 where
  pub frames : (m p : ℕ) (x : Entry) → m ≢ 0 → is_live_slot (slot_at s m) ≡ true → rows_of s.spaces (slot_at s m).directory p ≡ Some x → x.frame ≢ f
  pub counted : (m p : ℕ) (x : Entry) → logical s.spaces s.environments.slots m p ≡ Some x → x.frame ≢ f
  pub unnamed : (m p : ℕ) (x : Entry) → logical s.spaces s.environments.slots m p ≡ Some x → is_shared x.perm ≡ true → names.name x.frame ≢ name

-- what another frame is named by
pub still_named : (names : Names) (pages shared : ℕ → List ℕ) (things : Things) (next name f p g : ℕ) → g ≢ f → names.name g ≢ name →
    IsNamed names pages shared things next p g → IsNamed (named_too names name f) pages shared things next p g
still_named names pages shared things next name f p g other unlike was =
    let same : upd names.name f name g ≡ names.name g = upd-other names.name f name g other in
    let object : upd names.is_object name true (names.name g) ≡ names.is_object (names.name g) =
    upd-other names.is_object name true (names.name g) unlike in
    let of_pipe : upd names.is_pipe name false (names.name g) ≡ names.is_pipe (names.name g) =
    upd-other names.is_pipe name false (names.name g) unlike in
    let facts = subst (λ (m : ℕ). (upd names.frame name f m ≡ g) × (upd names.is_object name true m ≡ is_of_descriptor p)
    × (upd names.is_pipe name false m ≡ is_pipe_page p)
    × ShowsBy things m g (upd names.is_object name true m) (upd names.is_pipe name false m) (shared m) (pages g) × (m < next)) (sym same) (
      upd-other names.frame name f (names.name g) unlike ∙ was.home,
      object ∙ was.kind,
      of_pipe ∙ was.of_pipe,
      subst (λ (c : Bool). ShowsBy things (names.name g) g c (upd names.is_pipe name false (names.name g)) (shared (names.name g)) (pages g)) (sym object)
          (subst (λ (c : Bool). ShowsBy things (names.name g) g (names.is_object (names.name g)) c (shared (names.name g)) (pages g)) (sym of_pipe) was.shows),
      was.old,
    ) in
    record { home = facts.0; kind = facts.1; of_pipe = facts.2; shows = facts.3; old = facts.4 }

module _ {names : Names} {s : KernelState} {a : AbstractState} (h : StandsFor names s a) (name f : ℕ) (unused : IsUnused names s name f) where
  abbrev after : Names
  after = named_too names name f

  -- each client's space is seen as it was
  seen : (m : ℕ) → m ≢ 0 → is_live (a.slots m) ≡ true → SeenAlike names after s.spaces s.spaces (slot_at s m).directory
  seen m client live = record {
    rows = refl;
    bytes = λ p x is own_page. refl;
    named_so = λ p x is shared_page. upd-other names.name f name x.frame (unused.frames m p x client (live_stands h m ∙ live) is);
    devices = λ p x descriptor is shared_page. refl;
    pipes = λ p x pipes is shared_page. refl;
    regions = λ r. refl;
  }

  not_first : (m : ℕ) (slot : AbstractSlot) → a.slots m ≡ slot → ((id : ℕ) → slot ≢ serving id) → m ≢ 0
  not_first m slot at other same = other FIRST_ENV_ID (sym at ∙ ap a.slots same ∙ h.first)

  slots_stand : (m : ℕ) → StandsForSlot after s.spaces (slot_at s m) (a.slots m)
  slots_stand m = by_slot (a.slots m) refl (h.slots m)
    where
      by_slot : (slot : AbstractSlot) → a.slots m ≡ slot → StandsForSlot names s.spaces (slot_at s m) slot → StandsForSlot after s.spaces (slot_at s m) slot
      by_slot (free id) at k = k
      by_slot (unborn id parent) at k = k
      by_slot (serving id) at k = k
      by_slot (born b) at k =
          born_stands (slot_at s m) b
          (seen m (not_first m (born b) at (λ id same. let contradiction : born b ≡ serving id = same in cc)) (ap (λ (x : AbstractSlot). is_live x) at))
          (λ piped runs fd x y below is lies device. (refl, refl)) k

  children_stand : HasChildren after s.spaces s.environments.slots a.slots
  children_stand = record { borne = borne; have = h.children.have }
    where
      borne : (m id parent : ℕ) → a.slots m ≡ unborn id parent →
          IsBorneBy after s.spaces (slot_at s (parent % NENV)) (a.slots (parent % NENV)) (slot_at s m) id parent
      borne m id parent at =
          let client = not_first m (unborn id parent) at (λ i same. let contradiction : unborn id parent ≡ serving i = same in cc) in
          let live : is_live (a.slots m) ≡ true = ap (λ (x : AbstractSlot). is_live x) at in
          borne_moved (slot_at s (parent % NENV)) (a.slots (parent % NENV)) (slot_at s m) refl refl refl (λ q. refl)
          (same_child (slot_at s m) (slot_at s m) refl) (seen m client live) (h.children.borne m id parent at)

  -- the pages of pipes stand beside their ends
  ends_stand : (m : ℕ) → EndsStandAt after a.objects (place_of (slot_at s m)) (rows_of s.spaces (slot_at s m).directory) (a.slots m)
  ends_stand m = by_slot (a.slots m) refl (h.slots m) (h.ends m)
    where
      by_slot : (slot : AbstractSlot) → a.slots m ≡ slot → StandsForSlot names s.spaces (slot_at s m) slot →
          EndsStandAt names a.objects (place_of (slot_at s m)) (rows_of s.spaces (slot_at s m).directory) slot →
          EndsStandAt after a.objects (place_of (slot_at s m)) (rows_of s.spaces (slot_at s m).directory) slot
      by_slot (free id) at k ends = tt
      by_slot (unborn id parent) at k ends = tt
      by_slot (serving id) at k ends = tt
      by_slot (born b) at k ends =
          ends_seen
          (but_pipes (seen m (not_first m (born b) at (λ id same. let contradiction : born b ≡ serving id = same in cc))
          (ap (λ (x : AbstractSlot). is_live x) at))) k.library ends

  names_stand : AreNamed after s.spaces.pages a.shared (things_in s a) a.next_name (logical s.spaces s.environments.slots)
  names_stand m p x is shared_page =
      still_named names s.spaces.pages a.shared (things_in s a) a.next_name name f p x.frame (unused.counted m p x is)
      (unused.unnamed m p x is shared_page) (h.named m p x is shared_page)

  pub given_name_stands : StandsFor (named_too names name f) s a
  given_name_stands = record {
    slots = slots_stand;
    children = children_stand;
    apart = h.apart;
    named = names_stand;
    users = h.users;
    whole = h.whole;
    beside = h.beside;
    ends = ends_stand;
    locks = h.locks;
    runs = h.runs;
    old = h.old;
    free_slots = h.free_slots;
    first = h.first;
    server = h.server;
    input = h.input;
    last = h.last;
    turns = h.turns;
    tabled = h.tabled;
    in_order = h.in_order;
  }
