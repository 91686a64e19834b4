-- The kernel's state goes on standing for the abstract one where the file server's space and slot change, as far as no client sees it:
-- a page is put there or removed, pages are written that no client has, and its registers and words are set.
use Rattle.std.proofs.Common.{◌≡◌, ◌≢◌, ◌∙◌, ◌+◌, ◌/◌, ◌<◌, ◌==◌, ◌&&◌, ◌||◌, ◌⊎◌, inl, inr, ℕ, Bool, true, false, List, refl, sym, ap, subst, arith}
use Rattle.std.proofs.Common.{length, not}
use Rattle.std.proofs.lemmas.Bool.Decides.{nat_tests}
use Rattle.std.specs.Prelude.{Option, Some, None, is_some}
use Rattle.jos_base.specs.declared.environment.Status.{Status}
use Rattle.jos_base.specs.declared.environment.Status.TheVariants.{Running}
use Rattle.jos_base.specs.declared.numbers.TheConstants.{FIRST_ENV_ID, NPTENTRIES}
use Rattle.jos_base.specs.Counting.{named}
use Rattle.jos_base.specs.Environments.{Slot, free_slot, is_free, is_live as is_live_slot, is_running}
use Rattle.jos_base.specs.KernelState.{KernelState, slot_at, with_slot_at, with_spaces, with_refusal}
use Rattle.jos_base.specs.Messages.{Rendezvous}
use Rattle.jos_base.specs.Reach.{Entry}
use Rattle.jos_base.specs.SpacesState.{SpacesState, own_count, reference_count}
use Rattle.jos_base.specs.Words.{page_number}
use Rattle.lib_os.specs.declared.numbers.TheConstants.{DEVICE_PIPE, MAXOPEN, REQUEST}
use Rattle.lib_os.specs.declared.place.Place.{Place}
use Rattle.lib_os.specs.declared.place.Place.TheVariants as place
use Rattle.lib_os.specs.declared.place.Step.TheVariants as step
use Rattle.lib_os.specs.declared.service.Service.{Service}
use Rattle.lib_os.specs.declared.service.Service.TheVariants as service
use Rattle.lib_os.specs.AbstractState.{AbstractState, AbstractSlot, Born, Object, OpenFile, TablePlace, Server, acted, born, busy, file, idle, leaving}
use Rattle.lib_os.specs.AbstractState.{free, looking, read_end, serving, terminal, unborn, write_end}
use Rattle.lib_os.specs.DescriptorPages.{HasObject, device_of, IsEnd, IsOpenFile, Things, lasting_words, number_of, place_page}
use Rattle.lib_os.specs.InOrder.{HasOneUse, IsInOrder}
use Rattle.lib_os.specs.MadeCalls.{SetsWords}
use Rattle.lib_os.specs.PipeEnds.{EndsStandAt}
use Rattle.lib_os.specs.Places.{is_handlers, place_of, service_word}
use Rattle.lib_os.specs.Rows.{EntryRow, HasThing, IsNamed, MayBeHad, Names, Rows, ShowsBy, counted, is_clients, is_shared, logical, logical_by, rows_of}
use Rattle.lib_os.specs.Rows.{descriptor_page, is_of_descriptor, is_pipe_page, pipe_page, server_row}
use Rattle.lib_os.specs.StandsFor.{HasServer, IsServerStatus, StandsFor, StandsForBorn, StandsForServer, StandsForSlot, StandsForUnborn, IsStatusFor}
use Rattle.lib_os.specs.StandsFor.{is_servers_page, is_servers_region, things_in, view_of}
use Rattle.lib_os.proofs.Children.{BearsNone, children_kept}
use Rattle.lib_os.proofs.DescriptorWords.{file_beside}
use Rattle.lib_os.proofs.Effects.{Placed, Removed}
use Rattle.lib_os.proofs.EntriesStand.{rows_bytes, rows_same, rows_stand}
use Rattle.lib_os.proofs.Logical.{clients_are, logical_alike, logical_of}
use Rattle.lib_os.proofs.PipesStand.{ends_stay, locks_same}
use Rattle.lib_os.proofs.Puts.{put-none, put-some}
use Rattle.lib_os.proofs.SlotsSet.{both_set}
use Rattle.lib_os.proofs.Serving.{in_no_service}
use Rattle.lib_os.proofs.SlotsStand.{CountsKept, SameCounts, SeenAlike, born_at, born_live, but_pipes, is_piped, live_stands, moves_bytes, slot_stands}
use Rattle.lib_os.proofs.StatesStand.{Settles, lasting_named, page_own, server_set, slot_was_in_order}
use Rattle.jos_base.proofs.Counts.{named_is, page_count-same}
use Rattle.jos_base.proofs.Puts.{put-at, put-other}

-- ---- what no client has

-- no entry has this frame
abbrev pub IsPrivate : Rows → ℕ → Type 0
IsPrivate rows f = (n p : ℕ) (x : Entry) → rows n p ≡ Some x → x.frame ≢ f

-- no client's entry has the frame of the file server's page with this number, if there is one
abbrev pub IsPrivateAt : KernelState → ℕ → Type 0
IsPrivateAt s q = (e : Entry) → server_row s.spaces s.environments.slots q ≡ Some e → IsPrivate (logical s.spaces s.environments.slots) e.frame

-- the page of a place of the table of open files
abbrev pub IsPlacePage : ℕ → Type 0
IsPlacePage q = (j : ℕ) × (j < MAXOPEN) × (q ≡ place_page j)

-- so it is where there is none
pub missing_private : (s : KernelState) (q : ℕ) → server_row s.spaces s.environments.slots q ≡ None → IsPrivateAt s q
missing_private s q none e is = absurd (let contradiction : ◌≡◌ {A = Option Entry} None (Some e) = sym none ∙ is in cc)

-- A page of the server's with this number is that neither of a request nor of a place of the table of open files.
pub record IsPlainPage (q : ℕ) : Type 0 where
  pub no_request : (q == page_number REQUEST) ≡ false
  pub no_place : IsPlacePage q → ⊥

-- No client has a page that is not that of a request, nor that of a place which somebody holds.
unheld_private : {names : Names} {s : KernelState} {a : AbstractState} → StandsFor names s a → (q : ℕ) → (q == page_number REQUEST) ≡ false →
    ((place : IsPlacePage q) → (a.opened place.0).held_by ≡ None) → IsPrivateAt s q
unheld_private {names = names} {s = s} {a = a} h q no_request unheld e stands n p x counts same =
    by_kind (names.is_pipe name) (subst (λ (c : Bool). ShowsBy things name x.frame c (names.is_pipe name) (a.shared name) bytes) kind named_so.shows)
  where
    name : ℕ
    name = names.name x.frame

    bytes : List ℕ
    bytes = s.spaces.pages x.frame

    things : Things
    things = things_in s a

    had : MayBeHad false p x
    had = subst (λ (c : Bool). MayBeHad c p x) no_request (h.beside n p q x e counts stands same)

    named_so : IsNamed names s.spaces.pages a.shared things a.next_name p x.frame
    named_so = h.named n p x counts had.shared

    kind : names.is_object name ≡ true
    kind = named_so.kind ∙ had.descriptor

    by_object : (object : Object) → HasObject things name x.frame object bytes → ⊥
    by_object terminal is = is.apart q e stands (sym same)
    by_object (file f) is =
        let at = h.server.alone (number_of bytes) q is.entry e is.below is.stands stands (is.same ∙ same) in
        let none = unheld (number_of bytes, is.below, at) in
        let contradiction : ◌≡◌ {A = Option ℕ} None (Some name) = sym none ∙ is.held in cc
    by_object (read_end pipe) is = is.apart q e stands (sym same)
    by_object (write_end pipe) is = is.apart q e stands (sym same)

    by_kind : (is_pipe : Bool) → HasThing things name x.frame is_pipe bytes → ⊥
    by_kind false is = by_object (a.objects name) is
    by_kind true is = is.apart q e stands (sym same)

pub plain_private : {names : Names} {s : KernelState} {a : AbstractState} → StandsFor names s a → (q : ℕ) → IsPlainPage q → IsPrivateAt s q
plain_private h q plain = unheld_private h q plain.no_request (λ place. absurd (plain.no_place place))

pub place_private : {names : Names} {s : KernelState} {a : AbstractState} → StandsFor names s a → (j : ℕ) → j < MAXOPEN →
    (a.opened j).held_by ≡ None → IsPrivateAt s (place_page j)
place_private {a = a} h j below none =
    unheld_private h (place_page j) (grind (arith, nat_tests)) (λ place.
    let same : place.0 ≡ j = omega (arith, place.2) in ap (λ (k : ℕ). (a.opened k).held_by) same ∙ none)

-- ---- other spaces

-- Of each space but one the entries are seen as before, and so are the bytes of their pages, and which regions have a table.
pub record OthersKept (s t : SpacesState) (d : ℕ) : Type 0 where
  pub rows : (q : ℕ) → q ≢ d → rows_of t q ≡ rows_of s q
  pub bytes : (q r : ℕ) (x : Entry) → q ≢ d → rows_of s q r ≡ Some x → t.pages x.frame ≡ s.pages x.frame
  pub regions : (q r : ℕ) → q ≢ d → is_some (t.regions q r) ≡ is_some (s.regions q r)

-- so it is where a page is put in the place of another, of a frame that keeps its bytes or that none of them has
pub placed_others : {s t : SpacesState} {d p : ℕ} {e : Entry} → Placed s t d p e →
    ((q r : ℕ) (x : Entry) → rows_of s q r ≡ Some x → x.frame ≡ e.frame → t.pages x.frame ≡ s.pages x.frame) → OthersKept s t d
placed_others {s = s} {t = t} {d = d} {p = p} {e = e} placed kept = record {
  rows = λ q ne. λ i r. same q r ne i;
  bytes = λ q r x ne is. by_frame q r x ne is (x.frame == e.frame) refl;
  regions = λ q r ne. placed.regions q r ∙ by_space q r ne (q == d) refl;
}
  where
    same : (q r : ℕ) → q ≢ d → rows_of t q r ≡ rows_of s q r
    same q r ne = (λ i. placed.rows i q r) ∙ put-other (rows_of s) d p (Some e) q r (λ is. absurd (ne is))

    by_frame : (q r : ℕ) (x : Entry) → q ≢ d → rows_of s q r ≡ Some x → (c : Bool) → (x.frame == e.frame) ≡ c → t.pages x.frame ≡ s.pages x.frame
    by_frame q r x ne is true test = kept q r x is (grind (arith, nat_tests))
    by_frame q r x ne is false test = placed.bytes q r x (same q r ne ∙ is) (grind (arith, nat_tests))

    by_space : (q r : ℕ) → q ≢ d → (c : Bool) → (q == d) ≡ c → ((c && (r == p / NPTENTRIES)) || is_some (s.regions q r)) ≡ is_some (s.regions q r)
    by_space q r ne true test = absurd (ne (grind (arith, nat_tests)))
    by_space q r ne false test = refl

-- and where one is removed
pub removed_others : {s t : SpacesState} {d p : ℕ} → Removed s t d p → OthersKept s t d
removed_others {s = s} {t = t} {d = d} {p = p} removed = record {
  rows = λ q ne. λ i r. same q r ne i;
  bytes = λ q r x ne is. removed.bytes q r x (same q r ne ∙ is);
  regions = λ q r ne. removed.regions q r;
}
  where
    same : (q r : ℕ) → q ≢ d → rows_of t q r ≡ rows_of s q r
    same q r ne = (λ i. removed.rows i q r) ∙ put-other (rows_of s) d p None q r (λ is. absurd (ne is))

-- nothing that is seen of them differs
pub others_alike : {s t : SpacesState} {d : ℕ} (names : Names) → OthersKept s t d → (q : ℕ) → q ≢ d → SeenAlike names names s t q
others_alike names kept q ne = record {
  rows = kept.rows q ne;
  bytes = λ r x is own_page. kept.bytes q r x ne is;
  named_so = λ r x is shared_page. refl;
  devices = λ r x descriptor is shared_page. ap lasting_words (kept.bytes q r x ne is);
  pipes = λ r x pipes is shared_page. kept.bytes q r x ne is;
  regions = λ r. kept.regions q r ne;
}

-- ---- its own space

-- they are the same page, or neither is one that a client may have
abbrev pub AreAlike : ℕ → ℕ → Type 0
AreAlike r q = (r ≡ q) ⊎ (IsPlainPage r × IsPlainPage q)

-- A page of this space had the frame of one, or no page had it; or it is that of a request, whose frame the page of a client at UTEMP has, and
-- here none but that of a request.
pub data HadOrNew (s : SpacesState) (d q f : ℕ) (rows : Rows) : Type 0 where
  had : (r : ℕ) (y : Entry) → rows_of s d r ≡ Some y → y.frame ≡ f → AreAlike r q → HadOrNew s d q f rows
  new : ((o r : ℕ) (x : Entry) → rows_of s o r ≡ Some x → x.frame ≢ f) → HadOrNew s d q f rows
  lent : q ≡ page_number REQUEST → ((n p : ℕ) (x : Entry) → rows n p ≡ Some x → x.frame ≡ f → MayBeHad true p x) →
      ((r : ℕ) (y : Entry) → rows_of s d r ≡ Some y → y.frame ≡ f → r ≡ page_number REQUEST) → HadOrNew s d q f rows

-- what stands in the frame of a place's page is that page
abbrev pub PlacesAlone : SpacesState → ℕ → Type 0
PlacesAlone s d = (j q : ℕ) (x y : Entry) → j < MAXOPEN → rows_of s d (place_page j) ≡ Some x → rows_of s d q ≡ Some y → x.frame ≡ y.frame →
    q ≡ place_page j

-- an entry of this frame stands there
abbrev pub StandsIn : SpacesState → ℕ → ℕ → ℕ → Type 0
StandsIn t d q f = (y : Entry) × (rows_of t d q ≡ Some y) × (y.frame ≡ f)

-- What stands in it, and in which frames: and of places the pages that anybody has.
pub record OwnKept (s t : SpacesState) (d : ℕ) (opened : ℕ → TablePlace) (blocks : ℕ) (rows : Rows) : Type 0 where
  pub pages : (p : ℕ) → is_some (rows_of t d p) ≡ true → is_servers_page opened blocks p ≡ true
  pub tables : (r : ℕ) → is_some (t.regions d r) ≡ true → is_servers_region r ≡ true
  pub frames : (p : ℕ) (e : Entry) → rows_of t d p ≡ Some e → HadOrNew s d p e.frame rows
  pub alone : PlacesAlone t d
  pub places : (j : ℕ) (x : Entry) → j < MAXOPEN → rows_of s d (place_page j) ≡ Some x → IsPrivate rows x.frame ⊎ StandsIn t d (place_page j) x.frame

module _ {s t : SpacesState} {k : Slot} {opened : ℕ → TablePlace} {blocks : ℕ} {server : Server} {rows : Rows}
    (h : HasServer s k opened blocks server) where
  -- its entries are what they were
  pub same_own : rows_of t k.directory ≡ rows_of s k.directory →
      ((r : ℕ) → is_some (t.regions k.directory r) ≡ is_some (s.regions k.directory r)) → OwnKept s t k.directory opened blocks rows
  same_own same regions = record {
    pages = λ p is. h.pages p ((λ i. is_some (sym same i p)) ∙ is);
    tables = λ r is. h.tables r (sym (regions r) ∙ is);
    frames = λ p e is. had p e ((λ i. sym same i p) ∙ is) refl (inl refl);
    alone = λ j q x y below at there. h.alone j q x y below ((λ i. sym same i (place_page j)) ∙ at) ((λ i. sym same i q) ∙ there);
    places = λ j x below is. inr (x, (λ i. same i (place_page j)) ∙ is, refl);
  }

  -- A page is put there that it may have: in the place of a page that a client has, one of the same frame.
  pub placed_own : (p : ℕ) (e : Entry) → Placed s t k.directory p e → HadOrNew s k.directory p e.frame rows →
      (IsPlacePage p → (z : Entry) → rows_of s k.directory p ≡ Some z → IsPrivate rows z.frame ⊎ (z.frame ≡ e.frame)) →
      is_servers_page opened blocks p ≡ true → is_servers_region (p / NPTENTRIES) ≡ true → OwnKept s t k.directory opened blocks rows
  placed_own p e placed from left page region = record {
    pages = λ q is. by_entry q (rows_of t k.directory q) refl is;
    tables = λ r is. by_region r (k.directory == k.directory) (r == p / NPTENTRIES) refl (sym (placed.regions k.directory r) ∙ is);
    frames = λ q x is. elim (found q x is) [
      | inl here ↦ from_here q x here from
      | inr there ↦ had q x there refl (inl refl)
    ];
    alone = λ j q x y below at there same. by_found j q x y below same (found (place_page j) x at) (found q y there);
    places = λ j x below is. by_place j x below is (place_page j == p) refl;
  }
    where
      IsHere : ℕ → Entry → Type 0
      IsHere q x = (k.directory ≡ k.directory) × (q ≡ p) × (x ≡ e)

      found : (q : ℕ) (x : Entry) → rows_of t k.directory q ≡ Some x → IsHere q x ⊎ (rows_of s k.directory q ≡ Some x)
      found q x is = put-some (rows_of s) k.directory p e x k.directory q ((λ i. sym placed.rows i k.directory q) ∙ is)

      from_here : (q : ℕ) (x : Entry) → IsHere q x → HadOrNew s k.directory p e.frame rows → HadOrNew s k.directory q x.frame rows
      from_here q x here it =
          subst (λ (r : ℕ). HadOrNew s k.directory r x.frame rows) (sym here.1)
          (subst (λ (y : Entry). HadOrNew s k.directory p y.frame rows) (sym here.2) it)

      by_entry : (q : ℕ) (o : Option Entry) → rows_of t k.directory q ≡ o → is_some o ≡ true → is_servers_page opened blocks q ≡ true
      by_entry q None at none = absurd (let contradiction : false ≡ true = none in cc)
      by_entry q (Some x) at some = elim (found q x at) [
        | inl here ↦ ap (λ (n : ℕ). is_servers_page opened blocks n) here.1 ∙ page
        | inr there ↦ h.pages q (ap is_some there)
      ]

      by_region : (r : ℕ) (home here : Bool) → (r == p / NPTENTRIES) ≡ here → ((home && here) || is_some (s.regions k.directory r)) ≡ true →
          is_servers_region r ≡ true
      by_region r true true test is =
          let same : r ≡ p / NPTENTRIES = grind (arith, nat_tests) in ap (λ (n : ℕ). is_servers_region n) same ∙ region
      by_region r true false test is = h.tables r is
      by_region r false here test is = h.tables r is

      no_request : (j : ℕ) → j < MAXOPEN → place_page j ≡ page_number REQUEST → ⊥
      no_request j below is = omega (arith, below, is)

      -- the page that is put is a place's
      placed_alone : (j q : ℕ) (y : Entry) → j < MAXOPEN → p ≡ place_page j → rows_of s k.directory q ≡ Some y → e.frame ≡ y.frame →
          HadOrNew s k.directory p e.frame rows → q ≡ place_page j
      placed_alone j q y below at stands same (new none) = absurd (none k.directory q y stands (sym same))
      placed_alone j q y below at stands same (had r z there frame (inl is)) =
          h.alone j q z y below (ap (rows_of s k.directory) (sym (is ∙ at)) ∙ there) stands (frame ∙ same)
      placed_alone j q y below at stands same (had r z there frame (inr plain)) = absurd (plain.1.no_place (j, below, at))
      placed_alone j q y below at stands same (lent is may none) = absurd (no_request j below (sym at ∙ is))

      -- a place's page stands beside it
      beside_alone : (j : ℕ) (x : Entry) → j < MAXOPEN → rows_of s k.directory (place_page j) ≡ Some x → x.frame ≡ e.frame →
          HadOrNew s k.directory p e.frame rows → p ≡ place_page j
      beside_alone j x below stands same (new none) = absurd (none k.directory (place_page j) x stands same)
      beside_alone j x below stands same (had r z there frame (inl is)) =
          sym is ∙ h.alone j r x z below stands there (same ∙ sym frame)
      beside_alone j x below stands same (had r z there frame (inr plain)) =
          absurd (plain.0.no_place (j, below, h.alone j r x z below stands there (same ∙ sym frame)))
      beside_alone j x below stands same (lent is may none) = absurd (no_request j below (none (place_page j) x stands same))

      by_found : (j q : ℕ) (x y : Entry) → j < MAXOPEN → x.frame ≡ y.frame →
          IsHere (place_page j) x ⊎ (rows_of s k.directory (place_page j) ≡ Some x) → IsHere q y ⊎ (rows_of s k.directory q ≡ Some y) →
          q ≡ place_page j
      by_found j q x y below same (inl here) (inl too) = too.1 ∙ sym here.1
      by_found j q x y below same (inl here) (inr there) =
          placed_alone j q y below (sym here.1) there (sym (ap (λ (z : Entry). z.frame) here.2) ∙ same) from
      by_found j q x y below same (inr stands) (inl too) =
          too.1 ∙ beside_alone j x below stands (same ∙ ap (λ (z : Entry). z.frame) too.2) from
      by_found j q x y below same (inr stands) (inr there) = h.alone j q x y below stands there same

      by_place : (j : ℕ) (x : Entry) → j < MAXOPEN → rows_of s k.directory (place_page j) ≡ Some x → (c : Bool) → (place_page j == p) ≡ c →
          IsPrivate rows x.frame ⊎ StandsIn t k.directory (place_page j) x.frame
      by_place j x below is true test =
          let here : p ≡ place_page j = grind (arith, nat_tests) in
          elim (left (j, below, here) x (ap (rows_of s k.directory) here ∙ is)) [
            | inl private ↦ inl private
            | inr same ↦ inr (
              e,
              ap (rows_of t k.directory) (sym here) ∙ (λ i. placed.rows i k.directory p) ∙ put-at (rows_of s) k.directory p (Some e),
              sym same,
            )
          ]
      by_place j x below is false test =
          let other : place_page j ≢ p = grind (arith, nat_tests) in
          inr (
            x,
            (λ i. placed.rows i k.directory (place_page j))
                ∙ put-other (rows_of s) k.directory p (Some e) k.directory (place_page j) (λ same. other) ∙ is,
            refl,
          )

  -- A page is removed, but none of a place that a client has.
  pub removed_own : (p : ℕ) → Removed s t k.directory p →
      (IsPlacePage p → (z : Entry) → rows_of s k.directory p ≡ Some z → IsPrivate rows z.frame) → OwnKept s t k.directory opened blocks rows
  removed_own p removed left = record {
    pages = λ q is. by_entry q (rows_of t k.directory q) refl is;
    tables = λ r is. h.tables r (sym (removed.regions k.directory r) ∙ is);
    frames = λ q x is. had q x (stood q x is) refl (inl refl);
    alone = λ j q x y below at there same. h.alone j q x y below (stood (place_page j) x at) (stood q y there) same;
    places = λ j x below is. by_place j x below is (place_page j == p) refl;
  }
    where
      stood : (q : ℕ) (x : Entry) → rows_of t k.directory q ≡ Some x → rows_of s k.directory q ≡ Some x
      stood q x is = put-none (rows_of s) k.directory p x k.directory q ((λ i. sym removed.rows i k.directory q) ∙ is)

      by_entry : (q : ℕ) (o : Option Entry) → rows_of t k.directory q ≡ o → is_some o ≡ true → is_servers_page opened blocks q ≡ true
      by_entry q None at none = absurd (let contradiction : false ≡ true = none in cc)
      by_entry q (Some x) at some = h.pages q (ap is_some (stood q x at))

      by_place : (j : ℕ) (x : Entry) → j < MAXOPEN → rows_of s k.directory (place_page j) ≡ Some x → (c : Bool) → (place_page j == p) ≡ c →
          IsPrivate rows x.frame ⊎ StandsIn t k.directory (place_page j) x.frame
      by_place j x below is true test =
          let here : p ≡ place_page j = grind (arith, nat_tests) in inl (left (j, below, here) x (ap (rows_of s k.directory) here ∙ is))
      by_place j x below is false test =
          let other : place_page j ≢ p = grind (arith, nat_tests) in
          inr (
            x,
            (λ i. removed.rows i k.directory (place_page j))
                ∙ put-other (rows_of s) k.directory p None k.directory (place_page j) (λ same. other) ∙ is,
            refl,
          )

-- ---- its status

-- It does what it did, where it runs or waits as it did.
pub status_kept : (server : Server) (k after : Slot) → after.status ≡ k.status → after.rendezvous ≡ k.rendezvous →
    IsServerStatus server k → IsServerStatus server after
status_kept server k after status same is = by_server server is
  where
    runs : IsStatusFor k.status false × (k.rendezvous.receiving ≡ false) → IsStatusFor after.status false × (after.rendezvous.receiving ≡ false)
    runs so = (subst (λ z. IsStatusFor z false) (sym status) so.0, ap (λ (r : Rendezvous). r.receiving) same ∙ so.1)

    by_server : (x : Server) → IsServerStatus x k → IsServerStatus x after
    by_server idle so = record {
      status = status ∙ so.status;
      receiving = ap (λ (r : Rendezvous). r.receiving) same ∙ so.receiving;
      anybody = ap (λ (r : Rendezvous). r.wanted) same ∙ so.anybody;
      destination = ap (λ (r : Rendezvous). r.destination) same ∙ so.destination;
    }
    by_server leaving so = runs so
    by_server (looking client request number) so = runs so
    by_server (busy client request place) so = runs so
    by_server (acted client answer bytes object) so = runs so

-- ---- the space is another

serves_none : (k : Slot) (slot : AbstractSlot) (id : ℕ) → slot ≡ serving id → BearsNone k slot
serves_none k slot id is = record {
  bears = λ b at. let contradiction : serving id ≡ born b = sym is ∙ at in absurd cc;
  no_child = λ child parent at. let contradiction : serving id ≡ unborn child parent = sym is ∙ at in absurd cc;
}

-- a client's entries count
client_counts : (m : ℕ) (k : Slot) → m ≢ 0 → is_live_slot k ≡ true → is_clients m k ≡ true
client_counts m k ne lives = by_test (m == 0) refl
  where
    by_test : (c : Bool) → (m == 0) ≡ c → (not c && is_live_slot k) ≡ true
    by_test true test = absurd (ne (grind (arith, nat_tests)))
    by_test false test = lives

pub running_lives : (k : Slot) → is_running k.status ≡ true → is_live_slot k ≡ true
running_lives k runs = by_status k.status runs
  where
    by_status : (status : Status) → is_running status ≡ true → not (is_free status) ≡ true
    by_status Running is = refl
    by_status _ is = absurd (let contradiction : false ≡ true = is in cc)

-- and where it is on a pipe they count as they stand
piped_counts : (at : Place) (row : EntryRow) (p : ℕ) → is_piped at ≡ true → counted at row p ≡ row p
unfolding counted
piped_counts (place.InService s (step.Piped at)) row p piped = by_service s piped
  where
    by_service : (s : Service) → moves_bytes s ≡ true → counted (place.InService s (step.Piped at)) row p ≡ row p
    by_service (service.Read fd va len) moves = refl
    by_service (service.Write fd va len) moves = refl
    by_service _ moves = absurd (let contradiction : false ≡ true = moves in cc)
piped_counts _ row p piped = absurd (let contradiction : false ≡ true = piped in cc)

module _ {names : Names} {s : KernelState} {a : AbstractState} (h : StandsFor names s a) where
  -- its slot
  pub first_slot : StandsForServer (slot_at s 0) FIRST_ENV_ID
  first_slot = subst (λ (slot : AbstractSlot). StandsForSlot names s.spaces (slot_at s 0) slot) h.first (h.slots 0)

  -- each other live slot has another space
  clients_space : (m : ℕ) → m ≢ 0 → is_live_slot (slot_at s m) ≡ true → (slot_at s m).directory ≢ (slot_at s 0).directory
  clients_space m ne lives same = ne (h.in_order.spaces.apart m 0 lives first_slot.lives same)

  abbrev home : ℕ
  home = (slot_at s 0).directory

  -- A shared frame of a client's, in which the file server has no page, is mapped as often.
  abbrev pub ApartCounts : SpacesState → ℕ → Type 0
  ApartCounts sp m = (p : ℕ) (x : Entry) → rows_of s.spaces (slot_at s m).directory p ≡ Some x → logical s.spaces s.environments.slots m p ≡ Some x →
      is_shared x.perm ≡ true → ((q : ℕ) (e : Entry) → rows_of s.spaces (slot_at s 0).directory q ≡ Some e → e.frame ≢ x.frame) →
      reference_count sp x.frame ≡ reference_count s.spaces x.frame

  -- Then so are its pages of ends and pipes: the file server has none of their frames.
  module _ (sp : SpacesState) (m : ℕ) (ne : m ≢ 0) (counted_apart : ApartCounts sp m) where
    -- a page of an end, or of a pipe
    module _ (b : Born) (at : a.slots m ≡ born b) (piped : is_piped (place_of (slot_at s m)) ≡ true) where
      mine : StandsForBorn names s.spaces (slot_at s m) b
      mine = born_at h m b at

      lives : is_live_slot (slot_at s m) ≡ true
      lives = born_live mine

      row_counts : (p : ℕ) (x : Entry) → rows_of s.spaces (slot_at s m).directory p ≡ Some x → logical s.spaces s.environments.slots m p ≡ Some x
      row_counts p x is =
          let row = rows_of s.spaces (slot_at s m).directory in
          ap (λ (c : Bool). logical_by c (counted (place_of (slot_at s m)) row) p) (client_counts m (slot_at s m) ne lives)
          ∙ piped_counts (place_of (slot_at s m)) row p piped ∙ is

      of_apart : (p : ℕ) (x : Entry) → is_of_descriptor p ≡ true → rows_of s.spaces (slot_at s m).directory p ≡ Some x →
          (is_pipe_page p ≡ true) ⊎ ((is_pipe_page p ≡ false) × (device_of (s.spaces.pages x.frame) ≡ DEVICE_PIPE)) →
          reference_count sp x.frame ≡ reference_count s.spaces x.frame
      of_apart p x descriptor is kind =
          counted_apart p x is (row_counts p x is) shared_page (by_kind kind)
        where
          shared_page : is_shared x.perm ≡ true
          shared_page = ap is_shared (mine.library.descriptors p x descriptor is)

          bytes : List ℕ
          bytes = s.spaces.pages x.frame

          things : Things
          things = things_in s a

          named_so : IsNamed names s.spaces.pages a.shared things a.next_name p x.frame
          named_so = h.named m p x (row_counts p x is) shared_page

          name : ℕ
          name = names.name x.frame

          tells : (c : Bool) → names.is_pipe name ≡ c → HasThing things name x.frame c bytes
          tells c is_so =
              subst (λ (t : Bool). HasThing things name x.frame t bytes) is_so
              (subst (λ (t : Bool). ShowsBy things name x.frame t (names.is_pipe name) (a.shared name) bytes) (named_so.kind ∙ descriptor) named_so.shows)

          by_object : (object : Object) → device_of bytes ≡ DEVICE_PIPE → HasObject things name x.frame object bytes →
              (q : ℕ) (e : Entry) → rows_of s.spaces home q ≡ Some e → e.frame ≢ x.frame
          by_object terminal device its = absurd (let other = its.device in omega (arith, device, other))
          by_object (file f) device its = absurd (let other = its.device in omega (arith, device, other))
          by_object (read_end pipe) device its = its.apart
          by_object (write_end pipe) device its = its.apart

          by_kind : (is_pipe_page p ≡ true) ⊎ ((is_pipe_page p ≡ false) × (device_of bytes ≡ DEVICE_PIPE)) →
              (q : ℕ) (e : Entry) → rows_of s.spaces home q ≡ Some e → e.frame ≢ x.frame
          by_kind (inl pipes) = (tells true (named_so.of_pipe ∙ pipes)).apart
          by_kind (inr ends) = by_object (a.objects name) ends.1 (tells false (named_so.of_pipe ∙ ends.0))

      born_counts : SameCounts (view_of s.spaces (slot_at s m).directory) (view_of sp (slot_at s m).directory)
      born_counts fd x y below is lies device = (
        of_apart (descriptor_page fd) x (grind (arith, nat_tests)) is (inr (grind (arith, nat_tests), device)),
        of_apart (pipe_page fd) y (grind (arith, nat_tests)) lies (inl (grind (arith, nat_tests))),
      )

    pub ends_counts : CountsKept s.spaces sp (slot_at s m)
    ends_counts piped runs = by_slot (a.slots m) refl (h.slots m)
      where
        by_slot : (slot : AbstractSlot) → a.slots m ≡ slot → StandsForSlot names s.spaces (slot_at s m) (a.slots m) →
            SameCounts (view_of s.spaces (slot_at s m).directory) (view_of sp (slot_at s m).directory)
        by_slot (free id) at so =
            let it : slot_at s m ≡ free_slot id = subst (λ (slot : AbstractSlot). StandsForSlot names s.spaces (slot_at s m) slot) at so in
            absurd (let contradiction : true ≡ false = sym runs ∙ ap (λ (k : Slot). is_running k.status) it in cc)
        by_slot (unborn id parent) at so =
            let it : StandsForUnborn (slot_at s m) id parent = subst (λ (slot : AbstractSlot). StandsForSlot names s.spaces (slot_at s m) slot) at so in
            absurd (let contradiction : true ≡ false = sym runs ∙ ap (λ (status : Status). is_running status) it.status in cc)
        by_slot (serving id) at so =
            let it : StandsForServer (slot_at s m) id = subst (λ (slot : AbstractSlot). StandsForSlot names s.spaces (slot_at s m) slot) at so in
            absurd (let contradiction : true ≡ false = sym piped ∙ ap is_piped (in_no_service (slot_at s m).registers (slot_at s m).extra it.stack it.words) in cc)
        by_slot (born b) at so = born_counts b at piped

  -- So it is whatever becomes of the file server's space.
  module _ (sp : SpacesState) (others : OthersKept s.spaces sp (slot_at s 0).directory)
      (own : OwnKept s.spaces sp (slot_at s 0).directory a.opened a.files.blocks (logical s.spaces s.environments.slots))
      (in_order : HasOneUse sp) where
    module _ (m p : ℕ) (x : Entry) (other : (slot_at s m).directory ≢ home) (is : rows_of s.spaces (slot_at s m).directory p ≡ Some x)
        (counts : logical s.spaces s.environments.slots m p ≡ Some x) (shared_page : is_shared x.perm ≡ true)
        (apart : (q : ℕ) (e : Entry) → rows_of s.spaces home q ≡ Some e → e.frame ≢ x.frame) where
      apart_after : (q : ℕ) (e : Entry) → rows_of sp home q ≡ Some e → e.frame ≢ x.frame
      apart_after q e there same = by_frame (own.frames q e there)
        where
          by_frame : HadOrNew s.spaces home q e.frame (logical s.spaces s.environments.slots) → ⊥
          by_frame (had r y stands frame alike) = apart r y stands (frame ∙ same)
          by_frame (new none) = none (slot_at s m).directory p x is (sym same)
          by_frame (lent at may none) = let contradiction : true ≡ false = sym shared_page ∙ (may m p x counts (sym same)).1 in cc

      named_never : (o : Option Entry) → ((e : Entry) → o ≡ Some e → e.frame ≢ x.frame) → named x.frame o ≡ 0
      named_never None none = refl
      named_never (Some e) none = elim (named_is x.frame e) [
        | inl here ↦ absurd (none e refl (sym here.0))
        | inr off ↦ off.1
      ]

      entry_same : (d q : ℕ) → named x.frame (sp.entries d q) ≡ named x.frame (s.spaces.entries d q)
      unfolding rows_of
      entry_same d q =
          lasting_named x.frame (sp.entries d q) ∙ by_space (d == home) refl ∙ sym (lasting_named x.frame (s.spaces.entries d q))
        where
          by_space : (c : Bool) → (d == home) ≡ c → named x.frame (rows_of sp d q) ≡ named x.frame (rows_of s.spaces d q)
          by_space true test =
              let here : d ≡ home = grind (arith, nat_tests) in
              named_never (rows_of sp d q) (λ e at. apart_after q e (ap (λ (z : ℕ). rows_of sp z q) (sym here) ∙ at))
              ∙ sym (named_never (rows_of s.spaces d q) (λ e at. apart q e (ap (λ (z : ℕ). rows_of s.spaces z q) (sym here) ∙ at)))
          by_space false test = ap (λ (r : EntryRow). named x.frame (r q)) (others.rows d (grind (arith, nat_tests)))

      mapped_as_often : reference_count sp x.frame ≡ reference_count s.spaces x.frame
      mapped_as_often = λ i. page_count-same sp.entries s.spaces.entries x.frame entry_same i + own_so i
        where
          own_so : own_count (sp.uses x.frame) ≡ own_count (s.spaces.uses x.frame)
          own_so =
              page_own in_order (slot_at s m).directory p x (ap (λ (r : EntryRow). r p) (others.rows (slot_at s m).directory other) ∙ is)
              ∙ sym (page_own h.in_order.frames (slot_at s m).directory p x is)

    pub servers_counts : (m : ℕ) → m ≢ 0 → CountsKept s.spaces sp (slot_at s m)
    servers_counts m ne piped runs =
        ends_counts sp m ne (λ p x is counts shared_page apart.
        mapped_as_often m p x (clients_space m ne (running_lives (slot_at s m) runs)) is counts shared_page apart) piped runs

  module _ (sp : SpacesState) (others : OthersKept s.spaces sp (slot_at s 0).directory)
      (own : OwnKept s.spaces sp (slot_at s 0).directory a.opened a.files.blocks (logical s.spaces s.environments.slots))
      (mapped : (m : ℕ) → m ≢ 0 → CountsKept s.spaces sp (slot_at s m)) where
    slots_stand : (m : ℕ) → StandsForSlot names sp (slot_at s m) (a.slots m)
    slots_stand m = by_slot (m == 0) refl
      where
        by_slot : (c : Bool) → (m == 0) ≡ c → StandsForSlot names sp (slot_at s m) (a.slots m)
        by_slot true test =
            let first : m ≡ 0 = grind (arith, nat_tests) in
            subst (λ (k : ℕ). StandsForSlot names sp (slot_at s k) (a.slots k)) (sym first)
            (subst (λ (slot : AbstractSlot). StandsForSlot names sp (slot_at s 0) slot) (sym h.first) first_slot)
        by_slot false test =
            let other : m ≢ 0 = grind (arith, nat_tests) in
            slot_stands names names s.spaces sp (slot_at s m) (a.slots m) (h.slots m)
            (λ live. others_alike names others (slot_at s m).directory (clients_space m other (live_stands h m ∙ live))) (mapped m other)

    ends_stand : (m : ℕ) → EndsStandAt names a.objects (place_of (slot_at s m)) (rows_of sp (slot_at s m).directory) (a.slots m)
    ends_stand m = by_slot (m == 0) refl
      where
        by_slot : (c : Bool) → (m == 0) ≡ c → EndsStandAt names a.objects (place_of (slot_at s m)) (rows_of sp (slot_at s m).directory) (a.slots m)
        by_slot true test =
            let first : m ≡ 0 = grind (arith, nat_tests) in
            subst (λ (slot : AbstractSlot). EndsStandAt names a.objects (place_of (slot_at s m)) (rows_of sp (slot_at s m).directory) slot)
            (sym (ap a.slots first ∙ h.first)) tt
        by_slot false test =
            let other : m ≢ 0 = grind (arith, nat_tests) in
            ends_stay names names s.spaces sp a.objects (slot_at s m) (a.slots m) (h.slots m)
            (λ live. but_pipes (others_alike names others (slot_at s m).directory (clients_space m other (live_stands h m ∙ live)))) (h.ends m)

    -- entries count as they did
    same_counts : (n p : ℕ) → logical sp s.environments.slots n p ≡ logical s.spaces s.environments.slots n p
    same_counts n p = by_slot (n == 0) refl
      where
        by_slot : (c : Bool) → (n == 0) ≡ c → logical sp s.environments.slots n p ≡ logical s.spaces s.environments.slots n p
        by_slot true test =
            let first : n ≡ 0 = grind (arith, nat_tests) in
            subst (λ (m : ℕ). logical sp s.environments.slots m p ≡ logical s.spaces s.environments.slots m p) (sym first) refl
        by_slot false test =
            let other : n ≢ 0 = grind (arith, nat_tests) in
            logical_alike s.spaces sp s.environments.slots s.environments.slots n refl refl
            (λ live. others.rows (slot_at s n).directory (clients_space n other live)) p

    -- their frames keep their bytes
    same_bytes : (n p : ℕ) (x : Entry) → logical sp s.environments.slots n p ≡ Some x → sp.pages x.frame ≡ s.spaces.pages x.frame
    same_bytes n p x is =
        let found = logical_of s.spaces s.environments.slots n p x (sym (same_counts n p) ∙ is) in
        let client = clients_are n (slot_at s n) found.0 in
        subst (λ (f : ℕ). sp.pages f ≡ s.spaces.pages f) found.1.frame
        (others.bytes (slot_at s n).directory p found.1.entry (clients_space n (λ zero. client.0 (sym zero)) client.1) found.1.stands)

    -- clients' entries stand beside its pages as they did
    had_alike : (p : ℕ) (x : Entry) (r q : ℕ) → AreAlike r q → MayBeHad (r == page_number REQUEST) p x → MayBeHad (q == page_number REQUEST) p x
    had_alike p x r q (inl is) may = subst (λ (m : ℕ). MayBeHad (m == page_number REQUEST) p x) is may
    had_alike p x r q (inr plain) may = subst (λ (c : Bool). MayBeHad c p x) (plain.0.no_request ∙ sym plain.1.no_request) may

    still_beside : (n p q : ℕ) (x e : Entry) → logical sp s.environments.slots n p ≡ Some x → rows_of sp (slot_at s 0).directory q ≡ Some e →
        x.frame ≡ e.frame → MayBeHad (q == page_number REQUEST) p x
    still_beside n p q x e is stands same = by_frame (own.frames q e stands)
      where
        counts : logical s.spaces s.environments.slots n p ≡ Some x
        counts = sym (same_counts n p) ∙ is

        by_frame : HadOrNew s.spaces (slot_at s 0).directory q e.frame (logical s.spaces s.environments.slots) → MayBeHad (q == page_number REQUEST) p x
        by_frame (had r y there frame alike) = had_alike p x r q alike (h.beside n p r x y counts there (same ∙ sym frame))
        by_frame (new none) =
            let found = logical_of s.spaces s.environments.slots n p x counts in
            absurd (none (slot_at s n).directory p found.1.entry found.1.stands (found.1.frame ∙ same))
        by_frame (lent at may none) =
            let test : (q == page_number REQUEST) ≡ true = grind (arith, nat_tests, at) in
            subst (λ (c : Bool). MayBeHad c p x) (sym test) (may n p x counts same)

    -- no page of the server's has this frame
    abbrev IsApart : KernelState → ℕ → Type 0
    IsApart s f = (q : ℕ) (e : Entry) → server_row s.spaces s.environments.slots q ≡ Some e → e.frame ≢ f

    -- and what is shown of a client's entry, its own pages show
    still_shown : (n p : ℕ) (x : Entry) → logical s.spaces s.environments.slots n p ≡ Some x → is_shared x.perm ≡ true → (name : ℕ) (object is_pipe : Bool) (page bytes : List ℕ) →
        ShowsBy (things_in s a) name x.frame object is_pipe page bytes → ShowsBy (things_in (with_spaces s sp) a) name x.frame object is_pipe page bytes
    still_shown n p x counts shared_page name false is_pipe page bytes is = is
    still_shown n p x counts shared_page name true is_pipe page bytes is = by_kind is_pipe is
      where
        none_has : (q : ℕ) (e : Entry) → HadOrNew s.spaces (slot_at s 0).directory q e.frame (logical s.spaces s.environments.slots) →
            IsApart s x.frame → e.frame ≢ x.frame
        none_has q e (had r y there frame alike) apart same = apart r y there (frame ∙ same)
        none_has q e (new none) apart same =
            let found = logical_of s.spaces s.environments.slots n p x counts in
            none (slot_at s n).directory p found.1.entry found.1.stands (found.1.frame ∙ sym same)
        none_has q e (lent at may none) apart same =
            let contradiction : true ≡ false = sym shared_page ∙ (may n p x counts (sym same)).1 in cc

        by_place : (f : OpenFile) → (is : IsOpenFile (things_in s a) name x.frame f bytes) →
            IsPrivate (logical s.spaces s.environments.slots) is.entry.frame
            ⊎ StandsIn sp (slot_at s 0).directory (place_page (number_of bytes)) is.entry.frame →
            IsOpenFile (things_in (with_spaces s sp) a) name x.frame f bytes
        by_place f is (inl private) = absurd (private n p x counts (sym is.same))
        by_place f is (inr stands) = file_beside is is.held stands.0 stands.1 (stands.2 ∙ is.same)

        by_end : (pipe mode : ℕ) → IsEnd (things_in s a) name pipe x.frame mode bytes → IsEnd (things_in (with_spaces s sp) a) name pipe x.frame mode bytes
        by_end pipe mode its = record {
          numbered = its.numbered;
          device = its.device;
          mode_is = its.mode_is;
          apart = λ q e there. none_has q e (own.frames q e there) its.apart;
        }

        by_object : (o : Object) → HasObject (things_in s a) name x.frame o bytes → HasObject (things_in (with_spaces s sp) a) name x.frame o bytes
        by_object terminal console = record { device = console.device; apart = λ q e there. none_has q e (own.frames q e there) console.apart }
        by_object (file f) its = by_place f its (own.places (number_of bytes) its.entry its.below its.stands)
        by_object (read_end pipe) its = by_end pipe 0 its
        by_object (write_end pipe) its = by_end pipe 1 its

        by_kind : (is_pipe : Bool) → HasThing (things_in s a) name x.frame is_pipe bytes → HasThing (things_in (with_spaces s sp) a) name x.frame is_pipe bytes
        by_kind false its = by_object (a.objects name) its
        by_kind true its = record { holds = its.holds; few = its.few; apart = λ q e there. none_has q e (own.frames q e there) its.apart }

    -- The spaces are others, of which only the server's is seen to change.
    pub server_space : IsInOrder (with_spaces s sp) → StandsFor names (with_spaces s sp) a
    server_space in_order =
        let rows = rows_bytes sp.pages same_bytes
        (rows_same (logical s.spaces s.environments.slots) (logical sp s.environments.slots) same_counts (rows_stand h)) in
        record {
          slots = slots_stand;
          children = children_kept h.children 0 (λ m ne. refl) (λ m ne. refl)
              (λ m ne live. others_alike names others (slot_at s m).directory (clients_space m ne (live_stands h m ∙ live)))
              (serves_none (slot_at s 0) (a.slots 0) FIRST_ENV_ID h.first) (serves_none (slot_at s 0) (a.slots 0) FIRST_ENV_ID h.first);
          apart = rows.apart;
          named = λ n p x is shared_page.
              let was = rows.named n p x is shared_page in
              let name = names.name x.frame in
              record {
                home = was.home;
                kind = was.kind;
                of_pipe = was.of_pipe;
                shows = still_shown n p x (sym (same_counts n p) ∙ is) shared_page name (names.is_object name) (names.is_pipe name) (a.shared name)
                    (sp.pages x.frame) was.shows;
                old = was.old;
              };
          users = rows.users;
          whole = rows.whole;
          beside = still_beside;
          ends = ends_stand;
          locks = locks_same (λ m. refl) (λ m p is. same_counts m p) (λ m p x is stands shared_page. same_bytes m p x (same_counts m p ∙ stands)) h.locks;
          runs = h.runs;
          old = h.old;
          free_slots = h.free_slots;
          first = h.first;
          server = record { status = h.server.status; pages = own.pages; tables = own.tables; alone = own.alone };
          input = h.input;
          last = h.last;
          turns = h.turns;
          tabled = h.tabled;
          in_order = in_order;
        }

    -- And its slot is another, in the same space.
    pub server_moves : (k : Slot) (server : Server) → k.directory ≡ (slot_at s 0).directory → Settles (slot_at s 0) k →
        StandsForServer k FIRST_ENV_ID → IsServerStatus server k → IsInOrder (with_slot_at (with_spaces s sp) 0 k) →
        StandsFor names (with_slot_at (with_spaces s sp) 0 k) (record a { server = server })
    server_moves k server directory settles so status in_order =
        let order = slot_was_in_order (with_spaces s sp) 0 k (so.lives ∙ sym first_slot.lives) directory in_order in
        server_set (server_space order) k server directory settles so (record {
          status = status;
          pages = λ p is. own.pages p (ap (λ (d : ℕ). is_some (rows_of sp d p)) (sym directory) ∙ is);
          tables = λ r is. own.tables r (ap (λ (d : ℕ). is_some (sp.regions d r)) (sym directory) ∙ is);
          alone = subst (λ (d : ℕ). PlacesAlone sp d) (sym directory) own.alone;
        })

  -- ---- its slot is another

  -- It runs or waits as it did.
  pub server_slot : (k : Slot) → k.directory ≡ (slot_at s 0).directory → k.status ≡ (slot_at s 0).status →
      k.rendezvous ≡ (slot_at s 0).rendezvous → Settles (slot_at s 0) k → StandsForServer k FIRST_ENV_ID →
      StandsFor names (with_slot_at s 0 k) a
  server_slot k directory status silent settles so =
      server_set h k a.server directory settles so (record {
        status = status_kept a.server (slot_at s 0) k status silent h.server.status;
        pages = λ p is. h.server.pages p (ap (λ (d : ℕ). is_some (rows_of s.spaces d p)) (sym directory) ∙ is);
        tables = λ r is. h.server.tables r (ap (λ (d : ℕ). is_some (s.spaces.regions d r)) (sym directory) ∙ is);
        alone = subst (λ (d : ℕ). PlacesAlone s.spaces d) (sym directory) h.server.alone;
      })

  -- Its registers and words are set.
  pub words_stand : (after : KernelState) → SetsWords s after 0 → length (slot_at s 0).extra ≡ 12 → StandsFor names after a
  words_stand after sets twelve =
      subst (λ (z : KernelState). StandsFor names z a) (sym (sets.set ∙ both_set s 0 sets.registers sets.words))
      (server_slot k refl refl refl (record { id = refl; env_type = refl; turns = refl; calm = λ runs. runs }) so)
    where
      k : Slot
      k = record (slot_at s 0) { registers = sets.registers; extra = sets.words }

      no_service : (service_word sets.words ≡ service_word (slot_at s 0).extra) ⊎ (service_word sets.words ≡ 0) → service_word sets.words ≡ 0
      no_service (inl same) = same ∙ first_slot.words
      no_service (inr zero) = zero

      so : StandsForServer k FIRST_ENV_ID
      so = record {
        first = first_slot.first;
        id_is = first_slot.id_is;
        lives = first_slot.lives;
        parent = first_slot.parent;
        env_type = first_slot.env_type;
        words = no_service (sets.first twelve);
        stack = ap is_handlers sets.esp ∙ first_slot.stack;
      }

  -- ---- a refusal is counted

  pub refusal_stands : StandsFor names (with_refusal s) a
  refusal_stands = record {
    slots = h.slots;
    children = h.children;
    apart = h.apart;
    named = h.named;
    users = h.users;
    whole = h.whole;
    beside = h.beside;
    ends = h.ends;
    locks = h.locks;
    runs = h.runs;
    old = h.old;
    free_slots = h.free_slots;
    first = h.first;
    server = h.server;
    input = h.input;
    last = h.last;
    turns = h.turns;
    tabled = h.tabled;
    in_order = record { frames = h.in_order.frames; spaces = h.in_order.spaces };
  }
