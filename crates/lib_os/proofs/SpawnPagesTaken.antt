-- The calls by which spawn takes a page beside the one at UTEMP, of zeros, and by which it gives one back; and what is told of its other pages behind them.
use Rattle.std.proofs.Common.{◌≡◌, ◌≢◌, ◌∙◌, ◌+◌, ◌/◌, ◌==◌, ◌&&◌, ◌||◌, inl, inr, ℕ, Bool, true, false, List, [], ◌∷◌, None, Some}
use Rattle.std.proofs.Common.{refl, sym, ap, subst, arith}
use Rattle.std.specs.Prelude.{is_some, slice_index}
use Rattle.std.proofs.lemmas.Bool.Decides.{nat_tests}
use Rattle.std.proofs.lemmas.Option.{none-some, same_Some}
use Rattle.jos_base.specs.declared.called.Called.{Called}
use Rattle.jos_base.specs.declared.called.Called.TheVariants.{Answered}
use Rattle.jos_base.specs.declared.numbers.TheConstants.{E_NO_MEM, FDTABLE, NPTENTRIES, SYS_PAGE_ALLOC, SYS_PAGE_UNMAP, USTACKTOP, UTEMP}
use Rattle.jos_base.specs.Environments.{is_live}
use Rattle.jos_base.specs.KernelState.{KernelState, slot_at, with_extra, with_refusal, with_spaces}
use Rattle.jos_base.specs.Reach.{Entry}
use Rattle.jos_base.specs.SpacesState.{SpacesState, unmapped, zero_page}
use Rattle.jos_base.specs.SystemCalls.{is_page_address}
use Rattle.jos_base.specs.Words.{negated, page_number}
use Rattle.lib_os.specs.declared.progress.Progress.TheVariants as progress
use Rattle.lib_os.specs.declared.spawn_steps.SpawnStep.{SpawnStep}
use Rattle.lib_os.specs.AbstractState.{AbstractState, Born, born}
use Rattle.lib_os.specs.InOrder.{IsInOrder}
use Rattle.lib_os.specs.LibraryPages.{IsOwnWritable, View, is_library_region, region_index}
use Rattle.lib_os.specs.LibrarySteps.{KeepsStanding}
use Rattle.lib_os.specs.Places.{place_of}
use Rattle.lib_os.specs.Rows.{IsPage, IsUsers, Names, Rows, is_shared, logical, rows_of}
use Rattle.lib_os.specs.SpawnedChild.{spawning_child}
use Rattle.lib_os.specs.SpawnPages.{keeps_page_at, keeps_request_page}
use Rattle.lib_os.specs.StandsAtSpawn.{HasPath, PageHas, StandsAtSpawn}
use Rattle.lib_os.specs.StandsFor.{StandsFor, things_in, view_of}
use Rattle.lib_os.specs.UserCalls.{CallStep, giving, system}
use Rattle.lib_os.proofs.CallersStay.{alloc_answers}
use Rattle.lib_os.proofs.Calls.{PageMade, page_made_or_refused, page_unmap_is}
use Rattle.lib_os.proofs.Effects.{Made, Removed}
use Rattle.lib_os.proofs.EntriesStand.{PutsRow, named_bytes}
use Rattle.lib_os.proofs.KeptPages.{LiesAside}
use Rattle.lib_os.proofs.PageBytes.{zero_page_whole}
use Rattle.lib_os.proofs.PagesStand.{Puts, bytes_elsewhere, elsewhere, other_regions, row_elsewhere}
use Rattle.lib_os.proofs.PageTaken.{working_perm}
use Rattle.lib_os.proofs.Placing.{allocated_made}
use Rattle.lib_os.proofs.Removing.{unmapped_removed}
use Rattle.lib_os.proofs.SlotsStand.{HasTables, born_at}
use Rattle.lib_os.proofs.SpawnOwnPages.{spawn_there, spawn_words, spawns_at}
use Rattle.lib_os.proofs.SpawnTakesPages.{aside_beside, aside_here, aside_stands}
use Rattle.lib_os.proofs.Trying.{LivesOn}
use Rattle.jos_base.proofs.Puts.{put-other}

-- ---- the other pages

-- Those of a space but for one are what they were, and have what they had; no table is gone.
pub record IsBesidePage (v w : View) (p : ℕ) : Type 0 where
  pub rows : (q : ℕ) → q ≢ p → w.row q ≡ v.row q
  pub bytes : (q : ℕ) (x : Entry) → q ≢ p → v.row q ≡ Some x → w.bytes x.frame ≡ v.bytes x.frame
  pub tables : (r : ℕ) → v.tables r ≡ true → w.tables r ≡ true

pub page_aside : {v w : View} {p q at : ℕ} {bytes : List ℕ} → IsBesidePage v w p → q ≢ p → PageHas v q at bytes → PageHas w q at bytes
page_aside {q = q} {at = at} it other h = record {
  entry = h.entry;
  stands = it.rows q other ∙ h.stands;
  own_page = h.own_page;
  same = λ i lt. ap (λ (l : List ℕ). slice_index l (at + i)) (it.bytes q h.entry other h.stands) ∙ h.same i lt;
}

pub path_aside : {v w : View} {p : ℕ} {name : List ℕ} → IsBesidePage v w p → page_number UTEMP ≢ p → HasPath v name → HasPath w name
path_aside it other h = record { small = h.small; no_end = h.no_end; few = h.few; kept = page_aside it other h.kept }

-- ---- the space behind the call that takes a page

or_true : (a b : Bool) → b ≡ true → (a || b) ≡ true
or_true true b is = refl
or_true false b is = is

library_region : (p r : ℕ) → p / NPTENTRIES ≡ region_index UTEMP → (r == p / NPTENTRIES) ≡ true → is_library_region r ≡ true
library_region p r region is =
    ap (λ (c : Bool). (c || (r == region_index FDTABLE)) || (r == region_index USTACKTOP)) (ap (λ (q : ℕ). r == q) (sym region) ∙ is)

pub working_user : IsUsers working_perm
working_user = record { page = refl; copied = λ is. absurd (let contradiction : false ≡ true = is in cc) }

module _ {names : Names} {s : KernelState} {a : AbstractState} {sp : SpacesState} (h : StandsFor names s a) (n : ℕ) (b : Born) (is : a.slots n ≡ born b)
    (p : ℕ) (aside : LiesAside p) (region : p / NPTENTRIES ≡ region_index UTEMP) (made : Made s.spaces sp (slot_at s n).directory p working_perm) where
  abbrev d : ℕ
  d = (slot_at s n).directory

  abbrev new_entry : Entry
  new_entry = record { frame = made.frame; perm = working_perm }

  pub page_puts : Puts names names s.spaces sp d p (Some new_entry)
  page_puts = record {
    rows = made.placed.rows;
    bytes = λ q r x ne hx. made.placed.bytes q r x (row_elsewhere made.placed q r ne ∙ hx) (made.new q r x hx);
    named_so = λ q r x hx shared_page. refl;
    regions = other_regions made.placed;
  }

  pub page_row : PutsRow names names s.spaces.pages a.shared sp.pages a.shared (things_in s a) a.next_name a.next_name
      (logical s.spaces s.environments.slots) n p (Some new_entry)
  page_row = record {
    bytes = bytes_elsewhere h n b is page_puts;
    agree = λ m q x e ne hx is_new same.
        let found = elsewhere h n b is page_puts m q x ne hx in
        absurd (made.new _ q found.1.entry found.1.stands (found.1.frame ∙ same ∙ ap (λ (y : Entry). y.frame) (sym (same_Some new_entry e is_new))));
    user = λ e is_new. subst (λ (y : Entry). IsUsers y.perm) (same_Some new_entry e is_new) working_user;
    whole = λ e is_new. subst (λ (y : Entry). IsPage (sp.pages y.frame)) (same_Some new_entry e is_new)
        (subst (λ (page : List ℕ). IsPage page) (sym made.zero) zero_page_whole);
    beside = λ q e y is_new there same.
        absurd (made.new _ q y there (sym same ∙ ap (λ (z : Entry). z.frame) (sym (same_Some new_entry e is_new))));
    named_new = λ e is_new shared_page.
        let contradiction : false ≡ true = ap (λ (y : Entry). is_shared y.perm) (same_Some new_entry e is_new) ∙ shared_page in cc;
    named_old = λ m q x ne hx shared_page was.
        named_bytes (sym (bytes_elsewhere h n b is page_puts m q x ne hx)) was;
  }

  pub page_own : IsOwnWritable (rows_of sp d) p
  page_own = record { entry = new_entry; stands = aside_here aside page_puts; own_page = refl; writes = refl }

  -- it has zeros
  pub page_zero : PageHas (view_of sp d) p 0 zero_page
  page_zero = record {
    entry = new_entry;
    stands = aside_here aside page_puts;
    own_page = refl;
    same = λ i lt. ap (slice_index (sp.pages made.frame)) (from_none i) ∙ ap (λ (l : List ℕ). slice_index l i) made.zero;
  }
    where
      from_none : (i : ℕ) → 0 + i ≡ i
      from_none i = omega (arith)

  -- the others are what they were
  pub page_others : IsBesidePage (view_of s.spaces d) (view_of sp d) p
  page_others = record {
    rows = λ q other. aside_beside aside page_puts q other;
    bytes = λ q x other hx. page_puts.bytes d q x (λ same. other) hx;
    tables = λ r has. table_is r ∙ or_true (r == p / NPTENTRIES) (is_some (s.spaces.regions d r)) has;
  }
    where
      here : (d == d) ≡ true
      here = grind (arith, nat_tests)

      table_is : (r : ℕ) → is_some (sp.regions d r) ≡ ((r == p / NPTENTRIES) || is_some (s.spaces.regions d r))
      table_is r = made.placed.regions d r ∙ ap (λ (c : Bool). (c && (r == p / NPTENTRIES)) || is_some (s.spaces.regions d r)) here

  -- its region is one of the library's
  pub page_tables : HasTables sp d b.regions
  page_tables = record {
    have = λ r has. page_others.tables r ((born_at h n b is).regions_have r has);
    only = λ r has. by_region r (r == p / NPTENTRIES) refl (sym (table_is r) ∙ has);
  }
    where
      here : (d == d) ≡ true
      here = grind (arith, nat_tests)

      table_is : (r : ℕ) → is_some (sp.regions d r) ≡ ((r == p / NPTENTRIES) || is_some (s.spaces.regions d r))
      table_is r = made.placed.regions d r ∙ ap (λ (c : Bool). (c && (r == p / NPTENTRIES)) || is_some (s.spaces.regions d r)) here

      by_region : (r : ℕ) (c : Bool) → (r == p / NPTENTRIES) ≡ c → (c || is_some (s.spaces.regions d r)) ≡ true →
          (b.regions r || is_library_region r) ≡ true
      by_region r true test has = or_true (b.regions r) (is_library_region r) (library_region p r region test)
      by_region r false test has = (born_at h n b is).regions_only r has

-- ---- the space behind the call that gives it back

module _ {names : Names} {s : KernelState} {a : AbstractState} {sp : SpacesState} (h : StandsFor names s a) (n : ℕ) (b : Born) (is : a.slots n ≡ born b)
    (p : ℕ) (removed : Removed s.spaces sp (slot_at s n).directory p) where
  abbrev dir : ℕ
  dir = (slot_at s n).directory

  pub gone_puts : Puts names names s.spaces sp dir p None
  gone_puts = record {
    rows = removed.rows;
    bytes = λ q r x ne hx. removed.bytes q r x (ap (λ (rows : Rows). rows q r) removed.rows ∙ put-other (rows_of s.spaces) dir p None q r ne ∙ hx);
    named_so = λ q r x hx shared_page. refl;
    regions = λ q r ne. removed.regions q r;
  }

  pub gone_row : PutsRow names names s.spaces.pages a.shared sp.pages a.shared (things_in s a) a.next_name a.next_name
      (logical s.spaces s.environments.slots) n p None
  gone_row = record {
    bytes = bytes_elsewhere h n b is gone_puts;
    agree = λ m q x e ne hx is_some same. absurd (none-some e is_some);
    user = λ e is_some. absurd (none-some e is_some);
    whole = λ e is_some. absurd (none-some e is_some);
    beside = λ q e y is_some there. absurd (none-some e is_some);
    named_new = λ e is_some. absurd (none-some e is_some);
    named_old = λ m q x ne hx shared_page was. named_bytes (sym (bytes_elsewhere h n b is gone_puts m q x ne hx)) was;
  }

  pub gone_tables : HasTables sp dir b.regions
  gone_tables = record {
    have = λ r has. removed.regions dir r ∙ (born_at h n b is).regions_have r has;
    only = λ r has. (born_at h n b is).regions_only r (sym (removed.regions dir r) ∙ has);
  }

-- ---- the calls

module _ (s : KernelState) (n va : ℕ) (address : is_page_address va ≡ true) where
  abbrev pub page_asked_at : CallStep Called
  page_asked_at = system s n SYS_PAGE_ALLOC (0 ∷ va ∷ working_perm ∷ 0 ∷ 0 ∷ [])

  -- whatever comes of it, the caller lives on
  pub page_lives : is_live (slot_at s n) ≡ true → LivesOn page_asked_at n (slot_at s n).registers
  page_lives live =
      let it = alloc_answers s n live 0 va working_perm 0 0 in record { live = it.live; registers = it.registers; written = it.written }

  -- the page is made, or refused, so that what holds of both holds of the call
  pub page_holds : is_live (slot_at s n) ≡ true → (K : CallStep Called → Type 0) →
      ((made : PageMade s n va working_perm page_asked_at) → K (giving (with_spaces s made.spaces) (Answered 0))) →
      K (giving (with_refusal s) (Answered (negated E_NO_MEM))) → K page_asked_at
  page_holds live K made refused = elim (page_made_or_refused s n va working_perm (0 ∷ 0 ∷ []) live address refl) [
    | inl it ↦ subst K (sym it.step) (made it)
    | inr none ↦ subst K (sym none.step) refused
  ]

  abbrev pub without_page : SpacesState
  without_page = unmapped s.spaces (slot_at s n).directory (page_number va)

  pub page_given_is : is_live (slot_at s n) ≡ true →
      system s n SYS_PAGE_UNMAP (0 ∷ va ∷ 0 ∷ 0 ∷ 0 ∷ []) ≡ giving (with_spaces s without_page) (Answered 0)
  page_given_is live = page_unmap_is s n live va (0 ∷ 0 ∷ 0 ∷ []) address

-- ---- what the steps come to

module _ (s : KernelState) (n path argv va : ℕ) (from to : SpawnStep) (stands : place_of (slot_at s n) ≡ spawns_at path argv from)
    (unborne : spawning_child from ≡ None) (unborne_after : spawning_child to ≡ None) (aside : LiesAside (page_number va))
    (requests : keeps_request_page from ≡ keeps_request_page to)
    (same_pages : (q : ℕ) → q ≢ page_number va → keeps_page_at from q ≡ keeps_page_at to q) where
  abbrev home : ℕ
  home = (slot_at s n).directory

  -- it has the page, of zeros, at its next step
  pub taking_keeps_at : page_number va / NPTENTRIES ≡ region_index UTEMP → keeps_page_at to (page_number va) ≡ true → {call : CallStep Called} →
      (made : PageMade s n va working_perm call) → IsInOrder (with_spaces s made.spaces) →
      ((names : Names) (a : AbstractState) (h : StandsFor names s a) → PageHas (view_of made.spaces home) (page_number va) 0 zero_page →
      IsBesidePage (view_of s.spaces home) (view_of made.spaces home) (page_number va) →
      StandsAtSpawn (view_of made.spaces home) (record (slot_at s n) { extra = spawn_words to }) (spawn_there h n path argv from stands).b path argv to) →
      KeepsStanding progress.Hidden n s (with_extra (with_spaces s made.spaces) n (spawn_words to)) []
  taking_keeps_at region keeps made in_order so a h turn quiet =
      let it = spawn_there h.1 n path argv from stands in
      let new : Made s.spaces made.spaces home (page_number va) working_perm =
      allocated_made s.spaces made.spaces home (page_number va) working_perm made.frame h.1.in_order.frames in_order.frames refl made.is in (
        refl,
        (
          h.0,
          aside_stands h.1 n path argv from to stands unborne unborne_after (page_number va) aside requests same_pages
              (page_puts h.1 n it.b it.is (page_number va) aside region new) turn.last
              (λ is. page_own h.1 n it.b it.is (page_number va) aside region new)
              (λ is. absurd (let contradiction : true ≡ false = sym keeps ∙ is in cc))
              (page_tables h.1 n it.b it.is (page_number va) aside region new)
              (so h.0 a h.1 (page_zero h.1 n it.b it.is (page_number va) aside region new)
              (page_others h.1 n it.b it.is (page_number va) aside region new))
              (page_row h.1 n it.b it.is (page_number va) aside region new) in_order,
        ),
      )

  -- or it has none any more
  pub giving_keeps_at : keeps_page_at to (page_number va) ≡ false → (address : is_page_address va ≡ true) → IsInOrder (with_spaces s (without_page s n va address)) →
      ((names : Names) (a : AbstractState) (h : StandsFor names s a) →
      StandsAtSpawn (view_of (without_page s n va address) home) (record (slot_at s n) { extra = spawn_words to }) (spawn_there h n path argv from stands).b
      path argv to) →
      KeepsStanding progress.Hidden n s (with_extra (with_spaces s (without_page s n va address)) n (spawn_words to)) []
  giving_keeps_at keeps address in_order so a h turn quiet =
      let it = spawn_there h.1 n path argv from stands in
      let removed : Removed s.spaces (without_page s n va address) home (page_number va) =
      unmapped_removed s.spaces home (page_number va) h.1.in_order.frames in (
        refl,
        (
          h.0,
          aside_stands h.1 n path argv from to stands unborne unborne_after (page_number va) aside requests same_pages
              (gone_puts h.1 n it.b it.is (page_number va) removed) turn.last
              (λ is. absurd (let contradiction : true ≡ false = sym is ∙ keeps in cc)) (λ is. refl)
              (gone_tables h.1 n it.b it.is (page_number va) removed) (so h.0 a h.1) (gone_row h.1 n it.b it.is (page_number va) removed) in_order,
        ),
      )
