-- What holds of all entries, pair by pair and one by one, where a byte is stored, where one entry is put in the place of
-- another, and where one is removed.
use Rattle.std.proofs.Common.{◌≡◌, ◌≢◌, ◌∙◌, ◌⊎◌, ◌==◌, inl, inr, ℕ, Bool, true, false, List, refl, sym, ap, subst, arith, if◌then◌else◌}
use Rattle.std.specs.Prelude.{Option, Some, None}
use Rattle.std.specs.Option.{option_map}
use Rattle.std.proofs.lemmas.Bool.Decides.{nat_tests}
use Rattle.std.proofs.lemmas.Option.{same_Some}
use Rattle.jos_base.specs.Reach.{Entry}
use Rattle.jos_base.specs.KernelState.{KernelState}
use Rattle.jos_base.specs.SpacesState.{SpacesState, put}
use Rattle.jos_base.specs.SystemCalls.{has_write}
use Rattle.jos_base.specs.Words.{page_number}
use Rattle.lib_os.specs.declared.numbers.TheConstants.{REQUEST}
use Rattle.lib_os.specs.AbstractState.{AbstractState, own, named}
use Rattle.lib_os.specs.DescriptorPages.{Things}
use Rattle.lib_os.specs.Fence.{in_fence}
use Rattle.lib_os.specs.Rows.{Names, Rows, rows_of, logical, page_by, page_seen, seen_where, shown_at, is_programs, is_shared, may_write, EntryRow}
use Rattle.lib_os.specs.Rows.{Agree, AgreeWhereShared, IsNamed, AreNamed, AreBeside, AreUsers, IsUsers, AreWhole, IsPage, MayBeHad, ShowsBy, is_of_descriptor, is_pipe_page}
use Rattle.lib_os.specs.StandsFor.{StandsFor, things_in}
use Rattle.lib_os.proofs.Logical.{programs_no_descriptor}
use Rattle.lib_os.proofs.SlotsStand.{page_alike, option_map_alike}
use Rattle.lib_os.proofs.Puts.{put-found}
use Rattle.jos_base.proofs.Puts.{Elsewhere, place_cases, put-at, put-other}

-- ---- pairs

pub agree_back : {x y : ℕ} → Agree x y → Agree y x
agree_back h = record { shared = sym h.shared; read_only = λ is. let both = h.read_only (h.shared ∙ is) in (both.1, both.0) }

-- what stands at one place is one entry
pub same_entry : (rows : Rows) (d p q r : ℕ) (x y : Entry) → d ≡ q → p ≡ r → rows d p ≡ Some x → rows q r ≡ Some y → x ≡ y
same_entry rows d p q r x y same too hx hy =
    same_Some x y (sym hx ∙ ap (λ (n : ℕ). rows n p) same ∙ ap (λ (n : ℕ). rows q n) too ∙ hy)

-- Two entries of one frame say the same of sharing.
pub same_sharing : (rows : Rows) → AgreeWhereShared rows → (d p q r : ℕ) (x y : Entry) → rows d p ≡ Some x → rows q r ≡ Some y →
    x.frame ≡ y.frame → is_shared x.perm ≡ is_shared y.perm
same_sharing rows apart d p q r x y hx hy same = by_case (place_cases d p q r)
  where
    by_case : ((d ≡ q) × (p ≡ r)) ⊎ Elsewhere d p q r → is_shared x.perm ≡ is_shared y.perm
    by_case (inl at) = ap (λ (e : Entry). is_shared e.perm) (same_entry rows d p q r x y at.0 at.1 hx hy)
    by_case (inr ne) = (apart d p q r x y ne hx hy same).shared

-- No page of one's own elsewhere is one that may be written here.
pub other_frame : (rows : Rows) → AgreeWhereShared rows → (d p q r : ℕ) (x e : Entry) → Elsewhere q r d p → rows d p ≡ Some e →
    has_write e.perm ≡ true → rows q r ≡ Some x → is_shared x.perm ≡ false → x.frame ≢ e.frame
other_frame rows apart d p q r x e ne he writes hx own_page same =
    let contradiction : true ≡ false = sym writes ∙ ((apart q r d p x e ne hx he same).read_only own_page).1 in cc

pub apart_put : (rows : Rows) (d p : ℕ) (v : Option Entry) → AgreeWhereShared rows →
    ((q r : ℕ) (x e : Entry) → Elsewhere q r d p → rows q r ≡ Some x → v ≡ Some e → x.frame ≡ e.frame → Agree x.perm e.perm) →
    AgreeWhereShared (put rows d p v)
apart_put rows d p v apart agree q r m o x y ne hx hy same = by_case (put-found rows d p v q r x hx) (put-found rows d p v m o y hy)
  where
    by_case : ((q ≡ d) × (r ≡ p) × (v ≡ Some x)) ⊎ ((e : Elsewhere q r d p) × (rows q r ≡ Some x)) →
        ((m ≡ d) × (o ≡ p) × (v ≡ Some y)) ⊎ ((e : Elsewhere m o d p) × (rows m o ≡ Some y)) → Agree x.perm y.perm
    by_case (inl first) (inl second) = absurd (ne (first.0 ∙ sym second.0) (first.1 ∙ sym second.1))
    by_case (inl first) (inr second) = agree_back (agree m o y x second.0 second.1 first.2 (sym same))
    by_case (inr first) (inl second) = agree q r x y first.0 first.1 second.2 same
    by_case (inr first) (inr second) = apart q r m o x y ne first.1 second.1 same

-- what holds of each entry that is kept, and of the one that is put, holds of each
pub all_put : (rows : Rows) (d p : ℕ) (v : Option Entry) (Q : ℕ → Entry → Type 0) →
    ((q r : ℕ) (x : Entry) → Elsewhere q r d p → rows q r ≡ Some x → Q r x) → ((e : Entry) → v ≡ Some e → Q p e) →
    (q r : ℕ) (x : Entry) → put rows d p v q r ≡ Some x → Q r x
all_put rows d p v Q old new q r x hx = by_case (put-found rows d p v q r x hx)
  where
    by_case : ((q ≡ d) × (r ≡ p) × (v ≡ Some x)) ⊎ ((e : Elsewhere q r d p) × (rows q r ≡ Some x)) → Q r x
    by_case (inl here) = subst (λ (t : ℕ). Q t x) (sym here.1) (new x here.2)
    by_case (inr there) = old q r x there.0 there.1

-- ---- names

-- a frame is named by what it shows, where that is in other bytes that are the same
pub named_bytes : {names : Names} {pages after shared : ℕ → List ℕ} {things : Things} {next p f : ℕ} → pages f ≡ after f →
    IsNamed names pages shared things next p f → IsNamed names after shared things next p f
named_bytes {names = names} {shared = shared} {things = things} {f = f} same was = record {
  home = was.home;
  kind = was.kind;
  of_pipe = was.of_pipe;
  shows = subst (λ (l : List ℕ). ShowsBy things (names.name f) f (names.is_object (names.name f)) (names.is_pipe (names.name f)) (shared (names.name f)) l)
      same was.shows;
  old = was.old;
}

-- what is named at a program's page is a page
pub page_kind : {names : Names} {pages shared : ℕ → List ℕ} {things : Things} {next p f : ℕ} → is_programs p ≡ true →
    IsNamed names pages shared things next p f → names.is_object (names.name f) ≡ false
page_kind {p = p} inside was = was.kind ∙ programs_no_descriptor p inside

-- and has its bytes
pub page_shows : {names : Names} {pages shared : ℕ → List ℕ} {things : Things} {next p f : ℕ} → is_programs p ≡ true →
    IsNamed names pages shared things next p f → shared (names.name f) ≡ pages f
page_shows {names = names} {pages = pages} {shared = shared} {things = things} {f = f} inside was =
    subst (λ (c : Bool). ShowsBy things (names.name f) f c (names.is_pipe (names.name f)) (shared (names.name f)) (pages f)) (page_kind inside was) was.shows

-- a name keeps its frame where it stands at another page of the same kind
pub named_at : {names : Names} {pages shared : ℕ → List ℕ} {things : Things} {next p q f : ℕ} → is_of_descriptor q ≡ is_of_descriptor p →
    is_pipe_page q ≡ is_pipe_page p → IsNamed names pages shared things next p f → IsNamed names pages shared things next q f
named_at same of_pipe was =
    record { home = was.home; kind = was.kind ∙ sym same; of_pipe = was.of_pipe ∙ sym of_pipe; shows = was.shows; old = was.old }

-- no page of a program is that of a pipe
pub programs_no_pipe : (p : ℕ) → is_programs p ≡ true → is_pipe_page p ≡ false
unfolding in_fence
programs_no_pipe p inside = grind (arith, nat_tests)

-- ---- all of it

-- what holds of entries as they count, with the bytes of their frames
pub record RowsStand (names : Names) (pages shared : ℕ → List ℕ) (things : Things) (next : ℕ) (rows : Rows) : Type 0 where
  pub apart : AgreeWhereShared rows
  pub named : AreNamed names pages shared things next rows
  pub users : AreUsers rows
  pub whole : AreWhole pages rows
  pub beside : AreBeside things.row rows

pub rows_stand : {names : Names} {s : KernelState} {a : AbstractState} → StandsFor names s a →
    RowsStand names s.spaces.pages a.shared (things_in s a) a.next_name (logical s.spaces s.environments.slots)
rows_stand h = record { apart = h.apart; named = h.named; users = h.users; whole = h.whole; beside = h.beside }

-- of the same entries
pub rows_same : {names : Names} {pages shared : ℕ → List ℕ} {things : Things} {next : ℕ} (rows after : Rows) →
    ((n p : ℕ) → after n p ≡ rows n p) → RowsStand names pages shared things next rows → RowsStand names pages shared things next after
rows_same {names = names} {pages = pages} {shared = shared} {things = things} {next = next} rows after same h =
    subst (λ (r : Rows). RowsStand names pages shared things next r) (λ i n p. sym (same n p) i) h

-- beside the same pages of the server
pub rows_turned : {names : Names} {pages shared : ℕ → List ℕ} {things : Things} {next : ℕ} {rows : Rows} {after : EntryRow} → after ≡ things.row →
    RowsStand names pages shared things next rows → RowsStand names pages shared (record things { row = after }) next rows
rows_turned {names = names} {pages = pages} {shared = shared} {things = things} {next = next} {rows = rows} same h =
    subst (λ (r : EntryRow). RowsStand names pages shared (record things { row = r }) next rows) (sym same) h

-- where their frames keep their bytes
pub rows_bytes : {names : Names} {pages shared : ℕ → List ℕ} {things : Things} {next : ℕ} {rows : Rows} (after : ℕ → List ℕ) →
    ((n p : ℕ) (x : Entry) → rows n p ≡ Some x → after x.frame ≡ pages x.frame) → RowsStand names pages shared things next rows →
    RowsStand names after shared things next rows
rows_bytes after same h = record {
  apart = h.apart;
  named = λ n p x is shared_page. named_bytes (sym (same n p x is)) (h.named n p x is shared_page);
  users = h.users;
  whole = λ n p x is. subst (λ (l : List ℕ). IsPage l) (sym (same n p x is)) (h.whole n p x is);
  beside = h.beside;
}

-- An entry, or none, in the place of what stood there: all others keep their bytes, and names.
pub record PutsRow (names after : Names) (pages shared pages_after shared_after : ℕ → List ℕ) (things : Things) (next next_after : ℕ)
    (rows : Rows) (n p : ℕ) (v : Option Entry) : Type 0 where
  pub bytes : (m q : ℕ) (x : Entry) → Elsewhere m q n p → rows m q ≡ Some x → pages_after x.frame ≡ pages x.frame
  pub agree : (m q : ℕ) (x e : Entry) → Elsewhere m q n p → rows m q ≡ Some x → v ≡ Some e → x.frame ≡ e.frame → Agree x.perm e.perm
  pub user : (e : Entry) → v ≡ Some e → IsUsers e.perm
  pub whole : (e : Entry) → v ≡ Some e → IsPage (pages_after e.frame)
  pub beside : (q : ℕ) (e y : Entry) → v ≡ Some e → things.row q ≡ Some y → e.frame ≡ y.frame →
      MayBeHad (q == page_number REQUEST) p e
  pub named_new : (e : Entry) → v ≡ Some e → is_shared e.perm ≡ true → IsNamed after pages_after shared_after things next_after p e.frame
  pub named_old : (m q : ℕ) (x : Entry) → Elsewhere m q n p → rows m q ≡ Some x → is_shared x.perm ≡ true →
      IsNamed names pages shared things next q x.frame → IsNamed after pages_after shared_after things next_after q x.frame

pub rows_put : {names after : Names} {pages shared pages_after shared_after : ℕ → List ℕ} {things : Things} {next next_after : ℕ} {rows : Rows}
    {n p : ℕ} {v : Option Entry} → RowsStand names pages shared things next rows →
    PutsRow names after pages shared pages_after shared_after things next next_after rows n p v →
    RowsStand after pages_after shared_after things next_after (put rows n p v)
rows_put {after = after} {pages_after = pages_after} {shared_after = shared_after} {things = things} {next_after = next_after} {rows = rows}
    {n = n} {p = p} {v = v} h puts = record {
      apart = apart_put rows n p v h.apart puts.agree;
      named = all_put rows n p v (λ q x. is_shared x.perm ≡ true → IsNamed after pages_after shared_after things next_after q x.frame)
          (λ m q x ne hx shared_page. puts.named_old m q x ne hx shared_page (h.named m q x hx shared_page)) puts.named_new;
      users = all_put rows n p v (λ q x. IsUsers x.perm) (λ m q x ne hx. h.users m q x hx) puts.user;
      whole = all_put rows n p v (λ q x. IsPage (pages_after x.frame))
          (λ m q x ne hx. subst (λ (l : List ℕ). IsPage l) (sym (puts.bytes m q x ne hx)) (h.whole m q x hx)) puts.whole;
      beside = λ m r q x y is at.
          all_put rows n p v (λ t z. z.frame ≡ y.frame → MayBeHad (q == page_number REQUEST) t z) (λ d t z ne hx. h.beside d t q z y hx at)
          (λ e is. puts.beside q e y is at) m r x is;
    }

-- a map of two indices that is another at one place alone
pub put_is : {V : Type 0} (f g : ℕ → ℕ → V) (n p : ℕ) (v : V) → g n p ≡ v → ((m q : ℕ) → Elsewhere m q n p → g m q ≡ f m q) →
    (m q : ℕ) → g m q ≡ put f n p v m q
put_is {V = V} f g n p v here there m q = by_case (place_cases m q n p)
  where
    by_case : ((m ≡ n) × (q ≡ p)) ⊎ Elsewhere m q n p → g m q ≡ put f n p v m q
    by_case (inl is) =
        (λ i. g (is.0 i) (is.1 i)) ∙ here ∙ sym (put-at f n p v) ∙ sym (λ i. put f n p v (is.0 i) (is.1 i))
    by_case (inr ne) = there m q ne ∙ sym (put-other f n p v m q ne)

-- ---- pages

-- what is shown at one place, where its entry is the same, and its frame's bytes or its name
pub shown_same : (names after : Names) (s t : SpacesState) (d p : ℕ) → rows_of t d p ≡ rows_of s d p →
    ((x : Entry) → rows_of s d p ≡ Some x → is_shared x.perm ≡ false → t.pages x.frame ≡ s.pages x.frame) →
    ((x : Entry) → rows_of s d p ≡ Some x → is_shared x.perm ≡ true → after.name x.frame ≡ names.name x.frame) →
    shown_at after t d p ≡ shown_at names s d p
shown_same names after s t d p row bytes named_so =
    option_map_alike (page_by names s.pages) (page_by after t.pages) (rows_of s d p) (rows_of t d p) row
    (λ x at. page_alike names after s.pages t.pages x (bytes x at) (named_so x at))

-- and the page there
pub seen_at : (names after : Names) (s t : SpacesState) (d p : ℕ) → rows_of t d p ≡ rows_of s d p →
    ((x : Entry) → rows_of s d p ≡ Some x → is_shared x.perm ≡ false → t.pages x.frame ≡ s.pages x.frame) →
    ((x : Entry) → rows_of s d p ≡ Some x → is_shared x.perm ≡ true → after.name x.frame ≡ names.name x.frame) →
    page_seen after t d p ≡ page_seen names s d p
seen_at names after s t d p row bytes named_so =
    ap (seen_where (is_programs p)) (shown_same names after s t d p row bytes named_so)

pub seen_by : (names : Names) (s : SpacesState) (d p : ℕ) (e : Entry) → is_programs p ≡ true → rows_of s d p ≡ Some e →
    page_seen names s d p ≡ Some (page_by names s.pages e)
seen_by names s d p e inside at =
    ap (λ (o : Option Entry). seen_where (is_programs p) (option_map (page_by names s.pages) o)) at
    ∙ ap (λ (c : Bool). seen_where c (Some (page_by names s.pages e))) inside

pub seen_own : (names : Names) (s : SpacesState) (d p : ℕ) (e : Entry) → is_programs p ≡ true → rows_of s d p ≡ Some e →
    is_shared e.perm ≡ false → page_seen names s d p ≡ Some (own (s.pages e.frame) (may_write e.perm))
seen_own names s d p e inside at own_page =
    seen_by names s d p e inside at
    ∙ ap (λ (c : Bool). Some (if c then named (names.name e.frame) (has_write e.perm) else own (s.pages e.frame) (may_write e.perm))) own_page

pub seen_named : (names : Names) (s : SpacesState) (d p : ℕ) (e : Entry) → is_programs p ≡ true → rows_of s d p ≡ Some e →
    is_shared e.perm ≡ true → page_seen names s d p ≡ Some (named (names.name e.frame) (has_write e.perm))
seen_named names s d p e inside at shared_page =
    seen_by names s d p e inside at
    ∙ ap (λ (c : Bool). Some (if c then named (names.name e.frame) (has_write e.perm) else own (s.pages e.frame) (may_write e.perm))) shared_page

-- no page
pub seen_none : (names : Names) (s : SpacesState) (d p : ℕ) → rows_of s d p ≡ None → page_seen names s d p ≡ None
seen_none names s d p at =
    ap (λ (o : Option Entry). seen_where (is_programs p) (option_map (page_by names s.pages) o)) at ∙ by_test (is_programs p)
  where
    by_test : (c : Bool) → seen_where c None ≡ None
    by_test true = refl
    by_test false = refl
