-- Which frames are directories: what a call makes of them is said by the definitions, and no call makes one a
-- directory but that which creates a space.
use Rattle.std.proofs.Common.{◌≡◌, ◌≢◌, ◌∙◌, ◌==◌, ◌/◌, inl, inr, zero, suc, ℕ, Bool, true, false, List, [], ◌∷◌, Option, Some, None}
use Rattle.std.proofs.Common.{refl, sym, ap, arith, if◌then◌else◌}
use Rattle.std.specs.Option.{option_map}
use Rattle.std.proofs.lemmas.Bool.Decides.{nat_tests}
use Rattle.jos_base.specs.Words.{upd}
use Rattle.jos_base.specs.Reach.{Entry}
use Rattle.jos_base.specs.SpacesState.{Use, free, fresh, page, directory, table, Region, SpacesState, is_directory}
use Rattle.jos_base.specs.SpacesState.{directories, freed, released, created, created_from, fresh_of, fresh_from, frame_of}
use Rattle.jos_base.specs.SpacesState.{with_entry, mapped, tabled_new, tabled_by, tabled, inserted}
use Rattle.jos_base.specs.SpacesState.{unmapped, pages_removed, without_region, tables_freed, destroyed}
use Rattle.jos_base.specs.SpacesState.{region_limit, taken, zero_page}
use Rattle.jos_base.specs.Counting.{page_count, page_limit}
use Rattle.jos_space.specs.Calls.{KeepsDirectories}
use Rattle.std.proofs.lemmas.Bool.{cases_eq}
use Rattle.jos_base.proofs.Maps.{upd-at, upd-other, upd-twice}
use Rattle.jos_base.proofs.Uses.{directory_is}

-- no frame has become a directory
pub NoMore : SpacesState → SpacesState → Type 0
NoMore s t = (f : ℕ) → t.uses f ≡ directory → s.uses f ≡ directory

-- ---- both ways

same_test : (u v : Use) → (u ≡ directory → v ≡ directory) → (v ≡ directory → u ≡ directory) → is_directory v ≡ is_directory u
same_test u v there back = by_test (is_directory u) refl (is_directory v) refl
  where
    by_test : (a : Bool) → is_directory u ≡ a → (b : Bool) → is_directory v ≡ b → is_directory v ≡ is_directory u
    by_test true e true k = k ∙ sym e
    by_test false e false k = k ∙ sym e
    by_test true e false k = let d = ap is_directory (there (directory_is u e)) in absurd cc
    by_test false e true k = let d = ap is_directory (back (directory_is v k)) in absurd cc

pub same_directories : (s t : SpacesState) → KeepsDirectories s t → NoMore s t → directories t ≡ directories s
unfolding NoMore
same_directories s t there back = λ i. λ f. same_test (s.uses f) (t.uses f) (there f) (back f) i

-- ---- what the definitions make of uses

used : (s : SpacesState) (uses : ℕ → Use) (g : ℕ) (now : Use) → uses ≡ upd s.uses g now → (now ≡ directory → ⊥) →
    (f : ℕ) → uses f ≡ directory → s.uses f ≡ directory
used s uses g now e not f is = elim (cases_eq f g) [
  | inl same ↦ absurd (not (sym (upd-at s.uses g now) ∙ ap (upd s.uses g now) (sym same) ∙ (λ i. sym e i f) ∙ is))
  | inr ne ↦ sym (upd-other s.uses g now f ne) ∙ (λ i. sym e i f) ∙ is
]

-- a frame gets a use that is no directory's
pub no_more_at : (s t : SpacesState) (g : ℕ) (now : Use) → t.uses ≡ upd s.uses g now → (now ≡ directory → ⊥) → NoMore s t
unfolding NoMore
no_more_at s t g now e not f is = used s t.uses g now e not f is

released_no_more : (s : SpacesState) (frame : Option ℕ) → NoMore s (released s frame)
unfolding NoMore
released_no_more s None f is = is
released_no_more s (Some g) f is = by_count (page_count s.entries g == 0) is
  where
    by_count : (c : Bool) → (if c then freed s g else s).uses f ≡ directory → s.uses f ≡ directory
    by_count true k = used s (upd s.uses g free) g free refl (λ e. absurd cc) f k
    by_count false k = k

mapped_no_more : (s : SpacesState) (d n : ℕ) (e : Entry) → NoMore s (mapped s d n e)
unfolding NoMore mapped
mapped_no_more s d n e f is =
    used s (upd s.uses e.frame page) e.frame page refl (λ k. absurd cc) f
    (released_no_more (with_entry s d n e) (frame_of (s.entries d n)) f is)

IfMade : (SpacesState → Type 0) → Option SpacesState → Type 0
IfMade P None = Unit {0}
IfMade P (Some t) = P t

tabled_new_no_more : (s : SpacesState) (list : List ℕ) (d r : ℕ) → IfMade (NoMore s) (tabled_new s list d r)
unfolding NoMore IfMade
tabled_new_no_more s [] d r = tt
tabled_new_no_more s (g ∷ rest) d r = λ f is. used s (upd s.uses g table) g table refl (λ k. absurd cc) f is

tabled_no_more_by : (s : SpacesState) (region : Option Region) (d r : ℕ) → IfMade (NoMore s) (tabled_by s region d r)
unfolding NoMore IfMade
tabled_no_more_by s (Some region) d r = λ f is. is
tabled_no_more_by s None d r = tabled_new_no_more s s.free d r

then_mapped : (s : SpacesState) (t : Option SpacesState) (d n : ℕ) (e : Entry) → IfMade (NoMore s) t →
    IfMade (NoMore s) (option_map (λ u. mapped u d n e) t)
unfolding NoMore IfMade
then_mapped s None d n e h = tt
then_mapped s (Some u) d n e h = λ f is. h f (mapped_no_more u d n e f is)

inserted_if : (s : SpacesState) (d n : ℕ) (e : Entry) → IfMade (NoMore s) (inserted s d n e)
unfolding inserted tabled
inserted_if s d n e = then_mapped s (tabled s d (n / 1024)) d n e (tabled_no_more_by s (s.regions d (n / 1024)) d (n / 1024))

made : (P : SpacesState → Type 0) (o : Option SpacesState) (t : SpacesState) → IfMade P o → o ≡ Some t → P t
unfolding IfMade
made P o t h e = rw e at h

pub inserted_no_more : (s t : SpacesState) (d n : ℕ) (e : Entry) → inserted s d n e ≡ Some t → NoMore s t
inserted_no_more s t d n e is = made (NoMore s) (inserted s d n e) t (inserted_if s d n e) is

-- ---- a space is created

created_by : (s t : SpacesState) (list : List ℕ) (d : ℕ) → created_from s list ≡ Some (d, t) → t.uses ≡ upd s.uses d directory
created_by s t [] d e = absurd cc
created_by s t (g ∷ rest) d e =
    let pair : ◌≡◌ {A = ℕ × SpacesState} (g, record s { uses = upd s.uses g directory; free = rest; pages = upd s.pages g [] }) (d, t) = cc in
    sym (ap (λ p. p.1.uses) pair) ∙ ap (λ p. upd s.uses p.0 directory) pair

one_more : (uses : ℕ → Use) (d : ℕ) (now : Use) (f : ℕ) → is_directory (upd uses d now f) ≡ upd (λ q. is_directory (uses q)) d (is_directory now) f
unfolding upd
one_more uses d now f = by_key (f == d)
  where
    by_key : (c : Bool) → is_directory (if c then now else uses f) ≡ (if c then is_directory now else is_directory (uses f))
    by_key true = refl
    by_key false = refl

pub created_directories : (s t : SpacesState) (d : ℕ) → created s ≡ Some (d, t) → directories t ≡ upd (directories s) d true
unfolding created
created_directories s t d e =
    let uses = created_by s t s.free d e in
    λ i. λ f. (ap (λ (u : ℕ → Use). is_directory (u f)) uses ∙ one_more s.uses d directory f) i

-- ---- a space is destroyed

unmapped_no_more : (s : SpacesState) (d n : ℕ) → NoMore s (unmapped s d n)
unfolding NoMore unmapped
unmapped_no_more s d n f is = released_no_more _ (frame_of (s.entries d n)) f is

pub unmapped_directories : (s t : SpacesState) (d n : ℕ) → KeepsDirectories s t → t ≡ unmapped s d n → directories t ≡ directories s
unfolding NoMore
unmapped_directories s t d n kept e = same_directories s t kept (λ f is. unmapped_no_more s d n f ((λ i. (sym e i).uses f) ∙ is))

pages_no_more : (s : SpacesState) (d n : ℕ) → NoMore s (pages_removed s d n)
unfolding NoMore pages_removed
pages_no_more s d zero f is = is
pages_no_more s d (suc n) f is = pages_no_more s d n f (unmapped_no_more (pages_removed s d n) d n f is)

region_no_more : (s : SpacesState) (d r : ℕ) (region : Option Region) → NoMore s (without_region s d r region)
unfolding NoMore
region_no_more s d r None f is = is
region_no_more s d r (Some region) f is = used s (upd s.uses region.table free) region.table free refl (λ k. absurd cc) f is

tables_no_more : (s : SpacesState) (d n : ℕ) → NoMore s (tables_freed s d n)
unfolding NoMore tables_freed
tables_no_more s d zero f is = is
tables_no_more s d (suc n) f is =
    tables_no_more s d n f (region_no_more (tables_freed s d n) d n ((tables_freed s d n).regions d n) f is)

freed_not : (s : SpacesState) (d : ℕ) → (freed s d).uses d ≡ free
freed_not s d = upd-at s.uses d free

pub destroyed_directories : (s t : SpacesState) (d : ℕ) → t ≡ destroyed s d → ((f : ℕ) → f ≢ d → s.uses f ≡ directory → t.uses f ≡ directory) →
    directories t ≡ upd (directories s) d false
unfolding NoMore destroyed upd
destroyed_directories s t d e kept = λ i. λ f. by_key f (f == d) refl i
  where
    by_key : (f : ℕ) → (c : Bool) → (f == d) ≡ c → is_directory (t.uses f) ≡ (if c then false else is_directory (s.uses f))
    by_key f true k =
        let same : f ≡ d = grind (arith, nat_tests) in
        ap (λ (u : SpacesState). is_directory (u.uses f)) e
        ∙ ap (λ (q : ℕ). is_directory ((freed (tables_freed (pages_removed s d page_limit) d region_limit) d).uses q)) same
        ∙ ap is_directory (freed_not (tables_freed (pages_removed s d page_limit) d region_limit) d)
    by_key f false k =
        let ne : f ≢ d = grind (arith, nat_tests) in
        same_test (s.uses f) (t.uses f) (kept f ne)
        (λ is. pages_no_more s d page_limit f (tables_no_more (pages_removed s d page_limit) d region_limit f
        (used (tables_freed (pages_removed s d page_limit) d region_limit) _ d free refl (λ x. absurd cc) f ((λ i. (sym e i).uses f) ∙ is))))

-- ---- a fresh frame is given back

upd-own : {V : Type 0} (f : ℕ → V) (k : ℕ) (v : V) → f k ≡ v → upd f k v ≡ f
unfolding upd
upd-own f k v e = λ i. λ q. by_key q (q == k) refl i
  where
    by_key : (q : ℕ) → (c : Bool) → (q == k) ≡ c → (if c then v else f q) ≡ f q
    by_key q true same = let at : q ≡ k = grind (arith, nat_tests) in sym e ∙ ap f (sym at)
    by_key q false other = refl

back_by : (s t : SpacesState) (list : List ℕ) (f : ℕ) → s.free ≡ list → fresh_from s list ≡ Some (f, t) → s.uses f ≡ free → s.pages f ≡ [] → freed t f ≡ s
back_by s t [] f l e u p = absurd cc
back_by s t (g ∷ rest) f l e u p =
    let pair : ◌≡◌ {A = ℕ × SpacesState} (g, taken s g rest zero_page) (f, t) = cc in
    let same : g ≡ f = ap (λ x. x.0) pair in
    (λ i. freed (sym (ap (λ x. x.1) pair) i) f)
    ∙ (λ i. freed (taken s (same i) rest zero_page) f)
    ∙ (λ i. record s {
      uses = (upd-twice s.uses f fresh free ∙ upd-own s.uses f free u) i;
      free = (ap (λ (x : ℕ). x ∷ rest) (sym same) ∙ sym l) i;
      pages = (upd-twice s.pages f zero_page [] ∙ upd-own s.pages f [] p) i;
    })

pub given_back : (s t : SpacesState) (f : ℕ) → fresh_of s ≡ Some (f, t) → s.uses f ≡ free → s.pages f ≡ [] → freed t f ≡ s
unfolding fresh_of
given_back s t f e u p = back_by s t s.free f refl e u p

fresh_used : (s t : SpacesState) (list : List ℕ) (f : ℕ) → fresh_from s list ≡ Some (f, t) → t.uses ≡ upd s.uses f fresh
fresh_used s t [] f e = absurd cc
fresh_used s t (g ∷ rest) f e =
    let pair : ◌≡◌ {A = ℕ × SpacesState} (g, taken s g rest zero_page) (f, t) = cc in
    sym (ap (λ p. p.1.uses) pair) ∙ ap (λ p. upd s.uses p.0 fresh) pair

pub fresh_directories : (s t : SpacesState) (f : ℕ) → KeepsDirectories s t → fresh_of s ≡ Some (f, t) → directories t ≡ directories s
unfolding fresh_of
fresh_directories s t f kept e = same_directories s t kept (no_more_at s t f fresh (fresh_used s t s.free f e) (λ k. absurd cc))
