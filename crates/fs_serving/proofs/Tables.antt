-- What a change of the table of open files leaves of it: places that it does not touch, and one that nobody has.
use Rattle.std.proofs.Common.{◌≡◌, ◌≢◌, ◌∙◌, ◌<◌, ◌≤◌, ◌+◌, ◌⊎◌, ◌^◌, inl, inr, ℕ, Bool, true, false, Option, Some, None, refl, sym, ap, subst, arith}
use Rattle.std.specs.Prelude.{◌==◌, is_some, nat_le}
use Rattle.std.proofs.lemmas.Bool.Decides.{Decides-eqb, not_from_Decides}
use Rattle.jos_base.specs.Words.{upd}
use Rattle.jos_base.proofs.Maps.{upd-at, upd-other}
use Rattle.fs_layout.specs.DiskImage.{is_directory_at}
use Rattle.fs_layout.specs.FileTree.{FileSystem}
use Rattle.fs_acts.specs.BlockActs.{put_word}
use Rattle.fs_acts.proofs.Stored.{stored-word, stored-word_left}
use Rattle.lib_os.specs.declared.numbers.TheConstants.{FD_DEVICE, FD_FILE, FD_MODE, FD_OFFSET, FD_SIZE, MAXOPEN}
use Rattle.lib_os.specs.AbstractState.{AbstractState, Object, OpenFile, Server, TablePlace, file}
use Rattle.lib_os.specs.Descriptors.{is_held}
use Rattle.lib_os.specs.FileServer.{is_held_by}
use Rattle.fs_serving.specs.ServerRuns.{HasFile, PlaceStands, TableStands}
use Rattle.fs_serving.specs.ServerViews.{View, page_word, with_page_word, with_word, word_of}

-- ---- which place

-- a place is that at hand, or another
pub or-other : {X : Type 0} (n k : ℕ) → (n ≡ k → X) → (n ≢ k → X) → X
or-other {X} n k same other = by_test (n == k) refl
  where
    by_test : (b : Bool) → (n == k) ≡ b → X
    by_test true is = same ((Decides-eqb n k).0 is)
    by_test false is = other (not_from_Decides (n == k) (Decides-eqb n k) is)

-- ---- places

-- another state, in which the same objects are held
abbrev pub after : AbstractState → (ℕ → Object) → (ℕ → TablePlace) → ℕ → FileSystem → Server → AbstractState
after a objects opened next files server =
    record a { objects = objects; opened = opened; next_name = next; files = files; server = server }

pub file-kept : (disk : ℕ → ℕ) (a : AbstractState) (objects : ℕ → Object) (opened : ℕ → TablePlace) (next : ℕ) (files : FileSystem)
    (server : Server) (v w : View) (number name : ℕ) →
    w.homes number ≡ v.homes number → w.pages number ≡ v.pages number → objects name ≡ a.objects name →
    HasFile disk a v number name → HasFile disk (after a objects opened next files server) w number name
file-kept disk a objects opened next files server v w number name home page object has =
    record {
      f = has.f;
      is = object ∙ has.is;
      home = has.home ∙ ap (λ (n : ℕ). Some n) (sym home);
      regular = ap (is_directory_at disk) home ∙ has.regular;
      there = ap (λ (p : Option (ℕ → ℕ)). is_some p) page ∙ has.there;
      device = ap (λ (p : Option (ℕ → ℕ)). word_of p FD_DEVICE) page ∙ has.device;
      offset = ap (λ (p : Option (ℕ → ℕ)). word_of p FD_OFFSET) page ∙ has.offset;
      mode = ap (λ (p : Option (ℕ → ℕ)). word_of p FD_MODE) page ∙ has.mode;
      size = ap (λ (p : Option (ℕ → ℕ)). word_of p FD_SIZE) page ∙ has.size;
      number_is = ap (λ (p : Option (ℕ → ℕ)). word_of p FD_FILE) page ∙ has.number_is;
      small = has.small;
      sized = has.sized;
    }

pub place-kept : (disk : ℕ → ℕ) (a : AbstractState) (objects : ℕ → Object) (opened : ℕ → TablePlace) (next : ℕ) (files : FileSystem)
    (server : Server) (v w : View) (number : ℕ) →
    opened number ≡ a.opened number → w.homes number ≡ v.homes number → w.pages number ≡ v.pages number →
    (v.homes number ≢ 0 → w.holders (w.frames number) ≡ v.holders (v.frames number)) →
    ((name : ℕ) → (a.opened number).held_by ≡ Some name → is_held a name ≡ true → objects name ≡ a.objects name) →
    PlaceStands disk a v number → PlaceStands disk (after a objects opened next files server) w number
place-kept disk a objects opened next files server v w number same home page count object stands =
    record {
      unused = λ none. ap (λ (p : TablePlace). p.held_by) same ∙ stands.unused (sym home ∙ none);
      there = λ some. ap (λ (p : Option (ℕ → ℕ)). is_some p) page ∙ stands.there (λ none. some (home ∙ none));
      used = λ is. ap (λ (p : TablePlace). p.used) same ∙ stands.used (ap (λ (p : Option (ℕ → ℕ)). is_some p) (sym page) ∙ is);
      counts =
          λ some.
          ap (λ (p : TablePlace). is_held_by a p.held_by) same ∙ stands.counts (λ none. some (home ∙ none))
          ∙ ap (nat_le 2) (sym (count (λ none. some (home ∙ none))));
      holds =
          λ name is held.
          let was : (a.opened number).held_by ≡ Some name = ap (λ (p : TablePlace). p.held_by) (sym same) ∙ is in
          file-kept disk a objects opened next files server v w number name home page (object name was held) (stands.holds name was held);
    }

pub no-name : {X : Type 0} (held : Option ℕ) (name : ℕ) → held ≡ None → held ≡ Some name → X
no-name held name none is = let both : ◌≡◌ {A = Option ℕ} None (Some name) = sym none ∙ is in absurd (cc)

-- a place that nobody has
pub place-free : (disk : ℕ → ℕ) (a : AbstractState) (w : View) (number : ℕ) → (a.opened number).held_by ≡ None →
    (is_some (w.pages number) ≡ true → (a.opened number).used ≡ true) →
    (w.homes number ≢ 0 → (is_some (w.pages number) ≡ true) × (nat_le 2 (w.holders (w.frames number)) ≡ false)) → PlaceStands disk a w number
place-free disk a w number free used page =
    record {
      unused = λ none. free;
      there = λ some. (page some).0;
      used = used;
      counts = λ some. ap (is_held_by a) free ∙ sym (page some).1;
      holds = λ name is held. no-name (a.opened number).held_by name free is;
    }

-- ---- the table

-- another view, by which each place stands
pub table-seen : (disk : ℕ → ℕ) (a : AbstractState) (v w : View) (k : ℕ) → TableStands disk a v → PlaceStands disk a w k →
    ((number : ℕ) → number < MAXOPEN → number ≢ k → PlaceStands disk a w number) → TableStands disk a w
table-seen disk a v w k table here others =
    record {
      places =
          λ number below. or-other number k (λ same. subst (λ (n : ℕ). PlaceStands disk a w n) (sym same) here) (λ other. others number below other);
      held = table.held;
      alone = table.alone;
      old = table.old;
      old_held = table.old_held;
    }

-- nobody else has the page of a place that was used and is free
pub nobodys : (disk : ℕ → ℕ) (a : AbstractState) (v : View) (k : ℕ) → PlaceStands disk a v k → is_held_by a (a.opened k).held_by ≡ false →
    v.homes k ≢ 0 → (is_some (v.pages k) ≡ true) × (nat_le 2 (v.holders (v.frames k)) ≡ false)
nobodys disk a v k stands free some = (stands.there some, sym (stands.counts some) ∙ free)

-- a place that is free is taken
abbrev pub with_taken : AbstractState → ℕ → Server → AbstractState
with_taken a k server = after a a.objects (upd a.opened k (record { held_by = None; used = true })) a.next_name a.files server

pub table-taken : (disk : ℕ → ℕ) (a : AbstractState) (v : View) (k : ℕ) (server : Server) → k < MAXOPEN → is_held_by a (a.opened k).held_by ≡ false →
    TableStands disk a v → TableStands disk (with_taken a k server) v
table-taken disk a v k server below free table =
    record { places = places; held = held; alone = alone; old = old; old_held = table.old_held }
  where
    opened : ℕ → TablePlace
    opened = upd a.opened k (record { held_by = None; used = true })

    here : opened k ≡ record { held_by = None; used = true }
    here = upd-at a.opened k (record { held_by = None; used = true })

    other : (n : ℕ) → n ≢ k → opened n ≡ a.opened n
    other n ne = upd-other a.opened k (record { held_by = None; used = true }) n ne

    place : PlaceStands disk (with_taken a k server) v k
    place =
        place-free disk (with_taken a k server) v k (ap (λ (p : TablePlace). p.held_by) here) (λ is. ap (λ (p : TablePlace). p.used) here)
        (nobodys disk a v k (table.places k below) free)

    places : (n : ℕ) → n < MAXOPEN → PlaceStands disk (with_taken a k server) v n
    places n less =
        or-other n k (λ same. subst (λ (m : ℕ). PlaceStands disk (with_taken a k server) v m) (sym same) place)
        (λ ne.
        place-kept disk a a.objects opened a.next_name a.files server v v n (other n ne) refl refl (λ some. refl) (λ name is held. refl)
        (table.places n less))

    -- what has a name is another place
    was : (n name : ℕ) → (opened n).held_by ≡ Some name → (a.opened n).held_by ≡ Some name
    was n name is =
        or-other n k
        (λ same.
        no-name (opened n).held_by name (ap (λ (m : ℕ). (opened m).held_by) same ∙ ap (λ (p : TablePlace). p.held_by) here) is)
        (λ ne. ap (λ (p : TablePlace). p.held_by) (sym (other n ne)) ∙ is)

    held : (name : ℕ) (f : OpenFile) → is_held a name ≡ true → a.objects name ≡ file f →
        (number : ℕ) × (number < MAXOPEN) × ((opened number).held_by ≡ Some name)
    held name f is object =
        let at = table.held name f is object in
        or-other at.0 k
        (λ same.
        let now : is_held_by a (a.opened k).held_by ≡ true =
        ap (λ (n : ℕ). is_held_by a (a.opened n).held_by) (sym same) ∙ ap (is_held_by a) at.2 ∙ is in
        absurd (cc))
        (λ ne. (at.0, at.1, ap (λ (p : TablePlace). p.held_by) (other at.0 ne) ∙ at.2))

    alone : (n m name : ℕ) → (opened n).held_by ≡ Some name → (opened m).held_by ≡ Some name → n ≡ m
    alone n m name first second = table.alone n m name (was n name first) (was m name second)

    old : (n name : ℕ) → (opened n).held_by ≡ Some name → name < a.next_name
    old n name is = table.old n name (was n name is)

-- ---- a word of a page

word-told : (page : Option (ℕ → ℕ)) (at word : ℕ) → word < 2 ^ 32 → is_some page ≡ true → word_of (with_word page at word) at ≡ word
word-told None at word small some = absurd (cc)
word-told (Some bytes) at word small some = stored-word bytes at word small

word-left : (page : Option (ℕ → ℕ)) (at word q : ℕ) → (q + 4 ≤ at) ⊎ (at + 4 ≤ q) → word_of (with_word page at word) q ≡ word_of page q
word-left None at word q apart = refl
word-left (Some bytes) at word q (inl before) =
    stored-word_left (put_word at word) bytes q (inl (omega (arith, before))) (inl (omega (arith, before))) (inl (omega (arith, before)))
    (inl (omega (arith, before)))
word-left (Some bytes) at word q (inr behind) =
    stored-word_left (put_word at word) bytes q (inr behind) (inr (omega (arith, behind))) (inr (omega (arith, behind))) (inr (omega (arith, behind)))

still-some : (page : Option (ℕ → ℕ)) (at word : ℕ) → is_some (with_word page at word) ≡ is_some page
still-some None at word = refl
still-some (Some bytes) at word = refl

-- it is told by the page, and the others stay
pub page-told : (v : View) (k at word : ℕ) → word < 2 ^ 32 → is_some (v.pages k) ≡ true → page_word (with_page_word v k at word) k at ≡ word
page-told v k at word small some =
    ap (λ (p : Option (ℕ → ℕ)). word_of p at) (upd-at v.pages k (with_word (v.pages k) at word)) ∙ word-told (v.pages k) at word small some

pub page-left : (v : View) (k at word q : ℕ) → (q + 4 ≤ at) ⊎ (at + 4 ≤ q) → page_word (with_page_word v k at word) k q ≡ page_word v k q
page-left v k at word q apart =
    ap (λ (p : Option (ℕ → ℕ)). word_of p q) (upd-at v.pages k (with_word (v.pages k) at word)) ∙ word-left (v.pages k) at word q apart

pub page-there : (v : View) (k at word : ℕ) → is_some ((with_page_word v k at word).pages k) ≡ is_some (v.pages k)
page-there v k at word =
    ap (λ (p : Option (ℕ → ℕ)). is_some p) (upd-at v.pages k (with_word (v.pages k) at word)) ∙ still-some (v.pages k) at word

-- a word in the page of a place that nobody has
pub table-told : (disk : ℕ → ℕ) (a : AbstractState) (v : View) (k at word : ℕ) → k < MAXOPEN → (a.opened k).held_by ≡ None →
    TableStands disk a v → TableStands disk a (with_page_word v k at word)
table-told disk a v k at word below free table =
    table-seen disk a v (with_page_word v k at word) k table
    (place-free disk a (with_page_word v k at word) k free (λ is. (table.places k below).used (sym (page-there v k at word) ∙ is))
    (λ some.
    let was = nobodys disk a v k (table.places k below) (ap (is_held_by a) free) some in
    (page-there v k at word ∙ was.0, was.1)))
    (λ n less ne.
    place-kept disk a a.objects a.opened a.next_name a.files a.server v (with_page_word v k at word) n refl refl
    (upd-other v.pages k (with_word (v.pages k) at word) n ne) (λ some. refl) (λ name is held. refl) (table.places n less))
