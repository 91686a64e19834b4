-- The kernel's state goes on standing for the abstract one where an environment ends: its space is gone, nobody else's is
-- seen to change, and its slot is the next to be given.
use Rattle.std.proofs.Common.{◌≡◌, ◌≢◌, ◌∙◌, ◌<◌, ◌==◌, ◌%◌, ℕ, Bool, true, false, None, List, ◌∷◌, refl, sym, ap, subst, arith}
use Rattle.std.proofs.lemmas.Bool.Decides.{nat_tests}
use Rattle.std.specs.Prelude.{Some}
use Rattle.std.proofs.lemmas.Option.{none-some}
use Rattle.jos_base.specs.declared.numbers.TheConstants.{NENV}
use Rattle.jos_base.specs.Environments.{Slot, free_slot, is_live as is_live_slot}
use Rattle.jos_base.specs.KernelState.{KernelState, slot_at}
use Rattle.jos_base.specs.Reach.{Entry}
use Rattle.jos_base.specs.SpacesState.{SpacesState, destroyed}
use Rattle.jos_base.specs.SystemCalls.{without_environment}
use Rattle.lib_os.specs.AbstractState.{AbstractState, Born, AbstractSlot, free, unborn, born}
use Rattle.lib_os.specs.AbstractMemory.{slot_freed}
use Rattle.lib_os.specs.declared.numbers.TheConstants.{DESCRIPTORS}
use Rattle.lib_os.specs.DescriptorPages.{lasting_words, lock_of}
use Rattle.lib_os.specs.InOrder.{IsInOrder}
use Rattle.lib_os.specs.PipeEnds.{EndsStandAt, HoldsLock, LocksStand, locked_at}
use Rattle.lib_os.specs.Places.{place_of}
use Rattle.lib_os.specs.Rows.{Names, Rows, rows_of, logical, pipe_page, IsPage}
use Rattle.lib_os.specs.StandsFor.{StandsFor, StandsForSlot, borne_in, things_in}
use Rattle.lib_os.proofs.Effects.{Gone}
use Rattle.lib_os.proofs.EntriesStand.{RowsStand, named_bytes, rows_turned}
use Rattle.lib_os.proofs.SlotsStand.{SeenAlike, born_at, born_live}
use Rattle.lib_os.proofs.Children.{born_bears_none, children_kept}
use Rattle.lib_os.proofs.StatesStand.{old_gone, row_other, server_alike, server_same, servers_seen}
use Rattle.lib_os.proofs.PipesStand.{calm_locked, is_calm}
use Rattle.lib_os.proofs.StatesStand.{born_not_first, directories_apart, others_counts, others_ends, others_stand, others_count, tabled_freed, turns_set}
use Rattle.lib_os.proofs.Logical.{logical_some}
use Rattle.jos_base.specs.Words.{upd}
use Rattle.jos_base.proofs.Maps.{upd-at, upd-other, upd-both}

-- what stands after a space is gone stood there before
pub gone_kept : {s t : SpacesState} {d : ℕ} → Gone s t d → (q r : ℕ) (x : Entry) → rows_of t q r ≡ Some x → rows_of s q r ≡ Some x
gone_kept {s = s} {t = t} {d = d} gone q r x hx = by_test (q == d) refl
  where
    by_test : (c : Bool) → (q == d) ≡ c → rows_of s q r ≡ Some x
    by_test true test =
        let at : q ≡ d = grind (arith, nat_tests) in
        absurd (none-some x (sym (gone.empty r) ∙ subst (λ (m : ℕ). rows_of t m r ≡ Some x) at hx))
    by_test false test = let other : q ≢ d = grind (arith, nat_tests) in sym (gone.rows q r other) ∙ hx

-- ---- locks, where pages go

-- What stands of pages of pipes stood before, with the same bytes; who holds a lock held it, and who held one holds it, by the same entry.
pub locks_left : {pages after : ℕ → List ℕ} {slots slots_after : ℕ → Slot} {rows rows_after : Rows} →
    ((m fd : ℕ) (x : Entry) → fd < DESCRIPTORS → locked_at (place_of (slots_after m)) ≡ Some fd → rows_after m (pipe_page fd) ≡ Some x →
    locked_at (place_of (slots m)) ≡ Some fd) →
    ((m fd : ℕ) (x : Entry) → fd < DESCRIPTORS → locked_at (place_of (slots m)) ≡ Some fd → rows m (pipe_page fd) ≡ Some x →
    (locked_at (place_of (slots_after m)) ≡ Some fd) × (rows_after m (pipe_page fd) ≡ Some x)) →
    ((m fd : ℕ) (x : Entry) → fd < DESCRIPTORS → rows_after m (pipe_page fd) ≡ Some x →
    (rows m (pipe_page fd) ≡ Some x) × (after x.frame ≡ pages x.frame)) →
    LocksStand pages slots rows → LocksStand after slots_after rows_after
locks_left {pages = pages} {after = after} {slots = slots} {slots_after = slots_after} {rows = rows} {rows_after = rows_after} back forth still h = record {
  held = λ n frame holds.
      ap lock_of (sym (ap after holds.same) ∙ (still n holds.fd holds.entry holds.below holds.stands).1 ∙ ap pages holds.same)
      ∙ h.held n frame (before n frame holds);
  holder = λ n fd entry below stands shared_page some.
      let was = still n fd entry below stands in
      let found = h.holder n fd entry below was.0 shared_page (λ zero. some (ap lock_of was.1 ∙ zero)) in
      (found.0, behind found.0 entry.frame found.1);
  alone = λ n m frame holds too. h.alone n m frame (before n frame holds) (before m frame too);
}
  where
    before : (n frame : ℕ) → HoldsLock (place_of (slots_after n)) (rows_after n) frame → HoldsLock (place_of (slots n)) (rows n) frame
    before n frame holds = record {
      fd = holds.fd;
      locked = back n holds.fd holds.entry holds.below holds.locked holds.stands;
      below = holds.below;
      entry = holds.entry;
      stands = (still n holds.fd holds.entry holds.below holds.stands).0;
      shared = holds.shared;
      same = holds.same;
    }

    behind : (n frame : ℕ) → HoldsLock (place_of (slots n)) (rows n) frame → HoldsLock (place_of (slots_after n)) (rows_after n) frame
    behind n frame holds =
        let is = forth n holds.fd holds.entry holds.below holds.locked holds.stands in
        record { fd = holds.fd; locked = is.0; below = holds.below; entry = holds.entry; stands = is.1; shared = holds.shared; same = holds.same }

-- ---- the environment ends

pub gone_alike : {s t : SpacesState} {d : ℕ} (names : Names) → Gone s t d → (q : ℕ) → q ≢ d → SeenAlike names names s t q
gone_alike names gone q ne = record {
  rows = λ i. λ r. gone.rows q r ne i;
  bytes = λ r x hx own_page. gone.bytes q r x (gone.rows q r ne ∙ hx);
  named_so = λ r x hx shared_page. refl;
  devices = λ r x descriptor hx shared_page. ap lasting_words (gone.bytes q r x (gone.rows q r ne ∙ hx));
  pipes = λ r x pipes hx shared_page. gone.bytes q r x (gone.rows q r ne ∙ hx);
  regions = λ r. gone.regions q r ne;
}

pub ended_stands : {names : Names} {s : KernelState} {a : AbstractState} → StandsFor names s a → (n : ℕ) (b : Born) →
    a.slots n ≡ born b → borne_in (place_of (slot_at s n)) ≡ None → is_calm (place_of (slot_at s n)) ≡ true → s.last ≡ Some n →
    Gone s.spaces (destroyed s.spaces (slot_at s n).directory) (slot_at s n).directory →
    IsInOrder (without_environment s n) → StandsFor names (without_environment s n) (slot_freed a n b)
ended_stands {names = names} {s = s} {a = a} h n b at unborne calm last gone in_order =
    let rows = rows_turned
    (row_other t s.environments.slots n (free_slot (slot_at s n).id) (born_not_first h n b at)
    ∙ (servers_seen h n b at (gone_alike names gone)).rows) rows_left in
    record {
      slots = upd-both (λ m (x : Slot) (y : AbstractSlot). StandsForSlot names t x y) s.environments.slots a.slots n
          (free_slot (slot_at s n).id) (free b.id) (ap (λ (id : ℕ). free_slot id) (born_at h n b at).id)
          (others_stand h n b at (gone_alike names gone) (others_counts h n last t));
      ends = upd-both (λ m (x : Slot) (y : AbstractSlot). EndsStandAt names a.objects (place_of x) (rows_of t x.directory) y) s.environments.slots a.slots n
          (free_slot (slot_at s n).id) (free b.id) tt (others_ends h n b at (gone_alike names gone));
      locks = locks;
      runs = turns_set s.environments.slots n (free_slot (slot_at s n).id) h.runs (omega arith);
      old = old_gone h.old n (free b.id) (λ c is. let contradiction : free b.id ≡ born c = is in absurd cc);
      children = children_kept h.children n (λ m ne. upd-other s.environments.slots n (free_slot (slot_at s n).id) m ne)
          (λ m ne. upd-other a.slots n (free b.id) m ne)
          (λ m ne live. gone_alike names gone (slot_at s m).directory (directories_apart h n b at m ne live))
          (born_bears_none (slot_at s n) (a.slots n) b at unborne)
          (record {
            bears = λ c is. let contradiction : free b.id ≡ born c = sym (upd-at a.slots n (free b.id)) ∙ is in absurd cc;
            no_child = λ id parent is. let contradiction : free b.id ≡ unborn id parent = sym (upd-at a.slots n (free b.id)) ∙ is in absurd cc;
          });
      apart = rows.apart;
      named = rows.named;
      users = rows.users;
      whole = rows.whole;
      beside = rows.beside;
      free_slots = record {
        same = ap (λ (slots : List ℕ). n ∷ slots) h.free_slots.same;
        within = (let here : (slot_at s n).id % NENV ≡ n = h.tabled.ids n (born_live (born_at h n b at)) in omega (arith, here), h.free_slots.within);
      };
      first = upd-other a.slots n (free b.id) 0 (born_not_first h n b at) ∙ h.first;
      server = server_same (upd-other s.environments.slots n (free_slot (slot_at s n).id) 0 (born_not_first h n b at))
          (server_alike (servers_seen h n b at (gone_alike names gone)) h.server);
      input = h.input;
      last = h.last;
      turns = h.turns;
      tabled = tabled_freed h.tabled n (slot_at s n).id;
      in_order = in_order;
    }
  where
    t : SpacesState
    t = destroyed s.spaces (slot_at s n).directory

    after : ℕ → Slot
    after = upd s.environments.slots n (free_slot (slot_at s n).id)

    -- what counts still counted before, with the same bytes
    still : (q r : ℕ) (x : Entry) → logical t after q r ≡ Some x →
        (logical s.spaces s.environments.slots q r ≡ Some x) × (t.pages x.frame ≡ s.spaces.pages x.frame)
    still q r x hx = by_slot (q == n) refl
      where
        by_slot : (c : Bool) → (q == n) ≡ c → (logical s.spaces s.environments.slots q r ≡ Some x) × (t.pages x.frame ≡ s.spaces.pages x.frame)
        by_slot true test =
            let same : q ≡ n = grind (arith, nat_tests) in
            let dead : after n ≡ free_slot (slot_at s n).id = upd-at s.environments.slots n (free_slot (slot_at s n).id) in
            let live : is_live_slot (after n) ≡ true =
            (logical_some t after n r x (subst (λ (m : ℕ). logical t after m r ≡ Some x) same hx)).0 in
            absurd (let contradiction : false ≡ true = sym (ap (λ (k : Slot). is_live_slot k) dead) ∙ live in cc)
        by_slot false test =
            let other : q ≢ n = grind (arith, nat_tests) in
            let found = logical_some t after q r x hx in
            let slot : after q ≡ slot_at s q = upd-other s.environments.slots n (free_slot (slot_at s n).id) q other in (
              sym (others_count h n b at (free_slot (slot_at s n).id) (gone_alike names gone) q other r) ∙ hx,
              subst (λ (f : ℕ). t.pages f ≡ s.spaces.pages f) found.1.frame
                  (gone.bytes (slot_at s q).directory r found.1.entry
                  (subst (λ (k : Slot). rows_of t k.directory r ≡ Some found.1.entry) slot found.1.stands)),
            )

    -- the locks that are held are those of others
    dead : (r : ℕ) (x : Entry) → logical t after n r ≡ Some x → ⊥
    dead r x hx =
        let live : is_live_slot (after n) ≡ true = (logical_some t after n r x hx).0 in
        let contradiction : false ≡ true =
        sym (ap (λ (k : Slot). is_live_slot k) (upd-at s.environments.slots n (free_slot (slot_at s n).id))) ∙ live in cc

    other_lock : (m : ℕ) → m ≢ n → locked_at (place_of (after m)) ≡ locked_at (place_of (slot_at s m))
    other_lock m ne = ap (λ (k : Slot). locked_at (place_of k)) (upd-other s.environments.slots n (free_slot (slot_at s n).id) m ne)

    locks : LocksStand t.pages after (logical t after)
    locks = locks_left back forth (λ m fd x below stands. still m (pipe_page fd) x stands) h.locks
      where
        back : (m fd : ℕ) (x : Entry) → fd < DESCRIPTORS → locked_at (place_of (after m)) ≡ Some fd → logical t after m (pipe_page fd) ≡ Some x →
            locked_at (place_of (slot_at s m)) ≡ Some fd
        back m fd x below locked stands =
            sym (other_lock m (λ same. dead (pipe_page fd) x (subst (λ (q : ℕ). logical t after q (pipe_page fd) ≡ Some x) same stands))) ∙ locked

        forth : (m fd : ℕ) (x : Entry) → fd < DESCRIPTORS → locked_at (place_of (slot_at s m)) ≡ Some fd →
            logical s.spaces s.environments.slots m (pipe_page fd) ≡ Some x →
            (locked_at (place_of (after m)) ≡ Some fd) × (logical t after m (pipe_page fd) ≡ Some x)
        forth m fd x below locked stands =
            let ne : m ≢ n = λ same. none-some fd (sym (calm_locked (place_of (slot_at s n)) calm)
            ∙ ap (λ (q : ℕ). locked_at (place_of (slot_at s q))) (sym same) ∙ locked) in (
              other_lock m ne ∙ locked,
              others_count h n b at (free_slot (slot_at s n).id) (gone_alike names gone) m ne (pipe_page fd) ∙ stands,
            )

    rows_left : RowsStand names t.pages a.shared (things_in s a) a.next_name (logical t after)
    rows_left = record {
      apart = λ q r m o x y ne hx hy same.
          h.apart q r m o x y ne (still q r x hx).0 (still m o y hy).0 same;
      named = λ q r x hx shared_page. let before = still q r x hx in
          named_bytes (sym before.1) (h.named q r x before.0 shared_page);
      users = λ q r x hx. h.users q r x (still q r x hx).0;
      whole = λ q r x hx. let before = still q r x hx in subst (λ (l : List ℕ). IsPage l) (sym before.1) (h.whole q r x before.0);
      beside = λ q r p x e hx is. h.beside q r p x e (still q r x hx).0 is;
    }
