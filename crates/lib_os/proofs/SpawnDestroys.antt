-- Spawn destroys the child that it bears: its space is gone, nobody else's is seen to change, its slot is the next to be given, and spawn bears none.
use Rattle.std.proofs.Common.{◌≡◌, ◌≢◌, ◌∙◌, ◌<◌, ◌%◌, ℕ, true, false, List, ◌∷◌, None, Some, refl, sym, ap, subst, arith}
use Rattle.std.proofs.lemmas.Option.{none-some, same_Some}
use Rattle.jos_base.specs.declared.numbers.TheConstants.{NENV}
use Rattle.jos_base.specs.Environments.{Slot, free_slot, is_live as is_live_slot}
use Rattle.jos_base.specs.KernelState.{KernelState, slot_at, with_slot_at}
use Rattle.jos_base.specs.Reach.{Entry}
use Rattle.jos_base.specs.SpacesState.{SpacesState, destroyed}
use Rattle.jos_base.specs.SystemCalls.{without_environment}
use Rattle.jos_base.specs.Words.{upd}
use Rattle.lib_os.specs.declared.numbers.TheConstants.{DESCRIPTORS}
use Rattle.lib_os.specs.AbstractState.{AbstractState, AbstractSlot, Born, born, free, is_live, unborn, with_born, with_slot}
use Rattle.lib_os.specs.InOrder.{IsInOrder}
use Rattle.lib_os.specs.PipeEnds.{EndsStandAt, LocksStand, locked_at}
use Rattle.lib_os.specs.Places.{place_of}
use Rattle.lib_os.specs.Rows.{EntryRow, IsPage, Names, counted, is_clients, logical, pipe_page, rows_of}
use Rattle.lib_os.specs.StandsFor.{IsBorneBy, StandsFor, StandsForBorn, StandsForSlot, StandsForUnborn, borne_in, things_in}
use Rattle.lib_os.proofs.Bearing.{of_slots}
use Rattle.lib_os.proofs.BearsOn.{bearer_named, borne_apart, borne_is, borne_lives, borne_not_first, borne_own, borne_space}
use Rattle.lib_os.proofs.Children.{borne_moved, of_parent, same_child}
use Rattle.lib_os.proofs.Effects.{Gone}
use Rattle.lib_os.proofs.EndsStand.{gone_alike, locks_left}
use Rattle.lib_os.proofs.EntriesStand.{RowsStand, named_bytes, rows_turned}
use Rattle.lib_os.proofs.Logical.{clients_so, logical_alike, logical_live, logical_some}
use Rattle.lib_os.proofs.Serving.{words_of_none}
use Rattle.lib_os.proofs.PipesStand.{calm_locked, calm_places, ends_moved, ends_stay, is_calm}
use Rattle.lib_os.proofs.SlotsStand.{SeenAlike, born_at, born_live, but_pipes, live_stands, slot_stands}
use Rattle.lib_os.proofs.StatesStand.{CountsAlike, Settles, born_not_first, clients_live, ends_at, old_gone, old_stays, others_counts, server_alike, server_same}
use Rattle.lib_os.proofs.StatesStand.{tabled_freed, tabled_set, turns_set, turns_settle}
use Rattle.jos_base.proofs.Maps.{upd-at, upd-other}

module _ {names : Names} {s : KernelState} {a : AbstractState} (h : StandsFor names s a) (n id : ℕ) (b : Born) (is : a.slots n ≡ born b)
    (bears : borne_in (place_of (slot_at s n)) ≡ Some id)
    (gone : Gone s.spaces (destroyed s.spaces (slot_at s (id % NENV)).directory) (slot_at s (id % NENV)).directory) where
  abbrev m : ℕ
  m = id % NENV

  abbrev t : SpacesState
  t = destroyed s.spaces (slot_at s m).directory

  -- the bearer's own space is seen as it was
  pub bearer_seen : SeenAlike names names s.spaces (destroyed s.spaces (slot_at s (id % NENV)).directory) (slot_at s n).directory
  bearer_seen = gone_alike names gone (slot_at s n).directory (λ same. borne_space h n id b is bears (sym same))

  module _ (k : Slot) (c : Born) (same_id : c.id ≡ b.id) (same_space : k.directory ≡ (slot_at s n).directory) (settles : Settles (slot_at s n) k)
      (bears_none : borne_in (place_of k) ≡ None) (calm : is_calm (place_of (slot_at s n)) ≡ true) (calm_after : is_calm (place_of k) ≡ true)
      (alike : CountsAlike (place_of (slot_at s n)) (place_of k)) (last : s.last ≡ Some n)
      (mine : StandsForBorn names (destroyed s.spaces (slot_at s (id % NENV)).directory) k c) (same_descriptors : (fd : ℕ) → c.descriptors fd ≡ b.descriptors fd)
      (in_order : IsInOrder (with_slot_at (without_environment s (id % NENV)) n k)) where
    abbrev freed : Slot
    freed = free_slot (slot_at s m).id

    abbrev slots_after : ℕ → Slot
    slots_after = upd (upd s.environments.slots m freed) n k

    abbrev abstract_after : ℕ → AbstractSlot
    abstract_after = upd (upd a.slots m (free id)) n (born c)

    apart : m ≢ n
    apart = borne_apart h n id b is bears

    own_id : (slot_at s m).id ≡ id
    own_id = (borne_own h n id b is bears).id_is

    bearer_after : slots_after n ≡ k
    bearer_after = upd-at (upd s.environments.slots m freed) n k

    freed_after : slots_after m ≡ freed
    freed_after = upd-other (upd s.environments.slots m freed) n k m apart ∙ upd-at s.environments.slots m freed

    others_after : (j : ℕ) → j ≢ n → j ≢ m → slots_after j ≡ slot_at s j
    others_after j ne other = upd-other (upd s.environments.slots m freed) n k j ne ∙ upd-other s.environments.slots m freed j other

    mine_is : abstract_after n ≡ born c
    mine_is = upd-at (upd a.slots m (free id)) n (born c)

    free_is : abstract_after m ≡ free id
    free_is = upd-other (upd a.slots m (free id)) n (born c) m apart ∙ upd-at a.slots m (free id)

    others_are : (j : ℕ) → j ≢ n → j ≢ m → abstract_after j ≡ a.slots j
    others_are j ne other = upd-other (upd a.slots m (free id)) n (born c) j ne ∙ upd-other a.slots m (free id) j other

    -- the spaces of all others
    seen : (j : ℕ) → j ≢ m → is_live (a.slots j) ≡ true → SeenAlike names names s.spaces t (slot_at s j).directory
    seen j other live =
        gone_alike names gone (slot_at s j).directory
        (λ same. other (h.in_order.spaces.apart j m (live_stands h j ∙ live) (borne_lives h n id b is bears) same))

    server_after : slots_after 0 ≡ slot_at s 0
    server_after = others_after 0 (born_not_first h n b is) (borne_not_first h n id b is bears)

    server_seen : SeenAlike names names s.spaces t (slot_at s 0).directory
    server_seen = seen 0 (borne_not_first h n id b is bears) (ap (λ (x : AbstractSlot). is_live x) h.first)

    slots_stand : (j : ℕ) → StandsForSlot names t (slots_after j) (abstract_after j)
    slots_stand =
        of_slots n m (λ j. StandsForSlot names t (slots_after j) (abstract_after j))
        (subst (λ (x : Slot). StandsForSlot names t x (abstract_after n)) (sym bearer_after)
        (subst (λ (y : AbstractSlot). StandsForSlot names t k y) (sym mine_is) mine))
        (subst (λ (x : Slot). StandsForSlot names t x (abstract_after m)) (sym freed_after)
        (subst (λ (y : AbstractSlot). StandsForSlot names t freed y) (sym free_is) (ap (λ (i : ℕ). free_slot i) own_id)))
        (λ j ne other.
        subst (λ (x : Slot). StandsForSlot names t x (abstract_after j)) (sym (others_after j ne other))
        (subst (λ (y : AbstractSlot). StandsForSlot names t (slot_at s j) y) (sym (others_are j ne other))
        (slot_stands names names s.spaces t (slot_at s j) (a.slots j) (h.slots j) (seen j other) (others_counts h n last t j ne))))

    -- ---- what counts

    dead : (r : ℕ) (x : Entry) → logical t slots_after m r ≡ Some x → ⊥
    dead r x hx =
        let live : is_live_slot (slots_after m) ≡ true = (logical_some t slots_after m r x hx).0 in
        let contradiction : false ≡ true = sym (ap (λ (y : Slot). is_live_slot y) freed_after) ∙ live in cc

    -- of another slot, and of the bearer's, what counted counts
    other_counts : (j : ℕ) → j ≢ n → j ≢ m → (p : ℕ) → logical t slots_after j p ≡ logical s.spaces s.environments.slots j p
    other_counts j ne other p =
        let slot = others_after j ne other in
        logical_alike s.spaces t s.environments.slots slots_after j (ap (λ (x : Slot). is_live_slot x) slot) (ap (λ (x : Slot). place_of x) slot)
        (λ live. ap (λ (x : Slot). rows_of t x.directory) slot ∙ (seen j other (sym (live_stands h j) ∙ live)).rows) p

    own_counts : (p : ℕ) → logical t slots_after n p ≡ logical s.spaces s.environments.slots n p
    own_counts p =
        logical_live t slots_after n (ap (λ (x : Slot). is_clients n x) bearer_after ∙ mine_counts) p
        ∙ ap (λ (x : Slot). counted (place_of x) (rows_of t x.directory) p) bearer_after
        ∙ ap (λ (d : ℕ). counted (place_of k) (rows_of t d) p) same_space
        ∙ ap (λ (row : EntryRow). counted (place_of k) row p) bearer_seen.rows
        ∙ alike (rows_of s.spaces (slot_at s n).directory) p
        ∙ sym (logical_live s.spaces s.environments.slots n (clients_live h n b is) p)
      where
        mine_counts : is_clients n k ≡ true
        mine_counts = clients_so n k (born_not_first h n b is) (born_live mine)

    -- what counts still counted before, with the same bytes
    still : (q r : ℕ) (x : Entry) → logical t slots_after q r ≡ Some x →
        (logical s.spaces s.environments.slots q r ≡ Some x) × (t.pages x.frame ≡ s.spaces.pages x.frame)
    still q r x hx = (was q r x hx, bytes)
      where
        was : (q r : ℕ) (x : Entry) → logical t slots_after q r ≡ Some x → logical s.spaces s.environments.slots q r ≡ Some x
        was =
            of_slots n m (λ q. (r : ℕ) (x : Entry) → logical t slots_after q r ≡ Some x → logical s.spaces s.environments.slots q r ≡ Some x)
            (λ r x hx. sym (own_counts r) ∙ hx) (λ r x hx. absurd (dead r x hx)) (λ q ne other r x hx. sym (other_counts q ne other r) ∙ hx)

        bytes : t.pages x.frame ≡ s.spaces.pages x.frame
        bytes =
            let found = (logical_some t slots_after q r x hx).1 in
            subst (λ (f : ℕ). t.pages f ≡ s.spaces.pages f) found.frame (gone.bytes (slots_after q).directory r found.entry found.stands)

    rows_left : RowsStand names t.pages a.shared (things_in s a) a.next_name (logical t slots_after)
    rows_left = record {
      apart = λ q r j o x y ne hx hy same. h.apart q r j o x y ne (still q r x hx).0 (still j o y hy).0 same;
      named = λ q r x hx shared_page. let before = still q r x hx in named_bytes (sym before.1) (h.named q r x before.0 shared_page);
      users = λ q r x hx. h.users q r x (still q r x hx).0;
      whole = λ q r x hx. let before = still q r x hx in subst (λ (l : List ℕ). IsPage l) (sym before.1) (h.whole q r x before.0);
      beside = λ q r p x e hx it. h.beside q r p x e (still q r x hx).0 it;
    }

    turned : RowsStand names t.pages a.shared (record (things_in s a) { row = rows_of t (slots_after 0).directory }) a.next_name (logical t slots_after)
    turned = rows_turned (ap (λ (x : Slot). rows_of t x.directory) server_after ∙ server_seen.rows) rows_left

    -- ---- ends of pipes, and locks

    ends : (j : ℕ) → EndsStandAt names a.objects (place_of (slots_after j)) (rows_of t (slots_after j).directory) (abstract_after j)
    ends =
        of_slots n m (λ j. EndsStandAt names a.objects (place_of (slots_after j)) (rows_of t (slots_after j).directory) (abstract_after j))
        (subst (λ (x : Slot). EndsStandAt names a.objects (place_of x) (rows_of t x.directory) (abstract_after n)) (sym bearer_after)
        (subst (λ (y : AbstractSlot). EndsStandAt names a.objects (place_of k) (rows_of t k.directory) y) (sym mine_is)
        (ends_moved (calm_places calm calm_after) same_descriptors (λ fd name it. refl)
        (λ fd below. ap (λ (d : ℕ). rows_of t d (pipe_page fd)) same_space ∙ ap (λ (row : EntryRow). row (pipe_page fd)) bearer_seen.rows)
        (λ fd x below it. refl) (ends_at h n b is))))
        (subst (λ (y : AbstractSlot). EndsStandAt names a.objects (place_of (slots_after m)) (rows_of t (slots_after m).directory) y) (sym free_is) tt)
        (λ j ne other.
        subst (λ (x : Slot). EndsStandAt names a.objects (place_of x) (rows_of t x.directory) (abstract_after j)) (sym (others_after j ne other))
        (subst (λ (y : AbstractSlot). EndsStandAt names a.objects (place_of (slot_at s j)) (rows_of t (slot_at s j).directory) y) (sym (others_are j ne other))
        (ends_stay names names s.spaces t a.objects (slot_at s j) (a.slots j) (h.slots j) (λ live. but_pipes (seen j other live)) (h.ends j))))

    -- the bearer holds no lock, and the child held none
    none_before : (j fd : ℕ) (x : Entry) → locked_at (place_of (slot_at s j)) ≡ Some fd → logical s.spaces s.environments.slots j (pipe_page fd) ≡ Some x →
        (j ≢ n) × (j ≢ m)
    none_before j fd x locked stands = (
      (λ same. none-some fd (sym (calm_locked (place_of (slot_at s n)) calm) ∙ ap (λ (q : ℕ). locked_at (place_of (slot_at s q))) (sym same) ∙ locked)),
      (λ same.
          let own = borne_own h n id b is bears in
          none-some fd (sym (ap locked_at (words_of_none (slot_at s m).registers (slot_at s m).extra own.stack own.words))
          ∙ ap (λ (q : ℕ). locked_at (place_of (slot_at s q))) (sym same) ∙ locked)),
    )

    none_after : (j fd : ℕ) (x : Entry) → locked_at (place_of (slots_after j)) ≡ Some fd → logical t slots_after j (pipe_page fd) ≡ Some x →
        (j ≢ n) × (j ≢ m)
    none_after j fd x locked stands = (
      (λ same. none-some fd (sym (ap (λ (y : Slot). locked_at (place_of y)) bearer_after ∙ calm_locked (place_of k) calm_after)
          ∙ ap (λ (q : ℕ). locked_at (place_of (slots_after q))) (sym same) ∙ locked)),
      (λ same. dead (pipe_page fd) x (subst (λ (q : ℕ). logical t slots_after q (pipe_page fd) ≡ Some x) same stands)),
    )

    locks : LocksStand t.pages slots_after (logical t slots_after)
    locks = locks_left back forth (λ j fd x below stands. still j (pipe_page fd) x stands) h.locks
      where
        back : (j fd : ℕ) (x : Entry) → fd < DESCRIPTORS → locked_at (place_of (slots_after j)) ≡ Some fd → logical t slots_after j (pipe_page fd) ≡ Some x →
            locked_at (place_of (slot_at s j)) ≡ Some fd
        back j fd x below locked stands =
            let other = none_after j fd x locked stands in
            ap (λ (y : Slot). locked_at (place_of y)) (sym (others_after j other.0 other.1)) ∙ locked

        forth : (j fd : ℕ) (x : Entry) → fd < DESCRIPTORS → locked_at (place_of (slot_at s j)) ≡ Some fd →
            logical s.spaces s.environments.slots j (pipe_page fd) ≡ Some x →
            (locked_at (place_of (slots_after j)) ≡ Some fd) × (logical t slots_after j (pipe_page fd) ≡ Some x)
        forth j fd x below locked stands =
            let other = none_before j fd x locked stands in (
              ap (λ (y : Slot). locked_at (place_of y)) (others_after j other.0 other.1) ∙ locked,
              other_counts j other.0 other.1 (pipe_page fd) ∙ stands,
            )

    -- ---- who bears whom

    abbrev Bears : ℕ → ℕ → ℕ → Type 0
    Bears j child_id parent = IsBorneBy names t (slots_after (parent % NENV)) (abstract_after (parent % NENV)) (slots_after j) child_id parent

    others_borne : (j child_id parent : ℕ) → j ≢ n → j ≢ m → a.slots j ≡ unborn child_id parent → Bears j child_id parent
    others_borne j child_id parent ne other at =
        let was = h.children.borne j child_id parent at in
        let parents = of_parent was in
        let p = parent % NENV in
        let own : StandsForUnborn (slot_at s j) child_id parent =
        subst (λ (y : AbstractSlot). StandsForSlot names s.spaces (slot_at s j) y) at (h.slots j) in
        let lives : is_live_slot (slot_at s j) ≡ true = live_stands h j ∙ ap (λ (x : AbstractSlot). is_live x) at in
        let here : child_id % NENV ≡ j = ap (λ (q : ℕ). q % NENV) (sym own.id_is) ∙ h.tabled.ids j lives in
        let other_parent : p ≢ n = λ same.
        let one : child_id ≡ id = same_Some child_id id (sym parents.bears ∙ ap (λ (q : ℕ). borne_in (place_of (slot_at s q))) same ∙ bears) in
        other (sym here ∙ ap (λ (q : ℕ). q % NENV) one) in
        let not_child : p ≢ m = λ same.
        let contradiction : born parents.b ≡ unborn id b.id = sym parents.born_by ∙ ap a.slots same ∙ borne_is h n id b is bears in absurd cc in
        let its_parent = others_after p other_parent not_child in
        borne_moved (slots_after p) (abstract_after p) (slots_after j) (ap (λ (x : Slot). place_of x) its_parent)
        (ap (λ (x : Slot). x.registers) its_parent) (others_are p other_parent not_child)
        (λ q. ap (λ (x : Slot). rows_of t x.directory q) its_parent ∙ ap (λ (r : EntryRow). r q)
        (seen p not_child (ap (λ (x : AbstractSlot). is_live x) parents.born_by)).rows)
        (same_child (slot_at s j) (slots_after j) (others_after j ne other))
        (seen j other (ap (λ (x : AbstractSlot). is_live x) at)) was

    borne_still : (j child_id parent : ℕ) → abstract_after j ≡ unborn child_id parent → Bears j child_id parent
    borne_still =
        of_slots n m (λ j. (child_id parent : ℕ) → abstract_after j ≡ unborn child_id parent → Bears j child_id parent)
        (λ child_id parent at. let contradiction : born c ≡ unborn child_id parent = sym mine_is ∙ at in absurd cc)
        (λ child_id parent at. let contradiction : free id ≡ unborn child_id parent = sym free_is ∙ at in absurd cc)
        (λ j ne other child_id parent at. others_borne j child_id parent ne other (sym (others_are j ne other) ∙ at))

    have_still : (q child_id : ℕ) (e : Born) → abstract_after q ≡ born e → borne_in (place_of (slots_after q)) ≡ Some child_id →
        abstract_after (child_id % NENV) ≡ unborn child_id e.id
    have_still =
        of_slots n m
        (λ q. (child_id : ℕ) (e : Born) → abstract_after q ≡ born e → borne_in (place_of (slots_after q)) ≡ Some child_id →
        abstract_after (child_id % NENV) ≡ unborn child_id e.id)
        (λ child_id e at it. absurd (none-some child_id (sym (ap (λ (x : Slot). borne_in (place_of x)) bearer_after ∙ bears_none) ∙ it)))
        (λ child_id e at it. let contradiction : free id ≡ born e = sym free_is ∙ at in absurd cc)
        (λ q ne other child_id e at it.
        let was : a.slots q ≡ born e = sym (others_are q ne other) ∙ at in
        let has = h.children.have q child_id e was (ap (λ (x : Slot). borne_in (place_of x)) (sym (others_after q ne other)) ∙ it) in
        let not_bearer : child_id % NENV ≢ n = λ same.
        let contradiction : born b ≡ unborn child_id e.id = sym is ∙ ap a.slots (sym same) ∙ has in absurd cc in
        let not_child : child_id % NENV ≢ m = λ same.
        let one : unborn id b.id ≡ unborn child_id e.id = sym (borne_is h n id b is bears) ∙ ap a.slots (sym same) ∙ has in
        let parents : b.id ≡ e.id = same_parent id b.id child_id e.id one in
        ne (sym (named_at q e was) ∙ ap (λ (i : ℕ). i % NENV) (sym parents) ∙ bearer_named h n id b is bears) in
        others_are (child_id % NENV) not_bearer not_child ∙ has)
      where
        same_parent : (x y z w : ℕ) → unborn x y ≡ unborn z w → y ≡ w
        same_parent x y z w same = cc

        named_at : (q : ℕ) (e : Born) → a.slots q ≡ born e → e.id % NENV ≡ q
        named_at q e at = ap (λ (i : ℕ). i % NENV) (sym (born_at h q e at).id) ∙ h.tabled.ids q (born_live (born_at h q e at))

    -- ---- the whole

    bearer_was : upd s.environments.slots m freed n ≡ slot_at s n
    bearer_was = upd-other s.environments.slots m freed n (λ same. apart (sym same))

    settles_then : Settles (upd s.environments.slots m freed n) k
    settles_then = subst (λ (x : Slot). Settles x k) (sym bearer_was) settles

    pub destroyed_stands : StandsFor names (with_slot_at (without_environment s (id % NENV)) n k)
        (with_born (record (with_slot a (id % NENV) (free id)) { free_slots = (id % NENV) ∷ a.free_slots }) n c)
    destroyed_stands = record {
      slots = slots_stand;
      children = record { borne = borne_still; have = have_still };
      apart = rows_left.apart;
      named = turned.named;
      users = rows_left.users;
      whole = rows_left.whole;
      beside = turned.beside;
      old = old_stays (old_gone h.old m (free id) (λ e it. let contradiction : free id ≡ born e = it in absurd cc)) n b
          (upd-other a.slots m (free id) n (λ same. apart (sym same)) ∙ is) n c same_descriptors;
      ends = ends;
      locks = locks;
      runs = turns_settle (upd s.environments.slots m freed) n k (turns_set s.environments.slots m freed h.runs (omega arith)) settles_then;
      free_slots = record {
        same = ap (λ (slots : List ℕ). m ∷ slots) h.free_slots.same;
        within = (omega arith, h.free_slots.within);
      };
      first = others_are 0 (born_not_first h n b is) (borne_not_first h n id b is bears) ∙ h.first;
      server = server_same server_after (server_alike server_seen h.server);
      input = h.input;
      last = h.last;
      turns = h.turns;
      tabled = tabled_set (tabled_freed h.tabled m (slot_at s m).id) n k (ap (λ (x : Slot). is_live_slot x) bearer_was ∙ born_live (born_at h n b is)) settles_then;
      in_order = in_order;
    }
