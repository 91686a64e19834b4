-- An environment that bears a child goes on bearing it, where its slot and its space are others, and those of the child with it, and nothing is seen of
-- anybody else: the kernel's state stands for the abstract one in which the environment is what it then stands for.
use Rattle.std.proofs.Common.{◌≡◌, ◌≢◌, ◌∙◌, ◌<◌, ◌==◌, ◌%◌, ℕ, Bool, true, false, List, Some, None, refl, sym, ap, subst, arith}
use Rattle.std.proofs.lemmas.Bool.Decides.{nat_tests}
use Rattle.std.proofs.lemmas.Option.{none-some, same_Some}
use Rattle.jos_base.specs.declared.numbers.TheConstants.{FIRST_ENV_ID, NENV}
use Rattle.jos_base.specs.Environments.{Slot, is_live as is_live_slot}
use Rattle.jos_base.specs.KernelState.{KernelState, slot_at, with_slot_at, with_spaces}
use Rattle.jos_base.specs.Reach.{Entry}
use Rattle.jos_base.specs.SpacesState.{SpacesState}
use Rattle.jos_base.specs.Words.{upd}
use Rattle.lib_os.specs.declared.numbers.TheConstants.{DESCRIPTORS}
use Rattle.lib_os.specs.AbstractState.{AbstractState, AbstractSlot, Born, unborn, born, serving, is_live, with_born}
use Rattle.lib_os.specs.InOrder.{IsInOrder}
use Rattle.lib_os.specs.DescriptorPages.{lock_of}
use Rattle.lib_os.specs.PipeEnds.{EndsStand, EndsStandAt, LocksStand, locked_at}
use Rattle.lib_os.specs.Places.{place_of}
use Rattle.lib_os.specs.Rows.{EntryRow, Names, rows_of, logical, is_of_descriptor, is_pipe_page, is_shared, pipe_page}
use Rattle.lib_os.specs.StandsFor.{StandsFor, StandsForSlot, StandsForBorn, StandsForUnborn, IsBorneBy, borne_in, things_in}
use Rattle.lib_os.proofs.Bearing.{of_slots, same_born, same_unborn}
use Rattle.lib_os.proofs.Children.{IsOfParent, same_child, borne_moved, of_parent}
use Rattle.lib_os.proofs.EntriesStand.{RowsStand, rows_turned}
use Rattle.lib_os.proofs.Logical.{logical_alike, logical_some}
use Rattle.lib_os.proofs.PipesStand.{IsPipeFrame, calm_locked, ends_stay, is_calm, locks_kept}
use Rattle.lib_os.proofs.Serving.{words_of_none}
use Rattle.lib_os.proofs.SlotsStand.{CountsKept, SeenAlike, born_at, born_live, but_pipes, live_stands, slot_stands}
use Rattle.lib_os.proofs.StatesStand.{Settles, born_not_first, old_set, server_alike, server_same, tabled_set, turns_settle}
use Rattle.jos_base.proofs.Maps.{upd-at, upd-other}

pipe_is : (fd : ℕ) → fd < DESCRIPTORS → (is_pipe_page (pipe_page fd) ≡ true) × (is_of_descriptor (pipe_page fd) ≡ true)
pipe_is fd below = (grind (arith, nat_tests), grind (arith, nat_tests))

module _ {names : Names} {s : KernelState} {a : AbstractState} (h : StandsFor names s a) (n id : ℕ) (b : Born) (is : a.slots n ≡ born b)
    (bears : borne_in (place_of (slot_at s n)) ≡ Some id) where
  abbrev m : ℕ
  m = id % NENV

  -- ---- the two

  pub borne_is : a.slots (id % NENV) ≡ unborn id b.id
  borne_is = h.children.have n id b is bears

  pub bearer_named : b.id % NENV ≡ n
  bearer_named = ap (λ (q : ℕ). q % NENV) (sym (born_at h n b is).id) ∙ h.tabled.ids n (born_live (born_at h n b is))

  pub borne_apart : id % NENV ≢ n
  borne_apart same = let contradiction : born b ≡ unborn id b.id = sym is ∙ ap a.slots (sym same) ∙ borne_is in absurd cc

  pub borne_own : StandsForUnborn (slot_at s (id % NENV)) id b.id
  borne_own = subst (λ (slot : AbstractSlot). StandsForSlot names s.spaces (slot_at s m) slot) borne_is (h.slots m)

  pub borne_lives : is_live_slot (slot_at s (id % NENV)) ≡ true
  borne_lives = live_stands h m ∙ ap (λ (x : AbstractSlot). is_live x) borne_is

  pub borne_by : IsBorneBy names s.spaces (slot_at s n) (a.slots n) (slot_at s (id % NENV)) id b.id
  borne_by =
      subst (λ (q : ℕ). IsBorneBy names s.spaces (slot_at s q) (a.slots q) (slot_at s m) id b.id) bearer_named (h.children.borne m id b.id borne_is)

  pub borne_not_first : 0 ≢ id % NENV
  borne_not_first first = let contradiction : serving FIRST_ENV_ID ≡ unborn id b.id = sym h.first ∙ ap a.slots first ∙ borne_is in cc

  -- its space is another
  pub borne_space : (slot_at s (id % NENV)).directory ≢ (slot_at s n).directory
  borne_space same = borne_apart (h.in_order.spaces.apart m n borne_lives (born_live (born_at h n b is)) same)

  module _ {sp : SpacesState} (k child : Slot) (same_space : k.directory ≡ (slot_at s n).directory)
      (child_space : child.directory ≡ (slot_at s (id % NENV)).directory)
      (others : (d : ℕ) → d ≢ (slot_at s n).directory → d ≢ (slot_at s (id % NENV)).directory → SeenAlike names names s.spaces sp d) where
    abbrev slots_after : ℕ → Slot
    slots_after = upd (upd s.environments.slots m child) n k

    bearer_after : slots_after n ≡ k
    bearer_after = upd-at (upd s.environments.slots m child) n k

    child_after : slots_after m ≡ child
    child_after = upd-other (upd s.environments.slots m child) n k m borne_apart ∙ upd-at s.environments.slots m child

    others_after : (j : ℕ) → j ≢ n → j ≢ m → slots_after j ≡ slot_at s j
    others_after j ne apart = upd-other (upd s.environments.slots m child) n k j ne ∙ upd-other s.environments.slots m child j apart

    -- the spaces of all others
    others_seen : (j : ℕ) → j ≢ n → j ≢ m → is_live (a.slots j) ≡ true → SeenAlike names names s.spaces sp (slot_at s j).directory
    others_seen j ne apart live =
        let lives : is_live_slot (slot_at s j) ≡ true = live_stands h j ∙ live in
        others (slot_at s j).directory
        (λ same. ne (h.in_order.spaces.apart j n lives (born_live (born_at h n b is)) same))
        (λ same. apart (h.in_order.spaces.apart j m lives borne_lives same))

    -- the server's among them
    server_after : slots_after 0 ≡ slot_at s 0
    server_after = others_after 0 (born_not_first h n b is) borne_not_first

    server_seen : SeenAlike names names s.spaces sp (slot_at s 0).directory
    server_seen = others_seen 0 (born_not_first h n b is) borne_not_first (ap (λ (x : AbstractSlot). is_live x) h.first)

    -- all others' entries count as they did
    pub others_count_on : (j : ℕ) → j ≢ n → j ≢ m → (p : ℕ) →
        logical sp (upd (upd s.environments.slots (id % NENV) child) n k) j p ≡ logical s.spaces s.environments.slots j p
    others_count_on j ne apart p =
        let slot = others_after j ne apart in
        logical_alike s.spaces sp s.environments.slots slots_after j (ap (λ (x : Slot). is_live_slot x) slot) (ap (λ (x : Slot). place_of x) slot)
        (λ live. ap (λ (x : Slot). rows_of sp x.directory) slot ∙ (others_seen j ne apart (sym (live_stands h j) ∙ live)).rows) p

    module _ (c : Born) (same_id : c.id ≡ b.id) (settles : Settles (slot_at s n) k) (child_settles : Settles (slot_at s (id % NENV)) child)
        (bears_after : borne_in (place_of k) ≡ Some id) (calm : is_calm (place_of (slot_at s n)) ≡ true) (calm_after : is_calm (place_of k) ≡ true)
        (mine : StandsForBorn names sp k c) (child_own : StandsForUnborn child id c.id) (its_child : IsBorneBy names sp k (born c) child id c.id)
        (rows : RowsStand names sp.pages a.shared (things_in s a) a.next_name
        (logical sp (upd (upd s.environments.slots (id % NENV) child) n k)))
        (in_order : IsInOrder (with_slot_at (with_slot_at (with_spaces s sp) (id % NENV) child) n k))
        (counts : (j : ℕ) → j ≢ n → CountsKept s.spaces sp (slot_at s j)) (ends_mine : EndsStand names a.objects (place_of k) (rows_of sp k.directory) c)
        (own_pipes : (fd : ℕ) (x : Entry) → fd < DESCRIPTORS → rows_of sp k.directory (pipe_page fd) ≡ Some x → is_shared x.perm ≡ true →
        logical s.spaces s.environments.slots n (pipe_page fd) ≡ Some x)
        (bytes : (d fd : ℕ) (x : Entry) → fd < DESCRIPTORS → rows_of s.spaces d (pipe_page fd) ≡ Some x → sp.pages x.frame ≡ s.spaces.pages x.frame)
        (olds : (fd name : ℕ) → c.descriptors fd ≡ Some name → name < a.next_name) where
      abbrev abstract_after : ℕ → AbstractSlot
      abstract_after = upd a.slots n (born c)

      mine_is : abstract_after n ≡ born c
      mine_is = upd-at a.slots n (born c)

      other_is : (j : ℕ) → j ≢ n → abstract_after j ≡ a.slots j
      other_is j ne = upd-other a.slots n (born c) j ne

      slots_stand : (j : ℕ) → StandsForSlot names sp (slots_after j) (abstract_after j)
      slots_stand =
          of_slots n m (λ j. StandsForSlot names sp (slots_after j) (abstract_after j))
          (subst (λ (x : Slot). StandsForSlot names sp x (abstract_after n)) (sym bearer_after)
          (subst (λ (y : AbstractSlot). StandsForSlot names sp k y) (sym mine_is) mine))
          (subst (λ (x : Slot). StandsForSlot names sp x (abstract_after m)) (sym child_after)
          (subst (λ (y : AbstractSlot). StandsForSlot names sp child y) (sym (other_is m borne_apart ∙ borne_is))
          (subst (λ (parent : ℕ). StandsForUnborn child id parent) same_id child_own)))
          (λ j ne apart.
          subst (λ (x : Slot). StandsForSlot names sp x (abstract_after j)) (sym (others_after j ne apart))
          (subst (λ (y : AbstractSlot). StandsForSlot names sp (slot_at s j) y) (sym (other_is j ne))
          (slot_stands names names s.spaces sp (slot_at s j) (a.slots j) (h.slots j) (others_seen j ne apart) (counts j ne))))

      -- ---- who bears whom

      abbrev Bears : ℕ → ℕ → ℕ → Type 0
      Bears j own_id parent = IsBorneBy names sp (slots_after (parent % NENV)) (abstract_after (parent % NENV)) (slots_after j) own_id parent

      its_borne : Bears m id c.id
      its_borne =
          subst (λ (q : ℕ). IsBorneBy names sp (slots_after q) (abstract_after q) (slots_after m) id c.id)
          (sym (ap (λ (q : ℕ). q % NENV) same_id ∙ bearer_named))
          (subst (λ (x : Slot). IsBorneBy names sp (slots_after n) (abstract_after n) x id c.id) (sym child_after)
          (subst (λ (y : AbstractSlot). IsBorneBy names sp (slots_after n) y child id c.id) (sym mine_is)
          (subst (λ (x : Slot). IsBorneBy names sp x (born c) child id c.id) (sym bearer_after) its_child)))

      others_borne : (j own_id parent : ℕ) → j ≢ n → j ≢ m → a.slots j ≡ unborn own_id parent → Bears j own_id parent
      others_borne j own_id parent ne apart at =
          let was = h.children.borne j own_id parent at in
          let parents = of_parent was in
          let p = parent % NENV in
          let own : StandsForUnborn (slot_at s j) own_id parent =
          subst (λ (y : AbstractSlot). StandsForSlot names s.spaces (slot_at s j) y) at (h.slots j) in
          let lives : is_live_slot (slot_at s j) ≡ true = live_stands h j ∙ ap (λ (x : AbstractSlot). is_live x) at in
          let here : own_id % NENV ≡ j = ap (λ (q : ℕ). q % NENV) (sym own.id_is) ∙ h.tabled.ids j lives in
          let other_parent : p ≢ n = λ same.
          let one : own_id ≡ id = same_Some own_id id (sym parents.bears ∙ ap (λ (q : ℕ). borne_in (place_of (slot_at s q))) same ∙ bears) in
          apart (sym here ∙ ap (λ (q : ℕ). q % NENV) one) in
          let not_child : p ≢ m = λ same.
          let contradiction : born parents.b ≡ unborn id b.id = sym parents.born_by ∙ ap a.slots same ∙ borne_is in absurd cc in
          let its_parent = others_after p other_parent not_child in
          borne_moved (slots_after p) (abstract_after p) (slots_after j) (ap (λ (x : Slot). place_of x) its_parent)
          (ap (λ (x : Slot). x.registers) its_parent) (other_is p other_parent)
          (λ q. ap (λ (x : Slot). rows_of sp x.directory q) its_parent ∙ ap (λ (r : EntryRow). r q)
          (others_seen p other_parent not_child (ap (λ (x : AbstractSlot). is_live x) parents.born_by)).rows)
          (same_child (slot_at s j) (slots_after j) (others_after j ne apart))
          (others_seen j ne apart (ap (λ (x : AbstractSlot). is_live x) at)) was

      borne_still : (j own_id parent : ℕ) → abstract_after j ≡ unborn own_id parent → Bears j own_id parent
      borne_still =
          of_slots n m (λ j. (own_id parent : ℕ) → abstract_after j ≡ unborn own_id parent → Bears j own_id parent)
          (λ own_id parent at. let contradiction : born c ≡ unborn own_id parent = sym mine_is ∙ at in absurd cc)
          (λ own_id parent at.
          let same = same_unborn id b.id own_id parent (sym borne_is ∙ sym (other_is m borne_apart) ∙ at) in
          subst (λ (q : ℕ). Bears m q parent) same.0 (subst (λ (q : ℕ). Bears m id q) (same_id ∙ same.1) its_borne))
          (λ j ne apart own_id parent at. others_borne j own_id parent ne apart (sym (other_is j ne) ∙ at))

      have_still : (q own_id : ℕ) (e : Born) → abstract_after q ≡ born e → borne_in (place_of (slots_after q)) ≡ Some own_id →
          abstract_after (own_id % NENV) ≡ unborn own_id e.id
      have_still q own_id e at bears_it = by_bearer (q == n) refl
        where
          by_bearer : (t : Bool) → (q == n) ≡ t → abstract_after (own_id % NENV) ≡ unborn own_id e.id
          by_bearer true test =
              let here : q ≡ n = grind (arith, nat_tests, test) in
              let same : c ≡ e = same_born c e (sym mine_is ∙ ap abstract_after (sym here) ∙ at) in
              let there : borne_in (place_of (slots_after n)) ≡ Some id = ap (λ (x : Slot). borne_in (place_of x)) bearer_after ∙ bears_after in
              let one : id ≡ own_id = same_Some id own_id (sym there ∙ ap (λ (j : ℕ). borne_in (place_of (slots_after j))) (sym here) ∙ bears_it) in
              subst (λ (j : ℕ). abstract_after (j % NENV) ≡ unborn j e.id) one
              (other_is m borne_apart ∙ borne_is ∙ ap (λ (x : ℕ). unborn id x) (sym same_id ∙ ap (λ (x : Born). x.id) same))
          by_bearer false test =
              let ne : q ≢ n = grind (arith, nat_tests, test) in
              let was : a.slots q ≡ born e = sym (other_is q ne) ∙ at in
              let not_child : q ≢ m = λ same. let contradiction : born e ≡ unborn id b.id = sym was ∙ ap a.slots same ∙ borne_is in absurd cc in
              let has = h.children.have q own_id e was (ap (λ (x : Slot). borne_in (place_of x)) (sym (others_after q ne not_child)) ∙ bears_it) in
              let not_bearer : own_id % NENV ≢ n = λ same.
              let contradiction : born b ≡ unborn own_id e.id = sym is ∙ ap a.slots (sym same) ∙ has in absurd cc in
              other_is (own_id % NENV) not_bearer ∙ has

      -- ---- ends of pipes, and locks

      ends : (j : ℕ) → EndsStandAt names a.objects (place_of (slots_after j)) (rows_of sp (slots_after j).directory) (abstract_after j)
      ends =
          of_slots n m (λ j. EndsStandAt names a.objects (place_of (slots_after j)) (rows_of sp (slots_after j).directory) (abstract_after j))
          (subst (λ (x : Slot). EndsStandAt names a.objects (place_of x) (rows_of sp x.directory) (abstract_after n)) (sym bearer_after)
          (subst (λ (y : AbstractSlot). EndsStandAt names a.objects (place_of k) (rows_of sp k.directory) y) (sym mine_is) ends_mine))
          (subst (λ (y : AbstractSlot). EndsStandAt names a.objects (place_of (slots_after m)) (rows_of sp (slots_after m).directory) y)
          (sym (other_is m borne_apart ∙ borne_is)) tt)
          (λ j ne apart.
          subst (λ (x : Slot). EndsStandAt names a.objects (place_of x) (rows_of sp x.directory) (abstract_after j)) (sym (others_after j ne apart))
          (subst (λ (y : AbstractSlot). EndsStandAt names a.objects (place_of (slot_at s j)) (rows_of sp (slot_at s j).directory) y) (sym (other_is j ne))
          (ends_stay names names s.spaces sp a.objects (slot_at s j) (a.slots j) (h.slots j) (λ live. but_pipes (others_seen j ne apart live)) (h.ends j))))

      -- neither of the two holds a lock
      holds_none : locked_at (place_of (slot_at s n)) ≡ None
      holds_none = calm_locked (place_of (slot_at s n)) calm

      holds_none_after : locked_at (place_of (slots_after n)) ≡ None
      holds_none_after = ap (λ (x : Slot). locked_at (place_of x)) bearer_after ∙ calm_locked (place_of k) calm_after

      child_none : locked_at (place_of (slot_at s m)) ≡ None
      child_none = ap locked_at (words_of_none (slot_at s m).registers (slot_at s m).extra borne_own.stack borne_own.words)

      child_none_after : locked_at (place_of (slots_after m)) ≡ None
      child_none_after =
          ap (λ (x : Slot). locked_at (place_of x)) child_after
          ∙ ap locked_at (words_of_none child.registers child.extra child_own.stack child_own.words)

      -- who holds one is another
      holder_apart : (slots : ℕ → Slot) (q j fd : ℕ) → locked_at (place_of (slots q)) ≡ None → locked_at (place_of (slots j)) ≡ Some fd → j ≢ q
      holder_apart slots q j fd none locked here =
          none-some fd (sym none ∙ ap (λ (i : ℕ). locked_at (place_of (slots i))) (sym here) ∙ locked)

      -- a page of a pipe that the bearer has was one before
      own_frame : (fd : ℕ) (x : Entry) → fd < DESCRIPTORS → rows_of sp k.directory (pipe_page fd) ≡ Some x → is_shared x.perm ≡ true →
          IsPipeFrame (logical s.spaces s.environments.slots) x.frame
      own_frame fd x below at shared_page = record {
        slot = n;
        fd = fd;
        below = below;
        entry = x;
        stands = own_pipes fd x below at shared_page;
        shared = shared_page;
        same = refl;
      }

      -- and the child has none but the bearer's
      abbrev of_bearer : IsOfParent sp k (born c) child id c.id
      of_bearer = of_parent its_child

      child_pipes : (fd : ℕ) (x : Entry) → fd < DESCRIPTORS → rows_of sp child.directory (pipe_page fd) ≡ Some x →
          rows_of sp k.directory (pipe_page fd) ≡ Some x
      child_pipes fd x below at = by_test (of_bearer.passed (pipe_page fd)) refl
        where
          by_test : (t : Bool) → of_bearer.passed (pipe_page fd) ≡ t → rows_of sp k.directory (pipe_page fd) ≡ Some x
          by_test true on = sym (of_bearer.handed (pipe_page fd) (pipe_is fd below).1 on) ∙ at
          by_test false off = absurd (none-some x (sym (of_bearer.rest (pipe_page fd) (pipe_is fd below).1 off) ∙ at))

      abbrev PipeWas : ℕ → Type 0
      PipeWas j = (fd : ℕ) (x : Entry) → fd < DESCRIPTORS → logical sp slots_after j (pipe_page fd) ≡ Some x → is_shared x.perm ≡ true →
          IsPipeFrame (logical s.spaces s.environments.slots) x.frame

      pipe_was : (j : ℕ) → PipeWas j
      pipe_was =
          of_slots n m (λ j. PipeWas j)
          (λ fd x below at shared_page.
          let found = (logical_some sp slots_after n (pipe_page fd) x at).1 in
          subst (λ (f : ℕ). IsPipeFrame (logical s.spaces s.environments.slots) f) found.frame
          (own_frame fd found.entry below (ap (λ (y : Slot). rows_of sp y.directory (pipe_page fd)) (sym bearer_after) ∙ found.stands)
          (found.sharing shared_page)))
          (λ fd x below at shared_page.
          let found = (logical_some sp slots_after m (pipe_page fd) x at).1 in
          subst (λ (f : ℕ). IsPipeFrame (logical s.spaces s.environments.slots) f) found.frame
          (own_frame fd found.entry below
          (child_pipes fd found.entry below (ap (λ (y : Slot). rows_of sp y.directory (pipe_page fd)) (sym child_after) ∙ found.stands))
          (found.sharing shared_page)))
          (λ j ne apart fd x below at shared_page. record {
            slot = j;
            fd = fd;
            below = below;
            entry = x;
            stands = sym (others_count_on j ne apart (pipe_page fd)) ∙ at;
            shared = shared_page;
            same = refl;
          })

      locks : LocksStand sp.pages slots_after (logical sp slots_after)
      locks = locks_kept (record {
        back = λ j fd x below locked at.
            let ne = holder_apart slots_after n j fd holds_none_after locked in
            let apart = holder_apart slots_after m j fd child_none_after locked in (
              ap (λ (y : Slot). locked_at (place_of y)) (sym (others_after j ne apart)) ∙ locked,
              sym (others_count_on j ne apart (pipe_page fd)) ∙ at,
            );
        forth = λ j fd x below locked at.
            let ne = holder_apart s.environments.slots n j fd holds_none locked in
            let apart = holder_apart s.environments.slots m j fd child_none locked in (
              ap (λ (y : Slot). locked_at (place_of y)) (others_after j ne apart) ∙ locked,
              others_count_on j ne apart (pipe_page fd) ∙ at,
            );
        were = pipe_was;
        bytes = λ j fd x below at shared_page.
            let found = (logical_some s.spaces s.environments.slots j (pipe_page fd) x at).1 in
            ap (λ (page : List ℕ). lock_of page)
            (subst (λ (f : ℕ). sp.pages f ≡ s.spaces.pages f) found.frame
            (bytes (slot_at s j).directory fd found.entry below found.stands));
      }) h.locks

      -- ---- the whole

      abbrev state_after : KernelState
      state_after = with_slot_at (with_slot_at (with_spaces s sp) m child) n k

      turned : RowsStand names sp.pages a.shared (things_in state_after a) a.next_name (logical sp slots_after)
      turned = rows_turned (ap (λ (x : Slot). rows_of sp x.directory) server_after ∙ server_seen.rows) rows

      child_live : is_live_slot (slot_at s m) ≡ true
      child_live = borne_lives

      bearer_was : upd s.environments.slots m child n ≡ slot_at s n
      bearer_was = upd-other s.environments.slots m child n (λ same. borne_apart (sym same))

      settles_then : Settles (upd s.environments.slots m child n) k
      settles_then = subst (λ (x : Slot). Settles x k) (sym bearer_was) settles

      pub bears_on : StandsFor names (with_slot_at (with_slot_at (with_spaces s sp) (id % NENV) child) n k) (with_born a n c)
      bears_on = record {
        slots = slots_stand;
        children = record { borne = borne_still; have = have_still };
        apart = rows.apart;
        named = turned.named;
        users = rows.users;
        whole = rows.whole;
        beside = turned.beside;
        old = old_set h.old n c olds;
        ends = ends;
        locks = locks;
        runs = turns_settle (upd s.environments.slots m child) n k (turns_settle s.environments.slots m child h.runs child_settles) settles_then;
        free_slots = h.free_slots;
        first = other_is 0 (born_not_first h n b is) ∙ h.first;
        server = server_same server_after (server_alike server_seen h.server);
        input = h.input;
        last = h.last;
        turns = h.turns;
        tabled = tabled_set (tabled_set h.tabled m child child_live child_settles) n k
            (ap (λ (x : Slot). is_live_slot x) bearer_was ∙ born_live (born_at h n b is)) settles_then;
        in_order = in_order;
      }
