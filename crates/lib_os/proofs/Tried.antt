-- What comes of a try to send, in both systems: it is answered and the service is over; or the other does not wait yet and
-- nothing is changed; or no frame was free for a table.
use Rattle.std.proofs.Common.{◌≡◌, ◌≢◌, ◌∙◌, ◌<◌, ◌^◌, ◌%◌, ◌==◌, ◌&&◌, ◌||◌, ℕ, Bool, true, false, not, List, ◌∷◌, Option, Some, None}
use Rattle.std.proofs.Common.{refl, sym, ap, subst, arith, if◌then◌else◌}
use Rattle.std.specs.Prelude.{bit_and}
use Rattle.std.proofs.lemmas.Bool.Decides.{nat_tests}
use Rattle.std.proofs.lemmas.Nat.{and_assoc}
use Rattle.jos_base.specs.declared.called.Called.{Called}
use Rattle.jos_base.specs.declared.called.Called.TheVariants.{Answered}
use Rattle.jos_base.specs.declared.numbers.TheConstants.{SYS_IPC_TRY_SEND, E_BAD_ENV, E_IPC_NOT_RECV, E_NO_MEM, NENV, PGSIZE, PTE_W, PTE_SYSCALL, UTOP}
use Rattle.jos_base.specs.Environments.{is_live as is_live_slot, found}
use Rattle.jos_base.specs.KernelState.{KernelState, slot_at, with_spaces, with_refusal}
use Rattle.jos_base.specs.Messages.{accepts}
use Rattle.jos_base.specs.Reach.{Entry}
use Rattle.jos_base.specs.SpacesState.{SpacesState}
use Rattle.jos_base.specs.SystemCalls.{is_page_perm, has_write, shared_entry, entry_at, inserted_at}
use Rattle.jos_base.specs.Words.{negated, page_number}
use Rattle.lib_os.specs.AbstractState.{AbstractState, AbstractSlot, Born, unborn, born}
use Rattle.lib_os.specs.AbstractMessages.{sent}
use Rattle.lib_os.specs.AbstractRun.{abs_step, may_wait}
use Rattle.lib_os.specs.Answers.{refused}
use Rattle.lib_os.specs.Fence.{is_page_inside}
use Rattle.lib_os.specs.InOrder.{IsInOrder}
use Rattle.lib_os.specs.LibrarySteps.{service_answered}
use Rattle.lib_os.specs.MemoryServices.{lives}
use Rattle.lib_os.specs.Places.{place_of, is_handlers}
use Rattle.lib_os.specs.Rows.{Names, rows_of, lasting, is_shared, may_write}
use Rattle.lib_os.specs.StandsFor.{StandsFor, StandsForSlot, StandsForUnborn, MaySendBy, IsSendable, IsTrying, destination_of, borne_in}
use Rattle.lib_os.specs.UserCalls.{Got, got, CallStep, giving, system}
use Rattle.lib_os.proofs.BytesRead.{users_inside}
use Rattle.lib_os.proofs.Effects.{Given}
use Rattle.lib_os.proofs.EntryWords.{row_entry}
use Rattle.lib_os.proofs.Fences.{page_inside_aligned, page_inside_below}
use Rattle.lib_os.proofs.Logical.{page_inside_programs}
use Rattle.lib_os.proofs.PipesStand.{is_calm}
use Rattle.lib_os.proofs.Placing.{inserted_given}
use Rattle.lib_os.proofs.Sending.{IsSomeone, is_born, is_unborn, no_step_unborn, no_step_yet}
use Rattle.lib_os.proofs.Sending.{nobody_is_there, named_is, named_other, may_wait_yet, step_to_taken, answered_stands, word_sent, page_sent}
use Rattle.lib_os.proofs.Serving.{holds_page, kept_where}
use Rattle.lib_os.proofs.Sends as sends
use Rattle.lib_os.proofs.Sends.{with_message}
use Rattle.lib_os.proofs.SlotsStand.{born_at, born_live, is_piped, live_stands, ids_stand}
use Rattle.lib_os.proofs.StatesStand.{counts_beside}
use Rattle.lib_os.proofs.Waiters.{IsTaken, accepted, no_destination, destination_is}

pub data HasTried (names : Names) (s mid : KernelState) (a : AbstractState) (n word : ℕ) : Type 0 where
  -- the service is over, and this is its answer
  goes_on : word ≢ negated E_IPC_NOT_RECV → (after : AbstractState) → abs_step a n ≡ Some after → after.console ≡ a.console →
      StandsFor names (service_answered mid n word) after → HasTried names s mid a n word
  -- the other lives and does not wait for it
  not_yet : word ≡ negated E_IPC_NOT_RECV → mid ≡ s → ((quantum : ℕ) → may_wait a n quantum ≡ true) → HasTried names s mid a n word
  -- the page was to stand in a region without a table, and no frame was free
  no_table : word ≢ negated E_IPC_NOT_RECV → mid ≡ with_refusal s → HasTried names s mid a n word

abbrev word_in : Called → ℕ
word_in (Answered word) = word
word_in _ = 0

abbrev word_got : Got Called → ℕ
word_got (got called) = word_in called
word_got _ = 0

lasting_write : (perm : ℕ) → has_write (bit_and perm PTE_SYSCALL) ≡ has_write perm
lasting_write perm = ap (λ (m : ℕ). m == PTE_W) (and_assoc PTE_W perm PTE_SYSCALL)

-- an entry is given on with the bits that last
shared_whole : (o : Option Entry) (e x : Entry) (perm : ℕ) → o ≡ Some e → lasting e ≡ x → perm ≡ x.perm → is_page_perm x.perm ≡ true →
    shared_entry o perm ≡ Some x
shared_whole o e x perm stands row bits user =
    let writes : has_write perm ≡ has_write e.perm =
    ap (λ (m : ℕ). has_write m) (bits ∙ sym (ap (λ (y : Entry). y.perm) row)) ∙ lasting_write e.perm in
    ap (λ (y : Option Entry). shared_entry y perm) stands
    ∙ by_tests (record { frame = e.frame; perm = perm }) (is_page_perm perm) (has_write perm) (has_write e.perm) (ap (λ (m : ℕ). is_page_perm m) bits ∙ user) writes
    ∙ (λ i. Some (record { frame = (row i).frame; perm = bits i }))
  where
    by_tests : (y : Entry) (t u v : Bool) → t ≡ true → u ≡ v → (if not t then None else if u && not v then None else Some y) ≡ Some y
    by_tests y true true true is same = refl
    by_tests y true false false is same = refl
    by_tests y true true false is same = absurd cc
    by_tests y true false true is same = absurd cc
    by_tests y false u v is same = absurd cc

module _ {names : Names} {s : KernelState} {a : AbstractState} (h : StandsFor names s a) (n : ℕ) (b : Born) (at : a.slots n ≡ born b)
    (id value va perm : ℕ) (rest : List ℕ)
    (trying : IsTrying (rows_of s.spaces (slot_at s n).directory) (slot_at s n) b id value va perm) (small : value < 2 ^ 32)
    (outside : is_handlers (slot_at s n).registers.esp ≡ false) (unborne : borne_in (place_of (slot_at s n)) ≡ None)
    (holds : holds_page (place_of (slot_at s n)) ≡ kept_where false) (calm : is_calm (place_of (slot_at s n)) ≡ true)
    (off : is_piped (place_of (slot_at s n)) ≡ false) (last : s.last ≡ Some n) (mid : KernelState) (word : ℕ) where
  abbrev t : ℕ
  t = id % NENV

  abbrev d : ℕ
  d = (slot_at s n).directory

  -- the call, with this address
  abbrev call : ℕ → CallStep Called
  call address = system s n SYS_IPC_TRY_SEND (id ∷ value ∷ address ∷ perm ∷ rest)

  module _ (gives : (call (destination_of va)).gives ≡ got (Answered word)) (state : mid ≡ (call (destination_of va)).state)
      (in_order : IsInOrder mid) where
    live : is_live_slot (slot_at s n) ≡ true
    live = born_live (born_at h n b at)

    idle : (slot_at s n).rendezvous.receiving ≡ false
    idle = trying.is_in.silent

    awake : b.blocked ≡ false
    awake = trying.is_in.awake

    came_to : (after : KernelState) (w : ℕ) → call (destination_of va) ≡ giving after (Answered w) → (word ≡ w) × (mid ≡ after)
    came_to after w is = (
      ap (λ (x : Got Called). word_got x) (sym gives ∙ ap (λ (x : CallStep Called). x.gives) is),
      state ∙ ap (λ (x : CallStep Called). x.state) is,
    )

    over : (after : KernelState) (w : ℕ) → call (destination_of va) ≡ giving after (Answered w) → w ≢ negated E_IPC_NOT_RECV →
        (end : AbstractState) → abs_step a n ≡ Some end → end.console ≡ a.console → StandsFor names (service_answered after n w) end →
        HasTried names s mid a n word
    over after w is other end stepped printed so =
        let came = came_to after w is in
        goes_on (λ e. other (sym came.0 ∙ e)) end stepped printed
        (subst (λ (x : KernelState). StandsFor names (service_answered x n word) end) (sym came.1)
        (subst (λ (x : ℕ). StandsFor names (service_answered after n x) end) (sym came.0) so))

    -- ---- who is named

    found_is : found s.environments id n false ≡ (if lives a id then Some t else None)
    found_is =
        sends.found_is s.environments id n trying.some
        ∙ (λ i. if live_stands h t i && (ids_stand h t i == id) then Some t else None)

    module _ (there : lives a id ≡ true) where
      ne : t ≢ n
      ne = named_other h n b at id value va perm trying there

      named : found s.environments id n false ≡ Some t
      named = found_is ∙ ap (λ (x : Bool). if x then Some t else None) there

      -- it is not waited for
      waits_still : accepts (slot_at s t).rendezvous (slot_at s n).id ≡ false → abs_step a n ≡ None → HasTried names s mid a n word
      waits_still off none =
          let came = came_to s (negated E_IPC_NOT_RECV)
          (sends.not_waited_for s n id value (destination_of va) perm rest live idle t named off) in
          not_yet came.0 came.1 (may_wait_yet h n b at id value va perm trying there none)

      -- a child that is not born waits for nobody
      by_unborn : (own_id parent : ℕ) → a.slots t ≡ unborn own_id parent → HasTried names s mid a n word
      by_unborn own_id parent is =
          let child : StandsForUnborn (slot_at s t) own_id parent =
          subst (λ (slot : AbstractSlot). StandsForSlot names s.spaces (slot_at s t) slot) is (h.slots t) in
          waits_still
          (λ i. child.silent i && (((slot_at s t).rendezvous.wanted == 0) || ((slot_at s t).rendezvous.wanted == (slot_at s n).id)))
          (no_step_unborn h n b at id value va perm trying there own_id parent is)

    module _ (there : lives a id ≡ true) (c : Born) (is : a.slots t ≡ born c) where
      apart : t ≢ n
      apart = ne there

      target : found s.environments id n false ≡ Some t
      target = named there

      module _ (waits : accepts (slot_at s t).rendezvous (slot_at s n).id ≡ true) where
        taken : IsTaken (slot_at s t) c b.id
        taken = accepted h n b at t c is waits

        abbrev the_end : AbstractState
        the_end = sent a n b (slot_at s n).registers t value va c taken.w

        stepped : abs_step a n ≡ Some the_end
        stepped = step_to_taken h n b at id value va perm trying there c is taken

        word_over : ((va == 0) || (taken.w.va == 0)) ≡ true →
            call (destination_of va) ≡ giving (with_message s n t value 0) (Answered 0) → HasTried names s mid a n word
        word_over none call_is =
            over (with_message s n t value 0) 0 call_is (λ e. omega (arith, e)) the_end stepped refl
            (word_sent h n b at unborne holds calm idle awake outside t apart c is taken value small va none)

        without_page : va ≡ 0 → HasTried names s mid a n word
        without_page none =
            let above : destination_of va ≡ UTOP = ap destination_of none in
            word_over (ap (λ (x : ℕ). (x == 0) || (taken.w.va == 0)) none)
            (sends.word_comes s n id value (destination_of va) perm rest live idle t target waits (omega (arith, above)))

        module _ (some : (va == 0) ≡ false) (page : IsSendable (rows_of s.spaces d) va perm) where
          call_is : call (destination_of va) ≡ call va
          call_is = ap (λ (x : Bool). call (if x then UTOP else va)) some

          user : is_page_perm page.entry.perm ≡ true
          user = (users_inside names s a n b h at (page_number va) page.entry (page_inside_programs va page.inside) page.stands).page

          stood : (e : Entry) × (s.spaces.entries d (page_number va) ≡ Some e) × (lasting e ≡ page.entry)
          stood = row_entry s.spaces d (page_number va) page.entry page.stands

          given : shared_entry (entry_at s n va) perm ≡ Some page.entry
          given = shared_whole (entry_at s n va) stood.0 page.entry perm stood.1 stood.2 page.bits user

          below : va < UTOP
          below = page_inside_below va page.inside

          start : va % PGSIZE ≡ 0
          start = page_inside_aligned va page.inside

          not_wanted : taken.w.va ≡ 0 → HasTried names s mid a n word
          not_wanted none =
              let off : (taken.w.va == 0) ≡ true = ap (λ (x : ℕ). x == 0) none in
              word_over (λ i. some i || off i)
              (call_is
              ∙ sends.page_not_wanted s n id value va perm rest live idle t target waits below start page.entry given (no_destination taken.so none))

          module _ (on : (taken.w.va == 0) ≡ false) where
            somewhere : taken.w.va ≢ 0
            somewhere = grind (arith, nat_tests, on)

            destination : (slot_at s t).rendezvous.destination ≡ taken.w.va
            destination = destination_is taken.so somewhere

            wanted : (slot_at s t).rendezvous.destination < UTOP
            wanted =
                let inside : is_page_inside taken.w.va ≡ true = sym (ap (λ (x : Bool). x || is_page_inside taken.w.va) on) ∙ taken.so.page in
                subst (λ (x : ℕ). x < UTOP) (sym destination) (page_inside_below taken.w.va inside)

            by_spaces : (spaces : Option SpacesState) → inserted_at s t (slot_at s t).rendezvous.destination page.entry ≡ spaces →
                HasTried names s mid a n word
            by_spaces None none =
                let came = came_to (with_refusal s) (negated E_NO_MEM)
                (call_is ∙ sends.page_has_no_table s n id value va perm rest live idle t target waits below start page.entry given wanted none) in
                no_table (λ e. let same = sym came.0 ∙ e in omega (arith, same)) came.1
            by_spaces (Some sp) put_is =
                let came_is : call (destination_of va) ≡ giving (with_message (with_spaces s sp) n t value page.entry.perm) (Answered 0) =
                call_is
                ∙ sends.page_comes s n id value va perm rest live idle t target waits below start page.entry given wanted sp put_is
                ∙ ap (λ (x : ℕ). giving (with_message (with_spaces s sp) n t value x) (Answered 0)) page.bits in
                let ordered : IsInOrder (with_message (with_spaces s sp) n t value page.entry.perm) =
                subst (λ (x : KernelState). IsInOrder x) (came_to _ 0 came_is).1 in_order in
                let entered_there : Given s.spaces sp (slot_at s t).directory (page_number taken.w.va) page.entry =
                subst (λ (x : ℕ). Given s.spaces sp (slot_at s t).directory (page_number x) page.entry) destination
                (inserted_given s.spaces sp (slot_at s t).directory (page_number (slot_at s t).rendezvous.destination) page.entry
                d (page_number va) stood.0 h.in_order.frames ordered.frames user stood.1 (ap (λ (x : Entry). x.frame) stood.2) put_is) in
                let passes : (is_shared page.entry.perm || not (may_write page.entry.perm)) ≡ true =
                subst (λ (x : ℕ). (is_shared x || not (may_write x)) ≡ true) page.bits page.passes in
                over (with_message (with_spaces s sp) n t value page.entry.perm) 0 came_is (λ e. omega (arith, e)) the_end stepped refl
                (page_sent h n b at unborne holds calm idle awake outside t apart c is taken value small va page.inside page.entry page.stands passes entered_there
                (grind (arith, nat_tests, some)) somewhere ordered (λ q ne. counts_beside h n last off sp q))

          by_wanted : (x : Bool) → (taken.w.va == 0) ≡ x → HasTried names s mid a n word
          by_wanted true off = not_wanted (grind (arith, nat_tests, off))
          by_wanted false on = by_spaces on (inserted_at s t (slot_at s t).rendezvous.destination page.entry) refl

        by_page : (x : Bool) → (va == 0) ≡ x → MaySendBy x (rows_of s.spaces d) va perm → HasTried names s mid a n word
        by_page true none may = without_page (grind (arith, nat_tests, none))
        by_page false some may = by_wanted some may (taken.w.va == 0) refl

      by_waiting : (x : Bool) → accepts (slot_at s t).rendezvous (slot_at s n).id ≡ x → HasTried names s mid a n word
      by_waiting true waits = by_page waits (va == 0) refl trying.page
      by_waiting false off =
          waits_still there off (no_step_yet h n b at id value va perm trying there c is off)

    by_living : (x : Bool) → lives a id ≡ x → HasTried names s mid a n word
    by_living true there =
        by_someone (named_is h n b at id value va perm trying there)
      where
        by_someone : IsSomeone (a.slots t) → HasTried names s mid a n word
        by_someone (is_born c is) = by_waiting there c is (accepts (slot_at s t).rendezvous (slot_at s n).id) refl
        by_someone (is_unborn own_id parent is) = by_unborn there own_id parent is
    by_living false off =
        let nobody : found s.environments id n false ≡ None = found_is ∙ ap (λ (x : Bool). if x then Some t else None) off in
        over s (negated E_BAD_ENV) (sends.nobody_named s n id value (destination_of va) perm rest live idle nobody) (λ e. omega (arith, e))
        (refused a n b (slot_at s n).registers E_BAD_ENV) (nobody_is_there h n b at id value va perm trying off) refl
        (answered_stands h n b at (slot_at s n) (negated E_BAD_ENV) refl unborne holds calm idle awake outside)

    pub tried : HasTried names s mid a n word
    tried = by_living (lives a id) refl
