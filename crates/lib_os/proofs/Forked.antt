-- What exofork comes to: it takes the first free slot and the next free frame for a child, which has the registers that its parent has
-- in the library, but for EAX; or it is refused one of the two. The slot is one in which nobody was.
use Rattle.std.proofs.Common.{◌≡◌, ◌≢◌, ◌∙◌, ◌==◌, ◌+◌, ◌%◌, ◌^◌, ◌<◌, ℕ, Bool, true, false, List, [], ◌∷◌, Ok, Err, refl, sym, ap, subst, arith}
use Rattle.std.specs.Prelude.{if◌then◌else◌}
use Rattle.std.proofs.lemmas.Bool.Decides.{nat_tests}
use Rattle.jos_base.specs.declared.called.Called.{Called}
use Rattle.jos_base.specs.declared.called.Called.TheVariants.{Answered}
use Rattle.jos_base.specs.declared.errno.Errno.{Errno}
use Rattle.jos_base.specs.declared.errno.Errno.TheVariants.{NoFreeEnv, NoMem}
use Rattle.jos_base.specs.declared.numbers.TheConstants.{FIRST_ENV_ID, NENV, SYS_EXOFORK}
use Rattle.jos_base.specs.declared.registers.Regs.{Regs}
use Rattle.jos_base.specs.Environments.{Slot, is_live, is_positive, new_slot, next_generation, next_id, allotted, allotted_from}
use Rattle.jos_base.specs.KernelState.{KernelState, slot_at, with_slot_at, with_directory, with_refusal, with_registers}
use Rattle.jos_base.specs.SpacesState.{SpacesState, created, created_from, directory, free, is_directory}
use Rattle.jos_base.specs.SystemCalls.{Did, answered, call_of, environment_made, exofork, exofork_of, made_of, refused}
use Rattle.jos_base.specs.Words.{upd}
use Rattle.lib_os.specs.InOrder.{IsInOrder, AreFree}
use Rattle.lib_os.specs.UserCalls.{CallStep, giving, asking, called_by, system}
use Rattle.lib_os.proofs.Calls.{system_is, answer_is, caller_is, live_still, quiet_is}
use Rattle.lib_os.proofs.Slots.{slot_put, slot_kept, slot_back, slots_alike, slots_swap, registers_put}
use Rattle.lib_os.proofs.SlotsSet.{set_twice}
use Rattle.lib_os.proofs.Trying.{LivesOn}
use Rattle.jos_base.proofs.Maps.{upd-other, upd-all}
use Rattle.jos_base.proofs.Uses.{directory_is, free_or_directory}

-- ---- ids

-- the next id of a slot names the slot, and is no number that tells a refusal
pub next_id_names : (old m : ℕ) → m < NENV → next_id old m % NENV ≡ m
unfolding next_id
next_id_names old m below = by_test (is_positive (next_generation old))
  where
    by_test : (t : Bool) → ((if t then next_generation old else FIRST_ENV_ID) + m) % NENV ≡ m
    by_test true = omega (arith, below)
    by_test false = omega (arith, below)

pub next_id_small : (old m : ℕ) → m < NENV → next_id old m < 2 ^ 31
unfolding next_id
next_id_small old m below = by_test (is_positive (next_generation old)) refl
  where
    by_test : (t : Bool) → is_positive (next_generation old) ≡ t → (if t then next_generation old else FIRST_ENV_ID) + m < 2 ^ 31
    by_test true is = let small : next_generation old < 2 ^ 31 = grind (arith, nat_tests) in omega (arith, below, small)
    by_test false is = omega (arith, below)

-- ---- the child

-- its slot
abbrev pub child_slot : ℕ → ℕ → Regs → ℕ → Slot
child_slot id parent regs frame = record (new_slot id parent) { registers = record regs { eax = 0 }; directory = frame }

-- its space, which is the directory alone
abbrev pub space_begun : SpacesState → ℕ → List ℕ → SpacesState
space_begun s frame rest = record s { uses = upd s.uses frame directory; free = rest; pages = upd s.pages frame [] }

-- the words that are given, which are those of the registers
abbrev pub given : Regs → List ℕ
given regs = regs.edx ∷ regs.ecx ∷ regs.ebx ∷ regs.edi ∷ regs.esi ∷ []

module _ (s : KernelState) (n : ℕ) (live : is_live (slot_at s n) ≡ true) where
  abbrev regs : Regs
  regs = (slot_at s n).registers

  abbrev q : Regs
  q = asking regs SYS_EXOFORK (given regs)

  abbrev k : KernelState
  k = with_registers s n q

  exofork_called : (did : Did) → exofork k n ≡ did → system s n SYS_EXOFORK (given regs) ≡ called_by n false regs did
  unfolding call_of
  exofork_called did is = system_is s n SYS_EXOFORK (given regs) did refl is

  -- ---- refused

  no_child : (error : Errno) → environment_made k (slot_at k n).id ≡ Err error →
      (answer : ℕ) × (system s n SYS_EXOFORK (given regs) ≡ giving (with_refusal s) (Answered answer))
  no_child error none =
      let did : Did = refused (with_refusal k) n error in
      (_, exofork_called did (ap (exofork_of k n) none) ∙ quiet_is s n live q (with_refusal k) _ refl)

  pub no_slot : s.environments.free_slots ≡ [] →
      (answer : ℕ) × (system s n SYS_EXOFORK (given regs) ≡ giving (with_refusal s) (Answered answer))
  unfolding environment_made allotted
  no_slot none = no_child NoFreeEnv (ap (λ (l : List ℕ). made_of k (allotted_from k.environments (slot_at k n).id l) (created k.spaces)) none)

  module _ (m : ℕ) (slots : List ℕ) (slots_are : s.environments.free_slots ≡ m ∷ slots) where
    pub no_frame : s.spaces.free ≡ [] →
        (answer : ℕ) × (system s n SYS_EXOFORK (given regs) ≡ giving (with_refusal s) (Answered answer))
    unfolding environment_made allotted created
    no_frame none =
        no_child NoMem (λ i. made_of k (allotted_from k.environments (slot_at k n).id (slots_are i)) (created_from k.spaces (none i)))

    -- ---- made

    module _ (f : ℕ) (frames : List ℕ) (frames_are : s.spaces.free ≡ f ∷ frames) where
      abbrev pub child_id : ℕ
      child_id = next_id (slot_at s m).id m

      abbrev pub child : Slot
      child = child_slot child_id (slot_at s n).id regs f

      -- the state with the slot and the frame taken
      abbrev taken : KernelState
      taken = record s {
        spaces = space_begun s.spaces f frames;
        environments = record { slots = s.environments.slots; free_slots = slots };
      }

      abbrev asked : KernelState
      asked = with_registers taken n q

      -- and with the child
      abbrev pub begun : KernelState
      begun = with_slot_at taken m child

      abbrev new : Slot
      new = new_slot (next_id (slot_at k m).id m) (slot_at k n).id

      abbrev homed : Slot
      homed = record new { directory = f }

      abbrev made : KernelState
      made = with_directory (with_slot_at asked m new) m f

      made_is : environment_made k (slot_at k n).id ≡ Ok (m, made)
      unfolding environment_made allotted created
      made_is = λ i. made_of k (allotted_from k.environments (slot_at k n).id (slots_are i)) (created_from k.spaces (frames_are i))

      homed_is : made ≡ with_slot_at asked m homed
      homed_is =
          ap (λ (x : Slot). with_slot_at (with_slot_at asked m new) m (record x { directory = f })) (slot_put asked m new)
          ∙ set_twice asked m new homed

      same_id : (slot_at k m).id ≡ (slot_at s m).id
      same_id = slots_alike s n (λ (x : Slot). x.id) (record (slot_at s n) { registers = q }) refl m

      child_is : record homed { registers = record (slot_at k n).registers { eax = 0 } } ≡ child
      child_is = λ i. child_slot (next_id (same_id i) m) (caller_is s n q i).id (caller_is s n q i).registers f

      forked_is : with_registers made m (record (slot_at k n).registers { eax = 0 }) ≡ with_slot_at asked m child
      forked_is =
          ap (λ (t : KernelState). with_registers t m (record (slot_at k n).registers { eax = 0 })) homed_is
          ∙ registers_put asked m homed (record (slot_at k n).registers { eax = 0 })
          ∙ ap (λ (x : Slot). with_slot_at asked m x) child_is

      id_is : (slot_at made m).id ≡ child_id
      id_is =
          ap (λ (t : KernelState). (slot_at t m).id) homed_is ∙ ap (λ (x : Slot). x.id) (slot_put asked m homed)
          ∙ ap (λ (id : ℕ). next_id id m) same_id

      did_is : exofork k n ≡ answered (with_slot_at asked m child) n child_id
      did_is = ap (exofork_of k n) made_is ∙ (λ i. answered (forked_is i) n (id_is i))

      caller_lives : is_live (slot_at (with_slot_at asked m child) n) ≡ true
      caller_lives =
          upd-all (λ j (x : Slot). j ≡ n → is_live x ≡ true) asked.environments.slots m child (λ same. refl)
          (λ j ne same. ap (λ (i : ℕ). is_live (slot_at asked i)) same ∙ live_still s n live q) n refl

      -- the state behind the call, whoever was in the slot
      abbrev after : KernelState
      after = with_registers (with_slot_at asked m child) n regs

      called_is : system s n SYS_EXOFORK (given regs) ≡ giving after (Answered child_id)
      called_is =
          exofork_called (answered (with_slot_at asked m child) n child_id) did_is
          ∙ answer_is (with_slot_at asked m child) n regs child_id caller_lives

      made_lives : LivesOn (system s n SYS_EXOFORK (given regs)) n regs
      made_lives =
          let mid = with_slot_at asked m child in
          let back : Slot = record (slot_at mid n) { registers = regs } in
          subst (λ (z : CallStep Called). LivesOn z n regs) (sym called_is)
          (record {
            live = ap (λ (x : Slot). is_live x) (slot_put mid n back) ∙ caller_lives;
            registers = ap (λ (x : Slot). x.registers) (slot_put mid n back);
            written = refl;
          })

      -- Nobody was in it, since each space in use is a live environment's.
      pub slot_was_free : IsInOrder s → IsInOrder (system s n SYS_EXOFORK (given regs)).state → is_live (slot_at s m) ≡ false
      slot_was_free h then_so = by_live (is_live (slot_at s m)) refl
        where
          order : IsInOrder after
          order = subst (λ (z : CallStep Called). IsInOrder z.state) called_is then_so

          frame_free : s.spaces.uses f ≡ free
          frame_free = let listed = subst (AreFree s.spaces.uses) frames_are h.frames.free_list in listed.0

          others : (j : ℕ) → j ≢ m → (is_live (slot_at after j) ≡ is_live (slot_at s j)) × ((slot_at after j).directory ≡ (slot_at s j).directory)
          others j ne =
              let mid = with_slot_at asked m child in
              let back : Slot = record (slot_at mid n) { registers = regs } in
              let kept = slot_kept asked m child j ne in
              let called : Slot = record (slot_at taken n) { registers = q } in (
                slots_alike mid n (λ (x : Slot). is_live x) back refl j ∙ ap (λ (x : Slot). is_live x) kept
                    ∙ slots_alike taken n (λ (x : Slot). is_live x) called refl j,
                slots_alike mid n (λ (x : Slot). x.directory) back refl j ∙ ap (λ (x : Slot). x.directory) kept
                    ∙ slots_alike taken n (λ (x : Slot). x.directory) called refl j,
              )

          home : (slot_at after m).directory ≡ f
          home =
              let mid = with_slot_at asked m child in
              slots_alike mid n (λ (x : Slot). x.directory) (record (slot_at mid n) { registers = regs }) refl m
              ∙ ap (λ (x : Slot). x.directory) (slot_put asked m child)

          by_live : (c : Bool) → is_live (slot_at s m) ≡ c → c ≡ false
          by_live false is = refl
          by_live true is =
              let d = (slot_at s m).directory in
              let used : s.spaces.uses d ≡ directory = directory_is (s.spaces.uses d) (h.spaces.in_use m is) in
              let apart : d ≢ f = λ same. free_or_directory (s.spaces.uses f) frame_free (ap s.spaces.uses (sym same) ∙ used) in
              let owner = order.spaces.owned d (ap is_directory (upd-other s.spaces.uses f directory d apart ∙ used)) in
              by_owner owner.0 owner.1 owner.2 (owner.0 == m) refl
            where
              by_owner : (j : ℕ) → is_live (slot_at after j) ≡ true → (slot_at after j).directory ≡ (slot_at s m).directory →
                  (c : Bool) → (j == m) ≡ c → true ≡ false
              by_owner j lives owns true test =
                  let here : j ≡ m = grind (arith, nat_tests) in
                  let used : s.spaces.uses (slot_at s m).directory ≡ directory =
                  directory_is (s.spaces.uses (slot_at s m).directory) (h.spaces.in_use m is) in
                  absurd (free_or_directory (s.spaces.uses f) frame_free
                  (ap s.spaces.uses (sym home ∙ ap (λ (i : ℕ). (slot_at after i).directory) (sym here) ∙ owns) ∙ used))
              by_owner j lives owns false test =
                  let ne : j ≢ m = grind (arith, nat_tests) in
                  let rest = others j ne in
                  absurd (ne (h.spaces.apart j m (sym rest.0 ∙ lives) is (sym rest.1 ∙ owns)))

      -- So it is another than the caller's.
      pub exofork_is : m ≢ n → system s n SYS_EXOFORK (given regs) ≡ giving begun (Answered child_id)
      exofork_is ne =
          let mine : Slot = record (slot_at s n) { registers = q } in
          called_is
          ∙ ap (λ (t : KernelState). giving t (Answered child_id))
          (ap (λ (t : KernelState). with_registers t n regs) (slots_swap taken n m mine child (λ same. ne (sym same)))
          ∙ registers_put begun n mine regs
          ∙ slot_back begun n (slot_at s n) (sym (slot_kept taken m child n (λ same. ne (sym same)))))

  -- Whatever came of it, the caller lives on with its registers.
  pub exofork_lives : LivesOn (system s n SYS_EXOFORK (given regs)) n regs
  exofork_lives = by_lists s.environments.free_slots refl s.spaces.free refl
    where
      refused_lives : (answer : ℕ) → system s n SYS_EXOFORK (given regs) ≡ giving (with_refusal s) (Answered answer) →
          LivesOn (system s n SYS_EXOFORK (given regs)) n regs
      refused_lives answer is =
          subst (λ (z : CallStep Called). LivesOn z n regs) (sym is) (record { live = live; registers = refl; written = refl })

      by_lists : (l : List ℕ) → s.environments.free_slots ≡ l → (free_frames : List ℕ) → s.spaces.free ≡ free_frames →
          LivesOn (system s n SYS_EXOFORK (given regs)) n regs
      by_lists [] slots_are free_frames frames_are = let none = no_slot slots_are in refused_lives none.0 none.1
      by_lists (m ∷ slots) slots_are [] frames_are = let none = no_frame m slots slots_are frames_are in refused_lives none.0 none.1
      by_lists (m ∷ slots) slots_are (f ∷ frames) frames_are = made_lives m slots slots_are f frames frames_are
