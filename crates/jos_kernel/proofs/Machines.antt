-- What a machine keeps while its system goes from one state to the next.
use Rattle.std.proofs.Common.{◌≡◌, ◌≢◌, ℕ, ◌+◌, ◌*◌, ◌/◌, ◌%◌, Bool, true, false, List, [], Option, Some, None, Result, Ok, Err, refl, sym, ap, subst, ◌∙◌, if◌then◌else◌}
use Rattle.std.specs.Prelude.{IfSome, IfOk, IfErr, OnOk}
use Rattle.jos_base.specs.declared.memory.PageFault.{PageFault}
use Rattle.jos_base.specs.declared.numbers.TheConstants.{PGSIZE}
use Rattle.jos_base.specs.declared.memory.Access.TheVariants.{Read, Write}
use Rattle.jos_base.specs.Reach.{FrameOffset}
use Rattle.jos_base.specs.SpacesState.{SpacesState, directories}
use Rattle.jos_base.specs.UserMemory.{reach_in, stored_byte, with_byte_at}
use Rattle.jos_base.specs.Environments.{is_running}
use Rattle.jos_base.specs.KernelState.{KernelState, slot_at, with_status, with_spaces, turn_ended}
use Rattle.jos_base.specs.declared.environment.Status.{Status}
use Rattle.jos_base.specs.declared.environment.Status.TheVariants.{Free, Dying, NotRunnable, Runnable, Running}
use Rattle.jos_space.specs.declared.spaces.Space.{Space}
use Rattle.jos_space.specs.declared.spaces.PageAtHand.{PageAtHand}
use Rattle.jos_space.specs.AtHand.{bits_at_hand, frame_with, IsPageAtHand, stored_word}
use Rattle.jos_sys.specs.declared.input.Input.{Input}
use Rattle.jos_sys.specs.declared.system.System.{System}
use Rattle.jos_sys.specs.System.{state_of, spaces_of, Keeps, in_use}
use Rattle.jos_kernel.specs.Machine.{InUse, KnowsCode, Lawful}

in_use_still : (old new : System) (space : Option Space) → in_use new ≡ in_use old → InUse old space → InUse new space
in_use_still old new None same h = tt
in_use_still old new (Some space) same h = ap (λ (f : ℕ → Bool). f space.directory.0) same ∙ h

-- the directories that are in use stay, and no page is known to be at hand
pub still_lawful : {inside : ℕ → Bool} {old new : System} {input : Input} {space : Option Space} {code : Option PageAtHand} → (Keeps old → Keeps new) → in_use new ≡ in_use old →
    Lawful inside (record { system = old; input = input; space = space; code = code }) → Lawful inside (record { system = new; input = input; space = space; code = None })
still_lawful {old = old} {new = new} {space = space} keeps same h =
    record { system = keeps h.system; space = in_use_still old new space same h.space; code = tt }

-- ---- a page that is known to be at hand

-- a byte that is stored leaves each entry as it was
frame_with-stored : (s : SpacesState) (d va byte e number bits : ℕ) → frame_with (stored_byte s d va byte) e number bits ≡ frame_with s e number bits
unfolding stored_byte frame_with
frame_with-stored s d va byte e number bits = go (reach_in s d va Write)
  where
    go : (r : Result FrameOffset PageFault) → frame_with (with_byte_at s byte r) e number bits ≡ frame_with s e number bits
    go (Ok location) = refl
    go (Err fault) = refl

frame_with-stored_word : (s : SpacesState) (d va word e number bits : ℕ) → frame_with (stored_word s d va word) e number bits ≡ frame_with s e number bits
unfolding stored_word
frame_with-stored_word s d va word e number bits =
    frame_with-stored _ d (va + 3) (word / 16777216 % 256) e number bits
    ∙ frame_with-stored _ d (va + 2) (word / 65536 % 256) e number bits
    ∙ frame_with-stored _ d (va + 1) (word / 256 % 256) e number bits
    ∙ frame_with-stored s d va (word % 256) e number bits

still_known : (inside : ℕ → Bool) (old new : System) (space : Option Space) → ((e number bits : ℕ) → frame_with (spaces_of new) e number bits ≡ frame_with (spaces_of old) e number bits) →
    (code : Option PageAtHand) → KnowsCode inside old space code → KnowsCode inside new space code
still_known inside old new space same None h = tt
still_known inside old new space same (Some page) h = (h.0, same page.space.directory.0 page.number (bits_at_hand Read) ∙ h.1, h.2)

module _ {inside : ℕ → Bool} (old new : System) (input : Input) (space : Option Space) (code : Option PageAtHand) (keeps : Keeps old → Keeps new)
    (h : Lawful inside (record { system = old; input = input; space = space; code = code })) where
  -- what is known stays where every entry does
  lawful_by : in_use new ≡ in_use old → ((e number bits : ℕ) → frame_with (spaces_of new) e number bits ≡ frame_with (spaces_of old) e number bits) →
      Lawful inside (record { system = new; input = input; space = space; code = code })
  lawful_by same frames =
      record { system = keeps h.system; space = in_use_still old new space same h.space; code = still_known inside old new space frames code h.code }

  pub spaces_lawful : spaces_of new ≡ spaces_of old → Lawful inside (record { system = new; input = input; space = space; code = code })
  spaces_lawful same = lawful_by (ap directories same) (λ e number bits. ap (λ (s : SpacesState). frame_with s e number bits) same)

  pub byte_lawful : (d va byte : ℕ) (result : Bool) → in_use new ≡ in_use old →
      (result ≡ true → (i : List ℕ) → state_of new i ≡ with_spaces (state_of old i) (stored_byte (spaces_of old) d va byte)) →
      (result ≡ false → new ≡ old) → Lawful inside (record { system = new; input = input; space = space; code = code })
  byte_lawful d va byte true same put left =
      lawful_by same (λ e number bits. ap (λ (s : KernelState). frame_with s.spaces e number bits) (put refl []) ∙ frame_with-stored (spaces_of old) d va byte e number bits)
  byte_lawful d va byte false same put left = spaces_lawful (ap spaces_of (left refl))

  pub word_lawful : (d va word : ℕ) (result : Bool) → in_use new ≡ in_use old →
      (result ≡ true → (i : List ℕ) → state_of new i ≡ with_spaces (state_of old i) (stored_word (spaces_of old) d va word)) →
      (result ≡ false → new ≡ old) → Lawful inside (record { system = new; input = input; space = space; code = code })
  word_lawful d va word true same put left =
      lawful_by same (λ e number bits. ap (λ (s : KernelState). frame_with s.spaces e number bits) (put refl []) ∙ frame_with-stored_word (spaces_of old) d va word e number bits)
  word_lawful d va word false same put left = spaces_lawful (ap spaces_of (left refl))

-- a page that is found lies inside where its address does
pub knows_page : (inside : ℕ → Bool) (system : System) (space : Space) (found : Option PageAtHand) → IfSome found (λ page. page.space ≡ space) →
    IfSome found (IsPageAtHand (spaces_of system)) → (va : ℕ) → ((number : ℕ) → number ≡ va / PGSIZE → inside (number * PGSIZE) ≡ true) →
    IfSome found (λ page. page.number ≡ va / PGSIZE) → KnowsCode inside system (Some space) found
knows_page inside system space None of_space at_hand va whole number = tt
knows_page inside system space (Some page) of_space at_hand va whole number = (ap Some (sym of_space), at_hand, whole page.number number)

-- the page of the space that is loaded
pub known_space : {inside : ℕ → Bool} (system : System) (input : Input) (space : Option Space) (code : Option PageAtHand) (page : PageAtHand) →
    Lawful inside (record { system = system; input = input; space = space; code = code }) → code ≡ Some page →
    (space ≡ Some page.space) × (in_use system page.space.directory.0 ≡ true) × IsPageAtHand (spaces_of system) page × (inside (page.number * PGSIZE) ≡ true)
known_space {inside = inside} system input space code page h e =
    let known = subst (KnowsCode inside system space) e h.code in
    (known.0, subst (InUse system) known.0 h.space, known.1, known.2)

-- the end of a turn changes no space
pub ended_spaces : (s : KernelState) (n : ℕ) → (turn_ended s n).spaces ≡ s.spaces
ended_spaces s n = by_test (is_running (slot_at s n).status)
  where
    by_test : (b : Bool) → (if b then with_status s n Runnable else s).spaces ≡ s.spaces
    by_test true = refl
    by_test false = refl

pub not_running : (status : Status) → status ≢ Running → false ≡ is_running status
not_running Free ne = refl
not_running Dying ne = refl
not_running NotRunnable ne = refl
not_running Runnable ne = refl
not_running Running ne = absurd (ne refl)

-- ---- what is so for any input is so for the one that is left

pub ok_at : {T E : Type 0} (result : Result T E) (holds : List ℕ → T → Type 0) (input : List ℕ) →
    IfOk result (λ x. (i : List ℕ) → holds i x) → IfOk result (holds input)
ok_at (Ok x) holds input h = h input
ok_at (Err e) holds input h = tt

pub err_at : {T E : Type 0} (result : Result T E) (holds : List ℕ → E → Type 0) (input : List ℕ) →
    IfErr result (λ e. (i : List ℕ) → holds i e) → IfErr result (holds input)
err_at (Ok x) holds input h = tt
err_at (Err e) holds input h = h input

pub done_at : {T E : Type 0} (result : Result T E) (holds : List ℕ → Type 0) (input : List ℕ) →
    OnOk result ((i : List ℕ) → holds i) → OnOk result (holds input)
done_at (Ok x) holds input h = h input
done_at (Err e) holds input h = tt
