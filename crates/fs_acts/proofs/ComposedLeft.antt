-- What is left of changes while they are made: lists of changes that put the same, and what holds at each disk on the way.
use Rattle.std.proofs.Common.{◌≡◌, ◌∙◌, ◌<◌, ℕ, zero, suc, List, [], ◌∷◌, ◌++◌, length, refl, sym, ap, arith, append_assoc}
use Rattle.std.specs.Prelude.{take, drop}
use Rattle.std.specs.List.{All}
use Rattle.std.proofs.lemmas.List.Elements.{All-nil, All-append}
use Rattle.fs_acts.specs.BlockActs.{Put, written, Change, puts_in_turn}
use Rattle.fs_acts.specs.BlockLaws.{IsWithin}
use Rattle.fs_acts.proofs.Puts.{written-append}
use Rattle.fs_acts.proofs.ComposedSteps.{left_by}

-- ---- changes that put the same

abbrev pub Alike : (ℕ → ℕ) → List Change → List Change → Type 0
Alike byte one other = puts_in_turn one byte ≡ puts_in_turn other byte

-- a change without puts may be left out
pub alike-idle : (byte : ℕ → ℕ) (change : Change) (rest : List Change) → change byte ≡ [] → Alike byte (change ∷ rest) rest
unfolding puts_in_turn written
alike-idle byte change rest none = λ i. none i ++ puts_in_turn rest (written (none i) byte)

puts-append : (first rest : List Change) (byte : ℕ → ℕ) →
    puts_in_turn (first ++ rest) byte ≡ puts_in_turn first byte ++ puts_in_turn rest (written (puts_in_turn first byte) byte)
unfolding puts_in_turn written
puts-append [] rest byte = refl
puts-append (change ∷ first) rest byte =
    let now : ℕ → ℕ = written (change byte) byte in
    let puts : List Put = puts_in_turn first now in
    ap (λ (l : List Put). change byte ++ l) (puts-append first rest now)
    ∙ sym (append_assoc (change byte) puts (puts_in_turn rest (written puts now)))
    ∙ ap (λ (b : ℕ → ℕ). change byte ++ puts ++ puts_in_turn rest b) (sym (written-append (change byte) puts byte))

-- others may follow both
pub alike-append : (byte : ℕ → ℕ) (one other rest : List Change) → Alike byte one other → Alike byte (one ++ rest) (other ++ rest)
alike-append byte one other rest same =
    puts-append one rest byte
    ∙ ap (λ (puts : List Put). puts ++ puts_in_turn rest (written puts byte)) same
    ∙ sym (puts-append other rest byte)

-- ---- disks on the way

-- It holds of each disk on the way and the changes that are left there, also of the last one, where none is.
unfoldable pub AlwaysTo : ((ℕ → ℕ) → List Change → Type 0) → (ℕ → ℕ) → List Change → Type 0
AlwaysTo P byte [] = P byte []
AlwaysTo P byte (change ∷ rest) = P byte (change ∷ rest) × AlwaysTo P (left_by (change ∷ []) byte) rest

-- while there are changes left
unfoldable pub Always : ((ℕ → ℕ) → List Change → Type 0) → (ℕ → ℕ) → List Change → Type 0
Always P byte [] = Unit {0}
Always P byte (change ∷ rest) = P byte (change ∷ rest) × Always P (left_by (change ∷ []) byte) rest

pub always-more : (P : (ℕ → ℕ) → List Change → Type 0) (byte : ℕ → ℕ) (change : Change) (rest : List Change) → P byte (change ∷ rest) →
    AlwaysTo P (left_by (change ∷ []) byte) rest → AlwaysTo P byte (change ∷ rest)
unfolding AlwaysTo
always-more P byte change rest here after = (here, after)

pub always-last : (P : (ℕ → ℕ) → List Change → Type 0) (byte : ℕ → ℕ) → P byte [] → AlwaysTo P byte []
unfolding AlwaysTo
always-last P byte here = here

pub always-none : (P : (ℕ → ℕ) → List Change → Type 0) (byte : ℕ → ℕ) → Always P byte []
unfolding Always
always-none P byte = tt

pub always-one : (P : (ℕ → ℕ) → List Change → Type 0) (byte : ℕ → ℕ) (change : Change) → P byte (change ∷ []) → Always P byte (change ∷ [])
unfolding Always
always-one P byte change here = (here, tt)

pub always-step : (P : (ℕ → ℕ) → List Change → Type 0) (byte : ℕ → ℕ) (change : Change) (rest : List Change) → P byte (change ∷ rest) →
    Always P (left_by (change ∷ []) byte) rest → Always P byte (change ∷ rest)
unfolding Always
always-step P byte change rest here after = (here, after)

pub always-map : (P Q : (ℕ → ℕ) → List Change → Type 0) (byte : ℕ → ℕ) (changes : List Change) →
    ((now : ℕ → ℕ) (left : List Change) → P now left → Q now left) → AlwaysTo P byte changes → AlwaysTo Q byte changes
unfolding AlwaysTo
always-map P Q byte [] step all = step byte [] all
always-map P Q byte (change ∷ rest) step all =
    (step byte (change ∷ rest) all.0, always-map P Q (left_by (change ∷ []) byte) rest step all.1)

-- the last one left out
pub always-plain : (P Q : (ℕ → ℕ) → List Change → Type 0) (byte : ℕ → ℕ) (changes : List Change) →
    ((now : ℕ → ℕ) (left : List Change) → P now left → Q now left) → AlwaysTo P byte changes → Always Q byte changes
unfolding AlwaysTo Always
always-plain P Q byte [] step all = tt
always-plain P Q byte (change ∷ rest) step all =
    (step byte (change ∷ rest) all.0, always-plain P Q (left_by (change ∷ []) byte) rest step all.1)

-- one more change behind them
pub always-behind : (P Q : (ℕ → ℕ) → List Change → Type 0) (byte : ℕ → ℕ) (changes : List Change) (last : Change) →
    ((now : ℕ → ℕ) (left : List Change) → P now left → Q now (left ++ last ∷ [])) → AlwaysTo P byte changes →
    Always Q byte (changes ++ last ∷ [])
unfolding AlwaysTo Always
always-behind P Q byte [] last step all = (step byte [] all, tt)
always-behind P Q byte (change ∷ rest) last step all =
    (step byte (change ∷ rest) all.0, always-behind P Q (left_by (change ∷ []) byte) rest last step all.1)

-- after so many of them
pub always-at : (P : (ℕ → ℕ) → List Change → Type 0) (byte : ℕ → ℕ) (changes : List Change) (k : ℕ) → k < length changes →
    Always P byte changes → P (left_by (take k changes) byte) (drop k changes)
unfolding Always left_by
always-at P byte [] k within all = absurd (omega arith)
always-at P byte (change ∷ rest) zero within all = all.0
always-at P byte (change ∷ rest) (suc k) within all = always-at P (left_by (change ∷ []) byte) rest k (omega arith) all.1

-- ---- puts within the disk's blocks

-- The puts of the change that comes next lie within so many blocks.
unfoldable pub NextWithin : ℕ → (ℕ → ℕ) → List Change → Type 0
NextWithin blocks byte [] = Unit {0}
NextWithin blocks byte (change ∷ rest) = All (IsWithin blocks) (change byte)

pub next-none : (blocks : ℕ) (byte : ℕ → ℕ) → NextWithin blocks byte []
unfolding NextWithin
next-none blocks byte = tt

pub next-is : (blocks : ℕ) (byte : ℕ → ℕ) (change : Change) (rest : List Change) → All (IsWithin blocks) (change byte) →
    NextWithin blocks byte (change ∷ rest)
unfolding NextWithin
next-is blocks byte change rest within = within

-- one more change behind those that are left
pub next-behind : (blocks : ℕ) (byte : ℕ → ℕ) (left : List Change) (last : Change) → NextWithin blocks byte left →
    (left ≡ [] → All (IsWithin blocks) (last byte)) → NextWithin blocks byte (left ++ last ∷ [])
unfolding NextWithin
next-behind blocks byte [] last next end = end refl
next-behind blocks byte (change ∷ rest) last next end = next

-- so all puts lie there
pub all-within : (blocks : ℕ) (byte : ℕ → ℕ) (changes : List Change) → Always (NextWithin blocks) byte changes →
    All (IsWithin blocks) (puts_in_turn changes byte)
unfolding NextWithin Always left_by puts_in_turn
all-within blocks byte [] all = All-nil (IsWithin blocks)
all-within blocks byte (change ∷ rest) all =
    All-append (IsWithin blocks) (change byte) (puts_in_turn rest (written (change byte) byte)) all.0
    (all-within blocks (written (change byte) byte) rest all.1)

pub not-none : {X : Type 0} (change : Change) (rest : List Change) → ◌≡◌ {A = List Change} (change ∷ rest) [] → X
not-none change rest e = absurd (cc)
