-- Where a page was refused first, and that this stays so while the run goes on.
use Rattle.std.proofs.Common.{◌≡◌, ◌∙◌, ℕ, ◌+◌, ◌≤◌, Bool, true, false, List, [], ◌∷◌, ◌++◌, Some}
use Rattle.std.proofs.Common.{refl, sym, ap, subst, arith, append_assoc}
use Rattle.jos_kernel.specs.declared.report.Refusal.{Refusal}
use Rattle.jos_kernel.specs.declared.report.Turn.{Turn}
use Rattle.lib_os.specs.AbstractState.{AbstractState}
use Rattle.jos_run.specs.AbstractTurns.{turn_begun, steps_taken}
use Rattle.jos_run.specs.RunReports.{IsRefusedInTurn, steps_of}

-- ---- lists of turns

-- all steps, with those of one more turn
pub steps_append : (turns : List Turn) (t : Turn) → steps_of (turns ++ t ∷ []) ≡ steps_of turns + (t.visible + t.hidden)
unfolding steps_of
steps_append [] t = omega arith
steps_append (turn ∷ rest) t =
    let others : steps_of (rest ++ t ∷ []) ≡ steps_of rest + (t.visible + t.hidden) = steps_append rest t in
    omega arith

pub no_steps_yet : steps_of [] ≡ 0
unfolding steps_of
no_steps_yet = refl

-- A turn with those before it and behind it, where the last of all has gone on.
pub record Longer (before : List Turn) (turn : Turn) (turns : List Turn) (last : Turn) : Type 0 where
  pub now : Turn
  pub later : List Turn
  pub are : turns ++ last ∷ [] ≡ before ++ now ∷ later
  pub slot : now.slot ≡ turn.slot
  pub visible : turn.visible ≤ now.visible

head_of : List Turn → Turn → Turn
head_of [] t = t
head_of (turn ∷ rest) t = turn

tail_of : List Turn → List Turn
tail_of [] = []
tail_of (turn ∷ rest) = rest

-- the last turn has gone on in the same slot
pub longer : (before : List Turn) (turn : Turn) (later turns : List Turn) (last next : Turn) →
    turns ++ last ∷ [] ≡ before ++ turn ∷ later →
    next.slot ≡ last.slot → last.visible ≤ next.visible → Longer before turn turns next
unfolding head_of tail_of
longer [] turn later [] last next are slot visible =
    let same : last ≡ turn = ap (λ (l : List Turn). head_of l turn) are in
    record {
      now = next;
      later = [];
      are = refl;
      slot = slot ∙ ap (λ (t : Turn). t.slot) same;
      visible = subst (λ (t : Turn). t.visible ≤ next.visible) same visible;
    }
longer [] turn later (first ∷ rest) last next are slot visible =
    let same : first ≡ turn = ap (λ (l : List Turn). head_of l turn) are in
    record {
      now = first;
      later = rest ++ next ∷ [];
      are = refl;
      slot = ap (λ (t : Turn). t.slot) same;
      visible = subst (λ (t : Turn). t.visible ≤ first.visible) same (omega arith);
    }
longer (b ∷ bs) turn later [] last next are slot visible = absurd (nothing_behind bs turn later (ap tail_of are))
  where
    is_none : List Turn → Bool
    is_none [] = true
    is_none (t ∷ ts) = false

    nothing_behind : (bs : List Turn) (turn : Turn) (later : List Turn) → [] ≡ bs ++ turn ∷ later → ⊥
    nothing_behind [] turn later e = let contradiction : true ≡ false = ap is_none e in cc
    nothing_behind (b ∷ bs) turn later e = let contradiction : true ≡ false = ap is_none e in cc
longer (b ∷ bs) turn later (first ∷ rest) last next are slot visible =
    let same : first ≡ b = ap (λ (l : List Turn). head_of l b) are in
    let further = longer bs turn later rest last next (ap tail_of are) slot visible in
    record {
      now = further.now;
      later = further.later;
      are = ap (λ (t : Turn). t ∷ (rest ++ next ∷ [])) same ∙ ap (λ (l : List Turn). b ∷ l) further.are;
      slot = further.slot;
      visible = further.visible;
    }

-- ---- what was told of the refusal stays so

-- where the last turn has gone on
pub refused_further : {schedule : List ℕ} {first : AbstractState} {frames : ℕ} {refusal : Refusal} {printed : List ℕ} (turns : List Turn)
    (last next : Turn) (more : List ℕ) → IsRefusedInTurn schedule first frames (turns ++ last ∷ []) refusal printed →
    next.slot ≡ last.slot → last.visible ≤ next.visible →
    IsRefusedInTurn schedule first frames (turns ++ next ∷ []) refusal (printed ++ more)
refused_further turns last next more h slot visible =
    let k = longer h.before h.turn h.later turns last next h.turns_are slot visible in
    let within : h.visible ≤ h.turn.visible = h.within in
    let grown : h.turn.visible ≤ k.now.visible = k.visible in
    record {
      before = h.before;
      turn = k.now;
      later = k.later;
      turns_are = k.are;
      place = h.place;
      begun = h.begun;
      ran = h.ran;
      fit = h.fit;
      chosen = h.chosen ∙ ap (λ (n : ℕ). Some n) (sym k.slot);
      visible = h.visible;
      within = omega arith;
      now = h.now;
      taken = subst (λ (n : ℕ). steps_taken (turn_begun h.begun n) n h.visible ≡ Some h.now) (sym k.slot) h.taken;
      told = h.told;
      rest = h.rest ++ more;
      printed_is = ap (λ (l : List ℕ). l ++ more) h.printed_is ∙ append_assoc h.told h.rest more;
      console = h.console;
      console_len = h.console_len;
      needed = h.needed;
    }

-- where one more turn was taken
pub refused_longer : {schedule : List ℕ} {first : AbstractState} {frames : ℕ} {refusal : Refusal} {printed : List ℕ} (turns : List Turn)
    (next : Turn) (more : List ℕ) → IsRefusedInTurn schedule first frames turns refusal printed →
    IsRefusedInTurn schedule first frames (turns ++ next ∷ []) refusal (printed ++ more)
refused_longer turns next more h = record {
  before = h.before;
  turn = h.turn;
  later = h.later ++ next ∷ [];
  turns_are = ap (λ (l : List Turn). l ++ next ∷ []) h.turns_are ∙ append_assoc h.before (h.turn ∷ h.later) (next ∷ []);
  place = h.place;
  begun = h.begun;
  ran = h.ran;
  fit = h.fit;
  chosen = h.chosen;
  visible = h.visible;
  within = h.within;
  now = h.now;
  taken = h.taken;
  told = h.told;
  rest = h.rest ++ more;
  printed_is = ap (λ (l : List ℕ). l ++ more) h.printed_is ∙ append_assoc h.told h.rest more;
  console = h.console;
  console_len = h.console_len;
  needed = h.needed;
}
