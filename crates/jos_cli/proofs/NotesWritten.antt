-- Notes that are written one after the other.
use Rattle.std.proofs.Common.{◌≡◌, ℕ, ◌+◌, ◌<◌, ◌≤◌, suc, List, [], ◌∷◌, ◌++◌, length, drop, Option, None, Some, Result}
use Rattle.std.proofs.Common.{MatchResult, refl, sym, ap, subst, ◌∙◌, arith, append_assoc}
use Rattle.std.proofs.Common.{drop-cons}
use Rattle.std.proofs.lemmas.List.{append-nil, drop_all}
use Rattle.std.proofs.lemmas.Option.{slice_get_within, get_or_from_slice_get}
use Rattle.circular_buffer.proofs.Places.{slice_get-some}
use Rattle.std.specs.Prelude.{slice_get}
use Rattle.jos_host.specs.Told.{Appends}
use Rattle.jos_host.specs.Frames.{from_to}
use Rattle.jos_host.specs.Gains.{Gains, GainsPart}
use Rattle.jos_base.specs.Lines.{trace_line}
use Rattle.jos_kernel.specs.declared.trace.TrapLine.{TrapLine}
use Rattle.jos_kernel.proofs.ToldBytes.{gains_none, gains_more, gains_part, appended}
use Rattle.jos_cli.specs.Notes.{trace_text}

-- ---- the word, the traps and the line

pub note_written : {E : Type 0} (first q r s : Option (List ℕ)) (a b d x y z : List ℕ) (result : Result (Unit {0}) E) → a ≡ x → b ≡ y → d ≡ z →
    Gains (from_to first q) a → Gains (from_to q r) b → Appends r d result s →
    MatchResult result (λ _. Gains (from_to first s) (x ++ (y ++ z))) (λ _. GainsPart (from_to first s) (x ++ (y ++ z)))
note_written first q r s a b d x y z result ax by dz one two three =
    subst (λ (l : List ℕ). MatchResult result (λ _. Gains (from_to first s) l) (λ _. GainsPart (from_to first s) l)) (append_assoc x y z)
    (appended first r s (a ++ b) d (x ++ y) z result (λ i. ax i ++ by i) dz (gains_more first q r a b one two) three)

pub traps_failed : (first q r : Option (List ℕ)) (a x b z : List ℕ) → a ≡ x → Gains (from_to first q) a → GainsPart (from_to q r) b →
    GainsPart (from_to first r) (x ++ (b ++ z))
traps_failed first q r a x b z ax one two =
    gains_part first q r a b z (x ++ (b ++ z)) one two (sym (append_assoc x b z) ∙ ap (λ l. (l ++ b) ++ z) (sym ax))

-- ---- trap after trap

-- the lines of the traps before a place are written
pub record HasTraced (items : List TrapLine) (place : ℕ) (first now : Option (List ℕ)) : Type 0 where
  pub written : List ℕ
  pub gains : Gains (from_to first now) written
  pub rest : trace_text items ≡ written ++ trace_text (drop place items)

pub nothing_traced : (items : List TrapLine) (first : Option (List ℕ)) → HasTraced items 0 first first
nothing_traced items first = record { written = []; gains = gains_none first; rest = refl }

abbrev pub line_of : TrapLine → List ℕ
line_of trap = trace_line trap.id trap.trap trap.error trap.va trap.ip

from_place : (items : List TrapLine) (place : ℕ) (trap : TrapLine) → slice_get items place ≡ Some trap → drop place items ≡ trap ∷ drop (place + 1) items
from_place items place trap is =
    let next : place + 1 ≡ suc place = omega arith in
    drop-cons items place trap (slice_get_within items place trap is)
    ∙ (λ i. get_or_from_slice_get items place trap trap is i ∷ drop (sym next i) items)

module _ {items : List TrapLine} {place : ℕ} {first now : Option (List ℕ)} (h : HasTraced items place first now) (trap : TrapLine) (is : slice_get items place ≡ Some trap) where
  whole : trace_text items ≡ (h.written ++ line_of trap) ++ trace_text (drop (place + 1) items)
  unfolding trace_text
  whole = h.rest ∙ ap (λ l. h.written ++ trace_text l) (from_place items place trap is) ∙ sym (append_assoc h.written (line_of trap) (trace_text (drop (place + 1) items)))

  pub one_traced : (later : Option (List ℕ)) (line : List ℕ) → line ≡ line_of trap → Gains (from_to now later) line → HasTraced items (place + 1) first later
  one_traced later line same more = record {
    written = h.written ++ line_of trap;
    gains = gains_more first now later h.written (line_of trap) h.gains (subst (λ (l : List ℕ). Gains (from_to now later) l) same more);
    rest = whole;
  }

  pub one_failed : (later : Option (List ℕ)) (line : List ℕ) → line ≡ line_of trap → GainsPart (from_to now later) line →
      GainsPart (from_to first later) (trace_text items)
  one_failed later line same part =
      gains_part first now later h.written (line_of trap) (trace_text (drop (place + 1) items)) (trace_text items) h.gains
      (subst (λ (l : List ℕ). GainsPart (from_to now later) l) same part) whole

pub all_traced : {items : List TrapLine} {place : ℕ} {first now : Option (List ℕ)} → HasTraced items place first now → length items ≤ place →
    Gains (from_to first now) (trace_text items)
unfolding trace_text
all_traced {items} {place} {first} {now} h past =
    subst (λ (l : List ℕ). Gains (from_to first now) l) (sym (h.rest ∙ ap (λ l. h.written ++ trace_text l) (drop_all place items past) ∙ append-nil h.written)) h.gains

-- there is a trap at each place
pub no_trap : (items : List TrapLine) (place : ℕ) → None ≡ slice_get items place → place < length items → ⊥
no_trap items place none below = let some = slice_get-some items place below in let e = none ∙ some.1 in cc
