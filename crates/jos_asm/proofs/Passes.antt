-- What the passes over the items know when they have come to the item at some index.
use Rattle.std.proofs.Common.{◌≡◌, ℕ, zero, suc, All, ◌+◌, ◌≤◌, ◌<◌, Bool, true, false, List, ◌∷◌, [], ◌++◌, length}
use Rattle.std.proofs.Common.{take, drop, get_or, Option, Some, None, refl, sym, ap, subst, ◌∙◌, arith, append_assoc}
use Rattle.std.proofs.Common.{append-nil, length-append}
use Rattle.std.specs.Prelude.{is_some, ◌||◌, unwrap_or, IsTrue, cond}
use Rattle.std.specs.Option.{option_map}
use Rattle.std.specs.List.{list_any}
use Rattle.std.specs.Str.{bytes_eq}
use Rattle.std.proofs.lemmas.List.{take_more, drop_more, drop_all}
use Rattle.std.proofs.lemmas.Slice.Eq.{bytes_eq-Decides}
use Rattle.jos_asm.specs.declared.limits.TheConstants.{CODE_MAX}
use Rattle.jos_asm.specs.declared.item.Item.{Item}
use Rattle.jos_asm.specs.declared.item.Item.TheVariants as item
use Rattle.jos_asm.specs.declared.fault.AsmFault.{AsmFault}
use Rattle.jos_asm.specs.declared.fault.AsmFault.TheVariants.{TooLong, Twice, Unknown, Far, NoMemory}
use Rattle.jos_asm.specs.Items.{is_item, length_of, target_of}
use Rattle.jos_asm.specs.Program.{length_of_all, item_bytes, is_label, place_from, place_in, is_unknown, first_unknown}
use Rattle.jos_asm.specs.Program.{first_twice, is_far, first_far, spelled_from}
use Rattle.jos_asm.specs.Calls.{IsFault}
use Rattle.jos_asm.specs.Labels.{twice_in, unknown_in, far_at, with_label}
use Rattle.jos_asm.proofs.Lawful.{length-relative, length-mov}

-- `len` bytes are those of the items before
pub record Counted (items : List Item) (index len : ℕ) : Type 0 where
  pub rest : len + length_of_all (drop index items) ≡ length_of_all items
  pub small : len ≤ CODE_MAX

-- the label of a name, if it is not found yet, is among the items to come, the first of them at `at`
pub record Sought (name : List ℕ) (items : List Item) (index at : ℕ) : Type 0 where
  pub rest : at + length_of_all (drop index items) ≡ length_of_all items
  pub place : place_from at (drop index items) name ≡ place_in items name

-- the first jump that does not reach its label is among the items to come, the first of them at `at`
pub record Reached (place : List ℕ → ℕ) (items : List Item) (index at : ℕ) : Type 0 where
  pub rest : at + length_of_all (drop index items) ≡ length_of_all items
  pub far : first_far place at (drop index items) ≡ first_far place 0 items

-- the bytes written and those of the items to come are all of them
pub record Written (base : ℕ) (place : List ℕ → ℕ) (items : List Item) (index : ℕ) (code : List ℕ) : Type 0 where
  pub reached : Reached place items index (length code)
  pub bytes : code ++ spelled_from base place (length code) (drop index items) ≡ spelled_from base place 0 items

-- what is found, and else what will be
abbrev pub or_later : Option ℕ → Option ℕ → Option ℕ
or_later None later = later
or_later (Some place) later = Some place

-- a label is one of those found or one of those to come, and a name is twice if it is found a second time
pub record Placed (found : List ℕ → Option ℕ) (items : List Item) (index at : ℕ) : Type 0 where
  pub rest : at + length_of_all (drop index items) ≡ length_of_all items
  pub place : (name : List ℕ) → or_later (found name) (place_from at (drop index items) name) ≡ place_in items name
  pub before : List (List ℕ)
  pub seen : (name : List ℕ) → is_some (found name) ≡ list_any (λ earlier. bytes_eq earlier name) before
  pub twice : first_twice before (drop index items) ≡ first_twice [] items

-- ---- faults

-- the fault of the item at hand is the first of all
fault_first : (kind : List ℕ → AsmFault) (here : Bool) (name later first : Option (List ℕ)) (fault : AsmFault) → first ≡ cond here name later
    → IsFault fault (cond here (option_map kind name) None) → IsFault fault (option_map kind first)
fault_first kind true name later first fault e h = rw e h
fault_first kind false name later first NoMemory e h = tt
fault_first kind false name later first TooLong e h = absurd cc
fault_first kind false name later first (Twice x) e h = absurd cc
fault_first kind false name later first (Unknown x) e h = absurd cc
fault_first kind false name later first (Far x) e h = absurd cc

-- the same where the fault is known exactly
told_first : (kind : List ℕ → AsmFault) (here : Bool) (name later first : Option (List ℕ)) (fault : AsmFault) → first ≡ cond here name later
    → cond here (option_map kind name) None ≡ Some fault → option_map kind first ≡ Some fault
told_first kind true name later first fault e h = rw e h
told_first kind false name later first fault e h = absurd cc

-- ---- lengths

pub bytes_len : (base : ℕ) (place : List ℕ → ℕ) (at : ℕ) (x : Item) → IsTrue (is_item x) → length (item_bytes base place at x) ≡ length_of x
bytes_len base place at (item.Label name) h = refl
bytes_len base place at (item.Insn insn) h = refl
bytes_len base place at (item.Jump row name) h = length-relative row _ h
bytes_len base place at (item.Address reg name) h = length-mov reg _ h
bytes_len base place at (item.Bytes bytes) h = refl

pub spelled_len : (base : ℕ) (place : List ℕ → ℕ) (at : ℕ) (items : List Item) → All (λ i. IsTrue (is_item i)) items → length (spelled_from base place at items) ≡ length_of_all items
unfolding spelled_from length_of_all
spelled_len base place at [] are = refl
spelled_len base place at (i ∷ items) are =
    length-append (item_bytes base place at i) _ ∙ ap (λ n. n + length (spelled_from base place (at + length_of i) items)) (bytes_len base place at i (are zero i (omega arith)))
    ∙ ap (λ n. length_of i + n) (spelled_len base place (at + length_of i) items (λ k d within. are (suc k) d (omega (arith, within))))

pub place_within : (items : List Item) (at : ℕ) (name : List ℕ) → unwrap_or (place_from at items name) 0 ≤ at + length_of_all items
unfolding place_from length_of_all
place_within [] at name = omega arith
place_within (i ∷ items) at name = go (is_label name i) (place_within items (at + length_of i) name)
  where
    go : (b : Bool) → unwrap_or (place_from (at + length_of i) items name) 0 ≤ (at + length_of i) + length_of_all items
        → unwrap_or (cond b (Some at) (place_from (at + length_of i) items name)) 0 ≤ at + (length_of i + length_of_all items)
    go true later = omega arith
    go false later = omega (arith, later)

-- a jump that is far has a label, so that there is none such where there is no fault
only_near : (place : List ℕ → ℕ) (at : ℕ) (x : Item) (later : Option (List ℕ)) → cond (is_far place at x) (target_of x) later ≡ None → is_far place at x ≡ false
only_near place at (item.Label name) later h = refl
only_near place at (item.Insn insn) later h = refl
only_near place at (item.Jump row name) later h = near (is_far place at (item.Jump row name)) h
  where
    near : (b : Bool) → cond b (Some name) later ≡ None → b ≡ false
    near true h = absurd cc
    near false h = refl
only_near place at (item.Address reg name) later h = refl
only_near place at (item.Bytes bytes) later h = refl

-- ---- at the item x, and one further

module _ (items : List Item) (i : ℕ) (x : Item) (is : x ≡ get_or items i x) (within : i < length items) where
  next : drop i items ≡ x ∷ drop (i + 1) items
  next = drop_more items i x within ∙ ap (λ (y : Item). y ∷ drop (i + 1) items) (sym is)

  len_more : length_of_all (drop i items) ≡ length_of x + length_of_all (drop (i + 1) items)
  unfolding length_of_all
  len_more = ap length_of_all next

  pub counted_over : (len : ℕ) → Counted items i len → CODE_MAX < len + length_of x → CODE_MAX < length_of_all items
  counted_over len c over = let e = c.rest in let f = len_more in omega (arith, e, f)

  pub counted_more : (len : ℕ) → Counted items i len → len + length_of x ≤ CODE_MAX → Counted items (i + 1) (len + length_of x)
  counted_more len c small = let e = c.rest in let f = len_more in record { rest = omega (arith, e, f); small = small }

  unknown_more : (place : List ℕ → Option ℕ) → first_unknown place (drop i items) ≡ cond (is_unknown place (target_of x)) (target_of x) (first_unknown place (drop (i + 1) items))
  unfolding first_unknown
  unknown_more place = ap (first_unknown place) next

  pub known_more : (place : List ℕ → Option ℕ) → first_unknown place (drop i items) ≡ first_unknown place items → is_unknown place (target_of x) ≡ false
      → first_unknown place (drop (i + 1) items) ≡ first_unknown place items
  known_more place same known = sym (unknown_more place ∙ ap (λ b. cond b (target_of x) (first_unknown place (drop (i + 1) items))) known) ∙ same

  pub unknown_fault : (place : List ℕ → Option ℕ) (fault : AsmFault) → first_unknown place (drop i items) ≡ first_unknown place items → unknown_in place x ≡ Some fault
      → option_map Unknown (first_unknown place items) ≡ Some fault
  unknown_fault place fault same h =
      told_first Unknown (is_unknown place (target_of x)) (target_of x) (first_unknown place (drop (i + 1) items)) (first_unknown place items) fault (sym same ∙ unknown_more place) h

  module _ (name : List ℕ) (at : ℕ) (s : Sought name items i at) where
    place_more : place_from at (drop i items) name ≡ cond (is_label name x) (Some at) (place_from (at + length_of x) (drop (i + 1) items) name)
    unfolding place_from
    place_more = ap (λ (l : List Item). place_from at l name) next

    pub sought_room : length_of_all items ≤ CODE_MAX → at + length_of x ≤ CODE_MAX
    sought_room small = let e = s.rest in let f = len_more in omega (arith, e, f)

    pub sought_here : is_label name x ≡ true → Some at ≡ place_in items name
    sought_here here = sym (place_more ∙ ap (λ b. cond b (Some at) (place_from (at + length_of x) (drop (i + 1) items) name)) here) ∙ s.place

    pub sought_more : is_label name x ≡ false → Sought name items (i + 1) (at + length_of x)
    sought_more other = record {
      rest = let e = s.rest in let f = len_more in omega (arith, e, f);
      place = sym (place_more ∙ ap (λ b. cond b (Some at) (place_from (at + length_of x) (drop (i + 1) items) name)) other) ∙ s.place;
    }

  module _ (place : List ℕ → ℕ) (at : ℕ) (r : Reached place items i at) where
    far_more : first_far place at (drop i items) ≡ cond (is_far place at x) (target_of x) (first_far place (at + length_of x) (drop (i + 1) items))
    unfolding first_far
    far_more = ap (first_far place at) next

    pub reached_room : length_of_all items ≤ CODE_MAX → at + length_of x ≤ CODE_MAX
    reached_room small = let e = r.rest in let f = len_more in omega (arith, e, f)

    pub reached_fault : (fault : AsmFault) → far_at place at x ≡ Some fault → option_map Far (first_far place 0 items) ≡ Some fault
    reached_fault fault h =
        told_first Far (is_far place at x) (target_of x) (first_far place (at + length_of x) (drop (i + 1) items)) (first_far place 0 items) fault (sym r.far ∙ far_more) h

    pub reached_more : is_far place at x ≡ false → Reached place items (i + 1) (at + length_of x)
    reached_more near = record {
      rest = let e = r.rest in let f = len_more in omega (arith, e, f);
      far = sym (far_more ∙ ap (λ b. cond b (target_of x) (first_far place (at + length_of x) (drop (i + 1) items))) near) ∙ r.far;
    }

    pub all_near : first_far place 0 items ≡ None → is_far place at x ≡ false
    all_near none = only_near place at x _ (sym far_more ∙ r.far ∙ none)

  module _ (base : ℕ) (place : List ℕ → ℕ) (code : List ℕ) (w : Written base place items i code) where
    bytes_more : spelled_from base place (length code) (drop i items) ≡ item_bytes base place (length code) x ++ spelled_from base place (length code + length_of x) (drop (i + 1) items)
    unfolding spelled_from
    bytes_more = ap (spelled_from base place (length code)) next

    pub written_within : (room : ℕ) → length_of_all items ≤ room → length code + length_of x ≤ room
    written_within room small = let e = w.reached.rest in let f = len_more in omega (arith, e, f)

    pub written_more : (new : List ℕ) → IsTrue (is_item x) → is_far place (length code) x ≡ false → new ≡ code ++ item_bytes base place (length code) x → Written base place items (i + 1) new
    written_more new lawful near e =
        let longer : length new ≡ length code + length_of x = ap length e ∙ length-append code _ ∙ ap (λ n. length code + n) (bytes_len base place (length code) x lawful) in
        record {
          reached = subst (λ (n : ℕ). Reached place items (i + 1) n) (sym longer) (reached_more place (length code) w.reached near);
          bytes = (λ j. e j ++ spelled_from base place (longer j) (drop (i + 1) items))
              ∙ append_assoc code (item_bytes base place (length code) x) _ ∙ ap (λ l. code ++ l) (sym bytes_more) ∙ w.bytes;
        }

-- ---- labels

found_at : (found : List ℕ → Option ℕ) (label name : List ℕ) → is_some (found label) ≡ false → bytes_eq label name ≡ true → found name ≡ None
found_at found label name absent e = none (found name) (ap (λ n. is_some (found n)) (sym ((bytes_eq-Decides label name).0 e)) ∙ absent)
  where
    none : (o : Option ℕ) → is_some o ≡ false → o ≡ None
    none None h = refl
    none (Some x) h = absurd cc

pub once_if : {X : Type 0} (o : Option ℕ) (x : X) → o ≡ None → cond (is_some o) (Some x) None ≡ None
once_if o x e = rw e refl

absent_if : {X : Type 0} (b : Bool) (x : X) → cond b (Some x) None ≡ None → b ≡ false
absent_if true x h = absurd cc
absent_if false x h = refl

-- the step to a label
module _ (found later : List ℕ → Option ℕ) (items : List Item) (i at : ℕ) (label : List ℕ) (w : Placed found items i at) (next_is : drop i items ≡ item.Label label ∷ drop (i + 1) items) where
  place_now : (name : List ℕ) → or_later (found name) (cond (bytes_eq label name) (Some at) (place_from (at + 0) (drop (i + 1) items) name)) ≡ place_in items name
  unfolding place_from
  place_now name = ap (λ (l : List Item). or_later (found name) (place_from at l name)) (sym next_is) ∙ w.place name

  twice_now : cond (is_some (found label)) (Some label) (first_twice (label ∷ w.before) (drop (i + 1) items)) ≡ first_twice [] items
  unfolding first_twice
  twice_now = ap (λ b. cond b (Some label) (first_twice (label ∷ w.before) (drop (i + 1) items))) (w.seen label) ∙ ap (first_twice w.before) (sym next_is) ∙ w.twice

  length_now : length_of_all (drop i items) ≡ 0 + length_of_all (drop (i + 1) items)
  unfolding length_of_all
  length_now = ap length_of_all next_is

  label_more : is_some (found label) ≡ false → ((name : List ℕ) → later name ≡ cond (bytes_eq label name) (Some at) (found name)) → Placed later items (i + 1) (at + 0)
  label_more absent is = record {
    rest = let r = w.rest in let f = length_now in omega (arith, r, f);
    place = λ name. ap (λ o. or_later o (place_from (at + 0) (drop (i + 1) items) name)) (is name) ∙ joined name (bytes_eq label name) refl (place_now name);
    before = label ∷ w.before;
    seen = λ name. ap is_some (is name) ∙ seen_more name (bytes_eq label name);
    twice = ap (λ b. cond b (Some label) (first_twice (label ∷ w.before) (drop (i + 1) items))) (sym absent) ∙ twice_now;
  }
    where
      joined : (name : List ℕ) (b : Bool) → bytes_eq label name ≡ b → or_later (found name) (cond b (Some at) (place_from (at + 0) (drop (i + 1) items) name)) ≡ place_in items name
          → or_later (cond b (Some at) (found name)) (place_from (at + 0) (drop (i + 1) items) name) ≡ place_in items name
      joined name true e h = ap (λ o. or_later o (Some at)) (sym (found_at found label name absent e)) ∙ h
      joined name false e h = h

      seen_more : (name : List ℕ) (b : Bool) → is_some (cond b (Some at) (found name)) ≡ (b || list_any (λ earlier. bytes_eq earlier name) w.before)
      seen_more name true = refl
      seen_more name false = w.seen name

  label_fault : (fault : AsmFault) → IsFault fault (cond (is_some (found label)) (Some (Twice label)) None) → IsFault fault (option_map Twice (first_twice [] items))
  label_fault fault h = fault_first Twice (is_some (found label)) (Some label) (first_twice (label ∷ w.before) (drop (i + 1) items)) (first_twice [] items) fault (sym twice_now) h

  label_told : (fault : AsmFault) → cond (is_some (found label)) (Some (Twice label)) None ≡ Some fault → option_map Twice (first_twice [] items) ≡ Some fault
  label_told fault h = told_first Twice (is_some (found label)) (Some label) (first_twice (label ∷ w.before) (drop (i + 1) items)) (first_twice [] items) fault (sym twice_now) h

-- the step to another item
abbrev IsOther : Item → Type 0
IsOther x = ((name : List ℕ) → is_label name x ≡ false) × ((before : List (List ℕ)) (items : List Item) → first_twice before (x ∷ items) ≡ first_twice before items)

other_more : (found later : List ℕ → Option ℕ) (items : List Item) (i at : ℕ) (x : Item) → Placed found items i at → drop i items ≡ x ∷ drop (i + 1) items → IsOther x
    → ((name : List ℕ) → later name ≡ found name) → Placed later items (i + 1) (at + length_of x)
unfolding place_from length_of_all
other_more found later items i at x w next_is other is =
    let len : length_of_all (drop i items) ≡ length_of x + length_of_all (drop (i + 1) items) = ap length_of_all next_is in let r = w.rest in
    record {
      rest = omega (arith, len, r);
      place = λ name. ap (λ o. or_later o (place_from (at + length_of x) (drop (i + 1) items) name)) (is name)
          ∙ ap (λ b. or_later (found name) (cond b (Some at) (place_from (at + length_of x) (drop (i + 1) items) name))) (sym (other.0 name))
          ∙ ap (λ (l : List Item). or_later (found name) (place_from at l name)) (sym next_is) ∙ w.place name;
      before = w.before;
      seen = λ name. ap is_some (is name) ∙ w.seen name;
      twice = sym (ap (first_twice w.before) next_is ∙ other.1 w.before (drop (i + 1) items)) ∙ w.twice;
    }

-- the fault of an item that has none is want of memory
pub only_memory : (fault : AsmFault) (first : Option AsmFault) → IsFault fault None → IsFault fault first
only_memory NoMemory first h = tt
only_memory TooLong first h = absurd cc
only_memory (Twice x) first h = absurd cc
only_memory (Unknown x) first h = absurd cc
only_memory (Far x) first h = absurd cc

module _ (found : List ℕ → Option ℕ) (items : List Item) (i at : ℕ) (w : Placed found items i at) (within : i < length items) where
  pub placed_more : (later : List ℕ → Option ℕ) (x : Item) → x ≡ get_or items i x → twice_in found x ≡ None → ((name : List ℕ) → later name ≡ with_label found at x name)
      → Placed later items (i + 1) (at + length_of x)
  unfolding first_twice
  placed_more later (item.Label label) is once added =
      label_more found later items i at label w (next items i (item.Label label) is within) (absent_if (is_some (found label)) (Twice label) once) added
  placed_more later (item.Insn insn) is once added = other_more found later items i at (item.Insn insn) w (next items i (item.Insn insn) is within) (λ name. refl, λ before rest. refl) added
  placed_more later (item.Jump row name) is once added = other_more found later items i at (item.Jump row name) w (next items i (item.Jump row name) is within) (λ label. refl, λ before rest. refl) added
  placed_more later (item.Address reg name) is once added = other_more found later items i at (item.Address reg name) w (next items i (item.Address reg name) is within) (λ label. refl, λ before rest. refl) added
  placed_more later (item.Bytes bytes) is once added = other_more found later items i at (item.Bytes bytes) w (next items i (item.Bytes bytes) is within) (λ name. refl, λ before rest. refl) added

  pub placed_fault : (fault : AsmFault) (x : Item) → x ≡ get_or items i x → IsFault fault (twice_in found x) → IsFault fault (option_map Twice (first_twice [] items))
  placed_fault fault (item.Label label) is h = label_fault found found items i at label w (next items i (item.Label label) is within) fault h
  placed_fault fault (item.Insn insn) is h = only_memory fault (option_map Twice (first_twice [] items)) h
  placed_fault fault (item.Jump row name) is h = only_memory fault (option_map Twice (first_twice [] items)) h
  placed_fault fault (item.Address reg name) is h = only_memory fault (option_map Twice (first_twice [] items)) h
  placed_fault fault (item.Bytes bytes) is h = only_memory fault (option_map Twice (first_twice [] items)) h

  pub placed_told : (fault : AsmFault) (x : Item) → x ≡ get_or items i x → twice_in found x ≡ Some fault → option_map Twice (first_twice [] items) ≡ Some fault
  placed_told fault (item.Label label) is h = label_told found found items i at label w (next items i (item.Label label) is within) fault h
  placed_told fault (item.Insn insn) is h = absurd cc
  placed_told fault (item.Jump row name) is h = absurd cc
  placed_told fault (item.Address reg name) is h = absurd cc
  placed_told fault (item.Bytes bytes) is h = absurd cc

  pub placed_room : (x : Item) → x ≡ get_or items i x → length_of_all items ≤ CODE_MAX → at + length_of x ≤ CODE_MAX
  placed_room x is small = let r = w.rest in let f = len_more items i x is within in omega (arith, r, f, small)

zero_plus : (n : ℕ) → 0 + n ≡ n
zero_plus n = omega arith

pub placed_start : (found : List ℕ → Option ℕ) (items : List Item) → ((name : List ℕ) → found name ≡ None) → Placed found items 0 0
placed_start found items none = record {
  rest = zero_plus (length_of_all items);
  place = λ name. ap (λ o. or_later o (place_from 0 items name)) (none name);
  before = [];
  seen = λ name. ap is_some (none name);
  twice = refl;
}

-- ---- labels among the items before

place_behind : (items : List Item) (x : Item) (at : ℕ) (name : List ℕ)
    → place_from at (items ++ x ∷ []) name ≡ or_later (place_from at items name) (cond (is_label name x) (Some (at + length_of_all items)) None)
unfolding place_from length_of_all
place_behind [] x at name = ap (λ (n : ℕ). cond (is_label name x) (Some n) None) (plus_zero at)
  where
    plus_zero : (n : ℕ) → n ≡ n + 0
    plus_zero n = omega arith
place_behind (y ∷ items) x at name = go (is_label name y) (place_behind items x (at + length_of y) name)
  where
    further : (a b c : ℕ) → (a + b) + c ≡ a + (b + c)
    further a b c = omega arith

    go : (b : Bool) → place_from (at + length_of y) (items ++ x ∷ []) name ≡ or_later (place_from (at + length_of y) items name) (cond (is_label name x) (Some ((at + length_of y) + length_of_all items)) None)
        → cond b (Some at) (place_from (at + length_of y) (items ++ x ∷ []) name)
        ≡ or_later (cond b (Some at) (place_from (at + length_of y) items name)) (cond (is_label name x) (Some (at + (length_of y + length_of_all items))) None)
    go true e = refl
    go false e = e ∙ ap (λ (n : ℕ). or_later (place_from (at + length_of y) items name) (cond (is_label name x) (Some n) None)) (further at (length_of y) (length_of_all items))

len_behind : (items : List Item) (x : Item) → length_of_all (items ++ x ∷ []) ≡ length_of_all items + length_of x
unfolding length_of_all
len_behind [] x = omega arith
len_behind (y ∷ items) x = let e = len_behind items x in omega (arith, e)

or_none : (o : Option ℕ) → or_later o None ≡ o
or_none None = refl
or_none (Some x) = refl

-- a label with a new name is found where it stands
added_label : (found : List ℕ → Option ℕ) (at : ℕ) (x : Item) → twice_in found x ≡ None → (name : List ℕ) → or_later (found name) (cond (is_label name x) (Some at) None) ≡ with_label found at x name
added_label found at (item.Label label) once name = go (bytes_eq label name) refl
  where
    go : (b : Bool) → bytes_eq label name ≡ b → or_later (found name) (cond b (Some at) None) ≡ cond b (Some at) (found name)
    go true e = ap (λ o. or_later o (Some at)) (found_at found label name (absent_if (is_some (found label)) (Twice label) once) e)
    go false e = or_none (found name)
added_label found at (item.Insn insn) once name = or_none (found name)
added_label found at (item.Jump row label) once name = or_none (found name)
added_label found at (item.Address reg label) once name = or_none (found name)
added_label found at (item.Bytes bytes) once name = or_none (found name)

-- the labels before the item at some index, and how long the items before it are
abbrev pub Before : List Item → ℕ → Type 0
Before items i = Placed (place_in (take i items)) items i (length_of_all (take i items))

pub before_start : (items : List Item) → Before items 0
unfolding place_from length_of_all
before_start items = placed_start (place_in []) items (λ name. refl)

module _ (items : List Item) (i : ℕ) (x : Item) (is : x ≡ get_or items i x) (within : i < length items) (w : Before items i) where
  taken : take (i + 1) items ≡ take i items ++ x ∷ []
  taken = take_more items i x within ∙ ap (λ (y : Item). take i items ++ y ∷ []) (sym is)

  pub before_more : twice_in (place_in (take i items)) x ≡ None → Before items (i + 1)
  before_more once =
      let longer : length_of_all (take (i + 1) items) ≡ length_of_all (take i items) + length_of x = ap length_of_all taken ∙ len_behind (take i items) x in
      subst (λ (n : ℕ). Placed (place_in (take (i + 1) items)) items (i + 1) n) (sym longer)
      (placed_more (place_in (take i items)) items i (length_of_all (take i items)) w within (place_in (take (i + 1) items)) x is once
      (λ name. ap (λ (l : List Item). place_in l name) taken ∙ place_behind (take i items) x 0 name
      ∙ ap (λ (n : ℕ). or_later (place_in (take i items) name) (cond (is_label name x) (Some n) None)) (zero_plus (length_of_all (take i items)))
      ∙ added_label (place_in (take i items)) (length_of_all (take i items)) x once name))

-- ---- at the end

module _ (items : List Item) (i : ℕ) where
  pub counted_end : (len : ℕ) → length items ≤ i → Counted items i len → (len ≡ length_of_all items) × (length_of_all items ≤ CODE_MAX)
  unfolding length_of_all
  counted_end len end c =
      let e = c.rest in let f : length_of_all (drop i items) ≡ 0 = ap length_of_all (drop_all i items end) in let s = c.small in
      (omega (arith, e, f), omega (arith, e, f, s))

  pub known_end : (place : List ℕ → Option ℕ) → length items ≤ i → first_unknown place (drop i items) ≡ first_unknown place items → first_unknown place items ≡ None
  unfolding first_unknown
  known_end place end same = sym same ∙ ap (first_unknown place) (drop_all i items end)

  pub placed_end : (found : List ℕ → Option ℕ) (at : ℕ) → length items ≤ i → Placed found items i at → (name : List ℕ) → found name ≡ place_in items name
  unfolding place_from
  placed_end found at end w name = sym (or_none (found name)) ∙ ap (λ (l : List Item). or_later (found name) (place_from at l name)) (sym (drop_all i items end)) ∙ w.place name

  pub once_end : (found : List ℕ → Option ℕ) (at : ℕ) → length items ≤ i → Placed found items i at → first_twice [] items ≡ None
  unfolding first_twice
  once_end found at end w = sym w.twice ∙ ap (first_twice w.before) (drop_all i items end)

  pub sought_end : (name : List ℕ) (at : ℕ) → length items ≤ i → Sought name items i at → None ≡ place_in items name
  unfolding place_from
  sought_end name at end s = ap (λ (l : List Item). place_from at l name) (sym (drop_all i items end)) ∙ s.place

  pub near_end : (place : List ℕ → ℕ) (at : ℕ) → length items ≤ i → Reached place items i at → first_far place 0 items ≡ None
  unfolding first_far
  near_end place at end r = sym r.far ∙ ap (first_far place at) (drop_all i items end)

  pub written_end : (base : ℕ) (place : List ℕ → ℕ) (code : List ℕ) → length items ≤ i → Written base place items i code → code ≡ spelled_from base place 0 items
  unfolding spelled_from
  written_end base place code end w = sym (append-nil code) ∙ ap (λ l. code ++ spelled_from base place (length code) l) (sym (drop_all i items end)) ∙ w.bytes

pub sought_start : (name : List ℕ) (items : List Item) → Sought name items 0 0
sought_start name items = record { rest = zero_plus (length_of_all items); place = refl }

pub reached_start : (place : List ℕ → ℕ) (items : List Item) → Reached place items 0 0
reached_start place items = record { rest = zero_plus (length_of_all items); far = refl }

pub written_start : (base : ℕ) (place : List ℕ → ℕ) (items : List Item) → Written base place items 0 []
written_start base place items = record { reached = reached_start place items; bytes = refl }
