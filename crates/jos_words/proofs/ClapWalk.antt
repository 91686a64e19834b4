-- clap takes the words that the definition takes.
use Rattle.std.proofs.Common.{◌≡◌, ◌∙◌, ◌<◌, ◌≤◌, ℕ, ◌+◌, ◌==◌, ◌&&◌, ◌||◌, Bool, true, false, cond, List, [], ◌∷◌, ◌++◌, length, Option, Some, None, is_some, map, refl, sym, ap, ap₂, subst, arith, true≢false}
use Rattle.std.specs.List.{list_all, fold}
use Rattle.std.specs.Str.{bytes_eq}
use Rattle.std.specs.Prelude.{option_and_then}
use Rattle.std.proofs.lemmas.List.{length-append}
use borrow.Author.Count.{below_more}
use Rattle.clap.specs.Lexer.{long_of_rest, short_of_rest, long_of, short_of, strip_byte}
use Rattle.clap.specs.Simple.{App, Shape, built, new_shape, filled_from, is_simple}
use Rattle.clap.specs.Takes.{is_valid, default_passes, settle_passes, step_passes, use_passes, is_given, turn_passes, walk_passes, built_takes, level_passes}
use Rattle.clap.specs.Walk as clap
use Rattle.clap.specs.Walk.{Held, Rule, Row, Text, Walk, settled, has_row, walked, arg_by_id, arg_by_long, arg_by_index, nothing_held, walk, walk_from, finished}
use Rattle.clap.proofs.TakesLemmas.{leaf_takes}
use Rattle.clap.proofs.WalkLemmas.{both}
use Rattle.clap.proofs.SimpleLemmas.{is_nil}
use Rattle.jos_words.specs.Values.{is_value}
use Rattle.jos_words.specs.Arguments.{Word, Arguments, Reading, Waiting, any_word, value_for, positional_word, is_option, is_end, option_parts, cut_at_equals, value_of, has_option, with_option, with_positional, then_any, option_read, word_read_by, word_read, words_read, has_ended, ended, nothing_read, arguments_of}
use Rattle.jos_words.specs.ClapCommands.{option_rule, app_with, clap_takes}
use Rattle.jos_words.proofs.Rows.{bytes_eq-refl, same_text}
use Rattle.jos_words.proofs.Rules.{IsArgument, option_named, option_is, lookup_long, lookup_id}
use Rattle.jos_words.proofs.Taking.{not_true, chosen, one_more, Taken, taken, value_of-append, then_some, both_some, words_keep}

-- ---- a command as clap is told of it

pub record Form : Type 0 where
  pub name : Text
  pub options : List Text
  pub positionals : List Rule
  -- the argument that takes the positional word behind k others, and its number
  pub slot : ℕ → Rule
  pub number : ℕ → ℕ

abbrev pub app_of : Form → App
app_of f = app_with f.name (map option_rule f.options ++ f.positionals)

-- what building makes of it
unfoldable pub rules_of : Form → List Rule
rules_of f = filled_from 1 (map option_rule f.options ++ f.positionals)

abbrev pub shape_of : Form → Shape
shape_of f = record (new_shape f.name) { rules = rules_of f; disable_help_flag = true; disable_version_flag = true; disable_help_subcommand = true; is_built = true }

pub record Slot (f : Form) (k : ℕ) : Type 0 where
  pub argument : IsArgument (rules_of f) (f.slot k)
  pub at : arg_by_index (rules_of f) (f.number k) ≡ Some (f.slot k)
  pub next : clap.next_position (f.slot k) (f.number k) ≡ f.number (k + 1)
  pub one : clap.takes_several (f.slot k) ≡ false
  pub trailing : (f.slot k).trailing_var_arg ≡ false
  -- no option has its name
  pub apart : (name : Text) → has_option f.options name ≡ true → (bytes_eq name (f.slot k).id ≡ false) × (bytes_eq (f.slot k).id name ≡ false)

-- the command takes n positional words
pub record Fits (f : Form) (n : ℕ) : Type 0 where
  pub slots : (k : ℕ) → k < n → Slot f k
  pub distinct : (j k : ℕ) → j < k → k < n → clap.is_multiple (f.slot k) ≡ false → bytes_eq (f.slot j).id (f.slot k).id ≡ false
  pub first : f.number 0 ≡ 1
  pub plain : list_all (λ a. clap.is_empty a.defaults) (rules_of f) ≡ true
  pub valid : (rows : List Row) → ((k : ℕ) → k < n → is_given (f.slot k).id rows ≡ true) → (list_all default_passes (rules_of f) && is_valid (shape_of f) rows false) ≡ true
  pub simple : is_simple (app_of f) ≡ true
  pub built_is : built (app_of f) ≡ record { top = shape_of f; subs = [] }

record IsOption (f : Form) (a : Rule) : Type 0 where
  argument : IsArgument (rules_of f) a
  by_long : arg_by_long (rules_of f) a.id ≡ Some a
  takes_values : clap.takes_values a ≡ true
  most : clap.most_values a ≡ 1

option_known : (f : Form) (name : Text) → has_option f.options name ≡ true → IsOption f (option_named name)
unfolding rules_of
option_known f name known = record {
  argument = option_is (rules_of f) name (lookup_id 1 f.options f.positionals name known);
  by_long = lookup_long 1 f.options f.positionals name known;
  takes_values = refl;
  most = refl;
}

-- ---- the rows hold what is read

record RowsHold (f : Form) (n : ℕ) (rows : List Row) (arguments : Arguments) : Type 0 where
  options : (name : Text) → has_option f.options name ≡ true → has_row name rows ≡ is_some (value_of name arguments.options)
  given : (k : ℕ) → k < length arguments.positionals → is_given (f.slot k).id rows ≡ true
  free : (k : ℕ) → length arguments.positionals ≤ k → k < n → clap.is_multiple (f.slot k) ≡ false → has_row (f.slot k).id rows ≡ false
  within : length arguments.positionals ≤ n

record Holds (f : Form) (n : ℕ) (h : Held) (arguments : Arguments) : Type 0 where
  passes : settle_passes (rules_of f) false h ≡ true
  rows : RowsHold f n (settled (rules_of f) h).rows arguments

-- what is held while the values of an argument are read
abbrev pending_held : Text → List Text → List Row → ℕ → Held
pending_held id values rows skip = record { rows = rows; pending = Some (id, values); skip = skip }

module _ (f : Form) (n : ℕ) (fits : Fits f n) where
  option_rows : (rows : List Row) (arguments : Arguments) (name : Text) (value : Word) → has_option f.options name ≡ true → RowsHold f n rows arguments
      → RowsHold f n (clap.used (option_named name) (value.text ∷ []) rows) (one_more arguments name value)
  option_rows rows arguments name value known hold =
      let a = (option_known f name known).argument in
      record {
        options = λ id other. a.row value.text id rows ∙ ap (λ b. bytes_eq name id || b) (hold.options id other) ∙ sym (value_of-append id arguments.options (record { name = name; value = value }));
        given = λ k below. a.given_other value.text (f.slot k).id rows ((fits.slots k (omega (arith, hold.within))).apart name known).0 ∙ hold.given k below;
        free = λ k above below once. a.row value.text (f.slot k).id rows ∙ ap₂ (λ b c. b || c) ((fits.slots k below).apart name known).0 (hold.free k above below once);
        within = hold.within;
      }

  positional_rows : (rows : List Row) (arguments : Arguments) (word : Word) → length arguments.positionals < n → RowsHold f n rows arguments
      → RowsHold f n (clap.used (f.slot (length arguments.positionals)) (word.text ∷ []) rows) (with_positional arguments word)
  positional_rows rows arguments word room hold =
      let j = length arguments.positionals in
      let slot = fits.slots j room in
      let more : length (arguments.positionals ++ word ∷ []) ≡ j + 1 = length-append arguments.positionals (word ∷ []) in
      record {
        options = λ name known. slot.argument.row word.text name rows ∙ ap₂ (λ b c. b || c) (slot.apart name known).1 (hold.options name known);
        given = λ k below. below_more (λ k. is_given (f.slot k).id (clap.used (f.slot j) (word.text ∷ []) rows) ≡ true) j
            (λ k earlier. given_after rows (f.slot j) (f.slot k) word.text slot.argument (bytes_eq (f.slot j).id (f.slot k).id) refl (hold.given k earlier))
            (slot.argument.given word.text rows) k (omega (arith, more));
        free = λ k above below once. slot.argument.row word.text (f.slot k).id rows ∙ ap₂ (λ b c. b || c) (fits.distinct j k (omega (arith, more)) below once) (hold.free k (omega (arith, more)) below once);
        within = omega (arith, more);
      }
    where
      given_after : (rows : List Row) (a b : Rule) (value : Text) → IsArgument (rules_of f) a → (t : Bool) → bytes_eq a.id b.id ≡ t → is_given b.id rows ≡ true
          → is_given b.id (clap.used a (value ∷ []) rows) ≡ true
      given_after rows a b value is true e before = subst (λ (id : Text). is_given id (clap.used a (value ∷ []) rows) ≡ true) (same_text a.id b.id e) (is.given value rows)
      given_after rows a b value is false e before = is.given_other value b.id rows e ∙ before

-- ---- what a word is to clap

no_hyphen : (word : Text) → is_option word ≡ false → is_end word ≡ false → (long_of word ≡ None) × (short_of word ≡ None)
no_hyphen [] option end = (refl, refl)
no_hyphen (x ∷ []) option end = by_test (x == 45)
  where
    by_test : (b : Bool) → (option_and_then long_of_rest (option_and_then (strip_byte 45) (cond b (Some []) None)) ≡ None) × (option_and_then short_of_rest (cond b (Some []) None) ≡ None)
    by_test true = (refl, refl)
    by_test false = (refl, refl)
no_hyphen (x ∷ y ∷ rest) option end = rw option (refl, refl)

long_option : (word name : Text) (value : Option Text) → is_end word ≡ false → option_parts word ≡ Some (name, value) → long_of word ≡ Some (name, value)
long_option [] name value end e = absurd cc
long_option (x ∷ []) name value end e = absurd cc
long_option (x ∷ y ∷ []) name value end e = by_test (x == 45) (y == 45) end e
  where
    by_test : (a b : Bool) → (a && (b && true)) ≡ false → cond (a && b) (Some (cut_at_equals [])) None ≡ Some (name, value)
        → option_and_then long_of_rest (option_and_then (strip_byte 45) (cond a (Some (y ∷ [])) None)) ≡ Some (name, value)
    by_test true true end e = absurd (true≢false end)
    by_test true false end e = absurd cc
    by_test false b end e = absurd cc
long_option (x ∷ y ∷ z ∷ rest) name value end e = by_test (x == 45) (y == 45) refl e
  where
    by_test : (a b : Bool) → (y == 45) ≡ b → cond (a && b) (Some (cut_at_equals (z ∷ rest))) None ≡ Some (name, value)
        → option_and_then long_of_rest (option_and_then (strip_byte 45) (cond a (Some (y ∷ z ∷ rest)) None)) ≡ Some (name, value)
    by_test true true h e = rw h e
    by_test true false h e = absurd cc
    by_test false b h e = absurd cc

value_plain : (value : Text) → is_value value ≡ true → (is_option value ≡ false) × (is_end value ≡ false)
value_plain [] v = absurd cc
value_plain (x ∷ []) v = let other : (x == 45) ≡ false = not_true _ v in (refl, rw other refl)
value_plain (x ∷ y ∷ rest) v = let other : (x == 45) ≡ false = not_true _ v in (other, rw other refl)

-- ---- one word

abbrev is_open : clap.Waiting → Bool
is_open (clap.option id) = false
is_open _ = true

abbrev at_walk : Held → clap.Waiting → ℕ → Bool → Walk
at_walk h waiting position is_trailing = record { held = h; waiting = waiting; position = position; is_trailing = is_trailing; stopped = None }

-- one word passes and leads from a walk to another
record Steps (f : Form) (w : Walk) (word : Text) (next : Walk) : Type 0 where
  passes : turn_passes (shape_of f) [] w word ≡ true
  after : walked (rules_of f) [] w word ≡ next

module _ (f : Form) (a : Rule) (is : IsOption f a) where
  -- an option with its value in the word
  attached_steps : (h : Held) (waiting : clap.Waiting) (position : ℕ) (word value : Text) → is_open waiting ≡ true → is_end word ≡ false
      → long_of word ≡ Some (a.id, Some value) → settle_passes (rules_of f) false h ≡ true → use_passes false a (value ∷ []) (settled (rules_of f) h).rows ≡ true
      → Steps f (at_walk h waiting position false) word (at_walk (record h { rows = clap.used a (value ∷ []) (settled (rules_of f) h).rows; pending = None }) clap.idle position false)
  unfolding walked
  attached_steps h (clap.option id) position word value opn end long passes used = absurd (true≢false (sym opn))
  attached_steps h clap.idle position word value opn end long passes used = record {
    passes = rw (end, long, is.by_long, is.takes_values, passes, used) refl;
    after = rw (end, long, is.by_long, is.takes_values) refl;
  }
  attached_steps h clap.positional position word value opn end long passes used = record {
    passes = rw (end, long, is.by_long, is.takes_values, passes, used) refl;
    after = rw (end, long, is.by_long, is.takes_values) refl;
  }

  -- an option whose value is the next word
  waiting_steps : (h : Held) (waiting : clap.Waiting) (position : ℕ) (word : Text) → is_open waiting ≡ true → is_end word ≡ false
      → long_of word ≡ Some (a.id, None) → settle_passes (rules_of f) false h ≡ true
      → Steps f (at_walk h waiting position false) word (at_walk (pending_held a.id [] (settled (rules_of f) h).rows h.skip) (clap.option a.id) position false)
  unfolding walked
  waiting_steps h (clap.option id) position word opn end long passes = absurd (true≢false (sym opn))
  waiting_steps h clap.idle position word opn end long passes = record {
    passes = rw (end, long, is.by_long, is.takes_values, passes) refl;
    after = rw (end, long, is.by_long, is.takes_values) refl;
  }
  waiting_steps h clap.positional position word opn end long passes = record {
    passes = rw (end, long, is.by_long, is.takes_values, passes) refl;
    after = rw (end, long, is.by_long, is.takes_values) refl;
  }

  -- that value
  value_steps : (rows : List Row) (skip position : ℕ) (value : Text) → is_value value ≡ true
      → Steps f (at_walk (pending_held a.id [] rows skip) (clap.option a.id) position false) value (at_walk (pending_held a.id (value ∷ []) rows skip) clap.idle position false)
  unfolding walked
  value_steps rows skip position value v =
      let plain = value_plain value v in
      let none = no_hyphen value plain.0 plain.1 in
      record {
        passes = rw (plain.1, none.0, none.1) refl;
        after = rw (plain.1, none.0, none.1, is.argument.by_id, bytes_eq-refl a.id, is.most) refl;
      }

-- a positional word
abbrev behind : Rule → clap.Waiting
behind a = cond (clap.is_multiple a) clap.positional clap.idle

behind_open : (b : Bool) → is_open (cond b clap.positional clap.idle) ≡ true
behind_open true = refl
behind_open false = refl

not_kept : (b c : Bool) (x y : Held) → c ≡ false → cond (b && c) x y ≡ y
not_kept true c x y e = rw e refl
not_kept false c x y e = refl

module _ (f : Form) (k : ℕ) (slot : Slot f k) where
  slot_passes : (h : Held) → settle_passes (rules_of f) false h ≡ true → step_passes (shape_of f) (f.number k) h clap.value ≡ true
  slot_passes h passes = rw (slot.at, slot.one, passes) (by_test (clap.is_pending (f.slot k) h.pending))
    where
      by_test : (b : Bool) → ((b && false) || true) ≡ true
      by_test true = refl
      by_test false = refl

  slot_walked : (w : Walk) (h : Held) (word : Text) → w.position ≡ f.number k → clap.to_positional (rules_of f) (arg_by_index (rules_of f) w.position) word w h
      ≡ at_walk (pending_held (f.slot k).id (word ∷ []) (settled (rules_of f) h).rows h.skip) (behind (f.slot k)) (f.number (k + 1)) (w.is_trailing || false)
  slot_walked w h word e = rw (e, slot.at, slot.next, slot.trailing)
      (ap (λ (held : Held). at_walk (clap.pushed (f.slot k).id word held) (behind (f.slot k)) (f.number (k + 1)) (w.is_trailing || false))
      (not_kept (clap.is_pending (f.slot k) h.pending) (clap.takes_several (f.slot k)) h (settled (rules_of f) h) slot.one))

  slot_steps : (h : Held) (waiting : clap.Waiting) (word : Text) → is_open waiting ≡ true → is_option word ≡ false → is_end word ≡ false → settle_passes (rules_of f) false h ≡ true
      → Steps f (at_walk h waiting (f.number k) false) word (at_walk (pending_held (f.slot k).id (word ∷ []) (settled (rules_of f) h).rows h.skip) (behind (f.slot k)) (f.number (k + 1)) false)
  unfolding walked
  slot_steps h (clap.option id) word opn option end passes = absurd (true≢false (sym opn))
  slot_steps h clap.idle word opn option end passes =
      let none = no_hyphen word option end in
      record {
        passes = rw (end, none.0, none.1) (slot_passes h passes);
        after = rw (end, none.0, none.1) (slot_walked (at_walk h clap.idle (f.number k) false) h word refl);
      }
  slot_steps h clap.positional word opn option end passes =
      let none = no_hyphen word option end in
      record {
        passes = rw (end, none.0, none.1) (slot_passes h passes);
        after = rw (end, none.0, none.1) (slot_walked (at_walk h clap.positional (f.number k) false) h word refl);
      }

  -- behind `--`
  trailing_steps : (h : Held) (waiting : clap.Waiting) (word : Text) → settle_passes (rules_of f) false h ≡ true
      → Steps f (at_walk h waiting (f.number k) true) word (at_walk (pending_held (f.slot k).id (word ∷ []) (settled (rules_of f) h).rows h.skip) (behind (f.slot k)) (f.number (k + 1)) true)
  unfolding walked
  trailing_steps h waiting word passes = record {
    passes = slot_passes h passes;
    after = slot_walked (at_walk h waiting (f.number k) true) h word refl;
  }

end_steps : (f : Form) (h : Held) (waiting : clap.Waiting) (position : ℕ) (word : Text) → is_open waiting ≡ true → is_end word ≡ true
    → Steps f (at_walk h waiting position false) word (at_walk h waiting position true)
unfolding walked
end_steps f h (clap.option id) position word opn end = absurd (true≢false (sym opn))
end_steps f h clap.idle position word opn end = record { passes = rw end refl; after = rw end refl }
end_steps f h clap.positional position word opn end = record { passes = rw end refl; after = rw end refl }

-- ---- what is held after a word

module _ (f : Form) (n : ℕ) (fits : Fits f n) where
  option_passes : (rows : List Row) (arguments after : Arguments) (name : Text) (value : Word) → RowsHold f n rows arguments → Taken f.options arguments name value after
      → use_passes false (option_named name) (value.text ∷ []) rows ≡ true
  option_passes rows arguments after name value hold t =
      (option_known f name t.known).argument.passes value.text rows (λ _. hold.options name t.known ∙ t.new)

  option_rows_hold : (rows : List Row) (arguments after : Arguments) (name : Text) (value : Word) → RowsHold f n rows arguments → Taken f.options arguments name value after
      → RowsHold f n (clap.used (option_named name) (value.text ∷ []) rows) after
  option_rows_hold rows arguments after name value hold t =
      subst (λ (a : Arguments). RowsHold f n (clap.used (option_named name) (value.text ∷ []) rows) a) t.after_is (option_rows f n fits rows arguments name value t.known hold)

  pending_holds : (a : Rule) (value : Text) (rows : List Row) (skip : ℕ) (after : Arguments) → IsArgument (rules_of f) a → use_passes false a (value ∷ []) rows ≡ true
      → RowsHold f n (clap.used a (value ∷ []) rows) after → Holds f n (pending_held a.id (value ∷ []) rows skip) after
  pending_holds a value rows skip after is passes hold = record {
    passes = rw (is.by_id) passes;
    rows = subst (λ (r : List Row). RowsHold f n r after) (sym (ap (λ o. clap.used_by_id o (value ∷ []) rows) is.by_id)) hold;
  }

  slot_holds : (rows : List Row) (arguments : Arguments) (word : Word) (skip : ℕ) → length arguments.positionals < n → RowsHold f n rows arguments
      → Holds f n (pending_held (f.slot (length arguments.positionals)).id (word.text ∷ []) rows skip) (with_positional arguments word)
  slot_holds rows arguments word skip room hold =
      let j = length arguments.positionals in
      let is = (fits.slots j room).argument in
      pending_holds (f.slot j) word.text rows skip (with_positional arguments word) is (is.passes word.text rows (hold.free j (omega arith) room)) (positional_rows f n fits rows arguments word room hold)

-- ---- all the words

record Ends (f : Form) (n : ℕ) (w : Walk) (words : List Text) (arguments : Arguments) : Type 0 where
  passes : walk_passes (shape_of f) [] w words ≡ true
  holds : Holds f n (fold (walked (rules_of f) []) w words).held arguments

steps_on : (f : Form) (n : ℕ) (w next : Walk) (word : Text) (rest : List Text) (arguments : Arguments) → Steps f w word next → Ends f n next rest arguments → Ends f n w (word ∷ rest) arguments
unfolding walk_passes
steps_on f n w next word rest arguments s e = record {
  passes = rw (s.passes, s.after) e.passes;
  holds = subst (λ (v : Walk). Holds f n (fold (walked (rules_of f) []) v rest).held arguments) (sym s.after) e.holds;
}

-- where the walk stands for what is read
data Stands (f : Form) (n : ℕ) : Walk → Reading → Type 0 where
  stands_open : (h : Held) (waiting : clap.Waiting) (arguments : Arguments) → is_open waiting ≡ true → Holds f n h arguments
      → Stands f n (at_walk h waiting (f.number (length arguments.positionals)) false) (record { arguments = arguments; waiting = any_word })
  stands_waiting : (rows : List Row) (skip : ℕ) (name : Text) (arguments : Arguments) → has_option f.options name ≡ true → RowsHold f n rows arguments
      → Stands f n (at_walk (pending_held name [] rows skip) (clap.option name) (f.number (length arguments.positionals)) false) (record { arguments = arguments; waiting = value_for name })
  stands_trailing : (h : Held) (waiting : clap.Waiting) (arguments : Arguments) → Holds f n h arguments
      → Stands f n (at_walk h waiting (f.number (length arguments.positionals)) true) (record { arguments = arguments; waiting = positional_word })

record StepsTo (f : Form) (n : ℕ) (w : Walk) (word : Text) (r : Reading) : Type 0 where
  next : Walk
  steps : Steps f w word next
  stands : Stands f n next r

abbrev room : ℕ → Reading → Type 0
room n r = length r.arguments.positionals ≤ n

one_longer : (arguments : Arguments) (word : Word) → length (with_positional arguments word).positionals ≡ length arguments.positionals + 1
one_longer arguments word = length-append arguments.positionals (word ∷ [])

room_left : (n : ℕ) (arguments : Arguments) (word : Word) (waiting : Waiting) (r : Reading) → ◌≡◌ {A = Reading} (record { arguments = with_positional arguments word; waiting = waiting }) r → room n r
    → length arguments.positionals < n
room_left n arguments word waiting r is within =
    let there : length (with_positional arguments word).positionals ≡ length r.arguments.positionals = ap (λ (s : Reading). length s.arguments.positionals) is in
    omega (arith, one_longer arguments word)

module _ (f : Form) (n : ℕ) (fits : Fits f n) where
  option_steps : (h : Held) (waiting : clap.Waiting) (arguments : Arguments) (place : ℕ) (word : Text) (parts : Option (Text × Option Text)) (r : Reading)
      → is_open waiting ≡ true → Holds f n h arguments → is_end word ≡ false → option_parts word ≡ parts → option_read f.options arguments place parts ≡ Some r
      → StepsTo f n (at_walk h waiting (f.number (length arguments.positionals)) false) word r
  option_steps h waiting arguments place word None r opn hold end parts e = absurd cc
  option_steps h waiting arguments place word (Some (name, None)) r opn hold end parts e =
      let c = chosen (has_option f.options name) (Some (record { arguments = arguments; waiting = value_for name })) r e in
      let is : ◌≡◌ {A = Reading} (record { arguments = arguments; waiting = value_for name }) r = cc in
      record {
        next = _;
        steps = waiting_steps f (option_named name) (option_known f name c.0) h waiting (f.number (length arguments.positionals)) word opn end (long_option word name None end parts) hold.passes;
        stands = subst (λ (s : Reading). Stands f n (at_walk (pending_held name [] (settled (rules_of f) h).rows h.skip) (clap.option name) (f.number (length arguments.positionals)) false) s) is
            (stands_waiting (settled (rules_of f) h).rows h.skip name arguments c.0 hold.rows);
      }
  option_steps h waiting arguments place word (Some (name, Some text)) r opn hold end parts e =
      let value : Word = record { place = place; text = text } in
      let went = then_some (with_option f.options arguments name value) r e in
      let t = taken f.options arguments went.0 name value went.1 in
      let used = option_passes f n fits (settled (rules_of f) h).rows arguments went.0 name value hold.rows t in
      let rows = clap.used (option_named name) (text ∷ []) (settled (rules_of f) h).rows in
      let same : length arguments.positionals ≡ length went.0.positionals = ap (λ (a : Arguments). length a.positionals) t.after_is in
      let next : ℕ → Walk = λ (k : ℕ). at_walk (record h { rows = rows; pending = None }) clap.idle (f.number k) false in
      record {
        next = next (length arguments.positionals);
        steps = attached_steps f (option_named name) (option_known f name t.known) h waiting (f.number (length arguments.positionals)) word text opn end (long_option word name (Some text) end parts) hold.passes used;
        stands = subst (λ (s : Reading). Stands f n (next (length arguments.positionals)) s) went.2
            (subst (λ (k : ℕ). Stands f n (next k) (record { arguments = went.0; waiting = any_word })) (sym same)
            (stands_open (record h { rows = rows; pending = None }) clap.idle went.0 refl (record { passes = refl; rows = option_rows_hold f n fits (settled (rules_of f) h).rows arguments went.0 name value hold.rows t })));
      }

  value_steps_to : (rows : List Row) (skip : ℕ) (name : Text) (arguments : Arguments) (word : Word) (r : Reading) → has_option f.options name ≡ true → RowsHold f n rows arguments
      → then_any (with_option f.options arguments name word) ≡ Some r
      → StepsTo f n (at_walk (pending_held name [] rows skip) (clap.option name) (f.number (length arguments.positionals)) false) word.text r
  value_steps_to rows skip name arguments word r known hold e =
      let went = then_some (with_option f.options arguments name word) r e in
      let t = taken f.options arguments went.0 name word went.1 in
      let used = option_passes f n fits rows arguments went.0 name word hold t in
      let same : length arguments.positionals ≡ length went.0.positionals = ap (λ (a : Arguments). length a.positionals) t.after_is in
      let next : ℕ → Walk = λ (k : ℕ). at_walk (pending_held name (word.text ∷ []) rows skip) clap.idle (f.number k) false in
      record {
        next = next (length arguments.positionals);
        steps = value_steps f (option_named name) (option_known f name known) rows skip (f.number (length arguments.positionals)) word.text t.value_is;
        stands = subst (λ (s : Reading). Stands f n (next (length arguments.positionals)) s) went.2
            (subst (λ (k : ℕ). Stands f n (next k) (record { arguments = went.0; waiting = any_word })) (sym same)
            (stands_open _ clap.idle went.0 refl (pending_holds f n fits (option_named name) word.text rows skip went.0 (option_known f name known).argument used (option_rows_hold f n fits rows arguments went.0 name word hold t))));
      }

  open_steps : (h : Held) (waiting : clap.Waiting) (arguments : Arguments) (word : Word) (r : Reading) → is_open waiting ≡ true → Holds f n h arguments
      → word_read_by f.options arguments any_word word ≡ Some r → room n r → StepsTo f n (at_walk h waiting (f.number (length arguments.positionals)) false) word.text r
  open_steps h waiting arguments word r opn hold e within = by_test (is_end word.text) (is_option word.text) refl refl e
    where
      by_test : (a b : Bool) → is_end word.text ≡ a → is_option word.text ≡ b
          → cond a (Some (record { arguments = arguments; waiting = positional_word })) (cond b (option_read f.options arguments word.place (option_parts word.text)) (Some (record { arguments = with_positional arguments word; waiting = any_word }))) ≡ Some r
          → StepsTo f n (at_walk h waiting (f.number (length arguments.positionals)) false) word.text r
      by_test true b end option e =
          let is : ◌≡◌ {A = Reading} (record { arguments = arguments; waiting = positional_word }) r = cc in
          record {
            next = _;
            steps = end_steps f h waiting (f.number (length arguments.positionals)) word.text opn end;
            stands = subst (λ (s : Reading). Stands f n (at_walk h waiting (f.number (length arguments.positionals)) true) s) is (stands_trailing h waiting arguments hold);
          }
      by_test false true end option e = option_steps h waiting arguments word.place word.text (option_parts word.text) r opn hold end refl e
      by_test false false end option e =
          let is : ◌≡◌ {A = Reading} (record { arguments = with_positional arguments word; waiting = any_word }) r = cc in
          let k = length arguments.positionals in
          let left = room_left n arguments word any_word r is within in
          let next : ℕ → Walk = λ (m : ℕ). at_walk (pending_held (f.slot k).id (word.text ∷ []) (settled (rules_of f) h).rows h.skip) (behind (f.slot k)) (f.number m) false in
          record {
            next = next (k + 1);
            steps = slot_steps f k (fits.slots k left) h waiting word.text opn option end hold.passes;
            stands = subst (λ (s : Reading). Stands f n (next (k + 1)) s) is (subst (λ (m : ℕ). Stands f n (next m) (record { arguments = with_positional arguments word; waiting = any_word })) (one_longer arguments word)
                (stands_open _ (behind (f.slot k)) (with_positional arguments word) (behind_open (clap.is_multiple (f.slot k))) (slot_holds f n fits (settled (rules_of f) h).rows arguments word h.skip left hold.rows)));
          }

  step_to : (w : Walk) (r : Reading) (word : Word) (s : Reading) → Stands f n w r → word_read f.options r word ≡ Some s → room n s → StepsTo f n w word.text s
  unfolding word_read
  step_to _ _ word s (stands_open h waiting arguments opn hold) e within = open_steps h waiting arguments word s opn hold e within
  step_to _ _ word s (stands_waiting rows skip name arguments known hold) e within = value_steps_to rows skip name arguments word s known hold e
  step_to _ _ word s (stands_trailing h waiting arguments hold) e within =
      let is : ◌≡◌ {A = Reading} (record { arguments = with_positional arguments word; waiting = positional_word }) s = cc in
      let k = length arguments.positionals in
      let left = room_left n arguments word positional_word s is within in
      let next : ℕ → Walk = λ (m : ℕ). at_walk (pending_held (f.slot k).id (word.text ∷ []) (settled (rules_of f) h).rows h.skip) (behind (f.slot k)) (f.number m) true in
      record {
        next = next (k + 1);
        steps = trailing_steps f k (fits.slots k left) h waiting word.text hold.passes;
        stands = subst (λ (r : Reading). Stands f n (next (k + 1)) r) is (subst (λ (m : ℕ). Stands f n (next m) (record { arguments = with_positional arguments word; waiting = positional_word })) (one_longer arguments word)
            (stands_trailing _ (behind (f.slot k)) (with_positional arguments word) (slot_holds f n fits (settled (rules_of f) h).rows arguments word h.skip left hold.rows)));
      }

-- at the end
at_end : (f : Form) (n : ℕ) (w : Walk) (r : Reading) → Stands f n w r → has_ended r.waiting ≡ true → Holds f n w.held r.arguments
at_end f n _ _ (stands_open h waiting arguments opn hold) e = hold
at_end f n _ _ (stands_waiting rows skip name arguments known hold) e = absurd (true≢false (sym e))
at_end f n _ _ (stands_trailing h waiting arguments hold) e = hold

all_words : (f : Form) (n : ℕ) (fits : Fits f n) (words : List Text) (w : Walk) (r : Reading) (place : ℕ) (last : Reading) → Stands f n w r
    → words_read f.options r place words ≡ Some last → has_ended last.waiting ≡ true → room n last → Ends f n w words last.arguments
unfolding words_read walk_passes
all_words f n fits [] w r place last stands e end within =
    let is : r ≡ last = cc in
    record { passes = refl; holds = subst (λ (s : Reading). Holds f n w.held s.arguments) is (at_end f n w r stands (ap (λ (s : Reading). has_ended s.waiting) is ∙ end)) }
all_words f n fits (text ∷ rest) w r place last stands e end within =
    let word : Word = record { place = place; text = text } in
    let t = both_some (word_read f.options r word) (λ s. words_read f.options s (place + 1) rest) last e in
    let longer = words_keep f.options rest t.0 (place + 1) last t.2 in
    let step = step_to f n fits w r word t.0 stands t.1 (omega arith) in
    steps_on f n w step.next text rest last.arguments step.steps (all_words f n fits rest step.next t.0 (place + 1) last step.stands t.2 end within)

-- ---- the whole

-- no argument has a value that is not given
default_none : (rows : List Row) (a : Rule) → clap.is_empty a.defaults ≡ true → clap.with_default rows a ≡ rows
default_none rows a e = by_test (has_row a.id rows)
  where
    by_test : (b : Bool) → cond b rows (clap.default_rows a.id (clap.reading_by a) a.defaults rows) ≡ rows
    by_test true = refl
    by_test false = ap (λ (d : List Text). clap.default_rows a.id (clap.reading_by a) d rows) (is_nil a.defaults e)

defaults_none : (rules : List Rule) (rows : List Row) → list_all (λ a. clap.is_empty a.defaults) rules ≡ true → fold clap.with_default rows rules ≡ rows
defaults_none [] rows e = refl
defaults_none (a ∷ rest) rows e =
    let parts = both (clap.is_empty a.defaults) (list_all (λ a. clap.is_empty a.defaults) rest) e in
    ap (λ (r : List Row). fold clap.with_default r rest) (default_none rows a parts.0) ∙ defaults_none rest rows parts.1

read_end : (r : Reading) (arguments : Arguments) → ended r ≡ Some arguments → (has_ended r.waiting ≡ true) × (r.arguments ≡ arguments)
read_end r arguments e = let c = chosen (has_ended r.waiting) (Some r.arguments) arguments e in (c.0, cc)

module _ (f : Form) (n : ℕ) (fits : Fits f n) where
  nothing_holds : Holds f n nothing_held (record { options = []; positionals = [] })
  nothing_holds = record {
    passes = refl;
    rows = record { options = λ name known. refl; given = λ k below. absurd (omega arith); free = λ k above below once. refl; within = omega arith };
  }

  level_is : (words : List Text) (arguments : Arguments) → length arguments.positionals ≡ n → Ends f n (walk_from nothing_held) words arguments
      → level_passes (shape_of f) [] nothing_held words false ≡ true
  level_is words arguments full e =
      let end = (walk (rules_of f) [] nothing_held words).held in
      let rows : finished (rules_of f) end ≡ (settled (rules_of f) end).rows = defaults_none (rules_of f) (settled (rules_of f) end).rows fits.plain in
      rw (e.passes, e.holds.passes) (fits.valid (finished (rules_of f) end) (λ k below. ap (is_given (f.slot k).id) rows ∙ e.holds.rows.given k (omega arith)))

  pub words_taken : (command : Text) (words : List Text) (arguments : Arguments) → arguments_of f.options words ≡ Some arguments → length arguments.positionals ≡ n
      → clap_takes (app_of f) (command ∷ words) ≡ true
  unfolding clap_takes
  words_taken command words arguments e full =
      let read = both_some (words_read f.options nothing_read 1 words) ended arguments e in
      let end = read_end read.0 arguments read.2 in
      let count : length read.0.arguments.positionals ≡ n = ap (λ (a : Arguments). length a.positionals) end.1 ∙ full in
      let start = subst (λ (p : ℕ). Stands f n (at_walk nothing_held clap.idle p false) nothing_read) fits.first (stands_open nothing_held clap.idle (record { options = []; positionals = [] }) refl nothing_holds) in
      let all = all_words f n fits words (walk_from nothing_held) nothing_read 1 read.0 start read.1 end.0 (omega arith) in
      ap₂ (λ b c. b && c) fits.simple (ap (λ (a : App). built_takes a nothing_held words) fits.built_is ∙ leaf_takes (record { top = shape_of f; subs = [] }) nothing_held words refl (level_is words read.0.arguments count all))
