-- What the passes over the items say together.
use Rattle.std.proofs.Common.{◌≡◌, ℕ, All, length, ◌≤◌, ◌<◌, List, [], Option, Some, None, Result, Ok, Err, ap, ◌∙◌}
use Rattle.std.proofs.Common.{sym, cond}
use Rattle.std.specs.Prelude.{IsTrue, IsOkAnd}
use Rattle.std.specs.Option.{option_map}
use Rattle.std.proofs.lemmas.Bool.{lt-ltb, le-ltb}
use Rattle.std.specs.Result.{result_err}
use Rattle.jos_asm.specs.declared.limits.TheConstants.{CODE_MAX}
use Rattle.jos_asm.specs.declared.fault.AsmFault.{AsmFault}
use Rattle.jos_asm.specs.declared.fault.AsmFault.TheVariants.{TooLong, Twice, Unknown, Far, NoMemory}
use Rattle.jos_asm.specs.declared.item.Item.{Item}
use Rattle.jos_asm.specs.Items.{is_item}
use Rattle.jos_asm.specs.Program.{Program, length_of_all, place_in, known_place, first_twice, first_unknown}
use Rattle.jos_asm.specs.Program.{first_far, spelled_from, unless, finished}
use Rattle.jos_asm.specs.Calls.{IsFault}
use Rattle.jos_asm.specs.Laid.{AreLaid}
use Rattle.jos_asm.proofs.Laid.{all_laid}
use Rattle.jos_asm.proofs.Passes.{spelled_len}

-- a fault of the program is told as it is
told : (p : Program) (fault : AsmFault) → finished p ≡ Err fault → IsFault fault (result_err (finished p))
told p NoMemory is = tt
told p TooLong is = ap result_err is
told p (Twice name) is = ap result_err is
told p (Unknown name) is = ap result_err is
told p (Far name) is = ap result_err is

fault_unless : (kind : List ℕ → AsmFault) (name : Option (List ℕ)) (answer : Result (List ℕ) AsmFault) (fault : AsmFault)
    → option_map kind name ≡ Some fault → unless kind name answer ≡ Err fault
fault_unless kind None answer fault h = absurd cc
fault_unless kind (Some name) answer fault h = cc

module _ (p : Program) where
  abbrev far_answer : Result (List ℕ) AsmFault
  far_answer = unless Far (first_far (known_place p.items) 0 p.items) (Ok (spelled_from p.base (known_place p.items) 0 p.items))

  abbrev unknown_answer : Result (List ℕ) AsmFault
  unknown_answer = unless Unknown (first_unknown (place_in p.items) p.items) far_answer

  abbrev twice_answer : Result (List ℕ) AsmFault
  twice_answer = unless Twice (first_twice [] p.items) unknown_answer

  too_long : CODE_MAX < length_of_all p.items → finished p ≡ Err TooLong
  unfolding finished
  too_long over = ap (λ b. cond b (Err TooLong) twice_answer) (lt-ltb CODE_MAX (length_of_all p.items) over)

  pub is_long : (fault : AsmFault) → fault ≡ TooLong → CODE_MAX < length_of_all p.items → IsFault fault (result_err (finished p))
  is_long fault is over = told p fault (rw is (too_long over))

  module _ (small : length_of_all p.items ≤ CODE_MAX) where
    short : finished p ≡ twice_answer
    unfolding finished
    short = ap (λ b. cond b (Err TooLong) twice_answer) (le-ltb CODE_MAX (length_of_all p.items) small)

    pub is_twice : (fault : AsmFault) → option_map Twice (first_twice [] p.items) ≡ Some fault → IsFault fault (result_err (finished p))
    is_twice fault h = told p fault (short ∙ fault_unless Twice (first_twice [] p.items) unknown_answer fault h)

    module _ (once : first_twice [] p.items ≡ None) where
      once_answer : finished p ≡ unknown_answer
      once_answer = short ∙ ap (λ o. unless Twice o unknown_answer) once

      pub is_unknown_name : (fault : AsmFault) → option_map Unknown (first_unknown (place_in p.items) p.items) ≡ Some fault → IsFault fault (result_err (finished p))
      is_unknown_name fault h = told p fault (once_answer ∙ fault_unless Unknown (first_unknown (place_in p.items) p.items) far_answer fault h)

      module _ (named : first_unknown (place_in p.items) p.items ≡ None) where
        named_answer : finished p ≡ far_answer
        named_answer = once_answer ∙ ap (λ o. unless Unknown o far_answer) named

        pub is_far_name : (fault : AsmFault) → option_map Far (first_far (known_place p.items) 0 p.items) ≡ Some fault → IsFault fault (result_err (finished p))
        is_far_name fault h =
            told p fault (named_answer ∙ fault_unless Far (first_far (known_place p.items) 0 p.items) (Ok (spelled_from p.base (known_place p.items) 0 p.items)) fault h)

        module _ (near : first_far (known_place p.items) 0 p.items ≡ None) where
          answer : finished p ≡ Ok (spelled_from p.base (known_place p.items) 0 p.items)
          answer = named_answer ∙ ap (λ o. unless Far o (Ok (spelled_from p.base (known_place p.items) 0 p.items))) near

          module _ (are : All (λ i. IsTrue (is_item i)) p.items) where
            len_is : length (spelled_from p.base (known_place p.items) 0 p.items) ≡ length_of_all p.items
            len_is = spelled_len p.base (known_place p.items) 0 p.items are

            pub has_bytes : 0 < length_of_all p.items → IsOkAnd (finished p) (λ code. 0 < length code)
            has_bytes some = rw (answer, len_is) some

            module _ (code : List ℕ) (is : code ≡ spelled_from p.base (known_place p.items) 0 p.items) where
              pub is_spelled : finished p ≡ Ok code
              is_spelled = answer ∙ ap Ok (sym is)

              pub is_laid : AreLaid p code
              is_laid = all_laid p code are small once named is

              pub code_small : length code ≤ CODE_MAX
              code_small = rw (is, len_is) small

abbrev pub program : ℕ → List Item → Program
program base items = record { base = base; items = items }
