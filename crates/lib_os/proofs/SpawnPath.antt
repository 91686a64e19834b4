-- Where the page of spawn has its path, spawn has taken nothing else of what it is given.
use Rattle.std.proofs.Common.{◌≡◌, ◌∙◌, ◌+◌, ◌<◌, ◌≤◌, ◌++◌, ℕ, Bool, true, false, List, [], ◌∷◌, length, refl, sym, ap, arith}
use Rattle.std.specs.Prelude.{nat_lt, slice_index}
use Rattle.std.specs.List.{before_first, position_or_len}
use Rattle.std.proofs.lemmas.Bool.Decides.{nat_tests}
use Rattle.std.proofs.lemmas.List.{get_or-take, get_or_append_left, get_or_at, length-append, length-take-le}
use Rattle.std.proofs.lemmas.List.Sums.{fails_before_first, passes_at_first, position_or_len_is}
use Rattle.jos_base.specs.Environments.{Slot}
use Rattle.lib_os.specs.declared.service.Service.TheVariants as service
use Rattle.lib_os.specs.AbstractState.{Born, gathering}
use Rattle.lib_os.specs.AbstractSpawn.{has_nul}
use Rattle.lib_os.specs.FileServices.{is_nul}
use Rattle.lib_os.specs.LibraryPages.{View}
use Rattle.lib_os.specs.SpawnGiven.{behind_path}
use Rattle.lib_os.specs.StandsAtSpawn.{HasOnlyPath}
use Rattle.lib_os.specs.StandsFor.{HasWholePath}
use Rattle.lib_os.specs.StandsInHandler.{HasNoEnd}
use Rattle.lib_os.proofs.PageBytes.{bytes_take}

-- ---- the bytes in front of the end

module _ (bytes : List ℕ) (ended : position_or_len is_nul bytes < length bytes) where
  abbrev place : ℕ
  place = position_or_len is_nul bytes

  name_long : length (before_first is_nul bytes) ≡ place
  name_long = length-take-le place bytes (omega (arith, ended))

  name_same : (i : ℕ) → i < place → slice_index (before_first is_nul bytes) i ≡ slice_index bytes i
  name_same i lt = get_or-take place bytes i 0 lt

  name_endless : HasNoEnd (before_first is_nul bytes)
  name_endless =
      position_or_len_is is_nul (before_first is_nul bytes) (length (before_first is_nul bytes)) 0 (omega arith)
      (λ k lt.
      let long = name_long in
      let within : k < place = omega (arith, lt, long) in
      ap is_nul (name_same k within) ∙ fails_before_first is_nul bytes k 0 within)
      (λ lt. absurd (omega (arith, lt)))

  -- and its end are those up to that
  name_ends : (i : ℕ) → i < length (before_first is_nul bytes ++ 0 ∷ []) →
      slice_index (before_first is_nul bytes ++ 0 ∷ []) i ≡ slice_index bytes i
  name_ends i lt = by_place (nat_lt i place) refl
    where
      end_is : slice_index bytes place ≡ 0
      end_is = let passes = passes_at_first is_nul bytes 0 ended in grind (arith, nat_tests, passes)

      by_place : (c : Bool) → nat_lt i place ≡ c → slice_index (before_first is_nul bytes ++ 0 ∷ []) i ≡ slice_index bytes i
      by_place true test =
          let within : i < place = grind (arith, nat_tests) in
          let long = name_long in
          get_or_append_left (before_first is_nul bytes) (0 ∷ []) 0 i (omega (arith, within, long)) ∙ name_same i within
      by_place false test =
          let past : place ≤ i = grind (arith, nat_tests) in
          let long = name_long in
          let all = length-append (before_first is_nul bytes) (0 ∷ []) in
          let here : i ≡ place = omega (arith, past, lt, long, all) in
          get_or_at (before_first is_nul bytes) 0 [] 0 i (omega (arith, long, here)) ∙ sym end_is ∙ ap (slice_index bytes) (sym here)

-- ---- where the page has it

pub whole_gives : (v : View) (k : Slot) (b : Born) (path argv : ℕ) → HasWholePath v k b (service.Spawn path argv) → HasOnlyPath v k b path argv
whole_gives v k b path argv h = record {
  name = before_first is_nul h.bytes;
  stage = gathering h.bytes;
  lists = behind_path h.bytes ended;
  is_in = record {
    regs = k.registers;
    program = h.is_in.program;
    eax = k.registers.eax;
    registers = refl;
    phase = h.is_in.phase;
    silent = h.is_in.silent;
    awake = h.is_in.awake;
  };
  path_kept = record {
    small = bytes_take (position_or_len is_nul h.bytes) h.bytes h.small;
    no_end = name_endless h.bytes h.ended;
    few = let long = name_long h.bytes h.ended in let few = h.few in let within = h.ended in omega (arith, long, few, within);
    kept = record {
      entry = h.kept.entry;
      stands = h.kept.stands;
      own_page = h.kept.own_page;
      same = λ i lt.
          let long = name_long h.bytes h.ended in
          let all = length-append (before_first is_nul h.bytes) (0 ∷ []) in
          let first : 0 + i ≡ i = omega arith in
          ap (slice_index (v.bytes h.kept.entry.frame)) first ∙ h.kept.same i (omega (arith, lt, long, all)) ∙ sym (name_ends h.bytes h.ended i lt);
    };
  };
}
  where
    ended : has_nul h.bytes ≡ true
    ended = let within = h.ended in grind (arith, nat_tests, within)
