-- Where spawn goes on with the bytes of an address that it has loaded: with the next of them, or, where it has all four, with the address, of which there may be one too many.
use Rattle.std.proofs.Common.{◌≡◌, ◌≢◌, ◌∙◌, ◌+◌, ◌%◌, ◌^◌, ◌<◌, ◌≤◌, ◌==◌, ◌&&◌, ◌++◌, ℕ, zero, suc, Bool, true, false, not, List, [], ◌∷◌, length}
use Rattle.std.proofs.Common.{refl, sym, ap, subst, arith, if◌then◌else◌}
use Rattle.std.specs.Int.{w32, from_le_bytes, to_le_bytes}
use Rattle.std.specs.Prelude.{nat_le, slice_index, take}
use Rattle.std.proofs.lemmas.Bool.Decides.{nat_tests}
use Rattle.std.proofs.lemmas.List.{length-append, nil_from_length}
use Rattle.std.proofs.lemmas.Nat.{from_le_bytes-to_le_bytes_4}
use Rattle.jos_base.specs.declared.numbers.TheConstants.{E_INVAL}
use Rattle.jos_base.specs.Environments.{Slot}
use Rattle.jos_base.specs.Words.{negated, word_at}
use Rattle.lib_os.specs.declared.place.Step.{Step}
use Rattle.lib_os.specs.declared.spawn_steps.GivenStep.TheVariants as given
use Rattle.lib_os.specs.declared.spawn_steps.SpawnStep.{SpawnStep}
use Rattle.lib_os.specs.declared.spawn_steps.SpawnStep.TheVariants as spawn
use Rattle.lib_os.specs.declared.spawn_steps.UndoingStep.TheVariants as undoing
use Rattle.lib_os.specs.AbstractState.{Born, listing, taking}
use Rattle.lib_os.specs.LibraryPages.{View}
use Rattle.lib_os.specs.Rows.{AreBytes}
use Rattle.lib_os.specs.SpawnGiven.{Lists, address_place, amid, behind}
use Rattle.lib_os.specs.StandsAtSpawn.{GivenStands, IsIn, IsListing, MayLoad, by_given, too_many}
use Rattle.lib_os.proofs.Fences.{inside_below}
use Rattle.lib_os.proofs.PageBytes.{bytes_append, bytes_more, bytes_none}
use Rattle.lib_os.proofs.SpawnGathers.{spawn_found}
use Rattle.lib_os.proofs.SpawnOwnPages.{spawn_words}
use Rattle.lib_request.proofs.SpawnGoes.{GoesTo}
use Rattle.lib_given.specs.Addresses.{at_address, behind_address, with_byte}
use Rattle.lib_given.specs.Refusals.{at_given, refused}
use Rattle.lib_given.proofs.AddressGoes.{address_goes}
use Rattle.lib_given.proofs.GivenStays.{in_told}
use Rattle.lib_given.proofs.WordBytes.{bytes_joined}

module _ (v : View) (k : Slot) (b : Born) (path argv index done word : ℕ) (h : GivenStands v k b path argv (given.AddressLoading index done word)) where
  abbrev here : SpawnStep
  here = spawn.Given (given.AddressLoading index done word)

  abbrev so : IsListing v k b path argv index done word
  so = h.0

  -- it has taken more
  abbrev pub listed_more : List ℕ → Born
  listed_more more = spawn_found b path argv (listing so.name so.addresses) (taking (so.taken ++ more))

  in_more : (more : List ℕ) → IsIn k (listed_more more) path argv (taking (so.taken ++ more))
  in_more more = record {
    regs = so.is_in.regs;
    program = so.is_in.program;
    eax = so.is_in.eax;
    registers = so.is_in.registers;
    phase = refl;
    silent = so.is_in.silent;
    awake = so.is_in.awake;
  }

  -- ---- it has all four

  module _ (more : List ℕ) (address : ℕ) (whole : length (so.taken ++ more) ≡ 4) (is : word_at (slice_index (so.taken ++ more)) 0 ≡ address)
      (small : address < 2 ^ 32) (last : MayLoad v (address_place argv index 3)) where
    lists_now : Lists (listed_more more) so.name (so.addresses ++ address ∷ []) [] (taking (so.taken ++ more))
    lists_now =
        subst (λ (w : ℕ). Lists (listed_more more) so.name (so.addresses ++ w ∷ []) [] (taking (so.taken ++ more))) is
        (behind so.name so.addresses (so.taken ++ more) refl whole)

    abbrev refusing : SpawnStep
    refusing = spawn.Undoing (undoing.UndoingGiven (negated E_INVAL))

    abbrev keeping : SpawnStep
    keeping = spawn.Given (given.AddressKeeping index address)

    -- it is kept
    kept : (address ≢ 0 → index < 16) → GoesTo v k (listed_more more) path argv here (at_given (given.AddressKeeping index address))
    kept room = record {
      at = keeping;
      is = refl;
      held = refl;
      unborne = refl;
      stands = (
        record {
          name = so.name;
          addresses = so.addresses;
          stage = taking (so.taken ++ more);
          lists = lists_now;
          is_in = in_told (spawn_words keeping) (in_more more);
          path_kept = so.path_kept;
          kept = so.kept;
          are = so.are;
          many = so.many;
          most = so.most;
          room = room;
          small = small;
        },
        last,
      );
    }

    by_tests : (many none : Bool) → nat_le 16 index ≡ many → (address == 0) ≡ none → GoesTo v k (listed_more more) path argv here
        (if many && not none then refused else at_given (given.AddressKeeping index address))
    by_tests true false all some = record {
      at = refusing;
      is = refl;
      held = refl;
      unborne = refl;
      stands =
          let past : 16 ≤ index = grind (arith, nat_tests, all) in
          let most = so.most in
          let many = so.many in
          by_given (taking (so.taken ++ more)) (in_told (spawn_words refusing) (in_more more))
          (too_many so.name so.addresses address (taking (so.taken ++ more)) lists_now (omega (arith, past, most, many))
          (grind (arith, nat_tests, some))) refl;
    }
    by_tests true true all none = kept (λ some. absurd (some (grind (arith, nat_tests, none))))
    by_tests false none few is_none = kept (λ some. grind (arith, nat_tests, few))

    pub address_has : GoesTo v k (listed_more more) path argv here (behind_address index address)
    address_has = by_tests (nat_le 16 index) (address == 0) refl refl

  -- ---- it has fewer

  module _ (byte : ℕ) (small : byte < 256) (fewer : done < 3) where
    pub address_more : GoesTo v k (listed_more (byte ∷ [])) path argv here (at_address argv index (done + 1) (with_byte word done byte))
    address_more =
        address_goes v k (listed_more (byte ∷ [])) path argv here refl index (done + 1) (with_byte word done byte)
        (record {
          name = so.name;
          addresses = so.addresses;
          taken = so.taken ++ byte ∷ [];
          stage = taking (so.taken ++ byte ∷ []);
          lists = amid so.name so.addresses (so.taken ++ byte ∷ []) refl (omega (arith, long)) (omega (arith, long, many, fewer));
          is_in = in_more (byte ∷ []);
          path_kept = so.path_kept;
          kept = so.kept;
          are = so.are;
          many = so.many;
          most = so.most;
          bytes = omega (arith, long, many);
          few = omega (arith, fewer);
          word_is = joined;
          small = bytes_append so.taken (byte ∷ []) so.small (bytes_more byte [] small bytes_none);
        })
        (λ later. (address_place argv index done, h.1, next_place))
      where
        long : length (so.taken ++ byte ∷ []) ≡ length so.taken + 1
        long = length-append so.taken (byte ∷ [])

        many : length so.taken ≡ done
        many = so.bytes

        next_place : address_place argv index (done + 1) ≡ (address_place argv index done + 1) % 2 ^ 32
        next_place = omega arith

        joined : take (done + 1) (to_le_bytes w32 (with_byte word done byte)) ≡ so.taken ++ byte ∷ []
        joined =
            let next : done + 1 ≡ suc done = omega arith in
            ap (λ (m : ℕ). take m (to_le_bytes w32 (with_byte word done byte))) next
            ∙ bytes_joined word done byte (omega (arith, fewer)) small
            ∙ ap (λ (l : List ℕ). l ++ byte ∷ []) so.word_is

  -- ---- by what is loaded

  -- a word
  pub word_has : (more : List ℕ) → AreBytes more → length more ≡ 4 → done ≡ 0 → MayLoad v (address_place argv index done + 3) →
      GoesTo v k (listed_more more) path argv here (behind_address index (from_le_bytes w32 more))
  word_has more small_bytes four begins last =
      address_has more (from_le_bytes w32 more) (let all = length-append so.taken more in let bytes = so.bytes in omega (arith, all, bytes, begins, four))
      (ap (λ (l : List ℕ). word_at (slice_index (l ++ more)) 0) (nil_from_length so.taken (so.bytes ∙ begins)) ∙ word_of_four more four) word_small
      (subst (λ (va : ℕ). MayLoad v va) last_place last)
    where
      word_of_four : (bytes : List ℕ) → length bytes ≡ 4 → word_at (slice_index bytes) 0 ≡ from_le_bytes w32 bytes
      word_of_four (b0 ∷ b1 ∷ b2 ∷ b3 ∷ []) long = refl
      word_of_four [] long = absurd (omega (arith, long))
      word_of_four (b0 ∷ []) long = absurd (omega (arith, long))
      word_of_four (b0 ∷ b1 ∷ []) long = absurd (omega (arith, long))
      word_of_four (b0 ∷ b1 ∷ b2 ∷ []) long = absurd (omega (arith, long))
      word_of_four (b0 ∷ b1 ∷ b2 ∷ b3 ∷ b4 ∷ rest) long = absurd (omega (arith, long))

      word_small : from_le_bytes w32 more < 2 ^ 32
      word_small = small_of more four small_bytes
        where
          small_of : (bytes : List ℕ) → length bytes ≡ 4 → AreBytes bytes → from_le_bytes w32 bytes < 2 ^ 32
          small_of (b0 ∷ b1 ∷ b2 ∷ b3 ∷ []) long each =
              let first = each 0 in
              let second = each 1 in
              let third = each 2 in
              let fourth = each 3 in
              omega (arith, first, second, third, fourth)
          small_of [] long each = absurd (omega (arith, long))
          small_of (b0 ∷ []) long each = absurd (omega (arith, long))
          small_of (b0 ∷ b1 ∷ []) long each = absurd (omega (arith, long))
          small_of (b0 ∷ b1 ∷ b2 ∷ []) long each = absurd (omega (arith, long))
          small_of (b0 ∷ b1 ∷ b2 ∷ b3 ∷ b4 ∷ rest) long each = absurd (omega (arith, long))

      last_place : address_place argv index done + 3 ≡ address_place argv index 3
      last_place = let low = inside_below (address_place argv index done) h.1.inside in omega (arith, low, begins)

  -- the last byte
  pub fourth_has : (byte : ℕ) → byte < 256 → done ≡ 3 →
      GoesTo v k (listed_more (byte ∷ [])) path argv here (behind_address index (with_byte word done byte))
  fourth_has byte small third =
      address_has (byte ∷ []) (with_byte word done byte)
      (let all = length-append so.taken (byte ∷ []) in let bytes = so.bytes in omega (arith, all, bytes, third))
      (ap (λ (l : List ℕ). word_at (slice_index l) 0) (sym whole) ∙ from_le_bytes-to_le_bytes_4 (with_byte word done byte) below) below
      (subst (λ (m : ℕ). MayLoad v (address_place argv index m)) third h.1)
    where
      below : with_byte word done byte < 2 ^ 32
      below = fourth_small done third
        where
          fourth_small : (m : ℕ) → m ≡ 3 → with_byte word m byte < 2 ^ 32
          fourth_small (suc (suc (suc zero))) is = omega (arith, small)
          fourth_small zero is = absurd (omega (arith, is))
          fourth_small (suc zero) is = absurd (omega (arith, is))
          fourth_small (suc (suc zero)) is = absurd (omega (arith, is))
          fourth_small (suc (suc (suc (suc m)))) is = absurd (omega (arith, is))

      whole : to_le_bytes w32 (with_byte word done byte) ≡ so.taken ++ byte ∷ []
      whole =
          let four : suc done ≡ 4 = omega (arith, third) in
          sym (ap (λ (m : ℕ). take m (to_le_bytes w32 (with_byte word done byte))) four)
          ∙ bytes_joined word done byte (omega (arith, third)) small ∙ ap (λ (l : List ℕ). l ++ byte ∷ []) so.word_is
