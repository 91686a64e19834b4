-- The frames at the beginning.
use Rattle.std.proofs.Common.{◌≡◌, ◌∙◌, ◌+◌, ◌-◌, ◌/◌, ◌<◌, ◌≤◌, inl, inr, ℕ, zero, suc, Bool, true, false, cond, List, []}
use Rattle.std.proofs.Common.{◌∷◌, length, get_or, Option, Some, None, refl, sym, ap, subst, arith}
use Rattle.std.specs.Prelude.{replicate, nat_lt}
use Rattle.std.proofs.lemmas.Bool.Decides.{nat_tests}
use Rattle.std.proofs.lemmas.List.{get_or-replicate, get_or_past, length-replicate}
use Rattle.jos_base.specs.Reach.{Entry}
use Rattle.jos_space.specs.declared.role.Role.{Role}
use Rattle.jos_space.specs.declared.role.Role.TheVariants.{Reserved, Free, Directory}
use Rattle.jos_base.specs.Counting.{named, total}
use Rattle.jos_base.specs.SpacesState.{Region, reserved, free, rising, reserved_frames, first_spaces}
use Rattle.jos_space.specs.Frames.{IsSound, Lists, AreSound, held_in, state, regions_of, entries_of, use_of, bytes_by}
use Rattle.jos_space.specs.Frames.{free_count, state_of, stacked, first_role, records, zero_record}
use Rattle.jos_base.specs.declared.numbers.TheConstants.{NENV}
use Rattle.jos_base.specs.Environments.{records_of, record_words, free_slot, first_environments}
use Rattle.jos_space.proofs.Lookups.{region_facts, entry_region}
use Rattle.jos_space.proofs.OverLists.{limit_is}
use Rattle.std.proofs.lemmas.Bool.{cases_lt}
use Rattle.jos_base.proofs.Counts.{page_count-none}

-- what the lists hold
pub record IsFirst (n : ℕ) (l : Lists) : Type 0 where
  pub least : 64 ≤ n
  pub most : n ≤ 65536
  pub words : length l.words ≡ n
  pub bytes : length l.bytes ≡ n
  pub counts : l.counts ≡ replicate n 0
  pub roles_len : length l.roles ≡ n
  pub roles : (f : ℕ) → f < n → get_or l.roles f Reserved ≡ first_role n f
  pub order_len : length l.order ≡ n
  pub order : (k : ℕ) → k < n → get_or l.order k 0 ≡ n - 1 - k
  pub free_len : l.free_len ≡ n - reserved_frames n
  pub records_len : length l.records ≡ NENV
  pub records : (k : ℕ) → k < NENV → get_or l.records k [] ≡ zero_record

module _ (n : ℕ) (l : Lists) (is : IsFirst n l) where
  few : reserved_frames n ≤ n
  few = let least = is.least in omega arith

  role_low : (f : ℕ) → f < reserved_frames n → get_or l.roles f Reserved ≡ Reserved
  role_low f lt =
      let some = few in
      let t : nat_lt f (reserved_frames n) ≡ true = grind (arith, nat_tests) in
      is.roles f (omega arith) ∙ ap (λ b. cond b Reserved (Free (n - 1 - f))) t

  role_free : (f : ℕ) → reserved_frames n ≤ f → f < n → get_or l.roles f Reserved ≡ Free (n - 1 - f)
  role_free f past lt =
      let t : nat_lt f (reserved_frames n) ≡ false = grind (arith, nat_tests) in
      is.roles f lt ∙ ap (λ b. cond b Reserved (Free (n - 1 - f))) t

  role_out : (f : ℕ) → n ≤ f → get_or l.roles f Reserved ≡ Reserved
  role_out f past = get_or_past l.roles f Reserved (let len = is.roles_len in omega (arith, len, past))

  no_directory : (d : ℕ) → get_or l.roles d Reserved ≡ Directory → ⊥
  no_directory d dir = elim (cases_lt d (reserved_frames n)) [
    | inl lt ↦ let r = role_low d lt in cc
    | inr past ↦ elim (cases_lt d n) [
      | inl lt ↦ let r = role_free d past lt in cc
      | inr out ↦ let r = role_out d out in cc
    ]
  ]

  no_region : (d r : ℕ) (o : Option Region) → regions_of (held_in l) d r ≡ o → o ≡ None
  no_region d r None e = refl
  no_region d r (Some region) e = absurd (no_directory d (region_facts (held_in l) d r region e).0)

  no_entry : (d p : ℕ) (o : Option Entry) → entries_of (held_in l) d p ≡ o → o ≡ None
  no_entry d p None e = refl
  no_entry d p (Some entry) e = absurd (let r = entry_region (held_in l) d p entry e in no_directory d (region_facts (held_in l) d (p / 1024) r.0 r.1).0)

  count_zero : (f : ℕ) → get_or l.counts f 0 ≡ 0
  count_zero f = ap (λ (xs : List ℕ). get_or xs f 0) is.counts ∙ zeros n f
    where
      zeros : (n i : ℕ) → get_or {A = ℕ} (replicate n 0) i 0 ≡ 0
      zeros n i = elim (cases_lt i n) [
        | inl lt ↦ get_or-replicate n i 0 0 lt
        | inr past ↦ get_or_past (replicate n 0) i 0 (let len = length-replicate {A = ℕ} n 0 in omega (arith, len, past))
      ]

  free_total : (m : ℕ) → m ≤ n → total m (λ f. free_count (get_or l.roles f Reserved)) ≡ m - reserved_frames n
  unfolding total
  free_total zero le = omega arith
  free_total (suc m) le =
      let rest = free_total m (omega arith) in
      elim (cases_lt m (reserved_frames n)) [
        | inl lt ↦ let here = ap free_count (role_low m lt) in omega (arith, rest, here, lt)
        | inr past ↦ let here = ap free_count (role_free m past (omega arith)) in omega (arith, rest, here, past)
      ]

  first_sound : IsSound n (held_in l)
  first_sound = record {
    tables = λ d r region e. absurd (no_directory d (region_facts (held_in l) d r region e).0);
    pages = λ d p entry e. absurd (let r = entry_region (held_in l) d p entry e in no_directory d (region_facts (held_in l) d (p / 1024) r.0 r.1).0);
    counts = λ f. count_zero f ∙ sym (page_count-none (entries_of (held_in l)) f (λ d p. ap (named f) (no_entry d p (entries_of (held_in l) d p) refl)));
    listed = λ k lt.
        let all = is.free_len in
        let some = few in
        let at = is.order k (omega arith) in
        ap (λ z. get_or l.roles z Reserved) at ∙ role_free (n - 1 - k) (omega arith) (omega arith) ∙ ap (λ (z : ℕ). Free z) (omega arith);
    free_len = free_total n (omega arith) ∙ sym is.free_len;
    outside = role_out;
    limit = let most = is.most in let number = limit_is in omega (arith, most, number);
  }

  pub first_lists_sound : AreSound l
  first_lists_sound = record {
    words = is.words ∙ sym is.roles_len;
    bytes = is.bytes ∙ sym is.roles_len;
    counts = ap length is.counts ∙ length-replicate {A = ℕ} n 0 ∙ sym is.roles_len;
    order = is.order_len ∙ sym is.roles_len;
    records = is.records_len;
    sound = subst (λ m. IsSound m (held_in l)) (sym is.roles_len) first_sound;
  }

  rises : (m : ℕ) → m ≤ n → stacked (held_in l).place m ≡ rising (n - m) m
  unfolding stacked rising
  rises zero le = refl
  rises (suc m) le =
      let at : get_or l.order m 0 ≡ n - suc m = is.order m (omega arith) ∙ omega arith in
      let rest : stacked (held_in l).place m ≡ rising (n - suc m + 1) m = rises m (omega arith) ∙ ap (λ z. rising z m) (omega arith) in
      λ i. at i ∷ rest i

  use_first : (f : ℕ) → use_of (get_or l.roles f Reserved) ≡ cond (nat_lt f (reserved_frames n)) reserved (cond (nat_lt f n) free reserved)
  use_first f = elim (cases_lt f (reserved_frames n)) [
    | inl lt ↦ let t : nat_lt f (reserved_frames n) ≡ true = grind (arith, nat_tests) in ap use_of (role_low f lt) ∙ sym (ap (λ b. cond b reserved (cond (nat_lt f n) free reserved)) t)
    | inr past ↦
        let t : nat_lt f (reserved_frames n) ≡ false = grind (arith, nat_tests) in
        elim (cases_lt f n) [
          | inl lt ↦ let u : nat_lt f n ≡ true = grind (arith, nat_tests) in ap use_of (role_free f past lt) ∙ sym (λ i. cond (t i) reserved (cond (u i) free reserved))
          | inr out ↦ let u : nat_lt f n ≡ false = grind (arith, nat_tests) in ap use_of (role_out f out) ∙ sym (λ i. cond (t i) reserved (cond (u i) free reserved))
        ]
  ]

  bytes_first : (f : ℕ) → bytes_by (get_or l.roles f Reserved) (get_or l.bytes f []) ≡ []
  bytes_first f = elim (cases_lt f (reserved_frames n)) [
    | inl lt ↦ ap (λ (r : Role). bytes_by r (get_or l.bytes f [])) (role_low f lt)
    | inr past ↦ elim (cases_lt f n) [
      | inl lt ↦ ap (λ (r : Role). bytes_by r (get_or l.bytes f [])) (role_free f past lt)
      | inr out ↦ ap (λ (r : Role). bytes_by r (get_or l.bytes f [])) (role_out f out)
    ]
  ]

  pub first_is : state l ≡ first_spaces n
  unfolding state_of first_spaces
  first_is =
      let some = few in
      let free_is : stacked (held_in l).place l.free_len ≡ rising (reserved_frames n) (n - reserved_frames n) =
      ap (stacked (held_in l).place) is.free_len ∙ rises (n - reserved_frames n) (omega arith) ∙ ap (λ z. rising z (n - reserved_frames n)) (omega arith) in
      λ i. record {
        frames = is.roles_len i;
        uses = λ f. use_first f i;
        free = free_is i;
        pages = λ f. bytes_first f i;
        regions = λ d r. no_region d r (regions_of (held_in l) d r) refl i;
        entries = λ d p. no_entry d p (entries_of (held_in l) d p) refl i;
      }

  record_first : (k : ℕ) (b : Bool) → nat_lt k NENV ≡ b → get_or l.records k [] ≡ cond b (record_words (free_slot 0)) []
  unfolding record_words zero_record
  record_first k true t = is.records k (grind (arith, nat_tests))
  record_first k false t = get_or_past l.records k [] (let len = is.records_len in let past : NENV ≤ k = grind (arith, nat_tests) in omega (arith, len, past))

  pub first_records : records l ≡ records_of first_environments
  unfolding records_of first_environments
  first_records = λ i. λ k. record_first k (nat_lt k NENV) refl i
