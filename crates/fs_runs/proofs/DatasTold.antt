-- The bytes that stat tells of a file.
use Rattle.std.proofs.Common.{◌≡◌, ◌∙◌, ◌+◌, ◌-◌, ◌<◌, ◌≤◌, ◌==◌, ◌&&◌, ◌||◌, inl, inr, ℕ, zero, suc, Bool, true, false}
use Rattle.std.proofs.Common.{List, [], ◌∷◌, ◌++◌, length, get_or, refl, sym, ap, subst, arith, add-one, if◌then◌else◌}
use Rattle.std.specs.Prelude.{nat_le, nat_lt, replicate, slice_index, take}
use Rattle.std.specs.Int.{w32, to_le_bytes}
use Rattle.std.specs.List.{position_or_len}
use Rattle.std.proofs.lemmas.Bool.{cases_lt}
use Rattle.std.proofs.lemmas.Bool.Decides.{nat_tests}
use Rattle.std.proofs.lemmas.List.{length-append, length-replicate, length-take-le, get_or-take, get_or-replicate, get_or_append_left, get_or-append_right}
use Rattle.std.proofs.lemmas.List.Sums.{fails_before_first, passes_at_first}
use Rattle.std.proofs.lemmas.Nat.{le_bytes_4}
use Rattle.jos_base.specs.Below.{some_below, values_below}
use Rattle.jos_base.specs.TrapFrames.{bytes_of_words}
use Rattle.jos_base.specs.Words.{upd, word_at}
use Rattle.jos_base.proofs.Below.{get_or-values, length-values, some_below-at, some_below-none}
use Rattle.fs_layout.specs.declared.numbers.TheConstants.{FTYPE_REG}
use Rattle.fs_layout.specs.DiskImage.{kind_at, name_of, size_of}
use Rattle.fs_layout.specs.FileActs.{stat_bytes}
use Rattle.fs_acts.specs.BlockActs.{stat_plan}
use Rattle.fs_acts.proofs.ComposedCreates.{first-within}
use Rattle.fs_jobs.specs.declared.place.Changed.{Changed}
use Rattle.fs_jobs.specs.declared.place.FilePlace.TheVariants as file
use Rattle.fs_jobs.specs.declared.place.Job.{Job}
use Rattle.fs_jobs.specs.declared.place.Job.TheVariants as job
use Rattle.fs_jobs.specs.declared.place.TreeState.{TreeState}
use Rattle.fs_jobs.specs.declared.asks.TreeNext.TheVariants.{Answer, GoOn}
use Rattle.fs_jobs.specs.TreeBounds.{is_bounded_changed, is_bounded_job}
use Rattle.fs_runs.specs.TreePlans.{next_at}
use Rattle.fs_runs.specs.TreeRuns.{AreSmall, Memory}
use Rattle.fs_jobs.specs.TreeTests.{low_byte}
use Rattle.fs_runs.proofs.Pieces.{EndsWith, LiesOn, StatsAreTold, at_file}
use Rattle.fs_runs.proofs.DatasRuns.{bounded-file, ends_behind, ends_here, handed, handed-at, handed-more, handed-none}
use Rattle.fs_runs.proofs.DatasRuns.{handed-past, is-place, low-byte}

-- ---- what is told

-- whether the name ends below a number
over : (ℕ → ℕ) → ℕ → ℕ → Bool
over byte home k = some_below k (λ i. byte (home + i) == 0)

over-more : (byte : ℕ → ℕ) (home k : ℕ) → over byte home (k + 1) ≡ (over byte home k || (byte (home + k) == 0))
unfolding over some_below
over-more byte home k = ap (over byte home) (add-one k)

over-none : (byte : ℕ → ℕ) (home : ℕ) → over byte home 0 ≡ false
unfolding over some_below
over-none byte home = refl

told : (ℕ → ℕ) → ℕ → ℕ → ℕ
told byte home k = if over byte home (k + 1) && nat_lt k 128 then 0 else byte (home + k)

told-small : (byte : ℕ → ℕ) (home k : ℕ) → ((q : ℕ) → byte q < 256) → told byte home k < 256
unfolding told
told-small byte home k small = by (over byte home (k + 1) && nat_lt k 128)
  where
    by : (b : Bool) → (if b then 0 else byte (home + k)) < 256
    by true = omega arith
    by false = small (home + k)

-- the name, and zeros behind it
name-byte : (byte : ℕ → ℕ) (home k : ℕ) → k < 128 →
    get_or (name_of byte home ++ replicate (128 - length (name_of byte home)) 0) k 0 ≡ (if over byte home (k + 1) then 0 else byte (home + k))
unfolding name_of over
name-byte byte home k within =
    let z : ℕ → Bool = λ b. b == 0 in
    let f : ℕ → ℕ = λ i. byte (home + i) in
    let xs : List ℕ = values_below 128 f in
    let p : ℕ = position_or_len z xs in
    let long : length xs ≡ 128 = length-values 128 f in
    let most : p ≤ length xs = first-within z xs in
    let name : List ℕ = take p xs in
    let named : length name ≡ p = length-take-le p xs most in
    elim (cases_lt k p) [
      | inl before ↦
          let none : some_below (k + 1) (λ i. z (f i)) ≡ false =
          some_below-none (λ i. z (f i)) (k + 1)
          (λ i less.
          ap z (sym (get_or-values 128 f i 0 (omega (arith, less, within))))
          ∙ fails_before_first z xs i 0 (omega (arith, less, before))) in
          get_or_append_left name (replicate (128 - length name) 0) 0 k (omega (arith, named, before))
          ∙ get_or-take p xs k 0 before ∙ get_or-values 128 f k 0 within
          ∙ ap (λ (b : Bool). if b then 0 else f k) (sym none)
      | inr past ↦
          let at : p < 128 = omega (arith, past, within) in
          let is : some_below (k + 1) (λ i. z (f i)) ≡ true =
          some_below-at (λ i. z (f i)) (k + 1) p (omega (arith, past))
          (ap z (sym (get_or-values 128 f p 0 at)) ∙ passes_at_first z xs 0 (omega (arith, long, at))) in
          get_or-append_right name (replicate (128 - length name) 0) (length name) k 0 refl (omega (arith, named, past))
          ∙ get_or-replicate (128 - length name) (k - length name) 0 0 (omega (arith, named, past, within))
          ∙ ap (λ (b : Bool). if b then 0 else f k) (sym is)
    ]

-- the bytes of a word
word-four : (f : ℕ → ℕ) (at k : ℕ) → k < 4 → get_or (f at ∷ f (at + 1) ∷ f (at + 2) ∷ f (at + 3) ∷ []) k 0 ≡ f (at + k)
word-four f at zero lt = ap f (omega arith)
word-four f at (suc zero) lt = refl
word-four f at (suc (suc zero)) lt = refl
word-four f at (suc (suc (suc zero))) lt = refl
word-four f at (suc (suc (suc (suc k)))) lt = absurd (omega (arith, lt))

word-byte : (byte : ℕ → ℕ) (at k : ℕ) → ((q : ℕ) → byte q < 256) → k < 4 → get_or (to_le_bytes w32 (word_at byte at)) k 0 ≡ byte (at + k)
word-byte byte at k small within =
    ap (λ (l : List ℕ). get_or l k 0) (le_bytes_4 (byte at ∷ byte (at + 1) ∷ byte (at + 2) ∷ byte (at + 3) ∷ []) (word_at byte at) refl each refl)
    ∙ word-four byte at k within
  where
    each : (i : ℕ) → get_or (byte at ∷ byte (at + 1) ∷ byte (at + 2) ∷ byte (at + 3) ∷ []) i 0 < 256
    each zero = small at
    each (suc zero) = small (at + 1)
    each (suc (suc zero)) = small (at + 2)
    each (suc (suc (suc zero))) = small (at + 3)
    each (suc (suc (suc (suc i)))) = omega arith

-- the bytes of two words
words-byte : (byte : ℕ → ℕ) (at k : ℕ) → ((q : ℕ) → byte q < 256) → k < 8 →
    get_or (bytes_of_words (word_at byte at ∷ word_at byte (at + 4) ∷ [])) k 0 ≡ byte (at + k)
unfolding bytes_of_words
words-byte byte at k small within =
    let first : List ℕ = to_le_bytes w32 (word_at byte at) in
    let second : List ℕ = to_le_bytes w32 (word_at byte (at + 4)) in
    elim (cases_lt k 4) [
      | inl low ↦ get_or_append_left first (second ++ []) 0 k low ∙ word-byte byte at k small low
      | inr high ↦
          get_or-append_right first (second ++ []) 4 k 0 refl high
          ∙ get_or_append_left second [] 0 (k - 4) (omega (arith, within, high))
          ∙ word-byte byte (at + 4) (k - 4) small (omega (arith, within, high))
          ∙ ap byte (back at k high)
    ]
  where
    back : (at k : ℕ) → 4 ≤ k → at + 4 + (k - 4) ≡ at + k
    back at k high = omega (arith, high)

pub length-name : (byte : ℕ → ℕ) (home : ℕ) → length (name_of byte home) ≤ 128
unfolding name_of
length-name byte home =
    let xs : List ℕ = values_below 128 (λ i. byte (home + i)) in
    let long : length xs ≡ 128 = length-values 128 (λ i. byte (home + i)) in
    let most : position_or_len (λ b. b == 0) xs ≤ length xs = first-within (λ b. b == 0) xs in
    let named : length (take (position_or_len (λ b. b == 0) xs) xs) ≡ position_or_len (λ b. b == 0) xs =
    length-take-le (position_or_len (λ b. b == 0) xs) xs most in
    omega (arith, long, most, named)

padded : (byte : ℕ → ℕ) (home : ℕ) → length (name_of byte home ++ replicate (128 - length (name_of byte home)) 0) ≡ 128
padded byte home =
    let name : List ℕ = name_of byte home in
    let most = length-name byte home in
    let zeros : length (replicate (128 - length name) 0) ≡ 128 - length name = length-replicate {A = ℕ} (128 - length name) 0 in
    let whole = length-append name (replicate (128 - length name) 0) in
    omega (arith, most, zeros, whole)

stat-length : (byte : ℕ → ℕ) (home : ℕ) → length (stat_plan byte home).bytes ≡ 136
unfolding stat_plan stat_bytes bytes_of_words
stat-length byte home =
    let front : List ℕ = name_of byte home ++ replicate (128 - length (name_of byte home)) 0 in
    let whole : length (front ++ bytes_of_words (size_of byte home ∷ FTYPE_REG ∷ [])) ≡ length front + 8 =
    length-append front (bytes_of_words (size_of byte home ∷ FTYPE_REG ∷ [])) in
    let first = padded byte home in
    omega (arith, whole, first)

low-told : (byte : ℕ → ℕ) (home k : ℕ) → k < 128 → told byte home k ≡ (if over byte home (k + 1) then 0 else byte (home + k))
unfolding told
low-told byte home k less =
    let low : nat_lt k 128 ≡ true = grind (arith, nat_tests) in rw low (by (over byte home (k + 1)))
  where
    by : (b : Bool) → (if b && true then 0 else byte (home + k)) ≡ (if b then 0 else byte (home + k))
    by true = refl
    by false = refl

high-told : (byte : ℕ → ℕ) (home k : ℕ) → 128 ≤ k → told byte home k ≡ byte (home + k)
unfolding told
high-told byte home k high =
    let past : nat_lt k 128 ≡ false = grind (arith, nat_tests) in rw past (by (over byte home (k + 1)))
  where
    by : (b : Bool) → (if b && false then 0 else byte (home + k)) ≡ byte (home + k)
    by true = refl
    by false = refl

stat-at : (byte : ℕ → ℕ) (home k : ℕ) → ((q : ℕ) → byte q < 256) → kind_at byte home ≡ FTYPE_REG → k < 136 →
    told byte home k ≡ slice_index (stat_plan byte home).bytes k
unfolding stat_plan stat_bytes
stat-at byte home k small file_kind within =
    let front : List ℕ = name_of byte home ++ replicate (128 - length (name_of byte home)) 0 in
    let words : List ℕ = bytes_of_words (size_of byte home ∷ FTYPE_REG ∷ []) in
    let long = padded byte home in
    elim (cases_lt k 128) [
      | inl low ↦
          low-told byte home k low ∙ sym (name-byte byte home k low) ∙ sym (get_or_append_left front words 0 k (omega (arith, long, low)))
      | inr high ↦
          high-told byte home k high ∙ ap byte (back home k high)
          ∙ sym (words-byte byte (home + 128) (k - 128) small (omega (arith, high, within)))
          ∙ ap (λ n. get_or (bytes_of_words (size_of byte home ∷ n ∷ [])) (k - 128) 0) file_kind
          ∙ sym (get_or-append_right front words 128 k 0 long high)
    ]
  where
    back : (home k : ℕ) → 128 ≤ k → home + k ≡ home + 128 + (k - 128)
    back home k high = omega (arith, high)

-- ---- the run

-- the memory behind so many bytes
told_to : Memory → ℕ → ℕ → Memory
told_to m home k = record m { page = handed m.page (told m.disk home) k }

stat-next : (j : Job) (count k w : ℕ) (c : Changed) (e b : Bool) (l : ℕ) → low_byte w ≡ l → (e || (l == 0)) ≡ b →
    next_at (at_file j count c (file.StatByte k e)) w ≡ GoOn (at_file j count c (file.HandStat k (if b && nat_lt k 128 then 0 else l) b))
stat-next j count k w c e b l low is =
    ap (λ x. GoOn (at_file j count c (file.HandStat k (if (e || (x == 0)) && nat_lt k 128 then 0 else x) (e || (x == 0))))) low
    ∙ ap (λ (y : Bool). GoOn (at_file j count c (file.HandStat k (if y && nat_lt k 128 then 0 else l) y))) is

-- what all turns have
record Tells (count : ℕ) (j : Job) (c : Changed) (m : Memory) : Type 0 where
  pub lies : LiesOn count c.home
  pub small : AreSmall m
  pub job : is_bounded_job j ≡ true
  pub changed : is_bounded_changed c ≡ true
  pub few : count ≤ 16384

told-hand : (count : ℕ) (j : Job) (c : Changed) (m : Memory) → Tells count j c m → (k : ℕ) → k < 136 →
    (k + 1 < 136 → EndsWith count 0 (told_to m c.home 136) (at_file j count c (file.StatByte (k + 1) (over m.disk c.home (k + 1)))) (told_to m c.home (k + 1))) →
    EndsWith count 0 (told_to m c.home 136) (at_file j count c (file.HandStat k (told m.disk c.home k) (over m.disk c.home (k + 1)))) (told_to m c.home k)
unfolding told_to
told-hand count j c m tells k less goes =
    let home : ℕ = c.home in
    let ended : Bool = over m.disk home (k + 1) in
    let v : ℕ = told m.disk home k in
    let low_v : low_byte v ≡ v = low-byte v (told-small m.disk home k tells.small.0) in
    let here = at_file j count c (file.HandStat k v ended) in
    let bounded = bounded-file j count c (file.HandStat k v ended) tells.few tells.job tells.changed (is-place k (omega (arith, less))) in
    let after : record m { page = upd (handed m.page (told m.disk home) k) k (low_byte v) } ≡ told_to m home (k + 1) =
    ap (λ (p : ℕ → ℕ). record m { page = p })
    (ap (upd (handed m.page (told m.disk home) k) k) low_v ∙ sym (handed-more m.page (told m.disk home) k)) in
    elim (cases_lt (k + 1) 136) [
      | inl more ↦
          let test : nat_le 136 (k + 1) ≡ false = grind (arith, nat_tests) in
          ends_behind here (at_file j count c (file.StatByte (k + 1) ended)) (told_to m home k) (told_to m home (k + 1)) bounded (omega (arith, less))
          (ap (λ (b : Bool). if b then Answer 0 else GoOn (at_file j count c (file.StatByte (k + 1) ended))) test) after (goes more)
      | inr last ↦
          let test : nat_le 136 (k + 1) ≡ true = grind (arith, nat_tests) in
          let whole : k + 1 ≡ 136 = omega (arith, less, last) in
          ends_here here (told_to m home k) bounded (omega (arith, less))
          (ap (λ (b : Bool). if b then Answer 0 else GoOn (at_file j count c (file.StatByte (k + 1) ended))) test)
          (after ∙ ap (told_to m home) whole)
    ]

told-turn : (count : ℕ) (j : Job) (c : Changed) (m : Memory) → Tells count j c m → (k : ℕ) → k < 136 →
    (k + 1 < 136 → EndsWith count 0 (told_to m c.home 136) (at_file j count c (file.StatByte (k + 1) (over m.disk c.home (k + 1)))) (told_to m c.home (k + 1))) →
    EndsWith count 0 (told_to m c.home 136) (at_file j count c (file.StatByte k (over m.disk c.home k))) (told_to m c.home k)
unfolding told_to told
told-turn count j c m tells k less goes =
    let home : ℕ = c.home in
    let w : ℕ = m.disk (home + k) in
    let ended : Bool = over m.disk home (k + 1) in
    let v : ℕ = told m.disk home k in
    let low_w : low_byte w ≡ w = low-byte w (tells.small.0 (home + k)) in
    let inside = tells.lies.inside in
    let bounded = bounded-file j count c (file.StatByte k (over m.disk home k)) tells.few tells.job tells.changed (is-place k (omega (arith, less))) in
    ends_behind (at_file j count c (file.StatByte k (over m.disk home k))) (at_file j count c (file.HandStat k v ended)) (told_to m home k)
    (told_to m home k) bounded (omega (arith, inside, less))
    (stat-next j count k w c (over m.disk home k) ended w low_w (sym (over-more m.disk home k))) refl
    (told-hand count j c m tells k less goes)

told-ends : (count : ℕ) (j : Job) (c : Changed) (m : Memory) → Tells count j c m → (left k : ℕ) → k + left ≡ 135 →
    EndsWith count 0 (told_to m c.home 136) (at_file j count c (file.StatByte k (over m.disk c.home k))) (told_to m c.home k)
told-ends count j c m tells zero k sum = told-turn count j c m tells k (omega (arith, sum)) (λ more. absurd (omega (arith, sum, more)))
told-ends count j c m tells (suc left) k sum =
    told-turn count j c m tells k (omega (arith, sum)) (λ more. told-ends count j c m tells left (k + 1) (omega (arith, sum)))

pub stats_are_told : StatsAreTold
unfolding told_to
stats_are_told count home c m lies small job_is changed_is at_home no_directory file_kind few =
    let byte : ℕ → ℕ = m.disk in
    let j : Job = job.Stat home in
    let tells : Tells count j c m = record {
      lies = subst (λ h. LiesOn count h) (sym at_home) lies;
      small = small;
      job = job_is;
      changed = changed_is;
      few = few;
    } in
    let long = stat-length byte home in
    let run = told-ends count j c m tells 135 0 refl in
    let begins : told_to m c.home 0 ≡ m = ap (λ (p : ℕ → ℕ). record m { page = p }) (handed-none m.page (told byte c.home)) in
    let named : at_file j count c (file.StatByte 0 (over byte c.home 0)) ≡ at_file j count c (file.StatByte 0 false) =
    ap (λ (b : Bool). at_file j count c (file.StatByte 0 b)) (over-none byte c.home) in (
      handed m.page (told byte c.home) 136,
      λ k less.
          let within : k < 136 = omega (arith, long, less) in
          handed-at m.page (told byte c.home) 136 k within ∙ ap (λ h. told byte h k) at_home ∙ stat-at byte home k small.0 file_kind within,
      λ k past. handed-past m.page (told byte c.home) 136 k (omega (arith, long, past)),
      subst (λ (n : Memory). EndsWith count 0 (told_to m c.home 136) (at_file j count c (file.StatByte 0 false)) n) begins
          (subst (λ (s : TreeState). EndsWith count 0 (told_to m c.home 136) s (told_to m c.home 0)) named run),
    )
