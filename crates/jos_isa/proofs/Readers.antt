-- A reader and the spellings of what it reads, held together by five laws; and readers one after the other.
use Rattle.std.proofs.Common.{◌≡◌, ℕ, ◌+◌, ◌*◌, ◌/◌, ◌%◌, ◌<◌, ◌≤◌, List, [], ◌∷◌, ◌++◌, length, Result, Ok, Err}
use Rattle.std.proofs.Common.{refl, sym, ap, subst, ◌∙◌, append_assoc, arith, ◌⊎◌, inl, inr, true, false, nat_eq, ◌≢◌}
use Rattle.std.proofs.lemmas.List.{length-append, append-nil}
use Rattle.jos_base.specs.Words.{◌>>=◌}
use Rattle.jos_isa.specs.declared.behind_opcode.PartFault.{PartFault}
use Rattle.jos_isa.specs.declared.behind_opcode.PartFault.TheVariants.{Short}
use Rattle.jos_isa.specs.ClauseWords.{AreBytes}
use Rattle.jos_isa.specs.Decoding.{next_byte}

pub record Reads {A : Type 0} (read : List ℕ → Result (A × List ℕ) PartFault) (IsSpelling : A → List ℕ → Type 0) (longest : ℕ) : Type 0 where
  -- what is read is spelled, and the rest is what follows
  pub takes : (bytes : List ℕ) (x : A) (rest : List ℕ) → read bytes ≡ Ok (x, rest) → (front : List ℕ) × (bytes ≡ front ++ rest) × IsSpelling x front
  -- what is spelled is read, whatever follows
  pub again : (x : A) (front rest : List ℕ) → IsSpelling x front → read (front ++ rest) ≡ Ok (x, rest)
  -- what is too short begins a longer spelling
  pub begins : (bytes : List ℕ) → read bytes ≡ Err Short → (x : A) × (next : ℕ) × (more : List ℕ) × AreBytes (next ∷ more) × IsSpelling x (bytes ++ next ∷ more)
  -- what begins a longer spelling is too short
  pub stops : (x : A) (bytes : List ℕ) (next : ℕ) (more : List ℕ) → IsSpelling x (bytes ++ next ∷ more) → read bytes ≡ Err Short
  pub within : (x : A) (front : List ℕ) → IsSpelling x front → length front ≤ longest

-- ---- bytes

pub are_append : (front back : List ℕ) → AreBytes front → AreBytes back → AreBytes (front ++ back)
are_append [] back f b = b
are_append (x ∷ front) back f b = (f.0, are_append front back f.1 b)

pub one_zero : AreBytes (0 ∷ [])
one_zero = (omega arith, tt)

pub two_zeros : AreBytes (0 ∷ 0 ∷ [])
two_zeros = (omega arith, one_zero)

pub three_zeros : AreBytes (0 ∷ 0 ∷ 0 ∷ [])
three_zeros = (omega arith, two_zeros)

pub four_zeros : AreBytes (0 ∷ 0 ∷ 0 ∷ 0 ∷ [])
four_zeros = (omega arith, three_zeros)

-- ---- what a step gave

abbrev pub done : {A : Type 0} → A → Result A PartFault
done x = Ok x

pub ok_is : {A : Type 0} (x y : A) → done x ≡ done y → x ≡ y
ok_is x y e = cc

-- the value of a step that did not fail
pub bind_ok : {A B : Type 0} (r : Result A PartFault) (f : A → Result B PartFault) (y : B) → (r >>= f) ≡ Ok y → (x : A) × (r ≡ Ok x) × (f x ≡ Ok y)
bind_ok (Ok x) f y e = (x, refl, e)
bind_ok (Err d) f y e = absurd cc

-- the step that failed
pub bind_err : {A B : Type 0} (r : Result A PartFault) (f : A → Result B PartFault) (d : PartFault) → (r >>= f) ≡ Err d → (r ≡ Err d) ⊎ ((x : A) × (r ≡ Ok x) × (f x ≡ Err d))
bind_err (Ok x) f d e = inr (x, refl, e)
bind_err (Err c) f d e = inl (cc)

-- what a reader took, where its answer is known in other words
pub taken_as : {A : Type 0} (P : A → List ℕ → Type 0) (bytes front : List ℕ) (x y : A × List ℕ) → done x ≡ done y → bytes ≡ front ++ x.1 → P x.0 front
    → (front : List ℕ) × (bytes ≡ front ++ y.1) × P y.0 front
taken_as {A} P bytes front x y e bytes_are spells =
    subst (λ (z : A × List ℕ). (front : List ℕ) × (bytes ≡ front ++ z.1) × P z.0 front) (ok_is x y e) (front, bytes_are, spells)

-- ---- lists in two ways

pub not_empty : (bytes : List ℕ) (next : ℕ) (more : List ℕ) → bytes ++ next ∷ more ≡ [] → ⊥
not_empty [] next more e = cc
not_empty (b ∷ bytes) next more e = cc

-- Where a list is bytes and more, and also front and back: bytes end within the front, or behind it.
pub split : (bytes front back : List ℕ) (next : ℕ) (more : List ℕ) → bytes ++ next ∷ more ≡ front ++ back
    → ((n : ℕ) × (m : List ℕ) × (front ≡ bytes ++ n ∷ m)) ⊎ ((h : List ℕ) × (bytes ≡ front ++ h) × (back ≡ h ++ next ∷ more))
split bytes [] back next more e = inr (bytes, refl, sym e)
split [] (n ∷ front) back next more e = inl (n, front, refl)
split (b ∷ bytes) (n ∷ front) back next more e =
    let heads : b ≡ n = cc in
    let tails : bytes ++ next ∷ more ≡ front ++ back = cc in
    elim (split bytes front back next more tails) [
      | inl s ↦ inl (s.0, s.1, (cc (heads, s.2)))
      | inr s ↦ inr (s.0, (cc (heads, s.1)), s.2)
    ]

before : (bytes front back more : List ℕ) → bytes ≡ front ++ back → bytes ++ more ≡ front ++ (back ++ more)
before bytes front back more e = ap (λ (l : List ℕ). l ++ more) e ∙ append_assoc front back more

behind : (bytes front middle back rest : List ℕ) → bytes ≡ front ++ middle → middle ≡ back ++ rest → bytes ≡ (front ++ back) ++ rest
behind bytes front middle back rest e f = e ∙ ap (λ (l : List ℕ). front ++ l) f ∙ sym (append_assoc front back rest)

-- ---- the same reader

-- under a larger bound
pub widened : {A : Type 0} (read : List ℕ → Result (A × List ℕ) PartFault) (P : A → List ℕ → Type 0) (n m : ℕ) → n ≤ m → Reads read P n → Reads read P m
widened read P n m le r = record {
  takes = r.takes;
  again = r.again;
  begins = r.begins;
  stops = r.stops;
  within = λ x front h. let k : length front ≤ n = r.within x front h in omega arith;
}

-- under another name
pub renamed : {A : Type 0} (read other : List ℕ → Result (A × List ℕ) PartFault) (P : A → List ℕ → Type 0) (n : ℕ) → ((bytes : List ℕ) → read bytes ≡ other bytes) → Reads read P n → Reads other P n
renamed read other P n same r = record {
  takes = λ bytes x rest e. r.takes bytes x rest (same bytes ∙ e);
  again = λ x front rest h. sym (same (front ++ rest)) ∙ r.again x front rest h;
  begins = λ bytes e. r.begins bytes (same bytes ∙ e);
  stops = λ x bytes next more h. sym (same bytes) ∙ r.stops x bytes next more h;
  within = r.within;
}

-- ---- one reader after the other

abbrev pub both_read : {A B C : Type 0} → (List ℕ → Result (A × List ℕ) PartFault) → (A → List ℕ → Result (B × List ℕ) PartFault) → (A → B → C) → List ℕ → Result (C × List ℕ) PartFault
both_read first second whole bytes = first bytes >>= λ p. second p.0 p.1 >>= λ q. Ok (whole p.0 q.0, q.1)

-- a spelling of the whole in its two parts
pub record Parted {A B C : Type 0} (P : A → List ℕ → Type 0) (Q : A → B → List ℕ → Type 0) (whole : A → B → C) (c : C) (bytes : List ℕ) : Type 0 where
  pub a : A
  pub b : B
  pub front : List ℕ
  pub back : List ℕ
  pub is : c ≡ whole a b
  pub bytes_are : bytes ≡ front ++ back
  pub front_spells : P a front
  pub back_spells : Q a b back

-- The spelling of the whole is a front and a back; and behind every front a back can stand.
pub record Joins {A B C : Type 0} (P : A → List ℕ → Type 0) (Q : A → B → List ℕ → Type 0) (whole : A → B → C) (R : C → List ℕ → Type 0) : Type 0 where
  pub joined : (a : A) (b : B) (front back : List ℕ) → P a front → Q a b back → R (whole a b) (front ++ back)
  pub parted : (c : C) (bytes : List ℕ) → R c bytes → Parted P Q whole c bytes
  pub follows : (a : A) → (b : B) × (back : List ℕ) × AreBytes back × Q a b back

module _ {A B C : Type 0} (first : List ℕ → Result (A × List ℕ) PartFault) (second : A → List ℕ → Result (B × List ℕ) PartFault) (whole : A → B → C)
    (P : A → List ℕ → Type 0) (Q : A → B → List ℕ → Type 0) (R : C → List ℕ → Type 0) (n m : ℕ)
    (one : Reads first P n) (two : (a : A) → Reads (second a) (Q a) m) (joins : Joins P Q whole R) where
  both-takes : (bytes : List ℕ) (c : C) (rest : List ℕ) → both_read first second whole bytes ≡ Ok (c, rest) → (front : List ℕ) × (bytes ≡ front ++ rest) × R c front
  both-takes bytes c rest e =
      let p = bind_ok (first bytes) (λ (p : A × List ℕ). second p.0 p.1 >>= λ q. Ok (whole p.0 q.0, q.1)) (c, rest) e in
      let q = bind_ok (second p.0.0 p.0.1) (λ (q : B × List ℕ). Ok (whole p.0.0 q.0, q.1)) (c, rest) p.2 in
      let s = one.takes bytes p.0.0 p.0.1 p.1 in
      let t = (two p.0.0).takes p.0.1 q.0.0 q.0.1 q.1 in
      let bytes_are : bytes ≡ (s.0 ++ t.0) ++ q.0.1 = behind bytes s.0 p.0.1 t.0 q.0.1 s.1 t.1 in
      taken_as R bytes (s.0 ++ t.0) (whole p.0.0 q.0.0, q.0.1) (c, rest) q.2 bytes_are (joins.joined p.0.0 q.0.0 s.0 t.0 s.2 t.2)

  both-again : (c : C) (front rest : List ℕ) → R c front → both_read first second whole (front ++ rest) ≡ Ok (c, rest)
  both-again c front rest h =
      let p = joins.parted c front h in
      let regrouped : front ++ rest ≡ p.front ++ (p.back ++ rest) = before front p.front p.back rest p.bytes_are in
      let s : first (front ++ rest) ≡ Ok (p.a, p.back ++ rest) = ap first regrouped ∙ one.again p.a p.front (p.back ++ rest) p.front_spells in
      let t : second p.a (p.back ++ rest) ≡ Ok (p.b, rest) = (two p.a).again p.b p.back rest p.back_spells in
      rw (s, t) (ap {B = Result (C × List ℕ) PartFault} (λ (z : C). Ok (z, rest)) (sym p.is))

  both-begins : (bytes : List ℕ) → both_read first second whole bytes ≡ Err Short → (c : C) × (next : ℕ) × (more : List ℕ) × AreBytes (next ∷ more) × R c (bytes ++ next ∷ more)
  both-begins bytes e =
      elim (bind_err (first bytes) (λ (p : A × List ℕ). second p.0 p.1 >>= λ q. Ok (whole p.0 q.0, q.1)) Short e) [
        | inl s ↦
            let t = one.begins bytes s in
            let b = joins.follows t.0 in
            (whole t.0 b.0, t.1, t.2 ++ b.1, (t.3.0, are_append t.2 b.1 t.3.1 b.2), subst (λ (l : List ℕ). R (whole t.0 b.0) l) (append_assoc bytes (t.1 ∷ t.2) b.1) (joins.joined t.0 b.0 (bytes ++ t.1 ∷ t.2) b.1 t.4 b.3))
        | inr p ↦
            let s = one.takes bytes p.0.0 p.0.1 p.1 in
            elim (bind_err (second p.0.0 p.0.1) (λ (q : B × List ℕ). Ok (whole p.0.0 q.0, q.1)) Short p.2) [
              | inl u ↦
                  let t = (two p.0.0).begins p.0.1 u in
                  let bytes_are : bytes ++ t.1 ∷ t.2 ≡ s.0 ++ (p.0.1 ++ t.1 ∷ t.2) = before bytes s.0 p.0.1 (t.1 ∷ t.2) s.1 in
                  (whole p.0.0 t.0, t.1, t.2, t.3, subst (λ (l : List ℕ). R (whole p.0.0 t.0) l) (sym bytes_are) (joins.joined p.0.0 t.0 s.0 (p.0.1 ++ t.1 ∷ t.2) s.2 t.4))
              | inr u ↦ absurd (cc (u.2))
            ]
      ]

  both-stops : (c : C) (bytes : List ℕ) (next : ℕ) (more : List ℕ) → R c (bytes ++ next ∷ more) → both_read first second whole bytes ≡ Err Short
  both-stops c bytes next more h =
      let p = joins.parted c (bytes ++ next ∷ more) h in
      elim (split bytes p.front p.back next more p.bytes_are) [
        | inl s ↦
            let short : first bytes ≡ Err Short = one.stops p.a bytes s.0 s.1 (subst (λ (l : List ℕ). P p.a l) s.2 p.front_spells) in
            rw short refl
        | inr s ↦
            let taken : first bytes ≡ Ok (p.a, s.0) = ap first s.1 ∙ one.again p.a p.front s.0 p.front_spells in
            let short : second p.a s.0 ≡ Err Short = (two p.a).stops p.b s.0 next more (subst (λ (l : List ℕ). Q p.a p.b l) s.2 p.back_spells) in
            rw (taken, short) refl
      ]

  both-within : (c : C) (front : List ℕ) → R c front → length front ≤ n + m
  both-within c front h =
      let p = joins.parted c front h in
      let len : length front ≡ length p.front + length p.back = ap length p.bytes_are ∙ length-append p.front p.back in
      let s : length p.front ≤ n = one.within p.a p.front p.front_spells in
      let t : length p.back ≤ m = (two p.a).within p.b p.back p.back_spells in
      omega arith

  pub both : Reads (both_read first second whole) R (n + m)
  both = record { takes = both-takes; again = both-again; begins = both-begins; stops = both-stops; within = both-within }

-- ---- the reader of no byte

abbrev pub nothing_at : List ℕ → Result (Unit {0} × List ℕ) PartFault
nothing_at bytes = Ok (tt, bytes)

abbrev pub IsNothing : Unit {0} → List ℕ → Type 0
IsNothing x bytes = bytes ≡ []

pub nothing : Reads nothing_at IsNothing 0
nothing = record {
  takes = λ bytes x rest e. ([], ap (λ (p : Unit {0} × List ℕ). p.1) (ok_is (tt, bytes) (x, rest) e), refl);
  again = λ x front rest h. rw h refl;
  begins = λ bytes e. absurd cc;
  stops = λ x bytes next more h. absurd (not_empty bytes next more h);
  within = λ x front h. rw h (omega arith);
}

-- ---- a byte

abbrev pub IsByte : ℕ → List ℕ → Type 0
IsByte x bytes = bytes ≡ x ∷ []

byte-takes : (bytes : List ℕ) (x : ℕ) (rest : List ℕ) → next_byte bytes ≡ Ok (x, rest) → (front : List ℕ) × (bytes ≡ front ++ rest) × IsByte x front
byte-takes [] x rest e = absurd cc
byte-takes (b ∷ bytes) x rest e = taken_as IsByte (b ∷ bytes) (b ∷ []) (b, bytes) (x, rest) e refl refl

byte-begins : (bytes : List ℕ) → next_byte bytes ≡ Err Short → (x : ℕ) × (next : ℕ) × (more : List ℕ) × AreBytes (next ∷ more) × IsByte x (bytes ++ next ∷ more)
byte-begins [] e = (0, 0, [], one_zero, refl)
byte-begins (b ∷ bytes) e = absurd cc

pub byte-stops : (x : ℕ) (bytes : List ℕ) (next : ℕ) (more : List ℕ) → IsByte x (bytes ++ next ∷ more) → next_byte bytes ≡ Err Short
byte-stops x [] next more h = refl
byte-stops x (b ∷ bytes) next more h =
    let tails : bytes ++ next ∷ more ≡ [] = cc in
    absurd (not_empty bytes next more tails)

pub byte : Reads next_byte IsByte 1
byte = record {
  takes = byte-takes;
  again = λ x front rest h. rw h refl;
  begins = byte-begins;
  stops = byte-stops;
  within = λ x front h. rw h (omega arith);
}

-- ---- readers made of one

-- of no byte, which gives always the same
pub always : {A : Type 0} (x : A) (P : A → List ℕ → Type 0) → P x [] → ((y : A) (bytes : List ℕ) → P y bytes → (y ≡ x) × (bytes ≡ [])) → Reads (λ bytes. Ok (x, bytes)) P 0
always {A} x P here alone = record {
  takes = λ bytes y rest e. taken_as P bytes [] (x, bytes) (y, rest) e refl here;
  again = λ y front rest h. let o = alone y front h in rw (o.1, o.0) refl;
  begins = λ bytes e. absurd cc;
  stops = λ y bytes next more h. absurd (not_empty bytes next more (alone y (bytes ++ next ∷ more) h).1);
  within = λ y front h. rw ((alone y front h).1) (omega arith);
}

-- of the same bytes, spelled in other words
pub respelled : {A : Type 0} (read : List ℕ → Result (A × List ℕ) PartFault) (P Q : A → List ℕ → Type 0) (n : ℕ) → ((x : A) (bytes : List ℕ) → P x bytes → Q x bytes) → ((x : A) (bytes : List ℕ) → Q x bytes → P x bytes) → Reads read P n → Reads read Q n
respelled read P Q n to from r = record {
  takes = λ bytes x rest e. let t = r.takes bytes x rest e in (t.0, t.1, to x t.0 t.2);
  again = λ x front rest h. r.again x front rest (from x front h);
  begins = λ bytes e. let t = r.begins bytes e in (t.0, t.1, t.2, t.3, to t.0 (bytes ++ t.1 ∷ t.2) t.4);
  stops = λ x bytes next more h. r.stops x bytes next more (from x (bytes ++ next ∷ more) h);
  within = λ x front h. r.within x front (from x front h);
}

-- of the same bytes, which gives a function of what was read
abbrev pub mapped_read : {A B : Type 0} → (List ℕ → Result (A × List ℕ) PartFault) → (A → B) → List ℕ → Result (B × List ℕ) PartFault
mapped_read read f bytes = read bytes >>= λ p. Ok (f p.0, p.1)

pub mapped : {A B : Type 0} (read : List ℕ → Result (A × List ℕ) PartFault) (f : A → B) (P : A → List ℕ → Type 0) (Q : B → List ℕ → Type 0) (n : ℕ)
    → ((a : A) (bytes : List ℕ) → P a bytes → Q (f a) bytes) → ((b : B) (bytes : List ℕ) → Q b bytes → (a : A) × (b ≡ f a) × P a bytes)
    → Reads read P n → Reads (mapped_read read f) Q n
mapped {A} {B} read f P Q n to from r = widened _ Q (n + 0) n (omega arith) (both read (λ _. nothing_at) (λ x _. f x) P (λ _. IsNothing) Q n 0 r (λ _. nothing) joins)
  where
    joins : Joins P (λ _. IsNothing) (λ x _. f x) Q
    joins = record {
      joined = λ a b front back p q. subst (λ (l : List ℕ). Q (f a) l) (sym (ap (λ (l : List ℕ). front ++ l) q ∙ append-nil front)) (to a front p);
      parted = λ c bytes h. let t = from c bytes h in record { a = t.0; b = tt; front = bytes; back = []; is = t.1; bytes_are = sym (append-nil bytes); front_spells = t.2; back_spells = refl };
      follows = λ a. (tt, [], tt, refl);
    }

-- ---- a reader that the first one chooses

abbrev pub after_read : {A C : Type 0} → (List ℕ → Result (A × List ℕ) PartFault) → (A → List ℕ → Result (C × List ℕ) PartFault) → List ℕ → Result (C × List ℕ) PartFault
after_read first second bytes = first bytes >>= λ p. second p.0 p.1

paired_again : {C : Type 0} (r : Result (C × List ℕ) PartFault) → (r >>= λ q. Ok (q.0, q.1)) ≡ r
paired_again (Ok q) = refl
paired_again (Err e) = refl

both_is_after : {A C : Type 0} (second : A → List ℕ → Result (C × List ℕ) PartFault) (r : Result (A × List ℕ) PartFault) → (r >>= λ p. second p.0 p.1 >>= λ q. Ok (q.0, q.1)) ≡ (r >>= λ p. second p.0 p.1)
both_is_after second (Ok p) = paired_again (second p.0 p.1)
both_is_after second (Err e) = refl

-- the second part alone is what is read
abbrev pub second_of : {A C : Type 0} → A → C → C
second_of a c = c

pub after : {A C : Type 0} (first : List ℕ → Result (A × List ℕ) PartFault) (second : A → List ℕ → Result (C × List ℕ) PartFault) (P : A → List ℕ → Type 0) (Q : A → C → List ℕ → Type 0) (R : C → List ℕ → Type 0) (n m : ℕ)
    → Reads first P n → ((a : A) → Reads (second a) (Q a) m) → Joins P Q second_of R → Reads (after_read first second) R (n + m)
after first second P Q R n m one two joins =
    renamed (both_read first second second_of) (after_read first second) R (n + m) (λ bytes. both_is_after second (first bytes)) (both first second second_of P Q R n m one two joins)

-- ---- tests

pub eqb-is : (a b : ℕ) → nat_eq a b ≡ true → a ≡ b
eqb-is a b e = grind arith

pub eqb-isnt : (a b : ℕ) → nat_eq a b ≡ false → a ≢ b
eqb-isnt a b e = grind arith

-- ---- a byte of three fields

pub fields_of : (m : ℕ) → m ≡ 64 * (m / 64) + 8 * (m / 8 % 8) + m % 8
fields_of m = omega arith

pub record ThreeFields (m high middle low : ℕ) : Type 0 where
  pub high_is : m / 64 ≡ high
  pub middle_is : m / 8 % 8 ≡ middle
  pub low_is : m % 8 ≡ low

pub three_fields : (high middle low : ℕ) → middle < 8 → low < 8 → ThreeFields (64 * high + 8 * middle + low) high middle low
three_fields high middle low small_middle small_low = record { high_is = omega arith; middle_is = omega arith; low_is = omega arith }
