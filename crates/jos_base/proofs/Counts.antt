-- How often a frame is named, after an entry changed: a frame that an entry names is counted, so that one that is not
-- counted is named by none.
use Rattle.std.proofs.Common.{◌≡◌, ◌≢◌, ◌+◌, ◌<◌, ◌≤◌, ◌==◌, ◌⊎◌, inl, inr, ℕ, Bool, true, false, cond}
use Rattle.std.proofs.Common.{Option, Some, None, refl, ap, ◌∙◌, arith}
use Rattle.std.proofs.lemmas.Bool.Decides.{nat_tests}
use Rattle.jos_base.specs.Words.{upd}
use Rattle.jos_base.specs.Reach.{Entry}
use Rattle.jos_base.specs.Counting.{Entries, total, named, page_count, frame_limit, page_limit}
use Rattle.jos_base.specs.SpacesState.{put}
use Rattle.jos_base.proofs.Maps.{upd-at, upd-other}
use Rattle.jos_base.proofs.Sums.{total-change, total-le, total-none}

module _ (entries : Entries) (d p : ℕ) (entry : Option Entry) (frame : ℕ) (below_d : d < frame_limit) (below_p : p < page_limit) where
  abbrev row : ℕ → ℕ
  row q = total page_limit (λ i. named frame (entries q i))

  abbrev row_put : ℕ → ℕ
  row_put q = total page_limit (λ i. named frame (put entries d p entry q i))

  row_at : row_put d + named frame (entries d p) ≡ row d + named frame entry
  row_at =
      let same : put entries d p entry d ≡ upd (entries d) p entry = upd-at entries d (upd (entries d) p entry) in
      let change = total-change page_limit p (λ i. named frame (upd (entries d) p entry i)) (λ i. named frame (entries d i)) below_p
      (λ q ne. ap (named frame) (upd-other (entries d) p entry q ne)) in
      let here : named frame (upd (entries d) p entry p) ≡ named frame entry = ap (named frame) (upd-at (entries d) p entry) in
      let sums : row_put d ≡ total page_limit (λ i. named frame (upd (entries d) p entry i)) = ap (λ (e : ℕ → Option Entry). total page_limit (λ i. named frame (e i))) same in
      omega (arith, change, here, sums)

  -- the count of a frame after one entry changed
  pub page_count-put : page_count (put entries d p entry) frame + named frame (entries d p) ≡ page_count entries frame + named frame entry
  unfolding page_count
  page_count-put =
      let change = total-change frame_limit d row_put row below_d (λ q ne. ap (λ (e : ℕ → Option Entry). total page_limit (λ i. named frame (e i))) (upd-other entries d (upd (entries d) p entry) q ne)) in
      let at = row_at in
      omega (arith, change, at)

-- nothing is counted where nothing is named
pub page_count-none : (entries : Entries) (frame : ℕ) → ((d p : ℕ) → named frame (entries d p) ≡ 0) → page_count entries frame ≡ 0
unfolding page_count
page_count-none entries frame none = total-none frame_limit _ (λ d lt. total-none page_limit _ (λ p below. none d p))

pub page_count-same : (e f : Entries) (frame : ℕ) → ((d p : ℕ) → named frame (e d p) ≡ named frame (f d p)) → page_count e frame ≡ page_count f frame
unfolding page_count
page_count-same e f frame same = λ i. total frame_limit (λ d. total page_limit (λ p. same d p i))

named_self : (entry : Entry) → named entry.frame (Some entry) ≡ 1
named_self entry = let same : (entry.frame == entry.frame) ≡ true = grind (arith, nat_tests) in rw same refl

-- a frame that an entry names is counted
pub page_count-some : (entries : Entries) (d p : ℕ) (entry : Entry) → d < frame_limit → p < page_limit → entries d p ≡ Some entry → 1 ≤ page_count entries entry.frame
page_count-some entries d p entry below_d below_p is =
    let law = page_count-put entries d p None entry.frame below_d below_p in
    let one : named entry.frame (entries d p) ≡ 1 = ap (named entry.frame) is ∙ named_self entry in
    omega (arith, law, one)

pub named_is : (x : ℕ) (entry : Entry) → ((x ≡ entry.frame) × (named x (Some entry) ≡ 1)) ⊎ ((x ≢ entry.frame) × (named x (Some entry) ≡ 0))
named_is x entry = by_test (entry.frame == x) refl
  where
    by_test : (b : Bool) → (entry.frame == x) ≡ b → ((x ≡ entry.frame) × (◌≡◌ {A = ℕ} (cond b 1 0) 1)) ⊎ ((x ≢ entry.frame) × (◌≡◌ {A = ℕ} (cond b 1 0) 0))
    by_test true e = inl (grind (arith, nat_tests), refl)
    by_test false e = inr (grind (arith, nat_tests), refl)

named_le : (x : ℕ) (o : Option Entry) → named x o ≤ 1
named_le x None = omega arith
named_le x (Some entry) = elim (named_is x entry) [ inl h ↦ let e = h.1 in omega (arith, e) | inr h ↦ let e = h.1 in omega (arith, e) ]

-- counts fit 64 bits
pub page_count-le : (entries : Entries) (x : ℕ) → page_count entries x ≤ 64_088_965_120
unfolding page_count frame_limit page_limit
page_count-le entries x =
    total-le 65536 977920 (λ d. total 0xeec00 (λ p. named x (entries d p))) (λ d. total-le 0xeec00 1 (λ p. named x (entries d p)) (λ p. named_le x (entries d p)))
