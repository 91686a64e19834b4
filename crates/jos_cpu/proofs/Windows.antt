-- An instruction that stands in a window is what is fetched.
use Rattle.std.proofs.Common.{◌≡◌, ℕ, ◌+◌, ◌≤◌, ◌%◌, ◌^◌, zero, suc, List, [], ◌∷◌, ◌++◌, length, take, drop, Ok}
use Rattle.std.proofs.Common.{refl, ap, sym, subst, ◌∙◌, append_assoc, arith, length-append}
use Rattle.std.specs.Prelude.{min}
use Rattle.std.proofs.lemmas.List.{append-nil, take-append-drop, get_or-take, length-take}
use Rattle.std.proofs.Math.Seq.{get_or-append_seam}
use Rattle.jos_isa.specs.declared.instruction.Insn.{Insn}
use Rattle.jos_isa.specs.declared.decoder.Decoded.TheVariants.{Found, Short}
use Rattle.jos_isa.specs.Decoding.{opcode_at, instruction_at, decoded}
use Rattle.jos_isa.specs.Spelling.{Spells}
use Rattle.jos_isa.specs.ClauseWords.{IfFound}
use Rattle.jos_isa.specs.declared.decoder.Decoded.{Decoded}
use Rattle.jos_isa.proofs.Instructions.{instructions, found, only, only_short}
use Rattle.jos_cpu.specs.declared.fetching.Fetched.TheVariants.{Instruction}
use Rattle.jos_cpu.specs.Memory.{Memory, IsStill, StandAt, probed}
use Rattle.jos_cpu.specs.Fetch.{byte_reached, fetched_from, fetched_at}

still_byte : {M : Type 0} (t : Memory M) (m : M) (va byte : ℕ) → IsStill t m va byte →
    byte_reached t m va ≡ record { memory = m; byte = Ok byte }
unfolding byte_reached probed
still_byte t m va byte s = rw (s.allowed, s.reached, s.byte_is) refl

pub within : (insn : Insn) (bytes : List ℕ) → Spells insn bytes → length bytes ≤ 12
within insn bytes h = instructions.within insn bytes h

module _ {M : Type 0} (t : Memory M) (m : M) (ip : ℕ) (insn : Insn) where
  -- with the front read
  fetched_after : (front back more : List ℕ) (next room : ℕ) → StandAt t m ip (front ++ (next ∷ back ++ more)) → Spells insn (front ++ next ∷ back) →
      length front + room ≡ 15 →
      fetched_from t ip room m front ≡ record { memory = m; fetched = Instruction insn (length (front ++ next ∷ back)) }
  unfolding fetched_from
  fetched_after front back more next zero stand spells full =
      let w : length (front ++ next ∷ back) ≤ 12 = within insn (front ++ next ∷ back) spells in
      let l : length (front ++ next ∷ back) ≡ length front + length (next ∷ back) = length-append front (next ∷ back) in
      absurd (omega arith)
  fetched_after front [] more next (suc room) stand spells full =
      let l : length (front ++ (next ∷ [] ++ more)) ≡ length front + length (next ∷ [] ++ more) = length-append front (next ∷ [] ++ more) in
      let s : IsStill t m ((ip + length front) % 2 ^ 32) next =
      subst (λ (b : ℕ). IsStill t m ((ip + length front) % 2 ^ 32) b) (get_or-append_seam front next ([] ++ more) 0) (stand (length front) (omega arith)) in
      let d : decoded (front ++ next ∷ []) ≡ Found insn (length (front ++ next ∷ [])) = only (front ++ next ∷ []) insn (front ++ next ∷ []) [] (sym (append-nil (front ++ next ∷ []))) spells in
      rw (still_byte t m ((ip + length front) % 2 ^ 32) next s, d) refl
  fetched_after front (second ∷ back) more next (suc room) stand spells full =
      let l : length (front ++ (next ∷ (second ∷ back) ++ more)) ≡ length front + length (next ∷ (second ∷ back) ++ more) = length-append front (next ∷ (second ∷ back) ++ more) in
      let s : IsStill t m ((ip + length front) % 2 ^ 32) next =
      subst (λ (b : ℕ). IsStill t m ((ip + length front) % 2 ^ 32) b) (get_or-append_seam front next ((second ∷ back) ++ more) 0) (stand (length front) (omega arith)) in
      let along : (front ++ next ∷ []) ++ second ∷ back ≡ front ++ next ∷ second ∷ back = append_assoc front (next ∷ []) (second ∷ back) in
      let along_more : (front ++ next ∷ []) ++ (second ∷ back ++ more) ≡ front ++ (next ∷ (second ∷ back) ++ more) = append_assoc front (next ∷ []) (second ∷ back ++ more) in
      let spells_on : Spells insn ((front ++ next ∷ []) ++ second ∷ back) = subst (λ (b : List ℕ). Spells insn b) (sym along) spells in
      let d : decoded (front ++ next ∷ []) ≡ Short = only_short (front ++ next ∷ []) insn second back spells_on in
      let longer : length (front ++ next ∷ []) ≡ length front + 1 = length-append front (next ∷ []) in
      let rest : fetched_from t ip room m (front ++ next ∷ []) ≡ record { memory = m; fetched = Instruction insn (length ((front ++ next ∷ []) ++ second ∷ back)) } =
      fetched_after (front ++ next ∷ []) back more second room (subst (λ (b : List ℕ). StandAt t m ip b) (sym along_more) stand) spells_on (omega arith) in
      rw (still_byte t m ((ip + length front) % 2 ^ 32) next s, d) (rest ∙ ap (λ (b : List ℕ). record { memory = m; fetched = Instruction insn (length b) }) along)

no_bytes : decoded [] ≡ Short
unfolding decoded instruction_at opcode_at
no_bytes = refl

found_same : (insn : Insn) (n k : ℕ) → Found insn n ≡ Found insn k → n ≡ k
found_same insn n k e = cc

module _ {M : Type 0} (t : Memory M) (m : M) (ip : ℕ) (insn : Insn) where
  fetched_front : (front more : List ℕ) → StandAt t m ip (front ++ more) → Spells insn front →
      fetched_at t m ip ≡ record { memory = m; fetched = Instruction insn (length front) }
  unfolding fetched_at
  fetched_front [] more stand spells =
      let d : decoded [] ≡ Found insn 0 = only [] insn [] [] refl spells in
      let e : Short ≡ Found insn 0 = sym no_bytes ∙ d in
      absurd cc
  fetched_front (next ∷ back) more stand spells = fetched_after t m ip insn [] back more next 15 stand spells (omega arith)

  pub fetched_in : (whole : List ℕ) (len : ℕ) → StandAt t m ip whole → Spells insn (take len whole) → Found insn len ≡ decoded whole →
      fetched_at t m ip ≡ record { memory = m; fetched = Instruction insn len }
  fetched_in whole len stand spells found =
      let parted : take len whole ++ drop len whole ≡ whole = take-append-drop len whole in
      let n : length (take len whole) ≡ len = found_same insn (length (take len whole)) len (sym (only whole insn (take len whole) (drop len whole) (sym parted) spells) ∙ sym found) in
      fetched_front (take len whole) (drop len whole) (subst (λ (b : List ℕ). StandAt t m ip b) (sym parted) stand) spells
      ∙ ap (λ (k : ℕ). record { memory = m; fetched = Instruction insn k }) n

pub short_enough : (insn : Insn) (whole : List ℕ) (len : ℕ) → Spells insn (take len whole) → Found insn len ≡ decoded whole → len ≤ 12
short_enough insn whole len spells found =
    let parted : take len whole ++ drop len whole ≡ whole = take-append-drop len whole in
    let n : length (take len whole) ≡ len = found_same insn (length (take len whole)) len (sym (only whole insn (take len whole) (drop len whole) (sym parted) spells) ∙ sym found) in
    let w : length (take len whole) ≤ 12 = within insn (take len whole) spells in
    omega arith

-- what the first bytes of a window are known to be
pub fetched_known : {M : Type 0} (t : Memory M) (m : M) (ip : ℕ) (insn : Insn) (whole : List ℕ) (len n : ℕ) →
    StandAt t m ip whole → decoded (take n whole) ≡ Found insn len →
    fetched_at t m ip ≡ record { memory = m; fetched = Instruction insn len }
fetched_known t m ip insn whole len n stand d =
    fetched_in t m ip insn (take n whole) len
    (λ i below. subst (λ (b : ℕ). IsStill t m ((ip + i) % 2 ^ 32) b) (sym (get_or-take n whole i 0 (let l : length (take n whole) ≡ min n (length whole) = length-take n whole in omega arith)))
    (stand i (let l : length (take n whole) ≡ min n (length whole) = length-take n whole in omega arith)))
    (subst (λ (x : Decoded). IfFound x (λ insn len. (len ≤ length (take n whole)) × Spells insn (take len (take n whole)))) d (found (take n whole))).1
    (sym d)
