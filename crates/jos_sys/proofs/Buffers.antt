-- One turn of the loops over a program's buffer: that which reads it, and that which reaches for its bytes.
use Rattle.std.proofs.Common.{◌≡◌, ℕ, ◌+◌, ◌-◌, ◌<◌, ◌≤◌, ◌%◌, ◌^◌, suc, List, [], ◌∷◌, ◌++◌, length, Result, Ok, Err}
use Rattle.std.proofs.Common.{refl, ap, ◌∙◌, sym, arith, append_assoc, length-append}
use Rattle.std.proofs.lemmas.List.{append-nil}
use Rattle.jos_base.specs.declared.memory.PageFault.{PageFault}
use Rattle.jos_base.specs.declared.memory.Access.TheVariants.{Read}
use Rattle.jos_base.specs.Reach.{bytes_read, then_read, front_added}
use Rattle.jos_base.specs.SpacesState.{SpacesState, directories}
use Rattle.jos_base.specs.UserMemory.{touched, all_touched}

-- these bytes, and then those that are read
abbrev pub joined : List ℕ → Result (List ℕ) PageFault → Result (List ℕ) PageFault
joined bytes (Ok more) = Ok (bytes ++ more)
joined bytes (Err fault) = Err fault

-- so many bytes are read, and with the rest they are what is read in all
pub record IsReading (read : ℕ → Result ℕ PageFault) (len : ℕ) (whole : Result (List ℕ) PageFault) (offset at : ℕ) (bytes : List ℕ) : Type 0 where
  pub count : length bytes ≡ offset
  pub rest : joined bytes (bytes_read read at (len - offset)) ≡ whole

joined-front_added : (bytes : List ℕ) (byte : ℕ) (rest : Result (List ℕ) PageFault) →
    joined bytes (front_added byte rest) ≡ joined (bytes ++ byte ∷ []) rest
joined-front_added bytes byte (Ok more) = ap (λ all. Ok all) (sym (append_assoc bytes (byte ∷ []) more))
joined-front_added bytes byte (Err fault) = refl

joined-nil : (rest : Result (List ℕ) PageFault) → joined [] rest ≡ rest
joined-nil (Ok more) = refl
joined-nil (Err fault) = refl

pub at_start : {read : ℕ → Result ℕ PageFault} {len at : ℕ} → IsReading read len (bytes_read read at len) 0 at []
at_start {len = len} = record { count = refl; rest = let e : len - 0 ≡ len = omega arith in rw e (joined-nil _) }

module _ {read : ℕ → Result ℕ PageFault} {len : ℕ} {whole : Result (List ℕ) PageFault} {offset at : ℕ} {bytes : List ℕ} where
  unrolled : IsReading read len whole offset at bytes → offset < len →
      joined bytes (then_read (read at) (bytes_read read ((at + 1) % 2 ^ 32) (len - (offset + 1)))) ≡ whole
  unfolding bytes_read
  unrolled h below =
      let e : len - offset ≡ suc (len - (offset + 1)) = omega arith in rw e at h.rest

  pub on_fault : {fault : PageFault} → IsReading read len whole offset at bytes → offset < len → Err fault ≡ read at → whole ≡ Err fault
  on_fault h below e = sym (rw (← e) at (unrolled h below))

  pub on_byte : {byte : ℕ} {longer : List ℕ} → IsReading read len whole offset at bytes → offset < len →
      Ok byte ≡ read at → longer ≡ bytes ++ byte ∷ [] → IsReading read len whole (offset + 1) ((at + 1) % 2 ^ 32) longer
  on_byte {byte = byte} h below e l = record {
    count = ap length l ∙ length-append bytes (byte ∷ []) ∙ ap (λ n. n + 1) h.count;
    rest = rw (← l) at (sym (joined-front_added bytes byte _) ∙ rw (← e) at (unrolled h below));
  }

  pub at_end : IsReading read len whole offset at bytes → len ≤ offset → whole ≡ Ok bytes
  unfolding bytes_read
  at_end h past =
      let e : len - offset ≡ 0 = omega arith in sym (rw (e, append-nil) at h.rest)

-- so many bytes are reached
pub record IsTouching (first now : SpacesState) (space va len offset at : ℕ) : Type 0 where
  pub rest : all_touched now space at (len - offset) ≡ all_touched first space va len
  pub directories : directories now ≡ directories first

module _ {first : SpacesState} {space va len : ℕ} where
  pub touching_start : IsTouching first first space va len 0 va
  touching_start = record { rest = let e : len - 0 ≡ len = omega arith in ap (all_touched first space va) e; directories = refl }

  module _ {now : SpacesState} {offset at : ℕ} where
    pub touching_more : (next : SpacesState) → IsTouching first now space va len offset at → offset < len → next ≡ touched now space at Read
        → directories next ≡ directories now → IsTouching first next space va len (offset + 1) ((at + 1) % 2 ^ 32)
    unfolding all_touched
    touching_more next h below is kept = record {
      rest =
          let e : len - offset ≡ suc (len - (offset + 1)) = omega arith in
          ap (λ z. all_touched z space ((at + 1) % 2 ^ 32) (len - (offset + 1))) is ∙ rw e at h.rest;
      directories = kept ∙ h.directories;
    }

    pub touching_end : IsTouching first now space va len offset at → len ≤ offset → now ≡ all_touched first space va len
    unfolding all_touched
    touching_end h past = let e : len - offset ≡ 0 = omega arith in rw e at h.rest
