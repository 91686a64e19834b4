-- The records of the environments, over the lists.
use Rattle.std.proofs.Common.{◌≡◌, ◌∙◌, ◌<◌, ℕ, List, [], length, refl, arith, length-set}
use Rattle.std.specs.Prelude.{slice_set}
use Rattle.jos_base.specs.declared.numbers.TheConstants.{NENV}
use Rattle.jos_base.specs.Words.{upd}
use Rattle.jos_space.specs.Frames.{Lists, AreSound, state, records}
use Rattle.jos_base.proofs.Lists.{get_or-set}

module _ (l : Lists) (ok : AreSound l) (slot : ℕ) (below : slot < NENV) where
  pub slot_below : slot < length l.records
  slot_below = let len = ok.records in omega (arith, len, below)

  pub record_sound : (words : List ℕ) → AreSound (record l { records = slice_set l.records slot words })
  record_sound words = record {
    words = ok.words;
    bytes = ok.bytes;
    counts = ok.counts;
    order = ok.order;
    records = length-set l.records slot words ∙ ok.records;
    sound = ok.sound;
  }

  pub record_set : (words : List ℕ) → records (record l { records = slice_set l.records slot words }) ≡ upd (records l) slot words
  record_set words = λ i. λ n. get_or-set l.records slot words [] slot_below n i

-- they are no part of the state
pub record_apart : (l : Lists) (all : List (List ℕ)) → state (record l { records = all }) ≡ state l
record_apart l all = refl
