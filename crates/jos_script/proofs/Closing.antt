-- The descriptors that a child closes.
use Rattle.std.proofs.Common.{◌≡◌, ℕ, ◌+◌, ◌-◌, ◌<◌, suc, arith, refl}
use Rattle.jos_script.specs.declared.numbers.TheConstants.{DESCRIPTORS}
use Rattle.jos_script.specs.declared.answer.Answer.{Answer}
use Rattle.jos_script.specs.ShellScript.{closes, finishes, answered}

-- behind each but the last comes the next
pub one-closed : (fd id : ℕ) (answer : Answer) → fd < DESCRIPTORS → finishes (fd + 1) id ≡ answered (finishes fd id) answer
unfolding finishes closes
one-closed fd id answer within =
    let more : DESCRIPTORS - fd ≡ suc (DESCRIPTORS - (fd + 1)) = omega arith in
    rw more refl
