-- Messages: what an environment waits for, and what came. A word and, with it, perhaps a page go from a sender to one that
-- waits for them.
-- (MIT 6.828, lab 4, and struct Env of inc/env.h; that a receiver may wait for one sender alone is this system's own.)
use Rattle.std.specs.Prelude.{ℕ, ◌==◌, ◌&&◌, ◌||◌, Bool, true, false, Option, Some, None, if◌then◌else◌}

pub record Rendezvous : Type 0 where
  -- does it wait?
  pub receiving : Bool
  -- the id of the sender that is waited for; 0 is any
  pub wanted : ℕ
  -- where a page is to stand; at UTOP or above none is wanted
  pub destination : ℕ
  -- what came last: the word, its sender's id, and the bits of the page's entry or, where none came, 0
  pub value : ℕ
  pub sender : ℕ
  pub perm : ℕ

abbrev pub no_rendezvous : Rendezvous
no_rendezvous = record {
  receiving = false;
  wanted = 0;
  destination = 0;
  value = 0;
  sender = 0;
  perm = 0;
}

-- it waits for this sender, or for any
abbrev pub wanting : Rendezvous → ℕ → ℕ → Rendezvous
wanting r destination wanted = record r { receiving = true; destination = destination; wanted = wanted }

-- is this sender waited for?
abbrev pub accepts : Rendezvous → ℕ → Bool
accepts r sender = r.receiving && ((r.wanted == 0) || (r.wanted == sender))

-- the word has come, and it waits no longer
abbrev pub delivered : Rendezvous → ℕ → ℕ → ℕ → Rendezvous
delivered r sender value perm = record r { receiving = false; sender = sender; value = value; perm = perm }

-- None where the sender is not waited for
unfoldable pub offered : Rendezvous → ℕ → ℕ → ℕ → Option Rendezvous
offered r sender value perm = if accepts r sender then Some (delivered r sender value perm) else None
