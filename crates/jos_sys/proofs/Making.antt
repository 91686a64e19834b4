-- The making of an environment, out of a slot and a space.
use Rattle.std.proofs.Common.{◌≡◌, ◌≢◌, ◌∙◌, ℕ, true, false, List, [], ◌∷◌, Some, None, Ok, Err, refl, sym, ap}
use Rattle.jos_base.specs.declared.errno.Errno.TheVariants.{NoMem, NoFreeEnv}
use Rattle.jos_base.specs.Words.{upd}
use Rattle.jos_base.specs.SpacesState.{SpacesState, directories, created}
use Rattle.jos_base.specs.Environments.{Environments, Slot, with_slot, is_live, new_slot, next_id, allotted, allotted_from}
use Rattle.jos_base.specs.KernelState.{KernelState, HasSpaces}
use Rattle.jos_base.specs.SystemCalls.{environment_made}
use Rattle.jos_sys.proofs.Keeping.{keeps_made}
use Rattle.jos_base.proofs.Maps.{upd-at, upd-other}

module _ (k : KernelState) (parent : ℕ) where
  pub no_slot : allotted k.environments parent ≡ None → environment_made k parent ≡ Err NoFreeEnv
  unfolding environment_made
  no_slot none = rw none refl

  module _ (n : ℕ) (f : Environments) (slot : allotted k.environments parent ≡ Some (n, f)) where
    pub no_space : created k.spaces ≡ None → environment_made k parent ≡ Err NoMem
    unfolding environment_made
    no_space none = rw (slot, none) refl

    pub made_is : (d : ℕ) (t : SpacesState) (g : Environments) → created k.spaces ≡ Some (d, t)
        → g ≡ with_slot f n (record (f.slots n) { directory = d }) → environment_made k parent ≡ Ok (n, record k { spaces = t; environments = g })
    unfolding environment_made
    made_is d t g space now = rw (slot, space) (λ i. Ok (n, record k { spaces = t; environments = sym now i }))

slots_from : (e f : Environments) (parent n : ℕ) (free : List ℕ) → allotted_from e parent free ≡ Some (n, f)
    → f.slots ≡ upd e.slots n (new_slot (next_id (e.slots n).id n) parent)
slots_from e f parent n [] slot = cc
slots_from e f parent n (m ∷ rest) slot =
    let pair : ◌≡◌ {A = ℕ × Environments} (m, record { slots = upd e.slots m (new_slot (next_id (e.slots m).id m) parent); free_slots = rest }) (n, f) = cc in
    ap (λ p. p.1.slots) (sym pair) ∙ ap (λ p. upd e.slots p.0 (new_slot (next_id (e.slots p.0).id p.0) parent)) pair

module _ (e f : Environments) (parent n : ℕ) (slot : allotted e parent ≡ Some (n, f)) where
  slots_are : f.slots ≡ upd e.slots n (new_slot (next_id (e.slots n).id n) parent)
  unfolding allotted
  slots_are = slots_from e f parent n e.free_slots slot

  allotted_live : is_live (f.slots n) ≡ true
  allotted_live = ap (λ s. is_live (s n)) slots_are ∙ ap is_live (upd-at e.slots n _)

  module _ (g : Environments) (d : ℕ) (now : g ≡ with_slot f n (record (f.slots n) { directory = d })) where
    at_n : g.slots n ≡ record (f.slots n) { directory = d }
    at_n = ap (λ z. z.slots n) now ∙ upd-at f.slots n _

    pub elsewhere : (q : ℕ) → q ≢ n → g.slots q ≡ e.slots q
    elsewhere q ne = ap (λ z. z.slots q) now ∙ upd-other f.slots n _ q ne ∙ ap (λ z. z q) slots_are ∙ upd-other e.slots n _ q ne

    made_live : is_live (g.slots n) ≡ true
    made_live = ap is_live at_n ∙ allotted_live

    pub made_keeps : (s t : SpacesState) → HasSpaces s e → is_live (e.slots n) ≡ false → directories s d ≡ false
        → directories t ≡ upd (directories s) d true → HasSpaces t g
    made_keeps s t keeps was_free was_none used =
        keeps_made s t e g keeps n elsewhere d made_live (ap (λ (z : Slot). z.directory) at_n) was_none used was_free
