-- A probe as a loop over bytes, for anyone who gives a memory: what is left of it is the whole probe.
use Rattle.std.proofs.Common.{◌≡◌, ℕ, suc, true, false, None, Some, refl, sym, ap, ◌∙◌}
use Rattle.jos_base.specs.declared.memory.Access.{Access}
use Rattle.jos_base.specs.declared.memory.Access.TheVariants.{Read}
use Rattle.jos_cpu.specs.Memory.{Memory, after, probed, all_allowed}

pub record IsProbing {M : Type 0} (t : Memory M) (old : M) (va len : ℕ) (access : Access) (at left : ℕ) (m : M) : Type 0 where
  pub rest : probed t old va len access ≡ probed t m at left access
  pub exact : all_allowed (t.allowed old) va len access ≡ all_allowed (t.allowed old) at left access
  pub readable : all_allowed (t.allowed old) va len Read ≡ all_allowed (t.allowed old) at left Read
  pub stays : t.allowed m ≡ t.allowed old

pub at_start : {M : Type 0} (t : Memory M) (old : M) (va len left : ℕ) (access : Access) → left ≡ len → IsProbing t old va len access va left old
at_start t old va len left access e = record {
  rest = ap (λ n. probed t old va n access) (sym e);
  exact = ap (λ n. all_allowed (t.allowed old) va n access) (sym e);
  readable = ap (λ n. all_allowed (t.allowed old) va n Read) (sym e);
  stays = refl;
}

module _ {M : Type 0} {t : Memory M} {old : M} {va len : ℕ} {access : Access} {at left : ℕ} {m : M} (h : IsProbing t old va len access at left m) where
  pub on_byte : (later : ℕ) → left ≡ suc later → t.allowed m at access ≡ true → t.allowed m at Read ≡ true →
      t.allowed (t.reached m at access) ≡ t.allowed m →
      IsProbing t old va len access (after at) later (t.reached m at access)
  unfolding probed all_allowed
  on_byte later e allowed readable stays = record {
    rest = rw (e, allowed) at h.rest;
    exact = rw (e, sym (ap (λ f. f at access) h.stays) ∙ allowed) at h.exact;
    readable = rw (e, sym (ap (λ f. f at Read) h.stays) ∙ readable) at h.readable;
    stays = stays ∙ h.stays;
  }

  pub on_refused : (later : ℕ) → left ≡ suc later → t.allowed m at access ≡ false →
      (probed t old va len access ≡ record { memory = m; refusal = Some (t.fault m at access) })
      × (false ≡ all_allowed (t.allowed old) va len access)
  unfolding probed all_allowed
  on_refused later e refused =
      (rw (e, refused) at h.rest, sym (rw (e, sym (ap (λ f. f at access) h.stays) ∙ refused) at h.exact))

  pub at_end : left ≡ 0 →
      (probed t old va len access ≡ record { memory = m; refusal = None })
      × (true ≡ all_allowed (t.allowed old) va len access) × (all_allowed (t.allowed old) va len Read ≡ true)
  unfolding probed all_allowed
  at_end e = (rw e at h.rest, sym (rw e at h.exact), rw e at h.readable)
