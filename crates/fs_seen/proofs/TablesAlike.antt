-- The table stands for another abstract state that has the same of it, and where the same of it is seen.
use Rattle.std.proofs.Common.{◌≡◌, ◌∙◌, ◌<◌, ℕ, true, Option, Some, None, refl, sym, ap, subst}
use Rattle.std.specs.Prelude.{is_some, nat_le}
use Rattle.fs_layout.specs.DiskImage.{is_directory_at}
use Rattle.lib_os.specs.declared.numbers.TheConstants.{FD_DEVICE, FD_FILE, FD_MODE, FD_OFFSET, FD_SIZE}
use Rattle.lib_os.specs.AbstractState.{AbstractState, Object, TablePlace}
use Rattle.lib_os.specs.Descriptors.{is_held}
use Rattle.lib_os.specs.FileServer.{is_held_by}
use Rattle.fs_serving.specs.ServerRuns.{HasFile, PlaceStands, TableStands}
use Rattle.fs_serving.specs.ServerViews.{View, word_of}

-- the same of the abstract states,
pub record SameObjects (a b : AbstractState) : Type 0 where
  pub opened : b.opened ≡ a.opened
  pub objects : b.objects ≡ a.objects
  pub held : (name : ℕ) → is_held b name ≡ is_held a name
  pub names : b.next_name ≡ a.next_name

-- and of what is seen
pub record TableSeen (v w : View) : Type 0 where
  pub homes : (number : ℕ) → w.homes number ≡ v.homes number
  pub pages : (number : ℕ) → w.pages number ≡ v.pages number
  pub holders : (number : ℕ) → is_some (v.pages number) ≡ true → w.holders (w.frames number) ≡ v.holders (v.frames number)

module _ (disk : ℕ → ℕ) (a b : AbstractState) (v w : View) (same : SameObjects a b) (seen : TableSeen v w) where
  word_again : (number at : ℕ) → word_of (w.pages number) at ≡ word_of (v.pages number) at
  word_again number at = ap (λ (o : Option (ℕ → ℕ)). word_of o at) (seen.pages number)

  place_again : (number : ℕ) → (b.opened number).held_by ≡ (a.opened number).held_by
  place_again number = ap (λ (o : ℕ → TablePlace). (o number).held_by) same.opened

  object_again : (name : ℕ) → b.objects name ≡ a.objects name
  object_again name = ap (λ (o : ℕ → Object). o name) same.objects

  held_again : (o : Option ℕ) → is_held_by b o ≡ is_held_by a o
  held_again None = refl
  held_again (Some name) = same.held name

  file_again : (number name : ℕ) → HasFile disk a v number name → HasFile disk b w number name
  file_again number name h = record {
    f = h.f;
    is = object_again name ∙ h.is;
    home = h.home ∙ ap (λ (p : ℕ). Some p) (sym (seen.homes number));
    regular = ap (is_directory_at disk) (seen.homes number) ∙ h.regular;
    there = ap (λ (o : Option (ℕ → ℕ)). is_some o) (seen.pages number) ∙ h.there;
    device = word_again number FD_DEVICE ∙ h.device;
    offset = word_again number FD_OFFSET ∙ h.offset;
    mode = word_again number FD_MODE ∙ h.mode;
    size = word_again number FD_SIZE ∙ h.size;
    number_is = word_again number FD_FILE ∙ h.number_is;
    small = h.small;
    sized = h.sized;
  }

  stands_again : (number : ℕ) → PlaceStands disk a v number → PlaceStands disk b w number
  stands_again number h = record {
    unused = λ home. place_again number ∙ h.unused (sym (seen.homes number) ∙ home);
    there = λ home. ap (λ (o : Option (ℕ → ℕ)). is_some o) (seen.pages number) ∙ h.there (λ none. home (seen.homes number ∙ none));
    used = λ there. ap (λ (o : ℕ → TablePlace). (o number).used) same.opened
        ∙ h.used (sym (ap (λ (o : Option (ℕ → ℕ)). is_some o) (seen.pages number)) ∙ there);
    counts = λ home.
        let used = λ (none : v.homes number ≡ 0). home (seen.homes number ∙ none) in
        ap (λ (o : Option ℕ). is_held_by b o) (place_again number) ∙ held_again (a.opened number).held_by ∙ h.counts used
        ∙ sym (ap (nat_le 2) (seen.holders number (h.there used)));
    holds = λ name by held.
        file_again number name (h.holds name (sym (place_again number) ∙ by) (sym (same.held name) ∙ held));
  }

  pub table_again : TableStands disk a v → TableStands disk b w
  table_again h = record {
    places = λ number below. stands_again number (h.places number below);
    held = λ name f held is.
        let it = h.held name f (sym (same.held name) ∙ held) (sym (object_again name) ∙ is) in
        (it.0, it.1, place_again it.0 ∙ it.2);
    alone = λ number other name by and. h.alone number other name (sym (place_again number) ∙ by) (sym (place_again other) ∙ and);
    old = λ number name by. subst (λ (m : ℕ). name < m) (sym same.names) (h.old number name (sym (place_again number) ∙ by));
    old_held = λ name held. subst (λ (m : ℕ). name < m) (sym same.names) (h.old_held name (sym (same.held name) ∙ held));
  }
