-- Each service has one number, by which an environment that is in it is known again, whatever its EAX is.
use Rattle.std.proofs.Common.{◌≡◌, ◌≢◌, ◌∙◌, ◌==◌, ℕ, Bool, true, false, refl, sym, ap, arith, if◌then◌else◌}
use Rattle.std.specs.Prelude.{◌-◌, get_or}
use Rattle.std.proofs.lemmas.Bool.Decides.{nat_tests}
use Rattle.jos_base.specs.declared.registers.Regs.{Regs}
use Rattle.jos_base.specs.Environments.{Slot}
use Rattle.lib_os.specs.declared.place.Place.{Place}
use Rattle.lib_os.specs.declared.place.Place.TheVariants as place
use Rattle.lib_os.specs.declared.place.Step.{Step}
use Rattle.lib_os.specs.declared.service.Service.{Service}
use Rattle.lib_os.specs.declared.service.Service.TheVariants as service
use Rattle.lib_os.specs.Places.{place_in_words, place_of, is_handlers}
use Rattle.lib_os.specs.Services.{is_built, service_of, named_service}
use Rattle.lib_os.proofs.WordsTell.{outside_stack}

-- the number of a service that is built; any other has the one that names none
abbrev pub number_of : Service → ℕ
number_of service.Exit = 0
number_of (service.Cputs va len) = 1
number_of service.GetId = 2
number_of service.Yield = 3
number_of service.Fork = 4
number_of (service.Wait id) = 5
number_of (service.PageNew va flags) = 6
number_of (service.PageDrop va) = 7
number_of (service.Send id value va) = 8
number_of (service.Receive va from) = 9
number_of (service.OpenFile path mode) = 10
number_of (service.Close fd) = 11
number_of (service.Read fd va len) = 12
number_of (service.Write fd va len) = 13
number_of (service.Seek fd offset) = 14
number_of (service.Stat fd va) = 15
number_of (service.SetSize fd size) = 16
number_of (service.Remove path) = 17
number_of service.Sync = 18
number_of (service.Dup old new) = 19
number_of service.Pipe = 20
number_of (service.Spawn path argv) = 21
number_of _ = 22

by_number : (q k : ℕ) (x y : Service) → number_of x ≡ k → (q ≢ k → number_of y ≡ q) → number_of (if q == k then x else y) ≡ q
by_number q k x y here other = by_test (q == k) refl
  where
    by_test : (t : Bool) → (q == k) ≡ t → number_of (if t then x else y) ≡ q
    by_test true is = let at : q ≡ k = grind (arith, nat_tests) in here ∙ sym at
    by_test false is = other (grind (arith, nat_tests))

pub numbered : (r : Regs) → is_built r.eax ≡ true → number_of (named_service r) ≡ r.eax
unfolding named_service
numbered r built =
    by_number r.eax 0 _ _ refl (λ n0. by_number r.eax 1 _ _ refl (λ n1. by_number r.eax 2 _ _ refl (λ n2. by_number r.eax 3 _ _ refl (λ n3.
    by_number r.eax 4 _ _ refl (λ n4. by_number r.eax 5 _ _ refl (λ n5. by_number r.eax 6 _ _ refl (λ n6. by_number r.eax 7 _ _ refl (λ n7.
    by_number r.eax 8 _ _ refl (λ n8. by_number r.eax 9 _ _ refl (λ n9. by_number r.eax 10 _ _ refl (λ n10. by_number r.eax 11 _ _ refl (λ n11.
    by_number r.eax 12 _ _ refl (λ n12. by_number r.eax 13 _ _ refl (λ n13. by_number r.eax 14 _ _ refl (λ n14. by_number r.eax 15 _ _ refl (λ n15.
    by_number r.eax 16 _ _ refl (λ n16. by_number r.eax 17 _ _ refl (λ n17. by_number r.eax 18 _ _ refl (λ n18. by_number r.eax 19 _ _ refl (λ n19.
    by_number r.eax 20 _ _ refl (λ n20. by_number r.eax 21 _ _ refl (λ n21.
    let no_number : ⊥ = grind (arith, nat_tests) in absurd no_number))))))))))))))))))))))

pub named_again : (r : Regs) (s : Service) → service_of r ≡ s → service_of (record r { eax = number_of s }) ≡ s
unfolding service_of
named_again r s is = by_test (is_built r.eax) refl
  where
    by_test : (t : Bool) → is_built r.eax ≡ t → service_of (record r { eax = number_of s }) ≡ s
    by_test true built =
        let named : service_of r ≡ named_service r = rw built refl in
        let same : number_of s ≡ r.eax = ap number_of (sym is ∙ named) ∙ numbered r built in
        ap (λ (n : ℕ). service_of (record r { eax = n })) same ∙ is
    by_test false built =
        let unknown : service_of r ≡ service.Unknown = rw built refl in
        let same : s ≡ service.Unknown = sym is ∙ unknown in
        ap (λ (x : Service). service_of (record r { eax = number_of x })) same ∙ sym same

-- of an environment that is in a service
abbrev service_in : Place → Service
service_in place.Guest = service.Unknown
service_in (place.InService s at) = s
service_in (place.InHandler at) = service.Unknown

pub named_at : (k : Slot) (s : Service) (at : Step) → place_of k ≡ place.InService s at →
    service_of (record k.registers { eax = number_of s }) ≡ s
unfolding place_in_words
named_at k s at is =
    by_test (get_or k.extra 0 0 == 0) refl (outside_stack k.registers k.extra (place.InService s at) is refl)
  where
    by_test : (t : Bool) → (get_or k.extra 0 0 == 0) ≡ t → is_handlers k.registers.esp ≡ false →
        service_of (record k.registers { eax = number_of s }) ≡ s
    by_test true none outside =
        let guest : place_of k ≡ place.Guest = rw (outside, none) refl in
        let contradiction : place.Guest ≡ place.InService s at = sym guest ∙ is in absurd cc
    by_test false some outside =
        let r : Regs = record k.registers { eax = get_or k.extra 0 0 - 1 } in
        let named : service_in (place_of k) ≡ service_of r = rw (outside, some) refl in
        named_again r s (sym named ∙ ap service_in is)
