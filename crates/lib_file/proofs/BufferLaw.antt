-- The law of the stages in which a service looks at a page of its buffer, for read, stat, write and remove: nothing that anybody sees.
use Rattle.std.proofs.Common.{◌≡◌, ℕ, Bool, true, false, not, refl, arith, if◌then◌else◌}
use Rattle.jos_base.specs.Environments.{is_live}
use Rattle.jos_base.specs.KernelState.{KernelState, slot_at}
use Rattle.lib_os.specs.declared.place.Place.TheVariants as place
use Rattle.lib_os.specs.declared.place.Step.TheVariants as step
use Rattle.lib_os.specs.declared.service.Service.{Service}
use Rattle.lib_os.specs.declared.service.Service.TheVariants as service
use Rattle.lib_os.specs.AbstractState.{AbstractState}
use Rattle.lib_os.specs.InOrder.{IsInOrder}
use Rattle.lib_os.specs.LibrarySteps.{is_pausing}
use Rattle.lib_os.specs.Places.{place_of}
use Rattle.lib_os.specs.Rows.{Names}
use Rattle.lib_os.specs.StandsFor.{StandsFor, writes_buffer}
use Rattle.lib_os.proofs.BufferLooks.{KeepsWord, buffer_va, buffer_entry_allows, buffer_entry_gives, buffer_entry_refuses, buffer_entry_va}
use Rattle.lib_os.proofs.BufferLooks.{buffer_entry_word, buffer_region_found, buffer_region_gives, buffer_region_missing, buffer_region_va}
use Rattle.lib_os.proofs.BufferLooks.{buffer_region_word, moving_step, tells_allowed}
use Rattle.lib_os.proofs.Loading.{loaded}
use Rattle.lib_stage.specs.declared.ask.Next.{Next}
use Rattle.lib_stage.specs.declared.ask.Next.TheVariants as next
use Rattle.lib_stage.specs.ServiceSteps.{ServiceHolds}
use Rattle.lib_stage.proofs.Laws.{Falls}
use Rattle.lib_fd.specs.DescriptorStages.{is_there}
use Rattle.lib_file.specs.Buffers.{entry_asked, region_asked}
use Rattle.lib_file.proofs.Finds.{Follows, load_holds, staged}

-- by the word of the region: it goes on to the page's entry, or the page refuses the byte
abbrev pub region_next : ℕ → ℕ → ℕ → Next
region_next done kept word = if not (is_there word) then next.GoOn (step.Faulting done kept) else next.GoOn (step.BufferEntry done kept)

-- and by that of the entry, which allows the access or not
abbrev pub entry_next : Service → ℕ → ℕ → Bool → Next
entry_next service done kept allowed = if not allowed then next.GoOn (step.Faulting done kept) else next.GoOn (moving_step service done kept)

-- the access is lower than the look at its page
moving_falls : (service : Service) (done word kept : ℕ) → Falls service (step.BufferEntry done word) (next.GoOn (moving_step service done kept))
moving_falls (service.Write fd va len) done word kept = omega arith
moving_falls (service.Remove path) done word kept = omega arith
moving_falls (service.OpenFile path mode) done word kept = omega arith
moving_falls (service.Spawn path argv) done word kept = omega arith
moving_falls _ done word kept = omega arith

-- neither gives up a turn
looks_steady : (service : Service) (done word : ℕ) →
    (is_pausing (place.InService service (step.BufferRegion done word)) ≡ false)
    × (is_pausing (place.InService service (step.BufferEntry done word)) ≡ false)
looks_steady (service.Wait id) done word = (refl, refl)
looks_steady (service.Send id value va) done word = (refl, refl)
looks_steady service.Sync done word = (refl, refl)
looks_steady (service.Remove path) done word = (refl, refl)
looks_steady (service.OpenFile path mode) done word = (refl, refl)
looks_steady (service.Spawn path argv) done word = (refl, refl)
looks_steady (service.Seek fd offset) done word = (refl, refl)
looks_steady (service.SetSize fd size) done word = (refl, refl)
looks_steady (service.Write fd va len) done word = (refl, refl)
looks_steady (service.Read fd va len) done word = (refl, refl)
looks_steady (service.Stat fd va) done word = (refl, refl)
looks_steady _ done word = (refl, refl)

module _ (s : KernelState) (n : ℕ) (service : Service) (live : is_live (slot_at s n) ≡ true) (done word kept : ℕ)
    (same : KeepsWord service word kept) where
  abbrev va : ℕ
  va = buffer_va service done

  -- ---- whether its region has a table

  module _ (stands : place_of (slot_at s n) ≡ place.InService service (step.BufferRegion done word)) where
    region_falls : (w : ℕ) → Falls service (step.BufferRegion done word) (region_next done kept w)
    region_falls w = by_test (is_there w)
      where
        by_test : (t : Bool) →
            Falls service (step.BufferRegion done word) (if not t then next.GoOn (step.Faulting done kept) else next.GoOn (step.BufferEntry done kept))
        by_test true = omega arith
        by_test false = omega arith

    region_follows : (names : Names) (a : AbstractState) → StandsFor names s a → IsInOrder (loaded s n (buffer_region_va service done)) →
        Follows (loaded s n (buffer_region_va service done)) n service a (region_next done kept (buffer_region_word s n service done))
    region_follows names a h order = by_test (is_there (buffer_region_word s n service done)) refl
      where
        by_test : (t : Bool) → is_there (buffer_region_word s n service done) ≡ t →
            Follows (loaded s n (buffer_region_va service done)) n service a
            (if not t then next.GoOn (step.Faulting done kept) else next.GoOn (step.BufferEntry done kept))
        by_test false is = (refl, (names, buffer_region_missing s n service done word stands h order kept same is))
        by_test true is = (refl, (names, buffer_region_found s n service done word stands h order kept same is))

    pub buffer_region_holds : ServiceHolds s n (staged service (region_asked va) (region_next done kept))
    buffer_region_holds =
        load_holds s n service (step.BufferRegion done word) live (looks_steady service done word).0 stands
        (buffer_region_va service done) (buffer_region_word s n service done) (region_next done kept) region_falls
        (λ names a h. buffer_region_gives s n service done word stands h) region_follows

  -- ---- whether its page allows the byte

  module _ (stands : place_of (slot_at s n) ≡ place.InService service (step.BufferEntry done word)) where
    entry_falls : (t : Bool) → Falls service (step.BufferEntry done word) (entry_next service done kept t)
    entry_falls true = moving_falls service done word kept
    entry_falls false = omega arith

    entry_follows : (names : Names) (a : AbstractState) → StandsFor names s a → IsInOrder (loaded s n (buffer_entry_va service done)) →
        Follows (loaded s n (buffer_entry_va service done)) n service a
        (entry_next service done kept (tells_allowed (writes_buffer service) (buffer_entry_word s n service done)))
    entry_follows names a h order = by_test (tells_allowed (writes_buffer service) (buffer_entry_word s n service done)) refl
      where
        by_test : (t : Bool) → tells_allowed (writes_buffer service) (buffer_entry_word s n service done) ≡ t →
            Follows (loaded s n (buffer_entry_va service done)) n service a (entry_next service done kept t)
        by_test false is = (refl, (names, buffer_entry_refuses s n service done word stands h order kept same is))
        by_test true is = (refl, (names, buffer_entry_allows s n service done word stands h order kept same is))

    pub buffer_entry_holds :
        ServiceHolds s n (staged service (entry_asked va) (λ w. entry_next service done kept (tells_allowed (writes_buffer service) w)))
    buffer_entry_holds =
        load_holds s n service (step.BufferEntry done word) live (looks_steady service done word).1 stands
        (buffer_entry_va service done) (buffer_entry_word s n service done)
        (λ w. entry_next service done kept (tells_allowed (writes_buffer service) w))
        (λ w. entry_falls (tells_allowed (writes_buffer service) w)) (λ names a h. buffer_entry_gives s n service done word stands h) entry_follows
