-- Whether a service keeps a page at UTEMP, and which others spawn keeps, is told by the words that are kept for it, wherever its environment
-- stands: at the service, and in the handler of page faults above it.
use Rattle.std.proofs.Common.{◌≡◌, ◌≢◌, ◌∙◌, ◌==◌, ◌&&◌, ◌||◌, ◌+◌, ◌-◌, ℕ, Bool, true, false, List, refl, sym, ap, arith, if◌then◌else◌}
use Rattle.std.proofs.lemmas.Bool.Decides.{nat_tests}
use Rattle.jos_base.specs.declared.registers.Regs.{Regs}
use Rattle.jos_base.specs.Environments.{Slot}
use Rattle.lib_os.specs.declared.numbers.TheConstants.{SERVICE_READ, SERVICE_REMOVE, SERVICE_SEEK, SERVICE_SET_SIZE, SERVICE_STAT, SERVICE_WRITE}
use Rattle.lib_os.specs.declared.numbers.TheConstants.{SERVICE_OPEN_FILE, SERVICE_SPAWN}
use Rattle.lib_os.specs.declared.place.Place.TheVariants as place
use Rattle.lib_os.specs.declared.place.Step.{Step}
use Rattle.lib_os.specs.declared.service.Service.{Service}
use Rattle.lib_os.specs.declared.service.Service.TheVariants as service
use Rattle.lib_os.specs.LibraryPages.{are_spawns, asks_of_files, has_spawns, has_working, keeps_beneath, keeps_page, keeps_spawning, spawn_keeps, keeps_page_beneath, keeps_path, keeps_request}
use Rattle.lib_os.specs.Places.{place_in_words, place_of, service_word, step_in}
use Rattle.lib_os.specs.Services.{is_built, named_service, service_of}
use Rattle.lib_os.proofs.Numbered.{number_of, numbered}
use Rattle.lib_os.proofs.Serving.{pages_kept}
use Rattle.lib_os.proofs.WordsTell.{by_esp}

-- whether one is kept, by a number and a step
abbrev kept_by : ℕ → Step → Bool
kept_by number at =
    if number == SERVICE_WRITE then keeps_page at
    else if (number == SERVICE_REMOVE) || (number == SERVICE_OPEN_FILE) then keeps_path at
    else if number == SERVICE_SPAWN then keeps_spawning at
    else asks_of_files number && keeps_request at

-- a service keeps one by its number and its step
by_number : (s : Service) (at : Step) (words : List ℕ) → has_working (place.InService s at) words ≡ kept_by (number_of s) at
by_number service.Exit at words = refl
by_number (service.Cputs va len) at words = refl
by_number service.GetId at words = refl
by_number service.Yield at words = refl
by_number service.Fork at words = refl
by_number (service.Wait id) at words = refl
by_number (service.PageNew va flags) at words = refl
by_number (service.PageDrop va) at words = refl
by_number (service.Send id value va) at words = refl
by_number (service.Receive va from) at words = refl
by_number (service.OpenFile path mode) at words = refl
by_number (service.Close fd) at words = refl
by_number (service.Read fd va len) at words = refl
by_number (service.Write fd va len) at words = refl
by_number (service.Seek fd offset) at words = refl
by_number (service.Stat fd va) at words = refl
by_number (service.SetSize fd size) at words = refl
by_number (service.Remove path) at words = refl
by_number service.Sync at words = refl
by_number (service.Dup old new) at words = refl
by_number service.Pipe at words = refl
by_number (service.Spawn path argv) at words = refl
by_number service.Unknown at words = refl

-- and a number that is built names no other service
named_so : (number : ℕ) → is_built number ≡ true → (number_of service.Unknown == number) ≡ false → (r : Regs) →
    (number_of (service_of r) == number) ≡ (r.eax == number)
unfolding service_of
named_so number is_one other_one r = by_test (is_built r.eax) refl
  where
    by_test : (t : Bool) → is_built r.eax ≡ t → (number_of (if t then named_service r else service.Unknown) == number) ≡ (r.eax == number)
    by_test true built = ap (λ (n : ℕ). n == number) (numbered r built)
    by_test false none =
        let other : r.eax ≢ number = λ same. let contradiction : true ≡ false = sym is_one ∙ sym (ap is_built same) ∙ none in cc in
        let off : (r.eax == number) ≡ false = grind (arith, nat_tests, other) in
        other_one ∙ sym off

spawn_named : (r : Regs) → (number_of (service_of r) == SERVICE_SPAWN) ≡ (is_built SERVICE_SPAWN && (r.eax == SERVICE_SPAWN))
spawn_named r = named_so SERVICE_SPAWN refl refl r

none_spawns : (words : List ℕ) → (service_word words == 0) ≡ true → (service_word words == SERVICE_SPAWN + 1) ≡ false
none_spawns words none = grind (arith, nat_tests)

pub working_is : (regs : Regs) (words : List ℕ) → has_working (place_in_words regs words) words ≡ keeps_page_beneath words
unfolding place_in_words
working_is regs words =
    by_esp _ (service_word words == 0) _ _ _ (λ p. has_working p words ≡ keeps_page_beneath words) (λ esp none. at_guest none)
    (λ esp some. in_service some) (λ esp. refl)
  where
    at_guest : (service_word words == 0) ≡ true → false ≡ keeps_page_beneath words
    at_guest none =
        let write : (service_word words == SERVICE_WRITE + 1) ≡ false = grind (arith, nat_tests) in
        let remove : (service_word words == SERVICE_REMOVE + 1) ≡ false = grind (arith, nat_tests) in
        let opens : (service_word words == SERVICE_OPEN_FILE + 1) ≡ false = grind (arith, nat_tests) in
        let spawns : are_spawns words ≡ false = ap (λ (c : Bool). is_built SERVICE_SPAWN && c) (none_spawns words none) in
        let files : asks_of_files (service_word words - 1) ≡ false = grind (arith, nat_tests) in
        sym (λ i. if write i then keeps_page (step_in words) else if remove i || opens i then keeps_path (step_in words)
        else if spawns i then keeps_spawning (step_in words) else files i && keeps_request (step_in words))

    in_service : (service_word words == 0) ≡ false →
        has_working (place.InService (service_of (record regs { eax = service_word words - 1 })) (step_in words)) words ≡ keeps_page_beneath words
    in_service some =
        let r : Regs = record regs { eax = service_word words - 1 } in
        let write : (service_word words - 1 == SERVICE_WRITE) ≡ (service_word words == SERVICE_WRITE + 1) = grind (arith, nat_tests) in
        let remove : (service_word words - 1 == SERVICE_REMOVE) ≡ (service_word words == SERVICE_REMOVE + 1) = grind (arith, nat_tests) in
        let opens : (service_word words - 1 == SERVICE_OPEN_FILE) ≡ (service_word words == SERVICE_OPEN_FILE + 1) = grind (arith, nat_tests) in
        let spawns : (service_word words - 1 == SERVICE_SPAWN) ≡ (service_word words == SERVICE_SPAWN + 1) = grind (arith, nat_tests) in
        let spawns_is = spawn_named r ∙ ap (λ (c : Bool). is_built SERVICE_SPAWN && c) spawns in
        let opens_is = named_so SERVICE_OPEN_FILE refl refl r ∙ opens in
        let seek_is = named_so SERVICE_SEEK refl refl r in
        let set_size_is = named_so SERVICE_SET_SIZE refl refl r in
        let read_is = named_so SERVICE_READ refl refl r in
        let stat_is = named_so SERVICE_STAT refl refl r in
        let write_is = named_so SERVICE_WRITE refl refl r ∙ write in
        let remove_is = named_so SERVICE_REMOVE refl refl r ∙ remove in
        by_number (service_of r) (step_in words) words
        ∙ (λ i. if write_is i then keeps_page (step_in words) else if remove_is i || opens_is i then keeps_path (step_in words)
        else if spawns_is i then keeps_spawning (step_in words) else (seek_is i || set_size_is i || read_is i || stat_is i) && keeps_request (step_in words))

-- and so are the pages that spawn keeps beside it
spawns_by_number : (s : Service) (at : Step) (words : List ℕ) (p : ℕ) →
    has_spawns (place.InService s at) words p ≡ ((number_of s == SERVICE_SPAWN) && spawn_keeps at p)
spawns_by_number service.Exit at words p = refl
spawns_by_number (service.Cputs va len) at words p = refl
spawns_by_number service.GetId at words p = refl
spawns_by_number service.Yield at words p = refl
spawns_by_number service.Fork at words p = refl
spawns_by_number (service.Wait id) at words p = refl
spawns_by_number (service.PageNew va flags) at words p = refl
spawns_by_number (service.PageDrop va) at words p = refl
spawns_by_number (service.Send id value va) at words p = refl
spawns_by_number (service.Receive va from) at words p = refl
spawns_by_number (service.OpenFile path mode) at words p = refl
spawns_by_number (service.Close fd) at words p = refl
spawns_by_number (service.Read fd va len) at words p = refl
spawns_by_number (service.Write fd va len) at words p = refl
spawns_by_number (service.Seek fd offset) at words p = refl
spawns_by_number (service.Stat fd va) at words p = refl
spawns_by_number (service.SetSize fd size) at words p = refl
spawns_by_number (service.Remove path) at words p = refl
spawns_by_number service.Sync at words p = refl
spawns_by_number (service.Dup old new) at words p = refl
spawns_by_number service.Pipe at words p = refl
spawns_by_number (service.Spawn path argv) at words p = refl
spawns_by_number service.Unknown at words p = refl

pub spawns_are : (regs : Regs) (words : List ℕ) (p : ℕ) → has_spawns (place_in_words regs words) words p ≡ keeps_beneath words p
unfolding place_in_words
spawns_are regs words p =
    by_esp _ (service_word words == 0) _ _ _ (λ q. has_spawns q words p ≡ keeps_beneath words p) (λ esp none. at_guest none)
    (λ esp some. in_service some) (λ esp. refl)
  where
    at_guest : (service_word words == 0) ≡ true → false ≡ keeps_beneath words p
    at_guest none =
        let spawns : are_spawns words ≡ false = ap (λ (c : Bool). is_built SERVICE_SPAWN && c) (none_spawns words none) in
        sym (ap (λ (c : Bool). c && spawn_keeps (step_in words) p) spawns)

    in_service : (service_word words == 0) ≡ false →
        has_spawns (place.InService (service_of (record regs { eax = service_word words - 1 })) (step_in words)) words p ≡ keeps_beneath words p
    in_service some =
        let r : Regs = record regs { eax = service_word words - 1 } in
        let spawns : (service_word words - 1 == SERVICE_SPAWN) ≡ (service_word words == SERVICE_SPAWN + 1) = grind (arith, nat_tests) in
        spawns_by_number (service_of r) (step_in words) words p
        ∙ ap (λ (c : Bool). c && spawn_keeps (step_in words) p) (spawn_named r ∙ ap (λ (c : Bool). is_built SERVICE_SPAWN && c) spawns)

-- So they are the same whatever the registers.
pub words_work : (k : Slot) (regs : Regs) → pages_kept (place_of k) k.extra ≡ pages_kept (place_of (record k { registers = regs })) k.extra
words_work k regs = λ i. (
  (working_is k.registers k.extra ∙ sym (working_is regs k.extra)) i,
  (λ p. (spawns_are k.registers k.extra p ∙ sym (spawns_are regs k.extra p)) i),
)
