-- Each job ends, and does what its act does.
use Rattle.std.proofs.Common.{◌≡◌, ◌∙◌, ◌+◌, ◌^◌, ◌<◌, ℕ, Bool, true, false, List, [], ◌∷◌}
use Rattle.std.proofs.Common.{Option, Some, None, refl, sym, ap, subst, arith}
use Rattle.std.specs.Prelude.{◌||◌, ◌&&◌, nat_lt, if◌then◌else◌}
use Rattle.std.proofs.lemmas.Bool.Decides.{nat_tests}
use Rattle.jos_base.specs.declared.numbers.TheConstants.{E_BAD_PATH, E_FILE_EXISTS, E_INVAL, E_NOT_FOUND}
use Rattle.jos_base.specs.Words.{has_bit, negated}
use Rattle.fs_layout.specs.declared.numbers.TheConstants.{O_CREAT, O_EXCL, O_TRUNC}
use Rattle.fs_layout.specs.FileTree.{FileAct, open_path, read_file, remove_path, set_file_size, stat_file, write_file}
use Rattle.fs_layout.specs.FileActs.{is_good_path, names_in}
use Rattle.fs_layout.specs.DiskImage.{is_directory_at, root_place, slot_place}
use Rattle.fs_acts.specs.BlockActs.{Led, Planned, a_record, astray, create_plan, led_by, led_from_above, led_in, led_to}
use Rattle.fs_acts.specs.BlockActs.{no_record, open_led, plan_of, planned, read_plan, remove_led, size_plan, slot_named}
use Rattle.fs_acts.specs.BlockActs.{stat_plan, too_long, turned_down, write_plan}
use Rattle.fs_jobs.specs.declared.place.Job.{Job}
use Rattle.fs_jobs.specs.declared.place.Job.TheVariants as job
use Rattle.fs_jobs.specs.declared.place.WalkPlace.TheVariants as walk
use Rattle.fs_jobs.specs.declared.asks.TreeNext.TheVariants.{GoOn}
use Rattle.fs_jobs.specs.TreeBounds.{is_bounded_job, is_place}
use Rattle.fs_runs.specs.TreeRuns.{FindsAreLooks, HasPath, IsJobOf, IsOnItsWay, IsSound, JobsAreActs, Memory, begun_with, bytes_given, found_place}
use Rattle.fs_runs.specs.TreeRuns.{opens, reads, removes, sizes, stats, writes}
use Rattle.fs_walks.specs.WalkPlans.{begun}
use Rattle.fs_runs.proofs.CallsCounted.{ends-of}
use Rattle.fs_runs.proofs.StepsCounted.{finds-few}
use Rattle.fs_runs.proofs.Leads.{Leads, leads_on, leads_to_end}
use Rattle.fs_runs.proofs.Pieces.{EndsWith, IsWalking, at_walk, finding, opening}
use Rattle.fs_runs.proofs.JobsFacts.{Found, Pieces, facts, home-small}
use Rattle.fs_runs.proofs.JobsRecords.{Acts, acts-behind, acts-either, acts-none, at_kind, on-its-way}
use Rattle.fs_runs.proofs.JobsFiles.{acts-file, read-acts, remove-acts, size-acts, stat-acts, write-acts}
use Rattle.fs_runs.proofs.JobsOpens.{creates-file, found-answers, found-directory, led-found, opens-file}

-- ---- a path that is not too long leads somewhere

is_long : Led → Bool
is_long too_long = true
is_long astray = false
is_long (no_record place name) = false
is_long (a_record place way) = false

above-long : (i : ℕ) (led : Led) → is_long led ≡ false → is_long (led_from_above i led) ≡ false
unfolding is_long
above-long i too_long e = e
above-long i astray e = e
above-long i (no_record place name) e = e
above-long i (a_record place way) e = e

in-long : (byte : ℕ → ℕ) (directory : ℕ) (name : List ℕ) (rest : List (List ℕ)) (found : Option ℕ) (onward : ℕ → Led) →
    ((place : ℕ) → is_long (onward place) ≡ false) → is_long (led_in byte directory name rest found onward) ≡ false
unfolding is_long
in-long byte directory name [] None onward all = refl
in-long byte directory name (next ∷ rest) None onward all = refl
in-long byte directory name rest (Some i) onward all =
    above-long i (onward (slot_place byte directory i)) (all (slot_place byte directory i))

by-long : (byte : ℕ → ℕ) (names : List (List ℕ)) (place : ℕ) → is_long (led_by byte names place) ≡ false
unfolding is_long led_by
by-long byte [] place = refl
by-long byte (name ∷ rest) place =
    by (is_directory_at byte place) (in-long byte place name rest (slot_named byte place name) (led_by byte rest) (by-long byte rest))
  where
    by : (b : Bool) → is_long (led_in byte place name rest (slot_named byte place name) (led_by byte rest)) ≡ false →
        is_long (if b then led_in byte place name rest (slot_named byte place name) (led_by byte rest) else astray) ≡ false
    by true inside = inside
    by false inside = refl

good-leads : {A : Type 0} (byte : ℕ → ℕ) (path : List ℕ) → is_good_path path ≡ true → led_to byte path ≡ too_long → A
unfolding led_to is_long
good-leads byte path good e =
    let is : led_by byte (names_in path) root_place ≡ too_long =
    sym (ap (λ (b : Bool). if b then led_by byte (names_in path) root_place else too_long) good) ∙ e in
    let both : true ≡ false = sym (ap is_long is) ∙ by-long byte (names_in path) root_place in
    absurd (cc both)

bad-leads : (byte : ℕ → ℕ) (path : List ℕ) → is_good_path path ≡ false → led_to byte path ≡ too_long
unfolding led_to
bad-leads byte path bad = ap (λ (b : Bool). if b then led_by byte (names_in path) root_place else too_long) bad

-- ---- the path is read

walking-bounded : (j : Job) → IsWalking j → is_bounded_job j ≡ true
walking-bounded j (opening mode) = refl
walking-bounded j finding = refl

walking-begins : (j : Job) → IsWalking j → (count : ℕ) → begun (at_walk j count walk.RootKind) j ≡ GoOn
    (at_walk j count (walk.Component 0 root_place))
walking-begins j (opening mode) count = refl
walking-begins j finding count = refl

-- a good path is followed from the root on
follows : Pieces → (count : ℕ) (j : Job) (path : List ℕ) (m : Memory) → IsSound count m → HasPath m.page path → IsWalking j →
    is_good_path path ≡ true →
    Leads count (at_walk j count (walk.Component 0 root_place)) m (at_walk j 0 (walk.Path 0 0)) m
follows pieces count j path m sound has_path walks good =
    leads_on (at_walk j 0 (walk.Path 0 0)) m ((pieces.paths_are_read count j path m sound.small has_path walks).0 good)
    (pieces.supers_are_read count j m sound (walking-bounded j walks) (at_walk j count (walk.Component 0 root_place))
    (walking-begins j walks count))

-- ---- opening

open-led-acts : Pieces → (count mode : ℕ) (path : List ℕ) (m : Memory) → IsSound count m → HasPath m.page path → is_good_path path ≡ true →
    (led : Led) → led_to m.disk path ≡ led →
    Acts (count + 50000) count (open_led m.disk mode led) m (at_walk (job.Open mode) count (walk.Component 0 root_place)) m
open-led-acts pieces count mode path m sound has_path good too_long e = good-leads m.disk path good e
open-led-acts pieces count mode path m sound has_path good astray e =
    acts-none count (negated E_NOT_FOUND) m (at_walk (job.Open mode) count (walk.Component 0 root_place))
    (pieces.walks_stray count (job.Open mode) m path sound has_path (opening mode) e)
open-led-acts pieces count mode path m sound has_path good (no_record directory name) e =
    let j : Job = job.Open mode in
    let missed = pieces.walks_miss count j m path name directory sound has_path (opening mode) e in
    acts-either (has_bit mode O_CREAT) (create_plan m.disk directory name) (turned_down E_NOT_FOUND)
    (λ makes.
    creates-file pieces count path name directory missed.0 m (at_walk j count (walk.Component 0 root_place)) sound has_path missed.1 missed.2
    (missed.3.1 makes) (missed.3.2 makes))
    (λ none. acts-none count (negated E_NOT_FOUND) m (at_walk j count (walk.Component 0 root_place)) (missed.3.0 none))
open-led-acts pieces count mode path m sound has_path good (a_record place way) e =
    let j : Job = job.Open mode in
    let found = led-found count path way place m sound e in
    let walked = pieces.walks_find count j m path way place sound has_path (opening mode) e in
    acts-either (has_bit mode O_CREAT && has_bit mode O_EXCL) (turned_down E_FILE_EXISTS)
    (if is_directory_at m.disk place then turned_down E_INVAL else if has_bit mode O_TRUNC then size_plan m.disk place 0 else planned [] 0)
    (λ new. acts-none count (negated E_FILE_EXISTS) m (at_walk j count (walk.Component 0 root_place)) (walked.0 new))
    (λ old. acts-behind (at_walk j count (walk.Component 0 root_place)) m (walked.1 old) (opens-file pieces count mode way place m found))

open-acts : Pieces → (count mode : ℕ) (path : List ℕ) (m : Memory) → IsSound count m → HasPath m.page path →
    Acts (count + 50000) count (open_led m.disk mode (led_to m.disk path)) m (at_walk (job.Open mode) 0 (walk.Path 0 0)) m
open-acts pieces count mode path m sound has_path = by (is_good_path path) refl
  where
    j : Job
    j = job.Open mode

    by : (b : Bool) → is_good_path path ≡ b → Acts (count + 50000) count (open_led m.disk mode (led_to m.disk path)) m (at_walk j 0 (walk.Path 0 0)) m
    by true good =
        acts-behind (at_walk j 0 (walk.Path 0 0)) m (follows pieces count j path m sound has_path (opening mode) good)
        (open-led-acts pieces count mode path m sound has_path good (led_to m.disk path) refl)
    by false bad =
        subst (λ (led : Led). Acts (count + 50000) count (open_led m.disk mode led) m (at_walk j 0 (walk.Path 0 0)) m)
        (sym (bad-leads m.disk path bad))
        (acts-none count (negated E_BAD_PATH) m (at_walk j 0 (walk.Path 0 0))
        ((pieces.paths_are_read count j path m sound.small has_path (opening mode)).1 bad))

-- ---- the jobs of a record

low-bounded : (home at : ℕ) → is_place home ≡ true → at < 2 ^ 31 → (is_place home && nat_lt at (2 ^ 31)) ≡ true
low-bounded home at a low = λ i. a i && below at low i
  where
    below : (n : ℕ) → n < 2 ^ 31 → nat_lt n (2 ^ 31) ≡ true
    below n lt = grind (arith, nat_tests)

-- the super block is read before the record
behind-super : {most : ℕ} → Pieces → (count : ℕ) (j : Job) (home : ℕ) (m : Memory) (plan : Planned) → IsSound count m → is_bounded_job j ≡ true →
    begun (at_walk j count walk.RootKind) j ≡ GoOn (at_kind j count home) → Acts most count plan m (at_kind j count home) m →
    Acts most count plan m (at_walk j 0 walk.Magic) m
behind-super pieces count j home m plan sound bounded begins acts =
    acts-behind (at_walk j 0 walk.Magic) m (pieces.supers_are_read count j m sound bounded (at_kind j count home) begins) acts

place-small : Pieces → (count : ℕ) (way : List ℕ) (home : ℕ) (m : Memory) → Found count way home m → is_place home ≡ true
place-small pieces count way home m found =
    let known = facts pieces count way home m found in home-small count home known.lies known.counted.2

removed-plan : (is_open : List ℕ → Bool) (byte : ℕ → ℕ) (home : ℕ) (way : List ℕ) (plan : Planned) → is_directory_at byte home ≡ false →
    is_open way ≡ false →
    (if is_directory_at byte home || is_open way then turned_down E_INVAL else plan) ≡ plan
removed-plan is_open byte home way plan a b = λ i. if a i || b i then turned_down E_INVAL else plan

job-acts : Pieces → (count : ℕ) (is_open : List ℕ → Bool) (m : Memory) → IsSound count m → (act : FileAct) (j : Job) → IsJobOf is_open m act j →
    IsOnItsWay count is_open act m (begun_with j) m
unfolding plan_of
job-acts pieces count is_open m sound act j (opens path mode has_path) =
    on-its-way count is_open (open_path path mode) m (job.Open mode) sound (opens path mode has_path)
    (open-acts pieces count mode path m sound has_path)
job-acts pieces count is_open m sound act j (removes path way home led regular closed) =
    let found = led-found count path way home m sound led in
    let acts = remove-acts pieces count way home m found regular in
    on-its-way count is_open (remove_path path) m (job.Remove home) sound (removes path way home led regular closed)
    (behind-super pieces count (job.Remove home) home m (remove_led is_open m.disk (led_to m.disk path)) sound
    (place-small pieces count way home m found) refl
    (subst (λ (l : Led). Acts (count + 50000) count (remove_led is_open m.disk l) m (at_kind (job.Remove home) count home) m) (sym led)
    (subst (λ (p : Planned). Acts (count + 50000) count p m (at_kind (job.Remove home) count home) m)
    (sym (removed-plan is_open m.disk home way _ regular closed)) acts)))
job-acts pieces count is_open m sound act j (reads way home at n stands low) =
    let found : Found count way home m = record { sound = sound; stands = stands } in
    let it : Job = job.Read home at n in
    let bounded : is_bounded_job it ≡ true = low-bounded home at (place-small pieces count way home m found) low in
    on-its-way count is_open (read_file way at n) m it sound (reads way home at n stands low)
    (behind-super pieces count it home m (plan_of is_open m.disk (read_file way at n)) sound bounded refl
    (acts-file pieces count it way home m (λ place. read_plan m.disk place at n) found bounded
    (λ regular. read-acts pieces count way home at n m found regular low)))
job-acts pieces count is_open m sound act j (writes way home at n stands low few) =
    let found : Found count way home m = record { sound = sound; stands = stands } in
    let it : Job = job.Write home at n in
    let bounded : is_bounded_job it ≡ true = low-bounded home at (place-small pieces count way home m found) low in
    on-its-way count is_open (write_file way at (bytes_given m.page n)) m it sound (writes way home at n stands low few)
    (behind-super pieces count it home m (plan_of is_open m.disk (write_file way at (bytes_given m.page n))) sound bounded refl
    (acts-file pieces count it way home m (λ place. write_plan m.disk place at (bytes_given m.page n)) found bounded
    (λ regular. write-acts pieces count way home at n m found regular low few)))
job-acts pieces count is_open m sound act j (sizes way home size stands) =
    let found : Found count way home m = record { sound = sound; stands = stands } in
    let it : Job = job.SetSize home size in
    let bounded : is_bounded_job it ≡ true = place-small pieces count way home m found in
    on-its-way count is_open (set_file_size way size) m it sound (sizes way home size stands)
    (behind-super pieces count it home m (plan_of is_open m.disk (set_file_size way size)) sound bounded refl
    (acts-file pieces count it way home m (λ place. size_plan m.disk place size) found bounded
    (λ regular. size-acts pieces count way home size m found regular)))
job-acts pieces count is_open m sound act j (stats way home stands) =
    let found : Found count way home m = record { sound = sound; stands = stands } in
    let it : Job = job.Stat home in
    let bounded : is_bounded_job it ≡ true = place-small pieces count way home m found in
    on-its-way count is_open (stat_file way) m it sound (stats way home stands)
    (behind-super pieces count it home m (plan_of is_open m.disk (stat_file way)) sound bounded refl
    (acts-file pieces count it way home m (stat_plan m.disk) found bounded (λ regular. stat-acts pieces count way home m found regular)))

pub jobs_are_acts : Pieces → JobsAreActs
jobs_are_acts pieces count is_open act j m sound is = job-acts pieces count is_open m sound act j is

-- ---- looking up

find-led : Pieces → (count : ℕ) (path : List ℕ) (m : Memory) → IsSound count m → HasPath m.page path → is_good_path path ≡ true →
    (led : Led) → led_to m.disk path ≡ led →
    EndsWith count (found_place m.disk led) m (at_walk job.Find count (walk.Component 0 root_place)) m
find-led pieces count path m sound has_path good too_long e = good-leads m.disk path good e
find-led pieces count path m sound has_path good astray e = pieces.walks_stray count job.Find m path sound has_path finding e
find-led pieces count path m sound has_path good (no_record directory name) e =
    (pieces.walks_miss count job.Find m path name directory sound has_path finding e).3.0 refl
find-led pieces count path m sound has_path good (a_record place way) e =
    let found = led-found count path way place m sound e in
    let run = (pieces.walks_find count job.Find m path way place sound has_path finding e).1 refl in
    by (is_directory_at m.disk place) refl found run
  where
    by : (b : Bool) → is_directory_at m.disk place ≡ b → Found count way place m →
        Leads count (at_walk job.Find count (walk.FoundKind place)) m (at_walk job.Find count (walk.Component 0 root_place)) m →
        EndsWith count (found_place m.disk (a_record place way)) m (at_walk job.Find count (walk.Component 0 root_place)) m
    by true is found run =
        let ends = found-directory pieces count job.Find way place m found refl is in
        let told : found_place m.disk (a_record place way) ≡ negated E_INVAL = ap (λ (b : Bool). if b then negated E_INVAL else place) is in
        subst (λ (a : ℕ). EndsWith count a m (at_walk job.Find count (walk.Component 0 root_place)) m) (sym told)
        (leads_to_end (at_walk job.Find count (walk.Component 0 root_place)) m run ends.0 ends.1)
    by false is found run =
        let ends = found-answers pieces count job.Find way place m place found refl is refl in
        let told : found_place m.disk (a_record place way) ≡ place = ap (λ (b : Bool). if b then negated E_INVAL else place) is in
        subst (λ (a : ℕ). EndsWith count a m (at_walk job.Find count (walk.Component 0 root_place)) m) (sym told)
        (leads_to_end (at_walk job.Find count (walk.Component 0 root_place)) m run ends.0 ends.1)

pub finds_are_looks : Pieces → FindsAreLooks
finds_are_looks pieces count path m sound has_path =
    let ends = by (is_good_path path) refl in
    let soon = finds-few m sound ends.1 in
    (ends.0, soon.0, ends-of ends.1, soon.1)
  where
    by : (b : Bool) → is_good_path path ≡ b → EndsWith count (found_place m.disk (led_to m.disk path)) m
        (at_walk job.Find 0 (walk.Path 0 0)) m
    by true good =
        let ends = find-led pieces count path m sound has_path good (led_to m.disk path) refl in
        leads_to_end (at_walk job.Find 0 (walk.Path 0 0)) m (follows pieces count job.Find path m sound has_path finding good) ends.0 ends.1
    by false bad =
        subst (λ (led : Led). EndsWith count (found_place m.disk led) m (at_walk job.Find 0 (walk.Path 0 0)) m)
        (sym (bad-leads m.disk path bad))
        ((pieces.paths_are_read count job.Find path m sound.small has_path finding).1 bad)
