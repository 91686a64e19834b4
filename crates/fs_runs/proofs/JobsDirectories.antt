-- A directory that grows by a block of empty records.
use Rattle.std.proofs.Common.{◌≡◌, ◌∙◌, ◌+◌, ◌-◌, ◌*◌, ◌%◌, ◌<◌, ◌≤◌, ◌⊎◌, ℕ, Bool, true, false, List, [], ◌∷◌, ◌++◌}
use Rattle.std.proofs.Common.{length, Option, Some, None, refl, sym, ap, subst, arith, min}
use Rattle.std.specs.Prelude.{◌||◌, option_map, replicate, if◌then◌else◌}
use Rattle.fs_layout.specs.declared.numbers.TheConstants.{BLKFILES, BLKSIZE, NDIRECT, RECORDSIZE}
use Rattle.fs_layout.specs.FileTree.{NamedNode, Node, Records, a_directory, a_file, blocks_of, blocks_taken, listed, needs_indirect, records_from}
use Rattle.fs_layout.specs.DiskImage.{block_count, blocks_needed, has_indirect, is_directory_at, size_of}
use Rattle.fs_layout.specs.DiskFiles.{file_bytes, free_blocks, node_of, records_at}
use Rattle.fs_layout.proofs.FileTrees.{records_from-listed}
use Rattle.fs_acts.specs.BlockActs.{Change, fill, take_indirect, take_block, take_blocks, growth}
use Rattle.fs_acts.proofs.ComposedChanges.{changes-acts}
use Rattle.fs_acts.proofs.ComposedCreates.{directory-kept, one-taken, takes-both-records, unfilled}
use Rattle.fs_acts.proofs.ComposedRecords.{directory-is}
use Rattle.fs_acts.proofs.ComposedSizes.{idle, mark-counted, mark-grows, more-blocks, room-left, still-free}
use Rattle.fs_acts.proofs.ComposedSteps.{left_by}
use Rattle.fs_jobs.specs.declared.place.Job.{Job}
use Rattle.fs_changes.specs.ChangePlans.{gives_back}
use Rattle.fs_runs.specs.JobCalls.{take_calls}
use Rattle.fs_runs.specs.TreeRuns.{Memory}
use Rattle.fs_runs.proofs.Pieces.{with_disk}
use Rattle.fs_runs.proofs.JobsFacts.{Found, read_now}
use Rattle.fs_runs.proofs.JobsChanges.{Keeps, Takes, comes-taken, keeps-now}
use Rattle.fs_runs.proofs.JobsSizes.{Doing, Has, Run, comes-idle, free-there, marking, ran, run-append, run-most, run-one, works}

never : {A : Type 0} (b : Bool) → b ≡ false → b ≡ true → A
never b e f = let both : false ≡ true = sym e ∙ f in absurd (cc both)

takes-records : {count : ℕ} {j : Job} {home : ℕ} {way : List ℕ} (m : Memory) (list : List (Option NamedNode)) (indirect : Bool) →
    let end : ℕ = RECORDSIZE * length list + BLKSIZE in
    Doing count j home end → Has count way home m (a_directory (records_from list) indirect) → gives_back j ≡ false →
    blocks_taken end (indirect || needs_indirect end) ≤ blocks_taken (RECORDSIZE * length list) indirect + free_blocks m.disk →
    (mark : Bool)
    × Run count j home end way (take_calls count + take_calls count) m (take_indirect home ∷ take_block home end ∷ [])
    (a_directory (records_from (list ++ replicate BLKFILES None)) mark)
takes-records {count} {j} {home} {way} m list indirect does has back free =
    let size : ℕ = BLKSIZE * count in
    let long : ℕ = RECORDSIZE * length list in
    let end : ℕ = long + BLKSIZE in
    let both : List (Option NamedNode) = list ++ replicate BLKFILES None in
    let is = directory-is changes-acts size m.disk way home list indirect has.holds in
    let pair = takes-both-records changes-acts size m.disk way home list indirect has.holds does.short free in
    let mark : Bool = pair.first.mark in
    let more : long < end = omega arith in
    let above : blocks_of long < blocks_of end = more-blocks long end is.whole more in
    let full : min end (BLKSIZE * blocks_of long) ≤ long = all-full long is.whole in
    let keeps : Keeps j (read_now home end m.disk) = keeps-now j home end m.disk (λ so. never (gives_back j) back so) in
    let one : Run count j home end way (take_calls count) m (take_indirect home ∷ []) (a_directory (records_from list) mark) =
    run-one m (take_indirect home) (a_directory (records_from list) mark) pair.first.turns
    (marking does (take_calls count) m (a_directory (records_from list) indirect) has keeps
    (subst (λ (n : ℕ). min end (BLKSIZE * blocks_of n) ≤ n) (sym is.size) full)
    (subst (λ (n : ℕ). blocks_of n < blocks_of end) (sym is.size) above)
    (free-there indirect (needs_indirect end) (blocks_of long) (blocks_of end) (free_blocks m.disk) above free) (λ many none. omega arith)) in
    let mid : Memory = with_disk m (left_by (take_indirect home ∷ []) m.disk) in
    let next : Has count way home mid (a_directory (records_from list) mark) = ran has one in
    let now = directory-is changes-acts size mid.disk way home list mark next.holds in
    let kept = directory-kept changes-acts size m.disk way home list indirect mark (take_indirect home ∷ []) has.holds pair.first.turns in
    let still : Keeps j (read_now home end mid.disk) = keeps-now j home end mid.disk (λ so. never (gives_back j) back so) in
    let counted : (blocks_needed mid.disk home < NDIRECT) ⊎ (has_indirect mid.disk home ≡ true) =
    subst (λ (n : ℕ). (blocks_of n < NDIRECT) ⊎ (has_indirect mid.disk home ≡ true)) (sym now.size)
    (subst (λ (b : Bool). (blocks_of long < NDIRECT) ⊎ (b ≡ true)) (sym now.mark) (mark-counted indirect mark (blocks_of long) pair.first.is)) in
    let room : Takes count home end mid =
    record {
      disk = next.holds.sound;
      full = subst (λ (n : ℕ). min end (BLKSIZE * blocks_of n) ≤ n) (sym now.size) full;
      more = subst (λ (n : ℕ). blocks_of n < blocks_of end) (sym now.size) above;
      free =
          room-left indirect mark (needs_indirect end) (blocks_of long) (blocks_of end) (free_blocks m.disk) (free_blocks mid.disk) above
          (mark-grows indirect mark (blocks_of long) (blocks_of end) above pair.first.is) free kept;
    } in
    let two : Run count j home end way (take_calls count) mid (take_block home end ∷ []) (a_directory (records_from both) mark) =
    run-one mid (take_block home end) (a_directory (records_from both) mark) pair.second
    (comes-taken does.pieces count j home end mid (works does next) still room counted) in (
      mark,
      run-append m (take_indirect home ∷ []) (take_block home end ∷ []) (a_directory (records_from list) mark)
          (a_directory (records_from both) mark) one two,
    )
  where
    all-full : (long : ℕ) → long % 4096 ≡ 0 → min (long + 4096) (4096 * blocks_of long) ≤ long
    all-full long whole = omega arith

pub grows-directory : {count : ℕ} {j : Job} {home : ℕ} {way : List ℕ} (m : Memory) (list : List (Option NamedNode)) (indirect : Bool) →
    let end : ℕ = RECORDSIZE * length list + BLKSIZE in
    Doing count j home end → Has count way home m (a_directory (records_from list) indirect) → gives_back j ≡ false →
    blocks_taken end (indirect || needs_indirect end) ≤ blocks_taken (RECORDSIZE * length list) indirect + free_blocks m.disk →
    (mark : Bool)
    × Run count j home end way (take_calls count + take_calls count) m (growth m.disk home end)
    (a_directory (records_from (list ++ replicate BLKFILES None)) mark)
unfolding growth
grows-directory {count} {j} {home} {way} m list indirect does has back free =
    let size : ℕ = BLKSIZE * count in
    let long : ℕ = RECORDSIZE * length list in
    let end : ℕ = long + BLKSIZE in
    let both : List (Option NamedNode) = list ++ replicate BLKFILES None in
    let is = directory-is changes-acts size m.disk way home list indirect has.holds in
    let most : ℕ = min end (BLKSIZE * blocks_needed m.disk home) in
    let none = unfilled m.disk home most (full (size_of m.disk home) long is.size is.whole) in
    let one : Run count j home end way 0 m (fill home most ∷ []) (a_directory (records_from list) indirect) =
    run-one m (fill home most) (a_directory (records_from list) indirect)
    (idle size m.disk way home (a_directory (records_from list) indirect) (fill home most) has.holds none)
    (comes-idle count j home end 0 m (fill home most) none) in
    let kept = directory-kept changes-acts size m.disk way home list indirect indirect (fill home most ∷ []) has.holds one.turns in
    let second =
    takes-records (with_disk m (left_by (fill home most ∷ []) m.disk)) list indirect does (ran has one) back
    (still-free (blocks_taken long indirect) (blocks_taken long indirect) (blocks_taken end (indirect || needs_indirect end))
    (blocks_taken long indirect) (free_blocks (left_by (fill home most ∷ []) m.disk)) (free_blocks m.disk) free kept refl) in
    let mark : Bool = second.0 in (
      mark,
      subst (λ (n : ℕ). Run count j home end way (take_calls count + take_calls count) m (fill home most ∷ take_blocks n home end)
          (a_directory (records_from both) mark))
          (sym (one-block (size_of m.disk home) long is.size is.whole))
          (subst (λ (l : List Change). Run count j home end way (take_calls count + take_calls count) m (fill home most ∷ l)
          (a_directory (records_from both) mark))
          (sym (one-taken home end))
          (run-most (take_calls count + take_calls count) (omega arith)
          (run-append m (fill home most ∷ []) (take_indirect home ∷ take_block home end ∷ []) (a_directory (records_from list) indirect)
          (a_directory (records_from both) mark) one second.1))),
    )
  where
    full : (size long : ℕ) → size ≡ long → long % 4096 ≡ 0 → min (long + 4096) (4096 * blocks_of size) ≤ size
    full size long e whole = omega arith

    one-block : (size long : ℕ) → size ≡ long → long % 4096 ≡ 0 → blocks_of (long + 4096) - blocks_of size ≡ 1
    one-block size long e whole = omega arith

-- the size as the record has it
pub grows-by-block : {count : ℕ} {j : Job} {home : ℕ} {way : List ℕ} (m : Memory) (list : List (Option NamedNode)) (indirect : Bool) (long : ℕ) →
    RECORDSIZE * length list ≡ long → Doing count j home (long + BLKSIZE) → Has count way home m (a_directory (records_from list) indirect) →
    gives_back j ≡ false →
    blocks_taken (long + BLKSIZE) (indirect || needs_indirect (long + BLKSIZE)) ≤ blocks_taken long indirect + free_blocks m.disk →
    (mark : Bool) × Run count j home (long + BLKSIZE) way (take_calls count + take_calls count) m (growth m.disk home (long + BLKSIZE))
    (a_directory (records_from (list ++ replicate BLKFILES None)) mark)
grows-by-block {count} {j} {home} {way} m list indirect long e =
    subst (λ (n : ℕ). Doing count j home (n + BLKSIZE) → Has count way home m (a_directory (records_from list) indirect) → gives_back j ≡ false →
    blocks_taken (n + BLKSIZE) (indirect || needs_indirect (n + BLKSIZE)) ≤ blocks_taken n indirect + free_blocks m.disk →
    (mark : Bool) × Run count j home (n + BLKSIZE) way (take_calls count + take_calls count) m (growth m.disk home (n + BLKSIZE))
    (a_directory (records_from (list ++ replicate BLKFILES None)) mark)) e
    (λ does has back free. grows-directory m list indirect does has back free)

pub has-directory : {count : ℕ} {way : List ℕ} {home : ℕ} {m : Memory} → Found count way home m → is_directory_at m.disk home ≡ true →
    (list : List (Option NamedNode)) × Has count way home m (a_directory (records_from list) (has_indirect m.disk home))
has-directory {count} {way} {home} {m} found kind =
    let depth : ℕ = block_count m.disk in
    let mark : Bool = has_indirect m.disk home in
    let records : Records = records_at depth m.disk home in (
      listed records,
      record {
        small = found.sound.small;
        count_is = found.sound.count_is;
        holds =
            record {
              sound = found.sound.disk;
              stands = found.stands;
              is =
                  changes-acts.ways (BLKSIZE * count) m.disk found.sound.disk way
                  ∙ ap (option_map (node_of (records_at depth m.disk) m.disk)) found.stands
                  ∙ ap {B = Option Node} (λ (b : Bool). Some (if b then a_directory records mark else a_file (file_bytes m.disk home) mark)) kind
                  ∙ ap {B = Option Node} (λ (r : Records). Some (a_directory r mark)) (sym (records_from-listed records));
            };
      },
    )
