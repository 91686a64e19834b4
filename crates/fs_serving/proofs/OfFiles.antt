-- The steps of a request about a file that is open, from its number up to its job.
use Rattle.std.proofs.Common.{◌≡◌, ◌≢◌, ◌<◌, ◌≤◌, ◌∙◌, ℕ, ◌+◌, ◌%◌, ◌^◌, Bool, true, false, List, Option, Some, None, refl, sym, ap, subst}
use Rattle.std.proofs.lemmas.Bool.{false≢true}
use Rattle.std.proofs.Math.Nat.{mod-eq_of_lt}
use Rattle.jos_base.specs.declared.numbers.TheConstants.{PGSIZE}
use Rattle.jos_base.specs.Words.{word_at}
use Rattle.fs_layout.specs.DiskImage.{is_directory_at}
use Rattle.fs_layout.specs.FileTree.{FileAct, FileSystem, read_file, set_file_size, stat_file, write_file}
use Rattle.fs_acts.specs.BlockActs.{place_at}
use Rattle.fs_jobs.specs.declared.place.Job.TheVariants as job
use Rattle.fs_runs.specs.TreeRuns.{AreSmall, IsOnItsWay, IsSound, Memory, begun_with, bytes_given}
use Rattle.fs_runs.specs.TreeRuns as runs
use Rattle.fs_runs.proofs.JobsWhole.{all_jobs_are_acts}
use Rattle.lib_os.specs.declared.numbers.TheConstants.{FD_OFFSET, MAXOPEN, REQUEST_COUNT, REQUEST_FILE, REQUEST_PLACE}
use Rattle.lib_os.specs.declared.request.RequestKind.{RequestKind}
use Rattle.lib_os.specs.declared.request.RequestKind.TheVariants as kind
use Rattle.lib_os.specs.AbstractState.{AbstractState, Object, OpenFile, Request, act, busy, file, seek}
use Rattle.lib_os.specs.FileServer.{is_file_open}
use Rattle.fs_requests.specs.declared.state.ServerStep.TheVariants as step
use Rattle.fs_requests.specs.ServerPlans.{begun, count_by, hidden, job_by, next_for}
use Rattle.fs_serving.specs.ServerRuns.{AsksFor, HasFile, HasFiles, HasNumber, HasOffset, IsBusy, IsOpenAs}
use Rattle.fs_serving.specs.ServerRuns.{Follows, IsClosed, OpenAlike, StandsServing, TableStands, client_of}
use Rattle.fs_serving.specs.ServerRuns.{is_of_file, opens, reads, reads_at, removes, seeks, sizes, stats, sought, syncs, writes}
use Rattle.fs_serving.specs.ServerViews.{Serving, View, gone_on, page_word, place_told, request_word}
use Rattle.fs_serving.proofs.Pieces.{StepFollows}

-- ---- what is known of the file

-- whatever is asked of a file that is open, the file is at the place that the request names
pub record NamesFile (a : AbstractState) (page : ℕ → ℕ) : Type 0 where
  pub name : ℕ
  pub f : OpenFile
  pub open_as : IsOpenAs a page name f

pub names_file : (a : AbstractState) (page : ℕ → ℕ) (k : RequestKind) (request : Request) → AsksFor a page k request → is_of_file k ≡ true →
    NamesFile a page
names_file a page _ _ (opens path mode has is) of_file = absurd (false≢true of_file)
names_file a page _ _ (removes path has) of_file = absurd (false≢true of_file)
names_file a page _ _ (reads name f so) of_file = record { name = name; f = f; open_as = so }
names_file a page _ _ (reads_at name f so near) of_file = record { name = name; f = f; open_as = so }
names_file a page _ _ (writes name f so within) of_file = record { name = name; f = f; open_as = so }
names_file a page _ _ (sizes name f so) of_file = record { name = name; f = f; open_as = so }
names_file a page _ _ (stats name f so) of_file = record { name = name; f = f; open_as = so }
names_file a page _ _ (seeks name f so small) of_file = record { name = name; f = f; open_as = so }
names_file a page _ _ syncs of_file = absurd (false≢true of_file)

pub same_file : (x y : OpenFile) → file x ≡ file y → x ≡ y
same_file x y e = let is : ◌≡◌ {A = Object} (file x) (file y) = e in let it : ◌≡◌ {A = OpenFile} x y = cc in it

-- the file at its place, as the table tells it
pub record FileIs (disk : ℕ → ℕ) (v : View) (number : ℕ) (f : OpenFile) : Type 0 where
  pub home : place_at disk f.way ≡ Some (v.homes number)
  pub regular : is_directory_at disk (v.homes number) ≡ false
  pub offset : page_word v number FD_OFFSET ≡ f.offset
  pub small : f.offset < 2 ^ 31

pub file_is : (disk : ℕ → ℕ) (a : AbstractState) (v : View) (page : ℕ → ℕ) (name : ℕ) (f : OpenFile) → TableStands disk a v → IsOpenAs a page name f →
    FileIs disk v (word_at page REQUEST_FILE) f
file_is disk a v page name f table so =
    let has : HasFile disk a v (word_at page REQUEST_FILE) name = (table.places (word_at page REQUEST_FILE) so.below).holds name so.place so.held in
    subst (λ (g : OpenFile). FileIs disk v (word_at page REQUEST_FILE) g) (same_file has.f f (sym has.is ∙ so.is))
    (record { home = has.home; regular = has.regular; offset = has.offset; small = has.small })

-- ---- what is read of the request

pub reading_file : StepFollows step.ReadingFile
reading_file count a it before small files table so word v reply seen =
    subst (λ (w : View). StandsServing count a (gone_on it (next_for it.state step.ReadingFile word) w)) (sym seen)
    (record {
      before = before;
      files = files;
      table = table;
      at = (
        record {
          k = so.k;
          request = so.request;
          is_busy = record { server = so.is_busy.server; kind_is = so.is_busy.kind_is; asks = so.is_busy.asks };
          of_file = so.of_file;
          memory = so.memory;
        },
        numbered,
      );
    })
  where
    asked : NamesFile a before.page
    asked = names_file a before.page so.k so.request so.is_busy.asks so.of_file

    same : request_word it.view REQUEST_FILE ≡ word_at before.page REQUEST_FILE
    same = ap (λ (m : Memory). word_at m.page REQUEST_FILE) so.memory

    below : word < MAXOPEN
    below = subst (λ (n : ℕ). n < MAXOPEN) (sym (reply ∙ same)) asked.open_as.below

    numbered : word % MAXOPEN ≡ request_word it.view REQUEST_FILE
    numbered = mod-eq_of_lt below ∙ reply

pub reading_offset : StepFollows step.ReadingOffset
reading_offset count a it before small files table (so, number) word v reply seen =
    subst (λ (w : View). StandsServing count a (gone_on it (next_for it.state step.ReadingOffset word) w)) (sym seen)
    (record {
      before = before;
      files = files;
      table = table;
      at = (
        record {
          k = so.k;
          request = so.request;
          is_busy = record { server = so.is_busy.server; kind_is = so.is_busy.kind_is; asks = so.is_busy.asks };
          of_file = so.of_file;
          memory = so.memory;
        },
        number,
        reply,
      );
    })

-- ---- the count, or the place that is sought

module _ (count : ℕ) (a : AbstractState) (it : Serving) (before : Memory) (files : HasFiles count before a.files)
    (table : TableStands before.disk a it.view) (memory : it.view.memory ≡ before) (number : HasNumber it) (offset : HasOffset it)
    (word : ℕ) (reply : word ≡ request_word it.view REQUEST_COUNT) where
  other-kind : (k : RequestKind) → k ≢ kind.Seek → it.state.kind ≡ Some k → it.state.kind ≢ Some kind.Seek
  other-kind k other is e =
      other (let same : ◌≡◌ {A = Option RequestKind} (Some k) (Some kind.Seek) = sym is ∙ e in let it : ◌≡◌ {A = RequestKind} k kind.Seek = cc in it)

  -- all but a seek reads the record's place next
  goes_on : (k : RequestKind) (request : Request) → IsBusy a it before None k request → is_of_file k ≡ true → k ≢ kind.Seek →
      StandsServing count a (gone_on it (hidden (record it.state { count = word }) step.ReadingRecord) it.view)
  goes_on k request is_busy of_file other =
      record {
        before = before;
        files = files;
        table = table;
        at = (
          record {
            k = k;
            request = request;
            is_busy = record { server = is_busy.server; kind_is = is_busy.kind_is; asks = is_busy.asks };
            of_file = of_file;
            memory = memory;
          },
          number,
          offset,
          reply,
          other-kind k other is_busy.kind_is,
        );
      }

  counted : (k : RequestKind) (request : Request) → it.state.kind ≡ Some k → a.server ≡ busy (client_of it.state) request None →
      AsksFor a before.page k request → is_of_file k ≡ true →
      Follows count a (count_by (Some k) it.state word).seen (gone_on it (count_by (Some k) it.state word) it.view)
  counted _ _ is server (opens path mode has mode_is) of_file = absurd (false≢true of_file)
  counted _ _ is server (removes path has) of_file = absurd (false≢true of_file)
  counted _ _ is server syncs of_file = absurd (false≢true of_file)
  counted _ _ is server (seeks name f so small) of_file =
      record {
        before = before;
        files = files;
        table = table;
        at =
            sought name
            (record {
              server = subst (λ (n : ℕ). a.server ≡ busy (client_of it.state) (seek name n) None) (sym told) server;
              kind_is = is;
              asks = subst (λ (n : ℕ). AsksFor a before.page kind.Seek (seek name n)) (sym told) (seeks name f so small);
            })
            numbered told refl memory;
      }
    where
      told : word ≡ word_at before.page REQUEST_COUNT
      told = reply ∙ ap (λ (m : Memory). word_at m.page REQUEST_COUNT) memory

      numbered : it.state.number ≡ word_at before.page REQUEST_FILE
      numbered = number ∙ ap (λ (m : Memory). word_at m.page REQUEST_FILE) memory
  counted _ _ is server (reads name f so) of_file =
      goes_on kind.Read _ (record { server = server; kind_is = is; asks = reads name f so }) refl (λ e. cc)
  counted _ _ is server (reads_at name f so near) of_file =
      goes_on kind.ReadAt _ (record { server = server; kind_is = is; asks = reads_at name f so near }) refl (λ e. cc)
  counted _ _ is server (writes name f so within) of_file =
      goes_on kind.Write _ (record { server = server; kind_is = is; asks = writes name f so within }) refl (λ e. cc)
  counted _ _ is server (sizes name f so) of_file =
      goes_on kind.SetSize _ (record { server = server; kind_is = is; asks = sizes name f so }) refl (λ e. cc)
  counted _ _ is server (stats name f so) of_file =
      goes_on kind.Stat _ (record { server = server; kind_is = is; asks = stats name f so }) refl (λ e. cc)

pub reading_count : StepFollows step.ReadingCount
reading_count count a it before small files table (so, number, offset) word v reply seen =
    subst (λ (w : View). Follows count a (count_by it.state.kind it.state word).seen (gone_on it (count_by it.state.kind it.state word) w)) (sym seen)
    (subst (λ (k : Option RequestKind). Follows count a (count_by k it.state word).seen (gone_on it (count_by k it.state word) it.view))
    (sym so.is_busy.kind_is)
    (counted count a it before files table so.memory number offset word reply so.k so.request so.is_busy.kind_is so.is_busy.server so.is_busy.asks
    so.of_file))

-- ---- the job

sound : (count : ℕ) (files : FileSystem) (before m : Memory) → HasFiles count before files → m ≡ before → AreSmall m → IsSound count before
sound count files before m has same small =
    record { disk = has.disk; count_is = has.count_is; small = subst AreSmall same small }

-- a job that is begun by what was read is that of the act
reads_begin : (count : ℕ) (is_open : List ℕ → Bool) (way : List ℕ) (home at n : ℕ) (before m : Memory) (x y : ℕ) → IsSound count before →
    place_at before.disk way ≡ Some home → at < 2 ^ 31 → m ≡ before → x ≡ at → y ≡ n →
    IsOnItsWay count is_open (read_file way at n) before (begun_with (job.Read home x y)) m
reads_begin count is_open way home at n before m x y whole stands short same at_is n_is =
    subst (λ (z : Memory). IsOnItsWay count is_open (read_file way at n) before (begun_with (job.Read home x y)) z) (sym same)
    (subst (λ (p : ℕ). IsOnItsWay count is_open (read_file way at n) before (begun_with (job.Read home p y)) before) (sym at_is)
    (subst (λ (p : ℕ). IsOnItsWay count is_open (read_file way at n) before (begun_with (job.Read home at p)) before) (sym n_is)
    (all_jobs_are_acts count is_open (read_file way at n) (job.Read home at n) before whole (runs.reads way home at n stands short))))

writes_begin : (count : ℕ) (is_open : List ℕ → Bool) (way : List ℕ) (home at n : ℕ) (before m : Memory) (x y : ℕ) → IsSound count before →
    place_at before.disk way ≡ Some home → at < 2 ^ 31 → n + 8 ≤ PGSIZE → m ≡ before → x ≡ at → y ≡ n →
    IsOnItsWay count is_open (write_file way at (bytes_given before.page n)) before (begun_with (job.Write home x y)) m
writes_begin count is_open way home at n before m x y whole stands short within same at_is n_is =
    let f = write_file way at (bytes_given before.page n) in
    subst (λ (z : Memory). IsOnItsWay count is_open f before (begun_with (job.Write home x y)) z) (sym same)
    (subst (λ (p : ℕ). IsOnItsWay count is_open f before (begun_with (job.Write home p y)) before) (sym at_is)
    (subst (λ (p : ℕ). IsOnItsWay count is_open f before (begun_with (job.Write home at p)) before) (sym n_is)
    (all_jobs_are_acts count is_open f (job.Write home at n) before whole (runs.writes way home at n stands short within))))

sizes_begin : (count : ℕ) (is_open : List ℕ → Bool) (way : List ℕ) (home n : ℕ) (before m : Memory) (y : ℕ) → IsSound count before →
    place_at before.disk way ≡ Some home → m ≡ before → y ≡ n →
    IsOnItsWay count is_open (set_file_size way n) before (begun_with (job.SetSize home y)) m
sizes_begin count is_open way home n before m y whole stands same n_is =
    subst (λ (z : Memory). IsOnItsWay count is_open (set_file_size way n) before (begun_with (job.SetSize home y)) z) (sym same)
    (subst (λ (p : ℕ). IsOnItsWay count is_open (set_file_size way n) before (begun_with (job.SetSize home p)) before) (sym n_is)
    (all_jobs_are_acts count is_open (set_file_size way n) (job.SetSize home n) before whole (runs.sizes way home n stands)))

stats_begin : (count : ℕ) (is_open : List ℕ → Bool) (way : List ℕ) (home : ℕ) (before m : Memory) → IsSound count before →
    place_at before.disk way ≡ Some home → m ≡ before → IsOnItsWay count is_open (stat_file way) before (begun_with (job.Stat home)) m
stats_begin count is_open way home before m whole stands same =
    subst (λ (z : Memory). IsOnItsWay count is_open (stat_file way) before (begun_with (job.Stat home)) z) (sym same)
    (all_jobs_are_acts count is_open (stat_file way) (job.Stat home) before whole (runs.stats way home stands))

module _ (count : ℕ) (a : AbstractState) (it : Serving) (before : Memory) (files : HasFiles count before a.files)
    (table : TableStands before.disk a it.view) (small : AreSmall it.view.memory) (memory : it.view.memory ≡ before) (number : HasNumber it)
    (offset : HasOffset it) (counts : it.state.count ≡ request_word it.view REQUEST_COUNT) (word : ℕ)
    (reply : word ≡ it.view.homes it.state.number) where
  whole : IsSound count before
  whole = sound count a.files before it.view.memory files memory small

  numbered : it.state.number ≡ word_at before.page REQUEST_FILE
  numbered = number ∙ ap (λ (m : Memory). word_at m.page REQUEST_FILE) memory

  counted-so : it.state.count ≡ word_at before.page REQUEST_COUNT
  counted-so = counts ∙ ap (λ (m : Memory). word_at m.page REQUEST_COUNT) memory

  -- where it is told by the request
  placed-so : it.state.kind ≡ Some kind.ReadAt → it.state.at ≡ word_at before.page REQUEST_PLACE
  placed-so is =
      offset ∙ ap (λ (o : Option RequestKind). place_told o it.view it.state.number) is
      ∙ ap (λ (m : Memory). word_at m.page REQUEST_PLACE) memory

  module _ (name : ℕ) (f : OpenFile) (so : IsOpenAs a before.page name f) where
    there : FileIs before.disk it.view it.state.number f
    there = subst (λ (n : ℕ). FileIs before.disk it.view n f) (sym numbered) (file_is before.disk a it.view before.page name f table so)

    stands : place_at before.disk f.way ≡ Some word
    stands = there.home ∙ ap Some (sym reply)

    -- where its place of the next byte is told by its page
    at_is : (k : RequestKind) → it.state.kind ≡ Some k → place_told (Some k) it.view it.state.number ≡ page_word it.view it.state.number FD_OFFSET →
        it.state.at ≡ f.offset
    at_is k is by_page = offset ∙ ap (λ (o : Option RequestKind). place_told o it.view it.state.number) is ∙ by_page ∙ there.offset

  -- behind this the job of the act is under way
  works : (k : RequestKind) (f : FileAct) (object : Option ℕ) → IsBusy a it before None k (act f object) → k ≢ kind.Open → k ≢ kind.Sync →
      OpenAlike (is_file_open a) (is_file_open a) before.disk f → IsClosed (is_file_open a) before.disk f →
      IsOnItsWay count (is_file_open a) f before (begun_with (job_by (Some k) it.state word)) it.view.memory →
      StandsServing count a (gone_on it (begun it.state step.Working (job_by (Some k) it.state word)) it.view)
  works k f object is_busy other no_sync alike closed on_its_way =
      record {
        before = before;
        files = files;
        table = table;
        at =
            record {
              k = k;
              f = f;
              object = object;
              place = None;
              is_busy = record { server = is_busy.server; kind_is = is_busy.kind_is; asks = is_busy.asks };
              is_open = is_file_open a;
              alike = alike;
              closed = closed;
              on_its_way = on_its_way;
              opening = λ e. absurd (other e);
              moving = λ moves. numbered;
              no_place = λ moves. refl;
              no_sync = no_sync;
            };
      }

  begins : (k : RequestKind) (request : Request) → it.state.kind ≡ Some k → k ≢ kind.Seek → a.server ≡ busy (client_of it.state) request None →
      AsksFor a before.page k request → is_of_file k ≡ true →
      StandsServing count a (gone_on it (begun it.state step.Working (job_by (Some k) it.state word)) it.view)
  begins _ _ is other server (opens path mode has mode_is) of_file = absurd (false≢true of_file)
  begins _ _ is other server (removes path has) of_file = absurd (false≢true of_file)
  begins _ _ is other server syncs of_file = absurd (false≢true of_file)
  begins _ _ is other server (seeks name f so within) of_file = absurd (other refl)
  begins _ _ is other server (reads name f so) of_file =
      works kind.Read (read_file f.way f.offset (word_at before.page REQUEST_COUNT)) (Some name)
      (record { server = server; kind_is = is; asks = reads name f so }) (λ e. cc) (λ e. cc) tt tt
      (reads_begin count (is_file_open a) f.way word f.offset (word_at before.page REQUEST_COUNT) before it.view.memory it.state.at it.state.count
      whole (stands name f so) (there name f so).small memory (at_is name f so kind.Read is refl) counted-so)
  begins _ _ is other server (reads_at name f so near) of_file =
      works kind.ReadAt (read_file f.way (word_at before.page REQUEST_PLACE) (word_at before.page REQUEST_COUNT)) None
      (record { server = server; kind_is = is; asks = reads_at name f so near }) (λ e. cc) (λ e. cc) tt tt
      (reads_begin count (is_file_open a) f.way word (word_at before.page REQUEST_PLACE) (word_at before.page REQUEST_COUNT) before it.view.memory
      it.state.at it.state.count whole (stands name f so) near memory (placed-so is) counted-so)
  begins _ _ is other server (writes name f so within) of_file =
      works kind.Write (write_file f.way f.offset (bytes_given before.page (word_at before.page REQUEST_COUNT))) (Some name)
      (record { server = server; kind_is = is; asks = writes name f so within }) (λ e. cc) (λ e. cc) tt tt
      (writes_begin count (is_file_open a) f.way word f.offset (word_at before.page REQUEST_COUNT) before it.view.memory it.state.at it.state.count
      whole (stands name f so) (there name f so).small within memory (at_is name f so kind.Write is refl) counted-so)
  begins _ _ is other server (sizes name f so) of_file =
      works kind.SetSize (set_file_size f.way (word_at before.page REQUEST_COUNT)) None
      (record { server = server; kind_is = is; asks = sizes name f so }) (λ e. cc) (λ e. cc) tt tt
      (sizes_begin count (is_file_open a) f.way word (word_at before.page REQUEST_COUNT) before it.view.memory it.state.count whole
      (stands name f so) memory counted-so)
  begins _ _ is other server (stats name f so) of_file =
      works kind.Stat (stat_file f.way) None (record { server = server; kind_is = is; asks = stats name f so }) (λ e. cc) (λ e. cc) tt tt
      (stats_begin count (is_file_open a) f.way word before it.view.memory whole (stands name f so) memory)

pub reading_record : StepFollows step.ReadingRecord
reading_record count a it before small files table (so, number, offset, counts, other) word v reply seen =
    subst (λ (w : View). StandsServing count a (gone_on it (next_for it.state step.ReadingRecord word) w)) (sym seen)
    (subst (λ (k : Option RequestKind). StandsServing count a (gone_on it (begun it.state step.Working (job_by k it.state word)) it.view))
    (sym so.is_busy.kind_is)
    (begins count a it before files table small so.memory number offset counts word reply so.k so.request so.is_busy.kind_is
    (λ e. other (so.is_busy.kind_is ∙ ap Some e)) so.is_busy.server so.is_busy.asks so.of_file))
