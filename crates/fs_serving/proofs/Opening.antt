-- From a request that has come up to the job of an open: what is asked for and by whom, the search for a place, and the page of a place that had none.
use Rattle.std.proofs.Common.{◌≡◌, ◌∙◌, ◌<◌, ◌+◌, ◌/◌, ◌%◌, ℕ, Bool, true, false, not, List, [], Option, Some, None}
use Rattle.std.proofs.Common.{refl, sym, ap, subst, arith}
use Rattle.std.specs.Prelude.{◌==◌, nat_le, nat_lt, is_some, if◌then◌else◌}
use Rattle.std.proofs.lemmas.Bool.{false≢true}
use Rattle.std.proofs.lemmas.Bool.Decides.{Decides-eqb, nat_tests, not_from_Decides}
use Rattle.jos_base.specs.declared.numbers.TheConstants.{E_MAX_OPEN, NENV, PGSIZE}
use Rattle.jos_base.specs.Words.{negated, word_at}
use Rattle.jos_base.proofs.Maps.{upd-at, upd-other}
use Rattle.fs_layout.specs.FileTree.{open_path}
use Rattle.fs_acts.specs.BlockActs.{led_to}
use Rattle.fs_jobs.specs.declared.place.Job.TheVariants as job
use Rattle.fs_runs.specs.JobCalls.{find_calls_max}
use Rattle.fs_runs.specs.TreeRuns as tree
use Rattle.fs_runs.specs.TreeRuns.{AreSmall, HasPath, IsOnItsWay, IsRunning, IsSound, Memory, begun_with, found_place}
use Rattle.fs_runs.proofs.JobsWhole.{all_finds_are_looks, all_jobs_are_acts}
use Rattle.lib_os.specs.declared.numbers.TheConstants.{MAXOPEN, REQUEST_MODE}
use Rattle.lib_os.specs.declared.progress.Progress.TheVariants as progress
use Rattle.lib_os.specs.declared.request.RequestKind.{RequestKind}
use Rattle.lib_os.specs.declared.request.RequestKind.TheVariants as kind
use Rattle.lib_os.specs.Requests as requests
use Rattle.lib_os.specs.AbstractState.{AbstractState, Request, TablePlace, act, acted, busy, looking}
use Rattle.lib_os.specs.FileServer.{is_file_open, is_held_by, looked, request_begun, served, server_step}
use Rattle.fs_requests.specs.declared.plan.ServerNext.{ServerNext}
use Rattle.fs_requests.specs.declared.state.ServerStep.{ServerStep}
use Rattle.fs_requests.specs.declared.state.ServerStep.TheVariants as step
use Rattle.fs_requests.specs.ServerPlans as plans
use Rattle.fs_serving.specs.ServerRuns as runs
use Rattle.fs_serving.specs.ServerRuns.{AsksFor, Follows, HasFiles, HasFrame, IsLooking, IsOpening, TableStands}
use Rattle.fs_serving.specs.ServerRuns.{WasUsed, client_of}
use Rattle.fs_serving.specs.ServerViews.{Serving, View, gone_on, with_new_page}
use Rattle.fs_serving.proofs.Pieces.{StepFollows}
use Rattle.fs_serving.proofs.Tables.{nobodys, place-free, place-kept, table-seen, table-taken, with_taken}
use Rattle.fs_serving.proofs.SameTables.{table-behind}

-- ---- the request

kind-back : (k : RequestKind) → requests.request_kind (requests.request_word k) ≡ Some k
kind-back kind.Open = refl
kind-back kind.SetSize = refl
kind-back kind.Read = refl
kind-back kind.Write = refl
kind-back kind.Stat = refl
kind-back kind.Remove = refl
kind-back kind.Sync = refl
kind-back kind.Seek = refl
kind-back kind.ReadAt = refl

pub reading_kind : StepFollows step.ReadingKind
reading_kind count a it before small files table (k, value, come) word v reply seen =
    let next : ServerNext = plans.next_for it.state step.ReadingKind word in
    subst (λ (w : View). Follows count a progress.Hidden (gone_on it next w)) (sym seen) (record {
      before = before;
      files = files;
      table = table;
      at = (
        k,
        ap requests.request_kind (reply ∙ value) ∙ kind-back k,
        record { request = come.request; server = come.server; asks = come.asks; memory = come.memory },
      );
    })

pub sound : (count : ℕ) (a : AbstractState) (m before : Memory) → AreSmall m → HasFiles count before a.files → m ≡ before → IsSound count before
sound count a m before small files same =
    record { disk = files.disk; count_is = files.count_is; small = subst (λ (n : Memory). AreSmall n) same small }

-- where it goes by what is asked for
abbrev GoesBy : ℕ → AbstractState → Serving → ServerNext → Type 0
GoesBy count a it next = Follows count a next.seen (gone_on it next it.view)

module _ (count : ℕ) (a : AbstractState) (it : Serving) (before : Memory) (sender : ℕ) (small : AreSmall it.view.memory)
    (files : HasFiles count before a.files) (table : TableStands before.disk a it.view) (memory : it.view.memory ≡ before) where
  of-file : (k : RequestKind) (request : Request) → it.state.kind ≡ Some k → a.server ≡ busy (sender % NENV) request None →
      AsksFor a before.page k request → runs.is_of_file k ≡ true →
      GoesBy count a it (plans.hidden (record it.state { client = sender; number = 0 }) step.ReadingFile)
  of-file k request kind_is server asks of_file =
      record {
        before = before;
        files = files;
        table = table;
        at =
            record {
              k = k;
              request = request;
              is_busy = record { server = server; kind_is = kind_is; asks = asks };
              of_file = of_file;
              memory = memory;
            };
      }

  by-asked : (k : RequestKind) (request : Request) → it.state.kind ≡ Some k → a.server ≡ request_begun (sender % NENV) request →
      AsksFor a before.page k request → GoesBy count a it (plans.request_by (Some k) (record it.state { client = sender; number = 0 }))
  by-asked kind.Open request kind_is server (runs.opens path mode has_path mode_is) =
      record {
        before = before;
        files = files;
        table = table;
        at =
            record {
              path = path;
              mode = mode;
              server = server;
              kind_is = kind_is;
              asks = runs.opens path mode has_path mode_is;
              below = omega arith;
              memory = memory;
            };
      }
  by-asked kind.Remove request kind_is server (runs.removes path has_path) =
      let found = all_finds_are_looks count path before (sound count a it.view.memory before small files memory) has_path in
      record {
        before = before;
        files = files;
        table = table;
        at =
            runs.removed (record {
              path = path;
              is_busy = record { server = server; kind_is = kind_is; asks = runs.removes path has_path };
              first = refl;
              running =
                  subst
                  (λ (m : Memory).
                  IsRunning (find_calls_max count) count (found_place before.disk (led_to before.disk path)) before (begun_with job.Find) m)
                  (sym memory) (record { left = found.0; soon = found.1; ends = found.2; few = found.3 });
            });
      }
  by-asked kind.Sync request kind_is server runs.syncs =
      record {
        before = before;
        files = files;
        table = table;
        at = (record { server = server; kind_is = kind_is; asks = runs.syncs }, memory);
      }
  by-asked kind.Read request kind_is server (runs.reads name f is_open) = of-file kind.Read request kind_is server (runs.reads name f is_open) refl
  by-asked kind.ReadAt request kind_is server (runs.reads_at name f is_open near) =
      of-file kind.ReadAt request kind_is server (runs.reads_at name f is_open near) refl
  by-asked kind.Write request kind_is server (runs.writes name f is_open fits) =
      of-file kind.Write request kind_is server (runs.writes name f is_open fits) refl
  by-asked kind.SetSize request kind_is server (runs.sizes name f is_open) =
      of-file kind.SetSize request kind_is server (runs.sizes name f is_open) refl
  by-asked kind.Stat request kind_is server (runs.stats name f is_open) = of-file kind.Stat request kind_is server (runs.stats name f is_open) refl
  by-asked kind.Seek request kind_is server (runs.seeks name f is_open small_) =
      of-file kind.Seek request kind_is server (runs.seeks name f is_open small_) refl

pub reading_client : StepFollows step.ReadingClient
reading_client count a it before small files table (k, kind_is, come) word v reply seen =
    let next : ℕ → ServerNext = plans.next_for it.state step.ReadingClient in
    subst (λ (w : View). Follows count a (next word).seen (gone_on it (next word) w)) (sym seen)
    (subst (λ (n : ℕ). GoesBy count a it (next n)) (sym reply)
    (subst (λ (o : Option RequestKind). GoesBy count a it (plans.request_by o (record it.state { client = it.view.sender; number = 0 }))) (sym kind_is)
    (by-asked count a it before it.view.sender small files table come.memory k come.request kind_is come.server come.asks)))

-- ---- the search for a place

-- what an open asks for
pub path-asked : (a : AbstractState) (page : ℕ → ℕ) (path : List ℕ) (mode : ℕ) → AsksFor a page kind.Open (act (open_path path mode) None) →
    HasPath page path × (word_at page REQUEST_MODE ≡ mode)
path-asked a page _ _ (runs.opens path mode has_path mode_is) = (has_path, mode_is)

-- whoever is there
pub path-asks : (a b : AbstractState) (page : ℕ → ℕ) (path : List ℕ) (mode : ℕ) → AsksFor a page kind.Open (act (open_path path mode) None) →
    AsksFor b page kind.Open (act (open_path path mode) None)
path-asks a b page path mode asks = let asked = path-asked a page path mode asks in runs.opens path mode asked.0 asked.1

looks : (a : AbstractState) (client : ℕ) (request : Request) (k : ℕ) (b : AbstractState) → a.server ≡ looking client request k →
    looked a client request k ≡ b → server_step a ≡ Some b
unfolding server_step
looks a client request k b server is = ap (served a) server ∙ ap (λ (s : AbstractState). Some s) is

-- a place that is free is taken
abbrev taking : AbstractState → ℕ → Request → ℕ → AbstractState
taking a client request k = with_taken a k (busy client request (Some k))

looked-free : (a : AbstractState) (client : ℕ) (request : Request) (k : ℕ) → is_held_by a (a.opened k).held_by ≡ false →
    looked a client request k ≡ taking a client request k
looked-free a client request k free =
    ap
    (λ (h : Bool).
    if not h then taking a client request k
    else if nat_lt (k + 1) MAXOPEN then record a { server = looking client request (k + 1) }
    else record a { server = acted client (negated E_MAX_OPEN) [] None }) free

looked-on : (a : AbstractState) (client : ℕ) (request : Request) (k : ℕ) (more : Bool) → is_held_by a (a.opened k).held_by ≡ true →
    nat_lt (k + 1) MAXOPEN ≡ more → looked a client request k
    ≡ (if more then record a { server = looking client request (k + 1) } else record a { server = acted client (negated E_MAX_OPEN) [] None })
looked-on a client request k more is_held is_more =
    ap
    (λ (h : Bool).
    if not h then taking a client request k
    else if nat_lt (k + 1) MAXOPEN then record a { server = looking client request (k + 1) }
    else record a { server = acted client (negated E_MAX_OPEN) [] None }) is_held
    ∙ ap
    (λ (m : Bool).
    if m then record a { server = looking client request (k + 1) } else record a { server = acted client (negated E_MAX_OPEN) [] None }) is_more

module _ (count : ℕ) (a : AbstractState) (it : Serving) (before : Memory) (files : HasFiles count before a.files)
    (table : TableStands before.disk a it.view) (so : IsLooking a it before) where
  -- it has the place
  opening : (next : ServerStep) → is_held_by a (a.opened it.state.number).held_by ≡ false →
      IsOpening (taking a (client_of it.state) (act (open_path so.path so.mode) None) it.state.number)
      (record { state = record it.state { step = next }; job = it.job; view = it.view }) before so.path so.mode
  opening next free =
      let here = upd-at a.opened it.state.number (record { held_by = None; used = true }) in
      record {
        is_busy =
            record {
              server = refl;
              kind_is = so.kind_is;
              asks =
                  path-asks a (taking a (client_of it.state) (act (open_path so.path so.mode) None) it.state.number) before.page so.path so.mode
                  so.asks;
            };
        below = so.below;
        nobodys = ap (λ (p : TablePlace). p.held_by) here;
        used = ap (λ (p : TablePlace). p.used) here;
      }

  takes : is_held_by a (a.opened it.state.number).held_by ≡ false →
      server_step a ≡ Some (taking a (client_of it.state) (act (open_path so.path so.mode) None) it.state.number)
  takes free =
      looks a (client_of it.state) (act (open_path so.path so.mode) None) it.state.number
      (taking a (client_of it.state) (act (open_path so.path so.mode) None) it.state.number) so.server
      (looked-free a (client_of it.state) (act (open_path so.path so.mode) None) it.state.number free)

  looking-at : (word : ℕ) → word ≡ it.view.homes it.state.number → GoesBy count a it (plans.next_for it.state step.LookingRecord word)
  looking-at word reply = by_test (word == 0) refl
    where
      by_test : (b : Bool) → (word == 0) ≡ b →
          GoesBy count a it (if b then plans.shown it.state step.TakingPage else plans.hidden it.state step.LookingEntry)
      by_test true is =
          let none : it.view.homes it.state.number ≡ 0 = sym reply ∙ (Decides-eqb word 0).0 is in
          let free : is_held_by a (a.opened it.state.number).held_by ≡ false =
          ap (is_held_by a) ((table.places it.state.number so.below).unused none) in (
            taking a (client_of it.state) (act (open_path so.path so.mode) None) it.state.number,
            takes free,
            record {
              before = before;
              files = files;
              table =
                  table-taken before.disk a it.view it.state.number
                  (busy (client_of it.state) (act (open_path so.path so.mode) None) (Some it.state.number)) so.below free table;
              at = (so.path, so.mode, opening step.TakingPage free, none, so.memory);
            },
          )
      by_test false is =
          record {
            before = before;
            files = files;
            table = table;
            at = (
              record {
                path = so.path;
                mode = so.mode;
                server = so.server;
                kind_is = so.kind_is;
                asks = so.asks;
                below = so.below;
                memory = so.memory;
              },
              λ none. not_from_Decides (word == 0) (Decides-eqb word 0) is (reply ∙ none),
            );
          }

  -- a place that is held
  held-on : is_held_by a (a.opened it.state.number).held_by ≡ true → (last : Bool) →
      nat_le MAXOPEN (it.state.number % MAXOPEN + 1) ≡ last →
      GoesBy count a it
      (if last then plans.acted it.state (negated E_MAX_OPEN) else plans.shown (plans.further it.state) step.LookingRecord)
  held-on is_held true is =
      let client : ℕ = client_of it.state in
      let request : Request = act (open_path so.path so.mode) None in
      let no_more : nat_lt (it.state.number + 1) MAXOPEN ≡ false = last-place it.state.number so.below is in (
        record a { server = acted client (negated E_MAX_OPEN) [] None },
        looks a client request it.state.number (record a { server = acted client (negated E_MAX_OPEN) [] None }) so.server
            (looked-on a client request it.state.number false is_held no_more),
        record {
          before = before;
          files = files;
          table = table-behind before.disk a it.view a.files (acted client (negated E_MAX_OPEN) [] None) table;
          at =
              record {
                bytes = [];
                object = None;
                server = refl;
                memory = so.memory;
                handed = λ i less. absurd (omega (arith, less));
                has_object = λ opens none. absurd (omega (arith, none));
              };
        },
      )
    where
      last-place : (n : ℕ) → n < MAXOPEN → nat_le MAXOPEN (n % MAXOPEN + 1) ≡ true → nat_lt (n + 1) MAXOPEN ≡ false
      last-place n below test =
          let same : n % 1024 ≡ n = omega (arith, below) in
          let at : nat_le 1024 (n + 1) ≡ true = ap (λ (m : ℕ). nat_le 1024 (m + 1)) (sym same) ∙ test in
          grind (arith, nat_tests)
  held-on is_held false is =
      let client : ℕ = client_of it.state in
      let request : Request = act (open_path so.path so.mode) None in
      let same : it.state.number % MAXOPEN ≡ it.state.number = small-mod it.state.number so.below in
      let more : nat_lt (it.state.number + 1) MAXOPEN ≡ true = further-place it.state.number so.below is in
      let less : it.state.number + 1 < MAXOPEN = below-of it.state.number more in (
        record a { server = looking client request (it.state.number + 1) },
        looks a client request it.state.number (record a { server = looking client request (it.state.number + 1) }) so.server
            (looked-on a client request it.state.number true is_held more),
        record {
          before = before;
          files = files;
          table = table-behind before.disk a it.view a.files (looking client request (it.state.number + 1)) table;
          at =
              record {
                path = so.path;
                mode = so.mode;
                server = ap (λ (n : ℕ). looking client request (n + 1)) (sym same);
                kind_is = so.kind_is;
                asks = path-asks a (record a { server = looking client request (it.state.number + 1) }) before.page so.path so.mode so.asks;
                below = subst (λ (n : ℕ). n + 1 < MAXOPEN) (sym same) less;
                memory = so.memory;
              };
        },
      )
    where
      small-mod : (n : ℕ) → n < MAXOPEN → n % MAXOPEN ≡ n
      small-mod n below = omega (arith, below)

      further-place : (n : ℕ) → n < MAXOPEN → nat_le MAXOPEN (n % MAXOPEN + 1) ≡ false → nat_lt (n + 1) MAXOPEN ≡ true
      further-place n below test =
          let at : nat_le 1024 (n + 1) ≡ false = ap (λ (m : ℕ). nat_le 1024 (m + 1)) (sym (small-mod n below)) ∙ test in
          grind (arith, nat_tests)

      below-of : (n : ℕ) → nat_lt (n + 1) MAXOPEN ≡ true → n + 1 < MAXOPEN
      below-of n test = grind (arith, nat_tests)

  holders-at : WasUsed it → HasFrame it → (word : ℕ) → word ≡ it.view.holders (it.state.at / PGSIZE) →
      GoesBy count a it (plans.next_holders it.state word)
  holders-at was_used frame word reply = by_test (nat_le 2 word) refl
    where
      counts : is_held_by a (a.opened it.state.number).held_by ≡ nat_le 2 word
      counts =
          (table.places it.state.number so.below).counts was_used
          ∙ ap (λ (n : ℕ). nat_le 2 (it.view.holders n)) (sym frame) ∙ ap (nat_le 2) (sym reply)

      by_test : (b : Bool) → nat_le 2 word ≡ b →
          GoesBy count a it
          (if not b then plans.shown it.state step.ReadingMode
          else if plans.is_last it.state then plans.acted it.state (negated E_MAX_OPEN)
          else plans.shown (plans.further it.state) step.LookingRecord)
      by_test false is =
          let free : is_held_by a (a.opened it.state.number).held_by ≡ false = counts ∙ is in (
            taking a (client_of it.state) (act (open_path so.path so.mode) None) it.state.number,
            takes free,
            record {
              before = before;
              files = files;
              table =
                  table-taken before.disk a it.view it.state.number
                  (busy (client_of it.state) (act (open_path so.path so.mode) None) (Some it.state.number)) so.below free table;
              at = (
                so.path,
                so.mode,
                opening step.ReadingMode free,
                nobodys before.disk a it.view it.state.number (table.places it.state.number so.below) free was_used,
                so.memory,
              );
            },
          )
      by_test true is = held-on (counts ∙ is) (plans.is_last it.state) refl

pub looking_record : StepFollows step.LookingRecord
looking_record count a it before small files table so word v reply seen =
    let next : ServerNext = plans.next_for it.state step.LookingRecord word in
    subst (λ (w : View). Follows count a next.seen (gone_on it next w)) (sym seen) (looking-at count a it before files table so word reply)

pub looking_entry : StepFollows step.LookingEntry
looking_entry count a it before small files table (so, was_used) word v reply seen =
    let next : ServerNext = plans.next_for it.state step.LookingEntry word in
    subst (λ (w : View). Follows count a next.seen (gone_on it next w)) (sym seen) (record {
      before = before;
      files = files;
      table = table;
      at = (
        record {
          path = so.path;
          mode = so.mode;
          server = so.server;
          kind_is = so.kind_is;
          asks = so.asks;
          below = so.below;
          memory = so.memory;
        },
        was_used,
        reply,
      );
    })

pub looking_holders : StepFollows step.LookingHolders
looking_holders count a it before small files table (so, was_used, frame) word v reply seen =
    let next : ServerNext = plans.next_for it.state step.LookingHolders word in
    subst (λ (w : View). Follows count a next.seen (gone_on it next w)) (sym seen)
    (holders-at count a it before files table so was_used frame word reply)

-- ---- the page of a place

-- what an open has, wherever it goes on with its place
pub opening-in : (a : AbstractState) (it : Serving) (before : Memory) (path : List ℕ) (mode : ℕ) → IsOpening a it before path mode →
    (next : Serving) → next.state.client ≡ it.state.client → next.state.number ≡ it.state.number → next.state.kind ≡ it.state.kind →
    IsOpening a next before path mode
opening-in a it before path mode so next client number kind_is =
    record {
      is_busy =
          record {
            server =
                so.is_busy.server
                ∙ (λ i. busy (sym client i % NENV) (act (open_path path mode) None) (Some (sym number i)));
            kind_is = kind_is ∙ so.is_busy.kind_is;
            asks = so.is_busy.asks;
          };
      below = subst (λ (n : ℕ). n < MAXOPEN) (sym number) so.below;
      nobodys = ap (λ (n : ℕ). (a.opened n).held_by) number ∙ so.nobodys;
      used = ap (λ (n : ℕ). (a.opened n).used) number ∙ so.used;
    }

pub taking_page : StepFollows step.TakingPage
taking_page count a it before small files table (path, mode, so, none, memory) word v reply (frame, holders, seen, one, others) =
    let next : ℕ → ServerNext = plans.next_for it.state step.TakingPage in
    let k : ℕ = it.state.number in
    let w : View = with_new_page it.view it.state.number frame holders in
    let page : w.pages k ≡ Some (λ at. 0) = upd-at it.view.pages k (Some (λ at. 0)) in
    let there : is_some (w.pages k) ≡ true = ap (λ (p : Option (ℕ → ℕ)). is_some p) page in
    let its_frame : w.frames k ≡ frame = upd-at it.view.frames k frame in
    let free : nat_le 2 (holders (w.frames k)) ≡ false = ap (λ (n : ℕ). nat_le 2 (holders n)) its_frame ∙ ap (nat_le 2) one in
    subst (λ (u : View). Follows count a (next word).seen (gone_on it (next word) u)) (sym seen)
    (subst (λ (n : ℕ). Follows count a (next n).seen (gone_on it (next n) w)) (sym reply) (record {
      before = before;
      files = files;
      table =
          table-seen before.disk a it.view w k table
          (place-free before.disk a w k so.nobodys (λ is. so.used) (λ some. (there, free)))
          (λ n less ne.
          place-kept before.disk a a.objects a.opened a.next_name a.files a.server it.view w n refl refl (upd-other it.view.pages k (Some (λ at. 0)) n ne)
          (λ some. ap holders (upd-other it.view.frames k frame n ne) ∙ others n less ne some) (λ name is held. refl) (table.places n less));
      at = (
        path,
        mode,
        opening-in a it before path mode so (gone_on it (plans.hidden it.state step.ReadingMode) w) refl refl refl,
        (there, free),
        memory,
      );
    }))

pub reading_mode : StepFollows step.ReadingMode
reading_mode count a it before small files table (path, mode, so, has_page, memory) word v reply seen =
    let next : ℕ → ServerNext = plans.next_for it.state step.ReadingMode in
    let asked = path-asked a before.page path mode so.is_busy.asks in
    let is_mode : word ≡ mode = reply ∙ ap (λ (m : Memory). word_at m.page REQUEST_MODE) memory ∙ asked.1 in
    let its = opening-in a it before path mode so (gone_on it (next mode) it.view) refl refl refl in
    let goes =
    all_jobs_are_acts count (is_file_open a) (open_path path mode) (job.Open mode) before (sound count a it.view.memory before small files memory)
    (tree.opens path mode asked.0) in
    subst (λ (u : View). Follows count a (next word).seen (gone_on it (next word) u)) (sym seen)
    (subst (λ (n : ℕ). GoesBy count a it (next n)) (sym is_mode) (record {
      before = before;
      files = files;
      table = table;
      at =
          record {
            k = kind.Open;
            f = open_path path mode;
            object = None;
            place = Some it.state.number;
            is_busy = its.is_busy;
            is_open = is_file_open a;
            alike = tt;
            closed = tt;
            on_its_way =
                subst (λ (m : Memory). IsOnItsWay count (is_file_open a) (open_path path mode) before (begun_with (job.Open mode)) m) (sym memory) goes;
            opening = λ is. (path, mode, its, has_page);
            moving = λ is. absurd (false≢true is);
            no_place = λ is. absurd (false≢true is);
            no_sync = λ e. cc;
          };
    }))
