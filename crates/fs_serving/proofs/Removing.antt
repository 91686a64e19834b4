-- Whether the file that is to be removed is open: each place of the table is looked at. Where a place has it, the answer is an error; behind the
-- last of them the removal begins.
use Rattle.std.proofs.Common.{◌≡◌, ◌≢◌, ◌∙◌, ◌+◌, ◌*◌, ◌%◌, ◌<◌, ◌≤◌, ◌==◌, ◌||◌, inl, inr, ℕ, Bool, true, false, List, length, Option}
use Rattle.std.proofs.Common.{Some, None, refl, sym, ap, subst, arith}
use Rattle.std.specs.Prelude.{nat_le, if◌then◌else◌}
use Rattle.std.proofs.lemmas.Bool.{false≢true}
use Rattle.std.proofs.lemmas.Bool.Decides.{Decides-eqb, nat_tests}
use Rattle.jos_base.proofs.Bounds.{below_or_last}
use Rattle.jos_base.specs.declared.numbers.TheConstants.{E_INVAL}
use Rattle.jos_base.specs.Words.{negated}
use Rattle.fs_layout.specs.declared.numbers.TheConstants.{BLKSIZE}
use Rattle.fs_layout.specs.DiskImage.{is_directory_at}
use Rattle.fs_layout.specs.FileActs.{Acted, file_act}
use Rattle.fs_layout.specs.FileTree.{FileAct, remove_path}
use Rattle.fs_acts.specs.BlockActs.{Led, Planned, a_record, led_to, place_at, plan_of, puts_in_turn, remove_led, turned_down, written}
use Rattle.fs_acts.proofs.OneWay.{places-one_way}
use Rattle.fs_acts.proofs.Undamaged.{some-same}
use Rattle.fs_jobs.specs.declared.place.Job.TheVariants as job
use Rattle.fs_runs.specs.TreeRuns.{AreSmall, HasActed, IsOnItsWay, IsSound, Memory, begun_with, removes}
use Rattle.fs_runs.proofs.JobsWhole.{all_jobs_are_acts}
use Rattle.lib_os.specs.declared.numbers.TheConstants.{MAXOPEN}
use Rattle.lib_os.specs.declared.request.RequestKind.{RequestKind}
use Rattle.lib_os.specs.declared.request.RequestKind.TheVariants as kind
use Rattle.lib_os.specs.AbstractState.{AbstractState, Object, OpenFile, acted, file}
use Rattle.lib_os.specs.Descriptors.{is_held}
use Rattle.lib_os.specs.FileServer.{is_file_open, is_held_by, served, server_step}
use Rattle.fs_requests.specs.declared.plan.ServerNext.{ServerNext}
use Rattle.fs_requests.specs.declared.state.ServerStep.TheVariants as step
use Rattle.fs_requests.specs.ServerPlans as plans
use Rattle.fs_serving.specs.ServerRuns.{Follows, HasFile, HasFiles, IsChecking, IsClosed, PlaceStands, StandsServing, TableStands, client_of}
use Rattle.fs_serving.specs.ServerViews.{Serving, View, gone_on}
use Rattle.fs_serving.proofs.HeldFiles.{held-is-open, led-stands, open-is-held, place-past}
use Rattle.fs_serving.proofs.Pieces.{ActIsDone, ActsAreDone, StepFollows}
use Rattle.fs_serving.proofs.SameTables.{table-behind}

-- ---- kinds

is_removal : RequestKind → Bool
is_removal kind.Remove = true
is_removal _ = false

pub removal-opens-none : {X : Type 0} → kind.Remove ≡ kind.Open → X
unfolding is_removal
removal-opens-none e = absurd (false≢true (sym (ap is_removal e)))

some-removal : {X : Type 0} (k : Option RequestKind) → k ≡ Some kind.Remove → k ≡ Some kind.Open → X
some-removal k one other =
    let both : ◌≡◌ {A = Option RequestKind} (Some kind.Remove) (Some kind.Open) = sym one ∙ other in
    let it : ◌≡◌ {A = RequestKind} kind.Remove kind.Open = cc in removal-opens-none it

same-file : (o : Object) (f g : OpenFile) → o ≡ file f → o ≡ file g → f ≡ g
same-file o f g one other = let both : ◌≡◌ {A = Object} (file f) (file g) = sym one ∙ other in let it : ◌≡◌ {A = OpenFile} f g = cc in it

-- ---- the same file

-- a place whose file's record stands where a way leads has the file at that way
pub same-way : (count : ℕ) (a : AbstractState) (v : View) (before : Memory) (way : List ℕ) (place number name : ℕ) → HasFiles count before a.files →
    place_at before.disk way ≡ Some place → v.homes number ≡ place → is_held a name ≡ true → HasFile before.disk a v number name →
    is_file_open a way ≡ true
same-way count a v before way place number name files stands home held has =
    held-is-open a way name has.f held has.is
    (places-one_way (BLKSIZE * count) before.disk files.disk has.f.way way place (has.home ∙ ap Some home) stands)

-- a file whose record stands at no place of the table is not open
pub none-open : (count : ℕ) (a : AbstractState) (v : View) (before : Memory) (way : List ℕ) (place : ℕ) → TableStands before.disk a v →
    place_at before.disk way ≡ Some place →
    ((number name : ℕ) → number < MAXOPEN → (a.opened number).held_by ≡ Some name → is_held a name ≡ true → v.homes number ≢ place) →
    is_file_open a way ≡ false
none-open count a v before way place table stands closed = by (is_file_open a way) refl
  where
    by : (b : Bool) → is_file_open a way ≡ b → b ≡ false
    by false e = refl
    by true e =
        let it = open-is-held a way e in
        let at = table.held it.0 it.1 it.2 it.3 in
        let has = (table.places at.0 at.1).holds it.0 at.2 it.2 in
        let way_is : has.f.way ≡ way = ap (λ (f : OpenFile). f.way) (same-file (a.objects it.0) has.f it.1 has.is it.3) ∙ it.4 in
        absurd (closed at.0 it.0 at.1 at.2 it.2
        (some-same (v.homes at.0) place (sym has.home ∙ ap (place_at before.disk) way_is ∙ stands)))

-- ---- going on

-- the number of the place at hand
number-itself : (n : ℕ) → n < MAXOPEN → n % MAXOPEN ≡ n
number-itself n below = omega (arith, below)

last-is : (n : ℕ) → nat_le MAXOPEN (n + 1) ≡ true → MAXOPEN ≤ n + 1
last-is n e = grind (arith, nat_tests)

last-not : (n : ℕ) → nat_le MAXOPEN (n + 1) ≡ false → n + 1 < MAXOPEN
last-not n e = grind (arith, nat_tests)

-- The place at hand doesn't have the file: the next place is looked at, or the removal begins.
pub goes-on : (count : ℕ) (a : AbstractState) (it : Serving) (before : Memory) → AreSmall it.view.memory → HasFiles count before a.files →
    TableStands before.disk a it.view → IsChecking a it before →
    ((name : ℕ) → (a.opened it.state.number).held_by ≡ Some name → is_held a name ≡ true → it.view.homes it.state.number ≢ it.state.home) →
    Follows count a (plans.next_check it.state).seen (gone_on it (plans.next_check it.state) it.view)
goes-on count a it before small files table checking not_here = by (plans.is_last it.state) refl
  where
    n : ℕ
    n = it.state.number

    home : ℕ
    home = it.state.home

    further-closed : (number name : ℕ) → number < n + 1 → (a.opened number).held_by ≡ Some name → is_held a name ≡ true →
        it.view.homes number ≢ home
    further-closed number name less has held = elim (below_or_last number n (omega (arith, less))) [
      | inl below ↦ checking.closed number name below has held
      | inr last ↦
          subst (λ (k : ℕ). (a.opened k).held_by ≡ Some name → it.view.homes k ≢ home) (sym last)
          (λ here. not_here name here held) has
    ]

    itself : n % MAXOPEN ≡ n
    itself = number-itself n checking.below

    sound : IsSound count before
    sound = record {
      disk = files.disk;
      count_is = files.count_is;
      small = subst (λ (m : Memory). AreSmall m) checking.memory small;
    }

    closed-all : MAXOPEN ≤ n + 1 → is_file_open a checking.way ≡ false
    closed-all last =
        none-open count a it.view before checking.way home table
        (led-stands (BLKSIZE * count) before.disk checking.path checking.way home files.disk checking.leads)
        (λ number name less has held. further-closed number name (omega (arith, last, less)) has held)

    same-record : (home other : ℕ) (way that : List ℕ) → a_record home way ≡ a_record other that → way ≡ that
    same-record home other way that e = let is : ◌≡◌ {A = Led} (a_record home way) (a_record other that) = e in let it : ◌≡◌ {A = List ℕ} way that = cc in it

    closed-at : MAXOPEN ≤ n + 1 → IsClosed (is_file_open a) before.disk (remove_path checking.path)
    closed-at last place way leads regular =
        ap (is_file_open a) (same-record place home way checking.way (sym leads ∙ checking.leads)) ∙ closed-all last

    begins : MAXOPEN ≤ n + 1 → IsOnItsWay count (is_file_open a) (remove_path checking.path) before (begun_with (job.Remove home)) it.view.memory
    begins last =
        subst (λ (m : Memory). IsOnItsWay count (is_file_open a) (remove_path checking.path) before (begun_with (job.Remove home)) m)
        (sym checking.memory)
        (all_jobs_are_acts count (is_file_open a) (remove_path checking.path) (job.Remove home) before sound
        (removes checking.path checking.way home checking.leads checking.regular (closed-all last)))

    by : (b : Bool) → plans.is_last it.state ≡ b →
        let next =
        if b then plans.begun it.state step.Working (job.Remove it.state.home)
        else plans.hidden (plans.further it.state) step.CheckingRecord in
        Follows count a next.seen (gone_on it next it.view)
    by true is = record {
      before = before;
      files = files;
      table = table;
      at = record {
        k = kind.Remove;
        f = remove_path checking.path;
        object = None;
        place = None;
        is_busy = record { server = checking.is_busy.server; kind_is = checking.is_busy.kind_is; asks = checking.is_busy.asks };
        is_open = is_file_open a;
        alike = λ home way leads regular. refl;
        closed = closed-at (last-is n (ap (λ (k : ℕ). nat_le MAXOPEN (k + 1)) (sym itself) ∙ is));
        on_its_way = begins (last-is n (ap (λ (k : ℕ). nat_le MAXOPEN (k + 1)) (sym itself) ∙ is));
        opening = λ e. removal-opens-none e;
        moving = λ e. absurd (false≢true e);
        no_place = λ e. refl;
        no_sync = λ e. cc;
      };
    }
    by false is = record {
      before = before;
      files = files;
      table = table;
      at = record {
        path = checking.path;
        way = checking.way;
        is_busy = record { server = checking.is_busy.server; kind_is = checking.is_busy.kind_is; asks = checking.is_busy.asks };
        memory = checking.memory;
        leads = checking.leads;
        regular = checking.regular;
        below = subst (λ (k : ℕ). k + 1 < MAXOPEN) (sym itself) (last-not n (ap (λ (k : ℕ). nat_le MAXOPEN (k + 1)) (sym itself) ∙ is));
        closed = λ number name less. further-closed number name (subst (λ (k : ℕ). number < k + 1) itself less);
      };
    }

-- ---- the record of a place

record-checked : (count : ℕ) (a : AbstractState) (it : Serving) (before : Memory) → AreSmall it.view.memory → HasFiles count before a.files →
    TableStands before.disk a it.view → IsChecking a it before → (word : ℕ) → word ≡ it.view.homes it.state.number →
    let next = plans.next_for it.state step.CheckingRecord word in Follows count a next.seen (gone_on it next it.view)
record-checked count a it before small files table checking word reply = by (word == it.state.home) refl
  where
    by : (b : Bool) → (word == it.state.home) ≡ b →
        let next = if b then plans.hidden it.state step.CheckingEntry else plans.next_check it.state in
        Follows count a next.seen (gone_on it next it.view)
    by true is = record {
      before = before;
      files = files;
      table = table;
      at = (
        record {
          path = checking.path;
          way = checking.way;
          is_busy = record { server = checking.is_busy.server; kind_is = checking.is_busy.kind_is; asks = checking.is_busy.asks };
          memory = checking.memory;
          leads = checking.leads;
          regular = checking.regular;
          below = checking.below;
          closed = checking.closed;
        },
        sym reply ∙ (Decides-eqb word it.state.home).0 is,
      );
    }
    by false is =
        goes-on count a it before small files table checking
        (λ name has held same. absurd (false≢true (sym is ∙ (Decides-eqb word it.state.home).1 (reply ∙ same))))

pub checking_record : StepFollows step.CheckingRecord
checking_record count a it before small files table at word v reply seen =
    let next : ServerNext = plans.next_for it.state step.CheckingRecord word in
    subst (λ (w : View). Follows count a next.seen (gone_on it next w)) (sym seen)
    (record-checked count a it before small files table at word reply)

-- ---- the entry of its page

pub checking_entry : StepFollows step.CheckingEntry
checking_entry count a it before small files table at word v reply seen =
    let next : ServerNext = plans.next_for it.state step.CheckingEntry word in
    let checking : IsChecking a it before = at.0 in
    subst (λ (w : View). Follows count a next.seen (gone_on it next w)) (sym seen)
    (record {
      before = before;
      files = files;
      table = table;
      at = (
        record {
          path = checking.path;
          way = checking.way;
          is_busy = record { server = checking.is_busy.server; kind_is = checking.is_busy.kind_is; asks = checking.is_busy.asks };
          memory = checking.memory;
          leads = checking.leads;
          regular = checking.regular;
          below = checking.below;
          closed = checking.closed;
        },
        at.1,
        reply,
      );
    })

-- ---- how often the page is mapped

-- a file that is open is not removed
refused : (a : AbstractState) (before : Memory) (path way : List ℕ) (place : ℕ) → led_to before.disk path ≡ a_record place way →
    is_file_open a way ≡ true → plan_of (is_file_open a) before.disk (remove_path path) ≡ turned_down E_INVAL
unfolding plan_of
refused a before path way place leads opened =
    ap (λ (led : Led). remove_led (is_file_open a) before.disk led) leads ∙ by _ (is_directory_at before.disk place) (is_file_open a way) opened
  where
    by : (other : Planned) (b c : Bool) → c ≡ true → (if b || c then turned_down E_INVAL else other) ≡ turned_down E_INVAL
    by other true c e = refl
    by other false true e = refl
    by other false false e = absurd (false≢true e)

-- an act that is turned down has acted where nothing was stored
pub turned-down : (is_open : List ℕ → Bool) (f : FileAct) (error : ℕ) (before : Memory) → plan_of is_open before.disk f ≡ turned_down error →
    HasActed is_open f before (negated error) before
unfolding written puts_in_turn
turned-down is_open f error before e = record {
  answer_is = sym (ap (λ (p : Planned). p.answer) e);
  disk =
      subst (λ (p : Planned). before.disk ≡ written (puts_in_turn p.changes before.disk) before.disk) (sym e) refl;
  bytes = λ k less. absurd (none k (length (plan_of is_open before.disk f).bytes) less (ap (λ (p : Planned). length p.bytes) e));
  rest = λ k past. refl;
}
  where
    none : (k n : ℕ) → k < n → n ≡ 0 → ⊥
    none k n less e = omega arith

-- The removal is refused, and this is the act.
refuses : ActsAreDone → (count : ℕ) (a : AbstractState) (it : Serving) (before : Memory) → HasFiles count before a.files →
    TableStands before.disk a it.view → (checking : IsChecking a it before) → is_file_open a checking.way ≡ true →
    let next = plans.acted it.state (negated E_INVAL) in Follows count a next.seen (gone_on it next it.view)
unfolding server_step
refuses done count a it before files table checking held = (behind, steps, stands)
  where
    request : FileAct
    request = remove_path checking.path

    did : Acted
    did = file_act (is_file_open a) a.files request

    behind : AbstractState
    behind = record a { files = did.files; server = acted (client_of it.state) did.answer did.bytes None }

    steps : server_step a ≡ Some behind
    steps = ap (served a) checking.is_busy.server

    is_done : ActIsDone count a it.view request (negated E_INVAL) before before
    is_done =
        done count a it.view request (negated E_INVAL) before before _ files table
        (turned-down (is_file_open a) request E_INVAL before
        (refused a before checking.path checking.way it.state.home checking.leads held))

    stands : StandsServing count behind (gone_on it (plans.acted it.state (negated E_INVAL)) it.view)
    stands = record {
      before = before;
      files = is_done.files;
      table = table-behind before.disk a it.view did.files behind.server is_done.table;
      at = record {
        bytes = did.bytes;
        object = None;
        server = ap (λ (word : ℕ). acted (client_of it.state) word did.bytes None) is_done.answer_is;
        memory = checking.memory;
        handed = is_done.bytes;
        has_object = λ e. some-removal it.state.kind checking.is_busy.kind_is e;
      };
    }

holders-checked : ActsAreDone → (count : ℕ) (a : AbstractState) (it : Serving) (before : Memory) → AreSmall it.view.memory →
    HasFiles count before a.files → TableStands before.disk a it.view → IsChecking a it before → it.view.homes it.state.number ≡ it.state.home →
    (word : ℕ) → word ≡ it.view.holders (it.view.frames it.state.number) →
    let next = plans.next_for it.state step.CheckingHolders word in Follows count a next.seen (gone_on it next it.view)
holders-checked done count a it before small files table checking home word reply = by (plans.is_held word) refl
  where
    place : PlaceStands before.disk a it.view it.state.number
    place = table.places it.state.number checking.below

    stands : place_at before.disk checking.way ≡ Some it.state.home
    stands = led-stands (BLKSIZE * count) before.disk checking.path checking.way it.state.home files.disk checking.leads

    none : (n : ℕ) → n ≡ 0 → 1 ≤ n → ⊥
    none n e past = omega arith

    -- who has the place is told by this
    counts : is_held_by a (a.opened it.state.number).held_by ≡ plans.is_held word
    counts =
        place.counts
        (λ e. none it.state.home (sym home ∙ e) (place-past (BLKSIZE * count) before.disk checking.way it.state.home files.disk stands))
        ∙ ap plans.is_held (sym reply)

    is_open : (holder : Option ℕ) → (a.opened it.state.number).held_by ≡ holder → is_held_by a holder ≡ true → is_file_open a checking.way ≡ true
    is_open None e held = absurd (false≢true held)
    is_open (Some name) e held =
        same-way count a it.view before checking.way it.state.home it.state.number name files stands home held (place.holds name e held)

    by : (b : Bool) → plans.is_held word ≡ b →
        let next = if b then plans.acted it.state (negated E_INVAL) else plans.next_check it.state in
        Follows count a next.seen (gone_on it next it.view)
    by true is = refuses done count a it before files table checking (is_open (a.opened it.state.number).held_by refl (counts ∙ is))
    by false is =
        goes-on count a it before small files table checking
        (λ name has held. absurd (false≢true (sym (counts ∙ is) ∙ ap (is_held_by a) has ∙ held)))

pub checking_holders : ActsAreDone → StepFollows step.CheckingHolders
checking_holders done count a it before small files table at word v reply seen =
    let next : ServerNext = plans.next_for it.state step.CheckingHolders word in
    subst (λ (w : View). Follows count a next.seen (gone_on it next w)) (sym seen)
    (holders-checked done count a it before small files table at.0 at.1 word (reply ∙ ap it.view.holders at.2))
