use Rattle.std.proofs.Common.{◌≡◌, ℕ, ◌+◌, ◌++◌, ◌∙◌, [], List, true, sym, ap, arith, length, drop, append_assoc}
use Rattle.std.specs.List.{list_all}
use Rattle.std.proofs.lemmas.List.{append-nil}
use Rattle.fs_layout.specs.declared.paths.Span.{Span}
use Rattle.fs_layout.specs.Paths.{span_between, spans_from, name_spans, is_short}
use Rattle.fs_layout.proofs.PathNames.{spans-end, spans-slash, spans-other, short-more, length-more, on_err}
use Rattle.fs_layout.proofs.PathNames.{parts-long_path, parts-long_name, parts-passed, parts-lie}
use Rattle.fs_layout.proofs.paths.parts.Goals as goal
use Rattle.fs_layout.proofs.paths.parts.Goals.{then-byte-eq47+in_ok-add_name, else-byte-eq47}

-- at the end of the path
names_are : (path : List ℕ) (names : List Span) (from at : ℕ) → at ≡ length path → names ++ spans_from from at (drop at path) ≡ name_spans path →
    names ++ span_between from (length path) ≡ name_spans path
names_are path names from at end whole =
    ap (λ (n : ℕ). names ++ span_between from n) (sym end) ∙ ap (λ (l : List Span). names ++ l) (sym (spans-end from at path (omega arith))) ∙ whole

pub returns-then-path-clause-err : goal.returns-then-path-clause-err
returns-then-path-clause-err c = parts-long_path c.args.path.now c.if-path.true

pub returns-in_err-add_name-clause-err : goal.returns-in_err-add_name-clause-err
returns-in_err-add_name-clause-err c =
    on_err c.from_residual.result
    (parts-long_name c.args.path.now c.loop-at.names.items (spans_from (c.loop-at.at + 1) (c.loop-at.at + 1) (drop (c.loop-at.at + 1) c.args.path.now)) c.loop-at.from c.loop-at.at
    (ap (λ (l : List Span). c.loop-at.names.items ++ l) (sym (spans-slash c.loop-at.from c.loop-at.at c.args.path.now c.loop-at-test.true c.if-byte-eq47.true)) ∙ c.loop-at.invariant.names)
    c.in_err-add_name.ensures.err)

pub loop-at-preserved : goal.loop-at-preserved
loop-at-preserved c = elim c.if-byte-eq47.branch [
  | then-byte-eq47+in_ok-add_name w ↦
      rw (w.names-is, w.from-is, w.in_ok-add_name.ensures.names) (record {
        names = append_assoc c.loop-at.names.items _ _ ∙ ap (λ (l : List Span). c.loop-at.names.items ++ l) (sym (spans-slash c.loop-at.from c.loop-at.at c.args.path.now c.loop-at-test.true w.if-byte-eq47.true)) ∙ c.loop-at.invariant.names;
        short = short-more c.loop-at.names.items c.loop-at.from c.loop-at.at c.loop-at.invariant.short w.in_ok-add_name.ensures.ok;
        room = length-more c.loop-at.names.items c.loop-at.from c.loop-at.at c.loop-at.invariant.room c.loop-at.invariant.order;
        order = omega arith;
      })
  | else-byte-eq47 w ↦
      rw (w.names-is, w.from-is) (record {
        names = ap (λ (l : List Span). c.loop-at.names.items ++ l) (sym (spans-other c.loop-at.from c.loop-at.at c.args.path.now c.loop-at-test.true w.if-byte-eq47.false)) ∙ c.loop-at.invariant.names;
        short = c.loop-at.invariant.short;
        room = c.loop-at.invariant.room;
        order = omega arith;
      })
]

pub returns-in_err-add_name-2-clause-err : goal.returns-in_err-add_name-2-clause-err
returns-in_err-add_name-2-clause-err c =
    on_err c.from_residual-in_err-add_name-2.result
    (parts-long_name c.args.path.now c.loop-at.names.items [] c.loop-at.from (length c.args.path.now) (ap (λ (l : List Span). c.loop-at.names.items ++ l) (append-nil _) ∙ names_are c.args.path.now c.loop-at.names.items c.loop-at.from c.loop-at.at (omega arith) c.loop-at.invariant.names) c.in_err-add_name-2.ensures.err)

-- the names at the end
names_at_end : (c : goal.In_ok-add_name-2) → c.add_name-2.new.names.items ≡ name_spans c.args.path.now
names_at_end c = c.in_ok-add_name-2.ensures.names ∙ names_are c.args.path.now c.loop-at.names.items c.loop-at.from c.loop-at.at (omega arith) c.loop-at.invariant.names

short_at_end : (c : goal.In_ok-add_name-2) → list_all is_short c.add_name-2.new.names.items ≡ true
short_at_end c = rw c.in_ok-add_name-2.ensures.names (short-more c.loop-at.names.items c.loop-at.from (length c.args.path.now) c.loop-at.invariant.short c.in_ok-add_name-2.ensures.ok)

pub returns-clause-ok : goal.returns-clause-ok
returns-clause-ok c = parts-passed c.args.path.now c.add_name-2.new.names.items (omega arith) (names_at_end c) (short_at_end c)

pub returns-clause-lie : goal.returns-clause-lie
returns-clause-lie c = parts-lie c.args.path.now c.add_name-2.new.names.items (names_at_end c) (short_at_end c)
