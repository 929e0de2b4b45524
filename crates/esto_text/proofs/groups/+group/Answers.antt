use Rattle.std.proofs.Common.{◌<◌, ◌∷◌, [], length, arith, ap, subst, sym, ◌∙◌}
use Rattle.std.proofs.lemmas.Bool.{true≢false}
use Rattle.std.proofs.lemmas.List.{length-drop}
use Rattle.std.proofs.lemmas.Result.{IfErr-weaker, IfOk-weaker, err_from_is_err_and}
use Rattle.esto_text.specs.Grammar.{IsEntry}
use Rattle.esto_text.specs.Machine.{AnEntry, MoreEntries, Takes}
use Rattle.esto_text.specs.View.{entry_of}
use Rattle.esto_text.proofs.RowLemmas.{row_fails, goes_begun, goes_done}
use Rattle.esto_text.proofs.GroupLemmas.{AreGroup, entry_fails, entry_end_fails, entry_more, entry_term, entry_group, entry_group_fails, entry_term_fails}
use Rattle.esto_text.proofs.GroupLemmas.{entry_end_stops, entry_too_deep, value_entry, group_entry}
use Rattle.esto_text.proofs.PathLemmas.{next_is, some_next}
use Rattle.esto_text.specs.declared.token.TokenKind.TheVariants.{Colon, LeftBrace}
use Rattle.esto_text.proofs.groups.+group.Goals as goal

pub group-returns-in_err-entry-clause-err : goal.group-returns-in_err-entry-clause-err
group-returns-in_err-entry-clause-err t c =
    let p = err_from_is_err_and c.from_residual.result c.from_residual.ensures.1 in
    rw (p.1, p.2) (row_fails (AreGroup c.args.depth) (AnEntry c.args.depth ∷ MoreEntries c.args.depth ∷ []) c.args.tokens.now c.entries.entries
    c.entries.rest.now c.entries.more c.entries-test.true c.entries.invariant.goes _
    (entry_fails c.args.depth c.entries.rest.now _ c.in_err-entry.ensures.err))

pub group-returns-in_err-more-clause-err : goal.group-returns-in_err-more-clause-err
group-returns-in_err-more-clause-err t c =
    let p = err_from_is_err_and c.from_residual-in_err-more.result c.from_residual-in_err-more.ensures.1 in
    rw (p.1, p.2) (row_fails (AreGroup c.args.depth) (AnEntry c.args.depth ∷ MoreEntries c.args.depth ∷ []) c.args.tokens.now c.entries.entries
    c.entries.rest.now c.entries.more c.entries-test.true c.entries.invariant.goes _
    (entry_end_fails c.args.depth c.entries.rest.now c.in_ok-entry.after.now c.in_ok-entry.entry _ c.in_ok-entry.ensures.ok c.in_err-more.ensures.err))

pub group-entries-preserved : goal.group-entries-preserved
group-entries-preserved t c =
    let e = c.in_ok-more.ensures.ok in
    let n : length c.in_ok-more.field-0-1.now < length c.args.tokens.now =
    omega (arith, c.entries.invariant.left, c.in_ok-entry.ensures.shorter, ap length e.1) in
    record {
      left = omega (arith, n);
      goes = rw c.in_ok-push.ensures.ok
          (entry_more c.args.depth c.args.tokens.now c.entries.entries c.entries.rest.now c.entries.more c.entries-test.true c.entries.invariant.goes
          c.in_ok-entry.entry c.in_ok-entry.after.now _ _ c.in_ok-entry.ensures.ok e);
      shorter = λ _. n;
    }

pub group-returns-clause-ok : goal.group-returns-clause-ok
group-returns-clause-ok t c =
    goes_done (AreGroup c.args.depth) (AnEntry c.args.depth ∷ MoreEntries c.args.depth ∷ []) [] c.args.tokens.now c.entries.entries c.entries.rest.now
    c.entries.more c.entries-test.false (c.entries.invariant.goes [])

pub entry-term_entry-requires : goal.entry-term_entry-requires
entry-term_entry-requires t c = sym c.in-Colon.ensures

pub entry-returns-in-Colon-clause-ok : goal.entry-returns-in-Colon-clause-ok
entry-returns-in-Colon-clause-ok t c =
    let b = next_is c.in_ok-path.rest.now Colon (sym c.in-Colon.ensures) (λ z. cc) in
    IfOk-weaker c.term_entry.result _ _
    (λ x (term, takes, is_term, is). subst (λ it. Takes (IsEntry c.args.depth (entry_of it)) c.args.tokens.now x.1.now) (sym is) (rw value_entry
    (entry_term c.args.depth c.args.tokens.now c.in_ok-path.rest.now c.in_ok-path.path c.in_ok-path.ensures.ok b.0 term x.1.now b.1 b.2 (takes, is_term))))
    c.term_entry.ensures.ok

pub entry-returns-in-Colon-clause-shorter : goal.entry-returns-in-Colon-clause-shorter
entry-returns-in-Colon-clause-shorter t c =
    IfOk-weaker c.term_entry.result _ _
    (λ x (term, takes, is_term, is). omega (arith, c.in_ok-path.ensures.shorter, ap length takes, length-drop 1 c.in_ok-path.rest.now))
    c.term_entry.ensures.ok

pub entry-returns-in-Colon-clause-err : goal.entry-returns-in-Colon-clause-err
entry-returns-in-Colon-clause-err t c =
    let b = next_is c.in_ok-path.rest.now Colon (sym c.in-Colon.ensures) (λ z. cc) in
    IfErr-weaker c.term_entry.result _ _
    (λ e none. entry_term_fails c.args.depth c.args.tokens.now c.in_ok-path.rest.now c.in_ok-path.path c.in_ok-path.ensures.ok b.0 e b.1 b.2 none)
    c.term_entry.ensures.err

pub entry-returns-in_err-path-clause-err : goal.entry-returns-in_err-path-clause-err
entry-returns-in_err-path-clause-err t c =
    let p = err_from_is_err_and c.from_residual.result c.from_residual.ensures.1 in
    rw (p.1, p.2) (c.in_err-path.ensures.err c.args.depth)

pub entry-returns-then-depth-ge-MAX_OPEN-clause-err : goal.entry-returns-then-depth-ge-MAX_OPEN-clause-err
entry-returns-then-depth-ge-MAX_OPEN-clause-err t c =
    entry_too_deep c.args.depth c.args.tokens.now c.in_ok-path.rest.now c.in_ok-path.path c.in_ok-path.ensures.ok (sym c.in-LeftBrace.ensures) (omega arith)

pub entry-returns-in_default-clause-err : goal.entry-returns-in_default-clause-err
entry-returns-in_default-clause-err t c =
    entry_end_stops c.args.depth c.args.tokens.now c.in_ok-path.rest.now c.in_ok-path.path c.in_ok-path.ensures.ok
    (λ e. c.in_default.not-Colon (c.class_at.ensures ∙ e)) (λ e. c.in_default.not-LeftBrace (c.class_at.ensures ∙ e)) c.in_ok-path.ensures.ends

pub entry-returns-in_err-entries-in-LeftBrace-clause-err : goal.entry-returns-in_err-entries-in-LeftBrace-clause-err
entry-returns-in_err-entries-in-LeftBrace-clause-err t c =
    let p = err_from_is_err_and c.from_residual-in_err-entries-in-LeftBrace.result c.from_residual-in_err-entries-in-LeftBrace.ensures.1 in
    let b = next_is c.in_ok-path.rest.now LeftBrace (sym c.in-LeftBrace.ensures) (λ z. cc) in
    rw (p.1, p.2) (entry_group_fails c.args.depth c.args.tokens.now c.in_ok-path.rest.now c.in_ok-path.path c.in_ok-path.ensures.ok b.0 _ b.1 b.2 (omega arith)
    (rw c.split_at.ensures.back at c.in_err-entries-in-LeftBrace.ensures.err))

pub entry-returns-in_ok-entries-in-LeftBrace-clause-ok : goal.entry-returns-in_ok-entries-in-LeftBrace-clause-ok
entry-returns-in_ok-entries-in-LeftBrace-clause-ok t c =
    let b = next_is c.in_ok-path.rest.now LeftBrace (sym c.in-LeftBrace.ensures) (λ z. cc) in
    rw group_entry (entry_group c.args.depth c.args.tokens.now c.in_ok-path.rest.now c.in_ok-path.path c.in_ok-path.ensures.ok b.0 _
    c.in_ok-entries-in-LeftBrace.rest.now b.1 b.2 (omega arith)
    (rw c.split_at.ensures.back at c.in_ok-entries-in-LeftBrace.ensures.ok))

pub entry-returns-in_ok-entries-in-LeftBrace-clause-shorter : goal.entry-returns-in_ok-entries-in-LeftBrace-clause-shorter
entry-returns-in_ok-entries-in-LeftBrace-clause-shorter t c =
    let some = rw c.split_at.ensures.back at c.in_ok-entries-in-LeftBrace.ensures.shorter in
    omega (arith, c.in_ok-path.ensures.shorter, some, length-drop 1 c.in_ok-path.rest.now)

pub group-entries-init : goal.group-entries-init
group-entries-init t c = record {
  left = omega arith;
  goes = rw c.new-entries.ensures (λ s. goes_begun (AreGroup c.args.depth) _ s c.args.tokens.now);
  shorter = λ e. absurd (true≢false e);
}

pub group-entries-smaller : goal.group-entries-smaller
group-entries-smaller t c = omega (arith, c.in_ok-entry.ensures.shorter, ap length c.in_ok-more.ensures.ok.1)

pub group-returns-clause-shorter : goal.group-returns-clause-shorter
group-returns-clause-shorter t c = c.entries.invariant.shorter c.entries-test.false

pub group-returns-in_err-push-clause-err : goal.group-returns-in_err-push-clause-err
group-returns-in_err-push-clause-err t c =
    let p = err_from_is_err_and c.from_residual-in_err-push.result c.from_residual-in_err-push.ensures.1 in rw (p.1, p.2) (λ s. tt)

pub entry-split_at-requires : goal.entry-split_at-requires
entry-split_at-requires t c = some_next c.in_ok-path.rest.now LeftBrace (sym c.in-LeftBrace.ensures) (λ z. cc)

pub entry-group-requires : goal.entry-group-requires
entry-group-requires t c =
    let rest = ap length c.split_at.ensures.back in
    (omega (arith, c.decreases, c.in_ok-path.ensures.shorter, rest, length-drop 1 c.in_ok-path.rest.now), tt)

pub group-entry-requires : goal.group-entry-requires
group-entry-requires t c = (omega (arith, c.decreases, c.entries.invariant.left), tt)
