use Rattle.std.proofs.Common.{◌+◌, ◌-◌, List, length, drop, map, inl, inr, refl, subst, ap, ◌∙◌, arith}
use Rattle.esto_chase_laws.specs.declared.entry.Claim.{Claim}
use Rattle.std.proofs.lemmas.List.{length-drop, take_all}
use Rattle.esto_cert.specs.Judging.{after_end, case_of, Verdict}
use Rattle.esto_cert.proofs.VerdictLemmas.{claims_on, ends_at, refused_at, last_at, no_parts}
use Rattle.esto_cert.proofs.check.first_wrong.Goals as goal

pub lines-init : goal.lines-init
lines-init c = (
  (λ verdict it. subst (λ (claims : List Claim). Verdict (case_of c.args.case.now) claims 1 (map (λ part. part.now) c.args.parts.now) verdict)
      c.requires.none it),
  inl refl,
)

pub lines-preserved : goal.lines-preserved
lines-preserved c = (
  claims_on (λ part. part.now) (case_of c.args.case.now) c.lines.claims c.args.parts.now c.lines.place c.lines.invariant.0 _ c.lines-test.true
      c.items.result.now c.in_ok-claim.field-0 c.items.ensures c.in_ok-claim.ensures (omega (arith, c.lines-test.true, c.if-place-parts.false))
      c.in-Claims.claim c.in-Claims.is
      c.push.new.self c.in_ok-push-in-Claims.ensures.ok,
  inr (omega (arith, c.lines-test.true, c.if-place-parts.false)),
)

pub returns-then-place-parts : goal.returns-then-place-parts
returns-then-place-parts c =
    last_at (λ part. part.now) (case_of c.args.case.now) c.lines.claims c.args.parts.now c.lines.place c.lines.invariant.0 c.if-place-parts.true

pub returns-in-Ends : goal.returns-in-Ends
returns-in-Ends c =
    ends_at (λ part. part.now) (case_of c.args.case.now) c.lines.claims c.args.parts.now c.lines.place c.lines.invariant.0 _ c.lines-test.true
    c.items.result.now c.in_ok-claim.field-0 c.items.ensures c.in_ok-claim.ensures (omega (arith, c.lines-test.true, c.if-place-parts.false)) c.in-Ends.is
    c.after_end.result
    (c.after_end.ensures ∙ ap (λ it. after_end (c.lines.place + 1) (map (λ part. part.now) it))
    (take_all (length c.args.parts.now - (c.lines.place + 1)) (drop (c.lines.place + 1) c.args.parts.now)
    (omega (arith, length-drop (c.lines.place + 1) c.args.parts.now))))

pub returns-in-Refused : goal.returns-in-Refused
returns-in-Refused c =
    refused_at (λ part. part.now) (case_of c.args.case.now) c.lines.claims c.args.parts.now c.lines.place c.lines.invariant.0 _ c.lines-test.true
    c.items.result.now c.in_ok-claim.field-0 c.items.ensures c.in_ok-claim.ensures (omega (arith, c.lines-test.true, c.if-place-parts.false)) c.in-Refused.is

pub returns : goal.returns
returns c =
    no_parts (λ part. part.now) (case_of c.args.case.now) c.args.parts.now
    (elim c.lines.invariant.1 [ inl is ↦ omega (arith, is, c.lines-test.false) | inr less ↦ absurd (omega (arith, less, c.lines-test.false)) ])
