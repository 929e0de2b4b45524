use Rattle.std.proofs.Common.{List, length, subst, sym, ◌∙◌}
use Rattle.std.proofs.lemmas.List.{length-map}
use Rattle.std.proofs.lemmas.Result.{IfOk-weaker}
use Rattle.esto_constraint.specs.Constraints.{rules_of}
use Rattle.esto_constraint.specs.declared.rule.Constraint.{Constraint}
use Rattle.esto_query.specs.Making.{query_of}
use Rattle.esto_views.specs.Plans.{fact_of}
use Rattle.esto_chase_laws.specs.Derived.{AreDerived}
use Rattle.esto_chase_laws.specs.WorldLaws.{HasMatch}
use Rattle.esto_chase_laws.specs.Worlds.{AreOfCount, InWorld}
use Rattle.esto_chase_laws.specs.declared.entry.Entry.{Entry}
use Rattle.esto_derive.proofs.AcceptLemmas.{accepted, as_read}
use Rattle.esto_derive.proofs.FlatLemmas.{flat}
use Rattle.esto_derive.proofs.certificate.write_certificate.Goals as goal

pub write_in-requires-clause-counts : goal.write_in-requires-clause-counts
write_in-requires-clause-counts c =
    let over = c.requires.listed.0.has_candidate.over ∙ length-map c.args.plan.now.atoms fact_of in
    subst (AreOfCount (length c.args.set.now)) (sym c.items.ensures) (λ entry inside. c.requires.entries.3.counted entry inside ∙ sym over)

pub write_in-requires-clause-derived : goal.write_in-requires-clause-derived
write_in-requires-clause-derived c = (
  c.requires.entries.0,
  subst (λ (it : List Constraint). AreDerived c.requires.entries.0 (rules_of it) c.items.result.now) (sym c.items-rules.ensures)
      (subst (AreDerived c.requires.entries.0 (rules_of c.args.catalogue.now.rules)) (sym c.items.ensures) c.requires.entries.3.derived),
)

pub write_in-requires-clause-found : goal.write_in-requires-clause-found
write_in-requires-clause-found c =
    let over = c.requires.listed.0.has_candidate.over ∙ length-map c.args.plan.now.atoms fact_of in
    subst (λ (it : List Entry). HasMatch (InWorld it c.args.set.now) c.args.query.now.head c.args.query.now.body c.args.plan.now.head) (sym c.items.ensures)
    ((c.entries_decide_answers.ensures.decide c.args.catalogue.now.fragments c.args.catalogue.now.rules c.args.catalogue.now.ranks c.args.query.now
    c.args.plan.now c.args.entries.now c.requires.same_length c.requires.universal c.requires.satisfiable c.requires.entries c.args.set.now over).0 (record {
      has_candidate = c.requires.listed.0.has_candidate;
      safe = c.requires.listed.0.safe;
      equivalent = c.requires.listed.0.equivalent;
    }))

pub returns-clause-written : goal.returns-clause-written
returns-clause-written c =
    IfOk-weaker c.write_in.result _ _
    (λ bytes writes. (
      c.requires.entries.0,
      c.requires.entries.1,
      c.requires.entries.2,
      as_read c.requires.entries.0 c.args.set.now (query_of c.args.query.now) c.args.plan.now.head bytes c.args.entries.now c.items.result.now
          c.args.catalogue.now.rules c.items-rules.result.now c.items.ensures c.items-rules.ensures (writes c.requires.entries.0)
          c.requires.entries.3.derived,
    ))
    c.write_in.ensures

pub returns-clause-accepted : goal.returns-clause-accepted
returns-clause-accepted c =
    IfOk-weaker c.write_in.result _ _
    (λ bytes (expanded, are, expands, writes). (
      expanded,
      are,
      expands,
      flat c.args.plan.now c.args.catalogue.now.fragments expanded expands (c.plans_are_sound.ensures c.args.plan.now) c.queries_are_sound.ensures,
      accepted _ c.args.entries.now bytes writes,
    ))
    (returns-clause-written c)
