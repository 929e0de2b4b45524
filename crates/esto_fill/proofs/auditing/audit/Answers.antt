use Rattle.std.proofs.Common.{List, map, sym, subst}
use Rattle.std.proofs.lemmas.Result.{IfOk-weaker}
use Rattle.esto_constraint.specs.Constraints.{rules_of}
use Rattle.esto_constraint.specs.EncodingRules.{written}
use Rattle.esto_semantics.specs.Maps.{AreFlat}
use Rattle.esto_semantics.specs.declared.fact.Fact.{Fact}
use Rattle.esto_steps.specs.Rows.{IsRowOf, held_by}
use Rattle.esto_term.specs.declared.term.Term.{Term}
use Rattle.esto_views.specs.Fragments.{views_of}
use Rattle.esto_views.specs.declared.fragments.FragmentDef.{FragmentDef}
use Rattle.esto_fill.specs.Databases.{database_of}
use Rattle.esto_fill.specs.Texts.{AreTextViews}
use Rattle.esto_fill.proofs.DifferenceLemmas.{audited, audited_rule}
use Rattle.esto_fill.proofs.ValueLemmas.{flat_kept}
use Rattle.esto_fill.proofs.auditing.audit.Goals as goal

pub broken_rule-requires : goal.broken_rule-requires
broken_rule-requires c = flat_kept c.args.loaded.now.facts c.args.loaded.now.sound

pub returns-in-Some : goal.returns-in-Some
returns-in-Some c =
    let catalogue = c.args.catalogue.now in
    let judged = rw c.in-Some.is at c.in_ok-difference.ensures in
    audited_rule (rules_of catalogue.rules) (map written catalogue.rules) (map (λ (fragment : FragmentDef). fragment.name) catalogue.fragments)
    (views_of catalogue.fragments) c.args.loaded.now.facts (IsRowOf (held_by c.args.rows.now)) c.in-Some.difference judged

pub apart_fragment-requires-clause-flat : goal.apart_fragment-requires-clause-flat
apart_fragment-requires-clause-flat c = subst AreFlat (sym c.in_ok-facts.ensures) (flat_kept c.args.loaded.now.facts c.args.loaded.now.sound)

pub apart_fragment-requires-clause-texts : goal.apart_fragment-requires-clause-texts
apart_fragment-requires-clause-texts c =
    subst (λ (those : List (Fact Term)). AreTextViews (views_of c.args.catalogue.now.fragments) (database_of those)) (sym c.in_ok-facts.ensures)
    c.requires.texts

pub returns : goal.returns
returns c =
    let catalogue = c.args.catalogue.now in
    let meets = rw c.in_default.is at c.in_ok-difference.ensures in
    IfOk-weaker c.apart_fragment.result _ _
    (λ outcome apart.
    audited (rules_of catalogue.rules) (map written catalogue.rules) (map (λ (fragment : FragmentDef). fragment.name) catalogue.fragments)
    (views_of catalogue.fragments) c.args.loaded.now.facts c.args.rows.now outcome meets apart)
    (rw c.in_ok-facts.ensures at c.apart_fragment.ensures)
