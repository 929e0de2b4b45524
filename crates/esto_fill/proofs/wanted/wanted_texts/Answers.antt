use Rattle.std.proofs.Common.{sym, ap, ◌∙◌, subst}
use Rattle.std.proofs.lemmas.Result.{IfOk-weaker}
use Rattle.std.specs.List.{list_any}
use Rattle.esto_docmodel.specs.declared.kept.KeptTexts.TheVariants.{These}
use Rattle.esto_fill.specs.Wanted.{AdmitsAll, MeetsWant, names}
use Rattle.esto_fill.specs.declared.wanted.Wanted.{Wanted}
use Rattle.esto_fill.specs.declared.wanted.Wanted.TheVariants.{Asked}
use Rattle.esto_fill.proofs.WantedLemmas.{none_wanted, some_wanted}
use Rattle.esto_fill.proofs.wanted.wanted_texts.Goals as goal

pub returns-then-one_names : goal.returns-then-one_names
returns-then-one_names c = IfOk-weaker c.texts_in.result _ _
    (λ texts all. subst (λ (want : Wanted). MeetsWant want c.args.relation texts) (sym c.in-Asked.is) (some_wanted c.in-Asked.bodies c.args.relation
    (ap (list_any (names c.args.relation)) (sym c.items.ensures) ∙ sym c.one_names.ensures ∙ c.if-one_names.true) texts
    (subst (λ those. AdmitsAll c.args.relation those texts) c.items-then-one_names.ensures all)))
    c.texts_in.ensures

pub returns-else-one_names : goal.returns-else-one_names
returns-else-one_names c =
    subst (λ (want : Wanted). MeetsWant want c.args.relation (These c.new.result)) (sym c.in-Asked.is)
    (subst (λ those. MeetsWant (Asked c.in-Asked.bodies) c.args.relation (These those)) (sym c.new.ensures) (none_wanted c.in-Asked.bodies c.args.relation
    (ap (list_any (names c.args.relation)) (sym c.items.ensures) ∙ sym c.one_names.ensures ∙ c.if-one_names.false)))
