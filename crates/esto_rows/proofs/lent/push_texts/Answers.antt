use Rattle.std.proofs.Common.{map, sym, subst}
use Rattle.std.proofs.lemmas.List.{append-nil, take_all}
use Rattle.std.proofs.lemmas.List.Elements.{Contains-get_or}
use Rattle.esto_rows.specs.Lent.{AddsTextsOf}
use Rattle.esto_rows.proofs.LentLemmas.{texts_pushed}
use Rattle.esto_rows.proofs.lent.push_texts.Goals as goal

pub text-requires : goal.text-requires
text-requires c = c.requires _ (Contains-get_or c.args.row.now c.codes.code-index 0 c.codes-test.true)

pub codes-init : goal.codes-init
codes-init c = sym (append-nil _)

pub codes-preserved : goal.codes-preserved
codes-preserved c =
    texts_pushed (λ text. text.now) c.args.codes.now c.args.row.now c.codes.code-index _ c.codes.texts.items c.push.new.self.items c.text.result
    c.codes-test.true c.in-Ok.ensures.items c.text.ensures.value c.codes.invariant

pub returns : goal.returns
returns c =
    subst (λ it. AddsTextsOf c.args.codes.now it (map (λ text. text.now) c.args.texts.now.items) (map (λ text. text.now) c.codes.texts.items))
    (take_all c.codes.code-index c.args.row.now c.codes-test.false) c.codes.invariant
