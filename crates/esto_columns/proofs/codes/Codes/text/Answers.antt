use Rattle.esto_columns.proofs.CodeLemmas.{text_is_utf8, text_stands}
use Rattle.esto_columns.proofs.codes.Codes.text.Goals as goal

pub returns-clause-value : goal.returns-clause-value
returns-clause-value c = text_stands
    (λ key. key.items) c.self.inside.texts.keys c.as_slice.result.now c.args.self.now c.self.view_is c.as_slice.ensures.keys c.args.code
    c.index-as_slice-code.result c.as_slice-2.result.now c.requires c.index-as_slice-code.is c.as_slice-2.ensures

pub returns-clause-utf8 : goal.returns-clause-utf8
returns-clause-utf8 c = text_is_utf8
    (λ key. key.items) c.self.inside.texts.keys c.as_slice.result.now c.args.self.now c.self.view_is c.as_slice.ensures.keys c.args.code
    c.index-as_slice-code.result c.as_slice-2.result.now c.requires c.index-as_slice-code.is
    c.as_slice-2.ensures c.self.invariant
