use Rattle.std.proofs.Common.{◌∙◌, ap}
use Rattle.std.proofs.lemmas.Result.{IfOk-weaker}
use Rattle.serde_json.specs.Data.{array}
use Rattle.serde_json.specs.View.{items_of}
use Rattle.serde_json.proofs.Views.{view-Array}
use Rattle.esto_docmodel.specs.Shapes.{entries_of}
use Rattle.esto_docs.proofs.write.write_array.Goals as goal

pub returns : goal.returns
returns c =
    IfOk-weaker c.array_text.result _ _ (λ text written. written (entries_of c.args.pattern.now.entries) c.args.rows.now c.requires
    (view-Array c.in_ok-documents_of.field-0 ∙ ap (λ ds. array (items_of ds)) c.in_ok-documents_of.ensures)) c.array_text.ensures
