use Rattle.std.proofs.Common.{refl}
use Rattle.esto_docmodel.proofs.documents.every.Goals as goal

pub returns : goal.returns
returns c = refl
