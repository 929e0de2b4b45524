use Rattle.std.proofs.Common.{[]}
use Rattle.esto_docmodel.proofs.documents.document_facts.Goals as goal

pub returns : goal.returns
returns c = c.in_ok-put_tree.ensures.facts.held [] c.new-facts.ensures
