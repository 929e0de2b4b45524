use Rattle.std.proofs.lemmas.Result.{err_from_is_err_and, IfOk-weaker, IfErr-weaker}
use Rattle.esto_query.specs.Schemas.{arities_of}
use Rattle.esto_text.specs.View.{tree_of}
use Rattle.esto_read.proofs.ReadLemmas.{query_parts, grammar_error, read_error}
use Rattle.esto_read.proofs.read.read.Goals as goal

pub returns-in_err-tree : goal.returns-in_err-tree
returns-in_err-tree c =
    let p = err_from_is_err_and c.from_residual.result c.from_residual.ensures.1 in
    rw (p.1, p.2) (record {
      reading = tt;
      over = tt;
      head = tt;
      error = grammar_error c.args.form c.args.words.now (arities_of c.args.schema.now) c.args.bytes.now _ c.in_err-tree.ensures.error;
    })

pub said-requires-clause-utf8 : goal.said-requires-clause-utf8
said-requires-clause-utf8 c = c.in_ok-tree.ensures.tree.1.0

pub said-requires-clause-words : goal.said-requires-clause-words
said-requires-clause-words c = c.requires.words

pub said-requires-clause-stands : goal.said-requires-clause-stands
said-requires-clause-stands c = c.in_ok-tree.ensures.tokens

pub said-requires-clause-parts : goal.said-requires-clause-parts
said-requires-clause-parts c = query_parts (tree_of c.in_ok-tree.tree) _ c.in_ok-tree.ensures.tree.2

pub returns-clause-reading : goal.returns-clause-reading
returns-clause-reading c =
    IfOk-weaker c.said.result _ _ (λ query said. (tree_of c.in_ok-tree.tree, record { text = c.in_ok-tree.ensures.tree; said = said })) c.said.ensures.said

pub returns-clause-over : goal.returns-clause-over
returns-clause-over c = c.said.ensures.over

pub returns-clause-head : goal.returns-clause-head
returns-clause-head c = c.said.ensures.head

pub returns-clause-error : goal.returns-clause-error
returns-clause-error c =
    IfErr-weaker c.said.result _ _ (λ error is. read_error c.args.form c.args.words.now (arities_of c.args.schema.now) c.args.bytes.now
    (tree_of c.in_ok-tree.tree) error c.in_ok-tree.ensures.tree is) c.said.ensures.error
