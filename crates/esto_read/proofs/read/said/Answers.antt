use Rattle.std.proofs.Common.{◌∙◌, arith}
use Rattle.std.proofs.lemmas.Result.{err_from_is_err_and}
use Rattle.esto_query.specs.Schemas.{arities_of}
use Rattle.esto_text.specs.View.{tree_of}
use Rattle.esto_semantics.specs.WellFormed.{IsQueryOver}
use Rattle.esto_read.specs.Readings.{IsRead, IsHeadFit, HasVariables}
use Rattle.esto_read.proofs.ReadLemmas.{sound, over, head_is}
use Rattle.esto_read.proofs.ItemLemmas.{items_size}
use Rattle.esto_read.proofs.MakeLemmas.{query_along}
use Rattle.esto_read.proofs.Utf8Lemmas.{name_token}
use Rattle.esto_read.proofs.read.said.Goals as goal

-- ---- the head and the body

pub head_and_body-requires : goal.head_and_body-requires
head_and_body-requires c = record {
  utf8 = c.requires.utf8;
  words = c.requires.words;
  stands = c.requires.stands;
  none = c.new-names.ensures;
}

pub returns-in_err-head : goal.returns-in_err-head
returns-in_err-head c =
    let p = err_from_is_err_and c.from_residual.result c.from_residual.ensures.1 in
    rw (p.1, p.2) (record { said = tt; over = tt; head = tt; error = c.in_err-head.ensures.error })

-- ---- the query that is made

pub query-query-requires-clause-sound : goal.query-query-requires-clause-sound
query-query-requires-clause-sound c =
    sound c.args.words.now (arities_of c.args.schema.now) c.args.bytes.now c.requires.utf8 (tree_of c.args.tree.now) c.in_ok-head.head
    c.in_ok-head.body c.head_and_body.new.names c.requires.parts c.requires.stands c.in_ok-head.ensures.read c.requires.words.relations
    c.in_ok-head.ensures.fit.1

pub query-query-requires-clause-over : goal.query-query-requires-clause-over
query-query-requires-clause-over c =
    (over c.args.words.now (arities_of c.args.schema.now) c.args.bytes.now c.requires.utf8 (tree_of c.args.tree.now) c.in_ok-head.head
    c.in_ok-head.body c.head_and_body.new.names c.requires.parts c.requires.stands c.in_ok-head.ensures.read c.requires.words.relations).over

pub query-query-requires-clause-size : goal.query-query-requires-clause-size
query-query-requires-clause-size c =
    let read = c.in_ok-head.ensures.read in
    let size = items_size c.args.words.now (arities_of c.args.schema.now) c.args.bytes.now 0 read.between (tree_of c.args.tree.now).items c.in_ok-head.body
    c.head_and_body.new.names (omega arith) read.body_atoms read.fits in
    omega (arith, size)

pub plain-requires : goal.plain-requires
plain-requires c =
    let name = c.requires.stands.0 in
    rw c.bytes_of.ensures (name_token c.args.bytes.now c.requires.utf8 c.args.tree.now.name name.0 name.1)

pub returns-in_err-name : goal.returns-in_err-name
returns-in_err-name c =
    let p = err_from_is_err_and c.from_residual-in_err-name.result c.from_residual-in_err-name.ensures.1 in
    rw (p.1, p.2) (record { said = tt; over = tt; head = tt; error = tt })

pub returns-clause-said : goal.returns-clause-said
returns-clause-said c =
    let tree = tree_of c.args.tree.now in
    record {
      name = c.in_ok-name.ensures ∙ c.bytes_of.ensures;
      read = query_along (arities_of c.args.schema.now) c.in_ok-head.head c.in_ok-head.body c.head_and_body.new.names c.query-query.result
          (λ head body names. IsRead c.args.words.now (arities_of c.args.schema.now) c.args.bytes.now tree head body names) c.query-query.ensures
          c.in_ok-head.ensures.read;
      fit = query_along (arities_of c.args.schema.now) c.in_ok-head.head c.in_ok-head.body c.head_and_body.new.names c.query-query.result
          (λ head body names. IsHeadFit c.args.form c.args.bytes.now tree.variables head body) c.query-query.ensures c.in_ok-head.ensures.fit;
    }

pub returns-clause-over : goal.returns-clause-over
returns-clause-over c =
    query_along (arities_of c.args.schema.now) c.in_ok-head.head c.in_ok-head.body c.head_and_body.new.names c.query-query.result
    (λ head body names. IsQueryOver (arities_of c.args.schema.now) (record { head = head; body = body })) c.query-query.ensures
    (over c.args.words.now (arities_of c.args.schema.now) c.args.bytes.now c.requires.utf8 (tree_of c.args.tree.now) c.in_ok-head.head
    c.in_ok-head.body c.head_and_body.new.names c.requires.parts c.requires.stands c.in_ok-head.ensures.read c.requires.words.relations)

pub returns-clause-head : goal.returns-clause-head
returns-clause-head c =
    let read = c.in_ok-head.ensures.read in
    query_along (arities_of c.args.schema.now) c.in_ok-head.head c.in_ok-head.body c.head_and_body.new.names c.query-query.result
    (λ head body names. HasVariables c.args.form head) c.query-query.ensures
    (head_is c.args.bytes.now c.args.tree.now.variables c.in_ok-head.head read.between c.requires.stands.1 read.head_terms c.args.form
    c.in_ok-head.ensures.fit.0)
