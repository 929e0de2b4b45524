use Rattle.std.proofs.Common.{map, length, ◌≤◌, sym, ◌∙◌, arith}
use Rattle.std.proofs.lemmas.Result.{err_from_is_err_and}
use Rattle.esto_query.specs.Schemas.{arities_of}
use Rattle.esto_text.specs.Faults.{StandsAt}
use Rattle.esto_text.specs.View.{tree_of}
use Rattle.esto_read.specs.Readings.{HasParts}
use Rattle.esto_read.proofs.UnionLemmas.{union_parts, some_tree, first_length, all_at, said_start, said_next, said_fault, said_end, one_length, union_error}
use Rattle.esto_read.proofs.UnionLemmas.{union_read}
use Rattle.esto_read.proofs.unions.read_union.Goals as goal

pub item-requires : goal.item-requires
item-requires c = some_tree c.args.bytes.now c.in_ok-trees.trees c.in_ok-trees.ensures.trees

pub trees-init : goal.trees-init
trees-init c =
    rw c.new-queries.ensures
    (said_start c.len-count.result c.args.words.now (arities_of c.args.schema.now) c.args.bytes.now (map tree_of c.items-tree-items.result.now))

pub add_said_with-requires-clause-parts : goal.add_said_with-requires-clause-parts
add_said_with-requires-clause-parts c =
    all_at HasParts c.in_ok-trees.trees c.trees.tree-index c.tree-item.result (rw c.items-tree-items.ensures at c.trees-test.true)
    (rw c.items-tree-items.ensures at c.tree-item.is)
    (union_parts c.args.bytes.now (map tree_of c.in_ok-trees.trees) c.in_ok-trees.ensures.trees)

pub add_said_with-requires-clause-stands : goal.add_said_with-requires-clause-stands
add_said_with-requires-clause-stands c =
    all_at (StandsAt c.args.bytes.now) c.in_ok-trees.trees c.trees.tree-index c.tree-item.result (rw c.items-tree-items.ensures at c.trees-test.true)
    (rw c.items-tree-items.ensures at c.tree-item.is) c.in_ok-trees.ensures.tokens

pub returns-in_err-add_said_with-clause-error : goal.returns-in_err-add_said_with-clause-error
returns-in_err-add_said_with-clause-error c =
    let p = err_from_is_err_and c.from_residual-in_err-add_said_with.result c.from_residual-in_err-add_said_with.ensures.1 in
    let trees = c.items-tree-items.result.now in
    rw (p.1, p.2) (union_error c.len-count.result c.args.words.now (arities_of c.args.schema.now) c.args.bytes.now (map tree_of c.in_ok-trees.trees)
    (tree_of c.tree-item.result) _ c.in_ok-trees.ensures.trees
    (c.len-count.ensures ∙ sym (first_length c.in_ok-trees.trees c.item.result.now (sym c.item.ensures)))
    (rw c.items-tree-items.ensures at (said_fault c.len-count.result c.args.words.now (arities_of c.args.schema.now) c.args.bytes.now (map tree_of trees) trees
    c.trees.tree-index c.trees.queries c.trees.invariant c.tree-item.result c.trees-test.true c.tree-item.is)) c.in_err-add_said_with.ensures.error)

pub trees-preserved : goal.trees-preserved
trees-preserved c =
    let trees = c.items-tree-items.result.now in
    let added = c.in_ok-add_said_with.ensures.added in
    rw added.3
    (said_next c.len-count.result c.args.words.now (arities_of c.args.schema.now) c.args.bytes.now (map tree_of trees) trees c.trees.tree-index c.trees.queries
    c.trees.invariant c.tree-item.result c.trees-test.true c.tree-item.is added.0 added.1 added.2)

pub returns-clause-reading : goal.returns-clause-reading
returns-clause-reading c =
    let trees = c.items-tree-items.result.now in
    let le : length trees ≤ c.trees.tree-index = omega arith in
    union_read c.len-count.result c.args.words.now (arities_of c.args.schema.now) c.args.bytes.now (map tree_of c.in_ok-trees.trees) c.trees.queries
    c.in_ok-trees.ensures.trees (c.len-count.ensures ∙ sym (first_length c.in_ok-trees.trees c.item.result.now (sym c.item.ensures)))
    (rw c.items-tree-items.ensures at (said_end c.len-count.result c.args.words.now (arities_of c.args.schema.now) c.args.bytes.now (map tree_of trees) trees
    c.trees.tree-index c.trees.queries c.trees.invariant le))

pub returns-clause-over : goal.returns-clause-over
returns-clause-over c = c.trees.invariant.over

pub returns-clause-lengths : goal.returns-clause-lengths
returns-clause-lengths c =
    let trees = c.items-tree-items.result.now in
    let le : length trees ≤ c.trees.tree-index = omega arith in
    one_length c.len-count.result c.args.words.now (arities_of c.args.schema.now) c.args.bytes.now (map tree_of trees) c.trees.queries
    (said_end c.len-count.result c.args.words.now (arities_of c.args.schema.now) c.args.bytes.now (map tree_of trees) trees c.trees.tree-index c.trees.queries
    c.trees.invariant le)
