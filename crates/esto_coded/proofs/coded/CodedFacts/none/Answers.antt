use Rattle.esto_coded.proofs.RelationLemmas.{none_whole, none_arities, none_ordered, none_stand}
use Rattle.esto_coded.proofs.coded.CodedFacts.none.Goals as goal

pub invariant_of-result : goal.invariant_of-result
invariant_of-result c = none_whole c.args.arities.now c.in_ok-relations.relations.items c.in_ok-relations.ensures

pub returns-clause-arities : goal.returns-clause-arities
returns-clause-arities c = none_arities c.new.result c.args.arities.now c.in_ok-relations.relations.items c.in_ok-relations.ensures

pub returns-clause-facts : goal.returns-clause-facts
returns-clause-facts c = none_stand c.new.result c.args.arities.now c.in_ok-relations.relations.items c.in_ok-relations.ensures

pub returns-clause-ordered : goal.returns-clause-ordered
returns-clause-ordered c = none_ordered c.new.result c.args.arities.now c.in_ok-relations.relations.items c.in_ok-relations.ensures
