use Rattle.std.proofs.Common.{refl, sym, subst}
use Rattle.esto_coded.specs.Coded.{StandFor, StandInOrder}
use Rattle.esto_coded.specs.Relations.{coded_of}
use Rattle.esto_coded.proofs.StandLemmas.{order_grow, stand_grow}
use Rattle.esto_coded.proofs.coded.CodedFacts.code_keys.Goals as goal

pub returns-clause-facts : goal.returns-clause-facts
returns-clause-facts c = λ facts stand.
    stand_grow (coded_of c.self.inside.codes c.self.inside.relations.items) (coded_of c.code_keys.new.codes c.self.inside.relations.items) facts
    c.code_keys.ensures.grown refl (subst (λ it. StandFor it facts) (sym c.self.view_is) stand)

pub returns-clause-ordered : goal.returns-clause-ordered
returns-clause-ordered c = λ facts stand.
    order_grow (coded_of c.self.inside.codes c.self.inside.relations.items) (coded_of c.code_keys.new.codes c.self.inside.relations.items) facts
    c.code_keys.ensures.grown refl (subst (λ it. StandInOrder it facts) (sym c.self.view_is) stand)
