use Rattle.std.proofs.Common.{List, Contains, IfOk, refl, sym, subst}
use Rattle.esto_columns.specs.CodedRows.{CodedRows}
use Rattle.esto_columns.specs.declared.stored.StoredRows.{StoredRows}
use Rattle.esto_coded.specs.Answered.{AreCodedAnswers}
use Rattle.esto_coded.specs.Coded.{StandFor, StandInOrder}
use Rattle.esto_coded.specs.Relations.{coded_of}
use Rattle.esto_coded.proofs.StandLemmas.{order_grow, stand_grow}
use Rattle.esto_coded.proofs.coded.CodedFacts.answers.Goals as goal

pub answers_over-requires-clause-whole : goal.answers_over-requires-clause-whole
answers_over-requires-clause-whole c = λ relation inside. c.self.invariant relation (subst (λ them. Contains them relation) c.as_slice.ensures.value inside)

pub returns-clause-facts : goal.returns-clause-facts
returns-clause-facts c = λ facts stand.
    stand_grow (coded_of c.self.inside.codes c.self.inside.relations.items) (coded_of c.answers_over.new.codes c.self.inside.relations.items) facts
    c.answers_over.ensures.grown refl (subst (λ them. StandFor them facts) (sym c.self.view_is) stand)

pub returns-clause-ordered : goal.returns-clause-ordered
returns-clause-ordered c = λ facts stand.
    order_grow (coded_of c.self.inside.codes c.self.inside.relations.items) (coded_of c.answers_over.new.codes c.self.inside.relations.items) facts
    c.answers_over.ensures.grown refl (subst (λ them. StandInOrder them facts) (sym c.self.view_is) stand)

pub returns-clause-rows : goal.returns-clause-rows
returns-clause-rows c = subst (λ (them : List StoredRows). IfOk c.answers_over.result (λ (it : CodedRows). AreCodedAnswers
    (coded_of c.answers_over.new.codes them) (record { head = c.args.head.now; body = c.args.body.now }) it.rows))
    c.as_slice.ensures.value c.answers_over.ensures.rows
