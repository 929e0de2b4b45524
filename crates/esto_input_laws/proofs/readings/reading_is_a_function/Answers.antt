use Rattle.std.proofs.Common.{◌≡◌}
use Rattle.esto_docmodel.specs.Shapes.{entries_of}
use Rattle.esto_read.specs.Constraints.{IsConstraintReading, IsConstraintFault, AreSameRule}
use Rattle.esto_read.specs.Layouts.{IsLayoutReading, IsLayoutFault}
use Rattle.esto_read.specs.Readings.{IsReading, IsFirstFault, AreSame}
use Rattle.esto_read.specs.Unions.{IsUnionReading, IsFirstUnionFault, AreAllSame}
use Rattle.esto_input_laws.proofs.FunctionLemmas.{is_function}
use Rattle.esto_input_laws.proofs.LayoutReadingLemmas.{layout_reading}
use Rattle.esto_input_laws.proofs.QueryLemmas.{query_reading, union_reading}
use Rattle.esto_input_laws.proofs.RuleLemmas.{constraint_reading}
use Rattle.esto_input_laws.proofs.readings.reading_is_a_function.Goals as goal

pub returns-clause-query : goal.returns-clause-query
returns-clause-query c = λ form words schema h.
    let one = c.readings_are_determined.ensures in
    is_function AreSame (IsReading form words schema) (IsFirstFault form words schema) (λ bytes. query_reading words schema h bytes form)
    (λ bytes query other. one.reading form words schema bytes query other h) (λ bytes query fault. one.apart form words schema bytes query fault h)
    (λ bytes fault other. one.fault form words schema bytes fault other h)

pub returns-clause-union : goal.returns-clause-union
returns-clause-union c = λ words schema h.
    let one = c.union_readings_are_determined.ensures in
    is_function AreAllSame (IsUnionReading words schema) (IsFirstUnionFault words schema) (λ bytes. union_reading words schema h bytes)
    (λ bytes queries others. one.reading words schema bytes queries others h) (λ bytes queries fault. one.apart words schema bytes queries fault h)
    (λ bytes fault other. one.fault words schema bytes fault other h)

pub returns-clause-constraint : goal.returns-clause-constraint
returns-clause-constraint c = λ version words schema h.
    let one = c.constraint_readings_are_determined.ensures in
    is_function AreSameRule (IsConstraintReading version words schema) (IsConstraintFault version words schema)
    (λ bytes. constraint_reading version words schema h bytes) (λ bytes rule other. one.reading version words schema bytes rule other h)
    (λ bytes rule fault. one.apart version words schema bytes rule fault h) (λ bytes fault other. one.fault version words schema bytes fault other h)

pub returns-clause-layout : goal.returns-clause-layout
returns-clause-layout c = λ columns h.
    let one = c.layout_readings_are_determined.ensures in
    is_function (λ pattern other. entries_of pattern.entries ≡ entries_of other.entries) (IsLayoutReading columns) (IsLayoutFault columns)
    (λ bytes. layout_reading columns bytes) (λ bytes pattern other. one.reading columns bytes pattern other h)
    (λ bytes pattern fault. one.apart columns bytes pattern fault h) (λ bytes fault other. one.fault columns bytes fault other h)
