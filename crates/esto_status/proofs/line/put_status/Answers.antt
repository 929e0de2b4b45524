use Rattle.esto_status.proofs.line.put_status.Goals as goal

pub returns-in-Usage : goal.returns-in-Usage
returns-in-Usage c = rw c.in-Usage.is c.append.ensures.ok

pub returns-in-WriteFault : goal.returns-in-WriteFault
returns-in-WriteFault c = rw c.in-WriteFault.is c.append-in-WriteFault.ensures.ok

pub returns-in-BadCatalogue : goal.returns-in-BadCatalogue
returns-in-BadCatalogue c = rw c.in-BadCatalogue.is c.put_bad_catalogue.ensures

pub returns-in-BadQuery : goal.returns-in-BadQuery
returns-in-BadQuery c = rw c.in-BadQuery.is c.put_bad_query.ensures

pub returns-in-NotAcyclic : goal.returns-in-NotAcyclic
returns-in-NotAcyclic c = rw c.in-NotAcyclic.is c.put_not_acyclic.ensures

pub returns-in-Unsatisfiable : goal.returns-in-Unsatisfiable
returns-in-Unsatisfiable c = rw c.in-Unsatisfiable.is c.put_unsatisfiable.ensures

pub returns-in-NoRewriting : goal.returns-in-NoRewriting
returns-in-NoRewriting c = rw c.in-NoRewriting.is c.append-in-NoRewriting.ensures.ok

pub returns-in-Differs : goal.returns-in-Differs
returns-in-Differs c = rw c.in-Differs.is c.put_differs.ensures
