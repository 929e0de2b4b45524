use Rattle.std.proofs.Common.{arith, refl}
use Rattle.esto_query.proofs.make.fault_of.Goals as goal

pub returns-in-Some : goal.returns-in-Some
returns-in-Some c names = c.in-Some.ensures

pub returns-then-body-gt-MAX_ATOMS : goal.returns-then-body-gt-MAX_ATOMS
returns-then-body-gt-MAX_ATOMS c names = (c.in_default.ensures, refl, omega arith)

pub returns-in-Some-first_unsafe : goal.returns-in-Some-first_unsafe
returns-in-Some-first_unsafe c names = (c.in_default.ensures, omega arith, c.in-Some-first_unsafe.ensures)

pub returns-in-None : goal.returns-in-None
returns-in-None c = (c.in_default.ensures, omega arith, c.in-None.ensures)
