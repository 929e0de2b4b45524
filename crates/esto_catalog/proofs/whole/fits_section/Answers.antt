use Rattle.std.proofs.Common.{arith, ◌<◌, ◌≤◌, length}
use Rattle.esto_catalog.proofs.WholeLemmas.{section_absent, section_goes, section_stops}
use Rattle.esto_catalog.proofs.whole.fits_section.Goals as goal
use Rattle.esto_catalog.specs.declared.whole.TheConstants.{MAX_ENTRIES}

pub returns-in_default : goal.returns-in_default
returns-in_default c = section_absent c.args.key.now c.args.section.now _ c.in_default.is c.fault.ensures

pub returns-then-len-gt-MAX_ENTRIES : goal.returns-then-len-gt-MAX_ENTRIES
returns-then-len-gt-MAX_ENTRIES c =
    let many : MAX_ENTRIES < length c.in-Some.tables = omega arith in
    section_stops c.args.key.now c.args.section.now c.in-Some.tables _ c.in-Some.is many c.fault-then-len-gt-MAX_ENTRIES.ensures

pub returns : goal.returns
returns c =
    let few : length c.in-Some.tables ≤ MAX_ENTRIES = omega arith in
    section_goes c.args.key.now c.args.section.now c.in-Some.tables c.in-Some.is few
