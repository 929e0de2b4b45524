use Rattle.esto_top.specs.Bench.{bench_course}
use Rattle.esto_status.proofs.Steps.{answers_still}
use Rattle.esto_top.proofs.BenchLemmas.{bench_asks}
use Rattle.esto_top.proofs.TaskLemmas.{task_fills, task_weaker}
use Rattle.esto_top.proofs.WeakerLemmas.{answers_weaker, asks_weaker}
use Rattle.esto_top.proofs.command.obey.Goals as goal

pub returns-in-Bench-clause-answer : goal.returns-in-Bench-clause-answer
returns-in-Bench-clause-answer g c = rw c.in-Bench.is (answers_still (bench_course c.in-Bench.size) _ c.bench.result c.bench.ensures)

pub returns-in-Bench-clause-asked : goal.returns-in-Bench-clause-asked
returns-in-Bench-clause-asked g c = rw c.in-Bench.is (bench_asks c.in-Bench.size _ c.bench.result c.bench.ensures)

pub returns-in-Bench-clause-filled : goal.returns-in-Bench-clause-filled
returns-in-Bench-clause-filled g c = rw c.in-Bench.is tt

pub returns-in-Verify-clause-answer : goal.returns-in-Verify-clause-answer
returns-in-Verify-clause-answer g c = rw c.in-Verify.is c.verify_named.ensures.answer

pub returns-in-Verify-clause-asked : goal.returns-in-Verify-clause-asked
returns-in-Verify-clause-asked g c = rw c.in-Verify.is c.verify_named.ensures.asked

pub returns-in-Verify-clause-filled : goal.returns-in-Verify-clause-filled
returns-in-Verify-clause-filled g c = rw c.in-Verify.is tt

pub returns-in-Over-clause-answer : goal.returns-in-Over-clause-answer
returns-in-Over-clause-answer g c =
    let named = rw c.in-Over.is at c.requires in
    let weaker = task_weaker (g.S.Shelf.files c.args.shelf.now) c.in-Over.catalogue.now c.in-Over.task named in
    rw c.in-Over.is (answers_weaker _ _ weaker _ c.over_catalogue.result c.over_catalogue.ensures.answer)

pub returns-in-Over-clause-asked : goal.returns-in-Over-clause-asked
returns-in-Over-clause-asked g c =
    let named = rw c.in-Over.is at c.requires in
    let weaker = task_weaker (g.S.Shelf.files c.args.shelf.now) c.in-Over.catalogue.now c.in-Over.task named in
    rw c.in-Over.is (asks_weaker _ _ weaker _ _ c.over_catalogue.result c.over_catalogue.ensures.asked)

pub returns-in-Over-clause-filled : goal.returns-in-Over-clause-filled
returns-in-Over-clause-filled g c =
    rw c.in-Over.is (task_fills (g.S.Shelf.files c.args.shelf.now) c.in-Over.catalogue.now _ _ _ c.over_catalogue.result c.in-Over.task
    c.over_catalogue.ensures.answer c.over_catalogue.ensures.asked)
