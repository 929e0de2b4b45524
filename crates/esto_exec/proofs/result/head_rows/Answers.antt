use Rattle.std.proofs.Common.{◌↔◌, ℕ, List, Contains, subst}
use Rattle.std.proofs.lemmas.Result.{IfOk-weaker}
use Rattle.esto_steps.specs.Named.{NamesCodes}
use Rattle.esto_exec.proofs.result.head_rows.Goals as goal

pub returns-clause-rows : goal.returns-clause-rows
returns-clause-rows c = IfOk-weaker c.projected.result _ _
    (λ it. subst (λ sources. (row : List ℕ) → Contains it.rows row
    ↔ ((end : List ℕ) × Contains c.args.so_far.now.rows.rows end × NamesCodes end sources row))
    c.in_ok-sources.ensures)
    c.projected.ensures.rows
