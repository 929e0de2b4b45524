use Rattle.std.proofs.Common.{subst}
use Rattle.std.proofs.lemmas.Result.{on_ok_weaker}
use Rattle.esto_rows.specs.Wanted.{PutsWanted}
use Rattle.esto_rows.proofs.wanted.put_at.Goals as goal

pub returns : goal.returns
returns c = on_ok_weaker c.put_row.result
    (λ puts. (
      c.read_row.new.codes,
      c.in_ok-read_row.ensures,
      subst (λ it. PutsWanted c.args.wanted.now it c.args.set.now c.put_row.new.set) c.items.ensures puts,
    ))
    c.put_row.ensures
