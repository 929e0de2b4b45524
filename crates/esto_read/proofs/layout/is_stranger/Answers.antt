use Rattle.std.proofs.lemmas.Bool.{false≢true}
use Rattle.esto_read.proofs.LayoutLemmas.{stranger_told}
use Rattle.esto_read.proofs.layout.is_stranger.Goals as goal

pub returns-in_default : goal.returns-in_default
returns-in_default c = (λ holds. absurd (false≢true holds), λ stranger. absurd (c.in_default.not-Name stranger.0))

pub returns-in-Name : goal.returns-in-Name
returns-in-Name c =
    stranger_told c.args.bytes.now c.args.columns.now c.args.token c.in-Name.is c.number_of.result (rw c.bytes_of.ensures at c.number_of.ensures)
    c.is_none.result c.is_none.ensures
