use Rattle.std.proofs.Common.{sym, subst}
use Rattle.esto_fill.specs.Placing.{IsImageOf, LeastOpen}
use Rattle.esto_fill.specs.Texts.{AreTextsOf}
use Rattle.esto_fill.proofs.TextLemmas.{listed, none_is, refused}
use Rattle.esto_fill.proofs.rows.texts_of.Goals as goal

pub returns-in-Some : goal.returns-in-Some
returns-in-Some c =
    refused c.args.rows.now c.in-Some.place c.node_at.result c.node_at.ensures
    (subst (LeastOpen c.args.rows.now) c.in-Some.is c.least_open.ensures)

pub returns : goal.returns
returns c =
    subst (AreTextsOf (IsImageOf c.args.rows.now)) (sym c.in_ok-texts.ensures)
    (listed c.args.rows.now c.requires (none_is c.args.rows.now c.least_open.result c.in_default.not-Some c.least_open.ensures))
