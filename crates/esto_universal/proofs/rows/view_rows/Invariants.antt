use Rattle.esto_views.specs.Fragments.{views_of}
use Rattle.esto_universal.proofs.RowLemmas.{AreRowsBelow}
use Rattle.esto_universal.proofs.rows.view_rows.Given as goal

abbrev pub invariant-fragments : goal.invariant-fragments
invariant-fragments l = AreRowsBelow (views_of l.fragments) l.facts l.number l.all
