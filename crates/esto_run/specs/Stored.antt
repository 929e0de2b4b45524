-- Rows of codes that an executor asks.
use Rattle.std.specs.Prelude.{◌≡◌, List, [], length, map, Contains}
use Rattle.esto_columns.specs.declared.stored.StoredRows.{StoredRows}
use Rattle.esto_steps.specs.Planned.{inputs_of}
use Rattle.esto_views.specs.declared.fragments.FragmentDef.{FragmentDef}

-- There is no row in any of them.
abbrev pub AreEmpty : List StoredRows → Type 0
AreEmpty stored = (own : StoredRows) → Contains stored own → own.rows.rows ≡ []

-- No rows, with the fragment's columns and the ways of its patterns.
abbrev pub stored_none : FragmentDef → StoredRows
stored_none fragment = record { rows = record { arity = length fragment.view.head; rows = [] }; ways = map inputs_of fragment.access }
