-- The text that `list` prints.
use Rattle.std.specs.Prelude.{◌≡◌, ℕ, ◌+◌, Option, Some, None, List, [], ◌++◌, length, slice_get, codes}
use Rattle.std.specs.Fmt.{decimal}
use Rattle.esto_query.specs.declared.query.Name.{Name}
use Rattle.esto_term.specs.Sets.{numbers}
use Rattle.esto_views.specs.declared.fragments.FragmentDef.{FragmentDef}
use Rattle.esto_views.specs.declared.plan.PlanAtom.{PlanAtom}
use Rattle.esto_views.specs.declared.plan.Plan.{Plan}
use Rattle.esto_list.specs.Items.{IsPickOf}
use Rattle.esto_views.specs.Names.{nameless_of}
use Rattle.esto_list.specs.declared.listing.Listed.{Listed}
use Rattle.esto_views.specs.Printing.{each_from, terms_text, numbers_text, count_line}

-- The name of a fragment, where there is one.
abbrev pub fragment_name : Option FragmentDef → List ℕ
fragment_name None = []
fragment_name (Some fragment) = fragment.name

-- The line of an atom: its number, its fragment's name and its terms.
abbrev pub atom_line : List FragmentDef → List Name → List ℕ → ℕ → PlanAtom → List ℕ
atom_line fragments names nameless place atom =
    decimal (place + 1) ++ codes " " ++ fragment_name (slice_get fragments atom.fragment) ++ terms_text names nameless atom.terms ++ codes "\n"

-- The lines of a plan, whose variables without a name are numbered by their places in a list.
abbrev pub plan_lines_with : List FragmentDef → Plan → List ℕ → List ℕ
plan_lines_with fragments plan nameless =
    count_line (codes "plan ") (length plan.atoms) ++ each_from (atom_line fragments plan.names nameless) 0 plan.atoms
    ++ codes "head " ++ terms_text plan.names nameless plan.head ++ codes "\n"

-- The lines of a plan.
abbrev pub plan_lines : List FragmentDef → Plan → List ℕ
plan_lines fragments plan = plan_lines_with fragments plan (nameless_of plan)

-- The line of an item: its number, its set, its order and its weight.
abbrev pub item_line : ℕ → Listed → List ℕ
item_line place item =
    decimal (place + 1) ++ codes " {" ++ numbers_text (numbers item.set) ++ codes "} order " ++ numbers_text item.order ++ count_line
    (codes " weight ") item.weight

-- The line of the pick.
abbrev pub pick_line : Option ℕ → List ℕ
pick_line None = codes "pick none\n"
pick_line (Some place) = count_line (codes "pick ") (place + 1)

-- The text of a list: the lines of the plan, those of the items, and that of the pick.
abbrev pub list_text : List FragmentDef → Plan → List Listed → Option ℕ → List ℕ
list_text fragments plan items pick =
    plan_lines fragments plan ++ count_line (codes "rewritings ") (length items) ++ each_from item_line 0 items ++ pick_line pick

-- The text is that of the list, with its pick.
abbrev pub IsListText : List FragmentDef → Plan → List Listed → List ℕ → Type 0
IsListText fragments plan items text = (pick : Option ℕ) × IsPickOf items pick × (text ≡ list_text fragments plan items pick)
