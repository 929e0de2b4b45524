-- The command `list` over a union.
use Rattle.std.specs.Prelude.{◌≡◌, ℕ, ◌+◌, List, ◌++◌, codes}
use Rattle.std.specs.List.{AllZip}
use Rattle.esto_mapping.specs.declared.catalogue.Catalogue.{Catalogue}
use Rattle.esto_chase_laws.specs.declared.clash.Clash.{Clash}
use Rattle.esto_course.specs.Course.{Course, judges, and_then}
use Rattle.esto_list.specs.Text.{IsListText}
use Rattle.esto_views.specs.Printing.{count_line, each_from}
use Rattle.esto_status.specs.Line.{line_of}
use Rattle.esto_status.specs.declared.status.Status.{Status}
use Rattle.esto_status.specs.declared.status.Status.TheVariants.{Unsatisfiable}
use Rattle.esto_query.specs.declared.query.Query.{Query}
use Rattle.esto_rewriting.specs.Members.{AreMembersOf, ClashAt, HavePlan}
use Rattle.esto_rewriting.specs.declared.members.Member.{Member}
use Rattle.esto_rewriting.specs.declared.members.Member.TheVariants.{Planned, Clashed}

-- The text of a member is that of its plan and of its list, or the line of its clash.
abbrev pub IsMemberText : Catalogue → Member → List ℕ → Type 0
IsMemberText catalogue (Planned plan items) text = IsListText catalogue.fragments plan items text
IsMemberText catalogue (Clashed clash) text = text ≡ line_of (Unsatisfiable clash)

-- A text after the line of its disjunct's number, counted from 1.
abbrev pub disjunct_text : ℕ → List ℕ → List ℕ
disjunct_text place text = count_line (codes "disjunct ") (place + 1) ++ text

-- The text is that of the members, in order, each after the line of its number.
abbrev pub IsUnionText : Catalogue → List Member → List ℕ → Type 0
IsUnionText catalogue members text =
    (texts : List (List ℕ)) × AllZip (IsMemberText catalogue) members texts × (text ≡ each_from disjunct_text 0 texts)

-- The members of the union are made.
abbrev pub makes_members : Catalogue → List Query → Course Status (List Member)
makes_members catalogue queries = judges (AreMembersOf catalogue queries) (λ _. ⊥)

-- Some member has a plan, and the text of the members is made; or none has one, and the first one's clash refuses.
abbrev pub prints_members : Catalogue → List Member → Course Status (List ℕ)
prints_members catalogue members =
    judges (λ text. HavePlan members × IsUnionText catalogue members text)
    (λ refusal. (clash : Clash) × ClashAt members clash × (refusal ≡ Unsatisfiable clash))

-- The members of the union are made, and their text.
abbrev pub lists_union : Catalogue → List Query → Course Status (List ℕ)
lists_union catalogue queries = and_then (makes_members catalogue queries) (prints_members catalogue)
