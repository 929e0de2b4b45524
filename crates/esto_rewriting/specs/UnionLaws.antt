-- What laws on members and lists of unions say.
use Rattle.std.specs.Prelude.{◌≡◌, ◌↔◌, List, Contains}
use Rattle.std.specs.List.{AllZip}
use Rattle.esto_mapping.specs.Catalogues.{AreSame}
use Rattle.esto_mapping.specs.declared.catalogue.Catalogue.{Catalogue}
use Rattle.esto_query.specs.Same.{AreSameQueries}
use Rattle.esto_status.specs.Calm.{AgreeCalmly, Leads}
use Rattle.esto_status.specs.Line.{line_of}
use Rattle.esto_status.specs.declared.status.Status.TheVariants.{Done}
use Rattle.esto_query.specs.declared.query.Query.{Query}
use Rattle.esto_rewriting.specs.Alike.{IsSamePlan}
use Rattle.esto_rewriting.specs.Exact.{CoversUnions, HasNoRewriting, HasOnlyCore, HasUniversalPlan, ListsUnionExactly, TellsSatisfiable}
use Rattle.esto_rewriting.specs.List.{lists_union}
use Rattle.esto_rewriting.specs.Members.{AreMembersOf, OneIsEmpty}
use Rattle.esto_rewriting.specs.declared.members.Member.{Member}
use Rattle.esto_rewriting.specs.declared.members.Member.TheVariants.{Planned, Clashed}

-- ---- one outcome

-- Two members have one plan, with the same names, and one list; or one clash.
abbrev pub IsSameMember : Member → Member → Type 0
IsSameMember (Planned plan items) (Planned other others) = IsSamePlan plan other × (items ≡ others)
IsSameMember (Clashed clash) (Clashed other) = clash ≡ other
IsSameMember _ _ = ⊥

-- Over catalogues that say the same, unions of the same queries have the same members.
abbrev pub MembersAreOne : Type 0
MembersAreOne =
    (catalogue other : Catalogue) (queries same : List Query) (members others : List Member) → AreSame catalogue other → AreSameQueries queries same
    → AreMembersOf catalogue queries members → AreMembersOf other same others → AllZip IsSameMember members others

-- And what is printed of them is one text, or one refusal.
abbrev pub UnionListsAreOne : Type 0
UnionListsAreOne =
    (catalogue other : Catalogue) (queries same : List Query) → AreSame catalogue other → AreSameQueries queries same
    → AgreeCalmly ◌≡◌ (lists_union catalogue queries) (lists_union other same)

-- ---- over catalogues that say the same

-- Members over one of two catalogues that say the same are members of the same queries over the other.
abbrev pub MembersAreMoved : Type 0
MembersAreMoved =
    (catalogue other : Catalogue) (queries same : List Query) (members : List Member) → AreSame catalogue other → AreSameQueries queries same
    → AreMembersOf other same members → AreMembersOf catalogue queries members

-- What `list` prints of a union over the one it prints over the other, and so with what it refuses.
abbrev pub UnionListsAreMoved : Type 0
UnionListsAreMoved =
    (catalogue other : Catalogue) (queries same : List Query) → AreSame catalogue other → AreSameQueries queries same
    → Leads (lists_union other same) (lists_union catalogue queries).goes (lists_union catalogue queries).stops

-- ---- which outcome

-- Members have plans exactly for the satisfiable queries.
abbrev pub MembersTellSatisfiable : Type 0
MembersTellSatisfiable =
    (catalogue : Catalogue) (queries : List Query) (members : List Member) → AreMembersOf catalogue queries members
    → AllZip (TellsSatisfiable catalogue) queries members

-- Their plans are universal.
abbrev pub MembersAreUniversal : Type 0
MembersAreUniversal =
    (catalogue : Catalogue) (queries : List Query) (members : List Member) → AreMembersOf catalogue queries members
    → AllZip (HasUniversalPlan catalogue) queries members

-- Where the catalogue asks for the core, each retracts into no proper sublist of itself, and is the only core for its query.
abbrev pub MembersAreCores : Type 0
MembersAreCores =
    (catalogue : Catalogue) (queries : List Query) (members : List Member) → AreMembersOf catalogue queries members
    → AllZip (HasOnlyCore catalogue) queries members

-- Their lists cover the executable rewritings of the union.
abbrev pub MembersCoverUnions : Type 0
MembersCoverUnions =
    (catalogue : Catalogue) (queries : List Query) (members : List Member) → AreMembersOf catalogue queries members
    → (member : Member) → Contains members member → CoversUnions catalogue queries member

-- The union has no executable rewriting exactly where some list is empty.
abbrev pub EmptyListsAreTold : Type 0
EmptyListsAreTold =
    (catalogue : Catalogue) (queries : List Query) (members : List Member) → AreMembersOf catalogue queries members
    → OneIsEmpty members ↔ HasNoRewriting catalogue queries

-- What `list` answers to a union is exact.
abbrev pub UnionListsAreExact : Type 0
UnionListsAreExact =
    (catalogue : Catalogue) (queries : List Query)
    → Leads (lists_union catalogue queries) (ListsUnionExactly catalogue queries Done) (λ said. ListsUnionExactly catalogue queries said (line_of said))
