-- Over one of two catalogues that say the same, the members of a union are those over the other, and so is what is printed of them.
use Rattle.std.proofs.Common.{ℕ, List, [], ◌∷◌, inl, inr}
use Rattle.std.specs.List.{AllZip}
use Rattle.esto_mapping.specs.Catalogues.{AreSame}
use Rattle.esto_mapping.specs.declared.catalogue.Catalogue.{Catalogue}
use Rattle.esto_course.specs.Course.{and_then, judges}
use Rattle.esto_query.specs.Same.{AreSameQueries, IsSameQuery}
use Rattle.esto_status.specs.Answers.{IsCaused}
use Rattle.esto_status.specs.declared.status.Status.{Status}
use Rattle.esto_rewriting.specs.Alike.{ClashIsMoved, ListTextIsMoved, PlanIsMoved}
use Rattle.esto_query.specs.declared.query.Query.{Query}
use Rattle.esto_term.proofs.ZipLemmas.{zip_weaker}
use Rattle.esto_rewriting.specs.UnionLaws.{MembersAreMoved, UnionListsAreMoved}
use Rattle.esto_rewriting.specs.List.{IsMemberText, IsUnionText, lists_union}
use Rattle.esto_rewriting.specs.Members.{AreMembersOf, IsMemberOf}
use Rattle.esto_rewriting.specs.declared.members.Member.{Member}
use Rattle.esto_rewriting.specs.declared.members.Member.TheVariants.{Planned, Clashed}
use Rattle.esto_rewriting.proofs.OneLemmas.{list_here, same_queries}

-- ---- the members

module _ (plans : PlanIsMoved) (clashes : ClashIsMoved) (catalogue other : Catalogue) (alike : AreSame catalogue other) (queries same : List Query)
    (are_same : AreSameQueries queries same) where
  member_moved : (query other_query : Query) → IsSameQuery query other_query → (member : Member) → IsMemberOf other same other_query member
      → IsMemberOf catalogue queries query member
  member_moved query other_query is_same (Planned plan items) (planned, list) = (
    plans catalogue other query other_query plan alike is_same planned,
    list_here catalogue other alike queries same (same_queries queries same are_same) plan items list,
  )
  member_moved query other_query is_same (Clashed clash) clashed = clashes catalogue other query other_query clash alike is_same clashed

  each_moved : (some others : List Query) → AreSameQueries some others → (members : List Member) → AllZip (IsMemberOf other same) others members
      → AllZip (IsMemberOf catalogue queries) some members
  each_moved [] [] are [] zip = tt
  each_moved [] [] are (member ∷ members) zip = absurd zip
  each_moved [] (other_query ∷ others) are members zip = absurd are
  each_moved (query ∷ some) [] are members zip = absurd are
  each_moved (query ∷ some) (other_query ∷ others) are [] zip = absurd zip
  each_moved (query ∷ some) (other_query ∷ others) (is_same, rest) (member ∷ members) (here, later) =
      (member_moved query other_query is_same member here, each_moved some others rest members later)

  pub all_moved : (members : List Member) → AreMembersOf other same members → AreMembersOf catalogue queries members
  all_moved members are = each_moved queries same are_same members are

-- ---- what is printed

module _ (printed_moved : ListTextIsMoved) (catalogue other : Catalogue) (alike : AreSame catalogue other) where
  text_moved : (member : Member) (text : List ℕ) → IsMemberText other member text → IsMemberText catalogue member text
  text_moved (Planned plan items) text is = printed_moved catalogue.fragments other.fragments plan items text alike.names is
  text_moved (Clashed clash) text is = is

  texts_moved : (members : List Member) (texts : List (List ℕ)) → AllZip (IsMemberText other) members texts → AllZip (IsMemberText catalogue) members texts
  texts_moved members texts =
      zip_weaker (IsMemberText other) (IsMemberText catalogue) members texts (λ member text _ is. text_moved member text is)

  union_text_moved : (members : List Member) (text : List ℕ) → IsUnionText other members text → IsUnionText catalogue members text
  union_text_moved members text (texts, are, is) = (texts, texts_moved members texts are, is)

module _ (plans : PlanIsMoved) (clashes : ClashIsMoved) (printed_moved : ListTextIsMoved) (catalogue other : Catalogue) (alike : AreSame catalogue other)
    (queries same : List Query) (are_same : AreSameQueries queries same) where
  moved_here : (members : List Member) → AreMembersOf other same members → AreMembersOf catalogue queries members
  moved_here = all_moved plans clashes catalogue other alike queries same are_same

  text_goes : (text : List ℕ) → (lists_union other same).goes text → (lists_union catalogue queries).goes text
  unfolding and_then judges
  text_goes text (members, are, (some, printed)) =
      (members, moved_here members are, (some, union_text_moved printed_moved catalogue other alike members text printed))

  text_stops : (refusal : Status) → IsCaused ⊥ refusal → (lists_union other same).stops refusal → (lists_union catalogue queries).stops refusal
  unfolding and_then judges
  text_stops refusal caused (inl never) = absurd never
  text_stops refusal caused (inr (members, are, stops)) = inr (members, moved_here members are, stops)

pub members_moved : PlanIsMoved → ClashIsMoved → MembersAreMoved
members_moved plans clashes catalogue other queries same members alike are_same are =
    all_moved plans clashes catalogue other alike queries same are_same members are

pub lists_moved : PlanIsMoved → ClashIsMoved → ListTextIsMoved → UnionListsAreMoved
lists_moved plans clashes printed_moved catalogue other queries same alike are_same = record {
  goes = text_goes plans clashes printed_moved catalogue other alike queries same are_same;
  stops = text_stops plans clashes printed_moved catalogue other alike queries same are_same;
}
