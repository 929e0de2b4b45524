-- Over catalogues that say the same, the members of a union are one, and so is what is printed of them.
use Rattle.std.proofs.Common.{◌≡◌, ℕ, List, [], ◌∷◌, slice_get, Some, All, ◌||◌, refl, sym, ap, subst, ◌∙◌}
use Rattle.std.proofs.lemmas.Option.{same_Some, none-some}
use Rattle.std.specs.List.{AllZip, list_any}
use Rattle.either.specs.declared.Either.TheVariants.{Left, Right}
use Rattle.esto_mapping.specs.Catalogues.{AreSame}
use Rattle.esto_mapping.specs.declared.catalogue.Catalogue.{Catalogue}
use Rattle.esto_chase_laws.specs.declared.clash.Clash.{Clash}
use Rattle.esto_constraint.specs.Constraints.{rules_of}
use Rattle.esto_course.specs.Course.{judges}
use Rattle.esto_course.proofs.Determined.{judges_agree, then_agree}
use Rattle.esto_list.specs.Items.{sets_of}
use Rattle.esto_list.specs.Text.{IsListText}
use Rattle.esto_views.specs.Printing.{each_from}
use Rattle.esto_list.specs.declared.listing.Listed.{Listed}
use Rattle.esto_query.specs.Same.{AreSameQueries, IsSameQuery}
use Rattle.esto_status.specs.Line.{line_of}
use Rattle.esto_status.specs.declared.status.Status.TheVariants as status
use Rattle.esto_semantics.specs.UnionLaws.{UnionListIsOne}
use Rattle.esto_semantics.specs.UnionSets.{AreUnionListed}
use Rattle.esto_rewriting.specs.Alike.{EndIsOne, IsSamePlan, ItemsAreOne, ListTextIsOne}
use Rattle.esto_query.specs.declared.query.Query.{Query}
use Rattle.esto_semantics.specs.Access.{IsStatedOrder, Patterns}
use Rattle.esto_semantics.specs.Listed.{IsWeight, chosen}
use Rattle.esto_union.specs.Unions.{queries_of}
use Rattle.esto_views.specs.Fragments.{patterns_of, views_of}
use Rattle.esto_views.specs.Plans.{plan_query}
use Rattle.esto_views.specs.declared.plan.Plan.{Plan}
use Rattle.esto_run.proofs.SameLemmas.{same_query}
use Rattle.esto_rewriting.specs.UnionLaws.{IsSameMember, MembersAreOne, UnionListsAreOne}
use Rattle.esto_rewriting.specs.List.{IsMemberText, IsUnionText, disjunct_text}
use Rattle.esto_rewriting.specs.Members.{IsListIn, IsMemberOf, has_plan}
use Rattle.esto_rewriting.specs.declared.members.Member.{Member}
use Rattle.esto_rewriting.specs.declared.members.Member.TheVariants.{Planned, Clashed}

-- ---- the lists

pub same_queries : (queries others : List Query) → AreSameQueries queries others → queries_of queries ≡ queries_of others
same_queries [] [] same = refl
same_queries [] (other ∷ others) same = absurd same
same_queries (query ∷ queries) [] same = absurd same
same_queries (query ∷ queries) (other ∷ others) (same, rest) = λ i. same_query query other same i ∷ same_queries queries others rest i

-- a list over the other catalogue is one over this
pub list_here : (catalogue other : Catalogue) → AreSame catalogue other → (queries others : List Query) → queries_of queries ≡ queries_of others → (plan : Plan)
    (items : List Listed) → IsListIn other others plan items → IsListIn catalogue queries plan items
list_here catalogue other alike queries others same plan items list = record {
  sets =
      subst (λ it. AreUnionListed (rules_of catalogue.rules) (views_of catalogue.fragments) (patterns_of catalogue.fragments) it (plan_query plan)
      (sets_of items)) (sym same)
      (subst (λ it. AreUnionListed (rules_of catalogue.rules) (views_of catalogue.fragments) it (queries_of others) (plan_query plan) (sets_of items))
      (sym alike.patterns)
      (subst (λ it. AreUnionListed (rules_of catalogue.rules) it (patterns_of other.fragments) (queries_of others) (plan_query plan) (sets_of items))
      (sym alike.views)
      (subst (λ it. AreUnionListed it (views_of other.fragments) (patterns_of other.fragments) (queries_of others) (plan_query plan) (sets_of items))
      (sym alike.rules) list.sets)));
  orders = subst (λ (it : Patterns). All (λ (item : Listed). IsStatedOrder it (plan_query plan).body item.set item.order) items)
      (sym alike.patterns) list.orders;
  weights = subst (λ (it : List ℕ). All (λ (item : Listed). IsWeight it (chosen item.set (plan_query plan).body) item.weight) items)
      (sym alike.weights) list.weights;
}

module _ (sets_one : UnionListIsOne) (items_are_one : ItemsAreOne) (catalogue : Catalogue) (queries : List Query) where
  items_one : (plan other_plan : Plan) → plan_query plan ≡ plan_query other_plan → (items others : List Listed) → IsListIn catalogue queries plan items
      → IsListIn catalogue queries other_plan others → items ≡ others
  items_one plan other_plan plans items others list other_list =
      items_are_one catalogue.fragments plan other_plan items others plans
      (sets_one (rules_of catalogue.rules) (views_of catalogue.fragments) (patterns_of catalogue.fragments) (queries_of queries) (plan_query plan)
      (sets_of items) (sets_of others) list.sets
      (subst (λ it. AreUnionListed (rules_of catalogue.rules) (views_of catalogue.fragments) (patterns_of catalogue.fragments) (queries_of queries) it
      (sets_of others)) (sym plans) other_list.sets))
      list.orders other_list.orders list.weights other_list.weights

-- ---- the members

module _ (ends_one : EndIsOne) (sets_one : UnionListIsOne) (items_are_one : ItemsAreOne) (catalogue other : Catalogue)
    (alike : AreSame catalogue other) (queries others : List Query) (are : queries_of queries ≡ queries_of others) where
  member_one : (query other_query : Query) → IsSameQuery query other_query → (member other_member : Member)
      → IsMemberOf catalogue queries query member → IsMemberOf other others other_query other_member → IsSameMember member other_member
  unfolding judges
  member_one query other_query same (Planned plan items) (Planned other_plan other_items) here there =
      let plans : IsSamePlan plan other_plan =
      (ends_one catalogue other query other_query alike same).one (Left plan) (Left other_plan) here.0 there.0 in (
        plans,
        items_one sets_one items_are_one catalogue queries plan other_plan plans.0 items other_items here.1
            (list_here catalogue other alike queries others are other_plan other_items there.1),
      )
  member_one query other_query same (Planned plan items) (Clashed clash) here there =
      (ends_one catalogue other query other_query alike same).one (Left plan) (Right clash) here.0 there
  member_one query other_query same (Clashed clash) (Planned plan items) here there =
      (ends_one catalogue other query other_query alike same).one (Right clash) (Left plan) here there.0
  member_one query other_query same (Clashed clash) (Clashed other_clash) here there =
      (ends_one catalogue other query other_query alike same).one (Right clash) (Right other_clash) here there

  each_one : (some same : List Query) → AreSameQueries some same → (members other_members : List Member)
      → AllZip (IsMemberOf catalogue queries) some members → AllZip (IsMemberOf other others) same other_members
      → AllZip IsSameMember members other_members
  each_one [] [] are_same [] [] here there = tt
  each_one [] [] are_same [] (other_member ∷ other_members) here there = absurd there
  each_one [] [] are_same (member ∷ members) other_members here there = absurd here
  each_one [] (other_query ∷ same) are_same members other_members here there = absurd are_same
  each_one (query ∷ some) [] are_same members other_members here there = absurd are_same
  each_one (query ∷ some) (other_query ∷ same) are_same [] other_members here there = absurd here
  each_one (query ∷ some) (other_query ∷ same) are_same (member ∷ members) [] here there = absurd there
  each_one (query ∷ some) (other_query ∷ same) (is_same, rest) (member ∷ members) (other_member ∷ other_members) (here, later) (there, other_later) = (
    member_one query other_query is_same member other_member here there,
    each_one some same rest members other_members later other_later,
  )

pub members_one : EndIsOne → UnionListIsOne → ItemsAreOne → MembersAreOne
members_one ends_one sets_one items_are_one catalogue other queries same members others alike are_same here there =
    each_one ends_one sets_one items_are_one catalogue other alike queries same (same_queries queries same are_same) queries same are_same
    members others here there

-- ---- what is printed

module _ (texts_are_one : ListTextIsOne) (catalogue other : Catalogue) (alike : AreSame catalogue other) where
  list_text_one : (plan other_plan : Plan) → IsSamePlan plan other_plan → (items others : List Listed) → items ≡ others → (text other_text : List ℕ)
      → IsListText catalogue.fragments plan items text → IsListText other.fragments other_plan others other_text → text ≡ other_text
  list_text_one plan other_plan plans items others same text other_text printed other_printed =
      texts_are_one catalogue.fragments other.fragments plan other_plan others text other_text alike.names plans
      (subst (λ it. IsListText catalogue.fragments plan it text) same printed) other_printed

  member_text_one : (member other_member : Member) → IsSameMember member other_member → (text other_text : List ℕ) → IsMemberText catalogue member text
      → IsMemberText other other_member other_text → text ≡ other_text
  member_text_one (Planned plan items) (Planned other_plan others) same text other_text is is_other =
      list_text_one plan other_plan same.0 items others same.1 text other_text is is_other
  member_text_one (Planned plan items) (Clashed clash) same text other_text is is_other = absurd same
  member_text_one (Clashed clash) (Planned plan items) same text other_text is is_other = absurd same
  member_text_one (Clashed clash) (Clashed other_clash) same text other_text is is_other =
      is ∙ ap (λ (it : Clash). line_of (status.Unsatisfiable it)) same ∙ sym is_other

  texts_one : (members others : List Member) → AllZip IsSameMember members others → (texts other_texts : List (List ℕ))
      → AllZip (IsMemberText catalogue) members texts → AllZip (IsMemberText other) others other_texts → texts ≡ other_texts
  texts_one [] [] same [] [] are are_other = refl
  texts_one [] [] same [] (text ∷ texts) are are_other = absurd are_other
  texts_one [] [] same (text ∷ texts) other_texts are are_other = absurd are
  texts_one [] (other_member ∷ others) same texts other_texts are are_other = absurd same
  texts_one (member ∷ members) [] same texts other_texts are are_other = absurd same
  texts_one (member ∷ members) (other_member ∷ others) same [] other_texts are are_other = absurd are
  texts_one (member ∷ members) (other_member ∷ others) same (text ∷ texts) [] are are_other = absurd are_other
  texts_one (member ∷ members) (other_member ∷ others) (same, rest) (text ∷ texts) (other_text ∷ other_texts) (is, are) (is_other, are_other) =
      let first = member_text_one member other_member same text other_text is is_other in
      let later = texts_one members others rest texts other_texts are are_other in
      λ i. first i ∷ later i

  union_text_one : (members others : List Member) → AllZip IsSameMember members others → (text other_text : List ℕ)
      → IsUnionText catalogue members text → IsUnionText other others other_text → text ≡ other_text
  union_text_one members others same text other_text (texts, are, is) (other_texts, are_other, is_other) =
      is ∙ ap (each_from disjunct_text 0) (texts_one members others same texts other_texts are are_other) ∙ sym is_other

-- members that are the same have a plan, or the first one's clash, alike
same_has : (member other : Member) → IsSameMember member other → has_plan member ≡ has_plan other
same_has (Planned plan items) (Planned other_plan others) same = refl
same_has (Planned plan items) (Clashed clash) same = absurd same
same_has (Clashed clash) (Planned plan items) same = absurd same
same_has (Clashed clash) (Clashed other_clash) same = refl

pub same_have : (members others : List Member) → AllZip IsSameMember members others → list_any has_plan members ≡ list_any has_plan others
same_have [] [] same = refl
same_have [] (other ∷ others) same = absurd same
same_have (member ∷ members) [] same = absurd same
same_have (member ∷ members) (other ∷ others) (same, rest) = λ i. same_has member other same i || same_have members others rest i

pub clash_one : (members others : List Member) → AllZip IsSameMember members others → (clash other_clash : Clash) → slice_get members 0 ≡ Some (Clashed clash)
    → slice_get others 0 ≡ Some (Clashed other_clash) → clash ≡ other_clash
clash_one [] others same clash other_clash is is_other = absurd (none-some (Clashed clash) is)
clash_one (member ∷ members) [] same clash other_clash is is_other = absurd same
clash_one (member ∷ members) (other ∷ others) (same, rest) clash other_clash is is_other =
    subst (λ it. IsSameMember it (Clashed other_clash)) (same_Some member (Clashed clash) is)
    (subst (λ it. IsSameMember member it) (same_Some other (Clashed other_clash) is_other) same)

pub lists_one : ListTextIsOne → MembersAreOne → UnionListsAreOne
lists_one texts_are_one members_are catalogue other queries same alike are_same =
    then_agree _ (AllZip IsSameMember) ◌≡◌ _ _ _ _
    (judges_agree _ _ _ _ _ _
    (λ members others here there. members_are catalogue other queries same members others alike are_same here there)
    (λ said other_said caused other_caused here there. absurd here) (λ value said caused here there. there) (λ value said caused here there. there))
    (λ members others goes are. judges_agree _ _ _ _ _ _
    (λ text other_text here there. union_text_one texts_are_one catalogue other alike members others are text other_text here.1 there.1)
    (λ said other_said caused other_caused here there.
    here.2 ∙ ap status.Unsatisfiable (clash_one members others are here.0 there.0 here.1.1 there.1.1) ∙ sym there.2)
    (λ text said caused here there. there.1.0 (sym (same_have members others are) ∙ here.0))
    (λ text said caused here there. there.1.0 (same_have members others are ∙ here.0)))
