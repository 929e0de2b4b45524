-- What `list` answers to a union is exact.
use Rattle.std.proofs.Common.{◌≡◌, inl, inr, ℕ, Bool, true, false, ◌||◌, List, [], ◌∷◌, slice_get, Contains, Some, refl, sym, subst, ◌∙◌}
use Rattle.std.proofs.lemmas.Option.{same_Some, none-some}
use Rattle.std.specs.List.{AllZip, list_any}
use Rattle.esto_mapping.specs.declared.catalogue.Catalogue.{Catalogue}
use Rattle.esto_chase_laws.specs.declared.clash.Clash.{Clash}
use Rattle.esto_constraint.specs.Constraints.{rules_of}
use Rattle.esto_course.specs.Course.{and_then, judges}
use Rattle.esto_list.specs.declared.listing.Listed.{Listed}
use Rattle.esto_status.specs.Calm.{Leads}
use Rattle.esto_status.specs.Line.{line_of}
use Rattle.esto_status.specs.declared.status.Status.{Status}
use Rattle.esto_status.specs.declared.status.Status.TheVariants as status
use Rattle.esto_rewriting.specs.Listing.{IsClash}
use Rattle.esto_query.specs.Making.{query_of}
use Rattle.esto_query.specs.declared.query.Query.{Query}
use Rattle.esto_semantics.specs.Containment.{IsSatisfiable}
use Rattle.esto_term.proofs.ListLemmas.{Contains-cases, Contains-head, Contains-nil, Contains-rest}
use Rattle.esto_views.specs.declared.plan.Plan.{Plan}
use Rattle.esto_status.proofs.StatusLemmas.{done_not_clash, same_clash}
use Rattle.esto_rewriting.specs.Exact.{HaveAnswers, ListsUnionExactly, TellsSatisfiable}
use Rattle.esto_rewriting.specs.UnionLaws.{EmptyListsAreTold, MembersAreCores, MembersAreUniversal, MembersCoverUnions, MembersTellSatisfiable}
use Rattle.esto_rewriting.specs.List.{IsUnionText, lists_union}
use Rattle.esto_rewriting.specs.Members.{AreMembersOf, ClashAt, HavePlan, IsMemberOf, has_plan}
use Rattle.esto_rewriting.specs.declared.members.Member.{Member}
use Rattle.esto_rewriting.specs.declared.members.Member.TheVariants.{Planned, Clashed}

-- ---- some query is satisfiable exactly where some member has a plan

or_left : (one other : Bool) → one ≡ true → (one || other) ≡ true
or_left one other is = rw is refl

or_right : (one other : Bool) → other ≡ true → (one || other) ≡ true
or_right true other is = refl
or_right false other is = is

-- where no member has a plan, the first one has none
pub first_not_planned : (members : List Member) (plan : Plan) (items : List Listed) → list_any has_plan members ≡ false
    → slice_get members 0 ≡ Some (Planned plan items) → ⊥
first_not_planned [] plan items none is = none-some (Planned plan items) is
first_not_planned (member ∷ members) plan items none is =
    let never : true ≡ false =
    subst (λ (it : Member). (has_plan it || list_any has_plan members) ≡ false) (same_Some member (Planned plan items) is) none in cc

module _ (catalogue : Catalogue) where
  pub have_answers : (queries : List Query) (members : List Member) → AllZip (TellsSatisfiable catalogue) queries members → HavePlan members
      → HaveAnswers catalogue queries
  have_answers [] [] zip has = absurd (let never : false ≡ true = has in cc)
  have_answers [] (member ∷ members) zip has = absurd zip
  have_answers (query ∷ queries) [] zip has = absurd zip
  have_answers (query ∷ queries) (member ∷ members) (tells, rest) has = by (have_answers queries members rest) (has_plan member) refl
    where
      by : (HavePlan members → HaveAnswers catalogue queries) → (is : Bool) → has_plan member ≡ is → HaveAnswers catalogue (query ∷ queries)
      by later true is = (query, Contains-head query queries, tells.0 is)
      by later false is =
          let found = later (subst (λ (it : Bool). (it || list_any has_plan members) ≡ true) is has) in
          (found.0, Contains-rest query queries found.0 found.1, found.2)

  -- a member that has a plan is one of those
  pub one_plan : (members : List Member) (plan : Plan) (items : List Listed) → Contains members (Planned plan items) → HavePlan members
  one_plan [] plan items inside = absurd (Contains-nil (Planned plan items) inside)
  one_plan (member ∷ members) plan items inside = elim (Contains-cases member members (Planned plan items) inside) [
    | inl is ↦ or_left (has_plan member) (list_any has_plan members) (subst (λ (it : Member). has_plan it ≡ true) (sym is) refl)
    | inr later ↦ or_right (has_plan member) (list_any has_plan members) (one_plan members plan items later)
  ]

  pub have_plan : (queries : List Query) (members : List Member) → AllZip (TellsSatisfiable catalogue) queries members → HaveAnswers catalogue queries
      → HavePlan members
  have_plan [] members zip (query, inside, satisfiable) = absurd (Contains-nil query inside)
  have_plan (first ∷ queries) [] zip answers = absurd zip
  have_plan (first ∷ queries) (member ∷ members) (tells, rest) (query, inside, satisfiable) = elim (Contains-cases first queries query inside) [
    | inl is ↦
        or_left (has_plan member) (list_any has_plan members)
        (tells.1 (subst (λ (it : Query). IsSatisfiable (rules_of catalogue.rules) (query_of it)) (sym is) satisfiable))
    | inr later ↦
        or_right (has_plan member) (list_any has_plan members) (have_plan queries members rest (query, later, satisfiable))
  ]

  -- the first query has the first member's clash
  pub first_clash : (all queries : List Query) (members : List Member) → AllZip (IsMemberOf catalogue all) queries members → (clash : Clash)
      → slice_get members 0 ≡ Some (Clashed clash) → (first : Query) × (slice_get queries 0 ≡ Some first) × IsClash catalogue first clash
  first_clash all [] [] zip clash is = absurd (none-some (Clashed clash) is)
  first_clash all [] (member ∷ members) zip clash is = absurd zip
  first_clash all (query ∷ queries) [] zip clash is = absurd zip
  first_clash all (query ∷ queries) (member ∷ members) (here, rest) clash is =
      (query, refl, subst (IsMemberOf catalogue all query) (same_Some member (Clashed clash) is) here)

-- ---- the outcome

module _ (tell : MembersTellSatisfiable) (universal : MembersAreUniversal) (cored : MembersAreCores) (cover : MembersCoverUnions) (empty : EmptyListsAreTold)
    (catalogue : Catalogue) (queries : List Query) where
  says_text : (members : List Member) → AreMembersOf catalogue queries members → HavePlan members → (text : List ℕ) → IsUnionText catalogue members text
      → ListsUnionExactly catalogue queries status.Done text
  says_text members are some text printed =
      let answers = have_answers catalogue queries members (tell catalogue queries members are) some in record {
        done = ((λ done. answers), (λ has. refl));
        prints = λ done. record {
          members = members;
          are = are;
          printed = printed;
          satisfiable = tell catalogue queries members are;
          universal = universal catalogue queries members are;
          cored = cored catalogue queries members are;
          complete = cover catalogue queries members are;
          empty = empty catalogue queries members are;
        };
        unsatisfiable = ((λ (clash, same). absurd (done_not_clash clash same)), (λ none. absurd (none answers)));
        clash = λ clash same. absurd (done_not_clash clash same);
        line = λ other. absurd (other refl);
      }

  says_clash : (members : List Member) → AreMembersOf catalogue queries members → (clash : Clash) → ClashAt members clash → (said : Status)
      → said ≡ status.Unsatisfiable clash → ListsUnionExactly catalogue queries said (line_of said)
  says_clash members are clash (none, first) said is =
      let never : ¬ (HaveAnswers catalogue queries) = λ answers.
      none (have_plan catalogue queries members (tell catalogue queries members are) answers) in record {
        done = ((λ done. absurd (done_not_clash clash (sym done ∙ is))), (λ answers. absurd (never answers)));
        prints = λ done. absurd (done_not_clash clash (sym done ∙ is));
        unsatisfiable = ((λ some. never), (λ unsatisfiable. (clash, is)));
        clash = λ other same.
            subst (λ (it : Clash). (first : Query) × (slice_get queries 0 ≡ Some first) × IsClash catalogue first it)
            (same_clash clash other (sym is ∙ same)) (first_clash catalogue queries queries members are clash first);
        line = λ other. refl;
      }

  pub lists_exactly : Leads (lists_union catalogue queries) (ListsUnionExactly catalogue queries status.Done)
      (λ said. ListsUnionExactly catalogue queries said (line_of said))
  unfolding and_then judges
  lists_exactly = record {
    goes = λ text (members, are, (some, printed)). says_text members are some text printed;
    stops = λ said caused stop. elim stop [
      | inl none ↦ absurd none
      | inr (members, are, (clash, at, is)) ↦ says_clash members are clash at said is
    ];
  }
