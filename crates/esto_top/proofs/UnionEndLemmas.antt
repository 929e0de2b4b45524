-- The courses of `list` and of `run` over a union come to an end.
use Rattle.std.proofs.Common.{◌≡◌, ◌≢◌, ◌⊎◌, inl, inr, ℕ, ◌-◌, ◌<◌, ◌≤◌, Bool, true, false, List, [], ◌∷◌, ◌++◌, length, Some, None, Option, slice_get}
use Rattle.std.proofs.Common.{Contains, refl, sym, ◌∙◌, subst, arith}
use Rattle.std.specs.List.{AllZip, filter, flat_map, list_any}
use Rattle.std.specs.Prelude.{MatchOption}
use Rattle.std.proofs.lemmas.Bool.{cases_eq, cases_lt}
use Rattle.std.proofs.lemmas.List.{append-nil, append_assoc, length-map}
use Rattle.std.proofs.lemmas.Option.{same_Some}
use Rattle.esto_mapping.specs.declared.catalogue.Catalogue.{Catalogue}
use Rattle.esto_chase_laws.specs.declared.clash.Clash.{Clash}
use Rattle.esto_course.specs.Course.{Course, judges, gives, and_then}
use Rattle.esto_rewriting.specs.List.{IsMemberText, IsUnionText, disjunct_text, lists_union, prints_members}
use Rattle.esto_rewriting.specs.Members.{AreMembersOf, ClashAt, HavePlan, IsMemberOf, OneIsEmpty, has_plan}
use Rattle.esto_rewriting.specs.Run.{AreChosen, HasNoChoice, IsChosenOf, IsLeastLength, IsNoRows, IsUnionRunText, chooses_each, runs_chosen}
use Rattle.esto_rewriting.specs.Run.{runs_end, runs_members, runs_union}
use Rattle.esto_rewriting.specs.Run.HasNoChoice.{is_above, is_empty}
use Rattle.esto_rewriting.proofs.PickingLemmas.{not_planned, same_items}
use Rattle.esto_rewriting.specs.declared.members.Member.{Member}
use Rattle.esto_rewriting.specs.declared.members.Member.TheVariants.{Planned, Clashed}
use Rattle.esto_list.specs.Items.{totals_of}
use Rattle.esto_views.specs.Printing.{each_from}
use Rattle.esto_list.specs.declared.listing.Listed.{Listed}
use Rattle.esto_run.specs.Fragments.{opens_fragments}
use Rattle.esto_status.specs.Line.{line_of}
use Rattle.esto_run.specs.Readable.{AreReadable}
use Rattle.esto_status.specs.declared.reply.Reply.{Reply}
use Rattle.esto_status.specs.declared.reply.Reply.TheVariants.{Done, Unsatisfiable as UnsatisfiableReply}
use Rattle.esto_status.specs.declared.status.Status.{Status}
use Rattle.esto_status.specs.declared.status.Status.TheVariants.{NoRewriting, NoSuchNumber, Unsatisfiable}
use Rattle.esto_run.proofs.SameLemmas.{itself}
use Rattle.esto_rewriting.specs.Choice.{IsPlace}
use Rattle.esto_rewriting.specs.Listing.{IsPlanned}
use Rattle.esto_ports.specs.Files.{Files}
use Rattle.esto_query.specs.declared.query.Query.{Query}
use Rattle.esto_run.specs.Answers.{rows_text}
use Rattle.esto_run.specs.Laws.{IsAnswerOfOne}
use Rattle.esto_docs.specs.Stores.{IsFileRow}
use Rattle.esto_run.specs.Used.{AreFirsts, AreUsedByAll, fragments_of}
use Rattle.esto_run.proofs.UsedLemmas.{firsts_kept, firsts_more, no_firsts}
use Rattle.esto_semantics.specs.Listed.{candidate, chosen}
use Rattle.esto_semantics.specs.Maps.{AreFlat, IsFixedBy}
use Rattle.esto_semantics.specs.ListedLaws.{PickExists}
use Rattle.esto_semantics.specs.Queries.{ConjunctiveQuery}
use Rattle.esto_semantics.specs.declared.fact.Fact.{Fact}
use Rattle.esto_semantics.proofs.CandidateLemmas.{chosen-among}
use Rattle.esto_semantics.proofs.FactLemmas.{Mentions-among}
use Rattle.esto_term.specs.declared.term.Term.{Term}
use Rattle.esto_term.proofs.ChoiceLemmas.{Decided}
use Rattle.esto_term.proofs.DistinctLemmas.{decided_contains}
use Rattle.esto_term.proofs.ListLemmas.{Contains-at, Contains-nil, Contains-head, Contains-rest, Contains-cases, Contains-flat, Contains-filter_from}
use Rattle.esto_term.proofs.ListLemmas.{Contains-flat_from, Contains-map, Contains-map_from, thing_at}
use Rattle.esto_term.proofs.ZipLemmas.{zip_right}
use Rattle.esto_union.specs.Unions.{IsRewritingIn}
use Rattle.esto_views.specs.Plans.{plan_query}
use Rattle.esto_views.specs.declared.plan.Plan.{Plan}
use Rattle.esto_top.specs.Ends.{Ends, EndsOrLacks}
use Rattle.esto_top.specs.LawsBelow.{BelowLaws}
use Rattle.esto_top.proofs.CourseLemmas.{ends_judged, ends_then, gives_ends, judges_accepted, judges_accepts, judges_refuses}
use Rattle.esto_top.proofs.FileLemmas.{answers_text, union_answers}
use Rattle.esto_top.proofs.ListLemmas.{text_exists}
use Rattle.esto_top.proofs.PlannedLemmas.{end_exists, list_in_exists}
use Rattle.esto_top.proofs.RunEndLemmas.{atom_below, fragments_end}

-- ---- the first places of numbers

firsts_of : (numbers : List ℕ) → (firsts : List ℕ) × AreFirsts numbers firsts
firsts_of numbers = go [] numbers ([], no_firsts)
  where
    go : (before after : List ℕ) → (firsts : List ℕ) × AreFirsts before firsts → (firsts : List ℕ) × AreFirsts (before ++ after) firsts
    go before [] (firsts, are) = (firsts, subst (λ them. AreFirsts them firsts) (sym (append-nil before)) are)
    go before (next ∷ after) (firsts, are) =
        let rest = go (before ++ next ∷ []) after (one (decided_contains cases_eq firsts next)) in
        (rest.0, subst (λ them. AreFirsts them rest.0) (append_assoc before (next ∷ []) after) rest.1)
      where
        one : Decided (Contains firsts next) → (more : List ℕ) × AreFirsts (before ++ next ∷ []) more
        one (inl there) = (firsts, firsts_kept before firsts are next there)
        one (inr absent) = (firsts ++ next ∷ [], firsts_more before firsts are next absent)

-- ---- the choice of a set of each member

empty_decided : (members : List Member) → Decided (OneIsEmpty members)
empty_decided [] = inr (λ (plan, inside). Contains-nil (Planned plan []) inside)
empty_decided (Planned plan [] ∷ rest) = inl (plan, Contains-head (Planned plan []) rest)
empty_decided (Planned plan (item ∷ items) ∷ rest) = elim (empty_decided rest) [
  | inl (other, inside) ↦ inl (other, Contains-rest (Planned plan (item ∷ items)) rest (Planned other []) inside)
  | inr none ↦ inr (λ (other, inside). elim (Contains-cases (Planned plan (item ∷ items)) rest (Planned other []) inside) [
    | inl is ↦ absurd (full plan other is)
    | inr later ↦ none (other, later)
  ])
]
  where
    full : (plan other : Plan) → Planned plan (item ∷ items) ≡ Planned other [] → ⊥
    full plan other is = let wrong : item ∷ items ≡ [] = same_items plan other (item ∷ items) [] is in cc
empty_decided (Clashed clash ∷ rest) = elim (empty_decided rest) [
  | inl (other, inside) ↦ inl (other, Contains-rest (Clashed clash) rest (Planned other []) inside)
  | inr none ↦ inr (λ (other, inside). elim (Contains-cases (Clashed clash) rest (Planned other []) inside) [
    | inl is ↦ absurd (not_planned clash other [] is)
    | inr later ↦ none (other, later)
  ])
]

least_or_none : (members : List Member) → ((least : ℕ) × IsLeastLength members least)
    ⊎ ((plan : Plan) (items : List Listed) → Contains members (Planned plan items) → ⊥)
least_or_none [] = inr (λ plan items inside. Contains-nil (Planned plan items) inside)
least_or_none (Clashed clash ∷ rest) = elim (least_or_none rest) [
  | inl (least, is) ↦
      let (plan, items, inside, same) = is.one in
      inl (
        least,
        record {
          one = (plan, items, Contains-rest (Clashed clash) rest (Planned plan items) inside, same);
          none_shorter = λ other others there. elim (Contains-cases (Clashed clash) rest (Planned other others) there) [
            | inl wrong ↦ absurd (not_planned clash other others wrong)
            | inr later ↦ is.none_shorter other others later
          ];
        },
      )
  | inr none ↦ inr (λ plan items inside. elim (Contains-cases (Clashed clash) rest (Planned plan items) inside) [
    | inl wrong ↦ absurd (not_planned clash plan items wrong)
    | inr later ↦ none plan items later
  ])
]
least_or_none (Planned plan items ∷ rest) = inl (by (least_or_none rest))
  where
    first : Member
    first = Planned plan items

    shorter : (least : ℕ) → least ≤ length items → ((other : Plan) (others : List Listed) → Contains rest (Planned other others) → least ≤ length others)
        → (other : Plan) (others : List Listed) → Contains (Planned plan items ∷ rest) (Planned other others) → least ≤ length others
    shorter least here later other others inside = elim (Contains-cases (Planned plan items) rest (Planned other others) inside) [
      | inl is ↦ subst (λ (its : List Listed). least ≤ length its) (same_items plan other items others is) here
      | inr further ↦ later other others further
    ]

    by : ((least : ℕ) × IsLeastLength rest least) ⊎ ((other : Plan) (others : List Listed) → Contains rest (Planned other others) → ⊥)
        → (least : ℕ) × IsLeastLength (Planned plan items ∷ rest) least
    by (inr none) = (
      length items,
      record {
        one = (plan, items, Contains-head (Planned plan items) rest, refl);
        none_shorter = shorter (length items) (omega arith) (λ other others inside. absurd (none other others inside));
      },
    )
    by (inl (least, is)) = elim (cases_lt (length items) least) [
      | inl less ↦ (
        length items,
        record {
          one = (plan, items, Contains-head (Planned plan items) rest, refl);
          none_shorter = shorter (length items) (omega arith)
              (λ other others inside. let more = is.none_shorter other others inside in omega (arith, less, more));
        },
      )
      | inr more ↦
          let (other, others, inside, same) = is.one in (
            least,
            record {
              one = (other, others, Contains-rest (Planned plan items) rest (Planned other others) inside, same);
              none_shorter = shorter least (omega (arith, more)) is.none_shorter;
            },
          )
    ]

module _ (picks : PickExists) (number : Option ℕ) where
  chosen_one : (plan : Plan) (items : List Listed) → items ≢ [] → ((asked : ℕ) → number ≡ Some asked → asked ≤ length items)
      → (other : ConjunctiveQuery) × IsChosenOf number (Planned plan items) other
  chosen_one plan [] some enough = absurd (some refl)
  chosen_one plan (first ∷ rest) some enough =
      let place = by number enough in
      let at = thing_at (first ∷ rest) place.0 place.1 in
      (candidate (plan_query plan) at.0.set, (at.0, (place.0, place.2, at.1), refl))
    where
      by : (asks : Option ℕ) → ((asked : ℕ) → asks ≡ Some asked → asked ≤ length (first ∷ rest))
          → (place : ℕ) × (place < length (first ∷ rest)) × IsPlace (first ∷ rest) asks place
      by None enough = let pick = picks (totals_of (first ∷ rest)) (λ is. absurd (cc)) in (pick.0, within pick.0 pick.1.there, pick.1)
        where
          within : (place : ℕ) → place < length (totals_of (first ∷ rest)) → place < length (first ∷ rest)
          within place less = rw (length-map (first ∷ rest) (λ (it : Listed). it.weight)) at less
      by (Some asked) enough = let small = enough asked refl in (asked - 1, omega (arith, small), (refl, omega (arith, small)))

  all_chosen : (members : List Member) → ((plan : Plan) (items : List Listed) → Contains members (Planned plan items) → items ≢ [])
      → ((plan : Plan) (items : List Listed) → Contains members (Planned plan items) → (asked : ℕ) → number ≡ Some asked → asked ≤ length items)
      → (others : List ConjunctiveQuery) × AreChosen number members others
  all_chosen [] some enough = ([], tt)
  all_chosen (Planned plan items ∷ rest) some enough =
      let first = chosen_one plan items (some plan items (Contains-head (Planned plan items) rest))
      (enough plan items (Contains-head (Planned plan items) rest)) in
      let others = all_chosen rest (λ other its inside. some other its (Contains-rest (Planned plan items) rest (Planned other its) inside))
      (λ other its inside. enough other its (Contains-rest (Planned plan items) rest (Planned other its) inside)) in
      (first.0 ∷ others.0, (first.1, others.1))
  all_chosen (Clashed clash ∷ rest) some enough =
      all_chosen rest (λ other its inside. some other its (Contains-rest (Clashed clash) rest (Planned other its) inside))
      (λ other its inside. enough other its (Contains-rest (Clashed clash) rest (Planned other its) inside))

  pub choice_ends : {lack : Type 0} (members : List Member) → HavePlan members → Ends lack (chooses_each members number)
  choice_ends {lack} members have = by (empty_decided members) number refl (least_or_none members)
    where
      goes : ((plan : Plan) (items : List Listed) → Contains members (Planned plan items) → (asked : ℕ) → number ≡ Some asked → asked ≤ length items)
          → (OneIsEmpty members → ⊥) → Ends lack (chooses_each members number)
      goes enough none =
          let others = all_chosen members
          (λ plan items inside is. none (plan, subst (λ (its : List Listed). Contains members (Planned plan its)) is inside)) enough in
          judges_accepts (AreChosen number members) (HasNoChoice members number) others.0 others.1

      by : Decided (OneIsEmpty members) → (asks : Option ℕ) → number ≡ asks
          → ((least : ℕ) × IsLeastLength members least) ⊎ ((plan : Plan) (items : List Listed) → Contains members (Planned plan items) → ⊥)
          → Ends lack (chooses_each members number)
      by (inl empty) asks is least =
          judges_refuses (AreChosen number members) (HasNoChoice members number) NoRewriting (record { cause = tt }) (is_empty empty refl)
      by (inr none) None is least = goes (λ plan items inside asked other. absurd (none_some asked (sym is ∙ other))) none
        where
          none_some : (asked : ℕ) → None ≡ Some asked → ⊥
          none_some asked wrong = cc
      by (inr none) (Some asked) is (inr never) = goes (λ plan items inside other same. absurd (never plan items inside)) none
      by (inr none) (Some asked) is (inl (least, is_least)) = elim (cases_lt least asked) [
        | inl less ↦ judges_refuses (AreChosen number members) (HasNoChoice members number) (NoSuchNumber asked least) (record { cause = tt })
            (is_above asked least is none is_least less refl)
        | inr enough ↦ goes (λ plan items inside other same.
            let one : asked ≡ other = same_Some asked other (sym is ∙ same) in
            let long = is_least.none_shorter plan items inside in
            omega (arith, one, long, enough)) none
      ]

-- ---- the members of a union, and their text

module _ (laws : BelowLaws) (catalogue : Catalogue) where
  module _ (queries : List Query) where
    member_exists : (query : Query) → (member : Member) × IsMemberOf catalogue queries query member
    member_exists query = elim (end_exists laws.keeps laws.chase catalogue query) [
      | inl (plan, planned) ↦
          let items = list_in_exists laws.keeps laws.chase catalogue laws.lists query plan planned queries in
          (Planned plan items.0, (planned, items.1))
      | inr (clash, is) ↦ (Clashed clash, is)
    ]

    members_of : (some : List Query) → (members : List Member) × AllZip (IsMemberOf catalogue queries) some members
    members_of [] = ([], tt)
    members_of (query ∷ rest) =
        let member = member_exists query in
        let others = members_of rest in
        (member.0 ∷ others.0, (member.1, others.1))

    pub members_exist : (members : List Member) × AreMembersOf catalogue queries members
    members_exist = members_of queries

  member_text : (member : Member) → (text : List ℕ) × IsMemberText catalogue member text
  member_text (Planned plan items) = text_exists laws.lists.picks catalogue.fragments plan items
  member_text (Clashed clash) = (line_of (Unsatisfiable clash), refl)

  member_texts : (members : List Member) → (texts : List (List ℕ)) × AllZip (IsMemberText catalogue) members texts
  member_texts [] = ([], tt)
  member_texts (member ∷ rest) =
      let text = member_text member in let others = member_texts rest in (text.0 ∷ others.0, (text.1, others.1))

  -- some member has a plan, or the first has the clash
  have_plan_or_clash : (queries : List Query) (members : List Member) → queries ≢ [] → AreMembersOf catalogue queries members
      → HavePlan members ⊎ ((clash : Clash) × ClashAt members clash)
  have_plan_or_clash queries members some are = by (list_any has_plan members) refl
    where
      first : (some_queries : List Query) (members : List Member) → some_queries ≢ [] → AllZip (IsMemberOf catalogue queries) some_queries members
          → list_any has_plan members ≡ false → (clash : Clash) × (slice_get members 0 ≡ Some (Clashed clash))
      first [] members some are none = absurd (some refl)
      first (query ∷ rest) [] some are none = absurd are
      first (query ∷ rest) (Planned plan items ∷ others) some are none = absurd (cc)
      first (query ∷ rest) (Clashed clash ∷ others) some are none = (clash, refl)

      by : (answer : Bool) → list_any has_plan members ≡ answer → HavePlan members ⊎ ((clash : Clash) × ClashAt members clash)
      by true is = inl is
      by false is =
          let found = first queries members some are is in
          inr (found.0, ((λ have. let wrong : false ≡ true = sym is ∙ have in cc), found.1))

  -- ---- `list`

  pub union_list_ends : {lack : Type 0} (queries : List Query) → queries ≢ [] → Ends lack (lists_union catalogue queries)
  union_list_ends {lack} queries some =
      ends_judged (AreMembersOf catalogue queries) (λ _. ⊥) (prints_members catalogue) (members_exist queries) (λ members are.
      by members (have_plan_or_clash queries members some are))
    where
      Accepts : List Member → List ℕ → Type 0
      Accepts members text = HavePlan members × IsUnionText catalogue members text

      Refuses : List Member → Status → Type 0
      Refuses members refusal = (clash : Clash) × ClashAt members clash × (refusal ≡ Unsatisfiable clash)

      by : (members : List Member) → HavePlan members ⊎ ((clash : Clash) × ClashAt members clash) → Ends lack (prints_members catalogue members)
      by members (inl have) =
          let texts = member_texts members in
          judges_accepts (Accepts members) (Refuses members) (each_from disjunct_text 0 texts.0) (have, (texts.0, texts.1, refl))
      by members (inr (clash, is)) =
          judges_refuses (Accepts members) (Refuses members) (Unsatisfiable clash) (record { cause = tt }) (clash, is, refl)

  -- ---- `run`

  module _ (queries : List Query) (members : List Member) (are : AreMembersOf catalogue queries members) (number : Option ℕ) where
    -- what is known of a candidate that is chosen
    record IsOfSet (other : ConjunctiveQuery) : Type 0 where
      pub query : Query
      pub plan : Plan
      pub set : List Bool
      pub planned : IsPlanned catalogue query plan
      pub rewriting : IsRewritingIn catalogue queries plan set
      pub candidate_is : candidate (plan_query plan) set ≡ other

    of_set : (others : List ConjunctiveQuery) → AreChosen number members others → (other : ConjunctiveQuery) → Contains others other → IsOfSet other
    of_set others chosen other inside =
        let (member, kept, is) = zip_right (IsChosenOf number) (filter has_plan members) others chosen other inside in
        let (query, there, own) = zip_right (IsMemberOf catalogue queries) queries members are member (Contains-filter_from has_plan members member kept).0 in
        by query member is own
      where
        by : (query : Query) (member : Member) → IsChosenOf number member other → IsMemberOf catalogue queries query member → IsOfSet other
        by query (Planned plan items) (item, (place, is_place, at), same) (planned, list) = record {
          query = query;
          plan = plan;
          set = item.set;
          planned = planned;
          rewriting = ((list.sets.exact item.set).0 (Contains-map (λ (it : Listed). it.set) items item (Contains-at items place item at))).0;
          candidate_is = same;
        }
        by query (Clashed clash) is own = absurd is

    -- its atoms are the plan's, and it is safe
    known : (other : ConjunctiveQuery) → IsOfSet other
        → AreFlat other.body × ((term : Term) → Contains other.head term → IsFixedBy other.body term)
        × ((atom : Fact Term) → Contains other.body atom → atom.relation < length catalogue.fragments)
    known other of = subst Known of.candidate_is own
      where
        Known : ConjunctiveQuery → Type 0
        Known it =
            AreFlat it.body × ((term : Term) → Contains it.head term → IsFixedBy it.body term)
            × ((atom : Fact Term) → Contains it.body atom → atom.relation < length catalogue.fragments)

        own : Known (candidate (plan_query of.plan) of.set)
        own = (
          (λ term inside. (laws.lists.form catalogue of.query of.plan of.planned).flat_body term
              (Mentions-among (chosen of.set (plan_query of.plan).body) (plan_query of.plan).body term (chosen-among (plan_query of.plan) of.set) inside)),
          of.rewriting.safe,
          (λ atom inside. atom_below of.plan catalogue.fragments (laws.lists.over catalogue of.query of.plan of.planned) atom
              (chosen-among (plan_query of.plan) of.set atom inside)),
        )

    module _ (files : Files) (first : Query) (at : slice_get queries 0 ≡ Some first) where
      chosen_ends : (others : List ConjunctiveQuery) → AreChosen number members others → EndsOrLacks (runs_chosen (Some files) catalogue queries others)
      chosen_ends others chosen =
          ends_judged (AreUsedByAll others) (λ _. ⊥) (λ numbers. and_then (opens_fragments (Some files) catalogue numbers) after)
          (firsts_of (flat_map (λ query. fragments_of query.body) others)) (λ numbers used.
          ends_then (opens_fragments (Some files) catalogue numbers) after
          (fragments_end files catalogue (laws.keeps.catalogues catalogue).stored numbers (λ it inside. below numbers used it inside))
          (λ contents goes.
          ends_judged (IsUnionRunText catalogue queries others contents) (λ _. ⊥) (λ text. gives (Done text))
          (text_of numbers used contents ((laws.readable files catalogue catalogue numbers (itself catalogue)).goes contents goes))
          (λ text is. gives_ends (Done text))))
        where
          after : (ℕ → List ℕ) → Course Status Reply
          after contents = and_then (judges (IsUnionRunText catalogue queries others contents) (λ _. ⊥)) (λ text. gives (Done text))

          below : (numbers : List ℕ) → AreUsedByAll others numbers → (it : ℕ) → Contains numbers it → it < length catalogue.fragments
          below numbers used it inside =
              let (other, there, in_body) = Contains-flat_from (λ (query : ConjunctiveQuery). fragments_of query.body) others it ((used.exact it).0 inside) in
              let (atom, in_atoms, is) = Contains-map_from (λ (fact : Fact Term). fact.relation) other.body it in_body in
              subst (λ n. n < length catalogue.fragments) is ((known other (of_set others chosen other there)).2 atom in_atoms)

          text_of : (numbers : List ℕ) → AreUsedByAll others numbers → (contents : ℕ → List ℕ) → AreReadable files catalogue numbers contents
              → (text : List ℕ) × IsUnionRunText catalogue queries others contents text
          text_of numbers used contents readable =
              let text = answers_text first (IsAnswerOfOne (IsFileRow catalogue.stores contents) others)
              (union_answers laws.rows files catalogue (laws.keeps.catalogues catalogue).shapes numbers contents readable others (λ other there.
              let own = known other (of_set others chosen other there) in (
                own.0,
                own.1,
                (λ atom inside. (used.exact atom.relation).1
                    (Contains-flat (λ (query : ConjunctiveQuery). fragments_of query.body) others other atom.relation there
                    (Contains-map (λ (fact : Fact Term). fact.relation) other.body atom inside))),
              ))) in
              (text.0, (first, at, text.1))

      run_end_ends : (end : Option Clash) → MatchOption end (HavePlan members) (ClashAt members)
          → EndsOrLacks (runs_end (Some files) catalogue queries number members end)
      run_end_ends None have =
          ends_then (chooses_each members number) (runs_chosen (Some files) catalogue queries) (choice_ends laws.lists.picks number members have)
          (λ others goes. chosen_ends others (judges_accepted (AreChosen number members) (HasNoChoice members number) others goes))
      run_end_ends (Some clash) is =
          judges_accepts (IsNoRows queries clash) (λ _. ⊥) (UnsatisfiableReply clash (rows_text first [])) (first, at, refl)

      members_end : queries ≢ [] → EndsOrLacks (runs_members (Some files) catalogue queries number members)
      members_end some =
          ends_judged IsEnd (λ _. ⊥) (runs_end (Some files) catalogue queries number members) (by (have_plan_or_clash queries members some are)) run_end_ends
        where
          IsEnd : Option Clash → Type 0
          IsEnd end = MatchOption end (HavePlan members) (ClashAt members)

          by : HavePlan members ⊎ ((clash : Clash) × ClashAt members clash) → (end : Option Clash) × MatchOption end (HavePlan members) (ClashAt members)
          by (inl have) = (None, have)
          by (inr (clash, is)) = (Some clash, is)

  pub union_run_ends : (files : Files) (queries : List Query) → queries ≢ [] → (number : Option ℕ)
      → EndsOrLacks (runs_union (Some files) catalogue queries number)
  union_run_ends files [] some number = absurd (some refl)
  union_run_ends files (first ∷ rest) some number =
      ends_judged (AreMembersOf catalogue (first ∷ rest)) (λ _. ⊥) (runs_members (Some files) catalogue (first ∷ rest) number) (members_exist (first ∷ rest))
      (λ members are. members_end (first ∷ rest) members are number files first refl some)
