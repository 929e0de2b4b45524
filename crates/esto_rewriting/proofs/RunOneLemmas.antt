-- Over catalogues that say the same, `run` answers to a union with one reply, or one refusal.
use Rattle.std.proofs.Common.{◌≡◌, ℕ, List, [], ◌∷◌, length, slice_get, Contains, Option, Some, None, refl, sym, ap, subst, ◌∙◌, inl, inr, arith}
use Rattle.std.proofs.lemmas.Option.{none-some, same_Some}
use Rattle.std.specs.List.{AllZip}
use Rattle.std.specs.Prelude.{MatchOption}
use Rattle.esto_mapping.specs.Catalogues.{AreSame}
use Rattle.esto_mapping.specs.declared.catalogue.Catalogue.{Catalogue}
use Rattle.esto_chase_laws.specs.declared.clash.Clash.{Clash}
use Rattle.esto_course.specs.Course.{judges}
use Rattle.esto_course.proofs.Determined.{gives_agree, judges_agree, then_agree}
use Rattle.esto_list.specs.declared.listing.Listed.{Listed}
use Rattle.esto_query.specs.Same.{AreSameQueries}
use Rattle.esto_run.specs.FragmentsAlike.{FragmentsOpenAlike, StoresHaveOneContent}
use Rattle.esto_status.specs.Calm.{AgreeCalmly}
use Rattle.esto_run.specs.Fragments.{opens_fragments}
use Rattle.esto_status.specs.declared.reply.Reply.{Reply}
use Rattle.esto_status.specs.declared.reply.Reply.TheVariants.{Done, Unsatisfiable}
use Rattle.esto_status.specs.declared.status.Status.{Status}
use Rattle.esto_status.specs.declared.status.Status.TheVariants.{NoSuchNumber}
use Rattle.esto_rewriting.specs.Alike.{ChoiceIsOne}
use Rattle.esto_rewriting.specs.Choice.HasNoPlace.{is_above as number_is_above}
use Rattle.esto_ports.specs.Files.{Files}
use Rattle.esto_query.specs.declared.query.Query.{Query}
use Rattle.esto_run.specs.Answers.{IsAnswersText, rows_text}
use Rattle.esto_run.specs.Laws.{IsAnswerOfOne, RisingRowsAreOne, UsedByAllAreOne}
use Rattle.esto_docs.specs.Stores.{IsFileRow}
use Rattle.esto_run.specs.Used.{AreUsedByAll}
use Rattle.esto_semantics.specs.Listed.{candidate}
use Rattle.esto_semantics.specs.Queries.{ConjunctiveQuery}
use Rattle.esto_term.proofs.ListLemmas.{Contains-cases, Contains-head, Contains-nil, Contains-rest}
use Rattle.esto_views.specs.declared.plan.Plan.{Plan}
use Rattle.esto_rewriting.proofs.PickingLemmas.{same_items, not_planned}
use Rattle.esto_rewriting.specs.UnionLaws.{IsSameMember, MembersAreOne}
use Rattle.esto_rewriting.specs.Members.{ClashAt, HavePlan}
use Rattle.esto_rewriting.specs.Run.{AreChosen, HasNoChoice, IsChosen, IsChosenOf, IsNoRows, IsUnionRunText, chooses_each, ends_members, runs_chosen, runs_end}
use Rattle.esto_rewriting.specs.Run.{runs_members}
use Rattle.esto_rewriting.specs.Run.HasNoChoice.{is_empty, is_above}
use Rattle.esto_rewriting.specs.RunLaws.{UnionRunsAreOne}
use Rattle.esto_rewriting.specs.declared.members.Member.{Member}
use Rattle.esto_rewriting.specs.declared.members.Member.TheVariants.{Planned, Clashed}
use Rattle.esto_rewriting.proofs.OneLemmas.{clash_one, same_have}
use Rattle.esto_rewriting.proofs.RunMovedLemmas.{no_rows_here, text_here}

-- ---- members that are the same

same_back : (member other : Member) → IsSameMember member other → IsSameMember other member
same_back (Planned plan items) (Planned other others) (plans, lists) = ((sym plans.0, sym plans.1), sym lists)
same_back (Planned plan items) (Clashed clash) same = absurd same
same_back (Clashed clash) (Planned plan items) same = absurd same
same_back (Clashed clash) (Clashed other) same = sym same

all_back : (members others : List Member) → AllZip IsSameMember members others → AllZip IsSameMember others members
all_back [] [] zip = tt
all_back [] (other ∷ others) zip = absurd zip
all_back (member ∷ members) [] zip = absurd zip
all_back (member ∷ members) (other ∷ others) (same, rest) = (same_back member other same, all_back members others rest)

-- a list of one of the members is one of the others
planned_there : (members others : List Member) → AllZip IsSameMember members others → (plan : Plan) (items : List Listed)
    → Contains members (Planned plan items) → (other : Plan) × Contains others (Planned other items)
planned_there [] others zip plan items inside = absurd (Contains-nil (Planned plan items) inside)
planned_there (member ∷ members) [] zip plan items inside = absurd zip
planned_there (member ∷ members) (other ∷ others) (same, rest) plan items inside = elim (Contains-cases member members (Planned plan items) inside) [
  | inl is ↦ here other (subst (λ it. IsSameMember it other) is same)
  | inr later ↦
      (let found = planned_there members others rest plan items later in (found.0, Contains-rest other others (Planned found.0 items) found.1))
]
  where
    here : (it : Member) → IsSameMember (Planned plan items) it → (found : Plan) × Contains (it ∷ others) (Planned found items)
    here (Planned found them) (plans, lists) = (
      found,
      subst (λ (its : List Listed). Contains (Planned found them ∷ others) (Planned found its)) (sym lists) (Contains-head (Planned found them) others),
    )
    here (Clashed clash) never = absurd never

-- ---- the choice

module _ (choice : ChoiceIsOne) (number : Option ℕ) where
  item_one : (items : List Listed) (item other : Listed) → IsChosen items number item → IsChosen items number other → item ≡ other
  unfolding judges
  item_one items item other (place, is, there) (later, is_too, there_too) =
      let same = (choice items number).one place later is is_too in same_Some item other (sym there ∙ ap (slice_get items) same ∙ there_too)

  chosen_one : (plan other : Plan) (items others : List Listed) → IsSameMember (Planned plan items) (Planned other others) → (query later : ConjunctiveQuery)
      → IsChosenOf number (Planned plan items) query → IsChosenOf number (Planned other others) later → query ≡ later
  chosen_one plan other items others (plans, lists) query later (item, is, made) (found, is_too, made_too) =
      let same = item_one others item found (subst (λ (them : List Listed). IsChosen them number item) lists is) is_too in
      sym made ∙ (λ i. candidate (plans.0 i) ((same i).set)) ∙ made_too

  -- the same members have one choice
  pub all_one : (members others : List Member) → AllZip IsSameMember members others → (queries laters : List ConjunctiveQuery)
      → AreChosen number members queries → AreChosen number others laters → queries ≡ laters
  all_one [] [] zip [] [] here there = refl
  all_one [] [] zip [] (later ∷ laters) here there = absurd there
  all_one [] [] zip (query ∷ queries) laters here there = absurd here
  all_one [] (other ∷ others) zip queries laters here there = absurd zip
  all_one (member ∷ members) [] zip queries laters here there = absurd zip
  all_one (Planned plan items ∷ members) (Clashed clash ∷ others) zip queries laters here there = absurd zip.0
  all_one (Clashed clash ∷ members) (Planned plan items ∷ others) zip queries laters here there = absurd zip.0
  all_one (Clashed clash ∷ members) (Clashed other ∷ others) zip queries laters here there = all_one members others zip.1 queries laters here there
  all_one (Planned plan items ∷ members) (Planned other them ∷ others) zip [] laters here there = absurd here
  all_one (Planned plan items ∷ members) (Planned other them ∷ others) zip (query ∷ queries) [] here there = absurd there
  all_one (Planned plan items ∷ members) (Planned other them ∷ others) zip (query ∷ queries) (later ∷ laters) here there =
      let first = chosen_one plan other items them zip.0 query later here.0 there.0 in
      let rest = all_one members others zip.1 queries laters here.1 there.1 in λ i. first i ∷ rest i

  -- where a choice is made, each list has an item
  in_choice : (members : List Member) (queries : List ConjunctiveQuery) → AreChosen number members queries → (plan : Plan) (items : List Listed)
      → Contains members (Planned plan items) → (item : Listed) × IsChosen items number item
  in_choice [] queries are plan items inside = absurd (Contains-nil (Planned plan items) inside)
  in_choice (Clashed clash ∷ members) queries are plan items inside = elim (Contains-cases (Clashed clash) members (Planned plan items) inside) [
    | inl same ↦ absurd (not_planned clash plan items same)
    | inr later ↦ in_choice members queries are plan items later
  ]
  in_choice (Planned own its ∷ members) [] are plan items inside = absurd are
  in_choice (Planned own its ∷ members) (query ∷ queries) (is, rest) plan items inside =
      elim (Contains-cases (Planned own its) members (Planned plan items) inside) [
        | inl same ↦ (is.0, subst (λ (them : List Listed). IsChosen them number is.0) (same_items own plan its items same) is.1)
        | inr later ↦ in_choice members queries rest plan items later
      ]

  pub never_refused : (members : List Member) (queries : List ConjunctiveQuery) → AreChosen number members queries → (refusal : Status)
      → HasNoChoice members number refusal → ⊥
  unfolding judges
  never_refused members queries are refusal (is_empty (plan, inside) is) =
      let (item, (place, chosen, there)) = in_choice members queries are plan [] inside in none-some item there
  never_refused members queries are refusal (is_above asked least asks some is_least less is) =
      let (plan, items, inside, length_is) = is_least.one in
      let (item, (place, chosen, there)) = in_choice members queries are plan items inside in
      (choice items number).apart place (NoSuchNumber asked (length items)) (record { cause = tt }) chosen
      (number_is_above asked asks (λ empty. some (plan, subst (λ (them : List Listed). Contains members (Planned plan them)) empty inside))
      (omega (arith, less, length_is)) refl)

  pub refusal_there : (members others : List Member) → AllZip IsSameMember members others → (refusal : Status) → HasNoChoice others number refusal
      → HasNoChoice members number refusal
  refusal_there members others zip refusal (is_empty (plan, inside) is) =
      is_empty (planned_there others members (all_back members others zip) plan [] inside) is
  refusal_there members others zip refusal (is_above asked least asks some is_least less is) =
      is_above asked least asks (λ (plan, inside). some (planned_there members others zip plan [] inside)) (record {
        one = let (plan, items, inside, length_is) = is_least.one in
            let found = planned_there others members (all_back members others zip) plan items inside in (found.0, items, found.1, length_is);
        none_shorter = λ plan items inside. let found = planned_there members others zip plan items inside in is_least.none_shorter found.0 items found.1;
      }) less is

  pub refusal_one : (members : List Member) (refusal other : Status) → HasNoChoice members number refusal → HasNoChoice members number other → refusal ≡ other
  refusal_one members refusal other (is_empty empty is) (is_empty empty_too is_too) = is ∙ sym is_too
  refusal_one members refusal other (is_empty empty is) (is_above asked least asks some is_least less is_too) = absurd (some empty)
  refusal_one members refusal other (is_above asked least asks some is_least less is) (is_empty empty is_too) = absurd (some empty)
  refusal_one members refusal other (is_above asked least asks some is_least less is) (is_above later lesser asks_too some_too is_lesser less_too is_too) =
      let same_asked : asked ≡ later = same_Some asked later (sym asks ∙ asks_too) in
      let (plan, items, inside, length_is) = is_least.one in
      let (plan_too, items_too, inside_too, length_is_too) = is_lesser.one in
      let low = is_least.none_shorter plan_too items_too inside_too in
      let low_too = is_lesser.none_shorter plan items inside in
      let same_least : least ≡ lesser = omega (arith, length_is, length_is_too, low, low_too) in
      is ∙ (λ i. NoSuchNumber (same_asked i) (same_least i)) ∙ sym is_too

  choices_agree : (members others : List Member) → AllZip IsSameMember members others
      → AgreeCalmly ◌≡◌ (chooses_each members number) (chooses_each others number)
  choices_agree members others zip = judges_agree _ _ _ _ _ _
      (λ queries laters here there. all_one members others zip queries laters here there)
      (λ said other_said caused other_caused here there. refusal_one members said other_said here (refusal_there members others zip other_said there))
      (λ queries said caused here there. never_refused members queries here said (refusal_there members others zip said there))
      (λ queries said caused here there. never_refused others queries here said (refusal_there others members (all_back members others zip) said there))

-- ---- the end

module _ (members others : List Member) (zip : AllZip IsSameMember members others) where
  end_one : (end other : Option Clash) → MatchOption end (HavePlan members) (ClashAt members) → MatchOption other (HavePlan others) (ClashAt others)
      → end ≡ other
  end_one None None here there = refl
  end_one None (Some clash) here there = absurd (there.0 (sym (same_have members others zip) ∙ here))
  end_one (Some clash) None here there = absurd (here.0 (same_have members others zip ∙ there))
  end_one (Some clash) (Some other) here there = ap Some (clash_one members others zip clash other here.1 there.1)

  ends_agree : AgreeCalmly ◌≡◌ (ends_members members) (ends_members others)
  ends_agree = judges_agree _ _ _ _ _ _ end_one (λ said other_said caused other_caused here there. absurd here)
      (λ value said caused here there. there) (λ value said caused here there. there)

-- ---- the run

-- the laws by which runs of unions are determined
pub record RunUnionLaws : Type 0 where
  pub members : MembersAreOne
  pub choice : ChoiceIsOne
  pub used : UsedByAllAreOne
  pub fragments : FragmentsOpenAlike
  pub content : StoresHaveOneContent
  pub rising : RisingRowsAreOne

module _ (laws : RunUnionLaws) (files : Files) (catalogue other : Catalogue) (alike : AreSame catalogue other) (queries same : List Query)
    (are : AreSameQueries queries same) where
  text_one : (others : List ConjunctiveQuery) (contents : ℕ → List ℕ) (text later : List ℕ) → IsUnionRunText catalogue queries others contents text
      → IsUnionRunText catalogue queries others contents later → text ≡ later
  text_one others contents text later (first, at, is) (found, at_too, is_too) =
      let same_first : found ≡ first = same_Some found first (sym at_too ∙ at) in
      by (subst (λ (it : Query). IsAnswersText it (IsAnswerOfOne (IsFileRow catalogue.stores contents) others) later) same_first is_too)
    where
      by : IsAnswersText first (IsAnswerOfOne (IsFileRow catalogue.stores contents) others) later → text ≡ later
      by again =
          let rows : is.rows ≡ again.rows = laws.rising is.rows again.rows is.rising again.rising
          (λ row. (λ inside. (again.exact row).1 ((is.exact row).0 inside), λ inside. (is.exact row).1 ((again.exact row).0 inside))) in
          is.printed ∙ ap (rows_text first) rows ∙ sym again.printed

  no_rows_one : (clash : Clash) (reply later : Reply) → IsNoRows queries clash reply → IsNoRows queries clash later → reply ≡ later
  no_rows_one clash reply later (first, at, is) (found, at_too, is_too) =
      let same_first : first ≡ found = same_Some first found (sym at ∙ at_too) in
      is ∙ ap (λ (it : Query). Unsatisfiable clash (rows_text it [])) same_first ∙ sym is_too

  texts_agree : (others : List ConjunctiveQuery) (contents : ℕ → List ℕ)
      → AgreeCalmly ◌≡◌ (judges (IsUnionRunText catalogue queries others contents) (λ _. ⊥)) (judges (IsUnionRunText other same others contents) (λ _. ⊥))
  texts_agree others contents = judges_agree _ _ _ _ _ _
      (λ text later here there. text_one others contents text later here
      (text_here laws.content files catalogue other alike queries same are others contents later there))
      (λ said other_said caused other_caused here there. absurd here) (λ value said caused here there. there) (λ value said caused here there. there)

  used_agree : (others : List ConjunctiveQuery) → AgreeCalmly ◌≡◌ (judges (AreUsedByAll others) (λ _. ⊥)) (judges (AreUsedByAll others) (λ _. ⊥))
  used_agree others = judges_agree _ _ _ _ _ _ (laws.used others) (λ said other_said caused other_caused here there. absurd here)
      (λ value said caused here there. there) (λ value said caused here there. there)

  chosen_agree : (others : List ConjunctiveQuery)
      → AgreeCalmly ◌≡◌ (runs_chosen (Some files) catalogue queries others) (runs_chosen (Some files) other same others)
  chosen_agree others =
      then_agree _ ◌≡◌ ◌≡◌ _ _ _ _ (used_agree others) (λ numbers laters goes one.
      then_agree _ ◌≡◌ ◌≡◌ _ _ _ _
      (subst (λ it. AgreeCalmly ◌≡◌ (opens_fragments (Some files) catalogue numbers) (opens_fragments (Some files) other it)) one
      (laws.fragments files catalogue other numbers alike))
      (λ contents other_contents goes1 one1.
      then_agree _ ◌≡◌ ◌≡◌ _ _ _ _
      (subst (λ (it : ℕ → List ℕ). AgreeCalmly ◌≡◌ (judges (IsUnionRunText catalogue queries others contents) (λ _. ⊥))
      (judges (IsUnionRunText other same others it) (λ _. ⊥))) one1 (texts_agree others contents))
      (λ text other_text goes2 one2. gives_agree _ (Done text) (Done other_text) (ap Done one2))))

  module _ (number : Option ℕ) (members others : List Member) (zip : AllZip IsSameMember members others) where
    end_agree : (end : Option Clash)
        → AgreeCalmly ◌≡◌ (runs_end (Some files) catalogue queries number members end) (runs_end (Some files) other same number others end)
    end_agree None = then_agree _ ◌≡◌ ◌≡◌ _ _ _ _ (choices_agree laws.choice number members others zip) (λ chosen laters goes one.
        subst (λ it. AgreeCalmly ◌≡◌ (runs_chosen (Some files) catalogue queries chosen) (runs_chosen (Some files) other same it)) one (chosen_agree chosen))
    end_agree (Some clash) = judges_agree _ _ _ _ _ _
        (λ reply later here there. no_rows_one clash reply later here
        (no_rows_here laws.content files catalogue other alike queries same are clash later there))
        (λ said other_said caused other_caused here there. absurd here) (λ value said caused here there. there) (λ value said caused here there. there)

    members_agree : AgreeCalmly ◌≡◌ (runs_members (Some files) catalogue queries number members) (runs_members (Some files) other same number others)
    members_agree = then_agree _ ◌≡◌ ◌≡◌ _ _ _ _ (ends_agree members others zip) (λ end other_end goes one.
        subst (λ (it : Option Clash). AgreeCalmly ◌≡◌ (runs_end (Some files) catalogue queries number members end)
        (runs_end (Some files) other same number others it)) one (end_agree end))

pub runs_one : RunUnionLaws → UnionRunsAreOne
runs_one laws files catalogue other queries same number alike are =
    then_agree _ (AllZip IsSameMember) ◌≡◌ _ _ _ _
    (judges_agree _ _ _ _ _ _
    (λ members others here there. laws.members catalogue other queries same members others alike are here there)
    (λ said other_said caused other_caused here there. absurd here) (λ value said caused here there. there) (λ value said caused here there. there))
    (λ members others goes zip. members_agree laws files catalogue other alike queries same are number members others zip)
