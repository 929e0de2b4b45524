-- The choice of a set for each member of a union.
use Rattle.std.proofs.Common.{◌≡◌, ◌≢◌, ◌<◌, ◌≤◌, ◌+◌, ℕ, List, [], ◌∷◌, ◌++◌, length, map, take, get_or, filter, Contains, Option, Some, None, Result, Ok, Err}
use Rattle.std.proofs.Common.{inl, inr, refl, sym, ap, subst, ◌∙◌, arith}
use Rattle.std.proofs.lemmas.List.Elements.{Contains-append_left, Contains-push, Contains-push_cases, filter-append}
use Rattle.std.specs.List.{AllZip}
use Rattle.std.specs.Prelude.{IfErr}
use Rattle.std.specs.Result.{IsErrAnd}
use Rattle.esto_course.specs.Course.{Stops, judges}
use Rattle.esto_course.specs.Course.Stops.{is_free, refused}
use Rattle.esto_list.specs.declared.listing.Listed.{Listed}
use Rattle.esto_status.specs.Answers.{IsCaused, IsWant}
use Rattle.esto_status.specs.declared.status.Status.{Status}
use Rattle.esto_status.specs.declared.status.Status.TheVariants.{NoRewriting, NoSuchNumber}
use Rattle.esto_rewriting.specs.Choice.HasNoPlace.{is_empty as list_is_empty, is_above as number_is_above}
use Rattle.esto_rewriting.specs.Planning.{chooses}
use Rattle.esto_run.specs.Picks.{candidate_of}
use Rattle.esto_run.specs.declared.picks.Pick.{Pick}
use Rattle.esto_semantics.specs.Listed.{candidate}
use Rattle.esto_term.proofs.PlaceLemmas.{take-item}
use Rattle.esto_term.proofs.ZipLemmas.{zip_append}
use Rattle.esto_views.specs.Plans.{plan_query}
use Rattle.esto_views.specs.declared.plan.Plan.{Plan}
use Rattle.esto_rewriting.specs.Members.{OneIsEmpty, has_plan}
use Rattle.esto_rewriting.specs.Picking.{AddsPick, ArePicksOf, HasChoice, HaveChoice, IsLeast, IsLesser, IsPickOf}
use Rattle.esto_rewriting.specs.Run.{AreChosen, HasNoChoice, IsChosenOf, chooses_each}
use Rattle.esto_rewriting.specs.Run.HasNoChoice.{is_empty, is_above}
use Rattle.esto_rewriting.specs.declared.members.Member.{Member}
use Rattle.esto_rewriting.specs.declared.members.Member.TheVariants.{Planned, Clashed}
use Rattle.esto_chase_laws.specs.declared.clash.Clash.{Clash}

-- ---- the least length

pub same_items : (plan other : Plan) (items others : List Listed) → Planned plan items ≡ Planned other others → items ≡ others
same_items plan other items others same = cc

pub not_planned : (clash : Clash) (plan : Plan) (items : List Listed) → Clashed clash ≡ Planned plan items → ⊥
not_planned clash plan items same = cc

module _ (members : List Member) where
  pub clashed_least : (clash : Clash) (least : Option ℕ) → IsLeast members least → IsLeast (members ++ Clashed clash ∷ []) least
  clashed_least clash None none = λ plan items inside. elim (Contains-push_cases members (Clashed clash) (Planned plan items) inside) [
    | inl old ↦ none plan items old
    | inr last ↦ not_planned clash plan items last
  ]
  clashed_least clash (Some least) is = record {
    one = (is.one.0, is.one.1, Contains-append_left members (Clashed clash ∷ []) (Planned is.one.0 is.one.1) is.one.2, is.one.3);
    none_shorter = λ plan items inside. elim (Contains-push_cases members (Clashed clash) (Planned plan items) inside) [
      | inl old ↦ is.none_shorter plan items old
      | inr last ↦ absurd (not_planned clash plan items last)
    ];
  }

  module _ (plan : Plan) (items : List Listed) where
    here : Contains (members ++ Planned plan items ∷ []) (Planned plan items)
    here = Contains-push members (Planned plan items)

    last_length : (bound : ℕ) → bound ≤ length items → (other : Plan) (others : List Listed) → Planned plan items ≡ Planned other others → bound ≤ length others
    last_length bound le other others last = subst (λ (it : List Listed). bound ≤ length it) (same_items plan other items others last) le

    pub planned_least : (least : Option ℕ) (listed result : ℕ) → listed ≡ length items → IsLesser least listed result → IsLeast members least
        → IsLeast (members ++ Planned plan items ∷ []) (Some result)
    planned_least None listed result same lesser none = record {
      one = (plan, items, here, sym same ∙ sym lesser);
      none_shorter = λ other others inside. elim (Contains-push_cases members (Planned plan items) (Planned other others) inside) [
        | inl old ↦ absurd (none other others old)
        | inr last ↦ last_length result (omega (arith, same, lesser)) other others last
      ];
    }
    planned_least (Some least) listed result same (inl (is_least, le)) is = record {
      one = (is.one.0, is.one.1, Contains-append_left members (Planned plan items ∷ []) (Planned is.one.0 is.one.1) is.one.2, is.one.3 ∙ sym is_least);
      none_shorter = λ other others inside. elim (Contains-push_cases members (Planned plan items) (Planned other others) inside) [
        | inl old ↦ (let low = is.none_shorter other others old in omega (arith, low, is_least))
        | inr last ↦ last_length result (omega (arith, same, is_least, le)) other others last
      ];
    }
    planned_least (Some least) listed result same (inr (is_listed, le)) is = record {
      one = (plan, items, here, sym same ∙ sym is_listed);
      none_shorter = λ other others inside. elim (Contains-push_cases members (Planned plan items) (Planned other others) inside) [
        | inl old ↦ (let low = is.none_shorter other others old in omega (arith, low, is_listed, le))
        | inr last ↦ last_length result (omega (arith, same, is_listed)) other others last
      ];
    }

pub least_next : (members : List Member) (index : ℕ) (member : Member) (least : Option ℕ) → index < length members → member ≡ get_or members index member
    → IsLeast (take index members ++ member ∷ []) least → IsLeast (take (index + 1) members) least
least_next members index member least below is least_is =
    subst (λ (them : List Member). IsLeast them least)
    (sym (take-item members index member below is)) least_is

-- ---- the judgement

no_items : (items : List Listed) → length items ≡ 0 → items ≡ []
no_items [] none = refl
no_items (item ∷ items) none = absurd (omega (arith, none))

module _ (members : List Member) (number : Option ℕ) where
  pub none_have : IsLeast members None → HaveChoice members number
  none_have none = λ plan items inside. absurd (none plan items inside)

  module _ (least : ℕ) (is : IsLeast members (Some least)) where
    pub empty_choice : least ≡ 0 → HasNoChoice members number NoRewriting
    empty_choice zero = is_empty
        (is.one.0, subst (λ (it : List Listed). Contains members (Planned is.one.0 it)) (no_items is.one.1 (is.one.3 ∙ zero)) is.one.2) refl

    none_empty : least ≢ 0 → ¬ (OneIsEmpty members)
    none_empty some (plan, inside) = let le = is.none_shorter plan [] inside in some (omega (arith, le))

    some_there : least ≢ 0 → (plan : Plan) (items : List Listed) → Contains members (Planned plan items) → 0 < length items
    some_there some plan items inside = by items inside
      where
        by : (them : List Listed) → Contains members (Planned plan them) → 0 < length them
        by [] empty = absurd (none_empty some (plan, empty))
        by (item ∷ them) there = omega arith

    pub unnumbered : least ≢ 0 → number ≡ None → HaveChoice members number
    unnumbered some none = λ plan items inside. record {
      some = some_there some plan items inside;
      within = λ asked asks. let wrong : None ≡ Some asked = sym none ∙ asks in absurd (cc);
    }

    pub above_choice : (asked : ℕ) → least ≢ 0 → number ≡ Some asked → least < asked → HasNoChoice members number (NoSuchNumber asked least)
    above_choice asked some asks less = is_above asked least asks (none_empty some) is less refl

    pub numbered_choice : (asked : ℕ) → least ≢ 0 → number ≡ Some asked → asked ≤ least → HaveChoice members number
    numbered_choice asked some asks le = λ plan items inside. record {
      some = some_there some plan items inside;
      within = λ other others_ask.
          let same : other ≡ asked = some_same other asked (sym others_ask ∙ asks) in
          let low = is.none_shorter plan items inside in omega (arith, same, le, low);
    }
      where
        some_same : (one two : ℕ) → Some one ≡ Some two → one ≡ two
        some_same one two same = cc

  choice_caused : (refusal : Status) → HasNoChoice members number refusal → IsCaused ⊥ refusal
  choice_caused refusal (is_empty empty is) = subst (IsCaused ⊥) (sym is) (record { cause = tt })
  choice_caused refusal (is_above asked least asks some is_least less is) = subst (IsCaused ⊥) (sym is) (record { cause = tt })

  pub choice_refused : (refusal : Status) → HasNoChoice members number refusal → Stops IsWant (IsCaused ⊥) (chooses_each members number) refusal
  unfolding judges
  choice_refused refusal none = refused (choice_caused refusal none) none

-- an error that `?` hands on
pub handed_holds : {A E : Type 0} (P : E → Type 0) (error : E) (result : Result A E) → IsErrAnd result (λ handed. handed ≡ error) → P error
    → IfErr result P
handed_holds P error (Ok value) handed holds = absurd handed
handed_holds P error (Err handed_on) handed holds = subst P (sym handed) holds

-- ---- the picks

-- where an item can be chosen, only want of memory stops the choice
pub only_wants : (items : List Listed) (number : Option ℕ) (refusal : Status) → HasChoice items number
    → Stops IsWant (IsCaused ⊥) (chooses items number) refusal → IsWant refusal
unfolding judges
only_wants items number refusal has (is_free want) = want
only_wants items number refusal has (refused because (list_is_empty none is)) = let some = has.some in absurd (omega (arith, some, ap length none))
only_wants items number refusal has (refused because (number_is_above asked asks some less is)) =
    let le = has.within asked asks in absurd (omega (arith, le, less))

pub picks_next : (members : List Member) (number : Option ℕ) (index : ℕ) (member : Member) (old new : List Pick) → index < length members
    → member ≡ get_or members index member → AddsPick number member old new → ArePicksOf number (take index members) old
    → ArePicksOf number (take (index + 1) members) new
picks_next members number index member old new below is (more, adds, new_is) are =
    subst (λ (them : List Pick). ArePicksOf number (take (index + 1) members) them) (sym new_is)
    (subst (λ (them : List Member). AllZip (IsPickOf number) (filter has_plan them) (old ++ more))
    (sym (take-item members index member below is))
    (subst (λ (them : List Member). AllZip (IsPickOf number) them (old ++ more)) (sym (filter-append has_plan (take index members) (member ∷ [])))
    (zip_append (IsPickOf number) (filter has_plan (take index members)) (filter has_plan (member ∷ [])) old more are adds)))

-- the candidates of the picks are chosen
chosen_of : (number : Option ℕ) (member : Member) (pick : Pick) → IsPickOf number member pick → IsChosenOf number member (candidate_of pick)
chosen_of number (Planned plan items) pick (plan_is, (item, chosen, set_is, order_is)) =
    (item, chosen, (λ i. candidate (plan_query (sym plan_is i)) (sym set_is i)))
chosen_of number (Clashed clash) pick is = absurd is

zip_map : {A B C : Type 0} (R : A → B → Type 0) (S : A → C → Type 0) (f : B → C) → ((x : A) (y : B) → R x y → S x (f y)) → (xs : List A) (ys : List B)
    → AllZip R xs ys → AllZip S xs (map f ys)
zip_map R S f step [] [] zip = tt
zip_map R S f step [] (y ∷ ys) zip = absurd zip
zip_map R S f step (x ∷ xs) [] zip = absurd zip
zip_map R S f step (x ∷ xs) (y ∷ ys) (here, zip) = (step x y here, zip_map R S f step xs ys zip)

pub are_chosen : (number : Option ℕ) (members : List Member) (picks : List Pick) → ArePicksOf number members picks
    → AreChosen number members (map candidate_of picks)
are_chosen number members picks are = zip_map (IsPickOf number) (IsChosenOf number) candidate_of (chosen_of number) (filter has_plan members) picks are
