-- Databases that stand for facts over terms: rules, answers and rows of views go there and back.
use Rattle.std.proofs.Common.{◌≡◌, ◌⊎◌, ◌==◌, inl, inr, ℕ, Bool, true, false, cond, List, [], ◌∷◌, map, Some, slice_get, Contains, refl, sym, ap, ◌∙◌, subst}
use Rattle.std.proofs.Common.{arith}
use Rattle.std.proofs.lemmas.Bool.Decides.{nat_tests}
use Rattle.esto_term.specs.Kinds.{IsConstant}
use Rattle.esto_term.specs.declared.term.Term.{Term, out-Term}
use Rattle.esto_term.specs.declared.term.Term.TheOpen.{Term-F}
use Rattle.esto_term.specs.declared.term.Term.TheVariants.{Const, Plain, outs-Const, outs-Plain}
use Rattle.esto_semantics.specs.Facts.{Database, image, Mentions, terms_of}
use Rattle.esto_semantics.specs.Maps.{IsFixedBy, Keeps, Sends}
use Rattle.esto_semantics.specs.PlanOf.{IsTermRow}
use Rattle.esto_semantics.specs.Queries.{ConjunctiveQuery, IsQuery, IsAnswerInto}
use Rattle.esto_semantics.specs.Rules.{Rule, tuple, equality, denial, IsRule, MeetsInto, MeetsRule}
use Rattle.esto_semantics.specs.Standing.{Stands, RowsStand, AreQueries, StandingExists, StandingFactsExist, RulesStand, FinishedStands, AnswersStand}
use Rattle.esto_semantics.specs.Standing.{ViewRowsStand}
use Rattle.esto_semantics.specs.Standing.{FragmentAnswersStand}
use Rattle.esto_semantics.specs.Views.{IsViewRow}
use Rattle.esto_semantics.specs.declared.fact.Fact.{Fact}
use Rattle.esto_semantics.specs.declared.fact.Value.{Value}
use Rattle.esto_semantics.specs.declared.fact.Value.TheVariants.{Text, Node}
use Rattle.esto_semantics.proofs.AnswerLemmas.{IsAnswerInto-then}
use Rattle.esto_semantics.proofs.CanonicalLemmas.{Mentions-terms_of, canonical_value, canonical_database, canonical-AreValuesOf}
use Rattle.esto_semantics.proofs.FactLemmas.{image_agree, image_then, image_itself, SendsInto-then, Mentions-images, Mentions-sent}
use Rattle.esto_term.proofs.ListLemmas.{Contains-at, Contains-cases, Contains-flat_from, Contains-head, Contains-map, Contains-map_from, Contains-nil}
use Rattle.esto_term.proofs.ListLemmas.{Contains-rest, agree-from_map, map_agree, map_itself, map_then}

-- ---- a term by its value

-- the value is this unnamed one
abbrev is_node : Value → ℕ → Bool
is_node (Text text) node = false
is_node (Node own) node = own == node

-- the first of the terms with this unnamed value, or else an empty constant
abbrev first_named : (Term → Value) → List Term → ℕ → Term
first_named value [] node = Const []
first_named value (first ∷ rest) node = cond (is_node (value first) node) first (first_named value rest node)

is_node-told : (value : Value) (node : ℕ) → is_node value node ≡ true → value ≡ Node node
is_node-told (Text text) node told = absurd (cc)
is_node-told (Node own) node told = ap Node (grind (arith, nat_tests))

is_node-same : (node : ℕ) → is_node (Node node) node ≡ true
is_node-same node = grind (arith, nat_tests)

-- it is one of them with the value, where one of them has it
first_named-is : (value : Term → Value) (terms : List Term) (term : Term) (node : ℕ) → Contains terms term → value term ≡ Node node
    → Contains terms (first_named value terms node) × (value (first_named value terms node) ≡ Node node)
first_named-is value [] term node inside named = absurd (Contains-nil term inside)
first_named-is value (first ∷ rest) term node inside named = by (λ later. first_named-is value rest term node later named) (is_node (value first) node) refl
  where
    by : (Contains rest term → Contains rest (first_named value rest node) × (value (first_named value rest node) ≡ Node node))
        → (answer : Bool) → is_node (value first) node ≡ answer
        → Contains (first ∷ rest) (cond answer first (first_named value rest node)) × (value (cond answer first (first_named value rest node)) ≡ Node node)
    by again true told = (Contains-head first rest, is_node-told (value first) node told)
    by again false told = elim (Contains-cases first rest term inside) [
      | inl is ↦ let wrong : false ≡ true = sym told ∙ ap (λ it. is_node it node) (ap value is ∙ named) ∙ is_node-same node in cc
      | inr later ↦ (Contains-rest first rest _ (again later).0, (again later).1)
    ]

module _ (facts : List (Fact Term)) (value : Term → Value) (database : Database) (stands : Stands facts value database) where
  -- the term that a value is for
  abbrev thing : Value → Term
  thing (Text text) = Const text
  thing (Node node) = first_named value (terms_of facts) node

  in_facts : (term : Term) → Contains (terms_of facts) term → Mentions facts term
  in_facts term inside = Contains-flat_from (λ (fact : Fact Term). fact.terms) facts term inside

  -- the way back undoes the way there
  thing-value : (term : Term) → IsFixedBy facts term → thing (value term) ≡ term
  thing-value term (inl (text, is)) = ap (λ it. thing (value it)) is ∙ ap thing (stands.values.keeps text) ∙ sym is
  thing-value term (inr mentioned) = elim (stands.values.unnamed term mentioned) [
    | inl (text, is) ↦ ap (λ it. thing (value it)) is ∙ ap thing (stands.values.keeps text) ∙ sym is
    | inr (node, is) ↦
        let found = first_named-is value (terms_of facts) term node (Mentions-terms_of facts term mentioned) is in
        ap thing is ∙ stands.values.apart (first_named value (terms_of facts) node) term (in_facts _ found.0) mentioned (found.1 ∙ sym is)
  ]

  map-thing-value : (row : List Term) → ((term : Term) → Contains row term → IsFixedBy facts term) → map thing (map value row) ≡ row
  map-thing-value row fixed =
      map_then value thing row ∙ map_agree (λ it. thing (value it)) (λ it. it) row (λ it inside. thing-value it (fixed it inside)) ∙ map_itself row

  -- ---- facts

  fact_there : (fact : Fact Term) → Contains facts fact → Contains database (image value fact)
  fact_there fact inside = (stands.images (image value fact)).1 (Contains-map (image value) facts fact inside)

  fact_back : (fact : Fact Value) → Contains database fact → Contains facts (image thing fact)
  fact_back fact inside =
      let found = Contains-map_from (image value) facts fact ((stands.images fact).0 inside) in
      let is : found.0 ≡ image thing fact =
      sym (image_itself found.0)
      ∙ sym (image_agree (λ it. thing (value it)) (λ it. it) found.0 (λ it in_fact. thing-value it (inr (found.0, found.1, in_fact))))
      ∙ sym (image_then value thing found.0) ∙ ap (image thing) found.2 in
      subst (Contains facts) is found.1

  -- a value of the database is of its term again
  value-thing : (it : Value) → Mentions database it → value (thing it) ≡ it
  value-thing it (fact, inside, in_fact) =
      let from = Mentions-images value facts it (fact, (stands.images fact).0 inside, in_fact) in
      ap (λ x. value (thing x)) (sym from.2) ∙ ap value (thing-value from.0 (inr from.1)) ∙ from.2

  -- ---- rules

  module _ (body : List (Fact Term)) (m : Term → Value) (keeps : Keeps Text m) (sends : Sends m body database) where
    back_keeps : Keeps Const (λ term. thing (m term))
    back_keeps text = ap thing (keeps text)

    back_sends : Sends (λ term. thing (m term)) body facts
    back_sends = SendsInto-then m thing body (Contains database) (Contains facts) fact_back sends

    at_side : (term : Term) → IsFixedBy body term → value (thing (m term)) ≡ m term
    at_side term (inl (text, is)) =
        let own : m term ≡ Text text = ap m is ∙ keeps text in
        ap (λ it. value (thing it)) own ∙ stands.values.keeps text ∙ sym own
    at_side term (inr mentioned) = value-thing (m term) (Mentions-sent m body database term sends mentioned)

  module _ (body : List (Fact Term)) (m : Term → Term) (keeps : Keeps Const m) (sends : Sends m body facts) where
    there_keeps : Keeps Text (λ term. value (m term))
    there_keeps text = ap value (keeps text) ∙ stands.values.keeps text

    there_sends : Sends (λ term. value (m term)) body database
    there_sends = SendsInto-then m value body (Contains facts) (Contains database) fact_there sends

    from_side : (term : Term) → IsFixedBy body term → thing (value (m term)) ≡ m term
    from_side term (inl (text, is)) = thing-value (m term) (inl (text, ap m is ∙ keeps text))
    from_side term (inr mentioned) = thing-value (m term) (inr (Mentions-sent m body facts term sends mentioned))

  rule_there : (rule : Rule) → IsRule rule → MeetsInto Const ◌≡◌ (Contains facts) rule → MeetsRule rule database
  rule_there (tuple body head) shape meets = λ m keeps sends.
      let found = meets (λ term. thing (m term)) (back_keeps body m keeps sends) (back_sends body m keeps sends) in (
        (λ term. value (found.0 term)),
        there_keeps head found.0 found.1 found.3,
        (λ term inside. sym (at_side body m keeps sends term (inr inside)) ∙ ap value (found.2 term inside)),
        there_sends head found.0 found.1 found.3,
      )
  rule_there (equality body left right) shape meets = λ m keeps sends.
      sym (at_side body m keeps sends left shape.left_fixed)
      ∙ ap value (meets (λ term. thing (m term)) (back_keeps body m keeps sends) (back_sends body m keeps sends))
      ∙ at_side body m keeps sends right shape.right_fixed
  rule_there (denial body) shape meets = λ m keeps sends. meets (λ term. thing (m term)) (back_keeps body m keeps sends) (back_sends body m keeps sends)

  rule_back : (rule : Rule) → IsRule rule → MeetsRule rule database → MeetsInto Const ◌≡◌ (Contains facts) rule
  rule_back (tuple body head) shape meets = λ m keeps sends.
      let found = meets (λ term. value (m term)) (there_keeps body m keeps sends) (there_sends body m keeps sends) in (
        (λ term. thing (found.0 term)),
        back_keeps head found.0 found.1 found.3,
        (λ term inside. sym (from_side body m keeps sends term (inr inside)) ∙ ap thing (found.2 term inside)),
        back_sends head found.0 found.1 found.3,
      )
  rule_back (equality body left right) shape meets = λ m keeps sends.
      sym (from_side body m keeps sends left shape.left_fixed)
      ∙ ap thing (meets (λ term. value (m term)) (there_keeps body m keeps sends) (there_sends body m keeps sends))
      ∙ from_side body m keeps sends right shape.right_fixed
  rule_back (denial body) shape meets = λ m keeps sends. meets (λ term. value (m term)) (there_keeps body m keeps sends) (there_sends body m keeps sends)

  -- ---- rows

  -- the terms of a fact that holds are constants or in the facts, and the values of one that holds there are theirs
  record HoldAlike (Holds : Fact Term → Type 0) (Named : Fact Value → Type 0) : Type 0 where
    there : (fact : Fact Term) → Holds fact → Named (image value fact)
    back : (fact : Fact Value) → Named fact → Holds (image thing fact)
    fixed : (fact : Fact Term) → Holds fact → (term : Term) → Contains fact.terms term → IsFixedBy facts term
    own : (fact : Fact Value) → Named fact → (it : Value) → Contains fact.terms it → value (thing it) ≡ it

  module _ (query : ConjunctiveQuery) (is_query : IsQuery query) (Holds : Fact Term → Type 0) (Named : Fact Value → Type 0)
      (alike : HoldAlike Holds Named) where
    row_fixed : (row : List Term) → IsAnswerInto Const query Holds row → (term : Term) → Contains row term → IsFixedBy facts term
    row_fixed row (m, keeps, sends, is) term inside =
        let from = Contains-map_from m query.head term (subst (λ it. Contains it term) is inside) in
        elim (is_query.safe from.0 from.1) [
          | inl (text, is_text) ↦ inl (text, sym from.2 ∙ ap m is_text ∙ keeps text)
          | inr (atom, in_body, in_atom) ↦
              subst (IsFixedBy facts) from.2 (alike.fixed (image m atom) (sends atom in_body) (m from.0) (Contains-map m atom.terms from.0 in_atom))
        ]

    row_own : (row : List Value) → IsAnswerInto Text query Named row → map value (map thing row) ≡ row
    row_own row (m, keeps, sends, is) =
        map_then thing value row ∙ map_agree (λ it. value (thing it)) (λ it. it) row (λ it inside. at it inside) ∙ map_itself row
      where
        at : (it : Value) → Contains row it → value (thing it) ≡ it
        at it inside =
            let from = Contains-map_from m query.head it (subst (λ its. Contains its it) is inside) in
            elim (is_query.safe from.0 from.1) [
              | inl (text, is_text) ↦
                  let named : it ≡ Text text = sym from.2 ∙ ap m is_text ∙ keeps text in
                  ap (λ x. value (thing x)) named ∙ stands.values.keeps text ∙ sym named
              | inr (atom, in_body, in_atom) ↦
                  subst (λ x. value (thing x) ≡ x) from.2 (alike.own (image m atom) (sends atom in_body) (m from.0) (Contains-map m atom.terms from.0 in_atom))
            ]

    rows_stand : RowsStand value (IsAnswerInto Const query Holds) (IsAnswerInto Text query Named)
    rows_stand = record {
      there = λ row answer. IsAnswerInto-then Const Text query Holds Named value row stands.values.keeps alike.there answer;
      back = λ row answer. (map thing row, IsAnswerInto-then Text Const query Named Holds thing row (λ text. refl) alike.back answer, row_own row answer);
      apart = λ row other answer other_answer same.
          sym (map-thing-value row (row_fixed row answer)) ∙ ap (map thing) same ∙ map-thing-value other (row_fixed other other_answer);
    }

  facts_alike : HoldAlike (Contains facts) (Contains database)
  facts_alike = record {
    there = fact_there;
    back = fact_back;
    fixed = λ fact inside term in_fact. inr (fact, inside, in_fact);
    own = λ fact inside it in_fact. value-thing it (fact, inside, in_fact);
  }

  module _ (views : List ConjunctiveQuery) (are_queries : AreQueries views) where
    view_stands : (fragment : ℕ) (view : ConjunctiveQuery) → slice_get views fragment ≡ Some view
        → RowsStand value (IsAnswerInto Const view (Contains facts)) (IsAnswerInto Text view (Contains database))
    view_stands fragment view found =
        rows_stand view (are_queries view (Contains-at views fragment view found)) (Contains facts) (Contains database) facts_alike

    views_alike : HoldAlike (IsTermRow views facts) (IsViewRow views database)
    views_alike = record {
      there = λ fact (view, found, answer). (view, found, (view_stands fact.relation view found).there fact.terms answer);
      back = λ fact (view, found, answer).
          (view, found, IsAnswerInto-then Text Const view (Contains database) (Contains facts) thing fact.terms (λ text. refl) fact_back answer);
      fixed = λ fact (view, found, answer). row_fixed view (are_queries view (Contains-at views fact.relation view found)) (Contains facts)
          (Contains database) facts_alike fact.terms answer;
      own = λ fact (view, found, answer) it inside.
          let is_query = are_queries view (Contains-at views fact.relation view found) in
          agree_at fact.terms (row_own view is_query (Contains facts) (Contains database) facts_alike fact.terms answer) it inside;
    }
      where
        agree_at : (row : List Value) → map value (map thing row) ≡ row → (it : Value) → Contains row it → value (thing it) ≡ it
        agree_at row same it inside =
            agree-from_map (λ x. value (thing x)) (λ x. x) row it (sym (map_then thing value row) ∙ same ∙ sym (map_itself row)) inside

    term_rows_apart : (fragment : ℕ) (row other : List Term) → IsTermRow views facts (record { relation = fragment; terms = row })
        → IsTermRow views facts (record { relation = fragment; terms = other }) → map value row ≡ map value other → row ≡ other
    term_rows_apart fragment row other is_row is_other same =
        sym (map-thing-value row (views_alike.fixed (record { relation = fragment; terms = row }) is_row)) ∙ ap (map thing) same
        ∙ map-thing-value other (views_alike.fixed (record { relation = fragment; terms = other }) is_other)

    view_rows_stand : (fragment : ℕ) → RowsStand value (λ row. IsTermRow views facts (record { relation = fragment; terms = row }))
        (λ row. IsViewRow views database (record { relation = fragment; terms = row }))
    view_rows_stand fragment = record {
      there = λ row is_row. views_alike.there (record { relation = fragment; terms = row }) is_row;
      back = λ row (view, found, answer). let own = (view_stands fragment view found).back row answer in (own.0, (view, found, own.1), own.2);
      apart = term_rows_apart fragment;
    }

-- ---- the laws

pub rules_stand : RulesStand
rules_stand facts value database rule stands shape = (rule_there facts value database stands rule shape, rule_back facts value database stands rule shape)

pub finished_stands : FinishedStands
finished_stands end value database rules stands are_rules = (
  (λ finished rule inside. rule_there end.body value database stands rule (are_rules rule inside) (finished rule inside)),
  (λ meets rule inside. rule_back end.body value database stands rule (are_rules rule inside) (meets rule inside)),
)

pub answers_stand : AnswersStand
answers_stand facts value database query stands is_query =
    rows_stand facts value database stands query is_query (Contains facts) (Contains database) (facts_alike facts value database stands)

pub view_rows_are_standing : ViewRowsStand
view_rows_are_standing facts value database views fragment stands are_queries = view_rows_stand facts value database stands views are_queries fragment

pub fragment_answers_stand : FragmentAnswersStand
fragment_answers_stand facts value database views query stands are_queries is_query =
    rows_stand facts value database stands query is_query (IsTermRow views facts) (IsViewRow views database)
    (views_alike facts value database stands views are_queries)

-- ---- a database that stands for facts

pub standing_exists : StandingExists
standing_exists facts = (
  canonical_value end,
  canonical_database end,
  record {
    values = record {
      keeps = (canonical-AreValuesOf end).keeps;
      unnamed = λ term mentioned. (canonical-AreValuesOf end).unnamed term (inl mentioned);
      apart = λ term other mentioned other_mentioned. (canonical-AreValuesOf end).apart term other (inl mentioned) (inl other_mentioned);
    };
    images = λ fact. ((λ inside. inside), (λ inside. inside));
  },
)
  where
    end : ConjunctiveQuery
    end = record { head = []; body = facts }

-- ---- facts that a database stands for

abbrev term_of : Value → Term
term_of (Text text) = Const text
term_of (Node node) = Plain node

abbrev own_step : Term-F Term → Value
own_step (Term-F.Const text) = Text text
own_step (Term-F.Plain node) = Node node
own_step (Term-F.Made _ _ _) = Node 0

abbrev own_value : Term → Value
own_value term = own_step (out-Term term)

own_value-term_of : (value : Value) → own_value (term_of value) ≡ value
own_value-term_of (Text text) = ap own_step (outs-Const text)
own_value-term_of (Node node) = ap own_step (outs-Plain node)

unnamed-term_of : (value : Value) → IsConstant (term_of value) ⊎ ((node : ℕ) × (own_value (term_of value) ≡ Node node))
unnamed-term_of (Text text) = inl (text, refl)
unnamed-term_of (Node node) = inr (node, own_value-term_of (Node node))

own_image : (fact : Fact Value) → image own_value (image term_of fact) ≡ fact
own_image fact =
    image_then term_of own_value fact ∙ image_agree (λ it. own_value (term_of it)) (λ it. it) fact (λ it inside. own_value-term_of it) ∙ image_itself fact

pub standing_facts_exist : StandingFactsExist
standing_facts_exist database = (
  facts,
  own_value,
  record {
    values = record {
      keeps = λ text. ap own_step (outs-Const text);
      unnamed = λ term mentioned.
          let from = Mentions-images term_of database term mentioned in
          subst (λ it. IsConstant it ⊎ ((node : ℕ) × (own_value it ≡ Node node))) from.2 (unnamed-term_of from.0);
      apart = λ term other mentioned other_mentioned same.
          let from = Mentions-images term_of database term mentioned in
          let from_other = Mentions-images term_of database other other_mentioned in
          let values : from.0 ≡ from_other.0 = sym (own_value-term_of from.0) ∙ ap own_value from.2 ∙ same ∙ ap own_value (sym from_other.2)
          ∙ own_value-term_of from_other.0 in
          sym from.2 ∙ ap term_of values ∙ from_other.2;
    };
    images = λ fact. (
      (λ inside. subst (Contains (map (image own_value) facts)) (own_image fact)
          (Contains-map (image own_value) facts (image term_of fact) (Contains-map (image term_of) database fact inside))),
      (λ inside.
          let own = Contains-map_from (image own_value) facts fact inside in
          let from = Contains-map_from (image term_of) database own.0 own.1 in
          subst (Contains database) (sym (own_image from.0) ∙ ap (image own_value) from.2 ∙ own.2) from.1),
    );
  },
)
  where
    facts : List (Fact Term)
    facts = map (image term_of) database
