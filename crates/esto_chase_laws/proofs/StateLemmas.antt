-- What is so of each state of a run.
use Rattle.std.proofs.Common.{◌≡◌, ◌⊎◌, inl, inr, ℕ, ◌+◌, ◌<◌, ◌≤◌, List, [], ◌∷◌, ◌++◌, map, length, Contains, slice_get, Some, refl, sym, ap, ◌∙◌, subst}
use Rattle.std.proofs.Common.{arith, length-append}
use Rattle.esto_term.specs.Finite.{Stock, IsMadeOf, lists_within}
use Rattle.esto_term.specs.Finite.IsMadeOf.{constant}
use Rattle.esto_term.specs.Nesting.{nesting, greatest_u64}
use Rattle.esto_term.specs.Order.{replaced}
use Rattle.esto_term.specs.declared.term.Term.{Term}
use Rattle.esto_term.specs.declared.term.Term.TheVariants.{Const, Made}
use Rattle.esto_term.proofs.DistinctLemmas.{no_more_than}
use Rattle.esto_term.proofs.FiniteLemmas.{finite, Contains-lists_within}
use Rattle.esto_term.proofs.ListLemmas.{Contains-nil, Contains-cases, Contains-at, Contains-flat, Contains-map, Contains-map_from}
use Rattle.esto_term.proofs.NestingLemmas.{nesting-Const, nesting-Plain}
use Rattle.esto_semantics.specs.Facts.{Database, Mentions}
use Rattle.esto_semantics.specs.Maps.{IsConstant, IsFlat, IsFixedBy, Sends, Keeps, AreFlat}
use Rattle.esto_semantics.specs.Queries.{ConjunctiveQuery}
use Rattle.esto_semantics.specs.Rules.{Rule, tuple, equality, AreRules, Meets}
use Rattle.esto_semantics.specs.declared.fact.Fact.{Fact}
use Rattle.esto_semantics.specs.declared.fact.Value.{Value}
use Rattle.esto_semantics.specs.declared.fact.Value.TheVariants.{Text}
use Rattle.esto_semantics.proofs.FactLemmas.{Mentions-sent, Sends-match}
use Rattle.esto_chase_laws.specs.Bounds.{RanksRise, Key, numbers_below, stock_of, width_of, run_terms, run_keys, most_steps}
use Rattle.esto_chase_laws.specs.Making.{frontier, made_facts}
use Rattle.esto_chase_laws.specs.Runs.{Step, added, merged, AreSides, IsAdded, IsMerged, IsStep, IsRun, begun, went, moved_by}
use Rattle.esto_chase_laws.proofs.JoinedLemmas.{joined-AreTogether, replaced-AreReplaced}
use Rattle.esto_chase_laws.proofs.KeptLemmas.{Kept, Kept-start, Kept-merged, Kept-added, not_fired}
use Rattle.esto_chase_laws.proofs.LowLemmas.{Serves, IsLow, AreLow, AreLow-merged, AreLow-added, values_width}
use Rattle.esto_chase_laws.proofs.MakingLemmas.{frontier_body}
use Rattle.esto_chase_laws.proofs.ReceivedLemmas.{Received, Received-start, Received-merged, Received-added, one_value_at}
use Rattle.esto_chase_laws.proofs.ReplacementLemmas.{less-apart}
use Rattle.esto_chase_laws.proofs.StockLemmas.{stock-Serves}

-- ---- where the merges take a term

moved_by-added : (trace : List Step) (number : ℕ) (m : Term → Term) (places : List ℕ) (term : Term)
    → moved_by (trace ++ added number m places ∷ []) term ≡ moved_by trace term
moved_by-added [] number m places term = refl
moved_by-added (added _ _ _ ∷ trace) number m places term = moved_by-added trace number m places term
moved_by-added (merged _ _ _ from to ∷ trace) number m places term = moved_by-added trace number m places (replaced from to term)

moved_by-merged : (trace : List Step) (number : ℕ) (m : Term → Term) (places : List ℕ) (from to term : Term)
    → moved_by (trace ++ merged number m places from to ∷ []) term ≡ replaced from to (moved_by trace term)
moved_by-merged [] number m places from to term = refl
moved_by-merged (added _ _ _ ∷ trace) number m places from to term = moved_by-merged trace number m places from to term
moved_by-merged (merged _ _ _ f t ∷ trace) number m places from to term = moved_by-merged trace number m places from to (replaced f t term)

-- ---- the two sides of a merge

-- the value of a side: a constant of the rule, or a term of the facts
side_value : (body facts : List (Fact Term)) (m : Term → Term) (side value : Term) → Keeps Const m → Sends m body facts → IsFixedBy body side → m side ≡ value
    → ((text : List ℕ) × (side ≡ Const text) × (value ≡ Const text)) ⊎ Mentions facts value
side_value body facts m side value keeps sends (inl (text, is)) told = inl (text, is, sym told ∙ ap m is ∙ keeps text)
side_value body facts m side value keeps sends (inr inside) told = inr (subst (Mentions facts) told (Mentions-sent m body facts side sends inside))

-- what a merge needs to know of its sides
pub record AreMergeable (facts : List (Fact Term)) (left right to from : Term) : Type 0 where
  pub from_in : Mentions facts from
  pub to_in : ((text : List ℕ) × (to ≡ Const text) × ((left ≡ Const text) ⊎ (right ≡ Const text))) ⊎ Mentions facts to

pub mergeable : (body facts : List (Fact Term)) (m : Term → Term) (left right to from : Term) → Keeps Const m → Sends m body facts
    → IsFixedBy body left → IsFixedBy body right → AreSides m left right to from → (IsConstant from → ⊥) → AreMergeable facts left right to from
mergeable body facts m left right to from keeps sends left_fixed right_fixed sides no_constant = elim sides [
  | inl told ↦ record {
    from_in = elim (side_value body facts m right from keeps sends right_fixed told.1) [
      | inl text ↦ absurd (no_constant (text.0, text.2))
      | inr inside ↦ inside
    ];
    to_in = elim (side_value body facts m left to keeps sends left_fixed told.0) [
      | inl text ↦ inl (text.0, text.2, inl text.1)
      | inr inside ↦ inr inside
    ];
  }
  | inr told ↦ record {
    from_in = elim (side_value body facts m left from keeps sends left_fixed told.0) [
      | inl text ↦ absurd (no_constant (text.0, text.2))
      | inr inside ↦ inside
    ];
    to_in = elim (side_value body facts m right to keeps sends right_fixed told.1) [
      | inl text ↦ inl (text.0, text.2, inr text.1)
      | inr inside ↦ inr inside
    ];
  }
]

pub to_constant : (facts : List (Fact Term)) (left right to from : Term) → AreMergeable facts left right to from → IsConstant to ⊎ Mentions facts to
to_constant facts left right to from are = elim are.to_in [
  | inl text ↦ inl (text.0, text.1)
  | inr inside ↦ inr inside
]

-- ---- what is over the stock

-- the key has one of the rules, and at most so many values that are over the stock
abbrev IsKeyOf : Stock → ℕ → ℕ → Key → Type 0
IsKeyOf stock width depth key =
    Contains stock.rules key.0 × (length key.1 ≤ width) × ((term : Term) → Contains key.1 term → IsLow stock width depth term)

pub record Within (stock : Stock) (width depth : ℕ) (gone : List Term) (fired : List Key) : Type 0 where
  pub gone_in : (term : Term) → Contains gone term → IsLow stock width depth term
  pub fired_in : (key : Key) → Contains fired key → IsKeyOf stock width depth key

mentioned_low : (stock : Stock) (width depth : ℕ) (rank : ℕ → ℕ) (facts : List (Fact Term)) → AreLow stock width rank facts
    → ((relation : ℕ) → rank relation ≤ depth) → (term : Term) → Mentions facts term → IsLow stock width depth term
mentioned_low stock width depth rank facts low most term (fact, inside, within) =
    let is = low fact inside term within in (is.0, omega (arith, is.1, most fact.relation))

flat_nesting : (term : Term) (bound : ℕ) → IsFlat term → nesting term ≤ bound
flat_nesting term bound (inl (text, is)) = omega (arith, ap nesting is, nesting-Const text)
flat_nesting term bound (inr (number, is)) = omega (arith, ap nesting is, nesting-Plain number)

module _ (rules : List Rule) (start : ConjunctiveQuery) (are_rules : AreRules rules) (flat : AreFlat start.body) where
  pub record Ran (trace : List Step) (now : ConjunctiveQuery) (moved : Term → Term) : Type 0 where
    pub gone : List Term
    pub fired : List Key
    pub kept : Kept rules start now moved gone fired
    pub counted : length trace ≡ length gone + length fired
    pub low : (stock : Stock) (width : ℕ) (rank : ℕ → ℕ) → Serves stock width rules start → RanksRise rules rank
        → AreLow stock width rank now.body
    pub within : (stock : Stock) (width depth : ℕ) (rank : ℕ → ℕ) → Serves stock width rules start → RanksRise rules rank
        → ((relation : ℕ) → rank relation ≤ depth) → Within stock width depth gone fired
    pub received : (given : Term → Value) (database : Database) → Keeps Text given → Sends given start.body database → Meets rules database
        → Received now moved given database

  Ran-start : Ran [] start (λ term. term)
  Ran-start = record {
    gone = [];
    fired = [];
    kept = Kept-start rules start flat;
    counted = refl;
    low = λ stock width rank serves rise fact inside term within.
        (serves.start_in term (fact, inside, within), flat_nesting term (rank fact.relation) (flat term (fact, inside, within)));
    within = λ stock width depth rank serves rise most. record {
      gone_in = λ term none. absurd (Contains-nil term none);
      fired_in = λ key none. absurd (Contains-nil key none);
    };
    received = λ given database keeps sends meets. Received-start start given database keeps sends;
  }

  Ran-merged : (trace : List Step) (now next : ConjunctiveQuery) (moved : Term → Term) → Ran trace now moved
      → (number : ℕ) (m : Term → Term) (places : List ℕ) (from to : Term) → IsMerged rules now next number m places from to
      → Ran (trace ++ merged number m places from to ∷ []) next (λ term. replaced from to (moved term))
  Ran-merged trace now next moved ran number m places from to is =
      let same = replaced-AreReplaced from to now.body next.body is.facts in
      let sends = Sends-match m is.body now.body places is.is_next.active.matches in
      let keeps = is.is_next.active.keeps in
      let rule_in = Contains-at rules number (equality is.body is.left is.right) is.is_next.there in
      let shape = are_rules (equality is.body is.left is.right) rule_in in
      let are = mergeable is.body now.body m is.left is.right to from keeps sends shape.left_fixed shape.right_fixed is.sides is.no_constant in
      let to_made = λ (stock : Stock) (width : ℕ) (rank : ℕ → ℕ) (serves : Serves stock width rules start) (rise : RanksRise rules rank).
      made_to stock width rank serves is.body is.left is.right to from now.body rule_in are (ran.low stock width rank serves rise) in
      record {
        gone = from ∷ ran.gone;
        fired = ran.fired;
        kept = Kept-merged rules start now next moved ran.gone ran.fired ran.kept from to (less-apart to from is.lesser) is.no_constant are.from_in
            (to_constant now.body is.left is.right to from are) same is.replaced_head;
        counted = omega (arith, length-append trace (merged number m places from to ∷ []), ran.counted);
        low = λ stock width rank serves rise.
            AreLow-merged stock width rank now.body (ran.low stock width rank serves rise) from to is.lesser
            (to_made stock width rank serves rise) next.body same;
        within = λ stock width depth rank serves rise most.
            let old = ran.within stock width depth rank serves rise most in
            let from_low = mentioned_low stock width depth rank now.body (ran.low stock width rank serves rise) most from are.from_in in
            record {
              gone_in = λ term inside. elim (Contains-cases from ran.gone term inside) [
                | inl same_term ↦ subst (IsLow stock width depth) same_term from_low
                | inr earlier ↦ old.gone_in term earlier
              ];
              fired_in = old.fired_in;
            };
        received = λ given database given_keeps given_sends meets.
            let old = ran.received given database given_keeps given_sends meets in
            let one = one_value_at rules now.body database old.value old.keeps old.sends meets number is.body is.left is.right m is.is_next.there
            keeps sends in
            Received-merged now next moved given database old from to same (elim is.sides [
              | inl told ↦ sym (ap old.value told.1) ∙ sym one ∙ ap old.value told.0
              | inr told ↦ sym (ap old.value told.0) ∙ one ∙ ap old.value told.1
            ]);
      }
    where
      made_to : (stock : Stock) (width : ℕ) (rank : ℕ → ℕ) → Serves stock width rules start → (body : List (Fact Term)) (left right to from : Term)
          → (facts : List (Fact Term)) → Contains rules (equality body left right) → AreMergeable facts left right to from → AreLow stock width rank facts
          → IsMadeOf stock width to
      made_to stock width rank serves body left right to from facts rule_in are low = elim are.to_in [
        | inl text ↦ subst (IsMadeOf stock width) (sym text.1) (constant text.0 (serves.sides body left right rule_in text.0 text.2))
        | inr inside ↦ (low inside.0 inside.1 to inside.2).0
      ]

  Ran-added : (trace : List Step) (now next : ConjunctiveQuery) (moved : Term → Term) → Ran trace now moved
      → (number : ℕ) (m : Term → Term) (places : List ℕ) → IsAdded rules now next number m places
      → Ran (trace ++ added number m places ∷ []) next moved
  Ran-added trace now next moved ran number m places is =
      let same = joined-AreTogether now.body (made_facts number is.body is.head m) next.body is.facts in
      let sends = Sends-match m is.body now.body places is.is_next.active.matches in
      let keeps = is.is_next.active.keeps in
      let rule_in = Contains-at rules number (tuple is.body is.head) is.is_next.there in
      let shape = are_rules (tuple is.body is.head) rule_in in
      let key : Key = (number, map m (frontier is.body is.head)) in
      record {
        gone = ran.gone;
        fired = key ∷ ran.fired;
        kept = Kept-added rules start now next moved ran.gone ran.fired ran.kept number is.body is.head m shape.flat_head is.is_next.there keeps sends
            is.is_next.active.active same is.kept_head;
        counted = omega (arith, length-append trace (added number m places ∷ []), ran.counted);
        low = λ stock width rank serves rise.
            AreLow-added stock width rank now.body (ran.low stock width rank serves rise) rules start serves rise number is.body is.head m
            shape.flat_head is.is_next.there keeps sends next.body same;
        within = λ stock width depth rank serves rise most.
            let old = ran.within stock width depth rank serves rise most in
            let low = ran.low stock width rank serves rise in
            let here : IsKeyOf stock width depth key = (
              serves.numbers number (tuple is.body is.head) is.is_next.there,
              values_width stock width rank now.body low rules start serves rise number is.body is.head m shape.flat_head is.is_next.there keeps sends,
              λ term inside.
                  let from = Contains-map_from m (frontier is.body is.head) term inside in
                  let in_facts = Mentions-sent m is.body now.body from.0 sends (frontier_body is.body is.head from.0 from.1) in
                  subst (IsLow stock width depth) from.2 (mentioned_low stock width depth rank now.body low most (m from.0) in_facts),
            ) in
            record {
              gone_in = old.gone_in;
              fired_in = λ other inside. elim (Contains-cases key ran.fired other inside) [
                | inl same_key ↦ subst (IsKeyOf stock width depth) same_key here
                | inr earlier ↦ old.fired_in other earlier
              ];
            };
        received = λ given database given_keeps given_sends meets.
            let old = ran.received given database given_keeps given_sends meets in
            Received-added rules start now next moved ran.gone ran.fired ran.kept number is.body is.head m shape.flat_head is.is_next.there keeps sends
            is.is_next.active.active same given database old meets;
      }

  Ran-step : (trace : List Step) (now next : ConjunctiveQuery) (step : Step) → Ran trace now (moved_by trace) → IsStep rules now step next
      → Ran (trace ++ step ∷ []) next (moved_by (trace ++ step ∷ []))
  Ran-step trace now next (added number m places) ran is =
      subst (Ran (trace ++ added number m places ∷ []) next) (λ i term. sym (moved_by-added trace number m places term) i)
      (Ran-added trace now next (moved_by trace) ran number m places is)
  Ran-step trace now next (merged number m places from to) ran is =
      subst (Ran (trace ++ merged number m places from to ∷ []) next) (λ i term. sym (moved_by-merged trace number m places from to term) i)
      (Ran-merged trace now next (moved_by trace) ran number m places from to is)

  pub ran : (trace : List Step) (now : ConjunctiveQuery) → IsRun rules start trace now → Ran trace now (moved_by trace)
  ran trace now begun = Ran-start
  ran trace now (went before old step next run is) = Ran-step before old next step (ran before old run) is

  -- ---- the length of a run

  pub run_is_bounded : (rank : ℕ → ℕ) (depth : ℕ) → RanksRise rules rank → ((relation : ℕ) → rank relation ≤ depth) → depth < greatest_u64
      → (trace : List Step) (now : ConjunctiveQuery) → IsRun rules start trace now → length trace ≤ most_steps rules start depth
  run_is_bounded rank depth rise most small trace now run =
      let all = ran trace now run in
      let stock = stock_of rules start in
      let width = width_of rules start in
      let within = all.within stock width depth rank (stock-Serves rules start flat) rise most in
      let in_terms = λ (term : Term) (is : IsLow stock width depth term). finite stock width depth small term is.0 is.1 in
      let gone = no_more_than all.gone (run_terms rules start depth) all.kept.gone_once (λ term inside. in_terms term (within.gone_in term inside)) in
      let fired = no_more_than all.fired (run_keys rules start depth) all.kept.fired_once (λ key inside.
      let is = within.fired_in key inside in
      Contains-flat (λ number. map (λ values. (number, values)) (lists_within (run_terms rules start depth) width)) (numbers_below (length rules)) key.0 key
      is.0 (Contains-map (λ values. (key.0, values)) (lists_within (run_terms rules start depth) width) key.1
      (Contains-lists_within (run_terms rules start depth) key.1 width is.1 (λ term within_key. in_terms term (is.2 term within_key))))) in
      omega (arith, all.counted, gone, fired)

  -- ---- what a step makes is new

  pub made_is_new : (trace : List Step) (now next : ConjunctiveQuery) → IsRun rules start trace now
      → (number : ℕ) (m : Term → Term) (places : List ℕ) → IsAdded rules now next number m places
      → (body head : List (Fact Term)) → slice_get rules number ≡ Some (tuple body head)
      → (variable : ℕ) → Mentions now.body (Made number variable (map m (frontier body head))) → ⊥
  made_is_new trace now next run number m places is body head rule variable inside =
      let all = ran trace now run in
      let same_rule : tuple is.body is.head ≡ tuple body head =
      (let both : Some (tuple is.body is.head) ≡ Some (tuple body head) = sym is.is_next.there ∙ rule in cc) in
      let one : is.body ≡ body = cc in
      let two : is.head ≡ head = cc in
      let shape = are_rules (tuple is.body is.head) (Contains-at rules number (tuple is.body is.head) is.is_next.there) in
      let fired = all.kept.known (Made number variable (map m (frontier body head))) inside number variable (map m (frontier body head)) refl in
      not_fired rules start now next (moved_by trace) all.gone all.fired all.kept number is.body is.head m shape.flat_head is.is_next.there
      is.is_next.active.keeps (Sends-match m is.body now.body places is.is_next.active.matches) is.is_next.active.active
      (subst (λ (it : List (Fact Term) × List (Fact Term)). Contains all.fired (number, map m (frontier it.0 it.1))) (λ i. (sym one i, sym two i)) fired)
