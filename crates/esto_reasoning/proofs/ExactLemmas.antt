-- What `contains` and `minimise` say of queries is exact.
use Rattle.std.proofs.Common.{◌≡◌, ◌≢◌, ℕ, List, ◌++◌, length, refl, sym, ap, subst, ◌∙◌, inl, inr}
use Rattle.std.specs.Prelude.{codes}
use Rattle.esto_chase.specs.Chased.{RunClashes}
use Rattle.esto_chase_laws.specs.Runs.{start_of}
use Rattle.esto_chase_laws.specs.declared.clash.Clash.{Clash}
use Rattle.esto_contain.specs.Contained.{TellsContained}
use Rattle.esto_contain.specs.ContainedLaws.{NoIsShown}
use Rattle.esto_contain.specs.Ends.{FinishesAt}
use Rattle.esto_contain.specs.Minimised.{IsMinimised}
use Rattle.esto_contain.specs.declared.containing.Contain.{Contain}
use Rattle.esto_contain.specs.declared.containing.Contain.TheVariants.{Yes, No}
use Rattle.esto_contain.specs.declared.minimising.Minimal.{Minimal}
use Rattle.esto_course.specs.Course.{and_then, demands, judges}
use Rattle.esto_status.specs.Calm.{Leads}
use Rattle.esto_status.specs.Line.{line_of}
use Rattle.esto_status.specs.declared.status.Status.{Status}
use Rattle.esto_status.specs.declared.status.Status.TheVariants as status
use Rattle.esto_query.specs.declared.query.Name.{Name}
use Rattle.esto_semantics.specs.Containment.{IsSatisfiable}
use Rattle.esto_semantics.specs.Queries.{ConjunctiveQuery, IsQuery}
use Rattle.esto_semantics.specs.Rules.{Rule, AreRules}
use Rattle.esto_semantics.specs.declared.fact.Fact.{Fact}
use Rattle.esto_term.specs.declared.term.Term.{Term}
use Rattle.esto_universal.specs.PlannedLaws.{ClashOfRunIsOne}
use Rattle.esto_chase.specs.ChasedLaws.{ClashedIsUnsatisfiable}
use Rattle.esto_status.proofs.StatusLemmas.{done_not_clash, same_clash}
use Rattle.esto_reasoning.specs.Contains.{IsNoText, SaysTold}
use Rattle.esto_reasoning.specs.Exact.{ContainsExactly, IsWithin, MinimisesExactly}
use Rattle.esto_reasoning.specs.Minimise.{IsMinimalText}
use Rattle.esto_reasoning.proofs.AlikeLemmas.{compares_by, minimises_by}

-- ---- statuses and texts apart

done_not_lengths : (one other : ℕ) → status.Done ≡ status.HeadLengths one other → ⊥
done_not_lengths one other same = cc

no_not_yes : (rest : List ℕ) → codes "no\n" ++ rest ≡ codes "yes\n" → ⊥
no_not_yes rest same = cc

-- ---- `contains`

module _ (shown : NoIsShown) (rules : List Rule) (relations : List (List ℕ)) (names : List Name) (left right : ConjunctiveQuery)
    (are_rules : AreRules rules) (is_query : IsQuery left) where
  abbrev is_exact : Status → List ℕ → Type 0
  is_exact = ContainsExactly rules relations names left right

  says_lengths : (said : Status) → length left.head ≢ length right.head → said ≡ status.HeadLengths (length left.head) (length right.head)
      → is_exact said (line_of said)
  says_lengths said apart is = record {
    lengths = ((λ same. apart), (λ still. is));
    done = ((λ same. absurd (done_not_lengths _ _ (sym same ∙ is))), (λ same. absurd (apart same)));
    yes = λ same. absurd (done_not_lengths _ _ (sym same ∙ is));
    no = λ same. absurd (done_not_lengths _ _ (sym same ∙ is));
    line = λ refused. refl;
  }

  says_yes : length left.head ≡ length right.head → IsWithin rules left right → (text : List ℕ) → text ≡ codes "yes\n" → is_exact status.Done text
  says_yes same within text is = record {
    lengths = ((λ other. absurd (done_not_lengths _ _ other)), (λ apart. absurd (apart same)));
    done = ((λ done. same), (λ lengths. refl));
    yes = λ done. ((λ yes_text. within), (λ still. is));
    no = λ done never. absurd (never within);
    line = λ refused. absurd (refused refl);
  }

  says_no : length left.head ≡ length right.head → (facts : List (Fact Term)) (row : List Term) → TellsContained rules left right (No facts row)
      → (text : List ℕ) → IsNoText relations names facts row text → is_exact status.Done text
  says_no same facts row tells text is = record {
    lengths = ((λ other. absurd (done_not_lengths _ _ other)), (λ apart. absurd (apart same)));
    done = ((λ done. same), (λ lengths. refl));
    yes = λ done. ((λ yes_text. absurd (no_not_yes _ (sym is.2 ∙ yes_text))), (λ within. absurd (tells.0 within)));
    no = λ done never. (facts, row, tells.1, shown rules left right facts row are_rules is_query tells, is);
    line = λ refused. absurd (refused refl);
  }

  says_told : length left.head ≡ length right.head → (told : Contain) → TellsContained rules left right told → (text : List ℕ)
      → SaysTold relations names told text → is_exact status.Done text
  says_told same Yes within text is = says_yes same within text is
  says_told same (No facts row) tells text is = says_no same facts row tells text is

  pub compares_exactly : Leads (compares_by rules relations names left right) (is_exact status.Done) (λ said. is_exact said (line_of said))
  unfolding and_then judges demands
  compares_exactly = record {
    goes = λ text (given, same, (told, tells, says)). says_told same told tells text says;
    stops = λ said caused stop. elim stop [
      | inl (apart, is) ↦ says_lengths said apart is
      | inr (given, same, more) ↦ elim more [
        | inl none ↦ absurd none
        | inr (told, tells, none) ↦ absurd none
      ]
    ];
  }

-- ---- `minimise`

module _ (clash_one : ClashOfRunIsOne) (clashed : ClashedIsUnsatisfiable)
    (satisfies : (rules : List Rule) (query end : ConjunctiveQuery) → AreRules rules → IsQuery query → FinishesAt rules (start_of query) end
    → IsSatisfiable rules query)
    (rules : List Rule) (relations : List (List ℕ)) (names : List Name) (query : ConjunctiveQuery) (are_rules : AreRules rules)
    (is_query : IsQuery query) where
  abbrev is_minimised : Status → List ℕ → Type 0
  is_minimised = MinimisesExactly rules relations names query

  says_parts : (minimal : Minimal) → IsMinimised rules names query minimal → (text : List ℕ) → IsMinimalText rules relations query minimal text
      → is_minimised status.Done text
  says_parts minimal is_minimal text is =
      let satisfiable = satisfies rules query is_minimal.end are_rules is_query is_minimal.finishes in record {
        done = ((λ same. satisfiable), (λ has. refl));
        prints = λ same. (minimal, is_minimal, is);
        unsatisfiable = ((λ (clash, same). absurd (done_not_clash clash same)), (λ none. absurd (none satisfiable)));
        clash = λ clash. (
          (λ same. absurd (done_not_clash clash same)),
          (λ clashes. absurd (clashed rules query clash are_rules is_query clashes satisfiable)),
        );
        line = λ refused. absurd (refused refl);
      }

  says_clash : (clash : Clash) → RunClashes rules (start_of query) clash → (said : Status) → said ≡ status.Unsatisfiable clash
      → is_minimised said (line_of said)
  says_clash clash clashes said is =
      let never = clashed rules query clash are_rules is_query clashes in record {
        done = ((λ same. absurd (done_not_clash clash (sym same ∙ is))), (λ has. absurd (never has)));
        prints = λ same. absurd (done_not_clash clash (sym same ∙ is));
        unsatisfiable = ((λ some. never), (λ none. (clash, is)));
        clash = λ other. (
          (λ same. subst (λ (it : Clash). RunClashes rules (start_of query) it) (same_clash clash other (sym is ∙ same)) clashes),
          (λ ends. is ∙ ap status.Unsatisfiable (clash_one rules query clash other are_rules clashes ends)),
        );
        line = λ refused. refl;
      }

  pub minimises_exactly : Leads (minimises_by rules relations names query) (is_minimised status.Done) (λ said. is_minimised said (line_of said))
  unfolding and_then judges
  minimises_exactly = record {
    goes = λ text (minimal, is_minimal, is). says_parts minimal is_minimal text is;
    stops = λ said caused stop. elim stop [
      | inl (clash, clashes, is) ↦ says_clash clash clashes said is
      | inr (minimal, is_minimal, none) ↦ absurd none
    ];
  }
