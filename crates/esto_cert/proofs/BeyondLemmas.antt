-- Lines that 64 bits don't hold are refused, and what is read of the others stands for them.
use Rattle.std.proofs.Common.{◌≡◌, ◌≢◌, ◌==◌, ℕ, ◌<◌, ◌≤◌, nat_le, Bool, true, false, cond, if◌then◌else◌, List, [], ◌∷◌, length, Option, Some, None}
use Rattle.std.proofs.Common.{option_map, refl, sym, ap, subst, ◌∙◌, arith}
use Rattle.std.proofs.lemmas.Bool.Decides.{nat_tests}
use Rattle.std.proofs.lemmas.Option.{same_Some, slice_get_within}
use Rattle.esto_term.specs.Nesting.{greatest_u64}
use Rattle.esto_term.specs.declared.term.Term.{Term}
use Rattle.esto_semantics.specs.Facts.{image}
use Rattle.esto_semantics.specs.Rules.{Rule, tuple, equality, denial}
use Rattle.esto_semantics.specs.declared.fact.Fact.{Fact}
use Rattle.esto_chase_laws.specs.Making.{extended}
use Rattle.esto_chase_laws.specs.declared.entry.Claim.{Claim}
use Rattle.esto_chase_laws.specs.declared.entry.Claim.TheVariants.{Fact as Stated, Same}
use Rattle.esto_cert.specs.Certificates.{Case, MayClaim, MayEnd, equality_of, equalities_at, fact_of, facts_at, made_at, numbered}
use Rattle.esto_cert.specs.Judging.{AreFew, IsJudgedText}
use Rattle.esto_cert.specs.Lines.{with_item, expanded_of, match_of, step_of}
use Rattle.esto_cert.specs.Reading.{StandsFor, all_within, head_atoms, line_within, nearest, within}
use Rattle.esto_cert.specs.declared.judging.Judged.TheVariants.{Refused}
use Rattle.esto_cert.specs.declared.line.Line.{Line}
use Rattle.esto_cert.specs.declared.line.Line.TheVariants.{Expanded, Step, Match}
use Rattle.esto_cert.specs.declared.linking.Equality.{Equality}
use Rattle.esto_cert.proofs.NumberLemmas.{numbered_at}

-- ---- what is read

within_same : (number its : ℕ) → within (Some number) ≡ Some its → its ≡ number
within_same number its = by (nat_le number greatest_u64)
  where
    by : (test : Bool) → (if test then Some number else None) ≡ Some its → its ≡ number
    by true is = sym (same_Some number its is)
    by false wrong = cc

all_same : (numbers them : List ℕ) → all_within numbers ≡ Some them → them ≡ numbers
all_same [] them = λ is. sym (same_Some [] them is)
all_same (number ∷ numbers) them = by (within (Some number)) refl (all_within numbers) refl (all_same numbers)
  where
    by : (first : Option ℕ) → within (Some number) ≡ first → (rest : Option (List ℕ)) → all_within numbers ≡ rest
        → ((others : List ℕ) → all_within numbers ≡ Some others → others ≡ numbers) → with_item first rest ≡ Some them → them ≡ number ∷ numbers
    by None first_is rest rest_is again wrong = cc
    by (Some first) first_is None rest_is again wrong = cc
    by (Some first) first_is (Some rest) rest_is again is =
        sym (same_Some (first ∷ rest) them is) ∙ (λ i. within_same number first first_is i ∷ again rest rest_is i)

pub near_read : (said : Option Line) (line : Line) → line_within said ≡ Some line → (its : Line) × (said ≡ Some its) × StandsFor line its
near_read None line wrong = cc
near_read (Some (Expanded atom place)) line is = (Expanded atom place, refl, by (within (Some atom)) refl (within (Some place)) refl is)
  where
    by : (one : Option ℕ) → within (Some atom) ≡ one → (other : Option ℕ) → within (Some place) ≡ other → expanded_of one other ≡ Some line
        → StandsFor line (Expanded atom place)
    by None one_is other other_is wrong = cc
    by (Some one) one_is None other_is wrong = cc
    by (Some one) one_is (Some other) other_is is =
        subst (λ (it : Line). StandsFor it (Expanded atom place)) (same_Some (Expanded one other) line is)
        (λ i. Expanded (sym (within_same atom one one_is) i) (sym (within_same place other other_is) i))
near_read (Some (Match facts links)) line is = (Match facts links, refl, by (all_within facts) refl (all_within links) refl is)
  where
    by : (one : Option (List ℕ)) → all_within facts ≡ one → (other : Option (List ℕ)) → all_within links ≡ other → match_of one other ≡ Some line
        → StandsFor line (Match facts links)
    by None one_is other other_is wrong = cc
    by (Some one) one_is None other_is wrong = cc
    by (Some one) one_is (Some other) other_is is =
        subst (λ (it : Line). StandsFor it (Match facts links)) (same_Some (Match one other) line is)
        (λ i. Match (sym (all_same facts one one_is) i) (sym (all_same links other other_is) i))
near_read (Some (Step number place facts links)) line is =
    (Step number place facts links, refl, by (within (Some number)) refl (all_within facts) refl (all_within links) refl is)
  where
    by : (rule : Option ℕ) → within (Some number) ≡ rule → (one : Option (List ℕ)) → all_within facts ≡ one → (other : Option (List ℕ))
        → all_within links ≡ other → step_of rule (Some (nearest place)) one other ≡ Some line → StandsFor line (Step number place facts links)
    by None rule_is one one_is other other_is wrong = cc
    by (Some rule) rule_is None one_is other other_is wrong = cc
    by (Some rule) rule_is (Some one) one_is None other_is wrong = cc
    by (Some rule) rule_is (Some one) one_is (Some other) other_is is =
        subst (λ (it : Line). StandsFor it (Step number place facts links)) (same_Some (Step rule (nearest place) one other) line is) (
          place,
          refl,
          λ i. Step (sym (within_same number rule rule_is) i) place (sym (all_same facts one one_is) i) (sym (all_same links other other_is) i),
        )

-- ---- a head's place

-- a place that is not the greatest of 64 bits is the one that was said
pub near_is : (said place : ℕ) → nearest said ≡ place → place ≢ greatest_u64 → said ≡ place
near_is said place = by (nat_le said greatest_u64)
  where
    by : (test : Bool) → (if test then said else greatest_u64) ≡ place → place ≢ greatest_u64 → said ≡ place
    by true is apart = is
    by false is apart = absurd (apart (sym is))

-- at the greatest of 64 bits, and above, nothing stands in a shorter head
pub none_made : (said number : ℕ) (rule : Rule) (m : Term → Term) → nearest said ≡ greatest_u64 → length (head_atoms rule) < greatest_u64
    → None ≡ made_at said number rule m
none_made said number rule m near short = at rule short
  where
    large : greatest_u64 ≤ said
    large = by (nat_le said greatest_u64) refl near
      where
        by : (test : Bool) → nat_le said greatest_u64 ≡ test → (if test then said else greatest_u64) ≡ greatest_u64 → greatest_u64 ≤ said
        by true tested is = omega (arith, is)
        by false tested is = grind (arith, nat_tests, tested)

    at : (its : Rule) → length (head_atoms its) < greatest_u64 → None ≡ made_at said number its m
    at (denial body) few = refl
    at (equality body left right) few = ap (λ (it : Bool). cond it (Some (Same (m left) (m right))) None) (sym some)
      where
        some : (said == 0) ≡ false
        some = grind (arith, nat_tests, large)
    at (tuple body head) few = by (numbered head said) refl
      where
        by : (found : Option (Fact Term)) → numbered head said ≡ found
            → None ≡ option_map (λ atom. Stated (image (extended number body head m) atom)) found
        by None is = refl
        by (Some atom) is =
            let (place, same, there) = numbered_at head said atom is in
            let below = slice_get_within head place atom there in
            absurd (omega (arith, large, same, below, few))

-- ---- what follows is held

within_small : (number : ℕ) → number ≤ greatest_u64 → within (Some number) ≡ Some number
within_small number small = ap (λ (it : Bool). if it then Some number else None) test
  where
    test : nat_le number greatest_u64 ≡ true
    test = grind (arith, nat_tests, small)

named_small : {X : Type 0} (items : List X) → length items ≤ greatest_u64 → (number : ℕ) (item : X) → numbered items number ≡ Some item
    → within (Some number) ≡ Some number
named_small items few number item is =
    let (place, same, at) = numbered_at items number item is in
    let below = slice_get_within items place item at in
    within_small number (omega (arith, few, same, below))

module _ (claims : List Claim) (few : length claims ≤ greatest_u64) where
  facts_small : (numbers : List ℕ) (facts : List (Fact Term)) → facts_at claims numbers ≡ Some facts → all_within numbers ≡ Some numbers
  facts_small [] facts = λ is. refl
  facts_small (number ∷ numbers) facts = by (numbered claims number) refl (facts_at claims numbers) refl (facts_small numbers)
    where
      by : (claim : Option Claim) → numbered claims number ≡ claim → (rest : Option (List (Fact Term))) → facts_at claims numbers ≡ rest
          → ((others : List (Fact Term)) → facts_at claims numbers ≡ Some others → all_within numbers ≡ Some numbers)
          → with_item (fact_of claim) rest ≡ Some facts → all_within (number ∷ numbers) ≡ Some (number ∷ numbers)
      by None claim_is rest rest_is again wrong = cc
      by (Some claim) claim_is None rest_is again wrong = none (fact_of (Some claim)) wrong
        where
          none : (first : Option (Fact Term)) → with_item first None ≡ Some facts → all_within (number ∷ numbers) ≡ Some (number ∷ numbers)
          none None wrong = cc
          none (Some first) wrong = cc
      by (Some claim) claim_is (Some rest) rest_is again is =
          ap (λ (it : Option ℕ). with_item it (all_within numbers)) (named_small claims few number claim claim_is)
          ∙ ap (with_item (Some number)) (again rest rest_is)

  links_small : (numbers : List ℕ) (equalities : List Equality) → equalities_at claims numbers ≡ Some equalities → all_within numbers ≡ Some numbers
  links_small [] equalities = λ is. refl
  links_small (number ∷ numbers) equalities = by (numbered claims number) refl (equalities_at claims numbers) refl (links_small numbers)
    where
      by : (claim : Option Claim) → numbered claims number ≡ claim → (rest : Option (List Equality)) → equalities_at claims numbers ≡ rest
          → ((others : List Equality) → equalities_at claims numbers ≡ Some others → all_within numbers ≡ Some numbers)
          → with_item (equality_of claim) rest ≡ Some equalities → all_within (number ∷ numbers) ≡ Some (number ∷ numbers)
      by None claim_is rest rest_is again wrong = cc
      by (Some claim) claim_is None rest_is again wrong = none (equality_of (Some claim)) wrong
        where
          none : (first : Option Equality) → with_item first None ≡ Some equalities → all_within (number ∷ numbers) ≡ Some (number ∷ numbers)
          none None wrong = cc
          none (Some first) wrong = cc
      by (Some claim) claim_is (Some rest) rest_is again is =
          ap (λ (it : Option ℕ). with_item it (all_within numbers)) (named_small claims few number claim claim_is)
          ∙ ap (with_item (Some number)) (again rest rest_is)

module _ (case : Case) (claims : List Claim) (small : AreFew case claims) where
  abbrev IsRead : Line → Type 0
  IsRead line = (its : Line) × (line_within (Some line) ≡ Some its)

  claims_are_read : (line : Line) (claim : Claim) → MayClaim case claims line claim → IsRead line
  claims_are_read (Expanded atom place) claim (fact, inside, (atom_is, place_is, has), is) =
      let one = small.atoms_few fact inside in
      let other = small.places_few fact inside in (
        Expanded atom place,
        ap (λ (it : Option ℕ). expanded_of it (within (Some place))) (within_small atom (omega (arith, one, atom_is)))
            ∙ ap (expanded_of (Some atom)) (within_small place (omega (arith, other, place_is))),
      )
  claims_are_read (Step number place facts links) claim (rule, rule_at, (chosen, equalities, matches, makes)) = (
    Step number (nearest place) facts links,
    ap (λ (it : Option ℕ). step_of it (Some (nearest place)) (all_within facts) (all_within links))
        (named_small case.rules small.rules_few number rule rule_at)
        ∙ ap (λ (it : Option (List ℕ)). step_of (Some number) (Some (nearest place)) it (all_within links))
        (facts_small claims small.claims_few facts chosen matches.stated)
        ∙ ap (step_of (Some number) (Some (nearest place)) (Some facts)) (links_small claims small.claims_few links equalities matches.named),
  )
  claims_are_read (Match facts links) claim wrong = absurd wrong

  ends_are_read : (line : Line) → MayEnd case claims line → IsRead line
  ends_are_read (Expanded atom place) wrong = absurd wrong
  ends_are_read (Step number place facts links) wrong = absurd wrong
  ends_are_read (Match facts links) (chosen, equalities, matches, linked) = (
    Match facts links,
    ap (λ (it : Option (List ℕ)). match_of it (all_within links)) (facts_small claims small.claims_few facts chosen matches.stated)
        ∙ ap (match_of (Some facts)) (links_small claims small.claims_few links equalities matches.named),
  )

  pub unread_refused : (said : Option Line) → line_within said ≡ None → IsJudgedText case claims said Refused
  unread_refused None is = refl
  unread_refused (Some line) is = (
    (λ claim may. let (its, read) = claims_are_read line claim may in let wrong : None ≡ Some its = sym is ∙ read in absurd (cc)),
    (λ may. let (its, read) = ends_are_read line may in let wrong : None ≡ Some its = sym is ∙ read in absurd (cc)),
  )
