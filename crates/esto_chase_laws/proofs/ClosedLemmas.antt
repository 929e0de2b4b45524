-- Where all that direct matches ask for is covered, and links are joined, each world meets the rules.
use Rattle.std.proofs.Common.{◌≡◌, ℕ, List, [], ◌∷◌, ◌++◌, map, length, refl, sym, ap, ◌∙◌, inl, inr, Contains, subst}
use Rattle.std.specs.List.{AllZip}
use Rattle.std.proofs.lemmas.List.{map-append, length-map}
use Rattle.esto_term.specs.declared.term.Term.{Term}
use Rattle.esto_term.specs.declared.term.Term.TheVariants.{Const}
use Rattle.esto_semantics.specs.Facts.{image, terms_of}
use Rattle.esto_semantics.specs.Maps.{IsFixedBy, Keeps, SendsInto}
use Rattle.esto_semantics.specs.Rules.{Rule, tuple, equality, denial, IsRule}
use Rattle.esto_semantics.specs.declared.fact.Fact.{Fact}
use Rattle.esto_term.proofs.ListLemmas.{place-from_Contains, Contains-head, Contains-rest}
use Rattle.esto_term.proofs.ZipLemmas.{zip_append, zip_length, zip_weaker}
use Rattle.esto_semantics.specs.Rules.{body_of}
use Rattle.esto_chase_laws.specs.Worlds.{InWorld, Linked, here, along, back, Reaches, IsMetBy, IsNoDenial}
use Rattle.esto_chase_laws.specs.WorldLaws.{CompleteEntriesAreClosed}
use Rattle.esto_chase_laws.specs.WorldMatches.{taken, Touching, Fits, AreChosen, match_map, IsDirectMatch}
use Rattle.esto_chase_laws.specs.Making.{extended}
use Rattle.esto_chase_laws.specs.WorldSteps.{IsAsked, IsCovered}
use Rattle.esto_chase_laws.specs.declared.entry.Claim.{Claim}
use Rattle.esto_chase_laws.specs.declared.entry.Claim.TheVariants.{Fact as Stated, Same}
use Rattle.esto_chase_laws.proofs.LinkLemmas.{Linked-then, Linked-back, Linked-is, Linked-touching, rows_themselves}
use Rattle.esto_semantics.proofs.CanonicalLemmas.{Mentions-terms_of}
use Rattle.esto_chase_laws.proofs.TakenLemmas.{taken-Const, taken_cases, substituted_has}
use Rattle.esto_chase_laws.proofs.MakingLemmas.{extended-body, extended-keeps}

-- links of links, where they are joined
pub touching : {Holds : Claim → Type 0} → ((s t u : Term) → Touching Holds s t → Touching Holds t u → Touching Holds s u) → (s t : Term) → Linked Holds s t
    → Touching Holds s t
touching joined s t here = inl refl
touching joined s t (along h l) = joined s _ t (inr (inl h)) (touching joined _ t l)
touching joined s t (back h l) = joined s _ t (inr (inr h)) (touching joined _ t l)

module _ (Holds : Claim → Type 0) (val : Term → Term) (keeps : Keeps Const val) where
  -- a fact for each atom
  pub choose : (body : List (Fact Term)) → SendsInto val body (Reaches Holds)
      → (chosen : List (Fact Term)) × AreChosen Holds body chosen × AllZip (Linked Holds) (terms_of chosen) (map val (terms_of body))
  choose [] sends = ([], tt, tt)
  choose (atom ∷ rest) sends =
      let first = sends atom (Contains-head atom rest) in
      let more = choose rest (λ a c. sends a (Contains-rest atom rest a c)) in
      let same_length : length first.0.terms ≡ length atom.terms = zip_length (Linked Holds) first.0.terms (map val atom.terms) first.2.1
      ∙ length-map atom.terms val in (
        first.0 ∷ more.0,
        ((first.1, first.2.0, same_length), more.1),
        subst (AllZip (Linked Holds) (first.0.terms ++ terms_of more.0)) (sym (map-append val atom.terms (terms_of rest)))
            (zip_append (Linked Holds) first.0.terms (terms_of more.0) (map val atom.terms) (map val (terms_of rest)) first.2.1 more.2),
      )

  unmapped : (from to : List Term) → AllZip (Linked Holds) to (map val from)
      → AllZip (λ (target : Term) (source : Term). Linked Holds (val source) target) to from
  unmapped [] [] z = tt
  unmapped [] (t ∷ to) z = absurd z
  unmapped (s ∷ from) [] z = absurd z
  unmapped (s ∷ from) (t ∷ to) z = (Linked-back t (val s) z.0, unmapped from to z.1)

  module _ (from to : List Term) (z : AllZip (Linked Holds) to (map val from)) where
    -- what a term meets first is one with what the map makes of it
    taken-Linked : (term : Term) → Contains from term → Linked Holds (val term) (taken from to term)
    taken-Linked term c = elim (taken_cases term) [
      | inl constant ↦ Linked-is (val term) (taken from to term)
          (ap val constant.1 ∙ keeps constant.0 ∙ sym (taken-Const from to constant.0) ∙ ap (taken from to) (sym constant.1))
      | inr is ↦ subst (Linked Holds (val term)) (sym (is from to))
          (substituted_has (λ source target. Linked Holds (val source) target) from to (unmapped from to z) term c)
    ]

    row : (sources targets : List Term) → ((term : Term) → Contains sources term → Contains from term) → AllZip (Linked Holds) targets (map val sources)
        → AllZip (Linked Holds) targets (map (taken from to) sources)
    row [] [] inside a = a
    row [] (t ∷ ts) inside a = absurd a
    row (s ∷ ss) [] inside a = absurd a
    row (s ∷ ss) (t ∷ ts) inside a = (
      Linked-then t (val s) (taken from to s) a.0 (taken-Linked s (inside s (Contains-head s ss))),
      row ss ts (λ term c. inside term (Contains-rest s ss term c)) a.1,
    )

    pub Fits-linked : Fits (Linked Holds) from to
    Fits-linked = row from to (λ term c. c) z

  module _ (joined : (s t u : Term) → Touching Holds s t → Touching Holds t u → Touching Holds s u) where
    pub direct : (body chosen : List (Fact Term)) → AreChosen Holds body chosen → AllZip (Linked Holds) (terms_of chosen) (map val (terms_of body))
        → IsDirectMatch Holds body chosen
    direct body chosen are z = (
      are,
      zip_weaker (Linked Holds) (Touching Holds) (terms_of chosen) (map (match_map body chosen) (terms_of body)) (λ s t _ l. touching joined s t l)
          (Fits-linked (terms_of body) (terms_of chosen) z),
    )

    pub at_body : (body chosen : List (Fact Term)) → AllZip (Linked Holds) (terms_of chosen) (map val (terms_of body)) → (term : Term)
        → IsFixedBy body term → Linked Holds (val term) (match_map body chosen term)
    at_body body chosen z term (inl constant) = Linked-is (val term) (match_map body chosen term)
        (ap val constant.1 ∙ keeps constant.0 ∙ sym (taken-Const (terms_of body) (terms_of chosen) constant.0) ∙ ap (match_map body chosen) (sym constant.1))
    at_body body chosen z term (inr inside) = taken-Linked (terms_of body) (terms_of chosen) z term (Mentions-terms_of body term inside)

module _ (Holds : Claim → Type 0) (joined : (s t u : Term) → Touching Holds s t → Touching Holds t u → Touching Holds s u) where
  by_rule : (number : ℕ) (rule : Rule) → IsRule rule → IsNoDenial rule
      → ((chosen : List (Fact Term)) → IsDirectMatch Holds (body_of rule) chosen → (claim : Claim)
      → IsAsked number rule (match_map (body_of rule) chosen) claim → IsCovered Holds claim)
      → IsMetBy Holds rule
  by_rule number (tuple body head) is_rule concluding answered = λ val keeps sends.
      let c = choose Holds val keeps body sends in
      let m = match_map body c.0 in
      let more = extended number body head m in
      let m_keeps : Keeps Const m = λ text. taken-Const (terms_of body) (terms_of c.0) text in (
        more,
        extended-keeps number body head m m_keeps,
        (λ term inside. subst (Linked Holds (val term)) (sym (extended-body number body head m term inside))
            (at_body Holds val keeps joined body c.0 c.2 term (inr inside))),
        (λ atom inside. (
          image more atom,
          answered c.0 (direct Holds val keeps joined body c.0 c.1 c.2) (Stated (image more atom)) (atom, inside, refl),
          (refl, rows_themselves Holds (map more atom.terms)),
        )),
      )
  by_rule number (denial body) is_rule concluding answered = absurd concluding
  by_rule number (equality body left right) is_rule concluding answered = λ val keeps sends.
      let c = choose Holds val keeps body sends in
      let m = match_map body c.0 in
      Linked-then (val left) (m left) (val right) (at_body Holds val keeps joined body c.0 c.2 left is_rule.left_fixed)
      (Linked-then (m left) (m right) (val right)
      (Linked-touching (m left) (m right) (answered c.0 (direct Holds val keeps joined body c.0 c.1 c.2) (Same (m left) (m right)) refl))
      (Linked-back (val right) (m right) (at_body Holds val keeps joined body c.0 c.2 right is_rule.right_fixed)))

pub closed : CompleteEntriesAreClosed
closed rules entries are_rules answered joined atoms rule inside concluding =
    let at = place-from_Contains rules rule inside in
    by_rule (InWorld entries atoms) (joined atoms) at.0 rule (are_rules rule inside) concluding (answered atoms at.0 rule at.1)
