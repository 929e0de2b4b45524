-- Matches that are found are those that there are.
use Rattle.std.proofs.Common.{◌≡◌, ◌↔◌, ℕ, Bool, true, false, List, [], ◌∷◌, Some, None, Ok, Err, Option, Result, IfOk, IsTrue, Contains}
use Rattle.std.proofs.Common.{refl, subst, sym, ap, ◌∙◌}
use Rattle.std.specs.Bool.{then_some}
use Rattle.std.specs.List.{AllZip}
use Rattle.std.specs.Option.{MatchOption}
use Rattle.std.proofs.lemmas.Bool.{false≢true}
use Rattle.std.proofs.lemmas.Option.{same_Some}
use Rattle.esto_term.proofs.ListLemmas.{Contains-head, Contains-rest}
use Rattle.esto_term.proofs.ZipLemmas.{zip_weaker}
use Rattle.esto_term.specs.declared.term.Term.{Term}
use Rattle.esto_semantics.specs.Facts.{terms_of}
use Rattle.esto_semantics.specs.declared.fact.Fact.{Fact}
use Rattle.esto_chase_laws.specs.Worlds.{Linked}
use Rattle.esto_chase_laws.specs.WorldMatches.{IsLike, Fits, AreChosen, IsMatch}
use Rattle.esto_chase_laws.specs.declared.entry.Claim.{Claim}
use Rattle.esto_chase_laws.specs.declared.entry.Claim.TheVariants.{Fact as Stated}
use Rattle.esto_cert.specs.Certificates.{facts_at, equalities_at, Matches}
use Rattle.esto_cert.specs.Linking.{IsAmong, Tells, StandsAsOne}
use Rattle.esto_cert.specs.Matching.{FactsFit, IsFound}
use Rattle.esto_cert.specs.declared.linking.Equality.{Equality}
use Rattle.esto_cert.specs.declared.matching.Found.{Found}

pub are_chosen : (Holds : Claim → Type 0) (body chosen : List (Fact Term)) → ((fact : Fact Term) → Contains chosen fact → Holds (Stated fact))
    → AllZip IsLike body chosen → AreChosen Holds body chosen
are_chosen Holds [] [] holds all = all
are_chosen Holds [] (fact ∷ chosen) holds all = absurd all
are_chosen Holds (atom ∷ body) [] holds all = absurd all
are_chosen Holds (atom ∷ body) (fact ∷ chosen) holds all = (
  (holds fact (Contains-head fact chosen), all.0.0, all.0.1),
  are_chosen Holds body chosen (λ other inside. holds other (Contains-rest fact chosen other inside)) all.1,
)

pub are_like : (Holds : Claim → Type 0) (body chosen : List (Fact Term)) → AreChosen Holds body chosen → AllZip IsLike body chosen
are_like Holds [] [] all = all
are_like Holds [] (fact ∷ chosen) all = absurd all
are_like Holds (atom ∷ body) [] all = absurd all
are_like Holds (atom ∷ body) (fact ∷ chosen) all = ((all.0.1, all.0.2), are_like Holds body chosen all.1)

module _ (claims : List Claim) (body : List (Fact Term)) (facts links : List ℕ) (chosen : List (Fact Term)) (equalities renamings : List Equality)
    (from to : List Term) (stated : facts_at claims facts ≡ Some chosen) (named : equalities_at claims links ≡ Some equalities)
    (tells : (others : List (Fact Term)) → Tells renamings (IsAmong others equalities)) (from_is : from ≡ terms_of body) (to_is : to ≡ terms_of chosen) where
  one_of : (term other : Term) → StandsAsOne renamings term other → Linked (IsAmong chosen equalities) term other
  one_of term other same = (tells chosen term other).1 same

  of_one : (term other : Term) → Linked (IsAmong chosen equalities) term other → StandsAsOne renamings term other
  of_one term other linked = (tells chosen term other).0 linked

  at_terms : Fits (StandsAsOne renamings) from to → Fits (StandsAsOne renamings) (terms_of body) (terms_of chosen)
  at_terms all = subst (λ (it : List Term). Fits (StandsAsOne renamings) (terms_of body) it) to_is
      (subst (λ (it : List Term). Fits (StandsAsOne renamings) it to) from_is all)

  of_terms : Fits (StandsAsOne renamings) (terms_of body) (terms_of chosen) → Fits (StandsAsOne renamings) from to
  of_terms all = subst (λ (it : List Term). Fits (StandsAsOne renamings) it to) (sym from_is)
      (subst (λ (it : List Term). Fits (StandsAsOne renamings) (terms_of body) it) (sym to_is) all)

  pub match_there : FactsFit (StandsAsOne renamings) body chosen from to → Matches claims body facts links chosen equalities
  match_there fits = record {
    stated = stated;
    named = named;
    fits = (
      are_chosen (IsAmong chosen equalities) body chosen (λ fact inside. inside) fits.0,
      zip_weaker (StandsAsOne renamings) (Linked (IsAmong chosen equalities)) _ _ (λ term other _ same. one_of term other same) (at_terms fits.1),
    );
  }

  fits_of : IsMatch (IsAmong chosen equalities) body chosen → FactsFit (StandsAsOne renamings) body chosen from to
  fits_of is = (
    are_like (IsAmong chosen equalities) body chosen is.0,
    of_terms (zip_weaker (Linked (IsAmong chosen equalities)) (StandsAsOne renamings) _ _ (λ term other _ linked. of_one term other linked) is.1),
  )

  pub no_match : ¬ (FactsFit (StandsAsOne renamings) body chosen from to) → (other : List (Fact Term)) (others : List Equality)
      → ¬ (Matches claims body facts links other others)
  no_match wrong other others it =
      let same : other ≡ chosen = same_Some other chosen (sym it.stated ∙ stated) in
      let same_too : others ≡ equalities = same_Some others equalities (sym it.named ∙ named) in
      wrong (fits_of (subst (λ (facts_too : List (Fact Term)). IsMatch (IsAmong facts_too equalities) body facts_too) same
      (subst (λ (them : List Equality). IsMatch (IsAmong other them) body other) same_too it.fits)))

-- ---- the match that is found

module _ (claims : List Claim) (body : List (Fact Term)) (facts links : List ℕ) (chosen shown : List (Fact Term)) (equalities them renamings : List Equality)
    (from to : List Term) (stated : facts_at claims facts ≡ Some chosen) (named : equalities_at claims links ≡ Some equalities)
    (shown_is : shown ≡ chosen) (them_is : them ≡ equalities) (tells : (others : List (Fact Term)) → Tells renamings (IsAmong others them))
    (from_is : from ≡ terms_of body) (to_is : to ≡ terms_of shown) where
  all_told : (others : List (Fact Term)) → Tells renamings (IsAmong others equalities)
  all_told = subst (λ (it : List Equality). (others : List (Fact Term)) → Tells renamings (IsAmong others it)) them_is tells

  to_chosen : to ≡ terms_of chosen
  to_chosen = to_is ∙ ap terms_of shown_is

  pub found_there : FactsFit (StandsAsOne renamings) body chosen from to
      → (its : List Equality) × Matches claims body facts links chosen its × Tells renamings (IsAmong chosen its) × (from ≡ terms_of body)
      × (to ≡ terms_of chosen)
  found_there fits = (
    equalities,
    match_there claims body facts links chosen equalities renamings from to stated named all_told from_is to_chosen fits,
    all_told chosen,
    from_is,
    to_chosen,
  )

  pub none_there : ¬ (FactsFit (StandsAsOne renamings) body chosen from to) → (other : List (Fact Term)) (others : List Equality)
      → ¬ (Matches claims body facts links other others)
  none_there = no_match claims body facts links chosen equalities renamings from to stated named all_told from_is to_chosen

-- what is told of the match as it is found
pub judged_there : {E : Type 0} (claims : List Claim) (body : List (Fact Term)) (facts links : List ℕ) (chosen : List (Fact Term))
    (equalities them : List Equality)
    → facts_at claims facts ≡ Some chosen → equalities_at claims links ≡ Some equalities → them ≡ equalities
    → (it : Found) → it.chosen ≡ chosen → ((others : List (Fact Term)) → Tells it.renamings (IsAmong others them)) → it.from ≡ terms_of body
    → it.to ≡ terms_of chosen → (result : Result (Option Found) E)
    → IfOk result (λ found. MatchOption found (¬ (FactsFit (StandsAsOne it.renamings) body it.chosen it.from it.to))
    (λ same. (same ≡ it) × FactsFit (StandsAsOne it.renamings) body it.chosen it.from it.to))
    → IfOk result (IsFound claims body facts links)
judged_there claims body facts links chosen equalities them stated named them_is it chosen_is tells from_is to_is (Ok None) wrong =
    none_there claims body facts links it.chosen it.chosen equalities them it.renamings it.from it.to (stated ∙ ap Some (sym chosen_is)) named refl them_is
    tells from_is (to_is ∙ ap terms_of (sym chosen_is)) wrong
judged_there claims body facts links chosen equalities them stated named them_is it chosen_is tells from_is to_is (Ok (Some found)) (same, fits) =
    subst (λ (its : Found). IsFound claims body facts links (Some its)) (sym same)
    (found_there claims body facts links it.chosen it.chosen equalities them it.renamings it.from it.to (stated ∙ ap Some (sym chosen_is)) named refl
    them_is tells from_is (to_is ∙ ap terms_of (sym chosen_is)) fits)
judged_there claims body facts links chosen equalities them stated named them_is it chosen_is tells from_is to_is (Err error) judged = tt

-- a value that is there exactly where a test lets it pass
pub if_so : {A : Type 0} (test : Bool) (value : A) (found : Option A) (P : Type 0) → found ≡ then_some test value → IsTrue test ↔ P
    → MatchOption found (¬ P) (λ same. (same ≡ value) × P)
if_so test value found P is tells = subst (λ it. MatchOption it (¬ P) (λ same. (same ≡ value) × P)) (sym is) (by_test test tells) where
  by_test : (test : Bool) → IsTrue test ↔ P → MatchOption (then_some test value) (¬ P) (λ same. (same ≡ value) × P)
  by_test true tells = (refl, tells.0 refl)
  by_test false tells = λ holds. false≢true (tells.1 holds)
