-- What an accepted certificate shows: derived entries of its set, in whose world the query has a match.
use Rattle.std.proofs.Common.{◌≡◌, ◌⊎◌, inl, inr, ℕ, ◌+◌, ◌-◌, List, [], ◌∷◌, ◌++◌, map, Option, Some, None, Contains, refl, sym, ap, subst}
use Rattle.std.specs.List.{AllZip}
use Rattle.std.proofs.lemmas.List.Elements.{Contains-push_cases}
use Rattle.std.proofs.lemmas.Option.{same_Some}
use Rattle.esto_term.specs.declared.term.Term.{Term}
use Rattle.esto_term.proofs.ListLemmas.{Contains-cases, Contains-nil}
use Rattle.esto_term.proofs.ZipLemmas.{zip_weaker}
use Rattle.esto_semantics.specs.Facts.{terms_of}
use Rattle.esto_semantics.specs.declared.fact.Fact.{Fact}
use Rattle.esto_chase_laws.specs.Worlds.{InWorld, Linked}
use Rattle.esto_chase_laws.specs.WorldMatches.{match_map}
use Rattle.esto_chase_laws.specs.WorldLaws.{HasMatch}
use Rattle.esto_chase_laws.specs.declared.entry.Claim.{Claim}
use Rattle.esto_chase_laws.specs.declared.entry.Claim.TheVariants.{Fact as Stated, Same}
use Rattle.esto_chase_laws.specs.declared.entry.Entry.{Entry}
use Rattle.esto_chase_laws.proofs.GrowLemmas.{InWorld-more}
use Rattle.esto_chase_laws.proofs.SoundLemmas.{rows_split}
use Rattle.esto_chase_laws.proofs.TakenLemmas.{taken-Const}
use Rattle.esto_cert.specs.Certificates.{Case, numbered, fact_of, equality_of, facts_at, equalities_at, Matches, MayClaim, MayEnd}
use Rattle.esto_cert.specs.Judging.{IsJudgedText, Verdict}
use Rattle.esto_cert.specs.Lines.{line_of, with_item}
use Rattle.esto_cert.specs.Linking.{IsAmong}
use Rattle.esto_cert.specs.declared.judging.Judged.TheVariants.{Claims, Ends}
use Rattle.esto_cert.specs.declared.line.Line.{Line}
use Rattle.esto_cert.specs.declared.line.Line.TheVariants.{Expanded, Step, Match}
use Rattle.esto_cert.specs.declared.linking.Equality.{Equality}
use Rattle.esto_cert.proofs.WorldLemmas.{AreOfSet, Grown, equal_of, given, links_hold, match_holds, numbered_in, numbered_there, stepped}

-- ---- what numbers name is claimed

with_in : {A : Type 0} (first : Option A) (rest : Option (List A)) (all : List A) → with_item first rest ≡ Some all → (item : A) → Contains all item
    → (first ≡ Some item) ⊎ ((others : List A) × (rest ≡ Some others) × Contains others item)
with_in None rest all is item inside = absurd (cc)
with_in (Some first) None all is item inside = absurd (cc)
with_in {A} (Some first) (Some others) all is item inside =
    elim (Contains-cases first others item (subst (λ (it : List A). Contains it item) (sym (same_Some _ all is)) inside)) [
      | inl same ↦ inl (ap Some same)
      | inr later ↦ inr (others, refl, later)
    ]

module _ (claims : List Claim) where
  pub stated_in : (numbers : List ℕ) (facts : List (Fact Term)) → facts_at claims numbers ≡ Some facts → (fact : Fact Term) → Contains facts fact
      → Contains claims (Stated fact)
  stated_in [] facts is fact inside = absurd (Contains-nil fact (subst (λ (it : List (Fact Term)). Contains it fact) (sym (same_Some _ facts is)) inside))
  stated_in (number ∷ numbers) facts is fact inside =
      elim (with_in (fact_of (numbered claims number)) (facts_at claims numbers) facts is fact inside) [
        | inl first ↦ by (numbered claims number) refl first
        | inr (others, rest, later) ↦ stated_in numbers others rest fact later
      ]
    where
      by : (found : Option Claim) → numbered claims number ≡ found → fact_of found ≡ Some fact → Contains claims (Stated fact)
      by None at own = absurd (cc)
      by (Some (Stated it)) at own =
          subst (λ (its : Fact Term). Contains claims (Stated its)) (same_Some it fact own) (numbered_in claims number (Stated it) at)
      by (Some (Same left right)) at own = absurd (cc)

  pub equal_in : (numbers : List ℕ) (equalities : List Equality) → equalities_at claims numbers ≡ Some equalities → (it : Equality) → Contains equalities it
      → Contains claims (Same it.left it.right)
  equal_in [] equalities is it inside = absurd (Contains-nil it (subst (λ (its : List Equality). Contains its it) (sym (same_Some _ equalities is)) inside))
  equal_in (number ∷ numbers) equalities is it inside =
      elim (with_in (equality_of (numbered claims number)) (equalities_at claims numbers) equalities is it inside) [
        | inl first ↦ by (numbered claims number) refl first
        | inr (others, rest, later) ↦ equal_in numbers others rest it later
      ]
    where
      by : (found : Option Claim) → numbered claims number ≡ found → equality_of found ≡ Some it → Contains claims (Same it.left it.right)
      by None at own = absurd (cc)
      by (Some (Stated fact)) at own = absurd (cc)
      by (Some (Same left right)) at own =
          subst (λ (its : Equality). Contains claims (Same its.left its.right)) (same_Some _ it own) (numbered_in claims number (Same left right) at)

-- ---- line by line

module _ (case : Case) where
  abbrev pub World : List Entry → Claim → Type 0
  World entries = InWorld entries case.set

  -- derived entries of the set make the claims
  pub record AreClaimed (entries : List Entry) (claims : List Claim) : Type 0 where
    pub are : AreOfSet case.expanded case.rules case.set entries
    pub holds : (claim : Claim) → Contains claims claim → World entries claim

  abbrev pub IsMatched : List Entry → Type 0
  IsMatched entries = HasMatch (World entries) case.query.head case.query.body case.targets

  module _ (entries : List Entry) (claims : List Claim) (world : AreClaimed entries claims) where
    module _ (body : List (Fact Term)) (facts links : List ℕ) (found : List (Fact Term)) (equalities : List Equality)
        (matches : Matches claims body facts links found equalities) where
      facts_there : (fact : Fact Term) → Contains found fact → World entries (Stated fact)
      facts_there fact inside = world.holds (Stated fact) (stated_in claims facts found matches.stated fact inside)

      links_there : (it : Equality) → Contains equalities it → World entries (equal_of it)
      links_there it inside = world.holds (equal_of it) (equal_in claims links equalities matches.named it inside)

      matched : (head targets : List Term) → AllZip (Linked (World entries)) targets (map (match_map body found) head)
          → HasMatch (World entries) head body targets
      matched head targets heads =
          let held = match_holds (World entries) found equalities facts_there links_there body matches.fits in (
            match_map body found,
            (λ text. taken-Const (terms_of body) (terms_of found) text),
            (λ atom inside.
                let part = rows_split (World entries) (Linked (World entries)) (match_map body found) body found held.0 held.1 atom inside in
                (part.0, part.1, (part.2, part.3))),
            heads,
          )

    claimed : (line : Line) (claim : Claim) → MayClaim case claims line claim → Grown case.expanded case.rules case.set entries claim
    claimed (Expanded atom place) claim (fact, inside, named, is) =
        subst (Grown case.expanded case.rules case.set entries) (sym is)
        (given case.expanded case.rules case.set entries world.are fact inside named.2)
    claimed (Step number place facts links) claim (rule, at, (found, equalities, matches, made)) =
        stepped case.expanded case.rules case.set entries world.are (number - 1) place rule found equalities claim
        (numbered_there case.rules number rule at) (facts_there _ facts links found equalities matches)
        (links_there _ facts links found equalities matches) matches.fits made
    claimed (Match facts links) claim wrong = absurd wrong

    ended : (line : Line) → MayEnd case claims line → IsMatched entries
    ended (Expanded atom place) wrong = absurd wrong
    ended (Step number place facts links) wrong = absurd wrong
    ended (Match facts links) (found, equalities, matches, heads) =
        matched case.query.body facts links found equalities matches case.query.head case.targets
        (zip_weaker (Linked (IsAmong found equalities)) (Linked (World entries)) case.targets _ (λ s t _ linked.
        links_hold (World entries) found equalities (facts_there _ facts links found equalities matches)
        (links_there _ facts links found equalities matches) s t linked) heads)

    one_more : (claim : Claim) → (grown : Grown case.expanded case.rules case.set entries claim) → AreClaimed grown.later (claims ++ claim ∷ [])
    one_more claim grown = record {
      are = grown.are;
      holds = λ other inside. elim (Contains-push_cases claims claim other inside) [
        | inl old ↦ InWorld-more entries grown.later case.set grown.more other (world.holds other old)
        | inr is ↦ subst (World grown.later) is grown.holds
      ];
    }

    claims_text : (found : Option Line) (claim : Claim) → IsJudgedText case claims found (Claims claim)
        → Grown case.expanded case.rules case.set entries claim
    claims_text None claim wrong = absurd (cc)
    claims_text (Some line) claim may = claimed line claim may

    ends_text : (found : Option Line) → IsJudgedText case claims found Ends → IsMatched entries
    ends_text None wrong = absurd (cc)
    ends_text (Some line) may = ended line may

  -- an accepted file has derived entries of the set, in whose world the query has a match
  pub walked : (parts : List (List ℕ)) (number : ℕ) (entries : List Entry) (claims : List Claim) → AreClaimed entries claims
      → Verdict case claims number parts None → (later : List Entry) × AreOfSet case.expanded case.rules case.set later × IsMatched later
  walked [] number entries claims world wrong = absurd (cc)
  walked (part ∷ []) number entries claims world wrong = absurd (cc)
  walked (part ∷ next ∷ rest) number entries claims world (inl (inl (claim, judged, later))) =
      let grown = claims_text entries claims world (line_of part) claim judged in
      walked (next ∷ rest) (number + 1) grown.later (claims ++ claim ∷ []) (one_more entries claims world claim grown) later
  walked (part ∷ next ∷ rest) number entries claims world (inl (inr (judged, is))) =
      (entries, world.are, ends_text entries claims world (line_of part) judged)
  walked (part ∷ next ∷ rest) number entries claims world (inr (judged, wrong)) = absurd (cc)

  pub nothing : AreClaimed [] []
  nothing = record {
    are = record {
      derived = λ place entry wrong. absurd (cc);
      within = λ entry inside. absurd (Contains-nil entry inside);
    };
    holds = λ claim inside. absurd (Contains-nil claim inside);
  }
