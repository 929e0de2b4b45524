-- What the lines of an accepted certificate claim has derivations.
use Rattle.std.proofs.Common.{◌≡◌, ◌⊎◌, zero, suc, ℕ, ◌+◌, ◌-◌, Bool, List, [], ◌∷◌, ◌++◌, length, map, take, slice_get, Option, Some, None, Contains, refl}
use Rattle.std.proofs.Common.{sym, ap, ◌∙◌, subst, inl, inr}
use Rattle.std.specs.List.{flat_map}
use Rattle.std.proofs.lemmas.List.{append_assoc, append-nil}
use Rattle.std.proofs.lemmas.List.Elements.{Contains-append_left, Contains-append_right, Contains-append_cases}
use Rattle.std.proofs.lemmas.Option.{same_Some}
use Rattle.esto_term.specs.declared.term.Term.{Term}
use Rattle.esto_term.proofs.ListLemmas.{Contains-cases, Contains-flat_from, Contains-head, Contains-map, Contains-map_from, Contains-nil, Contains-rest}
use Rattle.esto_term.proofs.ZipLemmas.{zip_weaker}
use Rattle.esto_semantics.specs.Rules.{Rule, body_of}
use Rattle.esto_term.specs.Sets.{Has}
use Rattle.esto_semantics.specs.declared.fact.Fact.{Fact}
use Rattle.esto_prov.specs.Derivations.{AreChain, Derives, FollowsFrom, leaves_of, leaves_of_level}
use Rattle.esto_prov.specs.Derivations.Derives.{given, by_chain, by_rule}
use Rattle.esto_prov.specs.declared.why.Why.{Why, fold-roll-Why}
use Rattle.esto_prov.specs.declared.why.Why.TheOpen.{Why-F}
use Rattle.esto_prov.specs.declared.why.Why.TheVariants as why
use Rattle.esto_prov.specs.declared.why.Why.TheVariants.{rolls-Expanded, rolls-Same, rolls-Step}
use Rattle.esto_semantics.specs.declared.expanded.ExpandedFact.{ExpandedFact}
use Rattle.esto_chase_laws.specs.Worlds.{Linked, here, along, back}
use Rattle.esto_chase_laws.specs.WorldMatches.{match_map, IsMatch}
use Rattle.esto_chase_laws.specs.declared.entry.Claim.{Claim}
use Rattle.esto_chase_laws.specs.declared.entry.Claim.TheVariants.{Fact as Stated, Same}
use Rattle.esto_cert.specs.Certificates.{Case, equalities_at, facts_at, made_at, MayClaim, MayEnd}
use Rattle.esto_cert.specs.Judging.{after_end, Decides, IsJudgedText, Verdict}
use Rattle.esto_cert.specs.Lines.{line_of}
use Rattle.esto_cert.specs.Linking.{IsAmong}
use Rattle.esto_cert.specs.Showing.{AreDerivedAsOne, HoldsDerivations, IsDerivedFrom}
use Rattle.esto_cert.specs.declared.judging.Judged.TheVariants.{Claims, Ends}
use Rattle.esto_cert.specs.declared.line.Line.{Line}
use Rattle.esto_cert.specs.declared.line.Line.TheVariants.{Expanded, Step, Match}
use Rattle.esto_cert.specs.declared.linking.Equality.{Equality}
use Rattle.esto_cert.proofs.ShowLemmas.{equal_in, stated_in}
use Rattle.esto_cert.proofs.WorldLemmas.{equal_of, made_asked, match_holds, numbered_there}

-- ---- leaves

leaf_of_expanded : (atom place leaf : ℕ) → Contains (leaves_of (why.Expanded atom place)) leaf → atom ≡ leaf
leaf_of_expanded atom place leaf inside =
    let is : leaves_of (why.Expanded atom place) ≡ atom ∷ [] =
    ap leaves_of (sym (rolls-Expanded atom place)) ∙ fold-roll-Why (List ℕ) leaves_of_level (Why-F.Expanded atom place) in
    elim (Contains-cases atom [] leaf (subst (λ (it : List ℕ). Contains it leaf) is inside)) [ inl same ↦ same | inr none ↦ absurd (Contains-nil leaf none) ]

leaf_of_step : (number : ℕ) (parts : List Why) (leaf : ℕ) → Contains (leaves_of (why.Step number parts)) leaf
    → (part : Why) × Contains parts part × Contains (leaves_of part) leaf
leaf_of_step number parts leaf inside =
    let is : leaves_of (why.Step number parts) ≡ flat_map (λ part. part) (map leaves_of parts) =
    ap leaves_of (sym (rolls-Step number parts)) ∙ fold-roll-Why (List ℕ) leaves_of_level (Why-F.Step number parts) in
    let found = Contains-flat_from (λ (it : List ℕ). it) (map leaves_of parts) leaf (subst (λ (it : List ℕ). Contains it leaf) is inside) in
    let part = Contains-map_from leaves_of parts found.0 found.1 in
    (part.0, part.1, subst (λ (it : List ℕ). Contains it leaf) (sym part.2) found.2)

leaf_of_chain : (parts : List Why) (leaf : ℕ) → Contains (leaves_of (why.Same parts)) leaf → (part : Why) × Contains parts part × Contains (leaves_of part) leaf
leaf_of_chain parts leaf inside =
    let is : leaves_of (why.Same parts) ≡ flat_map (λ part. part) (map leaves_of parts) =
    ap leaves_of (sym (rolls-Same parts)) ∙ fold-roll-Why (List ℕ) leaves_of_level (Why-F.Same parts) in
    let found = Contains-flat_from (λ (it : List ℕ). it) (map leaves_of parts) leaf (subst (λ (it : List ℕ). Contains it leaf) is inside) in
    let part = Contains-map_from leaves_of parts found.0 found.1 in
    (part.0, part.1, subst (λ (it : List ℕ). Contains it leaf) (sym part.2) found.2)

-- ---- claim by claim

module _ (expanded : List ExpandedFact) (rules : List Rule) (set : List Bool) where
  abbrev pub IsFrom : Claim → Type 0
  IsFrom = IsDerivedFrom expanded rules set

  abbrev DeriveEach : List Why → List Claim → Type 0
  DeriveEach whys claims =
      (part : ℕ) (one : Why) (claim : Claim) → slice_get whys part ≡ Some one → slice_get claims part ≡ Some claim → Derives expanded rules one claim

  -- the derivations of claims, in order
  record AreFrom (claims : List Claim) : Type 0 where
    pub whys : List Why
    pub as_many : length claims ≡ length whys
    pub each : DeriveEach whys claims
    pub leaves : (one : Why) → Contains whys one → (atom : ℕ) → Contains (leaves_of one) atom → Has set atom

  each_more : (one : Why) (whys : List Why) (claim : Claim) (claims : List Claim) → Derives expanded rules one claim → DeriveEach whys claims
      → DeriveEach (one ∷ whys) (claim ∷ claims)
  each_more one whys claim claims derives each zero it its at at_too =
      subst (λ (known : Why). Derives expanded rules known its) (same_Some one it at) (subst (Derives expanded rules one) (same_Some claim its at_too) derives)
  each_more one whys claim claims derives each (suc part) it its at at_too = each part it its at at_too

  all_from : (claims : List Claim) → ((claim : Claim) → Contains claims claim → IsFrom claim) → AreFrom claims
  all_from [] all = record {
    whys = [];
    as_many = refl;
    each = λ part one claim at at_too. absurd (cc);
    leaves = λ one inside. absurd (Contains-nil one inside);
  }
  all_from (claim ∷ claims) all =
      let own = all claim (Contains-head claim claims) in
      let rest = all_from claims (λ other inside. all other (Contains-rest claim claims other inside)) in record {
        whys = own.0 ∷ rest.whys;
        as_many = ap suc rest.as_many;
        each = each_more own.0 rest.whys claim claims own.1 rest.each;
        leaves = λ one inside. elim (Contains-cases own.0 rest.whys one inside) [
          | inl is ↦ (λ atom leaf. own.2 atom (subst (λ (it : Why). Contains (leaves_of it) atom) (sym is) leaf))
          | inr later ↦ rest.leaves one later
        ];
      }

  given_from : (fact : ExpandedFact) → Contains expanded fact → Has set fact.atom → IsFrom (Stated fact.fact)
  given_from fact inside has =
      (why.Expanded fact.atom fact.place, given fact inside, λ leaf own. subst (Has set) (leaf_of_expanded fact.atom fact.place leaf own) has)

  module _ (chosen : List (Fact Term)) (equalities : List Equality) (facts : (fact : Fact Term) → Contains chosen fact → IsFrom (Stated fact))
      (links : (it : Equality) → Contains equalities it → IsFrom (equal_of it)) where
    abbrev named : List Claim
    named = map Stated chosen ++ map equal_of equalities

    named_from : (claim : Claim) → Contains named claim → IsFrom claim
    named_from claim inside = elim (Contains-append_cases (map Stated chosen) (map equal_of equalities) claim inside) [
      | inl early ↦ (let from = Contains-map_from Stated chosen claim early in subst IsFrom from.2 (facts from.0 from.1))
      | inr later ↦ (let from = Contains-map_from equal_of equalities claim later in subst IsFrom from.2 (links from.0 from.1))
    ]

    step_from : (number place : ℕ) (rule : Rule) (claim : Claim) → slice_get rules number ≡ Some rule
        → IsMatch (IsAmong chosen equalities) (body_of rule) chosen → made_at place number rule (match_map (body_of rule) chosen) ≡ Some claim → IsFrom claim
    step_from number place rule claim at matches made =
        let are = all_from named named_from in
        let follows : FollowsFrom number rule named claim = record {
          chosen = chosen;
          links = map equal_of equalities;
          in_order = refl;
          equalities = λ link inside. let from = Contains-map_from equal_of equalities link inside in (from.0.left, from.0.right, sym from.2);
          matches = match_holds (Contains named) chosen equalities
              (λ fact inside. Contains-append_left (map Stated chosen) (map equal_of equalities) (Stated fact) (Contains-map Stated chosen fact inside))
              (λ it inside. Contains-append_right (map Stated chosen) (map equal_of equalities) (equal_of it) (Contains-map equal_of equalities it inside))
              (body_of rule) matches;
          asked = made_asked place number rule (match_map (body_of rule) chosen) claim made;
        } in (
          why.Step number are.whys,
          by_rule number rule are.whys named claim at are.as_many are.each follows,
          λ leaf inside. let part = leaf_of_step number are.whys leaf inside in are.leaves part.0 part.1 leaf part.2,
        )

  -- ---- chains of equalities

  record IsChained (term other : Term) : Type 0 where
    pub claims : List Claim
    pub chain : AreChain claims term other
    pub from : (claim : Claim) → Contains claims claim → IsFrom claim

  longer : (term next other : Term) (first : Claim) → (first ≡ Same term next) ⊎ (first ≡ Same next term) → IsFrom first → IsChained next other
      → IsChained term other
  longer term next other first is derived rest = record {
    claims = first ∷ rest.claims;
    chain = (next, is, rest.chain);
    from = λ claim inside. elim (Contains-cases first rest.claims claim inside) [
      | inl same ↦ subst IsFrom same derived
      | inr later ↦ rest.from claim later
    ];
  }

  chained : {Holds : Claim → Type 0} → ((claim : Claim) → Holds claim → IsFrom claim) → (term other : Term) → Linked Holds term other
      → IsChained term other
  chained each term other here = record { claims = []; chain = refl; from = λ claim inside. absurd (Contains-nil claim inside) }
  chained each term other (along {next = next} holds linked) =
      longer term next other (Same term next) (inl refl) (each _ holds) (chained each next other linked)
  chained each term other (back {next = next} holds linked) =
      longer term next other (Same next term) (inr refl) (each _ holds) (chained each next other linked)

  chain_from : (term other : Term) (claims : List Claim) → AreChain claims term other → ((claim : Claim) → Contains claims claim → IsFrom claim)
      → AreDerivedAsOne expanded rules set term other
  chain_from term other [] chain from = inl chain
  chain_from term other (first ∷ rest) chain from =
      let are = all_from (first ∷ rest) from in inr (
        why.Same are.whys,
        by_chain are.whys (first ∷ rest) term other (λ wrong. cc) are.as_many are.each chain,
        λ leaf inside. let part = leaf_of_chain are.whys leaf inside in are.leaves part.0 part.1 leaf part.2,
      )

  pub one_from : {Holds : Claim → Type 0} → ((claim : Claim) → Holds claim → IsFrom claim) → (term other : Term) → Linked Holds term other
      → AreDerivedAsOne expanded rules set term other
  one_from each term other linked = let it = chained each term other linked in chain_from term other it.claims it.chain it.from

-- ---- line by line

no_more : (number : ℕ) (next : List ℕ) (rest : List (List ℕ)) → None ≡ after_end number (next ∷ rest) → (next ∷ rest) ≡ ([] ∷ [])
no_more number [] [] is = refl
no_more number [] (other ∷ rest) is = absurd (cc)
no_more number (byte ∷ next) rest is = absurd (cc)

module _ (case : Case) where
  abbrev AllFrom : List Claim → Type 0
  AllFrom claims = (claim : Claim) → Contains claims claim → IsFrom case.expanded case.rules case.set claim

  -- what is left of an accepted file after lines with these claims
  record Rests (claims : List Claim) (parts : List (List ℕ)) : Type 0 where
    pub lines : List Line
    pub more : List Claim
    pub facts : List ℕ
    pub links : List ℕ
    pub before : List (List ℕ)
    pub are_parts : parts ≡ before ++ [] ∷ []
    pub read : map line_of before ≡ map Some (lines ++ Match facts links ∷ [])
    pub as_many : length more ≡ length lines
    pub each : (place : ℕ) (line : Line) (claim : Claim) → slice_get lines place ≡ Some line → slice_get more place ≡ Some claim
        → MayClaim case (claims ++ take place more) line claim
    pub derived : AllFrom (claims ++ more)
    pub ends : MayEnd case (claims ++ more) (Match facts links)

  module _ (claims : List Claim) (all : AllFrom claims) where
    claim_from : (line : Line) (claim : Claim) → MayClaim case claims line claim → IsFrom case.expanded case.rules case.set claim
    claim_from (Expanded atom place) claim (fact, inside, is_named, is) =
        subst (IsFrom case.expanded case.rules case.set) (sym is) (given_from case.expanded case.rules case.set fact inside is_named.2)
    claim_from (Step number place facts links) claim (rule, at, (chosen, equalities, matches, made)) =
        step_from case.expanded case.rules case.set chosen equalities
        (λ fact inside. all (Stated fact) (stated_in claims facts chosen matches.stated fact inside))
        (λ it inside. all (Same it.left it.right) (equal_in claims links equalities matches.named it inside)) (number - 1) place rule claim
        (numbered_there case.rules number rule at) matches.fits made
    claim_from (Match facts links) claim wrong = absurd wrong

    all_more : (claim : Claim) → IsFrom case.expanded case.rules case.set claim → AllFrom (claims ++ claim ∷ [])
    all_more claim derived other inside = elim (Contains-append_cases claims (claim ∷ []) other inside) [
      | inl old ↦ all other old
      | inr last ↦ elim (Contains-cases claim [] other last) [
        | inl is ↦ subst (IsFrom case.expanded case.rules case.set) is derived
        | inr none ↦ absurd (Contains-nil other none)
      ]
    ]

    -- nothing but the last line is left
    ended : (part : List ℕ) (rest : List (List ℕ)) (line : Line) → line_of part ≡ Some line → rest ≡ [] ∷ [] → MayEnd case claims line
        → Rests claims (part ∷ rest)
    ended part rest (Expanded atom place) reads last wrong = absurd wrong
    ended part rest (Step number place facts links) reads last wrong = absurd wrong
    ended part rest (Match its_facts its_links) reads last may = record {
      lines = [];
      more = [];
      facts = its_facts;
      links = its_links;
      before = part ∷ [];
      are_parts = ap (λ (it : List (List ℕ)). part ∷ it) last;
      read = ap (λ (it : Option Line). it ∷ []) reads;
      as_many = refl;
      each = λ place line claim at at_too. absurd (cc);
      derived = subst AllFrom (sym (append-nil claims)) all;
      ends = subst (λ (it : List Claim). MayEnd case it (Match its_facts its_links)) (sym (append-nil claims)) may;
    }

  module _ (claims : List Claim) (part : List ℕ) (parts : List (List ℕ)) (line : Line) (claim : Claim) (reads : line_of part ≡ Some line)
      (may : MayClaim case claims line claim) (rests : Rests (claims ++ claim ∷ []) parts) where
    later : (others : List Claim) → (claims ++ claim ∷ []) ++ others ≡ claims ++ claim ∷ others
    later others = append_assoc claims (claim ∷ []) others

    each_on : (place : ℕ) (other : Line) (own : Claim) → slice_get (line ∷ rests.lines) place ≡ Some other → slice_get (claim ∷ rests.more) place ≡ Some own
        → MayClaim case (claims ++ take place (claim ∷ rests.more)) other own
    each_on zero other own at at_too =
        subst (λ (it : List Claim). MayClaim case it other own) (sym (append-nil claims))
        (subst (λ (it : Line). MayClaim case claims it own) (same_Some line other at) (subst (MayClaim case claims line) (same_Some claim own at_too) may))
    each_on (suc place) other own at at_too =
        subst (λ (it : List Claim). MayClaim case it other own) (later (take place rests.more)) (rests.each place other own at at_too)

    -- one line more
    preceded : Rests claims (part ∷ parts)
    preceded = record {
      lines = line ∷ rests.lines;
      more = claim ∷ rests.more;
      facts = rests.facts;
      links = rests.links;
      before = part ∷ rests.before;
      are_parts = ap (λ (it : List (List ℕ)). part ∷ it) rests.are_parts;
      read = (λ i. reads i ∷ rests.read i);
      as_many = ap suc rests.as_many;
      each = each_on;
      derived = subst AllFrom (later rests.more) rests.derived;
      ends = subst (λ (it : List Claim). MayEnd case it (Match rests.facts rests.links)) (later rests.more) rests.ends;
    }

  claimed : (claims : List Claim) (found : Option Line) (claim : Claim) → IsJudgedText case claims found (Claims claim)
      → (line : Line) × (found ≡ Some line) × MayClaim case claims line claim
  claimed claims None claim wrong = absurd (cc)
  claimed claims (Some line) claim may = (line, refl, may)

  may_end : (claims : List Claim) (found : Option Line) → IsJudgedText case claims found Ends → (line : Line) × (found ≡ Some line) × MayEnd case claims line
  may_end claims None wrong = absurd (cc)
  may_end claims (Some line) may = (line, refl, may)

  rests_of : (parts : List (List ℕ)) (number : ℕ) (claims : List Claim) → AllFrom claims → Verdict case claims number parts None → Rests claims parts
  rests_of [] number claims all wrong = absurd (cc)
  rests_of (part ∷ []) number claims all wrong = absurd (cc)
  rests_of (part ∷ next ∷ rest) number claims all (inl (inl (claim, judged, after))) =
      let (line, reads, may) = claimed claims (line_of part) claim judged in
      preceded claims part (next ∷ rest) line claim reads may
      (rests_of (next ∷ rest) (number + 1) (claims ++ claim ∷ []) (all_more claims all claim (claim_from claims all line claim may)) after)
  rests_of (part ∷ next ∷ rest) number claims all (inl (inr (judged, is))) =
      let (line, reads, may) = may_end claims (line_of part) judged in
      ended claims all part (next ∷ rest) line reads (no_more number next rest is) may
  rests_of (part ∷ next ∷ rest) number claims all (inr (judged, wrong)) = absurd (cc)

  pub held : (bytes : List ℕ) → Decides case bytes None → HoldsDerivations case bytes
  held bytes decides =
      let rests = rests_of _ 1 [] (λ claim inside. absurd (Contains-nil claim inside)) decides in
      let (found, equal, fits, heads_linked) = rests.ends in
      let among : (claim : Claim) → IsAmong found equal claim → IsFrom case.expanded case.rules case.set claim =
      among_from rests.more rests.derived rests.facts rests.links found equal fits.stated fits.named in record {
        lines = rests.lines;
        claims = rests.more;
        facts = rests.facts;
        links = rests.links;
        chosen = found;
        equalities = equal;
        are_lines = (rests.before, rests.are_parts, rests.read);
        are_claims = record { as_many = rests.as_many; each = rests.each };
        derived = rests.derived;
        matches = fits;
        linked = heads_linked;
        heads = zip_weaker (Linked (IsAmong found equal)) (AreDerivedAsOne case.expanded case.rules case.set) case.targets _
            (λ term other _ linked. one_from case.expanded case.rules case.set among term other linked) heads_linked;
      }
    where
      among_from : (claims : List Claim) → AllFrom claims → (facts links : List ℕ) (found : List (Fact Term)) (equal : List Equality)
          → facts_at claims facts ≡ Some found → equalities_at claims links ≡ Some equal → (claim : Claim) → IsAmong found equal claim
          → IsFrom case.expanded case.rules case.set claim
      among_from claims all facts links found equal stated are_named (Stated fact) inside = all (Stated fact) (stated_in claims facts found stated fact inside)
      among_from claims all facts links found equal stated are_named (Same left right) inside =
          all (Same left right) (equal_in claims links equal are_named (record { left = left; right = right }) inside)
