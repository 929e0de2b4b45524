-- How matches in what lines claim are found.
use Rattle.std.specs.Prelude.{◌≡◌, ℕ, List, Option, Some, None}
use Rattle.std.specs.List.{AllZip}
use Rattle.esto_term.specs.declared.term.Term.{Term}
use Rattle.esto_semantics.specs.Facts.{terms_of}
use Rattle.esto_semantics.specs.declared.fact.Fact.{Fact}
use Rattle.esto_chase_laws.specs.WorldMatches.{IsLike, Fits}
use Rattle.esto_chase_laws.specs.declared.entry.Claim.{Claim}
use Rattle.esto_cert.specs.Certificates.{Matches}
use Rattle.esto_cert.specs.Linking.{IsAmong, Tells}
use Rattle.esto_cert.specs.declared.linking.Equality.{Equality}
use Rattle.esto_cert.specs.declared.matching.Found.{Found}

-- The facts are like the atoms, and each of their terms is one with what the body's term at its place meets first.
abbrev pub FactsFit : (Term → Term → Type 0) → List (Fact Term) → List (Fact Term) → List Term → List Term → Type 0
FactsFit One body chosen from to = AllZip IsLike body chosen × Fits One from to

-- The match is that of the body by what the claims of the numbers state, and its renamings tell which terms are linked; or there is none.
abbrev pub IsFound : List Claim → List (Fact Term) → List ℕ → List ℕ → Option Found → Type 0
IsFound claims body facts links None = (chosen : List (Fact Term)) (equalities : List Equality) → ¬ (Matches claims body facts links chosen equalities)
IsFound claims body facts links (Some found) =
    (equalities : List Equality) × Matches claims body facts links found.chosen equalities
    × Tells found.renamings (IsAmong found.chosen equalities) × (found.from ≡ terms_of body) × (found.to ≡ terms_of found.chosen)
