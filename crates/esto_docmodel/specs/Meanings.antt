-- The two meanings of a pattern over trees, and the rules that the facts of trees meet.
use Rattle.std.specs.Prelude.{◌≡◌, ◌↔◌, ℕ, ◌<◌, List, Contains}
use Rattle.esto_term.specs.declared.term.Term.{Term}
use Rattle.esto_term.specs.declared.term.Term.TheVariants.{Const, Plain}
use Rattle.esto_semantics.specs.declared.fact.Fact.{Fact}
use Rattle.esto_semantics.specs.Maps.{Keeps, Sends}
use Rattle.esto_docmodel.specs.DocumentFacts.{root, below, flat}
use Rattle.esto_docmodel.specs.Encodings.{facts_of, atoms_of}
use Rattle.esto_docmodel.specs.Forests.{Forest, Node, IsDocument}
use Rattle.esto_docmodel.specs.Patterns.{Entries, Matches, Mentions, AreBelow}

-- By the pattern's own meaning, it is matched in one of the documents under the map.
abbrev pub IsOwnMatch : Forest → Entries → (Term → Term) → Type 0
IsOwnMatch forest entries m = (found : Node) × IsDocument forest found × Matches m entries found

-- Two maps agree on the terms that the pattern has after `:`.
abbrev pub AgreeAfter : Entries → (Term → Term) → (Term → Term) → Type 0
AgreeAfter entries m other = (term : Term) → Mentions entries term → m term ≡ other term

-- By the encoding, some match of the pattern's atoms in the documents' facts is the map on the terms after `:`.
abbrev pub IsEncodedMatch : ℕ → ℕ → Forest → Entries → ℕ → ℕ → (Term → Term) → Type 0
IsEncodedMatch base first forest entries r next m =
    (other : Term → Term) × Keeps Const other × Sends other (atoms_of base entries r next) (facts_of base first forest) × AgreeAfter entries m other

-- The number r and those from `next` on are none of the pattern's variables, and r is below `next`.
pub record AreFresh (entries : Entries) (r next : ℕ) : Type 0 where
  pub root_below : r < next
  pub root_apart : Mentions entries (Plain r) → ⊥
  pub below : AreBelow next entries

-- A map that keeps constants is a match of the encoding exactly where it is one by the pattern's own meaning.
abbrev pub MeansTheSame : ℕ → ℕ → Forest → Entries → ℕ → ℕ → Type 0
MeansTheSame base first forest entries r next =
    (m : Term → Term) → Keeps Const m → IsEncodedMatch base first forest entries r next m ↔ IsOwnMatch forest entries m

-- No node that stands below another is a document.
abbrev pub HaveRootsOnTop : ℕ → List (Fact Term) → Type 0
HaveRootsOnTop base facts = (ancestor node : Term) → Contains facts (flat base (root node)) → Contains facts (flat base (below ancestor node)) → ⊥
