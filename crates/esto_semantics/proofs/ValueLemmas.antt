-- Values: equal texts are of the same bytes, and a text is no unnamed value.
use Rattle.std.proofs.Common.{◌≡◌, ℕ, List, map}
use Rattle.esto_term.proofs.ListLemmas.{map_one}
use Rattle.esto_semantics.specs.declared.fact.Value.TheVariants.{Text, Node}

pub Text-same : (text other : List ℕ) → Text text ≡ Text other → text ≡ other
Text-same text other same = cc

pub Text-apart-Node : (text : List ℕ) (node : ℕ) → Text text ≡ Node node → ⊥
Text-apart-Node text node same = cc

-- rows of texts are the same where their values are
pub same_texts : (row other : List (List ℕ)) → map Text row ≡ map Text other → row ≡ other
same_texts = map_one Text Text-same
