-- Queries and catalogues that say the same.
use Rattle.std.proofs.Common.{◌≡◌, refl}
use Rattle.esto_mapping.specs.Catalogues.{AreSame}
use Rattle.esto_mapping.specs.declared.catalogue.Catalogue.{Catalogue}
use Rattle.esto_query.specs.Making.{query_of}
use Rattle.esto_query.specs.Same.{IsSameQuery}
use Rattle.esto_query.specs.declared.query.Query.{Query}

-- queries that say the same have one meaning
pub same_query : (query other : Query) → IsSameQuery query other → query_of query ≡ query_of other
same_query query other same = λ i. record { head = same.head i; body = same.body i }

-- a catalogue says the same as itself
pub itself : (catalogue : Catalogue) → AreSame catalogue catalogue
itself catalogue = record {
  schema = refl;
  words = refl;
  datasets = refl;
  names = refl;
  views = refl;
  patterns = refl;
  weights = refl;
  stores = refl;
  rules = refl;
  rule_names = refl;
  given = refl;
  ranks = refl;
  core = refl;
}
