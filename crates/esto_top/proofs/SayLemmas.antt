-- What the files say is read: the catalogue up to what it means, and the same queries over it.
use Rattle.std.proofs.Common.{ℕ, List, [], ◌∷◌, Some}
use Rattle.esto_mapping.specs.Catalogues.{AreSame}
use Rattle.esto_mapping.specs.declared.catalogue.Catalogue.{Catalogue}
use Rattle.esto_course.specs.Course.{Course, judges}
use Rattle.esto_course.proofs.Steps.{then_goes}
use Rattle.esto_query.specs.Same.{AreSameQueries, IsSameQuery}
use Rattle.esto_status.specs.Calm.{AgreeCalmly, Leads}
use Rattle.esto_status.specs.Fetch.{fetches}
use Rattle.esto_opening.specs.Opening.{FilesSayCatalogue, FilesSayQuery, FilesSayUnion, opens_catalogue, opens_query, opens_union, reads_catalogue, reads_query}
use Rattle.esto_opening.specs.Opening.{reads_union}
use Rattle.esto_opening.specs.Unions.{UnionsOfOneAreQueries}
use Rattle.esto_status.specs.declared.limits.TheConstants.{CATALOGUE_LIMIT, QUERY_LIMIT}
use Rattle.esto_status.specs.declared.status.Status.{Status}
use Rattle.esto_ports.specs.Files.{Files}
use Rattle.esto_query.specs.declared.query.Query.{Query}
use Rattle.esto_top.specs.Laws.{OpeningLaws}

-- ---- what is said is opened

module _ (files : Files) (name : List ℕ) (catalogue : Catalogue) where
  pub catalogue_opens : FilesSayCatalogue files name catalogue → (opens_catalogue (Some files) name).goes catalogue
  unfolding fetches judges
  catalogue_opens say = then_goes (fetches (Some files) name CATALOGUE_LIMIT) reads_catalogue say.bytes catalogue say.has say.is_catalogue

  pub query_opens : (query : Query) → FilesSayQuery files name catalogue query → (opens_query (Some files) name catalogue).goes query
  unfolding fetches judges
  query_opens query say =
      then_goes (fetches (Some files) name QUERY_LIMIT) (reads_query catalogue) say.bytes query say.has (say.named, say.is_query, say.query_is)

  pub union_opens : (queries : List Query) → FilesSayUnion files name catalogue queries → (opens_union (Some files) name catalogue).goes queries
  unfolding fetches judges
  union_opens queries say =
      then_goes (fetches (Some files) name QUERY_LIMIT) (reads_union catalogue) say.bytes queries say.has (say.named, say.is_union, say.queries_are)

  -- a query is opened as a union of its own
  pub alone_opens : UnionsOfOneAreQueries → (query : Query) → FilesSayQuery files name catalogue query
      → (opens_union (Some files) name catalogue).goes (query ∷ [])
  alone_opens alone query say = (alone (Some files) name catalogue query).1 (query_opens query say)

-- ---- what is opened is the same

-- a course that agrees with one that goes on with the value goes on with the same
agree_leads : {A : Type 0} (Same : A → A → Type 0) (course other : Course Status A) (value : A) (Refused : Status → Type 0)
    → AgreeCalmly Same course other → course.goes value → Leads other (Same value) Refused
agree_leads Same course other value Refused agree goes = record {
  goes = λ got follows. agree.one value got goes follows;
  stops = λ refusal caused stops. absurd (agree.apart value refusal caused goes stops);
}

module _ (opening : OpeningLaws) (files : Files) (catalogue_name query_name : List ℕ) (catalogue : Catalogue) (Refused : Status → Type 0) where
  pub catalogue_leads : (opens_catalogue (Some files) catalogue_name).goes catalogue
      → Leads (opens_catalogue (Some files) catalogue_name) (AreSame catalogue) Refused
  catalogue_leads opens = agree_leads AreSame _ _ catalogue Refused (opening.catalogues files catalogue_name) opens

  pub union_leads : (queries : List Query) → (opens_union (Some files) query_name catalogue).goes queries → (other : Catalogue) → AreSame catalogue other
      → Leads (opens_union (Some files) query_name other) (AreSameQueries queries) Refused
  union_leads queries opens other alike =
      agree_leads AreSameQueries _ _ queries Refused (opening.unions files query_name catalogue other alike) opens

-- queries that are the same as one query are one that is the same
pub one_alone : (query : Query) (P : List Query → Type 0) → ((read : Query) → IsSameQuery query read → P (read ∷ [])) → (queries : List Query)
    → AreSameQueries (query ∷ []) queries → P queries
one_alone query P is [] same = absurd same
one_alone query P is (read ∷ []) (same, none) = is read same
one_alone query P is (read ∷ more ∷ rest) (same, never) = absurd never
