-- What `fill`, `answer` and `audit` answer where the files say a catalogue.
use Rattle.std.proofs.Common.{ℕ, List, [], ◌∷◌, Some}
use Rattle.esto_mapping.specs.Catalogues.{AreSame, CataloguesAreSound}
use Rattle.esto_mapping.specs.declared.catalogue.Catalogue.{Catalogue}
use Rattle.esto_course.specs.Course.{judges}
use Rattle.esto_ports.specs.Files.{Files}
use Rattle.esto_query.specs.declared.query.Query.{Query}
use Rattle.esto_query.specs.Same.{AreSameQueries}
use Rattle.esto_status.specs.Calm.{Leads, SaysAlways}
use Rattle.esto_status.specs.Fetch.{fetches}
use Rattle.esto_opening.specs.Opening.{FilesSayCatalogue, FilesSayQuery, FilesSayUnion, opens_catalogue, opens_query, opens_union, reads_catalogue, reads_query}
use Rattle.esto_opening.specs.Unions.{SaidUnionsOpen, UnionsOfOneAreQueries}
use Rattle.esto_status.specs.declared.limits.TheConstants.{CATALOGUE_LIMIT, QUERY_LIMIT}
use Rattle.esto_status.specs.declared.status.Status.{Status}
use Rattle.esto_status.proofs.LeadLemmas.{then-leads, agreed_leads}
use Rattle.esto_course.proofs.Steps.{then_goes}
use Rattle.esto_top.specs.Answer.{answer_course}
use Rattle.esto_top.specs.Audit.{audit_course}
use Rattle.esto_data.specs.Exact.{IsExactAnswer, IsExactAudit, IsExactFill, IsExactUnionAnswer}
use Rattle.esto_top.specs.Fill.{fill_course}
use Rattle.esto_top.specs.DataLaws.{DataCommandLaws}
use Rattle.esto_data.proofs.MovedLemmas.{answer_moved, audit_moved, fill_moved}
use Rattle.esto_data.proofs.ExactLemmas.{audit_says, one_exact, says-more, fill_says, answer_says}

-- ---- the catalogue and the query that the files say

module _ (files : Files) where
  pub said_opens : (name : List ℕ) (catalogue : Catalogue) → FilesSayCatalogue files name catalogue → (opens_catalogue (Some files) name).goes catalogue
  unfolding fetches judges
  said_opens name catalogue say = then_goes (fetches (Some files) name CATALOGUE_LIMIT) reads_catalogue say.bytes catalogue say.has say.is_catalogue

  said_query_opens : (name : List ℕ) (catalogue : Catalogue) (query : Query) → FilesSayQuery files name catalogue query
      → (opens_query (Some files) name catalogue).goes query
  unfolding fetches judges
  said_query_opens name catalogue query say = then_goes (fetches (Some files) name QUERY_LIMIT) (reads_query catalogue) say.bytes query say.has
      (say.named, say.is_query, say.query_is)

-- ---- the commands

module _ (laws : DataCommandLaws) (sound : CataloguesAreSound) (files : Files) (catalogue_name : List ℕ) (catalogue : Catalogue)
    (say : FilesSayCatalogue files catalogue_name catalogue) where
  -- the catalogue that is opened says the same
  opened-leads : (Refusal : Status → Type 0) → Leads (opens_catalogue (Some files) catalogue_name) (AreSame catalogue) Refusal
  opened-leads Refusal = agreed_leads AreSame _ _ catalogue Refusal (laws.catalogues files catalogue_name) (said_opens files catalogue_name catalogue say)

  pub fills_exact : (name : List ℕ) → SaysAlways (fill_course (Some files) catalogue_name name) (IsExactFill files catalogue name)
  fills_exact name = then-leads _ _ (AreSame catalogue) _ _ (opened-leads _) (λ other alike.
      says-more _ (IsExactFill files other name) (IsExactFill files catalogue name)
      (fill_moved files catalogue other alike laws.below.fault laws.below.rows name) (fill_says laws.below files other name))

  -- the union that is opened is answered
  union_exact : (query_name : List ℕ) (queries : List Query) → (opens_union (Some files) query_name catalogue).goes queries
      → SaysAlways (answer_course (Some files) catalogue_name query_name) (IsExactUnionAnswer files catalogue queries)
  union_exact query_name queries opens = then-leads _ _ (AreSame catalogue) _ _ (opened-leads _) (λ other alike.
      then-leads _ _ (AreSameQueries queries) _ _
      (agreed_leads AreSameQueries _ _ queries _ (laws.unions files query_name catalogue other alike) opens)
      (λ others same. says-more _ (IsExactUnionAnswer files other others) (IsExactUnionAnswer files catalogue queries)
      (answer_moved files catalogue other alike queries others same) (answer_says laws.below files other others)))

  pub unions_exact : SaidUnionsOpen → (query_name : List ℕ) (queries : List Query) → FilesSayUnion files query_name catalogue queries
      → SaysAlways (answer_course (Some files) catalogue_name query_name) (IsExactUnionAnswer files catalogue queries)
  unions_exact said query_name queries say_union = union_exact query_name queries (said files query_name catalogue queries say_union)

  pub answers_exact : UnionsOfOneAreQueries → (query_name : List ℕ) (query : Query) → FilesSayQuery files query_name catalogue query
      → SaysAlways (answer_course (Some files) catalogue_name query_name) (IsExactAnswer files catalogue query)
  answers_exact one query_name query say_query = says-more _ (IsExactUnionAnswer files catalogue (query ∷ [])) (IsExactAnswer files catalogue query)
      (one_exact files catalogue query)
      (union_exact query_name (query ∷ []) ((one (Some files) query_name catalogue query).1 (said_query_opens files query_name catalogue query say_query)))

  pub audits_exact : SaysAlways (audit_course (Some files) catalogue_name) (IsExactAudit files catalogue)
  audits_exact = then-leads _ _ (AreSame catalogue) _ _ (opened-leads _) (λ other alike.
      says-more _ (IsExactAudit files other) (IsExactAudit files catalogue)
      (audit_moved files catalogue other alike laws.below.fault laws.below.rows laws.below.file) (audit_says laws.below files other (sound other).stored))
