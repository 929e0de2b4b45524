-- Where courses over files that say catalogues and queries lead, and that they are one.
use Rattle.std.proofs.Common.{◌≡◌, ℕ, List, Some, ap, subst}
use Rattle.esto_mapping.specs.Catalogues.{AreSame}
use Rattle.esto_mapping.specs.declared.catalogue.Catalogue.{Catalogue}
use Rattle.esto_constraint.specs.Constraints.{rules_of}
use Rattle.esto_course.specs.Course.{Course, gives, and_then}
use Rattle.esto_course.proofs.Determined.{then_agree, gives_agree}
use Rattle.esto_opening.specs.Alike.{CataloguesOpenAlike, QueriesOpenAlike}
use Rattle.esto_query.specs.Same.{IsSameQuery}
use Rattle.esto_status.specs.Calm.{IsOne, Leads, SaysAlways}
use Rattle.esto_status.specs.Line.{line_of}
use Rattle.esto_opening.specs.Opening.{opens_catalogue, opens_query}
use Rattle.esto_status.specs.declared.reply.Reply.TheVariants.{Done}
use Rattle.esto_status.specs.declared.status.Status.{Status}
use Rattle.esto_status.specs.declared.status.Status.TheVariants as status
use Rattle.esto_status.proofs.LeadLemmas.{then-leads, leads-more, gives-leads, agreed_leads}
use Rattle.esto_ports.specs.Files.{Files}
use Rattle.esto_query.specs.Making.{query_of}
use Rattle.esto_query.specs.Schemas.{names_of}
use Rattle.esto_query.specs.declared.query.Name.{Name}
use Rattle.esto_query.specs.declared.query.Query.{Query}
use Rattle.esto_semantics.specs.Queries.{ConjunctiveQuery}
use Rattle.esto_semantics.specs.Rules.{Rule}
use Rattle.esto_run.proofs.SameLemmas.{same_query}
use Rattle.esto_reasoning.specs.Contains.{compares}
use Rattle.esto_top.specs.Contains.{contains_course}
use Rattle.esto_reasoning.specs.Laws.{ComparedAlike, MinimisedAlike}
use Rattle.esto_reasoning.specs.Minimise.{minimises}
use Rattle.esto_top.specs.Minimise.{minimise_course}
use Rattle.esto_reasoning.proofs.AlikeLemmas.{compares_by, minimises_by}

-- a text that is the reply
replies_say : (course : Course Status (List ℕ)) (Fact : Status → List ℕ → Type 0) → Leads course (Fact status.Done) (λ said. Fact said (line_of said))
    → SaysAlways (and_then course (λ text. gives (Done text))) Fact
replies_say course Fact leads =
    then-leads _ _ (Fact status.Done) _ _ leads (λ text fact. leads-more _ _ _ _ (λ reply is. (text, is, fact)) (gives-leads (Done text) _))

-- ---- over catalogues that say the same

module _ (Fact : List ℕ → Type 0) (Refusal : Status → Type 0) (catalogue other : Catalogue) (alike : AreSame catalogue other) where
  compared_leads : (left other_left right other_right : Query) → IsSameQuery left other_left → IsSameQuery right other_right
      → Leads (compares catalogue left right) Fact Refusal → Leads (compares other other_left other_right) Fact Refusal
  compared_leads left other_left right other_right lefts rights leads =
      subst (λ (it : ConjunctiveQuery). Leads (compares_by (rules_of other.rules) (names_of other.schema) other_left.names (query_of other_left) it)
      Fact Refusal) (same_query right other_right rights)
      (subst (λ (it : ConjunctiveQuery). Leads (compares_by (rules_of other.rules) (names_of other.schema) other_left.names it (query_of right))
      Fact Refusal) (same_query left other_left lefts)
      (subst (λ (it : List Name). Leads (compares_by (rules_of other.rules) (names_of other.schema) it (query_of left) (query_of right)) Fact Refusal)
      lefts.names
      (subst (λ it. Leads (compares_by (rules_of other.rules) (names_of it) left.names (query_of left) (query_of right)) Fact Refusal) alike.schema
      (subst (λ (it : List Rule). Leads (compares_by it (names_of catalogue.schema) left.names (query_of left) (query_of right)) Fact Refusal)
      alike.rules leads))))

  minimised_leads : (query other_query : Query) → IsSameQuery query other_query → Leads (minimises catalogue query) Fact Refusal
      → Leads (minimises other other_query) Fact Refusal
  minimised_leads query other_query same leads =
      subst (λ (it : ConjunctiveQuery). Leads (minimises_by (rules_of other.rules) (names_of other.schema) other_query.names it) Fact Refusal)
      (same_query query other_query same)
      (subst (λ (it : List Name). Leads (minimises_by (rules_of other.rules) (names_of other.schema) it (query_of query)) Fact Refusal) same.names
      (subst (λ it. Leads (minimises_by (rules_of other.rules) (names_of it) query.names (query_of query)) Fact Refusal) alike.schema
      (subst (λ (it : List Rule). Leads (minimises_by it (names_of catalogue.schema) query.names (query_of query)) Fact Refusal) alike.rules leads)))

-- ---- the commands

module _ (catalogues : CataloguesOpenAlike) (queries : QueriesOpenAlike) (files : Files) (catalogue_name : List ℕ) where
  pub contains_one : ComparedAlike → (left_name right_name : List ℕ) → IsOne (contains_course (Some files) catalogue_name left_name right_name)
  contains_one compared left_name right_name =
      then_agree _ AreSame ◌≡◌ _ _ _ _ (catalogues files catalogue_name) (λ catalogue other goes alike.
      then_agree _ IsSameQuery ◌≡◌ _ _ _ _ (queries files left_name catalogue other alike) (λ left other_left goes1 lefts.
      then_agree _ IsSameQuery ◌≡◌ _ _ _ _ (queries files right_name catalogue other alike) (λ right other_right goes2 rights.
      then_agree _ ◌≡◌ ◌≡◌ _ _ _ _
      (compared catalogue other left other_left right other_right alike (same_query left other_left lefts) lefts.names
      (same_query right other_right rights))
      (λ text other_text goes3 texts. gives_agree _ (Done text) (Done other_text) (ap Done texts)))))

  pub minimise_one : MinimisedAlike → (query_name : List ℕ) → IsOne (minimise_course (Some files) catalogue_name query_name)
  minimise_one minimised query_name =
      then_agree _ AreSame ◌≡◌ _ _ _ _ (catalogues files catalogue_name) (λ catalogue other goes alike.
      then_agree _ IsSameQuery ◌≡◌ _ _ _ _ (queries files query_name catalogue other alike) (λ query other_query goes1 same.
      then_agree _ ◌≡◌ ◌≡◌ _ _ _ _ (minimised catalogue other query other_query alike (same_query query other_query same) same.names)
      (λ text other_text goes2 texts. gives_agree _ (Done text) (Done other_text) (ap Done texts))))

  module _ (catalogue : Catalogue) (opens : (opens_catalogue (Some files) catalogue_name).goes catalogue) where
    read_leads : (other : Catalogue) → AreSame catalogue other → (name : List ℕ) (query : Query) → (opens_query (Some files) name catalogue).goes query
        → (Refusal : Status → Type 0) → Leads (opens_query (Some files) name other) (IsSameQuery query) Refusal
    read_leads other alike name query goes Refusal = agreed_leads IsSameQuery _ _ query Refusal (queries files name catalogue other alike) goes

    pub contains_says : (Fact : Status → List ℕ → Type 0) (left_name right_name : List ℕ) (left right : Query)
        → (opens_query (Some files) left_name catalogue).goes left → (opens_query (Some files) right_name catalogue).goes right
        → Leads (compares catalogue left right) (Fact status.Done) (λ said. Fact said (line_of said))
        → SaysAlways (contains_course (Some files) catalogue_name left_name right_name) Fact
    contains_says Fact left_name right_name left right left_opens right_opens leads =
        then-leads _ _ (AreSame catalogue) _ _ (agreed_leads AreSame _ _ catalogue _ (catalogues files catalogue_name) opens) (λ other alike.
        then-leads _ _ (IsSameQuery left) _ _ (read_leads other alike left_name left left_opens _) (λ other_left lefts.
        then-leads _ _ (IsSameQuery right) _ _ (read_leads other alike right_name right right_opens _) (λ other_right rights.
        replies_say (compares other other_left other_right) Fact
        (compared_leads (Fact status.Done) (λ said. Fact said (line_of said)) catalogue other alike left other_left right other_right lefts rights leads))))

    pub minimise_says : (Fact : Status → List ℕ → Type 0) (query_name : List ℕ) (query : Query)
        → (opens_query (Some files) query_name catalogue).goes query
        → Leads (minimises catalogue query) (Fact status.Done) (λ said. Fact said (line_of said))
        → SaysAlways (minimise_course (Some files) catalogue_name query_name) Fact
    minimise_says Fact query_name query query_opens leads =
        then-leads _ _ (AreSame catalogue) _ _ (agreed_leads AreSame _ _ catalogue _ (catalogues files catalogue_name) opens) (λ other alike.
        then-leads _ _ (IsSameQuery query) _ _ (read_leads other alike query_name query query_opens _) (λ other_query same.
        replies_say (minimises other other_query) Fact
        (minimised_leads (Fact status.Done) (λ said. Fact said (line_of said)) catalogue other alike query other_query same leads)))
