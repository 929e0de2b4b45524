-- Where `audit` and `run` are Done over the same files, `answer` is Done with the text of `run`.
use Rattle.std.proofs.Common.{◌≡◌, ℕ, List, [], ◌∷◌, map, slice_get, Contains, Some, refl, sym, ap, subst, ◌∙◌}
use Rattle.std.proofs.lemmas.Option.{none-some, same_Some}
use Rattle.esto_mapping.specs.declared.catalogue.Catalogue.{Catalogue}
use Rattle.esto_data.specs.Answer.{IsAnswerOfFacts, IsUnionAnswerOfFacts}
use Rattle.esto_top.specs.Answer.{answer_course}
use Rattle.esto_top.specs.Audit.{audit_course}
use Rattle.esto_data.specs.Exact.{PrintsAnswersOfFacts, PrintsRows}
use Rattle.esto_top.specs.DataLaws.{AreAudited, AuditsRefuse, RepliesAreAudited}
use Rattle.esto_rewriting.specs.RunExact.{PrintsUnionAnswers}
use Rattle.esto_fill.specs.Databases.{database_of}
use Rattle.esto_fill.specs.Texts.{AreTextsOf}
use Rattle.esto_status.specs.Calm.{Leads}
use Rattle.esto_run.specs.Fragments.{IsReadableFragment}
use Rattle.esto_opening.specs.Opening.{FilesSayCatalogue}
use Rattle.esto_status.specs.Replies.{reply_status, reply_text}
use Rattle.esto_run.specs.Texts.{union_rows_text}
use Rattle.esto_status.specs.declared.reply.Reply.TheVariants.{Done}
use Rattle.esto_status.specs.declared.status.Status.{Status}
use Rattle.esto_status.specs.declared.status.Status.TheVariants as status
use Rattle.esto_ports.specs.Files.{Files}
use Rattle.esto_query.specs.declared.query.Query.{Query}
use Rattle.esto_run.specs.Answers.{IsAnswersText, rows_text}
use Rattle.esto_run.specs.Laws.{FilesHoldViewRows, RisingRowsAreOne}
use Rattle.esto_docs.specs.Stores.{IsRowIn}
use Rattle.esto_semantics.specs.Facts.{Database}
use Rattle.esto_semantics.specs.Listed.{candidate}
use Rattle.esto_semantics.specs.Queries.{ConjunctiveQuery}
use Rattle.esto_semantics.specs.declared.fact.Fact.{Fact}
use Rattle.esto_semantics.specs.declared.fact.Value.{Value}
use Rattle.esto_semantics.specs.declared.fact.Value.TheVariants.{Text}
use Rattle.esto_semantics.proofs.ValueLemmas.{same_texts}
use Rattle.esto_stores.specs.Rows.{Row}
use Rattle.esto_term.specs.declared.term.Term.{Term}
use Rattle.esto_views.specs.Fragments.{views_of}
use Rattle.esto_views.specs.Plans.{plan_query}
use Rattle.esto_top.specs.DataOutcomes.{OutcomesAgree}
use Rattle.esto_top.specs.Outcome.{Says}
use Rattle.esto_top.specs.Outcome.Says.{replies, refuses}
use Rattle.esto_top.specs.Runs.{OutcomesAreRuns, PrintsAnswers}
use Rattle.esto_top.specs.Unions.{OutcomesAreUnionRuns, UnionOutcomesAgree}
use Rattle.esto_top.proofs.SayLemmas.{catalogue_opens, query_opens, union_opens}

-- ---- the rows

-- rows of texts have one text
module _ (rising : RisingRowsAreOne) (query : Query) (Rows : List Value → Type 0) where
  held : (rows : List Row) → AreTextsOf Rows rows → (row : Row) → Rows (map Text row) → Contains rows row
  held rows are row holds =
      let (other, inside, same) = (are.exact (map Text row)).0 holds in subst (Contains rows) (sym (same_texts row other same)) inside

  one_text : (rows : List Row) → AreTextsOf Rows rows → (text : List ℕ) → IsAnswersText query (λ row. Rows (map Text row)) text
      → rows_text query rows ≡ text
  one_text rows are text is =
      let same : rows ≡ is.rows = rising rows is.rows are.rising is.rising (λ row. (
        (λ inside. (is.exact row).1 ((are.exact (map Text row)).1 (row, inside, refl))),
        (λ inside. held rows are row ((is.exact row).0 inside)),
      )) in
      ap (rows_text query) same ∙ sym is.printed

-- a union has its text under the names of its first query's head
under_first : (queries : List Query) (first : Query) → slice_get queries 0 ≡ Some first → (rows : List Row)
    → union_rows_text queries rows ≡ rows_text first rows
under_first [] first at rows = absurd (none-some first at)
under_first (query ∷ queries) first at rows = ap (λ (it : Query). rows_text it rows) (same_Some query first at)

-- ---- the outcome

-- the laws of agreement
pub record AgreementLaws : Type 0 where
  pub audited : RepliesAreAudited
  pub refusals : AuditsRefuse
  pub rising : RisingRowsAreOne

module _ (files : Files) (catalogue_name query_name : List ℕ) (catalogue : Catalogue) (audited : AreAudited files catalogue_name catalogue) where
  abbrev database : Database
  database = database_of audited.facts

  -- readable files hold the view rows
  hold_rows : (other : ConjunctiveQuery) (contents : ℕ → List ℕ)
      → ((atom : Fact Term) → Contains other.body atom → IsReadableFragment files catalogue atom.relation (contents atom.relation))
      → FilesHoldViewRows (views_of catalogue.fragments) database other catalogue.stores contents
  hold_rows other contents readable fact atom inside is =
      let rows = audited.agree.rows fact in (
        (λ view. let (row, (store, there, has), same) = rows.0 view in
            (row, (store, there, subst (λ (it : List ℕ). IsRowIn store.shape it row) (sym one) has), same)),
        (λ (row, (store, there, has), same). rows.1 (row, (store, there, subst (λ (it : List ℕ). IsRowIn store.shape it row) one has), same)),
      )
    where
      one : contents fact.relation ≡ audited.contents fact.relation
      one = subst (λ (it : ℕ). contents it ≡ audited.contents it) is
          (audited.readable atom.relation (contents atom.relation) (readable atom inside))

  -- what `answer` says of a course that replies with a text
  answer_says : (Prints : List ℕ → Type 0) (ran : List ℕ) → ((text : List ℕ) → Prints text → text ≡ ran)
      → Leads (answer_course (Some files) catalogue_name query_name) (λ reply. (text : List ℕ) × (reply ≡ Done text) × Prints text) (λ _. ⊥)
      → (said : Status) (answered : List ℕ) → Says (answer_course (Some files) catalogue_name query_name) ⊥ said answered
      → (said ≡ status.Done) × (answered ≡ ran)
  answer_says Prints ran one leads said answered (replies reply goes said_is text_is) =
      let (text, is, prints) = leads.goes reply goes in (said_is ∙ ap reply_status is, text_is ∙ ap reply_text is ∙ one text prints)
  answer_says Prints ran one leads said answered (refuses caused stops line_is) = absurd (leads.stops said caused stops)

module _ (laws : AgreementLaws) (files : Files) (catalogue_name : List ℕ) (catalogue : Catalogue)
    (say : FilesSayCatalogue files catalogue_name catalogue) where
  -- an audit that is Done has a reply
  is_audited : (text : List ℕ) → Says (audit_course (Some files) catalogue_name) ⊥ status.Done text → AreAudited files catalogue_name catalogue
  is_audited text (replies reply goes said_is text_is) =
      laws.audited files catalogue_name catalogue reply goes (catalogue_opens files catalogue_name catalogue say)
  is_audited text (refuses caused stops line_is) = absurd (laws.refusals files catalogue_name status.Done caused stops refl)

pub outcomes_agree : AgreementLaws → OutcomesAreRuns → OutcomesAgree
outcomes_agree laws are words files catalogue_name query_name number catalogue query audited_text ran answered said say audits asks runs answers =
    let audited = is_audited laws files catalogue_name catalogue say.says_catalogue audited_text audits in
    let exact = are words files catalogue_name query_name number catalogue query status.Done ran asks say runs in
    let can = exact.done refl in
    let printed : PrintsAnswers query (database_of audited.facts) ran =
    (exact.runs can).1.answers (database_of audited.facts) audited.agree.meets
    (hold_rows files catalogue_name query_name catalogue audited (candidate (plan_query can.plan) can.item.set) can.contents can.readable) in
    answer_says files catalogue_name query_name catalogue audited (PrintsAnswersOfFacts query audited.facts) ran
    (λ text (rows, texts, is). is ∙ one_text laws.rising query (IsAnswerOfFacts query audited.facts) rows texts ran printed.exact)
    (audited.answers query_name query (query_opens files query_name catalogue query say.says_query) printed.texts) said answered answers

pub union_outcomes_agree : AgreementLaws → OutcomesAreUnionRuns → UnionOutcomesAgree
union_outcomes_agree laws are words files catalogue_name query_name number catalogue queries audited_text ran answered said say audits asks runs answers =
    let audited = is_audited laws files catalogue_name catalogue say.says_catalogue audited_text audits in
    let exact = are words files catalogue_name query_name number catalogue queries status.Done ran asks say runs in
    let can = exact.done refl in
    let printed : PrintsUnionAnswers queries (database_of audited.facts) ran =
    (exact.runs can).1.answers (database_of audited.facts) audited.agree.meets
    (λ other inside. hold_rows files catalogue_name query_name catalogue audited other can.contents (can.readable other inside)) in
    answer_says files catalogue_name query_name catalogue audited
    (PrintsRows (IsUnionAnswerOfFacts queries audited.facts) (union_rows_text queries)) ran
    (λ text (rows, texts, is). is ∙ under_first queries printed.first printed.at rows
    ∙ one_text laws.rising printed.first (IsUnionAnswerOfFacts queries audited.facts) rows texts ran printed.exact)
    (audited.unions query_name queries (union_opens files query_name catalogue queries say.says_union) printed.texts) said answered answers
