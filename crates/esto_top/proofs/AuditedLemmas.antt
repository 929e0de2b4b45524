-- Where `audit` has a reply, and what `answer` prints then.
use Rattle.std.proofs.Common.{◌≡◌, ◌<◌, ℕ, List, [], ◌∷◌, length, Some, None, sym, ◌∙◌, arith}
use Rattle.esto_mapping.specs.Catalogues.{AreSame}
use Rattle.esto_course.specs.Course.{judges, and_then}
use Rattle.esto_fill.specs.Laws.{AnswersRestOnDatasets}
use Rattle.esto_fill.specs.Texts.{HaveTextsOnly}
use Rattle.esto_fill.proofs.TextLemmas.{texts_same}
use Rattle.esto_query.specs.declared.query.Query.{Query}
use Rattle.esto_semantics.specs.declared.fact.Fact.{Fact}
use Rattle.esto_term.specs.declared.term.Term.{Term}
use Rattle.esto_query.specs.Same.{AreSameQueries}
use Rattle.esto_status.specs.Calm.{Leads}
use Rattle.esto_opening.specs.Opening.{opens_union}
use Rattle.esto_opening.specs.Unions.{UnionsOfOneAreQueries}
use Rattle.esto_run.specs.Texts.{union_rows_text}
use Rattle.esto_status.specs.declared.reply.Reply.TheVariants.{Done}
use Rattle.esto_status.proofs.LeadLemmas.{then-leads, leads-more, agreed_leads}
use Rattle.esto_data.specs.Answer.{IsAnswerOfFacts, IsUnionAnswerOfFacts}
use Rattle.esto_top.specs.Answer.{answer_course}
use Rattle.esto_data.specs.Datasets.{IsAny, loads}
use Rattle.esto_data.specs.Exact.{PrintsRows}
use Rattle.esto_top.specs.DataLaws.{DataCommandLaws, RepliesAreAudited}
use Rattle.esto_data.proofs.AlikeLemmas.{fragments_long}
use Rattle.esto_data.proofs.FragmentLemmas.{each_opened, opened_within}
use Rattle.esto_data.proofs.MovedLemmas.{over_this}
use Rattle.esto_data.proofs.UnionLemmas.{one_union}
use Rattle.esto_data.proofs.AuditedLemmas.{readable_goes, union_leads}

pub replies_audited : DataCommandLaws → UnionsOfOneAreQueries → AnswersRestOnDatasets → RepliesAreAudited
unfolding and_then judges
replies_audited laws one rest files catalogue_name catalogue reply
    (other, opens, (facts, loaded, (value, texts, (contents, opened, (given, agree, done))))) here =
    let alike : AreSame catalogue other = (laws.catalogues files catalogue_name).one catalogue other here opens in record {
      facts = facts;
      contents = contents;
      agree = over_this files catalogue other alike laws.below.fault laws.below.rows laws.below.file facts contents None agree;
      readable = λ number bytes is.
          let goes = readable_goes files catalogue number bytes is in
          let within : number < length other.fragments =
          omega (arith, opened_within (Some files) catalogue number bytes goes, fragments_long catalogue other alike) in
          (laws.below.fragment files catalogue other number alike).one bytes (contents number) goes
          (each_opened (Some files) other contents opened number within);
      unions = union_answers alike facts loaded;
      answers = λ query_name query reads query_texts.
          leads-more _ _ _ (λ _. ⊥) (λ said (text, is, (rows, are, printed)). (
            text,
            is,
            (rows, texts_same (IsUnionAnswerOfFacts (query ∷ []) facts) (IsAnswerOfFacts query facts) (one_union query facts) rows are, printed),
          ))
          (union_answers alike facts loaded query_name (query ∷ []) ((one (Some files) query_name catalogue query).1 reads)
          (λ values holds. query_texts values ((one_union query facts values).0 holds)));
    }
  where
    union_answers : AreSame catalogue other → (facts : List (Fact Term)) → (loads (Some files) other.datasets IsAny).goes facts → (query_name : List ℕ)
        (queries : List Query) → (opens_union (Some files) query_name catalogue).goes queries → HaveTextsOnly (IsUnionAnswerOfFacts queries facts)
        → Leads (answer_course (Some files) catalogue_name query_name)
        (λ reply. (text : List ℕ) × (reply ≡ Done text) × PrintsRows (IsUnionAnswerOfFacts queries facts) (union_rows_text queries) text) (λ _. ⊥)
    union_answers alike facts loaded query_name queries reads texts =
        then-leads _ _ (AreSame catalogue) _ _ (agreed_leads AreSame _ _ catalogue _ (laws.catalogues files catalogue_name) here)
        (λ third third_alike. then-leads _ _ (AreSameQueries queries) _ _
        (agreed_leads AreSameQueries _ _ queries _ (laws.unions files query_name catalogue third third_alike) reads)
        (λ others same. union_leads laws.below rest files other.datasets facts loaded queries others same texts third
        (sym alike.datasets ∙ third_alike.datasets)))
