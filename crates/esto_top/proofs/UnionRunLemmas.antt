-- What `run` answers to a union of two or more queries where nothing is wrong with the files.
use Rattle.std.proofs.Common.{◌<◌, ℕ, List, [], ◌∷◌, length, Option, Some, sym, subst, inl, inr, arith}
use Rattle.esto_mapping.specs.Catalogues.{AreSame}
use Rattle.esto_mapping.specs.declared.catalogue.Catalogue.{Catalogue}
use Rattle.esto_rewriting.specs.RunExact.{RunsUnionExactly, UnionRunsAreExact}
use Rattle.esto_rewriting.specs.RunLaws.{UnionRunsAreMoved}
use Rattle.esto_query.specs.Same.{AreSameQueries}
use Rattle.esto_status.specs.Calm.{Leads}
use Rattle.esto_status.specs.Line.{line_of}
use Rattle.esto_status.specs.Replies.{reply_status, reply_text}
use Rattle.esto_status.specs.declared.reply.Reply.{Reply}
use Rattle.esto_status.specs.declared.status.Status.{Status}
use Rattle.esto_status.proofs.LeadLemmas.{then-leads}
use Rattle.esto_ports.specs.Files.{Files}
use Rattle.esto_query.specs.declared.query.Query.{Query}
use Rattle.esto_top.specs.Outcome.{Says}
use Rattle.esto_top.specs.Run.{run_course, runs_queries}
use Rattle.esto_top.specs.Unions.{FilesSayQueries, OutcomesAreUnionRuns}
use Rattle.esto_top.specs.Laws.{OpeningLaws}
use Rattle.esto_top.proofs.LeadLemmas.{says-leads}
use Rattle.esto_top.proofs.RunsLemmas.{run_words}
use Rattle.esto_top.proofs.SayLemmas.{catalogue_leads, catalogue_opens, union_leads, union_opens}

-- ---- the outcome

module _ (opening : OpeningLaws) (exact : UnionRunsAreExact) (moved : UnionRunsAreMoved) (files : Files) (catalogue : Catalogue) (number : Option ℕ) where
  abbrev Replies : List Query → Reply → Type 0
  Replies queries reply = RunsUnionExactly files catalogue queries number (reply_status reply) (reply_text reply)

  abbrev Refused : List Query → Status → Type 0
  Refused queries said = RunsUnionExactly files catalogue queries number said (line_of said)

  -- two or more queries are run as a union, over each catalogue that says the same
  union_told : (queries : List Query) → 1 < length queries → (other : Catalogue) → AreSame catalogue other → (read : List Query)
      → AreSameQueries queries read
      → Leads (runs_queries (Some files) other read number) (Replies queries) (Refused queries)
  union_told [] more other alike read same = absurd (omega (arith, more))
  union_told (query ∷ []) more other alike read same = absurd (omega (arith, more))
  union_told (query ∷ next ∷ queries) more other alike [] same = absurd same
  union_told (query ∷ next ∷ queries) more other alike (one ∷ []) (first, never) = absurd never
  union_told (query ∷ next ∷ queries) more other alike (one ∷ two ∷ read) same =
      let leads = exact files catalogue (query ∷ next ∷ queries) number in
      let here = moved files catalogue other (query ∷ next ∷ queries) (one ∷ two ∷ read) number alike same in record {
        goes = λ reply goes. leads.goes reply (here.goes reply goes);
        stops = λ said caused stops. leads.stops said caused (here.stops said caused stops);
      }

  module _ (catalogue_name query_name : List ℕ) (queries : List Query) (say : FilesSayQueries files catalogue_name query_name catalogue queries) where
    run_leads : Leads (run_course (Some files) catalogue_name query_name number) (Replies queries) (Refused queries)
    run_leads =
        then-leads _ _ _ _ _
        (catalogue_leads opening files catalogue_name query_name catalogue (Refused queries)
        (catalogue_opens files catalogue_name catalogue say.says_catalogue)) (λ other alike.
        then-leads _ _ _ _ _
        (union_leads opening files catalogue_name query_name catalogue (Refused queries) queries
        (union_opens files query_name catalogue queries say.says_union) other alike)
        (union_told queries say.more other alike))

    exact_run : (said : Status) (text : List ℕ) → Says (run_course (Some files) catalogue_name query_name number) ⊥ said text
        → RunsUnionExactly files catalogue queries number said text
    exact_run said text says =
        elim (says-leads _ (Replies queries) (Refused queries) said text run_leads says) [
          | inl (reply, told, said_is, text_is) ↦
              subst (λ (it : Status). RunsUnionExactly files catalogue queries number it text) (sym said_is)
              (subst (RunsUnionExactly files catalogue queries number (reply_status reply)) (sym text_is) told)
          | inr (told, text_is) ↦ subst (RunsUnionExactly files catalogue queries number said) (sym text_is) told
        ]

pub outcomes_are_union_runs : OpeningLaws → UnionRunsAreExact → UnionRunsAreMoved → OutcomesAreUnionRuns
outcomes_are_union_runs opening exact moved words files catalogue_name query_name number catalogue queries said text asks say outcome =
    exact_run opening exact moved files catalogue number catalogue_name query_name queries say said text
    (subst (λ it. Says it ⊥ said text) (run_words words catalogue_name query_name number (Some files) asks) outcome)
