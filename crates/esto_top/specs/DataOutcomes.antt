-- What `fill`, `answer` and `audit` answer where nothing is wrong with the files.
use Rattle.std.specs.Prelude.{◌≡◌, ℕ, List, [], ◌∷◌, Option, Some, Result, codes}
use Rattle.esto_mapping.specs.declared.catalogue.Catalogue.{Catalogue}
use Rattle.esto_data.specs.Exact.{IsExactAnswer, IsExactAudit, IsExactFill, IsExactUnionAnswer}
use Rattle.esto_top.specs.Fill.{fill_course}
use Rattle.esto_course.specs.Course.{Names}
use Rattle.esto_status.specs.Answers.{Answers}
use Rattle.esto_status.specs.Asked.{AsksIn}
use Rattle.esto_opening.specs.Opening.{FilesSayCatalogue, FilesSayUnion}
use Rattle.esto_ports.specs.Files.{Files}
use Rattle.esto_query.specs.declared.query.Query.{Query}
use Rattle.esto_status.specs.declared.reply.Reply.{Reply}
use Rattle.esto_status.specs.declared.status.Status.{Status}
use Rattle.esto_status.specs.declared.status.Status.TheVariants as status
use Rattle.esto_top.specs.Call.{AsksAlong, Call, HoldsOfPut, WhereTold}
use Rattle.esto_top.specs.Grammar.{Request}
use Rattle.esto_top.specs.Grammar.Request.{FillFor}
use Rattle.esto_top.specs.Headline.{FilesSay}
use Rattle.esto_top.specs.Outcome.{Mediates, Outcome}
use Rattle.esto_top.specs.Runs.{AsksRun}

-- ---- outcomes

-- Each outcome of `answer C Q` is exact, where the files say a catalogue and a query over it.
abbrev pub OutcomesAreAnswers : Type 0
OutcomesAreAnswers =
    (words : List (List ℕ)) (files : Files) (catalogue_name query_name : List ℕ) (catalogue : Catalogue) (query : Query) (said : Status) (text : List ℕ)
    → words ≡ codes "answer" ∷ catalogue_name ∷ query_name ∷ [] → FilesSay files catalogue_name query_name catalogue query → Outcome words files said text
    → IsExactAnswer files catalogue query said text

-- Each outcome of `answer C Q` is exact, where the files say a catalogue and a union of queries over it, of any length.
abbrev pub OutcomesAreUnionAnswers : Type 0
OutcomesAreUnionAnswers =
    (words : List (List ℕ)) (files : Files) (catalogue_name query_name : List ℕ) (catalogue : Catalogue) (queries : List Query) (said : Status)
    (text : List ℕ) → words ≡ codes "answer" ∷ catalogue_name ∷ query_name ∷ [] → FilesSayCatalogue files catalogue_name catalogue
    → FilesSayUnion files query_name catalogue queries → Outcome words files said text → IsExactUnionAnswer files catalogue queries said text

-- Each outcome of `audit C` is exact, where the files say a catalogue.
abbrev pub OutcomesAreAudits : Type 0
OutcomesAreAudits =
    (words : List (List ℕ)) (files : Files) (name : List ℕ) (catalogue : Catalogue) (said : Status) (text : List ℕ)
    → words ≡ codes "audit" ∷ name ∷ [] → FilesSayCatalogue files name catalogue → Outcome words files said text
    → IsExactAudit files catalogue said text

-- ---- what the top call says

-- What `answer C Q` puts is exact, or memory was refused and nothing put, where the files are told and say a catalogue and a query over it, and neither count
-- rose.
abbrev pub AnswersWhereTold : Call → Type 0
AnswersWhereTold call = WhereTold call (λ files.
    (catalogue_name query_name : List ℕ) (catalogue : Catalogue) (query : Query)
    → call.words ≡ codes "answer" ∷ catalogue_name ∷ query_name ∷ [] → FilesSay files catalogue_name query_name catalogue query
    → HoldsOfPut (IsExactAnswer files catalogue query) call)

-- What `answer C Q` puts is exact, or memory was refused and nothing put, where the files are told and say a catalogue and a union of queries over it, of any
-- length, and neither count rose.
abbrev pub UnionAnswersWhereTold : Call → Type 0
UnionAnswersWhereTold call = WhereTold call (λ files.
    (catalogue_name query_name : List ℕ) (catalogue : Catalogue) (queries : List Query)
    → call.words ≡ codes "answer" ∷ catalogue_name ∷ query_name ∷ [] → FilesSayCatalogue files catalogue_name catalogue
    → FilesSayUnion files query_name catalogue queries → HoldsOfPut (IsExactUnionAnswer files catalogue queries) call)

-- What is answered where a filled file is asked for is what the command does, so that its text says the rows of the fragment's view when it is read; and the
-- names that were asked for are those of the command.
abbrev pub AnswersFill : Option Request → Option Files → Option Names → Option Names → Type 0 → Result Reply Status → Type 0
AnswersFill (Some (FillFor catalogue_name name)) files before after rose result =
    Answers (fill_course files catalogue_name name) rose result × AsksIn before after (fill_course files catalogue_name name) result
AnswersFill _ files before after rose result = Unit {0}

-- What `fill C F` puts and answers is what the command does, over whatever shelf: a text that says the rows of the fragment's view when it is read, or a prefix
-- of it at a fault of the sink.
abbrev pub MediatesFill : Option Request → Call → Type 0
MediatesFill (Some (FillFor catalogue_name name)) call = Mediates (fill_course call.files catalogue_name name) call
MediatesFill _ call = Unit {0}

-- The names that `fill C F` asked for, where they are told, are those for which the command with such a text asks.
abbrev pub AsksAlongFill : Option Request → Call → Type 0
AsksAlongFill (Some (FillFor catalogue_name name)) call = AsksAlong (fill_course call.files catalogue_name name) call
AsksAlongFill _ call = Unit {0}

-- What `fill C F` puts is exact, or memory was refused and nothing put, where the files are told and say a catalogue, and neither count rose.
abbrev pub FillsWhereTold : Call → Type 0
FillsWhereTold call = WhereTold call (λ files.
    (catalogue_name name : List ℕ) (catalogue : Catalogue)
    → call.words ≡ codes "fill" ∷ catalogue_name ∷ name ∷ [] → FilesSayCatalogue files catalogue_name catalogue
    → HoldsOfPut (IsExactFill files catalogue name) call)

-- What `audit C` puts is exact, or memory was refused and nothing put, where the files are told and say a catalogue, and neither count rose.
abbrev pub AuditsWhereTold : Call → Type 0
AuditsWhereTold call = WhereTold call (λ files.
    (name : List ℕ) (catalogue : Catalogue)
    → call.words ≡ codes "audit" ∷ name ∷ [] → FilesSayCatalogue files name catalogue
    → HoldsOfPut (IsExactAudit files catalogue) call)

-- ---- agreement

-- Where the files say a catalogue and a query over it, and over them `audit` and `run` are Done, each outcome of `answer` is Done with the text of `run`.
abbrev pub OutcomesAgree : Type 0
OutcomesAgree =
    (words : List (List ℕ)) (files : Files) (catalogue_name query_name : List ℕ) (number : Option ℕ) (catalogue : Catalogue) (query : Query)
    (audited ran answered : List ℕ) (said : Status) → FilesSay files catalogue_name query_name catalogue query
    → Outcome (codes "audit" ∷ catalogue_name ∷ []) files status.Done audited
    → AsksRun words catalogue_name query_name number → Outcome words files status.Done ran
    → Outcome (codes "answer" ∷ catalogue_name ∷ query_name ∷ []) files said answered
    → (said ≡ status.Done) × (answered ≡ ran)
