-- That a command line has at most one status, and at most one text but where a certificate is written.
use Rattle.std.specs.Prelude.{◌≡◌, ◌⊎◌, ℕ, Bool, true, false, List, Option, Some}
use Rattle.esto_top.specs.Call.{Call, HasPut, WantsMemory, WhereTold}
use Rattle.esto_top.specs.CertificateLaws.{AreDone}
use Rattle.esto_course.specs.Agreement.{Begins}
use Rattle.esto_course.specs.Course.{Names, Point}
use Rattle.esto_ports.specs.Files.{Files}
use Rattle.esto_status.specs.Asked.{Fetches}
use Rattle.esto_status.specs.Calm.{AgreeCalmly}
use Rattle.esto_status.specs.declared.reply.Reply.{Reply}
use Rattle.esto_top.specs.CertificateOutcomes.{AsksExplain}
use Rattle.esto_top.specs.Grammar.{Request, course_of, request_of}
use Rattle.esto_top.specs.Grammar.Request.{ExplainFor}
use Rattle.esto_top.specs.Outcome.{Outcome}
use Rattle.esto_status.specs.declared.status.Status.{Status}
use Rattle.esto_status.specs.declared.status.Status.TheVariants as status

-- The words ask for a certificate, by `explain C Q N`.
abbrev pub AsksCertificate : List (List ℕ) → Type 0
AsksCertificate words = (catalogue_name : List ℕ) × (query_name : List ℕ) × (number : ℕ) × AsksExplain words catalogue_name query_name number

-- The words and the status fix the text: so they do but where the words ask for a certificate and the status is Done.
abbrev pub FixesText : List (List ℕ) → Status → Type 0
FixesText words said = ¬ (AsksCertificate words × (said ≡ status.Done))

-- What is asked for is a certificate.
abbrev pub writes_certificate : Option Request → Bool
writes_certificate (Some (ExplainFor catalogue_name query_name number)) = true
writes_certificate _ = false

-- Which replies count as the same: where a certificate is written, all that are Done.
abbrev pub CountsAs : Bool → Reply → Reply → Type 0
CountsAs true = AreDone
CountsAs false = ◌≡◌

-- The course of a command line over the same files is one, whichever certificate is written.
abbrev pub CoursesAreOne : Type 0
CoursesAreOne =
    (words : List (List ℕ)) (files : Files)
    → AgreeCalmly (CountsAs (writes_certificate (request_of words))) (course_of words (Some files)) (course_of words (Some files))

-- The same words over the same files have at most one status, and at most one text where these fix it.
abbrev pub OutcomesAreDetermined : Type 0
OutcomesAreDetermined =
    (words : List (List ℕ)) (files : Files) (said other_said : Status) (text other_text : List ℕ)
    → Outcome words files said text → Outcome words files other_said other_text → (said ≡ other_said) × (FixesText words said → text ≡ other_text)

-- A command line over the same files fetches one sequence of names.
abbrev pub FetchesAreDetermined : Type 0
FetchesAreDetermined =
    (words : List (List ℕ)) (files : Files) (names others : Names)
    → Fetches (course_of words (Some files)) names → Fetches (course_of words (Some files)) others → names ≡ others

-- What it asked for at any point of its course begins that sequence.
abbrev pub AskedBeginsFetches : Type 0
AskedBeginsFetches =
    (words : List (List ℕ)) (files : Files) (names all : Names) (point : Point Status Reply)
    → Fetches (course_of words (Some files)) all → (course_of words (Some files)).asks names point → Begins names all

-- Where the shelf tells its files, and neither count rose, any outcome of the words and the files has the status that was answered, and its text was put where
-- the words and the status fix it; or memory was refused, and nothing was put.
abbrev pub ExactWhereTold : Call → Type 0
ExactWhereTold call = WhereTold call (λ files.
    (said : Status) (text : List ℕ) → Outcome call.words files said text
    → ((call.status ≡ said) × (FixesText call.words said → HasPut call text)) ⊎ WantsMemory call)
