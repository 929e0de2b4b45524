-- The command line: its grammar, and the course of each command.
use Rattle.std.specs.Prelude.{◌≡◌, ℕ, ◌+◌, ◌-◌, ◌*◌, ◌==◌, ◌<◌, ◌≤◌, nat_le, nat_lt, List, [], ◌∷◌, length, Bool, false, ◌&&◌, Option, Some, None}
use Rattle.std.specs.Prelude.{if◌then◌else◌, codes, nat_eq, MatchOption}
use Rattle.std.specs.Cmp.Lexicographic.{pointwise}
use Rattle.std.specs.List.{list_all, slice_split}
use Rattle.esto_ports.specs.Files.{Files}
use Rattle.esto_bench.specs.declared.case.TheConstants.{MAX_SIZE}
use Rattle.esto_top.specs.Explain.{explain_course}
use Rattle.esto_top.specs.Verify.{verify_course}
use Rattle.esto_top.specs.Answer.{answer_course}
use Rattle.esto_top.specs.Audit.{audit_course}
use Rattle.esto_top.specs.Fill.{make_course}
use Rattle.esto_top.specs.Contains.{contains_course}
use Rattle.esto_top.specs.Minimise.{minimise_course}
use Rattle.esto_top.specs.Bench.{bench_course}
use Rattle.esto_top.specs.Check.{check_course}
use Rattle.esto_course.specs.Course.{Course, and_then, judges, refuses}
use Rattle.esto_top.specs.List.{list_course}
use Rattle.esto_top.specs.Run.{run_course}
use Rattle.esto_top.specs.declared.command.Command.{Command}
use Rattle.esto_top.specs.declared.command.Command.TheVariants as command
use Rattle.esto_top.specs.declared.queries.QueryTask.TheVariants as query_task
use Rattle.esto_top.specs.declared.task.Task.{Task}
use Rattle.esto_top.specs.declared.task.Task.TheVariants as task
use Rattle.esto_top.specs.declared.unions.UnionTask.TheVariants as union_task
use Rattle.esto_status.specs.declared.reply.Reply.{Reply}
use Rattle.esto_status.specs.declared.status.Status.TheVariants.{Usage}
use Rattle.esto_top.specs.declared.command.TheConstants.{MAX_DIGITS}
use Rattle.esto_status.specs.declared.status.Status.{Status}

-- What words of the grammar ask for: the check of a catalogue's file; the list for a catalogue's and a query's file; the run for them of the pick, or of the
-- set of a number of the list; the fill of the fragment of a name, for a catalogue's file; the answers for a catalogue's and a query's file; the audit of a
-- catalogue's file; whether one query is contained in another, for a catalogue's and two queries' files; the minimal equivalent parts for a catalogue's and a
-- query's file; a certificate for the set of a number of the list, for a catalogue's and a query's file; whether the certificate of a file is accepted for the
-- plan's atoms that a word names, for a catalogue's and a query's file; or the summary of the made case of a size.
pub data Request : Type 0 where
  CheckOf : List ℕ → Request
  ListFor : List ℕ → List ℕ → Request
  RunFor : List ℕ → List ℕ → Option ℕ → Request
  BenchOf : ℕ → Request
  FillFor : List ℕ → List ℕ → Request
  AnswerFor : List ℕ → List ℕ → Request
  AuditOf : List ℕ → Request
  ContainsFor : List ℕ → List ℕ → List ℕ → Request
  MinimiseFor : List ℕ → List ℕ → Request
  ExplainFor : List ℕ → List ℕ → ℕ → Request
  VerifyFor : List ℕ → List ℕ → List ℕ → List ℕ → Request

-- The word has these bytes.
abbrev pub is_word : List ℕ → List ℕ → Bool
is_word word name = pointwise nat_eq word name

-- The byte is a digit.
abbrev pub is_digit : ℕ → Bool
is_digit byte = nat_le 48 byte && nat_le byte 57

-- The byte is a digit other than 0.
abbrev pub is_leading_digit : ℕ → Bool
is_leading_digit byte = nat_le 49 byte && nat_le byte 57

-- The word is a number of the list: one to nine digits, of which the first is not 0.
abbrev pub is_list_number : List ℕ → Bool
is_list_number [] = false
is_list_number (first ∷ rest) = is_leading_digit first && (nat_lt (length rest) MAX_DIGITS && list_all is_digit rest)

-- The number that digits write in decimal after a number that is there.
abbrev pub value_after : ℕ → List ℕ → ℕ
value_after value [] = value
value_after value (digit ∷ rest) = value_after (value * 10 + (digit - 48)) rest

-- The number that digits write in decimal.
abbrev pub value_of : List ℕ → ℕ
value_of digits = value_after 0 digits

-- The number of a word that is a number of the list, above the one before it.
abbrev pub number_above : ℕ → List ℕ → Option ℕ
number_above before word = if is_list_number word && nat_lt before (value_of word) then Some (value_of word) else None

-- The number before those that follow it, where all are there.
abbrev pub before_all : ℕ → Option (List ℕ) → Option (List ℕ)
before_all number None = None
before_all number (Some numbers) = Some (number ∷ numbers)

-- The number, where it is there, before the rest that it gives, where that is there.
abbrev pub with_rest : Option ℕ → (ℕ → Option (List ℕ)) → Option (List ℕ)
with_rest None rest = None
with_rest (Some number) rest = before_all number (rest number)

-- The numbers of words, each above the one before it.
abbrev pub numbers_above : ℕ → List (List ℕ) → Option (List ℕ)
numbers_above before [] = Some []
numbers_above before (word ∷ words) = with_rest (number_above before word) (λ number. numbers_above number words)

-- The rising numbers that the word names, joined by commas: each is one to nine digits, of which the first is not 0.
abbrev pub atom_numbers : List ℕ → Option (List ℕ)
atom_numbers word = numbers_above 0 (slice_split (λ byte. byte == 44) word)

-- The word names numbers of atoms, or is outside the grammar.
abbrev pub names_atoms : List ℕ → Course Status (List ℕ)
names_atoms word = judges (λ numbers. atom_numbers word ≡ Some numbers) (λ refusal. (atom_numbers word ≡ None) × (refusal ≡ Usage))

-- The certificate of a file is verified for the atoms that a word names.
abbrev pub verifies_named : Option Files → List ℕ → List ℕ → List ℕ → List ℕ → Course Status Reply
verifies_named files catalogue query atoms file = and_then (names_atoms atoms) (λ numbers. verify_course files catalogue query numbers file)

-- The word is a size of the made case: 1 to 14 in decimal, so a digit other than 0, or 1 and a digit up to 4.
abbrev pub is_made_size : List ℕ → Bool
is_made_size (digit ∷ []) = is_leading_digit digit
is_made_size (first ∷ second ∷ []) = (first == 49) && (nat_le 48 second && nat_le second 52)
is_made_size _ = false

-- The commands of one word: check C, audit C, bench N.
abbrev pub request_of_one : List ℕ → List ℕ → Option Request
request_of_one verb word =
    if is_word verb (codes "check") then Some (Request.CheckOf word)
    else if is_word verb (codes "audit") then Some (Request.AuditOf word)
    else if is_word verb (codes "bench") && is_made_size word then Some (Request.BenchOf (value_of word))
    else None

-- The commands of two words: list C Q, run C Q, fill C F, answer C Q, minimise C Q.
abbrev pub request_of_two : List ℕ → List ℕ → List ℕ → Option Request
request_of_two verb first second =
    if is_word verb (codes "list") then Some (Request.ListFor first second)
    else if is_word verb (codes "run") then Some (Request.RunFor first second None)
    else if is_word verb (codes "fill") then Some (Request.FillFor first second)
    else if is_word verb (codes "answer") then Some (Request.AnswerFor first second)
    else if is_word verb (codes "minimise") then Some (Request.MinimiseFor first second)
    else None

-- The commands of three words: contains C L R, run C Q N, explain C Q N.
abbrev pub request_of_three : List ℕ → List ℕ → List ℕ → List ℕ → Option Request
request_of_three verb first second third =
    if is_word verb (codes "contains") then Some (Request.ContainsFor first second third)
    else if is_word verb (codes "run") && is_list_number third then Some (Request.RunFor first second (Some (value_of third)))
    else if is_word verb (codes "explain") && is_list_number third then Some (Request.ExplainFor first second (value_of third))
    else None

-- The command of four words: verify C Q A FILE.
abbrev pub request_of_four : List ℕ → List ℕ → List ℕ → List ℕ → List ℕ → Option Request
request_of_four verb first second third fourth =
    if is_word verb (codes "verify") then Some (Request.VerifyFor first second third fourth) else None

-- What the words ask for; nothing where they are outside the grammar, but for the numbers of `verify`, which its course reads.
abbrev pub request_of : List (List ℕ) → Option Request
request_of (verb ∷ word ∷ []) = request_of_one verb word
request_of (verb ∷ first ∷ second ∷ []) = request_of_two verb first second
request_of (verb ∷ first ∷ second ∷ third ∷ []) = request_of_three verb first second third
request_of (verb ∷ first ∷ second ∷ third ∷ fourth ∷ []) = request_of_four verb first second third fourth
request_of _ = None

-- What asks for this task over a catalogue's file; nothing where no words name the task, as it has a query or numbers of atoms that are read before.
abbrev pub asked_over : List ℕ → Task → Option Request
asked_over catalogue task.Check = Some (Request.CheckOf catalogue)
asked_over catalogue task.Audit = Some (Request.AuditOf catalogue)
asked_over catalogue (task.Fill fragment) = Some (Request.FillFor catalogue fragment.now)
asked_over catalogue (task.Contains left right) = Some (Request.ContainsFor catalogue left.now right.now)
asked_over catalogue (task.Query query query_task.Minimise) = Some (Request.MinimiseFor catalogue query.now)
asked_over catalogue (task.Query query (query_task.Explain number)) = Some (Request.ExplainFor catalogue query.now number)
asked_over catalogue (task.Query query _) = None
asked_over catalogue (task.Union query union_task.List) = Some (Request.ListFor catalogue query.now)
asked_over catalogue (task.Union query (union_task.Run number)) = Some (Request.RunFor catalogue query.now number)
asked_over catalogue (task.Union query union_task.Answer) = Some (Request.AnswerFor catalogue query.now)

-- A command of the program as what its words ask for.
abbrev pub asked : Command → Option Request
asked (command.Bench size) = Some (Request.BenchOf size)
asked (command.Verify catalogue query atoms file) = Some (Request.VerifyFor catalogue.now query.now atoms.now file.now)
asked (command.Over catalogue task) = asked_over catalogue.now task

-- Words name the task.
abbrev pub IsNamed : Option Request → Type 0
IsNamed request = MatchOption request ⊥ (λ _. Unit {0})

-- Words can mean the command: the size of `bench` is one of the made case, and words name the task over a catalogue.
abbrev pub IsMeant : Command → Type 0
IsMeant (command.Bench size) = (0 < size) × (size ≤ MAX_SIZE)
IsMeant (command.Verify catalogue query atoms file) = Unit {0}
IsMeant (command.Over catalogue task) = IsNamed (asked_over catalogue.now task)

-- The course of what is asked for.
abbrev pub course_of_request : Option Files → Request → Course Status Reply
course_of_request files (Request.CheckOf catalogue) = check_course files catalogue
course_of_request files (Request.ListFor catalogue query) = list_course files catalogue query
course_of_request files (Request.RunFor catalogue query number) = run_course files catalogue query number
course_of_request files (Request.BenchOf size) = bench_course size
course_of_request files (Request.FillFor catalogue fragment) = make_course files catalogue fragment
course_of_request files (Request.AnswerFor catalogue query) = answer_course files catalogue query
course_of_request files (Request.AuditOf catalogue) = audit_course files catalogue
course_of_request files (Request.ContainsFor catalogue left right) = contains_course files catalogue left right
course_of_request files (Request.MinimiseFor catalogue query) = minimise_course files catalogue query
course_of_request files (Request.ExplainFor catalogue query number) = explain_course files catalogue query number
course_of_request files (Request.VerifyFor catalogue query atoms file) = verifies_named files catalogue query atoms file

-- The course of the words that ask for something, and the refusal of words outside the grammar.
abbrev pub course_of_asked : Option Files → Option Request → Course Status Reply
course_of_asked files None = refuses Usage
course_of_asked files (Some request) = course_of_request files request

-- The course of a command line.
abbrev pub course_of : List (List ℕ) → Option Files → Course Status Reply
course_of words files = course_of_asked files (request_of words)
