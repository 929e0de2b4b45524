-- What a call of the program does, which `mediate` of `src/top.rt` ensures.
use Rattle.esto_top.specs.Benches.{BenchesAlways}
use Rattle.esto_top.specs.Call.{AsksAlong, Call}
use Rattle.esto_top.specs.CertificateOutcomes.{ExplainsWhereTold, VerifiesWhereTold}
use Rattle.esto_top.specs.DataOutcomes.{AnswersWhereTold, AsksAlongFill, AuditsWhereTold, FillsWhereTold, MediatesFill, UnionAnswersWhereTold}
use Rattle.esto_top.specs.Determined.{ExactWhereTold}
use Rattle.esto_top.specs.Existing.{AnsweredWhereTold}
use Rattle.esto_top.specs.Grammar.{course_of, request_of}
use Rattle.esto_top.specs.Headline.{ListsWhereTold, RefusesWhereTold}
use Rattle.esto_top.specs.Outcome.{CausedReadFault, CausedWriteFault, CompleteWhereTold, Mediates}
use Rattle.esto_top.specs.ReasoningOutcomes.{ContainsWhereTold, MinimisesWhereTold}
use Rattle.esto_top.specs.Runs.{RunsWhereTold}
use Rattle.esto_top.specs.Unions.{UnionListsWhereTold, UnionRunsWhereTold}

-- What a call of the program does, fact by fact.
pub record IsMediation (call : Call) : Type 0 where
  -- The status and the text are those of the command's course.
  pub outcome : Mediates (course_of call.words call.files) call
  -- Of `fill` they are so, over every shelf, with a text that says the rows of the fragment's view when it is read; and so is that of which a prefix is put
  -- at a write fault.
  pub filled : MediatesFill (request_of call.words) call
  -- Where the shelf tells its files and nothing was at a fault, they are an outcome of the words and the files, or memory was refused.
  pub complete : CompleteWhereTold call
  -- Then any outcome of the words and the files is this one, or memory was refused; but where the words are `explain C Q N` and the status is Done, the text
  -- may be another.
  pub exact : ExactWhereTold call
  -- And there is one, wherever each file that the words fetch is there: want of memory is the only way out of it.
  pub answered : AnsweredWhereTold call
  -- The headline. Where the files say a catalogue and a satisfiable query over it, `list` prints exactly the plan of the query's run, or its cored plan where
  -- the catalogue asks for the core, and its listed sets, each once, in order, with orders, weights and the pick. The plan is universal, a cored plan
  -- retracts into no proper sublist of itself and is the only core for the query, and each executable rewriting of the query, with any variables and of any
  -- size, maps onto a set of its atoms that has a listed set within it, and weighs no less than the pick. No set is listed exactly where there is no such
  -- rewriting.
  pub headline : ListsWhereTold call
  -- Where the files say a catalogue and a query over it, the status of `list` is Unsatisfiable, with the clash of the query's run, exactly where no database
  -- that meets the catalogue's rules gives the query an answer; then the text is its line.
  pub refusal : RefusesWhereTold call
  -- Where the files say a catalogue and a union of two or more queries over it, `list` refuses the union, with the clash of its first query's run, exactly
  -- where no database that meets the rules gives one of its queries an answer. Else it prints its queries in order, each with its printed plan and exactly
  -- the sets that are listed in the union, or with the clash of its run: a query has a plan exactly where it is satisfiable, a cored plan retracts into no
  -- proper sublist of itself and is the only core for its query, each executable rewriting of the union, of any size, has for each plan a query that maps
  -- onto a set of its atoms that has a listed set within it, and some list is empty exactly where there is no such rewriting.
  pub list_union : UnionListsWhereTold call
  -- The headline of `run`, where the files say a catalogue and a query over it. Exactly where a listed set is the pick, or has the number that is asked for,
  -- and the files of the fragments that it uses are readable, the status is Done; then the text is that of exactly the answers of the set's candidate over
  -- the rows of the files, each once, in order. For each database that meets the rules, and whose view rows are the rows of these files, they are exactly the
  -- query's answers. The status is Unsatisfiable, with the clash of the query's run, and the text the names of the query's head, exactly where no database
  -- that meets the rules gives the query an answer; else it is NoRewriting exactly where the query has no executable rewriting, and NoSuchNumber, with the
  -- number and the length of the query's list, exactly where the list is not empty and the number is above that.
  pub run : RunsWhereTold call
  -- There, over a union of two or more queries, `run` is exact too. Exactly where some query is satisfiable, a listed set of each satisfiable one is the
  -- pick, or has the number, and the files of the fragments that these use are readable, the status is Done. The candidates of these sets are an executable
  -- rewriting of the union, and the text is that of exactly their rows over the files together, each once, in order, which for each database that meets the
  -- rules, and whose view rows are the rows of these files, are exactly the union's answers. The status is Unsatisfiable, with the clash of the first query's
  -- run and the names of its head, exactly where no query is satisfiable; NoRewriting exactly where no union of executable queries over the fragments is
  -- equivalent to the union; and NoSuchNumber, with the number and the least length of the satisfiable queries' lists, exactly where none is empty and the
  -- number is above it.
  pub run_union : UnionRunsWhereTold call
  -- The summary of `bench` is exact, over every shelf.
  pub bench : BenchesAlways call
  -- Where the files say a catalogue, and a query over it, and the files of what a command needs are readable: the text of `answer` is that of exactly the
  -- query's answers over the facts of the datasets that it names, that of `fill` a file with exactly the rows of the fragment's view, and `audit` is Done
  -- exactly where the facts of all datasets meet the rules and each fragment's file holds exactly the rows of its view; else each tells its first cause.
  pub answer : AnswersWhereTold call
  pub fill : FillsWhereTold call
  pub audit : AuditsWhereTold call
  -- And where they say a union of queries over it, of any length, the text of `answer` is that of exactly the answers of all its queries together, under the
  -- names of the first one's head.
  pub answer_union : UnionAnswersWhereTold call
  -- Where the files say a catalogue and two queries over it, the status of `contains` is HeadLengths, with the lengths of their heads, exactly where these
  -- differ, and else Done. Then the text is `yes` exactly where, over every database that meets the catalogue's rules, each answer of the left query is one
  -- of the right query; else it is that of facts and a row of them which are a counterexample.
  pub contains : ContainsWhereTold call
  -- Where they say a catalogue and a query over it, the status of `minimise` is Unsatisfiable, with the clash of the query's run, exactly where no database
  -- that meets the rules gives the query an answer, and else Done. Then the text is that of the last facts of the query's run, with its head, and of exactly
  -- the minimal sets of these facts that are equivalent to the query, in order, each once.
  pub minimise : MinimisesWhereTold call
  -- Where they say a catalogue and a query over it, the status of `explain` is Unsatisfiable, with the clash of the query's run, exactly where no database
  -- that meets the rules gives the query an answer; else it is NoRewriting exactly where the query has no executable rewriting, and NoSuchNumber, with the
  -- number and how many sets are listed, exactly where some are listed and the number is above that. Exactly where a set of the list has the number it is
  -- Done, and the text is a certificate that the checker accepts for this set, which is safe and whose candidate is contained in the query.
  pub explain : ExplainsWhereTold call
  -- There the status of `verify` is Unsatisfiable, with that clash, exactly where no database that meets the rules gives the query an answer. Else it is
  -- NoSuchNumber, with the first number above how many atoms the printed plan has and how many they are, exactly where there is one. Else, where the
  -- certificate is within its limit, it is Done with the text `accepted` where the checker accepts the certificate for the set that the numbers name, and
  -- Rejected with the line where it rejects it there. It is Done only where the file derives a match of the query from the set's atoms alone, line by line;
  -- so the set is safe, and its candidate is contained in the query over every database that meets the rules.
  pub verify : VerifiesWhereTold call
  -- A fault has its cause.
  pub read_fault : CausedReadFault (course_of call.words call.files) call
  pub write_fault : CausedWriteFault (course_of call.words call.files) call
  -- Where the shelf tells what is asked of it, that grew by the names that the order of refusals fetches where it ends with the status: up to a reply of it,
  -- or up to a stop with it. At a read fault it is up to and with the file of the fault, at a write fault the names of the answer that was to be put; and
  -- where memory was wanting, those up to any moment of it.
  pub asked : AsksAlong (course_of call.words call.files) call
  -- So it is of `fill` with its text that says the view's rows when it is read.
  pub filled_asked : AsksAlongFill (request_of call.words) call
