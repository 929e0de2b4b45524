-- The laws of what is opened, of plans and lists, and of steps, on which outcomes rest; and those of outcomes.
use Rattle.esto_backchase.specs.Listing.{ListedCoverRewritings}
use Rattle.esto_semantics.specs.ListedLaws.{NoRewritingExists, PickWeighsLeastOfAll}
use Rattle.esto_opening.specs.Alike.{CataloguesOpenAlike, UnionsOpenAlike}
use Rattle.esto_run.specs.FragmentsAlike.{FragmentOpensAlike, FragmentsOpenAlike, StoresHaveOneContent}
use Rattle.esto_opening.specs.Unions.{OpenedFormUnions, UnionsOfOneAreQueries}
use Rattle.esto_top.specs.CertificateOutcomes.{OutcomesAreExplained, OutcomesAreVerified}
use Rattle.esto_top.specs.DataLaws.{FillsAreExact}
use Rattle.esto_top.specs.DataOutcomes.{OutcomesAreAnswers, OutcomesAreAudits, OutcomesAreUnionAnswers}
use Rattle.esto_top.specs.Determined.{OutcomesAreDetermined}
use Rattle.esto_top.specs.Existing.{OutcomesAreWhereFilesAre}
use Rattle.esto_top.specs.Headline.{OutcomesAreLists, OutcomesAreRefusals}
use Rattle.esto_top.specs.ReasoningOutcomes.{OutcomesAreContainments, OutcomesAreMinimised}
use Rattle.esto_top.specs.Runs.{OutcomesAreRuns}
use Rattle.esto_top.specs.Unions.{OutcomesAreUnionLists, OutcomesAreUnionRuns}
use Rattle.esto_top.specs.Steps.{AnswersEnd, AuditsEnd, CasesHaveSummaries, CataloguesOpen, ContainmentsEnd, ItemsAreChosen, MinimisationsEnd}
use Rattle.esto_top.specs.Steps.{PlansHaveLists, PlansHaveTexts, QueriesArePlanned, QueriesHaveEnds, SetsHaveRows, SetsOpen, SetsUseFragments}
use Rattle.esto_top.specs.Steps.{ExplanationsEnd, FillsEnd, UnionsAreListed, UnionsAreRun, UnionsOpen, VerificationsEnd}
use Rattle.esto_rewriting.specs.Alike.{ChoiceIsOne, ClashIsMoved, EndIsOne, ListIsMoved, ListIsOne, ListingIsMoved, ListingIsOne, PlanIsMoved, PlanIsOne}
use Rattle.esto_rewriting.specs.PlannedLaws.{ClashExcludesAnswers, CoreHasNoRetract, CoreIsOnly, ItemIsListed, PlaceIsWithin, PlanHasForm, PlanIsUniversal}
use Rattle.esto_rewriting.specs.PlannedLaws.{PlanTellsAnswers}

-- What is opened is one.
pub record OpeningLaws : Type 0 where
  pub catalogues : CataloguesOpenAlike
  pub unions : UnionsOpenAlike
  pub alone : UnionsOfOneAreQueries
  pub fragment : FragmentOpensAlike
  pub fragments : FragmentsOpenAlike
  pub rows : StoresHaveOneContent

-- Over catalogues that say the same, plans, clashes and lists are the same, and are one.
pub record PlanningLaws : Type 0 where
  pub item : ItemIsListed
  pub plan_moved : PlanIsMoved
  pub clash_moved : ClashIsMoved
  pub list_moved : ListIsMoved
  pub text_moved : ListingIsMoved
  pub end : EndIsOne
  pub plan : PlanIsOne
  pub list : ListIsOne
  pub text : ListingIsOne
  pub choice : ChoiceIsOne

-- Plans, clashes and lists are one, and printed plans and listed sets are what the headline says of them.
pub record ListingLaws : Type 0 where
  pub planning : PlanningLaws
  pub form : PlanHasForm
  pub universal : PlanIsUniversal
  pub core : CoreHasNoRetract
  pub only_core : CoreIsOnly
  pub satisfiable : PlanTellsAnswers
  pub unsatisfiable : ClashExcludesAnswers
  pub covers : ListedCoverRewritings
  pub none : NoRewritingExists
  pub lightest : PickWeighsLeastOfAll

-- The steps of commands come to an end, or ask for a file that is not there.
pub record StepLaws : Type 0 where
  pub catalogue : CataloguesOpen
  pub union : UnionsOpen
  pub formed : OpenedFormUnions
  pub plans : QueriesArePlanned
  pub ends : QueriesHaveEnds
  pub lists : PlansHaveLists
  pub texts : PlansHaveTexts
  pub chosen : ItemsAreChosen
  pub place : PlaceIsWithin
  pub item : ItemIsListed
  pub fragments : SetsUseFragments
  pub opened : SetsOpen
  pub rows : SetsHaveRows
  pub union_list : UnionsAreListed
  pub union_run : UnionsAreRun
  pub answer : AnswersEnd
  pub fill : FillsEnd
  pub audit : AuditsEnd
  pub contains : ContainmentsEnd
  pub minimise : MinimisationsEnd
  pub verify : VerificationsEnd
  pub explain : ExplanationsEnd
  pub summary : CasesHaveSummaries

-- Words and files have at most one outcome, and one where each file is there; and where the files say what a command needs, what it then says is exact.
pub record OutcomeLaws : Type 0 where
  pub determined : OutcomesAreDetermined
  pub exactly : OutcomesAreWhereFilesAre
  pub lists : OutcomesAreLists
  pub refusals : OutcomesAreRefusals
  pub union_lists : OutcomesAreUnionLists
  pub runs : OutcomesAreRuns
  pub union_runs : OutcomesAreUnionRuns
  pub answers : OutcomesAreAnswers
  pub union_answers : OutcomesAreUnionAnswers
  pub fills : FillsAreExact
  pub audits : OutcomesAreAudits
  pub contains : OutcomesAreContainments
  pub minimise : OutcomesAreMinimised
  pub explain : OutcomesAreExplained
  pub verify : OutcomesAreVerified
