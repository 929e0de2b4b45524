-- The course of `bench`: it agrees with itself, and says exactly the summary.
use Rattle.std.proofs.Common.{◌≡◌, ℕ, Bool, true, false, List, [], ◌∷◌, Option, Result, refl, sym, ap, subst, ◌∙◌, inl, inr}
use Rattle.std.specs.Prelude.{codes}
use Rattle.esto_bench.specs.Case.{made_database, made_names, made_patterns, made_query, made_views, made_weights}
use Rattle.esto_bench.specs.Summary.{IsSummaryOfCase, SummariesAreOne, summary_text}
use Rattle.esto_bench.specs.declared.summary.Summary.{Summary}
use Rattle.esto_course.specs.Course.{Names, and_then, judges, gives}
use Rattle.esto_course.proofs.Asking.{quiet_gives, quiet_judges, quiet_then}
use Rattle.esto_course.proofs.Determined.{then_agree, gives_agree, judges_agree}
use Rattle.esto_ports.specs.Files.{Files}
use Rattle.esto_semantics.specs.Rules.{AreRules}
use Rattle.esto_term.proofs.ListLemmas.{Contains-nil}
use Rattle.esto_top.specs.Bench.{bench_course}
use Rattle.esto_top.specs.Benches.{BenchesAlways, IsExactBench}
use Rattle.esto_top.specs.Call.{Call}
use Rattle.esto_top.specs.Grammar.{course_of, is_made_size, value_of}
use Rattle.esto_status.specs.Replies.{reply_status, reply_text}
use Rattle.esto_top.specs.Outcome.{Mediates, Says}
use Rattle.esto_top.specs.Outcome.Mediates.{whole, cut, memory as nothing}
use Rattle.esto_top.specs.Outcome.Says.{replies, refuses}
use Rattle.esto_status.specs.declared.reply.Reply.TheVariants.{Done}
use Rattle.esto_status.specs.declared.reply.Reply.{Reply}
use Rattle.esto_status.specs.declared.status.Status.{Status}
use Rattle.esto_status.specs.Answers.{Answers}
use Rattle.esto_status.specs.Asked.{AsksIn}
use Rattle.esto_status.proofs.AskedSteps.{quiet_asks}
use Rattle.esto_status.specs.Calm.{AgreeCalmly}

no_rules : AreRules []
no_rules rule inside = absurd (Contains-nil rule inside)

pub benches-agree : SummariesAreOne → (size : ℕ) → AgreeCalmly ◌≡◌ (bench_course size) (bench_course size)
benches-agree one size =
    then_agree _ ◌≡◌ ◌≡◌ _ _ _ _
    (judges_agree _ _ _ _ _ _
    (λ summary other. one [] (made_views size) (made_patterns size) (made_weights size) (made_names size) (made_query size) (made_database size) summary other
    no_rules)
    (λ said other caused other_caused here there. absurd here) (λ value said caused here there. there) (λ value said caused here there. there))
    (λ summary other goes same. gives_agree _ (Done (summary_text summary)) (Done (summary_text other)) (ap (λ it. Done (summary_text it)) same))

-- a summary and its lines are how it goes
pub bench_goes : (size : ℕ) (summary : Summary) (text : List ℕ) → IsSummaryOfCase size summary → text ≡ summary_text summary
    → (bench_course size).goes (Done text)
unfolding and_then judges gives
bench_goes size summary text is text_is = (summary, is, ap Done text_is)

-- it asks for nothing
pub bench_asks : (size : ℕ) (told : Option Names) (result : Result Reply Status) → Answers (bench_course size) ⊥ result
    → AsksIn told told (bench_course size) result
bench_asks size told result = quiet_asks (bench_course size) told result
    (quiet_then _ _ (quiet_judges _ _) (λ summary. quiet_gives Status (Done (summary_text summary))))

bench_words : (words : List (List ℕ)) (files : Option Files) (word : List ℕ) → is_made_size word ≡ true → words ≡ codes "bench" ∷ word ∷ []
    → course_of words files ≡ bench_course (value_of word)
bench_words words files word sized is = ap (λ (it : List (List ℕ)). course_of it files) is ∙ by_test (is_made_size word) refl
  where
    by_test : (test : Bool) → is_made_size word ≡ test → course_of (codes "bench" ∷ word ∷ []) files ≡ bench_course (value_of word)
    by_test true test = rw test refl
    by_test false test = let h : false ≡ true = sym test ∙ sized in absurd (cc)

says_bench : (size : ℕ) (rose : Type 0) (said : Status) (text : List ℕ) → Says (bench_course size) rose said text → IsExactBench size said text
unfolding and_then judges gives
says_bench size rose said text (replies reply (summary, is, done) said_is text_is) =
    (said_is ∙ ap reply_status done, summary, is, text_is ∙ ap reply_text done)
says_bench size rose said text (refuses caused stops text_is) = elim stops [ inl never ↦ absurd never | inr later ↦ absurd later.2 ]

pub benches_always : (call : Call) → Mediates (course_of call.words call.files) call → BenchesAlways call
benches_always call (whole text said puts) = λ none word sized is.
    let course = bench_words call.words call.files word sized is in
    inl (text, says_bench (value_of word) call.shelf_rose call.status text (subst (λ it. Says it call.shelf_rose call.status text) course said), puts)
benches_always call (cut said text kept says risen puts is) = λ none word sized words_are. absurd (none risen)
benches_always call (nothing wants) = λ none word sized words_are. inr wants
