-- The command `bench`.
use Rattle.std.specs.Prelude.{ℕ}
use Rattle.esto_bench.specs.Summary.{IsSummaryOfCase, summary_text}
use Rattle.esto_course.specs.Course.{Course, judges, gives, and_then}
use Rattle.esto_status.specs.declared.reply.Reply.{Reply}
use Rattle.esto_status.specs.declared.reply.Reply.TheVariants.{Done}
use Rattle.esto_status.specs.declared.status.Status.{Status}

-- The made case of the size is summed up, and the lines of the summary are the reply. No file is fetched.
abbrev pub bench_course : ℕ → Course Status Reply
bench_course size = and_then (judges (IsSummaryOfCase size) (λ _. ⊥)) (λ summary. gives (Done (summary_text summary)))
