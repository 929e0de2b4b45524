-- What the top call answers, from what a command answers and what the one put does.
use Rattle.std.proofs.Common.{◌≡◌, ℕ, List, Option, Some, None, Result, Ok, Err, refl, sym, ap, subst, ◌∙◌, inl, inr}
use Rattle.std.specs.Prelude.{IfSome}
use Rattle.esto_ports.specs.Files.{Files}
use Rattle.esto_course.specs.Course.{Course, Stops, refuses as course_refuses}
use Rattle.esto_status.specs.Answers.{IsWant, IsCaused, Answers}
use Rattle.esto_course.specs.Course.Stops.{is_free, refused}
use Rattle.esto_top.specs.Call.{Call, HasPut, HoldsOfPut, WhereTold}
use Rattle.esto_top.specs.Grammar.{Request, course_of, course_of_asked}
use Rattle.esto_top.specs.Outcome.{Says, Mediates, Finishes, IsSaid, CompleteWhereTold, CausedReadFault, CausedWriteFault}
use Rattle.esto_top.specs.Outcome.Says.{replies, refuses}
use Rattle.esto_top.specs.Outcome.Mediates.{whole, cut, memory as nothing}
use Rattle.esto_top.specs.Outcome.Finishes.{whole as finishes_whole, cut as finishes_cut, memory as finishes_memory}
use Rattle.esto_status.proofs.Steps.{caused_weaker, never_write, read_cause}
use Rattle.esto_status.specs.declared.reply.Reply.{Reply}
use Rattle.esto_status.specs.declared.reply.Reply.TheVariants as reply
use Rattle.esto_status.specs.declared.status.Status.{Status}
use Rattle.esto_status.specs.declared.status.Status.TheVariants as status
use Rattle.esto_status.specs.Line.{line_of}

says : (course : Course Status Reply) (rose : Type 0) (answer : Result Reply Status) (said : Status) (text : List ℕ) → Answers course rose answer
    → IsSaid answer said text → Says course rose said text
says course rose (Ok reply) said text runs is = replies reply runs is.0 is.1
says course rose (Err refusal) said text (is_free e) is = absurd (is.2 e)
says course rose (Err refusal) said text (refused caused stops) is =
    refuses (rw is.0 caused) (rw is.0 stops) (rw is.0 is.1)

-- the answer is put by the call's one put
abbrev pub FinishesCall : Result Reply Status → Call → Type 0
FinishesCall answer call = Finishes answer call.written_before call.written_after call.sink_rose call.status

pub mediates : (course : Course Status Reply) (call : Call) (answer : Result Reply Status) → Answers course call.shelf_rose answer → FinishesCall answer call
    → Mediates course call
mediates course call answer runs (finishes_whole text is puts) = whole text (says course call.shelf_rose answer call.status text runs is) puts
mediates course call answer runs (finishes_cut said text kept is risen puts e) =
    cut said text kept (says course call.shelf_rose answer said text runs is) risen puts e
mediates course call answer runs (finishes_memory keeps e) = nothing (e, keeps)

-- with no fault of the shelf, no read fault is said
calm : (course : Course Status Reply) (rose : Type 0) (said : Status) (text : List ℕ) → ¬ rose → Says course rose said text → Says course ⊥ said text
calm course rose said text none (replies reply goes e f) = replies reply goes e f
calm course rose said text none (refuses caused stops e) = refuses (caused_weaker none said caused) stops e

-- where neither count rose, the whole text was put, or memory was refused
pub whole_or_wanting : (course : Course Status Reply) (call : Call) → Mediates course call → ¬ call.shelf_rose → ¬ call.sink_rose
    → HoldsOfPut (Says course ⊥) call
whole_or_wanting course call (whole text said puts) none sink_none = inl (text, calm course call.shelf_rose call.status text none said, puts)
whole_or_wanting course call (cut status text kept said risen puts e) none sink_none = absurd (sink_none risen)
whole_or_wanting course call (nothing wants) none sink_none = inr wants

-- what holds of the call's files where neither count rose holds of them where they are told
pub where_told : (call : Call) (Fact : Option Files → Type 0) → (¬ call.shelf_rose → ¬ call.sink_rose → Fact call.files)
    → WhereTold call (λ files. Fact (Some files))
where_told call Fact holds = by call.files holds
  where
    by : (files : Option Files) → (¬ call.shelf_rose → ¬ call.sink_rose → Fact files)
        → IfSome files (λ told. ¬ call.shelf_rose → ¬ call.sink_rose → Fact (Some told))
    by None it = tt
    by (Some files) it = it

pub complete : (call : Call) → Mediates (course_of call.words call.files) call → CompleteWhereTold call
complete call outcome =
    where_told call (λ files. HoldsOfPut (Says (course_of call.words files) ⊥) call) (whole_or_wanting (course_of call.words call.files) call outcome)

-- no command says that a write failed
never_said : (course : Course Status Reply) (rose : Type 0) (said : Status) (text : List ℕ) → Says course rose said text → said ≡ status.WriteFault → ⊥
never_said course rose said text (replies (reply.Done written) goes e f) is = let h : status.Done ≡ status.WriteFault = sym e ∙ is in cc
never_said course rose said text (replies (reply.Unsatisfiable clash written) goes e f) is =
    let h : status.Unsatisfiable clash ≡ status.WriteFault = sym e ∙ is in cc
never_said course rose said text (refuses caused stops e) is = never_write rose said is caused

pub write_fault : (course : Course Status Reply) (call : Call) → Mediates course call → CausedWriteFault course call
write_fault course call (whole text says puts) is = absurd (never_said course call.shelf_rose call.status text says is)
write_fault course call (cut said text kept says risen puts e) is = (risen, (said, text, kept, says, puts))
write_fault course call (nothing wants) is = let h : status.OutOfMemory ≡ status.WriteFault = sym wants.0 ∙ is in cc

pub read_fault : (course : Course Status Reply) (call : Call) → Mediates course call → CausedReadFault course call
read_fault course call (whole text (replies (reply.Done written) goes e f) puts) name is = let h : status.Done ≡ status.ReadFault name = sym e ∙ is in cc
read_fault course call (whole text (replies (reply.Unsatisfiable clash written) goes e f) puts) name is =
    let h : status.Unsatisfiable clash ≡ status.ReadFault name = sym e ∙ is in cc
read_fault course call (whole text (refuses caused stops e) puts) name is =
    (read_cause call.shelf_rose call.status name is caused, subst course.stops is stops, subst (HasPut call) (e ∙ ap line_of is) puts)
read_fault course call (cut said text kept says risen puts e) name is = let h : status.WriteFault ≡ status.ReadFault name = sym e ∙ is in cc
read_fault course call (nothing wants) name is = let h : status.OutOfMemory ≡ status.ReadFault name = sym wants.0 ∙ is in cc

-- a course that refuses stops with its refusal
pub refused_by : {A : Type 0} (rose : Type 0) (refusal : Status) → IsCaused rose refusal → Stops IsWant (IsCaused rose) (course_refuses {A = A} refusal) refusal
unfolding course_refuses
refused_by rose refusal caused = refused caused refl

pub usage : (files : Option Files) (rose : Type 0) (request : Option Request) → request ≡ None
    → Stops IsWant (IsCaused rose) (course_of_asked files request) status.Usage
usage files rose request e = rw e (refused_by rose status.Usage (record { cause = tt }))
