-- Courses that agree say one status and one text. Read faults are left aside.
use Rattle.std.proofs.Common.{◌≡◌, ℕ, List, sym, ap, ◌∙◌}
use Rattle.esto_top.specs.CertificateLaws.{AreDone}
use Rattle.esto_course.specs.Course.{Course}
use Rattle.esto_status.specs.Calm.{AgreeCalmly}
use Rattle.esto_status.specs.Line.{line_of}
use Rattle.esto_status.specs.declared.reply.Reply.{Reply}
use Rattle.esto_status.specs.declared.status.Status.{Status}
use Rattle.esto_status.specs.declared.status.Status.TheVariants as status
use Rattle.esto_status.specs.Replies.{reply_status, reply_text}
use Rattle.esto_top.specs.Outcome.{Says}
use Rattle.esto_top.specs.Outcome.Says.{replies, refuses as says_refuses}

-- courses that agree up to the texts of replies that are Done say one status, and one text where it is not Done
pub says-status : (course other : Course Status Reply) (said other_said : Status) (text other_text : List ℕ) → AgreeCalmly AreDone course other
    → Says course ⊥ said text → Says other ⊥ other_said other_text → (said ≡ other_said) × (¬ (said ≡ status.Done) → text ≡ other_text)
says-status course other said other_said text other_text agree (replies reply goes said_is text_is) (replies other_reply other_goes other_is other_text_is) =
    let done = agree.one reply other_reply goes other_goes in
    let said_done : said ≡ status.Done = said_is ∙ ap reply_status done.0.1 in
    (said_done ∙ sym (other_is ∙ ap reply_status done.1.1), λ undone. absurd (undone said_done))
says-status course other said other_said text other_text agree (replies reply goes said_is text_is) (says_refuses caused stops line_is) =
    absurd (agree.apart reply other_said caused goes stops)
says-status course other said other_said text other_text agree (says_refuses caused stops line_is) (replies reply goes said_is text_is) =
    absurd (agree.other_apart reply said caused goes stops)
says-status course other said other_said text other_text agree (says_refuses caused stops line_is) (says_refuses other_caused other_stops other_line_is) =
    let same : said ≡ other_said = agree.one_stop said other_said caused other_caused stops other_stops in
    (same, λ undone. line_is ∙ ap line_of same ∙ sym other_line_is)

-- courses that agree say one status and one text
pub says-agree : (course other : Course Status Reply) (said other_said : Status) (text other_text : List ℕ) → AgreeCalmly ◌≡◌ course other
    → Says course ⊥ said text → Says other ⊥ other_said other_text → (said ≡ other_said) × (text ≡ other_text)
says-agree course other said other_said text other_text agree (replies reply goes said_is text_is) (replies other_reply other_goes other_is other_text_is) =
    let same : reply ≡ other_reply = agree.one reply other_reply goes other_goes in
    (said_is ∙ ap reply_status same ∙ sym other_is, text_is ∙ ap reply_text same ∙ sym other_text_is)
says-agree course other said other_said text other_text agree (replies reply goes said_is text_is) (says_refuses caused stops line_is) =
    absurd (agree.apart reply other_said caused goes stops)
says-agree course other said other_said text other_text agree (says_refuses caused stops line_is) (replies reply goes said_is text_is) =
    absurd (agree.other_apart reply said caused goes stops)
says-agree course other said other_said text other_text agree (says_refuses caused stops line_is) (says_refuses other_caused other_stops other_line_is) =
    let same : said ≡ other_said = agree.one_stop said other_said caused other_caused stops other_stops in
    (same, line_is ∙ ap line_of same ∙ sym other_line_is)
