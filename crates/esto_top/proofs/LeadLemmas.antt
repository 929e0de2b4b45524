-- What a command says where its course leads to facts of its replies and of its refusals.
use Rattle.std.proofs.Common.{◌≡◌, ◌⊎◌, ℕ, List, inl, inr}
use Rattle.esto_course.specs.Course.{Course}
use Rattle.esto_status.specs.Calm.{Leads}
use Rattle.esto_status.specs.Line.{line_of}
use Rattle.esto_status.specs.declared.reply.Reply.{Reply}
use Rattle.esto_status.specs.declared.status.Status.{Status}
use Rattle.esto_status.specs.Replies.{reply_status, reply_text}
use Rattle.esto_top.specs.Outcome.{Says}
use Rattle.esto_top.specs.Outcome.Says.{replies, refuses}

-- what is said is a reply of which the one fact holds, or a refusal of which the other does
pub says-leads : (course : Course Status Reply) (Fact : Reply → Type 0) (Refusal : Status → Type 0) (said : Status) (text : List ℕ)
    → Leads course Fact Refusal → Says course ⊥ said text
    → ((reply : Reply) × Fact reply × (said ≡ reply_status reply) × (text ≡ reply_text reply)) ⊎ (Refusal said × (text ≡ line_of said))
says-leads course Fact Refusal said text leads (replies reply goes status_is text_is) = inl (reply, leads.goes reply goes, status_is, text_is)
says-leads course Fact Refusal said text leads (refuses caused stops text_is) = inr (leads.stops said caused stops, text_is)
