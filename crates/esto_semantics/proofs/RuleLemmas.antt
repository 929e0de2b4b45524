-- Rules: what those of every kind have.
use Rattle.std.proofs.Common.{◌≢◌, []}
use Rattle.esto_semantics.specs.Rules.{Rule, tuple, equality, denial, IsRule, body_of}

pub has_body : (rule : Rule) → IsRule rule → body_of rule ≢ []
has_body (tuple body head) is = is.has_body
has_body (equality body left right) is = is.has_body
has_body (denial body) is = is.has_body
