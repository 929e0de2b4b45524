use Rattle.std.proofs.Common.{◌≡◌, ◌≤◌, length, drop}
use Rattle.serde_json.specs.View.{members_view}
use Rattle.esto_docmodel.specs.Shapes.{entries_of}
use Rattle.esto_docs.specs.Documents.{members}
use Rattle.esto_docs.proofs.document.+write.Given as goal

abbrev pub invariant-members_of-entries : goal.invariant-members_of-entries
invariant-members_of-entries l =
    (l.left ≤ length l.entries) × (members_view l.members.entries ≡ members (entries_of (drop l.left l.entries)) l.row)

abbrev pub decreases-members_of-entries : goal.decreases-members_of-entries
decreases-members_of-entries l = l.left
