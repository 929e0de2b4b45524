use Rattle.std.proofs.Common.{◌+◌}
use Rattle.esto_course.specs.Course.{Stops}
use Rattle.esto_catalog.specs.Fragments.{adds_fragment}
use Rattle.esto_catalog.specs.Rows.{IsAny, IsWant}
use Rattle.esto_catalog.proofs.RowLemmas.{error_exit}
use Rattle.esto_catalog.proofs.WalkLemmas.{fragment_added, fragment_refused, fragments_grown}
use Rattle.esto_catalog.proofs.fragment.add_fragment.Goals as goal

pub returns-in_err-stored-clause-error : goal.returns-in_err-stored-clause-error
returns-in_err-stored-clause-error c =
    error_exit (Stops IsWant IsAny (adds_fragment c.args.scope.now.datasets (c.args.index + 1) c.args.fragments.now c.args.entry.now)) _ _
    c.from_residual.ensures.1
    (fragment_refused c.args.scope.now.datasets _ c.args.fragments.now c.args.entry.now _ c.entry-place.ensures _ c.items-earlier.ensures _
    c.in_err-stored.ensures.fragment)

pub returns-clause-goes : goal.returns-clause-goes
returns-clause-goes c =
    fragment_added c.args.scope.now.datasets _ c.args.fragments.now c.args.entry.now _ c.entry-place.ensures _ c.items-earlier.ensures
    c.in_ok-stored.stored _ (λ i. record { definitions = c.in_ok-push.ensures.ok i; stores = c.in_ok-push-2.ensures.ok i }) c.in_ok-stored.ensures.fragment

pub returns-clause-sound : goal.returns-clause-sound
returns-clause-sound c = λ sound.
    fragments_grown _ c.args.fragments.now _ c.in_ok-stored.stored (λ i. record
    { definitions = c.in_ok-push.ensures.ok i; stores = c.in_ok-push-2.ensures.ok i })
    sound c.in_ok-stored.ensures.sound
