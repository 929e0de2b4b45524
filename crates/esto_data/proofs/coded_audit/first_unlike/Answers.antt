use Rattle.std.proofs.Common.{arith}
use Rattle.esto_data.proofs.CodedAuditLemmas.{fragments_end, fragments_goes, fragments_start, fragments_stop}
use Rattle.esto_data.proofs.CodedRowLemmas.{stays_on}
use Rattle.esto_data.proofs.coded_audit.first_unlike.Goals as goal

pub fragments-init : goal.fragments-init
fragments-init c = fragments_start c.args.coded.now c.args.rows.now c.args.fragments.now

pub returns-then-not-branch-clause-found : goal.returns-then-not-branch-clause-found
returns-then-not-branch-clause-found c =
    fragments_stop c.args.coded.now c.fragments.coded c.holds_view.new.coded c.args.rows.now c.args.fragments.now c.fragments.number
    c.index-fragments-number.result c.item.result.now c.fragments-test.true c.index-fragments-number.is c.item.ensures c.fragments.invariant
    c.holds_view.ensures.stays c.in_ok-holds_view.field-0 c.in_ok-holds_view.ensures.holds c.requires c.if-not-branch.true

pub fragments-preserved : goal.fragments-preserved
fragments-preserved c =
    fragments_goes c.args.coded.now c.fragments.coded c.holds_view.new.coded c.args.rows.now c.args.fragments.now c.fragments.number
    c.index-fragments-number.result c.item.result.now c.fragments-test.true c.index-fragments-number.is c.item.ensures c.fragments.invariant
    c.holds_view.ensures.stays c.in_ok-holds_view.field-0 c.in_ok-holds_view.ensures.holds c.if-not-branch.false

pub returns-clause-found : goal.returns-clause-found
returns-clause-found c =
    fragments_end c.args.coded.now c.fragments.coded c.args.rows.now c.args.fragments.now c.fragments.number c.requires (omega (arith, c.fragments-test.false))
    c.fragments.invariant

pub returns-in_err-holds_view-clause-stays : goal.returns-in_err-holds_view-clause-stays
returns-in_err-holds_view-clause-stays c = stays_on _ _ _ c.fragments.invariant.stays c.holds_view.ensures.stays

pub returns-then-not-branch-clause-stays : goal.returns-then-not-branch-clause-stays
returns-then-not-branch-clause-stays c = stays_on _ _ _ c.fragments.invariant.stays c.holds_view.ensures.stays

pub returns-clause-stays : goal.returns-clause-stays
returns-clause-stays c = c.fragments.invariant.stays
