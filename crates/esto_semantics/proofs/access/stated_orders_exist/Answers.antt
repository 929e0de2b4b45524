use Rattle.esto_semantics.proofs.AccessRunLemmas.{stated_order_exists}
use Rattle.esto_semantics.proofs.AccessLawLemmas.{stated_order_is_one}
use Rattle.esto_semantics.proofs.access.stated_orders_exist.Goals as goal

pub returns : goal.returns
returns c = record { exist = stated_order_exists; one = stated_order_is_one }
