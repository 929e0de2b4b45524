use Rattle.std.proofs.Common.{MatchOption, subst}
use Rattle.std.proofs.lemmas.Bool.{false≢true}
use Rattle.esto_query.specs.Making.{query_of}
use Rattle.esto_instance.specs.Receiving.{IsSending, NoneSends}
use Rattle.esto_instance.proofs.ReceivingLemmas.{found-maps}
use Rattle.esto_instance.proofs.receiving.maps_into.Goals as goal

pub sending-requires : goal.sending-requires
sending-requires c = (c.queries_are_sound.ensures c.args.query.now).query.flat_head

pub returns-in-None : goal.returns-in-None
returns-in-None c =
    let none = subst (λ outcome. MatchOption outcome (NoneSends c.args.query.now.head c.args.head.now) (IsSending c.args.query.now.head c.args.head.now))
    c.in-None.is c.in_ok-outcome.ensures in
    (λ holds. absurd (false≢true holds), λ maps. absurd (none maps.0 maps.1 maps.3))

pub first_match-requires : goal.first_match-requires
first_match-requires c = (c.queries_are_sound.ensures c.args.query.now).query.flat_body

pub returns-in_ok-found-in-Some : goal.returns-in_ok-found-in-Some
returns-in_ok-found-in-Some c =
    found-maps (query_of c.args.query.now) (record { head = c.args.head.now; body = c.args.facts.now }) c.in-Some.start
    (subst (λ outcome. MatchOption outcome (NoneSends c.args.query.now.head c.args.head.now) (IsSending c.args.query.now.head c.args.head.now))
    c.in-Some.is c.in_ok-outcome.ensures)
    c.matches_send.ensures c.valuations_are_maps.ensures.keeps c.valuations_are_maps.ensures.extends
    c.in_ok-found-in-Some.found c.in_ok-found-in-Some.ensures.found c.in_ok-found-in-Some.ensures.none c.is_some.result c.is_some.ensures
