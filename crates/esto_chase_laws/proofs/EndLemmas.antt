-- What the end of a run says of all databases that meet the rules.
use Rattle.std.proofs.Common.{◌≡◌, inl, inr, ℕ, List, [], map, Contains, refl, sym, ap, ◌∙◌}
use Rattle.std.specs.Prelude.{◌↔◌}
use Rattle.esto_term.specs.declared.term.Term.{Term}
use Rattle.esto_term.specs.declared.term.Term.TheVariants.{Const}
use Rattle.esto_term.proofs.ListLemmas.{Contains-at, Contains-nil, map_agree, map_then}
use Rattle.esto_semantics.specs.Containment.{IsSatisfiable}
use Rattle.esto_semantics.specs.Facts.{Database}
use Rattle.esto_semantics.specs.Instances.{IsUniversalFor}
use Rattle.esto_semantics.specs.Maps.{Sends, Keeps}
use Rattle.esto_semantics.specs.Queries.{ConjunctiveQuery, IsQuery}
use Rattle.esto_semantics.specs.Rules.{Rule, denial, AreRules, Meets}
use Rattle.esto_semantics.specs.declared.fact.Fact.{Fact}
use Rattle.esto_semantics.specs.declared.fact.Value.{Value}
use Rattle.esto_semantics.specs.declared.fact.Value.TheVariants.{Text}
use Rattle.esto_semantics.proofs.FactLemmas.{Mentions-among, Sends-then, Sends-match}
use Rattle.esto_chase_laws.specs.Received.{IsReceivedBy}
use Rattle.esto_chase_laws.specs.Joined.{joined}
use Rattle.esto_chase_laws.specs.Runs.{Step, IsRun, IsStart, IsClashed, IsDenied, HasClashed, moved_by, start_of}
use Rattle.esto_chase_laws.specs.declared.clash.Clash.{Clash}
use Rattle.esto_chase_laws.specs.declared.clash.Clash.TheVariants.{Equal, Denied}
use Rattle.esto_chase_laws.proofs.JoinedLemmas.{joined-AreTogether}
use Rattle.esto_chase_laws.proofs.ReceivedLemmas.{Received, one_value_at}
use Rattle.esto_chase_laws.proofs.ReplacementLemmas.{less-apart}
use Rattle.esto_chase_laws.proofs.StateLemmas.{Ran, ran}

module _ (rules : List Rule) (are_rules : AreRules rules) (start : ConjunctiveQuery) (is_start : IsStart start)
    (trace : List Step) (end : ConjunctiveQuery) (run : IsRun rules start trace end) where
  abbrev all : Ran rules start are_rules is_start.flat_body trace end (moved_by trace)
  all = ran rules start are_rules is_start.flat_body trace end run

  pub is_received : IsReceivedBy rules start end (moved_by trace)
  is_received database meets m keeps sends =
      let received : Received end (moved_by trace) m database = all.received m database keeps sends meets in
      let at : (term : Term) → Contains start.head term → received.value (moved_by trace term) ≡ m term =
      λ term inside. received.one_value term ∙ received.extends term (is_start.flat_head term inside) in
      record {
        into = record {
          after = received.value;
          keeps = received.keeps;
          agrees = λ term given. received.extends term (elim given [ inl flat ↦ flat | inr inside ↦ is_start.flat_body term inside ]);
          sends = received.sends;
          one_value = λ term other is. sym (received.one_value term) ∙ ap received.value is;
        };
        heads = ap (map received.value) (sym all.kept.heads) ∙ map_then (moved_by trace) received.value start.head
            ∙ map_agree (λ term. received.value (moved_by trace term)) m start.head at;
      }

  pub is_universal : IsUniversalFor rules start end
  is_universal = record {
    maps = (moved_by trace, all.kept.constants, all.kept.reached, all.kept.heads);
    followed = λ database meets m keeps sends.
        let it = is_received database meets m keeps sends in
        (it.into.after, it.into.keeps, it.into.sends, it.heads);
  }

  -- ---- a clash

  two_constants : (one other : List ℕ) → IsClashed rules end one other → (database : Database) → Meets rules database
      → (m : Term → Value) → Keeps Text m → Sends m start.body database → ⊥
  two_constants one other clash database meets m keeps sends =
      let received = all.received m database keeps sends meets in
      let value = received.value in
      let same = one_value_at rules end.body database received.value received.keeps received.sends meets clash.number clash.body clash.left clash.right clash.m
      clash.is_next.there clash.is_next.active.keeps (Sends-match clash.m clash.body end.body clash.places clash.is_next.active.matches) in
      let both : received.value (Const one) ≡ received.value (Const other) = elim clash.sides [
        | inl told ↦ sym (ap received.value told.0) ∙ same ∙ ap received.value told.1
        | inr told ↦ sym (ap received.value told.1) ∙ sym same ∙ ap received.value told.0
      ] in
      let texts : Text one ≡ Text other = sym (received.keeps one) ∙ both ∙ received.keeps other in
      let same_text : one ≡ other = cc in
      less-apart (Const one) (Const other) clash.lesser (ap Const same_text)

  a_denial : (number : ℕ) → IsDenied rules end number → (database : Database) → Meets rules database
      → (m : Term → Value) → Keeps Text m → Sends m start.body database → ⊥
  a_denial number stop database meets m keeps sends =
      let received = all.received m database keeps sends meets in
      let sent = Sends-match stop.m stop.body end.body stop.places stop.is_next.active.matches in
      meets (denial stop.body) (Contains-at rules number (denial stop.body) stop.is_next.there) (λ term. received.value (stop.m term))
      (λ text. ap received.value (stop.is_next.active.keeps text) ∙ received.keeps text)
      (Sends-then stop.m received.value stop.body end.body database sent received.sends)

  pub receives_nothing : (clash : Clash) → HasClashed rules end clash → (database : Database) → Meets rules database
      → (m : Term → Value) → Keeps Text m → Sends m start.body database → ⊥
  receives_nothing (Equal one other) clash = two_constants one other clash
  receives_nothing (Denied number) stop = a_denial number stop

-- ---- the run of a query

pub start_has : (query : ConjunctiveQuery) (fact : Fact Term) → Contains (start_of query).body fact ↔ Contains query.body fact
start_has query fact = let together = joined-AreTogether [] query.body (joined [] query.body) refl in (
  (λ inside. elim (together.from fact inside) [ inl none ↦ absurd (Contains-nil fact none) | inr here ↦ here ]),
  together.new fact,
)

pub start_of-IsStart : (query : ConjunctiveQuery) → IsQuery query → IsStart (start_of query)
start_of-IsStart query is = record {
  flat_body = λ term inside. is.flat_body term (Mentions-among (start_of query).body query.body term (λ fact. (start_has query fact).0) inside);
  flat_head = is.flat_head;
}

pub universal_for_query : (rules : List Rule) (query end : ConjunctiveQuery) → IsUniversalFor rules (start_of query) end → IsUniversalFor rules query end
universal_for_query rules query end is = record {
  maps = (is.maps.0, is.maps.1, (λ fact inside. is.maps.2 fact ((start_has query fact).1 inside)), is.maps.3);
  followed = λ database meets m keeps sends. is.followed database meets m keeps (λ fact inside. sends fact ((start_has query fact).0 inside));
}

pub satisfiable_alike : (rules : List Rule) (query : ConjunctiveQuery) → IsSatisfiable rules query ↔ IsSatisfiable rules (start_of query)
satisfiable_alike rules query = (
  (λ (database, meets, (row, (m, keeps, sends, is))).
      (database, meets, (row, (m, keeps, (λ fact inside. sends fact ((start_has query fact).0 inside)), is)))),
  (λ (database, meets, (row, (m, keeps, sends, is))).
      (database, meets, (row, (m, keeps, (λ fact inside. sends fact ((start_has query fact).1 inside)), is)))),
)
