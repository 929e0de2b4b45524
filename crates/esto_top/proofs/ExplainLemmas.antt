-- What `explain` answers where the files say a catalogue and a query over it.
use Rattle.std.proofs.Common.{◌≡◌, ◌≢◌, ◌↔◌, ℕ, ◌-◌, ◌<◌, List, [], length, slice_get, Some, None, refl, sym, ap, subst, ◌∙◌, arith}
use Rattle.std.proofs.lemmas.Option.{none-some, same_Some, slice_get_within}
use Rattle.esto_mapping.specs.declared.catalogue.Catalogue.{Catalogue}
use Rattle.esto_cert.specs.declared.line.Line.TheVariants.{Match}
use Rattle.esto_top.specs.Explain.{explain_course}
use Rattle.esto_top.specs.CertificateLaws.{Certifies, CertifiesOverPlans, ExplainSaysCertificates, IsExplained}
use Rattle.esto_top.specs.CertificateLaws.IsExplained.{clashes, has_no_set, explains}
use Rattle.esto_status.specs.declared.limits.TheConstants.{DATA_LIMIT}
use Rattle.esto_chase_laws.specs.declared.clash.Clash.{Clash}
use Rattle.esto_course.specs.Course.{judges}
use Rattle.esto_list.specs.declared.listing.Listed.{Listed}
use Rattle.esto_query.specs.Same.{IsSameQuery}
use Rattle.esto_status.specs.Line.{line_of}
use Rattle.esto_status.specs.declared.status.Status.{Status}
use Rattle.esto_status.specs.declared.status.Status.TheVariants as status
use Rattle.esto_rewriting.specs.Alike.{IsSamePlan}
use Rattle.esto_rewriting.specs.Choice.{HasNoPlace}
use Rattle.esto_rewriting.specs.Choice.HasNoPlace.{is_above, is_empty}
use Rattle.esto_rewriting.specs.Listing.{IsClash, IsListOf, IsPlanned}
use Rattle.esto_query.specs.declared.query.Query.{Query}
use Rattle.esto_semantics.specs.Queries.{ConjunctiveQuery}
use Rattle.esto_views.specs.declared.plan.Plan.{Plan}
use Rattle.esto_run.proofs.SameLemmas.{itself}
use Rattle.esto_status.proofs.StatusLemmas.{clash_not_above, none_not_above, done_not_above}
use Rattle.esto_top.specs.CertificateOutcomes.{IsExactExplain, IsNumbered, OutcomesAreExplained, OutcomesAreVerified}
use Rattle.esto_top.specs.CertificateOutcomes.{OutcomesOfExplainAreAccepted}
use Rattle.esto_top.specs.Headline.{HasAnswers, IsExactRefusal, Rewrites}
use Rattle.esto_top.specs.Laws.{ListingLaws}
use Rattle.esto_top.specs.Outcome.{Says}
use Rattle.esto_top.specs.Runs.{IsAboveList}
use Rattle.esto_top.proofs.DataLemmas.{says_fact}
use Rattle.esto_top.proofs.ExplainWords.{explain_words}
use Rattle.esto_top.proofs.HeadlineLemmas.{empty-without}
use Rattle.esto_top.proofs.MarkLemmas.{lines_within}
use Rattle.esto_top.proofs.SayLemmas.{catalogue_opens, query_opens}
use Rattle.esto_top.proofs.CertificateLemmas.{above_one}

-- ---- statuses apart

clash_done : (clash : Clash) → status.Unsatisfiable clash ≡ status.Done → ⊥
clash_done clash same = cc

none_done : status.NoRewriting ≡ status.Done → ⊥
none_done same = cc

above_done : (asked count : ℕ) → status.NoSuchNumber asked count ≡ status.Done → ⊥
above_done asked count same = cc

done_none : status.Done ≡ status.NoRewriting → ⊥
done_none same = cc

-- ---- plans and lists

-- a query says the same as itself
same_query : (query : Query) → IsSameQuery query query
same_query query = record { head = refl; body = refl; names = refl }

module _ (laws : ListingLaws) (catalogue : Catalogue) (query : Query) (number : ℕ) where
  -- printed plans of one query have one list
  one_list : (plan other : Plan) (items others : List Listed) → IsPlanned catalogue query plan → IsPlanned catalogue query other
      → IsListOf catalogue query plan items → IsListOf catalogue query other others → items ≡ others
  unfolding judges
  one_list plan other items others planned other_planned list other_list =
      let plans : IsSamePlan plan other =
      (laws.planning.plan catalogue catalogue query query (itself catalogue) (same_query query)).one plan other planned other_planned in
      (laws.planning.list catalogue catalogue query query plan other (itself catalogue) (same_query query) plans).one items others list other_list

  never_clashes : (clash : Clash) → IsClash catalogue query clash → ¬ (HasAnswers catalogue query)
  never_clashes = laws.unsatisfiable catalogue query

  -- a refusal of the query tells that it is unsatisfiable
  refusal_tells : (said : Status) (text : List ℕ) → IsExactRefusal catalogue query said text → ¬ (HasAnswers catalogue query)
  refusal_tells said text (clash, ends, said_is, text_is) = never_clashes clash ends

  -- ---- the query's run ends with a clash

  module _ (said : Status) (text : List ℕ) (clash : Clash) (ends : IsClash catalogue query clash) (is : said ≡ status.Unsatisfiable clash)
      (line : text ≡ line_of said) where
    never_planned : (plan : Plan) → IsPlanned catalogue query plan → ⊥
    never_planned plan planned = never_clashes clash ends (laws.satisfiable catalogue query plan planned)

    clash_exact : IsExactExplain catalogue query number said text
    clash_exact = record {
      refused = (λ never. (clash, ends, is, line ∙ ap line_of is), refusal_tells said text);
      no_rewriting = λ answers. absurd (never_clashes clash ends answers);
      no_number = λ asked count.
          ((λ tells. absurd (clash_not_above clash asked count (sym is ∙ tells))), (λ above. absurd (never_planned above.plan above.planned)));
      done = ((λ tells. absurd (clash_done clash (sym is ∙ tells))), (λ (plan, item, at). absurd (never_planned plan at.planned)));
      certifies = λ plan item at. absurd (never_planned plan at.planned);
      line = λ undone. line;
    }

  -- ---- it has a plan, with a list

  module _ (plan : Plan) (items : List Listed) (planned : IsPlanned catalogue query plan) (list : IsListOf catalogue query plan items) where
    answers_here : HasAnswers catalogue query
    answers_here = laws.satisfiable catalogue query plan planned

    above_items : (asked count : ℕ) (above : IsAboveList catalogue query (Some number) asked count) → items ≡ above.items
    above_items asked count above = one_list plan above.plan items above.items planned above.planned list above.list

    numbered_items : (other : Plan) (item : Listed) → IsNumbered catalogue query number other item → slice_get items (number - 1) ≡ Some item
    numbered_items other item at =
        ap (λ (it : List Listed). slice_get it (number - 1)) (one_list plan other items at.items planned at.planned list at.list) ∙ at.there

    empty_here : (items ≡ []) ↔ ((other : ConjunctiveQuery) → ¬ (Rewrites catalogue query other))
    empty_here = empty-without laws catalogue query plan planned items list

    refused_here : (said : Status) (text : List ℕ) → ¬ (HasAnswers catalogue query) ↔ IsExactRefusal catalogue query said text
    refused_here said text = ((λ never. absurd (never answers_here)), refusal_tells said text)

    module _ (said : Status) (text : List ℕ) (line : text ≡ line_of said) where
      -- no set is listed
      module _ (empty : items ≡ []) (is : said ≡ status.NoRewriting) where
        none_numbered : (other : Plan) (item : Listed) → IsNumbered catalogue query number other item → ⊥
        none_numbered other item at =
            none-some item (sym (ap (λ (it : List Listed). slice_get it (number - 1)) empty) ∙ numbered_items other item at)

        empty_exact : IsExactExplain catalogue query number said text
        empty_exact = record {
          refused = refused_here said text;
          no_rewriting = λ answers. ((λ tells. empty_here.0 empty), (λ absent. is));
          no_number = λ asked count. (
            (λ tells. absurd (none_not_above asked count (sym is ∙ tells))),
            (λ above. absurd (above.some (sym (above_items asked count above) ∙ empty))),
          );
          done = ((λ tells. absurd (none_done (sym is ∙ tells))), (λ (other, item, at). absurd (none_numbered other item at)));
          certifies = λ other item at. absurd (none_numbered other item at);
          line = λ undone. line;
        }

      -- the number is above the list
      module _ (some : items ≢ []) (less : length items < number) (is : said ≡ status.NoSuchNumber number (length items)) where
        past_numbered : (other : Plan) (item : Listed) → IsNumbered catalogue query number other item → ⊥
        past_numbered other item at =
            let within : number - 1 < length items = slice_get_within items (number - 1) item (numbered_items other item at) in
            omega (arith, within, less)

        above_exact : IsExactExplain catalogue query number said text
        above_exact = record {
          refused = refused_here said text;
          no_rewriting = λ answers. (
            (λ tells. absurd (none_not_above number (length items) (sym tells ∙ is))),
            (λ absent. absurd (some (empty_here.1 absent))),
          );
          no_number = λ asked count. (
            (λ tells.
                let one = above_one number (length items) asked count (sym is ∙ tells) in
                record {
                  asks = ap Some one.0;
                  plan = plan;
                  planned = planned;
                  items = items;
                  list = list;
                  some = some;
                  counts = one.1;
                  above = omega (arith, less, one.0, one.1);
                }),
            (λ above. is
                ∙ (λ i. status.NoSuchNumber (same_Some number asked above.asks i) ((ap length (above_items asked count above) ∙ above.counts) i))),
          );
          done = ((λ tells. absurd (above_done number (length items) (sym is ∙ tells))), (λ (other, item, at). absurd (past_numbered other item at)));
          certifies = λ other item at. absurd (past_numbered other item at);
          line = λ undone. line;
        }

    -- a set of the list has the number
    module _ (said : Status) (text : List ℕ) (item : Listed) (there : slice_get items (number - 1) ≡ Some item) (is : said ≡ status.Done)
        (certificate : CertifiesOverPlans catalogue query item.set text) where
      numbered_here : IsNumbered catalogue query number plan item
      numbered_here = record { planned = planned; items = items; list = list; there = there }

      not_above : (asked count : ℕ) → IsAboveList catalogue query (Some number) asked count → ⊥
      not_above asked count above =
          let within : number - 1 < length items = slice_get_within items (number - 1) item there in
          omega (arith, within, above.above, above.counts, ap length (above_items asked count above), same_Some number asked above.asks)

      done_exact : IsExactExplain catalogue query number said text
      done_exact = record {
        refused = refused_here said text;
        no_rewriting = λ answers. (
          (λ tells. absurd (done_none (sym is ∙ tells))),
          (λ absent. absurd (none-some item (sym (ap (λ (it : List Listed). slice_get it (number - 1)) (empty_here.1 absent)) ∙ there))),
        );
        no_number = λ asked count. (
          (λ tells. absurd (done_not_above asked count (sym is ∙ tells))),
          (λ above. absurd (not_above asked count above)),
        );
        done = ((λ tells. (plan, item, numbered_here)), (λ found. is));
        certifies = λ other its at. subst (λ (it : Listed). Certifies catalogue query other it.set text)
            (same_Some item its (sym there ∙ numbered_items other its at)) (certificate other at.planned);
        line = λ undone. absurd (undone is);
      }

    no_place_exact : (said : Status) (text : List ℕ) → text ≡ line_of said → HasNoPlace items (Some number) said
        → IsExactExplain catalogue query number said text
    no_place_exact said text line (is_empty empty is) = empty_exact said text line empty is
    no_place_exact said text line (is_above asked asked_is some less is) =
        let same : number ≡ asked = same_Some number asked asked_is in
        above_exact said text line some (subst (λ (it : ℕ). length items < it) (sym same) less)
        (is ∙ ap (λ (it : ℕ). status.NoSuchNumber it (length items)) (sym same))

  pub exact_explain : (said : Status) (text : List ℕ) → IsExplained catalogue query number said text → IsExactExplain catalogue query number said text
  exact_explain said text (clashes clash ends is line) = clash_exact said text clash ends is line
  exact_explain said text (has_no_set plan items planned list none line) = no_place_exact plan items planned list said text line none
  exact_explain said text (explains plan items place item planned list chosen there is certificate) =
      done_exact plan items planned list said text item (sym (ap (slice_get items) chosen.0) ∙ there) is certificate

-- ---- the outcomes

pub outcomes_are_explained : ListingLaws → ExplainSaysCertificates → OutcomesAreExplained
outcomes_are_explained laws certificates words files catalogue_name query_name number catalogue query said text asks say outcome =
    exact_explain laws catalogue query number said text
    (says_fact (explain_course (Some files) catalogue_name query_name number) (IsExplained catalogue query number) said text
    (certificates files catalogue query number catalogue_name query_name (catalogue_opens files catalogue_name catalogue say.says_catalogue)
    (query_opens files query_name catalogue query say.says_query))
    (subst (λ it. Says it ⊥ said text) (explain_words words catalogue_name query_name number (Some files) asks) outcome))

-- what `explain` puts is accepted by `verify`
pub explained_accepted : OutcomesAreExplained → OutcomesAreVerified → OutcomesOfExplainAreAccepted
explained_accepted explained verified words others files later catalogue_name query_name other_catalogue other_query numbers file number catalogue query plan
    item written said text asks say outcome at asks_verify say_later holds short is_set verdict =
    let certificate = (explained words files catalogue_name query_name number catalogue query status.Done written asks say outcome).certifies plan item at in
    let derived = certificate.derived.2 in
    let within = lines_within written derived.lines (Match derived.facts derived.links) derived.are_lines later file DATA_LIMIT holds short in
    ((verified others later other_catalogue other_query numbers file catalogue query said text asks_verify say_later verdict).verifies plan
    at.planned).verdict item.set written None is_set within certificate.accepted
