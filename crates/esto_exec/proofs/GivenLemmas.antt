-- Gets that read rows which were asked for beforehand give what the others give.
use Rattle.std.proofs.Common.{◌≡◌, ◌≢◌, ◌↔◌, inl, inr, ℕ, ◌+◌, ◌<◌, ◌≤◌, List, [], ◌++◌, length, take}
use Rattle.std.proofs.Common.{Some, slice_get, Contains, refl, sym, ap, ◌∙◌, subst, arith}
use Rattle.std.proofs.lemmas.List.{length-take-le}
use Rattle.std.proofs.lemmas.List.Elements.{Contains-append_left, Contains-append_right, Contains-append_cases}
use Rattle.std.proofs.lemmas.Option.{slice_get_within}
use Rattle.esto_semantics.specs.declared.fact.Fact.{Fact}
use Rattle.esto_term.proofs.ListLemmas.{Contains-nil, at_left, thing_at}
use Rattle.esto_steps.specs.declared.steps.Get.{Get}
use Rattle.esto_steps.specs.declared.steps.Link.{Link}
use Rattle.esto_steps.specs.declared.steps.Source.{Source}
use Rattle.esto_steps.specs.declared.steps.Source.TheVariants.{Code, Cell}
use Rattle.esto_steps.specs.Meaning.{code_at, IsMet, Follows, Leads, IsResult}
use Rattle.esto_steps.proofs.NamedLemmas.{front}
use Rattle.esto_exec.specs.Slots.{side_of, equations_from}
use Rattle.esto_exec.specs.Turns.{AreArities}
use Rattle.esto_exec.specs.Given.{IsFreed, IsLike, AreGiven}
use Rattle.esto_exec.specs.declared.slots.Side.TheVariants.{Nothing}
use Rattle.esto_exec.proofs.SlotLemmas.{cells_from, AreLong, side_inside}
use Rattle.esto_exec.proofs.HubLemmas.{same_self}
use Rattle.esto_exec.proofs.ResultLemmas.{IsNext, Goes, leads_goes, goes_leads, rows_long, goes_choice}

-- ---- links

-- what is met in cells is met where the row stands after them
met_more : (cells row : List ℕ) (link : Link) → IsMet cells row link → IsMet (cells ++ row) row link
met_more cells row link (code, there, is) = (code, there, by link.source is)
  where
    by : (source : Source) → code_at cells source ≡ Some code → code_at (cells ++ row) source ≡ Some code
    by (Code known) same = same
    by (Cell place) same = at_left cells row place code same

-- what is met there is met in the cells alone where its source names something in these
met_less : (choice : ℕ → List ℕ) (arities row : List ℕ) (link : Link) → AreLong choice 0 arities → side_of arities link.source ≢ Nothing
    → IsMet (cells_from choice 0 (length arities) ++ row) row link → IsMet (cells_from choice 0 (length arities)) row link
met_less choice arities row link long sided (code, there, is) = (code, there, by link.source sided is)
  where
    by : (source : Source) → side_of arities source ≢ Nothing → code_at (cells_from choice 0 (length arities) ++ row) source ≡ Some code
        → code_at (cells_from choice 0 (length arities)) source ≡ Some code
    by (Code known) something same = same
    by (Cell place) something same =
        sym (front (cells_from choice 0 (length arities)) row place (side_inside choice 0 arities place long something)) ∙ same

-- ---- a row that follows

like_follows : (get own : Get) (cells row : List ℕ) → IsLike get own → Follows get cells row → Follows own cells row
like_follows get own cells row like follows = record {
  inputs = λ link linked. follows.inputs link (subst (λ links. Contains links link) like.inputs linked);
  filters = λ link linked. follows.filters link (subst (λ links. Contains links link) like.filters linked);
}

like_back : (get own : Get) → IsLike get own → IsLike own get
like_back get own like = record { inputs = sym like.inputs; filters = sym like.filters }

freed_follows : (arities : List ℕ) (number : ℕ) (get own : Get) (cells row : List ℕ) → IsFreed arities number get own → Follows get cells row
    → Follows own cells row
freed_follows arities number get own cells row freed follows = record {
  inputs = λ link linked. absurd (Contains-nil link (subst (λ links. Contains links link) freed.inputs linked));
  filters = λ link linked. elim (Contains-append_cases get.inputs get.filters link (subst (λ links. Contains links link) freed.filters linked)) [
    | inl input ↦ met_more cells row link (follows.inputs link input)
    | inr filter ↦ follows.filters link filter
  ];
}

follows_freed : (choice : ℕ → List ℕ) (arities : List ℕ) (number : ℕ) (get own : Get) (row : List ℕ) → number ≤ length arities
    → AreLong choice 0 (take number arities) → IsFreed arities number get own → Follows own (cells_from choice 0 number) row
    → Follows get (cells_from choice 0 number) row
follows_freed choice arities number get own row within long freed follows = record {
  inputs = λ link linked. subst (λ n. IsMet (cells_from choice 0 n) row link) taken
      (met_less choice (take number arities) row link long (freed.sides link linked)
      (subst (λ n. IsMet (cells_from choice 0 n ++ row) row link) (sym taken)
      (met link (Contains-append_left get.inputs get.filters link linked))));
  filters = λ link linked. met link (Contains-append_right get.inputs get.filters link linked);
}
  where
    taken : length (take number arities) ≡ number
    taken = length-take-le number arities within

    met : (link : Link) → Contains (get.inputs ++ get.filters) link → IsMet (cells_from choice 0 number ++ row) row link
    met link linked = follows.filters link (subst (λ links. Contains links link) (sym freed.filters) linked)

-- ---- a choice for all gets

module _ (Holds Given : Fact ℕ → Type 0) (arities : List ℕ) (gets owns : List Get) (are : AreArities Holds gets arities)
    (given : AreGiven Holds Given arities gets owns (equations_from arities 0 gets)) (choice : ℕ → List ℕ) where
  goes_given : Goes Holds gets 0 choice → Goes Given owns 0 choice
  goes_given goes number own there =
      let get = thing_at gets number (let inside = slice_get_within owns number own there in omega (arith, inside, given.many)) in
      let first : number ≡ 0 + number = omega (arith) in
      let next = subst (IsNext Holds get.0 choice) (sym first) (goes number get.0 get.1) in
      subst (IsNext Given own choice) first (
        given.complete number get.0 own choice get.1 there (λ done named. goes_choice Holds arities gets are.long are.fit
            (equations_from arities 0 gets) (same_self (equations_from arities 0 gets)) choice done goes),
        elim (given.links number get.0 own get.1 there) [
          | inl freed ↦ freed_follows arities number get.0 own (cells_from choice 0 number) (choice number) freed next.1
          | inr like ↦ like_follows get.0 own (cells_from choice 0 number) (choice number) like next.1
        ],
      )

  given_goes : Goes Given owns 0 choice → Goes Holds gets 0 choice
  given_goes goes number get there =
      let first : number ≡ 0 + number = omega (arith) in
      subst (IsNext Holds get choice) first (held number get there, follows)
    where
      each : (n : ℕ) (it : Get) → slice_get gets n ≡ Some it → (own : Get) × (slice_get owns n ≡ Some own) × IsNext Given own choice n
      each n it at =
          let own = thing_at owns n (let inside = slice_get_within gets n it at in omega (arith, inside, given.many)) in
          let first : 0 + n ≡ n = omega (arith) in
          (own.0, own.1, subst (IsNext Given own.0 choice) first (goes n own.0 own.1))

      held : (n : ℕ) (it : Get) → slice_get gets n ≡ Some it → Holds (record { relation = it.fragment; terms = choice n })
      held n it at = let own = each n it at in given.sound n it own.0 (choice n) at own.1 own.2.0

      within : number ≤ length arities
      within = let inside = slice_get_within gets number get there in omega (arith, inside, are.long)

      follows : Follows get (cells_from choice 0 number) (choice number)
      follows =
          let own = each number get there in
          elim (given.links number get own.0 there own.1) [
            | inl freed ↦ follows_freed choice arities number get own.0 (choice number) within
                (rows_long Holds arities gets are.long are.fit choice held number) freed own.2.1
            | inr like ↦ like_follows own.0 get (cells_from choice 0 number) (choice number) (like_back get own.0 like) own.2.1
          ]

-- ---- results

-- where each choice along which the gets lead is one along which the others do, what they lead to is the same
results_go : (Holds Given : Fact ℕ → Type 0) (gets owns : List Get) (head : List Source) (row : List ℕ) → length owns ≡ length gets
    → ((choice : ℕ → List ℕ) → Goes Holds gets 0 choice → Goes Given owns 0 choice) → IsResult Holds (record { gets = gets; head = head }) row
    → IsResult Given (record { gets = owns; head = head }) row
results_go Holds Given gets owns head row many goes (end, leads, names) =
    by (leads_goes Holds gets 0 (λ n. []) [] end refl leads)
  where
    by : ((choice : ℕ → List ℕ) × ((n : ℕ) → n < 0 → choice n ≡ []) × Goes Holds gets 0 choice × (end ≡ cells_from choice 0 (0 + length gets)))
        → IsResult Given (record { gets = owns; head = head }) row
    by (choice, _, along, end_is) = (
      end,
      subst (Leads Given owns []) (ap (λ n. cells_from choice 0 (0 + n)) many ∙ sym end_is) (goes_leads Given owns 0 choice (goes choice along)),
      names,
    )

-- gets that read rows which were asked for beforehand have the results of the gets that they stand for
pub given_results : (Holds Given : Fact ℕ → Type 0) (arities : List ℕ) (gets owns : List Get) (head : List Source) → AreArities Holds gets arities
    → AreGiven Holds Given arities gets owns (equations_from arities 0 gets)
    → (row : List ℕ) → IsResult Holds (record { gets = gets; head = head }) row ↔ IsResult Given (record { gets = owns; head = head }) row
given_results Holds Given arities gets owns head are given row = (
  results_go Holds Given gets owns head row given.many (goes_given Holds Given arities gets owns are given),
  results_go Given Holds owns gets head row (sym given.many) (given_goes Holds Given arities gets owns are given),
)
