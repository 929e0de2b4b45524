-- Facts that meet rules still meet them when facts of other relations come to them; and rules that the facts of documents meet by law.
use Rattle.std.proofs.Common.{◌≡◌, ◌≢◌, inl, inr, ℕ, ◌+◌, ◌-◌, ◌<◌, List, [], ◌∷◌, ◌++◌, Some, slice_get, Contains, refl, sym, ◌∙◌, subst, arith}
use Rattle.std.proofs.lemmas.Bool.{cases_order}
use Rattle.std.proofs.lemmas.List.Elements.{Contains-append_cases, Contains-append_left, Contains-append_right}
use Rattle.std.proofs.lemmas.Option.{same_Some}
use Rattle.esto_mapping.specs.Datasets.{relation_count}
use Rattle.esto_mapping.specs.declared.dataset.Dataset.{Dataset}
use Rattle.esto_semantics.specs.DocumentRules.{atom, document_rules_2}
use Rattle.esto_semantics.specs.Rules.{AreMet, IsMet}
use Rattle.esto_docmodel.proofs.FactLemmas.{facts_meet_rules, these_meet_rules}
use Rattle.esto_docmodel.specs.Forests.{none as no_forest}
use Rattle.esto_docmodel.specs.Shapes.{documents}
use Rattle.esto_docs.specs.Files.{file_trees}
use Rattle.esto_docmodel.specs.declared.words.DataModel.{DataModel}
use Rattle.esto_semantics.specs.Facts.{image}
use Rattle.esto_semantics.specs.Rules.{Rule, tuple, equality, denial}
use Rattle.esto_semantics.specs.declared.fact.Fact.{Fact}
use Rattle.esto_term.proofs.ChoiceLemmas.{pairs_head, pairs_tail}
use Rattle.esto_term.proofs.ListLemmas.{Contains-cases, Contains-head, Contains-nil, Contains-rest}
use Rattle.esto_term.specs.declared.term.Term.{Term}
use Rattle.esto_term.specs.declared.term.Term.TheVariants.{Plain}
use Rattle.esto_fill.specs.Files.{AreApart, AreFactsByModel, AreFactsFrom, AreFactsOf, HasRelation, HaveRisingNames, RiseByModel, nodes_in}
use Rattle.esto_fill.specs.Lawful.{AreAlone, IsAlone, IsAmong, IsOf, KeepLaws}
use Rattle.esto_fill.specs.Laws.{DocumentsAreLawful}
use Rattle.esto_fill.specs.declared.datasets.DatasetBytes.{DatasetBytes}
use Rattle.esto_fill.proofs.MovedLemmas.{fact_relation}

-- ---- lists by their items

none_of : {X : Type 0} (P : X → Type 0) (thing : X) → Contains [] thing → P thing
none_of P thing inside = absurd (Contains-nil thing inside)

one_of : {X : Type 0} (P : X → Type 0) (first : X) (rest : List X) → P first → ((thing : X) → Contains rest thing → P thing) → (thing : X)
    → Contains (first ∷ rest) thing → P thing
one_of P first rest own others thing inside = elim (Contains-cases first rest thing inside) [
  | inl is ↦ subst P is own
  | inr later ↦ others thing later
]

-- ---- rules over some relations

abbrev Over : (ℕ → Type 0) → List (Fact Term) → Type 0
Over Of atoms = (it : Fact Term) → Contains atoms it → Of it.relation

abbrev IsOver : (ℕ → Type 0) → Rule → Type 0
IsOver Of (tuple body head) = Over Of body × Over Of head
IsOver Of (equality body left right) = Over Of body
IsOver Of (denial body) = Over Of body

-- facts that differ in other relations alone meet the rule alike
met_over : (facts others : List (Fact Term)) (Of : ℕ → Type 0) (rule : Rule) → IsOver Of rule
    → ((fact : Fact Term) → Contains facts fact → Contains others fact)
    → ((fact : Fact Term) → Contains others fact → Of fact.relation → Contains facts fact)
    → IsMet facts rule → IsMet others rule
met_over facts others Of (tuple body head) over there back met m keeps sends =
    let got = met m keeps (λ it inside. back (image m it) (sends it inside) (over.0 it inside)) in
    (got.0, got.1, got.2, λ it inside. there (image got.0 it) (got.3 it inside))
met_over facts others Of (equality body left right) over there back met m keeps sends =
    met m keeps (λ it inside. back (image m it) (sends it inside) (over it inside))
met_over facts others Of (denial body) over there back met m keeps sends =
    met m keeps (λ it inside. back (image m it) (sends it inside) (over it inside))

-- ---- the rules of documents

module _ (base : ℕ) where
  abbrev Fits : Rule → Type 0
  Fits rule = IsOver (IsAmong base) rule

  one_atom : (k : ℕ) (variables : List ℕ) → k < 5 → Over (IsAmong base) (atom (base + k) variables ∷ [])
  one_atom k variables less = one_of (λ (it : Fact Term). IsAmong base it.relation) (atom (base + k) variables) [] (omega arith, omega (arith, less))
      (none_of (λ (it : Fact Term). IsAmong base it.relation))

  two_atoms : (k j : ℕ) (variables others : List ℕ) → k < 5 → j < 5 → Over (IsAmong base) (atom (base + k) variables ∷ atom (base + j) others ∷ [])
  two_atoms k j variables others less too =
      one_of (λ (it : Fact Term). IsAmong base it.relation) (atom (base + k) variables) (atom (base + j) others ∷ []) (omega arith, omega (arith, less))
      (one_atom j others too)

  abbrev one_field : Rule
  one_field = equality (atom (base + 1) (0 ∷ 1 ∷ 2 ∷ []) ∷ atom (base + 1) (0 ∷ 1 ∷ 3 ∷ []) ∷ []) (Plain 2) (Plain 3)

  abbrev one_parent : Rule
  one_parent = equality (atom (base + 1) (0 ∷ 1 ∷ 2 ∷ []) ∷ atom (base + 1) (3 ∷ 4 ∷ 2 ∷ []) ∷ []) (Plain 0) (Plain 3)

  abbrev one_name : Rule
  one_name = equality (atom (base + 1) (0 ∷ 1 ∷ 2 ∷ []) ∷ atom (base + 1) (3 ∷ 4 ∷ 2 ∷ []) ∷ []) (Plain 1) (Plain 4)

  abbrev one_array : Rule
  one_array = equality (atom (base + 2) (0 ∷ 1 ∷ []) ∷ atom (base + 2) (2 ∷ 1 ∷ []) ∷ []) (Plain 0) (Plain 2)

  abbrev one_value : Rule
  one_value = equality (atom (base + 3) (0 ∷ 1 ∷ []) ∷ atom (base + 3) (0 ∷ 2 ∷ []) ∷ []) (Plain 1) (Plain 2)

  abbrev field_below : Rule
  field_below = tuple (atom (base + 1) (0 ∷ 1 ∷ 2 ∷ []) ∷ []) (atom (base + 4) (0 ∷ 2 ∷ []) ∷ [])

  abbrev item_below : Rule
  item_below = tuple (atom (base + 2) (0 ∷ 1 ∷ []) ∷ []) (atom (base + 4) (0 ∷ 1 ∷ []) ∷ [])

  abbrev no_root_below : Rule
  no_root_below = denial (atom (base + 0) (0 ∷ []) ∷ atom (base + 4) (1 ∷ 0 ∷ []) ∷ [])

  fits : (rule : Rule) → Contains (document_rules_2 base) rule → Fits rule
  fits =
      one_of Fits one_field (one_parent ∷ one_name ∷ one_array ∷ one_value ∷ field_below ∷ item_below ∷ no_root_below ∷ [])
      (two_atoms 1 1 (0 ∷ 1 ∷ 2 ∷ []) (0 ∷ 1 ∷ 3 ∷ []) (omega arith) (omega arith))
      (one_of Fits one_parent (one_name ∷ one_array ∷ one_value ∷ field_below ∷ item_below ∷ no_root_below ∷ [])
      (two_atoms 1 1 (0 ∷ 1 ∷ 2 ∷ []) (3 ∷ 4 ∷ 2 ∷ []) (omega arith) (omega arith))
      (one_of Fits one_name (one_array ∷ one_value ∷ field_below ∷ item_below ∷ no_root_below ∷ [])
      (two_atoms 1 1 (0 ∷ 1 ∷ 2 ∷ []) (3 ∷ 4 ∷ 2 ∷ []) (omega arith) (omega arith))
      (one_of Fits one_array (one_value ∷ field_below ∷ item_below ∷ no_root_below ∷ []) (two_atoms 2 2 (0 ∷ 1 ∷ []) (2 ∷ 1 ∷ []) (omega arith) (omega arith))
      (one_of Fits one_value (field_below ∷ item_below ∷ no_root_below ∷ []) (two_atoms 3 3 (0 ∷ 1 ∷ []) (0 ∷ 2 ∷ []) (omega arith) (omega arith))
      (one_of Fits field_below (item_below ∷ no_root_below ∷ []) (one_atom 1 (0 ∷ 1 ∷ 2 ∷ []) (omega arith), one_atom 4 (0 ∷ 2 ∷ []) (omega arith))
      (one_of Fits item_below (no_root_below ∷ []) (one_atom 2 (0 ∷ 1 ∷ []) (omega arith), one_atom 4 (0 ∷ 1 ∷ []) (omega arith))
      (one_of Fits no_root_below [] (two_atoms 0 4 (0 ∷ []) (1 ∷ 0 ∷ []) (omega arith) (omega arith))
      (none_of Fits))))))))

-- ---- facts that come to others

abbrev HasNone : ℕ → List (Fact Term) → Type 0
HasNone base facts = (fact : Fact Term) → Contains facts fact → IsAmong base fact.relation → ⊥

met_before : (base : ℕ) (facts others : List (Fact Term)) → HasNone base others → AreMet facts (document_rules_2 base)
    → AreMet (facts ++ others) (document_rules_2 base)
met_before base facts others none met rule inside =
    met_over facts (facts ++ others) (IsAmong base) rule (fits base rule inside) (λ fact there. Contains-append_left facts others fact there)
    (λ fact there among. elim (Contains-append_cases facts others fact there) [ inl mine ↦ mine | inr its ↦ absurd (none fact its among) ])
    (met rule inside)

met_after : (base : ℕ) (facts others : List (Fact Term)) → HasNone base facts → AreMet others (document_rules_2 base)
    → AreMet (facts ++ others) (document_rules_2 base)
met_after base facts others none met rule inside =
    met_over others (facts ++ others) (IsAmong base) rule (fits base rule inside) (λ fact there. Contains-append_right facts others fact there)
    (λ fact there among. elim (Contains-append_cases facts others fact there) [ inl its ↦ absurd (none fact its among) | inr mine ↦ mine ])
    (met rule inside)

-- ---- the rules of documents that no other dataset's facts can break

module _ (datasets : List Dataset) (number base : ℕ) (are : AreAlone datasets number base) where
  -- the facts of a file of another dataset have none of the relations
  other_none : (file : DatasetBytes) (dataset : Dataset) (first : ℕ) (own : List (Fact Term)) → slice_get datasets file.dataset ≡ Some dataset
      → AreFactsOf dataset file.bytes first own → (file.dataset ≡ number → ⊥) → HasNone base own
  other_none file dataset first own there facts apart fact inside among =
      let relation = fact_relation dataset.model dataset file.bytes first own fact facts inside in
      apart (are.alone file.dataset fact.relation (dataset, relation.0, there, relation.1, relation.2) among)

  -- nor have those of files of other datasets
  others_none : (first : ℕ) (files : List DatasetBytes) (facts : List (Fact Term)) (next : ℕ)
      → ((file : DatasetBytes) → Contains files file → file.dataset ≡ number → ⊥) → AreFactsFrom datasets first files facts next → HasNone base facts
  others_none first [] facts next apart (empty, ends) fact inside among = Contains-nil fact (subst (λ those. Contains those fact) empty inside)
  others_none first (file ∷ files) facts next apart (dataset, own, others, there, is, rest, whole) fact inside among =
      elim (Contains-append_cases own others fact (subst (λ those. Contains those fact) whole inside)) [
        | inl mine ↦ other_none file dataset first own there is (apart file (Contains-head file files)) fact mine among
        | inr later ↦ others_none (first + nodes_in dataset file.bytes) files others next
            (λ it in_rest. apart it (Contains-rest file files it in_rest)) rest fact later among
      ]

  -- its own facts meet the rules
  own_meet : (dataset : Dataset) (bytes : List ℕ) (first : ℕ) (own : List (Fact Term)) → are.dataset ≡ dataset → AreFactsOf dataset bytes first own
      → RiseByModel dataset.model dataset bytes → AreMet own (document_rules_2 base)
  own_meet dataset bytes first own same facts rising =
      let model : dataset.model ≡ DataModel.Documents = subst (λ (it : Dataset). it.model ≡ DataModel.Documents) same are.model in
      let based : dataset.base ≡ base = subst (λ (it : Dataset). it.base ≡ base) same are.based in
      subst (λ it. AreMet own (document_rules_2 it)) based
      (these_meet_rules dataset.base first (documents (file_trees dataset.layout bytes)) own
      (subst (λ it. AreFactsByModel it dataset bytes first own) model facts) (subst (λ it. RiseByModel it dataset bytes) model rising))

  -- and the facts of all files do
  all_meet : (first : ℕ) (files : List DatasetBytes) (facts : List (Fact Term)) (next : ℕ) → AreApart files → HaveRisingNames datasets files
      → AreFactsFrom datasets first files facts next → AreMet facts (document_rules_2 base)
  all_meet first [] facts next apart rising (empty, ends) =
      subst (λ those. AreMet those (document_rules_2 base)) (sym empty) (facts_meet_rules base first no_forest tt)
  all_meet first (file ∷ files) facts next apart rising (dataset, own, others, there, is, rest, whole) =
      subst (λ those. AreMet those (document_rules_2 base)) (sym whole) (elim (cases_order file.dataset number) [
        | inl same ↦
            let dataset_is : are.dataset ≡ dataset =
            same_Some are.dataset dataset (sym are.there ∙ subst (λ it. slice_get datasets it ≡ Some dataset) same there) in
            met_before base own others
            (others_none (first + nodes_in dataset file.bytes) files others next
            (λ it inside its. pairs_head (λ one other. one.dataset ≢ other.dataset) file files apart it inside (same ∙ sym its)) rest)
            (own_meet dataset file.bytes first own dataset_is is (rising file dataset (Contains-head file files) there))
        | inr differ ↦
            met_after base own others
            (other_none file dataset first own there is (λ same. elim differ [
              | inl less ↦ absurd (omega (arith, same, less))
              | inr more ↦ absurd (omega (arith, same, more))
            ]))
            (all_meet (first + nodes_in dataset file.bytes) files others next (pairs_tail (λ one other. one.dataset ≢ other.dataset) file files apart)
            (λ it its inside at. rising it its (Contains-rest file files it inside) at) rest)
      ])

pub documents_are_lawful : DocumentsAreLawful
documents_are_lawful datasets files first facts next rules apart rising from laws rule inside =
    let law = laws rule inside in all_meet datasets law.0 law.1 law.2 first files facts next apart rising from rule law.3

-- ---- laws that are found

-- the rules of documents that are alone
pub laws_more : (datasets : List Dataset) (number : ℕ) (dataset : Dataset) (old new more : List Rule) → slice_get datasets number ≡ Some dataset
    → dataset.model ≡ DataModel.Documents → IsAlone datasets number dataset → more ≡ document_rules_2 dataset.base → new ≡ old ++ more
    → KeepLaws datasets old new
laws_more datasets number dataset old new more there model lone own is before rule inside =
    elim (Contains-append_cases old more rule (subst (λ those. Contains those rule) is inside)) [
      | inl early ↦ before rule early
      | inr late ↦ (
        number,
        dataset.base,
        record { dataset = dataset; there = there; model = model; based = refl; alone = alone },
        subst (λ those. Contains those rule) own late,
      )
    ]
  where
    of_it : (relation : ℕ) → IsAmong dataset.base relation → IsOf dataset relation
    of_it relation (from, to) = (
      relation - dataset.base,
      subst (λ it. relation - dataset.base < relation_count it) (sym model) (omega (arith, from, to)),
      omega (arith, from),
    )

    alone : (other relation : ℕ) → HasRelation datasets other relation → IsAmong dataset.base relation → other ≡ number
    alone other relation (its, place, at, less, same) among = elim (cases_order other number) [
      | inl one ↦ one
      | inr differ ↦ absurd (lone other its at (λ one. elim differ [
        | inl fewer ↦ absurd (omega (arith, one, fewer))
        | inr more_ ↦ absurd (omega (arith, one, more_))
      ]) relation (of_it relation among) (place, less, same))
    ]
