-- The facts of files under other numbers of their nodes, and answers over some of the files.
use Rattle.std.proofs.Common.{◌≡◌, ◌≢◌, inl, inr, ℕ, suc, ◌≤◌, ◌<◌, ◌+◌, ◌-◌, ◌==◌, ltb, true, false, cond, List, [], ◌∷◌, ◌++◌, map, Option, None, Some}
use Rattle.std.proofs.Common.{slice_get, Contains, refl, sym, ap, ◌∙◌, subst, arith}
use Rattle.std.proofs.lemmas.Bool.Decides.{nat_tests}
use Rattle.std.proofs.lemmas.List.{map-append}
use Rattle.std.proofs.lemmas.List.Elements.{Contains-append_cases, Contains-append_left, Contains-append_right}
use Rattle.std.proofs.lemmas.Option.{same_Some}
use Rattle.esto_mapping.specs.Datasets.{relation_count}
use Rattle.esto_mapping.specs.declared.dataset.Dataset.{Dataset}
use Rattle.esto_docmodel.specs.DocumentFacts.{DocFact, root, field, item, value, below, carried, kind, flat}
use Rattle.esto_docmodel.specs.Encodings.{size, entering, belows, holding, facts_from, facts_of}
use Rattle.esto_docmodel.specs.Forests.{Label, name, place, Forest, none, kid}
use Rattle.esto_docmodel.specs.Shapes.{documents}
use Rattle.esto_docs.specs.Files.{file_trees}
use Rattle.esto_docmodel.specs.declared.words.DataModel.{DataModel}
use Rattle.esto_relmodel.specs.RowFacts.{row_fact, AreRowFacts}
use Rattle.esto_semantics.specs.Facts.{image}
use Rattle.esto_semantics.specs.Queries.{ConjunctiveQuery, IsAnswer}
use Rattle.esto_semantics.specs.declared.fact.Fact.{Fact}
use Rattle.esto_semantics.specs.declared.fact.Value.{Value}
use Rattle.esto_semantics.specs.declared.fact.Value.TheVariants.{Text, Node}
use Rattle.esto_semantics.proofs.FactLemmas.{image_then, image_agree}
use Rattle.esto_stores.specs.Rows.{Row}
use Rattle.esto_term.specs.declared.term.Term.{Term}
use Rattle.esto_term.specs.declared.term.Term.TheVariants.{Const, Plain}
use Rattle.esto_term.proofs.ChoiceLemmas.{pairs_head, pairs_tail}
use Rattle.esto_term.proofs.ListLemmas.{Contains-cases, Contains-head, Contains-map, Contains-map_from, Contains-nil, Contains-rest, map_then}
use Rattle.esto_fill.specs.Databases.{value_of, database_of}
use Rattle.esto_fill.specs.Files.{nodes_by_model, nodes_in, AreApart, AreFactsByModel, AreFactsOf, AreFactsFrom, HasRelation}
use Rattle.esto_fill.specs.Laws.{AnswersRestOnDatasets}
use Rattle.esto_fill.specs.declared.datasets.DatasetBytes.{DatasetBytes}
use Rattle.esto_fill.proofs.LawLemmas.{row_facts_one}
use Rattle.esto_fill.proofs.ValueLemmas.{value_Const, value_Plain}

spread : {A B : Type 0} (m : A → B) (one two three four : List A)
    → map m (one ++ (two ++ (three ++ four))) ≡ map m one ++ (map m two ++ (map m three ++ map m four))
spread m one two three four =
    map-append m one (two ++ (three ++ four))
    ∙ ap (λ those. map m one ++ those) (map-append m two (three ++ four) ∙ ap (λ those. map m two ++ those) (map-append m three four))

-- what stands in the database of some of the facts stands in that of all
in_database : (some facts : List (Fact Term)) → ((fact : Fact Term) → Contains some fact → Contains facts fact) → (fact : Fact Value)
    → Contains (database_of some) fact → Contains (database_of facts) fact
in_database some facts within fact inside =
    let from = Contains-map_from (image value_of) some fact inside in
    subst (Contains (database_of facts)) from.2 (Contains-map (image value_of) facts from.0 (within from.0 from.1))

-- ---- nodes under other numbers

module _ (number : ℕ → ℕ) where
  -- a node has another number, and a text stays
  abbrev pub moved : Value → Value
  moved (Text text) = Text text
  moved (Node node) = Node (number node)

  -- the value of a term under other numbers
  abbrev other_value : Term → Value
  other_value term = moved (value_of term)

  node : (n : ℕ) → other_value (Plain n) ≡ value_of (Plain (number n))
  node n = ap moved (value_Plain n) ∙ sym (value_Plain (number n))

  text : (bytes : List ℕ) → other_value (Const bytes) ≡ value_of (Const bytes)
  text bytes = ap moved (value_Const bytes) ∙ sym (value_Const bytes)

  -- ---- the facts of documents

  abbrev Told : DocFact Term → DocFact Term → Type 0
  Told fact other = carried other_value fact ≡ carried value_of other

  entering_moved : (above : List ℕ) (label : Label) (n : ℕ) → Told (entering above label n) (entering (map number above) label (number n))
  entering_moved [] label n = ap root (node n)
  entering_moved (parent ∷ above) (name k) n =
      let p = node parent in let q = text k in let r = node n in λ i. field (p i) (q i) (r i)
  entering_moved (parent ∷ above) place n = let p = node parent in let r = node n in λ i. item (p i) (r i)

  belows_moved : (above : List ℕ) (n : ℕ) → map (carried other_value) (belows above n) ≡ map (carried value_of) (belows (map number above) (number n))
  belows_moved [] n = refl
  belows_moved (parent ∷ above) n =
      let p = node parent in let r = node n in
      let last : carried other_value (below (Plain parent) (Plain n)) ≡ carried value_of (below (Plain (number parent)) (Plain (number n))) =
      λ i. below (p i) (r i) in
      map-append (carried other_value) (belows above n) (below (Plain parent) (Plain n) ∷ [])
      ∙ ap (λ those. those ++ carried other_value (below (Plain parent) (Plain n)) ∷ []) (belows_moved above n)
      ∙ ap (λ it. map (carried value_of) (belows (map number above) (number n)) ++ it ∷ []) last
      ∙ sym (map-append (carried value_of) (belows (map number above) (number n)) (below (Plain (number parent)) (Plain (number n)) ∷ []))

  holding_moved : (content : Option (List ℕ)) (n : ℕ) → map (carried other_value) (holding content n) ≡ map (carried value_of) (holding content (number n))
  holding_moved None n = refl
  holding_moved (Some bytes) n = let p = node n in let q = text bytes in λ i. value (p i) (q i) ∷ []

  -- the numbers from n on are moved to those from `to` on
  abbrev Moves : ℕ → ℕ → ℕ → Type 0
  Moves n to count = (k : ℕ) → k < count → number (n + k) ≡ to + k

  forest_moved : (above : List ℕ) (n to : ℕ) (forest : Forest) → Moves n to (size forest)
      → map (carried other_value) (facts_from above n forest) ≡ map (carried value_of) (facts_from (map number above) to forest)
  forest_moved above n to none moves = refl
  forest_moved above n to (kid label content inside rest) moves =
      whole (forest_moved (n ∷ above) (suc n) (suc to) inside in_it) (forest_moved above (suc n + size inside) (suc to + size inside) rest after_it)
    where
      here : number n ≡ to
      here = let zero_more : n + 0 ≡ n = omega arith in let none_more : to + 0 ≡ to = omega arith in
          ap number (sym zero_more) ∙ moves 0 (omega arith) ∙ none_more

      in_it : Moves (suc n) (suc to) (size inside)
      in_it k within = let same : suc n + k ≡ n + suc k = omega arith in let too : to + suc k ≡ suc to + k = omega arith in
          ap number same ∙ moves (suc k) (omega (arith, within)) ∙ too

      after_it : Moves (suc n + size inside) (suc to + size inside) (size rest)
      after_it k within =
          let same : suc n + size inside + k ≡ n + (suc (size inside) + k) = omega arith in
          let too : to + (suc (size inside) + k) ≡ suc to + size inside + k = omega arith in
          ap number same ∙ moves (suc (size inside) + k) (omega (arith, within)) ∙ too

      whole : map (carried other_value) (facts_from (n ∷ above) (suc n) inside) ≡ map (carried value_of)
          (facts_from (number n ∷ map number above) (suc to) inside)
          → map (carried other_value) (facts_from above (suc n + size inside) rest)
          ≡ map (carried value_of) (facts_from (map number above) (suc to + size inside) rest)
          → map (carried other_value) (facts_from above n (kid label content inside rest))
          ≡ map (carried value_of) (facts_from (map number above) to (kid label content inside rest))
      whole one two =
          let first : carried other_value (entering above label n) ≡ carried value_of (entering (map number above) label to) =
          entering_moved above label n ∙ ap (λ m. carried value_of (entering (map number above) label m)) here in
          let up : map (carried other_value) (belows above n) ≡ map (carried value_of) (belows (map number above) to) =
          belows_moved above n ∙ ap (λ m. map (carried value_of) (belows (map number above) m)) here in
          let held : map (carried other_value) (holding content n) ≡ map (carried value_of) (holding content to) =
          holding_moved content n ∙ ap (λ m. map (carried value_of) (holding content m)) here in
          let down : map (carried other_value) (facts_from (n ∷ above) (suc n) inside)
          ≡ map (carried value_of) (facts_from (to ∷ map number above) (suc to) inside) =
          one ∙ ap (λ m. map (carried value_of) (facts_from (m ∷ map number above) (suc to) inside)) here in
          let tail = spread (carried other_value) (belows above n) (holding content n) (facts_from (n ∷ above) (suc n) inside)
          (facts_from above (suc n + size inside) rest)
          ∙ (λ i. up i ++ (held i ++ (down i ++ two i)))
          ∙ sym (spread (carried value_of) (belows (map number above) to) (holding content to) (facts_from (to ∷ map number above) (suc to) inside)
          (facts_from (map number above) (suc to + size inside) rest)) in
          λ i. first i ∷ tail i

  -- ---- the facts of a file

  flat_moved : (base : ℕ) (fact : DocFact Term) → image other_value (flat base fact) ≡ flat base (carried other_value fact)
  flat_moved base (root n) = refl
  flat_moved base (field p k n) = refl
  flat_moved base (item p n) = refl
  flat_moved base (value n t) = refl
  flat_moved base (below a n) = refl

  flat_value : (base : ℕ) (fact : DocFact Term) → flat base (carried value_of fact) ≡ image value_of (flat base fact)
  flat_value base (root n) = refl
  flat_value base (field p k n) = refl
  flat_value base (item p n) = refl
  flat_value base (value n t) = refl
  flat_value base (below a n) = refl

  documents_moved : (base n to : ℕ) (forest : Forest) → Moves n to (size forest) → (fact : Fact Term) → Contains (facts_of base n forest) fact
      → Contains (database_of (facts_of base to forest)) (image moved (image value_of fact))
  documents_moved base n to forest moves fact inside =
      let from = Contains-map_from (flat base) (facts_from [] n forest) fact inside in
      let there = subst (λ those. Contains those (carried other_value from.0)) (forest_moved [] n to forest moves)
      (Contains-map (carried other_value) (facts_from [] n forest) from.0 from.1) in
      let found = Contains-map_from (carried value_of) (facts_from [] to forest) (carried other_value from.0) there in
      let is : image value_of (flat base found.0) ≡ image moved (image value_of fact) =
      sym (flat_value base found.0) ∙ ap (flat base) found.2 ∙ sym (flat_moved base from.0) ∙ sym (image_then value_of moved (flat base from.0))
      ∙ ap (λ it. image moved (image value_of it)) from.2 in
      subst (Contains (database_of (facts_of base to forest))) is
      (Contains-map (image value_of) (facts_of base to forest) (flat base found.0) (Contains-map (flat base) (facts_from [] to forest) found.0 found.1))

  rows_moved : (relation : ℕ) (rows : List Row) (facts others : List (Fact Term)) → AreRowFacts relation rows facts → AreRowFacts relation rows others
      → (fact : Fact Term) → Contains facts fact → Contains (database_of others) (image moved (image value_of fact))
  rows_moved relation rows facts others one two fact inside =
      let from = Contains-map_from (row_fact relation) one.0 fact (subst (λ those. Contains those fact) one.2 inside) in
      let stays : image value_of fact ≡ image moved (image value_of fact) =
      ap (image value_of) (sym from.2)
      ∙ sym (image_agree other_value value_of (row_fact relation from.0) (λ term there. constant from.0 term there))
      ∙ sym (image_then value_of moved (row_fact relation from.0)) ∙ ap (λ it. image moved (image value_of it)) from.2 in
      subst (Contains (database_of others)) stays
      (Contains-map (image value_of) others fact (subst (λ those. Contains those fact) (row_facts_one relation rows facts others one two) inside))
    where
      constant : (row : Row) (term : Term) → Contains (map Const row) term → other_value term ≡ value_of term
      constant row term there =
          let cell = Contains-map_from Const row term there in ap other_value (sym cell.2) ∙ text cell.0 ∙ ap value_of cell.2

  pub file_moved : (model : DataModel) (dataset : Dataset) (bytes : List ℕ) (n to : ℕ) (facts others : List (Fact Term))
      → AreFactsByModel model dataset bytes n facts → AreFactsByModel model dataset bytes to others → Moves n to (nodes_by_model model dataset bytes)
      → (fact : Fact Term) → Contains facts fact → Contains (database_of others) (image moved (image value_of fact))
  file_moved DataModel.Table dataset bytes n to facts others one two moves fact inside = rows_moved dataset.base _ facts others one two fact inside
  file_moved DataModel.Documents dataset bytes n to facts others one two moves fact inside =
      subst (λ those. Contains (database_of those) (image moved (image value_of fact))) (sym two)
      (documents_moved dataset.base n to (documents (file_trees dataset.layout bytes)) moves fact (subst (λ those. Contains those fact) one inside))
  file_moved DataModel.Keys dataset bytes n to facts others one two moves fact inside = rows_moved dataset.base _ facts others one two fact inside

-- ---- the relations of a file's facts

kind_below : {V : Type 0} (fact : DocFact V) → kind fact < 5
kind_below (root n) = omega arith
kind_below (field p k n) = omega arith
kind_below (item p n) = omega arith
kind_below (value n t) = omega arith
kind_below (below a n) = omega arith

row_relation : (base : ℕ) (rows : List Row) (facts : List (Fact Term)) (fact : Fact Term) → AreRowFacts base rows facts → Contains facts fact
    → fact.relation ≡ base + 0
row_relation base rows facts fact (kept, once, is) inside =
    let from = Contains-map_from (row_fact base) kept fact (subst (λ those. Contains those fact) is inside) in
    let plus : base ≡ base + 0 = omega arith in
    ap (λ (it : Fact Term). it.relation) (sym from.2) ∙ plus

pub fact_relation : (model : DataModel) (dataset : Dataset) (bytes : List ℕ) (first : ℕ) (facts : List (Fact Term)) (fact : Fact Term)
    → AreFactsByModel model dataset bytes first facts → Contains facts fact
    → (at : ℕ) × (at < relation_count model) × (fact.relation ≡ dataset.base + at)
fact_relation DataModel.Table dataset bytes first facts fact are inside = (0, omega arith, row_relation dataset.base _ facts fact are inside)
fact_relation DataModel.Documents dataset bytes first facts fact are inside =
    let from = Contains-map_from (flat dataset.base) (facts_from [] first (documents (file_trees dataset.layout bytes))) fact
    (subst (λ those. Contains those fact) are inside) in
    (kind from.0, kind_below from.0, ap (λ (it : Fact Term). it.relation) (sym from.2))
fact_relation DataModel.Keys dataset bytes first facts fact are inside = (0, omega arith, row_relation dataset.base _ facts fact are inside)

-- ---- where the nodes of a file begin

-- how many nodes the file of a dataset has, where there is the dataset
abbrev pub nodes_of : Option Dataset → List ℕ → ℕ
nodes_of None bytes = 0
nodes_of (Some dataset) bytes = nodes_in dataset bytes

module _ (datasets : List Dataset) where
  abbrev pub nodes_at : DatasetBytes → ℕ
  nodes_at file = nodes_of (slice_get datasets file.dataset) file.bytes

  -- the number of the first node of the file of a dataset
  abbrev pub first_of : ℕ → List DatasetBytes → ℕ → ℕ
  first_of first [] number = 0
  first_of first (file ∷ files) number = cond (file.dataset == number) first (first_of (first + nodes_at file) files number)

  -- each node of a file goes so that the first node of each file goes to a target
  abbrev pub to_targets : ℕ → List DatasetBytes → (ℕ → ℕ) → ℕ → ℕ
  to_targets first [] target n = n
  to_targets first (file ∷ files) target n =
      cond (ltb n (first + nodes_at file)) (target file.dataset + (n - first)) (to_targets (first + nodes_at file) files target n)

  -- the file is one of these, and its own facts are among those of all
  pub record Stands (first : ℕ) (files : List DatasetBytes) (facts : List (Fact Term)) (file : DatasetBytes) : Type 0 where
    pub dataset : Dataset
    pub there : slice_get datasets file.dataset ≡ Some dataset
    pub begin : ℕ
    pub own : List (Fact Term)
    pub are : AreFactsOf dataset file.bytes begin own
    pub within : (fact : Fact Term) → Contains own fact → Contains facts fact
    pub past : first ≤ begin
    pub first_is : first_of first files file.dataset ≡ begin
    pub goes : (target : ℕ → ℕ) (k : ℕ) → k < nodes_in dataset file.bytes → to_targets first files target (begin + k) ≡ target file.dataset + k

  head_stands : (first : ℕ) (head : DatasetBytes) (files : List DatasetBytes) (facts own others : List (Fact Term)) (dataset : Dataset)
      → slice_get datasets head.dataset ≡ Some dataset → AreFactsOf dataset head.bytes first own → facts ≡ own ++ others
      → Stands first (head ∷ files) facts head
  head_stands first head files facts own others dataset there are whole = record {
    dataset = dataset;
    there = there;
    begin = first;
    own = own;
    are = are;
    within = λ fact inside. subst (λ those. Contains those fact) (sym whole) (Contains-append_left own others fact inside);
    past = omega arith;
    first_is = ap (λ b. cond b first (first_of (first + nodes_at head) files head.dataset)) same_number;
    goes = λ target k less. ap (λ b. cond b (target head.dataset + ((first + k) - first)) (to_targets (first + nodes_at head) files target (first + k)))
        (below_end k less) ∙ back target k;
  }
    where
      same_number : (head.dataset == head.dataset) ≡ true
      same_number = grind (arith, nat_tests)

      nodes : nodes_at head ≡ nodes_in dataset head.bytes
      nodes = ap (λ it. nodes_of it head.bytes) there

      below_end : (k : ℕ) → k < nodes_in dataset head.bytes → ltb (first + k) (first + nodes_at head) ≡ true
      below_end k less = let end : first + k < first + nodes_at head = omega (arith, nodes, less) in grind (arith, nat_tests)

      back : (target : ℕ → ℕ) (k : ℕ) → target head.dataset + ((first + k) - first) ≡ target head.dataset + k
      back target k = omega arith

  tail_stands : (first : ℕ) (head : DatasetBytes) (files : List DatasetBytes) (facts own others : List (Fact Term)) (its : Dataset) (file : DatasetBytes)
      → slice_get datasets head.dataset ≡ Some its → head.dataset ≢ file.dataset → facts ≡ own ++ others
      → Stands (first + nodes_in its head.bytes) files others file → Stands first (head ∷ files) facts file
  tail_stands first head files facts own others its file at_its apart whole stands = record {
    dataset = stands.dataset;
    there = stands.there;
    begin = stands.begin;
    own = stands.own;
    are = stands.are;
    within = λ fact inside. subst (λ those. Contains those fact) (sym whole) (Contains-append_right own others fact (stands.within fact inside));
    past = let low = stands.past in omega (arith, low);
    first_is = ap (λ b. cond b first (first_of (first + nodes_at head) files file.dataset)) other_number
        ∙ ap (λ n. first_of (first + n) files file.dataset) nodes ∙ stands.first_is;
    goes = λ target k less. ap (λ b. cond b (target head.dataset + ((stands.begin + k) - first))
        (to_targets (first + nodes_at head) files target (stands.begin + k))) (past_end k)
        ∙ ap (λ n. to_targets (first + n) files target (stands.begin + k)) nodes ∙ stands.goes target k less;
  }
    where
      nodes : nodes_at head ≡ nodes_in its head.bytes
      nodes = ap (λ it. nodes_of it head.bytes) at_its

      other_number : (head.dataset == file.dataset) ≡ false
      other_number = grind (arith, nat_tests, apart)

      past_end : (k : ℕ) → ltb (stands.begin + k) (first + nodes_at head) ≡ false
      past_end k = let low = stands.past in let end : first + nodes_at head ≤ stands.begin + k = omega (arith, nodes, low) in grind (arith, nat_tests)

  pub stands : (first : ℕ) (files : List DatasetBytes) (facts : List (Fact Term)) (next : ℕ) → AreApart files → AreFactsFrom datasets first files facts next
      → (file : DatasetBytes) → Contains files file → Stands first files facts file
  stands first [] facts next apart are file inside = absurd (Contains-nil file inside)
  stands first (head ∷ files) facts next apart (its, own, others, at_its, is, rest, whole) file inside = elim (Contains-cases head files file inside) [
    | inl same ↦ subst (Stands first (head ∷ files) facts) same (head_stands first head files facts own others its at_its is whole)
    | inr later ↦ tail_stands first head files facts own others its file at_its
        (pairs_head (λ one other. one.dataset ≢ other.dataset) head files apart file later)
        whole (stands (first + nodes_in its head.bytes) files others next (pairs_tail (λ one other. one.dataset ≢ other.dataset) head files apart) rest file
        later)
  ]

  -- each fact is one of a file's own
  pub found : (first : ℕ) (files : List DatasetBytes) (facts : List (Fact Term)) (next : ℕ) → AreApart files → AreFactsFrom datasets first files facts next
      → (fact : Fact Term) → Contains facts fact
      → (file : DatasetBytes) × Contains files file × ((its : Stands first files facts file) × Contains its.own fact)
  unfolding head_stands tail_stands
  found first [] facts next apart are fact inside = absurd (Contains-nil fact (subst (λ those. Contains those fact) are.0 inside))
  found first (head ∷ files) facts next apart (its, own, others, at_its, is, rest, whole) fact inside =
      elim (Contains-append_cases own others fact (subst (λ those. Contains those fact) whole inside)) [
        | inl there ↦ (head, Contains-head head files, (head_stands first head files facts own others its at_its is whole, there))
        | inr there ↦
            let later = found (first + nodes_in its head.bytes) files others next
            (pairs_tail (λ one other. one.dataset ≢ other.dataset) head files apart) rest fact there in (
              later.0,
              Contains-rest head files later.0 later.1,
              (
                tail_stands first head files facts own others its later.0 at_its
                    (pairs_head (λ one other. one.dataset ≢ other.dataset) head files apart later.0 later.1) whole later.2.0,
                later.2.1,
              ),
            )
      ]

  -- ---- from the facts of some files to those of others

  module _ (files others : List DatasetBytes) (facts more : List (Fact Term)) (next last : ℕ) (apart : AreApart files) (too : AreApart others)
      (are : AreFactsFrom datasets 0 files facts next) (is : AreFactsFrom datasets 0 others more last) where
    abbrev pub renumbered : ℕ → ℕ
    renumbered = to_targets 0 files (first_of 0 others)

    pub goes_over : (fact : Fact Term) → Contains facts fact
        → ((file : DatasetBytes) → Contains files file → HasRelation datasets file.dataset fact.relation → Contains others file)
        → Contains (database_of more) (image (moved renumbered) (image value_of fact))
    goes_over fact inside among =
        let it = found 0 files facts next apart are fact inside in
        let own = it.2.0 in
        let relation = fact_relation own.dataset.model own.dataset it.0.bytes own.begin own.own fact own.are it.2.1 in
        let there = among it.0 it.1 (own.dataset, relation.0, own.there, relation.1, relation.2) in
        let its = stands 0 others more last too is it.0 there in
        let same : own.dataset ≡ its.dataset = same_Some own.dataset its.dataset (sym own.there ∙ its.there) in
        let theirs = subst (λ (dataset : Dataset). AreFactsOf dataset it.0.bytes its.begin its.own) (sym same) its.are in
        let at_last = file_moved renumbered own.dataset.model own.dataset it.0.bytes own.begin its.begin own.own its.own own.are theirs
        (λ k less. own.goes (first_of 0 others) k less ∙ ap (λ n. n + k) its.first_is) fact it.2.1 in
        in_database its.own more its.within (image (moved renumbered) (image value_of fact)) at_last

    -- an answer of a query whose relations go over is one there
    pub answers_go : (query : ConjunctiveQuery)
        → ((atom : Fact Term) (file : DatasetBytes) → Contains query.body atom → Contains files file → HasRelation datasets file.dataset atom.relation
        → Contains others file)
        → (values : List Value) → IsAnswer query (database_of facts) values → IsAnswer query (database_of more) (map (moved renumbered) values)
    answers_go query among values (m, keeps, sends, is_image) = (
      (λ term. moved renumbered (m term)),
      (λ bytes. ap (moved renumbered) (keeps bytes)),
      (λ atom inside.
          let from = Contains-map_from (image value_of) facts (image m atom) (sends atom inside) in
          let relation : from.0.relation ≡ atom.relation = ap (λ (it : Fact Value). it.relation) from.2 in
          subst (Contains (database_of more)) (ap (image (moved renumbered)) from.2 ∙ image_then m (moved renumbered) atom)
          (goes_over from.0 from.1 (λ file there has. among atom file inside there (subst (HasRelation datasets file.dataset) relation has)))),
      ap (map (moved renumbered)) is_image ∙ map_then m (moved renumbered) query.head,
    )

-- ---- rows of texts

texts_stay : (number : ℕ → ℕ) (row : Row) → map (moved number) (map Text row) ≡ map Text row
texts_stay number row = map_then Text (moved number) row

-- what is a row of texts under other numbers was one
texts_were : (number : ℕ → ℕ) (values : List Value) (row : Row) → map (moved number) values ≡ map Text row → values ≡ map Text row
texts_were number [] [] same = refl
texts_were number [] (cell ∷ row) same = absurd (cc)
texts_were number (first ∷ values) [] same = absurd (cc)
texts_were number (Text text ∷ values) (cell ∷ row) same =
    let first : Text text ≡ Text cell = cc in
    let rest = texts_were number values row cc in
    λ i. first i ∷ rest i
texts_were number (Node n ∷ values) (cell ∷ row) same = let wrong : Node (number n) ≡ Text cell = cc in absurd (cc)

pub answers_rest : AnswersRestOnDatasets
answers_rest datasets all some facts others next other query apart too within among are is = (
  (λ row. (
    (λ answers. subst (IsAnswer query (database_of others)) (texts_stay down row)
        (answers_go datasets all some facts others next other apart too are is query among (map Text row) answers)),
    (λ answers. subst (IsAnswer query (database_of facts)) (texts_stay up row)
        (answers_go datasets some all others facts other next too apart is are query (λ atom file inside there has. within file there) (map Text row) answers)),
  )),
  (λ texts values answers.
      let found_ = texts (map (moved up) values)
      (answers_go datasets some all others facts other next too apart is are query (λ atom file inside there has. within file there) values answers) in
      (found_.0, texts_were up values found_.0 found_.1)),
)
  where
    down : ℕ → ℕ
    down = renumbered datasets all some facts others next other apart too are is

    up : ℕ → ℕ
    up = renumbered datasets some all others facts other next too apart is are
