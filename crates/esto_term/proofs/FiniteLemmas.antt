-- The terms over a finite stock, of bounded width and nesting, stand in one finite list.
use Rattle.std.proofs.Common.{ℕ, zero, suc, ◌≤◌, ◌<◌, List, [], ◌∷◌, map, length, Contains, subst, arith}
use Rattle.std.specs.List.{flat_map}
use Rattle.std.proofs.lemmas.List.Elements.{Contains-append_left, Contains-append_right}
use Rattle.esto_term.specs.Finite.{Stock, IsMadeOf, lists_within, unmade_terms, made_terms, terms_within, AreFinite}
use Rattle.esto_term.specs.Finite.IsMadeOf.{constant, plain, made}
use Rattle.esto_term.specs.Nesting.{nesting, nesting_above, greatest_u64}
use Rattle.esto_term.specs.declared.term.Term.{Term}
use Rattle.esto_term.specs.declared.term.Term.TheVariants.{Const, Plain, Made}
use Rattle.esto_term.proofs.NestingLemmas.{nesting-Made, one_deeper-part}
use Rattle.esto_term.proofs.ListLemmas.{Contains-flat, Contains-head, Contains-map, Contains-rest}

-- a list of at most so many of the items is among all such lists
pub Contains-lists_within : {A : Type 0} (items chosen : List A) (width : ℕ) → length chosen ≤ width → ((item : A) → Contains chosen item → Contains items item)
    → Contains (lists_within items width) chosen
Contains-lists_within items [] zero short all = Contains-head [] []
Contains-lists_within items (first ∷ rest) zero short all = absurd (omega arith)
Contains-lists_within items [] (suc width) short all = Contains-head [] _
Contains-lists_within items (first ∷ rest) (suc width) short all =
    Contains-rest [] _ (first ∷ rest)
    (Contains-flat (λ item. map (λ others. item ∷ others) (lists_within items width)) items first (first ∷ rest) (all first (Contains-head first rest))
    (Contains-map (λ others. first ∷ others) (lists_within items width) rest
    (Contains-lists_within items rest width (omega arith) (λ item has. all item (Contains-rest first rest item has)))))

module _ (stock : Stock) (width : ℕ) where
  -- ---- one level of the list

  pub Contains-made_terms : (rule variable : ℕ) (frontier : List Term) (frontiers : List (List Term))
      → Contains stock.rules rule → Contains stock.variables variable → Contains frontiers frontier
      → Contains (made_terms stock frontiers) (Made rule variable frontier)
  Contains-made_terms rule variable frontier frontiers has_rule has_variable has_frontier =
      Contains-flat (λ r. flat_map (λ v. map (Made r v) frontiers) stock.variables) stock.rules rule (Made rule variable frontier) has_rule
      (Contains-flat (λ v. map (Made rule v) frontiers) stock.variables variable (Made rule variable frontier) has_variable
      (Contains-map (Made rule variable) frontiers frontier has_frontier))

  -- a constant or a plain term of the stock stands in each level
  unmade_within : (depth : ℕ) (term : Term) → Contains (unmade_terms stock) term → Contains (terms_within stock width depth) term
  unfolding terms_within
  unmade_within zero term has = Contains-append_left (unmade_terms stock) _ term has
  unmade_within (suc depth) term has = Contains-append_left (unmade_terms stock) _ term has

  -- a made term without frontier stands in the lowest level
  bare_within : (rule variable : ℕ) → Contains stock.rules rule → Contains stock.variables variable
      → Contains (terms_within stock width 0) (Made rule variable [])
  unfolding terms_within
  bare_within rule variable has_rule has_variable =
      Contains-append_right (unmade_terms stock) _ _ (Contains-made_terms rule variable [] ([] ∷ []) has_rule has_variable (Contains-head [] []))

  -- a made term stands one level above its frontier terms
  made_within : (depth rule variable : ℕ) (frontier : List Term) → Contains stock.rules rule → Contains stock.variables variable → length frontier ≤ width
      → ((term : Term) → Contains frontier term → Contains (terms_within stock width depth) term)
      → Contains (terms_within stock width (suc depth)) (Made rule variable frontier)
  unfolding terms_within
  made_within depth rule variable frontier has_rule has_variable short parts =
      Contains-append_right (unmade_terms stock) _ _
      (Contains-made_terms rule variable frontier (lists_within (terms_within stock width depth) width) has_rule has_variable
      (Contains-lists_within (terms_within stock width depth) frontier width short parts))

  -- ---- how deep the frontier of a term of bounded nesting nests

  -- a term that nests 0 deep has no frontier terms
  frontier-none : (first : Term) (rest : List Term) → nesting_above (map nesting (first ∷ rest)) ≤ 0 → ⊥
  frontier-none first rest low = omega arith

  part_low : (depth : ℕ) → suc depth < greatest_u64 → (frontier : List Term) → nesting_above (map nesting frontier) ≤ suc depth
      → (term : Term) → Contains frontier term → nesting term ≤ depth
  part_low depth small frontier low term (place, within, is) = omega (arith, one_deeper-part frontier place term within is)

  -- ---- every level

  is_within : (depth : ℕ) → depth < greatest_u64 → (term : Term) → IsMadeOf stock width term → nesting term ≤ depth
      → Contains (terms_within stock width depth) term
  is_within depth small term (constant text has) low =
      unmade_within depth (Const text) (Contains-append_left (map Const stock.texts) _ (Const text) (Contains-map Const stock.texts text has))
  is_within depth small term (plain number has) low =
      unmade_within depth (Plain number) (Contains-append_right (map Const stock.texts) _ (Plain number) (Contains-map Plain stock.numbers number has))
  is_within zero small term (made rule variable [] has_rule has_variable short parts) low = bare_within rule variable has_rule has_variable
  is_within zero small term (made rule variable (first ∷ rest) has_rule has_variable short parts) low =
      absurd (frontier-none first rest (subst (λ n. n ≤ 0) (nesting-Made rule variable (first ∷ rest)) low))
  is_within (suc depth) small term (made rule variable frontier has_rule has_variable short parts) low =
      made_within depth rule variable frontier has_rule has_variable short
      (λ part has. is_within depth (omega arith) part (parts part has)
      (part_low depth small frontier (subst (λ n. n ≤ suc depth) (nesting-Made rule variable frontier) low) part has))

-- the finite list holds every term within its bounds
pub finite : AreFinite
finite stock width depth small term is_made low = is_within stock width depth small term is_made low
