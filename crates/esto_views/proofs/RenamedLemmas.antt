-- What is renamed, the way back, and what a plan under new names keeps.
use Rattle.std.proofs.Common.{◌≡◌, ◌≢◌, ◌⊎◌, ◌<◌, inl, inr, ℕ, List, [], ◌∷◌, map, length, get_or, slice_get, Contains, Some, refl, sym, ap, ◌∙◌, subst, arith}
use Rattle.std.specs.List.{flat_map, AllPairs}
use Rattle.std.specs.List.Sorted.{IsPermutation}
use Rattle.std.proofs.lemmas.List.{length-map, get_or-map}
use Rattle.std.proofs.lemmas.List.Sorted.{IsPermutation-refl}
use Rattle.std.proofs.lemmas.List.Elements.{Contains-append_left, Contains-append_right, Contains-get_or}
use Rattle.std.proofs.lemmas.Option.{slice_get_within}
use Rattle.esto_term.specs.declared.term.Term.{Term}
use Rattle.esto_term.specs.declared.term.Term.TheVariants.{Const, Plain}
use Rattle.esto_semantics.specs.Facts.{image, Mentions}
use Rattle.esto_semantics.specs.Expansions.{IsOfQuery}
use Rattle.esto_semantics.specs.Maps.{IsConstant, Keeps}
use Rattle.esto_semantics.specs.Queries.{ConjunctiveQuery}
use Rattle.esto_semantics.specs.declared.fact.Fact.{Fact}
use Rattle.esto_semantics.proofs.TermLemmas.{term_cases, Const-apart-Plain, Const-apart-Made}
use Rattle.esto_semantics.specs.Cores.{with_head, IsRenamedTo}
use Rattle.esto_query.specs.declared.query.Name.{Name}
use Rattle.esto_views.specs.Plans.{fact_of}
use Rattle.esto_views.specs.Soundness.{IsNamed, IsSoundPlan}
use Rattle.esto_views.specs.declared.plan.PlanAtom.{PlanAtom}
use Rattle.esto_views.specs.Reading.{terms_read, AreFirstOccurrences}
use Rattle.esto_views.specs.Renamings.{IsRenaming, numbered, renamed_atom, name_of}
use Rattle.esto_views.specs.Renamed.{IsRenamed}
use Rattle.esto_views.proofs.RenamingLemmas.{back, back-Const, back-Plain, numbered_renames}
use Rattle.esto_term.proofs.ListLemmas.{Contains-flat, Contains-map_from}
use Rattle.esto_term.proofs.ListLemmas.{map_agree, map_itself, map_then, place-from_Contains}

constant_or_not : (term : Term) → IsConstant term ⊎ ¬ (IsConstant term)
constant_or_not = term_cases (λ term. IsConstant term ⊎ ¬ (IsConstant term))
    (λ text. inl (text, refl))
    (λ number. inr (λ constant. Const-apart-Plain constant.0 number (sym constant.1)))
    (λ rule variable frontier. inr (λ constant. Const-apart-Made constant.0 rule variable frontier (sym constant.1)))

-- what becomes of a term that is read
pub became : (terms seen : List Term) (m : Term → Term) (term : Term) → AreFirstOccurrences terms seen → IsRenaming seen m → Contains terms term
    → (IsConstant term × (m term ≡ term)) ⊎ ((place : ℕ) × (slice_get seen place ≡ Some term) × (m term ≡ Plain place))
became terms seen m term are_seen is_renaming inside = by (constant_or_not term)
  where
    by : IsConstant term ⊎ ¬ (IsConstant term) → (IsConstant term × (m term ≡ term))
        ⊎ ((place : ℕ) × (slice_get seen place ≡ Some term) × (m term ≡ Plain place))
    by (inl (text, is)) = inl ((text, is), ap m is ∙ is_renaming.keeps text ∙ sym is)
    by (inr no_constant) =
        let at = place-from_Contains seen term ((are_seen.exact term).1 (inside, no_constant)) in
        inr (at.0, at.1, is_renaming.numbers at.0 term at.1)

pub read_row : (rows : List (Fact Term)) (head : List Term) (row : Fact Term) (term : Term) → Contains rows row → Contains row.terms term
    → Contains (terms_read rows head) term
read_row rows head row term inside at = Contains-append_left (flat_map (λ it. it.terms) rows) head term (Contains-flat (λ it. it.terms) rows row term inside at)

pub read_head : (rows : List (Fact Term)) (head : List Term) (term : Term) → Contains head term → Contains (terms_read rows head) term
read_head rows head term inside = Contains-append_right (flat_map (λ it. it.terms) rows) head term inside

module _ (names : List Name) (old new : ConjunctiveQuery) (new_names : List Name) (renamed : IsRenamed names old new new_names) where
  abbrev read : List Term
  read = terms_read old.body old.head

  pub term_undone : (term : Term) → Contains read term → back renamed.seen (renamed.renaming term) ≡ term
  term_undone term inside = by (became read renamed.seen renamed.renaming term renamed.are_seen renamed.is_renaming inside)
    where
      by : (IsConstant term × (renamed.renaming term ≡ term)) ⊎ ((place : ℕ) × (slice_get renamed.seen place ≡ Some term)
          × (renamed.renaming term ≡ Plain place)) → back renamed.seen (renamed.renaming term) ≡ term
      by (inl ((text, is), same)) = ap (back renamed.seen) (same ∙ is) ∙ back-Const renamed.seen text ∙ sym is
      by (inr (place, at, same)) = ap (back renamed.seen) same ∙ back-Plain renamed.seen place term at

  row_undone : (row : Fact Term) → Contains old.body row → image (back renamed.seen) (image renamed.renaming row) ≡ row
  row_undone row inside =
      let terms : map (back renamed.seen) (map renamed.renaming row.terms) ≡ row.terms =
      map_then renamed.renaming (back renamed.seen) row.terms
      ∙ map_agree (λ term. back renamed.seen (renamed.renaming term)) (λ term. term) row.terms
      (λ term at. term_undone term (read_row old.body old.head row term inside at))
      ∙ map_itself row.terms in
      λ i. record { relation = row.relation; terms = terms i }

  of_query : (term : Term) → IsOfQuery old term → Contains read term
  of_query term (inl (row, inside, in_row)) = read_row old.body old.head row term inside in_row
  of_query term (inr in_head) = read_head old.body old.head term in_head

  pub renaming_undone : (other : Term → Term) × Keeps Const other × ((term : Term) → IsOfQuery old term → other (renamed.renaming term) ≡ term)
  renaming_undone = (back renamed.seen, back-Const renamed.seen, λ term inside. term_undone term (of_query term inside))

  -- the new query is the old one under a renaming that can be undone
  pub renamed-IsRenamedTo : IsRenamedTo old new
  renamed-IsRenamedTo = record {
    renaming = renamed.renaming;
    back = back renamed.seen;
    keeps = renamed.is_renaming.keeps;
    back_keeps = back-Const renamed.seen;
    undone = λ term inside. term_undone term (is_read term inside);
    head = sym renamed.head;
    atoms = subst (IsPermutation (map (image renamed.renaming) old.body)) (sym renamed.atoms)
        (IsPermutation-refl (map (image renamed.renaming) old.body));
  }
    where
      is_read : (term : Term) → Contains old.head term ⊎ Mentions old.body term → Contains read term
      is_read term (inl in_head) = of_query term (inr in_head)
      is_read term (inr in_body) = of_query term (inl in_body)

  -- rows that are distinct stay so
  pub atoms_distinct : AllPairs ◌≢◌ old.body → AllPairs ◌≢◌ new.body
  atoms_distinct distinct = subst (AllPairs ◌≢◌) (sym renamed.atoms) mapped
    where
      same_row : (row other : Fact Term) → Contains old.body row → Contains old.body other → image renamed.renaming row ≡ image renamed.renaming other → row ≡
          other
      same_row row other inside other_inside same = sym (row_undone row inside) ∙ ap (image (back renamed.seen)) same ∙ row_undone other other_inside

      mapped : AllPairs ◌≢◌ (map (image renamed.renaming) old.body)
      mapped i j d less within same =
          let short : j < length old.body = rw (length-map old.body (image renamed.renaming)) at within in
          let early : i < length old.body = omega arith in
          distinct i j d less short
          (same_row (get_or old.body i d) (get_or old.body j d) (Contains-get_or old.body i d early) (Contains-get_or old.body j d short)
          (sym (get_or-map (image renamed.renaming) old.body i d d early) ∙ same ∙ get_or-map (image renamed.renaming) old.body j d d short))

module _ (names : List Name) (rows : List (Fact Term)) (head : List Term) (seen : List Term) (are_seen : AreFirstOccurrences (terms_read rows head) seen) where
  named : (term : Term) → Contains (terms_read rows head) term → IsNamed (map (name_of names) seen) (numbered 0 seen term)
  named term inside = by (became (terms_read rows head) seen (numbered 0 seen) term are_seen (numbered_renames (terms_read rows head) seen are_seen) inside)
    where
      by : (IsConstant term × (numbered 0 seen term ≡ term)) ⊎ ((place : ℕ) × (slice_get seen place ≡ Some term) × (numbered 0 seen term ≡ Plain place))
          → IsNamed (map (name_of names) seen) (numbered 0 seen term)
      by (inl (constant, same)) = inl (subst IsConstant (sym same) constant)
      by (inr (place, at, same)) = inr (place, same, rw length-map (slice_get_within seen place term at))

  pub keeps : head ≢ [] → IsSoundPlan (map (renamed_atom (numbered 0 seen)) rows) (map (numbered 0 seen) head) (map (name_of names) seen)
  keeps has_head = record {
    has_head = λ none. has_head (no_head head none);
    named_atoms = λ atom in_atoms term inside.
        let row = Contains-map_from (renamed_atom (numbered 0 seen)) rows atom in_atoms in
        let source = Contains-map_from (numbered 0 seen) row.0.terms term (subst (λ (it : PlanAtom). Contains it.terms term) (sym row.2) inside) in
        subst (IsNamed (map (name_of names) seen)) source.2 (named source.0 (read_row rows head row.0 source.0 row.1 source.1));
    named_head = λ term inside.
        let source = Contains-map_from (numbered 0 seen) head term inside in
        subst (IsNamed (map (name_of names) seen)) source.2 (named source.0 (read_head rows head source.0 source.1));
  }
    where
      no_head : (row : List Term) → map (numbered 0 seen) row ≡ [] → row ≡ []
      no_head [] none = refl
      no_head (first ∷ rest) none = absurd (cc)

  pub renamed_is : (new_atoms : List PlanAtom) (new_head : List Term) (new_names : List Name) → new_atoms ≡ map (renamed_atom (numbered 0 seen)) rows
      → new_head ≡ map (numbered 0 seen) head → new_names ≡ map (name_of names) seen
      → IsRenamed names (with_head head rows) (with_head new_head (map fact_of new_atoms)) new_names
  renamed_is new_atoms new_head new_names atoms head_is names_are = record {
    seen = seen;
    are_seen = are_seen;
    renaming = numbered 0 seen;
    is_renaming = numbered_renames (terms_read rows head) seen are_seen;
    atoms = ap (map fact_of) atoms ∙ map_then (renamed_atom (numbered 0 seen)) fact_of rows;
    head = head_is;
    names_are = names_are;
  }
