-- The parts of an instance under new names.
use Rattle.std.proofs.Common.{◌≡◌, inl, inr, Bool, List, map, length, slice_get, Some, Contains, sym, ap, ◌∙◌, subst}
use Rattle.std.proofs.lemmas.List.{length-map}
use Rattle.esto_term.specs.declared.term.Term.{Term}
use Rattle.esto_term.specs.declared.term.Term.TheVariants.{Const}
use Rattle.esto_term.proofs.ListLemmas.{Contains-map_from, map_agree, map_at, map_itself, map_then}
use Rattle.esto_semantics.specs.Expansions.{IsOfQuery}
use Rattle.esto_semantics.specs.Facts.{image}
use Rattle.esto_semantics.specs.Instances.{MapsTo}
use Rattle.esto_semantics.specs.Listed.{candidate, chosen, IsEquivalentPart, IsSafe}
use Rattle.esto_semantics.specs.ListedLaws.{ChosenAreNamed}
use Rattle.esto_semantics.specs.Maps.{IsFixedBy, Keeps, Sends}
use Rattle.esto_semantics.specs.Queries.{ConjunctiveQuery}
use Rattle.esto_semantics.specs.Rules.{Rule}
use Rattle.esto_semantics.specs.declared.fact.Fact.{Fact}
use Rattle.esto_semantics.specs.declared.fact.Value.TheVariants.{Text}
use Rattle.esto_semantics.proofs.AnswerLemmas.{IsAnswerInto-mapped}
use Rattle.esto_semantics.proofs.FactLemmas.{Mentions-sent, image_agree, image_itself, image_then}
use Rattle.esto_views.specs.RenamedLaws.{RenamingIsUndone}
use Rattle.esto_contain.specs.MinimisedLaws.{RenamedPartsAreAlike}

module _ (named : ChosenAreNamed) (old new : ConjunctiveQuery) (m : Term → Term) (keeps : Keeps Const m) (body : new.body ≡ map (image m) old.body)
    (head : new.head ≡ map m old.head) (set : List Bool) where
  part_sends : Sends m (chosen set old.body) (chosen set new.body)
  part_sends fact inside =
      let at = (named set old.body fact).0 inside in
      (named set new.body (image m fact)).1
      (at.0, at.1, subst (λ its. slice_get its at.0 ≡ Some (image m fact)) (sym body) (map_at (image m) old.body at.0 fact at.2))

  pub part_maps : MapsTo (candidate old set) (candidate new set)
  part_maps = (m, keeps, part_sends, sym head)

  part_safe : IsSafe old set → IsSafe new set
  part_safe safe term inside =
      let from = Contains-map_from m old.head term (subst (λ its. Contains its term) head inside) in
      subst (IsFixedBy (chosen set new.body)) from.2 (elim (safe from.0 from.1) [
        | inl constant ↦ inl (constant.0, ap m constant.1 ∙ keeps constant.0)
        | inr mentioned ↦ inr (Mentions-sent m (chosen set old.body) (chosen set new.body) from.0 part_sends mentioned)
      ])

  -- a part stays one under the map, where the new part maps back
  pub part_stays : MapsTo (candidate new set) (candidate old set) → (rules : List Rule) (query : ConjunctiveQuery) → IsEquivalentPart rules query old set
      → IsEquivalentPart rules query new set
  part_stays back rules query is = record {
    has_candidate = record { over = is.has_candidate.over ∙ sym (ap length body ∙ length-map old.body (image m)); some = is.has_candidate.some };
    safe = part_safe is.safe;
    equivalent = (
      (λ database meets row answer. is.equivalent.0 database meets row
          (IsAnswerInto-mapped Text (candidate old set) (candidate new set) (Contains database) row part_maps answer)),
      (λ database meets row answer.
          IsAnswerInto-mapped Text (candidate new set) (candidate old set) (Contains database) row back
          (is.equivalent.1 database meets row answer)),
    );
  }

module _ (old new : ConjunctiveQuery) (m back : Term → Term) (body : new.body ≡ map (image m) old.body) (head : new.head ≡ map m old.head)
    (undone : (term : Term) → IsOfQuery old term → back (m term) ≡ term) where
  pub body_undone : old.body ≡ map (image back) new.body
  body_undone = sym
      (ap (map (image back)) body ∙ map_then (image m) (image back) old.body
      ∙ map_agree (λ (fact : Fact Term). image back (image m fact)) (λ fact. fact) old.body
      (λ fact inside. image_then m back fact
      ∙ image_agree (λ term. back (m term)) (λ term. term) fact (λ term in_fact. undone term (inl (fact, inside, in_fact))) ∙ image_itself fact)
      ∙ map_itself old.body)

  pub head_undone : old.head ≡ map back new.head
  head_undone = sym
      (ap (map back) head ∙ map_then m back old.head
      ∙ map_agree (λ term. back (m term)) (λ term. term) old.head (λ term inside. undone term (inr inside)) ∙ map_itself old.head)

pub renamed_parts : ChosenAreNamed → RenamingIsUndone → RenamedPartsAreAlike
renamed_parts named renaming_undone rules names query end renamed new_names is set =
    let undo = renaming_undone names end renamed new_names is in
    let body = body_undone end renamed is.renaming undo.0 is.atoms is.head undo.2 in
    let head = head_undone end renamed is.renaming undo.0 is.atoms is.head undo.2 in
    let there = part_maps named end renamed is.renaming is.is_renaming.keeps is.atoms is.head set in
    let back = part_maps named renamed end undo.0 undo.1 body head set in (
      part_stays named end renamed is.renaming is.is_renaming.keeps is.atoms is.head set back rules query,
      part_stays named renamed end undo.0 undo.1 body head set there rules query,
    )
