-- The courses of `fill`, `answer` and `audit` have one outcome each.
use Rattle.std.proofs.Common.{◌≡◌, ℕ, List, Some}
use Rattle.esto_mapping.specs.Catalogues.{AreSame}
use Rattle.esto_course.proofs.Determined.{then_agree}
use Rattle.esto_ports.specs.Files.{Files}
use Rattle.esto_semantics.specs.declared.fact.Fact.{Fact}
use Rattle.esto_term.specs.declared.term.Term.{Term}
use Rattle.esto_query.specs.Same.{AreSameQueries}
use Rattle.esto_status.specs.Calm.{IsOne}
use Rattle.esto_run.specs.Fragments.{Stored}
use Rattle.esto_top.specs.Answer.{answer_course}
use Rattle.esto_top.specs.Audit.{audit_course}
use Rattle.esto_data.specs.Fill.{IsFilled, IsMade}
use Rattle.esto_top.specs.Fill.{fill_course, gives_course, make_course}
use Rattle.esto_top.specs.DataLaws.{DataCommandLaws}
use Rattle.esto_data.proofs.AgreeLemmas.{answers_agree, catalogue_agree, fills_agree}

module _ (laws : DataCommandLaws) (files : Files) where
  pub gives_one : (Is : Stored → List (Fact Term) → List ℕ → Type 0)
      → ((stored : Stored) (facts : List (Fact Term)) (text : List ℕ) → Is stored facts text → IsMade stored facts text)
      → (catalogue_name name : List ℕ) → IsOne (gives_course Is (Some files) catalogue_name name)
  gives_one Is made catalogue_name name = then_agree _ AreSame ◌≡◌ _ _ _ _ (laws.catalogues files catalogue_name)
      (λ catalogue other goes alike. fills_agree laws.below files catalogue other alike Is made name)

  pub fills_one : (catalogue_name name : List ℕ) → IsOne (fill_course (Some files) catalogue_name name)
  fills_one = gives_one IsFilled (λ stored facts text is. is.filled)

  pub makes_one : (catalogue_name name : List ℕ) → IsOne (make_course (Some files) catalogue_name name)
  makes_one = gives_one IsMade (λ stored facts text is. is)

  pub answers_one : (catalogue_name query_name : List ℕ) → IsOne (answer_course (Some files) catalogue_name query_name)
  answers_one catalogue_name query_name = then_agree _ AreSame ◌≡◌ _ _ _ _ (laws.catalogues files catalogue_name)
      (λ catalogue other goes alike. then_agree _ AreSameQueries ◌≡◌ _ _ _ _ (laws.unions files query_name catalogue other alike)
      (λ queries others goes1 same. answers_agree laws.below files catalogue other alike queries others same))

  pub audits_one : (name : List ℕ) → IsOne (audit_course (Some files) name)
  audits_one name = then_agree _ AreSame ◌≡◌ _ _ _ _ (laws.catalogues files name)
      (λ catalogue other goes alike. catalogue_agree laws.below files catalogue other alike)
