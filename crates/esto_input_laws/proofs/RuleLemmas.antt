-- A tree of a constraint says a rule, or has a fault.
use Rattle.std.proofs.Common.{◌≡◌, ℕ, inl, inr, List, [], refl, sym}
use Rattle.std.specs.Prelude.{All}
use Rattle.esto_constraint.specs.declared.rule.Constraint.TheVariants.{Tuple, Equal, Never}
use Rattle.esto_constraint.specs.declared.rule.Denial.{Denial}
use Rattle.esto_constraint.specs.declared.rule.Egd.{Egd}
use Rattle.esto_constraint.specs.declared.rule.Tgd.{Tgd}
use Rattle.esto_query.proofs.SoundLemmas.{mentions_decided}
use Rattle.esto_query.specs.declared.query.Name.{Name}
use Rattle.esto_semantics.proofs.TermLemmas.{term_cases, Const-apart-Plain, Const-apart-Made}
use Rattle.esto_semantics.specs.Maps.{IsConstant, IsFixedBy}
use Rattle.esto_semantics.specs.declared.fact.Fact.{Fact}
use Rattle.esto_term.proofs.ChoiceLemmas.{Decided, decided_either}
use Rattle.esto_term.specs.declared.term.Term.{Term}
use Rattle.esto_text.proofs.LeafLemmas.{constraint_stands}
use Rattle.esto_text.specs.Faults.{IsFalse, IsConstraintText, ConstraintStandsAt}
use Rattle.esto_text.specs.Grammar.{IsConstraint}
use Rattle.esto_text.specs.Trees.{HeadTree, Items, Equality, Never as Nothing, ConstraintTree}
use Rattle.esto_text.specs.declared.fault.TextKind.TheVariants.{Unsafe}
use Rattle.esto_text.specs.declared.version.Version.{Version}
use Rattle.esto_read.proofs.RuleLemmas.{name_is_term, sides_are, head_stands, tuple_parts, equality_parts, denial_parts}
use Rattle.esto_read.specs.Constraints.{IsTupleRead, IsEqualityRead, IsDenialRead, IsRuleOf, IsRuleHeadFault, IsRuleFault, IsConstraintReading}
use Rattle.esto_read.specs.Constraints.{IsConstraintFault}
use Rattle.esto_read.specs.Items.{AreFitting, AreItems}
use Rattle.esto_docmodel.specs.Words.{HasRelations, IsVocabulary}
use Rattle.esto_docmodel.specs.declared.words.Word.{Word}
use Rattle.esto_input_laws.specs.Totality.{HasOneOf}
use Rattle.esto_input_laws.proofs.ItemLemmas.{items_fit, items_of}
use Rattle.esto_input_laws.proofs.PartReadingLemmas.{term_of}
use Rattle.esto_input_laws.proofs.TreeLemmas.{constraints_or_stops, text_or_fault}

-- ---- sides

pub is_constant : (term : Term) → Decided (IsConstant term)
is_constant = term_cases (λ term. Decided (IsConstant term)) (λ text. inl (text, refl))
    (λ number. inr (λ (text, e). Const-apart-Plain text number (sym e)))
    (λ rule variable frontier. inr (λ (text, e). Const-apart-Made text rule variable frontier (sym e)))

pub fixed : (body : List (Fact Term)) (term : Term) → Decided (IsFixedBy body term)
fixed body term = decided_either (is_constant term) (mentions_decided body term)

-- ---- trees

module _ (version : Version) (words : List Word) (schema bytes : List ℕ) (tree : ConstraintTree) (text : IsConstraintText version bytes tree)
    (stands : ConstraintStandsAt bytes tree) (relations : All (λ word. HasRelations schema word.model word.base) words) where
  -- a head behind a body in which nothing is wrong
  module _ (body : List (Fact Term)) (between : List Name) (body_atoms : AreItems words schema bytes [] tree.body body between)
      (body_fits : AreFitting words schema bytes 0 tree.body) where
    head_said : (head : HeadTree) → tree.head ≡ head → HasOneOf (IsRuleOf words schema bytes tree.body head) (IsRuleHeadFault words schema bytes tree.body head)
    head_said (Items items) is =
        let stand = head_stands bytes tree stands (Items items) is in
        elim (items_fit words schema bytes 0 items) [
          | inr (fault, faulty) ↦ inr (fault, faulty)
          | inl fits ↦
              let (head, names, head_atoms) = items_of words schema bytes 0 between items stand fits in
              let read : IsTupleRead words schema bytes tree.body items body head names =
              record { between = between; body_atoms = body_atoms; body_fits = body_fits; head_atoms = head_atoms; head_fits = fits } in
              let parts = tuple_parts version words schema bytes tree text stands relations items is body head names read in
              let rule : Tgd = record { body = body; head = head; names = names; sound = ∣ parts.sound ∣₁ } in inl (Tuple rule, read)
        ]
    head_said (Equality left right) is =
        let stand = head_stands bytes tree stands (Equality left right) is in
        let (one, middle, first) = term_of bytes between left (name_is_term bytes left stand.0) in
        let (other, names, second) = term_of bytes middle right stand.1 in
        let read : IsEqualityRead words schema bytes tree.body left right body one other names = record {
          between = between;
          body_atoms = body_atoms;
          body_fits = body_fits;
          sides = sides_are bytes between middle names left right one other first second;
        } in
        elim (fixed body one) [
          | inr loose ↦ inr (record { offset = left.start; kind = Unsafe }, (body, one, other, names, read, refl, inl (loose, refl)))
          | inl one_fixed ↦ elim (fixed body other) [
            | inr loose ↦ inr (record { offset = right.start; kind = Unsafe }, (body, one, other, names, read, refl, inr (one_fixed, loose, refl)))
            | inl other_fixed ↦
                let parts = equality_parts version words schema bytes tree text stands relations left right is body one other names read
                (one_fixed, other_fixed) in
                let rule : Egd = record { body = body; left = one; right = other; names = names; sound = ∣ parts.sound ∣₁ } in
                inl (Equal rule, (read, one_fixed, other_fixed))
          ]
        ]
    head_said Nothing is =
        let read : IsDenialRead words schema bytes tree.body body between = record { body_atoms = body_atoms; body_fits = body_fits } in
        let parts = denial_parts version words schema bytes tree text stands relations body between read in
        let rule : Denial = record { body = body; names = between; sound = ∣ parts.sound ∣₁ } in inl (Never rule, read)

  pub rule_said : HasOneOf (IsRuleOf words schema bytes tree.body tree.head) (IsRuleFault words schema bytes tree)
  rule_said = elim (items_fit words schema bytes 0 tree.body) [
    | inr (fault, is) ↦ inr (fault, inl is)
    | inl fits ↦
        let (body, between, atoms) = items_of words schema bytes 0 [] tree.body stands.0 fits in
        elim (head_said body between atoms fits tree.head refl) [
          | inl (rule, is) ↦ inl (rule, is)
          | inr (fault, is) ↦ inr (fault, inr (fits, is))
        ]
  ]

-- ---- texts

pub constraint_reading : (version : Version) (words : List Word) (schema : List ℕ) → IsVocabulary schema words → (bytes : List ℕ)
    → HasOneOf (IsConstraintReading version words schema bytes) (IsConstraintFault version words schema bytes)
constraint_reading version words schema vocabulary bytes =
    elim (text_or_fault (IsConstraint (IsFalse version bytes)) (λ tokens. tokens) (constraints_or_stops version bytes) bytes) [
      | inr (fault, is) ↦ inr (fault, inl is)
      | inl (tree, (tokens, are, is)) ↦
          elim (rule_said version words schema bytes tree (tokens, are, is)
          (constraint_stands bytes (IsFalse version bytes) tokens tree are.1 is) vocabulary.relations) [
            | inl (rule, said) ↦ inl (rule, (tree, (tokens, are, is), said))
            | inr (fault, faulty) ↦ inr (fault, inr (tree, (tokens, are, is), faulty))
          ]
    ]
