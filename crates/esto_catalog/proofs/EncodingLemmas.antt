-- The rules of encodings are over the relations of their datasets, and all the rules are the given ones and those.
use Rattle.std.proofs.Common.{◌≡◌, ◌<◌, ◌≤◌, ◌+◌, ℕ, List, [], ◌∷◌, ◌++◌, length, map, take, get_or, Some, inl, inr, refl, sym, ap, subst, ◌∙◌, arith}
use Rattle.std.proofs.Common.{length-append}
use Rattle.std.specs.Prelude.{Contains, slice_get, IsUtf8}
use Rattle.std.proofs.Math.Seq.{take-length}
use Rattle.std.proofs.lemmas.List.{append-nil, append_assoc, length-map, map-append, take-append-le, take_all}
use Rattle.std.proofs.lemmas.List.Elements.{Contains-append_cases}
use Rattle.esto_constraint.specs.Constraints.{rule_of, rules_of}
use Rattle.esto_constraint.specs.EncodingRules.{written}
use Rattle.esto_semantics.specs.DocumentRules.{atom, document_rules, document_rules_2, key_rules, root, below}
use Rattle.esto_constraint.specs.declared.rule.Constraint.{Constraint}
use Rattle.esto_query.specs.Schemas.{arities_of}
use Rattle.esto_query.specs.declared.schema.Relation.{Relation}
use Rattle.esto_docmodel.specs.Words.{HasRelations}
use Rattle.esto_docmodel.specs.declared.words.DataModel.{DataModel}
use Rattle.esto_docmodel.specs.declared.words.DataModel.TheVariants.{Table, Documents, Keys}
use Rattle.esto_semantics.proofs.TermLemmas.{Const-apart-Plain}
use Rattle.esto_semantics.specs.Rules.{Rule, tuple, equality, denial}
use Rattle.esto_semantics.specs.WellFormed.{AreOver, HaveUtf8, IsRuleOver}
use Rattle.esto_semantics.specs.declared.fact.Fact.{Fact}
use Rattle.esto_term.proofs.ListLemmas.{Contains-cases, Contains-map, Contains-map_from, Contains-nil, Contains-read}
use Rattle.esto_term.proofs.PlaceLemmas.{take-item}
use Rattle.esto_term.specs.declared.term.Term.{Term}
use Rattle.esto_term.specs.declared.term.Term.TheVariants.{Const, Plain}
use Rattle.esto_text.specs.declared.version.Version.{Version}
use Rattle.esto_text.specs.declared.version.Version.TheVariants.{One, Two}
use Rattle.esto_catalog.proofs.SchemaLemmas.{has_relations}
use Rattle.esto_mapping.specs.Datasets.{schema_of}
use Rattle.esto_catalog.specs.Rules.{AreAllRules, encoding_names, encoding_rules, encodings_names, encodings_rules}
use Rattle.esto_catalog.specs.Scope.{IsScope}
use Rattle.esto_catalog.specs.Soundness.{AreSoundRules}
use Rattle.esto_mapping.specs.declared.dataset.Dataset.{Dataset}
use Rattle.esto_catalog.specs.declared.scope.Scope.{Scope}

-- ---- atoms over variables alone

-- atoms over the schema without constants
record AreFine (schema : List ℕ) (atoms : List (Fact Term)) : Type 0 where
  over : AreOver schema atoms
  texts : HaveUtf8 atoms

no_atoms : (schema : List ℕ) → AreFine schema []
no_atoms schema = record {
  over = λ fact inside. absurd (Contains-nil fact inside);
  texts = λ text (fact, inside, at). absurd (Contains-nil fact inside);
}

one_atom : (schema : List ℕ) (relation : ℕ) (variables : List ℕ) (rest : List (Fact Term)) → slice_get schema relation ≡ Some (length variables)
    → AreFine schema rest → AreFine schema (atom relation variables ∷ rest)
one_atom schema relation variables rest at fine = record {
  over = λ fact inside. elim (Contains-cases (atom relation variables) rest fact inside) [
    | inl same ↦ subst (λ (f : Fact Term). slice_get schema f.relation ≡ Some (length f.terms)) same (at ∙ ap Some (sym (length-map variables Plain)))
    | inr later ↦ fine.over fact later
  ];
  texts = λ text (fact, inside, mentioned). elim (Contains-cases (atom relation variables) rest fact inside) [
    | inl same ↦
        let own = subst (λ (f : Fact Term). Contains f.terms (Const text)) (sym same) mentioned in
        let (variable, there, is) = Contains-map_from Plain variables (Const text) own in
        absurd (Const-apart-Plain text variable (sym is))
    | inr later ↦ fine.texts text (fact, later, mentioned)
  ];
}

plain_utf8 : (variable : ℕ) (text : List ℕ) → Plain variable ≡ Const text → IsUtf8 text
plain_utf8 variable text is = absurd (Const-apart-Plain text variable (sym is))

equality_over : (schema : List ℕ) (body : List (Fact Term)) (left right : ℕ) → AreFine schema body
    → IsRuleOver schema (equality body (Plain left) (Plain right))
equality_over schema body left right fine = (fine.over, fine.texts, plain_utf8 left, plain_utf8 right)

tuple_over : (schema : List ℕ) (body head : List (Fact Term)) → AreFine schema body → AreFine schema head → IsRuleOver schema (tuple body head)
tuple_over schema body head fine own = (fine.over, own.over, fine.texts, own.texts)

denial_over : (schema : List ℕ) (body : List (Fact Term)) → AreFine schema body → IsRuleOver schema (denial body)
denial_over schema body fine = (fine.over, fine.texts)

-- ---- the rules of an encoding

-- each of the rules is over the schema
abbrev pub AreRulesOver : List ℕ → List Rule → Type 0
AreRulesOver schema rules = (rule : Rule) → Contains rules rule → IsRuleOver schema rule

-- the same, rule by rule
abbrev AllOver : List ℕ → List Rule → Type 0
AllOver schema [] = Unit {0}
AllOver schema (first ∷ rules) = IsRuleOver schema first × AllOver schema rules

from_all : (schema : List ℕ) (rules : List Rule) → AllOver schema rules → AreRulesOver schema rules
from_all schema [] over rule inside = absurd (Contains-nil rule inside)
from_all schema (first ∷ rules) over rule inside = elim (Contains-cases first rules rule inside) [
  | inl same ↦ subst (IsRuleOver schema) same over.0
  | inr later ↦ from_all schema rules over.1 rule later
]

more_rules : (schema : List ℕ) (rules others : List Rule) → AreRulesOver schema rules → AreRulesOver schema others → AreRulesOver schema (rules ++ others)
more_rules schema rules others over over' rule inside = elim (Contains-append_cases rules others rule inside) [
  | inl left ↦ over rule left
  | inr right ↦ over' rule right
]

-- two atoms of one relation that agree at a place
agree_over : (schema : List ℕ) (relation : ℕ) (one other : List ℕ) (left right : ℕ) → slice_get schema relation ≡ Some (length one) → length other ≡ length one
    → IsRuleOver schema (equality (atom relation one ∷ atom relation other ∷ []) (Plain left) (Plain right))
agree_over schema relation one other left right at same =
    equality_over schema (atom relation one ∷ atom relation other ∷ []) left right
    (one_atom schema relation one (atom relation other ∷ []) at (one_atom schema relation other [] (at ∙ ap Some (sym same)) (no_atoms schema)))

-- an atom that asks for another
leads_over : (schema : List ℕ) (from : ℕ) (one : List ℕ) (to : ℕ) (other : List ℕ) → slice_get schema from ≡ Some (length one)
    → slice_get schema to ≡ Some (length other) → IsRuleOver schema (tuple (atom from one ∷ []) (atom to other ∷ []))
leads_over schema from one to other at there =
    tuple_over schema (atom from one ∷ []) (atom to other ∷ []) (one_atom schema from one [] at (no_atoms schema))
    (one_atom schema to other [] there (no_atoms schema))

module _ (schema : List ℕ) (base : ℕ) (has : HasRelations schema Documents base) where
  documents_over : AreRulesOver schema (document_rules base)
  documents_over = from_all schema (document_rules base) (
    agree_over schema (base + 1) (0 ∷ 1 ∷ 2 ∷ []) (0 ∷ 1 ∷ 3 ∷ []) 2 3 has.1 refl,
    (
      agree_over schema (base + 1) (0 ∷ 1 ∷ 2 ∷ []) (3 ∷ 4 ∷ 2 ∷ []) 0 3 has.1 refl,
      (
        agree_over schema (base + 1) (0 ∷ 1 ∷ 2 ∷ []) (3 ∷ 4 ∷ 2 ∷ []) 1 4 has.1 refl,
        (
          agree_over schema (base + 2) (0 ∷ 1 ∷ []) (2 ∷ 1 ∷ []) 0 2 has.2 refl,
          (
            agree_over schema (base + 3) (0 ∷ 1 ∷ []) (0 ∷ 2 ∷ []) 1 2 has.3 refl,
            (
              leads_over schema (base + 1) (0 ∷ 1 ∷ 2 ∷ []) (base + 4) (0 ∷ 2 ∷ []) has.1 has.4,
              (leads_over schema (base + 2) (0 ∷ 1 ∷ []) (base + 4) (0 ∷ 1 ∷ []) has.2 has.4, tt),
            ),
          ),
        ),
      ),
    ),
  )

  plus_none : base + 0 ≡ base
  plus_none = omega arith

  documents_over_2 : AreRulesOver schema (document_rules_2 base)
  documents_over_2 =
      more_rules schema (document_rules base) (denial (root base (0 ∷ []) ∷ below base (1 ∷ 0 ∷ []) ∷ []) ∷ []) documents_over
      (from_all schema (denial (root base (0 ∷ []) ∷ below base (1 ∷ 0 ∷ []) ∷ []) ∷ []) (
        denial_over schema (root base (0 ∷ []) ∷ below base (1 ∷ 0 ∷ []) ∷ [])
            (one_atom schema (base + 0) (0 ∷ []) (below base (1 ∷ 0 ∷ []) ∷ [])
            (subst (λ n. slice_get schema n ≡ Some 1) (sym plus_none) has.0)
            (one_atom schema (base + 4) (1 ∷ 0 ∷ []) [] has.4 (no_atoms schema))),
        tt,
      ))

encoding_over : (schema : List ℕ) (version : Version) (model : DataModel) (base : ℕ) → HasRelations schema model base
    → AreRulesOver schema (encoding_rules version model base)
encoding_over schema version Table base has = from_all schema [] tt
encoding_over schema One Documents base has = documents_over schema base has
encoding_over schema Two Documents base has = documents_over_2 schema base has
encoding_over schema version Keys base has = from_all schema (key_rules base) (
  agree_over schema base (0 ∷ 1 ∷ 2 ∷ []) (0 ∷ 1 ∷ 3 ∷ []) 2 3 has refl,
  tt,
)

-- a list of constraints whose rules are over the schema
sound_of : (schema : List ℕ) (rules : List Constraint) (meant : List Rule) → rules_of rules ≡ meant → AreRulesOver schema meant → AreSoundRules schema rules
sound_of schema rules meant is over rule inside =
    over (rule_of rule) (subst (λ (l : List Rule). Contains l (rule_of rule)) is (Contains-map rule_of rules rule inside))

-- ---- all the rules

rules_append : (version : Version) (datasets others : List Dataset) → encodings_rules version (datasets ++ others)
    ≡ encodings_rules version datasets ++ encodings_rules version others
rules_append version [] others = refl
rules_append version (dataset ∷ datasets) others =
    ap (λ it. encoding_rules version dataset.model dataset.base ++ it) (rules_append version datasets others)
    ∙ sym (append_assoc (encoding_rules version dataset.model dataset.base) (encodings_rules version datasets) (encodings_rules version others))

names_append : (version : Version) (datasets others : List Dataset) → encodings_names version (datasets ++ others)
    ≡ encodings_names version datasets ++ encodings_names version others
names_append version [] others = refl
names_append version (dataset ∷ datasets) others =
    ap (λ it. encoding_names version dataset.model ++ it) (names_append version datasets others)
    ∙ sym (append_assoc (encoding_names version dataset.model) (encodings_names version datasets) (encodings_names version others))

-- the given rules before any dataset
given_alone : (version : Version) (given : List Constraint) → AreAllRules version [] given given
given_alone version given = record {
  first = take-length given;
  all = sym (append-nil (rules_of given));
  names = sym (append-nil (map written given));
}

pub given_most : (version : Version) (datasets : List Dataset) (given rules : List Constraint) → AreAllRules version datasets given rules
    → length given ≤ length rules
given_most version datasets given rules are =
    let one = length-map given rule_of in
    let two = length-map rules rule_of in
    let all = ap length are.all in
    let both = length-append (rules_of given) (encodings_rules version datasets) in
    omega (arith, one, two, all, both)

-- the rules with those of one dataset more
rules_step : (version : Version) (datasets : List Dataset) (dataset : Dataset) (given rules more : List Constraint)
    → AreAllRules version datasets given rules → rules_of more ≡ encoding_rules version dataset.model dataset.base
    → map written more ≡ encoding_names version dataset.model → AreAllRules version (datasets ++ dataset ∷ []) given (rules ++ more)
rules_step version datasets dataset given rules more are own names = record {
  first = take-append-le (length given) rules more (given_most version datasets given rules are) ∙ are.first;
  all =
      map-append rule_of rules more ∙ (λ i. are.all i ++ own i)
      ∙ append_assoc (rules_of given) (encodings_rules version datasets) (encoding_rules version dataset.model dataset.base)
      ∙ ap (λ it. rules_of given ++ it) (sym (rules_append version datasets (dataset ∷ [])
      ∙ ap (λ it. encodings_rules version datasets ++ it) (append-nil (encoding_rules version dataset.model dataset.base))));
  names =
      map-append written rules more ∙ (λ i. are.names i ++ names i)
      ∙ append_assoc (map written given) (encodings_names version datasets) (encoding_names version dataset.model)
      ∙ ap (λ it. map written given ++ it) (sym (names_append version datasets (dataset ∷ [])
      ∙ ap (λ it. encodings_names version datasets ++ it) (append-nil (encoding_names version dataset.model))));
}

-- what holds of the rules once the first datasets were gone through
pub record AreRulesSoFar (version : Version) (arities : List ℕ) (datasets : List Dataset) (given rules : List Constraint) (index : ℕ) : Type 0 where
  pub are : AreAllRules version (take index datasets) given rules
  pub over : AreSoundRules arities rules

pub rules_start : (version : Version) (arities : List ℕ) (datasets : List Dataset) (given : List Constraint) → AreSoundRules arities given
    → AreRulesSoFar version arities datasets given given 0
rules_start version arities datasets given over = record { are = given_alone version given; over = over }

pub rules_goes : (version : Version) (scope : Scope) (datasets : List Dataset) (given rules more : List Constraint) (index : ℕ) (dataset : Dataset)
    → IsScope scope
    → datasets ≡ scope.datasets → AreRulesSoFar version (arities_of scope.schema) datasets given rules index → index < length datasets
    → dataset ≡ get_or datasets index dataset
    → rules_of more ≡ encoding_rules version dataset.model dataset.base → map written more ≡ encoding_names version dataset.model
    → AreRulesSoFar version (arities_of scope.schema) datasets given (rules ++ more) (index + 1)
rules_goes version scope datasets given rules more index dataset is same so_far below at own names = record {
  are = subst (λ (l : List Dataset). AreAllRules version l given (rules ++ more))
      (sym (take-item datasets index dataset below at))
      (rules_step version (take index datasets) dataset given rules more so_far.are own names);
  over = both_sound (arities_of scope.schema) rules more so_far.over
      (sound_of (arities_of scope.schema) more _ own (encoding_over (arities_of scope.schema) version dataset.model dataset.base has));
} where
  inside : Contains scope.datasets dataset
  inside = subst (λ (l : List Dataset). Contains l dataset) same (Contains-read datasets index dataset below at)

  has : HasRelations (arities_of scope.schema) dataset.model dataset.base
  has = subst (λ (s : List Relation). HasRelations (arities_of s) dataset.model dataset.base) (sym is.schema)
      (has_relations (schema_of scope.datasets) dataset.name (length dataset.columns) dataset.model dataset.base
      (is.datasets_are.sound dataset inside).relations)

  both_sound : (arities : List ℕ) (rules more : List Constraint) → AreSoundRules arities rules → AreSoundRules arities more
      → AreSoundRules arities (rules ++ more)
  both_sound arities rules more left right rule there = elim (Contains-append_cases rules more rule there) [
    | inl one ↦ left rule one
    | inr other ↦ right rule other
  ]

pub rules_end : (version : Version) (arities : List ℕ) (datasets : List Dataset) (given rules : List Constraint) (index : ℕ) → length datasets ≤ index
    → AreRulesSoFar version arities datasets given rules index → AreAllRules version datasets given rules
rules_end version arities datasets given rules index most so_far =
    subst (λ (l : List Dataset). AreAllRules version l given rules) (take_all index datasets most) so_far.are
