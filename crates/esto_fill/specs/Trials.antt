-- What an audit tries, and the facts on which that rests.
use Rattle.std.specs.Prelude.{◌≡◌, List, [], ◌∷◌, Contains}
use Rattle.esto_mapping.specs.declared.catalogue.Catalogue.{Catalogue}
use Rattle.esto_constraint.specs.Constraints.{rules_of}
use Rattle.esto_semantics.specs.Rules.{AreMet}
use Rattle.esto_semantics.specs.Maps.{AreFlat}
use Rattle.esto_semantics.specs.Queries.{ConjunctiveQuery}
use Rattle.esto_semantics.specs.Rules.{Rule, tuple, equality, denial}
use Rattle.esto_semantics.specs.declared.fact.Fact.{Fact}
use Rattle.esto_term.specs.declared.term.Term.{Term}
use Rattle.esto_views.specs.Fragments.{views_of}
use Rattle.esto_fill.specs.Lawful.{AreLaws}
use Rattle.esto_fill.specs.Wanted.{DropsUnasked}
use Rattle.esto_fill.specs.declared.trial.Trial.{Trial}
use Rattle.esto_fill.specs.declared.wanted.Wanted.{Wanted}
use Rattle.esto_fill.specs.declared.wanted.Wanted.TheVariants.{Asked}

-- The parts of a rule: its body, and where it has one its head.
abbrev pub parts_of : Rule → List (List (Fact Term))
parts_of (tuple body head) = body ∷ head ∷ []
parts_of (equality body left right) = body ∷ []
parts_of (denial body) = body ∷ []

-- Each part of the rule is one of the bodies.
abbrev pub HaveParts : List (List (Fact Term)) → Rule → Type 0
HaveParts bodies rule = (part : List (Fact Term)) → Contains (parts_of rule) part → Contains bodies part

-- Each part of each of the rules that is none of the laws is one of the bodies, and so is the body of each view.
pub record Cover (rules laws : List Rule) (views : List ConjunctiveQuery) (bodies : List (List (Fact Term))) : Type 0 where
  pub tried : (rule : Rule) → Contains rules rule → ¬ (Contains laws rule) → HaveParts bodies rule
  pub asked : (view : ConjunctiveQuery) → Contains views view → Contains bodies view.body

-- All facts to which an atom of a view can go, or one of a rule that is none of the laws, are wanted.
abbrev pub IsWantedBut : List Rule → Catalogue → Wanted → Type 0
IsWantedBut laws catalogue wanted =
    (bodies : List (List (Fact Term))) × (wanted ≡ Asked bodies) × Cover (rules_of catalogue.rules) laws (views_of catalogue.fragments) bodies

-- What is not tried are laws, and all facts to which an atom of a view or of a rule that is tried can go are wanted.
pub record IsTrialOf (catalogue : Catalogue) (trial : Trial) : Type 0 where
  pub laws : AreLaws catalogue.datasets (rules_of trial.laws)
  pub wants : IsWantedBut (rules_of trial.laws) catalogue trial.wanted

-- Some of the facts, in order, are enough: the facts meet the laws, and to one that is not among them no atom of a view or of another rule can go.
pub record IsEnough (rules laws : List Rule) (views : List ConjunctiveQuery) (facts some : List (Fact Term)) : Type 0 where
  pub flat : AreFlat facts
  pub met : AreMet facts laws
  pub bodies : List (List (Fact Term))
  pub covers : Cover rules laws views bodies
  pub drops : DropsUnasked bodies facts some

-- It is enough for the trial of a catalogue.
abbrev pub IsEnoughFor : Catalogue → List Rule → List (Fact Term) → List (Fact Term) → Type 0
IsEnoughFor catalogue laws facts some = IsEnough (rules_of catalogue.rules) laws (views_of catalogue.fragments) facts some

-- ---- for private clauses

-- Each body that was there is there still.
abbrev pub KeepBodies : List (List (Fact Term)) → List (List (Fact Term)) → Type 0
KeepBodies old new = (body : List (Fact Term)) → Contains old body → Contains new body

-- To the bodies have come the parts of each of the rules that is none of the laws.
abbrev pub AddsTried : List Rule → List Rule → List (List (Fact Term)) → List (List (Fact Term)) → Type 0
AddsTried rules laws old new = KeepBodies old new × ((rule : Rule) → Contains rules rule → ¬ (Contains laws rule) → HaveParts new rule)
