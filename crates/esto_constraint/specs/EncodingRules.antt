-- The names of the variables of the rules that the facts of documents and of keys meet.
use Rattle.std.specs.Prelude.{ℕ, List, [], ◌∷◌, ◌++◌, map, codes}
use Rattle.esto_query.specs.declared.query.Name.{Name}
use Rattle.esto_query.specs.declared.query.Name.TheVariants.{Given}
use Rattle.esto_constraint.specs.declared.rule.Constraint.{Constraint}
use Rattle.esto_constraint.specs.declared.rule.Constraint.TheVariants.{Tuple, Equal, Never}

-- The names of a rule's variables.
abbrev pub written : Constraint → List Name
written (Tuple rule) = rule.names
written (Equal rule) = rule.names
written (Never rule) = rule.names

-- Names of one letter each.
abbrev pub letters : List ℕ → List Name
letters text = map (λ letter. Given (letter ∷ [])) text

-- The names of the variables of each of the rules of documents, as they stand above.
abbrev pub document_names : List (List Name)
document_names =
    letters (codes "nkmp") ∷ letters (codes "nkmpl") ∷ letters (codes "nkmpl") ∷ letters (codes "nmp") ∷ letters (codes "nvw")
    ∷ letters (codes "nkm") ∷ letters (codes "nm") ∷ []

-- The names of the variables of each of the rules of documents and of the one more.
abbrev pub document_names_2 : List (List Name)
document_names_2 = document_names ++ letters (codes "nm") ∷ []

-- The names of the variables of the rule of keys.
abbrev pub key_names : List (List Name)
key_names = letters (codes "kfvw") ∷ []
