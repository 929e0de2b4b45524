-- The texts that `contains` and `minimise` print.
use Rattle.std.specs.Prelude.{ℕ, ◌+◌, Bool, Option, Some, None, List, [], ◌∷◌, ◌++◌, length, slice_get, codes}
use Rattle.std.specs.Fmt.{decimal}
use Rattle.esto_views.specs.Names.{met_terms}
use Rattle.esto_views.specs.Printing.{count_line, each_from, numbers_text, terms_text}
use Rattle.esto_query.specs.declared.query.Name.{Name}
use Rattle.esto_term.specs.Sets.{numbers}
use Rattle.esto_semantics.specs.declared.fact.Fact.{Fact}
use Rattle.esto_term.specs.declared.term.Term.{Term}

-- The variables without a name that were met, and those of the facts, each where it first occurs.
abbrev pub met_facts : List Name → List ℕ → List (Fact Term) → List ℕ
met_facts names met [] = met
met_facts names met (fact ∷ rest) = met_facts names (met_terms names met fact.terms) rest

-- The name of a relation, where there is one.
abbrev pub relation_name : Option (List ℕ) → List ℕ
relation_name None = []
relation_name (Some name) = name

-- A fact: the name of its relation, and its terms. The relations are given by their names.
abbrev pub fact_text : List (List ℕ) → List Name → List ℕ → Fact Term → List ℕ
fact_text relations names nameless fact = relation_name (slice_get relations fact.relation) ++ terms_text names nameless fact.terms

-- The line of a fact.
abbrev pub fact_line : List (List ℕ) → List Name → List ℕ → Fact Term → List ℕ
fact_line relations names nameless fact = fact_text relations names nameless fact ++ codes "\n"

-- The lines of facts, in order.
abbrev pub facts_lines : List (List ℕ) → List Name → List ℕ → List (Fact Term) → List ℕ
facts_lines relations names nameless [] = []
facts_lines relations names nameless (fact ∷ rest) = fact_line relations names nameless fact ++ facts_lines relations names nameless rest

-- The line of a fact after its number, counted from 1.
abbrev pub numbered_line : List (List ℕ) → List Name → List ℕ → ℕ → Fact Term → List ℕ
numbered_line relations names nameless place fact = decimal (place + 1) ++ codes " " ++ fact_line relations names nameless fact

-- The line of a word and of terms.
abbrev pub head_line : List ℕ → List Name → List ℕ → List Term → List ℕ
head_line word names nameless head = word ++ terms_text names nameless head ++ codes "\n"

-- The line of a set after its number: the numbers of its facts, each counted from 1.
abbrev pub set_line : ℕ → List Bool → List ℕ
set_line place set = decimal (place + 1) ++ codes " {" ++ numbers_text (numbers set) ++ codes "}\n"

-- The text of a no: the row and the facts. The variables without a name are numbered by first occurrence, in the row and then in the facts.
abbrev pub no_text : List (List ℕ) → List Name → List Term → List (Fact Term) → List ℕ
no_text relations names row facts =
    codes "no\n" ++ head_line (codes "row ") names (met_facts names (met_terms names [] row) facts) row
    ++ facts_lines relations names (met_facts names (met_terms names [] row) facts) facts

-- The text of facts with a head, and of sets of their numbers. The variables without a name are numbered by first occurrence, in the facts and then in the
-- head.
abbrev pub minimal_text : List (List ℕ) → List Name → List (Fact Term) → List Term → List (List Bool) → List ℕ
minimal_text relations names facts head sets =
    count_line (codes "facts ") (length facts)
    ++ each_from (numbered_line relations names (met_terms names (met_facts names [] facts) head)) 0 facts
    ++ head_line (codes "head ") names (met_terms names (met_facts names [] facts) head) head
    ++ count_line (codes "minimal ") (length sets) ++ each_from set_line 0 sets
