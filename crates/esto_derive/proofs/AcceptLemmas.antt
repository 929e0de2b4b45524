-- What is written is accepted.
use Rattle.std.proofs.Common.{◌≡◌, Bool, ℕ, List, [], None, sym, subst}
use Rattle.esto_term.specs.declared.term.Term.{Term}
use Rattle.esto_constraint.specs.Constraints.{rules_of}
use Rattle.esto_constraint.specs.declared.rule.Constraint.{Constraint}
use Rattle.esto_semantics.specs.Queries.{ConjunctiveQuery}
use Rattle.esto_semantics.specs.declared.expanded.ExpandedFact.{ExpandedFact}
use Rattle.esto_chase_laws.specs.Derived.{AreDerived}
use Rattle.esto_chase_laws.specs.declared.entry.Entry.{Entry}
use Rattle.esto_cert.specs.Certificates.{Case}
use Rattle.esto_cert.specs.Judging.{Verdict, Decides}
use Rattle.esto_cert.specs.declared.line.Line.TheVariants.{Match}
use Rattle.esto_cert.proofs.ClaimLemmas.{no_verdict}
use Rattle.esto_derive.specs.Writing.{IsWritten}

pub accepted : (case : Case) (entries : List Entry) (bytes : List ℕ) → IsWritten case entries bytes → Decides case bytes None
accepted case entries bytes is =
    let (parts, split, read) = is.are_lines in
    subst (λ (it : List (List ℕ)). Verdict case [] 1 it None) (sym split)
    (no_verdict case (Match is.facts is.links) is.lines parts [] is.claims 1 read is.are_of.are_claims.as_many is.are_of.are_claims.each is.ends)

-- the same of entries and rules as they are read
pub as_read : (expanded : List ExpandedFact) (set : List Bool) (query : ConjunctiveQuery) (targets : List Term) (bytes : List ℕ) (entries shown : List Entry)
    (rules its : List Constraint) → shown ≡ entries → its ≡ rules
    → (AreDerived expanded (rules_of its) shown
    → IsWritten (record { expanded = expanded; set = set; rules = rules_of its; query = query; targets = targets }) shown bytes)
    → AreDerived expanded (rules_of rules) entries
    → IsWritten (record { expanded = expanded; set = set; rules = rules_of rules; query = query; targets = targets }) entries bytes
as_read expanded set query targets bytes entries shown rules its shown_is its_is writes derived =
    subst (λ (it : List Constraint). IsWritten
    (record { expanded = expanded; set = set; rules = rules_of it; query = query; targets = targets }) entries bytes) its_is
    (subst (λ (it : List Entry). IsWritten
    (record { expanded = expanded; set = set; rules = rules_of its; query = query; targets = targets }) it bytes) shown_is
    (writes (subst (λ (it : List Constraint). AreDerived expanded (rules_of it) shown) (sym its_is)
    (subst (AreDerived expanded (rules_of rules)) (sym shown_is) derived))))
