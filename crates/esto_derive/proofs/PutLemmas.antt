-- Lines that are put at the end part by part.
use Rattle.std.proofs.Common.{◌≡◌, ℕ, List, ◌++◌, codes, decimal, ap, sym, ◌∙◌}
use Rattle.std.proofs.lemmas.List.{append_assoc}
use Rattle.esto_term.proofs.ListLemmas.{two_more}
use Rattle.esto_derive.specs.Printing.{line_text, list_text}
use Rattle.esto_cert.specs.declared.line.Line.TheVariants.{Step, Match}

pub lists_put : (old one two three new first second : List ℕ) → one ≡ old ++ first → two ≡ one ++ codes " " → three ≡ two ++ second
    → new ≡ three ++ codes "\n" → new ≡ old ++ (first ++ (codes " " ++ (second ++ codes "\n")))
lists_put old one two three new first second one_is two_is three_is new_is =
    two_more old one new first (codes " " ++ (second ++ codes "\n")) one_is
    (two_more one two new (codes " ") (second ++ codes "\n") two_is (two_more two three new second (codes "\n") three_is new_is))

-- the end of the line belongs to the lists
ended : (facts links : List ℕ)
    → list_text facts ++ (codes " " ++ (list_text links ++ codes "\n")) ≡ (list_text facts ++ (codes " " ++ list_text links)) ++ codes "\n"
ended facts links = sym (append_assoc (list_text facts) (codes " " ++ list_text links) (codes "\n"))

pub step_put : (number place : ℕ) (facts links old one two three new : List ℕ) → one ≡ old ++ codes "step " → two ≡ one ++ (decimal number ++ codes " ")
    → three ≡ two ++ (decimal place ++ codes " ") → new ≡ three ++ (list_text facts ++ (codes " " ++ (list_text links ++ codes "\n")))
    → new ≡ old ++ (line_text (Step number place facts links) ++ codes "\n")
step_put number place facts links old one two three new one_is two_is three_is new_is =
    let lists : List ℕ = list_text facts ++ (codes " " ++ list_text links) in
    two_more old one new (codes "step ") _ one_is
    (two_more one two new (decimal number ++ codes " ") _ two_is
    (two_more two three new (decimal place ++ codes " ") (lists ++ codes "\n") three_is
    (new_is ∙ ap (λ (it : List ℕ). three ++ it) (ended facts links))))
    ∙ ap (λ (it : List ℕ). old ++ (codes "step " ++ it))
    (ap (λ (it : List ℕ). (decimal number ++ codes " ") ++ it) (append_assoc (decimal place) (codes " ") (lists ++ codes "\n")
    ∙ sym (append_assoc (decimal place) (codes " " ++ lists) (codes "\n")))
    ∙ append_assoc (decimal number) (codes " ") _
    ∙ sym (append_assoc (decimal number) (codes " " ++ (decimal place ++ (codes " " ++ lists))) (codes "\n")))

pub match_put : (facts links old one new : List ℕ) → one ≡ old ++ codes "match "
    → new ≡ one ++ (list_text facts ++ (codes " " ++ (list_text links ++ codes "\n")))
    → new ≡ old ++ (line_text (Match facts links) ++ codes "\n")
match_put facts links old one new one_is new_is =
    two_more old one new (codes "match ") _ one_is (new_is ∙ ap (λ (it : List ℕ). one ++ it) (ended facts links))
