-- Which words ask for a certificate.
use Rattle.std.proofs.Common.{◌≡◌, ◌&&◌, ℕ, true, false, Bool, List, [], ◌∷◌, Option, Some, None, refl, sym, ap, ◌∙◌}
use Rattle.std.proofs.lemmas.Bool.{and_parts}
use Rattle.std.specs.Prelude.{codes, if◌then◌else◌}
use Rattle.std.specs.Cmp.Lexicographic.{same_text}
use Rattle.esto_top.specs.Explain.{explain_course}
use Rattle.esto_ports.specs.Files.{Files}
use Rattle.esto_top.specs.CertificateOutcomes.{AsksExplain}
use Rattle.esto_top.specs.Determined.{AsksCertificate, writes_certificate}
use Rattle.esto_top.specs.Grammar.{course_of, is_list_number, is_made_size, is_word, request_of, value_of}
use Rattle.esto_top.specs.Grammar.Request.{AnswerFor, AuditOf, BenchOf, CheckOf, ContainsFor, ExplainFor, FillFor, ListFor, MinimiseFor, RunFor, VerifyFor}

-- words that ask for a certificate have its course
pub explain_words : (words : List (List ℕ)) (catalogue_name query_name : List ℕ) (number : ℕ) (files : Option Files)
    → AsksExplain words catalogue_name query_name number → course_of words files ≡ explain_course files catalogue_name query_name number
explain_words words catalogue_name query_name number files (word, is_number, number_is, is) =
    ap (λ (it : List (List ℕ)). course_of it files) is ∙ by_test (is_list_number word) refl
  where
    by_test : (test : Bool) → is_list_number word ≡ test
        → course_of (codes "explain" ∷ catalogue_name ∷ query_name ∷ word ∷ []) files ≡ explain_course files catalogue_name query_name number
    by_test true test = rw (test, number_is) refl
    by_test false test = let h : false ≡ true = sym test ∙ is_number in absurd (cc)

-- ---- no other words do

false_true : false ≡ true → ⊥
false_true is = cc

one_apart : (check audit bench : Bool) (word : List ℕ) (size : ℕ)
    → writes_certificate (if check then Some (CheckOf word) else if audit then Some (AuditOf word) else if bench then Some (BenchOf size) else None) ≡ true
    → ⊥
one_apart true audit bench word size is = false_true is
one_apart false true bench word size is = false_true is
one_apart false false true word size is = false_true is
one_apart false false false word size is = false_true is

two_apart : (list run fill answer minimise : Bool) (first second : List ℕ)
    → writes_certificate (if list then Some (ListFor first second) else if run then Some (RunFor first second None)
    else if fill then Some (FillFor first second) else if answer then Some (AnswerFor first second)
    else if minimise then Some (MinimiseFor first second) else None) ≡ true
    → ⊥
two_apart true run fill answer minimise first second is = false_true is
two_apart false true fill answer minimise first second is = false_true is
two_apart false false true answer minimise first second is = false_true is
two_apart false false false true minimise first second is = false_true is
two_apart false false false false true first second is = false_true is
two_apart false false false false false first second is = false_true is

three_tells : (contains run explain : Bool) (first second third : List ℕ) (number : ℕ)
    → writes_certificate (if contains then Some (ContainsFor first second third) else if run then Some (RunFor first second (Some number))
    else if explain then Some (ExplainFor first second number) else None) ≡ true
    → explain ≡ true
three_tells true run explain first second third number is = absurd (false_true is)
three_tells false true explain first second third number is = absurd (false_true is)
three_tells false false true first second third number is = refl
three_tells false false false first second third number is = absurd (false_true is)

four_apart : (verify : Bool) (first second third fourth : List ℕ)
    → writes_certificate (if verify then Some (VerifyFor first second third fourth) else None) ≡ true → ⊥
four_apart true first second third fourth is = false_true is
four_apart false first second third fourth is = false_true is

pub asks_certificate : (words : List (List ℕ)) → writes_certificate (request_of words) ≡ true → AsksCertificate words
asks_certificate [] is = absurd (false_true is)
asks_certificate (verb ∷ []) is = absurd (false_true is)
asks_certificate (verb ∷ word ∷ []) is =
    absurd (one_apart (is_word verb (codes "check")) (is_word verb (codes "audit")) (is_word verb (codes "bench") && is_made_size word) word (value_of word) is)
asks_certificate (verb ∷ first ∷ second ∷ []) is =
    absurd (two_apart (is_word verb (codes "list")) (is_word verb (codes "run")) (is_word verb (codes "fill")) (is_word verb (codes "answer"))
    (is_word verb (codes "minimise")) first second is)
asks_certificate (verb ∷ first ∷ second ∷ third ∷ []) is =
    let tells = and_parts (is_word verb (codes "explain")) (is_list_number third)
    (three_tells (is_word verb (codes "contains")) (is_word verb (codes "run") && is_list_number third)
    (is_word verb (codes "explain") && is_list_number third) first second third (value_of third) is) in (
      first,
      second,
      value_of third,
      (
        third,
        tells.1,
        refl,
        ap (λ (it : List ℕ). it ∷ first ∷ second ∷ third ∷ []) (same_text verb (codes "explain") (sym tells.0)),
      ),
    )
asks_certificate (verb ∷ first ∷ second ∷ third ∷ fourth ∷ []) is =
    absurd (four_apart (is_word verb (codes "verify")) first second third fourth is)
asks_certificate (verb ∷ first ∷ second ∷ third ∷ fourth ∷ fifth ∷ rest) is = absurd (false_true is)
