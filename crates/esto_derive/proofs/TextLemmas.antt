-- Lines in print are read back.
use Rattle.std.proofs.Common.{◌≡◌, ◌≢◌, ◌==◌, ℕ, ◌+◌, ◌*◌, ◌/◌, ◌%◌, ◌<◌, ◌≤◌, Bool, false, if◌then◌else◌, List, [], ◌∷◌, ◌++◌}
use Rattle.std.proofs.Common.{length, map, get_or, Option, Some, All, codes, decimal, refl, ap, ◌∙◌, arith, zero, suc}
use Rattle.std.specs.List.{slice_split}
use Rattle.std.proofs.lemmas.Bool.Decides.{nat_tests}
use Rattle.std.proofs.lemmas.Fmt.{decimal_by_steps, decimal_nonempty, decimal_digit, first_decimal}
use Rattle.std.proofs.lemmas.List.{append_assoc, append-nil}
use Rattle.std.proofs.lemmas.List.Elements.{All-nil, All-cons, All-append, All-push, All-weaker, All-from_recursion}
use Rattle.std.proofs.lemmas.List.Splits.{slice_split_at, slice_split_none}
use Rattle.esto_term.proofs.ListLemmas.{Contains-head, Contains-rest}
use Rattle.esto_term.specs.Nesting.{greatest_u64}
use Rattle.esto_views.specs.Printing.{each_from, comma_before, numbers_text}
use Rattle.esto_cert.specs.Lines.{number_after, number_of, numbers_of, list_of, links_of, with_item, line_of_words, expanded_of, step_of, match_of}
use Rattle.esto_cert.specs.declared.line.Line.{Line}
use Rattle.esto_cert.specs.declared.line.Line.TheVariants.{Expanded, Step, Match}
use Rattle.esto_cert.proofs.WordLemmas.{one_more, digit_more, read_whole, IsDigit, IsOfList, no_byte, no_minus, words, last_word, two_words, above, spaced}
use Rattle.esto_derive.specs.Printing.{after_commas, list_text, line_text, Fit, IsReadable, LinesAreReadBack}

-- ---- numbers

digits_read : (number : ℕ) → number ≤ greatest_u64 → number_after 0 (decimal number) ≡ Some number
digits_read number fits = decimal_by_steps (λ n digits. number_after 0 digits ≡ Some n)
    (λ n small. one_more 0 n small ∙ ap (λ (it : ℕ). Some it) (none n))
    (λ n digits large read. digit_more digits 0 (n / 10) (n % 10) read (omega arith) ∙ ap (λ (it : ℕ). Some it) (whole n))
    number (omega (arith, fits))
  where
    whole : (n : ℕ) → n / 10 * 10 + n % 10 ≡ n
    whole n = omega arith

    none : (n : ℕ) → 0 * 10 + n ≡ n
    none n = omega arith

number_read : (number : ℕ) → number ≤ greatest_u64 → number_of (decimal number) ≡ Some number
number_read number fits =
    read_whole (decimal number) number (decimal_nonempty number (omega (arith, fits))) (leading number fits) (digits_read number fits)
  where
    leading : (n : ℕ) → n ≤ greatest_u64 → 2 ≤ length (decimal n) → 48 < get_or (decimal n) 0 0
    leading zero fits more = let one : length (decimal 0) ≡ 1 = ap length (decimal_digit 0 (omega arith)) in absurd (omega (arith, one, more))
    leading (suc n) fits more = first_decimal (suc n) (omega arith) (omega (arith, fits))

-- ---- bytes

are_digits : (number : ℕ) → number ≤ greatest_u64 → All IsDigit (decimal number)
are_digits number fits = decimal_by_steps (λ n digits. All IsDigit digits) (λ n small. All-cons IsDigit (48 + n) [] (omega arith, omega arith)
    (All-nil IsDigit))
    (λ n digits large are. All-push IsDigit digits (48 + n % 10) are (omega arith, omega arith)) number (omega (arith, fits))

after-of_list : (numbers : List ℕ) → Fit numbers → All IsOfList (after_commas numbers)
after-of_list [] fit = All-nil IsOfList
after-of_list (number ∷ numbers) fit = All-cons IsOfList 44 _ (omega arith, omega arith)
    (All-append IsOfList (decimal number) (after_commas numbers) (of_digits number (fit number (Contains-head number numbers)))
    (after-of_list numbers (λ other inside. fit other (Contains-rest number numbers other inside))))
  where
    of_digits : (n : ℕ) → n ≤ greatest_u64 → All IsOfList (decimal n)
    of_digits n small = All-weaker IsDigit IsOfList (λ byte (from, to). (omega (arith, from), to)) (decimal n) (are_digits n small)

list-of_list : (numbers : List ℕ) → Fit numbers → All IsOfList (list_text numbers)
list-of_list [] fit = All-cons IsOfList 45 [] (omega arith, omega arith) (All-nil IsOfList)
list-of_list (number ∷ numbers) fit =
    All-append IsOfList (decimal number) (after_commas numbers)
    (All-weaker IsDigit IsOfList (λ byte (from, to). (omega (arith, from), to)) (decimal number) (are_digits number (fit number
    (Contains-head number numbers))))
    (after-of_list numbers (λ other inside. fit other (Contains-rest number numbers other inside)))

of_digits : (number : ℕ) → number ≤ greatest_u64 → All IsOfList (decimal number)
of_digits number fits = All-weaker IsDigit IsOfList (λ byte (from, to). (omega (arith, from), to)) (decimal number) (are_digits number fits)

-- ---- lists

commas_read : (number : ℕ) (numbers : List ℕ) → number ≤ greatest_u64 → Fit numbers
    → numbers_of (slice_split (λ byte. byte == 44) (decimal number ++ after_commas numbers)) ≡ Some (number ∷ numbers)
commas_read number [] fits fit =
    ap (λ (it : List ℕ). numbers_of (slice_split (λ byte. byte == 44) it)) (append-nil (decimal number))
    ∙ ap numbers_of (slice_split_none (λ byte. byte == 44) (decimal number) (no_byte 44 (omega arith) (decimal number) (are_digits number fits)))
    ∙ ap (λ (it : Option ℕ). with_item it (Some [])) (number_read number fits)
commas_read number (next ∷ numbers) fits fit =
    ap numbers_of (slice_split_at (λ byte. byte == 44) (decimal number) 44 (decimal next ++ after_commas numbers)
    (no_byte 44 (omega arith) (decimal number) (are_digits number fits)) refl)
    ∙ ap (λ (it : Option ℕ). with_item it (numbers_of (slice_split (λ byte. byte == 44) (decimal next ++ after_commas numbers)))) (number_read number fits)
    ∙ ap (with_item (Some number)) (commas_read next numbers (fit next (Contains-head next numbers))
    (λ other inside. fit other (Contains-rest next numbers other inside)))

list_read : (numbers : List ℕ) → numbers ≢ [] → Fit numbers → list_of (list_text numbers) ≡ Some numbers
list_read [] some fit = absurd (some refl)
list_read (number ∷ numbers) some fit =
    commas_read number numbers (fit number (Contains-head number numbers)) (λ other inside. fit other (Contains-rest number numbers other inside))

links_read : (numbers : List ℕ) → Fit numbers → links_of (list_text numbers) ≡ Some numbers
links_read [] fit = refl
links_read (number ∷ numbers) fit =
    let small = fit number (Contains-head number numbers) in
    ap (λ (it : Bool). if it then Some [] else list_of (list_text (number ∷ numbers)))
    (no_minus (decimal number) (after_commas numbers) (decimal_nonempty number (omega (arith, small))) (are_digits number small))
    ∙ list_read (number ∷ numbers) (λ e. cc) fit

-- ---- lines

pub read_back : LinesAreReadBack
read_back (Expanded atom place) (fits, fits_too) =
    two_words (codes "fact") (decimal atom) (decimal place) (of_digits atom fits) (of_digits place fits_too)
    ∙ ap (λ (it : Option ℕ). expanded_of it (number_of (decimal place))) (number_read atom fits)
    ∙ ap (expanded_of (Some atom)) (number_read place fits_too)
read_back (Match facts links) (some, fit, fit_too) =
    two_words (codes "match") (list_text facts) (list_text links) (list-of_list facts fit) (list-of_list links fit_too)
    ∙ ap (λ (it : Option (List ℕ)). match_of it (links_of (list_text links))) (list_read facts some fit)
    ∙ ap (match_of (Some facts)) (links_read links fit_too)
read_back (Step number place facts links) (fits, fits_too, some, fit, fit_too) =
    ap (λ (it : List (List ℕ)). line_of_words (codes "step" ∷ it))
    (words (decimal number) (decimal place ++ (codes " " ++ (list_text facts ++ (codes " " ++ list_text links)))) (of_digits number fits)
    ∙ ap (λ (it : List (List ℕ)). decimal number ∷ it)
    (words (decimal place) (list_text facts ++ (codes " " ++ list_text links)) (of_digits place fits_too)
    ∙ ap (λ (it : List (List ℕ)). decimal place ∷ it)
    (words (list_text facts) (list_text links) (list-of_list facts fit)
    ∙ ap (λ (it : List (List ℕ)). list_text facts ∷ it) (last_word (list_text links) (list-of_list links fit_too)))))
    ∙ ap (λ (it : Option ℕ). step_of it (number_of (decimal place)) (list_of (list_text facts)) (links_of (list_text links))) (number_read number fits)
    ∙ ap (λ (it : Option ℕ). step_of (Some number) it (list_of (list_text facts)) (links_of (list_text links))) (number_read place fits_too)
    ∙ ap (λ (it : Option (List ℕ)). step_of (Some number) (Some place) it (links_of (list_text links))) (list_read facts some fit)
    ∙ ap (step_of (Some number) (Some place) (Some facts)) (links_read links fit_too)

-- ---- lists of lines

-- numbers of lines that are counted from 0, in print
commas_text : (from : ℕ) → 0 < from → (lines : List ℕ) → each_from (λ place line. comma_before place ++ decimal (line + 1)) from lines
    ≡ after_commas (map (λ line. line + 1) lines)
commas_text from some [] = refl
commas_text zero some (line ∷ lines) = absurd (omega (arith, some))
commas_text (suc from) some (line ∷ lines) =
    ap (λ (it : List ℕ). (codes "," ++ decimal (line + 1)) ++ it) (commas_text (suc from + 1) (omega arith) lines)
    ∙ append_assoc (codes ",") (decimal (line + 1)) (after_commas (map (λ line. line + 1) lines))

pub lines_text : (lines : List ℕ) → length lines ≢ 0 → numbers_text lines ≡ list_text (map (λ line. line + 1) lines)
lines_text [] some = absurd (some refl)
lines_text (line ∷ lines) some = ap (λ (it : List ℕ). decimal (line + 1) ++ it) (commas_text 1 (omega arith) lines)

-- ---- no line feed

printable : (line : Line) → IsReadable line → All (λ byte. 32 ≤ byte) (line_text line)
printable (Expanded atom place) (fits, fits_too) =
    All-append (λ byte. 32 ≤ byte) (codes "fact ") _
    (All-from_recursion (λ byte. 32 ≤ byte) (codes "fact ") (omega arith, (omega arith, (omega arith, (omega arith, (omega arith, tt))))))
    (spaced (decimal atom) (decimal place) (of_digits atom fits) (above (decimal place) (of_digits place fits_too)))
printable (Match facts links) (some, fit, fit_too) =
    All-append (λ byte. 32 ≤ byte) (codes "match ") _
    (All-from_recursion (λ byte. 32 ≤ byte) (codes "match ") (omega arith, (omega arith, (omega arith, (omega arith, (omega arith, (omega arith, tt)))))))
    (spaced (list_text facts) (list_text links) (list-of_list facts fit) (above (list_text links) (list-of_list links fit_too)))
printable (Step number place facts links) (fits, fits_too, some, fit, fit_too) =
    All-append (λ byte. 32 ≤ byte) (codes "step ") _
    (All-from_recursion (λ byte. 32 ≤ byte) (codes "step ") (omega arith, (omega arith, (omega arith, (omega arith, (omega arith, tt))))))
    (spaced (decimal number) _ (of_digits number fits)
    (spaced (decimal place) _ (of_digits place fits_too)
    (spaced (list_text facts) (list_text links) (list-of_list facts fit) (above (list_text links) (list-of_list links fit_too)))))

pub no_feed : (line : Line) → IsReadable line → All (λ byte. (byte == 10) ≡ false) (line_text line)
no_feed line readable =
    All-weaker (λ byte. 32 ≤ byte) (λ byte. (byte == 10) ≡ false) (λ byte large. grind (arith, nat_tests)) (line_text line) (printable line readable)
