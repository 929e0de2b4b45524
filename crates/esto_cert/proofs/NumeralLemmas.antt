-- Whatever numbers a line has, some bytes say the line.
use Rattle.std.proofs.Common.{◌≡◌, ◌≢◌, inl, inr, ◌==◌, ℕ, ◌+◌, ◌*◌, ◌/◌, ◌%◌, ◌<◌, ◌≤◌, zero, suc, Bool, if◌then◌else◌, List, [], ◌∷◌, ◌++◌, length, get_or}
use Rattle.std.proofs.Common.{map, Contains, Option, Some, false, All, codes, refl, sym, ap, subst, ◌∙◌, arith}
use Rattle.std.specs.Bool.{⊤}
use Rattle.std.specs.List.{flat_map, slice_split}
use Rattle.std.proofs.lemmas.Bool.{cases_lt}
use Rattle.std.proofs.lemmas.Bool.Decides.{nat_tests}
use Rattle.std.proofs.lemmas.List.{append_assoc, append-nil, length-append}
use Rattle.std.proofs.lemmas.List.Elements.{All-nil, All-cons, All-append, All-push, All-weaker, All-from_recursion}
use Rattle.std.proofs.lemmas.List.Splits.{slice_split_at, slice_split_none}
use Rattle.esto_term.proofs.ListLemmas.{Contains-cases, Contains-head, Contains-nil, Contains-rest}
use Rattle.esto_cert.specs.Lines.{number_after, number_of, numbers_of, list_of, links_of, with_item, line_of, line_of_words, expanded_of, step_of, match_of}
use Rattle.esto_cert.specs.Showing.{AreLinesOf}
use Rattle.esto_cert.specs.declared.line.Line.{Line}
use Rattle.esto_cert.specs.declared.line.Line.TheVariants.{Expanded, Step, Match}
use Rattle.esto_cert.proofs.WordLemmas.{one_more, digit_more, read_whole, IsDigit, IsOfList, no_byte, no_minus, words, last_word, two_words, above, spaced}

-- ---- numbers

-- the digits write the number
record IsNumeral (number : ℕ) (digits : List ℕ) : Type 0 where
  some : 0 < length digits
  first : 0 < number → 48 < get_or digits 0 0
  leading : 2 ≤ length digits → 48 < get_or digits 0 0
  reads : number_after 0 digits ≡ Some number
  are : All IsDigit digits

one_digit : (number : ℕ) → number < 10 → IsNumeral number ((48 + number) ∷ [])
one_digit number small = record {
  some = omega arith;
  first = λ some. omega (arith, some);
  leading = λ more. absurd (omega (arith, more));
  reads = one_more 0 number small ∙ ap (λ (it : ℕ). Some it) none;
  are = All-cons IsDigit (48 + number) [] (omega arith, omega (arith, small)) (All-nil IsDigit);
}
  where
    none : 0 * 10 + number ≡ number
    none = omega arith

first_stays : (digits more : List ℕ) → 0 < length digits → get_or (digits ++ more) 0 0 ≡ get_or digits 0 0
first_stays [] more some = absurd (omega (arith, some))
first_stays (digit ∷ digits) more some = refl

one_digit_more : (number : ℕ) (digits : List ℕ) → 10 ≤ number → IsNumeral (number / 10) digits → IsNumeral number (digits ++ (48 + number % 10) ∷ [])
one_digit_more number digits large is = record {
  some = omega (arith, is.some, length-append digits ((48 + number % 10) ∷ []));
  first = λ _. begins;
  leading = λ _. begins;
  reads = digit_more digits 0 (number / 10) (number % 10) is.reads (omega arith) ∙ ap (λ (it : ℕ). Some it) whole;
  are = All-push IsDigit digits (48 + number % 10) is.are (omega arith, omega arith);
}
  where
    begins : 48 < get_or (digits ++ (48 + number % 10) ∷ []) 0 0
    begins = subst (λ (it : ℕ). 48 < it) (sym (first_stays digits ((48 + number % 10) ∷ []) is.some)) (is.first (omega (arith, large)))

    whole : number / 10 * 10 + number % 10 ≡ number
    whole = omega arith

numeral_within : (bound number : ℕ) → number ≤ bound → (digits : List ℕ) × IsNumeral number digits
numeral_within zero number few = ((48 + number) ∷ [], one_digit number (omega (arith, few)))
numeral_within (suc bound) number few = elim (cases_lt number 10) [
  | inl small ↦ ((48 + number) ∷ [], one_digit number small)
  | inr large ↦
      let front = numeral_within bound (number / 10) (omega (arith, few, large)) in
      (front.0 ++ (48 + number % 10) ∷ [], one_digit_more number front.0 large front.1)
]

-- digits of the number, as a word of its own and in a list
record IsWord (number : ℕ) (digits : List ℕ) : Type 0 where
  some : 0 < length digits
  reads : number_of digits ≡ Some number
  are : All IsDigit digits
  of_list : All IsOfList digits

word_of : (number : ℕ) → (digits : List ℕ) × IsWord number digits
word_of number =
    let (digits, is) = numeral_within number number (omega arith) in (
      digits,
      record {
        some = is.some;
        reads = read_whole digits number is.some is.leading is.reads;
        are = is.are;
        of_list = All-weaker IsDigit IsOfList (λ byte (from, to). (omega (arith, from), to)) digits is.are;
      },
    )

-- ---- lists

-- the digits and what follows them are a list of the numbers
record IsList (number : ℕ) (numbers digits rest : List ℕ) : Type 0 where
  some : 0 < length digits
  are : All IsDigit digits
  of_list : All IsOfList (digits ++ rest)
  reads : list_of (digits ++ rest) ≡ Some (number ∷ numbers)

list_from : (number : ℕ) (numbers : List ℕ) → (digits : List ℕ) × (rest : List ℕ) × IsList number numbers digits rest
list_from number [] =
    let (digits, is) = word_of number in (
      digits,
      [],
      record {
        some = is.some;
        are = is.are;
        of_list = All-append IsOfList digits [] is.of_list (All-nil IsOfList);
        reads = ap (λ (it : List ℕ). numbers_of (slice_split (λ byte. byte == 44) it)) (append-nil digits)
            ∙ ap numbers_of (slice_split_none (λ byte. byte == 44) digits (no_byte 44 (omega arith) digits is.are))
            ∙ ap (λ (it : Option ℕ). with_item it (Some [])) is.reads;
      },
    )
list_from number (next ∷ numbers) =
    let (digits, is) = word_of number in
    let (later, rest, are) = list_from next numbers in (
      digits,
      44 ∷ (later ++ rest),
      record {
        some = is.some;
        are = is.are;
        of_list = All-append IsOfList digits (44 ∷ (later ++ rest)) is.of_list
            (All-cons IsOfList 44 (later ++ rest) (omega arith, omega arith) are.of_list);
        reads = ap numbers_of (slice_split_at (λ byte. byte == 44) digits 44 (later ++ rest) (no_byte 44 (omega arith) digits is.are) refl)
            ∙ ap (λ (it : Option ℕ). with_item it (list_of (later ++ rest))) is.reads ∙ ap (with_item (Some number)) are.reads;
      },
    )

list_said : (numbers : List ℕ) → numbers ≢ [] → (word : List ℕ) × All IsOfList word × (list_of word ≡ Some numbers)
list_said [] some = absurd (some refl)
list_said (number ∷ numbers) some = let (digits, rest, are) = list_from number numbers in (digits ++ rest, are.of_list, are.reads)

links_said : (numbers : List ℕ) → (word : List ℕ) × All IsOfList word × (links_of word ≡ Some numbers)
links_said [] = (codes "-", All-cons IsOfList 45 [] (omega arith, omega arith) (All-nil IsOfList), refl)
links_said (number ∷ numbers) =
    let (digits, rest, are) = list_from number numbers in (
      digits ++ rest,
      are.of_list,
      ap (λ (it : Bool). if it then Some [] else list_of (digits ++ rest)) (no_minus digits rest are.some are.are) ∙ are.reads,
    )

-- ---- lines

-- the line names a fact at least, unless it is an expanded one
abbrev pub NamesFacts : Line → Type 0
NamesFacts (Expanded atom place) = ⊤
NamesFacts (Step number place facts links) = facts ≢ []
NamesFacts (Match facts links) = facts ≢ []

-- bytes that say the line
abbrev IsText : Line → List ℕ → Type 0
IsText line text = (line_of text ≡ Some line) × All (λ byte. 32 ≤ byte) text

line_said : (line : Line) → NamesFacts line → (text : List ℕ) × IsText line text
line_said (Expanded atom place) _ =
    let (one, is) = word_of atom in
    let (other, are) = word_of place in (
      codes "fact " ++ (one ++ (codes " " ++ other)),
      (
        two_words (codes "fact") one other is.of_list are.of_list ∙ ap (λ (it : Option ℕ). expanded_of it (number_of other)) is.reads
            ∙ ap (expanded_of (Some atom)) are.reads,
        All-append (λ byte. 32 ≤ byte) (codes "fact ") _
            (All-from_recursion (λ byte. 32 ≤ byte) (codes "fact ") (omega arith, (omega arith, (omega arith, (omega arith, (omega arith, tt))))))
            (spaced one other is.of_list (above other are.of_list)),
      ),
    )
line_said (Match facts links) some =
    let (one, is, reads) = list_said facts some in
    let (other, are, reads_too) = links_said links in (
      codes "match " ++ (one ++ (codes " " ++ other)),
      (
        two_words (codes "match") one other is are ∙ ap (λ (it : Option (List ℕ)). match_of it (links_of other)) reads ∙ ap (match_of (Some facts)) reads_too,
        All-append (λ byte. 32 ≤ byte) (codes "match ") _
            (All-from_recursion (λ byte. 32 ≤ byte) (codes "match ")
            (omega arith, (omega arith, (omega arith, (omega arith, (omega arith, (omega arith, tt)))))))
            (spaced one other is (above other are)),
      ),
    )
line_said (Step number place facts links) some =
    let (rule, is_rule) = word_of number in
    let (at, is_at) = word_of place in
    let (one, is, reads) = list_said facts some in
    let (other, are, reads_too) = links_said links in (
      codes "step " ++ (rule ++ (codes " " ++ (at ++ (codes " " ++ (one ++ (codes " " ++ other)))))),
      (
        ap (λ (it : List (List ℕ)). line_of_words (codes "step" ∷ it))
            (words rule (at ++ (codes " " ++ (one ++ (codes " " ++ other)))) is_rule.of_list
            ∙ ap (λ (it : List (List ℕ)). rule ∷ it)
            (words at (one ++ (codes " " ++ other)) is_at.of_list
            ∙ ap (λ (it : List (List ℕ)). at ∷ it) (words one other is ∙ ap (λ (it : List (List ℕ)). one ∷ it) (last_word other are))))
            ∙ ap (λ (it : Option ℕ). step_of it (number_of at) (list_of one) (links_of other)) is_rule.reads
            ∙ ap (λ (it : Option ℕ). step_of (Some number) it (list_of one) (links_of other)) is_at.reads
            ∙ ap (λ (it : Option (List ℕ)). step_of (Some number) (Some place) it (links_of other)) reads
            ∙ ap (step_of (Some number) (Some place) (Some facts)) reads_too,
        All-append (λ byte. 32 ≤ byte) (codes "step ") _
            (All-from_recursion (λ byte. 32 ≤ byte) (codes "step ") (omega arith, (omega arith, (omega arith, (omega arith, (omega arith, tt))))))
            (spaced rule _ is_rule.of_list (spaced at _ is_at.of_list (spaced one other is (above other are)))),
      ),
    )

-- ---- all lines

-- texts of the lines, none of which has a line feed
record AreTexts (lines : List Line) (texts : List (List ℕ)) : Type 0 where
  read : map line_of texts ≡ map Some lines
  no_feed : (text : List ℕ) → Contains texts text → All (λ byte. (byte == 10) ≡ false) text

texts_of : (lines : List Line) → ((line : Line) → Contains lines line → NamesFacts line) → (texts : List (List ℕ)) × AreTexts lines texts
texts_of [] named = ([], record { read = refl; no_feed = λ text none. absurd (Contains-nil text none) })
texts_of (line ∷ lines) named =
    let (text, (said, large)) = line_said line (named line (Contains-head line lines)) in
    let (texts, are) = texts_of lines (λ other inside. named other (Contains-rest line lines other inside)) in (
      text ∷ texts,
      record {
        read = ap (λ (it : Option Line). it ∷ map line_of texts) said ∙ ap (λ (it : List (Option Line)). Some line ∷ it) are.read;
        no_feed = λ other inside. elim (Contains-cases text texts other inside) [
          | inl is ↦ subst (λ (it : List ℕ). All (λ byte. (byte == 10) ≡ false) it) is (feedless text large)
          | inr later ↦ are.no_feed other later
        ];
      },
    )
  where
    feedless : (text : List ℕ) → All (λ byte. 32 ≤ byte) text → All (λ byte. (byte == 10) ≡ false) text
    feedless text = All-weaker (λ byte. 32 ≤ byte) (λ byte. (byte == 10) ≡ false) (λ byte large. grind (arith, nat_tests)) text

split_texts : (texts : List (List ℕ)) → ((text : List ℕ) → Contains texts text → All (λ byte. (byte == 10) ≡ false) text)
    → slice_split (λ byte. byte == 10) (flat_map (λ text. text ++ codes "\n") texts) ≡ texts ++ [] ∷ []
split_texts [] no_feed = refl
split_texts (first ∷ texts) no_feed =
    ap (slice_split (λ byte. byte == 10)) (append_assoc first (codes "\n") (flat_map (λ text. text ++ codes "\n") texts))
    ∙ slice_split_at (λ byte. byte == 10) first 10 (flat_map (λ text. text ++ codes "\n") texts) (no_feed first (Contains-head first texts)) refl
    ∙ ap (λ (it : List (List ℕ)). first ∷ it) (split_texts texts (λ text inside. no_feed text (Contains-rest first texts text inside)))

-- bytes that are these lines
pub lines_have_bytes : (lines : List Line) → ((line : Line) → Contains lines line → NamesFacts line) → (bytes : List ℕ) × AreLinesOf bytes lines
lines_have_bytes lines named =
    let (texts, are) = texts_of lines named in
    (flat_map (λ text. text ++ codes "\n") texts, (texts, split_texts texts are.no_feed, are.read))
