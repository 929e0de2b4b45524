-- A certificate that is accepted begins with no byte-order mark.
use Rattle.std.proofs.Common.{◌≡◌, ◌≤◌, ◌==◌, ◌&&◌, ◌++◌, ℕ, true, false, Bool, List, [], ◌∷◌, drop, length, map, take, Some, None, refl, sym, ap, subst, ◌∙◌}
use Rattle.std.specs.Prelude.{if◌then◌else◌, nat_eq}
use Rattle.std.specs.Cmp.Lexicographic.{pointwise}
use Rattle.std.specs.List.{onto_first, slice_split, starts_with}
use Rattle.std.proofs.lemmas.Bool.{eqb-true}
use Rattle.std.proofs.lemmas.Option.{none-some}
use Rattle.esto_cert.specs.Lines.{line_of, line_of_words}
use Rattle.esto_cert.specs.Showing.{AreLinesOf}
use Rattle.esto_cert.specs.declared.line.Line.{Line}
use Rattle.esto_ports.specs.Marks.{without_mark}
use Rattle.esto_status.specs.Fetch.{HasWithin}
use Rattle.esto_ports.specs.Files.{Files, Holds}
use Rattle.esto_term.proofs.ListLemmas.{first_same}

no_first : {A : Type 0} (one : A) (more : List A) → [] ≡ one ∷ more → ⊥
no_first one more same = cc

-- words of which the first begins with the mark's first byte say no line
words_apart : (rest : List ℕ) (words : List (List ℕ)) → line_of_words ((239 ∷ rest) ∷ words) ≡ None
words_apart rest [] = refl
words_apart rest (first ∷ []) = refl
words_apart rest (first ∷ second ∷ []) = refl
words_apart rest (first ∷ second ∷ third ∷ []) = refl
words_apart rest (first ∷ second ∷ third ∷ fourth ∷ []) = refl
words_apart rest (first ∷ second ∷ third ∷ fourth ∷ fifth ∷ more) = refl

-- nor does a part that begins with it
part_apart : (rest : List ℕ) → line_of (239 ∷ rest) ≡ None
part_apart rest = by (slice_split (λ byte. byte == 32) rest) refl
  where
    by : (words : List (List ℕ)) → slice_split (λ byte. byte == 32) rest ≡ words → line_of (239 ∷ rest) ≡ None
    by [] is = rw is refl
    by (word ∷ words) is = rw is (words_apart word words)

-- bytes that begin with it are no lines
not_first : (rest : List ℕ) (parts : List (List ℕ)) (line : Line) (lines : List Line)
    → slice_split (λ byte. byte == 10) (239 ∷ rest) ≡ parts ++ [] ∷ [] → map line_of parts ≡ map Some (line ∷ lines) → ⊥
not_first rest [] line lines are say = no_first (Some line) (map Some lines) say
not_first rest (part ∷ parts) line lines are say = by (slice_split (λ byte. byte == 10) rest) are
  where
    begins : (other : List ℕ) → 239 ∷ other ≡ part → ⊥
    begins other is = none-some line
        (sym (part_apart other) ∙ ap line_of is ∙ first_same (line_of part) (Some line) (map line_of parts) (map Some lines) say)

    by : (others : List (List ℕ)) → onto_first 239 others ≡ (part ∷ parts) ++ [] ∷ [] → ⊥
    by [] is = begins [] (first_same (239 ∷ []) part [] (parts ++ [] ∷ []) is)
    by (first ∷ others) is = begins first (first_same (239 ∷ first) part others (parts ++ [] ∷ []) is)

unmarked : (bytes : List ℕ) (parts : List (List ℕ)) (line : Line) (lines : List Line) → slice_split (λ byte. byte == 10) bytes ≡ parts ++ [] ∷ []
    → map line_of parts ≡ map Some (line ∷ lines) → starts_with nat_eq bytes (239 ∷ 187 ∷ 191 ∷ []) ≡ false
unmarked [] parts line lines are say = refl
unmarked (byte ∷ rest) parts line lines are say = by (nat_eq 239 byte) refl
  where
    by : (test : Bool) → nat_eq 239 byte ≡ test → starts_with nat_eq (byte ∷ rest) (239 ∷ 187 ∷ 191 ∷ []) ≡ false
    by true is =
        absurd (not_first rest parts line lines
        (subst (λ (it : ℕ). slice_split (λ byte. byte == 10) (it ∷ rest) ≡ parts ++ [] ∷ []) (sym (eqb-true 239 byte is)) are) say)
    by false is = ap (λ (it : Bool). it && pointwise nat_eq (187 ∷ 191 ∷ []) (take 2 rest)) is

-- bytes that are lines, of which there is one, are a file that is fetched as it is
pub lines_within : (bytes : List ℕ) (early : List Line) (last : Line) → AreLinesOf bytes (early ++ last ∷ []) → (files : Files) (name : List ℕ) (limit : ℕ)
    → Holds (Some files) name bytes → length bytes ≤ limit → HasWithin files name limit bytes
lines_within bytes early last (parts, are, say) files name limit holds short = (bytes, holds, short, sym as_it_is)
  where
    no_mark : (all : List Line) → early ≡ all → starts_with nat_eq bytes (239 ∷ 187 ∷ 191 ∷ []) ≡ false
    no_mark [] is = unmarked bytes parts last [] are (say ∙ ap (λ (it : List Line). map Some (it ++ last ∷ [])) is)
    no_mark (first ∷ rest) is = unmarked bytes parts first (rest ++ last ∷ []) are (say ∙ ap (λ (it : List Line). map Some (it ++ last ∷ [])) is)

    as_it_is : without_mark bytes ≡ bytes
    as_it_is = ap (λ (it : Bool). if it then drop 3 bytes else bytes) (no_mark early refl)
