-- Codes that sources name, and links that are met.
use Rattle.std.proofs.Common.{◌≡◌, ◌⊎◌, inl, inr, ℕ, zero, suc, ◌-◌, ◌<◌, ◌≤◌, nat_lt, Bool, true, false, List, [], ◌∷◌, ◌++◌, map, length, get_or}
use Rattle.std.proofs.Common.{Some, None, slice_get, Contains, refl, sym}
use Rattle.std.proofs.Common.{ap, ◌∙◌, subst, arith}
use Rattle.std.proofs.lemmas.Bool.Decides.{nat_tests}
use Rattle.std.proofs.lemmas.List.{length-map}
use Rattle.std.proofs.lemmas.Option.{none-some, same_Some}
use Rattle.esto_term.proofs.ListLemmas.{map_at, map_at-from, map_one}
use Rattle.esto_term.proofs.ListLemmas.{Contains-head, Contains-rest}
use Rattle.esto_term.proofs.PlaceLemmas.{item_at}
use Rattle.esto_steps.specs.declared.steps.Get.{Get}
use Rattle.esto_steps.specs.declared.steps.Link.{Link}
use Rattle.esto_steps.specs.declared.steps.Source.{Source}
use Rattle.esto_steps.specs.declared.steps.Source.TheVariants.{Code, Cell}
use Rattle.esto_steps.specs.Meaning.{code_at, IsMet, Follows}
use Rattle.esto_steps.specs.Named.{NamesCodes, Names, IsEarly}

pub names_true : (cells : List ℕ) (sources : List Source) (codes : List ℕ) (all : Bool) → Names cells sources codes all → all ≡ true
    → NamesCodes cells sources codes
names_true cells sources codes true named is = named
names_true cells sources codes false none is = absurd (cc)

pub names_false : (cells : List ℕ) (sources : List Source) (codes : List ℕ) (all : Bool) → Names cells sources codes all → all ≡ false
    → (others : List ℕ) × NamesCodes cells sources others → ⊥
names_false cells sources codes true named is = absurd (cc)
names_false cells sources codes false none is = none

pub one_key : (row : List ℕ) (columns : List Source) (key other : List ℕ) → NamesCodes row columns key → NamesCodes row columns other → key ≡ other
one_key row columns key other named also = map_one Some same_Some key other (sym named ∙ also)

-- a source that names nothing
pub none_names : (cells : List ℕ) (sources items : List Source) → items ≡ sources → (at : ℕ) (source : Source) → at < length items
    → source ≡ get_or items at source → code_at cells source ≡ None
    → (codes : List ℕ) × NamesCodes cells sources codes → ⊥
none_names cells sources items same at source below is none (codes, named) =
    let there : slice_get sources at ≡ Some source = ap (λ it. slice_get it at) (sym same) ∙ item_at items at source below is in
    let found = map_at-from Some codes at None (ap (λ it. slice_get it at) (sym named) ∙ map_at (code_at cells) sources at source there ∙ ap Some none) in
    none-some found.0 (sym found.2)

pub length-named : (cells : List ℕ) (sources : List Source) (codes : List ℕ) → NamesCodes cells sources codes → length codes ≡ length sources
length-named cells sources codes named = sym (length-map codes Some) ∙ sym (ap length named) ∙ length-map sources (code_at cells)

-- links that are met name one list of codes in the cells and in the row
pub met_names : (cells row : List ℕ) (links : List Link) → ((link : Link) → Contains links link → IsMet cells row link)
    → (codes : List ℕ) × NamesCodes cells (map (λ link. link.source) links) codes × NamesCodes row (map (λ link. Cell link.column) links) codes
met_names cells row [] met = ([], refl, refl)
met_names cells row (link ∷ links) met =
    let first = met link (Contains-head link links) in let rest = met_names cells row links (λ it inside. met it (Contains-rest link links it inside)) in
    (first.0 ∷ rest.0, (λ i. first.2 i ∷ rest.1 i), (λ i. first.1 i ∷ rest.2 i))

-- ---- two lists one after the other

pub front : {X : Type 0} (xs ys : List X) (place : ℕ) → place < length xs → slice_get (xs ++ ys) place ≡ slice_get xs place
front [] ys place below = absurd (omega (arith, below))
front (x ∷ xs) ys zero below = refl
front (x ∷ xs) ys (suc place) below = front xs ys place (omega (arith, below))

pub back : {X : Type 0} (xs ys : List X) (place : ℕ) → length xs ≤ place → slice_get (xs ++ ys) place ≡ slice_get ys (place - length xs)
back [] ys place past = ap (slice_get ys) (omega (arith))
back (x ∷ xs) ys zero past = absurd (omega (arith, past))
back (x ∷ xs) ys (suc place) past = back xs ys place (omega (arith, past)) ∙ ap (slice_get ys) (omega (arith))

pub lt_is : (place arity : ℕ) → nat_lt place arity ≡ true → place < arity
lt_is place arity is = grind (arith, nat_tests)

pub lt_not : (place arity : ℕ) → nat_lt place arity ≡ false → arity ≤ place
lt_not place arity is = grind (arith, nat_tests)

-- ---- early links

abbrev pub AreEarly : Get → ℕ → List Link → Type 0
AreEarly get width links = (cells row : List ℕ) → width ≤ length cells → Follows get cells row → (link : Link) → Contains links link → IsMet cells row link

early_code : (width : ℕ) (source : Source) (cells row : List ℕ) → IsEarly width source → width ≤ length cells
    → code_at (cells ++ row) source ≡ code_at cells source
early_code width (Code code) cells row early wide = refl
early_code width (Cell place) cells row early wide = front cells row place (omega (arith, early, wide))

pub inputs_early : (get : Get) (width : ℕ) (links : List Link) → ((link : Link) → Contains links link → Contains get.inputs link) → AreEarly get width links
inputs_early get width links among cells row wide follows link inside = follows.inputs link (among link inside)

pub filters_early : (get : Get) (width : ℕ) (links more : List Link) (link : Link) → AreEarly get width links → Contains get.filters link
    → ((it : Link) → Contains more it → Contains links it ⊎ (IsEarly width link.source × (it ≡ link))) → AreEarly get width more
filters_early get width links more link early among grown cells row wide follows it inside = elim (grown it inside) [
  | inl old ↦ early cells row wide follows it old
  | inr new ↦ let met = follows.filters link among in
      subst (IsMet cells row) (sym new.1) (met.0, met.1, sym (early_code width link.source cells row new.0 wide) ∙ met.2)
]

-- links that are met name one list of codes, by their sources in the cells and by their columns in the row
pub links_name : (links : List Link) (sources columns : List Source) (cells row : List ℕ)
    → sources ≡ map (λ (link : Link). link.source) links → columns ≡ map (λ (link : Link). Cell link.column) links
    → ((link : Link) → Contains links link → IsMet cells row link)
    → (codes : List ℕ) × NamesCodes cells sources codes × NamesCodes row columns codes
links_name links sources columns cells row sources_are columns_are met =
    let names = met_names cells row links met in
    (names.0, subst (λ it. NamesCodes cells it names.0) (sym sources_are) names.1, subst (λ it. NamesCodes row it names.0) (sym columns_are) names.2)
