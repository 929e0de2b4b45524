-- Products, as the code reads the words of a set.
use Rattle.std.proofs.Common.{◌≡◌, ◌↔◌, ℕ, Bool, List, length, IsTrue, Some, slice_get, sym, ap, ◌∙◌, subst}
use Rattle.std.proofs.lemmas.List.Elements.{All-contains}
use Rattle.esto_term.proofs.ListLemmas.{Contains-at}
use Rattle.esto_term.specs.Sets.{Covers}
use Rattle.esto_bits.specs.Kept.{AreOver, IsAntichain, Kept, in_place_of_supersets, kept, with_set}
use Rattle.esto_bits.specs.Words.{set_of}
use Rattle.esto_bits.proofs.FamilyLemmas.{antichain-with_set, over-with_set, with_set-uncovered}
use Rattle.esto_bits.proofs.WordLemmas.{length-set_of}

pub covers_row : (row : List Bool) (packed : Kept) (words : List ℕ) → length row ≡ packed.count → set_of words (length row) ≡ row → (answer : Bool)
    → IsTrue answer ↔ Covers packed.sets (set_of words packed.count) → IsTrue answer ↔ Covers packed.sets row
covers_row row packed words counts set answer says =
    subst (λ it. IsTrue answer ↔ Covers packed.sets it) (ap (set_of words) (sym counts) ∙ set) says

-- a set that isn't covered is put in place of its supersets, and what is kept is an antichain
module _ (words : List ℕ) (packed : Kept) (holds : AreOver packed.count packed.sets × IsAntichain packed.sets)
    (uncovered : ¬ (Covers packed.sets (set_of words packed.count))) (after : Kept)
    (is : after ≡ kept packed.count (in_place_of_supersets packed.sets (set_of words packed.count))) where
  pub added : after.sets ≡ with_set packed.sets (set_of words packed.count)
  added = ap (λ (it : Kept). it.sets) is ∙ with_set-uncovered packed.sets (set_of words packed.count) uncovered

  same_count : after.count ≡ packed.count
  same_count = ap (λ (it : Kept). it.count) is

  pub added_holds : AreOver after.count after.sets × IsAntichain after.sets
  added_holds = (
    subst (λ n. AreOver n after.sets) (sym same_count)
        (subst (AreOver packed.count) (sym added)
        (over-with_set packed.sets (set_of words packed.count) packed.count holds.0 (length-set_of words packed.count))),
    subst IsAntichain (sym added) (antichain-with_set packed.sets (set_of words packed.count) holds.1),
  )

-- what stands at a place is one set
pub same_there : (sets : List (List Bool)) (at : ℕ) (set other : List Bool) → slice_get sets at ≡ Some set → slice_get sets at ≡ Some other → set ≡ other
same_there sets at set other there also = let both : Some set ≡ Some other = sym there ∙ also in cc

-- a set at a place has the count of all
pub length_there : (count : ℕ) (sets : List (List Bool)) (at : ℕ) (set : List Bool) → AreOver count sets → slice_get sets at ≡ Some set → length set ≡ count
length_there count sets at set over there = All-contains (λ it. length it ≡ count) sets set over (Contains-at sets at set there)
