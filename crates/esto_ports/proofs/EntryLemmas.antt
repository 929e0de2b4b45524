-- The first entry of a key in a list is what the list's map has there.
use Rattle.std.proofs.Common.{◌≡◌, ◌||◌, ◌==◌, ℕ, List, Bool, true, false, Option, Some, None, refl, sym, ◌∙◌, is_none}
use Rattle.std.specs.FinMap.{get, find, from_entries, get-from_entries}
use Rattle.std.specs.Cmp.{nat_cmp_total}
use Rattle.std.proofs.lemmas.Cmp.{nat_list_cmp_total}
use Rattle.std.specs.Cmp.Lexicographic.{slice_cmp}
use Rattle.std.specs.Option.{MatchOption}
use Rattle.std.specs.List.{list_any}
use Rattle.std.specs.Ordering.{nat_cmp}
use Rattle.esto_ports.specs.MemoryShelf.{fails_at, HasFile}

-- what a call keeps
pub kept_of : (entries : List (ℕ × ℕ)) (call : ℕ) (kept : Option ℕ) → kept ≡ find nat_cmp call entries → kept ≡ get (from_entries {R = nat_cmp} entries) call
kept_of entries call kept is = is ∙ sym (get-from_entries nat_cmp_total entries call)

-- a call that isn't listed fails exactly where there is no file
unlisted_fails : (listed : Bool) (file answer : Option (List ℕ)) → listed ≡ false → file ≡ answer → (listed || is_none file) ≡ is_none answer
unlisted_fails listed file answer e f = rw (e, f) refl

-- the file of a call that isn't listed
pub looked_up : {B : Type 0} (now : B → List ℕ) (entries : List (List ℕ × List ℕ)) (fails : List ℕ) (call : ℕ) (name : List ℕ) (found : Option B)
    → list_any (λ c. c == call) fails ≡ false
    → MatchOption found (find (slice_cmp nat_cmp) name entries ≡ None) (λ b. find (slice_cmp nat_cmp) name entries ≡ Some (now b))
    → MatchOption found (fails_at (from_entries entries) fails call name ≡ true) (λ b. HasFile (from_entries entries) fails call name (now b))
looked_up now entries fails call name None unlisted is = unlisted_fails _ _ None unlisted (get-from_entries nat_list_cmp_total entries name ∙ is)
looked_up now entries fails call name (Some b) unlisted is =
    let held : get (from_entries {R = slice_cmp nat_cmp} entries) name ≡ Some (now b) = get-from_entries nat_list_cmp_total entries name ∙ is in
    (unlisted_fails _ _ (Some (now b)) unlisted held, held)
