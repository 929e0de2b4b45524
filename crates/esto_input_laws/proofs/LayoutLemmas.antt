-- Whether entries are a layout is decided.
use Rattle.std.proofs.Common.{◌≡◌, ◌≢◌, ℕ, inl, inr, List, [], ◌∷◌, refl, sym, ap, subst}
use Rattle.esto_docmodel.specs.Layouts.{paths, Begins, SomeBegins, AreFields, IsOneItem, FitTogether, IsColumn, AreLaidOut, StandsOnce, height, IsLayout}
use Rattle.esto_docmodel.specs.Patterns.{Entries, done, holds, group, Mentions}
use Rattle.esto_docmodel.specs.declared.layout.TheConstants.{MAX_LAYOUT_DEPTH}
use Rattle.esto_docmodel.specs.declared.pattern.Step.{Step}
use Rattle.esto_docmodel.specs.declared.pattern.Step.TheVariants.{Name, Item, Below}
use Rattle.esto_semantics.proofs.TermLemmas.{decided_term}
use Rattle.esto_term.proofs.ChoiceLemmas.{Decided, decided_as, decided_both, decided_either, decided_not, decided_below}
use Rattle.esto_term.specs.declared.term.Term.{Term}
use Rattle.esto_term.specs.declared.term.Term.TheVariants.{Plain}
use Rattle.esto_term.proofs.DecisionLemmas.{at_most, same_bytes, contains, decided_three, decided_four, each_below}

same_step : (s other : Step) → Decided (s ≡ other)
same_step (Name k) (Name j) = decided_as (λ e. ap Name e, λ e. cc) (same_bytes k j)
same_step Item Item = inl refl
same_step Below Below = inl refl
same_step (Name k) Item = inr (λ e. cc)
same_step (Name k) Below = inr (λ e. cc)
same_step Item (Name k) = inr (λ e. cc)
same_step Item Below = inr (λ e. cc)
same_step Below (Name k) = inr (λ e. cc)
same_step Below Item = inr (λ e. cc)

begins : (s : Step) (path : List Step) → Decided (Begins s path)
begins s [] = inr (λ h. h)
begins s (first ∷ path) = same_step first s

some_begins : (s : Step) (list : List (List Step)) → Decided (SomeBegins s list)
some_begins s [] = inr (λ h. h)
some_begins s (path ∷ rest) = decided_either (begins s path) (some_begins s rest)

-- a path begins with a field, and none of the others with one of its name
field_first : (path : List Step) (rest : List (List Step)) → Decided ((name : List ℕ) × Begins (Name name) path × ¬ SomeBegins (Name name) rest)
field_first [] rest = inr (λ (name, h, apart). h)
field_first (Name k ∷ path) rest = decided_as
    (λ apart. (k, refl, apart), λ (name, is, apart). subst (λ (s : Step). ¬ SomeBegins s rest) (sym is) apart)
    (decided_not (some_begins (Name k) rest))
field_first (Item ∷ path) rest = inr (λ (name, is, apart). cc)
field_first (Below ∷ path) rest = inr (λ (name, is, apart). cc)

fields : (list : List (List Step)) → Decided (AreFields list)
fields [] = inl tt
fields (path ∷ rest) = decided_both (field_first path rest) (fields rest)

one_item : (list : List (List Step)) → Decided (IsOneItem list)
one_item [] = inr (λ h. h)
one_item (path ∷ []) = begins Item path
one_item (path ∷ other ∷ rest) = inr (λ h. h)

some : {A : Type 0} (list : List A) → Decided (list ≢ [])
some [] = inr (λ ne. ne refl)
some (x ∷ xs) = inl (λ e. cc)

together : (list : List (List Step)) → Decided (FitTogether list)
together list = decided_either (one_item list) (decided_both (some list) (fields list))

column : (columns : ℕ) (term : Term) → Decided (IsColumn columns term)
column columns term = decided_as (λ (number, below, is). (number, is, below), λ (number, is, below). (number, below, is))
    (decided_below (λ number. term ≡ Plain number) columns (λ number below. decided_term term (Plain number)))

laid_out : (columns : ℕ) (entries : Entries) → Decided (AreLaidOut columns entries)
laid_out columns done = inl tt
laid_out columns (holds path term rest) = decided_three (decided_not (contains same_step path Below)) (column columns term) (laid_out columns rest)
laid_out columns (group path inner rest) =
    decided_four (decided_not (contains same_step path Below)) (together (paths inner)) (laid_out columns inner) (laid_out columns rest)

mentions : (entries : Entries) (term : Term) → Decided (Mentions entries term)
mentions done term = inr (λ h. h)
mentions (holds path first rest) term = decided_either (decided_term first term) (mentions rest term)
mentions (group path inner rest) term = decided_either (mentions inner term) (mentions rest term)

once : (term : Term) (entries : Entries) → Decided (StandsOnce term entries)
once term done = inr (λ h. h)
once term (holds path first rest) =
    decided_either (decided_both (decided_term first term) (decided_not (mentions rest term)))
    (decided_both (decided_not (decided_term first term)) (once term rest))
once term (group path inner rest) =
    decided_either (decided_both (once term inner) (decided_not (mentions rest term)))
    (decided_both (decided_not (mentions inner term)) (once term rest))

pub is_layout : (columns : ℕ) (entries : Entries) → Decided (IsLayout columns entries)
is_layout columns entries = decided_as (
  λ (fit, (laid, (stand, low))). record { together = fit; laid_out = laid; once = stand; shallow = low },
  λ layout. (layout.together, (layout.laid_out, (layout.once, layout.shallow))),
)
    (decided_both (together (paths entries)) (decided_both (laid_out columns entries)
    (decided_both (each_below (λ number. StandsOnce (Plain number) entries) columns (λ number. once (Plain number) entries))
    (at_most (height entries) MAX_LAYOUT_DEPTH))))
