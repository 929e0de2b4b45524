-- Matches by places, the same by membership, and which variables a found valuation has.
use Rattle.std.proofs.Common.{◌≡◌, ℕ, zero, suc, ◌⊎◌, ◌↔◌, List, [], ◌∷◌, length, Contains, Option, Some, None, IsSome, refl, sym, ap, subst, ◌∙◌, inl, inr}
use Rattle.std.proofs.Common.{arith}
use Rattle.std.specs.List.{slice_get}
use Rattle.std.specs.FinMap.{get}
use Rattle.std.proofs.lemmas.Slice.Zip.{AllZip-long}
use Rattle.std.proofs.lemmas.Bool.{false≢true}
use Rattle.std.proofs.lemmas.Option.{same_Some, slice_get-get_or}
use Rattle.esto_term.specs.declared.term.Term.{Term}
use Rattle.esto_term.specs.declared.term.Term.TheVariants.{Const, Plain}
use Rattle.esto_semantics.specs.Facts.{image, Mentions}
use Rattle.esto_semantics.specs.Maps.{AreFlat, Keeps, Sends}
use Rattle.esto_semantics.specs.declared.fact.Fact.{Fact}
use Rattle.esto_semantics.proofs.FactLemmas.{image_agree}
use Rattle.esto_semantics.specs.Valuations.{Assignment, Extends, map_of}
use Rattle.esto_semantics.specs.Matches.{IsMatch}
use Rattle.esto_query.specs.Trails.{Narrows}
use Rattle.esto_query.proofs.MapLemmas.{image_values, changed, changed-here, changed-flat, Keeps-changed, Extends-changed, terms_differ}
use Rattle.esto_semantics.proofs.ValuationLemmas.{Keeps-map_of, Extends-map_of}
use Rattle.esto_query.proofs.SoundLemmas.{mentions_decided}
use Rattle.esto_term.proofs.ChoiceLemmas.{Decided}
use Rattle.esto_term.proofs.ListLemmas.{Contains-head, Contains-nil, Contains-rest}

-- ---- by places and by membership

pub match-Sends : (m : Term → Term) (body facts : List (Fact Term)) → Sends m body facts → (places : List ℕ) × IsMatch m body facts places
match-Sends m [] facts sends = ([], tt)
match-Sends m (a ∷ more) facts sends =
    let here = sends a (Contains-head a more) in
    let rest = match-Sends m more facts (λ atom inside. sends atom (Contains-rest a more atom inside)) in
    (here.0 ∷ rest.0, (slice_get-get_or facts here.0 (image m a) here.1 ∙ ap Some here.2, rest.1))

pub IsMatch-length : (m : Term → Term) (body facts : List (Fact Term)) (places : List ℕ) → IsMatch m body facts places → length places ≡ length body
IsMatch-length m body facts places match = AllZip-long (λ atom place. slice_get facts place ≡ Some (image m atom)) body places match

-- ---- maps that agree

pub IsMatch-agree : (f g : Term → Term) (body facts : List (Fact Term)) (places : List ℕ)
    → ((atom : Fact Term) → Contains body atom → image f atom ≡ image g atom) → IsMatch f body facts places → IsMatch g body facts places
IsMatch-agree f g [] facts [] same match = match
IsMatch-agree f g [] facts (p ∷ ps) same match = absurd match
IsMatch-agree f g (a ∷ more) facts [] same match = absurd match
IsMatch-agree f g (a ∷ more) facts (p ∷ ps) same match =
    (match.0 ∙ ap Some (same a (Contains-head a more)), IsMatch-agree f g more facts ps (λ b inside. same b (Contains-rest a more b inside)) match.1)

-- two matches at the same places have the same images
pub images_same : (f g : Term → Term) (body facts : List (Fact Term)) (places : List ℕ) → IsMatch f body facts places → IsMatch g body facts places
    → (atom : Fact Term) → Contains body atom → image f atom ≡ image g atom
images_same f g [] facts places m n atom inside = absurd (Contains-nil atom inside)
images_same f g (b ∷ more) facts [] m n atom inside = absurd m
images_same f g (b ∷ more) facts (p ∷ ps) m n atom (zero, l, e) = subst (λ a. image f a ≡ image g a) e (same_Some _ _ (sym m.0 ∙ n.0))
images_same f g (b ∷ more) facts (p ∷ ps) m n atom (suc k, l, e) = images_same f g more facts ps m.1 n.1 atom (k, omega arith, e)

-- ---- which variables a valuation has that narrows another

pub some_or_none : (o : Option Term) → (o ≡ None → ⊥) → IsSome o
some_or_none None h = absurd (h refl)
some_or_none (Some t) h = refl

module _ (old new : Assignment) (Property : (Term → Term) → Type 0) (narrows : Narrows old new Property) (variable : ℕ) where
  -- the new map, with another term for the variable
  abbrev pub other : Term → Term → Term
  other term = changed (map_of new) variable term

  pub other_keeps : (term : Term) → Keeps Const (other term)
  other_keeps term = Keeps-changed (map_of new) variable term (Keeps-map_of new)

  pub whole : Extends (map_of new) old × Property (map_of new)
  whole = (narrows (map_of new) (Keeps-map_of new)).0 (Extends-map_of new)

  -- a variable without a term can have every term
  free : get new variable ≡ None → (term : Term) → Extends (other term) old × Property (other term)
  free none term = (narrows (other term) (other_keeps term)).0 (Extends-changed (map_of new) variable term new none (Extends-map_of new))

  old_known : (o : Option Term) → get old variable ≡ o → IsSome o → get new variable ≡ None → ⊥
  old_known None at some none = false≢true some
  old_known (Some u) at some none = terms_differ u (λ term. sym (changed-here (map_of new) variable term) ∙ (free none term).0 variable u at)

  -- a variable that had a term has one
  pub known_kept : IsSome (get old variable) → IsSome (get new variable)
  known_kept some = some_or_none (get new variable) (old_known (get old variable) refl some)

  -- a variable that the property fixes has a term
  pub known_fixed : ((m n : Term → Term) → Property m → Property n → m (Plain variable) ≡ n (Plain variable)) → IsSome (get new variable)
  known_fixed fixes = some_or_none (get new variable) (λ none.
      terms_differ (map_of new (Plain variable))
      (λ term. sym (changed-here (map_of new) variable term) ∙ fixes (other term) (map_of new) (free none term).1 whole.1))

-- ---- which variables a found valuation has

module _ (body facts : List (Fact Term)) (start found : Assignment) (places : List ℕ) (flat : AreFlat body)
    (exact : Narrows start found (λ m. IsMatch m body facts places)) (variable : ℕ) where
  -- a variable that is neither at the start nor in the body can have every term
  apart : (term : Term) → get start variable ≡ None → ¬ (Mentions body (Plain variable)) → get found variable ≡ Some term → ⊥
  apart term none absent at =
      terms_differ term (λ new.
      let given : Extends (map_of found) start × IsMatch (map_of found) body facts places =
      whole start found (λ m. IsMatch m body facts places) exact variable in
      let same : (atom : Fact Term) → Contains body atom → image (map_of found) atom ≡ image (changed (map_of found) variable new) atom = λ atom inside.
      image_agree (map_of found) (changed (map_of found) variable new) atom
      (λ t in_atom. sym (changed-flat (map_of found) variable new t (flat t (atom, inside, in_atom))
      (λ e. absent (atom, inside, subst (Contains atom.terms) e in_atom)))) in
      let match : IsMatch (changed (map_of found) variable new) body facts places =
      IsMatch-agree (map_of found) (changed (map_of found) variable new) body facts places same given.1 in
      let extends : Extends (changed (map_of found) variable new) start = Extends-changed (map_of found) variable new start none given.0 in
      sym (changed-here (map_of found) variable new)
      ∙ (exact (changed (map_of found) variable new) (Keeps-changed (map_of found) variable new (Keeps-map_of found))).1 (extends, match) variable term at)

  found_has : (s f : Option Term) → get start variable ≡ s → get found variable ≡ f → Decided (Mentions body (Plain variable)) → IsSome f
      → IsSome s ⊎ Mentions body (Plain variable)
  found_has (Some u) f at in_found decided some = inl refl
  found_has None f none in_found (inl mentioned) some = inr mentioned
  found_has None None none in_found (inr missing) some = absurd (false≢true some)
  found_has None (Some t) none in_found (inr missing) some = absurd (apart t none missing in_found)

  pub found_variables : IsSome (get found variable) ↔ (IsSome (get start variable) ⊎ Mentions body (Plain variable))
  found_variables = (
    λ some. found_has (get start variable) (get found variable) refl refl (mentions_decided body (Plain variable)) some,
    λ either. elim either [
      | inl some ↦ known_kept start found (λ m. IsMatch m body facts places) exact variable some
      | inr inside ↦ known_fixed start found (λ m. IsMatch m body facts places) exact variable
          (λ m n p q. image_values m n inside.0 (Plain variable) (images_same m n body facts places p q inside.0 inside.1) inside.2)
    ],
  )
