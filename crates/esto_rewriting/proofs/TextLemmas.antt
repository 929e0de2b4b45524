-- The text of a union is put member by member.
use Rattle.std.proofs.Common.{◌≡◌, ◌<◌, ◌≤◌, ◌+◌, ℕ, List, [], ◌∷◌, ◌++◌, length, drop, get_or, sym, subst}
use Rattle.std.proofs.lemmas.List.{append_assoc, append-nil, drop_all}
use Rattle.std.specs.List.{AllZip}
use Rattle.esto_term.proofs.PlaceLemmas.{drop-item}
use Rattle.esto_mapping.specs.declared.catalogue.Catalogue.{Catalogue}
use Rattle.esto_views.specs.Printing.{each_from}
use Rattle.esto_rewriting.specs.List.{IsMemberText, IsUnionText, disjunct_text}
use Rattle.esto_rewriting.specs.declared.members.Member.{Member}

-- the text so far, with those of the members that are left, is that of all
abbrev pub GoesOn : Catalogue → List Member → ℕ → List ℕ → Type 0
GoesOn catalogue members place text =
    (more : List (List ℕ)) → AllZip (IsMemberText catalogue) (drop place members) more
    → IsUnionText catalogue members (text ++ each_from disjunct_text place more)

module _ (catalogue : Catalogue) (members : List Member) where
  pub goes : (place : ℕ) (member : Member) (old new : List ℕ) → place < length members → member ≡ get_or members place member
      → ((own : List ℕ) × IsMemberText catalogue member own × (new ≡ old ++ disjunct_text place own)) → GoesOn catalogue members place old
      → GoesOn catalogue members (place + 1) new
  goes place member old new below is (own, is_own, put) so_far more texts =
      let left : drop place members ≡ member ∷ drop (place + 1) members =
      drop-item members place member below is in
      let all = so_far (own ∷ more) (subst (λ it. AllZip (IsMemberText catalogue) it (own ∷ more)) (sym left) (is_own, texts)) in
      subst (IsUnionText catalogue members) (joined old (disjunct_text place own) (each_from disjunct_text (place + 1) more) new put) all
    where
      joined : (old own later new : List ℕ) → new ≡ old ++ own → old ++ (own ++ later) ≡ new ++ later
      joined old own later new put = rw put (sym (append_assoc old own later))

  pub ends : (place : ℕ) (text : List ℕ) → length members ≤ place → GoesOn catalogue members place text → IsUnionText catalogue members text
  ends place text le so_far =
      let all = so_far [] (subst (λ it. AllZip (IsMemberText catalogue) it []) (sym (drop_all place members le)) tt) in
      subst (IsUnionText catalogue members) (append-nil text) all
