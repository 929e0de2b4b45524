-- Layouts, as the reader takes them.
use Rattle.std.proofs.Common.{◌≡◌, ◌≢◌, List, [], ◌∷◌, ◌++◌, length, refl, sym, ap, subst, ◌∙◌}
use Rattle.std.proofs.lemmas.List.{append-nil}
use Rattle.esto_text.specs.Grammar.{class_of, IsGroup, IsLayout}
use Rattle.esto_text.specs.Machine.{AnEntry, MoreEntries, AGroup, layout_start, class_at, first_fault, FailsAt, Fails, Takes}
use Rattle.esto_text.specs.Trees.{EntryTrees}
use Rattle.esto_text.specs.declared.stop.Stop.{Stop}
use Rattle.esto_text.specs.declared.stop.Stop.TheVariants.{Syntax}
use Rattle.esto_text.specs.declared.token.Token.{Token}
use Rattle.esto_text.specs.declared.token.TokenKind.TheVariants.{LeftBrace}
use Rattle.esto_text.proofs.Runs.{seen, group_runs}
use Rattle.esto_text.proofs.RowLemmas.{fails_along, fails_here, not_group, left_fails}

pub no_layout : (tokens : List Token) (e : Stop) → (e ≡ Syntax (length tokens)) × (class_at tokens ≢ LeftBrace) → FailsAt layout_start tokens e
no_layout tokens e (is, other) = fails_here AGroup [] tokens e refl (not_group (class_at tokens) other) is

module _ (tokens rest : List Token) (brace : Token) (h : (tokens ≡ brace ∷ rest) × (class_of brace ≡ LeftBrace)) where
  opened : first_fault layout_start tokens ≡ first_fault (AnEntry 1 ∷ MoreEntries 1 ∷ []) rest
  opened = ap (first_fault layout_start) h.0 ∙ seen layout_start brace rest LeftBrace h.1

  pub group_fails : (e : Stop) → Fails (AnEntry 1 ∷ MoreEntries 1 ∷ []) rest e → FailsAt layout_start tokens e
  group_fails e fails = fails_along layout_start (AnEntry 1 ∷ MoreEntries 1 ∷ []) tokens rest e opened (fails [])

  module _ (fs : EntryTrees) (left : List Token) (group : Takes (IsGroup 1 fs) rest left) where
    pub more_fails : ¬ (length left ≡ 0) → FailsAt layout_start tokens (Syntax (length left))
    more_fails more =
        fails_along layout_start [] tokens left (Syntax (length left))
        (opened ∙ ap (first_fault (AnEntry 1 ∷ MoreEntries 1 ∷ [])) group.1 ∙ group_runs fs 1 group.0 [] left group.2) (left_fails left more)

    pub layout_is : length left ≡ 0 → IsLayout fs tokens
    layout_is none = (brace, rest, h.0, h.1, subst (IsGroup 1 fs) (sym (whole left group.1 none)) group.2)
      where
        whole : (l : List Token) → rest ≡ group.0 ++ l → length l ≡ 0 → rest ≡ group.0
        whole [] e n = e ∙ append-nil group.0
        whole (t ∷ ts) e n = absurd cc
