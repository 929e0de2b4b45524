-- Items, from left to right.
use Rattle.std.proofs.Common.{◌≡◌, ℕ, suc, ◌+◌, ◌<◌, ◌≤◌, inl, inr, List, [], ◌∷◌, ◌++◌, length, take, drop, get_or, refl, sym, ap, subst, ◌∙◌, arith}
use Rattle.std.proofs.Common.{append_assoc}
use Rattle.std.specs.Prelude.{map}
use Rattle.std.specs.List.{AllByRecursion}
use Rattle.std.proofs.Math.ListN.{get_or-map}
use Rattle.std.proofs.lemmas.List.Elements.{All-from_recursion}
use Rattle.std.proofs.lemmas.List.{take_all, drop_all, append-nil, length-append}
use Rattle.esto_query.specs.declared.query.Name.{Name}
use Rattle.esto_semantics.specs.declared.fact.Fact.{Fact}
use Rattle.esto_term.specs.declared.term.Term.{Term}
use Rattle.esto_term.proofs.PlaceLemmas.{drop-item, take-item}
use Rattle.esto_text.specs.Trees.{ItemTree}
use Rattle.esto_text.specs.View.{item_of}
use Rattle.esto_text.specs.declared.fault.ReadError.{ReadError}
use Rattle.esto_text.specs.declared.fault.ReadError.TheVariants.{Fault, OutOfMemory}
use Rattle.esto_text.specs.declared.fault.TextFault.{TextFault}
use Rattle.esto_text.specs.declared.tree.ItemSyntax.{ItemSyntax}
use Rattle.esto_read.specs.Items.{item_size, IsFitting, AreFitting, IsFirstItemFault, IsItemOf, AreItems, IsItemError, IsBodyError}
use Rattle.esto_docmodel.specs.declared.words.Word.{Word}
use Rattle.esto_read.proofs.ItemLemmas.{item_count}

-- an item of a list that is mapped
pub item_at : (items : List ItemSyntax) (n : ℕ) (x : ItemSyntax) → x ≡ get_or items n x → get_or (map item_of items) n (item_of x) ≡ item_of x
item_at items n x e = get_or-map item_of items n x ∙ ap item_of (sym e)

pub length_items : (items : List ItemSyntax) → length (map item_of items) ≡ length items
length_items [] = refl
length_items (x ∷ xs) = ap suc (length_items xs)

pub each_item : (P : ItemTree → Type 0) (items : List ItemSyntax) (n : ℕ) (x : ItemSyntax) → AllByRecursion P (map item_of items) → n < length items → x
    ≡ get_or items n x → P (item_of x)
each_item P items n x h lt e = subst P (item_at items n x e) (All-from_recursion P (map item_of items) h n (item_of x) (omega (arith, length_items items)))

module _ (words : List Word) (schema bytes : List ℕ) where
  items_then : (before between after : List Name) (items : List ItemTree) (atoms : List (Fact Term)) (item : ItemTree) (own : List (Fact Term))
      → AreItems words schema bytes before items atoms between
      → IsItemOf words schema bytes between item own after → AreItems words schema bytes before (items ++ item ∷ []) (atoms ++ own) after
  items_then before between after [] atoms item own (e, f) g = (
    own,
    [],
    after,
    ap (λ (l : List (Fact Term)). l ++ own) e ∙ sym (append-nil own),
    subst (λ (l : List Name). IsItemOf words schema bytes l item own after)
        f g,
    (refl, refl),
  )
  items_then before between after (i ∷ is) atoms item own (first, rest, names, e, h, more) g = (
    first,
    rest ++ own,
    names,
    ap (λ (l : List (Fact Term)). l ++ own) e ∙ append_assoc first rest own,
    h,
    items_then names between after is rest item own
        more g,
  )

  pub record BodySoFar (before : List Name) (items : List ItemTree) (n : ℕ) (body : List (Fact Term)) (names : List Name) : Type 0 where
    pub read : AreItems words schema bytes before (take n items) body names
    pub fits : AreFitting words schema bytes (length body) (drop n items) → AreFitting words schema bytes 0 items
    pub fault : (f : TextFault) → IsFirstItemFault words schema bytes (length body) (drop n items) f → IsFirstItemFault words schema bytes 0 items f

  pub body_begins : (before : List Name) (items : List ItemTree) → BodySoFar before items 0 [] before
  body_begins before items = record { read = (refl, refl); fits = λ h. h; fault = λ f h. h }

  module _ (before : List Name) (items : List ItemTree) (n : ℕ) (body : List (Fact Term)) (names : List Name) (h : BodySoFar before items n body names)
      (lt : n < length items) (item : ItemTree)
      (e : get_or items n item ≡ item) where
    here : drop n items ≡ item ∷ drop (n + 1) items
    here = drop-item items n item lt (sym e)

    pub body_more : (own : List (Fact Term)) (after : List Name) → IsItemOf words schema bytes names item own after
        → IsFitting words schema bytes (length body) item → BodySoFar before items (n + 1) (body ++ own) after
    body_more own after is fit =
        let count : length (body ++ own) ≡ length body + item_size item =
        length-append body own ∙ ap (λ (k : ℕ). length body + k) (item_count words schema bytes names item own after is) in
        record {
          read = subst (λ (l : List ItemTree). AreItems words schema bytes before l (body ++ own) after)
              (sym (take-item items n item lt (sym e)))
              (items_then before names after (take n items) body item own h.read is);
          fits = λ g. h.fits (subst (AreFitting words schema bytes (length body)) (sym here)
              (fit, subst (λ (k : ℕ). AreFitting words schema bytes k (drop (n + 1) items)) count g));
          fault = λ f g. h.fault f (subst (λ (l : List ItemTree). IsFirstItemFault words schema bytes (length body) l f) (sym here)
              (inr (fit, subst (λ (k : ℕ). IsFirstItemFault words schema bytes k (drop (n + 1) items) f) count g)));
        }

    pub body_fails : (x : ReadError) → IsItemError words schema bytes (length body) item x → IsBodyError words schema bytes items x
    body_fails OutOfMemory g = tt
    body_fails (Fault f) g = h.fault f (subst (λ (l : List ItemTree). IsFirstItemFault words schema bytes (length body) l f) (sym here) (inl g))

  pub body_done : (before : List Name) (items : List ItemTree) (n : ℕ) (body : List (Fact Term)) (names : List Name) → BodySoFar before items n body names
      → length items ≤ n
      → AreItems words schema bytes before items body names × AreFitting words schema bytes 0 items
  body_done before items n body names h le = (
    subst (λ (l : List ItemTree). AreItems words schema bytes before l body names) (take_all n items le) h.read,
    h.fits
        (subst (AreFitting words schema bytes (length body)) (sym (drop_all n items le)) tt),
  )
