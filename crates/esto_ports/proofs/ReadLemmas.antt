-- One read more of a reader.
use Rattle.std.proofs.Common.{◌≡◌, ◌≤◌, ◌+◌, ◌++◌, ℕ, List, length, take, Option, Some, None, ◌∙◌, ap, sym, arith, append_assoc, length-append}
use Rattle.std.proofs.lemmas.List.{take-append-le, length-take-le}
use Rattle.std.specs.Io.KnownBytes.{Consumes}

-- the first so many bytes of a longer list are so many
pub taken : (buf rest : List ℕ) (count : ℕ) → count ≤ length buf → count ≡ length (take count (buf ++ rest))
taken buf rest count fits = sym (length-take-le count (buf ++ rest) (omega (arith, length-append buf rest)))

-- the bytes so far and those of one read more
module _ (bytes buf rest new : List ℕ) (count : ℕ) (fits : count ≤ length buf) (is : new ≡ bytes ++ take count (buf ++ rest)) where
  grown : new ≡ bytes ++ take count buf
  grown = is ∙ ap (λ more. bytes ++ more) (take-append-le count buf rest fits)

  pub longer : length new ≡ length bytes + count
  longer = ap length grown ∙ length-append bytes (take count buf) ∙ ap (λ n. length bytes + n) (length-take-le count buf fits)

  -- the bytes that were consumed so far and those of the read make the new ones
  pub consumed : (start mid end : Option (List ℕ)) → Consumes start mid bytes → Consumes mid end (take count buf) → Consumes start end new
  consumed None mid end one two = tt
  consumed (Some xs) None end one two = absurd one
  consumed (Some xs) (Some ys) None one two = absurd two
  consumed (Some xs) (Some ys) (Some zs) one two =
      one ∙ ap (λ more. bytes ++ more) two ∙ sym (append_assoc bytes (take count buf) zs) ∙ ap (λ whole. whole ++ zs) (sym grown)
