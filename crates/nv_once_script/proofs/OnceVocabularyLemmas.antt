-- Rows that are looked up
use Rattle.std.proofs.Common.{◌≡◌, ℕ, Bool, true, false, cond, List, [], ◌∷◌, Option, Some, None, Bor, refl, sym, ap, ◌∙◌}
use Rattle.std.specs.Prelude.{find, map}
use Rattle.std.specs.Map.{lookup}
use Rattle.std.specs.Option.{option_map}
use Rattle.std.specs.Str.{bytes_eq}

module _ {K : Type 0} where
  -- the rows as a list of words and what they mean
  abbrev pub row_of : Bor (List ℕ) × K → List ℕ × K
  row_of row = (row.0.now, row.1)

  lookup-find-at : (t : Bool) (row : Bor (List ℕ) × K) (found : Option (Bor (List ℕ) × K)) (others : Option K)
      → option_map (λ r. r.1) found ≡ others
      → option_map (λ (r : Bor (List ℕ) × K). r.1) (cond t (Some row) found) ≡ cond t (Some row.1) others
  lookup-find-at true row found others e = refl
  lookup-find-at false row found others e = e

  -- the first row that passes, and what it means
  pub lookup-find : (word : List ℕ) (rows : List (Bor (List ℕ) × K))
      → option_map (λ (r : Bor (List ℕ) × K). r.1) (find (λ row. bytes_eq row.0.now word) rows) ≡ lookup (λ name. bytes_eq name word) (map row_of rows)
  lookup-find word [] = refl
  lookup-find word (row ∷ rows) = lookup-find-at (bytes_eq row.0.now word) row _ _ (lookup-find word rows)

  pub lookup-none : (word : List ℕ) (rows : List (Bor (List ℕ) × K)) → find (λ row. bytes_eq row.0.now word) rows ≡ None
      → lookup (λ name. bytes_eq name word) (map row_of rows) ≡ None
  lookup-none word rows e = sym (lookup-find word rows) ∙ ap (option_map (λ (r : Bor (List ℕ) × K). r.1)) e

  pub lookup-some : (word : List ℕ) (rows : List (Bor (List ℕ) × K)) (row : Bor (List ℕ) × K)
      → find (λ row. bytes_eq row.0.now word) rows ≡ Some row
      → lookup (λ name. bytes_eq name word) (map row_of rows) ≡ Some row.1
  lookup-some word rows row e = sym (lookup-find word rows) ∙ ap (option_map (λ (r : Bor (List ℕ) × K). r.1)) e
