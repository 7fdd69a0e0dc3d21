-- The host lent as a slice of one cell: what is said of the slice's bytes is said of the host.
use Rattle.std.proofs.Common.{◌≡◌, ℕ, List, [], ◌∷◌, length, refl, sym, ap, ◌∙◌, subst}
use Rattle.std.specs.List.{slice_index_or}
use Rattle.nv_mem.specs.Lent.{bytes_of_hosts}

module _ (hosts : List (List ℕ)) (host : List ℕ) (is : hosts ≡ host ∷ []) where
  -- what holds of the host holds of the slice
  pub wanted-lent : (P : List ℕ → Type 0) → P host → P (bytes_of_hosts hosts)
  wanted-lent P holds = subst P (sym (ap bytes_of_hosts is)) holds

  -- and the other way round
  pub shown-lent : (P : List ℕ → Type 0) → P (bytes_of_hosts hosts) → P host
  shown-lent P holds = subst P (ap bytes_of_hosts is) holds

  module _ (after : List (List ℕ)) (long : length (bytes_of_hosts after) ≡ length (bytes_of_hosts hosts)) where
    none-left : (bytes : List ℕ) → length {A = ℕ} [] ≡ length bytes → [] ≡ bytes
    none-left [] e = refl
    none-left (byte ∷ more) e = cc

    given-back : (ks : List (List ℕ)) → length (bytes_of_hosts ks) ≡ length host → bytes_of_hosts ks ≡ slice_index_or ks 0 host
    given-back [] e = none-left host e
    given-back (k ∷ ks) e = refl

    -- the host after the call is what the slice shows then
    pub after-lent : bytes_of_hosts after ≡ slice_index_or after 0 host
    after-lent = given-back after (long ∙ ap (λ (bytes : List ℕ). length bytes) (ap bytes_of_hosts is))

    pub changed-lent : (P : List ℕ → List ℕ → Type 0) → P (bytes_of_hosts hosts) (bytes_of_hosts after) → P host (slice_index_or after 0 host)
    changed-lent P holds = subst (λ (h : List ℕ). P h (slice_index_or after 0 host)) (ap bytes_of_hosts is) (subst (P (bytes_of_hosts hosts)) after-lent holds)

    pub long-lent : length (slice_index_or after 0 host) ≡ length host
    long-lent = changed-lent (λ (old new : List ℕ). length new ≡ length old) long
