-- What an open of a mediator over the host's memory leaves there.
use Rattle.std.proofs.Common.{◌≡◌, ◌⊎◌, inl, inr, refl, subst, ℕ, List}
use Rattle.nv_c.specs.Calls.{IsCleared, no_memory, ok}
use Rattle.nv_host.specs.Served.{AreRingsAlone}
use Rattle.nv_world_model.specs.SetUp.{SetUp}

pub cleared-ok : (s t : SetUp) (lent left : List ℕ) → s ≡ t → AreRingsAlone s lent left → IsCleared t ok lent left
cleared-ok s t lent left same alone = inl (inl refl, subst (λ (x : SetUp). AreRingsAlone x lent left) same alone)

pub cleared-err : (s t : SetUp) (status : ℕ) (lent left : List ℕ) → s ≡ t → ((status ≡ no_memory) × AreRingsAlone s lent left ⊎ (left ≡ lent))
    → IsCleared t status lent left
cleared-err s t status lent left same (inl full) = inl (inr full.0, subst (λ (x : SetUp). AreRingsAlone x lent left) same full.1)
cleared-err s t status lent left same (inr kept) = inr kept
