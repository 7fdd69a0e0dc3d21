-- What the checks of a log, of ports and of shares come to.
use Rattle.std.proofs.Common.{◌≡◌, ◌≢◌, refl, ℕ, ◌<◌, List, length, inr, subst}
use Rattle.nv_threads.specs.Finished.{IsFinished, IsFirstMismatch, IsTold, counted, guest_numbers}
use Rattle.nv_threads.specs.Told.{Told}
use Rattle.nv_world_model.specs.declared.logged.Logged.{Logged}

pub finished : (seen log : List Logged) (ports : List Told) (shares : List ℕ) → seen ≡ log
    → ((guest : ℕ) → guest < guest_numbers → IsTold seen ports guest) → length seen ≡ counted ports shares → IsFinished log ports shares
finished seen log ports shares same told sum =
    subst (λ (l : List Logged). IsFinished l ports shares) same (record { told = told; counted = sum })

pub sum-off : (seen log : List Logged) (ports : List Told) (shares : List ℕ) → seen ≡ log
    → ((guest : ℕ) → guest < guest_numbers → IsTold seen ports guest) → length seen ≢ counted ports shares → IsFirstMismatch log ports shares 255 0
sum-off seen log ports shares same told off =
    subst (λ (l : List Logged). IsFirstMismatch l ports shares 255 0) same (inr (record { last = refl; nowhere = refl; told = told; off = off }))
