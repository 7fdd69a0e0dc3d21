-- What is printed of a run's guests
use Rattle.std.proofs.Common.{ℕ, List, Option}
use Rattle.std.specs.Prelude.{IfOk, Result, Ok, Err}
use Rattle.nv_run.specs.Played.{IsPlayOf, PrintsPlayed, PrintsText}
use Rattle.nv_run.specs.declared.played.Played.{Played}
use Rattle.nv_run.proofs.Plays.{text-printed}

-- what an end well prints of a run is what the lines of its text came to
pub text-printed-ended : {W E : Type 0} (text : Option (List ℕ)) (played : Played) (before : Option (List ℕ)) (contents : W → Option (List ℕ))
    (ended : Result W E)
    → IsPlayOf text played → IfOk ended (λ w. PrintsPlayed played before (contents w)) → IfOk ended (λ w. PrintsText text before (contents w))
text-printed-ended text played before contents (Ok w) of_text printed = text-printed text played before (contents w) of_text printed
text-printed-ended text played before contents (Err e) of_text printed = tt
