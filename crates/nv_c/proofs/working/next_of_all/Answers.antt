use Rattle.std.proofs.Common.{ℕ, ◌≤◌, ◌<◌, arith, inl, inr}
use Rattle.std.proofs.lemmas.Bool.{cases_lt}
use Rattle.nv_c.proofs.Rests.{all-rests, choice_more, few_of}
use Rattle.nv_c.specs.Work.{PartyRests, Rests}
use Rattle.nv_c.specs.declared.working.Scope.TheVariants as scope
use Rattle.nv_mediator.specs.Hosted.{setup_of}
use Rattle.nv_c.proofs.working.next_of_all.Goals as goal

pub returns-in-Nothing : goal.returns-in-Nothing
returns-in-Nothing c =
    let h = c.args.mediator.now in
    let first = c.go_round.new.self.party in
    let few = few_of (setup_of h) c.promise.ensures.accepted in
    choice_more scope.All h ((number : ℕ) → 0 ≤ number → number < first → PartyRests h number) (Rests scope.All h) c.next_among-in-Nothing.result
    (λ low. all-rests h c.promise.ensures.consistent few.0 few.1 (λ number below. elim (cases_lt number first) [
      | inl less ↦ low number (omega arith) less
      | inr more ↦ c.in-Nothing.ensures number more below
    ]))
    c.next_among-in-Nothing.ensures
