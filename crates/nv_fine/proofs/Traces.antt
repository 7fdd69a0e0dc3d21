-- Fine traces, and turns of the mediator among whatever others do, lead to states in which each access of a call touches what it may.
use Rattle.std.proofs.Common.{◌≡◌, ℕ, Bool, List, [], ◌∷◌, Option, Some, None, subst}
use Rattle.std.proofs.lemmas.Option.{option_and_then_some}
use Rattle.std.specs.Option.{option_map}
use Rattle.nv_fine.proofs.Within.{IsCalled, IsGood, opens-good, stays-within, went-good}
use Rattle.nv_fine.specs.Drive.{Outside, driven}
use Rattle.nv_fine.specs.Fine.{Access, Begins, Call, Drives, Fine, GoesOn, Loads, Stores, accessed, begins, goes_on, guest_byte, traced, with_memory}
use Rattle.nv_fine.specs.Turns.{Continues, Opens, Others, StaysWithin, Turn, start_of, turned}
use Rattle.nv_laws_sound.proofs.LaidOuts.{host-laid-out}
use Rattle.nv_laws_sound.proofs.Lists.{some-same}
use Rattle.nv_laws_sound.specs.LaidOut.{IsLaidOut}
use Rattle.nv_machine.proofs.ContainedCalls.{opening-reached}
use Rattle.nv_machine.proofs.ContainedFetch.{AreSound}
use Rattle.nv_model.specs.Memory.{stored}
use Rattle.nv_world_model.specs.Geometry.{Geometry}
use Rattle.nv_world_model.specs.SetUp.{SetUp, host_refusal_of}
use Rattle.nv_world_model.specs.declared.event.Event.{Event}

-- what holds of all that an option may be made into, holds of what it is made into
mapped-has : {A : Type 0} (P : Fine → Type 0) (make : A → Fine) (o : Option A) (g : Fine) → option_map make o ≡ Some g → ((a : A) → P (make a)) → P g
mapped-has P make None g is all = cc
mapped-has P make (Some a) g is all = subst P (some-same (make a) g is) (all a)

module _ (host_bytes lanes : ℕ) (geometry : Geometry) (laid : IsLaidOut host_bytes lanes geometry) where
  begins-good : (e : Event) (call : Option Call) (f g : Fine) → IsGood lanes geometry f → begins geometry e call f ≡ Some g → IsGood lanes geometry g
  begins-good e None f g good is = subst (IsGood lanes geometry) (some-same _ g is) (opens-good host_bytes lanes geometry laid e f good.reached)
  begins-good e (Some c) f g good is = cc

  goes-good : (call : Option Call) (f g : Fine) → IsGood lanes geometry f → IsCalled geometry f.side call → goes_on geometry call f ≡ Some g
      → IsGood lanes geometry g
  goes-good None f g good called is = cc
  goes-good (Some c) f g good called is =
      subst (IsGood lanes geometry) (some-same _ g is) (went-good host_bytes lanes geometry laid c c.left f good.reached called)

  pub accessed-good : (zeroes : Bool) (a : Access) (f g : Fine) → IsGood lanes geometry f → accessed geometry zeroes a f ≡ Some g → IsGood lanes geometry g
  unfolding accessed
  accessed-good zeroes (Loads number addr) f g good is = mapped-has (IsGood lanes geometry) (λ at. f) (guest_byte geometry number addr) g is (λ at. good)
  accessed-good zeroes (Stores number addr byte) f g good is =
      mapped-has (IsGood lanes geometry) (λ at. with_memory (stored f.outside.memory at (byte ∷ [])) f) (guest_byte geometry number addr) g is
      (λ at. record { reached = good.reached; called = good.called })
  accessed-good zeroes (Begins e) f g good is = begins-good e f.call f g good is
  accessed-good zeroes GoesOn f g good is = goes-good f.call f g good good.called is
  accessed-good zeroes (Drives a) f g good is =
      mapped-has (IsGood lanes geometry) (λ (o : Outside). record f { outside = o }) (driven geometry zeroes f.side.tails a f.outside) g is
      (λ o. record { reached = good.reached; called = good.called })

  traced-good : (zeroes : Bool) (accesses : List Access) (f g : Fine) → IsGood lanes geometry f → traced geometry zeroes accesses f ≡ Some g
      → IsGood lanes geometry g
  unfolding traced
  traced-good zeroes [] f g good is = subst (IsGood lanes geometry) (some-same f g is) good
  traced-good zeroes (a ∷ accesses) f g good is =
      option_and_then_some (traced geometry zeroes accesses) (accessed geometry zeroes a f) g is
      (λ h first then. traced-good zeroes accesses h g (accessed-good zeroes a f h good first) then)

  turned-good : (turns : List Turn) (f g : Fine) → IsGood lanes geometry f → turned geometry turns f ≡ Some g → IsGood lanes geometry g
  unfolding turned
  turned-good [] f g good is = subst (IsGood lanes geometry) (some-same f g is) good
  turned-good (Opens e ∷ turns) f g good is =
      option_and_then_some (turned geometry turns) (begins geometry e f.call f) g is (λ h first then. turned-good turns h g (begins-good e f.call f h good first) then)
  turned-good (Continues ∷ turns) f g good is =
      option_and_then_some (turned geometry turns) (goes_on geometry f.call f) g is (λ h first then. turned-good turns h g (goes-good f.call f h good good.called first) then)
  turned-good (Others o ∷ turns) f g good is =
      turned-good turns (record f { outside = o }) g (record { reached = good.reached; called = good.called }) is

  good-within : (f : Fine) (c : Call) → IsGood lanes geometry f → f.call ≡ Some c → StaysWithin geometry f c
  good-within f c good is = stays-within host_bytes lanes geometry laid f good.reached c (subst (IsCalled geometry f.side) is good.called)

module _ (s : SetUp) (o : Outside) (accepted : host_refusal_of s ≡ None) (sound : AreSound s.geometry) where
  pub laid : IsLaidOut s.host_bytes s.lanes s.geometry
  laid = host-laid-out s accepted sound

  pub start-good : IsGood s.lanes s.geometry (start_of s o)
  start-good = record { reached = opening-reached s.geometry s.lanes; called = tt }

  pub traces-within : (zeroes : Bool) (accesses : List Access) (f : Fine) (c : Call) → traced s.geometry zeroes accesses (start_of s o) ≡ Some f
      → f.call ≡ Some c → StaysWithin s.geometry f c
  traces-within zeroes accesses f c is under =
      good-within s.host_bytes s.lanes s.geometry laid f c
      (traced-good s.host_bytes s.lanes s.geometry laid zeroes accesses (start_of s o) f start-good is) under

  pub turns-within : (turns : List Turn) (f : Fine) (c : Call) → turned s.geometry turns (start_of s o) ≡ Some f → f.call ≡ Some c
      → StaysWithin s.geometry f c
  turns-within turns f c is under =
      good-within s.host_bytes s.lanes s.geometry laid f c
      (turned-good s.host_bytes s.lanes s.geometry laid turns (start_of s o) f start-good is) under
