-- Calls of the mediator's code are contained, whatever is in memory.
use Rattle.std.proofs.Common.{◌≡◌, ℕ, zero, suc, ◌+◌, List, [], ◌∷◌, ◌++◌, length, map, take, Option, arith, refl, sym, ap, ◌∙◌, subst}
use Rattle.std.proofs.lemmas.List.{length-append}
use Rattle.nv_core.proofs.Alike.{kept-alike}
use Rattle.nv_laws_machine.specs.Calls.{AreCalls, IsCall, Reaps, Shuts, Steps}
use Rattle.nv_laws_machine.proofs.Reaps.{reap-machines}
use Rattle.nv_laws_machine.proofs.Tied.{step-machines}
use Rattle.nv_laws_machine.specs.Made.{AreMachines, Closes, IsMachines, IsOne, Machines, Made, fetched_from, side_behind}
use Rattle.nv_laws_sound.specs.LaidOut.{IsLaidOut}
use Rattle.nv_laws_sound.specs.Side.{AreKept, Side, opening_side}
use Rattle.nv_laws_sound.specs.Unplaced.{unplaced_lane}
use Rattle.nv_machine.proofs.ContainedCalls.{call-contained, opening-reached}
use Rattle.nv_machine.proofs.Reached.{IsReached, reached-kept}
use Rattle.nv_machine.specs.Contained.{IsContained, IsFetched}
use Rattle.nv_machine.specs.Doing.{Called}
use Rattle.nv_machine.specs.InWorld.{AreOnPages}
use Rattle.nv_machine.specs.Machine.{call, fetch, fetch_then}
use Rattle.nv_model.specs.Controller.{Controller}
use Rattle.nv_model.specs.Memory.{byte_in}
use Rattle.nv_model.specs.declared.reply.Reply.{Reply}
use Rattle.nv_world_model.specs.Geometry.{Geometry}
use Rattle.nv_world_model.specs.World.{Lane}
use Rattle.nv_world_model.specs.declared.event.Event.{Event}

length-map : {X Y : Type 0} (f : X → Y) (xs : List X) → length (map f xs) ≡ length xs
length-map f [] = refl
length-map f (x ∷ xs) = ap suc (length-map f xs)

take-front : {X : Type 0} (xs ys : List X) (n : ℕ) → n ≡ length xs → take n (xs ++ ys) ≡ xs
take-front [] ys zero is = refl
take-front [] ys (suc n) is = cc
take-front (x ∷ xs) ys zero is = cc
take-front (x ∷ xs) ys (suc n) is = ap (λ (zs : List _). x ∷ zs) (take-front xs ys n (omega (arith, is)))

-- as many bytes are fetched as were asked for
fetched-fits : (geometry : Geometry) (e : Event) (s : Side) (host : ℕ → ℕ) → IsFetched geometry e s (fetched_from geometry e s host)
fetched-fits geometry e s host =
    let first : List ℕ = map host (fetch geometry e s) in
    let then : List ℕ = map host (fetch_then geometry e s first) in
    let front : take (length (fetch geometry e s)) (first ++ then) ≡ first =
    take-front first then (length (fetch geometry e s)) (sym (length-map host (fetch geometry e s))) in
    length-append first then
    ∙ ap (λ (n : ℕ). n + length then) (length-map host (fetch geometry e s))
    ∙ ap (λ (n : ℕ). length (fetch geometry e s) + n) (length-map host (fetch_then geometry e s first))
    ∙ ap (λ (xs : List ℕ). length (fetch geometry e s) + length (fetch_then geometry e s xs)) (sym front)

module _ (host_bytes lanes : ℕ) (geometry : Geometry) (laid : IsLaidOut host_bytes lanes geometry) where
  -- a call leads from a sound side to a sound side
  made-reached : (s new : Side) (e : Event) (before after : List ℕ) (r : Option Reply) → IsReached lanes geometry s
      → IsMachines geometry e s before r new after → IsReached lanes geometry new
  made-reached s new e before after r reached is =
      let c : Called = call geometry e (fetched_from geometry e s (byte_in before)) s in
      let behind = reached-kept host_bytes lanes geometry laid s reached e (fetched_from geometry e s (byte_in before))
      (fetched-fits geometry e s (byte_in before)) in
      let kept : AreKept geometry new.lanes c.now.side.tails c.now.side.controllers =
      kept-alike geometry new.lanes c.now.side.lanes c.now.side.tails c.now.side.controllers (sym is.side.lanes) behind.kept in
      record {
        kept =
            subst (λ (cs : List Controller). AreKept geometry new.lanes new.tails cs) is.side.controllers
            (subst (λ (ts : List ℕ). AreKept geometry new.lanes ts c.now.side.controllers) is.side.tails kept);
        on_pages = subst AreOnPages is.side.controllers behind.on_pages;
        many =
            sym (length-map unplaced_lane new.lanes) ∙ ap (λ (ls : List Lane). length ls) (sym is.side.lanes)
            ∙ length-map unplaced_lane c.now.side.lanes ∙ behind.many;
      }

  -- and so does a close
  one-reached : (s : Side) (made : Made) → IsReached lanes geometry s → IsOne geometry s made → IsReached lanes geometry made.side
  one-reached s made reached (Machines is) = made-reached s made.side made.event made.before made.after made.reply reached is
  one-reached s made reached (Closes is) =
      record { kept = is.kept; on_pages = subst AreOnPages (sym is.controllers) reached.on_pages; many = is.many ∙ reached.many }

  all-reached : (made : List Made) (s : Side) → IsReached lanes geometry s → AreMachines geometry made s → IsReached lanes geometry (side_behind made s)
  unfolding AreMachines side_behind
  all-reached [] s reached are = reached
  all-reached (made ∷ more) s reached are = all-reached more made.side (one-reached s made reached are.0) are.1

  pub each-contained : (made : List Made) → AreMachines geometry made (opening_side geometry lanes) → (e : Event) (fetched : List ℕ)
      → IsContained geometry e fetched (side_behind made (opening_side geometry lanes))
  each-contained made are e fetched =
      call-contained host_bytes lanes geometry laid e fetched (side_behind made (opening_side geometry lanes))
      (all-reached made (opening_side geometry lanes) (opening-reached geometry lanes) are)

  -- ---- by the contracts of the code

  call-machines : (s : Side) (made : Made) → IsReached lanes geometry s → IsCall geometry s made → IsOne geometry s made
  call-machines s made reached (Steps r mine other replied steps) =
      let here : IsLaidOut host_bytes (length s.lanes) geometry = subst (λ (n : ℕ). IsLaidOut host_bytes n geometry) (sym reached.many) laid in
      Machines (subst (λ (o : Option Reply). IsMachines geometry made.event s made.before o made.side made.after) (sym replied)
      (step-machines host_bytes geometry s made.side made.before made.after r made.event mine other here reached.kept reached.on_pages steps))
  call-machines s made reached (Reaps lane is answers ended same tails memory) =
      Machines (subst (λ (m : List ℕ). IsMachines geometry made.event s made.before made.reply made.side m) (sym memory)
      (subst (λ (e : Event). IsMachines geometry e s made.before made.reply made.side made.before) (sym is)
      (reap-machines geometry s made.side made.before lane made.reply answers ended same tails)))
  call-machines s made reached (Shuts is) = Closes is

  all-machines : (made : List Made) (s : Side) → IsReached lanes geometry s → AreCalls geometry made s → AreMachines geometry made s
  unfolding AreMachines AreCalls
  all-machines [] s reached are = tt
  all-machines (made ∷ more) s reached are =
      let is = call-machines s made reached are.0 in
      (is, all-machines more made.side (one-reached s made reached is) are.1)

  pub calls-machines : (made : List Made) → AreCalls geometry made (opening_side geometry lanes) → AreMachines geometry made (opening_side geometry lanes)
  calls-machines made are = all-machines made (opening_side geometry lanes) (opening-reached geometry lanes) are
