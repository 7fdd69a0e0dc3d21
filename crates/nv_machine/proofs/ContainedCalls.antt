-- Each call is contained, from the start of an accepted set-up on.
use Rattle.std.proofs.Common.{◌≡◌, ℕ, zero, suc, ◌+◌, List, [], ◌∷◌, ◌++◌, length, map, arith, replicate, take, None, refl, sym, ap, ◌∙◌, subst}
use Rattle.std.proofs.lemmas.List.{length-append, length-map, length-replicate}
use Rattle.nv_laws_sound.proofs.KeptWorlds.{kept-consistent, kept-world}
use Rattle.nv_laws_sound.proofs.LaidOuts.{host-laid-out}
use Rattle.nv_laws_sound.proofs.Lists.{slice_get-replicate}
use Rattle.nv_laws_sound.proofs.Openings.{opening-consistent}
use Rattle.nv_laws_sound.specs.LaidOut.{IsLaidOut}
use Rattle.nv_laws_sound.specs.Side.{AreKept, IsKept, Side, opening_side, tails_of}
use Rattle.nv_machine.specs.Contained.{AreFetched, IsContained, IsFetched, after_calls}
use Rattle.nv_machine.specs.InWorld.{AreOnPages, fetched_in, side_of}
use Rattle.nv_machine.specs.Machine.{call, fetch, fetch_then}
use Rattle.nv_machine.proofs.ContainedEffects.{effects-may}
use Rattle.nv_machine.proofs.ContainedFetch.{AreSound, first-may, then-may}
use Rattle.nv_machine.proofs.ContainedFlying.{flying-left}
use Rattle.nv_machine.proofs.ContainedOthers.{others-left}
use Rattle.nv_machine.proofs.ContainedRings.{rings-pass}
use Rattle.nv_machine.proofs.FetchedHosts.{nothing}
use Rattle.nv_machine.proofs.Reached.{IsReached, reached-kept}
use Rattle.nv_mem.specs.GuestMap.{mapped}
use Rattle.nv_model.specs.Controller.{opening}
use Rattle.nv_model.specs.Laws.{IsCompletionOnPage, IsSubmissionOnPage, QueuesOnPages}
use Rattle.nv_model.proofs.QueueOrder.{IsKept-on_pages}
use Rattle.nv_model.proofs.QueuesKept.{QueuesHave-opening}
use Rattle.nv_world_model.specs.Device.{opening_device_lane}
use Rattle.nv_world_model.specs.Geometry.{Geometry}
use Rattle.nv_world_model.specs.SetUp.{SetUp, host_refusal_of}
use Rattle.nv_world_model.specs.World.{World, opening_lane, opening_world}
use Rattle.nv_world_model.specs.declared.event.Event.{Event}

-- ---- the start

tails-opening : (lanes : ℕ) → tails_of (replicate lanes opening_device_lane) ≡ replicate lanes 0
tails-opening zero = refl
tails-opening (suc lanes) = ap (λ (ts : List ℕ). 0 ∷ ts) (tails-opening lanes)

opening-kept : (geometry : Geometry) (lanes : ℕ) → IsKept geometry (opening_side geometry lanes)
unfolding opening_world
opening-kept geometry lanes =
    subst (λ ts. AreKept geometry (replicate lanes opening_lane) ts (replicate (length geometry.guests) opening)) (tails-opening lanes)
    (kept-world geometry (opening_world nothing (λ block offset. 0) geometry lanes)
    (kept-consistent geometry (opening_world nothing (λ block offset. 0) geometry lanes) (opening-consistent nothing (λ block offset. 0) geometry lanes)))

opening-pages : (geometry : Geometry) → AreOnPages (replicate (length geometry.guests) opening)
opening-pages geometry number c at =
    subst QueuesOnPages (slice_get-replicate (length geometry.guests) number opening c at)
    (QueuesHave-opening (mapped []) IsSubmissionOnPage IsCompletionOnPage (IsKept-on_pages (mapped [])))

pub opening-reached : (geometry : Geometry) (lanes : ℕ) → IsReached lanes geometry (opening_side geometry lanes)
opening-reached geometry lanes =
    record { kept = opening-kept geometry lanes; on_pages = opening-pages geometry; many = length-replicate lanes opening_lane }

-- ---- calls

module _ (host_bytes lanes : ℕ) (geometry : Geometry) (laid : IsLaidOut host_bytes lanes geometry) where
  pub calls-reached : (calls : List (Event × List ℕ)) (s : Side) → IsReached lanes geometry s → AreFetched geometry calls s
      → IsReached lanes geometry (after_calls geometry calls s)
  unfolding after_calls AreFetched
  calls-reached [] s reached fetched = reached
  calls-reached (one ∷ calls) s reached fetched =
      calls-reached calls (call geometry one.0 one.1 s).now.side (reached-kept host_bytes lanes geometry laid s reached one.0 one.1 fetched.0) fetched.1

  -- a call with a side that is sound
  pub call-contained : (e : Event) (fetched : List ℕ) (s : Side) → IsReached lanes geometry s → IsContained geometry e fetched s
  call-contained e fetched s reached =
      let sound : AreSound geometry = λ number guest found. (laid.given number guest found).sound in
      record {
        first = first-may geometry sound s e fetched;
        then = then-may geometry sound s e fetched (take (length (fetch geometry e s)) fetched);
        effects = effects-may host_bytes lanes geometry laid s reached.kept reached.on_pages e fetched;
        others = others-left geometry s reached.kept e fetched;
        rings = rings-pass host_bytes lanes geometry laid s reached.kept e fetched;
        flying = flying-left geometry s reached.kept e fetched;
      }

-- ---- what is fetched in a world

take-front : (xs ys : List ℕ) (n : ℕ) → length xs ≡ n → take n (xs ++ ys) ≡ xs
take-front [] ys zero many = refl
take-front [] ys (suc n) many = cc
take-front (x ∷ xs) ys zero many = cc
take-front (x ∷ xs) ys (suc n) many = ap (λ (zs : List ℕ). x ∷ zs) (take-front xs ys n (omega (arith, many)))

-- is as many bytes as are asked for
pub fetched-in : (geometry : Geometry) (e : Event) (w : World) → IsFetched geometry e (side_of w) (fetched_in geometry e w)
fetched-in geometry e w =
    let addresses : List ℕ = fetch geometry e (side_of w) in
    let first : List ℕ = map w.host addresses in
    let more : List ℕ = fetch_then geometry e (side_of w) first in
    let same : take (length addresses) (first ++ map w.host more) ≡ first =
    take-front first (map w.host more) (length addresses) (length-map addresses w.host) in
    length-append first (map w.host more)
    ∙ ap (λ (n : ℕ). n + length (map w.host more)) (length-map addresses w.host)
    ∙ ap (λ (n : ℕ). length addresses + n) (length-map more w.host)
    ∙ ap (λ (zs : List ℕ). length addresses + length (fetch_then geometry e (side_of w) zs)) (sym same)

-- ---- from the start

module _ (s : SetUp) (calls : List (Event × List ℕ)) (accepted : host_refusal_of s ≡ None) (sound : AreSound s.geometry)
    (were : AreFetched s.geometry calls (opening_side s.geometry s.lanes)) where
  abbrev reached : Side
  reached = after_calls s.geometry calls (opening_side s.geometry s.lanes)

  pub start-reached : IsReached s.lanes s.geometry reached
  start-reached =
      calls-reached s.host_bytes s.lanes s.geometry (host-laid-out s accepted sound) calls (opening_side s.geometry s.lanes) (opening-reached s.geometry s.lanes) were

  pub start-contained : (e : Event) (fetched : List ℕ) → IsContained s.geometry e fetched reached
  start-contained e fetched = call-contained s.host_bytes s.lanes s.geometry (host-laid-out s accepted sound) e fetched reached start-reached
