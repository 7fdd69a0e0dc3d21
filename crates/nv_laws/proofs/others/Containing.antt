-- Every event is contained, and so is each along a log.
use Rattle.std.proofs.Common.{◌≡◌, ℕ, false, cond, List, [], ◌∷◌, All, length, slice_get, Some, None, sym, ap, ◌∙◌, subst}
use Rattle.std.proofs.lemmas.List.{length-replicate}
use Rattle.std.proofs.lemmas.List.Elements.{All-head, All-tail}
use Rattle.nv_mem.specs.GuestMap.{IsSound}
use Rattle.nv_world_model.specs.declared.event.Event.{Event}
use Rattle.nv_world_model.specs.declared.event.Event.TheVariants as event
use Rattle.nv_world_model.specs.declared.logged.Logged.{Logged}
use Rattle.nv_world_model.specs.Contained.{Contained, RaisesOne, owner}
use Rattle.nv_world_model.specs.CutDown.{cut}
use Rattle.nv_world_model.specs.Geometry.{Geometry, Guest}
use Rattle.nv_world_model.specs.Headline.{AreContained}
use Rattle.nv_world_model.specs.Seat.{held_in}
use Rattle.nv_world_model.specs.SetUp.{SetUp, host_refusal_of}
use Rattle.nv_world_model.specs.Step.{step}
use Rattle.nv_world_model.specs.View.{IsAlike, is_tag_of}
use Rattle.nv_world_model.specs.World.{World, opening_lane, opening_world, tag_of}
use Rattle.nv_world_model.proofs.Replies.{step-answers}
use Rattle.nv_laws_sound.specs.Consistent.{IsConsistent}
use Rattle.nv_laws_sound.specs.LaidOut.{IsLaidOut}
use Rattle.nv_laws_sound.proofs.LaidOuts.{host-laid-out}
use Rattle.nv_laws_sound.proofs.Lists.{some-same}
use Rattle.nv_laws_sound.proofs.Openings.{opening-consistent}
use Rattle.nv_laws_sound.proofs.ManyLanes.{lanes-kept}
use Rattle.nv_laws_sound.proofs.Steps.{step-consistent}
use Rattle.nv_laws.specs.Alike.{GoesByItsOwn, HasFittingStatus, HoldsNothingFree}
use Rattle.nv_laws.proofs.others.AlikeGuests.{acts-alike, admins-alike, give_ups-alike, lists-alike, takes-alike}
use Rattle.nv_laws.proofs.others.AlikeMoves.{moves-alike}
use Rattle.nv_laws.proofs.others.AlikePosts.{posts-alike}
use Rattle.nv_laws.proofs.others.AlikeReplies.{replies-same}
use Rattle.nv_laws.proofs.others.AlikeRings.{device_fails-alike, device_posts-alike, reaps-alike}
use Rattle.nv_laws.proofs.others.AlikeHanded.{submits-alike}
use Rattle.nv_laws.proofs.others.Owned.{consistent-owned, cut-owned}
use Rattle.nv_laws.proofs.others.AlikeTakes.{device_takes-alike}
use Rattle.nv_laws.proofs.others.Cuts.{cut-alike, device-cut, owns-same}
use Rattle.nv_laws.proofs.others.Every.{each-leaves-others, keep-raises}

-- ---- worlds that look alike

pub events-alike : (host_bytes : ℕ) (geometry : Geometry) (w z : World) (number : ℕ) (guest : Guest) (e : Event) → IsLaidOut host_bytes (length w.lanes) geometry
    → IsConsistent geometry w → HoldsNothingFree z → GoesByItsOwn number z → slice_get geometry.guests number ≡ Some guest → IsAlike number guest geometry w z → HasFittingStatus e
    → owner e w ≡ Some number → IsAlike number guest geometry (step geometry e w).world (step geometry e z).world
events-alike host_bytes geometry w z number guest (event.Guest n a) laid fine nothing owned given alike fits mine =
    acts-alike host_bytes geometry w z laid fine.of_tags number guest given alike n a (some-same n number mine)
events-alike host_bytes geometry w z number guest (event.Admin n) laid fine nothing owned given alike fits mine =
    admins-alike host_bytes geometry w z laid fine.of_tags number guest given alike n (some-same n number mine)
events-alike host_bytes geometry w z number guest (event.Take n queue lane) laid fine nothing owned given alike fits mine =
    takes-alike host_bytes geometry w z laid fine.of_tags number guest given alike nothing n queue lane (some-same n number mine)
events-alike host_bytes geometry w z number guest (event.List lane tag addr len) laid fine nothing owned given alike fits mine =
    lists-alike host_bytes geometry w z laid fine.of_tags number guest given alike lane tag addr len mine
events-alike host_bytes geometry w z number guest (event.Submit lane tag) laid fine nothing owned given alike fits mine =
    submits-alike host_bytes geometry number guest given w z laid fine.of_tags fine.groups alike (consistent-owned geometry w number fine) owned lane tag mine
events-alike host_bytes geometry w z number guest (event.GiveUp lane tag) laid fine nothing owned given alike fits mine =
    give_ups-alike host_bytes geometry w z laid fine.of_tags number guest given alike (consistent-owned geometry w number fine) owned lane tag mine
events-alike host_bytes geometry w z number guest (event.DevTake lane) laid fine nothing owned given alike fits mine =
    device_takes-alike host_bytes geometry w z laid fine.of_tags number guest given alike lane mine
events-alike host_bytes geometry w z number guest (event.DevMove lane slot k) laid fine nothing owned given alike fits mine =
    moves-alike host_bytes geometry w z laid fine.of_tags number guest given alike lane slot k mine
events-alike host_bytes geometry w z number guest (event.DevPost lane slot) laid fine nothing owned given alike fits mine =
    device_posts-alike host_bytes geometry w z laid fine.of_tags number guest given alike lane slot mine
events-alike host_bytes geometry w z number guest (event.DevFail lane slot st) laid fine nothing owned given alike fits mine =
    device_fails-alike host_bytes geometry w z laid fine.of_tags number guest given alike lane slot st fits.0 fits.1 mine
events-alike host_bytes geometry w z number guest (event.Keep block) laid fine nothing owned given alike fits mine = cc
events-alike host_bytes geometry w z number guest (event.Reap lane) laid fine nothing owned given alike fits mine =
    reaps-alike host_bytes geometry w z laid fine.of_tags number guest given alike lane mine
events-alike host_bytes geometry w z number guest (event.Post lane tag) laid fine nothing owned given alike fits mine =
    posts-alike host_bytes geometry w z laid fine.of_tags number guest given alike (consistent-owned geometry w number fine) owned lane tag mine

-- ---- the world cut down

-- the device holds nothing under its free tags
cut-holds : (host_bytes lanes : ℕ) (geometry : Geometry) (laid : IsLaidOut host_bytes lanes geometry) (w : World) (number : ℕ) (guest : Guest)
    (given : slice_get geometry.guests number ≡ Some guest) → HoldsNothingFree (cut number guest geometry w)
cut-holds host_bytes lanes geometry laid w number guest given lane tag free =
    let none : is_tag_of number (tag_of w lane tag) ≡ false =
    owns-same host_bytes lanes geometry laid w number guest given lane tag ∙ ap (is_tag_of number) free in
    sym (device-cut host_bytes lanes geometry laid w number guest given lane tag) ∙ ap (λ b. cond b (held_in (slice_get w.device lane) tag) None) none

-- ---- containment

pub events-contained : (host_bytes : ℕ) (geometry : Geometry) (w : World) (e : Event) → IsLaidOut host_bytes (length w.lanes) geometry → IsConsistent geometry w
    → HasFittingStatus e → Contained geometry e w
events-contained host_bytes geometry w e laid fine fits =
    record {
      others = each-leaves-others host_bytes geometry w e laid fine;
      own = (λ number guest given mine.
          (let z = cut number guest geometry w in
          let owned = cut-owned host_bytes (length w.lanes) geometry w number guest laid given fine in
          let alike = cut-alike host_bytes (length w.lanes) geometry laid w number guest given in
          record {
            reply = replies-same geometry w z number guest given alike (consistent-owned geometry w number fine) owned e mine;
            alike =
                events-alike host_bytes geometry w z number guest e laid fine (cut-holds host_bytes (length w.lanes) geometry laid w number guest given) owned given alike fits mine;
          }));
      keep = (λ block is. subst (λ x. RaisesOne block w (step geometry x w).world) (sym is) (keep-raises geometry w block));
      dull = (step-answers geometry e w).dull;
    }

pub logs-contained : (host_bytes : ℕ) (geometry : Geometry) (log : List Logged) (w : World) → IsLaidOut host_bytes (length w.lanes) geometry → IsConsistent geometry w
    → All (λ l. HasFittingStatus l.event) log → AreContained geometry log w
unfolding AreContained
logs-contained host_bytes geometry [] w laid fine fits = tt
logs-contained host_bytes geometry (l ∷ log) w laid fine fits = (
  events-contained host_bytes geometry w l.event laid fine (All-head (λ x. HasFittingStatus x.event) l log fits),
  logs-contained host_bytes geometry log (step geometry l.event w).world
      (subst (λ n. IsLaidOut host_bytes n geometry) (sym (lanes-kept geometry w l.event)) laid) (step-consistent host_bytes geometry l.event w laid fine)
      (All-tail (λ x. HasFittingStatus x.event) l log fits),
)

pub contained-since : (s : SetUp) (host : ℕ → ℕ) (disk : ℕ → ℕ → ℕ) (log : List Logged) → host_refusal_of s ≡ None
    → ((number : ℕ) (guest : Guest) → slice_get s.geometry.guests number ≡ Some guest → IsSound guest.memory_map)
    → All (λ l. HasFittingStatus l.event) log → AreContained s.geometry log (opening_world host disk s.geometry s.lanes)
unfolding opening_world
contained-since s host disk log none sound fits =
    logs-contained s.host_bytes s.geometry log (opening_world host disk s.geometry s.lanes)
    (subst (λ n. IsLaidOut s.host_bytes n s.geometry) (sym (length-replicate s.lanes opening_lane)) (host-laid-out s none sound)) (opening-consistent host disk s.geometry s.lanes) fits
