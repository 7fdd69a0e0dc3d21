-- Each event of a disciplined guest is followed, so a log keeps the promise.
use Rattle.std.proofs.Common.{◌≡◌, ℕ, List, Some, None}
use Rattle.std.specs.List.{All}
use Rattle.std.specs.Prelude.{slice_get}
use Rattle.nv_mem.specs.GuestMap.{IsSound}
use Rattle.nv_world_model.specs.declared.logged.Logged.{Logged}
use Rattle.nv_world_model.specs.Geometry.{Geometry, Guest}
use Rattle.nv_world_model.specs.Headline.{Headline}
use Rattle.nv_world_model.specs.Log.{IsReplay}
use Rattle.nv_world_model.specs.SetUp.{SetUp, host_refusal_of}
use Rattle.nv_world_model.specs.World.{World, opening_world}
use Rattle.nv_laws.proofs.others.Containing.{contained-since}
use Rattle.nv_laws.specs.Alike.{HasFittingStatus}
use Rattle.nv_laws.specs.Following.{AreRestFollowed, EachEventIsFollowed}
use Rattle.nv_laws.proofs.related.Every.{each-followed}
use Rattle.nv_laws.proofs.related.Following.{private-run}
use Rattle.nv_laws.proofs.headline.Admins.{admins-go}
use Rattle.nv_laws.proofs.headline.MoveEvents.{moves-go}
use Rattle.nv_laws.proofs.headline.Posts.{posts-go}
use Rattle.nv_laws.proofs.headline.Rings.{takes-go}
use Rattle.nv_laws.proofs.headline.Submits.{submits-go}
use Rattle.nv_laws.proofs.headline.Completions as completed

rest-followed : (host_bytes : ℕ) (geometry : Geometry) (number : ℕ) (guest : Guest) → slice_get geometry.guests number ≡ Some guest
    → AreRestFollowed geometry host_bytes number guest
rest-followed host_bytes geometry number guest given =
    record {
      admins = λ w p reached disciplined related own. admins-go host_bytes geometry number guest given w reached p related disciplined;
      submits = λ lane tag w p reached disciplined related own. submits-go host_bytes geometry number guest given w reached p related lane tag disciplined.before own;
      device_takes = λ lane w p reached disciplined related own. takes-go host_bytes geometry number guest given w reached p related lane own;
      device_moves = λ lane slot unit w p reached disciplined related own. moves-go host_bytes geometry number guest given w reached p related lane slot unit disciplined own;
      device_posts = λ lane slot w p reached disciplined related own. posts-go host_bytes geometry number guest given w reached p related lane slot own;
      posts = λ lane tag w p reached disciplined related own. completed.posts-go host_bytes geometry number guest given w reached p related lane tag disciplined.before own;
    }

pub all-followed : (host_bytes : ℕ) (geometry : Geometry) (number : ℕ) (guest : Guest) → slice_get geometry.guests number ≡ Some guest
    → EachEventIsFollowed geometry host_bytes number guest
all-followed host_bytes geometry number guest given =
    each-followed geometry host_bytes number guest given (rest-followed host_bytes geometry number guest given)

pub promise-kept : (s : SetUp) (host : ℕ → ℕ) (disk : ℕ → ℕ → ℕ) (log : List Logged) (z : World) → host_refusal_of s ≡ None
    → ((number : ℕ) (guest : Guest) → slice_get s.geometry.guests number ≡ Some guest → IsSound guest.memory_map)
    → All (λ l. HasFittingStatus l.event) log
    → (let w = opening_world host disk s.geometry s.lanes in IsReplay s.geometry w log z → Headline s.geometry w log z)
promise-kept s host disk log z none sound fits replayed =
    record {
      replay = replayed;
      private = λ number guest given unfailed disciplined.
          private-run s host disk log z number guest none sound given (all-followed s.host_bytes s.geometry number guest given) unfailed disciplined replayed;
      contained = contained-since s host disk log none sound fits;
    }
