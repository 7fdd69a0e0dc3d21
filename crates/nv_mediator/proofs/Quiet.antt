-- An event that tells bytes changes nothing, but for a read of a list.
use Rattle.std.proofs.Common.{◌≡◌, ◌≢◌, ℕ, Bool, true, false, ◌&&◌, inl, inr, List, [], ◌∷◌, Option, Some, None, refl, sym, ap, ◌∙◌}
use Rattle.std.specs.Prelude.{Err, IsSome, Ok, OnErr, Result}
use Rattle.nv_core.specs.Seat.{bytes_told}
use Rattle.nv_core.specs.State.{IsStep, State, world_of}
use Rattle.nv_model.specs.Private.{Acted, Private, acted}
use Rattle.nv_model.specs.declared.act.Act.{Act}
use Rattle.nv_model.specs.declared.reply.Reply.{Reply}
use Rattle.nv_model.specs.declared.reply.Reply.TheVariants as reply
use Rattle.nv_mediator.specs.Hosted.{Hosted, IsMade, IsUnchanged}
use Rattle.nv_world_model.proofs.Replies.{step-answers}
use Rattle.nv_world_model.specs.declared.event.Event.{Event}
use Rattle.nv_world_model.specs.declared.event.Event.TheVariants as event
use Rattle.nv_world_model.specs.Geometry.{Geometry, shape_of}
use Rattle.nv_world_model.specs.Laws.{IsAmong}
use Rattle.nv_world_model.specs.Seat.{Owner, owner_of, seat}
use Rattle.nv_world_model.specs.Step.{After, act_put_back, acted_in, for_one, step}
use Rattle.nv_world_model.specs.World.{World}

-- any event but a read of a list
abbrev pub IsNoList : Event → Type 0
IsNoList e = (lane tag addr len : ℕ) → e ≢ event.List lane tag addr len

-- replies without bytes
abbrev is_plain : Option (List ℕ) → Bool
is_plain None = true
is_plain (Some bytes) = false

abbrev are_plain : List Reply → Bool
are_plain [] = true
are_plain (x ∷ xs) = is_plain (bytes_told x) && are_plain xs

plain-not : (o : Option (List ℕ)) (bytes : List ℕ) (rest : Bool) → (is_plain o && rest) ≡ true → o ≡ Some bytes → {A : Type 0} → A
plain-not None bytes rest plain told = cc
plain-not (Some b) bytes rest plain told = cc

plain-rest : (a b : Bool) → (a && b) ≡ true → b ≡ true
plain-rest true b e = e
plain-rest false b e = cc

among-plain : (xs : List Reply) (r : Reply) (bytes : List ℕ) → are_plain xs ≡ true → IsAmong xs r → bytes_told r ≡ Some bytes → {A : Type 0} → A
among-plain [] r bytes plain is told = absurd is
among-plain (x ∷ xs) r bytes plain (inl same) told = plain-not (bytes_told x) bytes (are_plain xs) plain (ap bytes_told (sym same) ∙ told)
among-plain (x ∷ xs) r bytes plain (inr is) told =
    among-plain xs r bytes (plain-rest (is_plain (bytes_told x)) (are_plain xs) plain) is told

plain-none : (o : Option (List ℕ)) (rest : Bool) → (is_plain o && rest) ≡ true → o ≡ None
plain-none None rest plain = refl
plain-none (Some b) rest plain = cc

among-none : (xs : List Reply) (r : Reply) → are_plain xs ≡ true → IsAmong xs r → bytes_told r ≡ None
among-none [] r plain is = absurd is
among-none (x ∷ xs) r plain (inl same) = ap bytes_told same ∙ plain-none (bytes_told x) (are_plain xs) plain
among-none (x ∷ xs) r plain (inr is) = among-none xs r (plain-rest (is_plain (bytes_told x)) (are_plain xs) plain) is

-- a unit that moves tells none
pub made-plain : (lane slot number : ℕ) (old new : Hosted) (r : Reply) → IsMade (event.DevMove lane slot number) old r new → bytes_told r ≡ None
made-plain lane slot number old new r is =
    let e : Event = event.DevMove lane slot number in
    let w = world_of old.state in
    let same : r ≡ (step old.geometry e w).reply = ap (λ (a : After). a.reply) is.after in
    ap bytes_told same
    ∙ among-none (reply.Done ∷ reply.Idle ∷ reply.Ignored ∷ []) (step old.geometry e w).reply refl (step-answers old.geometry e w).may

-- an act that tells bytes
put-back-same : (x : Reply) (p : Private) (o : Owner) (w : World) (bytes : List ℕ) → bytes_told (act_put_back x p o w).reply ≡ Some bytes
    → (act_put_back x p o w).world ≡ w
put-back-same reply.Done p o w bytes told = cc
put-back-same (reply.Bytes b) p o w bytes told = refl
put-back-same reply.Idle p o w bytes told = refl
put-back-same reply.Busy p o w bytes told = refl
put-back-same reply.Held p o w bytes told = refl
put-back-same reply.Stale p o w bytes told = refl
put-back-same reply.Unmapped p o w bytes told = refl
put-back-same reply.Ignored p o w bytes told = refl
put-back-same reply.NoMemory p o w bytes told = refl

act-same : (geometry : Geometry) (a : Act) (x : Option Owner) (w : World) (bytes : List ℕ)
    → bytes_told (for_one x w (λ o. acted_in geometry a o w)).reply ≡ Some bytes → (for_one x w (λ o. acted_in geometry a o w)).world ≡ w
unfolding acted_in
act-same geometry a None w bytes told = refl
act-same geometry a (Some o) w bytes told =
    (let done : Acted = acted (shape_of o.given) a (seat geometry o w) in put-back-same done.reply done.state o w bytes told)

module _ (geometry : Geometry) (w : World) (bytes : List ℕ) where
  not-told : (xs : List Reply) (e : Event) → are_plain xs ≡ true → IsAmong xs (step geometry e w).reply → bytes_told (step geometry e w).reply ≡ Some bytes
      → (step geometry e w).world ≡ w
  not-told xs e plain is told = among-plain xs (step geometry e w).reply bytes plain is told

  same-behind : (e : Event) → IsNoList e → bytes_told (step geometry e w).reply ≡ Some bytes → (step geometry e w).world ≡ w
  unfolding step
  same-behind (event.Guest guest a) other told = act-same geometry a (owner_of geometry w guest) w bytes told
  same-behind (event.Admin guest) other told =
      not-told (reply.Done ∷ reply.Idle ∷ reply.Held ∷ reply.Ignored ∷ []) (event.Admin guest) refl (step-answers geometry (event.Admin guest) w).may told
  same-behind (event.Take guest queue lane) other told =
      not-told (reply.Done ∷ reply.Idle ∷ reply.Busy ∷ reply.Ignored ∷ []) (event.Take guest queue lane) refl (step-answers geometry (event.Take guest queue lane) w).may told
  same-behind (event.List lane tag addr len) other told = absurd (other lane tag addr len refl)
  same-behind (event.Submit lane tag) other told =
      not-told (reply.Done ∷ reply.Stale ∷ reply.Ignored ∷ []) (event.Submit lane tag) refl (step-answers geometry (event.Submit lane tag) w).may told
  same-behind (event.GiveUp lane tag) other told =
      not-told (reply.Done ∷ reply.Stale ∷ reply.Ignored ∷ []) (event.GiveUp lane tag) refl (step-answers geometry (event.GiveUp lane tag) w).may told
  same-behind (event.DevTake lane) other told =
      not-told (reply.Done ∷ reply.Idle ∷ reply.Ignored ∷ []) (event.DevTake lane) refl (step-answers geometry (event.DevTake lane) w).may told
  same-behind (event.DevMove lane slot number) other told =
      not-told (reply.Done ∷ reply.Idle ∷ reply.Ignored ∷ []) (event.DevMove lane slot number) refl (step-answers geometry (event.DevMove lane slot number) w).may told
  same-behind (event.DevPost lane slot) other told =
      not-told (reply.Done ∷ reply.Idle ∷ reply.Ignored ∷ []) (event.DevPost lane slot) refl (step-answers geometry (event.DevPost lane slot) w).may told
  same-behind (event.DevFail lane slot st) other told =
      not-told (reply.Done ∷ reply.Idle ∷ reply.Ignored ∷ []) (event.DevFail lane slot st) refl (step-answers geometry (event.DevFail lane slot st) w).may told
  same-behind (event.Keep block) other told =
      not-told (reply.Done ∷ reply.Idle ∷ []) (event.Keep block) refl (step-answers geometry (event.Keep block) w).may told
  same-behind (event.Reap lane) other told =
      not-told (reply.Done ∷ reply.Idle ∷ reply.Ignored ∷ []) (event.Reap lane) refl (step-answers geometry (event.Reap lane) w).may told
  same-behind (event.Post lane tag) other told =
      not-told (reply.Done ∷ reply.Stale ∷ reply.Held ∷ reply.Ignored ∷ []) (event.Post lane tag) refl (step-answers geometry (event.Post lane tag) w).may told

-- so nothing is to be undone where its bytes can't be kept
unchanged : (geometry : Geometry) (e : Event) (old new : State) (r : Reply) (bytes : List ℕ) → IsStep geometry e old r new
    → IsNoList e → bytes_told r ≡ Some bytes → IsUnchanged old new
unchanged geometry e old new r bytes is other told =
    let same : r ≡ (step geometry e (world_of old)).reply = ap (λ (a : After). a.reply) is.after in
    record {
      world = ap (λ (a : After). a.world) is.after ∙ same-behind geometry (world_of old) bytes e other (ap bytes_told (sym same) ∙ told);
      size = is.size;
    }

told-some : (o : Option (List ℕ)) → IsSome o → (bytes : List ℕ) × (o ≡ Some bytes)
told-some None some = cc
told-some (Some bytes) some = (bytes, refl)

pub unchanged-told : (geometry : Geometry) (e : Event) (old new : State) (r : Reply) → IsStep geometry e old r new → IsNoList e → IsSome (bytes_told r)
    → IsUnchanged old new
unchanged-told geometry e old new r is other some =
    let bytes = told-some (bytes_told r) some in unchanged geometry e old new r bytes.0 is other bytes.1

-- whatever the error
pub on-err : {T E : Type 0} (r : Result T E) (P : Type 0) → P → OnErr r P
on-err (Ok x) P p = tt
on-err (Err e) P p = p
