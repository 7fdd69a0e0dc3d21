-- What the device keeps of the commands in it
use Rattle.std.proofs.Common.{◌≡◌, ℕ, zero, suc, ◌≤◌, ◌^◌, Bool, List, Option, None, length, replicate, sym, ap, subst, ◌∙◌, arith}
use Rattle.std.specs.Prelude.{All, IfSome}
use Rattle.std.proofs.lemmas.List.{length-replicate}
use Rattle.std.proofs.lemmas.List.Elements.{All-cons, All-nil}
use Rattle.nv_world_model.specs.Area.{lane_start, tag_count}
use Rattle.nv_world_model.specs.Device.{DeviceLane, Held, opening_device_lane}
use Rattle.nv_device.specs.Physical.{AreHeld, FitsLimits, IsHeld, IsWhole}

-- no command
none-held : (blocks n : ℕ) → All (λ (o : Option Held). IfSome o (IsHeld blocks)) (replicate n None)
none-held blocks zero = All-nil (λ (o : Option Held). IfSome o (IsHeld blocks))
none-held blocks (suc n) = All-cons (λ (o : Option Held). IfSome o (IsHeld blocks)) None (replicate n None) tt (none-held blocks n)

opening-held : (blocks n : ℕ) → All (AreHeld blocks) (replicate n opening_device_lane)
opening-held blocks zero = All-nil (AreHeld blocks)
opening-held blocks (suc n) = All-cons (AreHeld blocks) opening_device_lane (replicate n opening_device_lane) (none-held blocks tag_count) (opening-held blocks n)

-- a new device is whole
pub opening-whole : (mediator lanes blocks : ℕ) (disk : List (List ℕ)) (kept : List Bool) (all : List DeviceLane) → FitsLimits mediator lanes blocks
    → length disk ≡ blocks → length kept ≡ blocks → all ≡ replicate lanes opening_device_lane → IsWhole mediator disk kept all
opening-whole mediator lanes blocks disk kept all fits sized marked is =
    let count : length all ≡ lanes = ap length is ∙ length-replicate lanes opening_device_lane in
    let A : List DeviceLane → Type 0 = λ ds. All (AreHeld (length disk)) ds in
    let B : ℕ → Type 0 = λ n. lane_start mediator n ≤ 2 ^ 64 in
    record {
      area = subst B (sym count) fits.area;
      few = (let most = fits.most_lanes in omega arith);
      marked = marked ∙ sym sized;
      held = subst A (sym is) (opening-held (length disk) lanes);
    }
