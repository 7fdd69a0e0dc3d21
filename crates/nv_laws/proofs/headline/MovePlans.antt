-- Plans of the shares of a command that goes with a work: which transfer bytes, which hide some, and what has to be there as their units move.
use Rattle.std.proofs.Common.{◌≡◌, ℕ, ◌⊎◌, inl, inr, Bool, true, false, ◌&&◌, List, Option, Some, None, refl, sym, ap, ◌∙◌, subst}
use Rattle.nv_model.specs.Judge.{Clear, Form, Keep, Manage, Transfer, Work, form_has_buffer, form_is_read, form_of, has_buffer, is_read}
use Rattle.nv_world_model.specs.Device.{Held}
use Rattle.nv_world_model.specs.Geometry.{Guest}
use Rattle.nv_world_model.specs.Plan.{Answer, Bounced, Direct, NoData, Plan}
use Rattle.nv_world_model.specs.Share.{Share}
use Rattle.nv_world_model.specs.Seat.{work_of}
use Rattle.nv_world_model.specs.World.{Command, Ended, Flying, Free, Tag, Taken}
use Rattle.nv_laws_sound.specs.Consistent.{IsPlanned}
use Rattle.nv_laws_sound.specs.Groups.{Handed, part_of}
use Rattle.nv_laws_sound.proofs.Lists.{some-same}
use Rattle.nv_laws_sound.proofs.PlanSizes.{planned-by}
use Rattle.nv_laws.specs.Related.{form_has_bytes, hides, left_where, none_left, plan_hides}
use Rattle.nv_laws.proofs.related.Within.{IsFit, IsFitTag}

-- the three plans of a work
pub plan-kind : (plan : Plan) (work : Work) → work_of plan ≡ Some work → (plan ≡ NoData work) ⊎ ((plan ≡ Direct work) ⊎ (plan ≡ Bounced work))
plan-kind (Answer st) work goes = cc
plan-kind (NoData x) work goes = inl (ap NoData (some-same x work goes))
plan-kind (Direct x) work goes = inr (inl (ap Direct (some-same x work goes)))
plan-kind (Bounced x) work goes = inr (inr (ap Bounced (some-same x work goes)))

-- a transfer has a buffer, and so a share of it that moves it
pub moves-bytes : (guest : Guest) (entry : List ℕ) (share : Share) (is : IsPlanned guest entry share) (work : Work) (dest : Bool)
    → form_of is.work.opcode ≡ Transfer dest → share.plan ≡ NoData work → ⊥
moves-bytes guest entry share is work dest form =
    planned-by (λ x. x ≡ NoData work → ⊥) guest entry share is
    (λ none e.
    (let has : has_buffer is.work.opcode ≡ true = ap form_has_buffer form in
    let bad : true ≡ false = sym has ∙ none in
    cc))
    (λ has fits e. cc) (λ has e. cc)

-- a share of what is no Read hides nothing
none-and : (c b : Bool) → b ≡ false → (b && c) ≡ false
none-and c true e = cc
none-and c false e = refl

pub no_read-hides : (share : Share) (fit : IsFit share) (whole : Work) (left : ℕ → Bool) (addr : ℕ) → work_of share.whole ≡ Some whole → is_read whole.opcode ≡ false
    → plan_hides share.plan left addr ≡ false
no_read-hides share fit whole left addr goes other = by share.plan refl
  where
    by : (plan : Plan) → share.plan ≡ plan → plan_hides plan left addr ≡ false
    by (Answer st) same = refl
    by (NoData own) same = refl
    by (Direct own) same = refl
    by (Bounced own) same =
        let part = fit own (ap work_of same) in
        none-and _ (is_read own.opcode)
        (ap is_read part.opcode ∙ ap (λ (x : Work). is_read x.opcode) (some-same part.whole whole (sym part.is ∙ goes)) ∙ other)

-- nor does a tag of it
pub no_read-tag : (t : Tag) (held : Option Held) (command : Command) (share : Share) (fit : IsFit share) (whole : Work) (addr : ℕ) → part_of t ≡ Handed command share
    → work_of share.whole ≡ Some whole → is_read whole.opcode ≡ false → hides (Some t) held addr ≡ false
no_read-tag Free held command share fit whole addr is goes other = cc
no_read-tag (Taken c reads) held command share fit whole addr is goes other = refl
no_read-tag (Flying c s standing) held command share fit whole addr is goes other =
    let same : s ≡ share = cc in
    ap (λ (x : Share). plan_hides x.plan (left_where standing held) addr) same ∙ no_read-hides share fit whole (left_where standing held) addr goes other
no_read-tag (Ended c st None) held command share fit whole addr is goes other = refl
no_read-tag (Ended c st (Some s)) held command share fit whole addr is goes other =
    let same : s ≡ share = cc in
    ap (λ (x : Share). plan_hides x.plan none_left addr) same ∙ no_read-hides share fit whole none_left addr goes other

-- fewer bytes of a source have to be there with fewer units left
pub fewer-form : (form : Form) (a b : Bool) → form_is_read form ≡ false → (a ≡ true → b ≡ true) → form_has_bytes form a ≡ true → form_has_bytes form b ≡ true
fewer-form (Transfer true) a b other less has = cc
fewer-form (Transfer false) a b other less has = less has
fewer-form Clear a b other less has = has
fewer-form Manage a b other less has = has
fewer-form Keep a b other less has = has

-- ---- tags of a share

pub tag-fit : (t : Tag) (command : Command) (share : Share) → part_of t ≡ Handed command share → IsFitTag t → IsFit share
tag-fit Free command share is fit = cc
tag-fit (Taken c reads) command share is fit = cc
tag-fit (Flying c s standing) command share is fit = let same : s ≡ share = cc in subst IsFit same fit
tag-fit (Ended c st None) command share is fit = cc
tag-fit (Ended c st (Some s)) command share is fit = let same : s ≡ share = cc in subst IsFit same fit
