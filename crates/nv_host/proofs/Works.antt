-- Events that work makes in a row, and how a call ends after them.
use Rattle.std.proofs.Common.{◌≡◌, refl, subst, ap, ◌∙◌, ℕ, ◌+◌, ◌-◌, ◌≤◌, arith}
use Rattle.std.proofs.Common.{List, [], ◌∷◌}
use Rattle.nv_core.proofs.Sides.{own-side, own-world}
use Rattle.nv_core.specs.Front.{IsBeside}
use Rattle.nv_host.proofs.InRow.{give-by, leads-so, more-by, none-by, one-by, up-by, zero-by}
use Rattle.nv_host.specs.InRow.{AreMadeBy}
use Rattle.nv_host.specs.Passes.{MayGiveUp}
use Rattle.nv_host.specs.Served.{IsNext, Served}
use Rattle.nv_host.specs.Work.{GivesUp, HasEnded, IsDue, IsMade, IsOneMade, IsWanting, IsWork, Leads, LeadsUp, NotDue, Rests, Scene, scene}
use Rattle.nv_host.specs.declared.worked.Scope.{Scope}
use Rattle.nv_host.specs.declared.worked.Scope.TheVariants as scope
use Rattle.nv_host.specs.declared.worked.Why.{Why}
use Rattle.nv_host.specs.declared.worked.Why.TheVariants as why
use Rattle.nv_model.specs.declared.reply.Reply.{Reply}
use Rattle.nv_world_model.specs.World.{World}
use Rattle.nv_world_model.specs.declared.event.Event.{Event}
use Rattle.nv_world_model.specs.declared.event.Event.TheVariants as event

-- ---- scenes

pub scene-same : (h k : Served) (m n : List ℕ) → h ≡ k → m ≡ n → scene h m ≡ scene k n
scene-same h k m n one two = ap (λ (x : Served). scene x m) one ∙ ap (λ (x : List ℕ). scene k x) two

-- some world has each
pub own-beside : (s : Scene) → IsBeside s.served.side s.memory (own-world s.served.side s.memory)
own-beside s =
    let own = own-side s.served.side s.memory in
    record { host = refl; lanes = refl; controllers = refl; tails = own.tails }

-- so what is due everywhere is not due nowhere
pub due-somewhere : (s : Scene) (e : Event) → IsDue s e → NotDue s e → ⊥
due-somewhere s e is none =
    let w : World = own-world s.served.side s.memory in
    none w (own-beside s) (is w (own-beside s))

pub work-left : (sc : Scope) (s : Scene) (e : Event) → IsWork sc s e → Rests sc s → ⊥
work-left sc s e is rests = due-somewhere s e is.due_now (rests e is.own)

-- ---- events in a row

-- nothing was done
pub leads_none : (sc : Scope) (old new : Scene) → new ≡ old → Leads sc 0 old new
leads_none sc = none-by Scene (IsOneMade sc)

-- one event was made
pub leads_one : (sc : Scope) (e : Event) (old new : Scene) (r : Reply) → IsWork sc old e → IsMade e old r new → Leads sc 1 old new
leads_one sc e old new r is made = one-by Scene (IsOneMade sc) e old new (record { work = is; reply = r; made = made })

-- and more after these
pub leads_more : (sc : Scope) (m n : ℕ) (a b c : Scene) → Leads sc m a b → Leads sc n b c → Leads sc (m + n) a c
leads_more sc = more-by Scene (IsOneMade sc)

-- none lead nowhere
pub leads_zero : (sc : Scope) (a b : Scene) (count : ℕ) → Leads sc count a b → count ≡ 0 → b ≡ a
leads_zero sc a b count = zero-by Scene (IsOneMade sc) count a b

-- a command was given up after some
pub leads_up : (sc : Scope) (m n : ℕ) (a b c : Scene) → Leads sc m a b → LeadsUp sc n b c → LeadsUp sc (m + n) a c
leads_up sc = up-by Scene (IsOneMade sc) (GivesUp sc)

pub leads_give : (guest lane tag : ℕ) (a b : Scene) (r : Reply) → MayGiveUp guest a lane tag → IsMade (event.GiveUp lane tag) a r b
    → LeadsUp (scope.Guest guest) 1 a b
leads_give guest lane tag a b r may made =
    give-by Scene (IsOneMade (scope.Guest guest)) (GivesUp (scope.Guest guest)) a b
    (record { lane = lane; tag = tag; own = may.own; waits = may.waits; reply = r; made = made })

-- ---- what stays

pub made-next : (e : Event) (a : Scene) (r : Reply) (b : Scene) → IsMade e a r b → IsNext e a.served a.memory r b.served b.memory
made-next (event.Reap lane) a r b made = made.next
made-next e a r b made = made.next

-- which lanes were closed, and the guests' shares
pub record StaysSo (a b : Served) : Type 0 where
  pub closed : b.closed ≡ a.closed
  pub spare : b.spare ≡ a.spare

stays-next : (e : Event) (a : Scene) (r : Reply) (b : Scene) (z : Served) → IsMade e a r b → StaysSo b.served z → StaysSo a.served z
stays-next e a r b z made then =
    let next = made-next e a r b made in
    record { closed = then.closed ∙ next.closed; spare = then.spare ∙ next.spare }

leads-stays : (sc : Scope) (es : List Event) (a b : Scene) → AreMadeBy Scene (IsOneMade sc) es a b → StaysSo a.served b.served
unfolding AreMadeBy
leads-stays sc [] a b made = record { closed = ap (λ (x : Scene). x.served.closed) made; spare = ap (λ (x : Scene). x.served.spare) made }
leads-stays sc (e ∷ es) a b made = stays-next e a made.1.reply made.0 b.served made.1.made (leads-stays sc es made.0 b made.2)

pub ended-stays : (sc : Scope) (most done : ℕ) (enough : Type 0) (y : Why) (a b : Scene) → HasEnded sc most done enough y a b
    → StaysSo a.served b.served
ended-stays sc most done enough why.Enough a b ended = leads-stays sc ended.0.events a b ended.0.made
ended-stays sc most done enough why.Starved a b ended = leads-stays sc ended.0.events a b ended.0.made
ended-stays sc most done enough why.GaveUp a b ended =
    let up = ended.0 in
    let before = leads-stays sc up.leads.events a up.before up.leads.made in
    let next = made-next (event.GiveUp up.last.lane up.last.tag) up.before up.last.reply b up.last.made in
    record { closed = next.closed ∙ before.closed; spare = next.spare ∙ before.spare }
ended-stays sc most done enough (why.Stray lane) a b ended = leads-stays sc ended.0.events a b ended.0.made

-- ---- how a call ends

-- within what was asked for
pub ended-few : (sc : Scope) (most done : ℕ) (enough : Type 0) (y : Why) (a b : Scene) → HasEnded sc most done enough y a b → done ≤ most
ended-few sc most done enough why.Enough a b ended = ended.1
ended-few sc most done enough why.Starved a b ended = (let few = ended.1 in omega (arith, few))
ended-few sc most done enough why.GaveUp a b ended = ended.1
ended-few sc most done enough (why.Stray lane) a b ended = (let few = ended.1 in omega (arith, few))

-- after some events
pub ended-after : (sc : Scope) (most done more : ℕ) (enough rest : Type 0) (y : Why) (a b c : Scene) → Leads sc done a b → done ≤ most
    → HasEnded sc (most - done) more rest y b c → (y ≡ why.Enough → rest → enough) → HasEnded sc most (done + more) enough y a c
ended-after sc most done more enough rest why.Enough a b c leads within ended so =
    (leads_more sc done more a b c leads ended.0, (let few = ended.1 in omega (arith, few, within)), so refl ended.2)
ended-after sc most done more enough rest why.Starved a b c leads within ended so =
    (leads_more sc done more a b c leads ended.0, (let few = ended.1 in omega (arith, few, within)), ended.2)
ended-after sc most done more enough rest why.GaveUp a b c leads within ended so =
    (leads_up sc done more a b c leads ended.0, (let few = ended.1 in omega (arith, few, within)))
ended-after sc most done more enough rest (why.Stray lane) a b c leads within ended so =
    (leads_more sc done more a b c leads ended.0, (let few = ended.1 in omega (arith, few, within)), ended.2)

-- with other words for what was enough
pub ended-so : (sc : Scope) (most done : ℕ) (enough rest : Type 0) (y : Why) (a b : Scene) → HasEnded sc most done rest y a b → (rest → enough)
    → HasEnded sc most done enough y a b
ended-so sc most done enough rest why.Enough a b ended so = (ended.0, ended.1, so ended.2)
ended-so sc most done enough rest why.Starved a b ended so = ended
ended-so sc most done enough rest why.GaveUp a b ended so = ended
ended-so sc most done enough rest (why.Stray lane) a b ended so = ended

-- with enough
pub ended-enough : (sc : Scope) (most done : ℕ) (rest : Type 0) (y : Why) (a b : Scene) → HasEnded sc most done rest y a b → y ≡ why.Enough
    → Leads sc done a b × (done ≤ most) × rest
ended-enough sc most done rest y a b ended is = subst (λ (x : Why). HasEnded sc most done rest x a b) is ended

-- within more
pub ended-within : (sc : Scope) (few most done : ℕ) (rest : Type 0) (y : Why) (a b : Scene) → HasEnded sc few done rest y a b → few ≤ most
    → HasEnded sc most done rest y a b
ended-within sc few most done rest why.Enough a b ended more = (ended.0, (let below = ended.1 in omega (arith, below, more)), ended.2)
ended-within sc few most done rest why.Starved a b ended more = (ended.0, (let below = ended.1 in omega (arith, below, more)), ended.2)
ended-within sc few most done rest why.GaveUp a b ended more = (ended.0, (let below = ended.1 in omega (arith, below, more)))
ended-within sc few most done rest (why.Stray lane) a b ended more = (ended.0, (let below = ended.1 in omega (arith, below, more)), ended.2)

-- ---- a guest's or a lane's events are events of all

own-all : (sc : Scope) (e : Event) (a b : Scene) → IsOneMade sc e a b → IsOneMade scope.All e a b
own-all sc e a b is = record { work = record { own = tt; due_now = is.work.due_now }; reply = is.reply; made = is.made }

leads-all : (sc : Scope) (count : ℕ) (a b : Scene) → Leads sc count a b → Leads scope.All count a b
leads-all sc = leads-so Scene (IsOneMade sc) (IsOneMade scope.All) (own-all sc)

up-all : (sc : Scope) (count : ℕ) (a b : Scene) → LeadsUp sc count a b → LeadsUp scope.All count a b
up-all sc count a b up =
    let last = up.last in
    record {
      less = up.less;
      before = up.before;
      leads = leads-all sc up.less a up.before up.leads;
      counted = up.counted;
      last = record { lane = last.lane; tag = last.tag; own = tt; waits = last.waits; reply = last.reply; made = last.made };
    }

wanting-all : (sc : Scope) (s : Scene) → IsWanting sc s → IsWanting scope.All s
wanting-all sc s is = record { event = is.event; work = record { own = tt; due_now = is.work.due_now }; wants = is.wants }

pub ended-all : (sc : Scope) (most done : ℕ) (enough : Type 0) (y : Why) (a b : Scene) → HasEnded sc most done enough y a b
    → HasEnded scope.All most done enough y a b
ended-all sc most done enough why.Enough a b ended = (leads-all sc done a b ended.0, ended.1, ended.2)
ended-all sc most done enough why.Starved a b ended = (leads-all sc done a b ended.0, ended.1, wanting-all sc b ended.2)
ended-all sc most done enough why.GaveUp a b ended = (up-all sc done a b ended.0, ended.1)
ended-all sc most done enough (why.Stray lane) a b ended =
    (leads-all sc done a b ended.0, ended.1, record { own = tt; stray = ended.2.stray; unreached = ended.2.unreached })
