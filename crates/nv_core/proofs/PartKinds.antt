-- Each part of a plan is of the plan's kind.
use Rattle.std.proofs.Common.{◌≡◌, ℕ, List, [], refl}
use Rattle.std.specs.List.{All, Contains, enumerate_from}
use Rattle.std.proofs.lemmas.List.Elements.{All-cons, All-contains_itself, All-map, All-nil, All-weaker}
use Rattle.nv_entry.specs.Submission.{slba_of}
use Rattle.nv_model.specs.Judge.{Clear, Form, Keep, Manage, Transfer, Work, count_of, form_of}
use Rattle.nv_ns.specs.Extents.{Namespace, cuts, placed}
use Rattle.nv_plan.specs.Outline.{kind_of}
use Rattle.nv_world_model.specs.Plan.{Answer, Bounced, Direct, NoData, Plan}
use Rattle.nv_world_model.specs.Share.{Share, block_share, range_share, shares_by, shares_of, whole_share, with_work}

abbrev IsOfKind : Plan → Share → Type 0
IsOfKind plan share = kind_of share.plan ≡ kind_of plan

same-kind : (plan : Plan) (work : Work) → kind_of (with_work plan work) ≡ kind_of plan
same-kind (Answer st) work = refl
same-kind (NoData whole) work = refl
same-kind (Direct whole) work = refl
same-kind (Bounced whole) work = refl

each : {X : Type 0} (xs : List X) (plan : Plan) (f : X → Share) → ((x : X) → IsOfKind plan (f x)) → All (λ x. IsOfKind plan (f x)) xs
each xs plan f one = All-weaker (Contains xs) (λ x. IsOfKind plan (f x)) (λ x among. one x) xs (All-contains_itself xs)

by-form : (form : Form) (ns : Namespace) (entry : List ℕ) (plan : Plan) (work : Work) → All (IsOfKind plan) (shares_by form ns entry plan work)
by-form (Transfer dest) ns entry plan work =
    All-map (IsOfKind plan) (block_share plan work) (cuts ns (slba_of entry) (count_of entry))
    (each (cuts ns (slba_of entry) (count_of entry)) plan (block_share plan work) (λ cut. same-kind plan _))
by-form Clear ns entry plan work =
    All-map (IsOfKind plan) (block_share plan work) (cuts ns (slba_of entry) (count_of entry))
    (each (cuts ns (slba_of entry) (count_of entry)) plan (block_share plan work) (λ cut. same-kind plan _))
by-form Manage ns entry plan work =
    All-map (IsOfKind plan) (λ p. range_share plan work p.0 p.1) (enumerate_from 0 (placed 0 ns))
    (each (enumerate_from 0 (placed 0 ns)) plan (λ p. range_share plan work p.0 p.1) (λ p. same-kind plan _))
by-form Keep ns entry plan work = All-cons (IsOfKind plan) (whole_share plan work) [] refl (All-nil (IsOfKind plan))

pub shares-kind : (ns : Namespace) (entry : List ℕ) (plan : Plan) → All (λ (share : Share). kind_of share.plan ≡ kind_of plan) (shares_of ns entry plan)
shares-kind ns entry (Answer st) = All-nil (IsOfKind (Answer st))
shares-kind ns entry (NoData work) = by-form (form_of work.opcode) ns entry (NoData work) work
shares-kind ns entry (Direct work) = by-form (form_of work.opcode) ns entry (Direct work) work
shares-kind ns entry (Bounced work) = by-form (form_of work.opcode) ns entry (Bounced work) work
