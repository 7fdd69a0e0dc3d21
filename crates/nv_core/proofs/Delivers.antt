-- What the parts of a command that has ended deliver.
use Rattle.std.proofs.Common.{◌≡◌, ℕ, Bool, true, false, ◌&&◌, cond, List, [], ◌∷◌, ◌++◌, All, filter, length, slice_get, Option, Some, None}
use Rattle.std.proofs.Common.{arith, refl, sym, ap, ◌∙◌, subst}
use Rattle.std.proofs.lemmas.Bool.Decides.{nat_tests}
use Rattle.std.proofs.lemmas.List.Elements.{All-cons, All-filter, All-head, All-nil, All-tail}
use Rattle.nv_core.specs.Ending.{AreParts, AreReadParts, IsBouncedRead, IsEnded, IsPart, IsReadPart, MayDeliver}
use Rattle.nv_core.specs.Ending.{delivered_host, delivers, is_bounced, is_read_of, part_delivered, tag_delivered, tags_delivered}
use Rattle.nv_core.proofs.PartKinds.{shares-kind}
use Rattle.nv_entry.specs.Opcode.{io_opcode}
use Rattle.nv_entry.specs.Status.{StatusField}
use Rattle.nv_entry.specs.Submission.{opcode_of}
use Rattle.nv_laws_sound.proofs.Lists.{some-same}
use Rattle.nv_laws_sound.proofs.Numbers.{all-at}
use Rattle.nv_mem.specs.Bytes.{InMemory}
use Rattle.nv_mem.specs.GuestMap.{mapped, span_met}
use Rattle.nv_mem.specs.Places.{Place, piece_len, places_of, places_of_piece, total_len}
use Rattle.nv_mem.specs.declared.piece.Piece.{Piece}
use Rattle.nv_mem.specs.declared.region.Region.{Region}
use Rattle.nv_mem.proofs.PlaceLists.{length-places_of, length-places_of_piece}
use Rattle.nv_model.specs.Judge.{Clear, Form, Keep, Manage, Transfer, Work, form_is_read, form_of}
use Rattle.nv_model.specs.Laws.{IsMappedPiece}
use Rattle.nv_model.specs.Memory.{bytes_from, image, put_image, scattered}
use Rattle.nv_plan.specs.Made.{MadePlan, plan_made, share_made, shares_made}
use Rattle.nv_plan.specs.Outline.{kind_of}
use Rattle.nv_plan.specs.Parts.{form_places, has_bytes, places_in}
use Rattle.nv_plan.specs.declared.kind.PlanKind.{PlanKind}
use Rattle.nv_world_model.specs.Area.{bounce_page}
use Rattle.nv_world_model.specs.Plan.{Answer, Bounced, Direct, NoData, Plan}
use Rattle.nv_world_model.specs.Share.{Share}
use Rattle.nv_world_model.specs.Step.{is_success}
use Rattle.nv_world_model.specs.World.{Ended, Lane, Tag, group_in}

-- ---- places

empty : (xs : List Place) → length xs ≡ 0 → xs ≡ []
empty [] none = refl
empty (x ∷ xs) none = absurd (omega (arith, none))

-- a piece without bytes names no place
no-places : (p : Piece) → has_bytes p ≡ false → places_of_piece p ≡ []
no-places p none =
    let no_bytes : piece_len p ≡ 0 = grind (arith, nat_tests) in
    empty (places_of_piece p) (length-places_of_piece p ∙ no_bytes)

-- so it may be left out
some-places : (ps : List Piece) → places_of (filter has_bytes ps) ≡ places_of ps
some-places [] = refl
some-places (p ∷ ps) =
    (elim (has_bytes p) as (λ b. has_bytes p ≡ b → places_of (cond b (p ∷ filter has_bytes ps) (filter has_bytes ps)) ≡ places_of_piece p ++ places_of ps) [
      | true ↦ λ is. ap (λ (places : List Place). places_of_piece p ++ places) (some-places ps)
      | false ↦ λ is. some-places ps ∙ ap (λ (places : List Place). places ++ places_of ps) (sym (no-places p is))
    ]) refl

some-total : (ps : List Piece) → total_len (filter has_bytes ps) ≡ total_len ps
some-total ps = sym (length-places_of (filter has_bytes ps)) ∙ ap length (some-places ps) ∙ length-places_of ps

form-places : (form : Form) (work : Work) → form_is_read form ≡ true → form_places form work ≡ filter has_bytes work.pieces
form-places (Transfer dest) work e = refl
form-places Clear work e = cc
form-places Manage work e = cc
form-places Keep work e = cc

-- ---- a part of a bounced Read

module _ (plan : Plan) (slot host_bytes : ℕ) (regions : List Region) (read : IsBouncedRead plan slot host_bytes regions) where
  its-places : places_in plan ≡ filter has_bytes read.work.pieces
  its-places = ap places_in read.is ∙ form-places (form_of read.work.opcode) read.work read.reads

  its-total : total_len (places_in plan) ≡ total_len read.work.pieces
  its-total = ap total_len its-places ∙ some-total read.work.pieces

  pub part-mapped : All (IsMappedPiece (mapped regions)) (places_in plan)
  part-mapped =
      subst (All (IsMappedPiece (mapped regions))) (sym its-places)
      (All-filter has_bytes (IsMappedPiece (mapped regions)) read.work.pieces read.may.mapped_each)

  pub part-inside : InMemory host_bytes slot (total_len (places_in plan))
  part-inside = subst (InMemory host_bytes slot) (sym its-total) read.may.inside

  pub part-apart : span_met regions slot (total_len (places_in plan)) ≡ false
  part-apart = ap (span_met regions slot) its-total ∙ read.may.apart

  -- what its places get is what it delivers
  pub part-bytes : (host : ℕ → ℕ)
      → put_image regions (scattered (image regions host) (places_of (places_in plan)) (bytes_from host slot (total_len (places_in plan)))) host
      ≡ part_delivered plan slot regions host
  part-bytes host =
      let work = read.work in
      let same : places_of (places_in plan) ≡ places_of work.pieces = ap places_of its-places ∙ some-places work.pieces in
      ap (λ (places : List Place). put_image regions (scattered (image regions host) places (bytes_from host slot (total_len (places_in plan)))) host) same
      ∙ ap (λ (n : ℕ). put_image regions (scattered (image regions host) (places_of work.pieces) (bytes_from host slot n)) host) its-total
      ∙ ap (λ (b : Bool). cond b (put_image regions (scattered (image regions host) (places_of work.pieces) (bytes_from host slot (total_len work.pieces))) host) host)
      (sym read.reads)
      ∙ ap (λ (p : Plan). part_delivered p slot regions host) (sym read.is)

-- ---- a part of any command

module _ (entry : List ℕ) (slot host_bytes : ℕ) (regions : List Region) where
  read-of : (plan : Plan) → MayDeliver plan entry slot host_bytes regions → (is_bounced (kind_of plan) && is_read_of (io_opcode (opcode_of entry))) ≡ true
      → IsBouncedRead plan slot host_bytes regions
  read-of (Answer st) may e = cc
  read-of (NoData work) may e = cc
  read-of (Direct work) may e = cc
  read-of (Bounced work) may e = record { work = work; is = refl; reads = ap is_read_of (sym may.0) ∙ e; may = may.1 }

  other-of : (plan : Plan) (host : ℕ → ℕ) → MayDeliver plan entry slot host_bytes regions → (is_bounced (kind_of plan) && is_read_of (io_opcode (opcode_of entry))) ≡ false
      → part_delivered plan slot regions host ≡ host
  other-of (Answer st) host may e = refl
  other-of (NoData work) host may e = refl
  other-of (Direct work) host may e = refl
  other-of (Bounced work) host may e =
      ap (λ (b : Bool). cond b (put_image regions (scattered (image regions host) (places_of work.pieces) (bytes_from host slot (total_len work.pieces))) host) host)
      (ap is_read_of (sym may.0) ∙ e)

-- ---- the parts of a command

-- the test of its first part
abbrev reads_bounced : PlanKind → (entry : List ℕ) → Bool
reads_bounced plan_kind entry = is_bounced plan_kind && is_read_of (io_opcode (opcode_of entry))

module _ (plan_kind : PlanKind) (entry : List ℕ) (mediator lane : ℕ) (l : Lane) (host_bytes : ℕ) (regions : List Region) where
  abbrev IsPartAt : ℕ → Type 0
  IsPartAt t = IsPart plan_kind entry (bounce_page mediator lane t) host_bytes regions (slice_get l.tags t)

  abbrev IsReadAt : ℕ → Type 0
  IsReadAt t = IsReadPart (bounce_page mediator lane t) host_bytes regions (slice_get l.tags t)

  kind-of-part : (share : Share) → kind_of share.plan ≡ plan_kind → (v : Bool) → reads_bounced plan_kind entry ≡ v → reads_bounced (kind_of share.plan) entry ≡ v
  kind-of-part share same v e = ap (λ (k : PlanKind). reads_bounced k entry) same ∙ e

  all-read : (tags : List ℕ) → reads_bounced plan_kind entry ≡ true → All IsPartAt tags → All IsReadAt tags
  all-read [] e parts = All-nil IsReadAt
  all-read (t ∷ tags) e parts =
      let p = All-head IsPartAt t tags parts in
      All-cons IsReadAt t tags
      (record {
        command = p.command;
        status = p.status;
        share = p.share;
        is = p.is;
        read = read-of entry (bounce_page mediator lane t) host_bytes regions p.share.plan p.may (kind-of-part p.share p.same true e);
      }) (all-read tags e (All-tail IsPartAt t tags parts))

  none-read : (tags : List ℕ) (host : ℕ → ℕ) → reads_bounced plan_kind entry ≡ false → All IsPartAt tags → tags_delivered mediator lane tags l regions host ≡ host
  none-read [] host e parts = refl
  none-read (t ∷ tags) host e parts =
      let p = All-head IsPartAt t tags parts in
      let slot = bounce_page mediator lane t in
      ap (λ (h : ℕ → ℕ). tags_delivered mediator lane tags l regions h)
      (ap (λ (o : Option Tag). tag_delivered o slot regions host) p.is
      ∙ other-of entry slot host_bytes regions p.share.plan host p.may (kind-of-part p.share p.same false e))
      ∙ none-read tags host e (All-tail IsPartAt t tags parts)

-- ---- a command

third : (a b c : Bool) → (a && b && c) ≡ true → c ≡ true
third true true true e = refl
third true true false e = cc
third true false c e = cc
third false b c e = cc

first-two : (a b c : Bool) → (a && b && c) ≡ true → (a && b) ≡ true
first-two true true c e = refl
first-two true false c e = cc
first-two false b c e = cc

not-first-two : (a b c : Bool) → c ≡ true → (a && b && c) ≡ false → (a && b) ≡ false
not-first-two true true true last e = cc
not-first-two true true false last e = cc
not-first-two true false c last e = refl
not-first-two false b c last e = refl

pub succeeded : (k : PlanKind) (bytes : List ℕ) (st : StatusField) (r : Bool) → r ≡ delivers k bytes st → r ≡ true → is_success st ≡ true
succeeded k bytes st r told e = third (is_bounced k) (is_read_of (io_opcode (opcode_of bytes))) (is_success st) (sym told ∙ e)

module _ (st : StatusField) (mediator lane tag : ℕ) (l : Lane) (host_bytes : ℕ) (regions : List Region) where
  -- nothing is delivered of a command that failed
  failed : (tags : List ℕ) (host : ℕ → ℕ) → is_success st ≡ false → host ≡ delivered_host st mediator lane tags l regions host
  failed tags host e = ap (λ (b : Bool). cond b (tags_delivered mediator lane tags l regions host) host) (sym e)

  goes : (tags : List ℕ) (host : ℕ → ℕ) → is_success st ≡ true → tags_delivered mediator lane tags l regions host ≡ delivered_host st mediator lane tags l regions host
  goes tags host e = ap (λ (b : Bool). cond b (tags_delivered mediator lane tags l regions host) host) (sym e)

  unless-failed : (host : ℕ → ℕ) → (is_success st ≡ true → host ≡ delivered_host st mediator lane (group_in (Some l) tag) l regions host)
      → host ≡ delivered_host st mediator lane (group_in (Some l) tag) l regions host
  unless-failed host went = by (is_success st) refl
    where
      by : (b : Bool) → is_success st ≡ b → host ≡ delivered_host st mediator lane (group_in (Some l) tag) l regions host
      by true e = went e
      by false e = failed (group_in (Some l) tag) host e

  -- the first part
  pub first-part : (entry : List ℕ) (are : AreParts entry mediator lane tag l host_bytes regions)
      → IsPart are.plan_kind entry (bounce_page mediator lane tag) host_bytes regions (slice_get l.tags tag)
  first-part entry are = All-head (IsPartAt are.plan_kind entry mediator lane l host_bytes regions) tag are.others are.parts

  module _ (entry : List ℕ) (t : IsEnded (slice_get l.tags tag)) where
    -- nor of one that was not handed on
    pub delivers-none : (host : ℕ → ℕ) → t.share ≡ None → (is_success st ≡ true → AreParts entry mediator lane tag l host_bytes regions)
        → host ≡ delivered_host st mediator lane (group_in (Some l) tag) l regions host
    delivers-none host none parts =
        unless-failed host (λ went.
        (let p = first-part entry (parts went) in
        let both : Ended t.command t.status t.share ≡ Ended p.command p.status (Some p.share) = some-same _ _ (sym t.is ∙ p.is) in
        let here : t.share ≡ Some p.share = cc in
        let bad : None ≡ Some p.share = sym none ∙ here in cc))

    module _ (p : MadePlan) (part : ℕ) (its : t.share ≡ share_made part p) (k : PlanKind) (made : k ≡ kind_of (plan_made p)) (bytes : List ℕ)
        (same : bytes ≡ entry) (r : Bool) (told : r ≡ delivers k bytes st) where
      module _ (are : AreParts entry mediator lane tag l host_bytes regions) where
        first : IsPartAt are.plan_kind entry mediator lane l host_bytes regions tag
        first = first-part entry are

        others : All (IsPartAt are.plan_kind entry mediator lane l host_bytes regions) are.others
        others = All-tail (IsPartAt are.plan_kind entry mediator lane l host_bytes regions) tag are.others are.parts

        first-share : share_made part p ≡ Some first.share
        first-share =
            let both : Ended t.command t.status t.share ≡ Ended first.command first.status (Some first.share) = some-same _ _ (sym t.is ∙ first.is) in
            let here : t.share ≡ Some first.share = cc in
            sym its ∙ here

        kind-is : k ≡ are.plan_kind
        kind-is =
            made
            ∙ sym (all-at (λ (share : Share). kind_of share.plan ≡ kind_of (plan_made p)) (shares_made p) part first.share
            (shares-kind p.given.namespace p.job.sqe (plan_made p)) first-share)
            ∙ first.same

        told-of : delivers are.plan_kind entry st ≡ r
        told-of =
            ap (λ (q : PlanKind). delivers q entry st) (sym kind-is) ∙ ap (λ (e : List ℕ). delivers k e st) (sym same) ∙ sym told

        reads : r ≡ true → reads_bounced are.plan_kind entry ≡ true
        reads e = first-two (is_bounced are.plan_kind) (is_read_of (io_opcode (opcode_of entry))) (is_success st) (told-of ∙ e)

        pub first-read : r ≡ true → (share : Share) → share_made part p ≡ Some share
            → IsBouncedRead share.plan (bounce_page mediator lane tag) host_bytes regions
        first-read e share is =
            subst (λ (s : Share). IsBouncedRead s.plan (bounce_page mediator lane tag) host_bytes regions)
            (some-same first.share share (sym first-share ∙ is))
            (read-of entry (bounce_page mediator lane tag) host_bytes regions first.share.plan first.may
            (kind-of-part are.plan_kind entry mediator lane l host_bytes regions first.share first.same true (reads e)))

        pub others-read : r ≡ true → AreReadParts mediator lane tag l host_bytes regions
        others-read e =
            record {
              others = are.others;
              group = are.group;
              parts = all-read are.plan_kind entry mediator lane l host_bytes regions are.others (reads e) others;
            }

        -- all are delivered
        pub delivers-all : (host one all : ℕ → ℕ) → r ≡ true
            → ((share : Share) → share_made part p ≡ Some share → one ≡ part_delivered share.plan (bounce_page mediator lane tag) regions host)
            → ((tags : List ℕ) → group_in (Some l) tag ≡ tag ∷ tags → all ≡ tags_delivered mediator lane tags l regions one)
            → all ≡ delivered_host st mediator lane (group_in (Some l) tag) l regions host
        delivers-all host one all e here rest =
            let slot = bounce_page mediator lane tag in
            rest are.others are.group
            ∙ ap (λ (h : ℕ → ℕ). tags_delivered mediator lane are.others l regions h)
            (here first.share first-share ∙ ap (λ (o : Option Tag). tag_delivered o slot regions host) (sym first.is))
            ∙ ap (λ (tags : List ℕ). tags_delivered mediator lane tags l regions host) (sym are.group)
            ∙ goes (group_in (Some l) tag) host (succeeded k bytes st r told e)

        -- none is
        delivers-not : (host : ℕ → ℕ) → r ≡ false → is_success st ≡ true → host ≡ delivered_host st mediator lane (group_in (Some l) tag) l regions host
        delivers-not host e went =
            let fails : reads_bounced are.plan_kind entry ≡ false =
            not-first-two (is_bounced are.plan_kind) (is_read_of (io_opcode (opcode_of entry))) (is_success st) went (told-of ∙ e) in
            sym (ap (λ (tags : List ℕ). tags_delivered mediator lane tags l regions host) are.group
            ∙ none-read are.plan_kind entry mediator lane l host_bytes regions (tag ∷ are.others) host fails are.parts)
            ∙ goes (group_in (Some l) tag) host went

      pub delivers-nothing : (host : ℕ → ℕ) → r ≡ false → (is_success st ≡ true → AreParts entry mediator lane tag l host_bytes regions)
          → host ≡ delivered_host st mediator lane (group_in (Some l) tag) l regions host
      delivers-nothing host e parts = unless-failed host (λ went. delivers-not (parts went) host e went)
