use Rattle.std.proofs.Common.{rules, ◌≡◌, ◌<◌, ◌++◌, ◌∷◌, [], ap, sym, subst, ◌∙◌, take, true, length, arith}
use Rattle.nv_ns.specs.BlockRange.{Extent as OneRange}
use Rattle.nv_ns.specs.Extents.{Namespace, is_namespace}
use Rattle.nv_mediator.proofs.Namespaces.{EndsBelow, namespace-behind, namespace-more}
use Rattle.nv_mediator.proofs.opening.namespace_of.Goals as goal

pub extent_of-requires-in-loop-extent : goal.extent_of-requires-in-loop-extent
extent_of-requires-in-loop-extent c =
    let all : c.args.extents.now ≡ c.in-Some.first.now ∷ c.in-Some.rest.now = search rules in
    let kept : is_namespace (c.in-Some.first.now ∷ c.in-Some.rest.now) ≡ true = ap is_namespace (sym all) ∙ c.requires in
    let below : c.loop-extent.extent-index < length c.in-Some.rest.now = omega arith in
    subst EndsBelow (sym c.extent-item.is)
    (namespace-behind c.in-Some.first.now c.in-Some.rest.now c.loop-extent.extent-index c.extent-item.result below kept)

pub push-requires : goal.push-requires
push-requires c =
    let all : c.args.extents.now ≡ c.in-Some.first.now ∷ c.in-Some.rest.now = search rules in
    let kept : is_namespace (c.in-Some.first.now ∷ c.in-Some.rest.now) ≡ true = ap is_namespace (sym all) ∙ c.requires in
    let below : c.loop-extent.extent-index < length c.in-Some.rest.now = omega arith in
    let before : c.loop-extent.ns ≡ c.in-Some.first.now ∷ take c.loop-extent.extent-index c.in-Some.rest.now =
    c.loop-extent.invariant ∙ ap (λ (es : Namespace). es ++ take c.loop-extent.extent-index c.in-Some.rest.now) (c.of-ns.ensures ∙ ap (λ (e : OneRange). e ∷ []) c.extent_of.ensures) in
    ap (λ (es : Namespace). is_namespace (es ++ c.extent_of-in-loop-extent.result ∷ [])) before
    ∙ ap (λ (e : OneRange). is_namespace ((c.in-Some.first.now ∷ take c.loop-extent.extent-index c.in-Some.rest.now) ++ e ∷ []))
    (c.extent_of-in-loop-extent.ensures ∙ c.extent-item.is)
    ∙ namespace-more c.in-Some.first.now c.in-Some.rest.now c.loop-extent.extent-index c.extent-item.result below kept
