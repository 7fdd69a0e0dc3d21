use Rattle.std.proofs.Common.{rules, ℕ, Bool, List, ◌≡◌, ◌+◌, ◌≤◌, All, length, subst, sym, ap, ◌∙◌, arith}
use Rattle.std.specs.Vec.{vec_len, with_items}
use Rattle.std.proofs.lemmas.List.{with_items_is}
use Rattle.nv_disk.proofs.Ranged.{ranged}
use Rattle.nv_disk.specs.Since.{is_kept, marks_of}
use Rattle.nv_disk.proofs.MarkLemmas.{length-marks}
use Rattle.nv_disk.proofs.RangeLemmas.{All-ranged, map-ranged, ranged-is}
use Rattle.nv_disk.proofs.marks.Marks.set_range.Goals as goal

pub put_range-requires : goal.put_range-requires
put_range-requires c =
    let same = length-marks c.self.inside.flushes c.self.inside.since.items in
    let seen = ap (λ (ms : List Bool). length ms) c.self.view_is in
    let lent = ap (λ (ks : List ℕ). length ks) c.deref_mut.ensures.value in
    let within = c.requires in
    omega arith

pub invariant_of-self : goal.invariant_of-self
invariant_of-self c =
    let size : vec_len c.self.inside.since ≡ length c.self.inside.since.items = search rules in
    let lent : length c.deref_mut.result.now ≡ length c.self.inside.since.items = ap (λ (ks : List ℕ). length ks) c.deref_mut.ensures.value in
    let items : (with_items c.self.inside.since c.put_range.new.since).items ≡ c.put_range.new.since =
    with_items_is c.self.inside.since c.put_range.new.since (c.put_range.ensures.size ∙ lent ∙ sym size) in
    let within = c.requires in
    let same = length-marks c.self.inside.flushes c.self.inside.since.items in
    let seen = ap (λ (ms : List Bool). length ms) c.self.view_is in
    let put : c.put_range.new.since ≡ ranged c.deref_mut.result.now c.args.start c.args.count c.first_flush-from.result =
    c.put_range.ensures.put ∙ sym (ranged-is c.deref_mut.result.now c.args.start c.args.count c.first_flush-from.result (omega arith)) in
    let P : ℕ → Type 0 = λ at. at ≤ c.self.inside.flushes + 1 in
    let W : List ℕ → Type 0 = λ ks. All P ks in
    let X : List ℕ → Type 0 = λ ks. All P (ranged ks c.args.start c.args.count c.first_flush-from.result) in
    record {
      soon = subst W (sym (items ∙ put))
          (subst X (sym c.deref_mut.ensures.value)
          (All-ranged P c.self.inside.since.items c.args.start c.args.count c.first_flush-from.result c.self.invariant.soon c.first_flush-from.ensures.soon));
      few = c.self.invariant.few;
    }

pub returns : goal.returns
unfolding marks_of
returns c =
    let within = c.requires in
    let size : vec_len c.self.inside.since ≡ length c.self.inside.since.items = search rules in
    let lent : length c.deref_mut.result.now ≡ length c.self.inside.since.items = ap (λ (ks : List ℕ). length ks) c.deref_mut.ensures.value in
    let items : (with_items c.self.inside.since c.put_range.new.since).items ≡ c.put_range.new.since =
    with_items_is c.self.inside.since c.put_range.new.since (c.put_range.ensures.size ∙ lent ∙ sym size) in
    let same = length-marks c.self.inside.flushes c.self.inside.since.items in
    let seen = ap (λ (ms : List Bool). length ms) c.self.view_is in
    let put : c.put_range.new.since ≡ ranged c.deref_mut.result.now c.args.start c.args.count c.first_flush-from.result =
    c.put_range.ensures.put ∙ sym (ranged-is c.deref_mut.result.now c.args.start c.args.count c.first_flush-from.result (omega arith)) in
    let kept : ℕ → Bool = is_kept c.self.inside.flushes in
    ap (marks_of c.self.inside.flushes) (items ∙ put
    ∙ ap (λ (ks : List ℕ). ranged ks c.args.start c.args.count c.first_flush-from.result) c.deref_mut.ensures.value)
    ∙ map-ranged kept c.self.inside.since.items c.args.start c.args.count c.first_flush-from.result
    ∙ ap (λ (ms : List Bool). ranged ms c.args.start c.args.count (kept c.first_flush-from.result)) c.self.view_is
    ∙ ap (λ (m : Bool). ranged c.args.self.now c.args.start c.args.count m) c.first_flush-from.ensures.mark
    ∙ ranged-is c.args.self.now c.args.start c.args.count c.args.mark within
