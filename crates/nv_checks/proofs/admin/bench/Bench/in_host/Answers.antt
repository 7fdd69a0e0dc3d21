use Rattle.std.proofs.Common.{ℕ, List, length, ap, sym, ◌∙◌}
use Rattle.std.proofs.lemmas.List.{length-replicate}
use Rattle.nv_mem.specs.GuestMap.{Mapping, mapped}
use Rattle.nv_checks.proofs.admin.bench.Bench.in_host.Goals as goal

pub invariant_of-result : goal.invariant_of-result
invariant_of-result c = (
  ap (λ (m : Mapping). m.host_len) c.in_ok-map.ensures.map
      ∙ sym (ap (λ (bytes : List ℕ). length bytes) (c.in_ok-host.ensures.items_if_clones_equal (λ y e. e)) ∙ length-replicate {A = ℕ} c.args.host_len 0),
  c.new-vctl.ensures.in_place (mapped c.in_ok-map.map.regions),
)
