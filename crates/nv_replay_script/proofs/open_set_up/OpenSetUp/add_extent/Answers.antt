use Rattle.std.proofs.Common.{◌≡◌, ℕ, length, vec_len, rules, sym, ap, ◌∙◌, refl}
use Rattle.nv_replay_script.specs.ReplaySetUp.{known_guest, set_up_so_far}
use Rattle.nv_replay_script.proofs.SetUpLemmas.{add_extent-by}
use Rattle.nv_replay_script.proofs.open_set_up.OpenSetUp.add_extent.Goals as goal

pub returns : goal.returns
returns c =
    let guests = c.args.self.now.guests in
    let count : vec_len guests ≡ length guests.items = search rules in
    add_extent-by (set_up_so_far c.args.self.now) c.args.number c.args.base c.args.blocks c.in_ok-number.number guests.items c.index_mut.result.now _
    c.add_extent.result refl
    (ap (λ (n : ℕ). known_guest n c.args.number) (sym (c.len.ensures ∙ count)) ∙ sym c.known.ensures ∙ c.in_ok-number.was)
    c.index_mut.ensures.value
    c.add_extent.ensures
