use Rattle.std.proofs.Common.{◌≡◌, ℕ, length, vec_len, rules, List, refl, sym, ap, ◌∙◌}
use Rattle.nv_mem.specs.declared.region.Region.{Region}
use Rattle.nv_replay_script.specs.ReplaySetUp.{GuestValue, known_guest, set_up_so_far}
use Rattle.nv_replay_script.proofs.SetUpLemmas.{add_map-read}
use Rattle.nv_replay_script.proofs.open_set_up.OpenSetUp.add_map.Goals as goal

pub returns : goal.returns
returns c =
    let guest = c.index_mut.result.now in
    let count : vec_len c.args.self.now.guests ≡ length c.args.self.now.guests.items = search rules in
    let value : List Region → GuestValue = λ regions. record { extents = guest.extents.items; heap = guest.heap; limit = guest.limit; regions = regions } in
    add_map-read (set_up_so_far c.args.self.now) c.args.number c.args.guest c.args.host c.args.len c.in_ok-number.number c.in_ok-region.region
    c.args.self.now.guests.items guest _ refl
    (ap (λ (n : ℕ). known_guest n c.args.number) (sym (c.len.ensures ∙ count)) ∙ sym c.known.ensures ∙ c.in_ok-number.was)
    (sym c.make_region.ensures ∙ c.in_ok-region.was)
    c.index_mut.ensures.value
    (ap value c.in_ok-push.ensures.items)
