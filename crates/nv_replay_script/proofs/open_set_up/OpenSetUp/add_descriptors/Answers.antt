use Rattle.std.proofs.Common.{◌≡◌, ℕ, length, vec_len, rules, sym, ap, ◌∙◌, refl}
use Rattle.nv_replay_script.specs.ReplaySetUp.{known_guest, set_up_so_far}
use Rattle.nv_replay_script.proofs.SetUpLemmas.{add_descriptors-read}
use Rattle.nv_replay_script.proofs.open_set_up.OpenSetUp.add_descriptors.Goals as goal

pub returns : goal.returns
returns c =
    let guests = c.args.self.now.guests in
    let guest = c.index_mut-guest.result.now in
    let count : vec_len guests ≡ length guests.items = search rules in
    add_descriptors-read (set_up_so_far c.args.self.now) c.args.number c.args.limit c.in_ok-number.number c.in_ok-limit.limit guests.items guest _ refl
    (ap (λ (n : ℕ). known_guest n c.args.number) (sym (c.len.ensures ∙ count)) ∙ sym c.known.ensures ∙ c.in_ok-number.was)
    c.index_mut-guest.ensures.value
    (sym c.first_limit.ensures ∙ c.in_ok-limit.was)
    refl
