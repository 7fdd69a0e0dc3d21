use Rattle.std.proofs.Common.{◌+◌, ◌≤◌, List, ℕ, length, take, vec_len, vec_capacity}
use Rattle.nv_model.specs.declared.reply.Reply.{Reply}
use Rattle.nv_world.specs.Mediated.{AreAnswered, Mediated, mediated}
use Rattle.nv_world_model.specs.declared.event.Event.{Event}
use Rattle.nv_world.proofs.world.World.run_all.Given as goal

-- the events so far are answered, and there is room for the other replies
pub record SoFar (events : List Event) (index : ℕ) (old now : Mediated) (before after : List Reply) (len capacity : ℕ) : Type 0 where
  pub answered : AreAnswered (take index events) old before after now
  pub room : len + length events ≤ capacity + index

abbrev pub invariant-loop-event : goal.invariant-loop-event
invariant-loop-event l =
    SoFar l.events l.event-index (mediated l.fn.self) (mediated l.self) l.fn.replies.items l.replies.items (vec_len l.replies) (vec_capacity l.replies)
