use Rattle.nv_examples_host.proofs.works.made.Goals as goal

pub returns-clause-one : goal.returns-clause-one
returns-clause-one c sc e old new o = (o.work, (o.reply, o.made))

pub returns-clause-a_read : goal.returns-clause-a_read
returns-clause-a_read c lane old new r m = (m.next, m.memory)

pub returns-clause-a_read_ends_its_tag : goal.returns-clause-a_read_ends_its_tag
returns-clause-a_read_ends_its_tag c lane old new r m = m.ended

pub returns-clause-a_post : goal.returns-clause-a_post
returns-clause-a_post c lane tag old new r m = m

pub returns-clause-one_given_up : goal.returns-clause-one_given_up
returns-clause-one_given_up c sc old new g = (g.lane, g.tag, g.own, g.waits, (g.reply, g.made))
