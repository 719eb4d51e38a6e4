use Rattle.plain_turns.proofs.plain_tasks.made.Goals as goal

pub returns-in-Some-clause-made : goal.returns-in-Some-clause-made
returns-in-Some-clause-made g c = record {
  frame_is = c.requires.frame_is;
  queues_are = c.requires.queues_are;
  at = c.requires.at.made c.in-Some.canvas c.in-Some.is;
}
