use Rattle.steal_pool.proofs.worker.draw_into.Goals as goal

pub returns-clause-joined : goal.returns-clause-joined
returns-clause-joined g c = record {
  task = c.draw_to_end-drawn.result;
  list_is = c.push_reserved.ensures.items;
  bin_is = c.draw_to_end-drawn.ensures.bin;
  whole = c.draw_to_end-drawn.ensures.whole;
}
