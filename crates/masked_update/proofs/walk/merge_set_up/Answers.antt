use Rattle.cull_base.specs.Span.{has_tile}
use Rattle.masked_update.proofs.Walks.{merged_where_stays}
use Rattle.masked_update.proofs.walk.merge_set_up.Goals as goal

pub returns-then-not-is_wanted : goal.returns-then-not-is_wanted
returns-then-not-is_wanted c =
    merged_where_stays (has_tile c.args.span) c.args.reached.now.size c.args.tri.now c.args.canvas.now c.window-window.ensures.whole (c.is_wanted.ensures c.if-not-is_wanted.true)
