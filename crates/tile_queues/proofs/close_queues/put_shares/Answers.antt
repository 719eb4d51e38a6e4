use Rattle.std.proofs.Common.{length, arith, rules, refl, sym, ◌∙◌, subst}
use Rattle.std.proofs.lemmas.Nat.{mod_below}
use Rattle.binning.specs.Bins.{bin_of}
use Rattle.binning.specs.Cut.{bin_count_of}
use Rattle.tile_cells.proofs.Lists.{turn}
use Rattle.tile_queues.specs.Shares.{IsDrawnAt, IsShare}
use Rattle.tile_queues.specs.declared.share.Share.{Share}
use Rattle.tile_queues.proofs.Ending.{share_back, share_bins}
use Rattle.tile_queues.proofs.close_queues.put_shares.Goals as goal

pub loop-share-init : goal.loop-share-init
loop-share-init g c = (tt, tt, search rules, search rules, refl, λ t d tl below. absurd (omega (arith, below)))

pub put_tasks-requires : goal.put_tasks-requires
put_tasks-requires g c =
    let i = c.loop-share.invariant in
    let x = c.in-Some.share in
    let n = c.loop-share.done in
    let workers = length c.args.shares.items in
    let t = turn c.args.shares.items n x _ (sym i.2 ∙ c.in-Some.ensures.steps.0) in
    let share = subst (λ (s : Share). IsShare (IsDrawnAt c.args._queues.now g.frame) workers (bin_count_of g.frame.cut) n s.tasks.items) (sym t.1) (c.requires.1.1.each n x t.2) in
    (i.4 ∙ c.requires.1.0, share_bins c.args._queues.now g.frame c.requires.0 workers n x.tasks.items share)

pub loop-share-preserved : goal.loop-share-preserved
loop-share-preserved g c =
    let i = c.loop-share.invariant in
    let s = c.in-Some.ensures.steps in
    let x = c.in-Some.share in
    let n = c.loop-share.done in
    let workers = length c.args.shares.items in
    let t = turn c.args.shares.items n x _ (sym i.2 ∙ s.0) in
    let share = subst (λ (s : Share). IsShare (IsDrawnAt c.args._queues.now g.frame) workers (bin_count_of g.frame.cut) n s.tasks.items) (sym t.1) (c.requires.1.1.each n x t.2) in (
      tt,
      tt,
      t.0,
      omega (arith, i.3, s.1),
      c.put_tasks.ensures.whole ∙ i.4,
      share_back c.args._queues.now g.frame c.requires.0 workers n x.tasks.items share c.loop-share.slots c.put_tasks.new.slots c.requires.1.1.some c.put_tasks.ensures.back i.5,
    )

pub returns-clause-back : goal.returns-clause-back
returns-clause-back g c t d tl =
    let i = c.loop-share.invariant in
    let none = c.in-None.ensures.steps.0 in
    let below = mod_below (bin_of g.frame.list.size g.frame.cut t) (length c.args.shares.items) c.requires.1.1.some in
    i.5 t d tl (omega (arith, below, i.3, none))
